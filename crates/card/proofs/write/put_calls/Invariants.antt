-- Before each turn the records of the first calls are written. Assumes nothing.
use Rattle.std.proofs.Common.{◌≡◌, reverse, ◌+◌, ◌*◌, length, take}
use Rattle.card.specs.Text.{Written}
use Rattle.card.specs.Writer.{records_of}
use Rattle.card.proofs.write.put_calls.Given as goal

abbrev pub invariant-loop-i : goal.invariant-loop-i
invariant-loop-i l = Written l.fn.out 80 (records_of l.airframe (length l.calls) (reverse (take l.i l.calls))) l.out l.at × (length l.out ≡ length l.fn.out) × (l.at ≡ 80 * l.i + 80)
