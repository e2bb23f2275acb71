-- Before each turn the first numbers are written. Assumes nothing.
use Rattle.std.proofs.Common.{◌≡◌, ◌+◌, ◌*◌, ◌++◌, ◌∷◌, length, take, replicate}
use Rattle.card.specs.Text.{Written}
use Rattle.card.specs.Bytes.{le16, words_bytes}
use Rattle.card.specs.Format.{kind_number}
use Rattle.card.proofs.write.record_bytes.Given as goal

abbrev pub invariant-loop-number : goal.invariant-loop-number
invariant-loop-number l =
    Written (replicate 80 0) 0 (kind_number l.fn.encoded.kind ∷ l.fn.encoded.option ∷ le16 l.fn.next ++ words_bytes (take l.number-index l.fn.encoded.numbers)) l.bytes l.at
    × (length l.bytes ≡ 80) × (l.at ≡ 4 + 4 * l.number-index) × (length l.fn.encoded.numbers ≡ 19)
