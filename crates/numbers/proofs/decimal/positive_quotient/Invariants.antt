-- n * 2 ^ e stays what it was, m * 2 ^ 158.
use Rattle.std.proofs.Common.{◌≡◌, ◌*◌, ◌^◌, ◌≤◌, ◌<◌}
use Rattle.numbers.proofs.decimal.positive_quotient.Given as goal

abbrev pub invariant-loop-n : goal.invariant-loop-n
invariant-loop-n l = (l.n * 2 ^ l.e ≡ l.m * 2 ^ 158) × (l.n < l.d * 2 ^ 33) × (l.e ≤ 158)

abbrev pub decreases-loop-n : goal.decreases-loop-n
decreases-loop-n l = l.e
