-- From the second guess on, n is below the square of one more than the guess.
use Rattle.std.proofs.Common.{◌+◌, ◌*◌, ◌^◌, ◌<◌}
use Rattle.numbers.proofs.root.whole_root.Given as goal

abbrev pub invariant-loop-r : goal.invariant-loop-r
invariant-loop-r l = (l.n < (l.r + 1) * (l.r + 1)) × (l.r < 2 ^ 27)

abbrev pub decreases-loop-r : goal.decreases-loop-r
decreases-loop-r l = l.r
