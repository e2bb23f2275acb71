-- m * 2 ^ f stays what it was, b * 2 ^ 126.
use Rattle.std.proofs.Common.{◌≡◌, ◌*◌, ◌^◌, ◌≤◌, ◌<◌}
use Rattle.numbers.proofs.root.root_small.Given as goal

abbrev pub invariant-loop-m : goal.invariant-loop-m
invariant-loop-m l = (l.m * 2 ^ l.f ≡ l.b * 2 ^ 126) × (l.m < 2 ^ 24) × (l.f ≤ 126)

abbrev pub decreases-loop-m : goal.decreases-loop-m
decreases-loop-m l = l.f
