-- `numbers::ranges::is_finite` meets its contract. Assumes nothing.
use lib.Ieee.{neg}
use Rattle.numbers.proofs.Laws.Finite.{finite_between}
use Rattle.numbers.proofs.ranges.is_finite.Goals as goal

pub returns : goal.returns
unfolding neg
returns c = simp (c.both.ensures, c.infinity-top.ensures) (finite_between _)
