-- The laws of the walk. The measure is the number of marks not set. Assumes nothing.
use Rattle.card.proofs.Laws.Marks.{zeros}
use Rattle.card.proofs.Laws.Walk.{Walking}
use Rattle.card.proofs.chain.follow.Given as goal

abbrev pub invariant-loop-link : goal.invariant-loop-link
invariant-loop-link l = Walking l.card l.marks l.link l.count

abbrev pub decreases-loop-link : goal.decreases-loop-link
decreases-loop-link l = zeros l.marks
