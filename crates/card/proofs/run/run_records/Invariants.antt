-- The laws of the second walk. Assumes nothing.
use Rattle.card.proofs.Laws.SecondWalk.{Running}
use Rattle.card.proofs.run.run_records.Given as goal

abbrev pub invariant-loop : goal.invariant-loop
invariant-loop l = Running l.card l.fn.out l.initial.joined l.count l.out l.joined l.link l.at l.counter
