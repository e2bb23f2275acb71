-- Before each turn the state and the sum are those after the steps so far.
use Rattle.std.proofs.Common.{length}
use Rattle.bench.proofs.Laws.Stepping.{Stepping}
use Rattle.bench.proofs.steps.Given as goal

abbrev pub invariant-loop-option : goal.invariant-loop-option
invariant-loop-option l = Stepping l.numbers l.options l.initial.joined l.joined l.sum (length l.yielded)
