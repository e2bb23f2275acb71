-- `bench::steps` meets its contract: the laws of a turn, and the library's on a loop over two slices. Assumes nothing.
use Rattle.std.proofs.Common.{rules, arith, []}
use Rattle.std.proofs.lemmas.List.{length-append}
use Rattle.std.proofs.lemmas.Slice.Zip.{zip_turn, zip_end}
use Rattle.bench.proofs.Laws.Stepping.{begin, next, done, told}
use Rattle.bench.proofs.steps.Goals as goal

pub loop-option-init : goal.loop-option-init
loop-option-init c = begin _ _ _ c.requires

pub loop-option-preserved : goal.loop-option-preserved
loop-option-preserved c =
    let t =
    zip_turn c.args.options.now c.as_chunks.result.0.now c.loop-option.yielded _ _ c.next.new.self _ (search rules) (search rules) c.loop-option.yielded_by (c.in-Some.option, c.in-Some.numbers) c.in-Some.is
    c.next.ensures.steps in
    let s = told c.args.options.now c.args.numbers.now c.as_chunks.ensures.front (rw c.as_chunks.ensures.front_len at t.1) (t.2 0) (t.3 []) in
    next c.loop-option.invariant t.0 (rw (c.of.ensures, s) at c.step-update.ensures) c.add_answer-sum.ensures (length-append c.loop-option.yielded _)

pub returns : goal.returns
returns c =
    let e = zip_end c.args.options.now c.as_chunks.result.0.now c.loop-option.yielded _ _ c.next.new.self _ (search rules) (search rules) c.loop-option.yielded_by c.in-None.is c.next.ensures.steps in
    done c.loop-option.invariant (omega (arith, e, c.as_chunks.ensures.front_len, c.requires))
