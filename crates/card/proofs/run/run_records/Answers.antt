-- `card::run::run_records` meets its contract: the laws of the second walk. Assumes nothing.
use Rattle.std.proofs.Common.{◌≡◌, ◌∙◌, sym, ap, arith, length, Ok}
use Rattle.card.specs.Format.{next_at, record_at, header_of}
use Rattle.card.proofs.Laws.Parts.{next_in, record_in, header_in}
use Rattle.card.proofs.Laws.Lines.{answer_long, end_long}
use Rattle.card.proofs.Laws.Walk.{least, some_known}
use Rattle.card.proofs.Laws.Written.{both}
use Rattle.card.proofs.Laws.SecondWalk.{begin, here, next, done_all}
use Rattle.card.proofs.run.run_records.Goals as goal

pub record_part-header-requires : goal.record_part-header-requires
record_part-header-requires c = omega (arith, least (length c.args.card.now) c.requires.0)

pub unwrap-joined-requires : goal.unwrap-joined-requires
unwrap-joined-requires c =
    let card = c.args.card.now in
    rw (c.header_of.ensures ∙ ap header_of c.record_part-header.ensures ∙ header_in card) c.requires.1

pub loop-init : goal.loop-init
loop-init c =
    let card = c.args.card.now in
    let pre = c.requires in
    let e : c.next_of-link.result ≡ next_at card 0 = c.next_of-link.ensures ∙ ap (λ b. next_at b 0) c.record_part-header.ensures ∙ next_in card 0 in
    rw e (begin card c.args.out.now c.unwrap-joined.result c.args.count pre.0 pre.2 pre.3)

pub record_part-here-requires : goal.record_part-here-requires
record_part-here-requires c = (here c.loop.invariant c.loop-test.true).0

pub unwrap-requires : goal.unwrap-requires
unwrap-requires c =
    let card = c.args.card.now in
    let e = c.call_of.ensures ∙ ap (λ b. record_at b 0) c.record_part-here.ensures ∙ record_in card c.loop.link in
    some_known e (here c.loop.invariant c.loop-test.true).1

pub record_line-requires : goal.record_line-requires
record_line-requires c = omega (arith, c.loop.invariant, (here c.loop.invariant c.loop-test.true).0)

pub put-at-requires : goal.put-at-requires
put-at-requires c =
    let said = ap length (c.as_bytes.ensures ∙ c.record_line.ensures) in
    omega (arith, said, answer_long c.loop.link c.call-update.result.answer, c.loop.invariant)

pub loop-preserved : goal.loop-preserved
loop-preserved c =
    let card = c.args.card.now in
    let link = c.loop.link in
    let e = c.call_of.ensures ∙ ap (λ b. record_at b 0) c.record_part-here.ensures ∙ record_in card link in
    let n : c.next_of-link-in-loop.result ≡ next_at card link = c.next_of-link-in-loop.ensures ∙ ap (λ b. next_at b 0) c.record_part-here.ensures ∙ next_in card link in
    let said = simp (c.as_bytes.ensures, c.record_line.ensures, c.call-update.ensures) at c.put-at.ensures in
    rw (n, c.call-update.ensures) (next c.loop.invariant c.loop-test.true (sym e ∙ c.unwrap.ensures) said c.put-at.auto.out)

pub end_line-requires : goal.end_line-requires
end_line-requires c = omega (arith, c.loop.invariant)

pub put-requires : goal.put-requires
put-requires c =
    let said = ap length (c.as_bytes-2.ensures ∙ c.end_line.ensures) in
    omega (arith, said, end_long c.args.count, c.loop.invariant)

pub returns : goal.returns
returns c =
    let card = c.args.card.now in
    let g = c.loop.invariant in
    let h : header_of card ≡ Ok c.unwrap-joined.result = sym (c.header_of.ensures ∙ ap header_of c.record_part-header.ensures ∙ header_in card) ∙ c.unwrap-joined.ensures in
    let said = simp (c.as_bytes-2.ensures, c.end_line.ensures) at c.put.ensures in
    let long = ap length (c.as_bytes-2.ensures ∙ c.end_line.ensures) in
    simp h (both (done_all g c.loop-test.false) said, omega (arith, c.put.ensures.next, long, end_long c.args.count, g))
