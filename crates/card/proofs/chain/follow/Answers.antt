-- `card::chain::follow` meets its contract: the laws of the walk, at the tests on the way. The measure is the number of marks not set. Assumes nothing.
use Rattle.std.proofs.Common.{◌≡◌, ◌∙◌, ap}
use Rattle.card.specs.Format.{next_at, record_at}
use Rattle.card.proofs.Laws.Parts.{next_in, record_in}
use Rattle.card.proofs.Laws.Walk.{start, again, stops_unknown, fewer, turn, known_some}
use Rattle.card.proofs.chain.follow.Goals as goal

pub loop-link-init : goal.loop-link-init
loop-link-init c =
    let card = c.args.card.now in
    let pre = c.requires in
    let e : c.next_of-link.result ≡ next_at card 0 = c.next_of-link.ensures ∙ ap (λ b. next_at b 0) c.record_part.ensures ∙ next_in card 0 in
    rw e (start card _ pre.0 pre.1 pre.2)

pub returns-then-marks-link-eq1 : goal.returns-then-marks-link-eq1
returns-then-marks-link-eq1 c = again c.loop-link.invariant c.loop-link-test.true c.if-link-marks.false c.if-marks-link-eq1.true

pub returns-then-is_none : goal.returns-then-is_none
returns-then-is_none c =
    let card = c.args.card.now in
    let e = c.call_of.ensures ∙ ap (λ b. record_at b 0) c.record_part-here.ensures ∙ record_in card c.loop-link.link in
    stops_unknown c.loop-link.invariant c.loop-link-test.true c.if-link-marks.false c.if-marks-link-eq1.false (known_some e c.if-is_none.ensures)

pub loop-link-smaller : goal.loop-link-smaller
loop-link-smaller c = fewer c.loop-link.invariant c.loop-link-test.true c.if-link-marks.false c.if-marks-link-eq1.false

pub loop-link-preserved : goal.loop-link-preserved
loop-link-preserved c =
    let card = c.args.card.now in
    let link = c.loop-link.link in
    let e = c.call_of.ensures ∙ ap (λ b. record_at b 0) c.record_part-here.ensures ∙ record_in card link in
    let n : c.next_of-link-in-loop-link.result ≡ next_at card link = c.next_of-link-in-loop-link.ensures ∙ ap (λ b. next_at b 0) c.record_part-here.ensures ∙ next_in card link in
    rw n (turn c.loop-link.invariant c.loop-link-test.true c.if-link-marks.false c.if-marks-link-eq1.false (known_some e c.if-is_none.ensures))
