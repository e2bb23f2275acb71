-- `card::write::put_calls` meets its contract: each record is written after those before it. Assumes nothing.
use Rattle.std.proofs.Common.{◌∙◌, sym, subst, arith, List, ℕ, ◌<◌, length}
use Rattle.card.specs.Text.{Written}
use Rattle.card.proofs.Laws.Written.{both}
use Rattle.card.proofs.Laws.Words.{records_more}
use Rattle.card.proofs.write.put_calls.Goals as goal

pub loop-i-preserved : goal.loop-i-preserved
loop-i-preserved c =
    let l = c.loop-i in
    let a = c.args in
    let here : l.i < length a.calls.now = c.loop-i-test.true in
    let put = c.put-at in
    let said = simp (c.record_bytes.ensures, c.encode.ensures, c.next_of-next.ensures.0) at put.ensures in (
      subst (λ (bs : List ℕ). Written a.out.now 80 bs put.new.out put.result) (sym (records_more a.airframe (length a.calls.now) a.calls.now l.i _ here)) (both l.invariant.0 said),
      put.auto.out ∙ l.invariant.1,
      omega (arith, put.ensures.next, c.record_bytes.type_inv, l.invariant),
    )
