-- By the kind of the record, where its option is 0. Assumes nothing.
use Rattle.std.proofs.Common.{◌≡◌, ◌∙◌, sym, ap, arith, Some, None, ne_eqb}
use Rattle.card.specs.Format.{header_of}
use Rattle.std.proofs.lemmas.Result.{err_from_is_err_and}
use Rattle.card.specs.declared.refusal.CardRefusal.TheVariants as refusal
use Rattle.card.proofs.Laws.Kinds.{told, header_by, header_said, header_other}
use Rattle.card.proofs.record.header_of.Goals as goal

pub returns-then-option_of-ne0 : goal.returns-then-option_of-ne0
unfolding header_of
returns-then-option_of-ne0 c = simp (← c.option_of.ensures, ne_eqb _ _ c.if-option_of-ne0.true)

pub returns-in-Tailsitter : goal.returns-in-Tailsitter
returns-in-Tailsitter c =
    let b = c.args.bytes.now in
    let k : c.kind_of.result ≡ Some c.in_ok-ok_or.field-0 = grind arith in
    c.header_for.ensures ∙ told b (header_by b) (header_said b (sym c.option_of.ensures ∙ c.if-option_of-ne0.false)) c.kind_of.ensures (k ∙ ap Some c.in-Tailsitter.is)

pub returns-in-Quadplane : goal.returns-in-Quadplane
returns-in-Quadplane c =
    let b = c.args.bytes.now in
    let k : c.kind_of.result ≡ Some c.in_ok-ok_or.field-0 = grind arith in
    c.header_for-in-Quadplane.ensures ∙ told b (header_by b) (header_said b (sym c.option_of.ensures ∙ c.if-option_of-ne0.false)) c.kind_of.ensures (k ∙ ap Some c.in-Quadplane.is)

pub returns-in_default : goal.returns-in_default
returns-in_default c =
    let b = c.args.bytes.now in
    let n = c.in_default in
    let k : c.kind_of.result ≡ Some c.in_ok-ok_or.field-0 = grind arith in
    sym (header_other b c.in_ok-ok_or.field-0 n.not-Tailsitter n.not-Quadplane) ∙ told b (header_by b) (header_said b (sym c.option_of.ensures ∙ c.if-option_of-ne0.false)) c.kind_of.ensures k

pub returns-in_err-ok_or : goal.returns-in_err-ok_or
returns-in_err-ok_or c =
    let b = c.args.bytes.now in
    let k : c.kind_of.result ≡ None = grind arith in
    let p = err_from_is_err_and c.from_residual.result c.from_residual.ensures.1 in
    let e : c.in_err-ok_or.field-0.0 ≡ refusal.KindOrOption = grind arith in
    rw (p.1, p.2, e) (told b (header_by b) (header_said b (sym c.option_of.ensures ∙ c.if-option_of-ne0.false)) c.kind_of.ensures k)
