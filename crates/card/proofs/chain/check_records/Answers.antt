-- `card::chain::check_records` meets its contract. Assumes nothing.
use Rattle.std.proofs.Common.{◌∙◌, sym, ap, Err}
use Rattle.std.proofs.lemmas.Result.{err_from_is_err_and}
use Rattle.card.specs.Format.{header_of}
use Rattle.card.proofs.Laws.Parts.{header_in}
use Rattle.card.proofs.Laws.Outcomes.{on_refused, on_chain}
use Rattle.card.proofs.chain.check_records.Goals as goal

pub returns-in_err-header_of : goal.returns-in_err-header_of
returns-in_err-header_of c =
    let card = c.args.card.now in
    let said = sym (c.header_of.ensures ∙ ap header_of c.record_part.ensures ∙ header_in card) ∙ c.in_err-header_of.was in
    let p = err_from_is_err_and c.from_residual.result c.from_residual.ensures.1 in
    on_refused card c.args.marks.now _ _ _ said c.requires.1 (p.1 ∙ ap Err p.2) c.reset_marks.ensures

pub returns : goal.returns
returns c =
    let card = c.args.card.now in
    let said = sym (c.header_of.ensures ∙ ap header_of c.record_part.ensures ∙ header_in card) ∙ c.in_ok-header_of.was in
    on_chain card c.args.marks.now _ _ _ said c.requires.1 c.follow.ensures.0 c.follow.ensures.1
