-- By the kind of the record. Assumes nothing.
use Rattle.std.proofs.Common.{◌∙◌, sym, ap, Some}
use Rattle.card.proofs.Laws.Kinds.{told, some_if, said_by, said, said_other}
use Rattle.card.proofs.record.call_of.Goals as goal

pub returns-in_err-kind_of : goal.returns-in_err-kind_of
returns-in_err-kind_of c =
    let b = c.args.bytes.now in
    c.from_residual.ensures ∙ told b (said_by b) (said b) c.kind_of.ensures c.in_err-kind_of.was

pub returns-in-Prime : goal.returns-in-Prime
returns-in-Prime c =
    let b = c.args.bytes.now in
    let h = told b (said_by b) (said b) c.kind_of.ensures (c.in_ok-kind_of.was ∙ ap Some c.in-Prime.is) in
    c.then_some.ensures ∙ some_if _ _ ∙ simp (c.number.ensures, c.option_of-option.ensures) h

pub returns-in-Step : goal.returns-in-Step
returns-in-Step c =
    let b = c.args.bytes.now in
    let h = told b (said_by b) (said b) c.kind_of.ensures (c.in_ok-kind_of.was ∙ ap Some c.in-Step.is) in
    c.then_some-in-Step.ensures ∙ some_if _ _ ∙ simp (c.step_input_of.ensures.input, c.option_of-option.ensures) h

pub returns-in-Cut : goal.returns-in-Cut
returns-in-Cut c =
    let b = c.args.bytes.now in
    let h = told b (said_by b) (said b) c.kind_of.ensures (c.in_ok-kind_of.was ∙ ap Some c.in-Cut.is) in
    simp (c.cut_for.ensures, c.option_of-option.ensures) h

pub returns-in-Settings : goal.returns-in-Settings
returns-in-Settings c =
    let b = c.args.bytes.now in
    let h = told b (said_by b) (said b) c.kind_of.ensures (c.in_ok-kind_of.was ∙ ap Some c.in-Settings.is) in
    c.then_some-in-Settings.ensures ∙ some_if _ _ ∙ simp (c.settings_of.ensures, c.option_of-option.ensures) h

pub returns-in_default : goal.returns-in_default
returns-in_default c =
    let b = c.args.bytes.now in
    let n = c.in_default in
    sym (said_other b c.in_ok-kind_of.field-0 n.not-Prime n.not-Step n.not-Cut n.not-Settings) ∙ told b (said_by b) (said b) c.kind_of.ensures c.in_ok-kind_of.was
