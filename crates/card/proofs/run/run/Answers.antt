-- `card::run::run` meets its contract. Assumes nothing.
use Rattle.std.proofs.Common.{◌∙◌, sym, rules, zero-add}
use Rattle.card.proofs.Laws.Written.{at_start}
use Rattle.card.proofs.Laws.SecondWalk.{found}
use Rattle.card.proofs.run.run.Goals as goal

pub run_records-requires : goal.run_records-requires
run_records-requires c =
    let f = found _ _ _ (sym c.in-Ok.is ∙ c.check.ensures.answers) in
    (f.whole_card, simp f.header_joined, f.walk, search rules)

pub returns-in-Ok-clause-runs : goal.returns-in-Ok-clause-runs
returns-in-Ok-clause-runs c =
    let ran = c.run_records.ensures.0 in
    let checked = c.check.ensures in
    simp (sym checked.answers ∙ c.in-Ok.is)
    (record { answers = ran.next ∙ zero-add _; marks = checked.marks; writes = at_start ran (search rules) })

pub returns-in-Err-clause-runs : goal.returns-in-Err-clause-runs
returns-in-Err-clause-runs c =
    let ran = simp (c.as_bytes.ensures, c.card_line.ensures) at c.put.ensures in
    let checked = c.check.ensures in
    simp (sym checked.answers ∙ c.in-Err.is)
    (record { answers = ran.next ∙ zero-add _; marks = checked.marks; writes = at_start ran (search rules) })
