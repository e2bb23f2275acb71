-- `joined::joined::Joined::step` meets its contract. A dt that is not positive and finite is refused by 1 (`step_late`), so the first test gives what the update would. Assumes nothing.
use Rattle.joined.proofs.Laws.Effects.{by_update}
use Rattle.joined.proofs.joined.Joined.step.Goals as goal

pub returns-in-Ok : goal.returns-in-Ok
returns-in-Ok c =
    let given = c.args in
    simp (c.stepped_by.ensures, c.cut_or.ensures)
    (by_update given.self given.input c.update-update.result c.update-update.ensures _ c.in-Ok.is)
