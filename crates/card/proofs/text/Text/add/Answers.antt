-- What is put after the bytes so far stands after them. Assumes nothing.
use Rattle.std.proofs.Common.{◌≡◌, ◌≤◌, ◌∙◌, ◌++◌, sym, ap, arith, length, length-take-le}
use Rattle.card.proofs.Laws.Written.{in_front}
use Rattle.card.proofs.text.Text.add.Goals as goal

pub returns : goal.returns
returns c =
    let t = c.self.inside in
    let inside : t.length ≤ 40 = c.self.invariant in
    let long : length c.args.self.now ≡ t.length = sym (ap length c.self.view_is) ∙ length-take-le t.length t.bytes (omega (arith, c.self.told)) in
    in_front c.put-self-inside.ensures (omega (arith, c.self.told)) ∙ ap (λ l. l ++ c.args.bytes.now) c.self.view_is
