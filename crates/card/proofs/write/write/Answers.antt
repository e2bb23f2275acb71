-- The card is put at the start of a buffer that has room for it. Assumes nothing.
use Rattle.std.proofs.Common.{◌∙◌, refl, sym, rules, reverse, length, le-ltb}
use Rattle.card.specs.Writer.{card_of, write_of}
use Rattle.card.proofs.Laws.Written.{at_start_to}
use Rattle.card.proofs.write.write.Goals as goal

pub returns : goal.returns
unfolding write_of
returns c =
    let put = c.put_card.ensures in
    let a = c.args in
    simp (le-ltb _ _ c.if-n-gt799.false, le-ltb _ _ c.if-out-n.false, sym c.new.ensures ∙ c.in_ok-new.was, ← put.1)
    (record { answers = refl; writes = at_start_to {s = card_of a.airframe a.settings (length a.calls.now) (reverse a.calls.now)} put.0 (search rules) })
