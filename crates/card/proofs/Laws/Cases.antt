-- What several laws go by: the tests of a link and of a check, over any answers to them. Assumes nothing.
use Rattle.std.specs.Prelude.{if◌then◌else◌, Ok, Err}
use mathlib.Core.Bool.{Bool}
use mathlib.Core.List.{List}
use Prim.Native.Nat.{ℕ}
use lib.ListN.{length}
use Rattle.card.specs.Chain.{Chain, stopped, Outcome}
use Rattle.card.specs.declared.refusal.CardRefusal.TheVariants as refusal

-- `follow` at a link, with `on` the chain after it
abbrev pub follow_if : Bool → Bool → Bool → Bool → List ℕ → Chain → Chain
follow_if ends past met known passed on =
    if ends then stopped (Ok (length passed)) passed
    else if past then stopped (Err refusal.NextIndex) passed
    else if met then stopped (Err refusal.PassedRecord) passed
    else if known then on
    else stopped (Err refusal.KindOrOption) passed

-- `outcome_of` with the marks m, and `good` if the card is whole and there is room for its marks
abbrev pub outcome_if : Bool → Bool → Outcome → List ℕ → Outcome
outcome_if whole room good m =
    if whole then (if room then good else record { answer = Err refusal.Marks; marks = m })
    else record { answer = Err refusal.Length; marks = m }
