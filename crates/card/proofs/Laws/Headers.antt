-- The header: the refusal of a making is document 01's 3, and a header that is not refused is a new joined machine with the card's settings. Assumes nothing.
use Rattle.std.specs.Prelude.{if◌then◌else◌, Result, Ok, Err}
use mathlib.Core.Path.{◌≡◌, refl}
use mathlib.Core.Bool.{Bool, true, false}
use mathlib.Core.List.{List}
use Prim.Native.Nat.{ℕ}
use lib.Dec.{T, eqb}
use Rattle.machines.specs.declared.InputRefusal.{InputRefusal}
use Rattle.machines.specs.declared.InputRefusal.TheVariants.{TimeStep, EntryTilt, Setting, HandoffDuration, Tangent}
use Rattle.machines.specs.Refusals.{refusal_of}
use Rattle.joined.specs.declared.machine.Airframe.{Airframe}
use Rattle.joined.specs.declared.machine.Airframe.TheVariants as airframe
use Rattle.joined.specs.declared.settings.Settings.{Settings}
use Rattle.joined.specs.declared.joined.Joined.{Joined}
use Rattle.joined.specs.Joined.{new_of}
use Rattle.joined.proofs.Laws.Answers.{of_settings, new_three}
use Rattle.card.specs.Format.{kind_at, option_at, settings_at, header_for, header_of}
use Rattle.card.specs.CardRefusals.{card_refusal_of}
use Rattle.card.specs.declared.refusal.CardRefusal.TheVariants as refusal

-- ---- a making that is refused is refused with 3
pub header_three : (a : Airframe) (s : Settings) (why : InputRefusal) → new_of a s ≡ Err why → card_refusal_of (refusal.Header why) ≡ 3
header_three a s why e = by why (new_three a s why e)
  where
    by : (why : InputRefusal) → T (of_settings why) → refusal_of why ≡ 3
    by (Setting field) h = refl
    by TimeStep h = absurd h
    by EntryTilt h = absurd h
    by HandoffDuration h = absurd h
    by Tangent h = absurd h

-- the machine of a header
pub record Made (card : List ℕ) (j : Joined) : Type 0 where
  pub airframe : Airframe
  pub new : new_of airframe (settings_at card 0) ≡ Ok j

pub made_by : (card : List ℕ) (j : Joined) → header_of card ≡ Ok j → Made card j
unfolding header_of
made_by card j e = go (eqb (option_at card 0) 0) (eqb (kind_at card 0) 5) (eqb (kind_at card 0) 6) e
  where
    by : (a : Airframe) (n : Result Joined InputRefusal) → new_of a (settings_at card 0) ≡ n → header_for n ≡ Ok j → Made card j
    by a (Ok k) is u = let same : k ≡ j = cc in record { airframe = a; new = rw same at is }
    by a (Err w) is u = cc

    go : (b₁ b₂ b₃ : Bool)
        → (if b₁ then (if b₂ then header_for (new_of airframe.Tailsitter (settings_at card 0))
        else if b₃ then header_for (new_of airframe.Quadplane (settings_at card 0))
        else Err refusal.KindOrOption)
        else Err refusal.KindOrOption) ≡ Ok j
        → Made card j
    go true true b₃ w = by airframe.Tailsitter (new_of airframe.Tailsitter (settings_at card 0)) refl w
    go true false true w = by airframe.Quadplane (new_of airframe.Quadplane (settings_at card 0)) refl w
    go true false false w = cc
    go false b₂ b₃ w = cc
