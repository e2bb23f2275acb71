-- What a record says, by its kind. Assumes nothing.
use Rattle.std.specs.Prelude.{Option, Some, None, Result, Err, ◌≢◌, if◌then◌else◌}
use mathlib.Core.Path.{◌≡◌, refl, sym, ap, ◌∙◌}
use mathlib.Core.Bool.{Bool, true, false}
use mathlib.Core.List.{List}
use Prim.Native.Nat.{ℕ}
use lib.Dec.{eqb}
use borrow.Author.Tests.{eqb-true}
use Rattle.std.specs.Bool.{then_some}
use Rattle.joined.specs.declared.call.Call.{Call}
use Rattle.joined.specs.declared.joined.Joined.{Joined}
use Rattle.joined.specs.declared.machine.Airframe.TheVariants as airframe
use Rattle.joined.specs.Joined.{new_of}
use Rattle.card.specs.Format.{kind_number, kind_by, kind_at, option_at, settings_at, known_if, prime_at, step_at, cut_for, new_settings_at, record_at, header_for, header_of}
use Rattle.card.specs.declared.kind.Kind.{Kind}
use Rattle.card.specs.declared.kind.Kind.TheVariants as kind
use Rattle.card.specs.declared.refusal.CardRefusal.{CardRefusal}
use Rattle.card.specs.declared.refusal.CardRefusal.TheVariants as refusal

pub kind_back : (k : Kind) → kind_by (kind_number k) ≡ Some k
kind_back kind.Prime = refl
kind_back kind.Step = refl
kind_back kind.Cut = refl
kind_back kind.Settings = refl
kind_back kind.Tailsitter = refl
kind_back kind.Quadplane = refl

-- what is told of a kind that was read, and of what it says
pub told : {X : Type 0} (b : List ℕ) (said : Option Kind → X) {r o : Option Kind} {x : X} → said (kind_by (kind_at b 0)) ≡ x → r ≡ kind_by (kind_at b 0) → r ≡ o → said o ≡ x
told b said is e f = ap said (sym f ∙ e) ∙ is

pub some_if : (b : Bool) (c : Call) → then_some b c ≡ known_if b c
some_if true c = refl
some_if false c = refl

-- a record after the header
abbrev pub said_by : List ℕ → Option Kind → Option Call
said_by b (Some kind.Prime) = prime_at b 0
said_by b (Some kind.Step) = step_at b 0
said_by b (Some kind.Cut) = cut_for (option_at b 0)
said_by b (Some kind.Settings) = new_settings_at b 0
said_by b (Some kind.Tailsitter) = None
said_by b (Some kind.Quadplane) = None
said_by b None = None

pub said : (b : List ℕ) → said_by b (kind_by (kind_at b 0)) ≡ record_at b 0
unfolding record_at
said b = go (eqb k 1) (eqb k 2) (eqb k 3) (eqb k 4) (eqb k 5) (eqb k 6)
  where
    k : ℕ
    k = kind_at b 0

    go : (b₁ b₂ b₃ b₄ b₅ b₆ : Bool)
        → said_by b (if b₁ then Some kind.Prime else if b₂ then Some kind.Step else if b₃ then Some kind.Cut else if b₄ then Some kind.Settings else if b₅ then Some kind.Tailsitter else if b₆ then Some kind.Quadplane else None)
        ≡ (if b₁ then prime_at b 0 else if b₂ then step_at b 0 else if b₃ then cut_for (option_at b 0) else if b₄ then new_settings_at b 0 else None)
    go true b₂ b₃ b₄ b₅ b₆ = refl
    go false true b₃ b₄ b₅ b₆ = refl
    go false false true b₄ b₅ b₆ = refl
    go false false false true b₅ b₆ = refl
    go false false false false true b₆ = refl
    go false false false false false true = refl
    go false false false false false false = refl

pub said_other : (b : List ℕ) (k : Kind) → k ≢ kind.Prime → k ≢ kind.Step → k ≢ kind.Cut → k ≢ kind.Settings → said_by b (Some k) ≡ None
said_other b kind.Prime p s c t = absurd (p refl)
said_other b kind.Step p s c t = absurd (s refl)
said_other b kind.Cut p s c t = absurd (c refl)
said_other b kind.Settings p s c t = absurd (t refl)
said_other b kind.Tailsitter p s c t = refl
said_other b kind.Quadplane p s c t = refl

-- the header, whose option is 0
abbrev pub header_by : List ℕ → Option Kind → Result Joined CardRefusal
header_by b (Some kind.Tailsitter) = header_for (new_of airframe.Tailsitter (settings_at b 0))
header_by b (Some kind.Quadplane) = header_for (new_of airframe.Quadplane (settings_at b 0))
header_by b (Some kind.Prime) = Err refusal.KindOrOption
header_by b (Some kind.Step) = Err refusal.KindOrOption
header_by b (Some kind.Cut) = Err refusal.KindOrOption
header_by b (Some kind.Settings) = Err refusal.KindOrOption
header_by b None = Err refusal.KindOrOption

pub header_said : (b : List ℕ) → option_at b 0 ≡ 0 → header_by b (kind_by (kind_at b 0)) ≡ header_of b
unfolding header_of
header_said b o = simp o (go (eqb k 1) (eqb k 2) (eqb k 3) (eqb k 4) (eqb k 5) (eqb k 6) refl refl refl refl refl refl)
  where
    k : ℕ
    k = kind_at b 0

    go : (b₁ b₂ b₃ b₄ b₅ b₆ : Bool) → eqb k 1 ≡ b₁ → eqb k 2 ≡ b₂ → eqb k 3 ≡ b₃ → eqb k 4 ≡ b₄ → eqb k 5 ≡ b₅ → eqb k 6 ≡ b₆
        → header_by b (kind_by k)
        ≡ (if eqb k 5 then header_for (new_of airframe.Tailsitter (settings_at b 0)) else if eqb k 6 then header_for (new_of airframe.Quadplane (settings_at b 0)) else Err refusal.KindOrOption)
    go true b₂ b₃ b₄ b₅ b₆ e₁ e₂ e₃ e₄ e₅ e₆ = simp (eqb-true k 1 e₁)
    go false true b₃ b₄ b₅ b₆ e₁ e₂ e₃ e₄ e₅ e₆ = simp (eqb-true k 2 e₂)
    go false false true b₄ b₅ b₆ e₁ e₂ e₃ e₄ e₅ e₆ = simp (eqb-true k 3 e₃)
    go false false false true b₅ b₆ e₁ e₂ e₃ e₄ e₅ e₆ = simp (eqb-true k 4 e₄)
    go false false false false true b₆ e₁ e₂ e₃ e₄ e₅ e₆ = simp (eqb-true k 5 e₅)
    go false false false false false true e₁ e₂ e₃ e₄ e₅ e₆ = simp (eqb-true k 6 e₆)
    go false false false false false false e₁ e₂ e₃ e₄ e₅ e₆ = simp (e₁, e₂, e₃, e₄, e₅, e₆)

pub header_other : (b : List ℕ) (k : Kind) → k ≢ kind.Tailsitter → k ≢ kind.Quadplane → header_by b (Some k) ≡ Err refusal.KindOrOption
header_other b kind.Tailsitter p q = absurd (p refl)
header_other b kind.Quadplane p q = absurd (q refl)
header_other b kind.Prime p q = refl
header_other b kind.Step p q = refl
header_other b kind.Cut p q = refl
header_other b kind.Settings p q = refl
