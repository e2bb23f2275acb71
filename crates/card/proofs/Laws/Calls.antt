-- The calls of a card: every record passed is one, so each has its answer and its line. The last call stands first. Assumes nothing.
use Rattle.std.specs.Prelude.{Option, Some, None}
use mathlib.Core.Path.{◌≡◌, refl, ap}
use mathlib.Core.Bool.{Bool, true, false}
use mathlib.Core.List.{List, [], ◌∷◌, ◌++◌}
use Prim.Native.Nat.{ℕ, zero, suc}
use lib.Dec.{eqb, leb}
use lib.ListN.{length}
use Rattle.machines.specs.declared.ModeRefusal.{ModeRefusal}
use Rattle.machines.specs.declared.ModeRefusal.TheVariants as reason
use Rattle.machines.specs.Refusals.{reason_of}
use Rattle.joined.specs.declared.call.Call.{Call}
use Rattle.joined.specs.declared.call.Call.TheVariants as call
use Rattle.joined.specs.declared.joined.Joined.{Joined}
use Rattle.joined.specs.Joined.{call_of}
use Rattle.joined.specs.Shown.{shown_of}
use Rattle.joined.specs.List.{after, answers_of}
use Rattle.card.specs.Format.{next_at, cut_for, record_at, is_known}
use Rattle.card.specs.Chain.{records, member, follow, chain_of}
use Rattle.card.specs.Text.{record_line}
use Rattle.card.specs.Transcript.{with_call, calls_of, lines_of, run_lines}
use Rattle.card.proofs.Laws.Cases.{follow_if}

-- ---- the option of a cut is its reason's number (section 10)
pub cut_by_number : (why : ModeRefusal) → cut_for (reason_of why) ≡ Some (call.Cut why)
cut_by_number reason.Unsupported = refl
cut_by_number reason.OnGround = refl
cut_by_number reason.BelowMinAltitude = refl
cut_by_number reason.TransitionTimeout = refl
cut_by_number reason.RollError = refl
cut_by_number reason.BelowPlaneMinAltitude = refl

-- ---- every one of the records is a call
abbrev pub Known : List ℕ → List ℕ → Type 0
Known card [] = Unit {0}
Known card (i ∷ passed) = (is_known (record_at card i) ≡ true) × Known card passed

follow_known : (card : List ℕ) (links : ℕ) (passed : List ℕ) (link : ℕ) → Known card passed → Known card (follow links card passed link).passed
follow_known card zero passed link h = h
follow_known card (suc links) passed link h =
    go (eqb link 0) (leb (records card) link) (member link passed) (is_known (record_at card link)) refl (λ g. follow_known card links (link ∷ passed) (next_at card link) g)
  where
    go : (b₁ b₂ b₃ b₄ : Bool) → is_known (record_at card link) ≡ b₄ → (Known card (link ∷ passed) → Known card (follow links card (link ∷ passed) (next_at card link)).passed)
        → Known card (follow_if b₁ b₂ b₃ b₄ passed (follow links card (link ∷ passed) (next_at card link))).passed
    go true b₂ b₃ b₄ e ih = h
    go false true b₃ b₄ e ih = h
    go false false true b₄ e ih = h
    go false false false true e ih = ih (e, h)
    go false false false false e ih = h

pub known : (card : List ℕ) → Known card (chain_of card).passed
known card = follow_known card (records card) [] (next_at card 0) tt

-- ---- so there are as many calls as records passed
one_more : (r : Option Call) (cs : List Call) → is_known r ≡ true → length (with_call r cs) ≡ suc (length cs)
one_more (Some c) cs e = refl
one_more None cs e = cc

length_calls : (card passed : List ℕ) → Known card passed → length (calls_of card passed) ≡ length passed
length_calls card [] h = refl
length_calls card (i ∷ passed) h = simp (one_more (record_at card i) (calls_of card passed) h.0, length_calls card passed h.1)

pub all_called : (card : List ℕ) → length (calls_of card (chain_of card).passed) ≡ length (chain_of card).passed
all_called card = length_calls card (chain_of card).passed (known card)

-- ---- one record more
module _ (card : List ℕ) (j : Joined) (i : ℕ) (passed : List ℕ) {c : Call} (is : record_at card i ≡ Some c) where
  pub after_known : after j (calls_of card (i ∷ passed)) ≡ (call_of (after j (calls_of card passed)) c).state
  after_known = ap (λ (r : Option Call). after j (with_call r (calls_of card passed))) is

  pub lines_known : run_lines card j (i ∷ passed) ≡ run_lines card j passed ++ record_line i (shown_of (call_of (after j (calls_of card passed)) c).answer)
  lines_known = ap (λ (r : Option Call). lines_of (i ∷ passed) (answers_of j (with_call r (calls_of card passed)))) is
