-- Laws of writing: a text, and from its end on another. Assumes nothing.
use mathlib.Core.Path.{◌≡◌, sym, ap, ◌∙◌}
use mathlib.Core.List.{List, [], ◌∷◌, ◌++◌}
use Prim.Native.Nat.{ℕ, suc, ◌+◌, ◌≤◌}
use native.Mathlib.Omega.{arith}
use native.Mathlib.Nat.{add-suc, suc-add, add-zero, zero-add, add_assoc}
use lib.ListN.{length, set, take, drop, length-append}
use lib.Seq.{sets, sets-eq, length-take-le, take_at}
use Rattle.card.specs.Text.{Written}

sets_append : (l : List ℕ) (i : ℕ) (s t : List ℕ) → sets l i (s ++ t) ≡ sets (sets l i s) (i + length s) t
sets_append l i [] t = ap (λ (k : ℕ). sets l k t) (sym (add-zero i))
sets_append l i (a ∷ s) t =
    sets_append (set l i a) (suc i) s t
    ∙ ap (λ (k : ℕ). sets (sets (set l i a) (suc i) s) k t) (suc-add i (length s) ∙ sym (add-suc i (length s)))

module _ {d d₁ d₂ : List ℕ} {at r₁ r₂ : ℕ} {s t : List ℕ} where
  -- one text, and from its end on another
  pub both : Written d at s d₁ r₁ → Written d₁ r₁ t d₂ r₂ → Written d at (s ++ t) d₂ r₂
  both a b =
      record {
        text =
            b.text ∙ ap (λ (l : List ℕ). sets l r₁ t) a.text ∙ ap (λ (k : ℕ). sets (sets d at s) k t) a.next
            ∙ sym (sets_append d at s t);
        next = b.next ∙ ap (λ (k : ℕ). k + length t) a.next ∙ add_assoc at (length s) (length t) ∙ ap (λ (k : ℕ). at + k) (sym (length-append s t));
      }

-- what stands in front of the end of a text
pub in_front : {d d' : List ℕ} {at r : ℕ} {s : List ℕ} → Written d at s d' r → at + length s ≤ length d → take r d' ≡ take at d ++ s
in_front {d} {d'} {at} {r} {s} w h =
    ap (take r) (w.text ∙ sets-eq s d at h)
    ∙ take_at (take at d ++ s) (drop (at + length s) d) r (length-append (take at d) s ∙ omega (arith, length-take-le at d, w.next))

-- at the start of a buffer with room
pub at_start : {d d' : List ℕ} {r : ℕ} {s : List ℕ} → Written d 0 s d' r → r ≤ length d → d' ≡ s ++ drop (length s) d
at_start {d} {d'} {r} {s} w h =
    let z : 0 + length s ≡ length s = zero-add (length s) in
    w.text ∙ sets-eq s d 0 (omega (arith, w.next)) ∙ ap (λ (k : ℕ). s ++ drop k d) z

pub at_start_to : {d d' : List ℕ} {r : ℕ} {s : List ℕ} → Written d 0 s d' r → r ≤ length d → d' ≡ s ++ drop r d
at_start_to {d} {d'} {r} {s} w h = at_start w h ∙ ap (λ (k : ℕ). s ++ drop k d) (sym (w.next ∙ zero-add (length s)))
