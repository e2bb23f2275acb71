-- What a writer holds once several parts were tried.
use Rattle.std.proofs.Common.{◌≡◌, ℕ, List, [], ◌∷◌, None, Some, IfSome, Bool, IsTrue, refl, subst, ◌∙◌}
use Rattle.std.specs.Prelude.{Option}
use Rattle.std.specs.Io.KnownBytes.{Appends}
use Rattle.std.proofs.KnownBytes.{Appends-nil, Appends-trans}
use Rattle.std.specs.Fmt.{WritesInCalls}
use Rattle.std.specs.List.{FoldsTo, concat}

module _ {W N : Type 0} (name : W → N) (all : W → Bool) (contents : W → Option (List ℕ)) where
  abbrev Took : W → List ℕ → W → Type 0
  Took w bs v = (name v ≡ name w) × (IsTrue (all v) → IsTrue (all w) × Appends (contents w) (contents v) bs)

  of_calls : (w : W) (xs : List (List ℕ)) (v : W) → FoldsTo Took w xs v → Took w (concat xs) v
  of_calls w [] v p = subst (Took w []) p (refl, λ a. (a, Appends-nil (contents w)))
  of_calls w (x ∷ xs) v p = let rest = of_calls p.0 xs v p.2 in (rest.0 ∙ p.1.0, λ a. ((p.1.1 (rest.1 a).0).0, Appends-trans _ _ _ x (concat xs) (p.1.1 (rest.1 a).0).1 (rest.1 a).1))

  -- parts that were tried one after the other: where all were written, their text was
  pub of_writes : (w : W) (bs : List ℕ) (v : W) → WritesInCalls (λ s xs t. (name t ≡ name s) × (IsTrue (all t) → IsTrue (all s) × Appends (contents s) (contents t) xs)) w bs v
      → (name v ≡ name w) × (IsTrue (all v) → IsTrue (all w) × Appends (contents w) (contents v) bs)
  of_writes w bs v p = subst (λ l. Took w l v) p.whole (of_calls w p.parts v p.calls)

-- what holds of a text, if there is one, gives what follows from it
pub weaker : {A : Type 0} (o : Option A) (P Q : A → Type 0) → ((x : A) → P x → Q x) → IfSome o P → IfSome o Q
weaker None P Q f p = tt
weaker (Some x) P Q f p = f x p
