-- As many links as a card has records are enough: more give the same chain, and a 9 is given just where a record already passed is met. Each link that goes on marks a record that was
-- not marked. Assumes nothing.
use Rattle.std.specs.Prelude.{Err}
use mathlib.Core.Path.{◌≡◌, refl}
use mathlib.Core.Bool.{Bool, true, false, ◌||◌}
use mathlib.Core.List.{List, [], ◌∷◌}
use Prim.Native.Nat.{ℕ, zero, suc, ◌+◌, ◌<◌}
use native.Mathlib.Omega.{arith}
use lib.Dec.{eqb, leb}
use borrow.Author.Tests.{eqb-true, eqb-false, leb-false}
use Rattle.card.specs.Format.{next_at, record_at, is_known}
use Rattle.card.specs.Chain.{records, member, marked, Chain, follow, chain_of}
use Rattle.card.specs.declared.refusal.CardRefusal.TheVariants as refusal
use Rattle.card.proofs.Laws.Cases.{follow_if}
use Rattle.card.proofs.Laws.Marks.{zeros, zeros_none, zeros_marked}

fewer : {f : ℕ} (card passed : List ℕ) (link : ℕ) → zeros (marked (records card) passed) < suc f → eqb link 0 ≡ false → leb (records card) link ≡ false → member link passed ≡ false
    → zeros (marked (records card) (link ∷ passed)) < f
fewer card passed link h e₁ e₂ e₃ =
    let z : link ≡ 0 → ⊥ = eqb-false link 0 e₁ in
    omega (arith, zeros_marked (records card) passed link (leb-false (records card) link e₂) (omega arith) e₃)

same : (card : List ℕ) (f g : ℕ) (passed : List ℕ) (link : ℕ) → zeros (marked (records card) passed) < f → zeros (marked (records card) passed) < g
    → follow f card passed link ≡ follow g card passed link
same card zero g passed link hf hg = let none : ⊥ = omega arith in absurd none
same card (suc f) zero passed link hf hg = let none : ⊥ = omega arith in absurd none
same card (suc f) (suc g) passed link hf hg =
    go (eqb link 0) (leb (records card) link) (member link passed) (is_known (record_at card link)) (λ k l. same card f g (link ∷ passed) (next_at card link) k l) refl refl refl
  where
    go : (b₁ b₂ b₃ b₄ : Bool)
        → (zeros (marked (records card) (link ∷ passed)) < f → zeros (marked (records card) (link ∷ passed)) < g
        → follow f card (link ∷ passed) (next_at card link) ≡ follow g card (link ∷ passed) (next_at card link))
        → eqb link 0 ≡ b₁ → leb (records card) link ≡ b₂ → member link passed ≡ b₃
        → follow_if b₁ b₂ b₃ b₄ passed (follow f card (link ∷ passed) (next_at card link)) ≡ follow_if b₁ b₂ b₃ b₄ passed (follow g card (link ∷ passed) (next_at card link))
    go true b₂ b₃ b₄ ih e₁ e₂ e₃ = refl
    go false true b₃ b₄ ih e₁ e₂ e₃ = refl
    go false false true b₄ ih e₁ e₂ e₃ = refl
    go false false false false ih e₁ e₂ e₃ = refl
    go false false false true ih e₁ e₂ e₃ = ih (fewer card passed link hf e₁ e₂ e₃) (fewer card passed link hg e₁ e₂ e₃)

pub enough : (card : List ℕ) (more : ℕ) → 0 < records card → follow (records card + more) card [] (next_at card 0) ≡ chain_of card
enough card more h = same card (records card + more) (records card) [] (next_at card 0) (omega (arith, zeros_none (records card) h)) (omega (arith, zeros_none (records card) h))

-- ---- "9 exactly when a record already passed is met": the record passed last, or the header, has a next index among the records passed
abbrev pub last_of : List ℕ → ℕ
last_of [] = 0
last_of (i ∷ passed) = i

abbrev pub meets_again : List ℕ → List ℕ → Bool
meets_again card passed = member (next_at card (last_of passed)) passed

pub record NineExactly (card : List ℕ) (chain : Chain) : Type 0 where
  pub only : chain.answer ≡ Err refusal.PassedRecord → meets_again card chain.passed ≡ true
  pub always : meets_again card chain.passed ≡ true → chain.answer ≡ Err refusal.PassedRecord

-- the records passed are in the card, and the header is none of them
abbrev Inside : List ℕ → List ℕ → Type 0
Inside card passed = (i : ℕ) → member i passed ≡ true → (eqb i 0 ≡ false) × (leb (records card) i ≡ false)

one_more : (card passed : List ℕ) (link : ℕ) → Inside card passed → eqb link 0 ≡ false → leb (records card) link ≡ false → Inside card (link ∷ passed)
one_more card passed link inside e₁ e₂ i = go (eqb i link) refl
  where
    go : (b : Bool) → eqb i link ≡ b → (b || member i passed) ≡ true → (eqb i 0 ≡ false) × (leb (records card) i ≡ false)
    go true e h = rw (eqb-true i link e) (e₁, e₂)
    go false e h = inside i h

differ : {X : Type 0} {b : Bool} → b ≡ true → b ≡ false → X
differ t f = cc

nine : (card : List ℕ) (f : ℕ) (passed : List ℕ) (link : ℕ) → link ≡ next_at card (last_of passed) → Inside card passed → zeros (marked (records card) passed) < f
    → NineExactly card (follow f card passed link)
nine card zero passed link e inside h = let none : ⊥ = omega arith in absurd none
nine card (suc f) passed link e inside h =
    go (eqb link 0) (leb (records card) link) (member link passed) (is_known (record_at card link))
    (λ i k. nine card f (link ∷ passed) (next_at card link) refl i k) refl refl refl
  where
    here : meets_again card passed ≡ true → member link passed ≡ true
    here m = rw (← e) at m

    go : (b₁ b₂ b₃ b₄ : Bool)
        → (Inside card (link ∷ passed) → zeros (marked (records card) (link ∷ passed)) < f → NineExactly card (follow f card (link ∷ passed) (next_at card link)))
        → eqb link 0 ≡ b₁ → leb (records card) link ≡ b₂ → member link passed ≡ b₃
        → NineExactly card (follow_if b₁ b₂ b₃ b₄ passed (follow f card (link ∷ passed) (next_at card link)))
    go true b₂ b₃ b₄ ih e₁ e₂ e₃ = record { only = λ a. cc; always = λ m. differ e₁ (inside link (here m)).0 }
    go false true b₃ b₄ ih e₁ e₂ e₃ = record { only = λ a. cc; always = λ m. differ e₂ (inside link (here m)).1 }
    go false false true b₄ ih e₁ e₂ e₃ = record { only = λ a. rw e at e₃; always = λ m. refl }
    go false false false false ih e₁ e₂ e₃ = record { only = λ a. cc; always = λ m. differ (here m) e₃ }
    go false false false true ih e₁ e₂ e₃ = ih (one_more card passed link inside e₁ e₂) (fewer card passed link h e₁ e₂ e₃)

pub nine_exactly : (card : List ℕ) → 0 < records card → NineExactly card (chain_of card)
nine_exactly card h =
    nine card (records card) [] (next_at card 0) refl (λ i m. differ m refl) (omega (arith, zeros_none (records card) h))
