-- What a check leaves, from the marks of the card's own records to all that were lent. Assumes nothing.
use Rattle.std.specs.Prelude.{Result, Ok, Err}
use mathlib.Core.Path.{◌≡◌, sym, ap, ◌∙◌}
use mathlib.Core.List.{List, [], ◌++◌, append-nil}
use Prim.Native.Nat.{ℕ, ◌≤◌}
use native.Mathlib.Omega.{arith}
use lib.ListN.{length, take, drop, length-take}
use Rattle.std.proofs.lemmas.List.{drop_all}
use Rattle.joined.specs.declared.joined.Joined.{Joined}
use Rattle.card.specs.Format.{header_of}
use Rattle.card.specs.Chain.{records, chain_of, marked, outcome_by, Leaves}
use Rattle.card.specs.declared.refusal.CardRefusal.{CardRefusal}

module _ (card : List ℕ) where
  no_rest : (p m : List ℕ) → length m ≤ records card → p ++ drop (records card) m ≡ p
  no_rest p m h = ap (λ (l : List ℕ). p ++ l) (drop_all (records card) m h) ∙ append-nil p

  pub on_refused : (m m' : List ℕ) (r : Result ℕ CardRefusal) (why : CardRefusal) → header_of card ≡ Err why → length m ≡ records card → r ≡ Err why → m' ≡ marked (length m) []
      → Leaves (outcome_by (header_of card) card m) r m'
  on_refused m m' r why e l a k = simp e (record { answers = a; marks = k ∙ ap (λ n. marked n []) l ∙ sym (no_rest (marked (records card) []) m (omega arith)) })

  pub on_chain : (m m' : List ℕ) (r : Result ℕ CardRefusal) (j : Joined) → header_of card ≡ Ok j → length m ≡ records card → r ≡ (chain_of card).answer
      → m' ≡ marked (records card) (chain_of card).passed → Leaves (outcome_by (header_of card) card m) r m'
  on_chain m m' r j e l a k = simp e (record { answers = a; marks = k ∙ sym (no_rest (marked (records card) (chain_of card).passed) m (omega arith)) })

  -- the rest of the marks stays
  pub with_rest : (h : Result Joined CardRefusal) (m m' : List ℕ) (r : Result ℕ CardRefusal) → Leaves (outcome_by h card (take (records card) m)) r m'
      → Leaves (outcome_by h card m) r (m' ++ drop (records card) m)
  with_rest h m m' r w = go h w
    where
      short : length (take (records card) m) ≤ records card
      short = omega (arith, length-take (records card) m)

      go : (h : Result Joined CardRefusal) → Leaves (outcome_by h card (take (records card) m)) r m' → Leaves (outcome_by h card m) r (m' ++ drop (records card) m)
      go (Err why) w = record { answers = w.answers; marks = ap (λ (l : List ℕ). l ++ drop (records card) m) (w.marks ∙ no_rest _ _ short) }
      go (Ok j) w = record { answers = w.answers; marks = ap (λ (l : List ℕ). l ++ drop (records card) m) (w.marks ∙ no_rest _ _ short) }
