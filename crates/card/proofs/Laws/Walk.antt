-- The walk along the links: what holds before each link, that it holds again after a record is passed, and what each stop shows.
-- What is left of the chain, from here, is the whole card's chain; the links left are one more than the records not yet marked. Assumes nothing.
use Rattle.std.specs.Prelude.{if◌then◌else◌, Option, Some, None, is_some, Result, Ok, Err}
use mathlib.Core.Path.{◌≡◌, refl, sym, ap, ◌∙◌}
use mathlib.Core.Bool.{Bool, true, false}
use mathlib.Core.List.{List, [], ◌∷◌, ◌++◌}
use Prim.Native.Nat.{ℕ, suc, ◌+◌, ◌<◌, ◌≤◌}
use native.Mathlib.Numerals.{add-one}
use native.Mathlib.Omega.{arith}
use lib.ListN.{length, get_or, set, length-set}
use borrow.Author.Tests.{eq-eqb, ne_eqb, le-leb, lt-leb}
use Rattle.std.proofs.lemmas.Bool.Decides.{nat_tests}
use Rattle.joined.specs.declared.call.Call.{Call}
use Rattle.card.specs.Format.{next_at, record_at, is_known}
use Rattle.card.specs.Chain.{records, whole, member, marked, Chain, stopped, follow, chain_of}
use Rattle.card.specs.declared.refusal.CardRefusal.TheVariants as refusal
use Rattle.card.proofs.Laws.Marks.{mark_at, zeros, zeros_set, zeros_le, zeros_none, zeros_marked}
use Rattle.card.specs.declared.refusal.CardRefusal.{CardRefusal}

-- whether a record is known, from what was read of it
pub known_some : {r o : Option Call} {b : Bool} → r ≡ o → is_some r ≡ b → is_known o ≡ b
known_some {r} e k = ap is_known (sym e) ∙ go r ∙ k
  where
    go : (r : Option Call) → is_known r ≡ is_some r
    go (Some c) = refl
    go None = refl

pub some_known : {r o : Option Call} → r ≡ o → is_known o ≡ true → is_some r ≡ true
some_known e k = sym (known_some e refl) ∙ k

-- before the link to `link`, with `count` records passed and the marks m
pub record Walking (card m : List ℕ) (link count : ℕ) : Type 0 where
  pub size : length m ≡ records card
  pub small : count + zeros m ≤ length m
  pub passed : List ℕ
  pub marks : m ≡ marked (records card) passed
  pub counted : count ≡ length passed
  pub rest : follow (suc (zeros (marked (records card) passed))) card passed link ≡ chain_of card

-- what a stop shows of the answer and of the marks
abbrev pub Shows : List ℕ → List ℕ → Result ℕ CardRefusal → Type 0
Shows card m a = (a ≡ (chain_of card).answer) × (m ≡ marked (records card) (chain_of card).passed)

pub start : (card m : List ℕ) → 0 < records card → length m ≡ records card → m ≡ marked (records card) [] → Walking card m (next_at card 0) 0
start card m h l k =
    record {
      size = l;
      small = omega (arith, zeros_le m);
      passed = [];
      marks = k;
      counted = refl;
      rest = ap (λ (f : ℕ). follow f card [] (next_at card 0)) (zeros_none (records card) h);
    }

module _ {card m : List ℕ} {link count : ℕ} (g : Walking card m link count) where
  stop : (a : Result ℕ CardRefusal) → follow (suc (zeros (marked (records card) g.passed))) card g.passed link ≡ stopped a g.passed → Shows card m a
  stop a s =
      let w : chain_of card ≡ stopped a g.passed = sym g.rest ∙ s in
      (ap (λ (x : Chain). x.answer) (sym w), g.marks ∙ ap (λ (x : Chain). marked (records card) x.passed) (sym w))

  pub ends : link ≡ 0 → Shows card m (Ok count)
  ends z = stop (Ok count) (simp (eq-eqb _ _ z, g.counted))

  module _ (on : link ≡ 0 → ⊥) where
    pub past : length m ≤ link → Shows card m (Err refusal.NextIndex)
    past h = stop (Err refusal.NextIndex) (simp (ne_eqb _ _ on, le-leb (records card) link (omega (arith, g.size))))

    module _ (h : link < length m) where
      inside : link < records card
      inside = omega (arith, g.size)

      mark : get_or m link 0 ≡ (if member link g.passed then 1 else 0)
      mark = ap (λ (l : List ℕ). get_or l link 0) g.marks ∙ mark_at (records card) g.passed link inside (omega arith)

      was : (b : Bool) → get_or m link 0 ≡ (if b then 1 else 0) → get_or m link 0 ≡ 1 → b ≡ true
      was true k t = refl
      was false k t = let none : ⊥ = omega arith in absurd none

      is_new : (b : Bool) → get_or m link 0 ≡ (if b then 1 else 0) → (get_or m link 0 ≡ 1 → ⊥) → b ≡ false
      is_new true k t = absurd (t k)
      is_new false k t = refl

      pub again : get_or m link 0 ≡ 1 → Shows card m (Err refusal.PassedRecord)
      again t = stop (Err refusal.PassedRecord) (simp (ne_eqb _ _ on, lt-leb _ _ inside, was (member link g.passed) mark t))

      module _ (new : get_or m link 0 ≡ 1 → ⊥) where
        fresh : member link g.passed ≡ false
        fresh = is_new (member link g.passed) mark new

        unmarked : get_or m link 0 ≡ 0
        unmarked = mark ∙ simp fresh

        pub stops_unknown : is_known (record_at card link) ≡ false → Shows card m (Err refusal.KindOrOption)
        stops_unknown b = stop (Err refusal.KindOrOption) (simp (ne_eqb _ _ on, lt-leb _ _ inside, fresh, b))

        -- the same of marks with others behind them, which stay
        pub unknown : (more : List ℕ) → is_known (record_at card link) ≡ false
            → (Err refusal.KindOrOption ≡ (chain_of card).answer) × (m ++ more ≡ marked (records card) (chain_of card).passed ++ more)
        unknown more b = let shown = stops_unknown b in (shown.0, ap (λ (l : List ℕ). l ++ more) shown.1)

        pub fewer : zeros (set m link 1) < zeros m
        fewer = omega (arith, zeros_set m link h unmarked)

        pub turn : is_known (record_at card link) ≡ true → Walking card (set m link 1) (next_at card link) (count + 1)
        turn b =
            record {
              size = length-set m link 1 ∙ g.size;
              small = simp length-set (omega (arith, fewer, g.small));
              passed = link ∷ g.passed;
              marks = ap (λ (l : List ℕ). set l link 1) g.marks;
              counted = add-one count ∙ ap suc g.counted;
              rest = sym (simp (ne_eqb _ _ on, lt-leb _ _ inside, fresh, b, zeros_marked (records card) g.passed link inside (omega arith) fresh)) ∙ g.rest;
            }

-- ---- a whole card has a header, and at most 800 records
pub least : (n : ℕ) → whole n ≡ true → 80 ≤ n
least n h = grind (arith, nat_tests)

pub most : (n : ℕ) → whole n ≡ true → n ≤ 64000
most n h = grind (arith, nat_tests)
