-- The marks that a check leaves, byte by byte (document 01, section 9). Assumes nothing.
use Rattle.std.specs.Prelude.{if◌then◌else◌, Result, Ok, Err}
use mathlib.Core.Path.{◌≡◌, refl, sym, ap, ◌∙◌}
use mathlib.Core.Bool.{Bool, true, false}
use mathlib.Core.List.{List, [], ◌∷◌, ◌++◌}
use Prim.Native.Nat.{ℕ, zero, suc, ◌+◌, ◌-◌, ◌<◌, ◌≤◌}
use native.Mathlib.Omega.{arith}
use lib.Dec.{leb}
use lib.ListN.{length, get_or, drop, replicate, length-append, length-drop, length-replicate, get_or-append}
use lib.Seq.{get_or-set_same, get_or-set_other, get_or-append-add, get_or-drop}
use borrow.Author.Tests.{leb-true}
use Rattle.card.specs.Bytes.{byte_at}
use Rattle.card.specs.Format.{header_of}
use Rattle.card.specs.Chain.{whole, records, member, chain_of, marked, outcome_by, outcome_of}
use Rattle.card.proofs.Laws.Cases.{outcome_if}
use Rattle.card.proofs.Laws.Marks.{length_marked, mark_at}
use Rattle.card.proofs.Laws.Walk.{least}
use Rattle.card.specs.declared.refusal.CardRefusal.{CardRefusal}
use Rattle.joined.specs.declared.joined.Joined.{Joined}

-- "1 for the header and each record passed, 0 for the other records, rest unchanged"; n records, and the marks before and after
pub record EachMark (n : ℕ) (passed m m' : List ℕ) : Type 0 where
  pub header : byte_at m' 0 ≡ 1
  pub records : (i : ℕ) → 0 < i → i < n → byte_at m' i ≡ (if member i passed then 1 else 0)
  pub rest : (i : ℕ) → n ≤ i → byte_at m' i ≡ byte_at m i
  pub size : length m' ≡ length m

header_mark : (n : ℕ) (passed : List ℕ) → 0 < n → get_or (marked n passed) 0 0 ≡ 1
header_mark n [] h = get_or-set_same (replicate n 0) 0 1 0 (simp length-replicate h)
header_mark n (zero ∷ passed) h = get_or-set_same (marked n passed) 0 1 0 (simp length_marked h)
header_mark n (suc i ∷ passed) h = get_or-set_other (marked n passed) (suc i) 0 1 0 (λ e. omega arith) ∙ header_mark n passed h

module _ (n : ℕ) (passed m : List ℕ) (h : 0 < n) (room : n ≤ length m) where
  in_front : (i : ℕ) → i < n → byte_at (marked n passed ++ drop n m) i ≡ get_or (marked n passed) i 0
  in_front i l = get_or-append (marked n passed) (drop n m) 0 i (omega (arith, length_marked n passed))

  behind : (i : ℕ) → n ≤ i → byte_at (marked n passed ++ drop n m) i ≡ byte_at m i
  behind i l =
      let k = length_marked n passed in
      let s : length (marked n passed) + (i - n) ≡ i = omega arith in
      let t : n + (i - n) ≡ i = omega arith in
      ap (byte_at (marked n passed ++ drop n m)) (sym s) ∙ get_or-append-add (marked n passed) (drop n m) (i - n) 0
      ∙ get_or-drop n m (i - n) 0 ∙ ap (byte_at m) t

  each_mark : EachMark n passed m (marked n passed ++ drop n m)
  each_mark =
      record {
        header = in_front 0 h ∙ header_mark n passed h;
        records = λ i z l. in_front i l ∙ mark_at n passed i l z;
        rest = behind;
        size = length-append (marked n passed) (drop n m) ∙ omega (arith, length_marked n passed, length-drop n m);
      }

-- the records that a check passes after the header, by what the header says
abbrev pub passed_by : Result Joined CardRefusal → List ℕ → List ℕ
passed_by (Err why) card = []
passed_by (Ok j) card = (chain_of card).passed

-- on all but 6 and 7
pub marks_of_check : (card m : List ℕ) → whole (length card) ≡ true → leb (records card) (length m) ≡ true
    → EachMark (records card) (passed_by (header_of card) card) m (outcome_of card m).marks
unfolding outcome_of
marks_of_check card m w r = simp (w, r) (go (header_of card))
  where
    h : 0 < records card
    h = omega (arith, least (length card) w)

    go : (x : Result Joined CardRefusal) → EachMark (records card) (passed_by x card) m (outcome_by x card m).marks
    go (Err why) = each_mark (records card) [] m h (leb-true _ _ r)
    go (Ok j) = each_mark (records card) (chain_of card).passed m h (leb-true _ _ r)

-- "unchanged on 6, 7"
pub kept_on_length : (card m : List ℕ) → whole (length card) ≡ false → (outcome_of card m).marks ≡ m
unfolding outcome_of
kept_on_length card m w = simp w

pub kept_on_marks : (card m : List ℕ) → leb (records card) (length m) ≡ false → (outcome_of card m).marks ≡ m
unfolding outcome_of
kept_on_marks card m r = go (whole (length card))
  where
    go : (b : Bool) → (outcome_if b (leb (records card) (length m)) (outcome_by (header_of card) card m) m).marks ≡ m
    go true = simp r
    go false = refl
