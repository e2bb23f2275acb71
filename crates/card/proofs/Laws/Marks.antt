-- Laws of the marks: which are set, and how many are not. Assumes nothing.
use Rattle.std.specs.Prelude.{if◌then◌else◌}
use mathlib.Core.Path.{◌≡◌, refl, sym, ap, ◌∙◌}
use mathlib.Core.Bool.{Bool, true, false}
use mathlib.Core.List.{List, [], ◌∷◌, ◌++◌}
use Prim.Native.Nat.{ℕ, zero, suc, ◌<◌, ◌≤◌}
use native.Mathlib.Nat.{le_of_suc-le-suc}
use native.Mathlib.Omega.{arith}
use lib.Dec.{eqb}
use lib.ListN.{length, get_or, set, drop, replicate, length-set, length-replicate, get_or-replicate}
use lib.Seq.{get_or-set_same, get_or-set_other, drop_at}
use borrow.Author.Tests.{eqb-true, eqb-false}
use Rattle.card.specs.Chain.{member, marked}

pub length_marked : (n : ℕ) (passed : List ℕ) → length (marked n passed) ≡ n
length_marked n [] = simp (length-set, length-replicate)
length_marked n (i ∷ passed) = length-set (marked n passed) i 1 ∙ length_marked n passed

-- by whether two numbers are equal
by_eqb : {X : Type 0} (i j : ℕ) (b : Bool) → eqb i j ≡ b → (eqb i j ≡ true → X) → (eqb i j ≡ false → X) → X
by_eqb i j true e f g = f e
by_eqb i j false e f g = g e

-- a record after the header is marked where it is among those passed
pub mark_at : (n : ℕ) (passed : List ℕ) (i : ℕ) → i < n → 0 < i → get_or (marked n passed) i 0 ≡ (if member i passed then 1 else 0)
mark_at n [] i h z = get_or-set_other (replicate n 0) 0 i 1 0 (λ e. omega arith) ∙ get_or-replicate n i 0 0 h
mark_at n (j ∷ passed) i h z =
    by_eqb i j (eqb i j) refl
    (λ e.
    let s : i ≡ j = eqb-true i j e in
    let k : j < length (marked n passed) = omega (arith, length_marked n passed) in
    simp e (ap (λ (x : ℕ). get_or (marked n (j ∷ passed)) x 0) s ∙ get_or-set_same (marked n passed) j 1 0 k))
    (λ e. simp e (get_or-set_other (marked n passed) j i 1 0 (eqb-false i j e) ∙ mark_at n passed i h z))

-- how many are not marked
abbrev pub zeros : List ℕ → ℕ
zeros [] = zero
zeros (zero ∷ l) = suc (zeros l)
zeros (suc x ∷ l) = zeros l

pub zeros_le : (l : List ℕ) → zeros l ≤ length l
zeros_le [] = omega arith
zeros_le (zero ∷ l) = omega (arith, zeros_le l)
zeros_le (suc x ∷ l) = omega (arith, zeros_le l)

pub zeros_set : (l : List ℕ) (i : ℕ) → i < length l → get_or l i 0 ≡ 0 → zeros l ≡ suc (zeros (set l i 1))
zeros_set [] i h e = omega arith
zeros_set (zero ∷ l) zero h e = refl
zeros_set (suc x ∷ l) zero h e = omega arith
zeros_set (zero ∷ l) (suc i) h e = ap suc (zeros_set l i (le_of_suc-le-suc h) e)
zeros_set (suc x ∷ l) (suc i) h e = zeros_set l i (le_of_suc-le-suc h) e

zeros_replicate : (n : ℕ) → zeros (replicate n 0) ≡ n
zeros_replicate zero = refl
zeros_replicate (suc n) = ap suc (zeros_replicate n)

-- before any link is followed all but the header are unmarked
pub zeros_none : (n : ℕ) → 0 < n → suc (zeros (marked n [])) ≡ n
zeros_none n h =
    sym (zeros_set (replicate n 0) 0 (simp length-replicate (omega arith)) (get_or-replicate n 0 0 0 h)) ∙ zeros_replicate n

-- one record more is one fewer that is not marked
pub zeros_marked : (n : ℕ) (passed : List ℕ) (i : ℕ) → i < n → 0 < i → member i passed ≡ false → zeros (marked n passed) ≡ suc (zeros (marked n (i ∷ passed)))
zeros_marked n passed i h z e = zeros_set (marked n passed) i (omega (arith, length_marked n passed)) (mark_at n passed i h z ∙ simp e)

-- the marks past those of the records stay
pub rest_kept : (n : ℕ) (passed m₀ m : List ℕ) → m ≡ marked n passed ++ drop n m₀ → drop n m ≡ drop n m₀
rest_kept n passed m₀ m e = ap (drop n) e ∙ drop_at (marked n passed) (drop n m₀) n (length_marked n passed)
