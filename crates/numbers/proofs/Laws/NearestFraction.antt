-- The rounding of a fraction, where it is finite, is the binary32 number nearest to it, a tie to the even one; and so is the number that `of_decimal` gives for digits / 10 ^ places.
-- Assumes nothing.
use Rattle.std.specs.Prelude.{Some, None, if◌then◌else◌}
use mathlib.Core.Path.{◌≡◌, sym, ap, ap₂, ◌∙◌, subst}
use mathlib.Core.Logic.{inl, inr}
use mathlib.Core.Bool.{Bool, true, false}
use Prim.Native.Nat.{ℕ, suc, ◌+◌, ◌-◌, ◌*◌, ◌/◌, ◌%◌, ◌^◌, ◌≤◌, ◌<◌, zero-le, compare}
use native.Mathlib.Nat.{le_trans, le_of_eq, le_of_lt, lt_of_le_of_lt, eq-or-lt_of_le, eq-zero-or-pos, add-zero, mul-le-mul_right, mul-le-mul_left, sub-le, pow-le-pow_right}
use native.Mathlib.Nat.{pow-succ', mul-div_cancel, div-div-eq-div-mul, mul_assoc, mul_right_comm}
use native.Mathlib.Omega.{arith}
use borrow.Author.Tests.{le-leb}
use lib.Dec.{T, lit<, lit≤}
use lib.Pow.{pow_pos, pow-add, shl_lt}
use lib.Ieee.{Float, nan, inf, fin, binary32, size, round}
use lib.Ieee.Digits.{size-le}
use lib.Ieee.Fits.{kept-lt, nearest-le}
use lib.Ieee.Nearest.{closest}
use lib.Ieee.Scale.{grid}
use Rattle.numbers.specs.Decimal.{of_decimal}
use Rattle.numbers.specs.Nearest.{units, NoNearer, NearestFraction}
use Rattle.numbers.specs.Numbers.{IsBinary32, finite, bits_of}
use Rattle.numbers.proofs.Laws.Whole.{zero_times}
use Rattle.numbers.proofs.Laws.Units.{finite_of_units, units_of_finite, units_top}
use Rattle.numbers.proofs.Laws.Rounded.{rounded, rounded_grid, units_round, round_amount, shape, few_digits, rounded_below, rnd_exact}
use Rattle.numbers.proofs.Laws.Rounding.{pattern, bits_by_units}
use Rattle.numbers.proofs.Laws.Nearest.{rounded_nearest_above, rounded_nearest_below, tie_even, dropped}

-- ---- the bits of q * 2 ^ k units, for an even q of 24 digits, or 2 ^ 24: no more digits are dropped than zeros at the end, less one
even_shift : (t k z : ℕ) → z ≤ k → t * 2 * 2 ^ k / 2 ^ z % 2 ≡ 0
even_shift t k z h =
    let e : k ≡ k - z + z = omega arith in
    ap (λ (x : ℕ). x / 2 ^ z % 2) (ap (λ (x : ℕ). t * 2 * x) (ap (λ (x : ℕ). 2 ^ x) e ∙ pow-add 2 (k - z) z) ∙ sym (mul_assoc (t * 2) (2 ^ (k - z)) (2 ^ z)))
    ∙ ap (λ (x : ℕ). x % 2) (mul-div_cancel (t * 2 * 2 ^ (k - z)) (pow_pos z) ∙ mul_right_comm t 2 (2 ^ (k - z))) ∙ twice_even (t * 2 ^ (k - z))
  where
    twice_even : (x : ℕ) → x * 2 % 2 ≡ 0
    twice_even x = omega arith

even_digits : (q k : ℕ) → q % 2 ≡ 0 → q ≤ 2 ^ 24 → q * 2 ^ k / 2 ^ (size (q * 2 ^ k) - 24) % 2 ≡ 0
even_digits q k e h =
    elim (eq-or-lt_of_le h) [
      | inl i ↦
          subst (λ (x : ℕ). x / 2 ^ (size x - 24) % 2 ≡ 0) (ap (λ (x : ℕ). 2 ^ 23 * x) (pow-succ' 2 k) ∙ sym (mul_assoc (2 ^ 23) 2 (2 ^ k)) ∙ ap (λ (x : ℕ). x * 2 ^ k) (sym i))
          (even_shift (2 ^ 22) (suc k) (size (2 ^ 23 * 2 ^ suc k) - 24) (few (2 ^ 23) (suc k) (lit< tt)))
      | inr l ↦ subst (λ (x : ℕ). x * 2 ^ k / 2 ^ (size (q * 2 ^ k) - 24) % 2 ≡ 0) (let d : q / 2 * 2 ≡ q = omega arith in d) (even_shift (q / 2) k (size (q * 2 ^ k) - 24) (few q k l))
    ]
  where
    few : (q k : ℕ) → q < 2 ^ 24 → size (q * 2 ^ k) - 24 ≤ k
    few q k l = let z : size (q * 2 ^ k) ≤ 24 + k = size-le (q * 2 ^ k) (24 + k) (shl_lt 24 k l) in omega arith

even_bits : (x : Float) (n : ℕ) → T (finite x) → units x ≡ n → n / 2 ^ (size n - 24) % 2 ≡ 0 → bits_of x % 2 ≡ 0
even_bits nan n f e h = absurd f
even_bits (inf s) n f e h = absurd f
even_bits (fin s m d) n f e h = ap (λ (z : ℕ). z % 2) (bits_by_units s m d ∙ ap (pattern s) e) ∙ even s
  where
    even : (b : Bool) → pattern b n % 2 ≡ 0
    even true = unfold pattern in omega (arith, h)
    even false = unfold pattern in omega (arith, h)

-- where another number is as near to a / c as its rounding, the bits of the rounding are even
pub rounded_tie : (a c m j : ℕ) → 0 < c → m < 2 ^ 24 → T (finite (round binary32 false a c)) → (rounded a c ≡ m * 2 ^ j → ⊥) → a * 2 ^ 149 * 2 ≡ (rounded a c + m * 2 ^ j) * c
    → bits_of (round binary32 false a c) % 2 ≡ 0
rounded_tie a c m j C h f d t =
    let n = a * 2 ^ 149 in
    let p = 2 ^ dropped a c in
    let i : rounded a c ≡ grid binary32 a c = rounded_grid a c (subst (λ (x : ℕ). x < 2 ^ 277) (units_round false a c) (units_of_finite (round binary32 false a c) (round_amount a c) f)) in
    even_bits (round binary32 false a c) (grid binary32 a c) f (units_round false a c ∙ i)
    (even_digits (closest n (c * p)) (dropped a c)
    (tie_even a c m j C h (λ (e : grid binary32 a c ≡ m * 2 ^ j). d (i ∙ e)) (subst (λ (x : ℕ). n * 2 ≡ (x + m * 2 ^ j) * c) i t))
    (le_trans (nearest-le (n / (c * p)) (compare (n % (c * p) * 2) (c * p))) (subst (λ (x : ℕ). x < 2 ^ 24) (div-div-eq-div-mul n c p) (kept-lt 24 (n / c)))))

-- ---- the rounding of a / c, where it is finite
module _ (a c : ℕ) (C : 0 < c) (f : T (finite (round binary32 false a c))) where
  abbrev r : Float
  r = round binary32 false a c

  i : units r ≡ rounded a c
  i = units_round false a c

  under : (m j : ℕ) → m < 2 ^ 24 → m * 2 ^ j < units r → (units r + m * 2 ^ j) * c ≤ a * 2 ^ 149 * 2
  under m j h l = subst (λ (z : ℕ). (z + m * 2 ^ j) * c ≤ a * 2 ^ 149 * 2) (sym i) (rounded_nearest_below a c m j C h (subst (λ (z : ℕ). m * 2 ^ j < z) i l))

  -- compared with zero
  half : units r * c ≤ a * 2 ^ 149 * 2
  half =
      elim (eq-zero-or-pos (units r)) [
        | inl e ↦ le_trans (le_of_eq (zero_times c e)) zero-le
        | inr l ↦ subst (λ (z : ℕ). z * c ≤ a * 2 ^ 149 * 2) (add-zero (units r)) (under 0 0 (pow_pos 24) l)
      ]

  no_nearer : (y : Float) → IsBinary32 y → T (finite y) → NoNearer (λ (n : ℕ). n * c) (a * 2 ^ 149 * 2) r y
  no_nearer nan p g = absurd g
  no_nearer (inf s) p g = absurd g
  no_nearer (fin s m e) p g =
      let j = (shape s m e p).0 in
      let k = (shape s m e p).1 in
      let few = few_digits s m e p in
      let twice = a * 2 ^ 149 * 2 in
      let u = units (fin s m e) in
      record {
        above = λ _ l.
            subst (λ (z : ℕ). twice ≤ (z + u) * c) (sym i)
            (subst (λ (z : ℕ). twice ≤ (rounded a c + z) * c) (sym k)
            (rounded_nearest_above a c m j C few (subst (λ (z : ℕ). z ≤ 2 ^ 277) k (units_top (fin s m e) p))
            (subst (λ (z : ℕ). rounded a c < z) k (subst (λ (z : ℕ). z < u) i l))));
        below = λ _ l. subst (λ (z : ℕ). (units r + z) * c ≤ twice) (sym k) (under m j few (subst (λ (z : ℕ). z < units r) k l));
        negative = λ _. le_trans (mul-le-mul_right c (sub-le (units r) u)) half;
        tie = λ _ d t. rounded_tie a c m j C few f (λ (q : rounded a c ≡ m * 2 ^ j). d (i ∙ q ∙ sym k)) (t ∙ ap₂ (λ (x z : ℕ). (x + z) * c) i k);
      }

  pub nearest_fraction : NearestFraction a c (round binary32 false a c)
  nearest_fraction = record { held = (round_amount a c).held; at_least_zero = (round_amount a c).above; ends = f; none_nearer = no_nearer }

-- a fraction up to 2 ^ 64 has a finite one
pub fraction_finite : (a c : ℕ) → 0 < c → a ≤ 2 ^ 64 * c → T (finite (round binary32 false a c))
fraction_finite a c C h =
    finite_of_units (round binary32 false a c) (round_amount a c)
    (lt_of_le_of_lt (le_of_eq (units_round false a c))
    (lt_of_le_of_lt
    (rounded_below a c (1 * 2 ^ 213) C (rnd_exact 1 213 (lit< tt) (lit< tt)) (le_trans (mul-le-mul_right (2 ^ 149) h) (le_of_eq (mul_right_comm (2 ^ 64) c (2 ^ 149))))) (lit< tt)))

-- ---- digits of 32 bits and at most nine places give the binary32 number that is nearest to digits / 10 ^ places
pub nearest_decimal : (digits places : ℕ) → digits < 2 ^ 32 → places ≤ 9 → (r : Float) × (of_decimal digits places ≡ Some r) × NearestFraction digits (10 ^ places) r
nearest_decimal digits places h l =
    let c = 10 ^ places in
    let C : 10 ^ 0 ≤ c = pow-le-pow_right (lit< tt) zero-le in (
      round binary32 false digits c,
      ap (λ (b : Bool). if b then Some (round binary32 false digits c) else None) (le-leb places 9 l),
      nearest_fraction digits c C (fraction_finite digits c C (le_trans (le_of_lt h) (le_trans (lit≤ tt) (mul-le-mul_left (2 ^ 64) C)))),
    )
