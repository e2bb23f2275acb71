-- The bit pattern of a rounded quotient. Where n / d is from 2 ^ 23 to below 2 ^ 24, `round` drops e digits of n * 2 ^ e / d units and keeps n / d, rounded to a whole number r of 24 digits
-- or to 2 ^ 24. The bits of r * 2 ^ e units are e * 2 ^ 23 + r in both cases. Assumes nothing.
use mathlib.Core.Path.{◌≡◌, refl, sym, ap, ◌∙◌, subst}
use mathlib.Core.Logic.{inl, inr}
use mathlib.Core.Bool.{false}
use Prim.Native.Nat.{ℕ, suc, ◌+◌, ◌-◌, ◌*◌, ◌/◌, ◌%◌, ◌^◌, ◌≤◌, ◌<◌, zero-le, compare}
use native.Mathlib.Nat.{le_trans, le_of_eq, lt_of_le_of_lt, lt_of_lt_of_le, eq-or-lt_of_le, mul_assoc, mul_comm, mul_right_comm}
use native.Mathlib.Nat.{mul-pos, mul-le-mul_right, mul-lt-mul_of_pos_right, le-div_iff_mul-le, div-lt_iff_lt-mul, pow-le-pow_right}
use native.Mathlib.Omega.{arith}
use lib.Dec.{lit<, lit≤}
use lib.Pow.{pow-add, pow_pos, pow-lt}
use lib.Ieee.{binary32, size, round, of_bits}
use lib.Ieee.Exact.{HasValue}
use lib.Ieee.Fits.{nearest-le, round-fits}
use lib.Ieee.Bits.{of_bits-fits}
use lib.Ieee.Nearest.{closest, closest_same, div_same, nearest-ge}
use lib.Ieee.Order.{drop}
use lib.Ieee.Scale.{grid, round_same, round_val}
use Rattle.numbers.specs.Numbers.{zero32}
use Rattle.numbers.proofs.Laws.Rounding.{unique}
use Rattle.numbers.proofs.Laws.RootPattern.{size_is, pattern_value}

-- ---- the number of a bit pattern whose digits may have reached 2 ^ 24
carried_value : (j r : ℕ) → 2 ^ 23 ≤ r → r ≤ 2 ^ 24 → j < 253 → HasValue (of_bits binary32 (j * 2 ^ 23 + r)) false (r * 2 ^ j) (2 ^ 149)
carried_value j r lo hi h =
    elim (eq-or-lt_of_le hi) [
      | inl e ↦ subst (λ (z : ℕ). HasValue (of_bits binary32 (j * 2 ^ 23 + z)) false (z * 2 ^ j) (2 ^ 149)) (sym e) full
      | inr l ↦ pattern_value j r lo l (let g : j < 254 = omega arith in g)
    ]
  where
    next : suc j * 2 ^ 23 + 2 ^ 23 ≡ j * 2 ^ 23 + 2 ^ 24
    next = omega arith

    digits : 2 ^ 23 * 2 ^ suc j ≡ 2 ^ 24 * 2 ^ j
    digits = grind (arith, pow-add)

    full : HasValue (of_bits binary32 (j * 2 ^ 23 + 2 ^ 24)) false (2 ^ 24 * 2 ^ j) (2 ^ 149)
    full =
        subst (λ (b : ℕ). HasValue (of_bits binary32 b) false (2 ^ 24 * 2 ^ j) (2 ^ 149)) next
        (subst (λ (v : ℕ). HasValue (of_bits binary32 (suc j * 2 ^ 23 + 2 ^ 23)) false v (2 ^ 149)) digits
        (pattern_value (suc j) (2 ^ 23) (lit≤ tt) (lit< tt) (let g : suc j < 254 = omega arith in g)))

swapped : (n x y d : ℕ) → n * x * y * d ≡ n * x * (d * y)
swapped n x y d = grind (arith, mul_assoc, mul_comm)

-- ---- a quotient n / d of 24 digits
module _ (n d : ℕ) (D : 0 < d) (lo : 2 ^ 23 * d ≤ n) (hi : n < 2 ^ 24 * d) where
  digits_low : 2 ^ 23 ≤ n / d
  digits_low = (le-div_iff_mul-le D).1 lo

  digits_high : n / d < 2 ^ 24
  digits_high = (div-lt_iff_lt-mul D).1 hi

  closest_low : 2 ^ 23 ≤ closest n d
  closest_low = le_trans digits_low (nearest-ge (n / d) (compare (n % d * 2) d))

  pub closest_high : closest n d ≤ 2 ^ 24
  closest_high = le_trans (nearest-le (n / d) (compare (n % d * 2) d)) digits_high

  -- n / d * 2 ^ e units
  module _ (e : ℕ) where
    dropped : drop 24 (n * 2 ^ e * 2 ^ 149) (d * 2 ^ 149) ≡ e
    dropped =
        ap (λ (z : ℕ). z - 24)
        (ap size (div_same (n * 2 ^ e * 2 ^ 149) (d * 2 ^ 149) (n * 2 ^ e) d (mul-pos D (pow_pos 149)) D (swapped n (2 ^ e) (2 ^ 149) d))
        ∙ size_is (n * 2 ^ e / d) (23 + e) ((le-div_iff_mul-le D).1 from) ((div-lt_iff_lt-mul D).1 to))
        ∙ (let z : suc (23 + e) - 24 ≡ e = omega arith in z)
      where
        from : 2 ^ (23 + e) * d ≤ n * 2 ^ e
        from = le_trans (le_of_eq (ap (λ (z : ℕ). z * d) (pow-add 2 23 e) ∙ mul_right_comm (2 ^ 23) (2 ^ e) d)) (mul-le-mul_right (2 ^ e) lo)

        to : n * 2 ^ e < 2 ^ suc (23 + e) * d
        to =
            lt_of_lt_of_le (mul-lt-mul_of_pos_right hi (pow_pos e))
            (le_of_eq (mul_right_comm (2 ^ 24) d (2 ^ e) ∙ ap (λ (z : ℕ). z * d) (sym (pow-add 2 24 e) ∙ ap (λ (z : ℕ). 2 ^ z) (let g : 24 + e ≡ suc (23 + e) = omega arith in g))))

    keeps : closest (n * 2 ^ e * 2 ^ 149) (d * 2 ^ 149 * 2 ^ e) ≡ closest n d
    keeps = grind (arith, closest_same, mul-pos, pow_pos, swapped, mul_assoc, mul_comm)

    grid_is : grid binary32 (n * 2 ^ e) (d * 2 ^ 149) ≡ closest n d * 2 ^ e
    grid_is = grind (arith, dropped, keeps)

    pub pattern_quotient : e ≤ 158 → of_bits binary32 (e * 2 ^ 23 + closest n d) ≡ round binary32 false (n * 2 ^ e) (d * 2 ^ 149)
    pattern_quotient h =
        let r = closest n d in
        let small : r * 2 ^ e < 2 ^ 277 = lt_of_le_of_lt (mul-le-mul_right (2 ^ e) closest_high) (lt_of_le_of_lt (le_of_eq (sym (pow-add 2 24 e))) (pow-lt (let g : 24 + e < 277 = omega arith in g))) in
        unique (of_bits binary32 (e * 2 ^ 23 + r)) (round binary32 false (n * 2 ^ e) (d * 2 ^ 149)) false (r * 2 ^ e) (2 ^ 149) (pow_pos 149)
        (of_bits-fits binary32 (e * 2 ^ 23 + r)) (round-fits binary32 false (n * 2 ^ e) (d * 2 ^ 149))
        (carried_value e r closest_low closest_high (let g : e < 253 = omega arith in g))
        (subst (λ (z : ℕ). HasValue (round binary32 false (n * 2 ^ e) (d * 2 ^ 149)) false z (2 ^ 149)) grid_is
        (round_val binary32 (n * 2 ^ e) (d * 2 ^ 149) (subst (λ (z : ℕ). z < 2 ^ 277) (sym grid_is) small)))

-- ---- that it is m / d, where n has come from m by doublings
pub doubled_quotient : (m d n e : ℕ) → 0 < d → n * 2 ^ e ≡ m * 2 ^ 158 → round binary32 false (n * 2 ^ e) (d * 512 * 2 ^ 149) ≡ round binary32 false m d
doubled_quotient m d n e D h = grind (arith, round_same, mul-pos, pow_pos, mul_assoc, mul_comm)

-- ---- 0 / d is +0
zero_one : round binary32 false 0 1 ≡ zero32
unfolding round of_bits
zero_one = refl

pub zero_quotient : (d : ℕ) → 0 < d → round binary32 false 0 d ≡ zero32
zero_quotient d D = grind (arith, round_same, zero_one)

-- ---- a power of ten of nine zeros at most is above 0 and has 30 digits at most
pub ten_power : (k : ℕ) → k ≤ 9 → 0 < 10 ^ k × 10 ^ k < 2 ^ 30
ten_power k h = (pow-le-pow_right (lit< tt) zero-le, lt_of_le_of_lt (pow-le-pow_right (lit< tt) h) (lit< tt))
