-- A record that is taken out of its card says what it says there. Assumes nothing.
use mathlib.Core.Path.{◌≡◌, refl, ap, ◌∙◌}
use mathlib.Core.List.{List, ◌++◌}
use Prim.Native.Nat.{ℕ, zero, suc, ◌+◌, ◌*◌, ◌<◌, ◌≤◌}
use native.Mathlib.Nat.{add_assoc, le_of_suc-le-suc}
use native.Mathlib.Omega.{arith}
use lib.ListN.{length, get_or, take, drop}
use lib.Seq.{take_at, drop_at}
use Rattle.std.specs.Simd.{first_chunks}
use Rattle.std.proofs.lemmas.List.{get_or-take, get_or-drop, drop-drop}
use Rattle.joined.specs.Calls.{settings_by, vehicle_by, step_input_by}
use Rattle.numbers.specs.Numbers.{float_of}
use Rattle.card.specs.Bytes.{u16_at, u32_at, float_at}
use Rattle.card.specs.Format.{record_part, kind_at, option_at, next_at, number_at, settings_at, step_input_at, record_at, header_of}

-- the i-th of the arrays of 80 bytes that a card's bytes are seen as
pub part_at : (k i : ℕ) (card d : List ℕ) → i < k → get_or (first_chunks 80 k card) i d ≡ record_part card i
part_at zero i card d h = let none : ⊥ = omega arith in absurd none
part_at (suc k) zero card d h = refl
part_at (suc k) (suc i) card d h =
    let e : 80 + 80 * i ≡ 80 * suc i = omega arith in
    part_at k i (drop 80 card) d (le_of_suc-le-suc h) ∙ ap (take 80) (drop-drop (80 * i) 80 card ∙ ap (λ (n : ℕ). drop n card) e)

-- the bytes that stand behind those of i records
pub part_is : (card p b q : List ℕ) (i : ℕ) → card ≡ p ++ (b ++ q) → length p ≡ 80 * i → length b ≡ 80 → record_part card i ≡ b
part_is card p b q i is before long =
    ap (λ (c : List ℕ). take 80 (drop (80 * i) c)) is ∙ ap (take 80) (drop_at p (b ++ q) (80 * i) before) ∙ take_at b q 80 long

module _ (card : List ℕ) (i : ℕ) where
  byte_in : (o : ℕ) → o < 80 → get_or (record_part card i) o 0 ≡ get_or card (80 * i + o) 0
  byte_in o l = get_or-take 80 (drop (80 * i) card) o 0 l ∙ get_or-drop (80 * i) card o 0

  u16_in : (o : ℕ) → o + 2 ≤ 80 → u16_at (record_part card i) o ≡ u16_at card (80 * i + o)
  unfolding u16_at
  u16_in o l = simp (add_assoc (80 * i) o, byte_in o (omega arith), byte_in (o + 1) (omega arith))

  u32_in : (o : ℕ) → o + 4 ≤ 80 → u32_at (record_part card i) o ≡ u32_at card (80 * i + o)
  unfolding u32_at
  u32_in o l = simp (add_assoc (80 * i) o, byte_in o (omega arith), byte_in (o + 1) (omega arith), byte_in (o + 2) (omega arith), byte_in (o + 3) (omega arith))

  pub kind_in : kind_at (record_part card i) 0 ≡ kind_at card i
  kind_in = let e : 80 * i + 0 ≡ 80 * i = omega arith in byte_in 0 (omega arith) ∙ ap (λ (n : ℕ). get_or card n 0) e

  pub option_in : option_at (record_part card i) 0 ≡ option_at card i
  option_in = byte_in 1 (omega arith)

  pub next_in : next_at (record_part card i) 0 ≡ next_at card i
  next_in = u16_in 2 (omega arith)

  pub number_in : (k : ℕ) → k < 20 → number_at (record_part card i) 0 k ≡ number_at card i k
  number_in k l = let e : 0 + 4 * k ≡ 4 * k = omega arith in ap (λ (n : ℕ). float_at (record_part card i) n) e ∙ ap float_of (u32_in (4 * k) (omega arith))

  settings_in : settings_at (record_part card i) 0 ≡ settings_at card i
  unfolding settings_by
  settings_in =
      let n = number_in in
      simp (
        n 1 (omega arith),
        n 2 (omega arith),
        n 3 (omega arith),
        n 4 (omega arith),
        n 5 (omega arith),
        n 6 (omega arith),
        n 7 (omega arith),
        n 8 (omega arith),
        n 9 (omega arith),
        n 10 (omega arith),
        n 11 (omega arith),
        n 12 (omega arith),
        n 13 (omega arith),
        n 14 (omega arith),
        n 15 (omega arith),
        n 16 (omega arith),
        n 17 (omega arith),
      )

  step_in : step_input_at (record_part card i) 0 ≡ step_input_at card i
  unfolding step_input_by vehicle_by
  step_in =
      let n = number_in in
      simp (
        option_in,
        n 1 (omega arith),
        n 2 (omega arith),
        n 3 (omega arith),
        n 4 (omega arith),
        n 5 (omega arith),
        n 6 (omega arith),
        n 7 (omega arith),
        n 8 (omega arith),
        n 9 (omega arith),
        n 10 (omega arith),
        n 11 (omega arith),
        n 12 (omega arith),
        n 13 (omega arith),
        n 14 (omega arith),
        n 15 (omega arith),
      )

  pub record_in : record_at (record_part card i) 0 ≡ record_at card i
  unfolding record_at
  record_in = rw step_in (simp (kind_in, option_in, number_in 2 (omega arith), settings_in))

pub header_in : (card : List ℕ) → header_of (record_part card 0) ≡ header_of card
unfolding header_of
header_in card = simp (kind_in card 0, option_in card 0, settings_in card 0)
