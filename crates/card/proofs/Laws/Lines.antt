-- How long the words of a transcript are, and the line of an answer. Assumes nothing.
use Rattle.std.specs.Prelude.{if◌then◌else◌, Ok, Err}
use mathlib.Core.Path.{◌≡◌, refl}
use mathlib.Core.Bool.{Bool, true, false}
use mathlib.Core.List.{[], ◌∷◌}
use mathlib.Core.Option.{Option, some, none}
use Prim.Native.Nat.{ℕ, ◌+◌, ◌/◌, ◌%◌, ◌≤◌}
use native.Mathlib.Omega.{arith}
use lib.Dec.{eqb, ltb}
use lib.ListN.{length, length-append}
use Rattle.numbers.specs.Numbers.{bits_of}
use Rattle.machines.specs.Refusals.{refusal_of, field_of, report_of}
use Rattle.joined.specs.Shown.{Answer, shown_of, output_bits, flag_of}
use Rattle.card.specs.Text.{spaced, hex_of, decimal_of, output_word, refusal_words, record_line, end_line, card_line}

-- ---- words
hex_long : (n : ℕ) → length (hex_of n) ≡ 8
unfolding hex_of
hex_long n = refl

decimal_long : (n : ℕ) → length (decimal_of n) ≤ 3
unfolding decimal_of
decimal_long n = go (ltb n 10) (ltb n 100)
  where
    go : (b₁ b₂ : Bool)
        → length (if b₁ then (48 + n) ∷ [] else if b₂ then (48 + n / 10) ∷ (48 + n % 10) ∷ [] else (48 + n / 100) ∷ (48 + n / 10 % 10) ∷ (48 + n % 10) ∷ []) ≤ 3
    go true b₂ = omega arith
    go false true = omega arith
    go false false = omega arith

output_long : (o : Option ℕ) → length (output_word o) ≤ 8
output_long (some b) = omega (arith, hex_long b)
output_long none = omega arith

flag_long : (b : Bool) → length (decimal_of (flag_of b)) ≡ 1
unfolding decimal_of
flag_long true = refl
flag_long false = refl

refusal_long : (n field : ℕ) → length (spaced (refusal_words n field)) ≤ 8
refusal_long n field = go (eqb n 3)
  where
    go : (b : Bool) → length (spaced (decimal_of n ∷ (if b then decimal_of field ∷ [] else []))) ≤ 8
    go true = simp length-append (omega (arith, decimal_long n, decimal_long field))
    go false = simp length-append (omega (arith, decimal_long n))

-- ---- lines
pub answer_long : (i : ℕ) (a : Answer) → length (record_line i (shown_of a)) ≤ 40
answer_long i (Ok l) =
    simp length-append (omega (
      arith,
      decimal_long i,
      output_long (output_bits l.output),
      flag_long l.handoff,
      decimal_long (report_of l.report),
      hex_long (bits_of l.thrust),
      hex_long (bits_of l.pitch_rad),
    ))
answer_long i (Err why) = simp length-append (omega (arith, decimal_long i, refusal_long (refusal_of why) (field_of why)))

pub end_long : (n : ℕ) → length (end_line n) ≤ 8
end_long n = simp length-append (omega (arith, decimal_long n))

pub card_long : (n field : ℕ) → length (card_line n field) ≤ 13
card_long n field = omega (arith, refusal_long n field)
