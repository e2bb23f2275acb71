-- Document 01, section 7: the lines of a transcript, as bytes (ASCII). Definitions only. Assumes nothing.
use Rattle.std.specs.Prelude.{◌≡◌, ℕ, ◌+◌, ◌/◌, ◌%◌, List, [], ◌∷◌, ◌++◌, length, eqb, ltb, if◌then◌else◌}
use Rattle.std.proofs.Math.Option.{Option, some, none}
use Rattle.std.proofs.lemmas.List.Edits.{sets}
use Rattle.joined.specs.Shown.{Shown, refused, line}

-- words with a space (32) after each but the last, which a line feed (10) ends
abbrev pub spaced : List (List ℕ) → List ℕ
spaced [] = []
spaced (w ∷ []) = w ++ 10 ∷ []
spaced (w ∷ v ∷ ws) = w ++ 32 ∷ spaced (v ∷ ws)

-- ---- words

-- "Bits are 8 upper-case hexadecimal digits"
abbrev pub hex_digit : ℕ → ℕ
hex_digit n = if ltb n 10 then 48 + n else 55 + n

unfoldable pub hex_of : ℕ → List ℕ
hex_of n =
    hex_digit (n / 0x1000_0000 % 16) ∷ hex_digit (n / 0x100_0000 % 16) ∷ hex_digit (n / 0x10_0000 % 16) ∷ hex_digit (n / 0x1_0000 % 16)
    ∷ hex_digit (n / 0x1000 % 16) ∷ hex_digit (n / 0x100 % 16) ∷ hex_digit (n / 0x10 % 16) ∷ hex_digit (n % 16) ∷ []

-- a number below 1000, as all are in a transcript
unfoldable pub decimal_of : ℕ → List ℕ
decimal_of n =
    if ltb n 10 then (48 + n) ∷ []
    else if ltb n 100 then (48 + n / 10) ∷ (48 + n % 10) ∷ []
    else (48 + n / 100) ∷ (48 + n / 10 % 10) ∷ (48 + n % 10) ∷ []

-- "refused", "end" and "card"
abbrev pub refused_word : List ℕ
refused_word = 114 ∷ 101 ∷ 102 ∷ 117 ∷ 115 ∷ 101 ∷ 100 ∷ []

abbrev pub end_word : List ℕ
end_word = 101 ∷ 110 ∷ 100 ∷ []

abbrev pub card_word : List ℕ
card_word = 99 ∷ 97 ∷ 114 ∷ 100 ∷ []

-- "share or tilt bits ("-" if none)"
abbrev pub output_word : Option ℕ → List ℕ
output_word (some bits) = hex_of bits
output_word none = 45 ∷ []

-- ---- lines

-- n, and "n 3 is followed by its field"
abbrev pub refusal_words : ℕ → ℕ → List (List ℕ)
refusal_words n field = decimal_of n ∷ (if eqb n 3 then decimal_of field ∷ [] else [])

-- what stands after the index: "mode .., share or tilt bits .., handoff 0/1, report, thrust bits, pitch bits; or "index refused n""
-- "A prime or settings line has handoff 0 and the standing report" is in `prime_of` and `set_of` (joined, specs/Joined.antt), "a NaN prints as 7FC00000" in `bits_of`, by which `shown_of`
-- (joined, specs/Shown.antt) gives a number's bits.
abbrev pub words_of : Shown → List (List ℕ)
words_of (line letter output handoff report thrust pitch) = (letter ∷ []) ∷ output_word output ∷ decimal_of handoff ∷ decimal_of report ∷ hex_of thrust ∷ hex_of pitch ∷ []
words_of (refused n field) = refused_word ∷ refusal_words n field

-- "Per record after the header: index, .."
abbrev pub record_line : ℕ → Shown → List ℕ
record_line i shown = decimal_of i ++ 32 ∷ spaced (words_of shown)

-- "Last: "end" and the number of records walked after the header"
abbrev pub end_line : ℕ → List ℕ
end_line n = spaced (end_word ∷ decimal_of n ∷ [])

-- "A refused card prints only "card n", n 3 again followed by its field"
abbrev pub card_line : ℕ → ℕ → List ℕ
card_line n field = spaced (card_word ∷ refusal_words n field)

-- ---- a buffer: d' is d with the bytes s from index at on, and r is the index after them
pub record Written (d : List ℕ) (at : ℕ) (s : List ℕ) (d' : List ℕ) (r : ℕ) : Type 0 where
  pub text : d' ≡ sets d at s
  pub next : r ≡ at + length s
