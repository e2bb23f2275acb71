-- The bytes of a run of numbers and of the records of a list: their count, and one more at the end. Assumes nothing.
use mathlib.Core.Path.{◌≡◌, refl, sym, ap, ◌∙◌}
use mathlib.Core.List.{List, [], ◌∷◌, ◌++◌, append_assoc, append-nil, reverse, reverse_aux-append}
use Prim.Native.Nat.{ℕ, ◌+◌, ◌*◌, ◌/◌, ◌%◌, ◌<◌}
use native.Mathlib.Omega.{arith}
use native.Mathlib.Numerals.{add-one}
use lib.ListN.{length, get_or, take, replicate, length-reverse}
use Rattle.std.proofs.lemmas.List.{drop_all}
use lib.Seq.{take-suc, length-take-le}
use Rattle.joined.specs.declared.call.Call.{Call}
use Rattle.joined.specs.declared.call.Call.TheVariants as call
use Rattle.joined.specs.declared.settings.Settings.{Settings}
use Rattle.joined.specs.declared.machine.Airframe.{Airframe}
use Rattle.card.specs.declared.encode.Encoded.{Encoded}
use Rattle.card.specs.Text.{Written}
use Rattle.card.specs.Bytes.{le32, words_bytes}
use Rattle.card.specs.Writer.{record_bytes, next_of, records_of}
use Rattle.card.proofs.Laws.Written.{at_start}
use Rattle.card.specs.Encoding.{encode_of, encode_header, step_numbers, settings_numbers}

words_append : (s t : List ℕ) → words_bytes (s ++ t) ≡ words_bytes s ++ words_bytes t
words_append [] t = refl
words_append (w ∷ s) t = ap (λ (r : List ℕ). le32 w ++ r) (words_append s t) ∙ sym (append_assoc (le32 w) (words_bytes s) (words_bytes t))

pub length_words : (ws : List ℕ) → length (words_bytes ws) ≡ 4 * length ws
unfolding le32
length_words [] = refl
length_words (w ∷ ws) = omega (arith, length_words ws)

-- the library's bytes of a number of 32 bits, the highest of which is its remainder too
pub le32_is : (n : ℕ) → n < 4294967296 → n % 256 ∷ n / 256 % 256 ∷ n / 65536 % 256 ∷ n / 16777216 % 256 ∷ [] ≡ le32 n
unfolding le32
le32_is n h = let e : n / 16777216 % 256 ≡ n / 16777216 = omega arith in ap (λ (b : ℕ). n % 256 ∷ n / 256 % 256 ∷ n / 65536 % 256 ∷ b ∷ []) e

pub words_more : (ws : List ℕ) (k : ℕ) → k < length ws → words_bytes (take (k + 1) ws) ≡ words_bytes (take k ws) ++ le32 (get_or ws k 0)
words_more ws k h =
    ap (λ (n : ℕ). words_bytes (take n ws)) (add-one k) ∙ ap words_bytes (take-suc ws k 0 h) ∙ words_append (take k ws) (get_or ws k 0 ∷ [])
    ∙ ap (λ (r : List ℕ). words_bytes (take k ws) ++ r) (append-nil (le32 (get_or ws k 0)))

-- one call more
pub calls_more : (cs : List Call) (i : ℕ) (d : Call) → i < length cs → reverse (take (i + 1) cs) ≡ get_or cs i d ∷ reverse (take i cs)
calls_more cs i d h = ap (λ (n : ℕ). reverse (take n cs)) (add-one i) ∙ ap reverse (take-suc cs i d h) ∙ reverse_aux-append (take i cs) (get_or cs i d ∷ []) []

pub records_more : (a : Airframe) (n : ℕ) (cs : List Call) (i : ℕ) (d : Call) → i < length cs
    → records_of a n (reverse (take (i + 1) cs)) ≡ records_of a n (reverse (take i cs)) ++ record_bytes (next_of n (i + 1)) (encode_of a (get_or cs i d))
records_more a n cs i d h =
    ap (records_of a n) (calls_more cs i d h)
    ∙ ap (λ (k : ℕ). records_of a n (reverse (take i cs)) ++ record_bytes (next_of n (k + 1)) (encode_of a (get_or cs i d))) (length-reverse (take i cs) ∙ length-take-le i cs (omega arith))

pub length_le32 : (n : ℕ) → length (le32 n) ≡ 4
unfolding le32
length_le32 n = refl

-- a record has 19 numbers
pub header_numbers : (a : Airframe) (s : Settings) → length (encode_header a s).numbers ≡ 19
unfolding settings_numbers
header_numbers a s = refl

pub call_numbers : (a : Airframe) (c : Call) → length (encode_of a c).numbers ≡ 19
unfolding step_numbers settings_numbers
call_numbers a (call.Prime z) = refl
call_numbers a (call.Step i) = refl
call_numbers a (call.Cut why) = refl
call_numbers a (call.Settings s) = refl

-- and 80 bytes
pub length_bytes : (next : ℕ) (e : Encoded) → length e.numbers ≡ 19 → length (record_bytes next e) ≡ 80
length_bytes next e h = omega (arith, length_words e.numbers, h)

pub length_record : (a : Airframe) (next : ℕ) (c : Call) → length (record_bytes next (encode_of a c)) ≡ 80
length_record a next c = length_bytes next (encode_of a c) (call_numbers a c)

pub length_header : (a : Airframe) (s : Settings) (next : ℕ) → length (record_bytes next (encode_header a s)) ≡ 80
length_header a s next = length_bytes next (encode_header a s) (header_numbers a s)

-- what is written of a record over 80 zeros is the record
pub whole_record : (next : ℕ) (e : Encoded) {bytes : List ℕ} {r : ℕ} → Written (replicate 80 0) 0 (record_bytes next e) bytes r → length e.numbers ≡ 19 → bytes ≡ record_bytes next e
whole_record next e w h =
    let long = length_bytes next e h in
    at_start w (omega (arith, w.next, long)) ∙ ap (λ (r : List ℕ). record_bytes next e ++ r) (drop_all (length (record_bytes next e)) (replicate 80 0) (omega (arith, long))) ∙ append-nil (record_bytes next e)

pub at_80 : {d s d₁ : List ℕ} {r : ℕ} → Written d 0 s d₁ r → r ≡ 0 + 80 → Written d 0 s d₁ 80
at_80 w e = record { text = w.text; next = sym e ∙ w.next }
