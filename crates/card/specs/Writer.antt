-- Document 02, request 2.1: the card of settings and a list of calls, and what a writing answers. Definitions only. Assumes nothing.
-- A list stands with its last call first, as in joined, specs/List.antt. What each record holds: specs/Encoding.antt.
use Rattle.std.specs.Prelude.{ℕ, ◌+◌, ◌*◌, ◌≡◌, List, [], ◌∷◌, ◌++◌, length, drop, ltb, if◌then◌else◌, Result, Ok, Err}
use Rattle.machines.specs.Refusals.{refusal_of, field_of}
use Rattle.joined.specs.declared.settings.Settings.{Settings}
use Rattle.joined.specs.declared.call.Call.{Call}
use Rattle.joined.specs.declared.machine.Airframe.{Airframe}
use Rattle.machines.specs.declared.InputRefusal.{InputRefusal}
use Rattle.joined.specs.declared.joined.Joined.{Joined}
use Rattle.joined.specs.Joined.{new_of}
use Rattle.card.specs.Format.{kind_number}
use Rattle.card.specs.Bytes.{le16, words_bytes}
use Rattle.card.specs.Encoding.{encode_header, encode_of}
use Rattle.card.specs.declared.encode.Encoded.{Encoded}
use Rattle.card.specs.declared.write.WriteRefusal.{WriteRefusal}
use Rattle.card.specs.declared.write.WriteRefusal.TheVariants as refusal

-- ---- the bytes of a record that is followed by record `next`
abbrev pub record_bytes : ℕ → Encoded → List ℕ
record_bytes next r = kind_number r.kind ∷ r.option ∷ le16 next ++ words_bytes r.numbers

-- "records chained 1, 2, 3 and so on": what follows record i of a card with n calls; 0 ends the chain
abbrev pub next_of : ℕ → ℕ → ℕ
next_of n i = if ltb i n then i + 1 else 0

-- ---- the card of n calls: the header, then the calls in their order. "An empty list is a header alone"
abbrev pub header_record : Airframe → Settings → ℕ → List ℕ
header_record a s n = record_bytes (next_of n 0) (encode_header a s)

abbrev pub records_of : Airframe → ℕ → List Call → List ℕ
records_of a n [] = []
records_of a n (c ∷ cs) = records_of a n cs ++ record_bytes (next_of n (length cs + 1)) (encode_of a c)

abbrev pub card_of : Airframe → Settings → ℕ → List Call → List ℕ
card_of a s n cs = header_record a s n ++ records_of a n cs

-- how many bytes it has
abbrev pub card_bytes : ℕ → ℕ
card_bytes n = 80 * n + 80

-- ---- "Refused: 21 for more than 799 calls, then 22 for a buffer too short"; the header's own is that of its machine's making: a 3 with its field (law `header_refused`, WriterAnswers.antt)
abbrev pub write_refusal_of : WriteRefusal → ℕ
write_refusal_of refusal.Calls = 21
write_refusal_of refusal.Room = 22
write_refusal_of (refusal.Header why) = refusal_of why

abbrev pub write_field_of : WriteRefusal → ℕ
write_field_of refusal.Calls = 0
write_field_of refusal.Room = 0
write_field_of (refusal.Header why) = field_of why

-- ---- what a writing answers, the number of bytes written or a refusal, and what it leaves of the buffer d
pub record Writing : Type 0 where
  pub answer : Result ℕ WriteRefusal
  pub out : List ℕ

-- "A list that is refused writes no byte"
abbrev pub not_written : WriteRefusal → List ℕ → Writing
not_written why d = record { answer = Err why; out = d }

-- "The header's settings are checked as a card's are": by the making of its machine. "It fills only the card's bytes in the lent buffer and returns how many they are"
abbrev pub write_by : Result Joined InputRefusal → Airframe → Settings → ℕ → List Call → List ℕ → Writing
write_by (Err why) a s n cs d = not_written (refusal.Header why) d
write_by (Ok j) a s n cs d = record { answer = Ok (card_bytes n); out = card_of a s n cs ++ drop (card_bytes n) d }

-- of the n calls cs: more than 799 are refused, whatever they are. 21 and 22 come "before any setting is looked at".
-- Nothing is asked of the calls: a settings call's numbers "are left to the run"
unfoldable pub write_of : Airframe → Settings → ℕ → List Call → List ℕ → Writing
write_of a s n cs d =
    if ltb 799 n then not_written refusal.Calls d
    else if ltb (length d) (card_bytes n) then not_written refusal.Room d
    else write_by (new_of a s) a s n cs d

-- the answer r, with the buffer d left behind, is this writing
pub record Writes (writing : Writing) (r : Result ℕ WriteRefusal) (d : List ℕ) : Type 0 where
  pub answers : r ≡ writing.answer
  pub writes : d ≡ writing.out
