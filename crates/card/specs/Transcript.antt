-- Document 01, section 7: the transcript of a card. Definitions only. Assumes nothing.
-- The card is decoded (a machine by its header, calls by the records of its chain), the calls are answered by document 01 (`answers_of` of the joined machine), and the answers are
-- printed, each with its record's index.
use Rattle.std.specs.Prelude.{ℕ, ◌≡◌, List, [], ◌∷◌, ◌++◌, length, drop, Option, Some, None, Result, Ok, Err}
use Rattle.joined.specs.declared.call.Call.{Call}
use Rattle.joined.specs.declared.joined.Joined.{Joined}
use Rattle.joined.specs.Shown.{Answer, shown_of}
use Rattle.joined.specs.List.{answers_of}
use Rattle.card.specs.CardRefusals.{card_refusal_of, card_field_of}
use Rattle.card.specs.Format.{record_at, header_of}
use Rattle.card.specs.Chain.{chain_of, outcome_of}
use Rattle.card.specs.Text.{record_line, end_line, card_line}
use Rattle.card.specs.declared.refusal.CardRefusal.{CardRefusal}

-- ---- the calls of the records passed, the last one first. A record that is no call adds none; a chain has none such (law `known`, Calls.antt)
abbrev pub with_call : Option Call → List Call → List Call
with_call (Some c) cs = c ∷ cs
with_call None cs = cs

abbrev pub calls_of : List ℕ → List ℕ → List Call
calls_of card [] = []
calls_of card (i ∷ passed) = with_call (record_at card i) (calls_of card passed)

-- ---- the lines of the records passed, from the first to the last. Records and answers stand with the last one first; there is an answer for each record (law `all_called`, Calls.antt)
abbrev pub lines_of : List ℕ → List Answer → List ℕ
lines_of [] answers = []
lines_of (i ∷ passed) [] = []
lines_of (i ∷ passed) (a ∷ answers) = lines_of passed answers ++ record_line i (shown_of a)

-- the lines of the records passed, from the machine j on
abbrev pub run_lines : List ℕ → Joined → List ℕ → List ℕ
run_lines card j passed = lines_of passed (answers_of j (calls_of card passed))

-- ---- the transcript
abbrev pub refused_card : CardRefusal → List ℕ
refused_card why = card_line (card_refusal_of why) (card_field_of why)

-- by what the header and the check say. The check refuses a card with a refused header, so the last case is not met (law `found`, SecondWalk.antt)
abbrev pub transcript_by : List ℕ → Result Joined CardRefusal → Result ℕ CardRefusal → List ℕ
transcript_by card h (Err why) = refused_card why
transcript_by card (Ok j) (Ok n) = run_lines card j (chain_of card).passed ++ end_line n
transcript_by card (Err why) (Ok n) = refused_card why

-- of a card that is run with the marks m
abbrev pub transcript_of : List ℕ → List ℕ → List ℕ
transcript_of card m = transcript_by card (header_of card) (outcome_of card m).answer

-- ---- what a run answers, and what it leaves of the marks m and of the buffer d
pub record Run : Type 0 where
  pub answer : ℕ
  pub marks : List ℕ
  pub out : List ℕ

-- The transcript stands at the start of the buffer, and the rest of it stays. The answer is the transcript's length. The buffer has 32,000 bytes, by the type of `run`, and these are room for any transcript
-- (law `transcript_fits`, Room.antt): at most 799 lines of at most 40 bytes and an end of at most 8
abbrev pub run_of : List ℕ → List ℕ → List ℕ → Run
run_of card m d = record { answer = length (transcript_of card m); marks = (outcome_of card m).marks; out = transcript_of card m ++ drop (length (transcript_of card m)) d }

-- the answer r, with the marks m and the buffer d left behind, is this run
pub record Runs (run : Run) (r : ℕ) (m d : List ℕ) : Type 0 where
  pub answers : r ≡ run.answer
  pub marks : m ≡ run.marks
  pub writes : d ≡ run.out
