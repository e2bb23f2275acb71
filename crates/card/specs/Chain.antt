-- Document 01, section 9: the check of a card, and the marks that it leaves. Definitions only. Assumes nothing.
use Rattle.std.specs.Prelude.{ℕ, zero, suc, ◌/◌, ◌%◌, ◌≡◌, Bool, false, ◌&&◌, ◌||◌, List, [], ◌∷◌, ◌++◌, length, drop, set, replicate, eqb, leb, if◌then◌else◌, Result, Ok, Err}
use Rattle.joined.specs.declared.joined.Joined.{Joined}
use Rattle.card.specs.Format.{next_at, record_at, is_known, header_of}
use Rattle.card.specs.declared.refusal.CardRefusal.{CardRefusal}
use Rattle.card.specs.declared.refusal.CardRefusal.TheVariants as refusal

-- ---- "6 card length not 80 to 64,000 bytes in whole records"
abbrev pub whole : ℕ → Bool
whole n = leb 80 n && (leb n 64000 && eqb (n % 80) 0)

abbrev pub records : List ℕ → ℕ
records card = length card / 80

-- ---- "for each link followed 8, 9, and 10 for the record reached"
abbrev pub member : ℕ → List ℕ → Bool
member i [] = false
member i (j ∷ js) = eqb i j || member i js

-- what following the links gives: the answer, and the records passed after the header, the last one first
pub record Chain : Type 0 where
  pub answer : Result ℕ CardRefusal
  pub passed : List ℕ

abbrev pub stopped : Result ℕ CardRefusal → List ℕ → Chain
stopped answer passed = record { answer = answer; passed = passed }

-- The link to record `link` is followed, with the records `passed` behind it. A 0 ends the chain, so the header is not met again.
-- "The header counts as passed always, another record once 10 spares it."
-- Each link passes another record, so as many links as the card has records are enough (laws `enough` and `nine_exactly`, Links.antt), and the first case is not met.
abbrev pub follow : ℕ → List ℕ → List ℕ → ℕ → Chain
follow zero card passed link = stopped (Err refusal.PassedRecord) passed
follow (suc links) card passed link =
    if eqb link 0 then stopped (Ok (length passed)) passed
    else if leb (records card) link then stopped (Err refusal.NextIndex) passed
    else if member link passed then stopped (Err refusal.PassedRecord) passed
    else if is_known (record_at card link) then follow links card (link ∷ passed) (next_at card link)
    else stopped (Err refusal.KindOrOption) passed

-- the chain of a card, from the header's link on
abbrev pub chain_of : List ℕ → Chain
chain_of card = follow (records card) card [] (next_at card 0)

-- ---- "Marks (a lent byte per record): unchanged on 6, 7; else 1 for the header and each record passed, 0 for the other records, rest unchanged"

-- the marks of n records
abbrev pub marked : ℕ → List ℕ → List ℕ
marked n [] = set (replicate n 0) 0 1
marked n (i ∷ passed) = set (marked n passed) i 1

-- the marks m with those of the card's records in front
abbrev pub marks_after : List ℕ → List ℕ → List ℕ → List ℕ
marks_after card passed m = marked (records card) passed ++ drop (records card) m

-- what a check answers, and the marks that it leaves
pub record Outcome : Type 0 where
  pub answer : Result ℕ CardRefusal
  pub marks : List ℕ

-- with room for the marks, by what the header says
abbrev pub outcome_by : Result Joined CardRefusal → List ℕ → List ℕ → Outcome
outcome_by (Err why) card m = record { answer = Err why; marks = marks_after card [] m }
outcome_by (Ok j) card m = record { answer = (chain_of card).answer; marks = marks_after card (chain_of card).passed m }

-- "a card 6, 7, header 10, header 3, then for each link .."; m are the marks lent
unfoldable pub outcome_of : List ℕ → List ℕ → Outcome
outcome_of card m =
    if whole (length card) then
    (if leb (records card) (length m) then outcome_by (header_of card) card m
    else record { answer = Err refusal.Marks; marks = m })
    else record { answer = Err refusal.Length; marks = m }

-- the answer r, with the marks m left behind, is this outcome
pub record Leaves (outcome : Outcome) (r : Result ℕ CardRefusal) (m : List ℕ) : Type 0 where
  pub answers : r ≡ outcome.answer
  pub marks : m ≡ outcome.marks
