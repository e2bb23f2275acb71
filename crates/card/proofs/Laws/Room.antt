-- How long a transcript can be: 32,000 bytes are room for any. Assumes nothing.
use Rattle.std.specs.Prelude.{Result, Ok, Err}
use mathlib.Core.Path.{◌≡◌, refl}
use mathlib.Core.List.{List, [], ◌∷◌}
use Prim.Native.Nat.{ℕ, ◌*◌, ◌<◌, ◌≤◌}
use native.Mathlib.Omega.{arith}
use lib.ListN.{length, length-append}
use Rattle.joined.specs.Shown.{Answer, shown_of}
use Rattle.joined.specs.List.{answers_of}
use Rattle.card.specs.CardRefusals.{card_refusal_of, card_field_of}
use Rattle.card.specs.Format.{header_of}
use Rattle.card.specs.Chain.{records, chain_of, outcome_of}
use Rattle.card.specs.Text.{record_line, end_line}
use Rattle.card.specs.Transcript.{calls_of, lines_of, transcript_by, transcript_of}
use Rattle.card.proofs.Laws.Lines.{answer_long, end_long, card_long}
use Rattle.card.proofs.Laws.Walk.{most}
use Rattle.card.proofs.Laws.SecondWalk.{found, walk_count, walk_fewer}
use Rattle.card.specs.declared.refusal.CardRefusal.{CardRefusal}
use Rattle.joined.specs.declared.joined.Joined.{Joined}

-- ---- lines
lines_long : (passed : List ℕ) (answers : List Answer) → length (lines_of passed answers) ≤ 40 * length passed
lines_long [] answers = omega arith
lines_long (i ∷ passed) [] = omega arith
lines_long (i ∷ passed) (a ∷ answers) =
    let e = length-append (lines_of passed answers) (record_line i (shown_of a)) in
    omega (arith, e, lines_long passed answers, answer_long i a)

-- ---- the transcript
pub transcript_fits : (card m : List ℕ) → length (transcript_of card m) ≤ 32000
transcript_fits card m = go (header_of card) (outcome_of card m).answer refl
  where
    go : (h : Result Joined CardRefusal) (r : Result ℕ CardRefusal) → r ≡ (outcome_of card m).answer → length (transcript_by card h r) ≤ 32000
    go h (Err why) e = omega (arith, card_long (card_refusal_of why) (card_field_of why))
    go (Err why) (Ok n) e = omega (arith, card_long (card_refusal_of why) (card_field_of why))
    go (Ok j) (Ok n) e =
        let f = found card m n e in
        let passed = (chain_of card).passed in
        let lines = lines_of passed (answers_of j (calls_of card passed)) in
        let few : length passed < records card = omega (arith, walk_count card n f.walk, walk_fewer card n f.walk) in
        omega (arith, length-append lines (end_line n), lines_long passed (answers_of j (calls_of card passed)), end_long n, few, most (length card) f.whole_card)
