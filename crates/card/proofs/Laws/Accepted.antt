-- What holds of every card that is not refused: its transcript is the lines of its calls' answers and the count, and what the list theorem of the joined machine claims (`Claim`) holds of
-- its calls.
-- Assumes nothing.
use Rattle.std.specs.Prelude.{Result, Ok}
use mathlib.Core.Path.{◌≡◌, sym, ap, ◌∙◌}
use mathlib.Core.List.{List, ◌++◌}
use Prim.Native.Nat.{ℕ}
use lib.ListN.{length}
use Rattle.joined.specs.declared.machine.Airframe.{Airframe}
use Rattle.joined.specs.declared.joined.Joined.{Joined}
use Rattle.joined.specs.List.{after, answers_of}
use Rattle.joined.specs.Claim.{Claim}
use Rattle.joined.proofs.Laws.Every.{claim}
use Rattle.card.specs.Format.{settings_at, header_of}
use Rattle.card.specs.Chain.{chain_of, outcome_of}
use Rattle.card.specs.Text.{end_line}
use Rattle.card.specs.Transcript.{calls_of, lines_of, transcript_by, transcript_of}
use Rattle.card.proofs.Laws.SecondWalk.{found, walk_count}
use Rattle.card.proofs.Laws.Headers.{made_by}
use Rattle.card.proofs.Laws.Binary32.{settings_binary32, calls_binary32}
use Rattle.card.specs.declared.refusal.CardRefusal.{CardRefusal}

-- of a card whose records passed are `passed`, the last one first
pub record Accepted (card m passed : List ℕ) : Type 0 where
  pub airframe : Airframe
  pub machine : Joined
  pub header : header_of card ≡ Ok machine
  -- the calls, their answers by document 01, and the state after them
  pub list_claim : Claim airframe (settings_at card 0) machine (calls_of card passed) (answers_of machine (calls_of card passed)) (after machine (calls_of card passed))
  -- the answers' lines and the count
  pub transcript : transcript_of card m ≡ lines_of passed (answers_of machine (calls_of card passed)) ++ end_line (length passed)

pub accepted : (card m : List ℕ) (count : ℕ) → (outcome_of card m).answer ≡ Ok count → Accepted card m (chain_of card).passed
accepted card m count e =
    let f = found card m count (sym e) in
    let j = f.machine in
    let new = made_by card j f.header_joined in
    let passed = (chain_of card).passed in
    record {
      airframe = new.airframe;
      machine = j;
      header = f.header_joined;
      list_claim = claim new.airframe (settings_at card 0) (settings_binary32 card 0) j new.new (calls_of card passed) (calls_binary32 card passed);
      transcript =
          ap (transcript_by card (header_of card)) e ∙ ap (λ (h : Result Joined CardRefusal). transcript_by card h (Ok count)) f.header_joined
          ∙ ap (λ (n : ℕ). lines_of passed (answers_of j (calls_of card passed)) ++ end_line n) (sym (walk_count card count f.walk));
    }
