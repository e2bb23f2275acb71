-- Request 2.1: what each answer of the writer says, of the list and of the buffer. Assumes nothing.
use Rattle.std.specs.Prelude.{Result, Ok, Err}
use mathlib.Core.Path.{◌≡◌, refl, ap, ◌∙◌}
use mathlib.Core.Bool.{Bool, true, false}
use mathlib.Core.List.{List, [], ◌∷◌, ◌++◌, append-nil, reverse, reverse_aux}
use Prim.Native.Nat.{ℕ, zero, suc, ◌<◌, ◌≤◌}
use native.Mathlib.Omega.{arith}
use lib.Dec.{ltb}
use lib.ListN.{length, take, drop, length-reverse}
use lib.Seq.{length-take-le, take_at, drop_at}
use Rattle.std.proofs.Common.{take_all, le_refl}
use borrow.Author.Tests.{ltb-true, ltb-false}
use Rattle.machines.specs.declared.InputRefusal.{InputRefusal}
use Rattle.joined.specs.declared.settings.Settings.{Settings}
use Rattle.joined.specs.declared.call.Call.{Call}
use Rattle.joined.specs.declared.machine.Airframe.{Airframe}
use Rattle.joined.specs.declared.joined.Joined.{Joined}
use Rattle.joined.specs.Binary32.{Binary32Settings, Binary32Calls}
use Rattle.joined.specs.Joined.{new_of}
use Rattle.card.specs.Encoding.{encode_header}
use Rattle.card.specs.Writer.{record_bytes, card_of, card_bytes, write_refusal_of, Writing, write_by, write_of, Writes}
use Rattle.card.specs.declared.write.WriteRefusal.{WriteRefusal}
use Rattle.card.specs.declared.write.WriteRefusal.TheVariants as refusal
use Rattle.card.proofs.Laws.Headers.{header_three}
use Rattle.card.proofs.Laws.WrittenRecords.{length_card}
use Rattle.card.proofs.Laws.WrittenCard.{ReadBack, read_back}

-- the list that `write` is given has as many calls as it is told
pub as_many : (calls : List Call) (n : ℕ) → n ≤ length calls → length (reverse (take n calls)) ≡ n
as_many calls n h = length-reverse (take n calls) ∙ length-take-le n calls h

-- "An empty list is a header alone"
pub header_alone : (a : Airframe) (s : Settings) → card_of a s 0 [] ≡ record_bytes 0 (encode_header a s)
header_alone a s = append-nil (record_bytes 0 (encode_header a s))

-- of n calls cs and the buffer d: w is the writing, k the number of bytes returned
pub record CardWritten (a : Airframe) (s : Settings) (n : ℕ) (cs : List Call) (d : List ℕ) (w : Writing) (k : ℕ) : Type 0 where
  pub few : n ≤ 799
  pub as_told : length cs ≡ n
  pub machine : Joined
  pub new : new_of a s ≡ Ok machine
  -- "It fills only the card's bytes in the lent buffer and returns how many they are"
  pub bytes : k ≡ card_bytes n
  pub room : k ≤ length d
  pub front : take k w.out ≡ card_of a s n cs
  pub rest : drop k w.out ≡ drop k d
  pub reads_back : ReadBack a s cs machine

-- when a list is refused: no call is looked at, so a settings call's numbers "are left to the run"
abbrev pub RefusedFor : Airframe → Settings → ℕ → List ℕ → WriteRefusal → Type 0
RefusedFor a s n d refusal.Calls = 799 < n
RefusedFor a s n d refusal.Room = (n ≤ 799) × (length d < card_bytes n)
RefusedFor a s n d (refusal.Header why) = (n ≤ 799) × (card_bytes n ≤ length d) × (new_of a s ≡ Err why)

-- "A list that is refused writes no byte"
pub record NothingWritten (a : Airframe) (s : Settings) (n : ℕ) (d : List ℕ) (w : Writing) (why : WriteRefusal) : Type 0 where
  pub for : RefusedFor a s n d why
  pub out : w.out ≡ d

abbrev pub ByAnswer : Airframe → Settings → ℕ → List Call → List ℕ → Writing → Result ℕ WriteRefusal → Type 0
ByAnswer a s n cs d w (Ok k) = CardWritten a s n cs d w k
ByAnswer a s n cs d w (Err why) = NothingWritten a s n d w why

module _ (a : Airframe) (s : Settings) (n : ℕ) (cs : List Call) (d : List ℕ) (told : n ≤ 799 → length cs ≡ n) (bs : Binary32Settings s) (bc : Binary32Calls cs) where
  on_card : (j : Joined) → new_of a s ≡ Ok j → n ≤ 799 → card_bytes n ≤ length d
      → CardWritten a s n cs d (record { answer = Ok (card_bytes n); out = card_of a s n cs ++ drop (card_bytes n) d }) (card_bytes n)
  on_card j e few room =
      let size : length (card_of a s n cs) ≡ card_bytes n = length_card a s n cs ∙ ap card_bytes (told few) in
      record {
        few = few;
        as_told = told few;
        machine = j;
        new = e;
        bytes = refl;
        room = room;
        front = take_at (card_of a s n cs) (drop (card_bytes n) d) (card_bytes n) size;
        rest = drop_at (card_of a s n cs) (drop (card_bytes n) d) (card_bytes n) size;
        reads_back = read_back a s cs (omega (arith, told few)) bs bc j e;
      }

  by_machine : (x : Result Joined InputRefusal) → new_of a s ≡ x → n ≤ 799 → card_bytes n ≤ length d → ByAnswer a s n cs d (write_by x a s n cs d) (write_by x a s n cs d).answer
  by_machine (Ok j) e few room = on_card j e few room
  by_machine (Err why) e few room = record { for = (few, room, e); out = refl }

  by_tests : (b₁ b₂ : Bool) → ltb 799 n ≡ b₁ → ltb (length d) (card_bytes n) ≡ b₂ → ByAnswer a s n cs d (write_of a s n cs d) (write_of a s n cs d).answer
  unfolding write_of
  by_tests true b₂ e₁ e₂ = simp (e₁) (record { for = ltb-true 799 n e₁; out = refl })
  by_tests false true e₁ e₂ = simp (e₁, e₂) (record { for = (ltb-false 799 n e₁, ltb-true (length d) (card_bytes n) e₂); out = refl })
  by_tests false false e₁ e₂ = simp (e₁, e₂) (by_machine (new_of a s) refl (ltb-false 799 n e₁) (ltb-false (length d) (card_bytes n) e₂))

  -- each answer; that numbers are binary32 values is asked for reading back alone
  pub every_writing : ByAnswer a s n cs d (write_of a s n cs d) (write_of a s n cs d).answer
  every_writing = by_tests (ltb 799 n) (ltb (length d) (card_bytes n)) refl refl

-- ---- the same of what `write` answers and leaves, of the first n of the calls
in_order_lem : (cs ds : List Call) → Binary32Calls cs → Binary32Calls ds → Binary32Calls (reverse_aux cs ds)
in_order_lem [] ds f g = g
in_order_lem (c ∷ cs) ds f g = in_order_lem cs (c ∷ ds) f.1 (f.0, g)

first_ones : (n : ℕ) (cs : List Call) → Binary32Calls cs → Binary32Calls (take n cs)
first_ones zero cs f = tt
first_ones (suc n) [] f = tt
first_ones (suc n) (c ∷ cs) f = (f.0, first_ones n cs f.1)

pub of_write : (a : Airframe) (s : Settings) (calls : List Call) (n : ℕ) (d : List ℕ) (r : Result ℕ WriteRefusal) (d' : List ℕ) → (n ≤ 799 → n ≤ length calls) → Binary32Settings s → Binary32Calls calls
    → Writes (write_of a s n (reverse (take n calls)) d) r d' → ByAnswer a s n (reverse (take n calls)) d (record { answer = r; out = d' }) r
of_write a s calls n d r d' enough bs bc w =
    simp (w.answers, w.writes) (every_writing a s n (reverse (take n calls)) d (λ few. as_many calls n (enough few)) bs (in_order_lem (take n calls) [] (first_ones n calls bc) tt))

-- of all of them, as `write` has it
pub of_calls : (a : Airframe) (s : Settings) (calls : List Call) (d : List ℕ) (r : Result ℕ WriteRefusal) (d' : List ℕ) → Binary32Settings s → Binary32Calls calls
    → Writes (write_of a s (length calls) (reverse calls) d) r d' → ByAnswer a s (length calls) (reverse calls) d (record { answer = r; out = d' }) r
of_calls a s calls d r d' bs bc w =
    let all = take_all (length calls) calls (le_refl _) in
    rw all at (of_write a s calls (length calls) d r d' (λ few. le_refl _) bs bc (rw all w))

-- the refusal of a header's settings is a 3
pub header_refused : (a : Airframe) (s : Settings) (why : InputRefusal) → new_of a s ≡ Err why → write_refusal_of (refusal.Header why) ≡ 3
header_refused a s why e = header_three a s why e
