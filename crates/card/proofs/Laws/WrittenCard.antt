-- Request 2.1, for every list of at most 799 calls and accepted settings, their numbers binary32 values: a written card is accepted, reading it gives the settings and the calls back, as the
-- airframe uses them, writing what was read gives the same bytes, and its run is the list's. Assumes nothing.
use Rattle.std.specs.Prelude.{Option, Some, Result, Ok, Err}
use mathlib.Core.Path.{◌≡◌, refl, sym, ap, subst, ◌∙◌}
use mathlib.Core.Bool.{true}
use mathlib.Core.List.{List, [], ◌∷◌, ◌++◌, map, append_assoc}
use Prim.Native.Nat.{ℕ, zero, suc, ◌+◌, ◌*◌, ◌/◌, ◌%◌, ◌<◌, ◌≤◌}
use native.Mathlib.Omega.{arith}
use lib.Dec.{leb}
use lib.ListN.{length, drop}
use borrow.Author.Tests.{le-leb, eq-eqb}
use Rattle.joined.specs.declared.settings.Settings.{Settings}
use Rattle.joined.specs.declared.call.Call.{Call}
use Rattle.joined.specs.declared.call.Call.TheVariants as call
use Rattle.joined.specs.declared.machine.Airframe.{Airframe}
use Rattle.joined.specs.declared.machine.Airframe.TheVariants as airframe
use Rattle.joined.specs.declared.machine.Machine.{Machine}
use Rattle.joined.specs.declared.machine.Machine.TheVariants as machine
use Rattle.joined.specs.declared.joined.Joined.{Joined}
use Rattle.machines.specs.declared.InputRefusal.{InputRefusal}
use Rattle.joined.specs.Binary32.{Binary32Settings, Binary32Call, Binary32Calls}
use Rattle.joined.specs.Machine.{airframe_of, set_machine_of}
use Rattle.joined.specs.Joined.{JoinedUpdate, new_of, set_by, call_of}
use Rattle.joined.specs.Shown.{Answer}
use Rattle.joined.specs.List.{after, answers_of}
use Rattle.joined.specs.Claim.{Claim}
use Rattle.joined.proofs.Laws.Moves.{airframe_kept}
use Rattle.joined.proofs.Laws.Every.{claim}
use Rattle.card.specs.Format.{airframe_kind, header_kind, kind_at, option_at, next_at, settings_at, record_at, is_known, header_for, header_of}
use Rattle.card.specs.Encoding.{used_settings, encode_of, used_call}
use Rattle.card.specs.Writer.{next_of, card_of, card_bytes, write_by, write_of}
use Rattle.card.specs.Chain.{whole, records, Chain, stopped, chain_of, outcome_of}
use Rattle.card.specs.Text.{end_line}
use Rattle.card.specs.Transcript.{with_call, calls_of, lines_of, transcript_by, transcript_of}
use Rattle.card.proofs.Laws.RoundTrip.{Holds, settings_back, call_back}
use Rattle.card.proofs.Laws.WrittenRecords.{used_binary32, used_call_binary32, length_used, same_card, Placed, placed, length_card, header_holds, call_holds, down, straight}
use Rattle.card.specs.declared.refusal.CardRefusal.{CardRefusal}

-- ---- what the airframe does not use is not told apart
pub used_new : (a : Airframe) (s : Settings) → new_of a (used_settings a s) ≡ new_of a s
used_new airframe.Tailsitter s = refl
used_new airframe.Quadplane s = refl

used_set : (m : Machine) (s : Settings) → set_machine_of m (used_settings (airframe_of m) s) ≡ set_machine_of m s
used_set (machine.Tailsitter m) s = refl
used_set (machine.Quadplane m) s = refl

pub used_alike : (j : Joined) (c : Call) → call_of j (used_call (airframe_of j.machine) c) ≡ call_of j c
used_alike j (call.Prime z) = refl
used_alike j (call.Step i) = refl
used_alike j (call.Cut why) = refl
used_alike j (call.Settings s) = ap (set_by j) (used_set j.machine s)

-- the airframe stays, so that this holds along a list
module _ (j : Joined) where
  stays : (cs : List Call) → airframe_of (after j cs).machine ≡ airframe_of j.machine
  stays [] = refl
  stays (c ∷ cs) = airframe_kept (after j cs) c ∙ stays cs

  abbrev used : List Call → List Call
  used = map (used_call (airframe_of j.machine))

  call_used : (cs : List Call) (c : Call) → after j (used cs) ≡ after j cs → call_of (after j (used cs)) (used_call (airframe_of j.machine) c) ≡ call_of (after j cs) c
  call_used cs c e =
      ap (λ (x : Joined). call_of x (used_call (airframe_of j.machine) c)) e ∙ ap (λ (a : Airframe). call_of (after j cs) (used_call a c)) (sym (stays cs)) ∙ used_alike (after j cs) c

  after_used : (cs : List Call) → after j (used cs) ≡ after j cs
  after_used [] = refl
  after_used (c ∷ cs) = ap (λ (u : JoinedUpdate). u.state) (call_used cs c (after_used cs))

  answers_used : (cs : List Call) → answers_of j (used cs) ≡ answers_of j cs
  answers_used [] = refl
  answers_used (c ∷ cs) =
      ap (λ (u : JoinedUpdate). u.answer ∷ answers_of j (used cs)) (call_used cs c (after_used cs)) ∙ ap (λ (l : List Answer). (call_of (after j cs) c).answer ∷ l) (answers_used cs)

-- ---- the records of a card, by their places
in_list : (later : List Call) (c : Call) (earlier : List Call) → Binary32Calls (later ++ (c ∷ earlier)) → Binary32Call c
in_list [] c earlier f = f.0
in_list (d ∷ later) c earlier f = in_list later c earlier f.1

used_back : (r : Option Call) (c : Call) (cs : List Call) → r ≡ Some c → with_call r cs ≡ c ∷ cs
used_back r c cs e = simp (e)

module _ (a : Airframe) (s : Settings) (cs : List Call) (few : length cs ≤ 799) (bs : Binary32Settings s) (bc : Binary32Calls cs) where
  abbrev n : ℕ
  n = length cs

  abbrev written : List ℕ
  written = card_of a s n cs

  at : {k : ℕ} (p : Placed cs k) → Holds written (suc k) (next_of n (suc k)) (encode_of a p.here)
  at {k} p =
      subst (λ (x : List Call). Holds (card_of a s n x) (suc k) (next_of n (suc k)) (encode_of a p.here)) (sym p.is)
      (subst (λ (i : ℕ). Holds (card_of a s n (p.later ++ (p.here ∷ p.earlier))) (suc i) (next_of n (suc i)) (encode_of a p.here)) p.place
      (call_holds a s n p.later p.earlier p.here))

  reads : {k : ℕ} (p : Placed cs k) → record_at written (suc k) ≡ Some (used_call a p.here)
  reads p = call_back a p.here (used_call_binary32 a p.here (in_list p.later p.here p.earlier (subst Binary32Calls p.is bc))) (at p)

  has_size : length written ≡ card_bytes n
  has_size = length_card a s n cs

  has_records : records written ≡ suc n
  has_records = ap (λ (k : ℕ). k / 80) has_size ∙ (let e : (80 * n + 80) / 80 ≡ suc n = omega arith in e)

  links : (i : ℕ) → i ≤ n → next_at written i ≡ next_of n i
  links zero h = (header_holds a s n cs).link
  links (suc k) h = (at (placed cs k (omega arith))).link

  known : (i : ℕ) → i < n → is_known (record_at written (suc i)) ≡ true
  known i h = ap is_known (reads (placed cs i h))

  has_chain : chain_of written ≡ stopped (Ok n) (down n)
  has_chain = straight written n has_records links known

  -- the calls of the records of `earlier`
  calls_from : (later earlier : List Call) → cs ≡ later ++ earlier → calls_of written (down (length earlier)) ≡ map (used_call a) earlier
  calls_from later [] e = refl
  calls_from later (c ∷ earlier) e =
      used_back (record_at written (suc (length earlier))) (used_call a c) (calls_of written (down (length earlier))) (reads (record { later = later; here = c; earlier = earlier; is = e; place = refl }))
      ∙ ap (λ (r : List Call). used_call a c ∷ r) (calls_from (later ++ (c ∷ [])) earlier (e ∙ sym (append_assoc later (c ∷ []) earlier)))

  has_calls : calls_of written (chain_of written).passed ≡ map (used_call a) cs
  has_calls = ap (λ (x : Chain). calls_of written x.passed) has_chain ∙ calls_from [] cs refl

  has_settings : settings_at written 0 ≡ used_settings a s
  has_settings = settings_back (airframe_kind a) a s (used_binary32 a s bs) (header_holds a s n cs)

  is_whole : whole (length written) ≡ true
  is_whole = ap whole has_size ∙ simp (le-leb 80 (80 * n + 80) (omega arith), le-leb (80 * n + 80) 64000 (omega arith), eq-eqb ((80 * n + 80) % 80) 0 (omega arith))

-- ---- a header and a check that refuse nothing, and a writing of what is used
header_by : (a : Airframe) (card : List ℕ) (made : Result Joined InputRefusal) → option_at card 0 ≡ 0 → kind_at card 0 ≡ header_kind a → new_of a (settings_at card 0) ≡ made → header_of card ≡ header_for made
unfolding header_of
header_by airframe.Tailsitter card made o k e = simp (o, k, e)
header_by airframe.Quadplane card made o k e = simp (o, k, e)

-- "The header's settings are checked as a card's are": reading the card gives what their making gives, refusals with it
pub header_read : (a : Airframe) (s : Settings) (n : ℕ) (cs : List Call) → Binary32Settings s → header_of (card_of a s n cs) ≡ header_for (new_of a s)
header_read a s n cs bs =
    let h = header_holds a s n cs in
    header_by a (card_of a s n cs) (new_of a s) h.option h.kind (ap (new_of a) (settings_back (airframe_kind a) a s (used_binary32 a s bs) h) ∙ used_new a s)

answer_by : (card m : List ℕ) (j : Joined) → whole (length card) ≡ true → leb (records card) (length m) ≡ true → header_of card ≡ Ok j → (outcome_of card m).answer ≡ (chain_of card).answer
unfolding outcome_of
answer_by card m j w h e = simp (w, h, e)

writing_by : (x : Result Joined InputRefusal) (a : Airframe) (s : Settings) (n : ℕ) (cs : List Call) (d : List ℕ) → write_by x a (used_settings a s) n (map (used_call a) cs) d ≡ write_by x a s n cs d
writing_by (Err why) a s n cs d = refl
writing_by (Ok j) a s n cs d = ap (λ (b : List ℕ). record { answer = Ok (card_bytes n); out = b ++ drop (card_bytes n) d }) (same_card a s n cs)

same_writing : (a : Airframe) (s : Settings) (n : ℕ) (cs : List Call) (d : List ℕ) → write_of a (used_settings a s) n (map (used_call a) cs) d ≡ write_of a s n cs d
unfolding write_of
same_writing a s n cs d = simp (used_new a s, writing_by (new_of a s) a s n cs d)

-- ---- the theorem
module _ (a : Airframe) (s : Settings) (cs : List Call) (j : Joined) where
  abbrev card : List ℕ
  card = card_of a s (length cs) cs

  abbrev calls_read : List Call
  calls_read = calls_of card (chain_of card).passed

  pub record ReadBack : Type 0 where
    pub size : length card ≡ card_bytes (length cs)
    -- "Reading a written card gives the settings and the calls back", as the airframe uses them: a quadplane's 16 and 17 come back as 0.
    -- "calls are compared NaN as NaN": by equality, since lib.Ieee has one NaN
    pub kind : kind_at card 0 ≡ header_kind a
    pub settings : settings_at card 0 ≡ used_settings a s
    pub header : header_of card ≡ Ok j
    pub chain : chain_of card ≡ stopped (Ok (length cs)) (down (length cs))
    pub calls : calls_read ≡ map (used_call a) cs
    -- "writing what was read from such a card gives the same bytes": the same card, and the same writing into any buffer
    pub same_bytes : card_of a (settings_at card 0) (length calls_read) calls_read ≡ card
    pub again : (d : List ℕ) → write_of a (settings_at card 0) (length calls_read) calls_read d ≡ write_of a s (length cs) cs d
    -- it is accepted, with marks enough
    pub accepted : (m : List ℕ) → leb (records card) (length m) ≡ true → (outcome_of card m).answer ≡ Ok (length cs)
    -- the machine answers what was read as it answers the list, and is left in the same state, so that the list theorem's claim of the list holds of the card's run; the transcript is of these answers
    pub answers : answers_of j calls_read ≡ answers_of j cs
    pub state : after j calls_read ≡ after j cs
    pub run : (m : List ℕ) → leb (records card) (length m) ≡ true → transcript_of card m ≡ lines_of (down (length cs)) (answers_of j cs) ++ end_line (length cs)
    pub list_claim : Claim a s j cs (answers_of j calls_read) (after j calls_read)

module _ (a : Airframe) (s : Settings) (cs : List Call) (few : length cs ≤ 799) (bs : Binary32Settings s) (bc : Binary32Calls cs) (j : Joined) (new : new_of a s ≡ Ok j) where
  abbrev c : List ℕ
  c = written a s cs few bs bc

  abbrev back : List Call
  back = calls_of c (chain_of c).passed

  has_header : header_of c ≡ Ok j
  has_header = header_read a s (length cs) cs bs ∙ ap header_for new

  has_answer : (m : List ℕ) → leb (records c) (length m) ≡ true → (outcome_of c m).answer ≡ Ok (length cs)
  has_answer m h = answer_by c m j (is_whole a s cs few bs bc) h has_header ∙ ap (λ (x : Chain). x.answer) (has_chain a s cs few bs bc)

  -- what was read are the calls as the machine's airframe uses them
  has_used : back ≡ used j cs
  has_used = has_calls a s cs few bs bc ∙ ap (λ (x : Airframe). map (used_call x) cs) (sym (claim a s bs j new [] tt).airframe)

  has_answers : answers_of j back ≡ answers_of j cs
  has_answers = ap (answers_of j) has_used ∙ answers_used j cs

  has_state : after j back ≡ after j cs
  has_state = ap (after j) has_used ∙ after_used j cs

  has_length : length back ≡ length cs
  has_length = ap length (has_calls a s cs few bs bc) ∙ length_used a cs

  has_run : (m : List ℕ) → leb (records c) (length m) ≡ true → transcript_of c m ≡ lines_of (down (length cs)) (answers_of j cs) ++ end_line (length cs)
  has_run m h =
      ap (transcript_by c (header_of c)) (has_answer m h) ∙ ap (λ (x : Result Joined CardRefusal). transcript_by c x (Ok (length cs))) has_header
      ∙ ap (λ (l : List Answer). lines_of (chain_of c).passed l ++ end_line (length cs)) has_answers
      ∙ ap (λ (x : Chain). lines_of x.passed (answers_of j cs) ++ end_line (length cs)) (has_chain a s cs few bs bc)

  -- whatever is made of airframe, settings, number and list, what was read gives the same as what is used of the list
  from_read : {X : Type 0} (make : Settings → ℕ → List Call → X) → make (settings_at c 0) (length back) back ≡ make (used_settings a s) (length cs) (map (used_call a) cs)
  from_read make =
      ap (λ (x : Settings). make x (length back) back) (has_settings a s cs few bs bc) ∙ ap (λ (k : ℕ). make (used_settings a s) k back) has_length
      ∙ ap (make (used_settings a s) (length cs)) (has_calls a s cs few bs bc)

  pub read_back : ReadBack a s cs j
  read_back =
      record {
        size = has_size a s cs few bs bc;
        kind = (header_holds a s (length cs) cs).kind;
        settings = has_settings a s cs few bs bc;
        header = has_header;
        chain = has_chain a s cs few bs bc;
        calls = has_calls a s cs few bs bc;
        same_bytes = from_read (λ x k l. card_of a x k l) ∙ same_card a s (length cs) cs;
        again = λ d. from_read (λ x k l. write_of a x k l d) ∙ same_writing a s (length cs) cs d;
        accepted = has_answer;
        answers = has_answers;
        state = has_state;
        run = has_run;
        list_claim = subst (λ (e : Joined). Claim a s j cs (answers_of j back) e) (sym has_state) (subst (λ (l : List Answer). Claim a s j cs l (after j cs)) (sym has_answers) (claim a s bs j new cs bc));
      }
