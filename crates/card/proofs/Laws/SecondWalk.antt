-- The walk of a run, along a chain that was found good: what holds before each record, and again after it. Assumes nothing.
use Rattle.std.specs.Prelude.{Some, Result, Ok, Err}
use mathlib.Core.Path.{◌≡◌, refl, sym, ap, ◌∙◌}
use mathlib.Core.Bool.{Bool, true, false}
use mathlib.Core.List.{List, [], ◌∷◌}
use Prim.Native.Nat.{ℕ, zero, suc, ◌+◌, ◌*◌, ◌<◌, ◌≤◌}
use native.Mathlib.Omega.{arith}
use lib.Dec.{eqb, leb}
use lib.ListN.{length}
use borrow.Author.Tests.{leb-false}
use Rattle.joined.specs.declared.joined.Joined.{Joined}
use Rattle.joined.specs.declared.call.Call.{Call}
use Rattle.joined.specs.Joined.{call_of}
use Rattle.joined.specs.Shown.{shown_of}
use Rattle.joined.specs.List.{after}
use Rattle.card.specs.Format.{next_at, record_at, is_known, header_of}
use Rattle.card.specs.Chain.{records, whole, member, Chain, stopped, follow, chain_of, outcome_by, outcome_of}
use Rattle.card.specs.Text.{record_line, Written}
use Rattle.card.specs.Transcript.{calls_of, run_lines}
use Rattle.card.specs.declared.refusal.CardRefusal.{CardRefusal}
use Rattle.card.specs.declared.refusal.CardRefusal.TheVariants as refusal
use Rattle.card.proofs.Laws.Cases.{follow_if, outcome_if}
use Rattle.card.proofs.Laws.Walk.{most}
use Rattle.card.proofs.Laws.Lines.{answer_long}
use Rattle.card.proofs.Laws.Written.{both}
use Rattle.card.proofs.Laws.Calls.{after_known, lines_known}

module _ (card : List ℕ) (chain : Chain) (count : ℕ) (walk : chain.answer ≡ Ok count) where
  not_refused : {X : Type 0} (why : CardRefusal) (passed : List ℕ) → stopped (Err why) passed ≡ chain → X
  not_refused why passed e =
      let r : Err why ≡ Ok count = ap (λ (x : Chain). x.answer) e ∙ walk in cc

  ended : (passed : List ℕ) → stopped (Ok (length passed)) passed ≡ chain → length passed ≡ count
  ended passed e =
      let s : Ok (length passed) ≡ Ok count = ap (λ (x : Chain). x.answer) e ∙ walk in
      cc

  -- a link of a good chain either ends it or passes a record
  turn : {X : Type 0} (links : ℕ) (passed : List ℕ) (link : ℕ) → follow links card passed link ≡ chain
      → (stopped (Ok (length passed)) passed ≡ chain → X)
      → ((l : ℕ) → links ≡ suc l → link < records card → is_known (record_at card link) ≡ true → follow l card (link ∷ passed) (next_at card link) ≡ chain → X) → X
  turn zero passed link e done on = not_refused refusal.PassedRecord passed e
  turn {X} (suc l) passed link e done on = go (eqb link 0) (leb (records card) link) (member link passed) (is_known (record_at card link)) refl refl e
    where
      go : (b₁ b₂ b₃ b₄ : Bool) → leb (records card) link ≡ b₂ → is_known (record_at card link) ≡ b₄
          → follow_if b₁ b₂ b₃ b₄ passed (follow l card (link ∷ passed) (next_at card link)) ≡ chain → X
      go true b₂ b₃ b₄ e₂ e₄ w = done w
      go false true b₃ b₄ e₂ e₄ w = not_refused refusal.NextIndex passed w
      go false false true b₄ e₂ e₄ w = not_refused refusal.PassedRecord passed w
      go false false false true e₂ e₄ w = on l refl (leb-false _ _ e₂) e₄ w
      go false false false false e₂ e₄ w = not_refused refusal.KindOrOption passed w

  -- the count is at least what is passed, and less than that and the links left
  bounds : (links : ℕ) (passed : List ℕ) (link : ℕ) → follow links card passed link ≡ chain → (length passed ≤ count) × (count < length passed + links)
  bounds zero passed link e = not_refused refusal.PassedRecord passed e
  bounds (suc links) passed link e =
      turn (suc links) passed link e
      (λ w. omega (arith, ended passed w))
      (λ l s h k w. let i : suc links ≡ suc l = s in let t : links ≡ l = cc in
      let b : (length (link ∷ passed) ≤ count) × (count < length (link ∷ passed) + links) = bounds links (link ∷ passed) (next_at card link) (ap (λ (x : ℕ). follow x card (link ∷ passed) (next_at card link)) t ∙ w) in
      omega arith)

  counts : (links : ℕ) (passed : List ℕ) (link : ℕ) → follow links card passed link ≡ chain → length chain.passed ≡ count
  counts zero passed link e = not_refused refusal.PassedRecord passed e
  counts (suc links) passed link e =
      turn (suc links) passed link e
      (λ w. ap (λ (x : Chain). length x.passed) (sym w) ∙ ended passed w)
      (λ l s h k w. let i : suc links ≡ suc l = s in let t : links ≡ l = cc in
      counts links (link ∷ passed) (next_at card link) (ap (λ (x : ℕ). follow x card (link ∷ passed) (next_at card link)) t ∙ w))

-- a walk counts the records that it passes
pub walk_count : (card : List ℕ) (count : ℕ) → (chain_of card).answer ≡ Ok count → length (chain_of card).passed ≡ count
walk_count card count e = counts card (chain_of card) count e (records card) [] (next_at card 0) refl

-- there are fewer of them than records
pub walk_fewer : (card : List ℕ) (count : ℕ) → (chain_of card).answer ≡ Ok count → count < records card
walk_fewer card count e = omega (arith, bounds card (chain_of card) count e (records card) [] (next_at card 0) refl)

-- before each record: the machine and the text so far are those of the `done` records passed
pub record Running (card out₀ : List ℕ) (start : Joined) (count : ℕ) (out : List ℕ) (joined : Joined) (link at done : ℕ) : Type 0 where
  pub walk : (chain_of card).answer ≡ Ok count
  pub fewer : count < records card
  pub small : length card ≤ 64000
  pub room : 32000 ≤ length out₀
  pub passed : List ℕ
  pub links : ℕ
  pub rest : follow links card passed link ≡ chain_of card
  pub machine : joined ≡ after start (calls_of card passed)
  pub wrote : Written out₀ 0 (run_lines card start passed) out at
  pub counted : length passed ≡ done
  pub short : at ≤ 40 * length passed
  pub kept : length out ≡ length out₀

pub begin : (card d : List ℕ) (start : Joined) (count : ℕ) → whole (length card) ≡ true → (chain_of card).answer ≡ Ok count → 32000 ≤ length d
    → Running card d start count d start (next_at card 0) 0 0
begin card d start count h k l =
    record {
      walk = k;
      fewer = walk_fewer card count k;
      small = most (length card) h;
      room = l;
      passed = [];
      links = records card;
      rest = refl;
      machine = refl;
      wrote = record { text = refl; next = refl };
      counted = refl;
      short = omega arith;
      kept = refl;
    }

module _ {card out₀ : List ℕ} {start : Joined} {count : ℕ} {out : List ℕ} {joined : Joined} {link at done : ℕ} (g : Running card out₀ start count out joined link at done) where
  -- with records left the link goes to one
  pub here : done < count → (link < records card) × (is_known (record_at card link) ≡ true)
  here h =
      turn card (chain_of card) count g.walk g.links g.passed link g.rest
      (λ w. let none : ⊥ = omega (arith, ended card (chain_of card) count g.walk g.passed w, g.counted) in absurd none)
      (λ l s i k w. (i, k))

  pub next : {out' : List ℕ} {c : Call} {r : ℕ} → done < count → record_at card link ≡ Some c → Written out at (record_line link (shown_of (call_of joined c).answer)) out' r
      → length out' ≡ length out → Running card out₀ start count out' (call_of joined c).state (next_at card link) r (done + 1)
  next {out'} {c} {r} h e w k =
      turn card (chain_of card) count g.walk g.links g.passed link g.rest
      (λ u. let none : ⊥ = omega (arith, ended card (chain_of card) count g.walk g.passed u, g.counted) in absurd none)
      (λ l s i is u.
      record {
        walk = g.walk;
        fewer = g.fewer;
        small = g.small;
        room = g.room;
        passed = link ∷ g.passed;
        links = l;
        rest = u;
        machine = ap (λ (x : Joined). (call_of x c).state) g.machine ∙ sym (after_known card start link g.passed e);
        wrote = rw (lines_known card start link g.passed e) (both g.wrote (rw g.machine at w));
        counted = omega (arith, g.counted);
        short = omega (arith, g.short, w.next, answer_long link (call_of joined c).answer);
        kept = k ∙ g.kept;
      })

  -- with none left the text is that of the whole chain
  pub done_all : count ≤ done → Written out₀ 0 (run_lines card start (chain_of card).passed) out at
  done_all h =
      turn card (chain_of card) count g.walk g.links g.passed link g.rest
      (λ w. rw (ap (λ (x : Chain). x.passed) w) at g.wrote)
      (λ l s i k u.
      let b = bounds card (chain_of card) count g.walk l (link ∷ g.passed) (next_at card link) u in
      let none : ⊥ = omega (arith, b.0, g.counted) in absurd none)

-- ---- what a check finds good is whole, has a machine in its header, and a chain that ends
pub record Found (card : List ℕ) (count : ℕ) : Type 0 where
  pub whole_card : whole (length card) ≡ true
  pub machine : Joined
  pub header_joined : header_of card ≡ Ok machine
  pub walk : (chain_of card).answer ≡ Ok count

pub found : (card m : List ℕ) (count : ℕ) → Ok count ≡ (outcome_of card m).answer → Found card count
unfolding outcome_of
found card m count e = go (whole (length card)) (leb (records card) (length m)) (header_of card) refl refl e
  where
    go : (b₁ b₂ : Bool) (h : Result Joined CardRefusal) → whole (length card) ≡ b₁ → header_of card ≡ h → Ok count ≡ (outcome_if b₁ b₂ (outcome_by h card m) m).answer → Found card count
    go true true (Ok j) l k w = record { whole_card = l; machine = j; header_joined = k; walk = sym w }
    go true true (Err why) l k w = cc
    go true false h l k w = cc
    go false b₂ h l k w = cc
