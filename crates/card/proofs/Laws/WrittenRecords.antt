-- The records of a written card stand where they are read, each holding its call, and the chain of a card whose records follow each other is walked to its end. Assumes nothing.
use Rattle.std.specs.Prelude.{Ok}
use mathlib.Core.Path.{◌≡◌, refl, sym, ap, subst, ◌∙◌}
use mathlib.Core.Bool.{Bool, true, false}
use mathlib.Core.List.{List, [], ◌∷◌, ◌++◌, map, append_assoc, append-nil}
use Prim.Native.Nat.{ℕ, zero, suc, ◌+◌, ◌*◌, ◌<◌, ◌≤◌}
use native.Mathlib.Omega.{arith}
use lib.Dec.{eqb, leb}
use lib.ListN.{length, length-append}
use lib.Ieee.{binary32}
use lib.Ieee.Bits.{of_bits-fits}
use borrow.Author.Tests.{eqb-true, eqb-false, lt-ltb, le-ltb, lt-leb, ne_eqb}
use Rattle.joined.specs.declared.settings.Settings.{Settings}
use Rattle.joined.specs.declared.call.Call.{Call}
use Rattle.joined.specs.declared.call.Call.TheVariants as call
use Rattle.joined.specs.declared.machine.Airframe.{Airframe}
use Rattle.joined.specs.declared.machine.Airframe.TheVariants as airframe
use Rattle.joined.specs.Binary32.{Binary32Settings, Binary32Call}
use Rattle.card.specs.Format.{next_at, record_at, is_known}
use Rattle.card.specs.Encoding.{used_settings, encode_header, encode_of, used_call}
use Rattle.card.specs.Writer.{record_bytes, next_of, header_record, records_of, card_of}
use Rattle.card.specs.Chain.{records, member, stopped, follow, chain_of}
use Rattle.card.specs.declared.encode.Encoded.{Encoded}
use Rattle.card.proofs.Laws.Words.{header_numbers, call_numbers, length_record, length_header}
use Rattle.card.proofs.Laws.RoundTrip.{Holds, holds}

-- ---- what the airframe uses are binary32 values too, and using it twice is using it once
pub used_binary32 : (a : Airframe) (s : Settings) → Binary32Settings s → Binary32Settings (used_settings a s)
used_binary32 airframe.Tailsitter s f = f
used_binary32 airframe.Quadplane s f =
    let zero-fits = of_bits-fits binary32 0 in
    (f.0, f.1, f.2, f.3, f.4, f.5, f.6, f.7, f.8, f.9, f.10, f.11, f.12, f.13, f.14, zero-fits, zero-fits)

pub used_call_binary32 : (a : Airframe) (c : Call) → Binary32Call c → Binary32Call (used_call a c)
used_call_binary32 a (call.Prime z) f = f
used_call_binary32 a (call.Step i) f = f
used_call_binary32 a (call.Cut why) f = f
used_call_binary32 a (call.Settings s) f = used_binary32 a s f

same_header : (a : Airframe) (s : Settings) → encode_header a (used_settings a s) ≡ encode_header a s
same_header airframe.Tailsitter s = refl
same_header airframe.Quadplane s = refl

same_record : (a : Airframe) (c : Call) → encode_of a (used_call a c) ≡ encode_of a c
same_record a (call.Prime z) = refl
same_record a (call.Step i) = refl
same_record a (call.Cut why) = refl
same_record airframe.Tailsitter (call.Settings s) = refl
same_record airframe.Quadplane (call.Settings s) = refl

pub length_used : (a : Airframe) (cs : List Call) → length (map (used_call a) cs) ≡ length cs
length_used a [] = refl
length_used a (c ∷ cs) = ap suc (length_used a cs)

pub same_records : (a : Airframe) (n : ℕ) (cs : List Call) → records_of a n (map (used_call a) cs) ≡ records_of a n cs
same_records a n [] = refl
same_records a n (c ∷ cs) = simp (same_records a n cs, same_record a c, length_used a cs)

pub same_card : (a : Airframe) (s : Settings) (n : ℕ) (cs : List Call) → card_of a (used_settings a s) n (map (used_call a) cs) ≡ card_of a s n cs
same_card a s n cs = ap (λ (e : Encoded). record_bytes (next_of n 0) e ++ records_of a n (map (used_call a) cs)) (same_header a s) ∙ ap (λ (r : List ℕ). header_record a s n ++ r) (same_records a n cs)

-- ---- a call of a list: `earlier` were made before it
pub record Placed (cs : List Call) (k : ℕ) : Type 0 where
  pub later : List Call
  pub here : Call
  pub earlier : List Call
  pub is : cs ≡ later ++ (here ∷ earlier)
  pub place : length earlier ≡ k

pub placed : (cs : List Call) (k : ℕ) → k < length cs → Placed cs k
placed [] k h = let none : ⊥ = omega arith in absurd none
placed (c ∷ cs) k h = go (eqb (length cs) k) refl (λ l. placed cs k l)
  where
    go : (b : Bool) → eqb (length cs) k ≡ b → (k < length cs → Placed cs k) → Placed (c ∷ cs) k
    go true e more = record { later = []; here = c; earlier = cs; is = refl; place = eqb-true (length cs) k e }
    go false e more =
        let differ : length cs ≡ k → ⊥ = eqb-false (length cs) k e in
        let p = more (omega arith) in
        record { later = c ∷ p.later; here = p.here; earlier = p.earlier; is = ap (λ (x : List Call). c ∷ x) p.is; place = p.place }

-- where its record stands
record Stands (a : Airframe) (n : ℕ) (later earlier : List Call) (c : Call) : Type 0 where
  rest : List ℕ
  bytes : records_of a n (later ++ (c ∷ earlier)) ≡ records_of a n earlier ++ (record_bytes (next_of n (length earlier + 1)) (encode_of a c) ++ rest)

stands : (a : Airframe) (n : ℕ) (later earlier : List Call) (c : Call) → Stands a n later earlier c
stands a n [] earlier c = record { rest = []; bytes = ap (λ (r : List ℕ). records_of a n earlier ++ r) (sym (append-nil (record_bytes (next_of n (length earlier + 1)) (encode_of a c)))) }
stands a n (d ∷ later) earlier c =
    let s = stands a n later earlier c in
    let x = record_bytes (next_of n (length earlier + 1)) (encode_of a c) in
    let y = record_bytes (next_of n (length (later ++ (c ∷ earlier)) + 1)) (encode_of a d) in
    record {
      rest = s.rest ++ y;
      bytes =
          ap (λ (r : List ℕ). r ++ y) s.bytes ∙ append_assoc (records_of a n earlier) (x ++ s.rest) y
          ∙ ap (λ (r : List ℕ). records_of a n earlier ++ r) (append_assoc x s.rest y);
    }

length_records : (a : Airframe) (n : ℕ) (cs : List Call) → length (records_of a n cs) ≡ 80 * length cs
length_records a n [] = refl
length_records a n (c ∷ cs) =
    omega (arith, length-append (records_of a n cs) (record_bytes (next_of n (length cs + 1)) (encode_of a c)), length_records a n cs, length_record a (next_of n (length cs + 1)) c)

pub length_card : (a : Airframe) (s : Settings) (n : ℕ) (cs : List Call) → length (card_of a s n cs) ≡ 80 * length cs + 80
length_card a s n cs = omega (arith, length-append (header_record a s n) (records_of a n cs), length_records a n cs, length_header a s (next_of n 0))

-- ---- the records of a card hold the header and the calls
pub header_holds : (a : Airframe) (s : Settings) (n : ℕ) (cs : List Call) → Holds (card_of a s n cs) 0 (next_of n 0) (encode_header a s)
header_holds a s n cs = holds (card_of a s n cs) [] (header_record a s n) (records_of a n cs) 0 refl refl (length_header a s (next_of n 0)) (next_of n 0) (encode_header a s) refl (header_numbers a s)

pub call_holds : (a : Airframe) (s : Settings) (n : ℕ) (later earlier : List Call) (c : Call)
    → Holds (card_of a s n (later ++ (c ∷ earlier))) (suc (length earlier)) (next_of n (suc (length earlier))) (encode_of a c)
call_holds a s n later earlier c =
    let st = stands a n later earlier c in
    let head = header_record a s n in
    let x = record_bytes (next_of n (length earlier + 1)) (encode_of a c) in
    let one : length earlier + 1 ≡ suc (length earlier) = omega arith in
    let card = card_of a s n (later ++ (c ∷ earlier)) in
    subst (λ (k : ℕ). Holds card (suc (length earlier)) (next_of n k) (encode_of a c)) one
    (holds card (head ++ records_of a n earlier) x st.rest (suc (length earlier))
    (ap (λ (r : List ℕ). head ++ r) st.bytes ∙ sym (append_assoc head (records_of a n earlier) (x ++ st.rest)))
    (omega (arith, length-append head (records_of a n earlier), length_records a n earlier, length_header a s (next_of n 0)))
    (length_record a (next_of n (length earlier + 1)) c) (next_of n (length earlier + 1)) (encode_of a c) refl (call_numbers a c))

-- ---- the numbers n, .., 2, 1
abbrev pub down : ℕ → List ℕ
down zero = []
down (suc k) = suc k ∷ down k

length_down : (k : ℕ) → length (down k) ≡ k
length_down zero = refl
length_down (suc k) = ap suc (length_down k)

not_in : (i k : ℕ) → k < i → member i (down k) ≡ false
not_in i zero h = refl
not_in i (suc k) h = simp (ne_eqb i (suc k) (λ e. omega arith), not_in i k (omega arith))

-- what follows a record
next_on : (n k : ℕ) → k < n → next_of n k ≡ suc k
next_on n k h = simp (lt-ltb k n h) (let one : k + 1 ≡ suc k = omega arith in one)

next_last : (n : ℕ) → next_of n n ≡ 0
next_last n = simp (le-ltb n n (omega arith))

-- a link to a known record that was not passed is followed
link_on : (card : List ℕ) (f : ℕ) (passed : List ℕ) (link : ℕ) → eqb link 0 ≡ false → leb (records card) link ≡ false → member link passed ≡ false → is_known (record_at card link) ≡ true
    → follow (suc f) card passed link ≡ follow f card (link ∷ passed) (next_at card link)
link_on card f passed link e₁ e₂ e₃ e₄ = simp (e₁, e₂, e₃, e₄)

-- a card whose records follow each other is walked to its end
module _ (card : List ℕ) (n : ℕ) (size : records card ≡ suc n) (links : (i : ℕ) → i ≤ n → next_at card i ≡ next_of n i) (known : (i : ℕ) → i < n → is_known (record_at card (suc i)) ≡ true) where
  ends : follow 1 card (down n) 0 ≡ stopped (Ok n) (down n)
  ends = ap (λ (k : ℕ). stopped (Ok k) (down n)) (length_down n)

  walks : (m k : ℕ) → n ≡ m + k → follow (suc m) card (down k) (next_of n k) ≡ stopped (Ok n) (down n)
  walks zero k e =
      let same : n ≡ k = omega arith in
      subst (λ (x : ℕ). follow 1 card (down x) (next_of n x) ≡ stopped (Ok n) (down n)) same (ap (follow 1 card (down n)) (next_last n) ∙ ends)
  walks (suc m) k e =
      ap (follow (suc (suc m)) card (down k)) (next_on n k (omega arith))
      ∙ link_on card (suc m) (down k) (suc k) (ne_eqb (suc k) 0 (λ e₀. omega arith)) (lt-leb (records card) (suc k) (omega (arith, size))) (not_in (suc k) k (omega arith)) (known k (omega arith))
      ∙ ap (follow (suc m) card (down (suc k))) (links (suc k) (omega arith)) ∙ walks m (suc k) (omega arith)

  pub straight : chain_of card ≡ stopped (Ok n) (down n)
  straight = ap (λ (f : ℕ). follow f card [] (next_at card 0)) size ∙ ap (follow (suc n) card []) (links 0 (omega arith)) ∙ walks n 0 (omega arith)
