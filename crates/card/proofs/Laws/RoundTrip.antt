-- A record of a written card is read back: its kind, option, link and numbers, and so the call that it holds, wherever it stands. Assumes nothing.
use Rattle.std.specs.Prelude.{Option, Some, None}
use mathlib.Core.Path.{◌≡◌, refl, sym, ap, ◌∙◌}
use mathlib.Core.Bool.{true}
use mathlib.Core.List.{List, [], ◌∷◌, ◌++◌}
use Prim.Native.Nat.{ℕ, zero, suc, ◌+◌, ◌*◌, ◌/◌, ◌%◌, ◌<◌}
use native.Mathlib.Nat.{le_of_suc-le-suc}
use native.Mathlib.Omega.{arith}
use lib.ListN.{length, get_or}
use lib.Dec.{leb}
use lib.Ieee.{Float, binary32}
use lib.Ieee.Bits.{of_bits-to_bits}
use Rattle.numbers.specs.Numbers.{IsBinary32, bits_of, float_of}
use Rattle.machines.specs.declared.FlightRegime.{FlightRegime}
use Rattle.machines.specs.declared.FlightRegime.TheVariants as regime
use Rattle.joined.specs.declared.settings.Settings.{Settings}
use Rattle.joined.specs.declared.call.StepInput.{StepInput}
use Rattle.joined.specs.declared.call.Call.{Call}
use Rattle.joined.specs.declared.call.Call.TheVariants as call
use Rattle.joined.specs.declared.machine.Airframe.{Airframe}
use Rattle.joined.specs.Calls.{settings_by, vehicle_by, step_input_by, requested_of, airspeed_of}
use Rattle.joined.specs.Binary32.{Binary32Settings, Binary32Airspeed, Binary32Step, Binary32Call}
use Rattle.card.specs.Bytes.{u16_at, u32_at, le32, words_bytes}
use Rattle.card.specs.Format.{kind_number, record_part, kind_at, option_at, next_at, number_at, settings_at, record_at}
use Rattle.card.specs.declared.kind.Kind.{Kind}
use Rattle.card.specs.declared.kind.Kind.TheVariants as kind
use Rattle.card.specs.declared.encode.Encoded.{Encoded}
use Rattle.card.specs.Encoding.{request_number, present_number, speed_bits, used_settings, settings_numbers, step_numbers, encode_step, encode_settings, encode_of, used_call}
use Rattle.card.specs.Writer.{record_bytes}
use Rattle.card.proofs.Laws.Calls.{cut_by_number}
use Rattle.card.proofs.Laws.Parts.{part_is, kind_in, option_in, next_in, number_in}

u32_back : (n : ℕ) → n % 256 + n / 256 % 256 * 256 + n / 65536 % 256 * 65536 + n / 16777216 * 16777216 ≡ n
u32_back n = omega arith

-- four bytes in front move a number on by four
past : (a b c d : ℕ) (ys : List ℕ) (o : ℕ) → u32_at (a ∷ b ∷ c ∷ d ∷ ys) (4 + o) ≡ u32_at ys o
unfolding u32_at
past a b c d ys o = simp (s₀, s 1, s 2, s 3)
  where
    s₀ : get_or (a ∷ b ∷ c ∷ d ∷ ys) (4 + o) 0 ≡ get_or ys o 0
    s₀ = let e : 4 + o ≡ suc (suc (suc (suc o))) = omega arith in ap (λ (n : ℕ). get_or (a ∷ b ∷ c ∷ d ∷ ys) n 0) e

    s : (k : ℕ) → get_or (a ∷ b ∷ c ∷ d ∷ ys) (4 + o + k) 0 ≡ get_or ys (o + k) 0
    s k = let e : 4 + o + k ≡ suc (suc (suc (suc (o + k)))) = omega arith in ap (λ (n : ℕ). get_or (a ∷ b ∷ c ∷ d ∷ ys) n 0) e

-- word j of a run of words
word_run : (ws : List ℕ) (j : ℕ) → j < length ws → u32_at (words_bytes ws) (4 * j) ≡ get_or ws j 0
unfolding u32_at le32
word_run [] j h = let none : ⊥ = omega arith in absurd none
word_run (w ∷ ws) zero h = u32_back w
word_run (w ∷ ws) (suc j) h =
    let e : 4 * suc j ≡ 4 + 4 * j = omega arith in
    ap (u32_at (words_bytes (w ∷ ws))) e ∙ past _ _ _ _ (words_bytes ws) (4 * j) ∙ word_run ws j (le_of_suc-le-suc h)

-- ---- record i of a card is `e`, followed by record `next`
pub record Holds (card : List ℕ) (i next : ℕ) (e : Encoded) : Type 0 where
  pub kind : kind_at card i ≡ kind_number e.kind
  pub option : option_at card i ≡ e.option
  pub link : next_at card i ≡ next
  pub words : (j : ℕ) → j < 19 → number_at card i (suc j) ≡ float_of (get_or e.numbers j 0)

-- as it is where its bytes stand behind those of i records
module _ (card p b q : List ℕ) (i : ℕ) (is : card ≡ p ++ (b ++ q)) (before : length p ≡ 80 * i) (long : length b ≡ 80) (next : ℕ) (e : Encoded) (same : b ≡ record_bytes next e)
    (many : length e.numbers ≡ 19) where
  part : record_part card i ≡ record_bytes next e
  part = part_is card p b q i is before long ∙ same

  word_back : (j : ℕ) → j < 19 → u32_at (record_bytes next e) (0 + 4 * suc j) ≡ get_or e.numbers j 0
  word_back j l =
      let a : 0 + 4 * suc j ≡ 4 + 4 * j = omega arith in
      ap (u32_at (record_bytes next e)) a ∙ past _ _ _ _ (words_bytes e.numbers) (4 * j) ∙ word_run e.numbers j (omega (arith, many))

  link_back : next_at (record_bytes next e) 0 ≡ next
  unfolding u16_at
  link_back = let r : next % 256 + next / 256 * 256 ≡ next = omega arith in r

  next_back : next_at card i ≡ next
  next_back = sym (next_in card i) ∙ ap (λ (x : List ℕ). next_at x 0) part ∙ link_back

  pub holds : Holds card i next e
  holds =
      record {
        kind = sym (kind_in card i) ∙ ap (λ (x : List ℕ). kind_at x 0) part;
        option = sym (option_in card i) ∙ ap (λ (x : List ℕ). option_at x 0) part;
        link = next_back;
        words = λ j l. sym (number_in card i (suc j) (omega arith)) ∙ ap (λ (x : List ℕ). number_at x 0 (suc j)) part ∙ ap float_of (word_back j l);
      }

-- ---- what is written of a call gives it back
back : (x : Float) → IsBinary32 x → float_of (bits_of x) ≡ x
back x f = of_bits-to_bits binary32 x f

-- an option is one that a step may have, and tells the request and the airspeed
record Told (r : FlightRegime) (v : Option Float) : Type 0 where
  small : leb (request_number r + present_number v) 3 ≡ true
  request : requested_of (request_number r + present_number v) ≡ r
  speed : Binary32Airspeed v → airspeed_of (request_number r + present_number v) (float_of (speed_bits v)) ≡ v

told : (r : FlightRegime) (v : Option Float) → Told r v
told regime.Copter (Some x) = record { small = refl; request = refl; speed = λ f. ap Some (back x f) }
told regime.Copter None = record { small = refl; request = refl; speed = λ f. refl }
told regime.Plane (Some x) = record { small = refl; request = refl; speed = λ f. ap Some (back x f) }
told regime.Plane None = record { small = refl; request = refl; speed = λ f. refl }

module _ {card : List ℕ} {i next : ℕ} where
  -- number j + 1, where its bits are written
  number : {e : Encoded} → Holds card i next e → (j : ℕ) → j < 19 → (x : Float) → IsBinary32 x → get_or e.numbers j 0 ≡ bits_of x → number_at card i (suc j) ≡ x
  number h j l x g r = h.words j l ∙ ap float_of r ∙ back x g

  pub settings_back : (k : Kind) (a : Airframe) (s : Settings) → Binary32Settings (used_settings a s) → Holds card i next (encode_settings k a s) → settings_at card i ≡ used_settings a s
  unfolding settings_by settings_numbers
  settings_back k a s f h =
      let u : Settings = used_settings a s in
      let n = number h in
      simp (
        n 0 (omega arith) u.n1 f.0 refl,
        n 1 (omega arith) u.n2 f.1 refl,
        n 2 (omega arith) u.n3 f.2 refl,
        n 3 (omega arith) u.n4 f.3 refl,
        n 4 (omega arith) u.n5 f.4 refl,
        n 5 (omega arith) u.n6 f.5 refl,
        n 6 (omega arith) u.n7 f.6 refl,
        n 7 (omega arith) u.n8 f.7 refl,
        n 8 (omega arith) u.n9 f.8 refl,
        n 9 (omega arith) u.n10 f.9 refl,
        n 10 (omega arith) u.n11 f.10 refl,
        n 11 (omega arith) u.n12 f.11 refl,
        n 12 (omega arith) u.n13 f.12 refl,
        n 13 (omega arith) u.n14 f.13 refl,
        n 14 (omega arith) u.n15 f.14 refl,
        n 15 (omega arith) u.n16 f.15 refl,
        n 16 (omega arith) u.n17 f.16 refl,
      )

  step_back : (x : StepInput) → Binary32Step x → Holds card i next (encode_step x) → record_at card i ≡ Some (call.Step x)
  unfolding record_at step_input_by vehicle_by step_numbers
  step_back x f h =
      let t : Told x.requested x.state.airspeed = told x.requested x.state.airspeed in
      let n = number h in
      simp (
        h.kind,
        h.option,
        t.small,
        t.request,
        h.words 11 (omega arith),
        t.speed f.1.4,
        n 0 (omega arith) x.dt f.0 refl,
        n 1 (omega arith) x.state.z_m f.1.0 refl,
        n 2 (omega arith) x.state.velocity_mps.x f.1.1.0 refl,
        n 3 (omega arith) x.state.velocity_mps.y f.1.1.1 refl,
        n 4 (omega arith) x.state.velocity_mps.z f.1.1.2 refl,
        n 5 (omega arith) x.state.acceleration_mps2.x f.1.2.0 refl,
        n 6 (omega arith) x.state.acceleration_mps2.y f.1.2.1 refl,
        n 7 (omega arith) x.state.attitude.w f.1.3.0 refl,
        n 8 (omega arith) x.state.attitude.x f.1.3.1 refl,
        n 9 (omega arith) x.state.attitude.y f.1.3.2 refl,
        n 10 (omega arith) x.state.attitude.z f.1.3.3 refl,
        n 12 (omega arith) x.entry_tilt_rad f.2 refl,
        n 13 (omega arith) x.bank_rad f.3 refl,
        n 14 (omega arith) x.demand f.4 refl,
      )

  -- as its airframe uses it
  pub call_back : (a : Airframe) (c : Call) → Binary32Call (used_call a c) → Holds card i next (encode_of a c) → record_at card i ≡ Some (used_call a c)
  unfolding record_at
  call_back a (call.Prime z) f h = simp (h.kind, h.option, h.words 1 (omega arith), back z f)
  call_back a (call.Step x) f h = step_back x f h
  call_back a (call.Cut why) f h = simp (h.kind, h.option) (cut_by_number why)
  call_back a (call.Settings s) f h = simp (h.kind, h.option, settings_back kind.Settings a s f h)
