-- Worked flights: section 6 of document 01, with what it takes from sections 3 to 5, and request 2.2 of document 02, in numbers that were worked out by hand from the papers. Each call
-- stands beside its line, and the comment at its right says which sentence gives the numbers, and how. The numbers are sums of a few powers of two, π/2 or floats next to these, so that
-- nothing is rounded; where a product or a sum is (2.2), the comment says so.
-- Proved by working out the definitions: a change of definition and code together that changes one of these answers is refused here. Assumes nothing.
use Rattle.std.specs.Prelude.{if◌then◌else◌}
use mathlib.Core.Path.{◌≡◌, refl}
use mathlib.Core.List.{List, [], ◌∷◌, ◌++◌, map}
use mathlib.Core.Option.{some, none}
use Prim.Native.Nat.{ℕ, zero, suc}
use lib.Dec.{eqb}
use lib.Ieee.{Float, nan, of_bits, to_bits, add, sub, mul, div, lt, le, eq, neg, is_nan}
use Rattle.numbers.specs.Numbers.{float_of, zero32, one32, two32}
use Rattle.numbers.specs.Root.{root_of}
use Rattle.machines.specs.declared.ModeRefusal.TheVariants.{Unsupported, OnGround}
use Rattle.joined.specs.declared.settings.Settings.{Settings}
use Rattle.joined.specs.declared.call.Call.{Call}
use Rattle.joined.specs.declared.call.Call.TheVariants as call
use Rattle.joined.specs.declared.machine.Airframe.{Airframe}
use Rattle.joined.specs.declared.machine.Airframe.TheVariants as airframe
use Rattle.joined.specs.Calls.{settings_by, vehicle_by, step_input_by}
use Rattle.joined.specs.Joined.{new_of}
use Rattle.joined.specs.Shown.{Shown, line, refused}
use Rattle.joined.proofs.Laws.Starred.{half, four, ten, C, P, F, B, shown_from, prime}

-- ---- numbers, by their bits

-- 1/16, 1/8, 1/4, 5/8, 3/4 and 5/4
abbrev sixteenth : Float
sixteenth = float_of 0x3D80_0000

abbrev eighth : Float
eighth = float_of 0x3E00_0000

abbrev quarter : Float
quarter = float_of 0x3E80_0000

abbrev five_eighths : Float
five_eighths = float_of 0x3F20_0000

abbrev three_quarters : Float
three_quarters = float_of 0x3F40_0000

abbrev five_quarters : Float
five_quarters = float_of 0x3FA0_0000

abbrev eight : Float
eight = float_of 0x4100_0000

-- 2^-149 and the largest finite number
abbrev smallest : Float
smallest = float_of 0x0000_0001

abbrev largest : Float
largest = float_of 0x7F7F_FFFF

-- 1/4 + 2^-24 and 1 + 3·2^-23
abbrev above_quarter : Float
above_quarter = float_of 0x3E80_0002

abbrev above_one : Float
above_one = float_of 0x3F80_0003

-- the floats below 1/4, 4 and 8
abbrev below_quarter : Float
below_quarter = float_of 0x3E7F_FFFF

abbrev below_four : Float
below_four = float_of 0x407F_FFFF

abbrev below_eight : Float
below_eight = float_of 0x40FF_FFFF

-- -0, -1, -2, -4, -16 and -∞
abbrev minus_zero : Float
minus_zero = float_of 0x8000_0000

abbrev minus_one : Float
minus_one = float_of 0xBF80_0000

abbrev minus_two : Float
minus_two = float_of 0xC000_0000

abbrev minus_four : Float
minus_four = float_of 0xC080_0000

abbrev minus_sixteen : Float
minus_sixteen = float_of 0xC180_0000

abbrev minus_infinity : Float
minus_infinity = float_of 0xFF80_0000

-- ---- calls

-- settings in their order; those left out are 0
abbrev in_order : List Float → ℕ → Float
in_order [] k = zero32
in_order (x ∷ xs) zero = zero32
in_order (x ∷ xs) (suc zero) = x
in_order (x ∷ xs) (suc (suc k)) = in_order xs (suc k)

-- quadplane: minimum airspeed 8, ramp 1/8, timeout 4, minimums 2 and 4, back ramp 1, back speed 4, back timeout 8, deceleration 2 with gain 1/16, the forward thrust, the slew, (1/16,)
-- the handoff, roll limit 3/4
abbrev quadplane_by : Float → Float → Float → Settings
quadplane_by thrust slew handoff =
    settings_by (in_order (eight ∷ eighth ∷ four ∷ two32 ∷ four ∷ one32 ∷ four ∷ eight ∷ two32 ∷ sixteenth ∷ thrust ∷ slew ∷ sixteenth ∷ handoff ∷ three_quarters ∷ []))

abbrev quadplane_with : Float → Settings
quadplane_with handoff = quadplane_by one32 two32 handoff

-- tailsitter: forward rate 1, (1,) tilt to 1, minimum airspeed 8, back rate 2, (1,) timeout 8, minimums 2 and 4, thrusts 5/8 and 1/4, the sink limit with gain 1/8, handoff 1/2,
-- roll limit 3/4, cosines 1/4 and 1/2
abbrev tailsitter_with : Float → Settings
tailsitter_with sink =
    settings_by (in_order (one32 ∷ one32 ∷ one32 ∷ eight ∷ two32 ∷ one32 ∷ eight ∷ two32 ∷ four ∷ five_eighths ∷ quarter ∷ sink ∷ eighth ∷ half ∷ three_quarters ∷ quarter ∷ half ∷ []))

-- a step's number k by the pairs; those left out are 0
abbrev paired : List (ℕ × Float) → ℕ → Float
paired [] k = zero32
paired ((i, x) ∷ rest) k = if eqb i k then x else paired rest k

-- a step with its option, dt and demand, at z 10 with the nose level, and with other numbers by their places in section 7: 2 z, 3-5 velocity, 6-7 acceleration, 10-11 the attitude's y
-- and z, 12 airspeed, 13 entry tilt, 14 bank
abbrev fly : ℕ → Float → Float → List (ℕ × Float) → Call
fly option dt demand others = call.Step (step_input_by option (paired (others ++ ((1, dt) ∷ (2, ten) ∷ (8, one32) ∷ (15, demand) ∷ []))))

-- nose-up 2(w·y - x·z) is 2(1·1/2 - 0) = 1; with the nose level it is 0
abbrev nose_up : ℕ × Float
nose_up = (10, half)

-- ---- flights: from a new machine with the settings, the calls get the lines
abbrev Flown : Airframe → Settings → List (Call × Shown) → Type 0
Flown a s rows = shown_from (new_of a s) (map (λ (row : Call × Shown). row.0) rows) ≡ map (λ (row : Call × Shown). row.1) rows

-- to Plane on the quadplane
abbrev forward : List (Call × Shown)
forward =
    (prime, line C (some 0x3F80_0000) 0 0 0x0000_0000 0x0000_0000)  -- "new and prime give a new handoff, pitch 0, thrust 0"
    ∷ (fly 1 quarter half [], line F (some 0x3F80_0000) 0 0 0x0000_0000 0x0000_0000)  -- 2.2: 0 on the step that enters ToPlane
    ∷ (fly 3 quarter half ((12, eight) ∷ []), line F (some 0x3F80_0000) 0 0 0x3F00_0000 0x0000_0000)  -- 2.2: min(1, 0 + 2·1/4) = 1/2. The ramp begins at clock 1/4
    ∷ (fly 1 eighth one32 [], line P (some 0x0000_0000) 1 0 0x3F20_0000 0x0000_0000)  -- 3/8 - 1/4 ≥ 1/8: Plane. From the kept 1/2, weight (1/8)/(1/2): 1/2 + (1 - 1/2)·1/4 = 5/8
    ∷ []

-- blend and pitch on the quadplane
abbrev blend_and_pitch : List (Call × Shown)
blend_and_pitch =
    forward
    ++ ((fly 1 eighth one32 [], line P (some 0x0000_0000) 0 0 0x3F40_0000 0x0000_0000)  -- weight (1/4)/(1/2): 1/2 + (1 - 1/2)·1/2 = 3/4
    ∷ (fly 0 quarter zero32 ((3, eight) ∷ []), line B (some 0x0000_0000) 0 0 0x0000_0000 0x3D00_0000)  -- weight 1: the demand, 0. Speed 8, deceleration 0: pitch 0 + 1/16·(2 - 0)·1/4 = 1/32
    ∷ (fly 0 quarter half ((3, eight) ∷ (6, minus_one) ∷ []), line B (some 0x3E80_0000) 0 0 0x3F00_0000 0x3D40_0000)  -- the blend is over. -(-1·8)/8 = 1: 1/32 + 1/16·(2 - 1)·1/4 = 3/64
    ∷ (fly 1 quarter one32 [], line P (some 0x0000_0000) 0 0 0x3F40_0000 0x3D40_0000)  -- entering Plane without a flag: from the kept 1/2, 1/2 + (1 - 1/2)·1/2 = 3/4. The pitch stands
    ∷ (fly 0 eighth one32 ((3, eight) ∷ []), line B (some 0x0000_0000) 0 0 0x3F60_0000 0x3C80_0000)  -- weight 3/4: 7/8. "Entering ToCopter sets pitch 0": 0 + 1/16·(2 - 0)·1/8 = 1/64
    ∷ (fly 0 quarter zero32 ((3, two32) ∷ []), line C (some 0x3F80_0000) 1 0 0x3EE0_0000 0x3C80_0000)  -- 2 < 4: Copter with handoff. From the kept 7/8: 7/8 + (0 - 7/8)·1/2 = 7/16
    ∷ (fly 1 eighth zero32 [], line F (some 0x3F80_0000) 0 0 0x0000_0000 0x3C80_0000)  -- entering ToPlane: 0. The blend and the pitch stand
    ∷ (fly 1 quarter zero32 [], line F (some 0x3F80_0000) 0 0 0x3F00_0000 0x3C80_0000)  -- min(1, 0 + 2·1/4) = 1/2; the blend stands
    ∷ (fly 0 eighth zero32 [], line C (some 0x3F80_0000) 0 0 0x3E60_0000 0x3C80_0000)  -- entering Copter without a flag: the blend goes on where it stood, weight (1/4 + 1/8)/(1/2): 7/8 - 7/8·3/4 = 7/32
    ∷ [])

-- the ends of weight, throttle and pitch
abbrev ends : List (Call × Shown)
ends =
    forward
    ++ ((fly 0 four nan ((3, eight) ∷ []), line B (some 0x0000_0000) 0 0 0x0000_0000 0x3E99_999A)  -- weight min((33/8)/(1/2), 1) = 1, NaN to 0: 0. Pitch 1/16·(2 - 0)·4 = 1/2: 0.3
    ∷ (fly 0 one32 two32 ((3, eight) ∷ (6, nan) ∷ []), line B (some 0x3F80_0000) 0 0 0x3F80_0000 0x3E99_999A)  -- 2 clamped to 1. The deceleration is NaN: the pitch stands
    ∷ (fly 0 four minus_one ((3, eight) ∷ (6, minus_four) ∷ []), line B (some 0x3F80_0000) 0 0 0x0000_0000 0x0000_0000)  -- -1 clamped to 0. -(-4·8)/8 = 4: 0.3 + 1/16·(2 - 4)·4 < 0: 0
    ∷ [])

-- blend, sink guard and field 10 on the tailsitter
abbrev sink_guard : List (Call × Shown)
sink_guard =
    (prime, line C none 0 0 0x0000_0000 0x0000_0000)
    ∷ (fly 1 quarter one32 (nose_up ∷ []), line F (some 0x0000_0000) 0 0 0x3F20_0000 0x0000_0000)  -- ToPlane: field 10, 5/8, at demand 1
    ∷ (fly 1 quarter zero32 (nose_up ∷ []), line F (some 0x3E80_0000) 0 0 0x3F20_0000 0x0000_0000)  -- and at demand 0. Tilt 0 + 1·1/4
    ∷ (fly 1 eighth one32 [], line P none 1 0 0x3F38_0000 0x0000_0000)  -- 0 ≤ 1/4: Plane. 5/8 + (1 - 5/8)·1/4 = 23/32
    ∷ (fly 1 eighth zero32 [], line P none 0 0 0x3EA0_0000 0x0000_0000)  -- 5/8 + (0 - 5/8)·1/2 = 5/16
    ∷ (fly 0 quarter one32 ((5, minus_two) ∷ (13, one32) ∷ []), line B (some 0x3F80_0000) 0 0 0x3E80_0000 0x0000_0000)  -- excess -2 - (-2) = 0: none, so field 11, 1/4
    ∷ (fly 0 quarter one32 ((5, minus_four) ∷ []), line B (some 0x3F00_0000) 0 0 0x3F00_0000 0x0000_0000)  -- excess -2 - (-4) = 2: 1/4 + 1/8·2 = 1/2. Tilt 1 - 2·1/4
    ∷ (fly 0 quarter one32 ((5, four) ∷ []), line B (some 0x0000_0000) 0 0 0x3E80_0000 0x0000_0000)  -- excess -2 - 4 = -6: none. Tilt 1 - 2·1/2
    ∷ (fly 0 quarter one32 ((5, minus_sixteen) ∷ []), line B (some 0x0000_0000) 0 0 0x3F80_0000 0x0000_0000)  -- excess 14: 1/4 + 1/8·14 = 2, a throttle of 1. Tilt max(1 - 2·3/4, 0)
    ∷ (fly 0 eighth zero32 (nose_up ∷ []), line C none 1 0 0x3F40_0000 0x0000_0000)  -- 1 ≥ 1/2: Copter with handoff. From the kept 1: 1 + (0 - 1)·1/4 = 3/4
    ∷ (fly 1 quarter zero32 (nose_up ∷ []), line F (some 0x0000_0000) 0 0 0x3F20_0000 0x0000_0000)  -- field 10; the blend stands
    ∷ (fly 0 eighth zero32 (nose_up ∷ []), line C none 0 0 0x3F00_0000 0x0000_0000)  -- and goes on: weight (1/8 + 1/8)/(1/2), 1 + (0 - 1)·1/2 = 1/2
    ∷ []

-- a roll cut in ToCopter, new settings and a prime
abbrev roll_cut_back : List (Call × Shown)
roll_cut_back =
    forward
    ++ ((fly 1 quarter one32 ((2, two32) ∷ (3, eight) ∷ []), line B (some 0x3F80_0000) 0 16 0x3F60_0000 0x3D00_0000)  -- height 2 < 4: ToCopter with 16. Weight 3/4: 7/8. Pitch 1/32
    ∷ (fly 0 eighth zero32 ((3, eight) ∷ (14, minus_one) ∷ []), line C (some 0x3F80_0000) 1 16 0x3F28_0000 0x3D00_0000)  -- |-1| > 3/4: the cut leaves report and pitch. From 7/8: 7/8 - 7/8·1/4 = 21/32
    ∷ (call.Settings (quadplane_with eight), line C (some 0x3F80_0000) 0 16 0x3F28_0000 0x3D00_0000)  -- "new settings touch nothing else": report, thrust and pitch
    ∷ (fly 0 eighth zero32 [], line C (some 0x3F80_0000) 0 0 0x3EE0_0000 0x3D00_0000)  -- and the blend of 1/2 s goes on: 7/8 - 7/8·1/2 = 7/16
    ∷ (prime, line C (some 0x3F80_0000) 0 0 0x0000_0000 0x0000_0000)  -- thrust 0, pitch 0
    ∷ (fly 0 eighth one32 [], line C (some 0x3F80_0000) 0 0 0x3F80_0000 0x0000_0000)  -- and a new handoff, inactive: the demand, 1
    ∷ (fly 1 quarter one32 [], line F (some 0x3F80_0000) 0 0 0x0000_0000 0x0000_0000)  -- entering ToPlane: 0
    ∷ (fly 3 quarter one32 ((12, eight) ∷ []), line F (some 0x3F80_0000) 0 0 0x3F00_0000 0x0000_0000)  -- min(1, 0 + 2·1/4) = 1/2
    ∷ (fly 1 eighth zero32 [], line P (some 0x0000_0000) 1 0 0x3EFC_0000 0x0000_0000)  -- a fresh handoff of the new handoff_s, 8: 1/2 + (0 - 1/2)·(1/8)/8 = 63/128
    ∷ [])

-- cut calls in ToCopter and in Copter
abbrev cut_back : List (Call × Shown)
cut_back =
    forward
    ++ ((fly 0 quarter one32 ((3, eight) ∷ []), line B (some 0x0000_0000) 0 0 0x3F60_0000 0x3D00_0000)  -- weight 3/4: 7/8. Pitch 1/32
    ∷ (call.Cut OnGround, line C (some 0x3F80_0000) 1 0 0x3F60_0000 0x3D00_0000)  -- "a cut call .. leaves thrust and pitch"
    ∷ (fly 0 eighth zero32 [], line C (some 0x3F80_0000) 0 0 0x3F28_0000 0x3D00_0000)  -- and starts a handoff: from the kept 7/8, 7/8 - 7/8·1/4 = 21/32
    ∷ (call.Cut Unsupported, line C (some 0x3F80_0000) 0 0 0x3F28_0000 0x3D00_0000)  -- in Copter, no flag and no handoff
    ∷ (fly 0 eighth zero32 [], line C (some 0x3F80_0000) 0 0 0x3EE0_0000 0x3D00_0000)  -- the blend goes on: 7/8 - 7/8·1/2 = 7/16
    ∷ [])

-- a roll cut and a cut call in ToPlane
abbrev cut_forward : List (Call × Shown)
cut_forward =
    (fly 0 quarter half [], line C none 0 0 0x3F00_0000 0x0000_0000)  -- the handoff of a new machine is inactive: the demand, 1/2
    ∷ (prime, line C none 0 0 0x0000_0000 0x0000_0000)  -- thrust 0
    ∷ (fly 1 quarter one32 (nose_up ∷ []), line F (some 0x0000_0000) 0 0 0x3F20_0000 0x0000_0000)
    ∷ (fly 1 quarter one32 (nose_up ∷ (14, three_quarters) ∷ []), line F (some 0x3E80_0000) 0 0 0x3F20_0000 0x0000_0000)  -- 3/4 > 3/4 is not
    ∷ (fly 1 quarter one32 (nose_up ∷ (14, nan) ∷ []), line F (some 0x3F00_0000) 0 0 0x3F20_0000 0x0000_0000)  -- "NaN is not"
    ∷ (fly 1 quarter one32 (nose_up ∷ (14, minus_one) ∷ []), line C none 0 15 0x3F80_0000 0x0000_0000)  -- |-1| > 3/4: cut with 15, no flag, so no handoff: the demand, 1
    ∷ (fly 0 quarter half (nose_up ∷ []), line C none 0 0 0x3F00_0000 0x0000_0000)  -- the request clears the abandonment
    ∷ (fly 1 quarter one32 (nose_up ∷ []), line F (some 0x0000_0000) 0 0 0x3F20_0000 0x0000_0000)
    ∷ (call.Cut Unsupported, line C none 0 11 0x3F20_0000 0x0000_0000)  -- abandons with 11; the thrust is left
    ∷ (fly 1 quarter one32 (nose_up ∷ []), line C none 0 11 0x3F80_0000 0x0000_0000)  -- no flag, so no handoff: the demand, 1
    ∷ []

-- ramp and timeouts on the quadplane
abbrev timeouts : List (Call × Shown)
timeouts =
    (prime, line C (some 0x3F80_0000) 0 0 0x0000_0000 0x0000_0000)
    ∷ (fly 1 quarter half [], line F (some 0x3F80_0000) 0 0 0x0000_0000 0x0000_0000)  -- entering ToPlane: 0
    ∷ (fly 3 two32 half ((12, below_eight) ∷ []), line F (some 0x3F80_0000) 0 0 0x3F80_0000 0x0000_0000)  -- below 8: no ramp begins. Thrust min(1, 0 + 2·2) = 1
    ∷ (fly 3 two32 half ((12, eight) ∷ []), line F (some 0x3F80_0000) 0 0 0x3F80_0000 0x0000_0000)  -- clock 4 > 4 is not; 8 ≥ 8: the ramp begins
    ∷ (fly 1 sixteenth half [], line F (some 0x3F00_0000) 0 0 0x3F80_0000 0x0000_0000)  -- no timeout once the ramp began. Share 1 - (1/16)/(1/8) = 1/2
    ∷ (fly 1 sixteenth half [], line P (some 0x0000_0000) 1 0 0x3F70_0000 0x0000_0000)  -- 33/8 - 4 ≥ 1/8: Plane. From the kept 1, weight (1/16)/(1/2): 1 + (1/2 - 1)·1/8 = 15/16
    ∷ (fly 0 one32 half ((3, eight) ∷ []), line B (some 0x0000_0000) 0 0 0x3F00_0000 0x3E00_0000)  -- weight 1: the demand, 1/2. Pitch 0 + 1/16·(2 - 0)·1 = 1/8
    ∷ (fly 0 eight half ((3, eight) ∷ (6, minus_two) ∷ []), line B (some 0x3F80_0000) 0 0 0x3F00_0000 0x3E00_0000)  -- clock 8 > 8 is not. -(-2·8)/8 = 2: 1/8 + 1/16·(2 - 2)·8
    ∷ (fly 0 quarter zero32 ((3, eight) ∷ []), line C (some 0x3F80_0000) 1 0 0x3E80_0000 0x3E00_0000)  -- 33/4 > 8: Copter with handoff. From the kept 1/2: 1/2 + (0 - 1/2)·1/2 = 1/4
    ∷ (fly 1 quarter half [], line F (some 0x3F80_0000) 0 0 0x0000_0000 0x3E00_0000)  -- entering ToPlane: 0; the blend stands
    ∷ (fly 3 eight half ((12, eight) ∷ []), line C (some 0x3F80_0000) 0 14 0x3F00_0000 0x3E00_0000)  -- "no ramp begun"; 8 > 4 "before the test that begins it": 14. The blend goes on, weight 1: the demand, 1/2
    ∷ []

-- floor, forward speed and a ground speed of 0 on the quadplane
abbrev slowing : List (Call × Shown)
slowing =
    forward
    ++ ((fly 1 quarter one32 ((2, four) ∷ []), line P (some 0x0000_0000) 0 0 0x3F60_0000 0x0000_0000)  -- height 4 < 4 is not. Weight 3/4: 7/8
    ∷ (fly 0 quarter half ((3, four) ∷ []), line B (some 0x0000_0000) 0 0 0x3F00_0000 0x3D00_0000)  -- pitch 0 + 1/16·(2 - 0)·1/4 = 1/32
    ∷ (fly 0 half half ((3, four) ∷ []), line B (some 0x3F00_0000) 0 0 0x3F00_0000 0x3DC0_0000)  -- forward speed 4 < 4 is not. 1/32 + 1/16·(2 - 0)·1/2 = 3/32
    ∷ (fly 0 half half (nose_up ∷ (5, four) ∷ []), line B (some 0x3F80_0000) 0 0 0x3F00_0000 0x3E20_0000)  -- nose (1/2, 0, -1): 0 + 0 - (-1·4) = 4. Speed 0, so deceleration 0: 3/32 + 1/16 = 5/32
    ∷ (fly 0 half half ((11, half) ∷ (4, four) ∷ (7, minus_one) ∷ []), line B (some 0x3F80_0000) 0 0 0x3F00_0000 0x3E40_0000)  -- nose (1/2, 1, 0): 1·4 = 4. -(-1·4)/4 = 1: 5/32 + 1/16·(2 - 1)·1/2 = 3/16
    ∷ (fly 2 half half ((5, nan) ∷ (12, four) ∷ []), line B (some 0x3F80_0000) 0 0 0x3F00_0000 0x3E80_0000)  -- forward speed NaN: the airspeed, 4 < 4 is not. Speed 0: 3/16 + 1/16 = 1/4
    ∷ (fly 0 half half ((3, minus_infinity) ∷ []), line B (some 0x3F80_0000) 0 0 0x3F00_0000 0x3E80_0000)  -- forward speed -∞ and no airspeed: not done. The deceleration is NaN: the pitch stands
    ∷ (fly 2 half half ((3, nan) ∷ (12, minus_one) ∷ []), line B (some 0x3F80_0000) 0 0 0x3F00_0000 0x3E80_0000)  -- an airspeed of -1 is not valid: not done
    ∷ (fly 2 quarter zero32 ((5, nan) ∷ (12, two32) ∷ []), line C (some 0x3F80_0000) 1 0 0x3E80_0000 0x3E80_0000)  -- airspeed 2 < 4: Copter with handoff. From the kept 1/2: 1/2 + (0 - 1/2)·1/2 = 1/4
    ∷ [])

-- start of the tilt, completion, floor, done and a sink limit of 0 on the tailsitter
abbrev tilting : List (Call × Shown)
tilting =
    (prime, line C none 0 0 0x0000_0000 0x0000_0000)
    ∷ (fly 1 quarter one32 ((10, nan) ∷ (13, one32) ∷ []), line F (some 0x0000_0000) 0 0 0x3F20_0000 0x0000_0000)  -- nose-up NaN: tilt from "0 forward", not the entry tilt
    ∷ (fly 3 quarter one32 ((10, quarter) ∷ (12, eight) ∷ []), line F (some 0x3E80_0000) 0 0 0x3F20_0000 0x0000_0000)  -- nose-up 2(1·1/4 - 0) = 1/2 ≤ 1/4 is not
    ∷ (fly 3 two32 one32 ((10, eighth) ∷ (12, below_eight) ∷ []), line F (some 0x3F80_0000) 0 0 0x3F20_0000 0x0000_0000)  -- 1/4 ≤ 1/4, but below 8. Tilt min(0 + 1·9/4, max(1, 0)) = 1
    ∷ (fly 3 eighth one32 ((10, eighth) ∷ (12, eight) ∷ []), line P none 1 0 0x3F38_0000 0x0000_0000)  -- 1/4 ≤ 1/4 and 8 ≥ 8: Plane. 5/8 + (1 - 5/8)·1/4 = 23/32
    ∷ (fly 1 eighth one32 ((2, four) ∷ []), line P none 0 0 0x3F50_0000 0x0000_0000)  -- height 4 < 4 is not. 5/8 + (1 - 5/8)·1/2 = 13/16
    ∷ (fly 1 eighth one32 ((2, below_four) ∷ (10, nan) ∷ (13, one32) ∷ []), line B (some 0x3FC9_0FDB) 0 16 0x3E80_0000 0x0000_0000)  -- below 4: ToCopter with 16. Nose-up NaN: tilt from "π/2 back"
    ∷ (call.Settings (tailsitter_with zero32), line B (some 0x3FC9_0FDB) 0 16 0x3E80_0000 0x0000_0000)  -- "new settings touch nothing else": the report
    ∷ (fly 0 quarter one32 ((5, minus_four) ∷ []), line B (some 0x3F89_0FDB) 0 0 0x3E80_0000 0x0000_0000)  -- excess -0 - (-4) = 4, but the limit is 0: field 11, 1/4. Tilt π/2 - 2·1/4
    ∷ (fly 0 quarter one32 ((10, below_quarter) ∷ []), line B (some 0x3F12_1FB6) 0 0 0x3E80_0000 0x0000_0000)  -- nose-up below 1/2. Tilt π/2 - 2·1/2
    ∷ (fly 0 eighth zero32 ((10, quarter) ∷ []), line C none 1 0 0x3E40_0000 0x0000_0000)  -- 1/2 ≥ 1/2: Copter with handoff. From the kept 1/4: 1/4 + (0 - 1/4)·1/4 = 3/16
    ∷ (fly 0 eighth zero32 (nose_up ∷ []), line C none 0 0 0x3E00_0000 0x0000_0000)  -- the request clears the abandonment. 1/4 + (0 - 1/4)·1/2 = 1/8
    ∷ (fly 1 eighth zero32 (nose_up ∷ (13, five_quarters) ∷ []), line F (some 0x3FA0_0000) 0 0 0x3F20_0000 0x0000_0000)  -- "start is the entry tilt", 5/4
    ∷ (fly 1 two32 zero32 (nose_up ∷ []), line F (some 0x3FA0_0000) 0 0 0x3F20_0000 0x0000_0000)  -- min(5/4 + 1·2, max(1, 5/4)) = 5/4
    ∷ []

-- document 02, 2.2: the quadplane's thrust in ToPlane, with a forward thrust of 3/4 and a slew of 1/2 at first
abbrev running_up : List (Call × Shown)
running_up =
    (prime, line C (some 0x3F80_0000) 0 0 0x0000_0000 0x0000_0000)
    ∷ (fly 0 eighth one32 [], line C (some 0x3F80_0000) 0 0 0x3F80_0000 0x0000_0000)  -- "every other case": the demand, 1
    ∷ (fly 1 quarter one32 [], line F (some 0x3F80_0000) 0 0 0x0000_0000 0x0000_0000)  -- 0 on the step that enters, whatever was kept or is demanded
    ∷ (fly 1 quarter one32 [], line F (some 0x3F80_0000) 0 0 0x3E00_0000 0x0000_0000)  -- min(3/4, 0 + 1/2·1/4) = 1/8
    ∷ (fly 1 zero32 one32 [], refused 1 0)  -- refused: 1/8 is still kept
    ∷ (fly 1 quarter nan [], line F (some 0x3F80_0000) 0 0 0x3E80_0000 0x0000_0000)  -- min(3/4, 1/8 + 1/2·1/4) = 1/4, with a NaN demand too
    ∷ (fly 1 one32 zero32 [], line F (some 0x3F80_0000) 0 0 0x3F40_0000 0x0000_0000)  -- min(3/4, 1/4 + 1/2·1): both are 3/4
    ∷ (fly 1 quarter zero32 [], line F (some 0x3F80_0000) 0 0 0x3F40_0000 0x0000_0000)  -- min(3/4, 7/8) = 3/4
    ∷ (call.Settings (quadplane_by five_eighths half half), line F (some 0x3F80_0000) 0 0 0x3F40_0000 0x0000_0000)  -- "new settings touch nothing else"
    ∷ (fly 1 quarter zero32 [], line F (some 0x3F80_0000) 0 0 0x3F20_0000 0x0000_0000)  -- min(5/8, 3/4 + 1/8) = 5/8: down at once
    ∷ (call.Settings (quadplane_by one32 half half), line F (some 0x3F80_0000) 0 0 0x3F20_0000 0x0000_0000)
    ∷ (fly 3 quarter zero32 ((12, eight) ∷ []), line F (some 0x3F80_0000) 0 0 0x3F40_0000 0x0000_0000)  -- min(1, 5/8 + 1/8) = 3/4. The ramp begins
    ∷ (fly 1 eighth one32 [], line P (some 0x0000_0000) 1 0 0x3F50_0000 0x0000_0000)  -- Plane, by the mode after: from the kept 3/4, 3/4 + (1 - 3/4)·1/4 = 13/16
    ∷ (call.Settings (quadplane_by quarter sixteenth half), line P (some 0x0000_0000) 0 0 0x3F50_0000 0x0000_0000)
    ∷ (fly 1 half one32 [], line P (some 0x0000_0000) 0 0 0x3F80_0000 0x0000_0000)  -- weight min((1/8 + 1/2)/(1/2), 1) = 1: the demand, 1; in Plane neither field 11, 1/4, nor the slew is a bound
    ∷ (fly 1 eighth zero32 [], line P (some 0x0000_0000) 0 0 0x0000_0000 0x0000_0000)  -- the blend is over: the demand, 0
    ∷ (fly 0 quarter one32 ((3, eight) ∷ []), line B (some 0x0000_0000) 0 0 0x3F80_0000 0x3D00_0000)  -- nor is either a bound in ToCopter: the demand, 1. Pitch 0 + 1/16·(2 - 0)·1/4 = 1/32
    ∷ []

-- the ends of the run-up, with a forward thrust of -0 and a slew of 2^-149 at first
abbrev run_up_ends : List (Call × Shown)
run_up_ends =
    (prime, line C (some 0x3F80_0000) 0 0 0x0000_0000 0x0000_0000)
    ∷ (fly 1 quarter one32 [], line F (some 0x3F80_0000) 0 0 0x0000_0000 0x0000_0000)  -- 0 is +0
    ∷ (fly 1 quarter one32 [], line F (some 0x3F80_0000) 0 0 0x8000_0000 0x0000_0000)  -- 2^-149·1/4 is rounded to 0: min(-0, 0), of two zeros the first named
    ∷ (call.Settings (quadplane_by one32 largest half), line F (some 0x3F80_0000) 0 0 0x8000_0000 0x0000_0000)
    ∷ (fly 1 two32 zero32 [], line F (some 0x3F80_0000) 0 0 0x3F80_0000 0x0000_0000)  -- the product is ∞: min(1, ∞) = 1
    ∷ (call.Settings (quadplane_by half smallest half), line F (some 0x3F80_0000) 0 0 0x3F80_0000 0x0000_0000)
    ∷ (fly 1 quarter one32 [], line F (some 0x3F80_0000) 0 0 0x3F00_0000 0x0000_0000)  -- the product is rounded to 0: min(1/2, 1 + 0) = 1/2
    ∷ (call.Settings (quadplane_by one32 smallest half), line F (some 0x3F80_0000) 0 0 0x3F00_0000 0x0000_0000)
    ∷ (fly 1 quarter one32 [], line F (some 0x3F80_0000) 0 0 0x3F00_0000 0x0000_0000)  -- the product is rounded to 0: 1/2 + 0, the thrust stands
    ∷ (call.Settings (quadplane_by one32 above_quarter half), line F (some 0x3F80_0000) 0 0 0x3F00_0000 0x0000_0000)
    ∷ (fly 1 above_one one32 [], line F (some 0x3F80_0000) 0 0 0x3F40_0002 0x0000_0000)  -- the product, a little above 1/4 + 5·2^-25, is rounded to that; 3/4 + 5·2^-25 lies half-way, and the even one is 3/4 + 2^-23. The clock is rounded too, below 4
    ∷ (fly 1 quarter one32 ((14, minus_one) ∷ []), line C (some 0x3F80_0000) 0 15 0x3F80_0000 0x0000_0000)  -- a roll cut, by the mode after: the demand, 1
    ∷ (fly 0 eighth minus_zero [], line C (some 0x3F80_0000) 0 0 0x8000_0000 0x0000_0000)  -- the demand, -0, which a clamp lets pass
    ∷ (fly 1 quarter nan [], line F (some 0x3F80_0000) 0 0 0x0000_0000 0x0000_0000)  -- entering: +0, also from a kept -0 and with a NaN demand
    ∷ (call.Settings (quadplane_by one32 eighth half), line F (some 0x3F80_0000) 0 0 0x0000_0000 0x0000_0000)
    ∷ (fly 1 four nan [], line F (some 0x3F80_0000) 0 0 0x3F00_0000 0x0000_0000)  -- 0 + 1/8·4 = 1/2; clock 4 > 4 is not
    ∷ (call.Settings (quadplane_by one32 largest half), line F (some 0x3F80_0000) 0 0 0x3F00_0000 0x0000_0000)
    ∷ (fly 1 smallest one32 [], line F (some 0x3F80_0000) 0 0 0x3F00_0008 0x0000_0000)  -- the product is 2^-21 - 2^-45; its sum with 1/2 is rounded to 1/2 + 2^-21. The clock stays 4
    ∷ (call.Cut Unsupported, line C (some 0x3F80_0000) 0 11 0x3F00_0008 0x0000_0000)  -- a cut call leaves the thrust of the run-up
    ∷ []

-- ---- THE FLIGHTS
pub record Flights : Type 0 where
  pub blends_and_pitches : Flown airframe.Quadplane (quadplane_with half) blend_and_pitch
  pub ends_met : Flown airframe.Quadplane (quadplane_with half) ends
  pub guards_sink : Flown airframe.Tailsitter (tailsitter_with two32) sink_guard
  pub rolls_back : Flown airframe.Quadplane (quadplane_with half) roll_cut_back
  pub cuts_back : Flown airframe.Quadplane (quadplane_with half) cut_back
  pub cuts_forward : Flown airframe.Tailsitter (tailsitter_with two32) cut_forward
  pub times_out_lem : Flown airframe.Quadplane (quadplane_with half) timeouts
  pub slows : Flown airframe.Quadplane (quadplane_with half) slowing
  pub tilts : Flown airframe.Tailsitter (tailsitter_with two32) tilting
  pub runs_up : Flown airframe.Quadplane (quadplane_by three_quarters half half) running_up
  pub run_up_ends_met : Flown airframe.Quadplane (quadplane_by minus_zero smallest half) run_up_ends

pub flights : Flights
unfolding of_bits to_bits add sub mul div lt le eq neg is_nan root_of settings_by vehicle_by step_input_by
flights = record {
  blends_and_pitches = refl;
  ends_met = refl;
  guards_sink = refl;
  rolls_back = refl;
  cuts_back = refl;
  cuts_forward = refl;
  times_out_lem = refl;
  slows = refl;
  tilts = refl;
  runs_up = refl;
  run_up_ends_met = refl;
}
