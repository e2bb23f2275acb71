-- Document 02, request 2.3: the ranges of section 2 as a table, in the order of src/ranges.rt. "A row lets through exactly what section 2 lets through": the laws
-- `tailsitter_ranges` and `quadplane_ranges` (proofs/Laws/RangeTable.antt). Definitions only. Assumes nothing.
use Rattle.std.specs.Prelude.{Bool, true, false, ◌&&◌, List, [], ◌∷◌, ℕ, suc, ◌+◌, Float, get_or, if◌then◌else◌}
use Rattle.std.specs.Float.Ieee.{lt, le}
use Rattle.numbers.specs.Numbers.{float_of}
use Rattle.machines.specs.declared.ranges.Range.{Range}
use Rattle.machines.specs.Settings.{Test, field◌is◌}

-- ---- "low bound, high bound and whether each end counts, as float bits": `above` and `below` are ends that do not count, `from` and `to` ends that do
infix 90 above◌below◌
infix 90 above◌to◌
infix 90 from◌below◌
infix 90 from◌to◌
abbrev pub above◌below◌ : ℕ → ℕ → Range
above low below high = record { 0 = low; 1 = false; 2 = high; 3 = false }

abbrev pub above◌to◌ : ℕ → ℕ → Range
above low to high = record { 0 = low; 1 = false; 2 = high; 3 = true }

abbrev pub from◌below◌ : ℕ → ℕ → Range
from low below high = record { 0 = low; 1 = true; 2 = high; 3 = false }

abbrev pub from◌to◌ : ℕ → ℕ → Range
from low to high = record { 0 = low; 1 = true; 2 = high; 3 = true }

-- "a row lets through": above the low end, or at it if that counts, and below the high end, or at it if that counts
abbrev pub is_under : Bool → Float → Float → Bool
is_under inclusive x y = if inclusive then le x y else lt x y

abbrev pub contains : Range → Float → Bool
contains r x = is_under r.1 (float_of r.0) x && is_under r.3 x (float_of r.2)

-- "a constant table": the tailsitter's fields 1 to 17, then the quadplane's 1 to 15. 3F800000 is 1, 3FC90FDB π/2, 40490FDB π, 7F800000 infinity
abbrev pub range_table : List Range
range_table =
    -- tailsitter
    above 0 below 0x7F80_0000  -- 1 forward_rate_radps
    ∷ above 0 below 0x3FC9_0FDB  -- 2 forward_done_rad
    ∷ above 0 to 0x3FC9_0FDB  -- 3 forward_max_tilt_rad
    ∷ from 0 below 0x7F80_0000  -- 4 min_airspeed_mps
    ∷ above 0 below 0x7F80_0000  -- 5 back_rate_radps
    ∷ above 0 below 0x3FC9_0FDB  -- 6 back_done_rad
    ∷ above 0 below 0x7F80_0000  -- 7 timeout_s
    ∷ from 0 below 0x7F80_0000  -- 8 min_height_m
    ∷ from 0 below 0x7F80_0000  -- 9 plane_min_height_m
    ∷ from 0 to 0x3F80_0000  -- 10 forward_thrust
    ∷ from 0 to 0x3F80_0000  -- 11 back_thrust
    ∷ from 0 below 0x7F80_0000  -- 12 back_sink_limit_mps
    ∷ from 0 below 0x7F80_0000  -- 13 back_sink_gain
    ∷ from 0 below 0x7F80_0000  -- 14 handoff_s
    ∷ above 0 to 0x4049_0FDB  -- 15 roll_limit_rad
    ∷ above 0 to 0x3F80_0000  -- 16 forward_done_cosine
    ∷ above 0 to 0x3F80_0000  -- 17 back_done_cosine
    -- quadplane
    ∷ from 0 below 0x7F80_0000  -- 1 min_airspeed_mps
    ∷ above 0 below 0x7F80_0000  -- 2 lift_ramp_s
    ∷ above 0 below 0x7F80_0000  -- 3 timeout_s
    ∷ from 0 below 0x7F80_0000  -- 4 min_height_m
    ∷ from 0 below 0x7F80_0000  -- 5 plane_min_height_m
    ∷ above 0 below 0x7F80_0000  -- 6 back_ramp_s
    ∷ from 0 below 0x7F80_0000  -- 7 back_speed_mps
    ∷ above 0 below 0x7F80_0000  -- 8 back_timeout_s
    ∷ from 0 below 0x7F80_0000  -- 9 back_decel_mps2
    ∷ from 0 below 0x7F80_0000  -- 10 back_decel_i
    ∷ from 0 to 0x3F80_0000  -- 11 forward_thrust
    ∷ above 0 below 0x7F80_0000  -- 12 pusher_slew_per_s
    ∷ above 0 below 0x3FC9_0FDB  -- 13 forward_pitch_max_rad
    ∷ from 0 below 0x7F80_0000  -- 14 handoff_s
    ∷ above 0 to 0x4049_0FDB  -- 15 roll_limit_rad
    ∷ []

-- a row by its number from 0; past the table, one that lets nothing through
abbrev pub range_at : ℕ → Range
range_at row = get_or range_table row (above 0 below 0)

-- the settings of an airframe from field n + 1 on, each tested by its row; field 1 has row `first`
abbrev pub range_tests : ℕ → ℕ → List Float → List Test
range_tests first n [] = []
range_tests first n (x ∷ xs) = field suc n is contains (range_at (first + n)) x ∷ range_tests first (suc n) xs
