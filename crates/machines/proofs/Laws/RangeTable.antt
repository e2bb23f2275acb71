-- A row of the table lets through exactly what section 2 lets through, for every Float: the tests by the rows are section 2's own, field for field. A high end of +∞ that does not
-- count says "finite", with NaN and both infinities outside; the other ranges are a row's two comparisons as they stand. Assumes nothing.
use Rattle.std.specs.Prelude.{if◌then◌else◌, Err}
use mathlib.Core.Path.{◌≡◌, refl}
use mathlib.Core.Bool.{Bool, true, false, not, ◌&&◌, ◌||◌}
use mathlib.Core.List.{List, [], ◌∷◌}
use Prim.Native.Nat.{ℕ, ◌+◌, ◌<◌}
use native.Mathlib.Numerals.{towards_suc}
use lib.Dec.{T}
use lib.ListN.{get_or, length, drop}
use lib.Seq.{drop-cons}
use lib.Ieee.{Float, nan, inf, fin, lt, le, of_bits}
use Rattle.numbers.specs.Numbers.{zero32}
use Rattle.numbers.specs.Ranges.{limit, positive}
use Rattle.numbers.proofs.Laws.Examples.{minus_zero}
use Rattle.machines.specs.declared.InputRefusal.TheVariants.{Setting}
use Rattle.machines.specs.declared.ranges.Range.{Range}
use Rattle.machines.specs.declared.settings.TransitionConfig.{TransitionConfig}
use Rattle.machines.specs.declared.settings.LiftTransitionConfig.{LiftTransitionConfig}
use Rattle.machines.specs.Settings.{verdict, transition_tests, lift_tests}
use Rattle.machines.specs.RangeTable.{contains, range_table, range_at, range_tests, above◌below◌, from◌below◌}

-- ---- (0, +∞) is "positive", and [0, +∞) a "limit"
pub positive_range : (x : Float) → contains (above 0 below 0x7F80_0000) x ≡ positive x
unfolding lt le of_bits
positive_range nan = refl
positive_range (inf true) = refl
positive_range (inf false) = refl
positive_range (fin s m e) = refl

pub limit_range : (x : Float) → contains (from 0 below 0x7F80_0000) x ≡ limit x
unfolding lt le of_bits
limit_range nan = refl
limit_range (inf true) = refl
limit_range (inf false) = refl
limit_range (fin s m e) = refl

-- ---- the settings of each airframe in the order of its fields
abbrev pub transition_settings : TransitionConfig → List Float
transition_settings c =
    c.forward_rate_radps
    ∷ c.forward_done_rad
    ∷ c.forward_max_tilt_rad
    ∷ c.min_airspeed_mps
    ∷ c.back_rate_radps
    ∷ c.back_done_rad
    ∷ c.timeout_s
    ∷ c.min_height_m
    ∷ c.plane_min_height_m
    ∷ c.forward_thrust
    ∷ c.back_thrust
    ∷ c.back_sink_limit_mps
    ∷ c.back_sink_gain
    ∷ c.handoff_s
    ∷ c.roll_limit_rad
    ∷ c.forward_done_cosine
    ∷ c.back_done_cosine
    ∷ []

abbrev pub lift_settings : LiftTransitionConfig → List Float
lift_settings c =
    c.min_airspeed_mps
    ∷ c.lift_ramp_s
    ∷ c.timeout_s
    ∷ c.min_height_m
    ∷ c.plane_min_height_m
    ∷ c.back_ramp_s
    ∷ c.back_speed_mps
    ∷ c.back_timeout_s
    ∷ c.back_decel_mps2
    ∷ c.back_decel_i
    ∷ c.forward_thrust
    ∷ c.pusher_slew_per_s
    ∷ c.forward_pitch_max_rad
    ∷ c.handoff_s
    ∷ c.roll_limit_rad
    ∷ []

-- ---- the table is section 2
pub tailsitter_ranges : (c : TransitionConfig) → range_tests 0 0 (transition_settings c) ≡ transition_tests c
tailsitter_ranges c = simp (positive_range, limit_range)

pub quadplane_ranges : (c : LiftTransitionConfig) → range_tests 17 0 (lift_settings c) ≡ lift_tests c
quadplane_ranges c = simp (positive_range, limit_range)

-- ---- in every row: NaN and the infinities are not let through, and -0 is where 0 is
abbrev special : Range → Bool
special r =
    not (contains r nan || contains r (inf true) || contains r (inf false))
    && (if contains r zero32 then contains r minus_zero else not (contains r minus_zero))

abbrev all_special : List Range → Bool
all_special [] = true
all_special (r ∷ rs) = special r && all_special rs

pub specials : T (all_special range_table)
unfolding lt le of_bits
specials = tt

-- ---- the verdict on settings from field i + 1 on: that field's, if it is bad, and else the verdict on those after it
pub bad_field : (first i : ℕ) (xs : List Float) (d : Float) → i < length xs → contains (range_at (first + i)) (get_or xs i d) ≡ false → verdict (range_tests first i (drop i xs)) ≡ Err (Setting (i + 1))
bad_field first i xs d h e = simp (drop-cons xs i d h, e, towards_suc)

pub good_field : (first i : ℕ) (xs : List Float) (d : Float) → i < length xs → contains (range_at (first + i)) (get_or xs i d) ≡ true → verdict (range_tests first i (drop i xs)) ≡ verdict (range_tests first (i + 1) (drop (i + 1) xs))
good_field first i xs d h e = simp (drop-cons xs i d h, e, towards_suc)
