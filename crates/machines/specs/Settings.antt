-- Document 01, section 2: the settings, and those of the split (section 8). Definitions only. Assumes nothing.
use Rattle.std.specs.Prelude.{Bool, List, [], ◌∷◌, ℕ, if◌then◌else◌, ⊤, Result, Ok, Err}
use Rattle.numbers.specs.Numbers.{float_of, zero32}
use Rattle.numbers.specs.Ranges.{limit, positive, unit, unit_above_zero, quarter_turn, quarter_turn_closed, quarter_turn_from_zero, half_turn}
use Rattle.machines.specs.declared.InputRefusal.{InputRefusal}
use Rattle.machines.specs.declared.InputRefusal.TheVariants.{Setting}
use Rattle.machines.specs.declared.settings.TransitionConfig.{TransitionConfig}
use Rattle.machines.specs.declared.settings.LiftTransitionConfig.{LiftTransitionConfig}
use Rattle.machines.specs.declared.settings.ForwardThrustConfig.{ForwardThrustConfig}

-- ---- a check of settings: tests in their order, each with the refusal that its failing gives
pub record Test : Type 0 where
  pub passed : Bool
  pub refusal : InputRefusal

-- "fields are checked in the order of the struct": the first test that fails decides
abbrev pub verdict : List Test → Result ⊤ InputRefusal
verdict [] = Ok tt
verdict (t ∷ ts) = if t.passed then verdict ts else Err t.refusal

-- "the first bad one named by position from 1": field n is in its range, or refused by 3 with n
infix 90 field◌is◌
abbrev pub field◌is◌ : ℕ → Bool → Test
field n is good = record { passed = good; refusal = Setting n }

-- "tailsitter: 1, 5, 7 positive; 2, 6 in (0, π/2); 3 in (0, π/2]; 4, 8, 9, 12, 13, 14 limits; 10, 11 in [0, 1]; 15 in (0, π]; added 16, 17 in (0, 1]"
abbrev pub transition_tests : TransitionConfig → List Test
transition_tests c =
    field 1 is positive c.forward_rate_radps
    ∷ field 2 is quarter_turn c.forward_done_rad
    ∷ field 3 is quarter_turn_closed c.forward_max_tilt_rad
    ∷ field 4 is limit c.min_airspeed_mps
    ∷ field 5 is positive c.back_rate_radps
    ∷ field 6 is quarter_turn c.back_done_rad
    ∷ field 7 is positive c.timeout_s
    ∷ field 8 is limit c.min_height_m
    ∷ field 9 is limit c.plane_min_height_m
    ∷ field 10 is unit c.forward_thrust
    ∷ field 11 is unit c.back_thrust
    ∷ field 12 is limit c.back_sink_limit_mps
    ∷ field 13 is limit c.back_sink_gain
    ∷ field 14 is limit c.handoff_s
    ∷ field 15 is half_turn c.roll_limit_rad
    ∷ field 16 is unit_above_zero c.forward_done_cosine
    ∷ field 17 is unit_above_zero c.back_done_cosine
    ∷ []

abbrev pub transition_validity : TransitionConfig → Result ⊤ InputRefusal
transition_validity c = verdict (transition_tests c)

-- "quadplane: 2, 3, 6, 8, 12 positive; 1, 4, 5, 7, 9, 10, 14 limits; 11 in [0, 1]; 13 in (0, π/2); 15 in (0, π]"
abbrev pub lift_tests : LiftTransitionConfig → List Test
lift_tests c =
    field 1 is limit c.min_airspeed_mps
    ∷ field 2 is positive c.lift_ramp_s
    ∷ field 3 is positive c.timeout_s
    ∷ field 4 is limit c.min_height_m
    ∷ field 5 is limit c.plane_min_height_m
    ∷ field 6 is positive c.back_ramp_s
    ∷ field 7 is limit c.back_speed_mps
    ∷ field 8 is positive c.back_timeout_s
    ∷ field 9 is limit c.back_decel_mps2
    ∷ field 10 is limit c.back_decel_i
    ∷ field 11 is unit c.forward_thrust
    ∷ field 12 is positive c.pusher_slew_per_s
    ∷ field 13 is quarter_turn c.forward_pitch_max_rad
    ∷ field 14 is limit c.handoff_s
    ∷ field 15 is half_turn c.roll_limit_rad
    ∷ []

abbrev pub lift_validity : LiftTransitionConfig → Result ⊤ InputRefusal
lift_validity c = verdict (lift_tests c)

-- the split (section 8): "1 gain a limit, 2 limit in [0, π/2)"
abbrev pub forward_thrust_tests : ForwardThrustConfig → List Test
forward_thrust_tests c = field 1 is limit c.gain ∷ field 2 is quarter_turn_from_zero c.pitch_limit_rad ∷ []

abbrev pub forward_thrust_validity : ForwardThrustConfig → Result ⊤ InputRefusal
forward_thrust_validity c = verdict (forward_thrust_tests c)

-- ---- the Rust's default settings, by their bits; 16 and 17 are the cosine of the default done angles
abbrev pub transition_default : TransitionConfig
transition_default = record {
  forward_rate_radps = float_of 0x3F5F_66F3;
  forward_done_rad = float_of 0x3F49_0FDB;
  forward_max_tilt_rad = float_of 0x3FB2_B8C2;
  min_airspeed_mps = zero32;
  back_rate_radps = float_of 0x3F5F_66F3;
  back_done_rad = float_of 0x3F49_0FDB;
  timeout_s = float_of 0x4170_0000;
  min_height_m = float_of 0x40A0_0000;
  plane_min_height_m = zero32;
  forward_thrust = float_of 0x3F00_0000;
  back_thrust = float_of 0x3F00_0000;
  back_sink_limit_mps = float_of 0x3F80_0000;
  back_sink_gain = float_of 0x3ECC_CCCD;
  handoff_s = float_of 0x3F00_0000;
  roll_limit_rad = float_of 0x3F49_0FDB;
  forward_done_cosine = float_of 0x3F35_04F3;
  back_done_cosine = float_of 0x3F35_04F3;
}

abbrev pub lift_default : LiftTransitionConfig
lift_default = record {
  min_airspeed_mps = float_of 0x4110_0000;
  lift_ramp_s = float_of 0x40A0_0000;
  timeout_s = float_of 0x4170_0000;
  min_height_m = float_of 0x40A0_0000;
  plane_min_height_m = zero32;
  back_ramp_s = float_of 0x4040_0000;
  back_speed_mps = float_of 0x40A0_0000;
  back_timeout_s = float_of 0x4120_0000;
  back_decel_mps2 = float_of 0x4000_0000;
  back_decel_i = float_of 0x3DCC_CCCD;
  forward_thrust = float_of 0x3F80_0000;
  pusher_slew_per_s = float_of 0x3EA8_F5C3;
  forward_pitch_max_rad = float_of 0x3D56_7750;
  handoff_s = float_of 0x3F00_0000;
  roll_limit_rad = float_of 0x3F49_0FDB;
}
