-- A table of the functions of this crate that the joined machine's functions call: where it stands in a world of tables, each name means the code that the function has. tools/link_laws.py writes this file. Assumes nothing.
use mathlib.Core.Path.{refl}
use mathlib.Core.Bool.{false}
use prog.Linked.{Tree, leaf, fork, World, in_world, Holds, in_table}
use prog.LinkedThreads.{HasT}
use Rattle.machines.proofs.FlightMode.after_abandon.Symbol as FlightMode_after_abandon
use Rattle.machines.proofs.FlightMode.after_abandon.TheLink as FlightMode_after_abandon-link
use Rattle.machines.proofs.FlightMode.clock_after.Symbol as FlightMode_clock_after
use Rattle.machines.proofs.FlightMode.clock_after.TheLink as FlightMode_clock_after-link
use Rattle.machines.proofs.FlightModePartialEq.eq.Symbol as FlightModePartialEq_eq
use Rattle.machines.proofs.FlightModePartialEq.eq.TheLink as FlightModePartialEq_eq-link
use Rattle.machines.proofs.VehicleState.valid_airspeed_mps.Symbol as VehicleState_valid_airspeed_mps
use Rattle.machines.proofs.VehicleState.valid_airspeed_mps.TheLink as VehicleState_valid_airspeed_mps-link
use Rattle.machines.proofs.answer.Update.refused.Symbol as answer_Update_refused
use Rattle.machines.proofs.answer.Update.refused.TheLink as answer_Update_refused-link
use Rattle.machines.proofs.at_least_or.Symbol as at_least_or
use Rattle.machines.proofs.at_least_or.TheLink as at_least_or-link
use Rattle.machines.proofs.deceleration.BackDeceleration.new.Symbol as deceleration_BackDeceleration_new
use Rattle.machines.proofs.deceleration.BackDeceleration.new.TheLink as deceleration_BackDeceleration_new-link
use Rattle.machines.proofs.deceleration.BackDeceleration.next_pitch_rad.Symbol as deceleration_BackDeceleration_next_pitch_rad
use Rattle.machines.proofs.deceleration.BackDeceleration.next_pitch_rad.TheLink as deceleration_BackDeceleration_next_pitch_rad-link
use Rattle.machines.proofs.deceleration.BackDeceleration.pitch_rad.Symbol as deceleration_BackDeceleration_pitch_rad
use Rattle.machines.proofs.deceleration.BackDeceleration.pitch_rad.TheLink as deceleration_BackDeceleration_pitch_rad-link
use Rattle.machines.proofs.deceleration.ground_deceleration_mps2.Symbol as deceleration_ground_deceleration_mps2
use Rattle.machines.proofs.deceleration.ground_deceleration_mps2.TheLink as deceleration_ground_deceleration_mps2-link
use Rattle.machines.proofs.gate.ForwardGate.below.Symbol as gate_ForwardGate_below
use Rattle.machines.proofs.gate.ForwardGate.below.TheLink as gate_ForwardGate_below-link
use Rattle.machines.proofs.gate.ForwardGate.height_m.Symbol as gate_ForwardGate_height_m
use Rattle.machines.proofs.gate.ForwardGate.height_m.TheLink as gate_ForwardGate_height_m-link
use Rattle.machines.proofs.gate.ForwardGate.refusal.Symbol as gate_ForwardGate_refusal
use Rattle.machines.proofs.gate.ForwardGate.refusal.TheLink as gate_ForwardGate_refusal-link
use Rattle.machines.proofs.handoff.ThrustHandoff.active.Symbol as handoff_ThrustHandoff_active
use Rattle.machines.proofs.handoff.ThrustHandoff.active.TheLink as handoff_ThrustHandoff_active-link
use Rattle.machines.proofs.handoff.ThrustHandoff.applied.Symbol as handoff_ThrustHandoff_applied
use Rattle.machines.proofs.handoff.ThrustHandoff.applied.TheLink as handoff_ThrustHandoff_applied-link
use Rattle.machines.proofs.handoff.ThrustHandoff.apply.Symbol as handoff_ThrustHandoff_apply
use Rattle.machines.proofs.handoff.ThrustHandoff.apply.TheLink as handoff_ThrustHandoff_apply-link
use Rattle.machines.proofs.handoff.ThrustHandoff.inactive.Symbol as handoff_ThrustHandoff_inactive
use Rattle.machines.proofs.handoff.ThrustHandoff.inactive.TheLink as handoff_ThrustHandoff_inactive-link
use Rattle.machines.proofs.handoff.ThrustHandoff.start.Symbol as handoff_ThrustHandoff_start
use Rattle.machines.proofs.handoff.ThrustHandoff.start.TheLink as handoff_ThrustHandoff_start-link
use Rattle.machines.proofs.lift.LiftTransition.answered.Symbol as lift_LiftTransition_answered
use Rattle.machines.proofs.lift.LiftTransition.answered.TheLink as lift_LiftTransition_answered-link
use Rattle.machines.proofs.lift.LiftTransition.back_share.Symbol as lift_LiftTransition_back_share
use Rattle.machines.proofs.lift.LiftTransition.back_share.TheLink as lift_LiftTransition_back_share-link
use Rattle.machines.proofs.lift.LiftTransition.cut_short.Symbol as lift_LiftTransition_cut_short
use Rattle.machines.proofs.lift.LiftTransition.cut_short.TheLink as lift_LiftTransition_cut_short-link
use Rattle.machines.proofs.lift.LiftTransition.forward_share.Symbol as lift_LiftTransition_forward_share
use Rattle.machines.proofs.lift.LiftTransition.forward_share.TheLink as lift_LiftTransition_forward_share-link
use Rattle.machines.proofs.lift.LiftTransition.lift_share.Symbol as lift_LiftTransition_lift_share
use Rattle.machines.proofs.lift.LiftTransition.lift_share.TheLink as lift_LiftTransition_lift_share-link
use Rattle.machines.proofs.lift.LiftTransition.moved.Symbol as lift_LiftTransition_moved
use Rattle.machines.proofs.lift.LiftTransition.moved.TheLink as lift_LiftTransition_moved-link
use Rattle.machines.proofs.lift.LiftTransition.new.Symbol as lift_LiftTransition_new
use Rattle.machines.proofs.lift.LiftTransition.new.TheLink as lift_LiftTransition_new-link
use Rattle.machines.proofs.lift.LiftTransition.prime.Symbol as lift_LiftTransition_prime
use Rattle.machines.proofs.lift.LiftTransition.prime.TheLink as lift_LiftTransition_prime-link
use Rattle.machines.proofs.lift.LiftTransition.ramp.Symbol as lift_LiftTransition_ramp
use Rattle.machines.proofs.lift.LiftTransition.ramp.TheLink as lift_LiftTransition_ramp-link
use Rattle.machines.proofs.lift.LiftTransition.ramp_done.Symbol as lift_LiftTransition_ramp_done
use Rattle.machines.proofs.lift.LiftTransition.ramp_done.TheLink as lift_LiftTransition_ramp_done-link
use Rattle.machines.proofs.lift.LiftTransition.ramp_timed_out.Symbol as lift_LiftTransition_ramp_timed_out
use Rattle.machines.proofs.lift.LiftTransition.ramp_timed_out.TheLink as lift_LiftTransition_ramp_timed_out-link
use Rattle.machines.proofs.lift.LiftTransition.set_config.Symbol as lift_LiftTransition_set_config
use Rattle.machines.proofs.lift.LiftTransition.set_config.TheLink as lift_LiftTransition_set_config-link
use Rattle.machines.proofs.lift.LiftTransition.slowed.Symbol as lift_LiftTransition_slowed
use Rattle.machines.proofs.lift.LiftTransition.slowed.TheLink as lift_LiftTransition_slowed-link
use Rattle.machines.proofs.lift.LiftTransition.update.Symbol as lift_LiftTransition_update
use Rattle.machines.proofs.lift.LiftTransition.update.TheLink as lift_LiftTransition_update-link
use Rattle.machines.proofs.ranges.Range.contains.Symbol as ranges_Range_contains
use Rattle.machines.proofs.ranges.Range.contains.TheLink as ranges_Range_contains-link
use Rattle.machines.proofs.ranges.is_under.Symbol as ranges_is_under
use Rattle.machines.proofs.ranges.is_under.TheLink as ranges_is_under-link
use Rattle.machines.proofs.ranges.validate_ranges.Symbol as ranges_validate_ranges
use Rattle.machines.proofs.ranges.validate_ranges.TheLink as ranges_validate_ranges-link
use Rattle.machines.proofs.rows.TransitionState.abandon.Symbol as rows_TransitionState_abandon
use Rattle.machines.proofs.rows.TransitionState.abandon.TheLink as rows_TransitionState_abandon-link
use Rattle.machines.proofs.rows.TransitionState.begin.Symbol as rows_TransitionState_begin
use Rattle.machines.proofs.rows.TransitionState.begin.TheLink as rows_TransitionState_begin-link
use Rattle.machines.proofs.rows.TransitionState.clear.Symbol as rows_TransitionState_clear
use Rattle.machines.proofs.rows.TransitionState.clear.TheLink as rows_TransitionState_clear-link
use Rattle.machines.proofs.rows.TransitionState.cut.Symbol as rows_TransitionState_cut
use Rattle.machines.proofs.rows.TransitionState.cut.TheLink as rows_TransitionState_cut-link
use Rattle.machines.proofs.rows.TransitionState.enter.Symbol as rows_TransitionState_enter
use Rattle.machines.proofs.rows.TransitionState.enter.TheLink as rows_TransitionState_enter-link
use Rattle.machines.proofs.rows.TransitionState.finish.Symbol as rows_TransitionState_finish
use Rattle.machines.proofs.rows.TransitionState.finish.TheLink as rows_TransitionState_finish-link
use Rattle.machines.proofs.rows.TransitionState.from_copter.Symbol as rows_TransitionState_from_copter
use Rattle.machines.proofs.rows.TransitionState.from_copter.TheLink as rows_TransitionState_from_copter-link
use Rattle.machines.proofs.rows.TransitionState.from_plane.Symbol as rows_TransitionState_from_plane
use Rattle.machines.proofs.rows.TransitionState.from_plane.TheLink as rows_TransitionState_from_plane-link
use Rattle.machines.proofs.rows.TransitionState.from_to_copter.Symbol as rows_TransitionState_from_to_copter
use Rattle.machines.proofs.rows.TransitionState.from_to_copter.TheLink as rows_TransitionState_from_to_copter-link
use Rattle.machines.proofs.rows.TransitionState.from_to_plane.Symbol as rows_TransitionState_from_to_plane
use Rattle.machines.proofs.rows.TransitionState.from_to_plane.TheLink as rows_TransitionState_from_to_plane-link
use Rattle.machines.proofs.rows.TransitionState.hand_over.Symbol as rows_TransitionState_hand_over
use Rattle.machines.proofs.rows.TransitionState.hand_over.TheLink as rows_TransitionState_hand_over-link
use Rattle.machines.proofs.rows.TransitionState.new.Symbol as rows_TransitionState_new
use Rattle.machines.proofs.rows.TransitionState.new.TheLink as rows_TransitionState_new-link
use Rattle.machines.proofs.rows.TransitionState.primed.Symbol as rows_TransitionState_primed
use Rattle.machines.proofs.rows.TransitionState.primed.TheLink as rows_TransitionState_primed-link
use Rattle.machines.proofs.rows.TransitionState.stay.Symbol as rows_TransitionState_stay
use Rattle.machines.proofs.rows.TransitionState.stay.TheLink as rows_TransitionState_stay-link
use Rattle.machines.proofs.rows.TransitionState.step.Symbol as rows_TransitionState_step
use Rattle.machines.proofs.rows.TransitionState.step.TheLink as rows_TransitionState_step-link
use Rattle.machines.proofs.rows.TransitionState.to_mode.Symbol as rows_TransitionState_to_mode
use Rattle.machines.proofs.rows.TransitionState.to_mode.TheLink as rows_TransitionState_to_mode-link
use Rattle.machines.proofs.settings.LiftTransitionConfig.validate.Symbol as settings_LiftTransitionConfig_validate
use Rattle.machines.proofs.settings.LiftTransitionConfig.validate.TheLink as settings_LiftTransitionConfig_validate-link
use Rattle.machines.proofs.settings.TransitionConfig.validate.Symbol as settings_TransitionConfig_validate
use Rattle.machines.proofs.settings.TransitionConfig.validate.TheLink as settings_TransitionConfig_validate-link
use Rattle.machines.proofs.sink.guard_sink.Symbol as sink_guard_sink
use Rattle.machines.proofs.sink.guard_sink.TheLink as sink_guard_sink-link
use Rattle.machines.proofs.vtol.Transition.answered.Symbol as vtol_Transition_answered
use Rattle.machines.proofs.vtol.Transition.answered.TheLink as vtol_Transition_answered-link
use Rattle.machines.proofs.vtol.Transition.cut_short.Symbol as vtol_Transition_cut_short
use Rattle.machines.proofs.vtol.Transition.cut_short.TheLink as vtol_Transition_cut_short-link
use Rattle.machines.proofs.vtol.Transition.forward_done.Symbol as vtol_Transition_forward_done
use Rattle.machines.proofs.vtol.Transition.forward_done.TheLink as vtol_Transition_forward_done-link
use Rattle.machines.proofs.vtol.Transition.moved.Symbol as vtol_Transition_moved
use Rattle.machines.proofs.vtol.Transition.moved.TheLink as vtol_Transition_moved-link
use Rattle.machines.proofs.vtol.Transition.new.Symbol as vtol_Transition_new
use Rattle.machines.proofs.vtol.Transition.new.TheLink as vtol_Transition_new-link
use Rattle.machines.proofs.vtol.Transition.prime.Symbol as vtol_Transition_prime
use Rattle.machines.proofs.vtol.Transition.prime.TheLink as vtol_Transition_prime-link
use Rattle.machines.proofs.vtol.Transition.set_config.Symbol as vtol_Transition_set_config
use Rattle.machines.proofs.vtol.Transition.set_config.TheLink as vtol_Transition_set_config-link
use Rattle.machines.proofs.vtol.Transition.settled.Symbol as vtol_Transition_settled
use Rattle.machines.proofs.vtol.Transition.settled.TheLink as vtol_Transition_settled-link
use Rattle.machines.proofs.vtol.Transition.tilt_target_rad.Symbol as vtol_Transition_tilt_target_rad
use Rattle.machines.proofs.vtol.Transition.tilt_target_rad.TheLink as vtol_Transition_tilt_target_rad-link
use Rattle.machines.proofs.vtol.Transition.update.Symbol as vtol_Transition_update
use Rattle.machines.proofs.vtol.Transition.update.TheLink as vtol_Transition_update-link
use Rattle.machines.proofs.vtol.bad_entry_tilt.Symbol as vtol_bad_entry_tilt
use Rattle.machines.proofs.vtol.bad_entry_tilt.TheLink as vtol_bad_entry_tilt-link
use Rattle.machines.proofs.vtol.start_tilt_rad.Symbol as vtol_start_tilt_rad
use Rattle.machines.proofs.vtol.start_tilt_rad.TheLink as vtol_start_tilt_rad-link
use Rattle.machines.proofs.vtol.unknown_tilt_rad.Symbol as vtol_unknown_tilt_rad
use Rattle.machines.proofs.vtol.unknown_tilt_rad.TheLink as vtol_unknown_tilt_rad-link
use Rattle.numbers.proofs.Laws.Linked as numbers-has

pub table : Tree
table =
    fork leaf FlightMode_after_abandon.symbol FlightMode_after_abandon-link.entry (
    fork leaf FlightMode_clock_after.symbol FlightMode_clock_after-link.entry (
    fork leaf FlightModePartialEq_eq.symbol FlightModePartialEq_eq-link.entry (
    fork leaf VehicleState_valid_airspeed_mps.symbol VehicleState_valid_airspeed_mps-link.entry (
    fork leaf answer_Update_refused.symbol answer_Update_refused-link.entry (
    fork leaf at_least_or.symbol at_least_or-link.entry (
    fork leaf deceleration_BackDeceleration_new.symbol deceleration_BackDeceleration_new-link.entry (
    fork leaf deceleration_BackDeceleration_next_pitch_rad.symbol deceleration_BackDeceleration_next_pitch_rad-link.entry (
    fork leaf deceleration_BackDeceleration_pitch_rad.symbol deceleration_BackDeceleration_pitch_rad-link.entry (
    fork leaf deceleration_ground_deceleration_mps2.symbol deceleration_ground_deceleration_mps2-link.entry (
    fork leaf gate_ForwardGate_below.symbol gate_ForwardGate_below-link.entry (
    fork leaf gate_ForwardGate_height_m.symbol gate_ForwardGate_height_m-link.entry (
    fork leaf gate_ForwardGate_refusal.symbol gate_ForwardGate_refusal-link.entry (
    fork leaf handoff_ThrustHandoff_active.symbol handoff_ThrustHandoff_active-link.entry (
    fork leaf handoff_ThrustHandoff_applied.symbol handoff_ThrustHandoff_applied-link.entry (
    fork leaf handoff_ThrustHandoff_apply.symbol handoff_ThrustHandoff_apply-link.entry (
    fork leaf handoff_ThrustHandoff_inactive.symbol handoff_ThrustHandoff_inactive-link.entry (
    fork leaf handoff_ThrustHandoff_start.symbol handoff_ThrustHandoff_start-link.entry (
    fork leaf lift_LiftTransition_answered.symbol lift_LiftTransition_answered-link.entry (
    fork leaf lift_LiftTransition_back_share.symbol lift_LiftTransition_back_share-link.entry (
    fork leaf lift_LiftTransition_cut_short.symbol lift_LiftTransition_cut_short-link.entry (
    fork leaf lift_LiftTransition_forward_share.symbol lift_LiftTransition_forward_share-link.entry (
    fork leaf lift_LiftTransition_lift_share.symbol lift_LiftTransition_lift_share-link.entry (
    fork leaf lift_LiftTransition_moved.symbol lift_LiftTransition_moved-link.entry (
    fork leaf lift_LiftTransition_new.symbol lift_LiftTransition_new-link.entry (
    fork leaf lift_LiftTransition_prime.symbol lift_LiftTransition_prime-link.entry (
    fork leaf lift_LiftTransition_ramp.symbol lift_LiftTransition_ramp-link.entry (
    fork leaf lift_LiftTransition_ramp_done.symbol lift_LiftTransition_ramp_done-link.entry (
    fork leaf lift_LiftTransition_ramp_timed_out.symbol lift_LiftTransition_ramp_timed_out-link.entry (
    fork leaf lift_LiftTransition_set_config.symbol lift_LiftTransition_set_config-link.entry (
    fork leaf lift_LiftTransition_slowed.symbol lift_LiftTransition_slowed-link.entry (
    fork leaf lift_LiftTransition_update.symbol lift_LiftTransition_update-link.entry (
    fork leaf ranges_Range_contains.symbol ranges_Range_contains-link.entry (
    fork leaf ranges_is_under.symbol ranges_is_under-link.entry (
    fork leaf ranges_validate_ranges.symbol ranges_validate_ranges-link.entry (
    fork leaf rows_TransitionState_abandon.symbol rows_TransitionState_abandon-link.entry (
    fork leaf rows_TransitionState_begin.symbol rows_TransitionState_begin-link.entry (
    fork leaf rows_TransitionState_clear.symbol rows_TransitionState_clear-link.entry (
    fork leaf rows_TransitionState_cut.symbol rows_TransitionState_cut-link.entry (
    fork leaf rows_TransitionState_enter.symbol rows_TransitionState_enter-link.entry (
    fork leaf rows_TransitionState_finish.symbol rows_TransitionState_finish-link.entry (
    fork leaf rows_TransitionState_from_copter.symbol rows_TransitionState_from_copter-link.entry (
    fork leaf rows_TransitionState_from_plane.symbol rows_TransitionState_from_plane-link.entry (
    fork leaf rows_TransitionState_from_to_copter.symbol rows_TransitionState_from_to_copter-link.entry (
    fork leaf rows_TransitionState_from_to_plane.symbol rows_TransitionState_from_to_plane-link.entry (
    fork leaf rows_TransitionState_hand_over.symbol rows_TransitionState_hand_over-link.entry (
    fork leaf rows_TransitionState_new.symbol rows_TransitionState_new-link.entry (
    fork leaf rows_TransitionState_primed.symbol rows_TransitionState_primed-link.entry (
    fork leaf rows_TransitionState_stay.symbol rows_TransitionState_stay-link.entry (
    fork leaf rows_TransitionState_step.symbol rows_TransitionState_step-link.entry (
    fork leaf rows_TransitionState_to_mode.symbol rows_TransitionState_to_mode-link.entry (
    fork leaf settings_LiftTransitionConfig_validate.symbol settings_LiftTransitionConfig_validate-link.entry (
    fork leaf settings_TransitionConfig_validate.symbol settings_TransitionConfig_validate-link.entry (
    fork leaf sink_guard_sink.symbol sink_guard_sink-link.entry (
    fork leaf vtol_Transition_answered.symbol vtol_Transition_answered-link.entry (
    fork leaf vtol_Transition_cut_short.symbol vtol_Transition_cut_short-link.entry (
    fork leaf vtol_Transition_forward_done.symbol vtol_Transition_forward_done-link.entry (
    fork leaf vtol_Transition_moved.symbol vtol_Transition_moved-link.entry (
    fork leaf vtol_Transition_new.symbol vtol_Transition_new-link.entry (
    fork leaf vtol_Transition_prime.symbol vtol_Transition_prime-link.entry (
    fork leaf vtol_Transition_set_config.symbol vtol_Transition_set_config-link.entry (
    fork leaf vtol_Transition_settled.symbol vtol_Transition_settled-link.entry (
    fork leaf vtol_Transition_tilt_target_rad.symbol vtol_Transition_tilt_target_rad-link.entry (
    fork leaf vtol_Transition_update.symbol vtol_Transition_update-link.entry (
    fork leaf vtol_bad_entry_tilt.symbol vtol_bad_entry_tilt-link.entry (
    fork leaf vtol_start_tilt_rad.symbol vtol_start_tilt_rad-link.entry (
    fork leaf vtol_unknown_tilt_rad.symbol vtol_unknown_tilt_rad-link.entry leaf))))))))))))))))))))))))))))))))))))))))))))))))))))))))))))))))))

module _ (W : World) (in_numbers : Holds W "numbers" numbers-has.table) (in_machines : Holds W "machines" table) where
  pub has_deceleration_BackDeceleration_new : HasT (in_world W) false deceleration_BackDeceleration_new.code
  unfolding table
  has_deceleration_BackDeceleration_new = deceleration_BackDeceleration_new-link.has (in_world W) false (in_table W "machines" table in_machines deceleration_BackDeceleration_new.symbol refl)

  pub has_handoff_ThrustHandoff_inactive : HasT (in_world W) false handoff_ThrustHandoff_inactive.code
  unfolding table
  has_handoff_ThrustHandoff_inactive = handoff_ThrustHandoff_inactive-link.has (in_world W) false (in_table W "machines" table in_machines handoff_ThrustHandoff_inactive.symbol refl)

  has_rows_TransitionState_primed : HasT (in_world W) false rows_TransitionState_primed.code
  unfolding table
  has_rows_TransitionState_primed = rows_TransitionState_primed-link.has (in_world W) false (in_table W "machines" table in_machines rows_TransitionState_primed.symbol refl)

  has_rows_TransitionState_new : HasT (in_world W) false rows_TransitionState_new.code
  unfolding table
  has_rows_TransitionState_new = rows_TransitionState_new-link.has (in_world W) false (in_table W "machines" table in_machines rows_TransitionState_new.symbol refl) has_rows_TransitionState_primed (numbers-has.has_constants_nan W in_numbers)

  has_ranges_is_under : HasT (in_world W) false ranges_is_under.code
  unfolding table
  has_ranges_is_under = ranges_is_under-link.has (in_world W) false (in_table W "machines" table in_machines ranges_is_under.symbol refl)

  has_ranges_Range_contains : HasT (in_world W) false ranges_Range_contains.code
  unfolding table
  has_ranges_Range_contains = ranges_Range_contains-link.has (in_world W) false (in_table W "machines" table in_machines ranges_Range_contains.symbol refl) has_ranges_is_under (numbers-has.has_bits_from_bits W in_numbers) (numbers-has.has_logic_both W in_numbers)

  has_ranges_validate_ranges : HasT (in_world W) false ranges_validate_ranges.code
  unfolding table
  has_ranges_validate_ranges = ranges_validate_ranges-link.has (in_world W) false (in_table W "machines" table in_machines ranges_validate_ranges.symbol refl) has_ranges_Range_contains

  has_settings_LiftTransitionConfig_validate : HasT (in_world W) false settings_LiftTransitionConfig_validate.code
  unfolding table
  has_settings_LiftTransitionConfig_validate = settings_LiftTransitionConfig_validate-link.has (in_world W) false (in_table W "machines" table in_machines settings_LiftTransitionConfig_validate.symbol refl) has_ranges_validate_ranges

  pub has_lift_LiftTransition_new : HasT (in_world W) false lift_LiftTransition_new.code
  unfolding table
  has_lift_LiftTransition_new = lift_LiftTransition_new-link.has (in_world W) false (in_table W "machines" table in_machines lift_LiftTransition_new.symbol refl) has_rows_TransitionState_new has_settings_LiftTransitionConfig_validate

  has_settings_TransitionConfig_validate : HasT (in_world W) false settings_TransitionConfig_validate.code
  unfolding table
  has_settings_TransitionConfig_validate = settings_TransitionConfig_validate-link.has (in_world W) false (in_table W "machines" table in_machines settings_TransitionConfig_validate.symbol refl) has_ranges_validate_ranges

  pub has_vtol_Transition_new : HasT (in_world W) false vtol_Transition_new.code
  unfolding table
  has_vtol_Transition_new = vtol_Transition_new-link.has (in_world W) false (in_table W "machines" table in_machines vtol_Transition_new.symbol refl) has_rows_TransitionState_new has_settings_TransitionConfig_validate

  pub has_handoff_ThrustHandoff_start : HasT (in_world W) false handoff_ThrustHandoff_start.code
  unfolding table
  has_handoff_ThrustHandoff_start = handoff_ThrustHandoff_start-link.has (in_world W) false (in_table W "machines" table in_machines handoff_ThrustHandoff_start.symbol refl) (numbers-has.has_math_saturate_throttle W in_numbers)

  has_lift_LiftTransition_back_share : HasT (in_world W) false lift_LiftTransition_back_share.code
  unfolding table
  has_lift_LiftTransition_back_share = lift_LiftTransition_back_share-link.has (in_world W) false (in_table W "machines" table in_machines lift_LiftTransition_back_share.symbol refl) (numbers-has.has_math_min W in_numbers)

  has_lift_LiftTransition_forward_share : HasT (in_world W) false lift_LiftTransition_forward_share.code
  unfolding table
  has_lift_LiftTransition_forward_share = lift_LiftTransition_forward_share-link.has (in_world W) false (in_table W "machines" table in_machines lift_LiftTransition_forward_share.symbol refl) (numbers-has.has_math_clamp W in_numbers)

  has_lift_LiftTransition_lift_share : HasT (in_world W) false lift_LiftTransition_lift_share.code
  unfolding table
  has_lift_LiftTransition_lift_share = lift_LiftTransition_lift_share-link.has (in_world W) false (in_table W "machines" table in_machines lift_LiftTransition_lift_share.symbol refl) has_lift_LiftTransition_back_share has_lift_LiftTransition_forward_share

  has_rows_TransitionState_step : HasT (in_world W) false rows_TransitionState_step.code
  unfolding table
  has_rows_TransitionState_step = rows_TransitionState_step-link.has (in_world W) false (in_table W "machines" table in_machines rows_TransitionState_step.symbol refl)

  has_lift_LiftTransition_answered : HasT (in_world W) false lift_LiftTransition_answered.code
  unfolding table
  has_lift_LiftTransition_answered = lift_LiftTransition_answered-link.has (in_world W) false (in_table W "machines" table in_machines lift_LiftTransition_answered.symbol refl) has_lift_LiftTransition_lift_share has_rows_TransitionState_step

  has_FlightMode_after_abandon : HasT (in_world W) false FlightMode_after_abandon.code
  unfolding table
  has_FlightMode_after_abandon = FlightMode_after_abandon-link.has (in_world W) false (in_table W "machines" table in_machines FlightMode_after_abandon.symbol refl)

  has_rows_TransitionState_abandon : HasT (in_world W) false rows_TransitionState_abandon.code
  unfolding table
  has_rows_TransitionState_abandon = rows_TransitionState_abandon-link.has (in_world W) false (in_table W "machines" table in_machines rows_TransitionState_abandon.symbol refl) has_FlightMode_after_abandon

  has_rows_TransitionState_hand_over : HasT (in_world W) false rows_TransitionState_hand_over.code
  unfolding table
  has_rows_TransitionState_hand_over = rows_TransitionState_hand_over-link.has (in_world W) false (in_table W "machines" table in_machines rows_TransitionState_hand_over.symbol refl)

  has_rows_TransitionState_stay : HasT (in_world W) false rows_TransitionState_stay.code
  unfolding table
  has_rows_TransitionState_stay = rows_TransitionState_stay-link.has (in_world W) false (in_table W "machines" table in_machines rows_TransitionState_stay.symbol refl)

  has_rows_TransitionState_cut : HasT (in_world W) false rows_TransitionState_cut.code
  unfolding table
  has_rows_TransitionState_cut = rows_TransitionState_cut-link.has (in_world W) false (in_table W "machines" table in_machines rows_TransitionState_cut.symbol refl) has_rows_TransitionState_abandon has_rows_TransitionState_hand_over has_rows_TransitionState_stay

  pub has_lift_LiftTransition_cut_short : HasT (in_world W) false lift_LiftTransition_cut_short.code
  unfolding table
  has_lift_LiftTransition_cut_short = lift_LiftTransition_cut_short-link.has (in_world W) false (in_table W "machines" table in_machines lift_LiftTransition_cut_short.symbol refl) has_lift_LiftTransition_answered has_rows_TransitionState_cut

  has_vtol_Transition_tilt_target_rad : HasT (in_world W) false vtol_Transition_tilt_target_rad.code
  unfolding table
  has_vtol_Transition_tilt_target_rad = vtol_Transition_tilt_target_rad-link.has (in_world W) false (in_table W "machines" table in_machines vtol_Transition_tilt_target_rad.symbol refl) (numbers-has.has_math_max W in_numbers) (numbers-has.has_math_min W in_numbers)

  has_vtol_Transition_answered : HasT (in_world W) false vtol_Transition_answered.code
  unfolding table
  has_vtol_Transition_answered = vtol_Transition_answered-link.has (in_world W) false (in_table W "machines" table in_machines vtol_Transition_answered.symbol refl) has_rows_TransitionState_step has_vtol_Transition_tilt_target_rad

  pub has_vtol_Transition_cut_short : HasT (in_world W) false vtol_Transition_cut_short.code
  unfolding table
  has_vtol_Transition_cut_short = vtol_Transition_cut_short-link.has (in_world W) false (in_table W "machines" table in_machines vtol_Transition_cut_short.symbol refl) has_rows_TransitionState_cut has_vtol_Transition_answered

  pub has_answer_Update_refused : HasT (in_world W) false answer_Update_refused.code
  unfolding table
  has_answer_Update_refused = answer_Update_refused-link.has (in_world W) false (in_table W "machines" table in_machines answer_Update_refused.symbol refl)

  pub has_lift_LiftTransition_prime : HasT (in_world W) false lift_LiftTransition_prime.code
  unfolding table
  has_lift_LiftTransition_prime = lift_LiftTransition_prime-link.has (in_world W) false (in_table W "machines" table in_machines lift_LiftTransition_prime.symbol refl) has_lift_LiftTransition_answered has_rows_TransitionState_primed

  pub has_vtol_Transition_prime : HasT (in_world W) false vtol_Transition_prime.code
  unfolding table
  has_vtol_Transition_prime = vtol_Transition_prime-link.has (in_world W) false (in_table W "machines" table in_machines vtol_Transition_prime.symbol refl) has_rows_TransitionState_primed has_vtol_Transition_answered

  pub has_lift_LiftTransition_set_config : HasT (in_world W) false lift_LiftTransition_set_config.code
  unfolding table
  has_lift_LiftTransition_set_config = lift_LiftTransition_set_config-link.has (in_world W) false (in_table W "machines" table in_machines lift_LiftTransition_set_config.symbol refl) has_answer_Update_refused has_lift_LiftTransition_answered has_settings_LiftTransitionConfig_validate

  pub has_vtol_Transition_set_config : HasT (in_world W) false vtol_Transition_set_config.code
  unfolding table
  has_vtol_Transition_set_config = vtol_Transition_set_config-link.has (in_world W) false (in_table W "machines" table in_machines vtol_Transition_set_config.symbol refl) has_answer_Update_refused has_settings_TransitionConfig_validate has_vtol_Transition_answered

  has_deceleration_BackDeceleration_next_pitch_rad : HasT (in_world W) false deceleration_BackDeceleration_next_pitch_rad.code
  unfolding table
  has_deceleration_BackDeceleration_next_pitch_rad = deceleration_BackDeceleration_next_pitch_rad-link.has (in_world W) false (in_table W "machines" table in_machines deceleration_BackDeceleration_next_pitch_rad.symbol refl) (numbers-has.has_math_clamp W in_numbers) (numbers-has.has_ranges_is_finite W in_numbers)

  has_deceleration_ground_deceleration_mps2 : HasT (in_world W) false deceleration_ground_deceleration_mps2.code
  unfolding table
  has_deceleration_ground_deceleration_mps2 = deceleration_ground_deceleration_mps2-link.has (in_world W) false (in_table W "machines" table in_machines deceleration_ground_deceleration_mps2.symbol refl) (numbers-has.has_vector_Vec2_dot W in_numbers) (numbers-has.has_vector_Vec2_norm W in_numbers) (numbers-has.has_vector_Vec3_xy W in_numbers)

  pub has_deceleration_BackDeceleration_pitch_rad : HasT (in_world W) false deceleration_BackDeceleration_pitch_rad.code
  unfolding table
  has_deceleration_BackDeceleration_pitch_rad = deceleration_BackDeceleration_pitch_rad-link.has (in_world W) false (in_table W "machines" table in_machines deceleration_BackDeceleration_pitch_rad.symbol refl) has_answer_Update_refused has_deceleration_BackDeceleration_next_pitch_rad has_deceleration_ground_deceleration_mps2 (numbers-has.has_ranges_is_positive W in_numbers)

  pub has_FlightModePartialEq_eq : HasT (in_world W) false FlightModePartialEq_eq.code
  unfolding table
  has_FlightModePartialEq_eq = FlightModePartialEq_eq-link.has (in_world W) false (in_table W "machines" table in_machines FlightModePartialEq_eq.symbol refl)

  has_handoff_ThrustHandoff_active : HasT (in_world W) false handoff_ThrustHandoff_active.code
  unfolding table
  has_handoff_ThrustHandoff_active = handoff_ThrustHandoff_active-link.has (in_world W) false (in_table W "machines" table in_machines handoff_ThrustHandoff_active.symbol refl)

  has_handoff_ThrustHandoff_applied : HasT (in_world W) false handoff_ThrustHandoff_applied.code
  unfolding table
  has_handoff_ThrustHandoff_applied = handoff_ThrustHandoff_applied-link.has (in_world W) false (in_table W "machines" table in_machines handoff_ThrustHandoff_applied.symbol refl) has_handoff_ThrustHandoff_active (numbers-has.has_math_min W in_numbers) (numbers-has.has_math_saturate_throttle W in_numbers)

  pub has_handoff_ThrustHandoff_apply : HasT (in_world W) false handoff_ThrustHandoff_apply.code
  unfolding table
  has_handoff_ThrustHandoff_apply = handoff_ThrustHandoff_apply-link.has (in_world W) false (in_table W "machines" table in_machines handoff_ThrustHandoff_apply.symbol refl) has_answer_Update_refused has_handoff_ThrustHandoff_applied (numbers-has.has_ranges_is_positive W in_numbers)

  pub has_sink_guard_sink : HasT (in_world W) false sink_guard_sink.code
  unfolding table
  has_sink_guard_sink = sink_guard_sink-link.has (in_world W) false (in_table W "machines" table in_machines sink_guard_sink.symbol refl) (numbers-has.has_logic_both W in_numbers) (numbers-has.has_math_saturate_throttle W in_numbers)

  has_lift_LiftTransition_ramp_done : HasT (in_world W) false lift_LiftTransition_ramp_done.code
  unfolding table
  has_lift_LiftTransition_ramp_done = lift_LiftTransition_ramp_done-link.has (in_world W) false (in_table W "machines" table in_machines lift_LiftTransition_ramp_done.symbol refl)

  has_lift_LiftTransition_ramp_timed_out : HasT (in_world W) false lift_LiftTransition_ramp_timed_out.code
  unfolding table
  has_lift_LiftTransition_ramp_timed_out = lift_LiftTransition_ramp_timed_out-link.has (in_world W) false (in_table W "machines" table in_machines lift_LiftTransition_ramp_timed_out.symbol refl)

  has_VehicleState_valid_airspeed_mps : HasT (in_world W) false VehicleState_valid_airspeed_mps.code
  unfolding table
  has_VehicleState_valid_airspeed_mps = VehicleState_valid_airspeed_mps-link.has (in_world W) false (in_table W "machines" table in_machines VehicleState_valid_airspeed_mps.symbol refl)

  has_lift_LiftTransition_slowed : HasT (in_world W) false lift_LiftTransition_slowed.code
  unfolding table
  has_lift_LiftTransition_slowed = lift_LiftTransition_slowed-link.has (in_world W) false (in_table W "machines" table in_machines lift_LiftTransition_slowed.symbol refl) has_VehicleState_valid_airspeed_mps (numbers-has.has_ranges_is_finite W in_numbers) (numbers-has.has_vector_Quaternion_forward_speed_mps W in_numbers)

  has_FlightMode_clock_after : HasT (in_world W) false FlightMode_clock_after.code
  unfolding table
  has_FlightMode_clock_after = FlightMode_clock_after-link.has (in_world W) false (in_table W "machines" table in_machines FlightMode_clock_after.symbol refl)

  has_rows_TransitionState_begin : HasT (in_world W) false rows_TransitionState_begin.code
  unfolding table
  has_rows_TransitionState_begin = rows_TransitionState_begin-link.has (in_world W) false (in_table W "machines" table in_machines rows_TransitionState_begin.symbol refl) has_FlightMode_clock_after

  has_gate_ForwardGate_height_m : HasT (in_world W) false gate_ForwardGate_height_m.code
  unfolding table
  has_gate_ForwardGate_height_m = gate_ForwardGate_height_m-link.has (in_world W) false (in_table W "machines" table in_machines gate_ForwardGate_height_m.symbol refl)

  has_gate_ForwardGate_refusal : HasT (in_world W) false gate_ForwardGate_refusal.code
  unfolding table
  has_gate_ForwardGate_refusal = gate_ForwardGate_refusal-link.has (in_world W) false (in_table W "machines" table in_machines gate_ForwardGate_refusal.symbol refl) has_gate_ForwardGate_height_m (numbers-has.has_logic_both W in_numbers) (numbers-has.has_math_max W in_numbers) (numbers-has.has_ranges_is_finite W in_numbers)

  has_rows_TransitionState_clear : HasT (in_world W) false rows_TransitionState_clear.code
  unfolding table
  has_rows_TransitionState_clear = rows_TransitionState_clear-link.has (in_world W) false (in_table W "machines" table in_machines rows_TransitionState_clear.symbol refl)

  has_rows_TransitionState_enter : HasT (in_world W) false rows_TransitionState_enter.code
  unfolding table
  has_rows_TransitionState_enter = rows_TransitionState_enter-link.has (in_world W) false (in_table W "machines" table in_machines rows_TransitionState_enter.symbol refl)

  has_rows_TransitionState_from_copter : HasT (in_world W) false rows_TransitionState_from_copter.code
  unfolding table
  has_rows_TransitionState_from_copter = rows_TransitionState_from_copter-link.has (in_world W) false (in_table W "machines" table in_machines rows_TransitionState_from_copter.symbol refl) has_gate_ForwardGate_refusal has_rows_TransitionState_clear has_rows_TransitionState_enter has_rows_TransitionState_stay

  has_gate_ForwardGate_below : HasT (in_world W) false gate_ForwardGate_below.code
  unfolding table
  has_gate_ForwardGate_below = gate_ForwardGate_below-link.has (in_world W) false (in_table W "machines" table in_machines gate_ForwardGate_below.symbol refl) has_gate_ForwardGate_height_m (numbers-has.has_logic_both W in_numbers)

  has_rows_TransitionState_from_plane : HasT (in_world W) false rows_TransitionState_from_plane.code
  unfolding table
  has_rows_TransitionState_from_plane = rows_TransitionState_from_plane-link.has (in_world W) false (in_table W "machines" table in_machines rows_TransitionState_from_plane.symbol refl) has_gate_ForwardGate_below has_rows_TransitionState_abandon has_rows_TransitionState_enter has_rows_TransitionState_stay

  has_rows_TransitionState_finish : HasT (in_world W) false rows_TransitionState_finish.code
  unfolding table
  has_rows_TransitionState_finish = rows_TransitionState_finish-link.has (in_world W) false (in_table W "machines" table in_machines rows_TransitionState_finish.symbol refl) has_rows_TransitionState_hand_over has_rows_TransitionState_stay

  has_rows_TransitionState_to_mode : HasT (in_world W) false rows_TransitionState_to_mode.code
  unfolding table
  has_rows_TransitionState_to_mode = rows_TransitionState_to_mode-link.has (in_world W) false (in_table W "machines" table in_machines rows_TransitionState_to_mode.symbol refl) has_rows_TransitionState_stay

  has_rows_TransitionState_from_to_copter : HasT (in_world W) false rows_TransitionState_from_to_copter.code
  unfolding table
  has_rows_TransitionState_from_to_copter = rows_TransitionState_from_to_copter-link.has (in_world W) false (in_table W "machines" table in_machines rows_TransitionState_from_to_copter.symbol refl) has_rows_TransitionState_finish has_rows_TransitionState_to_mode

  has_rows_TransitionState_from_to_plane : HasT (in_world W) false rows_TransitionState_from_to_plane.code
  unfolding table
  has_rows_TransitionState_from_to_plane = rows_TransitionState_from_to_plane-link.has (in_world W) false (in_table W "machines" table in_machines rows_TransitionState_from_to_plane.symbol refl) has_rows_TransitionState_abandon has_rows_TransitionState_hand_over has_rows_TransitionState_stay has_rows_TransitionState_to_mode

  has_lift_LiftTransition_moved : HasT (in_world W) false lift_LiftTransition_moved.code
  unfolding table
  has_lift_LiftTransition_moved = lift_LiftTransition_moved-link.has (in_world W) false (in_table W "machines" table in_machines lift_LiftTransition_moved.symbol refl) has_lift_LiftTransition_ramp_done has_lift_LiftTransition_ramp_timed_out has_lift_LiftTransition_slowed has_rows_TransitionState_begin has_rows_TransitionState_from_copter has_rows_TransitionState_from_plane has_rows_TransitionState_from_to_copter has_rows_TransitionState_from_to_plane (numbers-has.has_logic_either W in_numbers)

  has_at_least_or : HasT (in_world W) false at_least_or.code
  unfolding table
  has_at_least_or = at_least_or-link.has (in_world W) false (in_table W "machines" table in_machines at_least_or.symbol refl)

  has_lift_LiftTransition_ramp : HasT (in_world W) false lift_LiftTransition_ramp.code
  unfolding table
  has_lift_LiftTransition_ramp = lift_LiftTransition_ramp-link.has (in_world W) false (in_table W "machines" table in_machines lift_LiftTransition_ramp.symbol refl) has_VehicleState_valid_airspeed_mps has_at_least_or

  pub has_lift_LiftTransition_update : HasT (in_world W) false lift_LiftTransition_update.code
  unfolding table
  has_lift_LiftTransition_update = lift_LiftTransition_update-link.has (in_world W) false (in_table W "machines" table in_machines lift_LiftTransition_update.symbol refl) has_answer_Update_refused has_lift_LiftTransition_answered has_lift_LiftTransition_moved has_lift_LiftTransition_ramp (numbers-has.has_ranges_is_positive W in_numbers)

  has_vtol_Transition_forward_done : HasT (in_world W) false vtol_Transition_forward_done.code
  unfolding table
  has_vtol_Transition_forward_done = vtol_Transition_forward_done-link.has (in_world W) false (in_table W "machines" table in_machines vtol_Transition_forward_done.symbol refl) has_at_least_or (numbers-has.has_logic_both W in_numbers)

  has_vtol_Transition_moved : HasT (in_world W) false vtol_Transition_moved.code
  unfolding table
  has_vtol_Transition_moved = vtol_Transition_moved-link.has (in_world W) false (in_table W "machines" table in_machines vtol_Transition_moved.symbol refl) has_VehicleState_valid_airspeed_mps has_rows_TransitionState_begin has_rows_TransitionState_from_copter has_rows_TransitionState_from_plane has_rows_TransitionState_from_to_copter has_rows_TransitionState_from_to_plane has_vtol_Transition_forward_done (numbers-has.has_logic_either W in_numbers) (numbers-has.has_vector_Quaternion_nose_up_cosine W in_numbers)

  has_vtol_unknown_tilt_rad : HasT (in_world W) false vtol_unknown_tilt_rad.code
  unfolding table
  has_vtol_unknown_tilt_rad = vtol_unknown_tilt_rad-link.has (in_world W) false (in_table W "machines" table in_machines vtol_unknown_tilt_rad.symbol refl)

  has_vtol_start_tilt_rad : HasT (in_world W) false vtol_start_tilt_rad.code
  unfolding table
  has_vtol_start_tilt_rad = vtol_start_tilt_rad-link.has (in_world W) false (in_table W "machines" table in_machines vtol_start_tilt_rad.symbol refl) has_vtol_unknown_tilt_rad (numbers-has.has_ranges_is_finite W in_numbers)

  has_vtol_Transition_settled : HasT (in_world W) false vtol_Transition_settled.code
  unfolding table
  has_vtol_Transition_settled = vtol_Transition_settled-link.has (in_world W) false (in_table W "machines" table in_machines vtol_Transition_settled.symbol refl) has_vtol_Transition_answered has_vtol_start_tilt_rad

  has_vtol_bad_entry_tilt : HasT (in_world W) false vtol_bad_entry_tilt.code
  unfolding table
  has_vtol_bad_entry_tilt = vtol_bad_entry_tilt-link.has (in_world W) false (in_table W "machines" table in_machines vtol_bad_entry_tilt.symbol refl) (numbers-has.has_logic_both W in_numbers) (numbers-has.has_ranges_is_finite W in_numbers) (numbers-has.has_ranges_is_half_turn_from_zero W in_numbers)

  pub has_vtol_Transition_update : HasT (in_world W) false vtol_Transition_update.code
  unfolding table
  has_vtol_Transition_update = vtol_Transition_update-link.has (in_world W) false (in_table W "machines" table in_machines vtol_Transition_update.symbol refl) has_answer_Update_refused has_vtol_Transition_moved has_vtol_Transition_settled has_vtol_bad_entry_tilt (numbers-has.has_ranges_is_positive W in_numbers) (numbers-has.has_vector_Quaternion_nose_up_cosine W in_numbers)
