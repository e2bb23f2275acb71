-- A table of the exported functions of `Joined` and all that they call in this crate: where it stands in a world of tables, each name means the code that the function has. tools/link_laws.py writes this file. Assumes nothing.
use mathlib.Core.Path.{refl}
use mathlib.Core.Bool.{false}
use prog.Linked.{Tree, leaf, fork, World, in_world, Holds, in_table}
use prog.LinkedThreads.{HasT}
use Rattle.joined.proofs.Destruct++none.drop.Symbol as Destruct__none_drop
use Rattle.joined.proofs.Destruct++none.drop.TheLink as Destruct__none_drop-link
use Rattle.joined.proofs.joined++machine++Machine+Quadplane+FnOnce.call_once.Symbol as joined__machine__Machine_Quadplane_FnOnce_call_once
use Rattle.joined.proofs.joined++machine++Machine+Quadplane+FnOnce.call_once.TheLink as joined__machine__Machine_Quadplane_FnOnce_call_once-link
use Rattle.joined.proofs.joined++machine++Machine+Tailsitter+FnOnce.call_once.Symbol as joined__machine__Machine_Tailsitter_FnOnce_call_once
use Rattle.joined.proofs.joined++machine++Machine+Tailsitter+FnOnce.call_once.TheLink as joined__machine__Machine_Tailsitter_FnOnce_call_once-link
use Rattle.joined.proofs.joined.Joined.answered.Symbol as joined_Joined_answered
use Rattle.joined.proofs.joined.Joined.answered.TheLink as joined_Joined_answered-link
use Rattle.joined.proofs.joined.Joined.answered_if.Symbol as joined_Joined_answered_if
use Rattle.joined.proofs.joined.Joined.answered_if.TheLink as joined_Joined_answered_if-link
use Rattle.joined.proofs.joined.Joined.call.Symbol as joined_Joined_call
use Rattle.joined.proofs.joined.Joined.call.TheLink as joined_Joined_call-link
use Rattle.joined.proofs.joined.Joined.cut.Symbol as joined_Joined_cut
use Rattle.joined.proofs.joined.Joined.cut.TheLink as joined_Joined_cut-link
use Rattle.joined.proofs.joined.Joined.enter.Symbol as joined_Joined_enter
use Rattle.joined.proofs.joined.Joined.enter.TheLink as joined_Joined_enter-link
use Rattle.joined.proofs.joined.Joined.handoff_if.Symbol as joined_Joined_handoff_if
use Rattle.joined.proofs.joined.Joined.handoff_if.TheLink as joined_Joined_handoff_if-link
use Rattle.joined.proofs.joined.Joined.initial.Symbol as joined_Joined_initial
use Rattle.joined.proofs.joined.Joined.initial.TheLink as joined_Joined_initial-link
use Rattle.joined.proofs.joined.Joined.new.Symbol as joined_Joined_new
use Rattle.joined.proofs.joined.Joined.new.TheLink as joined_Joined_new-link
use Rattle.joined.proofs.joined.Joined.prime.Symbol as joined_Joined_prime
use Rattle.joined.proofs.joined.Joined.prime.TheLink as joined_Joined_prime-link
use Rattle.joined.proofs.joined.Joined.set.Symbol as joined_Joined_set
use Rattle.joined.proofs.joined.Joined.set.TheLink as joined_Joined_set-link
use Rattle.joined.proofs.joined.Joined.step.Symbol as joined_Joined_step
use Rattle.joined.proofs.joined.Joined.step.TheLink as joined_Joined_step-link
use Rattle.joined.proofs.joined.Joined.stepped.Symbol as joined_Joined_stepped
use Rattle.joined.proofs.joined.Joined.stepped.TheLink as joined_Joined_stepped-link
use Rattle.joined.proofs.joined.Joined.stepped_by.Symbol as joined_Joined_stepped_by
use Rattle.joined.proofs.joined.Joined.stepped_by.TheLink as joined_Joined_stepped_by-link
use Rattle.joined.proofs.machine.Airframe.machine.Symbol as machine_Airframe_machine
use Rattle.joined.proofs.machine.Airframe.machine.TheLink as machine_Airframe_machine-link
use Rattle.joined.proofs.machine.Machine.cut_or.Symbol as machine_Machine_cut_or
use Rattle.joined.proofs.machine.Machine.cut_or.TheLink as machine_Machine_cut_or-link
use Rattle.joined.proofs.machine.Machine.cut_short.Symbol as machine_Machine_cut_short
use Rattle.joined.proofs.machine.Machine.cut_short.TheLink as machine_Machine_cut_short-link
use Rattle.joined.proofs.machine.Machine.decelerated.Symbol as machine_Machine_decelerated
use Rattle.joined.proofs.machine.Machine.decelerated.TheLink as machine_Machine_decelerated-link
use Rattle.joined.proofs.machine.Machine.fresh_handoff.Symbol as machine_Machine_fresh_handoff
use Rattle.joined.proofs.machine.Machine.fresh_handoff.TheLink as machine_Machine_fresh_handoff-link
use Rattle.joined.proofs.machine.Machine.handoff_s.Symbol as machine_Machine_handoff_s
use Rattle.joined.proofs.machine.Machine.handoff_s.TheLink as machine_Machine_handoff_s-link
use Rattle.joined.proofs.machine.Machine.mode.Symbol as machine_Machine_mode
use Rattle.joined.proofs.machine.Machine.mode.TheLink as machine_Machine_mode-link
use Rattle.joined.proofs.machine.Machine.past_roll_limit.Symbol as machine_Machine_past_roll_limit
use Rattle.joined.proofs.machine.Machine.past_roll_limit.TheLink as machine_Machine_past_roll_limit-link
use Rattle.joined.proofs.machine.Machine.prime.Symbol as machine_Machine_prime
use Rattle.joined.proofs.machine.Machine.prime.TheLink as machine_Machine_prime-link
use Rattle.joined.proofs.machine.Machine.roll_limit_rad.Symbol as machine_Machine_roll_limit_rad
use Rattle.joined.proofs.machine.Machine.roll_limit_rad.TheLink as machine_Machine_roll_limit_rad-link
use Rattle.joined.proofs.machine.Machine.set_config.Symbol as machine_Machine_set_config
use Rattle.joined.proofs.machine.Machine.set_config.TheLink as machine_Machine_set_config-link
use Rattle.joined.proofs.machine.Machine.stepped_pitch.Symbol as machine_Machine_stepped_pitch
use Rattle.joined.proofs.machine.Machine.stepped_pitch.TheLink as machine_Machine_stepped_pitch-link
use Rattle.joined.proofs.machine.Machine.thrust.Symbol as machine_Machine_thrust
use Rattle.joined.proofs.machine.Machine.thrust.TheLink as machine_Machine_thrust-link
use Rattle.joined.proofs.machine.Machine.update.Symbol as machine_Machine_update
use Rattle.joined.proofs.machine.Machine.update.TheLink as machine_Machine_update-link
use Rattle.joined.proofs.machine.abs.Symbol as machine_abs
use Rattle.joined.proofs.machine.abs.TheLink as machine_abs-link
use Rattle.joined.proofs.machine.is_transition.Symbol as machine_is_transition
use Rattle.joined.proofs.machine.is_transition.TheLink as machine_is_transition-link
use Rattle.joined.proofs.machine.new_either.Symbol as machine_new_either
use Rattle.joined.proofs.machine.new_either.TheLink as machine_new_either-link
use Rattle.joined.proofs.machine.of_either.Symbol as machine_of_either
use Rattle.joined.proofs.machine.of_either.TheLink as machine_of_either-link
use Rattle.joined.proofs.settings.LiftTransitionConfigFromSettings.from.Symbol as settings_LiftTransitionConfigFromSettings_from
use Rattle.joined.proofs.settings.LiftTransitionConfigFromSettings.from.TheLink as settings_LiftTransitionConfigFromSettings_from-link
use Rattle.joined.proofs.settings.TransitionConfigFromSettings.from.Symbol as settings_TransitionConfigFromSettings_from
use Rattle.joined.proofs.settings.TransitionConfigFromSettings.from.TheLink as settings_TransitionConfigFromSettings_from-link
use Rattle.joined.proofs.thrust.Modes.entered.Symbol as thrust_Modes_entered
use Rattle.joined.proofs.thrust.Modes.entered.TheLink as thrust_Modes_entered-link
use Rattle.joined.proofs.thrust.Modes.entry_pitch.Symbol as thrust_Modes_entry_pitch
use Rattle.joined.proofs.thrust.Modes.entry_pitch.TheLink as thrust_Modes_entry_pitch-link
use Rattle.joined.proofs.thrust.Modes.starts_handoff.Symbol as thrust_Modes_starts_handoff
use Rattle.joined.proofs.thrust.Modes.starts_handoff.TheLink as thrust_Modes_starts_handoff-link
use Rattle.joined.proofs.thrust.Thrusted.blend.Symbol as thrust_Thrusted_blend
use Rattle.joined.proofs.thrust.Thrusted.blend.TheLink as thrust_Thrusted_blend-link
use Rattle.joined.proofs.thrust.Thrusted.quadplane_thrust.Symbol as thrust_Thrusted_quadplane_thrust
use Rattle.joined.proofs.thrust.Thrusted.quadplane_thrust.TheLink as thrust_Thrusted_quadplane_thrust-link
use Rattle.joined.proofs.thrust.Thrusted.tailsitter_thrust.Symbol as thrust_Thrusted_tailsitter_thrust
use Rattle.joined.proofs.thrust.Thrusted.tailsitter_thrust.TheLink as thrust_Thrusted_tailsitter_thrust-link
use Rattle.joined.proofs.thrust.back_thrust.Symbol as thrust_back_thrust
use Rattle.joined.proofs.thrust.back_thrust.TheLink as thrust_back_thrust-link
use Rattle.joined.proofs.thrust.run_up.Symbol as thrust_run_up
use Rattle.joined.proofs.thrust.run_up.TheLink as thrust_run_up-link
use Rattle.numbers.proofs.Laws.Linked as numbers-has
use Rattle.machines.proofs.Laws.Linked as machines-has

pub table : Tree
table =
    fork leaf Destruct__none_drop.symbol Destruct__none_drop-link.entry (
    fork leaf joined__machine__Machine_Quadplane_FnOnce_call_once.symbol joined__machine__Machine_Quadplane_FnOnce_call_once-link.entry (
    fork leaf joined__machine__Machine_Tailsitter_FnOnce_call_once.symbol joined__machine__Machine_Tailsitter_FnOnce_call_once-link.entry (
    fork leaf joined_Joined_answered.symbol joined_Joined_answered-link.entry (
    fork leaf joined_Joined_answered_if.symbol joined_Joined_answered_if-link.entry (
    fork leaf joined_Joined_call.symbol joined_Joined_call-link.entry (
    fork leaf joined_Joined_cut.symbol joined_Joined_cut-link.entry (
    fork leaf joined_Joined_enter.symbol joined_Joined_enter-link.entry (
    fork leaf joined_Joined_handoff_if.symbol joined_Joined_handoff_if-link.entry (
    fork leaf joined_Joined_initial.symbol joined_Joined_initial-link.entry (
    fork leaf joined_Joined_new.symbol joined_Joined_new-link.entry (
    fork leaf joined_Joined_prime.symbol joined_Joined_prime-link.entry (
    fork leaf joined_Joined_set.symbol joined_Joined_set-link.entry (
    fork leaf joined_Joined_step.symbol joined_Joined_step-link.entry (
    fork leaf joined_Joined_stepped.symbol joined_Joined_stepped-link.entry (
    fork leaf joined_Joined_stepped_by.symbol joined_Joined_stepped_by-link.entry (
    fork leaf machine_Airframe_machine.symbol machine_Airframe_machine-link.entry (
    fork leaf machine_Machine_cut_or.symbol machine_Machine_cut_or-link.entry (
    fork leaf machine_Machine_cut_short.symbol machine_Machine_cut_short-link.entry (
    fork leaf machine_Machine_decelerated.symbol machine_Machine_decelerated-link.entry (
    fork leaf machine_Machine_fresh_handoff.symbol machine_Machine_fresh_handoff-link.entry (
    fork leaf machine_Machine_handoff_s.symbol machine_Machine_handoff_s-link.entry (
    fork leaf machine_Machine_mode.symbol machine_Machine_mode-link.entry (
    fork leaf machine_Machine_past_roll_limit.symbol machine_Machine_past_roll_limit-link.entry (
    fork leaf machine_Machine_prime.symbol machine_Machine_prime-link.entry (
    fork leaf machine_Machine_roll_limit_rad.symbol machine_Machine_roll_limit_rad-link.entry (
    fork leaf machine_Machine_set_config.symbol machine_Machine_set_config-link.entry (
    fork leaf machine_Machine_stepped_pitch.symbol machine_Machine_stepped_pitch-link.entry (
    fork leaf machine_Machine_thrust.symbol machine_Machine_thrust-link.entry (
    fork leaf machine_Machine_update.symbol machine_Machine_update-link.entry (
    fork leaf machine_abs.symbol machine_abs-link.entry (
    fork leaf machine_is_transition.symbol machine_is_transition-link.entry (
    fork leaf machine_new_either.symbol machine_new_either-link.entry (
    fork leaf machine_of_either.symbol machine_of_either-link.entry (
    fork leaf settings_LiftTransitionConfigFromSettings_from.symbol settings_LiftTransitionConfigFromSettings_from-link.entry (
    fork leaf settings_TransitionConfigFromSettings_from.symbol settings_TransitionConfigFromSettings_from-link.entry (
    fork leaf thrust_Modes_entered.symbol thrust_Modes_entered-link.entry (
    fork leaf thrust_Modes_entry_pitch.symbol thrust_Modes_entry_pitch-link.entry (
    fork leaf thrust_Modes_starts_handoff.symbol thrust_Modes_starts_handoff-link.entry (
    fork leaf thrust_Thrusted_blend.symbol thrust_Thrusted_blend-link.entry (
    fork leaf thrust_Thrusted_quadplane_thrust.symbol thrust_Thrusted_quadplane_thrust-link.entry (
    fork leaf thrust_Thrusted_tailsitter_thrust.symbol thrust_Thrusted_tailsitter_thrust-link.entry (
    fork leaf thrust_back_thrust.symbol thrust_back_thrust-link.entry (
    fork leaf thrust_run_up.symbol thrust_run_up-link.entry leaf)))))))))))))))))))))))))))))))))))))))))))

module _ (W : World) (in_numbers : Holds W "numbers" numbers-has.table) (in_machines : Holds W "machines" machines-has.table) (in_joined : Holds W "joined" table) where
  has_machine_Machine_handoff_s : HasT (in_world W) false machine_Machine_handoff_s.code
  unfolding table
  has_machine_Machine_handoff_s = machine_Machine_handoff_s-link.has (in_world W) false (in_table W "joined" table in_joined machine_Machine_handoff_s.symbol refl)

  has_joined_Joined_initial : HasT (in_world W) false joined_Joined_initial.code
  unfolding table
  has_joined_Joined_initial = joined_Joined_initial-link.has (in_world W) false (in_table W "joined" table in_joined joined_Joined_initial.symbol refl) has_machine_Machine_handoff_s (machines-has.has_deceleration_BackDeceleration_new W in_numbers in_machines) (machines-has.has_handoff_ThrustHandoff_inactive W in_numbers in_machines)

  has_Destruct__none_drop : HasT (in_world W) false Destruct__none_drop.code
  unfolding table
  has_Destruct__none_drop = Destruct__none_drop-link.has (in_world W) false (in_table W "joined" table in_joined Destruct__none_drop.symbol refl)

  has_joined__machine__Machine_Quadplane_FnOnce_call_once : HasT (in_world W) false joined__machine__Machine_Quadplane_FnOnce_call_once.code
  unfolding table
  has_joined__machine__Machine_Quadplane_FnOnce_call_once = joined__machine__Machine_Quadplane_FnOnce_call_once-link.has (in_world W) false (in_table W "joined" table in_joined joined__machine__Machine_Quadplane_FnOnce_call_once.symbol refl)

  has_joined__machine__Machine_Tailsitter_FnOnce_call_once : HasT (in_world W) false joined__machine__Machine_Tailsitter_FnOnce_call_once.code
  unfolding table
  has_joined__machine__Machine_Tailsitter_FnOnce_call_once = joined__machine__Machine_Tailsitter_FnOnce_call_once-link.has (in_world W) false (in_table W "joined" table in_joined joined__machine__Machine_Tailsitter_FnOnce_call_once.symbol refl)

  has_machine_new_either : HasT (in_world W) false machine_new_either.code
  unfolding table
  has_machine_new_either = machine_new_either-link.has (in_world W) false (in_table W "joined" table in_joined machine_new_either.symbol refl)

  has_settings_LiftTransitionConfigFromSettings_from : HasT (in_world W) false settings_LiftTransitionConfigFromSettings_from.code
  unfolding table
  has_settings_LiftTransitionConfigFromSettings_from = settings_LiftTransitionConfigFromSettings_from-link.has (in_world W) false (in_table W "joined" table in_joined settings_LiftTransitionConfigFromSettings_from.symbol refl)

  has_settings_TransitionConfigFromSettings_from : HasT (in_world W) false settings_TransitionConfigFromSettings_from.code
  unfolding table
  has_settings_TransitionConfigFromSettings_from = settings_TransitionConfigFromSettings_from-link.has (in_world W) false (in_table W "joined" table in_joined settings_TransitionConfigFromSettings_from.symbol refl)

  has_machine_Airframe_machine : HasT (in_world W) false machine_Airframe_machine.code
  unfolding table
  has_machine_Airframe_machine = machine_Airframe_machine-link.has (in_world W) false (in_table W "joined" table in_joined machine_Airframe_machine.symbol refl) has_Destruct__none_drop has_joined__machine__Machine_Quadplane_FnOnce_call_once has_joined__machine__Machine_Tailsitter_FnOnce_call_once has_machine_new_either has_settings_LiftTransitionConfigFromSettings_from has_settings_TransitionConfigFromSettings_from (machines-has.has_lift_LiftTransition_new W in_numbers in_machines) (machines-has.has_vtol_Transition_new W in_numbers in_machines)

  pub has_joined_Joined_new : HasT (in_world W) false joined_Joined_new.code
  unfolding table
  has_joined_Joined_new = joined_Joined_new-link.has (in_world W) false (in_table W "joined" table in_joined joined_Joined_new.symbol refl) has_joined_Joined_initial has_machine_Airframe_machine

  has_joined_Joined_answered : HasT (in_world W) false joined_Joined_answered.code
  unfolding table
  has_joined_Joined_answered = joined_Joined_answered-link.has (in_world W) false (in_table W "joined" table in_joined joined_Joined_answered.symbol refl)

  has_machine_Machine_fresh_handoff : HasT (in_world W) false machine_Machine_fresh_handoff.code
  unfolding table
  has_machine_Machine_fresh_handoff = machine_Machine_fresh_handoff-link.has (in_world W) false (in_table W "joined" table in_joined machine_Machine_fresh_handoff.symbol refl) has_machine_Machine_handoff_s (machines-has.has_handoff_ThrustHandoff_inactive W in_numbers in_machines) (machines-has.has_handoff_ThrustHandoff_start W in_numbers in_machines)

  has_joined_Joined_handoff_if : HasT (in_world W) false joined_Joined_handoff_if.code
  unfolding table
  has_joined_Joined_handoff_if = joined_Joined_handoff_if-link.has (in_world W) false (in_table W "joined" table in_joined joined_Joined_handoff_if.symbol refl) has_machine_Machine_fresh_handoff

  has_machine_of_either : HasT (in_world W) false machine_of_either.code
  unfolding table
  has_machine_of_either = machine_of_either-link.has (in_world W) false (in_table W "joined" table in_joined machine_of_either.symbol refl)

  has_machine_Machine_cut_short : HasT (in_world W) false machine_Machine_cut_short.code
  unfolding table
  has_machine_Machine_cut_short = machine_Machine_cut_short-link.has (in_world W) false (in_table W "joined" table in_joined machine_Machine_cut_short.symbol refl) has_Destruct__none_drop has_joined__machine__Machine_Quadplane_FnOnce_call_once has_joined__machine__Machine_Tailsitter_FnOnce_call_once has_machine_of_either (machines-has.has_lift_LiftTransition_cut_short W in_numbers in_machines) (machines-has.has_vtol_Transition_cut_short W in_numbers in_machines)

  pub has_joined_Joined_cut : HasT (in_world W) false joined_Joined_cut.code
  unfolding table
  has_joined_Joined_cut = joined_Joined_cut-link.has (in_world W) false (in_table W "joined" table in_joined joined_Joined_cut.symbol refl) has_joined_Joined_answered has_joined_Joined_handoff_if has_machine_Machine_cut_short (machines-has.has_answer_Update_refused W in_numbers in_machines)

  has_joined_Joined_answered_if : HasT (in_world W) false joined_Joined_answered_if.code
  unfolding table
  has_joined_Joined_answered_if = joined_Joined_answered_if-link.has (in_world W) false (in_table W "joined" table in_joined joined_Joined_answered_if.symbol refl) has_joined_Joined_answered (machines-has.has_answer_Update_refused W in_numbers in_machines)

  has_machine_Machine_prime : HasT (in_world W) false machine_Machine_prime.code
  unfolding table
  has_machine_Machine_prime = machine_Machine_prime-link.has (in_world W) false (in_table W "joined" table in_joined machine_Machine_prime.symbol refl) has_Destruct__none_drop has_joined__machine__Machine_Quadplane_FnOnce_call_once has_joined__machine__Machine_Tailsitter_FnOnce_call_once has_machine_of_either (machines-has.has_lift_LiftTransition_prime W in_numbers in_machines) (machines-has.has_vtol_Transition_prime W in_numbers in_machines)

  pub has_joined_Joined_prime : HasT (in_world W) false joined_Joined_prime.code
  unfolding table
  has_joined_Joined_prime = joined_Joined_prime-link.has (in_world W) false (in_table W "joined" table in_joined joined_Joined_prime.symbol refl) has_joined_Joined_answered_if has_joined_Joined_initial has_machine_Machine_prime

  has_machine_Machine_set_config : HasT (in_world W) false machine_Machine_set_config.code
  unfolding table
  has_machine_Machine_set_config = machine_Machine_set_config-link.has (in_world W) false (in_table W "joined" table in_joined machine_Machine_set_config.symbol refl) has_Destruct__none_drop has_joined__machine__Machine_Quadplane_FnOnce_call_once has_joined__machine__Machine_Tailsitter_FnOnce_call_once has_machine_of_either has_settings_LiftTransitionConfigFromSettings_from has_settings_TransitionConfigFromSettings_from (machines-has.has_lift_LiftTransition_set_config W in_numbers in_machines) (machines-has.has_vtol_Transition_set_config W in_numbers in_machines)

  pub has_joined_Joined_set : HasT (in_world W) false joined_Joined_set.code
  unfolding table
  has_joined_Joined_set = joined_Joined_set-link.has (in_world W) false (in_table W "joined" table in_joined joined_Joined_set.symbol refl) has_joined_Joined_answered_if has_machine_Machine_set_config

  has_machine_Machine_mode : HasT (in_world W) false machine_Machine_mode.code
  unfolding table
  has_machine_Machine_mode = machine_Machine_mode-link.has (in_world W) false (in_table W "joined" table in_joined machine_Machine_mode.symbol refl)

  has_machine_Machine_decelerated : HasT (in_world W) false machine_Machine_decelerated.code
  unfolding table
  has_machine_Machine_decelerated = machine_Machine_decelerated-link.has (in_world W) false (in_table W "joined" table in_joined machine_Machine_decelerated.symbol refl) (machines-has.has_deceleration_BackDeceleration_pitch_rad W in_numbers in_machines)

  has_machine_Machine_stepped_pitch : HasT (in_world W) false machine_Machine_stepped_pitch.code
  unfolding table
  has_machine_Machine_stepped_pitch = machine_Machine_stepped_pitch-link.has (in_world W) false (in_table W "joined" table in_joined machine_Machine_stepped_pitch.symbol refl) has_machine_Machine_decelerated (machines-has.has_FlightModePartialEq_eq W in_numbers in_machines)

  has_thrust_Modes_entered : HasT (in_world W) false thrust_Modes_entered.code
  unfolding table
  has_thrust_Modes_entered = thrust_Modes_entered-link.has (in_world W) false (in_table W "joined" table in_joined thrust_Modes_entered.symbol refl) (machines-has.has_FlightModePartialEq_eq W in_numbers in_machines) (numbers-has.has_logic_both W in_numbers)

  has_thrust_Thrusted_blend : HasT (in_world W) false thrust_Thrusted_blend.code
  unfolding table
  has_thrust_Thrusted_blend = thrust_Thrusted_blend-link.has (in_world W) false (in_table W "joined" table in_joined thrust_Thrusted_blend.symbol refl) (machines-has.has_handoff_ThrustHandoff_apply W in_numbers in_machines)

  has_thrust_run_up : HasT (in_world W) false thrust_run_up.code
  unfolding table
  has_thrust_run_up = thrust_run_up-link.has (in_world W) false (in_table W "joined" table in_joined thrust_run_up.symbol refl) (numbers-has.has_math_min W in_numbers)

  has_thrust_Thrusted_quadplane_thrust : HasT (in_world W) false thrust_Thrusted_quadplane_thrust.code
  unfolding table
  has_thrust_Thrusted_quadplane_thrust = thrust_Thrusted_quadplane_thrust-link.has (in_world W) false (in_table W "joined" table in_joined thrust_Thrusted_quadplane_thrust.symbol refl) has_thrust_Thrusted_blend has_thrust_run_up (machines-has.has_FlightModePartialEq_eq W in_numbers in_machines)

  has_thrust_back_thrust : HasT (in_world W) false thrust_back_thrust.code
  unfolding table
  has_thrust_back_thrust = thrust_back_thrust-link.has (in_world W) false (in_table W "joined" table in_joined thrust_back_thrust.symbol refl) (machines-has.has_sink_guard_sink W in_numbers in_machines)

  has_thrust_Thrusted_tailsitter_thrust : HasT (in_world W) false thrust_Thrusted_tailsitter_thrust.code
  unfolding table
  has_thrust_Thrusted_tailsitter_thrust = thrust_Thrusted_tailsitter_thrust-link.has (in_world W) false (in_table W "joined" table in_joined thrust_Thrusted_tailsitter_thrust.symbol refl) has_thrust_Thrusted_blend has_thrust_back_thrust

  has_machine_Machine_thrust : HasT (in_world W) false machine_Machine_thrust.code
  unfolding table
  has_machine_Machine_thrust = machine_Machine_thrust-link.has (in_world W) false (in_table W "joined" table in_joined machine_Machine_thrust.symbol refl) has_thrust_Modes_entered has_thrust_Thrusted_quadplane_thrust has_thrust_Thrusted_tailsitter_thrust

  has_thrust_Modes_entry_pitch : HasT (in_world W) false thrust_Modes_entry_pitch.code
  unfolding table
  has_thrust_Modes_entry_pitch = thrust_Modes_entry_pitch-link.has (in_world W) false (in_table W "joined" table in_joined thrust_Modes_entry_pitch.symbol refl) has_thrust_Modes_entered (machines-has.has_deceleration_BackDeceleration_new W in_numbers in_machines)

  has_thrust_Modes_starts_handoff : HasT (in_world W) false thrust_Modes_starts_handoff.code
  unfolding table
  has_thrust_Modes_starts_handoff = thrust_Modes_starts_handoff-link.has (in_world W) false (in_table W "joined" table in_joined thrust_Modes_starts_handoff.symbol refl) has_thrust_Modes_entered (numbers-has.has_logic_either W in_numbers)

  has_joined_Joined_stepped : HasT (in_world W) false joined_Joined_stepped.code
  unfolding table
  has_joined_Joined_stepped = joined_Joined_stepped-link.has (in_world W) false (in_table W "joined" table in_joined joined_Joined_stepped.symbol refl) has_joined_Joined_handoff_if has_machine_Machine_mode has_machine_Machine_stepped_pitch has_machine_Machine_thrust has_thrust_Modes_entry_pitch has_thrust_Modes_starts_handoff

  has_joined_Joined_stepped_by : HasT (in_world W) false joined_Joined_stepped_by.code
  unfolding table
  has_joined_Joined_stepped_by = joined_Joined_stepped_by-link.has (in_world W) false (in_table W "joined" table in_joined joined_Joined_stepped_by.symbol refl) has_joined_Joined_answered has_joined_Joined_stepped (machines-has.has_answer_Update_refused W in_numbers in_machines)

  has_machine_Machine_roll_limit_rad : HasT (in_world W) false machine_Machine_roll_limit_rad.code
  unfolding table
  has_machine_Machine_roll_limit_rad = machine_Machine_roll_limit_rad-link.has (in_world W) false (in_table W "joined" table in_joined machine_Machine_roll_limit_rad.symbol refl)

  has_machine_abs : HasT (in_world W) false machine_abs.code
  unfolding table
  has_machine_abs = machine_abs-link.has (in_world W) false (in_table W "joined" table in_joined machine_abs.symbol refl)

  has_machine_is_transition : HasT (in_world W) false machine_is_transition.code
  unfolding table
  has_machine_is_transition = machine_is_transition-link.has (in_world W) false (in_table W "joined" table in_joined machine_is_transition.symbol refl)

  has_machine_Machine_past_roll_limit : HasT (in_world W) false machine_Machine_past_roll_limit.code
  unfolding table
  has_machine_Machine_past_roll_limit = machine_Machine_past_roll_limit-link.has (in_world W) false (in_table W "joined" table in_joined machine_Machine_past_roll_limit.symbol refl) has_machine_Machine_mode has_machine_Machine_roll_limit_rad has_machine_abs has_machine_is_transition (numbers-has.has_logic_both W in_numbers)

  has_machine_Machine_cut_or : HasT (in_world W) false machine_Machine_cut_or.code
  unfolding table
  has_machine_Machine_cut_or = machine_Machine_cut_or-link.has (in_world W) false (in_table W "joined" table in_joined machine_Machine_cut_or.symbol refl) has_machine_Machine_cut_short has_machine_Machine_past_roll_limit

  has_machine_Machine_update : HasT (in_world W) false machine_Machine_update.code
  unfolding table
  has_machine_Machine_update = machine_Machine_update-link.has (in_world W) false (in_table W "joined" table in_joined machine_Machine_update.symbol refl) has_Destruct__none_drop has_joined__machine__Machine_Quadplane_FnOnce_call_once has_joined__machine__Machine_Tailsitter_FnOnce_call_once has_machine_of_either (machines-has.has_lift_LiftTransition_update W in_numbers in_machines) (machines-has.has_vtol_Transition_update W in_numbers in_machines)

  pub has_joined_Joined_step : HasT (in_world W) false joined_Joined_step.code
  unfolding table
  has_joined_Joined_step = joined_Joined_step-link.has (in_world W) false (in_table W "joined" table in_joined joined_Joined_step.symbol refl) has_joined_Joined_stepped_by has_machine_Machine_cut_or has_machine_Machine_update (machines-has.has_answer_Update_refused W in_numbers in_machines) (numbers-has.has_ranges_is_positive W in_numbers)

  pub has_joined_Joined_call : HasT (in_world W) false joined_Joined_call.code
  unfolding table
  has_joined_Joined_call = joined_Joined_call-link.has (in_world W) false (in_table W "joined" table in_joined joined_Joined_call.symbol refl) has_joined_Joined_cut has_joined_Joined_prime has_joined_Joined_set has_joined_Joined_step

  pub has_joined_Joined_enter : HasT (in_world W) false joined_Joined_enter.code
  unfolding table
  has_joined_Joined_enter = joined_Joined_enter-link.has (in_world W) false (in_table W "joined" table in_joined joined_Joined_enter.symbol refl) has_joined_Joined_step
