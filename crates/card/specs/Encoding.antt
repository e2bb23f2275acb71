-- Document 01, section 7, and document 02, request 2.1: what a written record holds. Definitions only. Assumes nothing.
-- Kinds and options are those of specs/Format.antt, places those of `settings_by` and `step_input_by` (joined, specs/Calls.antt), by which the reader takes them. That it reads what is written here are the laws of
-- RoundTrip.antt.
use Rattle.std.specs.Prelude.{ℕ, ◌+◌, List, [], ◌∷◌, replicate, Float, Option, Some, None}
use Rattle.numbers.specs.Numbers.{bits_of, zero32}
use Rattle.machines.specs.declared.FlightRegime.{FlightRegime}
use Rattle.machines.specs.declared.FlightRegime.TheVariants as regime
use Rattle.machines.specs.declared.ModeRefusal.{ModeRefusal}
use Rattle.machines.specs.Refusals.{reason_of}
use Rattle.joined.specs.declared.settings.Settings.{Settings}
use Rattle.joined.specs.declared.call.StepInput.{StepInput}
use Rattle.joined.specs.declared.call.Call.{Call}
use Rattle.joined.specs.declared.call.Call.TheVariants as call
use Rattle.joined.specs.declared.machine.Airframe.{Airframe}
use Rattle.joined.specs.declared.machine.Airframe.TheVariants as airframe
use Rattle.card.specs.Format.{airframe_kind}
use Rattle.card.specs.declared.kind.Kind.{Kind}
use Rattle.card.specs.declared.kind.Kind.TheVariants as kind
use Rattle.card.specs.declared.encode.Encoded.{Encoded}

-- A number is its bits, with "A NaN is written as 7FC00000" (`bits_of`); "unused numbers zero": the literal 0

-- ---- settings: the tailsitter uses 17 of them, the quadplane 15; "unused numbers zero"
abbrev pub used_settings : Airframe → Settings → Settings
used_settings airframe.Tailsitter s = s
used_settings airframe.Quadplane s = record {
  n1 = s.n1;
  n2 = s.n2;
  n3 = s.n3;
  n4 = s.n4;
  n5 = s.n5;
  n6 = s.n6;
  n7 = s.n7;
  n8 = s.n8;
  n9 = s.n9;
  n10 = s.n10;
  n11 = s.n11;
  n12 = s.n12;
  n13 = s.n13;
  n14 = s.n14;
  n15 = s.n15;
  n16 = zero32;
  n17 = zero32;
}

unfoldable pub settings_numbers : Settings → List ℕ
settings_numbers s =
    bits_of s.n1 ∷ bits_of s.n2 ∷ bits_of s.n3 ∷ bits_of s.n4 ∷ bits_of s.n5 ∷ bits_of s.n6 ∷ bits_of s.n7 ∷ bits_of s.n8 ∷ bits_of s.n9 ∷ bits_of s.n10
    ∷ bits_of s.n11 ∷ bits_of s.n12 ∷ bits_of s.n13 ∷ bits_of s.n14 ∷ bits_of s.n15 ∷ bits_of s.n16 ∷ bits_of s.n17 ∷ 0 ∷ 0 ∷ []

-- ---- a step: "Step option: 0 Copter, 1 Plane, plus 2 if airspeed is present"
abbrev pub request_number : FlightRegime → ℕ
request_number regime.Copter = 0
request_number regime.Plane = 1

abbrev pub present_number : Option Float → ℕ
present_number (Some x) = 2
present_number None = 0

-- "A step uses 12 only with an airspeed, 13 to 15 always"
abbrev pub speed_bits : Option Float → ℕ
speed_bits (Some x) = bits_of x
speed_bits None = 0

-- "1 dt, 2 z, 3-5 velocity, 6-7 acceleration, 8-11 w x y z, 12 airspeed, 13 entry tilt, 14 bank, 15 demand"
unfoldable pub step_numbers : StepInput → List ℕ
step_numbers i =
    bits_of i.dt ∷ bits_of i.state.z_m ∷ bits_of i.state.velocity_mps.x ∷ bits_of i.state.velocity_mps.y ∷ bits_of i.state.velocity_mps.z
    ∷ bits_of i.state.acceleration_mps2.x ∷ bits_of i.state.acceleration_mps2.y ∷ bits_of i.state.attitude.w ∷ bits_of i.state.attitude.x
    ∷ bits_of i.state.attitude.y ∷ bits_of i.state.attitude.z ∷ speed_bits i.state.airspeed ∷ bits_of i.entry_tilt_rad ∷ bits_of i.bank_rad ∷ bits_of i.demand
    ∷ 0 ∷ 0 ∷ 0 ∷ 0 ∷ []

-- ---- each kind of record: "1 prime (2 = z); 2 step; 3 cut, option 11 to 16; 4 settings .. Other options and the header's are 0", "unused numbers zero"
abbrev pub encode_prime : Float → Encoded
encode_prime z = record { kind = kind.Prime; option = 0; numbers = 0 ∷ bits_of z ∷ replicate 17 0 }

abbrev pub encode_step : StepInput → Encoded
encode_step i = record { kind = kind.Step; option = request_number i.requested + present_number i.state.airspeed; numbers = step_numbers i }

abbrev pub encode_cut : ModeRefusal → Encoded
encode_cut why = record { kind = kind.Cut; option = reason_of why; numbers = replicate 19 0 }

abbrev pub encode_settings : Kind → Airframe → Settings → Encoded
encode_settings k a s = record { kind = k; option = 0; numbers = settings_numbers (used_settings a s) }

abbrev pub encode_of : Airframe → Call → Encoded
encode_of a (call.Prime z) = encode_prime z
encode_of a (call.Step i) = encode_step i
encode_of a (call.Cut why) = encode_cut why
encode_of a (call.Settings s) = encode_settings kind.Settings a s

-- "Record 0 is the header: kind 5 tailsitter, 6 quadplane; numbers are settings"
abbrev pub encode_header : Airframe → Settings → Encoded
encode_header a s = encode_settings (airframe_kind a) a s

-- ---- a call as its airframe uses it: what reading a written card gives back
abbrev pub used_call : Airframe → Call → Call
used_call a (call.Prime z) = call.Prime z
used_call a (call.Step i) = call.Step i
used_call a (call.Cut why) = call.Cut why
used_call a (call.Settings s) = call.Settings (used_settings a s)
