-- Demand 3: the theorem's only hypothesis on settings and calls: their numbers are binary32 values. The NaN and the infinities are such values. Definitions only. Assumes nothing.
-- Borrowed: `IsBinary32` of specs/Numbers.antt.
use Rattle.std.specs.Prelude.{List, [], ◌∷◌, Float, Option, Some, None}
use Rattle.numbers.specs.Numbers.{IsBinary32}
use Rattle.machines.specs.declared.VehicleState.{VehicleState}
use Rattle.joined.specs.declared.settings.Settings.{Settings}
use Rattle.joined.specs.declared.call.StepInput.{StepInput}
use Rattle.joined.specs.declared.call.Call.{Call}
use Rattle.joined.specs.declared.call.Call.TheVariants as call

abbrev pub Binary32Settings : Settings → Type 0
Binary32Settings s =
    IsBinary32 s.n1 × IsBinary32 s.n2 × IsBinary32 s.n3 × IsBinary32 s.n4 × IsBinary32 s.n5 × IsBinary32 s.n6 × IsBinary32 s.n7 × IsBinary32 s.n8 × IsBinary32 s.n9
    × IsBinary32 s.n10 × IsBinary32 s.n11 × IsBinary32 s.n12 × IsBinary32 s.n13 × IsBinary32 s.n14 × IsBinary32 s.n15 × IsBinary32 s.n16 × IsBinary32 s.n17

abbrev pub Binary32Airspeed : Option Float → Type 0
Binary32Airspeed None = Unit {0}
Binary32Airspeed (Some x) = IsBinary32 x

abbrev pub Binary32Vehicle : VehicleState → Type 0
Binary32Vehicle v =
    IsBinary32 v.z_m × (IsBinary32 v.velocity_mps.x × IsBinary32 v.velocity_mps.y × IsBinary32 v.velocity_mps.z)
    × (IsBinary32 v.acceleration_mps2.x × IsBinary32 v.acceleration_mps2.y)
    × (IsBinary32 v.attitude.w × IsBinary32 v.attitude.x × IsBinary32 v.attitude.y × IsBinary32 v.attitude.z) × Binary32Airspeed v.airspeed

abbrev pub Binary32Step : StepInput → Type 0
Binary32Step i = IsBinary32 i.dt × Binary32Vehicle i.state × IsBinary32 i.entry_tilt_rad × IsBinary32 i.bank_rad × IsBinary32 i.demand

abbrev pub Binary32Call : Call → Type 0
Binary32Call (call.Prime z) = IsBinary32 z
Binary32Call (call.Step i) = Binary32Step i
Binary32Call (call.Cut why) = Unit {0}
Binary32Call (call.Settings s) = Binary32Settings s

abbrev pub Binary32Calls : List Call → Type 0
Binary32Calls [] = Unit {0}
Binary32Calls (c ∷ cs) = Binary32Call c × Binary32Calls cs
