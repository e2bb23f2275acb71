-- Document 01's numbers: section 9 for what the input brings (1 to 5), section 10 for what the state holds back; and which updates are turned down. Definitions only. Assumes nothing.
use Rattle.std.specs.Prelude.{Bool, not, ℕ, eqb, Float, if◌then◌else◌, ◌≡◌, None, Some, Result, Ok, Err}
use Rattle.std.specs.Prelude as std
use Rattle.std.proofs.Math.Option.{Option, some, none}
use Rattle.numbers.specs.Ranges.{positive}
use Rattle.machines.specs.declared.ModeRefusal.{ModeRefusal}
use Rattle.machines.specs.declared.ModeRefusal.TheVariants.{Unsupported, OnGround, BelowMinAltitude, TransitionTimeout, RollError, BelowPlaneMinAltitude}
use Rattle.machines.specs.declared.UnknownReason.{UnknownReason}
use Rattle.machines.specs.declared.InputRefusal.{InputRefusal}
use Rattle.machines.specs.declared.InputRefusal.TheVariants.{TimeStep, EntryTilt, Setting, HandoffDuration, Tangent}
use Rattle.machines.specs.declared.answer.Update.{Update}

-- section 9: "1 dt .. not positive and finite; 2 entry tilt ..; 3 setting, with field; 4 handoff duration no limit; 5 tangent .."
abbrev pub refusal_of : InputRefusal → ℕ
refusal_of TimeStep = 1
refusal_of EntryTilt = 2
refusal_of (Setting field) = 3
refusal_of HandoffDuration = 4
refusal_of Tangent = 5

-- the field of a 3, and 0 where there is none
abbrev pub field_of : InputRefusal → ℕ
field_of TimeStep = 0
field_of EntryTilt = 0
field_of (Setting field) = field
field_of HandoffDuration = 0
field_of Tangent = 0

-- ---- "a step checks 1, 2": the refusal of an update by dt, if any; `bad_tilt` says whether its entry tilt is refused (the tailsitter's alone)
abbrev pub update_refusal : Float → Bool → Option InputRefusal
update_refusal dt bad_tilt = if not (positive dt) then some TimeStep else if bad_tilt then some EntryTilt else none

-- a refusal leaves the state
abbrev pub refused_by : {S A : Type 0} → S → InputRefusal → Update S A
refused_by s why = record { state = s; answer = Err why }

-- what a refusal gives, or else what the call gives
abbrev pub refused_or : {A : Type 0} → Option InputRefusal → (InputRefusal → A) → A → A
refused_or (some why) refused taken = refused why
refused_or none refused taken = taken

-- section 10: "11 Unsupported, 12 OnGround .., 13 BelowMinAltitude, 14 TransitionTimeout, 15 RollError, 16 BelowPlaneMinAltitude"
abbrev pub reason_of : ModeRefusal → ℕ
reason_of Unsupported = 11
reason_of OnGround = 12
reason_of BelowMinAltitude = 13
reason_of TransitionTimeout = 14
reason_of RollError = 15
reason_of BelowPlaneMinAltitude = 16

-- the same, read back: a number that names no reason is given back
abbrev pub reason_by : ℕ → Result ModeRefusal UnknownReason
reason_by number =
    if eqb number 11 then Ok Unsupported
    else if eqb number 12 then Ok OnGround
    else if eqb number 13 then Ok BelowMinAltitude
    else if eqb number 14 then Ok TransitionTimeout
    else if eqb number 15 then Ok RollError
    else if eqb number 16 then Ok BelowPlaneMinAltitude
    else Err (record { 0 = number })

abbrev pub Reads : ℕ → Result ModeRefusal UnknownReason → Type 0
Reads number read = read ≡ reason_by number

-- section 10: "0 none"
abbrev pub report_of : std.Option ModeRefusal → ℕ
report_of None = 0
report_of (Some why) = reason_of why
