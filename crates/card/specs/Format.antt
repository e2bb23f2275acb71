-- Document 01, section 7: what the records of a card say. Definitions only. Assumes nothing.
use Rattle.std.specs.Prelude.{ℕ, ◌≡◌, ◌+◌, ◌*◌, ◌/◌, Bool, true, false, Option, Some, None, Result, Ok, Err, MatchResult, List, Float, length, take, drop, eqb, leb, ltb, if◌then◌else◌}
use Rattle.machines.specs.declared.VehicleState.{VehicleState}
use Rattle.machines.specs.declared.ModeRefusal.TheVariants as reason
use Rattle.joined.specs.declared.settings.Settings.{Settings}
use Rattle.joined.specs.declared.call.StepInput.{StepInput}
use Rattle.joined.specs.declared.call.Call.{Call}
use Rattle.joined.specs.declared.call.Call.TheVariants as call
use Rattle.joined.specs.declared.machine.Airframe.{Airframe}
use Rattle.joined.specs.declared.machine.Airframe.TheVariants as airframe
use Rattle.joined.specs.declared.joined.Joined.{Joined}
use Rattle.machines.specs.declared.InputRefusal.{InputRefusal}
use Rattle.joined.specs.Calls.{settings_by, vehicle_by, step_input_by}
use Rattle.joined.specs.Joined.{new_of}
use Rattle.card.specs.Bytes.{byte_at, u16_at, float_at}
use Rattle.card.specs.declared.kind.Kind.{Kind}
use Rattle.card.specs.declared.kind.Kind.TheVariants as kind
use Rattle.card.specs.declared.kind.UnknownKind.{UnknownKind}
use Rattle.card.specs.declared.refusal.CardRefusal.{CardRefusal}
use Rattle.card.specs.declared.refusal.CardRefusal.TheVariants as refusal

-- ---- the kinds, for reader and writer (specs/Encoding.antt): "1 prime (2 = z); 2 step; 3 cut, option 11 to 16; 4 settings"
abbrev pub prime_kind : ℕ
prime_kind = 1

abbrev pub step_kind : ℕ
step_kind = 2

abbrev pub cut_kind : ℕ
cut_kind = 3

abbrev pub settings_kind : ℕ
settings_kind = 4

-- and of the header: "Record 0 is the header: kind 5 tailsitter, 6 quadplane"
abbrev pub kind_number : Kind → ℕ
kind_number kind.Prime = prime_kind
kind_number kind.Step = step_kind
kind_number kind.Cut = cut_kind
kind_number kind.Settings = settings_kind
kind_number kind.Tailsitter = 5
kind_number kind.Quadplane = 6

abbrev pub airframe_kind : Airframe → Kind
airframe_kind airframe.Tailsitter = kind.Tailsitter
airframe_kind airframe.Quadplane = kind.Quadplane

abbrev pub header_kind : Airframe → ℕ
header_kind a = kind_number (airframe_kind a)

-- the kind with this number, if one has it (law `kind_back`, Kinds.antt)
abbrev pub kind_by : ℕ → Option Kind
kind_by n =
    if eqb n 1 then Some kind.Prime
    else if eqb n 2 then Some kind.Step
    else if eqb n 3 then Some kind.Cut
    else if eqb n 4 then Some kind.Settings
    else if eqb n 5 then Some kind.Tailsitter
    else if eqb n 6 then Some kind.Quadplane
    else None

abbrev pub Decodes : ℕ → Result Kind UnknownKind → Type 0
Decodes n r = MatchResult r (λ k. kind_by n ≡ Some k) (λ e. (kind_by n ≡ None) × (e.0 ≡ n))

-- ---- the bytes of record i
abbrev pub record_part : List ℕ → ℕ → List ℕ
record_part card i = take 80 (drop (80 * i) card)

-- ---- of record i: "records of 80 bytes, little-endian: byte 0 kind, byte 1 option, bytes 2-3 next index (u16, 0 ends the chain), then numbers 1 to 19, unused ones ignored"
abbrev pub kind_at : List ℕ → ℕ → ℕ
kind_at card i = byte_at card (80 * i)

abbrev pub option_at : List ℕ → ℕ → ℕ
option_at card i = byte_at card (80 * i + 1)

abbrev pub next_at : List ℕ → ℕ → ℕ
next_at card i = u16_at card (80 * i + 2)

-- number k, from 1
abbrev pub number_at : List ℕ → ℕ → ℕ → Float
number_at card i k = float_at card (80 * i + 4 * k)

-- ---- the numbers of record i as settings, and as what a step is told
abbrev pub settings_at : List ℕ → ℕ → Settings
settings_at card i = settings_by (number_at card i)

abbrev pub vehicle_at : List ℕ → ℕ → VehicleState
vehicle_at card i = vehicle_by (option_at card i) (number_at card i)

abbrev pub step_input_at : List ℕ → ℕ → StepInput
step_input_at card i = step_input_by (option_at card i) (number_at card i)

-- ---- a record after the header, by its option: "1 prime (2 = z); 2 step; 3 cut, option 11 to 16; 4 settings. .. Other options .. are 0."
-- a call, if its option is one that it may have
abbrev pub known_if : Bool → Call → Option Call
known_if good c = if good then Some c else None

abbrev pub prime_at : List ℕ → ℕ → Option Call
prime_at card i = known_if (eqb (option_at card i) 0) (call.Prime (number_at card i 2))

abbrev pub step_at : List ℕ → ℕ → Option Call
step_at card i = known_if (leb (option_at card i) 3) (call.Step (step_input_at card i))

-- the option is the reason's number (section 10)
abbrev pub cut_for : ℕ → Option Call
cut_for option =
    if eqb option 11 then Some (call.Cut reason.Unsupported)
    else if eqb option 12 then Some (call.Cut reason.OnGround)
    else if eqb option 13 then Some (call.Cut reason.BelowMinAltitude)
    else if eqb option 14 then Some (call.Cut reason.TransitionTimeout)
    else if eqb option 15 then Some (call.Cut reason.RollError)
    else if eqb option 16 then Some (call.Cut reason.BelowPlaneMinAltitude)
    else None

abbrev pub new_settings_at : List ℕ → ℕ → Option Call
new_settings_at card i = known_if (eqb (option_at card i) 0) (call.Settings (settings_at card i))

-- by its kind
unfoldable pub record_at : List ℕ → ℕ → Option Call
record_at card i =
    if eqb (kind_at card i) prime_kind then prime_at card i
    else if eqb (kind_at card i) step_kind then step_at card i
    else if eqb (kind_at card i) cut_kind then cut_for (option_at card i)
    else if eqb (kind_at card i) settings_kind then new_settings_at card i
    else None

-- of any bytes: only a whole record says something
unfoldable pub read_of : List ℕ → ℕ → Option Call
read_of card i = if ltb i (length card / 80) then record_at card i else None

-- "10 kind or option" spares a record
abbrev pub is_known : Option Call → Bool
is_known (Some c) = true
is_known None = false

-- ---- the header, by the making of its machine; a making that is refused is refused with 3 (law `header_three`, Headers.antt)
abbrev pub header_for : Result Joined InputRefusal → Result Joined CardRefusal
header_for (Ok j) = Ok j
header_for (Err why) = Err (refusal.Header why)

-- "Record 0 is the header: kind 5 tailsitter, 6 quadplane; numbers are settings. .. Other options and the header's are 0." Tested in the order "header 10, header 3"
unfoldable pub header_of : List ℕ → Result Joined CardRefusal
header_of card =
    if eqb (option_at card 0) 0 then
    (if eqb (kind_at card 0) (header_kind airframe.Tailsitter) then header_for (new_of airframe.Tailsitter (settings_at card 0))
    else if eqb (kind_at card 0) (header_kind airframe.Quadplane) then header_for (new_of airframe.Quadplane (settings_at card 0))
    else Err refusal.KindOrOption)
    else Err refusal.KindOrOption
