-- DEMAND 3: what is claimed of every list of calls. READ THIS FILE FIRST. Definitions only. Assumes nothing.
-- All that is claimed is `Claim`, at the END of this file: begin there. What it names stands above it: the ranges first, then `InPlane` with the records of the step that left Copter, of the
-- calls since and of the ramp, then `InTransition` with the bound on k. The theorem is `list_theorem` (proofs/Laws/Theorem.antt); its only hypothesis, `Binary32Settings` and
-- `Binary32Calls`, is in Binary32.antt. What is said of a state, of one call and of a stretch of calls (`after`, `mode_at`, `is_prime`, `NoCall`, ..) is in List.antt.
-- Words in quotes are demand 3's (docs/CLAIMS.md has them all), or document 01's where a section is named.
-- Notation: `×` is and, `⊎` is or, `→` between statements is if .. then, `Unit` is always true and `⊥` never, `≡` is equality; «x» is the name x; what follows `module _` are arguments
-- of all that stands in it, and a module within one takes the arguments of both; from outside they are all written, as in `from_step j before z between step`. `Type 0` is the kind of statements. A record states all its fields together: a field such as `before : List Call` says that there is such a list, one such as
-- `list : cs ≡ ..` what holds of it. `(x : A) →` is for every x, `λ x. ..` a test or statement about x.
-- A list stands with its LAST call first, so time runs from right to left: in c ∷ cs the calls cs were made before c, and in later ++ earlier those of `earlier`.
-- Borrowed: `new_of` of section 6, `tilt_of` and `share_of` of section 4; `longest32` (16,384 s) of specs/Numbers.antt; of the library `T` (a test passes), `le` and `lt` (IEEE 754's ≤ and <, for
-- which −0 is 0 and a NaN is in no order), `num` and `den` (a finite number's size as a fraction).
use Rattle.std.specs.Prelude.{◌≡◌, not, List, [], ◌∷◌, ◌++◌, ℕ, ◌+◌, ◌*◌, ◌≤◌, ◌<◌, T, Float, Ok, Err, Option, Some, None}
use Rattle.std.specs.Float.Ieee.{lt, le}
use Rattle.std.specs.Float.Ieee.Positive.{num, den}
use Rattle.numbers.specs.Numbers.{◌⊖◌, zero32, one32, pi32, longest32, finite}
use Rattle.machines.specs.declared.FlightMode.{FlightMode}
use Rattle.machines.specs.declared.FlightMode.TheVariants as mode
use Rattle.machines.specs.declared.answer.ShareOrTilt.{ShareOrTilt}
use Rattle.machines.specs.declared.answer.ShareOrTilt.TheVariants as output
use Rattle.machines.specs.Transition.{tilt_of}
use Rattle.machines.specs.Lift.{share_of}
use Rattle.joined.specs.declared.settings.Settings.{Settings}
use Rattle.joined.specs.declared.call.StepInput.{StepInput}
use Rattle.joined.specs.declared.call.Call.{Call}
use Rattle.joined.specs.declared.call.Call.TheVariants as call
use Rattle.joined.specs.Shown.{Answer}
use Rattle.joined.specs.declared.machine.Airframe.{Airframe}
use Rattle.joined.specs.declared.machine.Airframe.TheVariants as airframe
use Rattle.joined.specs.declared.machine.Machine.{Machine}
use Rattle.joined.specs.declared.machine.Machine.TheVariants as machine
use Rattle.joined.specs.declared.joined.Joined.{Joined}
use Rattle.joined.specs.Machine.{airframe_of, mode_is}
use Rattle.joined.specs.Joined.{new_of}
use Rattle.joined.specs.List.{after, answers_of, shown_all, mode_at, clock_at, min_height_of, plane_min_height_of, is_prime, is_accepted_step, leaves_copter, abandons, copter_request_in_copter}
use Rattle.joined.specs.List.{ends_in, at_least_tick, KeepsSettings, reads_minimum, ramp_within, EachCall, NoCall, EachFollowedBy, count}

-- ---- "share and thrust in 0..1, tilt in 0..π": −0 counts as 0, and π is the paper's 40490FDB
abbrev pub InUnit : Float → Type 0
InUnit x = T (le zero32 x) × T (le x one32)

abbrev pub TiltInRange : Option Float → Type 0
TiltInRange None = Unit {0}
TiltInRange (Some x) = T (le zero32 x) × T (le x pi32)

-- of the share or tilt of a state
abbrev pub OutputInRange : Machine → Type 0
OutputInRange (machine.Tailsitter m) = TiltInRange (tilt_of m)
OutputInRange (machine.Quadplane m) = InUnit (share_of m)

-- of the lines that were answered
abbrev pub ShownInRange : ShareOrTilt → Type 0
ShownInRange (output.Share x) = InUnit x
ShownInRange (output.Tilt t) = TiltInRange t

abbrev pub LineInRange : Answer → Type 0
LineInRange (Err why) = Unit {0}
LineInRange (Ok line) = InUnit line.thrust × ShownInRange line.output

abbrev pub LinesInRange : List Answer → Type 0
LinesInRange [] = Unit {0}
LinesInRange (a ∷ answers) = LineInRange a × LinesInRange answers

-- ---- in Plane: the calls cs, from the new machine j on, are
--   cs  =  since ++ the step that left Copter ∷ between ++ the last prime ∷ before
module _ (j : Joined) (before : List Call) (z : Float) (between : List Call) (step : StepInput) where
  -- the state that the prime left, and those that the step found and left
  abbrev pub primed : Joined
  primed = after j (call.Prime z ∷ before)

  abbrev pub at_step : Joined
  at_step = after primed between

  abbrev pub from_step : Joined
  from_step = after at_step (call.Step step ∷ [])

  abbrev pub height : Float
  height = step.state.z_m ⊖ z

  pub record LeftCopter : Type 0 where
    -- "the last step that left Copter"
    pub leaves : T (leaves_copter at_step (call.Step step))
    -- "came after the last prime": no other prime stands between them
    pub no_prime : NoCall is_prime primed between
    -- "at a finite height at or above both minimums then set"
    pub finite_height : T (finite height)
    pub above_minimum : T (le (min_height_of at_step.machine) height)
    pub above_plane_minimum : T (le (plane_min_height_of at_step.machine) height)
    -- "after each abandonment between that prime and that step, and before the step, an accepted Copter request found the machine in Copter"
    pub cleared : EachFollowedBy abandons copter_request_in_copter primed between
    -- "no abandonment came later": not in the step itself
    pub no_abandonment : T (not (abandons at_step (call.Step step)))

-- the calls since that step, which left the state `left`
pub record SinceThen (left : Joined) (since : List Call) : Type 0 where
  -- it was "the last step that left Copter"
  pub no_leaving : NoCall leaves_copter left since
  -- the prime was "the last prime"
  pub no_prime : NoCall is_prime left since
  -- "no abandonment came later"
  pub no_abandonment : NoCall abandons left since

-- "since that step the quadplane read its minimum airspeed, then finished its ramp". Section 6: "let f be the first step to end in Plane after the one leaving Copter; an accepted
-- step r between had a valid airspeed ≥ the minimum then set, and clock at f less clock at r, rounded as in section 4, ≥ the lift_ramp_s set at f".
-- The calls `since` that step, from the state `left` on that it left:
--   since  =  later ++ f ∷ between ++ r ∷ before
module _ (left : Joined) (before : List Call) (r : StepInput) where
  -- the states that r found and left
  abbrev pub at_r : Joined
  at_r = after left before

  abbrev pub from_r : Joined
  from_r = after at_r (call.Step r ∷ [])

  -- r was accepted, and read the minimum
  pub record ReadBy : Type 0 where
    pub accepted : T (is_accepted_step at_r (call.Step r))
    pub minimum : T (reads_minimum at_r.machine r)

  module _ (between : List Call) (f : StepInput) where
    -- the states that f found and left
    abbrev pub at_f : Joined
    at_f = after from_r between

    abbrev pub from_f : Joined
    from_f = after at_f (call.Step f ∷ [])

    pub record RampBy : Type 0 where
      -- f is the first to end in Plane
      pub ends : T (mode_is mode.Plane (mode_at from_f))
      pub first : NoCall (ends_in mode.Plane) left (between ++ (call.Step r ∷ before))
      pub read : ReadBy
      -- the ramp was over at f
      pub ramp_finished : T (ramp_within at_f.machine (clock_at from_f ⊖ clock_at from_r))

pub record Ramped (left : Joined) (since : List Call) : Type 0 where
  pub before : List Call
  pub r : StepInput
  pub between : List Call
  pub f : StepInput
  pub later : List Call
  pub list : since ≡ later ++ (call.Step f ∷ (between ++ (call.Step r ∷ before)))
  pub ramp : RampBy left before r between f

-- asked of the quadplane alone: nothing is claimed of a tailsitter's ramp
abbrev pub RampedIf : Airframe → Joined → List Call → Type 0
RampedIf airframe.Tailsitter left since = Unit {0}
RampedIf airframe.Quadplane left since = Ramped left since

pub record InPlane (j : Joined) (cs : List Call) : Type 0 where
  pub before : List Call
  pub z : Float
  pub between : List Call
  pub step : StepInput
  pub since : List Call
  pub list : cs ≡ since ++ (call.Step step ∷ (between ++ (call.Prime z ∷ before)))
  pub left_copter : LeftCopter j before z between step
  pub since_then : SinceThen (from_step j before z between step) since
  -- "since that step the quadplane read its minimum airspeed, then finished its ramp"
  pub ramped : RampedIf (airframe_of (at_step j before z between step).machine) (from_step j before z between step) since

-- ---- in ToPlane or ToCopter: the calls cs are
--   cs  =  since ++ the step that entered the mode ∷ before

-- k ≤ 1024 × bound, for a bound below 16,384 s; the bound is the fraction num/den
abbrev pub Within : ℕ → Float → Type 0
Within k bound = T (lt bound longest32) → k * den bound ≤ 1024 * num bound

-- k < 1024 × (timeout + lift_ramp_s), "summed exactly", for a sum below 16,384 s; the sum is the fraction n/d
abbrev pub BelowSum : ℕ → Float → Float → Type 0
BelowSum k timeout ramp =
    let n = num timeout * den ramp + num ramp * den timeout in
    let d = den timeout * den ramp in
    n < 16384 * d → k * d < 1024 * n

-- the bound on k by the settings and the mode; Copter and Plane are never asked
abbrev pub Bounded : Machine → FlightMode → ℕ → Type 0
Bounded (machine.Tailsitter m) mode.ToPlane k = Within k m.config.timeout_s
Bounded (machine.Tailsitter m) mode.ToCopter k = Within k m.config.timeout_s
Bounded (machine.Quadplane m) mode.ToPlane k = BelowSum k m.config.timeout_s m.config.lift_ramp_s
Bounded (machine.Quadplane m) mode.ToCopter k = Within k m.config.back_timeout_s
Bounded m mode.Copter k = Unit {0}
Bounded m mode.Plane k = Unit {0}

module _ (j : Joined) (before : List Call) (step : StepInput) (since : List Call) where
  -- the states that the step found and left, and the final one
  abbrev pub outside : Joined
  outside = after j before

  abbrev pub inside : Joined
  inside = after outside (call.Step step ∷ [])

  abbrev pub final : Joined
  final = after inside since

  -- "entered k accepted steps before"
  abbrev pub steps : ℕ
  steps = count is_accepted_step inside since

  pub record Stay : Type 0 where
    -- the step entered the mode, and no call has left it since
    pub entered : T (not (mode_is (mode_at final) (mode_at outside))) × T (mode_is (mode_at final) (mode_at inside))
    pub stayed : EachCall (λ now c. T (ends_in (mode_at final) now c)) inside since
    -- "each of at least 1/1024 s, settings unchanged since: k .."
    pub bound : EachCall (λ now c. T (at_least_tick now c)) inside since → EachCall KeepsSettings inside since → Bounded final.machine (mode_at final) steps

pub record InTransition (j : Joined) (cs : List Call) : Type 0 where
  pub before : List Call
  pub step : StepInput
  pub since : List Call
  pub list : cs ≡ since ++ (call.Step step ∷ before)
  pub stay : Stay j before step since

-- ---- by the mode after the list
abbrev pub ByMode : FlightMode → Joined → List Call → Type 0
ByMode mode.Copter j cs = Unit {0}
ByMode mode.Plane j cs = InPlane j cs
ByMode mode.ToPlane j cs = InTransition j cs
ByMode mode.ToCopter j cs = InTransition j cs

-- ==== THE CLAIM, of the calls cs made from j on, a new joined machine of the airframe a with the accepted settings s; of their answers, the last one first; and of the state `end` that
-- they leave
pub record Claim (a : Airframe) (s : Settings) (j : Joined) (cs : List Call) (answers : List Answer) (end : Joined) : Type 0 where
  -- "from a new joined machine with any accepted settings"
  pub new : new_of a s ≡ Ok j
  -- "each answer is the one document 01 defines": as the program has it, and in the paper's letters and numbers
  pub defined : answers ≡ answers_of j cs
  pub shown : shown_all answers ≡ shown_all (answers_of j cs)
  -- so is the state, and the airframe is "fixed at its making" (section 6)
  pub state : end ≡ after j cs
  pub airframe : airframe_of end.machine ≡ a
  -- "after the list: share and thrust in 0..1, tilt in 0..π"; and so in every line that was answered
  pub thrust : InUnit end.thrust
  pub output : OutputInRange end.machine
  pub lines : LinesInRange answers
  -- "in Plane: ..", "in ToPlane or ToCopter: .."
  pub by_mode : ByMode (mode_at end) j cs
