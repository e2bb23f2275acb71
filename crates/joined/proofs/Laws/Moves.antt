-- The ways in which a call moves the joined machine between the modes, whatever the airframe: the edges of section 4's graph, each with what becomes of the gate, the clock and the
-- ramp. They are the rows of section 4, taken apart by mode, request and what the airframe finds. Assumes nothing.
use Rattle.std.proofs.lemmas.Float.{T_from_false}
use Rattle.std.specs.Prelude.{if◌then◌else◌, Option, Some, None}
use mathlib.Core.Path.{◌≡◌, refl, sym, ap, ◌∙◌, subst}
use mathlib.Core.Bool.{Bool, true, false, not, ◌&&◌}
use lib.Dec.{T}
use lib.Ieee.{Float}
use lib.Ieee.Fits.{and_i}
use Rattle.numbers.specs.Numbers.{◌⊕◌, zero32}
use Rattle.machines.specs.declared.FlightMode.{FlightMode}
use Rattle.machines.specs.declared.FlightMode.TheVariants as mode
use Rattle.machines.specs.declared.FlightRegime.{FlightRegime}
use Rattle.machines.specs.declared.FlightRegime.TheVariants as regime
use Rattle.machines.specs.declared.ModeRefusal.{ModeRefusal}
use Rattle.machines.specs.declared.ModeRefusal.TheVariants.{TransitionTimeout, BelowPlaneMinAltitude}
use Rattle.machines.specs.declared.gate.ForwardGate.{ForwardGate}
use Rattle.machines.specs.declared.rows.TransitionState.{TransitionState}
use Rattle.machines.specs.declared.rows.Moved.{Moved}
use Rattle.machines.specs.Gate.{primed_gate, height_of, high_enough, forward_refusal, forward_refusal_of, floor_trips}
use Rattle.machines.specs.Rows.{Found, begin, clock_after, abandoning, abandoned_mode, cut_in, cut_of, enter_unless, resume_unless, finish, to_plane_row, plane_row, reporting}
use Rattle.machines.specs.Rows as rows
use Rattle.machines.specs.Lift as quadplane
use Rattle.joined.specs.declared.call.StepInput.{StepInput}
use Rattle.joined.specs.declared.call.Call.{Call}
use Rattle.joined.specs.declared.call.Call.TheVariants as call
use Rattle.joined.specs.declared.machine.Machine.{Machine}
use Rattle.joined.specs.declared.machine.Machine.TheVariants as machine
use Rattle.joined.specs.declared.joined.Joined.{Joined}
use Rattle.joined.specs.Machine.{airframe_of, is_copter, state_in, transitioning, moving, cut_machine_of}
use Rattle.joined.specs.Joined.{call_of}
use Rattle.joined.specs.List.{mode_at, clock_at, is_prime, is_accepted_step, asks_copter, copter_request_in_copter, min_height_of, plane_min_height_of, reads_minimum, SameSettings}
use Rattle.joined.proofs.Laws.Effects.{ramp_start_in, found_in, moved_in, Effect, refuses, sets, primes, cuts, moves, effect}

abbrev pub gate_at : Joined → ForwardGate
gate_at j = (state_in j.machine).gate

abbrev pub ramp_at : Joined → Option Float
ramp_at j = ramp_start_in j.machine

-- ---- the edges, each with what is known of the call, of the state j that it finds and of the state k that it leaves
module _ (j k : Joined) (c : Call) where
  -- nothing moves: a refused call, settings, a cut elsewhere, or a step that goes on in Copter or Plane
  pub record Stays : Type 0 where
    pub idle : T (not (is_accepted_step j c && transitioning (mode_at j)))
    pub no_prime : T (not (is_prime j c))
    pub to : mode_at k ≡ mode_at j
    pub gate : gate_at k ≡ gate_at j
    pub clock : clock_at k ≡ clock_at j
    pub ramp : ramp_at k ≡ ramp_at j

  -- a Copter request in Copter clears the abandonment
  pub record Clears : Type 0 where
    pub request : T (copter_request_in_copter j c)
    pub no_prime : T (not (is_prime j c))
    pub to : mode_at k ≡ mode.Copter
    pub gate : gate_at k ≡ abandoning (gate_at j) None

  -- the timeout, or a cut
  pub record AbandonsToPlane : Type 0 where
    pub why : ModeRefusal
    pub no_prime : T (not (is_prime j c))
    pub from : mode_at j ≡ mode.ToPlane
    pub to : mode_at k ≡ mode.Copter
    pub gate : gate_at k ≡ abandoning (gate_at j) (Some why)

  -- a Plane request in ToCopter, with no abandonment
  pub record ResumesPlane : Type 0 where
    pub no_prime : T (not (is_prime j c))
    pub from : mode_at j ≡ mode.ToCopter
    pub to : mode_at k ≡ mode.Plane
    pub free : (gate_at j).abandoned ≡ None
    pub gate : gate_at k ≡ gate_at j

  -- a Copter request in ToPlane, the end of ToCopter, or a cut in it
  pub record EndsInCopter : Type 0 where
    pub no_prime : T (not (is_prime j c))
    pub to : mode_at k ≡ mode.Copter
    pub gate : gate_at k ≡ gate_at j

-- a prime
pub record Primes (k : Joined) (z : Float) : Type 0 where
  pub to : mode_at k ≡ mode.Copter
  pub gate : gate_at k ≡ primed_gate z

-- the steps
module _ (j k : Joined) (i : StepInput) where
  -- with no abandonment, and high enough
  pub record EntersToPlane : Type 0 where
    pub from : mode_at j ≡ mode.Copter
    pub to : mode_at k ≡ mode.ToPlane
    pub free : (gate_at j).abandoned ≡ None
    pub high : high_enough (height_of (gate_at j) i.state.z_m) (min_height_of j.machine) (plane_min_height_of j.machine) ≡ true
    pub gate : gate_at k ≡ gate_at j
    pub clock : clock_at k ≡ zero32
    pub ramp : ramp_at k ≡ None

  -- neither completed nor timed out: the ramp may begin
  pub record StaysToPlane : Type 0 where
    pub taken : T (is_accepted_step j (call.Step i))
    pub from : mode_at j ≡ mode.ToPlane
    pub to : mode_at k ≡ mode.ToPlane
    pub completed : (found_in j.machine i).completed ≡ false
    pub timed_out : (found_in j.machine i).timed_out ≡ false
    pub gate : gate_at k ≡ gate_at j
    pub clock : clock_at k ≡ clock_at j ⊕ i.dt
    pub ramp : ramp_at k ≡ quadplane.ramp_in mode.ToPlane (ramp_at j) (reads_minimum j.machine i) (clock_at k)
    pub settings : SameSettings j.machine k.machine

  pub record CompletesToPlane : Type 0 where
    pub from : mode_at j ≡ mode.ToPlane
    pub to : mode_at k ≡ mode.Plane
    pub completed : (found_in j.machine i).completed ≡ true
    pub gate : gate_at k ≡ gate_at j
    pub clock : clock_at k ≡ clock_at j ⊕ i.dt

  pub record StaysToCopter : Type 0 where
    pub taken : T (is_accepted_step j (call.Step i))
    pub from : mode_at j ≡ mode.ToCopter
    pub to : mode_at k ≡ mode.ToCopter
    pub ended : (found_in j.machine i).ended ≡ false
    pub gate : gate_at k ≡ gate_at j
    pub clock : clock_at k ≡ clock_at j ⊕ i.dt
    pub settings : SameSettings j.machine k.machine

-- by a request, with the gate as it was, or by the floor
pub record EntersToCopter (j k : Joined) (left : ForwardGate) : Type 0 where
  pub from : mode_at j ≡ mode.Plane
  pub to : mode_at k ≡ mode.ToCopter
  pub gate : gate_at k ≡ left
  pub clock : clock_at k ≡ zero32

pub data Edge (j k : Joined) : Call → Type 0 where
  stays : {c : Call} → Stays j k c → Edge j k c
  primed : {z : Float} → Primes k z → Edge j k (call.Prime z)
  cleared : {c : Call} → Clears j k c → Edge j k c
  enters_to_plane : {i : StepInput} → EntersToPlane j k i → Edge j k (call.Step i)
  stays_to_plane : {i : StepInput} → StaysToPlane j k i → Edge j k (call.Step i)
  completes_to_plane : {i : StepInput} → CompletesToPlane j k i → Edge j k (call.Step i)
  abandons_to_plane : {c : Call} → AbandonsToPlane j k c → Edge j k c
  enters_to_copter : {i : StepInput} → EntersToCopter j k (gate_at j) → Edge j k (call.Step i)
  floor_tripped : {i : StepInput} → EntersToCopter j k (abandoning (gate_at j) (Some BelowPlaneMinAltitude)) → Edge j k (call.Step i)
  stays_to_copter : {i : StepInput} → StaysToCopter j k i → Edge j k (call.Step i)
  resumes_plane : {c : Call} → ResumesPlane j k c → Edge j k c
  ends_in_copter : {c : Call} → EndsInCopter j k c → Edge j k c

-- ---- tests that failed
pub not_and_left : (a b : Bool) → T (not a) → T (not (a && b))
not_and_left true b h = absurd h
not_and_left false b h = tt

pub not_and_right : (a b : Bool) → b ≡ false → T (not (a && b))
not_and_right true b e = T_from_false _ e
not_and_right false b e = tt

-- ---- a machine after a row, whatever the airframe
pub record AfterRow (m : Machine) (i : StepInput) : Type 0 where
  pub state : state_in (moving m i).machine ≡ (moved_in m i).state
  pub airframe : airframe_of (moving m i).machine ≡ airframe_of m
  pub settings : SameSettings m (moving m i).machine

pub after_row : (m : Machine) (i : StepInput) → AfterRow m i
after_row (machine.Tailsitter m) i = record { state = refl; airframe = refl; settings = refl }
after_row (machine.Quadplane m) i = record { state = refl; airframe = refl; settings = refl }

-- the ramp after a row
abbrev ramp_after : Moved → Option Float → Bool → Option Float
ramp_after moved ramp fast = if moved.entered then None else quadplane.ramp_in moved.state.mode ramp fast moved.state.elapsed_s

pub no_ramp : (entered : Bool) (to : FlightMode) (clock : Float) → None ≡ (if entered then None else quadplane.ramp_in to None false clock)
no_ramp true to clock = refl
no_ramp false mode.Copter clock = refl
no_ramp false mode.Plane clock = refl
no_ramp false mode.ToPlane clock = refl
no_ramp false mode.ToCopter clock = refl

moving_ramp : (m : Machine) (i : StepInput) → ramp_start_in (moving m i).machine ≡ ramp_after (moved_in m i) (ramp_start_in m) (reads_minimum m i)
moving_ramp (machine.Tailsitter m) i =
    let r = moved_in (machine.Tailsitter m) i in
    no_ramp r.entered r.state.mode r.state.elapsed_s
moving_ramp (machine.Quadplane m) i = refl

-- the heights that it finds
pub record Heights (m : Machine) (i : StepInput) : Type 0 where
  pub z : (found_in m i).z ≡ i.state.z_m
  pub minimum : (found_in m i).min_height ≡ min_height_of m
  pub plane_minimum : (found_in m i).plane_min_height ≡ plane_min_height_of m

pub heights : (m : Machine) (i : StepInput) → Heights m i
heights (machine.Tailsitter m) i = record { z = refl; minimum = refl; plane_minimum = refl }
heights (machine.Quadplane m) i = record { z = refl; minimum = refl; plane_minimum = refl }

-- ---- the gate lets the machine go: no abandonment, and high enough
free : (a : Option ModeRefusal) (high : Bool) → forward_refusal a high ≡ None → (a ≡ None) × (high ≡ true)
free None true e = (refl, refl)
free None false e = (refl, cc)
free (Some why) high e = (cc, cc)

-- ---- a row
module _ (j : Joined) (i : StepInput) (k : Joined) (taken : T (is_accepted_step j (call.Step i))) (moved : k.machine ≡ (moving j.machine i).machine) where
  abbrev c : Call
  c = call.Step i

  abbrev begun : TransitionState
  begun = begin (state_in j.machine) i.dt

  abbrev found : Found
  found = found_in j.machine i

  -- the row r
  abbrev Row : Moved → Type 0
  Row r = moved_in j.machine i ≡ r

  row : (at : FlightMode) (asked : FlightRegime) → mode_at j ≡ at → i.requested ≡ asked → Row (rows.row_in at asked begun found)
  row at asked em er = ap (λ (m : FlightMode). rows.row_in m i.requested begun found) em ∙ ap (λ (r : FlightRegime). rows.row_in at r begun found) er

  -- what it leaves
  record Leaves (r : Moved) : Type 0 where
    to : mode_at k ≡ r.state.mode
    gate : gate_at k ≡ r.state.gate
    clock : clock_at k ≡ r.state.elapsed_s
    ramp : ramp_at k ≡ ramp_after r (ramp_at j) (reads_minimum j.machine i)

  leaves : (r : Moved) → Row r → Leaves r
  leaves r e =
      let s : state_in k.machine ≡ r.state = ap state_in moved ∙ (after_row j.machine i).state ∙ ap (λ (x : Moved). x.state) e in
      record {
        to = ap (λ (x : TransitionState). x.mode) s;
        gate = ap (λ (x : TransitionState). x.gate) s;
        clock = ap (λ (x : TransitionState). x.elapsed_s) s;
        ramp = ap ramp_start_in moved ∙ moving_ramp j.machine i ∙ ap (λ (x : Moved). ramp_after x (ramp_at j) (reads_minimum j.machine i)) e;
      }

  same : SameSettings j.machine k.machine
  same = subst (λ (m : Machine). SameSettings j.machine m) (sym moved) (after_row j.machine i).settings

  -- the clock that the tests see
  begun_clock : (at : FlightMode) → mode_at j ≡ at → begun.elapsed_s ≡ clock_after at (clock_at j) i.dt
  begun_clock at em = ap (λ (m : FlightMode). clock_after m (clock_at j) i.dt) em

  -- a row that goes on in Copter or Plane, with report why
  stands : (why : Option ModeRefusal) → Row (rows.plain (reporting begun why)) → (at : FlightMode) → mode_at j ≡ at → transitioning at ≡ false → Edge j k c
  stands why e at em idle =
      let l = leaves (rows.plain (reporting begun why)) e in
      stays (record {
        idle = not_and_right (is_accepted_step j c) (transitioning (mode_at j)) (ap transitioning em ∙ idle);
        no_prime = tt;
        to = l.to;
        gate = l.gate;
        clock = l.clock ∙ begun_clock at em ∙ (kept at idle).0;
        ramp = l.ramp ∙ ap (λ (m : FlightMode). quadplane.ramp_in m (ramp_at j) (reads_minimum j.machine i) begun.elapsed_s) em ∙ (kept at idle).1;
      })
    where
      kept : (a : FlightMode) → transitioning a ≡ false
          → (clock_after a (clock_at j) i.dt ≡ clock_at j) × (quadplane.ramp_in a (ramp_at j) (reads_minimum j.machine i) begun.elapsed_s ≡ ramp_at j)
      kept mode.Copter n = (refl, refl)
      kept mode.Plane n = (refl, refl)
      kept mode.ToPlane n = absurd (subst T n tt)
      kept mode.ToCopter n = absurd (subst T n tt)

  from_copter : (asked : FlightRegime) → i.requested ≡ asked → mode_at j ≡ mode.Copter → Edge j k c
  from_copter regime.Copter er em =
      let l = leaves _ (row mode.Copter regime.Copter em er) in
      cleared (record {
        request =
            and_i (is_accepted_step j c && asks_copter i.requested) (is_copter (mode_at j))
            (and_i (is_accepted_step j c) (asks_copter i.requested) taken (subst (λ (r : FlightRegime). T (asks_copter r)) (sym er) tt))
            (subst (λ (m : FlightMode). T (is_copter m)) (sym em) tt);
        no_prime = tt;
        to = l.to ∙ em;
        gate = l.gate;
      })
  from_copter regime.Plane er em = by refused refl
    where
      refused : Option ModeRefusal
      refused = forward_refusal_of (gate_at j) found.z found.min_height found.plane_min_height

      by : (a : Option ModeRefusal) → refused ≡ a → Edge j k c
      by (Some why) ea =
          stands (Some why) (row mode.Copter regime.Plane em er ∙ ap (λ (a : Option ModeRefusal). enter_unless a (reporting begun a)) ea) mode.Copter em refl
      by None ea =
          let l = leaves _ (row mode.Copter regime.Plane em er ∙ ap (λ (a : Option ModeRefusal). enter_unless a (reporting begun a)) ea) in
          let f = free (gate_at j).abandoned (high_enough (height_of (gate_at j) found.z) found.min_height found.plane_min_height) ea in
          let h = heights j.machine i in
          enters_to_plane (record {
            from = em;
            to = l.to;
            free = f.0;
            high = rw (h.z, h.minimum, h.plane_minimum) at f.1;
            gate = l.gate;
            clock = l.clock;
            ramp = l.ramp;
          })

  from_to_plane : (asked : FlightRegime) → i.requested ≡ asked → mode_at j ≡ mode.ToPlane → Edge j k c
  from_to_plane regime.Copter er em = let l = leaves _ (row mode.ToPlane regime.Copter em er) in ends_in_copter (record { no_prime = tt; to = l.to; gate = l.gate })
  from_to_plane regime.Plane er em = by found.completed found.timed_out refl refl
    where
      row_by : (completed late : Bool) → found.completed ≡ completed → found.timed_out ≡ late → Leaves (to_plane_row regime.Plane begun completed late)
      row_by completed late ec et =
          leaves _ (row mode.ToPlane regime.Plane em er ∙ ap (λ (b : Bool). to_plane_row regime.Plane begun b found.timed_out) ec
          ∙ ap (λ (b : Bool). to_plane_row regime.Plane begun completed b) et)

      by : (completed late : Bool) → found.completed ≡ completed → found.timed_out ≡ late → Edge j k c
      by true late ec et =
          let l = row_by true late ec et in
          completes_to_plane (record { from = em; to = l.to; completed = ec; gate = l.gate; clock = l.clock ∙ begun_clock mode.ToPlane em })
      by false true ec et =
          let l = row_by false true ec et in
          abandons_to_plane (record { why = TransitionTimeout; no_prime = tt; from = em; to = l.to ∙ ap abandoned_mode em; gate = l.gate })
      by false false ec et =
          let l = row_by false false ec et in
          stays_to_plane (record {
            taken = taken;
            from = em;
            to = l.to ∙ em;
            completed = ec;
            timed_out = et;
            gate = l.gate;
            clock = l.clock ∙ begun_clock mode.ToPlane em;
            ramp =
                l.ramp ∙ ap (λ (m : FlightMode). quadplane.ramp_in m (ramp_at j) (reads_minimum j.machine i) begun.elapsed_s) em
                ∙ ap (quadplane.ramp_in mode.ToPlane (ramp_at j) (reads_minimum j.machine i)) (sym l.clock);
            settings = same;
          })

  from_plane : (asked : FlightRegime) → i.requested ≡ asked → mode_at j ≡ mode.Plane → Edge j k c
  from_plane regime.Copter er em =
      let l = leaves _ (row mode.Plane regime.Copter em er) in
      enters_to_copter (record { from = em; to = l.to; gate = l.gate; clock = l.clock })
  from_plane regime.Plane er em = by (floor_trips (gate_at j) found.z found.plane_min_height) refl
    where
      by : (b : Bool) → floor_trips (gate_at j) found.z found.plane_min_height ≡ b → Edge j k c
      by true eb =
          let l = leaves _ (row mode.Plane regime.Plane em er ∙ ap (plane_row regime.Plane begun) eb) in
          floor_tripped (record { from = em; to = l.to; gate = l.gate; clock = l.clock })
      by false eb = stands None (row mode.Plane regime.Plane em er ∙ ap (plane_row regime.Plane begun) eb) mode.Plane em refl

  -- the end of a back transition, with report why
  ending : (why : Option ModeRefusal) → Row (finish (reporting begun why) found.ended) → mode_at j ≡ mode.ToCopter → Edge j k c
  ending why row em = by found.ended refl
    where
      by : (b : Bool) → found.ended ≡ b → Edge j k c
      by true eb = let l = leaves _ (row ∙ ap (finish (reporting begun why)) eb) in ends_in_copter (record { no_prime = tt; to = l.to; gate = l.gate })
      by false eb =
          let l = leaves _ (row ∙ ap (finish (reporting begun why)) eb) in
          stays_to_copter
          (record { taken = taken; from = em; to = l.to ∙ em; ended = eb; gate = l.gate; clock = l.clock ∙ begun_clock mode.ToCopter em; settings = same })

  from_to_copter : (asked : FlightRegime) → i.requested ≡ asked → mode_at j ≡ mode.ToCopter → Edge j k c
  from_to_copter regime.Copter er em = ending None (row mode.ToCopter regime.Copter em er) em
  from_to_copter regime.Plane er em = by (gate_at j).abandoned refl
    where
      row_by : (a : Option ModeRefusal) → (gate_at j).abandoned ≡ a → Row (resume_unless a (reporting begun (gate_at j).abandoned) found.ended)
      row_by a ea = row mode.ToCopter regime.Plane em er ∙ ap (λ (a : Option ModeRefusal). resume_unless a (reporting begun (gate_at j).abandoned) found.ended) ea

      by : (a : Option ModeRefusal) → (gate_at j).abandoned ≡ a → Edge j k c
      by None ea = let l = leaves _ (row_by None ea) in resumes_plane (record { no_prime = tt; from = em; to = l.to; free = ea; gate = l.gate })
      by (Some why) ea = ending (gate_at j).abandoned (row_by (Some why) ea) em

  by_row : (at : FlightMode) → mode_at j ≡ at → Edge j k c
  by_row mode.Copter em = from_copter i.requested refl em
  by_row mode.ToPlane em = from_to_plane i.requested refl em
  by_row mode.Plane em = from_plane i.requested refl em
  by_row mode.ToCopter em = from_to_copter i.requested refl em

-- ---- the state and the ramp as they were
unmoved : (j : Joined) (c : Call) (k : Joined) → T (not (is_accepted_step j c && transitioning (mode_at j))) → T (not (is_prime j c)) → state_in k.machine ≡ state_in j.machine
    → ramp_at k ≡ ramp_at j → Edge j k c
unmoved j c k n p e r =
    stays (record {
      idle = n;
      no_prime = p;
      to = ap (λ (s : TransitionState). s.mode) e;
      gate = ap (λ (s : TransitionState). s.gate) e;
      clock = ap (λ (s : TransitionState). s.elapsed_s) e;
      ramp = r;
    })

-- ---- a cut
pub record AfterCut (m : Machine) (why : ModeRefusal) : Type 0 where
  pub state : state_in (cut_machine_of m why).machine ≡ (cut_of (state_in m) why).state
  pub ramp : ramp_start_in (cut_machine_of m why).machine ≡ ramp_start_in m
  pub airframe : airframe_of (cut_machine_of m why).machine ≡ airframe_of m

pub after_cut_lem : (m : Machine) (why : ModeRefusal) → AfterCut m why
after_cut_lem (machine.Tailsitter m) why = record { state = refl; ramp = refl; airframe = refl }
after_cut_lem (machine.Quadplane m) why = record { state = refl; ramp = refl; airframe = refl }

by_cut : (j : Joined) (c : Call) (k : Joined) (why : ModeRefusal) → T (not (is_prime j c)) → k.machine ≡ (cut_machine_of j.machine why).machine
    → (at : FlightMode) → mode_at j ≡ at → Edge j k c
by_cut j c k why p to at em = go at em (ap state_in to ∙ (after_cut_lem j.machine why).state ∙ ap (λ (m : FlightMode). (cut_in m (state_in j.machine) why).state) em)
  where
    idle : state_in k.machine ≡ state_in j.machine → transitioning (mode_at j) ≡ false → Edge j k c
    idle e n = unmoved j c k (not_and_right (is_accepted_step j c) (transitioning (mode_at j)) n) p e (ap ramp_start_in to ∙ (after_cut_lem j.machine why).ramp)

    go : (at : FlightMode) → mode_at j ≡ at → state_in k.machine ≡ (cut_in at (state_in j.machine) why).state → Edge j k c
    go mode.Copter em e = idle e (ap transitioning em)
    go mode.Plane em e = idle e (ap transitioning em)
    go mode.ToPlane em e =
        abandons_to_plane (record { why = why; no_prime = p; from = em; to = ap (λ (s : TransitionState). s.mode) e ∙ ap abandoned_mode em; gate = ap (λ (s : TransitionState). s.gate) e })
    go mode.ToCopter em e = ends_in_copter (record { no_prime = p; to = ap (λ (s : TransitionState). s.mode) e; gate = ap (λ (s : TransitionState). s.gate) e })

-- ---- every call moves by an edge, and the airframe stays
by_effect : (j : Joined) (c : Call) (k : Joined) → Effect j c k → Edge j k c
by_effect j c k (refuses n p e) =
    unmoved j c k (not_and_left (is_accepted_step j c) (transitioning (mode_at j)) n) p (ap (λ (x : Joined). state_in x.machine) e) (ap ramp_at e)
by_effect j c k (sets n p s r a) = unmoved j c k (not_and_left (is_accepted_step j c) (transitioning (mode_at j)) n) p s r
by_effect j c k (primes z e s a) =
    subst (λ (x : Call). Edge j k x) (sym e) (primed (record { to = ap (λ (x : TransitionState). x.mode) s; gate = ap (λ (x : TransitionState). x.gate) s }))
by_effect j c k (cuts why by p to) = by_cut j c k why p to (mode_at j) refl
by_effect j c k (moves i e taken p to) = subst (λ (x : Call). Edge j k x) (sym e) (by_row j i k taken to (mode_at j) refl)

pub edge : (j : Joined) (c : Call) → Edge j (call_of j c).state c
edge j c = by_effect j c (call_of j c).state (effect j c)

same_airframe : (j : Joined) (c : Call) (k : Joined) → Effect j c k → airframe_of k.machine ≡ airframe_of j.machine
same_airframe j c k (refuses n p e) = ap (λ (x : Joined). airframe_of x.machine) e
same_airframe j c k (sets n p s r a) = a
same_airframe j c k (primes z e s a) = a
same_airframe j c k (cuts why by p to) = ap airframe_of to ∙ (after_cut_lem j.machine why).airframe
same_airframe j c k (moves i e taken p to) = ap airframe_of to ∙ (after_row j.machine i).airframe

pub airframe_kept : (j : Joined) (c : Call) → airframe_of (call_of j c).state.machine ≡ airframe_of j.machine
airframe_kept j c = same_airframe j c (call_of j c).state (effect j c)
