-- The numbers of a card are binary32 values, whatever its bytes. Assumes nothing.
use Rattle.std.specs.Prelude.{if◌then◌else◌, Option, Some, None}
use mathlib.Core.Bool.{Bool, true, false}
use mathlib.Core.List.{List, [], ◌∷◌}
use Prim.Native.Nat.{ℕ, ◌+◌, ◌*◌}
use lib.Dec.{eqb, leb}
use lib.Ieee.{Float, binary32}
use lib.Ieee.Bits.{of_bits-fits}
use Rattle.numbers.specs.Numbers.{IsBinary32}
use Rattle.joined.specs.declared.call.Call.{Call}
use Rattle.joined.specs.Calls.{settings_by, airspeed_of, vehicle_by, step_input_by}
use Rattle.joined.specs.Binary32.{Binary32Settings, Binary32Airspeed, Binary32Step, Binary32Call, Binary32Calls}
use Rattle.card.specs.Bytes.{u32_at}
use Rattle.card.specs.Format.{kind_at, option_at, number_at, settings_at, step_input_at, cut_for, record_at}
use Rattle.card.specs.Transcript.{with_call, calls_of}

number : (card : List ℕ) (i k : ℕ) → IsBinary32 (number_at card i k)
number card i k = of_bits-fits binary32 (u32_at card (80 * i + 4 * k))

pub settings_binary32 : (card : List ℕ) (i : ℕ) → Binary32Settings (settings_at card i)
unfolding settings_by
settings_binary32 card i = let n = number card i in (n 1, n 2, n 3, n 4, n 5, n 6, n 7, n 8, n 9, n 10, n 11, n 12, n 13, n 14, n 15, n 16, n 17)

speed : (option : ℕ) (x : Float) → IsBinary32 x → Binary32Airspeed (airspeed_of option x)
speed option x p = go (leb 2 option)
  where
    go : (b : Bool) → Binary32Airspeed (if b then Some x else None)
    go true = p
    go false = tt

step : (card : List ℕ) (i : ℕ) → Binary32Step (step_input_at card i)
unfolding step_input_by vehicle_by
step card i = let n = number card i in (n 1, (n 2, (n 3, n 4, n 5), (n 6, n 7), (n 8, n 9, n 10, n 11), speed (option_at card i) (number_at card i 12) (n 12)), n 13, n 14, n 15)

-- ---- a record, and the records passed
abbrev ByRecord : Option Call → Type 0
ByRecord (Some c) = Binary32Call c
ByRecord None = Unit {0}

record Binary32Record (r : Option Call) : Type 0 where
  numbers : ByRecord r

known : {c : Call} → Binary32Call c → Binary32Record (Some c)
known p = record { numbers = p }

unknown : Binary32Record None
unknown = record { numbers = tt }

either : (b : Bool) {x y : Option Call} → Binary32Record x → Binary32Record y → Binary32Record (if b then x else y)
either true p q = p
either false p q = q

cut : (option : ℕ) → Binary32Record (cut_for option)
cut option =
    either (eqb option 11) (known tt)
    (either (eqb option 12) (known tt)
    (either (eqb option 13) (known tt)
    (either (eqb option 14) (known tt)
    (either (eqb option 15) (known tt)
    (either (eqb option 16) (known tt)
    unknown)))))

at_record : (card : List ℕ) (i : ℕ) → Binary32Record (record_at card i)
unfolding record_at
at_record card i =
    either (eqb (kind_at card i) 1) (either (eqb (option_at card i) 0) (known (number card i 2)) unknown)
    (either (eqb (kind_at card i) 2) (either (leb (option_at card i) 3) (known (step card i)) unknown)
    (either (eqb (kind_at card i) 3) (cut (option_at card i))
    (either (eqb (kind_at card i) 4) (either (eqb (option_at card i) 0) (known (settings_binary32 card i)) unknown)
    unknown)))

with_call_lem : (r : Option Call) (cs : List Call) → ByRecord r → Binary32Calls cs → Binary32Calls (with_call r cs)
with_call_lem (Some c) cs p q = (p, q)
with_call_lem None cs p q = q

pub calls_binary32 : (card passed : List ℕ) → Binary32Calls (calls_of card passed)
calls_binary32 card [] = tt
calls_binary32 card (i ∷ passed) = with_call_lem (record_at card i) (calls_of card passed) (at_record card i).numbers (calls_binary32 card passed)
