-- The steps of a list, in the numbers of document 01, section 7, and the sum of their answers, which is for bench/ and no part of document 01. Definitions only. Assumes nothing.
-- The numbers of step i stand from index 15 * i on, its option at index i. Past the end there are NaNs and zeros; no step reaches there.
use Rattle.std.specs.Prelude.{ℕ, zero, suc, ◌+◌, ◌-◌, ◌*◌, ◌%◌, ◌^◌, ◌&&◌, List, [], ◌∷◌, length, ◌==◌, nat_le, slice_index, slice_index_or, Float, Result, Ok, Err, if◌then◌else◌}
use Rattle.std.proofs.Math.Option.{Option, some, none}
use Rattle.std.specs.Float.{nan}
use Rattle.numbers.specs.Numbers.{zero32}
use Rattle.joined.specs.declared.call.Call.{Call}
use Rattle.joined.specs.declared.call.Call.TheVariants as call
use Rattle.joined.specs.declared.machine.Airframe.{Airframe}
use Rattle.joined.specs.declared.machine.Airframe.TheVariants as airframe
use Rattle.joined.specs.declared.joined.Joined.{Joined}
use Rattle.joined.specs.Calls.{settings_by, step_input_by}
use Rattle.joined.specs.Joined.{new_of}
use Rattle.machines.specs.declared.InputRefusal.{InputRefusal}
use Rattle.joined.specs.Shown.{Answer, Shown, refused, line, shown_of}
use Rattle.joined.specs.List.{after, answers_of}

-- number k, from 1, of those that stand from index `at` on
abbrev pub number_at : List Float → ℕ → ℕ → Float
number_at numbers at k = slice_index_or numbers (at + (k - 1)) nan

-- the calls of the first n steps, the last one first
abbrev pub steps_to : List Float → List ℕ → ℕ → List Call
steps_to numbers options zero = []
steps_to numbers options (suc n) = call.Step (step_input_by (slice_index options n) (number_at numbers (15 * n))) ∷ steps_to numbers options n

-- ---- the sum of an answer's numbers; no share or tilt counts as 0
abbrev pub output_sum : Option ℕ → ℕ
output_sum (some bits) = bits
output_sum none = 0

abbrev pub shown_sum : Shown → ℕ
shown_sum (refused n field) = n + field
shown_sum (line letter output handoff report thrust pitch) = letter + output_sum output + handoff + report + thrust + pitch

abbrev pub answers_sum : List Answer → ℕ
answers_sum [] = 0
answers_sum (a ∷ answers) = answers_sum answers + shown_sum (shown_of a)

-- of the answers to the first n steps from j on, modulo 2^32
abbrev pub steps_sum : Joined → List Float → List ℕ → ℕ → ℕ
steps_sum j numbers options n = answers_sum (answers_of j (steps_to numbers options n)) % 2 ^ 32

-- ---- "kind 5 tailsitter"; any other is the quadplane here
abbrev pub airframe_for : ℕ → Airframe
airframe_for kind = if kind == 5 then airframe.Tailsitter else airframe.Quadplane

-- ---- the sum of the answers to the steps of a list that begins with a prime at z 0, whose own answer is left out; 0 if the settings are refused
abbrev pub list_sum : Result Joined InputRefusal → List Float → List ℕ → ℕ
list_sum (Ok j) numbers options = steps_sum (after j (call.Prime zero32 ∷ [])) numbers options (length options)
list_sum (Err why) numbers options = 0

-- and 0 if there are more than 800 steps, or fewer than 15 numbers for each
abbrev pub bench_of : ℕ → List Float → List Float → List ℕ → ℕ
bench_of kind settings numbers options =
    if nat_le (length options) 800 && nat_le (15 * length options) (length numbers) then list_sum (new_of (airframe_for kind) (settings_by (number_at settings 0))) numbers options else 0
