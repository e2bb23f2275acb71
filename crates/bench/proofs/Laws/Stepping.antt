-- The turns of the loop over the steps: what holds before each, and that it holds again after it; and that the chunks of 15 have the numbers of the steps. Assumes nothing.
use Rattle.std.proofs.Common.{◌≡◌, ℕ, zero, suc, ◌+◌, ◌*◌, ◌%◌, ◌^◌, ◌<◌, ◌≤◌, List, [], length, get_or, drop, refl, add-one, arith}
use Rattle.std.proofs.lemmas.List.{get_or-take, get_or-drop}
use Rattle.std.specs.Simd.{first_chunks}
use mathlib.Core.Path.{ap, ◌∙◌}
use native.Mathlib.Nat.{mod-add-mod}
use lib.Dec.{lit<}
use lib.Ieee.{Float, nan}
use Rattle.joined.specs.declared.joined.Joined.{Joined}
use Rattle.joined.specs.Calls.{step_input_by, vehicle_by}
use Rattle.joined.specs.Joined.{JoinedUpdate, step_of}
use Rattle.joined.specs.Shown.{shown_of}
use Rattle.joined.specs.List.{after}
use Rattle.bench.specs.Steps.{number_at, steps_to, shown_sum, steps_sum}

-- ---- number j of chunk i stands at index 15 * i + j
number_in : (k i j : ℕ) (xs : List Float) → i < k → j < 15 → get_or (get_or (first_chunks 15 k xs) i []) j nan ≡ get_or xs (15 * i + j) nan
number_in zero i j xs h l = absurd (let z : ⊥ = omega arith in z)
number_in (suc k) zero j xs h l = get_or-take 15 xs j nan l ∙ ap (λ (n : ℕ). get_or xs n nan) (let e : j ≡ 15 * 0 + j = omega arith in e)
number_in (suc k) (suc i) j xs h l =
    number_in k i j (drop 15 xs) (omega arith) l ∙ get_or-drop 15 xs (15 * i + j) nan ∙ ap (λ (n : ℕ). get_or xs n nan) (let e : 15 + (15 * i + j) ≡ 15 * suc i + j = omega arith in e)

-- so what step i is told is read from chunk i
pub told : {option k i : ℕ} (options : List ℕ) (numbers : List Float) {chunk : List Float} {chunks : List (List Float)} → chunks ≡ first_chunks 15 k numbers → i < k → option ≡ get_or options i 0 → chunk ≡ get_or chunks i []
    → step_input_by option (number_at chunk 0) ≡ step_input_by (get_or options i 0) (number_at numbers (15 * i))
unfolding step_input_by vehicle_by
told {option} {k} {i} options numbers {chunk} {chunks} e h o p =
    let n : (j : ℕ) → j < 15 → get_or (get_or (first_chunks 15 k numbers) i []) j nan ≡ get_or numbers (15 * i + j) nan = λ j l. number_in k i j numbers h l in
    rw (
      p,
      e,
      o,
      n 0 (lit< tt),
      n 1 (lit< tt),
      n 2 (lit< tt),
      n 3 (lit< tt),
      n 4 (lit< tt),
      n 5 (lit< tt),
      n 6 (lit< tt),
      n 7 (lit< tt),
      n 8 (lit< tt),
      n 9 (lit< tt),
      n 10 (lit< tt),
      n 11 (lit< tt),
      n 12 (lit< tt),
      n 13 (lit< tt),
      n 14 (lit< tt),
    ) refl

-- before step i, from `start` on: the state is the one after i steps, and the sum that of their answers
pub record Stepping (numbers : List Float) (options : List ℕ) (start j : Joined) (sum i : ℕ) : Type 0 where
  pub enough : 15 * length options ≤ length numbers
  pub within : i ≤ length options
  pub state : j ≡ after start (steps_to numbers options i)
  pub summed : sum ≡ steps_sum start numbers options i

pub begin : (numbers : List Float) (options : List ℕ) (start : Joined) → 15 * length options ≤ length numbers → Stepping numbers options start start 0 0
begin numbers options start enough = record { enough = enough; within = omega arith; state = refl; summed = refl }

module _ {numbers : List Float} {options : List ℕ} {start j : Joined} {sum i : ℕ} (g : Stepping numbers options start j sum i) where
  pub next : i < length options → {u : JoinedUpdate} {sum' : ℕ} → u ≡ step_of j (step_input_by (get_or options i 0) (number_at numbers (15 * i))) → sum' ≡ (sum + shown_sum (shown_of u.answer)) % 2 ^ 32
      → {n : ℕ} → n ≡ i + 1 → Stepping numbers options start u.state sum' n
  next h e s t =
      record {
        enough = g.enough;
        within = omega arith;
        state = simp (t, add-one, e, g.state);
        summed = simp (t, add-one, s, e, g.state, g.summed, mod-add-mod);
      }

  pub done : length options ≤ i → sum ≡ steps_sum start numbers options (length options)
  done h = let e : i ≡ length options = omega arith in rw e at g.summed
