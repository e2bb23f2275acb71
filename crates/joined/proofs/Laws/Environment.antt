-- There is an environment that has the code of the functions of `Joined` and of all that they call, so that what is claimed of each such environment is claimed of something.
-- It is the library's `tie` of the tables of the three crates (`Linked`): a call of a name runs the code that stands at the name, and a name with no code is stuck. Assumes nothing.
use mathlib.Core.Path.{refl}
use mathlib.Core.List.{[], ◌∷◌}
use lib.Chars.{codes}
use mir.Syntax.{Symbol}
use prog.Routine.{Env}
use prog.Wired.{Code, Wired}
use prog.Linked.{Entry, World, in_world, tie, tie-Follows, Has-Wired}
use prog.LinkedThreads.{HasT, no_threads}
use mathlib.Core.Bool.{false}
use Rattle.numbers.proofs.Laws.Linked as numbers-has
use Rattle.machines.proofs.Laws.Linked as machines-has
use Rattle.joined.proofs.Laws.Linked as joined-has
use Rattle.joined.proofs.Laws.Runs.{HasCode}

abbrev world : World
world = (codes "numbers", numbers-has.table) ∷ (codes "machines", machines-has.table) ∷ (codes "joined", joined-has.table) ∷ []

abbrev look : Symbol → Entry
look = in_world world

wired : (c : Code) → HasT look false c → Wired (tie look) c
wired c h = Has-Wired look (tie look) (tie-Follows look) c (no_threads look c h)

pub linked : Env
linked = tie look

pub linked_has : HasCode linked
unfolding linked
linked_has =
    record {
      new = wired _ (joined-has.has_joined_Joined_new world refl refl refl);
      call = wired _ (joined-has.has_joined_Joined_call world refl refl refl);
      prime = wired _ (joined-has.has_joined_Joined_prime world refl refl refl);
      step = wired _ (joined-has.has_joined_Joined_step world refl refl refl);
      cut = wired _ (joined-has.has_joined_Joined_cut world refl refl refl);
      set = wired _ (joined-has.has_joined_Joined_set world refl refl refl);
      enter = wired _ (joined-has.has_joined_Joined_enter world refl refl refl);
    }
