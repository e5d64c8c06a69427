-- What a safe program is: what is said of its runs.

use Rattle.std.specs.Prelude.{◌≡◌, ℤ, List, [], All}
use Rattle.ada_program.specs.declared.program.Exception.{Exception}
use Rattle.ada_program.specs.declared.program.Program.{Program}
use Rattle.ada_program.specs.Controlled.{shapes_of}
use Rattle.ada_meaning.specs.declared.event.Halt.{Halt}
use Rattle.ada_meaning.specs.declared.event.Halt.TheVariants.{Erroneous, Escaped, Stuck}
use Rattle.ada_meaning.specs.declared.event.Why.{Why}
use Rattle.ada_meaning.specs.Named.{State}
use Rattle.ada_meaning.specs.Run.{Event, Choice, Step, Run, Halts, first_state}
use Rattle.ada_meaning.specs.Law.{Law, IsBack, HasEnded, LeavesInnermost}
use Rattle.ada_meaning.specs.Finalization.{FinalizationLaw, PartsStand}

-- Every run, whatever its input and whatever is granted and picked, is not at an erroneous action, nor at one without a meaning, and no exception leaves an
-- Adjust or a Finalize; it keeps the laws of storage and of finalization; while nothing is treated, each object that is in its collection has the values of all
-- its controlled parts; masters are left inner first; where the run has come to its end, each master has been left, and the words of each object are back.
pub record Safe (program : Program) : Type 0 where
  pub never_erroneous : (input : List ℤ) (events : List Event) (last : State) (why : Why) → Run program (first_state program input) events last → Halts program last (Erroneous why) → ⊥
  pub never_stuck : (input : List ℤ) (events : List Event) (last : State) → Run program (first_state program input) events last → Halts program last Stuck → ⊥
  pub nothing_escapes : (input : List ℤ) (events : List Event) (last : State) (e : Exception) → Run program (first_state program input) events last → Halts program last (Escaped e) → ⊥
  pub keeps : (input : List ℤ) (events : List Event) (last : State) → Run program (first_state program input) events last → Law events last
  pub finalizes : (input : List ℤ) (events : List Event) (last : State) → Run program (first_state program input) events last → FinalizationLaw (shapes_of program.types.items) events
  pub stands : (input : List ℤ) (events : List Event) (last : State) → Run program (first_state program input) events last → PartsStand program.types.items last
  pub ends : (input : List ℤ) (events : List Event) (last : State) (halt : Halt) → Run program (first_state program input) events last → Halts program last halt → HasEnded halt → (last.masters ≡ []) × All IsBack last.heap
  pub inner_first : (input : List ℤ) (events : List Event) (before : State) (choice : Choice) (event : Event) (after : State) → Run program (first_state program input) events before → Step program before choice event after → LeavesInnermost event before.masters
