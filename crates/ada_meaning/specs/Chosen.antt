-- Runs in which somebody answers what the steps leave open, whoever it is: a relation between their states says how they may answer.

use Rattle.std.specs.Prelude.{◌≡◌, ℕ, ◌+◌, Bool, true, false, List, [], ◌∷◌, ◌++◌}
use Rattle.ada_program.specs.declared.program.Program.{Program}
use Rattle.ada_program.specs.ProgramForm.{body_forms}
use Rattle.ada_meaning.specs.State.{begins}
use Rattle.ada_meaning.specs.Named.{State, Next, next}
use Rattle.ada_meaning.specs.Run.{Choice, Event, Step}

-- How many statements have begun once a step was made: a compound one counts once, as it begins (5.1).
abbrev pub begun_with : Bool → ℕ → ℕ
begun_with true n = n + 1
begun_with false n = n

-- Steps one after another with their events, and how many statements have begun. At each step whoever answers is in a state, may answer what
-- comes next by this choice, and is left in another state.
pub data ChosenRun {C : Type 0} (answers : C → Next → Choice → C → Type 0) (program : Program) (someone : C) (first : State) : (statements : ℕ) → List Event → C → State → Type 0 where
  begun : ChosenRun answers program someone first 0 [] someone first
  goes_on : {statements : ℕ} {events : List Event} {after : C} {last : State} (before_it : ℕ) (event : Event) (mid : State) (before : C) (choice : Choice) (so_far : List Event) → ChosenRun answers program someone first before_it so_far before mid → answers before (next program.types.items (body_forms program) mid) choice after → Step program mid choice event last → events ≡ so_far ++ event ∷ [] → statements ≡ begun_with (begins mid) before_it → ChosenRun answers program someone first statements events after last
