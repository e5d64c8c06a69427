-- Runs: lists of steps from the first state, with the answers to what they leave open.

use Rattle.std.specs.Prelude.{◌≡◌, ℕ, ℤ, Bool, ◌<◌, List, [], ◌∷◌, ◌++◌, map, None}
use Rattle.ada_program.specs.declared.program.Program.{Program}
use Rattle.ada_program.specs.Form.{declaration_forms, stmt_forms, handler_forms}
use Rattle.ada_program.specs.ProgramForm.{variable_form, body_forms}
use Rattle.ada_meaning.specs.declared.state.Value.{Value}
use Rattle.ada_meaning.specs.declared.state.Mode.TheVariants.{Running}
use Rattle.ada_meaning.specs.declared.event.Halt.{Halt}
use Rattle.ada_meaning.specs.Event.{Event as EventOver, Quiet}
use Rattle.ada_meaning.specs.Frame as frame
use Rattle.ada_meaning.specs.Step.{halts, moves, tells, asks, picks, blanks}
use Rattle.ada_meaning.specs.Named.{State, Next, named, next}

-- An event over names.
abbrev pub Event : Type 0
Event = EventOver Value

-- The answer to what a step leaves open: nothing, a request granted or refused, one of the members.
pub data Choice : Type 0 where
  settled : Choice
  grants : Bool → Choice
  takes : ℕ → Choice

-- From what comes next, a choice leads to an event and a state.
abbrev pub Leads : Next → Choice → Event → State → Type 0
Leads (halts halt) choice event after = ⊥
Leads (moves e s) settled event after = (event ≡ e) × (after ≡ s)
Leads (moves e s) (grants granted) event after = ⊥
Leads (moves e s) (takes i) event after = ⊥
Leads (tells request e s) settled event after = (event ≡ e) × (after ≡ s)
Leads (tells request e s) (grants granted) event after = ⊥
Leads (tells request e s) (takes i) event after = ⊥
Leads (asks request answered) settled event after = ⊥
Leads (asks request answered) (grants granted) event after = (event ≡ Quiet) × (after ≡ answered granted)
Leads (asks request answered) (takes i) event after = ⊥
Leads (picks n taken) settled event after = ⊥
Leads (picks n taken) (grants granted) event after = ⊥
Leads (picks n taken) (takes i) event after = (i < n) × (event ≡ Quiet) × (after ≡ taken i)

-- One step of a program, from a state, by a choice, with an event, to a state.
abbrev pub Step : Program → State → Choice → Event → State → Type 0
Step program before choice event after = Leads (next program.types.items (body_forms program) before) choice event after

-- The first state (10.2): the main procedure is entered, and all of it is left to do.
abbrev pub first_state : Program → List ℤ → State
first_state program input = record {
  activations = record { procedure = None; places = blanks named (map variable_form program.variables.items); operands = [] } ∷ [];
  masters = record { number = 0; items = [] } ∷ [];
  control = frame.Elaborates (declaration_forms program) (stmt_forms program) (handler_forms program) ∷ [];
  mode = Running;
  input = input;
  next = 1;
  allocated = 0;
  born = 0;
  heap = [];
}

-- Steps one after another, with their events.
pub data Run (program : Program) : State → List Event → State → Type 0 where
  here : {s : State} → Run program s [] s
  there : {s last : State} {event : Event} {events : List Event} (choice : Choice) (mid : State) → Step program s choice event mid → Run program mid events last → Run program s (event ∷ events) last

-- A state that has no step, and how the run ends there.
abbrev pub Halts : Program → State → Halt → Type 0
Halts program s halt = next program.types.items (body_forms program) s ≡ halts halt

-- A run with one step more.
pub run_more : {program : Program} {s mid : State} {events : List Event} (event : Event) (choice : Choice) (last : State) → Run program s events mid → Step program mid choice event last → Run program s (events ++ event ∷ []) last
run_more event choice last here step = there choice last step here
run_more event choice last (there first next taken rest) step = there first next taken (run_more event choice last rest step)
