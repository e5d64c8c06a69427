-- The premises are met, and not by empty lists: a program whose Initialize is called for a component, and calls a procedure with it.

use Rattle.std.specs.Prelude.{◌≡◌, ℕ, ℤ, List, [], ◌∷◌, ◌++◌, Some}
use Rattle.std.specs.List.{slice_get}
use Rattle.ada_program.specs.declared.program.Program.{Program}
use Rattle.ada_program.specs.Form.{RecordPathForm}
use Rattle.ada_program.specs.ProgramForm.{program_form, body_forms}
use Rattle.ada_program.specs.WellFormed.{IsWellFormed}
use Rattle.ada_parts.specs.Task.{Task}
use Rattle.ada_meaning.specs.declared.event.Birth.TheVariants.{Creation}
use Rattle.ada_meaning.specs.declared.state.Id.{Id}
use Rattle.ada_meaning.specs.declared.state.Mode.TheVariants.{Running}
use Rattle.ada_meaning.specs.declared.state.Place.{Place}
use Rattle.ada_meaning.specs.declared.state.Value.{Value}
use Rattle.ada_meaning.specs.declared.state.Value.TheVariants.{Names, Part}
use Rattle.ada_meaning.specs.Frame.{Frame}
use Rattle.ada_meaning.specs.Frame as frame
use Rattle.ada_meaning.specs.State.{Activation}
use Rattle.ada_meaning.specs.Step.{places}
use Rattle.ada_meaning.specs.Named.{State}
use Rattle.ada_meaning.specs.Run.{Event, settled, Step, Run, first_state}
use Rattle.ada_meaning.specs.Calls.{WithinCall}
use Rattle.ada_formals.specs.Formals.{IsRecordFormal, FormalsStayIn}

-- A procedure runs that the body of an Initialize has called, which is awaited for a part of an object (7.6). Both have a formal parameter, which stands for
-- that part: it begins with a later component than the object.
pub record RunsInInitialize (s : State) : Type 0 where
  pub o : Id
  pub place : Place
  pub called : Activation Value
  pub initialize : Activation Value
  pub main : Activation Value
  pub front : List (Frame Value)
  pub of : ℕ
  pub tasks : List Task
  pub behind : List (Frame Value)
  pub activations : s.activations ≡ called ∷ initialize ∷ main ∷ []
  pub control : s.control ≡ front ++ frame.Returns [] [] ∷ frame.Awaits (Names o) Creation [] of place.part tasks ∷ behind
  pub component : place.component ≡ 1
  pub given : slice_get called.places 0 ≡ Some (Part o place)
  pub waits : slice_get initialize.places 0 ≡ Some (Part o place)

-- A run of a well-formed program comes to the body of an Initialize, whose first variable is a formal parameter that is a record; and before that has ended, to
-- a procedure that it calls.
abbrev pub PremisesAreMet : Type 0
PremisesAreMet =
    (program : Program) × IsWellFormed (program_form program) × (input : List ℤ) × (events : List Event) × (first : State)
    × Run program (first_state program input) events first
    × (running : Activation Value) × (main : Activation Value) × (first.activations ≡ running ∷ main ∷ [])
    × IsRecordFormal (body_forms program) running.procedure 0
    × (last : State) × ((within : List Event) × WithinCall program 1 first within last) × ((later : List Event) × Run program first later last)
    × RunsInInitialize last

-- In a state of a run of a well-formed program, a record is to be found that is given, and the path to it is a variable that refers to a record behind the
-- first component of its object; and two steps come then.
abbrev pub AParameterIsGivenOn : Type 0
AParameterIsGivenOn =
    (program : Program) × IsWellFormed (program_form program) × (input : List ℤ) × (events : List Event) × (s : State)
    × Run program (first_state program input) events s
    × (q : RecordPathForm) × (outer : List (Frame Value)) × (o : Id) × (base : Place)
    × (s.mode ≡ Running) × (s.control ≡ frame.Refers q ∷ outer) × (q.object.selectors ≡ []) × (slice_get (places s) q.object.root ≡ Some (Part o base))
    × (base.component ≡ 1)
    × (mid : State) × (after : State) × ((one : Event) × Step program s settled one mid) × ((two : Event) × Step program mid settled two after)

-- That the program is well formed is needed: the body of a procedure declares its formal parameter once more, as a record object.
abbrev pub WellFormednessIsNeeded : Type 0
WellFormednessIsNeeded = (program : Program) × (FormalsStayIn program → ⊥)
