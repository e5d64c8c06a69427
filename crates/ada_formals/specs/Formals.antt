-- What formal parameters that are records stand for (6.2, 6.4.1), and those of operations of controlled types (7.6), in every run of a well-formed program,
-- whatever its input and whatever is granted and picked.

use Rattle.std.specs.Prelude.{◌≡◌, ℕ, ℤ, List, [], ◌∷◌, ◌++◌, length, Option, Some, None}
use Rattle.std.specs.List.{slice_get}
use Rattle.ada_program.specs.declared.program.Program.{Program}
use Rattle.ada_program.specs.declared.program.TypeDefinition.{TypeDefinition}
use Rattle.ada_program.specs.declared.program.TypeNo.{TypeNo}
use Rattle.ada_program.specs.declared.program.VariableKind.TheVariants as variable
use Rattle.ada_program.specs.Controlled.{shapes_of, operations_of, procedure_number}
use Rattle.ada_program.specs.ProgramForm.{BodyForm, program_form, body_forms}
use Rattle.ada_program.specs.WellFormed.{IsWellFormed, formal_kinds}
use Rattle.ada_parts.specs.Task.{Task}
use Rattle.ada_parts.specs.Law.{parts_left, Among}
use Rattle.ada_meaning.specs.declared.event.Birth.{Birth}
use Rattle.ada_meaning.specs.declared.state.Id.{Id}
use Rattle.ada_meaning.specs.declared.state.Value.{Value}
use Rattle.ada_meaning.specs.declared.state.Value.TheVariants.{Null, Names, Part}
use Rattle.ada_meaning.specs.Frame.{Frame}
use Rattle.ada_meaning.specs.Frame as frame
use Rattle.ada_meaning.specs.State.{Activation}
use Rattle.ada_meaning.specs.Step.{older, places_of, procedure_of, beginning}
use Rattle.ada_meaning.specs.Heap.{PartState}
use Rattle.ada_meaning.specs.Named.{Object, State, object_at}
use Rattle.ada_meaning.specs.Run.{Event, Run, first_state}
use Rattle.ada_meaning.specs.Calls.{WithinCall}

-- A variable of a body, if there is one, is a formal parameter that stands for a record (6.2).
abbrev pub IsRecordOf : Option BodyForm → (variable : ℕ) → Type 0
IsRecordOf None x = ⊥
IsRecordOf (Some b) x = (object : TypeNo) × (slice_get (formal_kinds b) x ≡ Some (variable.Record object))

-- A variable of the body of this procedure is such a formal parameter: the main body has none.
abbrev pub IsRecordFormal : List BodyForm → (procedure : Option ℕ) → (variable : ℕ) → Type 0
IsRecordFormal bodies None x = ⊥
IsRecordFormal bodies (Some procedure) x = IsRecordOf (slice_get bodies procedure) x

-- Two activations are of one procedure, and its formal parameters that are records hold in both what they hold in one: they stand for the same records.
pub record StandsForTheSame (bodies : List BodyForm) (before after : Activation Value) : Type 0 where
  pub procedure : after.procedure ≡ before.procedure
  pub held : (x : ℕ) → IsRecordFormal bodies before.procedure x → slice_get after.places x ≡ slice_get before.places x

-- In every run of the program, whatever its input and whatever is granted and picked, from a state in which a body runs to any later one before it has ended
-- (6.5): the activation of the body is there still, behind those that run inside of it, and its formal parameters stand for the same records as before.
abbrev pub FormalsStayIn : Program → Type 0
FormalsStayIn program =
    (input : List ℤ) (events : List Event) (first : State) → Run program (first_state program input) events first
    → (running : Activation Value) (callers : List (Activation Value)) → first.activations ≡ running ∷ callers
    → (later_events : List Event) (last : State) → WithinCall program (length callers) first later_events last
    → (inner : List (Activation Value)) × (later : Activation Value) × (last.activations ≡ inner ++ later ∷ callers)
    × StandsForTheSame (body_forms program) running later

-- So it is in each program that is well formed: its bodies create other variables, and write to no variable that is a record as a whole.
abbrev pub FormalsStay : Type 0
FormalsStay = (program : Program) → IsWellFormed (program_form program) → FormalsStayIn program

-- The controlled part of this number, of the object of a name, begins there with this component (7.6).
abbrev pub BeginsWith : List Object → Id → (part component : ℕ) → Type 0
BeginsWith heap o part c =
    (object : Object) × (state : PartState) × (object_at heap o ≡ Some object) × (slice_get object.cell.parts part ≡ Some state) × (state.first ≡ c)

-- The first variable of a body refers to a controlled part of the object that a value names, that of this number, where it begins (6.2, 7.6).
abbrev pub RefersToPart : List Object → Value → (part : ℕ) → (places : List Value) → Type 0
RefersToPart heap v part places =
    (o : Id) × (c : ℕ) × (v ≡ Names o) × (slice_get places 0 ≡ Some (Part o (record { component = c; part = part }))) × BeginsWith heap o part c

-- The object whose Finalize has ended where this comes next: the rest of its parts are finalized then, or it ceases to exist (7.6.1), or a record is copied
-- and stored in it (5.2).
abbrev pub finalized_before : List (Frame Value) → Value
finalized_before (frame.Treats v treatment tasks ∷ k) = v
finalized_before (frame.Ends v ∷ k) = v
finalized_before (frame.Copies first t ∷ k) = finalized_before k
finalized_before (frame.StoresRecord v to width ∷ k) = v
finalized_before k = Null

-- What is left of the finalization of that object (7.6.1): nothing, if it ceases to exist then, or a record is stored in it.
abbrev pub left_to_finalize : List (Frame Value) → List Task
left_to_finalize (frame.Treats v treatment tasks ∷ k) = tasks
left_to_finalize k = []

-- The body of this procedure, with these variables, is that of the operation of a type (7.6) by which a part of an object begins: its first variable, the
-- formal parameter, refers to that part.
abbrev pub RefersToBegun :
    List TypeDefinition → List Object → Value → Birth → (of part : ℕ) → (procedure : Option ℕ) → (places : List Value) → Type 0
RefersToBegun types heap v by of part procedure places = (beginning by (operations_of types of) ≡ procedure) × RefersToPart heap v part places

-- It is that of Finalize of some type (7.6.1): its first variable refers to a controlled part of the object that is finalized where this comes next; and the
-- parts that lie in that part are among those whose Finalize is left to be called.
abbrev pub RefersToFinalized : List TypeDefinition → List Object → (behind : List (Frame Value)) → (procedure : Option ℕ) → (places : List Value) → Type 0
RefersToFinalized types heap k procedure places =
    (of : ℕ) × (part : ℕ) × (procedure_number (operations_of types of).finalize ≡ procedure) × RefersToPart heap (finalized_before k) part places
    × Among (shapes_of types) (parts_left (shapes_of types) (left_to_finalize k)) (record { of = of; number = part })

-- Where what is behind a body waits for an operation, the body is that of the operation, and its formal parameter stands for the part that begins, or for a
-- part of the object that is finalized.
abbrev pub RefersToOperated : List TypeDefinition → List Object → (behind : List (Frame Value)) → (procedure : Option ℕ) → (places : List Value) → Type 0
RefersToOperated types heap (frame.Awaits v by done of part tasks ∷ k) procedure places = RefersToBegun types heap v by of part procedure places
RefersToOperated types heap (frame.Confines ∷ k) procedure places = RefersToFinalized types heap k procedure places
RefersToOperated types heap k procedure places = Unit {0}

-- So it is for each activation, the running one first: the frame that ends its body is the first one of its kind in what is left to do, and behind that comes
-- what is left of the caller (6.5).
abbrev pub OperationsRefer : List TypeDefinition → List Object → List (Frame Value) → List (Activation Value) → Type 0
OperationsRefer types heap [] activations = Unit {0}
OperationsRefer types heap (frame.Returns actuals references ∷ k) activations =
    RefersToOperated types heap k (procedure_of activations) (places_of activations) × OperationsRefer types heap k (older activations)
OperationsRefer types heap (f ∷ k) activations = OperationsRefer types heap k activations

-- In each state of each run of a well-formed program.
abbrev pub OperationsReferToTheirParts : Type 0
OperationsReferToTheirParts =
    (program : Program) → IsWellFormed (program_form program) → (input : List ℤ) (events : List Event) (last : State)
    → Run program (first_state program input) events last → OperationsRefer program.types.items last.heap last.control last.activations
