-- The record objects that a body declares (3.3.1): that of an operation of a controlled type (7.6), or of a procedure, in every run of a well-formed program, whatever
-- its input and whatever is granted and picked. They are created while the body runs, so no operation that waits for it, or behind it, is one of theirs.

use Rattle.std.specs.Prelude.{◌≡◌, ℕ, ◌≤◌, ℤ, List, [], ◌∷◌, length, Option, Some, None}
use Rattle.std.specs.List.{slice_get}
use Rattle.ada_program.specs.declared.program.Program.{Program}
use Rattle.ada_program.specs.declared.program.TypeNo.{TypeNo}
use Rattle.ada_program.specs.declared.program.VariableKind.TheVariants as variable
use Rattle.ada_program.specs.ProgramForm.{BodyForm, program_form, body_forms}
use Rattle.ada_program.specs.WellFormed.{IsWellFormed, variable_kind}
use Rattle.ada_meaning.specs.declared.state.Value.{Value}
use Rattle.ada_meaning.specs.declared.state.Value.TheVariants.{Null, Names, Scalar, Part}
use Rattle.ada_meaning.specs.Frame.{Frame}
use Rattle.ada_meaning.specs.Frame as frame
use Rattle.ada_meaning.specs.State.{Activation}
use Rattle.ada_meaning.specs.Step.{older, places_of, procedure_of}
use Rattle.ada_meaning.specs.Run.{Event, Run, first_state}
use Rattle.ada_meaning.specs.Named.{State}
use Rattle.ada_finalized.specs.Law.{NoOperationRunsOn}

-- A variable of a body, if there is one, is a record (3.3.1, 6.2).
abbrev pub IsRecordOf : Option BodyForm → (variable : ℕ) → Type 0
IsRecordOf None x = ⊥
IsRecordOf (Some b) x = (object : TypeNo) × (variable_kind b.variables x ≡ Some (variable.Record object))

-- A variable of the body of this procedure is. The main body runs no operation.
abbrev pub IsRecordVariable : List BodyForm → (procedure : Option ℕ) → (variable : ℕ) → Type 0
IsRecordVariable bodies None x = ⊥
IsRecordVariable bodies (Some procedure) x = IsRecordOf (slice_get bodies procedure) x

-- What is left to do waits for no operation of the object that a value names, or in which the record lies that it refers to.
abbrev pub StandsApart : Value → List (Frame Value) → Type 0
StandsApart Null k = Unit {0}
StandsApart (Names o) k = NoOperationRunsOn (Names o) k
StandsApart (Scalar v) k = Unit {0}
StandsApart (Part o place) k = NoOperationRunsOn (Names o) k

-- It is the body of a procedure of the program.
abbrev pub HasBody : List BodyForm → (procedure : Option ℕ) → Type 0
HasBody bodies None = ⊥
HasBody bodies (Some procedure) = (b : BodyForm) × (slice_get bodies procedure ≡ Some b)

-- So it is with what each record variable of this body of a procedure holds, but for its first ones, which are so many formal parameters (6.1).
abbrev pub DeclaresApart : List BodyForm → (formals : ℕ) → (procedure : Option ℕ) → (places : List Value) → (behind : List (Frame Value)) → Type 0
DeclaresApart bodies formals procedure places k =
    HasBody bodies procedure × ((x : ℕ) (v : Value) → formals ≤ x → IsRecordVariable bodies procedure x → slice_get places x ≡ Some v → StandsApart v k)

-- How many formal parameters a body has, by what is behind it: as many as a call gives actual ones (6.4.1); and an operation has one, for the record that it is
-- called for (7.6).
abbrev pub formals_given : (given : ℕ) → (behind : List (Frame Value)) → ℕ
formals_given given (frame.Awaits v by done of part tasks ∷ k) = 1
formals_given given (frame.Confines ∷ k) = 1
formals_given given k = given

-- So it is with each activation, the running one first: the frame that ends its body is the first one of its kind in what is left to do, and behind that comes
-- what is left of the caller (6.5).
abbrev pub OperationsDeclare : List BodyForm → List (Frame Value) → List (Activation Value) → Type 0
OperationsDeclare bodies [] activations = Unit {0}
OperationsDeclare bodies (frame.Returns actuals references ∷ k) activations =
    DeclaresApart bodies (formals_given (length actuals) k) (procedure_of activations) (places_of activations) k × OperationsDeclare bodies k (older activations)
OperationsDeclare bodies (f ∷ k) activations = OperationsDeclare bodies k activations

-- In each state of each run of a well-formed program.
abbrev pub DeclaredObjectsStandApart : Type 0
DeclaredObjectsStandApart =
    (program : Program) → IsWellFormed (program_form program) → (input : List ℤ) (events : List Event) (last : State)
    → Run program (first_state program input) events last → OperationsDeclare (body_forms program) last.control last.activations
