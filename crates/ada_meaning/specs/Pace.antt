-- Statements keep beginning where operations of controlled types are called, too (7.6): where what the declarations of their bodies create leads through other
-- operations only so deep, a number says how many of them are called at most before the next statement begins.

use Rattle.std.specs.Prelude.{◌≡◌, ℕ, zero, suc, false, ◌+◌, ◌*◌, ◌<◌, ◌≤◌, ◌==◌, if◌then◌else◌, List, [], ◌∷◌, length, Option, Some, None}
use Rattle.std.specs.List.{slice_get, sum_by}
use Rattle.ada_program.specs.declared.program.Operations.{Operations}
use Rattle.ada_program.specs.declared.program.ProcedureNo.{ProcedureNo}
use Rattle.ada_program.specs.declared.program.Program.{Program}
use Rattle.ada_program.specs.declared.program.TypeDefinition.{TypeDefinition}
use Rattle.ada_program.specs.Controlled.{number_of, number_reached, shapes_of, operations_of}
use Rattle.ada_program.specs.Form.{RightForm, nothing, value_of, allocates, allocates_default, computes, DeclarationForm, creates_pool, collects, declares, declares_record}
use Rattle.ada_program.specs.ProgramForm.{BodyForm, body_forms, program_form}
use Rattle.ada_program.specs.WellFormed.{IsWellFormed}
use Rattle.ada_parts.specs.Part.{Part}
use Rattle.ada_parts.specs.Shape.{Shape}
use Rattle.ada_parts.specs.Task.{Task, performs, treats}
use Rattle.ada_meaning.specs.declared.state.Value.{Value}
use Rattle.ada_meaning.specs.Ending.{declarations_weight, by_mode, behind_weight, calls_operation, weight, WithinStatement}
use Rattle.ada_meaning.specs.Frame.{Treatment, begins as starts, ends, Frame, is_loop, is_return}
use Rattle.ada_meaning.specs.Frame as frame
use Rattle.ada_meaning.specs.Named.{Object, State}
use Rattle.ada_meaning.specs.Run.{Event, Choice, Step, first_state}
use Rattle.ada_meaning.specs.State.{begins}

-- What a call of an operation costs is told by the number of its record type among those with controlled parts: how many operations are called at most before a
-- statement begins, itself included.
module _ (types : List TypeDefinition) (cost : (of : ℕ) → ℕ) where
  -- The own operation of a record, if it is controlled.
  abbrev pub own_cost : Shape → (of : ℕ) → ℕ
  own_cost shape of = if shape.controlled then cost of else 0

  -- The treatment of a record of a type: an operation for each of its parts.
  abbrev pub record_cost : List Shape → (of : ℕ) → ℕ
  record_cost [] t = 0
  record_cost (shape ∷ older) t =
      if t == length older then own_cost shape t + sum_by (record_cost older) shape.components else record_cost older t

  -- No less than that of a record of any type.
  abbrev pub cost_of_any : List Shape → ℕ
  cost_of_any [] = 0
  cost_of_any (shape ∷ older) = own_cost shape (length older) + sum_by (record_cost older) shape.components + cost_of_any older

  -- The same of a record type by its number, if it has controlled parts.
  abbrev pub cost_for : List Shape → (number : Option ℕ) → ℕ
  cost_for shapes None = 0
  cost_for shapes (Some n) = record_cost shapes n

  -- What is left of a treatment.
  abbrev pub tasks_cost : List Task → ℕ
  tasks_cost [] = 0
  tasks_cost (performs of part ∷ tasks) = cost of + tasks_cost tasks
  tasks_cost (treats components ∷ tasks) = sum_by (λ c. record_cost (shapes_of types) c.of) components + tasks_cost tasks

  -- Parts that have begun may be finalized.
  abbrev pub done_cost : List Part → ℕ
  done_cost done = sum_by (λ p. cost p.of) done

  -- The treatment of an object: of one that the values of an access type name, or of the one that is known by a type.
  abbrev pub treatment_operations : (access : ℕ) → ℕ
  treatment_operations access = cost_for (shapes_of types) (number_reached types access)

  -- A new object: each part begins, may be undone, and is finalized at last (7.6, 7.6.1).
  abbrev pub new_operations : (access : ℕ) → ℕ
  new_operations access = treatment_operations access + treatment_operations access + treatment_operations access

  -- A record that is assigned: each part is finalized and adjusted (7.6).
  abbrev pub assigned_operations : (record_type : ℕ) → ℕ
  assigned_operations t =
      cost_for (shapes_of types) (number_of types (Some t)) + cost_for (shapes_of types) (number_of types (Some t))
      + cost_for (shapes_of types) (number_of types (Some t))

  -- What is assigned.
  abbrev pub right_operations : RightForm → ℕ
  right_operations nothing = 0
  right_operations (value_of path) = 0
  right_operations (allocates access items) = new_operations access
  right_operations (allocates_default access) = new_operations access
  right_operations (computes e) = 0

  -- A declaration.
  abbrev pub declaration_operations : DeclarationForm → ℕ
  declaration_operations (creates_pool pool) = 0
  declaration_operations (collects access) = 0
  declaration_operations (declares x right) = right_operations right
  declaration_operations (declares_record x object initial) = new_operations object

  -- All of them.
  abbrev pub declarations_operations : List DeclarationForm → ℕ
  declarations_operations [] = 0
  declarations_operations (d ∷ ds) = declaration_operations d + declarations_operations ds

  -- Those of a body, if there is one.
  abbrev pub body_operations : Option BodyForm → ℕ
  body_operations None = 0
  body_operations (Some b) = declarations_operations b.declarations

  -- Those of the body that overrides an operation, if one does (7.6).
  abbrev pub operation_operations : List BodyForm → Option ProcedureNo → ℕ
  operation_operations bodies None = 0
  operation_operations bodies (Some procedure) = body_operations (slice_get bodies procedure.0)

  -- Those of all operations of a type.
  abbrev pub type_operations : List BodyForm → Operations → ℕ
  type_operations bodies o =
      operation_operations bodies o.initialize + operation_operations bodies o.adjust + operation_operations bodies o.finalize

  -- What is left of a treatment: what has begun may be undone, and so may what is yet to begin.
  abbrev pub treats_operations : Treatment → List Task → ℕ
  treats_operations (starts by done) tasks = done_cost done + tasks_cost tasks + tasks_cost tasks
  treats_operations (ends cause) tasks = tasks_cost tasks

  -- A frame: as many as it may lead to before a statement begins.
  abbrev pub frame_operations : {V : Type 0} → Frame V → ℕ
  frame_operations (frame.Elaborates ds fs hs) = declarations_operations ds
  frame_operations (frame.Calls procedure b actuals) = declarations_operations b.declarations
  frame_operations (frame.Evaluates right) = right_operations right
  frame_operations (frame.Creates access count) = new_operations access
  frame_operations (frame.Targets c right) = right_operations right
  frame_operations (frame.Assigns t) = assigned_operations t
  frame_operations (frame.FreesIn access c) = cost_of_any (shapes_of types)
  frame_operations (frame.DeclaresRecord x t) = new_operations t
  frame_operations (frame.Treats v treatment tasks) = treats_operations treatment tasks
  frame_operations (frame.Awaits v by done of part tasks) = cost of + treats_operations (starts by done) tasks
  frame_operations f = 0

  -- A frame that a jump passes: the parts that have begun are finalized, where an exception comes out of an Initialize (7.6.1).
  abbrev pub pass_operations : {V : Type 0} → Frame V → ℕ
  pass_operations (frame.Awaits v by done of part tasks) = done_cost done
  pass_operations f = 0

  -- All frames, for an exception.
  abbrev pub passed_operations : {V : Type 0} → List (Frame V) → ℕ
  passed_operations [] = 0
  passed_operations (f ∷ k) = pass_operations f + passed_operations k

  abbrev mutual
    -- What is left to do before a statement begins.
    pub run_operations : List (Frame Value) → ℕ
    run_operations [] = 0
    run_operations (f ∷ k) =
        frame_operations f + behind_weight f (passed_operations k) (exit_operations k) (return_operations k) (run_operations k)

    -- What is left while an exit is on its way: it lands behind a loop.
    pub exit_operations : List (Frame Value) → ℕ
    exit_operations [] = 0
    exit_operations (f ∷ k) = pass_operations f + (if is_loop f then run_operations k else exit_operations k)

    -- What is left while a return is on its way: it lands behind the call of its body.
    pub return_operations : List (Frame Value) → ℕ
    return_operations [] = 0
    return_operations (f ∷ k) = pass_operations f + (if is_return f then run_operations k else return_operations k)

  -- An object in its collection is yet to be finalized.
  abbrev pub object_operations : Object → ℕ
  object_operations object = if object.listed then treatment_operations object.cell.access else 0

  -- All objects.
  abbrev pub heap_operations : List Object → ℕ
  heap_operations [] = 0
  heap_operations (object ∷ objects) = object_operations object + heap_operations objects

  -- How many operations any run calls from a state at most before a statement begins.
  unfoldable pub operations_left : State → ℕ
  operations_left s =
      heap_operations s.heap
      + by_mode s.mode (passed_operations s.control) (exit_operations s.control) (return_operations s.control) (run_operations s.control)

-- What a call of an operation costs, where what the declarations of bodies create is followed through so many calls: itself, and all that these call.
abbrev pub cost_within : List TypeDefinition → List BodyForm → (calls : ℕ) → (of : ℕ) → ℕ
cost_within types bodies zero of = 1
cost_within types bodies (suc n) of = 1 + type_operations types (cost_within types bodies n) bodies (operations_of types of)

-- Followed through as many calls as there are bodies.
abbrev pub full_cost : List TypeDefinition → List BodyForm → (of : ℕ) → ℕ
full_cost types bodies of = cost_within types bodies (length bodies) of

-- One call more adds nothing: what the declarations of bodies create that override operations leads through no more calls than there are bodies. So it is where
-- each such declaration creates parts alone whose operations are overridden by bodies before it, or by none.
abbrev pub DeclarationsSettle : List TypeDefinition → List BodyForm → Type 0
DeclarationsSettle types bodies = (of : ℕ) → cost_within types bodies (suc (length bodies)) of ≤ full_cost types bodies of

-- What the declarations of all bodies weigh.
abbrev pub bodies_weight : List TypeDefinition → List BodyForm → ℕ
bodies_weight types bodies = sum_by (λ b. declarations_weight types b.declarations) bodies

-- How many operations any run of a program calls from a state at most before a statement begins.
abbrev pub operations_ahead : Program → State → ℕ
operations_ahead program s = operations_left program.types.items (full_cost program.types.items (body_forms program)) s

-- The weight of a state with all that the calls of operations may add to it.
unfoldable pub full_weight : Program → State → ℕ
full_weight program s =
    weight program.types.items s
    + operations_ahead program s * (10 + bodies_weight program.types.items (body_forms program) + operations_ahead program s)

-- A step that begins no statement leaves no more operations to be called than there were, and less where it calls one.
abbrev pub OperationsGrowFewer : Type 0
OperationsGrowFewer =
    (program : Program) (s : State) (choice : Choice) (event : Event) (after : State)
    → DeclarationsSettle program.types.items (body_forms program) → begins s ≡ false → Step program s choice event after
    → operations_ahead program after + (if calls_operation program.types.items s then 1 else 0) ≤ operations_ahead program s

-- So each step that begins no statement makes the full weight smaller, whatever is granted and picked: a loop over a machine comes to the next statement, or
-- to the end.
abbrev pub StepsMakeFullyLighter : Type 0
StepsMakeFullyLighter =
    (program : Program) (s : State) (choice : Choice) (event : Event) (after : State)
    → DeclarationsSettle program.types.items (body_forms program) → begins s ≡ false → Step program s choice event after
    → full_weight program after < full_weight program s

-- Where operations are called, too, so many steps at most follow one another before another statement begins, or the run ends.
abbrev pub StatementsEndWithOperations : Type 0
StatementsEndWithOperations =
    (program : Program) → DeclarationsSettle program.types.items (body_forms program) → (s last : State) (events : List Event)
    → WithinStatement program s events last → length events ≤ full_weight program s

-- Declarations settle where those of no body that overrides an operation create an object with controlled parts, so where they count no operation, each as one.
abbrev pub DeclarationsWithoutPartsSettle : Type 0
DeclarationsWithoutPartsSettle =
    (types : List TypeDefinition) (bodies : List BodyForm)
    → ((of : ℕ) → type_operations types (λ n. 1) bodies (operations_of types of) ≡ 0) → DeclarationsSettle types bodies

-- Some such premise is needed: there is a well-formed program in which steps follow one another without end, and no statement begins. It has a type whose
-- Initialize declares an object of this very type.
abbrev pub SomeDeclarationsNeverEnd : Type 0
SomeDeclarationsNeverEnd =
    (program : Program) × IsWellFormed (program_form program)
    × ((n : ℕ) → (events : List Event) × (last : State) × WithinStatement program (first_state program []) events last × (length events ≡ n))
