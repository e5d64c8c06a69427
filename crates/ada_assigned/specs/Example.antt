-- A program whose Initialize assigns to a component of its formal parameter, one whose Initialize assigns to a record object that it declares, and one whose
-- Initialize calls what does so; and what runs of them show.

use Rattle.std.specs.Prelude.{◌≡◌, ◌==◌, ℕ, Bool, true, false, List, [], ◌∷◌, Some, None}
use Rattle.ada_program.specs.declared.program.Operations.{Operations}
use Rattle.ada_program.specs.declared.program.Program.{Program}
use Rattle.ada_program.specs.Controlled.{shapes_of, operations_of}
use Rattle.ada_program.specs.Form.{in_out_record, item_of_record, assigns_record, calls, no_stmts, a_stmt, stmt_forms}
use Rattle.ada_program.specs.ProgramForm.{BodyForm, program_form, body_forms}
use Rattle.ada_program.specs.WellFormed.{IsWellFormed}
use Rattle.ada_parts.specs.Task.{Task}
use Rattle.ada_meaning.specs.declared.event.Cause.TheVariants.{Assigning}
use Rattle.ada_meaning.specs.declared.state.Id.{Id}
use Rattle.ada_meaning.specs.declared.state.Mode.TheVariants.{Running}
use Rattle.ada_meaning.specs.declared.state.Place.{Place}
use Rattle.ada_meaning.specs.declared.state.Value.{Value}
use Rattle.ada_meaning.specs.declared.state.Value.TheVariants.{Null, Names, Part}
use Rattle.ada_meaning.specs.Frame.{Frame, ends, Treats, Copies, Assigns}
use Rattle.ada_meaning.specs.Step.{first_or, older, operands}
use Rattle.ada_meaning.specs.Named.{State}
use Rattle.ada_order.specs.Example.{InSomeRun}
use Rattle.ada_finalized.specs.Example.{known_by, controlled_shapes, object_x, object_y, object_stmts, outer_operations}
use Rattle.ada_finalized.specs.Nested.{record_at, assigns_component}
use Rattle.ada_assigned.specs.Law.{CalledAssignBeside, RunsAlone, operations_assign_inside, is_of_operation}

-- procedure Initialize (X : in out Outer) is Y : Inner; begin X.C := Y; end;
abbrev pub assigning_initialize : BodyForm
assigning_initialize = assigns_component 3 4 0

-- The component of X is finalized next, by an assignment, while the Initialize of X runs, and no other operation of X does.
abbrev pub AssignsToComponent : State → Type 0
AssignsToComponent s =
    (number : ℕ) × (tasks : List Task) × (first : ℕ) × (t : ℕ) × (k : List (Frame Value))
    × (s.control ≡ Treats object_x (ends (Assigning number)) tasks ∷ Copies first t ∷ k) × RunsAlone object_x k

-- A well-formed program with the controlled types Inner and Outer, in which Outer overrides Initialize so, and creates X of that type, meets the premises of the
-- law: its operations assign inside, and in a run of it Initialize assigns to the component of X.
abbrev pub InitializeAssignsInside : Type 0
InitializeAssignsInside =
    (program : Program) × (shapes_of program.types.items ≡ controlled_shapes) × (operations_of program.types.items 1 ≡ outer_operations)
    × (body_forms program ≡ assigning_initialize ∷ []) × (stmt_forms program ≡ object_stmts) × IsWellFormed (program_form program)
    × (operations_assign_inside (program_form program) (λ t. true) (λ procedure. false) ≡ true) × InSomeRun program (λ events last. AssignsToComponent last)

-- procedure Initialize (X : in out Outer) is Y : Inner; begin Y := X.C; end;
abbrev pub copying_initialize : BodyForm
copying_initialize = record assigning_initialize {
  statements = a_stmt (assigns_record (record_at 1 0 0) (item_of_record (record_at 0 1 0) ∷ [])) no_stmts;
}

-- The object that Y names is finalized next, by an assignment, while the Initialize of X runs.
abbrev pub AssignsToDeclared : State → Type 0
AssignsToDeclared s =
    (number : ℕ) × (tasks : List Task) × (first : ℕ) × (t : ℕ) × (k : List (Frame Value))
    × (s.control ≡ Treats object_y (ends (Assigning number)) tasks ∷ Copies first t ∷ k) × RunsAlone object_y k

-- The records of that assignment have been found, that of Y before that of the source.
abbrev pub FindsDeclared : State → Type 0
FindsDeclared s =
    (s.mode ≡ Running) × (t : ℕ) × (k : List (Frame Value)) × (s.control ≡ Assigns t ∷ k) × (is_of_operation k ≡ true)
    × (o : Id) × (place : Place) × (first_or Null (older (operands s)) ≡ Part o place) × (object_y ≡ Names o)

-- A program of the same types, in which Outer overrides Initialize so, and none of its operations assigns inside of its formal parameter, meets the premises of
-- both laws, too: in a run of it Initialize assigns to Y.
abbrev pub InitializeAssignsBeside : Type 0
InitializeAssignsBeside =
    (program : Program) × (shapes_of program.types.items ≡ controlled_shapes) × (operations_of program.types.items 1 ≡ outer_operations)
    × (body_forms program ≡ copying_initialize ∷ []) × (stmt_forms program ≡ object_stmts) × IsWellFormed (program_form program)
    × (operations_assign_inside (program_form program) (λ t. false) (λ procedure. false) ≡ true) × InSomeRun program (λ events last. AssignsToDeclared last)
    × InSomeRun program (λ events last. FindsDeclared last)

-- Outer overrides Initialize, by the second procedure.
abbrev pub calling_operations : Operations
calling_operations = record { initialize = Some (record { 0 = 1 }); adjust = None; finalize = None }

-- procedure Initialize (X : in out Outer) is begin Copy (X); end; where that is procedure Copy (X : in out Outer) is Y : Inner; begin Y := X.C; end;
abbrev pub calling_initialize : BodyForm
calling_initialize = record copying_initialize {
  variables = known_by 3 ∷ [];
  declarations = [];
  statements = a_stmt (calls 0 (in_out_record (record_at 0 0 1) ∷ [])) no_stmts;
}

-- Operations call the first procedure alone.
abbrev pub is_first : (procedure : ℕ) → Bool
is_first procedure = (procedure == 0)

-- The records of that assignment have been found, in the body that Initialize calls.
abbrev pub FindsDeclaredThere : State → Type 0
FindsDeclaredThere s =
    (s.mode ≡ Running) × (t : ℕ) × (k : List (Frame Value)) × (s.control ≡ Assigns t ∷ k) × (is_of_operation k ≡ false)
    × (o : Id) × (place : Place) × (first_or Null (older (operands s)) ≡ Part o place) × (object_y ≡ Names o)

-- A program of the same types, in which Outer overrides Initialize so, meets the premises of the law on what operations call: in a run of it the procedure that
-- Initialize calls assigns to Y.
abbrev pub InitializeCallsBeside : Type 0
InitializeCallsBeside =
    (program : Program) × (shapes_of program.types.items ≡ controlled_shapes) × (operations_of program.types.items 1 ≡ calling_operations)
    × (body_forms program ≡ copying_initialize ∷ calling_initialize ∷ []) × (stmt_forms program ≡ object_stmts) × IsWellFormed (program_form program)
    × (operations_assign_inside (program_form program) (λ t. false) is_first ≡ true) × CalledAssignBeside (program_form program) is_first
    × InSomeRun program (λ events last. FindsDeclaredThere last)
