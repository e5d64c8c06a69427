-- Programs whose record types are controlled, and what a run of each shows.

use Rattle.std.specs.Prelude.{◌≡◌, true, false, ℕ, List, [], ◌∷◌, Some, None}
use Rattle.std.specs.List.{filter}
use Rattle.ada_program.specs.declared.program.Exception.TheVariants.{ConstraintError}
use Rattle.ada_program.specs.declared.program.FormalMode.TheVariants.{InOut}
use Rattle.ada_program.specs.declared.program.Operations.{Operations}
use Rattle.ada_program.specs.declared.program.Program.{Program}
use Rattle.ada_program.specs.declared.program.VariableKind.TheVariants as variable
use Rattle.ada_program.specs.Controlled.{shapes_of, operations_of}
use Rattle.ada_program.specs.Form.{RecordPathForm, item_of_record, nothing, allocates_default, skips, assigns, assigns_record, frees, raises, encloses, StmtsForm, no_stmts, a_stmt, no_handlers, DeclarationForm, collects, declares, declares_record, stmt_forms}
use Rattle.ada_program.specs.ProgramForm.{VariableForm, BodyForm, body_forms}
use Rattle.ada_parts.specs.Shape.{Shape}
use Rattle.ada_parts.specs.Task.{Task}
use Rattle.ada_meaning.specs.declared.state.Id.{Id}
use Rattle.ada_meaning.specs.declared.state.Value.{Value}
use Rattle.ada_meaning.specs.declared.state.Value.TheVariants.{Names}
use Rattle.ada_meaning.specs.declared.event.Birth.TheVariants.{Creation, Copy, Adjustment}
use Rattle.ada_meaning.specs.declared.event.Cause.TheVariants.{Leaving, Freeing, Assigning, Undoing}
use Rattle.ada_meaning.specs.declared.event.Halt.TheVariants.{Finished, Unhandled, Erroneous}
use Rattle.ada_meaning.specs.declared.event.Why.TheVariants.{FinalizesTwice}
use Rattle.ada_meaning.specs.Event.{Born, Finalized, Back, Followed, Left}
use Rattle.ada_meaning.specs.Frame.{Frame, ends, Treats}
use Rattle.ada_meaning.specs.State.{begins}
use Rattle.ada_meaning.specs.Step.{parts_held}
use Rattle.ada_meaning.specs.Named.{Object, State, object_at}
use Rattle.ada_meaning.specs.Finalization.{NothingTreated}
use Rattle.ada_meaning.specs.Run.{Event, Halts}
use Rattle.ada_order.specs.Example.{InSomeRun, is_seen, variable_at}
use Rattle.ada_finalized.specs.Law.{NoOperationRuns, NoOperationRunsOn, TreatsInside, NothingBegins}

-- type Inner is new Controlled with record V : Integer; end record; type Outer is new Controlled with record C : Inner; end record; type Outer_Access is
-- access Outer; and what X and Y are known by. Of these, the newest first, Outer is controlled and has a controlled component.
abbrev pub controlled_shapes : List Shape
controlled_shapes = record { controlled = true; components = 0 ∷ [] } ∷ record { controlled = true; components = [] } ∷ []

-- A record object of the type Outer, by its variable.
abbrev pub outer_at : ℕ → RecordPathForm
outer_at x = record { object = record { root = x; of_record = true; selectors = []; spot = record { line = 1; column = 1 } }; first = 0; part = 0; record_type = 1 }

-- declare X : Outer; Y : Outer := X; P : Outer_Access; begin P := new Outer; X := Y; Free (P); end;
abbrev pub controlled_stmts : StmtsForm
controlled_stmts =
    a_stmt
    (encloses (collects 2 ∷ declares_record 0 3 None ∷ declares_record 1 4 (Some (item_of_record (outer_at 0) ∷ [])) ∷ declares 2 nothing ∷ [])
    (a_stmt (assigns (variable_at 2) (allocates_default 2))
    (a_stmt (assigns_record (outer_at 0) (item_of_record (outer_at 1) ∷ []))
    (a_stmt (frees 2 (variable_at 2)) no_stmts)))
    no_handlers)
    no_stmts

-- The object X.
abbrev pub object_x : Value
object_x = Names (record { 0 = 0 })

-- The object Y.
abbrev pub object_y : Value
object_y = Names (record { 0 = 1 })

-- The object of the allocator.
abbrev pub object_new : Value
object_new = Names (record { 0 = 2 })

-- X is initialized, its component first; Y, a copy of it, is adjusted, and the new object is initialized. By the assignment the value of X is finalized,
-- itself first, then that of Y is copied to it, and X is adjusted, its component first. The new object is finalized by the Free, and Y and X at the leaving
-- of the block. The words of each go back behind that.
abbrev pub controlled_events : List Event
controlled_events =
    Born object_x 1 0 0 1 Creation
    ∷ Born object_x 0 0 1 2 Creation
    ∷ Followed object_x
    ∷ Born object_y 1 0 0 3 Copy
    ∷ Born object_y 0 0 1 4 Copy
    ∷ Born object_new 1 0 0 5 Creation
    ∷ Born object_new 0 0 1 6 Creation
    ∷ Followed object_x
    ∷ Followed object_y
    ∷ Finalized object_x 0 0 1 2 (Assigning 2)
    ∷ Finalized object_x 1 0 0 1 (Assigning 2)
    ∷ Followed object_y
    ∷ Followed object_x
    ∷ Born object_x 1 1 0 7 (Adjustment 2)
    ∷ Born object_x 0 1 1 8 (Adjustment 2)
    ∷ Finalized object_new 0 0 1 6 (Freeing 3)
    ∷ Finalized object_new 1 0 0 5 (Freeing 3)
    ∷ Back object_new 2 1 (Some 0) None (Freeing 3)
    ∷ Finalized object_y 0 0 1 4 (Leaving 1 2)
    ∷ Finalized object_y 1 0 0 3 (Leaving 1 2)
    ∷ Back object_y 4 0 None None (Leaving 1 2)
    ∷ Finalized object_x 0 1 1 8 (Leaving 1 1)
    ∷ Finalized object_x 1 1 0 7 (Leaving 1 1)
    ∷ Back object_x 3 0 None None (Leaving 1 1)
    ∷ Left 1
    ∷ Left 0
    ∷ []

-- A run of a program with these types and statements finishes after these events.
abbrev pub ValuesAreFinalized : Type 0
ValuesAreFinalized =
    (program : Program) × (shapes_of program.types.items ≡ controlled_shapes) × (stmt_forms program ≡ controlled_stmts)
    × InSomeRun program (λ events last. Halts program last Finished × (filter is_seen events ≡ controlled_events))

-- A record object that is known by the type of this number.
abbrev pub known_by : ℕ → VariableForm
known_by t = record { name = []; spot = record { line = 1; column = 1 }; kind = variable.Record (record { 0 = t }); borrows = false }

-- The body of an operation of Outer with these objects of its own, which does these statements.
abbrev pub body_of_outer : List VariableForm → List DeclarationForm → StmtsForm → BodyForm
body_of_outer own declarations statements = record {
  formals = InOut ∷ [];
  variables = known_by 3 ∷ own;
  declarations = declarations;
  statements = statements;
  handlers = no_handlers;
  start_spot = record { line = 1; column = 1 };
  end_spot = record { line = 1; column = 1 };
}

-- procedure Initialize (X : in out Outer) is begin raise Constraint_Error; end Initialize;
abbrev pub raising_initialize : BodyForm
raising_initialize = body_of_outer [] [] (a_stmt (raises ConstraintError) no_stmts)

-- declare X : Outer; begin null; end;
abbrev pub object_stmts : StmtsForm
object_stmts = a_stmt (encloses (declares_record 0 2 None ∷ []) (a_stmt skips no_stmts) no_handlers) no_stmts

-- Outer overrides Initialize, by this procedure.
abbrev pub outer_operations : Operations
outer_operations = record { initialize = Some (record { 0 = 0 }); adjust = None; finalize = None }

-- The component of X is initialized, and then Initialize is called for X itself. It raises Constraint_Error, so its body is left, and the initialization is
-- undone: the component is finalized, X ceases to exist, and its words go back. The exception leaves the block and the main procedure.
abbrev pub undone_events : List Event
undone_events =
    Born object_x 1 0 0 1 Creation
    ∷ Left 2
    ∷ Finalized object_x 1 0 0 1 (Undoing 3)
    ∷ Back object_x 2 0 None None (Undoing 3)
    ∷ Left 1
    ∷ Left 0
    ∷ []

-- A run of a program with these types, this procedure and these statements ends by the exception, after these events.
abbrev pub InitializationIsUndone : Type 0
InitializationIsUndone =
    (program : Program) × (shapes_of program.types.items ≡ controlled_shapes) × (operations_of program.types.items 1 ≡ outer_operations)
    × (body_forms program ≡ raising_initialize ∷ []) × (stmt_forms program ≡ object_stmts)
    × InSomeRun program (λ events last. Halts program last (Unhandled ConstraintError) × (filter is_seen events ≡ undone_events))

-- procedure Finalize (X : in out Outer) is begin null; end Finalize;
abbrev pub quiet_finalize : BodyForm
quiet_finalize = body_of_outer [] [] (a_stmt skips no_stmts)

-- Outer overrides Finalize, by this procedure.
abbrev pub outer_finalizes : Operations
outer_finalizes = record { initialize = None; adjust = None; finalize = Some (record { 0 = 0 }) }

-- A statement begins while no operation runs.
abbrev pub BeginsAlone : State → Type 0
BeginsAlone s = (begins s ≡ true) × NoOperationRuns s.control

-- X is finalized next, at the leaving of the block, while no operation runs.
abbrev pub TreatsAlone : State → Type 0
TreatsAlone s =
    (tasks : List Task) × (behind : List (Frame Value)) × (s.control ≡ Treats object_x (ends (Leaving 1 0)) tasks ∷ behind) × NoOperationRuns s.control

-- A statement begins while something is finalized: an operation runs then.
abbrev pub BeginsWithin : State → Type 0
BeginsWithin s = (begins s ≡ true) × (NothingTreated s.control → ⊥)

-- In a run of a program with these types, this procedure and these statements the statement of the block begins, then X is finalized, and then the statement
-- of Finalize begins, with the component of X still to be finalized.
abbrev pub FinalizeIsCalled : Type 0
FinalizeIsCalled =
    (program : Program) × (shapes_of program.types.items ≡ controlled_shapes) × (operations_of program.types.items 1 ≡ outer_finalizes)
    × (body_forms program ≡ quiet_finalize ∷ []) × (stmt_forms program ≡ object_stmts) × InSomeRun program (λ events last. BeginsAlone last)
    × InSomeRun program (λ events last. TreatsAlone last) × InSomeRun program (λ events last. BeginsWithin last)

-- procedure Finalize (X : in out Outer) is Y : Outer; begin X := Y; end Finalize;
abbrev pub assigning_finalize : BodyForm
assigning_finalize =
    body_of_outer (known_by 4 ∷ []) (declares_record 1 4 None ∷ []) (a_stmt (assigns_record (outer_at 0) (item_of_record (outer_at 1) ∷ [])) no_stmts)

-- X is to be finalized by an assignment, and halts the run.
abbrev pub TreatsTwice : Program → State → Type 0
TreatsTwice program s =
    (number : ℕ) × (tasks : List Task) × (behind : List (Frame Value)) × (s.control ≡ Treats object_x (ends (Assigning number)) tasks ∷ behind)
    × Halts program s (Erroneous FinalizesTwice)

-- In a run of a program with these types, this procedure and these statements X is finalized, and its Finalize assigns to it, when it has no value.
abbrev pub FinalizeAssigns : Type 0
FinalizeAssigns =
    (program : Program) × (shapes_of program.types.items ≡ controlled_shapes) × (operations_of program.types.items 1 ≡ outer_finalizes)
    × (body_forms program ≡ assigning_finalize ∷ []) × (stmt_forms program ≡ object_stmts) × InSomeRun program (λ events last. TreatsTwice program last)

-- type Inner_Access is access Inner; of which P is a variable.
abbrev pub of_inner_access : VariableForm
of_inner_access = record { name = []; spot = record { line = 1; column = 1 }; kind = variable.Access (record { 0 = 5 }); borrows = false }

-- An operation of Outer: (X : in out Outer) is P : Inner_Access; begin P := new Inner; Free (P); end;
abbrev pub freeing_operation : BodyForm
freeing_operation =
    body_of_outer (of_inner_access ∷ []) (declares 1 nothing ∷ [])
    (a_stmt (assigns (variable_at 1) (allocates_default 5)) (a_stmt (frees 5 (variable_at 1)) no_stmts))

-- The object that it creates.
abbrev pub created_there : Id
created_there = record { 0 = 1 }

-- A statement begins while X is treated, and the created object is in its collection, with a controlled part; nothing initializes or adjusts it.
abbrev pub StandsWithin : Program → State → Type 0
StandsWithin program s =
    BeginsWithin s × (object : Object) × (object_at s.heap created_there ≡ Some object) × (object.listed ≡ true)
    × (parts_held program.types.items object.cell.access ≡ 1) × NothingBegins (Names created_there) s.control

-- That object is finalized next, by a Free, while an operation runs, and none of its own.
abbrev pub TreatsWithin : State → Type 0
TreatsWithin s =
    (number : ℕ) × (tasks : List Task) × (behind : List (Frame Value)) × (s.control ≡ Treats (Names created_there) (ends (Freeing number)) tasks ∷ behind)
    × (NoOperationRuns s.control → ⊥) × NoOperationRunsOn (Names created_there) behind

-- In a run of a program with these types, in which Outer overrides an operation so, by this procedure, and with these statements it creates an object, and its
-- next statement begins; then it frees the object.
abbrev pub OperationFrees : Operations → Type 0
OperationFrees operations =
    (program : Program) × (shapes_of program.types.items ≡ controlled_shapes) × (operations_of program.types.items 1 ≡ operations)
    × (body_forms program ≡ freeing_operation ∷ []) × (stmt_forms program ≡ object_stmts) × InSomeRun program (λ events last. StandsWithin program last)
    × InSomeRun program (λ events last. TreatsWithin last)

-- A record of the type Inner, by its variable and its part there: the component of the formal parameter X, or the object Y.
abbrev pub inner_record : (x part : ℕ) → RecordPathForm
inner_record x part =
    record { object = record { root = x; of_record = true; selectors = []; spot = record { line = 1; column = 1 } }; first = 0; part = part; record_type = 0 }

-- An operation of Outer: (X : in out Outer) is Y : Inner; begin X.C := Y; end;
abbrev pub assigning_operation : BodyForm
assigning_operation =
    body_of_outer (known_by 6 ∷ []) (declares_record 1 6 None ∷ [])
    (a_stmt (assigns_record (inner_record 0 1) (item_of_record (inner_record 1 0) ∷ [])) no_stmts)

-- Initialize is called for X once its component is initialized. It creates Y, and assigns it to that component: the value of the component is finalized, that
-- of Y is copied to it, and it is adjusted. Then X has its own value, and all is finalized at the leaving of the block.
abbrev pub initialize_events : List Event
initialize_events =
    Born object_x 1 0 0 1 Creation
    ∷ Born object_y 0 0 0 2 Creation
    ∷ Followed object_x
    ∷ Followed object_y
    ∷ Finalized object_x 1 0 0 1 (Assigning 3)
    ∷ Followed object_y
    ∷ Followed object_x
    ∷ Born object_x 1 1 0 3 (Adjustment 3)
    ∷ Finalized object_y 0 0 0 2 (Leaving 2 1)
    ∷ Back object_y 6 0 None None (Leaving 2 1)
    ∷ Left 2
    ∷ Born object_x 0 0 1 4 Creation
    ∷ Finalized object_x 0 0 1 4 (Leaving 1 0)
    ∷ Finalized object_x 1 1 0 3 (Leaving 1 0)
    ∷ Back object_x 2 0 None None (Leaving 1 0)
    ∷ Left 1
    ∷ Left 0
    ∷ []

-- Finalize is called for X once its own value is finalized, and does the same: the component is finalized behind that, with the value that it got.
abbrev pub finalize_events : List Event
finalize_events =
    Born object_x 1 0 0 1 Creation
    ∷ Born object_x 0 0 1 2 Creation
    ∷ Finalized object_x 0 0 1 2 (Leaving 1 0)
    ∷ Born object_y 0 0 0 3 Creation
    ∷ Followed object_x
    ∷ Followed object_y
    ∷ Finalized object_x 1 0 0 1 (Assigning 3)
    ∷ Followed object_y
    ∷ Followed object_x
    ∷ Born object_x 1 1 0 4 (Adjustment 3)
    ∷ Finalized object_y 0 0 0 3 (Leaving 2 1)
    ∷ Back object_y 6 0 None None (Leaving 2 1)
    ∷ Left 2
    ∷ Finalized object_x 1 1 0 4 (Leaving 1 0)
    ∷ Back object_x 2 0 None None (Leaving 1 0)
    ∷ Left 1
    ∷ Left 0
    ∷ []

-- A part of X is finalized next, by an assignment, while an operation of X runs, and inside of that.
abbrev pub TreatsInner : Program → State → Type 0
TreatsInner program s =
    (number : ℕ) × (tasks : List Task) × (behind : List (Frame Value)) × (s.control ≡ Treats object_x (ends (Assigning number)) tasks ∷ behind)
    × (NoOperationRunsOn object_x behind → ⊥) × TreatsInside (shapes_of program.types.items) object_x tasks behind

-- In a run of a program with these types, in which Outer overrides an operation so, by this procedure, and with these statements, the operation assigns to the
-- component of X; and one finishes after these events.
abbrev pub OperationAssigns : Operations → List Event → Type 0
OperationAssigns operations expected =
    (program : Program) × (shapes_of program.types.items ≡ controlled_shapes) × (operations_of program.types.items 1 ≡ operations)
    × (body_forms program ≡ assigning_operation ∷ []) × (stmt_forms program ≡ object_stmts) × InSomeRun program (λ events last. TreatsInner program last)
    × InSomeRun program (λ events last. Halts program last Finished × (filter is_seen events ≡ expected))
