-- A program in which operations assign to components of their formal parameters, inside of each other, and what a run of it shows.

use Rattle.std.specs.Prelude.{◌≡◌, true, ℕ, List, [], ◌∷◌, ◌++◌, None, Some}
use Rattle.ada_program.specs.declared.program.FormalMode.TheVariants.{InOut}
use Rattle.ada_program.specs.declared.program.Operations.{Operations}
use Rattle.ada_program.specs.declared.program.Program.{Program}
use Rattle.ada_program.specs.Controlled.{shapes_of, operations_of}
use Rattle.ada_program.specs.Form.{RecordPathForm, item_of_record, skips, assigns_record, encloses, StmtsForm, no_stmts, a_stmt, no_handlers, declares_record, stmt_forms}
use Rattle.ada_program.specs.ProgramForm.{BodyForm, body_forms}
use Rattle.ada_parts.specs.Shape.{Shape}
use Rattle.ada_parts.specs.Task.{Task}
use Rattle.ada_meaning.specs.declared.state.Value.{Value}
use Rattle.ada_meaning.specs.declared.event.Cause.TheVariants.{Assigning}
use Rattle.ada_meaning.specs.declared.event.Halt.TheVariants.{Finished}
use Rattle.ada_meaning.specs.Frame.{Frame, ends, Treats, Confines}
use Rattle.ada_meaning.specs.Named.{State}
use Rattle.ada_meaning.specs.Run.{Halts}
use Rattle.ada_order.specs.Example.{InSomeRun}
use Rattle.ada_finalized.specs.Law.{finalized_before, NoOperationRunsOn, TreatsInside}
use Rattle.ada_finalized.specs.Example.{known_by, object_x}

-- type Leaf is new Controlled with record V : Integer; end record; type Inner is new Controlled with record C : Leaf; end record; type Outer is new Controlled
-- with record C : Inner; end record; the newest first.
abbrev pub nested_shapes : List Shape
nested_shapes =
    record { controlled = true; components = 1 ∷ [] }
    ∷ record { controlled = true; components = 0 ∷ [] }
    ∷ record { controlled = true; components = [] }
    ∷ []

-- Inner overrides Finalize, by the first procedure, and Outer Initialize, by the second one.
abbrev pub inner_finalizes : Operations
inner_finalizes = record { initialize = None; adjust = None; finalize = Some (record { 0 = 0 }) }

abbrev pub outer_initializes : Operations
outer_initializes = record { initialize = Some (record { 0 = 1 }); adjust = None; finalize = None }

-- A record of a type, by its variable and its part there.
abbrev pub record_at : (x part record_type : ℕ) → RecordPathForm
record_at x part t =
    record { object = record { root = x; of_record = true; selectors = []; spot = record { line = 1; column = 1 } }; first = 0; part = part; record_type = t }

-- An operation with an object of its own, which it assigns to the component of its formal parameter: (X : in out ..) is Y : ..; begin X.C := Y; end;
abbrev pub assigns_component : (formal own record_type : ℕ) → BodyForm
assigns_component formal own t = record {
  formals = InOut ∷ [];
  variables = known_by formal ∷ known_by own ∷ [];
  declarations = declares_record 1 own None ∷ [];
  statements = a_stmt (assigns_record (record_at 0 1 t) (item_of_record (record_at 1 0 t) ∷ [])) no_stmts;
  handlers = no_handlers;
  start_spot = record { line = 1; column = 1 };
  end_spot = record { line = 1; column = 1 };
}

-- procedure Finalize (X : in out Inner) is Y : Leaf; begin X.C := Y; end;
abbrev pub nested_finalize : BodyForm
nested_finalize = assigns_component 5 7 0

-- procedure Initialize (X : in out Outer) is Y : Inner; begin X.C := Y; end;
abbrev pub nested_initialize : BodyForm
nested_initialize = assigns_component 4 6 1

-- declare X : Outer; begin null; end;
abbrev pub nested_stmts : StmtsForm
nested_stmts = a_stmt (encloses (declares_record 0 3 None ∷ []) (a_stmt skips no_stmts) no_handlers) no_stmts

-- A part of X is finalized next, by an assignment in a Finalize of a part of X, behind which that of an operation of X is left to do: inside of both.
abbrev pub TreatsInnermost : Program → State → Type 0
TreatsInnermost program s =
    (number : ℕ) × (tasks : List Task) × (front behind : List (Frame Value))
    × (s.control ≡ Treats object_x (ends (Assigning number)) tasks ∷ front ++ Confines ∷ behind) × (finalized_before behind ≡ object_x)
    × (NoOperationRunsOn object_x behind → ⊥) × TreatsInside (shapes_of program.types.items) object_x tasks (front ++ Confines ∷ behind)

-- In a run of a program with these types, operations and statements Initialize of X assigns to its component, the Finalize of that assigns to the component in
-- it, and a run finishes.
abbrev pub AssignmentsNest : Type 0
AssignmentsNest =
    (program : Program) × (shapes_of program.types.items ≡ nested_shapes) × (operations_of program.types.items 1 ≡ inner_finalizes)
    × (operations_of program.types.items 2 ≡ outer_initializes) × (body_forms program ≡ nested_finalize ∷ nested_initialize ∷ [])
    × (stmt_forms program ≡ nested_stmts) × InSomeRun program (λ events last. TreatsInnermost program last)
    × InSomeRun program (λ events last. Halts program last Finished)
