-- Programs whose masters nest, by blocks and by calls, and what their runs show.

use Rattle.std.specs.Prelude.{◌≡◌, ℕ, ℤ, Bool, true, false, List, [], ◌∷◌, map, Some, None, pos}
use Rattle.std.specs.List.{filter}
use Rattle.ada_program.specs.declared.program.FormalMode.TheVariants.{In}
use Rattle.ada_program.specs.declared.program.Program.{Program}
use Rattle.ada_program.specs.declared.program.VariableKind.TheVariants as variable
use Rattle.ada_program.specs.Form.{PathForm, in_value, integer, reads, item_of_value, nothing, allocates, computes, StmtForm, skips, assigns, writes, calls, returns, encloses, StmtsForm, no_stmts, a_stmt, no_handlers, creates_pool, collects, declares, stmt_forms}
use Rattle.ada_program.specs.ProgramForm.{VariableForm, BodyForm, body_forms}
use Rattle.ada_meaning.specs.declared.state.Value.TheVariants.{Names}
use Rattle.ada_meaning.specs.declared.event.Cause.TheVariants.{Leaving}
use Rattle.ada_meaning.specs.declared.event.Halt.TheVariants.{Finished}
use Rattle.ada_meaning.specs.declared.event.Line.TheVariants.{Image}
use Rattle.ada_meaning.specs.Event.{Back, Left, Line, Quiet}
use Rattle.ada_meaning.specs.State.{Owned, declared, collection, storage_pool, Item, Master}
use Rattle.ada_meaning.specs.Named.{State}
use Rattle.ada_meaning.specs.Run.{Event, Choice, Step, Run, Halts, first_state}
use Rattle.ada_meaning.specs.Law.{items_of}

-- There is a run with such events, to such a state.
abbrev pub InSomeRun : Program → (List Event → State → Type 0) → Type 0
InSomeRun program P =
    (input : List ℤ) × (events : List Event) × (last : State) × Run program (first_state program input) events last × P events last

-- There is a step from such a state that a run comes to, with such an event.
abbrev pub InSomeStep : Program → (State → Event → Type 0) → Type 0
InSomeStep program P =
    InSomeRun program
    (λ events before. (choice : Choice) × (event : Event) × (after : State) × Step program before choice event after × P before event)

-- An event that can be seen.
abbrev pub is_seen : Event → Bool
is_seen Quiet = false
is_seen e = true

-- A variable of the example, by its number.
abbrev pub variable_at : ℕ → PathForm
variable_at x = record { root = x; of_record = false; selectors = []; spot = record { line = 1; column = 1 } }

-- It becomes a new object of an access type.
abbrev pub new_to : (x access : ℕ) → StmtForm
new_to x access = assigns (variable_at x) (allocates access (item_of_value (integer (pos 7)) ∷ []))

-- declare Y : B; Z : C; begin Y := new Cell'(7); Y := new Cell'(7); Z := new Cell'(7); return; end;
abbrev pub inner_block : StmtForm
inner_block =
    encloses (collects 2 ∷ declares 1 nothing ∷ collects 3 ∷ declares 2 nothing ∷ [])
    (a_stmt (new_to 1 2)
    (a_stmt (new_to 1 2)
    (a_stmt (new_to 2 3)
    (a_stmt (returns (record { line = 1; column = 1 })) no_stmts))))
    no_handlers

-- declare X : A; begin X := new Cell'(7); declare .. end; Put_Line (Integer'Image (0)); end;
abbrev pub outer_block : StmtForm
outer_block =
    encloses (collects 1 ∷ declares 0 nothing ∷ [])
    (a_stmt (new_to 0 1)
    (a_stmt inner_block
    (a_stmt (writes (integer (pos 0))) no_stmts)))
    no_handlers

-- begin null; end; declare .. end;
abbrev pub nested_stmts : StmtsForm
nested_stmts = a_stmt (encloses [] (a_stmt skips no_stmts) no_handlers) (a_stmt outer_block no_stmts)

-- The first block is left. The return leaves the inner one of the other blocks, with the collection of C before that of B, whose second
-- object is taken first here; then the outer one, and then the main procedure. Nothing is written.
abbrev pub nested_events : List Event
nested_events =
    Left 1
    ∷ Back (Names (record { 0 = 3 })) 3 4 (Some 0) None (Leaving 3 4)
    ∷ Back (Names (record { 0 = 2 })) 2 3 (Some 0) None (Leaving 3 2)
    ∷ Back (Names (record { 0 = 1 })) 2 2 (Some 0) None (Leaving 3 2)
    ∷ Left 3
    ∷ Back (Names (record { 0 = 0 })) 1 1 (Some 0) None (Leaving 2 0)
    ∷ Left 2
    ∷ Left 0
    ∷ []

-- The numbers of masters.
abbrev pub number_of : Master → ℕ
number_of m = m.number

-- A run of a program with these statements finishes after these events.
abbrev pub BlocksAreLeft : Type 0
BlocksAreLeft =
    (program : Program) × (stmt_forms program ≡ nested_stmts)
    × InSomeRun program (λ events last. Halts program last Finished × (filter is_seen events ≡ nested_events))

-- It comes to the step that leaves the inner block, while three masters are entered.
abbrev pub InnerIsLeft : Type 0
InnerIsLeft =
    (program : Program) × (stmt_forms program ≡ nested_stmts)
    × InSomeStep program (λ before event. (event ≡ Left 3) × (map number_of before.masters ≡ 3 ∷ 2 ∷ 0 ∷ []))

-- An Integer variable without a name.
abbrev pub of_integer : VariableForm
of_integer = record { name = []; spot = record { line = 1; column = 1 }; kind = variable.Integer; borrows = false }

-- declare Z : Integer := N; begin Put_Line (Integer'Image (Z)); return; end;
abbrev pub returning_block : StmtForm
returning_block =
    encloses (declares 1 (computes (reads (variable_at 0))) ∷ [])
    (a_stmt (writes (reads (variable_at 1)))
    (a_stmt (returns (record { line = 1; column = 1 })) no_stmts))
    no_handlers

-- procedure P (N : Integer) is begin declare .. end; Put_Line (Integer'Image (9)); end;
abbrev pub returning_body : BodyForm
returning_body = record {
  formals = In ∷ [];
  variables = of_integer ∷ of_integer ∷ [];
  declarations = [];
  statements = a_stmt returning_block (a_stmt (writes (integer (pos 9))) no_stmts);
  handlers = no_handlers;
  start_spot = record { line = 1; column = 1 };
  end_spot = record { line = 1; column = 1 };
}

-- begin declare X : A; begin X := new Cell'(7); P (3); Put_Line (Integer'Image (0)); end; end;
abbrev pub calling_stmts : StmtsForm
calling_stmts =
    a_stmt
    (encloses (collects 1 ∷ declares 0 nothing ∷ [])
    (a_stmt (new_to 0 1)
    (a_stmt (calls 0 (in_value (integer (pos 3)) ∷ []))
    (a_stmt (writes (integer (pos 0))) no_stmts)))
    no_handlers)
    no_stmts

-- The return leaves the block in the procedure and then the procedure's body, and ends there: the block of the caller goes on, writes, and is left with
-- its object (6.5, 7.6.1).
abbrev pub calling_events : List Event
calling_events =
    Line (Image (pos 3))
    ∷ Left 3
    ∷ Left 2
    ∷ Line (Image (pos 0))
    ∷ Back (Names (record { 0 = 0 })) 1 1 (Some 0) None (Leaving 1 0)
    ∷ Left 1
    ∷ Left 0
    ∷ []

-- A run of a program with these statements and this procedure finishes after these events.
abbrev pub ReturnLeavesBody : Type 0
ReturnLeavesBody =
    (program : Program) × (stmt_forms program ≡ calling_stmts) × (body_forms program ≡ returning_body ∷ [])
    × InSomeRun program (λ events last. Halts program last Finished × (filter is_seen events ≡ calling_events))

-- It comes to the step that leaves the procedure's body, while the block of the caller and the main procedure are entered.
abbrev pub BodyIsLeft : Type 0
BodyIsLeft =
    (program : Program) × (stmt_forms program ≡ calling_stmts) × (body_forms program ≡ returning_body ∷ [])
    × InSomeStep program (λ before event. (event ≡ Left 2) × (map number_of before.masters ≡ 2 ∷ 1 ∷ 0 ∷ []))

-- declare Q : First_Fit_Pool (20); for B'Storage_Pool use Q; Y : B; begin Y := new Cell'(7); return; end;
abbrev pub inner_pool : StmtForm
inner_pool =
    encloses (creates_pool 1 ∷ collects 2 ∷ declares 1 nothing ∷ [])
    (a_stmt (new_to 1 2)
    (a_stmt (returns (record { line = 1; column = 1 })) no_stmts))
    no_handlers

-- declare P : First_Fit_Pool (10); for A'Storage_Pool use P; X : A; Z : C; begin X := new Cell'(7); Z := new Cell'(7); declare .. end; end;
abbrev pub pool_stmts : StmtsForm
pool_stmts =
    a_stmt
    (encloses (creates_pool 0 ∷ collects 1 ∷ collects 3 ∷ declares 0 nothing ∷ declares 2 nothing ∷ [])
    (a_stmt (new_to 0 1)
    (a_stmt (new_to 2 3)
    (a_stmt inner_pool no_stmts)))
    no_handlers)
    no_stmts

-- What an item is.
abbrev pub owned_by : Item → Owned
owned_by i = i.owned

-- What both blocks own, newest first: the collections of A and B have the pools 1 and 2, which P and Q are, and that of C has the standard pool.
abbrev pub items_with_pools : List Owned
items_with_pools =
    declared 1
    ∷ collection 2 (Some 2)
    ∷ storage_pool 1 2
    ∷ declared 2
    ∷ declared 0
    ∷ collection 3 (Some 0)
    ∷ collection 1 (Some 1)
    ∷ storage_pool 0 1
    ∷ []

-- The return leaves both blocks: each object goes back to the pool of its type.
abbrev pub pool_events : List Event
pool_events =
    Back (Names (record { 0 = 2 })) 2 3 (Some 2) None (Leaving 2 6)
    ∷ Left 2
    ∷ Back (Names (record { 0 = 1 })) 3 2 (Some 0) None (Leaving 1 2)
    ∷ Back (Names (record { 0 = 0 })) 1 1 (Some 1) None (Leaving 1 1)
    ∷ Left 1
    ∷ Left 0
    ∷ []

-- A run of a program with these statements comes to a state with two pools and three collections, one of them of the standard pool.
abbrev pub PoolsAreOpen : Type 0
PoolsAreOpen =
    (program : Program) × (stmt_forms program ≡ pool_stmts)
    × InSomeRun program (λ events last. map owned_by (items_of last.masters) ≡ items_with_pools)

-- One finishes after these events.
abbrev pub PoolsAreLeft : Type 0
PoolsAreLeft =
    (program : Program) × (stmt_forms program ≡ pool_stmts)
    × InSomeRun program (λ events last. Halts program last Finished × (filter is_seen events ≡ pool_events))
