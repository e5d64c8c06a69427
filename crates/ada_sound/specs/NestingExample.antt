-- The operations, the statements and the events of the program by which the laws show that a Finalize frees an object whose own Finalize frees, too: operations
-- run inside operations.

use Rattle.std.specs.Prelude.{List, [], ◌∷◌, ◌++◌, Some, None}
use Rattle.std.proofs.Math.ListN.{replicate}
use Rattle.ada_program.specs.declared.program.Operations.{Operations}
use Rattle.ada_program.specs.declared.program.VariableKind.TheVariants as variable
use Rattle.ada_program.specs.Form.{PathForm, nothing, value_of, allocates_default, DeclarationForm, collects, declares, declares_record, assigns, frees, StmtsForm, no_stmts, a_stmt, no_handlers}
use Rattle.ada_program.specs.ProgramForm.{BodyForm}
use Rattle.ada_meaning.specs.declared.state.Value.{Value}
use Rattle.ada_meaning.specs.declared.state.Value.TheVariants.{Names}
use Rattle.ada_meaning.specs.declared.event.Birth.TheVariants.{Creation}
use Rattle.ada_meaning.specs.declared.event.Cause.TheVariants.{Leaving, Freeing}
use Rattle.ada_meaning.specs.Event.{Born, Finalized, Back, Followed, Left}
use Rattle.ada_meaning.specs.Run.{Event}
use Rattle.ada_sound.specs.Examples.{example_path}
use Rattle.ada_sound.specs.RecordExamples.{object_path}
use Rattle.ada_sound.specs.CallExamples.{unnamed}
use Rattle.ada_sound.specs.OperationExamples.{operation_body, boxed_head}

-- type Cell is record Value : Integer; end record; which has number 0; type Link is access Cell; which has number 1; type Holder is new Limited_Controlled with
-- record Head : Link; end record; which has number 2; type Chest is access Holder; which has number 3; type Keeper is new Limited_Controlled with record Held :
-- Chest; end record; which has number 4. K : Keeper has number 0 in the main procedure, and is known by type 5, and the formal parameters by types 6 and 7.

-- Holder overrides Finalize by the first of two procedures (ReleasingExample.antt has such a one), and Keeper by the second one.
abbrev pub keeping_operations : Operations
keeping_operations = record { initialize = None; adjust = None; finalize = Some (record { 0 = 1 }) }

-- procedure Finalize (H : in out Holder) is begin Free_Cell (H.Head); end Finalize;
abbrev pub inner_finalize : BodyForm
inner_finalize = operation_body 6 (a_stmt (frees 1 boxed_head) no_stmts) no_handlers

-- The component Held of K, in the main procedure, and in Finalize, where K is the formal parameter.
abbrev pub kept_now : PathForm
kept_now = object_path 0 (0 ∷ [])

-- The variable C of Finalize.
abbrev pub taken_now : PathForm
taken_now = example_path 1 []

-- C := K.Held; K.Held := null; Free_Holder (C);
abbrev pub outer_stmts : StmtsForm
outer_stmts = a_stmt (assigns taken_now (value_of kept_now)) (a_stmt (assigns kept_now nothing) (a_stmt (frees 3 taken_now) no_stmts))

-- procedure Finalize (K : in out Keeper) is C : Chest; begin .. end Finalize;
abbrev pub outer_finalize : BodyForm
outer_finalize = record (operation_body 7 outer_stmts no_handlers) {
  variables = unnamed (variable.Record (record { 0 = 7 })) ∷ unnamed (variable.Access (record { 0 = 3 })) ∷ [];
  declarations = declares 1 nothing ∷ [];
}

-- Both, in order.
abbrev pub nesting_bodies : List BodyForm
nesting_bodies = inner_finalize ∷ outer_finalize ∷ []

-- The collections of Link and of Chest; K : Keeper;
abbrev pub nesting_declarations : List DeclarationForm
nesting_declarations = collects 1 ∷ collects 3 ∷ declares_record 0 5 None ∷ []

-- The component Head of the holder that K.Held names.
abbrev pub head_of_kept : PathForm
head_of_kept = object_path 0 (0 ∷ 0 ∷ [])

-- K.Held := new Holder; K.Held.Head := new Cell;
abbrev pub nesting_stmts : StmtsForm
nesting_stmts = a_stmt (assigns kept_now (allocates_default 3)) (a_stmt (assigns head_of_kept (allocates_default 1)) no_stmts)

-- The object K.
abbrev pub object_k : Value
object_k = Names (record { 0 = 0 })

-- The holder, which K owns.
abbrev pub kept_holder : Value
kept_holder = Names (record { 0 = 1 })

-- The cell, which the holder owns.
abbrev pub kept_cell : Value
kept_cell = Names (record { 0 = 2 })

-- Finalize of the holder is called, as the master of number 3: it follows the holder to what Head names, the words of that cell go back, the holder is followed
-- where Head becomes null, and the body is left.
abbrev pub inner_events : List Event
inner_events = Followed kept_holder ∷ Back kept_cell 1 2 (Some 0) None (Freeing 4) ∷ Followed kept_holder ∷ Left 3 ∷ []

-- Finalize of K is called, as the master of number 1: it follows K to read Held, and where that is found as a target and becomes null. Free finalizes the
-- holder that C names, whose own Finalize is called, and then the words of the holder go back. Then the body is left.
abbrev pub outer_events : List Event
outer_events =
    replicate 3 (Followed object_k)
    ++ Finalized kept_holder 0 0 0 2 (Freeing 2)
    ∷ inner_events
    ++ Back kept_holder 3 1 (Some 0) None (Freeing 2)
    ∷ Left 1
    ∷ []

-- K is initialized, for which nothing is called, and followed where its Held is found as a target; the holder is allocated and initialized, for which nothing
-- is called either, and K is followed where Held is written. K and the holder are followed where Head is found as a target, and the holder where that is
-- written. At the leaving of the main procedure K is finalized, and within its Finalize the holder is, within whose Finalize the words of the cell go back.
-- Then the words of K go back. Nothing is left in the two collections.
abbrev pub nesting_events : List Event
nesting_events =
    Born object_k 0 0 1 1 Creation
    ∷ Followed object_k
    ∷ Born kept_holder 0 0 0 2 Creation
    ∷ replicate 2 (Followed object_k)
    ++ replicate 2 (Followed kept_holder)
    ++ Finalized object_k 0 0 1 1 (Leaving 0 2)
    ∷ outer_events
    ++ Back object_k 5 0 None None (Leaving 0 2)
    ∷ Left 0
    ∷ []
