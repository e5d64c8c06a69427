-- The operations, the statements and the events of the program by which the laws show that an Initialize allocates an object with controlled parts: operations
-- that begin objects run inside others, too.

use Rattle.std.specs.Prelude.{List, [], ◌∷◌, ◌++◌, Some, None}
use Rattle.std.proofs.Math.ListN.{replicate}
use Rattle.ada_program.specs.declared.program.Operations.{Operations}
use Rattle.ada_program.specs.Form.{allocates_default, assigns, frees, writes_text, StmtsForm, no_stmts, a_stmt, no_handlers}
use Rattle.ada_program.specs.ProgramForm.{BodyForm}
use Rattle.ada_meaning.specs.declared.event.Birth.TheVariants.{Creation}
use Rattle.ada_meaning.specs.declared.event.Cause.TheVariants.{Leaving, Freeing}
use Rattle.ada_meaning.specs.declared.event.Line.TheVariants.{Literal}
use Rattle.ada_meaning.specs.Event.{Born, Finalized, Back, Followed, Left, Line}
use Rattle.ada_meaning.specs.Run.{Event}
use Rattle.ada_sound.specs.OperationExamples.{operation_body}
use Rattle.ada_sound.specs.NestingExample.{inner_finalize, kept_now, head_of_kept, object_k, kept_holder, kept_cell}

-- The types and the object K are those of NestingExample.antt. Keeper overrides Initialize and Finalize by the first two of four procedures, and Holder by the
-- others.
abbrev pub housed_operations : Operations
housed_operations = record { initialize = Some (record { 0 = 2 }); adjust = None; finalize = Some (record { 0 = 3 }) }

-- procedure Initialize (K : in out Keeper) is begin K.Held := new Holder; end Initialize;
abbrev pub housing_initialize : BodyForm
housing_initialize = operation_body 7 (a_stmt (assigns kept_now (allocates_default 3)) no_stmts) no_handlers

-- procedure Finalize (K : in out Keeper) is begin Free_Holder (K.Held); end Finalize;
abbrev pub housing_finalize : BodyForm
housing_finalize = operation_body 7 (a_stmt (frees 3 kept_now) no_stmts) no_handlers

-- procedure Initialize (H : in out Holder) is begin Put_Line (".."); end Initialize;
abbrev pub housed_initialize : BodyForm
housed_initialize = operation_body 6 (a_stmt (writes_text 0) no_stmts) no_handlers

-- All four, in order.
abbrev pub housing_bodies : List BodyForm
housing_bodies = housing_initialize ∷ housing_finalize ∷ housed_initialize ∷ inner_finalize ∷ []

-- K.Held.Head := new Cell;
abbrev pub housing_stmts : StmtsForm
housing_stmts = a_stmt (assigns head_of_kept (allocates_default 1)) no_stmts

-- Initialize of K is called, as the master of number 1: it follows K where Held is found as a target. Initialize of the new holder is called, as the master of
-- number 2: it writes the text, and is left, and the holder has begun. Then K is followed where Held is written, the body is left, and K has begun.
abbrev pub begun_events : List Event
begun_events =
    Followed object_k
    ∷ Line (Literal (record { 0 = 0 }))
    ∷ Left 2
    ∷ Born kept_holder 0 0 0 1 Creation
    ∷ Followed object_k
    ∷ Left 1
    ∷ Born object_k 0 0 1 2 Creation
    ∷ []

-- Finalize of the holder is called, as the master of number 5: it follows the holder to what Head names, the words of that cell go back, the holder is followed
-- where Head becomes null, and the body is left.
abbrev pub housed_events : List Event
housed_events = Followed kept_holder ∷ Back kept_cell 1 2 (Some 0) None (Freeing 6) ∷ Followed kept_holder ∷ Left 5 ∷ []

-- At the leaving of the main procedure K is finalized, as the master of number 3: it follows K to what Held names, finalizes the holder, whose words go back,
-- and follows K where Held becomes null. Then the words of K go back. Nothing is left in the two collections.
abbrev pub unhoused_events : List Event
unhoused_events =
    Finalized object_k 0 0 1 2 (Leaving 0 2)
    ∷ Followed object_k
    ∷ Finalized kept_holder 0 0 0 1 (Freeing 4)
    ∷ housed_events
    ++ Back kept_holder 3 1 (Some 0) None (Freeing 4)
    ∷ Followed object_k
    ∷ Left 3
    ∷ Back object_k 5 0 None None (Leaving 0 2)
    ∷ Left 0
    ∷ []

-- K is initialized. K and the holder are followed where Head is found as a target, and the holder where that is written. Then the main procedure is left.
abbrev pub housing_events : List Event
housing_events = begun_events ++ Followed object_k ∷ replicate 2 (Followed kept_holder) ++ unhoused_events
