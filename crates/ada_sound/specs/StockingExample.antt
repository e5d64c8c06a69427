-- The operations, the statements and the events of the program by which the laws show that an Initialize allocates an object whose own Initialize allocates,
-- too: an exception comes out of the one inside, and the object that it was to begin is undone, while the other one runs.

use Rattle.std.specs.Prelude.{List, [], ◌∷◌, ◌++◌, None, Some}
use Rattle.std.proofs.Math.ListN.{replicate}
use Rattle.ada_program.specs.declared.program.Choice.TheVariants as choice
use Rattle.ada_program.specs.declared.program.Exception.TheVariants.{StorageError}
use Rattle.ada_program.specs.Form.{allocates_default, skips, assigns, StmtsForm, no_stmts, a_stmt, no_handlers, a_handler}
use Rattle.ada_program.specs.ProgramForm.{BodyForm}
use Rattle.ada_meaning.specs.declared.event.Birth.TheVariants.{Creation}
use Rattle.ada_meaning.specs.declared.event.Cause.TheVariants.{Leaving, Undoing}
use Rattle.ada_meaning.specs.Event.{Born, Finalized, Back, Followed, Left}
use Rattle.ada_meaning.specs.Run.{Event}
use Rattle.ada_sound.specs.OperationExamples.{operation_body, boxed_head}
use Rattle.ada_sound.specs.NestingExample.{inner_finalize, kept_now, object_k, kept_holder}
use Rattle.ada_sound.specs.HousingExample.{housing_finalize, unhoused_events}

-- The types, the object K and the two Finalize are those of HousingExample.antt, and so is which procedure overrides which operation.

-- procedure Initialize (K : in out Keeper) is begin K.Held := new Holder; exception when Storage_Error => null; end Initialize;
abbrev pub stocking_initialize : BodyForm
stocking_initialize =
    operation_body 7 (a_stmt (assigns kept_now (allocates_default 3)) no_stmts)
    (a_handler (choice.Exception StorageError ∷ []) (a_stmt skips no_stmts) no_handlers)

-- procedure Initialize (H : in out Holder) is begin H.Head := new Cell; end Initialize;
abbrev pub stocked_initialize : BodyForm
stocked_initialize = operation_body 6 (a_stmt (assigns boxed_head (allocates_default 1)) no_stmts) no_handlers

-- All four, in order.
abbrev pub stocking_bodies : List BodyForm
stocking_bodies = stocking_initialize ∷ housing_finalize ∷ stocked_initialize ∷ inner_finalize ∷ []

-- null;
abbrev pub stocking_stmts : StmtsForm
stocking_stmts = a_stmt skips no_stmts

-- Initialize of K is called, as the master of number 1: it follows K where Held is found as a target. The holder is allocated, and its own Initialize is
-- called, as the master of number 2: it follows the holder where Head is found as a target, and where that is written, and is left. So the holder has begun
-- while the Initialize of K still runs: K is followed where Held is written, the body is left, and only then K has begun. At the leaving of the main
-- procedure K is finalized, and within its Finalize the holder is, within whose Finalize the words of the cell go back; then those of the holder do, and then
-- those of K. Nothing is left.
abbrev pub stocking_events : List Event
stocking_events =
    Followed object_k
    ∷ replicate 2 (Followed kept_holder)
    ++ Left 2
    ∷ Born kept_holder 0 0 0 1 Creation
    ∷ Followed object_k
    ∷ Left 1
    ∷ Born object_k 0 0 1 2 Creation
    ∷ unhoused_events

-- Where the cell is refused, Storage_Error leaves the Initialize of the holder, and comes out of it inside the Initialize of K. The holder is undone there:
-- it has no value, so that nothing of it is finalized, and its words go back. Then the Initialize of K handles the exception, and is left, and K has begun,
-- with null in Held. At the leaving of the main procedure K is finalized, as the master of number 4, for which it is followed to Held, and its words go back.
-- Nothing is left.
abbrev pub unstocked_events : List Event
unstocked_events =
    Followed object_k
    ∷ Followed kept_holder
    ∷ Left 2
    ∷ Back kept_holder 3 1 (Some 0) None (Undoing 3)
    ∷ Left 1
    ∷ Born object_k 0 0 1 1 Creation
    ∷ Finalized object_k 0 0 1 1 (Leaving 0 2)
    ∷ Followed object_k
    ∷ Left 4
    ∷ Back object_k 5 0 None None (Leaving 0 2)
    ∷ Left 0
    ∷ []
