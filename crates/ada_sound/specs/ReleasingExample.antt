-- The operation, the statements and the events of the program by which the laws show that a component frees an object whose Finalize frees, too.

use Rattle.std.specs.Prelude.{List, [], ◌∷◌, ◌++◌, Some, None}
use Rattle.std.proofs.Math.ListN.{replicate}
use Rattle.ada_program.specs.Form.{PathForm, allocates_default, DeclarationForm, collects, declares, assigns, frees, StmtsForm, no_stmts, a_stmt, no_handlers}
use Rattle.ada_program.specs.ProgramForm.{BodyForm}
use Rattle.ada_meaning.specs.declared.state.Value.{Value}
use Rattle.ada_meaning.specs.declared.state.Value.TheVariants.{Names}
use Rattle.ada_meaning.specs.declared.event.Birth.TheVariants.{Creation}
use Rattle.ada_meaning.specs.declared.event.Cause.TheVariants.{Leaving, Freeing}
use Rattle.ada_meaning.specs.Event.{Born, Finalized, Back, Followed, Left}
use Rattle.ada_meaning.specs.Run.{Event}
use Rattle.ada_sound.specs.Examples.{example_path}
use Rattle.ada_sound.specs.OperationExamples.{operation_body, boxed_head}

-- type Cell is record Value : Integer; end record; which has number 0; type Link is access Cell; which has number 1; type Holder is new Limited_Controlled
-- with record Head : Link; end record; which has number 2, and overrides Finalize; type Chest is access Holder; which has number 3; type Shelf is record
-- Held : Chest; end record; which has number 4; type Rack is access Shelf; which has number 5; and the formal parameter of Finalize is known by type 6.
-- R : Rack has number 0 in the main procedure.

-- procedure Finalize (H : in out Holder) is begin Free (H.Head); end Finalize;
abbrev pub releasing_finalize : BodyForm
releasing_finalize = operation_body 6 (a_stmt (frees 1 boxed_head) no_stmts) no_handlers

-- The collections of Link, of Chest and of Rack; R : Rack := new Shelf;
abbrev pub releasing_declarations : List DeclarationForm
releasing_declarations = collects 1 ∷ collects 3 ∷ collects 5 ∷ declares 0 (allocates_default 5) ∷ []

-- The component Held of the shelf that R names.
abbrev pub held_now : PathForm
held_now = example_path 0 (0 ∷ [])

-- The component Head of the holder that this one names.
abbrev pub head_of_held : PathForm
head_of_held = example_path 0 (0 ∷ 0 ∷ [])

-- R.Held := new Holder; R.Held.Head := new Cell; Free_Holder (R.Held);
abbrev pub releasing_stmts : StmtsForm
releasing_stmts =
    a_stmt (assigns held_now (allocates_default 3))
    (a_stmt (assigns head_of_held (allocates_default 1))
    (a_stmt (frees 3 held_now) no_stmts))

-- The shelf.
abbrev pub the_shelf : Value
the_shelf = Names (record { 0 = 0 })

-- The holder, which the shelf owns.
abbrev pub held_holder : Value
held_holder = Names (record { 0 = 1 })

-- The cell, which the holder owns.
abbrev pub held_cell : Value
held_cell = Names (record { 0 = 2 })

-- The shelf is allocated, and followed where its Held is found as a target; the holder is allocated and initialized, for which nothing is called, and the
-- shelf is followed where Held is written. The shelf and the holder are followed where Head is found as a target, and the holder where that is written. Free
-- follows the shelf to what Held names, and finalizes that: its Finalize, a master of its own, follows the holder to what Head names, the words of that cell
-- go back, the holder is followed where Head becomes null, and the body is left; then the words of the holder go back, and the shelf is followed where Held
-- becomes null. At the leaving of the main procedure the words of the shelf go back with its collection, and the two other collections are empty then.
abbrev pub releasing_events : List Event
releasing_events =
    Followed the_shelf
    ∷ Born held_holder 0 0 0 1 Creation
    ∷ replicate 2 (Followed the_shelf)
    ++ replicate 2 (Followed held_holder)
    ++ Followed the_shelf
    ∷ Finalized held_holder 0 0 0 1 (Freeing 1)
    ∷ Followed held_holder
    ∷ Back held_cell 1 3 (Some 0) None (Freeing 3)
    ∷ Followed held_holder
    ∷ Left 2
    ∷ Back held_holder 3 2 (Some 0) None (Freeing 1)
    ∷ Followed the_shelf
    ∷ Back the_shelf 5 1 (Some 0) None (Leaving 0 2)
    ∷ Left 0
    ∷ []
