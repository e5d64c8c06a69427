-- The bodies, the statements and the events of the program by which the laws show that a procedure frees, by a component of its formal parameter, an object
-- whose Finalize frees, too: the component lies in a declared record object.

use Rattle.std.specs.Prelude.{List, [], ◌∷◌, ◌++◌, Some, None}
use Rattle.std.proofs.Math.ListN.{replicate}
use Rattle.ada_program.specs.Form.{PathForm, RecordPathForm, in_out_record, allocates_default, DeclarationForm, collects, declares_record}
use Rattle.ada_program.specs.Form.{assigns, frees, calls, StmtsForm, no_stmts, a_stmt, no_handlers}
use Rattle.ada_program.specs.ProgramForm.{BodyForm}
use Rattle.ada_meaning.specs.declared.state.Value.{Value}
use Rattle.ada_meaning.specs.declared.state.Value.TheVariants.{Names}
use Rattle.ada_meaning.specs.declared.event.Birth.TheVariants.{Creation}
use Rattle.ada_meaning.specs.declared.event.Cause.TheVariants.{Leaving, Freeing}
use Rattle.ada_meaning.specs.Event.{Born, Finalized, Back, Followed, Left}
use Rattle.ada_meaning.specs.Run.{Event}
use Rattle.ada_sound.specs.RecordExamples.{object_path}
use Rattle.ada_sound.specs.OperationExamples.{operation_body, boxed_head}

-- type Cell is record Value : Integer; end record; which has number 0; type Link is access Cell; which has number 1; type Holder is new Limited_Controlled
-- with record Head : Link; end record; which has number 2, and overrides Finalize by the first of two procedures; type Chest is access Holder; which has
-- number 3; type Shelf is record Held : Chest; end record; which has number 4. The formal parameter of Finalize is known by type 5, and that of Empty by
-- type 6. S : Shelf has number 0 in the main procedure, and is known by type 7.

-- procedure Finalize (H : in out Holder) is begin Free (H.Head); end Finalize;
abbrev pub unshelving_finalize : BodyForm
unshelving_finalize = operation_body 5 (a_stmt (frees 1 boxed_head) no_stmts) no_handlers

-- The component Held of S, in the main procedure, and in Empty, where the formal parameter T is that record.
abbrev pub shelved_now : PathForm
shelved_now = object_path 0 (0 ∷ [])

-- procedure Empty (T : in out Shelf) is begin Free_Holder (T.Held); end Empty;
abbrev pub unshelving_empty : BodyForm
unshelving_empty = operation_body 6 (a_stmt (frees 3 shelved_now) no_stmts) no_handlers

-- Both, in order.
abbrev pub unshelving_bodies : List BodyForm
unshelving_bodies = unshelving_finalize ∷ unshelving_empty ∷ []

-- The collections of Link and of Chest; S : Shelf;
abbrev pub unshelving_declarations : List DeclarationForm
unshelving_declarations = collects 1 ∷ collects 3 ∷ declares_record 0 7 None ∷ []

-- The component Head of the holder that S.Held names.
abbrev pub head_of_shelved : PathForm
head_of_shelved = object_path 0 (0 ∷ 0 ∷ [])

-- The record of type Shelf that S is.
abbrev pub shelf_now : RecordPathForm
shelf_now = record { object = object_path 0 []; first = 0; part = 0; record_type = 4 }

-- S.Held := new Holder; S.Held.Head := new Cell; Empty (S);
abbrev pub unshelving_stmts : StmtsForm
unshelving_stmts =
    a_stmt (assigns shelved_now (allocates_default 3))
    (a_stmt (assigns head_of_shelved (allocates_default 1))
    (a_stmt (calls 1 (in_out_record shelf_now ∷ [])) no_stmts))

-- The object S.
abbrev pub object_s : Value
object_s = Names (record { 0 = 0 })

-- The holder, which S owns.
abbrev pub shelved_holder : Value
shelved_holder = Names (record { 0 = 1 })

-- The cell, which the holder owns.
abbrev pub shelved_cell : Value
shelved_cell = Names (record { 0 = 2 })

-- Finalize of the holder is called, as the master of number 3: it follows the holder to what Head names, the words of that cell go back, the holder is
-- followed where Head becomes null, and the body is left.
abbrev pub unshelved_events : List Event
unshelved_events = Followed shelved_holder ∷ Back shelved_cell 1 2 (Some 0) None (Freeing 4) ∷ Followed shelved_holder ∷ Left 3 ∷ []

-- S has no controlled part. It is followed where its Held is found as a target; the holder is allocated and initialized, for which nothing is called, and S is
-- followed where Held is written. S and the holder are followed where Head is found as a target, and the holder where that is written. S is followed to pass
-- it, and in Empty, a master of its own, Free follows S to what Held names, and finalizes that: within its Finalize the words of the cell go back. Then the
-- words of the holder go back, S is followed where Held becomes null, and Empty is left. At the leaving of the main procedure the words of S go back. Nothing
-- is left in the two collections.
abbrev pub unshelving_events : List Event
unshelving_events =
    Followed object_s
    ∷ Born shelved_holder 0 0 0 1 Creation
    ∷ replicate 2 (Followed object_s)
    ++ replicate 2 (Followed shelved_holder)
    ++ replicate 2 (Followed object_s)
    ++ Finalized shelved_holder 0 0 0 1 (Freeing 2)
    ∷ unshelved_events
    ++ Back shelved_holder 3 1 (Some 0) None (Freeing 2)
    ∷ Followed object_s
    ∷ Left 1
    ∷ Back object_s 7 0 None None (Leaving 0 2)
    ∷ Left 0
    ∷ []
