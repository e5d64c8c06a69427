-- The operations, the statements and the events of the program by which the laws show that an Initialize declares a record object and allocates one, both with
-- operations of their own, in its own declarations (3.3.1, 4.8, 7.6): the declared one is initialized and finalized inside it, before its own object has begun.

use Rattle.std.specs.Prelude.{List, [], ◌∷◌, ◌++◌, Some, None, pos}
use Rattle.std.proofs.Math.ListN.{replicate}
use Rattle.ada_program.specs.declared.program.VariableKind.TheVariants as variable
use Rattle.ada_program.specs.Form.{PathForm, integer, allocates_default, value_of, computes, declares, declares_record, assigns, StmtsForm, no_stmts, a_stmt, no_handlers}
use Rattle.ada_program.specs.ProgramForm.{BodyForm}
use Rattle.ada_meaning.specs.declared.state.Value.{Value}
use Rattle.ada_meaning.specs.declared.state.Value.TheVariants.{Names}
use Rattle.ada_meaning.specs.declared.event.Birth.TheVariants.{Creation}
use Rattle.ada_meaning.specs.declared.event.Cause.TheVariants.{Leaving, Freeing, Undoing}
use Rattle.ada_meaning.specs.Event.{Born, Finalized, Back, Followed, Left}
use Rattle.ada_meaning.specs.Run.{Event}
use Rattle.ada_sound.specs.Examples.{example_path}
use Rattle.ada_sound.specs.RecordExamples.{object_path}
use Rattle.ada_sound.specs.CallExamples.{unnamed}
use Rattle.ada_sound.specs.OperationExamples.{operation_body, held_now, tag_initialize, tag_finalize, equipping_finalize, finalizes, equipped_box}

-- The types, the object B, the operations of Tag and the Finalize of Box are those of `equips` (OperationExamples.antt), and so is which procedure overrides
-- which operation. T : Tag and L : Label have numbers 1 and 2 in the Initialize of Box, and T is known by type 8.

-- The component Value of T.
abbrev pub tagged_now : PathForm
tagged_now = object_path 1 (0 ∷ [])

-- T.Value := 8; B.Held := L;
abbrev pub tagging_body_stmts : StmtsForm
tagging_body_stmts =
    a_stmt (assigns tagged_now (computes (integer (pos 8)))) (a_stmt (assigns held_now (value_of (example_path 2 []))) no_stmts)

-- procedure Initialize (B : in out Box) is T : Tag; L : Label := new Tag; begin .. end Initialize;
abbrev pub tagging_initialize : BodyForm
tagging_initialize = record (operation_body 6 tagging_body_stmts no_handlers) {
  variables = unnamed (variable.Record (record { 0 = 6 })) ∷ unnamed (variable.Record (record { 0 = 8 })) ∷ unnamed (variable.Access (record { 0 = 1 })) ∷ [];
  declarations = declares_record 1 8 None ∷ declares 2 (allocates_default 1) ∷ [];
}

-- All four, in order.
abbrev pub tagging_bodies : List BodyForm
tagging_bodies = tag_initialize ∷ tag_finalize ∷ tagging_initialize ∷ equipping_finalize ∷ []

-- The object T.
abbrev pub declared_tag : Value
declared_tag = Names (record { 0 = 1 })

-- The tag that L names, and B owns behind its Initialize.
abbrev pub given_tag : Value
given_tag = Names (record { 0 = 2 })

-- The Initialize of B is called, as the master of number 1. Its declarations create T and then the new tag: the Initialize of each is called, as the master of
-- number 2 or 3, which follows the tag where Value is found as a target, and where that is written, and is left, so that the tag has its value. T is followed
-- where it gets an 8, and B where Held gets what L names. Then the Initialize of B is left, the master of T (7.6.1): T is finalized, whose own Finalize writes
-- the 8, as the master of number 4, and its words go back. Only then B has begun. At the leaving of the main procedure B is finalized: its Finalize follows B
-- to what Held names, and that tag is finalized, whose own Finalize writes its 7. Then the words of the tag go back, B is followed where Held becomes null, its
-- Finalize is left, and its words go back. Nothing is left in the collection.
abbrev pub tagging_events : List Event
tagging_events =
    replicate 2 (Followed declared_tag)
    ++ Left 2
    ∷ Born declared_tag 0 0 0 1 Creation
    ∷ replicate 2 (Followed given_tag)
    ++ Left 3
    ∷ Born given_tag 0 0 0 2 Creation
    ∷ replicate 2 (Followed declared_tag)
    ++ replicate 2 (Followed equipped_box)
    ++ Finalized declared_tag 0 0 0 1 (Leaving 1 2)
    ∷ finalizes declared_tag 8 4
    ++ Back declared_tag 8 0 None None (Leaving 1 2)
    ∷ Left 1
    ∷ Born equipped_box 0 0 1 3 Creation
    ∷ Finalized equipped_box 0 0 1 3 (Leaving 0 1)
    ∷ Followed equipped_box
    ∷ Finalized given_tag 0 0 0 2 (Freeing 6)
    ∷ finalizes given_tag 7 7
    ++ Back given_tag 1 1 (Some 0) None (Freeing 6)
    ∷ Followed equipped_box
    ∷ Left 5
    ∷ Back equipped_box 3 0 None None (Leaving 0 1)
    ∷ Left 0
    ∷ []

-- Where the new tag is refused, Storage_Error leaves the Initialize of B from its declarations (11.4). T has its value by then, so it is finalized there, whose
-- Finalize writes its 7, and its words go back. B has none, so that nothing of it is finalized, and its words go back. Then the exception leaves the main
-- procedure.
abbrev pub untagged_events : List Event
untagged_events =
    replicate 2 (Followed declared_tag)
    ++ Left 2
    ∷ Born declared_tag 0 0 0 1 Creation
    ∷ Finalized declared_tag 0 0 0 1 (Leaving 1 2)
    ∷ finalizes declared_tag 7 3
    ++ Back declared_tag 8 0 None None (Leaving 1 2)
    ∷ Left 1
    ∷ Back equipped_box 3 0 None None (Undoing 4)
    ∷ Left 0
    ∷ []
