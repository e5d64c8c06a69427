-- The operations, the statements and the events of the program by which the laws show that a Finalize declares a record object with a Finalize of its own (3.3.1,
-- 7.6.1): it runs while a component is freed, and what it declares is finalized inside it, before the words of its own object go back.

use Rattle.std.specs.Prelude.{List, [], ◌∷◌, ◌++◌, Some, None}
use Rattle.std.proofs.Math.ListN.{replicate}
use Rattle.ada_program.specs.declared.program.Operations.{Operations}
use Rattle.ada_program.specs.declared.program.VariableKind.TheVariants as variable
use Rattle.ada_program.specs.Form.{reads, computes, writes, declares_record, assigns, StmtsForm, no_stmts, a_stmt, no_handlers}
use Rattle.ada_program.specs.ProgramForm.{BodyForm}
use Rattle.ada_meaning.specs.declared.state.Value.{Value}
use Rattle.ada_meaning.specs.declared.state.Value.TheVariants.{Names}
use Rattle.ada_meaning.specs.declared.event.Birth.TheVariants.{Creation}
use Rattle.ada_meaning.specs.declared.event.Cause.TheVariants.{Leaving, Freeing}
use Rattle.ada_meaning.specs.Event.{Born, Finalized, Back, Followed, Left}
use Rattle.ada_meaning.specs.Run.{Event}
use Rattle.ada_sound.specs.CallExamples.{unnamed}
use Rattle.ada_sound.specs.OperationExamples.{operation_body, tag_now, tag_initialize, equipping_initialize, equipping_finalize, equipped_box, held_tag, finalizes}
use Rattle.ada_sound.specs.TaggingExample.{tagged_now}

-- The types, the object B, the Initialize of Tag and the operations of Box are those of `equips` (OperationExamples.antt). type Meter is new Limited_Controlled
-- with record Value : Integer; end record; has number 8, its formal parameter is known by type 10, and M : Meter by type 9.

-- Meter overrides Finalize, by the first of five procedures.
abbrev pub meter_operations : Operations
meter_operations = record { initialize = None; adjust = None; finalize = Some (record { 0 = 0 }) }

-- Tag overrides Initialize and Finalize, by the next two.
abbrev pub metered_operations : Operations
metered_operations = record { initialize = Some (record { 0 = 1 }); adjust = None; finalize = Some (record { 0 = 2 }) }

-- Box overrides them by the last two.
abbrev pub metering_operations : Operations
metering_operations = record { initialize = Some (record { 0 = 3 }); adjust = None; finalize = Some (record { 0 = 4 }) }

-- procedure Finalize (M : in out Meter) is begin Put_Line (Integer'Image (M.Value)); end Finalize;
abbrev pub meter_finalize : BodyForm
meter_finalize = operation_body 10 (a_stmt (writes (reads tag_now)) no_stmts) no_handlers

-- M.Value := T.Value;
abbrev pub metering_body_stmts : StmtsForm
metering_body_stmts = a_stmt (assigns tagged_now (computes (reads tag_now))) no_stmts

-- procedure Finalize (T : in out Tag) is M : Meter; begin .. end Finalize;
abbrev pub metering_finalize : BodyForm
metering_finalize = record (operation_body 5 metering_body_stmts no_handlers) {
  variables = unnamed (variable.Record (record { 0 = 5 })) ∷ unnamed (variable.Record (record { 0 = 9 })) ∷ [];
  declarations = declares_record 1 9 None ∷ [];
}

-- All five, in order.
abbrev pub metering_bodies : List BodyForm
metering_bodies = meter_finalize ∷ tag_initialize ∷ metering_finalize ∷ equipping_initialize ∷ equipping_finalize ∷ []

-- The object M.
abbrev pub declared_meter : Value
declared_meter = Names (record { 0 = 2 })

-- Up to the leaving of the main procedure all is as in `equips`. There B is finalized: its Finalize, as the master of number 3, follows B to what Held names,
-- and that tag is finalized. Its Finalize is the master of number 5: M is declared, and has its value. It is followed where Value is found as a target, the tag
-- where its Value is read, and M where that is written. Then that master is left: M is finalized, whose own Finalize writes the 7, as the master of number 6,
-- and its words go back. Only then the words of the tag go back, B is followed where Held becomes null, its Finalize is left, and its words go back.
abbrev pub metering_events : List Event
metering_events =
    Followed equipped_box
    ∷ replicate 2 (Followed held_tag)
    ++ Left 2
    ∷ Born held_tag 0 0 0 1 Creation
    ∷ Followed equipped_box
    ∷ Left 1
    ∷ Born equipped_box 0 0 1 2 Creation
    ∷ Finalized equipped_box 0 0 1 2 (Leaving 0 1)
    ∷ Followed equipped_box
    ∷ Finalized held_tag 0 0 0 1 (Freeing 4)
    ∷ Born declared_meter 0 0 2 3 Creation
    ∷ Followed declared_meter
    ∷ Followed held_tag
    ∷ Followed declared_meter
    ∷ Finalized declared_meter 0 0 2 3 (Leaving 5 2)
    ∷ finalizes declared_meter 7 6
    ++ Back declared_meter 9 0 None None (Leaving 5 2)
    ∷ Left 5
    ∷ Back held_tag 1 1 (Some 0) None (Freeing 4)
    ∷ Followed equipped_box
    ∷ Left 3
    ∷ Back equipped_box 3 0 None None (Leaving 0 1)
    ∷ Left 0
    ∷ []
