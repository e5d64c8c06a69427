-- The operations of controlled types: what comes next, computed.

use Rattle.std.proofs.Common.{◌≡◌, ℕ, suc, ◌+◌, true, false, List, [], ◌∷◌, Option, Some, None, refl, sym, ap, ◌∙◌, subst, arith}
use Rattle.std.specs.List.{slice_get, slice_set}
use Rattle.ada_program.specs.declared.program.Operations.{Operations}
use Rattle.ada_program.specs.declared.program.ProcedureNo.{ProcedureNo}
use Rattle.ada_program.specs.declared.program.Program.{Program}
use Rattle.ada_program.specs.declared.program.TypeDefinition.{TypeDefinition}
use Rattle.ada_program.specs.Controlled.{operations_of, procedure_number}
use Rattle.ada_program.specs.ProgramForm.{BodyForm, body_forms}
use Rattle.ada_parts.specs.declared.tasks.Next.TheVariants.{Perform}
use Rattle.ada_parts.specs.Part.{Part}
use Rattle.ada_parts.specs.Task.{Task, performed, next as task_next}
use Rattle.ada_meaning.specs.declared.event.Birth.{Birth}
use Rattle.ada_meaning.specs.declared.event.Birth.TheVariants.{Creation, Copy, Adjustment}
use Rattle.ada_meaning.specs.declared.event.Cause.{Cause}
use Rattle.ada_meaning.specs.declared.event.Halt.TheVariants.{Erroneous}
use Rattle.ada_meaning.specs.declared.event.Why.TheVariants.{FinalizesTwice}
use Rattle.ada_meaning.specs.declared.state.Id.{Id}
use Rattle.ada_meaning.specs.declared.state.Mode.TheVariants.{Running}
use Rattle.ada_meaning.specs.declared.state.Place.{Place}
use Rattle.ada_meaning.specs.declared.state.Stage.{Stage}
use Rattle.ada_meaning.specs.declared.state.Stage.TheVariants.{Building, Existing, Gone}
use Rattle.ada_meaning.specs.declared.state.Value.{Value}
use Rattle.ada_meaning.specs.declared.state.Value.TheVariants.{Names, Part as Within}
use Rattle.ada_meaning.specs.Event.{Born, Finalized, Quiet, Request}
use Rattle.ada_meaning.specs.Frame.{Treatment, Frame, begins, ends}
use Rattle.ada_meaning.specs.Frame as frame
use Rattle.ada_meaning.specs.Heap.{PartState, Cell, Found, on_gone, finds}
use Rattle.ada_meaning.specs.State.{counted}
use Rattle.ada_meaning.specs.Step.{halts, moves, tells, at, given_places, beginning, operating, operation_next, born_next, begun_next, awaited_next, finalized_next, performed_next, treating}
use Rattle.ada_meaning.specs.Named.{Object, State, Next, named, next, look, existing, seen, object_at, on_object, changed, treated, with_part, born_part, finalized_part, bear, finalize}
use Rattle.ada_meaning.specs.Run.{Event, Choice, settled, grants, takes, Leads, Halts}
use Rattle.ada_meaning.specs.Calls.{ComesTo}
use Rattle.ada_meaning.specs.Operations.{Makes, OneChanges, with_state, Exists, HasPart, ComesToPart, BeginsBy, IsCalled, OperationsAreCalled, HasBegun, AwaitedPartsAreBorn, PlainPartsAreBorn, ComesToPartOf, operation, value, GoneObjectsAreNotTreated, HasEnded, FinalizeIsCalled, FinalizesEnd, NoFinalizeIsCalled, EndedValuesAreNotFinalized}
use Rattle.ada_meaning.proofs.Calls.{are_of_kinds}
use Rattle.ada_meaning.proofs.Records.{get_set, get_other, within}

-- A step that is known.
module _ (program : Program) (before known : State) (shown : Event) (P : State → Type 0) (holds : P known) where
  moved : (choice : Choice) (event : Event) (after : State) → Leads (moves shown known) choice event after → (event ≡ shown) × P after
  moved settled event after l = (l.0, subst P (sym l.1) holds)
  moved (grants granted) event after l = absurd l
  moved (takes i) event after l = absurd l

  told : (request : Request Value) (choice : Choice) (event : Event) (after : State) → Leads (tells request shown known) choice event after
      → (event ≡ shown) × P after
  told request settled event after l = (l.0, subst P (sym l.1) holds)
  told request (grants granted) event after l = absurd l
  told request (takes i) event after l = absurd l

  pub makes : next program.types.items (body_forms program) before ≡ moves shown known → Makes program before shown P
  makes is = record {
    goes = (known, subst (λ (coming : Next). Leads coming settled shown known) (sym is) (refl, refl));
    leads = λ choice event after step. moved choice event after (subst (λ (coming : Next). Leads coming choice event after) is step);
  }

  pub makes_told : (request : Request Value) → next program.types.items (body_forms program) before ≡ tells request shown known → Makes program before shown P
  makes_told request is = record {
    goes = (known, subst (λ (coming : Next). Leads coming settled shown known) (sym is) (refl, refl));
    leads = λ choice event after step. told request choice event after (subst (λ (coming : Next). Leads coming choice event after) is step);
  }

-- One that shows nothing.
pub comes : (program : Program) (before known : State) (P : State → Type 0) → P known
    → next program.types.items (body_forms program) before ≡ moves Quiet known → ComesTo program before P
comes program before known P holds is =
    let step = makes program before known Quiet P holds is in
    record { goes = step.goes; leads = step.leads }

-- What is found where an object is looked for.
stage_exists : (object : Object) (stage : Stage) → (stage ≡ Gone → ⊥) → existing object stage ≡ finds object.cell
stage_exists object Building exists = refl
stage_exists object Existing exists = refl
stage_exists object Gone exists = absurd (exists refl)

pub look_exists : (xs : List Object) (o : Id) (object : Object) → object_at xs o ≡ Some object → Exists object → look xs (Names o) ≡ finds object.cell
look_exists xs o object is exists = ap seen is ∙ stage_exists object object.stage exists

pub look_gone : (xs : List Object) (o : Id) (object : Object) → object_at xs o ≡ Some object → object.stage ≡ Gone → look xs (Names o) ≡ on_gone
look_gone xs o object is gone = ap seen is ∙ ap (existing object) gone

-- Where one object changes, it changes alone.
pub set_alone : (xs : List Object) (o : Id) (object later : Object) → object_at xs o ≡ Some object → OneChanges xs (slice_set xs o.0 later) o later
set_alone xs o object later is = record {
  is = get_set xs o.0 later (within xs o.0 object is);
  others = λ p apart. get_other xs o.0 p.0 later (λ same. apart (ap (λ (n : ℕ). record { 0 = n }) same));
}

pub changes_alone : (change : Object → Object) (xs : List Object) (o : Id) (object : Object) → object_at xs o ≡ Some object
    → OneChanges xs (on_object change xs (Names o)) o (change object)
changes_alone change xs o object is =
    subst (λ (ys : List Object). OneChanges xs ys o (change object)) (sym (ap (λ (at_o : Option Object). changed change at_o xs o) is))
    (set_alone xs o object (change object) is)

-- So one of its parts changes alone.
part_alone : (change : PartState → PartState) (xs : List Object) (o : Id) (object : Object) (part : ℕ) (state later : PartState)
    → HasPart xs o object part state → change state ≡ later → OneChanges xs (on_object (treated change part) xs (Names o)) o (with_state part later object)
part_alone change xs o object part state later has is =
    subst (OneChanges xs (on_object (treated change part) xs (Names o)) o)
    (ap (λ (s : Option PartState). record object { cell = record (object.cell) { parts = with_part change part s object.cell.parts } }) has.holds
    ∙ ap (λ (s : PartState). with_state part s object) is)
    (changes_alone (treated change part) xs o object has.named)

begins_alone : (xs : List Object) (o : Id) (object : Object) (part number : ℕ) (state : PartState) → HasPart xs o object part state
    → OneChanges xs (bear xs (Names o) part number) o (with_state part (record state { alive = true; number = number }) object)
begins_alone xs o object part number state has = part_alone (born_part number) xs o object part state (born_part number state) has refl

ends_alone : (xs : List Object) (o : Id) (object : Object) (part : ℕ) (state : PartState) → HasPart xs o object part state
    → OneChanges xs (finalize xs (Names o) part) o (with_state part (record state { alive = false; turn = suc state.turn }) object)
ends_alone xs o object part state has =
    let later : state.turn + 1 ≡ suc state.turn = omega arith in
    part_alone finalized_part xs o object part state (record state { alive = false; turn = suc state.turn }) has
    (ap (λ (n : ℕ). record state { alive = false; turn = n }) later)

-- A body begins with what refers to a part.
is_called : (procedure : ℕ) (body : BodyForm) (o : Id) (place : Place) (behind k : List (Frame Value)) (xs : List Object) (s : State) → s.mode ≡ Running
    → IsCalled procedure body o place behind s (operating named procedure body (Within o place) behind (record s { control = k; heap = xs }))
is_called procedure body o place behind k xs s runs = record {
  callee = record { procedure = Some procedure; places = given_places named (Within o place ∷ []) body.variables; operands = [] };
  activations = refl;
  procedure_called = refl;
  formal = refl;
  others = are_of_kinds 1 body.variables;
  operands = refl;
  masters = refl;
  next = refl;
  control = refl;
  mode = runs;
  input = refl;
  allocated = refl;
  born = refl;
}

-- Which operation begins a value.
begins_by : (by : Birth) (operations : Operations) (procedure : Option ProcedureNo) → BeginsBy by operations procedure
    → beginning by operations ≡ procedure_number procedure
begins_by Creation operations procedure is = ap procedure_number is
begins_by Copy operations procedure is = ap procedure_number is
begins_by (Adjustment number) operations procedure is = ap procedure_number is

module _ (types : List TypeDefinition) (bodies : List BodyForm) (s : State) where
  treats_step :
      (v : Value) (treatment : Treatment) (tasks : List Task) (of part : ℕ) (outer : List (Frame Value)) → s.mode ≡ Running
      → s.control ≡ frame.Treats v treatment tasks ∷ outer → task_next tasks ≡ Perform of part
      → next types bodies s ≡ performed_next named types bodies v treatment of part (performed tasks) (look s.heap v) (at outer s)
  unfolding next
  treats_step v treatment tasks of part outer runs is comes_so = rw (runs, is, comes_so) refl

  awaits_step :
      (v : Value) (by : Birth) (done : List Part) (of part : ℕ) (tasks : List Task) (outer : List (Frame Value)) → s.mode ≡ Running
      → s.control ≡ frame.Awaits v by done of part tasks ∷ outer
      → next types bodies s ≡ awaited_next named v by done of part tasks (look s.heap v) (at outer s)
  unfolding next
  awaits_step v by done of part tasks outer runs is = rw (runs, is) refl

  module _ (tasks : List Task) (of part : ℕ) (o : Id) (object : Object) (state : PartState) (outer : List (Frame Value)) where
    -- The step of a part of an object that exists, with what it overrides.
    begin_step :
        (by : Birth) (done : List Part) (procedure : Option ProcedureNo) → ComesToPart (begins by done) tasks of part o object state outer s
        → BeginsBy by (operations_of types of) procedure
        → next types bodies s
        ≡ begun_next named bodies (Names o) by done of part (performed tasks) (procedure_number procedure) (Some state) (at outer s)
    begin_step by done procedure c is =
        treats_step (Names o) (begins by done) tasks of part outer c.mode c.control c.comes
        ∙ ap (λ (found : Found (Cell Value)). performed_next named types bodies (Names o) (begins by done) of part (performed tasks) found (at outer s))
        (look_exists s.heap o object c.has.named c.has.exists)
        ∙ ap (λ (operation : Option ℕ). begun_next named bodies (Names o) by done of part (performed tasks) operation (slice_get object.cell.parts part) (at outer s))
        (begins_by by (operations_of types of) procedure is)
        ∙ ap (λ (p : Option PartState). begun_next named bodies (Names o) by done of part (performed tasks) (procedure_number procedure) p (at outer s))
        c.has.holds

    end_step :
        (cause : Cause) (procedure : Option ProcedureNo) → ComesToPart (ends cause) tasks of part o object state outer s
        → (operations_of types of).finalize ≡ procedure
        → next types bodies s
        ≡ finalized_next named bodies (Names o) cause of part (performed tasks) (procedure_number procedure) (Some state) (at outer s)
    end_step cause procedure c is =
        treats_step (Names o) (ends cause) tasks of part outer c.mode c.control c.comes
        ∙ ap (λ (found : Found (Cell Value)). performed_next named types bodies (Names o) (ends cause) of part (performed tasks) found (at outer s))
        (look_exists s.heap o object c.has.named c.has.exists)
        ∙ ap (λ (operation : Option ProcedureNo). finalized_next named bodies (Names o) cause of part (performed tasks) (procedure_number operation) (slice_get object.cell.parts part) (at outer s))
        is
        ∙ ap (λ (p : Option PartState). finalized_next named bodies (Names o) cause of part (performed tasks) (procedure_number procedure) p (at outer s))
        c.has.holds

-- A part begins.
pub operations_are_called : OperationsAreCalled
operations_are_called program by done tasks of part o object state procedure body outer before c is there =
    let types = program.types.items in
    let bodies = body_forms program in
    let behind = frame.Awaits (Names o) by done of part (performed tasks) ∷ outer in
    let place : Place = record { component = state.first; part = part } in
    let known : State = operating named procedure.0 body (Within o place) behind (at outer before) in
    comes program before known
    (λ after. (after.heap ≡ before.heap) × IsCalled procedure.0 body o place behind before after)
    (refl, is_called procedure.0 body o place behind outer before.heap before c.mode)
    (begin_step types bodies before tasks of part o object state outer by done (Some procedure) c is
    ∙ ap (λ (b : Option BodyForm). operation_next named procedure.0 b (Within o place) behind Quiet (at outer before)) there)

-- The state where a part has begun.
abbrev begun_part : Birth → List Part → List Task → (of part : ℕ) → Id → List (Frame Value) → State → State
begun_part by done tasks of part o outer s = record s {
  heap = bear s.heap (Names o) part (counted s.born);
  born = counted s.born;
  control = treating (Names o) (begins by (record { of = of; number = part } ∷ done)) tasks outer;
}

pub awaited_parts_are_born : AwaitedPartsAreBorn
awaited_parts_are_born program by done tasks of part o object state outer before runs is has =
    makes program before (begun_part by done tasks of part o outer before) (Born (Names o) part state.turn of (counted before.born) by)
    (HasBegun by done tasks of part o object state outer before)
    (record { heap = begins_alone before.heap o object part (counted before.born) state has; rest = refl })
    (awaits_step program.types.items (body_forms program) before (Names o) by done of part tasks outer runs is
    ∙ ap (λ (found : Found (Cell Value)). awaited_next named (Names o) by done of part tasks found (at outer before))
    (look_exists before.heap o object has.named has.exists)
    ∙ ap (λ (p : Option PartState). born_next named (Names o) by done of part tasks p (at outer before)) has.holds)

pub plain_parts_are_born : PlainPartsAreBorn
plain_parts_are_born program by done tasks of part o object state outer before c is =
    makes program before (begun_part by done (performed tasks) of part o outer before) (Born (Names o) part state.turn of (counted before.born) by)
    (HasBegun by done (performed tasks) of part o object state outer before)
    (record { heap = begins_alone before.heap o object part (counted before.born) state c.has; rest = refl })
    (begin_step program.types.items (body_forms program) before tasks of part o object state outer by done None c is)

-- Nothing of an object that is gone does.
module _ (types : List TypeDefinition) (bodies : List BodyForm) (o : Id) (object : Object) (s : State) (runs : s.mode ≡ Running)
    (is : object_at s.heap o ≡ Some object) (gone : object.stage ≡ Gone) where
  gone_halts : {k : List (Frame Value)} → ComesToPartOf o k → s.control ≡ k → next types bodies s ≡ halts (Erroneous FinalizesTwice)
  gone_halts (operation {treatment} {tasks} {of} {part} {outer} comes_so) control =
      treats_step types bodies s (Names o) treatment tasks of part outer runs control comes_so
      ∙ ap (λ (found : Found (Cell Value)). performed_next named types bodies (Names o) treatment of part (performed tasks) found (at outer s))
      (look_gone s.heap o object is gone)
  gone_halts (value {by} {done} {of} {part} {tasks} {outer}) control =
      awaits_step types bodies s (Names o) by done of part tasks outer runs control
      ∙ ap (λ (found : Found (Cell Value)). awaited_next named (Names o) by done of part tasks found (at outer s)) (look_gone s.heap o object is gone)

pub gone_objects_are_not_treated : GoneObjectsAreNotTreated
gone_objects_are_not_treated program o object before runs c is gone =
    gone_halts program.types.items (body_forms program) o object before runs is gone c refl

-- A part ends.
pub finalize_is_called : FinalizeIsCalled
finalize_is_called program cause tasks of part o object state procedure body outer before c alive is there =
    let types = program.types.items in
    let bodies = body_forms program in
    let behind = frame.Confines ∷ treating (Names o) (ends cause) (performed tasks) outer in
    let place : Place = record { component = state.first; part = part } in
    let shown : Event = Finalized (Names o) part state.turn of state.number cause in
    let xs = finalize before.heap (Names o) part in
    let ready : State = record before { control = outer; heap = xs } in
    makes program before (operating named procedure.0 body (Within o place) behind ready) shown
    (λ after. HasEnded part o object state before after × IsCalled procedure.0 body o place behind before after)
    (ends_alone before.heap o object part state c.has, is_called procedure.0 body o place behind outer xs before c.mode)
    (end_step types bodies before tasks of part o object state outer cause (Some procedure) c is
    ∙ rw alive (ap (λ (b : Option BodyForm). operation_next named procedure.0 b (Within o place) behind shown ready) there))

pub finalizes_end : FinalizesEnd
unfolding next
finalizes_end program outer before runs is =
    let known : State = record before { control = outer } in
    comes program before known (λ after. after ≡ known) refl (rw (runs, is) refl)

pub no_finalize_is_called : NoFinalizeIsCalled
no_finalize_is_called program cause tasks of part o object state outer before c alive is =
    let known : State = record before {
      heap = finalize before.heap (Names o) part;
      control = treating (Names o) (ends cause) (performed tasks) outer;
    } in
    makes program before known (Finalized (Names o) part state.turn of state.number cause)
    (λ after. HasEnded part o object state before after
    × (after ≡ record before { heap = after.heap; control = treating (Names o) (ends cause) (performed tasks) outer }))
    (ends_alone before.heap o object part state c.has, refl)
    (end_step program.types.items (body_forms program) before tasks of part o object state outer cause None c is ∙ rw alive refl)

pub ended_values_are_not_finalized : EndedValuesAreNotFinalized
ended_values_are_not_finalized program cause tasks of part o object state outer before c ended = go (operations_of program.types.items of).finalize refl
  where
    go : (procedure : Option ProcedureNo) → (operations_of program.types.items of).finalize ≡ procedure → Halts program before (Erroneous FinalizesTwice)
    go procedure is =
        end_step program.types.items (body_forms program) before tasks of part o object state outer cause procedure c is ∙ rw ended refl
