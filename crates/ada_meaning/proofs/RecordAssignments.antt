-- Assignments of records that have controlled parts.

use Rattle.std.proofs.Common.{◌≡◌, ◌≢◌, ◌⊎◌, inl, inr, ℕ, suc, ◌+◌, Bool, true, false, List, [], ◌∷◌, Option, Some, arith, refl, sym, ap, ◌∙◌}
use Rattle.ada_program.specs.declared.program.TypeDefinition.{TypeDefinition}
use Rattle.ada_program.specs.Form.{RecordPathForm, item_of_record, assigns_record, StmtsForm, a_stmt}
use Rattle.ada_program.specs.ProgramForm.{BodyForm, body_forms}
use Rattle.ada_meaning.specs.declared.state.Id.{Id}
use Rattle.ada_meaning.specs.declared.state.Place.{Place}
use Rattle.ada_meaning.specs.declared.state.Mode.TheVariants.{Running}
use Rattle.ada_meaning.specs.declared.state.Value.{Value}
use Rattle.ada_meaning.specs.declared.state.Value.TheVariants.{Part}
use Rattle.ada_meaning.specs.Event.{Quiet}
use Rattle.ada_meaning.specs.Frame.{Frame}
use Rattle.ada_meaning.specs.Frame as frame
use Rattle.ada_meaning.specs.State.{Activation}
use Rattle.ada_meaning.specs.Step.{moves, has_parts, assigning, assigns_next}
use Rattle.ada_meaning.specs.Named.{State, named, next, same}
use Rattle.ada_meaning.specs.Run.{settled, Leads}
use Rattle.ada_meaning.specs.Records.{TargetsComeFirst, OntoItselfNothingIsDone, AssignmentsFinalizeCopyAdjust}
use Rattle.ada_meaning.proofs.References.{leads_by}

module _ (types : List TypeDefinition) (bodies : List BodyForm) where
  refers_step :
      (target source : RecordPathForm) (later : StmtsForm) (outer : List (Frame Value)) (s : State) → s.mode ≡ Running
      → has_parts types target.record_type ≡ true
      → s.control ≡ frame.Does (a_stmt (assigns_record target (item_of_record source ∷ [])) later) ∷ outer
      → next types bodies s ≡ moves Quiet (record s {
        control = frame.Refers target ∷ frame.Refers source ∷ frame.Assigns target.record_type ∷ frame.Does later ∷ outer;
      })
  unfolding next
  refers_step target source later outer s runs parts is = rw (runs, is, parts) refl

  module _ (t : ℕ) (o p : Id) (target source : Place) (outer : List (Frame Value)) (s : State) (procedure : Option ℕ) (places pending : List Value)
      (suspended : List (Activation Value)) where
    -- The state once the frame and both references are taken off.
    abbrev taken_off : State
    taken_off = record s { control = outer; activations = record { procedure = procedure; places = places; operands = pending } ∷ suspended }

    assign_step :
        s.mode ≡ Running → s.control ≡ frame.Assigns t ∷ outer
        → s.activations ≡ record { procedure = procedure; places = places; operands = Part p source ∷ Part o target ∷ pending } ∷ suspended
        → next types bodies s ≡ assigns_next named types t (Part o target) (Part p source) (same (Part o target) (Part p source)) taken_off
    unfolding next
    assign_step runs is active = rw (runs, is, active) refl

-- Whether two references are to one record.
one_part : (o : Id) (target source : Place) → target.part ≡ source.part → same (Part o target) (Part o source) ≡ Some true
one_part o target source is = grind (arith, is)

two_parts : (o p : Id) (target source : Place) → (o ≢ p) ⊎ (target.part ≢ source.part) → same (Part o target) (Part p source) ≡ Some false
two_parts o p target source (inl apart) =
    let two : o.0 ≢ p.0 = λ is. apart (ap (λ (n : ℕ). record { 0 = n }) is) in
    grind (arith, two)
two_parts o p target source (inr apart) = grind (arith, apart)

pub targets_come_first : TargetsComeFirst
targets_come_first program target source later outer before after event runs parts is step =
    let types = program.types.items in
    let bodies = body_forms program in
    let known : State = record before {
      control = frame.Refers target ∷ frame.Refers source ∷ frame.Assigns target.record_type ∷ frame.Does later ∷ outer;
    } in
    (leads_by (next types bodies before) (moves Quiet known) event after (refers_step types bodies target source later outer before runs parts is) step).1

pub onto_itself_nothing_is_done : OntoItselfNothingIsDone
onto_itself_nothing_is_done program t o target source outer before after procedure places pending suspended event runs is active one step =
    let types = program.types.items in
    let bodies = body_forms program in
    let s = taken_off types bodies t o o target source outer before procedure places pending suspended in
    (leads_by (next types bodies before) (moves Quiet s) event after
    (assign_step types bodies t o o target source outer before procedure places pending suspended runs is active
    ∙ ap (λ (so : Option Bool). assigns_next named types t (Part o target) (Part o source) so s) (one_part o target source one)) step).1

pub assignments_finalize_copy_adjust : AssignmentsFinalizeCopyAdjust
assignments_finalize_copy_adjust program t o p target source outer before after procedure places pending suspended event runs is active apart step =
    let types = program.types.items in
    let bodies = body_forms program in
    let s = taken_off types bodies t o p target source outer before procedure places pending suspended in
    let assigned : State = assigning named types t (Part o target) (Part p source) s in
    let counted : before.next + 1 ≡ suc before.next = omega arith in
    (leads_by (next types bodies before) (moves Quiet assigned) event after
    (assign_step types bodies t o p target source outer before procedure places pending suspended runs is active
    ∙ ap (λ (so : Option Bool). assigns_next named types t (Part o target) (Part p source) so s) (two_parts o p target source apart)) step).1
    ∙ ap (λ (n : ℕ). record assigned { next = n }) counted

-- There are these steps.
module _ (types : List TypeDefinition) (bodies : List BodyForm) (t : ℕ) (o p : Id) (target source : Place) (outer : List (Frame Value)) (s : State)
    (procedure : Option ℕ) (places pending : List Value) (suspended : List (Activation Value)) (runs : s.mode ≡ Running)
    (is : s.control ≡ frame.Assigns t ∷ outer)
    (active : s.activations ≡ record { procedure = procedure; places = places; operands = Part p source ∷ Part o target ∷ pending } ∷ suspended) where
  abbrev Goes : Type 0
  Goes = (after : State) × Leads (next types bodies s) settled Quiet after

  goes_nowhere : o ≡ p → target.part ≡ source.part → Goes
  goes_nowhere one at_one =
      let after = taken_off types bodies t o p target source outer s procedure places pending suspended in
      let known : same (Part o target) (Part p source) ≡ Some true =
      ap (λ (q : Id). same (Part o target) (Part q source)) (sym one) ∙ one_part o target source at_one in
      (after, rw (assign_step types bodies t o p target source outer s procedure places pending suspended runs is active, known) (refl, refl))

  goes_on : (o ≢ p) ⊎ (target.part ≢ source.part) → Goes
  goes_on apart =
      let after = assigning named types t (Part o target) (Part p source) (taken_off types bodies t o p target source outer s procedure places pending suspended) in
      (after, rw (assign_step types bodies t o p target source outer s procedure places pending suspended runs is active, two_parts o p target source apart) (refl, refl))
