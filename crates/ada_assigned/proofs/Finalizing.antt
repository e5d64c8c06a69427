-- Where the body of a Finalize assigns in its formal parameter, the parts of the target are among those of its type (6.2, 7.6.1).

use Rattle.std.proofs.Common.{◌≡◌, ℕ, ◌+◌, ℤ, true, List, ◌∷◌, [], Option, Some, None, arith, refl, sym, ap, ◌∙◌, subst}
use Rattle.std.specs.List.{slice_get}
use Rattle.ada_program.specs.declared.program.Program.{Program}
use Rattle.ada_program.specs.declared.program.TypeDefinition.{TypeDefinition}
use Rattle.ada_program.specs.declared.program.TypeNo.{TypeNo}
use Rattle.ada_program.specs.declared.program.VariableKind.{VariableKind}
use Rattle.ada_program.specs.declared.program.VariableKind.TheVariants as variable
use Rattle.ada_program.specs.Controlled.{operations_of, procedure_number}
use Rattle.ada_program.specs.Form.{RecordPathForm}
use Rattle.ada_program.specs.ProgramForm.{TypeForm, BodyForm, ProgramForm, program_form, body_forms, seen_in}
use Rattle.ada_program.specs.WellFormed.{IsWellFormed, parts_named, object_named, variable_kind}
use Rattle.ada_meaning.specs.declared.state.Mode.TheVariants.{Running}
use Rattle.ada_meaning.specs.declared.state.Place.{Place}
use Rattle.ada_meaning.specs.declared.state.Value.{Value}
use Rattle.ada_meaning.specs.Frame.{Frame}
use Rattle.ada_meaning.specs.Frame as frame
use Rattle.ada_meaning.specs.State.{Activation}
use Rattle.ada_meaning.specs.Step.{older, places, places_of, procedure_of}
use Rattle.ada_meaning.specs.Named.{Object, State}
use Rattle.ada_meaning.specs.Run.{Event, Run, first_state}
use Rattle.ada_typed.specs.Holding.{seen_now}
use Rattle.ada_typed.proofs.Bodies.{types_seen, seen_as}
use Rattle.ada_typed.proofs.Overridings.{ending_for}
use Rattle.ada_formals.specs.Formals.{IsRecordFormal}
use Rattle.ada_formals.specs.Inside.{LiesInside}
use Rattle.ada_formals.proofs.Standing.{ends_operation, ParameterFits, Stands as FormalsStand}
use Rattle.ada_formals.proofs.Runs.{last_keeps}
use Rattle.ada_formals.proofs.Inside.{found_inside}
use Rattle.ada_assigned.proofs.Keeping.{behind_body, IsWithin, EndsInside}
use Rattle.ada_assigned.proofs.Texts.{known_count, formal_kind, object_parts}

-- A body that ends with an operation has a formal parameter that is a record.
module _ (types : List TypeDefinition) (bodies : List BodyForm) (heap : List Object) where
  formal_of : (procedure : Option ℕ) (places : List Value) (j : List (Frame Value)) → ParameterFits types bodies heap procedure places j → ends_operation j ≡ true
      → IsRecordFormal bodies procedure 0
  formal_of procedure places [] h is = absurd (cc is)
  formal_of procedure places (frame.Awaits v by done of part tasks ∷ j) h is = h.1
  formal_of procedure places (frame.Confines ∷ j) h is = h.1
  formal_of procedure places (f ∷ j) h is = absurd (cc is)

  pub formal_behind :
      (k : List (Frame Value)) (procedure : Option ℕ) (places : List Value) (suspended : List (Activation Value)) → FormalsStand types bodies heap k procedure places suspended
      → ends_operation (behind_body k) ≡ true → IsRecordFormal bodies procedure 0
  formal_behind [] procedure places suspended h is = absurd (cc is)
  formal_behind (frame.Returns actuals references ∷ k) procedure places suspended h is = formal_of procedure places k h.0 is
  formal_behind (f ∷ k) procedure places suspended h is = formal_behind k procedure places suspended h.1 is

module _ (program : Program) (well : IsWellFormed (program_form program)) where
  abbrev types : List TypeDefinition
  types = program.types.items

  abbrev p : ProgramForm
  p = program_form program

  same_object : (a b : TypeNo) (o : Option VariableKind) → o ≡ Some (variable.Record a) → o ≡ Some (variable.Record b) → a ≡ b
  same_object a b o one two = cc (one, two)

  -- What was found is the formal parameter.
  by_procedure :
      (procedure : Option ℕ) (target : RecordPathForm) (base : Place) (of : ℕ) (object : TypeNo) → IsRecordFormal (body_forms program) procedure 0
      → procedure_number (operations_of types of).finalize ≡ procedure → variable_kind (seen_in procedure p).variables 0 ≡ Some (variable.Record object)
      → LiesInside p.types (object_named p.types (Some object.0)) base target.record_type (record { component = base.component + target.first; part = base.part + target.part })
      → IsWithin types of target
  by_procedure None target base of object formal said kind lies some = absurd formal
  by_procedure (Some procedure) target base of object formal said kind lies some =
      let operation = ending_for p types refl well.operations_fit of procedure said in
      let own = ap (λ (seen : ProgramForm). variable_kind seen.variables 0) (seen_as p procedure operation.body operation.there) ∙ formal_kind program well of procedure operation in
      let same = same_object object operation.object (variable_kind (seen_in (Some procedure) p).variables 0) kind own in
      let held = ap (λ (o : TypeNo). parts_named p.types (object_named p.types (Some o.0))) same ∙ object_parts program well of procedure operation in
      let known = known_count program well target.record_type in
      let le = lies.parts (omega (arith, some, known)) in
      let at = lies.part_at in
      omega (arith, held, known, le, at)

  pub ends_inside : (input : List ℤ) (events : List Event) (s : State) → Run program (first_state program input) events s → s.mode ≡ Running
      → EndsInside types s.control s.activations
  ends_inside input events s run on target outer o base of is ends hand refers said =
      let keeps = last_keeps program well input events s run in
      let root = sym hand.in_formal in
      let held = ap (slice_get (places s)) hand.in_formal ∙ refers in
      let found = found_inside (seen_now p s) s keeps.typed.inside target outer o base on is hand.at_hand held in
      let behind = ap behind_body is in
      let formal = formal_behind types (body_forms program) s.heap s.control (procedure_of s.activations) (places_of s.activations) (older s.activations) keeps.stands
      (ap ends_operation behind ∙ ends) in
      by_procedure (procedure_of s.activations) target base of found.0 formal said
      (ap (variable_kind (seen_now p s).variables) root ∙ found.1)
      (subst (λ (forms : List TypeForm). LiesInside forms (object_named forms (Some found.0.0)) base target.record_type (record { component = base.component + target.first; part = base.part + target.part }))
      (types_seen p (procedure_of s.activations)) found.2)
