-- Where the objects of an access type are calm, what begins or ends a part of one touches no storage (7.6).

use Rattle.std.proofs.Common.{◌≡◌, ℕ, Bool, true, sym, ap, ◌∙◌}
use Rattle.std.specs.Prelude.{Option, Some}
use Rattle.std.specs.List.{slice_get}
use Rattle.ada_meaning.proofs.Places.{is_declared, numbers_are_alone, types_have_their_operations}
use Rattle.ada_program.specs.declared.program.Finalization.{Finalization}
use Rattle.ada_program.specs.declared.program.Operations.{Operations}
use Rattle.ada_program.specs.declared.program.ProcedureNo.{ProcedureNo}
use Rattle.ada_program.specs.declared.program.Program.{Program}
use Rattle.ada_program.specs.Controlled.{number_of, operations_of, procedure_number}
use Rattle.ada_program.specs.ProgramForm.{TypeForm, record_of, BodyForm, ProgramForm, program_form, body_forms}
use Rattle.ada_program.specs.WellFormed.{IsWellFormed, finalization_in}
use Rattle.ada_quiet.specs.Calm.{ends_calmly, calm_types, are_calm_in}
use Rattle.ada_quiet.specs.Bare.{has_bare_objects}
use Rattle.ada_quiet.specs.Quiet.{is_plain_body, is_plain_operation, is_plain_procedure, is_quiet_body, is_quiet_operation, is_quiet_procedure}
use Rattle.ada_sound.proofs.BareObjects.{operable_is_not_bare}
use Rattle.ada_sound.proofs.CalmTypes.{bare_calm, lying_own}
use Rattle.ada_sound.proofs.OperationStarts.{apart}
use Rattle.ada_sound.proofs.Started.{numbered_one}
use Rattle.ada_typed.proofs.Inner.{lies_at}
use Rattle.ada_typed.proofs.Lying.{IsOperable}

module _ (p : ProgramForm) where
  -- The body that overrides an operation is quiet where the operation is, and plain where that is.
  pub quiet_there : (o : Option ProcedureNo) (number : ℕ) (b : BodyForm) → is_quiet_operation p o ≡ true → procedure_number o ≡ Some number → slice_get p.bodies number ≡ Some b
      → is_quiet_body p.types b ≡ true
  quiet_there o number b quiet overrides there =
      let one = numbered_one o number overrides in
      let at : slice_get p.bodies one.0.0 ≡ Some b = ap (slice_get p.bodies) one.2 ∙ there in
      let quiet_one : is_quiet_procedure p.types (slice_get p.bodies one.0.0) ≡ true = rw (one.1) at quiet in
      rw at at quiet_one

  plain_there : (o : Option ProcedureNo) (number : ℕ) (b : BodyForm) → is_plain_operation p o ≡ true → procedure_number o ≡ Some number → slice_get p.bodies number ≡ Some b
      → is_plain_body p.types b ≡ true
  plain_there o number b plain overrides there =
      let one = numbered_one o number overrides in
      let at : slice_get p.bodies one.0.0 ≡ Some b = ap (slice_get p.bodies) one.2 ∙ there in
      let plain_one : is_plain_procedure p.types (slice_get p.bodies one.0.0) ≡ true = rw (one.1) at plain in
      rw at at plain_one

  -- Objects are calm where they are bare.
  pub calm_if_bare : (access : ℕ) → has_bare_objects p.types access ≡ true → are_calm_in p access ≡ true
  calm_if_bare access bare = bare_calm p.types (calm_types p) (slice_get p.types access) bare

module _ (program : Program) (well : IsWellFormed (program_form program)) where
  abbrev p : ProgramForm
  p = program_form program

  -- The type of a number among the controlled ones, a record of which lies in a calm object: its operations are those of that number, and calm.
  record EndsCalmly (of : ℕ) : Type 0 where
    f : Finalization
    operations : operations_of program.types.items of ≡ f.operations
    calm : ends_calmly p (Some f) ≡ true

  calm_there : (access of part : ℕ) → IsOperable p.types access of part → are_calm_in p access ≡ true → EndsCalmly of
  calm_there access of part operable calm =
      let own : TypeForm → Bool = λ t. ends_calmly p (finalization_in (Some t)) in
      let l = lies_at program well access of part operable.0 in
      let r = l.record_type in
      let d = is_declared program r of l.numbered in
      let alone : (u : ℕ) → number_of program.types.items (Some u) ≡ Some d.f.number.0 → u ≡ r =
      λ u is. numbers_are_alone program u r of well (is ∙ ap (λ (n : ℕ). Some n) d.numbered) l.numbered in
      record {
        f = d.f;
        operations = ap (operations_of program.types.items) (sym d.numbered) ∙ types_have_their_operations program r d.ps d.f d.declares alone;
        calm =
            lying_own p own well r l.first part (slice_get p.types access) (record_of d.declares.0 d.ps d.declares.1 (Some d.f)) calm
            (operable_is_not_bare program well access of part operable) l.walk d.declares.2;
      }

  -- What ends a part of a calm object touches no storage: what overrides its Finalize is quiet (7.6.1).
  pub calm_finalize : (access of part number : ℕ) (b : BodyForm) → IsOperable p.types access of part → are_calm_in p access ≡ true
      → procedure_number (operations_of program.types.items of).finalize ≡ Some number → slice_get (body_forms program) number ≡ Some b → is_quiet_body p.types b ≡ true
  calm_finalize access of part number b operable calm overrides there =
      let e = calm_there access of part operable calm in
      let both = apart (is_plain_operation p e.f.operations.initialize) (is_quiet_operation p e.f.operations.finalize) e.calm in
      quiet_there p e.f.operations.finalize number b both.1 (ap (λ (o : Operations). procedure_number o.finalize) (sym e.operations) ∙ overrides) there

  -- What begins one touches none: what overrides its Initialize is plain (7.6).
  pub calm_initialize : (access of part number : ℕ) (b : BodyForm) → IsOperable p.types access of part → are_calm_in p access ≡ true
      → procedure_number (operations_of program.types.items of).initialize ≡ Some number → slice_get (body_forms program) number ≡ Some b → is_plain_body p.types b ≡ true
  calm_initialize access of part number b operable calm overrides there =
      let e = calm_there access of part operable calm in
      let both = apart (is_plain_operation p e.f.operations.initialize) (is_quiet_operation p e.f.operations.finalize) e.calm in
      plain_there p e.f.operations.initialize number b both.0 (ap (λ (o : Operations). procedure_number o.initialize) (sym e.operations) ∙ overrides) there
