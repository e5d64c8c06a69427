-- Where records are of a type that overrides no Adjust, or no Finalize, none is called for them, nor for what lies in them (7.6), whatever is left of a treatment.

use Rattle.std.proofs.Common.{◌≡◌, ℕ, Bool, true, false, if◌then◌else◌, List, Option, Some, None, refl, sym, ap, ◌∙◌, subst}
use Rattle.ada_meaning.proofs.Places.{is_declared, numbers_are_alone, types_have_their_operations}
use Rattle.ada_program.specs.Controlled.{number_in, number_of, operations_of, procedure_number}
use Rattle.ada_program.specs.declared.program.Finalization.{Finalization}
use Rattle.ada_program.specs.declared.program.Operations.{Operations}
use Rattle.ada_program.specs.declared.program.ProcedureNo.{ProcedureNo}
use Rattle.ada_program.specs.declared.program.Program.{Program}
use Rattle.ada_program.specs.ProgramForm.{TypeForm, record_of, ProgramForm, program_form}
use Rattle.ada_program.specs.WellFormed.{IsWellFormed, finalization_in, finalization_of, is_inherited}
use Rattle.ada_quiet.proofs.CalmTypes.{calm_is_told_within}
use Rattle.ada_quiet.specs.Calm.{inheriting_types, inherits, is_known_calm}
use Rattle.ada_sound.proofs.Allowance.{allowance_of}
use Rattle.ada_sound.proofs.AssignedParts.{found_in}
use Rattle.ada_sound.proofs.FrugalSteps.{CallsNothing, StaysInert}
use Rattle.ada_sound.proofs.InsideRecords.{Inside, itself, within, next_inside, picked_inside}

-- What is inherited is no procedure.
inherited_none : (o : Option ProcedureNo) → is_inherited o ≡ true → procedure_number o ≡ None
inherited_none None inherited = refl
inherited_none (Some procedure) inherited = absurd (cc inherited)

-- A record that lies in one of a type lies in one with controlled parts.
pub inside_some : (types : List TypeForm) (t of : ℕ) → Inside types t of → (f : Finalization) × (finalization_of types t ≡ Some f)
inside_some types t _ (itself n is) = by (finalization_of types t) refl is
  where
    by : (o : Option Finalization) → finalization_of types t ≡ o → number_in o ≡ Some n → (f : Finalization) × (finalization_of types t ≡ Some f)
    by None found numbered = absurd (cc numbered)
    by (Some f) found numbered = (f, found)
inside_some types t _ (within of part i c inside at) = inside_some types t of inside

module _ (program : Program) (well : IsWellFormed (program_form program)) where
  abbrev p : ProgramForm
  p = program_form program

  -- That is not overridden of what lies in such a record.
  overridden_none :
      (finalize : Bool) (t of : ℕ) → Inside p.types t of → is_known_calm (inheriting_types finalize p.types) (finalization_of p.types t) ≡ true
      → procedure_number (if finalize then (operations_of program.types.items of).finalize else (operations_of program.types.items of).adjust) ≡ None
  overridden_none finalize t of inside calm =
      let l = found_in program well t of inside in
      let r = l.record_type in
      let d = is_declared program r of l.numbered in
      let some = inside_some p.types t of inside in
      let told = subst (λ (o : Option Finalization). is_known_calm (inheriting_types finalize p.types) o ≡ true) some.1 calm in
      let nothing : inherits finalize (Some d.f) ≡ true =
      (calm_is_told_within p (λ u. inherits finalize (finalization_in (Some u))) well t some.0 some.1).0 told r l.first l.part
      (record_of d.declares.0 d.ps d.declares.1 (Some d.f)) l.walk d.declares.2 in
      let alone : (u : ℕ) → number_of program.types.items (Some u) ≡ Some d.f.number.0 → u ≡ r = λ u is. numbers_are_alone program u r of well (is ∙ ap (λ (n : ℕ). Some n) d.numbered) l.numbered in
      let own : operations_of program.types.items of ≡ d.f.operations =
      ap (operations_of program.types.items) (sym d.numbered) ∙ types_have_their_operations program r d.ps d.f d.declares alone in
      ap (λ (o : Operations). procedure_number (if finalize then o.finalize else o.adjust)) own
      ∙ inherited_none (if finalize then d.f.operations.finalize else d.f.operations.adjust) nothing

  pub inert_calls : CallsNothing (allowance_of p) program.types.items
  inert_calls tasks of part next = (
    λ known. overridden_none false known.0 of (next_inside p.types known.0 of part tasks known.2 next) known.1,
    λ known. overridden_none true known.0 of (next_inside p.types known.0 of part tasks known.2 next) known.1,
  )

-- It stays inert.
pub stays_inert : (program : Program) → StaysInert (allowance_of (program_form program)) program.types.items
stays_inert program known tasks direction i inert = (inert.0, inert.1, picked_inside program inert.0 direction tasks i inert.2)
