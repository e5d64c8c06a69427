-- What the Adjust of a part of a record may free that was copied, the adjustment of that record may, and that of the object in which it lies (7.6).

use Rattle.std.proofs.Common.{◌≡◌, ℕ, true, refl, sym, ap, ◌∙◌, subst, ◌⊎◌, inl, inr, List, ◌∷◌}
use Rattle.std.specs.Prelude.{Option, Some, None}
use Rattle.std.specs.List.{slice_get}
use Rattle.ada_deeds.proofs.Freed.{deed}
use Rattle.ada_deeds.proofs.Starting.{own_out, walked_out}
use Rattle.ada_deeds.proofs.Within.{counts_are_enough}
use Rattle.ada_deeds.specs.declared.deed.Callee.TheVariants as callee
use Rattle.ada_deeds.specs.declared.deed.Operation.TheVariants.{Adjust}
use Rattle.ada_deeds.specs.Does.{Does}
use Rattle.ada_deeds.specs.Forms.{parts_do}
use Rattle.ada_deeds.specs.Implicit.{implicit_of}
use Rattle.ada_deeds.specs.Within.{does_by}
use Rattle.ada_meaning.specs.declared.event.Birth.{Birth}
use Rattle.ada_meaning.specs.Step.{beginning}
use Rattle.ada_parts.specs.Task.{Task, performs}
use Rattle.ada_program.specs.Controlled.{number_in, operations_of, procedure_number}
use Rattle.ada_program.specs.declared.program.Finalization.{Finalization}
use Rattle.ada_program.specs.declared.program.Operations.{Operations}
use Rattle.ada_program.specs.declared.program.Program.{Program}
use Rattle.ada_program.specs.ProgramForm.{BodyForm, ProgramForm, body_forms, program_form, seen_in}
use Rattle.ada_program.specs.WellFormed.{IsWellFormed, finalization_of}
use Rattle.ada_sound.proofs.AdjustingEnters.{adjust_called, called_operable, called_record, own_operations}
use Rattle.ada_sound.proofs.AssignedParts.{own_record}
use Rattle.ada_sound.proofs.CopiedOwners.{BeginsCopy, CopyLeft}
use Rattle.ada_sound.proofs.FrugalUseEnds.{covered_done, done_lying}
use Rattle.ada_sound.proofs.Invariant.{CoveredIn}
use Rattle.ada_sound.proofs.OnlyParts.{IsControlled}
use Rattle.ada_sound.proofs.PartsApart.{PartWithin}
use Rattle.ada_sound.proofs.Started.{numbered_one}

-- A type that has a number among those with controlled parts says which operations they have.
some_finalization : (o : Option Finalization) (n : ℕ) → number_in o ≡ Some n → (f : Finalization) × (o ≡ Some f)
some_finalization None n numbered = absurd (cc numbered)
some_finalization (Some f) n numbered = (f, refl)

module _ (program : Program) (well : IsWellFormed (program_form program)) where
  abbrev p : ProgramForm
  p = program_form program

  module _
      (access r of part : ℕ) (tasks : List Task) (left : CopyLeft p.types access r (performs of part ∷ tasks)) (number : ℕ) (b : BodyForm)
      (there : slice_get (body_forms program) number ≡ Some b) (overrides : procedure_number (operations_of program.types.items of).adjust ≡ Some number) (u : ℕ)
      (covered : CoveredIn (implicit_of p) (seen_in (Some number) p) u)
    where
      abbrev lies : PartWithin p.types access r left.first left.part of part
      lies = called_record program well access r of part tasks left

      abbrev c : IsControlled p.types lies.placed.record_type
      c = lies.placed.controlled

      -- What its body frees, the adjustment of the record does in which it lies.
      record_frees : (implicit_of p).adjust_frees r u ≡ true
      record_frees =
          let d = deed u in
          let own = own_operations program well lies.placed.record_type of c.name c.parts c.components c.finalization c.declared lies.placed.numbered in
          let one = numbered_one c.finalization.operations.adjust number (sym (ap (λ (operations : Operations). procedure_number operations.adjust) own) ∙ overrides) in
          let done = subst (λ (n : ℕ). Does p d (callee.Procedure (record { 0 = n }))) (sym one.2) (covered_done p well number u b there covered) in
          let out = own_out p d Adjust (record { 0 = lies.placed.record_type }) c.name c.parts c.components c.finalization one.0 c.declared one.1 done in
          let whole = walked_out p d Adjust r lies.before lies.count lies.placed.record_type lies.walks out in
          let said = some_finalization (finalization_of p.types r) left.of left.numbered in
          ap (parts_do (does_by p d) Adjust) (own_record r (slice_get p.types r) said.0 said.1) ∙ (counts_are_enough p d (callee.Parts Adjust (record { 0 = r }))).1 whole

      -- So does the adjustment of the object.
      object_frees : (implicit_of p).adjust_frees access u ≡ true
      object_frees =
          done_lying program well (deed u) Adjust access of part number (called_operable program well access r of part tasks left) overrides (covered_done p well number u b there covered)

-- So it is with what is adjusted for a copy.
pub adjusted_frees :
    (program : Program) → IsWellFormed (program_form program) → (access r of part : ℕ) (tasks : List Task)
    → CopyLeft (program_form program).types access r (performs of part ∷ tasks) → (t : ℕ) → (t ≡ access) ⊎ (t ≡ r)
    → (by : Birth) → BeginsCopy by → (number : ℕ) (b : BodyForm) → slice_get (body_forms program) number ≡ Some b
    → beginning by (operations_of program.types.items of) ≡ Some number
    → (u : ℕ) → CoveredIn (implicit_of (program_form program)) (seen_in (Some number) (program_form program)) u
    → (implicit_of (program_form program)).adjust_frees t u ≡ true
adjusted_frees program well access r of part tasks left t (inl same) by copies number b there called u covered =
    subst (λ (n : ℕ). (implicit_of (program_form program)).adjust_frees n u ≡ true) (sym same)
    (object_frees program well access r of part tasks left number b there (adjust_called by (operations_of program.types.items of) number copies called) u covered)
adjusted_frees program well access r of part tasks left t (inr same) by copies number b there called u covered =
    subst (λ (n : ℕ). (implicit_of (program_form program)).adjust_frees n u ≡ true) (sym same)
    (record_frees program well access r of part tasks left number b there (adjust_called by (operations_of program.types.items of) number copies called) u covered)
