-- What an operation of a record does not do, no procedure does that overrides it of the type of a part to which the treatment of the record comes (7.6, 7.6.1).

use Rattle.std.proofs.Common.{◌≡◌, ℕ, false, List, ◌∷◌, Some, sym, ap, ◌∙◌, subst}
use Rattle.std.specs.List.{slice_get}
use Rattle.std.specs.Option.{option_map}
use Rattle.std.proofs.lemmas.Bool.{false_from_ne_true}
use Rattle.std.proofs.lemmas.Option.{slice_get-map}
use Rattle.ada_deeds.specs.Does.{Does}
use Rattle.ada_deeds.specs.Forms.{overriding}
use Rattle.ada_deeds.specs.Within.{does_by}
use Rattle.ada_deeds.specs.declared.deed.Callee.TheVariants as callee
use Rattle.ada_deeds.specs.declared.deed.Deed.{Deed}
use Rattle.ada_deeds.specs.declared.deed.Operation.{Operation}
use Rattle.ada_deeds.proofs.Starting.{component_out, own_out}
use Rattle.ada_deeds.proofs.Within.{counts_are_enough}
use Rattle.ada_meaning.proofs.Places.{is_declared, known, numbers_are_alone, types_have_their_operations}
use Rattle.ada_parts.specs.declared.tasks.Direction.{Direction}
use Rattle.ada_parts.specs.Task.{Task, performs}
use Rattle.ada_program.specs.declared.program.Part.{Part}
use Rattle.ada_program.specs.declared.program.Program.{Program}
use Rattle.ada_program.specs.declared.program.TypeDefinition.{TypeDefinition}
use Rattle.ada_program.specs.Controlled.{number_of, operations_of, parts_by, procedure_number, type_numbered}
use Rattle.ada_program.specs.ProgramForm.{PartForm, ProgramForm, part_form, program_form}
use Rattle.ada_program.specs.WellFormed.{IsWellFormed}
use Rattle.ada_reaching.specs.Apart.{IsLeftIn}
use Rattle.ada_reaching.proofs.Inert.{HoldsIn, left_each}
use Rattle.ada_sound.proofs.Started.{numbered_one}

module _ (program : Program) (well : IsWellFormed (program_form program)) (operation : Operation) (deed : Deed) where
  abbrev p : ProgramForm
  p = program_form program

  abbrev types : List TypeDefinition
  types = program.types.items

  -- The operation of a record of a type does not do it.
  abbrev IsSpared : ℕ → Type 0
  IsSpared t = does_by p deed (callee.Parts operation (record { 0 = t })) ≡ false

  -- So it is with the type of a number among those with controlled parts.
  abbrev HasSpared : ℕ → Type 0
  HasSpared n = (t : ℕ) × (number_of types (Some t) ≡ Some n) × IsSpared t

  -- What is done is known to be done.
  known_done : (t : ℕ) → IsSpared t → Does p deed (callee.Parts operation (record { 0 = t })) → ⊥
  known_done t spared done =
      let is = (counts_are_enough p deed (callee.Parts operation (record { 0 = t }))).1 done in
      cc (spared, is)

  -- Nor do those of its declared components.
  spared_parts : (n : ℕ) → HasSpared n → HoldsIn HasSpared types (parts_by (type_numbered types n))
  spared_parts n (t, numbered, spared) =
      let d = is_declared program t n numbered in
      let k = known program t d.ps d.f well d.declares in
      let lists : parts_by (type_numbered types n) ≡ k.qs = ap (λ (m : ℕ). parts_by (type_numbered types m)) (sym d.numbered) ∙ k.lists in
      subst (λ (qs : List Part). HoldsIn HasSpared types qs) (sym lists)
      (λ i q v m at is number.
      let form_at : slice_get d.ps i ≡ Some (part_form q) =
      ap (λ (rs : List PartForm). slice_get rs i) k.forms ∙ slice_get-map part_form k.qs i ∙ ap (option_map part_form) at in
      let none = false_from_ne_true (does_by p deed (callee.Parts operation v)) (λ done.
      let inner = (counts_are_enough p deed (callee.Parts operation v)).0 done in
      known_done t spared
      (component_out p deed operation (record { 0 = t }) d.declares.0 d.ps d.declares.1 (Some d.f) i (part_form q) v d.declares.2 form_at is inner)) in
      (v.0, number, none))

  -- So a procedure does not that overrides it of the type.
  spared_called :
      (n number : ℕ) → HasSpared n → procedure_number (overriding operation (operations_of types n)) ≡ Some number
      → does_by p deed (callee.Procedure (record { 0 = number })) ≡ false
  spared_called n number (t, numbered, spared) overrides =
      let d = is_declared program t n numbered in
      let alone : (u : ℕ) → number_of types (Some u) ≡ Some d.f.number.0 → u ≡ t =
      λ u is. numbers_are_alone program u t n well (is ∙ ap (λ (m : ℕ). Some m) d.numbered) numbered in
      let own : operations_of types n ≡ d.f.operations =
      ap (operations_of types) (sym d.numbered) ∙ types_have_their_operations program t d.ps d.f d.declares alone in
      let one = numbered_one (overriding operation d.f.operations) number (sym (ap (λ o. procedure_number (overriding operation o)) own) ∙ overrides) in
      false_from_ne_true (does_by p deed (callee.Procedure (record { 0 = number }))) (λ done.
      let does = (counts_are_enough p deed (callee.Procedure (record { 0 = number }))).0 done in
      let out : Does p deed (callee.Procedure one.0) = subst (λ (m : ℕ). Does p deed (callee.Procedure (record { 0 = m }))) (sym one.2) does in
      known_done t spared (own_out p deed operation (record { 0 = t }) d.declares.0 d.ps d.declares.1 d.f one.0 d.declares.2 one.1 out))

-- So it is where the treatment of a record comes to a part.
pub left_spares :
    (program : Program) → IsWellFormed (program_form program) → (operation : Operation) (direction : Direction) (deed : Deed) (record_type of part number : ℕ) (tasks : List Task)
    → does_by (program_form program) deed (callee.Parts operation (record { 0 = record_type })) ≡ false
    → IsLeftIn program.types.items direction record_type (performs of part ∷ tasks)
    → procedure_number (overriding operation (operations_of program.types.items of)) ≡ Some number
    → does_by (program_form program) deed (callee.Procedure (record { 0 = number })) ≡ false
left_spares program well operation direction deed record_type of part number tasks spared left overrides =
    let each =
    left_each program.types.items (HasSpared program well operation deed) (spared_parts program well operation deed) direction record_type
    (λ n numbered. (record_type, numbered, spared)) left in
    spared_called program well operation deed of number each.0 overrides
