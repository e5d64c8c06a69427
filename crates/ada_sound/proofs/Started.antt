-- What comes out of the body of an Initialize is among what the initialization of an object may raise, in which such a part lies (7.6).

use Rattle.std.proofs.Common.{◌≡◌, ℕ, true, ◌++◌, [], map, take, refl, sym, ap, ◌∙◌}
use Rattle.std.specs.Prelude.{Option, Some, None}
use Rattle.std.specs.List.{list_any, slice_get}
use Rattle.ada_program.specs.declared.program.Exception.{Exception}
use Rattle.ada_program.specs.declared.program.ProcedureNo.{ProcedureNo}
use Rattle.ada_program.specs.declared.program.Program.{Program}
use Rattle.ada_program.specs.Controlled.{number_of, operations_of, procedure_number}
use Rattle.ada_program.specs.Handling.{is_same}
use Rattle.ada_program.specs.ProgramForm.{TypeForm, record_of, access_to, object_of, BodyForm, ProgramForm, program_form, body_forms}
use Rattle.ada_program.specs.WellFormed.{IsWellFormed, named_in, profile_of}
use Rattle.ada_deeds.specs.Does.{Does}
use Rattle.ada_deeds.specs.Implicit.{record_in, implicit_of}
use Rattle.ada_deeds.specs.declared.deed.Callee.TheVariants as callee
use Rattle.ada_deeds.specs.declared.deed.Deed.TheVariants.{Raises}
use Rattle.ada_deeds.specs.declared.deed.Operation.TheVariants.{Initialize}
use Rattle.ada_deeds.proofs.Starting.{body_comes_out, own_out, walked_out, initialize_out}
use Rattle.ada_effects.specs.Effects.{no_calls, body_raises}
use Rattle.ada_meaning.proofs.Places.{is_declared, numbers_are_alone, types_have_their_operations}
use Rattle.ada_typed.specs.Holding.{WalksTo}
use Rattle.ada_typed.proofs.Bodies.{body_at}
use Rattle.ada_typed.proofs.Inner.{lies_at}
use Rattle.ada_typed.proofs.Lying.{Lies, IsOperable}

-- The record type of the objects that the values of a type name is that of its objects.
pub record_named : (u : ℕ) (o : Option TypeForm) (r : ℕ) → named_in o ≡ Some r → record_in u o ≡ Some r
record_named u None r is = absurd (cc is)
record_named u (Some (record_of name parts components finalization)) r is = absurd (cc is)
record_named u (Some (access_to name designated pool)) r is = is
record_named u (Some (object_of record_type)) r is = is

-- The procedure of a number.
pub numbered_one : (o : Option ProcedureNo) (number : ℕ) → procedure_number o ≡ Some number → (procedure : ProcedureNo) × (o ≡ Some procedure) × (procedure.0 ≡ number)
numbered_one None number is = absurd (cc is)
numbered_one (Some procedure) number is = (procedure, refl, cc is)

module _ (program : Program) (well : IsWellFormed (program_form program)) where
  abbrev p : ProgramForm
  p = program_form program

  -- What comes out of the initialization of a record comes out of that of an object in which it lies.
  lying_out : (access t first part : ℕ) (o : Option ℕ) (e : Exception) → named_in (slice_get p.types access) ≡ o → WalksTo p.types o (Some t) first part →
      Does p (Raises e) (callee.Parts Initialize (record { 0 = t })) → list_any (is_same e) ((implicit_of p).start_raises access) ≡ true
  lying_out access t first part None e named walks h = absurd walks
  lying_out access t first part (Some r) e named walks h =
      initialize_out p e access r (record_named access (slice_get p.types access) r named) (walked_out p (Raises e) Initialize r first part t walks h)

  -- What the body raises that overrides Initialize of a record that lies in an object, the creation of the object may raise.
  started :
      (access of part number : ℕ) (b : BodyForm) (e : Exception) → Lies p.types access of part
      → procedure_number (operations_of program.types.items of).initialize ≡ Some number → slice_get (body_forms program) number ≡ Some b
      → body_raises no_calls b (is_same e) ≡ true → list_any (is_same e) ((implicit_of p).start_raises access) ≡ true
  started access of part number b e lies overrides there raised =
      let l = lies_at program well access of part lies in
      let t = l.record_type in
      let d = is_declared program t of l.numbered in
      let alone : (u : ℕ) → number_of program.types.items (Some u) ≡ Some d.f.number.0 → u ≡ t =
      λ u is. numbers_are_alone program u t of well (is ∙ ap (λ (n : ℕ). Some n) d.numbered) l.numbered in
      let own : operations_of program.types.items of ≡ d.f.operations =
      ap (operations_of program.types.items) (sym d.numbered) ∙ types_have_their_operations program t d.ps d.f d.declares alone in
      let one = numbered_one d.f.operations.initialize number (sym (ap (λ o. procedure_number o.initialize) own) ∙ overrides) in
      let at : slice_get p.bodies one.0.0 ≡ Some b = ap (slice_get p.bodies) one.2 ∙ there in
      let fits = body_at p.types p.texts p.exceptions [] p.bodies one.0.0 b well.bodies_fit at in
      let out = body_comes_out p well.types_fit ([] ++ map profile_of (take one.0.0 p.bodies)) one.0 b at fits e raised in
      lying_out access t l.first part (named_in (slice_get p.types access)) e refl l.walk
      (own_out p (Raises e) Initialize (record { 0 = t }) d.declares.0 d.ps d.declares.1 d.f one.0 d.declares.2 one.1 out)

pub starts_raise : (program : Program) → IsWellFormed (program_form program) → (access of part number : ℕ) (b : BodyForm) → IsOperable (program_form program).types access of part
    → procedure_number (operations_of program.types.items of).initialize ≡ Some number → slice_get (body_forms program) number ≡ Some b
    → (e : Exception) → body_raises no_calls b (is_same e) ≡ true → list_any (is_same e) ((implicit_of (program_form program)).start_raises access) ≡ true
starts_raise program well access of part number b operable is there e may = started program well access of part number b e operable.0 is there may
