-- What the body of an operation frees is among what the start or the end of an object may free, in which such a part lies (7.6, 7.6.1, 13.11.2).

use Rattle.ada_sound.proofs.Started.{record_named, numbered_one}
use Rattle.std.proofs.Common.{◌≡◌, ℕ, Bool, true, false, ◌||◌, List, [], ◌∷◌, refl, sym, ap, ◌∙◌, subst}
use Rattle.std.specs.Prelude.{Option, Some, None, ◌==◌}
use Rattle.std.proofs.lemmas.Bool.{eqb-true, or_left, or_right}
use Rattle.std.specs.List.{list_any, slice_get}
use Rattle.ada_deeds.specs.Does.{Does}
use Rattle.ada_deeds.specs.Forms.{overriding, parts_do}
use Rattle.ada_deeds.specs.Implicit.{implicit_of, record_at}
use Rattle.ada_deeds.specs.Laws.{DoesFree, known_to_free}
use Rattle.ada_deeds.specs.Within.{does_by}
use Rattle.ada_deeds.specs.declared.deed.Callee.TheVariants as callee
use Rattle.ada_deeds.specs.declared.deed.Deed.{Deed}
use Rattle.ada_deeds.specs.declared.deed.Operation.{Operation}
use Rattle.ada_deeds.specs.declared.deed.Operation.TheVariants.{Initialize, Finalize}
use Rattle.ada_deeds.proofs.Freed.{deed}
use Rattle.ada_deeds.proofs.Known.{frees_are_done}
use Rattle.ada_deeds.proofs.Starting.{own_out, walked_out}
use Rattle.ada_deeds.proofs.Within.{counts_are_enough}
use Rattle.ada_flow.specs.Flow.{is_among}
use Rattle.ada_meaning.proofs.Places.{is_declared, numbers_are_alone, types_have_their_operations}
use Rattle.ada_program.specs.declared.program.Program.{Program}
use Rattle.ada_program.specs.Controlled.{number_of, operations_of, procedure_number}
use Rattle.ada_program.specs.ProgramForm.{BodyForm, ProgramForm, program_form, body_forms, seen_in}
use Rattle.ada_program.specs.WellFormed.{IsWellFormed, named_in}
use Rattle.ada_sound.proofs.Bodies.{effect_at, seen_is}
use Rattle.ada_sound.proofs.Invariant.{CoveredIn}
use Rattle.ada_typed.specs.Holding.{WalksTo}
use Rattle.ada_typed.proofs.Inner.{lies_at}
use Rattle.ada_typed.proofs.Lying.{IsOperable}

-- What a body may free, calls of its procedure are known to free.
pub covered_known : (p : ProgramForm) (number t : ℕ) (b : BodyForm) → slice_get p.bodies number ≡ Some b → CoveredIn (implicit_of p) (seen_in (Some number) p) t → known_to_free p number t ≡ true
covered_known p number t b there may =
    let effect = effect_at p.types (implicit_of p) p.bodies number b there in
    rw effect (rw (seen_is p number b there) at may)

-- So its procedure frees it.
pub covered_done : (p : ProgramForm) → IsWellFormed p → (number t : ℕ) (b : BodyForm) → slice_get p.bodies number ≡ Some b → CoveredIn (implicit_of p) (seen_in (Some number) p) t → DoesFree p number t
covered_done p well number t b there may = frees_are_done p well number t (covered_known p number t b there may)

module _ (program : Program) (well : IsWellFormed (program_form program)) where
  abbrev p : ProgramForm
  p = program_form program

  -- What an operation of a record does, that of an object in which it lies does.
  pub lying_does : (d : Deed) (operation : Operation) (access r first part : ℕ) (o : Option ℕ) → named_in (slice_get p.types access) ≡ o → WalksTo p.types o (Some r) first part →
      Does p d (callee.Parts operation (record { 0 = r })) → parts_do (does_by p d) operation (record_at p.types access) ≡ true
  lying_does d operation access r first part None named walks h = absurd walks
  lying_does d operation access r first part (Some u) named walks h =
      let whole = walked_out p d operation u first part r walks h in
      ap (parts_do (does_by p d) operation) (record_named access (slice_get p.types access) u named)
      ∙ (counts_are_enough p d (callee.Parts operation (record { 0 = u }))).1 whole

  -- So it is with what a procedure does that overrides the operation of a record that lies in an object.
  pub done_lying :
      (d : Deed) (operation : Operation) (access of part number : ℕ) → IsOperable p.types access of part
      → procedure_number (overriding operation (operations_of program.types.items of)) ≡ Some number
      → Does p d (callee.Procedure (record { 0 = number })) → parts_do (does_by p d) operation (record_at p.types access) ≡ true
  done_lying d operation access of part number operable overrides done =
      let l = lies_at program well access of part operable.0 in
      let r = l.record_type in
      let declared = is_declared program r of l.numbered in
      let alone : (u : ℕ) → number_of program.types.items (Some u) ≡ Some declared.f.number.0 → u ≡ r =
      λ u is. numbers_are_alone program u r of well (is ∙ ap (λ (n : ℕ). Some n) declared.numbered) l.numbered in
      let own : operations_of program.types.items of ≡ declared.f.operations =
      ap (operations_of program.types.items) (sym declared.numbered) ∙ types_have_their_operations program r declared.ps declared.f declared.declares alone in
      let one = numbered_one (overriding operation declared.f.operations) number (sym (ap (λ o. procedure_number (overriding operation o)) own) ∙ overrides) in
      let out : Does p d (callee.Procedure one.0) = subst (λ (n : ℕ). Does p d (callee.Procedure (record { 0 = n }))) (sym one.2) done in
      lying_does d operation access r l.first part (named_in (slice_get p.types access)) refl l.walk
      (own_out p d operation (record { 0 = r }) declared.declares.0 declared.ps declared.declares.1 declared.f one.0 declared.declares.2 one.1 out)

-- What the body of a Finalize may free, the end of an object may free in which such a part lies.
pub ends_free : (program : Program) → IsWellFormed (program_form program) → (access of part number : ℕ) (b : BodyForm) → IsOperable (program_form program).types access of part
    → procedure_number (operations_of program.types.items of).finalize ≡ Some number → slice_get (body_forms program) number ≡ Some b
    → (t : ℕ) → CoveredIn (implicit_of (program_form program)) (seen_in (Some number) (program_form program)) t
    → (implicit_of (program_form program)).end_frees access t ≡ true
ends_free program well access of part number b operable overrides there t covered =
    done_lying program well (deed t) Finalize access of part number operable overrides (covered_done (program_form program) well number t b there covered)

-- What the body of an Initialize may free, the start of such an object may.
pub starts_free : (program : Program) → IsWellFormed (program_form program) → (access of part number : ℕ) (b : BodyForm) → IsOperable (program_form program).types access of part
    → procedure_number (operations_of program.types.items of).initialize ≡ Some number → slice_get (body_forms program) number ≡ Some b
    → (t : ℕ) → CoveredIn (implicit_of (program_form program)) (seen_in (Some number) (program_form program)) t
    → (implicit_of (program_form program)).start_frees access t ≡ true
starts_free program well access of part number b operable overrides there t covered =
    let p = program_form program in
    let known = does_by p (deed t) in
    let o = record_at p.types access in
    or_left (parts_do known Initialize o) (parts_do known Finalize o)
    (done_lying program well (deed t) Initialize access of part number operable overrides (covered_done p well number t b there covered))

-- What the end of an object may free, its creation may: what has begun is finalized where an exception comes out (7.6.1).
pub ends_in_starts : (p : ProgramForm) (access t : ℕ) → (implicit_of p).end_frees access t ≡ true → (implicit_of p).start_frees access t ≡ true
ends_in_starts p access t frees =
    let known = does_by p (deed t) in
    let o = record_at p.types access in
    or_right (parts_do known Initialize o) (parts_do known Finalize o) frees

-- What the end of the objects of a type may free, that of the objects of some types may, of which it is one.
pub any_end : (may : ℕ → Bool) (access : ℕ) (types : List ℕ) → is_among types (Some access) ≡ true → may access ≡ true → list_any may types ≡ true
any_end may access [] among is = absurd (cc among)
any_end may access (u ∷ types) among is = by (access == u) refl among (λ also. any_end may access types also is)
  where
    by : (here : Bool) → (access == u) ≡ here → (here || is_among types (Some access)) ≡ true → (is_among types (Some access) ≡ true → list_any may types ≡ true)
        → (may u || list_any may types) ≡ true
    by true same also later = let one : access ≡ u = eqb-true access u same in or_left (may u) (list_any may types) (ap may (sym one) ∙ is)
    by false same also later = or_right (may u) (list_any may types) (later also)
