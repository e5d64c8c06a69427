-- What is finalized at an assignment (5.2, 7.6.1): the records with controlled parts that are of the type of what is assigned to, or lie in such a record. What
-- their bodies free is among what the assignment may free; and what is assigned to lies in a declared object, where no access type designates such records.

use Rattle.std.proofs.Common.{◌≡◌, ℕ, zero, suc, ◌+◌, ◌==◌, Bool, true, false, if◌then◌else◌, List, [], ◌∷◌, ◌++◌, length, map, Option, Some, None, refl, sym, ap, ◌∙◌, subst}
use Rattle.std.specs.Prelude.{count_by}
use Rattle.std.specs.List.{slice_get}
use Rattle.std.specs.Option.{option_map}
use Rattle.std.proofs.lemmas.Bool.{eqb-true, or_left}
use Rattle.std.proofs.lemmas.Option.{slice_get-map}
use Rattle.ada_deeds.specs.Does.{Does}
use Rattle.ada_deeds.specs.Forms.{overriding, parts_do}
use Rattle.ada_deeds.specs.Implicit.{implicit_of, record_in}
use Rattle.ada_deeds.specs.Within.{does_by}
use Rattle.ada_deeds.specs.declared.deed.Callee.TheVariants as callee
use Rattle.ada_deeds.specs.declared.deed.Deed.{Deed}
use Rattle.ada_deeds.specs.declared.deed.Operation.{Operation}
use Rattle.ada_deeds.specs.declared.deed.Operation.TheVariants.{Finalize}
use Rattle.ada_deeds.proofs.Freed.{deed}
use Rattle.ada_deeds.proofs.Starting.{own_out, walked_out}
use Rattle.ada_deeds.proofs.Within.{counts_are_enough}
use Rattle.ada_effects.specs.Effects.{assignment_frees}
use Rattle.ada_meaning.proofs.Places.{is_declared, known, numbers_are_alone, types_have_their_operations}
use Rattle.ada_parts.specs.declared.tasks.Component.{Component}
use Rattle.ada_parts.specs.Part.{components_of, in_order}
use Rattle.ada_parts.specs.Shape.{Shape, own_parts, parts_of, shape_of}
use Rattle.ada_parts.specs.Task.{performs}
use Rattle.ada_program.specs.declared.program.Finalization.{Finalization}
use Rattle.ada_program.specs.declared.program.Part.{Part}
use Rattle.ada_program.specs.declared.program.PartKind.{PartKind}
use Rattle.ada_program.specs.declared.program.PartKind.TheVariants as kinds
use Rattle.ada_program.specs.declared.program.Program.{Program}
use Rattle.ada_program.specs.declared.program.TypeDefinition.{TypeDefinition}
use Rattle.ada_program.specs.declared.program.TypeNo.{TypeNo}
use Rattle.ada_program.specs.Controlled.{number_of, operations_of, procedure_number, type_numbered, parts_by, if_parts, with_parts, components_with_parts, shape_by, shapes_up_to, has_parts, shapes_of}
use Rattle.ada_program.specs.ProgramForm.{PartForm, TypeForm, record_of, access_to, object_of, part_form, type_form, BodyForm, ProgramForm, program_form, body_forms, seen_in}
use Rattle.ada_program.specs.Walks.{Walks, ends}
use Rattle.ada_program.specs.WellFormed.{IsWellFormed, finalization_in, finalization_of}
use Rattle.ada_program.proofs.Shapes.{same_number, shapes_length}
use Rattle.ada_program.proofs.Walks.{one_step, walks_on}
use Rattle.ada_sound.proofs.FrugalUseEnds.{covered_done}
use Rattle.ada_sound.proofs.Invariant.{CoveredIn}
use Rattle.ada_sound.proofs.Started.{numbered_one}
use Rattle.ada_typed.proofs.Parts.{shapes_shown}
use Rattle.ada_meaning.specs.declared.event.Birth.TheVariants.{Creation, Copy, Adjustment}
use Rattle.ada_meaning.specs.declared.event.Cause.{Cause}
use Rattle.ada_meaning.specs.declared.event.Cause.TheVariants.{Leaving, Freeing, Assigning, Undoing}
use Rattle.ada_meaning.specs.Frame.{Copies, Treatment, begins, ends as finalizes}
use Rattle.ada_sound.proofs.FrugalUseEnds.{ends_free, starts_free}
use Rattle.ada_sound.proofs.InsideRecords.{Inside, itself, within}
use Rattle.ada_sound.proofs.Invariant.{Control, IsOfCopied, IsOfAssigned}
use Rattle.ada_sound.proofs.Operating.{IsCalled}
use Rattle.ada_sound.proofs.Touching.{ended_frees, treated_frees}
use Rattle.ada_typed.proofs.Lying.{IsOperable}

-- A declared component is of the record type that has this number.
record Declared (types : List TypeDefinition) (qs : List Part) (of : ℕ) : Type 0 where
  i : ℕ
  q : Part
  u : TypeNo
  at : slice_get qs i ≡ Some q
  is : q.kind ≡ kinds.Record u
  numbered : number_of types (Some u.0) ≡ Some of

module _ (types : List TypeDefinition) where
  further : (q : Part) (qs : List Part) (of : ℕ) → Declared types qs of → Declared types (q ∷ qs) of
  further q qs of d = record { i = suc d.i; q = d.q; u = d.u; at = d.at; is = d.is; numbered = d.numbered }

  -- Each number among those of the components with controlled parts is that of a declared component.
  module _ (older : List Shape) (q : Part) (qs : List Part) (of : ℕ) (more : (j : ℕ) → slice_get (components_with_parts types older qs) j ≡ Some of → Declared types qs of) where
    by_count :
        (u : TypeNo) (n : ℕ) → q.kind ≡ kinds.Record u → number_of types (Some u.0) ≡ Some n → (none : Bool) (j : ℕ)
        → slice_get ((if none then [] else n ∷ []) ++ components_with_parts types older qs) j ≡ Some of → Declared types (q ∷ qs) of
    by_count u n is numbered true j at = further q qs of (more j at)
    by_count u n is numbered false zero at =
        let one : n ≡ of = cc at in record { i = 0; q = q; u = u; at = refl; is = is; numbered = numbered ∙ ap (λ (m : ℕ). Some m) one }
    by_count u n is numbered false (suc j) at = further q qs of (more j at)

    by_number :
        (u : TypeNo) (o : Option ℕ) → q.kind ≡ kinds.Record u → number_of types (Some u.0) ≡ o → (j : ℕ)
        → slice_get (if_parts older o ++ components_with_parts types older qs) j ≡ Some of → Declared types (q ∷ qs) of
    by_number u None is numbered j at = further q qs of (more j at)
    by_number u (Some n) is numbered j at = by_count u n is numbered (parts_of older n == 0) j at

    by_kind :
        (kind : PartKind) → q.kind ≡ kind → (j : ℕ) → slice_get (with_parts types older kind ++ components_with_parts types older qs) j ≡ Some of
        → Declared types (q ∷ qs) of
    by_kind (kinds.Elementary kind) is j at = further q qs of (more j at)
    by_kind (kinds.Record u) is j at = by_number u (number_of types (Some u.0)) is refl j at
    by_kind kinds.Parent is j at = further q qs of (more j at)

  component_declared : (older : List Shape) (qs : List Part) (of j : ℕ) → slice_get (components_with_parts types older qs) j ≡ Some of → Declared types qs of
  component_declared older [] of j at = absurd (cc at)
  component_declared older (q ∷ qs) of j at = by_kind older q qs of (λ k there. component_declared older qs of k there) q.kind refl j at

  -- So it is with the components of the shape of a number.
  shape_declared : (count n of j : ℕ) → slice_get (shape_of (shapes_up_to types count) n).components j ≡ Some of → Declared types (parts_by (type_numbered types n)) of
  shape_declared zero n of j at = absurd (cc at)
  shape_declared (suc count) n of j at = by (n == length older) refl at (λ there. shape_declared count n of j there)
    where
      older : List Shape
      older = shapes_up_to types count

      own : Shape
      own = shape_by types older (parts_by (type_numbered types count))

      by :
          (newest : Bool) → (n == length older) ≡ newest → slice_get (if newest then own else shape_of older n).components j ≡ Some of
          → (slice_get (shape_of older n).components j ≡ Some of → Declared types (parts_by (type_numbered types n)) of) → Declared types (parts_by (type_numbered types n)) of
      by true same there more =
          let is : n ≡ count = eqb-true n (length older) same ∙ shapes_length types count in
          subst (λ (m : ℕ). Declared types (parts_by (type_numbered types m)) of) (sym is) (component_declared older (parts_by (type_numbered types count)) of j there)
      by false other there more = more there

-- The components in order have their types.
typed_at : (count : ℕ → ℕ) (ts : List ℕ) (first j : ℕ) (c : Component) → slice_get (in_order count ts first) j ≡ Some c → slice_get ts j ≡ Some c.of
typed_at count [] first j c at = absurd (cc at)
typed_at count (t ∷ ts) first zero c at = let one : record { of = t; first = first } ≡ c = cc at in ap (λ (d : Component). Some d.of) one
typed_at count (t ∷ ts) first (suc j) c at = typed_at count ts (first + count t) j c at

-- The record type of the objects of a record type with controlled parts is that type itself.
pub own_record : (t : ℕ) (o : Option TypeForm) (f : Finalization) → finalization_in o ≡ Some f → record_in t o ≡ Some t
own_record t None f is = absurd (cc is)
own_record t (Some (record_of name parts components finalization)) f is = refl
own_record t (Some (access_to name designated pool)) f is = absurd (cc is)
own_record t (Some (object_of record_type)) f is = absurd (cc is)

-- A record of the type of a number is found by walking from a record type into declared components.
pub record Found (types : List TypeDefinition) (t of : ℕ) : Type 0 where
  pub record_type : ℕ
  pub first : ℕ
  pub part : ℕ
  pub numbered : number_of types (Some record_type) ≡ Some of
  pub walk : Walks (map type_form types) t first part record_type

module _ (program : Program) (well : IsWellFormed (program_form program)) where
  abbrev p : ProgramForm
  p = program_form program

  abbrev types : List TypeDefinition
  types = program.types.items

  abbrev forms : List TypeForm
  forms = map type_form program.types.items

  -- So are its components with controlled parts.
  found_within : (t of part i : ℕ) (c : Component) → Found types t of → slice_get (components_of (shapes_of types) of part) i ≡ Some c → Found types t c.of
  found_within t of part i c l at =
      let shapes = shapes_of types in
      let r = l.record_type in
      let d = is_declared program r of l.numbered in
      let k = known program r d.ps d.f well d.declares in
      let there = typed_at (parts_of shapes) (shape_of shapes of).components (part + own_parts (shape_of shapes of)) i c at in
      let listed : parts_by (type_numbered types of) ≡ k.qs = ap (λ (n : ℕ). parts_by (type_numbered types n)) (sym d.numbered) ∙ k.lists in
      let own = subst (λ (qs : List Part). Declared types qs c.of) listed (shape_declared types (count_by has_parts types) of c.of i there) in
      let form = part_form own.q in
      let form_at : slice_get d.ps own.i ≡ Some form =
      ap (λ (rs : List PartForm). slice_get rs own.i) k.forms ∙ slice_get-map part_form k.qs own.i ∙ ap (option_map part_form) own.at in
      let step = one_step forms r own.i c.of d.declares.0 d.ps d.declares.1 d.f form own.u d.declares.2 form_at own.is (sym (same_number types own.u.0) ∙ own.numbered) in
      record {
        record_type = own.u.0;
        first = l.first + form.first;
        part = l.part + form.part;
        numbered = own.numbered;
        walk = walks_on forms t l.first l.part r form.first form.part own.u.0 l.walk step;
      }

  -- So is all that lies in a record of the type.
  pub found_in : (t of : ℕ) → Inside forms t of → Found types t of
  found_in t _ (itself n is) = record { record_type = t; first = 0; part = 0; numbered = same_number types t ∙ is; walk = ends }
  found_in t _ (within of part i c inside at) =
      found_within t of part i c (found_in t of inside)
      (ap (λ (shapes : List Shape). slice_get (components_of shapes of part) i) (sym (shapes_shown types forms refl)) ∙ at)

  -- What a procedure does that overrides the operation of such a record, the operation does for the parts of a record of the type.
  pub done_inside :
      (d : Deed) (operation : Operation) (t of number : ℕ) → Inside forms t of → procedure_number (overriding operation (operations_of types of)) ≡ Some number
      → Does p d (callee.Procedure (record { 0 = number })) → Does p d (callee.Parts operation (record { 0 = t }))
  done_inside d operation t of number inside overrides done =
      let l = found_in t of inside in
      let r = l.record_type in
      let declared = is_declared program r of l.numbered in
      let alone : (u : ℕ) → number_of types (Some u) ≡ Some declared.f.number.0 → u ≡ r =
      λ u is. numbers_are_alone program u r of well (is ∙ ap (λ (n : ℕ). Some n) declared.numbered) l.numbered in
      let own : operations_of types of ≡ declared.f.operations =
      ap (operations_of types) (sym declared.numbered) ∙ types_have_their_operations program r declared.ps declared.f declared.declares alone in
      let one = numbered_one (overriding operation declared.f.operations) number (sym (ap (λ o. procedure_number (overriding operation o)) own) ∙ overrides) in
      let out : Does p d (callee.Procedure one.0) = subst (λ (n : ℕ). Does p d (callee.Procedure (record { 0 = n }))) (sym one.2) done in
      walked_out p d operation t l.first l.part r l.walk
      (own_out p d operation (record { 0 = r }) declared.declares.0 declared.ps declared.declares.1 declared.f one.0 declared.declares.2 one.1 out)

-- What the body of a Finalize of such a record may free, an assignment to a record of the type may (5.2, 7.6.1).
pub assigned_frees : (program : Program) → IsWellFormed (program_form program) → (t of number : ℕ) (b : BodyForm) (f : Finalization) → finalization_of (program_form program).types t ≡ Some f
    → Inside (program_form program).types t of → procedure_number (operations_of program.types.items of).finalize ≡ Some number → slice_get (body_forms program) number ≡ Some b
    → (u : ℕ) → CoveredIn (implicit_of (program_form program)) (seen_in (Some number) (program_form program)) u
    → assignment_frees (implicit_of (program_form program)) u t ≡ true
assigned_frees program well t of number b f is inside overrides there u covered =
    let p = program_form program in
    let done = done_inside program well (deed u) Finalize t of number inside overrides (covered_done p well number u b there covered) in
    let ended : (implicit_of p).end_frees t u ≡ true =
    ap (parts_do (does_by p (deed u)) Finalize) (own_record t (slice_get p.types t) f is) ∙ (counts_are_enough p (deed u) (callee.Parts Finalize (record { 0 = t }))).1 done in
    or_left ((implicit_of p).end_frees t u) ((implicit_of p).adjust_frees t u) ended

-- The record that is copied behind a finalization at an assignment has controlled parts.
abbrev pub IsCopiedBehind : List TypeForm → Cause → Control → Type 0
IsCopiedBehind types (Assigning number) (Copies first t ∷ k) = (f : Finalization) × (finalization_of types t ≡ Some f)
IsCopiedBehind types cause k = Unit {0}

abbrev pub IsAssignedBehind : List TypeForm → Treatment → Control → Type 0
IsAssignedBehind types (begins by done) k = Unit {0}
IsAssignedBehind types (finalizes cause) k = IsCopiedBehind types cause k

-- What the body of such an operation may free, the treatment may that calls it (5.2, 7.6, 7.6.1).
ended_frees_of : (program : Program) → IsWellFormed (program_form program) → (access of part number : ℕ) (b : BodyForm) → IsOperable (program_form program).types access of part
    → (cause : Cause) (behind : Control) → IsOfCopied (program_form program).types cause (performs of 0 ∷ []) behind → IsCopiedBehind (program_form program).types cause behind
    → IsCalled (operations_of program.types.items of) (finalizes cause) number → slice_get (body_forms program) number ≡ Some b
    → (t : ℕ) → CoveredIn (implicit_of (program_form program)) (seen_in (Some number) (program_form program)) t
    → ended_frees (implicit_of (program_form program)) cause access behind t ≡ true
ended_frees_of program well access of part number b operable (Leaving m item) behind inside copied called there t covered = ends_free program well access of part number b operable called there t covered
ended_frees_of program well access of part number b operable (Freeing n) behind inside copied called there t covered = ends_free program well access of part number b operable called there t covered
ended_frees_of program well access of part number b operable (Assigning n) [] inside copied called there t covered = refl
ended_frees_of program well access of part number b operable (Assigning n) (Copies first u ∷ behind) inside (f, is) called there t covered = assigned_frees program well u of number b f is inside.0 called there t covered
ended_frees_of program well access of part number b operable (Assigning n) (g ∷ behind) inside copied called there t covered = refl
ended_frees_of program well access of part number b operable (Undoing n) behind inside copied called there t covered = ends_free program well access of part number b operable called there t covered

-- Something is initialized or finalized, and not adjusted.
abbrev pub IsStartOrEnd : Treatment → Type 0
IsStartOrEnd (begins Creation done) = Unit {0}
IsStartOrEnd (begins Copy done) = ⊥
IsStartOrEnd (begins (Adjustment n) done) = ⊥
IsStartOrEnd (finalizes cause) = Unit {0}

pub treated_frees_of : (program : Program) → IsWellFormed (program_form program) → (access of part number : ℕ) (b : BodyForm) → IsOperable (program_form program).types access of part
    → (treatment : Treatment) (behind : Control) → IsOfAssigned (program_form program).types treatment (performs of 0 ∷ []) behind → IsAssignedBehind (program_form program).types treatment behind
    → IsStartOrEnd treatment → IsCalled (operations_of program.types.items of) treatment number → slice_get (body_forms program) number ≡ Some b
    → (t : ℕ) → CoveredIn (implicit_of (program_form program)) (seen_in (Some number) (program_form program)) t
    → treated_frees (implicit_of (program_form program)) treatment access behind t ≡ true
treated_frees_of program well access of part number b operable (begins Creation done) behind inside copied may called there t covered = starts_free program well access of part number b operable called there t covered
treated_frees_of program well access of part number b operable (begins Copy done) behind inside copied may called there t covered = absurd may
treated_frees_of program well access of part number b operable (begins (Adjustment n) done) behind inside copied may called there t covered = absurd may
treated_frees_of program well access of part number b operable (finalizes cause) behind inside copied may called there t covered =
    ended_frees_of program well access of part number b operable cause behind inside copied called there t covered
