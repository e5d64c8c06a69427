-- For records of some types nothing is called as they are adjusted, or as they end (7.6): no Adjust, or no Finalize, is overridden of such a type, nor of the type
-- of a record that lies in one. So bodies that shun some access types may assign to these as wholes (5.2), and declare copies (3.3.1).

use Rattle.std.proofs.Common.{◌≡◌, ℕ, zero, suc, ◌+◌, ◌==◌, ◌&&◌, Bool, true, false, if◌then◌else◌, List, [], ◌∷◌, ◌++◌, length, map, Option, Some, None, refl, sym, ap, ◌∙◌, subst}
use Rattle.std.specs.Prelude.{count_by}
use Rattle.std.specs.List.{remove, slice_get}
use Rattle.std.specs.Option.{option_map}
use Rattle.std.proofs.lemmas.Bool.{eqb-true}
use Rattle.std.proofs.lemmas.Option.{slice_get-map}
use Rattle.ada_parts.specs.declared.tasks.Component.{Component}
use Rattle.ada_parts.specs.declared.tasks.Direction.{Direction}
use Rattle.ada_parts.specs.declared.tasks.Direction.TheVariants.{PartsFirst, WholeFirst}
use Rattle.ada_parts.specs.Part.{components_of, in_order}
use Rattle.ada_parts.specs.Shape.{Shape, own_parts, parts_of, shape_of}
use Rattle.ada_parts.specs.Task.{Task, performs, treats, treatment_of, operation_of, opened, opened_if, taken, performed}
use Rattle.ada_program.specs.declared.program.Finalization.{Finalization}
use Rattle.ada_program.specs.declared.program.Operations.{Operations}
use Rattle.ada_program.specs.declared.program.Part.{Part}
use Rattle.ada_program.specs.declared.program.PartKind.{PartKind}
use Rattle.ada_program.specs.declared.program.PartKind.TheVariants as kinds
use Rattle.ada_program.specs.declared.program.ProcedureNo.{ProcedureNo}
use Rattle.ada_program.specs.declared.program.Program.{Program}
use Rattle.ada_program.specs.declared.program.TypeDefinition.{TypeDefinition}
use Rattle.ada_program.specs.declared.program.TypeNo.{TypeNo}
use Rattle.ada_program.specs.Controlled.{components_with_parts, has_parts, if_parts, number_of, operations_of, parts_by, procedure_number, shape_by, shapes_of, shapes_up_to, type_numbered, with_parts}
use Rattle.ada_program.specs.ProgramForm.{PartForm, TypeForm, record_of, part_form, program_form, type_form}
use Rattle.ada_program.specs.Walks.{Walks, ends}
use Rattle.ada_program.specs.WellFormed.{IsWellFormed, finalization_in, finalization_of, is_inherited}
use Rattle.ada_program.proofs.Shapes.{same_number, shapes_length}
use Rattle.ada_program.proofs.Walks.{one_step, walks_on}
use Rattle.ada_meaning.proofs.Places.{is_declared, known, numbers_are_alone, types_have_their_operations}
use Rattle.ada_meaning.specs.Step.{member_at, picked_task, tasks_in}
use Rattle.ada_quiet.specs.Calm.{inheriting_types, inherits, is_known_calm, unadjusted_types}
use Rattle.ada_quiet.proofs.CalmTypes.{calm_is_told_within}
use Rattle.ada_reaching.specs.Apart.{IsLeftIn, whole_in, picked_in, called_in}

-- Numbers of types with controlled parts, of which something holds.
module _ (P : ℕ → Type 0) where
  -- It holds of each of these,
  abbrev Each : List ℕ → Type 0
  Each [] = Unit {0}
  Each (n ∷ ns) = P n × Each ns

  -- of the type of each of these components,
  abbrev EachOf : List Component → Type 0
  EachOf [] = Unit {0}
  EachOf (c ∷ cs) = P c.of × EachOf cs

  -- and of all that is left of a treatment.
  abbrev pub EachIn : List Task → Type 0
  EachIn [] = Unit {0}
  EachIn (performs of part ∷ tasks) = P of × EachIn tasks
  EachIn (treats cs ∷ tasks) = EachOf cs × EachIn tasks

  -- So it is of one component, if there is one.
  abbrev OfOne : Option Component → Type 0
  OfOne None = Unit {0}
  OfOne (Some c) = P c.of

  each_append : (ns ms : List ℕ) → Each ns → Each ms → Each (ns ++ ms)
  each_append [] ms one other = other
  each_append (n ∷ ns) ms one other = (one.0, each_append ns ms one.1 other)

  in_append : (one other : List Task) → EachIn one → EachIn other → EachIn (one ++ other)
  in_append [] other h g = g
  in_append (performs of part ∷ tasks) other h g = (h.0, in_append tasks other h.1 g)
  in_append (treats cs ∷ tasks) other h g = (h.0, in_append tasks other h.1 g)

  in_treatment : (cs : List Component) → EachOf cs → EachIn (treatment_of cs)
  in_treatment [] h = tt
  in_treatment (c ∷ cs) h = (h, tt)

  of_removed : (cs : List Component) (i : ℕ) → EachOf cs → EachOf (remove cs i)
  of_removed [] zero h = tt
  of_removed [] (suc i) h = tt
  of_removed (c ∷ cs) zero h = h.1
  of_removed (c ∷ cs) (suc i) h = (h.0, of_removed cs i h.1)

  of_at : (cs : List Component) (i : ℕ) → EachOf cs → OfOne (slice_get cs i)
  of_at [] i h = tt
  of_at (c ∷ cs) zero h = h.0
  of_at (c ∷ cs) (suc i) h = of_at cs i h.1

  of_order : (count : ℕ → ℕ) (ns : List ℕ) (first : ℕ) → Each ns → EachOf (in_order count ns first)
  of_order count [] first h = tt
  of_order count (n ∷ ns) first h = (h.0, of_order count ns (first + count n) h.1)

  -- Where it holds of the components with controlled parts of a type of which it holds, it holds of all that is to be done for a record of that type,
  module _ (shapes : List Shape) (inner : (n : ℕ) → P n → Each (shape_of shapes n).components) where
    in_opened : (direction : Direction) (n first : ℕ) → P n → EachIn (opened shapes direction n first)
    in_opened direction n first h = by direction
      where
        own : (controlled : Bool) → EachIn (if controlled then performs n first ∷ [] else [])
        own true = (h, tt)
        own false = tt

        components : EachIn (treatment_of (components_of shapes n first))
        components =
            in_treatment (components_of shapes n first)
            (of_order (parts_of shapes) (shape_of shapes n).components (first + own_parts (shape_of shapes n)) (inner n h))

        by : (order : Direction) → EachIn (opened shapes order n first)
        by PartsFirst =
            in_append (treatment_of (components_of shapes n first)) (operation_of (shape_of shapes n) n first) components (own (shape_of shapes n).controlled)
        by WholeFirst =
            in_append (operation_of (shape_of shapes n) n first) (treatment_of (components_of shapes n first)) (own (shape_of shapes n).controlled) components

    in_opened_if : (direction : Direction) (o : Option Component) → OfOne o → EachIn (opened_if shapes direction o)
    in_opened_if direction None h = tt
    in_opened_if direction (Some c) h = in_opened direction c.of c.first h

    in_taken :
        (direction : Direction) (cs : List Component) (tasks : List Task) (i : ℕ) → EachOf cs → EachIn tasks
        → EachIn (taken shapes direction (treats cs ∷ tasks) i)
    in_taken direction cs tasks i h g =
        in_append (opened_if shapes direction (slice_get cs i)) (treatment_of (remove cs i) ++ tasks) (in_opened_if direction (slice_get cs i) (of_at cs i h))
        (in_append (treatment_of (remove cs i)) tasks (in_treatment (remove cs i) (of_removed cs i h)) g)

    -- also once a component has been picked.
    in_picked : (direction : Direction) (tasks : List Task) (i : ℕ) → EachIn tasks → EachIn (picked_task shapes direction tasks i)
    in_picked direction [] i h = tt
    in_picked direction (treats cs ∷ tasks) i h = in_taken direction cs tasks (member_at direction (length cs) i) h.0 h.1
    in_picked direction (performs of part ∷ tasks) i h = h

  in_performed : (tasks : List Task) → EachIn tasks → EachIn (performed tasks)
  in_performed [] h = tt
  in_performed (treats cs ∷ tasks) h = h
  in_performed (performs of part ∷ tasks) h = h.1

  -- It holds of the components of a record type that have controlled parts, where it does of the types of those that are declared.
  module _ (types : List TypeDefinition) where
    abbrev pub HoldsIn : List Part → Type 0
    HoldsIn qs =
        (i : ℕ) (q : Part) (v : TypeNo) (m : ℕ) → slice_get qs i ≡ Some q → q.kind ≡ kinds.Record v → number_of types (Some v.0) ≡ Some m → P m

    each_declared : (older : List Shape) (qs : List Part) → HoldsIn qs → Each (components_with_parts types older qs)
    each_declared older [] holds = tt
    each_declared older (q ∷ qs) holds =
        each_append (with_parts types older q.kind) (components_with_parts types older qs) (by_kind q.kind refl)
        (each_declared older qs (λ i r v m at is numbered. holds (suc i) r v m at is numbered))
      where
        by_count : (none : Bool) (m : ℕ) → P m → Each (if none then [] else m ∷ [])
        by_count true m h = tt
        by_count false m h = (h, tt)

        by_number : (v : TypeNo) (o : Option ℕ) → q.kind ≡ kinds.Record v → number_of types (Some v.0) ≡ o → Each (if_parts older o)
        by_number v None is numbered = tt
        by_number v (Some m) is numbered = by_count (parts_of older m == 0) m (holds 0 q v m refl is numbered)

        by_kind : (kind : PartKind) → q.kind ≡ kind → Each (with_parts types older kind)
        by_kind (kinds.Elementary kind) is = tt
        by_kind (kinds.Record v) is = by_number v (number_of types (Some v.0)) is refl
        by_kind kinds.Parent is = tt

    -- So it does in a table of them.
    each_shape :
        (n : ℕ) → HoldsIn (parts_by (type_numbered types n)) → (count : ℕ) → Each (shape_of (shapes_up_to types count) n).components
    each_shape n holds zero = tt
    each_shape n holds (suc count) = by (n == length (shapes_up_to types count)) refl (each_shape n holds count)
      where
        by :
            (newest : Bool) → (n == length (shapes_up_to types count)) ≡ newest → Each (shape_of (shapes_up_to types count) n).components
            → Each (if newest then shape_by types (shapes_up_to types count) (parts_by (type_numbered types count)) else shape_of (shapes_up_to types count) n).components
        by true is later =
            let same : n ≡ count = eqb-true n (length (shapes_up_to types count)) is ∙ shapes_length types count in
            subst (λ (k : ℕ). Each (components_with_parts types (shapes_up_to types count) (parts_by (type_numbered types k)))) same
            (each_declared (shapes_up_to types count) (parts_by (type_numbered types n)) holds)
        by false is later = later

-- What holds of the types of declared components, where it does of that of the record, holds of all that is left of the treatment of a record of a type of which it
-- holds (7.6).
module _ (types : List TypeDefinition) (P : ℕ → Type 0) (inner : (n : ℕ) → P n → HoldsIn P types (parts_by (type_numbered types n))) where
  each_component : (n : ℕ) → P n → Each P (shape_of (shapes_of types) n).components
  each_component n h = each_shape P types n (inner n h) (count_by has_parts types)

  pub left_each :
      (direction : Direction) (t : ℕ) → ((n : ℕ) → number_of types (Some t) ≡ Some n → P n) → {tasks : List Task} → IsLeftIn types direction t tasks
      → EachIn P tasks
  left_each direction t whole (whole_in first) = by (number_of types (Some t)) refl
    where
      by : (o : Option ℕ) → number_of types (Some t) ≡ o → EachIn P (tasks_in (shapes_of types) direction o first)
      by None numbered = tt
      by (Some n) numbered = in_opened P (shapes_of types) each_component direction n first (whole n numbered)
  left_each direction t whole (picked_in {tasks = tasks} i left) =
      in_picked P (shapes_of types) each_component direction tasks i (left_each direction t whole left)
  left_each direction t whole (called_in {tasks = tasks} left) = in_performed P tasks (left_each direction t whole left)

-- No procedure is that of an operation that is inherited.
none_called : (o : Option ProcedureNo) → is_inherited o ≡ true → procedure_number o ≡ None
none_called None inherited = refl
none_called (Some procedure) inherited = absurd (cc)

-- Nothing is called where a value ends, or where a copy is adjusted, as is asked.
abbrev CallsNone : (finalize : Bool) → Operations → Type 0
CallsNone finalize operations = procedure_number (if finalize then operations.finalize else operations.adjust) ≡ None

-- So it is with a type that inherits that operation.
calls_none : (finalize : Bool) (f : Finalization) → inherits finalize (Some f) ≡ true → CallsNone finalize f.operations
calls_none finalize f nothing = none_called (if finalize then f.operations.finalize else f.operations.adjust) nothing

module _ (finalize : Bool) (program : Program) (well : IsWellFormed (program_form program)) where
  abbrev types : List TypeDefinition
  types = program.types.items

  abbrev forms : List TypeForm
  forms = map type_form program.types.items

  abbrev own : TypeForm → Bool
  own form = inherits finalize (finalization_in (Some form))

  -- A record type is so, and so is each of a record that lies in one of it.
  abbrev IsInert : ℕ → Type 0
  IsInert t = is_known_calm (inheriting_types finalize forms) (finalization_of forms t) ≡ true

  -- The type of a number among those with controlled parts is.
  abbrev HasInert : ℕ → Type 0
  HasInert n = (t : ℕ) × (number_of types (Some t) ≡ Some n) × IsInert t

  -- The record types are so that lie in records of such a one (3.8).
  inert_within :
      (t : ℕ) (f : Finalization) → finalization_of forms t ≡ Some f → IsInert t → (u first part : ℕ) (form : TypeForm) → Walks forms t first part u
      → slice_get forms u ≡ Some form → own form ≡ true
  inert_within t f is inert =
      (calm_is_told_within (program_form program) own well t f is).0 (subst (λ (o : Option Finalization). is_known_calm (inheriting_types finalize forms) o ≡ true) is inert)

  -- So nothing is called for one.
  inert_calls : (n : ℕ) → HasInert n → CallsNone finalize (operations_of types n)
  inert_calls n (t, numbered, inert) =
      let d = is_declared program t n numbered in
      let form = record_of d.declares.0 d.ps d.declares.1 (Some d.f) in
      let alone : (u : ℕ) → number_of types (Some u) ≡ Some d.f.number.0 → u ≡ t =
      λ u is. numbers_are_alone program u t n well (is ∙ ap (λ (m : ℕ). Some m) d.numbered) numbered in
      let operations : operations_of types n ≡ d.f.operations =
      ap (operations_of types) (sym d.numbered) ∙ types_have_their_operations program t d.ps d.f d.declares alone in
      subst (λ (o : Operations). CallsNone finalize o) (sym operations)
      (calls_none finalize d.f (inert_within t d.f (ap finalization_in d.declares.2) inert t 0 0 form ends d.declares.2))

  -- The types of its declared components with controlled parts are so.
  inert_parts : (n : ℕ) → HasInert n → HoldsIn HasInert types (parts_by (type_numbered types n))
  inert_parts n (t, numbered, inert) =
      let d = is_declared program t n numbered in
      let k = known program t d.ps d.f well d.declares in
      let lists : parts_by (type_numbered types n) ≡ k.qs = ap (λ (m : ℕ). parts_by (type_numbered types m)) (sym d.numbered) ∙ k.lists in
      subst (λ (qs : List Part). HoldsIn HasInert types qs) (sym lists)
      (λ i q v m at is number.
      let inner = is_declared program v.0 m number in
      let form_at : slice_get d.ps i ≡ Some (part_form q) =
      ap (λ (rs : List PartForm). slice_get rs i) k.forms ∙ slice_get-map part_form k.qs i ∙ ap (option_map part_form) at in
      let step = one_step forms t i m d.declares.0 d.ps d.declares.1 d.f (part_form q) v d.declares.2 form_at is (sym (same_number types v.0) ∙ number) in
      let within = inert_within t d.f (ap finalization_in d.declares.2) inert in
      let found : finalization_of forms v.0 ≡ Some inner.f = ap finalization_in inner.declares.2 in
      let told = (calm_is_told_within (program_form program) own well v.0 inner.f found).1
      (λ u first part form walks there.
      within u ((part_form q).first + first) ((part_form q).part + part) form
      (walks_on forms t (part_form q).first (part_form q).part v.0 first part u step walks) there) in
      (v.0, number, subst (λ (o : Option Finalization). is_known_calm (inheriting_types finalize forms) o ≡ true) (sym found) told))

  -- So it is with whatever is left of the treatment of a record of such a type.
  left_inert :
      (direction : Direction) (t : ℕ) → IsInert t → {tasks : List Task} → IsLeftIn types direction t tasks → EachIn HasInert tasks
  left_inert direction t inert left = left_each types HasInert inert_parts direction t (λ n numbered. (t, numbered, inert)) left

-- No Adjust is called for a part of a record of such a type that is adjusted.
pub unadjusted_calls_nothing :
    (program : Program) → IsWellFormed (program_form program) → (record_type of part : ℕ) (tasks : List Task)
    → is_known_calm (unadjusted_types (program_form program).types) (finalization_of (program_form program).types record_type) ≡ true
    → IsLeftIn program.types.items PartsFirst record_type (performs of part ∷ tasks) → procedure_number (operations_of program.types.items of).adjust ≡ None
unadjusted_calls_nothing program well record_type of part tasks inert left =
    inert_calls false program well of (left_inert false program well PartsFirst record_type inert left).0
