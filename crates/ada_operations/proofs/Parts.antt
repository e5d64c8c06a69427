-- What implicit calls may do is what the operations of all parts do.

use Rattle.std.proofs.Common.{◌≡◌, ℕ, ◌<◌, zero, suc, Bool, true, ◌||◌, List, [], ◌∷◌, length, refl, sym, ap, ◌∙◌, ◌⊎◌, inl, inr, arith}
use Rattle.std.proofs.lemmas.Bool.{or_cases, or_left, or_right, eqb-true, eq-eqb}
use Rattle.std.proofs.lemmas.Map.Views.{Contains-from_any}
use Rattle.std.specs.List.{Contains, list_any, slice_get}
use Rattle.std.specs.Prelude.{◌↔◌, slice_index_or, Option, Some, None, is_some}
use Rattle.ada_deeds.specs.Does.{operations_do, is_deed_of, Does, does}
use Rattle.ada_deeds.specs.Forms.{parts_do, creation_does, overriding, overriding_does, own_does, part_does, components_do}
use Rattle.ada_deeds.specs.Implicit.{record_in, record_at, implicit_of}
use Rattle.ada_deeds.specs.Within.{does_by}
use Rattle.ada_deeds.specs.declared.deed.Callee.{Callee}
use Rattle.ada_deeds.specs.declared.deed.Callee.TheVariants as callee
use Rattle.ada_deeds.specs.declared.deed.Deed.{Deed}
use Rattle.ada_deeds.specs.declared.deed.Deed.TheVariants.{Raises, Frees, Follows}
use Rattle.ada_deeds.specs.declared.deed.Operation.{Operation}
use Rattle.ada_deeds.specs.declared.deed.Operation.TheVariants.{Initialize, Adjust, Finalize}
use Rattle.ada_deeds.proofs.Starting.{closes, created_out, out_created}
use Rattle.ada_deeds.proofs.Within.{counts_are_enough, is_one_of}
use Rattle.ada_effects.proofs.Sameness.{are_equal, is_itself}
use Rattle.ada_operations.specs.Laws.{HasObjectsOf, SomePartDoes, OperationDoes, CreationDoes, StartsRaiseWhatPartsRaise, StartsFreeWhatPartsFree, AdjustsFreeWhatPartsFree, EndsFreeWhatPartsFree, EndsReachWhatPartsUse}
use Rattle.ada_operations.specs.Operations.{overriding_in, Overrides, is_record_of, has_component, HasPart, itself, within}
use Rattle.ada_program.specs.declared.program.Exception.{Exception}
use Rattle.ada_program.specs.declared.program.Finalization.{Finalization}
use Rattle.ada_program.specs.declared.program.PartKind.{PartKind}
use Rattle.ada_program.specs.declared.program.PartKind.TheVariants as part
use Rattle.ada_program.specs.declared.program.ProcedureNo.{ProcedureNo}
use Rattle.ada_program.specs.declared.program.TypeNo.{TypeNo}
use Rattle.ada_program.specs.Handling.{is_same}
use Rattle.ada_program.specs.ProgramForm.{PartForm, TypeForm, record_of, access_to, object_of, ProgramForm}
use Rattle.ada_program.specs.WellFormed.{components_in, designated_in, object_in, finalization_in}

some_same : {X : Type 0} {x y : X} → Some x ≡ Some y → x ≡ y
some_same h = cc h

-- Of two tests one holds where one of two things is so, if each holds where its own is.
either : (a b : Bool) (A B : Type 0) → (a ≡ true) ↔ A → (b ≡ true) ↔ B → ((a || b) ≡ true) ↔ (A ⊎ B)
either a b A B f g = (λ h. elim (or_cases a b h) [ inl x ↦ inl (f.0 x) | inr y ↦ inr (g.0 y) ], from)
  where
    from : A ⊎ B → (a || b) ≡ true
    from (inl x) = or_left a b (f.1 x)
    from (inr y) = or_right a b (g.1 y)

-- The record type of the objects of a type.

-- By what the type is.
abbrev ObjectsAre : (u whole : ℕ) → Option TypeForm → Type 0
ObjectsAre u whole o = ((u ≡ whole) × (is_some (components_in o) ≡ true)) ⊎ (designated_in o ≡ Some whole) ⊎ (object_in o ≡ Some whole)

objects_told : (u whole : ℕ) (o : Option TypeForm) → record_in u o ≡ Some whole → ObjectsAre u whole o
objects_told u whole None h = absurd (cc h)
objects_told u whole (Some (record_of name parts components finalization)) h = inl (some_same h, refl)
objects_told u whole (Some (access_to name designated pool)) h = inr (inl h)
objects_told u whole (Some (object_of record_type)) h = inr (inr h)

told_objects : (u whole : ℕ) (o : Option TypeForm) → ObjectsAre u whole o → record_in u o ≡ Some whole
told_objects u whole None (inl (same, is)) = absurd (cc is)
told_objects u whole None (inr (inl is)) = absurd (cc is)
told_objects u whole None (inr (inr is)) = absurd (cc is)
told_objects u whole (Some (record_of name parts components finalization)) (inl (same, is)) = ap (λ (t : ℕ). Some t) same
told_objects u whole (Some (record_of name parts components finalization)) (inr (inl is)) = absurd (cc is)
told_objects u whole (Some (record_of name parts components finalization)) (inr (inr is)) = absurd (cc is)
told_objects u whole (Some (access_to name designated pool)) (inl (same, is)) = absurd (cc is)
told_objects u whole (Some (access_to name designated pool)) (inr (inl is)) = is
told_objects u whole (Some (access_to name designated pool)) (inr (inr is)) = absurd (cc is)
told_objects u whole (Some (object_of record_type)) (inl (same, is)) = absurd (cc is)
told_objects u whole (Some (object_of record_type)) (inr (inl is)) = absurd (cc is)
told_objects u whole (Some (object_of record_type)) (inr (inr is)) = is

record_from : (types : List TypeForm) (u whole : ℕ) → HasObjectsOf types u whole → record_at types u ≡ Some whole
record_from types u whole h = told_objects u whole (slice_get types u) h

-- What is done for the parts of an object is done for one of them.

-- It is done for the parts of a component.
part_done : (known : Callee → Bool) (operation : Operation) (kind : PartKind) → part_does known operation kind ≡ true →
    (v : TypeNo) × (is_record_of v.0 kind ≡ true) × (known (callee.Parts operation v) ≡ true)
part_done known operation (part.Elementary kind) h = absurd (cc h)
part_done known operation (part.Record t) h = (t, eq-eqb t.0 t.0 refl, h)
part_done known operation part.Parent h = absurd (cc h)

component_done : (known : Callee → Bool) (operation : Operation) (parts : List PartForm) → components_do known operation parts ≡ true →
    (v : TypeNo) × (list_any (λ c. is_record_of v.0 c.kind) parts ≡ true) × (known (callee.Parts operation v) ≡ true)
component_done known operation [] h = absurd (cc h)
component_done known operation (c ∷ cs) h = elim (or_cases (part_does known operation c.kind) (components_do known operation cs) h) [
  | inl here ↦
      let (v, listed, is) = part_done known operation c.kind here in
      (v, or_left (is_record_of v.0 c.kind) (list_any (λ x. is_record_of v.0 x.kind) cs) listed, is)
  | inr behind ↦
      let (v, listed, is) = component_done known operation cs behind in
      (v, or_right (is_record_of v.0 c.kind) (list_any (λ x. is_record_of v.0 x.kind) cs) listed, is)
]

-- The procedure that overrides an operation does it.
procedure_done : (known : Callee → Bool) (operation : Operation) (o : Option Finalization) → own_does known operation o ≡ true →
    (q : ProcedureNo) × (overriding_in operation o ≡ Some q) × (known (callee.Procedure q) ≡ true)
procedure_done known operation None h = absurd (cc h)
procedure_done known operation (Some f) h = go (overriding operation f.operations) refl h
  where
    go : (o : Option ProcedureNo) → overriding operation f.operations ≡ o → overriding_does known o ≡ true →
        (q : ProcedureNo) × (overriding operation f.operations ≡ Some q) × (known (callee.Procedure q) ≡ true)
    go None at is = absurd (cc is)
    go (Some q) at is = (q, at, is)

module _ (p : ProgramForm) (d : Deed) where
  -- A part of a component is one of the record.
  part_behind : (operation : Operation) (v whole : ℕ) → has_component (slice_get p.types whole) v ≡ true → SomePartDoes p operation d v →
      SomePartDoes p operation d whole
  part_behind operation v whole has (r, q, lies, overrides, done) = (r, q, within lies has, overrides, done)

  record_done : (known : Callee → Bool) → ((c : Callee) → known c ≡ true → Does p d c) → (operation : Operation) →
      ((v : TypeNo) → known (callee.Parts operation v) ≡ true → SomePartDoes p operation d v.0) →
      (t : ℕ) (o : Option TypeForm) → slice_get p.types t ≡ o → operations_do known operation o ≡ true → SomePartDoes p operation d t
  record_done known each operation inner t None at h = absurd (cc h)
  record_done known each operation inner t (Some (record_of name parts components finalization)) at h =
      elim (or_cases (own_does known operation finalization) (components_do known operation parts) h) [
        | inl own ↦
            let (q, is, does_it) = procedure_done known operation finalization own in
            (t, q, itself, ap (λ (x : Option TypeForm). overriding_in operation (finalization_in x)) at ∙ is, each (callee.Procedure q) does_it)
        | inr some ↦
            let (v, listed, is) = component_done known operation parts some in
            part_behind operation v.0 t (ap (λ (x : Option TypeForm). has_component x v.0) at ∙ listed) (inner v is)
      ]
  record_done known each operation inner t (Some (access_to name designated pool)) at h = absurd (cc h)
  record_done known each operation inner t (Some (object_of record_type)) at h = absurd (cc h)

  -- What is done, by its callee.
  abbrev pub Told : Callee → Type 0
  Told (callee.Procedure q) = Unit {0}
  Told (callee.Parts operation t) = SomePartDoes p operation d t.0

  pub told : (c : Callee) → Does p d c → Told c
  told (callee.Procedure q) h = tt
  told (callee.Parts operation t) (does of known each h) =
      record_done known each operation (λ v is. told (callee.Parts operation v) (each (callee.Parts operation v) is)) t.0 (slice_get p.types t.0) refl h

  -- What is done for a part is done for the parts of an object.

  known_by : (c : Callee) → Does p d c → does_by p d c ≡ true
  known_by c h = (counts_are_enough p d c).1 h

  own_known : (operation : Operation) (q : ProcedureNo) → Does p d (callee.Procedure q) → (o : Option Finalization) → overriding_in operation o ≡ Some q →
      own_does (does_by p d) operation o ≡ true
  own_known operation q h None is = absurd (cc is)
  own_known operation q h (Some f) is = ap (overriding_does (does_by p d)) is ∙ known_by (callee.Procedure q) h

  own_all : (operation : Operation) (q : ProcedureNo) → Does p d (callee.Procedure q) → (o : Option TypeForm) →
      overriding_in operation (finalization_in o) ≡ Some q → operations_do (does_by p d) operation o ≡ true
  own_all operation q h None is = absurd (cc is)
  own_all operation q h (Some (record_of name parts components finalization)) is =
      or_left (own_does (does_by p d) operation finalization) (components_do (does_by p d) operation parts) (own_known operation q h finalization is)
  own_all operation q h (Some (access_to name designated pool)) is = absurd (cc is)
  own_all operation q h (Some (object_of record_type)) is = absurd (cc is)

  kind_known : (operation : Operation) (v : ℕ) → does_by p d (callee.Parts operation (record { 0 = v })) ≡ true → (kind : PartKind) →
      is_record_of v kind ≡ true → part_does (does_by p d) operation kind ≡ true
  kind_known operation v h (part.Elementary kind) is = absurd (cc is)
  kind_known operation v h (part.Record t) is = ap (λ (n : ℕ). does_by p d (callee.Parts operation (record { 0 = n }))) (eqb-true t.0 v is) ∙ h
  kind_known operation v h part.Parent is = absurd (cc is)

  components_known : (operation : Operation) (v : ℕ) → does_by p d (callee.Parts operation (record { 0 = v })) ≡ true → (parts : List PartForm) →
      list_any (λ c. is_record_of v c.kind) parts ≡ true → components_do (does_by p d) operation parts ≡ true
  components_known operation v h [] is = absurd (cc is)
  components_known operation v h (c ∷ cs) is = elim (or_cases (is_record_of v c.kind) (list_any (λ x. is_record_of v x.kind) cs) is) [
    | inl here ↦ or_left (part_does (does_by p d) operation c.kind) (components_do (does_by p d) operation cs) (kind_known operation v h c.kind here)
    | inr behind ↦ or_right (part_does (does_by p d) operation c.kind) (components_do (does_by p d) operation cs) (components_known operation v h cs behind)
  ]

  component_all : (operation : Operation) (v : ℕ) → does_by p d (callee.Parts operation (record { 0 = v })) ≡ true → (o : Option TypeForm) →
      has_component o v ≡ true → operations_do (does_by p d) operation o ≡ true
  component_all operation v h None is = absurd (cc is)
  component_all operation v h (Some (record_of name parts components finalization)) is =
      or_right (own_does (does_by p d) operation finalization) (components_do (does_by p d) operation parts) (components_known operation v h parts is)
  component_all operation v h (Some (access_to name designated pool)) is = absurd (cc is)
  component_all operation v h (Some (object_of record_type)) is = absurd (cc is)

  all_from : (operation : Operation) (r : ℕ) (q : ProcedureNo) → Overrides p q operation r → Does p d (callee.Procedure q) → (whole : ℕ) →
      HasPart p.types r whole → Does p d (callee.Parts operation (record { 0 = whole }))
  all_from operation r q overrides h _ itself =
      closes p d (callee.Parts operation (record { 0 = r })) (is_one_of p d (callee.Procedure q) h) (own_all operation q h (slice_get p.types r) overrides)
  all_from operation r q overrides h _ (within {component} {whole} lies has) =
      let inner = all_from operation r q overrides h component lies in
      closes p d (callee.Parts operation (record { 0 = whole })) (is_one_of p d (callee.Procedure q) h)
      (component_all operation component (known_by (callee.Parts operation (record { 0 = component })) inner) (slice_get p.types whole) has)

  -- What is known of an operation for the objects of a type.
  parts_exact : (operation : Operation) (u : ℕ) → (parts_do (does_by p d) operation (record_at p.types u) ≡ true) ↔ OperationDoes p operation d u
  parts_exact operation u = (to (record_at p.types u) refl, from)
    where
      to : (o : Option ℕ) → record_at p.types u ≡ o → parts_do (does_by p d) operation o ≡ true → OperationDoes p operation d u
      to None at h = absurd (cc h)
      to (Some whole) at h =
          let c = callee.Parts operation (record { 0 = whole }) in
          (whole, objects_told u whole (slice_get p.types u) at, told c ((counts_are_enough p d c).0 h))

      from : OperationDoes p operation d u → parts_do (does_by p d) operation (record_at p.types u) ≡ true
      from (whole, objects, (r, q, lies, overrides, done)) =
          ap (parts_do (does_by p d) operation) (record_from p.types u whole objects)
          ∙ known_by (callee.Parts operation (record { 0 = whole })) (all_from operation r q overrides done whole lies)

  creation_exact : (u : ℕ) → (creation_does (does_by p d) (record_at p.types u) ≡ true) ↔ CreationDoes p d u
  creation_exact u =
      either (parts_do (does_by p d) Initialize (record_at p.types u)) (parts_do (does_by p d) Finalize (record_at p.types u))
      (OperationDoes p Initialize d u) (OperationDoes p Finalize d u) (parts_exact Initialize u) (parts_exact Finalize u)

  -- What is done where an object is created is a deed of the program, and the type has objects.
  creation_is : (u : ℕ) → CreationDoes p d u → (is_deed_of p d ≡ true) × ((whole : ℕ) × (record_at p.types u ≡ Some whole))
  creation_is u (inl (whole, objects, (r, q, lies, overrides, done))) = (is_one_of p d (callee.Procedure q) done, (whole, record_from p.types u whole objects))
  creation_is u (inr (whole, objects, (r, q, lies, overrides, done))) = (is_one_of p d (callee.Procedure q) done, (whole, record_from p.types u whole objects))

-- The laws.

-- An element of a list is found in it.
found : (e : Exception) (es : List Exception) (k : ℕ) → k < length es → slice_index_or es k e ≡ e → list_any (is_same e) es ≡ true
found e [] k lt is = absurd (omega (arith, lt))
found e (f ∷ fs) zero lt is = or_left (is_same e f) (list_any (is_same e) fs) (ap (is_same e) is ∙ is_itself e)
found e (f ∷ fs) (suc k) lt is = or_right (is_same e f) (list_any (is_same e) fs) (found e fs k (omega (arith, lt)) is)

pub starts_raise : StartsRaiseWhatPartsRaise
starts_raise p u e = (to, from)
  where
    to : Contains ((implicit_of p).start_raises u) e → CreationDoes p (Raises e) u
    to (k, lt, is) = (creation_exact p (Raises e) u).0 (out_created p e u (found e ((implicit_of p).start_raises u) k lt is)).1

    from : CreationDoes p (Raises e) u → Contains ((implicit_of p).start_raises u) e
    from h =
        let (of, (whole, at)) = creation_is p (Raises e) u h in
        let done : creation_does (does_by p (Raises e)) (Some whole) ≡ true =
        sym (ap (creation_does (does_by p (Raises e))) at) ∙ (creation_exact p (Raises e) u).1 h in
        Contains-from_any {eq = is_same} are_equal e ((implicit_of p).start_raises u) (created_out p e u whole at done of)

pub starts_free : StartsFreeWhatPartsFree
starts_free p u t = creation_exact p (Frees (record { 0 = t })) u

pub adjusts_free : AdjustsFreeWhatPartsFree
adjusts_free p u t = parts_exact p (Frees (record { 0 = t })) Adjust u

pub ends_free : EndsFreeWhatPartsFree
ends_free p u t = parts_exact p (Frees (record { 0 = t })) Finalize u

pub ends_reach : EndsReachWhatPartsUse
ends_reach p u t =
    let frees = Frees (record { 0 = t }) in
    let follows = Follows (record { 0 = t }) in
    either (parts_do (does_by p frees) Finalize (record_at p.types u)) (parts_do (does_by p follows) Finalize (record_at p.types u))
    (OperationDoes p Finalize frees u) (OperationDoes p Finalize follows u) (parts_exact p frees Finalize u) (parts_exact p follows Finalize u)
