-- Two costs of calls of operations agree on the treatment of an object, where they agree on each controlled part that lies in it (7.6); so they do on what
-- declarations create (3.3.1, 4.8).

use Rattle.std.proofs.Common.{◌≡◌, ℕ, zero, suc, ◌+◌, Bool, true, false, ◌==◌, List, [], ◌∷◌, length, map, Option, Some, None, refl, sym, ap, ◌∙◌, arith}
use Rattle.std.specs.Prelude.{if◌then◌else◌, count_by}
use Rattle.std.specs.List.{list_all, slice_get, sum_by}
use Rattle.std.specs.Option.{option_map}
use Rattle.std.specs.String.{string_bytes}
use Rattle.std.proofs.lemmas.Bool.{eqb-true}
use Rattle.std.proofs.lemmas.List.Sums.{sum_by-cons, sum_by-append}
use Rattle.std.proofs.lemmas.Option.{slice_get-map}
use Rattle.ada_parts.specs.Shape.{Shape, parts_of}
use Rattle.ada_program.specs.declared.program.ComponentKind.{ComponentKind}
use Rattle.ada_program.specs.declared.program.Finalization.{Finalization}
use Rattle.ada_program.specs.declared.program.Part.{Part}
use Rattle.ada_program.specs.declared.program.PartKind.{PartKind}
use Rattle.ada_program.specs.declared.program.PartKind.TheVariants as part
use Rattle.ada_program.specs.declared.program.TypeDefinition.{TypeDefinition}
use Rattle.ada_program.specs.declared.program.TypeDefinition.TheVariants as definition
use Rattle.ada_program.specs.declared.program.TypeNo.{TypeNo}
use Rattle.ada_program.specs.Controlled.{number_in, type_numbered, parts_by, if_parts, with_parts, components_with_parts, shape_by, shapes_up_to, has_parts, shapes_of, number_reached, operations_in, operations_by, operations_of}
use Rattle.ada_program.specs.Form.{RightForm, nothing, value_of, allocates, allocates_default, computes, DeclarationForm, creates_pool, collects, declares, declares_record}
use Rattle.ada_program.specs.ProgramForm.{TypeForm, record_of, access_to, object_of, part_form, type_form}
use Rattle.ada_program.specs.Walks.{Walks, ends, into}
use Rattle.ada_program.specs.WellFormed.{finalization_in, finalization_of, named_in, object_named, type_fits}
use Rattle.ada_program.proofs.Shapes.{same_number, shapes_length}
use Rattle.ada_circles.specs.Circles.{right_makes, declaration_makes}
use Rattle.ada_meaning.specs.Pace.{own_cost, record_cost, cost_for, treatment_operations, new_operations, right_operations, declaration_operations, declarations_operations}
use Rattle.ada_typed.proofs.Parts.{known_number, shown_number}
use Rattle.ada_quiet.proofs.NumberedTypes.{numbered_form, says}

-- A call of an operation costs nothing.
abbrev pub free : (of : ℕ) → ℕ
free of = 0

module _ (definitions : List TypeDefinition) where
  -- The types, as they are shown.
  abbrev pub types : List TypeForm
  types = map type_form definitions

  -- A record type with controlled parts is the one of its number among these: it has the components and the operations of that type.
  pub record Stands (t : ℕ) (f : Finalization) : Type 0 where
    pub name : List ℕ
    pub ps : List Part
    pub components : List ComponentKind
    pub at : slice_get types t ≡ Some (record_of name (map part_form ps) components (Some f))
    pub declared : parts_by (type_numbered definitions f.number.0) ≡ ps
    pub operations : operations_of definitions f.number.0 ≡ f.operations

  -- It is the one that is found by that number.
  found_stands :
      (t : ℕ) (f : Finalization) (d : Option TypeDefinition) → type_numbered definitions f.number.0 ≡ d → (form : TypeForm) → slice_get types t ≡ Some form
      → finalization_in (Some form) ≡ Some f → option_map type_form d ≡ Some form → Stands t f
  found_stands t f None here form at said shown = absurd (cc shown)
  found_stands t f (Some (definition.Record name parts components finalization)) here form at said shown =
      let its : finalization ≡ Some f = ap finalization_in shown ∙ said in
      record {
        name = string_bytes name;
        ps = parts.items;
        components = components.items;
        at = at ∙ sym shown ∙ ap (λ (o : Option Finalization). Some (record_of (string_bytes name) (map part_form parts.items) components.items o)) its;
        declared = ap parts_by here;
        operations = ap operations_by here ∙ ap operations_in its;
      }
  found_stands t f (Some (definition.Access name designated pool)) here form at said shown = absurd (cc (ap finalization_in shown ∙ said))
  found_stands t f (Some (definition.Object record_type)) here form at said shown = absurd (cc (ap finalization_in shown ∙ said))

  module _ (fit : list_all (type_fits types) types ≡ true) where
    -- In a well-formed program numbers are told apart, so that each such type does.
    pub stands : (t : ℕ) (f : Finalization) → finalization_of types t ≡ Some f → Stands t f
    stands t f is = go (slice_get types t) refl is
      where
        go : (o : Option TypeForm) → slice_get types t ≡ o → finalization_in o ≡ Some f → Stands t f
        go None at said = absurd (cc said)
        go (Some (record_of name ps components finalization)) at said =
            let whole = at ∙ ap (λ (o : Option Finalization). Some (record_of name ps components o)) said in
            let one = says types fit t name ps components f whole in
            found_stands t f (type_numbered definitions f.number.0) refl (record_of name ps components (Some f)) whole refl
            (sym (numbered_form definitions f.number.0) ∙ one.found)
        go (Some (access_to name designated pool)) at said = absurd (cc said)
        go (Some (object_of record_type)) at said = absurd (cc said)

    module _ (f g : (of : ℕ) → ℕ) where
      -- Two costs agree on each controlled part that lies in the objects of a record type.
      abbrev pub AgreeWithin : (t : ℕ) → Type 0
      AgreeWithin t =
          (u first part : ℕ) (h : Finalization) → Walks types t first part u → finalization_of types u ≡ Some h → f h.number.0 ≡ g h.number.0

      -- They agree on a treatment of a record of the type of a number, by a table of the first types.
      abbrev AgreeAt : (older : List Shape) → (number : ℕ) → Type 0
      AgreeAt older number = record_cost definitions f older number ≡ record_cost definitions g older number

      -- So they do on the treatments of records of several such types.
      abbrev AgreeOnAll : (older : List Shape) → (numbers : List ℕ) → Type 0
      AgreeOnAll older numbers = sum_by (record_cost definitions f older) numbers ≡ sum_by (record_cost definitions g older) numbers

      -- So they do on declared components, where they do on each that has controlled parts.
      if_agrees : (older : List Shape) (o : Option Finalization) → ((h : Finalization) → o ≡ Some h → AgreeAt older h.number.0)
          → AgreeOnAll older (if_parts older (number_in o))
      if_agrees older None agree = refl
      if_agrees older (Some h) agree = by (parts_of older h.number.0 == 0)
        where
          by : (none : Bool) → AgreeOnAll older (if none then [] else h.number.0 ∷ [])
          by true = refl
          by false =
              let one = agree h refl in
              sum_by-cons (record_cost definitions f older) h.number.0 [] ∙ ap (λ (m : ℕ). m + 0) one
              ∙ sym (sum_by-cons (record_cost definitions g older) h.number.0 [])

      kind_agrees :
          (older : List Shape) (kind : PartKind)
          → ((v : TypeNo) (h : Finalization) → kind ≡ part.Record v → finalization_of types v.0 ≡ Some h → AgreeAt older h.number.0)
          → AgreeOnAll older (with_parts definitions older kind)
      kind_agrees older (part.Elementary kind) agree = refl
      kind_agrees older (part.Record v) agree = rw (same_number definitions v.0) (if_agrees older (finalization_of types v.0) (λ h of. agree v h refl of))
      kind_agrees older part.Parent agree = refl

      parts_agree :
          (older : List Shape) (ps : List Part)
          → ((i : ℕ) (q : Part) (v : TypeNo) (h : Finalization) → slice_get ps i ≡ Some q → q.kind ≡ part.Record v → finalization_of types v.0 ≡ Some h
          → AgreeAt older h.number.0)
          → AgreeOnAll older (components_with_parts definitions older ps)
      parts_agree older [] agree = refl
      parts_agree older (q ∷ ps) agree =
          let here = kind_agrees older q.kind (λ v h. agree 0 q v h refl) in
          let later = parts_agree older ps (λ i r. agree (suc i) r) in
          let one = sum_by-append (record_cost definitions f older) (with_parts definitions older q.kind) (components_with_parts definitions older ps) in
          let other = sum_by-append (record_cost definitions g older) (with_parts definitions older q.kind) (components_with_parts definitions older ps) in
          omega (arith, here, later, one, other)

      -- So they do on a record itself, and on its components: by its number among the first types.
      own_agrees : (shape : Shape) (number : ℕ) → f number ≡ g number → own_cost definitions f shape number ≡ own_cost definitions g shape number
      own_agrees shape number same = by shape.controlled
        where
          by : (own : Bool) → (if own then f number else 0) ≡ (if own then g number else 0)
          by true = same
          by false = refl

      -- So they do on a record of each type, where they agree on each controlled part that lies in it.
      abbrev RecordsAgree : (n : ℕ) → Type 0
      RecordsAgree n = (t : ℕ) (h : Finalization) → finalization_of types t ≡ Some h → AgreeWithin t → AgreeAt (shapes_up_to definitions n) h.number.0

      records_agree : (n : ℕ) → RecordsAgree n
      records_agree zero t h is agree = refl
      records_agree (suc n) t h is agree = by (records_agree n)
        where
          older : List Shape
          older = shapes_up_to definitions n

          shape : Shape
          shape = shape_by definitions older (parts_by (type_numbered definitions n))

          choice : (cost : (of : ℕ) → ℕ) (newest : Bool) → ℕ
          choice cost newest =
              if newest then own_cost definitions cost shape h.number.0 + sum_by (record_cost definitions cost older) shape.components
              else record_cost definitions cost older h.number.0

          -- What lies in a component lies in the record.
          inside :
              (s : Stands t h) (i : ℕ) (q : Part) (v : TypeNo) (k : Finalization) → slice_get s.ps i ≡ Some q → q.kind ≡ part.Record v
              → finalization_of types v.0 ≡ Some k → AgreeWithin v.0
          inside s i q v k there kind of u first part l walks its =
              let listed : slice_get (map part_form s.ps) i ≡ Some (part_form q) = slice_get-map part_form s.ps i ∙ ap (option_map part_form) there in
              agree u (q.first.0 + first) (q.part.0 + part) l
              (into i first part u k.number.0 s.name (map part_form s.ps) s.components h (part_form q) v s.at listed kind (ap number_in of) walks) its

          either : RecordsAgree n → (newest : Bool) → (h.number.0 == length older) ≡ newest → choice f newest ≡ choice g newest
          either again true newest =
              let s = stands t h is in
              let number : h.number.0 ≡ n = eqb-true h.number.0 (length older) newest ∙ shapes_length definitions n in
              let same : parts_by (type_numbered definitions n) ≡ s.ps =
              ap (λ (m : ℕ). parts_by (type_numbered definitions m)) (sym number) ∙ s.declared in
              let here = own_agrees shape h.number.0 (agree t 0 0 h ends is) in
              let components = parts_agree older (parts_by (type_numbered definitions n))
              (λ i q v k there kind of. again v.0 k of (inside s i q v k (ap (λ (ps : List Part). slice_get ps i) (sym same) ∙ there) kind of)) in
              omega (arith, here, components)
          either again false newest = again t h is agree

          by : RecordsAgree n → record_cost definitions f (shape ∷ older) h.number.0 ≡ record_cost definitions g (shape ∷ older) h.number.0
          by again = either again (h.number.0 == length older) refl

      -- So they do on the treatment of an object that is known by a type, and on that of a new object.
      treatment_agrees :
          (access : ℕ) → ((t : ℕ) → object_named types (Some access) ≡ Some t → AgreeWithin t)
          → treatment_operations definitions f access ≡ treatment_operations definitions g access
      treatment_agrees access agree =
          ap (cost_for definitions f (shapes_of definitions)) (sym (known_number definitions types access refl))
          ∙ by (named_in (slice_get types access)) agree
          ∙ ap (cost_for definitions g (shapes_of definitions)) (known_number definitions types access refl)
        where
          at : (t : ℕ) (o : Option Finalization) → finalization_of types t ≡ o → AgreeWithin t
              → cost_for definitions f (shapes_of definitions) (number_in o) ≡ cost_for definitions g (shapes_of definitions) (number_in o)
          at t None is within = refl
          at t (Some h) is within = records_agree (count_by has_parts definitions) t h is within

          by : (o : Option ℕ) → ((t : ℕ) → o ≡ Some t → AgreeWithin t)
              → cost_for definitions f (shapes_of definitions) (shown_number types o) ≡ cost_for definitions g (shapes_of definitions) (shown_number types o)
          by None each = refl
          by (Some t) each = at t (finalization_of types t) refl (each t refl)

      new_agrees :
          (access : ℕ) → ((t : ℕ) → object_named types (Some access) ≡ Some t → AgreeWithin t)
          → new_operations definitions f access ≡ new_operations definitions g access
      new_agrees access agree = let one = treatment_agrees access agree in omega (arith, one)

      -- So they do on what declarations create.
      right_agrees :
          (right : RightForm) → ((t : ℕ) → right_makes types right ≡ Some t → AgreeWithin t)
          → right_operations definitions f right ≡ right_operations definitions g right
      right_agrees nothing agree = refl
      right_agrees (value_of path) agree = refl
      right_agrees (allocates access items) agree = new_agrees access agree
      right_agrees (allocates_default access) agree = new_agrees access agree
      right_agrees (computes e) agree = refl

      declaration_agrees :
          (d : DeclarationForm) → ((t : ℕ) → declaration_makes types d ≡ Some t → AgreeWithin t)
          → declaration_operations definitions f d ≡ declaration_operations definitions g d
      declaration_agrees (creates_pool pool) agree = refl
      declaration_agrees (collects access) agree = refl
      declaration_agrees (declares x right) agree = right_agrees right agree
      declaration_agrees (declares_record x object initial) agree = new_agrees object agree

      pub declarations_agree :
          (ds : List DeclarationForm)
          → ((i : ℕ) (d : DeclarationForm) (t : ℕ) → slice_get ds i ≡ Some d → declaration_makes types d ≡ Some t → AgreeWithin t)
          → declarations_operations definitions f ds ≡ declarations_operations definitions g ds
      declarations_agree [] agree = refl
      declarations_agree (d ∷ ds) agree =
          let here = declaration_agrees d (λ t. agree 0 d t refl) in
          let later = declarations_agree ds (λ i e. agree (suc i) e) in
          omega (arith, here, later)

  -- What declarations create costs nothing where a call of an operation does.

  -- A sum of nothings is nothing.
  none_in_sum : (cost : (t : ℕ) → ℕ) → ((t : ℕ) → cost t ≡ 0) → (ts : List ℕ) → sum_by cost ts ≡ 0
  none_in_sum cost none [] = refl
  none_in_sum cost none (t ∷ ts) =
      let here = none t in
      let later = none_in_sum cost none ts in
      let both = sum_by-cons cost t ts in
      omega (arith, here, later, both)

  record_is_free : (shapes : List Shape) (t : ℕ) → record_cost definitions free shapes t ≡ 0
  record_is_free [] t = refl
  record_is_free (shape ∷ older) t = either (record_is_free older) (t == length older)
    where
      own : (controlled : Bool) → (if controlled then free t else 0) ≡ 0
      own true = refl
      own false = refl

      choice : (newest : Bool) → ℕ
      choice newest =
          if newest then own_cost definitions free shape t + sum_by (record_cost definitions free older) shape.components
          else record_cost definitions free older t

      either : ((r : ℕ) → record_cost definitions free older r ≡ 0) → (newest : Bool) → choice newest ≡ 0
      either again true =
          let here : own_cost definitions free shape t ≡ 0 = own shape.controlled in
          let components = none_in_sum (record_cost definitions free older) again shape.components in
          omega (arith, here, components)
      either again false = again t

  known_is_free : (number : Option ℕ) → cost_for definitions free (shapes_of definitions) number ≡ 0
  known_is_free None = refl
  known_is_free (Some n) = record_is_free (shapes_of definitions) n

  new_is_free : (access : ℕ) → new_operations definitions free access ≡ 0
  new_is_free access = let one = known_is_free (number_reached definitions access) in omega (arith, one)

  right_is_free : (right : RightForm) → right_operations definitions free right ≡ 0
  right_is_free nothing = refl
  right_is_free (value_of path) = refl
  right_is_free (allocates access items) = new_is_free access
  right_is_free (allocates_default access) = new_is_free access
  right_is_free (computes e) = refl

  declaration_is_free : (d : DeclarationForm) → declaration_operations definitions free d ≡ 0
  declaration_is_free (creates_pool pool) = refl
  declaration_is_free (collects access) = refl
  declaration_is_free (declares x right) = right_is_free right
  declaration_is_free (declares_record x object initial) = new_is_free object

  pub declarations_are_free : (ds : List DeclarationForm) → declarations_operations definitions free ds ≡ 0
  declarations_are_free [] = refl
  declarations_are_free (d ∷ ds) =
      let here = declaration_is_free d in
      let later = declarations_are_free ds in
      omega (arith, here, later)
