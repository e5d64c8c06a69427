-- An assignment of a record that has controlled parts finds the target and the source, finalizes, copies and adjusts (5.2, 7.6): what it refers to is there.

use Rattle.ada_typed.specs.Holding.{PartsLie, cells_of, parts_reached}
use Rattle.std.proofs.Common.{◌≡◌, ℕ, ◌<◌, ◌==◌, ◌&&◌, not, Bool, true, false, List, [], ◌∷◌, length, drop, map, nat_lt, Option, Some, None, arith, refl, sym, ap, ◌∙◌, subst}
use Rattle.std.proofs.lemmas.Bool.{eqb-true, ltb-true}
use Rattle.std.specs.Prelude.{is_some}
use Rattle.std.specs.List.{slice_get, list_all}
use Rattle.ada_parts.specs.declared.tasks.Direction.{Direction}
use Rattle.ada_parts.specs.declared.tasks.Direction.TheVariants.{PartsFirst, WholeFirst}
use Rattle.ada_parts.specs.Shape.{Shape}
use Rattle.ada_program.specs.declared.program.ComponentKind.{ComponentKind}
use Rattle.ada_program.specs.declared.program.Finalization.{Finalization}
use Rattle.ada_program.specs.declared.program.TypeDefinition.{TypeDefinition}
use Rattle.ada_program.specs.declared.program.VariableKind.TheVariants as variable
use Rattle.ada_program.specs.Controlled.{number_in, number_of, shapes_of}
use Rattle.ada_program.specs.Form.{RecordPathForm, ItemForm, null_item, item_of_path, item_of_value, item_of_record}
use Rattle.ada_program.specs.ProgramForm.{TypeForm, record_of, access_to, object_of, ProgramForm, type_form}
use Rattle.ada_program.specs.Typed.{width_of}
use Rattle.ada_program.specs.WellFormed.{kind_fits, finalization_in, finalization_of, parts_in_order, is_of_earlier, parent_first, says_parts, is_numbered_alone, type_fits, components_reached, reached_components, record_components, has_record_at, has_parts_from, object_named, part_count, is_record_path, item_fits, item_width, begins_with_record, is_none_left, items_fit, is_filled, item_owns, is_copy, copies_whole, record_fits, object_fits}
use Rattle.ada_program.proofs.Shapes.{same_number}
use Rattle.ada_meaning.specs.declared.event.Birth.TheVariants.{Adjustment}
use Rattle.ada_meaning.specs.declared.event.Cause.TheVariants.{Assigning}
use Rattle.ada_meaning.specs.declared.state.Id.{Id}
use Rattle.ada_meaning.specs.declared.state.Place.{Place}
use Rattle.ada_meaning.specs.declared.state.Value.{Value}
use Rattle.ada_meaning.specs.declared.state.Value.TheVariants.{Null, Names, Scalar, Part}
use Rattle.ada_meaning.specs.Frame.{Frame}
use Rattle.ada_meaning.specs.Frame as frame
use Rattle.ada_meaning.specs.Step.{parts_for, has_parts, record_tasks, tasks_in, treating, copy_next, record_assign_next, assigns_next}
use Rattle.ada_meaning.specs.Named.{State, named, same}
use Rattle.ada_meaning.proofs.Treatments.{are_table}
use Rattle.ada_typed.proofs.Lying.{Lying, lying_record}
use Rattle.ada_typed.proofs.Parts.{shown_shapes, parts_known, shapes_shown, record_counted, parts_counted, Within, within_record}
use Rattle.ada_typed.proofs.Values.{OperandKind, of_kind, lies_in, RefersToRecord}
use Rattle.ada_typed.proofs.Operators.{and_left, and_right}
use Rattle.ada_typed.proofs.Records.{parts_behind}
use Rattle.ada_typed.proofs.Objects.{type_there}
use Rattle.ada_typed.proofs.Control.{TasksFit, Fits, Ready, running}
use Rattle.ada_typed.proofs.Treating.{treating_fits, treating_deep}
use Rattle.ada_typed.proofs.Evaluations.{Fine, width_shown, filled_items, ready_at, ready_push, record_holder_fine}

-- A record type that is said to have controlled parts has some (7.6).
parts_in : (types : List TypeForm) (o : Option TypeForm) (f : Finalization) → ((type : TypeForm) → o ≡ Some type → type_fits types type ≡ true) → finalization_in o ≡ Some f → 0 < f.parts
parts_in types None f fit is = absurd (cc)
parts_in types (Some (record_of name parts components finalization)) f fit is =
    let kinds = list_all (kind_fits types) components in
    let first = parent_first parts in
    let says = λ (o : Option Finalization). says_parts types o parts in
    let alone = is_numbered_alone types finalization in
    let fits = fit (record_of name parts components finalization) refl in
    let said : says (Some f) ≡ true =
    subst (λ (o : Option Finalization). says o ≡ true) is
    (and_right (kinds && first) (says finalization) (and_left (kinds && first && says finalization) alone fits)) in
    let some = nat_lt 0 f.parts in
    let ordered = parts_in_order types f.parts 0 parts in
    ltb-true 0 f.parts (and_left some ordered (and_left (some && ordered) (list_all (λ q. is_of_earlier types f.number.0 q.kind) parts) said))
parts_in types (Some (access_to name designated pool)) f fit is = absurd (cc)
parts_in types (Some (object_of record_type)) f fit is = absurd (cc)

some_parts : (types : List TypeForm) (t : ℕ) (f : Finalization) → list_all (type_fits types) types ≡ true → finalization_of types t ≡ Some f → 0 < f.parts
some_parts types t f fit is = parts_in types (slice_get types t) f (λ type there. type_there types types t type fit there) is

-- There is one item, a record of the type, where a record with controlled parts is copied whole.
only_record : (t : ℕ) (items : List ItemForm) → is_copy t items ≡ true → (source : RecordPathForm) × (items ≡ item_of_record source ∷ []) × (source.record_type ≡ t)
only_record t [] is = absurd (cc)
only_record t (null_item ∷ items) is = absurd (cc)
only_record t (item_of_path path ∷ items) is = absurd (cc)
only_record t (item_of_value e ∷ items) is = absurd (cc)
only_record t (item_of_record source ∷ []) is = (source, refl, eqb-true source.record_type t (and_left (source.record_type == t) true is))
only_record t (item_of_record source ∷ i ∷ items) is =
    let never = eqb-true (length (i ∷ items)) 0 (and_right (source.record_type == t) (length (i ∷ items) == 0) is) in
    absurd (omega (arith, never))

copied_whole : (t : ℕ) (o : Option Finalization) (items : List ItemForm) → is_some (number_in o) ≡ true → copies_whole t o items ≡ true → is_copy t items ≡ true
copied_whole t None items parts is = absurd (cc)
copied_whole t (Some f) items parts is = and_right (not f.limited) (is_copy t items) is

module _ (p : ProgramForm) where
  -- What an object's initial value fills.
  pub object_filled : (o : Option ℕ) (items : List ItemForm) → object_fits p.types p.variables o items ≡ true → (cs : List ComponentKind) × (components_reached p.types o ≡ Some cs) × (items_fit p.types p.variables cs items ≡ true)
  object_filled None items is = absurd (cc)
  object_filled (Some t) items is =
      let filled = is_filled p.types p.variables (record_components p.types t) items in
      let owns = list_all (item_owns p.variables) items in
      let whole = copies_whole t (finalization_of p.types t) items in
      filled_items p (record_components p.types t) p.variables items (and_left filled owns (and_left (filled && owns) whole is))

  -- The path of the one item leads to a record.
  source_leads : (source : RecordPathForm) (o : Option (List ComponentKind)) → is_filled p.types p.variables o (item_of_record source ∷ []) ≡ true → (rs : List ComponentKind) × (o ≡ Some rs) × (is_record_path p.types p.variables source ≡ true)
  source_leads source None is = absurd (cc)
  source_leads source (Some rs) is =
      let own = item_fits p.types p.variables rs (item_of_record source) in
      let leads = is_record_path p.types p.variables source in
      let begins = begins_with_record rs (record_components p.types source.record_type) in
      (rs, refl, and_left leads begins (and_left own (is_none_left (drop (item_width p.types (item_of_record source)) rs)) is))

module _ (p : ProgramForm) (types : List TypeDefinition) (shown : map type_form types ≡ p.types) where
  -- A record with controlled parts is assigned: the target is found first, and then the source.
  number_shown : (t : ℕ) → number_of types (Some t) ≡ number_in (finalization_of p.types t)
  number_shown t = same_number types t ∙ ap (λ (ts : List TypeForm). number_in (finalization_of ts t)) shown

  copy_fine : (target source : RecordPathForm) (s : State) → Ready p [] s → is_record_path p.types p.variables target ≡ true → source.record_type ≡ target.record_type → is_filled p.types p.variables (record_components p.types target.record_type) (item_of_record source ∷ []) ≡ true → Fits p (cells_of s.heap) [] s.control → Fine p (copy_next named target (item_of_record source ∷ []) s)
  copy_fine target source s ready leads same filled fits =
      let found = source_leads p source (record_components p.types target.record_type) filled in
      running [] (ready_at p [] s (frame.Refers target ∷ frame.Refers source ∷ frame.Assigns target.record_type ∷ s.control) ready ready.deep)
      (lies_in target.record_type, leads, refl, (lies_in target.record_type, found.2, sym same, ([], found.0, refl, found.1, fits)))

  pub record_assign_fine : (parts : Bool) (target : RecordPathForm) (items : List ItemForm) (s : State) → Ready p [] s → has_parts types target.record_type ≡ parts → is_record_path p.types p.variables target ≡ true → record_fits p.types p.variables target.record_type items ≡ true → Fits p (cells_of s.heap) [] s.control → Fine p (record_assign_next named parts target items s)
  record_assign_fine true target items s ready has leads is fits =
      let t = target.record_type in
      let filled = is_filled p.types p.variables (record_components p.types t) items in
      let owns = list_all (item_owns p.variables) items in
      let whole = copies_whole t (finalization_of p.types t) items in
      let parts : is_some (number_in (finalization_of p.types t)) ≡ true = ap is_some (sym (number_shown t)) ∙ has in
      let one = only_record t items (copied_whole t (finalization_of p.types t) items parts (and_right (filled && owns) whole is)) in
      let filling = subst (λ (xs : List ItemForm). is_filled p.types p.variables (record_components p.types t) xs ≡ true) one.1 (and_left filled owns (and_left (filled && owns) whole is)) in
      subst (λ (xs : List ItemForm). Fine p (copy_next named target xs s)) (sym one.1) (copy_fine target one.0 s ready leads one.2 filling fits)
  record_assign_fine false target items s ready has leads is fits =
      let t = target.record_type in
      let filled = is_filled p.types p.variables (record_components p.types t) items in
      let owns = list_all (item_owns p.variables) items in
      let whole = copies_whole t (finalization_of p.types t) items in
      let filling = and_left filled owns (and_left (filled && owns) whole is) in
      record_holder_fine p target (λ place. frame.TargetsRecord place.component t items) s [] ready leads (λ place. ready.deep)
      (λ access place rs recorded lies parts. ([], access, rs, refl, recorded, lies, ap (λ (o : Option (List ComponentKind)). is_filled p.types p.variables o items) (sym recorded) ∙ filling, fits))

  -- What is to be done for the target speaks of parts of its object (7.6).
  tasks_within : (fit : list_all (type_fits p.types) p.types ≡ true) (t access : ℕ) (direction : Direction) (first : ℕ) (o : Option Finalization) → finalization_of p.types t ≡ o → has_parts_from (part_count p.types t) first (parts_reached p.types access) ≡ true → Within (shapes_of types) (parts_known p.types access) (tasks_in (shapes_of types) direction (number_in o) first)
  tasks_within fit t access direction first None is parts = tt
  tasks_within fit t access direction first (Some f) is parts =
      let count : part_count p.types t ≡ f.parts = cc in
      let some = some_parts p.types t f fit is in
      let behind = parts_behind (part_count p.types t) first (parts_reached p.types access) (omega (arith, count, some)) parts in
      let counted = record_counted types p.types t shown fit in
      let same = counted ∙ ap (parts_for (shapes_of types)) (number_shown t ∙ ap number_in is) in
      let known = parts_counted types p.types access shown fit in
      within_record (shapes_of types) (are_table types) (parts_known p.types access) direction (Some f.number.0) first (omega (arith, behind, same, known))

  record_counted_within : (fit : list_all (type_fits p.types) p.types ≡ true) (t access : ℕ) (direction : Direction) (first : ℕ) → has_parts_from (part_count p.types t) first (parts_reached p.types access) ≡ true → Within (shown_shapes p.types) (parts_known p.types access) (record_tasks types t direction first)
  record_counted_within fit t access direction first parts =
      let tasks = record_tasks types t direction first in
      let count = parts_known p.types access in
      subst (λ (shapes : List Shape). Within shapes count tasks) (sym (shapes_shown types p.types shown))
      (subst (λ (o : Option ℕ). Within (shapes_of types) count (tasks_in (shapes_of types) direction o first)) (sym (number_shown t))
      (tasks_within fit t access direction first (finalization_of p.types t) refl parts))

  some_counted :
      (fit : list_all (type_fits p.types) p.types ≡ true) (t n : ℕ) (o : Option Finalization) → finalization_of p.types t ≡ o → number_in o ≡ Some n
      → 0 < part_count p.types t
  some_counted fit t n None is numbered = absurd (cc numbered)
  some_counted fit t n (Some f) is numbered =
      let count : part_count p.types t ≡ f.parts = cc in
      let some = some_parts p.types t f fit is in
      omega (arith, count, some)

  record_within : (fit : list_all (type_fits p.types) p.types ≡ true) (t access : ℕ) (direction : Direction) (place : Place) → PartsLie p.types (object_named p.types (Some access)) (Some t) place.component place.part → TasksFit p.types access (record_tasks types t direction place.part)
  record_within fit t access direction place parts =
      let number = number_of types (Some t) in
      let walks = λ (n : ℕ) (numbered : number ≡ Some n). parts.1 (some_counted fit t n (finalization_of p.types t) refl (sym (number_shown t) ∙ numbered)) in
      let lie = lying_record p.types access direction t place.component place.part number (sym (number_shown t)) walks in
      let lying = subst (λ (shapes : List Shape). Lying p.types access (tasks_in shapes direction number place.part)) (shapes_shown types p.types shown) lie in
      (record_counted_within fit t access direction place.part parts.0, lying)

  -- The target is finalized, the components of the source are copied to it, and it is adjusted; nothing is done where both are one record.
  assigning_fine : (fit : list_all (type_fits p.types) p.types ≡ true) (alike : Bool) (t : ℕ) (rs : List ComponentKind) (o q : Id) (to from : Place) (s : State) (kinds : List OperandKind) → Ready p kinds s → record_components p.types t ≡ Some rs → RefersToRecord p.types (cells_of s.heap) t (Part o to) → RefersToRecord p.types (cells_of s.heap) t (Part q from) → Fits p (cells_of s.heap) kinds s.control → Fine p (assigns_next named types t (Part o to) (Part q from) (Some alike) s)
  assigning_fine fit true t rs o q to from s kinds ready recorded target source fits = running kinds ready fits
  assigning_fine fit false t rs o q to from s kinds ready recorded target source fits =
      let cells = cells_of s.heap in
      let own = target.0.access in
      let other = source.0.access in
      let ending = frame.ends (Assigning s.next) in
      let beginning = frame.begins (Adjustment s.next) [] in
      let adjusts = treating (Names o) beginning (record_tasks types t PartsFirst to.part) s.control in
      let copies = frame.Copies from.component t ∷ frame.StoresRecord (Names o) to.component (width_of types t) ∷ adjusts in
      let finalizes = treating (Names o) ending (record_tasks types t WholeFirst to.part) copies in
      let deep = treating_deep (Names o) beginning (record_tasks types t PartsFirst to.part) s.control in
      let deeper = treating_deep (Names o) ending (record_tasks types t WholeFirst to.part) copies in
      let pushed = ready_push p kinds s (variable.Access (record { 0 = other })) (Names q) ready (source.0, source.1, refl) in
      let there = ap (λ (found : Option (List ComponentKind)). has_record_at (reached_components p.types own) to.component found) (sym recorded) ∙ target.2 in
      let here = ap (λ (found : Option (List ComponentKind)). has_record_at (reached_components p.types other) from.component found) (sym recorded) ∙ source.2 in
      running (of_kind (variable.Access (record { 0 = other })) ∷ kinds) (record { filled = pushed.filled; active = pushed.active; runs = pushed.runs; deep = omega (arith, ready.deep, deep, deeper) })
      (treating_fits p cells (of_kind (variable.Access (record { 0 = other })) ∷ kinds) (Names o) ending (record_tasks types t WholeFirst to.part) copies
      (own, (target.0, target.1, refl), record_within fit t own WholeFirst to target.3, (tt, tt)) (
        kinds,
        record { 0 = other },
        rs,
        refl,
        recorded,
        here,
        (from.part, source.3),
        (
          kinds,
          record { 0 = own },
          rs,
          refl,
          width_shown types t rs shown recorded,
          tt,
          (target.0, target.1, refl),
          there,
          treating_fits p cells kinds (Names o) beginning (record_tasks types t PartsFirst to.part) s.control (own, (target.0, target.1, refl), record_within fit t own PartsFirst to target.3, (tt, tt)) fits,
        ),
      ))

  pub assigns_fine : (fit : list_all (type_fits p.types) p.types ≡ true) (t : ℕ) (rs : List ComponentKind) (target source : Value) (s : State) (kinds : List OperandKind) → Ready p kinds s → record_components p.types t ≡ Some rs → RefersToRecord p.types (cells_of s.heap) t target → RefersToRecord p.types (cells_of s.heap) t source → Fits p (cells_of s.heap) kinds s.control → Fine p (assigns_next named types t target source (same target source) s)
  assigns_fine fit t rs Null source s kinds ready recorded to from fits = absurd to
  assigns_fine fit t rs (Names o) source s kinds ready recorded to from fits = absurd to
  assigns_fine fit t rs (Scalar v) source s kinds ready recorded to from fits = absurd to
  assigns_fine fit t rs (Part o place) Null s kinds ready recorded to from fits = absurd from
  assigns_fine fit t rs (Part o place) (Names q) s kinds ready recorded to from fits = absurd from
  assigns_fine fit t rs (Part o place) (Scalar v) s kinds ready recorded to from fits = absurd from
  assigns_fine fit t rs (Part o place) (Part q other) s kinds ready recorded to from fits =
      assigning_fine fit ((o.0 == q.0) && (place.part == other.part)) t rs o q place other s kinds ready recorded to from fits
