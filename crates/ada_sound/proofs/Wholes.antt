-- Records as wholes: they are copied and assigned to, where their components are Integers and Booleans, or Adjusts see to those of access types.

use Rattle.std.proofs.Common.{◌≡◌, ℕ, zero, suc, ◌+◌, Bool, true, false, ◌||◌, ◌&&◌, List, [], ◌∷◌, ◌++◌, length, take, drop, reverse, refl, sym, ap, subst, ◌∙◌, inl, inr, arith}
use Rattle.std.proofs.lemmas.Bool.{eqb-true}
use Rattle.std.specs.Prelude.{Option, Some, None, ◌==◌, if◌then◌else◌}
use Rattle.std.specs.List.{list_any, slice_get}
use Rattle.ada_program.specs.declared.program.ComponentKind.{ComponentKind}
use Rattle.ada_program.specs.declared.program.Exception.{Exception}
use Rattle.ada_program.specs.declared.program.Exception.TheVariants.{ConstraintError}
use Rattle.ada_program.specs.declared.program.TypeDefinition.{TypeDefinition}
use Rattle.ada_program.specs.declared.program.VariableKind.TheVariants as variable
use Rattle.ada_program.specs.Form.{RecordPathForm, ItemForm, null_item, item_of_path, item_of_value, item_of_record, StmtsForm, assigns_record}
use Rattle.ada_program.specs.Handling.{is_same}
use Rattle.ada_program.specs.ProgramForm.{TypeForm, VariableForm}
use Rattle.ada_program.specs.Typed.{count_of, width_of}
use Rattle.ada_program.specs.WellFormed.{record_components, reached_components, is_alike, begins_with, begins_with_record, has_record_at, is_record_path, item_fits, item_width, items_fit, object_named}
use Rattle.ada_quiet.specs.InUse.{count_found}
use Rattle.ada_effects.specs.Effects.{effects_of, record_path_raises, items_raise, stmt_raises, assignment_frees}
use Rattle.ada_flow.specs.Flow.{Holds, hold_at, is_owning, owns_among, is_owning_record, passes_it, copies_to, uses_in_items, uses_in_record, uses_in_copy, record_passes, gives_record, using_paths, ends_with, gathers_owners}
use Rattle.ada_flow.specs.Tracking.{no_tracks}
use Rattle.ada_meaning.specs.declared.state.Id.{Id}
use Rattle.ada_meaning.specs.declared.state.Value.{Value}
use Rattle.ada_meaning.specs.declared.state.Value.TheVariants.{Null, Names, Scalar, Part}
use Rattle.ada_meaning.specs.declared.event.Birth.TheVariants.{Adjustment}
use Rattle.ada_meaning.specs.declared.state.Mode.TheVariants.{Raising, Running}
use Rattle.ada_meaning.specs.Event.{Followed}
use Rattle.ada_meaning.specs.Frame.{Copies, Does, Fills, TargetsRecord, StoresRecord}
use Rattle.ada_meaning.specs.Frame as frame
use Rattle.ada_meaning.specs.Heap.{finds}
use Rattle.ada_meaning.specs.State.{Activation, Master}
use Rattle.ada_meaning.specs.Step.{in_front, if_whole, record_in, copied_next, copies_next, record_target_next, stored_from, record_stored_next, store_record_next, place_in, record_holder_next}
use Rattle.ada_meaning.specs.Named.{Object, State, object_at, filled, store, look, named}
use Rattle.ada_meaning.proofs.Defaults.{taken_back}
use Rattle.ada_owners.specs.Places.{is_there}
use Rattle.ada_owners.specs.Keeping.{IsThere}
use Rattle.ada_owners.proofs.Changes.{store_is}
use Rattle.ada_typed.specs.Holding.{PartsLie, cells_of}
use Rattle.ada_typed.proofs.Values.{OperandKind, of_kind, AreComputed}
use Rattle.ada_typed.proofs.Control as typed
use Rattle.ada_sound.proofs.Objects.{set_here}
use Rattle.ada_sound.proofs.Stored.{Stored, stored_filled}
use Rattle.ada_sound.proofs.Fits.{Fit, MayFollow, none_spared, place_at, store_blank}
use Rattle.ada_sound.proofs.Alters.{Alters, alters_same, alters_set, alters_then}
use Rattle.ada_sound.proofs.Begins.{root_follows}
use Rattle.ada_sound.proofs.CopiedOwners.{AreCopied, CopiedFrom, IsElsewhere, Original, NameThere, names_drop, names_take, names_reverse, names_in_front, names_all, CopyLeft, owners_left, hiding, IsHidden, Covered, CopiesWell}
use Rattle.ada_sound.proofs.CoveredOwners.{alike_owns}
use Rattle.ada_sound.proofs.NoneHidden.{shifted_none}
use Rattle.ada_sound.proofs.HiddenOwners.{names_hidden, hide_set, components_there, stored_hidden, StoresWell, covered_stores, Hides, hide_all}
use Rattle.ada_tracked.specs.Frames.{View, shifted, blanked, values_at}
use Rattle.ada_typed.proofs.Parts.{shown_number}
use Rattle.ada_sound.proofs.Invariant.{outers, AdjustsAside, Giving, GivingPlain, OwnsNothing, OwnNothing, Known, Control, Rooms, Goes, To, Raised, RunsOn, RaisesAt, IsPlainIn, AdjustedBehind, IsAdjustedIn, StoresSo, StoresFrom, AdjustsTo, ReadyIn, CopiesTo, RecordIn, Working, Fine, ways, begun, along, CopiesElsewhere}
use Rattle.ada_sound.proofs.Ready.{running, at_work, at_less, stays, runs_ready, treats_ready, jumps_less}
use Rattle.ada_sound.proofs.Outcomes.{raised_before, using_goes, ends_goes, loses_to}
use Rattle.ada_sound.proofs.Followings.{first_kept, kept_apart}
use Rattle.ada_sound.proofs.Handings.{passed_safe}
use Rattle.ada_sound.proofs.Raising.{or_left, or_right}
use Rattle.ada_sound.proofs.Roots.{root_object, object_there, record_raises, selected_raises}
use Rattle.ada_sound.proofs.Assigned.{kind_names}
use Rattle.ada_sound.proofs.Gathered.{gathered_bare}
use Rattle.ada_sound.proofs.Originals.{copied_stored}
use Rattle.ada_sound.proofs.Copied.{items_keep, copied_plain, RecordThere}
use Rattle.ada_sound.proofs.Defaults.{Reaches}
use Rattle.ada_sound.proofs.Records.{NameNothing, plain_names_nothing}
use Rattle.ada_sound.proofs.Targets.{followed}
use Rattle.ada_sound.proofs.Walks.{finds_fine}

-- What typing says of a record in an object: the object has its components, from one on.
pub begins_some : (found : Option (List ComponentKind)) (first : ℕ) (kinds : List ComponentKind) → has_record_at found first (Some kinds) ≡ true → (components : List ComponentKind) × (found ≡ Some components) × (begins_with (drop first components) kinds ≡ true)
begins_some None first kinds e = absurd (cc e)
begins_some (Some components) first kinds e = (components, refl, e)

both : (a b : Bool) → (a && b) ≡ true → (a ≡ true) × (b ≡ true)
both true b e = (refl, e)
both false b e = absurd (cc e)

neither : (a b : Bool) → (a || b) ≡ false → (a ≡ false) × (b ≡ false)
neither true b e = absurd (cc e)
neither false b e = (refl, e)

-- Where one of the two lists is plain, the other is.
pub to_object : (components kinds : List ComponentKind) → begins_with components kinds ≡ true → list_any is_owning kinds ≡ false → list_any is_owning (take (length kinds) components) ≡ false
to_object components [] begins plain = refl
to_object [] (kind ∷ kinds) begins plain = absurd (cc begins)
to_object (c ∷ components) (kind ∷ kinds) begins plain =
    let b = both (is_alike c kind) (begins_with components kinds) begins in
    let p = neither (is_owning kind) (list_any is_owning kinds) plain in
    rw (alike_owns c kind b.0, p.0) (to_object components kinds b.1 p.1)

from_object : (components kinds : List ComponentKind) → begins_with components kinds ≡ true → list_any is_owning (take (length kinds) components) ≡ false → list_any is_owning kinds ≡ false
from_object components [] begins plain = refl
from_object [] (kind ∷ kinds) begins plain = absurd (cc begins)
from_object (c ∷ components) (kind ∷ kinds) begins plain =
    let b = both (is_alike c kind) (begins_with components kinds) begins in
    let p = neither (is_owning c) (list_any is_owning (take (length kinds) components)) plain in
    rw (← alike_owns c kind b.0, p.0) (from_object components kinds b.1 p.1)

-- Some of the components of a plain list are.
take_plain : (n : ℕ) (components : List ComponentKind) → list_any is_owning components ≡ false → list_any is_owning (take n components) ≡ false
take_plain zero components plain = refl
take_plain (suc n) [] plain = refl
take_plain (suc n) (c ∷ components) plain =
    let p = neither (is_owning c) (list_any is_owning components) plain in
    rw p.0 (take_plain n components p.1)

drop_plain : (n : ℕ) (components : List ComponentKind) → list_any is_owning components ≡ false → list_any is_owning (drop n components) ≡ false
drop_plain zero components plain = plain
drop_plain (suc n) [] plain = refl
drop_plain (suc n) (c ∷ components) plain = drop_plain n components (neither (is_owning c) (list_any is_owning components) plain).1

-- So items own nothing that fit them.
begun_plain :
    (components : List ComponentKind) (found : Option (List ComponentKind)) → begins_with_record components found ≡ true
    → list_any is_owning components ≡ false → owns_among found ≡ false
begun_plain components None begins plain = refl
begun_plain components (Some kinds) begins plain = from_object components kinds begins (take_plain (length kinds) components plain)

item_plain :
    (types : List TypeForm) (variables : List VariableForm) (i : ItemForm) (components : List ComponentKind) → item_fits types variables components i ≡ true
    → list_any is_owning components ≡ false → OwnsNothing types i
item_plain types variables null_item components fits plain = tt
item_plain types variables (item_of_path path) components fits plain = tt
item_plain types variables (item_of_value e) components fits plain = tt
item_plain types variables (item_of_record p) components fits plain =
    begun_plain components (record_components types p.record_type)
    (both (is_record_path types variables p) (begins_with_record components (record_components types p.record_type)) fits).1 plain

items_plain :
    (types : List TypeForm) (variables : List VariableForm) (items : List ItemForm) (components : List ComponentKind)
    → items_fit types variables components items ≡ true → list_any is_owning components ≡ false → OwnNothing types items
items_plain types variables [] components fits plain = tt
items_plain types variables (i ∷ items) components fits plain =
    let two = both (item_fits types variables components i) (items_fit types variables (drop (item_width types i) components) items) fits in (
      item_plain types variables i components two.0 plain,
      items_plain types variables items (drop (item_width types i) components) two.1 (drop_plain (item_width types i) components plain),
    )

-- Where the components of an object are covered, those of a record are with which they are alike.
covers_same : (c kind : ComponentKind) → is_alike c kind ≡ true → (X : Type 0) → (is_owning c ≡ true → X) → is_owning kind ≡ true → X
covers_same c kind e X covers owns = covers (alike_owns c kind e ∙ owns)

pub covered_to : (hidden : List ℕ) (first : ℕ) (components kinds : List ComponentKind) → begins_with components kinds ≡ true → Covered hidden first (take (length kinds) components) → Covered hidden first kinds
covered_to hidden first components [] begins covers = tt
covered_to hidden first [] (kind ∷ kinds) begins covers = absurd (cc begins)
covered_to hidden first (c ∷ components) (kind ∷ kinds) begins covers =
    let b = both (is_alike c kind) (begins_with components kinds) begins in
    (covers_same c kind b.0 (IsHidden hidden first) covers.0, covered_to hidden (first + 1) components kinds b.1 covers.1)

-- What is taken of a list, and what is left of it, is what that has.
some_taken : (n : ℕ) (vs : List Value) (d : ℕ) (v : Value) → slice_get (take n vs) d ≡ Some v → slice_get vs d ≡ Some v
some_taken zero vs d v at = absurd (cc at)
some_taken (suc n) [] d v at = absurd (cc at)
some_taken (suc n) (u ∷ vs) zero v at = at
some_taken (suc n) (u ∷ vs) (suc d) v at = some_taken n vs d v at

get_drop : (vs : List Value) (n d : ℕ) → slice_get (drop n vs) d ≡ slice_get vs (n + d)
get_drop vs zero d = ap (λ (j : ℕ). slice_get vs j) (omega arith)
get_drop [] (suc n) d = refl
get_drop (v ∷ vs) (suc n) d = let next : suc (n + d) ≡ suc n + d = omega arith in get_drop vs n d ∙ ap (λ (j : ℕ). slice_get (v ∷ vs) j) next

-- As many values as are copied.
whole_length : (count : ℕ) (values vs : List Value) → if_whole count values ≡ Some vs → length vs ≡ count
whole_length count values vs e = go (length values == count) refl e
  where
    go : (b : Bool) → (length values == count) ≡ b → (if b then Some values else None) ≡ Some vs → length vs ≡ count
    go true is e' = let one : values ≡ vs = cc e' in rw (← one) (eqb-true (length values) count is)
    go false is e' = absurd (cc e')

whole_is : (count : ℕ) (values vs : List Value) → if_whole count values ≡ Some vs → values ≡ vs
whole_is count values vs e = go (length values == count) e
  where
    go : (b : Bool) → (if b then Some values else None) ≡ Some vs → values ≡ vs
    go true e' = cc e'
    go false e' = absurd (cc e')

-- An object of which components get values that name nothing is still there, objects are stored, and all places are as they are relied on to be.
pub record Stores (known : Known) (heap : List Object) (places : List Value) (ms : List Master) (holds : Holds) (o : Id) (after : List Object) : Type 0 where
  pub stored : Stored (outers known).under after ms
  pub fit : Fit known.program.types known.program.variables (outers known) none_spared after places holds
  pub alters : Alters heap (Followed (Names o)) after

store_all : (known : Known) (heap : List Object) (places : List Value) (ms : List Master) (holds : Holds) (o : Id) (object : Object) (c : ℕ) (vs : List Value) → object_at heap o ≡ Some object → NameNothing vs → Stored (outers known).under heap ms → Fit known.program.types known.program.variables (outers known) none_spared heap places holds → Stores known heap places ms holds o (stored_from named heap (Names o) c vs)
store_all known heap places ms holds o object c [] found none stored fit = record { stored = stored; fit = fit; alters = alters_same heap (Followed (Names o)) }
store_all known heap places ms holds o object c (v ∷ vs) found none stored fit =
    let one = store_is heap o object found c v in
    let mid = store heap (Names o) c v in
    let there : object_at mid o ≡ Some (filled c v object) = rw one (set_here heap o.0 object (filled c v object) found) in
    let stays : Stored (outers known).under mid ms = rw one (stored_filled o object c v found stored) in
    let alters : Alters heap (Followed (Names o)) mid = rw one (alters_set heap (Followed (Names o)) o object (filled c v object) found (refl, refl, refl) (λ h. h) (λ h. inl h)) in
    let later = store_all known mid places ms holds o (filled c v object) (c + 1) vs there none.1 stays (store_blank o object c v found none.0 fit) in
    record { stored = later.stored; fit = later.fit; alters = alters_then heap mid (stored_from named mid (Names o) (c + 1) vs) (Followed (Names o)) alters later.alters }

module _ (known : Known) (types : List TypeDefinition) (reaches : Reaches known types) (k : Control) (a : Activation Value) (rest : List (Activation Value)) (s : State) where
  -- As many components as a record type has.
  pub width_is : (t : ℕ) (kinds : List ComponentKind) → record_components known.program.types t ≡ Some kinds → width_of types t ≡ length kinds
  width_is t kinds is = ap count_of (reaches.1 t ∙ is)

  -- What is copied goes into components of an object.
  copied_from : (p : Value) (t first count : ℕ) (vs below : List Value) (next : Control) (rooms : Rooms) (holds : Holds) → length vs ≡ width_of types t → NameThere s.heap vs → IsAdjustedIn known s.heap p t first count next rooms holds → NameThere s.heap (take count (in_front vs below))
  copied_from Null t first count vs below next rooms holds many names r = absurd r
  copied_from (Scalar n) t first count vs below next rooms holds many names r = absurd r
  copied_from (Part q place) t first count vs below next rooms holds many names r = absurd r
  copied_from (Names q) t first count vs below next rooms holds many names r =
      let to = r.3 in
      let as_many : count ≡ length vs = to.counted ∙ sym (many ∙ width_is t to.kinds to.components) in
      rw as_many (names_in_front s.heap vs below names)

  -- They are those of the record that was copied.
  copied_back :
      (p : Value) (t first count : ℕ) (vs below : List Value) (next : Control) (rooms : Rooms) (holds : Holds) → length vs ≡ width_of types t
      → IsAdjustedIn known s.heap p t first count next rooms holds → reverse (take count (in_front vs below)) ≡ vs
  copied_back Null t first count vs below next rooms holds many r = absurd r
  copied_back (Scalar n) t first count vs below next rooms holds many r = absurd r
  copied_back (Part q place) t first count vs below next rooms holds many r = absurd r
  copied_back (Names q) t first count vs below next rooms holds many r =
      let to = r.3 in
      let as_many : count ≡ length vs = to.counted ∙ sym (many ∙ width_is t to.kinds to.components) in
      ap (λ (n : ℕ). reverse (take n (in_front vs below))) as_many ∙ taken_back vs below

  -- A record is one that these values are copied from, which is another one than that to which they go.
  abbrev IsOriginal : (t : ℕ) → Value → (to : ℕ) → List Value → Type 0
  IsOriginal t p to vs = (original : Original known.program.types s.heap t vs) × IsElsewhere known.program.types s.heap t vs original p to

  copied_in : (p : Value) (t first count : ℕ) (vs below : List Value) (next : Control) (rooms : Rooms) (holds : Holds) → length vs ≡ width_of types t → NameThere s.heap vs → IsOriginal t p first vs → StoresSo known s.heap p t first count next rooms holds → StoresFrom known s.heap (in_front vs below) p first count next rooms holds
  copied_in p t first count vs below next rooms holds many names original (inl r) = inl r
  copied_in p t first count vs below next rooms holds many names original (inr r) =
      inr (
        t,
        r,
        copied_from p t first count vs below next rooms holds many names r,
        subst (IsOriginal t p first) (sym (copied_back p t first count vs below next rooms holds many r)) original,
      )

  -- A record is copied: null raises Constraint_Error.
  module _ (from t : ℕ) (o : Id) (there : IsThere s.heap o) (rs : List ComponentKind) (components : record_components known.program.types t ≡ Some rs) (lies : (part : ℕ) × PartsLie known.program.types (object_named known.program.types (Some there.0.cell.access)) (Some t) from part) where
    -- The record that is copied.
    abbrev original_of : (vs : List Value) → record_in there.0.cell.values from (width_of types t) ≡ Some vs → length vs ≡ width_of types t → Original known.program.types s.heap t vs
    original_of vs found many = record {
      source = o;
      first = from;
      part = lies.0;
      object = there.0;
      found = there.1;
      there = there.2;
      lies = lies.1;
      counted = many ∙ width_is t rs components ∙ sym (ap count_found components);
      holds = λ d v at.
          let whole : take (width_of types t) (drop from there.0.cell.values) ≡ vs = whole_is (width_of types t) (take (width_of types t) (drop from there.0.cell.values)) vs found in
          let here : slice_get (take (width_of types t) (drop from there.0.cell.values)) d ≡ Some v = ap (λ (us : List Value). slice_get us d) whole ∙ at in
          sym (get_drop there.0.cell.values from d) ∙ some_taken (width_of types t) (drop from there.0.cell.values) d v here;
    }

    copied_on : (next : Control) (below : List Value) (found : Option (List Value)) → record_in there.0.cell.values from (width_of types t) ≡ found → ((vs : List Value) → found ≡ Some vs → length vs ≡ width_of types t) → ((vs : List Value) → found ≡ Some vs → NameThere s.heap vs) → Working known s.heap a.places s.masters (λ rooms holds. CopiesElsewhere known.program.types t from (Names o) next × CopiesTo known s.heap a.places t below next rooms holds) → Fine known s.heap s.masters (copied_next named (Names o) found (running next (record a { operands = below }) rest s))
    copied_on next below None is many names w = tt
    copied_on [] below (Some vs) is many names w = absurd w.rest.1
    copied_on (Fills items ∷ k') below (Some vs) is many names w =
        let fills = w.rest.1 in
        stays known (Followed (Names o)) (running (Fills items ∷ k') (record a { operands = in_front vs below }) rest s)
        (tt, at_work w (fills.2 vs (many vs refl ∙ width_is t fills.0 fills.1) (names vs refl) (original_of vs is (many vs refl)))) (followed o there)
    copied_on (StoresRecord p first count ∷ k') below (Some vs) is many names w =
        stays known (Followed (Names o)) (running (StoresRecord p first count ∷ k') (record a { operands = in_front vs below }) rest s)
        (tt, at_work w (copied_in p t first count vs below k' w.rooms w.holds (many vs refl) (names vs refl) (original_of vs is (many vs refl), w.rest.0) w.rest.1)) (followed o there)
    copied_on (f ∷ k') below (Some vs) is many names w = absurd w.rest.1

  -- Typing says where it lies.
  lies_typed :
      (first t : ℕ) (o : Id) (object : Object) (below : List Value) (kinds : List OperandKind) → object_at s.heap o ≡ Some object
      → typed.Fits known.program (cells_of s.heap) kinds (Copies first t ∷ k) → AreComputed known.program.types (cells_of s.heap) kinds (Names o ∷ below)
      → ((rs : List ComponentKind) × (record_components known.program.types t ≡ Some rs))
      × ((part : ℕ) × PartsLie known.program.types (object_named known.program.types (Some object.cell.access)) (Some t) first part)
  lies_typed first t o object below kinds found (ks, access, rs, is, components, lies, parts, more) computed =
      let newest : AreComputed known.program.types (cells_of s.heap) (of_kind (variable.Access access) ∷ ks) (Names o ∷ below) = rw is at computed in
      let of : Some access.0 ≡ Some object.cell.access = kind_names known.program.types s.heap (variable.Access access) o object newest.0 found in (
        (rs, components),
        subst (λ (n : Option ℕ). (part : ℕ) × PartsLie known.program.types (object_named known.program.types n) (Some t) first part) of parts,
      )

  pub copies_fine : (first t : ℕ) (v : Value) (below : List Value) (kinds : List OperandKind) → typed.Fits known.program (cells_of s.heap) kinds (Copies first t ∷ k) → AreComputed known.program.types (cells_of s.heap) kinds (v ∷ below) → Working known s.heap a.places s.masters (λ rooms holds. MayFollow s.heap v × RaisesAt known v [] k rooms holds × (CopiesElsewhere known.program.types t first v k × CopiesTo known s.heap a.places t below k rooms holds)) → Fine known s.heap s.masters (copies_next named v first (width_of types t) (look s.heap v) (running k (record a { operands = below }) rest s))
  copies_fine first t Null below kinds fits computed w = jumps_less known k (record a { operands = below }) rest s (Raising ConstraintError) (at_work w (w.rest.1 refl))
  copies_fine first t (Names o) below kinds fits computed w =
      let there : IsThere s.heap o = w.rest.0 in
      let looks : look s.heap (Names o) ≡ finds there.0.cell = rw (there.1, (w.stored.sane o there.0 there.1).there_exists there.2) refl in
      let typed_so = lies_typed first t o there.0 below kinds there.1 fits computed in
      rw looks (copied_on first t o there typed_so.0.0 typed_so.0.1 typed_so.1 k below (record_in there.0.cell.values first (width_of types t)) refl
      (λ vs is. whole_length (width_of types t) (take (width_of types t) (drop first there.0.cell.values)) vs is)
      (λ vs is. rw (← whole_is (width_of types t) (take (width_of types t) (drop first there.0.cell.values)) vs is)
      (names_take s.heap (width_of types t) (drop first there.0.cell.values) (names_drop s.heap first there.0.cell.values (names_all s.heap there.0.cell.values (components_there s.heap o there.0 there.1 w.fit there.2)))))
      (at_work w w.rest.2))
  copies_fine first t (Scalar n) below kinds fits computed w = tt
  copies_fine first t (Part object_id base) below kinds fits computed w = tt

  -- The object in which a record lies that is assigned to is found: its items come next.
  plain_there : (first t : ℕ) (o : Id) (object : Object) (below : List Value) (kinds : List OperandKind) → object_at s.heap o ≡ Some object → is_there object.stage ≡ true → is_owning_record known.program.types t ≡ false → (items : List ItemForm) → typed.Fits known.program (cells_of s.heap) kinds (TargetsRecord first t items ∷ k) → AreComputed known.program.types (cells_of s.heap) kinds (Names o ∷ below) → IsPlainIn known s.heap (Names o) first (width_of types t)
  plain_there first t o object below kinds found listed plain items (ks, access, rs, is, components, lies, fits, more) computed =
      let newest : AreComputed known.program.types (cells_of s.heap) (of_kind (variable.Access access) ∷ ks) (Names o ∷ below) = rw is at computed in
      let of : Some access.0 ≡ Some object.cell.access = kind_names known.program.types s.heap (variable.Access access) o object newest.0 found in
      let same : access.0 ≡ object.cell.access = cc of in
      let b = begins_some (reached_components known.program.types object.cell.access) first rs (rw same at lies) in
      let none : list_any is_owning rs ≡ false = rw components at plain in (
        object,
        found,
        listed,
        λ reached at'. (
            let one : b.0 ≡ reached = let here = b.1 in cc (here, at') in
            rw (width_is t rs components) (to_object (drop first reached) rs (rw one at b.2) none)
            ),
      )

  -- Its items own nothing.
  owning_nothing :
      (first t : ℕ) (items : List ItemForm) (kinds : List OperandKind) (rooms : Rooms) (holds : Holds)
      → typed.Fits known.program (cells_of s.heap) kinds (TargetsRecord first t items ∷ k) → is_owning_record known.program.types t ≡ false
      → Giving known items k rooms holds → GivingPlain known items k rooms holds
  owning_nothing first t items kinds rooms holds (ks, access, rs, is, components, lies, fits, more) plain giving =
      let none : list_any is_owning rs ≡ false = rw components at plain in
      record {
        spot = giving.spot;
        earlier = giving.earlier;
        keeps = giving.keeps;
        raises = giving.raises;
        bare = λ so. items_plain known.program.types known.program.variables items rs fits none;
      }

  pub record_target_fine : (first t : ℕ) (items : List ItemForm) (v : Value) (below : List Value) (kinds : List OperandKind) → typed.Fits known.program (cells_of s.heap) kinds (TargetsRecord first t items ∷ k) → AreComputed known.program.types (cells_of s.heap) kinds (v ∷ below) → Working known s.heap a.places s.masters (λ rooms holds. MayFollow s.heap v × RaisesAt known v [] k rooms holds × RecordIn known t items k rooms holds) → Fine known s.heap s.masters (record_target_next named v first (width_of types t) items (look s.heap v) (running k (record a { operands = below }) rest s))
  record_target_fine first t items Null below kinds fits computed w = jumps_less known k (record a { operands = below }) rest s (Raising ConstraintError) (at_work w (w.rest.1 refl))
  record_target_fine first t items (Names o) below kinds fits computed w =
      let there : IsThere s.heap o = w.rest.0 in
      let in_record = w.rest.2 in
      let plain = plain_there first t o there.0 below kinds there.1 there.2 in_record.0 items fits computed in
      rw (there.1, (w.stored.sane o there.0 there.1).there_exists there.2)
      (stays known (Followed (Names o)) (running (Fills items ∷ StoresRecord (Names o) first (width_of types t) ∷ k) (record a { operands = below }) rest s)
      (tt, at_work w (owning_nothing first t items kinds w.rooms w.holds fits in_record.0 in_record.1, (plain, in_record.2))) (followed o there))
  record_target_fine first t items (Scalar n) below kinds fits computed w = tt
  record_target_fine first t items (Part object_id base) below kinds fits computed w = tt

  -- The values of its items go into its components.
  named_nothing : (o : Id) (first count : ℕ) (kinds : List OperandKind) → typed.Fits known.program (cells_of s.heap) kinds (StoresRecord (Names o) first count ∷ k) → AreComputed known.program.types (cells_of s.heap) kinds a.operands → IsPlainIn known s.heap (Names o) first count → NameNothing (reverse (take count a.operands))
  named_nothing o first count kinds (ks, access, rs, is, counted, name, designates, lies, more) computed (object, found, listed, plain) =
      let have = (typed.split known.program.types (cells_of s.heap) rs ks a.operands (rw is at computed)).0 in
      let of : Some access.0 ≡ Some object.cell.access = kind_names known.program.types s.heap (variable.Access access) o object designates found in
      let same : access.0 ≡ object.cell.access = cc of in
      let b = begins_some (reached_components known.program.types object.cell.access) first rs (rw same at lies) in
      rw counted (plain_names_nothing known.program.types (cells_of s.heap) rs (reverse (take (length rs) a.operands)) (from_object (drop first b.0) rs b.2 (rw counted at (plain b.0 b.1))) have)

  stored_whole : (o : Id) (object : Object) (first count : ℕ) (found : Option (List Value)) → object_at s.heap o ≡ Some object → is_there object.stage ≡ true → NameNothing (reverse (take count a.operands)) → Working known s.heap a.places s.masters (λ rooms holds. To (RunsOn known k rooms) holds) → Fine known s.heap s.masters (record_stored_next named (Names o) first (reverse (take count a.operands)) found (running k (record a { operands = drop count a.operands }) rest s))
  stored_whole o object first count None found listed none w = tt
  stored_whole o object first count (Some before) found listed none w =
      let vs = reverse (take count a.operands) in
      let after = stored_from named s.heap (Names o) first vs in
      let all = store_all known s.heap a.places s.masters w.holds o object first vs found none w.stored w.fit in
      let works : Working known after a.places s.masters (λ rooms holds. To (RunsOn known k rooms) holds) =
      record { rooms = w.rooms; holds = w.holds; stored = all.stored; roomed = w.roomed; fit = all.fit; rest = w.rest } in
      record {
        ready = (tt, runs_ready known k after a.places (drop count a.operands) s.masters (at_less works works.rest));
        alters = all.alters;
        says = followed o (object, found, listed);
      }

  -- Where Adjusts see to components of access types, these count as null until they have ended.
  module _ (o : Id) (object : Object) (t first count : ℕ) (found : object_at s.heap o ≡ Some object) (listed : is_there object.stage ≡ true) {more : Rooms → Holds → Type 0} (w : Working known s.heap a.places s.masters more) (to : AdjustedBehind known (Names o) object.cell.access t first count k w.rooms w.holds) where
    abbrev hidden : List ℕ
    hidden = owners_left known.program.types object.cell.access to.tasks

    abbrev view : View
    view = hiding hidden o

    abbrev shown : List ℕ
    shown = shifted 0 hidden

    abbrev values : List Value
    values = reverse (take count a.operands)

    abbrev stores : List Object
    stores = stored_from named s.heap (Names o) first values

    well_stored : (kinds : List OperandKind) → typed.Fits known.program (cells_of s.heap) kinds (StoresRecord (Names o) first count ∷ k) → AreComputed known.program.types (cells_of s.heap) kinds a.operands → StoresWell shown first values
    well_stored kinds (ks, access, rs, is, counted, name, designates, lies, rest') computed =
        let have = (typed.split known.program.types (cells_of s.heap) rs ks a.operands (rw is at computed)).0 in
        let of : Some access.0 ≡ Some object.cell.access = kind_names known.program.types s.heap (variable.Access access) o object designates found in
        let same : access.0 ≡ object.cell.access = cc of in
        let b = begins_some (reached_components known.program.types object.cell.access) first rs (rw same at lies) in
        let covers : Covered hidden first (take (length rs) (drop first b.0)) = rw counted at (to.covers b.0 b.1) in
        let well = covered_stores known.program.types (cells_of s.heap) hidden first rs (reverse (take (length rs) a.operands)) (covered_to hidden first (drop first b.0) rs b.2 covers) have in
        rw counted (subst (λ (cs : List ℕ). StoresWell cs first (reverse (take (length rs) a.operands))) (sym (shifted_none hidden)) well)

    fits_hidden : Fit known.program.types known.program.variables (outers known) none_spared (blanked view s.heap) a.places w.holds
    fits_hidden = rw found (hide_set s.heap o object found w.fit shown)

    hides : StoresWell shown first values → NameThere s.heap (take count a.operands) → Hides (outers known) known.program.types known.program.variables s.heap a.places s.masters w.holds view object stores
    hides well names =
        hide_all (outers known) known.program.types known.program.variables a.places s.masters w.holds view refl s.heap object first values found well
        (names_reverse s.heap (take count a.operands) names) (names_hidden s.heap shown object.cell.values (components_there s.heap o object found w.fit listed)) w.stored fits_hidden

    hidden_works : Hides (outers known) known.program.types known.program.variables s.heap a.places s.masters w.holds view object stores → Working known (blanked view stores) a.places s.masters (λ rooms holds. To (λ less. RunsOn known to.behind rooms less × AdjustsAside known object.cell.access t less) holds)
    hidden_works h = record { rooms = w.rooms; holds = w.holds; stored = stored_hidden view h.object h.found h.stored; roomed = w.roomed; fit = h.fit; rest = to.runs }

    -- It is a copy of another record.
    copied_so : (original : Original known.program.types s.heap t values) → IsElsewhere known.program.types s.heap t values original (Names o) first
        → (h : Hides (outers known) known.program.types known.program.variables s.heap a.places s.masters w.holds view object stores)
        → CopiedFrom known.program.types stores o t to.left.first hidden h.object.cell.values
    copied_so original elsewhere h =
        subst (λ (n : ℕ). CopiedFrom known.program.types stores o t n hidden h.object.cell.values) (sym to.begins)
        (copied_stored known.program.types s.heap t values original o object first hidden found elsewhere h.object h.found)

    -- The record that is copied, which is another one.
    abbrev IsCopied : Type 0
    IsCopied = (original : Original known.program.types s.heap t values) × IsElsewhere known.program.types s.heap t values original (Names o) first

    -- What is left of its adjustment, where the object is known by this type.
    abbrev LeftOf : (vs : List Value) → (access : ℕ) → Type 0
    LeftOf vs access =
        ((left : CopyLeft known.program.types access t to.tasks) × AreCopied known.program.types stores o t left.first (owners_left known.program.types access to.tasks) vs)
        × NameThere stores (values_at (owners_left known.program.types access to.tasks) vs)
        × Working known (blanked (hiding (owners_left known.program.types access to.tasks) o) stores) a.places s.masters (λ rooms holds. RunsOn known to.behind rooms holds × AdjustsAside known access t holds)

    adjusts_next : Hides (outers known) known.program.types known.program.variables s.heap a.places s.masters w.holds view object stores → IsCopied → AdjustsTo known (Names o) to.tasks to.behind stores a.places s.masters
    adjusts_next h original =
        let works = hidden_works h in
        let named : NameThere stores (values_at hidden h.object.cell.values) = subst (λ (cs : List ℕ). NameThere stores (values_at cs h.object.cell.values)) (shifted_none hidden) h.named in
        let here : LeftOf h.object.cell.values object.cell.access =
        ((to.left, inr (copied_so original.0 original.1 h)), named, at_less {other = λ rooms less. RunsOn known to.behind rooms less × AdjustsAside known object.cell.access t less} works works.rest) in
        let there : LeftOf h.object.cell.values h.object.cell.access = subst (LeftOf h.object.cell.values) (sym h.access) here in
        record {
          o = o;
          is = refl;
          x = h.object;
          found = h.found;
          there = rw (h.stage) listed;
          record_type = t;
          left = there.0.0;
          named = there.1;
          copied = there.0.1;
          works = there.2;
        }

    adjusts_ready : Hides (outers known) known.program.types known.program.variables s.heap a.places s.masters w.holds view object stores → IsCopied → ReadyIn known Running k stores a.places (drop count a.operands) s.masters
    adjusts_ready h original =
        subst (λ (c : Control). ReadyIn known Running c stores a.places (drop count a.operands) s.masters) (sym to.is)
        (treats_ready known (Names o) (frame.begins (Adjustment to.number) []) to.tasks to.behind stores a.places (drop count a.operands) s.masters (adjusts_next h original) tt)

    stored_adjusted : (before : Option (List Value)) → StoresWell shown first values → NameThere s.heap (take count a.operands) → IsCopied → Fine known s.heap s.masters (record_stored_next named (Names o) first values before (running k (record a { operands = drop count a.operands }) rest s))
    stored_adjusted None well names original = tt
    stored_adjusted (Some before) well names original =
        let h = hides well names in
        record { ready = (tt, adjusts_ready h original); alters = h.alters; says = followed o (object, found, listed) }

  pub store_record_fine : (o : Value) (first count : ℕ) (kinds : List OperandKind) → typed.Fits known.program (cells_of s.heap) kinds (StoresRecord o first count ∷ k) → AreComputed known.program.types (cells_of s.heap) kinds a.operands → Working known s.heap a.places s.masters (StoresFrom known s.heap a.operands o first count k) → Fine known s.heap s.masters (store_record_next named o first count (look s.heap o) (running k a rest s))
  store_record_fine v first count kinds fits computed w = by v fits w.rest
    where
      by : (v : Value) → typed.Fits known.program (cells_of s.heap) kinds (StoresRecord v first count ∷ k) → StoresFrom known s.heap a.operands v first count k w.rooms w.holds → Fine known s.heap s.masters (store_record_next named v first count (look s.heap v) (running k a rest s))
      by Null fits' (inl r) = absurd r.0
      by (Scalar n) fits' (inl r) = absurd r.0
      by (Part q place) fits' (inl r) = absurd r.0
      by Null fits' (inr r) = absurd r.1
      by (Scalar n) fits' (inr r) = absurd r.1
      by (Part q place) fits' (inr r) = absurd r.1
      by (Names o) fits' (inl r) =
          let p = r.0 in
          let none = named_nothing o first count kinds fits' computed p in
          let looks : look s.heap (Names o) ≡ finds p.0.cell = rw (p.1, (w.stored.sane o p.0 p.1).there_exists p.2) refl in
          rw looks (stored_whole o p.0 first count (record_in p.0.cell.values first count) p.1 p.2 none (at_work w r.1))
      by (Names o) fits' (inr r) =
          let p = r.1 in
          let looks : look s.heap (Names o) ≡ finds p.0.cell = rw (p.1, (w.stored.sane o p.0 p.1).there_exists p.2) refl in
          rw looks (stored_adjusted o p.0 r.0 first count p.1 p.2 w p.3 (record_in p.0.cell.values first count) (well_stored o p.0 r.0 first count p.1 p.2 w p.3 kinds fits' computed) r.2 r.3)

-- A record is assigned to: its object is found first.
pub record_begins : (known : Known) (a : Activation Value) (rest : List (Activation Value)) (s : State) → CopiesWell known.program.types → (target : RecordPathForm) (items : List ItemForm) (fs : StmtsForm) (k : Control) → shown_number known.program.types (Some target.record_type) ≡ None → RecordThere known.program.types known.program.variables target → Working known s.heap a.places s.masters (λ rooms holds. Goes (gives_record known.program.types known.program.variables no_tracks (λ u. assignment_frees known.implicit u target.record_type) target items holds) (RunsOn known (Does fs ∷ k) rooms) (Raised (λ e. stmt_raises (effects_of known.implicit known.program) (is_same e) (assigns_record target items)) (ways known k rooms))) → Fine known s.heap s.masters (record_holder_next named target (λ place. TargetsRecord place.component target.record_type items) (running (Does fs ∷ k) a rest s))
record_begins known a rest s well target items fs k bare there w =
    let program = known.program in
    let path = target.object in
    let v = begun a.places path in
    let place = place_in named (place_at a.places path.root) path.selectors target in
    let owning = gathers_owners program.types target.record_type items in
    let used = uses_in_items program.types path.spot None [] items in
    let may = record_path_raises target || items_raise items in
    let among : Exception → Bool = λ e. stmt_raises (effects_of known.implicit known.program) (is_same e) (assigns_record target items) in
    let out = ways known k w.rooms in
    let more = To (RunsOn known (Does fs ∷ k) w.rooms) in
    let frees = λ (u : ℕ). assignment_frees known.implicit u target.record_type in
    let needed = uses_in_record program.types path.spot target.record_type items in
    let copies = uses_in_copy program.types program.variables frees items in
    let reach = passes_it (record_passes program.types program.variables frees target) path in
    let flow = ends_with may w.holds w.holds in
    let g = loses_to program.variables frees (using_paths no_tracks (reach ∷ (needed ++ copies)) w.holds flow) (RunsOn known (Does fs ∷ k) w.rooms) (Raised among out) (raised_before among out) w.rest in
    let u = using_goes (reach ∷ (needed ++ copies)) w.holds flow more (Raised among out) g in
    let n = ends_goes may w.holds w.holds more (Raised among out) u.1 in
    let found = first_kept w.holds reach (needed ++ copies) u.0 in
    let reached = passed_safe (record_passes program.types program.variables frees target) (hold_at w.holds path.root) path.spot found.0 in
    let copied = first_kept w.holds (copies_to owning path.spot) used (kept_apart w.holds needed copies found.1).0 in
    finds_fine known a rest s a.operands (TargetsRecord place.component target.record_type items ∷ Does fs ∷ k) (along a.places path) v
    (at_work w (
      selected_raises known (place_at a.places path.root) v path.selectors (Does fs ∷ k) w.rooms w.holds
          (record_raises known v (Does fs ∷ k) w.rooms w.holds path.of_record path.selectors
          (λ whole. object_there path.root path.spot reached.1 (root_object program.types program.variables path there.to there.leads whole) w.fit)
          (λ raises. (let either = or_left (record_path_raises target) (items_raise items) raises in n.1 either ConstraintError either))),
      (
        gathered_bare program.types well path.spot w.holds target.record_type items bare (copied_plain owning path.spot copied.0) copied.1,
        record {
          spot = path.spot;
          earlier = [];
          keeps = items_keep program.types path.spot None w.holds [] items copied.1;
          raises = λ raises. (let either = or_right (record_path_raises target) (items_raise items) raises in n.1 either ConstraintError either);
          bare = λ plain. absurd (cc plain);
        },
        n.0,
      ),
    )) (root_follows path.root path.spot reached.1 w.fit)
