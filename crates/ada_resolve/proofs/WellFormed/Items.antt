-- An expression with which nothing is wrong means a value, and that has its type; where nothing is wrong with the items of an aggregate and their
-- count, they are those of a record.

use Rattle.std.proofs.Common.{◌≡◌, ◌∙◌, ℕ, Bool, true, false, ◌&&◌, List, [], ◌∷◌, ◌++◌, ◌+◌, length, drop, refl, sym, ap, subst, zero, suc, arith, cond, eqb, eq-eqb, eqb-true}
use Rattle.std.specs.Prelude.{Option, Some, None, is_some, not}
use Rattle.std.specs.List.{slice_get, slice_set, list_all}
use Rattle.std.proofs.Math.ListN.{replicate}
use Rattle.std.proofs.Math.Seq.{drop-length}
use Rattle.ada_text.specs.declared.spot.Spot.{Spot}
use Rattle.ada_tree.specs.Names.{Ident}
use Rattle.ada_tree.specs.Expressions.{ExpressionTree, number_expression, null_expression, path_expression, aggregate_expression, enclosed_expression, unary_expression, binary_expression, ItemsTree, no_more_items, an_item}
use Rattle.ada_program.specs.declared.program.ComponentKind.{ComponentKind}
use Rattle.ada_program.specs.declared.program.ComponentKind.TheVariants as kind
use Rattle.ada_program.specs.declared.program.Finalization.{Finalization}
use Rattle.ada_program.specs.declared.program.TypeNo.{TypeNo}
use Rattle.ada_program.specs.declared.program.PartKind.{PartKind}
use Rattle.ada_program.specs.declared.program.PartKind.TheVariants as part
use Rattle.ada_program.specs.declared.program.ScalarType.TheVariants.{Integer, Boolean}
use Rattle.ada_program.specs.Form.{ItemForm, RecordPathForm, null_item, item_of_path, item_of_value, item_of_record}
use Rattle.ada_program.specs.ProgramForm.{PartForm, TypeForm, record_of, VariableForm}
use Rattle.ada_program.specs.WellFormed as fits
use Rattle.ada_resolve.specs.declared.fault.NameRule.TheVariants.{WrongType, NotInProfile}
use Rattle.ada_resolve.specs.declared.components.KnownComponent.{KnownComponent}
use Rattle.ada_resolve.specs.declared.scope.Entity.{Entity}
use Rattle.ada_resolve.specs.declared.scope.Entity.TheVariants as entity
use Rattle.ada_resolve.specs.Controlled.{aggregate_wanted}
use Rattle.ada_resolve.specs.Known.{Known, visible, parts}
use Rattle.ada_resolve.specs.Naming.{AreLaidOut}
use Rattle.ada_resolve.specs.Records.{kinds_within}
use Rattle.ada_resolve.specs.Paths.{component_at, Meant, unknown, null_value, access_value, integer_value, boolean_value, record_value, aggregate_value, lent_value, elementary_of, components_of}
use Rattle.ada_resolve.specs.Expressions.{expression_meant, expression_remark, items_remark, after_items, all_items_remark, filling_of}
use Rattle.ada_resolve.specs.Types.{complete_in, complete_found, complete_remark, complete_type_wanted}
use Rattle.ada_resolve.specs.Items.{Filling, component_for, item_spot, item_meant, fits_remark, is_filled, for_remark, is_alike, filled_for, after_item, first_filling, filled_components, names_component, count_remark, component_item_remark, label_remark, flattened, aggregate_meant}
use Rattle.ada_resolve.specs.Operators.{signature_of, record_value_wanted}
use Rattle.ada_resolve.specs.Remark.{Remark, wrong, wrong_if, ◌also◌}
use Rattle.ada_resolve.specs.Spots.{expression_spot}
use Rattle.ada_resolve.proofs.WellFormed.Remarks.{Quiet, quiet_if, quiet_unless}
use Rattle.ada_resolve.proofs.WellFormed.Tables.{all_more, both_parts, first_part, second_part}
use Rattle.ada_resolve.proofs.WellFormed.Names.{EntityFits, PartsFit, visible_fits, laid_in}
use Rattle.ada_resolve.proofs.WellFormed.Typing.{is_of_type}
use Rattle.ada_resolve.proofs.WellFormed.Meanings.{MeantFits, begins_own, components_there, path_fits, unary_fits, binary_fits}
use Rattle.ada_resolve.proofs.WellFormed.Laid.{append_none, elementary_is}
use Rattle.ada_resolve.proofs.WellFormed.Selected.{IsComponentOf, named_at}

-- items for some components, and behind them those for others

begins_more : (ks ls rs : List ComponentKind) → fits.begins_with ks rs ≡ true → (fits.begins_with (ks ++ ls) rs ≡ true) × (drop (length rs) (ks ++ ls) ≡ drop (length rs) ks ++ ls)
begins_more ks ls [] h = (refl, refl)
begins_more [] ls (r ∷ rs) h = absurd (cc h)
begins_more (k ∷ ks) ls (r ∷ rs) h =
    let rest = begins_more ks ls rs (second_part (fits.is_alike k r) (fits.begins_with ks rs) h) in
    (both_parts (fits.is_alike k r) (fits.begins_with (ks ++ ls) rs) (first_part (fits.is_alike k r) (fits.begins_with ks rs) h) rest.0, rest.1)

record_more : (ks ls : List ComponentKind) (o : Option (List ComponentKind)) → fits.begins_with_record ks o ≡ true → (fits.begins_with_record (ks ++ ls) o ≡ true) × (drop (fits.width_in o) (ks ++ ls) ≡ drop (fits.width_in o) ks ++ ls)
record_more ks ls None h = absurd (cc h)
record_more ks ls (Some rs) h = begins_more ks ls rs h

first_more : (types : List TypeForm) (variables : List VariableForm) (ks ls : List ComponentKind) (i : ItemForm) → fits.first_fits types variables ks i ≡ true → (fits.first_fits types variables (ks ++ ls) i ≡ true) × (drop 1 (ks ++ ls) ≡ drop 1 ks ++ ls)
first_more types variables [] ls i h = absurd (cc h)
first_more types variables (k ∷ ks) ls i h = (h, refl)

one_more : (types : List TypeForm) (variables : List VariableForm) (ks ls : List ComponentKind) (i : ItemForm) → fits.item_fits types variables ks i ≡ true → (fits.item_fits types variables (ks ++ ls) i ≡ true) × (drop (fits.item_width types i) (ks ++ ls) ≡ drop (fits.item_width types i) ks ++ ls)
one_more types variables ks ls null_item h = first_more types variables ks ls null_item h
one_more types variables ks ls (item_of_path path) h = first_more types variables ks ls (item_of_path path) h
one_more types variables ks ls (item_of_value e) h = first_more types variables ks ls (item_of_value e) h
one_more types variables ks ls (item_of_record p) h =
    let leads = fits.is_record_path types variables p in
    let o = fits.record_components types p.record_type in
    let more = record_more ks ls o (second_part leads (fits.begins_with_record ks o) h) in
    (both_parts leads (fits.begins_with_record (ks ++ ls) o) (first_part leads (fits.begins_with_record ks o) h) more.0, more.1)

items_both : (types : List TypeForm) (variables : List VariableForm) (ks ls : List ComponentKind) (xs ys : List ItemForm) → fits.items_fit types variables ks xs ≡ true → fits.items_fit types variables ls ys ≡ true → fits.items_fit types variables (ks ++ ls) (xs ++ ys) ≡ true
items_both types variables [] ls [] ys h g = g
items_both types variables (k ∷ ks) ls [] ys h g = absurd (cc h)
items_both types variables ks ls (x ∷ xs) ys h g =
    let behind = drop (fits.item_width types x) ks in
    let own = fits.item_fits types variables ks x in
    let rest = fits.items_fit types variables behind xs in
    let one = one_more types variables ks ls x (first_part own rest h) in
    both_parts (fits.item_fits types variables (ks ++ ls) x) (fits.items_fit types variables (drop (fits.item_width types x) (ks ++ ls)) (xs ++ ys)) one.0
    (subst (λ (cs : List ComponentKind). fits.items_fit types variables cs (xs ++ ys) ≡ true) (sym one.1) (items_both types variables behind ls xs ys (second_part own rest h) g))

-- items are those of a component, and no borrowers
abbrev AreItemsOf : List TypeForm → List VariableForm → PartKind → List ItemForm → Type 0
AreItemsOf types variables kind items =
    (fits.items_fit types variables (kinds_within types kind) items ≡ true) × (list_all (fits.item_owns variables) items ≡ true)

-- the items so far fit their components
abbrev pub SlotsFit : List TypeForm → List VariableForm → List PartForm → List (Option (List ItemForm)) → Type 0
SlotsFit types variables [] [] = Unit {0}
SlotsFit types variables [] (s ∷ slots) = ⊥
SlotsFit types variables (c ∷ cs) [] = ⊥
SlotsFit types variables (c ∷ cs) (None ∷ slots) = SlotsFit types variables cs slots
SlotsFit types variables (c ∷ cs) (Some items ∷ slots) = AreItemsOf types variables c.kind items × SlotsFit types variables cs slots

none_filled : (types : List TypeForm) (variables : List VariableForm) (cs : List PartForm) → SlotsFit types variables cs (replicate (length cs) None)
none_filled types variables [] = tt
none_filled types variables (c ∷ cs) = none_filled types variables cs

-- one more component whose items fit it
slot_set : (types : List TypeForm) (variables : List VariableForm) (cs : List PartForm) (slots : List (Option (List ItemForm))) (j : ℕ) (c : PartForm) (items : List ItemForm) → SlotsFit types variables cs slots → slice_get cs j ≡ Some c → AreItemsOf types variables c.kind items → SlotsFit types variables cs (slice_set slots j (Some items))
slot_set types variables [] slots j c items w e f = absurd (cc e)
slot_set types variables (d ∷ cs) [] j c items w e f = absurd w
slot_set types variables (d ∷ cs) (None ∷ slots) zero c items w e f = let same : c ≡ d = cc e in (subst (λ (v : PartForm). AreItemsOf types variables v.kind items) same f, w)
slot_set types variables (d ∷ cs) (Some old ∷ slots) zero c items w e f = let same : c ≡ d = cc e in (subst (λ (v : PartForm). AreItemsOf types variables v.kind items) same f, w.1)
slot_set types variables (d ∷ cs) (None ∷ slots) (suc j) c items w e f = slot_set types variables cs slots j c items w e f
slot_set types variables (d ∷ cs) (Some old ∷ slots) (suc j) c items w e f = (w.0, slot_set types variables cs slots j c items w.1 e f)

-- where each component has its items, they are those of a record
all_filled : (types : List TypeForm) (variables : List VariableForm) (n : ℕ) (cs : List PartForm) (kinds : List ComponentKind) (slots : List (Option (List ItemForm))) → AreLaidOut types n cs kinds → SlotsFit types variables cs slots → list_all is_some slots ≡ true → fits.items_fit types variables kinds (flattened slots) ≡ true
all_filled types variables n [] kinds [] laid w e = rw laid refl
all_filled types variables n [] kinds (s ∷ slots) laid w e = absurd w
all_filled types variables n (c ∷ cs) kinds [] laid w e = absurd w
all_filled types variables n (c ∷ cs) kinds (None ∷ slots) laid w e = absurd (cc e)
all_filled types variables n (c ∷ cs) kinds (Some items ∷ slots) laid w e =
    let own = kinds_within types c.kind in
    subst (λ (ks : List ComponentKind). fits.items_fit types variables ks (items ++ flattened slots) ≡ true) (sym laid.2)
    (items_both types variables own laid.1 items (flattened slots) w.0.0 (all_filled types variables (n + length own) cs laid.1 slots laid.3 w.1 e))

-- and none of them is a borrower
all_own : (types : List TypeForm) (variables : List VariableForm) (cs : List PartForm) (slots : List (Option (List ItemForm))) → SlotsFit types variables cs slots → list_all (fits.item_owns variables) (flattened slots) ≡ true
all_own types variables [] [] w = refl
all_own types variables [] (s ∷ slots) w = absurd w
all_own types variables (c ∷ cs) [] w = absurd w
all_own types variables (c ∷ cs) (None ∷ slots) w = all_own types variables cs slots w
all_own types variables (c ∷ cs) (Some items ∷ slots) w = all_more (fits.item_owns variables) items (flattened slots) w.0.1 (all_own types variables cs slots w.1)

-- a value is of its component's type
value_fits : (types : List TypeForm) (variables : List VariableForm) (k : ComponentKind) (m : Meant) (spot : Spot) → MeantFits types variables m → Quiet (fits_remark variables (part.Elementary k) m spot) → fits.items_fit types variables (k ∷ []) (item_meant m) ≡ true
value_fits types variables (kind.Integer initial) (integer_value e) spot f q = both_parts (fits.has_type types variables Integer e) true (is_of_type Integer (fits.type_of types variables e) f) refl
value_fits types variables (kind.Boolean initial) (boolean_value e) spot f q = both_parts (fits.has_type types variables Boolean e) true (is_of_type Boolean (fits.type_of types variables e) f) refl
value_fits types variables (kind.Access t) null_value spot f q = refl
value_fits types variables (kind.Access t) (access_value path u) spot f q =
    let same : t.0 ≡ u.0 = eqb-true t.0 u.0 (quiet_unless (eqb t.0 u.0) spot WrongType q.0) in
    both_parts (fits.is_this t.0 (fits.path_access types variables path)) true (rw f (eq-eqb u.0 t.0 (sym same))) refl
value_fits types variables k unknown spot f q = absurd f
value_fits types variables k (lent_value u) spot f q = absurd f
value_fits types variables (kind.Access t) m spot f q = absurd q.0
value_fits types variables k m spot f q = absurd q

-- it is no borrower
value_owns : (types : List TypeForm) (variables : List VariableForm) (k : ComponentKind) (m : Meant) (spot : Spot) → MeantFits types variables m → Quiet (fits_remark variables (part.Elementary k) m spot) → list_all (fits.item_owns variables) (item_meant m) ≡ true
value_owns types variables (kind.Integer initial) (access_value path t) spot f q = absurd q
value_owns types variables (kind.Boolean initial) (access_value path t) spot f q = absurd q
value_owns types variables (kind.Access u) (access_value path t) spot f q =
    both_parts (not (fits.names_borrower variables path)) true (ap (λ (b : Bool). not b) (quiet_if (fits.names_borrower variables path) spot WrongType q.1)) refl
value_owns types variables k null_value spot f q = refl
value_owns types variables k (integer_value e) spot f q = refl
value_owns types variables k (boolean_value e) spot f q = refl
value_owns types variables k (record_value path) spot f q = refl
value_owns types variables k (aggregate_value t items) spot f q = f.2
value_owns types variables k unknown spot f q = absurd f
value_owns types variables k (lent_value u) spot f q = absurd f

-- a path to a record leads to one of a record type
leads_to_record : (types : List TypeForm) (o : Option (List ComponentKind)) (first : ℕ) (ks : Option (List ComponentKind)) → fits.has_record_at o first ks ≡ true → is_some ks ≡ true
leads_to_record types None first ks e = absurd (cc e)
leads_to_record types (Some cs) first None e = absurd (cc e)
leads_to_record types (Some cs) first (Some ks) e = refl

pub copied_record : (types : List TypeForm) (variables : List VariableForm) (path : RecordPathForm) → fits.is_record_path types variables path ≡ true → fits.is_record types path.record_type ≡ true
copied_record types variables path f =
    let access = fits.access_of (fits.path_kind types variables path.object) in
    let o = fits.object_components types access in
    let ks = fits.record_components types path.record_type in
    let parts : Bool = fits.has_parts_at types path.record_type (fits.object_named types access) path.first path.part in
    leads_to_record types o path.first ks (first_part (fits.has_record_at o path.first ks) parts f)

-- a copy has the items of a record
begins_self : (ks : List ComponentKind) → fits.begins_with ks ks ≡ true
begins_self ks = subst (λ (cs : List ComponentKind). fits.begins_with cs ks ≡ true) (append_none ks) (begins_own ks [])

pub copy_fits : (types : List TypeForm) (variables : List VariableForm) (path : RecordPathForm) → fits.is_record_path types variables path ≡ true → fits.items_fit types variables (elementary_of types path.record_type) (item_of_record path ∷ []) ≡ true
copy_fits types variables path f =
    let ks = elementary_of types path.record_type in
    let there = components_there types path.record_type (copied_record types variables path f) in
    let leads = fits.is_record_path types variables path in
    both_parts (leads && fits.begins_with_record ks (fits.record_components types path.record_type)) (fits.is_none_left (drop (fits.width_in (fits.record_components types path.record_type)) ks))
    (both_parts leads (fits.begins_with_record ks (fits.record_components types path.record_type)) f
    (subst (λ (o : Option (List ComponentKind)). fits.begins_with_record ks o ≡ true) (sym there) (begins_self ks)))
    (subst (λ (o : Option (List ComponentKind)). fits.is_none_left (drop (fits.width_in o) ks) ≡ true) (sym there) (rw (drop-length ks) refl))

-- a value is that of an elementary component, or a record of a component's type
pub record_value_is : (types : List TypeForm) (variables : List VariableForm) (t : TypeNo) (m : Meant) (spot : Spot) → MeantFits types variables m → Quiet (record_value_wanted t m spot) → (fits.items_fit types variables (elementary_of types t.0) (item_meant m) ≡ true) × (list_all (fits.item_owns variables) (item_meant m) ≡ true)
record_value_is types variables t (record_value path) spot f q =
    let same : t.0 ≡ path.record_type = eqb-true t.0 path.record_type (quiet_unless (eqb t.0 path.record_type) spot WrongType q) in
    (subst (λ (u : ℕ). fits.items_fit types variables (elementary_of types u) (item_of_record path ∷ []) ≡ true) (sym same) (copy_fits types variables path f), refl)
record_value_is types variables t (aggregate_value found items) spot f q =
    let same : t.0 ≡ found.0 = eqb-true t.0 found.0 (quiet_unless (eqb t.0 found.0) spot WrongType q) in
    (subst (λ (u : ℕ). fits.items_fit types variables (elementary_of types u) items ≡ true) (sym same) f.1, f.2)
record_value_is types variables t unknown spot f q = absurd f
record_value_is types variables t m spot f q = absurd q

value_is : (types : List TypeForm) (variables : List VariableForm) (k : PartKind) (m : Meant) (spot : Spot) → MeantFits types variables m → Quiet (fits_remark variables k m spot) → AreItemsOf types variables k (item_meant m)
value_is types variables (part.Elementary k) m spot f q = (value_fits types variables k m spot f q, value_owns types variables k m spot f q)
value_is types variables (part.Record t) m spot f q = record_value_is types variables t m spot f q
value_is types variables part.Parent m spot f q = absurd q

-- the component that an item is for is one of these
component_is : (at : ℕ) (cs : List PartForm) (o : Option PartForm) → slice_get cs at ≡ o → IsComponentOf cs 0 (component_at at o)
component_is at cs None is = tt
component_is at cs (Some c) is = (at, c, omega arith, is, refl)

pub for_is : (cs : List PartForm) (label : Option Ident) (at : ℕ) → IsComponentOf cs 0 (component_for cs label at)
for_is cs (Some label) at = named_at 0 label.text cs
for_is cs None at = component_is at cs (slice_get cs at) refl

-- what is known before an item is in order: nothing is wrong so far
record Fills (types : List TypeForm) (variables : List VariableForm) (cs : List PartForm) (filling : Filling) : Type 0 where
  slots_fit : SlotsFit types variables cs filling.slots
  is_whole : filling.whole ≡ true

filled_fits : (types : List TypeForm) (variables : List VariableForm) (cs : List PartForm) (filling : Filling) (o : Option (ℕ × KnownComponent)) (label : Option Ident) (value : ExpressionTree) (m : Meant) (alike : Bool) → Fills types variables cs filling → IsComponentOf cs 0 o → MeantFits types variables m → alike ≡ true → Quiet (for_remark variables o filling label value m) → Fills types variables cs (filled_for o filling alike (item_meant m))
filled_fits types variables cs filling None label value m alike w i f a q = absurd (none_for label q)
  where
    none_for : (l : Option Ident) → Quiet (for_remark variables None filling l value m) → ⊥
    none_for (Some l) q = q
    none_for None q = q
filled_fits types variables cs filling (Some found) label value m alike w i f a q =
    let at : found.0 ≡ i.0 = i.2 ∙ omega arith in
    let own : AreItemsOf types variables found.1.kind (item_meant m) = value_is types variables found.1.kind m (expression_spot value) f q.1 in
    let of : i.1.kind ≡ found.1.kind = ap (λ (n : KnownComponent). n.kind) i.4 in
    let fresh : is_filled found.0 filling.slots ≡ false = quiet_if (is_filled found.0 filling.slots) (item_spot label value) WrongType q.0 in
    record {
      slots_fit = rw at (slot_set types variables cs filling.slots i.0 i.1 (item_meant m) w.slots_fit i.3 (subst (λ (k : PartKind). AreItemsOf types variables k (item_meant m)) (sym of) own));
      is_whole = rw (w.is_whole, a, fresh) refl;
    }

-- where the record type is known
abbrev FillsFor : List TypeForm → List VariableForm → Option (List PartForm) → Filling → Type 0
FillsFor types variables None filling = Unit {0}
FillsFor types variables (Some cs) filling = Fills types variables cs filling

first_fills : (types : List TypeForm) (variables : List VariableForm) (o : Option (List PartForm)) → FillsFor types variables o (first_filling o)
first_fills types variables None = tt
first_fills types variables (Some cs) = record { slots_fit = none_filled types variables cs; is_whole = refl }

one_fills : (types : List TypeForm) (variables : List VariableForm) (o : Option (List PartForm)) (is_named : Bool) (filling : Filling) (label : Option Ident) (value : ExpressionTree) (m : Meant) → FillsFor types variables o filling → MeantFits types variables m → Quiet (label_remark is_named label value) → Quiet (component_item_remark variables o filling label value m) → FillsFor types variables o (after_item o is_named filling label m)
unfolding after_item
one_fills types variables None is_named filling label value m w f a q = tt
one_fills types variables (Some cs) is_named filling label value m w f a q =
    filled_fits types variables cs filling (component_for cs label filling.count) label value m (is_alike is_named label) w
    (for_is cs label filling.count) f (quiet_unless (is_alike is_named label) (item_spot label value) WrongType a) q

-- the count is right
count_is : (b : Bool) (filling : Filling) (one : Remark) (spot : Spot) → Quiet (cond b (wrong spot NotInProfile also one) (wrong_if (filling.whole && not (list_all is_some filling.slots)) spot WrongType)) → filling.whole ≡ true → list_all is_some filling.slots ≡ true
count_is true filling one spot q e = absurd q.0
count_is false filling one spot q e = whole_is filling.whole (list_all is_some filling.slots) q e
  where
    whole_is : (a b : Bool) → Quiet (wrong_if (a && not b) spot WrongType) → a ≡ true → b ≡ true
    whole_is true true q e = refl
    whole_is true false q e = absurd q
    whole_is false b q e = absurd (cc e)

-- the components of a record type, as they are declared
pub components_are : (types : List TypeForm) (t : ℕ) (name : List ℕ) (ps : List PartForm) (cs : List ComponentKind) (final : Option Finalization) → slice_get types t ≡ Some (record_of name ps cs final) → components_of types t ≡ ps
unfolding components_of
components_are types t name ps cs final e = rw e refl

-- a record type without controlled parts
no_parts : (final : Option Finalization) → is_some final ≡ false → final ≡ None
no_parts None e = refl
no_parts (Some f) e = absurd (cc e)

pub without_parts : (types : List TypeForm) (t : TypeNo) (spot : Spot) → Quiet (aggregate_wanted types (Some t) spot) → fits.finalization_of types t.0 ≡ None
without_parts types t spot q = no_parts (fits.finalization_of types t.0) (quiet_if (is_some (fits.finalization_of types t.0)) spot WrongType q)

-- an aggregate
aggregate_fits : (k : Known) (text : List ℕ) (o : Option Entity) (name : Ident) (is_named : Bool) (filling : Filling) (spot : Spot) → PartsFit k.types k.variables (parts k) → ((e : Entity) → o ≡ Some e → EntityFits k.types k.variables text e) → Quiet (complete_type_wanted o name) → Quiet (aggregate_wanted k.types (complete_in o) name.spot) → FillsFor k.types k.variables (filled_components k (complete_in o)) filling → Quiet (count_remark is_named filling spot) → MeantFits k.types k.variables (aggregate_meant (complete_in o) filling)
aggregate_fits k text (Some (entity.Record t size)) name is_named filling spot w v q g fills c =
    let f = v (entity.Record t size) refl in
    let whole : components_of k.types t.0 ≡ f.0 = components_are k.types t.0 text f.0 f.1 f.2 f.3 in
    let laid : AreLaidOut k.types 0 (components_of k.types t.0) f.1 = subst (λ (ps : List PartForm). AreLaidOut k.types 0 ps f.1) (sym whole) (laid_in k.types k.variables (parts k) w t.0 (record_of text f.0 f.1 f.2) f.3).0 in
    let full : list_all is_some filling.slots ≡ true = count_is _ filling _ spot c fills.is_whole in (
      rw f.3 refl,
      subst (λ (ks : List ComponentKind). fits.items_fit k.types k.variables ks (flattened filling.slots) ≡ true) (sym (elementary_is k.types t.0 text f.0 f.1 f.2 f.3))
          (all_filled k.types k.variables 0 (components_of k.types t.0) f.1 filling.slots laid fills.slots_fit full),
      all_own k.types k.variables (components_of k.types t.0) filling.slots fills.slots_fit,
      without_parts k.types t name.spot g,
    )
aggregate_fits k text (Some e) name is_named filling spot w v q g fills c = absurd q
aggregate_fits k text None name is_named filling spot w v q g fills c = absurd q

-- an expression, and the items of an aggregate
mutual
  unfolding expression_meant expression_remark complete_found complete_remark

  pub expression_fits : (k : Known) (e : ExpressionTree) → PartsFit k.types k.variables (parts k) → Quiet (expression_remark k e) → MeantFits k.types k.variables (expression_meant k e)
  expression_fits k (number_expression spot n) w q = refl
  expression_fits k (null_expression spot) w q = tt
  expression_fits k (path_expression path) w q = path_fits k path w q.1
  expression_fits k (aggregate_expression type_name items) w q =
      let components = filled_components k (complete_in (visible k type_name.text)) in
      aggregate_fits k type_name.text (visible k type_name.text) type_name (names_component items)
      (after_items k components (names_component items) (first_filling components) items) type_name.spot w (visible_fits k w type_name.text) q.1.0 q.1.1.0
      (items_fill k components (names_component items) (first_filling components) items w (first_fills k.types k.variables components) q.1.1.1.0) q.1.1.1.1
  expression_fits k (enclosed_expression spot inner) w q = expression_fits k inner w q
  expression_fits k (unary_expression o spot operand) w q =
      unary_fits k.types k.variables o (expression_meant k operand) (expression_spot operand) (expression_fits k operand w q.1.0) q.1.1
  expression_fits k (binary_expression o left right) w q =
      binary_fits k.types k.variables o (signature_of o) (expression_meant k left) (expression_meant k right) (expression_spot left) (expression_spot right) refl
      (expression_fits k left w q.1.0) (expression_fits k right w q.1.1.0) q.1.1.1

  items_fill : (k : Known) (o : Option (List PartForm)) (is_named : Bool) (filling : Filling) (items : ItemsTree) → PartsFit k.types k.variables (parts k) → FillsFor k.types k.variables o filling → Quiet (items_remark k o is_named filling items) → FillsFor k.types k.variables o (after_items k o is_named filling items)
  items_fill k o is_named filling no_more_items w f q = f
  items_fill k o is_named filling (an_item label value rest) w f q =
      items_fill k o is_named (after_item o is_named filling label (expression_meant k value)) rest w
      (one_fills k.types k.variables o is_named filling label value (expression_meant k value) f (expression_fits k value w q.0.1.0) q.0.0 q.0.1.1) q.1

-- each component has its items
pub items_there : (k : Known) (cs : List PartForm) (is_named : Bool) (filling : Filling) (items : ItemsTree) (spot : Spot) → PartsFit k.types k.variables (parts k) → filling ≡ first_filling (Some cs) → Quiet (items_remark k (Some cs) is_named filling items) → Quiet (count_remark is_named (after_items k (Some cs) is_named filling items) spot) → list_all is_some (after_items k (Some cs) is_named filling items).slots ≡ true
items_there k cs is_named filling items spot w first q c =
    let start : Fills k.types k.variables cs filling = subst (λ (f : Filling). Fills k.types k.variables cs f) (sym first) (first_fills k.types k.variables (Some cs)) in
    let done = items_fill k (Some cs) is_named filling items w start q in
    count_is _ (after_items k (Some cs) is_named filling items) _ spot c done.is_whole

-- the items of an aggregate
pub items_fit : (k : Known) (cs : List PartForm) (kinds : List ComponentKind) (items : ItemsTree) (spot : Spot) → PartsFit k.types k.variables (parts k) → Quiet (all_items_remark k (Some cs) items spot) → AreLaidOut k.types 0 cs kinds → (fits.items_fit k.types k.variables kinds (flattened (filling_of k (Some cs) items).slots) ≡ true) × (list_all (fits.item_owns k.variables) (flattened (filling_of k (Some cs) items).slots) ≡ true)
unfolding filling_of all_items_remark
items_fit k cs kinds items spot w q laid =
    let done = items_fill k (Some cs) (names_component items) (first_filling (Some cs)) items w (first_fills k.types k.variables (Some cs)) q.0 in
    let after = after_items k (Some cs) (names_component items) (first_filling (Some cs)) items in
    let full : list_all is_some after.slots ≡ true = count_is _ after _ spot q.1 done.is_whole in
    (all_filled k.types k.variables 0 cs kinds after.slots laid done.slots_fit full, all_own k.types k.variables cs after.slots done.slots_fit)
