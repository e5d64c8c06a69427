-- What is assigned where nothing is wrong is of the type of its object.

use Rattle.std.proofs.Common.{◌≡◌, ℕ, Bool, true, false, ◌&&◌, List, [], ◌∷◌, refl, sym, cond, ap, subst, eqb, eq-eqb, eqb-true}
use Rattle.std.specs.Prelude.{◌||◌, not, Option, Some, None, is_some}
use Rattle.std.specs.List.{list_all, slice_get}
use Rattle.ada_text.specs.declared.spot.Spot.{Spot}
use Rattle.ada_program.specs.declared.program.ComponentKind.{ComponentKind}
use Rattle.ada_program.specs.declared.program.Finalization.{Finalization}
use Rattle.ada_program.specs.declared.program.VariableKind.{VariableKind}
use Rattle.ada_program.specs.declared.program.VariableKind.TheVariants as variable
use Rattle.ada_program.specs.declared.program.ScalarType.TheVariants.{Integer, Boolean}
use Rattle.ada_program.specs.declared.program.TypeNo.{TypeNo}
use Rattle.ada_program.specs.Form.{PathForm, ItemForm, item_of_record, RecordPathForm, RightForm, reads}
use Rattle.ada_tree.specs.Names.{Ident, PathTree}
use Rattle.ada_tree.specs.Expressions.{ItemsTree, no_more_items, an_item, RightTree, expression_right, allocator_right, creation_right}
use Rattle.ada_program.specs.ProgramForm.{PartForm, TypeForm, record_of, access_to, object_of, VariableForm}
use Rattle.ada_program.specs.WellFormed as fits
use Rattle.ada_resolve.specs.declared.fault.NameRule.TheVariants.{WrongType, NotInProfile}
use Rattle.ada_resolve.specs.declared.scope.Entity.{Entity}
use Rattle.ada_resolve.specs.declared.scope.Entity.TheVariants as entity
use Rattle.ada_resolve.specs.declared.rights.Held.{Held}
use Rattle.ada_resolve.specs.declared.rights.Held.TheVariants as held
use Rattle.ada_resolve.specs.Controlled.{aggregate_wanted, is_limited, says_limited}
use Rattle.ada_resolve.specs.Known.{Known, visible, parts}
use Rattle.ada_resolve.specs.Naming.{AreLaidOut}
use Rattle.ada_resolve.specs.Types.{complete_found, complete_in, is_access_to, designates}
use Rattle.ada_resolve.specs.Paths.{Meant, unknown, null_value, access_value, integer_value, boolean_value, record_value, aggregate_value, lent_value, path_meant, components_of, elementary_of}
use Rattle.ada_resolve.specs.Items.{filled_components, flattened}
use Rattle.ada_resolve.specs.Allocators.{allocated_wanted, allocated_remark, aggregate_remark, allocation, aggregate_found, default_allocation, default_found, new_remark, new_found, is_in_use, allocator_remark, allocator_found}
use Rattle.ada_resolve.specs.Expressions.{all_items_remark, expression_meant, filling_of}
use Rattle.ada_resolve.specs.Assignments.{Target, value_target, record_target, target_found, target_meant, target_remark}
use Rattle.ada_resolve.specs.Rights.{Assigned, a_value, a_whole, assigned_wanted, assigned, lent_wanted, new_assigned, right_remark, right_found}
use Rattle.ada_resolve.specs.Remark.{wrong}
use Rattle.ada_resolve.specs.Spots.{expression_spot}
use Rattle.ada_resolve.proofs.WellFormed.Remarks.{Quiet, quiet_if, quiet_unless}
use Rattle.ada_resolve.proofs.WellFormed.Tables.{both_parts, designated_named}
use Rattle.ada_resolve.proofs.WellFormed.Names.{EntityFits, PartsFit, visible_fits, laid_in}
use Rattle.ada_resolve.proofs.WellFormed.Typing.{is_of_type}
use Rattle.ada_resolve.proofs.WellFormed.Meanings.{MeantFits, components_there, path_fits}
use Rattle.ada_resolve.proofs.WellFormed.Items.{components_are, copied_record, expression_fits, items_fit, record_value_is, without_parts}

-- what is assigned to is there: it holds this, or is a record
abbrev pub IsTargetIn : List TypeForm → List VariableForm → Option Target → Type 0
IsTargetIn types variables None = Unit {0}
IsTargetIn types variables (Some (value_target path held.Integer)) = fits.path_kind types variables path ≡ Some variable.Integer
IsTargetIn types variables (Some (value_target path held.Boolean)) = fits.path_kind types variables path ≡ Some variable.Boolean
IsTargetIn types variables (Some (value_target path (held.Access t))) = fits.path_kind types variables path ≡ Some (variable.Access t)
IsTargetIn types variables (Some (value_target path (held.Record t))) = ⊥
IsTargetIn types variables (Some (record_target path)) = fits.is_record_path types variables path ≡ true

integer_kind : (o : Option VariableKind) → fits.scalar_of o ≡ Some Integer → o ≡ Some variable.Integer
integer_kind None e = absurd (cc e)
integer_kind (Some variable.Integer) e = refl
integer_kind (Some variable.Boolean) e = absurd (cc e)
integer_kind (Some (variable.Access access)) e = absurd (cc e)
integer_kind (Some (variable.Record object)) e = absurd (cc e)

boolean_kind : (o : Option VariableKind) → fits.scalar_of o ≡ Some Boolean → o ≡ Some variable.Boolean
boolean_kind None e = absurd (cc e)
boolean_kind (Some variable.Integer) e = absurd (cc e)
boolean_kind (Some variable.Boolean) e = refl
boolean_kind (Some (variable.Access access)) e = absurd (cc e)
boolean_kind (Some (variable.Record object)) e = absurd (cc e)

target_fits : (types : List TypeForm) (variables : List VariableForm) (m : Meant) → MeantFits types variables m → IsTargetIn types variables (target_meant m)
target_fits types variables (integer_value (reads path)) f = integer_kind (fits.path_kind types variables path) f
target_fits types variables (boolean_value (reads path)) f = boolean_kind (fits.path_kind types variables path) f
target_fits types variables (access_value path t) f = f
target_fits types variables (record_value path) f = f
target_fits types variables m f = tt

pub found_target : (k : Known) (target : PathTree) → PartsFit k.types k.variables (parts k) → Quiet (target_remark k target) → IsTargetIn k.types k.variables (target_found k target)
unfolding target_remark target_found
found_target k target w q = target_fits k.types k.variables (path_meant k target) (path_fits k target w q.0)

-- what is assigned is known, fits what the object holds, and suits it, a borrower or not
abbrev pub IsRightFor : List TypeForm → List VariableForm → VariableKind → (borrows : Bool) → Option RightForm → Type 0
IsRightFor types variables kind borrows None = ⊥
IsRightFor types variables kind borrows (Some s) = (fits.kind_takes types variables kind s ≡ true) × (fits.lends_to variables borrows s ≡ true)

-- and so does a value for what holds this, or the items for a record
abbrev pub IsSourceFor : List TypeForm → List VariableForm → Held → (borrows : Bool) → Option Assigned → Type 0
IsSourceFor types variables held.Integer borrows (Some (a_value s)) = IsRightFor types variables variable.Integer borrows (Some s)
IsSourceFor types variables held.Boolean borrows (Some (a_value s)) = IsRightFor types variables variable.Boolean borrows (Some s)
IsSourceFor types variables (held.Access t) borrows (Some (a_value s)) = IsRightFor types variables (variable.Access t) borrows (Some s)
IsSourceFor types variables (held.Record t) borrows (Some (a_whole items)) = fits.record_fits types variables t.0 items ≡ true
IsSourceFor types variables kind borrows o = ⊥

-- no borrower is assigned but to a borrower
lent_fits : (variables : List VariableForm) (kind : Held) (borrows : Bool) (path : PathForm) (t : TypeNo) (spot : Spot) → Quiet (lent_wanted variables (Some kind) borrows (access_value path t) spot) → (borrows || not (fits.names_borrower variables path)) ≡ true
lent_fits variables kind true path t spot q = refl
lent_fits variables kind false path t spot q = ap (λ (b : Bool). not b) (quiet_if (fits.names_borrower variables path) spot WrongType q)

-- the items of a record
whole_fits : (types : List TypeForm) (variables : List VariableForm) (t : ℕ) (items : List ItemForm) → fits.is_record types t ≡ true → (fits.items_fit types variables (elementary_of types t) items ≡ true) × (list_all (fits.item_owns variables) items ≡ true) → fits.copies_whole t (fits.finalization_of types t) items ≡ true → fits.record_fits types variables t items ≡ true
whole_fits types variables t items r h c =
    let filled : Bool = fits.is_filled types variables (fits.record_components types t) items in
    let owned = list_all (fits.item_owns variables) items in
    both_parts (filled && owned) (fits.copies_whole t (fits.finalization_of types t) items)
    (both_parts filled owned (rw (components_there types t r) h.0) h.1) c

-- a record that is not limited is copied whole
copied_whole : (t : ℕ) (path : RecordPathForm) (final : Option Finalization) → t ≡ path.record_type → says_limited final ≡ false → fits.copies_whole t final (item_of_record path ∷ []) ≡ true
copied_whole t path None same free = refl
copied_whole t path (Some f) same free =
    both_parts (not f.limited) (eqb path.record_type t && true) (ap (λ (b : Bool). not b) free) (both_parts (eqb path.record_type t) true (eq-eqb path.record_type t (sym same)) refl)

-- the value of an expression
assigned_fits : (types : List TypeForm) (variables : List VariableForm) (kind : Held) (borrows : Bool) (m : Meant) (spot : Spot) → MeantFits types variables m → Quiet (assigned_wanted types (Some kind) m spot) → Quiet (lent_wanted variables (Some kind) borrows m spot) → IsSourceFor types variables kind borrows (assigned m)
assigned_fits types variables held.Integer borrows (integer_value e) spot f q r = (is_of_type Integer (fits.type_of types variables e) f, refl)
assigned_fits types variables held.Boolean borrows (boolean_value e) spot f q r = (is_of_type Boolean (fits.type_of types variables e) f, refl)
assigned_fits types variables (held.Access access) borrows null_value spot f q r = (refl, refl)
assigned_fits types variables (held.Access access) borrows (access_value path t) spot f q r =
    let same : access.0 ≡ t.0 = eqb-true access.0 t.0 (quiet_unless (eqb access.0 t.0) spot WrongType q) in
    (rw f (eq-eqb t.0 access.0 (sym same)), lent_fits variables (held.Access access) borrows path t spot r)
assigned_fits types variables (held.Record t) borrows (record_value path) spot f q r =
    let same : t.0 ≡ path.record_type = eqb-true t.0 path.record_type (quiet_unless (eqb t.0 path.record_type) spot WrongType q.0) in
    whole_fits types variables t.0 (item_of_record path ∷ [])
    (subst (λ (u : ℕ). fits.is_record types u ≡ true) (sym same) (copied_record types variables path f)) (record_value_is types variables t (record_value path) spot f q.0)
    (copied_whole t.0 path (fits.finalization_of types t.0) same (quiet_if (is_limited types t.0) spot WrongType q.1))
assigned_fits types variables (held.Record t) borrows (aggregate_value found items) spot f q r =
    let same : t.0 ≡ found.0 = eqb-true t.0 found.0 (quiet_unless (eqb t.0 found.0) spot WrongType q.0) in
    whole_fits types variables t.0 items
    (subst (λ (u : ℕ). fits.is_record types u ≡ true) (sym same) f.0) (record_value_is types variables t (aggregate_value found items) spot f q.0)
    (subst (λ (u : ℕ). fits.copies_whole t.0 (fits.finalization_of types u) items ≡ true) (sym same) (rw f.3 refl))
assigned_fits types variables kind borrows unknown spot f q r = absurd f
assigned_fits types variables kind borrows (lent_value t) spot f q r = absurd f
assigned_fits types variables (held.Record t) borrows m spot f q r = absurd q.0
assigned_fits types variables kind borrows m spot f q r = absurd q

-- what an access type designates
designated_is : (o : Option TypeForm) (r : ℕ) → is_access_to o r ≡ true → fits.designated_in o ≡ Some r
designated_is None r e = absurd (cc e)
designated_is (Some (record_of name ps cs final)) r e = absurd (cc e)
designated_is (Some (access_to name d pool)) r e = ap (λ v. Some v) (eqb-true d r e)
designated_is (Some (object_of t)) r e = absurd (cc e)

pub access_designates : (types : List TypeForm) (access record_type : ℕ) → designates types access record_type ≡ true → fits.designated_type types access ≡ Some record_type
unfolding designates
access_designates types access record_type e = designated_is (slice_get types access) record_type e

reached_is : (types : List TypeForm) (access t : ℕ) (name : List ℕ) (ps : List PartForm) (cs : List ComponentKind) (final : Option Finalization) → fits.designated_type types access ≡ Some t → slice_get types t ≡ Some (record_of name ps cs final) → fits.reached_components types access ≡ Some cs
reached_is types access t name ps cs final d e = rw (designated_named (slice_get types access) t d) (rw e refl)

-- a new object
filled_one : (k : Known) (text : List ℕ) (e : Entity) (access : TypeNo) (spot end_spot : Spot) (name : Ident) (items : ItemsTree) → PartsFit k.types k.variables (parts k) → EntityFits k.types k.variables text e → Quiet (allocated_wanted (Some e) k.types (Some access) spot name) → Quiet (aggregate_wanted k.types (complete_in (Some e)) end_spot) → Quiet (all_items_remark k (filled_components k (complete_in (Some e))) items end_spot) → IsRightFor k.types k.variables (variable.Access access) false (allocation k (Some access) (complete_in (Some e)) items)
filled_one k text (entity.Record t size) access spot end_spot name items w f q g i =
    let d : fits.designated_type k.types access.0 ≡ Some t.0 = access_designates k.types access.0 t.0 (quiet_unless (designates k.types access.0 t.0) spot WrongType q) in
    let whole : components_of k.types t.0 ≡ f.0 = components_are k.types t.0 text f.0 f.1 f.2 f.3 in
    let laid : AreLaidOut k.types 0 (components_of k.types t.0) f.1 = subst (λ (ps : List PartForm). AreLaidOut k.types 0 ps f.1) (sym whole) (laid_in k.types k.variables (parts k) w t.0 (record_of text f.0 f.1 f.2) f.3).0 in
    let reached : fits.reached_components k.types access.0 ≡ Some f.1 = reached_is k.types access.0 t.0 text f.0 f.1 f.2 d f.3 in
    let made = flattened (filling_of k (Some (components_of k.types t.0)) items).slots in
    let fit = items_fit k (components_of k.types t.0) f.1 items end_spot w i laid in (
      both_parts (eqb access.0 access.0 && fits.is_filled k.types k.variables (fits.reached_components k.types access.0) made) (eqb (fits.parts_named k.types (fits.object_named k.types (Some access.0))) 0)
          (both_parts (eqb access.0 access.0) (fits.is_filled k.types k.variables (fits.reached_components k.types access.0) made) (eq-eqb access.0 access.0 refl) (rw reached fit.0))
          (rw (designated_named (slice_get k.types access.0) t.0 d) (rw (without_parts k.types t end_spot g) refl)),
      fit.1,
    )
filled_one k text e access spot end_spot name items w f q g i = absurd q

filled_named : (k : Known) (text : List ℕ) (o : Option Entity) (access : TypeNo) (spot end_spot : Spot) (name : Ident) (items : ItemsTree) → PartsFit k.types k.variables (parts k) → ((e : Entity) → o ≡ Some e → EntityFits k.types k.variables text e) → Quiet (allocated_wanted o k.types (Some access) spot name) → Quiet (aggregate_wanted k.types (complete_in o) end_spot) → Quiet (all_items_remark k (filled_components k (complete_in o)) items end_spot) → IsRightFor k.types k.variables (variable.Access access) false (allocation k (Some access) (complete_in o) items)
filled_named k text (Some e) access spot end_spot name items w v q g i = filled_one k text e access spot end_spot name items w (v e refl) q g i
filled_named k text None access spot end_spot name items w v q g i = absurd q

aggregate_fits : (k : Known) (access : TypeNo) (spot : Spot) (type_name : Ident) (items : ItemsTree) → PartsFit k.types k.variables (parts k) → Quiet (aggregate_remark k (Some access) spot type_name items) → IsRightFor k.types k.variables (variable.Access access) false (aggregate_found k (Some access) type_name items)
unfolding aggregate_remark aggregate_found allocated_remark complete_found
aggregate_fits k access spot type_name items w q =
    filled_named k type_name.text (visible k type_name.text) access spot type_name.spot type_name items w (visible_fits k w type_name.text) q.0 q.1.0 q.1.1

-- a new object without items
default_one : (k : Known) (text : List ℕ) (o : Option Entity) (access : TypeNo) (spot : Spot) (name : Ident) → ((e : Entity) → o ≡ Some e → EntityFits k.types k.variables text e) → Quiet (allocated_wanted o k.types (Some access) spot name) → IsRightFor k.types k.variables (variable.Access access) false (default_allocation (Some access) (complete_in o))
default_one k text (Some (entity.Record t size)) access spot name v q =
    let f = v (entity.Record t size) refl in
    let d : fits.designated_type k.types access.0 ≡ Some t.0 = access_designates k.types access.0 t.0 (quiet_unless (designates k.types access.0 t.0) spot WrongType q) in
    let reached : fits.reached_components k.types access.0 ≡ Some f.1 = reached_is k.types access.0 t.0 text f.0 f.1 f.2 d f.3 in
    (both_parts (eqb access.0 access.0) (is_some (fits.reached_components k.types access.0)) (eq-eqb access.0 access.0 refl) (rw reached refl), refl)
default_one k text (Some e) access spot name v q = absurd q
default_one k text None access spot name v q = absurd q

default_fits : (k : Known) (access : TypeNo) (spot : Spot) (type_name : Ident) → PartsFit k.types k.variables (parts k) → Quiet (allocated_remark k (Some access) spot type_name) → IsRightFor k.types k.variables (variable.Access access) false (default_found k (Some access) type_name)
unfolding allocated_remark complete_found default_found
default_fits k access spot type_name w q = default_one k type_name.text (visible k type_name.text) access spot type_name (visible_fits k w type_name.text) q

new_fits : (k : Known) (access : TypeNo) (spot : Spot) (type_name : Ident) (items : ItemsTree) → PartsFit k.types k.variables (parts k) → Quiet (new_remark k (Some access) spot type_name items) → IsRightFor k.types k.variables (variable.Access access) false (new_found k (Some access) type_name items)
new_fits k access spot type_name no_more_items w q = default_fits k access spot type_name w q
new_fits k access spot type_name (an_item label value rest) w q = aggregate_fits k access spot type_name (an_item label value rest) w q

allocator_by : (k : Known) (access : TypeNo) (spot : Spot) (type_name : Ident) (items : ItemsTree) (b : Bool) → PartsFit k.types k.variables (parts k) → Quiet (cond b (new_remark k (Some access) spot type_name items) (wrong spot NotInProfile)) → IsRightFor k.types k.variables (variable.Access access) false (cond b (new_found k (Some access) type_name items) None)
allocator_by k access spot type_name items true w q = new_fits k access spot type_name items w q
allocator_by k access spot type_name items false w q = absurd q

allocator_fits : (k : Known) (access : TypeNo) (spot : Spot) (handle : Option Ident) (type_name : Ident) (items : ItemsTree) → PartsFit k.types k.variables (parts k) → Quiet (allocator_remark k (Some access) spot handle type_name items) → IsRightFor k.types k.variables (variable.Access access) false (allocator_found k (Some access) handle type_name items)
unfolding allocator_remark allocator_found
allocator_fits k access spot handle type_name items w q = allocator_by k access spot type_name items (is_in_use handle) w q

-- a new object is assigned
new_is : (types : List TypeForm) (variables : List VariableForm) (access : TypeNo) (o : Option RightForm) → IsRightFor types variables (variable.Access access) false o → IsSourceFor types variables (held.Access access) false (new_assigned o)
new_is types variables access None h = h
new_is types variables access (Some s) h = h

-- what is assigned to what holds this, or to a record
pub right_fits : (k : Known) (kind : Held) (borrows : Bool) (right : RightTree) → PartsFit k.types k.variables (parts k) → Quiet (right_remark k (Some kind) borrows right) → IsSourceFor k.types k.variables kind borrows (right_found k (Some kind) right)
right_fits k kind borrows (expression_right e) w q =
    assigned_fits k.types k.variables kind borrows (expression_meant k e) (expression_spot e) (expression_fits k e w q.0) q.1.0 q.1.1
right_fits k (held.Access access) false (allocator_right spot handle type_name items) w q =
    new_is k.types k.variables access (allocator_found k (Some access) handle type_name items) (allocator_fits k access spot handle type_name items w q.1.1)
right_fits k (held.Access access) true (allocator_right spot handle type_name items) w q = absurd q.1.0
right_fits k held.Integer borrows (allocator_right spot handle type_name items) w q = absurd q.0
right_fits k held.Boolean borrows (allocator_right spot handle type_name items) w q = absurd q.0
right_fits k (held.Record t) borrows (allocator_right spot handle type_name items) w q = absurd q.0
right_fits k kind borrows (creation_right function argument) w q = absurd q
