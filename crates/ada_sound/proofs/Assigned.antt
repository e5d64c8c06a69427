-- What typing says of values that are assigned: the access types of where they come from and of where they go.

use Rattle.std.proofs.Common.{◌≡◌, ℕ, Bool, true, false, ◌==◌, ◌&&◌, List, [], ◌∷◌, refl, sym, ap, ◌∙◌, ◌⊎◌, inl, inr}
use Rattle.std.proofs.lemmas.Bool.{eqb-true}
use Rattle.std.specs.Prelude.{Option, Some, None, is_some}
use Rattle.ada_program.specs.declared.program.ComponentKind.{ComponentKind}
use Rattle.ada_program.specs.declared.program.VariableKind.{VariableKind}
use Rattle.ada_program.specs.declared.program.VariableKind.TheVariants as variable
use Rattle.ada_program.specs.Form.{PathForm, ItemForm, value_of, allocates, computes}
use Rattle.ada_program.specs.ProgramForm.{TypeForm, VariableForm}
use Rattle.ada_program.specs.WellFormed.{is_access, designated_type, same_record, is_freed_by, access_of, value_access, root_kind, variable_kind, selectors_kind, path_kind, is_this, reached_components, object_named, parts_named, kind_among, selected_kind, path_access, items_fit, is_filled, kind_takes}
use Rattle.ada_meaning.specs.declared.state.Id.{Id}
use Rattle.ada_meaning.specs.declared.state.Value.{Value}
use Rattle.ada_meaning.specs.declared.state.Value.TheVariants.{Names}
use Rattle.ada_meaning.specs.Heap.{Cell}
use Rattle.ada_meaning.specs.Named.{Object, object_at}
use Rattle.ada_typed.specs.Holding.{Cells, IsAccess, HasKind, cells_of}
use Rattle.ada_typed.proofs.Evaluations.{cell_at}
use Rattle.ada_sound.proofs.Fits.{component_access}

-- What an object is where a value of a kind names it.
access_is : (heap : List Object) (access : ℕ) (o : Id) (object : Object) → IsAccess (cells_of heap) access (Names o) → object_at heap o ≡ Some object → object.cell.access ≡ access
access_is heap access o object has found =
    let cell = cell_at heap o.0 object found in
    let same : has.0 ≡ object.cell = cc (has.1, cell) in
    ap (λ (c : Cell Value). c.access) (sym same) ∙ has.2

pub kind_names : (types : List TypeForm) (heap : List Object) (kind : VariableKind) (o : Id) (object : Object) → HasKind types (cells_of heap) kind (Names o) → object_at heap o ≡ Some object → access_of (Some kind) ≡ Some object.cell.access
kind_names types heap variable.Integer o object has found = absurd has
kind_names types heap variable.Boolean o object has found = absurd has
kind_names types heap (variable.Access access) o object has found = ap Some (sym (access_is heap access.0 o object has found))
kind_names types heap (variable.Record t) o object has found = ap Some (sym (access_is heap t.0 o object has found))

-- What a kind without access values holds names nothing.
pub kind_blank : (types : List TypeForm) (cells : Cells) (kind : VariableKind) (v : Value) → access_of (Some kind) ≡ None → HasKind types cells kind v → (o : Id) → v ≡ Names o → ⊥
kind_blank types cells variable.Integer v none has o is = rw is at has
kind_blank types cells variable.Boolean v none has o is = rw is at has
kind_blank types cells (variable.Access access) v none has o is = cc none
kind_blank types cells (variable.Record t) v none has o is = cc none

-- A component selected behind a value of a kind is that of the object that the value names.
pub selected_of : (types : List TypeForm) (from : Option VariableKind) (object : Object) (c : ℕ) (to : VariableKind) → access_of from ≡ Some object.cell.access → selected_kind types from c ≡ Some to → component_access types object c ≡ access_of (Some to)
selected_of types from object c to is leads =
    let here : kind_among (reached_components types object.cell.access) c ≡ Some to = rw is at leads in
    ap access_of here

-- What a path begins with is what its variable holds, or the path leads nowhere.
pub root_or_none : (of_record : Bool) (k : Option VariableKind) → (root_kind of_record k ≡ k) ⊎ (root_kind of_record k ≡ None)
root_or_none b None = inl refl
root_or_none true (Some variable.Integer) = inr refl
root_or_none false (Some variable.Integer) = inl refl
root_or_none true (Some variable.Boolean) = inr refl
root_or_none false (Some variable.Boolean) = inl refl
root_or_none true (Some (variable.Access access)) = inr refl
root_or_none false (Some (variable.Access access)) = inl refl
root_or_none true (Some (variable.Record object)) = inl refl
root_or_none false (Some (variable.Record object)) = inr refl

nowhere_from : (types : List TypeForm) (cs : List ℕ) → selectors_kind types None cs ≡ None
nowhere_from types [] = refl
nowhere_from types (c ∷ cs) = nowhere_from types cs

pub leads_from : (types : List TypeForm) (of_record : Bool) (k : Option VariableKind) (cs : List ℕ) (to : VariableKind) → selectors_kind types (root_kind of_record k) cs ≡ Some to → selectors_kind types k cs ≡ Some to
leads_from types b k cs to e = elim (root_or_none b k) [ inl same ↦ rw same at e | inr none ↦ absurd (let never : None ≡ Some to = sym (nowhere_from types cs) ∙ rw none at e in cc never) ]

-- The access type of an access value to which a path leads.
held_there : (k : Option VariableKind) (t : ℕ) → value_access k ≡ Some t → (to : VariableKind) × (k ≡ Some to) × (access_of (Some to) ≡ Some t)
held_there None t e = absurd (cc e)
held_there (Some variable.Integer) t e = absurd (cc e)
held_there (Some variable.Boolean) t e = absurd (cc e)
held_there (Some (variable.Access access)) t e = (variable.Access access, refl, e)
held_there (Some (variable.Record object)) t e = absurd (cc e)

pub access_from : (types : List TypeForm) (variables : List VariableForm) (path : PathForm) (t : ℕ) → path_access types variables path ≡ Some t → access_of (selectors_kind types (variable_kind variables path.root) path.selectors) ≡ Some t
access_from types variables path t e =
    let h = held_there (path_kind types variables path) t e in
    ap access_of (leads_from types path.of_record (variable_kind variables path.root) path.selectors h.0 h.1) ∙ h.2

-- What is assigned is of the access type that it goes to.
pub this_is : (t : ℕ) (access : Option ℕ) → is_this t access ≡ true → access ≡ Some t
this_is t None is = absurd (cc is)
this_is t (Some u) is = ap Some (eqb-true u t is)

pub value_goes : (types : List TypeForm) (variables : List VariableForm) (kind : VariableKind) (path : PathForm) → kind_takes types variables kind (value_of path) ≡ true → path_access types variables path ≡ access_of (Some kind)
value_goes types variables variable.Integer path takes = absurd (cc takes)
value_goes types variables variable.Boolean path takes = absurd (cc takes)
value_goes types variables (variable.Access access) path takes = this_is access.0 (path_access types variables path) takes
value_goes types variables (variable.Record t) path takes = absurd (cc takes)

-- What the path begins with leads to a value of that type.
pub value_starts : (types : List TypeForm) (variables : List VariableForm) (kind : VariableKind) (path : PathForm) → kind_takes types variables kind (value_of path) ≡ true → access_of (selectors_kind types (variable_kind variables path.root) path.selectors) ≡ access_of (Some kind)
value_starts types variables variable.Integer path takes = absurd (cc takes)
value_starts types variables variable.Boolean path takes = absurd (cc takes)
value_starts types variables (variable.Access access) path takes = access_from types variables path access.0 (this_is access.0 (path_access types variables path) takes)
value_starts types variables (variable.Record t) path takes = absurd (cc takes)

-- What is freed is of an access type.
freed_type : (types : List TypeForm) (access : ℕ) (own : Option ℕ) → is_freed_by types access own ≡ true → (t : ℕ) × (own ≡ Some t) × (is_access types t ≡ true)
freed_type types access None e = absurd (cc e)
freed_type types access (Some t) e = (t, refl, go (designated_type types access) (designated_type types t) e)
  where
    go : (wanted found : Option ℕ) → same_record wanted found ≡ true → is_some found ≡ true
    go None found f = absurd (cc f)
    go (Some r) None f = absurd (cc f)
    go (Some r) (Some q) f = refl

-- A path that is freed leads to a value of an access type.
pub freed_at : (types : List TypeForm) (variables : List VariableForm) (access : ℕ) (path : PathForm) → is_freed_by types access (path_access types variables path) ≡ true → (t : ℕ) × (path_access types variables path ≡ Some t) × (access_of (selectors_kind types (variable_kind variables path.root) path.selectors) ≡ Some t) × (is_access types t ≡ true)
freed_at types variables access path e =
    let f = freed_type types access (path_access types variables path) e in
    (f.0, f.1, access_from types variables path f.0 f.1, f.2)

-- An expression goes where no access values are.
pub computed_goes : (types : List TypeForm) (variables : List VariableForm) (kind : VariableKind) (e : _) → kind_takes types variables kind (computes e) ≡ true → access_of (Some kind) ≡ None
computed_goes types variables variable.Integer e takes = refl
computed_goes types variables variable.Boolean e takes = refl
computed_goes types variables (variable.Access access) e takes = absurd (cc takes)
computed_goes types variables (variable.Record t) e takes = absurd (cc takes)

-- An allocator goes where its access type is, and its items are those of an object of it.
pub record Allocated (types : List TypeForm) (variables : List VariableForm) (kind : VariableKind) (access : ℕ) (items : List ItemForm) : Type 0 where
  pub goes : access_of (Some kind) ≡ Some access
  pub components : List ComponentKind
  pub reached : reached_components types access ≡ Some components
  pub fit : items_fit types variables components items ≡ true

both : (a b : Bool) → (a && b) ≡ true → (a ≡ true) × (b ≡ true)
both true b e = (refl, e)
both false b e = absurd (cc e)

filled_by : (types : List TypeForm) (variables : List VariableForm) (found : Option (List ComponentKind)) (items : List ItemForm) → is_filled types variables found items ≡ true → (components : List ComponentKind) × (found ≡ Some components) × (items_fit types variables components items ≡ true)
filled_by types variables None items e = absurd (cc e)
filled_by types variables (Some components) items e = (components, refl, e)

pub allocated_goes : (types : List TypeForm) (variables : List VariableForm) (kind : VariableKind) (access : ℕ) (items : List ItemForm) → kind_takes types variables kind (allocates access items) ≡ true → Allocated types variables kind access items
allocated_goes types variables variable.Integer access items takes = absurd (cc takes)
allocated_goes types variables variable.Boolean access items takes = absurd (cc takes)
allocated_goes types variables (variable.Record t) access items takes = absurd (cc takes)
allocated_goes types variables (variable.Access t) access items takes =
    let all = both ((access == t.0) && is_filled types variables (reached_components types t.0) items) (parts_named types (object_named types (Some t.0)) == 0) takes in
    let h = both (access == t.0) (is_filled types variables (reached_components types t.0) items) all.0 in
    let same : access ≡ t.0 = eqb-true access t.0 h.0 in
    let f = filled_by types variables (reached_components types t.0) items h.1 in
    record { goes = ap Some (sym same); components = f.0; reached = ap (λ u. reached_components types u) same ∙ f.1; fit = f.2 }
