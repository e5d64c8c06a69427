-- Which types allocators and declarations name, where they fit: access types, and those by which record objects are known.

use Rattle.std.proofs.Common.{◌≡◌, ℕ, zero, suc, Bool, true, false, ◌&&◌, ◌==◌, List, [], ◌∷◌, refl, sym, ap, ◌∙◌, subst}
use Rattle.std.proofs.lemmas.Bool.{and_parts, eqb-true}
use Rattle.std.specs.List.{list_all, slice_get}
use Rattle.std.specs.Prelude.{◌||◌, not, Option, Some, None, is_some}
use Rattle.ada_deeds.specs.Implicit.{record_in, record_at}
use Rattle.ada_program.specs.declared.program.ComponentKind.{ComponentKind}
use Rattle.ada_program.specs.declared.program.ComponentKind.TheVariants as component
use Rattle.ada_program.specs.declared.program.VariableKind.{VariableKind}
use Rattle.ada_program.specs.declared.program.VariableKind.TheVariants as variable
use Rattle.ada_program.specs.Form.{PathForm, ItemForm, allocates, allocates_default}
use Rattle.ada_program.specs.ProgramForm.{TypeForm, record_of, access_to, object_of, VariableForm}
use Rattle.ada_program.specs.WellFormed.{designated_in, designated_type, components_in, object_in, named_in, components_reached, reached_components, is_access, is_object_type, kind_fits, parent_first, says_parts, is_numbered_alone, type_fits, variable_kind_fits, is_access_kind, variable_fits, kind_in, variable_kind, access_of, held_kind, component_kind, kind_among, kind_behind, selected_kind, selectors_kind, root_kind, path_kind, is_filled, object_named, parts_named, right_fits, is_record_object}

-- Of two tests that hold together each holds.
pub left_holds : (a b : Bool) → (a && b) ≡ true → a ≡ true
left_holds a b h = (and_parts a b h).0

pub right_holds : (a b : Bool) → (a && b) ≡ true → b ≡ true
right_holds a b h = (and_parts a b h).1

-- What all pass, each passes.
pub all_at : {X : Type 0} (test : X → Bool) (xs : List X) (i : ℕ) (x : X) → list_all test xs ≡ true → slice_get xs i ≡ Some x → test x ≡ true
all_at test [] i x all at = absurd (cc at)
all_at {X = X} test (y ∷ ys) zero x all at =
    let same : y ≡ x = cc at in subst (λ (z : X). test z ≡ true) same (left_holds (test y) (list_all test ys) all)
all_at test (y ∷ ys) (suc i) x all at = all_at test ys i x (right_holds (test y) (list_all test ys) all) at

-- What is held somewhere, if anything, is of a type of the program.
abbrev pub KindFits : List TypeForm → Option VariableKind → Type 0
KindFits types None = Unit {0}
KindFits types (Some kind) = variable_kind_fits types kind ≡ true

module _ (types : List TypeForm) where
  held_fits : (c : ComponentKind) → kind_fits types c ≡ true → variable_kind_fits types (held_kind c) ≡ true
  held_fits (component.Integer initial) fits = refl
  held_fits (component.Boolean initial) fits = refl
  held_fits (component.Access access) fits = fits

  component_fits : (cs : List ComponentKind) (i : ℕ) → list_all (kind_fits types) cs ≡ true → KindFits types (component_kind (slice_get cs i))
  component_fits [] i all = tt
  component_fits (c ∷ cs) zero all = held_fits c (left_holds (kind_fits types c) (list_all (kind_fits types) cs) all)
  component_fits (c ∷ cs) (suc i) all = component_fits cs i (right_holds (kind_fits types c) (list_all (kind_fits types) cs) all)

  type_components : (t : TypeForm) (i : ℕ) → type_fits types t ≡ true → KindFits types (kind_among (components_in (Some t)) i)
  type_components (record_of name parts components finalization) i fits =
      let kinds = list_all (kind_fits types) components in
      let first = parent_first parts in
      let says = says_parts types finalization parts in
      component_fits components i
      (left_holds kinds first (left_holds (kinds && first) says (left_holds (kinds && first && says) (is_numbered_alone types finalization) fits)))
  type_components (access_to name designated pool) i fits = tt
  type_components (object_of record_type) i fits = tt

  module _ (types_fit : list_all (type_fits types) types ≡ true) where
    found_components : (o : Option TypeForm) (t i : ℕ) → slice_get types t ≡ o → KindFits types (kind_among (components_in o) i)
    found_components None t i is = tt
    found_components (Some form) t i is = type_components form i (all_at (type_fits types) types t form types_fit is)

    reached_fits : (o : Option ℕ) (i : ℕ) → KindFits types (kind_among (components_reached types o) i)
    reached_fits None i = tt
    reached_fits (Some t) i = found_components (slice_get types t) t i refl

    behind_fits : (access : Option ℕ) (i : ℕ) → KindFits types (kind_behind types access i)
    behind_fits None i = tt
    behind_fits (Some access) i = reached_fits (named_in (slice_get types access)) i

    selectors_fit : (kind : Option VariableKind) (selectors : List ℕ) → KindFits types kind → KindFits types (selectors_kind types kind selectors)
    selectors_fit kind [] fits = fits
    selectors_fit kind (c ∷ cs) fits = selectors_fit (selected_kind types kind c) cs (behind_fits (access_of kind) c)

    module _ (variables : List VariableForm) (variables_fit : list_all (variable_fits types) variables ≡ true) where
      found_variable : (o : Option VariableForm) (x : ℕ) → slice_get variables x ≡ o → KindFits types (kind_in o)
      found_variable None x is = tt
      found_variable (Some v) x is =
          left_holds (variable_kind_fits types v.kind) (not v.borrows || is_access_kind v.kind) (all_at (variable_fits types) variables x v variables_fit is)

      -- What a variable holds is of a type of the program.
      pub variable_fits_kind : (x : ℕ) → KindFits types (variable_kind variables x)
      variable_fits_kind x = found_variable (slice_get variables x) x refl

      root_fits : (of_record : Bool) (kind : Option VariableKind) → KindFits types kind → KindFits types (root_kind of_record kind)
      root_fits of_record None fits = tt
      root_fits true (Some variable.Integer) fits = tt
      root_fits false (Some variable.Integer) fits = refl
      root_fits true (Some variable.Boolean) fits = tt
      root_fits false (Some variable.Boolean) fits = refl
      root_fits true (Some (variable.Access access)) fits = tt
      root_fits false (Some (variable.Access access)) fits = fits
      root_fits true (Some (variable.Record object)) fits = fits
      root_fits false (Some (variable.Record object)) fits = tt

      -- So is what is held where a path leads.
      pub path_fits_kind : (path : PathForm) → KindFits types (path_kind types variables path)
      path_fits_kind path =
          selectors_fit (root_kind path.of_record (variable_kind variables path.root)) path.selectors
          (root_fits path.of_record (variable_kind variables path.root) (variable_fits_kind path.root))

      same_access : (t access : ℕ) → (t == access) ≡ true → is_access types access ≡ true → is_access types t ≡ true
      same_access t access same fits = ap (is_access types) (eqb-true t access same) ∙ fits

      -- An allocator that fits names an access type (4.8).
      pub allocates_access : (kind : Option VariableKind) (t : ℕ) (items : List ItemForm) → KindFits types kind →
          right_fits types variables kind (allocates t items) ≡ true → is_access types t ≡ true
      allocates_access None t items fits is = absurd (cc is)
      allocates_access (Some variable.Integer) t items fits is = absurd (cc is)
      allocates_access (Some variable.Boolean) t items fits is = absurd (cc is)
      allocates_access (Some (variable.Access access)) t items fits is =
          let same = t == access.0 in
          let filled = is_filled types variables (reached_components types access.0) items in
          same_access t access.0 (left_holds same filled (left_holds (same && filled) (parts_named types (object_named types (Some access.0)) == 0) is)) fits
      allocates_access (Some (variable.Record object)) t items fits is = absurd (cc is)

      pub default_access : (kind : Option VariableKind) (t : ℕ) → KindFits types kind →
          right_fits types variables kind (allocates_default t) ≡ true → is_access types t ≡ true
      default_access None t fits is = absurd (cc is)
      default_access (Some variable.Integer) t fits is = absurd (cc is)
      default_access (Some variable.Boolean) t fits is = absurd (cc is)
      default_access (Some (variable.Access access)) t fits is =
          same_access t access.0 (left_holds (t == access.0) (is_some (reached_components types access.0)) is) fits
      default_access (Some (variable.Record object)) t fits is = absurd (cc is)

      -- A declared record object is known by an object's type (3.3.1).
      pub object_type : (kind : Option VariableKind) (object : ℕ) → KindFits types kind → is_record_object object kind ≡ true → is_object_type types object ≡ true
      object_type None object fits is = absurd (cc is)
      object_type (Some variable.Integer) object fits is = absurd (cc is)
      object_type (Some variable.Boolean) object fits is = absurd (cc is)
      object_type (Some (variable.Access access)) object fits is = absurd (cc is)
      object_type (Some (variable.Record known)) object fits is = ap (is_object_type types) (sym (eqb-true known.0 object is)) ∙ fits

  access_record : (u : ℕ) (o : Option TypeForm) → is_some (designated_in o) ≡ true → record_in u o ≡ designated_in o
  access_record u None is = refl
  access_record u (Some (record_of name parts components finalization)) is = absurd (cc is)
  access_record u (Some (access_to name designated pool)) is = refl
  access_record u (Some (object_of record_type)) is = absurd (cc is)

  -- The record type of the objects of an access type is the one that it designates (3.10).
  pub access_at : (u : ℕ) → is_access types u ≡ true → record_at types u ≡ designated_type types u
  access_at u is = access_record u (slice_get types u) is

  object_record : (u : ℕ) (o : Option TypeForm) → is_some (object_in o) ≡ true → record_in u o ≡ object_in o
  object_record u None is = refl
  object_record u (Some (record_of name parts components finalization)) is = absurd (cc is)
  object_record u (Some (access_to name designated pool)) is = absurd (cc is)
  object_record u (Some (object_of record_type)) is = refl

  -- That of a record object is the one for which it is known by its type.
  pub object_at : (u : ℕ) → is_object_type types u ≡ true → record_at types u ≡ object_in (slice_get types u)
  object_at u is = object_record u (slice_get types u) is
