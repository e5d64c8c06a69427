-- What a well-formed program says of its record objects: each is known by a type of its own, which is no access type.

use Rattle.std.proofs.Common.{◌≡◌, ℕ, zero, suc, ◌||◌, not, true, false, List, [], ◌∷◌, Option, Some, None, refl, sym, ap, ◌∙◌}
use Rattle.std.specs.Prelude.{is_some}
use Rattle.std.proofs.lemmas.Bool.{eqb-true}
use Rattle.std.specs.List.{slice_get, list_all}
use Rattle.ada_program.specs.declared.program.ComponentKind.{ComponentKind}
use Rattle.ada_program.specs.declared.program.TypeNo.{TypeNo}
use Rattle.ada_program.specs.declared.program.VariableKind.{VariableKind}
use Rattle.ada_program.specs.declared.program.VariableKind.TheVariants as variable
use Rattle.ada_program.specs.ProgramForm.{TypeForm, record_of, access_to, object_of, VariableForm}
use Rattle.ada_program.specs.WellFormed.{designated_in, components_reached, reached_components, record_components, object_in, named_in, is_access, is_object_type, type_fits, variable_kind, variable_kind_fits, is_access_kind, variable_fits, is_record_object}
use Rattle.ada_typed.proofs.Operators.{and_left, and_right}
use Rattle.ada_typed.proofs.Evaluations.{there_is}

-- What a variable holds fits the types of the program.
pub kind_there : (types : List TypeForm) (xs : List VariableForm) (x : ℕ) (kind : VariableKind) → list_all (variable_fits types) xs ≡ true → variable_kind xs x ≡ Some kind → variable_kind_fits types kind ≡ true
kind_there types [] x kind fit is = absurd (cc)
kind_there types (y ∷ xs) zero kind fit is =
    let one : y.kind ≡ kind = cc in
    ap (variable_kind_fits types) (sym one) ∙ and_left (variable_kind_fits types y.kind) (not y.borrows || is_access_kind y.kind) (and_left (variable_fits types y) (list_all (variable_fits types) xs) fit)
kind_there types (y ∷ xs) (suc x) kind fit is = kind_there types xs x kind (and_right (variable_fits types y) (list_all (variable_fits types) xs) fit) is

-- A type by which a record object is known is no access type, and its components are those of a record type.
pub object_designates : (o : Option TypeForm) → is_some (object_in o) ≡ true → designated_in o ≡ None
object_designates None h = refl
object_designates (Some (record_of name parts components finalization)) h = refl
object_designates (Some (access_to name designated pool)) h = absurd (cc)
object_designates (Some (object_of record_type)) h = refl

pub type_there : (types ts : List TypeForm) (t : ℕ) (type : TypeForm) → list_all (type_fits types) ts ≡ true → slice_get ts t ≡ Some type → type_fits types type ≡ true
type_there types [] t type fit is = absurd (cc)
type_there types (u ∷ ts) zero type fit is = let one : u ≡ type = cc in ap (type_fits types) (sym one) ∙ and_left (type_fits types u) (list_all (type_fits types) ts) fit
type_there types (u ∷ ts) (suc t) type fit is = type_there types ts t type (and_right (type_fits types u) (list_all (type_fits types) ts) fit) is

reached_at : (types : List TypeForm) (o : Option TypeForm) → ((type : TypeForm) → o ≡ Some type → type_fits types type ≡ true) → is_some (object_in o) ≡ true → (cs : List ComponentKind) × (components_reached types (named_in o) ≡ Some cs)
reached_at types None fit h = absurd (cc)
reached_at types (Some (record_of name parts components finalization)) fit h = absurd (cc)
reached_at types (Some (access_to name designated pool)) fit h = absurd (cc)
reached_at types (Some (object_of record_type)) fit h = there_is (record_components types record_type) (fit (object_of record_type) refl)

pub object_reached : (types : List TypeForm) (t : ℕ) → list_all (type_fits types) types ≡ true → is_object_type types t ≡ true → (cs : List ComponentKind) × (reached_components types t ≡ Some cs)
object_reached types t fit known = reached_at types (slice_get types t) (λ type is. type_there types types t type fit is) known

-- The variable of a record object is of its own kind.
pub own_object : (t : ℕ) (o : Option VariableKind) → is_record_object t o ≡ true → (object : TypeNo) × (o ≡ Some (variable.Record object)) × (t ≡ object.0)
own_object t None h = absurd (cc)
own_object t (Some variable.Integer) h = absurd (cc)
own_object t (Some variable.Boolean) h = absurd (cc)
own_object t (Some (variable.Access access)) h = absurd (cc)
own_object t (Some (variable.Record object)) h = (object, refl, sym (eqb-true object.0 t h))

-- So the type of a record object that is declared is no access type.
pub record_no_access : (types : List TypeForm) (xs : List VariableForm) (x t : ℕ) → list_all (variable_fits types) xs ≡ true → is_record_object t (variable_kind xs x) ≡ true → is_access types t ≡ false
record_no_access types xs x t fit is =
    let own = own_object t (variable_kind xs x) is in
    let known : is_object_type types own.0.0 ≡ true = kind_there types xs x (variable.Record own.0) fit own.1 in
    ap (is_access types) own.2 ∙ ap is_some (object_designates (slice_get types own.0.0) known)
