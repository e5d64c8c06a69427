-- Object declarations: what is wrong with each, and what is known after it.

use Rattle.std.specs.Prelude.{ℕ, ◌+◌, Bool, true, false, ◌&&◌, not, if◌then◌else◌, List, [], ◌∷◌, ◌++◌, length, drop, Option, Some, None, is_none, is_some}
use Rattle.ada_program.specs.Form.{ItemForm, RightForm, nothing, DeclarationForm, collects, declares, declares_record}
use Rattle.ada_tree.specs.Names.{Ident, NameTree}
use Rattle.ada_tree.specs.Expressions.{RightTree}
use Rattle.ada_program.specs.ProgramForm.{TypeForm, VariableForm, record_of, access_to, object_of}
use Rattle.ada_program.specs.declared.program.TypeNo.{TypeNo}
use Rattle.ada_program.specs.declared.program.VariableKind.{VariableKind}
use Rattle.ada_program.specs.declared.program.VariableKind.TheVariants as variable
use Rattle.ada_resolve.specs.declared.fault.NameRule.TheVariants.{WrongType, NotInProfile, NoInitialValue}
use Rattle.ada_resolve.specs.declared.rights.Held.{Held}
use Rattle.ada_resolve.specs.declared.rights.Held.TheVariants as held
use Rattle.ada_resolve.specs.declared.scope.Entity.{Entity}
use Rattle.ada_resolve.specs.declared.scope.Entity.TheVariants as entity
use Rattle.ada_resolve.specs.Known.{Known, declared, visible, missing, new_name_remark, library_remark, library_found, is_empty, next_variable, types_go_on, with_elaborated}
use Rattle.ada_resolve.specs.Library.{is_library_root}
use Rattle.ada_resolve.specs.Remark.{Remark, fine, wrong, node, ◌also◌, wrong_if}
use Rattle.ada_resolve.specs.Instances.{is_collected}
use Rattle.ada_resolve.specs.Paths.{designated_of, library_is_no_value}
use Rattle.ada_resolve.specs.Rights.{Assigned, a_value, a_whole, right_found, right_remark}
use Rattle.ada_resolve.specs.Types.{with_definition}

-- What is wrong with an initial value, where one is written.
abbrev pub initial_remark : Known → Option Held → Option RightTree → Remark
initial_remark known kind (Some right) = right_remark known kind false right
initial_remark known kind None = fine

-- The initial value, or `None` where no value is written or something is wrong.
abbrev pub initial_found : Known → Option Held → Option RightTree → Option Assigned
initial_found known kind (Some right) = right_found known kind right
initial_found known kind None = None

-- Whether a name stands for a type that is complete.
abbrev pub type_in : Option Entity → Option Entity
type_in (Some entity.Integer) = Some entity.Integer
type_in (Some entity.Boolean) = Some entity.Boolean
type_in (Some (entity.Record t size)) = Some (entity.Record t size)
type_in (Some (entity.Access t)) = Some (entity.Access t)
type_in (Some other) = None
type_in None = None

-- The type that an object's declaration names (3.3.1): one name, of a complete type.
unfoldable pub object_type_found : Known → NameTree → Option Entity
object_type_found known type_name =
    if is_library_root type_name.first.text then None else (
    if is_empty type_name.rest then type_in (visible known type_name.first.text) else None)

-- A type that is complete is wanted, by a name that stands alone.
abbrev pub type_wanted : Option Entity → Bool → Ident → Remark
type_wanted (Some found) alone name =
    wrong_if (not alone) name.spot WrongType also wrong_if (is_none (type_in (Some found))) name.spot WrongType
type_wanted None alone name = missing None name

-- What is wrong with the type of an object: a name of the library stands for none.
unfoldable pub object_type_remark : Known → NameTree → Remark
object_type_remark known type_name =
    if is_library_root type_name.first.text
    then library_remark known type_name.first type_name.rest also
    library_is_no_value (library_found known type_name.first type_name.rest) type_name.first.spot
    else type_wanted (visible known type_name.first.text) (is_empty type_name.rest) type_name.first

-- What an object of a type holds, where its initial value is looked at.
abbrev pub held_of : Option Entity → Option Held
held_of (Some entity.Integer) = Some held.Integer
held_of (Some entity.Boolean) = Some held.Boolean
held_of (Some (entity.Access t)) = Some (held.Access t)
held_of (Some (entity.Record t size)) = Some (held.Record t)
held_of (Some other) = None
held_of None = None

-- What a variable of a type holds, which is no record object.
abbrev pub kind_of : Option Entity → Option VariableKind
kind_of (Some entity.Integer) = Some variable.Integer
kind_of (Some entity.Boolean) = Some variable.Boolean
kind_of (Some (entity.Access t)) = Some (variable.Access t)
kind_of (Some other) = None
kind_of None = None

-- An Integer or a Boolean has an initial value (the profile's); where a record object has none, its components hold theirs (3.3.1).
abbrev pub initial_wanted : Option Entity → Ident → Option RightTree → Remark
initial_wanted (Some entity.Integer) name None = wrong name.spot NoInitialValue
initial_wanted (Some entity.Boolean) name None = wrong name.spot NoInitialValue
initial_wanted (Some entity.Integer) name (Some right) = fine
initial_wanted (Some entity.Boolean) name (Some right) = fine
initial_wanted (Some (entity.Access t)) name initial = fine
initial_wanted (Some (entity.Record t size)) name initial = fine
initial_wanted (Some other) name initial = wrong name.spot NotInProfile
initial_wanted None name initial = fine

-- `X : T := ..;` (3.3.1): a node of the source, a new name, a type, and an initial value that fits it, where it is wanted.
abbrev pub object_remark : Known → Ident → NameTree → Option RightTree → Remark
object_remark known name type_name initial =
    node name.spot also
    new_name_remark known name name.spot also
    object_type_remark known type_name also
    initial_remark known (held_of (object_type_found known type_name)) initial also
    initial_wanted (object_type_found known type_name) name initial

-- The collections of the access types that have none, in the order of the types, the first of which has this number.
abbrev pub collections_of : ℕ → List TypeForm → List DeclarationForm → List DeclarationForm
collections_of t [] elaborated = []
collections_of t (record_of name parts components finalization ∷ types) elaborated = collections_of (t + 1) types elaborated
collections_of t (access_to name designated pool ∷ types) elaborated =
    if is_collected t elaborated then collections_of (t + 1) types elaborated else collects t ∷ collections_of (t + 1) types elaborated
collections_of t (object_of record_type ∷ types) elaborated = collections_of (t + 1) types elaborated

-- Whether the type of a number is an access type whose collection isn't created yet.
abbrev pub lacks_collection : List TypeForm → List DeclarationForm → ℕ → Bool
lacks_collection types elaborated t = is_some (designated_of types t) && not (is_collected t elaborated)

-- The types of the innermost part.
abbrev pub own_types : Known → List TypeForm
own_types known = drop known.here.first_type known.types

-- The collections that the types of the innermost part lack where they end.
abbrev pub missing_collections : Known → List DeclarationForm
missing_collections known = collections_of known.here.first_type (own_types known) known.here.elaborated

-- What is known once the types of the innermost part end, at its first body or object or at its `begin`: an access type without an instance has its
-- collection created there.
abbrev pub ends_types : Bool → Known → Known
ends_types true known = with_elaborated (missing_collections known) known
ends_types false known = known

-- What is known once the types end, if they have not ended before.
unfoldable pub after_types : Known → Known
after_types known = ends_types (types_go_on known) known

-- The initial value, null where none is written (3.10).
abbrev pub initial_source : Option RightForm → RightForm
initial_source (Some source) = source
initial_source None = nothing

-- The value that is assigned first, where it is one.
abbrev pub initial_value_in : Option Assigned → Option RightForm
initial_value_in (Some (a_value value)) = Some value
initial_value_in (Some (a_whole items)) = None
initial_value_in None = None

-- The items of the record that is assigned first, where it is one.
abbrev pub initial_items_in : Option Assigned → Option (List ItemForm)
initial_items_in (Some (a_whole items)) = Some items
initial_items_in (Some (a_value value)) = None
initial_items_in None = None

-- What is known once there is one more variable.
abbrev pub with_variable : VariableForm → Known → Known
with_variable variable known = record known { variables = known.variables ++ variable ∷ [] }

-- What is known once a variable, a borrower or not, is declared, and is created with this value.
abbrev pub variable_created : Known → Ident → (borrows : Bool) → VariableKind → RightForm → Known
variable_created known name borrows kind value =
    declared
    (with_elaborated (declares (length known.variables) value ∷ [])
    (with_variable (record { name = name.text; spot = name.spot; kind = kind; borrows = borrows }) known))
    name.text (entity.Variable (next_variable known) kind)

-- After it the object is known, and is created with its initial value.
abbrev pub object_created : Known → Ident → Option VariableKind → Option RightForm → Known
object_created known name (Some kind) value = variable_created known name false kind (initial_source value)
object_created known name None value = known

-- The number of the next type.
abbrev pub next_type : Known → TypeNo
next_type known = record { 0 = length known.types }

-- What a record object is that is known by the next type.
abbrev pub next_record : Known → VariableKind
next_record known = variable.Record (next_type known)

-- What is known once the part elaborates a record object, which is known by a type of its own.
abbrev pub with_record_object : Known → Ident → (record_type : TypeNo) → Option (List ItemForm) → Known
with_record_object known name record_type initial =
    with_elaborated (declares_record (length known.variables) (length known.types) initial ∷ [])
    (with_variable (record { name = name.text; spot = name.spot; kind = next_record known; borrows = false })
    (with_definition None (object_of record_type.0) known))

-- What is known once a record object is declared, and is created with the items of its initial value; where it has none, its components hold what
-- their declarations say (3.3.1).
abbrev pub record_created : Known → Ident → (record_type : TypeNo) → Option (List ItemForm) → Known
record_created known name record_type initial =
    declared (with_record_object known name record_type initial) name.text (entity.Variable (next_variable known) (next_record known))

-- After the declaration of an object of this type, it is known and created.
abbrev pub created_of : Known → Ident → Option Entity → Option Assigned → Known
created_of known name (Some (entity.Record t size)) value = record_created known name t (initial_items_in value)
created_of known name found value = object_created known name (kind_of found) (initial_value_in value)

-- What is known after the declaration of an object.
abbrev pub object_known : Known → Ident → NameTree → Option RightTree → Known
object_known known name type_name initial =
    created_of known name (object_type_found known type_name)
    (initial_found known (held_of (object_type_found known type_name)) initial)
