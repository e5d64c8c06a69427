-- What paths mean where a value is wanted, and what is wrong with each.

use Rattle.std.specs.Prelude.{ℕ, ◌+◌, Bool, true, false, not, ◌&&◌, ◌||◌, ◌==◌, if◌then◌else◌, List, [], ◌∷◌, ◌++◌, slice_get, Option, Some, None, bytes_eq}
use Rattle.ada_text.specs.declared.spot.Spot.{Spot}
use Rattle.ada_tree.specs.Names.{Ident, SelectorTree, component, dereference, PathTree}
use Rattle.ada_program.specs.Form.{PathForm, RecordPathForm, ExpressionForm, integer, boolean, reads, ItemForm}
use Rattle.ada_program.specs.ProgramForm.{PartForm, TypeForm, record_of, access_to, object_of}
use Rattle.ada_program.specs.declared.program.ComponentKind.{ComponentKind}
use Rattle.ada_program.specs.declared.program.PartKind.{PartKind}
use Rattle.ada_program.specs.declared.program.PartKind.TheVariants as part
use Rattle.ada_program.specs.declared.program.VariableKind.{VariableKind}
use Rattle.ada_program.specs.declared.program.VariableKind.TheVariants as variable
use Rattle.ada_program.specs.declared.program.VariableNo.{VariableNo}
use Rattle.ada_program.specs.declared.program.TypeNo.{TypeNo}
use Rattle.ada_program.specs.WellFormed.{held_kind}
use Rattle.ada_resolve.specs.declared.components.KnownComponent.{KnownComponent}
use Rattle.ada_resolve.specs.declared.fault.NameRule.TheVariants.{WrongType, NotInProfile}
use Rattle.ada_resolve.specs.declared.library.LibraryName.{LibraryName}
use Rattle.ada_resolve.specs.declared.scope.Entity.{Entity}
use Rattle.ada_resolve.specs.declared.scope.Entity.TheVariants as entity
use Rattle.ada_resolve.specs.declared.scope.Role.{Role}
use Rattle.ada_resolve.specs.declared.scope.Role.TheVariants as role
use Rattle.ada_resolve.specs.declared.selectors.Reached.{Reached}
use Rattle.ada_resolve.specs.declared.selectors.Reached.TheVariants as reached
use Rattle.ada_resolve.specs.Known.{Known, Part, is_empty, named, next_variable, parts, visible, missing, library_path_remark, library_path_found}
use Rattle.ada_resolve.specs.Library.{is_library_root, no_component_rule}
use Rattle.ada_resolve.specs.Remark.{Remark, fine, wrong, ◌also◌, wrong_if}

-- What an expression means (4.4): null, the value of an access type that a path names, an Integer or a Boolean, the record to which a path leads,
-- or an aggregate of a record type, with its items in the order of the elementary components; unknown where something is wrong. What a borrower
-- of a body around holds is not in the profile, but of its access type.
pub data Meant : Type 0 where
  unknown : Meant
  null_value : Meant
  access_value : PathForm → TypeNo → Meant
  integer_value : ExpressionForm → Meant
  boolean_value : ExpressionForm → Meant
  record_value : RecordPathForm → Meant
  aggregate_value : TypeNo → List ItemForm → Meant
  lent_value : TypeNo → Meant

-- The path of the components that are selected, one behind the other, from a variable, which is a record object or not and stands at the spot
-- (4.1.3).
abbrev pub selected_path : VariableNo → (of_record : Bool) → Spot → List ℕ → PathForm
selected_path x of_record spot components = record { root = x.0; of_record = of_record; selectors = components; spot = spot }

-- The path of a variable that is no record object, which stands at the spot (4.1).
abbrev pub variable_path : VariableNo → Spot → PathForm
variable_path x spot = selected_path x false spot []

-- The components of a record type as they are declared (3.8); none, if it is no record type.
abbrev pub components_in : Option TypeForm → List PartForm
components_in (Some (record_of name parts components finalization)) = parts
components_in (Some (access_to name designated pool)) = []
components_in (Some (object_of record_type)) = []
components_in None = []

-- The components of a type by its number, as they are declared, in order.
unfoldable pub components_of : List TypeForm → ℕ → List PartForm
components_of types t = components_in (slice_get types t)

-- The elementary components of a record type at any depth (3.8); none, if it is no record type.
abbrev pub elementary_in : Option TypeForm → List ComponentKind
elementary_in (Some (record_of name parts components finalization)) = components
elementary_in (Some (access_to name designated pool)) = []
elementary_in (Some (object_of record_type)) = []
elementary_in None = []

-- The elementary components of a type by its number, at any depth, in order.
unfoldable pub elementary_of : List TypeForm → ℕ → List ComponentKind
elementary_of types t = elementary_in (slice_get types t)

-- The type that an access type designates (3.10).
abbrev pub designated_in : Option TypeForm → Option ℕ
designated_in (Some (access_to name designated pool)) = Some designated
designated_in (Some (record_of name parts components finalization)) = None
designated_in (Some (object_of record_type)) = None
designated_in None = None

-- The type that the access type of a number designates.
unfoldable pub designated_of : List TypeForm → ℕ → Option ℕ
designated_of types access = designated_in (slice_get types access)

-- The record type of the record object or parameter that is known by a type (3.3.1, 6.2).
abbrev pub record_known_by : Option TypeForm → Option ℕ
record_known_by (Some (object_of record_type)) = Some record_type
record_known_by (Some (record_of name parts components finalization)) = None
record_known_by (Some (access_to name designated pool)) = None
record_known_by None = None

-- The record type of the record object or parameter that is known by the type of a number.
unfoldable pub record_of_object : List TypeForm → ℕ → Option ℕ
record_of_object types object = record_known_by (slice_get types object)

-- What a component is, and the numbers of its first elementary component and of its first controlled part in the record type.
abbrev pub known_component : PartForm → KnownComponent
known_component c = record { kind = c.kind; first = c.first; part = c.part }

-- A component by its place among those that are declared, and what it is.
abbrev pub component_at : ℕ → Option PartForm → Option (ℕ × KnownComponent)
component_at at (Some c) = Some (at, known_component c)
component_at at None = None

-- The component of a name, and what it is (4.1.3); the first of these components has this place.
abbrev pub component_named : ℕ → List ℕ → List PartForm → Option (ℕ × KnownComponent)
component_named at text [] = None
component_named at text (c ∷ cs) = if bytes_eq text c.name then Some (at, known_component c) else component_named (at + 1) text cs

-- The name of a type.
abbrev pub name_of_type : Option TypeForm → Option (List ℕ)
name_of_type (Some (record_of name parts components finalization)) = Some name
name_of_type (Some (access_to name designated pool)) = Some name
name_of_type (Some (object_of record_type)) = None
name_of_type None = None

-- Whether a name stands for this type, incomplete.
abbrev pub is_incomplete_entity : ℕ → Option Entity → Bool
is_incomplete_entity t (Some (entity.Incomplete u)) = u.0 == t
is_incomplete_entity t (Some other) = false
is_incomplete_entity t None = false

-- Whether a name stands for this type, incomplete, in one of these parts.
abbrev pub is_incomplete_in : ℕ → List ℕ → List Part → Bool
is_incomplete_in t name [] = false
is_incomplete_in t name (part ∷ outer) = is_incomplete_entity t (named name part.names) || is_incomplete_in t name outer

-- Whether a type of this name, if it has one, is incomplete in one of these parts.
abbrev pub is_incomplete_named : ℕ → Option (List ℕ) → List Part → Bool
is_incomplete_named t (Some name) parts = is_incomplete_in t name parts
is_incomplete_named t None parts = false

-- Whether a type is still incomplete (3.10.1): its name stands for it so, in the part that declares it.
unfoldable pub is_incomplete_type : Known → ℕ → Bool
is_incomplete_type known t = is_incomplete_named t (name_of_type (slice_get known.types t)) (parts known)

-- The component of a name in a record type, which is complete (4.1.3, 3.10.1): its place, and what it is.
abbrev pub component_in : Known → Option ℕ → Ident → Option (ℕ × KnownComponent)
component_in known (Some t) c = if is_incomplete_type known t then None else component_named 0 c.text (components_of known.types t)
component_in known None c = None

-- The component of a name behind what is reached: of the object that an access value gives access to, or of the object itself.
abbrev pub component_behind : Known → Reached → Ident → Option (ℕ × KnownComponent)
component_behind known (reached.Value (variable.Access access)) c = component_in known (designated_of known.types access.0) c
component_behind known (reached.Object t first part) c = component_in known (Some t.0) c
component_behind known other c = None

-- The number of the first elementary component of what is reached, in the object that the last access value gives access to.
abbrev pub first_behind : Reached → ℕ
first_behind (reached.Object t first part) = first
first_behind other = 0

-- The number of the first controlled part of what is reached, in that object (7.6).
abbrev pub part_behind : Reached → ℕ
part_behind (reached.Object t first part) = part
part_behind other = 0

-- What a component reaches (4.1.3), whose first elementary component and first controlled part have these numbers: the value of an elementary one, or
-- a record. The parent part has no name, so nothing leads to it (3.4).
abbrev pub held_by : PartKind → (first part : ℕ) → Reached
held_by (part.Elementary kind) first from = reached.Value (held_kind kind)
held_by (part.Record t) first from = reached.Object t first from
held_by part.Parent first from = reached.Nothing

-- What a component reaches, where it is found: it lies behind as many elementary components, and behind as many controlled parts.
abbrev pub held_in : (before parts : ℕ) → Option (ℕ × KnownComponent) → Reached
held_in before parts (Some found) = held_by found.1.kind (before + found.1.first) (parts + found.1.part)
held_in before parts None = reached.Nothing

-- The object of a record type is reached, which is complete (3.10.1).
abbrev pub object_in : Known → Option ℕ → Reached
object_in known (Some t) = if is_incomplete_type known t then reached.Nothing else reached.Object (record { 0 = t }) 0 0
object_in known None = reached.Nothing

-- What `all` reaches (4.1): the object that an access value gives access to.
abbrev pub object_behind : Known → Reached → Reached
object_behind known (reached.Value (variable.Access access)) = object_in known (designated_of known.types access.0)
object_behind known other = reached.Nothing

-- What a selector reaches.
abbrev pub selector_reached : Known → Reached → SelectorTree → Reached
selector_reached known at (component c) = held_in (first_behind at) (part_behind at) (component_behind known at c)
selector_reached known at (dereference spot) = object_behind known at

-- What selectors reach, one behind the other.
abbrev pub selectors_reached : Known → Reached → List SelectorTree → Reached
selectors_reached known at [] = at
selectors_reached known at (s ∷ ss) = selectors_reached known (selector_reached known at s) ss

-- The number of an elementary component, which is this one: a record has none of its own, nor has the parent part.
abbrev pub number_by : PartKind → ℕ → List ℕ
number_by (part.Elementary kind) first = first ∷ []
number_by (part.Record t) first = []
number_by part.Parent first = []

-- The number of a component, where it is found: it lies behind as many elementary components.
abbrev pub number_in : ℕ → Option (ℕ × KnownComponent) → List ℕ
number_in before (Some found) = number_by found.1.kind (before + found.1.first)
number_in before None = []

-- The number of the elementary component that a selector names: `all` names none.
abbrev pub component_selected : Known → Reached → SelectorTree → List ℕ
component_selected known at (component c) = number_in (first_behind at) (component_behind known at c)
component_selected known at (dereference spot) = []

-- The numbers of the elementary components that selectors name, one behind the other.
abbrev pub components_selected : Known → Reached → List SelectorTree → List ℕ
components_selected known at [] = []
components_selected known at (s ∷ ss) = component_selected known at s ++ components_selected known (selector_reached known at s) ss

-- Whether a variable is a record object or parameter (3.3.1, 6.2).
abbrev pub is_record_kind : VariableKind → Bool
is_record_kind variable.Integer = false
is_record_kind variable.Boolean = false
is_record_kind (variable.Access access) = false
is_record_kind (variable.Record object) = true

-- A record object as a whole, where its record type is known: its first elementary component and its first controlled part are its own.
abbrev pub whole_object : Option ℕ → VariableKind → Reached
whole_object (Some t) kind = reached.Object (record { 0 = t }) 0 0
whole_object None kind = reached.Value kind

-- What the name of a variable reaches (4.1): its value, or the record object that it is.
abbrev pub variable_reached : Known → VariableKind → Reached
variable_reached known variable.Integer = reached.Value variable.Integer
variable_reached known variable.Boolean = reached.Value variable.Boolean
variable_reached known (variable.Access access) = reached.Value (variable.Access access)
variable_reached known (variable.Record object) = whole_object (record_of_object known.types object.0) (variable.Record object)

-- A path to a record of a type, which begins with this elementary component and this controlled part of the object to which the other path
-- leads (4.1).
abbrev pub record_path : PathForm → TypeNo → (first part : ℕ) → RecordPathForm
record_path object t first from = record { object = object; first = first; part = from; record_type = t.0 }

-- What a path means, by what it reaches.
abbrev pub reached_meant : PathForm → Reached → Meant
reached_meant path (reached.Value variable.Integer) = integer_value (reads path)
reached_meant path (reached.Value variable.Boolean) = boolean_value (reads path)
reached_meant path (reached.Value (variable.Access t)) = access_value path t
reached_meant path (reached.Value (variable.Record object)) = unknown
reached_meant path (reached.Object t first part) = record_value (record_path path t first part)
reached_meant path reached.Nothing = unknown

-- A variable, by what it holds and what is selected from it.
abbrev pub variable_meant : Known → VariableNo → Spot → VariableKind → List SelectorTree → Meant
variable_meant known x spot kind selectors =
    reached_meant (selected_path x (is_record_kind kind) spot (components_selected known (variable_reached known kind) selectors))
    (selectors_reached known (variable_reached known kind) selectors)

-- What a borrower of a body around holds.
abbrev pub lent_by : VariableKind → Meant
lent_by (variable.Access t) = lent_value t
lent_by other = unknown

-- An object of a body around, with what is selected from it: a borrower as a whole lends what it holds. No variable here has its number.
abbrev pub outer_meant : Known → VariableKind → Role → Spot → List SelectorTree → Meant
outer_meant known kind role.Borrower spot [] = lent_by kind
outer_meant known kind role spot selectors = variable_meant known (next_variable known) spot kind selectors

-- What a name stands for, with what is selected from it.
abbrev pub entity_meant : Known → Option Entity → Spot → List SelectorTree → Meant
entity_meant known (Some (entity.Variable x kind)) spot selectors = variable_meant known x spot kind selectors
entity_meant known (Some (entity.Parameter x kind)) spot selectors = variable_meant known x spot kind selectors
entity_meant known (Some (entity.Outer kind role)) spot selectors = outer_meant known kind role spot selectors
entity_meant known (Some (entity.Number n)) spot [] = integer_value (integer n)
entity_meant known (Some (entity.Truth b)) spot [] = boolean_value (boolean b)
entity_meant known other spot selectors = unknown

-- What a name means, with what is selected from it, where a value is wanted.
abbrev pub named_meant : Known → Ident → List SelectorTree → Meant
named_meant known name selectors = entity_meant known (visible known name.text) name.spot selectors

-- What a path means, where a value is wanted.
unfoldable pub path_meant : Known → PathTree → Meant
path_meant known path =
    if is_library_root path.root.text then unknown
    else named_meant known path.root path.selectors

-- A component that a name can select is wanted (4.1.3): the parent part has no name (3.4).
abbrev pub selectable_wanted : PartKind → Ident → Remark
selectable_wanted (part.Elementary kind) c = fine
selectable_wanted (part.Record t) c = fine
selectable_wanted part.Parent c = wrong c.spot (no_component_rule c.text)

-- A component of that name is wanted (4.1.3).
abbrev pub component_wanted : Option (ℕ × KnownComponent) → Ident → Remark
component_wanted (Some found) c = selectable_wanted found.1.kind c
component_wanted None c = wrong c.spot (no_component_rule c.text)

-- What is wrong with selecting a component from an object of a type: there is a type, which is complete (3.10.1) and has the component.
abbrev pub component_within_remark : Known → Spot → Option ℕ → Ident → Remark
component_within_remark known spot (Some t) c =
    if is_incomplete_type known t then wrong spot WrongType
    else component_wanted (component_named 0 c.text (components_of known.types t)) c
component_within_remark known spot None c = wrong spot WrongType

-- The type that an access value designates has to be complete behind it (3.10.1): an incomplete one has no components.
abbrev pub complete_behind : Known → Spot → Option ℕ → Remark
complete_behind known spot (Some t) = wrong_if (is_incomplete_type known t) spot WrongType
complete_behind known spot None = wrong spot WrongType

-- What is wrong with a component that is named behind what is reached: an Integer and a Boolean have none.
abbrev pub component_behind_remark : Known → Spot → Reached → Ident → Remark
component_behind_remark known spot reached.Nothing c = fine
component_behind_remark known spot (reached.Value (variable.Access access)) c =
    component_within_remark known spot (designated_of known.types access.0) c
component_behind_remark known spot (reached.Object t first part) c = component_within_remark known spot (Some t.0) c
component_behind_remark known spot other c = wrong spot WrongType

-- What is wrong with `all` behind what is reached: it names what an access value gives access to (4.1).
abbrev pub all_remark : Known → Spot → Reached → Remark
all_remark known spot reached.Nothing = fine
all_remark known spot (reached.Value (variable.Access access)) = complete_behind known spot (designated_of known.types access.0)
all_remark known spot other = wrong spot WrongType

-- What is wrong with a selector behind what is reached.
abbrev pub selector_remark : Known → Spot → Reached → SelectorTree → Remark
selector_remark known spot at (component c) = component_behind_remark known spot at c
selector_remark known spot at (dereference all) = all_remark known spot at

-- What is wrong with selectors, one behind the other.
abbrev pub selectors_remark : Known → Spot → Reached → List SelectorTree → Remark
selectors_remark known spot at [] = fine
selectors_remark known spot at (s ∷ ss) =
    selector_remark known spot at s also selectors_remark known spot (selector_reached known at s) ss

-- The record type of a record object is known (3.3.1): of each one that is declared it is.
abbrev pub record_type_wanted : Reached → Spot → Remark
record_type_wanted (reached.Value (variable.Record object)) spot = wrong spot NotInProfile
record_type_wanted other spot = fine

-- What is wrong with what is selected from a variable.
abbrev pub variable_path_remark : Known → Spot → VariableKind → List SelectorTree → Remark
variable_path_remark known spot kind selectors =
    selectors_remark known spot (variable_reached known kind) selectors also
    record_type_wanted (selectors_reached known (variable_reached known kind) selectors) spot

-- A value is wanted: an object of a body around isn't in the profile, and another thing of that name is of the wrong kind (8.6).
abbrev pub value_wanted : Known → Option Entity → Ident → List SelectorTree → Remark
value_wanted known (Some (entity.Variable x kind)) name selectors = variable_path_remark known name.spot kind selectors
value_wanted known (Some (entity.Parameter x kind)) name selectors = variable_path_remark known name.spot kind selectors
value_wanted known (Some (entity.Outer kind role)) name selectors =
    wrong name.spot NotInProfile also variable_path_remark known name.spot kind selectors
value_wanted known (Some (entity.Number n)) name [] = fine
value_wanted known (Some (entity.Truth b)) name [] = fine
value_wanted known (Some other) name selectors = wrong name.spot WrongType
value_wanted known None name selectors = missing None name

-- What is wrong with a name and what is selected from it, where a value is wanted.
abbrev pub named_remark : Known → Ident → List SelectorTree → Remark
named_remark known name selectors = value_wanted known (visible known name.text) name selectors

-- A name of the library stands for no value: it is of the wrong kind (8.6).
abbrev pub library_is_no_value : Option LibraryName → Spot → Remark
library_is_no_value (Some name) spot = wrong spot WrongType
library_is_no_value None spot = fine

-- Whether a path to a value follows an access value on its way (4.1), from a variable that is a record object or not: each component lies behind the
-- access value before it, and the first of a record object is its own.
abbrev pub follows_value : (of_record : Bool) → (selectors : List ℕ) → Bool
follows_value of_record [] = false
follows_value false (c ∷ cs) = true
follows_value true (c ∷ []) = false
follows_value true (c ∷ (d ∷ cs)) = true

-- Whether a path to an object follows an access value (4.1): the object is not the record object with which the path begins.
abbrev pub follows_to : (of_record : Bool) → (selectors : List ℕ) → Bool
follows_to false selectors = true
follows_to true [] = false
follows_to true (c ∷ cs) = true

-- The value of a constant, or of a component of one, is not written.
abbrev pub constant_read : ExpressionForm → Spot → Remark
constant_read (reads path) spot = wrong_if (not (follows_value path.of_record path.selectors)) spot WrongType
constant_read other spot = fine

-- Nothing is written to a constant, nor to a component of one that is a record (3.3); but what an access value gives access to may be written (3.10).
abbrev pub constant_wanted : Meant → Spot → Remark
constant_wanted (integer_value e) spot = constant_read e spot
constant_wanted (boolean_value e) spot = constant_read e spot
constant_wanted (access_value path t) spot = wrong_if (not (follows_value path.of_record path.selectors)) spot WrongType
constant_wanted (record_value path) spot = wrong_if (not (follows_to path.object.of_record path.object.selectors)) spot WrongType
constant_wanted other spot = fine

-- A loop parameter and a formal parameter of mode `in` are constants (3.3, 5.5, 6.2): what is written is none of these, with what is selected from it,
-- which is meant so.
abbrev pub written_wanted : Option Entity → Meant → Spot → Remark
written_wanted (Some (entity.Parameter x kind)) meant spot = constant_wanted meant spot
written_wanted (Some (entity.Outer kind role.Constant)) meant spot = constant_wanted meant spot
written_wanted (Some other) meant spot = fine
written_wanted None meant spot = fine

-- Whether a name stands for the first variable of its body: the operand of an operation is that (6.2, 7.6).
abbrev pub is_first_variable : Option Entity → Bool
is_first_variable (Some (entity.Variable x kind)) = x.0 == 0
is_first_variable (Some other) = false
is_first_variable None = false

-- Whether a path is the operand, as a whole, of an operation that keeps it (7.6): its name alone.
abbrev pub is_kept_operand : Known → PathTree → Bool
is_kept_operand known path = known.here.keeps_operand && is_empty path.selectors && is_first_variable (visible known path.root.text)

-- What is wrong with a path that is written to, which means this: it is no constant, and not the operand that an operation keeps.
abbrev pub written_remark : Known → PathTree → Meant → Remark
written_remark known path meant =
    written_wanted (visible known path.root.text) meant path.root.spot also wrong_if (is_kept_operand known path) path.root.spot NotInProfile

-- What is wrong with a path where a value is wanted.
unfoldable pub path_remark : Known → PathTree → Remark
path_remark known path =
    if is_library_root path.root.text
    then library_path_remark known path also library_is_no_value (library_path_found known path) path.root.spot
    else named_remark known path.root path.selectors
