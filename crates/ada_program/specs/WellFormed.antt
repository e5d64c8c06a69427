-- What a well-formed program is: each number is that of something there, and each form has the types that it wants.

use Rattle.std.specs.Prelude.{◌≡◌, ℕ, zero, suc, ◌+◌, ◌-◌, Bool, true, false, ◌&&◌, ◌||◌, not, ◌==◌, nat_lt, if◌then◌else◌, List, [], ◌∷◌, ◌++◌, length, take, drop, map, count_by, find, Option, Some, None, is_some}
use Rattle.std.specs.List.{list_all, slice_get}
use Rattle.ada_values.specs.declared.operator.UnaryOperator.{UnaryOperator}
use Rattle.ada_values.specs.declared.operator.UnaryOperator.TheVariants as unary
use Rattle.ada_values.specs.declared.operator.BinaryOperator.{BinaryOperator}
use Rattle.ada_values.specs.declared.operator.BinaryOperator.TheVariants as binary
use Rattle.ada_program.specs.declared.program.Choice.{Choice}
use Rattle.ada_program.specs.declared.program.Choice.TheVariants as choice
use Rattle.ada_program.specs.declared.program.ComponentKind.{ComponentKind}
use Rattle.ada_program.specs.declared.program.ComponentKind.TheVariants as component
use Rattle.ada_program.specs.declared.program.Exception.{Exception}
use Rattle.ada_program.specs.declared.program.Exception.TheVariants.{ConstraintError, ProgramError, StorageError, EndError, Declared}
use Rattle.ada_program.specs.declared.program.Finalization.{Finalization}
use Rattle.ada_program.specs.declared.program.ProcedureNo.{ProcedureNo}
use Rattle.ada_program.specs.declared.program.FormalMode.{FormalMode}
use Rattle.ada_program.specs.declared.program.FormalMode.TheVariants.{In, InOut}
use Rattle.ada_program.specs.declared.program.PartKind.{PartKind}
use Rattle.ada_program.specs.declared.program.PartKind.TheVariants as part
use Rattle.ada_program.specs.declared.program.VariableKind.{VariableKind}
use Rattle.ada_program.specs.declared.program.VariableKind.TheVariants as variable
use Rattle.ada_program.specs.declared.records.RecordPlace.{RecordPlace}
use Rattle.ada_program.specs.declared.program.ScalarType.{ScalarType}
use Rattle.ada_program.specs.declared.program.ScalarType.TheVariants.{Integer, Boolean}
use Rattle.ada_program.specs.Form.{PathForm, ActualForm, in_value, in_null, in_access, in_record, in_out_path, in_out_access, in_out_component, in_out_record, RecordPathForm, ExpressionForm, integer, boolean, reads, is_null, applied_to, chained, LinksForm, no_more_links, a_link, ItemForm, null_item, item_of_path, item_of_value, item_of_record, RightForm, nothing, value_of, allocates, allocates_default, computes, StmtForm, skips, assigns, assigns_record, frees, gets, writes, writes_text, chooses, repeats, counts, exits, calls, returns, raises, encloses, StmtsForm, no_stmts, a_stmt, BranchesForm, otherwise, a_branch, HandlersForm, no_handlers, a_handler, DeclarationForm, creates_pool, collects, declares, declares_record}
use Rattle.ada_program.specs.Parts.{has_part_within}
use Rattle.ada_program.specs.ProgramForm.{PartForm, TypeForm, record_of, access_to, object_of, VariableForm, BodyForm, ProgramForm, main_body}

-- The type that an access type designates (3.10): none, if it is no access type.
abbrev pub designated_in : Option TypeForm → Option ℕ
designated_in None = None
designated_in (Some (record_of name parts components finalization)) = None
designated_in (Some (access_to name designated pool)) = Some designated
designated_in (Some (object_of record_type)) = None

-- The type that the access type of a number designates (3.10).
abbrev pub designated_type : List TypeForm → ℕ → Option ℕ
designated_type types t = designated_in (slice_get types t)

-- The elementary components of a record type, in order (3.8): none, if it is no record type.
abbrev pub components_in : Option TypeForm → Option (List ComponentKind)
components_in None = None
components_in (Some (record_of name parts components finalization)) = Some components
components_in (Some (access_to name designated pool)) = None
components_in (Some (object_of record_type)) = None

-- The components of the record type of a number (3.8).
abbrev pub record_components : List TypeForm → ℕ → Option (List ComponentKind)
record_components types t = components_in (slice_get types t)

-- The record type that one record object is known by a type for (3.3.1): none, if the type is another one.
abbrev pub object_in : Option TypeForm → Option ℕ
object_in None = None
object_in (Some (record_of name parts components finalization)) = None
object_in (Some (access_to name designated pool)) = None
object_in (Some (object_of record_type)) = Some record_type

-- The record type of the objects that values of a type name: those that an access type designates (3.10), or one record object.
abbrev pub named_in : Option TypeForm → Option ℕ
named_in None = None
named_in (Some (record_of name parts components finalization)) = None
named_in (Some (access_to name designated pool)) = Some designated
named_in (Some (object_of record_type)) = Some record_type

-- The components of objects of a record type, where there is one.
abbrev pub components_reached : List TypeForm → Option ℕ → Option (List ComponentKind)
components_reached types None = None
components_reached types (Some t) = record_components types t

-- The components of the objects that values of the type of a number name (3.10).
abbrev pub reached_components : List TypeForm → ℕ → Option (List ComponentKind)
reached_components types access = components_reached types (named_in (slice_get types access))

-- Whether a number is that of an access type.
abbrev pub is_access : List TypeForm → ℕ → Bool
is_access types t = is_some (designated_type types t)

-- Whether a number is that of a record type.
abbrev pub is_record : List TypeForm → ℕ → Bool
is_record types t = is_some (record_components types t)

-- Whether a record object is known by the type of a number.
abbrev pub is_object_type : List TypeForm → ℕ → Bool
is_object_type types t = is_some (object_in (slice_get types t))

-- An elementary component is an Integer or a Boolean, or of an access type (3.6, 3.8).
abbrev pub kind_fits : List TypeForm → ComponentKind → Bool
kind_fits types (component.Integer initial) = true
kind_fits types (component.Boolean initial) = true
kind_fits types (component.Access access) = is_access types access.0

-- Controlled parts (7.6).

-- How objects of a record type are finalized, if the type is one whose objects have controlled parts.
abbrev pub finalization_in : Option TypeForm → Option Finalization
finalization_in None = None
finalization_in (Some (record_of name parts components finalization)) = finalization
finalization_in (Some (access_to name designated pool)) = None
finalization_in (Some (object_of record_type)) = None

-- The same of the type of a number.
abbrev pub finalization_of : List TypeForm → ℕ → Option Finalization
finalization_of types t = finalization_in (slice_get types t)

-- How many controlled parts an object has.
abbrev pub count_said : Option Finalization → ℕ
count_said None = 0
count_said (Some f) = f.parts

-- How many controlled parts the objects of the record type of a number have.
abbrev pub part_count : List TypeForm → ℕ → ℕ
part_count types t = count_said (finalization_of types t)

-- How many a declared component has: the parent part is one.
abbrev pub parts_within : List TypeForm → PartKind → ℕ
parts_within types (part.Elementary kind) = 0
parts_within types (part.Record t) = part_count types t.0
parts_within types part.Parent = 1

-- A declared component is the parent part.
abbrev pub is_parent : PartKind → Bool
is_parent (part.Elementary kind) = false
is_parent (part.Record t) = false
is_parent part.Parent = true

-- Where it has controlled parts, a type has a less number than this.
abbrev pub is_numbered_below : (number : ℕ) → Option Finalization → Bool
is_numbered_below number None = true
is_numbered_below number (Some f) = nat_lt f.number.0 number

-- The record type of a declared component, if it is one with controlled parts, has a less number than this.
abbrev pub is_of_earlier : List TypeForm → (number : ℕ) → PartKind → Bool
is_of_earlier types number (part.Elementary kind) = true
is_of_earlier types number (part.Record t) = is_numbered_below number (finalization_of types t.0)
is_of_earlier types number part.Parent = true

-- The controlled parts of declared components are numbered in order from one on, up to their count.
abbrev pub parts_in_order : List TypeForm → (count from : ℕ) → List PartForm → Bool
parts_in_order types count from [] = from == count
parts_in_order types count from (p ∷ ps) = (p.part == from) && parts_in_order types count (from + parts_within types p.kind) ps

-- Behind the first component there is no parent part.
abbrev pub parent_first : List PartForm → Bool
parent_first [] = true
parent_first (p ∷ ps) = list_all (λ q. not (is_parent q.kind)) ps

-- A record type says how many controlled parts its objects have, and is numbered behind the types of its components.
abbrev pub says_parts : List TypeForm → Option Finalization → List PartForm → Bool
says_parts types None ps = parts_in_order types 0 0 ps
says_parts types (Some f) ps = nat_lt 0 f.parts && parts_in_order types f.parts 0 ps && list_all (λ p. is_of_earlier types f.number.0 p.kind) ps

-- An operation is inherited (7.6).
abbrev pub is_inherited : Option ProcedureNo → Bool
is_inherited None = true
is_inherited (Some procedure) = false

-- A type overrides no operation.
abbrev pub overrides_nothing : Option Finalization → Bool
overrides_nothing None = true
overrides_nothing (Some f) = is_inherited f.operations.initialize && is_inherited f.operations.adjust && is_inherited f.operations.finalize

-- Whether this is the number of a record type among those that have controlled parts.
abbrev pub has_number : ℕ → Option Finalization → Bool
has_number n None = false
has_number n (Some f) = f.number.0 == n

-- How many record types have controlled parts.
abbrev pub numbered_types : List TypeForm → ℕ
numbered_types types = count_by (λ t. is_some (finalization_in (Some t))) types

-- Where it has controlled parts, a type has a number of its own, below how many there are.
abbrev pub is_numbered_alone : List TypeForm → Option Finalization → Bool
is_numbered_alone types None = true
is_numbered_alone types (Some f) =
    nat_lt f.number.0 (numbered_types types) && (count_by (λ t. has_number f.number.0 (finalization_in (Some t))) types == 1)

-- A type has such components, and as many controlled parts as it says, or designates a record type (3.10), or one record object is known by it.
abbrev pub type_fits : List TypeForm → TypeForm → Bool
type_fits types (record_of name parts components finalization) =
    list_all (kind_fits types) components && parent_first parts && says_parts types finalization parts && is_numbered_alone types finalization
type_fits types (access_to name designated pool) = is_record types designated
type_fits types (object_of record_type) = is_record types record_type

-- A variable is an Integer or a Boolean, or of an access type, or a record object (3.3.1).
abbrev pub variable_kind_fits : List TypeForm → VariableKind → Bool
variable_kind_fits types variable.Integer = true
variable_kind_fits types variable.Boolean = true
variable_kind_fits types (variable.Access access) = is_access types access.0
variable_kind_fits types (variable.Record object) = is_object_type types object.0

-- A variable holds access values (3.10).
abbrev pub is_access_kind : VariableKind → Bool
is_access_kind variable.Integer = false
is_access_kind variable.Boolean = false
is_access_kind (variable.Access access) = true
is_access_kind (variable.Record object) = false

-- A variable's kind fits (3.3.1), and what borrows holds access values.
abbrev pub variable_fits : List TypeForm → VariableForm → Bool
variable_fits types x = variable_kind_fits types x.kind && (not x.borrows || is_access_kind x.kind)

-- What is created where a program runs (3.11, 7.6.1, 13.11): a pool, the collection of an access type, or a variable; a loop parameter is one (5.5).
pub data Creation : Type 0 where
  of_pool : (pool : ℕ) → Creation
  of_collection : (access : ℕ) → Creation
  of_variable : (variable : ℕ) → Creation

-- What a declaration creates.
abbrev pub creation : DeclarationForm → Creation
creation (creates_pool pool) = of_pool pool
creation (collects access) = of_collection access
creation (declares x right) = of_variable x
creation (declares_record x object initial) = of_variable x

abbrev mutual
  -- What a statement creates, in the order of the text.
  pub created_by : StmtForm → List Creation
  created_by skips = []
  created_by (assigns target right) = []
  created_by (assigns_record target items) = []
  created_by (frees access path) = []
  created_by (gets target) = []
  created_by (writes e) = []
  created_by (writes_text text) = []
  created_by (chooses branches) = created_by_branches branches
  created_by (repeats condition fs end_spot) = created_by_all fs
  created_by (counts x low high fs end_spot) = of_variable x ∷ created_by_all fs
  created_by (exits condition spot) = []
  created_by (calls procedure actuals) = []
  created_by (returns spot) = []
  created_by (raises e) = []
  created_by (encloses ds fs hs) = map creation ds ++ created_by_all fs ++ created_by_handlers hs

  -- What statements create.
  pub created_by_all : StmtsForm → List Creation
  created_by_all no_stmts = []
  created_by_all (a_stmt f fs) = created_by f ++ created_by_all fs

  -- What branches create.
  pub created_by_branches : BranchesForm → List Creation
  created_by_branches (otherwise fs) = created_by_all fs
  created_by_branches (a_branch e fs branches) = created_by_all fs ++ created_by_branches branches

  -- What handlers create.
  pub created_by_handlers : HandlersForm → List Creation
  created_by_handlers no_handlers = []
  created_by_handlers (a_handler choices fs hs) = created_by_all fs ++ created_by_handlers hs

-- All that a body creates, in the order of the text.
abbrev pub created_in : BodyForm → List Creation
created_in b = map creation b.declarations ++ created_by_all b.statements ++ created_by_handlers b.handlers

-- All that the main procedure creates.
abbrev pub creations : ProgramForm → List Creation
creations p = created_in (main_body p)

-- All that these bodies create.
abbrev pub created_in_all : List BodyForm → List Creation
created_in_all [] = []
created_in_all (b ∷ bs) = created_in b ++ created_in_all bs

-- All that a program creates.
abbrev pub all_creations : ProgramForm → List Creation
all_creations p = created_in_all p.bodies ++ creations p

-- The variables are created in order from one on, each once, up to their count (3.11).
abbrev pub creates_from : ℕ → ℕ → List Creation → Bool
creates_from count k [] = k == count
creates_from count k (of_pool pool ∷ cs) = creates_from count k cs
creates_from count k (of_collection access ∷ cs) = creates_from count k cs
creates_from count k (of_variable x ∷ cs) = (x == k) && creates_from count (k + 1) cs

-- A declaration creates a variable.
abbrev pub is_object : DeclarationForm → Bool
is_object (creates_pool pool) = false
is_object (collects access) = false
is_object (declares x right) = true
is_object (declares_record x object initial) = true

-- In each part pools and collections are created before the first variable (3.11).
abbrev pub collections_first : List DeclarationForm → Bool
collections_first [] = true
collections_first (creates_pool pool ∷ ds) = collections_first ds
collections_first (collects access ∷ ds) = collections_first ds
collections_first (declares x right ∷ ds) = list_all is_object ds
collections_first (declares_record x object initial ∷ ds) = list_all is_object ds

-- A collection is that of an access type (7.6.1).
abbrev pub collection_fits : List TypeForm → DeclarationForm → Bool
collection_fits types (creates_pool pool) = true
collection_fits types (collects access) = is_access types access
collection_fits types (declares x right) = true
collection_fits types (declares_record x object initial) = true

-- Whether the collection of this access type is created.
abbrev pub is_collection : ℕ → Creation → Bool
is_collection access (of_pool pool) = false
is_collection access (of_collection t) = t == access
is_collection access (of_variable x) = false

-- Each access type, from a number on, has one collection (7.6.1).
abbrev pub has_collections : List Creation → ℕ → List TypeForm → Bool
has_collections cs t [] = true
has_collections cs t (record_of name parts components finalization ∷ types) = has_collections cs (t + 1) types
has_collections cs t (access_to name designated pool ∷ types) = (count_by (is_collection t) cs == 1) && has_collections cs (t + 1) types
has_collections cs t (object_of record_type ∷ types) = has_collections cs (t + 1) types

-- A pool that is created is one of so many (13.11).
abbrev pub creates_known_pool : (count : ℕ) → Creation → Bool
creates_known_pool count (of_pool pool) = nat_lt pool count
creates_known_pool count (of_collection access) = true
creates_known_pool count (of_variable x) = true

-- The pool of a number, where there is one, is one of so many (13.11).
abbrev pub is_known_pool : (count : ℕ) → Option ℕ → Bool
is_known_pool count None = true
is_known_pool count (Some pool) = nat_lt pool count

-- The declared pool of an access type is one of so many (13.11).
abbrev pub has_known_pool : (count : ℕ) → TypeForm → Bool
has_known_pool count (record_of name parts components finalization) = true
has_known_pool count (access_to name designated pool) = is_known_pool count pool
has_known_pool count (object_of record_type) = true

-- The pools that access types have, and those that a program creates, are its own (13.11).
abbrev pub pools_fit : ProgramForm → Bool
pools_fit p = list_all (has_known_pool (length p.pools)) p.types && list_all (creates_known_pool (length p.pools)) (all_creations p)

-- What a variable holds (3.3.1).
abbrev pub kind_in : Option VariableForm → Option VariableKind
kind_in None = None
kind_in (Some x) = Some x.kind

-- What the variable of a number holds (3.3.1).
abbrev pub variable_kind : List VariableForm → ℕ → Option VariableKind
variable_kind variables x = kind_in (slice_get variables x)

-- A variable is a borrower, if there is one.
abbrev pub borrows_in : Option VariableForm → Bool
borrows_in None = false
borrows_in (Some x) = x.borrows

-- The variable of a number is a borrower: one of an anonymous access type (3.10), which owns nothing.
abbrev pub is_borrower : List VariableForm → ℕ → Bool
is_borrower variables x = borrows_in (slice_get variables x)

-- The type of what names an object: an access value's (3.10), or that by which a record object is known. None, if a value is an Integer or a Boolean.
abbrev pub access_of : Option VariableKind → Option ℕ
access_of None = None
access_of (Some variable.Integer) = None
access_of (Some variable.Boolean) = None
access_of (Some (variable.Access access)) = Some access.0
access_of (Some (variable.Record object)) = Some object.0

-- Integer or Boolean, whichever a value is (3.5.4, 3.5.3): none, if it is an access value.
abbrev pub scalar_of : Option VariableKind → Option ScalarType
scalar_of None = None
scalar_of (Some variable.Integer) = Some Integer
scalar_of (Some variable.Boolean) = Some Boolean
scalar_of (Some (variable.Access access)) = None
scalar_of (Some (variable.Record object)) = None

-- What a component holds, whatever it holds at first (3.8).
abbrev pub held_kind : ComponentKind → VariableKind
held_kind (component.Integer initial) = variable.Integer
held_kind (component.Boolean initial) = variable.Boolean
held_kind (component.Access access) = variable.Access access

-- What a component holds, where it is there.
abbrev pub component_kind : Option ComponentKind → Option VariableKind
component_kind None = None
component_kind (Some kind) = Some (held_kind kind)

-- What the component of a number holds in its record type.
abbrev pub kind_among : Option (List ComponentKind) → ℕ → Option VariableKind
kind_among None c = None
kind_among (Some components) c = component_kind (slice_get components c)

-- What the component of a number holds in the objects that an access type designates (3.10): none, if there is no access type.
abbrev pub kind_behind : List TypeForm → Option ℕ → ℕ → Option VariableKind
kind_behind types None c = None
kind_behind types (Some access) c = kind_among (reached_components types access) c

-- What a component holds that is selected behind a value (4.1, 4.1.3): none, if the value is no access value, or designates objects
-- without such a component.
abbrev pub selected_kind : List TypeForm → Option VariableKind → ℕ → Option VariableKind
selected_kind types kind c = kind_behind types (access_of kind) c

-- What is held behind all the components that are selected, one behind the other (4.1.3).
abbrev pub selectors_kind : List TypeForm → Option VariableKind → List ℕ → Option VariableKind
selectors_kind types kind [] = kind
selectors_kind types kind (c ∷ selectors) = selectors_kind types (selected_kind types kind c) selectors

-- What a path begins with: a variable that is a record object, or one that is none, as the path says.
abbrev pub root_kind : (of_record : Bool) → Option VariableKind → Option VariableKind
root_kind of_record None = None
root_kind of_record (Some variable.Integer) = if of_record then None else Some variable.Integer
root_kind of_record (Some variable.Boolean) = if of_record then None else Some variable.Boolean
root_kind of_record (Some (variable.Access access)) = if of_record then None else Some (variable.Access access)
root_kind of_record (Some (variable.Record object)) = if of_record then Some (variable.Record object) else None

-- What is held where a path leads (4.1): none, if it leads nowhere.
abbrev pub path_kind : List TypeForm → List VariableForm → PathForm → Option VariableKind
path_kind types variables path = selectors_kind types (root_kind path.of_record (variable_kind variables path.root)) path.selectors

-- The access type of an access value (3.10): none, if a value is an Integer or a Boolean, or a record object.
abbrev pub value_access : Option VariableKind → Option ℕ
value_access None = None
value_access (Some variable.Integer) = None
value_access (Some variable.Boolean) = None
value_access (Some (variable.Access access)) = Some access.0
value_access (Some (variable.Record object)) = None

-- The access type of the value where a path leads.
abbrev pub path_access : List TypeForm → List VariableForm → PathForm → Option ℕ
path_access types variables path = value_access (path_kind types variables path)

-- Whether there is a type, and it is the one with this number.
abbrev pub is_this : ℕ → Option ℕ → Bool
is_this access None = false
is_this access (Some t) = t == access

-- A path is a variable, and no component.
abbrev pub names_variable : PathForm → Bool
names_variable path = length path.selectors == 0

-- Whether there is a type, and it is this one.
abbrev pub is_type : ScalarType → Option ScalarType → Bool
is_type type None = false
is_type Integer (Some Integer) = true
is_type Integer (Some Boolean) = false
is_type Boolean (Some Integer) = false
is_type Boolean (Some Boolean) = true

-- An operator takes one operand of a type, and gives a value of that type (4.5).
abbrev pub given_one : ScalarType → Option ScalarType → Option ScalarType
given_one taken operand = if is_type taken operand then Some taken else None

-- An operator takes two operands of one type, and gives a value of another type or the same (4.5).
abbrev pub given_two : ScalarType → ScalarType → Option ScalarType → Option ScalarType → Option ScalarType
given_two taken given left right = if is_type taken left && is_type taken right then Some given else None

-- An equality takes two operands of one type, whichever it is, and gives a Boolean (4.5.2).
abbrev pub given_alike : Option ScalarType → Option ScalarType → Option ScalarType
given_alike None right = None
given_alike (Some left) right = if is_type left right then Some Boolean else None

-- + and - take an Integer and give one (4.5.4); not takes a Boolean and gives one (4.5.6).
abbrev pub unary_type : UnaryOperator → Option ScalarType → Option ScalarType
unary_type unary.Plus operand = given_one Integer operand
unary_type unary.Minus operand = given_one Integer operand
unary_type unary.Not operand = given_one Boolean operand

-- Logical operators and short-circuit forms take Booleans (4.5.1), orderings take Integers and give a Boolean, equalities take two of
-- one type (4.5.2), adding and multiplying operators take Integers and give one (4.5.3, 4.5.5).
abbrev pub binary_type : BinaryOperator → Option ScalarType → Option ScalarType → Option ScalarType
binary_type binary.And left right = given_two Boolean Boolean left right
binary_type binary.Or left right = given_two Boolean Boolean left right
binary_type binary.Xor left right = given_two Boolean Boolean left right
binary_type binary.AndThen left right = given_two Boolean Boolean left right
binary_type binary.OrElse left right = given_two Boolean Boolean left right
binary_type binary.Equal left right = given_alike left right
binary_type binary.NotEqual left right = given_alike left right
binary_type binary.Less left right = given_two Integer Boolean left right
binary_type binary.LessOrEqual left right = given_two Integer Boolean left right
binary_type binary.Greater left right = given_two Integer Boolean left right
binary_type binary.GreaterOrEqual left right = given_two Integer Boolean left right
binary_type binary.Add left right = given_two Integer Integer left right
binary_type binary.Subtract left right = given_two Integer Integer left right
binary_type binary.Multiply left right = given_two Integer Integer left right
binary_type binary.Divide left right = given_two Integer Integer left right
binary_type binary.Modulo left right = given_two Integer Integer left right
binary_type binary.Remainder left right = given_two Integer Integer left right

-- The type of what an expression reads (4.4).
abbrev pub read_type : List TypeForm → List VariableForm → PathForm → Option ScalarType
read_type types variables path = scalar_of (path_kind types variables path)

-- A value that is compared with null is an access value; the comparison gives a Boolean (4.5.2).
abbrev pub null_test_type : List TypeForm → List VariableForm → PathForm → Option ScalarType
null_test_type types variables path = if is_some (path_access types variables path) then Some Boolean else None

abbrev mutual
  -- The type of an expression (4.4): none, where an operand has none or a wrong one.
  pub type_of : List TypeForm → List VariableForm → ExpressionForm → Option ScalarType
  type_of types variables (integer value) = Some Integer
  type_of types variables (boolean value) = Some Boolean
  type_of types variables (reads path) = read_type types variables path
  type_of types variables (is_null equal path) = null_test_type types variables path
  type_of types variables (applied_to operator e) = unary_type operator (type_of types variables e)
  type_of types variables (chained e links) = chain_type types variables (type_of types variables e) links

  -- The type after operators of one level, applied from left to right to a left operand of a type (4.5).
  pub chain_type : List TypeForm → List VariableForm → Option ScalarType → LinksForm → Option ScalarType
  chain_type types variables left no_more_links = left
  chain_type types variables left (a_link operator e links) = chain_type types variables (binary_type operator left (type_of types variables e)) links

-- Whether an expression has this type.
abbrev pub has_type : List TypeForm → List VariableForm → ScalarType → ExpressionForm → Bool
has_type types variables type e = is_type type (type_of types variables e)

-- Whether two components hold values of one type, whatever they hold at first (3.8).
abbrev pub is_alike : ComponentKind → ComponentKind → Bool
is_alike (component.Integer initial) (component.Integer other) = true
is_alike (component.Integer initial) (component.Boolean other) = false
is_alike (component.Integer initial) (component.Access access) = false
is_alike (component.Boolean initial) (component.Integer other) = false
is_alike (component.Boolean initial) (component.Boolean other) = true
is_alike (component.Boolean initial) (component.Access access) = false
is_alike (component.Access access) (component.Integer other) = false
is_alike (component.Access access) (component.Boolean other) = false
is_alike (component.Access access) (component.Access other) = access.0 == other.0

-- Whether the first of some components are those of a record, in order.
abbrev pub begins_with : List ComponentKind → (record_components : List ComponentKind) → Bool
begins_with components [] = true
begins_with [] (k ∷ ks) = false
begins_with (c ∷ components) (k ∷ ks) = is_alike c k && begins_with components ks

-- Whether the first of some components are those of a record type.
abbrev pub begins_with_record : List ComponentKind → Option (List ComponentKind) → Bool
begins_with_record components None = false
begins_with_record components (Some ks) = begins_with components ks

-- Whether the components of an object, from a number on, begin with those of a record type.
abbrev pub has_record_at : Option (List ComponentKind) → (first : ℕ) → Option (List ComponentKind) → Bool
has_record_at None first ks = false
has_record_at (Some components) first ks = begins_with_record (drop first components) ks

-- The elementary components of a declared component (3.8): itself, or those of its record type. The parent part has none (7.6).
abbrev pub components_within : List TypeForm → PartKind → Option (List ComponentKind)
components_within types (part.Elementary kind) = Some (kind ∷ [])
components_within types (part.Record t) = record_components types t.0
components_within types part.Parent = Some []

-- Where a declared component says that it lies among the components of its record type, these are its elementary components (3.8).
abbrev pub component_lies : List TypeForm → List ComponentKind → PartForm → Bool
component_lies types components p = has_record_at (Some components) p.first (components_within types p.kind)

-- Each declared component of a type lies where it says.
abbrev pub components_lie : List TypeForm → TypeForm → Bool
components_lie types (record_of name parts components finalization) = list_all (component_lies types components) parts
components_lie types (access_to name designated pool) = true
components_lie types (object_of record_type) = true

-- The components of the object to which a path leads, where it is a record object or an access value.
abbrev pub object_components : List TypeForm → Option ℕ → Option (List ComponentKind)
object_components types None = None
object_components types (Some t) = reached_components types t

-- The record type of the object to which a path leads, where it is a record object or an access value.
abbrev pub object_named : List TypeForm → Option ℕ → Option ℕ
object_named types None = None
object_named types (Some t) = named_in (slice_get types t)

-- So many controlled parts of an object lie behind those before one of them, where there are any.
abbrev pub has_parts_from : (count part : ℕ) → (within : ℕ) → Bool
has_parts_from count part within = (count == 0) || not (nat_lt within (part + count))

-- How many controlled parts such an object has.
abbrev pub parts_named : List TypeForm → Option ℕ → ℕ
parts_named types None = 0
parts_named types (Some t) = part_count types t

-- The declared components of a record type, where its objects have controlled parts (3.8, 7.6).
abbrev pub parted_components : Option TypeForm → List PartForm
parted_components None = []
parted_components (Some (record_of name parts components None)) = []
parted_components (Some (record_of name parts components (Some f))) = parts
parted_components (Some (access_to name designated pool)) = []
parted_components (Some (object_of record_type)) = []

-- A declared component has the controlled part of a number (7.6).
abbrev pub has_part : List TypeForm → (number : ℕ) → PartForm → Bool
has_part types n p = not (nat_lt n p.part) && nat_lt n (p.part + parts_within types p.kind)

-- A place in a record, as a place in one of its declared components: none, if that is no record, or begins behind the place (4.1.3).
abbrev pub place_in : RecordPlace → PartForm → PartKind → Option RecordPlace
place_in at p (part.Elementary kind) = None
place_in at p (part.Record t) = if nat_lt at.first p.first then None else Some (record { within = t.0; first = at.first - p.first; part = at.part - p.part })
place_in at p part.Parent = None

-- The same of the declared component that was found, if one was.
abbrev pub place_within : RecordPlace → Option PartForm → Option RecordPlace
place_within at None = None
place_within at (Some p) = place_in at p p.kind

-- A place in a record, as a place in the declared component that has the controlled part behind it.
abbrev pub place_inside : List TypeForm → Option RecordPlace → Option RecordPlace
place_inside types None = None
place_inside types (Some at) = place_within at (find (has_part types at.part) (parted_components (slice_get types at.within)))

-- The very record begins there that it is a place in, and is of this type: nothing of it lies before.
abbrev pub is_whole : (record_type : ℕ) → Option RecordPlace → Bool
is_whole t None = false
is_whole t (Some at) = (at.within == t) && (at.first == 0) && (at.part == 0)

-- A record of a type begins at a place: the very record that it is a place in, or one inside the declared component that has the controlled part behind the
-- place, at most so many components deep (4.1.3).
abbrev pub is_found : List TypeForm → (depth : ℕ) → (record_type : ℕ) → Option RecordPlace → Bool
is_found types zero t at = is_whole t at
is_found types (suc depth) t at = is_whole t at || is_found types depth t (place_inside types at)

-- A place in the object to which a path leads: so many elementary components and controlled parts lie before it.
abbrev pub place_from : (object : Option ℕ) → (first part : ℕ) → Option RecordPlace
place_from None first part = None
place_from (Some t) first part = Some (record { within = t; first = first; part = part })

-- Objects of a type, where there is one, have a part of a record type, at any depth (3.8). Records are nested no deeper than there are types.
abbrev pub is_part_of : List TypeForm → (record_type : ℕ) → (object : Option ℕ) → Bool
is_part_of types t None = false
is_part_of types t (Some whole) = has_part_within types (length types) t whole

-- The parts of a record lie in an object. Where it has controlled ones (7.6), they are among the object's, and a record of its type begins there. And the
-- objects of the object's type have a part of the record's.
abbrev pub has_parts_at : List TypeForm → (record_type : ℕ) → (object : Option ℕ) → (first part : ℕ) → Bool
has_parts_at types t object first part =
    has_parts_from (part_count types t) part (parts_named types object)
    && ((part_count types t == 0) || is_found types (length types) t (place_from object first part)) && is_part_of types t object

-- A path leads to a record of its type (4.1): such a record lies in the object to which the path leads, from that component on, and so do its controlled
-- parts, from that number on.
abbrev pub is_record_path : List TypeForm → List VariableForm → RecordPathForm → Bool
is_record_path types variables p =
    has_record_at (object_components types (access_of (path_kind types variables p.object))) p.first (record_components types p.record_type)
    && has_parts_at types p.record_type (object_named types (access_of (path_kind types variables p.object))) p.first p.part

-- An item for one component is null or a path of the component's very type for an access component, and else an expression of the component's
-- type (4.3.1).
abbrev pub component_item_fits : List TypeForm → List VariableForm → ComponentKind → ItemForm → Bool
component_item_fits types variables (component.Integer initial) null_item = false
component_item_fits types variables (component.Integer initial) (item_of_path path) = false
component_item_fits types variables (component.Integer initial) (item_of_value e) = has_type types variables Integer e
component_item_fits types variables (component.Integer initial) (item_of_record p) = false
component_item_fits types variables (component.Boolean initial) null_item = false
component_item_fits types variables (component.Boolean initial) (item_of_path path) = false
component_item_fits types variables (component.Boolean initial) (item_of_value e) = has_type types variables Boolean e
component_item_fits types variables (component.Boolean initial) (item_of_record p) = false
component_item_fits types variables (component.Access access) null_item = true
component_item_fits types variables (component.Access access) (item_of_path path) = is_this access.0 (path_access types variables path)
component_item_fits types variables (component.Access access) (item_of_value e) = false
component_item_fits types variables (component.Access access) (item_of_record p) = false

-- An item that fills one component is for the first of these, where there is one.
abbrev pub first_fits : List TypeForm → List VariableForm → List ComponentKind → ItemForm → Bool
first_fits types variables [] i = false
first_fits types variables (kind ∷ components) i = component_item_fits types variables kind i

-- An item is for the first of these components, a record for as many as it has (4.3.1).
abbrev pub item_fits : List TypeForm → List VariableForm → List ComponentKind → ItemForm → Bool
item_fits types variables components null_item = first_fits types variables components null_item
item_fits types variables components (item_of_path path) = first_fits types variables components (item_of_path path)
item_fits types variables components (item_of_value e) = first_fits types variables components (item_of_value e)
item_fits types variables components (item_of_record p) =
    is_record_path types variables p && begins_with_record components (record_components types p.record_type)

-- How many components a record type has: none, if it is no record type.
abbrev pub width_in : Option (List ComponentKind) → ℕ
width_in None = 0
width_in (Some components) = length components

-- How many components an item fills.
abbrev pub item_width : List TypeForm → ItemForm → ℕ
item_width types null_item = 1
item_width types (item_of_path path) = 1
item_width types (item_of_value e) = 1
item_width types (item_of_record p) = width_in (record_components types p.record_type)

-- No component is left.
abbrev pub is_none_left : List ComponentKind → Bool
is_none_left [] = true
is_none_left (kind ∷ components) = false

-- There are items for these elementary components, in order, each for the first that are left (4.3.1).
abbrev pub items_fit : List TypeForm → List VariableForm → List ComponentKind → List ItemForm → Bool
items_fit types variables components [] = is_none_left components
items_fit types variables components (i ∷ items) =
    item_fits types variables components i && items_fit types variables (drop (item_width types i) components) items

-- There is such a record type, and the items are those of an object of it (4.8).
abbrev pub is_filled : List TypeForm → List VariableForm → Option (List ComponentKind) → List ItemForm → Bool
is_filled types variables None items = false
is_filled types variables (Some components) items = items_fit types variables components items

-- What is assigned where an access value is held (4.8, 5.2): null, a value of that very type, or a new object of that type.
abbrev pub access_fits : List TypeForm → List VariableForm → ℕ → RightForm → Bool
access_fits types variables access nothing = true
access_fits types variables access (value_of path) = is_this access (path_access types variables path)
access_fits types variables access (allocates t items) =
    (t == access) && is_filled types variables (reached_components types access) items && (parts_named types (object_named types (Some access)) == 0)
access_fits types variables access (allocates_default t) = (t == access) && is_some (reached_components types access)
access_fits types variables access (computes e) = false

-- What is assigned where an Integer or a Boolean is held (5.2): an expression of that type.
abbrev pub scalar_fits : List TypeForm → List VariableForm → ScalarType → RightForm → Bool
scalar_fits types variables type nothing = false
scalar_fits types variables type (value_of path) = false
scalar_fits types variables type (allocates t items) = false
scalar_fits types variables type (allocates_default t) = false
scalar_fits types variables type (computes e) = has_type types variables type e

-- What is assigned fits what is held there (5.2): no record object is assigned as a whole yet.
abbrev pub kind_takes : List TypeForm → List VariableForm → VariableKind → RightForm → Bool
kind_takes types variables variable.Integer right = scalar_fits types variables Integer right
kind_takes types variables variable.Boolean right = scalar_fits types variables Boolean right
kind_takes types variables (variable.Access access) right = access_fits types variables access.0 right
kind_takes types variables (variable.Record object) right = false

-- There is something to assign to, and what is assigned fits it (5.2).
abbrev pub right_fits : List TypeForm → List VariableForm → Option VariableKind → RightForm → Bool
right_fits types variables None right = false
right_fits types variables (Some kind) right = kind_takes types variables kind right

-- A path names a borrower: it is one, and no component.
abbrev pub names_borrower : List VariableForm → PathForm → Bool
names_borrower variables path = names_variable path && is_borrower variables path.root

-- An item is no borrower: a component owns what it names (4.8).
abbrev pub item_owns : List VariableForm → ItemForm → Bool
item_owns variables null_item = true
item_owns variables (item_of_path path) = not (names_borrower variables path)
item_owns variables (item_of_value e) = true
item_owns variables (item_of_record p) = true

-- What is assigned suits what it goes to, a borrower or not (3.10.2, 4.6): what a borrower holds goes to borrowers only, and a new object goes to
-- what owns it.
abbrev pub lends_to : List VariableForm → (borrows : Bool) → RightForm → Bool
lends_to variables borrows nothing = true
lends_to variables borrows (value_of path) = borrows || not (names_borrower variables path)
lends_to variables borrows (allocates access items) = not borrows && list_all (item_owns variables) items
lends_to variables borrows (allocates_default access) = not borrows
lends_to variables borrows (computes e) = true

abbrev mutual
  -- An expression names only variables that are declared before one (8.3).
  pub expression_before : ℕ → ExpressionForm → Bool
  expression_before x (integer value) = true
  expression_before x (boolean value) = true
  expression_before x (reads path) = nat_lt path.root x
  expression_before x (is_null equal path) = nat_lt path.root x
  expression_before x (applied_to operator e) = expression_before x e
  expression_before x (chained e links) = expression_before x e && links_before x links

  -- The operands behind the first one name only such variables.
  pub links_before : ℕ → LinksForm → Bool
  links_before x no_more_links = true
  links_before x (a_link operator e links) = expression_before x e && links_before x links

-- An item names only such variables.
abbrev pub item_before : ℕ → ItemForm → Bool
item_before x null_item = true
item_before x (item_of_path path) = nat_lt path.root x
item_before x (item_of_value e) = expression_before x e
item_before x (item_of_record p) = nat_lt p.object.root x

-- An initial value names only variables that are declared before (8.3).
abbrev pub names_before : ℕ → RightForm → Bool
names_before x nothing = true
names_before x (value_of path) = nat_lt path.root x
names_before x (allocates t items) = list_all (item_before x) items
names_before x (allocates_default t) = true
names_before x (computes e) = expression_before x e

-- Whether a variable is the record object that is known by this type.
abbrev pub is_record_object : (object_type : ℕ) → Option VariableKind → Bool
is_record_object t None = false
is_record_object t (Some variable.Integer) = false
is_record_object t (Some variable.Boolean) = false
is_record_object t (Some (variable.Access access)) = false
is_record_object t (Some (variable.Record object)) = object.0 == t

-- The item is a record of a type.
abbrev pub is_record_item : (record_type : ℕ) → ItemForm → Bool
is_record_item t null_item = false
is_record_item t (item_of_path path) = false
is_record_item t (item_of_value e) = false
is_record_item t (item_of_record p) = p.record_type == t

-- There is one item, a record of a type.
abbrev pub is_copy : (record_type : ℕ) → List ItemForm → Bool
is_copy t [] = false
is_copy t (i ∷ is) = is_record_item t i && (length is == 0)

-- A record is copied whole, where it has controlled parts: no aggregate gives it its components, and its type is not limited (7.5, 7.6).
abbrev pub copies_whole : (record_type : ℕ) → Option Finalization → List ItemForm → Bool
copies_whole t None items = true
copies_whole t (Some f) items = not f.limited && is_copy t items

-- The items of a record of a type are values of its components, and no borrowers (4.3.1).
abbrev pub record_fits : List TypeForm → List VariableForm → (record_type : ℕ) → List ItemForm → Bool
record_fits types variables t items =
    is_filled types variables (record_components types t) items && list_all (item_owns variables) items
    && copies_whole t (finalization_of types t) items

-- The same of an object of such a type, if there is one.
abbrev pub object_fits : List TypeForm → List VariableForm → (record_type : Option ℕ) → List ItemForm → Bool
object_fits types variables None items = false
object_fits types variables (Some t) items = record_fits types variables t items

-- The items of a record object's initial value, where there is one, fit its type, and name what is declared before (3.3.1).
abbrev pub record_initial_fits : List TypeForm → List VariableForm → (x : ℕ) → (record_type : Option ℕ) → Option (List ItemForm) → Bool
record_initial_fits types variables x t None = true
record_initial_fits types variables x t (Some items) = list_all (item_before x) items && object_fits types variables t items

-- An initial value names what is declared before, and is one that could be assigned (3.3.1); a record object is known by its own type.
abbrev pub initial_fits : List TypeForm → List VariableForm → DeclarationForm → Bool
initial_fits types variables (creates_pool pool) = true
initial_fits types variables (collects access) = true
initial_fits types variables (declares x right) =
    names_before x right && right_fits types variables (variable_kind variables x) right && lends_to variables (is_borrower variables x) right
initial_fits types variables (declares_record x object initial) =
    is_record_object object (variable_kind variables x) && record_initial_fits types variables x (object_named types (Some object)) initial

-- Two access types designate one record type (13.11.2): the types that they designate, if any, are the same.
abbrev pub same_record : Option ℕ → Option ℕ → Bool
same_record None other = false
same_record (Some t) other = is_this t other

-- What is freed has an access type that designates what the instance's access type designates (13.11.2).
abbrev pub is_freed_by : List TypeForm → ℕ → Option ℕ → Bool
is_freed_by types access None = false
is_freed_by types access (Some own) = same_record (designated_type types access) (designated_type types own)

-- A condition, where there is one, is a Boolean (5.5, 5.7).
abbrev pub condition_fits : List TypeForm → List VariableForm → Option ExpressionForm → Bool
condition_fits types variables None = true
condition_fits types variables (Some e) = has_type types variables Boolean e

-- There is a statement (5.1).
abbrev pub has_statement : StmtsForm → Bool
has_statement no_stmts = false
has_statement (a_stmt f fs) = true

-- An exception is predefined, or one of the declared ones (11.1).
abbrev pub exception_fits : (exceptions : List (List ℕ)) → Exception → Bool
exception_fits exceptions ConstraintError = true
exception_fits exceptions ProgramError = true
exception_fits exceptions StorageError = true
exception_fits exceptions EndError = true
exception_fits exceptions (Declared e) = nat_lt e.0 (length exceptions)

-- A choice of a handler names such an exception (11.2).
abbrev pub choice_fits : (exceptions : List (List ℕ)) → Choice → Bool
choice_fits exceptions (choice.Exception e) = exception_fits exceptions e
choice_fits exceptions choice.Others = true

-- What the input gives goes to an Integer: a variable, or a component.
abbrev pub is_integer_target : List TypeForm → List VariableForm → PathForm → Bool
is_integer_target types variables path = is_type Integer (scalar_of (path_kind types variables path))

-- Is nothing named behind a variable?
abbrev pub stands_alone : List ℕ → Bool
stands_alone [] = true
stands_alone (c ∷ cs) = false

-- An actual parameter is an Integer or a Boolean (6.4.1): an expression of that type, a variable, or a component.
abbrev pub is_scalar_given : List TypeForm → List VariableForm → ScalarType → ActualForm → Bool
is_scalar_given types variables t (in_value e) = has_type types variables t e
is_scalar_given types variables t in_null = false
is_scalar_given types variables t (in_access path) = false
is_scalar_given types variables t (in_record p) = false
is_scalar_given types variables t (in_out_path path) = has_type types variables t (reads path) && stands_alone path.selectors
is_scalar_given types variables t (in_out_access path) = false
is_scalar_given types variables t (in_out_component path) = has_type types variables t (reads path) && not (stands_alone path.selectors)
is_scalar_given types variables t (in_out_record p) = false

-- A path names a value of an access type (3.10), and is no borrower: one is of an anonymous type.
abbrev pub names_access : List TypeForm → List VariableForm → (access : ℕ) → PathForm → Bool
names_access types variables access path = is_this access (path_access types variables path) && not (names_borrower variables path)

-- An actual parameter is a value of an access type (6.4.1): null, what a path names, a variable, or a component.
abbrev pub is_access_given : List TypeForm → List VariableForm → (access : ℕ) → ActualForm → Bool
is_access_given types variables access (in_value e) = false
is_access_given types variables access in_null = true
is_access_given types variables access (in_access path) = names_access types variables access path
is_access_given types variables access (in_record p) = false
is_access_given types variables access (in_out_path path) = false
is_access_given types variables access (in_out_access path) = names_access types variables access path && stands_alone path.selectors
is_access_given types variables access (in_out_component path) = names_access types variables access path && not (stands_alone path.selectors)
is_access_given types variables access (in_out_record p) = false

-- A path leads to a record of the type that a formal parameter has which is known by an object's type (6.2).
abbrev pub names_record : List TypeForm → List VariableForm → (object_type : ℕ) → RecordPathForm → Bool
names_record types variables object p = is_record_path types variables p && is_this p.record_type (object_in (slice_get types object))

-- An actual parameter is a record of the type of a formal one that is known by an object's type (6.4.1).
abbrev pub is_record_given : List TypeForm → List VariableForm → (object_type : ℕ) → ActualForm → Bool
is_record_given types variables object (in_value e) = false
is_record_given types variables object in_null = false
is_record_given types variables object (in_access path) = false
is_record_given types variables object (in_record p) = names_record types variables object p
is_record_given types variables object (in_out_path path) = false
is_record_given types variables object (in_out_access path) = false
is_record_given types variables object (in_out_component path) = false
is_record_given types variables object (in_out_record p) = names_record types variables object p

-- An actual parameter has the type of its formal one (6.4.1).
abbrev pub actual_fits : List TypeForm → List VariableForm → VariableKind → ActualForm → Bool
actual_fits types variables variable.Integer a = is_scalar_given types variables Integer a
actual_fits types variables variable.Boolean a = is_scalar_given types variables Boolean a
actual_fits types variables (variable.Access access) a = is_access_given types variables access.0 a
actual_fits types variables (variable.Record object) a = is_record_given types variables object.0 a

-- There is an actual parameter for each formal one, in order (6.4.1).
abbrev pub actuals_fit : List TypeForm → List VariableForm → List VariableKind → List ActualForm → Bool
actuals_fit types variables [] [] = true
actuals_fit types variables [] (a ∷ rest) = false
actuals_fit types variables (kind ∷ kinds) [] = false
actuals_fit types variables (kind ∷ kinds) (a ∷ rest) = actual_fits types variables kind a && actuals_fit types variables kinds rest

-- The mode in which an actual parameter is passed (6.2).
abbrev pub mode_of : ActualForm → FormalMode
mode_of (in_value e) = In
mode_of in_null = In
mode_of (in_access path) = In
mode_of (in_record p) = In
mode_of (in_out_path path) = InOut
mode_of (in_out_access path) = InOut
mode_of (in_out_component path) = InOut
mode_of (in_out_record p) = InOut

-- Are two modes one?
abbrev pub same_mode : FormalMode → FormalMode → Bool
same_mode In In = true
same_mode In InOut = false
same_mode InOut In = false
same_mode InOut InOut = true

-- Each actual parameter is passed as its formal one says, in order (6.2).
abbrev pub modes_fit : List FormalMode → List ActualForm → Bool
modes_fit [] [] = true
modes_fit [] (a ∷ rest) = false
modes_fit (m ∷ ms) [] = false
modes_fit (m ∷ ms) (a ∷ rest) = same_mode m (mode_of a) && modes_fit ms rest

-- The profile of a procedure (6.1): what its formal parameters hold, and their modes, in order.
pub record Profile : Type 0 where
  pub kinds : List VariableKind
  pub modes : List FormalMode

-- There is a procedure with this profile, and the actual parameters suit it.
abbrev pub suits_profile : List TypeForm → List VariableForm → Option Profile → List ActualForm → Bool
suits_profile types variables None actuals = false
suits_profile types variables (Some profile) actuals =
    actuals_fit types variables profile.kinds actuals && modes_fit profile.modes actuals

-- What the variable holds.
abbrev pub kind_held : VariableForm → VariableKind
kind_held x = x.kind

-- What the formal parameters of a body hold, in order: they are its first variables (6.1).
abbrev pub formal_kinds : BodyForm → List VariableKind
formal_kinds b = map kind_held (take (length b.formals) b.variables)

-- The profile of a procedure.
abbrev pub profile_of : BodyForm → Profile
profile_of b = record { kinds = formal_kinds b; modes = b.formals }

-- The profiles of the procedures that the main body of a program may call.
abbrev pub callable_in : ProgramForm → List Profile
callable_in p = map profile_of p.bodies

-- Operations of controlled types (7.6).

-- A formal parameter stands for a record of the type of a number (6.2).
abbrev pub stands_for : List TypeForm → (record_type : ℕ) → VariableKind → Bool
stands_for types t variable.Integer = false
stands_for types t variable.Boolean = false
stands_for types t (variable.Access access) = false
stands_for types t (variable.Record object) = is_this t (object_in (slice_get types object.0))

-- These are the formal parameters of an operation of the record type of a number: there is one, of mode `in out`, which stands for a record of the type.
abbrev pub operates_on : List TypeForm → (record_type : ℕ) → List VariableKind → List FormalMode → Bool
operates_on types t (kind ∷ []) (InOut ∷ []) = stands_for types t kind
operates_on types t kinds modes = false

-- There is a procedure with this profile, and it is one.
abbrev pub is_operation : List TypeForm → (record_type : ℕ) → Option Profile → Bool
is_operation types t None = false
is_operation types t (Some profile) = operates_on types t profile.kinds profile.modes

-- An operation of the type is inherited, or the procedure that overrides it is one.
abbrev pub overrides_rightly : List TypeForm → (callable : List Profile) → (record_type : ℕ) → Option ProcedureNo → Bool
overrides_rightly types callable t None = true
overrides_rightly types callable t (Some procedure) = is_operation types t (slice_get callable procedure.0)

-- So it is for each operation of the type.
abbrev pub has_operations : List TypeForm → (callable : List Profile) → (record_type : ℕ) → Option Finalization → Bool
has_operations types callable t None = true
has_operations types callable t (Some f) =
    overrides_rightly types callable t f.operations.initialize && overrides_rightly types callable t f.operations.adjust
    && overrides_rightly types callable t f.operations.finalize

-- So it is for each of these types, of which the first has this number.
abbrev pub have_operations : List TypeForm → (callable : List Profile) → (number : ℕ) → List TypeForm → Bool
have_operations types callable n [] = true
have_operations types callable n (t ∷ ts) = has_operations types callable n (finalization_in (Some t)) && have_operations types callable (1 + n) ts

-- No type of a program overrides an operation.
abbrev pub overrides_none : ProgramForm → Bool
overrides_none p = list_all (λ t. overrides_nothing (finalization_in (Some t))) p.types

-- A part creates its collections first, each of an access type, and its variables, whose initial values fit (3.11).
abbrev pub declarations_fit : List TypeForm → List VariableForm → List DeclarationForm → Bool
declarations_fit types variables ds =
    collections_first ds && list_all (collection_fits types) ds && list_all (initial_fits types variables) ds

abbrev mutual
  -- A statement names variables and texts of the program, and has the types that it wants: what is written by Integer'Image is an Integer
  -- (A.10.7, 3.5), a condition is a Boolean (5.3), a loop repeats a statement and counts by an Integer (5.5), an exit stands inside a loop
  -- (5.7), a call is of one of the procedures that may be called, whose profiles these are, and suits it (6.4), an exception is one of the program (11.1), and
  -- each handler has a statement (11.2).
  pub statement_fits : List TypeForm → List VariableForm → (texts exceptions : List (List ℕ)) → (callable : List Profile) → (inside_loop : Bool) → StmtForm → Bool
  statement_fits types variables texts exceptions callable inside_loop skips = true
  statement_fits types variables texts exceptions callable inside_loop (assigns target right) =
      right_fits types variables (path_kind types variables target) right && lends_to variables (names_borrower variables target) right
  statement_fits types variables texts exceptions callable inside_loop (assigns_record target items) =
      is_record_path types variables target && record_fits types variables target.record_type items
  statement_fits types variables texts exceptions callable inside_loop (frees access path) =
      is_freed_by types access (path_access types variables path) && not (names_borrower variables path)
  statement_fits types variables texts exceptions callable inside_loop (gets target) = is_integer_target types variables target
  statement_fits types variables texts exceptions callable inside_loop (writes e) = has_type types variables Integer e
  statement_fits types variables texts exceptions callable inside_loop (writes_text text) = nat_lt text (length texts)
  statement_fits types variables texts exceptions callable inside_loop (chooses branches) = branches_fit types variables texts exceptions callable inside_loop branches
  statement_fits types variables texts exceptions callable inside_loop (repeats condition fs end_spot) =
      condition_fits types variables condition && has_statement fs && stmts_fit types variables texts exceptions callable true fs
  statement_fits types variables texts exceptions callable inside_loop (counts x low high fs end_spot) =
      is_type Integer (scalar_of (variable_kind variables x)) && has_type types variables Integer low && has_type types variables Integer high &&
      has_statement fs && stmts_fit types variables texts exceptions callable true fs
  statement_fits types variables texts exceptions callable inside_loop (exits condition spot) = inside_loop && condition_fits types variables condition
  statement_fits types variables texts exceptions callable inside_loop (calls procedure actuals) = suits_profile types variables (slice_get callable procedure) actuals
  statement_fits types variables texts exceptions callable inside_loop (returns spot) = true
  statement_fits types variables texts exceptions callable inside_loop (raises e) = exception_fits exceptions e
  statement_fits types variables texts exceptions callable inside_loop (encloses ds fs hs) =
      declarations_fit types variables ds && stmts_fit types variables texts exceptions callable inside_loop fs &&
      handlers_fit types variables texts exceptions callable inside_loop hs

  -- Statements, in order.
  pub stmts_fit : List TypeForm → List VariableForm → (texts exceptions : List (List ℕ)) → (callable : List Profile) → (inside_loop : Bool) → StmtsForm → Bool
  stmts_fit types variables texts exceptions callable inside_loop no_stmts = true
  stmts_fit types variables texts exceptions callable inside_loop (a_stmt f fs) =
      statement_fits types variables texts exceptions callable inside_loop f && stmts_fit types variables texts exceptions callable inside_loop fs

  -- Branches, each with a condition (5.3).
  pub branches_fit : List TypeForm → List VariableForm → (texts exceptions : List (List ℕ)) → (callable : List Profile) → (inside_loop : Bool) → BranchesForm → Bool
  branches_fit types variables texts exceptions callable inside_loop (otherwise fs) = stmts_fit types variables texts exceptions callable inside_loop fs
  branches_fit types variables texts exceptions callable inside_loop (a_branch e fs branches) =
      has_type types variables Boolean e && stmts_fit types variables texts exceptions callable inside_loop fs &&
      branches_fit types variables texts exceptions callable inside_loop branches

  -- Handlers, each of exceptions of the program, and with a statement (11.2).
  pub handlers_fit : List TypeForm → List VariableForm → (texts exceptions : List (List ℕ)) → (callable : List Profile) → (inside_loop : Bool) → HandlersForm → Bool
  handlers_fit types variables texts exceptions callable inside_loop no_handlers = true
  handlers_fit types variables texts exceptions callable inside_loop (a_handler choices fs hs) =
      list_all (choice_fits exceptions) choices && has_statement fs && stmts_fit types variables texts exceptions callable inside_loop fs &&
      handlers_fit types variables texts exceptions callable inside_loop hs

-- A procedure's body fits, where procedures with these profiles may be called: its variables behind the formal parameters are created once, in the order of
-- the text (3.11), its declarations and its statements have the types that they want, and so have those of its handlers (11.2).
abbrev pub body_fits : List TypeForm → (texts exceptions : List (List ℕ)) → (callable : List Profile) → BodyForm → Bool
body_fits types texts exceptions callable b =
    list_all (variable_fits types) b.variables && creates_from (length b.variables) (length b.formals) (created_in b) && declarations_fit types b.variables b.declarations &&
    stmts_fit types b.variables texts exceptions callable false b.statements && handlers_fit types b.variables texts exceptions callable false b.handlers

-- So does each of these, behind procedures with these profiles: a body calls procedures before it alone.
abbrev pub bodies_fit : List TypeForm → (texts exceptions : List (List ℕ)) → (callable : List Profile) → List BodyForm → Bool
bodies_fit types texts exceptions callable [] = true
bodies_fit types texts exceptions callable (b ∷ bs) =
    body_fits types texts exceptions callable b && bodies_fit types texts exceptions (callable ++ profile_of b ∷ []) bs

-- The types of a program fit, with where their components lie, their operations, their pools and their collections (3.8, 3.10, 7.6, 13.11, 7.6.1).
abbrev pub tables_fit : ProgramForm → Bool
tables_fit p =
    list_all (type_fits p.types) p.types && list_all (components_lie p.types) p.types && have_operations p.types (callable_in p) 0 p.types && pools_fit p
    && has_collections (all_creations p) 0 p.types

-- A well-formed program.
pub record IsWellFormed (p : ProgramForm) : Type 0 where
  -- components and designated types are types of the program of the right kind (3.8, 3.10)
  pub types_fit : list_all (type_fits p.types) p.types ≡ true
  -- the components of each declared component are among those of its record type, where it says that it lies (3.8)
  pub components_lie : list_all (components_lie p.types) p.types ≡ true
  -- what overrides an operation of a controlled type is a procedure for records of the type (7.6)
  pub operations_fit : have_operations p.types (callable_in p) 0 p.types ≡ true
  -- the declared pools of access types, and those that are created, are pools of the program (13.11)
  pub pools_fit : pools_fit p ≡ true
  -- variables are Integers or Booleans, of access types, or record objects (3.3.1), and only those of access types are borrowers
  pub variables_fit : list_all (variable_fits p.types) p.variables ≡ true
  -- each variable is created once, in the order of the text (3.11)
  pub creates_in_order : creates_from (length p.variables) 0 (creations p) ≡ true
  -- the collections of the main part are created before its first variable (3.11)
  pub collections_first : collections_first p.declarations ≡ true
  -- each collection is that of an access type (7.6.1)
  pub collections_fit : list_all (collection_fits p.types) p.declarations ≡ true
  -- each access type has one collection (7.6.1)
  pub has_one_each : has_collections (all_creations p) 0 p.types ≡ true
  -- each initial value names earlier variables, and has the variable's type (3.3.1)
  pub initials_fit : list_all (initial_fits p.types p.variables) p.declarations ≡ true
  -- each statement names variables and texts, and has the types that it wants (5.2, 13.11.2, A.10.7)
  pub statements_fit : stmts_fit p.types p.variables p.texts p.exceptions (callable_in p) false p.statements ≡ true
  -- and so does each statement of a handler (11.2)
  pub handlers_fit : handlers_fit p.types p.variables p.texts p.exceptions (callable_in p) false p.handlers ≡ true
  -- each procedure's body fits, and calls procedures before it alone (6.4)
  pub bodies_fit : bodies_fit p.types p.texts p.exceptions [] p.bodies ≡ true
