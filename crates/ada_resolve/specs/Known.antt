-- What is known at a place in the procedures of a tree, and what the names stand for there.

use Rattle.std.specs.Prelude.{ℕ, ◌+◌, ◌-◌, Bool, true, false, ◌==◌, not, nat_lt, ◌&&◌, ◌||◌, if◌then◌else◌, List, [], ◌∷◌, ◌++◌, length, Option, Some, None, is_some, codes, bytes_eq}
use Rattle.ada_text.specs.declared.spot.Spot.{Spot}
use Rattle.ada_tree.specs.Names.{Ident, SelectorTree, component, dereference, PathTree, is_name}
use Rattle.ada_program.specs.Form.{DeclarationForm}
use Rattle.ada_program.specs.ProgramForm.{TypeForm, PoolForm, VariableForm, BodyForm}
use Rattle.ada_program.specs.WellFormed.{is_borrower}
use Rattle.ada_program.specs.declared.program.FormalMode.{FormalMode}
use Rattle.ada_program.specs.declared.program.ProcedureNo.{ProcedureNo}
use Rattle.ada_program.specs.declared.program.VariableNo.{VariableNo}
use Rattle.ada_resolve.specs.declared.fault.NameRule.{NameRule}
use Rattle.ada_resolve.specs.declared.fault.NameRule.TheVariants.{UnknownName, DeclaredTwice, NotInProfile, Layout, Limit}
use Rattle.ada_resolve.specs.declared.library.LibraryName.{LibraryName}
use Rattle.ada_resolve.specs.declared.library.LibraryName.TheVariants.{TextIo, PutLine, UncheckedDeallocation, Finalization, Controlled, LimitedControlled, Pools, FirstFitPool, OfPools, RunInput, Get, EndError, OtherUnit, Unknown}
use Rattle.ada_resolve.specs.declared.library.Withs.{Withs}
use Rattle.ada_resolve.specs.declared.scope.Entity.{Entity}
use Rattle.ada_resolve.specs.declared.scope.Entity.TheVariants as entity
use Rattle.ada_resolve.specs.declared.scope.Role.{Role}
use Rattle.ada_resolve.specs.declared.scope.Role.TheVariants as role
use Rattle.ada_resolve.specs.Library.{predefined, is_primitive, is_taken, missing_rule, library_name}
use Rattle.ada_resolve.specs.Remark.{Remark, fine, wrong, node, ◌also◌, wrong_if}

-- A name that is declared, and what it stands for.
pub record Named : Type 0 where
  pub text : List ℕ
  pub entity : Entity

-- A specification of an operation of a controlled type (7.6): the type, and the name of the formal parameter.
pub record Specified : Type 0 where
  pub record_type : ℕ
  pub formal : List ℕ

-- The specifications of operations in a part (7.6): those of Initialize, of Adjust and of Finalize, in order; how many there are, and how many of them
-- wait for their bodies.
pub record Specifications : Type 0 where
  pub initializes : List Specified
  pub adjusts : List Specified
  pub finalizes : List Specified
  pub count : ℕ
  pub awaited : ℕ

-- No operation is specified yet.
abbrev pub no_specifications : Specifications
no_specifications = record { initializes = []; adjusts = []; finalizes = []; count = 0; awaited = 0 }

-- A declarative part, or the scope of a loop parameter (8.1): the names that it declares so far, in order; the operations that it specifies so far (7.6);
-- the numbers of its first type, of its first variable behind formal parameters, and of the first procedure whose body ends in it; what it elaborates so
-- far (3.11); where it is that of a procedure's body, the modes of the formal parameters, in order, and the variables of the body around; and whether the
-- body that it belongs to is an operation that keeps its operand (7.6).
pub record Part : Type 0 where
  pub names : List Named
  pub specified : Specifications
  pub first_type : ℕ
  pub first_variable : ℕ
  pub first_body : ℕ
  pub elaborated : List DeclarationForm
  pub modes : List FormalMode
  pub around : Option (List VariableForm)
  pub keeps_operand : Bool

-- What is known: the library units of the with clauses, the main procedure's name, the declarative part that declares here, those around it, the
-- inner ones first (8.1); by their numbers all types, all pools, the bodies of the procedures that have ended, the variables of the body at this
-- place, all exceptions, of which that is the name, and all texts; the numbers of the access types, and of the record types with controlled parts, that
-- instances of Unchecked_Deallocation have frozen (13.14); how many record types with controlled parts are complete (7.6); and the numbers of the types
-- that are derived from Limited_Controlled.
pub record Known : Type 0 where
  pub withs : Withs
  pub procedure : List ℕ
  pub here : Part
  pub outer : List Part
  pub types : List TypeForm
  pub pools : List PoolForm
  pub bodies : List BodyForm
  pub variables : List VariableForm
  pub exceptions : List (List ℕ)
  pub texts : List (List ℕ)
  pub frozen : List ℕ
  pub controlled : ℕ
  pub limited : List ℕ

-- The declarative parts of a place, the innermost first (8.1).
abbrev pub parts : Known → List Part
parts known = known.here ∷ known.outer

-- A declarative part in which nothing is declared yet, behind so many types, variables and bodies, in a body that keeps its operand or does not.
abbrev pub part_from : (keeps_operand : Bool) → (types variables bodies : ℕ) → Part
part_from keeps_operand types variables bodies = record {
  names = [];
  specified = no_specifications;
  first_type = types;
  first_variable = variables;
  first_body = bodies;
  elaborated = [];
  modes = [];
  around = None;
  keeps_operand = keeps_operand;
}

-- The part that begins at a place: it is of the same body.
abbrev pub next_part : Known → Part
next_part known = part_from known.here.keeps_operand (length known.types) (length known.variables) (length known.bodies)

-- What is known where an inner part begins: it declares nothing yet.
abbrev pub with_part : Known → Known
with_part known = record known { here = next_part known; outer = parts known }

-- What is known once these are the parts: nothing is declared where there are none.
abbrev pub left_to : List Part → Known → Known
left_to [] known = record known { here = next_part known }
left_to (part ∷ outer) known = record known { here = part; outer = outer }

-- What is known once the innermost part ends: its names are gone, and its types and its variables keep their numbers (8.2).
abbrev pub without_part : Known → Known
without_part known = left_to known.outer known

-- What a name stands for among these.
abbrev pub named : List ℕ → List Named → Option Entity
named text [] = None
named text (n ∷ ns) = if bytes_eq text n.text then Some n.entity else named text ns

-- The names once this one stands for that: in its place where it is declared (an incomplete type is completed), else last.
abbrev pub entered : List ℕ → Entity → List Named → List Named
entered text entity [] = record { text = text; entity = entity } ∷ []
entered text entity (n ∷ ns) = if bytes_eq text n.text then record { text = n.text; entity = entity } ∷ ns else n ∷ entered text entity ns

-- What is known once the name stands for that.
abbrev pub declared : Known → List ℕ → Entity → Known
declared known text entity = record known { here = record known.here { names = entered text entity known.here.names } }

-- What a name stands for in the first part that declares it, the innermost first (8.3).
abbrev pub first_named : Option Entity → Option Entity → Option Entity
first_named (Some entity) outer = Some entity
first_named None outer = outer

-- What a variable is: a borrower, or any other.
abbrev pub role_of : Bool → Role
role_of true = role.Borrower
role_of false = role.Variable

-- What a name of a body around stands for, whose variables are these: no object of that body is used in an inner one (the profile's).
abbrev pub from_within : List VariableForm → Option Entity → Option Entity
from_within variables (Some (entity.Variable x kind)) = Some (entity.Outer kind (role_of (is_borrower variables x.0)))
from_within variables (Some (entity.Parameter x kind)) = Some (entity.Outer kind role.Constant)
from_within variables (Some other) = Some other
from_within variables None = None

-- What a name that a part does not declare stands for in it: where the part is that of a procedure's body, the name is one of a body around.
abbrev pub from_part : Option (List VariableForm) → Option Entity → Option Entity
from_part (Some variables) outer = from_within variables outer
from_part None outer = outer

-- What a name stands for in these parts, the innermost first: an inner declaration hides the outer ones (8.3).
abbrev pub named_in : List ℕ → List Part → Option Entity
named_in text [] = None
named_in text (part ∷ outer) = first_named (named text part.names) (from_part part.around (named_in text outer))

-- What a name stands for (8.3): what the parts declare hides the main procedure's name, and this what is visible everywhere.
abbrev pub inner_first : Option Entity → Bool → Option Entity → Option Entity
inner_first (Some entity) own standard = Some entity
inner_first None true standard = Some entity.Procedure
inner_first None false standard = standard

-- Whether a name is that of a library unit of one name which a with clause names: Run_Input and Profile_Pools are those of the profile.
abbrev pub is_unit_named : Withs → List ℕ → Bool
is_unit_named withs text = (bytes_eq text (codes "RUN_INPUT") && withs.run_input) || (bytes_eq text (codes "PROFILE_POOLS") && withs.pools)

-- A library unit of one name is visible where a with clause names it (10.1.2, 10.1.6).
abbrev pub unit_named : Withs → List ℕ → Option Entity
unit_named withs text = if is_unit_named withs text then Some entity.LibraryUnit else None

-- What a name stands for that no part declares: what is predefined, or a library unit.
abbrev pub outermost : Withs → List ℕ → Option Entity
outermost withs text = first_named (predefined text) (unit_named withs text)

-- What a name stands for at a place (8.3), if anything.
unfoldable pub visible : Known → List ℕ → Option Entity
visible known text = inner_first (named_in text (parts known)) (bytes_eq text known.procedure) (outermost known.withs text)

-- A name of which nothing is visible is wrong (8.3).
abbrev pub missing : Option Entity → Ident → Remark
missing (Some entity) name = fine
missing None name = wrong name.spot (missing_rule name.text)

-- A lone name is wanted, whatever it stands for.
abbrev pub name_remark : Known → Ident → Remark
name_remark known name = missing (visible known name.text) name

-- The most names that a declarative part declares.
abbrev pub most_names : ℕ
most_names = 500

-- How many formal parameters a part declares: where it is that of a procedure's body, they come before its other variables.
abbrev pub formals_of : Part → ℕ
formals_of part = if is_some part.around then part.first_variable else 0

-- How many names a part declares besides formal parameters: each specification of an operation counts as one.
abbrev pub own_names : Part → ℕ
own_names part = (length part.names - formals_of part) + part.specified.count

-- What is wrong with declaring a name, in a declaration that begins at `first`: it is predefined; its part declares it already (8.3);
-- it is the name of a primitive of controlled types; or there are too many.
abbrev pub new_name_remark : Known → Ident → Spot → Remark
new_name_remark known name first =
    wrong_if (is_taken name.text) name.spot DeclaredTwice also
    wrong_if (is_some (named name.text known.here.names)) name.spot DeclaredTwice also
    wrong_if (is_primitive name.text) first NotInProfile also
    wrong_if (not (nat_lt (own_names known.here) most_names)) name.spot Limit

-- Whether the unit of a library name stands in a with clause (10.1.2), and the name is in use.
abbrev pub is_with : Withs → LibraryName → Bool
is_with withs TextIo = withs.text_io
is_with withs PutLine = withs.text_io
is_with withs UncheckedDeallocation = withs.deallocation
is_with withs Finalization = withs.finalization
is_with withs Controlled = withs.finalization
is_with withs LimitedControlled = withs.finalization
is_with withs Pools = withs.pools
is_with withs FirstFitPool = withs.pools
is_with withs OfPools = false
is_with withs RunInput = withs.run_input
is_with withs Get = withs.run_input
is_with withs EndError = withs.run_input
is_with withs OtherUnit = false
is_with withs Unknown = false

-- The rule that a name breaks which is not in use yet: its unit stands in a with clause, or it does not.
abbrev pub unused_rule : Bool → NameRule
unused_rule true = NotInProfile
unused_rule false = UnknownName

-- The rule that a name of the library breaks which stands for nothing at a place: it is none of the profile's, or is not in use yet; or its unit
-- stands in no with clause.
abbrev pub library_rule : Withs → LibraryName → NameRule
library_rule withs Unknown = NotInProfile
library_rule withs OfPools = unused_rule withs.pools
library_rule withs name = UnknownName

-- What is wrong with a name of the library.
abbrev pub library_wrong : Withs → LibraryName → Spot → Remark
library_wrong withs name spot = wrong_if (not (is_with withs name)) spot (library_rule withs name)

-- What is wrong with a name that begins with a root of the library.
abbrev pub library_remark : Known → Ident → List Ident → Remark
library_remark known first rest = library_wrong known.withs (library_name first.text rest) first.spot

-- What a name of the library stands for, where nothing is wrong with it.
abbrev pub if_with : Bool → LibraryName → Option LibraryName
if_with true name = Some name
if_with false name = None

-- What such a name stands for, where nothing is wrong with it.
abbrev pub library_found : Known → Ident → List Ident → Option LibraryName
library_found known first rest = if_with (is_with known.withs (library_name first.text rest)) (library_name first.text rest)

-- The identifiers that a path selects, one by one.
abbrev pub parts_of : List SelectorTree → List Ident
parts_of [] = []
parts_of (component i ∷ selectors) = i ∷ parts_of selectors
parts_of (dereference spot ∷ selectors) = parts_of selectors

-- What is wrong with a path that begins with a root of the library: with `all` in it, it is no name of the profile's.
abbrev pub library_path_remark : Known → PathTree → Remark
library_path_remark known path =
    if is_name path.selectors then library_remark known path.root (parts_of path.selectors) else wrong path.root.spot NotInProfile

-- What such a path stands for, where nothing is wrong with it.
abbrev pub library_path_found : Known → PathTree → Option LibraryName
library_path_found known path =
    if is_name path.selectors then library_found known path.root (parts_of path.selectors) else None

-- A list has nothing.
abbrev pub is_empty : {X : Type 0} → List X → Bool
is_empty xs = length xs == 0

-- The number of the next variable.
abbrev pub next_variable : Known → VariableNo
next_variable known = record { 0 = length known.variables }

-- The number of the next procedure whose body ends.
abbrev pub next_procedure : Known → ProcedureNo
next_procedure known = record { 0 = length known.bodies }

-- Whether the innermost part has declared no variable yet.
abbrev pub no_variable_yet : Known → Bool
no_variable_yet known = length known.variables == known.here.first_variable

-- Whether no body of a procedure has ended in the innermost part yet.
abbrev pub no_body_yet : Known → Bool
no_body_yet known = length known.bodies == known.here.first_body

-- Whether the innermost part has declared neither a variable nor a body yet: its types have not ended.
abbrev pub types_go_on : Known → Bool
types_go_on known = no_variable_yet known && no_body_yet known

-- A type, a number, a pool, an exception, a clause or an instance begins: it is a node of the source, and none follows a variable or a body of its part.
abbrev pub type_begins : Known → Spot → Remark
type_begins known spot = node spot also wrong_if (not (types_go_on known)) spot Layout

-- What is known once the innermost part elaborates these too, in order (3.11).
abbrev pub with_elaborated : List DeclarationForm → Known → Known
with_elaborated declarations known = record known { here = record known.here { elaborated = known.here.elaborated ++ declarations } }
