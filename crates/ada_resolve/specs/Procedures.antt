-- Procedures: what is wrong with the head of a body, what is known where the body begins, and what is known behind it.

use Rattle.std.specs.Prelude.{ℕ, ◌+◌, Bool, false, not, List, [], ◌∷◌, ◌++◌, length, Option, Some, None, is_some, bytes_eq}
use Rattle.ada_text.specs.declared.spot.Spot.{Spot}
use Rattle.ada_tree.specs.Declarations.{FormalTree, HeadTree}
use Rattle.ada_tree.specs.Names.{Ident}
use Rattle.ada_program.specs.Form.{StmtsForm, HandlersForm}
use Rattle.ada_program.specs.ProgramForm.{TypeForm, object_of, VariableForm, BodyForm}
use Rattle.ada_program.specs.declared.program.FormalMode.{FormalMode}
use Rattle.ada_program.specs.declared.program.FormalMode.TheVariants.{In, InOut}
use Rattle.ada_program.specs.declared.program.ProcedureNo.{ProcedureNo}
use Rattle.ada_program.specs.declared.program.TypeNo.{TypeNo}
use Rattle.ada_program.specs.declared.program.VariableKind.{VariableKind}
use Rattle.ada_program.specs.declared.program.VariableKind.TheVariants as variable
use Rattle.ada_program.specs.declared.program.VariableNo.{VariableNo}
use Rattle.ada_resolve.specs.declared.fault.NameRule.TheVariants.{DeclaredTwice, WrongType, NotInProfile, Layout}
use Rattle.ada_resolve.specs.declared.primitives.Operation.{Operation}
use Rattle.ada_resolve.specs.declared.scope.Entity.{Entity}
use Rattle.ada_resolve.specs.declared.scope.Entity.TheVariants as entity
use Rattle.ada_resolve.specs.Known.{Known, Named, Part, entered, first_named, left_to, missing, named, new_name_remark, next_procedure, no_specifications, no_variable_yet, parts, visible}
use Rattle.ada_resolve.specs.Library.{is_primitive, is_taken}
use Rattle.ada_resolve.specs.Primitives.{answered, declared_unless, entered_unless, formal_name, formal_specified, operand, operand_kept, operand_of, operation_named, overridden_if, overrider, specified_for}
use Rattle.ada_resolve.specs.Remark.{Remark, fine, wrong, node, ◌also◌, wrong_if}
use Rattle.ada_resolve.specs.Spots.{head_spot}

-- The formal parameters of a procedure, as far as they are looked at (6.1): what their names stand for, the variables that they are, their modes, and
-- the types that those that are records are known by.
pub record Formals : Type 0 where
  pub names : List Named
  pub variables : List VariableForm
  pub modes : List FormalMode
  pub types : List TypeForm

-- No formal is looked at yet.
abbrev pub no_formals : Formals
no_formals = record { names = []; variables = []; modes = []; types = [] }

-- What the type's name of a formal stands for: the formals before it are visible.
abbrev pub formal_type : Known → Formals → Ident → Option Entity
formal_type known before name = first_named (named name.text before.names) (visible known name.text)

-- What is wrong with the mode of a formal (6.1): `out` alone is not in the profile.
abbrev pub mode_remark : (input output : Option Spot) → Remark
mode_remark input None = fine
mode_remark None (Some out) = wrong out NotInProfile
mode_remark (Some input) (Some out) = fine

-- The mode of a formal (6.1): `in out` where both words are written, and else `in`.
abbrev pub formal_mode : (input output : Option Spot) → FormalMode
formal_mode input None = In
formal_mode None (Some out) = In
formal_mode (Some input) (Some out) = InOut

-- A type is wanted that is complete.
abbrev pub formal_type_wanted : Option Entity → Ident → Remark
formal_type_wanted (Some entity.Integer) name = fine
formal_type_wanted (Some entity.Boolean) name = fine
formal_type_wanted (Some (entity.Access t)) name = fine
formal_type_wanted (Some (entity.Record t size)) name = fine
formal_type_wanted (Some other) name = wrong name.spot WrongType
formal_type_wanted None name = missing None name

-- What is wrong with a formal, behind others (6.1): it is a node of the source, its name is neither predefined nor that of one before it nor that of a
-- primitive, and it has a mode and a type.
unfoldable pub formal_remark : Known → Formals → FormalTree → Remark
formal_remark known before f =
    node f.name.spot also
    wrong_if (is_taken f.name.text) f.name.spot DeclaredTwice also
    wrong_if (is_some (named f.name.text before.names)) f.name.spot DeclaredTwice also
    wrong_if (is_primitive f.name.text) f.name.spot NotInProfile also
    mode_remark f.input f.output also
    formal_type_wanted (formal_type known before f.type_name) f.type_name

-- The number of the type that a formal is known by which is a record, behind others: the next one.
abbrev pub known_by : Known → Formals → TypeNo
known_by known before = record { 0 = length known.types + length before.types }

-- What a formal of a type holds: an Integer, where something is wrong. One that is a record is known by a type of this number.
abbrev pub formal_kind : TypeNo → Option Entity → VariableKind
formal_kind own (Some entity.Boolean) = variable.Boolean
formal_kind own (Some (entity.Access t)) = variable.Access t
formal_kind own (Some (entity.Record t size)) = variable.Record own
formal_kind own (Some other) = variable.Integer
formal_kind own None = variable.Integer

-- The type that a formal of a type is known by, where that is a record.
abbrev pub formal_types : Option Entity → List TypeForm
formal_types (Some (entity.Record t size)) = object_of t.0 ∷ []
formal_types (Some other) = []
formal_types None = []

-- What a formal of a mode is, which is the variable of a number and holds this (6.2): a constant, or a variable.
abbrev pub formal_entity : FormalMode → VariableNo → VariableKind → Entity
formal_entity In x kind = entity.Parameter x kind
formal_entity InOut x kind = entity.Variable x kind

-- The formals with one more, of a mode, which holds this, and is known by such a type (6.2).
abbrev pub with_next : Ident → FormalMode → VariableKind → List TypeForm → Formals → Formals
with_next name mode kind types before = record {
  names = entered name.text (formal_entity mode (record { 0 = length before.variables }) kind) before.names;
  variables = before.variables ++ record { name = name.text; spot = name.spot; kind = kind; borrows = false } ∷ [];
  modes = before.modes ++ mode ∷ [];
  types = before.types ++ types;
}

-- The formals with one more, whose type's name stands for this.
abbrev pub with_found : Known → FormalTree → Option Entity → Formals → Formals
with_found known f found before =
    with_next f.name (formal_mode f.input f.output) (formal_kind (known_by known before) found) (formal_types found) before

-- The formals with one more.
unfoldable pub with_formal : Known → FormalTree → Formals → Formals
with_formal known f before = with_found known f (formal_type known before f.type_name) before

-- What is wrong with formals behind others.
abbrev pub formals_remark : Known → Formals → List FormalTree → Remark
formals_remark known before [] = fine
formals_remark known before (f ∷ fs) = formal_remark known before f also formals_remark known (with_formal known f before) fs

-- The formals with more.
abbrev pub with_formals : Known → List FormalTree → Formals → Formals
with_formals known [] before = before
with_formals known (f ∷ fs) before = with_formals known fs (with_formal known f before)

-- `overriding` is not in the profile, but for operations of controlled types (8.3.1).
abbrev pub overriding_remark : Option Spot → Remark
overriding_remark (Some spot) = wrong spot NotInProfile
overriding_remark None = fine

-- The operation of a controlled type may be marked as overriding.
abbrev pub overriding_unless : Option Operation → Option Spot → Remark
overriding_unless None overriding = overriding_remark overriding
overriding_unless (Some operation) overriding = fine

-- The type of which a procedure with these formals is the operation (7.6), if it is one.
abbrev pub operand_for : Option Operation → Known → Formals → Option ℕ
operand_for None known formals = None
operand_for (Some operation) known formals = operand known operation formals.modes formals.types

-- The same, by its head.
abbrev pub head_operand : Option Operation → Known → HeadTree → Option ℕ
head_operand operation known head = operand_for operation known (with_formals known head.formals no_formals)

-- The body of an operation of a type is for a specification of the part, whose formal has this name: else it is not in the profile. It is the first one
-- for it, and its formal has the same name (6.3.1).
abbrev pub specified_wanted : Option (List ℕ) → Known → Operation → ℕ → HeadTree → Remark
specified_wanted None known operation t head = wrong (head_spot head) NotInProfile
specified_wanted (Some formal) known operation t head =
    wrong_if (is_some (overrider operation known.types t)) head.name.spot DeclaredTwice also
    wrong_if (not (bytes_eq (formal_name head.formals) formal)) head.name.spot WrongType

-- The body of an operation is for a type that has it.
abbrev pub operand_wanted : Option ℕ → Known → Operation → HeadTree → Remark
operand_wanted None known operation head = wrong (head_spot head) NotInProfile
operand_wanted (Some t) known operation head =
    specified_wanted (formal_specified t (specified_for operation known.here.specified)) known operation t head

-- The name of a body is new, or it is that of an operation, which is for a type that has it.
abbrev pub head_name_remark : Option Operation → Option ℕ → Known → HeadTree → Remark
head_name_remark None t known head = new_name_remark known head.name (head_spot head)
head_name_remark (Some operation) t known head = operand_wanted t known operation head

-- `procedure P (..) is` (6.1, 6.3): what is wrong with the head of a body. It is a node of the source before the objects of its part; so are its
-- formals; and its name is new, or it is an operation of a controlled type (7.6).
unfoldable pub body_head_remark : Known → HeadTree → Remark
body_head_remark known head =
    node (head_spot head) also
    wrong_if (not (no_variable_yet known)) (head_spot head) Layout also
    overriding_unless (operation_named head.name.text) head.overriding also
    formals_remark known no_formals head.formals also
    head_name_remark (operation_named head.name.text) (head_operand (operation_named head.name.text) known head) known head

-- The declarative part of a procedure's body, in which the formals are declared, behind the types that they are known by; the variables of the body
-- around are put aside. The body keeps its operand or does not.
abbrev pub body_part : Known → (keeps_operand : Bool) → Formals → Part
body_part known keeps_operand formals = record {
  names = formals.names;
  specified = no_specifications;
  first_type = length (known.types ++ formals.types);
  first_variable = length formals.variables;
  first_body = length known.bodies;
  elaborated = [];
  modes = formals.modes;
  around = Some known.variables;
  keeps_operand = keeps_operand;
}

-- What is known where the body of a procedure begins (6.3), which keeps its operand or does not.
abbrev pub with_body : (keeps_operand : Bool) → Formals → Known → Known
with_body keeps_operand formals known = record known {
  here = body_part known keeps_operand formals;
  outer = parts known;
  types = known.types ++ formals.types;
  variables = formals.variables;
}

-- Whether the body of a procedure with these formals keeps its operand (7.6): it is an operation that does.
abbrev pub keeps_its_operand : Option Operation → Known → Formals → Bool
keeps_its_operand operation known formals = operand_kept known (operand_for operation known formals)

-- The name stands for a procedure whose body has not ended, unless it is an operation's, and the body begins.
abbrev pub body_begun : Ident → Formals → Known → Known
body_begun name formals known =
    with_body (keeps_its_operand (operation_named name.text) known formals) formals
    (declared_unless (operation_named name.text) known name.text entity.Procedure)

-- What is known where the declarations of a body begin, by its head.
unfoldable pub behind_head : Known → HeadTree → Known
behind_head known head = body_begun head.name (with_formals known head.formals no_formals) known

-- The variables of the body around, once it is at work again.
abbrev pub variables_around : Option (List VariableForm) → List VariableForm
variables_around (Some variables) = variables
variables_around None = []

-- What a body is, where these are its statements and its handlers, and its first token and its last `end` stand here (6.3).
abbrev pub body_of : Known → StmtsForm → HandlersForm → (start last : Spot) → BodyForm
body_of known forms handled start last = record {
  formals = known.here.modes;
  variables = known.variables;
  declarations = known.here.elaborated;
  statements = forms;
  handlers = handled;
  start_spot = start;
  end_spot = last;
}

-- What is known once the body ends: its names are gone, and the body around is at work again.
abbrev pub without_body : Known → Known
without_body known = record (left_to known.outer known) { variables = variables_around known.here.around }

-- What is known once there is this body too.
abbrev pub with_procedure : BodyForm → Known → Known
with_procedure body known = record known { bodies = known.bodies ++ body ∷ [] }

-- Behind the body of a procedure of this name and this number its name stands for the procedure, which may be called. An operation is not called by its
-- name: it overrides that of its type, and is awaited no more (7.6).
abbrev pub closed : Option Operation → List ℕ → ProcedureNo → Option ℕ → Known → Known
closed operation text procedure t known = record known {
  here = record known.here {
    names = entered_unless operation text (entity.Callable procedure) known.here.names;
    specified = answered operation known.here.specified;
  };
  types = overridden_if operation procedure t known.types;
}

-- Behind a body, whose first token and whose last `end` stand here, there is one more procedure, of this name.
abbrev pub body_ended : Ident → StmtsForm → HandlersForm → (start last : Spot) → Known → Known
body_ended name forms handled start last known =
    closed (operation_named name.text) name.text (next_procedure known) (operand_of known.types known.here.modes known.variables)
    (with_procedure (body_of known forms handled start last) (without_body known))
