-- A whole program as plain data: its types, its variables, and what it does, whatever the program keeps them in.

use Rattle.std.specs.Prelude.{ℕ, Bool, List, [], map, take, Option, Some, None}
use Rattle.std.specs.List.{slice_get}
use Rattle.std.specs.String.{string_bytes}
use Rattle.ada_text.specs.declared.spot.Spot.{Spot}
use Rattle.ada_program.specs.declared.program.ComponentKind.{ComponentKind}
use Rattle.ada_program.specs.declared.program.Finalization.{Finalization}
use Rattle.ada_program.specs.declared.program.FormalMode.{FormalMode}
use Rattle.ada_program.specs.declared.program.Part.{Part}
use Rattle.ada_program.specs.declared.program.PartKind.{PartKind}
use Rattle.ada_program.specs.declared.program.Pool.{Pool}
use Rattle.ada_program.specs.declared.program.PoolNo.{PoolNo}
use Rattle.ada_program.specs.declared.program.Variable.{Variable}
use Rattle.ada_program.specs.declared.program.VariableKind.{VariableKind}
use Rattle.ada_program.specs.declared.program.Procedure.{Procedure}
use Rattle.ada_program.specs.declared.program.Program.{Program}
use Rattle.ada_program.specs.declared.program.TypeDefinition.{TypeDefinition}
use Rattle.ada_program.specs.declared.program.TypeDefinition.TheVariants as definition
use Rattle.ada_program.specs.Form.{StmtsForm, HandlersForm, DeclarationForm, declaration_form, stmts_form, handlers_form, declaration_forms, stmt_forms, handler_forms}

-- A component of a record type as it is declared: its name, what it is, and the numbers of its first elementary component and of its first controlled
-- part in the record type (3.8, 7.6).
pub record PartForm : Type 0 where
  pub name : List ℕ
  pub kind : PartKind
  pub first : ℕ
  pub part : ℕ

-- A type (3.2.1): a record type, its components as they are declared and its elementary components at any depth, each in order, and how its objects are
-- finalized, where they have controlled parts (7.6); an access type,
-- the type that it designates, and the declared pool of its objects, where it is not the standard one (13.11); or what one record object is known by,
-- and its record type.
pub data TypeForm : Type 0 where
  record_of : List ℕ → (parts : List PartForm) → (components : List ComponentKind) → Option Finalization → TypeForm
  access_to : List ℕ → (designated : ℕ) → (pool : Option ℕ) → TypeForm
  object_of : (record_type : ℕ) → TypeForm

-- A storage pool that the program declares (13.11): its name, and its size in words.
pub record PoolForm : Type 0 where
  pub name : List ℕ
  pub words : ℕ

-- A variable: its name, where it is declared, what it holds (3.3.1), and whether it is a borrower: one of an anonymous access type (3.10).
pub record VariableForm : Type 0 where
  pub name : List ℕ
  pub spot : Spot
  pub kind : VariableKind
  pub borrows : Bool

-- A body of a procedure (6.3): the modes of its formal parameters, which are the first of its variables (6.2); its variables, its declarations (3.11), its
-- statements and their handlers (11.2); and where its first token and its last `end` stand.
pub record BodyForm : Type 0 where
  pub formals : List FormalMode
  pub variables : List VariableForm
  pub declarations : List DeclarationForm
  pub statements : StmtsForm
  pub handlers : HandlersForm
  pub start_spot : Spot
  pub end_spot : Spot

-- A program: types, pools, procedures, texts and exceptions by their numbers; and of its main procedure the variables by their numbers, the declarations (3.11),
-- the statements and their handlers (11.2). The main procedure has no formal parameters, so no rule is told at its end; as the body of another one sees
-- it, the program has that one's.
pub record ProgramForm : Type 0 where
  pub types : List TypeForm
  pub pools : List PoolForm
  -- the bodies of the procedures that it declares
  pub bodies : List BodyForm
  pub formals : List FormalMode
  pub variables : List VariableForm
  pub texts : List (List ℕ)
  pub exceptions : List (List ℕ)
  pub declarations : List DeclarationForm
  pub statements : StmtsForm
  pub handlers : HandlersForm
  pub start_spot : Spot
  pub end_spot : Spot

-- No place in the text.
abbrev pub nowhere : Spot
nowhere = record { line = 0; column = 0 }

-- A declared component, as the program keeps it.
abbrev pub part_form : Part → PartForm
part_form p = record { name = string_bytes p.name; kind = p.kind; first = p.first.0; part = p.part.0 }

-- The number of a pool, where there is one.
abbrev pub pool_number : Option PoolNo → Option ℕ
pool_number None = None
pool_number (Some pool) = Some pool.0

-- A type, as the program keeps it.
abbrev pub type_form : TypeDefinition → TypeForm
type_form (definition.Record name parts components finalization) =
    record_of (string_bytes name) (map part_form parts.items) components.items finalization
type_form (definition.Access name designated pool) = access_to (string_bytes name) designated.0 (pool_number pool)
type_form (definition.Object record_type) = object_of record_type.0

-- A pool, as the program keeps it.
abbrev pub pool_form : Pool → PoolForm
pool_form p = record { name = string_bytes p.name; words = p.words }

-- A variable, as the program keeps it.
abbrev pub variable_form : Variable → VariableForm
variable_form o = record { name = string_bytes o.name; spot = o.spot; kind = o.kind; borrows = o.borrows }

-- A procedure's body, whatever the program keeps its parts in.
abbrev pub body_form : Procedure → BodyForm
body_form b = record {
  formals = b.formals.items;
  variables = map variable_form b.variables.items;
  declarations = map declaration_form b.declarations.items;
  statements = stmts_form b.statements.items;
  handlers = handlers_form b.handlers.items;
  start_spot = b.start;
  end_spot = b.end;
}

-- The bodies of the procedures that a program declares.
abbrev pub body_forms : Program → List BodyForm
body_forms p = map body_form p.procedures.items

-- A program, whatever it keeps its parts in.
abbrev pub program_form : Program → ProgramForm
program_form p = record {
  types = map type_form p.types.items;
  pools = map pool_form p.pools.items;
  bodies = body_forms p;
  formals = [];
  variables = map variable_form p.variables.items;
  texts = map string_bytes p.texts.items;
  exceptions = map string_bytes p.exceptions.items;
  declarations = declaration_forms p;
  statements = stmt_forms p;
  handlers = handler_forms p;
  start_spot = nowhere;
  end_spot = nowhere;
}

-- The main procedure's body.
abbrev pub main_body : ProgramForm → BodyForm
main_body p = record {
  formals = p.formals;
  variables = p.variables;
  declarations = p.declarations;
  statements = p.statements;
  handlers = p.handlers;
  start_spot = p.start_spot;
  end_spot = p.end_spot;
}

-- A program as the body of a procedure sees it: that body stands for the main one, and the procedures before it are those that it may call.
abbrev pub seen_by : (number : ℕ) → BodyForm → ProgramForm → ProgramForm
seen_by number b p = record p {
  bodies = take number p.bodies;
  formals = b.formals;
  variables = b.variables;
  declarations = b.declarations;
  statements = b.statements;
  handlers = b.handlers;
  start_spot = b.start_spot;
  end_spot = b.end_spot;
}

-- As the procedure of a number sees it, where there is one.
abbrev pub seen_at : (number : ℕ) → Option BodyForm → ProgramForm → ProgramForm
seen_at number None p = p
seen_at number (Some b) p = seen_by number b p

-- As a body sees it: that of a procedure, or the main one.
abbrev pub seen_in : (procedure : Option ℕ) → ProgramForm → ProgramForm
seen_in None p = p
seen_in (Some number) p = seen_at number (slice_get p.bodies number) p
