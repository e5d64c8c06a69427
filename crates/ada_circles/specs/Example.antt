-- Four programs with controlled types whose Finalize is overridden, and creates an object with controlled parts.

use Rattle.std.specs.Prelude.{ℕ, false, List, [], ◌∷◌, Some, None}
use Rattle.ada_text.specs.declared.spot.Spot.{Spot}
use Rattle.ada_program.specs.declared.program.FormalMode.TheVariants.{InOut}
use Rattle.ada_program.specs.declared.program.Operations.{Operations}
use Rattle.ada_program.specs.declared.program.PartKind.TheVariants as part
use Rattle.ada_program.specs.declared.program.ProcedureNo.{ProcedureNo}
use Rattle.ada_program.specs.declared.program.VariableKind.TheVariants as variable
use Rattle.ada_program.specs.Form.{DeclarationForm, declares_record, skips, encloses, StmtsForm, no_stmts, a_stmt, no_handlers}
use Rattle.ada_program.specs.ProgramForm.{TypeForm, record_of, object_of, VariableForm, BodyForm, ProgramForm, nowhere}
use Rattle.ada_program.specs.WellFormed.{IsWellFormed}
use Rattle.ada_circles.specs.Circles.{LeadsTo, IsFirstCircle}

-- A record object that is known by this type.
abbrev pub holding : (object : ℕ) → VariableForm
holding object = record { name = []; spot = nowhere; kind = variable.Record (record { 0 = object }); borrows = false }

-- Where the body of the first procedure begins, and where that of the second does.
abbrev pub here : Spot
here = record { line = 6; column = 4 }

abbrev pub behind : Spot
behind = record { line = 10; column = 4 }

-- The body of a Finalize, which begins there, with these variables, declarations and statements.
abbrev pub body : Spot → List VariableForm → List DeclarationForm → StmtsForm → BodyForm
body spot variables declarations fs = record {
  formals = InOut ∷ [];
  variables = variables;
  declarations = declarations;
  statements = fs;
  handlers = no_handlers;
  start_spot = spot;
  end_spot = nowhere;
}

-- A procedure, by its number.
abbrev pub procedure : ℕ → ProcedureNo
procedure n = record { 0 = n }

-- The operations of a type whose Finalize is overridden by this procedure.
abbrev pub finalized_by : (number : ℕ) → Operations
finalized_by number = record { initialize = None; adjust = None; finalize = Some (procedure number) }

-- `is new Controlled with null record;`, the type of this number, whose Finalize is overridden by the procedure of that number.
abbrev pub controlled : (number : ℕ) → TypeForm
controlled number = record_of [] (record { name = []; kind = part.Parent; first = 0; part = 0 } ∷ []) []
    (Some (record { number = record { 0 = number }; parts = 1; limited = false; operations = finalized_by number }))

-- The program with these types and bodies, whose main procedure does nothing.
abbrev pub having : List TypeForm → List BodyForm → ProgramForm
having types bodies = record {
  types = types;
  pools = [];
  bodies = bodies;
  formals = [];
  variables = [];
  texts = [];
  exceptions = [];
  declarations = [];
  statements = no_stmts;
  handlers = no_handlers;
  start_spot = nowhere;
  end_spot = nowhere;
}

-- `type Box`, and what two objects of Box are known by.
abbrev pub one_type : List TypeForm
one_type = controlled 0 ∷ object_of 0 ∷ object_of 0 ∷ []

-- `type Box`, `type Chest`, and what two objects of each are known by.
abbrev pub two_types : List TypeForm
two_types = controlled 0 ∷ controlled 1 ∷ object_of 0 ∷ object_of 1 ∷ object_of 1 ∷ object_of 0 ∷ []

-- procedure Finalize (Object : in out Box) is B : Box; begin null; end Finalize;
abbrev pub declaring_body : BodyForm
declaring_body = body here (holding 1 ∷ holding 2 ∷ []) (declares_record 1 2 None ∷ []) (a_stmt skips no_stmts)

abbrev pub declaring : ProgramForm
declaring = having one_type (declaring_body ∷ [])

-- procedure Finalize (Object : in out Box) is begin declare B : Box; begin null; end; end Finalize;
abbrev pub enclosing_body : BodyForm
enclosing_body =
    body here (holding 1 ∷ holding 2 ∷ []) [] (a_stmt (encloses (declares_record 1 2 None ∷ []) (a_stmt skips no_stmts) no_handlers) no_stmts)

abbrev pub enclosing : ProgramForm
enclosing = having one_type (enclosing_body ∷ [])

-- procedure Finalize (Object : in out Box) is C : Chest; begin null; end Finalize;
abbrev pub box_body : BodyForm
box_body = body here (holding 2 ∷ holding 3 ∷ []) (declares_record 1 3 None ∷ []) (a_stmt skips no_stmts)

-- procedure Finalize (Object : in out Chest) is B : Box; begin null; end Finalize;
abbrev pub chest_body : BodyForm
chest_body = body behind (holding 4 ∷ holding 5 ∷ []) (declares_record 1 5 None ∷ []) (a_stmt skips no_stmts)

-- procedure Finalize (Object : in out Chest) is begin null; end Finalize;
abbrev pub idle_body : BodyForm
idle_body = body behind (holding 4 ∷ []) [] (a_stmt skips no_stmts)

-- Each declares an object of the other type.
abbrev pub crossing : ProgramForm
crossing = having two_types (box_body ∷ chest_body ∷ [])

-- The first one declares an object whose Finalize declares nothing.
abbrev pub passing : ProgramForm
passing = having two_types (box_body ∷ idle_body ∷ [])

-- All are well-formed.
abbrev pub ExamplesFit : Type 0
ExamplesFit = IsWellFormed declaring × IsWellFormed enclosing × IsWellFormed crossing × IsWellFormed passing

-- A Finalize leads back to itself whose own declarations hold an object of its type.
abbrev pub ItsOwnTypeIsTold : Type 0
ItsOwnTypeIsTold = IsFirstCircle declaring (Some here)

-- Two lead back to themselves, each by way of the other: the first one is told.
abbrev pub TheFirstIsTold : Type 0
TheFirstIsTold = LeadsTo crossing (procedure 0) (procedure 0) × LeadsTo crossing (procedure 1) (procedure 1) × IsFirstCircle crossing (Some here)

-- A block inside the statements may hold such an object.
abbrev pub ABlockMayDeclare : Type 0
ABlockMayDeclare = IsFirstCircle enclosing None

-- One leads to another one behind it, and not back.
abbrev pub LeadingAlonePasses : Type 0
LeadingAlonePasses = LeadsTo passing (procedure 0) (procedure 1) × IsFirstCircle passing None
