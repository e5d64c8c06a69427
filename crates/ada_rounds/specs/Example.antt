-- Three programs with a controlled type Box, one operation of which calls itself: Initialize, Adjust or Finalize.

use Rattle.std.specs.Prelude.{ℕ, true, false, List, [], ◌∷◌, Some, None}
use Rattle.ada_text.specs.declared.spot.Spot.{Spot}
use Rattle.ada_deeds.specs.Rounds.{CallsItself}
use Rattle.ada_program.specs.declared.program.FormalMode.{FormalMode}
use Rattle.ada_program.specs.declared.program.FormalMode.TheVariants.{InOut}
use Rattle.ada_program.specs.declared.program.Operations.{Operations}
use Rattle.ada_program.specs.declared.program.PartKind.TheVariants as part
use Rattle.ada_program.specs.declared.program.ProcedureNo.{ProcedureNo}
use Rattle.ada_program.specs.declared.program.VariableKind.{VariableKind}
use Rattle.ada_program.specs.declared.program.VariableKind.TheVariants as variable
use Rattle.ada_program.specs.Form.{PathForm, RecordPathForm, item_of_record, nothing, DeclarationForm, collects, declares, declares_record, skips, assigns_record, frees, calls, StmtsForm, no_stmts, a_stmt, no_handlers}
use Rattle.ada_program.specs.ProgramForm.{record_of, access_to, object_of, VariableForm, BodyForm, ProgramForm, nowhere}
use Rattle.ada_program.specs.WellFormed.{IsWellFormed}
use Rattle.ada_rounds.specs.FirstRound.{IsFirstRound}

-- A variable.
abbrev pub holding : VariableKind → VariableForm
holding kind = record { name = []; spot = nowhere; kind = kind; borrows = false }

-- A Box that is known by this type.
abbrev pub box : (object : ℕ) → VariableForm
box object = holding (variable.Record (record { 0 = object }))

-- The path to a variable.
abbrev pub variable_path : ℕ → PathForm
variable_path x = record { root = x; of_record = false; selectors = []; spot = nowhere }

-- The path to a Box.
abbrev pub box_path : ℕ → RecordPathForm
box_path x = record { object = record (variable_path x) { of_record = true }; first = 0; part = 0; record_type = 0 }

-- Where the body of the operation begins.
abbrev pub here : Spot
here = record { line = 6; column = 4 }

-- The body of a procedure with these formal parameters, variables, declarations and statements, which begins there.
abbrev pub body : List FormalMode → List VariableForm → List DeclarationForm → StmtsForm → BodyForm
body formals variables declarations fs = record {
  formals = formals;
  variables = variables;
  declarations = declarations;
  statements = fs;
  handlers = no_handlers;
  start_spot = here;
  end_spot = nowhere;
}

-- `type Box is new Controlled with null record;` `type Link is access Box;` what two objects of Box are known by, and these operations and bodies.
abbrev pub boxing : Operations → List BodyForm → ProgramForm
boxing operations bodies = record {
  types =
      record_of [] (record { name = []; kind = part.Parent; first = 0; part = 0 } ∷ []) []
      (Some (record { number = record { 0 = 0 }; parts = 1; limited = false; operations = operations }))
      ∷ access_to [] 0 None ∷ object_of 0 ∷ object_of 0 ∷ [];
  pools = [];
  bodies = bodies;
  formals = [];
  variables = [];
  texts = [];
  exceptions = [];
  declarations = collects 1 ∷ [];
  statements = no_stmts;
  handlers = no_handlers;
  start_spot = nowhere;
  end_spot = nowhere;
}

-- A procedure, by its number.
abbrev pub procedure : ℕ → ProcedureNo
procedure n = record { 0 = n }

-- procedure Make is B : Box; begin null; end Make;
abbrev pub make_body : BodyForm
make_body = body [] (box 3 ∷ []) (declares_record 0 3 None ∷ []) (a_stmt skips no_stmts)

-- procedure Initialize (Object : in out Box) is begin Make; end Initialize;
abbrev pub initialize_body : BodyForm
initialize_body = body (InOut ∷ []) (box 2 ∷ []) [] (a_stmt (calls 0 []) no_stmts)

-- The program with both.
abbrev pub initializing : ProgramForm
initializing = boxing (record { initialize = Some (procedure 1); adjust = None; finalize = None }) (make_body ∷ initialize_body ∷ [])

-- procedure Adjust (Object : in out Box) is B : Box; begin B := Object; end Adjust;
abbrev pub adjust_body : BodyForm
adjust_body =
    body (InOut ∷ []) (box 2 ∷ box 3 ∷ []) (declares_record 1 3 None ∷ []) (a_stmt (assigns_record (box_path 1) (item_of_record (box_path 0) ∷ [])) no_stmts)

-- The program with it.
abbrev pub adjusting : ProgramForm
adjusting = boxing (record { initialize = None; adjust = Some (procedure 0); finalize = None }) (adjust_body ∷ [])

-- procedure Finalize (Object : in out Box) is L : Link; begin Free (L); end Finalize;
abbrev pub finalize_body : BodyForm
finalize_body =
    body (InOut ∷ []) (box 2 ∷ holding (variable.Access (record { 0 = 1 })) ∷ []) (declares 1 nothing ∷ []) (a_stmt (frees 1 (variable_path 1)) no_stmts)

-- The program with it.
abbrev pub finalizing : ProgramForm
finalizing = boxing (record { initialize = None; adjust = None; finalize = Some (procedure 0) }) (finalize_body ∷ [])

-- All are well-formed.
abbrev pub ExamplesFit : Type 0
ExamplesFit = IsWellFormed initializing × IsWellFormed adjusting × IsWellFormed finalizing

-- The Initialize calls itself by way of Make, and is refused.
abbrev pub AnInitializeMayNot : Type 0
AnInitializeMayNot = CallsItself initializing (procedure 1) × IsFirstRound initializing (Some here)

-- The Adjust calls itself, and is refused.
abbrev pub AnAdjustMayNot : Type 0
AnAdjustMayNot = CallsItself adjusting (procedure 0) × IsFirstRound adjusting (Some here)

-- The Finalize calls itself, and is not.
abbrev pub AFinalizeMay : Type 0
AFinalizeMay = CallsItself finalizing (procedure 0) × IsFirstRound finalizing None
