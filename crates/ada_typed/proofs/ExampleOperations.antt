-- A program whose type overrides Finalize: a record of the type is declared, and the body of Finalize runs as the main procedure is left.

use Rattle.ada_typed.specs.Stuck.{Finishes, RunsFinalize, AWellFormedProgramCallsFinalize}
use Rattle.std.proofs.Common.{◌<◌, ℕ, false, true, List, [], ◌∷◌, arith, refl}
use Rattle.std.specs.Prelude.{Some, None, pos}
use Rattle.ada_program.specs.declared.program.ComponentKind.TheVariants as kind
use Rattle.ada_program.specs.declared.program.Declaration.TheVariants as declaration
use Rattle.ada_program.specs.declared.program.Expression.{Path as Reads}
use Rattle.ada_program.specs.declared.program.Finalization.{Finalization}
use Rattle.ada_program.specs.declared.program.FormalMode.TheVariants.{InOut}
use Rattle.ada_program.specs.declared.program.Part.{Part}
use Rattle.ada_program.specs.declared.program.PartKind.TheVariants as part
use Rattle.ada_program.specs.declared.program.Path.{Path}
use Rattle.ada_program.specs.declared.program.Procedure.{Procedure}
use Rattle.ada_program.specs.declared.program.Program.{Program}
use Rattle.ada_program.specs.declared.program.Stmt as stmt
use Rattle.ada_program.specs.declared.program.TypeDefinition.{TypeDefinition}
use Rattle.ada_program.specs.declared.program.TypeDefinition.TheVariants as definition
use Rattle.ada_program.specs.declared.program.Variable.{Variable}
use Rattle.ada_program.specs.declared.program.VariableKind.TheVariants as variable
use Rattle.ada_program.specs.Form.{expression_form, stmt_form}
use Rattle.ada_program.specs.ProgramForm.{program_form}
use Rattle.ada_program.specs.WellFormed.{IsWellFormed}
use Rattle.ada_meaning.specs.Named.{next}
use Rattle.ada_meaning.specs.Run.{settled, takes, here, there}
use Rattle.ada_typed.proofs.Example.{vec, no_name, spot}

-- type Guard is new Controlled with record Level : Integer := 1; end record;
abbrev parts : List Part
parts =
    record { name = no_name; kind = part.Parent; first = record { 0 = 0 }; part = record { 0 = 0 } }
    ∷ record { name = no_name; kind = part.Elementary (kind.Integer (pos 1)); first = record { 0 = 0 }; part = record { 0 = 1 } }
    ∷ []

abbrev guard : Finalization
guard = record {
  number = record { 0 = 0 };
  parts = 1;
  limited = false;
  operations = record { initialize = None; adjust = None; finalize = Some (record { 0 = 0 }) };
}

-- What the formal parameter is known by, and G.
abbrev types : List TypeDefinition
types =
    definition.Record no_name (vec parts (omega arith)) (vec (kind.Integer (pos 1) ∷ []) (omega arith)) (Some guard)
    ∷ definition.Object (record { 0 = 0 })
    ∷ definition.Object (record { 0 = 0 })
    ∷ []

-- The formal parameter, or G.
abbrev known_by : (object_type : ℕ) → Variable
known_by t = record { name = no_name; spot = spot; kind = variable.Record (record { 0 = t }); borrows = false }

-- T.Level
abbrev level : Path
level = record { root = record { 0 = 0 }; selectors = vec (record { 0 = 0 } ∷ []) (omega arith); of_record = true; spot = spot }

-- overriding procedure Finalize (T : in out Guard) is begin Put_Line (Integer'Image (T.Level)); end Finalize;
abbrev finalize : Procedure
finalize = record {
  formals = vec (InOut ∷ []) (omega arith);
  variables = vec (known_by 1 ∷ []) (omega arith);
  declarations = vec [] (omega arith);
  statements = vec (stmt.PutImage (Reads level) ∷ []) (omega arith);
  handlers = vec [] (omega arith);
  start = spot;
  end = spot;
}

-- G : Guard;
abbrev program : Program
program = record {
  types = vec types (omega arith);
  pools = vec [] (omega arith);
  procedures = vec (finalize ∷ []) (omega arith);
  variables = vec (known_by 2 ∷ []) (omega arith);
  texts = vec [] (omega arith);
  exceptions = vec [] (omega arith);
  declarations = vec (declaration.Record (record { 0 = 0 }) (record { 0 = 2 }) None ∷ []) (omega arith);
  statements = vec (stmt.Null ∷ []) (omega arith);
  handlers = vec [] (omega arith);
}

well_formed : IsWellFormed (program_form program)
unfolding expression_form stmt_form
well_formed = record {
  types_fit = refl;
  components_lie = refl;
  operations_fit = refl;
  pools_fit = refl;
  variables_fit = refl;
  creates_in_order = refl;
  collections_first = refl;
  collections_fit = refl;
  has_one_each = refl;
  initials_fit = refl;
  statements_fit = refl;
  handlers_fit = refl;
  bodies_fit = refl;
}

-- A record object is the one member of its item.
some_member : 0 < 1
some_member = omega arith

runs_finalize : RunsFinalize program
unfolding next expression_form stmt_form
runs_finalize = ([], _, _, 0, guard, record { 0 = 0 }, there settled _ (refl, refl) (there settled _ (refl, refl) (there settled _ (refl, refl) (there settled _ (refl, refl) (there settled _ (refl, refl) (there settled _ (refl, refl) (there settled _ (refl, refl) (there (takes 0) _ (some_member, refl, refl) (there settled _ (refl, refl) (here))))))))), refl, refl, refl)

finishes : Finishes program
unfolding next expression_form stmt_form
finishes = ([], _, _, there settled _ (refl, refl) (there settled _ (refl, refl) (there settled _ (refl, refl) (there settled _ (refl, refl) (there settled _ (refl, refl) (there settled _ (refl, refl) (there settled _ (refl, refl) (there (takes 0) _ (some_member, refl, refl) (there settled _ (refl, refl) (there settled _ (refl, refl) (there settled _ (refl, refl) (there settled _ (refl, refl) (there settled _ (refl, refl) (there settled _ (refl, refl) (there settled _ (refl, refl) (there settled _ (refl, refl) (there settled _ (refl, refl) (there settled _ (refl, refl) (there settled _ (refl, refl) (there settled _ (refl, refl) (there settled _ (refl, refl) (there settled _ (refl, refl) (there settled _ (refl, refl) (here))))))))))))))))))))))), refl)

pub calls_finalize : AWellFormedProgramCallsFinalize
calls_finalize = (program, well_formed, runs_finalize, finishes)
