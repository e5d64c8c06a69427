-- A program whose records have a controlled part: one is declared, another as a copy of it, and the second is assigned to the first.

use Rattle.ada_typed.specs.Stuck.{Finishes, AssignsParts, AWellFormedProgramAssignsParts}
use Rattle.std.proofs.Common.{◌<◌, true, false, List, [], ◌∷◌, arith, refl}
use Rattle.std.specs.Prelude.{Some, None, pos}
use Rattle.ada_program.specs.declared.program.ComponentKind.TheVariants as kind
use Rattle.ada_program.specs.declared.program.Declaration.{Declaration}
use Rattle.ada_program.specs.declared.program.Declaration.TheVariants as declaration
use Rattle.ada_program.specs.declared.program.Finalization.{Finalization}
use Rattle.ada_program.specs.declared.program.Item.TheVariants as item
use Rattle.ada_program.specs.declared.program.Part.{Part}
use Rattle.ada_program.specs.declared.program.PartKind.TheVariants as part
use Rattle.ada_program.specs.declared.program.Path.{Path}
use Rattle.ada_program.specs.declared.program.Program.{Program}
use Rattle.ada_program.specs.declared.program.RecordPath.{RecordPath}
use Rattle.ada_program.specs.declared.program.Stmt as stmt
use Rattle.ada_program.specs.declared.program.TypeDefinition.{TypeDefinition}
use Rattle.ada_program.specs.declared.program.TypeDefinition.TheVariants as definition
use Rattle.ada_program.specs.declared.program.Variable.{Variable}
use Rattle.ada_program.specs.declared.program.VariableKind.TheVariants as variable
use Rattle.ada_program.specs.Controlled.{no_operations}
use Rattle.ada_program.specs.Form.{expression_form, stmt_form}
use Rattle.ada_program.specs.ProgramForm.{program_form}
use Rattle.ada_program.specs.WellFormed.{IsWellFormed}
use Rattle.ada_meaning.specs.Named.{next}
use Rattle.ada_meaning.specs.Run.{settled, takes, here, there}
use Rattle.ada_typed.proofs.Example.{vec, no_name, spot}

-- G; H
abbrev g_path : Path
g_path = record { root = record { 0 = 0 }; selectors = vec [] (omega arith); of_record = true; spot = spot }

abbrev h_path : Path
h_path = record { root = record { 0 = 1 }; selectors = vec [] (omega arith); of_record = true; spot = spot }

abbrev g_all : RecordPath
g_all = record { object = g_path; first = record { 0 = 0 }; part = record { 0 = 0 }; «record» = record { 0 = 0 } }

abbrev h_all : RecordPath
h_all = record { object = h_path; first = record { 0 = 0 }; part = record { 0 = 0 }; «record» = record { 0 = 0 } }

-- type Guard is new Controlled with record Level : Integer := 1; end record;
abbrev parts : List Part
parts =
    record { name = no_name; kind = part.Parent; first = record { 0 = 0 }; part = record { 0 = 0 } }
    ∷ record { name = no_name; kind = part.Elementary (kind.Integer (pos 1)); first = record { 0 = 0 }; part = record { 0 = 1 } }
    ∷ []

abbrev guard : Finalization
guard = record { number = record { 0 = 0 }; parts = 1; limited = false; operations = no_operations }

abbrev types : List TypeDefinition
types =
    definition.Record no_name (vec parts (omega arith)) (vec (kind.Integer (pos 1) ∷ []) (omega arith)) (Some guard)
    ∷ definition.Object (record { 0 = 0 })
    ∷ definition.Object (record { 0 = 0 })
    ∷ []

-- G : Guard; H : Guard := G;
abbrev variables : List Variable
variables =
    record { name = no_name; spot = spot; kind = variable.Record (record { 0 = 1 }); borrows = false }
    ∷ record { name = no_name; spot = spot; kind = variable.Record (record { 0 = 2 }); borrows = false }
    ∷ []

abbrev declarations : List Declaration
declarations =
    declaration.Record (record { 0 = 0 }) (record { 0 = 1 }) None
    ∷ declaration.Record (record { 0 = 1 }) (record { 0 = 2 }) (Some (vec (item.Record g_all ∷ []) (omega arith)))
    ∷ []

-- G := H;
abbrev program : Program
program = record {
  types = vec types (omega arith);
  pools = vec [] (omega arith);
  procedures = vec [] (omega arith);
  variables = vec variables (omega arith);
  texts = vec [] (omega arith);
  exceptions = vec [] (omega arith);
  declarations = vec declarations (omega arith);
  statements = vec (stmt.AssignRecord g_all (vec (item.Record h_all ∷ []) (omega arith)) ∷ []) (omega arith);
  handlers = vec [] (omega arith);
}

well_formed : IsWellFormed (program_form program)
unfolding expression_form stmt_form
well_formed = record {
  types_fit = refl;
  components_lie = refl;
  operations_fit = refl;
  pools_fit = refl;
  variables_fit = refl;
  creates_in_order = refl;
  collections_first = refl;
  collections_fit = refl;
  has_one_each = refl;
  initials_fit = refl;
  statements_fit = refl;
  handlers_fit = refl;
  bodies_fit = refl;
}

-- A record object is the one member of its item.
some_member : 0 < 1
some_member = omega arith

assigns_parts : AssignsParts program
unfolding next expression_form stmt_form
assigns_parts = ([], _, _, _, _, there settled _ (refl, refl) (there settled _ (refl, refl) (there settled _ (refl, refl) (there settled _ (refl, refl) (there settled _ (refl, refl) (there settled _ (refl, refl) (there settled _ (refl, refl) (there settled _ (refl, refl) (there settled _ (refl, refl) (there settled _ (refl, refl) (there settled _ (refl, refl) (there settled _ (refl, refl) (there settled _ (refl, refl) (there settled _ (refl, refl) here))))))))))))), refl, refl)

finishes : Finishes program
unfolding next expression_form stmt_form
finishes = ([], _, _, there settled _ (refl, refl) (there settled _ (refl, refl) (there settled _ (refl, refl) (there settled _ (refl, refl) (there settled _ (refl, refl) (there settled _ (refl, refl) (there settled _ (refl, refl) (there settled _ (refl, refl) (there settled _ (refl, refl) (there settled _ (refl, refl) (there settled _ (refl, refl) (there settled _ (refl, refl) (there settled _ (refl, refl) (there settled _ (refl, refl) (there settled _ (refl, refl) (there settled _ (refl, refl) (there settled _ (refl, refl) (there settled _ (refl, refl) (there settled _ (refl, refl) (there settled _ (refl, refl) (there settled _ (refl, refl) (there settled _ (refl, refl) (there (takes 0) _ (some_member, refl, refl) (there settled _ (refl, refl) (there settled _ (refl, refl) (there settled _ (refl, refl) (there settled _ (refl, refl) (there (takes 0) _ (some_member, refl, refl) (there settled _ (refl, refl) (there settled _ (refl, refl) (there settled _ (refl, refl) (there settled _ (refl, refl) (there settled _ (refl, refl) here)))))))))))))))))))))))))))))))), refl)

pub assigns : AWellFormedProgramAssignsParts
assigns = (program, well_formed, assigns_parts, finishes)
