-- A program that gets stuck: its path names a record by the component of one and the controlled part of another.

use Rattle.ada_typed.specs.Stuck.{GetsStuck, AMixedPathGetsStuck}
use Rattle.std.proofs.Common.{◌≡◌, ◌<◌, ℕ, false, true, List, [], ◌∷◌, arith, refl}
use Rattle.std.specs.Prelude.{Some, None, pos}
use Rattle.ada_program.specs.declared.program.ComponentKind.TheVariants as kind
use Rattle.ada_program.specs.declared.program.Declaration.TheVariants as declaration
use Rattle.ada_program.specs.declared.program.Expression.{Path as Reads}
use Rattle.ada_program.specs.declared.program.Finalization.{Finalization}
use Rattle.ada_program.specs.declared.program.FormalMode.TheVariants.{InOut}
use Rattle.ada_program.specs.declared.program.Part.{Part}
use Rattle.ada_program.specs.declared.program.PartKind.TheVariants as part
use Rattle.ada_program.specs.declared.program.Path.{Path}
use Rattle.ada_program.specs.declared.program.Procedure.{Procedure}
use Rattle.ada_program.specs.declared.program.Program.{Program}
use Rattle.ada_program.specs.declared.program.Stmt as stmt
use Rattle.ada_program.specs.declared.program.Item.TheVariants as item
use Rattle.ada_program.specs.declared.program.RecordPath.{RecordPath}
use Rattle.ada_program.specs.declared.program.Operations.{Operations}
use Rattle.ada_program.specs.declared.program.TypeDefinition.{TypeDefinition}
use Rattle.ada_program.specs.declared.program.TypeDefinition.TheVariants as definition
use Rattle.ada_program.specs.declared.program.Variable.{Variable}
use Rattle.ada_program.specs.declared.program.VariableKind.TheVariants as variable
use Rattle.ada_program.specs.Form.{expression_form, stmt_form, record_path_form, item_of_record}
use Rattle.ada_program.specs.ProgramForm.{program_form}
use Rattle.ada_program.specs.WellFormed.{is_record_path}
use Rattle.ada_meaning.specs.Named.{next}
use Rattle.ada_meaning.specs.Run.{settled, takes, here, there}
use Rattle.ada_typed.proofs.Example.{vec, no_name, spot}

-- type Guard is new Controlled with record Level : Integer := 1; end record;
abbrev parts : List Part
parts =
    record { name = no_name; kind = part.Parent; first = record { 0 = 0 }; part = record { 0 = 0 } }
    ∷ record { name = no_name; kind = part.Elementary (kind.Integer (pos 1)); first = record { 0 = 0 }; part = record { 0 = 1 } }
    ∷ []

abbrev guard : Finalization
guard = record {
  number = record { 0 = 0 };
  parts = 1;
  limited = false;
  operations = record { initialize = None; adjust = Some (record { 0 = 0 }); finalize = None };
}

abbrev none : Operations
none = record { initialize = None; adjust = None; finalize = None }

-- What the formal parameter is known by, and G.
abbrev types : List TypeDefinition
types =
    definition.Record no_name (vec parts (omega arith)) (vec (kind.Integer (pos 1) ∷ []) (omega arith)) (Some guard)
    ∷ definition.Object (record { 0 = 0 })
    ∷ definition.Record no_name (vec (record { name = no_name; kind = part.Parent; first = record { 0 = 0 }; part = record { 0 = 0 } } ∷ record { name = no_name; kind = part.Elementary (kind.Boolean true); first = record { 0 = 0 }; part = record { 0 = 1 } } ∷ []) (omega arith)) (vec (kind.Boolean true ∷ []) (omega arith)) (Some (record { number = record { 0 = 1 }; parts = 1; limited = false; operations = none }))
    ∷ definition.Record no_name (vec (record { name = no_name; kind = part.Record (record { 0 = 0 }); first = record { 0 = 0 }; part = record { 0 = 0 } } ∷ record { name = no_name; kind = part.Record (record { 0 = 2 }); first = record { 0 = 1 }; part = record { 0 = 1 } } ∷ []) (omega arith)) (vec (kind.Integer (pos 1) ∷ kind.Boolean true ∷ []) (omega arith)) (Some (record { number = record { 0 = 2 }; parts = 2; limited = false; operations = none }))
    ∷ definition.Object (record { 0 = 3 })
    ∷ definition.Object (record { 0 = 0 })
    ∷ []

-- The formal parameter, or G.
abbrev known_by : (object_type : ℕ) → Variable
known_by t = record { name = no_name; spot = spot; kind = variable.Record (record { 0 = t }); borrows = false }

-- T.Level
abbrev level : Path
level = record { root = record { 0 = 0 }; selectors = vec (record { 0 = 0 } ∷ []) (omega arith); of_record = true; spot = spot }

-- overriding procedure Finalize (T : in out Guard) is begin Put_Line (Integer'Image (T.Level)); end Finalize;
abbrev finalize : Procedure
finalize = record {
  formals = vec (InOut ∷ []) (omega arith);
  variables = vec (known_by 1 ∷ []) (omega arith);
  declarations = vec [] (omega arith);
  statements = vec (stmt.PutImage (Reads level) ∷ []) (omega arith);
  handlers = vec [] (omega arith);
  start = spot;
  end = spot;
}

-- X.A, but with the number of the controlled part X.B
abbrev x_a : RecordPath
x_a = record { object = record { root = record { 0 = 0 }; selectors = vec [] (omega arith); of_record = true; spot = spot }; first = record { 0 = 0 }; part = record { 0 = 1 }; «record» = record { 0 = 0 } }

abbrev y_all : RecordPath
y_all = record { object = record { root = record { 0 = 1 }; selectors = vec [] (omega arith); of_record = true; spot = spot }; first = record { 0 = 0 }; part = record { 0 = 0 }; «record» = record { 0 = 0 } }

-- X.A := Y;
abbrev program : Program
program = record {
  types = vec types (omega arith);
  pools = vec [] (omega arith);
  procedures = vec (finalize ∷ []) (omega arith);
  variables = vec (known_by 4 ∷ known_by 5 ∷ []) (omega arith);
  texts = vec [] (omega arith);
  exceptions = vec [] (omega arith);
  declarations = vec (declaration.Record (record { 0 = 0 }) (record { 0 = 4 }) None ∷ declaration.Record (record { 0 = 1 }) (record { 0 = 5 }) None ∷ []) (omega arith);
  statements = vec (stmt.AssignRecord x_a (vec (item.Record y_all ∷ []) (omega arith)) ∷ []) (omega arith);
  handlers = vec [] (omega arith);
}

-- A record object is the one member of its item.
some_member : 0 < 1
some_member = omega arith

two_members : 0 < 2
two_members = omega arith

gets_stuck : GetsStuck program
unfolding next expression_form stmt_form
gets_stuck = ([], _, _, there settled _ (refl, refl) (there (takes 0) _ (two_members, refl, refl) (there settled _ (refl, refl) (there (takes 0) _ (some_member, refl, refl) (there settled _ (refl, refl) (there settled _ (refl, refl) (there settled _ (refl, refl) (there settled _ (refl, refl) (there settled _ (refl, refl) (there settled _ (refl, refl) (there settled _ (refl, refl) (there settled _ (refl, refl) (there settled _ (refl, refl) (there settled _ (refl, refl) (there settled _ (refl, refl) (there settled _ (refl, refl) (there settled _ (refl, refl) (there settled _ (refl, refl) (there settled _ (refl, refl) (there settled _ (refl, refl) (there settled _ (refl, refl) (here))))))))))))))))))))), refl)

pub mixed_gets_stuck : AMixedPathGetsStuck
unfolding expression_form stmt_form
mixed_gets_stuck = (program, record_path_form x_a, item_of_record (record_path_form y_all) ∷ [], refl, (refl, refl), gets_stuck)

-- The walk to the record finds another one there.
is_no_path : is_record_path (program_form program).types (program_form program).variables (record_path_form x_a) ≡ false
is_no_path = refl
