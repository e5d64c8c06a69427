-- A program with controlled record types, and a run of it.

use Rattle.std.proofs.Common.{◌≡◌, ℕ, true, false, List, [], ◌∷◌, ◌++◌, refl, arith}
use Rattle.std.specs.Prelude.{Some, None, pos}
use Rattle.std.specs.List.{filter}
use Rattle.ada_program.specs.declared.program.Item.TheVariants as item
use Rattle.ada_program.specs.declared.program.RecordPath.{RecordPath}
use Rattle.ada_program.specs.declared.program.Right.TheVariants as right
use Rattle.ada_program.specs.declared.program.Stmt.{Stmt}
use Rattle.ada_program.specs.declared.program.Stmt as stmt
use Rattle.ada_program.specs.declared.program.ComponentKind.TheVariants as component
use Rattle.ada_program.specs.declared.program.Operations.{Operations}
use Rattle.ada_program.specs.declared.program.Part.{Part}
use Rattle.ada_program.specs.declared.program.PartKind.{PartKind}
use Rattle.ada_program.specs.declared.program.PartKind.TheVariants as part
use Rattle.ada_program.specs.declared.program.TypeDefinition.{TypeDefinition}
use Rattle.ada_program.specs.declared.program.TypeDefinition.TheVariants as definition
use Rattle.ada_program.specs.declared.program.Declaration.{Declaration}
use Rattle.ada_program.specs.declared.program.Declaration.TheVariants as declaration
use Rattle.ada_program.specs.declared.program.Variable.{Variable}
use Rattle.ada_program.specs.declared.program.VariableKind.TheVariants as variable
use Rattle.ada_program.specs.declared.program.Program.{Program}
use Rattle.ada_program.specs.Controlled.{no_operations, shapes_of}
use Rattle.ada_program.specs.Form.{stmt_form, expression_form, stmt_forms, statement_rules}
use Rattle.ada_meaning.specs.declared.event.Halt.TheVariants.{Finished}
use Rattle.ada_meaning.specs.Named.{next}
use Rattle.ada_meaning.specs.Run.{Choice, grants, takes, Halts}
use Rattle.ada_order.specs.Example.{InSomeRun, is_seen}
use Rattle.ada_order.proofs.Choices.{run_by}
use Rattle.ada_order.proofs.Example.{steps, vec, no_name, spot, path}
use Rattle.ada_finalized.specs.Example.{controlled_shapes, controlled_stmts, controlled_events}

-- A component, the parent part among them; and a controlled type with one more, by its number among those and how many controlled parts it has.
abbrev of_kind : PartKind → ℕ → Part
of_kind kind number = record { name = no_name; kind = kind; first = record { 0 = 0 }; part = record { 0 = number } }

abbrev pub controlled_with : PartKind → (number count : ℕ) → Operations → TypeDefinition
controlled_with kind number count operations =
    definition.Record no_name (vec (of_kind part.Parent 0 ∷ of_kind kind 1 ∷ []) (omega arith)) (vec (component.Integer (pos 0) ∷ []) (omega arith))
    (Some (record { number = record { 0 = number }; parts = count; limited = false; operations = operations }))

abbrev types : List TypeDefinition
types =
    controlled_with (part.Elementary (component.Integer (pos 0))) 0 1 no_operations
    ∷ controlled_with (part.Record (record { 0 = 0 })) 1 2 no_operations
    ∷ definition.Access no_name (record { 0 = 1 }) None
    ∷ definition.Object (record { 0 = 1 })
    ∷ definition.Object (record { 0 = 1 })
    ∷ []

-- X : Outer; Y : Outer; P : Outer_Access;
abbrev variables : List Variable
variables =
    record { name = no_name; spot = spot; kind = variable.Record (record { 0 = 3 }); borrows = false }
    ∷ record { name = no_name; spot = spot; kind = variable.Record (record { 0 = 4 }); borrows = false }
    ∷ record { name = no_name; spot = spot; kind = variable.Access (record { 0 = 2 }); borrows = false }
    ∷ []

-- A record object as a whole.
abbrev pub whole : ℕ → RecordPath
whole x = record {
  object = record { root = record { 0 = x }; of_record = true; selectors = vec [] (omega arith); spot = spot };
  first = record { 0 = 0 };
  part = record { 0 = 0 };
  «record» = record { 0 = 1 };
}

abbrev declarations : List Declaration
declarations =
    declaration.Collection (record { 0 = 2 })
    ∷ declaration.Record (record { 0 = 0 }) (record { 0 = 3 }) None
    ∷ declaration.Record (record { 0 = 1 }) (record { 0 = 4 }) (Some (vec (item.Record (whole 0) ∷ []) (omega arith)))
    ∷ declaration.Variable (record { 0 = 2 }) None
    ∷ []

abbrev statements : List Stmt
statements =
    stmt.Assign (path 2) (right.Default (record { 0 = 2 }))
    ∷ stmt.AssignRecord (whole 0) (vec (item.Record (whole 1) ∷ []) (omega arith))
    ∷ stmt.Free (record { 0 = 2 }) (path 2)
    ∷ []

abbrev block : Stmt
block = stmt.Block (vec declarations (omega arith)) (vec statements (omega arith)) (vec [] (omega arith))

abbrev pub program : Program
program = record {
  types = vec types (omega arith);
  pools = vec [] (omega arith);
  procedures = vec [] (omega arith);
  variables = vec variables (omega arith);
  texts = vec [] (omega arith);
  exceptions = vec [] (omega arith);
  declarations = vec [] (omega arith);
  statements = vec (block ∷ []) (omega arith);
  handlers = vec [] (omega arith);
}

pub shapes : shapes_of program.types.items ≡ controlled_shapes
shapes = refl

pub form : stmt_forms program ≡ controlled_stmts
form = simp statement_rules

-- The component of each object is picked wherever the object is treated; Y and X are picked at the leaving.
abbrev pub choices : List Choice
choices =
    steps 4 ++ takes 0 ∷ steps 7 ++ takes 0 ∷ steps 8 ++ grants true ∷ takes 0 ∷ steps 10 ++ takes 0 ∷ steps 3 ++ takes 0 ∷ steps 4 ++ takes 0 ∷ steps 8
    ++ takes 0 ∷ steps 1 ++ takes 0 ∷ steps 4 ++ takes 0 ∷ steps 1 ++ takes 0 ∷ steps 10

pub finishes : InSomeRun program (λ events last. Halts program last Finished × (filter is_seen events ≡ controlled_events))
unfolding next expression_form stmt_form
finishes = run_by program [] controlled_stmts refl form choices (λ events last. Halts program last Finished × (filter is_seen events ≡ controlled_events)) refl (refl, refl)
