-- A program that meets the premises of the laws, in which an assignment calls a Finalize that touches storage. With its run.

use Rattle.std.proofs.Common.{◌≡◌, List, [], ◌∷◌, ◌++◌, refl, arith, ℕ}
use Rattle.std.specs.Prelude.{None}
use Rattle.ada_program.specs.declared.program.Declaration.TheVariants as declaration
use Rattle.ada_program.specs.declared.program.FormalMode.TheVariants.{InOut}
use Rattle.ada_program.specs.declared.program.Item.TheVariants as item
use Rattle.ada_program.specs.declared.program.PartKind.TheVariants as part
use Rattle.ada_program.specs.declared.program.Procedure.{Procedure}
use Rattle.ada_program.specs.declared.program.Program.{Program}
use Rattle.ada_program.specs.declared.program.RecordPath.{RecordPath}
use Rattle.ada_program.specs.declared.program.Stmt as stmt
use Rattle.ada_program.specs.declared.program.TypeDefinition.{TypeDefinition}
use Rattle.ada_program.specs.declared.program.TypeDefinition.TheVariants as definition
use Rattle.ada_program.specs.Controlled.{operations_of}
use Rattle.ada_program.specs.Form.{declaration_forms, stmt_forms, no_handlers, statement_rules}
use Rattle.ada_program.specs.ProgramForm.{body_forms}
use Rattle.ada_flow.specs.Flow.{uses_in}
use Rattle.ada_meaning.specs.declared.event.Halt.TheVariants.{Finished}
use Rattle.ada_meaning.specs.Named.{next}
use Rattle.ada_meaning.specs.Run.{takes}
use Rattle.ada_sound.specs.Always.{IsChecked, FinishesAfter}
use Rattle.ada_sound.specs.OperationExamples.{tidying_operations, overwriting_finalize, overwriting_declarations, overwriting_stmts, overwriting_events}
use Rattle.ada_sound.proofs.Choices.{accepted_in, halts_after_in}
use Rattle.ada_sound.proofs.Example.{steps, vec, spot, link}
use Rattle.ada_sound.proofs.ExampleOwners.{record_of, access_to, an_integer, whole}
use Rattle.ada_sound.proofs.ExampleRecords.{object, record_at, of_object_type}
use Rattle.ada_sound.proofs.ExampleOperations.{controlled_type, of_kind}

-- type Cell is record Value : Integer; end record; type Link is access Cell; Tally; and what X, Y and the formal parameter are known by.
abbrev overwriting_types : List TypeDefinition
overwriting_types =
    record_of (an_integer ∷ []) (omega arith)
    ∷ access_to 0
    ∷ controlled_type (of_kind part.Parent 0 0 ∷ of_kind (part.Elementary an_integer) 0 1 ∷ []) (omega arith) (an_integer ∷ []) (omega arith) tidying_operations
    ∷ definition.Object (record { 0 = 2 })
    ∷ definition.Object (record { 0 = 2 })
    ∷ definition.Object (record { 0 = 2 })
    ∷ []

-- procedure Finalize (T : in out Tally) is C : Link; begin Free (C); end Finalize;
abbrev overwriting_procedure : Procedure
overwriting_procedure = record {
  formals = vec (InOut ∷ []) (omega arith);
  variables = vec (of_object_type 5 ∷ link ∷ []) (omega arith);
  declarations = vec (declaration.Variable (record { 0 = 1 }) None ∷ []) (omega arith);
  statements = vec (stmt.Free (record { 0 = 1 }) (whole 1) ∷ []) (omega arith);
  handlers = vec [] (omega arith);
  start = spot;
  end = spot;
}

-- The record of type Tally that a variable is.
abbrev tally_at : ℕ → RecordPath
tally_at x = record (record_at (object x)) { «record» = record { 0 = 2 } }

-- X : Tally; Y : Tally; begin X := Y;
abbrev pub overwriting : Program
overwriting = record {
  types = vec overwriting_types (omega arith);
  pools = vec [] (omega arith);
  procedures = vec (overwriting_procedure ∷ []) (omega arith);
  variables = vec (of_object_type 3 ∷ of_object_type 4 ∷ []) (omega arith);
  texts = vec [] (omega arith);
  exceptions = vec [] (omega arith);
  declarations = vec
      (declaration.Collection (record { 0 = 1 }) ∷ declaration.Record (record { 0 = 0 }) (record { 0 = 3 }) None ∷ declaration.Record (record { 0 = 1 }) (record { 0 = 4 }) None ∷ [])
      (omega arith);
  statements = vec (stmt.AssignRecord (tally_at 0) (vec (item.Record (tally_at 1) ∷ []) (omega arith)) ∷ []) (omega arith);
  handlers = vec [] (omega arith);
}

pub overwriting_overrides : operations_of overwriting.types.items 0 ≡ tidying_operations
overwriting_overrides = refl

pub overwriting_bodies : body_forms overwriting ≡ overwriting_finalize ∷ []
overwriting_bodies = simp statement_rules

pub overwriting_declares : declaration_forms overwriting ≡ overwriting_declarations
overwriting_declares = refl

pub overwriting_form : stmt_forms overwriting ≡ overwriting_stmts
overwriting_form = simp statement_rules

pub overwriting_accepted : IsChecked overwriting
unfolding uses_in
overwriting_accepted =
    accepted_in overwriting (overwriting_finalize ∷ []) overwriting_stmts no_handlers overwriting_bodies overwriting_form refl _ _ refl refl refl

-- Y is picked at the leaving of the main procedure, and then X.
pub overwrites : FinishesAfter overwriting_events overwriting
unfolding next
overwrites =
    halts_after_in overwriting (overwriting_finalize ∷ []) overwriting_stmts no_handlers overwriting_bodies overwriting_form refl []
    (steps 31 ++ takes 0 ∷ steps 16 ++ takes 0 ∷ steps 18) overwriting_events Finished refl refl refl
