-- A program that meets the premises of the laws, which allocates objects whose Finalize frees what they own: one is freed, and one goes with its collection. With its
-- run.

use Rattle.std.proofs.Common.{◌≡◌, true, List, [], ◌∷◌, ◌++◌, refl, arith}
use Rattle.std.specs.Prelude.{Some}
use Rattle.ada_program.specs.declared.program.Declaration.TheVariants as declaration
use Rattle.ada_program.specs.declared.program.Procedure.{Procedure}
use Rattle.ada_program.specs.declared.program.Program.{Program}
use Rattle.ada_program.specs.declared.program.Right.TheVariants as right
use Rattle.ada_program.specs.declared.program.Stmt as stmt
use Rattle.ada_program.specs.declared.program.TypeDefinition.{TypeDefinition}
use Rattle.ada_program.specs.declared.program.TypeDefinition.TheVariants as definition
use Rattle.ada_program.specs.Controlled.{operations_of}
use Rattle.ada_program.specs.Form.{declaration_forms, stmt_forms, no_handlers, statement_rules}
use Rattle.ada_program.specs.ProgramForm.{body_forms}
use Rattle.ada_flow.specs.Flow.{uses_in}
use Rattle.ada_meaning.specs.declared.event.Halt.TheVariants.{Finished}
use Rattle.ada_meaning.specs.Named.{next}
use Rattle.ada_meaning.specs.Run.{grants, takes}
use Rattle.ada_sound.specs.Always.{IsChecked, FinishesAfter}
use Rattle.ada_sound.specs.OperationExamples.{tidying_operations, boxing_finalize, boxing_declarations, boxing_stmts, boxing_events}
use Rattle.ada_sound.proofs.Choices.{accepted_in, halts_after_in}
use Rattle.ada_sound.proofs.Example.{steps, vec}
use Rattle.ada_sound.proofs.ExampleOwners.{record_of, access_to, an_integer, of_access, whole, part as component}
use Rattle.ada_sound.proofs.ExampleRecords.{of_object}
use Rattle.ada_sound.proofs.ExampleOperations.{operation}
use Rattle.ada_sound.proofs.ExampleTidying.{holder_type}

-- type Cell is record Value : Integer; end record; type Link is access Cell; Holder; type Chest is access Holder; and what the formal parameter is known by.
abbrev boxing_types : List TypeDefinition
boxing_types =
    record_of (an_integer ∷ []) (omega arith)
    ∷ access_to 0
    ∷ holder_type tidying_operations
    ∷ access_to 2
    ∷ definition.Object (record { 0 = 2 })
    ∷ []

-- Free (H.Head);
abbrev boxing_procedure : Procedure
boxing_procedure = operation 4 (stmt.Free (record { 0 = 1 }) (of_object 0 0) ∷ []) (omega arith) [] (omega arith)

-- C : Chest := new Holder; begin C.Head := new Cell; Free (C); C := new Holder;
abbrev pub boxing : Program
boxing = record {
  types = vec boxing_types (omega arith);
  pools = vec [] (omega arith);
  procedures = vec (boxing_procedure ∷ []) (omega arith);
  variables = vec (of_access 3 ∷ []) (omega arith);
  texts = vec [] (omega arith);
  exceptions = vec [] (omega arith);
  declarations = vec (declaration.Collection (record { 0 = 1 }) ∷ declaration.Collection (record { 0 = 3 }) ∷ declaration.Variable (record { 0 = 0 }) (Some (right.Default (record { 0 = 3 }))) ∷ []) (omega arith);
  statements = vec (stmt.Assign (component 0 0) (right.Default (record { 0 = 1 })) ∷ stmt.Free (record { 0 = 3 }) (whole 0) ∷ stmt.Assign (whole 0) (right.Default (record { 0 = 3 })) ∷ []) (omega arith);
  handlers = vec [] (omega arith);
}

pub boxing_overrides : operations_of boxing.types.items 0 ≡ tidying_operations
boxing_overrides = refl

pub boxing_has : body_forms boxing ≡ boxing_finalize ∷ []
boxing_has = simp statement_rules

pub boxing_declares : declaration_forms boxing ≡ boxing_declarations
boxing_declares = refl

pub boxing_does : stmt_forms boxing ≡ boxing_stmts
boxing_does = simp statement_rules

pub boxing_accepted : IsChecked boxing
unfolding uses_in
boxing_accepted =
    accepted_in boxing (boxing_finalize ∷ []) boxing_stmts no_handlers boxing_has boxing_does refl _ _ refl refl refl

-- The holders and the cell are granted, and the second holder is picked at the leaving of the main procedure.
pub boxes : FinishesAfter boxing_events boxing
unfolding next
boxes =
    halts_after_in boxing (boxing_finalize ∷ []) boxing_stmts no_handlers boxing_has boxing_does refl []
    (steps 4 ++ grants true ∷ steps 6 ++ grants true ∷ steps 20 ++ grants true ∷ steps 6 ++ takes 0 ∷ steps 15) boxing_events Finished refl refl refl
