-- A program that meets the premises of the laws, in which an object whose Finalize frees what it owns is freed by a component of another object. With its run.

use Rattle.std.proofs.Common.{◌≡◌, true, List, [], ◌∷◌, ◌++◌, refl, arith}
use Rattle.std.specs.Prelude.{Some}
use Rattle.ada_program.specs.declared.program.Declaration.{Declaration}
use Rattle.ada_program.specs.declared.program.Declaration.TheVariants as declaration
use Rattle.ada_program.specs.declared.program.Path.{Path}
use Rattle.ada_program.specs.declared.program.Procedure.{Procedure}
use Rattle.ada_program.specs.declared.program.Program.{Program}
use Rattle.ada_program.specs.declared.program.Right.TheVariants as right
use Rattle.ada_program.specs.declared.program.Stmt.{Stmt}
use Rattle.ada_program.specs.declared.program.Stmt as stmt
use Rattle.ada_program.specs.declared.program.TypeDefinition.{TypeDefinition}
use Rattle.ada_program.specs.declared.program.TypeDefinition.TheVariants as definition
use Rattle.ada_program.specs.Controlled.{operations_of}
use Rattle.ada_program.specs.Form.{declaration_forms, stmt_forms, no_handlers, statement_rules}
use Rattle.ada_program.specs.ProgramForm.{body_forms}
use Rattle.ada_flow.specs.Flow.{uses_in}
use Rattle.ada_meaning.specs.declared.event.Halt.TheVariants.{Finished}
use Rattle.ada_meaning.specs.Named.{next}
use Rattle.ada_meaning.specs.Run.{grants, takes}
use Rattle.ada_sound.specs.Always.{IsChecked, FinishesAfter}
use Rattle.ada_sound.specs.OperationExamples.{tidying_operations}
use Rattle.ada_sound.specs.ReleasingExample.{releasing_finalize, releasing_declarations, releasing_stmts, releasing_events}
use Rattle.ada_sound.proofs.Choices.{accepted_in, halts_after_in}
use Rattle.ada_sound.proofs.Example.{steps, vec}
use Rattle.ada_sound.proofs.ExampleOwners.{record_of, access_to, an_integer, an_access, of_access, path, part as component}
use Rattle.ada_sound.proofs.ExampleRecords.{of_object}
use Rattle.ada_sound.proofs.ExampleOperations.{operation}
use Rattle.ada_sound.proofs.ExampleTidying.{holder_type}

-- type Cell is record Value : Integer; end record; type Link is access Cell; Holder; type Chest is access Holder; type Shelf is record Held : Chest;
-- end record; type Rack is access Shelf; and what the formal parameter is known by.
abbrev releasing_types : List TypeDefinition
releasing_types =
    record_of (an_integer ∷ []) (omega arith)
    ∷ access_to 0
    ∷ holder_type tidying_operations
    ∷ access_to 2
    ∷ record_of (an_access 3 ∷ []) (omega arith)
    ∷ access_to 4
    ∷ definition.Object (record { 0 = 2 })
    ∷ []

-- Free (H.Head);
abbrev releasing_procedure : Procedure
releasing_procedure = operation 6 (stmt.Free (record { 0 = 1 }) (of_object 0 0) ∷ []) (omega arith) [] (omega arith)

-- The collections of Link, of Chest and of Rack; R : Rack := new Shelf;
abbrev releasing_part : List Declaration
releasing_part =
    declaration.Collection (record { 0 = 1 })
    ∷ declaration.Collection (record { 0 = 3 })
    ∷ declaration.Collection (record { 0 = 5 })
    ∷ declaration.Variable (record { 0 = 0 }) (Some (right.Default (record { 0 = 5 })))
    ∷ []

-- The component Head of the holder that R.Held names.
abbrev head_of_held : Path
head_of_held = path 0 (record { 0 = 0 } ∷ record { 0 = 0 } ∷ []) (omega arith)

-- R.Held := new Holder; R.Held.Head := new Cell; Free_Holder (R.Held);
abbrev releasing_all : List Stmt
releasing_all =
    stmt.Assign (component 0 0) (right.Default (record { 0 = 3 }))
    ∷ stmt.Assign head_of_held (right.Default (record { 0 = 1 }))
    ∷ stmt.Free (record { 0 = 3 }) (component 0 0)
    ∷ []

abbrev pub releasing : Program
releasing = record {
  types = vec releasing_types (omega arith);
  pools = vec [] (omega arith);
  procedures = vec (releasing_procedure ∷ []) (omega arith);
  variables = vec (of_access 5 ∷ []) (omega arith);
  texts = vec [] (omega arith);
  exceptions = vec [] (omega arith);
  declarations = vec releasing_part (omega arith);
  statements = vec releasing_all (omega arith);
  handlers = vec [] (omega arith);
}

pub releasing_overrides : operations_of releasing.types.items 0 ≡ tidying_operations
releasing_overrides = refl

pub releasing_has : body_forms releasing ≡ releasing_finalize ∷ []
releasing_has = simp statement_rules

pub releasing_declares : declaration_forms releasing ≡ releasing_declarations
releasing_declares = refl

pub releasing_does : stmt_forms releasing ≡ releasing_stmts
releasing_does = simp statement_rules

pub releasing_accepted : IsChecked releasing
unfolding uses_in
releasing_accepted =
    accepted_in releasing (releasing_finalize ∷ []) releasing_stmts no_handlers releasing_has releasing_does refl _ _ refl refl refl

-- The shelf, the holder and the cell are granted, and the shelf is picked at the leaving of the main procedure.
pub releases : FinishesAfter releasing_events releasing
unfolding next
releases =
    halts_after_in releasing (releasing_finalize ∷ []) releasing_stmts no_handlers releasing_has releasing_does refl []
    (steps 5 ++ grants true ∷ steps 5 ++ grants true ∷ steps 5 ++ grants true ∷ steps 23 ++ takes 0 ∷ steps 6) releasing_events Finished refl refl refl
