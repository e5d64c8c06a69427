-- A program that meets the premises of the laws, in which the Initialize of a record object allocates an object with controlled parts, whose own Initialize
-- runs inside, and Finalize frees it. With its run.

use Rattle.std.proofs.Common.{◌≡◌, ◌⊎◌, inr, true, List, [], ◌∷◌, ◌++◌, refl, arith}
use Rattle.std.specs.Prelude.{None}
use Rattle.ada_program.specs.declared.program.Declaration.TheVariants as declaration
use Rattle.ada_program.specs.declared.program.Procedure.{Procedure}
use Rattle.ada_program.specs.declared.program.Program.{Program}
use Rattle.ada_program.specs.declared.program.Right.TheVariants as right
use Rattle.ada_program.specs.declared.program.Stmt as stmt
use Rattle.ada_program.specs.declared.program.TypeDefinition.{TypeDefinition}
use Rattle.ada_program.specs.declared.program.TypeDefinition.TheVariants as definition
use Rattle.ada_program.specs.Controlled.{operations_of}
use Rattle.ada_program.specs.Form.{declaration_forms, stmt_forms, no_handlers, statement_rules}
use Rattle.ada_program.specs.ProgramForm.{body_forms}
use Rattle.ada_flow.specs.Flow.{uses_in}
use Rattle.ada_meaning.specs.declared.event.Halt.TheVariants.{Finished}
use Rattle.ada_meaning.specs.Named.{State, next}
use Rattle.ada_meaning.specs.Run.{Choice, grants, takes}
use Rattle.ada_meaning.proofs.Beginnings.{statements_begin}
use Rattle.ada_sound.specs.Agreement.{RunsPlainly, RunsTracking}
use Rattle.ada_sound.specs.Always.{IsChecked, InSomeRun, FinishesAfter}
use Rattle.ada_sound.specs.HousingExample.{housed_operations, housing_initialize, housing_bodies, housing_stmts, housing_events}
use Rattle.ada_sound.specs.NestingExample.{nesting_declarations}
use Rattle.ada_sound.specs.OperationExamples.{allocating_operations, IsSpokenOfInside}
use Rattle.ada_sound.proofs.Choices.{accepted_in, run_in, last, halts_after_in}
use Rattle.ada_sound.proofs.Example.{steps, vec, no_name}
use Rattle.ada_sound.proofs.ExampleInside.{operates_here, runs_neither}
use Rattle.ada_sound.proofs.ExampleOwners.{record_of, access_to, an_integer}
use Rattle.ada_sound.proofs.ExampleRecords.{of_object, of_object_type}
use Rattle.ada_sound.proofs.ExampleOperations.{operation}
use Rattle.ada_sound.proofs.ExampleNesting.{keeper_type, head_of_kept}
use Rattle.ada_sound.proofs.ExampleTidying.{holder_type}

-- type Cell is record Value : Integer; end record; type Link is access Cell; Holder; type Chest is access Holder; Keeper; and what K and the formal parameters
-- are known by.
abbrev pub housing_types : List TypeDefinition
housing_types =
    record_of (an_integer ∷ []) (omega arith)
    ∷ access_to 0
    ∷ holder_type housed_operations
    ∷ access_to 2
    ∷ keeper_type allocating_operations
    ∷ definition.Object (record { 0 = 4 })
    ∷ definition.Object (record { 0 = 2 })
    ∷ definition.Object (record { 0 = 4 })
    ∷ []

-- K.Held := new Holder; Free_Holder (K.Held); Put_Line (".."); and Free_Cell (H.Head);
abbrev housing_procedures : List Procedure
housing_procedures =
    operation 7 (stmt.Assign (of_object 0 0) (right.Default (record { 0 = 3 })) ∷ []) (omega arith) [] (omega arith)
    ∷ operation 7 (stmt.Free (record { 0 = 3 }) (of_object 0 0) ∷ []) (omega arith) [] (omega arith)
    ∷ operation 6 (stmt.PutText (record { 0 = 0 }) ∷ []) (omega arith) [] (omega arith)
    ∷ operation 6 (stmt.Free (record { 0 = 1 }) (of_object 0 0) ∷ []) (omega arith) [] (omega arith)
    ∷ []

-- K : Keeper; begin K.Held.Head := new Cell;
abbrev pub housing : Program
housing = record {
  types = vec housing_types (omega arith);
  pools = vec [] (omega arith);
  procedures = vec housing_procedures (omega arith);
  variables = vec (of_object_type 5 ∷ []) (omega arith);
  texts = vec (no_name ∷ []) (omega arith);
  exceptions = vec [] (omega arith);
  declarations = vec
      (declaration.Collection (record { 0 = 1 }) ∷ declaration.Collection (record { 0 = 3 }) ∷ declaration.Record (record { 0 = 0 }) (record { 0 = 5 }) None ∷ [])
      (omega arith);
  statements = vec (stmt.Assign head_of_kept (right.Default (record { 0 = 1 })) ∷ []) (omega arith);
  handlers = vec [] (omega arith);
}

pub holder_overrides : operations_of housing.types.items 0 ≡ housed_operations
holder_overrides = refl

pub keeper_overrides : operations_of housing.types.items 1 ≡ allocating_operations
keeper_overrides = refl

pub housing_has : body_forms housing ≡ housing_bodies
housing_has = simp statement_rules

pub housing_declares : declaration_forms housing ≡ nesting_declarations
housing_declares = refl

pub housing_does : stmt_forms housing ≡ housing_stmts
housing_does = simp statement_rules

pub housing_accepted : IsChecked housing
unfolding uses_in
housing_accepted = accepted_in housing housing_bodies housing_stmts no_handlers housing_has housing_does refl _ _ refl refl refl

-- The holder and the cell are granted, and K is picked at the leaving of the main procedure.
pub houses : FinishesAfter housing_events housing
unfolding next
houses =
    halts_after_in housing housing_bodies housing_stmts no_handlers housing_has housing_does refl []
    (steps 8 ++ grants true ∷ steps 20 ++ grants true ∷ steps 4 ++ takes 0 ∷ steps 32) housing_events Finished refl refl refl

-- The assignment of Initialize begins: flow speaks of that.
abbrev to_assignment : List Choice
to_assignment = steps 5

abbrev inside : State
inside = last housing [] housing_bodies housing_stmts no_handlers to_assignment

neither : RunsPlainly housing inside ⊎ RunsTracking housing inside → ⊥
unfolding next
neither = runs_neither housing inside housing_bodies 0 housing_initialize housing_has refl refl refl refl

pub is_spoken_of : InSomeRun housing (λ events s. IsSpokenOfInside housing s)
unfolding next
is_spoken_of =
    run_in housing housing_bodies housing_stmts no_handlers housing_has housing_does refl [] to_assignment (λ events s. IsSpokenOfInside housing s) refl
    ((statements_begin inside).0 refl, operates_here inside.control refl, inr neither)
