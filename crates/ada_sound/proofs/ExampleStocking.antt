-- A program that meets the premises of the laws, in which the Initialize of a record object allocates an object whose own Initialize allocates, too, and
-- Finalize of each frees what it owns. With a run where all is granted, and one where the inner request is refused, and the object is undone inside the
-- Initialize of the record object, which handles that.

use Rattle.std.proofs.Common.{◌≡◌, ◌⊎◌, inr, true, false, List, [], ◌∷◌, ◌++◌, refl, arith}
use Rattle.std.specs.Prelude.{None}
use Rattle.ada_program.specs.declared.program.Choice.TheVariants as choice
use Rattle.ada_program.specs.declared.program.Declaration.TheVariants as declaration
use Rattle.ada_program.specs.declared.program.Exception.TheVariants.{StorageError}
use Rattle.ada_program.specs.declared.program.Procedure.{Procedure}
use Rattle.ada_program.specs.declared.program.Program.{Program}
use Rattle.ada_program.specs.declared.program.Right.TheVariants as right
use Rattle.ada_program.specs.declared.program.Stmt as stmt
use Rattle.ada_program.specs.Controlled.{operations_of}
use Rattle.ada_program.specs.Form.{declaration_forms, stmt_forms, no_handlers, statement_rules}
use Rattle.ada_program.specs.ProgramForm.{body_forms}
use Rattle.ada_flow.specs.Flow.{uses_in}
use Rattle.ada_meaning.specs.declared.event.Halt.TheVariants.{Finished}
use Rattle.ada_meaning.specs.Named.{State, next}
use Rattle.ada_meaning.specs.Run.{Choice, grants, takes}
use Rattle.ada_meaning.proofs.Beginnings.{statements_begin}
use Rattle.ada_sound.specs.Agreement.{RunsPlainly, RunsTracking}
use Rattle.ada_sound.specs.Always.{IsChecked, InSomeRun, FinishesAfter}
use Rattle.ada_sound.specs.HousingExample.{housed_operations}
use Rattle.ada_sound.specs.NestingExample.{nesting_declarations}
use Rattle.ada_sound.specs.OperationExamples.{allocating_operations, IsSpokenOfInside}
use Rattle.ada_sound.specs.StockingExample.{stocked_initialize, stocking_bodies, stocking_stmts, stocking_events, unstocked_events}
use Rattle.ada_sound.proofs.Choices.{accepted_in, run_in, last, halts_after_in}
use Rattle.ada_sound.proofs.Example.{steps, vec}
use Rattle.ada_sound.proofs.ExampleHousing.{housing_types}
use Rattle.ada_sound.proofs.ExampleInside.{operates_here, runs_neither}
use Rattle.ada_sound.proofs.ExampleOperations.{handles, operation}
use Rattle.ada_sound.proofs.ExampleRecords.{of_object, of_object_type}

-- K.Held := new Holder; exception when Storage_Error => null; and Free_Holder (K.Held); and H.Head := new Cell; and Free_Cell (H.Head);
abbrev stocking_procedures : List Procedure
stocking_procedures =
    operation 7 (stmt.Assign (of_object 0 0) (right.Default (record { 0 = 3 })) ∷ []) (omega arith)
    (handles (choice.Exception StorageError) stmt.Null ∷ []) (omega arith)
    ∷ operation 7 (stmt.Free (record { 0 = 3 }) (of_object 0 0) ∷ []) (omega arith) [] (omega arith)
    ∷ operation 6 (stmt.Assign (of_object 0 0) (right.Default (record { 0 = 1 })) ∷ []) (omega arith) [] (omega arith)
    ∷ operation 6 (stmt.Free (record { 0 = 1 }) (of_object 0 0) ∷ []) (omega arith) [] (omega arith)
    ∷ []

-- K : Keeper; begin null;
abbrev pub stocking : Program
stocking = record {
  types = vec housing_types (omega arith);
  pools = vec [] (omega arith);
  procedures = vec stocking_procedures (omega arith);
  variables = vec (of_object_type 5 ∷ []) (omega arith);
  texts = vec [] (omega arith);
  exceptions = vec [] (omega arith);
  declarations = vec
      (declaration.Collection (record { 0 = 1 }) ∷ declaration.Collection (record { 0 = 3 }) ∷ declaration.Record (record { 0 = 0 }) (record { 0 = 5 }) None ∷ [])
      (omega arith);
  statements = vec (stmt.Null ∷ []) (omega arith);
  handlers = vec [] (omega arith);
}

pub holder_overrides : operations_of stocking.types.items 0 ≡ housed_operations
holder_overrides = refl

pub keeper_overrides : operations_of stocking.types.items 1 ≡ allocating_operations
keeper_overrides = refl

pub stocking_has : body_forms stocking ≡ stocking_bodies
stocking_has = simp statement_rules

pub stocking_declares : declaration_forms stocking ≡ nesting_declarations
stocking_declares = refl

pub stocking_does : stmt_forms stocking ≡ stocking_stmts
stocking_does = simp statement_rules

pub stocking_accepted : IsChecked stocking
unfolding uses_in
stocking_accepted = accepted_in stocking stocking_bodies stocking_stmts no_handlers stocking_has stocking_does refl _ _ refl refl refl

-- The holder and the cell are granted, and K is picked at the leaving of the main procedure.
pub stocks : FinishesAfter stocking_events stocking
unfolding next
stocks =
    halts_after_in stocking stocking_bodies stocking_stmts no_handlers stocking_has stocking_does refl []
    (steps 8 ++ grants true ∷ steps 5 ++ grants true ∷ steps 19 ++ takes 0 ∷ steps 32) stocking_events Finished refl refl refl

-- The holder is granted, and the cell is refused.
pub is_refused : FinishesAfter unstocked_events stocking
unfolding next
is_refused =
    halts_after_in stocking stocking_bodies stocking_stmts no_handlers stocking_has stocking_does refl []
    (steps 8 ++ grants true ∷ steps 5 ++ grants false ∷ steps 24 ++ takes 0 ∷ steps 16) unstocked_events Finished refl refl refl

-- The assignment of the inner Initialize begins: flow speaks of that.
abbrev to_assignment : List Choice
to_assignment = steps 8 ++ grants true ∷ steps 2

abbrev inside : State
inside = last stocking [] stocking_bodies stocking_stmts no_handlers to_assignment

neither : RunsPlainly stocking inside ⊎ RunsTracking stocking inside → ⊥
unfolding next
neither = runs_neither stocking inside stocking_bodies 2 stocked_initialize stocking_has refl refl refl refl

pub is_spoken_of : InSomeRun stocking (λ events s. IsSpokenOfInside stocking s)
unfolding next
is_spoken_of =
    run_in stocking stocking_bodies stocking_stmts no_handlers stocking_has stocking_does refl [] to_assignment (λ events s. IsSpokenOfInside stocking s) refl
    ((statements_begin inside).0 refl, operates_here inside.control refl, inr neither)
