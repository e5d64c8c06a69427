-- A program that meets the premises of the laws, in which a Finalize calls a procedure that frees what its object owns. With its run.

use Rattle.std.proofs.Common.{◌≡◌, true, List, [], ◌∷◌, ◌++◌, refl, inr, arith, ◌⊎◌}
use Rattle.std.specs.Prelude.{None}
use Rattle.ada_program.specs.declared.program.Actual.TheVariants as actual
use Rattle.ada_program.specs.declared.program.Declaration.TheVariants as declaration
use Rattle.ada_program.specs.declared.program.Procedure.{Procedure}
use Rattle.ada_program.specs.declared.program.Program.{Program}
use Rattle.ada_program.specs.declared.program.RecordPath.{RecordPath}
use Rattle.ada_program.specs.declared.program.Right.TheVariants as right
use Rattle.ada_program.specs.declared.program.Stmt as stmt
use Rattle.ada_program.specs.declared.program.TypeDefinition.{TypeDefinition}
use Rattle.ada_program.specs.declared.program.TypeDefinition.TheVariants as definition
use Rattle.ada_program.specs.Controlled.{operations_of}
use Rattle.ada_program.specs.Form.{declaration_forms, stmt_forms, no_handlers, statement_rules}
use Rattle.ada_program.specs.ProgramForm.{body_forms}
use Rattle.ada_flow.specs.Flow.{uses_in}
use Rattle.ada_meaning.specs.declared.event.Halt.TheVariants.{Finished}
use Rattle.ada_meaning.specs.Named.{State, next}
use Rattle.ada_meaning.specs.Run.{Choice, grants, takes}
use Rattle.ada_meaning.proofs.Beginnings.{statements_begin}
use Rattle.ada_sound.specs.Agreement.{RunsPlainly, RunsTracking}
use Rattle.ada_sound.specs.Always.{IsChecked, InSomeRun, FinishesAfter}
use Rattle.ada_sound.specs.OperationExamples.{tidying_declarations, tidying_stmts, emptying_operations, emptying_empty, emptying_bodies, emptying_events, IsSpokenOfInside}
use Rattle.ada_sound.proofs.Choices.{accepted_in, run_in, last, halts_after_in}
use Rattle.ada_sound.proofs.Example.{steps, vec}
use Rattle.ada_sound.proofs.ExampleInside.{operates_here, runs_neither}
use Rattle.ada_sound.proofs.ExampleOwners.{record_of, access_to, an_integer}
use Rattle.ada_sound.proofs.ExampleRecords.{object, of_object, record_at, of_object_type}
use Rattle.ada_sound.proofs.ExampleOperations.{operation}
use Rattle.ada_sound.proofs.ExampleTidying.{holder_type}

-- type Cell is record Value : Integer; end record; type Link is access Cell; Holder; and what H and the formal parameters are known by.
abbrev emptying_types : List TypeDefinition
emptying_types =
    record_of (an_integer ∷ []) (omega arith)
    ∷ access_to 0
    ∷ holder_type emptying_operations
    ∷ definition.Object (record { 0 = 2 })
    ∷ definition.Object (record { 0 = 2 })
    ∷ definition.Object (record { 0 = 2 })
    ∷ []

-- The record of type Holder that H is.
abbrev all_of_h : RecordPath
all_of_h = record (record_at (object 0)) { «record» = record { 0 = 2 } }

-- Free (G.Head); and Empty (H);
abbrev emptying_procedures : List Procedure
emptying_procedures =
    operation 4 (stmt.Free (record { 0 = 1 }) (of_object 0 0) ∷ []) (omega arith) [] (omega arith)
    ∷ operation 5 (stmt.Call (record { 0 = 0 }) (vec (actual.InOutRecord all_of_h ∷ []) (omega arith)) ∷ []) (omega arith) [] (omega arith)
    ∷ []

-- H : Holder; begin H.Head := new Cell;
abbrev pub emptying : Program
emptying = record {
  types = vec emptying_types (omega arith);
  pools = vec [] (omega arith);
  procedures = vec emptying_procedures (omega arith);
  variables = vec (of_object_type 3 ∷ []) (omega arith);
  texts = vec [] (omega arith);
  exceptions = vec [] (omega arith);
  declarations = vec (declaration.Collection (record { 0 = 1 }) ∷ declaration.Record (record { 0 = 0 }) (record { 0 = 3 }) None ∷ []) (omega arith);
  statements = vec (stmt.Assign (of_object 0 0) (right.Default (record { 0 = 1 })) ∷ []) (omega arith);
  handlers = vec [] (omega arith);
}

pub emptying_overrides : operations_of emptying.types.items 0 ≡ emptying_operations
emptying_overrides = refl

pub emptying_has : body_forms emptying ≡ emptying_bodies
emptying_has = simp statement_rules

pub emptying_declares : declaration_forms emptying ≡ tidying_declarations
emptying_declares = refl

pub emptying_does : stmt_forms emptying ≡ tidying_stmts
emptying_does = simp statement_rules

pub emptying_accepted : IsChecked emptying
unfolding uses_in
emptying_accepted = accepted_in emptying emptying_bodies tidying_stmts no_handlers emptying_has emptying_does refl _ _ refl refl refl

-- The cell is granted, and H is picked at the leaving of the main procedure.
pub empties : FinishesAfter emptying_events emptying
unfolding next
empties =
    halts_after_in emptying emptying_bodies tidying_stmts no_handlers emptying_has emptying_does refl []
    (steps 7 ++ grants true ∷ steps 4 ++ takes 0 ∷ steps 28) emptying_events Finished refl refl refl

-- The Free of Empty begins: flow speaks of that.
abbrev to_free : List Choice
to_free = steps 7 ++ grants true ∷ steps 4 ++ takes 0 ∷ steps 7

abbrev inside : State
inside = last emptying [] emptying_bodies tidying_stmts no_handlers to_free

neither : RunsPlainly emptying inside ⊎ RunsTracking emptying inside → ⊥
unfolding next
neither = runs_neither emptying inside emptying_bodies 0 emptying_empty emptying_has refl refl refl refl

pub is_spoken_of : InSomeRun emptying (λ events s. IsSpokenOfInside emptying s)
unfolding next
is_spoken_of =
    run_in emptying emptying_bodies tidying_stmts no_handlers emptying_has emptying_does refl [] to_free (λ events s. IsSpokenOfInside emptying s) refl
    ((statements_begin inside).0 refl, operates_here inside.control refl, inr neither)
