-- A program that meets the premises of the laws, in which a Finalize frees what its object owns. With its run.

use Rattle.std.proofs.Common.{◌≡◌, true, List, [], ◌∷◌, ◌++◌, refl, inr, arith, ◌⊎◌}
use Rattle.std.specs.Prelude.{Some, None}
use Rattle.ada_program.specs.declared.program.Declaration.TheVariants as declaration
use Rattle.ada_program.specs.declared.program.Operations.{Operations}
use Rattle.ada_program.specs.declared.program.PartKind.TheVariants as part
use Rattle.ada_program.specs.declared.program.Procedure.{Procedure}
use Rattle.ada_program.specs.declared.program.Program.{Program}
use Rattle.ada_program.specs.declared.program.Right.TheVariants as right
use Rattle.ada_program.specs.declared.program.Stmt as stmt
use Rattle.ada_program.specs.declared.program.TypeDefinition.{TypeDefinition}
use Rattle.ada_program.specs.declared.program.TypeDefinition.TheVariants as definition
use Rattle.ada_program.specs.Controlled.{operations_of}
use Rattle.ada_program.specs.Form.{declaration_forms, stmt_forms, no_handlers, statement_rules}
use Rattle.ada_program.specs.ProgramForm.{body_forms}
use Rattle.ada_flow.specs.Flow.{uses_in}
use Rattle.ada_meaning.specs.declared.event.Halt.TheVariants.{Finished}
use Rattle.ada_meaning.specs.Named.{State, next}
use Rattle.ada_meaning.specs.Run.{Choice, grants, takes}
use Rattle.ada_meaning.proofs.Beginnings.{statements_begin}
use Rattle.ada_sound.specs.Agreement.{RunsPlainly, RunsTracking}
use Rattle.ada_sound.specs.Always.{IsChecked, InSomeRun, FinishesAfter}
use Rattle.ada_sound.specs.OperationExamples.{tidying_operations, tidying_finalize, tidying_declarations, tidying_stmts, tidying_events, IsSpokenOfInside}
use Rattle.ada_sound.proofs.Choices.{accepted_in, run_in, last, halts_after_in}
use Rattle.ada_sound.proofs.Example.{steps, vec, no_name}
use Rattle.ada_sound.proofs.ExampleInside.{operates_here, runs_neither}
use Rattle.ada_sound.proofs.ExampleOwners.{record_of, access_to, an_integer, an_access}
use Rattle.ada_sound.proofs.ExampleRecords.{of_object, of_object_type}
use Rattle.ada_sound.proofs.ExampleOperations.{of_kind, operation}

-- type Holder is new Limited_Controlled with record Head : Link; end record; which overrides these operations.
abbrev pub holder_type : Operations → TypeDefinition
holder_type operations =
    definition.Record no_name (vec (of_kind part.Parent 0 0 ∷ of_kind (part.Elementary (an_access 1)) 0 1 ∷ []) (omega arith))
    (vec (an_access 1 ∷ []) (omega arith))
    (Some (record { number = record { 0 = 0 }; parts = 1; limited = true; operations = operations }))

-- type Cell is record Value : Integer; end record; type Link is access Cell; Holder; and what H and the formal parameter are known by.
abbrev tidying_types : List TypeDefinition
tidying_types =
    record_of (an_integer ∷ []) (omega arith)
    ∷ access_to 0
    ∷ holder_type tidying_operations
    ∷ definition.Object (record { 0 = 2 })
    ∷ definition.Object (record { 0 = 2 })
    ∷ []

-- Free (H.Head);
abbrev tidying_procedure : Procedure
tidying_procedure = operation 4 (stmt.Free (record { 0 = 1 }) (of_object 0 0) ∷ []) (omega arith) [] (omega arith)

-- H : Holder; begin H.Head := new Cell;
abbrev pub tidying : Program
tidying = record {
  types = vec tidying_types (omega arith);
  pools = vec [] (omega arith);
  procedures = vec (tidying_procedure ∷ []) (omega arith);
  variables = vec (of_object_type 3 ∷ []) (omega arith);
  texts = vec [] (omega arith);
  exceptions = vec [] (omega arith);
  declarations = vec (declaration.Collection (record { 0 = 1 }) ∷ declaration.Record (record { 0 = 0 }) (record { 0 = 3 }) None ∷ []) (omega arith);
  statements = vec (stmt.Assign (of_object 0 0) (right.Default (record { 0 = 1 })) ∷ []) (omega arith);
  handlers = vec [] (omega arith);
}

pub tidying_overrides : operations_of tidying.types.items 0 ≡ tidying_operations
tidying_overrides = refl

pub tidying_bodies : body_forms tidying ≡ tidying_finalize ∷ []
tidying_bodies = simp statement_rules

pub tidying_declares : declaration_forms tidying ≡ tidying_declarations
tidying_declares = refl

pub tidying_form : stmt_forms tidying ≡ tidying_stmts
tidying_form = simp statement_rules

pub tidying_accepted : IsChecked tidying
unfolding uses_in
tidying_accepted =
    accepted_in tidying (tidying_finalize ∷ []) tidying_stmts no_handlers tidying_bodies tidying_form refl _ _ refl refl refl

-- The cell is granted, and H is picked at the leaving of the main procedure.
pub tidies : FinishesAfter tidying_events tidying
unfolding next
tidies =
    halts_after_in tidying (tidying_finalize ∷ []) tidying_stmts no_handlers tidying_bodies tidying_form refl []
    (steps 7 ++ grants true ∷ steps 4 ++ takes 0 ∷ steps 18) tidying_events Finished refl refl refl

-- The Free of Finalize begins: flow speaks of that.
abbrev to_free : List Choice
to_free = steps 7 ++ grants true ∷ steps 4 ++ takes 0 ∷ steps 2

abbrev inside : State
inside = last tidying [] (tidying_finalize ∷ []) tidying_stmts no_handlers to_free

neither : RunsPlainly tidying inside ⊎ RunsTracking tidying inside → ⊥
unfolding next
neither = runs_neither tidying inside (tidying_finalize ∷ []) 0 tidying_finalize tidying_bodies refl refl refl refl

pub is_spoken_of : InSomeRun tidying (λ events s. IsSpokenOfInside tidying s)
unfolding next
is_spoken_of =
    run_in tidying (tidying_finalize ∷ []) tidying_stmts no_handlers tidying_bodies tidying_form refl [] to_free (λ events s. IsSpokenOfInside tidying s) refl
    ((statements_begin inside).0 refl, operates_here inside.control refl, inr neither)
