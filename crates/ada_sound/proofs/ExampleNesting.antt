-- A program that meets the premises of the laws, in which the Finalize of a record object frees an object whose own Finalize frees what it owns: the one runs inside
-- the other. With its run.

use Rattle.std.proofs.Common.{◌≡◌, ◌⊎◌, inr, true, List, [], ◌∷◌, ◌++◌, refl, arith}
use Rattle.std.specs.Prelude.{Some, None}
use Rattle.ada_program.specs.declared.program.Declaration.TheVariants as declaration
use Rattle.ada_program.specs.declared.program.FormalMode.TheVariants.{InOut}
use Rattle.ada_program.specs.declared.program.Operations.{Operations}
use Rattle.ada_program.specs.declared.program.PartKind.TheVariants as part
use Rattle.ada_program.specs.declared.program.Path.{Path}
use Rattle.ada_program.specs.declared.program.Procedure.{Procedure}
use Rattle.ada_program.specs.declared.program.Program.{Program}
use Rattle.ada_program.specs.declared.program.Right.TheVariants as right
use Rattle.ada_program.specs.declared.program.Stmt as stmt
use Rattle.ada_program.specs.declared.program.TypeDefinition.{TypeDefinition}
use Rattle.ada_program.specs.declared.program.TypeDefinition.TheVariants as definition
use Rattle.ada_program.specs.Controlled.{operations_of}
use Rattle.ada_program.specs.Form.{declaration_forms, stmt_forms, no_handlers, statement_rules}
use Rattle.ada_program.specs.ProgramForm.{body_forms}
use Rattle.ada_flow.specs.Flow.{uses_in}
use Rattle.ada_meaning.specs.declared.event.Halt.TheVariants.{Finished}
use Rattle.ada_meaning.specs.Named.{State, next}
use Rattle.ada_meaning.specs.Run.{Choice, grants, takes}
use Rattle.ada_meaning.proofs.Beginnings.{statements_begin}
use Rattle.ada_sound.specs.Agreement.{RunsPlainly, RunsTracking}
use Rattle.ada_sound.specs.Always.{IsChecked, InSomeRun, FinishesAfter}
use Rattle.ada_sound.specs.NestingExample.{keeping_operations, inner_finalize, nesting_bodies, nesting_declarations, nesting_stmts, nesting_events}
use Rattle.ada_sound.specs.OperationExamples.{tidying_operations, IsSpokenOfInside}
use Rattle.ada_sound.proofs.Choices.{accepted_in, run_in, last, halts_after_in}
use Rattle.ada_sound.proofs.Example.{steps, vec, no_name, spot}
use Rattle.ada_sound.proofs.ExampleInside.{operates_here, runs_neither}
use Rattle.ada_sound.proofs.ExampleOwners.{record_of, access_to, an_integer, an_access, of_access, path, whole, clears, moves}
use Rattle.ada_sound.proofs.ExampleRecords.{of_object, of_object_type}
use Rattle.ada_sound.proofs.ExampleOperations.{of_kind, operation}
use Rattle.ada_sound.proofs.ExampleTidying.{holder_type}

-- type Keeper is new Limited_Controlled with record Held : Chest; end record; which overrides these operations.
abbrev pub keeper_type : Operations → TypeDefinition
keeper_type operations =
    definition.Record no_name (vec (of_kind part.Parent 0 0 ∷ of_kind (part.Elementary (an_access 3)) 0 1 ∷ []) (omega arith))
    (vec (an_access 3 ∷ []) (omega arith))
    (Some (record { number = record { 0 = 1 }; parts = 1; limited = true; operations = operations }))

-- type Cell is record Value : Integer; end record; type Link is access Cell; Holder; type Chest is access Holder; Keeper; and what K and the formal parameters are
-- known by.
abbrev nesting_types : List TypeDefinition
nesting_types =
    record_of (an_integer ∷ []) (omega arith)
    ∷ access_to 0
    ∷ holder_type tidying_operations
    ∷ access_to 2
    ∷ keeper_type keeping_operations
    ∷ definition.Object (record { 0 = 4 })
    ∷ definition.Object (record { 0 = 2 })
    ∷ definition.Object (record { 0 = 4 })
    ∷ []

-- C : Chest; begin C := K.Held; K.Held := null; Free_Holder (C);
abbrev outer_procedure : Procedure
outer_procedure = record {
  formals = vec (InOut ∷ []) (omega arith);
  variables = vec (of_object_type 7 ∷ of_access 3 ∷ []) (omega arith);
  declarations = vec (declaration.Variable (record { 0 = 1 }) None ∷ []) (omega arith);
  statements = vec (moves (whole 1) (of_object 0 0) ∷ clears (of_object 0 0) ∷ stmt.Free (record { 0 = 3 }) (whole 1) ∷ []) (omega arith);
  handlers = vec [] (omega arith);
  start = spot;
  end = spot;
}

-- Free_Cell (H.Head); and that.
abbrev nesting_procedures : List Procedure
nesting_procedures = operation 6 (stmt.Free (record { 0 = 1 }) (of_object 0 0) ∷ []) (omega arith) [] (omega arith) ∷ outer_procedure ∷ []

-- The component Head of the holder that K.Held names.
abbrev pub head_of_kept : Path
head_of_kept = record (path 0 (record { 0 = 0 } ∷ record { 0 = 0 } ∷ []) (omega arith)) { of_record = true }

-- K : Keeper; begin K.Held := new Holder; K.Held.Head := new Cell;
abbrev pub nesting : Program
nesting = record {
  types = vec nesting_types (omega arith);
  pools = vec [] (omega arith);
  procedures = vec nesting_procedures (omega arith);
  variables = vec (of_object_type 5 ∷ []) (omega arith);
  texts = vec [] (omega arith);
  exceptions = vec [] (omega arith);
  declarations = vec
      (declaration.Collection (record { 0 = 1 }) ∷ declaration.Collection (record { 0 = 3 }) ∷ declaration.Record (record { 0 = 0 }) (record { 0 = 5 }) None ∷ [])
      (omega arith);
  statements = vec
      (stmt.Assign (of_object 0 0) (right.Default (record { 0 = 3 })) ∷ stmt.Assign head_of_kept (right.Default (record { 0 = 1 })) ∷ [])
      (omega arith);
  handlers = vec [] (omega arith);
}

pub holder_overrides : operations_of nesting.types.items 0 ≡ tidying_operations
holder_overrides = refl

pub keeper_overrides : operations_of nesting.types.items 1 ≡ keeping_operations
keeper_overrides = refl

pub nesting_has : body_forms nesting ≡ nesting_bodies
nesting_has = simp statement_rules

pub nesting_declares : declaration_forms nesting ≡ nesting_declarations
nesting_declares = refl

pub nesting_does : stmt_forms nesting ≡ nesting_stmts
nesting_does = simp statement_rules

pub nesting_accepted : IsChecked nesting
unfolding uses_in
nesting_accepted = accepted_in nesting nesting_bodies nesting_stmts no_handlers nesting_has nesting_does refl _ _ refl refl refl

-- The holder and the cell are granted, and K is picked at the leaving of the main procedure.
pub nests : FinishesAfter nesting_events nesting
unfolding next
nests =
    halts_after_in nesting nesting_bodies nesting_stmts no_handlers nesting_has nesting_does refl []
    (steps 8 ++ grants true ∷ steps 5 ++ grants true ∷ steps 4 ++ takes 0 ∷ steps 42) nesting_events Finished refl refl refl

-- The Free of the holder's Finalize begins, within that of K: flow speaks of that.
abbrev to_free : List Choice
to_free = steps 8 ++ grants true ∷ steps 5 ++ grants true ∷ steps 4 ++ takes 0 ∷ steps 15

abbrev inside : State
inside = last nesting [] nesting_bodies nesting_stmts no_handlers to_free

neither : RunsPlainly nesting inside ⊎ RunsTracking nesting inside → ⊥
unfolding next
neither = runs_neither nesting inside nesting_bodies 0 inner_finalize nesting_has refl refl refl refl

pub is_spoken_of : InSomeRun nesting (λ events s. IsSpokenOfInside nesting s)
unfolding next
is_spoken_of =
    run_in nesting nesting_bodies nesting_stmts no_handlers nesting_has nesting_does refl [] to_free (λ events s. IsSpokenOfInside nesting s) refl
    ((statements_begin inside).0 refl, operates_here inside.control refl, inr neither)
