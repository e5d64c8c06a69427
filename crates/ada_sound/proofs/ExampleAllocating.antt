-- A program that meets the premises of the laws, in which an Initialize allocates what its object owns, and a Finalize frees it. With a run where that is granted,
-- and one where it is refused.

use Rattle.std.proofs.Common.{◌≡◌, true, false, List, [], ◌∷◌, ◌++◌, refl, arith}
use Rattle.std.specs.Prelude.{None, pos}
use Rattle.ada_program.specs.declared.program.Choice.TheVariants as choice
use Rattle.ada_program.specs.declared.program.Declaration.TheVariants as declaration
use Rattle.ada_program.specs.declared.program.Exception.TheVariants.{ConstraintError, StorageError}
use Rattle.ada_program.specs.declared.program.Expression.{Integer, Path as Reads}
use Rattle.ada_program.specs.declared.program.Path.{Path}
use Rattle.ada_program.specs.declared.program.Procedure.{Procedure}
use Rattle.ada_program.specs.declared.program.Program.{Program}
use Rattle.ada_program.specs.declared.program.Right.TheVariants as right
use Rattle.ada_program.specs.declared.program.Stmt as stmt
use Rattle.ada_program.specs.declared.program.TypeDefinition.{TypeDefinition}
use Rattle.ada_program.specs.declared.program.TypeDefinition.TheVariants as definition
use Rattle.ada_program.specs.Controlled.{operations_of}
use Rattle.ada_program.specs.Form.{declaration_forms, stmt_forms, handler_forms, statement_rules, expression_rules}
use Rattle.ada_program.specs.ProgramForm.{body_forms}
use Rattle.ada_flow.specs.Flow.{uses_in}
use Rattle.ada_meaning.specs.declared.event.Halt.TheVariants.{Finished}
use Rattle.ada_meaning.specs.Named.{next}
use Rattle.ada_meaning.specs.Run.{grants, takes}
use Rattle.ada_sound.specs.Always.{IsChecked, FinishesAfter}
use Rattle.ada_sound.specs.OperationExamples.{tidying_declarations, allocating_operations, allocating_bodies, allocating_stmts, allocating_handlers, allocating_events, refused_events}
use Rattle.ada_sound.proofs.Choices.{accepted_in, halts_after_in}
use Rattle.ada_sound.proofs.Example.{steps, vec}
use Rattle.ada_sound.proofs.ExampleOwners.{record_of, access_to, an_integer, path}
use Rattle.ada_sound.proofs.ExampleRecords.{of_object, of_object_type}
use Rattle.ada_sound.proofs.ExampleOperations.{handles, operation}
use Rattle.ada_sound.proofs.ExampleTidying.{holder_type}

-- type Cell is record Value : Integer; end record; type Link is access Cell; Holder; and what H and the formal parameters are known by.
abbrev allocating_types : List TypeDefinition
allocating_types =
    record_of (an_integer ∷ []) (omega arith)
    ∷ access_to 0
    ∷ holder_type allocating_operations
    ∷ definition.Object (record { 0 = 2 })
    ∷ definition.Object (record { 0 = 2 })
    ∷ definition.Object (record { 0 = 2 })
    ∷ []

-- H.Head := new Cell; exception when Storage_Error => null; and Free (H.Head);
abbrev allocating_procedures : List Procedure
allocating_procedures =
    operation 4 (stmt.Assign (of_object 0 0) (right.Default (record { 0 = 1 })) ∷ []) (omega arith)
    (handles (choice.Exception StorageError) stmt.Null ∷ []) (omega arith)
    ∷ operation 5 (stmt.Free (record { 0 = 1 }) (of_object 0 0) ∷ []) (omega arith) [] (omega arith)
    ∷ []

-- H.Head.Value
abbrev value_in_head : Path
value_in_head = record (path 0 (record { 0 = 0 } ∷ record { 0 = 0 } ∷ []) (omega arith)) { of_record = true }

-- H : Holder; begin H.Head.Value := 7; Put_Line (Integer'Image (H.Head.Value)); exception when Constraint_Error => null;
abbrev pub allocating : Program
allocating = record {
  types = vec allocating_types (omega arith);
  pools = vec [] (omega arith);
  procedures = vec allocating_procedures (omega arith);
  variables = vec (of_object_type 3 ∷ []) (omega arith);
  texts = vec [] (omega arith);
  exceptions = vec [] (omega arith);
  declarations = vec (declaration.Collection (record { 0 = 1 }) ∷ declaration.Record (record { 0 = 0 }) (record { 0 = 3 }) None ∷ []) (omega arith);
  statements = vec (stmt.Assign value_in_head (right.Value (Integer (pos 7))) ∷ stmt.PutImage (Reads value_in_head) ∷ []) (omega arith);
  handlers = vec (handles (choice.Exception ConstraintError) stmt.Null ∷ []) (omega arith);
}

pub allocating_overrides : operations_of allocating.types.items 0 ≡ allocating_operations
allocating_overrides = refl

pub allocating_has : body_forms allocating ≡ allocating_bodies
allocating_has = simp statement_rules

pub allocating_declares : declaration_forms allocating ≡ tidying_declarations
allocating_declares = refl

pub allocating_does : stmt_forms allocating ≡ allocating_stmts
allocating_does = simp (statement_rules, expression_rules)

pub allocating_handles : handler_forms allocating ≡ allocating_handlers
allocating_handles = simp statement_rules

pub allocating_accepted : IsChecked allocating
unfolding uses_in
allocating_accepted =
    accepted_in allocating allocating_bodies allocating_stmts allocating_handlers allocating_has allocating_does allocating_handles _ _ refl refl refl

-- The cell is granted, and H is picked at the leaving of the main procedure.
pub allocates : FinishesAfter allocating_events allocating
unfolding next
allocates =
    halts_after_in allocating allocating_bodies allocating_stmts allocating_handlers allocating_has allocating_does allocating_handles []
    (steps 7 ++ grants true ∷ steps 20 ++ takes 0 ∷ steps 18) allocating_events Finished refl refl refl

-- The cell is refused.
pub is_refused : FinishesAfter refused_events allocating
unfolding next
is_refused =
    halts_after_in allocating allocating_bodies allocating_stmts allocating_handlers allocating_has allocating_does allocating_handles []
    (steps 7 ++ grants false ∷ steps 17 ++ takes 0 ∷ steps 15) refused_events Finished refl refl refl
