-- A program that meets the premises of the laws, in which an Initialize raises an exception: the object is undone, and the exception is handled. With its run.

use Rattle.std.proofs.Common.{◌≡◌, ◌≤◌, ℕ, true, false, List, [], ◌∷◌, ◌++◌, length, refl, arith}
use Rattle.std.specs.Prelude.{Some, None, pos}
use Rattle.ada_values.specs.Outcome.{outcome_of}
use Rattle.ada_program.specs.declared.program.Choice.TheVariants as choice
use Rattle.ada_program.specs.declared.program.ComponentKind.{ComponentKind}
use Rattle.ada_program.specs.declared.program.Declaration.TheVariants as declaration
use Rattle.ada_program.specs.declared.program.Exception.TheVariants.{ConstraintError}
use Rattle.ada_program.specs.declared.program.Expression.{Integer, Path as Reads}
use Rattle.ada_program.specs.declared.program.Operations.{Operations}
use Rattle.ada_program.specs.declared.program.Part.{Part}
use Rattle.ada_program.specs.declared.program.PartKind.TheVariants as part
use Rattle.ada_program.specs.declared.program.Procedure.{Procedure}
use Rattle.ada_program.specs.declared.program.Program.{Program}
use Rattle.ada_program.specs.declared.program.Right.TheVariants as right
use Rattle.ada_program.specs.declared.program.Stmt.{Stmt}
use Rattle.ada_program.specs.declared.program.Stmt as stmt
use Rattle.ada_program.specs.declared.program.TypeDefinition.{TypeDefinition}
use Rattle.ada_program.specs.declared.program.TypeDefinition.TheVariants as definition
use Rattle.ada_program.specs.declared.program.VariableKind.TheVariants as variable
use Rattle.ada_program.specs.Controlled.{no_operations, operations_of}
use Rattle.ada_program.specs.Form.{stmt_forms, handler_forms, no_handlers, statement_rules, expression_rules}
use Rattle.ada_program.specs.ProgramForm.{body_forms}
use Rattle.ada_flow.specs.Flow.{uses_in}
use Rattle.ada_meaning.specs.declared.event.Halt.TheVariants.{Finished}
use Rattle.ada_meaning.specs.Named.{next}
use Rattle.ada_meaning.specs.Run.{Choice, grants, takes}
use Rattle.ada_sound.specs.Always.{IsChecked, FinishesAfter}
use Rattle.ada_sound.specs.OperationExamples.{first_operations, second_operations, failing_bodies, failing_stmts, failing_events}
use Rattle.ada_sound.proofs.Choices.{accepted_in, halts_after_in}
use Rattle.ada_sound.proofs.Example.{steps, vec, no_name, link}
use Rattle.ada_sound.proofs.ExampleOwners.{access_to, an_integer, whole}
use Rattle.ada_sound.proofs.ExampleRecords.{of_object}
use Rattle.ada_sound.proofs.ExampleOperations.{of_kind, handles, operation}

-- A record type with controlled parts, by its number among these.
abbrev parted_type : (number parts : ℕ) → (components : List Part) → length components ≤ 8 → (kinds : List ComponentKind) → length kinds ≤ 8 → Operations → TypeDefinition
parted_type number parts components few kinds le operations =
    definition.Record no_name (vec components few) (vec kinds le)
    (Some (record { number = record { 0 = number }; parts = parts; limited = false; operations = operations }))

-- A controlled type with a component of type Integer.
abbrev holder_type : (number : ℕ) → Operations → TypeDefinition
holder_type number operations =
    parted_type number 1 (of_kind part.Parent 0 0 ∷ of_kind (part.Elementary an_integer) 0 1 ∷ []) (omega arith) (an_integer ∷ []) (omega arith) operations

-- First, Second and Both, type Link is access Both; and what the formal parameters are known by.
abbrev failing_types : List TypeDefinition
failing_types =
    holder_type 0 first_operations
    ∷ holder_type 1 second_operations
    ∷ parted_type 2 2 (of_kind (part.Record (record { 0 = 0 })) 0 0 ∷ of_kind (part.Record (record { 0 = 1 })) 1 1 ∷ []) (omega arith)
    (an_integer ∷ an_integer ∷ []) (omega arith) no_operations
    ∷ access_to 2
    ∷ definition.Object (record { 0 = 0 })
    ∷ definition.Object (record { 0 = 0 })
    ∷ definition.Object (record { 0 = 1 })
    ∷ []

-- F.V := 1; and Put_Line (Integer'Image (F.V)); and S.W := 2; raise Constraint_Error;
abbrev failing_procedures : List Procedure
failing_procedures =
    operation 4 (stmt.Assign (of_object 0 0) (right.Value (Integer (pos 1))) ∷ []) (omega arith) [] (omega arith)
    ∷ operation 5 (stmt.PutImage (Reads (of_object 0 0)) ∷ []) (omega arith) [] (omega arith)
    ∷ operation 6 (stmt.Assign (of_object 0 0) (right.Value (Integer (pos 2))) ∷ stmt.Raise ConstraintError ∷ []) (omega arith) [] (omega arith)
    ∷ []

-- begin P := new Both; exception when Constraint_Error => Put_Line (".."); end;
abbrev failing_block : Stmt
failing_block =
    stmt.Block (vec [] (omega arith)) (vec (stmt.Assign (whole 0) (right.Default (record { 0 = 3 })) ∷ []) (omega arith))
    (vec (handles (choice.Exception ConstraintError) (stmt.PutText (record { 0 = 0 })) ∷ []) (omega arith))

-- P : Link; begin begin .. end; Free (P);
abbrev pub failing : Program
failing = record {
  types = vec failing_types (omega arith);
  pools = vec [] (omega arith);
  procedures = vec failing_procedures (omega arith);
  variables = vec (record link { kind = variable.Access (record { 0 = 3 }) } ∷ []) (omega arith);
  texts = vec (no_name ∷ []) (omega arith);
  exceptions = vec [] (omega arith);
  declarations = vec (declaration.Collection (record { 0 = 3 }) ∷ declaration.Variable (record { 0 = 0 }) None ∷ []) (omega arith);
  statements = vec (failing_block ∷ stmt.Free (record { 0 = 3 }) (whole 0) ∷ []) (omega arith);
  handlers = vec [] (omega arith);
}

pub failing_first : operations_of failing.types.items 0 ≡ first_operations
failing_first = refl

pub failing_second : operations_of failing.types.items 1 ≡ second_operations
failing_second = refl

pub failing_has : body_forms failing ≡ failing_bodies
failing_has = simp (statement_rules, expression_rules)

pub failing_does : stmt_forms failing ≡ failing_stmts
failing_does = simp statement_rules

pub failing_handles : handler_forms failing ≡ no_handlers
failing_handles = refl

pub failing_accepted : IsChecked failing
unfolding uses_in
failing_accepted = accepted_in failing failing_bodies failing_stmts no_handlers failing_has failing_does failing_handles _ _ refl refl refl

-- The object is granted, A is picked first, and then B.
abbrev failing_choices : List Choice
failing_choices = steps 9 ++ grants true ∷ takes 0 ∷ steps 13 ++ takes 0 ∷ steps 42

pub undoes : FinishesAfter failing_events failing
unfolding next outcome_of
undoes =
    halts_after_in failing failing_bodies failing_stmts no_handlers failing_has failing_does failing_handles [] failing_choices
    failing_events Finished refl refl refl
