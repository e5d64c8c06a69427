-- A program that meets the premises of the laws, in which an exception leaves the Initialize of a component: the object is undone, and the Finalize of what has
-- begun of it frees a cell. With its run.

use Rattle.std.proofs.Common.{◌≡◌, true, false, List, [], ◌∷◌, ◌++◌, refl, arith}
use Rattle.std.specs.Prelude.{Some, None}
use Rattle.ada_program.specs.declared.program.Choice.TheVariants as choice
use Rattle.ada_program.specs.declared.program.Declaration.TheVariants as declaration
use Rattle.ada_program.specs.declared.program.Exception.TheVariants.{StorageError}
use Rattle.ada_program.specs.declared.program.PartKind.TheVariants as part
use Rattle.ada_program.specs.declared.program.Procedure.{Procedure}
use Rattle.ada_program.specs.declared.program.Program.{Program}
use Rattle.ada_program.specs.declared.program.Right.TheVariants as right
use Rattle.ada_program.specs.declared.program.Stmt.{Stmt}
use Rattle.ada_program.specs.declared.program.Stmt as stmt
use Rattle.ada_program.specs.declared.program.TypeDefinition.{TypeDefinition}
use Rattle.ada_program.specs.declared.program.TypeDefinition.TheVariants as definition
use Rattle.ada_program.specs.Controlled.{no_operations, operations_of}
use Rattle.ada_program.specs.Form.{declaration_forms, stmt_forms, handler_forms, statement_rules}
use Rattle.ada_program.specs.ProgramForm.{body_forms}
use Rattle.ada_flow.specs.Flow.{uses_in}
use Rattle.ada_meaning.specs.declared.event.Halt.TheVariants.{Finished}
use Rattle.ada_meaning.specs.Named.{next}
use Rattle.ada_meaning.specs.Run.{Choice, grants, takes}
use Rattle.ada_sound.specs.Always.{IsChecked, FinishesAfter}
use Rattle.ada_sound.specs.OperationExamples.{allocating_operations, undoing_bodies, undoing_declarations, undoing_stmts, undoing_handlers, undoing_events}
use Rattle.ada_sound.proofs.Choices.{accepted_in, halts_after_in}
use Rattle.ada_sound.proofs.Example.{steps, vec, no_name}
use Rattle.ada_sound.proofs.ExampleOwners.{record_of, access_to, an_integer, an_access}
use Rattle.ada_sound.proofs.ExampleRecords.{of_object, of_object_type}
use Rattle.ada_sound.proofs.ExampleOperations.{of_kind, handles, operation}
use Rattle.ada_sound.proofs.ExampleTidying.{holder_type}

-- type Pair is record First : Holder; Second : Holder; end record;
abbrev pub pair_type : TypeDefinition
pair_type =
    definition.Record no_name
    (vec (of_kind (part.Record (record { 0 = 2 })) 0 0 ∷ of_kind (part.Record (record { 0 = 2 })) 1 1 ∷ []) (omega arith))
    (vec (an_access 1 ∷ an_access 1 ∷ []) (omega arith))
    (Some (record { number = record { 0 = 1 }; parts = 2; limited = true; operations = no_operations }))

-- type Cell is record Value : Integer; end record; type Link is access Cell; Holder; Pair; and what P and the formal parameters are known by.
abbrev undoing_types : List TypeDefinition
undoing_types =
    record_of (an_integer ∷ []) (omega arith)
    ∷ access_to 0
    ∷ holder_type allocating_operations
    ∷ pair_type
    ∷ definition.Object (record { 0 = 3 })
    ∷ definition.Object (record { 0 = 2 })
    ∷ definition.Object (record { 0 = 2 })
    ∷ []

-- H.Head := new Cell; and Free (H.Head);
abbrev pub undoing_procedures : List Procedure
undoing_procedures =
    operation 5 (stmt.Assign (of_object 0 0) (right.Default (record { 0 = 1 })) ∷ []) (omega arith) [] (omega arith)
    ∷ operation 6 (stmt.Free (record { 0 = 1 }) (of_object 0 0) ∷ []) (omega arith) [] (omega arith)
    ∷ []

-- declare P : Pair; begin null; end;
abbrev undoing_block : Stmt
undoing_block =
    stmt.Block (vec (declaration.Record (record { 0 = 0 }) (record { 0 = 4 }) None ∷ []) (omega arith)) (vec (stmt.Null ∷ []) (omega arith))
    (vec [] (omega arith))

-- begin declare .. end; exception when Storage_Error => null;
abbrev pub undoing : Program
undoing = record {
  types = vec undoing_types (omega arith);
  pools = vec [] (omega arith);
  procedures = vec undoing_procedures (omega arith);
  variables = vec (of_object_type 4 ∷ []) (omega arith);
  texts = vec [] (omega arith);
  exceptions = vec [] (omega arith);
  declarations = vec (declaration.Collection (record { 0 = 1 }) ∷ []) (omega arith);
  statements = vec (undoing_block ∷ []) (omega arith);
  handlers = vec (handles (choice.Exception StorageError) stmt.Null ∷ []) (omega arith);
}

pub undoing_overrides : operations_of undoing.types.items 0 ≡ allocating_operations
undoing_overrides = refl

pub undoing_has : body_forms undoing ≡ undoing_bodies
undoing_has = simp statement_rules

pub undoing_declares : declaration_forms undoing ≡ undoing_declarations
undoing_declares = refl

pub undoing_does : stmt_forms undoing ≡ undoing_stmts
undoing_does = simp statement_rules

pub undoing_handles : handler_forms undoing ≡ undoing_handlers
undoing_handles = simp statement_rules

pub undoing_accepted : IsChecked undoing
unfolding uses_in
undoing_accepted =
    accepted_in undoing undoing_bodies undoing_stmts undoing_handlers undoing_has undoing_does undoing_handles _ _ refl refl refl

-- First is picked, and its cell is granted; then Second is picked, and its cell is refused.
abbrev undoing_choices : List Choice
undoing_choices = steps 4 ++ takes 0 ∷ steps 5 ++ grants true ∷ steps 7 ++ takes 0 ∷ steps 5 ++ grants false ∷ steps 33

pub undoes : FinishesAfter undoing_events undoing
unfolding next
undoes =
    halts_after_in undoing undoing_bodies undoing_stmts undoing_handlers undoing_has undoing_does undoing_handles [] undoing_choices
    undoing_events Finished refl refl refl
