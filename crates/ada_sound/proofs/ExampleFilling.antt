-- A program that meets the premises of the laws, in which an Initialize allocates what a part of an allocated object owns, and a Finalize frees it: one such object is
-- freed, and one goes with its collection. With a run where all is granted, and one where a cell is refused, and the object is undone.

use Rattle.std.proofs.Common.{◌≡◌, true, false, List, [], ◌∷◌, ◌++◌, refl, arith}
use Rattle.std.specs.Prelude.{None}
use Rattle.ada_program.specs.declared.program.Choice.TheVariants as choice
use Rattle.ada_program.specs.declared.program.Declaration.TheVariants as declaration
use Rattle.ada_program.specs.declared.program.Exception.TheVariants.{StorageError}
use Rattle.ada_program.specs.declared.program.Program.{Program}
use Rattle.ada_program.specs.declared.program.Right.TheVariants as right
use Rattle.ada_program.specs.declared.program.Stmt.{Stmt}
use Rattle.ada_program.specs.declared.program.Stmt as stmt
use Rattle.ada_program.specs.declared.program.TypeDefinition.{TypeDefinition}
use Rattle.ada_program.specs.declared.program.TypeDefinition.TheVariants as definition
use Rattle.ada_program.specs.Controlled.{operations_of}
use Rattle.ada_program.specs.Form.{declaration_forms, stmt_forms, handler_forms, statement_rules}
use Rattle.ada_program.specs.ProgramForm.{body_forms}
use Rattle.ada_flow.specs.Flow.{uses_in}
use Rattle.ada_meaning.specs.declared.event.Halt.TheVariants.{Finished}
use Rattle.ada_meaning.specs.Named.{next}
use Rattle.ada_meaning.specs.Run.{Choice, grants, takes}
use Rattle.ada_sound.specs.Always.{IsChecked, FinishesAfter}
use Rattle.ada_sound.specs.OperationExamples.{allocating_operations, undoing_bodies, undoing_handlers, filling_declarations, filling_stmts, filling_events, unfilled_events}
use Rattle.ada_sound.proofs.Choices.{accepted_in, halts_after_in}
use Rattle.ada_sound.proofs.Example.{steps, vec}
use Rattle.ada_sound.proofs.ExampleOwners.{record_of, access_to, an_integer, of_access, whole}
use Rattle.ada_sound.proofs.ExampleOperations.{handles}
use Rattle.ada_sound.proofs.ExampleTidying.{holder_type}
use Rattle.ada_sound.proofs.ExampleUndoing.{pair_type, undoing_procedures}

-- type Cell is record Value : Integer; end record; type Link is access Cell; Holder; Pair; type Chest is access Pair; and what the formal parameters are known by.
abbrev filling_types : List TypeDefinition
filling_types =
    record_of (an_integer ∷ []) (omega arith)
    ∷ access_to 0
    ∷ holder_type allocating_operations
    ∷ pair_type
    ∷ access_to 3
    ∷ definition.Object (record { 0 = 2 })
    ∷ definition.Object (record { 0 = 2 })
    ∷ []

-- C := new Pair;
abbrev allocates_a_pair : Stmt
allocates_a_pair = stmt.Assign (whole 0) (right.Default (record { 0 = 4 }))

-- C : Chest; begin C := new Pair; Free (C); C := new Pair; exception when Storage_Error => null;
abbrev pub filling : Program
filling = record {
  types = vec filling_types (omega arith);
  pools = vec [] (omega arith);
  procedures = vec undoing_procedures (omega arith);
  variables = vec (of_access 4 ∷ []) (omega arith);
  texts = vec [] (omega arith);
  exceptions = vec [] (omega arith);
  declarations = vec (declaration.Collection (record { 0 = 1 }) ∷ declaration.Collection (record { 0 = 4 }) ∷ declaration.Variable (record { 0 = 0 }) None ∷ []) (omega arith);
  statements = vec (allocates_a_pair ∷ stmt.Free (record { 0 = 4 }) (whole 0) ∷ allocates_a_pair ∷ []) (omega arith);
  handlers = vec (handles (choice.Exception StorageError) stmt.Null ∷ []) (omega arith);
}

pub filling_overrides : operations_of filling.types.items 0 ≡ allocating_operations
filling_overrides = refl

pub filling_has : body_forms filling ≡ undoing_bodies
filling_has = simp statement_rules

pub filling_declares : declaration_forms filling ≡ filling_declarations
filling_declares = refl

pub filling_does : stmt_forms filling ≡ filling_stmts
filling_does = simp statement_rules

pub filling_handles : handler_forms filling ≡ undoing_handlers
filling_handles = simp statement_rules

pub filling_accepted : IsChecked filling
unfolding uses_in
filling_accepted =
    accepted_in filling undoing_bodies filling_stmts undoing_handlers filling_has filling_does filling_handles _ _ refl refl refl

-- Each request is granted. First is picked before Second, where a pair is initialized, and by Free; and Second is picked before First at the leaving of the main
-- procedure, where the second pair is picked.
abbrev filling_choices : List Choice
filling_choices =
    steps 8 ++ grants true ∷ takes 0 ∷ steps 5 ++ grants true ∷ steps 7 ++ takes 0 ∷ steps 5 ++ grants true ∷ steps 9 ++ takes 1 ∷ steps 13 ++ takes 0
    ∷ steps 18 ++ grants true ∷ takes 0 ∷ steps 5 ++ grants true ∷ steps 7 ++ takes 0 ∷ steps 5 ++ grants true ∷ steps 12 ++ takes 0 ∷ takes 0
    ∷ steps 13 ++ takes 0 ∷ steps 18

pub fills : FinishesAfter filling_events filling
unfolding next
fills =
    halts_after_in filling undoing_bodies filling_stmts undoing_handlers filling_has filling_does filling_handles [] filling_choices
    filling_events Finished refl refl refl

-- The pair is granted, and the cell of First, and that of Second is refused.
abbrev unfilled_choices : List Choice
unfilled_choices = steps 8 ++ grants true ∷ takes 0 ∷ steps 5 ++ grants true ∷ steps 7 ++ takes 0 ∷ steps 5 ++ grants false ∷ steps 33

pub is_undone : FinishesAfter unfilled_events filling
unfolding next
is_undone =
    halts_after_in filling undoing_bodies filling_stmts undoing_handlers filling_has filling_does filling_handles [] unfilled_choices
    unfilled_events Finished refl refl refl
