-- A program that meets the premises of the laws, in which an assignment adjusts two parts of a record, whose Adjust allocates: each part of the copy gets an object of
-- its own. With a run where both are granted, and one where the second one is refused.

use Rattle.std.proofs.Common.{◌≡◌, ℕ, true, false, List, [], ◌∷◌, ◌++◌, refl, arith}
use Rattle.std.specs.Prelude.{Some, None, pos}
use Rattle.ada_program.specs.declared.program.Declaration.TheVariants as declaration
use Rattle.ada_program.specs.declared.program.Expression.{Integer}
use Rattle.ada_program.specs.declared.program.Item.TheVariants as item
use Rattle.ada_program.specs.declared.program.PartKind.TheVariants as part
use Rattle.ada_program.specs.declared.program.Program.{Program}
use Rattle.ada_program.specs.declared.program.RecordPath.{RecordPath}
use Rattle.ada_program.specs.declared.program.Right.{Right}
use Rattle.ada_program.specs.declared.program.Right.TheVariants as right
use Rattle.ada_program.specs.declared.program.Stmt as stmt
use Rattle.ada_program.specs.declared.program.TypeDefinition.{TypeDefinition}
use Rattle.ada_program.specs.declared.program.TypeDefinition.TheVariants as definition
use Rattle.ada_program.specs.Controlled.{no_operations, operations_of}
use Rattle.ada_program.specs.Form.{declaration_forms, stmt_forms, no_handlers, statement_rules, expression_rules}
use Rattle.ada_program.specs.ProgramForm.{body_forms}
use Rattle.ada_flow.specs.Flow.{uses_in}
use Rattle.ada_meaning.specs.declared.event.Halt.TheVariants.{Finished}
use Rattle.ada_meaning.specs.Named.{next}
use Rattle.ada_meaning.specs.Run.{Choice, grants, takes}
use Rattle.ada_sound.specs.Always.{IsChecked, FinishesAfter}
use Rattle.ada_sound.specs.OperationExamples.{duplicating_operations, duplicating_bodies, pairing_declarations, pairing_stmts, pairing_events, pairing_refused_events}
use Rattle.ada_sound.proofs.Choices.{accepted_in, halts_after_in}
use Rattle.ada_sound.proofs.ExampleDuplicating.{duplicating_procedures}
use Rattle.ada_sound.proofs.Example.{steps, vec, no_name}
use Rattle.ada_sound.proofs.ExampleOwners.{access_to, an_integer, an_access}
use Rattle.ada_sound.proofs.ExampleRecords.{object, of_object, record_at, of_object_type}
use Rattle.ada_sound.proofs.ExampleOperations.{of_kind, controlled_type}

-- type Cell is record Value : Integer; end record;
abbrev cell_type : TypeDefinition
cell_type =
    definition.Record no_name (vec (of_kind (part.Elementary an_integer) 0 0 ∷ []) (omega arith)) (vec (an_integer ∷ []) (omega arith)) None

-- type Pair is record Left, Right : Holder; end record;
abbrev pair_type : TypeDefinition
pair_type =
    definition.Record no_name
    (vec (of_kind (part.Record (record { 0 = 2 })) 0 0 ∷ of_kind (part.Record (record { 0 = 2 })) 1 1 ∷ []) (omega arith))
    (vec (an_access 1 ∷ an_access 1 ∷ []) (omega arith))
    (Some (record { number = record { 0 = 1 }; parts = 2; limited = false; operations = no_operations }))

-- Cell; type Link is access Cell; Holder; Pair; and what A, the formal parameters and B are known by.
abbrev pairing_types : List TypeDefinition
pairing_types =
    cell_type
    ∷ access_to 0
    ∷ controlled_type (of_kind part.Parent 0 0 ∷ of_kind (part.Elementary (an_access 1)) 0 1 ∷ []) (omega arith) (an_access 1 ∷ []) (omega arith)
    duplicating_operations
    ∷ pair_type
    ∷ definition.Object (record { 0 = 3 })
    ∷ definition.Object (record { 0 = 2 })
    ∷ definition.Object (record { 0 = 2 })
    ∷ definition.Object (record { 0 = 3 })
    ∷ []

-- The record of type Pair that a variable is.
abbrev pair_at : ℕ → RecordPath
pair_at x = record (record_at (object x)) { «record» = record { 0 = 3 } }

-- new Cell'(Value => ..);
abbrev new_cell_of : ℕ → Right
new_cell_of value = right.Allocator (record { 0 = 1 }) (vec (item.Value (Integer (pos value)) ∷ []) (omega arith))

-- A : Pair; B : Pair; begin A.Left.Head := new Cell'(Value => 7); A.Right.Head := new Cell'(Value => 8); B := A;
abbrev pub pairing : Program
pairing = record {
  types = vec pairing_types (omega arith);
  pools = vec [] (omega arith);
  procedures = vec duplicating_procedures (omega arith);
  variables = vec (of_object_type 4 ∷ of_object_type 7 ∷ []) (omega arith);
  texts = vec [] (omega arith);
  exceptions = vec [] (omega arith);
  declarations = vec
      (declaration.Collection (record { 0 = 1 }) ∷ declaration.Record (record { 0 = 0 }) (record { 0 = 4 }) None
      ∷ declaration.Record (record { 0 = 1 }) (record { 0 = 7 }) None ∷ []) (omega arith);
  statements = vec
      (stmt.Assign (of_object 0 0) (new_cell_of 7) ∷ stmt.Assign (of_object 0 1) (new_cell_of 8)
      ∷ stmt.AssignRecord (pair_at 1) (vec (item.Record (pair_at 0) ∷ []) (omega arith)) ∷ []) (omega arith);
  handlers = vec [] (omega arith);
}

pub pairing_overrides : operations_of pairing.types.items 0 ≡ duplicating_operations
pairing_overrides = refl

pub pairing_has : body_forms pairing ≡ duplicating_bodies
pairing_has = simp (statement_rules, expression_rules)

pub pairing_declares : declaration_forms pairing ≡ pairing_declarations
pairing_declares = refl

pub pairing_does : stmt_forms pairing ≡ pairing_stmts
pairing_does = simp (statement_rules, expression_rules)

pub pairing_accepted : IsChecked pairing
unfolding uses_in
pairing_accepted =
    accepted_in pairing duplicating_bodies pairing_stmts no_handlers pairing_has pairing_does refl _ _ refl refl refl

-- Up to the copy; then Right is picked before Left, where B is adjusted.
abbrev pairing_so_far : List Choice
pairing_so_far =
    steps 2 ++ takes 0 ∷ steps 1 ++ takes 0 ∷ steps 2 ++ takes 0 ∷ steps 1 ++ takes 0 ∷ steps 8 ++ grants true ∷ steps 7 ++ grants true
    ∷ steps 7 ++ takes 0 ∷ steps 10 ++ takes 0 ∷ steps 12 ++ takes 1 ∷ []

-- Each cell is granted. At the leaving of the main procedure B is picked, and Right of it before Left; and so it is with A.
pub pairs : FinishesAfter pairing_events pairing
unfolding next
pairs =
    halts_after_in pairing duplicating_bodies pairing_stmts no_handlers pairing_has pairing_does refl []
    (pairing_so_far ++ steps 9 ++ grants true ∷ steps 7 ++ takes 0 ∷ steps 9 ++ grants true ∷ steps 10 ++ takes 0 ∷ takes 0 ∷ steps 13 ++ takes 0
    ∷ steps 16 ++ takes 0 ∷ takes 0 ∷ steps 13 ++ takes 0 ∷ steps 18) pairing_events Finished refl refl refl

-- The last one is refused.
pub is_refused : FinishesAfter pairing_refused_events pairing
unfolding next
is_refused =
    halts_after_in pairing duplicating_bodies pairing_stmts no_handlers pairing_has pairing_does refl []
    (pairing_so_far ++ steps 9 ++ grants true ∷ steps 7 ++ takes 0 ∷ steps 9 ++ grants false ∷ steps 15 ++ takes 0 ∷ takes 0 ∷ steps 13 ++ takes 0
    ∷ steps 13 ++ takes 0 ∷ takes 0 ∷ steps 13 ++ takes 0 ∷ steps 18) pairing_refused_events Finished refl refl refl
