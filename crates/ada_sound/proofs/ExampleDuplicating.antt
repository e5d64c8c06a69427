-- A program that meets the premises of the laws, in which an assignment calls an Adjust that allocates: a copy gets an object of its own. With a run where that is
-- granted, and one where it is refused.

use Rattle.std.proofs.Common.{◌≡◌, ℕ, true, false, List, [], ◌∷◌, ◌++◌, refl, arith}
use Rattle.std.specs.Prelude.{Option, Some, None, pos}
use Rattle.ada_program.specs.declared.program.Choice.TheVariants as choice
use Rattle.ada_program.specs.declared.program.ComponentKind.{ComponentKind}
use Rattle.ada_program.specs.declared.program.Declaration.TheVariants as declaration
use Rattle.ada_program.specs.declared.program.Expression.{Integer, Path as Reads}
use Rattle.ada_program.specs.declared.program.Item.TheVariants as item
use Rattle.ada_program.specs.declared.program.Path.{Path}
use Rattle.ada_program.specs.declared.program.PartKind.TheVariants as part
use Rattle.ada_program.specs.declared.program.Procedure.{Procedure}
use Rattle.ada_program.specs.declared.program.Program.{Program}
use Rattle.ada_program.specs.declared.program.RecordPath.{RecordPath}
use Rattle.ada_program.specs.declared.program.Right.TheVariants as right
use Rattle.ada_program.specs.declared.program.Stmt as stmt
use Rattle.ada_program.specs.declared.program.TypeDefinition.{TypeDefinition}
use Rattle.ada_program.specs.declared.program.TypeDefinition.TheVariants as definition
use Rattle.ada_program.specs.Controlled.{operations_of}
use Rattle.ada_program.specs.Form.{declaration_forms, stmt_forms, no_handlers, statement_rules, expression_rules}
use Rattle.ada_program.specs.ProgramForm.{body_forms}
use Rattle.ada_program.specs.WellFormed.{record_components}
use Rattle.ada_flow.specs.Flow.{uses_in, types_of}
use Rattle.ada_meaning.specs.declared.event.Halt.TheVariants.{Finished}
use Rattle.ada_meaning.specs.Named.{next}
use Rattle.ada_meaning.specs.Run.{grants, takes}
use Rattle.ada_sound.specs.Always.{IsChecked, FinishesAfter}
use Rattle.ada_sound.specs.OperationExamples.{overwriting_declarations, duplicating_operations, duplicating_bodies, duplicating_stmts, duplicating_events, duplicating_refused_events, with_keep, AssignsOwner, AllocatesOwner}
use Rattle.ada_sound.specs.Owners.{HasNoAccess}
use Rattle.ada_sound.proofs.Choices.{accepted_in, halts_after_in, around_with}
use Rattle.ada_sound.proofs.Example.{steps, vec, no_name}
use Rattle.ada_sound.proofs.ExampleOwners.{access_to, an_integer, an_access, path}
use Rattle.ada_sound.proofs.ExampleRecords.{object, of_object, record_at, of_object_type}
use Rattle.ada_sound.proofs.ExampleOperations.{of_kind, controlled_type, handles, operation}

-- type Cell is record Value : Integer; end record;
abbrev cell_type : TypeDefinition
cell_type =
    definition.Record no_name (vec (of_kind (part.Elementary an_integer) 0 0 ∷ []) (omega arith)) (vec (an_integer ∷ []) (omega arith)) None

-- Cell; type Link is access Cell; Holder; and what A, B and the formal parameters are known by.
abbrev pub duplicating_types : List TypeDefinition
duplicating_types =
    cell_type
    ∷ access_to 0
    ∷ controlled_type (of_kind part.Parent 0 0 ∷ of_kind (part.Elementary (an_access 1)) 0 1 ∷ []) (omega arith) (an_access 1 ∷ []) (omega arith)
    duplicating_operations
    ∷ definition.Object (record { 0 = 2 })
    ∷ definition.Object (record { 0 = 2 })
    ∷ definition.Object (record { 0 = 2 })
    ∷ definition.Object (record { 0 = 2 })
    ∷ []

-- H.Head.Value
abbrev value_in_head : Path
value_in_head = record (path 0 (record { 0 = 0 } ∷ record { 0 = 0 } ∷ []) (omega arith)) { of_record = true }

-- H.Head := new Cell'(Value => H.Head.Value); exception when others => H.Head := null; and Free (H.Head);
abbrev pub duplicating_procedures : List Procedure
duplicating_procedures =
    operation 5 (stmt.Assign (of_object 0 0) (right.Allocator (record { 0 = 1 }) (vec (item.Value (Reads value_in_head) ∷ []) (omega arith))) ∷ []) (omega arith)
    (handles choice.Others (stmt.Assign (of_object 0 0) right.Null) ∷ []) (omega arith)
    ∷ operation 6 (stmt.Free (record { 0 = 1 }) (of_object 0 0) ∷ []) (omega arith) [] (omega arith)
    ∷ []

-- The record of type Holder that a variable is.
abbrev pub holder_at : ℕ → RecordPath
holder_at x = record (record_at (object x)) { «record» = record { 0 = 2 } }

-- A : Holder; B : Holder; begin A.Head := new Cell'(Value => 7); B := A;
abbrev pub duplicating : Program
duplicating = record {
  types = vec duplicating_types (omega arith);
  pools = vec [] (omega arith);
  procedures = vec duplicating_procedures (omega arith);
  variables = vec (of_object_type 3 ∷ of_object_type 4 ∷ []) (omega arith);
  texts = vec [] (omega arith);
  exceptions = vec [] (omega arith);
  declarations = vec
      (declaration.Collection (record { 0 = 1 }) ∷ declaration.Record (record { 0 = 0 }) (record { 0 = 3 }) None
      ∷ declaration.Record (record { 0 = 1 }) (record { 0 = 4 }) None ∷ []) (omega arith);
  statements = vec
      (stmt.Assign (of_object 0 0) (right.Allocator (record { 0 = 1 }) (vec (item.Value (Integer (pos 7)) ∷ []) (omega arith)))
      ∷ stmt.AssignRecord (holder_at 1) (vec (item.Record (holder_at 0) ∷ []) (omega arith)) ∷ []) (omega arith);
  handlers = vec [] (omega arith);
}

pub duplicating_overrides : operations_of duplicating.types.items 0 ≡ duplicating_operations
duplicating_overrides = refl

pub duplicating_has : body_forms duplicating ≡ duplicating_bodies
duplicating_has = simp (statement_rules, expression_rules)

pub duplicating_declares : declaration_forms duplicating ≡ overwriting_declarations
duplicating_declares = refl

pub duplicating_does : stmt_forms duplicating ≡ duplicating_stmts
duplicating_does = simp (statement_rules, expression_rules)

pub duplicating_accepted : IsChecked duplicating
unfolding uses_in
duplicating_accepted =
    accepted_in duplicating duplicating_bodies duplicating_stmts no_handlers duplicating_has duplicating_does refl _ _ refl refl refl

-- Both cells are granted. At the leaving of the main procedure B is picked, and then A.
pub duplicates : FinishesAfter duplicating_events duplicating
unfolding next
duplicates =
    halts_after_in duplicating duplicating_bodies duplicating_stmts no_handlers duplicating_has duplicating_does refl []
    (steps 12 ++ grants true ∷ steps 28 ++ grants true ∷ steps 10 ++ takes 0 ∷ steps 16 ++ takes 0 ∷ steps 18) duplicating_events Finished refl refl refl

-- The cell of B is refused.
pub is_refused : FinishesAfter duplicating_refused_events duplicating
unfolding next
is_refused =
    halts_after_in duplicating duplicating_bodies duplicating_stmts no_handlers duplicating_has duplicating_does refl []
    (steps 12 ++ grants true ∷ steps 28 ++ grants false ∷ steps 15 ++ takes 0 ∷ steps 13 ++ takes 0 ∷ steps 18) duplicating_refused_events Finished refl refl refl

-- The component Head of a Holder is of an access type.
pub holder_has_access : (found : Option (List ComponentKind)) → found ≡ Some (an_access 1 ∷ []) → HasNoAccess found → ⊥
holder_has_access found is none = none (an_access 1 ∷ []) 0 (record { 0 = 1 }) is refl

-- Where its statements stand, its assignment to B is let through.
pub assigns_owner : AssignsOwner duplicating
assigns_owner = (
  (around_with duplicating duplicating_bodies duplicating_stmts no_handlers, false, _, _, refl),
  holder_has_access (record_components (types_of duplicating) 2) refl,
)

-- So would be an allocator that copies A.
pub allocates_owner : AllocatesOwner duplicating
allocates_owner = (
  (around_with duplicating duplicating_bodies duplicating_stmts no_handlers, false, _, _, refl),
  holder_has_access (record_components (with_keep duplicating) 2) refl,
)
