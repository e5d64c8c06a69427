-- A program that meets the premises of the laws, in which the declaration of a record object by its value calls an Adjust that allocates. With a run where that is
-- granted, and one where it is refused.

use Rattle.std.proofs.Common.{◌≡◌, true, false, [], ◌∷◌, ◌++◌, refl, arith}
use Rattle.std.specs.Prelude.{Some, None, pos}
use Rattle.ada_program.specs.declared.program.Declaration.TheVariants as declaration
use Rattle.ada_program.specs.declared.program.Expression.{Integer}
use Rattle.ada_program.specs.declared.program.Item.TheVariants as item
use Rattle.ada_program.specs.declared.program.Program.{Program}
use Rattle.ada_program.specs.declared.program.Right.TheVariants as right
use Rattle.ada_program.specs.declared.program.Stmt.{Stmt}
use Rattle.ada_program.specs.declared.program.Stmt as stmt
use Rattle.ada_program.specs.Controlled.{operations_of}
use Rattle.ada_program.specs.Form.{declaration_forms, stmt_forms, no_handlers, statement_rules, expression_rules}
use Rattle.ada_program.specs.ProgramForm.{body_forms}
use Rattle.ada_program.specs.WellFormed.{reached_components}
use Rattle.ada_flow.specs.Flow.{uses_in, types_of}
use Rattle.ada_meaning.specs.declared.event.Halt.TheVariants.{Finished}
use Rattle.ada_meaning.specs.Named.{next}
use Rattle.ada_meaning.specs.Run.{grants, takes}
use Rattle.ada_sound.specs.Always.{IsChecked, FinishesAfter}
use Rattle.ada_sound.specs.OperationExamples.{tidying_declarations, duplicating_operations, duplicating_bodies, copying_stmts, copying_events, copying_refused_events, DeclaresOwner}
use Rattle.ada_sound.proofs.Choices.{accepted_in, halts_after_in, implicit_with}
use Rattle.ada_sound.proofs.Example.{steps, vec}
use Rattle.ada_sound.proofs.ExampleRecords.{of_object, of_object_type}
use Rattle.ada_sound.proofs.ExampleDuplicating.{duplicating_types, duplicating_procedures, holder_at, holder_has_access}

-- declare B : Holder := A; begin null; end;
abbrev copying_block : Stmt
copying_block =
    stmt.Block
    (vec (declaration.Record (record { 0 = 1 }) (record { 0 = 4 }) (Some (vec (item.Record (holder_at 0) ∷ []) (omega arith))) ∷ []) (omega arith))
    (vec (stmt.Null ∷ []) (omega arith)) (vec [] (omega arith))

-- A : Holder; begin A.Head := new Cell'(Value => 7); declare .. end;
abbrev pub copying : Program
copying = record {
  types = vec duplicating_types (omega arith);
  pools = vec [] (omega arith);
  procedures = vec duplicating_procedures (omega arith);
  variables = vec (of_object_type 3 ∷ of_object_type 4 ∷ []) (omega arith);
  texts = vec [] (omega arith);
  exceptions = vec [] (omega arith);
  declarations = vec (declaration.Collection (record { 0 = 1 }) ∷ declaration.Record (record { 0 = 0 }) (record { 0 = 3 }) None ∷ []) (omega arith);
  statements = vec
      (stmt.Assign (of_object 0 0) (right.Allocator (record { 0 = 1 }) (vec (item.Value (Integer (pos 7)) ∷ []) (omega arith))) ∷ copying_block ∷ []) (omega arith);
  handlers = vec [] (omega arith);
}

pub copying_overrides : operations_of copying.types.items 0 ≡ duplicating_operations
copying_overrides = refl

pub copying_has : body_forms copying ≡ duplicating_bodies
copying_has = simp (statement_rules, expression_rules)

pub copying_declares : declaration_forms copying ≡ tidying_declarations
copying_declares = refl

pub copying_does : stmt_forms copying ≡ copying_stmts
copying_does = simp (statement_rules, expression_rules)

pub copying_accepted : IsChecked copying
unfolding uses_in
copying_accepted = accepted_in copying duplicating_bodies copying_stmts no_handlers copying_has copying_does refl _ _ refl refl refl

-- Both cells are granted. At the leaving of the block B is picked, and at that of the main procedure A.
pub copies : FinishesAfter copying_events copying
unfolding next
copies =
    halts_after_in copying duplicating_bodies copying_stmts no_handlers copying_has copying_does refl []
    (steps 10 ++ grants true ∷ steps 16 ++ grants true ∷ steps 12 ++ takes 0 ∷ steps 20 ++ takes 0 ∷ steps 18) copying_events Finished refl refl refl

-- The cell of B is refused.
pub is_refused : FinishesAfter copying_refused_events copying
unfolding next
is_refused =
    halts_after_in copying duplicating_bodies copying_stmts no_handlers copying_has copying_does refl []
    (steps 10 ++ grants true ∷ steps 16 ++ grants false ∷ steps 17 ++ takes 0 ∷ steps 17 ++ takes 0 ∷ steps 18) copying_refused_events Finished refl refl refl

-- By what is known of its operations, its declaration of B is let through.
pub declares_owner : DeclaresOwner copying
declares_owner = (implicit_with copying duplicating_bodies copying_stmts no_handlers, _, _, refl, holder_has_access (reached_components (types_of copying) 4) refl)
