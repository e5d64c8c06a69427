-- A program that meets the premises of the laws, in which the Initialize of a record object allocates an object with a quiet Initialize and a quiet Finalize,
-- which run inside those of the record object. With a run where that is granted, and one where it is refused, and the record object is undone.

use Rattle.std.proofs.Common.{◌≡◌, true, false, List, [], ◌∷◌, ◌++◌, refl, arith}
use Rattle.std.specs.Prelude.{Some, None, pos}
use Rattle.ada_program.specs.declared.program.Declaration.TheVariants as declaration
use Rattle.ada_program.specs.declared.program.Exception.TheVariants.{StorageError}
use Rattle.ada_program.specs.declared.program.Expression.{Integer, Path as Reads}
use Rattle.ada_program.specs.declared.program.Operations.{Operations}
use Rattle.ada_program.specs.declared.program.PartKind.TheVariants as part
use Rattle.ada_program.specs.declared.program.Procedure.{Procedure}
use Rattle.ada_program.specs.declared.program.Program.{Program}
use Rattle.ada_program.specs.declared.program.Right.TheVariants as right
use Rattle.ada_program.specs.declared.program.Stmt as stmt
use Rattle.ada_program.specs.declared.program.TypeDefinition.{TypeDefinition}
use Rattle.ada_program.specs.declared.program.TypeDefinition.TheVariants as definition
use Rattle.ada_program.specs.Controlled.{operations_of}
use Rattle.ada_program.specs.Form.{declaration_forms, stmt_forms, no_handlers, statement_rules, expression_rules}
use Rattle.ada_program.specs.ProgramForm.{body_forms}
use Rattle.ada_flow.specs.Flow.{uses_in}
use Rattle.ada_meaning.specs.declared.event.Halt.TheVariants.{Finished, Unhandled}
use Rattle.ada_meaning.specs.Named.{next}
use Rattle.ada_meaning.specs.Run.{grants, takes}
use Rattle.ada_sound.specs.Always.{IsChecked, FinishesAfter, HaltsAfter}
use Rattle.ada_sound.specs.OperationExamples.{tag_operations, equipping_operations, equipping_bodies, equipping_declarations, equipping_stmts, equipping_events, unequipped_events}
use Rattle.ada_sound.proofs.Choices.{accepted_in, halts_after_in}
use Rattle.ada_sound.proofs.Example.{steps, vec, no_name}
use Rattle.ada_sound.proofs.ExampleOwners.{access_to, an_integer, an_access}
use Rattle.ada_sound.proofs.ExampleRecords.{of_object, of_object_type}
use Rattle.ada_sound.proofs.ExampleOperations.{of_kind, operation}

-- type Tag is new Limited_Controlled with record Value : Integer; end record;
abbrev pub tag_by : Operations → TypeDefinition
tag_by operations =
    definition.Record no_name (vec (of_kind part.Parent 0 0 ∷ of_kind (part.Elementary an_integer) 0 1 ∷ []) (omega arith)) (vec (an_integer ∷ []) (omega arith))
    (Some (record { number = record { 0 = 0 }; parts = 1; limited = true; operations = operations }))

-- type Box is new Limited_Controlled with record Held : Label; end record;
abbrev pub box_by : Operations → TypeDefinition
box_by operations =
    definition.Record no_name (vec (of_kind part.Parent 0 0 ∷ of_kind (part.Elementary (an_access 1)) 0 1 ∷ []) (omega arith)) (vec (an_access 1 ∷ []) (omega arith))
    (Some (record { number = record { 0 = 1 }; parts = 1; limited = true; operations = operations }))

-- Tag; type Label is access Tag; Box; and what B and the formal parameters are known by.
abbrev pub equipping_types : List TypeDefinition
equipping_types =
    tag_by tag_operations
    ∷ access_to 0
    ∷ box_by equipping_operations
    ∷ definition.Object (record { 0 = 2 })
    ∷ definition.Object (record { 0 = 0 })
    ∷ definition.Object (record { 0 = 0 })
    ∷ definition.Object (record { 0 = 2 })
    ∷ definition.Object (record { 0 = 2 })
    ∷ []

-- T.Value := 7;
abbrev pub initializes_tag : Procedure
initializes_tag = operation 4 (stmt.Assign (of_object 0 0) (right.Value (Integer (pos 7))) ∷ []) (omega arith) [] (omega arith)

-- Put_Line (Integer'Image (T.Value));
abbrev pub finalizes_tag : Procedure
finalizes_tag = operation 5 (stmt.PutImage (Reads (of_object 0 0)) ∷ []) (omega arith) [] (omega arith)

-- Free (B.Held);
abbrev pub frees_tag : Procedure
frees_tag = operation 7 (stmt.Free (record { 0 = 1 }) (of_object 0 0) ∷ []) (omega arith) [] (omega arith)

-- B.Held := new Tag;
abbrev pub initializes_box : Procedure
initializes_box = operation 6 (stmt.Assign (of_object 0 0) (right.Default (record { 0 = 1 })) ∷ []) (omega arith) [] (omega arith)

-- B : Box; begin null;
abbrev pub equipping : Program
equipping = record {
  types = vec equipping_types (omega arith);
  pools = vec [] (omega arith);
  procedures = vec (initializes_tag ∷ finalizes_tag ∷ initializes_box ∷ frees_tag ∷ []) (omega arith);
  variables = vec (of_object_type 3 ∷ []) (omega arith);
  texts = vec [] (omega arith);
  exceptions = vec [] (omega arith);
  declarations = vec (declaration.Collection (record { 0 = 1 }) ∷ declaration.Record (record { 0 = 0 }) (record { 0 = 3 }) None ∷ []) (omega arith);
  statements = vec (stmt.Null ∷ []) (omega arith);
  handlers = vec [] (omega arith);
}

pub tag_overrides : operations_of equipping.types.items 0 ≡ tag_operations
tag_overrides = refl

pub box_overrides : operations_of equipping.types.items 1 ≡ equipping_operations
box_overrides = refl

pub equipping_has : body_forms equipping ≡ equipping_bodies
equipping_has = simp (statement_rules, expression_rules)

pub equipping_declares : declaration_forms equipping ≡ equipping_declarations
equipping_declares = refl

pub equipping_does : stmt_forms equipping ≡ equipping_stmts
equipping_does = simp statement_rules

pub equipping_accepted : IsChecked equipping
unfolding uses_in
equipping_accepted = accepted_in equipping equipping_bodies equipping_stmts no_handlers equipping_has equipping_does refl _ _ refl refl refl

-- The tag is granted, and B is picked at the leaving of the main procedure.
pub equips : FinishesAfter equipping_events equipping
unfolding next
equips =
    halts_after_in equipping equipping_bodies equipping_stmts no_handlers equipping_has equipping_does refl []
    (steps 7 ++ grants true ∷ steps 25 ++ takes 0 ∷ steps 29) equipping_events Finished refl refl refl

-- The tag is refused.
pub is_refused : HaltsAfter unequipped_events (Unhandled StorageError) equipping
unfolding next
is_refused =
    halts_after_in equipping equipping_bodies equipping_stmts no_handlers equipping_has equipping_does refl []
    (steps 7 ++ grants false ∷ steps 14) unequipped_events (Unhandled StorageError) refl refl refl
