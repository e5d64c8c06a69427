-- A program that meets the premises of the laws, in which the Finalize of an object that a component frees declares a record object with a Finalize of its own.

use Rattle.std.proofs.Common.{◌≡◌, ◌⊎◌, inr, true, List, [], ◌∷◌, ◌++◌, refl, arith}
use Rattle.std.specs.Prelude.{Some, None}
use Rattle.ada_program.specs.declared.program.Declaration.TheVariants as declaration
use Rattle.ada_program.specs.declared.program.Expression.{Path as Reads}
use Rattle.ada_program.specs.declared.program.FormalMode.TheVariants.{InOut}
use Rattle.ada_program.specs.declared.program.PartKind.TheVariants as part
use Rattle.ada_program.specs.declared.program.Procedure.{Procedure}
use Rattle.ada_program.specs.declared.program.Program.{Program}
use Rattle.ada_program.specs.declared.program.Right.TheVariants as right
use Rattle.ada_program.specs.declared.program.Stmt as stmt
use Rattle.ada_program.specs.declared.program.TypeDefinition.{TypeDefinition}
use Rattle.ada_program.specs.declared.program.TypeDefinition.TheVariants as definition
use Rattle.ada_program.specs.Controlled.{operations_of}
use Rattle.ada_program.specs.Form.{declaration_forms, stmt_forms, no_handlers, statement_rules, expression_rules}
use Rattle.ada_program.specs.ProgramForm.{body_forms}
use Rattle.ada_flow.specs.Flow.{uses_in}
use Rattle.ada_meaning.specs.declared.event.Halt.TheVariants.{Finished}
use Rattle.ada_meaning.specs.Named.{State, next}
use Rattle.ada_meaning.specs.Run.{Choice, grants, takes}
use Rattle.ada_meaning.proofs.Beginnings.{statements_begin}
use Rattle.ada_sound.specs.Agreement.{RunsPlainly, RunsTracking}
use Rattle.ada_sound.specs.Always.{IsChecked, InSomeRun, FinishesAfter}
use Rattle.ada_sound.specs.OperationExamples.{equipping_declarations, equipping_stmts, IsSpokenOfInside}
use Rattle.ada_sound.specs.MeteringExample.{meter_operations, metered_operations, metering_operations, metering_finalize, metering_bodies, metering_events}
use Rattle.ada_sound.proofs.Choices.{accepted_in, run_in, last, halts_after_in}
use Rattle.ada_sound.proofs.Example.{steps, vec, wide_vec, no_name, spot}
use Rattle.ada_sound.proofs.ExampleEquipping.{frees_tag, initializes_box, initializes_tag, tag_by, box_by}
use Rattle.ada_sound.proofs.ExampleInside.{operates_here, runs_neither}
use Rattle.ada_sound.proofs.ExampleOperations.{of_kind, operation}
use Rattle.ada_sound.proofs.ExampleOwners.{access_to, an_integer}
use Rattle.ada_sound.proofs.ExampleRecords.{of_object, of_object_type}

-- type Meter is new Limited_Controlled with record Value : Integer; end record;
abbrev meter_type : TypeDefinition
meter_type =
    definition.Record no_name (vec (of_kind part.Parent 0 0 ∷ of_kind (part.Elementary an_integer) 0 1 ∷ []) (omega arith)) (vec (an_integer ∷ []) (omega arith))
    (Some (record { number = record { 0 = 2 }; parts = 1; limited = true; operations = meter_operations }))

-- Tag; type Label is access Tag; Box; what B and the formal parameters are known by; Meter; and what M and the formal parameter of its Finalize are known by.
abbrev metering_types : List TypeDefinition
metering_types =
    tag_by metered_operations
    ∷ access_to 0
    ∷ box_by metering_operations
    ∷ definition.Object (record { 0 = 2 })
    ∷ definition.Object (record { 0 = 0 })
    ∷ definition.Object (record { 0 = 0 })
    ∷ definition.Object (record { 0 = 2 })
    ∷ definition.Object (record { 0 = 2 })
    ∷ meter_type
    ∷ definition.Object (record { 0 = 8 })
    ∷ definition.Object (record { 0 = 8 })
    ∷ []

-- Put_Line (Integer'Image (M.Value));
abbrev finalizes_meter : Procedure
finalizes_meter = operation 10 (stmt.PutImage (Reads (of_object 0 0)) ∷ []) (omega arith) [] (omega arith)

-- M : Meter; begin M.Value := T.Value;
abbrev metering_procedure : Procedure
metering_procedure = record {
  formals = vec (InOut ∷ []) (omega arith);
  variables = vec (of_object_type 5 ∷ of_object_type 9 ∷ []) (omega arith);
  declarations = vec (declaration.Record (record { 0 = 1 }) (record { 0 = 9 }) None ∷ []) (omega arith);
  statements = vec (stmt.Assign (of_object 1 0) (right.Value (Reads (of_object 0 0))) ∷ []) (omega arith);
  handlers = vec [] (omega arith);
  start = spot;
  end = spot;
}

-- B : Box; begin null;
abbrev pub metering : Program
metering = record {
  types = wide_vec metering_types (omega arith);
  pools = vec [] (omega arith);
  procedures = vec (finalizes_meter ∷ initializes_tag ∷ metering_procedure ∷ initializes_box ∷ frees_tag ∷ []) (omega arith);
  variables = vec (of_object_type 3 ∷ []) (omega arith);
  texts = vec [] (omega arith);
  exceptions = vec [] (omega arith);
  declarations = vec (declaration.Collection (record { 0 = 1 }) ∷ declaration.Record (record { 0 = 0 }) (record { 0 = 3 }) None ∷ []) (omega arith);
  statements = vec (stmt.Null ∷ []) (omega arith);
  handlers = vec [] (omega arith);
}

pub tag_overrides : operations_of metering.types.items 0 ≡ metered_operations
tag_overrides = refl

pub box_overrides : operations_of metering.types.items 1 ≡ metering_operations
box_overrides = refl

pub meter_overrides : operations_of metering.types.items 2 ≡ meter_operations
meter_overrides = refl

pub metering_has : body_forms metering ≡ metering_bodies
metering_has = simp (statement_rules, expression_rules)

pub metering_declares : declaration_forms metering ≡ equipping_declarations
metering_declares = refl

pub metering_does : stmt_forms metering ≡ equipping_stmts
metering_does = simp statement_rules

pub metering_accepted : IsChecked metering
unfolding uses_in
metering_accepted = accepted_in metering metering_bodies equipping_stmts no_handlers metering_has metering_does refl _ _ refl refl refl

-- The tag is granted, B is picked at the leaving of the main procedure, and M at that of the Finalize of the tag.
pub meters : FinishesAfter metering_events metering
unfolding next
meters =
    halts_after_in metering metering_bodies equipping_stmts no_handlers metering_has metering_does refl []
    (steps 7 ++ grants true ∷ steps 25 ++ takes 0 ∷ steps 16 ++ takes 0 ∷ steps 31) metering_events Finished refl refl refl

-- The statement of that Finalize begins: flow speaks of that.
abbrev to_statements : List Choice
to_statements = steps 7 ++ grants true ∷ steps 25 ++ takes 0 ∷ steps 8

abbrev inside : State
inside = last metering [] metering_bodies equipping_stmts no_handlers to_statements

neither : RunsPlainly metering inside ⊎ RunsTracking metering inside → ⊥
unfolding next
neither = runs_neither metering inside metering_bodies 2 metering_finalize metering_has refl refl refl refl

pub is_spoken_of : InSomeRun metering (λ events s. IsSpokenOfInside metering s)
unfolding next
is_spoken_of =
    run_in metering metering_bodies equipping_stmts no_handlers metering_has metering_does refl [] to_statements (λ events s. IsSpokenOfInside metering s) refl
    ((statements_begin inside).0 refl, operates_here inside.control refl, inr neither)
