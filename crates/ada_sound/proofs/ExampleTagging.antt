-- A program that meets the premises of the laws, in which the Initialize of a record object declares one and allocates one in its own declarations, both with
-- operations of their own. With a run where the request is granted, and the declared one is finalized inside the Initialize, and one where it is refused.

use Rattle.std.proofs.Common.{◌≡◌, ◌⊎◌, inr, true, false, List, [], ◌∷◌, ◌++◌, refl, arith}
use Rattle.std.specs.Prelude.{Some, None, pos}
use Rattle.ada_program.specs.declared.program.Declaration.TheVariants as declaration
use Rattle.ada_program.specs.declared.program.Exception.TheVariants.{StorageError}
use Rattle.ada_program.specs.declared.program.Expression.{Integer}
use Rattle.ada_program.specs.declared.program.FormalMode.TheVariants.{InOut}
use Rattle.ada_program.specs.declared.program.Procedure.{Procedure}
use Rattle.ada_program.specs.declared.program.Program.{Program}
use Rattle.ada_program.specs.declared.program.Right.TheVariants as right
use Rattle.ada_program.specs.declared.program.Stmt as stmt
use Rattle.ada_program.specs.declared.program.TypeDefinition.TheVariants as definition
use Rattle.ada_program.specs.Controlled.{operations_of}
use Rattle.ada_program.specs.Form.{declaration_forms, stmt_forms, no_handlers, statement_rules, expression_rules}
use Rattle.ada_program.specs.ProgramForm.{body_forms}
use Rattle.ada_flow.specs.Flow.{uses_in}
use Rattle.ada_meaning.specs.declared.event.Halt.TheVariants.{Finished, Unhandled}
use Rattle.ada_meaning.specs.Named.{State, next}
use Rattle.ada_meaning.specs.Run.{Choice, grants, takes}
use Rattle.ada_meaning.proofs.Beginnings.{statements_begin}
use Rattle.ada_sound.specs.Agreement.{RunsPlainly, RunsTracking}
use Rattle.ada_sound.specs.Always.{IsChecked, InSomeRun, FinishesAfter, HaltsAfter}
use Rattle.ada_sound.specs.OperationExamples.{tag_operations, equipping_operations, equipping_declarations, equipping_stmts, IsSpokenOfInside}
use Rattle.ada_sound.specs.TaggingExample.{tagging_initialize, tagging_bodies, tagging_events, untagged_events}
use Rattle.ada_sound.proofs.Choices.{accepted_in, run_in, last, halts_after_in}
use Rattle.ada_sound.proofs.Example.{steps, vec, wide_vec, spot, link}
use Rattle.ada_sound.proofs.ExampleEquipping.{equipping_types, initializes_tag, finalizes_tag, frees_tag}
use Rattle.ada_sound.proofs.ExampleInside.{operates_here, runs_neither}
use Rattle.ada_sound.proofs.ExampleOwners.{whole}
use Rattle.ada_sound.proofs.ExampleRecords.{of_object, of_object_type}

-- T : Tag; L : Label := new Tag; begin T.Value := 8; B.Held := L;
abbrev tagging_procedure : Procedure
tagging_procedure = record {
  formals = vec (InOut ∷ []) (omega arith);
  variables = vec (of_object_type 6 ∷ of_object_type 8 ∷ link ∷ []) (omega arith);
  declarations = vec
      (declaration.Record (record { 0 = 1 }) (record { 0 = 8 }) None ∷ declaration.Variable (record { 0 = 2 }) (Some (right.Default (record { 0 = 1 }))) ∷ [])
      (omega arith);
  statements = vec (stmt.Assign (of_object 1 0) (right.Value (Integer (pos 8))) ∷ stmt.Assign (of_object 0 0) (right.Path (whole 2)) ∷ []) (omega arith);
  handlers = vec [] (omega arith);
  start = spot;
  end = spot;
}

-- B : Box; begin null;
abbrev pub tagging : Program
tagging = record {
  types = wide_vec (equipping_types ++ definition.Object (record { 0 = 0 }) ∷ []) (omega arith);
  pools = vec [] (omega arith);
  procedures = vec (initializes_tag ∷ finalizes_tag ∷ tagging_procedure ∷ frees_tag ∷ []) (omega arith);
  variables = vec (of_object_type 3 ∷ []) (omega arith);
  texts = vec [] (omega arith);
  exceptions = vec [] (omega arith);
  declarations = vec (declaration.Collection (record { 0 = 1 }) ∷ declaration.Record (record { 0 = 0 }) (record { 0 = 3 }) None ∷ []) (omega arith);
  statements = vec (stmt.Null ∷ []) (omega arith);
  handlers = vec [] (omega arith);
}

pub tag_overrides : operations_of tagging.types.items 0 ≡ tag_operations
tag_overrides = refl

pub box_overrides : operations_of tagging.types.items 1 ≡ equipping_operations
box_overrides = refl

pub tagging_has : body_forms tagging ≡ tagging_bodies
tagging_has = simp (statement_rules, expression_rules)

pub tagging_declares : declaration_forms tagging ≡ equipping_declarations
tagging_declares = refl

pub tagging_does : stmt_forms tagging ≡ equipping_stmts
tagging_does = simp statement_rules

pub tagging_accepted : IsChecked tagging
unfolding uses_in
tagging_accepted = accepted_in tagging tagging_bodies equipping_stmts no_handlers tagging_has tagging_does refl _ _ refl refl refl

-- The new tag is granted, T is picked at the leaving of the Initialize of B, and B at that of the main procedure.
pub tags : FinishesAfter tagging_events tagging
unfolding next
tags =
    halts_after_in tagging tagging_bodies equipping_stmts no_handlers tagging_has tagging_does refl []
    (steps 19 ++ grants true ∷ steps 28 ++ takes 0 ∷ steps 22 ++ takes 0 ∷ steps 29) tagging_events Finished refl refl refl

-- The new tag is refused, and T is picked there, too.
pub is_refused : HaltsAfter untagged_events (Unhandled StorageError) tagging
unfolding next
is_refused =
    halts_after_in tagging tagging_bodies equipping_stmts no_handlers tagging_has tagging_does refl []
    (steps 19 ++ grants false ∷ steps 2 ++ takes 0 ∷ steps 24) untagged_events (Unhandled StorageError) refl refl refl

-- The statements of that Initialize begin: flow speaks of that.
abbrev to_statements : List Choice
to_statements = steps 19 ++ grants true ∷ steps 15

abbrev inside : State
inside = last tagging [] tagging_bodies equipping_stmts no_handlers to_statements

neither : RunsPlainly tagging inside ⊎ RunsTracking tagging inside → ⊥
unfolding next
neither = runs_neither tagging inside tagging_bodies 2 tagging_initialize tagging_has refl refl refl refl

pub is_spoken_of : InSomeRun tagging (λ events s. IsSpokenOfInside tagging s)
unfolding next
is_spoken_of =
    run_in tagging tagging_bodies equipping_stmts no_handlers tagging_has tagging_does refl [] to_statements (λ events s. IsSpokenOfInside tagging s) refl
    ((statements_begin inside).0 refl, operates_here inside.control refl, inr neither)
