-- A run of a program that overrides Finalize, in which the body of that is entered while the main procedure is being left.

use Rattle.std.proofs.Common.{◌≡◌, ℕ, List, [], ◌∷◌, ◌++◌, map, true, false, Option, Some, None, refl}
use Rattle.std.proofs.lemmas.List.Elements.{All-head}
use Rattle.ada_program.specs.declared.program.FormalMode.TheVariants.{InOut}
use Rattle.ada_program.specs.declared.program.VariableKind.TheVariants as variable
use Rattle.ada_program.specs.Form.{expression_form, stmt_form, skips, StmtsForm, no_stmts, a_stmt, no_handlers, stmt_forms, statement_rules}
use Rattle.ada_program.specs.ProgramForm.{BodyForm, variable_form, body_forms}
use Rattle.ada_meaning.specs.Named.{next}
use Rattle.ada_meaning.specs.State.{collection, Master}
use Rattle.ada_meaning.specs.Run.{grants, takes}
use Rattle.ada_order.specs.Example.{InSomeRun}
use Rattle.ada_order.proofs.Choices.{run_by}
use Rattle.ada_scopes.specs.Scopes.{type_collected}
use Rattle.ada_scopes.proofs.Example.{steps, no_name}
use Rattle.ada_scopes.proofs.OperationExample.{program}
use Rattle.ada_anywhere.specs.Anywhere.{OwnsNoCollection}
use Rattle.ada_anywhere.specs.Example.{RunsWhileCollected}

-- Its statements, and the body of its Finalize.
abbrev forms : StmtsForm
forms = a_stmt skips no_stmts

abbrev bodies : List BodyForm
bodies = record {
  formals = InOut ∷ [];
  variables = map variable_form (record { name = no_name; spot = record { line = 1; column = 1 }; kind = variable.Record (record { 0 = 4 }); borrows = false } ∷ []);
  declarations = [];
  statements = a_stmt skips no_stmts;
  handlers = no_handlers;
  start_spot = record { line = 1; column = 1 };
  end_spot = record { line = 1; column = 1 };
} ∷ []

forms_are : stmt_forms program ≡ forms
forms_are = simp statement_rules

bodies_are : body_forms program ≡ bodies
bodies_are = simp statement_rules

-- What the main procedure is once its newest collection is gone.
abbrev main : Master
main = record { number = 0; items = record { number = 0; owned = collection 1 (Some 0) } ∷ [] }

owns_one : (access : ℕ) (pool : Option ℕ) → type_collected (collection access pool) ≡ None → ⊥
owns_one access pool none = absurd (cc none)

main_collects : OwnsNoCollection main → ⊥
main_collects none = owns_one 1 (Some 0) (All-head (λ i. type_collected i.owned ≡ None) (record { number = 0; owned = collection 1 (Some 0) }) [] none)

-- The variables of the main procedure and its newest collection are gone, and an object of the other one is being finalized.
pub collected : InSomeRun program (λ events last. RunsWhileCollected last)
unfolding next expression_form stmt_form
collected =
    run_by program bodies forms bodies_are forms_are (steps 4 ++ grants true ∷ steps 4 ++ grants true ∷ steps 10 ++ takes 0 ∷ steps 1)
    (λ events last. RunsWhileCollected last) refl
    (record {
      called = _;
      main = main;
      entered = refl;
      since = refl;
      collects = main_collects;
    })
