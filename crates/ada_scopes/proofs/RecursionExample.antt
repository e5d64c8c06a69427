-- A Finalize that creates a collection and an object of its own type: it is called once more while that collection is open.

use Rattle.std.proofs.Common.{◌≡◌, ℕ, Bool, true, false, List, [], ◌∷◌, ◌++◌, map, refl, ap, arith}
use Rattle.std.specs.Prelude.{None, Some, pos, AllPairs}
use Rattle.ada_program.specs.declared.program.ComponentKind.TheVariants as kind
use Rattle.ada_program.specs.declared.program.Declaration.TheVariants as declaration
use Rattle.ada_program.specs.declared.program.FormalMode.TheVariants.{InOut}
use Rattle.ada_program.specs.declared.program.Operations.{Operations}
use Rattle.ada_program.specs.declared.program.PartKind.TheVariants as part
use Rattle.ada_program.specs.declared.program.Program.{Program}
use Rattle.ada_program.specs.declared.program.Stmt as stmt
use Rattle.ada_program.specs.declared.program.TypeDefinition.{TypeDefinition}
use Rattle.ada_program.specs.declared.program.TypeDefinition.TheVariants as definition
use Rattle.ada_program.specs.declared.program.Variable.{Variable}
use Rattle.ada_program.specs.declared.program.VariableKind.TheVariants as variable
use Rattle.ada_program.specs.Form.{expression_form, stmt_form, skips, collects, declares_record, StmtsForm, no_stmts, a_stmt, no_handlers, stmt_forms, statement_rules}
use Rattle.ada_program.specs.ProgramForm.{BodyForm, variable_form, body_forms, program_form}
use Rattle.ada_program.specs.WellFormed.{IsWellFormed, created_in_all, creates_from, has_collections, profile_of, have_operations, bodies_fit, stmts_fit}
use Rattle.ada_program.specs.Nested.{callees_from, collected, statements_nest, CollectionsNest}
use Rattle.ada_meaning.specs.State.{collection}
use Rattle.ada_meaning.specs.Named.{next}
use Rattle.ada_meaning.specs.Run.{takes}
use Rattle.ada_order.specs.Example.{InSomeRun}
use Rattle.ada_order.proofs.Choices.{run_by}
use Rattle.ada_meaning.specs.Law.{items_of}
use Rattle.ada_scopes.specs.Scopes.{InItsRuns, CollectTwoTypes}
use Rattle.ada_scopes.proofs.Example.{steps, vec, no_name, cell_of, access_to, creations_with, no_pools}

abbrev operations : Operations
operations = record { initialize = None; adjust = None; finalize = Some (record { 0 = 0 }) }

-- type Link is new Ada.Finalization.Controlled with null record;
abbrev link : TypeDefinition
link =
    definition.Record no_name (vec (record { name = no_name; kind = part.Parent; first = record { 0 = 0 }; part = record { 0 = 0 } } ∷ []) (omega arith)) (vec [] (omega arith))
    (Some (record { number = record { 0 = 0 }; parts = 1; limited = false; operations = operations }))

-- An object that is known by a type.
abbrev known_by : ℕ → Variable
known_by t = record { name = no_name; spot = record { line = 1; column = 1 }; kind = variable.Record (record { 0 = t }); borrows = false }

-- type Cell is record Value : Integer; end record; type Link is new Ada.Finalization.Controlled with null record;
-- procedure Finalize (Object : in out Link) is type Near is access Cell; Y : Link; begin null; end; X : Link; begin null; end;
abbrev pub program : Program
program = record {
  types = vec
      (cell_of (kind.Integer (pos 0) ∷ []) (omega arith) (omega arith) ∷ access_to 0 ∷ link ∷ definition.Object (record { 0 = 2 }) ∷ definition.Object (record { 0 = 2 })
      ∷ definition.Object (record { 0 = 2 }) ∷ []) (omega arith);
  pools = vec [] (omega arith);
  procedures = vec (record {
    formals = vec (InOut ∷ []) (omega arith);
    variables = vec (known_by 5 ∷ known_by 4 ∷ []) (omega arith);
    declarations = vec (declaration.Collection (record { 0 = 1 }) ∷ declaration.Record (record { 0 = 1 }) (record { 0 = 4 }) None ∷ []) (omega arith);
    statements = vec (stmt.Null ∷ []) (omega arith);
    handlers = vec [] (omega arith);
    start = record { line = 1; column = 1 };
    end = record { line = 1; column = 1 };
  } ∷ []) (omega arith);
  variables = vec (known_by 3 ∷ []) (omega arith);
  texts = vec [] (omega arith);
  exceptions = vec [] (omega arith);
  declarations = vec (declaration.Record (record { 0 = 0 }) (record { 0 = 3 }) None ∷ []) (omega arith);
  statements = vec (stmt.Null ∷ []) (omega arith);
  handlers = vec [] (omega arith);
}

abbrev forms : StmtsForm
forms = a_stmt skips no_stmts

abbrev bodies : List BodyForm
bodies = record {
  formals = InOut ∷ [];
  variables = map variable_form (known_by 5 ∷ known_by 4 ∷ []);
  declarations = collects 1 ∷ declares_record 1 4 None ∷ [];
  statements = a_stmt skips no_stmts;
  handlers = no_handlers;
  start_spot = record { line = 1; column = 1 };
  end_spot = record { line = 1; column = 1 };
} ∷ []

forms_are : stmt_forms program ≡ forms
forms_are = simp statement_rules

bodies_are : body_forms program ≡ bodies
bodies_are = simp statement_rules

-- What holds of these bodies and statements holds of the program.
of_both : (test : List BodyForm → StmtsForm → Bool) → test bodies forms ≡ true → test (body_forms program) (stmt_forms program) ≡ true
of_both test is = rw (bodies_are, forms_are) is

pub well_formed : IsWellFormed (program_form program)
well_formed = record {
  types_fit = refl;
  components_lie = refl;
  operations_fit = of_both (λ bs fs. have_operations (program_form program).types (map profile_of bs) 0 (program_form program).types) refl;
  pools_fit = of_both (λ bs fs. no_pools (created_in_all bs ++ creations_with program fs)) refl;
  variables_fit = refl;
  creates_in_order = ap (λ (fs : StmtsForm). creates_from 1 0 (creations_with program fs)) forms_are;
  collections_first = refl;
  collections_fit = refl;
  has_one_each = of_both (λ bs fs. has_collections (created_in_all bs ++ creations_with program fs) 0 (program_form program).types) refl;
  initials_fit = refl;
  statements_fit = of_both (λ bs fs. stmts_fit (program_form program).types (program_form program).variables [] [] (map profile_of bs) false fs) refl;
  handlers_fit = refl;
  bodies_fit = ap (bodies_fit (program_form program).types [] [] []) bodies_are;
}

pub nests : CollectionsNest (program_form program)
nests = record {
  declarations = refl;
  statements = of_both
      (λ bs fs. statements_nest (program_form program).types (callees_from (program_form program).types [] bs) (collected (program_form program).declarations) fs)
      refl;
  handlers = refl;
}

-- The Finalize has been called for its own object, and has created its collection again.
twice : InSomeRun program (λ events last. AllPairs CollectTwoTypes (items_of last.masters) → ⊥)
unfolding next expression_form stmt_form
twice =
    run_by program bodies forms bodies_are forms_are (steps 7 ++ takes 0 ∷ steps 9 ++ takes 0 ∷ steps 2)
    (λ events last. AllPairs CollectTwoTypes (items_of last.masters) → ⊥) refl
    (λ apart. apart 0 2 (record { number = 0; owned = collection 1 None }) (omega arith) (omega arith) refl)

pub opened_twice : InItsRuns program (λ last. AllPairs CollectTwoTypes (items_of last.masters)) → ⊥
opened_twice all = let run = twice in run.4 (all run.0 run.1 run.2 run.3)
