-- A program that overrides Finalize, and a run of it in which one of its objects is finalized while the main procedure is being left.

use Rattle.std.proofs.Common.{◌≡◌, ℕ, Bool, true, false, List, [], ◌∷◌, ◌++◌, map, zero, suc, refl, ap, arith}
use Rattle.std.specs.Prelude.{None, Some, pos}
use Rattle.std.specs.List.{slice_get}
use Rattle.ada_program.specs.declared.program.ComponentKind.TheVariants as kind
use Rattle.ada_program.specs.declared.program.Declaration.{Declaration}
use Rattle.ada_program.specs.declared.program.Declaration.TheVariants as declaration
use Rattle.ada_program.specs.declared.program.FormalMode.TheVariants.{InOut}
use Rattle.ada_program.specs.declared.program.Operations.{Operations}
use Rattle.ada_program.specs.declared.program.Part.{Part}
use Rattle.ada_program.specs.declared.program.PartKind.{PartKind}
use Rattle.ada_program.specs.declared.program.PartKind.TheVariants as part
use Rattle.ada_program.specs.declared.program.Program.{Program}
use Rattle.ada_program.specs.declared.program.Right.TheVariants as right
use Rattle.ada_program.specs.declared.program.Stmt as stmt
use Rattle.ada_program.specs.declared.program.TypeDefinition.{TypeDefinition}
use Rattle.ada_program.specs.declared.program.TypeDefinition.TheVariants as definition
use Rattle.ada_program.specs.declared.program.VariableKind.TheVariants as variable
use Rattle.ada_program.specs.Form.{expression_form, stmt_form, skips, StmtsForm, no_stmts, a_stmt, no_handlers, stmt_forms, statement_rules}
use Rattle.ada_program.specs.ProgramForm.{BodyForm, variable_form, body_forms, program_form}
use Rattle.ada_program.specs.WellFormed.{IsWellFormed, created_in_all, creates_from, has_collections, profile_of, have_operations, bodies_fit, stmts_fit}
use Rattle.ada_program.specs.Nested.{callees_from, collected, call_nests, statements_nest, CollectionsNest}
use Rattle.ada_meaning.specs.State.{collection, Item}
use Rattle.ada_meaning.specs.Named.{next}
use Rattle.ada_meaning.specs.Run.{grants, takes}
use Rattle.ada_order.specs.Example.{InSomeRun}
use Rattle.ada_order.proofs.Choices.{run_by}
use Rattle.ada_scopes.specs.Scopes.{OperationsFindOpen, OperationsNestAnywhere}
use Rattle.ada_scopes.specs.Example.{OutlastsWhileCalled}
use Rattle.ada_scopes.proofs.Operations.{anywhere_open}
use Rattle.ada_scopes.proofs.Example.{steps, vec, no_name, access_kind, cell_of, access_to, of_type, creations_with, no_pools, contains_opened}

-- A component, with the numbers of the first elementary component and of the first controlled part in it.
abbrev component_of : PartKind → (first number : ℕ) → Part
component_of kind first number = record { name = no_name; kind = kind; first = record { 0 = first }; part = record { 0 = number } }

abbrev operations : Operations
operations = record { initialize = None; adjust = None; finalize = Some (record { 0 = 0 }) }

-- type Link is new Ada.Finalization.Controlled with record Next : Near; end record;
abbrev link : TypeDefinition
link =
    definition.Record no_name (vec (component_of part.Parent 0 0 ∷ component_of (part.Elementary (access_kind 2)) 0 1 ∷ []) (omega arith)) (vec (access_kind 2 ∷ []) (omega arith))
    (Some (record { number = record { 0 = 0 }; parts = 1; limited = false; operations = operations }))

-- A variable with a new object.
abbrev with_object : (x : ℕ) → Declaration
with_object x = declaration.Variable (record { 0 = x }) (Some (right.Default (record { 0 = 1 })))

-- type Link; type Far is access Link; type Cell is record Value : Integer; end record; type Near is access Cell;
-- procedure Finalize (Object : in out Link) is begin null; end; X : Far := new Link; Y : Far := new Link;
abbrev pub program : Program
program = record {
  types = vec (link ∷ access_to 0 ∷ access_to 3 ∷ cell_of (kind.Integer (pos 0) ∷ []) (omega arith) (omega arith) ∷ definition.Object (record { 0 = 0 }) ∷ []) (omega arith);
  pools = vec [] (omega arith);
  procedures = vec (record {
    formals = vec (InOut ∷ []) (omega arith);
    variables = vec (record { name = no_name; spot = record { line = 1; column = 1 }; kind = variable.Record (record { 0 = 4 }); borrows = false } ∷ []) (omega arith);
    declarations = vec [] (omega arith);
    statements = vec (stmt.Null ∷ []) (omega arith);
    handlers = vec [] (omega arith);
    start = record { line = 1; column = 1 };
    end = record { line = 1; column = 1 };
  } ∷ []) (omega arith);
  variables = vec (of_type 1 ∷ of_type 1 ∷ []) (omega arith);
  texts = vec [] (omega arith);
  exceptions = vec [] (omega arith);
  declarations = vec (declaration.Collection (record { 0 = 1 }) ∷ declaration.Collection (record { 0 = 2 }) ∷ with_object 0 ∷ with_object 1 ∷ []) (omega arith);
  statements = vec (stmt.Null ∷ []) (omega arith);
  handlers = vec [] (omega arith);
}

abbrev forms : StmtsForm
forms = a_stmt skips no_stmts

abbrev bodies : List BodyForm
bodies = record {
  formals = InOut ∷ [];
  variables = map variable_form (record { name = no_name; spot = record { line = 1; column = 1 }; kind = variable.Record (record { 0 = 4 }); borrows = false } ∷ []);
  declarations = [];
  statements = a_stmt skips no_stmts;
  handlers = no_handlers;
  start_spot = record { line = 1; column = 1 };
  end_spot = record { line = 1; column = 1 };
} ∷ []

forms_are : stmt_forms program ≡ forms
forms_are = simp statement_rules

bodies_are : body_forms program ≡ bodies
bodies_are = simp statement_rules

-- What holds of these bodies and statements holds of the program.
of_both : (test : List BodyForm → StmtsForm → Bool) → test bodies forms ≡ true → test (body_forms program) (stmt_forms program) ≡ true
of_both test is = rw (bodies_are, forms_are) is

pub well_formed : IsWellFormed (program_form program)
well_formed = record {
  types_fit = refl;
  components_lie = refl;
  operations_fit = of_both (λ bs fs. have_operations (program_form program).types (map profile_of bs) 0 (program_form program).types) refl;
  pools_fit = of_both (λ bs fs. no_pools (created_in_all bs ++ creations_with program fs)) refl;
  variables_fit = refl;
  creates_in_order = ap (λ (fs : StmtsForm). creates_from 2 0 (creations_with program fs)) forms_are;
  collections_first = refl;
  collections_fit = refl;
  has_one_each = of_both (λ bs fs. has_collections (created_in_all bs ++ creations_with program fs) 0 (program_form program).types) refl;
  initials_fit = refl;
  statements_fit = of_both (λ bs fs. stmts_fit (program_form program).types (program_form program).variables [] [] (map profile_of bs) false fs) refl;
  handlers_fit = refl;
  bodies_fit = ap (bodies_fit (program_form program).types [] [] []) bodies_are;
}

pub nests : CollectionsNest (program_form program)
nests = record {
  declarations = refl;
  statements = of_both
      (λ bs fs. statements_nest (program_form program).types (callees_from (program_form program).types [] bs) (collected (program_form program).declarations) fs)
      refl;
  handlers = refl;
}

finalize_nests : (around : List ℕ) → call_nests (slice_get (callees_from (program_form program).types [] (body_forms program)) 0) around ≡ true
finalize_nests around = of_both (λ bs fs. call_nests (slice_get (callees_from (program_form program).types [] bs) 0) around) refl

pub operations_nest_anywhere : OperationsNestAnywhere (program_form program)
operations_nest_anywhere zero = (tt, tt, finalize_nests)
operations_nest_anywhere (suc zero) = (tt, tt, tt)
operations_nest_anywhere (suc (suc zero)) = (tt, tt, tt)
operations_nest_anywhere (suc (suc (suc zero))) = (tt, tt, tt)
operations_nest_anywhere (suc (suc (suc (suc zero)))) = (tt, tt, tt)
operations_nest_anywhere (suc (suc (suc (suc (suc n))))) = (tt, tt, tt)

pub operations_nest : OperationsFindOpen (program_form program)
operations_nest = anywhere_open (program_form program) operations_nest_anywhere

-- What the main procedure owns once its newest collection is gone.
abbrev oldest_item : List Item
oldest_item = record { number = 0; owned = collection 1 (Some 0) } ∷ []

-- The variables and that collection are gone, and the newest object has been taken.
pub outlasts : InSomeRun program (λ events last. OutlastsWhileCalled program last)
unfolding next expression_form stmt_form
outlasts =
    run_by program bodies forms bodies_are forms_are (steps 4 ++ grants true ∷ steps 4 ++ grants true ∷ steps 10 ++ takes 0 ∷ steps 1)
    (λ events last. OutlastsWhileCalled program last) refl
    (record {
      called = _;
      main = _;
      entered = refl;
      outlasts = record {
        o = record { 0 = 0 };
        object = _;
        c = 0;
        target = record { 0 = 2 };
        listed = (refl, refl);
        names = refl;
        gone = λ found. omega (arith, contains_opened 2 oldest_item found.0 found.1 found.2.0 found.2.1 found.2.2 found.3);
      };
    })
