-- A Finalize that creates an object with a component of an access type of the main procedure: it nests where that collection is open, and nowhere else.

use Rattle.std.proofs.Common.{◌≡◌, ℕ, zero, suc, Bool, true, false, List, [], ◌∷◌, ◌++◌, map, refl, sym, ap, subst, arith}
use Rattle.std.specs.Prelude.{None, Some, pos}
use Rattle.std.specs.List.{slice_get}
use Rattle.ada_program.specs.declared.program.ComponentKind.TheVariants as kind
use Rattle.ada_program.specs.declared.program.Declaration.TheVariants as declaration
use Rattle.ada_program.specs.declared.program.FormalMode.TheVariants.{InOut}
use Rattle.ada_program.specs.declared.program.Operations.{Operations}
use Rattle.ada_program.specs.declared.program.PartKind.TheVariants as part
use Rattle.ada_program.specs.declared.program.Program.{Program}
use Rattle.ada_program.specs.declared.program.Stmt as stmt
use Rattle.ada_program.specs.declared.program.TypeDefinition.{TypeDefinition}
use Rattle.ada_program.specs.declared.program.TypeDefinition.TheVariants as definition
use Rattle.ada_program.specs.Form.{skips, declares_record, StmtsForm, no_stmts, a_stmt, no_handlers, stmt_forms, statement_rules}
use Rattle.ada_program.specs.ProgramForm.{BodyForm, variable_form, body_forms, program_form}
use Rattle.ada_program.specs.WellFormed.{IsWellFormed, created_in_all, creates_from, has_collections, profile_of, have_operations, bodies_fit, stmts_fit}
use Rattle.ada_program.specs.Nested.{callees_from, collected, is_one_of, call_nests, statements_nest, CollectionsNest}
use Rattle.ada_scopes.specs.Scopes.{OperationsFindOpen, OperationsNestAnywhere}
use Rattle.ada_scopes.proofs.Example.{vec, no_name, access_kind, cell_of, access_to, creations_with, no_pools}
use Rattle.ada_scopes.proofs.ShortExample.{known_by}

abbrev operations : Operations
operations = record { initialize = None; adjust = None; finalize = Some (record { 0 = 0 }) }

-- type Link is new Ada.Finalization.Controlled with null record;
abbrev link : TypeDefinition
link =
    definition.Record no_name (vec (record { name = no_name; kind = part.Parent; first = record { 0 = 0 }; part = record { 0 = 0 } } ∷ []) (omega arith)) (vec [] (omega arith))
    (Some (record { number = record { 0 = 0 }; parts = 1; limited = false; operations = operations }))

-- type Cell is record Value : Integer; end record; type Near is access Cell; type Holder is record Next : Near; end record;
-- type Link is new Ada.Finalization.Controlled with null record; procedure Finalize (Object : in out Link) is Y : Holder; begin null; end; X : Link;
abbrev pub program : Program
program = record {
  types = vec
      (cell_of (kind.Integer (pos 0) ∷ []) (omega arith) (omega arith) ∷ access_to 0 ∷ cell_of (access_kind 1 ∷ []) (omega arith) (omega arith) ∷ link
      ∷ definition.Object (record { 0 = 3 }) ∷ definition.Object (record { 0 = 3 }) ∷ definition.Object (record { 0 = 2 }) ∷ []) (omega arith);
  pools = vec [] (omega arith);
  procedures = vec (record {
    formals = vec (InOut ∷ []) (omega arith);
    variables = vec (known_by 5 ∷ known_by 6 ∷ []) (omega arith);
    declarations = vec (declaration.Record (record { 0 = 1 }) (record { 0 = 6 }) None ∷ []) (omega arith);
    statements = vec (stmt.Null ∷ []) (omega arith);
    handlers = vec [] (omega arith);
    start = record { line = 1; column = 1 };
    end = record { line = 1; column = 1 };
  } ∷ []) (omega arith);
  variables = vec (known_by 4 ∷ []) (omega arith);
  texts = vec [] (omega arith);
  exceptions = vec [] (omega arith);
  declarations = vec (declaration.Collection (record { 0 = 1 }) ∷ declaration.Record (record { 0 = 0 }) (record { 0 = 4 }) None ∷ []) (omega arith);
  statements = vec (stmt.Null ∷ []) (omega arith);
  handlers = vec [] (omega arith);
}

abbrev forms : StmtsForm
forms = a_stmt skips no_stmts

abbrev bodies : List BodyForm
bodies = record {
  formals = InOut ∷ [];
  variables = map variable_form (known_by 5 ∷ known_by 6 ∷ []);
  declarations = declares_record 1 6 None ∷ [];
  statements = a_stmt skips no_stmts;
  handlers = no_handlers;
  start_spot = record { line = 1; column = 1 };
  end_spot = record { line = 1; column = 1 };
} ∷ []

forms_are : stmt_forms program ≡ forms
forms_are = simp statement_rules

bodies_are : body_forms program ≡ bodies
bodies_are = simp statement_rules

-- What holds of these bodies and statements holds of the program.
of_both : (test : List BodyForm → StmtsForm → Bool) → test bodies forms ≡ true → test (body_forms program) (stmt_forms program) ≡ true
of_both test is = rw (bodies_are, forms_are) is

pub well_formed : IsWellFormed (program_form program)
well_formed = record {
  types_fit = refl;
  components_lie = refl;
  operations_fit = of_both (λ bs fs. have_operations (program_form program).types (map profile_of bs) 0 (program_form program).types) refl;
  pools_fit = of_both (λ bs fs. no_pools (created_in_all bs ++ creations_with program fs)) refl;
  variables_fit = refl;
  creates_in_order = ap (λ (fs : StmtsForm). creates_from 1 0 (creations_with program fs)) forms_are;
  collections_first = refl;
  collections_fit = refl;
  has_one_each = of_both (λ bs fs. has_collections (created_in_all bs ++ creations_with program fs) 0 (program_form program).types) refl;
  initials_fit = refl;
  statements_fit = of_both (λ bs fs. stmts_fit (program_form program).types (program_form program).variables [] [] (map profile_of bs) false fs) refl;
  handlers_fit = refl;
  bodies_fit = ap (bodies_fit (program_form program).types [] [] []) bodies_are;
}

pub nests : CollectionsNest (program_form program)
nests = record {
  declarations = refl;
  statements = of_both
      (λ bs fs. statements_nest (program_form program).types (callees_from (program_form program).types [] bs) (collected (program_form program).declarations) fs)
      refl;
  handlers = refl;
}

-- Whether the Finalize nests where these collections are open, if the procedures of the program have these bodies.
abbrev finalize_nests : List BodyForm → (around : List ℕ) → Bool
finalize_nests bs around = call_nests (slice_get (callees_from (program_form program).types [] bs) 0) around

-- It does where that of its object's component is.
nests_there : (around : List ℕ) → is_one_of around 1 ≡ true → finalize_nests bodies around ≡ true
nests_there around is = rw is refl

finalize_nests_there : (around : List ℕ) → ((t : ℕ) → is_one_of (collected (program_form program).declarations) t ≡ true → is_one_of around t ≡ true) → finalize_nests (body_forms program) around ≡ true
finalize_nests_there around opens =
    subst (λ (bs : List BodyForm). finalize_nests bs around ≡ true) (sym bodies_are) (nests_there around (opens 1 refl))

pub operations_nest : OperationsFindOpen (program_form program)
operations_nest zero = (tt, tt, tt)
operations_nest (suc zero) = (tt, tt, tt)
operations_nest (suc (suc zero)) = (tt, tt, tt)
operations_nest (suc (suc (suc zero))) = (tt, tt, finalize_nests_there)
operations_nest (suc (suc (suc (suc zero)))) = (tt, tt, tt)
operations_nest (suc (suc (suc (suc (suc zero))))) = (tt, tt, tt)
operations_nest (suc (suc (suc (suc (suc (suc zero)))))) = (tt, tt, tt)
operations_nest (suc (suc (suc (suc (suc (suc (suc n))))))) = (tt, tt, tt)

-- It does not where none is.
not_without : finalize_nests (body_forms program) [] ≡ false
not_without = ap (λ (bs : List BodyForm). finalize_nests bs []) bodies_are

pub not_anywhere : OperationsNestAnywhere (program_form program) → ⊥
not_anywhere all = let without : finalize_nests (body_forms program) [] ≡ true = (all 3).2 [] in cc (not_without, without)
