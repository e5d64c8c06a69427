-- An Initialize that creates an object with a component of an access type of a block: it is called outside that block.

use Rattle.std.proofs.Common.{◌≡◌, ℕ, zero, suc, Bool, true, false, List, [], ◌∷◌, ◌++◌, map, refl, sym, ap, subst, arith, inl, inr}
use Rattle.std.specs.Prelude.{None, Some, pos}
use Rattle.std.specs.List.{slice_get}
use Rattle.ada_program.specs.declared.program.ComponentKind.TheVariants as kind
use Rattle.ada_program.specs.declared.program.Declaration.TheVariants as declaration
use Rattle.ada_program.specs.declared.program.FormalMode.TheVariants.{InOut}
use Rattle.ada_program.specs.declared.program.Operations.{Operations}
use Rattle.ada_program.specs.declared.program.PartKind.TheVariants as part
use Rattle.ada_program.specs.declared.program.Program.{Program}
use Rattle.ada_program.specs.declared.program.Stmt as stmt
use Rattle.ada_program.specs.declared.program.TypeNo.{TypeNo}
use Rattle.ada_program.specs.declared.program.TypeDefinition.{TypeDefinition}
use Rattle.ada_program.specs.declared.program.TypeDefinition.TheVariants as definition
use Rattle.ada_program.specs.declared.program.Variable.{Variable}
use Rattle.ada_program.specs.declared.program.VariableKind.TheVariants as variable
use Rattle.ada_program.specs.Form.{expression_form, stmt_form, skips, collects, declares_record, StmtsForm, no_stmts, a_stmt, no_handlers, stmt_forms, statement_rules}
use Rattle.ada_program.specs.ProgramForm.{BodyForm, variable_form, body_forms, program_form}
use Rattle.ada_program.specs.WellFormed.{IsWellFormed, is_access, created_in_all, creates_from, has_collections, profile_of, have_operations, bodies_fit, stmts_fit}
use Rattle.ada_program.specs.Nested.{callees_from, collected, is_one_of, call_nests, statements_nest, CollectionsNest}
use Rattle.ada_meaning.specs.declared.state.Id.{Id}
use Rattle.ada_meaning.specs.State.{record_object, Item}
use Rattle.ada_meaning.specs.Named.{Object, State, next}
use Rattle.ada_order.specs.Example.{InSomeRun}
use Rattle.ada_order.proofs.Choices.{run_by}
use Rattle.ada_scopes.specs.Scopes.{OperationsNest, IsListed, HoldsNames, IsOutlived, ComponentsAreOutlivedIn}
use Rattle.ada_scopes.proofs.Example.{steps, vec, no_name, access_kind, cell_of, access_to, block_with, block_form, creations_with, no_pools, contains_opened}

abbrev operations : Operations
operations = record { initialize = Some (record { 0 = 0 }); adjust = None; finalize = None }

-- type Link is new Ada.Finalization.Controlled with null record;
abbrev link : TypeDefinition
link =
    definition.Record no_name (vec (record { name = no_name; kind = part.Parent; first = record { 0 = 0 }; part = record { 0 = 0 } } ∷ []) (omega arith)) (vec [] (omega arith))
    (Some (record { number = record { 0 = 0 }; parts = 1; limited = false; operations = operations }))

-- An object that is known by a type.
abbrev pub known_by : ℕ → Variable
known_by t = record { name = no_name; spot = record { line = 1; column = 1 }; kind = variable.Record (record { 0 = t }); borrows = false }

-- type Cell is record Value : Integer; end record; type Holder is record Next : Near; end record;
-- procedure Initialize (Object : in out Link) is Y : Holder; begin null; end; X : Link; begin declare type Near is access Cell; begin null; end; end;
abbrev pub program : Program
program = record {
  types = vec
      (cell_of (kind.Integer (pos 0) ∷ []) (omega arith) (omega arith) ∷ access_to 0 ∷ cell_of (access_kind 1 ∷ []) (omega arith) (omega arith) ∷ link
      ∷ definition.Object (record { 0 = 3 }) ∷ definition.Object (record { 0 = 3 }) ∷ definition.Object (record { 0 = 2 }) ∷ []) (omega arith);
  pools = vec [] (omega arith);
  procedures = vec (record {
    formals = vec (InOut ∷ []) (omega arith);
    variables = vec (known_by 5 ∷ known_by 6 ∷ []) (omega arith);
    declarations = vec (declaration.Record (record { 0 = 1 }) (record { 0 = 6 }) None ∷ []) (omega arith);
    statements = vec (stmt.Null ∷ []) (omega arith);
    handlers = vec [] (omega arith);
    start = record { line = 1; column = 1 };
    end = record { line = 1; column = 1 };
  } ∷ []) (omega arith);
  variables = vec (known_by 4 ∷ []) (omega arith);
  texts = vec [] (omega arith);
  exceptions = vec [] (omega arith);
  declarations = vec (declaration.Record (record { 0 = 0 }) (record { 0 = 4 }) None ∷ []) (omega arith);
  statements = vec (block_with (declaration.Collection (record { 0 = 1 }) ∷ []) (omega arith) ∷ []) (omega arith);
  handlers = vec [] (omega arith);
}

abbrev forms : StmtsForm
forms = block_form (collects 1 ∷ [])

abbrev bodies : List BodyForm
bodies = record {
  formals = InOut ∷ [];
  variables = map variable_form (known_by 5 ∷ known_by 6 ∷ []);
  declarations = declares_record 1 6 None ∷ [];
  statements = a_stmt skips no_stmts;
  handlers = no_handlers;
  start_spot = record { line = 1; column = 1 };
  end_spot = record { line = 1; column = 1 };
} ∷ []

forms_are : stmt_forms program ≡ forms
forms_are = simp statement_rules

bodies_are : body_forms program ≡ bodies
bodies_are = simp statement_rules

-- What holds of these bodies and statements holds of the program.
of_both : (test : List BodyForm → StmtsForm → Bool) → test bodies forms ≡ true → test (body_forms program) (stmt_forms program) ≡ true
of_both test is = rw (bodies_are, forms_are) is

pub well_formed : IsWellFormed (program_form program)
well_formed = record {
  types_fit = refl;
  components_lie = refl;
  operations_fit = of_both (λ bs fs. have_operations (program_form program).types (map profile_of bs) 0 (program_form program).types) refl;
  pools_fit = of_both (λ bs fs. no_pools (created_in_all bs ++ creations_with program fs)) refl;
  variables_fit = refl;
  creates_in_order = ap (λ (fs : StmtsForm). creates_from 1 0 (creations_with program fs)) forms_are;
  collections_first = refl;
  collections_fit = refl;
  has_one_each = of_both (λ bs fs. has_collections (created_in_all bs ++ creations_with program fs) 0 (program_form program).types) refl;
  initials_fit = refl;
  statements_fit = of_both (λ bs fs. stmts_fit (program_form program).types (program_form program).variables [] [] (map profile_of bs) false fs) refl;
  handlers_fit = refl;
  bodies_fit = ap (bodies_fit (program_form program).types [] [] []) bodies_are;
}

pub nests : CollectionsNest (program_form program)
nests = record {
  declarations = refl;
  statements = of_both
      (λ bs fs. statements_nest (program_form program).types (callees_from (program_form program).types [] bs) (collected (program_form program).declarations) fs)
      refl;
  handlers = refl;
}

-- Whether the Initialize nests where these collections are open, if the procedures of the program have these bodies.
abbrev initialize_nests : List BodyForm → (around : List ℕ) → Bool
initialize_nests bs around = call_nests (slice_get (callees_from (program_form program).types [] bs) 0) around

-- It does where that of its object's component is.
nests_there : (around : List ℕ) → is_one_of around 1 ≡ true → initialize_nests bodies around ≡ true
nests_there around is = rw is refl

initialize_nests_there : (around : List ℕ) → ((t : ℕ) → is_access (program_form program).types t ≡ true → is_one_of around t ≡ true) → initialize_nests (body_forms program) around ≡ true
initialize_nests_there around opens =
    subst (λ (bs : List BodyForm). initialize_nests bs around ≡ true) (sym bodies_are) (nests_there around (opens 1 refl))

pub operations_nest : OperationsNest (program_form program)
operations_nest zero = (tt, tt, tt)
operations_nest (suc zero) = (tt, tt, tt)
operations_nest (suc (suc zero)) = (tt, tt, tt)
operations_nest (suc (suc (suc zero))) = (initialize_nests_there, tt, tt)
operations_nest (suc (suc (suc (suc zero)))) = (tt, tt, tt)
operations_nest (suc (suc (suc (suc (suc zero))))) = (tt, tt, tt)
operations_nest (suc (suc (suc (suc (suc (suc zero)))))) = (tt, tt, tt)
operations_nest (suc (suc (suc (suc (suc (suc (suc n))))))) = (tt, tt, tt)

-- What this object's component names does not last as long.
abbrev IsShort : State → Type 0
IsShort s =
    (o : Id) × (object : Object) × (c : ℕ) × (target : TypeNo) × IsListed s.heap o object × HoldsNames (program_form program).types object.cell.access c target × (IsOutlived s object target.0 → ⊥)

-- What the body of the Initialize owns, and the main procedure.
abbrev items : List Item
items = record { number = 1; owned = record_object 6 } ∷ record { number = 0; owned = record_object 4 } ∷ []

-- The Initialize has created its object.
is_short : InSomeRun program (λ events last. IsShort last)
unfolding next expression_form stmt_form
is_short =
    run_by program bodies forms bodies_are forms_are (steps 3) (λ events last. IsShort last) refl
    (record { 0 = 1 }, _, 0, record { 0 = 1 }, (refl, refl), refl, λ outlived. elim outlived [ inl going ↦ cc going | inr found ↦ omega (arith, contains_opened 1 items found.0 found.1 found.2.0 found.2.1 found.2.2 found.3) ])

pub not_outlived : ComponentsAreOutlivedIn program → ⊥
not_outlived all =
    let run = is_short in
    let short = run.4 in
    short.6 (all run.0 run.1 run.2 run.3 short.0 short.1 short.2 short.3 short.4 short.5)
