-- Two programs that are not well formed: the main part of the one creates a variable before a pool, that of the other a record object before a collection.

use Rattle.std.proofs.Common.{◌≡◌, ◌≤◌, List, [], ◌∷◌, length, refl, ap, arith}
use Rattle.std.specs.Prelude.{Some, None, pos}
use Rattle.ada_program.specs.declared.program.ComponentKind.TheVariants as kind
use Rattle.ada_program.specs.declared.program.Declaration.{Declaration}
use Rattle.ada_program.specs.declared.program.Declaration.TheVariants as declaration
use Rattle.ada_program.specs.declared.program.Pool.{Pool}
use Rattle.ada_program.specs.declared.program.Program.{Program}
use Rattle.ada_program.specs.declared.program.Stmt as stmt
use Rattle.ada_program.specs.declared.program.TypeDefinition.{TypeDefinition}
use Rattle.ada_program.specs.declared.program.TypeDefinition.TheVariants as definition
use Rattle.ada_program.specs.declared.program.Variable.{Variable}
use Rattle.ada_program.specs.Form.{expression_form, stmt_form, nothing, skips, StmtsForm, no_stmts, a_stmt, creates_pool, collects, declares, declares_record, stmt_forms, statement_rules}
use Rattle.ada_program.specs.ProgramForm.{program_form}
use Rattle.ada_program.specs.Nested.{collected, statements_nest}
use Rattle.ada_meaning.specs.State.{declared, collection, record_object, storage_pool}
use Rattle.ada_meaning.specs.Named.{next}
use Rattle.ada_order.specs.Example.{InSomeRun}
use Rattle.ada_order.proofs.Choices.{run_by}
use Rattle.ada_scopes.specs.Scopes.{ObjectsFirst, AreObjectsFirst}
use Rattle.ada_scopes.specs.Example.{HasObjectBelow}
use Rattle.ada_scopes.proofs.Operations.{none_nests}
use Rattle.ada_scopes.proofs.Example.{steps, vec, no_name, cell_of, access_to, of_type}
use Rattle.ada_scopes.proofs.ShortExample.{known_by}

-- .. begin null; end;
abbrev late : (types : List TypeDefinition) → length types ≤ 8 → (pools : List Pool) → length pools ≤ 8 → Variable → (ds : List Declaration) → length ds ≤ 8 → Program
late types few pools less x ds le = record {
  types = vec types few;
  pools = vec pools less;
  procedures = vec [] (omega arith);
  variables = vec (x ∷ []) (omega arith);
  texts = vec [] (omega arith);
  exceptions = vec [] (omega arith);
  declarations = vec ds le;
  statements = vec (stmt.Null ∷ []) (omega arith);
  handlers = vec [] (omega arith);
}

abbrev forms : StmtsForm
forms = a_stmt skips no_stmts

-- The older of two items is an object, and the newer one is not.
pool_below : ObjectsFirst (record { number = 1; owned = storage_pool 0 1 } ∷ record { number = 0; owned = declared 0 } ∷ []) → ⊥
pool_below first = cc (first 0 1 (record { number = 0; owned = declared 0 }) (omega arith) (omega arith) refl)

-- type Cell is record Value : Integer; end record; type Link is access Cell; X : Link; Pool : First_Fit_Pool (100);
abbrev pool_program : Program
pool_program =
    late (cell_of (kind.Integer (pos 0) ∷ []) (omega arith) (omega arith) ∷ access_to 0 ∷ []) (omega arith) (record { name = no_name; words = 100 } ∷ []) (omega arith) (of_type 1)
    (declaration.Variable (record { 0 = 0 }) None ∷ declaration.Pool (record { 0 = 0 }) ∷ []) (omega arith)

pool_forms_are : stmt_forms pool_program ≡ forms
pool_forms_are = simp statement_rules

-- The pool has been created.
pool_newest : InSomeRun pool_program (λ events last. AreObjectsFirst last → ⊥)
unfolding next expression_form stmt_form
pool_newest =
    run_by pool_program [] forms refl pool_forms_are (steps 4) (λ events last. AreObjectsFirst last → ⊥) refl
    (λ all. pool_below (all 0 (record { number = 0; items = [] }) (omega arith)))

pub pool_late : HasObjectBelow (declares 0 nothing ∷ creates_pool 0 ∷ [])
pool_late = (
  pool_program,
  refl,
  record {
    declarations = refl;
    statements = ap (λ (fs : StmtsForm). statements_nest (program_form pool_program).types [] (collected (program_form pool_program).declarations) fs) pool_forms_are;
    handlers = refl;
  },
  none_nests (program_form pool_program) refl,
  λ all. pool_newest.4 (all pool_newest.0 pool_newest.1 pool_newest.2 pool_newest.3),
)

collection_below : ObjectsFirst (record { number = 1; owned = collection 1 (Some 0) } ∷ record { number = 0; owned = record_object 2 } ∷ []) → ⊥
collection_below first = cc (first 0 1 (record { number = 0; owned = declared 0 }) (omega arith) (omega arith) refl)

-- type Cell is record Value : Integer; end record; type Link is access Cell; X : Cell; and behind that the collection of Link.
abbrev collection_program : Program
collection_program =
    late (cell_of (kind.Integer (pos 0) ∷ []) (omega arith) (omega arith) ∷ access_to 0 ∷ definition.Object (record { 0 = 0 }) ∷ []) (omega arith) [] (omega arith) (known_by 2)
    (declaration.Record (record { 0 = 0 }) (record { 0 = 2 }) None ∷ declaration.Collection (record { 0 = 1 }) ∷ []) (omega arith)

collection_forms_are : stmt_forms collection_program ≡ forms
collection_forms_are = simp statement_rules

-- The collection has been created.
collection_newest : InSomeRun collection_program (λ events last. AreObjectsFirst last → ⊥)
unfolding next expression_form stmt_form
collection_newest =
    run_by collection_program [] forms refl collection_forms_are (steps 2) (λ events last. AreObjectsFirst last → ⊥) refl
    (λ all. collection_below (all 0 (record { number = 0; items = [] }) (omega arith)))

pub collection_late : HasObjectBelow (declares_record 0 2 None ∷ collects 1 ∷ [])
collection_late = (
  collection_program,
  refl,
  record {
    declarations = refl;
    statements = ap (λ (fs : StmtsForm). statements_nest (program_form collection_program).types [] (collected (program_form collection_program).declarations) fs) collection_forms_are;
    handlers = refl;
  },
  none_nests (program_form collection_program) refl,
  λ all. collection_newest.4 (all collection_newest.0 collection_newest.1 collection_newest.2 collection_newest.3),
)
