-- A program with two pools, and runs of it.

use Rattle.std.proofs.Common.{◌≡◌, ℕ, true, List, [], ◌∷◌, ◌++◌, map, refl, arith}
use Rattle.std.specs.Prelude.{None, Some, pos}
use Rattle.std.specs.List.{filter}
use Rattle.ada_program.specs.declared.program.Stmt.{Stmt}
use Rattle.ada_program.specs.declared.program.Stmt as stmt
use Rattle.ada_program.specs.declared.program.ComponentKind.TheVariants as component
use Rattle.ada_program.specs.declared.program.TypeDefinition.{TypeDefinition}
use Rattle.ada_program.specs.declared.program.TypeDefinition.TheVariants as definition
use Rattle.ada_program.specs.declared.program.Declaration.{Declaration}
use Rattle.ada_program.specs.declared.program.Declaration.TheVariants as declaration
use Rattle.ada_program.specs.declared.program.Pool.{Pool}
use Rattle.ada_program.specs.declared.program.Program.{Program}
use Rattle.ada_program.specs.Form.{stmt_form, expression_form, stmt_forms, statement_rules, expression_rules}
use Rattle.ada_meaning.specs.declared.event.Halt.TheVariants.{Finished}
use Rattle.ada_meaning.specs.Named.{next}
use Rattle.ada_meaning.specs.Run.{Choice, grants, takes, Halts}
use Rattle.ada_meaning.specs.Law.{items_of}
use Rattle.ada_order.specs.Example.{InSomeRun, is_seen, pool_stmts, owned_by, items_with_pools, pool_events}
use Rattle.ada_order.proofs.Choices.{run_by}
use Rattle.ada_order.proofs.Example.{steps, vec, no_name, spot, value, access_type, of_type, makes}

-- type Cell is record Value : Integer; end record; type A is access Cell; and the same of B and C, of which A and B have pools
abbrev pooled_type : ℕ → TypeDefinition
pooled_type p = definition.Access no_name (record { 0 = 0 }) (Some (record { 0 = p }))

abbrev types : List TypeDefinition
types = definition.Record no_name (vec value (omega arith)) (vec (component.Integer (pos 0) ∷ []) (omega arith)) None ∷ pooled_type 0 ∷ pooled_type 1 ∷ access_type ∷ []

-- A pool, the collection of an access type, and a variable of it.
abbrev pool : ℕ → Declaration
pool p = declaration.Pool (record { 0 = p })

abbrev opens : ℕ → Declaration
opens access = declaration.Collection (record { 0 = access })

abbrev creates : ℕ → Declaration
creates x = declaration.Variable (record { 0 = x }) None

abbrev inner : Stmt
inner =
    stmt.Block (vec (pool 1 ∷ opens 2 ∷ creates 1 ∷ []) (omega arith))
    (vec (makes 1 2 ∷ stmt.Return spot ∷ []) (omega arith)) (vec [] (omega arith))

abbrev outer : Stmt
outer =
    stmt.Block (vec (pool 0 ∷ opens 1 ∷ opens 3 ∷ creates 0 ∷ creates 2 ∷ []) (omega arith))
    (vec (makes 0 1 ∷ makes 2 3 ∷ inner ∷ []) (omega arith)) (vec [] (omega arith))

-- P : First_Fit_Pool (10); Q : First_Fit_Pool (20);
abbrev pools : List Pool
pools = record { name = no_name; words = 10 } ∷ record { name = no_name; words = 20 } ∷ []

abbrev pub program : Program
program = record {
  types = vec types (omega arith);
  pools = vec pools (omega arith);
  procedures = vec [] (omega arith);
  variables = vec (of_type 1 ∷ of_type 2 ∷ of_type 3 ∷ []) (omega arith);
  texts = vec [] (omega arith);
  exceptions = vec [] (omega arith);
  declarations = vec [] (omega arith);
  statements = vec (outer ∷ []) (omega arith);
  handlers = vec [] (omega arith);
}

pub form : stmt_forms program ≡ pool_stmts
form = simp (statement_rules, expression_rules)

-- Up to the state in which the last object has been granted.
abbrev to_open : List Choice
to_open = steps 17 ++ grants true ∷ steps 6 ++ grants true ∷ steps 13 ++ grants true ∷ []

pub opened : InSomeRun program (λ events last. map owned_by (items_of last.masters) ≡ items_with_pools)
unfolding next expression_form stmt_form
opened = run_by program [] pool_stmts refl form to_open (λ events last. map owned_by (items_of last.masters) ≡ items_with_pools) refl refl

pub finishes : InSomeRun program (λ events last. Halts program last Finished × (filter is_seen events ≡ pool_events))
unfolding next expression_form stmt_form
finishes =
    run_by program [] pool_stmts refl form (to_open ++ steps 6 ++ takes 0 ∷ steps 10 ++ takes 0 ∷ steps 3 ++ takes 0 ∷ steps 9)
    (λ events last. Halts program last Finished × (filter is_seen events ≡ pool_events)) refl (refl, refl)
