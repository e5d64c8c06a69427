-- Programs with two declared pools: one meets the premises of the laws, and the other one frees by an instance for another access type, with runs of them.

use Rattle.std.proofs.Common.{◌≡◌, ◌≤◌, ℕ, true, List, [], ◌∷◌, ◌++◌, length, refl, arith}
use Rattle.std.specs.Prelude.{Some, None, pos}
use Rattle.ada_program.specs.declared.program.Expression.{Integer}
use Rattle.ada_program.specs.declared.program.Item.TheVariants as item
use Rattle.ada_program.specs.declared.program.Stmt.{Stmt}
use Rattle.ada_program.specs.declared.program.Stmt as stmt
use Rattle.ada_program.specs.declared.program.Pool.{Pool}
use Rattle.ada_program.specs.declared.program.TypeDefinition.{TypeDefinition}
use Rattle.ada_program.specs.declared.program.TypeDefinition.TheVariants as definition
use Rattle.ada_program.specs.declared.program.Declaration.{Declaration}
use Rattle.ada_program.specs.declared.program.Declaration.TheVariants as declaration
use Rattle.ada_program.specs.declared.program.Program.{Program}
use Rattle.ada_program.specs.Form.{expression_form, declaration_forms, stmt_forms, no_handlers, statement_rules, expression_rules}
use Rattle.ada_flow.specs.Flow.{uses_in}
use Rattle.ada_meaning.specs.declared.event.Halt.TheVariants.{Finished, Erroneous}
use Rattle.ada_meaning.specs.declared.event.Why.TheVariants.{GivesElsewhere}
use Rattle.ada_meaning.specs.Named.{next}
use Rattle.ada_meaning.specs.Run.{grants, takes}
use Rattle.ada_sound.specs.Always.{IsChecked, FinishesAfter, FreesOthers, HaltsAfter}
use Rattle.ada_sound.specs.PoolExamples.{pool_declarations, HasTwoPools, pooling_stmts, pooling_events, misplacing_stmts}
use Rattle.ada_sound.proofs.Choices.{halts_after, accepted_by, frees_others_by}
use Rattle.ada_sound.proofs.Example.{steps, vec, no_name}
use Rattle.ada_sound.proofs.ExampleOwners.{record_of, an_integer, of_access, whole}
use Rattle.ada_sound.proofs.ExampleFrees.{news}

-- First, Second : First_Fit_Pool (100);
abbrev a_pool : Pool
a_pool = record { name = no_name; words = 100 }

-- type Cell is record Value : Integer; end record;
-- type Link is access Cell with Storage_Pool => First; type Other is access Cell with Storage_Pool => Second;
abbrev in_pool : ℕ → TypeDefinition
in_pool pool = definition.Access no_name (record { 0 = 0 }) (Some (record { 0 = pool }))

abbrev pool_types : List TypeDefinition
pool_types = record_of (an_integer ∷ []) (omega arith) ∷ in_pool 0 ∷ in_pool 1 ∷ []

-- X : Link; Y : Other;
abbrev pool_parts : List Declaration
pool_parts =
    declaration.Pool (record { 0 = 0 }) ∷ declaration.Pool (record { 0 = 1 }) ∷ declaration.Collection (record { 0 = 1 }) ∷ declaration.Collection (record { 0 = 2 })
    ∷ declaration.Variable (record { 0 = 0 }) None ∷ declaration.Variable (record { 0 = 1 }) None ∷ []

abbrev program_with : (statements : List Stmt) → length statements ≤ 8 → Program
program_with statements le = record {
  types = vec pool_types (omega arith);
  pools = vec (a_pool ∷ a_pool ∷ []) (omega arith);
  procedures = vec [] (omega arith);
  variables = vec (of_access 1 ∷ of_access 2 ∷ []) (omega arith);
  texts = vec [] (omega arith);
  exceptions = vec [] (omega arith);
  declarations = vec pool_parts (omega arith);
  statements = vec statements le;
  handlers = vec [] (omega arith);
}

-- X := new Cell'(n); and the same of Y, by their numbers.
abbrev new_cell : (x access n : ℕ) → Stmt
new_cell x access n = news (whole x) access (item.Value (Integer (pos n)) ∷ []) (omega arith)

-- X := new Cell'(7); Y := new Cell'(8); Free_Link (X);
abbrev pub pooling : Program
pooling = program_with (new_cell 0 1 7 ∷ new_cell 1 2 8 ∷ stmt.Free (record { 0 = 1 }) (whole 0) ∷ []) (omega arith)

pub pooling_declares : declaration_forms pooling ≡ pool_declarations
pooling_declares = refl

pub pooling_form : stmt_forms pooling ≡ pooling_stmts
pooling_form = simp (statement_rules, expression_rules)

pub pooling_pools : HasTwoPools pooling
pooling_pools = (refl, refl)

pub pooling_accepted : IsChecked pooling
unfolding expression_form uses_in
pooling_accepted = accepted_by pooling pooling_stmts no_handlers pooling_form refl _ _ refl refl refl

-- Both objects are granted, and the second one goes with its collection.
pub pools : FinishesAfter pooling_events pooling
unfolding next expression_form
pools =
    halts_after pooling pooling_stmts no_handlers pooling_form refl [] (steps 16 ++ grants true ∷ steps 6 ++ grants true ∷ steps 10 ++ takes 0 ∷ steps 7)
    pooling_events Finished refl refl refl

-- X := new Cell'(7); Free_Other (X);
abbrev pub misplacing : Program
misplacing = program_with (new_cell 0 1 7 ∷ stmt.Free (record { 0 = 2 }) (whole 0) ∷ []) (omega arith)

pub misplacing_form : stmt_forms misplacing ≡ misplacing_stmts
misplacing_form = simp (statement_rules, expression_rules)

pub misplacing_pools : HasTwoPools misplacing
misplacing_pools = (refl, refl)

pub misplacing_frees : FreesOthers misplacing
unfolding expression_form uses_in
misplacing_frees = frees_others_by misplacing misplacing_stmts no_handlers misplacing_form refl _ _ refl refl refl refl

-- The words of the object are to go back to the pool of the other access type.
pub misplaces : HaltsAfter [] (Erroneous GivesElsewhere) misplacing
unfolding next expression_form
misplaces =
    halts_after misplacing misplacing_stmts no_handlers misplacing_form refl [] (steps 16 ++ grants true ∷ steps 1) [] (Erroneous GivesElsewhere) refl refl refl
