-- Programs that allocate an object and free it: one by the instance for its own access type, one by that for another.

use Rattle.ada_typed.specs.Freeing.{ComesToFree, AProgramFreesItsOwn, AProgramFreesAnother}
use Rattle.std.proofs.Common.{◌≡◌, ℕ, true, false, List, [], ◌∷◌, arith, refl, inl}
use Rattle.std.specs.Prelude.{◌≢◌, Some, None, pos}
use Rattle.ada_program.specs.declared.program.Right.TheVariants as right
use Rattle.ada_program.specs.declared.program.Stmt as stmt
use Rattle.ada_program.specs.declared.program.ComponentKind.TheVariants as kind
use Rattle.ada_program.specs.declared.program.TypeDefinition.{TypeDefinition}
use Rattle.ada_program.specs.declared.program.TypeDefinition.TheVariants as definition
use Rattle.ada_program.specs.declared.program.Declaration.{Declaration}
use Rattle.ada_program.specs.declared.program.Declaration.TheVariants as declaration
use Rattle.ada_program.specs.declared.program.Variable.{Variable}
use Rattle.ada_program.specs.declared.program.VariableKind.TheVariants as variable
use Rattle.ada_program.specs.declared.program.Program.{Program}
use Rattle.ada_program.specs.Form.{expression_form, stmt_form, path_form, no_stmts, no_handlers}
use Rattle.ada_program.specs.ProgramForm.{program_form}
use Rattle.ada_program.specs.WellFormed.{IsWellFormed}
use Rattle.ada_program.specs.Freed.{FreesItsOwn}
use Rattle.ada_meaning.specs.Frame as frame
use Rattle.ada_meaning.specs.Named.{next}
use Rattle.ada_meaning.specs.Run.{settled, grants, here, there}
use Rattle.ada_typed.proofs.Example.{vec, no_name, spot, x_path, parts}

-- type Cell is record Value : Integer; end record; type Link is access Cell; type Other is access Cell;
abbrev types : List TypeDefinition
types =
    definition.Record no_name (vec parts (omega arith)) (vec (kind.Integer (pos 0) ∷ []) (omega arith)) None
    ∷ definition.Access no_name (record { 0 = 0 }) None
    ∷ definition.Access no_name (record { 0 = 0 }) None
    ∷ []

-- X : Link := new Cell;
abbrev variables : List Variable
variables = record { name = no_name; spot = spot; kind = variable.Access (record { 0 = 1 }); borrows = false } ∷ []

abbrev declarations : List Declaration
declarations =
    declaration.Collection (record { 0 = 1 })
    ∷ declaration.Collection (record { 0 = 2 })
    ∷ declaration.Variable (record { 0 = 0 }) (Some (right.Default (record { 0 = 1 })))
    ∷ []

-- Free (X); by the instance for an access type.
abbrev program : (access : ℕ) → Program
program access = record {
  types = vec types (omega arith);
  pools = vec [] (omega arith);
  procedures = vec [] (omega arith);
  variables = vec variables (omega arith);
  texts = vec [] (omega arith);
  exceptions = vec [] (omega arith);
  declarations = vec declarations (omega arith);
  statements = vec (stmt.Free (record { 0 = access }) x_path ∷ []) (omega arith);
  handlers = vec [] (omega arith);
}

-- The programs by the instance for Link and by that for Other are well formed.
well_formed_by_own : IsWellFormed (program_form (program 1))
unfolding expression_form stmt_form
well_formed_by_own = record {
  types_fit = refl;
  components_lie = refl;
  operations_fit = refl;
  pools_fit = refl;
  variables_fit = refl;
  creates_in_order = refl;
  collections_first = refl;
  collections_fit = refl;
  has_one_each = refl;
  initials_fit = refl;
  statements_fit = refl;
  handlers_fit = refl;
  bodies_fit = refl;
}

well_formed_by_other : IsWellFormed (program_form (program 2))
unfolding expression_form stmt_form
well_formed_by_other = record {
  types_fit = refl;
  components_lie = refl;
  operations_fit = refl;
  pools_fit = refl;
  variables_fit = refl;
  creates_in_order = refl;
  collections_first = refl;
  collections_fit = refl;
  has_one_each = refl;
  initials_fit = refl;
  statements_fit = refl;
  handlers_fit = refl;
  bodies_fit = refl;
}

own_by_own : FreesItsOwn (program_form (program 1))
unfolding stmt_form
own_by_own = record { statements = refl; handlers = refl; bodies = refl }

-- Each comes to its Free.
comes_by_own : ComesToFree (program 1) (λ own access. own ≡ access)
unfolding next expression_form stmt_form
comes_by_own = (
  [],
  _,
  _,
  1,
  record { 0 = 0 },
  _,
  there settled _ (refl, refl) (there settled _ (refl, refl) (there settled _ (refl, refl) (there settled _ (refl, refl) (there (grants true) _ (refl, refl) (there settled _ (refl, refl) (there settled _ (refl, refl) here)))))),
  inl (record { path = path_form x_path; fs = no_stmts; k = frame.Handles no_handlers ∷ frame.Closes ∷ []; runs = refl; begins = refl; alone = refl; names = refl }),
  refl,
  refl,
)

comes_by_other : ComesToFree (program 2) (λ own access. own ≢ access)
unfolding next expression_form stmt_form
comes_by_other = (
  [],
  _,
  _,
  2,
  record { 0 = 0 },
  _,
  there settled _ (refl, refl) (there settled _ (refl, refl) (there settled _ (refl, refl) (there settled _ (refl, refl) (there (grants true) _ (refl, refl) (there settled _ (refl, refl) (there settled _ (refl, refl) here)))))),
  inl (record { path = path_form x_path; fs = no_stmts; k = frame.Handles no_handlers ∷ frame.Closes ∷ []; runs = refl; begins = refl; alone = refl; names = refl }),
  refl,
  λ same. omega (arith, same),
)

pub frees_its_own : AProgramFreesItsOwn
frees_its_own = (program 1, well_formed_by_own, own_by_own, comes_by_own)

pub frees_another : AProgramFreesAnother
frees_another = (program 2, well_formed_by_other, comes_by_other)
