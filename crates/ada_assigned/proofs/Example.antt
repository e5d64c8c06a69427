-- The program whose Initialize assigns to a component of its formal parameter, and its run.

use Rattle.std.proofs.Common.{◌≡◌, ℕ, true, false, List, [], ◌∷◌, ◌++◌, refl, sym, subst, arith}
use Rattle.std.specs.Prelude.{None, pos}
use Rattle.ada_program.specs.declared.program.ComponentKind.TheVariants as component
use Rattle.ada_program.specs.declared.program.Declaration.TheVariants as declaration
use Rattle.ada_program.specs.declared.program.FormalMode.TheVariants.{InOut}
use Rattle.ada_program.specs.declared.program.Item.TheVariants as item
use Rattle.ada_program.specs.declared.program.Operations.{Operations}
use Rattle.ada_program.specs.declared.program.PartKind.TheVariants as part
use Rattle.ada_program.specs.declared.program.Procedure.{Procedure}
use Rattle.ada_program.specs.declared.program.Program.{Program}
use Rattle.ada_program.specs.declared.program.RecordPath.{RecordPath}
use Rattle.ada_program.specs.declared.program.Stmt.{Stmt}
use Rattle.ada_program.specs.declared.program.Stmt as stmt
use Rattle.ada_program.specs.declared.program.TypeDefinition.{TypeDefinition}
use Rattle.ada_program.specs.declared.program.TypeDefinition.TheVariants as definition
use Rattle.ada_program.specs.declared.program.Variable.{Variable}
use Rattle.ada_program.specs.declared.program.VariableKind.TheVariants as variable
use Rattle.ada_program.specs.Controlled.{no_operations}
use Rattle.ada_program.specs.Form.{StmtsForm, stmt_form, expression_form, stmt_forms, statement_rules}
use Rattle.ada_program.specs.ProgramForm.{ProgramForm, program_form, body_forms}
use Rattle.ada_program.specs.WellFormed.{IsWellFormed, creates_from, creations, stmts_fit, callable_in, pools_fit as pools_are_known}
use Rattle.ada_meaning.specs.Named.{next}
use Rattle.ada_meaning.specs.Run.{Choice, takes}
use Rattle.ada_order.specs.Example.{InSomeRun}
use Rattle.ada_order.proofs.Choices.{run_by}
use Rattle.ada_order.proofs.Example.{steps, vec, no_name, spot}
use Rattle.ada_finalized.specs.Example.{object_stmts, outer_operations}
use Rattle.ada_finalized.proofs.Example.{controlled_with}
use Rattle.ada_assigned.specs.Law.{operations_assign_inside}
use Rattle.ada_assigned.specs.Example.{assigning_initialize, AssignsToComponent, InitializeAssignsInside}

-- Inner and Outer, which overrides these, and what X, the formal parameter and the object of Initialize are known by.
abbrev pub types_with : Operations → List TypeDefinition
types_with operations =
    controlled_with (part.Elementary (component.Integer (pos 0))) 0 1 no_operations
    ∷ controlled_with (part.Record (record { 0 = 0 })) 1 2 operations
    ∷ definition.Object (record { 0 = 1 })
    ∷ definition.Object (record { 0 = 1 })
    ∷ definition.Object (record { 0 = 0 })
    ∷ []

-- A record object that is known by the type of this number.
abbrev pub object_of : ℕ → Variable
object_of t = record { name = no_name; spot = spot; kind = variable.Record (record { 0 = t }); borrows = false }

abbrev pub inner_path : (x part : ℕ) → RecordPath
inner_path x part = record {
  object = record { root = record { 0 = x }; of_record = true; selectors = vec [] (omega arith); spot = spot };
  first = record { 0 = 0 };
  part = record { 0 = part };
  «record» = record { 0 = 0 };
}

abbrev pub initialize : Procedure
initialize = record {
  formals = vec (InOut ∷ []) (omega arith);
  variables = vec (object_of 3 ∷ object_of 4 ∷ []) (omega arith);
  declarations = vec (declaration.Record (record { 0 = 1 }) (record { 0 = 4 }) None ∷ []) (omega arith);
  statements = vec (stmt.AssignRecord (inner_path 0 1) (vec (item.Record (inner_path 1 0) ∷ []) (omega arith)) ∷ []) (omega arith);
  handlers = vec [] (omega arith);
  start = spot;
  end = spot;
}

abbrev block : Stmt
block =
    stmt.Block (vec (declaration.Record (record { 0 = 0 }) (record { 0 = 2 }) None ∷ []) (omega arith)) (vec (stmt.Null ∷ []) (omega arith))
    (vec [] (omega arith))

abbrev pub program : Program
program = record {
  types = vec (types_with outer_operations) (omega arith);
  pools = vec [] (omega arith);
  procedures = vec (initialize ∷ []) (omega arith);
  variables = vec (object_of 2 ∷ []) (omega arith);
  texts = vec [] (omega arith);
  exceptions = vec [] (omega arith);
  declarations = vec [] (omega arith);
  statements = vec (block ∷ []) (omega arith);
  handlers = vec [] (omega arith);
}

bodies : body_forms program ≡ assigning_initialize ∷ []
bodies = simp statement_rules

form : stmt_forms program ≡ object_stmts
form = simp statement_rules

-- The program with these statements.
abbrev with_stmts : StmtsForm → ProgramForm
with_stmts fs = record (program_form program) { statements = fs }

well_formed : IsWellFormed (program_form program)
unfolding expression_form stmt_form
well_formed = record {
  types_fit = refl;
  components_lie = refl;
  operations_fit = refl;
  pools_fit = subst (λ (fs : StmtsForm). pools_are_known (with_stmts fs) ≡ true) (sym form) refl;
  variables_fit = refl;
  creates_in_order = subst (λ (fs : StmtsForm). creates_from 1 0 (creations (with_stmts fs)) ≡ true) (sym form) refl;
  collections_first = refl;
  collections_fit = refl;
  has_one_each = refl;
  initials_fit = refl;
  statements_fit =
      subst
      (λ (fs : StmtsForm). stmts_fit (with_stmts fs).types (with_stmts fs).variables (with_stmts fs).texts (with_stmts fs).exceptions (callable_in (with_stmts fs)) false fs ≡ true)
      (sym form) refl;
  handlers_fit = refl;
  bodies_fit = refl;
}

assigns_so : operations_assign_inside (program_form program) (λ t. true) (λ procedure. false) ≡ true
unfolding expression_form stmt_form
assigns_so = refl

-- The component of X is picked and initialized, and Initialize is called; Y is initialized, and the records of the assignment are found.
abbrev choices : List Choice
choices = steps 3 ++ takes 0 ∷ steps 11

assigns_to_component : InSomeRun program (λ events last. AssignsToComponent last)
unfolding next expression_form stmt_form
assigns_to_component =
    run_by program (assigning_initialize ∷ []) object_stmts bodies form choices (λ events last. AssignsToComponent last) refl
    (_, _, _, _, _, refl, λ same. tt)

pub initialize_assigns_inside : InitializeAssignsInside
initialize_assigns_inside = (program, refl, refl, bodies, form, well_formed, assigns_so, assigns_to_component)
