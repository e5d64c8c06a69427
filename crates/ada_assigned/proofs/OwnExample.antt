-- The program whose Initialize assigns to a record object that it declares, and its run.

use Rattle.std.proofs.Common.{◌≡◌, ℕ, true, false, List, [], ◌∷◌, ◌++◌, refl, sym, ap, subst, arith}
use Rattle.ada_program.specs.declared.program.Item.TheVariants as item
use Rattle.ada_program.specs.declared.program.Procedure.{Procedure}
use Rattle.ada_program.specs.declared.program.Program.{Program}
use Rattle.ada_program.specs.declared.program.Stmt as stmt
use Rattle.ada_program.specs.Form.{StmtsForm, stmt_form, expression_form, stmt_forms, statement_rules}
use Rattle.ada_program.specs.ProgramForm.{ProgramForm, program_form, body_forms}
use Rattle.ada_program.specs.WellFormed.{IsWellFormed, creates_from, creations, stmts_fit, callable_in, pools_fit as pools_are_known}
use Rattle.ada_meaning.specs.declared.state.Value.{Value}
use Rattle.ada_meaning.specs.declared.state.Value.TheVariants.{Names}
use Rattle.ada_meaning.specs.Named.{next}
use Rattle.ada_meaning.specs.Run.{Choice, takes}
use Rattle.ada_order.specs.Example.{InSomeRun}
use Rattle.ada_order.proofs.Choices.{run_by}
use Rattle.ada_order.proofs.Example.{steps, vec}
use Rattle.ada_finalized.specs.Example.{object_x, object_y, object_stmts}
use Rattle.ada_assigned.specs.Law.{operations_assign_inside}
use Rattle.ada_assigned.specs.Example.{copying_initialize, AssignsToDeclared, FindsDeclared, InitializeAssignsBeside}
use Rattle.ada_assigned.proofs.Example as other
use Rattle.ada_assigned.proofs.Example.{inner_path}

abbrev initialize : Procedure
initialize = record other.initialize {
  statements = vec (stmt.AssignRecord (inner_path 1 0) (vec (item.Record (inner_path 0 1) ∷ []) (omega arith)) ∷ []) (omega arith);
}

abbrev program : Program
program = record other.program { procedures = vec (initialize ∷ []) (omega arith) }

bodies : body_forms program ≡ copying_initialize ∷ []
bodies = simp statement_rules

form : stmt_forms program ≡ object_stmts
form = simp statement_rules

-- The program with these statements.
abbrev with_stmts : StmtsForm → ProgramForm
with_stmts fs = record (program_form program) { statements = fs }

well_formed : IsWellFormed (program_form program)
unfolding expression_form stmt_form
well_formed = record {
  types_fit = refl;
  components_lie = refl;
  operations_fit = refl;
  pools_fit = subst (λ (fs : StmtsForm). pools_are_known (with_stmts fs) ≡ true) (sym form) refl;
  variables_fit = refl;
  creates_in_order = subst (λ (fs : StmtsForm). creates_from 1 0 (creations (with_stmts fs)) ≡ true) (sym form) refl;
  collections_first = refl;
  collections_fit = refl;
  has_one_each = refl;
  initials_fit = refl;
  statements_fit =
      subst
      (λ (fs : StmtsForm). stmts_fit (with_stmts fs).types (with_stmts fs).variables (with_stmts fs).texts (with_stmts fs).exceptions (callable_in (with_stmts fs)) false fs ≡ true)
      (sym form) refl;
  handlers_fit = refl;
  bodies_fit = refl;
}

assigns_so : operations_assign_inside (program_form program) (λ t. false) (λ procedure. false) ≡ true
unfolding expression_form stmt_form
assigns_so = refl

-- The component of X is picked and initialized, and Initialize is called; Y is initialized, and the records of the assignment are found.
abbrev choices : List Choice
choices = steps 3 ++ takes 0 ∷ steps 11

-- X is another object than Y.
abbrev number : Value → ℕ
number (Names o) = o.0
number v = 0

apart : object_x ≡ object_y → ⊥
apart same = let numbers : 0 ≡ 1 = ap number same in absurd (omega (arith, numbers))

assigns_to_declared : InSomeRun program (λ events last. AssignsToDeclared last)
unfolding next expression_form stmt_form
assigns_to_declared =
    run_by program (copying_initialize ∷ []) object_stmts bodies form choices (λ events last. AssignsToDeclared last) refl
    (_, _, _, _, _, refl, λ same. absurd (apart same))

-- One step before that they have been found.
finds_declared : InSomeRun program (λ events last. FindsDeclared last)
unfolding next expression_form stmt_form
finds_declared =
    run_by program (copying_initialize ∷ []) object_stmts bodies form (steps 3 ++ takes 0 ∷ steps 10) (λ events last. FindsDeclared last) refl
    (refl, _, _, refl, refl, _, _, refl, refl)

pub initialize_assigns_beside : InitializeAssignsBeside
initialize_assigns_beside = (program, refl, refl, bodies, form, well_formed, assigns_so, assigns_to_declared, finds_declared)
