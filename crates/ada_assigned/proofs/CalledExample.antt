-- The program whose Initialize calls a procedure that assigns to a record object which it declares, and its run.

use Rattle.std.proofs.Common.{◌≡◌, zero, suc, true, false, [], ◌∷◌, ◌++◌, refl, sym, subst, arith}
use Rattle.std.proofs.lemmas.Bool.{eqb-true}
use Rattle.ada_program.specs.declared.program.Actual.TheVariants as actual
use Rattle.ada_program.specs.declared.program.Item.TheVariants as item
use Rattle.ada_program.specs.declared.program.Procedure.{Procedure}
use Rattle.ada_program.specs.declared.program.Program.{Program}
use Rattle.ada_program.specs.declared.program.RecordPath.{RecordPath}
use Rattle.ada_program.specs.declared.program.Stmt as stmt
use Rattle.ada_program.specs.Form.{StmtsForm, stmt_form, expression_form, stmt_forms, statement_rules}
use Rattle.ada_program.specs.ProgramForm.{ProgramForm, program_form, body_forms}
use Rattle.ada_program.specs.WellFormed.{IsWellFormed, creates_from, creations, stmts_fit, callable_in, pools_fit as pools_are_known}
use Rattle.ada_meaning.specs.Named.{next}
use Rattle.ada_meaning.specs.Run.{takes}
use Rattle.ada_order.specs.Example.{InSomeRun}
use Rattle.ada_order.proofs.Choices.{run_by}
use Rattle.ada_order.proofs.Example.{steps, vec}
use Rattle.ada_finalized.specs.Example.{object_stmts}
use Rattle.ada_assigned.specs.Law.{CalledAssignBeside, operations_assign_inside}
use Rattle.ada_assigned.specs.Example.{copying_initialize, calling_initialize, calling_operations, is_first, FindsDeclaredThere, InitializeCallsBeside}
use Rattle.ada_assigned.proofs.Example as other
use Rattle.ada_assigned.proofs.Example.{inner_path, object_of, types_with}

-- A call gives X to the first procedure.
abbrev own_path : RecordPath
own_path = record (inner_path 0 0) { «record» = record { 0 = 1 } }

abbrev copy : Procedure
copy = record other.initialize {
  statements = vec (stmt.AssignRecord (inner_path 1 0) (vec (item.Record (inner_path 0 1) ∷ []) (omega arith)) ∷ []) (omega arith);
}

abbrev initialize : Procedure
initialize = record other.initialize {
  variables = vec (object_of 3 ∷ []) (omega arith);
  declarations = vec [] (omega arith);
  statements = vec (stmt.Call (record { 0 = 0 }) (vec (actual.InOutRecord own_path ∷ []) (omega arith)) ∷ []) (omega arith);
}

abbrev program : Program
program = record other.program { types = vec (types_with calling_operations) (omega arith); procedures = vec (copy ∷ initialize ∷ []) (omega arith) }

bodies : body_forms program ≡ copying_initialize ∷ calling_initialize ∷ []
bodies = simp statement_rules

form : stmt_forms program ≡ object_stmts
form = simp statement_rules

-- The program with these statements.
abbrev with_stmts : StmtsForm → ProgramForm
with_stmts fs = record (program_form program) { statements = fs }

well_formed : IsWellFormed (program_form program)
unfolding expression_form stmt_form
well_formed = record {
  types_fit = refl;
  components_lie = refl;
  operations_fit = refl;
  pools_fit = subst (λ (fs : StmtsForm). pools_are_known (with_stmts fs) ≡ true) (sym form) refl;
  variables_fit = refl;
  creates_in_order = subst (λ (fs : StmtsForm). creates_from 1 0 (creations (with_stmts fs)) ≡ true) (sym form) refl;
  collections_first = refl;
  collections_fit = refl;
  has_one_each = refl;
  initials_fit = refl;
  statements_fit =
      subst
      (λ (fs : StmtsForm). stmts_fit (with_stmts fs).types (with_stmts fs).variables (with_stmts fs).texts (with_stmts fs).exceptions (callable_in (with_stmts fs)) false fs ≡ true)
      (sym form) refl;
  handlers_fit = refl;
  bodies_fit = refl;
}

calls_so : operations_assign_inside (program_form program) (λ t. false) is_first ≡ true
unfolding expression_form stmt_form
calls_so = refl

assigns_beside : CalledAssignBeside (program_form program) is_first
unfolding expression_form stmt_form
assigns_beside zero is = refl
assigns_beside (suc n) is = let same = eqb-true (suc n) 0 is in absurd (omega (arith, same))

-- The component of X is picked and initialized, and Initialize is called, which calls Copy; Y is initialized, and the records of the assignment are found.
finds_declared : InSomeRun program (λ events last. FindsDeclaredThere last)
unfolding next expression_form stmt_form
finds_declared =
    run_by program (copying_initialize ∷ calling_initialize ∷ []) object_stmts bodies form (steps 3 ++ takes 0 ∷ steps 15) (λ events last. FindsDeclaredThere last) refl
    (refl, _, _, refl, refl, _, _, refl, refl)

pub initialize_calls_beside : InitializeCallsBeside
initialize_calls_beside = (program, refl, refl, bodies, form, well_formed, calls_so, assigns_beside, finds_declared)
