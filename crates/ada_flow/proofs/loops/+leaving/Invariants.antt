use Rattle.std.proofs.Common.{◌≡◌, drop}
use Rattle.ada_program.specs.Form.{StmtsForm, stmts_form, branches_form, handlers_form}
use Rattle.ada_flow.specs.Flow.{have_exit, branches_have_exit, handlers_have_exit}
use Rattle.ada_flow.proofs.loops.+leaving.Given as goal

-- what is left tells of all
abbrev pub invariant-have_exit-statements : goal.invariant-have_exit-statements
invariant-have_exit-statements l = have_exit (stmts_form (drop l.statement-index l.statements)) ≡ have_exit (stmts_form l.statements)

-- what is left tells of all
abbrev pub invariant-branches_have_exit-branches : goal.invariant-branches_have_exit-branches
invariant-branches_have_exit-branches l = (others : StmtsForm) →
    branches_have_exit (branches_form (drop l.branch-index l.branches) others) ≡ branches_have_exit (branches_form l.branches others)

-- what is left tells of all
abbrev pub invariant-handlers_have_exit-handlers : goal.invariant-handlers_have_exit-handlers
invariant-handlers_have_exit-handlers l =
    handlers_have_exit (handlers_form (drop l.handler-index l.handlers)) ≡ handlers_have_exit (handlers_form l.handlers)
