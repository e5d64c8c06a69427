use Rattle.std.proofs.Common.{◌≡◌, drop}
use Rattle.ada_program.specs.Form.{StmtsForm, stmts_form, branches_form, handlers_form}
use Rattle.ada_program.specs.Kept.{types_in, variables_in}
use Rattle.ada_quiet.specs.Quiet.{are_quiet, are_quiet_branches, are_quiet_handlers}
use Rattle.ada_quiet.proofs.statements.+statements.Given as goal

-- what is left tells of all
abbrev pub invariant-are_quiet-statements : goal.invariant-are_quiet-statements
invariant-are_quiet-statements l =
    are_quiet (types_in l.types) (variables_in l.variables) (stmts_form (drop l.statement-index l.statements))
    ≡ are_quiet (types_in l.types) (variables_in l.variables) (stmts_form l.statements)

-- what is left tells of all
abbrev pub invariant-are_quiet_branches-branches : goal.invariant-are_quiet_branches-branches
invariant-are_quiet_branches-branches l = (others : StmtsForm) →
    are_quiet_branches (types_in l.types) (variables_in l.variables) (branches_form (drop l.branch-index l.branches) others)
    ≡ are_quiet_branches (types_in l.types) (variables_in l.variables) (branches_form l.branches others)

-- what is left tells of all
abbrev pub invariant-are_quiet_handlers-handlers : goal.invariant-are_quiet_handlers-handlers
invariant-are_quiet_handlers-handlers l =
    are_quiet_handlers (types_in l.types) (variables_in l.variables) (handlers_form (drop l.handler-index l.handlers))
    ≡ are_quiet_handlers (types_in l.types) (variables_in l.variables) (handlers_form l.handlers)
