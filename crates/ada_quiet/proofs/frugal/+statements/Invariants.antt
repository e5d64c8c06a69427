use Rattle.std.proofs.Common.{◌≡◌, drop}
use Rattle.ada_program.specs.Form.{StmtsForm, stmts_form, branches_form, handlers_form}
use Rattle.ada_quiet.specs.Frugal.{are_frugal, are_frugal_branches, are_frugal_handlers}
use Rattle.ada_quiet.specs.Known.{thrift_in}
use Rattle.ada_quiet.proofs.frugal.+statements.Given as goal

-- what is left tells of all
abbrev pub invariant-are_frugal-statements : goal.invariant-are_frugal-statements
invariant-are_frugal-statements l =
    are_frugal (thrift_in l.fn.thrift) (stmts_form (drop l.statement-index l.statements)) ≡ are_frugal (thrift_in l.fn.thrift) (stmts_form l.statements)

-- what is left tells of all
abbrev pub invariant-are_frugal_branches-branches : goal.invariant-are_frugal_branches-branches
invariant-are_frugal_branches-branches l = (others : StmtsForm) →
    are_frugal_branches (thrift_in l.fn.thrift) (branches_form (drop l.branch-index l.branches) others)
    ≡ are_frugal_branches (thrift_in l.fn.thrift) (branches_form l.branches others)

-- what is left tells of all
abbrev pub invariant-are_frugal_handlers-handlers : goal.invariant-are_frugal_handlers-handlers
invariant-are_frugal_handlers-handlers l =
    are_frugal_handlers (thrift_in l.fn.thrift) (handlers_form (drop l.handler-index l.handlers))
    ≡ are_frugal_handlers (thrift_in l.fn.thrift) (handlers_form l.handlers)
