use Rattle.std.proofs.Common.{◌≡◌, drop}
use Rattle.ada_program.specs.Form.{StmtsForm, stmts_form, branches_form, handlers_form}
use Rattle.ada_program.specs.Kept.{types_in}
use Rattle.ada_quiet.specs.Simple.{are_simple, are_simple_branches, are_simple_handlers}
use Rattle.ada_quiet.proofs.simple.+statements.Given as goal

-- what is left tells of all
abbrev pub invariant-are_simple-statements : goal.invariant-are_simple-statements
invariant-are_simple-statements l =
    are_simple (types_in l.fn.types) (stmts_form (drop l.statement-index l.statements))
    ≡ are_simple (types_in l.fn.types) (stmts_form l.statements)

-- what is left tells of all
abbrev pub invariant-are_simple_branches-branches : goal.invariant-are_simple_branches-branches
invariant-are_simple_branches-branches l = (others : StmtsForm) →
    are_simple_branches (types_in l.fn.types) (branches_form (drop l.branch-index l.branches) others)
    ≡ are_simple_branches (types_in l.fn.types) (branches_form l.branches others)

-- what is left tells of all
abbrev pub invariant-are_simple_handlers-handlers : goal.invariant-are_simple_handlers-handlers
invariant-are_simple_handlers-handlers l =
    are_simple_handlers (types_in l.fn.types) (handlers_form (drop l.handler-index l.handlers))
    ≡ are_simple_handlers (types_in l.fn.types) (handlers_form l.handlers)
