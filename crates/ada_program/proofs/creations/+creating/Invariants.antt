use Rattle.std.proofs.Common.{◌≡◌, Some, drop}
use Rattle.ada_program.specs.Created.{seen_after}
use Rattle.ada_program.specs.Form.{StmtsForm, stmts_form, branches_form, handlers_form}
use Rattle.ada_program.specs.WellFormed.{created_by_all, created_by_branches, created_by_handlers}
use Rattle.ada_program.proofs.creations.+creating.Given as goal

-- what is left tells of all
abbrev pub invariant-after_statements-statements : goal.invariant-after_statements-statements
invariant-after_statements-statements l =
    seen_after (Some l.seen) (created_by_all (stmts_form (drop l.statement-index l.statements)))
    ≡ seen_after (Some l.fn.seen) (created_by_all (stmts_form l.statements))

-- what is left tells of all
abbrev pub invariant-after_branches-branches : goal.invariant-after_branches-branches
invariant-after_branches-branches l = (others : StmtsForm) →
    seen_after (Some l.seen) (created_by_branches (branches_form (drop l.branch-index l.branches) others))
    ≡ seen_after (Some l.fn.seen) (created_by_branches (branches_form l.branches others))

-- what is left tells of all
abbrev pub invariant-after_handlers-handlers : goal.invariant-after_handlers-handlers
invariant-after_handlers-handlers l =
    seen_after (Some l.seen) (created_by_handlers (handlers_form (drop l.handler-index l.handlers)))
    ≡ seen_after (Some l.fn.seen) (created_by_handlers (handlers_form l.handlers))
