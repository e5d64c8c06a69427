use Rattle.std.proofs.Common.{◌≡◌, drop}
use Rattle.ada_program.specs.Form.{StmtsForm}
use Rattle.ada_program.specs.Kept.{stmts_fit, branches_fit, handlers_fit}
use Rattle.ada_program.proofs.well_formed.+fitting.Given as goal

-- what is left tells of all
abbrev pub invariant-statements_fit-statements : goal.invariant-statements_fit-statements
invariant-statements_fit-statements l =
    stmts_fit l.types l.variables l.texts l.exceptions l.callable l.inside_loop (drop l.statement-index l.statements)
    ≡ stmts_fit l.types l.variables l.texts l.exceptions l.callable l.inside_loop l.statements

-- what is left tells of all
abbrev pub invariant-branches_fit-branches : goal.invariant-branches_fit-branches
invariant-branches_fit-branches l = (others : StmtsForm) →
    branches_fit l.types l.variables l.texts l.exceptions l.callable l.inside_loop (drop l.branch-index l.branches) others
    ≡ branches_fit l.types l.variables l.texts l.exceptions l.callable l.inside_loop l.branches others

-- what is left tells of all
abbrev pub invariant-handlers_fit-handlers : goal.invariant-handlers_fit-handlers
invariant-handlers_fit-handlers l =
    handlers_fit l.types l.variables l.texts l.exceptions l.callable l.inside_loop (drop l.handler-index l.handlers)
    ≡ handlers_fit l.types l.variables l.texts l.exceptions l.callable l.inside_loop l.handlers
