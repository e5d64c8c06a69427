use Rattle.std.proofs.Common.{◌≡◌, drop, map}
use Rattle.ada_program.specs.Form.{StmtsForm, stmts_form, branches_form, handlers_form}
use Rattle.ada_program.specs.ProgramForm.{variable_form}
use Rattle.ada_flow.specs.Flow.{opened_by_all, opened_by_branches, opened_by_handlers}
use Rattle.ada_flow.proofs.loops.+opening.Given as goal
use Rattle.ada_flow.specs.Told.{tracks_in}

-- what is left opens the rest
abbrev pub invariant-open_all-statements : goal.invariant-open_all-statements
invariant-open_all-statements l =
    opened_by_all (map variable_form l.variables) (tracks_in l.tracks) (stmts_form (drop l.statement-index l.statements)) l.known.holds.items
    ≡ opened_by_all (map variable_form l.variables) (tracks_in l.tracks) (stmts_form l.statements) l.fn.known.holds.items

-- what is left opens the rest
abbrev pub invariant-open_branches-branches : goal.invariant-open_branches-branches
invariant-open_branches-branches l = (others : StmtsForm) →
    opened_by_branches (map variable_form l.variables) (tracks_in l.tracks) (branches_form (drop l.branch-index l.branches) others) l.known.holds.items
    ≡ opened_by_branches (map variable_form l.variables) (tracks_in l.tracks) (branches_form l.branches others) l.fn.known.holds.items

-- what is left opens the rest
abbrev pub invariant-open_handlers-handlers : goal.invariant-open_handlers-handlers
invariant-open_handlers-handlers l =
    opened_by_handlers (map variable_form l.variables) (tracks_in l.tracks) (handlers_form (drop l.handler-index l.handlers)) l.known.holds.items
    ≡ opened_by_handlers (map variable_form l.variables) (tracks_in l.tracks) (handlers_form l.handlers) l.fn.known.holds.items
