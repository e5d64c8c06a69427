use Rattle.std.proofs.Common.{◌≡◌, Bool, ◌||◌, drop}
use Rattle.ada_deeds.specs.Forms.{stmts_do, branches_do, handlers_do}
use Rattle.ada_deeds.specs.View.{does_found, sought}
use Rattle.ada_deeds.specs.declared.deed.Callee.{Callee}
use Rattle.ada_deeds.specs.declared.deed.Deed.{Deed}
use Rattle.ada_program.specs.Form.{StmtsForm, stmts_form, branches_form, handlers_form}
use Rattle.ada_program.specs.Kept.{types_in, variables_in}
use Rattle.ada_deeds.proofs.walk.+walking.Given as goal

-- what is left tells of all
abbrev pub invariant-find_in_statements-statements : goal.invariant-find_in_statements-statements
invariant-find_in_statements-statements l = (d : Deed) (known : Callee → Bool) →
    (does_found l.found (sought l.search d) known || stmts_do (types_in l.types) (variables_in l.variables) known (sought l.search d) (stmts_form (drop l.statement-index l.statements)))
    ≡ (does_found l.fn.found (sought l.search d) known || stmts_do (types_in l.types) (variables_in l.variables) known (sought l.search d) (stmts_form l.statements))

-- what is left tells of all
abbrev pub invariant-find_in_branches-branches : goal.invariant-find_in_branches-branches
invariant-find_in_branches-branches l = (others : StmtsForm) (d : Deed) (known : Callee → Bool) →
    (does_found l.found (sought l.search d) known || branches_do (types_in l.types) (variables_in l.variables) known (sought l.search d) (branches_form (drop l.branch-index l.branches) others))
    ≡ (does_found l.fn.found (sought l.search d) known || branches_do (types_in l.types) (variables_in l.variables) known (sought l.search d) (branches_form l.branches others))

-- what is left tells of all
abbrev pub invariant-find_in_handlers-handlers : goal.invariant-find_in_handlers-handlers
invariant-find_in_handlers-handlers l = (d : Deed) (known : Callee → Bool) →
    (does_found l.found (sought l.search d) known || handlers_do (types_in l.types) (variables_in l.variables) known (sought l.search d) (handlers_form (drop l.handler-index l.handlers)))
    ≡ (does_found l.fn.found (sought l.search d) known || handlers_do (types_in l.types) (variables_in l.variables) known (sought l.search d) (handlers_form l.handlers))
