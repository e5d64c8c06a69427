use Rattle.std.proofs.Common.{◌≡◌, drop}
use Rattle.ada_operations.specs.Created.{stmts_collections, branches_collections, handlers_collections}
use Rattle.ada_operations.specs.View.{with_parts}
use Rattle.ada_program.specs.Form.{StmtsForm, stmts_form, branches_form, handlers_form}
use Rattle.ada_operations.proofs.created.+walking.Given as goal

-- what is left leads to what all of it leads to
abbrev pub invariant-add_statements-statements : goal.invariant-add_statements-statements
invariant-add_statements-statements l =
    with_parts (stmts_collections (stmts_form (drop l.statement-index l.statements))) l.places.table.items
    ≡ with_parts (stmts_collections (stmts_form l.statements)) l.fn.places.table.items

-- what is left leads to what all of it leads to
abbrev pub invariant-add_branches-branches : goal.invariant-add_branches-branches
invariant-add_branches-branches l = (others : StmtsForm) →
    with_parts (branches_collections (branches_form (drop l.branch-index l.branches) others)) l.places.table.items
    ≡ with_parts (branches_collections (branches_form l.branches others)) l.fn.places.table.items

-- what is left leads to what all of it leads to
abbrev pub invariant-add_handlers-handlers : goal.invariant-add_handlers-handlers
invariant-add_handlers-handlers l =
    with_parts (handlers_collections (handlers_form (drop l.handler-index l.handlers))) l.places.table.items
    ≡ with_parts (handlers_collections (handlers_form l.handlers)) l.fn.places.table.items
