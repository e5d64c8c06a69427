use Rattle.std.proofs.Common.{◌≡◌, map, drop}
use Rattle.ada_tree.specs.Statements.{branches_from, handlers_from}
use Rattle.ada_tree.specs.StatementView.{branch_of, declarations_of, handler_of, statements_of}
use Rattle.ada_resolve.specs.Resolution.{Others, branches_told, declarations_told, handlers_told, statements_told}
use Rattle.ada_resolve.specs.View.{known_of}
use Rattle.ada_resolve.proofs.Handled.{after_handlers}
use Rattle.ada_resolve.proofs.Told.{after_branches, after_done}
use Rattle.ada_resolve.proofs.resolver.Resolver.+statements.Given as goal

-- what is left, from what is known now, is what comes of all declarations
abbrev pub invariant-declarations-declarations : goal.invariant-declarations-declarations
invariant-declarations-declarations l =
    declarations_told (declarations_of (drop l.one-index l.declarations)) (known_of l.self, l.notes) ≡
    declarations_told (declarations_of l.declarations) (known_of l.initial.self, l.initial.notes)

-- what is left, behind what is done, is what comes of all
abbrev pub invariant-statements-statements : goal.invariant-statements-statements
invariant-statements-statements l =
    after_done l.made.items (statements_told l.inside_loop (statements_of (drop l.one-index l.statements)) (known_of l.self, l.notes)) ≡
    statements_told l.inside_loop (statements_of l.statements) (known_of l.initial.self, l.initial.notes)

-- the same of branches, whatever comes behind them
abbrev pub invariant-branches-branches : goal.invariant-branches-branches
invariant-branches-branches l = (others : Others) →
    after_branches l.made.items (branches_told l.inside_loop (branches_from (map branch_of (drop l.branch-index l.branches))) others (known_of l.self, l.notes)) ≡
    branches_told l.inside_loop (branches_from (map branch_of l.branches)) others (known_of l.initial.self, l.initial.notes)

-- the same of handlers
abbrev pub invariant-handlers-handlers : goal.invariant-handlers-handlers
invariant-handlers-handlers l =
    after_handlers l.made.items (handlers_told l.inside_loop (handlers_from (map handler_of (drop l.one-index l.handlers))) (known_of l.self, l.notes)) ≡
    handlers_told l.inside_loop (handlers_from (map handler_of l.handlers)) (known_of l.initial.self, l.initial.notes)
