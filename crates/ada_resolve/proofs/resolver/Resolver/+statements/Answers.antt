use Rattle.std.proofs.lemmas.Result.{err_from_is_err_and}
use Rattle.ada_resolve.specs.View.{known_of}
use Rattle.ada_resolve.proofs.Handled.{handler_refused, handler_step}
use Rattle.ada_resolve.proofs.Single.{single_so}
use Rattle.ada_resolve.proofs.Told.{branch_refused, branch_step, simple_so}
use Rattle.ada_resolve.proofs.resolver.Resolver.+statements.Goals as goal

-- the fault of a branch is that of all
pub branches-returns-in_err-next : goal.branches-returns-in_err-next
branches-returns-in_err-next t c =
    let p = err_from_is_err_and c.from_residual.result c.from_residual.ensures.1 in
    rw (p.1, p.2) (λ others. branch_refused c.args.inside_loop (known_of c.branches.self, c.branches.notes) c.branches.made.items others
    c.args.branches.now c.branches.branch-index c.branch-item.result _ c.in_err-next.field-0.0 c.branches-test.true c.branch-item.is
    c.in_err-next.ensures (c.branches.invariant others))

-- a branch that is done goes behind those that are
pub branches-branches-preserved : goal.branches-branches-preserved
branches-branches-preserved t c =
    λ others. branch_step c.args.inside_loop (known_of c.branches.self, c.branches.notes) (known_of c.branch-self.new.self, c.branch-self.new.notes)
    c.branches.made.items c.push.new.self.items c.in_ok-next.next others c.args.branches.now c.branches.branch-index c.branch-item.result _
    c.branches-test.true c.branch-item.is c.in_ok-next.ensures c.in_ok-push.ensures.items (c.branches.invariant others)

-- the fault of a handler is that of all
pub handlers-returns-in_err-next : goal.handlers-returns-in_err-next
handlers-returns-in_err-next t c =
    let p = err_from_is_err_and c.from_residual.result c.from_residual.ensures.1 in
    rw (p.1, p.2) (handler_refused c.args.inside_loop (known_of c.handlers.self, c.handlers.notes) c.handlers.made.items
    c.args.handlers.now c.handlers.one-index c.one-item.result _ c.in_err-next.field-0.0 c.handlers-test.true c.one-item.is
    c.in_err-next.ensures c.handlers.invariant)

-- a handler that is done goes behind those that are
pub handlers-handlers-preserved : goal.handlers-handlers-preserved
handlers-handlers-preserved t c =
    handler_step c.args.inside_loop (known_of c.handlers.self, c.handlers.notes) (known_of c.handler.new.self, c.handler.new.notes)
    c.handlers.made.items c.push.new.self.items c.in_ok-next.next c.args.handlers.now c.handlers.one-index c.one-item.result _
    c.handlers-test.true c.one-item.is c.in_ok-next.ensures c.in_ok-push.ensures.items c.handlers.invariant

-- a statement with no others in it
pub statement-returns-in-Null : goal.statement-returns-in-Null
statement-returns-in-Null t c =
    rw (simple_so c.args.inside_loop c.args.statement.now (known_of c.args.self.now, c.args.notes.now) c.in-Null.is) c.simple_statement.ensures

-- a declaration with no others in it
pub declaration-returns-in-Exception : goal.declaration-returns-in-Exception
declaration-returns-in-Exception t c =
    rw (single_so c.args.declaration.now (known_of c.args.self.now, c.args.notes.now) c.in-Exception.is) c.single_declaration.ensures
