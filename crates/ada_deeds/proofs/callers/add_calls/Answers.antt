use Rattle.ada_deeds.specs.declared.deed.Callee.TheVariants as callee
use Rattle.ada_deeds.proofs.Edges.{more_called}
use Rattle.ada_reach.specs.View.{graph_of}
use Rattle.ada_deeds.proofs.callers.add_calls.Goals as goal

-- those of one more callee
pub callees-preserved : goal.callees-preserved
callees-preserved c =
    more_called c.args.nodes.procedures c.args.nodes.types c.args.node c.args.callees.now c.callees.callee-index (callee.Procedure (record { 0 = 0 }))
    (graph_of c.args.lists.now.items) (graph_of c.callees.lists.items) (graph_of c.add_call.new.lists.items)
    c.callees-test.true c.callees.invariant c.in_ok-add_call.ensures
