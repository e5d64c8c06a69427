use Rattle.ada_deeds.proofs.Edges.{more_started}
use Rattle.ada_reach.specs.View.{graph_of}
use Rattle.ada_deeds.proofs.calls.add_starts.Goals as goal

-- for one more type
pub types-preserved : goal.types-preserved
types-preserved c =
    more_started c.args.node c.args.types.now c.types.number-index (record { 0 = 0 })
    (graph_of c.args.lists.now.items) (graph_of c.types.lists.items) (graph_of c.add_edge.new.lists.items)
    c.types-test.true c.types.invariant c.in_ok-add_edge.ensures
