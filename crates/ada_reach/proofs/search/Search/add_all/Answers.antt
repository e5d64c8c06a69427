use Rattle.ada_reach.proofs.Finding.{added_more}
use Rattle.ada_reach.proofs.search.Search.add_all.Goals as goal

pub loop-node-preserved : goal.loop-node-preserved
loop-node-preserved c = record {
  search = c.in_ok-add.ensures.search;
  adds = added_more c.args.nodes.now c.loop-node.node-index 0 c.args.self.now.marks.items c.loop-node.self.marks.items c.add.new.self.marks.items c.args.self.now.found.items c.loop-node.self.found.items c.add.new.self.found.items c.loop-node-test.true c.loop-node.invariant.adds c.in_ok-add.ensures.adds;
}
