use Rattle.std.proofs.Common.{take}
use Rattle.ada_reach.specs.View.{IsSearch, Adds}
use Rattle.ada_reach.proofs.search.Search.add_all.Given as goal

abbrev pub invariant-loop-node : goal.invariant-loop-node
invariant-loop-node l = record {
  search : IsSearch l.self.marks.items l.self.found.items;
  adds : Adds (take l.node-index l.nodes) l.fn.self.marks.items l.self.marks.items l.fn.self.found.items l.self.found.items;
}
