use Rattle.std.proofs.Common.{◌<◌, length, arith}
use Rattle.ada_reach.proofs.Finding.{one_more, is_fresh}
use Rattle.ada_reach.proofs.search.Search.add.Goals as goal

pub returns-in_ok-push-clause-search : goal.returns-in_ok-push-clause-search
returns-in_ok-push-clause-search c =
    let lt : c.args.node < length c.args.self.now.marks.items = grind (arith, c.if-node-len.true, c.len.ensures) in
    rw c.in_ok-push.ensures.items
    (one_more c.args.self.now.marks.items c.args.self.now.found.items c.args.node c.requires lt
    (is_fresh c.args.self.now.marks.items c.args.node c.index.result.now lt c.index.ensures c.if-not-index.true))
