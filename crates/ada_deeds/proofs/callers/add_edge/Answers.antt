use Rattle.std.proofs.Common.{rules, ◌<◌, ◌≡◌, length, get_or, arith}
use Rattle.std.proofs.lemmas.Grind.{common_steps}
use Rattle.ada_deeds.proofs.Edges.{edge_pushed}
use Rattle.ada_deeds.proofs.callers.add_edge.Goals as goal

-- the edge stands last in the list of its node
pub returns-in_ok-push-in-Some : goal.returns-in_ok-push-in-Some
returns-in_ok-push-in-Some c =
    let lt : c.args.from < length c.args.lists.now.items = grind (arith, common_steps) in
    let is : c.in-Some.list.now ≡ get_or c.args.lists.now.items c.args.from c.in-Some.list.now = search rules in
    edge_pushed c.args.lists.now.items c.args.from c.args.to c.in-Some.list.now c.push.new.self lt is c.in_ok-push-in-Some.ensures.items
