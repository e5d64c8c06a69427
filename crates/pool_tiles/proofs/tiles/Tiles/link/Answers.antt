use Rattle.std.proofs.Common.{◌+◌, arith}
use Rattle.pool_tiles.proofs.Pools.{word_inside, link_there}
use Rattle.pool_tiles.proofs.tiles.Tiles.link.Goals as goal

pub overflow_add-place : goal.overflow_add-place
overflow_add-place c =
    let x = word_inside c.self.inside.words c.self.inside.first c.args.self.now c.args.place (c.args.which) (c.args.place + 2 + c.args.which) c.self.invariant c.self.view_is (omega arith) (link_there c.self.inside.words c.self.inside.first c.args.self.now c.args.place c.args.which c.self.invariant c.self.view_is c.requires) in let within = x.within in let few = x.few in omega arith

pub overflow_add-place-2 : goal.overflow_add-place-2
overflow_add-place-2 c =
    let x = word_inside c.self.inside.words c.self.inside.first c.args.self.now c.args.place (c.args.which) (c.args.place + 2 + c.args.which) c.self.invariant c.self.view_is (omega arith) (link_there c.self.inside.words c.self.inside.first c.args.self.now c.args.place c.args.which c.self.invariant c.self.view_is c.requires) in let within = x.within in let few = x.few in omega arith

pub get-requires : goal.get-requires
get-requires c =
    let x = word_inside c.self.inside.words c.self.inside.first c.args.self.now c.args.place (c.args.which) (c.args.place + 2 + c.args.which) c.self.invariant c.self.view_is (omega arith) (link_there c.self.inside.words c.self.inside.first c.args.self.now c.args.place c.args.which c.self.invariant c.self.view_is c.requires) in let within = x.within in let few = x.few in omega arith
