use Rattle.std.proofs.Common.{◌+◌, arith}
use Rattle.pool_tiles.proofs.Pools.{block_inside, word_inside, link_there, Wrote, wrote_told}
use Rattle.pool_tiles.proofs.tiles.Tiles.set_link.Goals as goal

pub overflow_add-place : goal.overflow_add-place
overflow_add-place c =
    let x = word_inside c.self.inside.words c.self.inside.first c.args.self.now c.args.place (c.args.which) (c.args.place + 2 + c.args.which) c.self.invariant c.self.view_is (omega arith) (link_there c.self.inside.words c.self.inside.first c.args.self.now c.args.place c.args.which c.self.invariant c.self.view_is c.requires) in let within = x.within in let few = x.few in omega arith

pub overflow_add-place-2 : goal.overflow_add-place-2
overflow_add-place-2 c =
    let x = word_inside c.self.inside.words c.self.inside.first c.args.self.now c.args.place (c.args.which) (c.args.place + 2 + c.args.which) c.self.invariant c.self.view_is (omega arith) (link_there c.self.inside.words c.self.inside.first c.args.self.now c.args.place c.args.which c.self.invariant c.self.view_is c.requires) in let within = x.within in let few = x.few in omega arith

pub set-requires : goal.set-requires
set-requires c =
    let x = word_inside c.self.inside.words c.self.inside.first c.args.self.now c.args.place (c.args.which) (c.args.place + 2 + c.args.which) c.self.invariant c.self.view_is (omega arith) (link_there c.self.inside.words c.self.inside.first c.args.self.now c.args.place c.args.which c.self.invariant c.self.view_is c.requires) in let within = x.within in let few = x.few in omega arith

done : (c : goal.After-set) → Wrote c.self.inside.words c.self.inside.first c.args.self.now c.args.place (c.args.which) c.args.word c.set.new.self
done c = wrote_told c.self.inside.words c.self.inside.first c.args.self.now c.args.place (c.args.which) c.args.word (c.args.place + 2 + c.args.which) c.set.new.self c.self.invariant c.self.view_is c.set.ensures (omega arith) (link_there c.self.inside.words c.self.inside.first c.args.self.now c.args.place c.args.which c.self.invariant c.self.view_is c.requires)

pub invariant_of-self : goal.invariant_of-self
invariant_of-self c = (done c).spells

pub returns-clause-tiles : goal.returns-clause-tiles
returns-clause-tiles c = (done c).tiles

pub returns-clause-written : goal.returns-clause-written
returns-clause-written c = (done c).written_is

pub returns-clause-kept : goal.returns-clause-kept
returns-clause-kept c = (done c).kept_words

pub returns-clause-inside : goal.returns-clause-inside
returns-clause-inside c =
    let x = word_inside c.self.inside.words c.self.inside.first c.args.self.now c.args.place (c.args.which) (c.args.place + 2 + c.args.which) c.self.invariant c.self.view_is (omega arith) (link_there c.self.inside.words c.self.inside.first c.args.self.now c.args.place c.args.which c.self.invariant c.self.view_is c.requires) in let within = x.within in let few = x.few in (omega arith, (block_inside c.self.inside.words c.self.inside.first c.args.self.now c.args.place c.self.invariant c.self.view_is c.requires.0).1)
