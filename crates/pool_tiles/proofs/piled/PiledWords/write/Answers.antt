use Rattle.std.proofs.Common.{◌+◌, arith}
use Rattle.pool_tiles.proofs.Piling.{word_inside, Wrote, wrote_told}
use Rattle.pool_tiles.proofs.piled.PiledWords.write.Goals as goal

pub overflow_add-place : goal.overflow_add-place
overflow_add-place c =
    let x = word_inside c.self.inside.words c.self.inside.cursor c.args.self.now c.args.place (c.args.index + 2) (c.args.place + 4 + c.args.index) c.self.invariant c.self.view_is (omega arith) c.requires in let within = x.within in let few = x.few in omega arith

pub overflow_add-place-2 : goal.overflow_add-place-2
overflow_add-place-2 c =
    let x = word_inside c.self.inside.words c.self.inside.cursor c.args.self.now c.args.place (c.args.index + 2) (c.args.place + 4 + c.args.index) c.self.invariant c.self.view_is (omega arith) c.requires in let within = x.within in let few = x.few in omega arith

pub set-requires : goal.set-requires
set-requires c =
    let x = word_inside c.self.inside.words c.self.inside.cursor c.args.self.now c.args.place (c.args.index + 2) (c.args.place + 4 + c.args.index) c.self.invariant c.self.view_is (omega arith) c.requires in let within = x.within in let few = x.few in omega arith

done : (c : goal.After-set) → Wrote c.self.inside.words c.self.inside.cursor c.args.self.now c.args.place (c.args.index + 2) c.args.word c.set.new.self
done c = wrote_told c.self.inside.words c.self.inside.cursor c.args.self.now c.args.place (c.args.index + 2) c.args.word (c.args.place + 4 + c.args.index) c.set.new.self c.self.invariant c.self.view_is c.set.ensures (omega arith) c.requires

pub invariant_of-self : goal.invariant_of-self
invariant_of-self c = (done c).piles

pub returns-clause-blocks : goal.returns-clause-blocks
returns-clause-blocks c = (done c).blocks

pub returns-clause-tiles : goal.returns-clause-tiles
returns-clause-tiles c = (done c).tiles

pub returns-clause-written : goal.returns-clause-written
returns-clause-written c = (done c).written_is

pub returns-clause-kept : goal.returns-clause-kept
returns-clause-kept c = (done c).kept_words
