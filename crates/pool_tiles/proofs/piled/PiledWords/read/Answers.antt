use Rattle.std.proofs.Common.{◌+◌, ap, ◌∙◌, arith}
use Rattle.pool_tiles.specs.Headers.{word_at}
use Rattle.pool_tiles.specs.Piled.{Pile}
use Rattle.pool_tiles.proofs.Piling.{word_inside}
use Rattle.pool_tiles.proofs.piled.PiledWords.read.Goals as goal

pub overflow_add-place : goal.overflow_add-place
overflow_add-place c =
    let x = word_inside c.self.inside.words c.self.inside.cursor c.args.self.now c.args.place (c.args.index + 2) (c.args.place + 4 + c.args.index) c.self.invariant c.self.view_is (omega arith) c.requires in let within = x.within in let few = x.few in omega arith

pub overflow_add-place-2 : goal.overflow_add-place-2
overflow_add-place-2 c =
    let x = word_inside c.self.inside.words c.self.inside.cursor c.args.self.now c.args.place (c.args.index + 2) (c.args.place + 4 + c.args.index) c.self.invariant c.self.view_is (omega arith) c.requires in let within = x.within in let few = x.few in omega arith

pub get-requires : goal.get-requires
get-requires c =
    let x = word_inside c.self.inside.words c.self.inside.cursor c.args.self.now c.args.place (c.args.index + 2) (c.args.place + 4 + c.args.index) c.self.invariant c.self.view_is (omega arith) c.requires in let within = x.within in let few = x.few in omega arith

pub returns : goal.returns
returns c = c.get.ensures ∙ ap (word_at c.self.inside.words) (omega arith) ∙ ap (λ (p : Pile). word_at p.words (c.args.place + 2 + (c.args.index + 2))) c.self.view_is
