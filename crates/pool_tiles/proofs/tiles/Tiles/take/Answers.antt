use Rattle.std.proofs.Common.{◌≡◌, ℕ, ◌+◌, length, List, ◌∷◌, ◌++◌, arith, ap, ◌∙◌, length-set}
use Rattle.std.specs.Prelude.{nat_lt, if◌then◌else◌}
use Rattle.pool_tiles.specs.Headers.{tiles_of, Spells}
use Rattle.pool_tiles.specs.Tiling.{Tile, hole, block}
use Rattle.pool_tiles.specs.Tiled.{SameWords}
use Rattle.pool_tiles.proofs.Told.{hole_seen, chose_old, chose_new}
use Rattle.pool_tiles.proofs.Stepped.{take_done}
use Rattle.pool_tiles.proofs.tiles.Tiles.take.Goals as goal
use Rattle.pool_tiles.proofs.tiles.Tiles.take.Goals.{then-previous-none, else-previous-none}

pub part-next-requires : goal.part-next-requires
part-next-requires c =
    let h = hole_seen c.self.inside.words c.self.inside.first c.args.self.now c.args.place c.self.invariant c.self.view_is c.requires.hole in (omega arith, h.few)

pub part-previous-requires : goal.part-previous-requires
part-previous-requires c =
    let h = hole_seen c.self.inside.words c.self.inside.first c.args.self.now c.args.place c.self.invariant c.self.view_is c.requires.hole in (omega arith, h.few)

pub tile_length-length-requires : goal.tile_length-length-requires
tile_length-length-requires c =
    let h = hole_seen c.self.inside.words c.self.inside.first c.args.self.now c.args.place c.self.invariant c.self.view_is c.requires.hole in omega arith

pub block_word-requires : goal.block_word-requires
block_word-requires c =
    let h = hole_seen c.self.inside.words c.self.inside.first c.args.self.now c.args.place c.self.invariant c.self.view_is c.requires.hole in
    let is = c.tile_length-length.ensures in let read = h.read in let inside = h.inside in let few = h.few in (omega arith, c.requires.number)

pub set-requires : goal.set-requires
set-requires c =
    let h = hole_seen c.self.inside.words c.self.inside.first c.args.self.now c.args.place c.self.invariant c.self.view_is c.requires.hole in omega arith

pub set_part-requires : goal.set_part-requires
set_part-requires c =
    let h = hole_seen c.self.inside.words c.self.inside.first c.args.self.now c.args.place c.self.invariant c.self.view_is c.requires.hole in
    let long : length c.set.new.self ≡ length c.self.inside.words = ap length c.set.ensures ∙ length-set c.self.inside.words c.args.place c.block_word.result in
    let is = c.part-previous.ensures in
    (omega arith, omega arith, omega arith)

pub set_part-requires-2 : goal.set_part-requires-2
set_part-requires-2 c =
    let h = hole_seen c.self.inside.words c.self.inside.first c.args.self.now c.args.place c.self.invariant c.self.view_is c.requires.hole in
    let long : length c.set.new.self ≡ length c.self.inside.words = ap length c.set.ensures ∙ length-set c.self.inside.words c.args.place c.block_word.result in
    let long2 : length c.set_part.new.words ≡ length c.set.new.self = ap length c.set_part.ensures ∙ length-set c.set.new.self (c.part-previous.result + 2) c.part-next.result in
    (omega arith, omega arith, omega arith)

-- the words that were written spell the hole as a block
done : (c : goal.After-self-1)
    → Spells c.set_part-2.new.words c.if-previous-none.self (tiles_of c.set_part-2.new.words)
    × ((a b : List Tile) (n : ℕ) → c.args.self.now.tiles ≡ a ++ hole c.args.place n ∷ b → tiles_of c.set_part-2.new.words ≡ a ++ block c.args.place n c.args.owner ∷ b)
    × SameWords (tiles_of c.set_part-2.new.words) c.args.self.now.words c.set_part-2.new.words
done c =
    let n = length c.self.inside.words in let old = c.self.inside.first in let previous = c.part-previous.result in let next = c.part-next.result in
    let chosen : c.if-previous-none.self ≡ (if nat_lt previous n then old else next) = elim c.if-previous-none.branch [
      | then-previous-none w ↦ chose_old previous n old next c.if-previous-none.self (omega arith) w.self-is
      | else-previous-none w ↦ chose_new previous n old next c.if-previous-none.self (omega arith) w.self-is
    ] in
    take_done c.self.inside.words old c.args.self.now c.args.place c.self.invariant c.self.view_is c.args.owner c.requires.number next previous c.tile_length-length.result c.block_word.result c.if-previous-none.self
    c.set.new.self c.set_part.new.words c.set_part-2.new.words c.part-next.ensures c.part-previous.ensures c.tile_length-length.ensures c.block_word.ensures c.set.ensures c.set_part.ensures c.set_part-2.ensures chosen c.requires.hole

pub invariant_of-self : goal.invariant_of-self
invariant_of-self c = (done c).0

pub returns-clause-tiles : goal.returns-clause-tiles
returns-clause-tiles c = (done c).1

pub returns-clause-objects : goal.returns-clause-objects
returns-clause-objects c = (done c).2
