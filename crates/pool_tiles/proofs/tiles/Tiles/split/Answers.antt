use Rattle.std.proofs.Common.{◌≡◌, ℕ, ◌+◌, ◌-◌, List, ◌∷◌, ◌++◌, refl, arith}
use Rattle.pool_tiles.specs.Headers.{tiles_of, Spells}
use Rattle.pool_tiles.specs.Tiling.{Tile, hole}
use Rattle.pool_tiles.specs.Tiled.{SameWords}
use Rattle.pool_tiles.proofs.Written.{length_after}
use Rattle.pool_tiles.proofs.Told.{hole_seen}
use Rattle.pool_tiles.proofs.Stepped.{split_done}
use Rattle.pool_tiles.proofs.tiles.Tiles.split.Goals as goal

pub part-next-requires : goal.part-next-requires
part-next-requires c =
    let h = hole_seen c.self.inside.words c.self.inside.first c.args.self.now c.args.place c.self.invariant c.self.view_is c.requires.hole in (omega arith, h.few)

pub tile_length-whole-requires : goal.tile_length-whole-requires
tile_length-whole-requires c =
    let h = hole_seen c.self.inside.words c.self.inside.first c.args.self.now c.args.place c.self.invariant c.self.view_is c.requires.hole in omega arith

pub overflow_add-rest : goal.overflow_add-rest
overflow_add-rest c =
    let h = hole_seen c.self.inside.words c.self.inside.first c.args.self.now c.args.place c.self.invariant c.self.view_is c.requires.hole in let room = c.requires.room c.requires.hole.earlier c.requires.hole.later c.requires.hole.n c.requires.hole.is in omega arith

pub overflow_add-length : goal.overflow_add-length
overflow_add-length c =
    let h = hole_seen c.self.inside.words c.self.inside.first c.args.self.now c.args.place c.self.invariant c.self.view_is c.requires.hole in let room = c.requires.room c.requires.hole.earlier c.requires.hole.later c.requires.hole.n c.requires.hole.is in omega arith

pub set-requires : goal.set-requires
set-requires c =
    let h = hole_seen c.self.inside.words c.self.inside.first c.args.self.now c.args.place c.self.invariant c.self.view_is c.requires.hole in omega arith

pub overflow_sub-whole : goal.overflow_sub-whole
overflow_sub-whole c =
    let h = hole_seen c.self.inside.words c.self.inside.first c.args.self.now c.args.place c.self.invariant c.self.view_is c.requires.hole in let room = c.requires.room c.requires.hole.earlier c.requires.hole.later c.requires.hole.n c.requires.hole.is in let whole_is = c.tile_length-whole.ensures in omega arith

pub overflow_add-whole : goal.overflow_add-whole
overflow_add-whole c =
    let h = hole_seen c.self.inside.words c.self.inside.first c.args.self.now c.args.place c.self.invariant c.self.view_is c.requires.hole in let room = c.requires.room c.requires.hole.earlier c.requires.hole.later c.requires.hole.n c.requires.hole.is in let whole_is = c.tile_length-whole.ensures in omega arith

pub set-requires-2 : goal.set-requires-2
set-requires-2 c =
    let h = hole_seen c.self.inside.words c.self.inside.first c.args.self.now c.args.place c.self.invariant c.self.view_is c.requires.hole in let room = c.requires.room c.requires.hole.earlier c.requires.hole.later c.requires.hole.n c.requires.hole.is in let l1 = length_after _ _ _ _ c.set.ensures in omega arith

pub set_part-requires : goal.set_part-requires
set_part-requires c =
    let h = hole_seen c.self.inside.words c.self.inside.first c.args.self.now c.args.place c.self.invariant c.self.view_is c.requires.hole in let room = c.requires.room c.requires.hole.earlier c.requires.hole.later c.requires.hole.n c.requires.hole.is in let l1 = length_after _ _ _ _ c.set.ensures in let l2 = length_after _ _ _ _ c.set-2.ensures in (omega arith, omega arith, omega arith)

pub set_part-requires-2 : goal.set_part-requires-2
set_part-requires-2 c =
    let h = hole_seen c.self.inside.words c.self.inside.first c.args.self.now c.args.place c.self.invariant c.self.view_is c.requires.hole in let room = c.requires.room c.requires.hole.earlier c.requires.hole.later c.requires.hole.n c.requires.hole.is in let l1 = length_after _ _ _ _ c.set.ensures in let l2 = length_after _ _ _ _ c.set-2.ensures in let l3 = length_after _ _ _ _ c.set_part.ensures in (omega arith, omega arith, omega arith)

pub set_part-requires-3 : goal.set_part-requires-3
set_part-requires-3 c =
    let h = hole_seen c.self.inside.words c.self.inside.first c.args.self.now c.args.place c.self.invariant c.self.view_is c.requires.hole in let room = c.requires.room c.requires.hole.earlier c.requires.hole.later c.requires.hole.n c.requires.hole.is in let l1 = length_after _ _ _ _ c.set.ensures in let l2 = length_after _ _ _ _ c.set-2.ensures in let l3 = length_after _ _ _ _ c.set_part.ensures in let l4 = length_after _ _ _ _ c.set_part-2.ensures in (omega arith, omega arith, omega arith)

pub set_part-requires-4 : goal.set_part-requires-4
set_part-requires-4 c =
    let h = hole_seen c.self.inside.words c.self.inside.first c.args.self.now c.args.place c.self.invariant c.self.view_is c.requires.hole in let room = c.requires.room c.requires.hole.earlier c.requires.hole.later c.requires.hole.n c.requires.hole.is in let l1 = length_after _ _ _ _ c.set.ensures in let l2 = length_after _ _ _ _ c.set-2.ensures in let l3 = length_after _ _ _ _ c.set_part.ensures in let l4 = length_after _ _ _ _ c.set_part-2.ensures in let l5 = length_after _ _ _ _ c.set_part-3.ensures in (omega arith, omega arith, omega arith)

pub set_part-requires-5 : goal.set_part-requires-5
set_part-requires-5 c =
    let h = hole_seen c.self.inside.words c.self.inside.first c.args.self.now c.args.place c.self.invariant c.self.view_is c.requires.hole in let room = c.requires.room c.requires.hole.earlier c.requires.hole.later c.requires.hole.n c.requires.hole.is in let l1 = length_after _ _ _ _ c.set.ensures in let l2 = length_after _ _ _ _ c.set-2.ensures in let l3 = length_after _ _ _ _ c.set_part.ensures in let l4 = length_after _ _ _ _ c.set_part-2.ensures in let l5 = length_after _ _ _ _ c.set_part-3.ensures in let l6 = length_after _ _ _ _ c.set_part-4.ensures in let next_is = c.part-next.ensures in (omega arith, omega arith, omega arith)

pub set_part-requires-6 : goal.set_part-requires-6
set_part-requires-6 c =
    let h = hole_seen c.self.inside.words c.self.inside.first c.args.self.now c.args.place c.self.invariant c.self.view_is c.requires.hole in let room = c.requires.room c.requires.hole.earlier c.requires.hole.later c.requires.hole.n c.requires.hole.is in let l1 = length_after _ _ _ _ c.set.ensures in let l2 = length_after _ _ _ _ c.set-2.ensures in let l3 = length_after _ _ _ _ c.set_part.ensures in let l4 = length_after _ _ _ _ c.set_part-2.ensures in let l5 = length_after _ _ _ _ c.set_part-3.ensures in let l6 = length_after _ _ _ _ c.set_part-4.ensures in let l7 = length_after _ _ _ _ c.set_part-5.ensures in let whole_is = c.tile_length-whole.ensures in (omega arith, omega arith, omega arith)

pub overflow_add-place : goal.overflow_add-place
overflow_add-place c =
    let h = hole_seen c.self.inside.words c.self.inside.first c.args.self.now c.args.place c.self.invariant c.self.view_is c.requires.hole in let room = c.requires.room c.requires.hole.earlier c.requires.hole.later c.requires.hole.n c.requires.hole.is in let whole_is = c.tile_length-whole.ensures in omega arith

-- the words that were written spell the hole as two
done : (c : goal.After-set_part-6)
    → Spells c.set_part-6.new.words c.self.inside.first (tiles_of c.set_part-6.new.words)
    × ((a b : List Tile) (n : ℕ) → c.args.self.now.tiles ≡ a ++ hole c.args.place n ∷ b
    → tiles_of c.set_part-6.new.words ≡ a ++ hole c.args.place c.args.length ∷ hole (c.args.place + c.args.length) (n - c.args.length) ∷ b)
    × SameWords (tiles_of c.set_part-6.new.words) c.args.self.now.words c.set_part-6.new.words
done c =
    split_done c.self.inside.words c.self.inside.first c.args.self.now c.args.place c.self.invariant c.self.view_is
    c.args.length c.part-next.result c.tile_length-whole.result (c.args.place + c.args.length)
    c.set.new.self c.set-2.new.self c.set_part.new.words c.set_part-2.new.words c.set_part-3.new.words c.set_part-4.new.words c.set_part-5.new.words c.set_part-6.new.words
    c.part-next.ensures c.tile_length-whole.ensures refl c.set.ensures c.set-2.ensures c.set_part.ensures c.set_part-2.ensures c.set_part-3.ensures c.set_part-4.ensures c.set_part-5.ensures c.set_part-6.ensures
    c.requires.long c.requires.room c.requires.hole

pub invariant_of-self : goal.invariant_of-self
invariant_of-self c = (done c).0

pub returns-clause-tiles : goal.returns-clause-tiles
returns-clause-tiles c = (done c).1

pub returns-clause-objects : goal.returns-clause-objects
returns-clause-objects c = (done c).2
