use Rattle.std.proofs.Common.{◌≡◌, ℕ, ◌+◌, List, ◌∷◌, ◌++◌, refl, ap, arith}
use Rattle.pool_tiles.specs.Headers.{tiles_of, Spells}
use Rattle.pool_tiles.specs.Tiling.{Tile, hole}
use Rattle.pool_tiles.specs.Tiled.{SameWords}
use Rattle.pool_tiles.proofs.Written.{length_after}
use Rattle.pool_tiles.proofs.Told.{hole_pair}
use Rattle.pool_tiles.proofs.Stepped.{join_done}
use Rattle.pool_tiles.proofs.tiles.Tiles.join.Goals as goal

pub tile_length-length-requires : goal.tile_length-length-requires
tile_length-length-requires c =
    let r = c.requires in let h = hole_pair c.self.inside.words c.self.inside.first c.args.self.now c.args.place c.self.invariant c.self.view_is r.0 r.1 r.2 r.3 r.4 r.5 in omega arith

pub overflow_add-right : goal.overflow_add-right
overflow_add-right c =
    let r = c.requires in let h = hole_pair c.self.inside.words c.self.inside.first c.args.self.now c.args.place c.self.invariant c.self.view_is r.0 r.1 r.2 r.3 r.4 r.5 in let length_is = c.tile_length-length.ensures in omega arith

pub tile_length-requires : goal.tile_length-requires
tile_length-requires c =
    let r = c.requires in let h = hole_pair c.self.inside.words c.self.inside.first c.args.self.now c.args.place c.self.invariant c.self.view_is r.0 r.1 r.2 r.3 r.4 r.5 in let length_is = c.tile_length-length.ensures in omega arith

pub overflow_add-joined : goal.overflow_add-joined
overflow_add-joined c =
    let r = c.requires in let h = hole_pair c.self.inside.words c.self.inside.first c.args.self.now c.args.place c.self.invariant c.self.view_is r.0 r.1 r.2 r.3 r.4 r.5 in let length_is = c.tile_length-length.ensures in let right_read = h.read_at (c.args.place + c.tile_length-length.result) (omega arith) in let right_is = c.tile_length.ensures in omega arith

pub part-next-requires : goal.part-next-requires
part-next-requires c =
    let r = c.requires in let h = hole_pair c.self.inside.words c.self.inside.first c.args.self.now c.args.place c.self.invariant c.self.view_is r.0 r.1 r.2 r.3 r.4 r.5 in let length_is = c.tile_length-length.ensures in (omega arith, h.few)

pub overflow_add-joined-2 : goal.overflow_add-joined-2
overflow_add-joined-2 c =
    let r = c.requires in let h = hole_pair c.self.inside.words c.self.inside.first c.args.self.now c.args.place c.self.invariant c.self.view_is r.0 r.1 r.2 r.3 r.4 r.5 in let length_is = c.tile_length-length.ensures in let right_read = h.read_at (c.args.place + c.tile_length-length.result) (omega arith) in let right_is = c.tile_length.ensures in omega arith

pub set-requires : goal.set-requires
set-requires c =
    let r = c.requires in let h = hole_pair c.self.inside.words c.self.inside.first c.args.self.now c.args.place c.self.invariant c.self.view_is r.0 r.1 r.2 r.3 r.4 r.5 in omega arith

pub set_part-requires : goal.set_part-requires
set_part-requires c =
    let r = c.requires in let h = hole_pair c.self.inside.words c.self.inside.first c.args.self.now c.args.place c.self.invariant c.self.view_is r.0 r.1 r.2 r.3 r.4 r.5 in let l1 = length_after _ _ _ _ c.set.ensures in (omega arith, omega arith, omega arith)

pub set_part-requires-2 : goal.set_part-requires-2
set_part-requires-2 c =
    let r = c.requires in let h = hole_pair c.self.inside.words c.self.inside.first c.args.self.now c.args.place c.self.invariant c.self.view_is r.0 r.1 r.2 r.3 r.4 r.5 in let l1 = length_after _ _ _ _ c.set.ensures in let l2 = length_after _ _ _ _ c.set_part.ensures in let length_is = c.tile_length-length.ensures in let next_is = h.next_at (c.args.place + c.tile_length-length.result) (omega arith) in let next_read = c.part-next.ensures in (omega arith, omega arith, omega arith)

pub overflow_add-place : goal.overflow_add-place
overflow_add-place c =
    let r = c.requires in let h = hole_pair c.self.inside.words c.self.inside.first c.args.self.now c.args.place c.self.invariant c.self.view_is r.0 r.1 r.2 r.3 r.4 r.5 in let length_is = c.tile_length-length.ensures in let right_read = h.read_at (c.args.place + c.tile_length-length.result) (omega arith) in let right_is = c.tile_length.ensures in omega arith

pub set_part-requires-3 : goal.set_part-requires-3
set_part-requires-3 c =
    let r = c.requires in let h = hole_pair c.self.inside.words c.self.inside.first c.args.self.now c.args.place c.self.invariant c.self.view_is r.0 r.1 r.2 r.3 r.4 r.5 in let l1 = length_after _ _ _ _ c.set.ensures in let l2 = length_after _ _ _ _ c.set_part.ensures in let l3 = length_after _ _ _ _ c.set_part-2.ensures in let length_is = c.tile_length-length.ensures in let right_read = h.read_at (c.args.place + c.tile_length-length.result) (omega arith) in let right_is = c.tile_length.ensures in (omega arith, omega arith, omega arith)

-- the words that were written spell the two holes as one
done : (c : goal.After-set_part-3)
    → Spells c.set_part-3.new.words c.self.inside.first (tiles_of c.set_part-3.new.words)
    × ((a b : List Tile) (n u m : ℕ) → c.args.self.now.tiles ≡ a ++ hole c.args.place n ∷ hole u m ∷ b → tiles_of c.set_part-3.new.words ≡ a ++ hole c.args.place (n + m) ∷ b)
    × SameWords (tiles_of c.set_part-3.new.words) c.args.self.now.words c.set_part-3.new.words
done c =
    let r = c.requires in let size = c.tile_length-length.result in let right = c.args.place + size in
    let joined_is = ap (λ (k : ℕ). size + k) c.tile_length.ensures in
    join_done c.self.inside.words c.self.inside.first c.args.self.now c.args.place c.self.invariant c.self.view_is
    size right (size + c.tile_length.result) c.part-next.result c.set.new.self c.set_part.new.words c.set_part-2.new.words c.set_part-3.new.words
    c.tile_length-length.ensures refl joined_is c.part-next.ensures c.set.ensures c.set_part.ensures c.set_part-2.ensures c.set_part-3.ensures r.0 r.1 r.2 r.3 r.4 r.5

pub invariant_of-self : goal.invariant_of-self
invariant_of-self c = (done c).0

pub returns-clause-tiles : goal.returns-clause-tiles
returns-clause-tiles c = (done c).1

pub returns-clause-objects : goal.returns-clause-objects
returns-clause-objects c = (done c).2
