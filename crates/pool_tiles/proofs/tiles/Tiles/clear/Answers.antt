use Rattle.std.proofs.Common.{◌≡◌, ℕ, ◌+◌, ◌≤◌, ◌<◌, List, ap, ◌∙◌, subst, arith, ◌⊎◌, inl, inr}
use Rattle.pool_tiles.specs.Headers.{tiles_of, Spells, word_at}
use Rattle.pool_tiles.specs.Tiling.{Tile, block_length, HasWord}
use Rattle.pool_tiles.specs.Tiled.{Tiled}
use Rattle.pool_tiles.proofs.Told.{block_seen}
use Rattle.pool_tiles.proofs.Pools.{block_at, written_objects, other_objects}
use Rattle.pool_tiles.proofs.tiles.Tiles.clear.Goals as goal

pub tile_length-length-requires : goal.tile_length-length-requires
tile_length-length-requires c =
    let h = block_seen c.self.inside.words c.self.inside.first c.args.self.now c.args.place c.self.invariant c.self.view_is c.requires in omega arith

pub overflow_add-place : goal.overflow_add-place
overflow_add-place c =
    let h = block_seen c.self.inside.words c.self.inside.first c.args.self.now c.args.place c.self.invariant c.self.view_is c.requires in omega arith

pub overflow_sub-length : goal.overflow_sub-length
overflow_sub-length c =
    let h = block_seen c.self.inside.words c.self.inside.first c.args.self.now c.args.place c.self.invariant c.self.view_is c.requires in let is = c.tile_length-length.ensures in omega arith

pub clear-requires : goal.clear-requires
clear-requires c =
    let h = block_seen c.self.inside.words c.self.inside.first c.args.self.now c.args.place c.self.invariant c.self.view_is c.requires in let is = c.tile_length-length.ensures in omega arith

-- the words outside the object are as they were
outside : (c : goal.After-clear) (k : ℕ) → (k < c.args.place + 2) ⊎ (c.args.place + block_length c.args.self.now.tiles c.args.place ≤ k) → word_at c.clear.new.words k ≡ word_at c.self.inside.words k
outside c k out =
    let h = block_seen c.self.inside.words c.self.inside.first c.args.self.now c.args.place c.self.invariant c.self.view_is c.requires in let is = c.tile_length-length.ensures in
    let n_is = block_at c.self.inside.words c.self.inside.first c.args.self.now c.args.place c.self.invariant c.self.view_is c.requires in
    c.clear.ensures.others k (elim out [ inl below ↦ inl (omega arith) | inr above ↦ inr (omega arith) ])

done : (c : goal.After-clear) → Spells c.clear.new.words c.self.inside.first (tiles_of c.clear.new.words) × (tiles_of c.clear.new.words ≡ c.args.self.now.tiles)
done c =
    let h = block_seen c.self.inside.words c.self.inside.first c.args.self.now c.args.place c.self.invariant c.self.view_is c.requires in
    let n_is = block_at c.self.inside.words c.self.inside.first c.args.self.now c.args.place c.self.invariant c.self.view_is c.requires in
    written_objects c.self.inside.words c.clear.new.words c.self.inside.first c.args.self.now c.args.place (c.args.place + 2) (c.args.place + block_length c.args.self.now.tiles c.args.place)
    c.self.invariant c.self.view_is (omega arith) (omega arith) (omega arith) c.clear.ensures.length (outside c)

pub invariant_of-self : goal.invariant_of-self
invariant_of-self c = (done c).0

pub returns-clause-tiles : goal.returns-clause-tiles
returns-clause-tiles c = (done c).1

pub returns-clause-zero : goal.returns-clause-zero
returns-clause-zero c i has =
    let h = block_seen c.self.inside.words c.self.inside.first c.args.self.now c.args.place c.self.invariant c.self.view_is c.requires in let is = c.tile_length-length.ensures in
    let n_is = block_at c.self.inside.words c.self.inside.first c.args.self.now c.args.place c.self.invariant c.self.view_is c.requires in
    let same = ap (λ (ts : List Tile). block_length ts c.args.place) (done c).1 in
    c.clear.ensures.zero (c.args.place + 2 + i) (omega arith) (omega arith)

pub returns-clause-kept : goal.returns-clause-kept
returns-clause-kept c other i has ne =
    let h = block_seen c.self.inside.words c.self.inside.first c.args.self.now c.args.place c.self.invariant c.self.view_is c.requires in
    let n_is = block_at c.self.inside.words c.self.inside.first c.args.self.now c.args.place c.self.invariant c.self.view_is c.requires in
    other_objects c.self.inside.words c.clear.new.words c.self.inside.first c.args.self.now c.args.place other i c.self.invariant c.self.view_is (omega arith)
    (subst (λ ts. HasWord ts other i) (done c).1 has) ne (outside c) ∙ ap (λ (u : Tiled). word_at u.words (other + 2 + i)) c.self.view_is
