use Rattle.std.proofs.Common.{◌≡◌, ℕ, ◌+◌, List, ◌∷◌, ◌++◌, refl, sym, ap, ◌∙◌, arith}
use Rattle.pool_tiles.specs.Tiling.{Tile, place_of, length_of}
use Rattle.pool_tiles.specs.Headers.{word_at, tile_at}
use Rattle.pool_tiles.proofs.Told.{shown}
use Rattle.pool_tiles.proofs.Closing.{tile_told, place_after, hole_inside}
use Rattle.pool_tiles.proofs.Searching.{below_mark}
use Rattle.pool_tiles.proofs.tiles.Tiles.place_behind.Goals as goal
use Rattle.pool_tiles.proofs.tiles.Tiles.place_behind.Goals.{else-next-len-via-then-next-len+else-is_hole, else-next-len-via-else-next-len}

pub tile_length-requires : goal.tile_length-requires
tile_length-requires c = let r = c.requires in let at = r.at_place in
    let told = (tile_told c.self.inside.words c.self.inside.first r.earlier r.tile r.later (shown c.self.inside.words c.self.inside.first c.args.self.now (r.earlier ++ r.tile ∷ r.later) c.self.invariant c.self.view_is r.is)).0 in
    let inside = told.inside in let long = told.long in omega arith

-- the length that was read
length_is : (words : List ℕ) (place result : ℕ) (t : Tile) → place_of t ≡ place → tile_at words (place_of t) ≡ t → result ≡ length_of (tile_at words place) → result ≡ length_of t
length_is words place result t at is read = read ∙ ap (λ (k : ℕ). length_of (tile_at words k)) (sym at) ∙ ap length_of is

pub overflow_add-next : goal.overflow_add-next
overflow_add-next c = let r = c.requires in let at = r.at_place in
    let told = (tile_told c.self.inside.words c.self.inside.first r.earlier r.tile r.later (shown c.self.inside.words c.self.inside.first c.args.self.now (r.earlier ++ r.tile ∷ r.later) c.self.invariant c.self.view_is r.is)).0 in
    let inside = told.inside in let few = told.few in
    let n = length_is c.self.inside.words c.args.place c.tile_length.result r.tile at told.tile c.tile_length.ensures in omega arith

pub overflow_add-result : goal.overflow_add-result
overflow_add-result c = let r = c.requires in let at = r.at_place in
    let s = shown c.self.inside.words c.self.inside.first c.args.self.now (r.earlier ++ r.tile ∷ r.later) c.self.invariant c.self.view_is r.is in
    let told = (tile_told c.self.inside.words c.self.inside.first r.earlier r.tile r.later s).0 in
    let few = told.few in let inside = told.inside in
    let n = length_is c.self.inside.words c.args.place c.tile_length.result r.tile at told.tile c.tile_length.ensures in
    let within = hole_inside c.self.inside.words c.self.inside.first r.earlier r.tile r.later (c.args.place + c.tile_length.result) s (omega arith) (omega arith) (c.if-is_hole.ensures.0 refl) in
    let m = c.tile_length-then-is_hole.ensures in omega arith

pub returns-then-is_hole : goal.returns-then-is_hole
returns-then-is_hole c a b t is at =
    let words = c.self.inside.words in
    let s = shown words c.self.inside.first c.args.self.now (a ++ t ∷ b) c.self.invariant c.self.view_is is in
    let told = (tile_told words c.self.inside.first a t b s).0 in
    let n = length_is words c.args.place c.tile_length.result t at told.tile c.tile_length.ensures in
    let m = c.tile_length-then-is_hole.ensures in let next = c.args.place + c.tile_length.result in
    let marked = c.if-is_hole.ensures.0 refl in let less = c.if-next-len.true in let len = c.len.ensures in
    let r = place_after words c.self.inside.first a t b next (next + c.tile_length-then-is_hole.result) s (omega arith)
    (λ inside mark. omega arith) (λ inside small. absurd (omega arith)) (λ past. absurd (omega arith)) in omega arith

pub returns-else-next-len : goal.returns-else-next-len
returns-else-next-len c a b t is at =
    let words = c.self.inside.words in
    let s = shown words c.self.inside.first c.args.self.now (a ++ t ∷ b) c.self.invariant c.self.view_is is in
    let told = (tile_told words c.self.inside.first a t b s).0 in
    let n = length_is words c.args.place c.tile_length.result t at told.tile c.tile_length.ensures in
    let next = c.args.place + c.tile_length.result in let len = c.len.ensures in
    let r = place_after words c.self.inside.first a t b next next s (omega arith)
    (λ inside mark. elim c.else-next-len.branch [
      | else-next-len-via-then-next-len+else-is_hole w ↦ let small = below_mark (word_at words next) w.if-is_hole.ensures.1 in absurd (omega arith)
      | else-next-len-via-else-next-len w ↦ let past = w.if-next-len.false in absurd (omega arith)
    ]) (λ inside small. omega arith) (λ past. omega arith) in omega arith
