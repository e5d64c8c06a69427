use Rattle.std.proofs.Common.{◌≡◌, ℕ, ◌+◌, ◌≤◌, ◌<◌, length, List, ◌∷◌, ◌++◌, refl, sym, ap, ◌∙◌, subst, arith}
use Rattle.pool_tiles.specs.Headers.{tiles_of, Spells, word_at, tile_at, hole_mark}
use Rattle.pool_tiles.specs.Tiling.{Tile, hole, joined, length_of}
use Rattle.pool_tiles.specs.Tiled.{Tiled}
use Rattle.pool_tiles.proofs.Told.{hole_seen, hole_told, shown, seen}
use Rattle.pool_tiles.proofs.Searching.{below_mark}
use Rattle.pool_tiles.proofs.Beside.{hole_next, none_next}
use Rattle.pool_tiles.proofs.tiles.Tiles.join_next.Goals as goal
use Rattle.pool_tiles.proofs.tiles.Tiles.join_next.Goals.{else-right-len-via-then-right-len+else-is_hole, else-right-len-via-else-right-len}

pub tile_length-requires : goal.tile_length-requires
tile_length-requires c =
    let h = hole_seen c.self.inside.words c.self.inside.first c.args.self.now c.args.place c.self.invariant c.self.view_is c.requires in omega arith

pub overflow_add-right : goal.overflow_add-right
overflow_add-right c =
    let h = hole_seen c.self.inside.words c.self.inside.first c.args.self.now c.args.place c.self.invariant c.self.view_is c.requires in
    let is = c.tile_length.ensures in omega arith

-- the hole that follows, where its mark was read
followed : (words : List ℕ) (first : ℕ) (t : Tiled) (place size : ℕ) → Spells words first (tiles_of words) → seen words ≡ t → size ≡ length_of (tile_at words place)
    → place + size < length words → hole_mark ≤ word_at words (place + size) → (a b : List Tile) (n : ℕ) → t.tiles ≡ a ++ hole place n ∷ b
    → (u : ℕ) × (m : ℕ) × (later : List Tile) × (b ≡ hole u m ∷ later)
followed words first t place size kept view size_is more marked a b n is =
    let s = shown words first t (a ++ hole place n ∷ b) kept view is in
    let same : size ≡ n = size_is ∙ (hole_told words first a place n b s).read in
    hole_next words first a place n b s (omega arith) (subst (λ (k : ℕ). hole_mark ≤ word_at words (place + k)) same marked)

pub join-requires : goal.join-requires
join-requires c =
    let r = c.requires in
    let x = followed c.self.inside.words c.self.inside.first c.args.self.now c.args.place c.tile_length.result c.self.invariant c.self.view_is c.tile_length.ensures
    (omega arith) (c.if-is_hole.ensures.0 refl) r.earlier r.later r.n r.is in
    (r.earlier, x.2, r.n, x.0, x.1, r.is ∙ ap (λ ts. r.earlier ++ hole c.args.place r.n ∷ ts) x.3)

pub returns-then-is_hole-clause-tiles : goal.returns-then-is_hole-clause-tiles
returns-then-is_hole-clause-tiles c a b n is =
    let x = followed c.self.inside.words c.self.inside.first c.args.self.now c.args.place c.tile_length.result c.self.invariant c.self.view_is c.tile_length.ensures
    (omega arith) (c.if-is_hole.ensures.0 refl) a b n is in
    c.join.ensures.tiles a x.2 n x.0 x.1 (is ∙ ap (λ ts. a ++ hole c.args.place n ∷ ts) x.3) ∙ ap (λ ts. a ++ joined (hole c.args.place n) ts) (sym x.3)

pub returns-else-right-len-clause-tiles : goal.returns-else-right-len-clause-tiles
returns-else-right-len-clause-tiles c a b n is =
    let words = c.self.inside.words in let place = c.args.place in let size = c.tile_length.result in
    let s = shown words c.self.inside.first c.args.self.now (a ++ hole place n ∷ b) c.self.invariant c.self.view_is is in
    let same : size ≡ n = c.tile_length.ensures ∙ (hole_told words c.self.inside.first a place n b s).read in
    let small : place + size < length words → word_at words (place + size) < hole_mark =
    elim c.else-right-len.branch [
      | else-right-len-via-then-right-len+else-is_hole w ↦ λ _. below_mark (word_at words (place + size)) w.if-is_hole.ensures.1
      | else-right-len-via-else-right-len w ↦ λ less. absurd (omega arith)
    ] in
    is ∙ ap (λ ts. a ++ ts) (sym (none_next words c.self.inside.first a place n b s (subst (λ (k : ℕ). place + k < length words → word_at words (place + k) < hole_mark) same small)))
