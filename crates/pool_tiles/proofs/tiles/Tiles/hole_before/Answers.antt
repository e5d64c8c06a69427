use Rattle.std.proofs.Common.{◌≡◌, ℕ, ◌+◌, ◌≤◌, ◌<◌, List, ◌∷◌, ◌++◌, length, refl, subst, ap, ◌∙◌, sym, arith}
use Rattle.pool_tiles.specs.Tiling.{Tile, block}
use Rattle.pool_tiles.specs.Tiled.{Tiled}
use Rattle.pool_tiles.specs.Headers.{last_or, word_at, hole_mark, tiles_of, Spells}
use Rattle.pool_tiles.proofs.Told.{block_seen, block_told, shown, seen}
use Rattle.pool_tiles.proofs.Searching.{not_yet, one_back, not_front, at_front, one_on, met, named_by_next, below_mark, WalkedBack, OneBack, WalkedOn, OneOn}
use Rattle.pool_tiles.proofs.tiles.Tiles.hole_before.Goals as goal

pub tile_length-requires : goal.tile_length-requires
tile_length-requires c =
    let h = block_seen c.self.inside.words c.self.inside.first c.args.self.now c.args.place c.self.invariant c.self.view_is c.requires in omega arith

pub overflow_add-right : goal.overflow_add-right
overflow_add-right c =
    let h = block_seen c.self.inside.words c.self.inside.first c.args.self.now c.args.place c.self.invariant c.self.view_is c.requires in
    let is = c.tile_length.ensures in omega arith

-- the hole that follows the block
next_names : (words : List ℕ) (first : ℕ) (t : Tiled) (place size : ℕ) → Spells words first (tiles_of words) → seen words ≡ t
    → (a b : List Tile) (n w : ℕ) → t.tiles ≡ a ++ block place n w ∷ b → size ≡ n → place + size < length words → hole_mark ≤ word_at words (place + size)
    → (place + size + 4 ≤ length words) × (word_at words (place + size + 3) ≡ last_or (length t.words) a)
next_names words first t place size kept view a b n w is size_is more marked =
    let s = shown words first t (a ++ block place n w ∷ b) kept view is in
    let x = named_by_next words first a place n w b s (omega arith) (subst (λ (k : ℕ). hole_mark ≤ word_at words (place + k)) size_is marked) in
    (omega (arith, x.0), ap (λ (k : ℕ). word_at words (place + k + 3)) size_is ∙ x.1 ∙ ap (λ (u : Tiled). last_or (length u.words) a) view)

pub part-requires : goal.part-requires
part-requires c =
    let words = c.self.inside.words in let r = c.requires in
    let h = block_seen words c.self.inside.first c.args.self.now c.args.place c.self.invariant c.self.view_is r in
    let size : c.tile_length.result ≡ r.n = c.tile_length.ensures ∙ h.read in
    let x = next_names words c.self.inside.first c.args.self.now c.args.place c.tile_length.result c.self.invariant c.self.view_is
    r.earlier r.later r.n r.owner r.is size (omega arith) (c.if-is_hole.ensures.0 refl) in
    (omega (arith, x.0), h.few)

pub returns-then-is_hole : goal.returns-then-is_hole
returns-then-is_hole c a b n w is =
    let words = c.self.inside.words in let first = c.self.inside.first in
    let s = shown words first c.args.self.now (a ++ block c.args.place n w ∷ b) c.self.invariant c.self.view_is is in
    let size : c.tile_length.result ≡ n = c.tile_length.ensures ∙ (block_told words first a c.args.place n w b s).read in
    let x = next_names words first c.args.self.now c.args.place c.tile_length.result c.self.invariant c.self.view_is a b n w is size (omega arith) (c.if-is_hole.ensures.0 refl) in
    c.part.ensures ∙ x.1

pub loop-next-init : goal.loop-next-init
loop-next-init c a b n w is =
    let words = c.self.inside.words in let first = c.self.inside.first in
    let s = shown words first c.args.self.now (a ++ block c.args.place n w ∷ b) c.self.invariant c.self.view_is is in (
      not_yet words first a c.args.place n w b s,
      subst (λ (k : ℕ). WalkedOn words a b k first) (sym c.len-none.ensures) (at_front words first a c.args.place n w b s),
    )

-- one hole on and one tile back, from wherever the loop is
stepped : (words : List ℕ) (first : ℕ) (t : Tiled) (place at last next : ℕ) → Spells words first (tiles_of words) → seen words ≡ t
    → ((a b : List Tile) (n w : ℕ) → t.tiles ≡ a ++ block place n w ∷ b → WalkedBack a at × WalkedOn words a b last next) → next < place
    → (a b : List Tile) (n w : ℕ) → t.tiles ≡ a ++ block place n w ∷ b → OneBack words a at × OneOn words a b next
stepped words first t place at last next kept view here before a b n w is =
    let s = shown words first t (a ++ block place n w ∷ b) kept view is in
    let x = here a b n w is in
    let on = one_on words first a place n w b s last next x.1 before in
    (one_back words first a place n w b s at x.0 (not_front words first a place n w b s at x.0 on.some), on)

pub part-at-requires : goal.part-at-requires
part-at-requires c =
    let words = c.self.inside.words in let r = c.requires in
    let x = stepped words c.self.inside.first c.args.self.now c.args.place c.loop-next.at c.loop-next.hole c.loop-next.next c.self.invariant c.self.view_is
    c.loop-next.invariant c.loop-next-test.true r.earlier r.later r.n r.owner r.is in
    (x.0.inside, c.self.invariant.few)

pub is_hole-requires-in-loop-next : goal.is_hole-requires-in-loop-next
is_hole-requires-in-loop-next c =
    let words = c.self.inside.words in let r = c.requires in
    let x = stepped words c.self.inside.first c.args.self.now c.args.place c.loop-next.at c.loop-next.hole c.loop-next.next c.self.invariant c.self.view_is
    c.loop-next.invariant c.loop-next-test.true r.earlier r.later r.n r.owner r.is in
    let here : c.part-at.result ≡ x.0.place = c.part-at.ensures ∙ x.0.before in
    let inside = x.0.inside in let nearer = x.0.nearer in omega arith

pub returns-then-is_hole-2 : goal.returns-then-is_hole-2
returns-then-is_hole-2 c a b n w is =
    let words = c.self.inside.words in
    let x = stepped words c.self.inside.first c.args.self.now c.args.place c.loop-next.at c.loop-next.hole c.loop-next.next c.self.invariant c.self.view_is
    c.loop-next.invariant c.loop-next-test.true a b n w is in
    let here : c.part-at.result ≡ x.0.place = c.part-at.ensures ∙ x.0.before in
    here ∙ sym (x.0.hole_here (subst (λ (k : ℕ). hole_mark ≤ word_at words k) here (c.if-is_hole-2.ensures.0 refl))) ∙ ap (λ (u : Tiled). last_or (length u.words) a) c.self.view_is

pub part-next-requires : goal.part-next-requires
part-next-requires c =
    let words = c.self.inside.words in let r = c.requires in
    let x = stepped words c.self.inside.first c.args.self.now c.args.place c.loop-next.at c.loop-next.hole c.loop-next.next c.self.invariant c.self.view_is
    c.loop-next.invariant c.loop-next-test.true r.earlier r.later r.n r.owner r.is in
    (x.1.inside, c.self.invariant.few)

pub loop-next-smaller : goal.loop-next-smaller
loop-next-smaller c =
    let words = c.self.inside.words in let r = c.requires in
    let x = stepped words c.self.inside.first c.args.self.now c.args.place c.loop-next.at c.loop-next.hole c.loop-next.next c.self.invariant c.self.view_is
    c.loop-next.invariant c.loop-next-test.true r.earlier r.later r.n r.owner r.is in
    let here : c.part-at.result ≡ x.0.place = c.part-at.ensures ∙ x.0.before in
    let nearer = x.0.nearer in omega arith

pub loop-next-preserved : goal.loop-next-preserved
loop-next-preserved c a b n w is =
    let words = c.self.inside.words in
    let x = stepped words c.self.inside.first c.args.self.now c.args.place c.loop-next.at c.loop-next.hole c.loop-next.next c.self.invariant c.self.view_is
    c.loop-next.invariant c.loop-next-test.true a b n w is in
    let here : c.part-at.result ≡ x.0.place = c.part-at.ensures ∙ x.0.before in
    let small : word_at words x.0.place < hole_mark = subst (λ (k : ℕ). word_at words k < hole_mark) here (below_mark (word_at words c.part-at.result) c.if-is_hole-2.ensures.1) in
    (subst (WalkedBack a) (sym here) (x.0.block_here small), subst (WalkedOn words a b c.loop-next.next) (sym c.part-next.ensures) x.1.on)

pub returns : goal.returns
returns c a b n w is =
    let words = c.self.inside.words in let first = c.self.inside.first in
    let s = shown words first c.args.self.now (a ++ block c.args.place n w ∷ b) c.self.invariant c.self.view_is is in
    let last = met words first a c.args.place n w b s c.loop-next.hole c.loop-next.next (c.loop-next.invariant a b n w is).1 (omega arith) in
    last ∙ ap (λ (u : Tiled). last_or (length u.words) a) c.self.view_is
