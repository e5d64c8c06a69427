use Rattle.std.proofs.Common.{◌≡◌, ◌≢◌, ℕ, ◌+◌, ◌-◌, length, List, ◌∷◌, ◌++◌, sym, ap, ◌∙◌, subst, arith}
use Rattle.pool_tiles.specs.Headers.{tiles_of, Spells, word_at, tile_at}
use Rattle.pool_tiles.specs.Tiling.{Tile, hole, block, cut, length_of, block_length, HasWord}
use Rattle.pool_tiles.specs.Tiled.{Tiled, HoleIn}
use Rattle.pool_tiles.proofs.Told.{hole_seen, hole_told, shown, seen}
use Rattle.pool_tiles.proofs.Fitting.{cut-whole, cut-part}
use Rattle.pool_tiles.proofs.Spelling.{back_part}
use Rattle.pool_tiles.specs.Kept.{KeepsBlocks}
use Rattle.pool_tiles.proofs.Owners.{keeps-cut}
use Rattle.pool_tiles.proofs.Objects.{length-other, cut_long, front_free, later_free}
use Rattle.pool_tiles.proofs.tiles.Tiles.cut.Goals as goal
use Rattle.pool_tiles.proofs.tiles.Tiles.cut.Goals.{then-tile_length-length, else-tile_length-length}

pub tile_length-requires : goal.tile_length-requires
tile_length-requires c =
    let h = hole_seen c.self.inside.words c.self.inside.first c.args.self.now c.args.place c.self.invariant c.self.view_is c.requires.hole in omega arith

pub overflow_add-length : goal.overflow_add-length
overflow_add-length c =
    let r = c.requires.room in
    let h = hole_seen c.self.inside.words c.self.inside.first c.args.self.now c.args.place c.self.invariant c.self.view_is (record { earlier = r.earlier; n = r.n; later = r.later; is = r.is }) in omega arith

-- the length that is read is that of the hole
read_is : (words : List ℕ) (first : ℕ) (t : Tiled) (place size : ℕ) → Spells words first (tiles_of words) → seen words ≡ t
    → size ≡ length_of (tile_at words place) → (a b : List Tile) (n : ℕ) → t.tiles ≡ a ++ hole place n ∷ b → size ≡ n
read_is words first t place size kept view size_is a b n is = size_is ∙ (hole_told words first a place n b (shown words first t (a ++ hole place n ∷ b) kept view is)).read

pub split-requires-clause-room : goal.split-requires-clause-room
split-requires-clause-room c a b n is =
    let same = read_is c.self.inside.words c.self.inside.first c.args.self.now c.args.place c.tile_length.result c.self.invariant c.self.view_is c.tile_length.ensures a b n is in
    let long = c.if-tile_length-length.true in omega arith

pub returns-clause-tiles : goal.returns-clause-tiles
returns-clause-tiles c a b n is =
    let same = read_is c.self.inside.words c.self.inside.first c.args.self.now c.args.place c.tile_length.result c.self.invariant c.self.view_is c.tile_length.ensures a b n is in
    let place = c.args.place in let i = c.args.length in
    c.clear.ensures.tiles
    ∙ elim c.if-tile_length-length.branch [
      | then-tile_length-length w ↦
          let split = ap (λ (t : Tiled). t.tiles) w.self-is ∙ w.split.ensures.tiles a b n is in
          c.take.ensures.tiles a (hole (place + i) (n - i) ∷ b) i split ∙ ap (λ ts. a ++ (ts ++ b)) (sym (cut-part c.args.owner i place n (omega arith)))
      | else-tile_length-length w ↦
          let whole = ap (λ (t : Tiled). t.tiles) w.self-is ∙ is in
          c.take.ensures.tiles a b n whole ∙ ap (λ ts. a ++ (ts ++ b)) (sym (cut-whole c.args.owner i place n (omega arith)))
    ]

-- the object words that a step keeps, where a hole became a block
taken_words : (v : ℕ) (a : List Tile) (p m : ℕ) (b : List Tile) (ts us : List Tile) (other i : ℕ) → ts ≡ a ++ hole p m ∷ b → us ≡ a ++ block p m v ∷ b → other ≢ p
    → HasWord us other i → HasWord ts other i
taken_words v a p m b ts us other i was now ne has =
    let same : block_length us other ≡ block_length ts other = ap (λ vs. block_length vs other) now ∙ length-other a p m v b other ne ∙ ap (λ vs. block_length vs other) (sym was) in omega arith

pub returns-clause-kept : goal.returns-clause-kept
returns-clause-kept c other i has ne =
    let r = c.requires.hole in let place = c.args.place in let l = c.args.length in
    let taken : HasWord c.take.new.self.tiles other i = subst (λ ts. HasWord ts other i) c.clear.ensures.tiles has in
    c.clear.ensures.kept other i has ne ∙ c.take.ensures.objects other i taken
    ∙ elim c.if-tile_length-length.branch [
      | then-tile_length-length w ↦
          let split = w.split.ensures.tiles r.earlier r.later r.n r.is in
          let was = ap (λ (t : Tiled). t.tiles) w.self-is ∙ split in
          let now = c.take.ensures.tiles r.earlier (hole (place + l) (r.n - l) ∷ r.later) l was in
          ap (λ (t : Tiled). word_at t.words (other + 2 + i)) w.self-is
          ∙ w.split.ensures.objects other i (taken_words c.args.owner r.earlier place l (hole (place + l) (r.n - l) ∷ r.later) w.split.new.self.tiles c.take.new.self.tiles other i split now ne taken)
      | else-tile_length-length w ↦ ap (λ (t : Tiled). word_at t.words (other + 2 + i)) w.self-is
    ]

-- no block was at the hole's place
free_place : (words : List ℕ) (first : ℕ) (t : Tiled) (place : ℕ) → Spells words first (tiles_of words) → seen words ≡ t → (h : HoleIn t.tiles place)
    → (block_length t.tiles place ≡ 0) × ((x : List Tile) → block_length (h.earlier ++ x) place ≡ block_length x place)
free_place words first t place kept view h =
    let r = word_at words in let n = length words in
    let s = (shown words first t (h.earlier ++ hole place h.n ∷ h.later) kept view h.is).spelled in
    let front = λ (x : List Tile). (front_free r r 0 0 n h.earlier place h.n h.later n s x).1 in
    let here = back_part r r 0 0 n h.earlier (hole place h.n ∷ h.later) n s in let long = here.1.long in
    (ap (λ ts. block_length ts place) h.is ∙ front (hole place h.n ∷ h.later) ∙ later_free r r (place + h.n) place place h.later n place here.2 (omega arith), front)

pub returns-clause-room : goal.returns-clause-room
returns-clause-room c =
    let r = c.requires.room in let place = c.args.place in
    let free = free_place c.self.inside.words c.self.inside.first c.args.self.now place c.self.invariant c.self.view_is (record { earlier = r.earlier; n = r.n; later = r.later; is = r.is }) in
    let now = returns-clause-tiles c r.earlier r.later r.n r.is in
    let is = ap (λ ts. block_length ts place) now ∙ free.1 (cut c.args.owner c.args.length place r.n ++ r.later) in
    let long = cut_long c.args.owner c.args.length place r.n r.later r.long in omega arith

pub returns-clause-fresh : goal.returns-clause-fresh
returns-clause-fresh c = (free_place c.self.inside.words c.self.inside.first c.args.self.now c.args.place c.self.invariant c.self.view_is c.requires.hole).0

pub returns-clause-stay : goal.returns-clause-stay
returns-clause-stay c =
    let r = c.requires.hole in let place = c.args.place in
    let free = free_place c.self.inside.words c.self.inside.first c.args.self.now place c.self.invariant c.self.view_is r in
    subst (λ ts. KeepsBlocks (λ _. Unit {0}) c.args.self.now.tiles ts) (sym (returns-clause-tiles c r.earlier r.later r.n r.is))
    (subst (λ ts. KeepsBlocks (λ _. Unit {0}) ts (r.earlier ++ (cut c.args.owner c.args.length place r.n ++ r.later))) (sym r.is)
    (keeps-cut r.earlier c.args.owner c.args.length place r.n r.later (subst (λ ts. block_length ts place ≡ 0) r.is free.0)))
