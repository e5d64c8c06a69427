use Rattle.std.proofs.Common.{◌≡◌, ℕ, ◌≤◌, ◌<◌, length, List, [], ◌∷◌, ◌++◌, append_assoc, refl, sym, ap, ◌∙◌, subst, arith}
use Rattle.pool_tiles.specs.Headers.{tiles_of, Spells, Apart, word_at, hole_mark, tile_before}
use Rattle.pool_tiles.specs.Tiling.{Tile, hole, block, joined, put_back, block_length}
use Rattle.pool_tiles.specs.Tiled.{Tiled}
use Rattle.pool_tiles.proofs.Told.{block_seen, block_told, hole_told, shown, seen}
use Rattle.pool_tiles.proofs.Searching.{below_mark}
use Rattle.pool_tiles.proofs.Objects.{length-joined}
use Rattle.pool_tiles.proofs.Merging.{returned-front, returned-alone, returned-joined}
use Rattle.pool_tiles.proofs.Beside.{LeftOf, a_hole, a_block, left_of, none_left, joined_hole}
use Rattle.pool_tiles.proofs.tiles.Tiles.put_back.Goals as goal
use Rattle.pool_tiles.proofs.tiles.Tiles.put_back.Goals.{else-left-place-via-then-left-place+else-is_hole, else-left-place-via-else-left-place}

pub part-left-requires : goal.part-left-requires
part-left-requires c =
    let h = block_seen c.self.inside.words c.self.inside.first c.args.self.now c.args.place c.self.invariant c.self.view_is c.requires.block in (omega arith, h.few)

-- the block has become a hole, joined to the next one, and these are the words then
record After (words : List ℕ) (first : ℕ) (a : List Tile) (p n : ℕ) (b : List Tile) (left : ℕ) : Type 0 where
  inside : left < length words
  kind : LeftOf words a left

look_left : (words : List ℕ) (first : ℕ) (t : Tiled) (a : List Tile) (p n : ℕ) (b : List Tile) (left : ℕ) → Spells words first (tiles_of words) → seen words ≡ t
    → t.tiles ≡ a ++ joined (hole p n) b → left ≡ tile_before 0 a → left < p → After words first a p n b left
look_left words first t a p n b left kept view is before less =
    let x = joined_hole p n b in
    let s = shown words first t (a ++ hole p x.0 ∷ x.1) kept view (is ∙ ap (λ ts. a ++ ts) x.2) in
    let told = hole_told words first a p x.0 x.1 s in let inside = told.inside in
    record { inside = omega arith; kind = left_of words first a p x.0 x.1 s left before less }

pub is_hole-requires : goal.is_hole-requires
is_hole-requires c =
    let r = c.requires.block in let v = c.self-then-left-place in
    let h = block_seen c.self.inside.words c.self.inside.first c.args.self.now c.args.place c.self.invariant c.self.view_is r in
    (look_left v.inside.words v.inside.first c.join_next.new.self r.earlier c.args.place r.n r.later c.part-left.result v.invariant v.view_is
    (c.join_next.ensures.tiles r.earlier r.later r.n (c.free.ensures.tiles r.earlier r.later r.n r.owner r.is)) (c.part-left.ensures ∙ h.before) c.if-left-place.true).inside

-- the hole on the left, where its mark was read
left_hole : (words : List ℕ) (a : List Tile) (left : ℕ) → LeftOf words a left → hole_mark ≤ word_at words left → (c : List Tile) × (k : ℕ) × (a ≡ c ++ hole left k ∷ [])
left_hole words a left (a_hole c k e marked) m = (c, k, e)
left_hole words a left (a_block c k v e small) m = absurd (omega arith)

left_block : (words : List ℕ) (a : List Tile) (left : ℕ) → LeftOf words a left → word_at words left < hole_mark → (c : List Tile) × (k : ℕ) × (v : ℕ) × (a ≡ c ++ block left k v ∷ [])
left_block words a left (a_hole c k e marked) m = absurd (omega arith)
left_block words a left (a_block c k v e small) m = (c, k, v, e)

pub join_next-requires-then-is_hole : goal.join_next-requires-then-is_hole
join_next-requires-then-is_hole c =
    let r = c.requires.block in let v = c.self-then-left-place in let left = c.part-left.result in
    let h = block_seen c.self.inside.words c.self.inside.first c.args.self.now c.args.place c.self.invariant c.self.view_is r in
    let now = c.join_next.ensures.tiles r.earlier r.later r.n (c.free.ensures.tiles r.earlier r.later r.n r.owner r.is) in
    let x = look_left v.inside.words v.inside.first c.join_next.new.self r.earlier c.args.place r.n r.later left v.invariant v.view_is now (c.part-left.ensures ∙ h.before) c.if-left-place.true in
    let y = left_hole v.inside.words r.earlier left x.kind (c.if-is_hole.ensures.0 refl) in
    let ts = joined (hole c.args.place r.n) r.later in
    record { earlier = y.0; n = y.1; later = ts; is = now ∙ ap (λ us. us ++ ts) y.2 ∙ append_assoc y.0 (hole left y.1 ∷ []) ts }

pub returns-then-is_hole-clause-tiles : goal.returns-then-is_hole-clause-tiles
returns-then-is_hole-clause-tiles c =
    let r = c.requires.block in let v = c.self-then-left-place in let left = c.part-left.result in let words = c.self.inside.words in
    let s = shown words c.self.inside.first c.args.self.now (r.earlier ++ block c.args.place r.n r.owner ∷ r.later) c.self.invariant c.self.view_is r.is in
    let h = block_told words c.self.inside.first r.earlier c.args.place r.n r.owner r.later s in
    let now = c.join_next.ensures.tiles r.earlier r.later r.n (c.free.ensures.tiles r.earlier r.later r.n r.owner r.is) in
    let x = look_left v.inside.words v.inside.first c.join_next.new.self r.earlier c.args.place r.n r.later left v.invariant v.view_is now (c.part-left.ensures ∙ h.before) c.if-left-place.true in
    let y = left_hole v.inside.words r.earlier left x.kind (c.if-is_hole.ensures.0 refl) in
    let ts = joined (hole c.args.place r.n) r.later in
    c.join_next-then-is_hole.ensures.tiles y.0 ts y.1 (now ∙ ap (λ us. us ++ ts) y.2 ∙ append_assoc y.0 (hole left y.1 ∷ []) ts)
    ∙ sym (returned-joined (word_at words) (word_at words) (length words) r.earlier c.args.place r.n r.owner r.later (length words) s.spelled (subst Apart r.is c.requires.apart) y.0 left y.1 y.2)
    ∙ ap (put_back c.args.place) (sym r.is)

pub returns-then-is_hole-clause-objects : goal.returns-then-is_hole-clause-objects
returns-then-is_hole-clause-objects c other i has =
    let r = c.requires.block in let v = c.self-then-left-place in let left = c.part-left.result in let words = c.self.inside.words in
    let h = block_seen words c.self.inside.first c.args.self.now c.args.place c.self.invariant c.self.view_is r in
    let freed = c.free.ensures.tiles r.earlier r.later r.n r.owner r.is in
    let now = c.join_next.ensures.tiles r.earlier r.later r.n freed in
    let x = look_left v.inside.words v.inside.first c.join_next.new.self r.earlier c.args.place r.n r.later left v.invariant v.view_is now (c.part-left.ensures ∙ h.before) c.if-left-place.true in
    let y = left_hole v.inside.words r.earlier left x.kind (c.if-is_hole.ensures.0 refl) in
    let ts = joined (hole c.args.place r.n) r.later in
    let split = now ∙ ap (λ us. us ++ ts) y.2 ∙ append_assoc y.0 (hole left y.1 ∷ []) ts in
    let joined_is = c.join_next-then-is_hole.ensures.tiles y.0 ts y.1 split in
    let same2 : block_length c.join_next-then-is_hole.new.self.tiles other ≡ block_length c.join_next.new.self.tiles other =
    ap (λ us. block_length us other) joined_is ∙ length-joined y.0 left y.1 ts other ∙ ap (λ us. block_length us other) (sym split) in
    let same1 : block_length c.join_next.new.self.tiles other ≡ block_length c.free.new.self.tiles other =
    ap (λ us. block_length us other) now ∙ length-joined r.earlier c.args.place r.n r.later other ∙ ap (λ us. block_length us other) (sym freed) in
    c.join_next-then-is_hole.ensures.objects other i has ∙ c.join_next.ensures.objects other i (omega arith) ∙ c.free.ensures.objects other i (omega arith)

pub returns-else-left-place-clause-tiles : goal.returns-else-left-place-clause-tiles
returns-else-left-place-clause-tiles c =
    let r = c.requires.block in let left = c.part-left.result in let words = c.self.inside.words in
    let s = shown words c.self.inside.first c.args.self.now (r.earlier ++ block c.args.place r.n r.owner ∷ r.later) c.self.invariant c.self.view_is r.is in
    let h = block_told words c.self.inside.first r.earlier c.args.place r.n r.owner r.later s in
    let now = c.join_next.ensures.tiles r.earlier r.later r.n (c.free.ensures.tiles r.earlier r.later r.n r.owner r.is) in
    let apart = subst Apart r.is c.requires.apart in
    now
    ∙ elim c.else-left-place.branch [
      | else-left-place-via-then-left-place+else-is_hole w ↦
          let v = w.self-then-left-place in
          let x = look_left v.inside.words v.inside.first c.join_next.new.self r.earlier c.args.place r.n r.later left v.invariant v.view_is now (c.part-left.ensures ∙ h.before) w.if-left-place.true in
          let y = left_block v.inside.words r.earlier left x.kind (below_mark (word_at v.inside.words left) w.if-is_hole.ensures.1) in
          sym (returned-alone (word_at words) (word_at words) (length words) r.earlier c.args.place r.n r.owner r.later (length words) s.spelled apart y.0 left y.1 y.2 y.3)
      | else-left-place-via-else-left-place w ↦
          sym (returned-front (word_at words) (word_at words) (length words) r.earlier c.args.place r.n r.owner r.later (length words) s.spelled apart
          (none_left words c.self.inside.first r.earlier c.args.place r.n r.owner r.later s left (c.part-left.ensures ∙ h.before) w.if-left-place.false))
    ]
    ∙ ap (put_back c.args.place) (sym r.is)

pub returns-else-left-place-clause-objects : goal.returns-else-left-place-clause-objects
returns-else-left-place-clause-objects c other i has =
    let r = c.requires.block in
    let freed = c.free.ensures.tiles r.earlier r.later r.n r.owner r.is in
    let now = c.join_next.ensures.tiles r.earlier r.later r.n freed in
    let same : block_length c.join_next.new.self.tiles other ≡ block_length c.free.new.self.tiles other =
    ap (λ us. block_length us other) now ∙ length-joined r.earlier c.args.place r.n r.later other ∙ ap (λ us. block_length us other) (sym freed) in
    c.join_next.ensures.objects other i has ∙ c.free.ensures.objects other i (omega arith)
