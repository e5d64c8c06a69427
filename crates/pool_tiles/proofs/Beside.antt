-- The tiles beside a hole.
use Rattle.std.proofs.Common.{◌≡◌, ℕ, ◌+◌, ◌≤◌, ◌<◌, List, [], ◌∷◌, ◌++◌, length, append_assoc, refl, sym, ap, ◌∙◌, subst, arith, inl, inr}
use Rattle.pool_tiles.specs.Tiling.{Tile, hole, block, joined}
use Rattle.pool_tiles.specs.Headers.{first_or, tile_before, total, hole_mark, word_at, Spells, Spelled}
use Rattle.pool_tiles.proofs.Spelling.{front_part, total-append, tile_before-append}
use Rattle.pool_tiles.proofs.Merging.{last_tile}
use Rattle.pool_tiles.proofs.Told.{hole_told, block_told}

-- a tile with the hole's mark follows
pub hole_next : (words : List ℕ) (first : ℕ) (a : List Tile) (p n : ℕ) (b : List Tile) → Spells words first (a ++ hole p n ∷ b) → p + n < length words → hole_mark ≤ word_at words (p + n)
    → (u : ℕ) × (m : ℕ) × (later : List Tile) × (b ≡ hole u m ∷ later)
hole_next words first a p n [] s more marked = let told = hole_told words first a p n [] s in let inside = told.inside in absurd (omega arith)
hole_next words first a p n (hole u m ∷ b) s more marked = (u, m, b, refl)
hole_next words first a p n (block u m w ∷ b) s more marked =
    let told = hole_told words first a p n (block u m w ∷ b) s in let placed = told.place_is in
    let next = block_told words first (a ++ hole p n ∷ []) u m w b (subst (λ ts. Spells words first ts) (sym (append_assoc a (hole p n ∷ []) (block u m w ∷ b))) s) in
    let there = next.place_is in let parts = total-append a (hole p n ∷ []) in let inside = next.inside in let few = next.few in
    let here : p + n ≡ u = omega arith in let small = next.small in let same = ap (word_at words) here in absurd (omega arith)

-- no such tile follows
pub none_next : (words : List ℕ) (first : ℕ) (a : List Tile) (p n : ℕ) (b : List Tile) → Spells words first (a ++ hole p n ∷ b)
    → (p + n < length words → word_at words (p + n) < hole_mark) → joined (hole p n) b ≡ hole p n ∷ b
none_next words first a p n [] s small = refl
none_next words first a p n (hole u m ∷ b) s small =
    let told = hole_told words first a p n (hole u m ∷ b) s in let placed = told.place_is in
    let next = hole_told words first (a ++ hole p n ∷ []) u m b (subst (λ ts. Spells words first ts) (sym (append_assoc a (hole p n ∷ []) (hole u m ∷ b))) s) in
    let there = next.place_is in let parts = total-append a (hole p n ∷ []) in let inside = next.inside in let long = next.long in
    let here : p + n ≡ u = omega arith in let size = ap (word_at words) here ∙ next.size in
    let less = small (omega arith) in absurd (omega arith)
none_next words first a p n (block u m w ∷ b) s small = refl

-- what the tile before the hole is
pub data LeftOf (words : List ℕ) (a : List Tile) (left : ℕ) : Type 0 where
  a_hole : (c : List Tile) (k : ℕ) → a ≡ c ++ hole left k ∷ [] → hole_mark ≤ word_at words left → LeftOf words a left
  a_block : (c : List Tile) (k v : ℕ) → a ≡ c ++ block left k v ∷ [] → word_at words left < hole_mark → LeftOf words a left

by_tile : (words : List ℕ) (first : ℕ) (a : List Tile) (p m : ℕ) (b : List Tile) → Spells words first (a ++ hole p m ∷ b) → (c : List Tile) (t : Tile) → a ≡ c ++ t ∷ []
    → LeftOf words a (tile_before 0 a) × (tile_before 0 a < p)
by_tile words first a p m b s c (hole q k) e =
    let split = ap (λ ts. ts ++ hole p m ∷ b) e ∙ append_assoc c (hole q k ∷ []) (hole p m ∷ b) in
    let told = hole_told words first c q k (hole p m ∷ b) (subst (λ ts. Spells words first ts) split s) in
    let here = hole_told words first a p m b s in let placed = here.place_is in let parts = ap total e ∙ total-append c (hole q k ∷ []) in
    let left : tile_before 0 a ≡ q = ap (tile_before 0) e ∙ tile_before-append c (hole q k ∷ []) 0 in
    let there = told.place_is in let long = told.long in let size = told.size in (
      subst (LeftOf words a) (sym left) (a_hole c k e (omega arith)),
      omega arith,
    )
by_tile words first a p m b s c (block q k v) e =
    let split = ap (λ ts. ts ++ hole p m ∷ b) e ∙ append_assoc c (block q k v ∷ []) (hole p m ∷ b) in
    let told = block_told words first c q k v (hole p m ∷ b) (subst (λ ts. Spells words first ts) split s) in
    let here = hole_told words first a p m b s in let placed = here.place_is in let parts = ap total e ∙ total-append c (block q k v ∷ []) in
    let left : tile_before 0 a ≡ q = ap (tile_before 0) e ∙ tile_before-append c (block q k v ∷ []) 0 in
    let there = told.place_is in let long = told.long in let small = told.small in let few = told.few in let inside = told.inside in (
      subst (LeftOf words a) (sym left) (a_block c k v e (omega arith)),
      omega arith,
    )

-- some tile is before the hole
pub left_of : (words : List ℕ) (first : ℕ) (a : List Tile) (p m : ℕ) (b : List Tile) → Spells words first (a ++ hole p m ∷ b) → (left : ℕ) → left ≡ tile_before 0 a → left < p → LeftOf words a left
left_of words first a p m b s left e less =
    let told = hole_told words first a p m b s in let placed = told.place_is in
    elim (last_tile a) [
      | inl none ↦ let empty = ap total none in absurd (omega arith)
      | inr x ↦ subst (LeftOf words a) (sym e) (by_tile words first a p m b s x.0 x.1 x.2).0
    ]

back_less : (r o : ℕ → ℕ) (at back prev : ℕ) (t : Tile) (ts : List Tile) (next : ℕ) → Spelled r o at back prev (t ∷ ts) next → tile_before back (t ∷ ts) < at + total (t ∷ ts)
back_less r o at back prev (hole q n) [] next s = let e = s.0 in let long = s.1.long in omega arith
back_less r o at back prev (block q n w) [] next s = let e = s.0 in let long = s.1.long in omega arith
back_less r o at back prev (hole q n) (u ∷ ts) next s = let e = s.0 in let rest = back_less r o (q + n) q q u ts next s.2 in omega arith
back_less r o at back prev (block q n w) (u ∷ ts) next s = let e = s.0 in let rest = back_less r o (q + n) q prev u ts next s.2 in omega arith

-- none is, where the place is the front
pub none_left : (words : List ℕ) (first : ℕ) (a : List Tile) (p m w : ℕ) (b : List Tile) → Spells words first (a ++ block p m w ∷ b) → (left : ℕ) → left ≡ tile_before 0 a → p ≤ left → a ≡ []
none_left words first [] p m w b s left e past = refl
none_left words first (t ∷ a) p m w b s left e past =
    let n = length words in let r = word_at words in
    let told = block_told words first (t ∷ a) p m w b s in let placed = told.place_is in
    let less = back_less r r 0 0 n t a (first_or (block p m w ∷ b) n) (front_part r r 0 0 n (t ∷ a) (block p m w ∷ b) n s.spelled) in
    absurd (omega arith)

-- the hole with what it was joined to
pub joined_hole : (p m : ℕ) (b : List Tile) → (k : ℕ) × (later : List Tile) × (joined (hole p m) b ≡ hole p k ∷ later)
joined_hole p m [] = (m, [], refl)
joined_hole p m (hole u i ∷ b) = (m + i, b, refl)
joined_hole p m (block u i w ∷ b) = (m, block u i w ∷ b, refl)
