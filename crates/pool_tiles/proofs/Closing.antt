-- All blocks of an owner become holes, tile by tile from the front.
use Rattle.std.proofs.Common.{◌≡◌, ◌≢◌, ℕ, ◌+◌, ◌≤◌, ◌<◌, ◌^◌, List, [], ◌∷◌, ◌++◌, map, length, append_assoc, refl, sym, ap, ◌∙◌, subst, arith, inl, inr}
use Rattle.pool_tiles.specs.Tiling.{Tile, hole, block, place_of, length_of, owner_of, joined, merged, freed, put_back, let_go, closed, block_length}
use Rattle.pool_tiles.specs.Headers.{total, hole_mark, Spelled, word_at, tile_at, tiles_of, Spells, Apart}
use Rattle.pool_tiles.specs.Tiled.{Tiled, BlockIn, leading_hole, SameWords}
use Rattle.pool_tiles.specs.Piled.{NoneOf}
use Rattle.pool_tiles.proofs.Spelling.{back_part, total-append}
use Rattle.pool_tiles.proofs.Reading.{hole_read, block_read, few_or_more}
use Rattle.pool_tiles.proofs.Objects.{same_or_not, length-put_back, length-merged, length-behind, later_free}
use Rattle.pool_tiles.proofs.Owners.{goes, stays}
use Rattle.pool_tiles.proofs.Done.{covered}
use Rattle.pool_tiles.proofs.Told.{hole_told, block_told, seen, shown}
use Rattle.pool_tiles.proofs.Merging.{merged-apart, merged-same, freed-at, returned-front, returned-alone, returned-joined, last_tile}

-- what a tile's header tells, be it a hole or a block
pub record TileTold (words : List ℕ) (a : List Tile) (t : Tile) (b : List Tile) : Type 0 where
  pub place_is : place_of t ≡ total a
  pub tile : tile_at words (place_of t) ≡ t
  pub long : 4 ≤ length_of t
  pub inside : place_of t + length_of t + total b ≡ length words
  pub few : length words < 2 ^ 32

-- a block has not the mark of a hole, and a hole has it
abbrev pub Marked : List ℕ → Tile → Type 0
Marked words (hole p m) = hole_mark ≤ word_at words p
Marked words (block p m w) = word_at words p < hole_mark

pub tile_told : (words : List ℕ) (first : ℕ) (a : List Tile) (t : Tile) (b : List Tile) → Spells words first (a ++ t ∷ b) → TileTold words a t b × Marked words t
tile_told words first a (hole p m) b s =
    let told = hole_told words first a p m b s in let size = told.size in (
      record { place_is = told.place_is; tile = hole_read words p m told.size; long = told.long; inside = told.inside; few = told.few },
      omega arith,
    )
tile_told words first a (block p m w) b s =
    let told = block_told words first a p m w b s in let inside = told.inside in let few = told.few in
    let here = back_part (word_at words) (word_at words) 0 0 (length words) a (block p m w ∷ b) (length words) s.spelled in (
      record { place_is = told.place_is; tile = block_read words p m w here.1.size (omega arith) here.1.owned; long = told.long; inside = inside; few = few },
      told.small,
    )

-- the tiles behind a tile
pub behind_told : (words : List ℕ) (first : ℕ) (a : List Tile) (t u : Tile) (b : List Tile) → Spells words first (a ++ t ∷ u ∷ b)
    → (place_of u ≡ place_of t + length_of t) × (tile_at words (place_of t + length_of t) ≡ u) × Marked words u × (place_of u + length_of u + total b ≡ length words)
behind_told words first a t u b s =
    let one = (tile_told words first a t (u ∷ b) s).0 in
    let two = tile_told words first (a ++ t ∷ []) u b (subst (λ ts. Spells words first ts) (sym (append_assoc a (t ∷ []) (u ∷ b))) s) in
    let parts = total-append a (t ∷ []) in let p1 = one.place_is in let p2 = two.0.place_is in let alone = total_one t in
    let same : place_of u ≡ place_of t + length_of t = omega arith in
    (same, subst (λ (k : ℕ). tile_at words k ≡ u) same two.0.tile, two.1, two.0.inside)
  where
    total_one : (t : Tile) → total (t ∷ []) ≡ length_of t
    total_one (hole p m) = omega arith
    total_one (block p m w) = omega arith

-- the place behind a tile, and behind the hole that follows it
pub place_after : (words : List ℕ) (first : ℕ) (a : List Tile) (t : Tile) (b : List Tile) (next result : ℕ) → Spells words first (a ++ t ∷ b) → next ≡ place_of t + length_of t
    → (next < length words → hole_mark ≤ word_at words next → result ≡ next + length_of (tile_at words next))
    → (next < length words → word_at words next < hole_mark → result ≡ next) → (length words ≤ next → result ≡ next)
    → result ≡ place_of t + length_of t + leading_hole b
place_after words first a t [] next result s next_is far near end =
    let told = (tile_told words first a t [] s).0 in let inside = told.inside in
    let e = end (omega arith) in omega arith
place_after words first a t (hole q i ∷ b) next result s next_is far near end =
    let told = behind_told words first a t (hole q i) b s in let long = (tile_told words first a t (hole q i ∷ b) s).0.inside in
    let long_i = hole_long words first a t q i b s in
    let marked : hole_mark ≤ word_at words next = subst (λ (k : ℕ). hole_mark ≤ word_at words k) (told.0 ∙ sym next_is) told.2 in
    let length_is : length_of (tile_at words next) ≡ i = ap (λ (k : ℕ). length_of (tile_at words k)) next_is ∙ ap length_of told.1 in
    let e = far (omega arith) marked in omega arith
  where
    hole_long : (words : List ℕ) (first : ℕ) (a : List Tile) (t : Tile) (q i : ℕ) (b : List Tile) → Spells words first (a ++ t ∷ hole q i ∷ b) → 4 ≤ i
    hole_long words first a t q i b s =
        (tile_told words first (a ++ t ∷ []) (hole q i) b (subst (λ ts. Spells words first ts) (sym (append_assoc a (t ∷ []) (hole q i ∷ b))) s)).0.long
place_after words first a t (block q i w ∷ b) next result s next_is far near end =
    let told = behind_told words first a t (block q i w) b s in let long = (tile_told words first a t (block q i w ∷ b) s).0.inside in
    let two = (tile_told words first (a ++ t ∷ []) (block q i w) b (subst (λ ts. Spells words first ts) (sym (append_assoc a (t ∷ []) (block q i w ∷ b))) s)).0.long in
    let small : word_at words next < hole_mark = subst (λ (k : ℕ). word_at words k < hole_mark) (told.0 ∙ sym next_is) told.2 in
    let e = near (omega arith) small in omega arith

pub hole_inside : (words : List ℕ) (first : ℕ) (a : List Tile) (t : Tile) (b : List Tile) (next : ℕ) → Spells words first (a ++ t ∷ b) → next ≡ place_of t + length_of t
    → next < length words → hole_mark ≤ word_at words next → (next + length_of (tile_at words next) ≤ length words)
hole_inside words first a t [] next s next_is less marked = let told = (tile_told words first a t [] s).0 in let inside = told.inside in absurd (omega arith)
hole_inside words first a t (hole q i ∷ b) next s next_is less marked =
    let told = behind_told words first a t (hole q i) b s in let inside = told.3 in
    let length_is : length_of (tile_at words next) ≡ i = ap (λ (k : ℕ). length_of (tile_at words k)) next_is ∙ ap length_of told.1 in
    let same = told.0 in omega arith
hole_inside words first a t (block q i w ∷ b) next s next_is less marked =
    let told = behind_told words first a t (block q i w) b s in
    let small : word_at words next < hole_mark = subst (λ (k : ℕ). word_at words k < hole_mark) (told.0 ∙ sym next_is) told.2 in absurd (omega arith)

-- two holes one after the other
joined-again : (p n q m : ℕ) (ys : List Tile) → joined (hole p n) (joined (hole q m) ys) ≡ joined (hole p (n + m)) ys
joined-again p n q m [] = refl
joined-again p n q m (hole u i ∷ ys) = ap (λ (k : ℕ). hole p k ∷ ys) (omega arith)
joined-again p n q m (block u i w ∷ ys) = refl

let_go-joined : (w : ℕ) (t : Tile) (ts : List Tile) → merged (map (let_go w) (joined t ts)) ≡ merged (map (let_go w) (t ∷ ts))
let_go-joined w (hole p n) [] = refl
let_go-joined w (hole p n) (hole q m ∷ ts) = sym (joined-again p n q m (merged (map (let_go w) ts)))
let_go-joined w (hole p n) (block q m x ∷ ts) = refl
let_go-joined w (block p n x) ts = refl

-- holes may be merged before others become holes
let_go-merged : (w : ℕ) (ts : List Tile) → merged (map (let_go w) (merged ts)) ≡ merged (map (let_go w) ts)
let_go-merged w [] = refl
let_go-merged w (t ∷ ts) = let_go-joined w t (merged ts) ∙ ap (joined (let_go w t)) (let_go-merged w ts)

let_go-hole : (w : ℕ) (a : List Tile) (p m : ℕ) (b : List Tile) → map (let_go w) (a ++ hole p m ∷ b) ≡ map (let_go w) (a ++ block p m w ∷ b)
let_go-hole w [] p m b = ap (λ (t : Tile). t ∷ map (let_go w) b) (sym (goes w p m w refl))
let_go-hole w (t ∷ a) p m b = ap (λ (ts : List Tile). let_go w t ∷ ts) (let_go-hole w a p m b)

total-joined : (t : Tile) (ts : List Tile) → total (joined t ts) ≡ total (t ∷ ts)
total-joined (hole p n) [] = refl
total-joined (hole p n) (hole q m ∷ ts) = omega arith
total-joined (hole p n) (block q m x ∷ ts) = refl
total-joined (block p n x) ts = refl

total-more : (t : Tile) (ts us : List Tile) → total ts ≡ total us → total (t ∷ ts) ≡ total (t ∷ us)
total-more (hole p n) ts us e = omega arith
total-more (block p n x) ts us e = omega arith

total-merged : (ts : List Tile) → total (merged ts) ≡ total ts
total-merged [] = refl
total-merged (t ∷ ts) = total-joined t (merged ts) ∙ total-more t (merged ts) ts (total-merged ts)

total-let_go : (w : ℕ) (ts : List Tile) → total (map (let_go w) ts) ≡ total ts
total-let_go w [] = refl
total-let_go w (hole p n ∷ ts) = total-more (hole p n) (map (let_go w) ts) ts (total-let_go w ts)
total-let_go w (block p n x ∷ ts) = elim (same_or_not x w) [
  | inl mine ↦ ap (λ (t : Tile). total (t ∷ map (let_go w) ts)) (goes w p n x mine) ∙ total-more (hole p n) (map (let_go w) ts) ts (total-let_go w ts)
  | inr other ↦ ap (λ (t : Tile). total (t ∷ map (let_go w) ts)) (stays w p n x other) ∙ total-more (block p n x) (map (let_go w) ts) ts (total-let_go w ts)
]

pub total-closed : (w : ℕ) (ts : List Tile) → total (closed w ts) ≡ total ts
total-closed w ts = total-merged (map (let_go w) ts) ∙ total-let_go w ts

none-append : (w : ℕ) (a b : List Tile) → NoneOf w a → NoneOf w b → NoneOf w (a ++ b)
none-append w [] b x y = y
none-append w (hole p m ∷ a) b x y = none-append w a b x y
none-append w (block p m v ∷ a) b x y = (x.0, none-append w a b x.1 y)

none-front : (w : ℕ) (a b : List Tile) → NoneOf w (a ++ b) → NoneOf w a
none-front w [] b x = tt
none-front w (hole p m ∷ a) b x = none-front w a b x
none-front w (block p m v ∷ a) b x = (x.0, none-front w a b x.1)

pub none-same : (w : ℕ) (a : List Tile) → NoneOf w a → map (let_go w) a ≡ a
none-same w [] x = refl
none-same w (hole p m ∷ a) x = ap (λ ts. hole p m ∷ ts) (none-same w a x)
none-same w (block p m v ∷ a) x = ap (λ (t : Tile). t ∷ map (let_go w) a) (stays w p m v x.0) ∙ ap (λ ts. block p m v ∷ ts) (none-same w a x.1)

-- what follows the hole that tiles begin with, and that hole
abbrev beyond : List Tile → List Tile
beyond [] = []
beyond (hole p m ∷ ts) = ts
beyond (block p m w ∷ ts) = block p m w ∷ ts

abbrev heads : List Tile → List Tile
heads [] = []
heads (hole p m ∷ ts) = hole p m ∷ []
heads (block p m w ∷ ts) = []

joined_beyond : (p m : ℕ) (b : List Tile) → joined (hole p m) b ≡ hole p (m + leading_hole b) ∷ beyond b
joined_beyond p m [] = ap (λ (k : ℕ). hole p k ∷ []) (omega arith)
joined_beyond p m (hole q i ∷ b) = refl
joined_beyond p m (block q i w ∷ b) = ap (λ (k : ℕ). hole p k ∷ block q i w ∷ b) (omega arith)

heads_beyond : (b : List Tile) → heads b ++ beyond b ≡ b
heads_beyond [] = refl
heads_beyond (hole q i ∷ b) = refl
heads_beyond (block q i w ∷ b) = refl

heads_total : (b : List Tile) → total (heads b) ≡ leading_hole b
heads_total [] = refl
heads_total (hole q i ∷ b) = omega arith
heads_total (block q i w ∷ b) = refl

heads_none : (w : ℕ) (b : List Tile) → NoneOf w (heads b)
heads_none w [] = tt
heads_none w (hole q i ∷ b) = tt
heads_none w (block q i v ∷ b) = tt

-- no block is at a place that became a hole
freed_free : (r o : ℕ → ℕ) (at back prev : ℕ) (a : List Tile) (p m w : ℕ) (b : List Tile) (next : ℕ) → Spelled r o at back prev (a ++ block p m w ∷ b) next
    → (at ≤ p) × (block_length (a ++ hole p m ∷ b) p ≡ 0)
freed_free r o at back prev [] p m w b next s =
    let e = s.0 in let long = s.1.long in (omega arith, later_free r o (p + m) p prev b next p s.2 (omega arith))
freed_free r o at back prev (hole q n ∷ a) p m w b next s =
    let e = s.0 in let rest = freed_free r o (q + n) q q a p m w b next s.2 in (omega (arith, rest.0), rest.1)
freed_free r o at back prev (block q n v ∷ a) p m w b next s =
    let e = s.0 in let long = s.1.long in let rest = freed_free r o (q + n) q prev a p m w b next s.2 in
    let other : q ≢ p = λ same. absurd (omega (arith, rest.0)) in
    (omega (arith, rest.0), length-behind q p n v (a ++ hole p m ∷ b) other ∙ rest.1)

-- what is true at each tile: those before it have no block of the owner, and to close it now gives the same
pub record Closing (w : ℕ) (old now : Tiled) (place : ℕ) : Type 0 where
  pub earlier : List Tile
  pub later : List Tile
  pub is : now.tiles ≡ earlier ++ later
  pub at_place : place ≡ total earlier
  pub none : NoneOf w earlier
  pub same : closed w now.tiles ≡ closed w old.tiles
  pub apart : Apart now.tiles
  pub words : SameWords now.tiles old.words now.words
  pub least : total later < 4 → later ≡ []

-- tiles that have fewer words than a header are none
least_words : (words : List ℕ) (first : ℕ) (a b : List Tile) → Spells words first (a ++ b) → total b < 4 → b ≡ []
least_words words first a [] s few = refl
least_words words first a (hole p m ∷ b) s few = let long = (tile_told words first a (hole p m) b s).0.long in absurd (omega arith)
least_words words first a (block p m w ∷ b) s few = let long = (tile_told words first a (block p m w) b s).0.long in absurd (omega arith)

pub begun : (w : ℕ) (words : List ℕ) (first : ℕ) (t : Tiled) → Spells words first (tiles_of words) → seen words ≡ t → Apart t.tiles → Closing w t t 0
begun w words first t kept view apart = record {
  earlier = [];
  later = t.tiles;
  is = refl;
  at_place = refl;
  none = tt;
  same = refl;
  apart = apart;
  words = λ place i has. refl;
  least = least_words words first [] t.tiles (shown words first t t.tiles kept view refl);
}

-- the tiles at the place and behind it, where the words of a header are left there
pub record There (words : List ℕ) (w : ℕ) (old now : Tiled) (place : ℕ) : Type 0 where
  pub earlier : List Tile
  pub tile : Tile
  pub later : List Tile
  pub is : now.tiles ≡ earlier ++ tile ∷ later
  pub spells : (first : ℕ) → Spells words first (tiles_of words) → Spells words first (earlier ++ tile ∷ later)
  pub at_place : place_of tile ≡ place
  pub sum : place ≡ total earlier
  pub none : NoneOf w earlier

there_is : (words : List ℕ) (w : ℕ) (old now : Tiled) (place first : ℕ) (a b : List Tile) → Spells words first (tiles_of words) → seen words ≡ now → place + 4 ≤ length words
    → now.tiles ≡ a ++ b → place ≡ total a → NoneOf w a → There words w old now place
there_is words w old now place first a [] kept view room is sum none =
    let s = shown words first now (a ++ []) kept view is in let parts = total-append a [] in
    elim (few_or_more (length words)) [
      | inl few ↦ absurd (omega arith)
      | inr more ↦ let whole = s.whole more in absurd (omega arith)
    ]
there_is words w old now place first a (t ∷ b) kept view room is sum none =
    let s = shown words first now (a ++ t ∷ b) kept view is in let told = (tile_told words first a t b s).0 in
    record {
      earlier = a;
      tile = t;
      later = b;
      is = is;
      spells = λ first kept. shown words first now (a ++ t ∷ b) kept view is;
      at_place = told.place_is ∙ sym sum;
      sum = sum;
      none = none;
    }

pub there : (words : List ℕ) (w : ℕ) (old now : Tiled) (place first : ℕ) → Closing w old now place → Spells words first (tiles_of words) → seen words ≡ now → place + 4 ≤ length words
    → There words w old now place
there words w old now place first c kept view room = there_is words w old now place first c.earlier c.later kept view room c.is c.at_place c.none

-- what follows is farther on
pub longer : (words : List ℕ) (w : ℕ) (old now : Tiled) (place next first : ℕ) → Closing w old now place → Spells words first (tiles_of words) → seen words ≡ now → place + 4 ≤ length words
    → ((a b : List Tile) (t : Tile) → now.tiles ≡ a ++ t ∷ b → place_of t ≡ place → next ≡ place + length_of t + leading_hole b) → place < next
longer words w old now place next first c kept view room next_is =
    let x = there words w old now place first c kept view room in
    let told = tile_told words first x.earlier x.tile x.later (x.spells first kept) in let long = told.0.long in
    let n = next_is x.earlier x.later x.tile x.is x.at_place in omega arith

-- a tile that stays, and the hole that follows it, are passed
other_tile : (w : ℕ) (words : List ℕ) (t : Tile) → tile_at words (place_of t) ≡ t → Marked words t
    → ((word_at words (place_of t) < hole_mark) × (owner_of (tile_at words (place_of t)) ≡ w) → ⊥) → NoneOf w (t ∷ [])
other_tile w words (hole p m) is marked ne = tt
other_tile w words (block p m x) is marked ne = ((λ e. ne (marked, ap owner_of is ∙ e)), tt)

pub passed : (words : List ℕ) (w : ℕ) (old now : Tiled) (place next first : ℕ) → Closing w old now place → Spells words first (tiles_of words) → seen words ≡ now → place + 4 ≤ length words
    → ((a b : List Tile) (t : Tile) → now.tiles ≡ a ++ t ∷ b → place_of t ≡ place → next ≡ place + length_of t + leading_hole b)
    → ((word_at words place < hole_mark) × (owner_of (tile_at words place) ≡ w) → ⊥) → Closing w old now next
passed words w old now place next first c kept view room next_is ne =
    let x = there words w old now place first c kept view room in let a = x.earlier in let t = x.tile in let b = x.later in
    let told = tile_told words first a t b (x.spells first kept) in
    let here = heads_beyond b in let sums = heads_total b in let one = total_first t (heads b) in
    let parts = total-append a (t ∷ heads b) in let sum = x.sum in let n = next_is a b t x.is x.at_place in
    record {
      earlier = a ++ t ∷ heads b;
      later = beyond b;
      is = x.is ∙ ap (λ ts. a ++ t ∷ ts) (sym here) ∙ sym (append_assoc a (t ∷ heads b) (beyond b));
      at_place = omega arith;
      none = none-append w a (t ∷ heads b) x.none (none-append w (t ∷ []) (heads b)
          (other_tile w words t told.0.tile told.1 (subst (λ (k : ℕ). (word_at words k < hole_mark) × (owner_of (tile_at words k) ≡ w) → ⊥) (sym x.at_place) ne)) (heads_none w b));
      same = c.same;
      apart = c.apart;
      words = c.words;
      least = least_words words first (a ++ t ∷ heads b) (beyond b) (shown words first now ((a ++ t ∷ heads b) ++ beyond b) kept view
          (x.is ∙ ap (λ ts. a ++ t ∷ ts) (sym here) ∙ sym (append_assoc a (t ∷ heads b) (beyond b))));
    }
  where
    total_first : (t : Tile) (ts : List Tile) → total (t ∷ ts) ≡ length_of t + total ts
    total_first (hole p m) ts = refl
    total_first (block p m v) ts = refl

-- the tiles once a block came back: those before and with it have no more blocks than before
pub record Shape (v : ℕ) (ts : List Tile) (sum : ℕ) (later : List Tile) : Type 0 where
  pub earlier : List Tile
  pub is : ts ≡ earlier ++ later
  pub long : total earlier ≡ sum
  pub none : NoneOf v earlier

after_freed : (v : ℕ) (words : List ℕ) (first : ℕ) (a : List Tile) (p m w : ℕ) (b : List Tile) → Spells words first (a ++ block p m w ∷ b) → Apart (a ++ block p m w ∷ b) → NoneOf v a
    → Shape v (put_back p (a ++ block p m w ∷ b)) (total a + m + leading_hole b) (beyond b)
after_freed v words first a p m w b s apart none =
    let r = word_at words in let n = length words in let k = m + leading_hole b in
    let joins = joined_beyond p m b in
    let alone : put_back p (a ++ block p m w ∷ b) ≡ a ++ joined (hole p m) b → Shape v (put_back p (a ++ block p m w ∷ b)) (total a + m + leading_hole b) (beyond b) =
    λ e. let parts = total-append a (hole p k ∷ []) in record {
      earlier = a ++ hole p k ∷ [];
      is = e ∙ ap (λ ts. a ++ ts) joins ∙ sym (append_assoc a (hole p k ∷ []) (beyond b));
      long = omega arith;
      none = none-append v a (hole p k ∷ []) none tt;
    } in
    elim (last_tile a) [
      | inl empty ↦ alone (returned-front r r n a p m w b n s.spelled apart empty)
      | inr x ↦ by_last v words first a p m w b s apart none alone x.0 x.1 x.2
    ]
  where
    by_last : (v : ℕ) (words : List ℕ) (first : ℕ) (a : List Tile) (p m w : ℕ) (b : List Tile) → Spells words first (a ++ block p m w ∷ b) → Apart (a ++ block p m w ∷ b) → NoneOf v a
        → (put_back p (a ++ block p m w ∷ b) ≡ a ++ joined (hole p m) b → Shape v (put_back p (a ++ block p m w ∷ b)) (total a + m + leading_hole b) (beyond b))
        → (c : List Tile) (t : Tile) → a ≡ c ++ t ∷ [] → Shape v (put_back p (a ++ block p m w ∷ b)) (total a + m + leading_hole b) (beyond b)
    by_last v words first a p m w b s apart none alone c (block q i x) e =
        alone (returned-alone (word_at words) (word_at words) (length words) a p m w b (length words) s.spelled apart c q i x e)
    by_last v words first a p m w b s apart none alone c (hole q i) e =
        let k = m + leading_hole b in
        let parts = total-append c (hole q (i + k) ∷ []) in let parts2 = ap total e ∙ total-append c (hole q i ∷ []) in
        record {
          earlier = c ++ hole q (i + k) ∷ [];
          is = returned-joined (word_at words) (word_at words) (length words) a p m w b (length words) s.spelled apart c q i e
              ∙ ap (λ ts. c ++ joined (hole q i) ts) (joined_beyond p m b) ∙ sym (append_assoc c (hole q (i + k) ∷ []) (beyond b));
          long = omega arith;
          none = none-append v c (hole q (i + k) ∷ []) (none-front v c (hole q i ∷ []) (subst (NoneOf v) e none)) tt;
        }

-- a block of the owner is at the place
pub record Here (words : List ℕ) (w : ℕ) (now : Tiled) (place : ℕ) : Type 0 where
  pub earlier : List Tile
  pub n : ℕ
  pub later : List Tile
  pub is : now.tiles ≡ earlier ++ block place n w ∷ later
  pub sum : place ≡ total earlier
  pub none : NoneOf w earlier

pub found : (words : List ℕ) (w : ℕ) (old now : Tiled) (place first : ℕ) → Closing w old now place → Spells words first (tiles_of words) → seen words ≡ now → place + 4 ≤ length words
    → word_at words place < hole_mark → owner_of (tile_at words place) ≡ w → Here words w now place
found words w old now place first c kept view room small mine =
    let x = there words w old now place first c kept view room in
    by_kind words w now place x.earlier x.tile x.later x.is x.at_place x.sum x.none (tile_told words first x.earlier x.tile x.later (x.spells first kept)) small mine
  where
    by_kind : (words : List ℕ) (w : ℕ) (now : Tiled) (place : ℕ) (a : List Tile) (t : Tile) (b : List Tile) → now.tiles ≡ a ++ t ∷ b → place_of t ≡ place → place ≡ total a → NoneOf w a
        → TileTold words a t b × Marked words t → word_at words place < hole_mark → owner_of (tile_at words place) ≡ w → Here words w now place
    by_kind words w now place a (hole p m) b is at sum none told small mine =
        let marked = told.1 in let same = ap (word_at words) at in absurd (omega arith)
    by_kind words w now place a (block p m x) b is at sum none told small mine =
        let owner : x ≡ w = sym (ap owner_of told.0.tile) ∙ ap (λ (k : ℕ). owner_of (tile_at words k)) at ∙ mine in
        record { earlier = a; n = m; later = b; is = is ∙ ap (λ (k : ℕ × ℕ). a ++ block k.0 m k.1 ∷ b) (λ i. (at i, owner i)); sum = sum; none = none }

pub block_here : (words : List ℕ) (w : ℕ) (now : Tiled) (place : ℕ) → Here words w now place → BlockIn now.tiles place
block_here words w now place h = record { earlier = h.earlier; n = h.n; owner = w; later = h.later; is = h.is }

-- that block comes back
pub gone : (words : List ℕ) (w : ℕ) (old now new : Tiled) (place next first : ℕ) → Closing w old now place → Spells words first (tiles_of words) → seen words ≡ now
    → Here words w now place
    → ((a b : List Tile) (t : Tile) → now.tiles ≡ a ++ t ∷ b → place_of t ≡ place → next ≡ place + length_of t + leading_hole b)
    → new.tiles ≡ put_back place now.tiles → SameWords new.tiles now.words new.words → Closing w old new next
gone words w old now new place next first c kept view h next_is tiles_are words_are =
    let a = h.earlier in let m = h.n in let b = h.later in
    let s = shown words first now (a ++ block place m w ∷ b) kept view h.is in
    let apart : Apart (a ++ block place m w ∷ b) = subst Apart h.is c.apart in
    let shape = after_freed w words first a place m w b s apart h.none in
    let back = tiles_are ∙ ap (put_back place) h.is in
    let n = next_is a b (block place m w) h.is refl in let sum = h.sum in let long = shape.long in
    let freed_is = (freed-at (word_at words) (word_at words) 0 0 (length words) a place m w b (length words) s.spelled).1 in
    let none_there : block_length new.tiles place ≡ 0 = ap (λ ts. block_length ts place) back ∙ length-merged (freed place (a ++ block place m w ∷ b)) place
    ∙ ap (λ ts. block_length ts place) freed_is ∙ (freed_free (word_at words) (word_at words) 0 0 (length words) a place m w b (length words) s.spelled).1 in
    record {
      earlier = shape.earlier;
      later = beyond b;
      is = back ∙ shape.is;
      at_place = omega arith;
      none = shape.none;
      same = ap (closed w) back ∙ let_go-merged w (freed place (a ++ block place m w ∷ b)) ∙ ap (closed w) freed_is ∙ ap merged (let_go-hole w a place m b)
          ∙ ap (closed w) (sym h.is) ∙ c.same;
      apart = subst Apart (sym tiles_are) (merged-apart (freed place now.tiles));
      words = λ q i has. let away : q ≢ place = λ e. let zero = ap (block_length new.tiles) e ∙ none_there in absurd (omega arith) in
          let as_long : block_length new.tiles q ≡ block_length now.tiles q = ap (λ ts. block_length ts q) tiles_are ∙ length-put_back place now.tiles q away in
          words_are q i has ∙ c.words q i (omega arith);
      least = least_words words first (a ++ block place m w ∷ heads b) (beyond b) (subst (λ ts. Spells words first ts)
          (ap (λ ts. a ++ block place m w ∷ ts) (sym (heads_beyond b)) ∙ sym (append_assoc a (block place m w ∷ heads b) (beyond b))) s);
    }

-- so many words were tiled at the beginning
pub record Counted (n : ℕ) (t : Tiled) : Type 0 where
  pub whole : 4 ≤ n → total t.tiles ≡ n
  pub small : n < 4 → t.tiles ≡ []

pub counted : (n : ℕ) (words : List ℕ) (first : ℕ) (t : Tiled) → Spells words first (tiles_of words) → seen words ≡ t → n ≡ length words → Counted n t
counted n words first t kept view e =
    let s = shown words first t t.tiles kept view refl in
    record { whole = λ more. s.whole (omega arith) ∙ sym e; small = λ few. s.small (omega arith) }

same_total : (w : ℕ) (old now : Tiled) (place : ℕ) → Closing w old now place → total now.tiles ≡ total old.tiles
same_total w old now place c = sym (total-closed w now.tiles) ∙ ap total c.same ∙ total-closed w old.tiles

pub place_low : (w : ℕ) (old now : Tiled) (place n : ℕ) → Closing w old now place → Counted n old → place ≤ n
place_low w old now place n c counts =
    let same = same_total w old now place c in let parts = ap total c.is ∙ total-append c.earlier c.later in let at = c.at_place in
    elim (few_or_more n) [
      | inl few ↦ let none = ap total (counts.small few) in omega arith
      | inr more ↦ let whole = counts.whole more in omega arith
    ]

-- all tiles were passed
pub ended : (w : ℕ) (old now : Tiled) (place n : ℕ) → Closing w old now place → Counted n old → n < place + 4 → now.tiles ≡ closed w old.tiles
ended w old now place n c counts past =
    let same = same_total w old now place c in let parts = ap total c.is ∙ total-append c.earlier c.later in let at = c.at_place in
    let few_left : total c.later < 4 = elim (few_or_more n) [
      | inl few ↦ let none = ap total (counts.small few) in omega arith
      | inr more ↦ let whole = counts.whole more in omega arith
    ] in
    let all : NoneOf w now.tiles = subst (NoneOf w) (sym (c.is ∙ ap (λ ts. c.earlier ++ ts) (c.least few_left))) (none-append w c.earlier [] c.none tt) in
    sym (merged-same now.tiles c.apart) ∙ ap merged (sym (none-same w now.tiles all)) ∙ c.same

-- as many are tiled at each tile
pub as_many : (words : List ℕ) (w : ℕ) (old now : Tiled) (place first n : ℕ) → Closing w old now place → Counted n old → Spells words first (tiles_of words) → seen words ≡ now
    → (place + 4 ≤ n → place + 4 ≤ length words) × (n < place + 4 → length words < place + 4)
as_many words w old now place first n c counts kept view =
    let s = shown words first now now.tiles kept view refl in
    let same : total now.tiles ≡ total old.tiles = sym (total-closed w now.tiles) ∙ ap total c.same ∙ total-closed w old.tiles in
    elim (few_or_more n) [
      | inl few ↦ let none = ap total (counts.small few) in
          elim (few_or_more (length words)) [
            | inl small ↦ ((λ room. absurd (omega arith)), (λ past. omega arith))
            | inr more ↦ let whole = s.whole more in absurd (omega arith)
          ]
      | inr more ↦ let whole = counts.whole more in let covers = covered words first now.tiles s (omega arith) in
          let is : n ≡ length words = omega arith in ((λ room. omega arith), (λ past. omega arith))
    ]
