-- What a tile's header tells.
use Rattle.std.proofs.Common.{◌≡◌, ℕ, ◌+◌, ◌*◌, ◌≤◌, ◌<◌, ◌^◌, Bool, List, [], ◌∷◌, ◌++◌, length, append_assoc, sym, ap, ◌∙◌, subst, arith, inl, inr}
use Rattle.std.specs.Prelude.{nat_lt, if◌then◌else◌}
use Rattle.std.proofs.lemmas.Bool.{lt-ltb, le-ltb}
use Rattle.pool_tiles.specs.Tiling.{Tile, hole, block, length_of}
use Rattle.pool_tiles.specs.Headers.{first_or, last_or, tile_before, total, hole_mark, owner_unit, owner_limit, Spelled, word_at, tile_at, tiles_of, Spells}
use Rattle.pool_tiles.specs.Tiled.{Tiled, HoleIn, BlockIn}
use Rattle.pool_tiles.proofs.Spelling.{front_part, back_part, total-append}
use Rattle.pool_tiles.proofs.Linking.{zero_or_more, holes, first_or-blocks, last_or-blocks, first_within, last_within}
use Rattle.pool_tiles.proofs.Reading.{hole_read, block_read}
use Rattle.pool_tiles.proofs.Done.{covered}

pub record HoleTold (words : List ℕ) (a : List Tile) (p m : ℕ) (b : List Tile) : Type 0 where
  pub inside : p + m + total b ≡ length words
  pub long : 4 ≤ m
  pub few : length words < 2 ^ 32
  pub place_is : p ≡ total a
  pub size : word_at words p ≡ m + hole_mark
  pub read : length_of (tile_at words p) ≡ m
  pub before : word_at words (p + 1) ≡ tile_before 0 a
  pub next : word_at words (p + 2) ≡ first_or b (length words)
  pub next_inside : first_or b (length words) ≤ length words
  pub next_later : p + m ≤ first_or b (length words)
  pub previous : word_at words (p + 3) ≡ last_or (length words) a
  pub previous_inside : last_or (length words) a ≤ length words

pub record BlockTold (words : List ℕ) (a : List Tile) (p m : ℕ) (b : List Tile) : Type 0 where
  pub inside : p + m + total b ≡ length words
  pub long : 4 ≤ m
  pub few : length words < 2 ^ 32
  pub place_is : p ≡ total a
  pub small : word_at words p < hole_mark
  pub read : length_of (tile_at words p) ≡ m
  pub before : word_at words (p + 1) ≡ tile_before 0 a
  pub next_inside : first_or b (length words) ≤ length words
  pub next_later : p + m ≤ first_or b (length words)
  pub previous_inside : last_or (length words) a ≤ length words

first_inside : (r o : ℕ → ℕ) (at back prev n : ℕ) (b : List Tile) → Spelled r o at back prev b n → at + total b ≤ n → (first_or b n ≤ n) × (at ≤ first_or b n)
first_inside r o at back prev n b s fits =
    elim (zero_or_more (holes b)) [
      | inl none ↦ let same = first_or-blocks b n none in (omega arith, omega arith)
      | inr some ↦ let within = first_within r o at back prev b n s some in (omega arith, omega arith)
    ]

last_inside : (r o : ℕ → ℕ) (n : ℕ) (a : List Tile) (next : ℕ) → Spelled r o 0 0 n a next → total a ≤ n → last_or n a ≤ n
last_inside r o n a next s fits =
    elim (zero_or_more (holes a)) [
      | inl none ↦ let same = last_or-blocks a n none in omega arith
      | inr some ↦ let within = last_within r o 0 0 n a next s some in omega arith
    ]

pub hole_told : (words : List ℕ) (first : ℕ) (a : List Tile) (p m : ℕ) (b : List Tile) → Spells words first (a ++ hole p m ∷ b) → HoleTold words a p m b
hole_told words first a p m b s =
    let r = word_at words in let n = length words in
    let front = front_part r r 0 0 n a (hole p m ∷ b) n s.spelled in
    let here = back_part r r 0 0 n a (hole p m ∷ b) n s.spelled in
    let place : p ≡ 0 + total a = here.0 in
    let long : 4 ≤ m = here.1.long in
    let parts = total-append a (hole p m ∷ b) in
    let some : 0 < total (a ++ hole p m ∷ b) = omega arith in
    let whole = covered words first (a ++ hole p m ∷ b) s some in
    let few = s.few in
    let ahead = first_inside r r (p + m) p p n b here.2 (omega arith) in
    record {
      inside = omega arith;
      long = long;
      few = few;
      place_is = omega arith;
      size = here.1.size;
      read = ap length_of (hole_read words p m here.1.size);
      before = here.1.before;
      next = here.1.next_is;
      next_inside = ahead.0;
      next_later = ahead.1;
      previous = here.1.prev_is;
      previous_inside = last_inside r r n a p front (omega arith);
    }

-- the first word of a block has not the mark of a hole
block_small : (m w word : ℕ) → word ≡ m + w * owner_unit → m < owner_unit → w < owner_limit → word < hole_mark
block_small m w word e low owned = omega arith

pub block_told : (words : List ℕ) (first : ℕ) (a : List Tile) (p m w : ℕ) (b : List Tile) → Spells words first (a ++ block p m w ∷ b) → BlockTold words a p m b
block_told words first a p m w b s =
    let r = word_at words in let n = length words in
    let front = front_part r r 0 0 n a (block p m w ∷ b) n s.spelled in
    let here = back_part r r 0 0 n a (block p m w ∷ b) n s.spelled in
    let place : p ≡ 0 + total a = here.0 in
    let long : 4 ≤ m = here.1.long in
    let parts = total-append a (block p m w ∷ b) in
    let some : 0 < total (a ++ block p m w ∷ b) = omega arith in
    let whole = covered words first (a ++ block p m w ∷ b) s some in
    let few = s.few in
    let ahead = first_inside r r (p + m) p (last_or n a) n b here.2 (omega arith) in
    record {
      inside = omega arith;
      long = long;
      few = few;
      place_is = omega arith;
      small = block_small m w (word_at words p) here.1.size (omega arith) here.1.owned;
      read = ap length_of (block_read words p m w here.1.size (omega arith) here.1.owned);
      before = here.1.before;
      next_inside = ahead.0;
      next_later = ahead.1;
      previous_inside = last_inside r r n a (first_or b n) front (omega arith);
    }

-- the pool whose words these are
abbrev pub seen : List ℕ → Tiled
seen words = record { tiles = tiles_of words; words = words }

pub shown : (words : List ℕ) (first : ℕ) (t : Tiled) (ts : List Tile) → Spells words first (tiles_of words) → seen words ≡ t → t.tiles ≡ ts → Spells words first ts
shown words first t ts kept view e = subst (λ us. Spells words first us) (ap (λ (u : Tiled). u.tiles) view ∙ e) kept

pub hole_seen : (words : List ℕ) (first : ℕ) (t : Tiled) (place : ℕ) → Spells words first (tiles_of words) → seen words ≡ t → (h : HoleIn t.tiles place)
    → HoleTold words h.earlier place h.n h.later
hole_seen words first t place kept view h =
    hole_told words first h.earlier place h.n h.later (shown words first t (h.earlier ++ hole place h.n ∷ h.later) kept view h.is)

pub block_seen : (words : List ℕ) (first : ℕ) (t : Tiled) (place : ℕ) → Spells words first (tiles_of words) → seen words ≡ t → (h : BlockIn t.tiles place)
    → BlockTold words h.earlier place h.n h.later
block_seen words first t place kept view h =
    block_told words first h.earlier place h.n h.owner h.later (shown words first t (h.earlier ++ block place h.n h.owner ∷ h.later) kept view h.is)

-- two holes side by side
pub record PairTold (words : List ℕ) (a : List Tile) (p n u m : ℕ) (b : List Tile) : Type 0 where
  pub inside : p + n + m + total b ≡ length words
  pub long : 4 ≤ n
  pub long_too : 4 ≤ m
  pub few : length words < 2 ^ 32
  pub read : length_of (tile_at words p) ≡ n
  pub right : u ≡ p + n
  pub read_at : (k : ℕ) → k ≡ p + n → length_of (tile_at words k) ≡ m
  pub next_at : (k : ℕ) → k ≡ p + n → word_at words (k + 2) ≡ first_or b (length words)
  pub next_inside : first_or b (length words) ≤ length words

pub hole_pair : (words : List ℕ) (first : ℕ) (t : Tiled) (place : ℕ) → Spells words first (tiles_of words) → seen words ≡ t
    → (a b : List Tile) (n u m : ℕ) → t.tiles ≡ a ++ hole place n ∷ hole u m ∷ b → PairTold words a place n u m b
hole_pair words first t place kept view a b n u m is =
    let s = shown words first t (a ++ hole place n ∷ hole u m ∷ b) kept view is in
    let left = hole_told words first a place n (hole u m ∷ b) s in
    let far = hole_told words first (a ++ hole place n ∷ []) u m b (subst (λ ts. Spells words first ts) (sym (append_assoc a (hole place n ∷ []) (hole u m ∷ b))) s) in
    let placed = far.place_is in let parts = total-append a (hole place n ∷ []) in let here = left.place_is in
    let right : u ≡ place + n = omega arith in
    let long = left.long in let far_inside = far.inside in let far_long = far.long in
    record {
      inside = omega arith;
      long = long;
      long_too = far_long;
      few = left.few;
      read = left.read;
      right = right;
      read_at = λ k e. ap (λ (i : ℕ). length_of (tile_at words i)) (e ∙ sym right) ∙ far.read;
      next_at = λ k e. ap (λ (i : ℕ). word_at words (i + 2)) (e ∙ sym right) ∙ far.next;
      next_inside = far.next_inside;
    }

-- the place that the list begins at, by the branch that chose it
pub chose_old : (previous n old new chosen : ℕ) → previous < n → chosen ≡ old → chosen ≡ (if nat_lt previous n then old else new)
chose_old previous n old new chosen less e = e ∙ sym (ap (λ (b : Bool). if b then old else new) (lt-ltb previous n less))

pub chose_new : (previous n old new chosen : ℕ) → n ≤ previous → chosen ≡ new → chosen ≡ (if nat_lt previous n then old else new)
chose_new previous n old new chosen past e = e ∙ sym (ap (λ (b : Bool). if b then old else new) (le-ltb previous n past))
