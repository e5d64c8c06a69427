-- How the words of a pool spell its tiling. The drawing at the head of the crate shows the header of a tile.
-- A hole that isn't there is named by the number of words; the tile before the first is the first.
use Rattle.std.specs.Prelude.{◌≡◌, ℕ, zero, suc, ◌+◌, ◌-◌, ◌*◌, ◌/◌, ◌%◌, ◌<◌, ◌≤◌, ◌^◌, nat_lt, if◌then◌else◌, List, [], ◌∷◌, length, slice_index}
use Rattle.pool_tiles.specs.Tiling.{Tile, hole, block, length_of}

-- what the first word of a hole has above its length: 2 to the 63rd
abbrev pub hole_mark : ℕ
hole_mark = 9223372036854775808

-- what the first word of a block has above its length, for each 1 of its owner's number: 2 to the 32nd
abbrev pub owner_unit : ℕ
owner_unit = 4294967296

-- owners have smaller numbers: 2 to the 31st
abbrev pub owner_limit : ℕ
owner_limit = 2147483648

-- the first of the holes, or else the one after them
abbrev pub first_or : List Tile → ℕ → ℕ
first_or [] next = next
first_or (hole place n ∷ ts) next = place
first_or (block place n owner ∷ ts) next = first_or ts next

-- the last of the holes, or else the one before them
abbrev pub last_or : ℕ → List Tile → ℕ
last_or prev [] = prev
last_or prev (hole place n ∷ ts) = last_or place ts
last_or prev (block place n owner ∷ ts) = last_or prev ts

-- the place of the last tile, or else of the one before them
abbrev pub tile_before : ℕ → List Tile → ℕ
tile_before back [] = back
tile_before back (hole place n ∷ ts) = tile_before place ts
tile_before back (block place n owner ∷ ts) = tile_before place ts

-- the words of the tiles together
abbrev pub total : List Tile → ℕ
total [] = 0
total (hole place n ∷ ts) = n + total ts
total (block place n owner ∷ ts) = n + total ts

-- the words r begin a hole at the place
pub record HoleHeader (r : ℕ → ℕ) (place n back prev next : ℕ) : Type 0 where
  pub long : 4 ≤ n
  pub size : r place ≡ n + hole_mark
  pub before : r (place + 1) ≡ back
  pub next_is : r (place + 2) ≡ next
  pub prev_is : r (place + 3) ≡ prev

-- they begin a block, whose links and object words are those of o
pub record BlockHeader (r o : ℕ → ℕ) (place n back owner : ℕ) : Type 0 where
  pub long : 4 ≤ n
  pub size : r place ≡ n + owner * owner_unit
  pub before : r (place + 1) ≡ back
  pub owned : owner < owner_limit
  pub own : (k : ℕ) → place + 2 ≤ k → k < place + n → r k ≡ o k

-- they spell the tiles from the place on, after a tile at back and a hole at prev, and before a hole at next
abbrev pub Spelled : (ℕ → ℕ) → (ℕ → ℕ) → ℕ → ℕ → ℕ → List Tile → ℕ → Type 0
Spelled r o at back prev [] next = Unit {0}
Spelled r o at back prev (hole place n ∷ ts) next =
    (place ≡ at) × HoleHeader r place n back prev (first_or ts next) × Spelled r o (place + n) place place ts next
Spelled r o at back prev (block place n owner ∷ ts) next =
    (place ≡ at) × BlockHeader r o place n back owner × Spelled r o (place + n) place prev ts next

-- no two holes are neighbours
abbrev pub Apart : List Tile → Type 0
Apart [] = Unit {0}
Apart (hole place n ∷ hole next m ∷ ts) = ⊥
Apart (hole place n ∷ block next m owner ∷ ts) = Apart (block next m owner ∷ ts)
Apart (hole place n ∷ []) = Unit {0}
Apart (block place n owner ∷ ts) = Apart ts

-- the words at their places
abbrev pub word_at : List ℕ → ℕ → ℕ
word_at words k = slice_index words k

-- the tile whose first word this is
abbrev pub tile_of : ℕ → ℕ → Tile
tile_of at word =
    if nat_lt word hole_mark then block at (word % owner_unit) (word / owner_unit) else hole at (word - hole_mark)

-- the tile whose header is at the place
abbrev pub tile_at : List ℕ → ℕ → Tile
tile_at words at = tile_of at (slice_index words at)

-- the tiles from one place up to another, at most so many
abbrev pub tiles_from : ℕ → ℕ → ℕ → List ℕ → List Tile
tiles_from zero at end words = []
tiles_from (suc most) at end words =
    if nat_lt (at + 3) end then tile_at words at ∷ tiles_from most (at + length_of (tile_at words at)) end words else []

-- the tiles that the words of a pool spell
unfoldable pub tiles_of : List ℕ → List Tile
tiles_of words = tiles_from (length words) 0 (length words) words

-- these tiles are spelled, from the front to the end, and the list of holes begins at first
pub record Spells (words : List ℕ) (first : ℕ) (ts : List Tile) : Type 0 where
  pub spelled : Spelled (word_at words) (word_at words) 0 0 (length words) ts (length words)
  pub whole : 4 ≤ length words → total ts ≡ length words
  pub small : length words < 4 → ts ≡ []
  pub starts : first ≡ first_or ts (length words)
  pub few : length words < 2 ^ 32
