-- A tiling and the words below it, as the steps on it see them.
use Rattle.std.specs.Prelude.{◌≡◌, ℕ, ◌+◌, ◌<◌, ◌≤◌, List, [], ◌∷◌, ◌++◌, slice_index}
use Rattle.pool_tiles.specs.Tiling.{Tile, hole, block, place_of, HasWord}

-- the tiles, and all words of the pool
pub record Tiled : Type 0 where
  pub tiles : List Tile
  pub words : List ℕ

-- a hole of n words is at the place
pub record HoleIn (ts : List Tile) (place : ℕ) : Type 0 where
  pub earlier : List Tile
  pub n : ℕ
  pub later : List Tile
  pub is : ts ≡ earlier ++ hole place n ∷ later

-- a block is at the place
pub record BlockIn (ts : List Tile) (place : ℕ) : Type 0 where
  pub earlier : List Tile
  pub n : ℕ
  pub owner : ℕ
  pub later : List Tile
  pub is : ts ≡ earlier ++ block place n owner ∷ later

-- a hole or a block is at the place
pub record TileIn (ts : List Tile) (place : ℕ) : Type 0 where
  pub earlier : List Tile
  pub tile : Tile
  pub later : List Tile
  pub is : ts ≡ earlier ++ tile ∷ later
  pub at_place : place_of tile ≡ place

-- the length of the hole that the tiles begin with, or else 0
abbrev pub leading_hole : List Tile → ℕ
leading_hole [] = 0
leading_hole (hole place n ∷ ts) = n
leading_hole (block place n owner ∷ ts) = 0

-- a hole of at least so many words is at the place
pub record RoomIn (wanted : ℕ) (ts : List Tile) (place : ℕ) : Type 0 where
  pub earlier : List Tile
  pub n : ℕ
  pub later : List Tile
  pub is : ts ≡ earlier ++ hole place n ∷ later
  pub long : wanted ≤ n

-- no hole has so many words
abbrev pub AllShorter : ℕ → List Tile → Type 0
AllShorter wanted [] = Unit {0}
AllShorter wanted (hole place n ∷ ts) = (n < wanted) × AllShorter wanted ts
AllShorter wanted (block place n owner ∷ ts) = AllShorter wanted ts

-- the first hole that has them is at the place
pub record IsFirstFit (wanted : ℕ) (ts : List Tile) (place : ℕ) : Type 0 where
  pub earlier : List Tile
  pub n : ℕ
  pub later : List Tile
  pub is : ts ≡ earlier ++ hole place n ∷ later
  pub long : wanted ≤ n
  pub first : AllShorter wanted earlier

-- the word with this index, of the user's words of the block at the place, which come after its first two
abbrev pub user_word : List ℕ → ℕ → ℕ → ℕ
user_word words place i = slice_index words (place + 2 + i)

-- the user's words of these tiles' blocks are in both
abbrev pub SameWords : List Tile → List ℕ → List ℕ → Type 0
SameWords ts old new = (place i : ℕ) → HasWord ts place i → user_word new place i ≡ user_word old place i
