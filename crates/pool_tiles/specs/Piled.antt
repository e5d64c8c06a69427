-- Blocks side by side from the front, with one hole behind them.
use Rattle.std.specs.Prelude.{◌≡◌, ◌≢◌, ℕ, ◌+◌, ◌-◌, ◌*◌, ◌^◌, ◌<◌, ◌≤◌, nat_lt, if◌then◌else◌, List, [], ◌∷◌, ◌++◌, length, slice_index}
use Rattle.pool_tiles.specs.Tiling.{Tile, hole, block, rest_hole}
use Rattle.pool_tiles.specs.Headers.{total, owner_unit, owner_limit, tiles_from}

-- the blocks, in order of place, and all words of the pool
pub record Pile : Type 0 where
  pub blocks : List Tile
  pub words : List ℕ

-- the hole behind the blocks, of a pool of n words; one that has not the words of a header has none
abbrev pub last_hole : ℕ → ℕ → List Tile
last_hole n cursor = if nat_lt n 4 then [] else rest_hole cursor (n - cursor)

-- the tiling: the blocks, and the hole
abbrev pub pile_tiles : Pile → List Tile
pile_tiles p = p.blocks ++ last_hole (length p.words) (total p.blocks)

-- the blocks in the words below the cursor
unfoldable pub blocks_of : ℕ → List ℕ → List Tile
blocks_of cursor words = tiles_from cursor 0 cursor words

-- the words r hold the headers of these blocks, from one place up to another
abbrev pub Stacked : (ℕ → ℕ) → ℕ → List Tile → ℕ → Type 0
Stacked r at [] end = at ≡ end
Stacked r at (hole place n ∷ ts) end = ⊥
Stacked r at (block place n owner ∷ ts) end =
    (place ≡ at) × (4 ≤ n) × (owner < owner_limit) × (r place ≡ n + owner * owner_unit) × Stacked r (place + n) ts end

-- these blocks lie below the cursor, which is within the words
pub record Piles (words : List ℕ) (cursor : ℕ) (blocks : List Tile) : Type 0 where
  pub stacked : Stacked (λ k. slice_index words k) 0 blocks cursor
  pub within : cursor ≤ length words
  pub few : length words < 2 ^ 32

-- no block of the owner
abbrev pub NoneOf : ℕ → List Tile → Type 0
NoneOf owner [] = Unit {0}
NoneOf owner (hole place n ∷ ts) = NoneOf owner ts
NoneOf owner (block place n other ∷ ts) = (other ≢ owner) × NoneOf owner ts

-- no block of another owner
abbrev pub OnlyOf : ℕ → List Tile → Type 0
OnlyOf owner [] = Unit {0}
OnlyOf owner (hole place n ∷ ts) = OnlyOf owner ts
OnlyOf owner (block place n other ∷ ts) = (other ≡ owner) × OnlyOf owner ts

-- the blocks from the place on are the owner's, and those before it are not
pub record OwnsFrom (owner place : ℕ) (blocks : List Tile) : Type 0 where
  pub earlier : List Tile
  pub later : List Tile
  pub is : blocks ≡ earlier ++ later
  pub sum : total earlier ≡ place
  pub none : NoneOf owner earlier
  pub only : OnlyOf owner later
