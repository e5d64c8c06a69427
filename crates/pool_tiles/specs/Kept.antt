-- What a call does to blocks and to their users' words.
use Rattle.std.specs.Prelude.{◌≡◌, ℕ, List}
use Rattle.pool_tiles.specs.Tiling.{Tile, block_length, block_owner, IsTaken, HasWord}

-- each block of the old tiles that P speaks of is among the new ones, as long and of the same owner
abbrev pub KeepsBlocks : (ℕ → Type 0) → List Tile → List Tile → Type 0
KeepsBlocks P old new = (place : ℕ) → IsTaken old place → P place
    → (block_length new place ≡ block_length old place) × (block_owner new place ≡ block_owner old place)

-- each user's word of these tiles that P speaks of, by its block and its index, is as it was
abbrev pub KeepsWords : (ℕ → ℕ → Type 0) → List Tile → (ℕ → ℕ → ℕ) → (ℕ → ℕ → ℕ) → Type 0
KeepsWords P ts old new = (place i : ℕ) → HasWord ts place i → P place i → new place i ≡ old place i

-- the user's words of the block are 0
abbrev pub ZeroWords : List Tile → (ℕ → ℕ → ℕ) → ℕ → Type 0
ZeroWords ts new place = (i : ℕ) → HasWord ts place i → new place i ≡ 0
