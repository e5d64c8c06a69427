-- The marks of a mark and release pool, and the blocks below and above them.
use Rattle.std.specs.Prelude.{◌≡◌, ℕ, suc, List, [], ◌∷◌, ◌++◌, length}
use Rattle.pool_tiles.specs.Tiling.{Tile}
use Rattle.pool_tiles.specs.Headers.{total}
use Rattle.pool_tiles.specs.Piled.{Pile, OnlyOf}

-- the blocks in a pile, and the open marks, oldest first
pub record MarkedPile : Type 0 where
  pub pile : Pile
  pub marks : List ℕ

-- The blocks from the newest mark on are the newest owner's, those below it belong to the marks before; without a mark there is no block.
abbrev pub Marked : List ℕ → List Tile → Type 0
Marked [] blocks = blocks ≡ []
Marked (mark ∷ older) blocks =
    (below : List Tile) × (above : List Tile) × (blocks ≡ below ++ above) × (total below ≡ mark) × OnlyOf (suc (length older)) above × Marked older below

-- the open subpools of a tiling, in increasing order
pub record Subpools : Type 0 where
  pub tiles : List Tile
  pub words : List ℕ
  pub owners : List ℕ
