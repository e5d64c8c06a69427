-- Blocks that are held of a pool.
use Rattle.std.specs.Prelude.{◌≢◌, ℕ, ◌+◌, ◌≤◌, List, [], ◌∷◌}
use Rattle.pool_tiles.specs.Tiling.{Tile, block_length}
use Rattle.pool_tests.specs.declared.mixed.Held.{Held}

-- no block that is held stands at the place
abbrev pub NoneAt : ℕ → List Held → Type 0
NoneAt place [] = Unit {0}
NoneAt place (h ∷ hs) = (place ≢ h.place.0) × NoneAt place hs

-- each is a taken block with room for its object, and no two stand at one place
abbrev pub Holds : List Tile → List Held → Type 0
Holds ts [] = Unit {0}
Holds ts (h ∷ hs) = (h.words + 4 ≤ block_length ts h.place.0) × NoneAt h.place.0 hs × Holds ts hs
