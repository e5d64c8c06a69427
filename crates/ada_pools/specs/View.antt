-- What the runner's choices hold, seen as what their answers depend on.

use Rattle.std.specs.Prelude.{ℕ, nat_eq, List, map, Option}
use Rattle.std.specs.HashMap.{get}
use Rattle.pool_tiles.specs.Tiling.{Tile}
use Rattle.ada_pools.specs.declared.choices.PoolChoices.{PoolChoices}
use Rattle.ada_pools.specs.declared.held.Block.{Block}
use Rattle.ada_pools.specs.Held.{Held, still}
use Rattle.ada_pools.specs.Runner.{Runner}

-- The holes and blocks of a pool.
abbrev pub tiles_of : Held → List Tile
tiles_of held = held.tiles

-- The blocks of objects: each has the one that it was given, as long as that is its own.
abbrev pub blocks_in : List Held → (ℕ → Option Block) → ℕ → Option Block
blocks_in pools blocks name = still pools name (blocks name)

-- The same of the parts: the requests until the one that is refused, the sizes, the pools that exist, and the blocks that objects were given.
abbrev pub runner_with : ℕ → List ℕ → List Held → (ℕ → Option Block) → Runner
runner_with until sizes pools blocks =
    record { until = until; sizes = sizes; tilings = map tiles_of pools; blocks = blocks_in pools blocks }

-- What the answers of the runner's choices depend on.
abbrev pub runner_of : PoolChoices → Runner
runner_of c = runner_with c.until c.sizes.items c.pools.items (get nat_eq c.blocks)
