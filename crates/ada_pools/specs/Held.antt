-- The pools that exist, as the runner's choices hold them: their holes and blocks, and whose blocks these are.

use Rattle.std.specs.Prelude.{◌≡◌, ℕ, ◌^◌, ◌<◌, ◌==◌, Bool, false, if◌then◌else◌, List, [], Option, Some, None}
use Rattle.std.specs.List.{slice_get, slice_set}
use Rattle.pool_tiles.specs.Tiling.{Tile, new_tiling, block_words, fit, put_back, IsTaken}
use Rattle.pool_tiles.specs.Headers.{total}
use Rattle.ada_pools.specs.declared.held.Block.{Block}
use Rattle.ada_pools.specs.Entries.{entries_of, updated}

-- A pool: its holes and blocks, and the object whose block begins at a place, by that place.
pub record Held : Type 0 where
  pub tiles : List Tile
  pub objects : List (Option ℕ)

-- A new pool of so many words has no block.
abbrev pub new_pool : ℕ → Held
new_pool words = record { tiles = new_tiling words; objects = [] }

-- Where an object's block is said to begin, a block begins; and there are no more words than a pool may have.
pub record IsSound (tiles : List Tile) (objects : List (Option ℕ)) : Type 0 where
  pub taken : (place object : ℕ) → entries_of objects place ≡ Some object → IsTaken tiles place
  pub few : total tiles < 2 ^ 32

-- Is this the object?
abbrev pub is_of : ℕ → Option ℕ → Bool
is_of object None = false
is_of object (Some other) = other == object

-- A block of so many words is taken for an object, at a place where none began; or the pool has no room and stays as it is.
abbrev pub TakesBlock : (words object : ℕ) → Held → Option ℕ → Held → Type 0
TakesBlock words object before None after = (fit 0 (block_words words) before.tiles ≡ None) × (after ≡ before)
TakesBlock words object before (Some place) after =
    (fit 0 (block_words words) before.tiles ≡ Some (place, after.tiles))
    × (entries_of before.objects place ≡ None)
    × (entries_of after.objects ≡ updated (entries_of before.objects) place (Some object))

-- A pool once the block at a place is put back, if it is this object's.
abbrev pub put_back_of : (object place : ℕ) → Held → Held
put_back_of object place pool =
    if is_of object (entries_of pool.objects place)
    then record { tiles = put_back place pool.tiles; objects = slice_set pool.objects place None }
    else pool

-- The pools once one of them is changed, if it exists.
abbrev pub changed_pool : (Held → Held) → ℕ → Option Held → List Held → List Held
changed_pool change pool None pools = pools
changed_pool change pool (Some held) pools = slice_set pools pool (change held)

-- The pools once an object's block is put back.
abbrev pub all_put_back : (object : ℕ) → Option Block → List Held → List Held
all_put_back object None pools = pools
all_put_back object (Some b) pools = changed_pool (put_back_of object b.place) b.pool (slice_get pools b.pool) pools

-- A block is taken in a pool that exists, or none is; the other pools stay as they are.
abbrev pub TakesIn : (pool words object : ℕ) → List Held → Option Held → Option ℕ → List Held → Type 0
TakesIn pool words object before None None after = after ≡ before
TakesIn pool words object before None (Some place) after = ⊥
TakesIn pool words object before (Some held) place after =
    (changed : Held) × TakesBlock words object held place changed × (after ≡ slice_set before pool changed)

-- Whose block begins at a place of a pool.
abbrev pub object_of : Option Held → ℕ → Option ℕ
object_of None place = None
object_of (Some held) place = entries_of held.objects place

-- Whose block begins at a place of one of these pools.
abbrev pub object_at : List Held → (pool place : ℕ) → Option ℕ
object_at pools pool place = object_of (slice_get pools pool) place

-- A block that was an object's is its block still if it begins where that object's does.
abbrev pub still : List Held → ℕ → Option Block → Option Block
still pools object None = None
still pools object (Some b) = if is_of object (object_at pools b.pool b.place) then Some b else None
