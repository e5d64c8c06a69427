-- The runner's choices: storage is refused where a pool has no room for it, or where it is the one request that is to be refused; and of the
-- members of a collection the newest is taken (4.8, 13.11).

use Rattle.std.specs.Prelude.{◌≡◌, ℕ, ◌-◌, ◌==◌, nat_lt, Bool, true, false, if◌then◌else◌, List, [], ◌∷◌, ◌++◌, take, Option, Some, None}
use Rattle.std.specs.List.{slice_index_or, slice_set}
use Rattle.pool_tiles.specs.Tiling.{Tile, new_tiling, block_words, fit, put_back}
use Rattle.ada_meaning.specs.declared.state.Value.{Value}
use Rattle.ada_meaning.specs.declared.state.Value.TheVariants.{Null, Names, Scalar, Part}
use Rattle.ada_meaning.specs.Event.{Request as RequestOver, Allocate, Open, GiveBack, Close, New, Gone}
use Rattle.ada_pools.specs.declared.held.Block.{Block}
use Rattle.ada_pools.specs.Entries.{updated}

-- A request over names.
abbrev pub Request : Type 0
Request = RequestOver Value

-- What the runner's answers depend on.
pub record Runner : Type 0 where
  -- how many requests for storage it is until the one that is refused; 0 where none will be
  pub until : ℕ
  -- the sizes in words of the pools that the program declares, by the numbers of their declarations
  pub sizes : List ℕ
  -- the holes and blocks of each pool that exists, the standard pool's first
  pub tilings : List (List Tile)
  -- where the block of an object begins, by the object's name
  pub blocks : ℕ → Option Block

-- Before a run the standard pool exists, and no object.
abbrev pub first_runner : (standard refuse : ℕ) → (sizes : List ℕ) → Runner
first_runner standard refuse sizes =
    record { until = refuse; sizes = sizes; tilings = new_tiling standard ∷ []; blocks = λ name. None }

-- A request for storage counts.
abbrev pub counted : Runner → Runner
counted r = record r { until = r.until - 1 }

-- The holes and blocks of a pool: none, where it does not exist.
abbrev pub tiling : ℕ → Runner → List Tile
tiling pool r = slice_index_or r.tilings pool []

-- The block that a request for so many words is granted, and the holes and blocks of its pool then: the first hole that fits, unless this is the
-- request that is refused (11.1, 13.11).
abbrev pub granted : (pool words : ℕ) → Runner → Option (ℕ × List Tile)
granted pool words r = if r.until == 1 then None else fit 0 (block_words words) (tiling pool r)

-- The name that a value is, if it is one.
abbrev pub name_in : Value → Option ℕ
name_in Null = None
name_in (Names object) = Some object.0
name_in (Scalar v) = None
name_in (Part object place) = None

-- The blocks of objects, once the object of a name has another one, or none.
abbrev pub with_block : Option ℕ → Option Block → (ℕ → Option Block) → ℕ → Option Block
with_block None block blocks = blocks
with_block (Some name) block blocks = updated blocks name block

-- The block of the object of a name.
abbrev pub block_of : Option ℕ → Runner → Option Block
block_of None r = None
block_of (Some name) r = r.blocks name

-- An allocator gets the block for its object; or its request is refused (4.8, 13.11).
abbrev pub allocated : (pool : ℕ) (object : Value) → Option (ℕ × List Tile) → Runner → Bool × Runner
allocated pool object None r = (false, r)
allocated pool object (Some found) r = (
  true,
  record r {
    tilings = slice_set r.tilings pool found.1;
    blocks = with_block (name_in object) (Some (record { pool = pool; place = found.0 })) r.blocks;
  },
)

-- The block of an object goes back to its pool (13.11.2).
abbrev pub given_back : (object : Value) → Option Block → Runner → Runner
given_back object None r = r
given_back object (Some b) r = record r {
  tilings = slice_set r.tilings b.pool (put_back b.place (tiling b.pool r));
  blocks = with_block (name_in object) None r.blocks;
}

-- A declared pool begins: one hole of its size (13.11).
abbrev pub begun : (declaration : ℕ) → Runner → Runner
begun declaration r = record r { tilings = r.tilings ++ new_tiling (slice_index_or r.sizes declaration 0) ∷ [] }

-- A block, if its pool has a smaller number.
abbrev pub below : (pool : ℕ) → Option Block → Option Block
below pool None = None
below pool (Some b) = if nat_lt b.pool pool then Some b else None

-- The newest pool is gone, with all its blocks (13.11).
abbrev pub gone : (pool : ℕ) → Runner → Runner
gone pool r = record r { tilings = take pool r.tilings; blocks = λ name. below pool (r.blocks name) }

-- The answer to a request, and what the next answers depend on. What is only told is granted; no pool has subpools yet, so none is opened.
abbrev pub answer_to : Request → Runner → Bool × Runner
answer_to (Allocate pool owner words object) r = allocated pool object (granted pool words r) (counted r)
answer_to (Open pool owner) r = (false, counted r)
answer_to (GiveBack object) r = (true, given_back object (block_of (name_in object) r) r)
answer_to (Close pool owner) r = (true, r)
answer_to (New pool declaration) r = (true, begun declaration r)
answer_to (Gone pool) r = (true, gone pool r)

-- The runner answers a request so.
abbrev pub Grants : Runner → Request → Bool → Runner → Type 0
Grants before request answer after = answer_to request before ≡ (answer, after)

-- The runner takes the newest member (7.6.1).
abbrev pub Picks : Runner → ℕ → Runner → Type 0
Picks before i after = (i ≡ 0) × (after ≡ before)
