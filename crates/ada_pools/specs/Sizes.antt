-- The sizes that a run is given for declared pools.

use Rattle.std.specs.Prelude.{ℕ, Bool, if◌then◌else◌, List, [], ◌∷◌, map}
use Rattle.std.specs.List.{list_any, list_all}
use Rattle.std.specs.Str.{str_eq_ignore_ascii_case}
use Rattle.std.specs.String.{string_bytes}
use Rattle.ada_program.specs.declared.program.Pool.{Pool}
use Rattle.ada_program.specs.declared.program.Program.{Program}
use Rattle.ada_pools.specs.declared.sizes.PoolSize.{PoolSize}

-- Is a size given for this pool? It is for each pool of its name, in upper or lower case (2.3).
abbrev pub is_for : Pool → PoolSize → Bool
is_for pool size = str_eq_ignore_ascii_case (string_bytes size.name) (string_bytes pool.name)

-- The size that is given for a pool, the last of them where there are more; so far it is this one.
abbrev pub size_among : Pool → List PoolSize → (so_far : ℕ) → ℕ
size_among pool [] so_far = so_far
size_among pool (size ∷ sizes) so_far = size_among pool sizes (if is_for pool size then size.words else so_far)

-- The size of a declared pool: the one that is given for it, or else that of its declaration (13.11).
abbrev pub size_of : List PoolSize → Pool → ℕ
size_of sizes pool = size_among pool sizes pool.words

-- The sizes of all pools that a program declares, by number.
abbrev pub sizes_of : Program → List PoolSize → List ℕ
sizes_of program sizes = map (size_of sizes) program.pools.items

-- Is a size given for one of these pools?
abbrev pub is_for_some : List Pool → PoolSize → Bool
is_for_some pools size = list_any (λ pool. is_for pool size) pools

-- Is each of these sizes given for some pool that the program declares?
abbrev pub all_for_pools : Program → List PoolSize → Bool
all_for_pools program sizes = list_all (is_for_some program.pools.items) sizes
