-- Pools: what is wrong with the declaration of each and with each name of one, and what is known after it.

use Rattle.std.specs.Prelude.{ℕ, Bool, ◌&&◌, nat_le, not, if◌then◌else◌, [], ◌∷◌, ◌++◌, length, Option, Some, None, bytes_eq, codes, ℤ, pos, nat_abs, int_le}
use Rattle.ada_text.specs.declared.spot.Spot.{Spot}
use Rattle.ada_tree.specs.Declarations.{AspectTree, SizeTree, number_size, named_size}
use Rattle.ada_tree.specs.Names.{Ident, NameTree}
use Rattle.ada_program.specs.Form.{creates_pool}
use Rattle.ada_program.specs.ProgramForm.{PoolForm}
use Rattle.ada_program.specs.declared.program.PoolNo.{PoolNo}
use Rattle.ada_resolve.specs.declared.fault.NameRule.TheVariants.{WrongType, NotInProfile, Limit}
use Rattle.ada_resolve.specs.declared.library.LibraryName.{LibraryName}
use Rattle.ada_resolve.specs.declared.library.LibraryName.TheVariants.{FirstFitPool}
use Rattle.ada_resolve.specs.declared.scope.Entity.{Entity}
use Rattle.ada_resolve.specs.declared.scope.Entity.TheVariants as entity
use Rattle.ada_resolve.specs.Known.{Known, declared, visible, missing, new_name_remark, library_remark, library_found, type_begins, with_elaborated}
use Rattle.ada_resolve.specs.Library.{is_library_root, no_component_rule}
use Rattle.ada_resolve.specs.Remark.{Remark, fine, wrong, ◌also◌, wrong_if}

-- The most words of a pool.
abbrev pub most_words : ℕ
most_words = 65536

-- Whether a pool may have as many words as a named number says.
abbrev pub is_size : ℤ → Bool
is_size n = int_le (pos 0) n && int_le n (pos most_words)

-- A named number is wanted that a pool may have as its size (3.3.2): another thing of that name is of the wrong kind (8.6).
abbrev pub size_wanted : Option Entity → Ident → Remark
size_wanted (Some (entity.Number n)) name = wrong_if (not (is_size n)) name.spot Limit
size_wanted (Some other) name = wrong name.spot WrongType
size_wanted None name = missing None name

-- What is wrong with the size of a pool (13.11): a number, or the name of one.
abbrev pub size_remark : Known → SizeTree → Remark
size_remark known (number_size spot n) = wrong_if (not (nat_le n most_words)) spot Limit
size_remark known (named_size name) = size_wanted (visible known name.text) name

-- The size that a name stands for; 0 where it stands for none.
abbrev pub size_in : Option Entity → ℕ
size_in (Some (entity.Number n)) = nat_abs n
size_in (Some other) = 0
size_in None = 0

-- The size of a pool in words.
abbrev pub size_value : Known → SizeTree → ℕ
size_value known (number_size spot n) = n
size_value known (named_size name) = size_in (visible known name.text)

-- A pool has one discriminant, Pool_Size (3.7.1, 13.11).
abbrev pub label_remark : Option Ident → Remark
label_remark (Some label) = wrong_if (not (bytes_eq label.text (codes "POOL_SIZE"))) label.spot (no_component_rule label.text)
label_remark None = fine

-- The type of a pool is First_Fit_Pool: another name of the library is of the wrong kind (8.6).
abbrev pub first_fit_wanted : Option LibraryName → Spot → Remark
first_fit_wanted (Some FirstFitPool) spot = fine
first_fit_wanted (Some other) spot = wrong spot WrongType
first_fit_wanted None spot = fine

-- A declared name stands for no pool's type: it is of the wrong kind (8.6).
abbrev pub no_pool_type : Option Entity → Ident → Remark
no_pool_type (Some entity) name = wrong name.spot WrongType
no_pool_type None name = missing None name

-- What is wrong with the name of a pool's type.
unfoldable pub pool_type_remark : Known → NameTree → Remark
pool_type_remark known type_name =
    if is_library_root type_name.first.text
    then library_remark known type_name.first type_name.rest also
    first_fit_wanted (library_found known type_name.first type_name.rest) type_name.first.spot
    else no_pool_type (visible known type_name.first.text) type_name.first

-- `P : Profile_Pools.First_Fit_Pool (Pool_Size => 64);` (13.11): a node of the source before the objects, a new name, a pool's type and a size.
abbrev pub pool_remark : Known → Ident → NameTree → Option Ident → SizeTree → Remark
pool_remark known name type_name label size =
    type_begins known name.spot also
    new_name_remark known name name.spot also
    pool_type_remark known type_name also
    label_remark label also
    size_remark known size

-- The number of the next pool.
abbrev pub next_pool : Known → PoolNo
next_pool known = record { 0 = length known.pools }

-- What is known once there is one more pool.
abbrev pub with_pool : PoolForm → Known → Known
with_pool pool known = record known { pools = known.pools ++ pool ∷ [] }

-- After it the pool is known by its name, and is created there.
abbrev pub pool_known : Known → Ident → SizeTree → Known
pool_known known name size =
    declared
    (with_elaborated (creates_pool (length known.pools) ∷ []) (with_pool (record { name = name.text; words = size_value known size }) known))
    name.text (entity.Pool (next_pool known))

-- The pool that a name stands for.
abbrev pub pool_in : Option Entity → Option PoolNo
pool_in (Some (entity.Pool p)) = Some p
pool_in (Some other) = None
pool_in None = None

-- The pool of a name, or `None` where something is wrong.
unfoldable pub pool_found : Known → Ident → Option PoolNo
pool_found known name = pool_in (visible known name.text)

-- A pool is wanted: another thing of that name is of the wrong kind (8.6).
abbrev pub pool_wanted : Option Entity → Ident → Remark
pool_wanted (Some (entity.Pool p)) name = fine
pool_wanted (Some other) name = wrong name.spot WrongType
pool_wanted None name = missing None name

-- What is wrong with a name where a pool is wanted.
unfoldable pub pool_name_remark : Known → Ident → Remark
pool_name_remark known name = pool_wanted (visible known name.text) name

-- Whether an attribute or an aspect is Storage_Pool (13.11); others are not in the profile yet.
abbrev pub is_storage_pool : Ident → Bool
is_storage_pool name = bytes_eq name.text (codes "STORAGE_POOL")

-- The aspect of an access type names its pool (13.1.1, 13.11).
abbrev pub aspect_remark : Known → Option AspectTree → Remark
aspect_remark known (Some aspect) =
    if is_storage_pool aspect.name then pool_name_remark known aspect.value else wrong aspect.name.spot NotInProfile
aspect_remark known None = fine

-- The pool of an aspect, where one is written.
abbrev pub aspect_found : Known → Option AspectTree → Option PoolNo
aspect_found known (Some aspect) = if is_storage_pool aspect.name then pool_found known aspect.value else None
aspect_found known None = None
