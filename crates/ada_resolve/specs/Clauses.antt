-- Attribute clauses: what is wrong with each, and what is known after it.

use Rattle.std.specs.Prelude.{ℕ, if◌then◌else◌, List, Option, Some, None, is_some, slice_get, slice_set}
use Rattle.ada_text.specs.declared.spot.Spot.{Spot}
use Rattle.ada_tree.specs.Declarations.{SizeTree, number_size, named_size}
use Rattle.ada_tree.specs.Names.{Ident}
use Rattle.ada_program.specs.ProgramForm.{TypeForm, record_of, access_to, object_of}
use Rattle.ada_program.specs.declared.program.PoolNo.{PoolNo}
use Rattle.ada_program.specs.declared.program.TypeNo.{TypeNo}
use Rattle.ada_resolve.specs.declared.fault.NameRule.TheVariants.{WrongType, NotInProfile, Layout}
use Rattle.ada_resolve.specs.declared.scope.Entity.{Entity}
use Rattle.ada_resolve.specs.declared.scope.Entity.TheVariants as entity
use Rattle.ada_resolve.specs.Instances.{access_type_in, is_among, own_type}
use Rattle.ada_resolve.specs.Known.{Known, name_remark, type_begins, visible}
use Rattle.ada_resolve.specs.Pools.{is_storage_pool, pool_found, pool_name_remark}
use Rattle.ada_resolve.specs.Remark.{Remark, fine, wrong, ◌also◌, wrong_if}

-- An access type is wanted (13.11): another thing of that name is of the wrong kind (8.6).
abbrev pub clause_type_wanted : Option Entity → Spot → Remark
clause_type_wanted (Some (entity.Access t)) spot = fine
clause_type_wanted (Some other) spot = wrong spot WrongType
clause_type_wanted None spot = fine

-- The declared pool of an access type (13.11), where an aspect or a clause names one.
abbrev pub pool_by : Option TypeForm → Option ℕ
pool_by (Some (access_to name designated pool)) = pool
pool_by (Some (record_of name parts components finalization)) = None
pool_by (Some (object_of record_type)) = None
pool_by None = None

-- The declared pool of the access type of a number.
unfoldable pub pool_of : List TypeForm → ℕ → Option ℕ
pool_of types access = pool_by (slice_get types access)

-- The pool of a type is named once, by an aspect or by a clause (13.1).
abbrev pub no_pool_yet : Option TypeNo → List TypeForm → Spot → Remark
no_pool_yet (Some t) types spot = wrong_if (is_some (pool_of types t.0)) spot Layout
no_pool_yet None types spot = fine

-- A clause stands before the instances that freeze its type (13.14).
abbrev pub not_frozen : Option TypeNo → List ℕ → Spot → Remark
not_frozen (Some t) frozen spot = wrong_if (is_among t.0 frozen) spot Layout
not_frozen None frozen spot = fine

-- What is wrong with the place of a clause, which begins at the spot: it stands in the part of its type (the profile's), is the only one that names its
-- pool, and comes before what freezes it.
abbrev pub clause_place_remark : Known → Option TypeNo → Spot → Remark
clause_place_remark known access spot =
    own_type access known.here.first_type spot also no_pool_yet access known.types spot also not_frozen access known.frozen spot

-- What is wrong with what is given for Storage_Pool: a number is no pool (13.11).
abbrev pub clause_value_remark : Known → SizeTree → Remark
clause_value_remark known (number_size spot n) = wrong spot WrongType
clause_value_remark known (named_size name) = pool_name_remark known name

-- `for A'Storage_Pool use P;` (13.11), behind the name of its type: an access type, the place of the clause, and a pool.
abbrev pub storage_remark : Known → Spot → Ident → SizeTree → Remark
storage_remark known spot name value =
    clause_type_wanted (visible known name.text) name.spot also
    clause_place_remark known (access_type_in (visible known name.text)) spot also
    clause_value_remark known value

-- What is wrong with a clause (13.3): it is a node of the source before the objects, its name stands for something, and its attribute is Storage_Pool;
-- others are not in the profile yet.
abbrev pub clause_remark : Known → Spot → Ident → Ident → SizeTree → Remark
clause_remark known spot name attribute value =
    type_begins known spot also
    name_remark known name also
    (if is_storage_pool attribute then storage_remark known spot name value else wrong name.spot NotInProfile)

-- The pool that a clause gives, or `None` where something is wrong.
abbrev pub clause_pool : Known → SizeTree → Option PoolNo
clause_pool known (number_size spot n) = None
clause_pool known (named_size name) = pool_found known name

-- The types once the objects of the access type of a number, where it is one, go to a pool.
abbrev pub placed_by : Option TypeForm → (pool : ℕ) → List TypeForm → ℕ → List TypeForm
placed_by (Some (access_to name designated before)) pool types access = slice_set types access (access_to name designated (Some pool))
placed_by (Some (record_of name parts components finalization)) pool types access = types
placed_by (Some (object_of record_type)) pool types access = types
placed_by None pool types access = types

-- The types once an access type is on a pool.
unfoldable pub placed : (pool : ℕ) → List TypeForm → (access : ℕ) → List TypeForm
placed pool types access = placed_by (slice_get types access) pool types access

-- What is known once the objects of an access type go to a pool (13.11).
abbrev pub with_placed : TypeNo → PoolNo → Known → Known
with_placed access pool known = record known { types = placed pool.0 known.types access.0 }

-- After a clause the type is on the pool, where both are known.
abbrev pub placed_if : Option TypeNo → Option PoolNo → Known → Known
placed_if (Some access) (Some pool) known = with_placed access pool known
placed_if (Some access) None known = known
placed_if None pool known = known

-- What is known after a clause.
abbrev pub clause_known : Known → Ident → SizeTree → Known
clause_known known name value = placed_if (access_type_in (visible known name.text)) (clause_pool known value) known
