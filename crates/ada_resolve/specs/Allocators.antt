-- Allocators: what is wrong with each, and what it allocates.

use Rattle.std.specs.Prelude.{ℕ, Bool, true, not, if◌then◌else◌, List, Option, Some, None, is_none}
use Rattle.ada_text.specs.declared.spot.Spot.{Spot}
use Rattle.ada_program.specs.Form.{RightForm, allocates, allocates_default}
use Rattle.ada_tree.specs.Names.{Ident}
use Rattle.ada_tree.specs.Expressions.{ItemsTree, no_more_items, an_item}
use Rattle.ada_program.specs.ProgramForm.{TypeForm}
use Rattle.ada_program.specs.declared.program.TypeNo.{TypeNo}
use Rattle.ada_resolve.specs.declared.fault.NameRule.TheVariants.{WrongType, NotInProfile}
use Rattle.ada_resolve.specs.declared.scope.Entity.{Entity}
use Rattle.ada_resolve.specs.declared.scope.Entity.TheVariants as entity
use Rattle.ada_resolve.specs.Controlled.{aggregate_wanted}
use Rattle.ada_resolve.specs.Known.{Known, visible, missing}
use Rattle.ada_resolve.specs.Remark.{Remark, wrong, ◌also◌, wrong_if}
use Rattle.ada_resolve.specs.Expressions.{all_items_remark, filling_of}
use Rattle.ada_resolve.specs.Items.{filled_components, flattened}
use Rattle.ada_resolve.specs.Paths.{components_of}
use Rattle.ada_resolve.specs.Types.{complete_found, designates}

-- An allocator names a complete record type, which the access type that is wanted designates, where that is known (4.8).
abbrev pub designated_if_known : List TypeForm → Option TypeNo → TypeNo → Bool
designated_if_known types (Some access) record_type = designates types access.0 record_type.0
designated_if_known types None record_type = true

-- A complete record type is wanted, and the one that is designated: another thing of that name is of the wrong kind (8.6), and a library unit is so
-- where it is named.
abbrev pub allocated_wanted : Option Entity → List TypeForm → Option TypeNo → Spot → Ident → Remark
allocated_wanted (Some (entity.Record t size)) types access spot name = wrong_if (not (designated_if_known types access t)) spot WrongType
allocated_wanted (Some entity.LibraryUnit) types access spot name = wrong name.spot WrongType
allocated_wanted (Some other) types access spot name = wrong spot WrongType
allocated_wanted None types access spot name = missing None name

-- What is wrong with the type that an allocator names.
unfoldable pub allocated_remark : Known → Option TypeNo → Spot → Ident → Remark
allocated_remark known access spot name = allocated_wanted (visible known name.text) known.types access spot name

-- What is wrong with `new T'(..)`: its type, which has no controlled parts, an item, or how many items there are.
unfoldable pub aggregate_remark : Known → Option TypeNo → Spot → Ident → ItemsTree → Remark
aggregate_remark known access spot type_name items =
    allocated_remark known access spot type_name also
    aggregate_wanted known.types (complete_found known type_name) type_name.spot also
    all_items_remark known (filled_components known (complete_found known type_name)) items type_name.spot

-- The type whose objects a new object joins: the access type that is wanted, where that is known.
abbrev pub wanted_or : Option TypeNo → TypeNo → ℕ
wanted_or (Some access) t = access.0
wanted_or None t = t.0

-- The allocation of these items, in the order of the components, or `None` where the record type is not known.
abbrev pub allocation : Known → Option TypeNo → Option TypeNo → ItemsTree → Option RightForm
allocation known access (Some t) items =
    Some (allocates (wanted_or access t) (flattened (filling_of known (Some (components_of known.types t.0)) items).slots))
allocation known access None items = None

-- The allocation that `new T'(..)` makes, or `None` where its type is wrong.
unfoldable pub aggregate_found : Known → Option TypeNo → Ident → ItemsTree → Option RightForm
aggregate_found known access type_name items = allocation known access (complete_found known type_name) items

-- The allocation of an object whose components hold what they hold at first, or `None` where the record type is not known.
abbrev pub default_allocation : Option TypeNo → Option TypeNo → Option RightForm
default_allocation access (Some t) = Some (allocates_default (wanted_or access t))
default_allocation access None = None

-- The allocation that `new T` makes, or `None` where its type is wrong.
unfoldable pub default_found : Known → Option TypeNo → Ident → Option RightForm
default_found known access type_name = default_allocation access (complete_found known type_name)

-- Whether an allocator is in the profile: it has no handle (13.11.4).
abbrev pub is_in_use : Option Ident → Bool
is_in_use handle = is_none handle

-- What is wrong with an allocator without a handle: with items it is `new T'(..)`, and without them `new T`.
abbrev pub new_remark : Known → Option TypeNo → Spot → Ident → ItemsTree → Remark
new_remark known access spot type_name no_more_items = allocated_remark known access spot type_name
new_remark known access spot type_name (an_item label value rest) = aggregate_remark known access spot type_name (an_item label value rest)

-- What such an allocator makes, or `None` where something is wrong.
abbrev pub new_found : Known → Option TypeNo → Ident → ItemsTree → Option RightForm
new_found known access type_name no_more_items = default_found known access type_name
new_found known access type_name (an_item label value rest) = aggregate_found known access type_name (an_item label value rest)

-- What is wrong with an allocator.
unfoldable pub allocator_remark : Known → Option TypeNo → Spot → Option Ident → Ident → ItemsTree → Remark
allocator_remark known access spot handle type_name items =
    if is_in_use handle then new_remark known access spot type_name items else wrong spot NotInProfile

-- The allocation that an allocator makes, or `None` where something is wrong.
unfoldable pub allocator_found : Known → Option TypeNo → Option Ident → Ident → ItemsTree → Option RightForm
allocator_found known access handle type_name items =
    if is_in_use handle then new_found known access type_name items else None
