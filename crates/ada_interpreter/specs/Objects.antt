-- Objects by name, and the members of each collection.

use Rattle.std.specs.Prelude.{◌≡◌, ◌⊎◌, ℕ, nat_eq, ◌+◌, ◌-◌, ◌^◌, ◌<◌, Bool, false, if◌then◌else◌, List, [], ◌∷◌, ◌++◌, reverse, length, map, Option, Some, None}
use Rattle.std.specs.HashMap.{get, spare}
use Rattle.std.specs.List.{slice_get, slice_index_or, slice_set, filter, range_with_len}
use Rattle.ada_meaning.specs.declared.state.Id.{Id}
use Rattle.ada_meaning.specs.declared.state.Value.{Value}
use Rattle.ada_meaning.specs.declared.state.Stage.TheVariants.{Gone}
use Rattle.ada_meaning.specs.Heap.{Home, PartState, Cell, Found, on_null, on_gone, on_other, finds}
use Rattle.ada_meaning.specs.Named.{Object, object_at, seen, is_member, members_of, inside}
use Rattle.ada_interpreter.specs.declared.objects.Home.{Home as HeldHome}
use Rattle.ada_interpreter.specs.declared.objects.Cell.{Cell as HeldCell}
use Rattle.ada_interpreter.specs.declared.remembered.Object.{Object as HeldObject}
use Rattle.ada_interpreter.specs.declared.remembered.Remembered.{Remembered}
use Rattle.ada_interpreter.specs.declared.shelves.Shelf.{Shelf}
use Rattle.ada_interpreter.specs.Treatment.{part_form}
use Rattle.ada_untouched.specs.Past.{nothing_left}

-- The home, the cell and the object that the machine keeps.
abbrev pub home_form : HeldHome → Home
home_form home = record { item = home.item; pool = home.pool; subpool = home.subpool }

-- The cell of an object, as the code keeps it.
abbrev pub cell_of : HeldCell → Cell Value
cell_of cell = record { access = cell.access.0; number = cell.number; home = home_form cell.home; values = cell.values.items; parts = map part_form cell.parts.items }

-- What lies in a record object, whose home is its own item.
abbrev pub declared_cell : (object_type item : ℕ) → List Value → List PartState → Cell Value
declared_cell t item values parts =
    record { access = t; number = 0; home = record { item = item; pool = None; subpool = None }; values = values; parts = parts }

-- An object, as the code keeps it.
abbrev pub object_of : HeldObject → Object
object_of object = record { cell = cell_of object.cell; stage = object.stage; listed = object.listed; out = object.out }

-- An object of which the code may keep nothing: of that only is known that it is past.
abbrev pub left_of : Option HeldObject → Object
left_of None = nothing_left
left_of (Some object) = object_of object

-- All objects that there ever were, by name.
abbrev pub all_of : Remembered → List Object
all_of objects = map (λ n. left_of (get nat_eq objects.kept n)) (range_with_len 0 objects.created)

-- There is memory for one object more, and a name.
pub record HasRoom (objects : Remembered) : Type 0 where
  pub place : 0 < spare objects.kept
  pub name : objects.created + 1 < 2 ^ 64

-- A name that was not given yet, or of whose object nothing is remembered.
abbrev pub IsForgotten : Option Object → Type 0
IsForgotten found = (found ≡ None) ⊎ (found ≡ Some nothing_left)

-- Is a name that of a member of this collection?
abbrev pub is_member_by : ℕ → Option Object → Bool
is_member_by item None = false
is_member_by item (Some object) = is_member item object

-- Whether an object is a member of the collection of an item.
abbrev pub is_member_at : List Object → ℕ → Id → Bool
is_member_at objects item o = is_member_by item (object_at objects o)

-- The members among some names, in their order.
abbrev pub members_among : List Object → ℕ → List Id → List Id
members_among objects item names = filter (is_member_at objects item) names

-- What is kept of a collection: names that its members are among, oldest first, and how many members there are.
pub record Kept : Type 0 where
  pub entries : List Id
  pub live : ℕ

-- What the code keeps of a collection: names of objects, and how many of these are still members.
abbrev pub kept_of : Shelf → Kept
kept_of shelf = record { entries = shelf.entries.items; live = shelf.live }

-- Of a collection without a shelf: nothing.
abbrev pub nothing_kept : Kept
nothing_kept = record { entries = []; live = 0 }

-- What is kept of the collection of an item; nothing, where there is none.
abbrev pub kept_at : List Kept → ℕ → Kept
kept_at shelves item = slice_index_or shelves item nothing_kept

-- Each of these names was given.
abbrev pub AreGiven : ℕ → List Id → Type 0
AreGiven n [] = Unit {0}
AreGiven n (o ∷ names) = (o.0 < n) × AreGiven n names

-- The members of a collection are among its entries, in their order, and as many as are counted.
pub record Shows (objects : List Object) (item : ℕ) (kept : Kept) : Type 0 where
  pub members : members_of objects item ≡ members_among objects item (reverse kept.entries)
  pub counted : length (members_of objects item) ≡ kept.live
  pub given : AreGiven (length objects) kept.entries

-- So it is for each item.
abbrev pub AreShelved : List Object → List Kept → Type 0
AreShelved objects shelves = (item : ℕ) → Shows objects item (kept_at shelves item)

-- An entry more that is a member; a member less.
abbrev pub entered : Kept → Id → Kept
entered kept o = record { entries = kept.entries ++ o ∷ []; live = kept.live + 1 }

-- A collection once one of its members less is left.
abbrev pub discounted : Kept → Kept
discounted kept = record kept { live = kept.live - 1 }

-- The collections once the one of an item, where there is one, has a member less.
abbrev pub discounted_at : Option ℕ → List Kept → List Kept
discounted_at None shelves = shelves
discounted_at (Some item) shelves = slice_set shelves item (discounted (kept_at shelves item))

-- The item of the collection that an object is in, if it is in one.
abbrev pub listed_home : Option Object → Option ℕ
listed_home None = None
listed_home (Some object) = if object.listed then Some object.cell.home.item else None

-- An object is gone, whether it has left its collection or not.
abbrev pub gone : Object → Object
gone object = record object { stage = Gone }

-- Values once those from a number on are others, one after another; what would come behind the end is dropped.
abbrev pub set_from : List Value → (first : ℕ) → (others : List Value) → List Value
set_from values first [] = values
set_from values first (v ∷ vs) = set_from (slice_set values first v) (first + 1) vs

-- An object once its components have other values, from one on (5.2).
abbrev pub filled_from : (first : ℕ) → List Value → Object → Object
filled_from first vs object = record object { cell = record (object.cell) { values = set_from object.cell.values first vs } }

-- A controlled part of what is found (7.6), if an object is found that exists and has that part.
abbrev pub part_in : Found (Cell Value) → (part : ℕ) → Option PartState
part_in on_null part = None
part_in on_gone part = None
part_in on_other part = None
part_in (finds cell) part = slice_get cell.parts part

-- That of the object of a name.
abbrev pub part_at : List Object → Id → (part : ℕ) → Option PartState
part_at objects o part = part_in (seen (object_at objects o)) part

-- An object once one of its controlled parts has another state (7.6, 7.6.1).
abbrev pub with_part_state : (part : ℕ) → PartState → Object → Object
with_part_state part state object = record object { cell = record (object.cell) { parts = slice_set object.cell.parts part state } }

-- The number that a component has in the object to which these selectors lead from a value (4.1.3, 6.2): where there are none, it is that of the value.
abbrev pub first_in : Value → (selectors : List ℕ) → (component : ℕ) → ℕ
first_in v [] c = inside v c
first_in v (d ∷ ds) c = c

-- Entries are taken away, none of them a member's.
pub record Trims (objects : List Object) (item : ℕ) (before after : List Id) : Type 0 where
  pub members : members_among objects item (reverse after) ≡ members_among objects item (reverse before)
  pub given : (n : ℕ) → AreGiven n before → AreGiven n after

-- What is kept of a collection after names of objects that are no members any more were dropped from it.
pub record IsTidied (objects : List Object) (item : ℕ) (before after : Kept) : Type 0 where
  pub trims : Trims objects item before.entries after.entries
  pub live : after.live ≡ before.live
