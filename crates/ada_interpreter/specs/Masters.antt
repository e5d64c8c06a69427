-- Masters, and their items on one stack.

use Rattle.std.specs.Prelude.{◌≡◌, ℕ, ◌+◌, ◌-◌, ◌≤◌, ◌<◌, ◌==◌, if◌then◌else◌, List, [], ◌∷◌, take, drop, length, Option, Some, None}
use Rattle.std.specs.List.{slice_index_or, slice_set}
use Rattle.ada_meaning.specs.State.{Owned, declared, collection, record_object, storage_pool, Item, Master, Destination, destination}
use Rattle.ada_interpreter.specs.declared.masters.Owned.{Owned as HeldOwned}
use Rattle.ada_interpreter.specs.declared.masters.Owned.TheVariants as held
use Rattle.ada_interpreter.specs.declared.newest.Destination.{Destination as HeldDestination}
use Rattle.ada_interpreter.specs.declared.newest.Newest.{Newest}
use Rattle.ada_interpreter.specs.declared.masters.Item.{Item as HeldItem}
use Rattle.ada_interpreter.specs.declared.masters.Master.{Master as HeldMaster}
use Rattle.ada_interpreter.specs.declared.masters.Remains.{Remains}
use Rattle.ada_interpreter.specs.declared.masters.Remains.TheVariants as remains

-- What a master owns.
abbrev pub owned_of : HeldOwned → Owned
owned_of (held.Declared variable) = declared variable.0
owned_of (held.Collection access pool) = collection access.0 pool
owned_of (held.Record t) = record_object t.0
owned_of (held.Pool declaration number) = storage_pool declaration.0 number

-- Where the new objects of an access type go.
abbrev pub destination_of : HeldDestination → Destination
destination_of home = record { item = home.item; pool = home.pool }

-- The items, newest first: the number of each is how many are below it.
abbrev pub items_of : List HeldItem → List Item
items_of [] = []
items_of (i ∷ is) = record { number = length is; owned = owned_of i.owned } ∷ items_of is

-- The masters, innermost first, each with as many of the items as it counts.
abbrev pub masters_of : List HeldMaster → List HeldItem → List Master
masters_of [] is = []
masters_of (m ∷ ms) is = record { number = m.number; items = take m.count (items_of is) } ∷ masters_of ms (drop m.count is)

-- Each item is some master's.
abbrev pub AreOwned : List HeldMaster → List HeldItem → Type 0
AreOwned [] is = is ≡ []
AreOwned (m ∷ ms) is = (m.count ≤ length is) × AreOwned ms (drop m.count is)

-- The number of the access type whose collection is owned, if one is.
abbrev pub access_key : HeldOwned → Option ℕ
access_key (held.Declared variable) = None
access_key (held.Collection access pool) = Some access.0
access_key (held.Record t) = None
access_key (held.Pool declaration number) = None

-- The number of the declaration whose pool is owned, if one is (13.11).
abbrev pub pool_key : HeldOwned → Option ℕ
pool_key (held.Declared variable) = None
pool_key (held.Collection access pool) = None
pool_key (held.Record t) = None
pool_key (held.Pool declaration number) = Some declaration.0

-- The pool of a collection's objects, or the pool that is owned (13.11).
abbrev pub pool_known : HeldOwned → Option ℕ
pool_known (held.Declared variable) = None
pool_known (held.Collection access pool) = pool
pool_known (held.Record t) = None
pool_known (held.Pool declaration number) = Some number

-- What is known of an item that is the newest of its kind.
abbrev pub known : HeldOwned → (number : ℕ) → Newest
known owned number = record { item = number; pool = pool_known owned }

-- What is known under a key: an item that has this key, or an older one.
abbrev pub newest_by : (own_key : Option ℕ) → (key : ℕ) → (item : Newest) → (older : Option Newest) → Option Newest
newest_by None key item older = older
newest_by (Some own_key) key item older = if key == own_key then Some item else older

-- The newest of these items that has a key, if one has.
abbrev pub newest_in : (HeldOwned → Option ℕ) → (key : ℕ) → List HeldItem → Option Newest
newest_in key_of key [] = None
newest_in key_of key (i ∷ is) = newest_by (key_of i.owned) key (known i.owned (length is)) (newest_in key_of key is)

-- An item that has a key knows the next newest one that has it.
abbrev pub IsLinked : (HeldOwned → Option ℕ) → (own_key : Option ℕ) → (previous : Option Newest) → List HeldItem → Type 0
IsLinked key_of None previous is = Unit {0}
IsLinked key_of (Some key) previous is = previous ≡ newest_in key_of key is

-- So does each of these items.
abbrev pub AreLinked : (HeldOwned → Option ℕ) → List HeldItem → Type 0
AreLinked key_of [] = Unit {0}
AreLinked key_of (i ∷ is) = IsLinked key_of (key_of i.owned) i.previous is × AreLinked key_of is

-- The newest item of each key is known.
abbrev pub AreIndexed : (HeldOwned → Option ℕ) → List (Option Newest) → List HeldItem → Type 0
AreIndexed key_of newest is = (key : ℕ) → slice_index_or newest key None ≡ newest_in key_of key is

-- How many pools exist with what is owned, where so many exist without it.
abbrev pub counted_by : HeldOwned → (pools : ℕ) → ℕ
counted_by (held.Declared variable) pools = pools
counted_by (held.Collection access pool) pools = pools
counted_by (held.Record t) pools = pools
counted_by (held.Pool declaration number) pools = pools + 1

-- How many pools exist without what is owned, where so many exist with it.
abbrev pub uncounted_by : HeldOwned → (pools : ℕ) → ℕ
uncounted_by (held.Declared variable) pools = pools
uncounted_by (held.Collection access pool) pools = pools
uncounted_by (held.Record t) pools = pools
uncounted_by (held.Pool declaration number) pools = pools - 1

-- How many of these items are pools.
abbrev pub pools_among : List HeldItem → ℕ
pools_among [] = 0
pools_among (i ∷ is) = counted_by i.owned (pools_among is)

-- What the leaving of the innermost master comes upon.
abbrev pub remains_at : ℕ → Item → Owned → Remains
remains_at master item (declared x) = remains.Variable
remains_at master item (collection access pool) = remains.Home master item.number pool
remains_at master item (record_object t) = remains.Home master item.number None
remains_at master item (storage_pool declaration number) = remains.Pool number

-- What remains of a master that is being left, with these items.
abbrev pub remains_in : ℕ → List Item → Remains
remains_in master [] = remains.NoItem master
remains_in master (item ∷ items) = remains_at master item item.owned

-- What remains of the innermost of these masters.
abbrev pub remains_of : List Master → Remains
remains_of [] = remains.NoMaster
remains_of (m ∷ ms) = remains_in m.number m.items

-- An index of the items that have a key: each is linked to the one before it that has the same, and the newest is known.
pub record IsIndex (key_of : HeldOwned → Option ℕ) (newest : List (Option Newest)) (items : List HeldItem) : Type 0 where
  pub linked : AreLinked key_of items
  pub indexed : AreIndexed key_of newest items

-- What is kept of the masters fits.
pub record AreKept (collections pools : List (Option Newest)) (pool_count : ℕ) (entered : List HeldMaster) (items : List HeldItem) : Type 0 where
  pub owned : AreOwned entered items
  pub by_type : IsIndex access_key collections items
  pub by_declaration : IsIndex pool_key pools items
  pub counted : pool_count ≡ pools_among items

-- The innermost master has no item left.
abbrev pub HasNoItem : List Master → Type 0
HasNoItem [] = Unit {0}
HasNoItem (m ∷ ms) = m.items ≡ []

-- The newest collection of the same access type, or the newest pool of the same declaration.
abbrev pub previous_of : (collections pools : List (Option Newest)) → HeldOwned → Option Newest
previous_of collections pools (held.Declared variable) = None
previous_of collections pools (held.Collection access pool) = slice_index_or collections access.0 None
previous_of collections pools (held.Record t) = None
previous_of collections pools (held.Pool declaration number) = slice_index_or pools declaration.0 None

-- The newest item of each key, once another is the newest of one.
abbrev pub with_newest : List (Option Newest) → (own_key : Option ℕ) → Option Newest → List (Option Newest)
with_newest newest None item = newest
with_newest newest (Some key) item = slice_set newest key item

-- There is a place for the newest item of a key.
abbrev pub HasRoom : List (Option Newest) → (own_key : Option ℕ) → Type 0
HasRoom newest None = Unit {0}
HasRoom newest (Some key) = key < length newest

-- The newest collection as a destination, where its pool existed (13.11).
abbrev pub home_by : Option Newest → Option Destination
home_by None = None
home_by (Some newest) = destination newest.item newest.pool

-- The number of the newest pool.
abbrev pub pool_by : Option Newest → Option ℕ
pool_by None = None
pool_by (Some newest) = newest.pool
