-- States: activations, masters, what is left to do, and a heap that nothing here looks into.

use Rattle.std.specs.Prelude.{ℕ, ℤ, List, [], ◌∷◌, length, ◌+◌, Option, Some, None, ◌==◌, if◌then◌else◌, Bool, false}
use Rattle.ada_meaning.specs.declared.state.Mode.{Mode}
use Rattle.ada_meaning.specs.declared.state.Mode.TheVariants.{Running, Raising, Exiting, Returning}
use Rattle.ada_meaning.specs.Frame.{Frame, begins_by}

-- An activation of a body (6.4), that of a procedure or the main one: what each of its variables holds, by number, and what pending forms have computed,
-- newest first.
pub record Activation (V : Type 0) : Type 0 where
  pub procedure : Option ℕ
  pub places : List V
  pub operands : List V

-- What a master owns (7.6.1): a variable; the collection of an access type, and the pool of its objects, where that is open as the collection is created
-- (13.11); the record object that is known by a type; or a declared pool (13.11), by its declaration's number and by the one that it has in the run.
pub data Owned : Type 0 where
  declared : (variable : ℕ) → Owned
  collection : (access : ℕ) → (pool : Option ℕ) → Owned
  record_object : (object_type : ℕ) → Owned
  storage_pool : (declaration number : ℕ) → Owned

-- The type of the objects whose home an item is that owns this: the access type of a collection, or what a record object is known by. A variable or a
-- pool is no object's home.
abbrev pub type_housed : Owned → Option ℕ
type_housed (declared x) = None
type_housed (collection access pool) = Some access
type_housed (record_object t) = Some t
type_housed (storage_pool declaration number) = None

-- The pool of the objects whose home such an item is (13.11): a record object is of none.
abbrev pub pool_housed : Owned → Option ℕ
pool_housed (declared x) = None
pool_housed (collection access pool) = pool
pool_housed (record_object t) = None
pool_housed (storage_pool declaration number) = None

-- An item of a master, with its number: what is created later has a greater one.
pub record Item : Type 0 where
  pub number : ℕ
  pub owned : Owned

-- A master that is entered (7.6.1), with its number and its items, newest first.
pub record Master : Type 0 where
  pub number : ℕ
  pub items : List Item

-- A state of a run.
pub record State (V H : Type 0) : Type 0 where
  -- the running one first
  pub activations : List (Activation V)
  -- innermost first
  pub masters : List Master
  -- what is left to do, innermost first
  pub control : List (Frame V)
  pub mode : Mode
  pub input : List ℤ
  -- the next number of a master or a cause
  pub next : ℕ
  -- how many objects have been allocated, and how many controlled values born
  pub allocated : ℕ
  pub born : ℕ
  pub heap : H

-- The number of a new item: how many items there are, over all masters. So numbers fall along the stack of masters and along their items.
abbrev pub height : List Master → ℕ
height [] = 0
height (m ∷ ms) = length m.items + height ms

-- Pools (13.11). The standard pool has the number 0; a declared one is numbered by how many exist before it.

-- How many pools exist that an item, or outer ones, own.
abbrev pub count_by : Owned → (outer : ℕ) → ℕ
count_by (declared x) outer = outer
count_by (collection access pool) outer = outer
count_by (record_object t) outer = outer
count_by (storage_pool declaration number) outer = outer + 1

-- How many pools exist that these items, or outer ones, own.
abbrev pub count_among : List Item → (outer : ℕ) → ℕ
count_among [] outer = outer
count_among (i ∷ is) outer = count_by i.owned (count_among is outer)

-- How many declared pools exist.
abbrev pub pools_in : List Master → ℕ
pools_in [] = 0
pools_in (m ∷ ms) = count_among m.items (pools_in ms)

-- The pool that a declaration denotes: the newest of it that exists, by its number.
abbrev pub pool_at : (declaration : ℕ) → Owned → Option ℕ → Option ℕ
pool_at p (declared x) outer = outer
pool_at p (collection access pool) outer = outer
pool_at p (record_object t) outer = outer
pool_at p (storage_pool declaration number) outer = if p == declaration then Some number else outer

-- The newest of these items that is a pool of a declaration, or an outer one.
abbrev pub pool_among : (declaration : ℕ) → List Item → Option ℕ → Option ℕ
pool_among p [] outer = outer
pool_among p (i ∷ is) outer = pool_at p i.owned (pool_among p is outer)

-- The number of the newest pool of a declaration that exists, if one does.
abbrev pub pool_of : (declaration : ℕ) → List Master → Option ℕ
pool_of p [] = None
pool_of p (m ∷ ms) = pool_among p m.items (pool_of p ms)

-- The pool of a collection that is created here (13.11): the standard one, where its access type has no declared pool.
abbrev pub pool_for : (declaration : Option ℕ) → List Master → Option ℕ
pool_for None ms = Some 0
pool_for (Some p) ms = pool_of p ms

-- Where the new objects of an access type go: to the collection of an item, and to a pool.
pub record Destination : Type 0 where
  pub item : ℕ
  pub pool : ℕ

-- An open collection is a destination, where its pool was open.
abbrev pub destination : (item : ℕ) → (pool : Option ℕ) → Option Destination
destination item None = None
destination item (Some pool) = Some (record { item = item; pool = pool })

-- The collection that an access type denotes: the newest of it that is open (7.6.1).
abbrev pub collection_in : ℕ → Item → Owned → Option Destination → Option Destination
collection_in access item (declared x) outer = outer
collection_in access item (record_object t) outer = outer
collection_in access item (storage_pool declaration number) outer = outer
collection_in access item (collection t pool) outer = if access == t then destination item.number pool else outer

-- The newest of these items that is the collection of an access type, or an outer one.
abbrev pub home_among : ℕ → List Item → Option Destination → Option Destination
home_among access [] outer = outer
home_among access (i ∷ is) outer = collection_in access i i.owned (home_among access is outer)

-- The newest open collection of an access type, if one is open.
abbrev pub home_of : ℕ → List Master → Option Destination
home_of access [] = None
home_of access (m ∷ ms) = home_among access m.items (home_of access ms)

-- The pool to which a Free by an access type gives words back (13.11.2): that of its collection; the standard pool, where none is open.
abbrev pub pool_freed_to : Option Destination → ℕ
pool_freed_to None = 0
pool_freed_to (Some home) = home.pool

-- A trace number counts from 1; past 64 bits it stays.
abbrev pub counted : ℕ → ℕ
counted n = if n == 18446744073709551615 then n else n + 1

-- Does the next step begin a statement? No jump is on its way, and a statement is first of what is left to do.
abbrev pub begins_among : {V : Type 0} → List (Frame V) → Bool
begins_among [] = false
begins_among (f ∷ fs) = begins_by f

-- Whether a statement begins next, in a mode with this left to do.
abbrev pub begins_in : {V : Type 0} → Mode → List (Frame V) → Bool
begins_in Running k = begins_among k
begins_in (Raising e) k = false
begins_in Exiting k = false
begins_in Returning k = false

-- Whether the next step begins a statement.
abbrev pub begins : {V H : Type 0} → State V H → Bool
begins s = begins_in s.mode s.control
