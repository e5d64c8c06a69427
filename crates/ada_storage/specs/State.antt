-- States of storage: objects with their parts, masters with their items, and what is under way. What user code computes is left out: it may do anything.

use Rattle.std.specs.Prelude.{ℕ, ◌+◌, Bool, true, false, ◌==◌, cond, List, [], ◌∷◌, map}

-- The parts of an object that need finalization (7.6): the first of them with the parts that lie in it, and the parts beside it. A part is known by a label.
pub data Forest : Type 0 where
  none : Forest
  tree : (part : ℕ) → (inside others : Forest) → Forest

-- A controlled value: its object, its part, and how many values of that part were finalized before it. So no two are the same.
pub record Value : Type 0 where
  pub object : ℕ
  pub part : ℕ
  pub turn : ℕ

-- What ends values and objects (7.6.1, 7.6, 13.11.2): the leaving of a master, at one of its items; an instance of Unchecked_Deallocation; an Initialize that
-- raised an exception; an assignment. Each of the last three has a number of its own.
pub data Cause : Type 0 where
  leaving : (master item : ℕ) → Cause
  freeing : (number : ℕ) → Cause
  undoing : (number : ℕ) → Cause
  assigning : (number : ℕ) → Cause

-- How a value comes to exist (7.6): it was initialized as its object was created, or adjusted behind an assignment.
pub data Birth : Type 0 where
  creation : Birth
  adjustment : Birth

-- What a step shows: a value has come to exist; a value is finalized; the words of an object go back; a master has been left.
pub data Event : Type 0 where
  born : Value → Birth → Event
  finalized : Value → Cause → Event
  back : (object : ℕ) → Cause → Event
  left : (master : ℕ) → Event
  quiet : Event

-- What a master owns (7.6.1): a declared object, or a collection with its members, newest first.
pub data Owned : Type 0 where
  declared : (object : ℕ) → Owned
  collection : (members : List ℕ) → Owned

-- An item of a master, with its number: what is created later has a greater one.
pub record Item : Type 0 where
  pub number : ℕ
  pub owned : Owned

-- A master (7.6.1) with its number and its items, newest first.
pub record Master : Type 0 where
  pub number : ℕ
  pub items : List Item

-- Where an object belongs once it is initialized (7.6): to the items of the innermost master, or to a collection, by its master and its item.
pub data Joins : Type 0 where
  to_items : Joins
  to_collection : (master item : ℕ) → Joins

-- What is left of an initialization, or of an adjustment (7.6): all parts of a forest; a part, whose own operation is to be called; one whose is being called.
pub data Job : Type 0 where
  all_in : Forest → Job
  call : (part : ℕ) → Job
  called : (part : ℕ) → Job

-- Whether an exception is on its way (11.4).
pub data Mode : Type 0 where
  running : Mode
  raising : Mode

-- What is under way, innermost first.
pub data Control : Type 0 where
  stops : Control
  -- user code of a master, with that master
  acts : Master → Control → Control
  -- a master is being left, between two of its objects; then the mode goes on (7.6.1)
  leaves : Master → Mode → Control → Control
  -- a master is being left, at an object of an item: these parts of it are left to be finalized
  finalizes : Master → (item object : ℕ) → (left : List Forest) → Mode → Control → Control
  -- an object is freed (13.11.2): these parts are left to be finalized
  frees : (number object : ℕ) → (left : List Forest) → Control → Control
  -- an object is initialized (7.6): what is left of that, and which parts are initialized, newest first
  initializes : (object : ℕ) → Joins → List Job → (done : List ℕ) → Control → Control
  -- an Initialize raised an exception (7.6.1): these parts are left to be finalized, in this order
  undoes : (number object : ℕ) → (done : List ℕ) → Control → Control
  -- these parts of an object are assigned (7.6): first they are finalized, of which these are left, and then they are adjusted
  assigns : (number object : ℕ) → (parts : Forest) → (left : List Forest) → Control → Control
  adjusts : (object : ℕ) → (parts : Forest) → List Job → (done : List ℕ) → Control → Control

-- An object: the master that it goes with (7.6.1), its parts that need finalization, and whether its words are out.
pub record Object : Type 0 where
  pub home : ℕ
  pub shape : Forest
  pub lives : Bool

-- A state.
pub record State : Type 0 where
  -- whether a part of an object has a value now, and how many of its values have been finalized
  pub alive : (object part : ℕ) → Bool
  pub turn : (object part : ℕ) → ℕ
  pub objects : ℕ → Object
  pub control : Control
  pub mode : Mode
  -- how many objects have been created, and the next number of a master or a cause
  pub created : ℕ
  pub next : ℕ

-- A table once the entry of one object is this.
abbrev pub put : {X : Type 0} → (ℕ → X) → ℕ → X → ℕ → X
put f a v x = cond (x == a) v (f x)

-- A table of parts once the entry of one part of one object is this.
abbrev pub put_part : {X : Type 0} → (ℕ → ℕ → X) → (object part : ℕ) → X → ℕ → ℕ → X
put_part f o p v x q = cond (x == o) (cond (q == p) v (f x q)) (f x q)

-- Counts: how often a part, or an object, stands somewhere. An equation of counts says what is there, and that it is there once.

-- 1 for what holds, and 0 for what does not.
abbrev pub bit : Bool → ℕ
bit true = 1
bit false = 0

-- 1 for one number, and 0 for two.
abbrev pub same : ℕ → ℕ → ℕ
same a b = bit (a == b)

-- In a list.
abbrev pub in_list : ℕ → List ℕ → ℕ
in_list q [] = 0
in_list q (p ∷ ps) = same q p + in_list q ps

-- Among the parts of a forest.
abbrev pub in_forest : (part : ℕ) → Forest → ℕ
in_forest q none = 0
in_forest q (tree p inside others) = same q p + (in_forest q inside + in_forest q others)

-- Among the parts of several forests.
abbrev pub in_forests : (part : ℕ) → List Forest → ℕ
in_forests q [] = 0
in_forests q (f ∷ fs) = in_forest q f + in_forests q fs

-- In one thing that is left of an initialization.
abbrev pub in_job : (part : ℕ) → Job → ℕ
in_job q (all_in f) = in_forest q f
in_job q (call p) = same q p
in_job q (called p) = same q p

-- In all that is left of an initialization.
abbrev pub in_jobs : (part : ℕ) → List Job → ℕ
in_jobs q [] = 0
in_jobs q (j ∷ js) = in_job q j + in_jobs q js

-- Among what a master owns.
abbrev pub in_owned : (object : ℕ) → Owned → ℕ
in_owned x (declared o) = same x o
in_owned x (collection os) = in_list x os

-- Among all that these items are.
abbrev pub in_items : (object : ℕ) → List Item → ℕ
in_items x [] = 0
in_items x (i ∷ is) = in_owned x i.owned + in_items x is

-- How many places an object has: items of masters, and frames that hold it. An assignment takes no object out of its place.
abbrev pub placed : (object : ℕ) → Control → ℕ
placed x stops = 0
placed x (acts m k) = in_items x m.items + placed x k
placed x (leaves m mode k) = in_items x m.items + placed x k
placed x (finalizes m i o fs mode k) = same x o + (in_items x m.items + placed x k)
placed x (frees n o fs k) = same x o + placed x k
placed x (initializes o joins js done k) = same x o + placed x k
placed x (undoes n o done k) = same x o + placed x k
placed x (assigns n o f fs k) = placed x k
placed x (adjusts o f js done k) = placed x k

-- How often an object is a member of a collection.
abbrev pub of_members : (object : ℕ) → Owned → ℕ
of_members x (declared o) = 0
of_members x (collection os) = in_list x os

-- How often it is a member of the collections among these items.
abbrev pub in_members : (object : ℕ) → List Item → ℕ
in_members x [] = 0
in_members x (i ∷ is) = of_members x i.owned + in_members x is

-- How often it is a member of any collection of any master.
abbrev pub listed : (object : ℕ) → Control → ℕ
listed x stops = 0
listed x (acts m k) = in_members x m.items + listed x k
listed x (leaves m mode k) = in_members x m.items + listed x k
listed x (finalizes m i o fs mode k) = in_members x m.items + listed x k
listed x (frees n o fs k) = listed x k
listed x (initializes o joins js done k) = listed x k
listed x (undoes n o done k) = listed x k
listed x (assigns n o f fs k) = listed x k
listed x (adjusts o f js done k) = listed x k

-- How many assignments to parts of an object are under way.
abbrev pub assigned : (object : ℕ) → Control → ℕ
assigned x stops = 0
assigned x (acts m k) = assigned x k
assigned x (leaves m mode k) = assigned x k
assigned x (finalizes m i o fs mode k) = assigned x k
assigned x (frees n o fs k) = assigned x k
assigned x (initializes o joins js done k) = assigned x k
assigned x (undoes n o done k) = assigned x k
assigned x (assigns n o f fs k) = same x o + assigned x k
assigned x (adjusts o f js done k) = same x o + assigned x k

-- How many collections are open under the number of an item, in the master of a number.
abbrev pub owned_open : Owned → ℕ
owned_open (declared o) = 0
owned_open (collection os) = 1

-- How many collections are open under that number among these items.
abbrev pub items_open : (item : ℕ) → List Item → ℕ
items_open c [] = 0
items_open c (i ∷ is) = cond (i.number == c) (owned_open i.owned) 0 + items_open c is

-- How many are open under it in a master, if that has this number.
abbrev pub master_open : (master item : ℕ) → Master → ℕ
master_open a c m = cond (m.number == a) (items_open c m.items) 0

-- How many are open under it in the master of that number, wherever that stands.
abbrev pub opens : (master item : ℕ) → Control → ℕ
opens a c stops = 0
opens a c (acts m k) = master_open a c m + opens a c k
opens a c (leaves m mode k) = master_open a c m + opens a c k
opens a c (finalizes m i o fs mode k) = master_open a c m + opens a c k
opens a c (frees n o fs k) = opens a c k
opens a c (initializes o joins js done k) = opens a c k
opens a c (undoes n o done k) = opens a c k
opens a c (assigns n o f fs k) = opens a c k
opens a c (adjusts o f js done k) = opens a c k

-- An object leaves its collection, whichever that is.
abbrev pub without : (object : ℕ) → List ℕ → List ℕ
without o [] = []
without o (x ∷ xs) = cond (x == o) (without o xs) (x ∷ without o xs)

-- What is owned once the object has left it, if that is a collection.
abbrev pub parted_owned : (object : ℕ) → Owned → Owned
parted_owned o (declared x) = declared x
parted_owned o (collection os) = collection (without o os)

-- An item once the object has left its collection.
abbrev pub parted_item : (object : ℕ) → Item → Item
parted_item o i = record i { owned = parted_owned o i.owned }

-- A master once the object has left each of its collections.
abbrev pub parted_master : (object : ℕ) → Master → Master
parted_master o m = record m { items = map (parted_item o) m.items }

-- All that is under way once the object has left each collection of each master.
abbrev pub parted : (object : ℕ) → Control → Control
parted x stops = stops
parted x (acts m k) = acts (parted_master x m) (parted x k)
parted x (leaves m mode k) = leaves (parted_master x m) mode (parted x k)
parted x (finalizes m i o fs mode k) = finalizes (parted_master x m) i o fs mode (parted x k)
parted x (frees n o fs k) = frees n o fs (parted x k)
parted x (initializes o joins js done k) = initializes o joins js done (parted x k)
parted x (undoes n o done k) = undoes n o done (parted x k)
parted x (assigns n o f fs k) = assigns n o f fs (parted x k)
parted x (adjusts o f js done k) = adjusts o f js done (parted x k)

-- An object joins the collection of an item, in the master of a number.
abbrev pub joined_owned : (object : ℕ) → Owned → Owned
joined_owned o (declared x) = declared x
joined_owned o (collection os) = collection (o ∷ os)

-- An item once the object has joined its collection, if the item has this number.
abbrev pub joined_item : (item object : ℕ) → Item → Item
joined_item c o i = record i { owned = cond (i.number == c) (joined_owned o i.owned) i.owned }

-- A master once the object has joined the collection of its item, if the master has this number.
abbrev pub joined_master : (master item object : ℕ) → Master → Master
joined_master a c o m = record m { items = cond (m.number == a) (map (joined_item c o) m.items) m.items }

-- All that is under way once the object has joined that collection.
abbrev pub joined : (master item object : ℕ) → Control → Control
joined a c x stops = stops
joined a c x (acts m k) = acts (joined_master a c x m) (joined a c x k)
joined a c x (leaves m mode k) = leaves (joined_master a c x m) mode (joined a c x k)
joined a c x (finalizes m i o fs mode k) = finalizes (joined_master a c x m) i o fs mode (joined a c x k)
joined a c x (frees n o fs k) = frees n o fs (joined a c x k)
joined a c x (initializes o joins js done k) = initializes o joins js done (joined a c x k)
joined a c x (undoes n o done k) = undoes n o done (joined a c x k)
joined a c x (assigns n o f fs k) = assigns n o f fs (joined a c x k)
joined a c x (adjusts o f js done k) = adjusts o f js done (joined a c x k)

-- How often the first part lies in the second, in a forest.
abbrev pub within : (part whole : ℕ) → Forest → ℕ
within p q none = 0
within p q (tree x inside others) = cond (q == x) (in_forest p inside) 0 + (within p q inside + within p q others)

-- How often it lies so in several forests.
abbrev pub withins : (part whole : ℕ) → List Forest → ℕ
withins p q [] = 0
withins p q (f ∷ fs) = within p q f + withins p q fs

-- Is a part one of those of a forest that lie in no other?
abbrev pub is_top : (part : ℕ) → Forest → Bool
is_top x none = false
is_top x (tree p inside others) = cond (x == p) true (is_top x others)

-- What lies in the part.
abbrev pub kids_of : (part : ℕ) → Forest → Forest
kids_of x none = none
kids_of x (tree p inside others) = cond (x == p) inside (kids_of x others)

-- The forest without the part and what lies in it.
abbrev pub others_of : (part : ℕ) → Forest → Forest
others_of x none = none
others_of x (tree p inside others) = cond (x == p) others (tree p inside (others_of x others))
