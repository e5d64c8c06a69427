-- The laws of storage over whole runs, and what a safe program is.

use Rattle.std.specs.Prelude.{◌≡◌, ◌≢◌, ◌⊎◌, ◌↔◌, ℕ, true, false, ◌<◌, ◌≤◌, List, [], ◌∷◌, ◌++◌, Option, Some, None, All, AllPairs, Contains, IfSome}
use Rattle.ada_meaning.specs.declared.state.Id.{Id}
use Rattle.ada_meaning.specs.declared.state.Value.{Value}
use Rattle.ada_meaning.specs.declared.state.Value.TheVariants.{Null, Names, Scalar, Part}
use Rattle.ada_meaning.specs.declared.event.Cause.{Cause}
use Rattle.ada_meaning.specs.declared.event.Cause.TheVariants.{Leaving, Freeing, Assigning, Undoing}
use Rattle.ada_meaning.specs.declared.event.Halt.{Halt}
use Rattle.ada_meaning.specs.declared.event.Halt.TheVariants.{Finished, Unhandled, Escaped, Erroneous, Stuck, Memory}
use Rattle.ada_meaning.specs.Event.{Finalized, Back, Followed, Left}
use Rattle.ada_meaning.specs.State.{Owned, declared, collection, record_object, storage_pool, pool_housed, Item, Master}
use Rattle.ada_meaning.specs.Heap.{Home}
use Rattle.ada_meaning.specs.Named.{Object, State, object_at}
use Rattle.ada_meaning.specs.Run.{Event}

-- What an event is about.

-- The object that a value names.
abbrev pub named_by : Value → Option Id
named_by Null = None
named_by (Names o) = Some o
named_by (Scalar v) = None
named_by (Part o place) = None

-- The object whose words go back.
abbrev pub back_of : Event → Option Id
back_of (Back object access number pool subpool cause) = named_by object
back_of e = None

-- The object that is followed.
abbrev pub followed_of : Event → Option Id
followed_of (Followed object) = named_by object
followed_of e = None

-- A controlled value: a part of an object, and how often that part had a value before.
pub record ControlledValue : Type 0 where
  pub object : Id
  pub part : ℕ
  pub turn : ℕ

-- The controlled value of a part of an object, if the event names an object.
abbrev pub controlled_by : Option Id → (part turn : ℕ) → Option ControlledValue
controlled_by None part turn = None
controlled_by (Some o) part turn = Some (record { object = o; part = part; turn = turn })

-- The controlled value whose Finalize begins.
abbrev pub finalized_of : Event → Option ControlledValue
finalized_of (Finalized object part turn type number cause) = controlled_by (named_by object) part turn
finalized_of e = None

-- What ended an object or a value, where an event says that one was ended.
abbrev pub cause_of : Event → Option Cause
cause_of (Finalized object part turn type number cause) = Some cause
cause_of (Back object access number pool subpool cause) = Some cause
cause_of e = None

-- The leaving of a master at one of its items.
pub record AtItem : Type 0 where
  pub master : ℕ
  pub item : ℕ

-- The master and the item whose leaving is a cause, if it is one.
abbrev pub leaving_by : Option Cause → Option AtItem
leaving_by None = None
leaving_by (Some (Leaving master item)) = Some (record { master = master; item = item })
leaving_by (Some (Freeing number)) = None
leaving_by (Some (Assigning number)) = None
leaving_by (Some (Undoing number)) = None

-- The leaving that an event belongs to.
abbrev pub leaving_of : Event → Option AtItem
leaving_of e = leaving_by (cause_of e)

-- The master that an event tells to be left, or to be about to.
abbrev pub master_in : Option AtItem → Option ℕ
master_in None = None
master_in (Some at_item) = Some at_item.master

-- The master whose leaving an event belongs to, or ends, if it does.
abbrev pub left_by : Event → Option ℕ
left_by (Left master) = Some master
left_by e = master_in (leaving_of e)

-- Laws of two events, the first before the second.

-- Of two things that are there, this holds.
abbrev pub Between : {X Y : Type 0} → (X → Y → Type 0) → Option X → Option Y → Type 0
Between R None b = Unit {0}
Between R (Some a) None = Unit {0}
Between R (Some a) (Some b) = R a b

-- Two things, where both are there, are not the same.
abbrev pub Differ : {X : Type 0} → Option X → Option X → Type 0
Differ {X} a b = Between (λ (x y : X). x ≢ y) a b

-- The words of two objects go back.
abbrev pub BackTwoObjects : Event → Event → Type 0
BackTwoObjects e f = Differ (back_of e) (back_of f)

-- Two controlled values are finalized.
abbrev pub FinalizedTwoValues : Event → Event → Type 0
FinalizedTwoValues e f = Differ (finalized_of e) (finalized_of f)

-- What is followed is not an object whose words went back before.
abbrev pub FollowedBeforeBack : Event → Event → Type 0
FollowedBeforeBack e f = Differ (back_of e) (followed_of f)

-- At the leaving of one master, items come in reverse order of their creation: their numbers never rise.
abbrev pub NeverRises : AtItem → AtItem → Type 0
NeverRises a b = a.master ≡ b.master → b.item ≤ a.item

-- Of two events of one leaving, the later is for no item with a greater number.
abbrev pub InReverseOrder : Event → Event → Type 0
InReverseOrder e f = Between NeverRises (leaving_of e) (leaving_of f)

-- Laws of one event, and of the state that the events lead to.

-- A leaving ends an object at the item that is its home.
abbrev pub LeavesHome : Home → Option AtItem → Type 0
LeavesHome home leaving = IfSome leaving (λ at_item. at_item.item ≡ home.item)

-- The storage of this object goes back: it is there, of this access type and with this trace number, and the pool, if it is from one, and the
-- subpool are those of its home.
abbrev pub GoesHome : List Object → Option Id → (access number : ℕ) → (pool subpool : Option ℕ) → Option AtItem → Type 0
GoesHome objects None access number pool subpool leaving = ⊥
GoesHome objects (Some o) access number pool subpool leaving =
    (object : Object) × (object_at objects o ≡ Some object) × (object.cell.access ≡ access) × (object.cell.number ≡ number) × (object.cell.home.pool ≡ pool) × (object.cell.home.subpool ≡ subpool) × LeavesHome object.cell.home leaving

-- Words that an event gives back go to their object's own pool, and at a leaving with the item that is its home.
abbrev pub IsBackHome : List Object → Event → Type 0
IsBackHome objects (Back object access number pool subpool cause) = GoesHome objects (named_by object) access number pool subpool (leaving_by (Some cause))
IsBackHome objects e = Unit {0}

-- An event gives the words of this object back.
abbrev pub GivesBackOf : Id → Event → Type 0
GivesBackOf o e = back_of e ≡ Some o

-- There is such an event among these.
abbrev pub Happened : (Event → Type 0) → List Event → Type 0
Happened P [] = ⊥
Happened P (e ∷ es) = P e ⊎ Happened P es

-- The items of all masters, innermost first, newest first.
abbrev pub items_of : List Master → List Item
items_of [] = []
items_of (m ∷ ms) = m.items ++ items_of ms

-- The number of the second item is less than that of the first.
abbrev pub Falls : Item → Item → Type 0
Falls i j = j.number < i.number

-- The number of the second master is less than that of the first.
abbrev pub MastersFall : Master → Master → Type 0
MastersFall m n = n.number < m.number

-- The home of an object is an item that is still there, and the object is from the pool of that item (13.11).
abbrev pub IsHoused : List Master → Object → Type 0
IsHoused masters object =
    (i : Item) × Contains (items_of masters) i × (i.number ≡ object.cell.home.item) × (pool_housed i.owned ≡ object.cell.home.pool)

-- A pool is the standard one, or a declared one that exists (13.11).
abbrev pub Exists : List Item → (pool : ℕ) → Type 0
Exists items pool = (pool ≡ 0) ⊎ ((i : Item) × (declaration : ℕ) × Contains items i × (i.owned ≡ storage_pool declaration pool))

-- The pool of an object exists, where it is from one.
abbrev pub HasPool : List Master → Object → Type 0
HasPool masters object = IfSome object.cell.home.pool (Exists (items_of masters))

-- The number of the declared pool that is owned, where one is.
abbrev pub pool_owned : Owned → Option ℕ
pool_owned (declared x) = None
pool_owned (collection access pool) = None
pool_owned (record_object t) = None
pool_owned (storage_pool declaration number) = Some number

-- Two items are not pools of one number.
abbrev pub OwnTwoPools : Item → Item → Type 0
OwnTwoPools i j = Differ (pool_owned i.owned) (pool_owned j.owned)

-- No declared pool has the number of the standard one.
abbrev pub IsDeclaredPool : Item → Type 0
IsDeclaredPool i = IfSome (pool_owned i.owned) (λ pool. 0 < pool)

-- The words of an object are back.
abbrev pub IsBack : Object → Type 0
IsBack object = object.out ≡ false

-- What every run keeps: the events so far, and the state that they lead to.
pub record Law (events : List Event) (last : State) : Type 0 where
  -- the words of an object go back at most once (13.11.2)
  pub back_once : AllPairs BackTwoObjects events
  -- a controlled value is finalized at most once (7.6.1)
  pub finalized_once : AllPairs FinalizedTwoValues events
  -- nothing is followed after its words went back (13.11.2)
  pub followed_before_back : AllPairs FollowedBeforeBack events
  -- at the leaving of a master, what was created later goes earlier (7.6.1)
  pub in_reverse : AllPairs InReverseOrder events
  -- words go back to the pool that they came from, and at a leaving with the item that is the object's home (13.11, 7.6.1)
  pub back_home : All (IsBackHome last.heap) events
  -- the words of an object are back exactly where an event says so
  pub back_is_told : (o : Id) (object : Object) → object_at last.heap o ≡ Some object → IsBack object ↔ Happened (GivesBackOf o) events
  -- numbers fall along the masters that are entered, and along their items: what was created later has a greater one (7.6.1)
  pub items_fall : AllPairs Falls (items_of last.masters)
  pub masters_fall : AllPairs MastersFall last.masters
  -- as long as the words of an object are out, its home is an item of a master that is entered, of the object's pool: so they are back once that one was
  -- left (7.6.1, 13.11)
  pub housed : (o : Id) (object : Object) → object_at last.heap o ≡ Some object → object.out ≡ true → IsHoused last.masters object
  -- and its pool exists: so a pool is gone only when the words of all its objects are back (13.11)
  pub pooled : (o : Id) (object : Object) → object_at last.heap o ≡ Some object → object.out ≡ true → HasPool last.masters object
  -- no two pools that exist have one number
  pub pools_differ : AllPairs OwnTwoPools (items_of last.masters) × All IsDeclaredPool (items_of last.masters)

-- A master is the innermost one.
abbrev pub IsInnermost : ℕ → List Master → Type 0
IsInnermost m [] = ⊥
IsInnermost m (n ∷ ns) = n.number ≡ m

-- Only the innermost master is being left, among those that are entered: whichever was entered later has been left before (7.6.1).
abbrev pub LeavesInnermost : Event → List Master → Type 0
LeavesInnermost e masters = IfSome (left_by e) (λ m. IsInnermost m masters)

-- A run has come to its end.
abbrev pub HasEnded : Halt → Type 0
HasEnded Finished = Unit {0}
HasEnded (Unhandled e) = Unit {0}
HasEnded (Escaped e) = ⊥
HasEnded (Erroneous why) = ⊥
HasEnded Stuck = ⊥
HasEnded Memory = ⊥
