-- What holds of masters in every run of every program, whatever its input and whatever is granted and picked.

use Rattle.std.specs.Prelude.{◌≡◌, ℕ, ℤ, ◌≢◌, ◌<◌, ◌+◌, Bool, List, [], ◌∷◌, length, Option, Some, None, All, AllPairs, Contains, IfSome}
use Rattle.ada_program.specs.declared.program.Program.{Program}
use Rattle.ada_program.specs.declared.program.TypeDefinition.{TypeDefinition}
use Rattle.ada_program.specs.Typed.{pool_named}
use Rattle.ada_program.specs.ProgramForm.{body_forms}
use Rattle.ada_meaning.specs.declared.state.Value.{Value}
use Rattle.ada_meaning.specs.Event.{Left, Request, New, Gone}
use Rattle.ada_meaning.specs.Step.{halts, moves, tells, asks, picks}
use Rattle.ada_meaning.specs.State.{Owned, declared, collection, record_object, storage_pool, Item, Master}
use Rattle.ada_meaning.specs.Named.{State, Next, next}
use Rattle.ada_meaning.specs.Run.{Event, Choice, Step, Run, first_state}
use Rattle.ada_meaning.specs.Law.{leaving_of, master_in, Differ, InReverseOrder, items_of, Falls, MastersFall, LeavesInnermost, OwnTwoPools, IsDeclaredPool}

-- Of the events of each run of each program, and the state that it comes to.
abbrev pub InEveryRun : (List Event → State → Type 0) → Type 0
InEveryRun P =
    (program : Program) (input : List ℤ) (events : List Event) (last : State)
    → Run program (first_state program input) events last → P events last

-- At the leaving of one master, items come in reverse order of their creation (7.6.1).
abbrev pub LeavesInReverse : Type 0
LeavesInReverse = InEveryRun (λ events last. AllPairs InReverseOrder events)

-- Whatever step a run comes to: the master that it leaves, or at whose leaving something goes, is the innermost one (7.6.1).
abbrev pub InnerFirst : Type 0
InnerFirst =
    (program : Program) (input : List ℤ) (events : List Event) (before after : State) (choice : Choice) (event : Event)
    → Run program (first_state program input) events before → Step program before choice event after
    → LeavesInnermost event before.masters

-- Numbers fall along the items of the masters that are entered.
abbrev pub ItemNumbersFall : Type 0
ItemNumbersFall = InEveryRun (λ events last. AllPairs Falls (items_of last.masters))

-- Numbers fall along the masters that are entered, from the innermost one on.
abbrev pub MasterNumbersFall : Type 0
MasterNumbersFall = InEveryRun (λ events last. AllPairs MastersFall last.masters)

-- The number of a master is below the next one.
abbrev pub IsBelow : ℕ → Master → Type 0
IsBelow n m = m.number < n

-- So it is of each master that is entered.
abbrev pub EnteredBelowNext : Type 0
EnteredBelowNext = InEveryRun (λ events last. All (IsBelow last.next) last.masters)

-- The master that has been left by an event.
abbrev pub left_of : Event → Option ℕ
left_of (Left master) = Some master
left_of e = None

-- Two masters have been left.
abbrev pub LeftTwoMasters : Event → Event → Type 0
LeftTwoMasters e f = Differ (left_of e) (left_of f)

-- No master is left twice (7.6.1).
abbrev pub LeftOnce : Type 0
LeftOnce = InEveryRun (λ events last. AllPairs LeftTwoMasters events)

-- What goes at the leaving of a master goes before that one has been left.
abbrev pub GoesBeforeLeft : Event → Event → Type 0
GoesBeforeLeft e f = Differ (left_of e) (master_in (leaving_of f))

-- Once a master has been left, nothing goes at its leaving (7.6.1).
abbrev pub NothingAfterLeft : Type 0
NothingAfterLeft = InEveryRun (λ events last. AllPairs GoesBeforeLeft events)

-- Pools.

-- In every run of every program, of the program and the state that the run comes to.
abbrev pub InItsRuns : (Program → State → Type 0) → Type 0
InItsRuns P =
    (program : Program) (input : List ℤ) (events : List Event) (last : State)
    → Run program (first_state program input) events last → P program last

-- A pool is the standard one, where an access type has no declared pool; else it is one of these items, and that of the declaration (13.11).
abbrev pub IsPoolOf : List Item → (declaration : Option ℕ) → (pool : ℕ) → Type 0
IsPoolOf items None pool = pool ≡ 0
IsPoolOf items (Some p) pool = (i : Item) × Contains items i × (i.owned ≡ storage_pool p pool)

-- The pool of a collection, where it has one, is the one that its access type has, and was created before the collection.
abbrev pub HasItsPool : List TypeDefinition → (older : List Item) → Owned → Type 0
HasItsPool types older (declared x) = Unit {0}
HasItsPool types older (collection access pool) = IfSome pool (IsPoolOf older (pool_named types access))
HasItsPool types older (record_object t) = Unit {0}
HasItsPool types older (storage_pool declaration number) = Unit {0}

-- So it is of each collection among these items, newest first.
abbrev pub HaveTheirPools : List TypeDefinition → List Item → Type 0
HaveTheirPools types [] = Unit {0}
HaveTheirPools types (i ∷ is) = HasItsPool types is i.owned × HaveTheirPools types is

-- Each open collection has the pool of its access type, which lasts as long: it was created before, and so it goes later (13.11, 7.6.1).
abbrev pub PoolsLast : Type 0
PoolsLast = InItsRuns (λ program last. HaveTheirPools program.types.items (items_of last.masters))

-- A collection has no pool only where its access type has none that was created before.
abbrev pub TakesItsPool : List TypeDefinition → (older : List Item) → Owned → Type 0
TakesItsPool types older (collection access None) = (pool : ℕ) → IsPoolOf older (pool_named types access) pool → ⊥
TakesItsPool types older what = Unit {0}

-- So it is of each collection among these items, newest first.
abbrev pub TakeTheirPools : List TypeDefinition → List Item → Type 0
TakeTheirPools types [] = Unit {0}
TakeTheirPools types (i ∷ is) = TakesItsPool types is i.owned × TakeTheirPools types is

-- No open collection goes without a pool that was there for it (13.11).
abbrev pub PoolsAreTaken : Type 0
PoolsAreTaken = InItsRuns (λ program last. TakeTheirPools program.types.items (items_of last.masters))

-- No two pools that exist have one number, and none has that of the standard pool.
abbrev pub PoolsDiffer : Type 0
PoolsDiffer = InItsRuns (λ program last. AllPairs OwnTwoPools (items_of last.masters) × All IsDeclaredPool (items_of last.masters))

-- A declared pool that exists (13.11): its declaration, and the number that it has in the run.
pub record PoolThere : Type 0 where
  pub declaration : ℕ
  pub number : ℕ

-- The pools that an item is, if it is one, and that outer ones are.
abbrev pub and_pool : Owned → List PoolThere → List PoolThere
and_pool (declared x) outer = outer
and_pool (collection access pool) outer = outer
and_pool (record_object t) outer = outer
and_pool (storage_pool declaration number) outer = record { declaration = declaration; number = number } ∷ outer

-- The pools among these items, newest first.
abbrev pub pools_among : List Item → List PoolThere
pools_among [] = []
pools_among (i ∷ is) = and_pool i.owned (pools_among is)

-- The pools that exist.
abbrev pub pools_there : State → List PoolThere
pools_there s = pools_among (items_of s.masters)

-- What is told of pools is so: a pool that begins is one more, under the next number, and the pool that is gone was the newest one (13.11).
abbrev pub IsTold : (before : List PoolThere) → Request Value → (after : List PoolThere) → Type 0
IsTold before (New number declaration) after = (number ≡ length before + 1) × (after ≡ record { declaration = declaration; number = number } ∷ before)
IsTold before (Gone number) after = (declaration : ℕ) × (before ≡ record { declaration = declaration; number = number } ∷ after)
IsTold before request after = after ≡ before

-- No pool begins or goes without that.
abbrev pub TellsPools : (before : List PoolThere) → Next → Type 0
TellsPools before (halts halt) = Unit {0}
TellsPools before (moves e after) = pools_there after ≡ before
TellsPools before (tells request e after) = IsTold before request (pools_there after)
TellsPools before (asks request answered) = (granted : Bool) → pools_there (answered granted) ≡ before
TellsPools before (picks n taken) = (i : ℕ) → pools_there (taken i) ≡ before

-- Whatever comes next in a run, as long as a master is entered: the pools that have been told to begin, and not to be gone, are those that exist.
abbrev pub PoolsAreTold : Type 0
PoolsAreTold = InItsRuns (λ program last. last.masters ≢ [] → TellsPools (pools_there last) (next program.types.items (body_forms program) last))
