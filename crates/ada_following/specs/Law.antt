-- The runs of every program follow storage, and so the laws of storage are theirs. No rule of flow is needed for it.

use Rattle.std.specs.Prelude.{◌≡◌, ℕ, ◌<◌, ℤ, false, List, [], map, All}
use Rattle.std.specs.List.{slice_get}
use Rattle.ada_program.specs.declared.program.Program.{Program}
use Rattle.ada_program.specs.declared.program.TypeDefinition.{TypeDefinition}
use Rattle.ada_meaning.specs.declared.event.Halt.{Halt}
use Rattle.ada_meaning.specs.Named.{State}
use Rattle.ada_meaning.specs.Run.{Event, Run, Halts, first_state}
use Rattle.ada_meaning.specs.Law.{IsBack, HasEnded}
use Rattle.ada_storage.specs.State as storage
use Rattle.ada_storage.specs.State.{bit, in_items, placed}
use Rattle.ada_storage.specs.Law as storage_law
use Rattle.ada_storage.specs.Law.{EachTwo, Happened, IsBorn, IsFinalized, AfterBirth, Once, BeforeBack, InReverse, Falling}
use Rattle.ada_storage.specs.Example.{seen}
use Rattle.ada_storage.specs.Following.{Goes, RunOf}
use Rattle.ada_following.specs.Reading.{event_seen, is_out, IsUnderWay, IsSeenAs}

-- Of the events of each run of each program, and the state that it comes to.
abbrev pub InEveryRun : (List TypeDefinition → List Event → State → Type 0) → Type 0
InEveryRun P =
    (program : Program) (input : List ℤ) (events : List Event) (last : State)
    → Run program (first_state program input) events last → P program.types.items events last

-- Steps of storage that show one event, as a machine.
abbrev pub Going : storage.State → storage.Event → storage.State → Type 0
Going s e t = Goes e s t

-- What stands among the items of a master goes with it (7.6.1): that master is its home.
abbrev pub GoWith : (ℕ → storage.Object) → storage.Master → Type 0
GoWith objects m = (o : ℕ) → 0 < in_items o m.items → (objects o).home ≡ m.number

-- So it is of each master that is entered, and of what is being ended as one is left.
abbrev pub AreAtHome : (ℕ → storage.Object) → storage.Control → Type 0
AreAtHome objects storage.stops = Unit {0}
AreAtHome objects (storage.acts m k) = GoWith objects m × AreAtHome objects k
AreAtHome objects (storage.leaves m mode k) = GoWith objects m × AreAtHome objects k
AreAtHome objects (storage.finalizes m i o fs mode k) = ((objects o).home ≡ m.number) × GoWith objects m × AreAtHome objects k
AreAtHome objects (storage.frees n o fs k) = AreAtHome objects k
AreAtHome objects (storage.initializes o joins js done k) = AreAtHome objects k
AreAtHome objects (storage.undoes n o done k) = AreAtHome objects k
AreAtHome objects (storage.assigns n o parts fs k) = AreAtHome objects k
AreAtHome objects (storage.adjusts o parts js done k) = AreAtHome objects k

-- Event by event storage goes from its first state to one from which some steps that show nothing lead to what the last state is for storage. A program keeps
-- the number of the item that an object goes with, and storage that of the item's master.
pub record IsFollowed (types : List TypeDefinition) (events : List Event) (last : State) : Type 0 where
  pub reached : storage.State
  pub steps : RunOf Going storage_law.first_state (map event_seen events) reached
  pub to : storage.State
  pub rest : Going reached storage.quiet to
  pub homes : AreAtHome to.objects to.control
  pub reads : IsSeenAs types last to

-- Every run of every program follows storage.
abbrev pub RunsFollowStorage : Type 0
RunsFollowStorage = InEveryRun IsFollowed

-- In other words, one run of storage shows the same events.
pub record IsShown (types : List TypeDefinition) (events : List Event) (last : State) : Type 0 where
  pub shown : List storage.Event
  pub to : storage.State
  pub run : storage_law.Run storage_law.first_state shown to
  pub alike : seen shown ≡ seen (map event_seen events)
  pub reads : IsSeenAs types last to

-- So it is for every run.
abbrev pub RunsAreShown : Type 0
RunsAreShown = InEveryRun IsShown

-- After the words of an object went back nothing of it comes to exist, nothing of it is finalized, and its words do not go back again (13.11.2).
abbrev pub NothingAfterBack : Type 0
NothingAfterBack = InEveryRun (λ types events last. EachTwo BeforeBack (map event_seen events))

-- At the leaving of one master, what was created later goes earlier (7.6.1).
abbrev pub LeavesInReverse : Type 0
LeavesInReverse = InEveryRun (λ types events last. EachTwo InReverse (map event_seen events))

-- A controlled value is finalized at most once (7.6.1).
abbrev pub FinalizedOnce : Type 0
FinalizedOnce = InEveryRun (λ types events last. EachTwo Once (map event_seen events))

-- What is finalized has come to exist before (7.6.1).
abbrev pub BornBefore : Type 0
BornBefore = InEveryRun (λ types events last. AfterBirth (λ v. ⊥) (map event_seen events))

-- Where a run has come to its end, each master has been left, and the words of each object are back (7.6.1).
abbrev pub AllBack : Type 0
AllBack =
    (program : Program) (input : List ℤ) (events : List Event) (last : State) (halt : Halt)
    → Run program (first_state program input) events last → Halts program last halt → HasEnded halt → (last.masters ≡ []) × All IsBack last.heap

-- Each controlled value that came to exist has been finalized where the words of its object are back (7.6.1, 13.11.2).
abbrev pub FinalizedByBack : Type 0
FinalizedByBack = InEveryRun (λ types events last.
    (v : storage.Value) → Happened (IsBorn v) (map event_seen events) → is_out (slice_get last.heap v.object) ≡ false
    → Happened (IsFinalized v) (map event_seen events))

-- Where a run has come to its end, each controlled value that came to exist has been finalized (7.6.1).
abbrev pub AllFinalized : Type 0
AllFinalized =
    (program : Program) (input : List ℤ) (events : List Event) (last : State) (halt : Halt)
    → Run program (first_state program input) events last → Halts program last halt → HasEnded halt
    → (v : storage.Value) → Happened (IsBorn v) (map event_seen events) → Happened (IsFinalized v) (map event_seen events)

-- Of each state of a run.
abbrev pub InEveryState : (List TypeDefinition → State → Type 0) → Type 0
InEveryState P = InEveryRun (λ types events last. P types last)

-- An object whose words are out has one place: it is an item of a master that is entered, or a member of a collection of one, or it is being initialized or
-- ended; and an object whose words are back has none.
abbrev pub HasOnePlace : Type 0
HasOnePlace = InEveryState (λ types s.
    (c : storage.Control) × IsUnderWay types s.heap s.control s.masters c × ((o : ℕ) → placed o c ≡ bit (is_out (slice_get s.heap o))))

-- Masters are left inner first (7.6.1): numbers fall along those that are entered, and only the innermost has a step.
abbrev pub MastersFall : Type 0
MastersFall = InEveryState (λ types s. (c : storage.Control) × IsUnderWay types s.heap s.control s.masters c × Falling c)
