-- The laws of finalization over whole runs (7.6, 7.6.1).

use Rattle.std.specs.Prelude.{◌≡◌, ℕ, ◌<◌, true, List, [], ◌∷◌, ◌++◌, Option, Some, None, All, AllPairs, Contains, IfSome}
use Rattle.std.specs.List.{slice_get}
use Rattle.ada_parts.specs.Shape.{Shape}
use Rattle.ada_parts.specs.Part.{Part, LiesIn, parts_at}
use Rattle.ada_program.specs.declared.program.TypeDefinition.{TypeDefinition}
use Rattle.ada_meaning.specs.declared.event.Birth.{Birth}
use Rattle.ada_meaning.specs.declared.event.Birth.TheVariants.{Creation, Copy, Adjustment}
use Rattle.ada_meaning.specs.declared.event.Cause.{Cause}
use Rattle.ada_meaning.specs.declared.event.Cause.TheVariants.{Leaving, Freeing, Assigning, Undoing}
use Rattle.ada_meaning.specs.declared.state.Id.{Id}
use Rattle.ada_meaning.specs.declared.state.Value.{Value}
use Rattle.ada_meaning.specs.Event.{Born, Finalized}
use Rattle.ada_meaning.specs.Frame.{Frame}
use Rattle.ada_meaning.specs.Frame as frame
use Rattle.ada_meaning.specs.Heap.{PartState}
use Rattle.ada_meaning.specs.Step.{parts_held}
use Rattle.ada_meaning.specs.Named.{Object, State, object_at}
use Rattle.ada_meaning.specs.Run.{Event}
use Rattle.ada_meaning.specs.Law.{named_by, back_of, cause_of, ControlledValue, controlled_by, finalized_of, Between, Differ, Happened, GivesBackOf}

-- The controlled value that has come to exist.
abbrev pub born_of : Event → Option ControlledValue
born_of (Born object part turn type number by) = controlled_by (named_by object) part turn
born_of e = None

-- The object of a controlled value.
abbrev pub object_in : Option ControlledValue → Option Id
object_in None = None
object_in (Some v) = Some v.object

-- Two controlled values come to exist.
abbrev pub BornTwoValues : Event → Event → Type 0
BornTwoValues e f = Differ (born_of e) (born_of f)

-- What is finalized does not come to exist later.
abbrev pub BornBeforeFinalized : Event → Event → Type 0
BornBeforeFinalized e f = Differ (finalized_of e) (born_of f)

-- Once the words of an object went back, nothing of it comes to exist, and nothing of it is finalized (13.11.2).
abbrev pub NothingAfterBack : Event → Event → Type 0
NothingAfterBack e f = Differ (back_of e) (object_in (born_of f)) × Differ (back_of e) (object_in (finalized_of f))

-- An event tells that this value has come to exist, or that it is finalized.
abbrev pub Bears : ControlledValue → Event → Type 0
Bears v e = born_of e ≡ Some v

abbrev pub Finalizes : ControlledValue → Event → Type 0
Finalizes v e = finalized_of e ≡ Some v

-- What is finalized has come to exist.
abbrev pub IsBorn : List Event → Event → Type 0
IsBorn events e = IfSome (finalized_of e) (λ v. Happened (Bears v) events)

-- Each value that came to exist has been finalized where the words of its object are back.
abbrev pub FinalizedByBack : List Event → Type 0
FinalizedByBack events = (v : ControlledValue) → Happened (Bears v) events → Happened (GivesBackOf v.object) events → Happened (Finalizes v) events

-- A part of an object, with its type.
pub record TreatedPart : Type 0 where
  pub object : Id
  pub part : Part

-- That part of an object, if a value names one.
abbrev pub treated_by : Option Id → (type part : ℕ) → Option TreatedPart
treated_by None type part = None
treated_by (Some o) type part = Some (record { object = o; part = record { of = type; number = part } })

-- The part whose value comes to exist, and how: as its object is created, or by an assignment (7.6).
pub record BegunPart : Type 0 where
  pub treated : TreatedPart
  pub by : Birth

-- That part, if there is one.
abbrev pub begun_by : Option TreatedPart → Birth → Option BegunPart
begun_by None by = None
begun_by (Some t) by = Some (record { treated = t; by = by })

-- The same of an event.
abbrev pub begun_of : Event → Option BegunPart
begun_of (Born object part turn type number by) = begun_by (treated_by (named_by object) type part) by
begun_of e = None

-- The part whose value is finalized by a cause.
pub record EndedPart : Type 0 where
  pub treated : TreatedPart
  pub cause : Cause

-- That part, if there is one.
abbrev pub ended_by : Option TreatedPart → Cause → Option EndedPart
ended_by None cause = None
ended_by (Some t) cause = Some (record { treated = t; cause = cause })

-- The same of an event.
abbrev pub ended_of : Event → Option EndedPart
ended_of (Finalized object part turn type number cause) = ended_by (treated_by (named_by object) type part) cause
ended_of e = None

-- Of one object, and by one creation or assignment, the part that begins later does not lie in the earlier one: components are initialized or adjusted
-- before the record in which they lie (7.6).
abbrev pub NotInside : List Shape → BegunPart → BegunPart → Type 0
NotInside shapes a b = a.by ≡ b.by → a.treated.object ≡ b.treated.object → LiesIn shapes b.treated.part.number a.treated.part → ⊥

-- So it is of two events.
abbrev pub PartsComeFirst : List Shape → Event → Event → Type 0
PartsComeFirst shapes e f = Between (NotInside shapes) (begun_of e) (begun_of f)

-- Of one object and one cause, the part that is finalized earlier does not lie in the later one: a record is finalized before its components (7.6.1).
abbrev pub NotAround : List Shape → EndedPart → EndedPart → Type 0
NotAround shapes a b = a.cause ≡ b.cause → a.treated.object ≡ b.treated.object → LiesIn shapes a.treated.part.number b.treated.part → ⊥

-- So it is of two events.
abbrev pub WholesComeFirst : List Shape → Event → Event → Type 0
WholesComeFirst shapes e f = Between (NotAround shapes) (ended_of e) (ended_of f)

-- The number of the assignment by which a value comes to exist, if it does by one.
abbrev pub adjusted_by : Birth → Option ℕ
adjusted_by Creation = None
adjusted_by Copy = None
adjusted_by (Adjustment number) = Some number

-- The same of an event.
abbrev pub adjusted_of : Event → Option ℕ
adjusted_of (Born object part turn type number by) = adjusted_by by
adjusted_of e = None

-- The number of the assignment that ends a value, if one does.
abbrev pub assigned_by : Option Cause → Option ℕ
assigned_by None = None
assigned_by (Some (Leaving master item)) = None
assigned_by (Some (Freeing number)) = None
assigned_by (Some (Assigning number)) = Some number
assigned_by (Some (Undoing number)) = None

-- An assignment finalizes nothing behind what it has adjusted: the old value of the target ends first (5.2, 7.6).
abbrev pub EndsBeforeItAdjusts : Event → Event → Type 0
EndsBeforeItAdjusts e f = Differ (adjusted_of e) (assigned_by (cause_of f))

-- Where the value of a part comes to exist, so have those of all parts that lie in it, by the same creation or assignment, before (7.6).
abbrev pub InsideIsBegun : List Shape → List Event → Type 0
InsideIsBegun shapes events =
    (earlier later : List Event) (e : Event) (b : BegunPart) (p : Part) → events ≡ earlier ++ e ∷ later → begun_of e ≡ Some b
    → LiesIn shapes p.number b.treated.part → Contains (parts_at shapes b.treated.part.of b.treated.part.number) p
    → Happened (λ f. begun_of f ≡ Some (record { treated = record { object = b.treated.object; part = p }; by = b.by })) earlier

-- No object is being initialized, adjusted or finalized, by what is left to do.
abbrev pub NothingTreated : List (Frame Value) → Type 0
NothingTreated [] = Unit {0}
NothingTreated (frame.Treats v treatment tasks ∷ k) = ⊥
NothingTreated (frame.Awaits v by done of part tasks ∷ k) = ⊥
NothingTreated (f ∷ k) = NothingTreated k

-- Each controlled part of an object has a value (7.6).
abbrev pub HasParts : List TypeDefinition → Object → Type 0
HasParts types x =
    (n : ℕ) → n < parts_held types x.cell.access → (p : PartState) × (slice_get x.cell.parts n ≡ Some p) × (p.alive ≡ true)

-- An object that is in its collection has the values of all its parts, but while one is initialized, adjusted or finalized (7.6, 7.6.1).
abbrev pub PartsStand : List TypeDefinition → State → Type 0
PartsStand types s = NothingTreated s.control → (o : Id) (x : Object) → object_at s.heap o ≡ Some x → x.listed ≡ true → HasParts types x

-- What every run keeps, for a program with these record types: of its events.
pub record FinalizationLaw (shapes : List Shape) (events : List Event) : Type 0 where
  -- a controlled value comes to exist once, and is finalized only after that (7.6)
  pub born_once : AllPairs BornTwoValues events
  pub born_before : AllPairs BornBeforeFinalized events
  pub is_born : All (IsBorn events) events
  -- it is finalized before the words of its object go back, and nothing of that comes to exist later (7.6.1, 13.11.2)
  pub finalized_by_back : FinalizedByBack events
  pub nothing_after_back : AllPairs NothingAfterBack events
  -- components are initialized and adjusted before the record in which they lie, and finalized after it (7.6, 7.6.1)
  pub parts_first : AllPairs (PartsComeFirst shapes) events
  pub wholes_first : AllPairs (WholesComeFirst shapes) events
  -- all of them are: where a record begins, each of its components has begun, too (7.6)
  pub inside_begun : InsideIsBegun shapes events
  -- an assignment ends what its target held before it adjusts anything (5.2, 7.6)
  pub assigned_once : AllPairs EndsBeforeItAdjusts events
