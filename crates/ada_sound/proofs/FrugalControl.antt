-- The body of an operation runs that touches storage, a frugal one (7.6, 7.6.1, 13.11.2), or one that it calls (6.4), or the operation of an object that it
-- frees, allocates or declares: what is left before its end. Where bodies may allocate and free objects with controlled parts, these are initialized first, and
-- finalized, also where an exception comes out of an Initialize; and where they may declare record objects, these are finalized where their master is left.
-- The body of an operation itself may assign to records with such parts (5.2), for which no Adjust is called, and no Finalize, or which lie in an object that the
-- body declares, so that no operation of that runs. Copies that are declared (3.3.1) are adjusted, too; an Adjust may be called for these where none tracks.

use Rattle.ada_meaning.specs.declared.state.Value.TheVariants.{Null}
use Rattle.std.proofs.Common.{◌≡◌, ℕ, suc, ◌≤◌, Bool, true, false, ◌&&◌, List, [], ◌∷◌, ◌++◌, length, refl, sym, ap, subst, ◌⊎◌, inl, inr, arith, ◌∙◌}
use Rattle.std.specs.Prelude.{◌||◌, Some}
use Rattle.std.proofs.lemmas.Bool.{and_parts}
use Rattle.ada_program.specs.declared.program.TypeDefinition.{TypeDefinition}
use Rattle.ada_program.specs.Form.{ActualForm}
use Rattle.ada_program.specs.WellFormed.{finalization_of, object_named}
use Rattle.ada_quiet.specs.Calm.{is_known_calm}
use Rattle.ada_assigned.specs.Law as assigned
use Rattle.ada_finalized.specs.Law.{NoOperationRunsOn, finalized_before}
use Rattle.ada_program.specs.ProgramForm.{TypeForm, BodyForm}
use Rattle.ada_meaning.specs.declared.state.Value.{Value}
use Rattle.ada_meaning.specs.declared.state.Mode.{Mode}
use Rattle.ada_meaning.specs.declared.state.Mode.TheVariants.{Running, Raising, Exiting, Returning}
use Rattle.ada_meaning.specs.declared.event.Birth.{Birth}
use Rattle.ada_meaning.specs.declared.event.Cause.{Cause}
use Rattle.ada_meaning.specs.declared.event.Birth.TheVariants.{Creation, Copy, Adjustment}
use Rattle.ada_meaning.specs.declared.event.Cause.TheVariants.{Leaving, Freeing, Assigning, Undoing}
use Rattle.ada_meaning.specs.Frame.{Frame, is_return, Elaborates, Does, Decides, Repeats, Turns, Ranges, Counts, Exits, Handles, Closes, Leaves, Calls, Returns, Evaluates, Computes, Follows, TestsNull, Refers, RefersIn, Opens, OpensIn, Continues, Applies, AppliesAlone, Stores, Targets, StoresIn, TargetsRecord, StoresRecord, Assigns, Receives, Fills, Copies, Creates, FreesIn, Declares, DeclaresRecord, Writes, Ends, GivesBack, Resumes, Clears, ClearsIn, Treatment, begins, ends}
use Rattle.ada_meaning.specs.Frame as frame
use Rattle.ada_meaning.specs.State.{Owned, declared, collection, record_object, storage_pool, Item, Master}
use Rattle.ada_meaning.specs.Step.{all_tasks, operating, record_tasks, treating, halts, moves, tells, asks, picks}
use Rattle.ada_meaning.specs.Named.{State, Next, named}
use Rattle.ada_parts.specs.declared.tasks.Direction.{Direction}
use Rattle.ada_parts.specs.Task.{Task}
use Rattle.ada_parts.specs.Part.{Part}
use Rattle.ada_typed.proofs.Control.{is_operation}
use Rattle.ada_typed.proofs.Kept.{is_treatment}
use Rattle.ada_sound.proofs.Invariant.{Control, IsAwaited}
use Rattle.ada_sound.proofs.Allowance.{Allowance, is_unadjusted, may_assign, may_treat, may_create, may_fill, allocates_thriftily, are_thrifty_declarations, are_thrifty, are_thrifty_branches, are_thrifty_handlers, is_thrifty_body, thrifty_parts}
use Rattle.ada_sound.proofs.InsideRecords.{TasksInside}

-- An object ends in a body that frees it (13.11.2), or out of whose initialization an exception comes (7.6.1).
abbrev pub IsEnded : Treatment → Type 0
IsEnded (begins by done) = ⊥
IsEnded (ends (Leaving m item)) = ⊥
IsEnded (ends (Freeing number)) = Unit {0}
IsEnded (ends (Assigning number)) = ⊥
IsEnded (ends (Undoing number)) = Unit {0}

-- Or where its master is left (7.6.1).
abbrev pub IsLeft : Treatment → Type 0
IsLeft (begins by done) = ⊥
IsLeft (ends (Leaving m item)) = Unit {0}
IsLeft (ends (Freeing number)) = ⊥
IsLeft (ends (Assigning number)) = ⊥
IsLeft (ends (Undoing number)) = ⊥

-- Or a record of it is assigned to (5.2).
abbrev pub IsAssigned : Cause → Type 0
IsAssigned (Leaving m item) = ⊥
IsAssigned (Freeing number) = ⊥
IsAssigned (Assigning number) = Unit {0}
IsAssigned (Undoing number) = ⊥

-- Or it is initialized, in the body of another operation that allocates or declares it (4.8, 3.3.1), or adjusted as a copy.
abbrev pub IsInside : Treatment → Type 0
IsInside (begins Creation done) = Unit {0}
IsInside (begins Copy done) = Unit {0}
IsInside (begins (Adjustment number) done) = Unit {0}
IsInside (ends cause) = (IsEnded (ends cause) ⊎ IsLeft (ends cause)) ⊎ IsAssigned cause

-- A master of such a body owns variables, and record objects, where it may declare some.
abbrev pub IsOwnedBy : Allowance → Owned → Type 0
IsOwnedBy allowance (declared x) = Unit {0}
IsOwnedBy allowance (collection access pool) = ⊥
IsOwnedBy allowance (record_object t) = (allowance.objects ≡ true)
IsOwnedBy allowance (storage_pool declaration number) = ⊥

abbrev pub AreOwnedBy : Allowance → List Item → Type 0
AreOwnedBy allowance [] = Unit {0}
AreOwnedBy allowance (i ∷ is) = IsOwnedBy allowance i.owned × AreOwnedBy allowance is

-- An operation waits first.
abbrev pub waits_first : Control → Bool
waits_first k = assigned.waits_first k

-- The body that runs is that of an operation itself: one waits behind its end. Else it is one that is called.
abbrev pub own_in : Control → Bool
own_in k = assigned.is_of_operation k

-- So it is where an object is treated before.
pub own_treating : (v : Value) (treatment : Treatment) (tasks : List Task) (k : Control) → own_in (treating v treatment tasks k) ≡ own_in k
own_treating v treatment [] k = refl
own_treating v treatment (task ∷ tasks) k = refl

-- A part of a record is adjusted (7.6): one is assigned to, or a record object gets its initial value.
abbrev pub IsAdjusted : Birth → Type 0
IsAdjusted Creation = ⊥
IsAdjusted Copy = Unit {0}
IsAdjusted (Adjustment number) = Unit {0}

-- Another one is copied next.
abbrev pub copies_first : Control → Bool
copies_first [] = false
copies_first (Copies first t ∷ k) = true
copies_first (f ∷ k) = false

-- All that is left to be treated is of a record of a type of which this is known.
abbrev pub AreKnown : List TypeForm → (known : List Bool) → List Task → Type 0
AreKnown types known tasks = (t : ℕ) × (is_known_calm known (finalization_of types t) ≡ true) × TasksInside types t tasks

-- The components of another record are copied next, and stored in a record of this object.
pub record IsReplacing (v : Value) (k : Control) : Type 0 where
  pub first : ℕ
  pub record_type : ℕ
  pub to : ℕ
  pub width : ℕ
  pub rest : Control
  pub is : k ≡ Copies first record_type ∷ StoresRecord v to width ∷ rest

-- The object of the record that is finalized, adjusted or stored in next, as one is that is assigned to.
abbrev pub replaced_in : Control → Value
replaced_in [] = Null
replaced_in (frame.Treats v treatment tasks ∷ k) = v
replaced_in (frame.Awaits v by done of part tasks ∷ k) = v
replaced_in (Copies first t ∷ k) = replaced_in k
replaced_in (StoresRecord v first count ∷ k) = v
replaced_in (frame.Confines ∷ k) = replaced_in k
replaced_in (f ∷ k) = Null

-- A body assigns to a record of this object (5.2): that of an operation itself to one for which no Finalize is called; or no operation of the object runs.
abbrev pub AssignsThere : Allowance → Value → (tasks : List Task) → Control → Type 0
AssignsThere frugal v tasks k =
    (frugal.treats_parts ≡ true) × IsReplacing v k × (((own_in k ≡ true) × AreKnown frugal.types frugal.unfinalized tasks) ⊎ NoOperationRunsOn v k)

-- All that is to be done for a record of a type is of such a record, and so is what is to be done for an object that is known by one.
abbrev pub RecordIsInside : Allowance → List TypeDefinition → Type 0
RecordIsInside frugal tds =
    ((t : ℕ) (direction : Direction) (first : ℕ) → TasksInside frugal.types t (record_tasks tds t direction first))
    × ((t r : ℕ) (direction : Direction) → object_named frugal.types (Some t) ≡ Some r → TasksInside frugal.types r (all_tasks tds t direction))

-- What it takes to assign to one.
pub assigned_parts : (frugal : Allowance) (t : ℕ) → may_assign frugal t ≡ true
    → (frugal.treats_parts ≡ true) × (((frugal.objects && frugal.untracked) || is_unadjusted frugal t) ≡ true)
assigned_parts frugal t may = and_parts frugal.treats_parts ((frugal.objects && frugal.untracked) || is_unadjusted frugal t) may

-- A record that is assigned has no controlled parts, or that may be assigned.
pub assigned_with : (parts bare may : Bool) → (bare ≡ true → parts ≡ false) → (bare || may) ≡ true → parts ≡ true → may ≡ true
assigned_with parts true may none is parted = absurd (let bare = none refl in cc (bare, parted))
assigned_with parts false may none is parted = is

-- No operation runs of a record object that gets its initial value (3.3.1).
abbrev pub IsAlone : Value → Birth → Control → Type 0
IsAlone v Creation k = Unit {0}
IsAlone v Copy k = NoOperationRunsOn v k
IsAlone v (Adjustment number) k = Unit {0}

abbrev pub UnadjustedThere : Allowance → Value → Birth → (tasks : List Task) → Control → Type 0
UnadjustedThere frugal v by tasks k = (frugal.treats_parts ≡ true) × AreKnown frugal.types frugal.unadjusted tasks × IsAlone v by k

-- That is adjusted behind it (7.6), and so is a record object that gets its initial value, and for which no Adjust is called,
abbrev pub AdjustsThere : Allowance → Value → Birth → (tasks : List Task) → Control → Type 0
AdjustsThere frugal v by tasks k = IsAdjusted by × UnadjustedThere frugal v by tasks k

-- and finalized before another one is copied to it.
abbrev pub EndsAssigned : Allowance → Value → Cause → (tasks : List Task) → Control → Type 0
EndsAssigned frugal v cause tasks k = IsAssigned cause × (copies_first k ≡ true) × AssignsThere frugal v tasks k

-- A new object begins first, or a record is adjusted, or that comes next behind what is copied to it.
abbrev pub begins_first : Control → Bool
begins_first [] = false
begins_first (frame.Treats v (begins by done) tasks ∷ k) = true
begins_first (frame.Treats v (ends cause) tasks ∷ k) = begins_first k
begins_first (frame.Awaits v by done of part tasks ∷ k) = true
begins_first (Copies first t ∷ k) = begins_first k
begins_first (StoresRecord v first count ∷ k) = begins_first k
begins_first (frame.Confines ∷ k) = begins_first k
begins_first (f ∷ k) = false

-- Where a new object begins, that goes on, or an exception comes out of it.
abbrev pub MayBegin : Mode → Type 0
MayBegin Running = Unit {0}
MayBegin (Raising e) = Unit {0}
MayBegin Exiting = ⊥
MayBegin Returning = ⊥

-- While a master is left, that goes on; and where a Finalize of an object in it ends, whatever comes out of that.
abbrev pub MayLeave : Mode → Control → Type 0
MayLeave mode [] = (mode ≡ Running)
MayLeave mode (frame.Confines ∷ k) = MayBegin mode
MayLeave mode (f ∷ k) = (mode ≡ Running)

-- The object whose operation runs in front of this, if one does.
abbrev pub operated_in : Control → List Value
operated_in [] = []
operated_in (frame.Awaits v by done of part tasks ∷ k) = v ∷ []
operated_in (frame.Confines ∷ k) = finalized_before k ∷ []
operated_in (f ∷ k) = []

-- What a frame of such a body does, or of one that it calls: what it allocates and frees has no controlled parts, unless the body may treat others. While a
-- master is left, or a new object begins, that is the first frame: below.
abbrev pub FrugalFrame : Allowance → Frame Value → Type 0
FrugalFrame frugal (Elaborates ds fs hs) = (are_thrifty_declarations frugal ds ≡ true) × (are_thrifty frugal fs ≡ true) × (are_thrifty_handlers frugal hs ≡ true)
FrugalFrame frugal (Does fs) = (are_thrifty frugal fs ≡ true)
FrugalFrame frugal (Decides fs branches) = (are_thrifty frugal fs ≡ true) × (are_thrifty_branches frugal branches ≡ true)
FrugalFrame frugal (Repeats condition fs) = (are_thrifty frugal fs ≡ true)
FrugalFrame frugal (Turns e fs) = (are_thrifty frugal fs ≡ true)
FrugalFrame frugal (Ranges x fs) = (are_thrifty frugal fs ≡ true)
FrugalFrame frugal (Counts x value last fs) = (are_thrifty frugal fs ≡ true)
FrugalFrame frugal Exits = Unit {0}
FrugalFrame frugal (Handles hs) = (are_thrifty_handlers frugal hs ≡ true)
FrugalFrame frugal Closes = Unit {0}
FrugalFrame frugal (Calls number b actuals) = (is_thrifty_body frugal b ≡ true)
FrugalFrame frugal (Evaluates right) = (allocates_thriftily frugal right ≡ true)
FrugalFrame frugal (Computes e) = Unit {0}
FrugalFrame frugal (Follows cs) = Unit {0}
FrugalFrame frugal (TestsNull equal) = Unit {0}
FrugalFrame frugal (Refers path) = Unit {0}
FrugalFrame frugal (RefersIn place t) = Unit {0}
FrugalFrame frugal (Opens path) = Unit {0}
FrugalFrame frugal (OpensIn c) = Unit {0}
FrugalFrame frugal (Continues links) = Unit {0}
FrugalFrame frugal (Applies operator) = Unit {0}
FrugalFrame frugal (AppliesAlone operator) = Unit {0}
FrugalFrame frugal (Stores x) = Unit {0}
FrugalFrame frugal (Targets c right) = (allocates_thriftily frugal right ≡ true)
FrugalFrame frugal (StoresIn v c) = Unit {0}
FrugalFrame frugal (TargetsRecord first t items) = Unit {0}
FrugalFrame frugal (StoresRecord v first count) = Unit {0}
FrugalFrame frugal (Assigns t) = (may_assign frugal t ≡ true)
FrugalFrame frugal (Receives c) = Unit {0}
FrugalFrame frugal (Fills items) = Unit {0}
FrugalFrame frugal (Copies first t) = Unit {0}
FrugalFrame frugal (Creates access count) = (may_create frugal access ≡ true)
FrugalFrame frugal (FreesIn access c) = (may_treat frugal access ≡ true)
FrugalFrame frugal (Declares x) = Unit {0}
FrugalFrame frugal (DeclaresRecord x t) = (may_fill frugal t ≡ true)
FrugalFrame frugal Writes = Unit {0}
FrugalFrame frugal (Ends v) = Unit {0}
FrugalFrame frugal (GivesBack v cause pool) = Unit {0}
FrugalFrame frugal (Resumes mode) = Unit {0}
FrugalFrame frugal (Clears x) = Unit {0}
FrugalFrame frugal (ClearsIn v c) = Unit {0}
FrugalFrame frugal f = ⊥

-- An object is finalized that is freed or undone, ceases to exist behind that, and no operation of it runs there.
abbrev pub EndsThere : Allowance → Value → Treatment → Control → Type 0
EndsThere frugal v treatment k = IsEnded treatment × (frugal.treats_parts ≡ true) × (finalized_before k ≡ v) × NoOperationRunsOn v k

-- An object is finalized whose master is left, ceases to exist behind that, and no operation of it runs there.
abbrev pub LeavesThere : Allowance → Value → Treatment → Control → Type 0
LeavesThere frugal v treatment k = IsLeft treatment × (frugal.objects ≡ true) × (finalized_before k ≡ v) × NoOperationRunsOn v k

-- The operation of such an object runs in front of this, and behind what is left of that no other one of the object does.
abbrev pub LeavesOperation : Allowance → Control → Type 0
LeavesOperation frugal k = (frugal.objects ≡ true) × NoOperationRunsOn (finalized_before k) k

-- So it is with one that is freed or undone.
abbrev pub EndsOperation : Allowance → Control → Type 0
EndsOperation frugal k = (frugal.treats_parts ≡ true) × NoOperationRunsOn (finalized_before k) k

-- And with one of which a record is assigned to.
abbrev pub ReplacesOperation : Allowance → Control → Type 0
ReplacesOperation frugal k = (frugal.treats_parts ≡ true) × (replaced_in k ≡ finalized_before k) × NoOperationRunsOn (finalized_before k) k

-- An object is created (3.3.1, 4.8), by default, or as a copy, or another one is copied to a record of it, where no Adjust tracks.
abbrev pub IsCreated : Allowance → Birth → Type 0
IsCreated frugal Creation = Unit {0}
IsCreated frugal Copy = (frugal.untracked ≡ true)
IsCreated frugal (Adjustment number) = (frugal.untracked ≡ true)

-- A new object begins, and behind that no operation of it runs.
abbrev pub BeginsThere : Allowance → Value → Birth → Control → Type 0
BeginsThere frugal v by k = IsCreated frugal by × (frugal.objects ≡ true) × NoOperationRunsOn v k

-- What the frugal bodies of the program go by.
module _ (frugal : Allowance) where
  abbrev mutual
    -- What is left to do of the body, and of those that it calls, in these masters of their own, before this. Variables and record objects are declared in one
    -- of them. Where a body comes to its end, that is the end of all of it, or of one that is called, or of an operation: so it is of each of these objects,
    -- one after the other.
    pub FrugalLeads : (behind : Control) → (among : List Value) → Control → List Master → Type 0
    FrugalLeads behind among [] ms = ⊥
    FrugalLeads behind among (Returns actuals references ∷ k) ms =
        (((actuals ≡ []) × (references ≡ [])) × (ms ≡ []) × (k ≡ behind) × (among ≡ []))
        ⊎ (FrugalLeads behind among k ms ⊎ FrugalOperated behind among k ms)
    FrugalLeads behind among (Elaborates ds fs hs ∷ k) [] = ⊥
    FrugalLeads behind among (Elaborates ds fs hs ∷ k) (m ∷ ms) =
        (AreOwnedBy frugal m.items × FrugalFrame frugal (Elaborates ds fs hs)) × FrugalLeads behind among k ms
    FrugalLeads behind among (Closes ∷ k) [] = ⊥
    FrugalLeads behind among (Closes ∷ k) (m ∷ ms) = AreOwnedBy frugal m.items × FrugalLeads behind among k ms
    FrugalLeads behind among (Declares x ∷ k) [] = ⊥
    FrugalLeads behind among (Declares x ∷ k) (m ∷ ms) = FrugalFrame frugal (Declares x) × FrugalLeads behind among k (m ∷ ms)
    FrugalLeads behind among (DeclaresRecord x t ∷ k) [] = ⊥
    FrugalLeads behind among (DeclaresRecord x t ∷ k) (m ∷ ms) = FrugalFrame frugal (DeclaresRecord x t) × FrugalLeads behind among k (m ∷ ms)
    FrugalLeads behind among (frame.Treats v treatment tasks ∷ k) ms = EndsThere frugal v treatment k × FrugalLeads behind among k ms
    FrugalLeads behind among (frame.Confines ∷ k) ms = EndsOperation frugal k × FrugalLeads behind among k ms
    FrugalLeads behind among (f ∷ k) ms = FrugalFrame frugal f × FrugalLeads behind among k ms

    -- The innermost master is being left, and an object in it is finalized first, or has been; and then this is left to do.
    pub FrugalLeaves : (behind : Control) → (among : List Value) → Control → List Master → Type 0
    FrugalLeaves behind among [] ms = ⊥
    FrugalLeaves behind among (Leaves left ∷ k) [] = ⊥
    FrugalLeaves behind among (Leaves left ∷ k) (m ∷ ms) = AreOwnedBy frugal m.items × FrugalLeads behind among k ms
    FrugalLeaves behind among (Ends v ∷ k) ms = FrugalLeaves behind among k ms
    FrugalLeaves behind among (GivesBack v cause pool ∷ k) ms = FrugalLeaves behind among k ms
    FrugalLeaves behind among (frame.Treats v treatment tasks ∷ k) ms = LeavesThere frugal v treatment k × FrugalLeaves behind among k ms
    FrugalLeaves behind among (frame.Confines ∷ k) ms = LeavesOperation frugal k × FrugalLeaves behind among k ms
    FrugalLeaves behind among (f ∷ k) ms = ⊥

    -- A new object begins first (4.8, 3.3.1, 7.6), and then this is left to do; or the body assigns to a record (5.2): that is
    -- finalized, another one is copied to it, and it is adjusted.
    pub FrugalBegins : (behind : Control) → (among : List Value) → Control → List Master → Type 0
    FrugalBegins behind among [] ms = ⊥
    FrugalBegins behind among (frame.Treats v (begins by done) tasks ∷ k) ms =
        (BeginsThere frugal v by k ⊎ AdjustsThere frugal v by tasks k) × FrugalLeads behind among k ms
    FrugalBegins behind among (frame.Treats v (ends cause) tasks ∷ k) ms = EndsAssigned frugal v cause tasks k × FrugalBegins behind among k ms
    FrugalBegins behind among (Copies first t ∷ k) ms = FrugalBegins behind among k ms
    FrugalBegins behind among (StoresRecord v first count ∷ k) ms =
        ((replaced_in k ≡ v) × FrugalBegins behind among k ms) ⊎ FrugalLeads behind among k ms
    FrugalBegins behind among (frame.Awaits v by done of part tasks ∷ k) ms = BeginsThere frugal v by k × FrugalLeads behind among k ms
    FrugalBegins behind among (frame.Confines ∷ k) ms = ReplacesOperation frugal k × FrugalBegins behind among k ms
    FrugalBegins behind among (f ∷ k) ms = ⊥

    -- What is left behind an operation of the first of these objects: the object is finalized, or a record of it is that is assigned to, or it begins.
    pub FrugalOperated : (behind : Control) → (among : List Value) → Control → List Master → Type 0
    FrugalOperated behind among [] ms = ⊥
    FrugalOperated behind among (frame.Confines ∷ k) ms =
        (vs : List Value) × (among ≡ finalized_before k ∷ vs)
        × ((EndsOperation frugal k × FrugalLeads behind vs k ms)
        ⊎ ((LeavesOperation frugal k × FrugalLeaves behind vs k ms) ⊎ (ReplacesOperation frugal k × FrugalBegins behind vs k ms)))
    FrugalOperated behind among (frame.Awaits v by done of part tasks ∷ k) ms =
        (vs : List Value) × (among ≡ v ∷ vs) × BeginsThere frugal v by k × FrugalLeads behind vs k ms
    FrugalOperated behind among (f ∷ k) ms = ⊥

  -- What is left behind the end of a body.
  abbrev pub FrugalReturns : (behind : Control) → (among : List Value) → Control → List Master → Type 0
  FrugalReturns behind among k ms = FrugalLeads behind among k ms ⊎ FrugalOperated behind among k ms

  -- What comes next in the body.
  abbrev pub Frugal : (behind : Control) → (among : List Value) → Mode → Control → List Master → Type 0
  Frugal behind among mode k ms =
      FrugalLeads behind among k ms
      ⊎ ((MayLeave mode k × FrugalLeaves behind among k ms) ⊎ (MayBegin mode × FrugalBegins behind among k ms))

-- Is the end of a body next?
abbrev pub is_return_first : Control → Bool
is_return_first [] = false
is_return_first (f ∷ k) = is_return f

module _ (frugal : Allowance) (lower : List Master) (behind : Control) (among : List Value) where
  -- The body runs still, or one that it calls, or an operation of one of these objects, the nearest one first, in masters of their own, which own what these
  -- declare.
  pub record Frugally (after : State) : Type 0 where
    pub upper : List Master
    pub masters : after.masters ≡ upper ++ lower
    pub frugally : Frugal frugal behind among after.mode after.control upper

  -- So it does whatever comes next, if the run does not end.
  abbrev pub GoesFrugally : Next → Type 0
  GoesFrugally (halts halt) = Unit {0}
  GoesFrugally (moves e after) = Frugally after
  GoesFrugally (tells request e after) = Frugally after
  GoesFrugally (asks request answered) = (granted : Bool) → Frugally (answered granted)
  GoesFrugally (picks n taken) = (i : ℕ) → suc i ≤ n → Frugally (taken i)

-- What is left behind an operation waits for one.
pub operated_awaited : (frugal : Allowance) (back : Control) (among : List Value) (k : Control) (ms : List Master) → FrugalOperated frugal back among k ms → IsAwaited k
operated_awaited frugal back among [] ms q = absurd q
operated_awaited frugal back among (frame.Confines ∷ k) ms q = tt
operated_awaited frugal back among (frame.Awaits v by done of part tasks ∷ k) ms q = tt
operated_awaited frugal back among (f ∷ k) ms q = absurd q

-- It begins, in a master of its own.
pub frugal_begins : {mode : Mode} (frugal : Allowance) (b : BodyForm) → is_thrifty_body frugal b ≡ true → (behind : Control) → IsAwaited behind → (number : ℕ)
    → Frugal frugal behind [] mode (Elaborates b.declarations b.statements b.handlers ∷ Returns [] [] ∷ behind) (record { number = number; items = [] } ∷ [])
frugal_begins frugal b is behind awaited number =
    inl ((tt, thrifty_parts frugal b is), inl ((refl, refl), refl, refl, refl))

-- So it does as the operation of a part of an object.
pub frugal_starts :
    (frugal : Allowance) (procedure : ℕ) (b : BodyForm) → is_thrifty_body frugal b ≡ true → (reference : Value) (behind : Control) → IsAwaited behind → (s : State)
    → Frugally frugal s.masters behind [] (operating named procedure b reference behind s)
frugal_starts frugal procedure b is reference behind awaited s = record {
  upper = record { number = s.next; items = [] } ∷ [];
  masters = refl;
  frugally = frugal_begins frugal b is behind awaited s.next;
}

-- In front of what is left to do already, the body of another operation begins so.
pub frugal_starts_inside :
    (frugal : Allowance) (back : Control) (among : List Value) (upper lower : List Master) (procedure : ℕ) (b : BodyForm) → is_thrifty_body frugal b ≡ true
    → (reference : Value) (behind : Control) (s : State)
    → s.masters ≡ upper ++ lower → FrugalOperated frugal back among behind upper → Frugally frugal lower back among (operating named procedure b reference behind s)
frugal_starts_inside frugal back among upper lower procedure b is reference behind s masters leads = record {
  upper = record { number = s.next; items = [] } ∷ upper;
  masters = ap (λ (ms : List Master). record { number = s.next; items = [] } ∷ ms) masters;
  frugally =
      inl ((tt, thrifty_parts frugal b is), inr (inr leads));
}

-- An object that is freed or undone is finalized before this.
pub treating_leads :
    (frugal : Allowance) (back : Control) (among : List Value) (v : Value) (treatment : Treatment) (tasks : List Task) (k : Control) (ms : List Master) → EndsThere frugal v treatment k → FrugalLeads frugal back among k ms
    → FrugalLeads frugal back among (treating v treatment tasks k) ms
treating_leads frugal back among v treatment [] k ms ending q = q
treating_leads frugal back among v treatment (task ∷ tasks) k ms ending q = (ending, q)

-- So it is with one whose master is left.
pub treating_leaves :
    (frugal : Allowance) (back : Control) (among : List Value) (v : Value) (treatment : Treatment) (tasks : List Task) (k : Control) (ms : List Master) → LeavesThere frugal v treatment k
    → FrugalLeaves frugal back among k ms → FrugalLeaves frugal back among (treating v treatment tasks k) ms
treating_leaves frugal back among v treatment [] k ms ending q = q
treating_leaves frugal back among v treatment (task ∷ tasks) k ms ending q = (ending, q)

-- The operation of one of its parts is called: the others are finalized behind that.
pub ends_leads :
    (frugal : Allowance) (back : Control) (among : List Value) (v : Value) (treatment : Treatment) (tasks : List Task) (k : Control) (ms : List Master) → EndsThere frugal v treatment k → FrugalLeads frugal back among k ms
    → FrugalOperated frugal back (v ∷ among) (frame.Confines ∷ treating v treatment tasks k) ms
ends_leads frugal back among v treatment tasks k ms ending q =
    (among, ap (λ (w : Value). w ∷ among) (sym (before tasks)), inl ((ending.1, by tasks), treating_leads frugal back among v treatment tasks k ms ending q))
  where
    before : (left : List Task) → finalized_before (treating v treatment left k) ≡ v
    before [] = ending.2
    before (task ∷ left) = refl

    by : (left : List Task) → NoOperationRunsOn (finalized_before (treating v treatment left k)) (treating v treatment left k)
    by [] = subst (λ (w : Value). NoOperationRunsOn w k) (sym ending.2) ending.3
    by (task ∷ left) = ending.3

-- So it is where its master is left.
pub leaves_operated :
    (frugal : Allowance) (back : Control) (among : List Value) (v : Value) (treatment : Treatment) (tasks : List Task) (k : Control) (ms : List Master) → LeavesThere frugal v treatment k
    → FrugalLeaves frugal back among k ms → FrugalOperated frugal back (v ∷ among) (frame.Confines ∷ treating v treatment tasks k) ms
leaves_operated frugal back among v treatment tasks k ms ending q =
    (among, ap (λ (w : Value). w ∷ among) (sym (before tasks)), inr (inl ((ending.1, by tasks), treating_leaves frugal back among v treatment tasks k ms ending q)))
  where
    before : (left : List Task) → finalized_before (treating v treatment left k) ≡ v
    before [] = ending.2
    before (task ∷ left) = refl

    by : (left : List Task) → NoOperationRunsOn (finalized_before (treating v treatment left k)) (treating v treatment left k)
    by [] = subst (λ (w : Value). NoOperationRunsOn w k) (sym ending.2) ending.3
    by (task ∷ left) = ending.3

-- The object in which components are stored next is the one of that record.
pub replacing_before : (v : Value) (k : Control) → IsReplacing v k → finalized_before k ≡ v
replacing_before v k replacing = ap finalized_before replacing.is

pub replacing_in : (v : Value) (k : Control) → IsReplacing v k → replaced_in k ≡ v
replacing_in v k replacing = ap replaced_in replacing.is

-- The operation of one of its parts is called, where it is assigned to and no other operation of its object runs.
pub replaces_operated :
    (frugal : Allowance) (back : Control) (among : List Value) (v : Value) (cause : Cause) (tasks : List Task) (k : Control) (ms : List Master) → IsAssigned cause
    → copies_first k ≡ true → frugal.treats_parts ≡ true → IsReplacing v k → NoOperationRunsOn v k → FrugalBegins frugal back among k ms
    → FrugalOperated frugal back (v ∷ among) (frame.Confines ∷ treating v (ends cause) tasks k) ms
replaces_operated frugal back among v cause tasks k ms assigns copies treats replacing alone q =
    (among, ap (λ (w : Value). w ∷ among) (sym (before tasks)), inr (inr ((treats, same tasks, by tasks), goes tasks)))
  where
    before : (left : List Task) → finalized_before (treating v (ends cause) left k) ≡ v
    before [] = replacing_before v k replacing
    before (task ∷ left) = refl

    same : (left : List Task) → replaced_in (treating v (ends cause) left k) ≡ finalized_before (treating v (ends cause) left k)
    same [] = replacing_in v k replacing ∙ sym (replacing_before v k replacing)
    same (task ∷ left) = refl

    by : (left : List Task) → NoOperationRunsOn (finalized_before (treating v (ends cause) left k)) (treating v (ends cause) left k)
    by [] = subst (λ (w : Value). NoOperationRunsOn w k) (sym (replacing_before v k replacing)) alone
    by (task ∷ left) = alone

    goes : (left : List Task) → FrugalBegins frugal back among (treating v (ends cause) left k) ms
    goes [] = q
    goes (task ∷ left) = ((assigns, copies, (treats, replacing, inr alone)), q)

-- Or an operation begins a part of a new object.
pub begun_leads :
    (frugal : Allowance) (back : Control) (among : List Value) (v : Value) (by : Birth) (done : List Part) (of part : ℕ) (tasks : List Task) (k : Control) (ms : List Master)
    → BeginsThere frugal v by k → FrugalLeads frugal back among k ms
    → FrugalOperated frugal back (v ∷ among) (frame.Awaits v by done of part tasks ∷ k) ms
begun_leads frugal back among v by done of part tasks k ms beginning q = (among, refl, beginning, q)

-- A new object begins first, if anything is to be done for it.
pub beginning_frugal :
    (frugal : Allowance) (back : Control) (among : List Value) (v : Value) (by : Birth) (done : List Part) (tasks : List Task) (k : Control) (ms : List Master) → BeginsThere frugal v by k → FrugalLeads frugal back among k ms
    → Frugal frugal back among Running (treating v (begins by done) tasks k) ms
beginning_frugal frugal back among v by done [] k ms beginning q = inl q
beginning_frugal frugal back among v by done (task ∷ tasks) k ms beginning q = inr (inr (tt, (inl beginning, q)))

-- A record that was assigned to is adjusted first, if anything is to be done for that.
pub adjusting_frugal :
    (frugal : Allowance) (back : Control) (among : List Value) (v : Value) (by : Birth) (done : List Part) (tasks : List Task) (k : Control) (ms : List Master) → AdjustsThere frugal v by tasks k → FrugalLeads frugal back among k ms
    → Frugal frugal back among Running (treating v (begins by done) tasks k) ms
adjusting_frugal frugal back among v by done [] k ms adjusting q = inl q
adjusting_frugal frugal back among v by done (task ∷ tasks) k ms adjusting q = inr (inr (tt, (inr adjusting, q)))

-- So it is where its components are stored first,
pub storing_frugal :
    (frugal : Allowance) (back : Control) (among : List Value) (v : Value) (first count : ℕ) (by : Birth) (done : List Part) (tasks : List Task) (k : Control) (ms : List Master)
    → BeginsThere frugal v by k ⊎ AdjustsThere frugal v by tasks k → FrugalLeads frugal back among k ms
    → FrugalBegins frugal back among (StoresRecord v first count ∷ treating v (begins by done) tasks k) ms
storing_frugal frugal back among v first count by done [] k ms adjusting q = inr q
storing_frugal frugal back among v first count by done (task ∷ tasks) k ms adjusting q = inl (refl, (adjusting, q))

-- and where it is finalized before.
pub finalizing_frugal :
    (frugal : Allowance) (back : Control) (among : List Value) (v : Value) (cause : Cause) (tasks : List Task) (k : Control) (ms : List Master) → EndsAssigned frugal v cause tasks k
    → FrugalBegins frugal back among k ms → Frugal frugal back among Running (treating v (ends cause) tasks k) ms
finalizing_frugal frugal back among v cause [] k ms ending q = inr (inr (tt, q))
finalizing_frugal frugal back among v cause (task ∷ tasks) k ms ending q = inr (inr (tt, (ending, q)))

-- Where bodies treat no object with controlled parts, none is finalized, and no operation ends.
pub none_treated : (frugal : Allowance) → frugal.treats_parts ≡ false → (behind : Control) (among : List Value) (f : Frame Value) (k : Control) (ms : List Master)
    → FrugalLeads frugal behind among (f ∷ k) ms → (is_treatment f ≡ false) × (is_operation f ≡ false)
none_treated frugal none behind among (frame.Treats v treatment tasks) k ms q = let treats_parts = q.0.1 in absurd (cc (none, treats_parts))
none_treated frugal none behind among frame.Confines k ms q = let treats_parts = q.0.0 in absurd (cc (none, treats_parts))
none_treated frugal none behind among (frame.Awaits v by done of part tasks) k ms q = absurd q.0
none_treated frugal none behind among f k ms q = (refl, refl)

-- Where they declare no record object, none is finalized where a master is left: that is left first, or an object has been finalized, which is not one of
-- these.
pub none_left : (frugal : Allowance) → frugal.objects ≡ false → (behind : Control) (among : List Value) (f : Frame Value) (k : Control) (ms : List Master)
    → FrugalLeaves frugal behind among (f ∷ k) ms → (is_treatment f ≡ false) × (is_operation f ≡ false)
none_left frugal none behind among (frame.Treats v treatment tasks) k ms q = let may = q.0.1 in absurd (cc (none, may))
none_left frugal none behind among frame.Confines k ms q = let may = q.0.0 in absurd (cc (none, may))
none_left frugal none behind among (frame.Awaits v by done of part tasks) k ms q = absurd q
none_left frugal none behind among f k ms q = (refl, refl)

-- Nor does an object begin first, where they treat none with controlled parts, either.
pub none_beginning : (frugal : Allowance) → frugal.treats_parts ≡ false → frugal.objects ≡ false → (behind : Control) (among : List Value) (f : Frame Value) (k : Control) (ms : List Master)
    → FrugalBegins frugal behind among (f ∷ k) ms → (is_treatment f ≡ false) × (is_operation f ≡ false)
none_beginning frugal none idle behind among (frame.Treats v (begins by done) tasks) k ms (inl (creation, may, alone), q) = absurd (cc (idle, may))
none_beginning frugal none idle behind among (frame.Treats v (begins by done) tasks) k ms (inr adjusting, q) = let may = adjusting.1.0 in absurd (cc (none, may))
none_beginning frugal none idle behind among (frame.Treats v (ends cause) tasks) k ms q = let may = q.0.2.0 in absurd (cc (none, may))
none_beginning frugal none idle behind among (frame.Awaits v by done of part tasks) k ms ((creation, may, alone), q) = absurd (cc (idle, may))
none_beginning frugal none idle behind among frame.Confines k ms q = let may = q.0.0 in absurd (cc (none, may))
none_beginning frugal none idle behind among f k ms q = (refl, refl)

-- Where the body runs on, no object begins first.
pub leads_first : (frugal : Allowance) (behind : Control) (among : List Value) (k : Control) (ms : List Master) → FrugalLeads frugal behind among k ms → begins_first k ≡ false
leads_first frugal behind among [] ms q = refl
leads_first frugal behind among (frame.Treats v (begins by done) tasks ∷ k) ms q = absurd q.0.0
leads_first frugal behind among (frame.Treats v (ends cause) tasks ∷ k) ms q = leads_first frugal behind among k ms q.1
leads_first frugal behind among (frame.Awaits v by done of part tasks ∷ k) ms q = absurd q.0
leads_first frugal behind among (Copies first t ∷ k) ms q = leads_first frugal behind among k ms q.1
leads_first frugal behind among (StoresRecord v first count ∷ k) ms q = leads_first frugal behind among k ms q.1
leads_first frugal behind among (frame.Confines ∷ k) ms q = leads_first frugal behind among k ms q.1
leads_first frugal behind among (f ∷ k) ms q = refl

mutual
  -- There is more to do than what is behind all of it.
  leads_longer : (frugal : Allowance) (behind : Control) (among : List Value) (k : Control) (ms : List Master) → FrugalLeads frugal behind among k ms → suc (length behind) ≤ length k
  leads_longer frugal behind among [] ms q = absurd q
  leads_longer frugal behind among (Returns actuals references ∷ k) ms (inl q) = let same = ap length q.2 in omega (arith, same)
  leads_longer frugal behind among (Returns actuals references ∷ k) ms (inr (inl q)) = let longer = leads_longer frugal behind among k ms q in omega (arith, longer)
  leads_longer frugal behind among (Returns actuals references ∷ k) ms (inr (inr q)) = let longer = operated_longer frugal behind among k ms q in omega (arith, longer)
  leads_longer frugal behind among (Elaborates ds fs hs ∷ k) [] q = absurd q
  leads_longer frugal behind among (Elaborates ds fs hs ∷ k) (m ∷ ms) q = let longer = leads_longer frugal behind among k ms q.1 in omega (arith, longer)
  leads_longer frugal behind among (Closes ∷ k) [] q = absurd q
  leads_longer frugal behind among (Closes ∷ k) (m ∷ ms) q = let longer = leads_longer frugal behind among k ms q.1 in omega (arith, longer)
  leads_longer frugal behind among (Declares x ∷ k) [] q = absurd q
  leads_longer frugal behind among (Declares x ∷ k) (m ∷ ms) q = let longer = leads_longer frugal behind among k (m ∷ ms) q.1 in omega (arith, longer)
  leads_longer frugal behind among (DeclaresRecord x t ∷ k) [] q = absurd q
  leads_longer frugal behind among (DeclaresRecord x t ∷ k) (m ∷ ms) q = let longer = leads_longer frugal behind among k (m ∷ ms) q.1 in omega (arith, longer)
  leads_longer frugal behind among (f ∷ k) ms q = let longer = leads_longer frugal behind among k ms q.1 in omega (arith, longer)

  leaves_longer : (frugal : Allowance) (behind : Control) (among : List Value) (k : Control) (ms : List Master) → FrugalLeaves frugal behind among k ms → suc (length behind) ≤ length k
  leaves_longer frugal behind among [] ms q = absurd q
  leaves_longer frugal behind among (Leaves left ∷ k) [] q = absurd q
  leaves_longer frugal behind among (Leaves left ∷ k) (m ∷ ms) q = let longer = leads_longer frugal behind among k ms q.1 in omega (arith, longer)
  leaves_longer frugal behind among (Ends v ∷ k) ms q = let longer = leaves_longer frugal behind among k ms q in omega (arith, longer)
  leaves_longer frugal behind among (GivesBack v cause pool ∷ k) ms q = let longer = leaves_longer frugal behind among k ms q in omega (arith, longer)
  leaves_longer frugal behind among (frame.Treats v treatment tasks ∷ k) ms q = let longer = leaves_longer frugal behind among k ms q.1 in omega (arith, longer)
  leaves_longer frugal behind among (frame.Confines ∷ k) ms q = let longer = leaves_longer frugal behind among k ms q.1 in omega (arith, longer)
  leaves_longer frugal behind among (f ∷ k) ms q = absurd q

  operated_longer : (frugal : Allowance) (behind : Control) (among : List Value) (k : Control) (ms : List Master) → FrugalOperated frugal behind among k ms → suc (length behind) ≤ length k
  operated_longer frugal behind among [] ms q = absurd q
  operated_longer frugal behind among (frame.Confines ∷ k) ms (vs, is, inl (ending, q)) = let longer = leads_longer frugal behind vs k ms q in omega (arith, longer)
  operated_longer frugal behind among (frame.Confines ∷ k) ms (vs, is, inr (inl (ending, q))) = let longer = leaves_longer frugal behind vs k ms q in omega (arith, longer)
  operated_longer frugal behind among (frame.Confines ∷ k) ms (vs, is, inr (inr (ending, q))) = let longer = begins_longer frugal behind vs k ms q in omega (arith, longer)
  operated_longer frugal behind among (frame.Awaits v by done of part tasks ∷ k) ms (vs, is, beginning, q) = let longer = leads_longer frugal behind vs k ms q in omega (arith, longer)
  operated_longer frugal behind among (f ∷ k) ms q = absurd q

  begins_longer : (frugal : Allowance) (behind : Control) (among : List Value) (k : Control) (ms : List Master) → FrugalBegins frugal behind among k ms → suc (length behind) ≤ length k
  begins_longer frugal behind among [] ms q = absurd q
  begins_longer frugal behind among (frame.Treats v (begins by done) tasks ∷ k) ms q = let longer = leads_longer frugal behind among k ms q.1 in omega (arith, longer)
  begins_longer frugal behind among (frame.Treats v (ends cause) tasks ∷ k) ms q = let longer = begins_longer frugal behind among k ms q.1 in omega (arith, longer)
  begins_longer frugal behind among (Copies first t ∷ k) ms q = let longer = begins_longer frugal behind among k ms q in omega (arith, longer)
  begins_longer frugal behind among (StoresRecord v first count ∷ k) ms (inl (same, q)) = let longer = begins_longer frugal behind among k ms q in omega (arith, longer)
  begins_longer frugal behind among (StoresRecord v first count ∷ k) ms (inr q) = let longer = leads_longer frugal behind among k ms q in omega (arith, longer)
  begins_longer frugal behind among (frame.Awaits v by done of part tasks ∷ k) ms q = let longer = leads_longer frugal behind among k ms q.1 in omega (arith, longer)
  begins_longer frugal behind among (frame.Confines ∷ k) ms q = let longer = begins_longer frugal behind among k ms q.1 in omega (arith, longer)
  begins_longer frugal behind among (f ∷ k) ms q = absurd q

shorter : (frugal : Allowance) (back : Control) (among : List Value) (k : Control) (ms : List Master) → FrugalLeads frugal back among k ms → k ≡ back → ⊥
shorter frugal back among k ms q is =
    let longer = leads_longer frugal back among k ms q in
    let same = ap length is in
    omega (arith, longer, same)

-- So it is behind an operation.
pub operated_shorter : (frugal : Allowance) (back : Control) (among : List Value) (k : Control) (ms : List Master) → FrugalOperated frugal back among k ms → k ≡ back → ⊥
operated_shorter frugal back among k ms q is =
    let longer = operated_longer frugal back among k ms q in
    let same = ap length is in
    omega (arith, longer, same)

-- Where it waits for none, none of an object does.
pub none_operated : (k : Control) → (IsAwaited k → ⊥) → operated_in k ≡ []
none_operated [] none = refl
none_operated (frame.Awaits v by done of part tasks ∷ k) none = absurd (none tt)
none_operated (frame.Confines ∷ k) none = absurd (none tt)
none_operated (f ∷ k) none = refl

-- Once the operation has come to its end, what is left of the treatment of its object is next, which goes on, or an exception comes out of what begins a part.
pub operated_on :
    (frugal : Allowance) (back : Control) (vs : List Value) (mode : Mode) (k : Control) (ms : List Master) → MayBegin mode
    → FrugalOperated frugal back (operated_in k ++ vs) k ms → Frugal frugal back vs mode k ms
operated_on frugal back vs mode [] ms may q = absurd q
operated_on frugal back vs mode (frame.Confines ∷ k) ms may (ws, is, inl (ending, q)) =
    let same : vs ≡ ws = cc is in
    inl (ending, subst (λ (us : List Value). FrugalLeads frugal back us k ms) (sym same) q)
operated_on frugal back vs mode (frame.Confines ∷ k) ms may (ws, is, inr (inr (ending, q))) =
    let same : vs ≡ ws = cc is in
    inr (inr (may, (ending, subst (λ (us : List Value). FrugalBegins frugal back us k ms) (sym same) q)))
operated_on frugal back vs mode (frame.Confines ∷ k) ms may (ws, is, inr (inl (ending, q))) =
    let same : vs ≡ ws = cc is in
    inr (inl (may, (ending, subst (λ (us : List Value). FrugalLeaves frugal back us k ms) (sym same) q)))
operated_on frugal back vs mode (frame.Awaits v by done of part tasks ∷ k) ms may (ws, is, beginning, q) =
    let same : vs ≡ ws = cc is in
    inr (inr (may, (beginning, subst (λ (us : List Value). FrugalLeads frugal back us k ms) (sym same) q)))
operated_on frugal back vs mode (f ∷ k) ms may q = absurd q

-- Where the end of the operation's own body is next, the masters have been left, and no operation inside it runs.
pub frugal_ends :
    (frugal : Allowance) (back : Control) (among : List Value) (mode : Mode) (actuals : List ActualForm) (references : List Value) (k : Control) (ms : List Master) → k ≡ back → Frugal frugal back among mode (Returns actuals references ∷ k) ms
    → (actuals ≡ []) × (references ≡ []) × (ms ≡ []) × (among ≡ [])
frugal_ends frugal back among mode actuals references k ms last (inl (inl q)) = (q.0.0, q.0.1, q.1, q.3)
frugal_ends frugal back among mode actuals references k ms last (inl (inr (inl q))) = absurd (shorter frugal back among k ms q last)
frugal_ends frugal back among mode actuals references k ms last (inl (inr (inr q))) = absurd (operated_shorter frugal back among k ms q last)
frugal_ends frugal back among mode actuals references k ms last (inr (inl leaving)) = absurd leaving.1
frugal_ends frugal back among mode actuals references k ms last (inr (inr beginning)) = absurd beginning.1

-- Where that of another one is next, what is behind that goes on: the body that called it, or the treatment of the object of which it is an operation.
pub frugal_returns_inside :
    (frugal : Allowance) (back : Control) (among : List Value) (mode : Mode) (actuals : List ActualForm) (references : List Value) (k : Control) (ms : List Master) → (k ≡ back → ⊥) → Frugal frugal back among mode (Returns actuals references ∷ k) ms
    → FrugalReturns frugal back among k ms
frugal_returns_inside frugal back among mode actuals references k ms inside (inl (inl q)) = absurd (inside q.2)
frugal_returns_inside frugal back among mode actuals references k ms inside (inl (inr q)) = q
frugal_returns_inside frugal back among mode actuals references k ms inside (inr (inl leaving)) = absurd leaving.1
frugal_returns_inside frugal back among mode actuals references k ms inside (inr (inr beginning)) = absurd beginning.1

-- So it is with one that was called.
pub frugal_returns : (frugal : Allowance) (behind : Control) (among : List Value) (mode : Mode) (actuals : List ActualForm) (references : List Value) (k : Control) (ms : List Master) → IsAwaited behind → (IsAwaited k → ⊥) → Frugal frugal behind among mode (Returns actuals references ∷ k) ms → FrugalLeads frugal behind among k ms
frugal_returns frugal behind among mode actuals references k ms awaited calls frugally =
    by (frugal_returns_inside frugal behind among mode actuals references k ms (λ last. calls (subst IsAwaited (sym last) awaited)) frugally)
  where
    by : FrugalReturns frugal behind among k ms → FrugalLeads frugal behind among k ms
    by (inl q) = q
    by (inr q) = absurd (calls (operated_awaited frugal behind among k ms q))

-- The innermost master may own one more variable.
abbrev pub with_variable : Item → Master → Master
with_variable i m = record m { items = i ∷ m.items }

module _ (frugal : Allowance) (i : Item) (variable : IsOwnedBy frugal i.owned) where
  mutual
    pub more_leads : (behind : Control) (among : List Value) (j : Control) (m : Master) (ms : List Master)
        → FrugalLeads frugal behind among j (m ∷ ms) → FrugalLeads frugal behind among j (with_variable i m ∷ ms)
    more_leads behind among [] m ms q = q
    more_leads behind among (Returns actuals references ∷ k) m ms (inl q) = let none = q.1 in absurd (cc none)
    more_leads behind among (Returns actuals references ∷ k) m ms (inr (inl q)) = inr (inl (more_leads behind among k m ms q))
    more_leads behind among (Returns actuals references ∷ k) m ms (inr (inr q)) = inr (inr (more_operated behind among k m ms q))
    more_leads behind among (Elaborates ds fs hs ∷ k) m ms ((own, frame), q) = (((variable, own), frame), q)
    more_leads behind among (Closes ∷ k) m ms (own, q) = ((variable, own), q)
    more_leads behind among (Declares x ∷ k) m ms q = (q.0, more_leads behind among k m ms q.1)
    more_leads behind among (DeclaresRecord x t ∷ k) m ms q = (q.0, more_leads behind among k m ms q.1)
    more_leads behind among (f ∷ k) m ms q = (q.0, more_leads behind among k m ms q.1)

    more_leaves : (behind : Control) (among : List Value) (j : Control) (m : Master) (ms : List Master)
        → FrugalLeaves frugal behind among j (m ∷ ms) → FrugalLeaves frugal behind among j (with_variable i m ∷ ms)
    more_leaves behind among [] m ms q = q
    more_leaves behind among (Leaves left ∷ k) m ms (own, q) = ((variable, own), q)
    more_leaves behind among (Ends v ∷ k) m ms q = more_leaves behind among k m ms q
    more_leaves behind among (GivesBack v cause pool ∷ k) m ms q = more_leaves behind among k m ms q
    more_leaves behind among (frame.Treats v treatment tasks ∷ k) m ms q = (q.0, more_leaves behind among k m ms q.1)
    more_leaves behind among (frame.Confines ∷ k) m ms q = (q.0, more_leaves behind among k m ms q.1)
    more_leaves behind among (f ∷ k) m ms q = q

    more_operated : (behind : Control) (among : List Value) (j : Control) (m : Master) (ms : List Master)
        → FrugalOperated frugal behind among j (m ∷ ms) → FrugalOperated frugal behind among j (with_variable i m ∷ ms)
    more_operated behind among [] m ms q = q
    more_operated behind among (frame.Confines ∷ k) m ms (vs, is, inl (ending, q)) = (vs, is, inl (ending, more_leads behind vs k m ms q))
    more_operated behind among (frame.Confines ∷ k) m ms (vs, is, inr (inl (ending, q))) = (vs, is, inr (inl (ending, more_leaves behind vs k m ms q)))
    more_operated behind among (frame.Confines ∷ k) m ms (vs, is, inr (inr (ending, q))) = (vs, is, inr (inr (ending, more_begins behind vs k m ms q)))
    more_operated behind among (frame.Awaits v by done of part tasks ∷ k) m ms (vs, is, beginning, q) =
        (vs, is, beginning, more_leads behind vs k m ms q)
    more_operated behind among (f ∷ k) m ms q = q

    more_begins : (behind : Control) (among : List Value) (j : Control) (m : Master) (ms : List Master)
        → FrugalBegins frugal behind among j (m ∷ ms) → FrugalBegins frugal behind among j (with_variable i m ∷ ms)
    more_begins behind among [] m ms q = q
    more_begins behind among (frame.Treats v (begins by done) tasks ∷ k) m ms q = (q.0, more_leads behind among k m ms q.1)
    more_begins behind among (frame.Treats v (ends cause) tasks ∷ k) m ms q = (q.0, more_begins behind among k m ms q.1)
    more_begins behind among (Copies first t ∷ k) m ms q = more_begins behind among k m ms q
    more_begins behind among (StoresRecord v first count ∷ k) m ms (inl (same, q)) = inl (same, more_begins behind among k m ms q)
    more_begins behind among (StoresRecord v first count ∷ k) m ms (inr q) = inr (more_leads behind among k m ms q)
    more_begins behind among (frame.Awaits v by done of part tasks ∷ k) m ms q = (q.0, more_leads behind among k m ms q.1)
    more_begins behind among (frame.Confines ∷ k) m ms q = (q.0, more_begins behind among k m ms q.1)
    more_begins behind among (f ∷ k) m ms q = q
