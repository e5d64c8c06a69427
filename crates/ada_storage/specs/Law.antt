-- Runs of storage, and the laws of finalization (7.6.1) over their events. They hold whatever user code does, and in whichever order parts and members are taken.

use Rattle.std.specs.Prelude.{◌≡◌, ◌≢◌, ◌⊎◌, ℕ, ◌<◌, ◌≤◌, false, ◌==◌, cond, List, [], ◌∷◌}
use Rattle.ada_storage.specs.State.{Forest, none, in_list, within, Value, Cause, leaving, freeing, undoing, assigning, Birth, creation, adjustment, Event, born, finalized, back, left, quiet, running, Control, stops, acts, leaves, finalizes, frees, initializes, undoes, assigns, adjusts, Object, State}
use Rattle.ada_storage.specs.Step.{Choice, erroneous, goes, step}

-- Steps one after another, with their events.
pub data Run : State → List Event → State → Type 0 where
  here : {s : State} → Run s [] s
  there : {s last : State} {event : Event} {events : List Event} (choice : Choice) (mid : State) → step choice s ≡ goes event mid → Run mid events last → Run s (event ∷ events) last

-- The first state: one master is entered, of number 1, and nothing is there.
abbrev pub first_state : State
first_state = record {
  alive = λ o p. false;
  turn = λ o p. 0;
  objects = λ o. record { home = 0; shape = none; lives = false };
  control = acts (record { number = 1; items = [] }) stops;
  mode = running;
  created = 0;
  next = 2;
}

-- Of the events of each run from there, and the state that it comes to.
abbrev pub InEveryRun : (List Event → State → Type 0) → Type 0
InEveryRun P = (last : State) (events : List Event) → Run first_state events last → P events last

-- Of each event.
abbrev pub Each : (Event → Type 0) → List Event → Type 0
Each P [] = Unit {0}
Each P (e ∷ es) = P e × Each P es

-- Of each two events, the first before the second.
abbrev pub EachTwo : (Event → Event → Type 0) → List Event → Type 0
EachTwo R [] = Unit {0}
EachTwo R (e ∷ es) = Each (R e) es × EachTwo R es

-- There is such an event.
abbrev pub Happened : (Event → Type 0) → List Event → Type 0
Happened P [] = ⊥
Happened P (e ∷ es) = P e ⊎ Happened P es

-- An event does not finalize this value.
abbrev pub NotFinalized : Value → Event → Type 0
NotFinalized v (born w by) = Unit {0}
NotFinalized v (finalized w cause) = w ≢ v
NotFinalized v (back o cause) = Unit {0}
NotFinalized v (left m) = Unit {0}
NotFinalized v quiet = Unit {0}

-- No later event finalizes the value that an earlier one does.
abbrev pub Once : Event → Event → Type 0
Once (born v by) f = Unit {0}
Once (finalized v cause) f = NotFinalized v f
Once (back o cause) f = Unit {0}
Once (left m) f = Unit {0}
Once quiet f = Unit {0}

-- What is finalized came to exist before: either before these events, or among those in front of it.
abbrev pub AfterBirth : (Value → Type 0) → List Event → Type 0
AfterBirth Born [] = Unit {0}
AfterBirth Born (born v by ∷ es) = AfterBirth (λ w. Born w ⊎ (w ≡ v)) es
AfterBirth Born (finalized v cause ∷ es) = Born v × AfterBirth Born es
AfterBirth Born (back o cause ∷ es) = AfterBirth Born es
AfterBirth Born (left m ∷ es) = AfterBirth Born es
AfterBirth Born (quiet ∷ es) = AfterBirth Born es

-- An event is of no value of an object, and not of its words.
abbrev pub Elsewhere : (object : ℕ) → Event → Type 0
Elsewhere o (born v by) = v.object ≢ o
Elsewhere o (finalized v cause) = v.object ≢ o
Elsewhere o (back x cause) = x ≢ o
Elsewhere o (left m) = Unit {0}
Elsewhere o quiet = Unit {0}

-- Once the words of an object went back, no later event is of it.
abbrev pub BeforeBack : Event → Event → Type 0
BeforeBack (born v by) f = Unit {0}
BeforeBack (finalized v cause) f = Unit {0}
BeforeBack (back o cause) f = Elsewhere o f
BeforeBack (left m) f = Unit {0}
BeforeBack quiet f = Unit {0}

-- An event finalizes this value.
abbrev pub IsFinalized : Value → Event → Type 0
IsFinalized v (born w by) = ⊥
IsFinalized v (finalized w cause) = w ≡ v
IsFinalized v (back o cause) = ⊥
IsFinalized v (left m) = ⊥
IsFinalized v quiet = ⊥

-- An event tells that this value has come to exist.
abbrev pub IsBorn : Value → Event → Type 0
IsBorn v (born w by) = w ≡ v
IsBorn v (finalized w cause) = ⊥
IsBorn v (back o cause) = ⊥
IsBorn v (left m) = ⊥
IsBorn v quiet = ⊥

-- Of one leaving, no later event is at an item with a greater number.
abbrev pub NotAbove : (master item : ℕ) → Cause → Type 0
NotAbove m i (leaving n j) = n ≡ m → j ≤ i
NotAbove m i (freeing x) = Unit {0}
NotAbove m i (undoing x) = Unit {0}
NotAbove m i (assigning x) = Unit {0}

-- An event by such a cause is at no item with a greater number.
abbrev pub EventNotAbove : (master item : ℕ) → Event → Type 0
EventNotAbove m i (born v by) = Unit {0}
EventNotAbove m i (finalized v cause) = NotAbove m i cause
EventNotAbove m i (back o cause) = NotAbove m i cause
EventNotAbove m i (left n) = Unit {0}
EventNotAbove m i quiet = Unit {0}

-- Where a leaving is the cause of an event, a later one of the same leaving is at no later item.
abbrev pub CauseFalls : Cause → Event → Type 0
CauseFalls (leaving m i) f = EventNotAbove m i f
CauseFalls (freeing x) f = Unit {0}
CauseFalls (undoing x) f = Unit {0}
CauseFalls (assigning x) f = Unit {0}

-- So it is for each two events: what a master owns goes in reverse order of its creation (7.6.1).
abbrev pub InReverse : Event → Event → Type 0
InReverse (born v by) f = Unit {0}
InReverse (finalized v cause) f = CauseFalls cause f
InReverse (back o cause) f = CauseFalls cause f
InReverse (left m) f = Unit {0}
InReverse quiet f = Unit {0}

-- Where an event finalizes a value of this object, by this cause, this holds of its part.
abbrev pub LaterOf : Cause → (object : ℕ) → (ℕ → Type 0) → Event → Type 0
LaterOf c o P (born v by) = Unit {0}
LaterOf c o P (finalized v cause) = cause ≡ c → v.object ≡ o → P v.part
LaterOf c o P (back x cause) = Unit {0}
LaterOf c o P (left m) = Unit {0}
LaterOf c o P quiet = Unit {0}

-- Which parts of each object have been initialized as it was created, newest first.
abbrev pub Births : Type 0
Births = ℕ → List ℕ

-- An event adds one for an object, where it tells so of it.
abbrev pub birth : (object : ℕ) → Value → Birth → List ℕ → List ℕ
birth o v creation ps = cond (v.object == o) (v.part ∷ ps) ps
birth o v adjustment ps = ps

-- The parts of an object that have been initialized, once an event came.
abbrev pub first_of : (object : ℕ) → Event → List ℕ → List ℕ
first_of o (born v by) ps = birth o v by ps
first_of o (finalized v cause) ps = ps
first_of o (back x cause) ps = ps
first_of o (left m) ps = ps
first_of o quiet ps = ps

-- Those of all objects.
abbrev pub and_then : Births → Event → Births
and_then B e o = first_of o e (B o)

-- After these events.
abbrev pub births : Births → List Event → Births
births B [] = B
births B (e ∷ es) = births (and_then B e) es

-- The first list is the second one without some of its first elements.
abbrev pub Tail : List ℕ → List ℕ → Type 0
Tail ps [] = ps ≡ []
Tail ps (x ∷ xs) = (ps ≡ x ∷ xs) ⊎ Tail ps xs

-- The first part stands behind the second one in a list, newest first: it was initialized earlier.
abbrev pub Behind : (first second : ℕ) → List ℕ → Type 0
Behind q p xs = (rest : List ℕ) × Tail (p ∷ rest) xs × (0 < in_list q rest)

-- The parts of which a frame finalizes some: all those of its object, or those that are assigned to.
abbrev pub whole_in : (ℕ → Object) → Control → Forest
whole_in T stops = none
whole_in T (acts m k) = none
whole_in T (leaves m mode k) = none
whole_in T (finalizes m i o fs mode k) = (T o).shape
whole_in T (frees n o fs k) = (T o).shape
whole_in T (initializes o joins js done k) = none
whole_in T (undoes n o done k) = (T o).shape
whole_in T (assigns n o f fs k) = f
whole_in T (adjusts o f js done k) = none

-- The same behind the step that begins to finalize one: a body may have been entered in front of the frame.
abbrev pub whole_under_way : (ℕ → Object) → Control → Forest
whole_under_way T stops = none
whole_under_way T (acts m k) = whole_in T k
whole_under_way T (leaves m mode k) = none
whole_under_way T (finalizes m i o fs mode k) = (T o).shape
whole_under_way T (frees n o fs k) = (T o).shape
whole_under_way T (initializes o joins js done k) = none
whole_under_way T (undoes n o done k) = (T o).shape
whole_under_way T (assigns n o f fs k) = f
whole_under_way T (adjusts o f js done k) = none

-- The number of the innermost master, or 0.
abbrev pub top : Control → ℕ
top stops = 0
top (acts m k) = m.number
top (leaves m mode k) = m.number
top (finalizes m i o fs mode k) = m.number
top (frees n o fs k) = top k
top (initializes o joins js done k) = top k
top (undoes n o done k) = top k
top (assigns n o f fs k) = top k
top (adjusts o f js done k) = top k

-- Numbers fall along the masters that are entered, from the innermost one on.
abbrev pub Falling : Control → Type 0
Falling stops = Unit {0}
Falling (acts m k) = (top k < m.number) × Falling k
Falling (leaves m mode k) = (top k < m.number) × Falling k
Falling (finalizes m i o fs mode k) = (top k < m.number) × Falling k
Falling (frees n o fs k) = Falling k
Falling (initializes o joins js done k) = Falling k
Falling (undoes n o done k) = Falling k
Falling (assigns n o f fs k) = Falling k
Falling (adjusts o f js done k) = Falling k

-- The laws.

-- A value is finalized at most once (7.6.1).
abbrev pub FinalizedOnce : Type 0
FinalizedOnce = InEveryRun (λ events last. EachTwo Once events)

-- What is finalized has come to exist before (7.6.1).
abbrev pub BornBefore : Type 0
BornBefore = InEveryRun (λ events last. AfterBirth (λ v. ⊥) events)

-- After the words of an object went back nothing of it comes to exist, nothing of it is finalized, and its words do not go back again (13.11.2).
abbrev pub NothingAfterBack : Type 0
NothingAfterBack = InEveryRun (λ events last. EachTwo BeforeBack events)

-- When a master has been left, each value that came to exist in an object of it has been finalized (7.6.1).
abbrev pub FinalizedByLeaving : Type 0
FinalizedByLeaving =
    InEveryRun
    (λ events mid. (last : State) (choice : Choice) (m : ℕ) (v : Value)
    → step choice mid ≡ goes (left m) last → Happened (IsBorn v) events → (last.objects v.object).home ≡ m → Happened (IsFinalized v) events)

-- At the leaving of one master, what was created later goes earlier (7.6.1).
abbrev pub LeavesInReverse : Type 0
LeavesInReverse = InEveryRun (λ events last. EachTwo InReverse events)

-- Masters are left inner first (7.6.1): numbers fall along those that are entered, and only the innermost has a step.
abbrev pub MastersFall : Type 0
MastersFall = InEveryRun (λ events last. Falling last.control)

-- Nothing is finalized that does not exist (13.11.2).
abbrev pub NeverErroneous : Type 0
NeverErroneous = InEveryRun (λ events last. (choice : Choice) → step choice last ≡ erroneous → ⊥)

-- Where nothing is under way any more, the words of each object are back.
abbrev pub AllBack : Type 0
AllBack = InEveryRun (λ events last. last.control ≡ stops → (o : ℕ) → (last.objects o).lives ≡ false)

-- Where a value is finalized by a cause, that cause finalizes no value later of that object in whose part the value's part lies: a whole goes before its
-- parts (7.6.1).
abbrev pub WholesFirst : Type 0
WholesFirst =
    InEveryRun
    (λ before s. (mid last : State) (events : List Event) (choice : Choice) (v : Value) (cause : Cause)
    → step choice s ≡ goes (finalized v cause) mid → Run mid events last
    → Each (LaterOf cause v.object (λ q. within v.part q (whole_under_way mid.objects mid.control) ≡ 0)) events)

-- Where an Initialize raised an exception, parts are finalized in the reverse order of their initialization (7.6.1).
abbrev pub RollbacksReverse : Type 0
RollbacksReverse =
    InEveryRun
    (λ before s. (mid last : State) (events : List Event) (choice : Choice) (v : Value) (n : ℕ)
    → step choice s ≡ goes (finalized v (undoing n)) mid → Run mid events last
    → Each (LaterOf (undoing n) v.object (λ q. Behind q v.part (births (λ o. []) before v.object))) events)

-- Where a value comes to exist with its object, each part that lies in its part came to exist before (7.6).
abbrev pub PartsFirst : Type 0
PartsFirst =
    InEveryRun
    (λ before s. (mid : State) (choice : Choice) (v : Value)
    → step choice s ≡ goes (born v creation) mid
    → (p : ℕ) → 0 < within p v.part (mid.objects v.object).shape → 0 < in_list p (births (λ o. []) before v.object))
