-- What is left to do, and the masters that are entered: while one is being left, what is given back stands in front of its leaving, and the bodies of its
-- finalizations stand in front of that.

use Rattle.std.proofs.Common.{◌≡◌, ℕ, suc, ◌+◌, ◌<◌, ◌≤◌, Bool, List, [], ◌∷◌, refl, ◌⊎◌, inl, inr, arith}
use Rattle.std.specs.Prelude.{Option, Some, None}
use Rattle.ada_program.specs.declared.program.TypeDefinition.{TypeDefinition}
use Rattle.ada_parts.specs.Task.{Task}
use Rattle.ada_meaning.specs.declared.state.Value.{Value}
use Rattle.ada_meaning.specs.declared.state.Mode.TheVariants.{Running}
use Rattle.ada_meaning.specs.declared.event.Cause.TheVariants.{Leaving}
use Rattle.ada_meaning.specs.Frame.{Treatment, ends, Frame, Elaborates, Closes, Leaves, Declares, DeclaresRecord, Treats, Confines, Ends, GivesBack}
use Rattle.ada_meaning.specs.Event.{Born, Finalized, Back, Followed, Left, Line, Quiet, Request}
use Rattle.ada_meaning.specs.State.{Owned, Item, Master, height}
use Rattle.ada_meaning.specs.Step.{older, treating, halts, moves, tells, asks, picks, owning, shorter}
use Rattle.ada_meaning.specs.Named.{State, Next}
use Rattle.ada_meaning.specs.Run.{Event, Choice, settled, grants, takes, Leads}
use Rattle.ada_meaning.specs.Law.{AtItem, leaving_of, left_by, master_in, IsInnermost}
use Rattle.ada_order.proofs.Numbers.{Entered, Newest, entered_older, innermost_below}
use Rattle.ada_order.proofs.Pools.{IsDue, NoPoolTold, IsBegun, NewestIsGone}

abbrev pub Control : Type 0
Control = List (Frame Value)

-- Nothing is finalized at a leaving by this treatment.
abbrev pub NoLeaving : Treatment → Type 0
NoLeaving (ends (Leaving m i)) = ⊥
NoLeaving treatment = Unit {0}

-- Declarations are elaborated next.
abbrev pub Elaborating : Control → Type 0
Elaborating (Elaborates ds fs hs ∷ k) = Unit {0}
Elaborating k = ⊥

-- Nothing is finalized or given back at a leaving by this frame, and what is declared is owned by a master that is not being left.
abbrev pub IsPlain : Frame Value → (behind : Control) → Type 0
IsPlain (GivesBack v cause pool) k = NoLeaving (ends cause)
IsPlain (Treats v treatment tasks) k = NoLeaving treatment
IsPlain (Declares x) k = Elaborating k
IsPlain (DeclaresRecord x t) k = Elaborating k
IsPlain f k = Unit {0}

-- An item that goes, or went, at a leaving: its master is the innermost of these, and has no later item.
abbrev pub IsLatest : AtItem → List Master → Type 0
IsLatest a ms = IsInnermost a.master ms × (height ms ≤ suc a.item)

-- The innermost master is being left: that is the leaving that was seen, where one was, or that one is behind.
abbrev pub LeavesOne : (seen : Option AtItem) → List Master → (behind : Type 0) → Type 0
LeavesOne None ms behind = behind
LeavesOne (Some a) ms behind = IsLatest a ms ⊎ behind

-- What is left to do, with the masters that are entered: each has a frame. If an item was seen to go at the leaving of one, that one is still being left.
abbrev mutual
  -- No master is being left here, unless the body of a Finalize stands in front of that.
  pub Plain : (seen : Option AtItem) → Control → List Master → Type 0
  Plain None [] ms = Unit {0}
  Plain (Some a) [] ms = ⊥
  Plain seen (Elaborates ds fs hs ∷ k) ms = Unit {0} × Plain seen k (older ms)
  Plain seen (Closes ∷ k) ms = Unit {0} × Plain seen k (older ms)
  Plain seen (Leaves mode ∷ k) ms = ⊥
  Plain seen (Confines ∷ k) ms = Unit {0} × (Plain seen k ms ⊎ Going seen k ms)
  Plain seen (f ∷ k) ms = IsPlain f k × Plain seen k ms

  -- The innermost master is being left: objects of its newest item may be finalized, ended and given back first.
  pub Going : (seen : Option AtItem) → Control → List Master → Type 0
  Going seen (Leaves mode ∷ k) ms = LeavesOne seen ms (Plain seen k (older ms))
  Going seen (GivesBack v (Leaving m i) pool ∷ k) ms = Newest m i ms × Going seen k ms
  Going seen (Treats v (ends (Leaving m i)) tasks ∷ k) ms = Newest m i ms × Going seen k ms
  Going seen (Ends v ∷ k) ms = Unit {0} × Going seen k ms
  Going seen k ms = ⊥

-- So it is of a state: no jump is on its way while a master is being left.
pub data Stands (seen : Option AtItem) (s : State) : Type 0 where
  plainly : Plain seen s.control s.masters → Stands seen s
  leaving : s.mode ≡ Running → Going seen s.control s.masters → Stands seen s

-- What a treatment puts in front, where it has anything to do.
pub treating_plain :
    (seen : Option AtItem) (v : Value) (treatment : Treatment) (tasks : List Task) (k : Control) (ms : List Master) → NoLeaving treatment → Plain seen k ms
    → Plain seen (treating v treatment tasks k) ms
treating_plain seen v treatment [] k ms is p = p
treating_plain seen v treatment (task ∷ tasks) k ms is p = (is, p)

pub treating_goes :
    (seen : Option AtItem) (v : Value) (m i : ℕ) (tasks : List Task) (k : Control) (ms : List Master) → Newest m i ms → Going seen k ms
    → Going seen (treating v (ends (Leaving m i)) tasks k) ms
treating_goes seen v m i [] k ms newest g = g
treating_goes seen v m i (task ∷ tasks) k ms newest g = (newest, g)

-- A master that is not being left owns one item more.
pub plain_owning :
    (seen : Option AtItem) (i : Item) (k : Control) (ms : List Master) → Elaborating k → Plain seen k ms → Plain seen k (owning i ms)
plain_owning seen i [] ms on p = absurd on
plain_owning seen i (Elaborates ds fs hs ∷ k) [] on p = p
plain_owning seen i (Elaborates ds fs hs ∷ k) (m ∷ ms) on p = p
plain_owning seen i (f ∷ k) ms on p = absurd on

-- Another leaving is behind one that begins.
pub leaves_another : (seen : Option AtItem) (ms : List Master) (P : Type 0) → P → LeavesOne seen ms P
leaves_another None ms P p = p
leaves_another (Some a) ms P p = inr p

-- The innermost master loses an item.
pub leaves_shorter :
    (seen : Option AtItem) (m : ℕ) (item : Item) (items : List Item) (ms : List Master) (P : Type 0)
    → LeavesOne seen (record { number = m; items = item ∷ items } ∷ ms) P → LeavesOne seen (record { number = m; items = items } ∷ ms) P
leaves_shorter None m item items ms P p = p
leaves_shorter (Some a) m item items ms P (inl here) = let le = here.1 in inl (here.0, omega (arith, le))
leaves_shorter (Some a) m item items ms P (inr p) = inr p

-- An item of the innermost master is seen to go, while that master is being left.
pub going_seen : (seen : Option AtItem) (a : AtItem) (k : Control) (ms : List Master) → IsLatest a ms → Going seen k ms → Going (Some a) k ms
going_seen seen a [] ms here g = absurd g
going_seen seen a (Leaves mode ∷ k) ms here g = inl here
going_seen seen a (GivesBack v (Leaving m i) pool ∷ k) ms here g = (g.0, going_seen seen a k ms here g.1)
going_seen seen a (Treats v (ends (Leaving m i)) tasks ∷ k) ms here g = (g.0, going_seen seen a k ms here g.1)
going_seen seen a (Ends v ∷ k) ms here g = (tt, going_seen seen a k ms here g.1)
going_seen seen a (f ∷ k) ms here g = absurd g

-- An item that was seen to go is of a master that is entered, and no later one is there, where that master is the innermost one.
mutual
  plain_below : (a : AtItem) (k : Control) (n : ℕ) (ms : List Master) → Plain (Some a) k ms → Entered n ms → a.master < n
  plain_below a [] n ms p e = absurd p
  plain_below a (Elaborates ds fs hs ∷ k) n ms p e = plain_below a k n (older ms) p.1 (entered_older n ms e)
  plain_below a (Closes ∷ k) n ms p e = plain_below a k n (older ms) p.1 (entered_older n ms e)
  plain_below a (Leaves mode ∷ k) n ms p e = absurd p
  plain_below a (Confines ∷ k) n ms (on, inl p) e = plain_below a k n ms p e
  plain_below a (Confines ∷ k) n ms (on, inr g) e = going_below a k n ms g e
  plain_below a (f ∷ k) n ms p e = plain_below a k n ms p.1 e

  going_below : (a : AtItem) (k : Control) (n : ℕ) (ms : List Master) → Going (Some a) k ms → Entered n ms → a.master < n
  going_below a [] n ms g e = absurd g
  going_below a (Leaves mode ∷ k) n ms (inl here) e = innermost_below n a.master ms e here.0
  going_below a (Leaves mode ∷ k) n ms (inr p) e = plain_below a k n (older ms) p (entered_older n ms e)
  going_below a (GivesBack v (Leaving m i) pool ∷ k) n ms g e = going_below a k n ms g.1 e
  going_below a (Treats v (ends (Leaving m i)) tasks ∷ k) n ms g e = going_below a k n ms g.1 e
  going_below a (Ends v ∷ k) n ms g e = going_below a k n ms g.1 e
  going_below a (f ∷ k) n ms g e = absurd g

-- Where its master is the innermost one, that has no later item.
not_behind : (a : AtItem) (k : Control) (n : ℕ) (ms : List Master) → Plain (Some a) k (older ms) → Entered n ms → IsInnermost a.master ms → ⊥
not_behind a k n [] p e is = absurd is
not_behind a k n (m ∷ ms) p e is = let lt = plain_below a k m.number ms p e.1 in omega (arith, lt, is)

mutual
  plain_latest : (a : AtItem) (k : Control) (n : ℕ) (ms : List Master) → Plain (Some a) k ms → Entered n ms → IsInnermost a.master ms → height ms ≤ suc a.item
  plain_latest a [] n ms p e is = absurd p
  plain_latest a (Elaborates ds fs hs ∷ k) n ms p e is = absurd (not_behind a k n ms p.1 e is)
  plain_latest a (Closes ∷ k) n ms p e is = absurd (not_behind a k n ms p.1 e is)
  plain_latest a (Leaves mode ∷ k) n ms p e is = absurd p
  plain_latest a (Confines ∷ k) n ms (on, inl p) e is = plain_latest a k n ms p e is
  plain_latest a (Confines ∷ k) n ms (on, inr g) e is = going_latest a k n ms g e is
  plain_latest a (f ∷ k) n ms p e is = plain_latest a k n ms p.1 e is

  going_latest : (a : AtItem) (k : Control) (n : ℕ) (ms : List Master) → Going (Some a) k ms → Entered n ms → IsInnermost a.master ms → height ms ≤ suc a.item
  going_latest a [] n ms g e is = absurd g
  going_latest a (Leaves mode ∷ k) n ms (inl here) e is = here.1
  going_latest a (Leaves mode ∷ k) n ms (inr p) e is = absurd (not_behind a k n ms p e is)
  going_latest a (GivesBack v (Leaving m i) pool ∷ k) n ms g e is = going_latest a k n ms g.1 e is
  going_latest a (Treats v (ends (Leaving m i)) tasks ∷ k) n ms g e is = going_latest a k n ms g.1 e is
  going_latest a (Ends v ∷ k) n ms g e is = going_latest a k n ms g.1 e is
  going_latest a (f ∷ k) n ms g e is = absurd g

pub stands_latest : (a : AtItem) (n : ℕ) (s : State) → Stands (Some a) s → Entered n s.masters → IsInnermost a.master s.masters → height s.masters ≤ suc a.item
stands_latest a n s (plainly p) e is = plain_latest a s.control n s.masters p e is
stands_latest a n s (leaving runs g) e is = going_latest a s.control n s.masters g e is

-- What is left to do where a master has been left: that was the one of the item that was seen to go, or its leaving goes on.
abbrev pub Remains : (seen : Option AtItem) → (master : ℕ) → State → Type 0
Remains None m s = Stands None s
Remains (Some a) m s = (m ≡ a.master) ⊎ Stands (Some a) s

pub left_remains :
    (seen : Option AtItem) (m : ℕ) (items : List Item) (ms : List Master) (s : State)
    → LeavesOne seen (record { number = m; items = items } ∷ ms) (Plain seen s.control s.masters) → Remains seen m s
left_remains None m items ms s p = plainly p
left_remains (Some a) m items ms s (inl here) = inl here.0
left_remains (Some a) m items ms s (inr p) = inr (plainly p)

-- A step that leaves no master, and what it tells: all masters stay, perhaps with a number used up; or the innermost one owns one item more, which is due; or
-- one is entered.
pub data WorkOn (seen : Option AtItem) (types : List TypeDefinition) (ms : List Master) (n : ℕ) (told : Option (Request Value)) (e : Event) (after : State) : Type 0 where
  stays : NoPoolTold told → left_by e ≡ None → Stands seen after → after.masters ≡ ms → after.next ≡ n → WorkOn seen types ms n told e after
  numbers : NoPoolTold told → left_by e ≡ None → Stands seen after → after.masters ≡ ms → after.next ≡ n + 1 → WorkOn seen types ms n told e after
  owns :
      (what : Owned) → IsDue types ms what → IsBegun what told → left_by e ≡ None → Stands seen after
      → after.masters ≡ owning (record { number = height ms; owned = what }) ms → after.next ≡ n → WorkOn seen types ms n told e after
  enters :
      NoPoolTold told → left_by e ≡ None → Stands seen after → after.masters ≡ record { number = n; items = [] } ∷ ms → after.next ≡ n + 1
      → WorkOn seen types ms n told e after

-- A step at the leaving of the innermost master: its items stay, or it loses the newest one, or a part of an object of that one is finalized, or its words go
-- back, which is seen from then on; or a part is finalized by a body, which enters a master; or the master, which has no item, has been left.
pub data LeaveOn (seen : Option AtItem) (ms : List Master) (n : ℕ) (told : Option (Request Value)) (e : Event) (after : State) : Type 0 where
  waits : NoPoolTold told → left_by e ≡ None → Stands seen after → after.masters ≡ ms → after.next ≡ n → LeaveOn seen ms n told e after
  shortens : NewestIsGone ms told → left_by e ≡ None → Stands seen after → after.masters ≡ shorter ms → after.next ≡ n → LeaveOn seen ms n told e after
  gives :
      (m i : ℕ) → NoPoolTold told → leaving_of e ≡ Some (record { master = m; item = i }) → left_by e ≡ Some m → Newest m i ms
      → (IsLatest (record { master = m; item = i }) ms → Stands (Some (record { master = m; item = i })) after) → Stands seen after
      → after.masters ≡ ms → after.next ≡ n → LeaveOn seen ms n told e after
  operates :
      (m i : ℕ) → NoPoolTold told → leaving_of e ≡ Some (record { master = m; item = i }) → left_by e ≡ Some m → Newest m i ms
      → (IsLatest (record { master = m; item = i }) ms → Stands (Some (record { master = m; item = i })) after) → Stands seen after
      → after.masters ≡ record { number = n; items = [] } ∷ ms → after.next ≡ n + 1 → LeaveOn seen ms n told e after
  left :
      (m : ℕ) (rest : List Master) → NoPoolTold told → e ≡ Left m → ms ≡ record { number = m; items = [] } ∷ rest → Remains seen m after
      → after.masters ≡ rest → after.next ≡ n → LeaveOn seen ms n told e after

-- Either.
pub data DeedOn (seen : Option AtItem) (types : List TypeDefinition) (s : State) (told : Option (Request Value)) (e : Event) (after : State) : Type 0 where
  works : WorkOn seen types s.masters s.next told e after → DeedOn seen types s told e after
  leaves : LeaveOn seen s.masters s.next told e after → DeedOn seen types s told e after

-- The same, where nothing was seen before.
abbrev pub Work : (types : List TypeDefinition) (ms : List Master) (n : ℕ) (told : Option (Request Value)) (e : Event) (after : State) → Type 0
Work = WorkOn None

abbrev pub Leave : (ms : List Master) (n : ℕ) (told : Option (Request Value)) (e : Event) (after : State) → Type 0
Leave = LeaveOn None

abbrev pub Deed : (types : List TypeDefinition) (s : State) (told : Option (Request Value)) (e : Event) (after : State) → Type 0
Deed = DeedOn None

-- What comes next does so, whatever is answered.
abbrev pub Does : (Option (Request Value) → Event → State → Type 0) → Next → Type 0
Does D (halts halt) = Unit {0}
Does D (moves e s) = D None e s
Does D (tells request e s) = D (Some request) e s
Does D (asks request answers) = (granted : Bool) → D None Quiet (answers granted)
Does D (picks n taking) = (i : ℕ) → D None Quiet (taking i)

pub does_map : (D E : Option (Request Value) → Event → State → Type 0) → ((told : Option (Request Value)) (e : Event) (s : State) → D told e s → E told e s) → (coming : Next) → Does D coming → Does E coming
does_map D E f (halts halt) d = tt
does_map D E f (moves e s) d = f None e s d
does_map D E f (tells request e s) d = f (Some request) e s d
does_map D E f (asks request answers) d = λ granted. f None Quiet (answers granted) (d granted)
does_map D E f (picks n taking) d = λ i. f None Quiet (taking i) (d i)

pub led : (D : Option (Request Value) → Event → State → Type 0) (coming : Next) (choice : Choice) (e : Event) (after : State) → Does D coming → Leads coming choice e after → (told : Option (Request Value)) × D told e after
led D (halts halt) choice e after d l = absurd l
led D (moves shown s) settled e after d l = (None, rw (l.0, l.1) d)
led D (moves shown s) (grants granted) e after d l = absurd l
led D (moves shown s) (takes i) e after d l = absurd l
led D (tells request shown s) settled e after d l = (Some request, rw (l.0, l.1) d)
led D (tells request shown s) (grants granted) e after d l = absurd l
led D (tells request shown s) (takes i) e after d l = absurd l
led D (asks request answers) settled e after d l = absurd l
led D (asks request answers) (grants granted) e after d l = (None, rw (l.0, l.1) (d granted))
led D (asks request answers) (takes i) e after d l = absurd l
led D (picks n taking) settled e after d l = absurd l
led D (picks n taking) (grants granted) e after d l = absurd l
led D (picks n taking) (takes i) e after d l = (None, rw (l.1, l.2) (d i))

-- What tells of no master tells of no leaving.
no_leaving : (l : Option AtItem) → master_in l ≡ None → l ≡ None
no_leaving None is = refl
no_leaving (Some a) is = absurd (cc is)

pub tells_none : (e : Event) → left_by e ≡ None → leaving_of e ≡ None
tells_none (Born v part turn type number by) is = refl
tells_none (Finalized v part turn type number cause) is = no_leaving (leaving_of (Finalized v part turn type number cause)) is
tells_none (Back v access number pool subpool cause) is = no_leaving (leaving_of (Back v access number pool subpool cause)) is
tells_none (Followed v) is = refl
tells_none (Left master) is = refl
tells_none (Line line) is = refl
tells_none Quiet is = refl
