-- Steps of storage. Whatever user code may do where it runs, and whichever order the language leaves open, is a choice; for each the step is a function.

use Rattle.std.specs.Prelude.{ℕ, zero, suc, ◌≤◌, Bool, true, false, nat_lt, cond, List, [], ◌∷◌}
use Rattle.ada_storage.specs.State.{Forest, none, tree, Value, Cause, leaving, freeing, undoing, assigning, Birth, creation, adjustment, Event, born, finalized, back, left, quiet, Owned, declared, collection, Item, Master, Joins, to_items, to_collection, Job, all_in, call, called, Mode, running, raising, Control, stops, acts, leaves, finalizes, frees, initializes, undoes, assigns, adjusts, State, put, put_part, in_list, in_forest, listed, assigned, opens, parted, parted_master, joined, is_top, kids_of, others_of}

-- The parts of a forest are told apart by their labels.
abbrev pub Simple : Forest → Type 0
Simple f = (q : ℕ) → in_forest q f ≤ 1

-- What may be chosen.
pub data Choice : Type 0 where
  -- what is under way goes on; an Initialize, Adjust or Finalize that comes next does nothing, or it is user code, and its body is entered
  goes_on : Choice
  enters : Choice
  -- one of some parts, or of the members of a collection, is taken
  takes : ℕ → Choice
  -- an initialized object joins the items of the innermost master under a number
  joins_as : (number : ℕ) → Choice
  -- user code enters a block or a body, comes to the end of one, raises an exception, and handles one; an `enters` is a block where user code runs
  finishes : Choice
  raises : Choice
  catches : Choice
  -- user code declares an object with such parts, creates a collection under a number, allocates in a collection, by its master and its item, frees an
  -- object, and assigns to such parts of an object
  declares : (parts : Forest) → Simple parts → Choice
  collects : (number : ℕ) → Choice
  allocates : (master item : ℕ) (parts : Forest) → Simple parts → Choice
  deallocates : (object : ℕ) → Choice
  copies : (object : ℕ) (parts : Forest) → Simple parts → Choice

-- What comes of a choice: it is none here; a value would be finalized that does not exist (13.11.2); or an event and a state.
pub data Outcome : Type 0 where
  stuck : Outcome
  erroneous : Outcome
  goes : Event → State → Outcome

-- The state with this under way.
abbrev pub at : Control → State → State
at k s = record s { control = k }

-- A body is entered: it is a master of its own (7.6.1), with a number that no other has.
abbrev pub calls : Control → State → State
calls k s = record s { control = acts (record { number = s.next; items = [] }) k; next = suc s.next }

-- The value that a part has, or would have next.
abbrev pub value_at : (object part : ℕ) → State → Value
value_at o p s = record { object = o; part = p; turn = s.turn o p }

-- The value of a part is finalized: it exists no more (7.6.1).
abbrev pub dies : (object part : ℕ) → State → State
dies o p s = record s { alive = put_part s.alive o p false; turn = put_part s.turn o p (suc (s.turn o p)) }

-- An operation of a part is user code, whose body is entered, or does nothing.
abbrev pub performed : (code : Bool) → Control → State → State
performed true k s = calls k s
performed false k s = at k s

-- It is, if the part has a value; to finalize one that does not exist is erroneous.
abbrev pub finalize_by : (alive code : Bool) → (object part : ℕ) → Cause → Control → State → Outcome
finalize_by false code o p cause k s = erroneous
finalize_by true code o p cause k s = goes (finalized (value_at o p s) cause) (performed code k (dies o p s))

-- So for a part as it is in a state.
abbrev pub finalize : (code : Bool) → (object part : ℕ) → Cause → Control → State → Outcome
finalize code o p cause k s = finalize_by (s.alive o p) code o p cause k s

-- Where parts of an object are finalized: at a leaving, by a Free, or by an assignment.
pub data Ending : Type 0 where
  at_leaving : Master → (item : ℕ) → Mode → Control → Ending
  at_free : (number : ℕ) → Control → Ending
  at_assignment : (number : ℕ) → (parts : Forest) → Control → Ending

-- Its frame, with what is left, and its cause.
abbrev pub frame : Ending → (object : ℕ) → (left : List Forest) → Control
frame (at_leaving m i mode k) o fs = finalizes m i o fs mode k
frame (at_free n k) o fs = frees n o fs k
frame (at_assignment n f k) o fs = assigns n o f fs k

-- What the events of an ending are caused by.
abbrev pub cause_of : Ending → Cause
cause_of (at_leaving m i mode k) = leaving m.number i
cause_of (at_free n k) = freeing n
cause_of (at_assignment n f k) = assigning n

-- An object ceases to exist, and its words go back (13.11.2).
abbrev pub gone : (object : ℕ) → State → State
gone o s = record s { objects = put s.objects o (record (s.objects o) { lives = false }) }

-- No part is left: the object is gone; or the assignment goes on, and its parts are adjusted (7.6).
abbrev pub ended : Ending → (object : ℕ) → State → Outcome
ended (at_leaving m i mode k) o s = goes (back o (leaving m.number i)) (at (leaves m mode k) (gone o s))
ended (at_free n k) o s = goes (back o (freeing n)) (at k (gone o s))
ended (at_assignment n f k) o s = goes quiet (at (adjusts o f (all_in f ∷ []) [] k) s)

-- One part of several is taken: it is finalized next, with what lies in it, and then the others.
abbrev pub ends_part : (is_there : Bool) → (part : ℕ) → Ending → (object : ℕ) → Forest → List Forest → State → Outcome
ends_part false x ending o f fs s = stuck
ends_part true x ending o f fs s = goes quiet (at (frame ending o (tree x (kids_of x f) none ∷ others_of x f ∷ fs)) s)

-- A part that stands alone is finalized, and then what lies in it (7.6.1).
abbrev pub ends_whole : (others : Forest) → (code : Bool) → (part : ℕ) → (inside : Forest) → Ending → (object : ℕ) → List Forest → State → Outcome
ends_whole none code p inside ending o fs s = finalize code o p (cause_of ending) (frame ending o (inside ∷ fs)) s
ends_whole (tree q more others) code p inside ending o fs s = stuck

-- The next step of an ending, by what is left: parts are taken one by one, in any order (7.6.1).
abbrev pub ends : (left : List Forest) → Choice → Ending → (object : ℕ) → State → Outcome
ends [] goes_on ending o s = ended ending o s
ends [] c ending o s = stuck
ends (none ∷ fs) goes_on ending o s = goes quiet (at (frame ending o fs) s)
ends (none ∷ fs) c ending o s = stuck
ends (tree p inside others ∷ fs) (takes x) ending o s = ends_part (is_top x (tree p inside others)) x ending o (tree p inside others) fs s
ends (tree p inside others ∷ fs) goes_on ending o s = ends_whole others false p inside ending o fs s
ends (tree p inside others ∷ fs) enters ending o s = ends_whole others true p inside ending o fs s
ends (tree p inside others ∷ fs) c ending o s = stuck

-- A part has a value (7.6).
abbrev pub lives_on : (object part : ℕ) → State → State
lives_on o p s = record s { alive = put_part s.alive o p true }

-- Where parts of an object get their values: as it is created, or by an assignment.
pub data Beginning : Type 0 where
  at_creation : Joins → Control → Beginning
  at_adjustment : (parts : Forest) → Control → Beginning

-- Its frame, with what is left and what is done, and how its values come to exist.
abbrev pub frame_of : Beginning → (object : ℕ) → List Job → (done : List ℕ) → Control
frame_of (at_creation joins k) o js done = initializes o joins js done k
frame_of (at_adjustment f k) o js done = adjusts o f js done k

-- How values come to exist by a beginning.
abbrev pub birth_of : Beginning → Birth
birth_of (at_creation joins k) = creation
birth_of (at_adjustment f k) = adjustment

-- Is this number greater than those of items?
abbrev pub is_above : (number : ℕ) → List Item → Bool
is_above c [] = true
is_above c (i ∷ is) = nat_lt i.number c

-- The innermost master owns something more, under such a number (7.6.1).
abbrev pub owns_by : (is_above : Bool) → (number : ℕ) → Owned → Master → Control → State → Outcome
owns_by false c owned m k s = stuck
owns_by true c owned m k s = goes quiet (at (acts (record m { items = record { number = c; owned = owned } ∷ m.items }) k) s)

-- An object that is initialized joins where it belongs.
abbrev pub joins_items : (number : ℕ) → Control → (object : ℕ) → State → Outcome
joins_items c (acts m k) o s = owns_by (is_above c m.items) c (declared o) m k s
joins_items c k o s = stuck

-- An allocated object joins the collection that is open under that number, which there is once.
abbrev pub joins_by : (count : ℕ) → (master item object : ℕ) → Control → State → Outcome
joins_by (suc zero) a c o k s = goes quiet (at (joined a c o k) s)
joins_by n a c o k s = stuck

-- No part is left: the object is there, or the assignment is done.
abbrev pub begun : Choice → Beginning → (object : ℕ) → State → Outcome
begun (joins_as c) (at_creation to_items k) o s = joins_items c k o s
begun goes_on (at_creation (to_collection a c) k) o s = joins_by (opens a c k) a c o k s
begun goes_on (at_adjustment f k) o s = goes quiet (at k s)
begun c beginning o s = stuck

-- One part of several is taken: what lies in it gets its values first, then the part itself, and then the others (7.6).
abbrev pub begins_part : (is_there : Bool) → (part : ℕ) → Beginning → (object : ℕ) → Forest → List Job → (done : List ℕ) → State → Outcome
begins_part false x beginning o f js done s = stuck
begins_part true x beginning o f js done s =
    goes quiet (at (frame_of beginning o (all_in (kids_of x f) ∷ call x ∷ all_in (others_of x f) ∷ js) done) s)

-- The next step of a beginning, by what is left: parts get their values one by one, in any order, what lies in one before it (7.6).
abbrev pub begins : List Job → Choice → Beginning → (object : ℕ) → (done : List ℕ) → State → Outcome
begins [] c beginning o done s = begun c beginning o s
begins (all_in none ∷ js) goes_on beginning o done s = goes quiet (at (frame_of beginning o js done) s)
begins (all_in none ∷ js) c beginning o done s = stuck
begins (all_in (tree p inside others) ∷ js) (takes x) beginning o done s =
    begins_part (is_top x (tree p inside others)) x beginning o (tree p inside others) js done s
begins (all_in (tree p inside others) ∷ js) c beginning o done s = stuck
begins (call p ∷ js) goes_on beginning o done s =
    goes (born (value_at o p s) (birth_of beginning)) (at (frame_of beginning o js (p ∷ done)) (lives_on o p s))
begins (call p ∷ js) enters beginning o done s = goes quiet (calls (frame_of beginning o (called p ∷ js) done) s)
begins (call p ∷ js) c beginning o done s = stuck
begins (called p ∷ js) goes_on beginning o done s =
    goes (born (value_at o p s) (birth_of beginning)) (at (frame_of beginning o js (p ∷ done)) (lives_on o p s))
begins (called p ∷ js) c beginning o done s = stuck

-- An Initialize raised an exception (7.6.1): what was initialized is finalized, newest first, the words of the object go back, and the exception goes on.
abbrev pub rolls_back : (done : List ℕ) → Choice → (number object : ℕ) → Control → State → Outcome
rolls_back [] goes_on n o k s =
    goes (back o (undoing n)) (record s { objects = put s.objects o (record (s.objects o) { lives = false }); control = k; mode = raising })
rolls_back [] c n o k s = stuck
rolls_back (p ∷ done) goes_on n o k s = finalize false o p (undoing n) (undoes n o done k) s
rolls_back (p ∷ done) enters n o k s = finalize true o p (undoing n) (undoes n o done k) s
rolls_back (p ∷ done) c n o k s = stuck

-- The leaving of a master (7.6.1), newest item first; the members of a collection in any order. What is taken leaves its place at once.
abbrev pub member : (is_there : ℕ) → (object : ℕ) → Item → List Item → Master → Mode → Control → State → Outcome
member zero o i is m mode k s = stuck
member (suc n) o i is m mode k s = goes quiet (at (finalizes (parted_master o m) i.number o ((s.objects o).shape ∷ []) mode (parted o k)) s)

-- What an item owns: a declared object is finalized, members of a collection are taken in any order, and then the collection goes.
abbrev pub leave_owned : Owned → Choice → Item → List Item → Master → Mode → Control → State → Outcome
leave_owned (declared o) goes_on i is m mode k s =
    goes quiet (at (finalizes (record m { items = is }) i.number o ((s.objects o).shape ∷ []) mode k) s)
leave_owned (declared o) c i is m mode k s = stuck
leave_owned (collection []) goes_on i is m mode k s = goes quiet (at (leaves (record m { items = is }) mode k) s)
leave_owned (collection []) c i is m mode k s = stuck
leave_owned (collection (o ∷ os)) (takes x) i is m mode k s = member (in_list x (o ∷ os)) x i is m mode k s
leave_owned (collection (o ∷ os)) c i is m mode k s = stuck

-- The next step of a leaving, by the items that are left.
abbrev pub leave : List Item → Choice → Master → Mode → Control → State → Outcome
leave [] goes_on m mode k s = goes (left m.number) (record s { control = k; mode = mode })
leave [] c m mode k s = stuck
leave (i ∷ is) c m mode k s = leave_owned i.owned c i is m mode k s

-- A new object (3.3.1, 4.8): its words are out, and it is to be initialized.
abbrev pub creates : (home : ℕ) → Joins → (parts : Forest) → Master → Control → State → State
creates home joins f m k s = record s {
  objects = put s.objects s.created (record { home = home; shape = f; lives = true });
  control = initializes s.created joins (all_in f ∷ []) [] (acts m k);
  created = suc s.created;
}

-- An allocator of a collection that is open under that number (4.8).
abbrev pub allocates_by : (count : ℕ) → (master item : ℕ) → (parts : Forest) → Master → Control → State → Outcome
allocates_by (suc zero) a c f m k s = goes quiet (creates a (to_collection a c) f m k s)
allocates_by n a c f m k s = stuck

-- A member of a collection is freed (13.11.2), to which no assignment is under way: it leaves its collection at once.
abbrev pub frees_by : (listed assigned : ℕ) → (object : ℕ) → Master → Control → State → Outcome
frees_by (suc n) zero o m k s =
    goes quiet (record s { control = frees s.next o ((s.objects o).shape ∷ []) (parted o (acts m k)); next = suc s.next })
frees_by l a o m k s = stuck

-- Does each of some parts have a value?
abbrev pub all_alive : (alive : ℕ → Bool) → Forest → Bool
all_alive alive none = true
all_alive alive (tree p inside others) = cond (alive p) (cond (all_alive alive inside) (all_alive alive others) false) false

-- Parts of an object whose words are out are assigned to (7.6), if each has a value.
abbrev pub copies_by : (lives alive : Bool) → (object : ℕ) → (parts : Forest) → Master → Control → State → Outcome
copies_by true true o f m k s = goes quiet (record s { control = assigns s.next o f (f ∷ []) (acts m k); next = suc s.next })
copies_by l a o f m k s = stuck

-- User code.
abbrev pub act : Choice → Master → Control → State → Outcome
act goes_on m k s = stuck
act (takes x) m k s = stuck
act (joins_as c) m k s = stuck
act enters m k s = goes quiet (calls (acts m k) s)
act finishes m k s = goes quiet (at (leaves m running k) s)
act raises m k s = goes quiet (record s { control = acts m k; mode = raising })
act catches m k s = stuck
act (declares f w) m k s = goes quiet (creates m.number to_items f m k s)
act (collects c) m k s = owns_by (is_above c m.items) c (collection []) m k s
act (allocates a c f w) m k s = allocates_by (opens a c (acts m k)) a c f m k s
act (deallocates o) m k s = frees_by (listed o (acts m k)) (assigned o (acts m k)) o m k s
act (copies o f w) m k s = copies_by (s.objects o).lives (all_alive (s.alive o) f) o f m k s

-- The next step where no exception is on its way.
abbrev pub running_step : Choice → Control → State → Outcome
running_step c stops s = stuck
running_step c (acts m k) s = act c m k s
running_step c (leaves m mode k) s = leave m.items c m mode k s
running_step c (finalizes m i o fs mode k) s = ends fs c (at_leaving m i mode k) o s
running_step c (frees n o fs k) s = ends fs c (at_free n k) o s
running_step c (initializes o joins js done k) s = begins js c (at_creation joins k) o done s
running_step c (undoes n o done k) s = rolls_back done c n o k s
running_step c (assigns n o f fs k) s = ends fs c (at_assignment n f k) o s
running_step c (adjusts o f js done k) s = begins js c (at_adjustment f k) o done s

-- An exception (11.4): user code handles it, or the master is left; an object that is being initialized is undone. It leaves no Adjust and no Finalize: the run
-- ends there.
abbrev pub raising_act : Choice → Master → Control → State → Outcome
raising_act catches m k s = goes quiet (record s { control = acts m k; mode = running })
raising_act goes_on m k s = goes quiet (record s { control = leaves m raising k; mode = running })
raising_act c m k s = stuck

-- The next step where one is.
abbrev pub raising_step : Choice → Control → State → Outcome
raising_step c (acts m k) s = raising_act c m k s
raising_step c (initializes o joins js done k) s = goes quiet (record s { control = undoes s.next o done k; mode = running; next = suc s.next })
raising_step c k s = stuck

-- The next step in a mode.
abbrev pub mode_step : Mode → Choice → State → Outcome
mode_step running c s = running_step c s.control s
mode_step raising c s = raising_step c s.control s

-- What comes of a choice in a state.
unfoldable pub step : Choice → State → Outcome
step c s = mode_step s.mode c s
