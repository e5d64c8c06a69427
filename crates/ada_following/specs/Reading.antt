-- What a state of a program, and what a step of it shows, is for storage: each master stands in the frame that belongs to it, the objects of the heap are in
-- their places, treatments stand where they came first or wait for operations, and all else that is left to do is user code.

use Rattle.std.specs.Prelude.{◌≡◌, ◌⊎◌, ℕ, suc, ◌==◌, ◌<◌, Bool, true, false, ◌||◌, if◌then◌else◌, List, [], ◌∷◌, ◌++◌, map, length, Option, Some, None}
use Rattle.std.specs.List.{slice_get}
use Rattle.ada_program.specs.declared.program.TypeDefinition.{TypeDefinition}
use Rattle.ada_program.specs.Controlled.{number_reached, shapes_of}
use Rattle.ada_parts.specs.Part.{Part as PartOf, numbers}
use Rattle.ada_parts.specs.Task.{Task}
use Rattle.ada_parts.specs.Law.{parts_left}
use Rattle.ada_meaning.specs.declared.state.Id.{Id}
use Rattle.ada_meaning.specs.declared.state.Value.{Value}
use Rattle.ada_meaning.specs.declared.state.Value.TheVariants.{Null, Names, Scalar, Part}
use Rattle.ada_meaning.specs.declared.state.Mode.{Mode}
use Rattle.ada_meaning.specs.declared.state.Mode.TheVariants.{Running, Raising, Exiting, Returning}
use Rattle.ada_meaning.specs.declared.event.Birth.{Birth}
use Rattle.ada_meaning.specs.declared.event.Birth.TheVariants.{Creation, Copy, Adjustment}
use Rattle.ada_meaning.specs.declared.event.Cause.{Cause}
use Rattle.ada_meaning.specs.declared.event.Cause.TheVariants.{Leaving, Freeing, Assigning, Undoing}
use Rattle.ada_meaning.specs.Event.{Born, Finalized, Back, Followed, Left, Line, Quiet}
use Rattle.ada_meaning.specs.Frame.{Treatment, begins, ends, Frame}
use Rattle.ada_meaning.specs.Frame as frame
use Rattle.ada_meaning.specs.Heap.{PartState}
use Rattle.ada_meaning.specs.State.{Owned, declared, collection, record_object, storage_pool, Item, Master}
use Rattle.ada_meaning.specs.Named.{Object, State, members_of, on_object, parted}
use Rattle.ada_meaning.specs.Run.{Event}
use Rattle.ada_meaning.specs.Law.{named_by}
use Rattle.ada_storage.specs.State.{in_list, in_forests}
use Rattle.ada_storage.specs.State as storage
use Rattle.ada_following.specs.Forests.{forest_for, forest_adjusted, Begins, Ends}

-- Masters and causes are numbered from 0 in a program, and from 1 in storage, where 0 is no master's number.

-- What ends an object or a value.
abbrev pub cause_seen : Cause → storage.Cause
cause_seen (Leaving m i) = storage.leaving (suc m) i
cause_seen (Freeing n) = storage.freeing (suc n)
cause_seen (Assigning n) = storage.assigning (suc n)
cause_seen (Undoing n) = storage.undoing (suc n)

-- How a value comes to exist (7.6): an object that is declared as a copy is created, and its parts are adjusted then in the place of an initialization.
abbrev pub birth_seen : Birth → storage.Birth
birth_seen Creation = storage.creation
birth_seen Copy = storage.creation
birth_seen (Adjustment n) = storage.adjustment

-- A value of an object's part has come to exist.
abbrev pub born_seen : Option Id → (part turn : ℕ) → Birth → storage.Event
born_seen None part turn by = storage.quiet
born_seen (Some o) part turn by = storage.born (record { object = o.0; part = part; turn = turn }) (birth_seen by)

-- One is finalized.
abbrev pub finalized_seen : Option Id → (part turn : ℕ) → Cause → storage.Event
finalized_seen None part turn cause = storage.quiet
finalized_seen (Some o) part turn cause = storage.finalized (record { object = o.0; part = part; turn = turn }) (cause_seen cause)

-- The words of an object go back.
abbrev pub back_seen : Option Id → Cause → storage.Event
back_seen None cause = storage.quiet
back_seen (Some o) cause = storage.back o.0 (cause_seen cause)

-- What storage shows where a program shows an event.
abbrev pub event_seen : Event → storage.Event
event_seen (Born object part turn type number by) = born_seen (named_by object) part turn by
event_seen (Finalized object part turn type number cause) = finalized_seen (named_by object) part turn cause
event_seen (Back object access number pool subpool cause) = back_seen (named_by object) cause
event_seen (Followed object) = storage.quiet
event_seen (Left master) = storage.left (suc master)
event_seen (Line line) = storage.quiet
event_seen Quiet = storage.quiet

-- An exit or a return is for storage the end of a block or of a body.
abbrev pub mode_seen : Mode → storage.Mode
mode_seen Running = storage.running
mode_seen (Raising e) = storage.raising
mode_seen Exiting = storage.running
mode_seen Returning = storage.running

-- An object by its number.
abbrev pub number : Id → ℕ
number o = o.0

-- The objects whose home is the item of this number and that have not left it, newest first.
abbrev pub listed_in : List Object → (item : ℕ) → List ℕ
listed_in objects item = map number (members_of objects item)

-- The same objects, in whichever order: a member of a collection joins once it is initialized, and another one may have joined before it that is newer.
abbrev pub AreMembers : (members listed : List ℕ) → Type 0
AreMembers members listed = (o : ℕ) → in_list o members ≡ in_list o listed

-- A record object is an item of its own, until it is taken (3.3.1, 7.6.1).
abbrev pub IsObject : (number : ℕ) → (listed : List ℕ) → (older : List storage.Item → Type 0) → List storage.Item → Type 0
IsObject n [] older items = older items
IsObject n (o ∷ os) older items =
    (rest : List storage.Item) × older rest × (items ≡ record { number = n; owned = storage.declared o } ∷ rest)

-- An item in front of older ones: a collection with its members, or a record object. A variable of an elementary type and a pool are nothing for storage.
abbrev pub IsItem : (number : ℕ) → (listed : List ℕ) → Owned → (older : List storage.Item → Type 0) → List storage.Item → Type 0
IsItem n os (declared x) older items = older items
IsItem n os (collection access pool) older items =
    (members : List ℕ) × (rest : List storage.Item) × AreMembers members os × older rest
    × (items ≡ record { number = n; owned = storage.collection members } ∷ rest)
IsItem n os (record_object t) older items = IsObject n os older items
IsItem n os (storage_pool declaration pool) older items = older items

-- The items of a master, newest first.
abbrev pub AreItems : List Object → List Item → List storage.Item → Type 0
AreItems objects [] items = items ≡ []
AreItems objects (i ∷ is) items = IsItem i.number (listed_in objects i.number) i.owned (AreItems objects is) items

-- A master.
abbrev pub IsMaster : List Object → Master → storage.Master → Type 0
IsMaster objects m master = (master.number ≡ suc m.number) × AreItems objects m.items master.items

-- What is left to do behind something, with the masters in which it stands, is this for storage.
abbrev pub Behind : Type 1
Behind = List Master → storage.Control → Type 0

-- User code of the innermost master, with what is behind it.
abbrev pub IsActing : List Object → Behind → Behind
IsActing objects behind [] c = c ≡ storage.stops
IsActing objects behind (m ∷ ms) c =
    (master : storage.Master) × (k : storage.Control) × IsMaster objects m master × behind ms k × (c ≡ storage.acts master k)

-- The innermost master is being left.
abbrev pub IsLeaving : List Object → Mode → Behind → Behind
IsLeaving objects mode behind [] c = c ≡ storage.stops
IsLeaving objects mode behind (m ∷ ms) c =
    (master : storage.Master) × (k : storage.Control) × IsMaster objects m master × behind ms k × (c ≡ storage.leaves master (mode_seen mode) k)

-- The object that a value names, by its number.
abbrev pub object_number : Value → ℕ
object_number Null = 0
object_number (Names o) = o.0
object_number (Scalar v) = 0
object_number (Part o first) = o.0

-- At the leaving of the innermost master words of an object go back next (7.6.1).
abbrev pub taken_seen : (item object : ℕ) → (behind : storage.Control) → storage.Control
taken_seen i o (storage.leaves m mode k) = storage.finalizes m i o [] mode k
taken_seen i o k = k

-- Words of an object go back next, by this cause.
abbrev pub giving_seen : Cause → (object : ℕ) → (behind : storage.Control) → storage.Control
giving_seen (Leaving m i) o k = taken_seen i o k
giving_seen (Freeing n) o k = storage.frees (suc n) o [] k
giving_seen (Assigning n) o k = k
giving_seen (Undoing n) o k = storage.undoes (suc n) o [] k

-- Before that these parts of it are finalized (7.6.1), at a leaving, by a Free, or for an assignment.
abbrev pub with_left : (left : List storage.Forest) → (behind : storage.Control) → storage.Control
with_left left (storage.finalizes m i o fs mode k) = storage.finalizes m i o left mode k
with_left left (storage.frees n o fs k) = storage.frees n o left k
with_left left (storage.assigns n o parts fs k) = storage.assigns n o parts left k
with_left left k = k

-- Or these parts, in this order, as an object is undone (7.6.1).
abbrev pub with_done : (done : List ℕ) → (behind : storage.Control) → storage.Control
with_done done (storage.undoes n o ps k) = storage.undoes n o done k
with_done done k = k

-- Other parts are assigned.
abbrev pub with_parts : (parts : storage.Forest) → (left : List storage.Forest) → (behind : storage.Control) → storage.Control
with_parts parts left (storage.assigns n o f fs k) = storage.assigns n o parts left k
with_parts parts left k = k

-- Whether the words of an object are out, if there is one.
abbrev pub is_out : Option Object → Bool
is_out None = false
is_out (Some object) = object.out

-- Is an item of this number among these?
abbrev pub has_item : (item : ℕ) → List Item → Bool
has_item c [] = false
has_item c (i ∷ is) = (i.number == c) || has_item c is

-- The number of the master that has the item.
abbrev pub master_with : (item : ℕ) → List Master → ℕ
master_with c [] = 0
master_with c (m ∷ ms) = if has_item c m.items then suc m.number else master_with c ms

-- Where an object joins: a declared one is from no pool.
abbrev pub joins_by : (pool : Option ℕ) → (item : ℕ) → List Master → storage.Joins
joins_by None c ms = storage.to_items
joins_by (Some pool) c ms = storage.to_collection (master_with c ms) c

-- Where the object that a value names joins.
abbrev pub joins_seen : Option Object → List Master → storage.Joins
joins_seen None ms = storage.to_items
joins_seen (Some object) ms = joins_by object.cell.home.pool object.cell.home.item ms

-- A controlled part, by its number, if there is one.
abbrev pub part_of : Option Object → (part : ℕ) → Option PartState
part_of None p = None
part_of (Some object) p = slice_get object.cell.parts p

-- Whether it has a value now.
abbrev pub is_alive : Option PartState → Bool
is_alive None = false
is_alive (Some p) = p.alive

-- An object that is initialized is no item and no member for storage yet: it joins once it is initialized (7.6). So it is for a declared copy, too. These
-- jobs come first, and then those of these tasks; these parts are done, newest first.
abbrev pub IsInitialized : List TypeDefinition → List Object → Value → (first : List storage.Job) → (done : List PartOf) → List Task → List Master → (behind : List Object → Behind) → storage.Control → Type 0
IsInitialized types objects v first done tasks ms behind c =
    (jobs : List storage.Job) × (k : storage.Control) × Begins (shapes_of types) jobs tasks × behind (on_object parted objects v) ms k
    × (c ≡ storage.initializes (object_number v) (joins_seen (slice_get objects (object_number v)) ms) (first ++ jobs) (numbers done) k)

-- The parts of a record that was assigned are adjusted (7.6).
abbrev pub IsAdjusted : List TypeDefinition → List Object → Value → (first : List storage.Job) → (done : List PartOf) → List Task → List Master → (behind : List Object → Behind) → storage.Control → Type 0
IsAdjusted types objects v first done tasks ms behind c =
    (parts : storage.Forest) × (jobs : List storage.Job) × (k : storage.Control) × Begins (shapes_of types) jobs tasks × behind objects ms k
    × (c ≡ storage.adjusts (object_number v) parts (first ++ jobs) (numbers done) k)

-- Values of parts come to exist.
abbrev pub IsBegun : List TypeDefinition → List Object → Value → Birth → (first : List storage.Job) → (done : List PartOf) → List Task → List Master → (behind : List Object → Behind) → storage.Control → Type 0
IsBegun types objects v Creation first done tasks ms behind c = IsInitialized types objects v first done tasks ms behind c
IsBegun types objects v Copy first done tasks ms behind c = IsInitialized types objects v first done tasks ms behind c
IsBegun types objects v (Adjustment n) first done tasks ms behind c = IsAdjusted types objects v first done tasks ms behind c

-- Before the parts of a record that is assigned are adjusted they are finalized, until none is left, and its components are copied.
abbrev pub IsCopying : List TypeDefinition → List Object → Value → Birth → List Task → List Master → (behind : List Object → Behind) → storage.Control → Type 0
IsCopying types objects v Creation tasks ms behind c = ⊥
IsCopying types objects v Copy tasks ms behind c = ⊥
IsCopying types objects v (Adjustment n) tasks ms behind c =
    (left : List storage.Forest) × (k : storage.Control) × Ends (shapes_of types) left [] × behind objects ms k
    × (c ≡ storage.assigns (suc n) (object_number v) (forest_adjusted (shapes_of types) tasks) left k)

-- A part is still to be finalized.
abbrev pub IsToEnd : List TypeDefinition → List Task → (part : ℕ) → Type 0
IsToEnd types tasks p = 0 < in_list p (numbers (parts_left (shapes_of types) tasks))

-- A program that is not well formed may refer to a place where no such record lies: some part that is still to be finalized has no value there. Those that
-- have one are among these.
pub record LacksValue (types : List TypeDefinition) (objects : List Object) (object : ℕ) (tasks : List Task) (left : List storage.Forest) : Type 0 where
  pub dead : ℕ
  pub to_end : IsToEnd types tasks dead
  pub is_dead : is_alive (part_of (slice_get objects object) dead) ≡ false
  pub others : (p : ℕ) → IsToEnd types tasks p → is_alive (part_of (slice_get objects object) p) ≡ true → 0 < in_forests p left

-- An assignment there is for storage one to the parts that have a value, in any order: the run halts at one that has none, before anything is copied (7.6).
abbrev pub IsFailing : List TypeDefinition → List Object → Value → Cause → List Task → (behind c : storage.Control) → Type 0
IsFailing types objects v (Leaving m i) tasks k c = ⊥
IsFailing types objects v (Freeing n) tasks k c = ⊥
IsFailing types objects v (Assigning n) tasks k c =
    (parts : storage.Forest) × (left : List storage.Forest) × LacksValue types objects (object_number v) tasks left × (c ≡ with_parts parts left k)
IsFailing types objects v (Undoing n) tasks k c = ⊥

-- These parts are left to be finalized.
abbrev pub IsEnding : List TypeDefinition → Cause → List Task → (behind c : storage.Control) → Type 0
IsEnding types (Leaving m i) tasks k c = (left : List storage.Forest) × Ends (shapes_of types) left tasks × (c ≡ with_left left k)
IsEnding types (Freeing n) tasks k c = (left : List storage.Forest) × Ends (shapes_of types) left tasks × (c ≡ with_left left k)
IsEnding types (Assigning n) tasks k c = (left : List storage.Forest) × Ends (shapes_of types) left tasks × (c ≡ with_left left k)
IsEnding types (Undoing n) tasks k c = c ≡ with_done (numbers (parts_left (shapes_of types) tasks)) k

-- Values of parts come to exist, or they are finalized.
abbrev pub IsTreated : List TypeDefinition → List Object → Value → Treatment → List Task → List Master → (behind : List Object → Behind) → storage.Control → Type 0
IsTreated types objects v (begins by done) tasks ms behind c = IsCopying types objects v by tasks ms behind c
IsTreated types objects v (ends cause) tasks ms behind c =
    (k : storage.Control) × behind objects ms k × (IsEnding types cause tasks k c ⊎ IsFailing types objects v cause tasks k c)

-- An object ceases to exist next: no part of it is left.
abbrev pub IsToCease : List TypeDefinition → Behind → Behind
IsToCease types behind ms c =
    (left : List storage.Forest) × (k : storage.Control) × Ends (shapes_of types) left [] × behind ms k × (c ≡ with_left left k)

-- A frame with what is behind it. Each frame at which a jump stops takes the next master, and so does the leaving of one. All else but treatments and ends of
-- objects is user code. The body of an operation is user code in front of the treatment that called it (7.6).
abbrev pub IsFrame : List TypeDefinition → List Object → Frame Value → (behind : List Object → Behind) → Behind
IsFrame types objects (frame.Elaborates ds fs hs) behind ms c = IsActing objects (behind objects) ms c
IsFrame types objects frame.Closes behind ms c = IsActing objects (behind objects) ms c
IsFrame types objects (frame.Leaves mode) behind ms c = IsLeaving objects mode (behind objects) ms c
IsFrame types objects (frame.Treats v treatment tasks) behind ms c = IsTreated types objects v treatment tasks ms behind c
IsFrame types objects (frame.Awaits v by done of part tasks) behind ms c =
    IsBegun types objects v by (storage.called part ∷ []) done tasks ms behind c
IsFrame types objects (frame.Ends v) behind ms c = IsToCease types (behind objects) ms c
IsFrame types objects (frame.GivesBack v cause pool) behind ms c =
    (k : storage.Control) × behind objects ms k × (c ≡ giving_seen cause (object_number v) k)
IsFrame types objects f behind ms c = behind objects ms c

-- All that is left to do, with the masters that are entered.
abbrev pub IsControl : List TypeDefinition → List (Frame Value) → List Object → Behind
IsControl types [] objects ms c = c ≡ storage.stops
IsControl types (f ∷ k) objects ms c = IsFrame types objects f (IsControl types k) ms c

-- What is under way: the same, but that an operation which is to begin a part has not been called yet where its treatment comes first.
abbrev pub IsUnderWay : List TypeDefinition → List Object → List (Frame Value) → List Master → storage.Control → Type 0
IsUnderWay types objects (frame.Treats v (begins by done) tasks ∷ k) ms c = IsBegun types objects v by [] done tasks ms (IsControl types k) c
IsUnderWay types objects k ms c = IsControl types k objects ms c

-- What the mode is for storage: where a jump had to wait, and goes on next, it is that of the jump.
abbrev pub mode_after : Mode → List (Frame Value) → Mode
mode_after Running (frame.Resumes mode ∷ k) = mode
mode_after mode k = mode

-- The controlled parts of an object, by its type (7.6).
abbrev pub forest_seen : List TypeDefinition → Option Object → storage.Forest
forest_seen types None = storage.none
forest_seen types (Some object) = forest_for (shapes_of types) (number_reached types object.cell.access)

-- How many of its values have been finalized.
abbrev pub turn_of : Option PartState → ℕ
turn_of None = 0
turn_of (Some p) = p.turn

-- A state of storage is what a state of a program is for storage. It says nothing of homes, which a program forgets once a master has been left.
pub record IsSeenAs (types : List TypeDefinition) (s : State) (t : storage.State) : Type 0 where
  pub control : IsUnderWay types s.heap s.control s.masters t.control
  pub mode : t.mode ≡ mode_seen (mode_after s.mode s.control)
  -- the same words are out
  pub out : (o : ℕ) → (t.objects o).lives ≡ is_out (slice_get s.heap o)
  -- objects have the same controlled parts, which have values, and had as many before
  pub shape : (o : ℕ) → (t.objects o).shape ≡ forest_seen types (slice_get s.heap o)
  pub alive : (o p : ℕ) → t.alive o p ≡ is_alive (part_of (slice_get s.heap o) p)
  pub turn : (o p : ℕ) → t.turn o p ≡ turn_of (part_of (slice_get s.heap o) p)
  -- the next numbers of objects, and of masters and causes
  pub created : t.created ≡ length s.heap
  pub next : t.next ≡ suc s.next
