-- What is left to do, as storage sees it: code stands in masters that are entered, and behind the body of an operation the treatment waits that called it.

use Rattle.std.proofs.Common.{◌≡◌, ◌≢◌, ℕ, suc, ◌+◌, ◌<◌, Bool, true, false, cond, List, [], ◌∷◌, map, Option, refl, arith}
use Rattle.std.specs.Prelude.{◌==◌, is_some}
use Rattle.std.specs.List.{slice_get}
use Rattle.ada_program.specs.declared.program.TypeDefinition.{TypeDefinition}
use Rattle.ada_program.specs.Controlled.{shapes_of}
use Rattle.ada_program.specs.declared.program.Exception.{Exception}
use Rattle.ada_program.specs.Form.{ActualForm}
use Rattle.ada_parts.specs.Part.{Part as PartOf, numbers}
use Rattle.ada_parts.specs.Task.{Task, performs, treats}
use Rattle.ada_meaning.specs.declared.event.Birth.{Birth}
use Rattle.ada_meaning.specs.declared.event.Birth.TheVariants.{Creation, Copy, Adjustment}
use Rattle.ada_meaning.specs.declared.state.Id.{Id}
use Rattle.ada_meaning.specs.declared.state.Value.{Value}
use Rattle.ada_meaning.specs.declared.state.Value.TheVariants.{Names}
use Rattle.ada_meaning.specs.declared.state.Mode.{Mode}
use Rattle.ada_meaning.specs.declared.state.Mode.TheVariants.{Raising}
use Rattle.ada_meaning.specs.declared.event.Cause.TheVariants.{Leaving, Freeing, Assigning, Undoing}
use Rattle.ada_meaning.specs.Frame.{begins, ends, Frame, is_master}
use Rattle.ada_meaning.specs.Frame as frame
use Rattle.ada_meaning.specs.State.{Activation, record_object, Item, Master}
use Rattle.ada_meaning.specs.Step.{older, operands_of, treating}
use Rattle.ada_storage.specs.State.{Forest, Job, same, in_list, in_forest, in_forests, placed, listed, assigned, opens, parted, joined}
use Rattle.ada_storage.specs.State as storage
use Rattle.ada_storage.proofs.Invariant.{Alive, Objects, after, Fits}
use Rattle.ada_following.specs.Forests.{forest_adjusted, Begins, Ends}
use Rattle.ada_following.specs.Reading.{mode_seen, listed_in, part_of, joins_seen, IsToEnd}
use Rattle.ada_following.proofs.PartsLeft.{beside}
use Rattle.ada_following.proofs.Heaps.{Heap}
use Rattle.ada_following.proofs.Places.{AllBelow, NotInMasters, MasterOnce, Listing, Items}

abbrev pub Control : Type 0
Control = List (Frame Value)

-- A frame that storage does not see; but for an assignment that waits for its references, and the end of a body.
abbrev pub IsCode : Frame Value → Type 0
IsCode (frame.Elaborates ds fs hs) = ⊥
IsCode frame.Closes = ⊥
IsCode (frame.Leaves mode) = ⊥
IsCode (frame.Returns actuals references) = ⊥
IsCode (frame.Treats v treatment tasks) = ⊥
IsCode (frame.Awaits v by done of part tasks) = ⊥
IsCode frame.Confines = ⊥
IsCode (frame.Resumes mode) = ⊥
IsCode (frame.Ends v) = ⊥
IsCode (frame.GivesBack v cause pool) = ⊥
IsCode (frame.Assigns t) = ⊥
IsCode f = Unit {0}

pub code_is_no_master : (f : Frame Value) → IsCode f → is_master f ≡ false
code_is_no_master (frame.Elaborates ds fs hs) is = absurd is
code_is_no_master frame.Closes is = absurd is
code_is_no_master f is = refl

-- Code in front of what is left to do; or a master's frame has become another one.
pub data Over (b : Control) : Control → Type 0 where
  same_one : Over b b
  turned : (f g : Frame Value) (k : Control) → is_master f ≡ true → is_master g ≡ true → b ≡ f ∷ k → Over b (g ∷ k)
  more : {f : Frame Value} {l : Control} → IsCode f → Over b l → Over b (f ∷ l)

-- What never changes of an object: which controlled parts it has, and where it joins.
pub record Static : Type 0 where
  pub holds : (object part : ℕ) → Bool
  pub joins : (object : ℕ) → List Master → storage.Joins

abbrev pub static : Heap → Static
static h = record { holds = λ o p. is_some (part_of (slice_get h o) p); joins = λ o. joins_seen (slice_get h o) }

-- How often objects are listed, and without one of them.
abbrev pub listing : Heap → Listing
listing h n o = in_list o (listed_in h n)

abbrev pub but : ℕ → Listing → Listing
but o L n x = cond (x == o) 0 (L n x)

-- A treatment in storage, but at a leaving.
pub data Treating : Type 0 where
  frees : (number object : ℕ) (left : List Forest) → Treating
  initializes : (object : ℕ) (joins : storage.Joins) (jobs : List Job) (done : List ℕ) → Treating
  undoes : (number object : ℕ) (done : List ℕ) → Treating
  assigns : (number object : ℕ) (parts : Forest) (left : List Forest) → Treating
  adjusts : (object : ℕ) (parts : Forest) (jobs : List Job) (done : List ℕ) → Treating

abbrev pub before : Treating → storage.Control → storage.Control
before (frees n o fs) k = storage.frees n o fs k
before (initializes o joins js done) k = storage.initializes o joins js done k
before (undoes n o done) k = storage.undoes n o done k
before (assigns n o f fs) k = storage.assigns n o f fs k
before (adjusts o f js done) k = storage.adjusts o f js done k

-- How often an object has its place there, and is assigned there; what lives behind it, and what is listed there.
abbrev pub placed_in : ℕ → Treating → ℕ
placed_in x (frees n o fs) = same x o
placed_in x (initializes o joins js done) = same x o
placed_in x (undoes n o done) = same x o
placed_in x (assigns n o f fs) = 0
placed_in x (adjusts o f js done) = 0

abbrev pub assigned_in : ℕ → Treating → ℕ
assigned_in x (frees n o fs) = 0
assigned_in x (initializes o joins js done) = 0
assigned_in x (undoes n o done) = 0
assigned_in x (assigns n o f fs) = same x o
assigned_in x (adjusts o f js done) = same x o

abbrev pub alive_behind : Alive → Treating → Alive
alive_behind A (frees n o fs) = A
alive_behind A (initializes o joins js done) = A
alive_behind A (undoes n o done) = A
alive_behind A (assigns n o f fs) = after A o f
alive_behind A (adjusts o f js done) = after A o f

abbrev pub listing_behind : Listing → Treating → Listing
listing_behind L (frees n o fs) = L
listing_behind L (initializes o joins js done) = but o L
listing_behind L (undoes n o done) = L
listing_behind L (assigns n o f fs) = L
listing_behind L (adjusts o f js done) = L

pub placed_before : (x : ℕ) (t : Treating) (k : storage.Control) → placed x (before t k) ≡ placed_in x t + placed x k
placed_before x (frees n o fs) k = refl
placed_before x (initializes o joins js done) k = refl
placed_before x (undoes n o done) k = refl
placed_before x (assigns n o f fs) k = omega arith
placed_before x (adjusts o f js done) k = omega arith

pub listed_before : (x : ℕ) (t : Treating) (k : storage.Control) → listed x (before t k) ≡ listed x k
listed_before x (frees n o fs) k = refl
listed_before x (initializes o joins js done) k = refl
listed_before x (undoes n o done) k = refl
listed_before x (assigns n o f fs) k = refl
listed_before x (adjusts o f js done) k = refl

pub assigned_before : (x : ℕ) (t : Treating) (k : storage.Control) → assigned x (before t k) ≡ assigned_in x t + assigned x k
assigned_before x (frees n o fs) k = omega arith
assigned_before x (initializes o joins js done) k = omega arith
assigned_before x (undoes n o done) k = omega arith
assigned_before x (assigns n o f fs) k = refl
assigned_before x (adjusts o f js done) k = refl

pub opens_before : (a c : ℕ) (t : Treating) (k : storage.Control) → opens a c (before t k) ≡ opens a c k
opens_before a c (frees n o fs) k = refl
opens_before a c (initializes o joins js done) k = refl
opens_before a c (undoes n o done) k = refl
opens_before a c (assigns n o f fs) k = refl
opens_before a c (adjusts o f js done) k = refl

pub parted_before : (x : ℕ) (t : Treating) (k : storage.Control) → parted x (before t k) ≡ before t (parted x k)
parted_before x (frees n o fs) k = refl
parted_before x (initializes o joins js done) k = refl
parted_before x (undoes n o done) k = refl
parted_before x (assigns n o f fs) k = refl
parted_before x (adjusts o f js done) k = refl

pub joined_before : (a c x : ℕ) (t : Treating) (k : storage.Control) → joined a c x (before t k) ≡ before t (joined a c x k)
joined_before a c x (frees n o fs) k = refl
joined_before a c x (initializes o joins js done) k = refl
joined_before a c x (undoes n o done) k = refl
joined_before a c x (assigns n o f fs) k = refl
joined_before a c x (adjusts o f js done) k = refl

pub fits_behind : (A : Alive) (T : Objects) (t : Treating) (k : storage.Control) → Fits A T (before t k) → Fits (alive_behind A t) T k
fits_behind A T (frees n o fs) k f = f.2
fits_behind A T (initializes o joins js done) k f = f.4
fits_behind A T (undoes n o done) k f = f.2
fits_behind A T (assigns n o f fs) k e = e.4
fits_behind A T (adjusts o f js done) k e = e.4

-- Where an object joins once it is initialized: its item is the newest one of the innermost master, or it goes to a collection.
pub data Joining (L : Listing) (o : ℕ) : List Master → storage.Joins → Type 0 where
  as_item :
      (a n t : ℕ) (is : List Item) (ms : List Master) → ((x : ℕ) → L n x ≡ same x o) → ((i : ℕ) → i ≢ n → L i o ≡ 0) → AllBelow n is → NotInMasters n ms
      → Joining L o (record { number = a; items = record { number = n; owned = record_object t } ∷ is } ∷ ms) storage.to_items
  as_member : (a n : ℕ) {ms : List Master} → L n o ≡ 1 → ((i : ℕ) → i ≢ n → L i o ≡ 0) → MasterOnce a n ms → Joining L o ms (storage.to_collection a n)

-- User code comes next.
abbrev pub IsActing : storage.Control → Type 0
IsActing (storage.acts m k) = Unit {0}
IsActing k = ⊥

-- An object is created: it is initialized, or adjusted as a copy.
abbrev pub IsCreated : Birth → Type 0
IsCreated Creation = Unit {0}
IsCreated Copy = Unit {0}
IsCreated (Adjustment n) = ⊥

-- All that is to be done where a record is adjusted: its own operation comes behind its components.
abbrev pub IsLast : List Task → Type 0
IsLast [] = Unit {0}
IsLast (treats cs ∷ rest) = ⊥
IsLast (performs t p ∷ rest) = rest ≡ []

abbrev pub IsRecord : List Task → Type 0
IsRecord [] = Unit {0}
IsRecord (treats cs ∷ rest) = IsLast rest
IsRecord (performs t p ∷ rest) = rest ≡ []

-- What an assignment does behind the finalization of its target.
abbrev pub copying : Id → (base t first count n : ℕ) → Task → List Task → Control → Control
copying o base t first count n task tasks k =
    frame.Copies base t ∷ frame.StoresRecord (Names o) first count ∷ frame.Treats (Names o) (begins (Adjustment n) []) (task ∷ tasks) ∷ k

-- What follows the finalization of an object that is left, freed or undone.
abbrev pub taking : Id → (m i : ℕ) → (pool : Option ℕ) → Mode → Control → Control
taking o m i pool mode k = frame.Ends (Names o) ∷ frame.GivesBack (Names o) (Leaving m i) pool ∷ frame.Leaves mode ∷ k

abbrev pub giving_up : Id → (n : ℕ) → (pool : Option ℕ) → Control → Control
giving_up o n pool k = frame.Ends (Names o) ∷ frame.GivesBack (Names o) (Freeing n) pool ∷ k

abbrev pub undoing : Id → (n : ℕ) → (pool : Option ℕ) → Exception → Control → Control
undoing o n pool e k = frame.Ends (Names o) ∷ frame.GivesBack (Names o) (Undoing n) pool ∷ frame.Resumes (Raising e) ∷ k

-- What is to be done for an object that is undone.
abbrev pub performing : List PartOf → List Task
performing done = map (λ p. performs p.of p.number) done

-- Some part that is still to be finalized is not among these, but each is that has a value.
pub record Lacks (types : List TypeDefinition) (A : Alive) (object : ℕ) (tasks : List Task) (left : List ℕ) : Type 0 where
  pub dead : ℕ
  pub to_end : IsToEnd types tasks dead
  pub is_dead : in_list dead left ≡ 0
  pub others : (p : ℕ) → IsToEnd types tasks p → A object p ≡ true → 0 < in_list p left

-- A treatment waits behind the body of an operation: its object has a part that has no value.
pub data Waits (types : List TypeDefinition) (S : Static) (L : Listing) (A : Alive) (acts : List (Activation Value)) (ms : List Master) (k : Control) : Control → Treating → Type 0 where
  made :
      (o : Id) (by : Birth) (done : List PartOf) (of part : ℕ) (tasks : List Task) (jobs : List Job) (joins : storage.Joins) → IsCreated by → S.holds o.0 part ≡ true
      → Begins (shapes_of types) jobs tasks → S.joins o.0 ms ≡ joins → Joining L o.0 ms joins
      → Waits types S L A acts ms k (frame.Awaits (Names o) by done of part tasks ∷ k) (initializes o.0 joins (storage.called part ∷ jobs) (numbers done))
  adjusted :
      (o : Id) (n : ℕ) (done : List PartOf) (of part : ℕ) (tasks : List Task) (f : Forest) (jobs : List Job) → S.holds o.0 part ≡ true → Begins (shapes_of types) jobs tasks
      → Waits types S L A acts ms k (frame.Awaits (Names o) (Adjustment n) done of part tasks ∷ k) (adjusts o.0 f (storage.called part ∷ jobs) (numbers done))
  freed :
      (o : Id) (n : ℕ) (pool : Option ℕ) (tasks : List Task) (left : List Forest) (dead : ℕ) {l : Control} → S.holds o.0 dead ≡ true → in_forests dead left ≡ 0
      → Ends (shapes_of types) left tasks → l ≡ treating (Names o) (ends (Freeing n)) tasks (giving_up o n pool k)
      → Waits types S L A acts ms k (frame.Confines ∷ l) (frees (suc n) o.0 left)
  undone :
      (o : Id) (n : ℕ) (pool : Option ℕ) (e : Exception) (done : List PartOf) (dead : ℕ) {l : Control} → S.holds o.0 dead ≡ true → in_list dead (numbers done) ≡ 0
      → l ≡ treating (Names o) (ends (Undoing n)) (performing done) (undoing o n pool e k)
      → Waits types S L A acts ms k (frame.Confines ∷ l) (undoes (suc n) o.0 (numbers done))
  assigned_to :
      (o p : Id) (us : List Value) (base t first count n : ℕ) (last : Task) (lasts tasks : List Task) (left : List Forest) (dead : ℕ) {l : Control} → S.holds o.0 dead ≡ true
      → 0 < in_forest dead (forest_adjusted (shapes_of types) (last ∷ lasts)) → in_forests dead left ≡ 0
      → operands_of acts ≡ Names p ∷ us → IsRecord (last ∷ lasts) → Ends (shapes_of types) left tasks
      → l ≡ treating (Names o) (ends (Assigning n)) tasks (copying o base t first count n last lasts k)
      → Waits types S L A acts ms k (frame.Confines ∷ l) (assigns (suc n) o.0 (forest_adjusted (shapes_of types) (last ∷ lasts)) left)
  failing :
      (o p : Id) (us : List Value) (base t first count n : ℕ) (last : Task) (lasts tasks : List Task) (parts left : List ℕ) (dead : ℕ) {l : Control} → S.holds o.0 dead ≡ true
      → 0 < in_forest dead (beside parts) → in_list dead left ≡ 0
      → operands_of acts ≡ Names p ∷ us → IsRecord (last ∷ lasts) → Lacks types A o.0 tasks left
      → l ≡ treating (Names o) (ends (Assigning n)) tasks (copying o base t first count n last lasts k)
      → Waits types S L A acts ms k (frame.Confines ∷ l) (assigns (suc n) o.0 (beside parts) (storage.none ∷ beside left ∷ []))

-- All that is left to do, with the masters that are entered, as this control of storage: code; or a treatment waits, with what is behind it.
pub data Reads (types : List TypeDefinition) (S : Static) : (waits : Bool) → Listing → Alive → List (Activation Value) → Control → List Master → storage.Control → Type 0 where
  nothing : {L : Listing} {A : Alive} {acts : List (Activation Value)} → Reads types S false L A acts [] [] storage.stops
  code :
      {L : Listing} {A : Alive} {acts : List (Activation Value)} {f : Frame Value} {k : Control} {ms : List Master} {M : storage.Master} {c : storage.Control} → IsCode f
      → Reads types S false L A acts k ms (storage.acts M c) → Reads types S false L A acts (f ∷ k) ms (storage.acts M c)
  calls :
      {L : Listing} {A : Alive} {acts : List (Activation Value)} (actuals : List ActualForm) (references : List Value) {k : Control} {ms : List Master} {M : storage.Master}
      {c : storage.Control} → Reads types S false L A (older acts) k ms (storage.acts M c) → Reads types S false L A acts (frame.Returns actuals references ∷ k) ms (storage.acts M c)
  enters :
      {L : Listing} {A : Alive} {acts : List (Activation Value)} (f : Frame Value) {k : Control} (m : Master) {ms : List Master} {js : List storage.Item} {c : storage.Control}
      → is_master f ≡ true → Items L m.items js → Reads types S false L A acts k ms c
      → Reads types S false L A acts (f ∷ k) (m ∷ ms) (storage.acts (record { number = suc m.number; items = js }) c)
  operates :
      {L : Listing} {A : Alive} {acts : List (Activation Value)} {k : Control} {ms : List Master} {c : storage.Control}
      → Reads types S true L A acts k ms c → Reads types S false L A acts (frame.Returns [] [] ∷ k) ms c
  treats_behind :
      {L : Listing} {A : Alive} {acts : List (Activation Value)} {k l : Control} {ms : List Master} {c d : storage.Control} (t : Treating) → Waits types S L A acts ms k l t
      → IsActing c → Reads types S false (listing_behind L t) (alive_behind A t) (older acts) k ms c → d ≡ before t c → Reads types S true L A acts l ms d
  leaves_behind :
      {L : Listing} {A : Alive} {acts : List (Activation Value)} {k l : Control} (o : Id) (i : ℕ) (pool : Option ℕ) (mode : Mode) (tasks : List Task) (left : List Forest)
      (dead : ℕ) (m : Master) {ms : List Master} {js : List storage.Item} {c : storage.Control} → S.holds o.0 dead ≡ true → in_forests dead left ≡ 0
      → Ends (shapes_of types) left tasks → Items L m.items js → Reads types S false L A (older acts) k ms c
      → l ≡ treating (Names o) (ends (Leaving m.number i)) tasks (taking o m.number i pool mode k)
      → Reads types S true L A acts (frame.Confines ∷ l) (m ∷ ms) (storage.finalizes (record { number = suc m.number; items = js }) i o.0 left (mode_seen mode) c)
