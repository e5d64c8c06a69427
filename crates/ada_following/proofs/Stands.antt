-- What is left to do at the beginning and at the end of a step: code; or a treatment that comes first, or waits; or the innermost master is being left.

use Rattle.std.proofs.Common.{◌≡◌, ℕ, suc, Bool, true, false, List, [], ◌∷◌, Option, Some, ◌⊎◌}
use Rattle.std.specs.List.{slice_get}
use Rattle.ada_program.specs.declared.program.TypeDefinition.{TypeDefinition}
use Rattle.ada_program.specs.Controlled.{shapes_of}
use Rattle.ada_program.specs.declared.program.Exception.{Exception}
use Rattle.ada_program.specs.Form.{RecordPathForm}
use Rattle.ada_parts.specs.Part.{Part as PartOf, numbers}
use Rattle.ada_parts.specs.Task.{Task}
use Rattle.ada_meaning.specs.declared.event.Birth.{Birth}
use Rattle.ada_meaning.specs.declared.event.Birth.TheVariants.{Adjustment}
use Rattle.ada_meaning.specs.declared.state.Place.{Place}
use Rattle.ada_meaning.specs.declared.state.Id.{Id}
use Rattle.ada_meaning.specs.declared.state.Value.{Value}
use Rattle.ada_meaning.specs.declared.state.Value.TheVariants.{Null, Names, Scalar, Part}
use Rattle.ada_meaning.specs.declared.state.Mode.{Mode}
use Rattle.ada_meaning.specs.declared.state.Mode.TheVariants.{Running, Raising}
use Rattle.ada_meaning.specs.declared.state.Stage.TheVariants.{Gone}
use Rattle.ada_meaning.specs.declared.event.Cause.TheVariants.{Leaving, Freeing, Assigning, Undoing}
use Rattle.ada_meaning.specs.Frame.{begins, ends}
use Rattle.ada_meaning.specs.Frame as frame
use Rattle.ada_meaning.specs.State.{Activation, Master}
use Rattle.ada_meaning.specs.Step.{older, operands_of, treating}
use Rattle.ada_meaning.specs.Named.{Object}
use Rattle.ada_storage.specs.State.{Forest, Job}
use Rattle.ada_storage.specs.State as storage
use Rattle.ada_storage.proofs.Invariant.{Alive, after}
use Rattle.ada_following.specs.Forests.{forest_adjusted, Begins, Ends}
use Rattle.ada_following.specs.Reading.{is_out, mode_seen, joins_seen}
use Rattle.ada_following.proofs.PartsLeft.{beside}
use Rattle.ada_following.proofs.Heaps.{Heap}
use Rattle.ada_following.proofs.Places.{Items}
use Rattle.ada_following.proofs.Frames.{Control, static, listing, but, Joining, IsActing, IsCreated, IsRecord, copying, taking, giving_up, undoing, performing, Lacks, Reads}

-- An operand that refers to a record refers to one of an object whose words are out.
abbrev pub IsLive : Heap → Value → Type 0
IsLive h Null = Unit {0}
IsLive h (Names o) = Unit {0}
IsLive h (Scalar v) = Unit {0}
IsLive h (Part o place) = is_out (slice_get h o.0) ≡ true

-- Where the target of an assignment has been found, it is the newest operand; or the one behind the newest.
abbrev pub Kept : Heap → (has_target : Bool) → (operands : List Value) → Type 0
Kept h false vs = Unit {0}
Kept h true [] = Unit {0}
Kept h true (v ∷ vs) = IsLive h v

abbrev pub KeptBehind : Heap → (has_target : Bool) → (operands : List Value) → Type 0
KeptBehind h has [] = Unit {0}
KeptBehind h has (v ∷ vs) = Kept h has vs

-- What is left to do then: the source is found, and the assignment comes.
abbrev pub still_found : (has_target : Bool) → (source : RecordPathForm) → (record_type : ℕ) → Control → Control
still_found false source t k = frame.Refers source ∷ frame.Assigns t ∷ k
still_found true source t k = frame.Assigns t ∷ k

-- A record is being found.
pub data Path (vs : List Value) (h : Heap) (has : Bool) (rest : Control) : Control → Type 0 where
  at_path : (p : RecordPathForm) → Kept h has vs → Path vs h has rest (frame.Refers p ∷ rest)
  on_path : (cs : List ℕ) (place : Place) (t : ℕ) → KeptBehind h has vs → Path vs h has rest (frame.Follows cs ∷ frame.RefersIn place t ∷ rest)
  off_path : (place : Place) (t : ℕ) → KeptBehind h has vs → Path vs h has rest (frame.RefersIn place t ∷ rest)

-- An exception passes what is left of an assignment that has not begun.
pub data Passed (k : Control) : Control → Type 0 where
  passed : Passed k k
  passes_path : (p : RecordPathForm) {l : Control} → Passed k l → Passed k (frame.Refers p ∷ l)
  passes_record : (place : Place) (t : ℕ) {l : Control} → Passed k l → Passed k (frame.RefersIn place t ∷ l)
  passes_assignment : (t : ℕ) {l : Control} → Passed k l → Passed k (frame.Assigns t ∷ l)

-- What is left of an assignment that will fail: these parts, beside one another.
abbrev pub AreBeside : (parts : List ℕ) → (left : List Forest) → Type 0
AreBeside qs left = (left ≡ beside qs ∷ []) ⊎ (left ≡ storage.none ∷ beside qs ∷ [])

-- What is left to do, with this control and in this mode of storage.
pub data Stands (types : List TypeDefinition) (h : Heap) (A : Alive) (acts : List (Activation Value)) : List Master → Mode → Control → storage.Control → storage.Mode → Type 0 where
  codes :
      {ms : List Master} {mode : Mode} {k : Control} {c : storage.Control} → Reads types (static h) false (listing h) A (older acts) k ms c
      → Stands types h A acts ms mode k c (mode_seen mode)
  waits :
      {ms : List Master} {mode : Mode} {k : Control} {c : storage.Control} → Reads types (static h) true (listing h) A acts k ms c
      → Stands types h A acts ms mode k c (mode_seen mode)
  leaving :
      (mode : Mode) {k : Control} (m : Master) {ms : List Master} {js : List storage.Item} {c : storage.Control} → Items (listing h) m.items js
      → Reads types (static h) false (listing h) A (older acts) k ms c
      → Stands types h A acts (m ∷ ms) Running (frame.Leaves mode ∷ k) (storage.leaves (record { number = suc m.number; items = js }) (mode_seen mode) c) storage.running
  taken :
      (o : Id) (i : ℕ) (pool : Option ℕ) (mode : Mode) (tasks : List Task) (left : List Forest) {k l : Control} (m : Master) {ms : List Master} {js : List storage.Item}
      {c : storage.Control} → Ends (shapes_of types) left tasks → Items (listing h) m.items js → Reads types (static h) false (listing h) A (older acts) k ms c
      → l ≡ treating (Names o) (ends (Leaving m.number i)) tasks (taking o m.number i pool mode k)
      → Stands types h A acts (m ∷ ms) Running l (storage.finalizes (record { number = suc m.number; items = js }) i o.0 left (mode_seen mode) c) storage.running
  taken_gone :
      (o : Id) (x : Object) (i : ℕ) (pool : Option ℕ) (mode : Mode) {k : Control} (m : Master) {ms : List Master} {js : List storage.Item}
      {c : storage.Control} → slice_get h o.0 ≡ Some x → x.stage ≡ Gone → Items (listing h) m.items js → Reads types (static h) false (listing h) A (older acts) k ms c
      → Stands types h A acts (m ∷ ms) Running (frame.GivesBack (Names o) (Leaving m.number i) pool ∷ frame.Leaves mode ∷ k) (storage.finalizes (record { number = suc m.number; items = js }) i o.0 [] (mode_seen mode) c) storage.running
  freed :
      (o : Id) (n : ℕ) (pool : Option ℕ) (tasks : List Task) (left : List Forest) {k l : Control} {ms : List Master} {c : storage.Control} → Ends (shapes_of types) left tasks → IsActing c
      → Reads types (static h) false (listing h) A (older acts) k ms c → l ≡ treating (Names o) (ends (Freeing n)) tasks (giving_up o n pool k)
      → Stands types h A acts ms Running l (storage.frees (suc n) o.0 left c) storage.running
  freed_gone :
      (o : Id) (x : Object) (n : ℕ) (pool : Option ℕ) {k : Control} {ms : List Master} {c : storage.Control} → slice_get h o.0 ≡ Some x → x.stage ≡ Gone → IsActing c
      → Reads types (static h) false (listing h) A (older acts) k ms c
      → Stands types h A acts ms Running (frame.GivesBack (Names o) (Freeing n) pool ∷ k) (storage.frees (suc n) o.0 [] c) storage.running
  undone :
      (o : Id) (n : ℕ) (pool : Option ℕ) (e : Exception) (done : List PartOf) {k l : Control} {ms : List Master} {c : storage.Control} → IsActing c
      → Reads types (static h) false (listing h) A (older acts) k ms c → l ≡ treating (Names o) (ends (Undoing n)) (performing done) (undoing o n pool e k)
      → Stands types h A acts ms Running l (storage.undoes (suc n) o.0 (numbers done) c) storage.running
  undone_gone :
      (o : Id) (x : Object) (n : ℕ) (pool : Option ℕ) (e : Exception) {k : Control} {ms : List Master} {c : storage.Control} → slice_get h o.0 ≡ Some x → x.stage ≡ Gone → IsActing c
      → Reads types (static h) false (listing h) A (older acts) k ms c
      → Stands types h A acts ms Running (frame.GivesBack (Names o) (Undoing n) pool ∷ frame.Resumes (Raising e) ∷ k) (storage.undoes (suc n) o.0 [] c) storage.running
  resuming :
      (e : Exception) {k : Control} {ms : List Master} {c : storage.Control} → Reads types (static h) false (listing h) A (older acts) k ms c
      → Stands types h A acts ms Running (frame.Resumes (Raising e) ∷ k) c storage.raising
  beginning :
      (o : Id) (x : Object) (by : Birth) (done : List PartOf) (task : Task) (tasks : List Task) (jobs : List Job) (joins : storage.Joins) {k : Control} {ms : List Master} {c : storage.Control}
      → IsCreated by → slice_get h o.0 ≡ Some x → Begins (shapes_of types) jobs (task ∷ tasks) → joins_seen (slice_get h o.0) ms ≡ joins → Joining (listing h) o.0 ms joins → IsActing c
      → Reads types (static h) false (but o.0 (listing h)) A (older acts) k ms c
      → Stands types h A acts ms Running (frame.Treats (Names o) (begins by done) (task ∷ tasks) ∷ k) (storage.initializes o.0 joins jobs (numbers done) c) storage.running
  adjusting :
      (o : Id) (n : ℕ) (done : List PartOf) (task : Task) (tasks : List Task) (f : Forest) (jobs : List Job) {k : Control} {ms : List Master} {c : storage.Control}
      → Begins (shapes_of types) jobs (task ∷ tasks) → IsActing c → Reads types (static h) false (listing h) (after A o.0 f) (older acts) k ms c
      → Stands types h A acts ms Running (frame.Treats (Names o) (begins (Adjustment n) done) (task ∷ tasks) ∷ k) (storage.adjusts o.0 f jobs (numbers done) c) storage.running
  assigning :
      (o p : Id) (us : List Value) (base t first count n : ℕ) (last : Task) (lasts tasks : List Task) (left : List Forest) {k l : Control} {ms : List Master} {c : storage.Control}
      → operands_of acts ≡ Names p ∷ us → IsRecord (last ∷ lasts) → Ends (shapes_of types) left tasks → IsActing c
      → Reads types (static h) false (listing h) (after A o.0 (forest_adjusted (shapes_of types) (last ∷ lasts))) (older acts) k ms c
      → l ≡ treating (Names o) (ends (Assigning n)) tasks (copying o base t first count n last lasts k)
      → Stands types h A acts ms Running l (storage.assigns (suc n) o.0 (forest_adjusted (shapes_of types) (last ∷ lasts)) left c) storage.running
  storing :
      (o : Id) (first count n : ℕ) (last : Task) (lasts : List Task) (left : List Forest) {k : Control} {ms : List Master} {c : storage.Control}
      → IsRecord (last ∷ lasts) → Ends (shapes_of types) left [] → IsActing c
      → Reads types (static h) false (listing h) (after A o.0 (forest_adjusted (shapes_of types) (last ∷ lasts))) (older acts) k ms c
      → Stands types h A acts ms Running (frame.StoresRecord (Names o) first count ∷ frame.Treats (Names o) (begins (Adjustment n) []) (last ∷ lasts) ∷ k) (storage.assigns (suc n) o.0 (forest_adjusted (shapes_of types) (last ∷ lasts)) left c) storage.running
  failing :
      (o p : Id) (us : List Value) (base t first count n : ℕ) (last : Task) (lasts tasks : List Task) (parts qs : List ℕ) (left : List Forest) {k l : Control} {ms : List Master} {c : storage.Control}
      → operands_of acts ≡ Names p ∷ us → IsRecord (last ∷ lasts) → Lacks types A o.0 tasks qs → AreBeside qs left → IsActing c
      → Reads types (static h) false (listing h) (after A o.0 (beside parts)) (older acts) k ms c
      → l ≡ treating (Names o) (ends (Assigning n)) tasks (copying o base t first count n last lasts k)
      → Stands types h A acts ms Running l (storage.assigns (suc n) o.0 (beside parts) left c) storage.running
  finding :
      (has : Bool) (source : RecordPathForm) (t : ℕ) {k l : Control} {ms : List Master} {M : storage.Master} {c : storage.Control} → Path (operands_of acts) h has (still_found has source t k) l
      → Reads types (static h) false (listing h) A (older acts) k ms (storage.acts M c) → Stands types h A acts ms Running l (storage.acts M c) storage.running
  records_found :
      (t : ℕ) {k : Control} {ms : List Master} {M : storage.Master} {c : storage.Control} → KeptBehind h true (operands_of acts)
      → Reads types (static h) false (listing h) A (older acts) k ms (storage.acts M c) → Stands types h A acts ms Running (frame.Assigns t ∷ k) (storage.acts M c) storage.running
  passing :
      (e : Exception) {k l : Control} {ms : List Master} {M : storage.Master} {c : storage.Control} → Passed k l
      → Reads types (static h) false (listing h) A (older acts) k ms (storage.acts M c) → Stands types h A acts ms (Raising e) l (storage.acts M c) storage.raising
