-- What is said of every run of every program, from its first state.

use Rattle.std.specs.Prelude.{◌≡◌, ◌≢◌, ℕ, ℤ, Bool, true, false, List, [], ◌∷◌, Some}
use Rattle.std.specs.List.{slice_get, Contains}
use Rattle.ada_program.specs.declared.program.Program.{Program}
use Rattle.ada_program.specs.Controlled.{shapes_of}
use Rattle.ada_program.specs.Form.{StmtsForm, HandlersForm, DeclarationForm}
use Rattle.ada_parts.specs.Shape.{Shape}
use Rattle.ada_parts.specs.Part.{Part, numbers, LiesIn}
use Rattle.ada_parts.specs.Task.{Task}
use Rattle.ada_parts.specs.Law.{parts_left}
use Rattle.ada_meaning.specs.declared.state.Id.{Id}
use Rattle.ada_meaning.specs.declared.state.Stage.TheVariants.{Existing}
use Rattle.ada_meaning.specs.declared.state.Value.{Value}
use Rattle.ada_meaning.specs.declared.state.Value.TheVariants.{Null, Names}
use Rattle.ada_meaning.specs.declared.event.Birth.{Birth}
use Rattle.ada_meaning.specs.declared.event.Cause.{Cause}
use Rattle.ada_meaning.specs.declared.event.Halt.TheVariants.{Erroneous}
use Rattle.ada_meaning.specs.declared.event.Why.TheVariants.{FinalizesTwice}
use Rattle.ada_meaning.specs.Frame.{Frame, Treatment, Elaborates, Returns, Copies, StoresRecord, Treats, Awaits, Confines, Ends}
use Rattle.ada_meaning.specs.Frame as frame
use Rattle.ada_meaning.specs.Heap.{PartState}
use Rattle.ada_meaning.specs.State.{begins}
use Rattle.ada_meaning.specs.Named.{Object, State, object_at}
use Rattle.ada_meaning.specs.Finalization.{NothingTreated, HasParts, PartsStand}
use Rattle.ada_meaning.specs.Run.{Event, Run, Halts, first_state}

-- Of the record types of the program, and of the events of the run.
abbrev pub InEveryRun : (List Shape → List Event → Type 0) → Type 0
InEveryRun P =
    (program : Program) (input : List ℤ) (events : List Event) (last : State) → Run program (first_state program input) events last
    → P (shapes_of program.types.items) events

-- A frame waits for an operation: the body of one is in front of it (7.6, 7.6.1).
abbrev pub waits_for_operation : {V : Type 0} → Frame V → Bool
waits_for_operation (Awaits v by done of part tasks) = true
waits_for_operation Confines = true
waits_for_operation f = false

-- No operation runs: nothing that is left to do waits for one.
abbrev pub NoOperationRuns : List (Frame Value) → Type 0
NoOperationRuns [] = Unit {0}
NoOperationRuns (f ∷ k) = (waits_for_operation f ≡ false) × NoOperationRuns k

-- While no operation runs, no treatment of an object comes to a value that does not exist (7.6.1): a run that halts so is then at a Free.
abbrev pub NeverFinalizesTwice : Type 0
NeverFinalizesTwice =
    (program : Program) (input : List ℤ) (events : List Event) (last : State) → NoOperationRuns last.control
    → Run program (first_state program input) events last → (object : Value) (treatment : Treatment) (tasks : List Task) (behind : List (Frame Value))
    → last.control ≡ Treats object treatment tasks ∷ behind → Halts program last (Erroneous FinalizesTwice) → ⊥

-- The object whose Finalize has ended where this comes next: the rest of its parts are finalized then, or it ceases to exist (7.6.1), or a record is copied
-- and stored in it (5.2).
abbrev pub finalized_before : List (Frame Value) → Value
finalized_before (Treats v treatment tasks ∷ k) = v
finalized_before (Ends v ∷ k) = v
finalized_before (Copies first t ∷ k) = finalized_before k
finalized_before (StoresRecord v to width ∷ k) = v
finalized_before k = Null

-- No operation of this object runs: nothing that is left to do waits for one. Operations of other objects may run.
abbrev pub NoOperationRunsOn : Value → List (Frame Value) → Type 0
NoOperationRunsOn v [] = Unit {0}
NoOperationRunsOn v (Awaits w by done of part tasks ∷ k) = (w ≢ v) × NoOperationRunsOn v k
NoOperationRunsOn v (Confines ∷ k) = (finalized_before k ≢ v) × NoOperationRunsOn v k
NoOperationRunsOn v (f ∷ k) = NoOperationRunsOn v k

-- While no operation of an object runs, no treatment of the object comes to a value that does not exist (7.6.1), whatever operations of other objects do.
abbrev pub TreatedValuesExist : Type 0
TreatedValuesExist =
    (program : Program) (input : List ℤ) (events : List Event) (last : State) → Run program (first_state program input) events last
    → (object : Value) (treatment : Treatment) (tasks : List Task) (behind : List (Frame Value)) → last.control ≡ Treats object treatment tasks ∷ behind
    → NoOperationRunsOn object behind → Halts program last (Erroneous FinalizesTwice) → ⊥

-- The parts that are left to be finalized, where this comes next (7.6.1).
abbrev pub left_to_finalize : List Shape → List (Frame Value) → List Part
left_to_finalize shapes (Treats v (frame.ends cause) tasks ∷ k) = parts_left shapes tasks
left_to_finalize shapes k = []

-- The part of this number of an object is inside of each operation of the object that runs: it lies in the part that is initialized or adjusted, so its value
-- began before (7.6); or it is left to be finalized behind the Finalize, so its value ends after that (7.6.1). Operations of other objects may run.
abbrev pub IsInside : List Shape → Value → (number : ℕ) → List (Frame Value) → Type 0
IsInside shapes v n [] = Unit {0}
IsInside shapes v n (Awaits w by done of part tasks ∷ k) = (w ≡ v → LiesIn shapes n (record { of = of; number = part })) × IsInside shapes v n k
IsInside shapes v n (Confines ∷ k) = (finalized_before k ≡ v → Contains (numbers (left_to_finalize shapes k)) n) × IsInside shapes v n k
IsInside shapes v n (f ∷ k) = IsInside shapes v n k

-- So is all that is left of a treatment of the object.
abbrev pub TreatsInside : List Shape → Value → List Task → List (Frame Value) → Type 0
TreatsInside shapes v tasks k = (number : ℕ) → Contains (numbers (parts_left shapes tasks)) number → IsInside shapes v number k

-- While operations of an object run, a treatment of the object that is inside of each of them comes to no value that does not exist: so an operation may assign
-- to components of its formal parameter (5.2, 7.6, 7.6.1).
abbrev pub InnerValuesExist : Type 0
InnerValuesExist =
    (program : Program) (input : List ℤ) (events : List Event) (last : State) → Run program (first_state program input) events last
    → (object : Value) (treatment : Treatment) (tasks : List Task) (behind : List (Frame Value)) → last.control ≡ Treats object treatment tasks ∷ behind
    → TreatsInside (shapes_of program.types.items) object tasks behind → Halts program last (Erroneous FinalizesTwice) → ⊥

-- A frame of code: no object is treated or ended by it, and no record is copied, as between the two treatments of an assignment (5.2).
abbrev pub is_code : {V : Type 0} → Frame V → Bool
is_code (Treats v treatment tasks) = false
is_code (Awaits v by done of part tasks) = false
is_code Confines = false
is_code (Copies first t) = false
is_code (StoresRecord v to width) = false
is_code (Ends v) = false
is_code f = true

-- Where code comes next, each part of an object that exists has its value, if it is inside of each operation of the object that runs (7.6, 7.6.1).
abbrev pub InnerPartsStand : Type 0
InnerPartsStand =
    (program : Program) (input : List ℤ) (events : List Event) (last : State) → Run program (first_state program input) events last
    → (f : Frame Value) (behind : List (Frame Value)) → last.control ≡ f ∷ behind → is_code f ≡ true
    → (o : Id) (object : Object) → object_at last.heap o ≡ Some object → object.stage ≡ Existing
    → (number : ℕ) → IsInside (shapes_of program.types.items) (Names o) number behind
    → (part : PartState) → slice_get object.cell.parts number ≡ Some part → part.alive ≡ true

-- So where the body of an Initialize or an Adjust begins, all that lies in its part has its values, if no other operation of the object runs (7.6).
abbrev pub BegunInside : Type 0
BegunInside =
    (program : Program) (input : List ℤ) (events : List Event) (last : State) → Run program (first_state program input) events last
    → (declarations : List DeclarationForm) (statements : StmtsForm) (handlers : HandlersForm) (o : Id) (by : Birth) (done : List Part) (of number : ℕ)
    → (tasks : List Task) (behind : List (Frame Value))
    → last.control ≡ Elaborates declarations statements handlers ∷ Returns [] [] ∷ Awaits (Names o) by done of number tasks ∷ behind
    → NoOperationRunsOn (Names o) behind → (object : Object) → object_at last.heap o ≡ Some object
    → (inner : ℕ) → LiesIn (shapes_of program.types.items) inner (record { of = of; number = number })
    → (part : PartState) → slice_get object.cell.parts inner ≡ Some part → part.alive ≡ true

-- And where that of a Finalize begins, all that is left to be finalized behind it does (7.6.1).
abbrev pub LeftToFinalize : Type 0
LeftToFinalize =
    (program : Program) (input : List ℤ) (events : List Event) (last : State) → Run program (first_state program input) events last
    → (declarations : List DeclarationForm) (statements : StmtsForm) (handlers : HandlersForm) (o : Id) (cause : Cause) (tasks : List Task)
    → (behind : List (Frame Value))
    → last.control ≡ Elaborates declarations statements handlers ∷ Returns [] [] ∷ Confines ∷ Treats (Names o) (frame.ends cause) tasks ∷ behind
    → NoOperationRunsOn (Names o) behind → (object : Object) → object_at last.heap o ≡ Some object
    → (inner : ℕ) → Contains (numbers (parts_left (shapes_of program.types.items) tasks)) inner
    → (part : PartState) → slice_get object.cell.parts inner ≡ Some part → part.alive ≡ true

-- Behind the body of an operation none does, either, whatever runs there.
abbrev pub OperationsEndWell : Type 0
OperationsEndWell =
    (program : Program) (input : List ℤ) (events : List Event) (last : State) → Run program (first_state program input) events last
    → (f : Frame Value) (behind : List (Frame Value)) → last.control ≡ f ∷ behind → waits_for_operation f ≡ true
    → Halts program last (Erroneous FinalizesTwice) → ⊥

-- A value names an object that has come to exist, and has not ceased to.
abbrev pub NamesExisting : List Object → Value → Type 0
NamesExisting objects v = (o : Id) × (v ≡ Names o) × (x : Object) × (object_at objects o ≡ Some x) × (x.stage ≡ Existing)

-- So does each that is initialized, adjusted or finalized, or is to cease to exist, by what is left to do.
abbrev pub TreatedExist : List Object → List (Frame Value) → Type 0
TreatedExist objects [] = Unit {0}
TreatedExist objects (Treats v treatment tasks ∷ k) = NamesExisting objects v × TreatedExist objects k
TreatedExist objects (Awaits v by done of part tasks ∷ k) = NamesExisting objects v × TreatedExist objects k
TreatedExist objects (Ends v ∷ k) = NamesExisting objects v × TreatedExist objects k
TreatedExist objects (f ∷ k) = TreatedExist objects k

-- In every run, whatever operations do, an object exists as long as something is done to it: it ceases to exist once (7.6.1).
abbrev pub TreatedObjectsExist : Type 0
TreatedObjectsExist =
    (program : Program) (input : List ℤ) (events : List Event) (last : State) → Run program (first_state program input) events last
    → TreatedExist last.heap last.control

-- So it is with operations: none runs of an object that is still to be created, or that is gone. So none of a new object runs behind its initialization.
abbrev pub OperatedObjectsExist : Type 0
OperatedObjectsExist =
    (program : Program) (input : List ℤ) (events : List Event) (last : State) → Run program (first_state program input) events last
    → (o : Id) → (NamesExisting last.heap (Names o) → ⊥) → NoOperationRunsOn (Names o) last.control

-- In every run an object that is in its collection has the values of all its parts, but while one is initialized, adjusted or finalized (7.6, 7.6.1).
abbrev pub AllPartsStand : Type 0
AllPartsStand =
    (program : Program) (input : List ℤ) (events : List Event) (last : State) → Run program (first_state program input) events last
    → PartsStand program.types.items last

-- Nothing that is left to do initializes or adjusts this object (7.6).
abbrev pub NothingBegins : Value → List (Frame Value) → Type 0
NothingBegins v [] = Unit {0}
NothingBegins v (Treats w (frame.begins by done) tasks ∷ k) = (w ≢ v) × NothingBegins v k
NothingBegins v (Awaits w by done of part tasks ∷ k) = (w ≢ v) × NothingBegins v k
NothingBegins v (f ∷ k) = NothingBegins v k

-- In every state of every run, whatever operations run there, an object that is in its collection has the values of all its parts, but while it is initialized
-- or adjusted itself (7.6). One that is finalized has left its collection (7.6.1), or it is assigned to, and its adjustment is left to do (5.2).
abbrev pub ListedObjectsStand : Type 0
ListedObjectsStand =
    (program : Program) (input : List ℤ) (events : List Event) (last : State) → Run program (first_state program input) events last
    → (o : Id) (object : Object) → object_at last.heap o ≡ Some object → object.listed ≡ true → NothingBegins (Names o) last.control
    → HasParts program.types.items object

-- Then no operation of the object runs, either: so where it is freed, its treatment comes to values that exist.
abbrev pub NoOperationRunsOnListed : Type 0
NoOperationRunsOnListed =
    (program : Program) (input : List ℤ) (events : List Event) (last : State) → Run program (first_state program input) events last
    → (o : Id) (object : Object) → object_at last.heap o ≡ Some object → object.listed ≡ true → NothingBegins (Names o) last.control
    → NoOperationRunsOn (Names o) last.control

-- While no operation runs, nothing is initialized, adjusted or finalized at the beginning of a statement: so a Free finds all values.
abbrev pub StatementsTreatNothing : Type 0
StatementsTreatNothing =
    (program : Program) (input : List ℤ) (events : List Event) (last : State) → NoOperationRuns last.control
    → Run program (first_state program input) events last → begins last ≡ true → NothingTreated last.control
