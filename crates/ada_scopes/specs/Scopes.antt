-- What holds of objects and collections in every run of a program whose collections nest, whatever its input and whatever is granted and picked.

use Rattle.std.specs.Prelude.{◌≡◌, ◌⊎◌, ℕ, ℤ, Bool, true, false, ◌||◌, ◌==◌, if◌then◌else◌, List, [], ◌∷◌, Option, Some, None, All, AllPairs, Contains}
use Rattle.std.specs.List.{slice_get}
use Rattle.ada_program.specs.declared.program.Operations.{Operations}
use Rattle.ada_program.specs.declared.program.ProcedureNo.{ProcedureNo}
use Rattle.ada_program.specs.declared.program.Program.{Program}
use Rattle.ada_program.specs.declared.program.TypeNo.{TypeNo}
use Rattle.ada_program.specs.declared.program.VariableKind.TheVariants as variable
use Rattle.ada_program.specs.Controlled.{operations_in}
use Rattle.ada_program.specs.ProgramForm.{TypeForm, ProgramForm, program_form}
use Rattle.ada_program.specs.WellFormed.{IsWellFormed, is_access, overrides_none, finalization_of, reached_components, kind_among}
use Rattle.ada_program.specs.Nested.{Callees, call_nests, callees_of, collected, is_one_of, CollectionsNest}
use Rattle.ada_meaning.specs.declared.state.Id.{Id}
use Rattle.ada_meaning.specs.declared.state.Value.{Value}
use Rattle.ada_meaning.specs.declared.state.Value.TheVariants.{Names}
use Rattle.ada_meaning.specs.Frame.{Frame, is_master}
use Rattle.ada_meaning.specs.Frame as frame
use Rattle.ada_meaning.specs.Step.{older}
use Rattle.ada_meaning.specs.State.{Owned, declared, collection, record_object, storage_pool, type_housed, pool_housed, Item, Master}
use Rattle.ada_meaning.specs.Named.{Object, State, object_at}
use Rattle.ada_meaning.specs.Run.{Event, Run, first_state}
use Rattle.ada_meaning.specs.Law.{Differ, items_of}

-- Each state that a run of the program comes to has a property.
abbrev pub InItsRuns : Program → (State → Type 0) → Type 0
InItsRuns program P =
    (input : List ℤ) (events : List Event) (last : State) → Run program (first_state program input) events last → P last

-- A procedure that overrides an operation, if one does, nests wherever the collections of these access types are open, whatever else is: what it and the
-- procedures that it calls create is no collection of one of these, and no record object whose components hold values of other access types.
abbrev pub NestsWhereOpen : (opened : ℕ → Bool) → Callees → Option ProcedureNo → Type 0
NestsWhereOpen opened callees None = Unit {0}
NestsWhereOpen opened callees (Some procedure) =
    (around : List ℕ) → ((t : ℕ) → opened t ≡ true → is_one_of around t ≡ true) → call_nests (slice_get callees procedure.0) around ≡ true

-- So does each operation of a type.
abbrev pub AllNestWhereOpen : (opened : ℕ → Bool) → Callees → Operations → Type 0
AllNestWhereOpen opened callees o =
    NestsWhereOpen opened callees o.initialize × NestsWhereOpen opened callees o.adjust × NestsWhereOpen opened callees o.finalize

-- So does each operation of the types of a program (7.6), wherever the collections of all access types are open: what it creates is no collection. It is
-- called where an object is created, assigned to, freed or left, whichever collections are open there.
abbrev pub OperationsNest : ProgramForm → Type 0
OperationsNest p = (t : ℕ) → AllNestWhereOpen (is_access p.types) (callees_of p) (operations_in (finalization_of p.types t))

-- So does each where the collections are open that the main procedure declares: then what its record objects need is open where it is called, if the main
-- procedure is not being left.
abbrev pub OperationsFindOpen : ProgramForm → Type 0
OperationsFindOpen p = (t : ℕ) → AllNestWhereOpen (is_one_of (collected p.declarations)) (callees_of p) (operations_in (finalization_of p.types t))

-- Each program that is well formed, and whose collections and operations nest, has a property.
abbrev pub WhereCollectionsNest : (Program → Type 0) → Type 0
WhereCollectionsNest P =
    (program : Program) → IsWellFormed (program_form program) → CollectionsNest (program_form program) → OperationsNest (program_form program) → P program

-- So has each whose operations find open what they need.
abbrev pub WhereOperationsFindOpen : (Program → Type 0) → Type 0
WhereOperationsFindOpen P =
    (program : Program) → IsWellFormed (program_form program) → CollectionsNest (program_form program) → OperationsFindOpen (program_form program) → P program

-- A procedure that overrides an operation, if one does, nests wherever it is called: what it and the procedures that it calls create is no collection, and
-- no record object whose components hold access values.
abbrev pub NestsAnywhere : Callees → Option ProcedureNo → Type 0
NestsAnywhere callees None = Unit {0}
NestsAnywhere callees (Some procedure) = (around : List ℕ) → call_nests (slice_get callees procedure.0) around ≡ true

-- So does each operation of a type.
abbrev pub AllNestAnywhere : Callees → Operations → Type 0
AllNestAnywhere callees o = NestsAnywhere callees o.initialize × NestsAnywhere callees o.adjust × NestsAnywhere callees o.finalize

-- So does each operation of the types of a program.
abbrev pub OperationsNestAnywhere : ProgramForm → Type 0
OperationsNestAnywhere p = (t : ℕ) → AllNestAnywhere (callees_of p) (operations_in (finalization_of p.types t))

-- Each program that is well formed, whose collections nest, and whose operations nest anywhere, has a property.
abbrev pub WhereOperationsNestAnywhere : (Program → Type 0) → Type 0
WhereOperationsNestAnywhere P =
    (program : Program) → IsWellFormed (program_form program) → CollectionsNest (program_form program) → OperationsNestAnywhere (program_form program)
    → P program

-- A property of states holds in the runs of each program that is well formed, whose collections nest, and none of whose types overrides an operation:
-- operations nest then.
abbrev pub WhereNothingIsCalled : (State → Type 0) → Type 0
WhereNothingIsCalled P =
    (program : Program) → IsWellFormed (program_form program) → CollectionsNest (program_form program) → overrides_none (program_form program) ≡ true → InItsRuns program P

-- The access type whose collection a master owns by an item, if that is what the item is (7.6.1).
abbrev pub type_collected : Owned → Option ℕ
type_collected (declared x) = None
type_collected (collection access pool) = Some access
type_collected (record_object t) = None
type_collected (storage_pool declaration number) = None

-- Two items are not collections of one access type.
abbrev pub CollectTwoTypes : Item → Item → Type 0
CollectTwoTypes i j = Differ (type_collected i.owned) (type_collected j.owned)

-- No access type has two collections at a time (7.6.1).
abbrev pub TypesHaveOneCollection : Type 0
TypesHaveOneCollection =
    WhereCollectionsNest (λ program. InItsRuns program (λ last. AllPairs CollectTwoTypes (items_of last.masters)))

-- Is what a master owns a declared object, a variable or a record object (3.3.1)? Else it is a collection or a pool.
abbrev pub is_declared_object : Owned → Bool
is_declared_object (declared x) = true
is_declared_object (record_object t) = true
is_declared_object (collection access pool) = false
is_declared_object (storage_pool declaration number) = false

-- Where the first item is a collection or a pool, so is the second.
abbrev pub NoObjectBelowCollection : Item → Item → Type 0
NoObjectBelowCollection i j = is_declared_object i.owned ≡ false → is_declared_object j.owned ≡ false

-- Of these items, newest first, no collection and no pool is newer than a declared object.
abbrev pub ObjectsFirst : List Item → Type 0
ObjectsFirst items = AllPairs NoObjectBelowCollection items

-- So it is with the items of each master that is entered.
abbrev pub AreObjectsFirst : State → Type 0
AreObjectsFirst s = All (λ m. ObjectsFirst m.items) s.masters

-- A declarative part creates its collections and pools before its first object (3.11). So a master that is left loses its objects first, and a collection or a
-- pool only when it owns no object any more (7.6.1).
abbrev pub ObjectsGoFirst : Type 0
ObjectsGoFirst = WhereCollectionsNest (λ program. InItsRuns program AreObjectsFirst)

-- Is this the number of one of these items?
abbrev pub is_number_of : List Item → ℕ → Bool
is_number_of [] n = false
is_number_of (i ∷ is) n = (i.number == n) || is_number_of is n

-- The masters that last as long as an item of this number: the one that owns it, and the outer ones (7.6.1).
abbrev pub lasting : ℕ → List Master → List Master
lasting n [] = []
lasting n (m ∷ ms) = if is_number_of m.items n then m ∷ ms else lasting n ms

-- One of these masters owns the collection of an access type.
abbrev pub IsOpenIn : List Master → ℕ → Type 0
IsOpenIn masters access = (i : Item) × (pool : Option ℕ) × Contains (items_of masters) i × (i.owned ≡ collection access pool)

-- Is a master being left by this frame (7.6.1)?
abbrev pub is_departure : Frame Value → Bool
is_departure (frame.Leaves mode) = true
is_departure f = false

-- One master more, if a frame belongs to one: is that being left?
abbrev pub with_departure : (master departure : Bool) → List Bool → List Bool
with_departure true departure outer = false ∷ outer
with_departure false true outer = true ∷ outer
with_departure false false outer = outer

-- Which of the masters that are entered are being left, the innermost first: the frames that belong to masters say so. More than one is, where the body of
-- a Finalize is left that is called while one is.
abbrev pub departures : List (Frame Value) → List Bool
departures [] = []
departures (f ∷ k) = with_departure (is_master f) (is_departure f) (departures k)

-- Is one of these masters being left?
abbrev pub some_departure : List Bool → Bool
some_departure [] = false
some_departure (b ∷ bs) = b || some_departure bs

-- Is one of the masters being left that last as long as an item of this number?
abbrev pub departs : List Bool → List Master → ℕ → Bool
departs [] ms n = false
departs (b ∷ bs) [] n = false
departs (b ∷ bs) (m ∷ ms) n = if is_number_of m.items n then some_departure (b ∷ bs) else departs bs ms n

-- Is an item of this number one of the innermost master?
abbrev pub is_innermost : List Master → ℕ → Bool
is_innermost [] n = false
is_innermost (m ∷ ms) n = is_number_of m.items n

-- A master is being left that lasts as long as the item of this number.
abbrev pub IsGoing : State → ℕ → Type 0
IsGoing s n = departs (departures s.control) s.masters n ≡ true

-- This object has this name, and is in its collection.
abbrev pub IsListed : List Object → Id → Object → Type 0
IsListed heap o object = (object_at heap o ≡ Some object) × (object.listed ≡ true)

-- The home of an object is an item of a master that is entered: the collection of its own access type, or the record object that it is; and it is from
-- the pool of that item (13.11).
abbrev pub IsInCollection : List Master → Object → Type 0
IsInCollection masters object =
    (i : Item) × Contains (items_of masters) i × (i.number ≡ object.cell.home.item) × (type_housed i.owned ≡ Some object.cell.access)
    × (pool_housed i.owned ≡ object.cell.home.pool)

-- Each object that is in its collection has that one as its home.
abbrev pub AreInCollections : State → Type 0
AreInCollections s = (o : Id) (object : Object) → IsListed s.heap o object → IsInCollection s.masters object

-- Where no type overrides an operation, no master but the innermost one is being left: only the body of a Finalize is entered while one is (7.6.1).
abbrev pub OnlyInnermostIsLeft : Type 0
OnlyInnermostIsLeft = WhereNothingIsCalled (λ s. some_departure (older (departures s.control)) ≡ false)

-- Each object that is in its collection lies in one that is open, that is of its own access type, and whose pool is the object's (7.6.1, 13.11).
abbrev pub ObjectsLieInCollections : Type 0
ObjectsLieInCollections = WhereCollectionsNest (λ program. InItsRuns program AreInCollections)

-- The component of this number holds access values of a type, in the objects that another access type designates (3.8).
abbrev pub HoldsNames : List TypeForm → (access c : ℕ) → (target : TypeNo) → Type 0
HoldsNames types access c target = kind_among (reached_components types access) c ≡ Some (variable.Access target)

-- The collection of an access type lasts as long as an object: it is open, and the master of the object's home owns it, or an outer one. While
-- such a master is being left, its collections go one after the other, and this one may have gone first.
abbrev pub IsOutlived : State → Object → ℕ → Type 0
IsOutlived s object target =
    IsGoing s object.cell.home.item ⊎ IsOpenIn (lasting object.cell.home.item s.masters) target

-- For each object in its collection, the collection of each access type that one of its components has lasts as long.
abbrev pub AreOutlived : List TypeForm → State → Type 0
AreOutlived types s =
    (o : Id) (object : Object) (c : ℕ) (target : TypeNo)
    → IsListed s.heap o object → HoldsNames types object.cell.access c target → IsOutlived s object target.0

-- In the runs of this program collections last as long as the objects whose components need them.
abbrev pub ComponentsAreOutlivedIn : Program → Type 0
ComponentsAreOutlivedIn program = InItsRuns program (AreOutlived (program_form program).types)

-- Collections last as long as the objects whose components need them (3.10.2, 7.6.1), where operations find open what they need.
abbrev pub ComponentsAreOutlived : Type 0
ComponentsAreOutlived = WhereOperationsFindOpen ComponentsAreOutlivedIn

-- A component of the one object names the other, and both are in their collections.
abbrev pub Holds : List Object → (holder held : Object) → Type 0
Holds heap holder held =
    (o : Id) × (p : Id) × (c : ℕ)
    × IsListed heap o holder × IsListed heap p held × (slice_get holder.cell.values c ≡ Some (Names p))

-- Where a component names an object, that one's home is an item of the master of the holder's home, or of an outer one.
abbrev pub HeldOutside : State → Type 0
HeldOutside s =
    (holder held : Object)
    → Holds s.heap holder held → is_number_of (items_of (lasting holder.cell.home.item s.masters)) held.cell.home.item ≡ true

-- No component names an object of a master further in than that of its own object.
abbrev pub NamesStayOutside : Type 0
NamesStayOutside = WhereCollectionsNest (λ program. InItsRuns program HeldOutside)

-- Whatever object holds the name of one whose home is an item of the innermost master has its own home there.
abbrev pub InnermostHeldInside : State → Type 0
InnermostHeldInside s =
    (holder held : Object)
    → Holds s.heap holder held → is_innermost s.masters held.cell.home.item ≡ true
    → is_innermost s.masters holder.cell.home.item ≡ true

-- No object of an outer master has a component that names an object of the innermost one.
abbrev pub InnermostIsNotNamed : Type 0
InnermostIsNotNamed = WhereCollectionsNest (λ program. InItsRuns program InnermostHeldInside)
