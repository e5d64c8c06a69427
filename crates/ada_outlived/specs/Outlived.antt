-- What holds of record objects and of collections in every run of a program whose collections nest and whose operations nest anywhere, whatever its
-- input and whatever is granted and picked.

use Rattle.std.specs.Prelude.{◌≡◌, ℕ, ◌<◌, List, Option, Contains}
use Rattle.ada_program.specs.declared.program.TypeNo.{TypeNo}
use Rattle.ada_program.specs.ProgramForm.{TypeForm, program_form}
use Rattle.ada_meaning.specs.State.{record_object, collection, Item, Master}
use Rattle.ada_meaning.specs.Named.{State}
use Rattle.ada_meaning.specs.Law.{items_of}
use Rattle.ada_scopes.specs.Scopes.{InItsRuns, WhereOperationsNestAnywhere, lasting, IsOpenIn, HoldsNames}

-- As long as the item of a record object is there, the collection of each access type that one of its components has is open, in the master that owns the
-- object, or in an outer one.
abbrev pub AreRecordsOutlived : List TypeForm → State → Type 0
AreRecordsOutlived types s =
    (i : Item) (t c : ℕ) (target : TypeNo)
    → Contains (items_of s.masters) i → i.owned ≡ record_object t → HoldsNames types t c target → IsOpenIn (lasting i.number s.masters) target.0

-- Each record object that a master owns needs collections that are open, in that master or in an outer one, as long as its item is there, also while the
-- master is left (3.10.2, 7.6.1).
abbrev pub RecordsAreOutlived : Type 0
RecordsAreOutlived = WhereOperationsNestAnywhere (λ program. InItsRuns program (AreRecordsOutlived (program_form program).types))

-- One of these masters owns the collection of an access type by an item that is older than that of this number.
abbrev pub IsOpenBelow : List Master → (number access : ℕ) → Type 0
IsOpenBelow masters number access =
    (i : Item) × (pool : Option ℕ) × Contains (items_of masters) i × (i.owned ≡ collection access pool) × (i.number < number)

-- So it is of the collections that a record object needs.
abbrev pub AreRecordsNewer : List TypeForm → State → Type 0
AreRecordsNewer types s =
    (i : Item) (t c : ℕ) (target : TypeNo)
    → Contains (items_of s.masters) i → i.owned ≡ record_object t → HoldsNames types t c target → IsOpenBelow s.masters i.number target.0

-- The collections that a record object needs were created before it, so they go later (7.6.1).
abbrev pub RecordsAreNewer : Type 0
RecordsAreNewer = WhereOperationsNestAnywhere (λ program. InItsRuns program (AreRecordsNewer (program_form program).types))
