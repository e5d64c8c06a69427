-- In which order a master owns its collections in every run of a well-formed program, whatever its input and whatever is granted and picked; and what that
-- means for the operations of controlled types.

use Rattle.std.specs.Prelude.{◌≡◌, ◌≢◌, ℕ, true, List, Some, None, All, AllPairs}
use Rattle.ada_program.specs.declared.program.Program.{Program}
use Rattle.ada_program.specs.declared.program.ProcedureNo.{ProcedureNo}
use Rattle.ada_program.specs.ProgramForm.{ProgramForm, program_form}
use Rattle.ada_program.specs.WellFormed.{IsWellFormed, designated_type}
use Rattle.ada_meaning.specs.State.{Item}
use Rattle.ada_meaning.specs.Named.{State}
use Rattle.ada_operations.specs.Created.{collections_of, is_created_before}
use Rattle.ada_operations.specs.Operations.{AdjustsOrFinalizes, HasPart, Uses, IsFirstFault}
use Rattle.ada_scopes.specs.Scopes.{InItsRuns, type_collected}

-- If both items are collections (7.6.1), that of the older one is created before that of the newer one, by the text.
abbrev pub CreatedInOrder : (parts : List (List ℕ)) → (newer older : Item) → Type 0
CreatedInOrder parts newer older =
    (t u : ℕ) → type_collected newer.owned ≡ Some t → type_collected older.owned ≡ Some u → is_created_before parts u t ≡ true

-- So it is with each two items of a master, which stand newest first.
abbrev pub AreCreatedInOrder : (parts : List (List ℕ)) → State → Type 0
AreCreatedInOrder parts s = All (λ m. AllPairs (CreatedInOrder parts) m.items) s.masters

-- In each run of a well-formed program the collections of each master are created in the order of the text. So they go in the reverse order, as the master
-- is left (7.6.1).
abbrev pub CollectionsAreCreatedInOrder : Type 0
CollectionsAreCreatedInOrder =
    (program : Program) → IsWellFormed (program_form program) → InItsRuns program (AreCreatedInOrder (collections_of (program_form program)))

-- An Adjust or a Finalize of some part of the objects of an access type, at any depth, frees objects of another access type or follows its values (7.6,
-- 13.11.2, 4.1).
pub record PartUses (p : ProgramForm) (t u : ℕ) : Type 0 where
  pub whole : ℕ
  pub record_type : ℕ
  pub procedure : ProcedureNo
  pub designates : designated_type p.types t ≡ Some whole
  pub has_part : HasPart p.types record_type whole
  pub overrides : AdjustsOrFinalizes p procedure record_type
  pub uses : Uses p procedure u

-- What the operations of its objects use is not what an item is the collection of.
abbrev pub UsesNoneOfIts : ProgramForm → Item → Type 0
UsesNoneOfIts p item = (t u : ℕ) → type_collected item.owned ≡ Some t → PartUses p t u → u ≢ t

-- If the older item is a collection, what the operations of its objects use is not what the newer item is the collection of.
abbrev pub GoesUnused : ProgramForm → (newer older : Item) → Type 0
GoesUnused p newer older = (t u : ℕ) → type_collected older.owned ≡ Some t → PartUses p t u → type_collected newer.owned ≢ Some u

-- So it is with the items of each master, of which the newest one goes first (7.6.1).
abbrev pub NoneUsedIsNewer : ProgramForm → State → Type 0
NoneUsedIsNewer p s = All (λ m. All (UsesNoneOfIts p) m.items × AllPairs (GoesUnused p) m.items) s.masters

-- In each run of a well-formed program whose operations break no rule that is so: while a collection goes of a master that is left, no collection of that
-- master is gone that an Adjust or a Finalize of its objects uses, nor is it its own (7.6.1, rule S8).
abbrev pub NothingUsedGoesFirst : Type 0
NothingUsedGoesFirst =
    (program : Program)
    → IsWellFormed (program_form program) → IsFirstFault (program_form program) None → InItsRuns program (NoneUsedIsNewer (program_form program))
