-- The premises are met while a master is left.

use Rattle.std.specs.Prelude.{◌≡◌, ℕ, true, false, [], ◌∷◌, Some, Contains}
use Rattle.ada_program.specs.declared.program.Program.{Program}
use Rattle.ada_program.specs.declared.program.TypeNo.{TypeNo}
use Rattle.ada_program.specs.ProgramForm.{program_form}
use Rattle.ada_program.specs.WellFormed.{IsWellFormed}
use Rattle.ada_program.specs.Nested.{CollectionsNest}
use Rattle.ada_meaning.specs.declared.state.Id.{Id}
use Rattle.ada_meaning.specs.State.{record_object, Item, Master}
use Rattle.ada_meaning.specs.Named.{Object, State, object_at}
use Rattle.ada_order.specs.Example.{InSomeRun}
use Rattle.ada_scopes.specs.Scopes.{OperationsNestAnywhere, IsOpenIn, departures, HoldsNames}

-- The main procedure is being left, and the body of a Finalize runs. A record object of the main procedure has left its collection, while its item is there,
-- and so is the collection of what its component names.
pub record EndsObject (program : Program) (s : State) : Type 0 where
  pub called : Master
  pub main : Master
  pub item : Item
  pub t : ℕ
  pub c : ℕ
  pub target : TypeNo
  pub o : Id
  pub object : Object
  pub entered : s.masters ≡ called ∷ main ∷ []
  pub main_departs : departures s.control ≡ false ∷ true ∷ []
  pub owns : Contains main.items item
  pub is_record : item.owned ≡ record_object t
  pub names : HoldsNames (program_form program).types t c target
  pub is_there : object_at s.heap o ≡ Some object
  pub at_home : object.cell.home.item ≡ item.number
  pub unlisted : object.listed ≡ false
  pub near_is_open : IsOpenIn (main ∷ []) target.0

-- A well-formed program whose collections nest, and whose operations nest anywhere, has a run that comes to such an object.
abbrev pub ObjectsEndInside : Type 0
ObjectsEndInside =
    (program : Program) × IsWellFormed (program_form program) × CollectionsNest (program_form program)
    × OperationsNestAnywhere (program_form program) × InSomeRun program (λ events last. EndsObject program last)
