-- The premises are met while a master is left.

use Rattle.std.specs.Prelude.{◌≡◌, ℕ, true, false, [], ◌∷◌, Some, None}
use Rattle.ada_program.specs.declared.program.Program.{Program}
use Rattle.ada_program.specs.ProgramForm.{ProgramForm, program_form}
use Rattle.ada_program.specs.WellFormed.{IsWellFormed}
use Rattle.ada_meaning.specs.State.{Item, Master}
use Rattle.ada_meaning.specs.Named.{State}
use Rattle.ada_operations.specs.Operations.{IsFirstFault}
use Rattle.ada_order.specs.Example.{InSomeRun}
use Rattle.ada_scopes.specs.Scopes.{type_collected, departures}
use Rattle.ada_created.specs.Law.{PartUses}

-- The main procedure is being left, and the body of a Finalize runs: that of an object of the newer one of the two collections that the main procedure owns.
-- What it uses is the older one.
pub record UsesOlder (p : ProgramForm) (s : State) : Type 0 where
  pub called : Master
  pub main : Master
  pub newer : Item
  pub older : Item
  pub t : ℕ
  pub u : ℕ
  pub entered : s.masters ≡ called ∷ main ∷ []
  pub main_departs : departures s.control ≡ false ∷ true ∷ []
  pub owns : main.items ≡ newer ∷ older ∷ []
  pub newer_is : type_collected newer.owned ≡ Some t
  pub older_is : type_collected older.owned ≡ Some u
  pub uses : PartUses p t u

-- A well-formed program whose operations break no rule has a run that comes to such a state.
abbrev pub OlderIsUsed : Type 0
OlderIsUsed =
    (program : Program) × IsWellFormed (program_form program) × IsFirstFault (program_form program) None
    × InSomeRun program (λ events last. UsesOlder (program_form program) last)
