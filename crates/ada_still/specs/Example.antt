-- The premise of the law is met, by an operation that declares an access type of its own, and it is needed.

use Rattle.std.specs.Prelude.{◌≡◌, ℕ, Bool, true, Some}
use Rattle.std.specs.List.{list_any}
use Rattle.ada_program.specs.declared.program.Program.{Program}
use Rattle.ada_program.specs.Freed.{FreesItsOwn}
use Rattle.ada_program.specs.Nested.{CollectionsNest}
use Rattle.ada_program.specs.ProgramForm.{program_form}
use Rattle.ada_program.specs.WellFormed.{IsWellFormed}
use Rattle.ada_meaning.specs.declared.event.Halt.TheVariants.{Finished}
use Rattle.ada_meaning.specs.declared.state.Id.{Id}
use Rattle.ada_meaning.specs.Named.{Object, State, object_at}
use Rattle.ada_meaning.specs.Run.{Halts}
use Rattle.ada_order.specs.Example.{InSomeRun}
use Rattle.ada_scopes.specs.Scopes.{IsOpenIn}
use Rattle.ada_still.specs.Still.{CollectStill}
use Rattle.ada_still.specs.Beside.{NestBeside}
use Rattle.ada_still.specs.Law.{is_treatment, TreatsElsewhere}
use Rattle.ada_still.specs.Text.{nest_by_text, still_by_text, own_of_operations}

-- An object lies in the open collection of one of these access types, and the body of an operation is in front of its end.
pub record AllocatesInOperation (own : ℕ → Bool) (s : State) : Type 0 where
  pub o : Id
  pub object : Object
  pub there : object_at s.heap o ≡ Some object
  pub listed : object.listed ≡ true
  pub mine : own object.cell.access ≡ true
  pub opened : IsOpenIn s.masters object.cell.access
  pub operates : list_any is_treatment s.control ≡ true

-- A well-formed program whose collections nest declares such an access type in the body of a Finalize alone, which is still, and nests beside the others. A run of
-- it comes to an object in its collection, and one comes to its end.
abbrev pub PremiseIsMet : Type 0
PremiseIsMet =
    (program : Program) × IsWellFormed (program_form program) × CollectionsNest (program_form program) × FreesItsOwn (program_form program)
    × (own : ℕ → Bool) × CollectStill own (program_form program) × NestBeside own (program_form program)
    × InSomeRun program (λ events last. AllocatesInOperation own last) × InSomeRun program (λ events last. Halts program last Finished)

-- The text of that program says both of the own types of its operations.
abbrev pub TextSaysSo : Type 0
TextSaysSo =
    (program : Program) × IsWellFormed (program_form program) × CollectionsNest (program_form program) × FreesItsOwn (program_form program)
    × (still_by_text (own_of_operations (program_form program)) (program_form program) ≡ true)
    × (nest_by_text (own_of_operations (program_form program)) (program_form program) ≡ true)
    × InSomeRun program (λ events last. AllocatesInOperation (own_of_operations (program_form program)) last) × InSomeRun program (λ events last. Halts program last Finished)

-- It is needed: in one whose Finalize declares such an access type, and an object of its own type, that is finalized while the collection is open.
abbrev pub PremiseIsNeeded : Type 0
PremiseIsNeeded =
    (program : Program) × IsWellFormed (program_form program) × FreesItsOwn (program_form program) × (own : ℕ → Bool) × (TreatsElsewhere program own → ⊥)
