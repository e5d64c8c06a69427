-- The premises are met, and the masters that were entered before may own collections.

use Rattle.std.specs.Prelude.{◌≡◌, [], ◌∷◌}
use Rattle.ada_program.specs.declared.program.Program.{Program}
use Rattle.ada_program.specs.ProgramForm.{program_form}
use Rattle.ada_program.specs.WellFormed.{IsWellFormed}
use Rattle.ada_program.specs.Nested.{CollectionsNest}
use Rattle.ada_meaning.specs.Named.{State}
use Rattle.ada_meaning.specs.State.{Master}
use Rattle.ada_order.specs.Example.{InSomeRun}
use Rattle.ada_scopes.specs.Scopes.{OperationsNestAnywhere}
use Rattle.ada_anywhere.specs.Anywhere.{entered_since, OwnsNoCollection}

-- The body of an operation is entered, while the main procedure, in which it is called, owns a collection (7.6.1).
pub record RunsWhileCollected (s : State) : Type 0 where
  pub called : Master
  pub main : Master
  pub entered : s.masters ≡ called ∷ main ∷ []
  pub since : entered_since s.control ≡ 1
  pub collects : OwnsNoCollection main → ⊥

-- A well-formed program whose collections nest, and whose operations nest anywhere, has a run that comes to such masters (7.6.1).
abbrev pub PremisesAreMet : Type 0
PremisesAreMet =
    (program : Program) × IsWellFormed (program_form program) × CollectionsNest (program_form program)
    × OperationsNestAnywhere (program_form program) × InSomeRun program (λ events last. RunsWhileCollected last)
