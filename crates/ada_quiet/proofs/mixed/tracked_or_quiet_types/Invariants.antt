use Rattle.std.proofs.Common.{◌≡◌, Some}
use Rattle.ada_program.specs.ProgramForm.{program_form}
use Rattle.ada_program.specs.WellFormed.{finalization_in}
use Rattle.ada_quiet.specs.Calm.{calm_up_to}
use Rattle.ada_quiet.specs.Mixed.{tracks_or_is_quiet}
use Rattle.ada_quiet.proofs.mixed.tracked_or_quiet_types.Given as goal

-- it is known of those types that were passed
abbrev pub invariant-numbered : goal.invariant-numbered
invariant-numbered l =
    l.tracked_or_quiet.items
    ≡ calm_up_to (λ t. tracks_or_is_quiet (program_form l.program) t (finalization_in (Some t))) (program_form l.program).types l.definition-index
