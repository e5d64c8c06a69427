use Rattle.std.proofs.Common.{◌≡◌, Some, map, drop}
use Rattle.std.specs.List.{list_all}
use Rattle.ada_program.specs.ProgramForm.{type_form}
use Rattle.ada_program.specs.WellFormed.{finalization_in}
use Rattle.ada_quiet.specs.Mixed.{is_unmixed}
use Rattle.ada_quiet.proofs.mixed.are_unmixed.Given as goal

-- what is left tells of all
abbrev pub invariant-types : goal.invariant-types
invariant-types l =
    list_all (λ t. is_unmixed l.untracked l.tracked_or_quiet (finalization_in (Some t))) (map type_form (drop l.definition-index l.types))
    ≡ list_all (λ t. is_unmixed l.untracked l.tracked_or_quiet (finalization_in (Some t))) (map type_form l.types)
