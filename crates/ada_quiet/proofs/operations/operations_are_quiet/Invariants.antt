use Rattle.std.proofs.Common.{◌≡◌, ◌&&◌, not, Some, map, drop}
use Rattle.std.specs.List.{list_all}
use Rattle.ada_program.specs.ProgramForm.{program_form, type_form}
use Rattle.ada_program.specs.WellFormed.{finalization_in}
use Rattle.ada_quiet.specs.Quiet.{has_quiet_operations, adjusts_access, operations_are_quiet}
use Rattle.ada_quiet.proofs.operations.operations_are_quiet.Given as goal

-- what is left tells of all
abbrev pub invariant-types : goal.invariant-types
invariant-types l =
    list_all (λ t. has_quiet_operations (program_form l.program) (finalization_in (Some t)) && not (adjusts_access (program_form l.program) t))
    (map type_form (drop l.definition-index l.definition-items))
    ≡ operations_are_quiet (program_form l.program)
