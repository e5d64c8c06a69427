use Rattle.std.proofs.Common.{◌≡◌, Some, drop}
use Rattle.std.specs.List.{list_all}
use Rattle.ada_program.specs.Kept.{types_in}
use Rattle.ada_program.specs.WellFormed.{finalization_in}
use Rattle.ada_quiet.specs.Apart.{leave_access, leaves_access}
use Rattle.ada_quiet.proofs.tracking.leave_access.Given as goal

-- what is left tells of all
abbrev pub invariant-types : goal.invariant-types
invariant-types l = list_all (λ t. leaves_access t (finalization_in (Some t))) (types_in (drop l.definition-index l.types)) ≡ leave_access (types_in l.types)
