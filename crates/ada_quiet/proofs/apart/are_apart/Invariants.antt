use Rattle.std.proofs.Common.{◌≡◌, Some, drop}
use Rattle.std.specs.List.{list_all}
use Rattle.ada_program.specs.Kept.{types_in}
use Rattle.ada_program.specs.WellFormed.{finalization_in}
use Rattle.ada_quiet.specs.Apart.{operations_apart}
use Rattle.ada_quiet.specs.Known.{is_marked}
use Rattle.ada_quiet.specs.Quiet.{has_access}
use Rattle.ada_quiet.proofs.apart.are_apart.Given as goal

-- what is left tells of all
abbrev pub invariant-types : goal.invariant-types
invariant-types l =
    list_all (λ t. operations_apart (is_marked l.marks) (has_access (Some t)) (finalization_in (Some t))) (types_in (drop l.definition-index l.types))
    ≡ list_all (λ t. operations_apart (is_marked l.marks) (has_access (Some t)) (finalization_in (Some t))) (types_in l.types)
