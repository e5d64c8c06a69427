use Rattle.std.proofs.Common.{◌≡◌, drop}
use Rattle.std.specs.List.{list_all}
use Rattle.ada_program.specs.Kept.{types_in}
use Rattle.ada_quiet.specs.InUse.{is_copied_in_order}
use Rattle.ada_quiet.proofs.tracking.are_copied_in_order.Given as goal

-- what is left tells of all
abbrev pub invariant-types : goal.invariant-types
invariant-types l =
    list_all (is_copied_in_order (types_in l.types)) (types_in (drop l.definition-index l.types))
    ≡ list_all (is_copied_in_order (types_in l.types)) (types_in l.types)
