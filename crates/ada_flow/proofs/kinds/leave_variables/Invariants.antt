use Rattle.std.proofs.Common.{◌≡◌, map, drop}
use Rattle.ada_flow.specs.Flow.{without_variables}
use Rattle.ada_flow.specs.Told.{variable_number}
use Rattle.ada_flow.proofs.kinds.leave_variables.Given as goal

-- what is left loses the rest
abbrev pub invariant-variables : goal.invariant-variables
invariant-variables l =
    without_variables (map variable_number (drop l.one-index l.gone)) l.known.holds.items ≡ without_variables (map variable_number l.gone) l.fn.known.holds.items
