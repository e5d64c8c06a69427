use Rattle.std.proofs.Common.{◌≡◌, drop}
use Rattle.std.specs.List.{list_all}
use Rattle.ada_program.specs.Kept.{types_in, variables_in}
use Rattle.ada_program.specs.WellFormed.{variable_fits}
use Rattle.ada_program.proofs.kinds.variables_fit.Given as goal

-- what is left tells of all
abbrev pub invariant-variables : goal.invariant-variables
invariant-variables l =
    list_all (variable_fits (types_in l.types)) (variables_in (drop l.variable-index l.variables))
    ≡ list_all (variable_fits (types_in l.types)) (variables_in l.variables)
