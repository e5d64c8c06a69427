use Rattle.std.proofs.Common.{◌≡◌, drop}
use Rattle.std.specs.List.{list_all}
use Rattle.ada_program.specs.Kept.{variables_in}
use Rattle.ada_quiet.specs.Simple.{holds_one_value}
use Rattle.ada_quiet.proofs.simple.hold_one_value.Given as goal

-- what is left tells of all
abbrev pub invariant-variables : goal.invariant-variables
invariant-variables l =
    list_all (λ x. holds_one_value x.kind) (variables_in (drop l.variable-index l.variables))
    ≡ list_all (λ x. holds_one_value x.kind) (variables_in l.variables)
