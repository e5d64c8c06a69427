use Rattle.std.proofs.Common.{◌≡◌, map, drop}
use Rattle.ada_program.specs.Form.{actual_form}
use Rattle.ada_program.specs.Kept.{types_in, variables_in}
use Rattle.ada_program.specs.WellFormed.{actuals_fit, kind_held}
use Rattle.ada_program.proofs.calls.actuals_fit.Given as goal

-- what is left tells of all
abbrev pub invariant-actuals : goal.invariant-actuals
invariant-actuals l =
    actuals_fit (types_in l.types) (variables_in l.variables) (map kind_held (variables_in l.left)) (map actual_form (drop l.actual-index l.actuals))
    ≡ actuals_fit (types_in l.types) (variables_in l.variables) (map kind_held (variables_in l.formals)) (map actual_form l.actuals)
