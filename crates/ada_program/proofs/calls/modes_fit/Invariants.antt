use Rattle.std.proofs.Common.{◌≡◌, map, drop}
use Rattle.ada_program.specs.Form.{actual_form}
use Rattle.ada_program.specs.WellFormed.{modes_fit}
use Rattle.ada_program.proofs.calls.modes_fit.Given as goal

-- what is left tells of all
abbrev pub invariant-actuals : goal.invariant-actuals
invariant-actuals l =
    modes_fit l.left (map actual_form (drop l.actual-index l.actuals)) ≡ modes_fit l.modes (map actual_form l.actuals)
