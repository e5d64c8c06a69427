use Rattle.std.proofs.Common.{◌≡◌, drop, map}
use Rattle.ada_effects.specs.Effects.{actuals_raise}
use Rattle.ada_program.specs.Form.{actual_form}
use Rattle.ada_effects.proofs.expressions.actuals_raise.Given as goal

-- what is left tells of all
abbrev pub invariant-actuals : goal.invariant-actuals
invariant-actuals l = actuals_raise (map actual_form (drop l.actual-index l.actuals)) ≡ actuals_raise (map actual_form l.actuals)
