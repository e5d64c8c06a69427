use Rattle.std.proofs.Common.{◌≡◌, drop, map}
use Rattle.ada_flow.specs.Flow.{is_given}
use Rattle.ada_program.specs.Form.{actual_form}
use Rattle.ada_flow.proofs.passing.is_given.Given as goal

-- what is left tells of all
abbrev pub invariant-actuals : goal.invariant-actuals
invariant-actuals l = is_given (map actual_form (drop l.actual-index l.actuals)) l.variable.0 ≡ is_given (map actual_form l.actuals) l.variable.0
