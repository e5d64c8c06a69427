-- Once the values are laid of the actual parameters that are left, those of all are.
use Rattle.std.proofs.Common.{◌≡◌, ◌++◌, map, drop}
use Rattle.ada_program.specs.Form.{actual_form}
use Rattle.ada_meaning.specs.Step.{given_values}
use Rattle.ada_interpreter.proofs.given.lay_values.Given as goal

abbrev pub invariant-loop-actual : goal.invariant-loop-actual
invariant-loop-actual l =
    l.places.items ++ given_values (map actual_form (drop l.actual-index l.actuals)) l.left ≡ l.fn.places.items ++ given_values (map actual_form l.actuals) l.computed
