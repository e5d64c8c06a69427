-- Those of the actual parameters that are left are not counted yet.
use Rattle.std.proofs.Common.{◌≡◌, ◌+◌, ◌*◌, ◌≤◌, map, drop}
use Rattle.ada_program.specs.Form.{actual_form}
use Rattle.ada_meaning.specs.Step.{operand_count}
use Rattle.ada_interpreter.proofs.given.operand_count.Given as goal

abbrev pub invariant-loop-actual : goal.invariant-loop-actual
invariant-loop-actual l = record {
  counted : l.count + operand_count (map actual_form (drop l.actual-index l.actuals)) ≡ operand_count (map actual_form l.actuals);
  few : l.count ≤ 2 * l.actual-index;
}
