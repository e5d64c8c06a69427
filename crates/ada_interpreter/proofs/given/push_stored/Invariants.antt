-- What goes back from the formal parameters behind those that are left is put on.
use Rattle.std.proofs.Common.{◌≡◌, ◌++◌, ◌≤◌, length, map, drop}
use Rattle.ada_program.specs.Form.{actual_form}
use Rattle.ada_meaning.specs.Step.{stored_back}
use Rattle.ada_interpreter.proofs.given.push_stored.Given as goal

abbrev pub invariant-actuals : goal.invariant-actuals
invariant-actuals l = record {
  actuals : l.left ≤ length l.actuals;
  formals : l.left ≤ length l.formals;
  put : l.operands ≡ stored_back (map actual_form (drop l.left l.actuals)) (drop l.left l.formals) ++ l.fn.operands;
}

abbrev pub decreases-actuals : goal.decreases-actuals
decreases-actuals l = l.left
