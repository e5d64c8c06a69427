-- Once the actual parameters that are left stand in front, all do.
use Rattle.std.proofs.Common.{◌≡◌, ◌≤◌, length, take, map}
use Rattle.ada_program.specs.Form.{actual_form}
use Rattle.ada_meaning.specs.Step.{at, computing}
use Rattle.ada_meaning.specs.Named.{named}
use Rattle.ada_interpreter.specs.Process.{state_of}
use Rattle.ada_interpreter.proofs.process.Process.compute_all.Given as goal

abbrev pub invariant-actuals : goal.invariant-actuals
invariant-actuals l = record {
  left : l.left ≤ length l.actuals;
  in_front :
      at (computing named (map actual_form (take l.left l.actuals)) (state_of l.self).control) (state_of l.self)
      ≡ at (computing named (map actual_form l.actuals) (state_of l.fn.self).control) (state_of l.fn.self);
}

abbrev pub decreases-actuals : goal.decreases-actuals
decreases-actuals l = l.left
