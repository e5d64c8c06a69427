use Rattle.std.proofs.Common.{◌≤◌, ◌-◌}
use Rattle.ada_meaning.specs.Ending.{weight}
use Rattle.ada_interpreter.specs.CommonSteps.{GoesQuietly}
use Rattle.ada_interpreter.specs.Process.{state_of}
use Rattle.ada_interpreter.proofs.process.Process.make_common_steps.Given as goal

-- all steps so far were quiet, and all statements but those that are left began in them
abbrev pub invariant-statements : goal.invariant-statements
invariant-statements l = record {
  steps : GoesQuietly l.program (state_of l.fn.self) (l.limit - l.left) (state_of l.self);
  left : l.left ≤ l.limit;
}

abbrev pub invariant-steps : goal.invariant-steps
invariant-steps l = record {
  steps : GoesQuietly l.program (state_of l.fn.self) (l.limit - l.left) (state_of l.self);
  left : l.left ≤ l.limit;
}

-- each turn begins one of the statements that are left
abbrev pub decreases-statements : goal.decreases-statements
decreases-statements l = l.left

-- each step up to the next statement makes the state lighter
abbrev pub decreases-steps : goal.decreases-steps
decreases-steps l = weight l.program.types.items (state_of l.self)
