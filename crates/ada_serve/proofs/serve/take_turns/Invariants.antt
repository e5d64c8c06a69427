use Rattle.std.proofs.Common.{◌≡◌, None}
use Rattle.ada_interpreter.specs.Machine.{state_in, program_of, choices_of, halt_of}
use Rattle.ada_meaning.specs.Pace.{full_weight}
use Rattle.ada_pools.specs.View.{runner_of}
use Rattle.ada_serve.specs.Calls.{Works}
use Rattle.ada_serve.proofs.Steps.{Reaches}
use Rattle.ada_serve.proofs.serve.take_turns.Given as goal

-- so far the machine has made steps of the runner's run, in which all statements but those that are left began, and their lines are written
abbrev pub invariant-statements : goal.invariant-statements
invariant-statements g l = record {
  reaches : Reaches l.program l.options.trace (state_in l.fn.machine).input l.options.steps (runner_of (choices_of l.fn.machine)) l.left (runner_of (choices_of l.machine)) (state_in l.machine) (g.W.ByteWriter.contents l.fn.out) (g.W.ByteWriter.contents l.out);
  calls : Works g.W.ByteWriter.writes l.fn.out l.out;
  runs : halt_of l.machine ≡ None;
  same : program_of l.machine ≡ l.program;
}

abbrev pub invariant-steps : goal.invariant-steps
invariant-steps g l = record {
  reaches : Reaches l.program l.options.trace (state_in l.fn.machine).input l.options.steps (runner_of (choices_of l.fn.machine)) l.left (runner_of (choices_of l.machine)) (state_in l.machine) (g.W.ByteWriter.contents l.fn.out) (g.W.ByteWriter.contents l.out);
  calls : Works g.W.ByteWriter.writes l.fn.out l.out;
  runs : halt_of l.machine ≡ None;
  same : program_of l.machine ≡ l.program;
}

-- each turn begins one of the statements that are left
abbrev pub decreases-statements : goal.decreases-statements
decreases-statements g l = l.left

-- each step up to the next statement makes the state lighter
abbrev pub decreases-steps : goal.decreases-steps
decreases-steps g l = full_weight l.program (state_in l.machine)
