use Rattle.std.proofs.Common.{◌≡◌, ◌+◌, ◌-◌, ◌*◌, ◌≤◌, length}
use Rattle.ada_program.specs.declared.program.Program.{Program}
use Rattle.ada_program.specs.Form.{stmts_form}
use Rattle.ada_meaning.specs.declared.state.Mode.TheVariants.{Running}
use Rattle.ada_meaning.specs.Frame as frame
use Rattle.ada_interpreter.specs.CommonSteps.{GoesQuietly, newest_counted_to}
use Rattle.ada_interpreter.specs.Process.{state_of, pushed}
use Rattle.ada_interpreter.proofs.process.Process.+run.Given as goal

-- all statements up to those that are left were done, with the branches that were taken
abbrev pub invariant-run_on-statements : goal.invariant-run_on-statements
invariant-run_on-statements l = record {
  steps : (program : Program) → l.fn.self.mode ≡ Running → GoesQuietly program (pushed (frame.Does (stmts_form l.statements)) (state_of l.fn.self)) (l.limit - l.left) (pushed (frame.Does (stmts_form l.rest)) (state_of l.self));
  left : l.left ≤ l.limit;
  counted : length l.statements + l.left ≤ length l.rest + l.limit;
  unchanged : l.left ≡ l.limit → l.self ≡ l.fn.self;
  rest : l.left ≡ l.limit → l.rest ≡ l.statements;
  frames : l.self.frames ≡ l.fn.self.frames;
  mode : l.self.mode ≡ l.fn.self.mode;
}

abbrev pub decreases-run_on-statements : goal.decreases-run_on-statements
decreases-run_on-statements l = l.left

-- all of each turn so far was done
abbrev pub invariant-repeat_turns-turns : goal.invariant-repeat_turns-turns
invariant-repeat_turns-turns l = record {
  steps : (program : Program) → l.fn.self.mode ≡ Running → GoesQuietly program (state_of l.fn.self) (l.limit - l.left) (state_of l.self);
  left : l.left ≤ l.limit;
  frames : l.self.frames ≡ l.fn.self.frames;
  mode : l.self.mode ≡ l.fn.self.mode;
}

-- the same, and the parameter has the value that the loop has come to
abbrev pub invariant-count_turns-turns : goal.invariant-count_turns-turns
invariant-count_turns-turns l = record {
  steps : (program : Program) → l.fn.self.mode ≡ Running → GoesQuietly program (state_of l.fn.self) (l.limit - l.left) (state_of l.self);
  left : l.left ≤ l.limit;
  frames : l.self.frames ≡ newest_counted_to l.count l.fn.self.frames;
  mode : l.self.mode ≡ l.fn.self.mode;
}

-- each turn begins a statement
abbrev pub decreases-repeat_turns-turns : goal.decreases-repeat_turns-turns
decreases-repeat_turns-turns l = l.left

abbrev pub decreases-count_turns-turns : goal.decreases-count_turns-turns
decreases-count_turns-turns l = l.left

-- a statement in which others stand is one itself, and so fewer may begin in it
abbrev pub decreases-run_on : goal.decreases-run_on
decreases-run_on a = 8 * a.limit

abbrev pub decreases-run_through : goal.decreases-run_through
decreases-run_through a = 8 * a.limit + 1

abbrev pub decreases-run_branch : goal.decreases-run_branch
decreases-run_branch a = 8 * a.limit + 1

abbrev pub decreases-repeat_turns : goal.decreases-repeat_turns
decreases-repeat_turns a = 8 * a.limit + 2

abbrev pub decreases-count_turns : goal.decreases-count_turns
decreases-count_turns a = 8 * a.limit + 2

abbrev pub decreases-run_loop : goal.decreases-run_loop
decreases-run_loop a = 8 * a.limit + 3

abbrev pub decreases-run_count : goal.decreases-run_count
decreases-run_count a = 8 * a.limit + 3

abbrev pub decreases-run_inner : goal.decreases-run_inner
decreases-run_inner a = 8 * a.limit + 4
