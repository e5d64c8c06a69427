use Rattle.std.proofs.Common.{◌≡◌, ◌+◌, ◌-◌, ◌≤◌, List, ◌∷◌, length}
use Rattle.ada_program.specs.declared.program.Program.{Program}
use Rattle.ada_program.specs.Form.{stmts_form}
use Rattle.ada_meaning.specs.declared.state.Value.{Value}
use Rattle.ada_meaning.specs.declared.state.Mode.TheVariants.{Running}
use Rattle.ada_meaning.specs.Frame.{Frame}
use Rattle.ada_meaning.specs.Frame as frame
use Rattle.ada_meaning.specs.Step as step
use Rattle.ada_interpreter.specs.CommonSteps.{GoesQuietly}
use Rattle.ada_interpreter.specs.Process.{state_of}
use Rattle.ada_interpreter.proofs.process.Process.run_at_once.Given as goal

-- all that were done so far were done at once
abbrev pub invariant-statements : goal.invariant-statements
invariant-statements l = record {
  steps : (program : Program) (k : List (Frame Value)) → l.fn.self.mode ≡ Running → GoesQuietly program (step.at (frame.Does (stmts_form l.statements) ∷ k) (state_of l.fn.self)) (l.limit - l.left) (step.at (frame.Does (stmts_form l.rest) ∷ k) (state_of l.self));
  left : l.left ≤ l.limit;
  counted : length l.statements + l.left ≡ length l.rest + l.limit;
  unchanged : l.left ≡ l.limit → l.self ≡ l.fn.self;
  rest : l.left ≡ l.limit → l.rest ≡ l.statements;
  frames : l.self.frames ≡ l.fn.self.frames;
  mode : l.self.mode ≡ l.fn.self.mode;
}

abbrev pub decreases-statements : goal.decreases-statements
decreases-statements l = length l.rest
