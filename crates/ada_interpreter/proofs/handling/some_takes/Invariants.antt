-- No choice in front names the exception.
use Rattle.std.proofs.Common.{◌≡◌, drop}
use Rattle.ada_program.specs.Handling.{some_takes}
use Rattle.ada_interpreter.proofs.handling.some_takes.Given as goal

abbrev pub invariant-loop-choice : goal.invariant-loop-choice
invariant-loop-choice l = some_takes l.exception (drop l.choice-index l.choices) ≡ some_takes l.exception l.choices
