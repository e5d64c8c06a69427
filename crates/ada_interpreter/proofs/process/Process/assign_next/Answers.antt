use Rattle.std.proofs.Common.{ap}
use Rattle.ada_meaning.specs.Event.{Quiet}
use Rattle.ada_meaning.specs.Step as step
use Rattle.ada_interpreter.proofs.CommonStepLemmas.{goes_once}
use Rattle.ada_interpreter.proofs.process.Process.assign_next.Goals as goal

pub returns : goal.returns
returns c program = goes_once (ap (step.moves Quiet) c.in_ok-replace_by_three.ensures)
