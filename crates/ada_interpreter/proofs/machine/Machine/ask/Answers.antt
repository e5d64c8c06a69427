-- The choice is what the pool answered.
use Rattle.std.proofs.Common.{refl, ap}
use Rattle.ada_meaning.specs.Event.{request_of}
use Rattle.ada_meaning.specs.Run.{grants}
use Rattle.ada_interpreter.proofs.machine.Machine.ask.Goals as goal

pub returns-in-Ok-answer-clause-steps : goal.returns-in-Ok-answer-clause-steps
returns-in-Ok-answer-clause-steps g c = record {
  choice = grants c.in-Ok.granted;
  answers = (c.request.result, ap request_of c.request.ensures, c.in-Ok.ensures);
  leads = (refl, c.in-Ok-answer.ensures);
}
