-- The choice is the component that was picked.
use Rattle.std.proofs.Common.{refl}
use Rattle.ada_meaning.specs.Run.{takes}
use Rattle.ada_interpreter.proofs.machine.Machine.pick_component.Goals as goal

pub returns-in-Ok-clause-steps : goal.returns-in-Ok-clause-steps
returns-in-Ok-clause-steps g c = record {
  choice = takes c.pick-i.result;
  answers = c.pick-i.ensures.picked;
  leads = (c.pick-i.ensures.below, refl, c.in-Ok.ensures);
}
