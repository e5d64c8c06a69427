-- By a program and a state of its run.
use Rattle.ada_sound.proofs.ExampleInside as inside
use Rattle.ada_sound.proofs.controlled.operations_run_apart.Goals as goal

pub returns : goal.returns
returns c = record {
  disagrees = (inside.silent, inside.silent_operations, inside.silent_bodies, inside.silent_form, inside.silent_accepted, inside.disagrees);
}
