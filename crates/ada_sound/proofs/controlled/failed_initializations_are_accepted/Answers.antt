-- By a program and its run.
use Rattle.ada_sound.proofs.ExampleUndone as undone
use Rattle.ada_sound.proofs.controlled.failed_initializations_are_accepted.Goals as goal

pub returns : goal.returns
returns c = record {
  undoes = (
    undone.failing,
    undone.failing_first,
    undone.failing_second,
    undone.failing_has,
    undone.failing_does,
    undone.failing_accepted,
    undone.undoes,
  );
}
