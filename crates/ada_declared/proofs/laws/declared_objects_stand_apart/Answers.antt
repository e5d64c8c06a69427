-- By the invariant.
use Rattle.ada_declared.proofs.Runs.{declared_objects_stand_apart}
use Rattle.ada_declared.proofs.laws.declared_objects_stand_apart.Goals as goal

pub returns : goal.returns
returns c = declared_objects_stand_apart
