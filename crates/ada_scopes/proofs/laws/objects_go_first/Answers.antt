-- By the invariant.
use Rattle.ada_scopes.proofs.Components.{objects_go_first}
use Rattle.ada_scopes.proofs.laws.objects_go_first.Goals as goal

pub returns : goal.returns
returns c = objects_go_first
