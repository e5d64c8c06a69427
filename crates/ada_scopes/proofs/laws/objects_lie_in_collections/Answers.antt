-- Each state of a run nests.
use Rattle.ada_scopes.proofs.Components.{in_collections}
use Rattle.ada_scopes.proofs.laws.objects_lie_in_collections.Goals as goal

pub returns : goal.returns
returns c = in_collections
