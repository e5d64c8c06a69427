-- By an example.
use Rattle.ada_scopes.proofs.Example as example
use Rattle.ada_scopes.proofs.laws.objects_lie_above.Goals as goal

pub returns : goal.returns
returns c = (example.nested, example.nested_well_formed, example.nested_nests, example.nested_operations, example.object_above)
