-- Each state of a run is typed.
use Rattle.ada_typed.proofs.Freeing as freeing
use Rattle.ada_typed.proofs.laws.objects_are_freed_by_their_types.Goals as goal

pub returns : goal.returns
returns c = freeing.objects_are_freed_by_their_types
