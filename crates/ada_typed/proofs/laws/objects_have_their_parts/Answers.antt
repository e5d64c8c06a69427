-- Each state of a run is typed.
use Rattle.ada_typed.proofs.Runs as runs
use Rattle.ada_typed.proofs.laws.objects_have_their_parts.Goals as goal

pub returns : goal.returns
returns c = runs.objects_have_their_parts
