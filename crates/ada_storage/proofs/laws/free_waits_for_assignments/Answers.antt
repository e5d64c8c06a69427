use Rattle.ada_storage.proofs.Example as example
use Rattle.ada_storage.proofs.laws.free_waits_for_assignments.Goals as goal

pub returns : goal.returns
returns c = example.free_waits
