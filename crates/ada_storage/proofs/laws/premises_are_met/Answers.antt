use Rattle.ada_storage.proofs.Example as example
use Rattle.ada_storage.proofs.laws.premises_are_met.Goals as goal

pub returns : goal.returns
returns c = record { rollback = example.an_initialize_raises; nested = example.masters_nest }
