-- By its one step.
use Rattle.ada_meaning.proofs.References as references
use Rattle.ada_meaning.proofs.laws.stores_are_kept.Goals as goal

pub returns : goal.returns
returns c = references.stores_are_kept
