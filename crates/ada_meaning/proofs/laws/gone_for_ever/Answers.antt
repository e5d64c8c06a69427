-- By what each step does to the heap.
use Rattle.ada_meaning.proofs.Lives as lives
use Rattle.ada_meaning.proofs.laws.gone_for_ever.Goals as goal

pub returns : goal.returns
returns c = lives.gone_for_ever
