-- By an example.
use Rattle.ada_untouched.proofs.Example as example
use Rattle.ada_untouched.proofs.laws.copies_beside.Goals as goal

pub returns : goal.returns
returns c = example.copies_beside
