-- By an example.
use Rattle.ada_untouched.proofs.Example as example
use Rattle.ada_untouched.proofs.laws.writes_beside.Goals as goal

pub returns : goal.returns
returns c = example.writes_beside
