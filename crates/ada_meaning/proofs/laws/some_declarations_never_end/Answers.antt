-- By a program made by hand.
use Rattle.ada_meaning.proofs.Endless as endless
use Rattle.ada_meaning.proofs.laws.some_declarations_never_end.Goals as goal

pub returns : goal.returns
returns c = endless.some_declarations_never_end
