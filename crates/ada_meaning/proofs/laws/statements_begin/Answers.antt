-- By the first frame.
use Rattle.ada_meaning.proofs.Beginnings as beginnings
use Rattle.ada_meaning.proofs.laws.statements_begin.Goals as goal

pub returns : goal.returns
returns c = beginnings.statements_begin
