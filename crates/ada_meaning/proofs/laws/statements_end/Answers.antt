-- By the weight.
use Rattle.ada_meaning.proofs.Pace as pace
use Rattle.ada_meaning.proofs.Weight as weights
use Rattle.ada_meaning.proofs.laws.statements_end.Goals as goal

pub returns : goal.returns
returns c = record { inheriting = weights.statements_end; operating = pace.statements_end; settling = pace.declarations_without_parts_settle }
