use Rattle.ada_rounds.proofs.Chains.{one_is_first}
use Rattle.ada_rounds.proofs.laws.one_is_first.Goals as goal

pub returns : goal.returns
returns c = one_is_first
