use Rattle.ada_rounds.proofs.Chains.{each_once}
use Rattle.ada_rounds.proofs.laws.each_stands_once.Goals as goal

pub returns : goal.returns
returns c = each_once
