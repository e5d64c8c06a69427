use Rattle.ada_reach.proofs.Example.{last, outside, closed}
use Rattle.ada_reach.proofs.laws.neither_all_nor_starts.Goals as goal

pub returns-clause-reached : goal.returns-clause-reached
returns-clause-reached c = last

pub returns-clause-not_reached : goal.returns-clause-not_reached
returns-clause-not_reached c = outside

pub returns-clause-premises : goal.returns-clause-premises
returns-clause-premises c = closed
