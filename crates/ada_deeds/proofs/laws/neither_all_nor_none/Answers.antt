use Rattle.ada_deeds.proofs.Example.{both, third}
use Rattle.ada_deeds.proofs.laws.neither_all_nor_none.Goals as goal

pub returns-clause-both : goal.returns-clause-both
returns-clause-both c = both

pub returns-clause-third : goal.returns-clause-third
returns-clause-third c = third
