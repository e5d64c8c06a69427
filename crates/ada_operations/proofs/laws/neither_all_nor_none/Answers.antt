use Rattle.ada_operations.proofs.Shown.{all_broken, none_broken}
use Rattle.ada_operations.proofs.laws.neither_all_nor_none.Goals as goal

pub returns-clause-all : goal.returns-clause-all
returns-clause-all c = all_broken

pub returns-clause-none : goal.returns-clause-none
returns-clause-none c = none_broken
