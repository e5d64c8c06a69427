-- What is treated exists, and what is finalized has a value.
use Rattle.ada_finalized.proofs.Twice as twice
use Rattle.ada_finalized.proofs.laws.never_finalizes_twice.Goals as goal

pub returns-clause-never : goal.returns-clause-never
returns-clause-never c = twice.never_twice

pub returns-clause-behind : goal.returns-clause-behind
returns-clause-behind c = twice.operations_end_well

pub returns-clause-exist : goal.returns-clause-exist
returns-clause-exist c = twice.treated_exist
