-- The items become components one by one.
use Rattle.ada_owners.proofs.Keeping as keeping
use Rattle.ada_owners.proofs.laws.allocations_keep_owners.Goals as goal

pub returns-clause-allocations : goal.returns-clause-allocations
returns-clause-allocations c = keeping.allocations_keep

pub returns-clause-insertions : goal.returns-clause-insertions
returns-clause-insertions c = keeping.insertions_keep

pub returns-clause-puts : goal.returns-clause-puts
returns-clause-puts c = keeping.puts_keep
