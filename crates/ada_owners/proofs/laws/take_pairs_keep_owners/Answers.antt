-- What a component owned is in hand once it is lent.
use Rattle.ada_owners.proofs.Keeping as keeping
use Rattle.ada_owners.proofs.laws.take_pairs_keep_owners.Goals as goal

pub returns-clause-takes : goal.returns-clause-takes
returns-clause-takes c = keeping.takes_keep

pub returns-clause-clears : goal.returns-clause-clears
returns-clause-clears c = keeping.clears_keep

pub returns-clause-pairs : goal.returns-clause-pairs
returns-clause-pairs c = keeping.take_pairs_keep

pub returns-clause-components : goal.returns-clause-components
returns-clause-components c = keeping.component_pairs_keep
