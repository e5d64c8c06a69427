-- What a variable owned is in hand once it is lost.
use Rattle.ada_owners.proofs.Keeping as keeping
use Rattle.ada_owners.proofs.laws.assignments_keep_owners.Goals as goal

pub returns-clause-moves : goal.returns-clause-moves
returns-clause-moves c = keeping.moves_keep

pub returns-clause-borrows : goal.returns-clause-borrows
returns-clause-borrows c = keeping.borrows_keep

pub returns-clause-stores : goal.returns-clause-stores
returns-clause-stores c = keeping.stores_keep
