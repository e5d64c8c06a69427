-- Value by value.
use Rattle.ada_owners.proofs.Keeping as keeping
use Rattle.ada_owners.proofs.Walks as walks
use Rattle.ada_owners.proofs.laws.walks_find_what_exists.Goals as goal

pub returns-clause-right : goal.returns-clause-right
returns-clause-right c = keeping.walks_are_right

pub returns-clause-steps : goal.returns-clause-steps
returns-clause-steps c = walks.paths_walk
