-- No place of such an access type owns or borrows.
use Rattle.ada_owners.proofs.Keeping as keeping
use Rattle.ada_owners.proofs.laws.collections_end.Goals as goal

pub returns-clause-spares : goal.returns-clause-spares
returns-clause-spares c = keeping.spares_keep

pub returns-clause-members : goal.returns-clause-members
returns-clause-members c = keeping.members_end

pub returns-clause-closes : goal.returns-clause-closes
returns-clause-closes c = keeping.closes_keep
