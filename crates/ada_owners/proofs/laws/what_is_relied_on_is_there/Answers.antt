-- By what each hold says of an object.
use Rattle.ada_owners.proofs.Keeping as keeping
use Rattle.ada_owners.proofs.laws.what_is_relied_on_is_there.Goals as goal

pub returns-clause-owned : goal.returns-clause-owned
returns-clause-owned c = keeping.owned_are_there

pub returns-clause-borrowed : goal.returns-clause-borrowed
returns-clause-borrowed c = keeping.borrowed_are_there

pub returns-clause-alone : goal.returns-clause-alone
returns-clause-alone c = keeping.owners_are_alone
