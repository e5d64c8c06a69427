-- Only lost places name an object that ends.
use Rattle.ada_owners.proofs.Keeping as keeping
use Rattle.ada_owners.proofs.laws.ends_keep_others.Goals as goal

pub returns-clause-ends : goal.returns-clause-ends
returns-clause-ends c = keeping.ends_keep

pub returns-clause-frees : goal.returns-clause-frees
returns-clause-frees c = keeping.frees_keep

pub returns-clause-components : goal.returns-clause-components
returns-clause-components c = keeping.component_frees_keep
