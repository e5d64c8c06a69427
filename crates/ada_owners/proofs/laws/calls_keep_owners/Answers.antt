-- The same places, under other names.
use Rattle.ada_owners.proofs.Keeping as keeping
use Rattle.ada_owners.proofs.laws.calls_keep_owners.Goals as goal

pub returns-clause-calls : goal.returns-clause-calls
returns-clause-calls c = keeping.calls_keep

pub returns-clause-returns : goal.returns-clause-returns
returns-clause-returns c = keeping.returns_keep

pub returns-clause-actuals : goal.returns-clause-actuals
returns-clause-actuals c = keeping.actuals_keep

pub returns-clause-copies : goal.returns-clause-copies
returns-clause-copies c = keeping.copies_back_keep
