-- By their one steps.
use Rattle.ada_meaning.proofs.Operations as operations
use Rattle.ada_meaning.proofs.laws.operations_end_parts.Goals as goal

pub returns-clause-called : goal.returns-clause-called
returns-clause-called c = operations.finalize_is_called

pub returns-clause-goes_on : goal.returns-clause-goes_on
returns-clause-goes_on c = operations.finalizes_end

pub returns-clause-plain : goal.returns-clause-plain
returns-clause-plain c = operations.no_finalize_is_called

pub returns-clause-ended : goal.returns-clause-ended
returns-clause-ended c = operations.ended_values_are_not_finalized
