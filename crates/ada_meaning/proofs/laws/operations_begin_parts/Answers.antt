-- By their one steps.
use Rattle.ada_meaning.proofs.Operations as operations
use Rattle.ada_meaning.proofs.laws.operations_begin_parts.Goals as goal

pub returns-clause-called : goal.returns-clause-called
returns-clause-called c = operations.operations_are_called

pub returns-clause-awaited : goal.returns-clause-awaited
returns-clause-awaited c = operations.awaited_parts_are_born

pub returns-clause-plain : goal.returns-clause-plain
returns-clause-plain c = operations.plain_parts_are_born

pub returns-clause-gone : goal.returns-clause-gone
returns-clause-gone c = operations.gone_objects_are_not_treated
