-- By their one steps.
use Rattle.ada_meaning.proofs.RecordAssignments as assignments
use Rattle.ada_meaning.proofs.laws.records_are_assigned.Goals as goal

pub returns-clause-targets_first : goal.returns-clause-targets_first
returns-clause-targets_first c = assignments.targets_come_first

pub returns-clause-onto_itself : goal.returns-clause-onto_itself
returns-clause-onto_itself c = assignments.onto_itself_nothing_is_done

pub returns-clause-in_order : goal.returns-clause-in_order
returns-clause-in_order c = assignments.assignments_finalize_copy_adjust
