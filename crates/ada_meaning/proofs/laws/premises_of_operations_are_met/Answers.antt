-- By a run, and by states made by hand.
use Rattle.ada_meaning.proofs.OperationExamples as examples
use Rattle.ada_meaning.proofs.laws.premises_of_operations_are_met.Goals as goal

pub returns-clause-undone : goal.returns-clause-undone
returns-clause-undone c = examples.an_initialize_is_undone

pub returns-clause-others : goal.returns-clause-others
returns-clause-others c = examples.others_are_met

pub returns-clause-places : goal.returns-clause-places
returns-clause-places c = examples.a_part_begins_with_a_component
