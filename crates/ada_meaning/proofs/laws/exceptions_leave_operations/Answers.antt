-- By their one steps.
use Rattle.ada_meaning.proofs.Undoing as undoing
use Rattle.ada_meaning.proofs.laws.exceptions_leave_operations.Goals as goal

pub returns-clause-undone : goal.returns-clause-undone
returns-clause-undone c = undoing.failed_initializes_are_undone

pub returns-clause-ceases : goal.returns-clause-ceases
returns-clause-ceases c = undoing.objects_end

pub returns-clause-back : goal.returns-clause-back
returns-clause-back c = undoing.words_go_back

pub returns-clause-goes_on : goal.returns-clause-goes_on
returns-clause-goes_on c = undoing.exceptions_go_on

pub returns-clause-escapes : goal.returns-clause-escapes
returns-clause-escapes c = undoing.nothing_escapes
