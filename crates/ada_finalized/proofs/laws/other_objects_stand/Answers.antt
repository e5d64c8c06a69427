-- By what waits for a part, and by what is done to an object.
use Rattle.ada_finalized.proofs.Standing as standing
use Rattle.ada_finalized.proofs.Twice as twice
use Rattle.ada_finalized.proofs.laws.other_objects_stand.Goals as goal

pub returns-clause-listed_stand : goal.returns-clause-listed_stand
returns-clause-listed_stand c = standing.listed_stand

pub returns-clause-values_exist : goal.returns-clause-values_exist
returns-clause-values_exist c = twice.values_exist

pub returns-clause-none_runs : goal.returns-clause-none_runs
returns-clause-none_runs c = standing.none_runs_on_listed

pub returns-clause-operated_exist : goal.returns-clause-operated_exist
returns-clause-operated_exist c = twice.operated_exist
