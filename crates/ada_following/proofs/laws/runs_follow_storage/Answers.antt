-- Step by step, from the first state of both.
use Rattle.ada_following.proofs.Runs as runs
use Rattle.ada_following.proofs.laws.runs_follow_storage.Goals as goal

pub returns-clause-follow : goal.returns-clause-follow
returns-clause-follow c = runs.runs_follow_storage

pub returns-clause-shown : goal.returns-clause-shown
returns-clause-shown c = runs.runs_are_shown
