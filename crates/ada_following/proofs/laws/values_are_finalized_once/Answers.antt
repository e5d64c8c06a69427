-- It is so in storage, whose run shows the same events.
use Rattle.ada_following.proofs.Runs as runs
use Rattle.ada_following.proofs.laws.values_are_finalized_once.Goals as goal

pub returns-clause-once : goal.returns-clause-once
returns-clause-once c = runs.once

pub returns-clause-born : goal.returns-clause-born
returns-clause-born c = runs.born_before
