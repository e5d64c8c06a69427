-- By the ranks of parts.
use Rattle.ada_finalized.proofs.Runs as runs
use Rattle.ada_finalized.proofs.laws.runs_keep_the_law.Goals as goal

pub returns : goal.returns
returns c = runs.finalizations
