-- It is so in storage, whose run shows the same events.
use Rattle.ada_following.proofs.Runs as runs
use Rattle.ada_following.proofs.laws.nothing_after_back.Goals as goal

pub returns : goal.returns
returns c = runs.nothing_after_back
