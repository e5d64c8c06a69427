use Rattle.ada_quiet.proofs.CalmTypes.{calm_is_told_within}
use Rattle.ada_quiet.proofs.laws.calm_is_told_within.Goals as goal

pub returns : goal.returns
returns c = calm_is_told_within
