-- By the leftmost of what the actual parameters break.
use Rattle.ada_sound.proofs.Callees as callees
use Rattle.ada_sound.proofs.laws.lost_is_no_actual.Goals as goal

pub returns : goal.returns
returns c = callees.lost_is_no_actual
