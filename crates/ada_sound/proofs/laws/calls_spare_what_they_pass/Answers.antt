-- By what no actual parameter breaks: none that is passed follows what may be freed.
use Rattle.ada_sound.proofs.Callees as callees
use Rattle.ada_sound.proofs.laws.calls_spare_what_they_pass.Goals as goal

pub returns : goal.returns
returns c = callees.calls_spare_what_they_pass
