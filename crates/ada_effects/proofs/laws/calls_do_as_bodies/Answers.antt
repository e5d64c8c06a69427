use Rattle.ada_effects.proofs.Programs as programs
use Rattle.ada_effects.proofs.laws.calls_do_as_bodies.Goals as goal

pub returns : goal.returns
returns c = programs.calls_do_as_bodies
