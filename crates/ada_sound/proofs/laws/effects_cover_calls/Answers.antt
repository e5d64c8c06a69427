-- By what is kept of each activation that waits.
use Rattle.ada_sound.proofs.Covered as covered
use Rattle.ada_sound.proofs.laws.effects_cover_calls.Goals as goal

pub returns-clause-frees : goal.returns-clause-frees
returns-clause-frees c = covered.frees

pub returns-clause-raises : goal.returns-clause-raises
returns-clause-raises c = covered.raises
