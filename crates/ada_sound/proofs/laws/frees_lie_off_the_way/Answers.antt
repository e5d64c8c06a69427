-- By what the rules ask of the path.
use Rattle.ada_sound.proofs.Freed as freed
use Rattle.ada_sound.proofs.laws.frees_lie_off_the_way.Goals as goal

pub returns-clause-own_type : goal.returns-clause-own_type
returns-clause-own_type c = freed.freed_lies_off_its_way

pub returns-clause-lost_is_refused : goal.returns-clause-lost_is_refused
returns-clause-lost_is_refused c = freed.lost_is_not_freed_behind
