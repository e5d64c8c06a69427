-- By what the variable holds.
use Rattle.ada_sound.proofs.Freed as freed
use Rattle.ada_sound.proofs.laws.only_owners_are_freed.Goals as goal

pub returns-clause-owner : goal.returns-clause-owner
returns-clause-owner c = freed.only_owners_freed

pub returns-clause-nothing_after : goal.returns-clause-nothing_after
returns-clause-nothing_after c = freed.freed_owns_nothing
