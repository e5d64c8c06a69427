-- By what is left behind the end of an object.
use Rattle.ada_sound.proofs.Freed as freed
use Rattle.ada_sound.proofs.laws.free_leaves_no_alias.Goals as goal

pub returns-clause-behind : goal.returns-clause-behind
returns-clause-behind c = freed.free_leaves_no_alias

pub returns-clause-where_raised : goal.returns-clause-where_raised
returns-clause-where_raised c = freed.raised_free_leaves_no_alias
