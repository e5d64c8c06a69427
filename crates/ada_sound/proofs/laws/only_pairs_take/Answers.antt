-- By the rule that a path breaks that is moved.
use Rattle.ada_sound.proofs.Moves as moves
use Rattle.ada_sound.proofs.laws.only_pairs_take.Goals as goal

pub returns-clause-pair : goal.returns-clause-pair
returns-clause-pair c = moves.only_pairs_take

pub returns-clause-is_one : goal.returns-clause-is_one
returns-clause-is_one c = moves.pairs_are_take_pairs
