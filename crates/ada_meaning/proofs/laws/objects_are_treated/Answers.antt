-- By their one steps.
use Rattle.ada_meaning.proofs.Treated as treated
use Rattle.ada_meaning.proofs.laws.objects_are_treated.Goals as goal

pub returns-clause-begins : goal.returns-clause-begins
returns-clause-begins c = treated.objects_begin

pub returns-clause-picks : goal.returns-clause-picks
returns-clause-picks c = treated.components_are_picked

pub returns-clause-leaves : goal.returns-clause-leaves
returns-clause-leaves c = treated.members_are_finalized

pub returns-clause-first : goal.returns-clause-first
returns-clause-first c = treated.treatments_come_first
