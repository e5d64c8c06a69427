-- No place names an object.
use Rattle.ada_owners.proofs.Keeping as keeping
use Rattle.ada_owners.proofs.laws.first_states_fit.Goals as goal

pub returns : goal.returns
returns c = keeping.first_states_fit
