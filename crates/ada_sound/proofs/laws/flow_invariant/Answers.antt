-- The holds of flow stand in the invariant.
use Rattle.ada_sound.proofs.Headline as headline
use Rattle.ada_sound.proofs.laws.flow_invariant.Goals as goal

pub returns-clause-agrees : goal.returns-clause-agrees
returns-clause-agrees c = headline.agrees

pub returns-clause-one_flow : goal.returns-clause-one_flow
returns-clause-one_flow c = headline.one_flow
