use Rattle.ada_deeds.proofs.Circles.{told_apart, onward}
use Rattle.ada_deeds.proofs.laws.coming_goes_on.Goals as goal

pub returns-clause-apart : goal.returns-clause-apart
returns-clause-apart c = told_apart

pub returns-clause-onward : goal.returns-clause-onward
returns-clause-onward c = onward
