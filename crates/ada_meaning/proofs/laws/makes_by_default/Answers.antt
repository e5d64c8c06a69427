-- By its two steps.
use Rattle.ada_meaning.proofs.Defaults as defaults
use Rattle.ada_meaning.proofs.laws.makes_by_default.Goals as goal

pub returns : goal.returns
returns c = defaults.makes_by_default
