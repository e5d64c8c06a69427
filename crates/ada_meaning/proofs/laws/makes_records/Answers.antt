-- By its one step.
use Rattle.ada_meaning.proofs.Defaults as defaults
use Rattle.ada_meaning.proofs.laws.makes_records.Goals as goal

pub returns : goal.returns
returns c = defaults.makes_records
