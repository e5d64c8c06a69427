-- Each state of a run has open what its record objects need.
use Rattle.ada_outlived.proofs.Outlived.{outlived, newer}
use Rattle.ada_outlived.proofs.laws.records_are_outlived.Goals as goal

pub returns-clause-outlived : goal.returns-clause-outlived
returns-clause-outlived c = outlived

pub returns-clause-newer : goal.returns-clause-newer
returns-clause-newer c = newer
