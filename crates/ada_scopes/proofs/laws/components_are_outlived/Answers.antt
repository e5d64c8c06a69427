-- Each state of a run nests.
use Rattle.ada_scopes.proofs.Components.{outlived, innermost_alone}
use Rattle.ada_scopes.proofs.laws.components_are_outlived.Goals as goal

pub returns-clause-outlived : goal.returns-clause-outlived
returns-clause-outlived c = outlived

pub returns-clause-innermost : goal.returns-clause-innermost
returns-clause-innermost c = innermost_alone
