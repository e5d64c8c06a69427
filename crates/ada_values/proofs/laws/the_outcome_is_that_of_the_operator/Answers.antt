-- By cases of the operator.
use Rattle.ada_values.proofs.Results.{outcome_is, unary_outcome_is}
use Rattle.ada_values.proofs.laws.the_outcome_is_that_of_the_operator.Goals as goal

pub returns-clause-unary : goal.returns-clause-unary
returns-clause-unary c = unary_outcome_is

pub returns-clause-binary : goal.returns-clause-binary
returns-clause-binary c = outcome_is
