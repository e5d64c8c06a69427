-- By cases of the signs.
use Rattle.ada_values.proofs.Division.{quotient_size, quotient_of_neg, quotient_by_neg}
use Rattle.ada_values.proofs.laws.quotients_are_rounded_toward_zero.Goals as goal

pub returns-clause-size : goal.returns-clause-size
returns-clause-size c = quotient_size

pub returns-clause-left : goal.returns-clause-left
returns-clause-left c = quotient_of_neg

pub returns-clause-right : goal.returns-clause-right
returns-clause-right c = quotient_by_neg
