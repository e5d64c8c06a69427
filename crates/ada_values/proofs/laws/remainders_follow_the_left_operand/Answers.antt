-- The split with the signs turned.
use Rattle.ada_values.proofs.Division.{remainder_by_neg, remainder_of_neg}
use Rattle.ada_values.proofs.laws.remainders_follow_the_left_operand.Goals as goal

pub returns-clause-sign : goal.returns-clause-sign
returns-clause-sign c = λ a b r h. h.1.sign

pub returns-clause-right : goal.returns-clause-right
returns-clause-right c = remainder_by_neg

pub returns-clause-left : goal.returns-clause-left
returns-clause-left c = remainder_of_neg
