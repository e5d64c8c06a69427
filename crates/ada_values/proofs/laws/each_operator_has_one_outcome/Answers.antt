-- By cases of the operator.
use Rattle.ada_values.proofs.Outcomes.{one_outcome, some_outcome, one_unary_outcome, some_unary_outcome}
use Rattle.ada_values.proofs.laws.each_operator_has_one_outcome.Goals as goal

pub returns-clause-unary : goal.returns-clause-unary
returns-clause-unary c = λ operator operand. (some_unary_outcome operator operand, one_unary_outcome operator operand)

pub returns-clause-binary : goal.returns-clause-binary
returns-clause-binary c = λ operator left right. (some_outcome operator left right, one_outcome operator left right)
