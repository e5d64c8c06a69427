-- The split with a larger multiple.
use Rattle.ada_values.proofs.Division.{modulus_shifted}
use Rattle.ada_values.proofs.laws.moduli_follow_the_right_operand.Goals as goal

pub returns-clause-sign : goal.returns-clause-sign
returns-clause-sign c = λ a b m h. h.1.sign

pub returns-clause-shifted : goal.returns-clause-shifted
returns-clause-shifted c = modulus_shifted
