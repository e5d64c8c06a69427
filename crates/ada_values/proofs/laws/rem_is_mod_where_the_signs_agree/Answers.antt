-- The remainder has the sign of the divisor too.
use Rattle.ada_values.proofs.Division.{remainder_as_modulus, modulus_as_remainder}
use Rattle.ada_values.proofs.laws.rem_is_mod_where_the_signs_agree.Goals as goal

pub returns : goal.returns
returns c = λ a b z h. (remainder_as_modulus a b z h, modulus_as_remainder a b z h)
