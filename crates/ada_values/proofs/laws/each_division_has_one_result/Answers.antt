-- Two splits with one sign are the same one.
use Rattle.std.proofs.Common.{int_div, int_rem}
use Rattle.ada_values.proofs.Division.{divided, one_quotient, one_remainder, one_modulus, some_modulus}
use Rattle.ada_values.proofs.laws.each_division_has_one_result.Goals as goal

pub returns-clause-quotient : goal.returns-clause-quotient
returns-clause-quotient c = λ a b h. ((int_div a b, (int_rem a b, divided a b h)), one_quotient a b)

pub returns-clause-remainder : goal.returns-clause-remainder
returns-clause-remainder c = λ a b h. ((int_rem a b, (int_div a b, divided a b h)), one_remainder a b)

pub returns-clause-modulus : goal.returns-clause-modulus
returns-clause-modulus c = λ a b h. (some_modulus a b h, one_modulus a b)
