-- No absolute value is below 0.
use Rattle.std.proofs.Common.{pos}
use Rattle.ada_values.proofs.Division.{no_split}
use Rattle.ada_values.proofs.laws.division_by_zero_has_no_result.Goals as goal

pub returns-clause-quotient : goal.returns-clause-quotient
returns-clause-quotient c = λ a q h. no_split a q h.0 a h.1

pub returns-clause-remainder : goal.returns-clause-remainder
returns-clause-remainder c = λ a r h. no_split a h.0 r a h.1

pub returns-clause-modulus : goal.returns-clause-modulus
returns-clause-modulus c = λ a m h. no_split a h.0 m (pos 0) h.1
