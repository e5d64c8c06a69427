-- By an example.
use Rattle.ada_formals.proofs.Example.{parameter_is_given_on}
use Rattle.ada_formals.proofs.laws.a_parameter_is_given_on.Goals as goal

pub returns : goal.returns
returns c = parameter_is_given_on
