use Rattle.ada_text.proofs.FaultLemmas.{one_fault, none_spelled}
use Rattle.ada_text.proofs.laws.one_first_fault.Goals as goal

pub returns-clause-one : goal.returns-clause-one
returns-clause-one c = one_fault

pub returns-clause-none : goal.returns-clause-none
returns-clause-none c = none_spelled
