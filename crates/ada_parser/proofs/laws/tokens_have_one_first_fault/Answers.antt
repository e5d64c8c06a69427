use Rattle.ada_parser.proofs.Whole.{has_one_fault}
use Rattle.ada_parser.proofs.laws.tokens_have_one_first_fault.Goals as goal

pub returns : goal.returns
returns c = has_one_fault
