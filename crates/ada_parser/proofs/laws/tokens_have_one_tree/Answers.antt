use Rattle.ada_parser.proofs.Whole.{has_one_tree}
use Rattle.ada_parser.proofs.laws.tokens_have_one_tree.Goals as goal

pub returns : goal.returns
returns c = has_one_tree
