use Rattle.ada_parser.proofs.Whole.{has_fault_or_tree}
use Rattle.ada_parser.proofs.laws.faults_exclude_trees.Goals as goal

pub returns : goal.returns
returns c = has_fault_or_tree
