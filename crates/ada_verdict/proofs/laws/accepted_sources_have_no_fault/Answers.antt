use Rattle.ada_verdict.proofs.Firsts.{no_first}
use Rattle.ada_verdict.proofs.laws.accepted_sources_have_no_fault.Goals as goal

pub returns : goal.returns
returns c = no_first c.one_list_of_tokens.ensures c.one_first_fault.ensures.none c.tokens_have_one_tree.ensures c.faults_exclude_trees.ensures
