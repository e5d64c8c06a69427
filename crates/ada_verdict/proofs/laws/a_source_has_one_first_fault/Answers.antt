use Rattle.ada_verdict.proofs.Firsts.{one_first}
use Rattle.ada_verdict.proofs.laws.a_source_has_one_first_fault.Goals as goal

pub returns : goal.returns
returns c =
    one_first c.one_list_of_tokens.ensures c.one_first_fault.ensures.one c.one_first_fault.ensures.none c.tokens_have_one_tree.ensures
    c.tokens_have_one_first_fault.ensures c.faults_exclude_trees.ensures
