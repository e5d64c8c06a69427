use Rattle.ada_verdict.proofs.Firsts.{one_program}
use Rattle.ada_verdict.proofs.laws.a_source_has_one_program.Goals as goal

pub returns : goal.returns
returns c = one_program c.one_list_of_tokens.ensures c.tokens_have_one_tree.ensures
