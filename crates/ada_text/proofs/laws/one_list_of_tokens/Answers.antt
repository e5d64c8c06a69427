use Rattle.ada_text.proofs.ReadingLemmas.{one_spelling}
use Rattle.ada_text.proofs.laws.one_list_of_tokens.Goals as goal

pub returns : goal.returns
returns c = one_spelling
