use Rattle.ada_text.proofs.WritingLemmas.{IsReadAgain-Spells}
use Rattle.ada_text.proofs.laws.tokens_are_read_again.Goals as goal

pub returns : goal.returns
returns c = IsReadAgain-Spells
