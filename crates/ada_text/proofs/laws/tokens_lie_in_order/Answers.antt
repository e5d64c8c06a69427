use Rattle.ada_text.proofs.LayoutLemmas.{Lie-Spells}
use Rattle.ada_text.proofs.laws.tokens_lie_in_order.Goals as goal

pub returns : goal.returns
returns c = Lie-Spells
