use Rattle.ada_text.proofs.FormLemmas.{HaveForms-Spells}
use Rattle.ada_text.proofs.laws.tokens_have_their_forms.Goals as goal

pub returns : goal.returns
returns c = HaveForms-Spells
