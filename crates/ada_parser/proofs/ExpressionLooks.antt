-- The readers of expressions look at no token behind the one where they stop.
use Rattle.std.proofs.Common.{ℕ}
use Rattle.ada_parser.proofs.ExpressionPhrases.{factor_sound, term_sound, relation_sound, inside_sound}
use Rattle.ada_parser.proofs.RightTexts.{Looks}

-- Which tokens the readers of expressions look at.
pub looks : (n : ℕ) → Looks n
looks n = record {
  plain_factor = (factor_sound n (inside_sound n)).plain;
  plain_term = (term_sound n (inside_sound n)).plain;
  plain_relation = (relation_sound n (inside_sound n)).plain;
}
