-- Chains of operators: where they begin.

use Rattle.std.proofs.Common.{◌≡◌, List, [], ◌∷◌, refl}
use Rattle.ada_tree.specs.declared.expressions.Link.{Link}
use Rattle.ada_tree.specs.Expressions.{ExpressionTree, binary_expression}
use Rattle.ada_tree.specs.ExpressionView.{expression_of, linked}
use Rattle.ada_front.specs.Spots.{expression_start}

-- Operators behind an expression do not move where it begins.
pub linked_start : (left : ExpressionTree) (links : List Link) → expression_start (linked left links) ≡ expression_start left
unfolding expression_start
linked_start left [] = refl
linked_start left (link ∷ links) = linked_start (binary_expression link.operator left (expression_of link.operand)) links
