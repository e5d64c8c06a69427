-- A chain with one more operator.
use Rattle.std.proofs.Common.{◌≡◌, List, [], ◌∷◌, ◌++◌, refl}
use Rattle.ada_tree.specs.declared.expressions.Link.{Link}
use Rattle.ada_tree.specs.Expressions.{ExpressionTree, binary_expression}
use Rattle.ada_tree.specs.ExpressionView.{expression_of, linked}

-- the last operator of a chain has all before it for its left operand
pub linked_more : (left : ExpressionTree) (links : List Link) (link : Link) → linked left (links ++ link ∷ []) ≡ binary_expression link.operator (linked left links) (expression_of link.operand)
linked_more left [] link = refl
linked_more left (first ∷ links) link = linked_more (binary_expression first.operator left (expression_of first.operand)) links link
