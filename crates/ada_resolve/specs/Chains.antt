-- Chains of operators, one operator after another: what each means with all that stands before it, and what is wrong with it.

use Rattle.std.specs.Prelude.{List, [], ◌∷◌}
use Rattle.ada_text.specs.declared.spot.Spot.{Spot}
use Rattle.ada_tree.specs.ExpressionView.{expression_of}
use Rattle.ada_tree.specs.declared.expressions.Link.{Link}
use Rattle.ada_resolve.specs.Expressions.{expression_meant, expression_remark}
use Rattle.ada_resolve.specs.Known.{Known}
use Rattle.ada_resolve.specs.Operators.{binary_meant, operands_remark}
use Rattle.ada_resolve.specs.Paths.{Meant}
use Rattle.ada_resolve.specs.Remark.{Remark, fine, node, ◌also◌}
use Rattle.ada_resolve.specs.Spots.{expression_spot}

-- Each operator is a node of the source, where the chain begins.
abbrev pub nodes_remark : Spot → List Link → Remark
nodes_remark spot [] = fine
nodes_remark spot (link ∷ links) = node spot also nodes_remark spot links

-- What operators mean with a left operand: each has for its left operand all that stands before it (4.5).
abbrev pub links_meant : Known → Meant → List Link → Meant
links_meant known left [] = left
links_meant known left (link ∷ links) =
    links_meant known (binary_meant link.operator left (expression_meant known (expression_of link.operand))) links

-- What is wrong with the right operands, and with both operands of each operator, where the chain begins at the spot.
abbrev pub links_remark : Known → Meant → Spot → List Link → Remark
links_remark known left spot [] = fine
links_remark known left spot (link ∷ links) =
    expression_remark known (expression_of link.operand) also
    operands_remark link.operator left spot (expression_meant known (expression_of link.operand)) (expression_spot (expression_of link.operand)) also
    links_remark known (binary_meant link.operator left (expression_meant known (expression_of link.operand))) spot links
