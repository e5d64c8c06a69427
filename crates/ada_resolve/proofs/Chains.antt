-- Chains of operators: what they mean and what is noted of them, link by link.

use Rattle.std.proofs.Common.{◌≡◌, List, [], ◌∷◌, ◌++◌, refl, ap, sym, ◌∙◌}
use Rattle.ada_text.specs.declared.spot.Spot.{Spot}
use Rattle.ada_program.specs.Form.{expression_form, links_form, a_link}
use Rattle.ada_program.specs.declared.program.Link.{Link}
use Rattle.ada_tree.specs.declared.expressions.Link.{Link as LinkTree}
use Rattle.ada_tree.specs.Expressions.{ExpressionTree, binary_expression}
use Rattle.ada_tree.specs.ExpressionView.{expression_of, linked}
use Rattle.ada_resolve.specs.declared.notes.Notes.{Notes}
use Rattle.ada_resolve.specs.Chains.{links_meant, links_remark, nodes_remark}
use Rattle.ada_resolve.specs.Expressions.{expression_meant, expression_remark}
use Rattle.ada_resolve.specs.Known.{Known}
use Rattle.ada_resolve.specs.Operators.{one_link_more}
use Rattle.ada_resolve.specs.Remark.{node, noted}
use Rattle.ada_resolve.specs.Spots.{expression_spot}

-- one more link at the end
pub links_snoc : (links : List Link) (link : Link) → links_form (links ++ link ∷ []) ≡ one_link_more (links_form links) link.operator (expression_form link.operand)
links_snoc [] link = refl
links_snoc (l ∷ links) link = ap (a_link l.operator (expression_form l.operand)) (links_snoc links link)

-- operators behind an expression don't move where it begins
pub linked_spot : (left : ExpressionTree) (links : List LinkTree) → expression_spot (linked left links) ≡ expression_spot left
unfolding expression_spot
linked_spot left [] = refl
linked_spot left (link ∷ links) = linked_spot (binary_expression link.operator left (expression_of link.operand)) links

-- what a chain means
pub linked_meant : (known : Known) (left : ExpressionTree) (links : List LinkTree) → expression_meant known (linked left links) ≡ links_meant known (expression_meant known left) links
unfolding expression_meant
linked_meant known left [] = refl
linked_meant known left (link ∷ links) = linked_meant known (binary_expression link.operator left (expression_of link.operand)) links

-- one node more may as well come last
node_last : (spot : Spot) (links : List LinkTree) (notes : Notes) → noted (nodes_remark spot links) (noted (node spot) notes) ≡ noted (node spot) (noted (nodes_remark spot links) notes)
node_last spot [] notes = refl
node_last spot (link ∷ links) notes = node_last spot links (noted (node spot) notes)

-- what is noted of a chain
pub linked_noted : (known : Known) (left : ExpressionTree) (links : List LinkTree) (notes : Notes) → noted (expression_remark known (linked left links)) notes ≡ noted (links_remark known (expression_meant known left) (expression_spot left) links) (noted (expression_remark known left) (noted (nodes_remark (expression_spot left) links) notes))
unfolding expression_meant expression_remark expression_spot
linked_noted known left [] notes = refl
linked_noted known left (link ∷ links) notes =
    linked_noted known (binary_expression link.operator left (expression_of link.operand)) links notes ∙
    ap
    (λ (before : Notes). noted (links_remark known (expression_meant known left) (expression_spot left) (link ∷ links)) (noted (expression_remark known left) before))
    (sym (node_last (expression_spot left) links notes))
