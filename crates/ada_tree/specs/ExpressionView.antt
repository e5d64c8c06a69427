-- The expressions, right sides and arguments that the code keeps, as plain data.

use Rattle.std.specs.Prelude.{◌≡◌, ℕ, List, [], ◌∷◌, Option, Some, None, refl}
use Rattle.std.proofs.Common.{ap, ◌∙◌}
use Rattle.std.specs.Global.{Box, Vec}
use Rattle.ada_text.specs.declared.spot.Spot.{Spot}
use Rattle.ada_tree.specs.declared.names.Identifier.{Identifier}
use Rattle.ada_tree.specs.declared.names.Path.{Path as PathIn}
use Rattle.ada_values.specs.declared.operator.UnaryOperator.{UnaryOperator}
use Rattle.ada_tree.specs.declared.expressions.Item.{Item}
use Rattle.ada_tree.specs.declared.expressions.Link.{Link}
use Rattle.ada_tree.specs.declared.expressions.Expression.{Expression, Number, Null, Path, Aggregate, Enclosed, Unary, Chain, Aggregate', Enclosed', Unary', Chain', Row_of-Item, end_of-Item, more_of-Item, items-the_row-Item, items_hidden-the_row-Item-0, Row_of-Link, end_of-Link, more_of-Link, items-the_row-Link, items_hidden-the_row-Link-1}
use Rattle.ada_tree.specs.declared.expressions.Expression.TheBlock.{hidden-the_row-Item-0, hidden-the_row-Link-1}
use Rattle.ada_tree.specs.declared.expressions.Right.{Right}
use Rattle.ada_tree.specs.declared.expressions.Right.TheVariants as right
use Rattle.ada_tree.specs.declared.expressions.Argument.{Argument}
use Rattle.ada_tree.specs.declared.expressions.Argument.TheVariants as argument
use Rattle.ada_tree.specs.Names.{Ident, path_of, ident_of, optional_ident_of}
use Rattle.ada_tree.specs.Expressions.{ExpressionTree, number_expression, null_expression, path_expression, aggregate_expression, enclosed_expression, unary_expression, binary_expression, ItemsTree, no_more_items, an_item, RightTree, expression_right, allocator_right, creation_right, ArgumentTree, expression_argument, text_argument, attribute_argument}

unfoldable mutual
  -- An expression.
  pub expression_of : Expression → ExpressionTree
  expression_of (Number spot value) = number_expression spot value
  expression_of (Null spot) = null_expression spot
  expression_of (Path path) = path_expression (path_of path)
  expression_of (Aggregate' type_name shape items) = aggregate_expression (ident_of type_name) (row_of items)
  expression_of (Enclosed' spot p inner) = enclosed_expression spot (expression_of inner)
  expression_of (Unary' operator spot p operand) = unary_expression operator spot (expression_of operand)
  expression_of (Chain' p first shape links) = behind_in_row (expression_of first) links

  -- The items of an aggregate, as an expression keeps them.
  pub row_of : {m : _} → Row_of-Item m → ItemsTree
  row_of end_of-Item = no_more_items
  row_of (more_of-Item label value rest) = an_item (optional_ident_of label) (expression_of value) (row_of rest)

  -- An expression with operators behind it, as a chain keeps them: each has for its left operand all that stands before it.
  pub behind_in_row : {m : _} → ExpressionTree → Row_of-Link m → ExpressionTree
  behind_in_row left end_of-Link = left
  behind_in_row left (more_of-Link operator operand rest) = behind_in_row (binary_expression operator left (expression_of operand)) rest

-- An item: its label and its value.
abbrev pub item_of : Item → Option Ident × ExpressionTree
item_of item = (optional_ident_of item.label, expression_of item.value)

-- A list of items.
abbrev pub items_of : List Item → ItemsTree
items_of [] = no_more_items
items_of (item ∷ items) = an_item (optional_ident_of item.label) (expression_of item.value) (items_of items)

-- An expression with operators behind it: each has for its left operand all that stands before it (4.5).
abbrev pub linked : ExpressionTree → List Link → ExpressionTree
linked left [] = left
linked left (link ∷ links) = linked (binary_expression link.operator left (expression_of link.operand)) links

-- What stands on the right of `:=`.
abbrev pub right_of : Right → RightTree
right_of (right.Expression e) = expression_right (expression_of e)
right_of (right.Allocator spot handle type_name items) =
    allocator_right spot (optional_ident_of handle) (ident_of type_name) (items_of items.items)
right_of (right.Creation function argument) = creation_right (path_of function) (ident_of argument)

-- A right side, if there is one.
abbrev pub optional_right_of : Option Right → Option RightTree
optional_right_of None = None
optional_right_of (Some r) = Some (right_of r)

-- An argument.
abbrev pub argument_of : Argument → ArgumentTree
argument_of (argument.Expression e) = expression_argument (expression_of e)
argument_of (argument.Text spot text) = text_argument spot text.now
argument_of (argument.Attribute prefix attribute value) =
    attribute_argument (ident_of prefix) (ident_of attribute) (expression_of value)

-- Each expression by how it is made.

pub number_view : (spot : Spot) (value : ℕ) → expression_of (Number spot value) ≡ number_expression spot value
unfolding expression_of
number_view spot value = refl

pub null_view : (spot : Spot) → expression_of (Null spot) ≡ null_expression spot
unfolding expression_of
null_view spot = refl

pub path_view : (path : PathIn) → expression_of (Path path) ≡ path_expression (path_of path)
unfolding expression_of
path_view path = refl

pub enclosed_view : (spot : Spot) (inner : Box Expression) → expression_of (Enclosed spot inner) ≡ enclosed_expression spot (expression_of inner.value)
unfolding expression_of
enclosed_view spot inner = refl

pub unary_view : (operator : UnaryOperator) (spot : Spot) (operand : Box Expression) → expression_of (Unary operator spot operand) ≡ unary_expression operator spot (expression_of operand.value)
unfolding expression_of
unary_view operator spot operand = refl

links_in_row : {m : _} (left : ExpressionTree) (row : Row_of-Link m) → behind_in_row left row ≡ linked left (items-the_row-Link m row)
unfolding behind_in_row
links_in_row left end_of-Link = refl
links_in_row left (more_of-Link operator operand rest) = links_in_row (binary_expression operator left (expression_of operand)) rest

pub chain_view : (first : Box Expression) (links : Vec Link) → expression_of (Chain first links) ≡ linked (expression_of first.value) links.items
unfolding expression_of
chain_view first links = links_in_row (expression_of first.value) (hidden-the_row-Link-1 links) ∙ ap (linked (expression_of first.value)) (items_hidden-the_row-Link-1 links)

items_in_row : {m : _} (row : Row_of-Item m) → row_of row ≡ items_of (items-the_row-Item m row)
unfolding row_of
items_in_row end_of-Item = refl
items_in_row (more_of-Item label value rest) = ap (an_item (optional_ident_of label) (expression_of value)) (items_in_row rest)

pub aggregate_view : (type_name : Identifier) (items : Vec Item) → expression_of (Aggregate type_name items) ≡ aggregate_expression (ident_of type_name) (items_of items.items)
unfolding expression_of
aggregate_view type_name items = ap (aggregate_expression (ident_of type_name)) (items_in_row (hidden-the_row-Item-0 items) ∙ ap items_of (items_hidden-the_row-Item-0 items))

-- The view of an expression, step by step.
pub ruleset tree_rules = (number_view, null_view, path_view, aggregate_view, enclosed_view, unary_view, chain_view)
