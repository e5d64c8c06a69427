-- Expressions: what is wrong with each, and what it means.

use Rattle.std.specs.Prelude.{Bool, false, List, Option}
use Rattle.ada_text.specs.declared.spot.Spot.{Spot}
use Rattle.ada_tree.specs.Names.{Ident}
use Rattle.ada_tree.specs.Expressions.{ExpressionTree, number_expression, null_expression, path_expression, aggregate_expression, enclosed_expression, unary_expression, binary_expression, ItemsTree, no_more_items, an_item}
use Rattle.ada_program.specs.Form.{integer}
use Rattle.ada_program.specs.ProgramForm.{PartForm}
use Rattle.ada_resolve.specs.Controlled.{aggregate_wanted}
use Rattle.ada_resolve.specs.Known.{Known}
use Rattle.ada_resolve.specs.Remark.{Remark, fine, node, ◌also◌}
use Rattle.ada_resolve.specs.Spots.{expression_spot}
use Rattle.ada_resolve.specs.Items.{Filling, after_item, aggregate_meant, component_item_remark, count_remark, filled_components, first_filling, label_remark, names_component}
use Rattle.ada_resolve.specs.Operators.{binary_meant, operand_remark, operands_remark, unary_meant}
use Rattle.ada_resolve.specs.Paths.{Meant, integer_value, null_value, path_meant, path_remark}
use Rattle.ada_resolve.specs.Statics.{at_most_greatest, integer_of}
use Rattle.ada_resolve.specs.Types.{complete_found, complete_remark}

unfoldable mutual
  -- What an expression means.
  pub expression_meant : Known → ExpressionTree → Meant
  expression_meant known (number_expression spot n) = integer_value (integer (integer_of false (at_most_greatest n)))
  expression_meant known (null_expression spot) = null_value
  expression_meant known (path_expression path) = path_meant known path
  expression_meant known (aggregate_expression type_name items) =
      aggregate_meant (complete_found known type_name)
      (after_items known (filled_components known (complete_found known type_name)) (names_component items)
      (first_filling (filled_components known (complete_found known type_name))) items)
  expression_meant known (enclosed_expression spot inner) = expression_meant known inner
  expression_meant known (unary_expression operator spot operand) = unary_meant operator (expression_meant known operand)
  expression_meant known (binary_expression operator left right) = binary_meant operator (expression_meant known left) (expression_meant known right)

  -- What is known after items for these components.
  pub after_items : Known → Option (List PartForm) → Bool → Filling → ItemsTree → Filling
  after_items known components is_named filling no_more_items = filling
  after_items known components is_named filling (an_item label value rest) =
      after_items known components is_named (after_item components is_named filling label (expression_meant known value)) rest

unfoldable mutual
  -- What is wrong with an expression: each number, `null`, path, aggregate and operator is a node of the source, an operator before its operands,
  -- and an aggregate before its items, of which each component of a complete record type without controlled parts has one (4.3.1, 4.7).
  pub expression_remark : Known → ExpressionTree → Remark
  expression_remark known (number_expression spot n) = node spot
  expression_remark known (null_expression spot) = node spot
  expression_remark known (path_expression path) = node path.root.spot also path_remark known path
  expression_remark known (aggregate_expression type_name items) =
      node type_name.spot also
      complete_remark known type_name also
      aggregate_wanted known.types (complete_found known type_name) type_name.spot also
      items_remark known (filled_components known (complete_found known type_name)) (names_component items)
      (first_filling (filled_components known (complete_found known type_name))) items also
      count_remark (names_component items)
      (after_items known (filled_components known (complete_found known type_name)) (names_component items)
      (first_filling (filled_components known (complete_found known type_name))) items)
      type_name.spot
  expression_remark known (enclosed_expression spot inner) = expression_remark known inner
  expression_remark known (unary_expression operator spot operand) =
      node spot also expression_remark known operand also operand_remark operator (expression_meant known operand) (expression_spot operand)
  expression_remark known (binary_expression operator left right) =
      node (expression_spot left) also expression_remark known left also expression_remark known right also
      operands_remark operator (expression_meant known left) (expression_spot left) (expression_meant known right) (expression_spot right)

  -- What is wrong with items for these components.
  pub items_remark : Known → Option (List PartForm) → Bool → Filling → ItemsTree → Remark
  items_remark known components is_named filling no_more_items = fine
  items_remark known components is_named filling (an_item label value rest) =
      (label_remark is_named label value also expression_remark known value also
      component_item_remark known.variables components filling label value (expression_meant known value)) also
      items_remark known components is_named (after_item components is_named filling label (expression_meant known value)) rest

-- What is wrong with an item for these components.
unfoldable pub item_remark : Known → Option (List PartForm) → Bool → Filling → Option Ident → ExpressionTree → Remark
item_remark known components is_named filling label value =
    label_remark is_named label value also expression_remark known value also
    component_item_remark known.variables components filling label value (expression_meant known value)

-- What is known after the items of an aggregate, looked at in order.
unfoldable pub filling_of : Known → Option (List PartForm) → ItemsTree → Filling
filling_of known components items = after_items known components (names_component items) (first_filling components) items

-- What is wrong with all items of an aggregate, whose type's name stands at the spot: an item, or how many items there are.
unfoldable pub all_items_remark : Known → Option (List PartForm) → ItemsTree → Spot → Remark
all_items_remark known components items spot =
    items_remark known components (names_component items) (first_filling components) items also
    count_remark (names_component items) (filling_of known components items) spot
