-- The phrases of an expression, with what stands inside one level of nesting more.

use Rattle.std.specs.Prelude.{◌≡◌, ℕ, List, ◌++◌, Option, Result, Ok, Err}
use Rattle.ada_text.specs.declared.word.Word.TheVariants as word
use Rattle.ada_text.specs.declared.delimiter.Delimiter.TheVariants as mark
use Rattle.ada_text.specs.Token.{Kind, reserved, delimiter}
use Rattle.ada_values.specs.declared.operator.BinaryOperator.{BinaryOperator}
use Rattle.ada_values.specs.declared.operator.BinaryOperator.TheVariants as binary
use Rattle.ada_tree.specs.declared.expressions.Expression.{Expression}
use Rattle.ada_tree.specs.Names.{Ident}
use Rattle.ada_tree.specs.Expressions.{ArgumentTree, ExpressionTree, ItemsTree, RightTree, binary_expression}
use Rattle.ada_tree.specs.ExpressionView.{argument_of, expression_of, item_of, optional_right_of, right_of}
use Rattle.ada_tree.specs.declared.expressions.Argument.{Argument}
use Rattle.ada_tree.specs.declared.expressions.Item.{Item}
use Rattle.ada_tree.specs.declared.expressions.Right.{Right}
use Rattle.std.specs.Global.{Box}
use Rattle.ada_reader.specs.declared.reader.Stop.{Stop}
use Rattle.ada_reader.specs.declared.reader.Stop.TheVariants.{NoMemory}
use Rattle.ada_reader.specs.Step.{Phrase, nothing, continued, mapped, both, after, all_of, identifier_at, opened, opening_in, chain, at}
use Rattle.ada_reader.specs.Operators.{first_word, again_at}
use Rattle.ada_phrases.specs.Boxes.{contents}
use Rattle.ada_phrases.specs.Expressions.{beside, enclosed_from, primary_led, primary_in, factor_in, term_in, first_term_in, sum_in, relation_in, behind_primary, expression_led, item_in, enclosed_items_in, items_from, attribute_from, inside}

-- The code builds an expression with this tree, out of memory aside.
abbrev pub Builds : ExpressionTree → Result (Box Expression) Stop → Type 0
Builds tree (Ok e) = expression_of e.value ≡ tree
Builds tree (Err stop) = stop ≡ NoMemory

-- The code builds an item with this tree, out of memory aside.
abbrev pub BuildsItem : Option Ident × ExpressionTree → Result (Box Item) Stop → Type 0
BuildsItem tree (Ok item) = item_of item.value ≡ tree
BuildsItem tree (Err stop) = stop ≡ NoMemory

-- The code builds a right side with this tree, out of memory aside.
abbrev pub BuildsRight : RightTree → Result (Box Right) Stop → Type 0
BuildsRight tree (Ok right) = right_of right.value ≡ tree
BuildsRight tree (Err stop) = stop ≡ NoMemory

-- The code builds an argument with this tree, out of memory aside.
abbrev pub BuildsArgument : ArgumentTree → Result (Box Argument) Stop → Type 0
BuildsArgument tree (Ok argument) = argument_of argument.value ≡ tree
BuildsArgument tree (Err stop) = stop ≡ NoMemory

-- A right side in a box, or none.
abbrev pub optional_right_in : Option (Box Right) → Option RightTree
optional_right_in found = optional_right_of (contents found)

-- `(A)`
unfoldable pub enclosed_at : ℕ → Phrase ExpressionTree
enclosed_at room =
    mapped enclosed_from (both (opening_in room (delimiter mark.LeftParenthesis))
    (both (inside room).expression (after (delimiter mark.RightParenthesis) nothing)))

-- `(1, C => null)`
abbrev pub enclosed_items_at : ℕ → Phrase ItemsTree
enclosed_items_at room = enclosed_items_in room (inside room).items

-- A primary whose identifier was read before.
abbrev pub primary_led_at : ℕ → Ident → Phrase ExpressionTree
primary_led_at room = primary_led room (inside room).items

-- A primary; `room` levels of nesting may be open inside.
abbrev pub primary_at : ℕ → Phrase ExpressionTree
primary_at room = primary_in room (inside room).expression (inside room).items

-- A factor.
abbrev pub factor_at : ℕ → Phrase ExpressionTree
factor_at room = factor_in room (inside room).expression (inside room).items

-- A term.
abbrev pub term_at : ℕ → Phrase ExpressionTree
term_at room = term_in room (inside room).expression (inside room).items

-- A term, perhaps behind a sign.
abbrev pub first_term_at : ℕ → Phrase ExpressionTree
first_term_at room = first_term_in room (inside room).expression (inside room).items

-- A sum.
abbrev pub sum_at : ℕ → Phrase ExpressionTree
sum_at room = sum_in room (inside room).expression (inside room).items

-- A relation.
abbrev pub relation_at : ℕ → Phrase ExpressionTree
relation_at room = relation_in room (inside room).expression (inside room).items

-- What stands behind the first primary of an expression.
abbrev pub behind_primary_at : ℕ → ExpressionTree → Phrase ExpressionTree
behind_primary_at room = behind_primary room (inside room).expression (inside room).items

-- An expression whose first identifier was read before.
abbrev pub expression_led_at : ℕ → Ident → Phrase ExpressionTree
expression_led_at room = expression_led room (inside room).expression (inside room).items

-- An item of an aggregate.
abbrev pub item_at : ℕ → Phrase (Option Ident × ExpressionTree)
item_at room = item_in room (inside room).expression (inside room).items

-- `, C => null`
abbrev pub next_item_at : ℕ → Phrase (Option Ident × ExpressionTree)
next_item_at room = after (delimiter mark.Comma) (item_at room)

-- The items behind those that were read before, as many as there are.
unfoldable pub more_items_at : ℕ → List (Option Ident × ExpressionTree) → Phrase ItemsTree
more_items_at room front = mapped items_from (mapped (λ more. front ++ more) (all_of (at (delimiter mark.Comma)) (next_item_at room)))

-- `Image (A + B)`, behind `Integer'`.
abbrev pub attribute_at : ℕ → Ident → Phrase ArgumentTree
attribute_at room prefix =
    mapped (attribute_from prefix) (both identifier_at (opened room (delimiter mark.LeftParenthesis)
    (both (inside room).expression (after (delimiter mark.RightParenthesis) nothing))))

-- A relation behind a logical operator, and then more relations, each with that operator before it.
unfoldable pub repeated_at : Phrase ExpressionTree → BinaryOperator → ExpressionTree → Phrase ExpressionTree
repeated_at relation operator left =
    continued relation (λ right. chain (at (first_word operator)) (again_at operator) relation beside (binary_expression operator left right))
