-- Reading names, expressions, right sides and arguments.

use Rattle.std.specs.Prelude.{ℕ, zero, suc, Bool, true, false, ◌||◌, List, [], ◌∷◌, Option, Some, None, Err}
use Rattle.ada_text.specs.declared.spot.Spot.{Spot}
use Rattle.ada_text.specs.declared.word.Word.TheVariants as word
use Rattle.ada_text.specs.declared.delimiter.Delimiter.TheVariants as mark
use Rattle.ada_text.specs.Token.{Kind, reserved, delimiter, Lexeme}
use Rattle.ada_values.specs.declared.operator.UnaryOperator.{UnaryOperator}
use Rattle.ada_values.specs.declared.operator.UnaryOperator.TheVariants as unary
use Rattle.ada_values.specs.declared.operator.BinaryOperator.{BinaryOperator}
use Rattle.ada_values.specs.declared.operator.BinaryOperator.TheVariants as binary
use Rattle.ada_tree.specs.Names.{Ident, NameTree, SelectorTree, component, dereference, PathTree, is_name}
use Rattle.ada_tree.specs.Expressions.{ExpressionTree, number_expression, null_expression, path_expression, aggregate_expression, enclosed_expression, unary_expression, binary_expression, ItemsTree, no_more_items, an_item, RightTree, expression_right, allocator_right, creation_right, ArgumentTree, expression_argument, text_argument, attribute_argument}
use Rattle.ada_reader.specs.Step.{Phrase, here, is_identifier, is_number, is_string, is_at, fixed, identifier_at, number_at, string_at, nothing, continued, mapped, both, after, choose, all_of, opened, opening_in, chain, at}
use Rattle.ada_reader.specs.Operators.{at_multiplying, operator_at, multiplying_at, at_adding, adding_at, at_comparing, comparing_at, sign_at}

-- Names and paths.

-- `.B`
unfoldable pub part_at : Phrase Ident
part_at = after (delimiter mark.Dot) identifier_at

-- A name of its parts.
abbrev pub name_from : Ident × List Ident → NameTree
name_from x = record { first = x.0; rest = x.1 }

-- `A.B.C`
unfoldable pub name_at : Phrase NameTree
name_at = mapped name_from (both identifier_at (all_of (at (delimiter mark.Dot)) part_at))

-- `.B` or `.all`
unfoldable pub selector_at : Phrase SelectorTree
selector_at =
    after (delimiter mark.Dot)
    (choose (at (reserved word.All)) (mapped dereference (fixed (reserved word.All))) (mapped component identifier_at))

-- What is selected behind a root, one by one.
unfoldable pub selectors_at : Phrase (List SelectorTree)
selectors_at = all_of (at (delimiter mark.Dot)) selector_at

-- A path of its root and what is selected behind it.
abbrev pub path_from : Ident → List SelectorTree → PathTree
path_from root selectors = record { root = root; selectors = selectors }

-- A path whose root was read before.
unfoldable pub path_led : Ident → Phrase PathTree
path_led root = mapped (path_from root) selectors_at

-- Items.

-- The items of a list.
abbrev pub items_from : List (Option Ident × ExpressionTree) → ItemsTree
items_from [] = no_more_items
items_from (x ∷ xs) = an_item x.0 x.1 (items_from xs)

-- One item or more, of the first and the others.
abbrev pub all_items_from : (Option Ident × ExpressionTree) × (List (Option Ident × ExpressionTree) × Unit {0}) → ItemsTree
all_items_from x = an_item x.0.0 x.0.1 (items_from x.1.0)

-- An item of a label and a value.
abbrev pub labelled : Ident → ExpressionTree → Option Ident × ExpressionTree
labelled label value = (Some label, value)

-- An item of a value alone.
abbrev pub positional : ExpressionTree → Option Ident × ExpressionTree
positional value = (None, value)

-- An operator beside its operands.
abbrev pub beside : ExpressionTree → BinaryOperator → ExpressionTree → ExpressionTree
beside left operator right = binary_expression operator left right

-- Signs and `not`, before their operand.

-- A signed expression of its parts.
abbrev pub signed_from : (UnaryOperator × Spot) × ExpressionTree → ExpressionTree
signed_from x = unary_expression x.0.0 x.0.1 x.1

-- A negated expression of its parts.
abbrev pub not_from : Spot × ExpressionTree → ExpressionTree
not_from x = unary_expression unary.Not x.0 x.1

-- A number of its value and its spot.
abbrev pub number_from_parts : ℕ × Spot → ExpressionTree
number_from_parts x = number_expression x.1 x.0

-- An expression in parentheses, of its parts.
abbrev pub enclosed_from : Spot × (ExpressionTree × Unit {0}) → ExpressionTree
enclosed_from x = enclosed_expression x.0 x.1.0

-- The phrases of an expression, of those that stand one level of nesting further inside; `room` levels may be open inside.

-- what cannot be read: no token may stand there
abbrev pub refuses : {A : Type 0} → Phrase A
refuses ts = Err (here ts)

-- What stands behind a term.
unfoldable pub term_from : Phrase ExpressionTree → ExpressionTree → Phrase ExpressionTree
term_from factor first = chain at_multiplying multiplying_at factor beside first

-- What stands behind the first term of a sum.
unfoldable pub sum_from : Phrase ExpressionTree → ExpressionTree → Phrase ExpressionTree
sum_from term first = chain at_adding adding_at term beside first

-- What stands behind the first sum of a relation.
unfoldable pub relation_from : Phrase ExpressionTree → ExpressionTree → Phrase ExpressionTree
relation_from sum left =
    choose at_comparing (continued comparing_at (λ operator. mapped (λ right. binary_expression operator left right) sum))
    (mapped (λ _. left) nothing)

-- A relation behind one that was read, and then as many as there are with this operator before them.
abbrev pub repeated_from : Kind → BinaryOperator → Phrase ExpressionTree → ExpressionTree → Phrase ExpressionTree
repeated_from k operator relation left =
    continued relation (λ right. chain (at k) (operator_at k operator) relation beside (binary_expression operator left right))

-- A relation behind a logical operator of two words, of which the first was read, and then more relations with that operator before each.
abbrev pub short_from : Kind → Kind → BinaryOperator → Phrase ExpressionTree → ExpressionTree → Phrase ExpressionTree
short_from k second operator relation left =
    after second (continued relation
    (λ right. chain (at k) (after k (operator_at second operator)) relation beside (binary_expression operator left right)))

-- What stands behind the first relation of an expression: one operator, repeated.
unfoldable pub logical_from : Phrase ExpressionTree → ExpressionTree → Phrase ExpressionTree
logical_from relation left =
    choose (at (reserved word.And))
    (after (reserved word.And) (choose (at (reserved word.Then))
    (short_from (reserved word.And) (reserved word.Then) binary.AndThen relation left)
    (repeated_from (reserved word.And) binary.And relation left)))
    (choose (at (reserved word.Or))
    (after (reserved word.Or) (choose (at (reserved word.Else))
    (short_from (reserved word.Or) (reserved word.Else) binary.OrElse relation left)
    (repeated_from (reserved word.Or) binary.Or relation left)))
    (choose (at (reserved word.Xor)) (after (reserved word.Xor) (repeated_from (reserved word.Xor) binary.Xor relation left))
    (mapped (λ _. left) nothing)))

-- `(1, C => null)`, of the items inside.
unfoldable pub enclosed_items_in : ℕ → Phrase ItemsTree → Phrase ItemsTree
enclosed_items_in room items = opened room (delimiter mark.LeftParenthesis) (mapped (λ (x : ItemsTree × Unit {0}). x.0) (both items (after (delimiter mark.RightParenthesis) nothing)))

-- A primary that begins with an identifier: an aggregate or a path.
unfoldable pub primary_led : ℕ → Phrase ItemsTree → Ident → Phrase ExpressionTree
primary_led room items first =
    choose (at (delimiter mark.Tick))
    (after (delimiter mark.Tick) (mapped (aggregate_expression first) (enclosed_items_in room items)))
    (mapped path_expression (path_led first))

-- A number, `null`, an expression in parentheses, an aggregate or a path; of the expression and the items inside.
unfoldable pub primary_in : ℕ → Phrase ExpressionTree → Phrase ItemsTree → Phrase ExpressionTree
primary_in room inside items =
    choose (is_at is_number) (mapped number_from_parts number_at)
    (choose (at (reserved word.Null)) (mapped null_expression (fixed (reserved word.Null)))
    (choose (at (delimiter mark.LeftParenthesis))
    (mapped enclosed_from (both (opening_in room (delimiter mark.LeftParenthesis)) (both inside (after (delimiter mark.RightParenthesis) nothing))))
    (continued identifier_at (primary_led room items))))

-- A primary, perhaps behind `not`.
unfoldable pub factor_in : ℕ → Phrase ExpressionTree → Phrase ItemsTree → Phrase ExpressionTree
factor_in room inside items =
    choose (at (reserved word.Not)) (mapped not_from (both (fixed (reserved word.Not)) (primary_in room inside items)))
    (primary_in room inside items)

-- Factors with operators that multiply between them.
unfoldable pub term_in : ℕ → Phrase ExpressionTree → Phrase ItemsTree → Phrase ExpressionTree
term_in room inside items = continued (factor_in room inside items) (term_from (factor_in room inside items))

-- A term, perhaps behind a sign.
unfoldable pub first_term_in : ℕ → Phrase ExpressionTree → Phrase ItemsTree → Phrase ExpressionTree
first_term_in room inside items =
    choose at_adding (mapped signed_from (both sign_at (term_in room inside items))) (term_in room inside items)

-- Terms with operators that add between them.
unfoldable pub sum_in : ℕ → Phrase ExpressionTree → Phrase ItemsTree → Phrase ExpressionTree
sum_in room inside items = continued (first_term_in room inside items) (sum_from (term_in room inside items))

-- One sum, or two that are compared.
unfoldable pub relation_in : ℕ → Phrase ExpressionTree → Phrase ItemsTree → Phrase ExpressionTree
relation_in room inside items = continued (sum_in room inside items) (relation_from (sum_in room inside items))

-- Relations with one logical operator between them.
unfoldable pub expression_in : ℕ → Phrase ExpressionTree → Phrase ItemsTree → Phrase ExpressionTree
expression_in room inside items = continued (relation_in room inside items) (logical_from (relation_in room inside items))

-- What stands behind the first primary of an expression.
unfoldable pub behind_primary : ℕ → Phrase ExpressionTree → Phrase ItemsTree → ExpressionTree → Phrase ExpressionTree
behind_primary room inside items first =
    continued (continued (continued (term_from (factor_in room inside items) first) (sum_from (term_in room inside items)))
    (relation_from (sum_in room inside items))) (logical_from (relation_in room inside items))

-- An expression that begins with an identifier.
unfoldable pub expression_led : ℕ → Phrase ExpressionTree → Phrase ItemsTree → Ident → Phrase ExpressionTree
expression_led room inside items first = continued (primary_led room items first) (behind_primary room inside items)

-- An item: an expression, perhaps behind `C =>`.
unfoldable pub item_in : ℕ → Phrase ExpressionTree → Phrase ItemsTree → Phrase (Option Ident × ExpressionTree)
item_in room inside items =
    choose (is_at is_identifier)
    (continued identifier_at (λ first. choose (at (delimiter mark.Arrow))
    (mapped (labelled first) (after (delimiter mark.Arrow) (expression_in room inside items)))
    (mapped positional (expression_led room inside items first))))
    (mapped positional (expression_in room inside items))

-- One item or more, with commas between them.
unfoldable pub items_in : ℕ → Phrase ExpressionTree → Phrase ItemsTree → Phrase ItemsTree
items_in room inside items =
    mapped all_items_from (both (item_in room inside items)
    (both (all_of (at (delimiter mark.Comma)) (after (delimiter mark.Comma) (item_in room inside items))) nothing))

-- Expressions and items inside one level of nesting.
pub record Inside : Type 0 where
  pub expression : Phrase ExpressionTree
  pub items : Phrase ItemsTree

-- What stands inside a level of nesting, of which this many may be open at once; where none may be, nothing stands inside.
unfoldable pub inside : ℕ → Inside
inside zero = record { expression = refuses; items = refuses }
inside (suc room) = record {
  expression = expression_in room (inside room).expression (inside room).items;
  items = items_in room (inside room).expression (inside room).items;
}

-- An expression (4.4).
unfoldable pub expression_at : ℕ → Phrase ExpressionTree
expression_at room = expression_in room (inside room).expression (inside room).items

-- The items of an aggregate, without its parentheses (4.3.1).
unfoldable pub items_at : ℕ → Phrase ItemsTree
items_at room = items_in room (inside room).expression (inside room).items

-- Right sides.

-- `'(1, null)`, or nothing.
unfoldable pub aggregate_at : ℕ → Phrase ItemsTree
aggregate_at room =
    choose (at (delimiter mark.Tick)) (after (delimiter mark.Tick) (enclosed_items_in room (inside room).items))
    (mapped (λ _. no_more_items) nothing)

-- `(H)`: an identifier in parentheses.
unfoldable pub enclosed_identifier_at : ℕ → Phrase Ident
enclosed_identifier_at room =
    opened room (delimiter mark.LeftParenthesis) (mapped (λ (x : Ident × Unit {0}). x.0) (both identifier_at (after (delimiter mark.RightParenthesis) nothing)))

-- `(H)`, or nothing.
unfoldable pub handle_at : ℕ → Phrase (Option Ident)
handle_at room = choose (at (delimiter mark.LeftParenthesis)) (mapped Some (enclosed_identifier_at room)) (mapped (λ _. None) nothing)

-- An allocator of its parts.
abbrev pub allocator_from : Spot × (Option Ident × (Ident × ItemsTree)) → RightTree
allocator_from x = allocator_right x.0 x.1.0 x.1.1.0 x.1.1.1

-- `new (H) T'(1, null)`
unfoldable pub allocator_at : ℕ → Phrase RightTree
allocator_at room = mapped allocator_from (both (fixed (reserved word.New)) (both (handle_at room) (both identifier_at (aggregate_at room))))

-- A creation of its parts.
abbrev pub creation_from : PathTree → Ident → RightTree
creation_from function argument = creation_right function argument

-- What stands behind a path on the right: its argument in parentheses, if it is a name and they are next; else the rest of an expression.
abbrev pub behind_path : ℕ → PathTree → Bool → Phrase RightTree
behind_path room path true =
    choose (at (delimiter mark.LeftParenthesis)) (mapped (creation_from path) (enclosed_identifier_at room))
    (mapped expression_right (behind_primary room (inside room).expression (inside room).items (path_expression path)))
behind_path room path false =
    mapped expression_right (behind_primary room (inside room).expression (inside room).items (path_expression path))

-- A right side that begins with an identifier.
unfoldable pub right_led : ℕ → Ident → Phrase RightTree
right_led room first =
    choose (at (delimiter mark.Tick))
    (mapped expression_right (expression_led room (inside room).expression (inside room).items first))
    (continued (path_led first) (λ path. behind_path room path (is_name path.selectors)))

-- An allocator, a creation or an expression (4.8, 5.2).
unfoldable pub right_at : ℕ → Phrase RightTree
right_at room =
    choose (at (reserved word.New)) (allocator_at room)
    (choose (is_at is_identifier) (continued identifier_at (right_led room)) (mapped expression_right (expression_at room)))

-- `:= ..`, or nothing.
unfoldable pub initial_at : ℕ → Phrase (Option RightTree)
initial_at room =
    choose (at (delimiter mark.Assign)) (mapped Some (after (delimiter mark.Assign) (right_at room))) (mapped (λ _. None) nothing)

-- Arguments.

-- A string of its bytes and its spot.
abbrev pub text_from : List ℕ × Spot → ArgumentTree
text_from x = text_argument x.1 x.0

-- An attribute of its parts.
abbrev pub attribute_from : Ident → Ident × (ExpressionTree × Unit {0}) → ArgumentTree
attribute_from prefix x = attribute_argument prefix x.0 x.1.0

-- What stands behind `T'` as an argument: an attribute, or an aggregate and the rest of an expression.
unfoldable pub behind_tick : ℕ → Ident → Phrase ArgumentTree
behind_tick room first =
    choose (is_at is_identifier)
    (mapped (attribute_from first) (both identifier_at (opened room (delimiter mark.LeftParenthesis)
    (both (inside room).expression (after (delimiter mark.RightParenthesis) nothing)))))
    (mapped expression_argument (continued (mapped (aggregate_expression first) (enclosed_items_in room (inside room).items))
    (behind_primary room (inside room).expression (inside room).items)))

-- An argument that begins with an identifier.
unfoldable pub argument_led : ℕ → Ident → Phrase ArgumentTree
argument_led room first =
    choose (at (delimiter mark.Tick)) (after (delimiter mark.Tick) (behind_tick room first))
    (mapped expression_argument (continued (mapped path_expression (path_led first))
    (behind_primary room (inside room).expression (inside room).items)))

-- A string, an attribute or an expression (6.4).
unfoldable pub argument_at : ℕ → Phrase ArgumentTree
argument_at room =
    choose (is_at is_string) (mapped text_from string_at)
    (choose (is_at is_identifier) (continued identifier_at (argument_led room)) (mapped expression_argument (expression_at room)))
