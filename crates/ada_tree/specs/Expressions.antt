-- Expressions, right sides and arguments, and how they are written.

use Rattle.std.specs.Prelude.{ℕ, ◌-◌, Bool, false, ◌&&◌, ◌||◌, eqb, leb, List, [], ◌∷◌, ◌++◌, Option, Some, None}
use denote.Enum.Bare.{sameb}
use Rattle.ada_text.specs.declared.spot.Spot.{Spot}
use Rattle.ada_text.specs.declared.word.Word.TheVariants as word
use Rattle.ada_text.specs.declared.delimiter.Delimiter.TheVariants as mark
use Rattle.ada_text.specs.Token.{Kind, number, string, reserved, delimiter}
use Rattle.ada_values.specs.declared.operator.UnaryOperator.{UnaryOperator}
use Rattle.ada_values.specs.declared.operator.UnaryOperator.TheVariants as unary
use Rattle.ada_values.specs.declared.operator.BinaryOperator.{BinaryOperator}
use Rattle.ada_values.specs.declared.operator.BinaryOperator.TheVariants as binary
use Rattle.ada_values.specs.contracts.operator.BinaryOperator.{the_type as operators}
use Rattle.ada_tree.specs.Piece.{Piece, anywhere, placed, never, opening, opening_at, guarded}
use Rattle.ada_tree.specs.Names.{Ident, PathTree, is_name, ident_pieces, path_pieces}

mutual
  -- An expression (4.4).
  pub data ExpressionTree : Type 0 where
    number_expression : Spot → ℕ → ExpressionTree
    null_expression : Spot → ExpressionTree
    path_expression : PathTree → ExpressionTree
    aggregate_expression : Ident → ItemsTree → ExpressionTree
    enclosed_expression : Spot → ExpressionTree → ExpressionTree
    unary_expression : UnaryOperator → Spot → ExpressionTree → ExpressionTree
    binary_expression : BinaryOperator → ExpressionTree → ExpressionTree → ExpressionTree

  -- The items of an aggregate, each perhaps with the component that it is for (4.3.1).
  pub data ItemsTree : Type 0 where
    no_more_items : ItemsTree
    an_item : Option Ident → ExpressionTree → ItemsTree → ItemsTree

-- What stands on the right of `:=`; without items an allocator has no aggregate (4.8, 5.2, 13.11.4).
pub data RightTree : Type 0 where
  expression_right : ExpressionTree → RightTree
  allocator_right : Spot → Option Ident → Ident → ItemsTree → RightTree
  creation_right : PathTree → Ident → RightTree

-- The actual of a call (3.5, 6.4).
pub data ArgumentTree : Type 0 where
  expression_argument : ExpressionTree → ArgumentTree
  text_argument : Spot → List ℕ → ArgumentTree
  attribute_argument : Ident → Ident → ExpressionTree → ArgumentTree

-- How strongly an operator binds: the phrases of the grammar, each made of those above it (4.4).
pub data Rank : Type 0 where
  primary : Rank
  factor : Rank
  term : Rank
  sum : Rank
  relation : Rank
  logical : Rank

-- The phrases in order: those that bind most strongly first.
abbrev pub number_of : Rank → ℕ
number_of primary = 0
number_of factor = 1
number_of term = 2
number_of sum = 3
number_of relation = 4
number_of logical = 5

-- Which phrase a binary operator makes (4.5).
abbrev pub binary_rank : BinaryOperator → Rank
binary_rank binary.And = logical
binary_rank binary.Or = logical
binary_rank binary.Xor = logical
binary_rank binary.AndThen = logical
binary_rank binary.OrElse = logical
binary_rank binary.Equal = relation
binary_rank binary.NotEqual = relation
binary_rank binary.Less = relation
binary_rank binary.LessOrEqual = relation
binary_rank binary.Greater = relation
binary_rank binary.GreaterOrEqual = relation
binary_rank binary.Add = sum
binary_rank binary.Subtract = sum
binary_rank binary.Multiply = term
binary_rank binary.Divide = term
binary_rank binary.Modulo = term
binary_rank binary.Remainder = term

-- Which phrase a unary operator makes (4.5.4, 4.5.6).
abbrev pub unary_rank : UnaryOperator → Rank
unary_rank unary.Plus = sum
unary_rank unary.Minus = sum
unary_rank unary.Not = factor

-- Which phrase an expression is, by its outermost operator.
abbrev pub rank_of : ExpressionTree → Rank
rank_of (unary_expression operator spot operand) = unary_rank operator
rank_of (binary_expression operator left right) = binary_rank operator
rank_of _ = primary

-- Whether an expression may stand without parentheses where the grammar wants a phrase of this rank.
abbrev pub is_at_most : Rank → ExpressionTree → Bool
is_at_most rank e = leb (number_of (rank_of e)) (number_of rank)

-- The phrase that is wanted on the left of an operator of this one.
abbrev pub left_rank : Rank → Rank
left_rank term = term
left_rank sum = sum
left_rank relation = sum
left_rank logical = relation
left_rank _ = primary

-- The phrase that is wanted on its right.
abbrev pub right_rank : Rank → Rank
right_rank term = factor
right_rank sum = term
right_rank relation = sum
right_rank logical = relation
right_rank _ = primary

-- The phrase that is wanted behind a unary operator.
abbrev pub operand_rank : UnaryOperator → Rank
operand_rank unary.Plus = term
operand_rank unary.Minus = term
operand_rank unary.Not = primary

-- Whether an expression is made by this very operator, where that is a logical one: they repeat one operator (4.4).
abbrev pub repeats : BinaryOperator → ExpressionTree → Bool
repeats operator (binary_expression other left right) = eqb (number_of (binary_rank operator)) (number_of logical) && sameb operators other operator
repeats operator _ = false

-- Whether the operands may stand beside the operator, with no parentheses.
abbrev pub joins : BinaryOperator → ExpressionTree → ExpressionTree → Bool
joins operator left right =
    (is_at_most (left_rank (binary_rank operator)) left || repeats operator left) && is_at_most (right_rank (binary_rank operator)) right

-- How an operator is written.

-- How a unary operator is written.
abbrev pub unary_kind : UnaryOperator → Kind
unary_kind unary.Plus = delimiter mark.Plus
unary_kind unary.Minus = delimiter mark.Minus
unary_kind unary.Not = reserved word.Not

-- How a binary operator is written.
abbrev pub binary_pieces : BinaryOperator → List Piece
binary_pieces binary.And = anywhere (reserved word.And) ∷ []
binary_pieces binary.Or = anywhere (reserved word.Or) ∷ []
binary_pieces binary.Xor = anywhere (reserved word.Xor) ∷ []
binary_pieces binary.AndThen = anywhere (reserved word.And) ∷ anywhere (reserved word.Then) ∷ []
binary_pieces binary.OrElse = anywhere (reserved word.Or) ∷ anywhere (reserved word.Else) ∷ []
binary_pieces binary.Equal = anywhere (delimiter mark.Equal) ∷ []
binary_pieces binary.NotEqual = anywhere (delimiter mark.NotEqual) ∷ []
binary_pieces binary.Less = anywhere (delimiter mark.Less) ∷ []
binary_pieces binary.LessOrEqual = anywhere (delimiter mark.LessEqual) ∷ []
binary_pieces binary.Greater = anywhere (delimiter mark.Greater) ∷ []
binary_pieces binary.GreaterOrEqual = anywhere (delimiter mark.GreaterEqual) ∷ []
binary_pieces binary.Add = anywhere (delimiter mark.Plus) ∷ []
binary_pieces binary.Subtract = anywhere (delimiter mark.Minus) ∷ []
binary_pieces binary.Multiply = anywhere (delimiter mark.Star) ∷ []
binary_pieces binary.Divide = anywhere (delimiter mark.Slash) ∷ []
binary_pieces binary.Modulo = anywhere (reserved word.Mod) ∷ []
binary_pieces binary.Remainder = anywhere (reserved word.Rem) ∷ []

-- `C =>`, or nothing
abbrev pub label_pieces : Option Ident → List Piece
label_pieces None = []
label_pieces (Some i) = ident_pieces i ++ anywhere (delimiter mark.Arrow) ∷ []

-- How each is written; `room` levels of nesting may be open inside.

abbrev mutual
  -- `1`, `null`, `A.B`, `T'(1, null)`, `(A)`, `- A` or `A + B`
  pub expression_pieces : ℕ → ExpressionTree → List Piece
  expression_pieces room (number_expression spot n) = placed (number n) spot ∷ []
  expression_pieces room (null_expression spot) = placed (reserved word.Null) spot ∷ []
  expression_pieces room (path_expression path) = path_pieces path
  expression_pieces room (aggregate_expression type_name items) =
      ident_pieces type_name ++ anywhere (delimiter mark.Tick) ∷ opening room (delimiter mark.LeftParenthesis) ∷
      items_pieces (room - 1) items ++ anywhere (delimiter mark.RightParenthesis) ∷ []
  expression_pieces room (enclosed_expression spot inner) =
      opening_at room (delimiter mark.LeftParenthesis) spot ∷ expression_pieces (room - 1) inner ++
      anywhere (delimiter mark.RightParenthesis) ∷ []
  expression_pieces room (unary_expression operator spot operand) =
      guarded (is_at_most (operand_rank operator) operand) (placed (unary_kind operator) spot ∷ expression_pieces room operand)
  expression_pieces room (binary_expression operator left right) =
      guarded (joins operator left right) (expression_pieces room left ++ binary_pieces operator ++ expression_pieces room right)

  -- `1, C => null`: one item or more
  pub items_pieces : ℕ → ItemsTree → List Piece
  items_pieces room no_more_items = never ∷ []
  items_pieces room (an_item label value rest) = label_pieces label ++ expression_pieces room value ++ more_items_pieces room rest

  -- `, C => null`: as many as there are
  pub more_items_pieces : ℕ → ItemsTree → List Piece
  more_items_pieces room no_more_items = []
  more_items_pieces room (an_item label value rest) =
      anywhere (delimiter mark.Comma) ∷ label_pieces label ++ expression_pieces room value ++ more_items_pieces room rest

-- `'(1, null)`, or nothing
abbrev pub aggregate_pieces : ℕ → ItemsTree → List Piece
aggregate_pieces room no_more_items = []
aggregate_pieces room (an_item label value rest) =
    anywhere (delimiter mark.Tick) ∷ opening room (delimiter mark.LeftParenthesis) ∷
    items_pieces (room - 1) (an_item label value rest) ++ anywhere (delimiter mark.RightParenthesis) ∷ []

-- `(H)`, or nothing
abbrev pub handle_pieces : ℕ → Option Ident → List Piece
handle_pieces room None = []
handle_pieces room (Some i) =
    opening room (delimiter mark.LeftParenthesis) ∷ ident_pieces i ++ anywhere (delimiter mark.RightParenthesis) ∷ []

-- an expression, `new (H) T'(..)` or `Create (P)`
abbrev pub right_pieces : ℕ → RightTree → List Piece
right_pieces room (expression_right e) = expression_pieces room e
right_pieces room (allocator_right spot handle type_name items) =
    placed (reserved word.New) spot ∷ handle_pieces room handle ++ ident_pieces type_name ++ aggregate_pieces room items
right_pieces room (creation_right function argument) =
    guarded (is_name function.selectors) (path_pieces function ++ opening room (delimiter mark.LeftParenthesis) ∷
    ident_pieces argument ++ anywhere (delimiter mark.RightParenthesis) ∷ [])

-- `:= ..`, or nothing
abbrev pub initial_pieces : ℕ → Option RightTree → List Piece
initial_pieces room None = []
initial_pieces room (Some r) = anywhere (delimiter mark.Assign) ∷ right_pieces room r

-- an expression, `"text"` or `Integer'Image (A + B)`
abbrev pub argument_pieces : ℕ → ArgumentTree → List Piece
argument_pieces room (expression_argument e) = expression_pieces room e
argument_pieces room (text_argument spot bytes) = placed (string bytes) spot ∷ []
argument_pieces room (attribute_argument prefix attribute value) =
    ident_pieces prefix ++ anywhere (delimiter mark.Tick) ∷ ident_pieces attribute ++
    opening room (delimiter mark.LeftParenthesis) ∷ expression_pieces (room - 1) value ++
    anywhere (delimiter mark.RightParenthesis) ∷ []
