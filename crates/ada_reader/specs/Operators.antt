-- Operators (4.5).

use Rattle.std.specs.Prelude.{◌||◌, Bool, List}
use Rattle.ada_text.specs.declared.spot.Spot.{Spot}
use Rattle.ada_text.specs.declared.word.Word.TheVariants as word
use Rattle.ada_text.specs.declared.delimiter.Delimiter.TheVariants as mark
use Rattle.ada_text.specs.Token.{Kind, reserved, delimiter, Lexeme}
use Rattle.ada_values.specs.declared.operator.UnaryOperator.{UnaryOperator}
use Rattle.ada_values.specs.declared.operator.UnaryOperator.TheVariants as unary
use Rattle.ada_values.specs.declared.operator.BinaryOperator.{BinaryOperator}
use Rattle.ada_values.specs.declared.operator.BinaryOperator.TheVariants as binary
use Rattle.ada_reader.specs.Step.{Phrase, fixed, mapped, after, choose, at}

-- Whether an operator that multiplies is next (4.5.5).
abbrev pub at_multiplying : List Lexeme → Bool
at_multiplying ts = at (delimiter mark.Star) ts || at (delimiter mark.Slash) ts || at (reserved word.Mod) ts || at (reserved word.Rem) ts

-- An operator of its kind: that it stands there is all that counts.
abbrev pub operator_at : Kind → BinaryOperator → Phrase BinaryOperator
operator_at k operator = mapped (λ _. operator) (fixed k)

-- An operator that multiplies.
unfoldable pub multiplying_at : Phrase BinaryOperator
multiplying_at =
    choose (at (delimiter mark.Star)) (operator_at (delimiter mark.Star) binary.Multiply)
    (choose (at (delimiter mark.Slash)) (operator_at (delimiter mark.Slash) binary.Divide)
    (choose (at (reserved word.Mod)) (operator_at (reserved word.Mod) binary.Modulo) (operator_at (reserved word.Rem) binary.Remainder)))

-- Whether an operator that adds is next (4.5.3).
abbrev pub at_adding : List Lexeme → Bool
at_adding ts = at (delimiter mark.Plus) ts || at (delimiter mark.Minus) ts

-- An operator that adds.
unfoldable pub adding_at : Phrase BinaryOperator
adding_at =
    choose (at (delimiter mark.Plus)) (operator_at (delimiter mark.Plus) binary.Add) (operator_at (delimiter mark.Minus) binary.Subtract)

-- Whether an operator that compares is next (4.5.2).
abbrev pub at_comparing : List Lexeme → Bool
at_comparing ts =
    at (delimiter mark.Equal) ts || at (delimiter mark.NotEqual) ts || at (delimiter mark.Less) ts ||
    at (delimiter mark.LessEqual) ts || at (delimiter mark.Greater) ts || at (delimiter mark.GreaterEqual) ts

-- An operator that compares.
unfoldable pub comparing_at : Phrase BinaryOperator
comparing_at =
    choose (at (delimiter mark.Equal)) (operator_at (delimiter mark.Equal) binary.Equal)
    (choose (at (delimiter mark.NotEqual)) (operator_at (delimiter mark.NotEqual) binary.NotEqual)
    (choose (at (delimiter mark.Less)) (operator_at (delimiter mark.Less) binary.Less)
    (choose (at (delimiter mark.LessEqual)) (operator_at (delimiter mark.LessEqual) binary.LessOrEqual)
    (choose (at (delimiter mark.Greater)) (operator_at (delimiter mark.Greater) binary.Greater)
    (operator_at (delimiter mark.GreaterEqual) binary.GreaterOrEqual)))))

-- `+` or `-`, and where it stands.
unfoldable pub sign_at : Phrase (UnaryOperator × Spot)
sign_at =
    choose (at (delimiter mark.Plus)) (mapped (λ spot. (unary.Plus, spot)) (fixed (delimiter mark.Plus)))
    (mapped (λ spot. (unary.Minus, spot)) (fixed (delimiter mark.Minus)))

-- The word that a logical operator begins with.
abbrev pub first_word : BinaryOperator → Kind
first_word binary.And = reserved word.And
first_word binary.AndThen = reserved word.And
first_word binary.Or = reserved word.Or
first_word binary.OrElse = reserved word.Or
first_word _ = reserved word.Xor

-- A logical operator that stood before.
unfoldable pub again_at : BinaryOperator → Phrase BinaryOperator
again_at binary.And = operator_at (reserved word.And) binary.And
again_at binary.AndThen = after (reserved word.And) (operator_at (reserved word.Then) binary.AndThen)
again_at binary.Or = operator_at (reserved word.Or) binary.Or
again_at binary.OrElse = after (reserved word.Or) (operator_at (reserved word.Else) binary.OrElse)
again_at operator = operator_at (reserved word.Xor) operator
