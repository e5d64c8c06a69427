-- What comes of an operator, as a function of its operands.

use Rattle.std.specs.Prelude.{ℤ, pos, neg_ℤ, ◌+ℤ◌, ◌-ℤ◌, ◌*ℤ◌, int_lt, int_le, int_div, int_rem, Bool, true, false, not, ◌&&◌, ◌||◌, cond, Result, Ok, Err}
use Rattle.std.specs.Ordering.{int_eq}
use Rattle.ada_values.specs.declared.operator.UnaryOperator.{UnaryOperator}
use Rattle.ada_values.specs.declared.operator.UnaryOperator.TheVariants as unary
use Rattle.ada_values.specs.declared.operator.BinaryOperator.{BinaryOperator}
use Rattle.ada_values.specs.declared.operator.BinaryOperator.TheVariants as binary
use Rattle.ada_values.specs.declared.value.Value.{Value}
use Rattle.ada_values.specs.declared.value.Value.TheVariants.{Integer, Boolean}
use Rattle.ada_values.specs.declared.fault.OperatorFault.{OperatorFault}
use Rattle.ada_values.specs.declared.fault.OperatorFault.TheVariants.{Overflow, DivisionByZero, WrongType}
use Rattle.ada_values.specs.Operators.{first_integer, last_integer}

-- An exact result, unless it is outside Integer's range (4.5).
abbrev pub unless_overflow : ℤ → Result Value OperatorFault
unless_overflow z = cond (int_le first_integer z && int_le z last_integer) (Ok (Integer z)) (Err Overflow)

-- What a division gives, unless the divisor is 0 (4.5.5).
abbrev pub unless_zero : ℤ → ℤ → Result Value OperatorFault
unless_zero b z = cond (int_eq b (pos 0)) (Err DivisionByZero) (unless_overflow z)

-- One of two numbers is below 0, and the other above it.
abbrev pub have_opposite_signs : ℤ → ℤ → Bool
have_opposite_signs a b = (int_lt a (pos 0) && int_lt (pos 0) b) || (int_lt (pos 0) a && int_lt b (pos 0))

-- `a mod b` (4.5.5): `a rem b`, or b more where that has the other sign.
abbrev pub modulus : ℤ → ℤ → ℤ
modulus a b = cond (have_opposite_signs (int_rem a b) b) (int_rem a b +ℤ b) (int_rem a b)

-- What comes of an operator on Integers (4.5.2, 4.5.3, 4.5.5).
abbrev pub outcome_of_integers : BinaryOperator → ℤ → ℤ → Result Value OperatorFault
outcome_of_integers binary.Add a b = unless_overflow (a +ℤ b)
outcome_of_integers binary.Subtract a b = unless_overflow (a -ℤ b)
outcome_of_integers binary.Multiply a b = unless_overflow (a *ℤ b)
outcome_of_integers binary.Divide a b = unless_zero b (int_div a b)
outcome_of_integers binary.Remainder a b = unless_zero b (int_rem a b)
outcome_of_integers binary.Modulo a b = unless_zero b (modulus a b)
outcome_of_integers binary.Equal a b = Ok (Boolean (int_eq a b))
outcome_of_integers binary.NotEqual a b = Ok (Boolean (not (int_eq a b)))
outcome_of_integers binary.Less a b = Ok (Boolean (int_lt a b))
outcome_of_integers binary.LessOrEqual a b = Ok (Boolean (int_le a b))
outcome_of_integers binary.Greater a b = Ok (Boolean (int_lt b a))
outcome_of_integers binary.GreaterOrEqual a b = Ok (Boolean (int_le b a))
outcome_of_integers _ a b = Err WrongType

-- Two truth values are the same.
abbrev pub is_same : Bool → Bool → Bool
is_same true b = b
is_same false b = not b

-- What comes of an operator on Booleans (4.5.1, 4.5.2).
abbrev pub outcome_of_booleans : BinaryOperator → Bool → Bool → Result Value OperatorFault
outcome_of_booleans binary.And a b = Ok (Boolean (a && b))
outcome_of_booleans binary.AndThen a b = Ok (Boolean (a && b))
outcome_of_booleans binary.Or a b = Ok (Boolean (a || b))
outcome_of_booleans binary.OrElse a b = Ok (Boolean (a || b))
outcome_of_booleans binary.Xor a b = Ok (Boolean (not (is_same a b)))
outcome_of_booleans binary.Equal a b = Ok (Boolean (is_same a b))
outcome_of_booleans binary.NotEqual a b = Ok (Boolean (not (is_same a b)))
outcome_of_booleans _ a b = Err WrongType

-- What comes of a binary operator (4.5): a value, or why there is none.
unfoldable pub outcome_of : BinaryOperator → Value → Value → Result Value OperatorFault
outcome_of operator (Integer a) (Integer b) = outcome_of_integers operator a b
outcome_of operator (Boolean a) (Boolean b) = outcome_of_booleans operator a b
outcome_of operator (Integer a) (Boolean b) = Err WrongType
outcome_of operator (Boolean a) (Integer b) = Err WrongType

-- What comes of a unary operator (4.5.4, 4.5.6): a value, or why there is none.
unfoldable pub unary_outcome_of : UnaryOperator → Value → Result Value OperatorFault
unary_outcome_of unary.Plus (Integer a) = Ok (Integer a)
unary_outcome_of unary.Minus (Integer a) = unless_overflow (neg_ℤ a)
unary_outcome_of unary.Not (Integer a) = Err WrongType
unary_outcome_of unary.Plus (Boolean a) = Err WrongType
unary_outcome_of unary.Minus (Boolean a) = Err WrongType
unary_outcome_of unary.Not (Boolean a) = Ok (Boolean (not a))
