-- What the predefined operators give (4.5), on the integers ℤ and on truth values.

use Rattle.std.specs.Prelude.{◌≡◌, ◌≢◌, ◌<◌, ◌^◌, ◌-◌, ◌↔◌, ◌⊎◌, ℤ, pos, neg_ℤ, ◌+ℤ◌, ◌-ℤ◌, ◌*ℤ◌, ◌≤ℤ◌, ◌<ℤ◌, unsigned_abs, Bool, true, false, IsTrue, Result, Ok, Err}
use Rattle.ada_values.specs.declared.operator.UnaryOperator.{UnaryOperator}
use Rattle.ada_values.specs.declared.operator.UnaryOperator.TheVariants as unary
use Rattle.ada_values.specs.declared.operator.BinaryOperator.{BinaryOperator}
use Rattle.ada_values.specs.declared.operator.BinaryOperator.TheVariants as binary
use Rattle.ada_values.specs.declared.value.Value.{Value}
use Rattle.ada_values.specs.declared.value.Value.TheVariants.{Integer, Boolean}
use Rattle.ada_values.specs.declared.fault.OperatorFault.{OperatorFault}
use Rattle.ada_values.specs.declared.fault.OperatorFault.TheVariants.{Overflow, DivisionByZero, WrongType}

-- The first Integer, -2^31 (3.5.4).
abbrev pub first_integer : ℤ
first_integer = neg_ℤ (pos (2 ^ 31))

-- The last Integer, 2^31 - 1 (3.5.4).
abbrev pub last_integer : ℤ
last_integer = pos (2 ^ 31 - 1)

-- A number is in Integer's range (3.5.4).
abbrev pub IsInRange : ℤ → Type 0
IsInRange z = (first_integer ≤ℤ z) × (z ≤ℤ last_integer)

-- r has the sign of s, or is 0.
abbrev pub HasSign : ℤ → ℤ → Type 0
HasSign r s = (pos 0 ≤ℤ s → pos 0 ≤ℤ r) × (s ≤ℤ pos 0 → r ≤ℤ pos 0)

-- One of two numbers is below 0, and the other above it.
abbrev pub HaveOppositeSigns : ℤ → ℤ → Type 0
HaveOppositeSigns a b = ((a <ℤ pos 0) × (pos 0 <ℤ b)) ⊎ ((pos 0 <ℤ a) × (b <ℤ pos 0))

-- a is n times b and r more, where r is less than b in absolute value and has the sign of s, or is 0.
pub record IsSplit (a b n r s : ℤ) : Type 0 where
  pub whole : a ≡ n *ℤ b +ℤ r
  pub small : unsigned_abs r < unsigned_abs b
  pub sign : HasSign r s

-- q is `a / b`: a is q times b and a remainder more, which has the sign of a (4.5.5).
abbrev pub IsQuotient : ℤ → ℤ → ℤ → Type 0
IsQuotient a b q = (r : ℤ) × IsSplit a b q r a

-- r is `a rem b`: a is the quotient times b and r more, and r has the sign of a (4.5.5).
abbrev pub IsRemainder : ℤ → ℤ → ℤ → Type 0
IsRemainder a b r = (q : ℤ) × IsSplit a b q r a

-- m is `a mod b`: a is some number times b and m more, and m has the sign of b (4.5.5).
abbrev pub IsModulus : ℤ → ℤ → ℤ → Type 0
IsModulus a b m = (n : ℤ) × IsSplit a b n m b

-- z is the exact result of an adding (4.5.3) or multiplying (4.5.5) operator, in Integer's range or not.
abbrev pub IsExact : BinaryOperator → ℤ → ℤ → ℤ → Type 0
IsExact binary.Add a b z = z ≡ a +ℤ b
IsExact binary.Subtract a b z = z ≡ a -ℤ b
IsExact binary.Multiply a b z = z ≡ a *ℤ b
IsExact binary.Divide a b z = IsQuotient a b z
IsExact binary.Remainder a b z = IsRemainder a b z
IsExact binary.Modulo a b z = IsModulus a b z
IsExact _ a b z = ⊥

-- t is what a relational operator tells of two Integers (4.5.2).
abbrev pub IsComparison : BinaryOperator → ℤ → ℤ → Bool → Type 0
IsComparison binary.Equal a b t = IsTrue t ↔ (a ≡ b)
IsComparison binary.NotEqual a b t = IsTrue t ↔ (a ≢ b)
IsComparison binary.Less a b t = IsTrue t ↔ (a <ℤ b)
IsComparison binary.LessOrEqual a b t = IsTrue t ↔ (a ≤ℤ b)
IsComparison binary.Greater a b t = IsTrue t ↔ (b <ℤ a)
IsComparison binary.GreaterOrEqual a b t = IsTrue t ↔ (b ≤ℤ a)
IsComparison _ a b t = ⊥

-- Whether an operator is relational (4.5.2).
abbrev pub is_relational : BinaryOperator → Bool
is_relational binary.Equal = true
is_relational binary.NotEqual = true
is_relational binary.Less = true
is_relational binary.LessOrEqual = true
is_relational binary.Greater = true
is_relational binary.GreaterOrEqual = true
is_relational _ = false

-- t is what a logical operator, a short-circuit form (4.5.1) or an equality (4.5.2) tells of two Booleans.
abbrev pub IsCombination : BinaryOperator → Bool → Bool → Bool → Type 0
IsCombination binary.And a b t = IsTrue t ↔ (IsTrue a × IsTrue b)
IsCombination binary.AndThen a b t = IsTrue t ↔ (IsTrue a × IsTrue b)
IsCombination binary.Or a b t = IsTrue t ↔ (IsTrue a ⊎ IsTrue b)
IsCombination binary.OrElse a b t = IsTrue t ↔ (IsTrue a ⊎ IsTrue b)
IsCombination binary.Xor a b t = IsTrue t ↔ (a ≢ b)
IsCombination binary.Equal a b t = IsTrue t ↔ (a ≡ b)
IsCombination binary.NotEqual a b t = IsTrue t ↔ (a ≢ b)
IsCombination _ a b t = ⊥

-- The value that a binary operator gives of two values.
abbrev pub Gives : BinaryOperator → Value → Value → Value → Type 0
Gives operator (Integer a) (Integer b) (Integer z) = IsExact operator a b z × IsInRange z
Gives operator (Integer a) (Integer b) (Boolean t) = IsComparison operator a b t
Gives operator (Boolean a) (Boolean b) (Boolean t) = IsCombination operator a b t
Gives operator _ _ _ = ⊥

-- The exact result of a binary operator is outside Integer's range (4.5).
abbrev pub Overflows : BinaryOperator → Value → Value → Type 0
Overflows operator (Integer a) (Integer b) = (z : ℤ) × IsExact operator a b z × ¬ IsInRange z
Overflows operator _ _ = ⊥

-- Whether an operator divides, so that its right operand must not be 0 (4.5.5).
abbrev pub divides : BinaryOperator → Bool
divides binary.Divide = true
divides binary.Remainder = true
divides binary.Modulo = true
divides _ = false

-- A division of an Integer by 0.
abbrev pub DividesByZero : BinaryOperator → Value → Value → Type 0
DividesByZero operator (Integer a) (Integer b) = IsTrue (divides operator) × (b ≡ pos 0)
DividesByZero operator _ _ = ⊥

-- Whether an operator is for two Integers: each but the logical ones.
abbrev pub is_for_integers : BinaryOperator → Bool
is_for_integers binary.And = false
is_for_integers binary.Or = false
is_for_integers binary.Xor = false
is_for_integers binary.AndThen = false
is_for_integers binary.OrElse = false
is_for_integers _ = true

-- Whether an operator is for two Booleans: the logical ones and equality.
abbrev pub is_for_booleans : BinaryOperator → Bool
is_for_booleans binary.And = true
is_for_booleans binary.Or = true
is_for_booleans binary.Xor = true
is_for_booleans binary.AndThen = true
is_for_booleans binary.OrElse = true
is_for_booleans binary.Equal = true
is_for_booleans binary.NotEqual = true
is_for_booleans _ = false

-- A binary operator is for operands of the types of these two.
abbrev pub IsFor : BinaryOperator → Value → Value → Type 0
IsFor operator (Integer a) (Integer b) = IsTrue (is_for_integers operator)
IsFor operator (Boolean a) (Boolean b) = IsTrue (is_for_booleans operator)
IsFor operator _ _ = ⊥

-- What comes of a binary operator: a value, or why there is none.
abbrev pub IsOutcome : BinaryOperator → Value → Value → Result Value OperatorFault → Type 0
IsOutcome operator left right (Ok value) = Gives operator left right value
IsOutcome operator left right (Err Overflow) = Overflows operator left right
IsOutcome operator left right (Err DivisionByZero) = DividesByZero operator left right
IsOutcome operator left right (Err WrongType) = ¬ IsFor operator left right

-- z is the exact result of a unary adding operator (4.5.4), in Integer's range or not.
abbrev pub IsSigned : UnaryOperator → ℤ → ℤ → Type 0
IsSigned unary.Plus a z = z ≡ a
IsSigned unary.Minus a z = z ≡ neg_ℤ a
IsSigned unary.Not a z = ⊥

-- A result is in Integer's range where it may leave it: that of + is the operand itself.
abbrev pub StaysInRange : UnaryOperator → ℤ → Type 0
StaysInRange unary.Plus z = Unit {0}
StaysInRange _ z = IsInRange z

-- The value that a unary operator gives of a value (4.5.4, 4.5.6).
abbrev pub UnaryGives : UnaryOperator → Value → Value → Type 0
UnaryGives operator (Integer a) (Integer z) = IsSigned operator a z × StaysInRange operator z
UnaryGives unary.Not (Boolean a) (Boolean t) = a ≢ t
UnaryGives operator _ _ = ⊥

-- The exact result of a unary operator is outside Integer's range (4.5).
abbrev pub UnaryOverflows : UnaryOperator → Value → Type 0
UnaryOverflows operator (Integer a) = (z : ℤ) × IsSigned operator a z × ¬ StaysInRange operator z
UnaryOverflows operator (Boolean a) = ⊥

-- A unary operator is for operands of this one's type: `not` for Booleans, the others for Integers.
abbrev pub UnaryIsFor : UnaryOperator → Value → Type 0
UnaryIsFor unary.Not (Boolean a) = Unit {0}
UnaryIsFor unary.Plus (Integer a) = Unit {0}
UnaryIsFor unary.Minus (Integer a) = Unit {0}
UnaryIsFor _ _ = ⊥

-- What comes of a unary operator: a value, or why there is none.
abbrev pub UnaryIsOutcome : UnaryOperator → Value → Result Value OperatorFault → Type 0
UnaryIsOutcome operator operand (Ok value) = UnaryGives operator operand value
UnaryIsOutcome operator operand (Err Overflow) = UnaryOverflows operator operand
UnaryIsOutcome operator operand (Err DivisionByZero) = ⊥
UnaryIsOutcome operator operand (Err WrongType) = ¬ UnaryIsFor operator operand
