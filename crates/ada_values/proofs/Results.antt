-- The outcome as a function is the outcome.
use Rattle.std.proofs.Common.{◌≡◌, ◌≢◌, ◌⊎◌, ◌↔◌, refl, arith, Bool, true, false, ◌&&◌, ◌||◌, IsTrue, cond, ℤ, pos, neg_ℤ, ◌+ℤ◌, ◌-ℤ◌, ◌*ℤ◌, ◌≤ℤ◌, ◌<ℤ◌, int_lt, int_le, int_div, int_rem, Result, Ok, Err}
use Rattle.std.specs.Ordering.{int_eq}
use Rattle.std.proofs.lemmas.Int.{ints, by_lt_z}
use Rattle.std.proofs.lemmas.Bool.Decides.{Decides-int_eq, Decides-and, Decides-or, Decides-not}
use Rattle.ada_values.specs.declared.operator.UnaryOperator.{UnaryOperator}
use Rattle.ada_values.specs.declared.operator.UnaryOperator.TheVariants as unary
use Rattle.ada_values.specs.declared.operator.BinaryOperator.{BinaryOperator}
use Rattle.ada_values.specs.declared.operator.BinaryOperator.TheVariants as binary
use Rattle.ada_values.specs.declared.value.Value.{Value}
use Rattle.ada_values.specs.declared.value.Value.TheVariants.{Integer, Boolean}
use Rattle.ada_values.specs.declared.fault.OperatorFault.{OperatorFault}
use Rattle.ada_values.specs.declared.fault.OperatorFault.TheVariants.{Overflow, DivisionByZero}
use Rattle.ada_values.specs.Operators.{first_integer, last_integer, IsInRange, HaveOppositeSigns, IsExact, IsModulus, IsRemainder, divides, IsOutcome, IsSigned, UnaryIsOutcome}
use Rattle.ada_values.specs.Outcome.{unless_overflow, unless_zero, have_opposite_signs, modulus, outcome_of_integers, is_same, outcome_of_booleans, outcome_of, unary_outcome_of}
use Rattle.ada_values.proofs.Division.{divided, moved_modulus, same_modulus}
use Rattle.ada_values.proofs.Outcomes.{one_outcome, one_unary_outcome}

-- ---- the tests

no_truth : {P : Type 0} → IsTrue false → P
no_truth e = absurd (cc)

below : (a b : ℤ) → IsTrue (int_lt a b) ↔ (a <ℤ b)
below a b = (λ e. by_lt_z a b (λ h. h) (λ h. grind (arith, ints)), λ h. grind (arith, ints))

at_most : (a b : ℤ) → IsTrue (int_le a b) ↔ (a ≤ℤ b)
at_most a b = (λ e. by_lt_z b a (λ h. grind (arith, ints)) (λ h. h), λ h. grind (arith, ints))

within : (z : ℤ) → IsTrue (int_le first_integer z && int_le z last_integer) ↔ IsInRange z
within z = Decides-and (int_le first_integer z) (int_le z last_integer) (at_most first_integer z) (at_most z last_integer)

opposite : (a b : ℤ) → IsTrue (have_opposite_signs a b) ↔ HaveOppositeSigns a b
opposite a b =
    Decides-or (int_lt a (pos 0) && int_lt (pos 0) b) (int_lt (pos 0) a && int_lt b (pos 0))
    (Decides-and (int_lt a (pos 0)) (int_lt (pos 0) b) (below a (pos 0)) (below (pos 0) b))
    (Decides-and (int_lt (pos 0) a) (int_lt b (pos 0)) (below (pos 0) a) (below b (pos 0)))

both : (a b : Bool) → IsTrue (a && b) ↔ (IsTrue a × IsTrue b)
both a b = Decides-and a b (λ e. e, λ e. e) (λ e. e, λ e. e)

either : (a b : Bool) → IsTrue (a || b) ↔ (IsTrue a ⊎ IsTrue b)
either a b = Decides-or a b (λ e. e, λ e. e) (λ e. e, λ e. e)

same : (a b : Bool) → IsTrue (is_same a b) ↔ (a ≡ b)
same true true = (λ _. refl, λ _. refl)
same true false = (λ e. absurd (cc), λ e. absurd (cc))
same false true = (λ e. absurd (cc), λ e. absurd (cc))
same false false = (λ _. refl, λ _. refl)

-- ---- Integers

unless_overflow_is : (operator : BinaryOperator) (a b z : ℤ) → IsExact operator a b z → IsOutcome operator (Integer a) (Integer b) (unless_overflow z)
unless_overflow_is operator a b z h = by (int_le first_integer z && int_le z last_integer) (within z)
  where
    by : (t : Bool) → IsTrue t ↔ IsInRange z → IsOutcome operator (Integer a) (Integer b) (cond t (Ok (Integer z)) (Err Overflow))
    by true d = (h, d.0 refl)
    by false d = (z, h, λ r. no_truth (d.1 r))

unless_zero_is : (operator : BinaryOperator) (a b z : ℤ) → IsTrue (divides operator) → (b ≢ pos 0 → IsExact operator a b z) → IsOutcome operator (Integer a) (Integer b) (unless_zero b z)
unless_zero_is operator a b z divides h = by (int_eq b (pos 0)) (Decides-int_eq b (pos 0))
  where
    by : (t : Bool) → IsTrue t ↔ (b ≡ pos 0) → IsOutcome operator (Integer a) (Integer b) (cond t (Err DivisionByZero) (unless_overflow z))
    by true d = (divides, d.0 refl)
    by false d = unless_overflow_is operator a b z (h (λ e. no_truth (d.1 e)))

modulus_is : (a b : ℤ) → b ≢ pos 0 → IsModulus a b (modulus a b)
modulus_is a b h = by (have_opposite_signs (int_rem a b) b) (opposite (int_rem a b) b)
  where
    rest : IsRemainder a b (int_rem a b)
    rest = (int_div a b, divided a b h)

    by : (t : Bool) → IsTrue t ↔ HaveOppositeSigns (int_rem a b) b → IsModulus a b (cond t (int_rem a b +ℤ b) (int_rem a b))
    by true d = moved_modulus a b (int_rem a b) rest (d.0 refl)
    by false d = same_modulus a b (int_rem a b) rest (λ o. no_truth (d.1 o))

integers_is : (operator : BinaryOperator) (a b : ℤ) → IsOutcome operator (Integer a) (Integer b) (outcome_of_integers operator a b)
integers_is binary.Add a b = unless_overflow_is binary.Add a b (a +ℤ b) refl
integers_is binary.Subtract a b = unless_overflow_is binary.Subtract a b (a -ℤ b) refl
integers_is binary.Multiply a b = unless_overflow_is binary.Multiply a b (a *ℤ b) refl
integers_is binary.Divide a b = unless_zero_is binary.Divide a b (int_div a b) refl (λ h. (int_rem a b, divided a b h))
integers_is binary.Remainder a b = unless_zero_is binary.Remainder a b (int_rem a b) refl (λ h. (int_div a b, divided a b h))
integers_is binary.Modulo a b = unless_zero_is binary.Modulo a b (modulus a b) refl (modulus_is a b)
integers_is binary.Equal a b = Decides-int_eq a b
integers_is binary.NotEqual a b = Decides-not (int_eq a b) (Decides-int_eq a b)
integers_is binary.Less a b = below a b
integers_is binary.LessOrEqual a b = at_most a b
integers_is binary.Greater a b = below b a
integers_is binary.GreaterOrEqual a b = at_most b a
integers_is _ a b = λ h. cc

-- ---- Booleans

booleans_is : (operator : BinaryOperator) (a b : Bool) → IsOutcome operator (Boolean a) (Boolean b) (outcome_of_booleans operator a b)
booleans_is binary.And a b = both a b
booleans_is binary.AndThen a b = both a b
booleans_is binary.Or a b = either a b
booleans_is binary.OrElse a b = either a b
booleans_is binary.Xor a b = Decides-not (is_same a b) (same a b)
booleans_is binary.Equal a b = same a b
booleans_is binary.NotEqual a b = Decides-not (is_same a b) (same a b)
booleans_is _ a b = λ h. cc

-- A binary operator's outcome.
pub outcome_is : (operator : BinaryOperator) (left right : Value) → IsOutcome operator left right (outcome_of operator left right)
unfolding outcome_of
outcome_is operator (Integer a) (Integer b) = integers_is operator a b
outcome_is operator (Boolean a) (Boolean b) = booleans_is operator a b
outcome_is operator (Integer a) (Boolean b) = λ h. h
outcome_is operator (Boolean a) (Integer b) = λ h. h

-- So what is an outcome is that one.
pub is_the_outcome : (operator : BinaryOperator) (left right : Value) (x : Result Value OperatorFault) → IsOutcome operator left right x → x ≡ outcome_of operator left right
is_the_outcome operator left right x h = one_outcome operator left right x (outcome_of operator left right) h (outcome_is operator left right)

signed_is : (a z : ℤ) → IsSigned unary.Minus a z → UnaryIsOutcome unary.Minus (Integer a) (unless_overflow z)
signed_is a z h = by (int_le first_integer z && int_le z last_integer) (within z)
  where
    by : (t : Bool) → IsTrue t ↔ IsInRange z → UnaryIsOutcome unary.Minus (Integer a) (cond t (Ok (Integer z)) (Err Overflow))
    by true d = (h, d.0 refl)
    by false d = (z, h, λ r. no_truth (d.1 r))

-- A unary operator's outcome.
pub unary_outcome_is : (operator : UnaryOperator) (operand : Value) → UnaryIsOutcome operator operand (unary_outcome_of operator operand)
unfolding unary_outcome_of
unary_outcome_is unary.Plus (Integer a) = (refl, tt)
unary_outcome_is unary.Minus (Integer a) = signed_is a (neg_ℤ a) refl
unary_outcome_is unary.Not (Integer a) = λ h. h
unary_outcome_is unary.Plus (Boolean a) = λ h. h
unary_outcome_is unary.Minus (Boolean a) = λ h. h
unary_outcome_is unary.Not (Boolean true) = λ e. cc
unary_outcome_is unary.Not (Boolean false) = λ e. cc

pub is_the_unary_outcome : (operator : UnaryOperator) (operand : Value) (x : Result Value OperatorFault) → UnaryIsOutcome operator operand x → x ≡ unary_outcome_of operator operand
is_the_unary_outcome operator operand x h = one_unary_outcome operator operand x (unary_outcome_of operator operand) h (unary_outcome_is operator operand)
