-- Each operator has one outcome.
use Rattle.std.proofs.Common.{◌≡◌, ◌≢◌, ◌⊎◌, ◌↔◌, zero, suc, ◌<◌, refl, sym, ap, subst, ◌∙◌, inl, inr, arith, Bool, true, false, IsTrue, ℤ, pos, negsuc, neg_ℤ, ◌+ℤ◌, ◌-ℤ◌, ◌*ℤ◌, ◌≤ℤ◌, ◌<ℤ◌, int_div, int_rem, Result, Ok, Err, Option, Some, None, MatchOption, SomeIff, FitsSigned, w32}
use Rattle.std.proofs.lemmas.Int.{ints, by_lt_z}
use Rattle.std.specs.Int.{CanDivide, cast_unsigned}
use Rattle.ada_values.specs.declared.operator.UnaryOperator.{UnaryOperator}
use Rattle.ada_values.specs.declared.operator.UnaryOperator.TheVariants as unary
use Rattle.ada_values.specs.declared.operator.BinaryOperator.{BinaryOperator}
use Rattle.ada_values.specs.declared.operator.BinaryOperator.TheVariants as binary
use Rattle.ada_values.specs.declared.value.Value.{Value}
use Rattle.ada_values.specs.declared.value.Value.TheVariants.{Integer, Boolean}
use Rattle.ada_values.specs.declared.fault.OperatorFault.{OperatorFault}
use Rattle.ada_values.specs.declared.fault.OperatorFault.TheVariants.{Overflow, DivisionByZero, WrongType}
use Rattle.ada_values.specs.Operators.{first_integer, last_integer, IsInRange, StaysInRange, IsExact, IsComparison, IsCombination, Gives, Overflows, DividesByZero, divides, IsFor, is_for_integers, is_for_booleans, IsOutcome, IsSigned, UnaryGives, UnaryOverflows, UnaryIsFor, UnaryIsOutcome}
use Rattle.ada_values.proofs.Division.{divided, some_modulus, split_nonzero, one_quotient, one_remainder, one_modulus, fits_in_range, in_range_fits}

-- ---- at most one

same_truth : (P : Type 0) (t u : Bool) → IsTrue t ↔ P → IsTrue u ↔ P → t ≡ u
same_truth P true true h k = refl
same_truth P true false h k = absurd (false_is (k.1 (h.0 refl)))
  where
    false_is : IsTrue false → ⊥
    false_is e = cc
same_truth P false true h k = absurd (false_is (h.1 (k.0 refl)))
  where
    false_is : IsTrue false → ⊥
    false_is e = cc
same_truth P false false h k = refl

one_exact : (operator : BinaryOperator) (a b y z : ℤ) → IsExact operator a b y → IsExact operator a b z → y ≡ z
one_exact binary.Add a b y z h k = h ∙ sym k
one_exact binary.Subtract a b y z h k = h ∙ sym k
one_exact binary.Multiply a b y z h k = h ∙ sym k
one_exact binary.Divide a b y z h k = one_quotient a b y z h k
one_exact binary.Remainder a b y z h k = one_remainder a b y z h k
one_exact binary.Modulo a b y z h k = one_modulus a b y z h k
one_exact _ a b y z h k = absurd h

one_comparison : (operator : BinaryOperator) (a b : ℤ) (t u : Bool) → IsComparison operator a b t → IsComparison operator a b u → t ≡ u
one_comparison binary.Equal a b t u h k = same_truth _ t u h k
one_comparison binary.NotEqual a b t u h k = same_truth _ t u h k
one_comparison binary.Less a b t u h k = same_truth _ t u h k
one_comparison binary.LessOrEqual a b t u h k = same_truth _ t u h k
one_comparison binary.Greater a b t u h k = same_truth _ t u h k
one_comparison binary.GreaterOrEqual a b t u h k = same_truth _ t u h k
one_comparison _ a b t u h k = absurd h

one_combination : (operator : BinaryOperator) (a b t u : Bool) → IsCombination operator a b t → IsCombination operator a b u → t ≡ u
one_combination binary.And a b t u h k = same_truth _ t u h k
one_combination binary.AndThen a b t u h k = same_truth _ t u h k
one_combination binary.Or a b t u h k = same_truth _ t u h k
one_combination binary.OrElse a b t u h k = same_truth _ t u h k
one_combination binary.Xor a b t u h k = same_truth _ t u h k
one_combination binary.Equal a b t u h k = same_truth _ t u h k
one_combination binary.NotEqual a b t u h k = same_truth _ t u h k
one_combination _ a b t u h k = absurd h

-- No operator is arithmetic and relational.
apart : (operator : BinaryOperator) (a b z : ℤ) (t : Bool) → IsExact operator a b z → IsComparison operator a b t → ⊥
apart binary.Add a b z t h k = k
apart binary.Subtract a b z t h k = k
apart binary.Multiply a b z t h k = k
apart binary.Divide a b z t h k = k
apart binary.Remainder a b z t h k = k
apart binary.Modulo a b z t h k = k
apart _ a b z t h k = h

-- An exact result has no divisor 0.
exact_nonzero : (operator : BinaryOperator) (a b z : ℤ) → IsExact operator a b z → IsTrue (divides operator) → b ≡ pos 0 → ⊥
exact_nonzero binary.Divide a b z h d e = split_nonzero a b z h.0 a h.1 e
exact_nonzero binary.Remainder a b z h d e = split_nonzero a b h.0 z a h.1 e
exact_nonzero binary.Modulo a b z h d e = split_nonzero a b h.0 z b h.1 e
exact_nonzero _ a b z h d e = cc

-- No relational operator divides.
compared : (operator : BinaryOperator) (a b : ℤ) (t : Bool) → IsComparison operator a b t → IsTrue (divides operator) → ⊥
compared binary.Divide a b t h d = h
compared binary.Remainder a b t h d = h
compared binary.Modulo a b t h d = h
compared _ a b t h d = cc

-- What has an exact result, divides, or is compared is for Integers; what is combined is for Booleans.
exact_for : (operator : BinaryOperator) (a b z : ℤ) → IsExact operator a b z → IsTrue (is_for_integers operator)
exact_for binary.Add a b z h = refl
exact_for binary.Subtract a b z h = refl
exact_for binary.Multiply a b z h = refl
exact_for binary.Divide a b z h = refl
exact_for binary.Remainder a b z h = refl
exact_for binary.Modulo a b z h = refl
exact_for _ a b z h = absurd h

compared_for : (operator : BinaryOperator) (a b : ℤ) (t : Bool) → IsComparison operator a b t → IsTrue (is_for_integers operator)
compared_for binary.Equal a b t h = refl
compared_for binary.NotEqual a b t h = refl
compared_for binary.Less a b t h = refl
compared_for binary.LessOrEqual a b t h = refl
compared_for binary.Greater a b t h = refl
compared_for binary.GreaterOrEqual a b t h = refl
compared_for _ a b t h = absurd h

combined_for : (operator : BinaryOperator) (a b t : Bool) → IsCombination operator a b t → IsTrue (is_for_booleans operator)
combined_for binary.And a b t h = refl
combined_for binary.AndThen a b t h = refl
combined_for binary.Or a b t h = refl
combined_for binary.OrElse a b t h = refl
combined_for binary.Xor a b t h = refl
combined_for binary.Equal a b t h = refl
combined_for binary.NotEqual a b t h = refl
combined_for _ a b t h = absurd h

divides_for : (operator : BinaryOperator) → IsTrue (divides operator) → IsTrue (is_for_integers operator)
divides_for binary.Divide h = refl
divides_for binary.Remainder h = refl
divides_for binary.Modulo h = refl
divides_for _ h = absurd (cc)

-- What there is a value or a fault at run time of, the operator is for.
gives_for : (operator : BinaryOperator) (left right value : Value) → Gives operator left right value → IsFor operator left right
gives_for operator (Integer a) (Integer b) (Integer z) h = exact_for operator a b z h.0
gives_for operator (Integer a) (Integer b) (Boolean t) h = compared_for operator a b t h
gives_for operator (Boolean a) (Boolean b) (Boolean t) h = combined_for operator a b t h
gives_for operator _ _ _ h = absurd h

overflows_for : (operator : BinaryOperator) (left right : Value) → Overflows operator left right → IsFor operator left right
overflows_for operator (Integer a) (Integer b) h = exact_for operator a b h.0 h.1
overflows_for operator _ _ h = absurd h

zero_for : (operator : BinaryOperator) (left right : Value) → DividesByZero operator left right → IsFor operator left right
zero_for operator (Integer a) (Integer b) h = divides_for operator h.0
zero_for operator _ _ h = absurd h

one_value : (operator : BinaryOperator) (left right v w : Value) → Gives operator left right v → Gives operator left right w → v ≡ w
one_value operator (Integer a) (Integer b) (Integer y) (Integer z) h k = ap Integer (one_exact operator a b y z h.0 k.0)
one_value operator (Integer a) (Integer b) (Integer y) (Boolean t) h k = absurd (apart operator a b y t h.0 k)
one_value operator (Integer a) (Integer b) (Boolean t) (Integer y) h k = absurd (apart operator a b y t k.0 h)
one_value operator (Integer a) (Integer b) (Boolean t) (Boolean u) h k = ap Boolean (one_comparison operator a b t u h k)
one_value operator (Boolean a) (Boolean b) (Boolean t) (Boolean u) h k = ap Boolean (one_combination operator a b t u h k)
one_value operator (Boolean a) (Boolean b) (Boolean t) (Integer u) h k = absurd k
one_value operator _ _ _ _ h k = absurd h

value_or_overflow : (operator : BinaryOperator) (left right v : Value) → Gives operator left right v → Overflows operator left right → ⊥
value_or_overflow operator (Integer a) (Integer b) (Integer y) h k = k.2 (subst IsInRange (one_exact operator a b y k.0 h.0 k.1) h.1)
value_or_overflow operator (Integer a) (Integer b) (Boolean t) h k = apart operator a b k.0 t k.1 h
value_or_overflow operator (Boolean a) _ _ h k = k
value_or_overflow operator (Integer a) (Boolean b) _ h k = k

value_or_zero : (operator : BinaryOperator) (left right v : Value) → Gives operator left right v → DividesByZero operator left right → ⊥
value_or_zero operator (Integer a) (Integer b) (Integer y) h k = exact_nonzero operator a b y h.0 k.0 k.1
value_or_zero operator (Integer a) (Integer b) (Boolean t) h k = compared operator a b t h k.0
value_or_zero operator (Boolean a) _ _ h k = k
value_or_zero operator (Integer a) (Boolean b) _ h k = k

overflow_or_zero : (operator : BinaryOperator) (left right : Value) → Overflows operator left right → DividesByZero operator left right → ⊥
overflow_or_zero operator (Integer a) (Integer b) h k = exact_nonzero operator a b h.0 h.1 k.0 k.1
overflow_or_zero operator (Boolean a) _ h k = h
overflow_or_zero operator (Integer a) (Boolean b) h k = h

-- An operator has one outcome at most.
pub one_outcome : (operator : BinaryOperator) (left right : Value) (x y : Result Value OperatorFault) → IsOutcome operator left right x → IsOutcome operator left right y → x ≡ y
one_outcome o l r (Ok v) (Ok w) h k = ap Ok (one_value o l r v w h k)
one_outcome o l r (Ok v) (Err Overflow) h k = absurd (value_or_overflow o l r v h k)
one_outcome o l r (Ok v) (Err DivisionByZero) h k = absurd (value_or_zero o l r v h k)
one_outcome o l r (Ok v) (Err WrongType) h k = absurd (k (gives_for o l r v h))
one_outcome o l r (Err Overflow) (Ok v) h k = absurd (value_or_overflow o l r v k h)
one_outcome o l r (Err Overflow) (Err Overflow) h k = refl
one_outcome o l r (Err Overflow) (Err DivisionByZero) h k = absurd (overflow_or_zero o l r h k)
one_outcome o l r (Err Overflow) (Err WrongType) h k = absurd (k (overflows_for o l r h))
one_outcome o l r (Err DivisionByZero) (Ok v) h k = absurd (value_or_zero o l r v k h)
one_outcome o l r (Err DivisionByZero) (Err Overflow) h k = absurd (overflow_or_zero o l r k h)
one_outcome o l r (Err DivisionByZero) (Err DivisionByZero) h k = refl
one_outcome o l r (Err DivisionByZero) (Err WrongType) h k = absurd (k (zero_for o l r h))
one_outcome o l r (Err WrongType) (Ok v) h k = absurd (h (gives_for o l r v k))
one_outcome o l r (Err WrongType) (Err Overflow) h k = absurd (h (overflows_for o l r k))
one_outcome o l r (Err WrongType) (Err DivisionByZero) h k = absurd (h (zero_for o l r k))
one_outcome o l r (Err WrongType) (Err WrongType) h k = refl

-- So the outcome that there is is each that it could be.
pub exactly : (operator : BinaryOperator) (left right : Value) (x y : Result Value OperatorFault) → IsOutcome operator left right x → (x ≡ y) ↔ IsOutcome operator left right y
exactly operator left right x y h = (λ e. subst (IsOutcome operator left right) e h, λ k. one_outcome operator left right x y h k)

-- ---- at least one

truth : (P : Type 0) → P ⊎ (¬ P) → (t : Bool) × (IsTrue t ↔ P)
truth P (inl p) = (true, (λ _. p, λ _. refl))
truth P (inr n) = (false, (λ e. absurd (cc), λ p. absurd (n p)))

is_less : (a b : ℤ) → (a <ℤ b) ⊎ (¬ (a <ℤ b))
is_less a b = by_lt_z a b (λ h. inl h) (λ h. inr (λ k. omega (arith, ints)))

is_at_most : (a b : ℤ) → (a ≤ℤ b) ⊎ (¬ (a ≤ℤ b))
is_at_most a b = by_lt_z b a (λ h. inr (λ k. omega (arith, ints))) (λ h. inl h)

is_same : (a b : ℤ) → (a ≡ b) ⊎ (¬ (a ≡ b))
is_same a b = by_lt_z a b (λ h. inr (λ k. omega (arith, ints))) (λ h. by_lt_z b a (λ k. inr (λ e. omega (arith, ints))) (λ k. inl (omega (arith, ints))))

opposite : (P : Type 0) → P ⊎ (¬ P) → (¬ P) ⊎ (¬ (¬ P))
opposite P (inl p) = inr (λ n. n p)
opposite P (inr n) = inl n

is_true : (a : Bool) → IsTrue a ⊎ (¬ IsTrue a)
is_true true = inl refl
is_true false = inr (λ e. cc)

both : (P Q : Type 0) → P ⊎ (¬ P) → Q ⊎ (¬ Q) → (P × Q) ⊎ (¬ (P × Q))
both P Q (inl p) (inl q) = inl (p, q)
both P Q (inr n) _ = inr (λ x. n x.0)
both P Q (inl p) (inr n) = inr (λ x. n x.1)

neither : (P Q : Type 0) → ¬ P → ¬ Q → P ⊎ Q → ⊥
neither P Q p q (inl x) = p x
neither P Q p q (inr x) = q x

one_of : (P Q : Type 0) → P ⊎ (¬ P) → Q ⊎ (¬ Q) → (P ⊎ Q) ⊎ (¬ (P ⊎ Q))
one_of P Q (inl p) _ = inl (inl p)
one_of P Q (inr n) (inl q) = inl (inr q)
one_of P Q (inr n) (inr m) = inr (neither P Q n m)

same_bool : (a b : Bool) → (a ≡ b) ⊎ (¬ (a ≡ b))
same_bool true true = inl refl
same_bool true false = inr (λ e. cc)
same_bool false true = inr (λ e. cc)
same_bool false false = inl refl

abbrev Some_outcome : BinaryOperator → Value → Value → Type 0
Some_outcome operator left right = (x : Result Value OperatorFault) × IsOutcome operator left right x

exact_outcome : (operator : BinaryOperator) (a b z : ℤ) → IsExact operator a b z → Some_outcome operator (Integer a) (Integer b)
exact_outcome operator a b z h = by (both _ _ (is_at_most first_integer z) (is_at_most z last_integer))
  where
    by : IsInRange z ⊎ (¬ IsInRange z) → Some_outcome operator (Integer a) (Integer b)
    by (inl p) = (Ok (Integer z), (h, p))
    by (inr n) = (Err Overflow, (z, h, n))

zero_or : (operator : BinaryOperator) (a b : ℤ) → IsTrue (divides operator) → (b ≢ pos 0 → (z : ℤ) × IsExact operator a b z) → Some_outcome operator (Integer a) (Integer b)
zero_or operator a b d f = by (is_same b (pos 0))
  where
    by : (b ≡ pos 0) ⊎ (¬ (b ≡ pos 0)) → Some_outcome operator (Integer a) (Integer b)
    by (inl e) = (Err DivisionByZero, (d, e))
    by (inr n) = let z = f n in exact_outcome operator a b z.0 z.1

told : (operator : BinaryOperator) (a b : ℤ) → ((t : Bool) × IsComparison operator a b t) → Some_outcome operator (Integer a) (Integer b)
told operator a b h = (Ok (Boolean h.0), h.1)

of_integers : (operator : BinaryOperator) (a b : ℤ) → Some_outcome operator (Integer a) (Integer b)
of_integers binary.Add a b = exact_outcome binary.Add a b (a +ℤ b) refl
of_integers binary.Subtract a b = exact_outcome binary.Subtract a b (a -ℤ b) refl
of_integers binary.Multiply a b = exact_outcome binary.Multiply a b (a *ℤ b) refl
of_integers binary.Divide a b = zero_or binary.Divide a b refl (λ h. (int_div a b, (int_rem a b, divided a b h)))
of_integers binary.Remainder a b = zero_or binary.Remainder a b refl (λ h. (int_rem a b, (int_div a b, divided a b h)))
of_integers binary.Modulo a b = zero_or binary.Modulo a b refl (λ h. some_modulus a b h)
of_integers binary.Equal a b = told binary.Equal a b (truth (a ≡ b) (is_same a b))
of_integers binary.NotEqual a b = told binary.NotEqual a b (truth (a ≢ b) (opposite (a ≡ b) (is_same a b)))
of_integers binary.Less a b = told binary.Less a b (truth (a <ℤ b) (is_less a b))
of_integers binary.LessOrEqual a b = told binary.LessOrEqual a b (truth (a ≤ℤ b) (is_at_most a b))
of_integers binary.Greater a b = told binary.Greater a b (truth (b <ℤ a) (is_less b a))
of_integers binary.GreaterOrEqual a b = told binary.GreaterOrEqual a b (truth (b ≤ℤ a) (is_at_most b a))
of_integers _ a b = (Err WrongType, λ h. cc)

combined : (operator : BinaryOperator) (a b : Bool) → ((t : Bool) × IsCombination operator a b t) → Some_outcome operator (Boolean a) (Boolean b)
combined operator a b h = (Ok (Boolean h.0), h.1)

of_booleans : (operator : BinaryOperator) (a b : Bool) → Some_outcome operator (Boolean a) (Boolean b)
of_booleans binary.And a b = combined binary.And a b (truth (IsTrue a × IsTrue b) (both (IsTrue a) (IsTrue b) (is_true a) (is_true b)))
of_booleans binary.AndThen a b = combined binary.AndThen a b (truth (IsTrue a × IsTrue b) (both (IsTrue a) (IsTrue b) (is_true a) (is_true b)))
of_booleans binary.Or a b = combined binary.Or a b (truth (IsTrue a ⊎ IsTrue b) (one_of (IsTrue a) (IsTrue b) (is_true a) (is_true b)))
of_booleans binary.OrElse a b = combined binary.OrElse a b (truth (IsTrue a ⊎ IsTrue b) (one_of (IsTrue a) (IsTrue b) (is_true a) (is_true b)))
of_booleans binary.Xor a b = combined binary.Xor a b (truth (a ≢ b) (opposite (a ≡ b) (same_bool a b)))
of_booleans binary.Equal a b = combined binary.Equal a b (truth (a ≡ b) (same_bool a b))
of_booleans binary.NotEqual a b = combined binary.NotEqual a b (truth (a ≢ b) (opposite (a ≡ b) (same_bool a b)))
of_booleans _ a b = (Err WrongType, λ h. cc)

-- An operator has some outcome.
pub some_outcome : (operator : BinaryOperator) (left right : Value) → (x : Result Value OperatorFault) × IsOutcome operator left right x
some_outcome operator (Integer a) (Integer b) = of_integers operator a b
some_outcome operator (Boolean a) (Boolean b) = of_booleans operator a b
some_outcome operator (Integer a) (Boolean b) = (Err WrongType, λ h. h)
some_outcome operator (Boolean a) (Integer b) = (Err WrongType, λ h. h)

-- ---- the unary operators

one_signed : (operator : UnaryOperator) (a y z : ℤ) → IsSigned operator a y → IsSigned operator a z → y ≡ z
one_signed unary.Plus a y z h k = h ∙ sym k
one_signed unary.Minus a y z h k = h ∙ sym k
one_signed unary.Not a y z h k = absurd h

signed_for : (operator : UnaryOperator) (a z : ℤ) → IsSigned operator a z → UnaryIsFor operator (Integer a)
signed_for unary.Plus a z h = tt
signed_for unary.Minus a z h = tt
signed_for unary.Not a z h = h

unary_for : (operator : UnaryOperator) (operand value : Value) → UnaryGives operator operand value → UnaryIsFor operator operand
unary_for operator (Integer a) (Integer z) h = signed_for operator a z h.0
unary_for unary.Not (Boolean a) (Boolean t) h = tt
unary_for _ _ _ h = absurd h

unary_overflows_for : (operator : UnaryOperator) (operand : Value) → UnaryOverflows operator operand → UnaryIsFor operator operand
unary_overflows_for operator (Integer a) h = signed_for operator a h.0 h.1
unary_overflows_for operator (Boolean a) h = absurd h

one_negation : (a t u : Bool) → a ≢ t → a ≢ u → t ≡ u
one_negation a true true h k = refl
one_negation a false false h k = refl
one_negation true true false h k = absurd (h refl)
one_negation true false true h k = absurd (k refl)
one_negation false true false h k = absurd (k refl)
one_negation false false true h k = absurd (h refl)

one_unary_value : (operator : UnaryOperator) (operand v w : Value) → UnaryGives operator operand v → UnaryGives operator operand w → v ≡ w
one_unary_value operator (Integer a) (Integer y) (Integer z) h k = ap Integer (one_signed operator a y z h.0 k.0)
one_unary_value operator (Integer a) (Integer y) (Boolean t) h k = absurd k
one_unary_value unary.Not (Boolean a) (Boolean t) (Boolean u) h k = ap Boolean (one_negation a t u h k)
one_unary_value unary.Not (Boolean a) (Boolean t) (Integer u) h k = absurd k
one_unary_value _ _ _ _ h k = absurd h

unary_value_or_overflow : (operator : UnaryOperator) (operand v : Value) → UnaryGives operator operand v → UnaryOverflows operator operand → ⊥
unary_value_or_overflow operator (Integer a) (Integer z) h k = k.2 (subst (StaysInRange operator) (one_signed operator a z k.0 h.0 k.1) h.1)
unary_value_or_overflow operator (Integer a) (Boolean t) h k = h
unary_value_or_overflow operator (Boolean a) _ h k = k

-- A unary operator has one outcome at most.
pub one_unary_outcome : (operator : UnaryOperator) (operand : Value) (x y : Result Value OperatorFault) → UnaryIsOutcome operator operand x → UnaryIsOutcome operator operand y → x ≡ y
one_unary_outcome o l (Ok v) (Ok w) h k = ap Ok (one_unary_value o l v w h k)
one_unary_outcome o l (Ok v) (Err Overflow) h k = absurd (unary_value_or_overflow o l v h k)
one_unary_outcome o l (Ok v) (Err WrongType) h k = absurd (k (unary_for o l v h))
one_unary_outcome o l (Err Overflow) (Ok v) h k = absurd (unary_value_or_overflow o l v k h)
one_unary_outcome o l (Err Overflow) (Err Overflow) h k = refl
one_unary_outcome o l (Err Overflow) (Err WrongType) h k = absurd (k (unary_overflows_for o l h))
one_unary_outcome o l (Err WrongType) (Ok v) h k = absurd (h (unary_for o l v k))
one_unary_outcome o l (Err WrongType) (Err Overflow) h k = absurd (h (unary_overflows_for o l k))
one_unary_outcome o l (Err WrongType) (Err WrongType) h k = refl
one_unary_outcome o l (Err DivisionByZero) _ h k = absurd h
one_unary_outcome o l (Ok v) (Err DivisionByZero) h k = absurd k
one_unary_outcome o l (Err Overflow) (Err DivisionByZero) h k = absurd k
one_unary_outcome o l (Err WrongType) (Err DivisionByZero) h k = absurd k

signed_outcome : (a z : ℤ) → IsSigned unary.Minus a z → (x : Result Value OperatorFault) × UnaryIsOutcome unary.Minus (Integer a) x
signed_outcome a z h = by (both _ _ (is_at_most first_integer z) (is_at_most z last_integer))
  where
    by : IsInRange z ⊎ (¬ IsInRange z) → (x : Result Value OperatorFault) × UnaryIsOutcome unary.Minus (Integer a) x
    by (inl p) = (Ok (Integer z), (h, p))
    by (inr n) = (Err Overflow, (z, h, n))

-- A unary operator has some outcome.
pub some_unary_outcome : (operator : UnaryOperator) (operand : Value) → (x : Result Value OperatorFault) × UnaryIsOutcome operator operand x
some_unary_outcome unary.Plus (Integer a) = (Ok (Integer a), (refl, tt))
some_unary_outcome unary.Minus (Integer a) = signed_outcome a (neg_ℤ a) refl
some_unary_outcome unary.Not (Integer a) = (Err WrongType, λ h. h)
some_unary_outcome unary.Not (Boolean true) = (Ok (Boolean false), λ e. cc)
some_unary_outcome unary.Not (Boolean false) = (Ok (Boolean true), λ e. cc)
some_unary_outcome unary.Plus (Boolean a) = (Err WrongType, λ h. h)
some_unary_outcome unary.Minus (Boolean a) = (Err WrongType, λ h. h)

-- ---- what the code finds

-- An exact result that was put in range, or was not.
pub ranged : (operator : BinaryOperator) (a b z : ℤ) (found : Option ℤ) (x : Result Value OperatorFault) → IsExact operator a b z → SomeIff found (FitsSigned w32 z) z → MatchOption found (x ≡ Err Overflow) (λ n. x ≡ Ok (Integer n)) → IsOutcome operator (Integer a) (Integer b) x
ranged operator a b z None x h s m = subst (IsOutcome operator (Integer a) (Integer b)) (sym m) (z, h, λ r. s (in_range_fits z r))
ranged operator a b z (Some n) x h s m =
    subst (IsOutcome operator (Integer a) (Integer b)) (sym m) (subst (λ y. IsExact operator a b y × IsInRange y) (sym s.1) (h, fits_in_range z s.0))

nonzero : (d : ℤ) → FitsSigned w32 d → d ≢ pos 0 → 0 < cast_unsigned w32 d
nonzero (pos zero) f h = absurd (h refl)
nonzero (pos (suc d)) f h = omega arith
nonzero (negsuc d) f h = let small = f.sfits in omega arith

can_divide : (a b : ℤ) (found : Option ℤ) → FitsSigned w32 b → b ≢ pos 0 → SomeIff found (CanDivide w32 a b) (int_div a b) → SomeIff found (FitsSigned w32 (int_div a b)) (int_div a b)
can_divide a b None f h n = λ g. n (nonzero b f h, g)
can_divide a b (Some q) f h y = (y.0.1, y.1)

-- A quotient that the code found, or not.
pub divided_outcome : (a b : ℤ) (found : Option ℤ) (x : Result Value OperatorFault) → FitsSigned w32 b → b ≢ pos 0 → SomeIff found (CanDivide w32 a b) (int_div a b) → MatchOption found (x ≡ Err Overflow) (λ n. x ≡ Ok (Integer n)) → IsOutcome binary.Divide (Integer a) (Integer b) x
divided_outcome a b found x f h s m = ranged binary.Divide a b (int_div a b) found x (int_rem a b, divided a b h) (can_divide a b found f h s) m

-- What the code found is each outcome that there could be.
pub found : (operator : BinaryOperator) (left right : Value) (a b : ℤ) (x y : Result Value OperatorFault) → left ≡ Integer a → right ≡ Integer b → IsOutcome operator (Integer a) (Integer b) x → (x ≡ y) ↔ IsOutcome operator left right y
found operator left right a b x y p q h =
    exactly operator left right x y (subst (λ l. IsOutcome operator l right x) (sym p) (subst (λ r. IsOutcome operator (Integer a) r x) (sym q) h))

-- A negation that the code found, or not.
pub negated : (operator : UnaryOperator) (operand : Value) (a : ℤ) (found : Option ℤ) (x : Result Value OperatorFault) → operator ≡ unary.Minus → operand ≡ Integer a → SomeIff found (FitsSigned w32 (neg_ℤ a)) (neg_ℤ a) → MatchOption found (x ≡ Err Overflow) (λ n. x ≡ Ok (Integer n)) → UnaryIsOutcome operator operand x
negated operator operand a found x p q s m =
    subst (λ o. UnaryIsOutcome o operand x) (sym p) (subst (λ v. UnaryIsOutcome unary.Minus v x) (sym q) (by found s m))
  where
    by : (o : Option ℤ) → SomeIff o (FitsSigned w32 (neg_ℤ a)) (neg_ℤ a) → MatchOption o (x ≡ Err Overflow) (λ n. x ≡ Ok (Integer n)) → UnaryIsOutcome unary.Minus (Integer a) x
    by None n e = subst (UnaryIsOutcome unary.Minus (Integer a)) (sym e) (neg_ℤ a, refl, λ r. n (in_range_fits (neg_ℤ a) r))
    by (Some z) y e = subst (UnaryIsOutcome unary.Minus (Integer a)) (sym e) (subst (λ n. (n ≡ neg_ℤ a) × IsInRange n) (sym y.1) (refl, fits_in_range (neg_ℤ a) y.0))

-- So the outcome that there is is each that it could be.
pub exactly_unary : (operator : UnaryOperator) (operand : Value) (x y : Result Value OperatorFault) → UnaryIsOutcome operator operand x → (x ≡ y) ↔ UnaryIsOutcome operator operand y
exactly_unary operator operand x y h = (λ e. subst (UnaryIsOutcome operator operand) e h, λ k. one_unary_outcome operator operand x y h k)
