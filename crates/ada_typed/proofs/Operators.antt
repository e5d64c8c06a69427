-- Operators: on operands of the types that they take they give a value of their type, or raise an exception.

use Rattle.ada_typed.specs.Holding.{Cells, HasKind}
use Rattle.std.proofs.Common.{◌≡◌, ℤ, neg_ℤ, ◌+ℤ◌, ◌-ℤ◌, ◌*ℤ◌, int_div, int_rem, not, cond, ◌&&◌, Bool, true, false, Option, Some, None, Result, Ok, Err, refl, sym, ap, ◌∙◌, subst, List}
use Rattle.ada_values.specs.declared.operator.UnaryOperator.{UnaryOperator}
use Rattle.ada_values.specs.declared.operator.UnaryOperator.TheVariants as unary
use Rattle.ada_values.specs.declared.operator.BinaryOperator.{BinaryOperator}
use Rattle.ada_values.specs.declared.operator.BinaryOperator.TheVariants as binary
use Rattle.ada_values.specs.declared.value.Value.{Value as ScalarValue}
use Rattle.ada_values.specs.declared.value.Value.TheVariants as scalar
use Rattle.ada_values.specs.declared.fault.OperatorFault.{OperatorFault}
use Rattle.ada_values.specs.declared.fault.OperatorFault.TheVariants.{Overflow, DivisionByZero, WrongType}
use Rattle.ada_values.specs.Outcome.{unless_overflow, unless_zero, modulus, outcome_of_integers, outcome_of_booleans, outcome_of, unary_outcome_of}
use Rattle.ada_program.specs.declared.program.ScalarType.{ScalarType}
use Rattle.ada_program.specs.declared.program.ScalarType.TheVariants.{Integer, Boolean}
use Rattle.ada_program.specs.Form.{LinksForm, no_more_links, a_link}
use Rattle.ada_program.specs.ProgramForm.{TypeForm, VariableForm}
use Rattle.ada_program.specs.WellFormed.{is_type, given_two, given_alike, unary_type, binary_type, type_of, chain_type}
use Rattle.ada_meaning.specs.declared.state.Id.{Id}
use Rattle.ada_meaning.specs.declared.state.Place.{Place}
use Rattle.ada_meaning.specs.declared.state.Value.{Value}
use Rattle.ada_meaning.specs.declared.state.Value.TheVariants.{Null, Names, Scalar, Part}
use Rattle.ada_meaning.specs.Step.{is_decided}
use Rattle.ada_meaning.specs.Named.{named, as_value, unary_given, binary_given}
use Rattle.ada_typed.proofs.Values.{kind_of}

-- Of two conditions that hold, each does.
pub and_left : (a b : Bool) → (a && b) ≡ true → a ≡ true
and_left true b h = refl
and_left false b h = absurd (cc)

pub and_right : (a b : Bool) → (a && b) ≡ true → b ≡ true
and_right true b h = h
and_right false b h = absurd (cc)

-- Types that are wanted.
pub typed : (t : ScalarType) (o : Option ScalarType) → is_type t o ≡ true → o ≡ Some t
typed Integer None h = absurd (cc)
typed Integer (Some Integer) h = refl
typed Integer (Some Boolean) h = absurd (cc)
typed Boolean None h = absurd (cc)
typed Boolean (Some Integer) h = absurd (cc)
typed Boolean (Some Boolean) h = refl

pub unary_operand : (operator : UnaryOperator) (o : Option ScalarType) (t : ScalarType) → unary_type operator o ≡ Some t → (t0 : ScalarType) × (o ≡ Some t0)
unary_operand operator (Some t0) t h = (t0, refl)
unary_operand unary.Plus None t h = absurd (cc)
unary_operand unary.Minus None t h = absurd (cc)
unary_operand unary.Not None t h = absurd (cc)

two_none : {X : Type 0} (taken given left t : ScalarType) → given_two taken given (Some left) None ≡ Some t → X
two_none Integer given Integer t h = absurd (cc)
two_none Integer given Boolean t h = absurd (cc)
two_none Boolean given Integer t h = absurd (cc)
two_none Boolean given Boolean t h = absurd (cc)

alike_none : {X : Type 0} (left t : ScalarType) → given_alike (Some left) None ≡ Some t → X
alike_none Integer t h = absurd (cc)
alike_none Boolean t h = absurd (cc)

pub binary_operand : (operator : BinaryOperator) (left : ScalarType) (o : Option ScalarType) (t : ScalarType) → binary_type operator (Some left) o ≡ Some t → (t1 : ScalarType) × (o ≡ Some t1)
binary_operand operator left (Some t1) t h = (t1, refl)
binary_operand binary.And left None t h = two_none Boolean Boolean left t h
binary_operand binary.Or left None t h = two_none Boolean Boolean left t h
binary_operand binary.Xor left None t h = two_none Boolean Boolean left t h
binary_operand binary.AndThen left None t h = two_none Boolean Boolean left t h
binary_operand binary.OrElse left None t h = two_none Boolean Boolean left t h
binary_operand binary.Equal left None t h = alike_none left t h
binary_operand binary.NotEqual left None t h = alike_none left t h
binary_operand binary.Less left None t h = two_none Integer Boolean left t h
binary_operand binary.LessOrEqual left None t h = two_none Integer Boolean left t h
binary_operand binary.Greater left None t h = two_none Integer Boolean left t h
binary_operand binary.GreaterOrEqual left None t h = two_none Integer Boolean left t h
binary_operand binary.Add left None t h = two_none Integer Integer left t h
binary_operand binary.Subtract left None t h = two_none Integer Integer left t h
binary_operand binary.Multiply left None t h = two_none Integer Integer left t h
binary_operand binary.Divide left None t h = two_none Integer Integer left t h
binary_operand binary.Modulo left None t h = two_none Integer Integer left t h
binary_operand binary.Remainder left None t h = two_none Integer Integer left t h

binary_none : (operator : BinaryOperator) (o : Option ScalarType) → binary_type operator None o ≡ None
binary_none binary.And o = refl
binary_none binary.Or o = refl
binary_none binary.Xor o = refl
binary_none binary.AndThen o = refl
binary_none binary.OrElse o = refl
binary_none binary.Equal o = refl
binary_none binary.NotEqual o = refl
binary_none binary.Less o = refl
binary_none binary.LessOrEqual o = refl
binary_none binary.Greater o = refl
binary_none binary.GreaterOrEqual o = refl
binary_none binary.Add o = refl
binary_none binary.Subtract o = refl
binary_none binary.Multiply o = refl
binary_none binary.Divide o = refl
binary_none binary.Modulo o = refl
binary_none binary.Remainder o = refl

chain_none : (types : List TypeForm) (vs : List VariableForm) (links : LinksForm) → chain_type types vs None links ≡ None
chain_none types vs no_more_links = refl
chain_none types vs (a_link operator e links) = ap (λ (o : Option ScalarType). chain_type types vs o links) (binary_none operator (type_of types vs e)) ∙ chain_none types vs links

pub chain_left : (types : List TypeForm) (vs : List VariableForm) (o : Option ScalarType) (links : LinksForm) (t : ScalarType) → chain_type types vs o links ≡ Some t → (t0 : ScalarType) × (o ≡ Some t0)
chain_left types vs (Some t0) links t h = (t0, refl)
chain_left types vs None links t h = let never : None ≡ Some t = sym (chain_none types vs links) ∙ h in absurd (cc)

-- Where the left operand decides, it is the value.
two_left : (t0 t1 t : ScalarType) → given_two Boolean Boolean (Some t0) (Some t1) ≡ Some t → t0 ≡ t
two_left Integer t1 t h = absurd (cc)
two_left Boolean Integer t h = absurd (cc)
two_left Boolean Boolean t h = cc

pub decided_same : (operator : BinaryOperator) (truth : Option Bool) (t0 t1 t : ScalarType) → is_decided named operator truth ≡ true → binary_type operator (Some t0) (Some t1) ≡ Some t → t0 ≡ t
decided_same binary.AndThen truth t0 t1 t d h = two_left t0 t1 t h
decided_same binary.OrElse truth t0 t1 t d h = two_left t0 t1 t h
decided_same binary.And truth t0 t1 t d h = absurd (cc)
decided_same binary.Or truth t0 t1 t d h = absurd (cc)
decided_same binary.Xor truth t0 t1 t d h = absurd (cc)
decided_same binary.Equal truth t0 t1 t d h = absurd (cc)
decided_same binary.NotEqual truth t0 t1 t d h = absurd (cc)
decided_same binary.Less truth t0 t1 t d h = absurd (cc)
decided_same binary.LessOrEqual truth t0 t1 t d h = absurd (cc)
decided_same binary.Greater truth t0 t1 t d h = absurd (cc)
decided_same binary.GreaterOrEqual truth t0 t1 t d h = absurd (cc)
decided_same binary.Add truth t0 t1 t d h = absurd (cc)
decided_same binary.Subtract truth t0 t1 t d h = absurd (cc)
decided_same binary.Multiply truth t0 t1 t d h = absurd (cc)
decided_same binary.Divide truth t0 t1 t d h = absurd (cc)
decided_same binary.Modulo truth t0 t1 t d h = absurd (cc)
decided_same binary.Remainder truth t0 t1 t d h = absurd (cc)

-- What comes of an operator is a value of this type, or an exception.
abbrev IsOf : ScalarType → ScalarValue → Type 0
IsOf Integer (scalar.Integer i) = Unit {0}
IsOf Integer (scalar.Boolean b) = ⊥
IsOf Boolean (scalar.Integer i) = ⊥
IsOf Boolean (scalar.Boolean b) = Unit {0}

abbrev Comes : ScalarType → Result ScalarValue OperatorFault → Type 0
Comes t (Ok v) = IsOf t v
Comes t (Err Overflow) = Unit {0}
Comes t (Err DivisionByZero) = Unit {0}
Comes t (Err WrongType) = ⊥

come_as : (t u : ScalarType) (outcome : Result ScalarValue OperatorFault) → Some t ≡ Some u → Comes t outcome → Comes u outcome
come_as t u outcome e h = let same : t ≡ u = cc in subst (λ (x : ScalarType). Comes x outcome) same h

cond_comes : (b : Bool) (z : ℤ) → Comes Integer (cond b (Ok (scalar.Integer z)) (Err Overflow))
cond_comes true z = tt
cond_comes false z = tt

unless_comes : (b : Bool) (outcome : Result ScalarValue OperatorFault) → Comes Integer outcome → Comes Integer (cond b (Err DivisionByZero) outcome)
unless_comes true outcome h = tt
unless_comes false outcome h = h

overflow_comes : (z : ℤ) → Comes Integer (unless_overflow z)
overflow_comes z = cond_comes _ z

zero_comes : (b z : ℤ) → Comes Integer (unless_zero b z)
zero_comes b z = unless_comes _ (unless_overflow z) (overflow_comes z)

integers_come : (operator : BinaryOperator) (a b : ℤ) (t : ScalarType) → binary_type operator (Some Integer) (Some Integer) ≡ Some t → Comes t (outcome_of_integers operator a b)
integers_come binary.And a b t h = absurd (cc)
integers_come binary.Or a b t h = absurd (cc)
integers_come binary.Xor a b t h = absurd (cc)
integers_come binary.AndThen a b t h = absurd (cc)
integers_come binary.OrElse a b t h = absurd (cc)
integers_come binary.Equal a b t h = come_as Boolean t (outcome_of_integers binary.Equal a b) h tt
integers_come binary.NotEqual a b t h = come_as Boolean t (outcome_of_integers binary.NotEqual a b) h tt
integers_come binary.Less a b t h = come_as Boolean t (outcome_of_integers binary.Less a b) h tt
integers_come binary.LessOrEqual a b t h = come_as Boolean t (outcome_of_integers binary.LessOrEqual a b) h tt
integers_come binary.Greater a b t h = come_as Boolean t (outcome_of_integers binary.Greater a b) h tt
integers_come binary.GreaterOrEqual a b t h = come_as Boolean t (outcome_of_integers binary.GreaterOrEqual a b) h tt
integers_come binary.Add a b t h = come_as Integer t (outcome_of_integers binary.Add a b) h (overflow_comes (a +ℤ b))
integers_come binary.Subtract a b t h = come_as Integer t (outcome_of_integers binary.Subtract a b) h (overflow_comes (a -ℤ b))
integers_come binary.Multiply a b t h = come_as Integer t (outcome_of_integers binary.Multiply a b) h (overflow_comes (a *ℤ b))
integers_come binary.Divide a b t h = come_as Integer t (outcome_of_integers binary.Divide a b) h (zero_comes b (int_div a b))
integers_come binary.Modulo a b t h = come_as Integer t (outcome_of_integers binary.Modulo a b) h (zero_comes b (modulus a b))
integers_come binary.Remainder a b t h = come_as Integer t (outcome_of_integers binary.Remainder a b) h (zero_comes b (int_rem a b))

booleans_come : (operator : BinaryOperator) (a b : Bool) (t : ScalarType) → binary_type operator (Some Boolean) (Some Boolean) ≡ Some t → Comes t (outcome_of_booleans operator a b)
booleans_come binary.And a b t h = come_as Boolean t (outcome_of_booleans binary.And a b) h tt
booleans_come binary.Or a b t h = come_as Boolean t (outcome_of_booleans binary.Or a b) h tt
booleans_come binary.Xor a b t h = come_as Boolean t (outcome_of_booleans binary.Xor a b) h tt
booleans_come binary.AndThen a b t h = come_as Boolean t (outcome_of_booleans binary.AndThen a b) h tt
booleans_come binary.OrElse a b t h = come_as Boolean t (outcome_of_booleans binary.OrElse a b) h tt
booleans_come binary.Equal a b t h = come_as Boolean t (outcome_of_booleans binary.Equal a b) h tt
booleans_come binary.NotEqual a b t h = come_as Boolean t (outcome_of_booleans binary.NotEqual a b) h tt
booleans_come binary.Less a b t h = absurd (cc)
booleans_come binary.LessOrEqual a b t h = absurd (cc)
booleans_come binary.Greater a b t h = absurd (cc)
booleans_come binary.GreaterOrEqual a b t h = absurd (cc)
booleans_come binary.Add a b t h = absurd (cc)
booleans_come binary.Subtract a b t h = absurd (cc)
booleans_come binary.Multiply a b t h = absurd (cc)
booleans_come binary.Divide a b t h = absurd (cc)
booleans_come binary.Modulo a b t h = absurd (cc)
booleans_come binary.Remainder a b t h = absurd (cc)

-- Two operands of an operator are of one type.
two_alike : (taken given l r t : ScalarType) → given_two taken given (Some l) (Some r) ≡ Some t → l ≡ r
two_alike Integer given Integer Integer t h = refl
two_alike Integer given Integer Boolean t h = absurd (cc)
two_alike Integer given Boolean r t h = absurd (cc)
two_alike Boolean given Integer r t h = absurd (cc)
two_alike Boolean given Boolean Integer t h = absurd (cc)
two_alike Boolean given Boolean Boolean t h = refl

any_alike : (l r t : ScalarType) → given_alike (Some l) (Some r) ≡ Some t → l ≡ r
any_alike Integer Integer t h = refl
any_alike Integer Boolean t h = absurd (cc)
any_alike Boolean Integer t h = absurd (cc)
any_alike Boolean Boolean t h = refl

operands_alike : (operator : BinaryOperator) (l r t : ScalarType) → binary_type operator (Some l) (Some r) ≡ Some t → l ≡ r
operands_alike binary.And l r t h = two_alike Boolean Boolean l r t h
operands_alike binary.Or l r t h = two_alike Boolean Boolean l r t h
operands_alike binary.Xor l r t h = two_alike Boolean Boolean l r t h
operands_alike binary.AndThen l r t h = two_alike Boolean Boolean l r t h
operands_alike binary.OrElse l r t h = two_alike Boolean Boolean l r t h
operands_alike binary.Equal l r t h = any_alike l r t h
operands_alike binary.NotEqual l r t h = any_alike l r t h
operands_alike binary.Less l r t h = two_alike Integer Boolean l r t h
operands_alike binary.LessOrEqual l r t h = two_alike Integer Boolean l r t h
operands_alike binary.Greater l r t h = two_alike Integer Boolean l r t h
operands_alike binary.GreaterOrEqual l r t h = two_alike Integer Boolean l r t h
operands_alike binary.Add l r t h = two_alike Integer Integer l r t h
operands_alike binary.Subtract l r t h = two_alike Integer Integer l r t h
operands_alike binary.Multiply l r t h = two_alike Integer Integer l r t h
operands_alike binary.Divide l r t h = two_alike Integer Integer l r t h
operands_alike binary.Modulo l r t h = two_alike Integer Integer l r t h
operands_alike binary.Remainder l r t h = two_alike Integer Integer l r t h

binary_comes : (operator : BinaryOperator) (l r t : ScalarType) (a b : ScalarValue) → binary_type operator (Some l) (Some r) ≡ Some t → IsOf l a → IsOf r b → Comes t (outcome_of operator a b)
unfolding outcome_of
binary_comes operator Integer Integer t (scalar.Integer a) (scalar.Integer b) h f g = integers_come operator a b t h
binary_comes operator Integer Integer t (scalar.Integer a) (scalar.Boolean b) h f g = absurd g
binary_comes operator Integer Integer t (scalar.Boolean a) b h f g = absurd f
binary_comes operator Boolean Boolean t (scalar.Boolean a) (scalar.Boolean b) h f g = booleans_come operator a b t h
binary_comes operator Boolean Boolean t (scalar.Boolean a) (scalar.Integer b) h f g = absurd g
binary_comes operator Boolean Boolean t (scalar.Integer a) b h f g = absurd f
binary_comes operator Integer Boolean t a b h f g = let never : Integer ≡ Boolean = operands_alike operator Integer Boolean t h in absurd (cc)
binary_comes operator Boolean Integer t a b h f g = let never : Boolean ≡ Integer = operands_alike operator Boolean Integer t h in absurd (cc)

unary_comes : (operator : UnaryOperator) (t0 t : ScalarType) (a : ScalarValue) → unary_type operator (Some t0) ≡ Some t → IsOf t0 a → Comes t (unary_outcome_of operator a)
unfolding unary_outcome_of
unary_comes unary.Plus Integer t (scalar.Integer a) h f = come_as Integer t (Ok (scalar.Integer a)) h tt
unary_comes unary.Plus Integer t (scalar.Boolean a) h f = absurd f
unary_comes unary.Plus Boolean t a h f = absurd (cc)
unary_comes unary.Minus Integer t (scalar.Integer a) h f = come_as Integer t (unless_overflow (neg_ℤ a)) h (overflow_comes (neg_ℤ a))
unary_comes unary.Minus Integer t (scalar.Boolean a) h f = absurd f
unary_comes unary.Minus Boolean t a h f = absurd (cc)
unary_comes unary.Not Integer t a h f = absurd (cc)
unary_comes unary.Not Boolean t (scalar.Integer a) h f = absurd f
unary_comes unary.Not Boolean t (scalar.Boolean a) h f = come_as Boolean t (Ok (scalar.Boolean (not a))) h tt

-- The same over the values of a run.
abbrev pub GivesKind : List TypeForm → Cells → ScalarType → Result Value OperatorFault → Type 0
GivesKind types cells t (Ok v) = HasKind types cells (kind_of t) v
GivesKind types cells t (Err Overflow) = Unit {0}
GivesKind types cells t (Err DivisionByZero) = Unit {0}
GivesKind types cells t (Err WrongType) = ⊥

is_of : (types : List TypeForm) (cells : Cells) (t : ScalarType) (v : ScalarValue) → HasKind types cells (kind_of t) (Scalar v) → IsOf t v
is_of types cells Integer (scalar.Integer i) h = tt
is_of types cells Integer (scalar.Boolean b) h = h
is_of types cells Boolean (scalar.Integer i) h = h
is_of types cells Boolean (scalar.Boolean b) h = tt

kind_is : (types : List TypeForm) (cells : Cells) (t : ScalarType) (v : ScalarValue) → IsOf t v → HasKind types cells (kind_of t) (Scalar v)
kind_is types cells Integer (scalar.Integer i) h = tt
kind_is types cells Integer (scalar.Boolean b) h = h
kind_is types cells Boolean (scalar.Integer i) h = h
kind_is types cells Boolean (scalar.Boolean b) h = tt

gives : (types : List TypeForm) (cells : Cells) (t : ScalarType) (outcome : Result ScalarValue OperatorFault) → Comes t outcome → GivesKind types cells t (as_value outcome)
gives types cells t (Ok v) h = kind_is types cells t v h
gives types cells t (Err Overflow) h = tt
gives types cells t (Err DivisionByZero) h = tt
gives types cells t (Err WrongType) h = h

-- A scalar is one.
no_null : (types : List TypeForm) (cells : Cells) (t : ScalarType) → HasKind types cells (kind_of t) Null → ⊥
no_null types cells Integer h = h
no_null types cells Boolean h = h

no_name : (types : List TypeForm) (cells : Cells) (t : ScalarType) (o : Id) → HasKind types cells (kind_of t) (Names o) → ⊥
no_name types cells Integer o h = h
no_name types cells Boolean o h = h

no_part : (types : List TypeForm) (cells : Cells) (t : ScalarType) (o : Id) (place : Place) → HasKind types cells (kind_of t) (Part o place) → ⊥
no_part types cells Integer o place h = h
no_part types cells Boolean o place h = h

pub unary_gives : (types : List TypeForm) (cells : Cells) (operator : UnaryOperator) (t0 t : ScalarType) (v : Value) → unary_type operator (Some t0) ≡ Some t → HasKind types cells (kind_of t0) v → GivesKind types cells t (unary_given operator v)
unary_gives types cells operator t0 t Null h k = absurd (no_null types cells t0 k)
unary_gives types cells operator t0 t (Names o) h k = absurd (no_name types cells t0 o k)
unary_gives types cells operator t0 t (Part o place) h k = absurd (no_part types cells t0 o place k)
unary_gives types cells operator t0 t (Scalar a) h k = gives types cells t (unary_outcome_of operator a) (unary_comes operator t0 t a h (is_of types cells t0 a k))

pub binary_gives : (types : List TypeForm) (cells : Cells) (operator : BinaryOperator) (l r t : ScalarType) (u v : Value) → binary_type operator (Some l) (Some r) ≡ Some t → HasKind types cells (kind_of l) u → HasKind types cells (kind_of r) v → GivesKind types cells t (binary_given operator u v)
binary_gives types cells operator l r t Null v h f g = absurd (no_null types cells l f)
binary_gives types cells operator l r t (Names o) v h f g = absurd (no_name types cells l o f)
binary_gives types cells operator l r t (Part o place) v h f g = absurd (no_part types cells l o place f)
binary_gives types cells operator l r t (Scalar a) Null h f g = absurd (no_null types cells r g)
binary_gives types cells operator l r t (Scalar a) (Names o) h f g = absurd (no_name types cells r o g)
binary_gives types cells operator l r t (Scalar a) (Part o place) h f g = absurd (no_part types cells r o place g)
binary_gives types cells operator l r t (Scalar a) (Scalar b) h f g = gives types cells t (outcome_of operator a b) (binary_comes operator l r t a b h (is_of types cells l a f) (is_of types cells r b g))
