-- What operators give of two numbers, as the code finds it.

use Rattle.std.proofs.Common.{◌≡◌, ◌↔◌, ◌∙◌, List, [], ◌∷◌, length, Bool, true, false, IsTrue, ℤ, ◌≤ℤ◌, ◌<ℤ◌, int_lt, int_le, FitsSigned, w32, Option, Some, None, Ok, IfSome, refl, sym, ap, arith}
use Rattle.std.specs.Ordering.{int_eq}
use Rattle.std.specs.Prelude.{SomeIff}
use Rattle.std.proofs.lemmas.Int.{ints, by_lt_z}
use Rattle.std.proofs.lemmas.Bool.Decides.{Decides-int_eq, Decides-not}
use Rattle.ada_values.specs.declared.value.Value.TheVariants.{Integer, Boolean}
use Rattle.ada_values.specs.declared.operator.BinaryOperator.{BinaryOperator}
use Rattle.ada_values.specs.declared.operator.BinaryOperator.TheVariants as binary
use Rattle.ada_values.specs.Operators.{first_integer, last_integer, IsComparison}
use Rattle.ada_values.specs.Outcome.{unless_overflow, outcome_of}
use Rattle.ada_values.specs.declared.value.Value.{Value as ScalarValue}
use Rattle.ada_program.specs.declared.program.Link.{Link}
use Rattle.ada_program.specs.Form.{ExpressionForm, expression_form, LinksForm, links_form, no_more_links, a_link}
use Rattle.ada_meaning.specs.declared.state.Value.{Value}
use Rattle.ada_meaning.specs.Step.{is_decided}
use Rattle.ada_meaning.specs.Named.{named}
use Rattle.ada_interpreter.specs.AtOnce.{value_at_once, links_at_once, link_at_once, both_at_once, if_given}

-- one truth is the other, where both decide the same
same_truth : (P : Type 0) (t u : Bool) → IsTrue t ↔ P → IsTrue u ↔ P → t ≡ u
same_truth P true true h k = refl
same_truth P true false h k = sym (k.1 (h.0 refl))
same_truth P false true h k = h.1 (k.0 refl)
same_truth P false false h k = refl

below : (a b : ℤ) → IsTrue (int_lt a b) ↔ (a <ℤ b)
below a b = (λ e. by_lt_z a b (λ h. h) (λ h. grind (arith, ints)), λ h. grind (arith, ints))

at_most : (a b : ℤ) → IsTrue (int_le a b) ↔ (a ≤ℤ b)
at_most a b = (λ e. by_lt_z b a (λ h. grind (arith, ints)) (λ h. h), λ h. grind (arith, ints))

-- what an operator tells of two numbers (4.5.2)
pub told : (operator : BinaryOperator) (a b : ℤ) (t : Bool) → IsComparison operator a b t → outcome_of operator (Integer a) (Integer b) ≡ Ok (Boolean t)
unfolding outcome_of
told binary.Equal a b t h = ap (λ u. Ok (Boolean u)) (same_truth _ _ _ (Decides-int_eq a b) h)
told binary.NotEqual a b t h = ap (λ u. Ok (Boolean u)) (same_truth _ _ _ (Decides-not (int_eq a b) (Decides-int_eq a b)) h)
told binary.Less a b t h = ap (λ u. Ok (Boolean u)) (same_truth _ _ _ (below a b) h)
told binary.LessOrEqual a b t h = ap (λ u. Ok (Boolean u)) (same_truth _ _ _ (at_most a b) h)
told binary.Greater a b t h = ap (λ u. Ok (Boolean u)) (same_truth _ _ _ (below b a) h)
told binary.GreaterOrEqual a b t h = ap (λ u. Ok (Boolean u)) (same_truth _ _ _ (at_most b a) h)
told _ a b t h = absurd h

-- an exact result that is in range (4.5)
pub exact : (z : ℤ) (found : Option ℤ) → SomeIff found (FitsSigned w32 z) z → IfSome found (λ n. unless_overflow z ≡ Ok (Integer n))
exact z None s = tt
exact z (Some n) s =
    let fits = s.0.sfits in
    let low : int_le first_integer z ≡ true = grind (arith, ints, fits) in
    let high : int_le z last_integer ≡ true = grind (arith, ints, fits) in
    rw (low, high) (ap (λ m. Ok (Integer m)) (sym s.1))

-- a number decides no short-circuit form
undecided : (operator : BinaryOperator) → is_decided named operator None ≡ false
undecided binary.AndThen = refl
undecided binary.OrElse = refl
undecided _ = refl

-- the next operator of a chain gives a value of two numbers
pub linked : (places : List Value) (operator : BinaryOperator) (e : ExpressionForm) (links : LinksForm) (a b : ℤ) (v : ScalarValue) → value_at_once places e ≡ Some (Integer b) → outcome_of operator (Integer a) (Integer b) ≡ Ok v → links_at_once places (Some (Integer a)) (a_link operator e links) ≡ links_at_once places (Some v) links
linked places operator e links a b v right given =
    ap (λ d. links_at_once places (link_at_once d operator (Integer a) (value_at_once places e)) links) (undecided operator) ∙ (ap (λ w. links_at_once places (both_at_once operator (Integer a) w) links) right ∙ ap (λ r. links_at_once places (if_given r) links) given)

-- the last one compares them
pub compared : (places : List Value) (links behind : List Link) (link : Link) (a b : ℤ) (found : Option Bool) → links ≡ link ∷ behind → length behind ≡ 0 → value_at_once places (expression_form link.operand) ≡ Some (Integer b) → IfSome found (IsComparison link.operator a b) → IfSome found (λ truth. links_at_once places (Some (Integer a)) (links_form links) ≡ Some (Boolean truth))
compared places links behind link a b None is none right h = tt
compared places links (l ∷ behind) link a b (Some t) is none right h = absurd (omega (arith, none))
compared places links [] link a b (Some t) is none right h =
    ap (λ ls. links_at_once places (Some (Integer a)) (links_form ls)) is ∙ linked places link.operator (expression_form link.operand) no_more_links a b (Boolean t) right (told link.operator a b t h)
