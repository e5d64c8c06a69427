-- The types of expressions, and the variables that they name.

use Rattle.std.proofs.Common.{◌≡◌, ◌∙◌, ℕ, ◌<◌, true, cond, List, [], ◌∷◌, length, refl, sym, zero, suc, arith}
use Rattle.std.specs.Prelude.{Option, Some, None, is_some, nat_lt}
use Rattle.std.proofs.lemmas.Bool.{lt-ltb}
use Rattle.ada_values.specs.declared.operator.UnaryOperator.{UnaryOperator}
use Rattle.ada_values.specs.declared.operator.UnaryOperator.TheVariants as unary
use Rattle.ada_values.specs.declared.operator.BinaryOperator.{BinaryOperator}
use Rattle.ada_values.specs.declared.operator.BinaryOperator.TheVariants as binary
use Rattle.ada_program.specs.declared.program.VariableKind.{VariableKind}
use Rattle.ada_program.specs.declared.program.ScalarType.{ScalarType}
use Rattle.ada_program.specs.declared.program.ScalarType.TheVariants.{Integer, Boolean}
use Rattle.ada_program.specs.Form.{PathForm, ExpressionForm, integer, boolean, reads, is_null, applied_to, chained, LinksForm, no_more_links, a_link}
use Rattle.ada_program.specs.ProgramForm.{TypeForm, VariableForm}
use Rattle.ada_program.specs.WellFormed as fits
use Rattle.ada_resolve.specs.Operators.{Signature, arithmetic, ordering, equality, logical, signature_of, one_link_more, joined}
use Rattle.ada_resolve.proofs.WellFormed.Tables.{both_parts}

-- the type that an operator gives, by what it wants
abbrev pub typed_as : Signature → Option ScalarType → Option ScalarType → Option ScalarType
typed_as arithmetic left right = fits.given_two Integer Integer left right
typed_as ordering left right = fits.given_two Integer Boolean left right
typed_as equality left right = fits.given_alike left right
typed_as logical left right = fits.given_two Boolean Boolean left right

pub typed_by : (o : BinaryOperator) (left right : Option ScalarType) → fits.binary_type o left right ≡ typed_as (signature_of o) left right
typed_by binary.And left right = refl
typed_by binary.Or left right = refl
typed_by binary.Xor left right = refl
typed_by binary.AndThen left right = refl
typed_by binary.OrElse left right = refl
typed_by binary.Equal left right = refl
typed_by binary.NotEqual left right = refl
typed_by binary.Less left right = refl
typed_by binary.LessOrEqual left right = refl
typed_by binary.Greater left right = refl
typed_by binary.GreaterOrEqual left right = refl
typed_by binary.Add left right = refl
typed_by binary.Subtract left right = refl
typed_by binary.Multiply left right = refl
typed_by binary.Divide left right = refl
typed_by binary.Modulo left right = refl
typed_by binary.Remainder left right = refl

-- where an operator gives a type, its operands have one
abbrev pub IsTyped : Option ScalarType → Type 0
IsTyped o = (t : ScalarType) × (o ≡ Some t)

left_untyped : (s : Signature) (right : Option ScalarType) (t : ScalarType) → typed_as s None right ≡ Some t → ⊥
left_untyped arithmetic right t e = (cc e)
left_untyped ordering right t e = (cc e)
left_untyped equality right t e = (cc e)
left_untyped logical right t e = (cc e)

right_untyped : (s : Signature) (left t : ScalarType) → typed_as s (Some left) None ≡ Some t → ⊥
right_untyped arithmetic Integer t e = (cc e)
right_untyped arithmetic Boolean t e = (cc e)
right_untyped ordering Integer t e = (cc e)
right_untyped ordering Boolean t e = (cc e)
right_untyped equality Integer t e = (cc e)
right_untyped equality Boolean t e = (cc e)
right_untyped logical Integer t e = (cc e)
right_untyped logical Boolean t e = (cc e)

operands_typed : (s : Signature) (left right : Option ScalarType) (t : ScalarType) → typed_as s left right ≡ Some t → IsTyped left × IsTyped right
operands_typed s None right t e = absurd (left_untyped s right t e)
operands_typed s (Some left) None t e = absurd (right_untyped s left t e)
operands_typed s (Some left) (Some right) t e = ((left, refl), (right, refl))

binary_typed : (o : BinaryOperator) (left right : Option ScalarType) (t : ScalarType) → fits.binary_type o left right ≡ Some t → IsTyped left × IsTyped right
binary_typed o left right t e = operands_typed (signature_of o) left right t (sym (typed_by o left right) ∙ e)

pub unary_typed : (o : UnaryOperator) (operand : Option ScalarType) (t : ScalarType) → fits.unary_type o operand ≡ Some t → IsTyped operand
unary_typed o (Some s) t e = (s, refl)
unary_typed unary.Plus None t e = absurd (cc e)
unary_typed unary.Minus None t e = absurd (cc e)
unary_typed unary.Not None t e = absurd (cc e)

-- what stands before links has a type
pub left_typed : (types : List TypeForm) (variables : List VariableForm) (links : LinksForm) (left : Option ScalarType) (t : ScalarType) → fits.chain_type types variables left links ≡ Some t → IsTyped left
left_typed types variables no_more_links left t e = (t, e)
left_typed types variables (a_link o right links) left t e =
    let more = left_typed types variables links (fits.binary_type o left (fits.type_of types variables right)) t e in
    (binary_typed o left (fits.type_of types variables right) more.0 more.1).0

-- and so has the first operand of links
pub operand_typed : (types : List TypeForm) (variables : List VariableForm) (o : BinaryOperator) (right : ExpressionForm) (links : LinksForm) (left : Option ScalarType) (t : ScalarType) → fits.chain_type types variables left (a_link o right links) ≡ Some t → IsTyped (fits.type_of types variables right)
operand_typed types variables o right links left t e =
    let more = left_typed types variables links (fits.binary_type o left (fits.type_of types variables right)) t e in
    (binary_typed o left (fits.type_of types variables right) more.0 more.1).1

-- an object that holds something is declared
kind_within : (variables : List VariableForm) (x : ℕ) (k : VariableKind) → fits.variable_kind variables x ≡ Some k → x < length variables
kind_within [] x k e = absurd (cc e)
kind_within (y ∷ variables) zero k e = omega arith
kind_within (y ∷ variables) (suc x) k e = let h = kind_within variables x k e in omega arith

-- nothing is selected behind nothing
pub nowhere : (types : List TypeForm) (cs : List ℕ) → fits.selectors_kind types None cs ≡ None
nowhere types [] = refl
nowhere types (c ∷ cs) = nowhere types cs

-- where a path leads somewhere, its root is declared
pub path_before : (types : List TypeForm) (variables : List VariableForm) (path : PathForm) (k : VariableKind) → fits.path_kind types variables path ≡ Some k → nat_lt path.root (length variables) ≡ true
path_before types variables path k h = root_before (fits.variable_kind variables path.root) refl h
  where
    root_before : (found : Option VariableKind) → fits.variable_kind variables path.root ≡ found → fits.selectors_kind types (fits.root_kind path.of_record found) path.selectors ≡ Some k → nat_lt path.root (length variables) ≡ true
    root_before None is e = absurd (cc (nowhere types path.selectors, e))
    root_before (Some j) is e = lt-ltb path.root (length variables) (kind_within variables path.root j is)

-- what is read
read_before : (types : List TypeForm) (variables : List VariableForm) (path : PathForm) (t : ScalarType) → fits.read_type types variables path ≡ Some t → nat_lt path.root (length variables) ≡ true
read_before types variables path t h = by_kind (fits.path_kind types variables path) refl h
  where
    by_kind : (found : Option VariableKind) → fits.path_kind types variables path ≡ found → fits.scalar_of found ≡ Some t → nat_lt path.root (length variables) ≡ true
    by_kind None is e = absurd (cc e)
    by_kind (Some k) is e = path_before types variables path k is

-- what is compared with null
null_test_before : (types : List TypeForm) (variables : List VariableForm) (path : PathForm) (t : ScalarType) → fits.null_test_type types variables path ≡ Some t → nat_lt path.root (length variables) ≡ true
null_test_before types variables path t h = by_kind (fits.path_kind types variables path) refl h
  where
    by_kind : (found : Option VariableKind) → fits.path_kind types variables path ≡ found → cond (is_some (fits.value_access found)) (Some Boolean) None ≡ Some t → nat_lt path.root (length variables) ≡ true
    by_kind None is e = absurd (cc e)
    by_kind (Some k) is e = path_before types variables path k is

-- an expression with a type names declared objects
mutual
  pub typed_before : (types : List TypeForm) (variables : List VariableForm) (e : ExpressionForm) (t : ScalarType) → fits.type_of types variables e ≡ Some t → fits.expression_before (length variables) e ≡ true
  typed_before types variables (integer n) t h = refl
  typed_before types variables (boolean b) t h = refl
  typed_before types variables (reads path) t h = read_before types variables path t h
  typed_before types variables (is_null equal path) t h = null_test_before types variables path t h
  typed_before types variables (applied_to operator e) t h =
      let there = unary_typed operator (fits.type_of types variables e) t h in typed_before types variables e there.0 there.1
  typed_before types variables (chained e links) t h =
      let there = left_typed types variables links (fits.type_of types variables e) t h in
      both_parts (fits.expression_before (length variables) e) (fits.links_before (length variables) links)
      (typed_before types variables e there.0 there.1) (links_typed_before types variables links (fits.type_of types variables e) t h)

  links_typed_before : (types : List TypeForm) (variables : List VariableForm) (links : LinksForm) (left : Option ScalarType) (t : ScalarType) → fits.chain_type types variables left links ≡ Some t → fits.links_before (length variables) links ≡ true
  links_typed_before types variables no_more_links left t h = refl
  links_typed_before types variables (a_link operator e links) left t h =
      let there = operand_typed types variables operator e links left t h in
      both_parts (fits.expression_before (length variables) e) (fits.links_before (length variables) links)
      (typed_before types variables e there.0 there.1)
      (links_typed_before types variables links (fits.binary_type operator left (fits.type_of types variables e)) t h)

-- an operator that joins its operands gives the type that it gives with theirs
one_more_link : (types : List TypeForm) (variables : List VariableForm) (links : LinksForm) (left : Option ScalarType) (o : BinaryOperator) (right : ExpressionForm) → fits.chain_type types variables left (one_link_more links o right) ≡ fits.binary_type o (fits.chain_type types variables left links) (fits.type_of types variables right)
one_more_link types variables no_more_links left o right = refl
one_more_link types variables (a_link p e links) left o right = one_more_link types variables links (fits.binary_type p left (fits.type_of types variables e)) o right

pub joined_type : (types : List TypeForm) (variables : List VariableForm) (left : ExpressionForm) (o : BinaryOperator) (right : ExpressionForm) → fits.type_of types variables (joined left o right) ≡ fits.binary_type o (fits.type_of types variables left) (fits.type_of types variables right)
joined_type types variables (chained e links) o right = one_more_link types variables links (fits.type_of types variables e) o right
joined_type types variables left o right = refl

-- a type is this one
pub of_type : (t : ScalarType) (o : Option ScalarType) → fits.is_type t o ≡ true → o ≡ Some t
of_type t None e = absurd (cc e)
of_type Integer (Some Integer) e = refl
of_type Integer (Some Boolean) e = absurd (cc e)
of_type Boolean (Some Integer) e = absurd (cc e)
of_type Boolean (Some Boolean) e = refl

pub is_of_type : (t : ScalarType) (o : Option ScalarType) → o ≡ Some t → fits.is_type t o ≡ true
is_of_type Integer o e = rw e refl
is_of_type Boolean o e = rw e refl
