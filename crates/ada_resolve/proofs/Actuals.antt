-- An operator between operands is no path.

use Rattle.std.proofs.Common.{◌≡◌, List, [], ◌∷◌, length, Option, Some, None, false, ◌==◌, refl}
use Rattle.std.specs.Prelude.{pos}
use Rattle.ada_values.specs.declared.operator.BinaryOperator.{BinaryOperator}
use Rattle.ada_tree.specs.declared.expressions.Link.{Link}
use Rattle.ada_tree.specs.Expressions.{ExpressionTree, binary_expression, expression_argument, expression_right}
use Rattle.ada_tree.specs.Names.{Ident}
use Rattle.ada_program.specs.Form.{in_value, integer}
use Rattle.ada_program.specs.declared.program.FormalMode.TheVariants.{InOut}
use Rattle.ada_program.specs.declared.program.TypeNo.{TypeNo}
use Rattle.ada_program.specs.declared.program.VariableKind.{VariableKind}
use Rattle.ada_tree.specs.ExpressionView.{expression_of, linked}
use Rattle.ada_resolve.specs.declared.calls.Callee.{Callee}
use Rattle.ada_resolve.specs.declared.fault.NameRule.TheVariants.{WrongType, NoInitialValue}
use Rattle.ada_resolve.specs.Actuals.{given_meant, given_remark, is_path}
use Rattle.ada_resolve.specs.Borrowers.{lender_found, lender_remark}
use Rattle.ada_resolve.specs.Calls.{actual_found, actual_remark}
use Rattle.ada_resolve.specs.Expressions.{expression_remark}
use Rattle.ada_resolve.specs.Known.{Known}
use Rattle.ada_resolve.specs.Remark.{fine, wrong, both}
use Rattle.ada_resolve.specs.Spots.{expression_spot}

binary_found : (known : Known) (taker : Callee) (operator : BinaryOperator) (left right : ExpressionTree) (links : List Link) → actual_found known taker (expression_argument (linked (binary_expression operator left right) links)) ≡ None
binary_found known taker operator left right [] = refl
binary_found known taker operator left right (link ∷ links) =
    binary_found known taker link.operator (binary_expression operator left right) (expression_of link.operand) links

binary_remark : (known : Known) (taker : Callee) (operator : BinaryOperator) (left right : ExpressionTree) (links : List Link) → actual_remark known taker (expression_argument (linked (binary_expression operator left right) links)) ≡ both (wrong (expression_spot (linked (binary_expression operator left right) links)) WrongType) (expression_remark known (linked (binary_expression operator left right) links))
binary_remark known taker operator left right [] = refl
binary_remark known taker operator left right (link ∷ links) =
    binary_remark known taker link.operator (binary_expression operator left right) (expression_of link.operand) links

-- nothing is done with a chain of operators
pub linked_found : (known : Known) (taker : Callee) (left : ExpressionTree) (links : List Link) → (length links == 0) ≡ false → actual_found known taker (expression_argument (linked left links)) ≡ None
linked_found known taker left [] e = absurd cc
linked_found known taker left (link ∷ links) e = binary_found known taker link.operator left (expression_of link.operand) links

-- it is of the wrong kind
pub linked_remark : (known : Known) (taker : Callee) (left : ExpressionTree) (links : List Link) → (length links == 0) ≡ false → actual_remark known taker (expression_argument (linked left links)) ≡ both (wrong (expression_spot (linked left links)) WrongType) (expression_remark known (linked left links))
linked_remark known taker left [] e = absurd cc
linked_remark known taker left (link ∷ links) e = binary_remark known taker link.operator left (expression_of link.operand) links

binary_given : (known : Known) (operator : BinaryOperator) (left right : ExpressionTree) (links : List Link) → given_meant known InOut (expression_argument (linked (binary_expression operator left right) links)) ≡ in_value (integer (pos 0))
binary_given known operator left right [] = refl
binary_given known operator left right (link ∷ links) =
    binary_given known link.operator (binary_expression operator left right) (expression_of link.operand) links

binary_given_remark : (known : Known) (kind : VariableKind) (operator : BinaryOperator) (left right : ExpressionTree) (links : List Link) → given_remark known InOut kind (expression_argument (linked (binary_expression operator left right) links)) ≡ both (wrong (expression_spot (linked (binary_expression operator left right) links)) WrongType) (expression_remark known (linked (binary_expression operator left right) links))
binary_given_remark known kind operator left right [] = refl
binary_given_remark known kind operator left right (link ∷ links) =
    binary_given_remark known kind link.operator (binary_expression operator left right) (expression_of link.operand) links

-- a chain of operators gives no variable
pub linked_given : (known : Known) (left : ExpressionTree) (links : List Link) → (length links == 0) ≡ false → given_meant known InOut (expression_argument (linked left links)) ≡ in_value (integer (pos 0))
linked_given known left [] e = absurd cc
linked_given known left (link ∷ links) e = binary_given known link.operator left (expression_of link.operand) links

-- it is of the wrong kind for a formal parameter of mode `in out`
pub linked_given_remark : (known : Known) (kind : VariableKind) (left : ExpressionTree) (links : List Link) → (length links == 0) ≡ false → given_remark known InOut kind (expression_argument (linked left links)) ≡ both (wrong (expression_spot (linked left links)) WrongType) (expression_remark known (linked left links))
linked_given_remark known kind left [] e = absurd cc
linked_given_remark known kind left (link ∷ links) e = binary_given_remark known kind link.operator left (expression_of link.operand) links

binary_path : (operator : BinaryOperator) (left right : ExpressionTree) (links : List Link) → is_path (linked (binary_expression operator left right) links) ≡ false
binary_path operator left right [] = refl
binary_path operator left right (link ∷ links) = binary_path link.operator (binary_expression operator left right) (expression_of link.operand) links

-- a chain of operators is no path
pub linked_path : (left : ExpressionTree) (links : List Link) → (length links == 0) ≡ false → is_path (linked left links) ≡ false
linked_path left [] e = absurd cc
linked_path left (link ∷ links) e = binary_path link.operator left (expression_of link.operand) links

binary_lender_found : (known : Known) (operator : BinaryOperator) (left right : ExpressionTree) (links : List Link) → lender_found known (Some (expression_right (linked (binary_expression operator left right) links))) ≡ None
binary_lender_found known operator left right [] = refl
binary_lender_found known operator left right (link ∷ links) =
    binary_lender_found known link.operator (binary_expression operator left right) (expression_of link.operand) links

binary_lender_remark : (known : Known) (name : Ident) (designated : Option TypeNo) (operator : BinaryOperator) (left right : ExpressionTree) (links : List Link) → lender_remark known name designated (Some (expression_right (linked (binary_expression operator left right) links))) ≡ both (both (expression_remark known (linked (binary_expression operator left right) links)) (both fine fine)) (wrong name.spot NoInitialValue)
binary_lender_remark known name designated operator left right [] = refl
binary_lender_remark known name designated operator left right (link ∷ links) =
    binary_lender_remark known name designated link.operator (binary_expression operator left right) (expression_of link.operand) links

-- nothing is borrowed from a chain of operators
pub linked_lender_found : (known : Known) (left : ExpressionTree) (links : List Link) → (length links == 0) ≡ false → lender_found known (Some (expression_right (linked left links))) ≡ None
linked_lender_found known left [] e = absurd cc
linked_lender_found known left (link ∷ links) e = binary_lender_found known link.operator left (expression_of link.operand) links

-- it is no initial value of a borrower
pub linked_lender_remark : (known : Known) (name : Ident) (designated : Option TypeNo) (left : ExpressionTree) (links : List Link) → (length links == 0) ≡ false → lender_remark known name designated (Some (expression_right (linked left links))) ≡ both (both (expression_remark known (linked left links)) (both fine fine)) (wrong name.spot NoInitialValue)
linked_lender_remark known name designated left [] e = absurd cc
linked_lender_remark known name designated left (link ∷ links) e = binary_lender_remark known name designated link.operator left (expression_of link.operand) links
