-- Operators: what each means with its operands, and what is wrong with these.

use Rattle.std.specs.Prelude.{Bool, true, false, ◌==◌, not, List, pos}
use Rattle.ada_text.specs.declared.spot.Spot.{Spot}
use Rattle.ada_values.specs.declared.operator.UnaryOperator.{UnaryOperator}
use Rattle.ada_values.specs.declared.operator.UnaryOperator.TheVariants as unary
use Rattle.ada_values.specs.declared.operator.BinaryOperator.{BinaryOperator}
use Rattle.ada_values.specs.declared.operator.BinaryOperator.TheVariants as binary
use Rattle.ada_program.specs.Form.{ExpressionForm, integer, boolean, is_null, applied_to, chained, LinksForm, no_more_links, a_link}
use Rattle.ada_program.specs.ProgramForm.{VariableForm}
use Rattle.ada_program.specs.WellFormed.{names_borrower}
use Rattle.ada_program.specs.declared.program.TypeNo.{TypeNo}
use Rattle.ada_resolve.specs.declared.fault.NameRule.TheVariants.{WrongType}
use Rattle.ada_resolve.specs.Remark.{Remark, fine, wrong, ◌also◌, wrong_if}
use Rattle.ada_resolve.specs.Paths.{Meant, access_value, aggregate_value, boolean_value, integer_value, lent_value, null_value, record_value, unknown}

-- The Integer of a meaning; 0 where it is none.
abbrev pub integer_in : Meant → ExpressionForm
integer_in (integer_value e) = e
integer_in other = integer (pos 0)

-- The Boolean of a meaning; False where it is none.
abbrev pub boolean_in : Meant → ExpressionForm
boolean_in (boolean_value e) = e
boolean_in other = boolean false

-- The Integer or the Boolean of a meaning; 0 where it is neither.
abbrev pub scalar_in : Meant → ExpressionForm
scalar_in (integer_value e) = e
scalar_in (boolean_value e) = e
scalar_in other = integer (pos 0)

-- Links with one more behind them.
abbrev pub one_link_more : LinksForm → BinaryOperator → ExpressionForm → LinksForm
one_link_more no_more_links operator right = a_link operator right no_more_links
one_link_more (a_link o e links) operator right = a_link o e (one_link_more links operator right)

-- An operator with its operands: a chain goes on, for its operators are applied from left to right.
abbrev pub joined : ExpressionForm → BinaryOperator → ExpressionForm → ExpressionForm
joined (chained e links) operator right = chained e (one_link_more links operator right)
joined left operator right = chained left (a_link operator right no_more_links)

-- What operands an operator wants, and what it gives (4.5).
pub data Signature : Type 0 where
  -- `+` `-` `*` `/` `mod` `rem`: two Integers give an Integer
  arithmetic : Signature
  -- `<` `<=` `>` `>=`: two Integers give a Boolean
  ordering : Signature
  -- `=` `/=`: two values of one type give a Boolean
  equality : Signature
  -- `and` `or` `xor` `and then` `or else`: two Booleans give a Boolean
  logical : Signature

-- The signature of each operator.
abbrev pub signature_of : BinaryOperator → Signature
signature_of binary.And = logical
signature_of binary.Or = logical
signature_of binary.Xor = logical
signature_of binary.AndThen = logical
signature_of binary.OrElse = logical
signature_of binary.Equal = equality
signature_of binary.NotEqual = equality
signature_of binary.Less = ordering
signature_of binary.LessOrEqual = ordering
signature_of binary.Greater = ordering
signature_of binary.GreaterOrEqual = ordering
signature_of binary.Add = arithmetic
signature_of binary.Subtract = arithmetic
signature_of binary.Multiply = arithmetic
signature_of binary.Divide = arithmetic
signature_of binary.Modulo = arithmetic
signature_of binary.Remainder = arithmetic

-- Whether an operator asks if two values are equal, or if they are not (4.5.2).
abbrev pub asks_equal : BinaryOperator → Bool
asks_equal binary.Equal = true
asks_equal operator = false

-- What an equality means: a value of an access type is compared with null alone (4.5.2).
abbrev pub equality_meant : BinaryOperator → Meant → Meant → Meant
equality_meant operator (access_value path t) null_value = boolean_value (is_null (asks_equal operator) path)
equality_meant operator null_value (access_value path t) = boolean_value (is_null (asks_equal operator) path)
equality_meant operator left right = boolean_value (joined (scalar_in left) operator (scalar_in right))

-- What an operator of a signature means with its operands.
abbrev pub binary_by : Signature → BinaryOperator → Meant → Meant → Meant
binary_by arithmetic operator left right = integer_value (joined (integer_in left) operator (integer_in right))
binary_by ordering operator left right = boolean_value (joined (integer_in left) operator (integer_in right))
binary_by equality operator left right = equality_meant operator left right
binary_by logical operator left right = boolean_value (joined (boolean_in left) operator (boolean_in right))

-- What an operator means, by its signature.
abbrev pub binary_meant : BinaryOperator → Meant → Meant → Meant
binary_meant operator left right = binary_by (signature_of operator) operator left right

-- What an operator means with its one operand.
abbrev pub unary_meant : UnaryOperator → Meant → Meant
unary_meant unary.Plus operand = integer_value (applied_to unary.Plus (integer_in operand))
unary_meant unary.Minus operand = integer_value (applied_to unary.Minus (integer_in operand))
unary_meant unary.Not operand = boolean_value (applied_to unary.Not (boolean_in operand))

-- An Integer is wanted, where the meaning is known.
abbrev pub integer_wanted : Meant → Spot → Remark
integer_wanted unknown spot = fine
integer_wanted (integer_value e) spot = fine
integer_wanted other spot = wrong spot WrongType

-- A Boolean is wanted, where the meaning is known.
abbrev pub boolean_wanted : Meant → Spot → Remark
boolean_wanted unknown spot = fine
boolean_wanted (boolean_value e) spot = fine
boolean_wanted other spot = wrong spot WrongType

-- A value of this very access type is wanted, or null, which is of all access types, where the meaning is known.
abbrev pub access_wanted : TypeNo → Meant → Spot → Remark
access_wanted access unknown spot = fine
access_wanted access null_value spot = fine
access_wanted access (access_value path t) spot = wrong_if (not (access.0 == t.0)) spot WrongType
access_wanted access (lent_value t) spot = wrong_if (not (access.0 == t.0)) spot WrongType
access_wanted access other spot = wrong spot WrongType

-- A record of this very type is wanted (4.3.1, 5.2): what a path leads to, or an aggregate, where the meaning is known.
abbrev pub record_value_wanted : TypeNo → Meant → Spot → Remark
record_value_wanted t unknown spot = fine
record_value_wanted t (record_value path) spot = wrong_if (not (t.0 == path.record_type)) spot WrongType
record_value_wanted t (aggregate_value found items) spot = wrong_if (not (t.0 == found.0)) spot WrongType
record_value_wanted t other spot = wrong spot WrongType

-- What a borrower holds goes to borrowers alone, and is freed by its owner (3.10.2, 13.11.2): elsewhere no borrower is wanted.
abbrev pub owner_wanted : List VariableForm → Meant → Spot → Remark
owner_wanted variables (access_value path t) spot = wrong_if (names_borrower variables path) spot WrongType
owner_wanted variables (lent_value t) spot = wrong spot WrongType
owner_wanted variables other spot = fine

-- What can be compared for equality (4.5.2): an Integer, a Boolean, a value of an access type, or null, which is of all access types; and a record,
-- which the profile compares with nothing.
pub data Comparable : Type 0 where
  any_value : Comparable
  an_integer : Comparable
  a_boolean : Comparable
  an_access : Comparable
  the_null : Comparable
  a_record : Comparable

-- What a value can be compared with (4.5.2).
abbrev pub comparable : Meant → Comparable
comparable unknown = any_value
comparable null_value = the_null
comparable (access_value path t) = an_access
comparable (lent_value t) = an_access
comparable (integer_value e) = an_integer
comparable (boolean_value e) = a_boolean
comparable (record_value path) = a_record
comparable (aggregate_value t items) = a_record

-- Operands of an equality are of one type, and one of access values is null: where the left one is null, the right one has to be a value of an
-- access type, and it is the left one that is wrong; and so is a record on the left, whatever stands on the right.
abbrev pub compared_with : Comparable → Spot → Comparable → Spot → Remark
compared_with any_value left_spot right right_spot = fine
compared_with a_record left_spot right right_spot = wrong left_spot WrongType
compared_with left left_spot any_value right_spot = fine
compared_with the_null left_spot an_access right_spot = fine
compared_with the_null left_spot right right_spot = wrong left_spot WrongType
compared_with an_access left_spot the_null right_spot = fine
compared_with an_integer left_spot an_integer right_spot = fine
compared_with a_boolean left_spot a_boolean right_spot = fine
compared_with left left_spot right right_spot = wrong right_spot WrongType

-- What is wrong with the operands of an equality: they are of one type (4.5.2).
abbrev pub equal_wanted : Meant → Spot → Meant → Spot → Remark
equal_wanted left left_spot right right_spot = compared_with (comparable left) left_spot (comparable right) right_spot

-- What is wrong with the operands of an operator of a signature, and where each operand begins.
abbrev pub operands_by : Signature → Meant → Spot → Meant → Spot → Remark
operands_by arithmetic left left_spot right right_spot = integer_wanted left left_spot also integer_wanted right right_spot
operands_by ordering left left_spot right right_spot = integer_wanted left left_spot also integer_wanted right right_spot
operands_by equality left left_spot right right_spot = equal_wanted left left_spot right right_spot
operands_by logical left left_spot right right_spot = boolean_wanted left left_spot also boolean_wanted right right_spot

-- What is wrong with them, by the signature of the operator.
abbrev pub operands_remark : BinaryOperator → Meant → Spot → Meant → Spot → Remark
operands_remark operator left left_spot right right_spot = operands_by (signature_of operator) left left_spot right right_spot

-- What is wrong with the one operand of an operator.
abbrev pub operand_remark : UnaryOperator → Meant → Spot → Remark
operand_remark unary.Plus operand spot = integer_wanted operand spot
operand_remark unary.Minus operand spot = integer_wanted operand spot
operand_remark unary.Not operand spot = boolean_wanted operand spot
