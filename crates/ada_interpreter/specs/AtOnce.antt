-- Values that expressions have at once: no path in them follows a value, and no operator raises an exception.

use Rattle.std.specs.Prelude.{ℕ, ◌<◌, length, Bool, true, false, not, List, [], ◌∷◌, Option, Some, None, Result, Ok, Err}
use Rattle.std.specs.List.{slice_index_or}
use Rattle.ada_values.specs.declared.value.Value.{Value as ScalarValue}
use Rattle.ada_values.specs.declared.value.Value.TheVariants as scalar
use Rattle.ada_values.specs.declared.operator.BinaryOperator.{BinaryOperator}
use Rattle.ada_values.specs.declared.operator.UnaryOperator.{UnaryOperator}
use Rattle.ada_values.specs.declared.fault.OperatorFault.{OperatorFault}
use Rattle.ada_values.specs.Outcome.{outcome_of, unary_outcome_of}
use Rattle.ada_program.specs.Form.{ExpressionForm, integer, boolean, reads, is_null, applied_to, chained, LinksForm, no_more_links, a_link, RightForm, nothing, value_of, allocates, allocates_default, computes}
use Rattle.ada_meaning.specs.declared.state.Value.{Value}
use Rattle.ada_meaning.specs.declared.state.Value.TheVariants.{Null, Names, Scalar, Part}
use Rattle.ada_meaning.specs.Step.{is_decided}
use Rattle.ada_meaning.specs.Named.{named, boolean_in, reads_null, whole}
use Rattle.ada_interpreter.specs.declared.turn.NextTurn.{NextTurn}
use Rattle.ada_interpreter.specs.declared.turn.NextTurn.TheVariants.{Begins, Ends, Unknown}

-- The number or the truth that a value is.
abbrev pub scalar_in : Value → Option ScalarValue
scalar_in Null = None
scalar_in (Names o) = None
scalar_in (Scalar v) = Some v
scalar_in (Part o first) = None

-- That of a variable, where nothing is selected behind it (4.1).
abbrev pub variable_at_once : List ℕ → Value → Option ScalarValue
variable_at_once [] v = scalar_in v
variable_at_once (c ∷ cs) v = None

-- Whether an access value is null, or is not (4.5.2).
abbrev pub test_of : (equal : Bool) → (null : Option Bool) → Option ScalarValue
test_of equal None = None
test_of true (Some null) = Some (scalar.Boolean null)
test_of false (Some null) = Some (scalar.Boolean (not null))

-- Whether that of a variable is, where nothing is selected behind it.
abbrev pub test_at_once : List ℕ → (equal : Bool) → Value → Option ScalarValue
test_at_once [] equal v = test_of equal (reads_null (whole v))
test_at_once (c ∷ cs) equal v = None

-- What an operator gives, where it gives a value (4.5).
abbrev pub if_given : Result ScalarValue OperatorFault → Option ScalarValue
if_given (Ok v) = Some v
if_given (Err fault) = None

-- What an operator gives of its operand.
abbrev pub applied_at_once : UnaryOperator → Option ScalarValue → Option ScalarValue
applied_at_once operator None = None
applied_at_once operator (Some v) = if_given (unary_outcome_of operator v)

-- What it gives of both of its operands.
abbrev pub both_at_once : BinaryOperator → ScalarValue → Option ScalarValue → Option ScalarValue
both_at_once operator left None = None
both_at_once operator left (Some right) = if_given (outcome_of operator left right)

-- The same of a short-circuit form, which its left operand may decide (4.5.1).
abbrev pub link_at_once : (decided : Bool) → BinaryOperator → ScalarValue → Option ScalarValue → Option ScalarValue
link_at_once true operator left right = Some left
link_at_once false operator left right = both_at_once operator left right

abbrev mutual
  -- The value that an expression has at once, where variables hold these values (4.4).
  pub value_at_once : (places : List Value) → ExpressionForm → Option ScalarValue
  value_at_once places (integer i) = Some (scalar.Integer i)
  value_at_once places (boolean b) = Some (scalar.Boolean b)
  value_at_once places (reads path) = variable_at_once path.selectors (slice_index_or places path.root Null)
  value_at_once places (is_null equal path) = test_at_once path.selectors equal (slice_index_or places path.root Null)
  value_at_once places (applied_to operator e) = applied_at_once operator (value_at_once places e)
  value_at_once places (chained e links) = links_at_once places (value_at_once places e) links

  -- That of a chain, whose left operand has this one (4.5).
  pub links_at_once : (places : List Value) → (left : Option ScalarValue) → LinksForm → Option ScalarValue
  links_at_once places None links = None
  links_at_once places (Some v) no_more_links = Some v
  links_at_once places (Some v) (a_link operator e links) =
      links_at_once places (link_at_once (is_decided named operator (boolean_in v)) operator v (value_at_once places e)) links

-- That of what is assigned, if it is an expression (5.2).
abbrev pub right_at_once : (places : List Value) → RightForm → Option ScalarValue
right_at_once places nothing = None
right_at_once places (value_of path) = None
right_at_once places (allocates access items) = None
right_at_once places (allocates_default access) = None
right_at_once places (computes e) = value_at_once places e

-- A turn of a loop that begins has a statement (5.5).
abbrev pub HasStatement : NextTurn → Type 0
HasStatement (Begins statements) = 0 < length statements.now
HasStatement Ends = Unit {0}
HasStatement Unknown = Unit {0}
