-- What is left to do: a list of frames, the innermost first. A frame holds values where the step that takes it needs them, and no names of
-- objects as such, so that it can be read over names and over words alike.

use Rattle.std.specs.Prelude.{ℕ, ℤ, Bool, true, false, if◌then◌else◌, List, Option, Some, None}
use Rattle.ada_values.specs.declared.operator.BinaryOperator.{BinaryOperator}
use Rattle.ada_values.specs.declared.operator.UnaryOperator.{UnaryOperator}
use Rattle.ada_program.specs.declared.program.Exception.{Exception}
use Rattle.ada_program.specs.Form.{PathForm, RecordPathForm, ActualForm, in_value, in_null, in_access, in_record, in_out_path, in_out_access, in_out_component, in_out_record, ExpressionForm, reads, LinksForm, ItemForm, RightForm, nothing, value_of, StmtsForm, a_stmt, BranchesForm, HandlersForm, DeclarationForm}
use Rattle.ada_program.specs.Handling.{handler_of}
use Rattle.ada_program.specs.ProgramForm.{BodyForm}
use Rattle.ada_meaning.specs.declared.state.Mode.{Mode}
use Rattle.ada_meaning.specs.declared.state.Mode.TheVariants.{Running, Raising, Exiting, Returning}
use Rattle.ada_meaning.specs.declared.state.Place.{Place}
use Rattle.ada_meaning.specs.declared.event.Birth.{Birth}
use Rattle.ada_meaning.specs.declared.event.Cause.{Cause}
use Rattle.ada_parts.specs.Part.{Part}
use Rattle.ada_parts.specs.Task.{Task}

-- What is done to the controlled parts of an object (7.6, 7.6.1): they come to have values, of which these do already, newest first; or their values are
-- finalized.
pub data Treatment : Type 0 where
  begins : Birth → (done : List Part) → Treatment
  ends : Cause → Treatment

-- One thing that is left to do.
pub data Frame (V : Type 0) : Type 0 where
  -- the declarations that are left of a master, and the statements behind them with their handlers (3.11)
  Elaborates : List DeclarationForm → StmtsForm → HandlersForm → Frame V
  -- the statements that are left (5.1)
  Does : StmtsForm → Frame V
  -- the newest operand is a condition: these statements are done if it is true, else one of the other branches (5.3)
  Decides : StmtsForm → BranchesForm → Frame V
  -- a loop comes to its next turn (5.5)
  Repeats : (condition : Option ExpressionForm) → StmtsForm → Frame V
  -- the newest operand is the condition of a loop: there is a turn if it is true (5.5)
  Turns : (condition : ExpressionForm) → StmtsForm → Frame V
  -- the two newest operands are the bounds of a `for` loop (5.5)
  Ranges : (parameter : ℕ) → StmtsForm → Frame V
  -- a `for` loop comes to its next turn, if that value of its parameter isn't past the last one (5.5)
  Counts : (parameter : ℕ) → (value last : ℤ) → StmtsForm → Frame V
  -- the newest operand is the condition of an exit (5.7)
  Exits : Frame V
  -- the statements in front of this have these handlers (11.2)
  Handles : HandlersForm → Frame V
  -- the statements of the innermost master are in front of this; it is left then (7.6.1)
  Closes : Frame V
  -- the innermost master is being left, newest item first; then the mode goes on (7.6.1)
  Leaves : Mode → Frame V
  -- the newest operands are the values of these actual parameters of a call: the procedure's body begins (6.4)
  Calls : (procedure : ℕ) → (body : BodyForm) → (actuals : List ActualForm) → Frame V
  -- the body of a call with these actual parameters is in front of this: its activation ends then, and that of its caller goes on (6.4, 6.5). These values
  -- refer to the components that are given for formal parameters of mode `in out`, in order.
  Returns : (actuals : List ActualForm) → (references : List V) → Frame V
  -- what is assigned is to be evaluated: its value becomes the newest operand (5.2)
  Evaluates : RightForm → Frame V
  -- an expression is to be evaluated: its value becomes the newest operand (4.4)
  Computes : ExpressionForm → Frame V
  -- the newest operand is an access value, and these components are named behind it (4.1.3)
  Follows : List ℕ → Frame V
  -- the newest operand is an access value: is it null, or is it not (4.5.2)?
  TestsNull : (equal : Bool) → Frame V
  -- the record to which a path leads is to be found: what refers to it becomes the newest operand (6.2)
  Refers : RecordPathForm → Frame V
  -- the newest operand gives access to an object in which a record of this type lies at a place: what refers to the record becomes the newest operand (6.2)
  RefersIn : (place : Place) → (record_type : ℕ) → Frame V
  -- the component to which a path leads is to be found, for a formal parameter of mode `in out` (6.4.1)
  Opens : PathForm → Frame V
  -- the newest operand gives access to an object, whose component is given for such a parameter: what refers to it becomes an operand, and its value the
  -- newest one
  OpensIn : (component : ℕ) → Frame V
  -- the operators of a chain that are left; the newest operand is the left one of the first (4.5)
  Continues : LinksForm → Frame V
  -- an operator is to be applied to the two newest operands (4.5)
  Applies : BinaryOperator → Frame V
  -- an operator is to be applied to the newest operand (4.5.4, 4.5.6)
  AppliesAlone : UnaryOperator → Frame V
  -- the items of an allocator that are left to be evaluated (4.8)
  Fills : List ItemForm → Frame V
  -- the newest operand gives access to an object in which a record of this type lies, from a component on: its components become the newest operands
  -- (4.3.1)
  Copies : (first record_type : ℕ) → Frame V
  -- a pool is to be asked for a new object of an access type, whose components are the newest operands, as many as `count` (4.8)
  Creates : (access count : ℕ) → Frame V
  -- the newest operand goes to a variable (5.2)
  Stores : (variable : ℕ) → Frame V
  -- the newest operand gives access to an object, whose component is assigned to: what goes there is evaluated next (5.2)
  Targets : (component : ℕ) → RightForm → Frame V
  -- the newest operand goes to a component of an object (5.2)
  StoresIn : (object : V) → (component : ℕ) → Frame V
  -- the newest operand gives access to an object in which a record of this type lies, from a component on, that is assigned to: what its components get
  -- is evaluated next (5.2)
  TargetsRecord : (first record_type : ℕ) → List ItemForm → Frame V
  -- the newest operands go to the components of an object, as many as `count` from one on (5.2)
  StoresRecord : (object : V) → (first count : ℕ) → Frame V
  -- the two newest operands refer to records of this type, which have controlled parts: the newest one is assigned to the other (5.2, 7.6)
  Assigns : (record_type : ℕ) → Frame V
  -- the newest operand gives access to an object, whose component takes the next number of the input
  Receives : (component : ℕ) → Frame V
  -- the newest operand gives access to an object, whose component is freed by the instance for this access type (13.11.2)
  FreesIn : (access component : ℕ) → Frame V
  -- the newest operand is the initial value of a variable, which then is created (3.3.1)
  Declares : (variable : ℕ) → Frame V
  -- the newest operands are the components of a record object, which then is created (3.3.1)
  DeclaresRecord : (variable object_type : ℕ) → Frame V
  -- the controlled parts of an object are initialized, or finalized (7.6, 7.6.1): this is left of that
  Treats : V → Treatment → List Task → Frame V
  -- the body of the operation that begins a part of an object, which is of this type, is in front of this (7.6): then the part has its value, and this is
  -- left of the object
  Awaits : V → Birth → (done : List Part) → (of part : ℕ) → List Task → Frame V
  -- the body of a Finalize is in front of this: no exception leaves it (7.6.1)
  Confines : Frame V
  -- what a jump had to wait for is done: it goes on
  Resumes : Mode → Frame V
  -- the newest operand is to be written (A.10.7)
  Writes : Frame V
  -- an object ceases to exist (13.11.2)
  Ends : V → Frame V
  -- its words go back to a pool (13.11.2)
  GivesBack : V → Cause → (pool : Option ℕ) → Frame V
  -- a variable becomes null: the end of a Free (13.11.2)
  Clears : (variable : ℕ) → Frame V
  -- a component of an object becomes null: the end of a Free (13.11.2)
  ClearsIn : (object : V) → (component : ℕ) → Frame V

-- An actual parameter is to be evaluated (6.4.1): an Integer or a Boolean as an expression is, and an access value as one that is assigned. A record and a
-- component are to be found.
abbrev pub evaluating : {V : Type 0} → ActualForm → Frame V
evaluating (in_value e) = Computes e
evaluating in_null = Evaluates nothing
evaluating (in_access path) = Evaluates (value_of path)
evaluating (in_record p) = Refers p
evaluating (in_out_path path) = Computes (reads path)
evaluating (in_out_access path) = Evaluates (value_of path)
evaluating (in_out_component path) = Opens path
evaluating (in_out_record p) = Refers p

-- Does a jump stop at this frame? A master does not let it pass before it has been left (7.6.1, 11.4).
abbrev pub is_master : {V : Type 0} → Frame V → Bool
is_master (Elaborates ds fs hs) = true
is_master Closes = true
is_master f = false

-- Is it a loop that comes to its next turn?
abbrev pub is_loop : {V : Type 0} → Frame V → Bool
is_loop (Repeats condition fs) = true
is_loop (Counts x value last fs) = true
is_loop f = false

-- Does the body of a call come to its end here?
abbrev pub is_return : {V : Type 0} → Frame V → Bool
is_return (Returns actuals references) = true
is_return f = false

-- Where a jump lands: it passes this frame; or it ends, and what is behind the frame is next; or it ends in these statements; or it comes out of an
-- operation that was to begin a part of an object, of which these parts have begun; or it comes out of a Finalize.
pub data Landing (V : Type 0) : Type 0 where
  passes_on : Landing V
  goes_behind : Landing V
  goes_in : StmtsForm → Landing V
  breaks_off : V → Birth → (done : List Part) → Landing V
  escapes : Landing V

-- Where any jump lands that comes to a frame which is no loop, no call's and has no handlers: it comes out of an operation, or it passes.
abbrev pub operation_landing : {V : Type 0} → Frame V → Landing V
operation_landing (Awaits v by done of part tasks) = breaks_off v by done
operation_landing Confines = escapes
operation_landing f = passes_on

-- An exit goes on behind the innermost loop (5.7).
abbrev pub exit_landing : {V : Type 0} → Frame V → Landing V
exit_landing f = if is_loop f then goes_behind else operation_landing f

-- A return goes on behind the call of its body (6.5).
abbrev pub return_landing : {V : Type 0} → Frame V → Landing V
return_landing f = if is_return f then goes_behind else operation_landing f

-- An exception goes on in the first handler that takes it (11.4).
abbrev pub handler_landing : {V : Type 0} → Option StmtsForm → Landing V
handler_landing None = passes_on
handler_landing (Some fs) = goes_in fs

-- Where an exception lands that comes to a frame: in the first handler that takes it (11.4).
abbrev pub exception_landing : {V : Type 0} → Exception → Frame V → Landing V
exception_landing e (Handles hs) = handler_landing (handler_of e hs)
exception_landing e f = operation_landing f

-- Where a jump lands that comes to a frame.
abbrev pub landing : {V : Type 0} → Mode → Frame V → Landing V
landing Running f = passes_on
landing (Raising e) f = exception_landing e f
landing Exiting f = exit_landing f
landing Returning f = return_landing f

-- Does this frame begin a statement?
abbrev pub begins_by : {V : Type 0} → Frame V → Bool
begins_by (Does (a_stmt f fs)) = true
begins_by f = false
