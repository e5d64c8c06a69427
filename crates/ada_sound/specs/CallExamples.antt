-- The bodies, the statements and the events of the programs by which the laws show what calls do, and which rules they need.

use Rattle.std.specs.Prelude.{ℕ, List, [], ◌∷◌, ◌++◌, Some, None, true, false, pos}
use Rattle.std.proofs.Math.ListN.{replicate}
use Rattle.ada_values.specs.declared.operator.BinaryOperator.TheVariants as binary
use Rattle.ada_program.specs.declared.program.Choice.TheVariants as choice
use Rattle.ada_program.specs.declared.program.FormalMode.{FormalMode}
use Rattle.ada_program.specs.declared.program.FormalMode.TheVariants.{In, InOut}
use Rattle.ada_program.specs.declared.program.VariableKind.{VariableKind}
use Rattle.ada_program.specs.declared.program.VariableKind.TheVariants as variable
use Rattle.ada_program.specs.Form.{PathForm, RecordPathForm, ActualForm, in_value, in_access, in_record, in_out_path, in_out_access, in_out_component, in_out_record, ExpressionForm, integer, reads, is_null, null_item, item_of_value, nothing, allocates, value_of, computes, declares, StmtForm, assigns, frees, writes, chooses, calls, returns, raises, StmtsForm, no_stmts, a_stmt, otherwise, a_branch, HandlersForm, no_handlers, a_handler}
use Rattle.ada_program.specs.ProgramForm.{VariableForm, BodyForm}
use Rattle.ada_meaning.specs.declared.state.Value.TheVariants.{Names}
use Rattle.ada_meaning.specs.declared.event.Cause.TheVariants.{Leaving, Freeing}
use Rattle.ada_meaning.specs.declared.event.Line.TheVariants.{Image}
use Rattle.ada_meaning.specs.Event.{Back, Followed, Left, Line}
use Rattle.ada_meaning.specs.Run.{Event}
use Rattle.ada_sound.specs.Examples.{example_spot, example_path, seven_to_x, with_number, value_at, full}
use Rattle.ada_sound.specs.OwnerExamples.{rest_is_next, pushing}
use Rattle.ada_sound.specs.BorrowerExamples.{b_is_head}
use Rattle.ada_sound.specs.FreeExamples.{inserting}
use Rattle.ada_sound.specs.RecordExamples.{object_path, object_record, record_behind}

-- The words of examples of calls: in a body with a formal parameter, N : Integer has number 0, and P : Link, where it is declared, has number 1. Link is the
-- access type of number 1, and Full is an exception of the program.

-- A variable without a name.
abbrev pub unnamed : VariableKind → VariableForm
unnamed kind = record { name = []; spot = example_spot; kind = kind; borrows = false }

-- What N holds.
abbrev pub formal_now : ExpressionForm
formal_now = reads (example_path 0 [])

-- if N = n then .. end if;
abbrev pub where_formal_is : ℕ → StmtForm → StmtForm
where_formal_is n f = chooses (a_branch (with_number binary.Equal n formal_now) (a_stmt f no_stmts) (otherwise no_stmts))

-- procedure Show (N : Integer) is P : Link;
-- begin
--    if N = 0 then return; end if;
--    P := new Cell'(Value => N); Put_Line (Integer'Image (P.Value)); Free (P);
--    if N = 2 then raise Full; end if;
-- end Show;
abbrev pub showing_stmts : StmtsForm
showing_stmts =
    a_stmt (where_formal_is 0 (returns example_spot))
    (a_stmt (assigns (example_path 1 []) (allocates 1 (item_of_value formal_now ∷ [])))
    (a_stmt (writes (value_at 1))
    (a_stmt (frees 1 (example_path 1 []))
    (a_stmt (where_formal_is 2 (raises full)) no_stmts))))

-- The body of Show.
abbrev pub showing_body : BodyForm
showing_body = record {
  formals = In ∷ [];
  variables = unnamed variable.Integer ∷ unnamed (variable.Access (record { 0 = 1 })) ∷ [];
  declarations = declares 1 nothing ∷ [];
  statements = showing_stmts;
  handlers = no_handlers;
  start_spot = example_spot;
  end_spot = example_spot;
}

-- procedure Show_Two (N : Integer) is begin Show (N); Show (N + 1); end Show_Two;
abbrev pub showing_two_stmts : StmtsForm
showing_two_stmts = a_stmt (calls 0 (in_value formal_now ∷ [])) (a_stmt (calls 0 (in_value (with_number binary.Add 1 formal_now) ∷ [])) no_stmts)

-- The body of Show_Two.
abbrev pub showing_two_body : BodyForm
showing_two_body = record {
  formals = In ∷ [];
  variables = unnamed variable.Integer ∷ [];
  declarations = [];
  statements = showing_two_stmts;
  handlers = no_handlers;
  start_spot = example_spot;
  end_spot = example_spot;
}

-- Both procedures.
abbrev pub calling_bodies : List BodyForm
calling_bodies = showing_body ∷ showing_two_body ∷ []

-- X := new Cell'(Value => 7); Show (0); Show_Two (1); Put_Line (Integer'Image (0));
abbrev pub calling_stmts : StmtsForm
calling_stmts =
    seven_to_x
    (a_stmt (calls 0 (in_value (integer (pos 0)) ∷ []))
    (a_stmt (calls 1 (in_value (integer (pos 1)) ∷ []))
    (a_stmt (writes (integer (pos 0))) no_stmts)))

-- when Full => Put_Line (Integer'Image (X.Value)); Free (X);
abbrev pub calling_handlers : HandlersForm
calling_handlers = a_handler (choice.Exception full ∷ []) (a_stmt (writes (value_at 0)) (a_stmt (frees 1 (example_path 0 [])) no_stmts)) no_handlers

-- The first call of Show returns early: no object is made. Show_Two shows 1 and 2, each with an object of its own that Show frees; the second one raises
-- Full, which leaves Show and Show_Two before the handler follows and frees what the main procedure owns.
abbrev pub calling_events : List Event
calling_events =
    Left 1
    ∷ Followed (Names (record { 0 = 1 }))
    ∷ Line (Image (pos 1))
    ∷ Back (Names (record { 0 = 1 })) 1 2 (Some 0) None (Freeing 4)
    ∷ Left 3
    ∷ Followed (Names (record { 0 = 2 }))
    ∷ Line (Image (pos 2))
    ∷ Back (Names (record { 0 = 2 })) 1 3 (Some 0) None (Freeing 6)
    ∷ Left 5
    ∷ Left 2
    ∷ Followed (Names (record { 0 = 0 }))
    ∷ Line (Image (pos 7))
    ∷ Back (Names (record { 0 = 0 })) 1 1 (Some 0) None (Freeing 7)
    ∷ Left 0
    ∷ []

-- B : access Cell has number 2 in the main procedure:
-- X := new Cell'(Value => 7); B := X; Show (1); B := X; Put_Line (Integer'Image (B.Value));
abbrev pub relending_stmts : StmtsForm
relending_stmts =
    seven_to_x
    (a_stmt b_is_head
    (a_stmt (calls 0 (in_value (integer (pos 1)) ∷ []))
    (a_stmt b_is_head
    (a_stmt (writes (value_at 2)) no_stmts))))

-- Show may free objects of Link, so B is lost behind the call, and borrows once more. Show frees its own object alone: X keeps its object until the end.
abbrev pub relending_events : List Event
relending_events =
    Followed (Names (record { 0 = 1 }))
    ∷ Line (Image (pos 1))
    ∷ Back (Names (record { 0 = 1 })) 1 2 (Some 0) None (Freeing 2)
    ∷ Left 1
    ∷ Followed (Names (record { 0 = 0 }))
    ∷ Line (Image (pos 7))
    ∷ Back (Names (record { 0 = 0 })) 1 1 (Some 0) None (Leaving 0 0)
    ∷ Left 0
    ∷ []

-- procedure Inc (N : in out Integer) is begin N := N + 1; end Inc;
abbrev pub incrementing_body : BodyForm
incrementing_body = record {
  formals = InOut ∷ [];
  variables = unnamed variable.Integer ∷ [];
  declarations = [];
  statements = a_stmt (assigns (example_path 0 []) (computes (with_number binary.Add 1 formal_now))) no_stmts;
  handlers = no_handlers;
  start_spot = example_spot;
  end_spot = example_spot;
}

-- The variable of a number is given for the formal parameter of such a procedure.
abbrev pub gives : (variable : ℕ) → List ActualForm
gives x = in_out_path (example_path x []) ∷ []

-- procedure Fail (N : in out Integer) is begin Inc (N); Put_Line (Integer'Image (N)); raise Full; end Fail;
abbrev pub failing_body : BodyForm
failing_body = record {
  formals = InOut ∷ [];
  variables = unnamed variable.Integer ∷ [];
  declarations = [];
  statements = a_stmt (calls 0 (gives 0)) (a_stmt (writes formal_now) (a_stmt (raises full) no_stmts));
  handlers = no_handlers;
  start_spot = example_spot;
  end_spot = example_spot;
}

-- Both procedures.
abbrev pub giving_bodies : List BodyForm
giving_bodies = incrementing_body ∷ failing_body ∷ []

-- N : Integer := 0 has number 2 in the main procedure: what it holds.
abbrev pub variable_now : ExpressionForm
variable_now = reads (example_path 2 [])

-- Inc (N); Put_Line (Integer'Image (N)); Fail (N);
abbrev pub giving_stmts : StmtsForm
giving_stmts = a_stmt (calls 0 (gives 2)) (a_stmt (writes variable_now) (a_stmt (calls 1 (gives 2)) no_stmts))

-- when Full => Put_Line (Integer'Image (N));
abbrev pub giving_handlers : HandlersForm
giving_handlers = a_handler (choice.Exception full ∷ []) (a_stmt (writes variable_now) no_stmts) no_handlers

-- Inc gives 1 back to the main procedure, and then 2 to Fail. The exception that leaves Fail gives nothing back: N is 1 in the handler.
abbrev pub giving_events : List Event
giving_events =
    Left 1
    ∷ Line (Image (pos 1))
    ∷ Left 3
    ∷ Line (Image (pos 2))
    ∷ Left 2
    ∷ Line (Image (pos 1))
    ∷ Left 0
    ∷ []

-- procedure Stop is begin raise Full; end Stop;
abbrev pub stopping_bodies : List BodyForm
stopping_bodies =
    record { formals = []; variables = []; declarations = []; statements = a_stmt (raises full) no_stmts; handlers = no_handlers; start_spot = example_spot; end_spot = example_spot }
    ∷ []

-- X := new Cell'(Value => 7); Y := X; Free (Y); Stop; X := null;
abbrev pub stopping_stmts : StmtsForm
stopping_stmts =
    seven_to_x
    (a_stmt (assigns (example_path 1 []) (value_of (example_path 0 [])))
    (a_stmt (frees 1 (example_path 1 []))
    (a_stmt (calls 0 [])
    (a_stmt (assigns (example_path 0 []) nothing) no_stmts))))

-- The object is freed, Stop is left, and then the handler looks for the object.
abbrev pub stopping_events : List Event
stopping_events = Back (Names (record { 0 = 0 })) 1 1 (Some 0) None (Freeing 1) ∷ Left 2 ∷ []

-- The words of examples whose formal parameters are of access types: L : Link has number 0 in a body, and K : Link, where it is a formal parameter, has
-- number 1.

-- The body of a procedure with one formal parameter of this mode, L : Link, that does these statements.
abbrev pub body_with_link : FormalMode → StmtsForm → BodyForm
body_with_link mode fs = record {
  formals = mode ∷ [];
  variables = unnamed (variable.Access (record { 0 = 1 })) ∷ [];
  declarations = [];
  statements = fs;
  handlers = no_handlers;
  start_spot = example_spot;
  end_spot = example_spot;
}

-- The same with two, L and K.
abbrev pub body_with_links : (first second : FormalMode) → StmtsForm → BodyForm
body_with_links first second fs = record {
  formals = first ∷ second ∷ [];
  variables = unnamed (variable.Access (record { 0 = 1 })) ∷ unnamed (variable.Access (record { 0 = 1 })) ∷ [];
  declarations = [];
  statements = fs;
  handlers = no_handlers;
  start_spot = example_spot;
  end_spot = example_spot;
}

-- The access value of the variable of a number is lent to a formal parameter of mode `in`.
abbrev pub lends : (variable : ℕ) → ActualForm
lends x = in_access (example_path x [])

-- What the variable of a number owns is handed over to a formal parameter of mode `in out`.
abbrev pub hands : (variable : ℕ) → ActualForm
hands x = in_out_access (example_path x [])

-- procedure Bump (L : Link) is begin L.Value := L.Value + 1; end Bump;
abbrev pub bumping_bodies : List BodyForm
bumping_bodies =
    body_with_link In (a_stmt (assigns (example_path 0 (0 ∷ [])) (computes (with_number binary.Add 1 (value_at 0)))) no_stmts) ∷ []

-- X := new Cell'(Value => 7); Bump (X); Put_Line (Integer'Image (X.Value)); Free (X);
abbrev pub bumping_stmts : StmtsForm
bumping_stmts =
    seven_to_x
    (a_stmt (calls 0 (lends 0 ∷ []))
    (a_stmt (writes (value_at 0))
    (a_stmt (frees 1 (example_path 0 [])) no_stmts)))

-- Bump follows the object of X where it finds its target, where it reads the component, and where it stores the sum. X still owns the object behind the
-- call: it frees it.
abbrev pub bumping_events : List Event
bumping_events =
    Followed (Names (record { 0 = 0 }))
    ∷ Followed (Names (record { 0 = 0 }))
    ∷ Followed (Names (record { 0 = 0 }))
    ∷ Left 1
    ∷ Followed (Names (record { 0 = 0 }))
    ∷ Line (Image (pos 8))
    ∷ Back (Names (record { 0 = 0 })) 1 1 (Some 0) None (Freeing 2)
    ∷ Left 0
    ∷ []

-- procedure Renew (L : in out Link) is begin Free (L); L := new Cell'(Value => 9); end Renew;
abbrev pub renewing_bodies : List BodyForm
renewing_bodies =
    body_with_link InOut
    (a_stmt (frees 1 (example_path 0 []))
    (a_stmt (assigns (example_path 0 []) (allocates 1 (item_of_value (integer (pos 9)) ∷ []))) no_stmts))
    ∷ []

-- X := new Cell'(Value => 7); Renew (X); Put_Line (Integer'Image (X.Value));
abbrev pub renewing_stmts : StmtsForm
renewing_stmts = seven_to_x (a_stmt (calls 0 (hands 0 ∷ [])) (a_stmt (writes (value_at 0)) no_stmts))

-- Renew frees the object that X hands over. X owns the one that comes back, which goes with the main procedure.
abbrev pub renewing_events : List Event
renewing_events =
    Back (Names (record { 0 = 0 })) 1 1 (Some 0) None (Freeing 2)
    ∷ Left 1
    ∷ Followed (Names (record { 0 = 1 }))
    ∷ Line (Image (pos 9))
    ∷ Back (Names (record { 0 = 1 })) 1 2 (Some 0) None (Leaving 0 0)
    ∷ Left 0
    ∷ []

-- procedure Drop (L : in out Link) is begin if L.Value = 7 then raise Full; end if; Free (L); end Drop;
abbrev pub dropping_bodies : List BodyForm
dropping_bodies =
    body_with_link InOut
    (a_stmt (chooses (a_branch (with_number binary.Equal 7 (value_at 0)) (a_stmt (raises full) no_stmts) (otherwise no_stmts)))
    (a_stmt (frees 1 (example_path 0 [])) no_stmts))
    ∷ []

-- X := new Cell'(Value => 7); Drop (X);
abbrev pub dropping_stmts : StmtsForm
dropping_stmts = seven_to_x (a_stmt (calls 0 (hands 0 ∷ [])) no_stmts)

-- Drop raises Full before it changes L, so X still owns its object, which the handler follows and frees.
abbrev pub dropping_events : List Event
dropping_events =
    Followed (Names (record { 0 = 0 }))
    ∷ Left 1
    ∷ Followed (Names (record { 0 = 0 }))
    ∷ Line (Image (pos 7))
    ∷ Back (Names (record { 0 = 0 })) 1 1 (Some 0) None (Freeing 2)
    ∷ Left 0
    ∷ []

-- procedure Share (L : in out Link; K : in out Link) is begin L := K; end Share;
abbrev pub sharing_bodies : List BodyForm
sharing_bodies = body_with_links InOut InOut (a_stmt (assigns (example_path 0 []) (value_of (example_path 1 []))) no_stmts) ∷ []

-- X := new Cell'(Value => 7); Share (Y, X); Free (Y); Free (X);
abbrev pub sharing_stmts : StmtsForm
sharing_stmts =
    seven_to_x
    (a_stmt (calls 0 (hands 1 ∷ hands 0 ∷ []))
    (a_stmt (frees 1 (example_path 1 []))
    (a_stmt (frees 1 (example_path 0 [])) no_stmts)))

-- Both variables get the one object back, Y frees it, and X is to free it once more.
abbrev pub sharing_events : List Event
sharing_events = Left 1 ∷ Back (Names (record { 0 = 0 })) 1 1 (Some 0) None (Freeing 2) ∷ []

-- procedure Spoil (L : in out Link) is begin Free (L); raise Full; end Spoil;
abbrev pub spoiling_bodies : List BodyForm
spoiling_bodies = body_with_link InOut (a_stmt (frees 1 (example_path 0 [])) (a_stmt (raises full) no_stmts)) ∷ []

-- X := new Cell'(Value => 7); Spoil (X);
abbrev pub spoiling_stmts : StmtsForm
spoiling_stmts = seven_to_x (a_stmt (calls 0 (hands 0 ∷ [])) no_stmts)

-- Spoil frees the object, and the exception gives X nothing back: the handler looks for the object.
abbrev pub spoiling_events : List Event
spoiling_events = Back (Names (record { 0 = 0 })) 1 1 (Some 0) None (Freeing 2) ∷ Left 1 ∷ []

-- procedure Cut (L : in out Link; K : in out Link) is begin Free (L); Put_Line (Integer'Image (K.Value)); end Cut;
abbrev pub cutting_bodies : List BodyForm
cutting_bodies = body_with_links InOut InOut (a_stmt (frees 1 (example_path 0 [])) (a_stmt (writes (value_at 1)) no_stmts)) ∷ []

-- X := new Cell'(Value => 7); Cut (X, X);
abbrev pub cutting_stmts : StmtsForm
cutting_stmts = seven_to_x (a_stmt (calls 0 (hands 0 ∷ hands 0 ∷ [])) no_stmts)

-- Both formal parameters name the one object: L frees it, and K looks for it.
abbrev pub cutting_events : List Event
cutting_events = Back (Names (record { 0 = 0 })) 1 1 (Some 0) None (Freeing 2) ∷ []

-- procedure Claim (L : in out Link; K : Link) is begin L := K; end Claim;
abbrev pub claiming_bodies : List BodyForm
claiming_bodies = body_with_links InOut In (a_stmt (assigns (example_path 0 []) (value_of (example_path 1 []))) no_stmts) ∷ []

-- X := new Cell'(Value => 7); Claim (Y, X); Free (Y); Free (X);
abbrev pub claiming_stmts : StmtsForm
claiming_stmts =
    seven_to_x
    (a_stmt (calls 0 (hands 1 ∷ lends 0 ∷ []))
    (a_stmt (frees 1 (example_path 1 []))
    (a_stmt (frees 1 (example_path 0 [])) no_stmts)))

-- Y gets what X only lends: Y frees the object, and X, which still owns it, is to free it once more.
abbrev pub claiming_events : List Event
claiming_events = Left 1 ∷ Back (Names (record { 0 = 0 })) 1 1 (Some 0) None (Freeing 2) ∷ []

-- The words of examples whose actual parameters are records and components of objects. Link is the access type of number 1, and designates
-- type Node is record Value : Integer; Next : Link; end record; which has number 0. Each record parameter and each record object is known by a type of
-- its own.

-- The variable that a record parameter is which is known by the type of this number.
abbrev pub record_parameter : (object_type : ℕ) → VariableForm
record_parameter t = unnamed (variable.Record (record { 0 = t }))

-- The body of a procedure with these formal parameters, that does these statements.
abbrev pub body_with : List FormalMode → List VariableForm → StmtsForm → BodyForm
body_with modes variables fs = record {
  formals = modes;
  variables = variables;
  declarations = [];
  statements = fs;
  handlers = no_handlers;
  start_spot = example_spot;
  end_spot = example_spot;
}

-- procedure Show_Node (N : Node) is begin Put_Line (Integer'Image (N.Value)); end Show_Node;
abbrev pub showing_node_body : BodyForm
showing_node_body = body_with (In ∷ []) (record_parameter 2 ∷ []) (a_stmt (writes (reads (object_path 0 (0 ∷ [])))) no_stmts)

-- procedure Trim (N : in out Node) is begin N.Value := N.Value + 1; Free (N.Next); Show_Node (N); end Trim;
abbrev pub trimming_body : BodyForm
trimming_body =
    body_with (InOut ∷ []) (record_parameter 3 ∷ [])
    (a_stmt (assigns (object_path 0 (0 ∷ [])) (computes (with_number binary.Add 1 (reads (object_path 0 (0 ∷ []))))))
    (a_stmt (frees 1 (object_path 0 (1 ∷ [])))
    (a_stmt (calls 0 (in_record (object_record 0) ∷ [])) no_stmts)))

-- Both procedures.
abbrev pub trimming_bodies : List BodyForm
trimming_bodies = showing_node_body ∷ trimming_body ∷ []

-- type Pair is record First, Second : Node; end record; R : Pair; which has number 0 in the main procedure: so R.Second begins with the component of
-- number 2, and R.Second.Next is that of number 3.

-- The record R.Second, and its component Next.
abbrev pub second_record : RecordPathForm
second_record = record { object = object_path 0 []; first = 2; part = 0; record_type = 0 }

-- That component.
abbrev pub second_next : PathForm
second_next = object_path 0 (3 ∷ [])

-- R.Second.Next := new Node'(7, null); Show_Node (R.Second.Next.all); Trim (R.Second);
-- Put_Line (Integer'Image (R.Second.Value)); if R.Second.Next = null then Put_Line (Integer'Image (0)); end if;
abbrev pub trimming_stmts : StmtsForm
trimming_stmts =
    a_stmt (assigns second_next (allocates 1 (item_of_value (integer (pos 7)) ∷ null_item ∷ [])))
    (a_stmt (calls 0 (in_record (record { object = second_next; first = 0; part = 0; record_type = 0 }) ∷ []))
    (a_stmt (calls 1 (in_out_record second_record ∷ []))
    (a_stmt (writes (reads (object_path 0 (2 ∷ []))))
    (a_stmt (chooses (a_branch (is_null true second_next) (a_stmt (writes (integer (pos 0))) no_stmts) (otherwise no_stmts))) no_stmts))))

-- Show_Node follows the node of R.Second.Next. Trim changes R.Second, where it lies in R, frees that node, and passes R.Second on to Show_Node. The main
-- procedure sees both changes: the 1, and null.
abbrev pub trimming_events : List Event
trimming_events =
    replicate 3 (Followed (Names (record { 0 = 0 })))
    ++ replicate 2 (Followed (Names (record { 0 = 1 })))
    ++ Line (Image (pos 7))
    ∷ Left 1
    ∷ replicate 5 (Followed (Names (record { 0 = 0 })))
    ++ Back (Names (record { 0 = 1 })) 1 1 (Some 0) None (Freeing 3)
    ∷ replicate 3 (Followed (Names (record { 0 = 0 })))
    ++ Line (Image (pos 1))
    ∷ Left 4
    ∷ Left 2
    ∷ Followed (Names (record { 0 = 0 }))
    ∷ Line (Image (pos 1))
    ∷ Followed (Names (record { 0 = 0 }))
    ∷ Line (Image (pos 0))
    ∷ Back (Names (record { 0 = 0 })) 5 0 None None (Leaving 0 1)
    ∷ Left 0
    ∷ []

-- procedure Replace (V : in out Integer; N : in out Node) is begin V := V + 5; N.Next := new Node'(9, null); end Replace;
abbrev pub replacing_bodies : List BodyForm
replacing_bodies =
    body_with (InOut ∷ InOut ∷ []) (unnamed variable.Integer ∷ record_parameter 2 ∷ [])
    (a_stmt (assigns (example_path 0 []) (computes (with_number binary.Add 5 formal_now)))
    (a_stmt (assigns (object_path 1 (1 ∷ [])) (allocates 1 (item_of_value (integer (pos 9)) ∷ null_item ∷ []))) no_stmts))
    ∷ []

-- The component Head.Next.Value.
abbrev pub next_value : PathForm
next_value = example_path 0 (1 ∷ 0 ∷ [])

-- Rest : access Node has number 1, and B : access Node number 2:
-- Head := new Node'(1, Head); Head.Next := new Node'(2, Head.Next); B := Head; Rest := Head.Next; Replace (Head.Next.Value, B.all);
-- Put_Line (Integer'Image (Rest.Value)); Put_Line (Integer'Image (Head.Next.Value));
abbrev pub replacing_stmts : StmtsForm
replacing_stmts =
    pushing 1
    (inserting 2
    (a_stmt b_is_head
    (a_stmt rest_is_next
    (a_stmt (calls 0 (in_out_component next_value ∷ in_out_record (record_behind 2) ∷ []))
    (a_stmt (writes (value_at 1))
    (a_stmt (writes (reads next_value)) no_stmts))))))

-- Replace puts another node in the place of the one to which the path of V led. The 7 goes to the component that was named before the call, which Rest
-- still reaches, and not to that of the node which is there then.
abbrev pub replacing_events : List Event
replacing_events =
    replicate 5 (Followed (Names (record { 0 = 0 })))
    ++ Followed (Names (record { 0 = 1 }))
    ∷ replicate 3 (Followed (Names (record { 0 = 0 })))
    ++ Left 1
    ∷ replicate 2 (Followed (Names (record { 0 = 1 })))
    ++ Line (Image (pos 7))
    ∷ Followed (Names (record { 0 = 0 }))
    ∷ Followed (Names (record { 0 = 2 }))
    ∷ Line (Image (pos 9))
    ∷ Back (Names (record { 0 = 2 })) 1 3 (Some 0) None (Leaving 0 0)
    ∷ Back (Names (record { 0 = 1 })) 1 2 (Some 0) None (Leaving 0 0)
    ∷ Back (Names (record { 0 = 0 })) 1 1 (Some 0) None (Leaving 0 0)
    ∷ Left 0
    ∷ []

-- procedure Ruin (N : in out Node; L : in out Link) is begin Free (L); N.Value := 1; end Ruin;
abbrev pub ruining_bodies : List BodyForm
ruining_bodies =
    body_with (InOut ∷ InOut ∷ []) (record_parameter 2 ∷ unnamed (variable.Access (record { 0 = 1 })) ∷ [])
    (a_stmt (frees 1 (example_path 1 []))
    (a_stmt (assigns (object_path 0 (0 ∷ [])) (computes (integer (pos 1)))) no_stmts))
    ∷ []

-- B : access Node has number 2: Head := new Node'(1, Head); B := Head; Ruin (B.all, Head);
abbrev pub ruining_stmts : StmtsForm
ruining_stmts = pushing 1 (a_stmt b_is_head (a_stmt (calls 0 (in_out_record (record_behind 2) ∷ hands 0 ∷ [])) no_stmts))

-- N stands for the node that L frees, and Ruin looks for it to change it.
abbrev pub ruining_events : List Event
ruining_events =
    Followed (Names (record { 0 = 0 })) ∷ Back (Names (record { 0 = 0 })) 1 1 (Some 0) None (Freeing 2) ∷ []

-- procedure Drain (V : in out Integer; L : in out Link) is begin Free (L); end Drain;
abbrev pub draining_bodies : List BodyForm
draining_bodies =
    body_with (InOut ∷ InOut ∷ []) (unnamed variable.Integer ∷ unnamed (variable.Access (record { 0 = 1 })) ∷ [])
    (a_stmt (frees 1 (example_path 1 [])) no_stmts)
    ∷ []

-- Head := new Node'(1, Head); B := Head; Drain (B.Value, Head);
abbrev pub draining_stmts : StmtsForm
draining_stmts = pushing 1 (a_stmt b_is_head (a_stmt (calls 0 (in_out_component (example_path 2 (0 ∷ [])) ∷ hands 0 ∷ [])) no_stmts))

-- Drain ends normally, and the component is to get its value back in the node that L has freed.
abbrev pub draining_events : List Event
draining_events =
    Followed (Names (record { 0 = 0 })) ∷ Back (Names (record { 0 = 0 })) 1 1 (Some 0) None (Freeing 2) ∷ Left 1 ∷ []

-- R : Node has number 0: R.Next := new Node'(7, null); Spoil (R.Next);
abbrev pub stripping_stmts : StmtsForm
stripping_stmts =
    a_stmt (assigns (object_path 0 (1 ∷ [])) (allocates 1 (item_of_value (integer (pos 7)) ∷ null_item ∷ [])))
    (a_stmt (calls 0 (in_out_component (object_path 0 (1 ∷ [])) ∷ [])) no_stmts)

-- when Full => Put_Line (Integer'Image (R.Next.Value));
abbrev pub stripping_handlers : HandlersForm
stripping_handlers = a_handler (choice.Exception full ∷ []) (a_stmt (writes (reads (object_path 0 (1 ∷ 0 ∷ [])))) no_stmts) no_handlers

-- Both the component and the formal parameter own the node: Spoil frees it, and the handler looks for it by way of the component.
abbrev pub stripping_events : List Event
stripping_events =
    replicate 3 (Followed (Names (record { 0 = 0 })))
    ++ Back (Names (record { 0 = 1 })) 1 1 (Some 0) None (Freeing 2)
    ∷ Left 1
    ∷ Followed (Names (record { 0 = 0 }))
    ∷ []
