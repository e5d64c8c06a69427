-- Programs with procedures that meet the premises of the laws, or need a rule, with runs of them.

use Rattle.std.proofs.Common.{◌≡◌, ◌≤◌, ℕ, true, false, List, [], ◌∷◌, ◌++◌, length, refl, arith}
use Rattle.std.specs.Prelude.{None, pos}
use Rattle.ada_values.specs.declared.operator.BinaryOperator.TheVariants as binary
use Rattle.ada_values.specs.Outcome.{outcome_of}
use Rattle.ada_program.specs.declared.program.Actual.{Actual}
use Rattle.ada_program.specs.declared.program.Actual.TheVariants as actual
use Rattle.ada_program.specs.declared.program.FormalMode.{FormalMode}
use Rattle.ada_program.specs.declared.program.FormalMode.TheVariants.{In, InOut}
use Rattle.ada_program.specs.declared.program.Expression.{Expression, Integer, Path as Reads, NullTest}
use Rattle.ada_program.specs.declared.program.Item.TheVariants as item
use Rattle.ada_program.specs.declared.program.Right.TheVariants as right
use Rattle.ada_program.specs.declared.program.Choice.TheVariants as choice
use Rattle.ada_program.specs.declared.program.Declaration.{Declaration}
use Rattle.ada_program.specs.declared.program.Declaration.TheVariants as declaration
use Rattle.ada_program.specs.declared.program.Handler.{Handler}
use Rattle.ada_program.specs.declared.program.Part.{Part}
use Rattle.ada_program.specs.declared.program.PartKind.TheVariants as part_kinds
use Rattle.ada_program.specs.declared.program.Path.{Path}
use Rattle.ada_program.specs.declared.program.Procedure.{Procedure}
use Rattle.ada_program.specs.declared.program.Stmt.{Stmt}
use Rattle.ada_program.specs.declared.program.Stmt as stmt
use Rattle.ada_program.specs.declared.program.TypeDefinition.{TypeDefinition}
use Rattle.ada_program.specs.declared.program.TypeDefinition.TheVariants as definition
use Rattle.ada_program.specs.declared.program.Variable.{Variable}
use Rattle.ada_program.specs.declared.program.VariableKind.TheVariants as variable
use Rattle.ada_program.specs.declared.program.Program.{Program}
use Rattle.ada_program.specs.Form.{expression_form, stmt_forms, handler_forms, no_handlers, statement_rules, expression_rules}
use Rattle.ada_program.specs.ProgramForm.{body_forms}
use Rattle.ada_flow.specs.declared.rule.Hold.TheVariants as hold
use Rattle.ada_flow.specs.declared.rule.Rule.TheVariants.{LostValue, AliasMoved, TakePair, UnsafePath, FormalNotOwned}
use Rattle.ada_flow.specs.Flow.{uses_in}
use Rattle.ada_meaning.specs.declared.event.Halt.TheVariants.{Finished, Erroneous}
use Rattle.ada_meaning.specs.declared.event.Why.TheVariants.{FollowsGone, EndsTwice}
use Rattle.ada_meaning.specs.Named.{next}
use Rattle.ada_meaning.specs.Run.{grants, takes}
use Rattle.ada_sound.specs.Always.{IsChecked, FinishesAfter, Breaks, IsFineAtEnds, HaltsAfter}
use Rattle.ada_sound.specs.Examples.{full, raising_handlers}
use Rattle.ada_sound.specs.BorrowerExamples.{HasBorrower}
use Rattle.ada_sound.specs.CallExamples.{showing_body, calling_bodies, calling_stmts, calling_handlers, calling_events, relending_stmts, relending_events, giving_bodies, giving_stmts, giving_handlers, giving_events, stopping_bodies, stopping_stmts, stopping_events, bumping_bodies, bumping_stmts, bumping_events, renewing_bodies, renewing_stmts, renewing_events, dropping_bodies, dropping_stmts, dropping_events, sharing_bodies, sharing_stmts, sharing_events, spoiling_bodies, spoiling_stmts, spoiling_events, cutting_bodies, cutting_stmts, cutting_events, claiming_bodies, claiming_stmts, claiming_events, trimming_bodies, trimming_stmts, trimming_events, replacing_bodies, replacing_stmts, replacing_events, ruining_bodies, ruining_stmts, ruining_events, draining_bodies, draining_stmts, draining_events, stripping_stmts, stripping_handlers, stripping_events}
use Rattle.ada_sound.proofs.Choices.{accepted_in, breaks_in, fine_at_ends_in, halts_after_in}
use Rattle.ada_sound.proofs.Example.{steps, vec, no_name, spot, types, link, exceptions, declarations, with_number, x, y, n, n_declared, value_of_x, value_of_y, x_is_seven, y_is_x}
use Rattle.ada_sound.proofs.ExampleOwners.{an_integer as integer_component, an_access, path, part, moves, node_types, pushing}
use Rattle.ada_sound.proofs.ExampleFrees.{inserting}
use Rattle.ada_sound.proofs.ExampleRecords.{object, of_object, record_at, news, of_object_type}

-- The formal parameter N, and the variable P behind it.
abbrev an_integer : Variable
an_integer = record { name = no_name; spot = spot; kind = variable.Integer; borrows = false }

-- A call.
abbrev calls : ℕ → Expression → Stmt
calls procedure e = stmt.Call (record { 0 = procedure }) (vec (actual.In e ∷ []) (omega arith))

-- if N = n then .. end if;
abbrev where_formal_is : ℕ → Stmt → Stmt
where_formal_is n s =
    stmt.If
    (vec (record { condition = with_number binary.Equal n (Reads x); statements = vec (s ∷ []) (omega arith) } ∷ []) (omega arith))
    (vec [] (omega arith))

-- procedure Show (N : Integer) is P : Link;
-- begin
--    if N = 0 then return; end if;
--    P := new Cell'(Value => N); Put_Line (Integer'Image (P.Value)); Free (P);
--    if N = 2 then raise Full; end if;
-- end Show;
abbrev showing_all : List Stmt
showing_all =
    where_formal_is 0 (stmt.Return spot)
    ∷ stmt.Assign y (right.Allocator (record { 0 = 1 }) (vec (item.Value (Reads x) ∷ []) (omega arith)))
    ∷ stmt.PutImage (Reads value_of_y)
    ∷ stmt.Free (record { 0 = 1 }) y
    ∷ where_formal_is 2 (stmt.Raise full)
    ∷ []

abbrev showing : Procedure
showing = record {
  formals = vec (In ∷ []) (omega arith);
  variables = vec (an_integer ∷ link ∷ []) (omega arith);
  declarations = vec (declaration.Variable (record { 0 = 1 }) None ∷ []) (omega arith);
  statements = vec showing_all (omega arith);
  handlers = vec [] (omega arith);
  start = spot;
  end = spot;
}

-- procedure Show_Two (N : Integer) is begin Show (N); Show (N + 1); end Show_Two;
abbrev showing_two : Procedure
showing_two = record {
  formals = vec (In ∷ []) (omega arith);
  variables = vec (an_integer ∷ []) (omega arith);
  declarations = vec [] (omega arith);
  statements = vec (calls 0 (Reads x) ∷ calls 0 (with_number binary.Add 1 (Reads x)) ∷ []) (omega arith);
  handlers = vec [] (omega arith);
  start = spot;
  end = spot;
}

-- when Full => Put_Line (Integer'Image (X.Value)); Free (X);
abbrev freeing_handler : Handler
freeing_handler = record {
  choices = vec (choice.Exception full ∷ []) (omega arith);
  statements = vec (stmt.PutImage (Reads value_of_x) ∷ stmt.Free (record { 0 = 1 }) x ∷ []) (omega arith);
}

-- X := new Cell'(Value => 7); Show (0); Show_Two (1); Put_Line (Integer'Image (0));
abbrev calling_all : List Stmt
calling_all = x_is_seven ∷ calls 0 (Integer (pos 0)) ∷ calls 1 (Integer (pos 1)) ∷ stmt.PutImage (Integer (pos 0)) ∷ []

abbrev program_with : (procedures : List Procedure) → length procedures ≤ 8 → (statements : List Stmt) → length statements ≤ 8 → (handlers : List Handler)
    → length handlers ≤ 8 → Program
program_with procedures less statements le handlers few = record {
  types = vec types (omega arith);
  pools = vec [] (omega arith);
  procedures = vec procedures less;
  variables = vec (link ∷ link ∷ []) (omega arith);
  texts = vec [] (omega arith);
  exceptions = vec exceptions (omega arith);
  declarations = vec declarations (omega arith);
  statements = vec statements le;
  handlers = vec handlers few;
}

abbrev pub calling : Program
calling = program_with (showing ∷ showing_two ∷ []) (omega arith) calling_all (omega arith) (freeing_handler ∷ []) (omega arith)

pub calling_declares : body_forms calling ≡ calling_bodies
calling_declares = simp (statement_rules, expression_rules)

pub calling_form : stmt_forms calling ≡ calling_stmts
calling_form = simp (statement_rules, expression_rules)

pub calling_handles : handler_forms calling ≡ calling_handlers
calling_handles = simp (statement_rules, expression_rules)

pub calling_accepted : IsChecked calling
unfolding uses_in
calling_accepted = accepted_in calling calling_bodies calling_stmts calling_handlers calling_declares calling_form calling_handles _ _ refl refl refl

-- Four calls, the last of which raises the exception.
pub called : FinishesAfter calling_events calling
unfolding next outcome_of
called =
    halts_after_in calling calling_bodies calling_stmts calling_handlers calling_declares calling_form calling_handles []
    (steps 13 ++ grants true ∷ steps 49 ++ grants true ∷ steps 49 ++ grants true ∷ steps 44) calling_events Finished refl refl refl

-- B : access Cell;
abbrev borrower : Variable
borrower = record link { borrows = true }

abbrev b : Path
b = record { root = record { 0 = 2 }; of_record = false; selectors = vec [] (omega arith); spot = spot }

abbrev value_of_b : Path
value_of_b = record { root = record { 0 = 2 }; of_record = false; selectors = vec (record { 0 = 0 } ∷ []) (omega arith); spot = spot }

abbrev b_is_x : Stmt
b_is_x = stmt.Assign b (right.Path x)

-- X := new Cell'(Value => 7); B := X; Show (1); B := X; Put_Line (Integer'Image (B.Value));
abbrev relending_all : List Stmt
relending_all = x_is_seven ∷ b_is_x ∷ calls 0 (Integer (pos 1)) ∷ b_is_x ∷ stmt.PutImage (Reads value_of_b) ∷ []

abbrev pub relending : Program
relending = record {
  types = vec types (omega arith);
  pools = vec [] (omega arith);
  procedures = vec (showing ∷ []) (omega arith);
  variables = vec (link ∷ link ∷ borrower ∷ []) (omega arith);
  texts = vec [] (omega arith);
  exceptions = vec exceptions (omega arith);
  declarations = vec (declarations ++ declaration.Variable (record { 0 = 2 }) None ∷ []) (omega arith);
  statements = vec relending_all (omega arith);
  handlers = vec [] (omega arith);
}

pub relending_declares : body_forms relending ≡ showing_body ∷ []
relending_declares = simp (statement_rules, expression_rules)

pub relending_form : stmt_forms relending ≡ relending_stmts
relending_form = simp (statement_rules, expression_rules)

pub relending_borrows : HasBorrower relending
relending_borrows = refl

pub relending_accepted : IsChecked relending
unfolding uses_in
relending_accepted = accepted_in relending (showing_body ∷ []) relending_stmts no_handlers relending_declares relending_form refl _ _ refl refl refl

-- The borrower is lost behind the call, and gets its value once more.
pub relends : FinishesAfter relending_events relending
unfolding next outcome_of
relends =
    halts_after_in relending (showing_body ∷ []) relending_stmts no_handlers relending_declares relending_form refl []
    (steps 16 ++ grants true ∷ steps 25 ++ grants true ∷ steps 35 ++ takes 0 ∷ steps 4) relending_events Finished refl refl refl

-- procedure Inc (N : in out Integer) is begin N := N + 1; end Inc;
abbrev incrementing : Procedure
incrementing = record {
  formals = vec (InOut ∷ []) (omega arith);
  variables = vec (an_integer ∷ []) (omega arith);
  declarations = vec [] (omega arith);
  statements = vec (stmt.Assign x (right.Value (with_number binary.Add 1 (Reads x))) ∷ []) (omega arith);
  handlers = vec [] (omega arith);
  start = spot;
  end = spot;
}

-- A call of such a procedure.
abbrev gives_to : ℕ → Path → Stmt
gives_to procedure path = stmt.Call (record { 0 = procedure }) (vec (actual.InOut path ∷ []) (omega arith))

-- procedure Fail (N : in out Integer) is begin Inc (N); Put_Line (Integer'Image (N)); raise Full; end Fail;
abbrev failing : Procedure
failing = record {
  formals = vec (InOut ∷ []) (omega arith);
  variables = vec (an_integer ∷ []) (omega arith);
  declarations = vec [] (omega arith);
  statements = vec (gives_to 0 x ∷ stmt.PutImage (Reads x) ∷ stmt.Raise full ∷ []) (omega arith);
  handlers = vec [] (omega arith);
  start = spot;
  end = spot;
}

-- when Full => Put_Line (Integer'Image (N));
abbrev writing_handler : Handler
writing_handler = record {
  choices = vec (choice.Exception full ∷ []) (omega arith);
  statements = vec (stmt.PutImage (Reads n) ∷ []) (omega arith);
}

-- N : Integer := 0; and Inc (N); Put_Line (Integer'Image (N)); Fail (N);
abbrev pub giving : Program
giving = record {
  types = vec types (omega arith);
  pools = vec [] (omega arith);
  procedures = vec (incrementing ∷ failing ∷ []) (omega arith);
  variables = vec (link ∷ link ∷ an_integer ∷ []) (omega arith);
  texts = vec [] (omega arith);
  exceptions = vec exceptions (omega arith);
  declarations = vec (declarations ++ n_declared ∷ []) (omega arith);
  statements = vec (gives_to 0 n ∷ stmt.PutImage (Reads n) ∷ gives_to 1 n ∷ []) (omega arith);
  handlers = vec (writing_handler ∷ []) (omega arith);
}

pub giving_declares : body_forms giving ≡ giving_bodies
giving_declares = simp (statement_rules, expression_rules)

pub giving_form : stmt_forms giving ≡ giving_stmts
giving_form = simp (statement_rules, expression_rules)

pub giving_handles : handler_forms giving ≡ giving_handlers
giving_handles = simp (statement_rules, expression_rules)

pub giving_accepted : IsChecked giving
unfolding uses_in expression_form
giving_accepted = accepted_in giving giving_bodies giving_stmts giving_handlers giving_declares giving_form giving_handles _ _ refl refl refl

-- The variable gets back what Inc leaves, and nothing where the exception leaves Fail.
pub gives_back : FinishesAfter giving_events giving
unfolding next outcome_of expression_form
gives_back =
    halts_after_in giving giving_bodies giving_stmts giving_handlers giving_declares giving_form giving_handles []
    (steps 76) giving_events Finished refl refl refl

-- procedure Stop is begin raise Full; end Stop;
abbrev stopping_procedure : Procedure
stopping_procedure = record {
  formals = vec [] (omega arith);
  variables = vec [] (omega arith);
  declarations = vec [] (omega arith);
  statements = vec (stmt.Raise full ∷ []) (omega arith);
  handlers = vec [] (omega arith);
  start = spot;
  end = spot;
}

-- X := new Cell'(Value => 7); Y := X; Free (Y); Stop; X := null;
abbrev stopping_all : List Stmt
stopping_all =
    x_is_seven ∷ y_is_x ∷ stmt.Free (record { 0 = 1 }) y ∷ stmt.Call (record { 0 = 0 }) (vec [] (omega arith)) ∷ stmt.Assign x right.Null ∷ []

-- when Full => Put_Line (Integer'Image (X.Value));
abbrev following_handler : Handler
following_handler = record {
  choices = vec (choice.Exception full ∷ []) (omega arith);
  statements = vec (stmt.PutImage (Reads value_of_x) ∷ []) (omega arith);
}

abbrev pub stopping : Program
stopping = program_with (stopping_procedure ∷ []) (omega arith) stopping_all (omega arith) (following_handler ∷ []) (omega arith)

pub stopping_declares : body_forms stopping ≡ stopping_bodies
stopping_declares = simp statement_rules

pub stopping_form : stmt_forms stopping ≡ stopping_stmts
stopping_form = simp (statement_rules, expression_rules)

pub stopping_handles : handler_forms stopping ≡ raising_handlers
stopping_handles = simp (statement_rules, expression_rules)

pub stopping_breaks : Breaks LostValue stopping
unfolding uses_in
stopping_breaks =
    breaks_in stopping stopping_bodies stopping_stmts raising_handlers stopping_declares stopping_form stopping_handles LostValue spot refl refl refl

-- Where the statements begin, and where they end, the handler would be fine.
pub stopping_at_ends : IsFineAtEnds (hold.Null ∷ hold.Null ∷ []) stopping
unfolding uses_in
stopping_at_ends =
    fine_at_ends_in stopping stopping_bodies stopping_stmts raising_handlers stopping_declares stopping_form stopping_handles
    (hold.Null ∷ hold.Null ∷ []) _ _ _ _ refl refl refl

-- The procedure is called when the object is gone.
pub stops : HaltsAfter stopping_events (Erroneous FollowsGone) stopping
unfolding next
stops =
    halts_after_in stopping stopping_bodies stopping_stmts raising_handlers stopping_declares stopping_form stopping_handles []
    (steps 13 ++ grants true ∷ steps 20) stopping_events (Erroneous FollowsGone) refl refl refl

-- A procedure with one formal parameter of this mode, L : Link.
abbrev with_link : FormalMode → (statements : List Stmt) → length statements ≤ 8 → Procedure
with_link mode statements le = record {
  formals = vec (mode ∷ []) (omega arith);
  variables = vec (link ∷ []) (omega arith);
  declarations = vec [] (omega arith);
  statements = vec statements le;
  handlers = vec [] (omega arith);
  start = spot;
  end = spot;
}

-- procedure Bump (L : Link) is begin L.Value := L.Value + 1; end Bump;
abbrev bump : Procedure
bump = with_link In (stmt.Assign value_of_x (right.Value (with_number binary.Add 1 (Reads value_of_x))) ∷ []) (omega arith)

-- A call that lends a variable to such a procedure.
abbrev lends_to : ℕ → Path → Stmt
lends_to procedure path = stmt.Call (record { 0 = procedure }) (vec (actual.InAccess path ∷ []) (omega arith))

-- Free (X);
abbrev free_x : Stmt
free_x = stmt.Free (record { 0 = 1 }) x

-- X := new Cell'(Value => 7); Bump (X); Put_Line (Integer'Image (X.Value)); Free (X);
abbrev bumping_all : List Stmt
bumping_all = x_is_seven ∷ lends_to 0 x ∷ stmt.PutImage (Reads value_of_x) ∷ free_x ∷ []

abbrev pub bumping : Program
bumping = program_with (bump ∷ []) (omega arith) bumping_all (omega arith) [] (omega arith)

pub bumping_declares : body_forms bumping ≡ bumping_bodies
bumping_declares = simp (statement_rules, expression_rules)

pub bumping_form : stmt_forms bumping ≡ bumping_stmts
bumping_form = simp (statement_rules, expression_rules)

pub bumping_accepted : IsChecked bumping
unfolding uses_in
bumping_accepted = accepted_in bumping bumping_bodies bumping_stmts no_handlers bumping_declares bumping_form refl _ _ refl refl refl

-- The variable still owns what the procedure has changed.
pub bumps : FinishesAfter bumping_events bumping
unfolding next outcome_of expression_form
bumps =
    halts_after_in bumping bumping_bodies bumping_stmts no_handlers bumping_declares bumping_form refl []
    (steps 13 ++ grants true ∷ steps 34) bumping_events Finished refl refl refl

-- A call that hands a variable over to a procedure.
abbrev hands_to : ℕ → Path → Stmt
hands_to procedure path = stmt.Call (record { 0 = procedure }) (vec (actual.InOutAccess path ∷ []) (omega arith))

-- procedure Renew (L : in out Link) is begin Free (L); L := new Cell'(Value => 9); end Renew;
abbrev renew : Procedure
renew =
    with_link InOut
    (free_x ∷ stmt.Assign x (right.Allocator (record { 0 = 1 }) (vec (item.Value (Integer (pos 9)) ∷ []) (omega arith))) ∷ [])
    (omega arith)

-- X := new Cell'(Value => 7); Renew (X); Put_Line (Integer'Image (X.Value));
abbrev renewing_all : List Stmt
renewing_all = x_is_seven ∷ hands_to 0 x ∷ stmt.PutImage (Reads value_of_x) ∷ []

abbrev pub renewing : Program
renewing = program_with (renew ∷ []) (omega arith) renewing_all (omega arith) [] (omega arith)

pub renewing_declares : body_forms renewing ≡ renewing_bodies
renewing_declares = simp (statement_rules, expression_rules)

pub renewing_form : stmt_forms renewing ≡ renewing_stmts
renewing_form = simp (statement_rules, expression_rules)

pub renewing_accepted : IsChecked renewing
unfolding uses_in
renewing_accepted = accepted_in renewing renewing_bodies renewing_stmts no_handlers renewing_declares renewing_form refl _ _ refl refl refl

-- The variable owns what comes back.
pub renews : FinishesAfter renewing_events renewing
unfolding next
renews =
    halts_after_in renewing renewing_bodies renewing_stmts no_handlers renewing_declares renewing_form refl []
    (steps 13 ++ grants true ∷ steps 14 ++ grants true ∷ steps 14 ++ takes 0 ∷ steps 4) renewing_events Finished refl refl refl

-- procedure Drop (L : in out Link) is begin if L.Value = 7 then raise Full; end if; Free (L); end Drop;
abbrev seven_is_full : Stmt
seven_is_full =
    stmt.If
    (vec (record { condition = with_number binary.Equal 7 (Reads value_of_x); statements = vec (stmt.Raise full ∷ []) (omega arith) } ∷ []) (omega arith))
    (vec [] (omega arith))

abbrev drop : Procedure
drop = with_link InOut (seven_is_full ∷ free_x ∷ []) (omega arith)

-- X := new Cell'(Value => 7); Drop (X);
abbrev pub dropping : Program
dropping = program_with (drop ∷ []) (omega arith) (x_is_seven ∷ hands_to 0 x ∷ []) (omega arith) (freeing_handler ∷ []) (omega arith)

pub dropping_declares : body_forms dropping ≡ dropping_bodies
dropping_declares = simp (statement_rules, expression_rules)

pub dropping_form : stmt_forms dropping ≡ dropping_stmts
dropping_form = simp (statement_rules, expression_rules)

pub dropping_handles : handler_forms dropping ≡ calling_handlers
dropping_handles = simp (statement_rules, expression_rules)

pub dropping_accepted : IsChecked dropping
unfolding uses_in
dropping_accepted = accepted_in dropping dropping_bodies dropping_stmts calling_handlers dropping_declares dropping_form dropping_handles _ _ refl refl refl

-- The procedure keeps its formal parameter: the handler follows and frees what the variable owns.
pub drops : FinishesAfter dropping_events dropping
unfolding next outcome_of
drops =
    halts_after_in dropping dropping_bodies dropping_stmts calling_handlers dropping_declares dropping_form dropping_handles []
    (steps 13 ++ grants true ∷ steps 35) dropping_events Finished refl refl refl

-- A procedure with two formal parameters of these modes, L : Link and K : Link.
abbrev with_links : (first second : FormalMode) → (statements : List Stmt) → length statements ≤ 8 → Procedure
with_links first second statements le = record {
  formals = vec (first ∷ second ∷ []) (omega arith);
  variables = vec (link ∷ link ∷ []) (omega arith);
  declarations = vec [] (omega arith);
  statements = vec statements le;
  handlers = vec [] (omega arith);
  start = spot;
  end = spot;
}

-- A call of such a procedure.
abbrev calls_with : ℕ → (first second : Actual) → Stmt
calls_with procedure first second = stmt.Call (record { 0 = procedure }) (vec (first ∷ second ∷ []) (omega arith))

-- L := K;
abbrev x_is_y : Stmt
x_is_y = stmt.Assign x (right.Path y)

-- Free (Y);
abbrev free_y : Stmt
free_y = stmt.Free (record { 0 = 1 }) y

-- procedure Share (L : in out Link; K : in out Link) is begin L := K; end Share;
abbrev share : Procedure
share = with_links InOut InOut (x_is_y ∷ []) (omega arith)

-- X := new Cell'(Value => 7); Share (Y, X); Free (Y); Free (X);
abbrev sharing_all : List Stmt
sharing_all = x_is_seven ∷ calls_with 0 (actual.InOutAccess y) (actual.InOutAccess x) ∷ free_y ∷ free_x ∷ []

abbrev pub sharing : Program
sharing = program_with (share ∷ []) (omega arith) sharing_all (omega arith) [] (omega arith)

pub sharing_declares : body_forms sharing ≡ sharing_bodies
sharing_declares = simp statement_rules

pub sharing_form : stmt_forms sharing ≡ sharing_stmts
sharing_form = simp (statement_rules, expression_rules)

pub sharing_breaks : Breaks FormalNotOwned sharing
unfolding uses_in
sharing_breaks = breaks_in sharing sharing_bodies sharing_stmts no_handlers sharing_declares sharing_form refl FormalNotOwned spot refl refl refl

-- What comes back to both variables is freed by each.
pub shares : HaltsAfter sharing_events (Erroneous EndsTwice) sharing
unfolding next
shares =
    halts_after_in sharing sharing_bodies sharing_stmts no_handlers sharing_declares sharing_form refl []
    (steps 13 ++ grants true ∷ steps 18) sharing_events (Erroneous EndsTwice) refl refl refl

-- procedure Spoil (L : in out Link) is begin Free (L); raise Full; end Spoil;
abbrev spoil : Procedure
spoil = with_link InOut (free_x ∷ stmt.Raise full ∷ []) (omega arith)

-- X := new Cell'(Value => 7); Spoil (X);
abbrev pub spoiling : Program
spoiling = program_with (spoil ∷ []) (omega arith) (x_is_seven ∷ hands_to 0 x ∷ []) (omega arith) (following_handler ∷ []) (omega arith)

pub spoiling_declares : body_forms spoiling ≡ spoiling_bodies
spoiling_declares = simp statement_rules

pub spoiling_form : stmt_forms spoiling ≡ spoiling_stmts
spoiling_form = simp (statement_rules, expression_rules)

pub spoiling_handles : handler_forms spoiling ≡ raising_handlers
spoiling_handles = simp (statement_rules, expression_rules)

pub spoiling_breaks : Breaks LostValue spoiling
unfolding uses_in
spoiling_breaks =
    breaks_in spoiling spoiling_bodies spoiling_stmts raising_handlers spoiling_declares spoiling_form spoiling_handles LostValue spot refl refl refl

-- The exception gives nothing back, and the handler follows what is gone.
pub spoils : HaltsAfter spoiling_events (Erroneous FollowsGone) spoiling
unfolding next
spoils =
    halts_after_in spoiling spoiling_bodies spoiling_stmts raising_handlers spoiling_declares spoiling_form spoiling_handles []
    (steps 13 ++ grants true ∷ steps 18) spoiling_events (Erroneous FollowsGone) refl refl refl

-- procedure Cut (L : in out Link; K : in out Link) is begin Free (L); Put_Line (Integer'Image (K.Value)); end Cut;
abbrev cut : Procedure
cut = with_links InOut InOut (free_x ∷ stmt.PutImage (Reads value_of_y) ∷ []) (omega arith)

-- X := new Cell'(Value => 7); Cut (X, X);
abbrev cutting_all : List Stmt
cutting_all = x_is_seven ∷ calls_with 0 (actual.InOutAccess x) (actual.InOutAccess x) ∷ []

abbrev pub cutting : Program
cutting = program_with (cut ∷ []) (omega arith) cutting_all (omega arith) [] (omega arith)

pub cutting_declares : body_forms cutting ≡ cutting_bodies
cutting_declares = simp (statement_rules, expression_rules)

pub cutting_form : stmt_forms cutting ≡ cutting_stmts
cutting_form = simp (statement_rules, expression_rules)

pub cutting_breaks : Breaks UnsafePath cutting
unfolding uses_in
cutting_breaks = breaks_in cutting cutting_bodies cutting_stmts no_handlers cutting_declares cutting_form refl UnsafePath spot refl refl refl

-- What is freed by way of the one formal parameter is followed by way of the other.
pub cuts : HaltsAfter cutting_events (Erroneous FollowsGone) cutting
unfolding next
cuts =
    halts_after_in cutting cutting_bodies cutting_stmts no_handlers cutting_declares cutting_form refl []
    (steps 13 ++ grants true ∷ steps 11) cutting_events (Erroneous FollowsGone) refl refl refl

-- procedure Claim (L : in out Link; K : Link) is begin L := K; end Claim;
abbrev claim : Procedure
claim = with_links InOut In (x_is_y ∷ []) (omega arith)

-- X := new Cell'(Value => 7); Claim (Y, X); Free (Y); Free (X);
abbrev claiming_all : List Stmt
claiming_all = x_is_seven ∷ calls_with 0 (actual.InOutAccess y) (actual.InAccess x) ∷ free_y ∷ free_x ∷ []

abbrev pub claiming : Program
claiming = program_with (claim ∷ []) (omega arith) claiming_all (omega arith) [] (omega arith)

pub claiming_declares : body_forms claiming ≡ claiming_bodies
claiming_declares = simp statement_rules

pub claiming_form : stmt_forms claiming ≡ claiming_stmts
claiming_form = simp (statement_rules, expression_rules)

pub claiming_breaks : Breaks AliasMoved claiming
unfolding uses_in
claiming_breaks = breaks_in claiming claiming_bodies claiming_stmts no_handlers claiming_declares claiming_form refl AliasMoved spot refl refl refl

-- What the one variable only lends, the other one frees; then its owner does.
pub claims : HaltsAfter claiming_events (Erroneous EndsTwice) claiming
unfolding next
claims =
    halts_after_in claiming claiming_bodies claiming_stmts no_handlers claiming_declares claiming_form refl []
    (steps 13 ++ grants true ∷ steps 18) claiming_events (Erroneous EndsTwice) refl refl refl

-- A procedure with these formal parameters.
abbrev with_formals : (modes : List FormalMode) → length modes ≤ 8 → (variables : List Variable) → length variables ≤ 8 → (statements : List Stmt)
    → length statements ≤ 8 → Procedure
with_formals modes few variables less statements le = record {
  formals = vec modes few;
  variables = vec variables less;
  declarations = vec [] (omega arith);
  statements = vec statements le;
  handlers = vec [] (omega arith);
  start = spot;
  end = spot;
}

-- A call of a procedure with one actual parameter.
abbrev calls_by : ℕ → Actual → Stmt
calls_by procedure a = stmt.Call (record { 0 = procedure }) (vec (a ∷ []) (omega arith))

-- type Node is record Value : Integer; Next : Link; end record; type Link is access Node; and what one record is known by.
abbrev node_and_object : List TypeDefinition
node_and_object = node_types ++ definition.Object (record { 0 = 0 }) ∷ []

-- procedure Show_Node (N : Node) is begin Put_Line (Integer'Image (N.Value)); end Show_Node;
abbrev show_node : Procedure
show_node = with_formals (In ∷ []) (omega arith) (of_object_type 2 ∷ []) (omega arith) (stmt.PutImage (Reads (of_object 0 0)) ∷ []) (omega arith)

-- procedure Trim (N : in out Node) is begin N.Value := N.Value + 1; Free (N.Next); Show_Node (N); end Trim;
abbrev trimming_all : List Stmt
trimming_all =
    stmt.Assign (of_object 0 0) (right.Value (with_number binary.Add 1 (Reads (of_object 0 0))))
    ∷ stmt.Free (record { 0 = 1 }) (of_object 0 1)
    ∷ calls_by 0 (actual.InRecord (record_at (object 0)))
    ∷ []

abbrev trim : Procedure
trim = with_formals (InOut ∷ []) (omega arith) (of_object_type 3 ∷ []) (omega arith) trimming_all (omega arith)

-- A component that is a Node, without controlled parts, and begins with the elementary component of a number.
abbrev node_from : (first : ℕ) → Part
node_from first = record { name = no_name; kind = part_kinds.Record (record { 0 = 0 }); first = record { 0 = first }; part = record { 0 = 0 } }

-- type Pair is record First, Second : Node; end record;
abbrev pair_types : List TypeDefinition
pair_types =
    node_and_object ++ definition.Object (record { 0 = 0 })
    ∷ definition.Record no_name (vec (node_from 0 ∷ node_from 2 ∷ []) (omega arith))
    (vec (integer_component ∷ an_access 1 ∷ integer_component ∷ an_access 1 ∷ []) (omega arith)) None
    ∷ definition.Object (record { 0 = 4 })
    ∷ []

-- R.Second.Next := new Node'(7, null); Show_Node (R.Second.Next.all); Trim (R.Second);
-- Put_Line (Integer'Image (R.Second.Value)); if R.Second.Next = null then Put_Line (Integer'Image (0)); end if;
abbrev zero_where_null : Stmt
zero_where_null =
    stmt.If
    (vec (record { condition = NullTest (of_object 0 3) true; statements = vec (stmt.PutImage (Integer (pos 0)) ∷ []) (omega arith) } ∷ []) (omega arith))
    (vec [] (omega arith))

abbrev trimming_main : List Stmt
trimming_main =
    news (of_object 0 3) (item.Value (Integer (pos 7)) ∷ item.Null ∷ []) (omega arith)
    ∷ calls_by 0 (actual.InRecord (record_at (of_object 0 3)))
    ∷ calls_by 1 (actual.InOutRecord (record (record_at (object 0)) { first = record { 0 = 2 } }))
    ∷ stmt.PutImage (Reads (of_object 0 2))
    ∷ zero_where_null
    ∷ []

-- A record object R that is known by the type of a number.
abbrev r_declared : (object_type : ℕ) → List Declaration
r_declared t = declaration.Collection (record { 0 = 1 }) ∷ declaration.Record (record { 0 = 0 }) (record { 0 = t }) None ∷ []

abbrev pub trimming : Program
trimming = record {
  types = vec pair_types (omega arith);
  pools = vec [] (omega arith);
  procedures = vec (show_node ∷ trim ∷ []) (omega arith);
  variables = vec (of_object_type 5 ∷ []) (omega arith);
  texts = vec [] (omega arith);
  exceptions = vec [] (omega arith);
  declarations = vec (r_declared 5) (omega arith);
  statements = vec trimming_main (omega arith);
  handlers = vec [] (omega arith);
}

pub trimming_declares : body_forms trimming ≡ trimming_bodies
trimming_declares = simp (statement_rules, expression_rules)

pub trimming_form : stmt_forms trimming ≡ trimming_stmts
trimming_form = simp (statement_rules, expression_rules)

pub trimming_accepted : IsChecked trimming
unfolding uses_in
trimming_accepted = accepted_in trimming trimming_bodies trimming_stmts no_handlers trimming_declares trimming_form refl _ _ refl refl refl

-- What Trim does to the record is seen where it lies.
pub trims : FinishesAfter trimming_events trimming
unfolding next outcome_of expression_form
trims =
    halts_after_in trimming trimming_bodies trimming_stmts no_handlers trimming_declares trimming_form refl []
    (steps 10 ++ grants true ∷ steps 66 ++ takes 0 ∷ steps 5) trimming_events Finished refl refl refl

-- procedure Replace (V : in out Integer; N : in out Node) is begin V := V + 5; N.Next := new Node'(9, null); end Replace;
abbrev replacing_all : List Stmt
replacing_all =
    stmt.Assign x (right.Value (with_number binary.Add 5 (Reads x)))
    ∷ news (of_object 1 1) (item.Value (Integer (pos 9)) ∷ item.Null ∷ []) (omega arith)
    ∷ []

abbrev replace : Procedure
replace = with_formals (InOut ∷ InOut ∷ []) (omega arith) (an_integer ∷ of_object_type 2 ∷ []) (omega arith) replacing_all (omega arith)

-- Head.Next.Value
abbrev next_value : Path
next_value = path 0 (record { 0 = 1 } ∷ record { 0 = 0 } ∷ []) (omega arith)

-- Head : Link; Rest, B : access Node;
-- Head := new Node'(1, Head); Head.Next := new Node'(2, Head.Next); B := Head; Rest := Head.Next; Replace (Head.Next.Value, B.all);
-- Put_Line (Integer'Image (Rest.Value)); Put_Line (Integer'Image (Head.Next.Value));
abbrev replacing_main : List Stmt
replacing_main =
    pushing 1
    ∷ inserting 2
    ∷ b_is_x
    ∷ moves y (part 0 1)
    ∷ calls_with 0 (actual.InOutComponent next_value) (actual.InOutRecord (record_at b))
    ∷ stmt.PutImage (Reads value_of_y)
    ∷ stmt.PutImage (Reads next_value)
    ∷ []

-- A program with Head, Rest and B, the last one a borrower.
abbrev program_of_nodes : (rest : Variable) → Procedure → (statements : List Stmt) → length statements ≤ 8 → Program
program_of_nodes rest procedure statements le = record {
  types = vec node_and_object (omega arith);
  pools = vec [] (omega arith);
  procedures = vec (procedure ∷ []) (omega arith);
  variables = vec (link ∷ rest ∷ borrower ∷ []) (omega arith);
  texts = vec [] (omega arith);
  exceptions = vec [] (omega arith);
  declarations = vec (declarations ++ declaration.Variable (record { 0 = 2 }) None ∷ []) (omega arith);
  statements = vec statements le;
  handlers = vec [] (omega arith);
}

abbrev pub replacing : Program
replacing = program_of_nodes borrower replace replacing_main (omega arith)

pub replacing_declares : body_forms replacing ≡ replacing_bodies
replacing_declares = simp (statement_rules, expression_rules)

pub replacing_form : stmt_forms replacing ≡ replacing_stmts
replacing_form = simp (statement_rules, expression_rules)

pub replacing_borrows : HasBorrower replacing
replacing_borrows = refl

pub replacing_accepted : IsChecked replacing
unfolding uses_in expression_form
replacing_accepted = accepted_in replacing replacing_bodies replacing_stmts no_handlers replacing_declares replacing_form refl _ _ refl refl refl

-- The component of the node that was found before the call gets the value.
pub replaces : FinishesAfter replacing_events replacing
unfolding next outcome_of expression_form
replaces =
    halts_after_in replacing replacing_bodies replacing_stmts no_handlers replacing_declares replacing_form refl []
    (steps 17 ++ grants true ∷ steps 8 ++ grants true ∷ steps 30 ++ grants true ∷ steps 20 ++ takes 0 ∷ steps 2 ++ takes 0 ∷ steps 2 ++ takes 0 ∷ steps 4)
    replacing_events Finished refl refl refl

-- procedure Ruin (N : in out Node; L : in out Link) is begin Free (L); N.Value := 1; end Ruin;
abbrev ruin : Procedure
ruin =
    with_formals (InOut ∷ InOut ∷ []) (omega arith) (of_object_type 2 ∷ link ∷ []) (omega arith)
    (free_y ∷ stmt.Assign (of_object 0 0) (right.Value (Integer (pos 1))) ∷ []) (omega arith)

-- Head, Rest : Link; B : access Node; Head := new Node'(1, Head); B := Head; Ruin (B.all, Head);
abbrev pub ruining : Program
ruining =
    program_of_nodes link ruin
    (pushing 1 ∷ b_is_x ∷ calls_with 0 (actual.InOutRecord (record_at b)) (actual.InOutAccess x) ∷ []) (omega arith)

pub ruining_declares : body_forms ruining ≡ ruining_bodies
ruining_declares = simp (statement_rules, expression_rules)

pub ruining_form : stmt_forms ruining ≡ ruining_stmts
ruining_form = simp (statement_rules, expression_rules)

pub ruining_borrows : HasBorrower ruining
ruining_borrows = refl

pub ruining_breaks : Breaks UnsafePath ruining
unfolding uses_in expression_form
ruining_breaks = breaks_in ruining ruining_bodies ruining_stmts no_handlers ruining_declares ruining_form refl UnsafePath spot refl refl refl

-- What is freed by way of the one formal parameter is followed by way of the record.
pub ruins : HaltsAfter ruining_events (Erroneous FollowsGone) ruining
unfolding next expression_form
ruins =
    halts_after_in ruining ruining_bodies ruining_stmts no_handlers ruining_declares ruining_form refl []
    (steps 17 ++ grants true ∷ steps 15) ruining_events (Erroneous FollowsGone) refl refl refl

-- procedure Drain (V : in out Integer; L : in out Link) is begin Free (L); end Drain;
abbrev drain : Procedure
drain = with_formals (InOut ∷ InOut ∷ []) (omega arith) (an_integer ∷ link ∷ []) (omega arith) (free_y ∷ []) (omega arith)

-- Head := new Node'(1, Head); B := Head; Drain (B.Value, Head);
abbrev pub draining : Program
draining =
    program_of_nodes link drain
    (pushing 1 ∷ b_is_x ∷ calls_with 0 (actual.InOutComponent value_of_b) (actual.InOutAccess x) ∷ []) (omega arith)

pub draining_declares : body_forms draining ≡ draining_bodies
draining_declares = simp statement_rules

pub draining_form : stmt_forms draining ≡ draining_stmts
draining_form = simp (statement_rules, expression_rules)

pub draining_borrows : HasBorrower draining
draining_borrows = refl

pub draining_breaks : Breaks UnsafePath draining
unfolding uses_in expression_form
draining_breaks = breaks_in draining draining_bodies draining_stmts no_handlers draining_declares draining_form refl UnsafePath spot refl refl refl

-- What is freed by way of the one formal parameter is to get the value of the other one back.
pub drains : HaltsAfter draining_events (Erroneous FollowsGone) draining
unfolding next expression_form
drains =
    halts_after_in draining draining_bodies draining_stmts no_handlers draining_declares draining_form refl []
    (steps 17 ++ grants true ∷ steps 19) draining_events (Erroneous FollowsGone) refl refl refl

-- when Full => Put_Line (Integer'Image (R.Next.Value));
abbrev looking_handler : Handler
looking_handler = record {
  choices = vec (choice.Exception full ∷ []) (omega arith);
  statements = vec (stmt.PutImage (Reads (record next_value { of_record = true })) ∷ []) (omega arith);
}

-- R : Node; R.Next := new Node'(7, null); Spoil (R.Next);
abbrev stripping_main : List Stmt
stripping_main =
    news (of_object 0 1) (item.Value (Integer (pos 7)) ∷ item.Null ∷ []) (omega arith) ∷ calls_by 0 (actual.InOutComponent (of_object 0 1)) ∷ []

abbrev pub stripping : Program
stripping = record {
  types = vec node_and_object (omega arith);
  pools = vec [] (omega arith);
  procedures = vec (spoil ∷ []) (omega arith);
  variables = vec (of_object_type 2 ∷ []) (omega arith);
  texts = vec [] (omega arith);
  exceptions = vec exceptions (omega arith);
  declarations = vec (r_declared 2) (omega arith);
  statements = vec stripping_main (omega arith);
  handlers = vec (looking_handler ∷ []) (omega arith);
}

pub stripping_declares : body_forms stripping ≡ spoiling_bodies
stripping_declares = simp statement_rules

pub stripping_form : stmt_forms stripping ≡ stripping_stmts
stripping_form = simp (statement_rules, expression_rules)

pub stripping_handles : handler_forms stripping ≡ stripping_handlers
stripping_handles = simp (statement_rules, expression_rules)

pub stripping_breaks : Breaks TakePair stripping
unfolding uses_in expression_form
stripping_breaks =
    breaks_in stripping spoiling_bodies stripping_stmts stripping_handlers stripping_declares stripping_form stripping_handles TakePair spot refl refl refl

-- The component still names what the formal parameter has freed.
pub strips : HaltsAfter stripping_events (Erroneous FollowsGone) stripping
unfolding next expression_form
strips =
    halts_after_in stripping spoiling_bodies stripping_stmts stripping_handlers stripping_declares stripping_form stripping_handles []
    (steps 10 ++ grants true ∷ steps 20) stripping_events (Erroneous FollowsGone) refl refl refl
