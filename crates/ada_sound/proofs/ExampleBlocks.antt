-- Programs with exceptions, handlers, blocks and counting loops that meet the premises of the laws, or need a rule, with runs of them.

use Rattle.std.proofs.Common.{◌≡◌, ◌≤◌, true, false, List, [], ◌∷◌, ◌++◌, length, refl, arith}
use Rattle.std.specs.Prelude.{None, pos, neg_ℤ}
use Rattle.std.specs.Global.{Vec}
use Rattle.ada_values.specs.declared.operator.BinaryOperator.TheVariants as binary
use Rattle.ada_values.specs.declared.operator.UnaryOperator.TheVariants as unary
use Rattle.ada_values.specs.Outcome.{outcome_of, unary_outcome_of}
use Rattle.ada_program.specs.declared.program.Expression.{Expression, Integer, Path as Reads, NullTest, Unary, Chain}
use Rattle.ada_program.specs.declared.program.Item.TheVariants as item
use Rattle.ada_program.specs.declared.program.Right.TheVariants as right
use Rattle.ada_program.specs.declared.program.Branch.{Branch}
use Rattle.ada_program.specs.declared.program.Exception.TheVariants.{ConstraintError}
use Rattle.ada_program.specs.declared.program.Handler.{Handler}
use Rattle.ada_program.specs.declared.program.Choice.TheVariants as choice
use Rattle.ada_program.specs.declared.program.Stmt.{Stmt}
use Rattle.ada_program.specs.declared.program.Stmt as stmt
use Rattle.ada_program.specs.declared.program.Path.{Path}
use Rattle.ada_program.specs.declared.program.TypeDefinition.{TypeDefinition}
use Rattle.ada_program.specs.declared.program.TypeDefinition.TheVariants as definition
use Rattle.ada_program.specs.declared.program.Declaration.{Declaration}
use Rattle.ada_program.specs.declared.program.Declaration.TheVariants as declaration
use Rattle.ada_program.specs.declared.program.Variable.{Variable}
use Rattle.ada_program.specs.declared.program.VariableKind.TheVariants as variable
use Rattle.ada_program.specs.declared.program.Program.{Program}
use Rattle.ada_program.specs.Form.{expression_form, stmt_forms, handler_forms, no_handlers, statement_rules, expression_rules}
use Rattle.ada_flow.specs.declared.rule.Hold.TheVariants.{Null}
use Rattle.ada_flow.specs.declared.rule.Rule.TheVariants.{LostValue, LoopState}
use Rattle.ada_flow.specs.Flow.{uses_in}
use Rattle.ada_meaning.specs.declared.event.Halt.TheVariants.{Finished, Erroneous}
use Rattle.ada_meaning.specs.declared.event.Why.TheVariants.{FollowsGone}
use Rattle.ada_meaning.specs.Named.{next}
use Rattle.ada_meaning.specs.Run.{grants, takes}
use Rattle.ada_sound.specs.Always.{IsChecked, FinishesAfter, Breaks, IsIllFormed, IsFineAtEnds, HaltsAfter}
use Rattle.ada_sound.specs.Examples.{full, handling_stmts, handling_handlers, handling_events, enclosing_stmts, enclosing_events, unwinding_stmts, unwinding_handlers, unwinding_events, counting_stmts, counting_handlers, counting_events, raising_stmts, raising_handlers, raising_events, overflowing_stmts, overflowing_handlers, outliving_stmts, outliving_events, escaping_stmts, mistyping_stmts, mistyping_events}
use Rattle.ada_sound.proofs.Choices.{halts_after, accepted_by, breaks_by, ill_formed_by, fine_at_ends_by}
use Rattle.ada_sound.proofs.Example.{steps, vec, no_name, spot, types, link, exceptions, handled_program_of, declarations, n_declared, boxed, n, x, y, value_of_x, value_of_y, x_is_seven, y_is_x}

-- raise Full;
abbrev full_is_raised : Stmt
full_is_raised = stmt.Raise full

-- loop if X /= null then raise Full; end if; X := new Cell'(Value => 7); end loop;
abbrev handling_branches : Vec Branch
handling_branches = vec (record { condition = NullTest x false; statements = vec (full_is_raised ∷ []) (omega arith) } ∷ []) (omega arith)

abbrev handling_turn : List Stmt
handling_turn = stmt.If handling_branches (vec [] (omega arith)) ∷ x_is_seven ∷ []

-- when Constraint_Error => Put_Line (Integer'Image (0)); when Full => Put_Line (Integer'Image (X.Value)); Free (X);
abbrev other_handler : Handler
other_handler = record {
  choices = vec (choice.Exception ConstraintError ∷ []) (omega arith);
  statements = vec (stmt.PutImage (Integer (pos 0)) ∷ []) (omega arith);
}

abbrev freeing_handler : Handler
freeing_handler = record {
  choices = vec (choice.Exception full ∷ []) (omega arith);
  statements = vec (stmt.PutImage (Reads value_of_x) ∷ stmt.Free (record { 0 = 1 }) x ∷ []) (omega arith);
}

abbrev pub handling : Program
handling =
    handled_program_of (stmt.Loop None (vec handling_turn (omega arith)) spot ∷ []) (omega arith) (other_handler ∷ freeing_handler ∷ []) (omega arith)

pub handling_form : stmt_forms handling ≡ handling_stmts
handling_form = simp (statement_rules, expression_rules)

pub handling_handles : handler_forms handling ≡ handling_handlers
handling_handles = simp (statement_rules, expression_rules)

pub handling_accepted : IsChecked handling
unfolding uses_in
handling_accepted = accepted_by handling handling_stmts handling_handlers handling_form handling_handles _ _ refl refl refl

-- Two turns, and the second handler.
pub handles : FinishesAfter handling_events handling
unfolding next
handles = halts_after handling handling_stmts handling_handlers handling_form handling_handles [] (steps 20 ++ grants true ∷ steps 26) handling_events Finished refl refl refl

-- type Inner is access Cell;
abbrev two_access_types : List TypeDefinition
two_access_types = types ++ definition.Access no_name (record { 0 = 0 }) None ∷ []

-- X : Link; Y : Inner;
abbrev inner_link : Variable
inner_link = record { name = no_name; spot = spot; kind = variable.Access (record { 0 = 2 }); borrows = false }

abbrev unwinding_program_of : (declarations : List Declaration) → length declarations ≤ 8 → (statements : List Stmt) → length statements ≤ 8 → (handlers : List Handler) → length handlers ≤ 8 → Program
unwinding_program_of declarations few statements le handlers fewer = record {
  types = vec two_access_types (omega arith);
  pools = vec [] (omega arith);
  procedures = vec [] (omega arith);
  variables = vec (link ∷ inner_link ∷ []) (omega arith);
  texts = vec [] (omega arith);
  exceptions = vec exceptions (omega arith);
  declarations = vec declarations few;
  statements = vec statements le;
  handlers = vec handlers fewer;
}

abbrev two_access_program_of : (declarations : List Declaration) → length declarations ≤ 8 → (statements : List Stmt) → length statements ≤ 8 → Program
two_access_program_of declarations few statements le = unwinding_program_of declarations few statements le [] (omega arith)

-- Y := new Cell'(Value => 8); an object of Inner's collection
abbrev y_is_inner : Stmt
y_is_inner = stmt.Assign y (right.Allocator (record { 0 = 2 }) (vec (item.Value (Integer (pos 8)) ∷ []) (omega arith)))

-- declare type Inner is access Cell; Y : Inner; begin Y := new Cell'(Value => 8); Put_Line (Integer'Image (Y.Value)); exit; end;
abbrev enclosed_declarations : List Declaration
enclosed_declarations = declaration.Collection (record { 0 = 2 }) ∷ declaration.Variable (record { 0 = 1 }) None ∷ []

abbrev enclosed : List Stmt
enclosed = y_is_inner ∷ stmt.PutImage (Reads value_of_y) ∷ stmt.Exit None spot ∷ []

abbrev enclosing_block : Stmt
enclosing_block = stmt.Block (vec enclosed_declarations (omega arith)) (vec enclosed (omega arith)) (vec [] (omega arith))

-- X := new Cell'(Value => 7); loop declare .. end; end loop; Put_Line (Integer'Image (X.Value));
abbrev outer_declarations : List Declaration
outer_declarations = declaration.Collection (record { 0 = 1 }) ∷ declaration.Variable (record { 0 = 0 }) None ∷ []

abbrev pub enclosing : Program
enclosing =
    two_access_program_of outer_declarations (omega arith)
    (x_is_seven ∷ stmt.Loop None (vec (enclosing_block ∷ []) (omega arith)) spot ∷ stmt.PutImage (Reads value_of_x) ∷ []) (omega arith)

pub enclosing_form : stmt_forms enclosing ≡ enclosing_stmts
enclosing_form = simp (statement_rules, expression_rules)

pub enclosing_accepted : IsChecked enclosing
unfolding uses_in
enclosing_accepted = accepted_by enclosing enclosing_stmts no_handlers enclosing_form refl _ _ refl refl refl

-- The block is left by the exit, and then the main procedure at its end.
pub encloses : FinishesAfter enclosing_events enclosing
unfolding next
encloses = halts_after enclosing enclosing_stmts no_handlers enclosing_form refl [] (steps 10 ++ grants true ∷ steps 14 ++ grants true ∷ steps 9 ++ takes 0 ∷ steps 13 ++ takes 0 ∷ steps 4) enclosing_events Finished refl refl refl

-- declare type Inner is access Cell; Y : Inner;
-- begin Y := new Cell'(Value => 8); raise Full; exception when Constraint_Error => Put_Line (Integer'Image (0)); end;
abbrev unwound_block : Stmt
unwound_block =
    stmt.Block (vec enclosed_declarations (omega arith)) (vec (y_is_inner ∷ full_is_raised ∷ []) (omega arith)) (vec (other_handler ∷ []) (omega arith))

-- when Full => Put_Line (Integer'Image (X.Value)); return;
abbrev returning_handler : Handler
returning_handler = record {
  choices = vec (choice.Exception full ∷ []) (omega arith);
  statements = vec (stmt.PutImage (Reads value_of_x) ∷ stmt.Return spot ∷ []) (omega arith);
}

-- X := new Cell'(Value => 7); declare .. end; Put_Line (Integer'Image (0));
abbrev pub unwinding : Program
unwinding =
    unwinding_program_of outer_declarations (omega arith)
    (x_is_seven ∷ unwound_block ∷ stmt.PutImage (Integer (pos 0)) ∷ []) (omega arith) (returning_handler ∷ []) (omega arith)

pub unwinding_form : stmt_forms unwinding ≡ unwinding_stmts
unwinding_form = simp (statement_rules, expression_rules)

pub unwinding_handles : handler_forms unwinding ≡ unwinding_handlers
unwinding_handles = simp (statement_rules, expression_rules)

pub unwinding_accepted : IsChecked unwinding
unfolding uses_in
unwinding_accepted = accepted_by unwinding unwinding_stmts unwinding_handlers unwinding_form unwinding_handles _ _ refl refl refl

-- The block is left by the exception, and the main procedure by the return.
pub unwinds : FinishesAfter unwinding_events unwinding
unfolding next
unwinds =
    halts_after unwinding unwinding_stmts unwinding_handlers unwinding_form unwinding_handles []
    (steps 10 ++ grants true ∷ steps 12 ++ grants true ∷ steps 6 ++ takes 0 ∷ steps 13 ++ takes 0 ∷ steps 4) unwinding_events Finished refl refl refl

-- N, and I of the loop
abbrev i : Path
i = record { root = record { 0 = 3 }; of_record = false; selectors = vec [] (omega arith); spot = spot }

abbrev an_integer : Variable
an_integer = record { name = no_name; spot = spot; kind = variable.Integer; borrows = false }

-- X, Y : Link; N : Integer := 0; and parameters of loops
abbrev reading_program_of : (parameters : List Variable) → length parameters ≤ 5 → (statements : List Stmt) → length statements ≤ 8 → (handlers : List Handler) → length handlers ≤ 8 → Program
reading_program_of parameters less statements le handlers few = record {
  types = vec types (omega arith);
  pools = vec [] (omega arith);
  procedures = vec [] (omega arith);
  variables = vec (link ∷ link ∷ an_integer ∷ parameters) (omega (arith, less));
  texts = vec [] (omega arith);
  exceptions = vec [] (omega arith);
  declarations = vec (declarations ++ n_declared ∷ []) (omega arith);
  statements = vec statements le;
  handlers = vec handlers few;
}

-- for I in 1 .. 3 loop X := new Cell'(Value => I); Get (N); Put_Line (Integer'Image (X.Value + N)); Free (X); end loop;
abbrev value_and_n : Expression
value_and_n = Chain (boxed (Reads value_of_x)) (vec (record { operator = binary.Add; operand = Reads n } ∷ []) (omega arith))

abbrev counting_turn : List Stmt
counting_turn =
    stmt.Assign x (right.Allocator (record { 0 = 1 }) (vec (item.Value (Reads i) ∷ []) (omega arith)))
    ∷ stmt.Get n ∷ stmt.PutImage value_and_n ∷ stmt.Free (record { 0 = 1 }) x ∷ []

abbrev counting_loop : Stmt
counting_loop = stmt.For (record { 0 = 3 }) (Integer (pos 1)) (Integer (pos 3)) (vec counting_turn (omega arith)) spot

-- when others => Put_Line (Integer'Image (X.Value)); Free (X);
abbrev handler_of_all : Handler
handler_of_all = record {
  choices = vec (choice.Others ∷ []) (omega arith);
  statements = vec (stmt.PutImage (Reads value_of_x) ∷ stmt.Free (record { 0 = 1 }) x ∷ []) (omega arith);
}

abbrev pub counting : Program
counting = reading_program_of (an_integer ∷ []) (omega arith) (counting_loop ∷ []) (omega arith) (handler_of_all ∷ []) (omega arith)

pub counting_form : stmt_forms counting ≡ counting_stmts
counting_form = simp (statement_rules, expression_rules)

pub counting_handles : handler_forms counting ≡ counting_handlers
counting_handles = simp (statement_rules, expression_rules)

pub counting_accepted : IsChecked counting
unfolding expression_form uses_in
counting_accepted = accepted_by counting counting_stmts counting_handlers counting_form counting_handles _ _ refl refl refl

-- Two whole turns, and the third up to the read.
pub counts : FinishesAfter counting_events counting
unfolding next outcome_of expression_form
counts =
    halts_after counting counting_stmts counting_handlers counting_form counting_handles (pos 5 ∷ pos 6 ∷ [])
    (steps 21 ++ grants true ∷ steps 21 ++ grants true ∷ steps 21 ++ grants true ∷ steps 20) counting_events Finished refl refl refl

-- X := new Cell'(Value => 7); Y := X; Free (Y); if Y = null then raise Full; end if; X := null;
abbrev raising_branches : Vec Branch
raising_branches = vec (record { condition = NullTest y true; statements = vec (full_is_raised ∷ []) (omega arith) } ∷ []) (omega arith)

abbrev freeing_and_raising : List Stmt
freeing_and_raising =
    x_is_seven ∷ y_is_x ∷ stmt.Free (record { 0 = 1 }) y ∷ stmt.If raising_branches (vec [] (omega arith)) ∷ stmt.Assign x right.Null ∷ []

-- when Full => Put_Line (Integer'Image (X.Value));
abbrev following_handler : Handler
following_handler = record {
  choices = vec (choice.Exception full ∷ []) (omega arith);
  statements = vec (stmt.PutImage (Reads value_of_x) ∷ []) (omega arith);
}

abbrev pub losing_by_raising : Program
losing_by_raising = handled_program_of freeing_and_raising (omega arith) (following_handler ∷ []) (omega arith)

pub losing_by_raising_form : stmt_forms losing_by_raising ≡ raising_stmts
losing_by_raising_form = simp (statement_rules, expression_rules)

pub losing_by_raising_handles : handler_forms losing_by_raising ≡ raising_handlers
losing_by_raising_handles = simp (statement_rules, expression_rules)

pub losing_by_raising_breaks : Breaks LostValue losing_by_raising
unfolding uses_in
losing_by_raising_breaks = breaks_by losing_by_raising raising_stmts raising_handlers losing_by_raising_form losing_by_raising_handles LostValue spot refl refl refl

-- At the beginning and at the end X and Y are null.
pub losing_by_raising_fine : IsFineAtEnds (Null ∷ Null ∷ []) losing_by_raising
unfolding uses_in
losing_by_raising_fine =
    fine_at_ends_by losing_by_raising raising_stmts raising_handlers losing_by_raising_form losing_by_raising_handles (Null ∷ Null ∷ [])
    _ _ _ _ refl refl refl

-- The handler follows what was freed before the exception was raised.
pub loses_by_raising : HaltsAfter raising_events (Erroneous FollowsGone) losing_by_raising
unfolding next
loses_by_raising =
    halts_after losing_by_raising raising_stmts raising_handlers losing_by_raising_form losing_by_raising_handles
    [] (steps 13 ++ grants true ∷ steps 17) raising_events (Erroneous FollowsGone) refl refl refl

-- Get (N); X := new Cell'(Value => 7); Y := X; Free (Y); N := -N;
abbrev n_is_minus_n : Stmt
n_is_minus_n = stmt.Assign n (right.Value (Unary unary.Minus (boxed (Reads n))))

-- when Constraint_Error => Put_Line (Integer'Image (X.Value));
abbrev other_following_handler : Handler
other_following_handler = record {
  choices = vec (choice.Exception ConstraintError ∷ []) (omega arith);
  statements = vec (stmt.PutImage (Reads value_of_x) ∷ []) (omega arith);
}

abbrev pub overflowing : Program
overflowing =
    reading_program_of [] (omega arith) (stmt.Get n ∷ x_is_seven ∷ y_is_x ∷ stmt.Free (record { 0 = 1 }) y ∷ n_is_minus_n ∷ []) (omega arith)
    (other_following_handler ∷ []) (omega arith)

pub overflowing_form : stmt_forms overflowing ≡ overflowing_stmts
overflowing_form = simp (statement_rules, expression_rules)

pub overflowing_handles : handler_forms overflowing ≡ overflowing_handlers
overflowing_handles = simp (statement_rules, expression_rules)

pub overflowing_breaks : Breaks LostValue overflowing
unfolding expression_form uses_in
overflowing_breaks = breaks_by overflowing overflowing_stmts overflowing_handlers overflowing_form overflowing_handles LostValue spot refl refl refl

-- The input has the first Integer, whose opposite is none.
pub overflows : HaltsAfter raising_events (Erroneous FollowsGone) overflowing
unfolding next unary_outcome_of expression_form
overflows =
    halts_after overflowing overflowing_stmts overflowing_handlers overflowing_form overflowing_handles (neg_ℤ (pos 2147483648) ∷ [])
    (steps 18 ++ grants true ∷ steps 17) raising_events (Erroneous FollowsGone) refl refl refl

-- Y : Inner; declare type Inner is access Cell; begin Y := new Cell'(Value => 8); end; Put_Line (Integer'Image (Y.Value));
abbrev declarations_with_y : List Declaration
declarations_with_y = outer_declarations ++ declaration.Variable (record { 0 = 1 }) None ∷ []

abbrev block_of : (statements : List Stmt) → length statements ≤ 8 → Stmt
block_of statements le = stmt.Block (vec (declaration.Collection (record { 0 = 2 }) ∷ []) (omega arith)) (vec statements le) (vec [] (omega arith))

abbrev pub outliving : Program
outliving =
    two_access_program_of declarations_with_y (omega arith)
    (block_of (y_is_inner ∷ []) (omega arith) ∷ stmt.PutImage (Reads value_of_y) ∷ []) (omega arith)

pub outliving_form : stmt_forms outliving ≡ outliving_stmts
outliving_form = simp (statement_rules, expression_rules)

pub outliving_breaks : Breaks LostValue outliving
unfolding uses_in
outliving_breaks = breaks_by outliving outliving_stmts no_handlers outliving_form refl LostValue spot refl refl refl

-- What is behind the block follows what went with its collection.
pub outlives : HaltsAfter outliving_events (Erroneous FollowsGone) outliving
unfolding next
outlives =
    halts_after outliving outliving_stmts no_handlers outliving_form refl [] (steps 16 ++ grants true ∷ steps 4 ++ takes 0 ∷ steps 5)
    outliving_events (Erroneous FollowsGone) refl refl refl

-- loop declare type Inner is access Cell; begin Y := new Cell'(Value => 8); exit; end; end loop; Put_Line (Integer'Image (Y.Value));
abbrev pub escaping : Program
escaping =
    two_access_program_of declarations_with_y (omega arith)
    (stmt.Loop None (vec (block_of (y_is_inner ∷ stmt.Exit None spot ∷ []) (omega arith) ∷ []) (omega arith)) spot
    ∷ stmt.PutImage (Reads value_of_y) ∷ []) (omega arith)

pub escaping_form : stmt_forms escaping ≡ escaping_stmts
escaping_form = simp (statement_rules, expression_rules)

pub escaping_breaks : Breaks LoopState escaping
unfolding uses_in
escaping_breaks = breaks_by escaping escaping_stmts no_handlers escaping_form refl LoopState spot refl refl refl

-- What is behind the loop follows what went with the block's collection at the exit.
pub escapes : HaltsAfter outliving_events (Erroneous FollowsGone) escaping
unfolding next
escapes =
    halts_after escaping escaping_stmts no_handlers escaping_form refl [] (steps 18 ++ grants true ∷ steps 5 ++ takes 0 ∷ steps 7)
    outliving_events (Erroneous FollowsGone) refl refl refl

-- declare type Inner is access Cell; Y : Inner; begin Y := new Cell'(Value => 8); X := Y; end; Put_Line (Integer'Image (X.Value));
abbrev mistyping_block : Stmt
mistyping_block =
    stmt.Block (vec enclosed_declarations (omega arith))
    (vec (y_is_inner ∷ stmt.Assign x (right.Path y) ∷ []) (omega arith)) (vec [] (omega arith))

abbrev pub mistyping : Program
mistyping = two_access_program_of outer_declarations (omega arith) (mistyping_block ∷ stmt.PutImage (Reads value_of_x) ∷ []) (omega arith)

pub mistyping_form : stmt_forms mistyping ≡ mistyping_stmts
mistyping_form = simp (statement_rules, expression_rules)

pub mistyping_ill_formed : IsIllFormed mistyping
unfolding uses_in
mistyping_ill_formed = ill_formed_by mistyping mistyping_stmts no_handlers mistyping_form refl _ _ refl refl refl refl refl refl

-- X names what went with the block's collection.
pub mistypes : HaltsAfter mistyping_events (Erroneous FollowsGone) mistyping
unfolding next
mistypes =
    halts_after mistyping mistyping_stmts no_handlers mistyping_form refl [] (steps 16 ++ grants true ∷ steps 8 ++ takes 0 ∷ steps 5)
    mistyping_events (Erroneous FollowsGone) refl refl refl
