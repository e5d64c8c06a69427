-- Programs that meet the premises of the laws, and one for each rule that is needed, with runs of them.

use Rattle.std.proofs.Common.{◌≡◌, ◌≤◌, ℕ, true, false, List, [], ◌∷◌, ◌++◌, length, refl, ap, ◌∙◌, arith}
use Rattle.std.proofs.Math.ListN.{replicate}
use Rattle.std.specs.Prelude.{Some, None, pos, String}
use Rattle.std.specs.Global.{Box, Vec, Global}
use Rattle.ada_text.specs.declared.spot.Spot.{Spot}
use Rattle.ada_values.specs.declared.operator.BinaryOperator.{BinaryOperator}
use Rattle.ada_values.specs.declared.operator.BinaryOperator.TheVariants as binary
use Rattle.ada_values.specs.Outcome.{outcome_of}
use Rattle.ada_program.specs.declared.program.Expression.{Expression, Integer, Path as Reads, NullTest, Chain}
use Rattle.ada_program.specs.declared.program.Item.TheVariants as item
use Rattle.ada_program.specs.declared.program.Right.TheVariants as right
use Rattle.ada_program.specs.declared.program.Branch.{Branch}
use Rattle.ada_program.specs.declared.program.Exception.TheVariants.{ConstraintError}
use Rattle.ada_program.specs.declared.program.Handler.{Handler}
use Rattle.ada_program.specs.declared.program.Stmt.{Stmt}
use Rattle.ada_program.specs.declared.program.Stmt as stmt
use Rattle.ada_program.specs.declared.program.Path.{Path}
use Rattle.ada_program.specs.declared.program.ComponentKind.TheVariants as component
use Rattle.ada_program.specs.declared.program.TypeDefinition.{TypeDefinition}
use Rattle.ada_program.specs.declared.program.TypeDefinition.TheVariants as definition
use Rattle.ada_program.specs.declared.program.Declaration.{Declaration}
use Rattle.ada_program.specs.declared.program.Declaration.TheVariants as declaration
use Rattle.ada_program.specs.declared.program.Variable.{Variable}
use Rattle.ada_program.specs.declared.program.VariableKind.TheVariants as variable
use Rattle.ada_program.specs.declared.program.Program.{Program}
use Rattle.ada_program.specs.Form.{reads, writes, StmtForm, no_stmts, a_stmt, expression_form, stmt_form, stmt_forms, chooses_form, repeats_form, no_handlers, statement_rules, expression_rules}
use Rattle.ada_program.specs.Form as f
use Rattle.ada_flow.specs.declared.rule.Rule.TheVariants.{LostValue, LoopState}
use Rattle.ada_flow.specs.Flow.{uses_in}
use Rattle.ada_meaning.specs.declared.event.Halt.TheVariants.{Finished, Unhandled, Erroneous}
use Rattle.ada_meaning.specs.declared.event.Why.TheVariants.{FollowsGone, EndsTwice}
use Rattle.ada_meaning.specs.Beginning.{BeginsStatement}
use Rattle.ada_meaning.specs.Named.{next}
use Rattle.ada_meaning.specs.Run.{Choice, settled, grants, takes}
use Rattle.ada_sound.specs.Always.{IsChecked, ReachesStatement, FinishesAfter, Breaks, HaltsAfter, HaltsSomewhere}
use Rattle.ada_sound.specs.Examples.{example_events, example_path, seven_to_x, repeating_stmts, repeating_events, returning_stmts, returning_events, nesting_stmts, nesting_events, losing_stmts, losing_events, leaving_stmts}
use Rattle.ada_sound.proofs.Choices.{run_by, halts_by, halts_after, accepted_by, breaks_by}
use denote.RawPtr.{null_ptr}

-- So many steps that leave nothing open.
abbrev pub steps : ℕ → List Choice
steps n = replicate n settled

abbrev pub heap : Global
heap = record { memory = record { seal = tt } }

-- Items as a vector, and a few of them.
abbrev pub wide_vec : {X : Type 0} (items : List X) → length items ≤ 16 → Vec X
wide_vec items le = record { ptr = null_ptr; len = length items; cap = length items; alloc = heap; items = items; ok = (refl, omega arith); small = omega (arith, le) }

abbrev pub vec : {X : Type 0} (items : List X) → length items ≤ 8 → Vec X
vec items le = wide_vec items (omega (arith, le))

abbrev pub no_name : String Global
no_name = record { bytes = vec [] (omega arith); ok = ∣ ([], (refl, refl)) ∣₁ }

abbrev pub spot : Spot
spot = record { line = 1; column = 1 }

-- type Cell is record Value : Integer; end record; type Link is access Cell;
abbrev pub types : List TypeDefinition
types = definition.Record no_name (vec [] (omega arith)) (vec (component.Integer (pos 0) ∷ []) (omega arith)) None ∷ definition.Access no_name (record { 0 = 0 }) None ∷ []

-- X, Y : Link;
abbrev pub link : Variable
link = record { name = no_name; spot = spot; kind = variable.Access (record { 0 = 1 }); borrows = false }

abbrev pub declarations : List Declaration
declarations = declaration.Collection (record { 0 = 1 }) ∷ declaration.Variable (record { 0 = 0 }) None ∷ declaration.Variable (record { 0 = 1 }) None ∷ []

-- Full : exception;
abbrev pub exceptions : List (String Global)
exceptions = no_name ∷ []

abbrev pub handled_program_of : (statements : List Stmt) → length statements ≤ 8 → (handlers : List Handler) → length handlers ≤ 8 → Program
handled_program_of statements le handlers few = record {
  types = vec types (omega arith);
  pools = vec [] (omega arith);
  procedures = vec [] (omega arith);
  variables = vec (link ∷ link ∷ []) (omega arith);
  texts = vec [] (omega arith);
  exceptions = vec exceptions (omega arith);
  declarations = vec declarations (omega arith);
  statements = vec statements le;
  handlers = vec handlers few;
}

abbrev pub program_of : (statements : List Stmt) → length statements ≤ 8 → Program
program_of statements le = handled_program_of statements le [] (omega arith)

abbrev pub x : Path
x = record { root = record { 0 = 0 }; of_record = false; selectors = vec [] (omega arith); spot = spot }

abbrev pub y : Path
y = record { root = record { 0 = 1 }; of_record = false; selectors = vec [] (omega arith); spot = spot }

abbrev pub value_of_x : Path
value_of_x = record { root = record { 0 = 0 }; of_record = false; selectors = vec (record { 0 = 0 } ∷ []) (omega arith); spot = spot }

abbrev pub value_of_y : Path
value_of_y = record { root = record { 0 = 1 }; of_record = false; selectors = vec (record { 0 = 0 } ∷ []) (omega arith); spot = spot }

-- X := new Cell'(Value => 7); and the same with 8
abbrev pub x_is_seven : Stmt
x_is_seven = stmt.Assign x (right.Allocator (record { 0 = 1 }) (vec (item.Value (Integer (pos 7)) ∷ []) (omega arith)))

abbrev x_is_eight : Stmt
x_is_eight = stmt.Assign x (right.Allocator (record { 0 = 1 }) (vec (item.Value (Integer (pos 8)) ∷ []) (omega arith)))

-- Y := X;
abbrev pub y_is_x : Stmt
y_is_x = stmt.Assign y (right.Path x)

-- X := new Cell'(Value => 7); Y := X; X := new Cell'(Value => 8); Put_Line (Integer'Image (Y.Value)); Free (Y);
abbrev pub program : Program
program = program_of (x_is_seven ∷ y_is_x ∷ x_is_eight ∷ stmt.PutImage (Reads value_of_y) ∷ stmt.Free (record { 0 = 1 }) y ∷ []) (omega arith)

pub accepted : IsChecked program
unfolding expression_form stmt_form uses_in
accepted = accepted_by program (stmt_forms program) no_handlers refl refl _ _ refl refl refl

-- The declarations.
pub reaches : ReachesStatement program
unfolding next expression_form stmt_form uses_in
reaches = run_by program (stmt_forms program) no_handlers refl refl [] (steps 8) (λ events s. BeginsStatement s) refl (record { stmt = _; later = _; outer = _; runs = refl; first = refl })

-- All of it: both objects are granted, and the second goes with its collection.
pub finishes : FinishesAfter example_events program
unfolding next expression_form stmt_form uses_in
finishes = halts_after program (stmt_forms program) no_handlers refl refl [] (steps 13 ++ grants true ∷ steps 9 ++ grants true ∷ steps 13 ++ takes 0 ∷ steps 4) example_events Finished refl refl refl

-- X := new Cell'(Value => 7); Put_Line (Integer'Image (Y.Value)); where Y is null
abbrev pub raising : Program
raising = program_of (x_is_seven ∷ stmt.PutImage (Reads value_of_y) ∷ []) (omega arith)

pub raising_accepted : IsChecked raising
unfolding expression_form stmt_form uses_in
raising_accepted = accepted_by raising (stmt_forms raising) no_handlers refl refl _ _ refl refl refl

-- The exception leaves the main procedure, and the object goes with its collection.
pub raises : HaltsSomewhere (Unhandled ConstraintError) raising
unfolding next expression_form stmt_form uses_in
raises = halts_by raising (stmt_forms raising) no_handlers refl refl [] (steps 13 ++ grants true ∷ steps 9 ++ takes 0 ∷ steps 4) (Unhandled ConstraintError) refl refl

-- X := new Cell'(Value => 7); Y := X; Free (Y); Put_Line (Integer'Image (X.Value));
abbrev pub following_gone : Program
following_gone = program_of (x_is_seven ∷ y_is_x ∷ stmt.Free (record { 0 = 1 }) y ∷ stmt.PutImage (Reads value_of_x) ∷ []) (omega arith)

pub following_breaks : Breaks LostValue following_gone
unfolding expression_form stmt_form uses_in
following_breaks = breaks_by following_gone (stmt_forms following_gone) no_handlers refl refl LostValue spot refl refl refl

pub follows : HaltsSomewhere (Erroneous FollowsGone) following_gone
unfolding next expression_form stmt_form uses_in
follows = halts_by following_gone (stmt_forms following_gone) no_handlers refl refl [] (steps 13 ++ grants true ∷ steps 9) (Erroneous FollowsGone) refl refl

-- X := new Cell'(Value => 7); Y := X; Free (Y); Free (X);
abbrev pub freeing_twice : Program
freeing_twice = program_of (x_is_seven ∷ y_is_x ∷ stmt.Free (record { 0 = 1 }) y ∷ stmt.Free (record { 0 = 1 }) x ∷ []) (omega arith)

pub freeing_breaks : Breaks LostValue freeing_twice
unfolding expression_form stmt_form uses_in
freeing_breaks = breaks_by freeing_twice (stmt_forms freeing_twice) no_handlers refl refl LostValue spot refl refl refl

pub ends : HaltsSomewhere (Erroneous EndsTwice) freeing_twice
unfolding next expression_form stmt_form uses_in
ends = halts_by freeing_twice (stmt_forms freeing_twice) no_handlers refl refl [] (steps 13 ++ grants true ∷ steps 8) (Erroneous EndsTwice) refl refl

-- loop if X = null then X := new Cell'(Value => 7); else Put_Line (Integer'Image (X.Value)); Free (X); exit; end if; end loop;
abbrev repeating_branches : Vec Branch
repeating_branches = vec (record { condition = NullTest x true; statements = vec (x_is_seven ∷ []) (omega arith) } ∷ []) (omega arith)

abbrev repeating_others : Vec Stmt
repeating_others = vec (stmt.PutImage (Reads value_of_x) ∷ stmt.Free (record { 0 = 1 }) x ∷ stmt.Exit None spot ∷ []) (omega arith)

abbrev repeating_if : Stmt
repeating_if = stmt.If repeating_branches repeating_others

-- One statement.
alone : {f g : StmtForm} → f ≡ g → a_stmt f no_stmts ≡ a_stmt g no_stmts
alone e = ap (λ f. a_stmt f no_stmts) e

abbrev pub repeating : Program
repeating = program_of (stmt.Loop None (vec (repeating_if ∷ []) (omega arith)) spot ∷ []) (omega arith)

pub repeating_form : stmt_forms repeating ≡ repeating_stmts
unfolding expression_form stmt_form
repeating_form =
    alone (repeats_form None (vec (repeating_if ∷ []) (omega arith)) spot ∙ ap (λ ss. f.repeats None ss spot) (alone (chooses_form repeating_branches repeating_others)))

pub repeating_accepted : IsChecked repeating
unfolding expression_form stmt_form uses_in
repeating_accepted = accepted_by repeating repeating_stmts no_handlers repeating_form refl _ _ refl refl refl

-- Two turns.
pub repeats : FinishesAfter repeating_events repeating
unfolding next expression_form stmt_form uses_in
repeats = halts_after repeating repeating_stmts no_handlers repeating_form refl [] (steps 19 ++ grants true ∷ steps 26) repeating_events Finished refl refl refl

-- X := new Cell'(Value => 7); while X /= null loop Free (X); exit when X /= null; end loop; return;
abbrev returning_turn : Vec Stmt
returning_turn = vec (stmt.Free (record { 0 = 1 }) x ∷ stmt.Exit (Some (NullTest x false)) spot ∷ []) (omega arith)

abbrev pub returning : Program
returning = program_of (x_is_seven ∷ stmt.Loop (Some (NullTest x false)) returning_turn spot ∷ stmt.Return spot ∷ []) (omega arith)

pub returning_form : stmt_forms returning ≡ returning_stmts
unfolding expression_form stmt_form
returning_form =
    ap (λ loop. seven_to_x (a_stmt loop (a_stmt (f.returns spot) no_stmts))) (repeats_form (Some (NullTest x false)) returning_turn spot)

pub returning_accepted : IsChecked returning
unfolding expression_form stmt_form uses_in
returning_accepted = accepted_by returning returning_stmts no_handlers returning_form refl _ _ refl refl refl

-- One turn, and the condition once more.
pub returns : FinishesAfter returning_events returning
unfolding next expression_form stmt_form uses_in
returns = halts_after returning returning_stmts no_handlers returning_form refl [] (steps 13 ++ grants true ∷ steps 27) returning_events Finished refl refl refl

-- N : Integer := 0; and a program with it, and with X and Y
abbrev pub n_declared : Declaration
n_declared = declaration.Variable (record { 0 = 2 }) (Some (right.Value (Integer (pos 0))))

abbrev counting_program_of : (statements : List Stmt) → length statements ≤ 8 → Program
counting_program_of statements le = record {
  types = vec types (omega arith);
  pools = vec [] (omega arith);
  procedures = vec [] (omega arith);
  variables = vec (link ∷ link ∷ record { name = no_name; spot = spot; kind = variable.Integer; borrows = false } ∷ []) (omega arith);
  texts = vec [] (omega arith);
  exceptions = vec [] (omega arith);
  declarations = vec (declarations ++ n_declared ∷ []) (omega arith);
  statements = vec statements le;
  handlers = vec [] (omega arith);
}

-- An expression in a box of its own.
abbrev pub boxed : Expression → Box Expression
boxed e = record { ptr = null_ptr; alloc = heap; value = e }

abbrev pub n : Path
n = record { root = record { 0 = 2 }; of_record = false; selectors = vec [] (omega arith); spot = spot }

-- An expression, an operator and a number.
abbrev pub with_number : BinaryOperator → ℕ → Expression → Expression
with_number operator m e = Chain (boxed e) (vec (record { operator = operator; operand = Integer (pos m) } ∷ []) (omega arith))

-- while N < 2 loop N := N + 1; Put_Line (Integer'Image (N)); end loop;
abbrev counting_loop : Stmt
counting_loop =
    stmt.Loop (Some (with_number binary.Less 2 (Reads n)))
    (vec (stmt.Assign n (right.Value (with_number binary.Add 1 (Reads n))) ∷ stmt.PutImage (Reads n) ∷ []) (omega arith)) spot

-- X := Y;
abbrev x_is_y : Stmt
x_is_y = stmt.Assign x (right.Path y)

-- Y := new Cell'(Value => 7); and the same with 8
abbrev y_is_new : ℕ → Stmt
y_is_new m = stmt.Assign y (right.Allocator (record { 0 = 1 }) (vec (item.Value (Integer (pos m)) ∷ []) (omega arith)))

-- if Y = null then Y := new Cell'(Value => 7);
-- elsif Y.Value = 7 then X := Y; Y := new Cell'(Value => 8);
-- else Put_Line (Integer'Image (Y.Value)); X := Y; return; end if;
abbrev making_branches : List Branch
making_branches =
    record { condition = NullTest y true; statements = vec (y_is_new 7 ∷ []) (omega arith) }
    ∷ record { condition = with_number binary.Equal 7 (Reads value_of_y); statements = vec (x_is_y ∷ y_is_new 8 ∷ []) (omega arith) }
    ∷ []

abbrev making_if : Stmt
making_if = stmt.If (vec making_branches (omega arith)) (vec (stmt.PutImage (Reads value_of_y) ∷ x_is_y ∷ stmt.Return spot ∷ []) (omega arith))

-- loop exit when X /= null; if .. end if; Put_Line (Integer'Image (0)); end loop;
abbrev making_loop : Stmt
making_loop =
    stmt.Loop None
    (vec (stmt.Exit (Some (NullTest x false)) spot ∷ making_if ∷ stmt.PutImage (Integer (pos 0)) ∷ []) (omega arith)) spot

-- loop while .. end loop; loop .. end loop; Put_Line (Integer'Image (X.Value)); Free (X); end loop; Y := X; Put_Line (Integer'Image (X.Value));
abbrev outer_turn : List Stmt
outer_turn = counting_loop ∷ making_loop ∷ stmt.PutImage (Reads value_of_x) ∷ stmt.Free (record { 0 = 1 }) x ∷ []

abbrev pub nesting : Program
nesting = counting_program_of (stmt.Loop None (vec outer_turn (omega arith)) spot ∷ y_is_x ∷ stmt.PutImage (Reads value_of_x) ∷ []) (omega arith)

pub nesting_form : stmt_forms nesting ≡ nesting_stmts
nesting_form = simp (statement_rules, expression_rules)

pub nesting_accepted : IsChecked nesting
unfolding expression_form stmt_form uses_in
nesting_accepted = accepted_by nesting nesting_stmts no_handlers nesting_form refl _ _ refl refl refl

-- Two turns of the outer loop.
pub nests : FinishesAfter nesting_events nesting
unfolding next outcome_of expression_form stmt_form uses_in
nests = halts_after nesting nesting_stmts no_handlers nesting_form refl [] (steps 80 ++ grants true ∷ steps 30 ++ grants true ∷ steps 66 ++ takes 0 ∷ steps 4) nesting_events Finished refl refl refl

-- X := new Cell'(Value => 7); loop Put_Line (Integer'Image (X.Value)); Y := X; Free (Y); end loop;
abbrev losing_turn : Vec Stmt
losing_turn = vec (stmt.PutImage (Reads value_of_x) ∷ y_is_x ∷ stmt.Free (record { 0 = 1 }) y ∷ []) (omega arith)

abbrev pub losing : Program
losing = program_of (x_is_seven ∷ stmt.Loop None losing_turn spot ∷ []) (omega arith)

pub losing_form : stmt_forms losing ≡ losing_stmts
unfolding expression_form stmt_form
losing_form = ap (λ loop. seven_to_x (a_stmt loop no_stmts)) (repeats_form None losing_turn spot)

pub losing_breaks : Breaks LoopState losing
unfolding expression_form stmt_form uses_in
losing_breaks = breaks_by losing losing_stmts no_handlers losing_form refl LoopState spot refl refl refl

-- The second turn follows what the first one freed.
pub loses : HaltsAfter losing_events (Erroneous FollowsGone) losing
unfolding next expression_form stmt_form uses_in
loses = halts_after losing losing_stmts no_handlers losing_form refl [] (steps 13 ++ grants true ∷ steps 16) losing_events (Erroneous FollowsGone) refl refl refl

-- X := new Cell'(Value => 7); loop Y := X; Free (Y); exit; end loop; Put_Line (Integer'Image (X.Value));
abbrev leaving_turn : Vec Stmt
leaving_turn = vec (y_is_x ∷ stmt.Free (record { 0 = 1 }) y ∷ stmt.Exit None spot ∷ []) (omega arith)

abbrev pub leaving : Program
leaving = program_of (x_is_seven ∷ stmt.Loop None leaving_turn spot ∷ stmt.PutImage (Reads value_of_x) ∷ []) (omega arith)

pub leaving_form : stmt_forms leaving ≡ leaving_stmts
unfolding expression_form stmt_form
leaving_form =
    ap (λ loop. seven_to_x (a_stmt loop (a_stmt (writes (reads (example_path 0 (0 ∷ [])))) no_stmts))) (repeats_form None leaving_turn spot)

pub leaving_breaks : Breaks LoopState leaving
unfolding expression_form stmt_form uses_in
leaving_breaks = breaks_by leaving leaving_stmts no_handlers leaving_form refl LoopState spot refl refl refl

-- What is behind the loop follows what the loop freed.
pub leaves : HaltsSomewhere (Erroneous FollowsGone) leaving
unfolding next expression_form stmt_form uses_in
leaves = halts_by leaving leaving_stmts no_handlers leaving_form refl [] (steps 13 ++ grants true ∷ steps 14) (Erroneous FollowsGone) refl refl
