-- The statements and the events of the programs by which the laws show that they are not empty, and that the rules are needed.

use Rattle.std.specs.Prelude.{ℕ, List, [], ◌∷◌, ◌++◌, Some, None, true, false, pos}
use Rattle.std.proofs.Math.ListN.{replicate}
use Rattle.ada_values.specs.declared.operator.BinaryOperator.{BinaryOperator}
use Rattle.ada_values.specs.declared.operator.BinaryOperator.TheVariants as binary
use Rattle.ada_values.specs.declared.operator.UnaryOperator.TheVariants as unary
use Rattle.ada_text.specs.declared.spot.Spot.{Spot}
use Rattle.ada_program.specs.declared.program.Choice.TheVariants as choice
use Rattle.ada_program.specs.declared.program.Exception.{Exception}
use Rattle.ada_program.specs.declared.program.Exception.TheVariants.{ConstraintError, Declared}
use Rattle.ada_program.specs.Form.{PathForm, ExpressionForm, integer, reads, is_null, applied_to, chained, no_more_links, a_link, RightForm, nothing, item_of_value, allocates, value_of, computes, DeclarationForm, collects, declares, StmtForm, assigns, frees, gets, writes, chooses, repeats, counts, exits, returns, raises, encloses, StmtsForm, no_stmts, a_stmt, otherwise, a_branch, HandlersForm, no_handlers, a_handler}
use Rattle.ada_meaning.specs.declared.state.Value.TheVariants.{Names}
use Rattle.ada_meaning.specs.declared.event.Cause.TheVariants.{Leaving, Freeing}
use Rattle.ada_meaning.specs.declared.event.Line.TheVariants.{Image}
use Rattle.ada_meaning.specs.Event.{Back, Followed, Left, Line}
use Rattle.ada_meaning.specs.Run.{Event}

-- What the first example shows: an object is followed, its 7 is written, it is freed; the second goes with its collection, and the master is left.
abbrev pub example_events : List Event
example_events =
    Followed (Names (record { 0 = 0 }))
    ∷ Line (Image (pos 7))
    ∷ Back (Names (record { 0 = 0 })) 1 1 (Some 0) None (Freeing 1)
    ∷ Back (Names (record { 0 = 1 })) 1 2 (Some 0) None (Leaving 0 0)
    ∷ Left 0
    ∷ []

-- Variables of the examples of loops, by number, and components of what they give access to.
abbrev pub example_spot : Spot
example_spot = record { line = 1; column = 1 }

-- A path of the examples: a variable, and components behind it.
abbrev pub example_path : ℕ → List ℕ → PathForm
example_path x cs = record { root = x; of_record = false; selectors = cs; spot = example_spot }

-- loop if X = null then X := new Cell'(Value => 7); else Put_Line (Integer'Image (X.Value)); Free (X); exit; end if; end loop;
abbrev pub repeating_else : StmtsForm
repeating_else =
    a_stmt (writes (reads (example_path 0 (0 ∷ []))))
    (a_stmt (frees 1 (example_path 0 []))
    (a_stmt (exits None example_spot) no_stmts))

-- X := new Cell'(Value => 7); and what is behind it.
abbrev pub seven_to_x : StmtsForm → StmtsForm
seven_to_x behind = a_stmt (assigns (example_path 0 []) (allocates 1 (item_of_value (integer (pos 7)) ∷ []))) behind

-- The body of the loop.
abbrev pub repeating_body : StmtsForm
repeating_body = a_stmt (chooses (a_branch (is_null true (example_path 0 [])) (seven_to_x no_stmts) (otherwise repeating_else))) no_stmts

-- The loop.
abbrev pub repeating_stmts : StmtsForm
repeating_stmts = a_stmt (repeats None repeating_body example_spot) no_stmts

-- X becomes an object in the first turn; in the second one it is followed, its 7 is written, and it is freed.
abbrev pub repeating_events : List Event
repeating_events =
    Followed (Names (record { 0 = 0 }))
    ∷ Line (Image (pos 7))
    ∷ Back (Names (record { 0 = 0 })) 1 1 (Some 0) None (Freeing 1)
    ∷ Left 0
    ∷ []

-- X := new Cell'(Value => 7); while X /= null loop Free (X); exit when X /= null; end loop; return;
abbrev pub returning_body : StmtsForm
returning_body = a_stmt (frees 1 (example_path 0 [])) (a_stmt (exits (Some (is_null false (example_path 0 []))) example_spot) no_stmts)

-- The statements of the program.
abbrev pub returning_stmts : StmtsForm
returning_stmts =
    seven_to_x
    (a_stmt (repeats (Some (is_null false (example_path 0 []))) returning_body example_spot)
    (a_stmt (returns example_spot) no_stmts))

-- The object is freed in the first turn, and the condition is false before a second one.
abbrev pub returning_events : List Event
returning_events = Back (Names (record { 0 = 0 })) 1 1 (Some 0) None (Freeing 1) ∷ Left 0 ∷ []

-- The words of an example with three variables: X and Y have numbers 0 and 1, and N : Integer := 0 has number 2.

-- What N holds.
abbrev pub n_now : ExpressionForm
n_now = reads (example_path 2 [])

-- The component Value of the object of a variable.
abbrev pub value_at : ℕ → ExpressionForm
value_at x = reads (example_path x (0 ∷ []))

-- An expression, an operator and a number.
abbrev pub with_number : BinaryOperator → ℕ → ExpressionForm → ExpressionForm
with_number operator n e = chained e (a_link operator (integer (pos n)) no_more_links)

-- new Cell'(Value => n)
abbrev pub new_cell_with : ℕ → RightForm
new_cell_with n = allocates 1 (item_of_value (integer (pos n)) ∷ [])

-- while N < 2 loop N := N + 1; Put_Line (Integer'Image (N)); end loop;
abbrev pub counting_loop : StmtForm
counting_loop =
    repeats (Some (with_number binary.Less 2 n_now))
    (a_stmt (assigns (example_path 2 []) (computes (with_number binary.Add 1 n_now)))
    (a_stmt (writes n_now) no_stmts))
    example_spot

-- if Y = null then Y := new Cell'(Value => 7);
-- elsif Y.Value = 7 then X := Y; Y := new Cell'(Value => 8);
-- else Put_Line (Integer'Image (Y.Value)); X := Y; return; end if;
abbrev pub first_is_made : StmtsForm
first_is_made = a_stmt (assigns (example_path 1 []) (new_cell_with 7)) no_stmts

-- What is done in the second turn.
abbrev pub second_is_made : StmtsForm
second_is_made =
    a_stmt (assigns (example_path 0 []) (value_of (example_path 1 [])))
    (a_stmt (assigns (example_path 1 []) (new_cell_with 8)) no_stmts)

-- What is done in the last turn.
abbrev pub all_is_over : StmtsForm
all_is_over =
    a_stmt (writes (value_at 1))
    (a_stmt (assigns (example_path 0 []) (value_of (example_path 1 [])))
    (a_stmt (returns example_spot) no_stmts))

-- The choice among the turns.
abbrev pub making_if : StmtForm
making_if =
    chooses (a_branch (is_null true (example_path 1 [])) first_is_made
    (a_branch (with_number binary.Equal 7 (value_at 1)) second_is_made
    (otherwise all_is_over)))

-- loop exit when X /= null; if .. end if; Put_Line (Integer'Image (0)); end loop;
abbrev pub making_loop : StmtForm
making_loop =
    repeats None
    (a_stmt (exits (Some (is_null false (example_path 0 []))) example_spot)
    (a_stmt making_if
    (a_stmt (writes (integer (pos 0))) no_stmts)))
    example_spot

-- loop while .. end loop; loop .. end loop; Put_Line (Integer'Image (X.Value)); Free (X); end loop; Y := X; Put_Line (Integer'Image (X.Value));
abbrev pub nesting_stmts : StmtsForm
nesting_stmts =
    a_stmt (repeats None
    (a_stmt counting_loop
    (a_stmt making_loop
    (a_stmt (writes (value_at 0))
    (a_stmt (frees 1 (example_path 0 [])) no_stmts))))
    example_spot)
    (a_stmt (assigns (example_path 1 []) (value_of (example_path 0 [])))
    (a_stmt (writes (value_at 0)) no_stmts))

-- In the first turn of the outer loop the `while` has two turns. The inner loop is at first not left: each of its two whole turns ends with a
-- 0, and the second one looks at `elsif`. The exit in its third turn goes on behind the inner loop. In the outer loop's second turn the
-- `while` has no turn, the inner loop is not left again, and comes to `else`. The return leaves all. What is behind the outer loop is neither
-- done nor examined: its X would be lost; nor is anything behind the return, where Y is lost.
abbrev pub nesting_events : List Event
nesting_events =
    Line (Image (pos 1))
    ∷ Line (Image (pos 2))
    ∷ Line (Image (pos 0))
    ∷ Followed (Names (record { 0 = 0 }))
    ∷ Line (Image (pos 0))
    ∷ Followed (Names (record { 0 = 0 }))
    ∷ Line (Image (pos 7))
    ∷ Back (Names (record { 0 = 0 })) 1 1 (Some 0) None (Freeing 1)
    ∷ Followed (Names (record { 0 = 1 }))
    ∷ Followed (Names (record { 0 = 1 }))
    ∷ Line (Image (pos 8))
    ∷ Back (Names (record { 0 = 1 })) 1 2 (Some 0) None (Leaving 0 0)
    ∷ Left 0
    ∷ []

-- X := new Cell'(Value => 7); loop Put_Line (Integer'Image (X.Value)); Y := X; Free (Y); end loop;
abbrev pub losing_body : StmtsForm
losing_body =
    a_stmt (writes (reads (example_path 0 (0 ∷ []))))
    (a_stmt (assigns (example_path 1 []) (value_of (example_path 0 [])))
    (a_stmt (frees 1 (example_path 1 [])) no_stmts))

-- An object, and the loop that loses it.
abbrev pub losing_stmts : StmtsForm
losing_stmts = seven_to_x (a_stmt (repeats None losing_body example_spot) no_stmts)

-- The first turn: the object is followed, its 7 is written, and it is freed.
abbrev pub losing_events : List Event
losing_events =
    Followed (Names (record { 0 = 0 }))
    ∷ Line (Image (pos 7))
    ∷ Back (Names (record { 0 = 0 })) 1 1 (Some 0) None (Freeing 1)
    ∷ []

-- X := new Cell'(Value => 7); loop Y := X; Free (Y); exit; end loop; Put_Line (Integer'Image (X.Value));
abbrev pub leaving_body : StmtsForm
leaving_body =
    a_stmt (assigns (example_path 1 []) (value_of (example_path 0 [])))
    (a_stmt (frees 1 (example_path 1 []))
    (a_stmt (exits None example_spot) no_stmts))

-- An object, the loop that is left, and what follows it.
abbrev pub leaving_stmts : StmtsForm
leaving_stmts = seven_to_x (a_stmt (repeats None leaving_body example_spot) (a_stmt (writes (reads (example_path 0 (0 ∷ [])))) no_stmts))

-- The first exception that a program declares: Full : exception;
abbrev pub full : Exception
full = Declared (record { 0 = 0 })

-- loop if X /= null then raise Full; end if; X := new Cell'(Value => 7); end loop;
abbrev pub handling_body : StmtsForm
handling_body =
    a_stmt (chooses (a_branch (is_null false (example_path 0 [])) (a_stmt (raises full) no_stmts) (otherwise no_stmts)))
    (seven_to_x no_stmts)

-- The loop that raises.
abbrev pub handling_stmts : StmtsForm
handling_stmts = a_stmt (repeats None handling_body example_spot) no_stmts

-- when Constraint_Error => Put_Line (Integer'Image (0));
abbrev pub other_handlers : HandlersForm → HandlersForm
other_handlers behind = a_handler (choice.Exception ConstraintError ∷ []) (a_stmt (writes (integer (pos 0))) no_stmts) behind

-- These handlers, and when Full => Put_Line (Integer'Image (X.Value)); Free (X);
abbrev pub handling_handlers : HandlersForm
handling_handlers =
    other_handlers
    (a_handler (choice.Exception full ∷ []) (a_stmt (writes (value_at 0)) (a_stmt (frees 1 (example_path 0 [])) no_stmts)) no_handlers)

-- X becomes an object in the first turn, and the second one raises Full: the second handler follows the object, writes its 7, and frees it.
abbrev pub handling_events : List Event
handling_events =
    Followed (Names (record { 0 = 0 }))
    ∷ Line (Image (pos 7))
    ∷ Back (Names (record { 0 = 0 })) 1 1 (Some 0) None (Freeing 1)
    ∷ Left 0
    ∷ []

-- The words of examples of blocks: X : Link and Y : Inner have numbers 0 and 1, and a block declares the access type Inner, of number 2.

-- Y := new Inner'(Value => 8);
abbrev pub inner_object : StmtForm
inner_object = assigns (example_path 1 []) (allocates 2 (item_of_value (integer (pos 8)) ∷ []))

-- declare type Inner is access Cell; Y : Inner; begin Y := new Cell'(Value => 8); Put_Line (Integer'Image (Y.Value)); exit; end;
abbrev pub enclosed_declarations : List DeclarationForm
enclosed_declarations = collects 2 ∷ declares 1 nothing ∷ []

-- The statements inside the block.
abbrev pub enclosed_stmts : StmtsForm
enclosed_stmts =
    a_stmt inner_object
    (a_stmt (writes (value_at 1))
    (a_stmt (exits None example_spot) no_stmts))

-- X := new Cell'(Value => 7); loop declare .. end; end loop; Put_Line (Integer'Image (X.Value));
abbrev pub enclosing_stmts : StmtsForm
enclosing_stmts =
    seven_to_x
    (a_stmt (repeats None (a_stmt (encloses enclosed_declarations enclosed_stmts no_handlers) no_stmts) example_spot)
    (a_stmt (writes (value_at 0)) no_stmts))

-- The exit leaves the block before the loop: its object goes with its collection. The outer object is followed behind the loop, and goes
-- with the main procedure.
abbrev pub enclosing_events : List Event
enclosing_events =
    Followed (Names (record { 0 = 1 }))
    ∷ Line (Image (pos 8))
    ∷ Back (Names (record { 0 = 1 })) 2 2 (Some 0) None (Leaving 1 2)
    ∷ Left 1
    ∷ Followed (Names (record { 0 = 0 }))
    ∷ Line (Image (pos 7))
    ∷ Back (Names (record { 0 = 0 })) 1 1 (Some 0) None (Leaving 0 0)
    ∷ Left 0
    ∷ []

-- declare type Inner is access Cell; Y : Inner;
-- begin Y := new Cell'(Value => 8); raise Full; exception when Constraint_Error => Put_Line (Integer'Image (0)); end;
abbrev pub unwound_block : StmtForm
unwound_block = encloses enclosed_declarations (a_stmt inner_object (a_stmt (raises full) no_stmts)) (other_handlers no_handlers)

-- X := new Cell'(Value => 7); declare .. end; Put_Line (Integer'Image (0));
abbrev pub unwinding_stmts : StmtsForm
unwinding_stmts = seven_to_x (a_stmt unwound_block (a_stmt (writes (integer (pos 0))) no_stmts))

-- when Full => Put_Line (Integer'Image (X.Value)); return;
abbrev pub unwinding_handlers : HandlersForm
unwinding_handlers =
    a_handler (choice.Exception full ∷ []) (a_stmt (writes (value_at 0)) (a_stmt (returns example_spot) no_stmts)) no_handlers

-- The block's handler doesn't take the exception: the block is left, and only then the outer handler comes. Its return leaves the main
-- procedure.
abbrev pub unwinding_events : List Event
unwinding_events =
    Back (Names (record { 0 = 1 })) 2 2 (Some 0) None (Leaving 1 2)
    ∷ Left 1
    ∷ Followed (Names (record { 0 = 0 }))
    ∷ Line (Image (pos 7))
    ∷ Back (Names (record { 0 = 0 })) 1 1 (Some 0) None (Leaving 0 0)
    ∷ Left 0
    ∷ []

-- for I in 1 .. 3 loop X := new Cell'(Value => I); Get (N); Put_Line (Integer'Image (X.Value + N)); Free (X); end loop;
abbrev pub counting_body : StmtsForm
counting_body =
    a_stmt (assigns (example_path 0 []) (allocates 1 (item_of_value (reads (example_path 3 [])) ∷ [])))
    (a_stmt (gets (example_path 2 []))
    (a_stmt (writes (chained (value_at 0) (a_link binary.Add n_now no_more_links)))
    (a_stmt (frees 1 (example_path 0 [])) no_stmts)))

-- The `for` loop.
abbrev pub counting_stmts : StmtsForm
counting_stmts = a_stmt (counts 3 (integer (pos 1)) (integer (pos 3)) counting_body example_spot) no_stmts

-- when others => Put_Line (Integer'Image (X.Value)); Free (X);
abbrev pub counting_handlers : HandlersForm
counting_handlers = a_handler (choice.Others ∷ []) (a_stmt (writes (value_at 0)) (a_stmt (frees 1 (example_path 0 [])) no_stmts)) no_handlers

-- The input is 5 and 6. The third turn finds no more, and the handler frees its object.
abbrev pub counting_events : List Event
counting_events =
    Followed (Names (record { 0 = 0 }))
    ∷ Line (Image (pos 6))
    ∷ Back (Names (record { 0 = 0 })) 1 1 (Some 0) None (Freeing 1)
    ∷ Followed (Names (record { 0 = 1 }))
    ∷ Line (Image (pos 8))
    ∷ Back (Names (record { 0 = 1 })) 1 2 (Some 0) None (Freeing 2)
    ∷ Followed (Names (record { 0 = 2 }))
    ∷ Line (Image (pos 3))
    ∷ Back (Names (record { 0 = 2 })) 1 3 (Some 0) None (Freeing 3)
    ∷ Left 0
    ∷ []

-- X := new Cell'(Value => 7); Y := X; Free (Y); if Y = null then raise Full; end if; X := null;
abbrev pub raising_stmts : StmtsForm
raising_stmts =
    seven_to_x
    (a_stmt (assigns (example_path 1 []) (value_of (example_path 0 [])))
    (a_stmt (frees 1 (example_path 1 []))
    (a_stmt (chooses (a_branch (is_null true (example_path 1 [])) (a_stmt (raises full) no_stmts) (otherwise no_stmts)))
    (a_stmt (assigns (example_path 0 []) nothing) no_stmts))))

-- when Full => Put_Line (Integer'Image (X.Value));
abbrev pub raising_handlers : HandlersForm
raising_handlers = a_handler (choice.Exception full ∷ []) (a_stmt (writes (value_at 0)) no_stmts) no_handlers

-- The object is freed, and then the handler looks for it.
abbrev pub raising_events : List Event
raising_events = Back (Names (record { 0 = 0 })) 1 1 (Some 0) None (Freeing 1) ∷ []

-- Get (N); X := new Cell'(Value => 7); Y := X; Free (Y); N := -N;
abbrev pub overflowing_stmts : StmtsForm
overflowing_stmts =
    a_stmt (gets (example_path 2 []))
    (seven_to_x
    (a_stmt (assigns (example_path 1 []) (value_of (example_path 0 [])))
    (a_stmt (frees 1 (example_path 1 []))
    (a_stmt (assigns (example_path 2 []) (computes (applied_to unary.Minus n_now))) no_stmts))))

-- when Constraint_Error => Put_Line (Integer'Image (X.Value));
abbrev pub overflowing_handlers : HandlersForm
overflowing_handlers = a_handler (choice.Exception ConstraintError ∷ []) (a_stmt (writes (value_at 0)) no_stmts) no_handlers

-- Y is an outer variable of the access type that a block declares:
-- declare type Inner is access Cell; begin Y := new Cell'(Value => 8); end; Put_Line (Integer'Image (Y.Value));
abbrev pub outliving_stmts : StmtsForm
outliving_stmts =
    a_stmt (encloses (collects 2 ∷ []) (a_stmt inner_object no_stmts) no_handlers)
    (a_stmt (writes (value_at 1)) no_stmts)

-- The object goes with the block's collection.
abbrev pub outliving_events : List Event
outliving_events = Back (Names (record { 0 = 0 })) 2 1 (Some 0) None (Leaving 1 3) ∷ Left 1 ∷ []

-- That block with an exit out of it:
-- loop declare type Inner is access Cell; begin Y := new Cell'(Value => 8); exit; end; end loop; Put_Line (Integer'Image (Y.Value));
abbrev pub escaping_block : StmtForm
escaping_block = encloses (collects 2 ∷ []) (a_stmt inner_object (a_stmt (exits None example_spot) no_stmts)) no_handlers

-- The loop around the block, and what follows it.
abbrev pub escaping_stmts : StmtsForm
escaping_stmts = a_stmt (repeats None (a_stmt escaping_block no_stmts) example_spot) (a_stmt (writes (value_at 1)) no_stmts)

-- X is an outer variable of another access type, so that this is not well formed:
-- declare type Inner is access Cell; Y : Inner; begin Y := new Cell'(Value => 8); X := Y; end; Put_Line (Integer'Image (X.Value));
abbrev pub mistyping_block : StmtForm
mistyping_block =
    encloses enclosed_declarations
    (a_stmt inner_object (a_stmt (assigns (example_path 0 []) (value_of (example_path 1 []))) no_stmts))
    no_handlers

-- The block, and what follows it.
abbrev pub mistyping_stmts : StmtsForm
mistyping_stmts = a_stmt mistyping_block (a_stmt (writes (value_at 0)) no_stmts)

-- The object goes with the block's collection.
abbrev pub mistyping_events : List Event
mistyping_events = Back (Names (record { 0 = 0 })) 2 1 (Some 0) None (Leaving 1 2) ∷ Left 1 ∷ []

-- Components that are assigned to:
-- X := new Cell'(Value => 7); Get (X.Value);
-- while X.Value < 7 loop X.Value := X.Value + 1; end loop; Put_Line (Integer'Image (X.Value));
abbrev pub filling_body : StmtsForm
filling_body = a_stmt (assigns (example_path 0 (0 ∷ [])) (computes (with_number binary.Add 1 (value_at 0)))) no_stmts

-- The object, its first number, the loop, and what follows it.
abbrev pub filling_stmts : StmtsForm
filling_stmts =
    seven_to_x
    (a_stmt (gets (example_path 0 (0 ∷ [])))
    (a_stmt (repeats (Some (with_number binary.Less 7 (value_at 0))) filling_body example_spot)
    (a_stmt (writes (value_at 0)) no_stmts)))

-- The input is 5, so that the loop has two turns. The object is followed by Get, by each of three conditions, and before the line is written;
-- and three times in each turn: where its component is found, where it is read, and where it is assigned to.
abbrev pub filling_events : List Event
filling_events =
    replicate 11 (Followed (Names (record { 0 = 0 })))
    ++ Line (Image (pos 7))
    ∷ Back (Names (record { 0 = 0 })) 1 1 (Some 0) None (Leaving 0 0)
    ∷ Left 0
    ∷ []

-- X := new Cell'(Value => 7); Y := X; Free (Y); X.Value := 1;
abbrev pub storing_stmts : StmtsForm
storing_stmts =
    seven_to_x
    (a_stmt (assigns (example_path 1 []) (value_of (example_path 0 [])))
    (a_stmt (frees 1 (example_path 1 []))
    (a_stmt (assigns (example_path 0 (0 ∷ [])) (computes (integer (pos 1)))) no_stmts)))

-- The object is freed, and then a component of it is assigned to.
abbrev pub storing_events : List Event
storing_events = Back (Names (record { 0 = 0 })) 1 1 (Some 0) None (Freeing 1) ∷ []
