-- Each step that begins no statement makes a state lighter, so that a run comes to the next statement, or to its end.

use Rattle.std.proofs.Common.{◌≡◌, ◌≢◌, ℕ, suc, ℤ, ◌+◌, ◌<◌, ◌≤◌, int_le, Bool, true, false, ◌==◌, ◌||◌, if◌then◌else◌, List, [], ◌∷◌, length, map, Option, Some, None, is_some, Result, Ok, Err, arith, refl, sym, ap, ◌∙◌, subst}
use Rattle.std.specs.List.{slice_get, slice_index_or}
use Rattle.ada_program.specs.declared.program.Program.{Program}
use Rattle.ada_program.specs.declared.program.TypeDefinition.{TypeDefinition}
use Rattle.ada_program.specs.Form.{RecordPathForm, ActualForm, in_value, in_null, in_access, in_record, in_out_path, in_out_access, in_out_component, in_out_record, ExpressionForm, integer, boolean, reads, is_null, applied_to, chained, LinksForm, no_more_links, a_link, ItemForm, null_item, item_of_path, item_of_value, item_of_record, RightForm, nothing, value_of, allocates, allocates_default, computes, StmtForm, skips, assigns, assigns_record, frees, gets, writes, writes_text, chooses, repeats, counts, exits, calls, returns, raises, encloses, StmtsForm, no_stmts, a_stmt, BranchesForm, otherwise, a_branch, HandlersForm, DeclarationForm, creates_pool, collects, declares, declares_record}
use Rattle.ada_program.specs.Handling.{handler_of}
use Rattle.ada_program.specs.ProgramForm.{BodyForm, body_forms}
use Rattle.ada_program.specs.declared.program.Operations.{Operations}
use Rattle.ada_program.specs.Controlled.{OverridesNothing, shapes_of, operations_of, procedure_number}
use Rattle.ada_parts.specs.declared.tasks.Direction.TheVariants.{PartsFirst, WholeFirst}
use Rattle.ada_parts.specs.declared.tasks.Next.{Next as Follows}
use Rattle.ada_parts.specs.declared.tasks.Next.TheVariants.{Done, Pick, Perform}
use Rattle.ada_parts.specs.Part.{Part}
use Rattle.ada_parts.specs.Task.{Task, performs, treats, next as task_next}
use Rattle.ada_program.specs.Typed.{reached_of, words_of, width_of, pool_named}
use Rattle.ada_values.specs.declared.operator.BinaryOperator.{BinaryOperator}
use Rattle.ada_values.specs.declared.fault.OperatorFault.{OperatorFault}
use Rattle.ada_values.specs.declared.fault.OperatorFault.TheVariants.{Overflow, DivisionByZero, WrongType}
use Rattle.ada_meaning.specs.declared.state.Place.{Place}
use Rattle.ada_meaning.specs.declared.state.Value.{Value}
use Rattle.ada_meaning.specs.declared.state.Value.TheVariants.{Null}
use Rattle.ada_meaning.specs.declared.state.Mode.{Mode}
use Rattle.ada_meaning.specs.declared.state.Mode.TheVariants.{Running, Raising, Exiting, Returning}
use Rattle.ada_meaning.specs.declared.event.Cause.{Cause}
use Rattle.ada_meaning.specs.declared.event.Cause.TheVariants.{Leaving, Freeing, Assigning, Undoing}
use Rattle.ada_meaning.specs.declared.event.Birth.{Birth}
use Rattle.ada_meaning.specs.declared.event.Birth.TheVariants.{Creation, Copy, Adjustment}
use Rattle.ada_meaning.specs.declared.state.Stage.{Stage}
use Rattle.ada_meaning.specs.declared.state.Stage.TheVariants.{Building, Existing, Gone}
use Rattle.ada_program.specs.declared.program.Exception.{Exception}
use Rattle.ada_meaning.specs.declared.event.Halt.TheVariants.{Erroneous, Memory, Stuck}
use Rattle.ada_meaning.specs.declared.event.Why.TheVariants.{GivesElsewhere, FinalizesTwice}
use Rattle.ada_meaning.specs.Frame.{Treatment, Frame, is_master, is_loop, is_return, Landing, passes_on, goes_behind, goes_in, breaks_off, escapes, operation_landing, handler_landing, exception_landing, begins_by}
use Rattle.ada_meaning.specs.Frame as frame
use Rattle.ada_meaning.specs.State.{Activation, Owned, declared, collection, record_object, storage_pool, Item, Master, Destination, height, home_of, pools_in, pool_for, pool_freed_to, counted, begins, begins_in, begins_among}
use Rattle.ada_meaning.specs.Event.{Back, Finalized, Followed, Quiet}
use Rattle.ada_meaning.specs.Heap.{PartState, Cell, Found, on_null, on_gone, on_other, finds}
use Rattle.ada_meaning.specs.Step.{direction_of, picked_task, all_tasks, record_tasks, has_parts, treating, treated_on, beginning, born_next, begun_next, awaited_next, ended_next, finalized_next, performed_next, treats_next, made, taken_out, same_pool, told_back, record_cell, record_in, newest_ones, without_newest, initial_values, copied_next, copies_next, record_target_next, record_stored_next, store_record_next, record_next, halts, moves, tells, asks, picks, at, older, owning, shorter, popped, held, newest, reading, component_next, follow_next, path_next, selected, named_next, holder_next, place_in, record_holder_next, referred_next, refers_next, open_next, opened_next, opens_next, references_in, operand_count, storing, unwound, expression_next, null_test_next, is_decided, link_next, links_next, outcome_next, item_next, items_next, answered, new_next, new_cell, right_next, freeing, freeing_next, free_next, end_next, given_back, back_next, assigns_next, assign_next, copy_next, record_assign_next, frees_next, freed_next, free_component_next, free_in_next, branches_next, decided_next, turn_next, repeats_next, turned_next, count_turn_next, counts_next, ranges_next, gets_next, exit_next, exited_next, call_next, stmt_next, line_next, before_last, last_of, target_next, stored_next, store_next, received_next, receive_next, declaration_next, declarations_next, members_next, item_leave_next, master_leave_next, leave_next, frame_next, undo_next, broken_next, landed, pass_next, running_next, mode_next}
use Rattle.ada_meaning.specs.Named.{Object, State, Next, existing, created, parted, born_part, finalized_part, finalize, next, named, whole, inside, base, part_base, same, look, standing, lent, reads_boolean, reads_null, reads_integer, unary_given, binary_given, members, on_object, returned, new_object, an_integer}
use Rattle.ada_meaning.specs.Run.{Event, Choice, settled, grants, takes, Leads, Step}
use Rattle.ada_meaning.specs.Beginning.{BeginsStatement}
use Rattle.ada_meaning.specs.Ending.{steps_of_any, record_steps, tasks_weight, treatment_weight, new_weight, path_weight, expression_weight, links_weight, item_weight, items_weight, right_weight, branches_weight, condition_weight, initial_weight, declaration_weight, declarations_weight, frame_weight, has_handlers, stored_behind, pass_weight, passed_weight, by_mode, behind_weight, run_weight, exit_weight, return_weight, heap_weight, masters_weight, weight, undone_behind, task_calls, frame_calls, calls_among, calls_in, calls_operation, NothingIsCalled, GoesOn, StatementsEnd, here, there}
use Rattle.ada_meaning.proofs.Members.{IsListed, member_seen, part_lighter, member_listed, heap_append, finished_lighter, returned_lighter, filled_lighter, stored_lighter, parted_lighter, taken_lighter}
use Rattle.ada_meaning.proofs.Beginnings.{statements_begin}
use Rattle.ada_meaning.proofs.Treatments.{tasks_lighter, treatment_any, record_lighter, picked_lighter, treating_weight}
use Rattle.ada_meaning.proofs.Activations.{number_there, Operates, treats_operate}
use Rattle.ada_meaning.proofs.Jumps.{unwound_to, unwound_by, master_no_loop, master_no_return}

-- The state in a mode.
abbrev in_mode : Mode → State → State
in_mode mode s = record s { mode = mode }

abbrev running : State → State
running s = in_mode Running s

-- The lemmas, for a program with these types.
module _ (types : List TypeDefinition) where
  -- What the objects and the items weigh, and the weight of a state, open.
  abbrev stored : State → ℕ
  stored s = heap_weight types s.heap + masters_weight s.masters

  abbrev load : State → ℕ
  load s = stored s + by_mode s.mode (passed_weight s.control) (exit_weight types s.control) (return_weight types s.control) (run_weight types s.control)

  -- What comes next is lighter, whatever is answered; it is no want of memory, and there is something to be picked.
  abbrev Lightens : Next → ℕ → Type 0
  Lightens (halts halt) w = halt ≢ Memory
  Lightens (moves e s) w = load s < w
  Lightens (tells request e s) w = load s < w
  Lightens (asks request answers) w = (granted : Bool) → load (answers granted) < w
  Lightens (picks n taking) w = (0 < n) × ((i : ℕ) → i < n → load (taking i) < w)

  -- Where an object is found, its own cell is.
  abbrev Reaches : Cell Value → Found (Cell Value) → Type 0
  Reaches cell (finds found) = found ≡ cell
  Reaches cell found = Unit {0}

  reaches_own : (object : Object) (stage : Stage) → Reaches object.cell (existing object stage)
  reaches_own object Building = refl
  reaches_own object Existing = refl
  reaches_own object Gone = tt

  -- Each part is a step at least.
  some_expression : (e : ExpressionForm) → 1 ≤ expression_weight e
  some_expression (integer i) = omega arith
  some_expression (boolean b) = omega arith
  some_expression (reads path) = omega arith
  some_expression (is_null equal path) = omega arith
  some_expression (applied_to operator e) = omega arith
  some_expression (chained e links) = omega arith

  some_links : (links : LinksForm) → 1 ≤ links_weight links
  some_links no_more_links = omega arith
  some_links (a_link operator e links) = omega arith

  some_items : (items : List ItemForm) → 1 ≤ items_weight items
  some_items [] = omega arith
  some_items (i ∷ is) = omega (arith, some_items is)

  some_right : (right : RightForm) → 1 ≤ right_weight types right
  some_right nothing = omega arith
  some_right (value_of path) = omega arith
  some_right (allocates access items) = omega arith
  some_right (allocates_default access) = omega arith
  some_right (computes e) = omega arith

  -- What an exception passes weighs no more than what runs, and than what an exit or a return passes.
  mode_passed :
      (mode : Mode) (passed exited returned run : ℕ) → passed ≤ run → passed ≤ exited → passed ≤ returned → passed ≤ by_mode mode passed exited returned run
  mode_passed Running passed exited returned run h i j = h
  mode_passed (Raising e) passed exited returned run h i j = omega arith
  mode_passed Exiting passed exited returned run h i j = i
  mode_passed Returning passed exited returned run h i j = j

  frame_passed :
      (f : Frame Value) (passed exited returned run : ℕ) → passed ≤ run → passed ≤ exited → passed ≤ returned
      → pass_weight f + passed ≤ frame_weight types f + behind_weight f passed exited returned run
  frame_passed (frame.Elaborates ds fs hs) passed exited returned run h i j = omega (arith, h)
  frame_passed (frame.Does no_stmts) passed exited returned run h i j = omega (arith, h)
  frame_passed (frame.Does (a_stmt f fs)) passed exited returned run h i j = omega arith
  frame_passed (frame.Decides fs branches) passed exited returned run h i j = omega (arith, h)
  frame_passed (frame.Repeats condition fs) passed exited returned run h i j = omega (arith, h)
  frame_passed (frame.Turns condition fs) passed exited returned run h i j = omega (arith, h)
  frame_passed (frame.Ranges x fs) passed exited returned run h i j = omega (arith, h)
  frame_passed (frame.Counts x value last fs) passed exited returned run h i j = omega (arith, h)
  frame_passed frame.Exits passed exited returned run h i j = omega (arith, h)
  frame_passed (frame.Handles hs) passed exited returned run h i j = omega (arith, h)
  frame_passed frame.Closes passed exited returned run h i j = omega (arith, h)
  frame_passed (frame.Leaves mode) passed exited returned run h i j = omega (arith, mode_passed mode passed exited returned run h i j)
  frame_passed (frame.Calls procedure b actuals) passed exited returned run h i j = omega (arith, h)
  frame_passed (frame.Returns actuals references) passed exited returned run h i j = omega (arith, h)
  frame_passed (frame.Evaluates right) passed exited returned run h i j = omega (arith, h, some_right right)
  frame_passed (frame.Computes e) passed exited returned run h i j = omega (arith, h, some_expression e)
  frame_passed (frame.Follows cs) passed exited returned run h i j = omega (arith, h)
  frame_passed (frame.TestsNull equal) passed exited returned run h i j = omega (arith, h)
  frame_passed (frame.Refers p) passed exited returned run h i j = omega (arith, h)
  frame_passed (frame.RefersIn place t) passed exited returned run h i j = omega (arith, h)
  frame_passed (frame.Opens path) passed exited returned run h i j = omega (arith, h)
  frame_passed (frame.OpensIn c) passed exited returned run h i j = omega (arith, h)
  frame_passed (frame.Continues links) passed exited returned run h i j = omega (arith, h, some_links links)
  frame_passed (frame.Applies operator) passed exited returned run h i j = omega (arith, h)
  frame_passed (frame.AppliesAlone operator) passed exited returned run h i j = omega (arith, h)
  frame_passed (frame.Fills items) passed exited returned run h i j = omega (arith, h, some_items items)
  frame_passed (frame.Copies first t) passed exited returned run h i j = omega (arith, h)
  frame_passed (frame.Creates access count) passed exited returned run h i j = omega (arith, h)
  frame_passed (frame.Stores x) passed exited returned run h i j = omega (arith, h)
  frame_passed (frame.Targets c right) passed exited returned run h i j = omega (arith, h)
  frame_passed (frame.StoresIn object c) passed exited returned run h i j = omega (arith, h)
  frame_passed (frame.TargetsRecord first t items) passed exited returned run h i j = omega (arith, h)
  frame_passed (frame.StoresRecord object first count) passed exited returned run h i j = omega (arith, h)
  frame_passed (frame.Assigns t) passed exited returned run h i j = omega (arith, h)
  frame_passed (frame.Receives c) passed exited returned run h i j = omega (arith, h)
  frame_passed (frame.FreesIn access c) passed exited returned run h i j = omega (arith, h)
  frame_passed (frame.Declares x) passed exited returned run h i j = omega (arith, h)
  frame_passed (frame.DeclaresRecord x t) passed exited returned run h i j = omega (arith, h)
  frame_passed (frame.Treats v treatment tasks) passed exited returned run h i j = omega (arith, h)
  frame_passed (frame.Awaits v by done of part tasks) passed exited returned run h i j = omega (arith, h)
  frame_passed frame.Confines passed exited returned run h i j = omega (arith, h)
  frame_passed (frame.Resumes mode) passed exited returned run h i j = omega (arith, mode_passed mode passed exited returned run h i j)
  frame_passed frame.Writes passed exited returned run h i j = omega (arith, h)
  frame_passed (frame.Ends v) passed exited returned run h i j = omega (arith, h)
  frame_passed (frame.GivesBack v cause pool) passed exited returned run h i j = omega (arith, h)
  frame_passed (frame.Clears x) passed exited returned run h i j = omega (arith, h)
  frame_passed (frame.ClearsIn object c) passed exited returned run h i j = omega (arith, h)

  lands_passed : (lands : Bool) (passed onward run : ℕ) → passed ≤ run → passed ≤ onward → passed ≤ (if lands then run else onward)
  lands_passed true passed onward run h i = h
  lands_passed false passed onward run h i = i

  mutual
    passed_run : (k : List (Frame Value)) → passed_weight k ≤ run_weight types k
    passed_run [] = omega arith
    passed_run (f ∷ k) =
        frame_passed f (passed_weight k) (exit_weight types k) (return_weight types k) (run_weight types k) (passed_run k) (passed_exit k) (passed_return k)

    passed_exit : (k : List (Frame Value)) → passed_weight k ≤ exit_weight types k
    passed_exit [] = omega arith
    passed_exit (f ∷ k) = omega (arith, lands_passed (is_loop f) (passed_weight k) (exit_weight types k) (run_weight types k) (passed_run k) (passed_exit k))

    passed_return : (k : List (Frame Value)) → passed_weight k ≤ return_weight types k
    passed_return [] = omega arith
    passed_return (f ∷ k) =
        omega (arith, lands_passed (is_return f) (passed_weight k) (return_weight types k) (run_weight types k) (passed_run k) (passed_return k))

  -- Statements that are to be done count once, and what is behind them.
  does_once : (fs : StmtsForm) (k : List (Frame Value)) → run_weight types (frame.Does fs ∷ k) ≤ 1 + run_weight types k
  does_once no_stmts k = omega arith
  does_once (a_stmt f fs) k = omega (arith, passed_run k)

  -- A new item.
  masters_owning : (item : Item) (ms : List Master) → masters_weight (owning item ms) ≤ 1 + masters_weight ms
  masters_owning item [] = omega arith
  masters_owning item (m ∷ ms) = omega arith

  -- Paths.
  reading_lightens : (cs : List ℕ) (v : Value) (s : State) (w : ℕ) → load (running s) + length cs + 2 ≤ w → load (reading named cs v (running s)) < w
  reading_lightens [] v s w h = omega (arith, h)
  reading_lightens (c ∷ cs) v s w h = omega (arith, h)

  component_lightens : (v : Value) (cs : List ℕ) (found : Option Value) (s : State) (w : ℕ) → load (running s) + length cs + 2 ≤ w → Lightens (component_next named v cs found (running s)) w
  component_lightens v cs None s w h = λ memory. cc
  component_lightens v cs (Some u) s w h = reading_lightens cs u s w h

  follow_lightens : (v : Value) (c : ℕ) (cs : List ℕ) (found : Found (Cell Value)) (s : State) (w : ℕ) → load (running s) + length cs + 2 ≤ w → Lightens (follow_next named v c cs found (running s)) w
  follow_lightens v c cs on_null s w h = omega (arith, h, passed_run s.control)
  follow_lightens v c cs on_gone s w h = λ memory. cc
  follow_lightens v c cs on_other s w h = λ memory. cc
  follow_lightens v c cs (finds cell) s w h = component_lightens v cs (slice_get cell.values c) s w h

  path_lightens : (cs : List ℕ) (v : Value) (s : State) (w : ℕ) → load (running s) + length cs + 1 ≤ w → Lightens (path_next named cs v (running s)) w
  path_lightens [] v s w h = omega (arith, h)
  path_lightens (c ∷ cs) v s w h = follow_lightens v c cs (look s.heap v) s w (omega (arith, h))

  -- Paths that begin with a variable have as many components as are written.
  selected_length : (v : Value) (cs : List ℕ) → length (selected named v cs) ≡ length cs
  selected_length v [] = refl
  selected_length v (c ∷ cs) = refl

  before_length : (c : ℕ) (cs : List ℕ) → length (before_last c cs) ≡ length cs
  before_length c [] = refl
  before_length c (d ∷ cs) = ap suc (before_length d cs)

  -- A frame that weighs 1, whatever component or place it is for.
  abbrev WeighsOne : (X : Type 0) → (X → Frame Value) → List (Frame Value) → Type 0
  WeighsOne X frame_of k = (x : X) → run_weight types (frame_of x ∷ k) ≡ 1 + run_weight types k

  named_lightens : (cs : List ℕ) (x : ℕ) (s : State) (w : ℕ) → load (running s) + length cs + 1 ≤ w → Lightens (named_next named cs x (running s)) w
  named_lightens cs x s w h =
      let v = held named s x in
      path_lightens (selected named v cs) (whole v) s w (omega (arith, h, selected_length v cs))

  holder_lightens :
      (c : ℕ) (cs : List ℕ) (x : ℕ) (frame_of : ℕ → Frame Value) (s : State) (w : ℕ) → WeighsOne ℕ frame_of s.control
      → load (running s) + length cs + 2 ≤ w → Lightens (holder_next named c cs x frame_of (running s)) w
  holder_lightens c cs x frame_of s w one h =
      let v = held named s x in
      let first = inside v c in
      path_lightens (before_last first cs) (whole v) (at (frame_of (last_of first cs) ∷ s.control) s) w
      (omega (arith, h, before_length first cs, one (last_of first cs)))

  record_holder_lightens :
      (p : RecordPathForm) (frame_of : Place → Frame Value) (s : State) (w : ℕ) → WeighsOne Place frame_of s.control
      → load (running s) + 1 + path_weight p.object ≤ w → Lightens (record_holder_next named p frame_of (running s)) w
  record_holder_lightens p frame_of s w one h =
      let v = held named s p.object.root in
      let place = place_in named v p.object.selectors p in
      path_lightens (selected named v p.object.selectors) (whole v) (at (frame_of place ∷ s.control) s) w
      (omega (arith, h, selected_length v p.object.selectors, one place))

  -- Expressions.
  expression_lightens : (e : ExpressionForm) (s : State) (w : ℕ) → load (running s) + expression_weight e ≤ w → Lightens (expression_next named e (running s)) w
  expression_lightens (integer i) s w h = omega (arith, h)
  expression_lightens (boolean b) s w h = omega (arith, h)
  expression_lightens (reads path) s w h = named_lightens path.selectors path.root s w (omega (arith, h))
  expression_lightens (is_null equal path) s w h =
      named_lightens path.selectors path.root (at (frame.TestsNull equal ∷ s.control) s) w (omega (arith, h))
  expression_lightens (applied_to operator e) s w h = omega (arith, h)
  expression_lightens (chained e links) s w h = omega (arith, h)

  null_test_lightens : (equal : Bool) (null : Option Bool) (s : State) (w : ℕ) → load (running s) + 1 ≤ w → Lightens (null_test_next named equal null (running s)) w
  null_test_lightens equal None s w h = λ memory. cc
  null_test_lightens true (Some null) s w h = omega (arith, h)
  null_test_lightens false (Some null) s w h = omega (arith, h)

  link_lightens : (decided : Bool) (operator : BinaryOperator) (e : ExpressionForm) (links : LinksForm) (s : State) (w : ℕ) → load (running s) + links_weight (a_link operator e links) ≤ w → Lightens (link_next named decided operator e links (running s)) w
  link_lightens true operator e links s w h = omega (arith, h)
  link_lightens false operator e links s w h = omega (arith, h)

  links_lighten : (links : LinksForm) (s : State) (w : ℕ) → load (running s) + links_weight links ≤ w → Lightens (links_next named links (running s)) w
  links_lighten no_more_links s w h = omega (arith, h)
  links_lighten (a_link operator e links) s w h = link_lightens (is_decided named operator (reads_boolean (newest named s))) operator e links s w h

  outcome_lightens : (outcome : Result Value OperatorFault) (s : State) (w : ℕ) → load (running s) + 1 ≤ w → Lightens (outcome_next named outcome (running s)) w
  outcome_lightens (Ok v) s w h = omega (arith, h)
  outcome_lightens (Err Overflow) s w h = omega (arith, h, passed_run s.control)
  outcome_lightens (Err DivisionByZero) s w h = omega (arith, h, passed_run s.control)
  outcome_lightens (Err WrongType) s w h = λ memory. cc

  -- Allocators.
  item_lightens : (item : ItemForm) (s : State) (w : ℕ) → load (running s) + item_weight item ≤ w → Lightens (item_next named item (running s)) w
  item_lightens null_item s w h = omega (arith, h)
  item_lightens (item_of_path path) s w h = named_lightens path.selectors path.root s w (omega (arith, h))
  item_lightens (item_of_value e) s w h = omega (arith, h)
  item_lightens (item_of_record p) s w h =
      record_holder_lightens p (λ place. frame.Copies place.component p.record_type) s w (λ place. refl) (omega (arith, h))

  items_lighten : (items : List ItemForm) (s : State) (w : ℕ) → load (running s) + items_weight items ≤ w → Lightens (items_next named items (running s)) w
  items_lighten [] s w h = omega (arith, h)
  items_lighten (i ∷ is) s w h = item_lightens i (at (frame.Fills is ∷ s.control) s) w (omega (arith, h))

  -- A record that is copied.
  copied_lightens : (o : Value) (found : Option (List Value)) (s : State) (w : ℕ) → load (running s) + 1 ≤ w → Lightens (copied_next named o found (running s)) w
  copied_lightens o None s w h = λ memory. cc
  copied_lightens o (Some vs) s w h = omega (arith, h)

  copies_lighten : (o : Value) (first count : ℕ) (found : Found (Cell Value)) (s : State) (w : ℕ) → load (running s) + 1 ≤ w → Lightens (copies_next named o first count found (running s)) w
  copies_lighten o first count on_null s w h = omega (arith, h, passed_run s.control)
  copies_lighten o first count on_gone s w h = λ memory. cc
  copies_lighten o first count on_other s w h = λ memory. cc
  copies_lighten o first count (finds cell) s w h = copied_lightens o (record_in cell.values first count) s w h

  answered_lightens :
      (access count words : ℕ) (home : Destination) (s : State) (w : ℕ) → load (running s) + 1 + new_weight types access ≤ w
      → (granted : Bool) → load (answered named types access count words home (running s) granted) < w
  answered_lightens access count words home s w h true =
      let initializes = treating_weight types (created s.heap words) (frame.begins Creation []) (all_tasks types access PartsFirst) s.control in
      omega (
        arith,
        h,
        heap_append types s.heap (new_object (new_cell named types access count home s) ∷ []),
        initializes,
        tasks_lighter types access PartsFirst,
      )
  answered_lightens access count words home s w h false = omega (arith, h, passed_run s.control)

  new_lightens :
      (access count words : ℕ) (home : Option Destination) (s : State) (w : ℕ) → load (running s) + 1 + new_weight types access ≤ w
      → Lightens (new_next named types access count words home (running s)) w
  new_lightens access count words None s w h = omega (arith, h, passed_run s.control)
  new_lightens access count words (Some home) s w h = answered_lightens access count words home s w h

  right_lightens :
      (right : RightForm) (s : State) (w : ℕ) → load (running s) + right_weight types right ≤ w
      → Lightens (right_next named types right (running s)) w
  right_lightens nothing s w h = omega (arith, h)
  right_lightens (value_of path) s w h = named_lightens path.selectors path.root s w (omega (arith, h))
  right_lightens (allocates access items) s w h = omega (arith, h)
  right_lightens (allocates_default access) s w h = omega (arith, h)
  right_lightens (computes e) s w h = omega (arith, h)

  -- The end of an object.
  end_lightens : (v : Value) (found : Found (Cell Value)) (s : State) (w : ℕ) → load (running s) + 1 ≤ w → Lightens (end_next named v found (running s)) w
  end_lightens v on_null s w h = λ memory. cc
  end_lightens v on_gone s w h = λ memory. cc
  end_lightens v on_other s w h = λ memory. cc
  end_lightens v (finds cell) s w h = omega (arith, h, finished_lighter types s.heap v)

  told_lightens : (pool : Option ℕ) (v : Value) (event : Event) (s : State) (w : ℕ) → load (running s) + 1 ≤ w → Lightens (told_back named pool v event (running (record s { heap = on_object returned s.heap v }))) w
  told_lightens None v event s w h = omega (arith, h, returned_lighter types s.heap v)
  told_lightens (Some pool) v event s w h = omega (arith, h, returned_lighter types s.heap v)

  returned_lightens : (same : Bool) (v : Value) (cause : Cause) (cell : Cell Value) (s : State) (w : ℕ) → load (running s) + 1 ≤ w → Lightens (if same then given_back named v cause cell (running s) else halts (Erroneous GivesElsewhere)) w
  returned_lightens true v cause cell s w h = told_lightens cell.home.pool v (Back v cell.access cell.number cell.home.pool cell.home.subpool cause) s w h
  returned_lightens false v cause cell s w h = λ memory. cc

  back_lightens : (v : Value) (cause : Cause) (pool : Option ℕ) (found : Found (Cell Value)) (s : State) (w : ℕ) → load (running s) + 1 ≤ w → Lightens (back_next named v cause pool found (running s)) w
  back_lightens v cause pool on_null s w h = λ memory. cc
  back_lightens v cause pool on_gone s w h = λ memory. cc
  back_lightens v cause pool on_other s w h = λ memory. cc
  back_lightens v cause pool (finds cell) s w h = returned_lightens (same_pool pool cell.home.pool) v cause cell s w h

  -- Components that are assigned to.
  target_lightens :
      (o : Value) (c : ℕ) (right : RightForm) (found : Found (Cell Value)) (s : State) (w : ℕ)
      → load (running s) + 2 + right_weight types right ≤ w → Lightens (target_next named o c right found (running s)) w
  target_lightens o c right on_null s w h = omega (arith, h, passed_run s.control)
  target_lightens o c right on_gone s w h = λ memory. cc
  target_lightens o c right on_other s w h = λ memory. cc
  target_lightens o c right (finds cell) s w h = omega (arith, h)

  stored_lightens : (o : Value) (c : ℕ) (v : Value) (before : Option Value) (s : State) (w : ℕ) → load (running s) + 1 ≤ w → Lightens (stored_next named o c v before (running s)) w
  stored_lightens o c v None s w h = λ memory. cc
  stored_lightens o c v (Some before) s w h = omega (arith, h, filled_lighter types s.heap o c v)

  store_lightens : (o : Value) (c : ℕ) (v : Value) (found : Found (Cell Value)) (s : State) (w : ℕ) → load (running s) + 1 ≤ w → Lightens (store_next named o c v found (running s)) w
  store_lightens o c v on_null s w h = λ memory. cc
  store_lightens o c v on_gone s w h = λ memory. cc
  store_lightens o c v on_other s w h = λ memory. cc
  store_lightens o c v (finds cell) s w h = stored_lightens o c v (slice_get cell.values c) s w h

  -- Records that are assigned to.
  record_target_lightens : (o : Value) (first count : ℕ) (items : List ItemForm) (found : Found (Cell Value)) (s : State) (w : ℕ) → load (running s) + 2 + items_weight items ≤ w → Lightens (record_target_next named o first count items found (running s)) w
  record_target_lightens o first count items on_null s w h = omega (arith, h, passed_run s.control)
  record_target_lightens o first count items on_gone s w h = λ memory. cc
  record_target_lightens o first count items on_other s w h = λ memory. cc
  record_target_lightens o first count items (finds cell) s w h = omega (arith, h)

  record_stored_lightens : (o : Value) (first : ℕ) (vs : List Value) (before : Option (List Value)) (s : State) (w : ℕ) → load (running s) + 1 ≤ w → Lightens (record_stored_next named o first vs before (running s)) w
  record_stored_lightens o first vs None s w h = λ memory. cc
  record_stored_lightens o first vs (Some before) s w h = omega (arith, h, stored_lighter types s.heap o first vs)

  store_record_lightens : (o : Value) (first count : ℕ) (found : Found (Cell Value)) (s : State) (w : ℕ) → load (running s) + 1 ≤ w → Lightens (store_record_next named o first count found (running s)) w
  store_record_lightens o first count on_null s w h = λ memory. cc
  store_record_lightens o first count on_gone s w h = λ memory. cc
  store_record_lightens o first count on_other s w h = λ memory. cc
  store_record_lightens o first count (finds cell) s w h =
      record_stored_lightens o first (newest_ones named count s) (record_in cell.values first count) (without_newest named count s) w h

  -- A record with controlled parts that is assigned: its target is finalized, gets its components, and is adjusted.
  assigns_lighten :
      (t : ℕ) (target source : Value) (same : Option Bool) (s : State) (w : ℕ)
      → load (running s) + 3 + (record_steps types t + record_steps types t) ≤ w
      → Lightens (assigns_next named types t target source same (running s)) w
  assigns_lighten t target source None s w h = λ memory. cc
  assigns_lighten t target source (Some true) s w h = omega (arith, h)
  assigns_lighten t target source (Some false) s w h =
      let o = whole target in
      let part = part_base target in
      let adjusts = treating o (frame.begins (Adjustment s.next) []) (record_tasks types t PartsFirst part) s.control in
      let copies = frame.Copies (base source) t ∷ frame.StoresRecord o (base target) (width_of types t) ∷ adjusts in
      let adjusted = treating_weight types o (frame.begins (Adjustment s.next) []) (record_tasks types t PartsFirst part) s.control in
      let finalized = treating_weight types o (frame.ends (Assigning s.next)) (record_tasks types t WholeFirst part) copies in
      omega (arith, h, adjusted, finalized, record_lighter types t PartsFirst part, record_lighter types t WholeFirst part)

  received_lightens : (o : Value) (c : ℕ) (input : List ℤ) (before : Option Value) (s : State) (w : ℕ) → load (running s) + 1 ≤ w → Lightens (received_next named o c input before (running s)) w
  received_lightens o c input None s w h = λ memory. cc
  received_lightens o c [] (Some before) s w h = omega (arith, h, passed_run s.control)
  received_lightens o c (i ∷ is) (Some before) s w h = omega (arith, h, filled_lighter types s.heap o c (an_integer i))

  receive_lightens : (o : Value) (c : ℕ) (found : Found (Cell Value)) (s : State) (w : ℕ) → load (running s) + 1 ≤ w → Lightens (receive_next named o c found (running s)) w
  receive_lightens o c on_null s w h = omega (arith, h, passed_run s.control)
  receive_lightens o c on_gone s w h = λ memory. cc
  receive_lightens o c on_other s w h = λ memory. cc
  receive_lightens o c (finds cell) s w h = received_lightens o c s.input (slice_get cell.values c) s w h

  -- An object that is freed: an end and a back are to come, and then what held its name is to be cleared.
  freeing_lightens :
      (access : ℕ) (v : Value) (cell : Cell Value) (clears : Frame Value) (event : Event) (s : State) (w : ℕ)
      → run_weight types (clears ∷ s.control) ≡ 1 + run_weight types s.control
      → load (running s) + 5 + steps_of_any (shapes_of types) ≤ w → Lightens (freeing_next named types access v cell clears event (running s)) w
  freeing_lightens access v cell clears event s w one h = by_pool (same_pool (Some (pool_freed_to (home_of access s.masters))) cell.home.pool)
    where
      by_pool :
          (own : Bool)
          → Lightens (if own then moves event (freeing named types access v cell clears (running s)) else halts (Erroneous GivesElsewhere)) w
      by_pool true =
          let behind = frame.Ends v ∷ frame.GivesBack v (Freeing s.next) (Some (pool_freed_to (home_of access s.masters))) ∷ clears ∷ s.control in
          let finalizes = treating_weight types v (frame.ends (Freeing s.next)) (all_tasks types cell.access WholeFirst) behind in
          omega (arith, h, one, parted_lighter types s.heap v, finalizes, treatment_any types cell.access)
      by_pool false = λ memory. cc

  -- A component that is freed.
  freed_lightens :
      (access : ℕ) (o : Value) (c : ℕ) (v : Value) (found : Found (Cell Value)) (s : State) (w : ℕ)
      → load (running s) + 5 + steps_of_any (shapes_of types) ≤ w → Lightens (freed_next named types access o c v found (running s)) w
  freed_lightens access o c v on_null s w h = omega (arith, h)
  freed_lightens access o c v on_gone s w h = λ memory. cc
  freed_lightens access o c v on_other s w h = λ memory. cc
  freed_lightens access o c v (finds cell) s w h = freeing_lightens access v cell (frame.ClearsIn o c) (Followed o) s w refl h

  free_component_lightens :
      (access : ℕ) (o : Value) (c : ℕ) (held : Option Value) (s : State) (w : ℕ) → load (running s) + 5 + steps_of_any (shapes_of types) ≤ w
      → Lightens (free_component_next named types access o c held (running s)) w
  free_component_lightens access o c None s w h = λ memory. cc
  free_component_lightens access o c (Some v) s w h = freed_lightens access o c v (standing s.heap v) s w h

  free_in_lightens :
      (access : ℕ) (o : Value) (c : ℕ) (found : Found (Cell Value)) (s : State) (w : ℕ)
      → load (running s) + 5 + steps_of_any (shapes_of types) ≤ w → Lightens (free_in_next named types access o c found (running s)) w
  free_in_lightens access o c on_null s w h = omega (arith, h, passed_run s.control)
  free_in_lightens access o c on_gone s w h = λ memory. cc
  free_in_lightens access o c on_other s w h = λ memory. cc
  free_in_lightens access o c (finds cell) s w h = free_component_lightens access o c (slice_get cell.values c) s w h

  -- Branches, loops and exits, behind their conditions.
  branches_lighten : (branches : BranchesForm) (s : State) (w : ℕ) → load (running s) + 1 + branches_weight branches ≤ w → Lightens (branches_next named branches (running s)) w
  branches_lighten (otherwise fs) s w h = omega (arith, h, does_once fs s.control)
  branches_lighten (a_branch e fs branches) s w h = omega (arith, h)

  decided_lightens : (fs : StmtsForm) (branches : BranchesForm) (truth : Option Bool) (s : State) (w : ℕ) → load (running s) + 2 ≤ w → load (running s) + 1 + branches_weight branches ≤ w → Lightens (decided_next named fs branches truth (running s)) w
  decided_lightens fs branches None s w h i = λ memory. cc
  decided_lightens fs branches (Some true) s w h i = omega (arith, h, does_once fs s.control)
  decided_lightens fs branches (Some false) s w h i = branches_lighten branches s w i

  some_branches : (branches : BranchesForm) → 1 ≤ branches_weight branches
  some_branches (otherwise fs) = omega arith
  some_branches (a_branch e fs branches) = omega arith

  turn_lightens : (condition : Option ExpressionForm) (fs : StmtsForm) (s : State) (w : ℕ) → load (running s) + 3 ≤ w → Lightens (turn_next named condition fs (running s)) w
  turn_lightens condition no_stmts s w h = λ memory. cc
  turn_lightens condition (a_stmt f fs) s w h = omega (arith, h, passed_run s.control)

  repeats_lighten : (condition : Option ExpressionForm) (fs : StmtsForm) (s : State) (w : ℕ) → load (running s) + 3 + condition_weight condition ≤ w → Lightens (repeats_next named condition fs (running s)) w
  repeats_lighten None fs s w h = turn_lightens None fs s w (omega (arith, h))
  repeats_lighten (Some e) fs s w h = omega (arith, h)

  turned_lightens : (e : ExpressionForm) (fs : StmtsForm) (truth : Option Bool) (s : State) (w : ℕ) → load (running s) + 3 ≤ w → Lightens (turned_next named e fs truth (running s)) w
  turned_lightens e fs None s w h = λ memory. cc
  turned_lightens e fs (Some true) s w h = turn_lightens (Some e) fs s w h
  turned_lightens e fs (Some false) s w h = omega (arith, h)

  -- Counting loops.
  count_turn_lightens : (x : ℕ) (value last : ℤ) (fs : StmtsForm) (s : State) (w : ℕ) → load (running s) + 3 ≤ w → Lightens (count_turn_next named x value last fs (running s)) w
  count_turn_lightens x value last no_stmts s w h = λ memory. cc
  count_turn_lightens x value last (a_stmt f fs) s w h = omega (arith, h, passed_run s.control)

  counted_lightens : (turns : Bool) (x : ℕ) (value last : ℤ) (fs : StmtsForm) (s : State) (w : ℕ) → load (running s) + 3 ≤ w → Lightens (if turns then count_turn_next named x value last fs (running s) else moves Quiet (running s)) w
  counted_lightens true x value last fs s w h = count_turn_lightens x value last fs s w h
  counted_lightens false x value last fs s w h = omega (arith, h)

  counts_lighten : (x : ℕ) (value last : ℤ) (fs : StmtsForm) (s : State) (w : ℕ) → load (running s) + 3 ≤ w → Lightens (counts_next named x value last fs (running s)) w
  counts_lighten x value last fs s w h = counted_lightens (int_le value last) x value last fs s w h

  ranges_lighten : (x : ℕ) (fs : StmtsForm) (low high : Option ℤ) (s : State) (w : ℕ) → load (running s) + 3 ≤ w → Lightens (ranges_next named x fs low high (running s)) w
  ranges_lighten x fs None high s w h = λ memory. cc
  ranges_lighten x fs (Some low) None s w h = λ memory. cc
  ranges_lighten x fs (Some low) (Some high) s w h = counts_lighten x low high fs s w h

  exited_lightens :
      (truth : Option Bool) (s : State) (w : ℕ) → load (running s) + 1 + exit_weight types s.control ≤ w
      → Lightens (exited_next named truth (running s)) w
  exited_lightens None s w h = λ memory. cc
  exited_lightens (Some true) s w h = omega (arith, h)
  exited_lightens (Some false) s w h = omega (arith, h)

  line_lightens : (read : Option ℤ) (s : State) (w : ℕ) → load (running s) + 1 ≤ w → Lightens (line_next named read (running s)) w
  line_lightens None s w h = λ memory. cc
  line_lightens (Some i) s w h = omega (arith, h)

  -- What is given by reference.
  referred_lightens :
      (o : Value) (place : Place) (found : Option (List Value)) (s : State) (w : ℕ) → load (running s) + 1 ≤ w
      → Lightens (referred_next named o place found (running s)) w
  referred_lightens o place None s w h = λ memory. cc
  referred_lightens o place (Some vs) s w h = omega (arith, h)

  refers_lighten :
      (o : Value) (place : Place) (count : ℕ) (found : Found (Cell Value)) (s : State) (w : ℕ) → load (running s) + 1 ≤ w
      → Lightens (refers_next named o place count found (running s)) w
  refers_lighten o place count on_null s w h = omega (arith, h, passed_run s.control)
  refers_lighten o place count on_gone s w h = λ memory. cc
  refers_lighten o place count on_other s w h = λ memory. cc
  refers_lighten o place count (finds cell) s w h = referred_lightens o place (record_in cell.values place.component count) s w h

  open_lightens : (cs : List ℕ) (x : ℕ) (s : State) (w : ℕ) → load (running s) + length cs + 2 ≤ w → Lightens (open_next named cs x (running s)) w
  open_lightens [] x s w h = λ memory. cc
  open_lightens (c ∷ cs) x s w h = holder_lightens c cs x frame.OpensIn s w (λ last. refl) (omega (arith, h))

  opened_lightens :
      (o : Value) (c : ℕ) (found : Option Value) (s : State) (w : ℕ) → load (running s) + 1 ≤ w → Lightens (opened_next named o c found (running s)) w
  opened_lightens o c None s w h = λ memory. cc
  opened_lightens o c (Some v) s w h = omega (arith, h)

  opens_lighten :
      (o : Value) (c : ℕ) (found : Found (Cell Value)) (s : State) (w : ℕ) → load (running s) + 1 ≤ w → Lightens (opens_next named o c found (running s)) w
  opens_lighten o c on_null s w h = omega (arith, h, passed_run s.control)
  opens_lighten o c on_gone s w h = λ memory. cc
  opens_lighten o c on_other s w h = λ memory. cc
  opens_lighten o c (finds cell) s w h = opened_lightens o c (slice_get cell.values c) s w h

  -- A call refers to no more components than it has actual parameters.
  few_references : (actuals : List ActualForm) (vs : List Value) → length (references_in actuals vs) ≤ length actuals
  few_references [] vs = omega arith
  few_references (in_value e ∷ rest) [] = omega arith
  few_references (in_value e ∷ rest) (v ∷ vs) = omega (arith, few_references rest vs)
  few_references (in_null ∷ rest) [] = omega arith
  few_references (in_null ∷ rest) (v ∷ vs) = omega (arith, few_references rest vs)
  few_references (in_access path ∷ rest) [] = omega arith
  few_references (in_access path ∷ rest) (v ∷ vs) = omega (arith, few_references rest vs)
  few_references (in_record p ∷ rest) [] = omega arith
  few_references (in_record p ∷ rest) (v ∷ vs) = omega (arith, few_references rest vs)
  few_references (in_out_path path ∷ rest) [] = omega arith
  few_references (in_out_path path ∷ rest) (v ∷ vs) = omega (arith, few_references rest vs)
  few_references (in_out_access path ∷ rest) [] = omega arith
  few_references (in_out_access path ∷ rest) (v ∷ vs) = omega (arith, few_references rest vs)
  few_references (in_out_component path ∷ rest) [] = omega arith
  few_references (in_out_component path ∷ rest) (r ∷ []) = omega arith
  few_references (in_out_component path ∷ rest) (r ∷ v ∷ vs) = omega (arith, few_references rest vs)
  few_references (in_out_record p ∷ rest) [] = omega arith
  few_references (in_out_record p ∷ rest) (v ∷ vs) = omega (arith, few_references rest vs)

  -- Each component that gets something back weighs 1.
  storing_weight : (references : List Value) (k : List (Frame Value)) → run_weight types (storing named references k) ≡ length references + run_weight types k
  storing_weight [] k = omega arith
  storing_weight (r ∷ rs) k = omega (arith, storing_weight rs k)

  -- A record object that is made: it is to be initialized, and to be finalized and ended later.
  made_lightens :
      (x t : ℕ) (by : Birth) (values : List Value) (s : State) (w : ℕ) → load (running s) + 2 + new_weight types t ≤ w
      → load (made named types x t by values (running s)) < w
  made_lightens x t by values s w h =
      let initializes = treating_weight types (created s.heap (words_of types t)) (frame.begins by []) (all_tasks types t PartsFirst) s.control in
      let owned = masters_owning (record { number = height s.masters; owned = record_object t }) s.masters in
      let more = heap_append types s.heap (new_object (record_cell named types t (height s.masters) values) ∷ []) in
      omega (arith, h, owned, more, initializes, tasks_lighter types t PartsFirst)

  -- Declarations.
  record_lightens :
      (x t : ℕ) (initial : Option (List ItemForm)) (s : State) (w : ℕ)
      → load (running s) + 2 + new_weight types t + initial_weight initial ≤ w
      → Lightens (record_next named types x t initial (running s)) w
  record_lightens x t None s w h = made_lightens x t Creation (initial_values named (reached_of types t)) s w (omega (arith, h))
  record_lightens x t (Some items) s w h = omega (arith, h)

  declaration_lightens :
      (d : DeclarationForm) (s : State) (w : ℕ) → load (running s) + declaration_weight types d ≤ w
      → Lightens (declaration_next named types d (running s)) w
  declaration_lightens (creates_pool pool) s w h =
      omega (arith, h, masters_owning (record { number = height s.masters; owned = storage_pool pool (pools_in s.masters + 1) }) s.masters)
  declaration_lightens (collects access) s w h =
      omega (arith, h, masters_owning (record { number = height s.masters; owned = collection access (pool_for (pool_named types access) s.masters) }) s.masters)
  declaration_lightens (declares x right) s w h = omega (arith, h)
  declaration_lightens (declares_record x t initial) s w h = record_lightens x t initial s w (omega (arith, h))

  declarations_lighten :
      (ds : List DeclarationForm) (fs : StmtsForm) (hs : HandlersForm) (s : State) (w : ℕ)
      → load (running s) + 5 + declarations_weight types ds ≤ w → Lightens (declarations_next named types ds fs hs (running s)) w
  declarations_lighten [] fs hs s w h = omega (arith, h, does_once fs (frame.Handles hs ∷ frame.Closes ∷ s.control))
  declarations_lighten (d ∷ ds) fs hs s w h = declaration_lightens d (at (frame.Elaborates ds fs hs ∷ s.control) s) w (omega (arith, h))

  -- A member that is taken out: its object is found as long as it exists.
  out_lightens :
      (cause : Cause) (pool : Option ℕ) (v : Value) (cell : Cell Value) (found : Found (Cell Value)) (s : State) (w : ℕ) → Reaches cell found
      → heap_weight types (on_object parted s.heap v) + (3 + treatment_weight types cell.access) ≡ heap_weight types s.heap → load (running s) ≤ w
      → load (taken_out named types cause pool v found (running s)) < w
  out_lightens cause pool v cell on_null s w reaches less h = omega (arith, h, less)
  out_lightens cause pool v cell on_gone s w reaches less h = omega (arith, h, less)
  out_lightens cause pool v cell on_other s w reaches less h = omega (arith, h, less)
  out_lightens cause pool v cell (finds found) s w reaches less h =
      let behind = frame.Ends v ∷ frame.GivesBack v cause pool ∷ s.control in
      let finalizes = treating_weight types v (frame.ends cause) (all_tasks types found.access WholeFirst) behind in
      let alike = ap (treatment_weight types) (ap (λ (c : Cell Value). c.access) reaches) in
      omega (arith, h, less, finalizes, alike)

  taken_lightens :
      (cause : Cause) (pool : Option ℕ) (v : Value) (s : State) (w : ℕ) → IsListed 0 s.heap v → load (running s) ≤ w
      → load (taken_out named types cause pool v (look s.heap v) (running s)) < w
  taken_lightens cause pool v s w member h =
      out_lightens cause pool v member.object.cell (look s.heap v) s w
      (subst (Reaches member.object.cell) (sym (member_seen s.heap v member)) (reaches_own member.object member.object.stage))
      (taken_lighter types s.heap v member) h

  -- The leaving of a master: `s` has its frame on top again, and weighs no more than before.
  members_lighten :
      (cause : Cause) (pool : Option ℕ) (item : ℕ) (vs : List Value) (s : State) (w : ℕ) → members s.heap item ≡ vs
      → masters_weight (shorter s.masters) + 1 ≡ masters_weight s.masters → load (running s) ≤ w
      → Lightens (members_next named types cause pool vs (running s)) w
  members_lighten cause pool item [] s w are fewer h = omega (arith, h, fewer)
  members_lighten cause pool item (v ∷ vs) s w are fewer h =
      (omega arith, λ i lt. taken_lightens cause pool (slice_index_or (v ∷ vs) i Null) s w (member_listed s.heap item (v ∷ vs) i are lt) h)

  item_leaves_lighter :
      (m : ℕ) (item : Item) (owned : Owned) (s : State) (w : ℕ) → masters_weight (shorter s.masters) + 1 ≡ masters_weight s.masters
      → load (running s) ≤ w → Lightens (item_leave_next named types m item owned (running s)) w
  item_leaves_lighter m item (declared x) s w fewer h = omega (arith, h, fewer)
  item_leaves_lighter m item (collection access pool) s w fewer h = members_lighten (Leaving m item.number) pool item.number (members s.heap item.number) s w refl fewer h
  item_leaves_lighter m item (record_object t) s w fewer h = members_lighten (Leaving m item.number) None item.number (members s.heap item.number) s w refl fewer h
  item_leaves_lighter m item (storage_pool declaration number) s w fewer h = omega (arith, h, fewer)

  master_leaves_lighter :
      (mode : Mode) (m : Master) (ms : List Master) (items : List Item) (s : State) (w : ℕ) → s.masters ≡ m ∷ ms → m.items ≡ items
      → load (in_mode mode s) + 1 ≤ w → Lightens (master_leave_next named types mode m.number items (running s)) w
  master_leaves_lighter mode m ms [] s w top none h =
      let fewer : masters_weight (older s.masters) ≤ masters_weight s.masters = rw top (omega arith) in
      omega (arith, h, fewer)
  master_leaves_lighter mode m ms (item ∷ items) s w top some h =
      let fewer : masters_weight (shorter s.masters) + 1 ≡ masters_weight s.masters = rw (top, some) (omega arith) in
      item_leaves_lighter m.number item item.owned (at (frame.Leaves mode ∷ s.control) s) w fewer (omega (arith, h))

  leave_lightens :
      (mode : Mode) (ms : List Master) (s : State) (w : ℕ) → s.masters ≡ ms → load (in_mode mode s) + 1 ≤ w
      → Lightens (leave_next named types mode ms (running s)) w
  leave_lightens mode [] s w top h = λ memory. cc
  leave_lightens mode (m ∷ ms) s w top h = master_leaves_lighter mode m ms m.items s w top refl h

  -- The treatment of an object, where no operation is called.
  born_lightens :
      (v : Value) (by : Birth) (done : List Part) (of part : ℕ) (tasks : List Task) (state : Option PartState) (s : State) (w : ℕ)
      → load (running s) + 2 + tasks_weight (shapes_of types) tasks ≤ w → Lightens (born_next named v by done of part tasks state (running s)) w
  born_lightens v by done of part tasks None s w h = λ memory. cc
  born_lightens v by done of part tasks (Some p) s w h =
      let begins = treating_weight types v (frame.begins by (record { of = of; number = part } ∷ done)) tasks s.control in
      omega (arith, h, part_lighter types (born_part (counted s.born)) part s.heap v, begins)

  begun_lightens :
      (bodies : List BodyForm) (v : Value) (by : Birth) (done : List Part) (of part : ℕ) (tasks : List Task) (operation : Option ℕ)
      (state : Option PartState) (s : State) (w : ℕ) → is_some operation ≡ false → load (running s) + 2 + tasks_weight (shapes_of types) tasks ≤ w
      → Lightens (begun_next named bodies v by done of part tasks operation state (running s)) w
  begun_lightens bodies v by done of part tasks operation None s w none h = λ memory. cc
  begun_lightens bodies v by done of part tasks None (Some p) s w none h = born_lightens v by done of part tasks (Some p) s w h
  begun_lightens bodies v by done of part tasks (Some procedure) (Some p) s w none h = absurd (cc)

  awaited_lightens :
      (v : Value) (by : Birth) (done : List Part) (of part : ℕ) (tasks : List Task) (found : Found (Cell Value)) (s : State) (w : ℕ)
      → load (running s) + 2 + tasks_weight (shapes_of types) tasks ≤ w → Lightens (awaited_next named v by done of part tasks found (running s)) w
  awaited_lightens v by done of part tasks on_null s w h = λ memory. cc
  awaited_lightens v by done of part tasks on_gone s w h = λ memory. cc
  awaited_lightens v by done of part tasks on_other s w h = λ memory. cc
  awaited_lightens v by done of part tasks (finds cell) s w h = born_lightens v by done of part tasks (slice_get cell.parts part) s w h

  ended_lightens :
      (bodies : List BodyForm) (v : Value) (part : ℕ) (p : PartState) (behind : List (Frame Value)) (operation : Option ℕ) (event : Event) (s : State) (w : ℕ)
      → is_some operation ≡ false → load (running (at behind s)) < w → Lightens (ended_next named bodies v part p behind operation event (running s)) w
  ended_lightens bodies v part p behind None event s w none h = h
  ended_lightens bodies v part p behind (Some procedure) event s w none h = absurd (cc)

  finalized_lightens :
      (bodies : List BodyForm) (v : Value) (cause : Cause) (of part : ℕ) (tasks : List Task) (operation : Option ℕ)
      (state : Option PartState) (s : State) (w : ℕ) → is_some operation ≡ false → load (running s) + 2 + tasks_weight (shapes_of types) tasks ≤ w
      → Lightens (finalized_next named bodies v cause of part tasks operation state (running s)) w
  finalized_lightens bodies v cause of part tasks operation None s w none h = λ memory. cc
  finalized_lightens bodies v cause of part tasks operation (Some p) s w none h = by_life p.alive
    where
      behind : List (Frame Value)
      behind = treating v (frame.ends cause) tasks s.control

      event : Event
      event = Finalized v part p.turn of p.number cause

      by_life :
          (alive : Bool)
          → Lightens
          (if alive then ended_next named bodies v part p behind operation event (running (record s { heap = finalize s.heap v part }))
          else halts (Erroneous FinalizesTwice)) w
      by_life true =
          ended_lightens bodies v part p behind operation event (record s { heap = finalize s.heap v part }) w none
          (omega (arith, h, part_lighter types finalized_part part s.heap v, treating_weight types v (frame.ends cause) tasks s.control))
      by_life false = λ memory. cc

  performed_lightens :
      (bodies : List BodyForm) (v : Value) (treatment : Treatment) (of part : ℕ) (tasks : List Task) (found : Found (Cell Value)) (s : State) (w : ℕ)
      → task_calls types treatment (Perform of part) ≡ false → load (running s) + 2 + tasks_weight (shapes_of types) tasks ≤ w
      → Lightens (performed_next named types bodies v treatment of part tasks found (running s)) w
  performed_lightens bodies v treatment of part tasks on_null s w none h = λ memory. cc
  performed_lightens bodies v treatment of part tasks on_gone s w none h = λ memory. cc
  performed_lightens bodies v treatment of part tasks on_other s w none h = λ memory. cc
  performed_lightens bodies v (frame.begins by done) of part tasks (finds cell) s w none h =
      begun_lightens bodies v by done of part tasks (beginning by (operations_of types of)) (slice_get cell.parts part) s w none h
  performed_lightens bodies v (frame.ends cause) of part tasks (finds cell) s w none h =
      let operation = (operations_of types of).finalize in
      finalized_lightens bodies v cause of part tasks (procedure_number operation) (slice_get cell.parts part) s w (number_there operation ∙ none) h

  picked_lightens :
      (none : Bool) (count : ℕ) (taking : ℕ → State) (w : ℕ) → 0 < count → ((i : ℕ) → i < count → load (taking i) < w)
      → Lightens (if none then halts Stuck else picks count taking) w
  picked_lightens true count taking w some lighter = λ memory. cc
  picked_lightens false count taking w some lighter = (some, lighter)

  treats_lightens :
      (bodies : List BodyForm) (v : Value) (treatment : Treatment) (tasks : List Task) (s : State) (w : ℕ)
      → task_calls types treatment (task_next tasks) ≡ false → load (running s) + 1 + tasks_weight (shapes_of types) tasks ≤ w
      → Lightens (treats_next named types bodies v treatment tasks (task_next tasks) (running s)) w
  treats_lightens bodies v treatment [] s w none h = omega (arith, h)
  treats_lightens bodies v treatment (performs of part ∷ tasks) s w none h =
      performed_lightens bodies v treatment of part tasks (look s.heap v) s w none (omega (arith, h))
  treats_lightens bodies v treatment (treats [] ∷ tasks) s w none h = λ memory. cc
  treats_lightens bodies v treatment (treats (c ∷ cs) ∷ tasks) s w none h =
      let left : ℕ → List Task = λ i. picked_task (shapes_of types) (direction_of treatment) (treats (c ∷ cs) ∷ tasks) i in
      picked_lightens (length (c ∷ cs) == 0) (length (c ∷ cs)) (λ i. treated_on named v treatment (left i) (running s)) w (omega arith) (λ i lt.
      omega (arith, h, treating_weight types v treatment (left i) s.control, picked_lighter types (direction_of treatment) (c ∷ cs) tasks i lt))

  -- Each frame that is taken off, unless a statement begins, or an operation is called.
  frame_lightens :
      (bodies : List BodyForm) (f : Frame Value) (s : State) (w : ℕ) → begins_by f ≡ false → frame_calls types f ≡ false
      → stored s + run_weight types (f ∷ s.control) ≤ w → Lightens (frame_next named types bodies f (running s)) w
  frame_lightens bodies (frame.Elaborates ds fs hs) s w b none h = declarations_lighten ds fs hs s w (omega (arith, h))
  frame_lightens bodies (frame.Does no_stmts) s w b none h = omega (arith, h)
  frame_lightens bodies (frame.Does (a_stmt f fs)) s w b none h = absurd (cc)
  frame_lightens bodies (frame.Decides fs branches) s w b none h =
      decided_lightens fs branches (reads_boolean (newest named s)) (popped s) w (omega (arith, h, some_branches branches)) (omega (arith, h))
  frame_lightens bodies (frame.Repeats condition fs) s w b none h = repeats_lighten condition fs s w (omega (arith, h))
  frame_lightens bodies (frame.Turns condition fs) s w b none h = turned_lightens condition fs (reads_boolean (newest named s)) (popped s) w (omega (arith, h))
  frame_lightens bodies (frame.Ranges x fs) s w b none h =
      ranges_lighten x fs (reads_integer (newest named (popped s))) (reads_integer (newest named s)) (popped (popped s)) w (omega (arith, h))
  frame_lightens bodies (frame.Counts x value last fs) s w b none h = counts_lighten x value last fs s w (omega (arith, h))
  frame_lightens bodies frame.Exits s w b none h = exited_lightens (reads_boolean (newest named s)) (popped s) w (omega (arith, h))
  frame_lightens bodies (frame.Handles hs) s w b none h = omega (arith, h)
  frame_lightens bodies frame.Closes s w b none h = omega (arith, h)
  frame_lightens bodies (frame.Leaves mode) s w b none h = leave_lightens mode s.masters s w refl (omega (arith, h))
  frame_lightens bodies (frame.Calls procedure body actuals) s w b none h =
      omega (arith, h, few_references actuals (newest_ones named (operand_count actuals) s))
  frame_lightens bodies (frame.Returns actuals references) s w b none h = omega (arith, h, storing_weight references s.control)
  frame_lightens bodies (frame.Evaluates right) s w b none h = right_lightens right s w (omega (arith, h))
  frame_lightens bodies (frame.Computes e) s w b none h = expression_lightens e s w (omega (arith, h))
  frame_lightens bodies (frame.Follows cs) s w b none h = path_lightens cs (newest named s) (popped s) w (omega (arith, h))
  frame_lightens bodies (frame.TestsNull equal) s w b none h = null_test_lightens equal (reads_null (newest named s)) (popped s) w (omega (arith, h))
  frame_lightens bodies (frame.Refers p) s w b none h =
      record_holder_lightens p (λ place. frame.RefersIn place p.record_type) s w (λ place. refl) (omega (arith, h))
  frame_lightens bodies (frame.RefersIn place t) s w b none h =
      refers_lighten (newest named s) place (width_of types t) (look s.heap (newest named s)) (popped s) w (omega (arith, h))
  frame_lightens bodies (frame.Opens path) s w b none h = open_lightens path.selectors path.root s w (omega (arith, h))
  frame_lightens bodies (frame.OpensIn c) s w b none h = opens_lighten (newest named s) c (look s.heap (newest named s)) (popped s) w (omega (arith, h))
  frame_lightens bodies (frame.Continues links) s w b none h = links_lighten links s w (omega (arith, h))
  frame_lightens bodies (frame.Applies operator) s w b none h =
      outcome_lightens (binary_given operator (newest named (popped s)) (newest named s)) (popped (popped s)) w (omega (arith, h))
  frame_lightens bodies (frame.AppliesAlone operator) s w b none h = outcome_lightens (unary_given operator (newest named s)) (popped s) w (omega (arith, h))
  frame_lightens bodies (frame.Fills items) s w b none h = items_lighten items s w (omega (arith, h))
  frame_lightens bodies (frame.Copies first t) s w b none h =
      copies_lighten (newest named s) first (width_of types t) (look s.heap (newest named s)) (popped s) w (omega (arith, h))
  frame_lightens bodies (frame.Creates access count) s w b none h =
      new_lightens access count (words_of types access) (home_of access s.masters) s w (omega (arith, h))
  frame_lightens bodies (frame.Stores x) s w b none h = omega (arith, h)
  frame_lightens bodies (frame.Targets c right) s w b none h =
      target_lightens (newest named s) c right (look s.heap (newest named s)) (popped s) w (omega (arith, h))
  frame_lightens bodies (frame.StoresIn object c) s w b none h =
      store_lightens object c (newest named s) (look s.heap object) (popped s) w (omega (arith, h))
  frame_lightens bodies (frame.TargetsRecord first t items) s w b none h =
      record_target_lightens (newest named s) first (width_of types t) items (look s.heap (newest named s)) (popped s) w (omega (arith, h))
  frame_lightens bodies (frame.StoresRecord object first count) s w b none h =
      store_record_lightens object first count (look s.heap object) s w (omega (arith, h))
  frame_lightens bodies (frame.Assigns t) s w b none h =
      let target = newest named (popped s) in
      let source = newest named s in
      assigns_lighten t target source (same target source) (popped (popped s)) w (omega (arith, h))
  frame_lightens bodies (frame.Receives c) s w b none h =
      receive_lightens (newest named s) c (look s.heap (newest named s)) (popped s) w (omega (arith, h))
  frame_lightens bodies (frame.FreesIn access c) s w b none h =
      free_in_lightens access (newest named s) c (look s.heap (newest named s)) (popped s) w (omega (arith, h))
  frame_lightens bodies (frame.Declares x) s w b none h = omega (arith, h, masters_owning (record { number = height s.masters; owned = declared x }) s.masters)
  frame_lightens bodies (frame.DeclaresRecord x t) s w b none h =
      made_lightens x t Copy (newest_ones named (words_of types t) s) (without_newest named (words_of types t) s) w (omega (arith, h))
  frame_lightens bodies (frame.Treats v treatment tasks) s w b none h = treats_lightens bodies v treatment tasks s w none (omega (arith, h))
  frame_lightens bodies (frame.Awaits v by done of part tasks) s w b none h =
      awaited_lightens v by done of part tasks (look s.heap v) s w (omega (arith, h))
  frame_lightens bodies frame.Confines s w b none h = omega (arith, h)
  frame_lightens bodies (frame.Resumes mode) s w b none h = omega (arith, h)
  frame_lightens bodies frame.Writes s w b none h = line_lightens (reads_integer (newest named s)) (popped s) w (omega (arith, h))
  frame_lightens bodies (frame.Ends v) s w b none h = end_lightens v (look s.heap v) s w (omega (arith, h))
  frame_lightens bodies (frame.GivesBack v cause pool) s w b none h = back_lightens v cause pool (lent s.heap v) s w (omega (arith, h))
  frame_lightens bodies (frame.Clears x) s w b none h = omega (arith, h)
  frame_lightens bodies (frame.ClearsIn object c) s w b none h = store_lightens object c Null (look s.heap object) s w (omega (arith, h))

  running_lightens :
      (bodies : List BodyForm) (k : List (Frame Value)) (s : State) (w : ℕ) → begins_among k ≡ false → calls_among types k ≡ false
      → stored s + run_weight types k ≤ w → Lightens (running_next named types bodies k (running s)) w
  running_lightens bodies [] s w b none h = λ memory. cc
  running_lightens bodies (f ∷ k) s w b none h = frame_lightens bodies f (at k s) w b none h

  -- Where a jump comes out of an operation, what has begun of its object is undone, or the run ends.
  done_weight : (done : List Part) → tasks_weight (shapes_of types) (map (λ p. performs p.of p.number) done) ≡ length done
  done_weight [] = refl
  done_weight (p ∷ done) = omega (arith, done_weight done)

  undo_lightens :
      (e : Exception) (v : Value) (done : List Part) (found : Found (Cell Value)) (s : State) (w : ℕ)
      → stored s + passed_weight s.control + 5 + length done ≤ w → Lightens (undo_next named e v done found (in_mode (Raising e) s)) w
  undo_lightens e v done on_null s w h = λ memory. cc
  undo_lightens e v done on_gone s w h = λ memory. cc
  undo_lightens e v done on_other s w h = λ memory. cc
  undo_lightens e v done (finds cell) s w h =
      let behind = frame.Ends v ∷ frame.GivesBack v (Undoing s.next) cell.home.pool ∷ frame.Resumes (Raising e) ∷ s.control in
      let finalizes = treating_weight types v (frame.ends (Undoing s.next)) (map (λ p. performs p.of p.number) done) behind in
      omega (arith, h, parted_lighter types s.heap v, finalizes, done_weight done)

  broken_lightens :
      (e : Exception) (v : Value) (by : Birth) (done : List Part) (s : State) (w : ℕ)
      → stored s + passed_weight s.control + 5 + length done ≤ w → Lightens (broken_next named e v by done (in_mode (Raising e) s)) w
  broken_lightens e v Creation done s w h = undo_lightens e v done (look s.heap v) s w h
  broken_lightens e v Copy done s w h = λ memory. cc
  broken_lightens e v (Adjustment number) done s w h = λ memory. cc

  -- A frame that an exception passes: a master is to be left before, it lands in handlers alone, and what it undoes has its weight.
  abbrev LandsIn : (handlers : Bool) → (undone : ℕ) → Landing Value → Type 0
  LandsIn handlers undone passes_on = Unit {0}
  LandsIn handlers undone goes_behind = ⊥
  LandsIn handlers undone (goes_in fs) = handlers ≡ true
  LandsIn handlers undone (breaks_off v by done) = undone ≡ 4 + length done
  LandsIn handlers undone escapes = Unit {0}

  handler_lands : (undone : ℕ) (taken : Option StmtsForm) → LandsIn true undone (handler_landing taken)
  handler_lands undone None = tt
  handler_lands undone (Some fs) = refl

  exception_lands : (e : Exception) (f : Frame Value) → LandsIn (has_handlers f) (undone_behind f) (exception_landing e f)
  exception_lands e (frame.Handles hs) = handler_lands 0 (handler_of e hs)
  exception_lands e (frame.Awaits v by done of part tasks) = refl
  exception_lands e f = tt

  raise_lightens :
      (master handlers : Bool) (undone : ℕ) (l : Landing Value) (e : Exception) (s : State) (w : ℕ) → LandsIn handlers undone l
      → load (in_mode (Raising e) s) + (if master || handlers then 2 else 1) + undone ≤ w
      → Lightens (pass_next named master l (Raising e) (in_mode (Raising e) s)) w
  raise_lightens true handlers undone l e s w lands h = omega (arith, h)
  raise_lightens false true undone passes_on e s w lands h = omega (arith, h)
  raise_lightens false true undone goes_behind e s w lands h = absurd lands
  raise_lightens false true undone (goes_in no_stmts) e s w lands h = λ memory. cc
  raise_lightens false true undone (goes_in (a_stmt f fs)) e s w lands h = omega (arith, h)
  raise_lightens false true undone (breaks_off v by done) e s w lands h = broken_lightens e v by done s w (omega (arith, h, lands))
  raise_lightens false true undone escapes e s w lands h = λ memory. cc
  raise_lightens false false undone passes_on e s w lands h = omega (arith, h)
  raise_lightens false false undone goes_behind e s w lands h = absurd lands
  raise_lightens false false undone (goes_in fs) e s w lands h = absurd (cc)
  raise_lightens false false undone (breaks_off v by done) e s w lands h = broken_lightens e v by done s w (omega (arith, h, lands))
  raise_lightens false false undone escapes e s w lands h = λ memory. cc

  -- A frame that an exit or a return passes: behind a loop, or behind the end of a call's body, it lands; out of an operation it doesn't come.
  abbrev LandsNowhere : Landing Value → Type 0
  LandsNowhere passes_on = Unit {0}
  LandsNowhere goes_behind = ⊥
  LandsNowhere (goes_in fs) = ⊥
  LandsNowhere (breaks_off v by done) = Unit {0}
  LandsNowhere escapes = Unit {0}

  operation_lands : (f : Frame Value) → LandsNowhere (operation_landing f)
  operation_lands (frame.Awaits v by done of part tasks) = tt
  operation_lands frame.Confines = tt
  operation_lands f = tt

  nowhere_exits :
      (l : Landing Value) (s : State) (w : ℕ) → LandsNowhere l → stored s + exit_weight types s.control < w
      → Lightens (landed named l Exiting (in_mode Exiting s)) w
  nowhere_exits passes_on s w lands h = h
  nowhere_exits goes_behind s w lands h = absurd lands
  nowhere_exits (goes_in fs) s w lands h = absurd lands
  nowhere_exits (breaks_off v by done) s w lands h = λ memory. cc
  nowhere_exits escapes s w lands h = λ memory. cc

  nowhere_returns :
      (l : Landing Value) (s : State) (w : ℕ) → LandsNowhere l → stored s + return_weight types s.control < w
      → Lightens (landed named l Returning (in_mode Returning s)) w
  nowhere_returns passes_on s w lands h = h
  nowhere_returns goes_behind s w lands h = absurd lands
  nowhere_returns (goes_in fs) s w lands h = absurd lands
  nowhere_returns (breaks_off v by done) s w lands h = λ memory. cc
  nowhere_returns escapes s w lands h = λ memory. cc

  exit_lightens :
      (master handlers loop : Bool) (l : Landing Value) (s : State) (w : ℕ) → (master ≡ true → loop ≡ false) → LandsNowhere l
      → stored s + (if master || handlers then 2 else 1) + (if loop then run_weight types s.control else exit_weight types s.control) ≤ w
      → Lightens (pass_next named master (if loop then goes_behind else l) Exiting (in_mode Exiting s)) w
  exit_lightens true handlers true l s w apart lands h = let never : true ≡ false = apart refl in absurd (cc)
  exit_lightens true handlers false l s w apart lands h = omega (arith, h)
  exit_lightens false true true l s w apart lands h = omega (arith, h)
  exit_lightens false true false l s w apart lands h = nowhere_exits l s w lands (omega (arith, h))
  exit_lightens false false true l s w apart lands h = omega (arith, h)
  exit_lightens false false false l s w apart lands h = nowhere_exits l s w lands (omega (arith, h))

  return_lightens :
      (master handlers ends : Bool) (l : Landing Value) (s : State) (w : ℕ) → (master ≡ true → ends ≡ false) → LandsNowhere l
      → stored s + (if master || handlers then 2 else 1) + (if ends then run_weight types s.control else return_weight types s.control) ≤ w
      → Lightens (pass_next named master (if ends then goes_behind else l) Returning (in_mode Returning s)) w
  return_lightens true handlers true l s w apart lands h = let never : true ≡ false = apart refl in absurd (cc)
  return_lightens true handlers false l s w apart lands h = omega (arith, h)
  return_lightens false true true l s w apart lands h = omega (arith, h)
  return_lightens false true false l s w apart lands h = nowhere_returns l s w lands (omega (arith, h))
  return_lightens false false true l s w apart lands h = omega (arith, h)
  return_lightens false false false l s w apart lands h = nowhere_returns l s w lands (omega (arith, h))

  -- Where a frame is passed, what is left is what was left, and behind the end of a call's body besides what goes back to components.
  raised_left : (e : Exception) (f : Frame Value) (s : State) → (unwound named (Raising e) f s).control ≡ s.control
  raised_left e (frame.Returns actuals references) s = refl
  raised_left e f s = refl

  exited_left : (f : Frame Value) (s : State) → (unwound named Exiting f s).control ≡ s.control
  exited_left (frame.Returns actuals references) s = refl
  exited_left f s = refl

  -- The weight of what is left where an exit, or a return, has passed a frame.
  abbrev behind_exit : (loop : Bool) → List (Frame Value) → ℕ
  behind_exit loop k = if loop then run_weight types k else exit_weight types k

  abbrev behind_return : (ends : Bool) → List (Frame Value) → ℕ
  behind_return ends k = if ends then run_weight types k else return_weight types k

  returned_left :
      (f : Frame Value) (s : State) → behind_return (is_return f) (unwound named Returning f s).control ≤ stored_behind f + behind_return (is_return f) s.control
  returned_left (frame.Returns actuals references) s = omega (arith, storing_weight references s.control)
  returned_left f s = omega arith

  -- What is left to do, in each mode.
  control_lightens :
      (bodies : List BodyForm) (mode : Mode) (k : List (Frame Value)) (s : State) (w : ℕ) → begins_in mode k ≡ false
      → (mode ≡ Running → calls_among types k ≡ false) → load (in_mode mode (at k s)) ≤ w → s.control ≡ k
      → Lightens (mode_next named types bodies mode (in_mode mode s)) w
  control_lightens bodies Running k s w b none h is = rw is (running_lightens bodies k (at k s) w b (none refl) h)
  control_lightens bodies (Raising e) [] s w b none h is = rw is (λ memory. cc)
  control_lightens bodies (Raising e) (f ∷ k) s w b none h is =
      rw (is, unwound_by (Raising e) f (in_mode (Raising e) (at k s)))
      (raise_lightens (is_master f) (has_handlers f) (undone_behind f) (exception_landing e f) e (unwound_to (Raising e) f (in_mode (Raising e) (at k s))) w (exception_lands e f)
      (omega (arith, h, ap passed_weight (raised_left e f (in_mode (Raising e) (at k s))))))
  control_lightens bodies Exiting [] s w b none h is = rw is (λ memory. cc)
  control_lightens bodies Exiting (f ∷ k) s w b none h is =
      rw (is, unwound_by Exiting f (in_mode Exiting (at k s)))
      (exit_lightens (is_master f) (has_handlers f) (is_loop f) (operation_landing f) (unwound_to Exiting f (in_mode Exiting (at k s))) w (master_no_loop f)
      (operation_lands f)
      (omega (arith, h, ap (behind_exit (is_loop f)) (exited_left f (in_mode Exiting (at k s))))))
  control_lightens bodies Returning [] s w b none h is = rw is (λ memory. cc)
  control_lightens bodies Returning (f ∷ k) s w b none h is =
      rw (is, unwound_by Returning f (in_mode Returning (at k s)))
      (return_lightens (is_master f) (has_handlers f) (is_return f) (operation_landing f) (unwound_to Returning f (in_mode Returning (at k s))) w
      (master_no_return f) (operation_lands f)
      (omega (arith, h, returned_left f (in_mode Returning (at k s)))))

  next_lightens : (bodies : List BodyForm) (s : State) → begins s ≡ false → (s.mode ≡ Running → calls_among types s.control ≡ false)
      → Lightens (next types bodies s) (load s)
  unfolding next
  next_lightens bodies s b none = control_lightens bodies s.mode s.control s (load s) b none (omega arith) refl

  leads_lighter : (coming : Next) (choice : Choice) (event : Event) (w : ℕ) (after : State) → Lightens coming w → Leads coming choice event after → load after < w
  leads_lighter (halts halt) choice event w after h l = absurd l
  leads_lighter (moves e s) settled event w after h l = rw (l.1) h
  leads_lighter (moves e s) (grants granted) event w after h l = absurd l
  leads_lighter (moves e s) (takes i) event w after h l = absurd l
  leads_lighter (tells request e s) settled event w after h l = rw (l.1) h
  leads_lighter (tells request e s) (grants granted) event w after h l = absurd l
  leads_lighter (tells request e s) (takes i) event w after h l = absurd l
  leads_lighter (asks request answers) settled event w after h l = absurd l
  leads_lighter (asks request answers) (grants granted) event w after h l = rw (l.1) (h granted)
  leads_lighter (asks request answers) (takes i) event w after h l = absurd l
  leads_lighter (picks n taking) settled event w after h l = absurd l
  leads_lighter (picks n taking) (grants granted) event w after h l = absurd l
  leads_lighter (picks n taking) (takes i) event w after h l = rw (l.2) (h.1 i l.0)

-- Each step that begins no statement and calls no operation makes the state lighter.
pub steps_make_lighter :
    (program : Program) (s : State) (choice : Choice) (event : Event) (after : State) → begins s ≡ false
    → calls_operation program.types.items s ≡ false → Step program s choice event after
    → weight program.types.items after < weight program.types.items s
unfolding weight
steps_make_lighter program s choice event after b none step =
    leads_lighter program.types.items (next program.types.items (body_forms program) s) choice event (load program.types.items s) after
    (next_lightens program.types.items (body_forms program) s b
    (λ runs. subst (λ (mode : Mode). calls_in program.types.items mode s.control ≡ false) runs none)) step

-- A program whose types override nothing calls no operation.
task_calls_none :
    (types : List TypeDefinition) (treatment : Treatment) (follows : Follows) → OverridesNothing types → task_calls types treatment follows ≡ false
task_calls_none types treatment Done inherits = refl
task_calls_none types treatment (Pick count) inherits = refl
task_calls_none types (frame.begins Creation done) (Perform of part) inherits = ap (λ (o : Operations). is_some (beginning Creation o)) (inherits of)
task_calls_none types (frame.begins Copy done) (Perform of part) inherits = ap (λ (o : Operations). is_some (beginning Copy o)) (inherits of)
task_calls_none types (frame.begins (Adjustment n) done) (Perform of part) inherits =
    ap (λ (o : Operations). is_some (beginning (Adjustment n) o)) (inherits of)
task_calls_none types (frame.ends cause) (Perform of part) inherits = ap (λ (o : Operations). is_some o.finalize) (inherits of)

frame_calls_none : (types : List TypeDefinition) (f : Frame Value) → OverridesNothing types → frame_calls types f ≡ false
frame_calls_none types (frame.Treats v treatment tasks) inherits = task_calls_none types treatment (task_next tasks) inherits
frame_calls_none types f inherits = refl

among_none : (types : List TypeDefinition) (k : List (Frame Value)) → OverridesNothing types → calls_among types k ≡ false
among_none types [] inherits = refl
among_none types (f ∷ k) inherits = frame_calls_none types f inherits

pub nothing_is_called : NothingIsCalled
nothing_is_called types s inherits = go s.mode
  where
    go : (mode : Mode) → calls_in types mode s.control ≡ false
    go Running = among_none types s.control inherits
    go (Raising e) = refl
    go Exiting = refl
    go Returning = refl

-- So as many steps as the first state's weight follow one another at most before a statement begins.
pub statements_end : StatementsEnd
statements_end program inherits s last events here = omega arith
statements_end program inherits s last (e ∷ events) (there choice mid b step rest) =
    let lighter = steps_make_lighter program s choice e mid b (nothing_is_called program.types.items s inherits) step in
    omega (arith, statements_end program inherits mid last events rest, lighter)

lighter_goes_on : (types : List TypeDefinition) (coming : Next) (w : ℕ) → Lightens types coming w → GoesOn coming
lighter_goes_on types (halts halt) w h = h
lighter_goes_on types (moves e s) w h = tt
lighter_goes_on types (tells request e s) w h = tt
lighter_goes_on types (asks request answers) w h = tt
lighter_goes_on types (picks n taking) w h = h.0

-- A statement that begins goes on.
component_goes_on : (v : Value) (cs : List ℕ) (found : Option Value) (s : State) → GoesOn (component_next named v cs found s)
component_goes_on v cs None s = λ memory. cc
component_goes_on v cs (Some u) s = tt

follow_goes_on : (v : Value) (c : ℕ) (cs : List ℕ) (found : Found (Cell Value)) (s : State) → GoesOn (follow_next named v c cs found s)
follow_goes_on v c cs on_null s = tt
follow_goes_on v c cs on_gone s = λ memory. cc
follow_goes_on v c cs on_other s = λ memory. cc
follow_goes_on v c cs (finds cell) s = component_goes_on v cs (slice_get cell.values c) s

path_goes_on : (cs : List ℕ) (v : Value) (s : State) → GoesOn (path_next named cs v s)
path_goes_on [] v s = tt
path_goes_on (c ∷ cs) v s = follow_goes_on v c cs (look s.heap v) s

holder_goes_on : (c : ℕ) (cs : List ℕ) (x : ℕ) (frame_of : ℕ → Frame Value) (s : State) → GoesOn (holder_next named c cs x frame_of s)
holder_goes_on c cs x frame_of s =
    let first = inside (held named s x) c in
    path_goes_on (before_last first cs) (whole (held named s x)) (at (frame_of (last_of first cs) ∷ s.control) s)

record_holder_goes_on : (p : RecordPathForm) (frame_of : Place → Frame Value) (s : State) → GoesOn (record_holder_next named p frame_of s)
record_holder_goes_on p frame_of s =
    let v = held named s p.object.root in
    path_goes_on (selected named v p.object.selectors) (whole v) (at (frame_of (place_in named v p.object.selectors p) ∷ s.control) s)

assign_goes_on : (cs : List ℕ) (x : ℕ) (right : RightForm) (s : State) → GoesOn (assign_next named cs x right s)
assign_goes_on [] x right s = tt
assign_goes_on (c ∷ cs) x right s = holder_goes_on c cs x (λ last. frame.Targets last right) s

copy_goes_on : (target : RecordPathForm) (items : List ItemForm) (s : State) → GoesOn (copy_next named target items s)
copy_goes_on target [] s = λ memory. cc
copy_goes_on target (null_item ∷ is) s = λ memory. cc
copy_goes_on target (item_of_path path ∷ is) s = λ memory. cc
copy_goes_on target (item_of_value e ∷ is) s = λ memory. cc
copy_goes_on target (item_of_record source ∷ []) s = tt
copy_goes_on target (item_of_record source ∷ i ∷ is) s = λ memory. cc

record_assign_goes_on : (parts : Bool) (target : RecordPathForm) (items : List ItemForm) (s : State) → GoesOn (record_assign_next named parts target items s)
record_assign_goes_on true target items s = copy_goes_on target items s
record_assign_goes_on false target items s =
    record_holder_goes_on target (λ place. frame.TargetsRecord place.component target.record_type items) s

freeing_goes_on :
    (types : List TypeDefinition) (access : ℕ) (v : Value) (cell : Cell Value) (clears : Frame Value) (event : Event) (s : State)
    → GoesOn (freeing_next named types access v cell clears event s)
freeing_goes_on types access v cell clears event s = by_pool (same_pool (Some (pool_freed_to (home_of access s.masters))) cell.home.pool)
  where
    by_pool : (own : Bool) → GoesOn (if own then moves event (freeing named types access v cell clears s) else halts (Erroneous GivesElsewhere))
    by_pool true = tt
    by_pool false = λ memory. cc

free_goes_on :
    (types : List TypeDefinition) (access x : ℕ) (v : Value) (found : Found (Cell Value)) (s : State)
    → GoesOn (free_next named types access x v found s)
free_goes_on types access x v on_null s = tt
free_goes_on types access x v on_gone s = λ memory. cc
free_goes_on types access x v on_other s = λ memory. cc
free_goes_on types access x v (finds cell) s = freeing_goes_on types access v cell (frame.Clears x) Quiet s

frees_go_on : (types : List TypeDefinition) (cs : List ℕ) (access x : ℕ) (s : State) → GoesOn (frees_next named types cs access x s)
frees_go_on types [] access x s = free_goes_on types access x (held named s x) (standing s.heap (held named s x)) s
frees_go_on types (c ∷ cs) access x s = holder_goes_on c cs x (λ last. frame.FreesIn access last) s

branches_go_on : (branches : BranchesForm) (s : State) → GoesOn (branches_next named branches s)
branches_go_on (otherwise fs) s = tt
branches_go_on (a_branch e fs branches) s = tt

gets_go_on : (cs : List ℕ) (x : ℕ) (input : List ℤ) (s : State) → GoesOn (gets_next named cs x input s)
gets_go_on (c ∷ cs) x input s = holder_goes_on c cs x frame.Receives s
gets_go_on [] x [] s = tt
gets_go_on [] x (i ∷ is) s = tt

exit_goes_on : (condition : Option ExpressionForm) (s : State) → GoesOn (exit_next named condition s)
exit_goes_on None s = tt
exit_goes_on (Some e) s = tt

call_goes_on : (procedure : ℕ) (actuals : List ActualForm) (body : Option BodyForm) (s : State) → GoesOn (call_next named procedure actuals body s)
call_goes_on procedure actuals None s = λ memory. cc
call_goes_on procedure actuals (Some b) s = tt

stmt_goes_on : (types : List TypeDefinition) (bodies : List BodyForm) (f : StmtForm) (s : State) → GoesOn (stmt_next named types bodies f s)
stmt_goes_on types bodies skips s = tt
stmt_goes_on types bodies (assigns target right) s = assign_goes_on target.selectors target.root right s
stmt_goes_on types bodies (assigns_record target items) s = record_assign_goes_on (has_parts types target.record_type) target items s
stmt_goes_on types bodies (frees access path) s = frees_go_on types path.selectors access path.root s
stmt_goes_on types bodies (gets target) s = gets_go_on target.selectors target.root s.input s
stmt_goes_on types bodies (writes e) s = tt
stmt_goes_on types bodies (writes_text text) s = tt
stmt_goes_on types bodies (chooses branches) s = branches_go_on branches s
stmt_goes_on types bodies (repeats condition fs end_spot) s = tt
stmt_goes_on types bodies (counts x low high fs end_spot) s = tt
stmt_goes_on types bodies (exits condition spot) s = exit_goes_on condition s
stmt_goes_on types bodies (calls procedure actuals) s = call_goes_on procedure actuals (slice_get bodies procedure) s
stmt_goes_on types bodies (returns spot) s = tt
stmt_goes_on types bodies (raises e) s = tt
stmt_goes_on types bodies (encloses ds fs hs) s = tt

begun_goes_on : (types : List TypeDefinition) (bodies : List BodyForm) (s : State) → BeginsStatement s → GoesOn (next types bodies s)
unfolding next
begun_goes_on types bodies s b =
    rw (b.runs, b.first) (stmt_goes_on types bodies b.stmt (running (at (frame.Does b.later ∷ b.outer) s)))

-- An operation that is called goes on.
operated_goes_on : (before : List (Activation Value)) (coming : Next) → Operates before coming → GoesOn coming
operated_goes_on before (halts halt) operates = operates
operated_goes_on before (moves e s) operates = tt
operated_goes_on before (tells request e s) operates = tt
operated_goes_on before (asks request answers) operates = tt
operated_goes_on before (picks n taking) operates = absurd operates

operating_goes_on :
    (types : List TypeDefinition) (bodies : List BodyForm) (f : Frame Value) (s : State) → frame_calls types f ≡ true
    → GoesOn (frame_next named types bodies f s)
operating_goes_on types bodies (frame.Treats v treatment tasks) s some =
    operated_goes_on s.activations (treats_next named types bodies v treatment tasks (task_next tasks) s)
    (treats_operate types bodies v treatment tasks (task_next tasks) s some)
operating_goes_on types bodies f s some = absurd (cc)

among_goes_on :
    (types : List TypeDefinition) (bodies : List BodyForm) (k : List (Frame Value)) (s : State) → calls_among types k ≡ true
    → GoesOn (running_next named types bodies k s)
among_goes_on types bodies [] s some = absurd (cc)
among_goes_on types bodies (f ∷ k) s some = operating_goes_on types bodies f (at k s) some

called_goes_on :
    (types : List TypeDefinition) (bodies : List BodyForm) (s : State) (called : Bool) → s.mode ≡ Running → begins s ≡ false
    → calls_among types s.control ≡ called → GoesOn (next types bodies s)
unfolding next
called_goes_on types bodies s true runs b some = rw runs (among_goes_on types bodies s.control (running s) some)
called_goes_on types bodies s false runs b none =
    lighter_goes_on types (next types bodies s) (load types s) (next_lightens types bodies s b (λ running. none))

other_goes_on : (types : List TypeDefinition) (bodies : List BodyForm) (s : State) → s.mode ≢ Running → begins s ≡ false → GoesOn (next types bodies s)
other_goes_on types bodies s jumps b =
    lighter_goes_on types (next types bodies s) (load types s) (next_lightens types bodies s b (λ running. absurd (jumps running)))

mode_goes_on :
    (types : List TypeDefinition) (bodies : List BodyForm) (s : State) (mode : Mode) → s.mode ≡ mode → begins s ≡ false → GoesOn (next types bodies s)
mode_goes_on types bodies s Running runs b = called_goes_on types bodies s (calls_among types s.control) runs b refl
mode_goes_on types bodies s (Raising e) jumps b = other_goes_on types bodies s (λ runs. cc) b
mode_goes_on types bodies s Exiting jumps b = other_goes_on types bodies s (λ runs. cc) b
mode_goes_on types bodies s Returning jumps b = other_goes_on types bodies s (λ runs. cc) b

either_goes_on : (types : List TypeDefinition) (bodies : List BodyForm) (s : State) (begun : Bool) → begins s ≡ begun → GoesOn (next types bodies s)
either_goes_on types bodies s true b = begun_goes_on types bodies s ((statements_begin s).0 b)
either_goes_on types bodies s false b = mode_goes_on types bodies s s.mode refl b

-- A state has a step for whatever is answered, or halts, and not for want of memory.
pub states_go_on : (program : Program) (s : State) → GoesOn (next program.types.items (body_forms program) s)
states_go_on program s = either_goes_on program.types.items (body_forms program) s (begins s) refl
