-- Each step of a simple body leaves it so.

use Rattle.std.proofs.Common.{◌≡◌, ℕ, Bool, true, false, List, [], ◌∷◌, Option, Some, None, Result, Ok, Err, refl, sym, subst}
use Rattle.std.specs.Prelude.{ℤ, int_le, if◌then◌else◌}
use Rattle.std.specs.List.{slice_get, slice_index_or}
use Rattle.ada_values.specs.declared.operator.BinaryOperator.{BinaryOperator}
use Rattle.ada_values.specs.declared.fault.OperatorFault.{OperatorFault}
use Rattle.ada_values.specs.declared.fault.OperatorFault.TheVariants.{Overflow, DivisionByZero, WrongType}
use Rattle.ada_program.specs.declared.program.Exception.{Exception}
use Rattle.ada_program.specs.declared.program.TypeDefinition.{TypeDefinition}
use Rattle.ada_program.specs.Form.{PathForm, ExpressionForm, integer, boolean, reads, is_null, applied_to, chained, LinksForm, no_more_links, a_link, ItemForm, null_item, item_of_path, item_of_value, item_of_record, RightForm, nothing, value_of, allocates, allocates_default, computes, StmtForm, skips, assigns, assigns_record, frees, gets, writes, writes_text, chooses, repeats, counts, exits, calls, returns, raises, encloses, StmtsForm, no_stmts, a_stmt, BranchesForm, otherwise, a_branch, HandlersForm, no_handlers, a_handler, DeclarationForm, creates_pool, collects, declares, declares_record}
use Rattle.ada_program.specs.Handling.{some_takes, handler_of}
use Rattle.ada_program.specs.ProgramForm.{BodyForm}
use Rattle.ada_program.specs.Typed.{words_of, width_of}
use Rattle.ada_parts.specs.declared.tasks.Direction.TheVariants.{PartsFirst, WholeFirst}
use Rattle.ada_parts.specs.Task.{Task}
use Rattle.ada_meaning.specs.declared.event.Birth.TheVariants.{Creation}
use Rattle.ada_meaning.specs.declared.event.Cause.{Cause}
use Rattle.ada_meaning.specs.declared.event.Cause.TheVariants.{Freeing, Leaving}
use Rattle.ada_meaning.specs.declared.event.Halt.TheVariants.{Erroneous}
use Rattle.ada_meaning.specs.declared.event.Why.TheVariants.{GivesElsewhere}
use Rattle.ada_meaning.specs.declared.state.Mode.{Mode}
use Rattle.ada_meaning.specs.declared.state.Mode.TheVariants.{Running, Raising, Exiting, Returning}
use Rattle.ada_meaning.specs.declared.state.Value.{Value}
use Rattle.ada_meaning.specs.Event.{Event, Back, Followed, Quiet}
use Rattle.ada_meaning.specs.Frame.{Treatment, begins, ends, Frame, is_master, Landing, passes_on, goes_behind, handler_landing, exit_landing, return_landing, exception_landing, landing}
use Rattle.ada_meaning.specs.Frame as frame
use Rattle.ada_meaning.specs.State.{Destination, Item, Master, Owned, declared, collection, record_object, storage_pool, home_of, pool_freed_to}
use Rattle.ada_meaning.specs.Heap.{Cell, Found, on_null, on_gone, on_other, finds}
use Rattle.ada_meaning.specs.Step.{moves, halts, all_tasks, treating, same_pool, freeing, at, newest, popped, held, reading, component_next, follow_next, path_next, selected, before_last, last_of, named_next, holder_next, expression_next, null_test_next, is_decided, link_next, links_next, outcome_next, items_next, record_in, place_in, copied_next, copies_next, newest_ones, without_newest, record_assign_next, record_target_next, record_stored_next, store_record_next, answered, new_next, right_next, freeing_next, free_next, end_next, told_back, given_back, back_next, assign_next, target_next, stored_next, store_next, frees_next, freed_next, free_component_next, free_in_next, branches_next, decided_next, turn_next, repeats_next, turned_next, count_turn_next, ranges_next, gets_next, received_next, receive_next, exit_next, exited_next, stmt_next, stmts_next, line_next, declarations_next, taken_out, members_next, item_leave_next, master_leave_next, leave_next, frame_next, landed, pass_next}
use Rattle.ada_meaning.specs.Named.{State, named, whole, inside, look, lent, standing, returned, on_object, reads_integer, reads_boolean, reads_null, unary_given, binary_given, next}
use Rattle.ada_tracked.specs.Simple.{IsVariable, IsFrom, ExpressionIsSimple, LinksAreSimple, ConditionIsSimple, ItemsAreSimple, RightIsSimple, DeclarationsAreSimple, StatementIsSimple, StatementsAreSimple, BranchesAreSimple, HandlersAreSimple, FrameIsSimple}
use Rattle.ada_tracked.specs.Copying.{StatementsAssignBare, FirstAssignsBare}
use Rattle.ada_tracked.proofs.Jumps.{in_each_mode, jump_at}
use Rattle.ada_tracked.specs.Staying.{BodyIsSimple, IsWithinBody, StaysSimple, at_once, behind_treatment, AllStaySimple, SimpleBodiesStaySimple}

-- What is done to the controlled parts of an object comes first, if there are any.
treating_stays : (first : ℕ) (v : Value) (treatment : Treatment) (tasks : List Task) (k : List (Frame Value)) → BodyIsSimple first k → StaysSimple first (treating v treatment tasks k)
treating_stays first v treatment [] k h = at_once h
treating_stays first v treatment (task ∷ tasks) k h = behind_treatment v treatment (task ∷ tasks) k refl h

module _ (types : List TypeDefinition) (bodies : List BodyForm) (first : ℕ) where
  -- Paths.
  reading_stays : (cs : List ℕ) (v : Value) (s : State) → BodyIsSimple first s.control → StaysSimple first (reading named cs v s).control
  reading_stays [] v s h = at_once h
  reading_stays (c ∷ cs) v s h = at_once (tt, h)

  component_stays : (v : Value) (cs : List ℕ) (found : Option Value) (s : State) → BodyIsSimple first s.control → AllStaySimple first (component_next named v cs found s)
  component_stays v cs None s h = tt
  component_stays v cs (Some u) s h = reading_stays cs u s h

  follow_stays : (v : Value) (c : ℕ) (cs : List ℕ) (found : Found (Cell Value)) (s : State) → BodyIsSimple first s.control → AllStaySimple first (follow_next named v c cs found s)
  follow_stays v c cs on_null s h = at_once h
  follow_stays v c cs on_gone s h = tt
  follow_stays v c cs on_other s h = tt
  follow_stays v c cs (finds cell) s h = component_stays v cs (slice_get cell.values c) s h

  path_stays : (cs : List ℕ) (v : Value) (s : State) → BodyIsSimple first s.control → AllStaySimple first (path_next named cs v s)
  path_stays [] v s h = at_once h
  path_stays (c ∷ cs) v s h = follow_stays v c cs (look s.heap v) s h

  named_stays : (cs : List ℕ) (x : ℕ) (s : State) → BodyIsSimple first s.control → AllStaySimple first (named_next named cs x s)
  named_stays cs x s h = path_stays (selected named (held named s x) cs) (whole (held named s x)) s h

  holder_stays : (c : ℕ) (cs : List ℕ) (x : ℕ) (frame_of : ℕ → Frame Value) (s : State) → ((n : ℕ) → BodyIsSimple first (frame_of n ∷ s.control)) → AllStaySimple first (holder_next named c cs x frame_of s)
  holder_stays c cs x frame_of s each =
      path_stays (before_last (inside (held named s x) c) cs) (whole (held named s x))
      (at (frame_of (last_of (inside (held named s x) c) cs) ∷ s.control) s) (each (last_of (inside (held named s x) c) cs))

  -- Expressions.
  expression_stays : (e : ExpressionForm) (s : State) → ExpressionIsSimple first e → BodyIsSimple first s.control → AllStaySimple first (expression_next named e s)
  expression_stays (integer i) s simple h = at_once h
  expression_stays (boolean b) s simple h = at_once h
  expression_stays (reads path) s simple h = named_stays path.selectors path.root s h
  expression_stays (is_null equal path) s simple h = named_stays path.selectors path.root (at (frame.TestsNull equal ∷ s.control) s) (tt, h)
  expression_stays (applied_to operator e) s simple h = at_once (simple, (tt, h))
  expression_stays (chained e links) s simple h = at_once (simple.0, (simple.1, h))

  null_test_stays : (equal : Bool) (found : Option Bool) (s : State) → BodyIsSimple first s.control → AllStaySimple first (null_test_next named equal found s)
  null_test_stays true None s h = tt
  null_test_stays false None s h = tt
  null_test_stays true (Some null) s h = at_once h
  null_test_stays false (Some null) s h = at_once h

  link_stays : (decided : Bool) (operator : BinaryOperator) (e : ExpressionForm) (links : LinksForm) (s : State) → ExpressionIsSimple first e → LinksAreSimple first links → BodyIsSimple first s.control → AllStaySimple first (link_next named decided operator e links s)
  link_stays true operator e links s one more h = at_once (more, h)
  link_stays false operator e links s one more h = at_once (one, (tt, (more, h)))

  links_stay : (links : LinksForm) (s : State) → LinksAreSimple first links → BodyIsSimple first s.control → AllStaySimple first (links_next named links s)
  links_stay no_more_links s simple h = at_once h
  links_stay (a_link operator e links) s simple h = link_stays (is_decided named operator (reads_boolean (newest named s))) operator e links s simple.0 simple.1 h

  outcome_stays : (given : Result Value OperatorFault) (s : State) → BodyIsSimple first s.control → AllStaySimple first (outcome_next named given s)
  outcome_stays (Ok v) s h = at_once h
  outcome_stays (Err Overflow) s h = at_once h
  outcome_stays (Err DivisionByZero) s h = at_once h
  outcome_stays (Err WrongType) s h = tt

  items_stay : (items : List ItemForm) (s : State) → ItemsAreSimple first items → BodyIsSimple first s.control → AllStaySimple first (items_next named items s)
  items_stay [] s simple h = at_once h
  items_stay (null_item ∷ is) s simple h = at_once (simple.1, h)
  items_stay (item_of_path path ∷ is) s simple h = named_stays path.selectors path.root (at (frame.Fills is ∷ s.control) s) (simple.1, h)
  items_stay (item_of_value e ∷ is) s simple h = at_once (simple.0, (simple.1, h))
  items_stay (item_of_record q ∷ is) s simple h =
      let v = held named s q.object.root in
      path_stays (selected named v q.object.selectors) (whole v)
      (at (frame.Copies (place_in named v q.object.selectors q).component q.record_type ∷ frame.Fills is ∷ s.control) s) (tt, (simple.1, h))

  copied_stays : (v : Value) (found : Option (List Value)) (s : State) → BodyIsSimple first s.control → AllStaySimple first (copied_next named v found s)
  copied_stays v None s h = tt
  copied_stays v (Some vs) s h = at_once h

  copies_stay : (v : Value) (c count : ℕ) (found : Found (Cell Value)) (s : State) → BodyIsSimple first s.control → AllStaySimple first (copies_next named v c count found s)
  copies_stay v c count on_null s h = at_once h
  copies_stay v c count on_gone s h = tt
  copies_stay v c count on_other s h = tt
  copies_stay v c count (finds cell) s h = copied_stays v (record_in cell.values c count) s h

  right_stays : (right : RightForm) (s : State) → RightIsSimple first right → BodyIsSimple first s.control → AllStaySimple first (right_next named types right s)
  right_stays nothing s simple h = at_once h
  right_stays (value_of path) s simple h = named_stays path.selectors path.root s h
  right_stays (allocates access items) s simple h = at_once (simple, (tt, h))
  right_stays (allocates_default access) s simple h = at_once (tt, h)
  right_stays (computes e) s simple h = at_once (simple, h)

  answered_stays : (access count words : ℕ) (home : Destination) (s : State) → BodyIsSimple first s.control → (given : Bool) → StaysSimple first (answered named types access count words home s given).control
  answered_stays access count words home s h true =
      treating_stays first (named.created s.heap words) (begins Creation []) (all_tasks types access PartsFirst) s.control h
  answered_stays access count words home s h false = at_once h

  new_stays : (access count words : ℕ) (home : Option Destination) (s : State) → BodyIsSimple first s.control → AllStaySimple first (new_next named types access count words home s)
  new_stays access count words None s h = at_once h
  new_stays access count words (Some home) s h = answered_stays access count words home s h

  -- What is freed, and what goes.
  freeing_by : (own : Bool) (access : ℕ) (v : Value) (cell : Cell Value) (clears : Frame Value) (e : Event Value) (s : State) → BodyIsSimple first (clears ∷ s.control) → AllStaySimple first (if own then moves e (freeing named types access v cell clears s) else halts (Erroneous GivesElsewhere))
  freeing_by true access v cell clears e s h =
      treating_stays first v (ends (Freeing s.next)) (all_tasks types cell.access WholeFirst)
      (frame.Ends v ∷ frame.GivesBack v (Freeing s.next) (Some (pool_freed_to (home_of access s.masters))) ∷ clears ∷ s.control) (tt, (tt, h))
  freeing_by false access v cell clears e s h = tt

  freeing_stays : (access : ℕ) (v : Value) (cell : Cell Value) (clears : Frame Value) (e : Event Value) (s : State) → BodyIsSimple first (clears ∷ s.control) → AllStaySimple first (freeing_next named types access v cell clears e s)
  freeing_stays access v cell clears e s h = freeing_by (same_pool (Some (pool_freed_to (home_of access s.masters))) cell.home.pool) access v cell clears e s h

  free_stays : (access x : ℕ) (v : Value) (found : Found (Cell Value)) (s : State) → IsVariable first x → BodyIsSimple first s.control → AllStaySimple first (free_next named types access x v found s)
  free_stays access x v on_null s simple h = at_once h
  free_stays access x v on_gone s simple h = tt
  free_stays access x v on_other s simple h = tt
  free_stays access x v (finds cell) s simple h = freeing_stays access v cell (frame.Clears x) Quiet s (simple, h)

  freed_stays : (access : ℕ) (o : Value) (c : ℕ) (v : Value) (found : Found (Cell Value)) (s : State) → BodyIsSimple first s.control → AllStaySimple first (freed_next named types access o c v found s)
  freed_stays access o c v on_null s h = at_once h
  freed_stays access o c v on_gone s h = tt
  freed_stays access o c v on_other s h = tt
  freed_stays access o c v (finds cell) s h = freeing_stays access v cell (frame.ClearsIn o c) (Followed o) s (tt, h)

  component_freed_stays : (access : ℕ) (o : Value) (c : ℕ) (found : Option Value) (s : State) → BodyIsSimple first s.control → AllStaySimple first (free_component_next named types access o c found s)
  component_freed_stays access o c None s h = tt
  component_freed_stays access o c (Some v) s h = freed_stays access o c v (standing s.heap v) s h

  free_in_stays : (access : ℕ) (o : Value) (c : ℕ) (found : Found (Cell Value)) (s : State) → BodyIsSimple first s.control → AllStaySimple first (free_in_next named types access o c found s)
  free_in_stays access o c on_null s h = at_once h
  free_in_stays access o c on_gone s h = tt
  free_in_stays access o c on_other s h = tt
  free_in_stays access o c (finds cell) s h = component_freed_stays access o c (slice_get cell.values c) s h

  frees_stays : (path : PathForm) (access : ℕ) (cs : List ℕ) (s : State) → IsFrom first path.root cs → BodyIsSimple first s.control → AllStaySimple first (frees_next named types cs access path.root s)
  frees_stays path access [] s simple h = free_stays access path.root (held named s path.root) (standing s.heap (held named s path.root)) s simple h
  frees_stays path access (c ∷ cs) s simple h = holder_stays c cs path.root (λ last. frame.FreesIn access last) s (λ n. (tt, h))

  end_stays : (v : Value) (found : Found (Cell Value)) (s : State) → BodyIsSimple first s.control → AllStaySimple first (end_next named v found s)
  end_stays v on_null s h = tt
  end_stays v on_gone s h = tt
  end_stays v on_other s h = tt
  end_stays v (finds cell) s h = at_once h

  told_stays : (pool : Option ℕ) (v : Value) (e : Event Value) (s : State) → BodyIsSimple first s.control → AllStaySimple first (told_back named pool v e s)
  told_stays None v e s h = at_once h
  told_stays (Some pool) v e s h = at_once h

  given_stays : (own : Bool) (v : Value) (cause : Cause) (cell : Cell Value) (s : State) → BodyIsSimple first s.control → AllStaySimple first (if own then given_back named v cause cell s else halts (Erroneous GivesElsewhere))
  given_stays true v cause cell s h =
      told_stays cell.home.pool v (Back v cell.access cell.number cell.home.pool cell.home.subpool cause) (record s { heap = on_object returned s.heap v }) h
  given_stays false v cause cell s h = tt

  back_stays : (v : Value) (cause : Cause) (pool : Option ℕ) (found : Found (Cell Value)) (s : State) → BodyIsSimple first s.control → AllStaySimple first (back_next named v cause pool found s)
  back_stays v cause pool on_null s h = tt
  back_stays v cause pool on_gone s h = tt
  back_stays v cause pool on_other s h = tt
  back_stays v cause pool (finds cell) s h = given_stays (same_pool pool cell.home.pool) v cause cell s h

  -- What is assigned to, stored in and read to.
  assign_stays : (cs : List ℕ) (x : ℕ) (right : RightForm) (s : State) → IsFrom first x cs → RightIsSimple first right → BodyIsSimple first s.control → AllStaySimple first (assign_next named cs x right s)
  assign_stays [] x right s is simple h = at_once (simple, (is, h))
  assign_stays (c ∷ cs) x right s is simple h = holder_stays c cs x (λ last. frame.Targets last right) s (λ n. (simple, h))

  target_stays : (o : Value) (c : ℕ) (right : RightForm) (found : Found (Cell Value)) (s : State) → RightIsSimple first right → BodyIsSimple first s.control → AllStaySimple first (target_next named o c right found s)
  target_stays o c right on_null s simple h = at_once h
  target_stays o c right on_gone s simple h = tt
  target_stays o c right on_other s simple h = tt
  target_stays o c right (finds cell) s simple h = at_once (simple, (tt, h))

  stored_stays : (o : Value) (c : ℕ) (v : Value) (found : Option Value) (s : State) → BodyIsSimple first s.control → AllStaySimple first (stored_next named o c v found s)
  stored_stays o c v None s h = tt
  stored_stays o c v (Some before) s h = at_once h

  store_stays : (o : Value) (c : ℕ) (v : Value) (found : Found (Cell Value)) (s : State) → BodyIsSimple first s.control → AllStaySimple first (store_next named o c v found s)
  store_stays o c v on_null s h = tt
  store_stays o c v on_gone s h = tt
  store_stays o c v on_other s h = tt
  store_stays o c v (finds cell) s h = stored_stays o c v (slice_get cell.values c) s h

  gets_stays : (cs : List ℕ) (x : ℕ) (input : List ℤ) (s : State) → BodyIsSimple first s.control → AllStaySimple first (gets_next named cs x input s)
  gets_stays (c ∷ cs) x input s h = holder_stays c cs x (λ last. frame.Receives last) s (λ n. (tt, h))
  gets_stays [] x [] s h = at_once h
  gets_stays [] x (i ∷ is) s h = at_once h

  received_stays : (o : Value) (c : ℕ) (input : List ℤ) (found : Option Value) (s : State) → BodyIsSimple first s.control → AllStaySimple first (received_next named o c input found s)
  received_stays o c input None s h = tt
  received_stays o c [] (Some before) s h = at_once h
  received_stays o c (i ∷ is) (Some before) s h = at_once h

  receive_stays : (o : Value) (c : ℕ) (found : Found (Cell Value)) (s : State) → BodyIsSimple first s.control → AllStaySimple first (receive_next named o c found s)
  receive_stays o c on_null s h = at_once h
  receive_stays o c on_gone s h = tt
  receive_stays o c on_other s h = tt
  receive_stays o c (finds cell) s h = received_stays o c s.input (slice_get cell.values c) s h

  -- Branches and loops.
  branches_stay : (branches : BranchesForm) (s : State) → BranchesAreSimple first branches → BodyIsSimple first s.control → AllStaySimple first (branches_next named branches s)
  branches_stay (otherwise fs) s simple h = at_once (simple, h)
  branches_stay (a_branch e fs branches) s simple h = at_once (simple.0, ((simple.1, simple.2), h))

  decided_stays : (fs : StmtsForm) (branches : BranchesForm) (truth : Option Bool) (s : State) → StatementsAreSimple first fs → BranchesAreSimple first branches → BodyIsSimple first s.control → AllStaySimple first (decided_next named fs branches truth s)
  decided_stays fs branches None s one more h = tt
  decided_stays fs branches (Some true) s one more h = at_once (one, h)
  decided_stays fs branches (Some false) s one more h = branches_stay branches s more h

  turn_stays : (condition : Option ExpressionForm) (fs : StmtsForm) (s : State) → ConditionIsSimple first condition → StatementsAreSimple first fs → BodyIsSimple first s.control → AllStaySimple first (turn_next named condition fs s)
  turn_stays condition no_stmts s one more h = tt
  turn_stays condition (a_stmt f fs) s one more h = at_once (more, ((one, more), h))

  repeats_stay : (condition : Option ExpressionForm) (fs : StmtsForm) (s : State) → ConditionIsSimple first condition → StatementsAreSimple first fs → BodyIsSimple first s.control → AllStaySimple first (repeats_next named condition fs s)
  repeats_stay None fs s one more h = turn_stays None fs s one more h
  repeats_stay (Some e) fs s one more h = at_once (one, ((one, more), h))

  turned_stays : (e : ExpressionForm) (fs : StmtsForm) (truth : Option Bool) (s : State) → ExpressionIsSimple first e → StatementsAreSimple first fs → BodyIsSimple first s.control → AllStaySimple first (turned_next named e fs truth s)
  turned_stays e fs None s one more h = tt
  turned_stays e fs (Some true) s one more h = turn_stays (Some e) fs s one more h
  turned_stays e fs (Some false) s one more h = at_once h

  count_turn_stays : (x : ℕ) (value last : ℤ) (fs : StmtsForm) (s : State) → IsVariable first x → StatementsAreSimple first fs → BodyIsSimple first s.control → AllStaySimple first (count_turn_next named x value last fs s)
  count_turn_stays x value last no_stmts s one more h = tt
  count_turn_stays x value last (a_stmt f fs) s one more h = at_once (more, ((one, more), h))

  counting_stays : (goes : Bool) (x : ℕ) (value last : ℤ) (fs : StmtsForm) (s : State) → IsVariable first x → StatementsAreSimple first fs → BodyIsSimple first s.control → AllStaySimple first (if goes then count_turn_next named x value last fs s else moves Quiet s)
  counting_stays true x value last fs s one more h = count_turn_stays x value last fs s one more h
  counting_stays false x value last fs s one more h = at_once h

  ranges_stay : (x : ℕ) (fs : StmtsForm) (low high : Option ℤ) (s : State) → IsVariable first x → StatementsAreSimple first fs → BodyIsSimple first s.control → AllStaySimple first (ranges_next named x fs low high s)
  ranges_stay x fs None high s one more h = tt
  ranges_stay x fs (Some low) None s one more h = tt
  ranges_stay x fs (Some low) (Some high) s one more h = counting_stays (int_le low high) x low high fs s one more h

  exit_stays : (condition : Option ExpressionForm) (s : State) → ConditionIsSimple first condition → BodyIsSimple first s.control → AllStaySimple first (exit_next named condition s)
  exit_stays None s simple h = at_once h
  exit_stays (Some e) s simple h = at_once (simple, (tt, h))

  exited_stays : (truth : Option Bool) (s : State) → BodyIsSimple first s.control → AllStaySimple first (exited_next named truth s)
  exited_stays None s h = tt
  exited_stays (Some true) s h = at_once h
  exited_stays (Some false) s h = at_once h

  line_stays : (found : Option ℤ) (s : State) → BodyIsSimple first s.control → AllStaySimple first (line_next named found s)
  line_stays None s h = tt
  line_stays (Some i) s h = at_once h

  -- Statements and declarations.
  stmt_stays : (f : StmtForm) (fs : StmtsForm) (s : State) → StatementsAssignBare types (a_stmt f fs) → StatementIsSimple first f → BodyIsSimple first s.control → AllStaySimple first (stmt_next named types bodies f s)
  stmt_stays skips gs s bare simple h = at_once h
  stmt_stays (assigns target right) gs s bare simple h = assign_stays target.selectors target.root right s simple.0 simple.1 h
  stmt_stays (assigns_record target items) gs s bare simple h =
      let v = held named s target.object.root in
      subst (λ (parts : Bool). AllStaySimple first (record_assign_next named parts target items s)) (sym bare)
      (path_stays (selected named v target.object.selectors) (whole v)
      (at (frame.TargetsRecord (place_in named v target.object.selectors target).component target.record_type items ∷ s.control) s) (simple.1, h))
  stmt_stays (frees access path) gs s bare simple h = frees_stays path access path.selectors s simple h
  stmt_stays (gets target) gs s bare simple h = gets_stays target.selectors target.root s.input s h
  stmt_stays (writes e) gs s bare simple h = at_once (simple, (tt, h))
  stmt_stays (writes_text text) gs s bare simple h = at_once h
  stmt_stays (chooses branches) gs s bare simple h = branches_stay branches s simple h
  stmt_stays (repeats condition fs spot) gs s bare simple h = at_once (simple, h)
  stmt_stays (counts x low high fs spot) gs s bare simple h = at_once (simple.1, (simple.2, ((simple.0, simple.3), h)))
  stmt_stays (exits condition spot) gs s bare simple h = exit_stays condition s simple h
  stmt_stays (calls procedure actuals) gs s bare simple h = absurd simple
  stmt_stays (returns spot) gs s bare simple h = at_once h
  stmt_stays (raises e) gs s bare simple h = at_once h
  stmt_stays (encloses ds fs hs) gs s bare simple h = at_once (simple, h)

  stmts_stay : (fs : StmtsForm) (s : State) → StatementsAssignBare types fs → StatementsAreSimple first fs → BodyIsSimple first s.control → AllStaySimple first (stmts_next named types bodies fs s)
  stmts_stay no_stmts s bare simple h = at_once h
  stmts_stay (a_stmt f fs) s bare simple h = stmt_stays f fs (at (frame.Does fs ∷ s.control) s) bare simple.0 (simple.1, h)

  declarations_stay : (ds : List DeclarationForm) (fs : StmtsForm) (hs : HandlersForm) (s : State) → DeclarationsAreSimple first ds → StatementsAreSimple first fs → HandlersAreSimple first hs → BodyIsSimple first s.control → AllStaySimple first (declarations_next named types ds fs hs s)
  declarations_stay [] fs hs s simple one more h = at_once (one, (more, (tt, h)))
  declarations_stay (creates_pool pool ∷ ds) fs hs s simple one more h = at_once ((simple.1, one, more), h)
  declarations_stay (collects access ∷ ds) fs hs s simple one more h = at_once ((simple.1, one, more), h)
  declarations_stay (declares x right ∷ ds) fs hs s simple one more h = at_once (simple.0.1, (simple.0.0, ((simple.1, one, more), h)))
  declarations_stay (declares_record x object_type initial ∷ ds) fs hs s simple one more h = absurd simple.0

  -- Masters are left.
  taken_stays : (cause : Cause) (pool : Option ℕ) (v : Value) (found : Found (Cell Value)) (s : State) → BodyIsSimple first s.control → StaysSimple first (taken_out named types cause pool v found s).control
  taken_stays cause pool v on_null s h = at_once (tt, (tt, h))
  taken_stays cause pool v on_gone s h = at_once (tt, (tt, h))
  taken_stays cause pool v on_other s h = at_once (tt, (tt, h))
  taken_stays cause pool v (finds cell) s h =
      treating_stays first v (ends cause) (all_tasks types cell.access WholeFirst) (frame.Ends v ∷ frame.GivesBack v cause pool ∷ s.control) (tt, (tt, h))

  members_stay : (cause : Cause) (pool : Option ℕ) (vs : List Value) (s : State) → BodyIsSimple first s.control → AllStaySimple first (members_next named types cause pool vs s)
  members_stay cause pool [] s h = at_once h
  members_stay cause pool (v ∷ vs) s h = λ i. taken_stays cause pool (slice_index_or (v ∷ vs) i named.null) (look s.heap (slice_index_or (v ∷ vs) i named.null)) s h

  item_stays : (m : ℕ) (item : Item) (owned : Owned) (s : State) → BodyIsSimple first s.control → AllStaySimple first (item_leave_next named types m item owned s)
  item_stays m item (declared x) s h = at_once h
  item_stays m item (collection access pool) s h = members_stay (Leaving m item.number) pool (named.members s.heap item.number) s h
  item_stays m item (record_object object_type) s h = members_stay (Leaving m item.number) None (named.members s.heap item.number) s h
  item_stays m item (storage_pool declaration number) s h = at_once h

  master_stays : (mode : Mode) (m : ℕ) (items : List Item) (s : State) → BodyIsSimple first s.control → AllStaySimple first (master_leave_next named types mode m items s)
  master_stays mode m [] s h = at_once h
  master_stays mode m (item ∷ items) s h = item_stays m item item.owned (at (frame.Leaves mode ∷ s.control) s) (tt, h)

  leave_stays : (mode : Mode) (masters : List Master) (s : State) → BodyIsSimple first s.control → AllStaySimple first (leave_next named types mode masters s)
  leave_stays mode [] s h = tt
  leave_stays mode (m ∷ ms) s h = master_stays mode m.number m.items s h

  -- A record is assigned as a whole.
  record_target_stays : (v : Value) (c count : ℕ) (items : List ItemForm) (found : Found (Cell Value)) (s : State) → ItemsAreSimple first items → BodyIsSimple first s.control → AllStaySimple first (record_target_next named v c count items found s)
  record_target_stays v c count items on_null s simple h = at_once h
  record_target_stays v c count items on_gone s simple h = tt
  record_target_stays v c count items on_other s simple h = tt
  record_target_stays v c count items (finds cell) s simple h = at_once (simple, (tt, h))

  record_stored_stays : (v : Value) (c : ℕ) (us : List Value) (found : Option (List Value)) (s : State) → BodyIsSimple first s.control → AllStaySimple first (record_stored_next named v c us found s)
  record_stored_stays v c us None s h = tt
  record_stored_stays v c us (Some before) s h = at_once h

  store_record_stays : (v : Value) (c count : ℕ) (found : Found (Cell Value)) (s : State) → BodyIsSimple first s.control → AllStaySimple first (store_record_next named v c count found s)
  store_record_stays v c count on_null s h = tt
  store_record_stays v c count on_gone s h = tt
  store_record_stays v c count on_other s h = tt
  store_record_stays v c count (finds cell) s h = record_stored_stays v c (newest_ones named count s) (record_in cell.values c count) (without_newest named count s) h

  -- What a frame does.
  frame_stays : (f : Frame Value) (s : State) → FirstAssignsBare types Running (f ∷ s.control) → FrameIsSimple first f → BodyIsSimple first s.control → AllStaySimple first (frame_next named types bodies f s)
  frame_stays (frame.Elaborates ds fs hs) s bare simple h = declarations_stay ds fs hs s simple.0 simple.1 simple.2 h
  frame_stays (frame.Does fs) s bare simple h = stmts_stay fs s bare simple h
  frame_stays (frame.Decides fs branches) s bare simple h = decided_stays fs branches (reads_boolean (newest named s)) (popped s) simple.0 simple.1 h
  frame_stays (frame.Repeats condition fs) s bare simple h = repeats_stay condition fs s simple.0 simple.1 h
  frame_stays (frame.Turns condition fs) s bare simple h = turned_stays condition fs (reads_boolean (newest named s)) (popped s) simple.0 simple.1 h
  frame_stays (frame.Ranges x fs) s bare simple h =
      ranges_stay x fs (reads_integer (newest named (popped s))) (reads_integer (newest named s)) (popped (popped s)) simple.0 simple.1 h
  frame_stays (frame.Counts x value last fs) s bare simple h = counting_stays (int_le value last) x value last fs s simple.0 simple.1 h
  frame_stays frame.Exits s bare simple h = exited_stays (reads_boolean (newest named s)) (popped s) h
  frame_stays (frame.Handles hs) s bare simple h = at_once h
  frame_stays frame.Closes s bare simple h = at_once (tt, h)
  frame_stays (frame.Leaves mode) s bare simple h = leave_stays mode s.masters s h
  frame_stays (frame.Calls procedure b actuals) s bare simple h = absurd simple
  frame_stays (frame.Returns actuals references) s bare simple h = absurd simple
  frame_stays (frame.Evaluates right) s bare simple h = right_stays right s simple h
  frame_stays (frame.Computes e) s bare simple h = expression_stays e s simple h
  frame_stays (frame.Follows cs) s bare simple h = path_stays cs (newest named s) (popped s) h
  frame_stays (frame.TestsNull equal) s bare simple h = null_test_stays equal (reads_null (newest named s)) (popped s) h
  frame_stays (frame.Refers q) s bare simple h = absurd simple
  frame_stays (frame.RefersIn place record_type) s bare simple h = absurd simple
  frame_stays (frame.Opens path) s bare simple h = absurd simple
  frame_stays (frame.OpensIn c) s bare simple h = absurd simple
  frame_stays (frame.Continues links) s bare simple h = links_stay links s simple h
  frame_stays (frame.Applies operator) s bare simple h = outcome_stays (binary_given operator (newest named (popped s)) (newest named s)) (popped (popped s)) h
  frame_stays (frame.AppliesAlone operator) s bare simple h = outcome_stays (unary_given operator (newest named s)) (popped s) h
  frame_stays (frame.Fills items) s bare simple h = items_stay items s simple h
  frame_stays (frame.Copies c record_type) s bare simple h =
      copies_stay (newest named s) c (width_of types record_type) (look s.heap (newest named s)) (popped s) h
  frame_stays (frame.Creates access count) s bare simple h = new_stays access count (words_of types access) (home_of access s.masters) s h
  frame_stays (frame.Stores x) s bare simple h = at_once h
  frame_stays (frame.Targets c right) s bare simple h = target_stays (newest named s) c right (look s.heap (newest named s)) (popped s) simple h
  frame_stays (frame.StoresIn o c) s bare simple h = store_stays o c (newest named s) (look s.heap o) (popped s) h
  frame_stays (frame.TargetsRecord c record_type items) s bare simple h =
      record_target_stays (newest named s) c (width_of types record_type) items (look s.heap (newest named s)) (popped s) simple h
  frame_stays (frame.StoresRecord o c count) s bare simple h = store_record_stays o c count (look s.heap o) s h
  frame_stays (frame.Assigns record_type) s bare simple h = absurd simple
  frame_stays (frame.Receives c) s bare simple h = receive_stays (newest named s) c (look s.heap (newest named s)) (popped s) h
  frame_stays (frame.FreesIn access c) s bare simple h = free_in_stays access (newest named s) c (look s.heap (newest named s)) (popped s) h
  frame_stays (frame.Declares x) s bare simple h = at_once h
  frame_stays (frame.DeclaresRecord x record_type) s bare simple h = absurd simple
  frame_stays (frame.Treats v treatment tasks) s bare simple h = absurd simple
  frame_stays (frame.Awaits v by done of part tasks) s bare simple h = absurd simple
  frame_stays frame.Confines s bare simple h = absurd simple
  frame_stays (frame.Resumes mode) s bare simple h = absurd simple
  frame_stays frame.Writes s bare simple h = line_stays (reads_integer (newest named s)) (popped s) h
  frame_stays (frame.Ends v) s bare simple h = end_stays v (look s.heap v) s h
  frame_stays (frame.GivesBack v cause pool) s bare simple h = back_stays v cause pool (lent s.heap v) s h
  frame_stays (frame.Clears x) s bare simple h = at_once h
  frame_stays (frame.ClearsIn o c) s bare simple h = store_stays o c named.null (look s.heap o) s h

  -- A jump comes to handlers.
  handler_simple : (e : Exception) (hs : HandlersForm) → HandlersAreSimple first hs → (s : State) → BodyIsSimple first s.control → AllStaySimple first (landed named (handler_landing (handler_of e hs)) (Raising e) s)
  handler_simple e no_handlers simple s h = at_once h
  handler_simple e (a_handler choices fs hs) simple s h = by_test (some_takes e choices) fs hs simple s h (handler_simple e hs simple.1 s h)
    where
      by_test : (takes : Bool) (fs : StmtsForm) (hs : HandlersForm) → StatementsAreSimple first fs × HandlersAreSimple first hs → (s : State) → BodyIsSimple first s.control → AllStaySimple first (landed named (handler_landing (handler_of e hs)) (Raising e) s) → AllStaySimple first (landed named (handler_landing (if takes then Some fs else handler_of e hs)) (Raising e) s)
      by_test true no_stmts hs simple s h more = tt
      by_test true (a_stmt f fs) hs simple s h more = at_once (simple.0, h)
      by_test false fs hs simple s h more = more

  handlers_stay : (m : Mode) (hs : HandlersForm) (s : State) → HandlersAreSimple first hs → BodyIsSimple first s.control → AllStaySimple first (landed named (landing m (frame.Handles hs)) m s)
  handlers_stay Running hs s simple h = at_once h
  handlers_stay (Raising e) hs s simple h = handler_simple e hs simple s h
  handlers_stay Exiting hs s simple h = at_once h
  handlers_stay Returning hs s simple h = at_once h

  -- It passes a frame, or lands behind a loop.
  passing_stays : (m : Mode) (f : Frame Value) (s : State) → is_master f ≡ false → landing m f ≡ passes_on → BodyIsSimple first s.control → AllStaySimple first (pass_next named (is_master f) (landing m f) m s)
  passing_stays m f s one two h =
      subst (λ (b : Bool). AllStaySimple first (pass_next named b (landing m f) m s)) (sym one)
      (subst (λ (l : Landing Value). AllStaySimple first (landed named l m s)) (sym two) (at_once h))

  landing_stays : (m : Mode) (f : Frame Value) (s : State) → is_master f ≡ false → landing m f ≡ goes_behind → BodyIsSimple first s.control → AllStaySimple first (pass_next named (is_master f) (landing m f) m s)
  landing_stays m f s one two h =
      subst (λ (b : Bool). AllStaySimple first (pass_next named b (landing m f) m s)) (sym one)
      (subst (λ (l : Landing Value). AllStaySimple first (landed named l m s)) (sym two) (at_once h))

  loop_stays : (m : Mode) (f : Frame Value) (s : State) → is_master f ≡ false → ((e : Exception) → exception_landing e f ≡ passes_on) → exit_landing f ≡ goes_behind → return_landing f ≡ passes_on → BodyIsSimple first s.control → AllStaySimple first (pass_next named (is_master f) (landing m f) m s)
  loop_stays Running f s one raising exiting returning h = passing_stays Running f s one refl h
  loop_stays (Raising e) f s one raising exiting returning h = passing_stays (Raising e) f s one (raising e) h
  loop_stays Exiting f s one raising exiting returning h = landing_stays Exiting f s one exiting h
  loop_stays Returning f s one raising exiting returning h = passing_stays Returning f s one returning h

  jump_stays : (m : Mode) (f : Frame Value) (s : State) → FrameIsSimple first f → BodyIsSimple first s.control → AllStaySimple first (jump_at m f s)
  jump_stays m (frame.Elaborates ds fs hs) s simple h = at_once (tt, h)
  jump_stays m (frame.Does fs) s simple h = passing_stays m (frame.Does fs) s refl (in_each_mode (frame.Does fs) (λ e. refl) refl refl m) h
  jump_stays m (frame.Decides fs branches) s simple h = passing_stays m (frame.Decides fs branches) s refl (in_each_mode (frame.Decides fs branches) (λ e. refl) refl refl m) h
  jump_stays m (frame.Repeats condition fs) s simple h = loop_stays m (frame.Repeats condition fs) s refl (λ e. refl) refl refl h
  jump_stays m (frame.Turns condition fs) s simple h = passing_stays m (frame.Turns condition fs) s refl (in_each_mode (frame.Turns condition fs) (λ e. refl) refl refl m) h
  jump_stays m (frame.Ranges x fs) s simple h = passing_stays m (frame.Ranges x fs) s refl (in_each_mode (frame.Ranges x fs) (λ e. refl) refl refl m) h
  jump_stays m (frame.Counts x value last fs) s simple h = loop_stays m (frame.Counts x value last fs) s refl (λ e. refl) refl refl h
  jump_stays m frame.Exits s simple h = passing_stays m frame.Exits s refl (in_each_mode frame.Exits (λ e. refl) refl refl m) h
  jump_stays m (frame.Handles hs) s simple h = handlers_stay m hs s simple h
  jump_stays m frame.Closes s simple h = at_once (tt, h)
  jump_stays m (frame.Leaves mode) s simple h = passing_stays m (frame.Leaves mode) s refl (in_each_mode (frame.Leaves mode) (λ e. refl) refl refl m) h
  jump_stays m (frame.Calls procedure b actuals) s simple h = absurd simple
  jump_stays m (frame.Returns actuals references) s simple h = absurd simple
  jump_stays m (frame.Evaluates right) s simple h = passing_stays m (frame.Evaluates right) s refl (in_each_mode (frame.Evaluates right) (λ e. refl) refl refl m) h
  jump_stays m (frame.Computes form) s simple h = passing_stays m (frame.Computes form) s refl (in_each_mode (frame.Computes form) (λ e. refl) refl refl m) h
  jump_stays m (frame.Follows cs) s simple h = passing_stays m (frame.Follows cs) s refl (in_each_mode (frame.Follows cs) (λ e. refl) refl refl m) h
  jump_stays m (frame.TestsNull equal) s simple h = passing_stays m (frame.TestsNull equal) s refl (in_each_mode (frame.TestsNull equal) (λ e. refl) refl refl m) h
  jump_stays m (frame.Refers q) s simple h = absurd simple
  jump_stays m (frame.RefersIn place record_type) s simple h = absurd simple
  jump_stays m (frame.Opens path) s simple h = absurd simple
  jump_stays m (frame.OpensIn c) s simple h = absurd simple
  jump_stays m (frame.Continues links) s simple h = passing_stays m (frame.Continues links) s refl (in_each_mode (frame.Continues links) (λ e. refl) refl refl m) h
  jump_stays m (frame.Applies operator) s simple h = passing_stays m (frame.Applies operator) s refl (in_each_mode (frame.Applies operator) (λ e. refl) refl refl m) h
  jump_stays m (frame.AppliesAlone operator) s simple h = passing_stays m (frame.AppliesAlone operator) s refl (in_each_mode (frame.AppliesAlone operator) (λ e. refl) refl refl m) h
  jump_stays m (frame.Fills items) s simple h = passing_stays m (frame.Fills items) s refl (in_each_mode (frame.Fills items) (λ e. refl) refl refl m) h
  jump_stays m (frame.Copies c record_type) s simple h = passing_stays m (frame.Copies c record_type) s refl (in_each_mode (frame.Copies c record_type) (λ e. refl) refl refl m) h
  jump_stays m (frame.Creates access count) s simple h = passing_stays m (frame.Creates access count) s refl (in_each_mode (frame.Creates access count) (λ e. refl) refl refl m) h
  jump_stays m (frame.Stores x) s simple h = passing_stays m (frame.Stores x) s refl (in_each_mode (frame.Stores x) (λ e. refl) refl refl m) h
  jump_stays m (frame.Targets c right) s simple h = passing_stays m (frame.Targets c right) s refl (in_each_mode (frame.Targets c right) (λ e. refl) refl refl m) h
  jump_stays m (frame.StoresIn v c) s simple h = passing_stays m (frame.StoresIn v c) s refl (in_each_mode (frame.StoresIn v c) (λ e. refl) refl refl m) h
  jump_stays m (frame.TargetsRecord c record_type items) s simple h = passing_stays m (frame.TargetsRecord c record_type items) s refl (in_each_mode (frame.TargetsRecord c record_type items) (λ e. refl) refl refl m) h
  jump_stays m (frame.StoresRecord o c count) s simple h = passing_stays m (frame.StoresRecord o c count) s refl (in_each_mode (frame.StoresRecord o c count) (λ e. refl) refl refl m) h
  jump_stays m (frame.Assigns record_type) s simple h = absurd simple
  jump_stays m (frame.Receives c) s simple h = passing_stays m (frame.Receives c) s refl (in_each_mode (frame.Receives c) (λ e. refl) refl refl m) h
  jump_stays m (frame.FreesIn access c) s simple h = passing_stays m (frame.FreesIn access c) s refl (in_each_mode (frame.FreesIn access c) (λ e. refl) refl refl m) h
  jump_stays m (frame.Declares x) s simple h = passing_stays m (frame.Declares x) s refl (in_each_mode (frame.Declares x) (λ e. refl) refl refl m) h
  jump_stays m (frame.DeclaresRecord x record_type) s simple h = absurd simple
  jump_stays m (frame.Treats v treatment tasks) s simple h = absurd simple
  jump_stays m (frame.Awaits v by done of part tasks) s simple h = absurd simple
  jump_stays m frame.Confines s simple h = absurd simple
  jump_stays m (frame.Resumes mode) s simple h = absurd simple
  jump_stays m frame.Writes s simple h = passing_stays m frame.Writes s refl (in_each_mode frame.Writes (λ e. refl) refl refl m) h
  jump_stays m (frame.Ends v) s simple h = passing_stays m (frame.Ends v) s refl (in_each_mode (frame.Ends v) (λ e. refl) refl refl m) h
  jump_stays m (frame.GivesBack v cause pool) s simple h = passing_stays m (frame.GivesBack v cause pool) s refl (in_each_mode (frame.GivesBack v cause pool) (λ e. refl) refl refl m) h
  jump_stays m (frame.Clears x) s simple h = passing_stays m (frame.Clears x) s refl (in_each_mode (frame.Clears x) (λ e. refl) refl refl m) h
  jump_stays m (frame.ClearsIn v c) s simple h = passing_stays m (frame.ClearsIn v c) s refl (in_each_mode (frame.ClearsIn v c) (λ e. refl) refl refl m) h

  -- A step.
  step_stays : (m : Mode) (k : List (Frame Value)) (s : State) → IsWithinBody first k → FirstAssignsBare types m k → AllStaySimple first (next types bodies (record s { mode = m; control = k }))
  unfolding next
  step_stays Running [] s h bare = tt
  step_stays Running (f ∷ k) s h bare = frame_stays f (record s { mode = Running; control = k }) bare h.0 h.1
  step_stays (Raising e) [] s h bare = tt
  step_stays (Raising e) (f ∷ k) s h bare = jump_stays (Raising e) f (record s { mode = Raising e; control = k }) h.0 h.1
  step_stays Exiting [] s h bare = tt
  step_stays Exiting (f ∷ k) s h bare = jump_stays Exiting f (record s { mode = Exiting; control = k }) h.0 h.1
  step_stays Returning [] s h bare = tt
  step_stays Returning (f ∷ k) s h bare = jump_stays Returning f (record s { mode = Returning; control = k }) h.0 h.1

-- The law.
pub stay_simple : SimpleBodiesStaySimple
stay_simple types bodies first s h bare = step_stays types bodies first s.mode s.control s h bare
