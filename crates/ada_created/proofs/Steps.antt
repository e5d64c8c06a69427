-- Each step keeps what is left to do in order, whatever is answered.

use Rattle.std.proofs.Common.{◌≡◌, ℕ, ◌+◌, ℤ, Bool, true, false, if◌then◌else◌, List, [], ◌∷◌, length, map, Option, Some, None, refl, sym, ◌∙◌, subst}
use Rattle.std.specs.Prelude.{int_le}
use Rattle.std.specs.List.{slice_get}
use Rattle.ada_program.specs.declared.program.TypeDefinition.{TypeDefinition}
use Rattle.ada_program.specs.declared.program.Exception.{Exception}
use Rattle.ada_program.specs.Form.{ActualForm, in_value, in_null, in_access, in_record, in_out_path, in_out_access, in_out_component, in_out_record, ExpressionForm, ItemForm, RightForm, StmtForm, skips, assigns, assigns_record, frees, gets, writes, writes_text, chooses, repeats, counts, exits, calls, returns, raises, encloses, StmtsForm, no_stmts, a_stmt, BranchesForm, otherwise, a_branch, HandlersForm, no_handlers, a_handler, DeclarationForm, creates_pool, collects, declares, declares_record}
use Rattle.ada_program.specs.Nested.{collected}
use Rattle.ada_program.specs.Handling.{some_takes, handler_of}
use Rattle.ada_parts.specs.declared.tasks.Direction.TheVariants.{PartsFirst}
use Rattle.ada_parts.specs.Task.{performs, next as task_next}
use Rattle.ada_meaning.specs.declared.event.Birth.{Birth}
use Rattle.ada_meaning.specs.declared.event.Birth.TheVariants.{Creation, Copy, Adjustment}
use Rattle.ada_meaning.specs.declared.event.Cause.TheVariants.{Undoing}
use Rattle.ada_parts.specs.Part.{Part}
use Rattle.ada_program.specs.ProgramForm.{BodyForm}
use Rattle.ada_program.specs.Typed.{pool_named, reached_of, words_of, width_of}
use Rattle.ada_meaning.specs.declared.state.Value.{Value}
use Rattle.ada_meaning.specs.declared.state.Value.TheVariants.{Null, Names}
use Rattle.ada_meaning.specs.declared.state.Mode.{Mode}
use Rattle.ada_meaning.specs.declared.state.Mode.TheVariants.{Running, Raising, Exiting, Returning}
use Rattle.ada_meaning.specs.Event.{Quiet}
use Rattle.ada_meaning.specs.Frame.{Frame, is_loop, is_return, Landing, passes_on, goes_behind, goes_in, breaks_off, escapes, operation_landing, handler_landing, landing}
use Rattle.ada_meaning.specs.Frame as frame
use Rattle.ada_meaning.specs.Heap.{Cell, Found, on_null, on_gone, on_other, finds}
use Rattle.ada_meaning.specs.Step.{moves, older, owning, has_parts, all_tasks, at, popped, held, newest, newest_ones, without_newest, initial_values, made, record_next, storing, assign_next, target_next, stored_next, store_next, frees_next, branches_next, decided_next, turn_next, repeats_next, turned_next, count_turn_next, ranges_next, gets_next, received_next, receive_next, exit_next, exited_next, computing, call_next, stmt_next, stmts_next, line_next, declarations_next, frame_next, left_by, unwound, undo_next, broken_next, broken_off, landed, running_next, jump_next, mode_next}
use Rattle.ada_meaning.specs.Named.{State, next, named, same, look, lent, reads_boolean, reads_null, reads_integer, unary_given, binary_given}
use Rattle.ada_meaning.specs.State.{declared, collection, record_object, storage_pool, Master, height, home_of, pool_for, pools_in}
use Rattle.ada_operations.specs.Created.{stmt_collections, stmts_collections, branches_collections, handlers_collections}
use Rattle.ada_order.proofs.Controls.{Plain, Stands as InPlace, plainly, leaving}
use Rattle.ada_created.proofs.Control.{Each, ends_master, past, FrameFits, Orderly, Stands, AllOrderly, split, past_owning, collects_next, orderly_owning, treating_orderly}
use Rattle.ada_created.proofs.Evaluations.{path_orderly, holder_orderly, record_holder_orderly, expression_orderly, null_test_orderly, links_orderly, outcome_orderly, items_orderly, copies_orderly, record_target_orderly, store_record_orderly, record_assign_orderly, assigns_orderly, new_orderly, refers_orderly, open_orderly, opens_orderly, right_orderly, free_orderly, free_in_orderly, end_orderly, back_orderly}
use Rattle.ada_created.proofs.Treatments.{BodiesFit, awaited_orderly, treats_orderly, leave_orderly}

module _ (P : List ℕ → Type 0) (bodies : List BodyForm) (each : BodiesFit P bodies) where
  -- What is assigned to, stored in and read to.
  assign_orderly : (cs : List ℕ) (x : ℕ) (right : RightForm) (s : State) → Stands P s
      → AllOrderly P (assign_next named cs x right s)
  assign_orderly [] x right s h = (tt, (tt, h))
  assign_orderly (c ∷ cs) x right s h = holder_orderly P c cs x (λ last. frame.Targets last right) s (λ n. (tt, h))

  target_orderly : (o : Value) (c : ℕ) (right : RightForm) (found : Found (Cell Value)) (s : State) → Stands P s
      → AllOrderly P (target_next named o c right found s)
  target_orderly o c right on_null s h = h
  target_orderly o c right on_gone s h = tt
  target_orderly o c right on_other s h = tt
  target_orderly o c right (finds cell) s h = (tt, (tt, h))

  stored_orderly : (o : Value) (c : ℕ) (v : Value) (found : Option Value) (s : State) → Stands P s
      → AllOrderly P (stored_next named o c v found s)
  stored_orderly o c v None s h = tt
  stored_orderly o c v (Some before) s h = h

  store_orderly : (o : Value) (c : ℕ) (v : Value) (found : Found (Cell Value)) (s : State) → Stands P s
      → AllOrderly P (store_next named o c v found s)
  store_orderly o c v on_null s h = tt
  store_orderly o c v on_gone s h = tt
  store_orderly o c v on_other s h = tt
  store_orderly o c v (finds cell) s h = stored_orderly o c v (slice_get cell.values c) s h

  frees_orderly : (types : List TypeDefinition) (cs : List ℕ) (access x : ℕ) (s : State) → Stands P s
      → AllOrderly P (frees_next named types cs access x s)
  frees_orderly types [] access x s h = free_orderly P types access x (held named s x) (named.standing s.heap (held named s x)) s h
  frees_orderly types (c ∷ cs) access x s h = holder_orderly P c cs x (λ last. frame.FreesIn access last) s (λ n. (tt, h))

  branches_orderly : (branches : BranchesForm) (s : State) → Each P (branches_collections branches) → Stands P s
      → AllOrderly P (branches_next named branches s)
  branches_orderly (otherwise fs) s own h = (own, h)
  branches_orderly (a_branch e fs branches) s own h = (tt, (split P (stmts_collections fs) (branches_collections branches) own, h))

  decided_orderly : (fs : StmtsForm) (branches : BranchesForm) (truth : Option Bool) (s : State)
      → (Each P (stmts_collections fs)) × (Each P (branches_collections branches)) → Stands P s
      → AllOrderly P (decided_next named fs branches truth s)
  decided_orderly fs branches None s own h = tt
  decided_orderly fs branches (Some true) s own h = (own.0, h)
  decided_orderly fs branches (Some false) s own h = branches_orderly branches s own.1 h

  turn_orderly : (condition : Option ExpressionForm) (fs : StmtsForm) (s : State) → Each P (stmts_collections fs) → Stands P s
      → AllOrderly P (turn_next named condition fs s)
  turn_orderly condition no_stmts s own h = tt
  turn_orderly condition (a_stmt f fs) s own h = (own, (own, h))

  repeats_orderly : (condition : Option ExpressionForm) (fs : StmtsForm) (s : State) → Each P (stmts_collections fs) → Stands P s
      → AllOrderly P (repeats_next named condition fs s)
  repeats_orderly None fs s own h = turn_orderly None fs s own h
  repeats_orderly (Some e) fs s own h = (tt, (own, h))

  turned_orderly : (e : ExpressionForm) (fs : StmtsForm) (truth : Option Bool) (s : State) → Each P (stmts_collections fs)
      → Stands P s
      → AllOrderly P (turned_next named e fs truth s)
  turned_orderly e fs None s own h = tt
  turned_orderly e fs (Some true) s own h = turn_orderly (Some e) fs s own h
  turned_orderly e fs (Some false) s own h = h

  count_turn_orderly : (x : ℕ) (value last : ℤ) (fs : StmtsForm) (s : State) → Each P (stmts_collections fs) → Stands P s
      → AllOrderly P (count_turn_next named x value last fs s)
  count_turn_orderly x value last no_stmts s own h = tt
  count_turn_orderly x value last (a_stmt f fs) s own h = (own, (own, h))

  counting_orderly : (more : Bool) (x : ℕ) (value last : ℤ) (fs : StmtsForm) (s : State) → Each P (stmts_collections fs)
      → Stands P s
      → AllOrderly P (if more then count_turn_next named x value last fs s else moves Quiet s)
  counting_orderly true x value last fs s own h = count_turn_orderly x value last fs s own h
  counting_orderly false x value last fs s own h = h

  ranges_orderly : (x : ℕ) (fs : StmtsForm) (low high : Option ℤ) (s : State) → Each P (stmts_collections fs) → Stands P s
      → AllOrderly P (ranges_next named x fs low high s)
  ranges_orderly x fs None high s own h = tt
  ranges_orderly x fs (Some low) None s own h = tt
  ranges_orderly x fs (Some low) (Some high) s own h = counting_orderly (int_le low high) x low high fs s own h

  gets_orderly : (cs : List ℕ) (x : ℕ) (input : List ℤ) (s : State) → Stands P s → AllOrderly P (gets_next named cs x input s)
  gets_orderly (c ∷ cs) x input s h = holder_orderly P c cs x (λ last. frame.Receives last) s (λ n. (tt, h))
  gets_orderly [] x [] s h = h
  gets_orderly [] x (i ∷ is) s h = h

  received_orderly : (o : Value) (c : ℕ) (input : List ℤ) (found : Option Value) (s : State) → Stands P s
      → AllOrderly P (received_next named o c input found s)
  received_orderly o c input None s h = tt
  received_orderly o c [] (Some before) s h = h
  received_orderly o c (i ∷ is) (Some before) s h = h

  receive_orderly : (o : Value) (c : ℕ) (found : Found (Cell Value)) (s : State) → Stands P s
      → AllOrderly P (receive_next named o c found s)
  receive_orderly o c on_null s h = h
  receive_orderly o c on_gone s h = tt
  receive_orderly o c on_other s h = tt
  receive_orderly o c (finds cell) s h = received_orderly o c s.input (slice_get cell.values c) s h

  exit_orderly : (condition : Option ExpressionForm) (s : State) → Stands P s → AllOrderly P (exit_next named condition s)
  exit_orderly None s h = h
  exit_orderly (Some e) s h = (tt, (tt, h))

  exited_orderly : (truth : Option Bool) (s : State) → Stands P s → AllOrderly P (exited_next named truth s)
  exited_orderly None s h = tt
  exited_orderly (Some true) s h = h
  exited_orderly (Some false) s h = h

  -- A call (6.4): its actual parameters are evaluated before its body begins. That is a body of the program, whose declarative parts are in order.
  computing_orderly : (actuals : List ActualForm) (k : List (Frame Value)) (ms : List Master) → Orderly P k ms
      → Orderly P (computing named actuals k) ms
  computing_orderly [] k ms h = h
  computing_orderly (in_value e ∷ rest) k ms h = (tt, computing_orderly rest k ms h)
  computing_orderly (in_null ∷ rest) k ms h = (tt, computing_orderly rest k ms h)
  computing_orderly (in_access path ∷ rest) k ms h = (tt, computing_orderly rest k ms h)
  computing_orderly (in_record p ∷ rest) k ms h = (tt, computing_orderly rest k ms h)
  computing_orderly (in_out_path path ∷ rest) k ms h = (tt, computing_orderly rest k ms h)
  computing_orderly (in_out_access path ∷ rest) k ms h = (tt, computing_orderly rest k ms h)
  computing_orderly (in_out_component path ∷ rest) k ms h = (tt, computing_orderly rest k ms h)
  computing_orderly (in_out_record p ∷ rest) k ms h = (tt, computing_orderly rest k ms h)

  storing_orderly : (references : List Value) (k : List (Frame Value)) (ms : List Master) → Orderly P k ms
      → Orderly P (storing named references k) ms
  storing_orderly [] k ms h = h
  storing_orderly (r ∷ rs) k ms h = (tt, storing_orderly rs k ms h)

  call_orderly : (procedure : ℕ) (actuals : List ActualForm) (body : Option BodyForm) (s : State) → slice_get bodies procedure ≡ body → Stands P s
      → AllOrderly P (call_next named procedure actuals body s)
  call_orderly procedure actuals None s at_body h = tt
  call_orderly procedure actuals (Some b) s at_body h =
      computing_orderly actuals (frame.Calls procedure b actuals ∷ s.control) s.masters (each procedure b at_body, h)

  stmt_orderly : (types : List TypeDefinition) (f : StmtForm) (s : State) → Each P (stmt_collections f) → Stands P s
      → AllOrderly P (stmt_next named types bodies f s)
  stmt_orderly types skips s own h = h
  stmt_orderly types (assigns target right) s own h = assign_orderly target.selectors target.root right s h
  stmt_orderly types (assigns_record target items) s own h =
      record_assign_orderly P (has_parts types target.record_type) target items s h
  stmt_orderly types (frees access path) s own h = frees_orderly types path.selectors access path.root s h
  stmt_orderly types (gets target) s own h = gets_orderly target.selectors target.root s.input s h
  stmt_orderly types (writes e) s own h = (tt, (tt, h))
  stmt_orderly types (writes_text text) s own h = h
  stmt_orderly types (chooses branches) s own h = branches_orderly branches s own h
  stmt_orderly types (repeats condition fs end_spot) s own h = (own, h)
  stmt_orderly types (counts x low high fs end_spot) s own h = (tt, (tt, (own, h)))
  stmt_orderly types (exits condition spot) s own h = exit_orderly condition s h
  stmt_orderly types (calls procedure actuals) s own h = call_orderly procedure actuals (slice_get bodies procedure) s refl h
  stmt_orderly types (returns spot) s own h = h
  stmt_orderly types (raises e) s own h = h
  stmt_orderly types (encloses ds fs hs) s own h = (own, h)

  stmts_orderly : (types : List TypeDefinition) (fs : StmtsForm) (s : State) → Each P (stmts_collections fs) → Stands P s
      → AllOrderly P (stmts_next named types bodies fs s)
  stmts_orderly types no_stmts s own h = h
  stmts_orderly types (a_stmt f fs) s own h =
      let both = split P (stmt_collections f) (stmts_collections fs) own in
      stmt_orderly types f (at (frame.Does fs ∷ s.control) s) both.0 (both.1, h)

  line_orderly : (read : Option ℤ) (s : State) → Stands P s → AllOrderly P (line_next named read s)
  line_orderly None s h = tt
  line_orderly (Some i) s h = h

  -- A record object is made.
  made_orderly : (types : List TypeDefinition) (x t : ℕ) (by : Birth) (values : List Value) (s : State) → Stands P s
      → Stands P (made named types x t by values s)
  made_orderly types x t by values s h =
      treating_orderly P (Names (record { 0 = length s.heap })) (frame.begins by []) (all_tasks types t PartsFirst) s.control
      (owning (record { number = height s.masters; owned = record_object t }) s.masters)
      (orderly_owning P (record { number = height s.masters; owned = record_object t }) tt s.control s.masters h)

  record_orderly : (types : List TypeDefinition) (x t : ℕ) (initial : Option (List ItemForm)) (s : State) → Stands P s
      → AllOrderly P (record_next named types x t initial s)
  record_orderly types x t None s h = made_orderly types x t Creation (initial_values named (reached_of types t)) s h
  record_orderly types x t (Some items) s h = (tt, (tt, h))

  -- Declarations (3.11): a collection is created behind others of its master.
  declarations_orderly : (types : List TypeDefinition) (ds : List DeclarationForm) (fs : StmtsForm) (hs : HandlersForm) (s : State)
      → FrameFits P s.masters (frame.Elaborates ds fs hs) → Orderly P s.control (older s.masters)
      → AllOrderly P (declarations_next named types ds fs hs s)
  declarations_orderly types [] fs hs s own h =
      let both = split P (stmts_collections fs) (handlers_collections hs) own.1 in
      (both.0, (both.1, (([], own.0), h)))
  declarations_orderly types (creates_pool p ∷ ds) fs hs s own h =
      orderly_owning P (record { number = height s.masters; owned = storage_pool p (pools_in s.masters + 1) }) tt
      (frame.Elaborates ds fs hs ∷ s.control) s.masters (own, h)
  declarations_orderly types (collects access ∷ ds) fs hs s own h =
      let pool = pool_for (pool_named types access) s.masters in
      let made = collects_next P access (height s.masters) pool (collected ds) s.masters own.0 in
      ((made, own.1), past_owning P (record { number = height s.masters; owned = collection access pool }) s.control s.masters h)
  declarations_orderly types (declares x right ∷ ds) fs hs s own h = (tt, (tt, (own, h)))
  declarations_orderly types (declares_record x t initial ∷ ds) fs hs s own h =
      record_orderly types x t initial (at (frame.Elaborates ds fs hs ∷ s.control) s) (own, h)

  -- Each frame that is taken off.
  frame_orderly : (types : List TypeDefinition) (f : Frame Value) (s : State) → FrameFits P s.masters f
      → Orderly P s.control (past (ends_master f) s.masters) → AllOrderly P (frame_next named types bodies f s)
  frame_orderly types (frame.Elaborates ds fs hs) s own h = declarations_orderly types ds fs hs s own h
  frame_orderly types (frame.Does fs) s own h = stmts_orderly types fs s own h
  frame_orderly types (frame.Decides fs branches) s own h = decided_orderly fs branches (reads_boolean (newest named s)) (popped s) own h
  frame_orderly types (frame.Repeats condition fs) s own h = repeats_orderly condition fs s own h
  frame_orderly types (frame.Turns condition fs) s own h = turned_orderly condition fs (reads_boolean (newest named s)) (popped s) own h
  frame_orderly types (frame.Ranges x fs) s own h =
      ranges_orderly x fs (reads_integer (newest named (popped s))) (reads_integer (newest named s)) (popped (popped s)) own h
  frame_orderly types (frame.Counts x value last fs) s own h = counting_orderly (int_le value last) x value last fs s own h
  frame_orderly types frame.Exits s own h = exited_orderly (reads_boolean (newest named s)) (popped s) h
  frame_orderly types (frame.Handles hs) s own h = h
  frame_orderly types frame.Closes s own h = (own, h)
  frame_orderly types (frame.Leaves mode) s own h = leave_orderly P types mode s.masters s own h
  frame_orderly types (frame.Calls procedure b actuals) s own h =
      (own, (tt, h))
  frame_orderly types (frame.Returns actuals references) s own h = storing_orderly references s.control s.masters h
  frame_orderly types (frame.Evaluates right) s own h = right_orderly P types right s h
  frame_orderly types (frame.Computes e) s own h = expression_orderly P e s h
  frame_orderly types (frame.Follows cs) s own h = path_orderly P cs (newest named s) (popped s) h
  frame_orderly types (frame.TestsNull equal) s own h = null_test_orderly P equal (reads_null (newest named s)) (popped s) h
  frame_orderly types (frame.Refers p) s own h =
      record_holder_orderly P p (λ place. frame.RefersIn place p.record_type) s (λ place. (tt, h))
  frame_orderly types (frame.RefersIn place t) s own h =
      refers_orderly P (newest named s) place (width_of types t) (look s.heap (newest named s)) (popped s) h
  frame_orderly types (frame.Opens path) s own h = open_orderly P path.selectors path.root s h
  frame_orderly types (frame.OpensIn c) s own h = opens_orderly P (newest named s) c (look s.heap (newest named s)) (popped s) h
  frame_orderly types (frame.Continues links) s own h = links_orderly P links s h
  frame_orderly types (frame.Applies operator) s own h =
      outcome_orderly P (binary_given operator (newest named (popped s)) (newest named s)) (popped (popped s)) h
  frame_orderly types (frame.AppliesAlone operator) s own h = outcome_orderly P (unary_given operator (newest named s)) (popped s) h
  frame_orderly types (frame.Fills items) s own h = items_orderly P items s h
  frame_orderly types (frame.Copies first t) s own h =
      copies_orderly P (newest named s) first (width_of types t) (look s.heap (newest named s)) (popped s) h
  frame_orderly types (frame.Creates access count) s own h = new_orderly P types access count (words_of types access) (home_of access s.masters) s h
  frame_orderly types (frame.Stores x) s own h = h
  frame_orderly types (frame.Declares x) s own h =
      orderly_owning P (record { number = height s.masters; owned = declared x }) tt s.control s.masters h
  frame_orderly types (frame.Treats v treatment tasks) s own h = treats_orderly P bodies each types v treatment tasks (task_next tasks) s h
  frame_orderly types (frame.Awaits v by done of part tasks) s own h = awaited_orderly P bodies each v by done of part tasks (look s.heap v) s h
  frame_orderly types frame.Confines s own h = h
  frame_orderly types (frame.Resumes mode) s own h = h
  frame_orderly types frame.Writes s own h = line_orderly (reads_integer (newest named s)) (popped s) h
  frame_orderly types (frame.Ends v) s own h = end_orderly P v (look s.heap v) s h
  frame_orderly types (frame.GivesBack v cause pool) s own h = back_orderly P v cause pool (lent s.heap v) s h
  frame_orderly types (frame.Clears x) s own h = h
  frame_orderly types (frame.Targets c right) s own h = target_orderly (newest named s) c right (look s.heap (newest named s)) (popped s) h
  frame_orderly types (frame.StoresIn o c) s own h = store_orderly o c (newest named s) (look s.heap o) (popped s) h
  frame_orderly types (frame.TargetsRecord first t items) s own h =
      record_target_orderly P (newest named s) first (width_of types t) items (look s.heap (newest named s)) (popped s) h
  frame_orderly types (frame.StoresRecord o first count) s own h = store_record_orderly P o first count (look s.heap o) s h
  frame_orderly types (frame.Assigns t) s own h =
      let target = newest named (popped s) in
      let source = newest named s in
      assigns_orderly P types t target source (same target source) (popped (popped s)) h
  frame_orderly types (frame.DeclaresRecord x t) s own h =
      made_orderly types x t Copy (newest_ones named (words_of types t) s) (without_newest named (words_of types t) s) h
  frame_orderly types (frame.Receives c) s own h = receive_orderly (newest named s) c (look s.heap (newest named s)) (popped s) h
  frame_orderly types (frame.FreesIn access c) s own h =
      free_in_orderly P types access (newest named s) c (look s.heap (newest named s)) (popped s) h
  frame_orderly types (frame.ClearsIn o c) s own h = store_orderly o c Null (look s.heap o) s h

  -- A jump: what it passes, and where it lands (11.4).
  abbrev LandsWell : Landing Value → Type 0
  LandsWell passes_on = Unit {0}
  LandsWell goes_behind = Unit {0}
  LandsWell (goes_in fs) = Each P (stmts_collections fs)
  LandsWell (breaks_off v by done) = Unit {0}
  LandsWell escapes = Unit {0}

  handler_lands : (takes : Bool) (fs : StmtsForm) (later : Option StmtsForm) → Each P (stmts_collections fs) → LandsWell (handler_landing later)
      → LandsWell (handler_landing (if takes then Some fs else later))
  handler_lands true fs later one more = one
  handler_lands false fs later one more = more

  handlers_land : (e : Exception) (hs : HandlersForm) → Each P (handlers_collections hs) → LandsWell (handler_landing (handler_of e hs))
  handlers_land e no_handlers own = tt
  handlers_land e (a_handler choices fs hs) own =
      let both = split P (stmts_collections fs) (handlers_collections hs) own in
      handler_lands (some_takes e choices) fs (handler_of e hs) both.0 (handlers_land e hs both.1)

  raised_lands : (e : Exception) (ms : List Master) (f : Frame Value) → FrameFits P ms f → LandsWell (landing (Raising e) f)
  raised_lands e ms (frame.Handles hs) own = handlers_land e hs own
  raised_lands e ms f own = tt

  none_lands : (f : Frame Value) → LandsWell (operation_landing f)
  none_lands (frame.Awaits v by done of part tasks) = tt
  none_lands frame.Confines = tt
  none_lands f = tt

  exit_lands : (ends_here : Bool) (otherwise_at : Landing Value) → LandsWell otherwise_at → LandsWell (if ends_here then goes_behind else otherwise_at)
  exit_lands true otherwise_at lands = tt
  exit_lands false otherwise_at lands = lands

  lands : (mode : Mode) (ms : List Master) (f : Frame Value) → FrameFits P ms f → LandsWell (landing mode f)
  lands Running ms f own = tt
  lands (Raising e) ms f own = raised_lands e ms f own
  lands Exiting ms f own = exit_lands (is_loop f) (operation_landing f) (none_lands f)
  lands Returning ms f own = exit_lands (is_return f) (operation_landing f) (none_lands f)

  -- An exception comes out of an operation that was to begin a part: what has begun of the object is undone (7.6.1).
  undo_orderly : (e : Exception) (v : Value) (done : List Part) (found : Found (Cell Value)) (s : State) → Stands P s
      → AllOrderly P (undo_next named e v done found s)
  undo_orderly e v done on_null s h = tt
  undo_orderly e v done on_gone s h = tt
  undo_orderly e v done on_other s h = tt
  undo_orderly e v done (finds cell) s h =
      treating_orderly P v (frame.ends (Undoing s.next)) (map (λ p. performs p.of p.number) done)
      (frame.Ends v ∷ frame.GivesBack v (Undoing s.next) cell.home.pool ∷ frame.Resumes (Raising e) ∷ s.control) s.masters (tt, (tt, (tt, h)))

  broken_orderly : (e : Exception) (v : Value) (by : Birth) (done : List Part) (s : State) → Stands P s
      → AllOrderly P (broken_next named e v by done s)
  broken_orderly e v Creation done s h = undo_orderly e v done (look s.heap v) s h
  broken_orderly e v Copy done s h = tt
  broken_orderly e v (Adjustment number) done s h = tt

  broken_off_orderly : (mode : Mode) (v : Value) (by : Birth) (done : List Part) (s : State) → Stands P s
      → AllOrderly P (broken_off named mode v by done s)
  broken_off_orderly Running v by done s h = tt
  broken_off_orderly (Raising e) v by done s h = broken_orderly e v by done s h
  broken_off_orderly Exiting v by done s h = tt
  broken_off_orderly Returning v by done s h = tt

  landed_orderly : (l : Landing Value) (mode : Mode) (s : State) → LandsWell l → Stands P s
      → AllOrderly P (landed named l mode s)
  landed_orderly passes_on mode s lands h = h
  landed_orderly goes_behind mode s lands h = h
  landed_orderly (goes_in no_stmts) mode s lands h = tt
  landed_orderly (goes_in (a_stmt f fs)) mode s lands h = (lands, h)
  landed_orderly (breaks_off v by done) mode s lands h = broken_off_orderly mode v by done s h
  landed_orderly escapes mode s lands h = tt

  -- Behind a normal end of a call components get something back (6.4.1).
  left_orderly : (mode : Mode) (actuals : List ActualForm) (references : List Value) (s : State) → Stands P s
      → Stands P (left_by named mode actuals references s)
  left_orderly Running actuals references s h = h
  left_orderly (Raising e) actuals references s h = h
  left_orderly Exiting actuals references s h = h
  left_orderly Returning actuals references s h = storing_orderly references s.control s.masters h

  unwound_orderly : (mode : Mode) (f : Frame Value) (s : State) → Stands P s → Stands P (unwound named mode f s)
  unwound_orderly mode (frame.Returns actuals references) s h = left_orderly mode actuals references s h
  unwound_orderly mode f s h = h

  -- A jump goes on (5.7, 6.5, 11.4): a master that it comes to is left first, and no master is being left there.
  jump_orderly : (mode : Mode) (k : List (Frame Value)) (s : State) → Plain None k s.masters → Orderly P k s.masters
      → AllOrderly P (jump_next named mode k s)
  jump_orderly mode [] s plain h = tt
  jump_orderly mode (frame.Elaborates ds fs hs ∷ k) s plain h = ((collected ds, h.0.0), h.1)
  jump_orderly mode (frame.Closes ∷ k) s plain h = h
  jump_orderly mode (frame.Leaves left ∷ k) s plain h = absurd plain
  jump_orderly mode (f ∷ k) s plain h =
      landed_orderly (landing mode f) mode (unwound named mode f (at k s)) (lands mode s.masters f h.0) (unwound_orderly mode f (at k s) h.1)

  -- No jump is on its way.
  running_orderly : (types : List TypeDefinition) (k : List (Frame Value)) (s : State) → Orderly P k s.masters
      → AllOrderly P (running_next named types bodies k s)
  running_orderly types [] s h = tt
  running_orderly types (f ∷ k) s h = frame_orderly types f (at k s) h.0 h.1

  -- A jump is on its way.
  abbrev IsJump : Mode → Type 0
  IsJump Running = ⊥
  IsJump (Raising e) = Unit {0}
  IsJump Exiting = Unit {0}
  IsJump Returning = Unit {0}

  -- No master is being left then, but behind the body of a Finalize.
  jump_plain : (mode : Mode) (s : State) → IsJump mode → s.mode ≡ mode → InPlace None s → Plain None s.control s.masters
  jump_plain mode s jumps is (plainly plain) = plain
  jump_plain mode s jumps is (leaving runs goes) = absurd (subst IsJump (sym is ∙ runs) jumps)

  mode_orderly : (types : List TypeDefinition) (mode : Mode) (s : State) → s.mode ≡ mode → InPlace None s → Stands P s
      → AllOrderly P (mode_next named types bodies mode s)
  mode_orderly types Running s is in_place h = running_orderly types s.control s h
  mode_orderly types (Raising e) s is in_place h = jump_orderly (Raising e) s.control s (jump_plain (Raising e) s tt is in_place) h
  mode_orderly types Exiting s is in_place h = jump_orderly Exiting s.control s (jump_plain Exiting s tt is in_place) h
  mode_orderly types Returning s is in_place h = jump_orderly Returning s.control s (jump_plain Returning s tt is in_place) h

-- Each step keeps that, whatever comes next.
pub next_orderly : (P : List ℕ → Type 0) (types : List TypeDefinition) (bodies : List BodyForm) → BodiesFit P bodies → (s : State) → InPlace None s → Stands P s
    → AllOrderly P (next types bodies s)
unfolding next
next_orderly P types bodies each s in_place h = mode_orderly P bodies each types s.mode s refl in_place h
