-- What holds of each frame of what is left to do holds on behind each step, whatever is answered, where it does of each frame to which one leads.

use Rattle.std.proofs.Common.{◌≡◌, ℕ, ℤ, Bool, true, false, if◌then◌else◌, List, [], ◌∷◌, length, map, Option, Some, None, refl, subst}
use Rattle.std.specs.Prelude.{◌+ℤ◌, pos, int_le}
use Rattle.std.specs.List.{slice_get}
use Rattle.ada_program.specs.declared.program.TypeDefinition.{TypeDefinition}
use Rattle.ada_program.specs.declared.program.Exception.{Exception}
use Rattle.ada_program.specs.Form.{ActualForm, in_value, in_null, in_access, in_record, in_out_path, in_out_access, in_out_component, in_out_record, ExpressionForm, ItemForm, RightForm, StmtForm, skips, assigns, assigns_record, frees, gets, writes, writes_text, chooses, repeats, counts, exits, calls, returns, raises, encloses, StmtsForm, no_stmts, a_stmt, BranchesForm, otherwise, a_branch, HandlersForm, DeclarationForm, creates_pool, collects, declares, declares_record}
use Rattle.ada_program.specs.Handling.{handler_of}
use Rattle.ada_program.specs.ProgramForm.{BodyForm}
use Rattle.ada_program.specs.Typed.{words_of, width_of}
use Rattle.ada_parts.specs.declared.tasks.Direction.TheVariants.{PartsFirst}
use Rattle.ada_parts.specs.Task.{performs, next as task_next}
use Rattle.ada_parts.specs.Part.{Part}
use Rattle.ada_meaning.specs.declared.event.Birth.{Birth}
use Rattle.ada_meaning.specs.declared.event.Birth.TheVariants.{Creation, Copy, Adjustment}
use Rattle.ada_meaning.specs.declared.event.Cause.TheVariants.{Undoing}
use Rattle.ada_meaning.specs.declared.state.Value.{Value}
use Rattle.ada_meaning.specs.declared.state.Value.TheVariants.{Null, Names}
use Rattle.ada_meaning.specs.declared.state.Mode.{Mode}
use Rattle.ada_meaning.specs.declared.state.Mode.TheVariants.{Running, Raising, Exiting, Returning}
use Rattle.ada_meaning.specs.Event.{Quiet}
use Rattle.ada_meaning.specs.Frame.{Frame, is_master, is_loop, is_return, Landing, passes_on, goes_behind, goes_in, breaks_off, escapes, operation_landing, handler_landing, landing}
use Rattle.ada_meaning.specs.Frame as frame
use Rattle.ada_meaning.specs.Heap.{Cell, Found, on_null, on_gone, on_other, finds}
use Rattle.ada_meaning.specs.Step.{moves, has_parts, all_tasks, at, popped, held, newest, record_next, storing, assign_next, target_next, stored_next, store_next, frees_next, branches_next, decided_next, turn_next, repeats_next, turned_next, count_turn_next, ranges_next, gets_next, received_next, receive_next, exit_next, exited_next, computing, call_next, stmt_next, stmts_next, line_next, declarations_next, frame_next, left_by, unwound, undo_next, broken_next, broken_off, landed, pass_next, running_next, jump_next, mode_next}
use Rattle.ada_meaning.specs.Named.{State, next, named, same, look, lent, reads_boolean, reads_null, reads_integer, unary_given, binary_given}
use Rattle.ada_meaning.specs.State.{home_of}
use Rattle.ada_idle.proofs.Frames.{AllFrames, AllFramesNext, BranchesHold, IsClosed}
use Rattle.ada_idle.proofs.FrameForms.{assigns_keeps, back_keeps, copies_keeps, copying_keeps, end_keeps, expression_keeps, free_in_keeps, free_keeps, holder_keeps, items_keeps, links_keeps, new_keeps, null_test_keeps, open_keeps, opens_keeps, outcome_keeps, path_keeps, record_assign_keeps, record_holder_keeps, record_target_keeps, refers_keeps, right_keeps, store_record_keeps, treating_keeps}
use Rattle.ada_idle.proofs.FrameTreatments.{awaited_keeps, treats_keeps, leave_keeps}

module _ (types : List TypeDefinition) (bodies : List BodyForm) (Q : Frame Value → Type 0) (closed : IsClosed types bodies Q) where
  -- What is assigned to, stored in and read to.
  assign_keeps : (cs : List ℕ) (x : ℕ) (right : RightForm) (s : State) → Q (frame.Evaluates right) → ((c : ℕ) → Q (frame.Targets c right)) → AllFrames Q s.control
      → AllFramesNext Q (assign_next named cs x right s)
  assign_keeps [] x right s own inside h = (own, (closed.plain refl, h))
  assign_keeps (c ∷ cs) x right s own inside h =
      holder_keeps types bodies Q closed c cs x (λ last. frame.Targets last right) s (λ n. (inside n, h))

  target_keeps : (o : Value) (c : ℕ) (right : RightForm) (found : Found (Cell Value)) (s : State) → Q (frame.Evaluates right) → AllFrames Q s.control
      → AllFramesNext Q (target_next named o c right found s)
  target_keeps o c right on_null s own h = h
  target_keeps o c right on_gone s own h = tt
  target_keeps o c right on_other s own h = tt
  target_keeps o c right (finds cell) s own h = (own, (closed.plain refl, h))

  stored_keeps : (o : Value) (c : ℕ) (v : Value) (found : Option Value) (s : State) → AllFrames Q s.control
      → AllFramesNext Q (stored_next named o c v found s)
  stored_keeps o c v None s h = tt
  stored_keeps o c v (Some before) s h = h

  store_keeps : (o : Value) (c : ℕ) (v : Value) (found : Found (Cell Value)) (s : State) → AllFrames Q s.control
      → AllFramesNext Q (store_next named o c v found s)
  store_keeps o c v on_null s h = tt
  store_keeps o c v on_gone s h = tt
  store_keeps o c v on_other s h = tt
  store_keeps o c v (finds cell) s h = stored_keeps o c v (slice_get cell.values c) s h

  frees_keeps : (cs : List ℕ) (access x : ℕ) (s : State) → ((c : ℕ) (rest : List ℕ) (last : ℕ) → cs ≡ c ∷ rest → Q (frame.FreesIn access last))
      → AllFrames Q s.control → AllFramesNext Q (frees_next named types cs access x s)
  frees_keeps [] access x s own h = free_keeps types bodies Q closed access x (held named s x) (named.standing s.heap (held named s x)) s h
  frees_keeps (c ∷ cs) access x s own h =
      holder_keeps types bodies Q closed c cs x (λ last. frame.FreesIn access last) s (λ n. (own c cs n refl, h))

  branches_keeps : (branches : BranchesForm) (s : State) → BranchesHold Q branches → AllFrames Q s.control → AllFramesNext Q (branches_next named branches s)
  branches_keeps (otherwise fs) s own h = (own, h)
  branches_keeps (a_branch e fs branches) s own h = (closed.plain refl, (own, h))

  decided_keeps : (fs : StmtsForm) (branches : BranchesForm) (truth : Option Bool) (s : State) → Q (frame.Decides fs branches) → AllFrames Q s.control
      → AllFramesNext Q (decided_next named fs branches truth s)
  decided_keeps fs branches None s own h = tt
  decided_keeps fs branches (Some true) s own h = ((closed.decides fs branches own).0, h)
  decided_keeps fs branches (Some false) s own h = branches_keeps branches s (closed.decides fs branches own).1 h

  turn_keeps : (condition : Option ExpressionForm) (fs : StmtsForm) (s : State) → Q (frame.Repeats condition fs) → AllFrames Q s.control
      → AllFramesNext Q (turn_next named condition fs s)
  turn_keeps condition no_stmts s own h = tt
  turn_keeps condition (a_stmt f fs) s own h = (closed.repeats_once condition (a_stmt f fs) own, (own, h))

  repeats_keeps : (condition : Option ExpressionForm) (fs : StmtsForm) (s : State) → Q (frame.Repeats condition fs) → AllFrames Q s.control
      → AllFramesNext Q (repeats_next named condition fs s)
  repeats_keeps None fs s own h = turn_keeps None fs s own h
  repeats_keeps (Some e) fs s own h = (closed.plain refl, (closed.tests_turn e fs own, h))

  turned_keeps : (e : ExpressionForm) (fs : StmtsForm) (truth : Option Bool) (s : State) → Q (frame.Turns e fs) → AllFrames Q s.control
      → AllFramesNext Q (turned_next named e fs truth s)
  turned_keeps e fs None s own h = tt
  turned_keeps e fs (Some true) s own h = turn_keeps (Some e) fs s (closed.turns_on e fs own) h
  turned_keeps e fs (Some false) s own h = h

  count_turn_keeps : (x : ℕ) (value last : ℤ) (fs : StmtsForm) (s : State) → Q (frame.Counts x value last fs) → AllFrames Q s.control
      → AllFramesNext Q (count_turn_next named x value last fs s)
  count_turn_keeps x value last no_stmts s own h = tt
  count_turn_keeps x value last (a_stmt f fs) s own h =
      (closed.counts_once x value last (a_stmt f fs) own, (closed.counts_on x value last (value +ℤ pos 1) (a_stmt f fs) own, h))

  counting_keeps : (more : Bool) (x : ℕ) (value last : ℤ) (fs : StmtsForm) (s : State) → Q (frame.Counts x value last fs) → AllFrames Q s.control
      → AllFramesNext Q (if more then count_turn_next named x value last fs s else moves Quiet s)
  counting_keeps true x value last fs s own h = count_turn_keeps x value last fs s own h
  counting_keeps false x value last fs s own h = h

  ranges_keeps : (x : ℕ) (fs : StmtsForm) (low high : Option ℤ) (s : State) → Q (frame.Ranges x fs) → AllFrames Q s.control
      → AllFramesNext Q (ranges_next named x fs low high s)
  ranges_keeps x fs None high s own h = tt
  ranges_keeps x fs (Some low) None s own h = tt
  ranges_keeps x fs (Some low) (Some high) s own h = counting_keeps (int_le low high) x low high fs s (closed.counts_from x low high fs own) h

  gets_keeps : (cs : List ℕ) (x : ℕ) (input : List ℤ) (s : State) → AllFrames Q s.control → AllFramesNext Q (gets_next named cs x input s)
  gets_keeps (c ∷ cs) x input s h = holder_keeps types bodies Q closed c cs x (λ last. frame.Receives last) s (λ n. (closed.plain refl, h))
  gets_keeps [] x [] s h = h
  gets_keeps [] x (i ∷ is) s h = h

  received_keeps : (o : Value) (c : ℕ) (input : List ℤ) (found : Option Value) (s : State) → AllFrames Q s.control
      → AllFramesNext Q (received_next named o c input found s)
  received_keeps o c input None s h = tt
  received_keeps o c [] (Some before) s h = h
  received_keeps o c (i ∷ is) (Some before) s h = h

  receive_keeps : (o : Value) (c : ℕ) (found : Found (Cell Value)) (s : State) → AllFrames Q s.control
      → AllFramesNext Q (receive_next named o c found s)
  receive_keeps o c on_null s h = h
  receive_keeps o c on_gone s h = tt
  receive_keeps o c on_other s h = tt
  receive_keeps o c (finds cell) s h = received_keeps o c s.input (slice_get cell.values c) s h

  exit_keeps : (condition : Option ExpressionForm) (s : State) → AllFrames Q s.control → AllFramesNext Q (exit_next named condition s)
  exit_keeps None s h = h
  exit_keeps (Some e) s h = (closed.plain refl, (closed.plain refl, h))

  exited_keeps : (truth : Option Bool) (s : State) → AllFrames Q s.control → AllFramesNext Q (exited_next named truth s)
  exited_keeps None s h = tt
  exited_keeps (Some true) s h = h
  exited_keeps (Some false) s h = h

  -- A call (6.4): its actual parameters are evaluated before its body begins. That is a body of the program.
  computing_keeps : (actuals : List ActualForm) (k : List (Frame Value)) → AllFrames Q k → AllFrames Q (computing named actuals k)
  computing_keeps [] k h = h
  computing_keeps (in_value e ∷ rest) k h = (closed.plain refl, computing_keeps rest k h)
  computing_keeps (in_null ∷ rest) k h = (closed.evaluates_nothing, computing_keeps rest k h)
  computing_keeps (in_access path ∷ rest) k h = (closed.evaluates_path path, computing_keeps rest k h)
  computing_keeps (in_record p ∷ rest) k h = (closed.plain refl, computing_keeps rest k h)
  computing_keeps (in_out_path path ∷ rest) k h = (closed.plain refl, computing_keeps rest k h)
  computing_keeps (in_out_access path ∷ rest) k h = (closed.evaluates_path path, computing_keeps rest k h)
  computing_keeps (in_out_component path ∷ rest) k h = (closed.plain refl, computing_keeps rest k h)
  computing_keeps (in_out_record p ∷ rest) k h = (closed.plain refl, computing_keeps rest k h)

  storing_keeps : (references : List Value) (k : List (Frame Value)) → AllFrames Q k → AllFrames Q (storing named references k)
  storing_keeps [] k h = h
  storing_keeps (r ∷ rs) k h = (closed.plain refl, storing_keeps rs k h)

  call_keeps : (procedure : ℕ) (actuals : List ActualForm) (body : Option BodyForm) (s : State)
      → ((b : BodyForm) → body ≡ Some b → Q (frame.Calls procedure b actuals)) → AllFrames Q s.control
      → AllFramesNext Q (call_next named procedure actuals body s)
  call_keeps procedure actuals None s own h = tt
  call_keeps procedure actuals (Some b) s own h = computing_keeps actuals (frame.Calls procedure b actuals ∷ s.control) (own b refl, h)

  -- The first of some statements (5.1).
  stmt_keeps : (f : StmtForm) (fs : StmtsForm) (s : State) → Q (frame.Does (a_stmt f fs)) → AllFrames Q s.control → AllFramesNext Q (stmt_next named types bodies f s)
  stmt_keeps skips fs s own h = h
  stmt_keeps (assigns target right) fs s own h =
      assign_keeps target.selectors target.root right s (closed.assigns_value target right fs own) (λ c. closed.assigns_in target right fs c own) h
  stmt_keeps (assigns_record target items) fs s own h =
      record_assign_keeps types bodies Q closed (has_parts types target.record_type) target items s (closed.assigns_parts target items fs own) h
  stmt_keeps (frees access path) fs s own h =
      frees_keeps path.selectors access path.root s (λ c cs last named_in. closed.frees_in access path fs c cs last own named_in) h
  stmt_keeps (gets target) fs s own h = gets_keeps target.selectors target.root s.input s h
  stmt_keeps (writes e) fs s own h = (closed.plain refl, (closed.plain refl, h))
  stmt_keeps (writes_text text) fs s own h = h
  stmt_keeps (chooses branches) fs s own h = branches_keeps branches s (closed.chooses_one branches fs own) h
  stmt_keeps (repeats condition gs end_spot) fs s own h = (closed.begins_loop condition gs end_spot fs own, h)
  stmt_keeps (counts x low high gs end_spot) fs s own h =
      (closed.plain refl, (closed.plain refl, (closed.begins_count x low high gs end_spot fs own, h)))
  stmt_keeps (exits condition spot) fs s own h = exit_keeps condition s h
  stmt_keeps (calls procedure actuals) fs s own h =
      call_keeps procedure actuals (slice_get bodies procedure) s (λ b at_body. closed.calls_body procedure actuals b fs own at_body) h
  stmt_keeps (returns spot) fs s own h = h
  stmt_keeps (raises e) fs s own h = h
  stmt_keeps (encloses ds gs hs) fs s own h = (closed.begins_block ds gs hs fs own, h)

  stmts_keeps : (fs : StmtsForm) (s : State) → Q (frame.Does fs) → AllFrames Q s.control → AllFramesNext Q (stmts_next named types bodies fs s)
  stmts_keeps no_stmts s own h = h
  stmts_keeps (a_stmt f fs) s own h = stmt_keeps f fs (at (frame.Does fs ∷ s.control) s) own (closed.does_on f fs own, h)

  line_keeps : (read : Option ℤ) (s : State) → AllFrames Q s.control → AllFramesNext Q (line_next named read s)
  line_keeps None s h = tt
  line_keeps (Some i) s h = h

  -- A record object is made (3.3.1).
  record_keeps : (x t : ℕ) (initial : Option (List ItemForm)) (s : State)
      → ((items : List ItemForm) → initial ≡ Some items → Q (frame.DeclaresRecord x t)) → AllFrames Q s.control
      → AllFramesNext Q (record_next named types x t initial s)
  record_keeps x t None s own h =
      let v = Names (record { 0 = length s.heap }) in
      treating_keeps types bodies Q closed v (frame.begins Creation []) (all_tasks types t PartsFirst) s.control
      (closed.creates_any v (all_tasks types t PartsFirst)) h
  record_keeps x t (Some items) s own h = (closed.plain refl, (own items refl, h))

  -- Declarations (3.11).
  declarations_keeps : (ds : List DeclarationForm) (fs : StmtsForm) (hs : HandlersForm) (s : State) → Q (frame.Elaborates ds fs hs) → AllFrames Q s.control
      → AllFramesNext Q (declarations_next named types ds fs hs s)
  declarations_keeps [] fs hs s own h =
      let both = closed.elaborated fs hs own in
      (both.0, (both.1, (closed.plain refl, h)))
  declarations_keeps (creates_pool p ∷ ds) fs hs s own h = (closed.elaborates_on (creates_pool p) ds fs hs own, h)
  declarations_keeps (collects access ∷ ds) fs hs s own h = (closed.elaborates_on (collects access) ds fs hs own, h)
  declarations_keeps (declares x right ∷ ds) fs hs s own h =
      (closed.declares_value x right ds fs hs own, (closed.plain refl, (closed.elaborates_on (declares x right) ds fs hs own, h)))
  declarations_keeps (declares_record x t initial ∷ ds) fs hs s own h =
      record_keeps x t initial (at (frame.Elaborates ds fs hs ∷ s.control) s)
      (λ items given. closed.declares_copy x t items ds fs hs (subst (λ (i : Option (List ItemForm)). Q (frame.Elaborates (declares_record x t i ∷ ds) fs hs)) given own))
      (closed.elaborates_on (declares_record x t initial) ds fs hs own, h)

  -- Each frame that is taken off.
  frame_keeps : (f : Frame Value) (s : State) → Q f → AllFrames Q s.control
      → AllFramesNext Q (frame_next named types bodies f s)
  frame_keeps (frame.Elaborates ds fs hs) s own h = declarations_keeps ds fs hs s own h
  frame_keeps (frame.Does fs) s own h = stmts_keeps fs s own h
  frame_keeps (frame.Decides fs branches) s own h = decided_keeps fs branches (reads_boolean (newest named s)) (popped s) own h
  frame_keeps (frame.Repeats condition fs) s own h = repeats_keeps condition fs s own h
  frame_keeps (frame.Turns condition fs) s own h = turned_keeps condition fs (reads_boolean (newest named s)) (popped s) own h
  frame_keeps (frame.Ranges x fs) s own h =
      ranges_keeps x fs (reads_integer (newest named (popped s))) (reads_integer (newest named s)) (popped (popped s)) own h
  frame_keeps (frame.Counts x value last fs) s own h = counting_keeps (int_le value last) x value last fs s own h
  frame_keeps frame.Exits s own h = exited_keeps (reads_boolean (newest named s)) (popped s) h
  frame_keeps (frame.Handles hs) s own h = h
  frame_keeps frame.Closes s own h = (closed.plain refl, h)
  frame_keeps (frame.Leaves mode) s own h = leave_keeps types bodies Q closed mode s.masters s h
  frame_keeps (frame.Calls procedure b actuals) s own h =
      (closed.begins_call procedure b actuals own, (closed.plain refl, h))
  frame_keeps (frame.Returns actuals references) s own h = storing_keeps references s.control h
  frame_keeps (frame.Evaluates right) s own h = right_keeps types bodies Q closed right s own h
  frame_keeps (frame.Computes e) s own h = expression_keeps types bodies Q closed e s h
  frame_keeps (frame.Follows cs) s own h = path_keeps types bodies Q closed cs (newest named s) (popped s) h
  frame_keeps (frame.TestsNull equal) s own h = null_test_keeps types bodies Q closed equal (reads_null (newest named s)) (popped s) h
  frame_keeps (frame.Refers p) s own h =
      record_holder_keeps types bodies Q closed p (λ place. frame.RefersIn place p.record_type) s (λ place. (closed.plain refl, h))
  frame_keeps (frame.RefersIn place t) s own h =
      refers_keeps types bodies Q closed (newest named s) place (width_of types t) (look s.heap (newest named s)) (popped s) h
  frame_keeps (frame.Opens path) s own h = open_keeps types bodies Q closed path.selectors path.root s h
  frame_keeps (frame.OpensIn c) s own h = opens_keeps types bodies Q closed (newest named s) c (look s.heap (newest named s)) (popped s) h
  frame_keeps (frame.Continues links) s own h = links_keeps types bodies Q closed links s h
  frame_keeps (frame.Applies operator) s own h =
      outcome_keeps types bodies Q closed (binary_given operator (newest named (popped s)) (newest named s)) (popped (popped s)) h
  frame_keeps (frame.AppliesAlone operator) s own h = outcome_keeps types bodies Q closed (unary_given operator (newest named s)) (popped s) h
  frame_keeps (frame.Fills items) s own h = items_keeps types bodies Q closed items s h
  frame_keeps (frame.Copies first t) s own h =
      copies_keeps types bodies Q closed (newest named s) first (width_of types t) (look s.heap (newest named s)) (popped s) h
  frame_keeps (frame.Creates access count) s own h = new_keeps types bodies Q closed access count (words_of types access) (home_of access s.masters) s h
  frame_keeps (frame.Stores x) s own h = h
  frame_keeps (frame.Declares x) s own h = h
  frame_keeps (frame.Treats v treatment tasks) s own h = treats_keeps types bodies Q closed v treatment tasks (task_next tasks) s own h
  frame_keeps (frame.Awaits v by done of part tasks) s own h = awaited_keeps types bodies Q closed v by done of part tasks (look s.heap v) s own h
  frame_keeps frame.Confines s own h = h
  frame_keeps (frame.Resumes mode) s own h = h
  frame_keeps frame.Writes s own h = line_keeps (reads_integer (newest named s)) (popped s) h
  frame_keeps (frame.Ends v) s own h = end_keeps types bodies Q closed v (look s.heap v) s h
  frame_keeps (frame.GivesBack v cause pool) s own h = back_keeps types bodies Q closed v cause pool (lent s.heap v) s h
  frame_keeps (frame.Clears x) s own h = h
  frame_keeps (frame.Targets c right) s own h = target_keeps (newest named s) c right (look s.heap (newest named s)) (popped s) (closed.targets c right own) h
  frame_keeps (frame.StoresIn o c) s own h = store_keeps o c (newest named s) (look s.heap o) (popped s) h
  frame_keeps (frame.TargetsRecord first t items) s own h =
      record_target_keeps types bodies Q closed (newest named s) first (width_of types t) items (look s.heap (newest named s)) (popped s) h
  frame_keeps (frame.StoresRecord o first count) s own h = store_record_keeps types bodies Q closed o first count (look s.heap o) s h
  frame_keeps (frame.Assigns t) s own h =
      let target = newest named (popped s) in
      let source = newest named s in
      assigns_keeps types bodies Q closed t target source (same target source) (popped (popped s)) own h
  frame_keeps (frame.DeclaresRecord x t) s own h =
      copying_keeps types bodies Q closed (Names (record { 0 = length s.heap })) x t (all_tasks types t PartsFirst) s.control refl own h
  frame_keeps (frame.Receives c) s own h = receive_keeps (newest named s) c (look s.heap (newest named s)) (popped s) h
  frame_keeps (frame.FreesIn access c) s own h = free_in_keeps types bodies Q closed access (newest named s) c (look s.heap (newest named s)) (popped s) h
  frame_keeps (frame.ClearsIn o c) s own h = store_keeps o c Null (look s.heap o) s h

  -- A jump: what it passes, and where it lands (11.4).
  abbrev LandsWell : Landing Value → Type 0
  LandsWell passes_on = Unit {0}
  LandsWell goes_behind = Unit {0}
  LandsWell (goes_in fs) = Q (frame.Does fs)
  LandsWell (breaks_off v by done) = Unit {0}
  LandsWell escapes = Unit {0}

  handler_lands : (handler : Option StmtsForm) → ((fs : StmtsForm) → handler ≡ Some fs → Q (frame.Does fs)) → LandsWell (handler_landing handler)
  handler_lands None own = tt
  handler_lands (Some fs) own = own fs refl

  raised_lands : (e : Exception) (f : Frame Value) → Q f → LandsWell (landing (Raising e) f)
  raised_lands e (frame.Handles hs) own = handler_lands (handler_of e hs) (λ fs handled. closed.handles e hs fs own handled)
  raised_lands e f own = tt

  none_lands : (f : Frame Value) → LandsWell (operation_landing f)
  none_lands (frame.Awaits v by done of part tasks) = tt
  none_lands frame.Confines = tt
  none_lands f = tt

  exit_lands : (ends_here : Bool) (otherwise_at : Landing Value) → LandsWell otherwise_at → LandsWell (if ends_here then goes_behind else otherwise_at)
  exit_lands true otherwise_at lands = tt
  exit_lands false otherwise_at lands = lands

  lands : (mode : Mode) (f : Frame Value) → Q f → LandsWell (landing mode f)
  lands Running f own = tt
  lands (Raising e) f own = raised_lands e f own
  lands Exiting f own = exit_lands (is_loop f) (operation_landing f) (none_lands f)
  lands Returning f own = exit_lands (is_return f) (operation_landing f) (none_lands f)

  -- An exception comes out of an operation that was to begin a part: what has begun of the object is undone (7.6.1).
  undo_keeps : (e : Exception) (v : Value) (done : List Part) (found : Found (Cell Value)) (s : State) → AllFrames Q s.control
      → AllFramesNext Q (undo_next named e v done found s)
  undo_keeps e v done on_null s h = tt
  undo_keeps e v done on_gone s h = tt
  undo_keeps e v done on_other s h = tt
  undo_keeps e v done (finds cell) s h =
      treating_keeps types bodies Q closed v (frame.ends (Undoing s.next)) (map (λ p. performs p.of p.number) done)
      (frame.Ends v ∷ frame.GivesBack v (Undoing s.next) cell.home.pool ∷ frame.Resumes (Raising e) ∷ s.control)
      (closed.ends_any v (Undoing s.next) (map (λ p. performs p.of p.number) done)) (closed.plain refl, (closed.plain refl, (closed.plain refl, h)))

  broken_keeps : (e : Exception) (v : Value) (by : Birth) (done : List Part) (s : State) → AllFrames Q s.control
      → AllFramesNext Q (broken_next named e v by done s)
  broken_keeps e v Creation done s h = undo_keeps e v done (look s.heap v) s h
  broken_keeps e v Copy done s h = tt
  broken_keeps e v (Adjustment number) done s h = tt

  broken_off_keeps : (mode : Mode) (v : Value) (by : Birth) (done : List Part) (s : State) → AllFrames Q s.control
      → AllFramesNext Q (broken_off named mode v by done s)
  broken_off_keeps Running v by done s h = tt
  broken_off_keeps (Raising e) v by done s h = broken_keeps e v by done s h
  broken_off_keeps Exiting v by done s h = tt
  broken_off_keeps Returning v by done s h = tt

  landed_keeps : (l : Landing Value) (mode : Mode) (s : State) → LandsWell l → AllFrames Q s.control
      → AllFramesNext Q (landed named l mode s)
  landed_keeps passes_on mode s lands h = h
  landed_keeps goes_behind mode s lands h = h
  landed_keeps (goes_in no_stmts) mode s lands h = tt
  landed_keeps (goes_in (a_stmt f fs)) mode s lands h = (lands, h)
  landed_keeps (breaks_off v by done) mode s lands h = broken_off_keeps mode v by done s h
  landed_keeps escapes mode s lands h = tt

  -- A master that it comes to is left first.
  pass_keeps : (master : Bool) (l : Landing Value) (mode : Mode) (s : State) → LandsWell l → AllFrames Q s.control
      → AllFramesNext Q (pass_next named master l mode s)
  pass_keeps true l mode s lands h = (closed.plain refl, h)
  pass_keeps false l mode s lands h = landed_keeps l mode s lands h

  -- Behind a normal end of a call components get something back (6.4.1).
  left_keeps : (mode : Mode) (actuals : List ActualForm) (references : List Value) (s : State) → AllFrames Q s.control
      → AllFrames Q (left_by named mode actuals references s).control
  left_keeps Running actuals references s h = h
  left_keeps (Raising e) actuals references s h = h
  left_keeps Exiting actuals references s h = h
  left_keeps Returning actuals references s h = storing_keeps references s.control h

  unwound_keeps : (mode : Mode) (f : Frame Value) (s : State) → AllFrames Q s.control → AllFrames Q (unwound named mode f s).control
  unwound_keeps mode (frame.Returns actuals references) s h = left_keeps mode actuals references s h
  unwound_keeps mode f s h = h

  jump_keeps : (mode : Mode) (k : List (Frame Value)) (s : State) → AllFrames Q k → AllFramesNext Q (jump_next named mode k s)
  jump_keeps mode [] s h = tt
  jump_keeps mode (f ∷ k) s h =
      pass_keeps (is_master f) (landing mode f) mode (unwound named mode f (at k s)) (lands mode f h.0) (unwound_keeps mode f (at k s) h.1)

  running_keeps : (k : List (Frame Value)) (s : State) → AllFrames Q k → AllFramesNext Q (running_next named types bodies k s)
  running_keeps [] s h = tt
  running_keeps (f ∷ k) s h = frame_keeps f (at k s) h.0 h.1

  mode_keeps : (mode : Mode) (s : State) → AllFrames Q s.control → AllFramesNext Q (mode_next named types bodies mode s)
  mode_keeps Running s h = running_keeps s.control s h
  mode_keeps (Raising e) s h = jump_keeps (Raising e) s.control s h
  mode_keeps Exiting s h = jump_keeps Exiting s.control s h
  mode_keeps Returning s h = jump_keeps Returning s.control s h

-- Each step keeps it, whatever comes next.
pub next_keeps : (types : List TypeDefinition) (bodies : List BodyForm) (Q : Frame Value → Type 0) → IsClosed types bodies Q → (s : State) → AllFrames Q s.control
    → AllFramesNext Q (next types bodies s)
unfolding next
next_keeps types bodies Q closed s h = mode_keeps types bodies Q closed s.mode s h
