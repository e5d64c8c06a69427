-- Each step: what is left to do stands on, and variables that are records hold what they held, or the name of a new object.

use Rattle.ada_declared.proofs.Standing.{ActualsSpare, StmtSpares, StmtsSpare, BranchesSpare, HandlersSpare, ends_operation, IsOther, FrameSpares, StandsBy, StandsIn, goes_same, goes_operands, goes_put, goes_back, stands_on, stands_new, treating_stands, storing_stands, given_each}
use Rattle.ada_declared.proofs.Evaluations.{LeftBy, Holds, AllHold, on_operands, less, path_holds, holder_holds, record_holder_holds, expression_holds, null_test_holds, links_hold, outcome_holds, items_hold, copies_hold, record_target_holds, store_record_holds, record_assign_holds, assigns_hold, new_holds, refers_hold, open_holds, opens_hold, right_holds, free_holds, free_in_holds, end_holds, back_holds}
use Rattle.ada_declared.proofs.Treatments.{BodiesSpare, AllCome, none_declared, awaited_comes, treats_come, leave_holds}
use Rattle.std.proofs.Common.{◌≡◌, ℕ, Bool, true, false, if◌then◌else◌, List, [], ◌∷◌, ◌++◌, length, ◌≤◌, suc, map, Option, Some, None, arith, refl, sym, subst}
use Rattle.std.specs.Prelude.{ℤ, int_le}
use Rattle.std.specs.List.{slice_get, slice_set}
use Rattle.ada_program.specs.declared.program.TypeDefinition.{TypeDefinition}
use Rattle.ada_program.specs.declared.program.Exception.{Exception}
use Rattle.ada_program.specs.Form.{ActualForm, in_value, in_null, in_access, in_record, in_out_path, in_out_access, in_out_component, in_out_record, ExpressionForm, ItemForm, RightForm, StmtForm, skips, assigns, assigns_record, frees, gets, writes, writes_text, chooses, repeats, counts, exits, calls, returns, raises, encloses, StmtsForm, no_stmts, a_stmt, BranchesForm, otherwise, a_branch, HandlersForm, no_handlers, a_handler, DeclarationForm, creates_pool, collects, declares, declares_record}
use Rattle.ada_program.specs.Handling.{some_takes, handler_of}
use Rattle.ada_program.specs.ProgramForm.{BodyForm}
use Rattle.ada_program.specs.Typed.{reached_of, words_of, width_of}
use Rattle.ada_parts.specs.declared.tasks.Direction.TheVariants.{PartsFirst}
use Rattle.ada_parts.specs.Part.{Part}
use Rattle.ada_parts.specs.Task.{performs, next as task_next}
use Rattle.ada_meaning.specs.declared.event.Birth.{Birth}
use Rattle.ada_meaning.specs.declared.event.Birth.TheVariants.{Creation, Copy, Adjustment}
use Rattle.ada_meaning.specs.declared.event.Cause.TheVariants.{Undoing}
use Rattle.ada_finalized.specs.Law.{NoOperationRunsOn}
use Rattle.ada_declared.specs.Declared.{IsRecordOf, DeclaresApart, StandsApart, formals_given}
use Rattle.ada_meaning.specs.declared.state.Id.{Id}
use Rattle.ada_meaning.specs.declared.state.Value.{Value}
use Rattle.ada_meaning.specs.declared.state.Value.TheVariants.{Null, Names}
use Rattle.ada_meaning.specs.declared.state.Mode.{Mode}
use Rattle.ada_meaning.specs.declared.state.Mode.TheVariants.{Running, Raising, Exiting, Returning}
use Rattle.ada_meaning.specs.Event.{Quiet}
use Rattle.ada_meaning.specs.Frame.{Frame, is_loop, is_return, is_master, Landing, passes_on, goes_behind, goes_in as lands_in, breaks_off, escapes, operation_landing, handler_landing, landing}
use Rattle.ada_meaning.specs.Frame as frame
use Rattle.ada_meaning.specs.Heap.{Cell, Found, on_null, on_gone, on_other, finds}
use Rattle.ada_meaning.specs.State.{Activation, home_of}
use Rattle.ada_meaning.specs.Step.{halts, moves, tells, asks, picks, older, places_of, procedure_of, with_places, with_operands, copied_back, stored_back, places, operands, put, treating, has_parts, all_tasks, at, popped, held, newest, newest_ones, without_newest, given_values, one_given, value_given, given_places, operand_count, initial_values, made, record_next, storing, assign_next, target_next, stored_next, store_next, frees_next, branches_next, decided_next, turn_next, repeats_next, turned_next, count_turn_next, ranges_next, gets_next, received_next, receive_next, exit_next, exited_next, computing, call_next, stmt_next, stmts_next, line_next, declarations_next, frame_next, resumed, returned, unwound, undo_next, broken_next, broken_off, landed, pass_next}
use Rattle.ada_meaning.specs.Named.{State, Next, next, named, same, look, lent, standing, reads_boolean, reads_null, reads_integer, unary_given, binary_given}
use Rattle.ada_typed.proofs.Kept.{procedure_operands}

-- Does a call begin or end at this frame, or is an object treated, or declared?
abbrev may_cross : Frame Value → Bool
may_cross (frame.Calls procedure b actuals) = true
may_cross (frame.Returns actuals references) = true
may_cross (frame.Treats v treatment tasks) = true
may_cross (frame.Awaits v by done of part tasks) = true
may_cross (frame.Elaborates ds fs hs) = true
may_cross (frame.DeclaresRecord x t) = true
may_cross f = false

module _ (types : List TypeDefinition) (bodies : List BodyForm) (w : List (Activation Value)) where
  -- A variable to which may be written gets a value.
  put_holds : (x : ℕ) (v : Value) (s : State) → IsOther bodies (procedure_of w) x → Holds types bodies w s → Holds types bodies w (put x v s)
  put_holds x v s other h = (h.0, goes_put bodies w x v s.activations other h.1)

  -- What is assigned to, stored in and read to.
  assign_holds : (cs : List ℕ) (x : ℕ) (right : RightForm) (s : State) → (cs ≡ [] → IsOther bodies (procedure_of w) x) → Holds types bodies w s
      → AllHold types bodies w (assign_next named cs x right s)
  assign_holds [] x right s own h = ((tt, (own refl, h.0)), h.1)
  assign_holds (c ∷ cs) x right s own h = holder_holds types bodies w c cs x (λ last. frame.Targets last right) s (λ n. (tt, h.0)) h.1

  target_holds : (o : Value) (c : ℕ) (right : RightForm) (found : Found (Cell Value)) (s : State) → Holds types bodies w s
      → AllHold types bodies w (target_next named o c right found s)
  target_holds o c right on_null s h = on_operands types bodies w _ s h
  target_holds o c right on_gone s h = tt
  target_holds o c right on_other s h = tt
  target_holds o c right (finds cell) s h = ((tt, (tt, h.0)), h.1)

  stored_holds : (o : Value) (c : ℕ) (v : Value) (found : Option Value) (s : State) → Holds types bodies w s → AllHold types bodies w (stored_next named o c v found s)
  stored_holds o c v None s h = tt
  stored_holds o c v (Some before) s h = h

  store_holds : (o : Value) (c : ℕ) (v : Value) (found : Found (Cell Value)) (s : State) → Holds types bodies w s → AllHold types bodies w (store_next named o c v found s)
  store_holds o c v on_null s h = tt
  store_holds o c v on_gone s h = tt
  store_holds o c v on_other s h = tt
  store_holds o c v (finds cell) s h = stored_holds o c v (slice_get cell.values c) s h

  frees_hold : (cs : List ℕ) (access x : ℕ) (s : State) → (cs ≡ [] → IsOther bodies (procedure_of w) x) → Holds types bodies w s
      → AllHold types bodies w (frees_next named types cs access x s)
  frees_hold [] access x s own h = free_holds types bodies w access x (held named s x) (standing s.heap (held named s x)) s (own refl, h.0) h
  frees_hold (c ∷ cs) access x s own h = holder_holds types bodies w c cs x (λ last. frame.FreesIn access last) s (λ n. (tt, h.0)) h.1

  branches_hold : (branches : BranchesForm) (s : State) → BranchesSpare (IsOther bodies (procedure_of w)) branches → Holds types bodies w s
      → AllHold types bodies w (branches_next named branches s)
  branches_hold (otherwise fs) s own h = ((own, h.0), h.1)
  branches_hold (a_branch e fs branches) s own h = ((tt, (own, h.0)), h.1)

  decided_holds : (fs : StmtsForm) (branches : BranchesForm) (truth : Option Bool) (s : State)
      → StmtsSpare (IsOther bodies (procedure_of w)) fs × BranchesSpare (IsOther bodies (procedure_of w)) branches → Holds types bodies w s
      → AllHold types bodies w (decided_next named fs branches truth s)
  decided_holds fs branches None s own h = tt
  decided_holds fs branches (Some true) s own h = ((own.0, h.0), h.1)
  decided_holds fs branches (Some false) s own h = branches_hold branches s own.1 h

  turn_holds : (condition : Option ExpressionForm) (fs : StmtsForm) (s : State) → StmtsSpare (IsOther bodies (procedure_of w)) fs → Holds types bodies w s
      → AllHold types bodies w (turn_next named condition fs s)
  turn_holds condition no_stmts s own h = tt
  turn_holds condition (a_stmt f fs) s own h = ((own, (own, h.0)), h.1)

  repeats_hold : (condition : Option ExpressionForm) (fs : StmtsForm) (s : State) → StmtsSpare (IsOther bodies (procedure_of w)) fs → Holds types bodies w s
      → AllHold types bodies w (repeats_next named condition fs s)
  repeats_hold None fs s own h = turn_holds None fs s own h
  repeats_hold (Some e) fs s own h = ((tt, (own, h.0)), h.1)

  turned_holds : (e : ExpressionForm) (fs : StmtsForm) (truth : Option Bool) (s : State) → StmtsSpare (IsOther bodies (procedure_of w)) fs → Holds types bodies w s
      → AllHold types bodies w (turned_next named e fs truth s)
  turned_holds e fs None s own h = tt
  turned_holds e fs (Some true) s own h = turn_holds (Some e) fs s own h
  turned_holds e fs (Some false) s own h = h

  count_turn_holds : (x : ℕ) (value last : ℤ) (fs : StmtsForm) (s : State)
      → IsOther bodies (procedure_of w) x × StmtsSpare (IsOther bodies (procedure_of w)) fs → Holds types bodies w s
      → AllHold types bodies w (count_turn_next named x value last fs s)
  count_turn_holds x value last no_stmts s own h = tt
  count_turn_holds x value last (a_stmt f fs) s own h = ((own.1, (own, h.0)), goes_put bodies w x (named.integer value) s.activations own.0 h.1)

  counting_holds : (more : Bool) (x : ℕ) (value last : ℤ) (fs : StmtsForm) (s : State)
      → IsOther bodies (procedure_of w) x × StmtsSpare (IsOther bodies (procedure_of w)) fs → Holds types bodies w s
      → AllHold types bodies w (if more then count_turn_next named x value last fs s else moves Quiet s)
  counting_holds true x value last fs s own h = count_turn_holds x value last fs s own h
  counting_holds false x value last fs s own h = h

  ranges_hold : (x : ℕ) (fs : StmtsForm) (low high : Option ℤ) (s : State)
      → IsOther bodies (procedure_of w) x × StmtsSpare (IsOther bodies (procedure_of w)) fs → Holds types bodies w s
      → AllHold types bodies w (ranges_next named x fs low high s)
  ranges_hold x fs None high s own h = tt
  ranges_hold x fs (Some low) None s own h = tt
  ranges_hold x fs (Some low) (Some high) s own h = counting_holds (int_le low high) x low high fs s own h

  gets_hold : (cs : List ℕ) (x : ℕ) (input : List ℤ) (s : State) → (cs ≡ [] → IsOther bodies (procedure_of w) x) → Holds types bodies w s
      → AllHold types bodies w (gets_next named cs x input s)
  gets_hold (c ∷ cs) x input s own h = holder_holds types bodies w c cs x (λ last. frame.Receives last) s (λ n. (tt, h.0)) h.1
  gets_hold [] x [] s own h = on_operands types bodies w _ s h
  gets_hold [] x (i ∷ is) s own h = put_holds x (named.integer i) (record s { input = is }) (own refl) h

  received_holds : (o : Value) (c : ℕ) (input : List ℤ) (found : Option Value) (s : State) → Holds types bodies w s
      → AllHold types bodies w (received_next named o c input found s)
  received_holds o c input None s h = tt
  received_holds o c [] (Some before) s h = on_operands types bodies w _ s h
  received_holds o c (i ∷ is) (Some before) s h = h

  receive_holds : (o : Value) (c : ℕ) (found : Found (Cell Value)) (s : State) → Holds types bodies w s → AllHold types bodies w (receive_next named o c found s)
  receive_holds o c on_null s h = on_operands types bodies w _ s h
  receive_holds o c on_gone s h = tt
  receive_holds o c on_other s h = tt
  receive_holds o c (finds cell) s h = received_holds o c s.input (slice_get cell.values c) s h

  exit_holds : (condition : Option ExpressionForm) (s : State) → Holds types bodies w s → AllHold types bodies w (exit_next named condition s)
  exit_holds None s h = on_operands types bodies w _ s h
  exit_holds (Some e) s h = ((tt, (tt, h.0)), h.1)

  exited_holds : (truth : Option Bool) (s : State) → Holds types bodies w s → AllHold types bodies w (exited_next named truth s)
  exited_holds None s h = tt
  exited_holds (Some true) s h = on_operands types bodies w _ s h
  exited_holds (Some false) s h = h

  -- A call (6.4): its actual parameters are evaluated before its body begins.
  computing_stands : (actuals : List ActualForm) (k : List (Frame Value)) → LeftBy types bodies w k → LeftBy types bodies w (computing named actuals k)
  computing_stands [] k h = h
  computing_stands (in_value e ∷ rest) k h = (tt, computing_stands rest k h)
  computing_stands (in_null ∷ rest) k h = (tt, computing_stands rest k h)
  computing_stands (in_access path ∷ rest) k h = (tt, computing_stands rest k h)
  computing_stands (in_record p ∷ rest) k h = (tt, computing_stands rest k h)
  computing_stands (in_out_path path ∷ rest) k h = (tt, computing_stands rest k h)
  computing_stands (in_out_access path ∷ rest) k h = (tt, computing_stands rest k h)
  computing_stands (in_out_component path ∷ rest) k h = (tt, computing_stands rest k h)
  computing_stands (in_out_record p ∷ rest) k h = (tt, computing_stands rest k h)

  call_holds : (procedure : ℕ) (actuals : List ActualForm) (body : Option BodyForm) (s : State) → slice_get bodies procedure ≡ body
      → ActualsSpare (IsOther bodies (procedure_of w)) actuals → ends_operation s.control ≡ false → Holds types bodies w s
      → AllHold types bodies w (call_next named procedure actuals body s)
  call_holds procedure actuals None s at_body own call h = tt
  call_holds procedure actuals (Some b) s at_body own call h =
      (computing_stands actuals (frame.Calls procedure b actuals ∷ s.control) ((own, at_body, call), h.0), h.1)

  -- The statements behind this one come first in the state.
  stmt_holds : (f : StmtForm) (s : State) → ends_operation s.control ≡ false → StmtSpares (IsOther bodies (procedure_of w)) f → Holds types bodies w s
      → AllHold types bodies w (stmt_next named types bodies f s)
  stmt_holds skips s call own h = h
  stmt_holds (assigns target right) s call own h = assign_holds target.selectors target.root right s own h
  stmt_holds (assigns_record target items) s call own h = record_assign_holds types bodies w (has_parts types target.record_type) target items s h
  stmt_holds (frees access path) s call own h = frees_hold path.selectors access path.root s own h
  stmt_holds (gets target) s call own h = gets_hold target.selectors target.root s.input s own h
  stmt_holds (writes e) s call own h = ((tt, (tt, h.0)), h.1)
  stmt_holds (writes_text text) s call own h = h
  stmt_holds (chooses branches) s call own h = branches_hold branches s own h
  stmt_holds (repeats condition fs end_spot) s call own h = ((own, h.0), h.1)
  stmt_holds (counts x low high fs end_spot) s call own h = ((tt, (tt, (own, h.0))), h.1)
  stmt_holds (exits condition spot) s call own h = exit_holds condition s h
  stmt_holds (calls procedure actuals) s call own h = call_holds procedure actuals (slice_get bodies procedure) s refl own call h
  stmt_holds (returns spot) s call own h = on_operands types bodies w _ s h
  stmt_holds (raises e) s call own h = on_operands types bodies w _ s h
  stmt_holds (encloses ds fs hs) s call own h = ((own, h.0), h.1)

  stmts_hold : (fs : StmtsForm) (s : State) → StmtsSpare (IsOther bodies (procedure_of w)) fs → Holds types bodies w s → AllHold types bodies w (stmts_next named types bodies fs s)
  stmts_hold no_stmts s own h = h
  stmts_hold (a_stmt f fs) s own h = stmt_holds f (at (frame.Does fs ∷ s.control) s) refl own.0 ((own.1, h.0), h.1)

  line_holds : (read : Option ℤ) (s : State) → Holds types bodies w s → AllHold types bodies w (line_next named read s)
  line_holds None s h = tt
  line_holds (Some i) s h = h

  -- Each frame that is taken off, where no call begins or ends and no object is treated or declared.
  frame_holds : (f : Frame Value) (s : State) → may_cross f ≡ false → FrameSpares types bodies (IsOther bodies (procedure_of w)) f s.control → Holds types bodies w s
      → AllHold types bodies w (frame_next named types bodies f s)
  frame_holds (frame.Elaborates ds fs hs) s stays own h = absurd (cc)
  frame_holds (frame.Does fs) s stays own h = stmts_hold fs s own h
  frame_holds (frame.Decides fs branches) s stays own h = decided_holds fs branches (reads_boolean (newest named s)) (popped s) own (less types bodies w s h)
  frame_holds (frame.Repeats condition fs) s stays own h = repeats_hold condition fs s own h
  frame_holds (frame.Turns condition fs) s stays own h = turned_holds condition fs (reads_boolean (newest named s)) (popped s) own (less types bodies w s h)
  frame_holds (frame.Ranges x fs) s stays own h =
      ranges_hold x fs (reads_integer (newest named (popped s))) (reads_integer (newest named s)) (popped (popped s)) own
      (less types bodies w (popped s) (less types bodies w s h))
  frame_holds (frame.Counts x value last fs) s stays own h = counting_holds (int_le value last) x value last fs s own h
  frame_holds frame.Exits s stays own h = exited_holds (reads_boolean (newest named s)) (popped s) (less types bodies w s h)
  frame_holds (frame.Handles hs) s stays own h = h
  frame_holds frame.Closes s stays own h = ((tt, h.0), h.1)
  frame_holds (frame.Leaves mode) s stays own h = leave_holds types bodies w mode s.masters s h
  frame_holds (frame.Calls procedure b actuals) s stays own h = absurd (cc)
  frame_holds (frame.Returns actuals references) s stays own h = absurd (cc)
  frame_holds (frame.Evaluates right) s stays own h = right_holds types bodies w right s h
  frame_holds (frame.Computes e) s stays own h = expression_holds types bodies w e s h
  frame_holds (frame.Follows cs) s stays own h = path_holds types bodies w cs (newest named s) (popped s) (less types bodies w s h)
  frame_holds (frame.TestsNull equal) s stays own h = null_test_holds types bodies w equal (reads_null (newest named s)) (popped s) (less types bodies w s h)
  frame_holds (frame.Refers p) s stays own h = record_holder_holds types bodies w p (λ place. frame.RefersIn place p.record_type) s (λ place. (tt, h.0)) h.1
  frame_holds (frame.RefersIn place t) s stays own h =
      refers_hold types bodies w (newest named s) place (width_of types t) (look s.heap (newest named s)) (popped s) (less types bodies w s h)
  frame_holds (frame.Opens path) s stays own h = open_holds types bodies w path.selectors path.root s h
  frame_holds (frame.OpensIn c) s stays own h = opens_hold types bodies w (newest named s) c (look s.heap (newest named s)) (popped s) (less types bodies w s h)
  frame_holds (frame.Continues links) s stays own h = links_hold types bodies w links s h
  frame_holds (frame.Applies operator) s stays own h =
      outcome_holds types bodies w (binary_given operator (newest named (popped s)) (newest named s)) (popped (popped s))
      (less types bodies w (popped s) (less types bodies w s h))
  frame_holds (frame.AppliesAlone operator) s stays own h =
      outcome_holds types bodies w (unary_given operator (newest named s)) (popped s) (less types bodies w s h)
  frame_holds (frame.Fills items) s stays own h = items_hold types bodies w items s h
  frame_holds (frame.Copies first t) s stays own h =
      copies_hold types bodies w (newest named s) first (width_of types t) (look s.heap (newest named s)) (popped s) (less types bodies w s h)
  frame_holds (frame.Creates access count) s stays own h = new_holds types bodies w access count (words_of types access) (home_of access s.masters) s h
  frame_holds (frame.Stores x) s stays own h = put_holds x (newest named s) (popped s) own (less types bodies w s h)
  frame_holds (frame.Targets c right) s stays own h =
      target_holds (newest named s) c right (look s.heap (newest named s)) (popped s) (less types bodies w s h)
  frame_holds (frame.StoresIn o c) s stays own h = store_holds o c (newest named s) (look s.heap o) (popped s) (less types bodies w s h)
  frame_holds (frame.TargetsRecord first t items) s stays own h =
      record_target_holds types bodies w (newest named s) first (width_of types t) items (look s.heap (newest named s)) (popped s) (less types bodies w s h)
  frame_holds (frame.StoresRecord o first count) s stays own h = store_record_holds types bodies w o first count (look s.heap o) s h
  frame_holds (frame.Assigns t) s stays own h =
      let target = newest named (popped s) in
      let source = newest named s in
      assigns_hold types bodies w t target source (same target source) (popped (popped s)) (less types bodies w (popped s) (less types bodies w s h))
  frame_holds (frame.Receives c) s stays own h = receive_holds (newest named s) c (look s.heap (newest named s)) (popped s) (less types bodies w s h)
  frame_holds (frame.FreesIn access c) s stays own h =
      free_in_holds types bodies w access (newest named s) c (look s.heap (newest named s)) (popped s) (less types bodies w s h)
  frame_holds (frame.Declares x) s stays own h = put_holds x (newest named s) (popped s) own (less types bodies w s h)
  frame_holds (frame.DeclaresRecord x t) s stays own h = absurd (cc)
  frame_holds (frame.Treats v treatment tasks) s stays own h = absurd (cc)
  frame_holds (frame.Awaits v by done of part tasks) s stays own h = absurd (cc)
  frame_holds frame.Confines s stays own h = h
  frame_holds (frame.Resumes mode) s stays own h = h
  frame_holds frame.Writes s stays own h = line_holds (reads_integer (newest named s)) (popped s) (less types bodies w s h)
  frame_holds (frame.Ends v) s stays own h = end_holds types bodies w v (look s.heap v) s h
  frame_holds (frame.GivesBack v cause pool) s stays own h = back_holds types bodies w v cause pool (lent s.heap v) s h
  frame_holds (frame.Clears x) s stays own h = put_holds x Null s own h
  frame_holds (frame.ClearsIn o c) s stays own h = store_holds o c Null (look s.heap o) s h

  -- A jump: what it passes, and where it lands (11.4).
  abbrev LandsWell : Landing Value → Type 0
  LandsWell passes_on = Unit {0}
  LandsWell goes_behind = Unit {0}
  LandsWell (lands_in fs) = StmtsSpare (IsOther bodies (procedure_of w)) fs
  LandsWell (breaks_off v by done) = Unit {0}
  LandsWell escapes = Unit {0}

  handler_lands : (takes : Bool) (fs : StmtsForm) (later : Option StmtsForm) → StmtsSpare (IsOther bodies (procedure_of w)) fs → LandsWell (handler_landing later)
      → LandsWell (handler_landing (if takes then Some fs else later))
  handler_lands true fs later one more = one
  handler_lands false fs later one more = more

  handlers_land : (e : Exception) (hs : HandlersForm) → HandlersSpare (IsOther bodies (procedure_of w)) hs → LandsWell (handler_landing (handler_of e hs))
  handlers_land e no_handlers own = tt
  handlers_land e (a_handler choices fs hs) own = handler_lands (some_takes e choices) fs (handler_of e hs) own.0 (handlers_land e hs own.1)

  raised_lands : (e : Exception) (f : Frame Value) (k : List (Frame Value)) → FrameSpares types bodies (IsOther bodies (procedure_of w)) f k
      → LandsWell (landing (Raising e) f)
  raised_lands e (frame.Handles hs) k own = handlers_land e hs own
  raised_lands e (frame.Awaits v by done of part tasks) k own = tt
  raised_lands e f k own = tt

  none_lands : (f : Frame Value) (k : List (Frame Value)) → FrameSpares types bodies (IsOther bodies (procedure_of w)) f k → LandsWell (operation_landing f)
  none_lands (frame.Awaits v by done of part tasks) k own = tt
  none_lands frame.Confines k own = tt
  none_lands f k own = tt

  exit_lands : (ends_here : Bool) (otherwise_at : Landing Value) → LandsWell otherwise_at → LandsWell (if ends_here then goes_behind else otherwise_at)
  exit_lands true otherwise_at lands = tt
  exit_lands false otherwise_at lands = lands

  lands : (mode : Mode) (f : Frame Value) (k : List (Frame Value)) → FrameSpares types bodies (IsOther bodies (procedure_of w)) f k → LandsWell (landing mode f)
  lands Running f k own = tt
  lands (Raising e) f k own = raised_lands e f k own
  lands Exiting f k own = exit_lands (is_loop f) (operation_landing f) (none_lands f k own)
  lands Returning f k own = exit_lands (is_return f) (operation_landing f) (none_lands f k own)

  -- An exception comes out of an operation that was to begin a part: what has begun of the object is undone (7.6.1).
  undo_holds : (e : Exception) (v : Value) (done : List Part) (found : Found (Cell Value)) (s : State) → Holds types bodies w s
      → AllHold types bodies w (undo_next named e v done found s)
  undo_holds e v done on_null s h = tt
  undo_holds e v done on_gone s h = tt
  undo_holds e v done on_other s h = tt
  undo_holds e v done (finds cell) s h = (
    treating_stands types bodies (procedure_of w) (places_of w) (older w) v (frame.ends (Undoing s.next)) (map (λ p. performs p.of p.number) done)
        (frame.Ends v ∷ frame.GivesBack v (Undoing s.next) cell.home.pool ∷ frame.Resumes (Raising e) ∷ s.control) (tt, (tt, (tt, h.0))),
    goes_operands bodies w [] s.activations h.1,
  )

  broken_holds : (e : Exception) (v : Value) (by : Birth) (done : List Part) (s : State) → Holds types bodies w s
      → AllHold types bodies w (broken_next named e v by done s)
  broken_holds e v Creation done s h = undo_holds e v done (look s.heap v) s h
  broken_holds e v Copy done s h = tt
  broken_holds e v (Adjustment number) done s h = tt

  broken_off_holds : (mode : Mode) (v : Value) (by : Birth) (done : List Part) (s : State) → Holds types bodies w s
      → AllHold types bodies w (broken_off named mode v by done s)
  broken_off_holds Running v by done s h = tt
  broken_off_holds (Raising e) v by done s h = broken_holds e v by done s h
  broken_off_holds Exiting v by done s h = tt
  broken_off_holds Returning v by done s h = tt

  landed_holds : (l : Landing Value) (mode : Mode) (s : State) → LandsWell l → Holds types bodies w s → AllHold types bodies w (landed named l mode s)
  landed_holds passes_on mode s lands h = h
  landed_holds goes_behind mode s lands h = h
  landed_holds (lands_in no_stmts) mode s lands h = tt
  landed_holds (lands_in (a_stmt f fs)) mode s lands h = ((lands, h.0), h.1)
  landed_holds (breaks_off v by done) mode s lands h = broken_off_holds mode v by done s h
  landed_holds escapes mode s lands h = tt

  pass_holds : (master : Bool) (l : Landing Value) (mode : Mode) (s : State) → LandsWell l → Holds types bodies w s → AllHold types bodies w (pass_next named master l mode s)
  pass_holds true l mode s lands h = ((tt, h.0), h.1)
  pass_holds false l mode s lands h = landed_holds l mode s lands h

  -- What that says of states.
  come : (n : Next) → AllHold types bodies w n → AllCome types bodies n
  come (halts halt) all = tt
  come (moves e s) h = stands_on types bodies s.control w s.activations h.1 h.0
  come (tells request e s) h = stands_on types bodies s.control w s.activations h.1 h.0
  come (asks request answers) all = λ granted. stands_on types bodies (answers granted).control w (answers granted).activations (all granted).1 (all granted).0
  come (picks n taking) all = λ i below. stands_on types bodies (taking i).control w (taking i).activations (all i below).1 (all i below).0

-- One operand, or two of them, give one value.
one_count : (more : List Value → List Value) (n : ℕ) → ((vs : List Value) → length (more vs) ≤ n) → (vs : List Value) → length (one_given more vs) ≤ suc n
one_count more n each [] = omega arith
one_count more n each (v ∷ vs) = let rest = each vs in omega (arith, rest)

value_count : (more : List Value → List Value) (n : ℕ) → ((vs : List Value) → length (more vs) ≤ n) → (vs : List Value) → length (value_given more vs) ≤ suc n
value_count more n each [] = omega arith
value_count more n each (r ∷ []) = omega arith
value_count more n each (r ∷ v ∷ vs) = let rest = each vs in omega (arith, rest)

-- No more values are given than there are actual parameters (6.4.1).
given_count : (actuals : List ActualForm) (vs : List Value) → length (given_values actuals vs) ≤ length actuals
given_count [] vs = omega arith
given_count (in_value e ∷ rest) vs = one_count (given_values rest) (length rest) (given_count rest) vs
given_count (in_null ∷ rest) vs = one_count (given_values rest) (length rest) (given_count rest) vs
given_count (in_access path ∷ rest) vs = one_count (given_values rest) (length rest) (given_count rest) vs
given_count (in_record p ∷ rest) vs = one_count (given_values rest) (length rest) (given_count rest) vs
given_count (in_out_path path ∷ rest) vs = one_count (given_values rest) (length rest) (given_count rest) vs
given_count (in_out_access path ∷ rest) vs = one_count (given_values rest) (length rest) (given_count rest) vs
given_count (in_out_component path ∷ rest) vs = value_count (given_values rest) (length rest) (given_count rest) vs
given_count (in_out_record p ∷ rest) vs = one_count (given_values rest) (length rest) (given_count rest) vs

-- Where a call begins, no record object of the body is created yet (3.3.1).
declares_given :
    (bodies : List BodyForm) (procedure : ℕ) (b : BodyForm) (actuals : List ActualForm) (vs : List Value) (k : List (Frame Value)) → slice_get bodies procedure ≡ Some b
    → ends_operation k ≡ false
    → DeclaresApart bodies (formals_given (length actuals) k) (Some procedure) (given_places named (given_values actuals vs) b.variables) k
declares_given bodies procedure b actuals vs k at_body call = (
  (b, at_body),
  λ x u some is held.
      let kind = subst (λ (o : Option BodyForm). IsRecordOf o x) at_body is in
      let all = given_each (length actuals) k call in
      let given = given_count actuals vs in
      subst (λ (v : Value). StandsApart v k) (sym (none_declared (given_values actuals vs) b.variables x kind.0 u (omega (arith, some, all, given)) kind.1 held)) tt,
)

module _ (types : List TypeDefinition) (bodies : List BodyForm) (each : BodiesSpare bodies) where
  -- A call begins (6.4).
  called_comes :
      (procedure : ℕ) (b : BodyForm) (actuals : List ActualForm) (s : State)
      → FrameSpares types bodies (IsOther bodies (procedure_of s.activations)) (frame.Calls procedure b actuals) s.control → StandsIn types bodies s
      → AllCome types bodies (frame_next named types bodies (frame.Calls procedure b actuals) s)
  called_comes procedure b actuals s own h =
      let waits = with_operands [] s.activations in
      let on = goes_operands bodies s.activations [] s.activations (goes_same bodies s.activations) in
      let given = given_places named (given_values actuals (newest_ones named (operand_count actuals) s)) b.variables in (
        each procedure b own.1,
        (
          declares_given bodies procedure b actuals (newest_ones named (operand_count actuals) s) s.control own.1 own.2,
          subst (λ (now : Option ℕ). ActualsSpare (IsOther bodies now) actuals) (sym (procedure_operands [] s.activations)) own.0,
          stands_on types bodies s.control s.activations waits on h,
        ),
      )

  -- One ends normally (6.5): the caller gets something back.
  back_comes :
      (actuals : List ActualForm) (references : List Value) (s : State) (mode : Mode)
      → StandsBy types bodies (frame.Returns actuals references ∷ s.control) s.activations → StandsIn types bodies (record (returned named actuals references s) { mode = mode })
  back_comes actuals references s mode h =
      let caller = older s.activations in
      let later = with_places (copied_back actuals (places s) (places_of caller)) caller in
      let pending = stored_back actuals (places s) ++ operands (resumed s) in
      let on = goes_operands bodies caller pending later (goes_back bodies actuals (places s) caller h.1) in
      stands_on types bodies (storing named references s.control) caller (with_operands pending later) on
      (storing_stands types bodies (procedure_of caller) (places_of caller) (older caller) references s.control h.2)

  -- A record object is made (3.3.1): no operation of it runs.
  made_comes :
      (x t : ℕ) (by : Birth) (values : List Value) (s : State) → NoOperationRunsOn (Names (record { 0 = length s.heap })) s.control → StandsIn types bodies s
      → StandsIn types bodies (made named types x t by values s)
  made_comes x t by values s none h = go s.activations h
    where
      o : Id
      o = record { 0 = length s.heap }

      go : (acts : List (Activation Value)) → StandsBy types bodies s.control acts
          → StandsBy types bodies (treating (Names o) (frame.begins by []) (all_tasks types t PartsFirst) s.control) (with_places (slice_set (places_of acts) x (Names o)) acts)
      go [] own = treating_stands types bodies None [] [] (Names o) (frame.begins by []) (all_tasks types t PartsFirst) s.control own
      go (a ∷ suspended) own =
          treating_stands types bodies a.procedure (slice_set a.places x (Names o)) suspended (Names o) (frame.begins by []) (all_tasks types t PartsFirst) s.control
          (stands_new types bodies o s.control a.procedure a.places suspended x none own)

  record_comes :
      (x t : ℕ) (initial : Option (List ItemForm)) (s : State) → NoOperationRunsOn (Names (record { 0 = length s.heap })) s.control → StandsIn types bodies s
      → AllCome types bodies (record_next named types x t initial s)
  record_comes x t None s none h = made_comes x t Creation (initial_values named (reached_of types t)) s none h
  record_comes x t (Some items) s none h = (tt, (tt, h))

  -- Declarations (3.11).
  declarations_come :
      (ds : List DeclarationForm) (fs : StmtsForm) (hs : HandlersForm) (s : State) → NoOperationRunsOn (Names (record { 0 = length s.heap })) s.control
      → FrameSpares types bodies (IsOther bodies (procedure_of s.activations)) (frame.Elaborates ds fs hs) s.control → StandsIn types bodies s
      → AllCome types bodies (declarations_next named types ds fs hs s)
  declarations_come [] fs hs s none own h = (own.1, (own.2, (tt, h)))
  declarations_come (creates_pool p ∷ ds) fs hs s none own h = ((own.0.1, own.1, own.2), h)
  declarations_come (collects access ∷ ds) fs hs s none own h = ((own.0.1, own.1, own.2), h)
  declarations_come (declares x right ∷ ds) fs hs s none own h = (tt, (own.0.0, ((own.0.1, own.1, own.2), h)))
  declarations_come (declares_record x t initial ∷ ds) fs hs s none own h =
      record_comes x t initial (at (frame.Elaborates ds fs hs ∷ s.control) s) none ((own.0.1, own.1, own.2), h)

  -- Its initial value has been computed.
  filled_comes :
      (x t : ℕ) (s : State) → NoOperationRunsOn (Names (record { 0 = length s.heap })) s.control → StandsIn types bodies s
      → AllCome types bodies (frame_next named types bodies (frame.DeclaresRecord x t) s)
  filled_comes x t s none h =
      made_comes x t Copy (newest_ones named (words_of types t) s) (without_newest named (words_of types t) s) none
      (stands_on types bodies s.control s.activations _ (goes_operands bodies s.activations _ s.activations (goes_same bodies s.activations)) h)

  -- Each frame that is taken off.
  frame_comes :
      (f : Frame Value) (s : State) → NoOperationRunsOn (Names (record { 0 = length s.heap })) (f ∷ s.control) → StandsBy types bodies (f ∷ s.control) s.activations
      → AllCome types bodies (frame_next named types bodies f s)
  frame_comes (frame.Calls procedure b actuals) s none h = called_comes procedure b actuals s h.0 h.1
  frame_comes (frame.Returns actuals references) s none h = back_comes actuals references s s.mode h
  frame_comes (frame.Treats v treatment tasks) s none h = treats_come types bodies each v treatment tasks (task_next tasks) s h.1
  frame_comes (frame.Awaits v by done of part tasks) s none h = awaited_comes types bodies each v by done of part tasks (look s.heap v) s h.1
  frame_comes (frame.Elaborates ds fs hs) s none h = declarations_come ds fs hs s none h.0 h.1
  frame_comes (frame.DeclaresRecord x t) s none h = filled_comes x t s none h.1
  frame_comes f s none h =
      come types bodies s.activations (frame_next named types bodies f s) (frame_holds types bodies s.activations f s refl h.0 (h.1, goes_same bodies s.activations))

  -- A jump comes to a frame.
  jump_comes :
      (mode : Mode) (f : Frame Value) (s : State) → StandsBy types bodies (f ∷ s.control) s.activations
      → AllCome types bodies (pass_next named (is_master f) (landing mode f) mode (unwound named mode f s))
  jump_comes Running (frame.Returns actuals references) s h = h.2
  jump_comes (Raising e) (frame.Returns actuals references) s h = h.2
  jump_comes Exiting (frame.Returns actuals references) s h = h.2
  jump_comes Returning (frame.Returns actuals references) s h = back_comes actuals references s Running h
  jump_comes mode f s h =
      come types bodies s.activations (pass_next named (is_master f) (landing mode f) mode s)
      (pass_holds types bodies s.activations (is_master f) (landing mode f) mode s (lands types bodies s.activations mode f s.control h.0)
      (h.1, goes_same bodies s.activations))

  -- A step.
  mode_comes :
      (m : Mode) (k : List (Frame Value)) (s : State) → NoOperationRunsOn (Names (record { 0 = length s.heap })) k → StandsBy types bodies k s.activations
      → AllCome types bodies (next types bodies (record s { mode = m; control = k }))
  unfolding next
  mode_comes Running [] s none h = tt
  mode_comes Running (f ∷ k) s none h = frame_comes f (record s { mode = Running; control = k }) none h
  mode_comes (Raising e) [] s none h = tt
  mode_comes (Raising e) (f ∷ k) s none h = jump_comes (Raising e) f (record s { mode = Raising e; control = k }) h
  mode_comes Exiting [] s none h = tt
  mode_comes Exiting (f ∷ k) s none h = jump_comes Exiting f (record s { mode = Exiting; control = k }) h
  mode_comes Returning [] s none h = tt
  mode_comes Returning (f ∷ k) s none h = jump_comes Returning f (record s { mode = Returning; control = k }) h

  -- Whatever comes next, where no operation runs of an object that is still to be created.
  pub next_comes : (s : State) → NoOperationRunsOn (Names (record { 0 = length s.heap })) s.control → StandsIn types bodies s → AllCome types bodies (next types bodies s)
  next_comes s none h = mode_comes s.mode s.control s none h
