-- Each step: what is left to do assigns inside of formal parameters alone, or the records of an assignment are found next.

use Rattle.std.proofs.Common.{◌≡◌, ℕ, ℤ, Bool, true, false, ◌&&◌, if◌then◌else◌, List, [], ◌∷◌, length, map, Option, Some, None, refl, sym, subst}
use Rattle.std.specs.Prelude.{int_le}
use Rattle.std.specs.List.{slice_get}
use Rattle.std.proofs.lemmas.Bool.{and_parts}
use Rattle.ada_program.specs.declared.program.TypeDefinition.{TypeDefinition}
use Rattle.ada_program.specs.declared.program.Exception.{Exception}
use Rattle.ada_program.specs.Form.{ActualForm, in_value, in_null, in_access, in_record, in_out_path, in_out_access, in_out_component, in_out_record, ExpressionForm, ItemForm, RightForm, StmtForm, skips, assigns, assigns_record, frees, gets, writes, writes_text, chooses, repeats, counts, exits, calls, returns, raises, encloses, StmtsForm, no_stmts, a_stmt, BranchesForm, otherwise, a_branch, HandlersForm, no_handlers, a_handler, DeclarationForm, creates_pool, collects, declares, declares_record}
use Rattle.ada_program.specs.Handling.{some_takes, handler_of}
use Rattle.ada_program.specs.ProgramForm.{BodyForm}
use Rattle.ada_program.specs.Typed.{words_of, width_of}
use Rattle.ada_parts.specs.declared.tasks.Direction.TheVariants.{PartsFirst}
use Rattle.ada_parts.specs.Task.{performs, next as task_next}
use Rattle.ada_parts.specs.Part.{Part}
use Rattle.ada_meaning.specs.declared.event.Birth.{Birth}
use Rattle.ada_meaning.specs.declared.event.Birth.TheVariants.{Creation, Copy, Adjustment}
use Rattle.ada_meaning.specs.declared.event.Cause.TheVariants.{Undoing}
use Rattle.ada_meaning.specs.declared.state.Value.{Value}
use Rattle.ada_meaning.specs.declared.state.Value.TheVariants.{Null, Names}
use Rattle.ada_meaning.specs.declared.state.Mode.{Mode}
use Rattle.ada_meaning.specs.declared.state.Mode.TheVariants.{Running, Raising, Exiting, Returning}
use Rattle.ada_meaning.specs.Event.{Quiet}
use Rattle.ada_meaning.specs.Frame.{Frame, is_master, is_loop, is_return, Landing, passes_on, goes_behind, goes_in, breaks_off, escapes, operation_landing, handler_landing, landing}
use Rattle.ada_meaning.specs.Frame as frame
use Rattle.ada_meaning.specs.Heap.{Cell, Found, on_null, on_gone, on_other, finds}
use Rattle.ada_meaning.specs.Step.{moves, has_parts, all_tasks, at, popped, held, newest, record_next, storing, record_assign_next, assign_next, target_next, stored_next, store_next, frees_next, branches_next, decided_next, turn_next, repeats_next, turned_next, count_turn_next, ranges_next, gets_next, received_next, receive_next, exit_next, exited_next, computing, call_next, stmt_next, stmts_next, line_next, declarations_next, frame_next, unwound, undo_next, broken_next, broken_off, landed, pass_next, running_next, jump_next}
use Rattle.ada_meaning.specs.Named.{State, named, look, lent, reads_boolean, reads_null, reads_integer, unary_given, binary_given}
use Rattle.ada_meaning.specs.State.{home_of}
use Rattle.ada_assigned.proofs.Keeping.{Told, BodyAssigns, InCalled, runs_operation, StmtAssigns, StmtsAssign, BranchesAssign, HandlersAssign, behind_body, given_behind, Assignable, FrameAssigns, Keeps, AllKeep, OperationsAssign, assigns_called, called_known, runs_behind}
use Rattle.ada_formals.proofs.Standing.{ends_operation}
use Rattle.ada_assigned.proofs.Evaluations.{back_keeps, copies_keeps, end_keeps, expression_keeps, free_in_keeps, free_keeps, holder_keeps, items_keeps, links_keeps, new_keeps, null_test_keeps, open_keeps, opens_keeps, outcome_keeps, path_keeps, plain_record_keeps, record_holder_keeps, record_target_keeps, refers_keeps, right_keeps, store_record_keeps, treating_keeps}
use Rattle.ada_assigned.proofs.Treatments.{awaited_keeps, treats_keeps, leave_keeps}

-- Are these statements that are left?
abbrev pub is_does : Frame Value → Bool
is_does (frame.Does fs) = true
is_does f = false

-- Does a statement assign to a record with controlled parts as a whole (5.2)?
abbrev pub assigns_parts : List TypeDefinition → StmtForm → Bool
assigns_parts types (assigns_record target items) = has_parts types target.record_type
assigns_parts types f = false

-- Does the first of some statements?
abbrev pub first_assigns_parts : List TypeDefinition → StmtsForm → Bool
first_assigns_parts types no_stmts = false
first_assigns_parts types (a_stmt f fs) = assigns_parts types f

-- Is such a statement next?
abbrev pub comes_to_assign : List TypeDefinition → List (Frame Value) → Bool
comes_to_assign types (frame.Does fs ∷ k) = first_assigns_parts types fs
comes_to_assign types k = false

module _ (types : List TypeDefinition) (told : Told) (bodies : List BodyForm) (operations : OperationsAssign types told bodies) where
  -- What is assigned to, stored in and read to.
  assign_keeps : (cs : List ℕ) (x : ℕ) (right : RightForm) (s : State) → Keeps types told s.control
      → AllKeep types told (assign_next named cs x right s)
  assign_keeps [] x right s h = (tt, (tt, h))
  assign_keeps (c ∷ cs) x right s h =
      holder_keeps types told c cs x (λ last. frame.Targets last right) s (λ n. (tt, h))

  target_keeps : (o : Value) (c : ℕ) (right : RightForm) (found : Found (Cell Value)) (s : State) → Keeps types told s.control
      → AllKeep types told (target_next named o c right found s)
  target_keeps o c right on_null s h = h
  target_keeps o c right on_gone s h = tt
  target_keeps o c right on_other s h = tt
  target_keeps o c right (finds cell) s h = (tt, (tt, h))

  stored_keeps : (o : Value) (c : ℕ) (v : Value) (found : Option Value) (s : State) → Keeps types told s.control
      → AllKeep types told (stored_next named o c v found s)
  stored_keeps o c v None s h = tt
  stored_keeps o c v (Some before) s h = h

  store_keeps : (o : Value) (c : ℕ) (v : Value) (found : Found (Cell Value)) (s : State) → Keeps types told s.control
      → AllKeep types told (store_next named o c v found s)
  store_keeps o c v on_null s h = tt
  store_keeps o c v on_gone s h = tt
  store_keeps o c v on_other s h = tt
  store_keeps o c v (finds cell) s h = stored_keeps o c v (slice_get cell.values c) s h

  frees_keeps : (cs : List ℕ) (access x : ℕ) (s : State) → Keeps types told s.control → AllKeep types told (frees_next named types cs access x s)
  frees_keeps [] access x s h = free_keeps types told access x (held named s x) (named.standing s.heap (held named s x)) s h
  frees_keeps (c ∷ cs) access x s h =
      holder_keeps types told c cs x (λ last. frame.FreesIn access last) s (λ n. (tt, h))

  branches_keeps : (branches : BranchesForm) (s : State) → BranchesAssign (Assignable types told (given_behind s.control) (behind_body s.control)) branches → Keeps types told s.control → AllKeep types told (branches_next named branches s)
  branches_keeps (otherwise fs) s own h = (own, h)
  branches_keeps (a_branch e fs branches) s own h = (tt, (own, h))

  decided_keeps : (fs : StmtsForm) (branches : BranchesForm) (truth : Option Bool) (s : State) → StmtsAssign (Assignable types told (given_behind s.control) (behind_body s.control)) fs × BranchesAssign (Assignable types told (given_behind s.control) (behind_body s.control)) branches → Keeps types told s.control
      → AllKeep types told (decided_next named fs branches truth s)
  decided_keeps fs branches None s own h = tt
  decided_keeps fs branches (Some true) s own h = (own.0, h)
  decided_keeps fs branches (Some false) s own h = branches_keeps branches s own.1 h

  turn_keeps : (condition : Option ExpressionForm) (fs : StmtsForm) (s : State) → StmtsAssign (Assignable types told (given_behind s.control) (behind_body s.control)) fs → Keeps types told s.control
      → AllKeep types told (turn_next named condition fs s)
  turn_keeps condition no_stmts s own h = tt
  turn_keeps condition (a_stmt f fs) s own h = (own, (own, h))

  repeats_keeps : (condition : Option ExpressionForm) (fs : StmtsForm) (s : State) → StmtsAssign (Assignable types told (given_behind s.control) (behind_body s.control)) fs → Keeps types told s.control
      → AllKeep types told (repeats_next named condition fs s)
  repeats_keeps None fs s own h = turn_keeps None fs s own h
  repeats_keeps (Some e) fs s own h = (tt, (own, h))

  turned_keeps : (e : ExpressionForm) (fs : StmtsForm) (truth : Option Bool) (s : State) → StmtsAssign (Assignable types told (given_behind s.control) (behind_body s.control)) fs → Keeps types told s.control
      → AllKeep types told (turned_next named e fs truth s)
  turned_keeps e fs None s own h = tt
  turned_keeps e fs (Some true) s own h = turn_keeps (Some e) fs s own h
  turned_keeps e fs (Some false) s own h = h

  count_turn_keeps : (x : ℕ) (value last : ℤ) (fs : StmtsForm) (s : State) → StmtsAssign (Assignable types told (given_behind s.control) (behind_body s.control)) fs → Keeps types told s.control
      → AllKeep types told (count_turn_next named x value last fs s)
  count_turn_keeps x value last no_stmts s own h = tt
  count_turn_keeps x value last (a_stmt f fs) s own h =
      (own, (own, h))

  counting_keeps : (more : Bool) (x : ℕ) (value last : ℤ) (fs : StmtsForm) (s : State) → StmtsAssign (Assignable types told (given_behind s.control) (behind_body s.control)) fs → Keeps types told s.control
      → AllKeep types told (if more then count_turn_next named x value last fs s else moves Quiet s)
  counting_keeps true x value last fs s own h = count_turn_keeps x value last fs s own h
  counting_keeps false x value last fs s own h = h

  ranges_keeps : (x : ℕ) (fs : StmtsForm) (low high : Option ℤ) (s : State) → StmtsAssign (Assignable types told (given_behind s.control) (behind_body s.control)) fs → Keeps types told s.control
      → AllKeep types told (ranges_next named x fs low high s)
  ranges_keeps x fs None high s own h = tt
  ranges_keeps x fs (Some low) None s own h = tt
  ranges_keeps x fs (Some low) (Some high) s own h = counting_keeps (int_le low high) x low high fs s own h

  gets_keeps : (cs : List ℕ) (x : ℕ) (input : List ℤ) (s : State) → Keeps types told s.control → AllKeep types told (gets_next named cs x input s)
  gets_keeps (c ∷ cs) x input s h = holder_keeps types told c cs x (λ last. frame.Receives last) s (λ n. (tt, h))
  gets_keeps [] x [] s h = h
  gets_keeps [] x (i ∷ is) s h = h

  received_keeps : (o : Value) (c : ℕ) (input : List ℤ) (found : Option Value) (s : State) → Keeps types told s.control
      → AllKeep types told (received_next named o c input found s)
  received_keeps o c input None s h = tt
  received_keeps o c [] (Some before) s h = h
  received_keeps o c (i ∷ is) (Some before) s h = h

  receive_keeps : (o : Value) (c : ℕ) (found : Found (Cell Value)) (s : State) → Keeps types told s.control
      → AllKeep types told (receive_next named o c found s)
  receive_keeps o c on_null s h = h
  receive_keeps o c on_gone s h = tt
  receive_keeps o c on_other s h = tt
  receive_keeps o c (finds cell) s h = received_keeps o c s.input (slice_get cell.values c) s h

  exit_keeps : (condition : Option ExpressionForm) (s : State) → Keeps types told s.control → AllKeep types told (exit_next named condition s)
  exit_keeps None s h = h
  exit_keeps (Some e) s h = (tt, (tt, h))

  exited_keeps : (truth : Option Bool) (s : State) → Keeps types told s.control → AllKeep types told (exited_next named truth s)
  exited_keeps None s h = tt
  exited_keeps (Some true) s h = h
  exited_keeps (Some false) s h = h

  -- A call (6.4): its actual parameters are evaluated before its body begins. That is a body of the program.
  computing_keeps : (actuals : List ActualForm) (k : List (Frame Value)) → Keeps types told k → Keeps types told (computing named actuals k)
  computing_keeps [] k h = h
  computing_keeps (in_value e ∷ rest) k h = (tt, computing_keeps rest k h)
  computing_keeps (in_null ∷ rest) k h = (tt, computing_keeps rest k h)
  computing_keeps (in_access path ∷ rest) k h = (tt, computing_keeps rest k h)
  computing_keeps (in_record p ∷ rest) k h = (tt, computing_keeps rest k h)
  computing_keeps (in_out_path path ∷ rest) k h = (tt, computing_keeps rest k h)
  computing_keeps (in_out_access path ∷ rest) k h = (tt, computing_keeps rest k h)
  computing_keeps (in_out_component path ∷ rest) k h = (tt, computing_keeps rest k h)
  computing_keeps (in_out_record p ∷ rest) k h = (tt, computing_keeps rest k h)

  storing_keeps : (references : List Value) (k : List (Frame Value)) → Keeps types told k → Keeps types told (storing named references k)
  storing_keeps [] k h = h
  storing_keeps (r ∷ rs) k h = (tt, storing_keeps rs k h)

  -- What is called where an operation runs does what it may.
  calling_assigns : (procedure : ℕ) (actuals : List ActualForm) (b : BodyForm) (k : List (Frame Value)) → slice_get bodies procedure ≡ Some b
      → (Assignable types told (given_behind k) (behind_body k)).called procedure actuals → (told.watched && runs_operation k) ≡ true
      → BodyAssigns (InCalled types told (length actuals)) b
  calling_assigns procedure actuals b k at_body own runs =
      let both = and_parts told.watched (runs_operation k) runs in
      let known = called_known types told procedure actuals both.0 (given_behind k) (behind_body k) (runs_behind k both.1) own in
      operations.calling both.0 procedure b known.0 at_body (length actuals) known.1

  call_keeps : (procedure : ℕ) (actuals : List ActualForm) (body : Option BodyForm) (s : State) → slice_get bodies procedure ≡ body
      → ends_operation s.control ≡ false → (Assignable types told (given_behind s.control) (behind_body s.control)).called procedure actuals → Keeps types told s.control
      → AllKeep types told (call_next named procedure actuals body s)
  call_keeps procedure actuals None s at_body none own h = tt
  call_keeps procedure actuals (Some b) s at_body none own h =
      computing_keeps actuals (frame.Calls procedure b actuals ∷ s.control)
      ((none, assigns_called types told (length actuals) b s.control none (calling_assigns procedure actuals b s.control at_body own)), h)

  -- A statement that assigns to no record as a whole, or to one without controlled parts (5.1). The statements behind it come first in the state.
  stmt_keeps : (f : StmtForm) (s : State) → ends_operation s.control ≡ false → assigns_parts types f ≡ false
      → StmtAssigns (Assignable types told (given_behind s.control) (behind_body s.control)) f → Keeps types told s.control → AllKeep types told (stmt_next named types bodies f s)
  stmt_keeps skips s call none own h = h
  stmt_keeps (assigns target right) s call none own h = assign_keeps target.selectors target.root right s h
  stmt_keeps (assigns_record target items) s call none own h =
      subst (λ (parts : Bool). AllKeep types told (record_assign_next named parts target items s)) (sym none) (plain_record_keeps types told target items s h)
  stmt_keeps (frees access path) s call none own h = frees_keeps path.selectors access path.root s h
  stmt_keeps (gets target) s call none own h = gets_keeps target.selectors target.root s.input s h
  stmt_keeps (writes e) s call none own h = (tt, (tt, h))
  stmt_keeps (writes_text text) s call none own h = h
  stmt_keeps (chooses branches) s call none own h = branches_keeps branches s own h
  stmt_keeps (repeats condition gs end_spot) s call none own h = (own, h)
  stmt_keeps (counts x low high gs end_spot) s call none own h = (tt, (tt, (own, h)))
  stmt_keeps (exits condition spot) s call none own h = exit_keeps condition s h
  stmt_keeps (calls procedure actuals) s call none own h = call_keeps procedure actuals (slice_get bodies procedure) s refl call own h
  stmt_keeps (returns spot) s call none own h = h
  stmt_keeps (raises e) s call none own h = h
  stmt_keeps (encloses ds gs hs) s call none own h = (own, h)

  line_keeps : (read : Option ℤ) (s : State) → Keeps types told s.control → AllKeep types told (line_next named read s)
  line_keeps None s h = tt
  line_keeps (Some i) s h = h

  -- A record object is made (3.3.1).
  record_keeps : (x t : ℕ) (initial : Option (List ItemForm)) (s : State) → Keeps types told s.control
      → AllKeep types told (record_next named types x t initial s)
  record_keeps x t None s h =
      let v = Names (record { 0 = length s.heap }) in
      treating_keeps types told v (frame.begins Creation []) (all_tasks types t PartsFirst) s.control h
  record_keeps x t (Some items) s h = (tt, (tt, h))

  -- Declarations (3.11).
  declarations_keeps : (ds : List DeclarationForm) (fs : StmtsForm) (hs : HandlersForm) (s : State) → StmtsAssign (Assignable types told (given_behind s.control) (behind_body s.control)) fs × HandlersAssign (Assignable types told (given_behind s.control) (behind_body s.control)) hs → Keeps types told s.control
      → AllKeep types told (declarations_next named types ds fs hs s)
  declarations_keeps [] fs hs s own h = (own.0, (own.1, (tt, h)))
  declarations_keeps (creates_pool p ∷ ds) fs hs s own h = (own, h)
  declarations_keeps (collects access ∷ ds) fs hs s own h = (own, h)
  declarations_keeps (declares x right ∷ ds) fs hs s own h =
      (tt, (tt, (own, h)))
  declarations_keeps (declares_record x t initial ∷ ds) fs hs s own h =
      record_keeps x t initial (at (frame.Elaborates ds fs hs ∷ s.control) s) (own, h)

  -- Each frame that is taken off.
  frame_keeps : (f : Frame Value) (s : State) → is_does f ≡ false → FrameAssigns types told f s.control → Keeps types told s.control
      → AllKeep types told (frame_next named types bodies f s)
  frame_keeps (frame.Elaborates ds fs hs) s does own h = declarations_keeps ds fs hs s own h
  frame_keeps (frame.Does fs) s does own h = absurd (cc)
  frame_keeps (frame.Decides fs branches) s does own h = decided_keeps fs branches (reads_boolean (newest named s)) (popped s) own h
  frame_keeps (frame.Repeats condition fs) s does own h = repeats_keeps condition fs s own h
  frame_keeps (frame.Turns condition fs) s does own h = turned_keeps condition fs (reads_boolean (newest named s)) (popped s) own h
  frame_keeps (frame.Ranges x fs) s does own h =
      ranges_keeps x fs (reads_integer (newest named (popped s))) (reads_integer (newest named s)) (popped (popped s)) own h
  frame_keeps (frame.Counts x value last fs) s does own h = counting_keeps (int_le value last) x value last fs s own h
  frame_keeps frame.Exits s does own h = exited_keeps (reads_boolean (newest named s)) (popped s) h
  frame_keeps (frame.Handles hs) s does own h = h
  frame_keeps frame.Closes s does own h = (tt, h)
  frame_keeps (frame.Leaves mode) s does own h = leave_keeps types told bodies operations mode s.masters s h
  frame_keeps (frame.Calls procedure b actuals) s does own h =
      (own.1, (tt, h))
  frame_keeps (frame.Returns actuals references) s does own h = storing_keeps references s.control h
  frame_keeps (frame.Evaluates right) s does own h = right_keeps types told right s h
  frame_keeps (frame.Computes e) s does own h = expression_keeps types told e s h
  frame_keeps (frame.Follows cs) s does own h = path_keeps types told cs (newest named s) (popped s) h
  frame_keeps (frame.TestsNull equal) s does own h = null_test_keeps types told equal (reads_null (newest named s)) (popped s) h
  frame_keeps (frame.Refers p) s does own h =
      record_holder_keeps types told p (λ place. frame.RefersIn place p.record_type) s (λ place. (tt, h))
  frame_keeps (frame.RefersIn place t) s does own h =
      refers_keeps types told (newest named s) place (width_of types t) (look s.heap (newest named s)) (popped s) h
  frame_keeps (frame.Opens path) s does own h = open_keeps types told path.selectors path.root s h
  frame_keeps (frame.OpensIn c) s does own h = opens_keeps types told (newest named s) c (look s.heap (newest named s)) (popped s) h
  frame_keeps (frame.Continues links) s does own h = links_keeps types told links s h
  frame_keeps (frame.Applies operator) s does own h =
      outcome_keeps types told (binary_given operator (newest named (popped s)) (newest named s)) (popped (popped s)) h
  frame_keeps (frame.AppliesAlone operator) s does own h = outcome_keeps types told (unary_given operator (newest named s)) (popped s) h
  frame_keeps (frame.Fills items) s does own h = items_keeps types told items s h
  frame_keeps (frame.Copies first t) s does own h =
      copies_keeps types told (newest named s) first (width_of types t) (look s.heap (newest named s)) (popped s) h
  frame_keeps (frame.Creates access count) s does own h = new_keeps types told access count (words_of types access) (home_of access s.masters) s h
  frame_keeps (frame.Stores x) s does own h = h
  frame_keeps (frame.Declares x) s does own h = h
  frame_keeps (frame.Treats v treatment tasks) s does own h = treats_keeps types told bodies operations v treatment tasks (task_next tasks) s h
  frame_keeps (frame.Awaits v by done of part tasks) s does own h = awaited_keeps types told bodies operations v by done of part tasks (look s.heap v) s h
  frame_keeps frame.Confines s does own h = h
  frame_keeps (frame.Resumes mode) s does own h = h
  frame_keeps frame.Writes s does own h = line_keeps (reads_integer (newest named s)) (popped s) h
  frame_keeps (frame.Ends v) s does own h = end_keeps types told v (look s.heap v) s h
  frame_keeps (frame.GivesBack v cause pool) s does own h = back_keeps types told v cause pool (lent s.heap v) s h
  frame_keeps (frame.Clears x) s does own h = h
  frame_keeps (frame.Targets c right) s does own h = target_keeps (newest named s) c right (look s.heap (newest named s)) (popped s) h
  frame_keeps (frame.StoresIn o c) s does own h = store_keeps o c (newest named s) (look s.heap o) (popped s) h
  frame_keeps (frame.TargetsRecord first t items) s does own h =
      record_target_keeps types told (newest named s) first (width_of types t) items (look s.heap (newest named s)) (popped s) h
  frame_keeps (frame.StoresRecord o first count) s does own h = store_record_keeps types told o first count (look s.heap o) s h
  frame_keeps (frame.Assigns t) s does own h = absurd own
  frame_keeps (frame.DeclaresRecord x t) s does own h =
      treating_keeps types told (Names (record { 0 = length s.heap })) (frame.begins Copy []) (all_tasks types t PartsFirst) s.control h
  frame_keeps (frame.Receives c) s does own h = receive_keeps (newest named s) c (look s.heap (newest named s)) (popped s) h
  frame_keeps (frame.FreesIn access c) s does own h = free_in_keeps types told access (newest named s) c (look s.heap (newest named s)) (popped s) h
  frame_keeps (frame.ClearsIn o c) s does own h = store_keeps o c Null (look s.heap o) s h

  -- A jump: what it passes, and where it lands (11.4), in front of what is left to do.
  module _ (k : List (Frame Value)) where
    abbrev LandsWell : Landing Value → Type 0
    LandsWell passes_on = Unit {0}
    LandsWell goes_behind = Unit {0}
    LandsWell (goes_in fs) = StmtsAssign (Assignable types told (given_behind k) (behind_body k)) fs
    LandsWell (breaks_off v by done) = Unit {0}
    LandsWell escapes = Unit {0}

    handler_lands : (takes : Bool) (fs : StmtsForm) (later : Option StmtsForm) → StmtsAssign (Assignable types told (given_behind k) (behind_body k)) fs
        → LandsWell (handler_landing later) → LandsWell (handler_landing (if takes then Some fs else later))
    handler_lands true fs later one more = one
    handler_lands false fs later one more = more

    handlers_land : (e : Exception) (hs : HandlersForm) → HandlersAssign (Assignable types told (given_behind k) (behind_body k)) hs → LandsWell (handler_landing (handler_of e hs))
    handlers_land e no_handlers own = tt
    handlers_land e (a_handler choices fs hs) own = handler_lands (some_takes e choices) fs (handler_of e hs) own.0 (handlers_land e hs own.1)

    raised_lands : (e : Exception) (f : Frame Value) → FrameAssigns types told f k → LandsWell (landing (Raising e) f)
    raised_lands e (frame.Handles hs) own = handlers_land e hs own
    raised_lands e f own = tt

    none_lands : (f : Frame Value) → LandsWell (operation_landing f)
    none_lands (frame.Awaits v by done of part tasks) = tt
    none_lands frame.Confines = tt
    none_lands f = tt

    exit_lands : (ends_here : Bool) (otherwise_at : Landing Value) → LandsWell otherwise_at → LandsWell (if ends_here then goes_behind else otherwise_at)
    exit_lands true otherwise_at lands = tt
    exit_lands false otherwise_at lands = lands

    lands : (mode : Mode) (f : Frame Value) → FrameAssigns types told f k → LandsWell (landing mode f)
    lands Running f own = tt
    lands (Raising e) f own = raised_lands e f own
    lands Exiting f own = exit_lands (is_loop f) (operation_landing f) (none_lands f)
    lands Returning f own = exit_lands (is_return f) (operation_landing f) (none_lands f)

  -- An exception comes out of an operation that was to begin a part: what has begun of the object is undone (7.6.1).
  undo_keeps : (e : Exception) (v : Value) (done : List Part) (found : Found (Cell Value)) (s : State) → Keeps types told s.control
      → AllKeep types told (undo_next named e v done found s)
  undo_keeps e v done on_null s h = tt
  undo_keeps e v done on_gone s h = tt
  undo_keeps e v done on_other s h = tt
  undo_keeps e v done (finds cell) s h =
      treating_keeps types told v (frame.ends (Undoing s.next)) (map (λ p. performs p.of p.number) done)
      (frame.Ends v ∷ frame.GivesBack v (Undoing s.next) cell.home.pool ∷ frame.Resumes (Raising e) ∷ s.control) (tt, (tt, (tt, h)))

  broken_keeps : (e : Exception) (v : Value) (by : Birth) (done : List Part) (s : State) → Keeps types told s.control
      → AllKeep types told (broken_next named e v by done s)
  broken_keeps e v Creation done s h = undo_keeps e v done (look s.heap v) s h
  broken_keeps e v Copy done s h = tt
  broken_keeps e v (Adjustment number) done s h = tt

  broken_off_keeps : (mode : Mode) (v : Value) (by : Birth) (done : List Part) (s : State) → Keeps types told s.control
      → AllKeep types told (broken_off named mode v by done s)
  broken_off_keeps Running v by done s h = tt
  broken_off_keeps (Raising e) v by done s h = broken_keeps e v by done s h
  broken_off_keeps Exiting v by done s h = tt
  broken_off_keeps Returning v by done s h = tt

  landed_keeps : (l : Landing Value) (mode : Mode) (s : State) → LandsWell s.control l → Keeps types told s.control
      → AllKeep types told (landed named l mode s)
  landed_keeps passes_on mode s lands h = h
  landed_keeps goes_behind mode s lands h = h
  landed_keeps (goes_in no_stmts) mode s lands h = tt
  landed_keeps (goes_in (a_stmt f fs)) mode s lands h = (lands, h)
  landed_keeps (breaks_off v by done) mode s lands h = broken_off_keeps mode v by done s h
  landed_keeps escapes mode s lands h = tt

  -- A master that it comes to is left first.
  pass_keeps : (master : Bool) (l : Landing Value) (mode : Mode) (s : State) → LandsWell s.control l → Keeps types told s.control
      → AllKeep types told (pass_next named master l mode s)
  pass_keeps true l mode s lands h = (tt, h)
  pass_keeps false l mode s lands h = landed_keeps l mode s lands h

  -- A jump comes to a frame.
  jumped_keeps : (mode : Mode) (f : Frame Value) (s : State) → FrameAssigns types told f s.control → Keeps types told s.control
      → AllKeep types told (pass_next named (is_master f) (landing mode f) mode (unwound named mode f s))
  jumped_keeps Running (frame.Returns actuals references) s own h = h
  jumped_keeps (Raising e) (frame.Returns actuals references) s own h = h
  jumped_keeps Exiting (frame.Returns actuals references) s own h = h
  jumped_keeps Returning (frame.Returns actuals references) s own h = storing_keeps references s.control h
  jumped_keeps mode f s own h = pass_keeps (is_master f) (landing mode f) mode s (lands s.control mode f own) h

  pub jump_keeps : (mode : Mode) (k : List (Frame Value)) (s : State) → Keeps types told k → AllKeep types told (jump_next named mode k s)
  jump_keeps mode [] s h = tt
  jump_keeps mode (f ∷ k) s h = jumped_keeps mode f (at k s) h.0 h.1

  -- The first of some statements.
  pub stmts_keep : (fs : StmtsForm) (s : State) → first_assigns_parts types fs ≡ false → StmtsAssign (Assignable types told (given_behind s.control) (behind_body s.control)) fs
      → Keeps types told s.control → AllKeep types told (stmts_next named types bodies fs s)
  stmts_keep no_stmts s none own h = h
  stmts_keep (a_stmt f fs) s none own h = stmt_keeps f (at (frame.Does fs ∷ s.control) s) refl none own.0 (own.1, h)

  -- What comes next, where it is no assignment to a record with controlled parts.
  pub running_keeps : (k : List (Frame Value)) (s : State) → comes_to_assign types k ≡ false → Keeps types told k → AllKeep types told (running_next named types bodies k s)
  running_keeps [] s none h = tt
  running_keeps (frame.Does fs ∷ k) s none h = stmts_keep fs (at k s) none h.0 h.1
  running_keeps (f ∷ k) s none h = frame_keeps f (at k s) refl h.0 h.1
