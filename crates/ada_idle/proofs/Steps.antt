-- Each step leaves what is left to do idle, and no object with controlled parts, whatever is answered (7.6).

use Rattle.std.proofs.Common.{◌≡◌, ℕ, ℤ, Bool, true, false, if◌then◌else◌, List, [], ◌∷◌, length, map, Option, Some, None, refl}
use Rattle.std.specs.Prelude.{int_le}
use Rattle.std.specs.List.{list_any, slice_get}
use Rattle.std.proofs.lemmas.Bool.{or_parts}
use Rattle.ada_program.specs.declared.program.TypeDefinition.{TypeDefinition}
use Rattle.ada_program.specs.declared.program.Exception.{Exception}
use Rattle.ada_program.specs.Form.{ActualForm, in_value, in_null, in_access, in_record, in_out_path, in_out_access, in_out_component, in_out_record, ExpressionForm, ItemForm, RightForm, StmtForm, skips, assigns, assigns_record, frees, gets, writes, writes_text, chooses, repeats, counts, exits, calls, returns, raises, encloses, StmtsForm, no_stmts, a_stmt, BranchesForm, otherwise, a_branch, HandlersForm, DeclarationForm, creates_pool, collects, declares, declares_record}
use Rattle.ada_program.specs.ProgramForm.{TypeForm, type_form, BodyForm}
use Rattle.ada_program.specs.Typed.{reached_of, words_of, width_of}
use Rattle.ada_parts.specs.declared.tasks.Direction.TheVariants.{PartsFirst}
use Rattle.ada_quiet.specs.Idle.{holds_parts, right_makes_parts, declarations_make_parts, stmt_makes_parts, stmts_make_parts, branches_make_parts, body_makes_parts, declaration_makes_parts}
use Rattle.ada_meaning.specs.declared.event.Birth.{Birth}
use Rattle.ada_meaning.specs.declared.event.Birth.TheVariants.{Creation, Copy}
use Rattle.ada_meaning.specs.declared.state.Value.{Value}
use Rattle.ada_meaning.specs.declared.state.Value.TheVariants.{Null, Names}
use Rattle.ada_meaning.specs.declared.state.Mode.{Mode}
use Rattle.ada_meaning.specs.declared.state.Mode.TheVariants.{Running, Raising, Exiting, Returning}
use Rattle.ada_meaning.specs.Event.{Quiet}
use Rattle.ada_meaning.specs.Frame.{Frame, is_master, is_loop, is_return, Landing, passes_on, goes_behind, goes_in, breaks_off, escapes, operation_landing, handler_landing, landing}
use Rattle.ada_meaning.specs.Frame as frame
use Rattle.ada_meaning.specs.Heap.{Cell, Found, on_null, on_gone, on_other, finds}
use Rattle.ada_meaning.specs.State.{height, home_of}
use Rattle.ada_meaning.specs.Step.{moves, has_parts, all_tasks, at, popped, held, newest, newest_ones, without_newest, initial_values, record_cell, made, record_next, storing, assign_next, target_next, stored_next, store_next, frees_next, branches_next, decided_next, turn_next, repeats_next, turned_next, count_turn_next, ranges_next, gets_next, received_next, receive_next, exit_next, exited_next, computing, call_next, stmt_next, stmts_next, line_next, declarations_next, frame_next, left_by, unwound, landed, pass_next, running_next, jump_next, mode_next}
use Rattle.ada_meaning.specs.Named.{State, next, named, look, lent, standing, reads_boolean, reads_null, reads_integer, an_integer, unary_given, binary_given}
use Rattle.ada_idle.proofs.MakesNone.{none_of, make_none, LandsWell, handlers_land, exit_lands}
use Rattle.ada_idle.proofs.Idle.{FrameIsIdle, ControlIsIdle}
use Rattle.ada_idle.proofs.Heaps.{no_tasks, no_parts, standing_idle, filled_idle, created_idle}
use Rattle.ada_idle.proofs.Forms.{Rests, AllRest, treating_idle, path_idle, holder_idle, record_holder_idle, expression_idle, null_test_idle, links_idle, outcome_idle, items_idle, copies_idle, record_target_idle, store_record_idle, record_assign_idle, refers_idle, open_idle, opens_idle, end_idle, back_idle, new_idle, right_idle, free_idle, free_in_idle, leave_idle}

module _ (forms : List TypeForm) (types : List TypeDefinition) (shown : map type_form types ≡ forms) (bodies : List BodyForm)
    (each : list_any (body_makes_parts forms false) bodies ≡ false) where
  -- What is assigned to, stored in and read to.
  assign_idle : (cs : List ℕ) (x : ℕ) (right : RightForm) (s : State) → right_makes_parts forms false right ≡ false → Rests forms s
      → AllRest forms (assign_next named cs x right s)
  assign_idle [] x right s own h = ((own, (tt, h.0)), h.1)
  assign_idle (c ∷ cs) x right s own h = holder_idle forms c cs x (λ last. frame.Targets last right) s (λ n. ((own, h.0), h.1))

  target_idle : (o : Value) (c : ℕ) (right : RightForm) (found : Found (Cell Value)) (s : State) → right_makes_parts forms false right ≡ false
      → Rests forms s → AllRest forms (target_next named o c right found s)
  target_idle o c right on_null s own h = h
  target_idle o c right on_gone s own h = tt
  target_idle o c right on_other s own h = tt
  target_idle o c right (finds cell) s own h = ((own, (tt, h.0)), h.1)

  stored_idle : (o : Value) (c : ℕ) (v : Value) (found : Option Value) (s : State) → Rests forms s
      → AllRest forms (stored_next named o c v found s)
  stored_idle o c v None s h = tt
  stored_idle o c v (Some before) s h = (h.0, filled_idle forms s.heap o c v h.1)

  store_idle : (o : Value) (c : ℕ) (v : Value) (found : Found (Cell Value)) (s : State) → Rests forms s
      → AllRest forms (store_next named o c v found s)
  store_idle o c v on_null s h = tt
  store_idle o c v on_gone s h = tt
  store_idle o c v on_other s h = tt
  store_idle o c v (finds cell) s h = stored_idle o c v (slice_get cell.values c) s h

  frees_idle : (cs : List ℕ) (access x : ℕ) (s : State) → Rests forms s
      → AllRest forms (frees_next named types cs access x s)
  frees_idle [] access x s h =
      let v = held named s x in
      free_idle forms types shown access x v (standing s.heap v) s (standing_idle forms s.heap v h.1) h
  frees_idle (c ∷ cs) access x s h = holder_idle forms c cs x (λ last. frame.FreesIn access last) s (λ n. ((tt, h.0), h.1))

  branches_idle : (branches : BranchesForm) (s : State) → branches_make_parts forms false branches ≡ false → Rests forms s
      → AllRest forms (branches_next named branches s)
  branches_idle (otherwise fs) s own h = ((own, h.0), h.1)
  branches_idle (a_branch e fs branches) s own h =
      ((tt, (or_parts (stmts_make_parts forms false fs) (branches_make_parts forms false branches) own, h.0)), h.1)

  decided_idle : (fs : StmtsForm) (branches : BranchesForm) (truth : Option Bool) (s : State)
      → (stmts_make_parts forms false fs ≡ false) × (branches_make_parts forms false branches ≡ false) → Rests forms s
      → AllRest forms (decided_next named fs branches truth s)
  decided_idle fs branches None s own h = tt
  decided_idle fs branches (Some true) s own h = ((own.0, h.0), h.1)
  decided_idle fs branches (Some false) s own h = branches_idle branches s own.1 h

  turn_idle : (condition : Option ExpressionForm) (fs : StmtsForm) (s : State) → stmts_make_parts forms false fs ≡ false → Rests forms s
      → AllRest forms (turn_next named condition fs s)
  turn_idle condition no_stmts s own h = tt
  turn_idle condition (a_stmt f fs) s own h = ((own, (own, h.0)), h.1)

  repeats_idle : (condition : Option ExpressionForm) (fs : StmtsForm) (s : State) → stmts_make_parts forms false fs ≡ false → Rests forms s
      → AllRest forms (repeats_next named condition fs s)
  repeats_idle None fs s own h = turn_idle None fs s own h
  repeats_idle (Some e) fs s own h = ((tt, (own, h.0)), h.1)

  turned_idle : (e : ExpressionForm) (fs : StmtsForm) (truth : Option Bool) (s : State) → stmts_make_parts forms false fs ≡ false
      → Rests forms s → AllRest forms (turned_next named e fs truth s)
  turned_idle e fs None s own h = tt
  turned_idle e fs (Some true) s own h = turn_idle (Some e) fs s own h
  turned_idle e fs (Some false) s own h = h

  count_turn_idle : (x : ℕ) (value last : ℤ) (fs : StmtsForm) (s : State) → stmts_make_parts forms false fs ≡ false → Rests forms s
      → AllRest forms (count_turn_next named x value last fs s)
  count_turn_idle x value last no_stmts s own h = tt
  count_turn_idle x value last (a_stmt f fs) s own h = ((own, (own, h.0)), h.1)

  counting_idle : (more : Bool) (x : ℕ) (value last : ℤ) (fs : StmtsForm) (s : State) → stmts_make_parts forms false fs ≡ false
      → Rests forms s → AllRest forms (if more then count_turn_next named x value last fs s else moves Quiet s)
  counting_idle true x value last fs s own h = count_turn_idle x value last fs s own h
  counting_idle false x value last fs s own h = h

  ranges_idle : (x : ℕ) (fs : StmtsForm) (low high : Option ℤ) (s : State) → stmts_make_parts forms false fs ≡ false → Rests forms s
      → AllRest forms (ranges_next named x fs low high s)
  ranges_idle x fs None high s own h = tt
  ranges_idle x fs (Some low) None s own h = tt
  ranges_idle x fs (Some low) (Some high) s own h = counting_idle (int_le low high) x low high fs s own h

  gets_idle : (cs : List ℕ) (x : ℕ) (input : List ℤ) (s : State) → Rests forms s → AllRest forms (gets_next named cs x input s)
  gets_idle (c ∷ cs) x input s h = holder_idle forms c cs x (λ last. frame.Receives last) s (λ n. ((tt, h.0), h.1))
  gets_idle [] x [] s h = h
  gets_idle [] x (i ∷ is) s h = h

  received_idle : (o : Value) (c : ℕ) (input : List ℤ) (found : Option Value) (s : State) → Rests forms s
      → AllRest forms (received_next named o c input found s)
  received_idle o c input None s h = tt
  received_idle o c [] (Some before) s h = h
  received_idle o c (i ∷ is) (Some before) s h = (h.0, filled_idle forms s.heap o c (an_integer i) h.1)

  receive_idle : (o : Value) (c : ℕ) (found : Found (Cell Value)) (s : State) → Rests forms s
      → AllRest forms (receive_next named o c found s)
  receive_idle o c on_null s h = h
  receive_idle o c on_gone s h = tt
  receive_idle o c on_other s h = tt
  receive_idle o c (finds cell) s h = received_idle o c s.input (slice_get cell.values c) s h

  exit_idle : (condition : Option ExpressionForm) (s : State) → Rests forms s → AllRest forms (exit_next named condition s)
  exit_idle None s h = h
  exit_idle (Some e) s h = ((tt, (tt, h.0)), h.1)

  exited_idle : (truth : Option Bool) (s : State) → Rests forms s → AllRest forms (exited_next named truth s)
  exited_idle None s h = tt
  exited_idle (Some true) s h = h
  exited_idle (Some false) s h = h

  -- A call (6.4): its actual parameters are evaluated before its body begins. That is a body of the program, which makes none.
  computing_idle : (actuals : List ActualForm) (k : List (Frame Value)) → ControlIsIdle forms k → ControlIsIdle forms (computing named actuals k)
  computing_idle [] k h = h
  computing_idle (in_value e ∷ rest) k h = (tt, computing_idle rest k h)
  computing_idle (in_null ∷ rest) k h = (refl, computing_idle rest k h)
  computing_idle (in_access path ∷ rest) k h = (refl, computing_idle rest k h)
  computing_idle (in_record p ∷ rest) k h = (tt, computing_idle rest k h)
  computing_idle (in_out_path path ∷ rest) k h = (tt, computing_idle rest k h)
  computing_idle (in_out_access path ∷ rest) k h = (refl, computing_idle rest k h)
  computing_idle (in_out_component path ∷ rest) k h = (tt, computing_idle rest k h)
  computing_idle (in_out_record p ∷ rest) k h = (tt, computing_idle rest k h)

  storing_idle : (references : List Value) (k : List (Frame Value)) → ControlIsIdle forms k → ControlIsIdle forms (storing named references k)
  storing_idle [] k h = h
  storing_idle (r ∷ rs) k h = (tt, storing_idle rs k h)

  call_idle : (procedure : ℕ) (actuals : List ActualForm) (body : Option BodyForm) (s : State) → slice_get bodies procedure ≡ body → Rests forms s
      → AllRest forms (call_next named procedure actuals body s)
  call_idle procedure actuals None s at_body h = tt
  call_idle procedure actuals (Some b) s at_body h =
      (computing_idle actuals (frame.Calls procedure b actuals ∷ s.control) (none_of (body_makes_parts forms false) bodies procedure b each at_body, h.0), h.1)

  -- Statements (5.1).
  stmt_idle : (f : StmtForm) (s : State) → stmt_makes_parts forms false f ≡ false → Rests forms s
      → AllRest forms (stmt_next named types bodies f s)
  stmt_idle skips s own h = h
  stmt_idle (assigns target right) s own h = assign_idle target.selectors target.root right s own h
  stmt_idle (assigns_record target items) s own h =
      record_assign_idle forms (has_parts types target.record_type) target items s (no_parts forms types shown target.record_type own) h
  stmt_idle (frees access path) s own h = frees_idle path.selectors access path.root s h
  stmt_idle (gets target) s own h = gets_idle target.selectors target.root s.input s h
  stmt_idle (writes e) s own h = ((tt, (tt, h.0)), h.1)
  stmt_idle (writes_text text) s own h = h
  stmt_idle (chooses branches) s own h = branches_idle branches s own h
  stmt_idle (repeats condition fs end_spot) s own h = ((own, h.0), h.1)
  stmt_idle (counts x low high fs end_spot) s own h = ((tt, (tt, (own, h.0))), h.1)
  stmt_idle (exits condition spot) s own h = exit_idle condition s h
  stmt_idle (calls procedure actuals) s own h = call_idle procedure actuals (slice_get bodies procedure) s refl h
  stmt_idle (returns spot) s own h = h
  stmt_idle (raises e) s own h = h
  stmt_idle (encloses ds fs hs) s own h = ((make_none forms false ds fs hs own, h.0), h.1)

  stmts_idle : (fs : StmtsForm) (s : State) → stmts_make_parts forms false fs ≡ false → Rests forms s
      → AllRest forms (stmts_next named types bodies fs s)
  stmts_idle no_stmts s own h = h
  stmts_idle (a_stmt f fs) s own h =
      let both = or_parts (stmt_makes_parts forms false f) (stmts_make_parts forms false fs) own in
      stmt_idle f (at (frame.Does fs ∷ s.control) s) both.0 ((both.1, h.0), h.1)

  line_idle : (read : Option ℤ) (s : State) → Rests forms s → AllRest forms (line_next named read s)
  line_idle None s h = tt
  line_idle (Some i) s h = h

  -- A record object is made (3.3.1): it has no controlled parts, so nothing is initialized or adjusted.
  made_idle : (x t : ℕ) (by : Birth) (values : List Value) (s : State) → holds_parts forms t ≡ false → Rests forms s
      → Rests forms (made named types x t by values s)
  made_idle x t by values s none h = (
    treating_idle forms (Names (record { 0 = length s.heap })) (frame.begins by []) (all_tasks types t PartsFirst) s.control
        (no_tasks forms types shown t PartsFirst none) h.0,
    created_idle forms s.heap (record_cell named types t (height s.masters) values) none h.1,
  )

  record_idle : (x t : ℕ) (initial : Option (List ItemForm)) (s : State) → holds_parts forms t ≡ false → Rests forms s
      → AllRest forms (record_next named types x t initial s)
  record_idle x t None s none h = made_idle x t Creation (initial_values named (reached_of types t)) s none h
  record_idle x t (Some items) s none h = ((tt, (none, h.0)), h.1)

  -- A record object that is declared has no controlled parts, with an initial value or without one (3.3.1).
  declared_none : (x t : ℕ) (initial : Option (List ItemForm)) → declaration_makes_parts forms false (declares_record x t initial) ≡ false → holds_parts forms t ≡ false
  declared_none x t None none = none
  declared_none x t (Some items) none = none

  -- Declarations (3.11).
  declarations_idle : (ds : List DeclarationForm) (fs : StmtsForm) (hs : HandlersForm) (s : State)
      → FrameIsIdle forms (frame.Elaborates ds fs hs) → Rests forms s
      → AllRest forms (declarations_next named types ds fs hs s)
  declarations_idle [] fs hs s own h = ((own.1.0, (own.1.1, (tt, h.0))), h.1)
  declarations_idle (creates_pool p ∷ ds) fs hs s own h = (((own.0, own.1), h.0), h.1)
  declarations_idle (collects access ∷ ds) fs hs s own h = (((own.0, own.1), h.0), h.1)
  declarations_idle (declares x right ∷ ds) fs hs s own h =
      let both = or_parts (right_makes_parts forms false right) (declarations_make_parts forms false ds) own.0 in
      ((both.0, (tt, ((both.1, own.1), h.0))), h.1)
  declarations_idle (declares_record x t initial ∷ ds) fs hs s own h =
      let both = or_parts (declaration_makes_parts forms false (declares_record x t initial)) (declarations_make_parts forms false ds) own.0 in
      record_idle x t initial (at (frame.Elaborates ds fs hs ∷ s.control) s) (declared_none x t initial both.0) (((both.1, own.1), h.0), h.1)

  -- Each frame that is taken off.
  frame_idle : (f : Frame Value) (s : State) → FrameIsIdle forms f → Rests forms s
      → AllRest forms (frame_next named types bodies f s)
  frame_idle (frame.Elaborates ds fs hs) s own h = declarations_idle ds fs hs s own h
  frame_idle (frame.Does fs) s own h = stmts_idle fs s own h
  frame_idle (frame.Decides fs branches) s own h = decided_idle fs branches (reads_boolean (newest named s)) (popped s) own h
  frame_idle (frame.Repeats condition fs) s own h = repeats_idle condition fs s own h
  frame_idle (frame.Turns condition fs) s own h = turned_idle condition fs (reads_boolean (newest named s)) (popped s) own h
  frame_idle (frame.Ranges x fs) s own h =
      ranges_idle x fs (reads_integer (newest named (popped s))) (reads_integer (newest named s)) (popped (popped s)) own h
  frame_idle (frame.Counts x value last fs) s own h = counting_idle (int_le value last) x value last fs s own h
  frame_idle frame.Exits s own h = exited_idle (reads_boolean (newest named s)) (popped s) h
  frame_idle (frame.Handles hs) s own h = h
  frame_idle frame.Closes s own h = ((tt, h.0), h.1)
  frame_idle (frame.Leaves mode) s own h = leave_idle forms types shown mode s.masters s h
  frame_idle (frame.Calls procedure b actuals) s own h =
      ((make_none forms false b.declarations b.statements b.handlers own, (tt, h.0)), h.1)
  frame_idle (frame.Returns actuals references) s own h = (storing_idle references s.control h.0, h.1)
  frame_idle (frame.Evaluates right) s own h = right_idle forms types shown right s own h
  frame_idle (frame.Computes e) s own h = expression_idle forms e s h
  frame_idle (frame.Follows cs) s own h = path_idle forms cs (newest named s) (popped s) h
  frame_idle (frame.TestsNull equal) s own h = null_test_idle forms equal (reads_null (newest named s)) (popped s) h
  frame_idle (frame.Refers p) s own h =
      record_holder_idle forms p (λ place. frame.RefersIn place p.record_type) s (λ place. ((tt, h.0), h.1))
  frame_idle (frame.RefersIn place t) s own h =
      refers_idle forms (newest named s) place (width_of types t) (look s.heap (newest named s)) (popped s) h
  frame_idle (frame.Opens path) s own h = open_idle forms path.selectors path.root s h
  frame_idle (frame.OpensIn c) s own h = opens_idle forms (newest named s) c (look s.heap (newest named s)) (popped s) h
  frame_idle (frame.Continues links) s own h = links_idle forms links s h
  frame_idle (frame.Applies operator) s own h =
      outcome_idle forms (binary_given operator (newest named (popped s)) (newest named s)) (popped (popped s)) h
  frame_idle (frame.AppliesAlone operator) s own h = outcome_idle forms (unary_given operator (newest named s)) (popped s) h
  frame_idle (frame.Fills items) s own h = items_idle forms items s h
  frame_idle (frame.Copies first t) s own h =
      copies_idle forms (newest named s) first (width_of types t) (look s.heap (newest named s)) (popped s) h
  frame_idle (frame.Creates access count) s own h =
      new_idle forms types shown access count (words_of types access) (home_of access s.masters) s own h
  frame_idle (frame.Stores x) s own h = h
  frame_idle (frame.Declares x) s own h = h
  frame_idle (frame.Treats v treatment tasks) s own h = absurd own
  frame_idle (frame.Awaits v by done of part tasks) s own h = absurd own
  frame_idle frame.Confines s own h = h
  frame_idle (frame.Resumes mode) s own h = h
  frame_idle frame.Writes s own h = line_idle (reads_integer (newest named s)) (popped s) h
  frame_idle (frame.Ends v) s own h = end_idle forms v (look s.heap v) s h
  frame_idle (frame.GivesBack v cause pool) s own h = back_idle forms v cause pool (lent s.heap v) s h
  frame_idle (frame.Clears x) s own h = h
  frame_idle (frame.Targets c right) s own h = target_idle (newest named s) c right (look s.heap (newest named s)) (popped s) own h
  frame_idle (frame.StoresIn o c) s own h = store_idle o c (newest named s) (look s.heap o) (popped s) h
  frame_idle (frame.TargetsRecord first t items) s own h =
      record_target_idle forms (newest named s) first (width_of types t) items (look s.heap (newest named s)) (popped s) h
  frame_idle (frame.StoresRecord o first count) s own h = store_record_idle forms o first count (look s.heap o) s h
  frame_idle (frame.Assigns t) s own h = absurd own
  frame_idle (frame.DeclaresRecord x t) s own h =
      made_idle x t Copy (newest_ones named (words_of types t) s) (without_newest named (words_of types t) s) own h
  frame_idle (frame.Receives c) s own h = receive_idle (newest named s) c (look s.heap (newest named s)) (popped s) h
  frame_idle (frame.FreesIn access c) s own h = free_in_idle forms types shown access (newest named s) c (look s.heap (newest named s)) (popped s) h
  frame_idle (frame.ClearsIn o c) s own h = store_idle o c Null (look s.heap o) s h

  -- A jump: what it passes, and where it lands (11.4). It comes out of no operation that was to begin a part.
  abbrev LandsIdly : Landing Value → Type 0
  LandsIdly = LandsWell forms false ⊥

  -- A frame that is none of these lets a jump pass, or is the end of a Finalize: nothing waits for an operation that begins a part.
  none_lands : (f : Frame Value) → FrameIsIdle forms f → LandsIdly (operation_landing f)
  none_lands (frame.Awaits v by done of part tasks) own = own
  none_lands frame.Confines own = tt
  none_lands f own = tt

  raised_lands : (e : Exception) (f : Frame Value) → FrameIsIdle forms f → LandsIdly (landing (Raising e) f)
  raised_lands e (frame.Handles hs) own = handlers_land forms false ⊥ e hs own
  raised_lands e f own = none_lands f own

  lands : (mode : Mode) (f : Frame Value) → FrameIsIdle forms f → LandsIdly (landing mode f)
  lands Running f own = tt
  lands (Raising e) f own = raised_lands e f own
  lands Exiting f own = exit_lands forms false ⊥ (is_loop f) (operation_landing f) (none_lands f own)
  lands Returning f own = exit_lands forms false ⊥ (is_return f) (operation_landing f) (none_lands f own)

  landed_idle : (l : Landing Value) (mode : Mode) (s : State) → LandsIdly l → Rests forms s
      → AllRest forms (landed named l mode s)
  landed_idle passes_on mode s lands h = h
  landed_idle goes_behind mode s lands h = h
  landed_idle (goes_in no_stmts) mode s lands h = tt
  landed_idle (goes_in (a_stmt f fs)) mode s lands h = ((lands, h.0), h.1)
  landed_idle (breaks_off v by done) mode s lands h = absurd lands
  landed_idle escapes mode s lands h = tt

  -- A master that it comes to is left first.
  pass_idle : (master : Bool) (l : Landing Value) (mode : Mode) (s : State) → LandsIdly l → Rests forms s
      → AllRest forms (pass_next named master l mode s)
  pass_idle true l mode s lands h = ((tt, h.0), h.1)
  pass_idle false l mode s lands h = landed_idle l mode s lands h

  -- Behind a normal end of a call components get something back (6.4.1).
  left_idle : (mode : Mode) (actuals : List ActualForm) (references : List Value) (s : State) → Rests forms s
      → Rests forms (left_by named mode actuals references s)
  left_idle Running actuals references s h = h
  left_idle (Raising e) actuals references s h = h
  left_idle Exiting actuals references s h = h
  left_idle Returning actuals references s h = (storing_idle references s.control h.0, h.1)

  unwound_idle : (mode : Mode) (f : Frame Value) (s : State) → Rests forms s → Rests forms (unwound named mode f s)
  unwound_idle mode (frame.Returns actuals references) s h = left_idle mode actuals references s h
  unwound_idle mode f s h = h

  -- A jump goes on (11.4).
  jump_idle : (mode : Mode) (k : List (Frame Value)) (s : State) → Rests forms (at k s) → AllRest forms (jump_next named mode k s)
  jump_idle mode [] s h = tt
  jump_idle mode (f ∷ k) s h =
      pass_idle (is_master f) (landing mode f) mode (unwound named mode f (at k s)) (lands mode f h.0.0) (unwound_idle mode f (at k s) (h.0.1, h.1))

  running_idle : (k : List (Frame Value)) (s : State) → Rests forms (at k s) → AllRest forms (running_next named types bodies k s)
  running_idle [] s h = tt
  running_idle (f ∷ k) s h = frame_idle f (at k s) h.0.0 (h.0.1, h.1)

  mode_idle : (mode : Mode) (s : State) → Rests forms s → AllRest forms (mode_next named types bodies mode s)
  mode_idle Running s h = running_idle s.control s h
  mode_idle (Raising e) s h = jump_idle (Raising e) s.control s h
  mode_idle Exiting s h = jump_idle Exiting s.control s h
  mode_idle Returning s h = jump_idle Returning s.control s h

-- Each step keeps that, whatever comes next.
pub next_idle : (forms : List TypeForm) (types : List TypeDefinition) → map type_form types ≡ forms → (bodies : List BodyForm)
    → list_any (body_makes_parts forms false) bodies ≡ false → (s : State) → Rests forms s → AllRest forms (next types bodies s)
unfolding next
next_idle forms types shown bodies each s h = mode_idle forms types shown bodies each s.mode s h
