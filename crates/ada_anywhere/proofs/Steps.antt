-- Each step leaves what is to be done in front of an operation such that it nests wherever that is called, whatever is answered.

use Rattle.std.proofs.Common.{◌≡◌, ℕ, ℤ, ◌+◌, Bool, true, false, if◌then◌else◌, List, [], ◌∷◌, ◌||◌, length, map, Option, Some, None, refl, sym, subst}
use Rattle.std.specs.Prelude.{int_le}
use Rattle.std.specs.List.{slice_get}
use Rattle.ada_program.specs.declared.program.TypeDefinition.{TypeDefinition}
use Rattle.ada_program.specs.declared.program.Exception.{Exception}
use Rattle.ada_program.specs.Form.{ActualForm, in_value, in_null, in_access, in_record, in_out_path, in_out_access, in_out_component, in_out_record, ExpressionForm, ItemForm, RightForm, StmtForm, skips, assigns, assigns_record, frees, gets, writes, writes_text, chooses, repeats, counts, exits, calls, returns, raises, encloses, StmtsForm, no_stmts, a_stmt, BranchesForm, otherwise, a_branch, HandlersForm, no_handlers, a_handler, DeclarationForm, creates_pool, collects, declares, declares_record}
use Rattle.ada_program.specs.Handling.{some_takes, handler_of}
use Rattle.ada_parts.specs.declared.tasks.Direction.TheVariants.{PartsFirst}
use Rattle.ada_parts.specs.Task.{performs, next as task_next}
use Rattle.ada_meaning.specs.declared.event.Birth.{Birth}
use Rattle.ada_meaning.specs.declared.event.Birth.TheVariants.{Creation, Copy, Adjustment}
use Rattle.ada_meaning.specs.declared.event.Cause.TheVariants.{Undoing}
use Rattle.ada_parts.specs.Part.{Part}
use Rattle.ada_program.specs.ProgramForm.{TypeForm, BodyForm}
use Rattle.ada_program.specs.Typed.{reached_of, words_of, width_of, pool_named}
use Rattle.ada_program.specs.Nested.{Callees, call_nests}
use Rattle.ada_meaning.specs.declared.state.Value.{Value}
use Rattle.ada_meaning.specs.declared.state.Value.TheVariants.{Null, Names}
use Rattle.ada_meaning.specs.declared.state.Mode.{Mode}
use Rattle.ada_meaning.specs.declared.state.Mode.TheVariants.{Running, Raising, Exiting, Returning}
use Rattle.ada_meaning.specs.Event.{Quiet}
use Rattle.ada_meaning.specs.Frame.{Frame, is_master, is_loop, is_return, Landing, passes_on, goes_behind, goes_in, breaks_off, escapes, operation_landing, handler_landing, landing}
use Rattle.ada_meaning.specs.Frame as frame
use Rattle.ada_meaning.specs.State.{declared, collection, record_object, storage_pool, Item, Master, height, home_of, pools_in, pool_for}
use Rattle.ada_meaning.specs.Heap.{Cell, Found, on_null, on_gone, on_other, finds}
use Rattle.ada_meaning.specs.Step.{moves, has_parts, all_tasks, at, older, owning, popped, held, newest, newest_ones, without_newest, initial_values, made, record_next, storing, assign_next, target_next, stored_next, store_next, frees_next, branches_next, decided_next, turn_next, repeats_next, turned_next, count_turn_next, ranges_next, gets_next, received_next, receive_next, exit_next, exited_next, computing, call_next, stmt_next, stmts_next, line_next, declarations_next, frame_next, resumed, returned, left_by, unwound, undo_next, broken_next, broken_off, landed, pass_next, running_next, jump_next, mode_next}
use Rattle.ada_meaning.specs.Named.{State, next, named, same, look, lent, reads_boolean, reads_null, reads_integer, unary_given, binary_given}
use Rattle.std.proofs.lemmas.List.Elements.{All-nil}
use Rattle.ada_scopes.proofs.Texts.{StatementNests, BodiesNest}
use Rattle.ada_scopes.specs.Scopes.{is_departure}
use Rattle.ada_scopes.proofs.Counts.{Scopes, scopes}
use Rattle.ada_scopes.proofs.Treatments.{IsTreatment, TreatsFirst}
use Rattle.ada_scopes.proofs.Control.{FrameNests, Nests, Nested, standing, beginning, parting, resting}
use Rattle.ada_anywhere.specs.Anywhere.{some_waits, has_master}
use Rattle.ada_anywhere.proofs.Control.{InnermostOwnsNone, outside, StatementsAnywhere, BranchesAnywhere, HandlersAnywhere, FrameAnywhere, Anywhere, Here, part_anywhere, body_anywhere, treating_anywhere, owning_anywhere, behind_owning, master_owns_none}
use Rattle.ada_anywhere.proofs.Evaluations.{Good, path_good, holder_good, record_holder_good, refers_good, open_good, opens_good, expression_good, null_test_good, links_good, outcome_good, items_good, copies_good, record_target_good, store_record_good, record_assign_good, assigns_good, new_good, right_good, free_good, free_in_good, end_good, back_good}
use Rattle.ada_anywhere.proofs.Treatments.{OperationsHere, awaited_good, treats_good, leave_good}

-- Where the machine goes on, what is left to do in front of an operation nests wherever that is called, as before.
module _ (types : List TypeForm) (callees : Callees) (bodies : List BodyForm) (nesting : BodiesNest types callees bodies) where
  -- Statements: they nest anywhere, where an operation waits behind them.
  abbrev StatementsHere : State → StmtsForm → Type 0
  StatementsHere s fs = some_waits s.control ≡ true → StatementsAnywhere types callees fs

  assign_good : (cs : List ℕ) (x : ℕ) (right : RightForm) (s : State) → Here types callees s → Good types callees (assign_next named cs x right s)
  assign_good [] x right s h = (tt, (tt, h))
  assign_good (c ∷ cs) x right s h = holder_good types callees c cs x (λ last. frame.Targets last right) s (λ n. (tt, h)) h

  target_good : (o : Value) (c : ℕ) (right : RightForm) (found : Found (Cell Value)) (s : State) → Here types callees s → Good types callees (target_next named o c right found s)
  target_good o c right on_null s h = h
  target_good o c right on_gone s h = tt
  target_good o c right on_other s h = tt
  target_good o c right (finds cell) s h = (tt, (tt, h))

  stored_good : (o : Value) (c : ℕ) (v : Value) (found : Option Value) (s : State) → Here types callees s → Good types callees (stored_next named o c v found s)
  stored_good o c v None s h = tt
  stored_good o c v (Some before) s h = h

  store_good : (o : Value) (c : ℕ) (v : Value) (found : Found (Cell Value)) (s : State) → Here types callees s → Good types callees (store_next named o c v found s)
  store_good o c v on_null s h = tt
  store_good o c v on_gone s h = tt
  store_good o c v on_other s h = tt
  store_good o c v (finds cell) s h = stored_good o c v (slice_get cell.values c) s h

  frees_good : (definitions : List TypeDefinition) (cs : List ℕ) (access x : ℕ) (s : State) → Here types callees s → Good types callees (frees_next named definitions cs access x s)
  frees_good definitions [] access x s h = free_good types callees definitions access x (held named s x) (named.standing s.heap (held named s x)) s h
  frees_good definitions (c ∷ cs) access x s h = holder_good types callees c cs x (λ last. frame.FreesIn access last) s (λ n. (tt, h)) h

  branches_good : (branches : BranchesForm) (s : State) → (some_waits s.control ≡ true → BranchesAnywhere types callees branches) → Here types callees s → Good types callees (branches_next named branches s)
  branches_good (otherwise fs) s nest h = (nest, h)
  branches_good (a_branch e fs branches) s nest h = (tt, (λ is. (λ around. (nest is around).0, λ around. (nest is around).1), h))

  decided_good : (fs : StmtsForm) (branches : BranchesForm) (truth : Option Bool) (s : State) → (some_waits s.control ≡ true → StatementsAnywhere types callees fs × BranchesAnywhere types callees branches) → Here types callees s → Good types callees (decided_next named fs branches truth s)
  decided_good fs branches None s nest h = tt
  decided_good fs branches (Some true) s nest h = (λ is. (nest is).0, h)
  decided_good fs branches (Some false) s nest h = branches_good branches s (λ is. (nest is).1) h

  turn_good : (condition : Option ExpressionForm) (fs : StmtsForm) (s : State) → StatementsHere s fs → Here types callees s → Good types callees (turn_next named condition fs s)
  turn_good condition no_stmts s nest h = tt
  turn_good condition (a_stmt f fs) s nest h = (nest, (nest, h))

  repeats_good : (condition : Option ExpressionForm) (fs : StmtsForm) (s : State) → StatementsHere s fs → Here types callees s → Good types callees (repeats_next named condition fs s)
  repeats_good None fs s nest h = turn_good None fs s nest h
  repeats_good (Some e) fs s nest h = (tt, (nest, h))

  turned_good : (e : ExpressionForm) (fs : StmtsForm) (truth : Option Bool) (s : State) → StatementsHere s fs → Here types callees s → Good types callees (turned_next named e fs truth s)
  turned_good e fs None s nest h = tt
  turned_good e fs (Some true) s nest h = turn_good (Some e) fs s nest h
  turned_good e fs (Some false) s nest h = h

  count_turn_good : (x : ℕ) (value last : ℤ) (fs : StmtsForm) (s : State) → StatementsHere s fs → Here types callees s → Good types callees (count_turn_next named x value last fs s)
  count_turn_good x value last no_stmts s nest h = tt
  count_turn_good x value last (a_stmt f fs) s nest h = (nest, (nest, h))

  counting_good : (more : Bool) (x : ℕ) (value last : ℤ) (fs : StmtsForm) (s : State) → StatementsHere s fs → Here types callees s → Good types callees (if more then count_turn_next named x value last fs s else moves Quiet s)
  counting_good true x value last fs s nest h = count_turn_good x value last fs s nest h
  counting_good false x value last fs s nest h = h

  ranges_good : (x : ℕ) (fs : StmtsForm) (low high : Option ℤ) (s : State) → StatementsHere s fs → Here types callees s → Good types callees (ranges_next named x fs low high s)
  ranges_good x fs None high s nest h = tt
  ranges_good x fs (Some low) None s nest h = tt
  ranges_good x fs (Some low) (Some high) s nest h = counting_good (int_le low high) x low high fs s nest h

  gets_good : (cs : List ℕ) (x : ℕ) (input : List ℤ) (s : State) → Here types callees s → Good types callees (gets_next named cs x input s)
  gets_good (c ∷ cs) x input s h = holder_good types callees c cs x (λ last. frame.Receives last) s (λ n. (tt, h)) h
  gets_good [] x [] s h = h
  gets_good [] x (i ∷ is) s h = h

  received_good : (o : Value) (c : ℕ) (input : List ℤ) (found : Option Value) (s : State) → Here types callees s → Good types callees (received_next named o c input found s)
  received_good o c input None s h = tt
  received_good o c [] (Some before) s h = h
  received_good o c (i ∷ is) (Some before) s h = h

  receive_good : (o : Value) (c : ℕ) (found : Found (Cell Value)) (s : State) → Here types callees s → Good types callees (receive_next named o c found s)
  receive_good o c on_null s h = h
  receive_good o c on_gone s h = tt
  receive_good o c on_other s h = tt
  receive_good o c (finds cell) s h = received_good o c s.input (slice_get cell.values c) s h

  exit_good : (condition : Option ExpressionForm) (s : State) → Here types callees s → Good types callees (exit_next named condition s)
  exit_good None s h = h
  exit_good (Some e) s h = (tt, (tt, h))

  exited_good : (truth : Option Bool) (s : State) → Here types callees s → Good types callees (exited_next named truth s)
  exited_good None s h = tt
  exited_good (Some true) s h = h
  exited_good (Some false) s h = h

  -- A call: its actual parameters are evaluated before its body begins, which nests anywhere where the call does.
  computing_nests : (actuals : List ActualForm) (k : List (Frame Value)) (ms : List Master) → Anywhere types callees k ms → Anywhere types callees (computing named actuals k) ms
  computing_nests [] k ms h = h
  computing_nests (in_value e ∷ rest) k ms h = (tt, computing_nests rest k ms h)
  computing_nests (in_null ∷ rest) k ms h = (tt, computing_nests rest k ms h)
  computing_nests (in_access path ∷ rest) k ms h = (tt, computing_nests rest k ms h)
  computing_nests (in_record p ∷ rest) k ms h = (tt, computing_nests rest k ms h)
  computing_nests (in_out_path path ∷ rest) k ms h = (tt, computing_nests rest k ms h)
  computing_nests (in_out_access path ∷ rest) k ms h = (tt, computing_nests rest k ms h)
  computing_nests (in_out_component path ∷ rest) k ms h = (tt, computing_nests rest k ms h)
  computing_nests (in_out_record p ∷ rest) k ms h = (tt, computing_nests rest k ms h)

  storing_nests : (references : List Value) (k : List (Frame Value)) (ms : List Master) → Anywhere types callees k ms → Anywhere types callees (storing named references k) ms
  storing_nests [] k ms h = h
  storing_nests (r ∷ rs) k ms h = (tt, storing_nests rs k ms h)

  call_good : (procedure : ℕ) (actuals : List ActualForm) (body : Option BodyForm) (s : State) → slice_get bodies procedure ≡ body → (some_waits s.control ≡ true → (around : List ℕ) → call_nests (slice_get callees procedure) around ≡ true) → Here types callees s → Good types callees (call_next named procedure actuals body s)
  call_good procedure actuals None s at_body nest h = tt
  call_good procedure actuals (Some b) s at_body nest h =
      computing_nests actuals (frame.Calls procedure b actuals ∷ s.control) s.masters
      (λ is. body_anywhere types callees b (λ around. nesting procedure b around at_body (nest is around)), h)

  stmt_good : (definitions : List TypeDefinition) (f : StmtForm) (s : State) → (some_waits s.control ≡ true → (around : List ℕ) → StatementNests types callees around f) → Here types callees s → Good types callees (stmt_next named definitions bodies f s)
  stmt_good definitions skips s nest h = h
  stmt_good definitions (assigns target right) s nest h = assign_good target.selectors target.root right s h
  stmt_good definitions (assigns_record target items) s nest h =
      record_assign_good types callees (has_parts definitions target.record_type) target items s h
  stmt_good definitions (frees access path) s nest h = frees_good definitions path.selectors access path.root s h
  stmt_good definitions (gets target) s nest h = gets_good target.selectors target.root s.input s h
  stmt_good definitions (writes e) s nest h = (tt, (tt, h))
  stmt_good definitions (writes_text text) s nest h = h
  stmt_good definitions (chooses branches) s nest h = branches_good branches s nest h
  stmt_good definitions (repeats condition fs end_spot) s nest h = (nest, h)
  stmt_good definitions (counts x low high fs end_spot) s nest h = (tt, (tt, (nest, h)))
  stmt_good definitions (exits condition spot) s nest h = exit_good condition s h
  stmt_good definitions (calls procedure actuals) s nest h = call_good procedure actuals (slice_get bodies procedure) s refl nest h
  stmt_good definitions (returns spot) s nest h = h
  stmt_good definitions (raises e) s nest h = h
  stmt_good definitions (encloses ds fs hs) s nest h = (λ is. (part_anywhere types callees ds fs hs (nest is), All-nil _), h)

  stmts_good : (definitions : List TypeDefinition) (fs : StmtsForm) (s : State) → StatementsHere s fs → Here types callees s → Good types callees (stmts_next named definitions bodies fs s)
  stmts_good definitions no_stmts s nest h = h
  stmts_good definitions (a_stmt f fs) s nest h =
      stmt_good definitions f (at (frame.Does fs ∷ s.control) s) (λ is around. (nest is around).0) (λ is around. (nest is around).1, h)

  line_good : (read : Option ℤ) (s : State) → Here types callees s → Good types callees (line_next named read s)
  line_good None s h = tt
  line_good (Some i) s h = h

  -- A record object is made, which is no collection.
  made_good : (definitions : List TypeDefinition) (x t : ℕ) (by : Birth) (values : List Value) (s : State) → Here types callees s → Here types callees (made named definitions x t by values s)
  made_good definitions x t by values s h =
      let item : Item = record { number = height s.masters; owned = record_object t } in
      treating_anywhere types callees (Names (record { 0 = length s.heap })) (frame.begins by []) (all_tasks definitions t PartsFirst) s.control (owning item s.masters)
      (owning_anywhere types callees item s.control s.masters refl h)

  record_good : (definitions : List TypeDefinition) (x t : ℕ) (initial : Option (List ItemForm)) (s : State) → Here types callees s → Good types callees (record_next named definitions x t initial s)
  record_good definitions x t None s h = made_good definitions x t Creation (initial_values named (reached_of definitions t)) s h
  record_good definitions x t (Some items) s h = (tt, (tt, h))

  -- Declarations: a collection is created only where no operation waits.
  declarations_good : (definitions : List TypeDefinition) (ds : List DeclarationForm) (fs : StmtsForm) (hs : HandlersForm) (s : State) → FrameAnywhere types callees (some_waits s.control) s.masters (frame.Elaborates ds fs hs) → Anywhere types callees s.control (older s.masters) → Good types callees (declarations_next named definitions ds fs hs s)
  declarations_good definitions [] fs hs s own h = (λ is. (own is).0.1, (λ is. (own is).0.2, (λ is. (own is).1, h)))
  declarations_good definitions (creates_pool p ∷ ds) fs hs s own h =
      owning_anywhere types callees (record { number = height s.masters; owned = storage_pool p (pools_in s.masters + 1) }) (frame.Elaborates ds fs hs ∷ s.control) s.masters refl (own, h)
  declarations_good definitions (collects access ∷ ds) fs hs s own h = (
    λ is. absurd (cc (own is).0.0),
    behind_owning types callees (record { number = height s.masters; owned = collection access (pool_for (pool_named definitions access) s.masters) }) s.control s.masters h,
  )
  declarations_good definitions (declares x right ∷ ds) fs hs s own h = (tt, (tt, (own, h)))
  declarations_good definitions (declares_record x t initial ∷ ds) fs hs s own h =
      record_good definitions x t initial (at (frame.Elaborates ds fs hs ∷ s.control) s) (own, h)

  -- Each frame that is taken off.
  frame_good : (definitions : List TypeDefinition) (f : Frame Value) → (IsTreatment f → OperationsHere callees definitions) → (s : State) → FrameAnywhere types callees (some_waits s.control) s.masters f → Anywhere types callees s.control (outside (has_master f) s.masters) → Good types callees (frame_next named definitions bodies f s)
  frame_good definitions (frame.Elaborates ds fs hs) operations s own h = declarations_good definitions ds fs hs s own h
  frame_good definitions (frame.Does fs) operations s own h = stmts_good definitions fs s own h
  frame_good definitions (frame.Decides fs branches) operations s own h = decided_good fs branches (reads_boolean (newest named s)) (popped s) own h
  frame_good definitions (frame.Repeats condition fs) operations s own h = repeats_good condition fs s own h
  frame_good definitions (frame.Turns condition fs) operations s own h = turned_good condition fs (reads_boolean (newest named s)) (popped s) own h
  frame_good definitions (frame.Ranges x fs) operations s own h = ranges_good x fs (reads_integer (newest named (popped s))) (reads_integer (newest named s)) (popped (popped s)) own h
  frame_good definitions (frame.Counts x value last fs) operations s own h = counting_good (int_le value last) x value last fs s own h
  frame_good definitions frame.Exits operations s own h = exited_good (reads_boolean (newest named s)) (popped s) h
  frame_good definitions (frame.Handles hs) operations s own h = h
  frame_good definitions frame.Closes operations s own h = (own, h)
  frame_good definitions (frame.Leaves mode) operations s own h = leave_good types callees definitions mode s.masters s own h
  frame_good definitions (frame.Calls procedure b actuals) operations s own h = (λ is. (own is, All-nil _), (tt, h))
  frame_good definitions (frame.Returns actuals references) operations s own h = storing_nests references s.control s.masters h
  frame_good definitions (frame.Evaluates right) operations s own h = right_good types callees definitions right s h
  frame_good definitions (frame.Computes e) operations s own h = expression_good types callees e s h
  frame_good definitions (frame.Follows cs) operations s own h = path_good types callees cs (newest named s) (popped s) h
  frame_good definitions (frame.TestsNull equal) operations s own h = null_test_good types callees equal (reads_null (newest named s)) (popped s) h
  frame_good definitions (frame.Refers p) operations s own h =
      record_holder_good types callees p (λ place. frame.RefersIn place p.record_type) s (λ place. (tt, h)) h
  frame_good definitions (frame.RefersIn place t) operations s own h =
      refers_good types callees (newest named s) place (width_of definitions t) (look s.heap (newest named s)) (popped s) h
  frame_good definitions (frame.Opens path) operations s own h = open_good types callees path.selectors path.root s h
  frame_good definitions (frame.OpensIn c) operations s own h = opens_good types callees (newest named s) c (look s.heap (newest named s)) (popped s) h
  frame_good definitions (frame.Continues links) operations s own h = links_good types callees links s h
  frame_good definitions (frame.Applies operator) operations s own h = outcome_good types callees (binary_given operator (newest named (popped s)) (newest named s)) (popped (popped s)) h
  frame_good definitions (frame.AppliesAlone operator) operations s own h = outcome_good types callees (unary_given operator (newest named s)) (popped s) h
  frame_good definitions (frame.Fills items) operations s own h = items_good types callees items s h
  frame_good definitions (frame.Copies first t) operations s own h = copies_good types callees (newest named s) first (width_of definitions t) (look s.heap (newest named s)) (popped s) h
  frame_good definitions (frame.Creates access count) operations s own h = new_good types callees definitions access count (words_of definitions access) (home_of access s.masters) s h
  frame_good definitions (frame.Stores x) operations s own h = h
  frame_good definitions (frame.Declares x) operations s own h = owning_anywhere types callees (record { number = height s.masters; owned = declared x }) s.control s.masters refl h
  frame_good definitions (frame.Treats v treatment tasks) operations s own h = treats_good types callees bodies nesting definitions (operations tt) v treatment tasks (task_next tasks) s h
  frame_good definitions (frame.Awaits v by done of part tasks) operations s own h = awaited_good types callees bodies nesting v by done of part tasks (look s.heap v) s h
  frame_good definitions frame.Confines operations s own h = h
  frame_good definitions (frame.Resumes mode) operations s own h = h
  frame_good definitions frame.Writes operations s own h = line_good (reads_integer (newest named s)) (popped s) h
  frame_good definitions (frame.Ends v) operations s own h = end_good types callees v (look s.heap v) s h
  frame_good definitions (frame.GivesBack v cause pool) operations s own h = back_good types callees v cause pool (lent s.heap v) s h
  frame_good definitions (frame.Clears x) operations s own h = h
  frame_good definitions (frame.Targets c right) operations s own h = target_good (newest named s) c right (look s.heap (newest named s)) (popped s) h
  frame_good definitions (frame.StoresIn o c) operations s own h = store_good o c (newest named s) (look s.heap o) (popped s) h
  frame_good definitions (frame.TargetsRecord first t items) operations s own h =
      record_target_good types callees (newest named s) first (width_of definitions t) items (look s.heap (newest named s)) (popped s) h
  frame_good definitions (frame.StoresRecord o first count) operations s own h = store_record_good types callees o first count (look s.heap o) s h
  frame_good definitions (frame.Assigns t) operations s own h =
      let target = newest named (popped s) in
      let source = newest named s in
      assigns_good types callees definitions t target source (same target source) (popped (popped s)) h
  frame_good definitions (frame.DeclaresRecord x t) operations s own h =
      made_good definitions x t Copy (newest_ones named (words_of definitions t) s) (without_newest named (words_of definitions t) s) h
  frame_good definitions (frame.Receives c) operations s own h = receive_good (newest named s) c (look s.heap (newest named s)) (popped s) h
  frame_good definitions (frame.FreesIn access c) operations s own h = free_in_good types callees definitions access (newest named s) c (look s.heap (newest named s)) (popped s) h
  frame_good definitions (frame.ClearsIn o c) operations s own h = store_good o c Null (look s.heap o) s h

  -- A jump: what it passes, and where it lands.
  abbrev LandsHere : (waiting : Bool) → Landing Value → Type 0
  LandsHere waiting passes_on = Unit {0}
  LandsHere waiting goes_behind = Unit {0}
  LandsHere waiting (goes_in fs) = waiting ≡ true → StatementsAnywhere types callees fs
  LandsHere waiting (breaks_off v by done) = Unit {0}
  LandsHere waiting escapes = Unit {0}

  handler_here : (waiting takes : Bool) (fs : StmtsForm) (later : Option StmtsForm) → (waiting ≡ true → StatementsAnywhere types callees fs) → LandsHere waiting (handler_landing later) → LandsHere waiting (handler_landing (if takes then Some fs else later))
  handler_here waiting true fs later nest h = nest
  handler_here waiting false fs later nest h = h

  handlers_land : (waiting : Bool) (e : Exception) (hs : HandlersForm) → (waiting ≡ true → HandlersAnywhere types callees hs) → LandsHere waiting (handler_landing (handler_of e hs))
  handlers_land waiting e no_handlers nest = tt
  handlers_land waiting e (a_handler choices fs hs) nest =
      handler_here waiting (some_takes e choices) fs (handler_of e hs) (λ is around. (nest is around).0) (handlers_land waiting e hs (λ is around. (nest is around).1))

  raised_lands : (waiting : Bool) (ms : List Master) (e : Exception) (f : Frame Value) → FrameAnywhere types callees waiting ms f → LandsHere waiting (landing (Raising e) f)
  raised_lands waiting ms e (frame.Handles hs) nest = handlers_land waiting e hs nest
  raised_lands waiting ms e f nest = tt

  none_lands : (waiting : Bool) (f : Frame Value) → LandsHere waiting (operation_landing f)
  none_lands waiting (frame.Awaits v by done of part tasks) = tt
  none_lands waiting frame.Confines = tt
  none_lands waiting f = tt

  exit_lands : (waiting ends_here : Bool) (otherwise_at : Landing Value) → LandsHere waiting otherwise_at → LandsHere waiting (if ends_here then goes_behind else otherwise_at)
  exit_lands waiting true otherwise_at lands = tt
  exit_lands waiting false otherwise_at lands = lands

  lands : (waiting : Bool) (ms : List Master) (mode : Mode) (f : Frame Value) → FrameAnywhere types callees waiting ms f → LandsHere waiting (landing mode f)
  lands waiting ms Running f nest = tt
  lands waiting ms (Raising e) f nest = raised_lands waiting ms e f nest
  lands waiting ms Exiting f nest = exit_lands waiting (is_loop f) (operation_landing f) (none_lands waiting f)
  lands waiting ms Returning f nest = exit_lands waiting (is_return f) (operation_landing f) (none_lands waiting f)

  -- An exception comes out of an operation that was to begin a part: what has begun of the object is undone.
  undo_good : (e : Exception) (v : Value) (done : List Part) (found : Found (Cell Value)) (s : State) → Here types callees s → Good types callees (undo_next named e v done found s)
  undo_good e v done on_null s h = tt
  undo_good e v done on_gone s h = tt
  undo_good e v done on_other s h = tt
  undo_good e v done (finds cell) s h =
      treating_anywhere types callees v (frame.ends (Undoing s.next)) (map (λ p. performs p.of p.number) done)
      (frame.Ends v ∷ frame.GivesBack v (Undoing s.next) cell.home.pool ∷ frame.Resumes (Raising e) ∷ s.control) s.masters (tt, (tt, (tt, h)))

  broken_good : (e : Exception) (v : Value) (by : Birth) (done : List Part) (s : State) → Here types callees s → Good types callees (broken_next named e v by done s)
  broken_good e v Creation done s h = undo_good e v done (look s.heap v) s h
  broken_good e v Copy done s h = tt
  broken_good e v (Adjustment number) done s h = tt

  broken_off_good : (mode : Mode) (v : Value) (by : Birth) (done : List Part) (s : State) → Here types callees s → Good types callees (broken_off named mode v by done s)
  broken_off_good Running v by done s h = tt
  broken_off_good (Raising e) v by done s h = broken_good e v by done s h
  broken_off_good Exiting v by done s h = tt
  broken_off_good Returning v by done s h = tt

  landed_good : (l : Landing Value) (mode : Mode) (s : State) → LandsHere (some_waits s.control) l → Here types callees s → Good types callees (landed named l mode s)
  landed_good passes_on mode s lands h = h
  landed_good goes_behind mode s lands h = h
  landed_good (goes_in no_stmts) mode s lands h = tt
  landed_good (goes_in (a_stmt f fs)) mode s lands h = (lands, h)
  landed_good (breaks_off v by done) mode s lands h = broken_off_good mode v by done s h
  landed_good escapes mode s lands h = tt

  -- A master that it comes to is left: that owns no collection, where an operation waits behind it.
  abbrev OwnsNoneHere : (master : Bool) → State → Type 0
  OwnsNoneHere master s = master ≡ true → some_waits s.control ≡ true → InnermostOwnsNone s.masters

  pass_good : (master : Bool) (l : Landing Value) (mode : Mode) (s : State) → LandsHere (some_waits s.control) l → OwnsNoneHere master s → Anywhere types callees s.control (outside master s.masters) → Good types callees (pass_next named master l mode s)
  pass_good true l mode s lands own h = (own refl, h)
  pass_good false l mode s lands own h = landed_good l mode s lands h

  -- The end of a call changes the activations, and behind a normal one components get something back.
  returned_waits : (references : List Value) (k : List (Frame Value)) → some_waits (storing named references k) ≡ some_waits k
  returned_waits [] k = refl
  returned_waits (r ∷ rs) k = returned_waits rs k

  left_good : (mode : Mode) (actuals : List ActualForm) (references : List Value) (l : Landing Value) (s : State) → LandsHere (some_waits s.control) l → Here types callees s → Good types callees (pass_next named false l mode (left_by named mode actuals references s))
  left_good Running actuals references l s here h = landed_good l Running (resumed s) here h
  left_good (Raising e) actuals references l s here h = landed_good l (Raising e) (resumed s) here h
  left_good Exiting actuals references l s here h = landed_good l Exiting (resumed s) here h
  left_good Returning actuals references l s here h =
      landed_good l Returning (returned named actuals references s) (rw (returned_waits references s.control) here) (storing_nests references s.control s.masters h)

  unwound_good : (f : Frame Value) (mode : Mode) (s : State) → LandsHere (some_waits s.control) (landing mode f) → OwnsNoneHere (is_master f) s → Anywhere types callees s.control (outside (is_master f) s.masters) → Good types callees (pass_next named (is_master f) (landing mode f) mode (unwound named mode f s))
  unwound_good (frame.Returns actuals references) mode s here own h =
      left_good mode actuals references (landing {V = Value} mode (frame.Returns actuals references)) s here h
  unwound_good f mode s here own h = pass_good (is_master f) (landing mode f) mode s here own h

  or_false : (a b : Bool) → b ≡ false → (a || b) ≡ a
  or_false true b is = refl
  or_false false b is = is

  or_true : (a b : Bool) → a ≡ true → (a || b) ≡ true
  or_true true b is = refl
  or_true false b is = absurd (cc is)

  -- It comes to no master that is being left: the body of a Finalize stands in front of that, and no jump leaves it.
  abbrev LeavesNone : List (Frame Value) → Type 0
  LeavesNone [] = Unit {0}
  LeavesNone (f ∷ k) = is_departure f ≡ false

  jump_good : (mode : Mode) (k : List (Frame Value)) (s : State) → LeavesNone k → Anywhere types callees k s.masters → Good types callees (jump_next named mode k s)
  jump_good mode [] s stays h = tt
  jump_good mode (f ∷ k) s stays h =
      unwound_good f mode (at k s) (lands (some_waits k) s.masters mode f h.0) (λ is waits. master_owns_none types callees (some_waits k) s.masters f (or_true (is_master f) (is_departure f) is) waits h.0)
      (subst (λ (b : Bool). Anywhere types callees k (outside b s.masters)) (or_false (is_master f) (is_departure f) stays) h.1)

  -- So it is in a state that nests.
  abbrev Jumps : Mode → Type 0
  Jumps Running = ⊥
  Jumps (Raising e) = Unit {0}
  Jumps Exiting = Unit {0}
  Jumps Returning = Unit {0}

  frame_stays : (main : Option (List ℕ)) (calling : Bool) (ss vs : Scopes) (f : Frame Value) → FrameNests types callees main calling ss vs f → is_departure f ≡ false
  frame_stays main calling ss vs (frame.Leaves mode) nest = absurd nest
  frame_stays main calling ss vs f nest = refl

  control_stays : (main : Option (List ℕ)) (calling : Bool) (ss vs : Scopes) (k : List (Frame Value)) → Nests types callees main calling ss vs k → LeavesNone k
  control_stays main calling ss vs [] n = tt
  control_stays main calling ss vs (f ∷ k) n = frame_stays main calling ss vs f n.0

  stays_in : (main : Option (List ℕ)) (calling : Bool) (s : State) → Jumps s.mode → Nested types callees main calling s → LeavesNone s.control
  stays_in main calling s jumps (standing ss w n) = control_stays main calling ss (scopes s.masters) s.control n
  stays_in main calling s jumps (beginning b) = absurd (subst Jumps b.runs jumps)
  stays_in main calling s jumps (parting ss w runs goes) = absurd (subst Jumps runs jumps)
  stays_in main calling s jumps (resting ss w none ends) = subst LeavesNone (sym ends) tt

  module _ (definitions : List TypeDefinition) (main : Option (List ℕ)) (calling : Bool) where
    running_good : (k : List (Frame Value)) → (TreatsFirst k → OperationsHere callees definitions) → (s : State) → Anywhere types callees k s.masters → Good types callees (running_next named definitions bodies k s)
    running_good [] operations s h = tt
    running_good (f ∷ k) operations s h = frame_good definitions f operations (at k s) h.0 h.1

    mode_good : (mode : Mode) (s : State) → (TreatsFirst s.control → OperationsHere callees definitions) → s.mode ≡ mode → Nested types callees main calling s → Here types callees s → Good types callees (mode_next named definitions bodies mode s)
    mode_good Running s operations is nested h = running_good s.control operations s h
    mode_good (Raising e) s operations is nested h = jump_good (Raising e) s.control s (stays_in main calling s (subst Jumps (sym is) tt) nested) h
    mode_good Exiting s operations is nested h = jump_good Exiting s.control s (stays_in main calling s (subst Jumps (sym is) tt) nested) h
    mode_good Returning s operations is nested h = jump_good Returning s.control s (stays_in main calling s (subst Jumps (sym is) tt) nested) h

    -- A step of a state that nests keeps that, if operations nest where a treatment is what is done next.
    pub next_good : (s : State) → (TreatsFirst s.control → OperationsHere callees definitions) → Nested types callees main calling s → Here types callees s → Good types callees (next definitions bodies s)
    unfolding next
    next_good s operations nested h = mode_good s.mode s operations refl nested h
