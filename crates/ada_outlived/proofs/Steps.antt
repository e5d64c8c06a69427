-- Each step keeps what record objects need, whatever is answered.

use Rattle.std.proofs.Common.{◌≡◌, ℕ, ℤ, ◌+◌, Bool, true, false, if◌then◌else◌, List, [], ◌∷◌, length, map, Option, Some, None, refl, sym, subst}
use Rattle.std.specs.Prelude.{int_le}
use Rattle.std.specs.List.{slice_get}
use Rattle.ada_program.specs.declared.program.TypeDefinition.{TypeDefinition}
use Rattle.ada_program.specs.declared.program.Exception.{Exception}
use Rattle.ada_program.specs.Form.{ActualForm, in_value, in_null, in_access, in_record, in_out_path, in_out_access, in_out_component, in_out_record, ExpressionForm, ItemForm, RightForm, StmtForm, skips, assigns, assigns_record, frees, gets, writes, writes_text, chooses, repeats, counts, exits, calls, returns, raises, encloses, StmtsForm, no_stmts, a_stmt, BranchesForm, otherwise, a_branch, HandlersForm, no_handlers, a_handler, DeclarationForm, creates_pool, collects, declares, declares_record}
use Rattle.ada_program.specs.Handling.{some_takes, handler_of}
use Rattle.ada_parts.specs.declared.tasks.Direction.TheVariants.{PartsFirst}
use Rattle.ada_parts.specs.Task.{performs, next as task_next}
use Rattle.ada_meaning.specs.declared.event.Birth.{Birth}
use Rattle.ada_meaning.specs.declared.event.Birth.TheVariants.{Creation, Copy, Adjustment}
use Rattle.ada_meaning.specs.declared.event.Cause.TheVariants.{Undoing}
use Rattle.ada_parts.specs.Part.{Part}
use Rattle.ada_program.specs.ProgramForm.{TypeForm, BodyForm}
use Rattle.ada_program.specs.Typed.{reached_of, words_of, width_of, pool_named}
use Rattle.ada_program.specs.WellFormed.{reached_components}
use Rattle.ada_program.specs.Nested.{Callees, call_nests, are_open}
use Rattle.ada_meaning.specs.declared.state.Value.{Value}
use Rattle.ada_meaning.specs.declared.state.Value.TheVariants.{Null, Names}
use Rattle.ada_meaning.specs.declared.state.Mode.{Mode}
use Rattle.ada_meaning.specs.declared.state.Mode.TheVariants.{Running, Raising, Exiting, Returning}
use Rattle.ada_meaning.specs.Event.{Quiet}
use Rattle.ada_meaning.specs.Frame.{Frame, is_master, is_loop, is_return, Landing, passes_on, goes_behind, goes_in, breaks_off, escapes, operation_landing, handler_landing, landing}
use Rattle.ada_meaning.specs.Frame as frame
use Rattle.ada_meaning.specs.State.{height, home_of, pools_in, pool_for}
use Rattle.ada_meaning.specs.Heap.{Cell, Found, on_null, on_gone, on_other, finds}
use Rattle.ada_meaning.specs.Step.{moves, has_parts, all_tasks, at, popped, held, newest, newest_ones, without_newest, initial_values, made, record_next, assign_next, target_next, stored_next, store_next, frees_next, branches_next, decided_next, turn_next, repeats_next, turned_next, count_turn_next, ranges_next, gets_next, received_next, receive_next, exit_next, exited_next, computing, call_next, stmt_next, stmts_next, line_next, declarations_next, frame_next, resumed, returned, left_by, unwound, undo_next, broken_next, broken_off, landed, pass_next, running_next, jump_next, mode_next}
use Rattle.ada_meaning.specs.Named.{State, next, named, same, look, lent, reads_boolean, reads_null, reads_integer, unary_given, binary_given}
use Rattle.ada_program.specs.Controlled.{operations_of}
use Rattle.ada_scopes.specs.Scopes.{AllNestAnywhere}
use Rattle.ada_scopes.proofs.Texts.{RecordsNest, StatementNests, StatementsNest, BranchesNest, HandlersNest, BodiesNest}
use Rattle.ada_scopes.proofs.Treatments.{IsTreatment, TreatsFirst}
use Rattle.ada_outlived.proofs.Records.{NeedNow, CanOwn, owns_declared, owns_pool, owns_record, owns_collection}
use Rattle.ada_outlived.proofs.Control.{inside, Anywhere, FrameFree, Free, Keeps, Good, PartReady, FrameReady, free_treating, free_storing, inside_storing, part_free}
use Rattle.ada_outlived.proofs.Evaluations.{path_good, holder_good, record_holder_good, refers_good, open_good, opens_good, expression_good, null_test_good, links_good, outcome_good, items_good, copies_good, record_target_good, store_record_good, record_assign_good, assigns_good, new_good, right_good, free_good, free_in_good, end_good, back_good}
use Rattle.ada_outlived.proofs.Treatments.{body_free, awaited_good, treats_good}
use Rattle.ada_outlived.proofs.Leavings.{leave_good}

module _ (types : List TypeForm) (callees : Callees) (bodies : List BodyForm) (nesting : BodiesNest types callees bodies) where
  -- Statements: they nest anywhere inside the body of a Finalize.
  abbrev StatementsHere : State → StmtsForm → Type 0
  StatementsHere s fs = Anywhere (inside s.control) (λ around. StatementsNest types callees around fs)

  assign_good : (cs : List ℕ) (x : ℕ) (right : RightForm) (s : State) → Keeps types callees s → Good types callees (assign_next named cs x right s)
  assign_good [] x right s h = (h.0, (tt, (tt, h.1)))
  assign_good (c ∷ cs) x right s h = holder_good types callees c cs x (λ last. frame.Targets last right) s (λ n. (tt, h.1)) h

  target_good : (o : Value) (c : ℕ) (right : RightForm) (found : Found (Cell Value)) (s : State) → Keeps types callees s → Good types callees (target_next named o c right found s)
  target_good o c right on_null s h = h
  target_good o c right on_gone s h = tt
  target_good o c right on_other s h = tt
  target_good o c right (finds cell) s h = (h.0, (tt, (tt, h.1)))

  stored_good : (o : Value) (c : ℕ) (v : Value) (found : Option Value) (s : State) → Keeps types callees s → Good types callees (stored_next named o c v found s)
  stored_good o c v None s h = tt
  stored_good o c v (Some before) s h = h

  store_good : (o : Value) (c : ℕ) (v : Value) (found : Found (Cell Value)) (s : State) → Keeps types callees s → Good types callees (store_next named o c v found s)
  store_good o c v on_null s h = tt
  store_good o c v on_gone s h = tt
  store_good o c v on_other s h = tt
  store_good o c v (finds cell) s h = stored_good o c v (slice_get cell.values c) s h

  frees_good : (definitions : List TypeDefinition) (cs : List ℕ) (access x : ℕ) (s : State) → Keeps types callees s → Good types callees (frees_next named definitions cs access x s)
  frees_good definitions [] access x s h = free_good types callees definitions access x (held named s x) (named.standing s.heap (held named s x)) s h
  frees_good definitions (c ∷ cs) access x s h = holder_good types callees c cs x (λ last. frame.FreesIn access last) s (λ n. (tt, h.1)) h

  branches_good : (branches : BranchesForm) (s : State) → Anywhere (inside s.control) (λ around. BranchesNest types callees around branches) → Keeps types callees s → Good types callees (branches_next named branches s)
  branches_good (otherwise fs) s nest h = (h.0, (nest, h.1))
  branches_good (a_branch e fs branches) s nest h = (h.0, (tt, (nest, h.1)))

  decided_good : (fs : StmtsForm) (branches : BranchesForm) (truth : Option Bool) (s : State) → Anywhere (inside s.control) (λ around. StatementsNest types callees around fs × BranchesNest types callees around branches) → Keeps types callees s → Good types callees (decided_next named fs branches truth s)
  decided_good fs branches None s nest h = tt
  decided_good fs branches (Some true) s nest h = (h.0, ((λ within around. (nest within around).0), h.1))
  decided_good fs branches (Some false) s nest h = branches_good branches s (λ within around. (nest within around).1) h

  turn_good : (condition : Option ExpressionForm) (fs : StmtsForm) (s : State) → StatementsHere s fs → Keeps types callees s → Good types callees (turn_next named condition fs s)
  turn_good condition no_stmts s nest h = tt
  turn_good condition (a_stmt f fs) s nest h = (h.0, (nest, (nest, h.1)))

  repeats_good : (condition : Option ExpressionForm) (fs : StmtsForm) (s : State) → StatementsHere s fs → Keeps types callees s → Good types callees (repeats_next named condition fs s)
  repeats_good None fs s nest h = turn_good None fs s nest h
  repeats_good (Some e) fs s nest h = (h.0, (tt, (nest, h.1)))

  turned_good : (e : ExpressionForm) (fs : StmtsForm) (truth : Option Bool) (s : State) → StatementsHere s fs → Keeps types callees s → Good types callees (turned_next named e fs truth s)
  turned_good e fs None s nest h = tt
  turned_good e fs (Some true) s nest h = turn_good (Some e) fs s nest h
  turned_good e fs (Some false) s nest h = h

  count_turn_good : (x : ℕ) (value last : ℤ) (fs : StmtsForm) (s : State) → StatementsHere s fs → Keeps types callees s → Good types callees (count_turn_next named x value last fs s)
  count_turn_good x value last no_stmts s nest h = tt
  count_turn_good x value last (a_stmt f fs) s nest h = (h.0, (nest, (nest, h.1)))

  counting_good : (more : Bool) (x : ℕ) (value last : ℤ) (fs : StmtsForm) (s : State) → StatementsHere s fs → Keeps types callees s → Good types callees (if more then count_turn_next named x value last fs s else moves Quiet s)
  counting_good true x value last fs s nest h = count_turn_good x value last fs s nest h
  counting_good false x value last fs s nest h = h

  ranges_good : (x : ℕ) (fs : StmtsForm) (low high : Option ℤ) (s : State) → StatementsHere s fs → Keeps types callees s → Good types callees (ranges_next named x fs low high s)
  ranges_good x fs None high s nest h = tt
  ranges_good x fs (Some low) None s nest h = tt
  ranges_good x fs (Some low) (Some high) s nest h = counting_good (int_le low high) x low high fs s nest h

  gets_good : (cs : List ℕ) (x : ℕ) (input : List ℤ) (s : State) → Keeps types callees s → Good types callees (gets_next named cs x input s)
  gets_good (c ∷ cs) x input s h = holder_good types callees c cs x (λ last. frame.Receives last) s (λ n. (tt, h.1)) h
  gets_good [] x [] s h = h
  gets_good [] x (i ∷ is) s h = h

  received_good : (o : Value) (c : ℕ) (input : List ℤ) (found : Option Value) (s : State) → Keeps types callees s → Good types callees (received_next named o c input found s)
  received_good o c input None s h = tt
  received_good o c [] (Some before) s h = h
  received_good o c (i ∷ is) (Some before) s h = h

  receive_good : (o : Value) (c : ℕ) (found : Found (Cell Value)) (s : State) → Keeps types callees s → Good types callees (receive_next named o c found s)
  receive_good o c on_null s h = h
  receive_good o c on_gone s h = tt
  receive_good o c on_other s h = tt
  receive_good o c (finds cell) s h = received_good o c s.input (slice_get cell.values c) s h

  exit_good : (condition : Option ExpressionForm) (s : State) → Keeps types callees s → Good types callees (exit_next named condition s)
  exit_good None s h = h
  exit_good (Some e) s h = (h.0, (tt, (tt, h.1)))

  exited_good : (truth : Option Bool) (s : State) → Keeps types callees s → Good types callees (exited_next named truth s)
  exited_good None s h = tt
  exited_good (Some true) s h = h
  exited_good (Some false) s h = h

  -- A call: its actual parameters are evaluated before its body begins, which nests where it is called.
  computing_nests : (actuals : List ActualForm) (k : List (Frame Value)) → Free types callees k → Free types callees (computing named actuals k)
  computing_nests [] k n = n
  computing_nests (in_value e ∷ rest) k n = (tt, computing_nests rest k n)
  computing_nests (in_null ∷ rest) k n = (tt, computing_nests rest k n)
  computing_nests (in_access path ∷ rest) k n = (tt, computing_nests rest k n)
  computing_nests (in_record p ∷ rest) k n = (tt, computing_nests rest k n)
  computing_nests (in_out_path path ∷ rest) k n = (tt, computing_nests rest k n)
  computing_nests (in_out_access path ∷ rest) k n = (tt, computing_nests rest k n)
  computing_nests (in_out_component path ∷ rest) k n = (tt, computing_nests rest k n)
  computing_nests (in_out_record p ∷ rest) k n = (tt, computing_nests rest k n)

  call_good : (procedure : ℕ) (actuals : List ActualForm) (body : Option BodyForm) (s : State) → slice_get bodies procedure ≡ body → Anywhere (inside s.control) (λ around. call_nests (slice_get callees procedure) around ≡ true) → Keeps types callees s → Good types callees (call_next named procedure actuals body s)
  call_good procedure actuals None s at_body nest h = tt
  call_good procedure actuals (Some b) s at_body nest h =
      (h.0, computing_nests actuals (frame.Calls procedure b actuals ∷ s.control) ((λ within around. nesting procedure b around at_body (nest within around)), h.1))

  -- A block begins: inside the body of a Finalize it creates no collection.
  block_free : (within : Bool) (ds : List DeclarationForm) (fs : StmtsForm) (hs : HandlersForm) → Anywhere within (λ around. StatementNests types callees around (encloses ds fs hs)) → Anywhere within (λ around. StatementsNest types callees around fs × HandlersNest types callees around hs × RecordsNest types around ds)
  block_free within ds fs hs nest is around =
      let free = part_free types ds (λ us. StatementsNest types callees us fs × HandlersNest types callees us hs) (λ us. (nest is us).0) (λ us. ((nest is us).1, (nest is us).2)) around in
      (free.0.0, free.0.1, free.1)

  stmt_good : (definitions : List TypeDefinition) (f : StmtForm) (s : State) → Anywhere (inside s.control) (λ around. StatementNests types callees around f) → Keeps types callees s → Good types callees (stmt_next named definitions bodies f s)
  stmt_good definitions skips s nest h = h
  stmt_good definitions (assigns target right) s nest h = assign_good target.selectors target.root right s h
  stmt_good definitions (assigns_record target items) s nest h = record_assign_good types callees (has_parts definitions target.record_type) target items s h
  stmt_good definitions (frees access path) s nest h = frees_good definitions path.selectors access path.root s h
  stmt_good definitions (gets target) s nest h = gets_good target.selectors target.root s.input s h
  stmt_good definitions (writes e) s nest h = (h.0, (tt, (tt, h.1)))
  stmt_good definitions (writes_text text) s nest h = h
  stmt_good definitions (chooses branches) s nest h = branches_good branches s nest h
  stmt_good definitions (repeats condition fs end_spot) s nest h = (h.0, (nest, h.1))
  stmt_good definitions (counts x low high fs end_spot) s nest h = (h.0, (tt, (tt, (nest, h.1))))
  stmt_good definitions (exits condition spot) s nest h = exit_good condition s h
  stmt_good definitions (calls procedure actuals) s nest h = call_good procedure actuals (slice_get bodies procedure) s refl nest h
  stmt_good definitions (returns spot) s nest h = h
  stmt_good definitions (raises e) s nest h = h
  stmt_good definitions (encloses ds fs hs) s nest h = ((tt, h.0), (block_free (inside s.control) ds fs hs nest, h.1))

  stmts_good : (definitions : List TypeDefinition) (fs : StmtsForm) (s : State) → StatementsHere s fs → Keeps types callees s → Good types callees (stmts_next named definitions bodies fs s)
  stmts_good definitions no_stmts s nest h = h
  stmts_good definitions (a_stmt f fs) s nest h =
      stmt_good definitions f (at (frame.Does fs ∷ s.control) s) (λ within around. (nest within around).0) (h.0, ((λ within around. (nest within around).1), h.1))

  line_good : (read : Option ℤ) (s : State) → Keeps types callees s → Good types callees (line_next named read s)
  line_good None s h = tt
  line_good (Some i) s h = h

  -- A record object is made, with whatever values: what it needs is open.
  made_good : (definitions : List TypeDefinition) (x t : ℕ) (by : Birth) (values : List Value) (s : State) → CanOwn types t s.masters → Keeps types callees s → Keeps types callees (made named definitions x t by values s)
  made_good definitions x t by values s can h =
      let name = Names (record { 0 = length s.heap }) in
      (owns_record types (height s.masters) t s.masters can h.0, free_treating types callees name (frame.begins by []) (all_tasks definitions t PartsFirst) s.control h.1)

  record_good : (definitions : List TypeDefinition) (x t : ℕ) (initial : Option (List ItemForm)) (s : State) → CanOwn types t s.masters → Anywhere (inside s.control) (λ around. are_open around (reached_components types t) ≡ true) → Keeps types callees s → Good types callees (record_next named definitions x t initial s)
  record_good definitions x t None s can nest h = made_good definitions x t Creation (initial_values named (reached_of definitions t)) s can h
  record_good definitions x t (Some items) s can nest h = (h.0, (tt, (nest, h.1)))

  -- Declarations.
  elaborated_good : (definitions : List TypeDefinition) (ds : List DeclarationForm) (fs : StmtsForm) (hs : HandlersForm) (s : State) → PartReady types s.masters ds → FrameFree types callees (inside s.control) (frame.Elaborates ds fs hs) → Keeps types callees s → Good types callees (declarations_next named definitions ds fs hs s)
  elaborated_good definitions [] fs hs s ready nest h = (h.0, ((λ within around. (nest within around).0), ((λ within around. (nest within around).1), (tt, h.1))))
  elaborated_good definitions (creates_pool pool ∷ ds) fs hs s ready nest h = (owns_pool types (height s.masters) pool (pools_in s.masters + 1) s.masters h.0, (nest, h.1))
  elaborated_good definitions (collects access ∷ ds) fs hs s ready nest h =
      (owns_collection types (height s.masters) access (pool_for (pool_named definitions access) s.masters) s.masters h.0, (nest, h.1))
  elaborated_good definitions (declares x right ∷ ds) fs hs s ready nest h = (h.0, (tt, (tt, (nest, h.1))))
  elaborated_good definitions (declares_record x t initial ∷ ds) fs hs s ready nest h =
      let later : FrameFree types callees (inside s.control) (frame.Elaborates ds fs hs) = λ within around. let all = nest within around in (all.0, all.1, all.2.2) in
      record_good definitions x t initial (at (frame.Elaborates ds fs hs ∷ s.control) s) ready (λ within around. (nest within around).2.1) (h.0, (later, h.1))

  -- Each frame that is taken off.
  frame_good : (definitions : List TypeDefinition) (f : Frame Value) → (IsTreatment f → (of : ℕ) → AllNestAnywhere callees (operations_of definitions of)) → (s : State) → FrameReady types s.masters f → FrameFree types callees (inside s.control) f → Keeps types callees s → Good types callees (frame_next named definitions bodies f s)
  frame_good definitions (frame.Elaborates ds fs hs) operations s ready nest h = elaborated_good definitions ds fs hs s ready nest h
  frame_good definitions (frame.Does fs) operations s ready nest h = stmts_good definitions fs s nest h
  frame_good definitions (frame.Decides fs branches) operations s ready nest h = decided_good fs branches (reads_boolean (newest named s)) (popped s) nest h
  frame_good definitions (frame.Repeats condition fs) operations s ready nest h = repeats_good condition fs s nest h
  frame_good definitions (frame.Turns condition fs) operations s ready nest h = turned_good condition fs (reads_boolean (newest named s)) (popped s) nest h
  frame_good definitions (frame.Ranges x fs) operations s ready nest h = ranges_good x fs (reads_integer (newest named (popped s))) (reads_integer (newest named s)) (popped (popped s)) nest h
  frame_good definitions (frame.Counts x value last fs) operations s ready nest h = counting_good (int_le value last) x value last fs s nest h
  frame_good definitions frame.Exits operations s ready nest h = exited_good (reads_boolean (newest named s)) (popped s) h
  frame_good definitions (frame.Handles hs) operations s ready nest h = h
  frame_good definitions frame.Closes operations s ready nest h = (h.0, (tt, h.1))
  frame_good definitions (frame.Leaves mode) operations s ready nest h = leave_good types callees definitions mode s.masters s ready h
  frame_good definitions (frame.Calls procedure b actuals) operations s ready nest h = ((tt, h.0), ((λ within. body_free types callees b (nest within)), (tt, h.1)))
  frame_good definitions (frame.Returns actuals references) operations s ready nest h = (h.0, free_storing types callees references s.control h.1)
  frame_good definitions (frame.Evaluates right) operations s ready nest h = right_good types callees definitions right s h
  frame_good definitions (frame.Computes e) operations s ready nest h = expression_good types callees e s h
  frame_good definitions (frame.Follows cs) operations s ready nest h = path_good types callees cs (newest named s) (popped s) h
  frame_good definitions (frame.TestsNull equal) operations s ready nest h = null_test_good types callees equal (reads_null (newest named s)) (popped s) h
  frame_good definitions (frame.Refers p) operations s ready nest h =
      record_holder_good types callees p (λ place. frame.RefersIn place p.record_type) s (λ place. (tt, h.1)) h
  frame_good definitions (frame.RefersIn place t) operations s ready nest h =
      refers_good types callees (newest named s) place (width_of definitions t) (look s.heap (newest named s)) (popped s) h
  frame_good definitions (frame.Opens path) operations s ready nest h = open_good types callees path.selectors path.root s h
  frame_good definitions (frame.OpensIn c) operations s ready nest h = opens_good types callees (newest named s) c (look s.heap (newest named s)) (popped s) h
  frame_good definitions (frame.Continues links) operations s ready nest h = links_good types callees links s h
  frame_good definitions (frame.Applies operator) operations s ready nest h = outcome_good types callees (binary_given operator (newest named (popped s)) (newest named s)) (popped (popped s)) h
  frame_good definitions (frame.AppliesAlone operator) operations s ready nest h = outcome_good types callees (unary_given operator (newest named s)) (popped s) h
  frame_good definitions (frame.Fills items) operations s ready nest h = items_good types callees items s h
  frame_good definitions (frame.Copies first t) operations s ready nest h = copies_good types callees (newest named s) first (width_of definitions t) (look s.heap (newest named s)) (popped s) h
  frame_good definitions (frame.Creates access count) operations s ready nest h = new_good types callees definitions access count (words_of definitions access) (home_of access s.masters) s h
  frame_good definitions (frame.Stores x) operations s ready nest h = h
  frame_good definitions (frame.Declares x) operations s ready nest h =
      (owns_declared types (height s.masters) x s.masters h.0, h.1)
  frame_good definitions (frame.Treats v treatment tasks) operations s ready nest h =
      treats_good types callees bodies nesting definitions (operations tt) v treatment tasks (task_next tasks) s h
  frame_good definitions (frame.Awaits v by done of part tasks) operations s ready nest h =
      awaited_good types callees bodies nesting v by done of part tasks (look s.heap v) s h
  frame_good definitions frame.Confines operations s ready nest h = h
  frame_good definitions (frame.Resumes mode) operations s ready nest h = h
  frame_good definitions frame.Writes operations s ready nest h = line_good (reads_integer (newest named s)) (popped s) h
  frame_good definitions (frame.Ends v) operations s ready nest h = end_good types callees v (look s.heap v) s h
  frame_good definitions (frame.GivesBack v cause pool) operations s ready nest h = back_good types callees v cause pool (lent s.heap v) s h
  frame_good definitions (frame.Clears x) operations s ready nest h = h
  frame_good definitions (frame.Targets c right) operations s ready nest h = target_good (newest named s) c right (look s.heap (newest named s)) (popped s) h
  frame_good definitions (frame.StoresIn o c) operations s ready nest h = store_good o c (newest named s) (look s.heap o) (popped s) h
  frame_good definitions (frame.TargetsRecord first t items) operations s ready nest h =
      record_target_good types callees (newest named s) first (width_of definitions t) items (look s.heap (newest named s)) (popped s) h
  frame_good definitions (frame.StoresRecord o first count) operations s ready nest h = store_record_good types callees o first count (look s.heap o) s h
  frame_good definitions (frame.Assigns t) operations s ready nest h =
      let target = newest named (popped s) in
      let source = newest named s in
      assigns_good types callees definitions t target source (same target source) (popped (popped s)) h
  frame_good definitions (frame.DeclaresRecord x t) operations s ready nest h =
      made_good definitions x t Copy (newest_ones named (words_of definitions t) s) (without_newest named (words_of definitions t) s) ready h
  frame_good definitions (frame.Receives c) operations s ready nest h = receive_good (newest named s) c (look s.heap (newest named s)) (popped s) h
  frame_good definitions (frame.FreesIn access c) operations s ready nest h = free_in_good types callees definitions access (newest named s) c (look s.heap (newest named s)) (popped s) h
  frame_good definitions (frame.ClearsIn o c) operations s ready nest h = store_good o c Null (look s.heap o) s h

  running_good : (definitions : List TypeDefinition) (k : List (Frame Value)) → (TreatsFirst k → (of : ℕ) → AllNestAnywhere callees (operations_of definitions of)) → (s : State) → ((f : Frame Value) (rest : List (Frame Value)) → k ≡ f ∷ rest → FrameReady types s.masters f) → NeedNow types s.masters → Free types callees k → Good types callees (running_next named definitions bodies k s)
  running_good definitions [] operations s ready w n = tt
  running_good definitions (f ∷ k) operations s ready w n = frame_good definitions f operations (at k s) (ready f k refl) n.0 (w, n.1)

  -- A jump: what it passes, and where it lands.
  abbrev LandsHere : Bool → Landing Value → Type 0
  LandsHere within passes_on = Unit {0}
  LandsHere within goes_behind = Unit {0}
  LandsHere within (goes_in fs) = Anywhere within (λ around. StatementsNest types callees around fs)
  LandsHere within (breaks_off v by done) = Unit {0}
  LandsHere within escapes = Unit {0}

  handler_here : (within takes : Bool) (fs : StmtsForm) (later : Option StmtsForm) → Anywhere within (λ around. StatementsNest types callees around fs) → LandsHere within (handler_landing later) → LandsHere within (handler_landing (if takes then Some fs else later))
  handler_here within true fs later nest h = nest
  handler_here within false fs later nest h = h

  handlers_land : (within : Bool) (e : Exception) (hs : HandlersForm) → Anywhere within (λ around. HandlersNest types callees around hs) → LandsHere within (handler_landing (handler_of e hs))
  handlers_land within e no_handlers nest = tt
  handlers_land within e (a_handler choices fs hs) nest =
      handler_here within (some_takes e choices) fs (handler_of e hs) (λ is around. (nest is around).0) (handlers_land within e hs (λ is around. (nest is around).1))

  raised_lands : (within : Bool) (e : Exception) (f : Frame Value) → FrameFree types callees within f → LandsHere within (landing (Raising e) f)
  raised_lands within e (frame.Handles hs) nest = handlers_land within e hs nest
  raised_lands within e f nest = tt

  none_lands : (within : Bool) (f : Frame Value) → LandsHere within (operation_landing f)
  none_lands within (frame.Awaits v by done of part tasks) = tt
  none_lands within frame.Confines = tt
  none_lands within f = tt

  exit_lands : (within ends_here : Bool) (otherwise_at : Landing Value) → LandsHere within otherwise_at → LandsHere within (if ends_here then goes_behind else otherwise_at)
  exit_lands within true otherwise_at lands = tt
  exit_lands within false otherwise_at lands = lands

  lands : (within : Bool) (mode : Mode) (f : Frame Value) → FrameFree types callees within f → LandsHere within (landing mode f)
  lands within Running f nest = tt
  lands within (Raising e) f nest = raised_lands within e f nest
  lands within Exiting f nest = exit_lands within (is_loop f) (operation_landing f) (none_lands within f)
  lands within Returning f nest = exit_lands within (is_return f) (operation_landing f) (none_lands within f)

  -- An exception comes out of an operation that was to begin a part: what has begun of the object is undone.
  undo_good : (e : Exception) (v : Value) (done : List Part) (found : Found (Cell Value)) (s : State) → Keeps types callees s → Good types callees (undo_next named e v done found s)
  undo_good e v done on_null s h = tt
  undo_good e v done on_gone s h = tt
  undo_good e v done on_other s h = tt
  undo_good e v done (finds cell) s h =
      let behind = frame.Ends v ∷ frame.GivesBack v (Undoing s.next) cell.home.pool ∷ frame.Resumes (Raising e) ∷ s.control in
      (h.0, free_treating types callees v (frame.ends (Undoing s.next)) (map (λ p. performs p.of p.number) done) behind (tt, (tt, (tt, h.1))))

  broken_good : (e : Exception) (v : Value) (by : Birth) (done : List Part) (s : State) → Keeps types callees s → Good types callees (broken_next named e v by done s)
  broken_good e v Creation done s h = undo_good e v done (look s.heap v) s h
  broken_good e v Copy done s h = tt
  broken_good e v (Adjustment number) done s h = tt

  broken_off_good : (mode : Mode) (v : Value) (by : Birth) (done : List Part) (s : State) → Keeps types callees s → Good types callees (broken_off named mode v by done s)
  broken_off_good Running v by done s h = tt
  broken_off_good (Raising e) v by done s h = broken_good e v by done s h
  broken_off_good Exiting v by done s h = tt
  broken_off_good Returning v by done s h = tt

  landed_good : (l : Landing Value) (mode : Mode) (s : State) → LandsHere (inside s.control) l → Keeps types callees s → Good types callees (landed named l mode s)
  landed_good passes_on mode s lands h = h
  landed_good goes_behind mode s lands h = h
  landed_good (goes_in no_stmts) mode s lands h = tt
  landed_good (goes_in (a_stmt f fs)) mode s lands h = (h.0, (lands, h.1))
  landed_good (breaks_off v by done) mode s lands h = broken_off_good mode v by done s h
  landed_good escapes mode s lands h = tt

  pass_good : (master : Bool) (l : Landing Value) (mode : Mode) (s : State) → LandsHere (inside s.control) l → Keeps types callees s → Good types callees (pass_next named master l mode s)
  pass_good true l mode s lands h = (h.0, (tt, h.1))
  pass_good false l mode s lands h = landed_good l mode s lands h

  -- The end of a call changes the activations, and behind a normal one components get something back.
  left_good : (mode : Mode) (actuals : List ActualForm) (references : List Value) (l : Landing Value) (s : State) → LandsHere (inside s.control) l → Keeps types callees s → Good types callees (pass_next named false l mode (left_by named mode actuals references s))
  left_good Running actuals references l s here h = pass_good false l Running (resumed s) here h
  left_good (Raising e) actuals references l s here h = pass_good false l (Raising e) (resumed s) here h
  left_good Exiting actuals references l s here h = pass_good false l Exiting (resumed s) here h
  left_good Returning actuals references l s here h =
      pass_good false l Returning (returned named actuals references s)
      (subst (λ (within : Bool). LandsHere within l) (sym (inside_storing references s.control)) here) (h.0, free_storing types callees references s.control h.1)

  unwound_good : (f : Frame Value) (mode : Mode) (s : State) → LandsHere (inside s.control) (landing mode f) → Keeps types callees s → Good types callees (pass_next named (is_master f) (landing mode f) mode (unwound named mode f s))
  unwound_good (frame.Returns actuals references) mode s here h = left_good mode actuals references (landing {V = Value} mode (frame.Returns actuals references)) s here h
  unwound_good f mode s here h = pass_good (is_master f) (landing mode f) mode s here h

  jump_good : (mode : Mode) (k : List (Frame Value)) (s : State) → NeedNow types s.masters → Free types callees k → Good types callees (jump_next named mode k s)
  jump_good mode [] s w n = tt
  jump_good mode (f ∷ k) s w n = unwound_good f mode (at k s) (lands (inside k) mode f n.0) (w, n.1)

  -- What a state relies on before its next step.
  abbrev pub IsReady : State → Type 0
  IsReady s = (f : Frame Value) (rest : List (Frame Value)) → s.mode ≡ Running → s.control ≡ f ∷ rest → FrameReady types s.masters f

  mode_good : (definitions : List TypeDefinition) (mode : Mode) (s : State) → (TreatsFirst s.control → (of : ℕ) → AllNestAnywhere callees (operations_of definitions of)) → s.mode ≡ mode → IsReady s → Keeps types callees s → Good types callees (mode_next named definitions bodies mode s)
  mode_good definitions Running s operations is ready h = running_good definitions s.control operations s (λ f rest top. ready f rest is top) h.0 h.1
  mode_good definitions (Raising e) s operations is ready h = jump_good (Raising e) s.control s h.0 h.1
  mode_good definitions Exiting s operations is ready h = jump_good Exiting s.control s h.0 h.1
  mode_good definitions Returning s operations is ready h = jump_good Returning s.control s h.0 h.1

  pub next_good : (definitions : List TypeDefinition) (s : State) → (TreatsFirst s.control → (of : ℕ) → AllNestAnywhere callees (operations_of definitions of)) → IsReady s → Keeps types callees s → Good types callees (next definitions bodies s)
  unfolding next
  next_good definitions s operations ready h = mode_good definitions s.mode s operations refl ready h
