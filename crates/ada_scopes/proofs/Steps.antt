-- Each step of a state that nests leads to one that nests, whatever is answered.

use Rattle.std.proofs.Common.{◌≡◌, ℕ, ℤ, ◌≤◌, ◌+◌, ◌==◌, Bool, true, false, if◌then◌else◌, List, [], ◌∷◌, ◌++◌, length, map, Option, Some, None, arith, refl, sym, ap, subst, inr}
use Rattle.std.specs.Prelude.{int_le}
use Rattle.std.proofs.lemmas.Bool.{eq-eqb}
use Rattle.std.specs.List.{slice_get, list_all}
use Rattle.ada_program.specs.declared.program.TypeDefinition.{TypeDefinition}
use Rattle.ada_program.specs.declared.program.Exception.{Exception}
use Rattle.ada_program.specs.Form.{ActualForm, in_value, in_null, in_access, in_record, in_out_path, in_out_access, in_out_component, in_out_record, ExpressionForm, ItemForm, RightForm, StmtForm, skips, assigns, assigns_record, frees, gets, writes, writes_text, chooses, repeats, counts, exits, calls, returns, raises, encloses, StmtsForm, no_stmts, a_stmt, BranchesForm, otherwise, a_branch, HandlersForm, no_handlers, a_handler, DeclarationForm, creates_pool, collects, declares, declares_record}
use Rattle.ada_program.specs.Handling.{some_takes, handler_of}
use Rattle.ada_parts.specs.declared.tasks.Direction.TheVariants.{PartsFirst}
use Rattle.ada_parts.specs.Task.{performs, next as task_next}
use Rattle.ada_meaning.specs.declared.event.Birth.{Birth}
use Rattle.ada_meaning.specs.declared.event.Birth.TheVariants.{Creation, Copy, Adjustment}
use Rattle.ada_meaning.specs.declared.event.Cause.TheVariants.{Undoing}
use Rattle.ada_parts.specs.Part.{Part}
use Rattle.ada_program.specs.ProgramForm.{TypeForm, BodyForm}
use Rattle.ada_program.specs.Typed.{reached_of, words_of, width_of, pool_named}
use Rattle.ada_program.specs.WellFormed.{is_access, reached_components, is_object}
use Rattle.ada_program.specs.Nested.{Callees, call_nests, collected, are_open}
use Rattle.ada_meaning.specs.declared.state.Value.{Value}
use Rattle.ada_meaning.specs.declared.state.Value.TheVariants.{Null, Names}
use Rattle.ada_meaning.specs.declared.state.Mode.{Mode}
use Rattle.ada_meaning.specs.declared.state.Mode.TheVariants.{Running, Raising, Exiting, Returning}
use Rattle.ada_meaning.specs.Event.{Quiet}
use Rattle.ada_meaning.specs.Frame.{Frame, is_master, is_loop, is_return, Landing, passes_on, goes_behind, goes_in, breaks_off, escapes, operation_landing, handler_landing, landing}
use Rattle.ada_meaning.specs.Frame as frame
use Rattle.ada_meaning.specs.State.{collection, record_object, storage_pool, Master, height, home_of, pools_in, pool_for}
use Rattle.ada_meaning.specs.Heap.{Cell, Found, on_null, on_gone, on_other, finds}
use Rattle.ada_meaning.specs.Step.{moves, has_parts, all_tasks, at, older, owning, popped, held, newest, newest_ones, without_newest, initial_values, record_cell, made, record_next, operand_count, references_in, storing, assign_next, target_next, stored_next, store_next, frees_next, branches_next, decided_next, turn_next, repeats_next, turned_next, count_turn_next, ranges_next, gets_next, received_next, receive_next, exit_next, exited_next, begun, computing, call_next, stmt_next, stmts_next, line_next, declarations_next, frame_next, resumed, returned, left_by, unwound, undo_next, broken_next, broken_off, landed, pass_next, running_next, jump_next, mode_next}
use Rattle.ada_meaning.specs.Named.{Object, State, next, named, same, look, lent, parted, an_integer, filled, reads_boolean, reads_null, reads_integer, unary_given, binary_given}
use Rattle.ada_scopes.proofs.Counts.{one, times, opened, Scopes, scopes, all_of}
use Rattle.ada_scopes.proofs.Texts.{StatementNests, StatementsNest, BranchesNest, HandlersNest, BodyNests, BodiesNest}
use Rattle.ada_scopes.proofs.Control.{scopes_in, Alike, Where, OwnsAll, RecordHere, FrameNests, behind, is_confine, Either, Around, Nests, NestsOutside, Goes, Whole, Growing, Begins, Nested, standing, beginning, parting, resting, outside_alike, whole_declared, nests_declared, whole_recorded, nests_recorded, nests_treating, opens, owns_grown, grows, grown}
use Rattle.ada_scopes.proofs.Evaluations.{Good, Stands, keeps_filled, keeps_parted, whole_on, path_good, holder_good, record_holder_good, refers_good, open_good, opens_good, expression_good, null_test_good, links_good, outcome_good, items_good, copies_good, record_target_good, store_record_good, record_assign_good, assigns_good, new_good, right_good, free_good, free_in_good, end_good, back_good}
use Rattle.ada_scopes.proofs.Treatments.{OperationsHere, IsTreatment, TreatsFirst, awaited_good, either_good, treats_good}
use Rattle.ada_scopes.proofs.Leavings.{parts_good}

module _ (types : List TypeForm) (callees : Callees) (main : Option (List ℕ)) (calling : Bool) (bodies : List BodyForm) (nesting : BodiesNest types callees bodies) (ss : Scopes) where
  -- What is behind a frame that has been taken off.
  abbrev Behind : Frame Value → Scopes → List (Frame Value) → Type 0
  Behind f vs k =
      Either (is_confine f) (Around (is_master f) (NestsOutside types callees main calling (all_of ss) (behind (is_master f) ss) (behind (is_master f) vs) k)
      (Nests types callees main calling (behind (is_master f) ss) (behind (is_master f) vs) k))
      (Goes types callees main calling (behind (is_master f) ss) (behind (is_master f) vs) k)

  -- Statements: what they hold was written where these collections are open.
  abbrev StatementsHere : State → StmtsForm → Type 0
  StatementsHere s fs = Where (all_of ss) (λ around. StatementsNest types callees around fs)

  assign_good : (cs : List ℕ) (x : ℕ) (right : RightForm) (s : State) → Stands types callees main calling ss s → Good types callees main calling (assign_next named cs x right s)
  assign_good [] x right s h = standing ss h.0 (tt, (tt, h.1))
  assign_good (c ∷ cs) x right s h = holder_good types callees main calling ss c cs x (λ last. frame.Targets last right) s (λ n. (tt, h.1)) h

  target_good : (o : Value) (c : ℕ) (right : RightForm) (found : Found (Cell Value)) (s : State) → Stands types callees main calling ss s → Good types callees main calling (target_next named o c right found s)
  target_good o c right on_null s h = standing ss h.0 h.1
  target_good o c right on_gone s h = tt
  target_good o c right on_other s h = tt
  target_good o c right (finds cell) s h = standing ss h.0 (tt, (tt, h.1))

  stored_good : (o : Value) (c : ℕ) (v : Value) (found : Option Value) (s : State) → Stands types callees main calling ss s → Good types callees main calling (stored_next named o c v found s)
  stored_good o c v None s h = tt
  stored_good o c v (Some before) s h = standing ss (whole_on types callees main calling ss (filled c v) o s (keeps_filled c v) h.0) h.1

  store_good : (o : Value) (c : ℕ) (v : Value) (found : Found (Cell Value)) (s : State) → Stands types callees main calling ss s → Good types callees main calling (store_next named o c v found s)
  store_good o c v on_null s h = tt
  store_good o c v on_gone s h = tt
  store_good o c v on_other s h = tt
  store_good o c v (finds cell) s h = stored_good o c v (slice_get cell.values c) s h

  frees_good : (definitions : List TypeDefinition) (cs : List ℕ) (access x : ℕ) (s : State) → Stands types callees main calling ss s → Good types callees main calling (frees_next named definitions cs access x s)
  frees_good definitions [] access x s h = free_good types callees main calling ss definitions access x (held named s x) (named.standing s.heap (held named s x)) s h
  frees_good definitions (c ∷ cs) access x s h = holder_good types callees main calling ss c cs x (λ last. frame.FreesIn access last) s (λ n. (tt, h.1)) h

  branches_good : (branches : BranchesForm) (s : State) (around : List ℕ) → Alike around (all_of ss) → BranchesNest types callees around branches → Stands types callees main calling ss s → Good types callees main calling (branches_next named branches s)
  branches_good (otherwise fs) s around alike nest h = standing ss h.0 ((around, alike, nest), h.1)
  branches_good (a_branch e fs branches) s around alike nest h = standing ss h.0 (tt, ((around, alike, nest), h.1))

  decided_good : (fs : StmtsForm) (branches : BranchesForm) (truth : Option Bool) (s : State) → Where (all_of ss) (λ around. StatementsNest types callees around fs × BranchesNest types callees around branches) → Stands types callees main calling ss s → Good types callees main calling (decided_next named fs branches truth s)
  decided_good fs branches None s nest h = tt
  decided_good fs branches (Some true) s nest h = standing ss h.0 ((nest.0, nest.1, nest.2.0), h.1)
  decided_good fs branches (Some false) s nest h = branches_good branches s nest.0 nest.1 nest.2.1 h

  turn_good : (condition : Option ExpressionForm) (fs : StmtsForm) (s : State) → StatementsHere s fs → Stands types callees main calling ss s → Good types callees main calling (turn_next named condition fs s)
  turn_good condition no_stmts s nest h = tt
  turn_good condition (a_stmt f fs) s nest h = standing ss h.0 (nest, (nest, h.1))

  repeats_good : (condition : Option ExpressionForm) (fs : StmtsForm) (s : State) → StatementsHere s fs → Stands types callees main calling ss s → Good types callees main calling (repeats_next named condition fs s)
  repeats_good None fs s nest h = turn_good None fs s nest h
  repeats_good (Some e) fs s nest h = standing ss h.0 (tt, (nest, h.1))

  turned_good : (e : ExpressionForm) (fs : StmtsForm) (truth : Option Bool) (s : State) → StatementsHere s fs → Stands types callees main calling ss s → Good types callees main calling (turned_next named e fs truth s)
  turned_good e fs None s nest h = tt
  turned_good e fs (Some true) s nest h = turn_good (Some e) fs s nest h
  turned_good e fs (Some false) s nest h = standing ss h.0 h.1

  count_turn_good : (x : ℕ) (value last : ℤ) (fs : StmtsForm) (s : State) → StatementsHere s fs → Stands types callees main calling ss s → Good types callees main calling (count_turn_next named x value last fs s)
  count_turn_good x value last no_stmts s nest h = tt
  count_turn_good x value last (a_stmt f fs) s nest h = standing ss h.0 (nest, (nest, h.1))

  counting_good : (more : Bool) (x : ℕ) (value last : ℤ) (fs : StmtsForm) (s : State) → StatementsHere s fs → Stands types callees main calling ss s → Good types callees main calling (if more then count_turn_next named x value last fs s else moves Quiet s)
  counting_good true x value last fs s nest h = count_turn_good x value last fs s nest h
  counting_good false x value last fs s nest h = standing ss h.0 h.1

  ranges_good : (x : ℕ) (fs : StmtsForm) (low high : Option ℤ) (s : State) → StatementsHere s fs → Stands types callees main calling ss s → Good types callees main calling (ranges_next named x fs low high s)
  ranges_good x fs None high s nest h = tt
  ranges_good x fs (Some low) None s nest h = tt
  ranges_good x fs (Some low) (Some high) s nest h = counting_good (int_le low high) x low high fs s nest h

  gets_good : (cs : List ℕ) (x : ℕ) (input : List ℤ) (s : State) → Stands types callees main calling ss s → Good types callees main calling (gets_next named cs x input s)
  gets_good (c ∷ cs) x input s h = holder_good types callees main calling ss c cs x (λ last. frame.Receives last) s (λ n. (tt, h.1)) h
  gets_good [] x [] s h = standing ss h.0 h.1
  gets_good [] x (i ∷ is) s h = standing ss h.0 h.1

  received_good : (o : Value) (c : ℕ) (input : List ℤ) (found : Option Value) (s : State) → Stands types callees main calling ss s → Good types callees main calling (received_next named o c input found s)
  received_good o c input None s h = tt
  received_good o c [] (Some before) s h = standing ss h.0 h.1
  received_good o c (i ∷ is) (Some before) s h = standing ss (whole_on types callees main calling ss (filled c (an_integer i)) o s (keeps_filled c (an_integer i)) h.0) h.1

  receive_good : (o : Value) (c : ℕ) (found : Found (Cell Value)) (s : State) → Stands types callees main calling ss s → Good types callees main calling (receive_next named o c found s)
  receive_good o c on_null s h = standing ss h.0 h.1
  receive_good o c on_gone s h = tt
  receive_good o c on_other s h = tt
  receive_good o c (finds cell) s h = received_good o c s.input (slice_get cell.values c) s h

  exit_good : (condition : Option ExpressionForm) (s : State) → Stands types callees main calling ss s → Good types callees main calling (exit_next named condition s)
  exit_good None s h = standing ss h.0 h.1
  exit_good (Some e) s h = standing ss h.0 (tt, (tt, h.1))

  exited_good : (truth : Option Bool) (s : State) → Stands types callees main calling ss s → Good types callees main calling (exited_next named truth s)
  exited_good None s h = tt
  exited_good (Some true) s h = standing ss h.0 h.1
  exited_good (Some false) s h = standing ss h.0 h.1

  -- A call: its actual parameters are evaluated before its body begins, which nests where it is called.
  computing_nests : (actuals : List ActualForm) (vs : Scopes) (k : List (Frame Value)) → Nests types callees main calling ss vs k → Nests types callees main calling ss vs (computing named actuals k)
  computing_nests [] vs k n = n
  computing_nests (in_value e ∷ rest) vs k n = (tt, computing_nests rest vs k n)
  computing_nests (in_null ∷ rest) vs k n = (tt, computing_nests rest vs k n)
  computing_nests (in_access path ∷ rest) vs k n = (tt, computing_nests rest vs k n)
  computing_nests (in_record p ∷ rest) vs k n = (tt, computing_nests rest vs k n)
  computing_nests (in_out_path path ∷ rest) vs k n = (tt, computing_nests rest vs k n)
  computing_nests (in_out_access path ∷ rest) vs k n = (tt, computing_nests rest vs k n)
  computing_nests (in_out_component path ∷ rest) vs k n = (tt, computing_nests rest vs k n)
  computing_nests (in_out_record p ∷ rest) vs k n = (tt, computing_nests rest vs k n)

  storing_nests : (references : List Value) (vs : Scopes) (k : List (Frame Value)) → Nests types callees main calling ss vs k → Nests types callees main calling ss vs (storing named references k)
  storing_nests [] vs k n = n
  storing_nests (r ∷ rs) vs k n = (tt, storing_nests rs vs k n)

  call_good : (procedure : ℕ) (actuals : List ActualForm) (body : Option BodyForm) (s : State) (around : List ℕ) → slice_get bodies procedure ≡ body → Alike around (all_of ss) → call_nests (slice_get callees procedure) around ≡ true → Stands types callees main calling ss s → Good types callees main calling (call_next named procedure actuals body s)
  call_good procedure actuals None s around at_body alike nest h = tt
  call_good procedure actuals (Some b) s around at_body alike nest h =
      standing ss h.0
      (computing_nests actuals (scopes s.masters) (frame.Calls procedure b actuals ∷ s.control) ((around, alike, (nesting procedure b around at_body nest, nest)), h.1))

  body_begins : (procedure : ℕ) (b : BodyForm) (actuals : List ActualForm) (values : List Value) (s : State) → s.mode ≡ Running → Where (all_of ss) (λ around. BodyNests types callees around b × (call_nests (slice_get callees procedure) around ≡ true)) → Stands types callees main calling ss s → Nested types callees main calling (begun named procedure b actuals values s)
  body_begins procedure b actuals values s runs nest h = beginning (record {
    ss = ss;
    m = record { number = s.next; items = [] };
    rest = s.masters;
    ds = b.declarations;
    fs = b.statements;
    hs = b.handlers;
    k = frame.Returns actuals (references_in actuals values) ∷ s.control;
    there = collected b.declarations ++ nest.0;
    masters = refl;
    control = refl;
    runs = runs;
    growing = grows types main ss s.next s.masters s.heap b.declarations nest.0 nest.2.0.part nest.1 h.0;
    statements = nest.2.0.statements;
    handlers = nest.2.0.handlers;
    nests = inr (tt, h.1);
  })

  stmt_good : (definitions : List TypeDefinition) (f : StmtForm) (s : State) (around : List ℕ) → s.mode ≡ Running → Alike around (all_of ss) → StatementNests types callees around f → Stands types callees main calling ss s → Good types callees main calling (stmt_next named definitions bodies f s)
  stmt_good definitions skips s around runs alike nest h = standing ss h.0 h.1
  stmt_good definitions (assigns target right) s around runs alike nest h = assign_good target.selectors target.root right s h
  stmt_good definitions (assigns_record target items) s around runs alike nest h =
      record_assign_good types callees main calling ss (has_parts definitions target.record_type) target items s h
  stmt_good definitions (frees access path) s around runs alike nest h = frees_good definitions path.selectors access path.root s h
  stmt_good definitions (gets target) s around runs alike nest h = gets_good target.selectors target.root s.input s h
  stmt_good definitions (writes e) s around runs alike nest h = standing ss h.0 (tt, (tt, h.1))
  stmt_good definitions (writes_text text) s around runs alike nest h = standing ss h.0 h.1
  stmt_good definitions (chooses branches) s around runs alike nest h = branches_good branches s around alike nest h
  stmt_good definitions (repeats condition fs end_spot) s around runs alike nest h = standing ss h.0 ((around, alike, nest), h.1)
  stmt_good definitions (counts x low high fs end_spot) s around runs alike nest h = standing ss h.0 (tt, (tt, ((around, alike, nest), h.1)))
  stmt_good definitions (exits condition spot) s around runs alike nest h = exit_good condition s h
  stmt_good definitions (calls procedure actuals) s around runs alike nest h = call_good procedure actuals (slice_get bodies procedure) s around refl alike nest h
  stmt_good definitions (returns spot) s around runs alike nest h = standing ss h.0 h.1
  stmt_good definitions (raises e) s around runs alike nest h = standing ss h.0 h.1
  stmt_good definitions (encloses ds fs hs) s around runs alike nest h = beginning (record {
    ss = ss;
    m = record { number = s.next; items = [] };
    rest = s.masters;
    ds = ds;
    fs = fs;
    hs = hs;
    k = s.control;
    there = collected ds ++ around;
    masters = refl;
    control = refl;
    runs = runs;
    growing = grows types main ss s.next s.masters s.heap ds around nest.0 alike h.0;
    statements = nest.1;
    handlers = nest.2;
    nests = inr h.1;
  })

  stmts_good : (definitions : List TypeDefinition) (fs : StmtsForm) (s : State) → s.mode ≡ Running → StatementsHere s fs → Stands types callees main calling ss s → Good types callees main calling (stmts_next named definitions bodies fs s)
  stmts_good definitions no_stmts s runs nest h = standing ss h.0 h.1
  stmts_good definitions (a_stmt f fs) s runs nest h = stmt_good definitions f (at (frame.Does fs ∷ s.control) s) nest.0 runs nest.1 nest.2.0 (h.0, ((nest.0, nest.1, nest.2.1), h.1))

  line_good : (read : Option ℤ) (s : State) → Stands types callees main calling ss s → Good types callees main calling (line_next named read s)
  line_good None s h = tt
  line_good (Some i) s h = standing ss h.0 h.1

  -- A record object is made, with whatever values: what it needs is open.
  made_good : (definitions : List TypeDefinition) (x t : ℕ) (by : Birth) (values : List Value) (s : State) → RecordHere types (all_of ss) t → OwnsAll main ss (scopes s.masters) → Stands types callees main calling ss s → Nested types callees main calling (made named definitions x t by values s)
  made_good definitions x t by values s opens some h =
      standing ss
      (whole_recorded types ss (height s.masters) t s.masters s.heap (record_cell named definitions t (height s.masters) values) opens.0 main some refl refl refl opens.1 opens.2.0 opens.2.1 h.0)
      (nests_treating types callees main calling ss (scopes (owning (record { number = height s.masters; owned = record_object t }) s.masters)) (Names (record { 0 = length s.heap })) (frame.begins by []) (all_tasks definitions t PartsFirst) s.control
      (nests_recorded types callees main calling ss (height s.masters) t s.masters s.control h.1))

  record_good : (definitions : List TypeDefinition) (x t : ℕ) (initial : Option (List ItemForm)) (s : State) → RecordHere types (all_of ss) t → OwnsAll main ss (scopes s.masters) → Stands types callees main calling ss s → Good types callees main calling (record_next named definitions x t initial s)
  record_good definitions x t None s opens some h = made_good definitions x t Creation (initial_values named (reached_of definitions t)) s opens some h
  record_good definitions x t (Some items) s opens some h = standing ss h.0 (tt, ((opens, some), h.1))

  -- Declarations of a part whose collections have all been created.
  elaborated_good : (definitions : List TypeDefinition) (ds : List DeclarationForm) (fs : StmtsForm) (hs : HandlersForm) (s : State) → Whole types ss s.masters s.heap → FrameNests types callees main calling ss (scopes s.masters) (frame.Elaborates ds fs hs) → NestsOutside types callees main calling (all_of ss) (older ss) (older (scopes s.masters)) s.control → Good types callees main calling (declarations_next named definitions ds fs hs s)
  elaborated_good definitions [] fs hs s w nest n = standing ss w ((nest.1.0, nest.1.1, nest.1.2.0), ((nest.1.0, nest.1.1, nest.1.2.1), (nest.2, n)))
  elaborated_good definitions (creates_pool pool ∷ ds) fs hs s w nest n = absurd (cc (nest.0))
  elaborated_good definitions (collects access ∷ ds) fs hs s w nest n = absurd (cc (nest.0))
  elaborated_good definitions (declares x right ∷ ds) fs hs s w nest n = standing ss w (tt, (tt, ((nest.0, nest.1, nest.2), n)))
  elaborated_good definitions (declares_record x t initial ∷ ds) fs hs s w nest n =
      let open_there = nest.1.2.2 in
      record_good definitions x t initial (at (frame.Elaborates ds fs hs ∷ s.control) s) (nest.1.0, nest.1.1, (open_there.0, open_there.1)) nest.2
      (w, ((nest.0, (nest.1.0, nest.1.1, (nest.1.2.0, nest.1.2.1, open_there.2)), nest.2), n))

  -- Each frame that is taken off.
  frame_good : (definitions : List TypeDefinition) (f : Frame Value) → (IsTreatment f → OperationsHere types callees main calling (all_of ss) definitions) → (s : State) → s.mode ≡ Running → Whole types ss s.masters s.heap → FrameNests types callees main calling ss (scopes s.masters) f → Behind f (scopes s.masters) s.control → Good types callees main calling (frame_next named definitions bodies f s)
  frame_good definitions (frame.Elaborates ds fs hs) operations s runs w nest n = elaborated_good definitions ds fs hs s w nest n
  frame_good definitions (frame.Does fs) operations s runs w nest n = stmts_good definitions fs s runs nest (w, n)
  frame_good definitions (frame.Decides fs branches) operations s runs w nest n = decided_good fs branches (reads_boolean (newest named s)) (popped s) nest (w, n)
  frame_good definitions (frame.Repeats condition fs) operations s runs w nest n = repeats_good condition fs s nest (w, n)
  frame_good definitions (frame.Turns condition fs) operations s runs w nest n = turned_good condition fs (reads_boolean (newest named s)) (popped s) nest (w, n)
  frame_good definitions (frame.Ranges x fs) operations s runs w nest n = ranges_good x fs (reads_integer (newest named (popped s))) (reads_integer (newest named s)) (popped (popped s)) nest (w, n)
  frame_good definitions (frame.Counts x value last fs) operations s runs w nest n = counting_good (int_le value last) x value last fs s nest (w, n)
  frame_good definitions frame.Exits operations s runs w nest n = exited_good (reads_boolean (newest named s)) (popped s) (w, n)
  frame_good definitions (frame.Handles hs) operations s runs w nest n = standing ss w n
  frame_good definitions frame.Closes operations s runs w nest n = parting ss w runs n
  frame_good definitions (frame.Leaves mode) operations s runs w nest n = absurd nest
  frame_good definitions (frame.Calls procedure b actuals) operations s runs w nest n = body_begins procedure b actuals (newest_ones named (operand_count actuals) s) s runs nest (w, n)
  frame_good definitions (frame.Returns actuals references) operations s runs w nest n = standing ss w (storing_nests references (scopes s.masters) s.control n)
  frame_good definitions (frame.Evaluates right) operations s runs w nest n = right_good types callees main calling ss definitions right s (w, n)
  frame_good definitions (frame.Computes e) operations s runs w nest n = expression_good types callees main calling ss e s (w, n)
  frame_good definitions (frame.Follows cs) operations s runs w nest n = path_good types callees main calling ss cs (newest named s) (popped s) (w, n)
  frame_good definitions (frame.TestsNull equal) operations s runs w nest n = null_test_good types callees main calling ss equal (reads_null (newest named s)) (popped s) (w, n)
  frame_good definitions (frame.Refers p) operations s runs w nest n =
      record_holder_good types callees main calling ss p (λ place. frame.RefersIn place p.record_type) s (λ place. (tt, n)) (w, n)
  frame_good definitions (frame.RefersIn place t) operations s runs w nest n =
      refers_good types callees main calling ss (newest named s) place (width_of definitions t) (look s.heap (newest named s)) (popped s) (w, n)
  frame_good definitions (frame.Opens path) operations s runs w nest n = open_good types callees main calling ss path.selectors path.root s (w, n)
  frame_good definitions (frame.OpensIn c) operations s runs w nest n = opens_good types callees main calling ss (newest named s) c (look s.heap (newest named s)) (popped s) (w, n)
  frame_good definitions (frame.Continues links) operations s runs w nest n = links_good types callees main calling ss links s (w, n)
  frame_good definitions (frame.Applies operator) operations s runs w nest n = outcome_good types callees main calling ss (binary_given operator (newest named (popped s)) (newest named s)) (popped (popped s)) (w, n)
  frame_good definitions (frame.AppliesAlone operator) operations s runs w nest n = outcome_good types callees main calling ss (unary_given operator (newest named s)) (popped s) (w, n)
  frame_good definitions (frame.Fills items) operations s runs w nest n = items_good types callees main calling ss items s (w, n)
  frame_good definitions (frame.Copies first t) operations s runs w nest n = copies_good types callees main calling ss (newest named s) first (width_of definitions t) (look s.heap (newest named s)) (popped s) (w, n)
  frame_good definitions (frame.Creates access count) operations s runs w nest n = new_good types callees main calling ss definitions access count (words_of definitions access) (home_of access s.masters) s refl (w, n)
  frame_good definitions (frame.Stores x) operations s runs w nest n = standing ss w n
  frame_good definitions (frame.Declares x) operations s runs w nest n =
      standing ss (whole_declared types ss (height s.masters) x s.masters s.heap w) (nests_declared types callees main calling ss (height s.masters) x s.masters s.control n)
  frame_good definitions (frame.Treats v treatment tasks) operations s runs w nest n =
      treats_good types callees main calling ss bodies nesting definitions (operations tt) v treatment tasks (task_next tasks) s runs (w, n)
  frame_good definitions (frame.Awaits v by done of part tasks) operations s runs w nest n =
      awaited_good types callees main calling ss bodies nesting v by done of part tasks (look s.heap v) s (w, n)
  frame_good definitions frame.Confines operations s runs w nest n = either_good types callees main calling ss bodies nesting s w runs n
  frame_good definitions (frame.Resumes mode) operations s runs w nest n = standing ss w n
  frame_good definitions frame.Writes operations s runs w nest n = line_good (reads_integer (newest named s)) (popped s) (w, n)
  frame_good definitions (frame.Ends v) operations s runs w nest n = end_good types callees main calling ss v (look s.heap v) s (w, n)
  frame_good definitions (frame.GivesBack v cause pool) operations s runs w nest n = back_good types callees main calling ss v cause pool (lent s.heap v) s (w, n)
  frame_good definitions (frame.Clears x) operations s runs w nest n = standing ss w n
  frame_good definitions (frame.Targets c right) operations s runs w nest n = target_good (newest named s) c right (look s.heap (newest named s)) (popped s) (w, n)
  frame_good definitions (frame.StoresIn o c) operations s runs w nest n = store_good o c (newest named s) (look s.heap o) (popped s) (w, n)
  frame_good definitions (frame.TargetsRecord first t items) operations s runs w nest n =
      record_target_good types callees main calling ss (newest named s) first (width_of definitions t) items (look s.heap (newest named s)) (popped s) (w, n)
  frame_good definitions (frame.StoresRecord o first count) operations s runs w nest n = store_record_good types callees main calling ss o first count (look s.heap o) s (w, n)
  frame_good definitions (frame.Assigns t) operations s runs w nest n =
      let target = newest named (popped s) in
      let source = newest named s in
      assigns_good types callees main calling ss definitions t target source (same target source) (popped (popped s)) (w, n)
  frame_good definitions (frame.DeclaresRecord x t) operations s runs w nest n =
      made_good definitions x t Copy (newest_ones named (words_of definitions t) s) (without_newest named (words_of definitions t) s) nest.0 nest.1 (w, n)
  frame_good definitions (frame.Receives c) operations s runs w nest n = receive_good (newest named s) c (look s.heap (newest named s)) (popped s) (w, n)
  frame_good definitions (frame.FreesIn access c) operations s runs w nest n = free_in_good types callees main calling ss definitions access (newest named s) c (look s.heap (newest named s)) (popped s) (w, n)
  frame_good definitions (frame.ClearsIn o c) operations s runs w nest n = store_good o c Null (look s.heap o) s (w, n)

  stands_good : (definitions : List TypeDefinition) (k : List (Frame Value)) → (TreatsFirst k → OperationsHere types callees main calling (all_of ss) definitions) → (s : State) → s.mode ≡ Running → Whole types ss s.masters s.heap → Nests types callees main calling ss (scopes s.masters) k → Good types callees main calling (running_next named definitions bodies k s)
  stands_good definitions [] operations s runs w n = absurd n
  stands_good definitions (f ∷ k) operations s runs w n = frame_good definitions f operations (at k s) runs w n.0 n.1

  -- A jump: what it passes, and where it lands.
  abbrev LandsHere : List ℕ → Landing Value → Type 0
  LandsHere us passes_on = Unit {0}
  LandsHere us goes_behind = Unit {0}
  LandsHere us (goes_in fs) = Where us (λ around. StatementsNest types callees around fs)
  LandsHere us (breaks_off v by done) = Unit {0}
  LandsHere us escapes = Unit {0}

  handler_here : (us around : List ℕ) (takes : Bool) (fs : StmtsForm) (later : Option StmtsForm) → Alike around us → StatementsNest types callees around fs → LandsHere us (handler_landing later) → LandsHere us (handler_landing (if takes then Some fs else later))
  handler_here us around true fs later alike nest h = (around, alike, nest)
  handler_here us around false fs later alike nest h = h

  handlers_land : (us around : List ℕ) (e : Exception) (hs : HandlersForm) → Alike around us → HandlersNest types callees around hs → LandsHere us (handler_landing (handler_of e hs))
  handlers_land us around e no_handlers alike nest = tt
  handlers_land us around e (a_handler choices fs hs) alike nest =
      handler_here us around (some_takes e choices) fs (handler_of e hs) alike nest.0 (handlers_land us around e hs alike nest.1)

  raised_lands : (vs : Scopes) (e : Exception) (f : Frame Value) → FrameNests types callees main calling ss vs f → LandsHere (all_of ss) (landing (Raising e) f)
  raised_lands vs e (frame.Handles hs) nest = handlers_land (all_of ss) nest.0 e hs nest.1 nest.2
  raised_lands vs e f nest = tt

  none_lands : (f : Frame Value) → LandsHere (all_of ss) (operation_landing f)
  none_lands (frame.Awaits v by done of part tasks) = tt
  none_lands frame.Confines = tt
  none_lands f = tt

  exit_lands : (us : List ℕ) (ends_here : Bool) (otherwise_at : Landing Value) → LandsHere us otherwise_at → LandsHere us (if ends_here then goes_behind else otherwise_at)
  exit_lands us true otherwise_at lands = tt
  exit_lands us false otherwise_at lands = lands

  lands : (vs : Scopes) (mode : Mode) (f : Frame Value) → FrameNests types callees main calling ss vs f → LandsHere (all_of ss) (landing mode f)
  lands vs Running f nest = tt
  lands vs (Raising e) f nest = raised_lands vs e f nest
  lands vs Exiting f nest = exit_lands (all_of ss) (is_loop f) (operation_landing f) (none_lands f)
  lands vs Returning f nest = exit_lands (all_of ss) (is_return f) (operation_landing f) (none_lands f)

  -- An exception comes out of an operation that was to begin a part: what has begun of the object is undone.
  undo_good : (e : Exception) (v : Value) (done : List Part) (found : Found (Cell Value)) (s : State) → Stands types callees main calling ss s → Good types callees main calling (undo_next named e v done found s)
  undo_good e v done on_null s h = tt
  undo_good e v done on_gone s h = tt
  undo_good e v done on_other s h = tt
  undo_good e v done (finds cell) s h =
      standing ss (whole_on types callees main calling ss parted v s keeps_parted h.0)
      (nests_treating types callees main calling ss (scopes s.masters) v (frame.ends (Undoing s.next)) (map (λ p. performs p.of p.number) done)
      (frame.Ends v ∷ frame.GivesBack v (Undoing s.next) cell.home.pool ∷ frame.Resumes (Raising e) ∷ s.control) (tt, (tt, (tt, h.1))))

  broken_good : (e : Exception) (v : Value) (by : Birth) (done : List Part) (s : State) → Stands types callees main calling ss s → Good types callees main calling (broken_next named e v by done s)
  broken_good e v Creation done s h = undo_good e v done (look s.heap v) s h
  broken_good e v Copy done s h = tt
  broken_good e v (Adjustment number) done s h = tt

  broken_off_good : (mode : Mode) (v : Value) (by : Birth) (done : List Part) (s : State) → Stands types callees main calling ss s → Good types callees main calling (broken_off named mode v by done s)
  broken_off_good Running v by done s h = tt
  broken_off_good (Raising e) v by done s h = broken_good e v by done s h
  broken_off_good Exiting v by done s h = tt
  broken_off_good Returning v by done s h = tt

  landed_good : (l : Landing Value) (mode : Mode) (s : State) → LandsHere (all_of ss) l → Stands types callees main calling ss s → Good types callees main calling (landed named l mode s)
  landed_good passes_on mode s lands h = standing ss h.0 h.1
  landed_good goes_behind mode s lands h = standing ss h.0 h.1
  landed_good (goes_in no_stmts) mode s lands h = tt
  landed_good (goes_in (a_stmt f fs)) mode s lands h = standing ss h.0 (lands, h.1)
  landed_good (breaks_off v by done) mode s lands h = broken_off_good mode v by done s h
  landed_good escapes mode s lands h = tt

  pass_good : (master : Bool) (l : Landing Value) (mode : Mode) (s : State) → LandsHere (all_of ss) l → Whole types ss s.masters s.heap → Around master (NestsOutside types callees main calling (all_of ss) (behind master ss) (behind master (scopes s.masters)) s.control) (Nests types callees main calling (behind master ss) (behind master (scopes s.masters)) s.control) → Good types callees main calling (pass_next named master l mode s)
  pass_good true l mode s lands w n = parting ss w refl n
  pass_good false l mode s lands w n = landed_good l mode s lands (w, n)

  -- The end of a call changes the activations, and behind a normal one components get something back.
  left_good : (mode : Mode) (actuals : List ActualForm) (references : List Value) (l : Landing Value) (s : State) → LandsHere (all_of ss) l → Whole types ss s.masters s.heap → Nests types callees main calling ss (scopes s.masters) s.control → Good types callees main calling (pass_next named false l mode (left_by named mode actuals references s))
  left_good Running actuals references l s here w n = pass_good false l Running (resumed s) here w n
  left_good (Raising e) actuals references l s here w n = pass_good false l (Raising e) (resumed s) here w n
  left_good Exiting actuals references l s here w n = pass_good false l Exiting (resumed s) here w n
  left_good Returning actuals references l s here w n =
      pass_good false l Returning (returned named actuals references s) here w (storing_nests references (scopes s.masters) s.control n)

  -- A jump is on its way.
  abbrev Jumps : Mode → Type 0
  Jumps Running = ⊥
  Jumps (Raising e) = Unit {0}
  Jumps Exiting = Unit {0}
  Jumps Returning = Unit {0}

  -- None leaves a Finalize.
  confined_good : (mode : Mode) (s : State) → Jumps mode → Good types callees main calling (pass_next named false (landing {V = Value} mode frame.Confines) mode s)
  confined_good Running s jumps = absurd jumps
  confined_good (Raising e) s jumps = tt
  confined_good Exiting s jumps = tt
  confined_good Returning s jumps = tt

  unwound_good : (f : Frame Value) (mode : Mode) (s : State) → Jumps mode → LandsHere (all_of ss) (landing mode f) → Whole types ss s.masters s.heap → Behind f (scopes s.masters) s.control → Good types callees main calling (pass_next named (is_master f) (landing mode f) mode (unwound named mode f s))
  unwound_good (frame.Returns actuals references) mode s jumps here w n =
      left_good mode actuals references (landing {V = Value} mode (frame.Returns actuals references)) s here w n
  unwound_good frame.Confines mode s jumps here w n = confined_good mode s jumps
  unwound_good f mode s jumps here w n = pass_good (is_master f) (landing mode f) mode s here w n

  jump_good : (mode : Mode) (k : List (Frame Value)) (s : State) → Jumps mode → Whole types ss s.masters s.heap → Nests types callees main calling ss (scopes s.masters) k → Good types callees main calling (jump_next named mode k s)
  jump_good mode [] s jumps w n = absurd n
  jump_good mode (f ∷ k) s jumps w n = unwound_good f mode (at k s) jumps (lands (scopes s.masters) mode f n.0) w n.1

  standing_good : (definitions : List TypeDefinition) (mode : Mode) (s : State) → (TreatsFirst s.control → OperationsHere types callees main calling (all_of ss) definitions) → s.mode ≡ mode → Stands types callees main calling ss s → Good types callees main calling (mode_next named definitions bodies mode s)
  standing_good definitions Running s operations is h = stands_good definitions s.control operations s is h.0 h.1
  standing_good definitions (Raising e) s operations is h = jump_good (Raising e) s.control s tt h.0 h.1
  standing_good definitions Exiting s operations is h = jump_good Exiting s.control s tt h.0 h.1
  standing_good definitions Returning s operations is h = jump_good Returning s.control s tt h.0 h.1

module _ (types : List TypeForm) (callees : Callees) (main : Option (List ℕ)) (calling : Bool) (bodies : List BodyForm) (nesting : BodiesNest types callees bodies) where
  -- A part begins: its collections are created before its first variable.
  all_objects : (ds : List DeclarationForm) → list_all is_object ds ≡ true → collected ds ≡ []
  all_objects [] is = refl
  all_objects (creates_pool pool ∷ ds) is = absurd (cc)
  all_objects (collects access ∷ ds) is = absurd (cc)
  all_objects (declares x right ∷ ds) is = all_objects ds is
  all_objects (declares_record x t initial ∷ ds) is = all_objects ds is

  created_good : (definitions : List TypeDefinition) (ds : List DeclarationForm) (fs : StmtsForm) (hs : HandlersForm) (ss : Scopes) (m : Master) (rest : List Master) (there : List ℕ) (s : State) → s.masters ≡ m ∷ rest → list_all is_object ds ≡ true → Growing types main ss m rest s.heap ds there → StatementsNest types callees there fs → HandlersNest types callees there hs → NestsOutside types callees main calling there ss (scopes rest) s.control → Good types callees main calling (declarations_next named definitions ds fs hs s)
  created_good definitions ds fs hs ss m rest there s is objects g nest handled n =
      let whole = grown types main ss m rest s.heap ds there (all_objects ds objects) g in
      let us = opens g.lacks m ∷ ss in
      elaborated_good types callees main calling bodies nesting us definitions ds fs hs s (subst (λ (ms : List Master). Whole types us ms s.heap) (sym is) whole.0)
      (objects, (there, whole.1, (nest, handled, g.coming)), subst (λ (ms : List Master). OwnsAll main us (scopes ms)) (sym is) (owns_grown main g.lacks m ss rest g.lacking))
      (subst (λ (ms : List Master). NestsOutside types callees main calling (all_of us) ss (older (scopes ms)) s.control) (sym is)
      (outside_alike main there (all_of us) (scopes rest) s.control (Nests types callees main calling ss (scopes rest) s.control) whole.1 n))

  new_need : (ss : Scopes) (m : Master) (rest : List Master) (heap : List Object) (access : ℕ) (ds : List DeclarationForm) (there : List ℕ) → Growing types main ss m rest heap (collects access ∷ ds) there → (t : ℕ) (b : Bool) → (access == t) ≡ b → 1 ≤ one b + times t (opened m.items) → are_open there (reached_components types t) ≡ true
  new_need ss m rest heap access ds there g t true same le = let once : one (access == t) ≡ 1 = ap one same in g.left t (omega (arith, once))
  new_need ss m rest heap access ds there g t false same le = g.here t (omega (arith, le))

  collects_more : (ss : Scopes) (m : Master) (rest : List Master) (heap : List Object) (number access : ℕ) (pool : Option ℕ) (ds : List DeclarationForm) (there : List ℕ) → Growing types main ss m rest heap (collects access ∷ ds) there → Growing types main ss (record m { items = record { number = number; owned = collection access pool } ∷ m.items }) rest heap ds there
  collects_more ss m rest heap number access pool ds there g = record {
    lacks = g.lacks;
    lacking = g.lacking;
    spare = g.spare;
    first = g.first;
    once = g.once;
    all = λ t. let all = g.all t in omega (arith, all);
    left = λ t le. g.left t (omega (arith, le));
    here = λ t le. new_need ss m rest heap access ds there g t (access == t) refl le;
    outer = g.outer;
    housed = g.housed;
    accesses = λ t le. g.accesses t (omega (arith, le));
    fit = (of_access, g.fit);
    own = (tt, g.own);
    records = g.records;
    coming = g.coming;
    covers = g.covers;
    bare = (refl, g.bare);
    layered = g.layered;
    known = g.known;
  }
    where
      of_access : is_access types access ≡ true
      of_access = let once : one (access == access) ≡ 1 = ap one (eq-eqb access access refl) in g.accesses access (omega (arith, once))

  -- A pool is created, which opens no collection.
  pools_more : (ss : Scopes) (m : Master) (rest : List Master) (heap : List Object) (number declaration pool : ℕ) (ds : List DeclarationForm) (there : List ℕ) → Growing types main ss m rest heap (creates_pool declaration ∷ ds) there → Growing types main ss (record m { items = record { number = number; owned = storage_pool declaration pool } ∷ m.items }) rest heap ds there
  pools_more ss m rest heap number declaration pool ds there g = record {
    lacks = g.lacks;
    lacking = g.lacking;
    spare = g.spare;
    first = g.first;
    once = g.once;
    all = g.all;
    left = g.left;
    here = g.here;
    outer = g.outer;
    housed = g.housed;
    accesses = g.accesses;
    fit = (tt, g.fit);
    own = (tt, g.own);
    records = g.records;
    coming = g.coming;
    covers = g.covers;
    bare = (refl, g.bare);
    layered = g.layered;
    known = g.known;
  }

  begins_good : (definitions : List TypeDefinition) (ds : List DeclarationForm) (fs : StmtsForm) (hs : HandlersForm) (ss : Scopes) (m : Master) (rest : List Master) (there : List ℕ) (s : State) → s.masters ≡ m ∷ rest → s.mode ≡ Running → Growing types main ss m rest s.heap ds there → StatementsNest types callees there fs → HandlersNest types callees there hs → NestsOutside types callees main calling there ss (scopes rest) s.control → Good types callees main calling (declarations_next named definitions ds fs hs s)
  begins_good definitions [] fs hs ss m rest there s is runs g nest handled n = created_good definitions [] fs hs ss m rest there s is refl g nest handled n
  begins_good definitions (declares x right ∷ ds) fs hs ss m rest there s is runs g nest handled n = created_good definitions (declares x right ∷ ds) fs hs ss m rest there s is g.first g nest handled n
  begins_good definitions (declares_record x t initial ∷ ds) fs hs ss m rest there s is runs g nest handled n =
      created_good definitions (declares_record x t initial ∷ ds) fs hs ss m rest there s is g.first g nest handled n
  begins_good definitions (collects access ∷ ds) fs hs ss m rest there s is runs g nest handled n = beginning (record {
    ss = ss;
    m = record m { items = record { number = height s.masters; owned = collection access (pool_for (pool_named definitions access) s.masters) } ∷ m.items };
    rest = rest;
    ds = ds;
    fs = fs;
    hs = hs;
    k = s.control;
    there = there;
    masters = ap (owning (record { number = height s.masters; owned = collection access (pool_for (pool_named definitions access) s.masters) })) is;
    control = refl;
    runs = runs;
    growing = collects_more ss m rest s.heap (height s.masters) access (pool_for (pool_named definitions access) s.masters) ds there g;
    statements = nest;
    handlers = handled;
    nests = n;
  })
  begins_good definitions (creates_pool declaration ∷ ds) fs hs ss m rest there s is runs g nest handled n = beginning (record {
    ss = ss;
    m = record m { items = record { number = height s.masters; owned = storage_pool declaration (pools_in s.masters + 1) } ∷ m.items };
    rest = rest;
    ds = ds;
    fs = fs;
    hs = hs;
    k = s.control;
    there = there;
    masters = ap (owning (record { number = height s.masters; owned = storage_pool declaration (pools_in s.masters + 1) })) is;
    control = refl;
    runs = runs;
    growing = pools_more ss m rest s.heap (height s.masters) declaration (pools_in s.masters + 1) ds there g;
    statements = nest;
    handlers = handled;
    nests = n;
  })

  beginning_good : (definitions : List TypeDefinition) (s : State) (b : Begins types callees main calling s) → Good types callees main calling (running_next named definitions bodies (frame.Elaborates b.ds b.fs b.hs ∷ b.k) s)
  beginning_good definitions s b = begins_good definitions b.ds b.fs b.hs b.ss b.m b.rest b.there (at b.k s) b.masters b.runs b.growing b.statements b.handlers b.nests

  -- Nothing is left to do.
  nothing_next : (definitions : List TypeDefinition) (s : State) → s.control ≡ [] → (mode : Mode) → Good types callees main calling (mode_next named definitions bodies mode s)
  nothing_next definitions s ends Running = subst (λ (k : List (Frame Value)). Good types callees main calling (running_next named definitions bodies k s)) (sym ends) tt
  nothing_next definitions s ends (Raising e) = subst (λ (k : List (Frame Value)). Good types callees main calling (jump_next named (Raising e) k s)) (sym ends) tt
  nothing_next definitions s ends Exiting = subst (λ (k : List (Frame Value)). Good types callees main calling (jump_next named Exiting k s)) (sym ends) tt
  nothing_next definitions s ends Returning = subst (λ (k : List (Frame Value)). Good types callees main calling (jump_next named Returning k s)) (sym ends) tt

  -- A state that nests. Operations need to nest only where a treatment is what is done next.
  pub next_good : (definitions : List TypeDefinition) (s : State) → (nested : Nested types callees main calling s) → (TreatsFirst s.control → OperationsHere types callees main calling (all_of (scopes_in types callees main calling s nested)) definitions) → Good types callees main calling (next definitions bodies s)
  unfolding next
  next_good definitions s (standing ss w n) operations = standing_good types callees main calling bodies nesting ss definitions s.mode s operations refl (w, n)
  next_good definitions s (beginning b) operations =
      subst (λ (mode : Mode). Good types callees main calling (mode_next named definitions bodies mode s)) (sym b.runs)
      (subst (λ (k : List (Frame Value)). Good types callees main calling (running_next named definitions bodies k s)) (sym b.control) (beginning_good definitions s b))
  next_good definitions s (resting ss w none ends) operations = nothing_next definitions s ends s.mode
  next_good definitions s (parting ss p runs goes) operations =
      subst (λ (mode : Mode). Good types callees main calling (mode_next named definitions bodies mode s)) (sym runs) (parts_good types callees main calling ss bodies nesting definitions s.control operations s runs p goes)
