-- Steps of statements, and of declarations.

use Rattle.std.proofs.Common.{◌≡◌, ℕ, ℤ, int_le, Bool, true, false, if◌then◌else◌, List, [], ◌∷◌, ◌++◌, length, Option, Some, None, refl, ◌∙◌}
use Rattle.std.specs.List.{slice_get}
use Rattle.ada_parts.specs.declared.tasks.Direction.TheVariants.{PartsFirst}
use Rattle.ada_program.specs.declared.program.TypeDefinition.{TypeDefinition}
use Rattle.ada_program.specs.Form.{RecordPathForm, ActualForm, in_value, in_null, in_access, in_record, in_out_path, in_out_access, in_out_component, in_out_record, ExpressionForm, integer, boolean, reads, is_null, applied_to, chained, LinksForm, no_more_links, a_link, ItemForm, null_item, item_of_path, item_of_value, item_of_record, RightForm, nothing, value_of, allocates, allocates_default, computes, StmtForm, skips, assigns, assigns_record, gets, writes, writes_text, chooses, repeats, counts, exits, calls, raises, encloses, StmtsForm, no_stmts, a_stmt, BranchesForm, otherwise, a_branch, HandlersForm, DeclarationForm, creates_pool, collects, declares, declares_record}
use Rattle.ada_program.specs.Form as form
use Rattle.ada_program.specs.ProgramForm.{BodyForm}
use Rattle.ada_program.specs.Typed.{reached_of}
use Rattle.ada_meaning.specs.declared.state.Place.{Place}
use Rattle.ada_meaning.specs.declared.state.Value.{Value}
use Rattle.ada_meaning.specs.declared.state.Value.TheVariants.{Names}
use Rattle.ada_meaning.specs.declared.event.Birth.{Birth}
use Rattle.ada_meaning.specs.declared.event.Birth.TheVariants.{Creation}
use Rattle.ada_meaning.specs.Event.{Followed, Quiet}
use Rattle.ada_meaning.specs.Frame.{Frame, evaluating, begins, is_master, Landing, passes_on, goes_behind, goes_in, landing}
use Rattle.ada_meaning.specs.Frame as frame
use Rattle.ada_meaning.specs.State.{height, home_of, pool_freed_to}
use Rattle.ada_meaning.specs.Heap.{Cell, Found, on_null, on_gone, on_other, finds}
use Rattle.ada_meaning.specs.Step.{all_tasks, has_parts, same_pool, treating, storing, computing, record_cell, record_in, newest_ones, without_newest, initial_values, record_target_next, record_stored_next, store_record_next, copy_next, record_assign_next, record_next, moves, at, held, referred_next, refers_next, open_next, opened_next, opens_next, assign_next, target_next, stored_next, store_next, received_next, receive_next, frees_next, freed_next, free_component_next, free_in_next, branches_next, decided_next, turn_next, repeats_next, turned_next, count_turn_next, counts_next, ranges_next, gets_next, exit_next, exited_next, call_next, stmt_next, stmts_next, line_next, declaration_next, declarations_next}
use Rattle.ada_meaning.specs.Named.{State, named, standing, new_object, an_integer}
use Rattle.ada_finalized.proofs.Ranks.{stored_bare}
use Rattle.ada_meaning.specs.Finalization.{adjusted_by}
use Rattle.ada_finalized.proofs.Doings.{Calm, rest, calm_rest}
use Rattle.ada_finalized.proofs.Stacks.{Control}
use Rattle.ada_finalized.proofs.Made.{Made, keeps, adds, copies, Does}
use Rattle.ada_finalized.proofs.Evaluations.{holder_does, record_holder_does, freeing_does, free_does}

module _ (types : List TypeDefinition) where
  -- Statements and declarations.
  assign_does : (cs : List ℕ) (x : ℕ) (right : RightForm) (s : State) → Does types s (assign_next named cs x right s)
  assign_does [] x right s = (tt, keeps refl refl)
  assign_does (c ∷ cs) x right s = holder_does types c cs x (λ last. frame.Targets last right) s (λ n. tt)

  pub target_does : (o : Value) (c : ℕ) (right : RightForm) (found : Found (Cell Value)) (s : State) → Does types s (target_next named o c right found s)
  target_does o c right on_null s = (tt, keeps refl refl)
  target_does o c right on_gone s = tt
  target_does o c right on_other s = tt
  target_does o c right (finds cell) s = (tt, keeps refl refl)

  stored_does : (o : Value) (c : ℕ) (v : Value) (before : Option Value) (s : State) → Does types s (stored_next named o c v before s)
  stored_does o c v None s = tt
  stored_does o c v (Some before) s = (tt, keeps (stored_bare s.heap o c (v ∷ [])) refl)

  pub store_does : (o : Value) (c : ℕ) (v : Value) (found : Found (Cell Value)) (s : State) → Does types s (store_next named o c v found s)
  store_does o c v on_null s = tt
  store_does o c v on_gone s = tt
  store_does o c v on_other s = tt
  store_does o c v (finds cell) s = stored_does o c v (slice_get cell.values c) s

  pub record_target_does : (o : Value) (first count : ℕ) (items : List ItemForm) (found : Found (Cell Value)) (s : State) → Does types s (record_target_next named o first count items found s)
  record_target_does o first count items on_null s = (tt, keeps refl refl)
  record_target_does o first count items on_gone s = tt
  record_target_does o first count items on_other s = tt
  record_target_does o first count items (finds cell) s = (tt, keeps refl refl)

  record_stored_does : (o : Value) (first : ℕ) (vs : List Value) (before : Option (List Value)) (s : State) → Does types s (record_stored_next named o first vs before s)
  record_stored_does o first vs None s = tt
  record_stored_does o first vs (Some before) s = (tt, keeps (stored_bare s.heap o first vs) refl)

  pub store_record_does : (o : Value) (first count : ℕ) (found : Found (Cell Value)) (s : State) → Does types s (store_record_next named o first count found s)
  store_record_does o first count on_null s = tt
  store_record_does o first count on_gone s = tt
  store_record_does o first count on_other s = tt
  store_record_does o first count (finds cell) s = record_stored_does o first (newest_ones named count s) (record_in cell.values first count) (without_newest named count s)

  frees_do : (cs : List ℕ) (access x : ℕ) (s : State) → Does types s (frees_next named types cs access x s)
  frees_do [] access x s = free_does types access x (held named s x) (standing s.heap (held named s x)) s refl
  frees_do (c ∷ cs) access x s = holder_does types c cs x (λ last. frame.FreesIn access last) s (λ n. tt)

  freed_does : (access : ℕ) (o : Value) (c : ℕ) (v : Value) (found : Found (Cell Value)) (s : State) → standing s.heap v ≡ found → Does types s (freed_next named types access o c v found s)
  freed_does access o c v on_null s is = (tt, keeps refl refl)
  freed_does access o c v on_gone s is = tt
  freed_does access o c v on_other s is = tt
  freed_does access o c v (finds cell) s is =
      freeing_does types (same_pool (Some (pool_freed_to (home_of access s.masters))) cell.home.pool) access v cell (frame.ClearsIn o c) (Followed o) s tt tt is

  free_component_does : (access : ℕ) (o : Value) (c : ℕ) (held : Option Value) (s : State) → Does types s (free_component_next named types access o c held s)
  free_component_does access o c None s = tt
  free_component_does access o c (Some v) s = freed_does access o c v (standing s.heap v) s refl

  pub free_in_does : (access : ℕ) (o : Value) (c : ℕ) (found : Found (Cell Value)) (s : State) → Does types s (free_in_next named types access o c found s)
  free_in_does access o c on_null s = (tt, keeps refl refl)
  free_in_does access o c on_gone s = tt
  free_in_does access o c on_other s = tt
  free_in_does access o c (finds cell) s = free_component_does access o c (slice_get cell.values c) s

  branches_do : (branches : BranchesForm) (s : State) → Does types s (branches_next named branches s)
  branches_do (otherwise fs) s = (tt, keeps refl refl)
  branches_do (a_branch e fs branches) s = (tt, keeps refl refl)

  pub decided_does : (fs : StmtsForm) (branches : BranchesForm) (truth : Option Bool) (s : State) → Does types s (decided_next named fs branches truth s)
  decided_does fs branches None s = tt
  decided_does fs branches (Some true) s = (tt, keeps refl refl)
  decided_does fs branches (Some false) s = branches_do branches s

  turn_does : (condition : Option ExpressionForm) (fs : StmtsForm) (s : State) → Does types s (turn_next named condition fs s)
  turn_does condition no_stmts s = tt
  turn_does condition (a_stmt f fs) s = (tt, keeps refl refl)

  pub repeats_do : (condition : Option ExpressionForm) (fs : StmtsForm) (s : State) → Does types s (repeats_next named condition fs s)
  repeats_do None fs s = turn_does None fs s
  repeats_do (Some e) fs s = (tt, keeps refl refl)

  pub turned_does : (e : ExpressionForm) (fs : StmtsForm) (truth : Option Bool) (s : State) → Does types s (turned_next named e fs truth s)
  turned_does e fs None s = tt
  turned_does e fs (Some true) s = turn_does (Some e) fs s
  turned_does e fs (Some false) s = (tt, keeps refl refl)

  count_turn_does : (x : ℕ) (value last : ℤ) (fs : StmtsForm) (s : State) → Does types s (count_turn_next named x value last fs s)
  count_turn_does x value last no_stmts s = tt
  count_turn_does x value last (a_stmt f fs) s = (tt, keeps refl refl)

  counted_does : (turns : Bool) (x : ℕ) (value last : ℤ) (fs : StmtsForm) (s : State) → Does types s (if turns then count_turn_next named x value last fs s else moves Quiet s)
  counted_does true x value last fs s = count_turn_does x value last fs s
  counted_does false x value last fs s = (tt, keeps refl refl)

  pub counts_do : (x : ℕ) (value last : ℤ) (fs : StmtsForm) (s : State) → Does types s (counts_next named x value last fs s)
  counts_do x value last fs s = counted_does (int_le value last) x value last fs s

  pub ranges_do : (x : ℕ) (fs : StmtsForm) (low high : Option ℤ) (s : State) → Does types s (ranges_next named x fs low high s)
  ranges_do x fs None high s = tt
  ranges_do x fs (Some low) None s = tt
  ranges_do x fs (Some low) (Some high) s = counts_do x low high fs s

  gets_do : (cs : List ℕ) (x : ℕ) (input : List ℤ) (s : State) → Does types s (gets_next named cs x input s)
  gets_do (c ∷ cs) x input s = holder_does types c cs x frame.Receives s (λ n. tt)
  gets_do [] x [] s = (tt, keeps refl refl)
  gets_do [] x (i ∷ is) s = (tt, keeps refl refl)

  received_does : (o : Value) (c : ℕ) (input : List ℤ) (before : Option Value) (s : State) → Does types s (received_next named o c input before s)
  received_does o c input None s = tt
  received_does o c [] (Some before) s = (tt, keeps refl refl)
  received_does o c (i ∷ is) (Some before) s = (tt, keeps (stored_bare s.heap o c (an_integer i ∷ [])) refl)

  pub receive_does : (o : Value) (c : ℕ) (found : Found (Cell Value)) (s : State) → Does types s (receive_next named o c found s)
  receive_does o c on_null s = (tt, keeps refl refl)
  receive_does o c on_gone s = tt
  receive_does o c on_other s = tt
  receive_does o c (finds cell) s = received_does o c s.input (slice_get cell.values c) s

  exit_does : (condition : Option ExpressionForm) (s : State) → Does types s (exit_next named condition s)
  exit_does None s = (tt, keeps refl refl)
  exit_does (Some e) s = (tt, keeps refl refl)

  pub exited_does : (truth : Option Bool) (s : State) → Does types s (exited_next named truth s)
  exited_does None s = tt
  exited_does (Some true) s = (tt, keeps refl refl)
  exited_does (Some false) s = (tt, keeps refl refl)

  -- What is given by reference.
  referred_does : (o : Value) (place : Place) (found : Option (List Value)) (s : State) → Does types s (referred_next named o place found s)
  referred_does o place None s = tt
  referred_does o place (Some vs) s = (tt, keeps refl refl)

  pub refers_do : (o : Value) (place : Place) (count : ℕ) (found : Found (Cell Value)) (s : State) → Does types s (refers_next named o place count found s)
  refers_do o place count on_null s = (tt, keeps refl refl)
  refers_do o place count on_gone s = tt
  refers_do o place count on_other s = tt
  refers_do o place count (finds cell) s = referred_does o place (record_in cell.values place.component count) s

  pub open_does : (cs : List ℕ) (x : ℕ) (s : State) → Does types s (open_next named cs x s)
  open_does [] x s = tt
  open_does (c ∷ cs) x s = holder_does types c cs x frame.OpensIn s (λ n. tt)

  opened_does : (o : Value) (c : ℕ) (found : Option Value) (s : State) → Does types s (opened_next named o c found s)
  opened_does o c None s = tt
  opened_does o c (Some v) s = (tt, keeps refl refl)

  pub opens_do : (o : Value) (c : ℕ) (found : Found (Cell Value)) (s : State) → Does types s (opens_next named o c found s)
  opens_do o c on_null s = (tt, keeps refl refl)
  opens_do o c on_gone s = tt
  opens_do o c on_other s = tt
  opens_do o c (finds cell) s = opened_does o c (slice_get cell.values c) s

  -- A call, and the end of one.
  calm_evaluating : (a : ActualForm) → Calm (evaluating a)
  calm_evaluating (in_value e) = tt
  calm_evaluating in_null = tt
  calm_evaluating (in_access path) = tt
  calm_evaluating (in_record p) = tt
  calm_evaluating (in_out_path path) = tt
  calm_evaluating (in_out_access path) = tt
  calm_evaluating (in_out_component path) = tt
  calm_evaluating (in_out_record p) = tt

  rest_computing : (actuals : List ActualForm) (k : Control) → rest (computing named actuals k) ≡ rest k
  rest_computing [] k = refl
  rest_computing (a ∷ more) k = calm_rest (evaluating a) (computing named more k) (calm_evaluating a) ∙ rest_computing more k

  pub rest_storing : (references : List Value) (k : Control) → rest (storing named references k) ≡ rest k
  rest_storing [] k = refl
  rest_storing (r ∷ rs) k = rest_storing rs k

  call_does : (procedure : ℕ) (actuals : List ActualForm) (body : Option BodyForm) (s : State) → Does types s (call_next named procedure actuals body s)
  call_does procedure actuals None s = tt
  call_does procedure actuals (Some b) s = (tt, keeps refl (rest_computing actuals (frame.Calls procedure b actuals ∷ s.control)))

  -- A record that is assigned to: the components of one that has no controlled parts are evaluated.
  copy_does : (target : RecordPathForm) (items : List ItemForm) (s : State) → Does types s (copy_next named target items s)
  copy_does target [] s = tt
  copy_does target (null_item ∷ items) s = tt
  copy_does target (item_of_path path ∷ items) s = tt
  copy_does target (item_of_value e ∷ items) s = tt
  copy_does target (item_of_record source ∷ []) s = (tt, copies target source target.record_type s.control refl refl refl refl)
  copy_does target (item_of_record source ∷ (item ∷ items)) s = tt

  record_assign_does :
      (parts : Bool) (target : RecordPathForm) (items : List ItemForm) (s : State) → Does types s (record_assign_next named parts target items s)
  record_assign_does true target items s = copy_does target items s
  record_assign_does false target items s =
      record_holder_does types target (λ place. frame.TargetsRecord place.component target.record_type items) s (λ place. tt)

  stmt_does : (bodies : List BodyForm) (f : StmtForm) (s : State) → Does types s (stmt_next named types bodies f s)
  stmt_does bodies skips s = (tt, keeps refl refl)
  stmt_does bodies (assigns target right) s = assign_does target.selectors target.root right s
  stmt_does bodies (assigns_record target items) s = record_assign_does (has_parts types target.record_type) target items s
  stmt_does bodies (form.frees access path) s = frees_do path.selectors access path.root s
  stmt_does bodies (gets target) s = gets_do target.selectors target.root s.input s
  stmt_does bodies (writes e) s = (tt, keeps refl refl)
  stmt_does bodies (writes_text text) s = (tt, keeps refl refl)
  stmt_does bodies (chooses branches) s = branches_do branches s
  stmt_does bodies (repeats condition fs end_spot) s = (tt, keeps refl refl)
  stmt_does bodies (counts x low high fs end_spot) s = (tt, keeps refl refl)
  stmt_does bodies (exits condition spot) s = exit_does condition s
  stmt_does bodies (calls procedure actuals) s = call_does procedure actuals (slice_get bodies procedure) s
  stmt_does bodies (form.returns spot) s = (tt, keeps refl refl)
  stmt_does bodies (raises e) s = (tt, keeps refl refl)
  stmt_does bodies (encloses ds fs hs) s = (tt, keeps refl refl)

  pub stmts_do : (bodies : List BodyForm) (fs : StmtsForm) (s : State) → Does types s (stmts_next named types bodies fs s)
  stmts_do bodies no_stmts s = (tt, keeps refl refl)
  stmts_do bodies (a_stmt f fs) s = stmt_does bodies f (at (frame.Does fs ∷ s.control) s)

  pub line_does : (read : Option ℤ) (s : State) → Does types s (line_next named read s)
  line_does None s = tt
  line_does (Some i) s = (tt, keeps refl refl)

  pub made_does :
      (t : ℕ) (by : Birth) (values : List Value) (s after : State) → adjusted_by by ≡ None → after.mode ≡ s.mode
      → after.heap ≡ s.heap ++ new_object (record_cell named types t (height s.masters) values) ∷ []
      → after.control ≡ treating (Names (record { 0 = length s.heap })) (begins by []) (all_tasks types t PartsFirst) s.control → Made types s.heap s.mode s.next (rest s.control) after
  made_does t by values s after created mode heap control =
      adds (record_cell named types t (height s.masters) values) by s.control refl created refl mode heap control

  record_does : (x t : ℕ) (initial : Option (List ItemForm)) (s : State) → Does types s (record_next named types x t initial s)
  record_does x t None s = (tt, made_does t Creation (initial_values named (reached_of types t)) s _ refl refl refl refl)
  record_does x t (Some items) s = (tt, keeps refl refl)

  declaration_does : (d : DeclarationForm) (s : State) → Does types s (declaration_next named types d s)
  declaration_does (creates_pool pool) s = (tt, keeps refl refl)
  declaration_does (collects access) s = (tt, keeps refl refl)
  declaration_does (declares x right) s = (tt, keeps refl refl)
  declaration_does (declares_record x t initial) s = record_does x t initial s

  pub declarations_do : (ds : List DeclarationForm) (fs : StmtsForm) (hs : HandlersForm) (s : State) → Does types s (declarations_next named types ds fs hs s)
  declarations_do [] fs hs s = (tt, keeps refl refl)
  declarations_do (d ∷ ds) fs hs s = declaration_does d (at (frame.Elaborates ds fs hs ∷ s.control) s)
