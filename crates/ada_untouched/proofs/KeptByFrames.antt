-- Hidden components stay as they are where a frame writes none of them.

use Rattle.std.proofs.Common.{ℕ, ℤ, Bool, true, false, List, [], ◌∷◌, Option, Some, None}
use Rattle.std.specs.Prelude.{int_le, if◌then◌else◌}
use Rattle.std.specs.List.{slice_get}
use Rattle.ada_parts.specs.Task.{next as task_next}
use Rattle.ada_program.specs.declared.program.TypeDefinition.{TypeDefinition}
use Rattle.ada_program.specs.Form.{RecordPathForm, ActualForm, ExpressionForm, ItemForm, null_item, item_of_path, item_of_value, item_of_record, RightForm, nothing, value_of, allocates, allocates_default, computes, DeclarationForm, creates_pool, collects, declares, declares_record, StmtForm, skips, assigns, assigns_record, frees, gets, writes, writes_text, chooses, repeats, counts, exits, calls, returns, raises, encloses, StmtsForm, no_stmts, a_stmt, BranchesForm, otherwise, a_branch, HandlersForm}
use Rattle.ada_program.specs.ProgramForm.{BodyForm}
use Rattle.ada_program.specs.Typed.{reached_of, words_of, width_of}
use Rattle.ada_meaning.specs.declared.event.Birth.{Birth}
use Rattle.ada_meaning.specs.declared.event.Birth.TheVariants.{Creation, Copy}
use Rattle.ada_meaning.specs.declared.event.Halt.TheVariants.{Erroneous}
use Rattle.ada_meaning.specs.declared.event.Why.TheVariants.{GivesElsewhere}
use Rattle.ada_meaning.specs.declared.state.Id.{Id}
use Rattle.ada_meaning.specs.declared.state.Value.{Value}
use Rattle.ada_meaning.specs.declared.state.Value.TheVariants.{Null}
use Rattle.ada_meaning.specs.Event.{Event, Followed, Quiet}
use Rattle.ada_meaning.specs.Frame.{Frame}
use Rattle.ada_meaning.specs.Frame as frame
use Rattle.ada_meaning.specs.Heap.{Cell, Found, on_null, on_gone, on_other, finds}
use Rattle.ada_meaning.specs.State.{Destination, height, home_of, pool_freed_to}
use Rattle.ada_meaning.specs.Step.{halts, moves, at, popped, has_parts, same_pool, held, newest, newest_ones, without_newest, new_cell, answered, new_next, initial_values, right_next, freeing, free_next, assigns_next, assign_next, copy_next, record_assign_next, frees_next, freed_next, free_component_next, free_in_next, branches_next, decided_next, turn_next, repeats_next, turned_next, count_turn_next, counts_next, ranges_next, gets_next, exit_next, exited_next, call_next, stmt_next, stmts_next, record_cell, made, record_next, declaration_next, declarations_next, frame_next}
use Rattle.ada_meaning.specs.Named.{State, named, look, lent, standing, reads_integer, reads_boolean, reads_null, same as one_record}
use Rattle.ada_untouched.specs.Unwritten.{FrameWritesShown}
use Rattle.ada_untouched.proofs.Kept.{Kept, create_kept}
use Rattle.ada_untouched.proofs.KeptByForms.{Stays, Staying, same, parted_kept, path_stays, named_stays, holder_stays, record_holder_stays, expression_stays, null_test_stays, links_stays, outcome_stays, items_stays, copies_stays, refers_stays, opens_stays, open_stays, target_stays, store_stays, record_target_stays, store_record_stays, receive_stays, end_stays, back_stays, awaited_stays, treats_stays, line_stays, leave_stays}

module _ (hidden : Id → (component : ℕ) → Bool) (types : List TypeDefinition) (bodies : List BodyForm) where
  -- The heap is the same.
  as_is : (s : State) → Kept hidden s.heap s.heap
  as_is s = same hidden s

  -- Branches and loops (5.3, 5.5).
  branches_stays : (branches : BranchesForm) → Staying hidden (branches_next named branches)
  branches_stays (otherwise fs) s = as_is s
  branches_stays (a_branch e fs branches) s = as_is s

  decided_stays : (fs : StmtsForm) (branches : BranchesForm) (found : Option Bool) → Staying hidden (decided_next named fs branches found)
  decided_stays fs branches None s = tt
  decided_stays fs branches (Some true) s = as_is s
  decided_stays fs branches (Some false) s = branches_stays branches s

  turn_stays : (condition : Option ExpressionForm) (fs : StmtsForm) → Staying hidden (turn_next named condition fs)
  turn_stays condition no_stmts s = tt
  turn_stays condition (a_stmt f fs) s = as_is s

  repeats_stays : (condition : Option ExpressionForm) (fs : StmtsForm) → Staying hidden (repeats_next named condition fs)
  repeats_stays None fs s = turn_stays None fs s
  repeats_stays (Some e) fs s = as_is s

  turned_stays : (condition : ExpressionForm) (fs : StmtsForm) (found : Option Bool) → Staying hidden (turned_next named condition fs found)
  turned_stays e fs None s = tt
  turned_stays e fs (Some true) s = turn_stays (Some e) fs s
  turned_stays e fs (Some false) s = as_is s

  count_turn_stays : (x : ℕ) (value last : ℤ) (fs : StmtsForm) → Staying hidden (count_turn_next named x value last fs)
  count_turn_stays x value last no_stmts s = tt
  count_turn_stays x value last (a_stmt f fs) s = as_is s

  counts_by : (b : Bool) (x : ℕ) (value last : ℤ) (fs : StmtsForm) → Staying hidden (λ s. if b then count_turn_next named x value last fs s else moves Quiet s)
  counts_by true x value last fs s = count_turn_stays x value last fs s
  counts_by false x value last fs s = as_is s

  counts_stays : (x : ℕ) (value last : ℤ) (fs : StmtsForm) → Staying hidden (counts_next named x value last fs)
  counts_stays x value last fs s = counts_by (int_le value last) x value last fs s

  ranges_stays : (x : ℕ) (fs : StmtsForm) (low high : Option ℤ) → Staying hidden (ranges_next named x fs low high)
  ranges_stays x fs None high s = tt
  ranges_stays x fs (Some low) None s = tt
  ranges_stays x fs (Some low) (Some high) s = counts_stays x low high fs s

  exit_stays : (condition : Option ExpressionForm) → Staying hidden (exit_next named condition)
  exit_stays None s = as_is s
  exit_stays (Some e) s = as_is s

  exited_stays : (found : Option Bool) → Staying hidden (exited_next named found)
  exited_stays None s = tt
  exited_stays (Some true) s = as_is s
  exited_stays (Some false) s = as_is s

  -- Frees (13.11.2).
  freeing_stays : (b : Bool) (access : ℕ) (v : Value) (cell : Cell Value) (clears : Frame Value) (e : Event Value) → Staying hidden (λ s. if b then moves e (freeing named types access v cell clears s) else halts (Erroneous GivesElsewhere))
  freeing_stays true access v cell clears e s = parted_kept hidden s.heap v
  freeing_stays false access v cell clears e s = tt

  free_stays : (access x : ℕ) (v : Value) (found : Found (Cell Value)) → Staying hidden (free_next named types access x v found)
  free_stays access x v on_null s = as_is s
  free_stays access x v on_gone s = tt
  free_stays access x v on_other s = tt
  free_stays access x v (finds cell) s =
      freeing_stays (same_pool (Some (pool_freed_to (home_of access s.masters))) cell.home.pool) access v cell (frame.Clears x) Quiet s

  frees_stays : (cs : List ℕ) (access x : ℕ) → Staying hidden (frees_next named types cs access x)
  frees_stays [] access x s = free_stays access x (held named s x) (standing s.heap (held named s x)) s
  frees_stays (c ∷ cs) access x s = holder_stays hidden c cs x (λ last. frame.FreesIn access last) s

  freed_stays : (access : ℕ) (o : Value) (c : ℕ) (v : Value) (found : Found (Cell Value)) → Staying hidden (freed_next named types access o c v found)
  freed_stays access o c v on_null s = as_is s
  freed_stays access o c v on_gone s = tt
  freed_stays access o c v on_other s = tt
  freed_stays access o c v (finds cell) s =
      freeing_stays (same_pool (Some (pool_freed_to (home_of access s.masters))) cell.home.pool) access v cell (frame.ClearsIn o c) (Followed o) s

  free_component_stays : (access : ℕ) (o : Value) (c : ℕ) (found : Option Value) → Staying hidden (free_component_next named types access o c found)
  free_component_stays access o c None s = tt
  free_component_stays access o c (Some v) s = freed_stays access o c v (standing s.heap v) s

  free_in_stays : (access : ℕ) (o : Value) (c : ℕ) (found : Found (Cell Value)) → Staying hidden (free_in_next named types access o c found)
  free_in_stays access o c on_null s = as_is s
  free_in_stays access o c on_gone s = tt
  free_in_stays access o c on_other s = tt
  free_in_stays access o c (finds cell) s = free_component_stays access o c (slice_get cell.values c) s

  -- Allocators and declared records (3.3.1, 4.8): what an object holds as it begins is not written to it.
  answered_stays : (access count words : ℕ) (home : Destination) (s : State) (granted : Bool) → Kept hidden s.heap (answered named types access count words home s granted).heap
  answered_stays access count words home s true = create_kept hidden s.heap words (new_cell named types access count home s)
  answered_stays access count words home s false = as_is s

  new_stays : (access count words : ℕ) (home : Option Destination) → Staying hidden (new_next named types access count words home)
  new_stays access count words None s = as_is s
  new_stays access count words (Some home) s = answered_stays access count words home s

  made_stays : (x t : ℕ) (by : Birth) (values : List Value) (s : State) → Kept hidden s.heap (made named types x t by values s).heap
  made_stays x t by values s = create_kept hidden s.heap (words_of types t) (record_cell named types t (height s.masters) values)

  -- What is assigned (5.2).
  right_stays : (right : RightForm) → Staying hidden (right_next named types right)
  right_stays nothing s = as_is s
  right_stays (value_of path) s = named_stays hidden path.selectors path.root s
  right_stays (allocates access items) s = as_is s
  right_stays (allocates_default access) s = as_is s
  right_stays (computes e) s = as_is s

  assign_stays : (cs : List ℕ) (x : ℕ) (right : RightForm) → Staying hidden (assign_next named cs x right)
  assign_stays [] x right s = as_is s
  assign_stays (c ∷ cs) x right s = holder_stays hidden c cs x (λ last. frame.Targets last right) s

  copy_stays : (target : RecordPathForm) (items : List ItemForm) → Staying hidden (copy_next named target items)
  copy_stays target [] s = tt
  copy_stays target (null_item ∷ is) s = tt
  copy_stays target (item_of_path path ∷ is) s = tt
  copy_stays target (item_of_value e ∷ is) s = tt
  copy_stays target (item_of_record p ∷ []) s = as_is s
  copy_stays target (item_of_record p ∷ i ∷ is) s = tt

  record_assign_stays : (parts : Bool) (target : RecordPathForm) (items : List ItemForm) → Staying hidden (record_assign_next named parts target items)
  record_assign_stays true target items s = copy_stays target items s
  record_assign_stays false target items s =
      record_holder_stays hidden target (λ place. frame.TargetsRecord place.component target.record_type items) s

  assigns_stays : (t : ℕ) (target source : Value) (found : Option Bool) → Staying hidden (assigns_next named types t target source found)
  assigns_stays t target source None s = tt
  assigns_stays t target source (Some true) s = as_is s
  assigns_stays t target source (Some false) s = as_is s

  gets_stays : (cs : List ℕ) (x : ℕ) (input : List ℤ) → Staying hidden (gets_next named cs x input)
  gets_stays (c ∷ cs) x input s = holder_stays hidden c cs x (λ last. frame.Receives last) s
  gets_stays [] x [] s = as_is s
  gets_stays [] x (i ∷ is) s = as_is s

  call_stays : (procedure : ℕ) (actuals : List ActualForm) (found : Option BodyForm) → Staying hidden (call_next named procedure actuals found)
  call_stays procedure actuals None s = tt
  call_stays procedure actuals (Some b) s = as_is s

  -- Statements (5.1).
  stmt_stays : (f : StmtForm) → Staying hidden (stmt_next named types bodies f)
  stmt_stays skips s = as_is s
  stmt_stays (assigns target right) s = assign_stays target.selectors target.root right s
  stmt_stays (assigns_record target items) s = record_assign_stays (has_parts types target.record_type) target items s
  stmt_stays (frees access path) s = frees_stays path.selectors access path.root s
  stmt_stays (gets target) s = gets_stays target.selectors target.root s.input s
  stmt_stays (writes e) s = as_is s
  stmt_stays (writes_text text) s = as_is s
  stmt_stays (chooses branches) s = branches_stays branches s
  stmt_stays (repeats condition fs spot) s = as_is s
  stmt_stays (counts x low high fs spot) s = as_is s
  stmt_stays (exits condition spot) s = exit_stays condition s
  stmt_stays (calls procedure actuals) s = call_stays procedure actuals (slice_get bodies procedure) s
  stmt_stays (returns spot) s = as_is s
  stmt_stays (raises e) s = as_is s
  stmt_stays (encloses ds fs hs) s = as_is s

  stmts_stays : (fs : StmtsForm) → Staying hidden (stmts_next named types bodies fs)
  stmts_stays no_stmts s = as_is s
  stmts_stays (a_stmt f fs) s = stmt_stays f (at (frame.Does fs ∷ s.control) s)

  -- Declarations (3.11).
  record_stays : (x t : ℕ) (initial : Option (List ItemForm)) → Staying hidden (record_next named types x t initial)
  record_stays x t None s = made_stays x t Creation (initial_values named (reached_of types t)) s
  record_stays x t (Some items) s = as_is s

  declaration_stays : (d : DeclarationForm) → Staying hidden (declaration_next named types d)
  declaration_stays (creates_pool p) s = as_is s
  declaration_stays (collects access) s = as_is s
  declaration_stays (declares x right) s = as_is s
  declaration_stays (declares_record x t initial) s = record_stays x t initial s

  declarations_stays : (ds : List DeclarationForm) (fs : StmtsForm) (hs : HandlersForm) → Staying hidden (declarations_next named types ds fs hs)
  declarations_stays [] fs hs s = as_is s
  declarations_stays (d ∷ ds) fs hs s = declaration_stays d (at (frame.Elaborates ds fs hs ∷ s.control) s)

  -- What a frame does that has been taken off.
  pub frame_stays : (f : Frame Value) (s : State) → FrameWritesShown hidden s f → Stays hidden s.heap (frame_next named types bodies f s)
  frame_stays (frame.Elaborates ds fs hs) s shown = declarations_stays ds fs hs s
  frame_stays (frame.Does fs) s shown = stmts_stays fs s
  frame_stays (frame.Decides fs branches) s shown = decided_stays fs branches (reads_boolean (newest named s)) (popped s)
  frame_stays (frame.Repeats condition fs) s shown = repeats_stays condition fs s
  frame_stays (frame.Turns condition fs) s shown = turned_stays condition fs (reads_boolean (newest named s)) (popped s)
  frame_stays (frame.Ranges x fs) s shown =
      ranges_stays x fs (reads_integer (newest named (popped s))) (reads_integer (newest named s)) (popped (popped s))
  frame_stays (frame.Counts x value last fs) s shown = counts_stays x value last fs s
  frame_stays frame.Exits s shown = exited_stays (reads_boolean (newest named s)) (popped s)
  frame_stays (frame.Handles hs) s shown = as_is s
  frame_stays frame.Closes s shown = as_is s
  frame_stays (frame.Leaves mode) s shown = leave_stays hidden types mode s.masters s
  frame_stays (frame.Calls procedure b actuals) s shown = as_is s
  frame_stays (frame.Returns actuals references) s shown = as_is s
  frame_stays (frame.Evaluates right) s shown = right_stays right s
  frame_stays (frame.Computes e) s shown = expression_stays hidden e s
  frame_stays (frame.Follows cs) s shown = path_stays hidden cs (newest named s) (popped s)
  frame_stays (frame.TestsNull equal) s shown = null_test_stays hidden equal (reads_null (newest named s)) (popped s)
  frame_stays (frame.Refers p) s shown = record_holder_stays hidden p (λ place. frame.RefersIn place p.record_type) s
  frame_stays (frame.RefersIn place t) s shown =
      refers_stays hidden (newest named s) place (width_of types t) (look s.heap (newest named s)) (popped s)
  frame_stays (frame.Opens path) s shown = open_stays hidden path.selectors path.root s
  frame_stays (frame.OpensIn c) s shown = opens_stays hidden (newest named s) c (look s.heap (newest named s)) (popped s)
  frame_stays (frame.Continues links) s shown = links_stays hidden links s
  frame_stays (frame.Applies operator) s shown =
      outcome_stays hidden (named.binary operator (newest named (popped s)) (newest named s)) (popped (popped s))
  frame_stays (frame.AppliesAlone operator) s shown = outcome_stays hidden (named.unary operator (newest named s)) (popped s)
  frame_stays (frame.Fills items) s shown = items_stays hidden items s
  frame_stays (frame.Copies first t) s shown = copies_stays hidden (newest named s) first (width_of types t) (look s.heap (newest named s)) (popped s)
  frame_stays (frame.Creates access count) s shown = new_stays access count (words_of types access) (home_of access s.masters) s
  frame_stays (frame.Stores x) s shown = as_is s
  frame_stays (frame.Targets c right) s shown = target_stays hidden (newest named s) c right (look s.heap (newest named s)) (popped s)
  frame_stays (frame.StoresIn v c) s shown = store_stays hidden v c (newest named s) (look s.heap v) shown (popped s)
  frame_stays (frame.TargetsRecord first t items) s shown =
      record_target_stays hidden (newest named s) first (width_of types t) items (look s.heap (newest named s)) (popped s)
  frame_stays (frame.StoresRecord v first count) s shown = store_record_stays hidden v first count (look s.heap v) shown s
  frame_stays (frame.Assigns t) s shown =
      assigns_stays t (newest named (popped s)) (newest named s) (one_record (newest named (popped s)) (newest named s)) (popped (popped s))
  frame_stays (frame.Receives c) s shown = receive_stays hidden (newest named s) c (look s.heap (newest named s)) shown (popped s)
  frame_stays (frame.FreesIn access c) s shown = free_in_stays access (newest named s) c (look s.heap (newest named s)) (popped s)
  frame_stays (frame.Declares x) s shown = as_is s
  frame_stays (frame.DeclaresRecord x t) s shown =
      made_stays x t Copy (newest_ones named (words_of types t) s) (without_newest named (words_of types t) s)
  frame_stays (frame.Treats v treatment tasks) s shown = treats_stays hidden types bodies v treatment tasks (task_next tasks) s
  frame_stays (frame.Awaits v by done of part tasks) s shown = awaited_stays hidden v by done of part tasks (look s.heap v) s
  frame_stays frame.Confines s shown = as_is s
  frame_stays (frame.Resumes mode) s shown = as_is s
  frame_stays frame.Writes s shown = line_stays hidden (reads_integer (newest named s)) (popped s)
  frame_stays (frame.Ends v) s shown = end_stays hidden v (look s.heap v) s
  frame_stays (frame.GivesBack v cause pool) s shown = back_stays hidden v cause pool (lent s.heap v) s
  frame_stays (frame.Clears x) s shown = as_is s
  frame_stays (frame.ClearsIn v c) s shown = store_stays hidden v c Null (look s.heap v) shown s
