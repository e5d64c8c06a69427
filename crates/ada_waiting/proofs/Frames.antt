-- What a frame does where something waits behind all that is left to do.

use Rattle.std.proofs.Common.{◌≡◌, ℕ, ℤ, Bool, true, false, List, [], ◌∷◌, ◌++◌, drop, Option, Some, None, refl, ap, ◌∙◌}
use Rattle.std.specs.Prelude.{int_le, if◌then◌else◌}
use Rattle.std.specs.List.{slice_get, slice_index_or}
use Rattle.ada_parts.specs.declared.tasks.Direction.TheVariants.{PartsFirst, WholeFirst}
use Rattle.ada_parts.specs.Task.{next as task_next}
use Rattle.ada_program.specs.declared.program.TypeDefinition.{TypeDefinition}
use Rattle.ada_program.specs.Form.{RecordPathForm, ActualForm, ExpressionForm, ItemForm, null_item, item_of_path, item_of_value, item_of_record, RightForm, nothing, value_of, allocates, allocates_default, computes, DeclarationForm, creates_pool, collects, declares, declares_record, StmtForm, skips, assigns, assigns_record, frees, gets, writes, writes_text, chooses, repeats, counts, exits, calls, returns, raises, encloses, StmtsForm, no_stmts, a_stmt, BranchesForm, otherwise, a_branch, HandlersForm}
use Rattle.ada_program.specs.ProgramForm.{BodyForm}
use Rattle.ada_program.specs.Typed.{reached_of, words_of, width_of}
use Rattle.ada_meaning.specs.declared.event.Birth.{Birth}
use Rattle.ada_meaning.specs.declared.event.Birth.TheVariants.{Creation, Copy, Adjustment}
use Rattle.ada_meaning.specs.declared.event.Cause.{Cause}
use Rattle.ada_meaning.specs.declared.event.Cause.TheVariants.{Leaving, Freeing, Assigning}
use Rattle.ada_meaning.specs.declared.event.Halt.TheVariants.{Erroneous}
use Rattle.ada_meaning.specs.declared.event.Why.TheVariants.{GivesElsewhere}
use Rattle.ada_meaning.specs.declared.state.Mode.{Mode}
use Rattle.ada_meaning.specs.Event.{Event, Followed, Quiet}
use Rattle.ada_meaning.specs.Frame.{begins, ends, Frame, evaluating, is_return}
use Rattle.ada_meaning.specs.Frame as frame
use Rattle.ada_meaning.specs.Heap.{Cell, Found, on_null, on_gone, on_other, finds, Ops}
use Rattle.ada_meaning.specs.State.{Activation, Owned, declared, collection, record_object, storage_pool, Item, Master, State, Destination, home_of, pool_freed_to}
use Rattle.ada_meaning.specs.Step.{halts, moves, at, older, popped, has_parts, same_pool, all_tasks, record_tasks, treating, held, newest, newest_ones, answered, new_next, initial_values, right_next, freeing, free_next, assigning, assigns_next, assign_next, copy_next, record_assign_next, frees_next, freed_next, free_component_next, free_in_next, branches_next, decided_next, turn_next, repeats_next, turned_next, count_turn_next, counts_next, ranges_next, gets_next, exit_next, exited_next, storing, returned, computing, call_next, stmt_next, stmts_next, made, record_next, declaration_next, declarations_next, taken_out, taken, members_next, item_leave_next, master_leave_next, leave_next, frame_next}
use Rattle.ada_waiting.specs.Before.{Waiting, before, NextBefore, HasCaller}
use Rattle.ada_waiting.proofs.Forms.{topped, treating_before, Stays, path_stays, named_stays, holder_stays, record_holder_stays, expression_stays, null_test_stays, links_stay, outcome_stays, items_stay, copies_stay, refers_stays, opens_stays, open_stays, target_stays, store_stays, record_target_stays, store_record_stays, receive_stays, end_stays, back_stays, line_stays}
use Rattle.ada_waiting.proofs.Treats.{awaited_stays, treats_stays}

-- Actual parameters are evaluated before what waits, too, and components get back what they are to get.
computing_before : {V H : Type 0} (ops : Ops V H) (actuals : List ActualForm) (k l : List (Frame V)) → computing ops actuals (k ++ l) ≡ computing ops actuals k ++ l
computing_before ops [] k l = refl
computing_before ops (a ∷ rest) k l = ap (λ (m : List (Frame _)). evaluating a ∷ m) (computing_before ops rest k l)

pub storing_before : {V H : Type 0} (ops : Ops V H) (references : List V) (k l : List (Frame V)) → storing ops references (k ++ l) ≡ storing ops references k ++ l
storing_before ops [] k l = refl
storing_before ops (r ∷ rs) k l = ap (λ (m : List (Frame _)). frame.StoresIn (ops.whole r) (ops.base r) ∷ m) (storing_before ops rs k l)

-- An activation without its newest operand.
abbrev shorter : {V : Type 0} → Activation V → Activation V
shorter a = record a { operands = older a.operands }

module _ {V H : Type 0} (ops : Ops V H) (w : Waiting V) (types : List TypeDefinition) (bodies : List BodyForm) where
  -- Branches and loops (5.3, 5.5).
  branches_stay : (branches : BranchesForm) → Stays ops w (branches_next ops branches)
  branches_stay (otherwise fs) a suspended s = refl
  branches_stay (a_branch e fs branches) a suspended s = refl

  decided_stays : (fs : StmtsForm) (branches : BranchesForm) (found : Option Bool) → Stays ops w (decided_next ops fs branches found)
  decided_stays fs branches None a suspended s = refl
  decided_stays fs branches (Some true) a suspended s = refl
  decided_stays fs branches (Some false) a suspended s = branches_stay branches a suspended s

  turn_stays : (condition : Option ExpressionForm) (fs : StmtsForm) → Stays ops w (turn_next ops condition fs)
  turn_stays condition no_stmts a suspended s = refl
  turn_stays condition (a_stmt f fs) a suspended s = refl

  repeats_stays : (condition : Option ExpressionForm) (fs : StmtsForm) → Stays ops w (repeats_next ops condition fs)
  repeats_stays None fs a suspended s = turn_stays None fs a suspended s
  repeats_stays (Some e) fs a suspended s = refl

  turned_stays : (condition : ExpressionForm) (fs : StmtsForm) (found : Option Bool) → Stays ops w (turned_next ops condition fs found)
  turned_stays e fs None a suspended s = refl
  turned_stays e fs (Some true) a suspended s = turn_stays (Some e) fs a suspended s
  turned_stays e fs (Some false) a suspended s = refl

  counts_by : (b : Bool) (x : ℕ) (value last : ℤ) (fs : StmtsForm) → Stays ops w (λ s. if b then count_turn_next ops x value last fs s else moves Quiet s)
  counts_by true x value last no_stmts a suspended s = refl
  counts_by true x value last (a_stmt f fs) a suspended s = refl
  counts_by false x value last fs a suspended s = refl

  counts_stay : (x : ℕ) (value last : ℤ) (fs : StmtsForm) → Stays ops w (counts_next ops x value last fs)
  counts_stay x value last fs a suspended s = counts_by (int_le value last) x value last fs a suspended s

  ranges_stay : (x : ℕ) (fs : StmtsForm) (low high : Option ℤ) → Stays ops w (ranges_next ops x fs low high)
  ranges_stay x fs None high a suspended s = refl
  ranges_stay x fs (Some low) None a suspended s = refl
  ranges_stay x fs (Some low) (Some high) a suspended s = counts_stay x low high fs a suspended s

  exit_stays : (condition : Option ExpressionForm) → Stays ops w (exit_next ops condition)
  exit_stays None a suspended s = refl
  exit_stays (Some e) a suspended s = refl

  exited_stays : (found : Option Bool) → Stays ops w (exited_next ops found)
  exited_stays None a suspended s = refl
  exited_stays (Some true) a suspended s = refl
  exited_stays (Some false) a suspended s = refl

  -- Frees (13.11.2).
  freeing_stays : (b : Bool) (access : ℕ) (v : V) (cell : Cell V) (clears : Frame V) (e : Event V) → Stays ops w (λ s. if b then moves e (freeing ops types access v cell clears s) else halts (Erroneous GivesElsewhere))
  freeing_stays true access v cell clears e a suspended s =
      ap (λ (k : List (Frame V)). moves e (record (freeing ops types access v cell clears (before w (topped a suspended s))) { control = k }))
      (treating_before v (ends (Freeing s.next)) (all_tasks types cell.access WholeFirst)
      (frame.Ends v ∷ frame.GivesBack v (Freeing s.next) (Some (pool_freed_to (home_of access s.masters))) ∷ clears ∷ s.control) w.control)
  freeing_stays false access v cell clears e a suspended s = refl

  free_stays : (access x : ℕ) (v : V) (found : Found (Cell V)) → Stays ops w (free_next ops types access x v found)
  free_stays access x v on_null a suspended s = refl
  free_stays access x v on_gone a suspended s = refl
  free_stays access x v on_other a suspended s = refl
  free_stays access x v (finds cell) a suspended s =
      freeing_stays (same_pool (Some (pool_freed_to (home_of access s.masters))) cell.home.pool) access v cell (frame.Clears x) Quiet a suspended s

  frees_stay : (cs : List ℕ) (access x : ℕ) → Stays ops w (frees_next ops types cs access x)
  frees_stay [] access x a suspended s =
      let v = held ops (topped a suspended s) x in free_stays access x v (ops.standing s.heap v) a suspended s
  frees_stay (c ∷ cs) access x a suspended s = holder_stays ops w c cs x (λ last. frame.FreesIn access last) a suspended s

  freed_stays : (access : ℕ) (o : V) (c : ℕ) (v : V) (found : Found (Cell V)) → Stays ops w (freed_next ops types access o c v found)
  freed_stays access o c v on_null a suspended s = refl
  freed_stays access o c v on_gone a suspended s = refl
  freed_stays access o c v on_other a suspended s = refl
  freed_stays access o c v (finds cell) a suspended s =
      freeing_stays (same_pool (Some (pool_freed_to (home_of access s.masters))) cell.home.pool) access v cell (frame.ClearsIn o c) (Followed o) a suspended s

  free_component_stays : (access : ℕ) (o : V) (c : ℕ) (found : Option V) → Stays ops w (free_component_next ops types access o c found)
  free_component_stays access o c None a suspended s = refl
  free_component_stays access o c (Some v) a suspended s = freed_stays access o c v (ops.standing s.heap v) a suspended s

  free_in_stays : (access : ℕ) (o : V) (c : ℕ) (found : Found (Cell V)) → Stays ops w (free_in_next ops types access o c found)
  free_in_stays access o c on_null a suspended s = refl
  free_in_stays access o c on_gone a suspended s = refl
  free_in_stays access o c on_other a suspended s = refl
  free_in_stays access o c (finds cell) a suspended s = free_component_stays access o c (slice_get cell.values c) a suspended s

  -- Allocators and declared records (3.3.1, 4.8).
  answered_before : (access count words : ℕ) (home : Destination) (a : Activation V) (suspended : List (Activation V)) (s : State V H) (granted : Bool)
      → answered ops types access count words home (before w (topped a suspended s)) granted ≡ before w (answered ops types access count words home (topped a suspended s) granted)
  answered_before access count words home a suspended s true =
      ap (λ (k : List (Frame V)). record (answered ops types access count words home (before w (topped a suspended s)) true) { control = k })
      (treating_before (ops.created s.heap words) (begins Creation []) (all_tasks types access PartsFirst) s.control w.control)
  answered_before access count words home a suspended s false = refl

  new_stays : (access count words : ℕ) (home : Option Destination) → Stays ops w (new_next ops types access count words home)
  new_stays access count words None a suspended s = refl
  new_stays access count words (Some home) a suspended s =
      (answered ops types access count words home (before w (topped a suspended s)), refl, answered_before access count words home a suspended s)

  made_stays : (x t : ℕ) (by : Birth) (values : List V) → Stays ops w (λ s. moves Quiet (made ops types x t by values s))
  made_stays x t by values a suspended s =
      ap (λ (k : List (Frame V)). moves Quiet (record (made ops types x t by values (before w (topped a suspended s))) { control = k }))
      (treating_before (ops.created s.heap (words_of types t)) (begins by []) (all_tasks types t PartsFirst) s.control w.control)

  -- What is assigned (5.2).
  right_stays : (right : RightForm) → Stays ops w (right_next ops types right)
  right_stays nothing a suspended s = refl
  right_stays (value_of path) a suspended s = named_stays ops w path.selectors path.root a suspended s
  right_stays (allocates access items) a suspended s = refl
  right_stays (allocates_default access) a suspended s = refl
  right_stays (computes e) a suspended s = refl

  assign_stays : (cs : List ℕ) (x : ℕ) (right : RightForm) → Stays ops w (assign_next ops cs x right)
  assign_stays [] x right a suspended s = refl
  assign_stays (c ∷ cs) x right a suspended s = holder_stays ops w c cs x (λ last. frame.Targets last right) a suspended s

  copy_stays : (target : RecordPathForm) (items : List ItemForm) → Stays ops w (copy_next ops target items)
  copy_stays target [] a suspended s = refl
  copy_stays target (null_item ∷ is) a suspended s = refl
  copy_stays target (item_of_path path ∷ is) a suspended s = refl
  copy_stays target (item_of_value e ∷ is) a suspended s = refl
  copy_stays target (item_of_record p ∷ []) a suspended s = refl
  copy_stays target (item_of_record p ∷ i ∷ is) a suspended s = refl

  record_assign_stays : (parts : Bool) (target : RecordPathForm) (items : List ItemForm) → Stays ops w (record_assign_next ops parts target items)
  record_assign_stays true target items a suspended s = copy_stays target items a suspended s
  record_assign_stays false target items a suspended s =
      record_holder_stays ops w target (λ place. frame.TargetsRecord place.component target.record_type items) a suspended s

  assigns_stays : (t : ℕ) (target source : V) (found : Option Bool) → Stays ops w (assigns_next ops types t target source found)
  assigns_stays t target source None a suspended s = refl
  assigns_stays t target source (Some true) a suspended s = refl
  assigns_stays t target source (Some false) a suspended s =
      let o = ops.whole target in
      let first = ops.part_base target in
      let ending = record_tasks types t WholeFirst first in
      let beginning = record_tasks types t PartsFirst first in
      let by = begins (Adjustment s.next) [] in
      let copied : List (Frame V) → List (Frame V) = λ k. frame.Copies (ops.base source) t ∷ frame.StoresRecord o (ops.base target) (width_of types t) ∷ k in
      ap (λ (k : List (Frame V)). moves Quiet (record (assigning ops types t target source (before w (topped a suspended s))) { control = k }))
      (ap (λ (k : List (Frame V)). treating o (ends (Assigning s.next)) ending (copied k)) (treating_before o by beginning s.control w.control)
      ∙ treating_before o (ends (Assigning s.next)) ending (copied (treating o by beginning s.control)) w.control)

  gets_stay : (cs : List ℕ) (x : ℕ) (input : List ℤ) → Stays ops w (gets_next ops cs x input)
  gets_stay (c ∷ cs) x input a suspended s = holder_stays ops w c cs x (λ last. frame.Receives last) a suspended s
  gets_stay [] x [] a suspended s = refl
  gets_stay [] x (i ∷ is) a suspended s = refl

  -- Calls (6.4).
  call_stays : (procedure : ℕ) (actuals : List ActualForm) (found : Option BodyForm) → Stays ops w (call_next ops procedure actuals found)
  call_stays procedure actuals None a suspended s = refl
  call_stays procedure actuals (Some b) a suspended s =
      ap (λ (k : List (Frame V)). moves Quiet (at k (before w (topped a suspended s))))
      (computing_before ops actuals (frame.Calls procedure b actuals ∷ s.control) w.control)

  -- The body of a call ends, before its caller (6.5).
  returned_stays : (actuals : List ActualForm) (references : List V) (a b : Activation V) (suspended : List (Activation V)) (s : State V H)
      → moves Quiet (returned ops actuals references (before w (topped a (b ∷ suspended) s))) ≡ moves Quiet (before w (returned ops actuals references (topped a (b ∷ suspended) s)))
  returned_stays actuals references a b suspended s =
      ap (λ (k : List (Frame V)). moves Quiet (record (returned ops actuals references (before w (topped a (b ∷ suspended) s))) { control = k }))
      (storing_before ops references s.control w.control)

  -- Statements (5.1).
  stmt_stays : (f : StmtForm) → Stays ops w (stmt_next ops types bodies f)
  stmt_stays skips a suspended s = refl
  stmt_stays (assigns target right) a suspended s = assign_stays target.selectors target.root right a suspended s
  stmt_stays (assigns_record target items) a suspended s = record_assign_stays (has_parts types target.record_type) target items a suspended s
  stmt_stays (frees access path) a suspended s = frees_stay path.selectors access path.root a suspended s
  stmt_stays (gets target) a suspended s = gets_stay target.selectors target.root s.input a suspended s
  stmt_stays (writes e) a suspended s = refl
  stmt_stays (writes_text text) a suspended s = refl
  stmt_stays (chooses branches) a suspended s = branches_stay branches a suspended s
  stmt_stays (repeats condition fs spot) a suspended s = refl
  stmt_stays (counts x low high fs spot) a suspended s = refl
  stmt_stays (exits condition spot) a suspended s = exit_stays condition a suspended s
  stmt_stays (calls procedure actuals) a suspended s = call_stays procedure actuals (slice_get bodies procedure) a suspended s
  stmt_stays (returns spot) a suspended s = refl
  stmt_stays (raises e) a suspended s = refl
  stmt_stays (encloses ds fs hs) a suspended s = refl

  stmts_stay : (fs : StmtsForm) → Stays ops w (stmts_next ops types bodies fs)
  stmts_stay no_stmts a suspended s = refl
  stmts_stay (a_stmt f fs) a suspended s = stmt_stays f a suspended (at (frame.Does fs ∷ s.control) s)

  -- Declarations (3.11).
  record_stays : (x t : ℕ) (initial : Option (List ItemForm)) → Stays ops w (record_next ops types x t initial)
  record_stays x t None a suspended s = made_stays x t Creation (initial_values ops (reached_of types t)) a suspended s
  record_stays x t (Some items) a suspended s = refl

  declaration_stays : (d : DeclarationForm) → Stays ops w (declaration_next ops types d)
  declaration_stays (creates_pool p) a suspended s = refl
  declaration_stays (collects access) a suspended s = refl
  declaration_stays (declares x right) a suspended s = refl
  declaration_stays (declares_record x t initial) a suspended s = record_stays x t initial a suspended s

  declarations_stay : (ds : List DeclarationForm) (fs : StmtsForm) (hs : HandlersForm) → Stays ops w (declarations_next ops types ds fs hs)
  declarations_stay [] fs hs a suspended s = refl
  declarations_stay (d ∷ ds) fs hs a suspended s = declaration_stays d a suspended (at (frame.Elaborates ds fs hs ∷ s.control) s)

  -- The leaving of a master (7.6.1).
  taken_out_before : (cause : Cause) (pool : Option ℕ) (v : V) (found : Found (Cell V)) (s : State V H) → taken_out ops types cause pool v found (before w s) ≡ before w (taken_out ops types cause pool v found s)
  taken_out_before cause pool v on_null s = refl
  taken_out_before cause pool v on_gone s = refl
  taken_out_before cause pool v on_other s = refl
  taken_out_before cause pool v (finds cell) s =
      ap (λ (k : List (Frame V)). record (before w s) { heap = ops.part s.heap v; control = k })
      (treating_before v (ends cause) (all_tasks types cell.access WholeFirst) (frame.Ends v ∷ frame.GivesBack v cause pool ∷ s.control) w.control)

  members_stay : (cause : Cause) (pool : Option ℕ) (vs : List V) → Stays ops w (members_next ops types cause pool vs)
  members_stay cause pool [] a suspended s = refl
  members_stay cause pool (v ∷ vs) a suspended s = (
    taken ops types cause pool (v ∷ vs) (before w (topped a suspended s)),
    refl,
    λ i. let u = slice_index_or (v ∷ vs) i ops.null in taken_out_before cause pool u (ops.look s.heap u) (topped a suspended s),
  )

  item_leave_stays : (m : ℕ) (item : Item) (what : Owned) → Stays ops w (item_leave_next ops types m item what)
  item_leave_stays m item (declared x) a suspended s = refl
  item_leave_stays m item (collection access pool) a suspended s = members_stay (Leaving m item.number) pool (ops.members s.heap item.number) a suspended s
  item_leave_stays m item (record_object t) a suspended s = members_stay (Leaving m item.number) None (ops.members s.heap item.number) a suspended s
  item_leave_stays m item (storage_pool declaration number) a suspended s = refl

  master_leave_stays : (mode : Mode) (m : ℕ) (items : List Item) → Stays ops w (master_leave_next ops types mode m items)
  master_leave_stays mode m [] a suspended s = refl
  master_leave_stays mode m (item ∷ items) a suspended s = item_leave_stays m item item.owned a suspended (at (frame.Leaves mode ∷ s.control) s)

  leave_stays : (mode : Mode) (masters : List Master) → Stays ops w (leave_next ops types mode masters)
  leave_stays mode [] a suspended s = refl
  leave_stays mode (m ∷ ms) a suspended s = master_leave_stays mode m.number m.items a suspended s

  -- The end of a call, before its caller.
  end_of_call : (actuals : List ActualForm) (references : List V) (a : Activation V) (suspended : List (Activation V)) (s : State V H) → HasCaller true suspended
      → NextBefore w (frame_next ops types bodies (frame.Returns actuals references) (topped a suspended s)) (frame_next ops types bodies (frame.Returns actuals references) (before w (topped a suspended s)))
  end_of_call actuals references a [] s has = absurd has
  end_of_call actuals references a (b ∷ suspended) s has = returned_stays actuals references a b suspended s

  -- What a frame does that has been taken off.
  pub frame_stays : (f : Frame V) (a : Activation V) (suspended : List (Activation V)) (s : State V H) → HasCaller (is_return f) suspended
      → NextBefore w (frame_next ops types bodies f (topped a suspended s)) (frame_next ops types bodies f (before w (topped a suspended s)))
  frame_stays (frame.Elaborates ds fs hs) a suspended s has = declarations_stay ds fs hs a suspended s
  frame_stays (frame.Does fs) a suspended s has = stmts_stay fs a suspended s
  frame_stays (frame.Decides fs branches) a suspended s has =
      decided_stays fs branches (ops.reads_boolean (newest ops (topped a suspended s))) (shorter a) suspended s
  frame_stays (frame.Repeats condition fs) a suspended s has = repeats_stays condition fs a suspended s
  frame_stays (frame.Turns condition fs) a suspended s has =
      turned_stays condition fs (ops.reads_boolean (newest ops (topped a suspended s))) (shorter a) suspended s
  frame_stays (frame.Ranges x fs) a suspended s has =
      let t = topped a suspended s in
      ranges_stay x fs (ops.reads_integer (newest ops (popped t))) (ops.reads_integer (newest ops t)) (shorter (shorter a)) suspended s
  frame_stays (frame.Counts x value last fs) a suspended s has = counts_stay x value last fs a suspended s
  frame_stays frame.Exits a suspended s has = exited_stays (ops.reads_boolean (newest ops (topped a suspended s))) (shorter a) suspended s
  frame_stays (frame.Handles hs) a suspended s has = refl
  frame_stays frame.Closes a suspended s has = refl
  frame_stays (frame.Leaves mode) a suspended s has = leave_stays mode s.masters a suspended s
  frame_stays (frame.Calls procedure b actuals) a suspended s has = refl
  frame_stays (frame.Returns actuals references) a suspended s has = end_of_call actuals references a suspended s has
  frame_stays (frame.Evaluates right) a suspended s has = right_stays right a suspended s
  frame_stays (frame.Computes e) a suspended s has = expression_stays ops w e a suspended s
  frame_stays (frame.Follows cs) a suspended s has = path_stays ops w cs (newest ops (topped a suspended s)) (shorter a) suspended s
  frame_stays (frame.TestsNull equal) a suspended s has =
      null_test_stays ops w equal (ops.reads_null (newest ops (topped a suspended s))) (shorter a) suspended s
  frame_stays (frame.Refers p) a suspended s has = record_holder_stays ops w p (λ place. frame.RefersIn place p.record_type) a suspended s
  frame_stays (frame.RefersIn place t) a suspended s has =
      let v = newest ops (topped a suspended s) in refers_stays ops w v place (width_of types t) (ops.look s.heap v) (shorter a) suspended s
  frame_stays (frame.Opens path) a suspended s has = open_stays ops w path.selectors path.root a suspended s
  frame_stays (frame.OpensIn c) a suspended s has =
      let v = newest ops (topped a suspended s) in opens_stays ops w v c (ops.look s.heap v) (shorter a) suspended s
  frame_stays (frame.Continues links) a suspended s has = links_stay ops w links a suspended s
  frame_stays (frame.Applies operator) a suspended s has =
      let t = topped a suspended s in
      outcome_stays ops w (ops.binary operator (newest ops (popped t)) (newest ops t)) (shorter (shorter a)) suspended s
  frame_stays (frame.AppliesAlone operator) a suspended s has =
      outcome_stays ops w (ops.unary operator (newest ops (topped a suspended s))) (shorter a) suspended s
  frame_stays (frame.Fills items) a suspended s has = items_stay ops w items a suspended s
  frame_stays (frame.Copies first t) a suspended s has =
      let v = newest ops (topped a suspended s) in copies_stay ops w v first (width_of types t) (ops.look s.heap v) (shorter a) suspended s
  frame_stays (frame.Creates access count) a suspended s has = new_stays access count (words_of types access) (home_of access s.masters) a suspended s
  frame_stays (frame.Stores x) a suspended s has = refl
  frame_stays (frame.Targets c right) a suspended s has =
      let v = newest ops (topped a suspended s) in target_stays ops w v c right (ops.look s.heap v) (shorter a) suspended s
  frame_stays (frame.StoresIn o c) a suspended s has =
      store_stays ops w o c (newest ops (topped a suspended s)) (ops.look s.heap o) (shorter a) suspended s
  frame_stays (frame.TargetsRecord first t items) a suspended s has =
      let v = newest ops (topped a suspended s) in record_target_stays ops w v first (width_of types t) items (ops.look s.heap v) (shorter a) suspended s
  frame_stays (frame.StoresRecord o first count) a suspended s has = store_record_stays ops w o first count (ops.look s.heap o) a suspended s
  frame_stays (frame.Assigns t) a suspended s has =
      let here = topped a suspended s in
      assigns_stays t (newest ops (popped here)) (newest ops here) (ops.same (newest ops (popped here)) (newest ops here)) (shorter (shorter a)) suspended s
  frame_stays (frame.Receives c) a suspended s has =
      let v = newest ops (topped a suspended s) in receive_stays ops w v c (ops.look s.heap v) (shorter a) suspended s
  frame_stays (frame.FreesIn access c) a suspended s has =
      let v = newest ops (topped a suspended s) in free_in_stays access v c (ops.look s.heap v) (shorter a) suspended s
  frame_stays (frame.Declares x) a suspended s has = refl
  frame_stays (frame.DeclaresRecord x t) a suspended s has =
      made_stays x t Copy (newest_ones ops (words_of types t) (topped a suspended s)) (record a { operands = drop (words_of types t) a.operands }) suspended s
  frame_stays (frame.Treats v treatment tasks) a suspended s has = treats_stays ops w types bodies v treatment tasks (task_next tasks) a suspended s
  frame_stays (frame.Awaits v by done of part tasks) a suspended s has = awaited_stays ops w types bodies v by done of part tasks (ops.look s.heap v) a suspended s
  frame_stays frame.Confines a suspended s has = refl
  frame_stays (frame.Resumes mode) a suspended s has = refl
  frame_stays frame.Writes a suspended s has = line_stays ops w (ops.reads_integer (newest ops (topped a suspended s))) (shorter a) suspended s
  frame_stays (frame.Ends v) a suspended s has = end_stays ops w v (ops.look s.heap v) a suspended s
  frame_stays (frame.GivesBack v cause pool) a suspended s has = back_stays ops w v cause pool (ops.lent s.heap v) a suspended s
  frame_stays (frame.Clears x) a suspended s has = refl
  frame_stays (frame.ClearsIn o c) a suspended s has = store_stays ops w o c ops.null (ops.look s.heap o) a suspended s
