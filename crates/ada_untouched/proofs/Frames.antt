-- What a frame does in states whose heaps are related so, where it looks at nothing in which they may differ.

use Rattle.std.proofs.Common.{ℕ, ◌+◌, ℤ, Bool, true, false, List, [], ◌∷◌, drop, Option, Some, None, refl, sym, ap, subst}
use Rattle.std.specs.Prelude.{pos, ◌+ℤ◌, int_le, if◌then◌else◌}
use Rattle.std.specs.List.{slice_get}
use Rattle.ada_parts.specs.declared.tasks.Direction.TheVariants.{PartsFirst}
use Rattle.ada_parts.specs.Task.{next as task_next}
use Rattle.ada_program.specs.declared.program.Exception.TheVariants.{ConstraintError, StorageError, EndError}
use Rattle.ada_program.specs.declared.program.TypeDefinition.{TypeDefinition}
use Rattle.ada_program.specs.Form.{RecordPathForm, ActualForm, ExpressionForm, ItemForm, null_item, item_of_path, item_of_value, item_of_record, RightForm, nothing, value_of, allocates, allocates_default, computes, DeclarationForm, creates_pool, collects, declares, declares_record, StmtForm, skips, assigns, assigns_record, frees, gets, writes, writes_text, chooses, repeats, counts, exits, calls, returns, raises, encloses, StmtsForm, no_stmts, a_stmt, BranchesForm, otherwise, a_branch, HandlersForm}
use Rattle.ada_program.specs.ProgramForm.{BodyForm}
use Rattle.ada_program.specs.Typed.{reached_of, words_of, width_of, pool_named}
use Rattle.ada_meaning.specs.declared.event.Birth.{Birth}
use Rattle.ada_meaning.specs.declared.event.Birth.TheVariants.{Creation, Copy}
use Rattle.ada_meaning.specs.declared.event.Halt.TheVariants.{Erroneous}
use Rattle.ada_meaning.specs.declared.event.Line.TheVariants.{Literal}
use Rattle.ada_meaning.specs.declared.event.Why.TheVariants.{GivesElsewhere}
use Rattle.ada_meaning.specs.declared.state.Id.{Id}
use Rattle.ada_meaning.specs.declared.state.Mode.TheVariants.{Running, Exiting, Returning}
use Rattle.ada_meaning.specs.declared.state.Value.{Value}
use Rattle.ada_meaning.specs.declared.state.Value.TheVariants.{Null}
use Rattle.ada_meaning.specs.Event.{Event, Followed, Line, Quiet, Allocate, New}
use Rattle.ada_meaning.specs.Frame.{begins, Frame}
use Rattle.ada_meaning.specs.Frame as frame
use Rattle.ada_meaning.specs.Heap.{Cell}
use Rattle.ada_meaning.specs.State.{declared, collection, record_object, storage_pool, Destination, height, home_of, pools_in, pool_for, pool_freed_to, counted}
use Rattle.ada_meaning.specs.Step.{halts, moves, asks, at, operands, put, computed, popped, jumping, raised, owned, entered, set_operands, operand_count, has_parts, same_pool, all_tasks, held, newest, newest_ones, without_newest, treated_on, new_cell, answered, new_next, initial_values, initialized, right_next, freeing, free_next, assigning, assigns_next, assign_next, copy_next, record_assign_next, frees_next, freed_next, free_component_next, free_in_next, branches_next, decided_next, turn_next, repeats_next, turned_next, count_turn_next, counts_next, ranges_next, gets_next, exit_next, exited_next, begun, returned, computing, call_next, stmt_next, stmts_next, record_cell, made, record_next, declaration_next, declarations_next, frame_next}
use Rattle.ada_meaning.specs.Named.{Object, State, named, look, standing, reads_integer, reads_boolean, reads_null, same, create, created, on_object, parted}
use Rattle.ada_untouched.specs.Alike.{StatesBy, SparesGhosts}
use Rattle.ada_untouched.specs.Untouched.{hides, IsInSight, IsReadable, LeadsOn, LeadsToHolder, MayBeSought, MayBeFreed, RightIsOpen, FreedIsOpen, StatementIsOpen, StatementsAreOpen, FrameIsOpen}
use Rattle.ada_untouched.proofs.Heaps.{by_found}
use Rattle.ada_untouched.proofs.Relation.{Keeps, NextSo}
use Rattle.ada_untouched.proofs.Treats.{awaited_same, treats_same}
use Rattle.ada_untouched.proofs.Forms.{over, alike, goes, told, Same, by_look, path_same, named_same, holder_same, record_holder_same, expression_same, null_test_same, links_same, outcome_same, items_same, copies_same, refers_same, opens_same, open_same, target_same, store_same, record_target_same, store_record_same, receive_same, end_same, back_same, line_same, leave_same}

module _ {hidden : Id → (component : ℕ) → Bool} {ghosts : Id → Bool} {AreSo : List Object → List Object → Type 0} (keeps : Keeps hidden ghosts AreSo) (types : List TypeDefinition) (bodies : List BodyForm) where
  -- Both go on, where the event spares the ghosts.
  on : (e : Event Value) → SparesGhosts ghosts e → (s : State) (k : List Object) → AreSo s.heap k → NextSo ghosts AreSo (moves e s) (moves e (over k s))
  on e spares s k a = goes keeps e spares s k a

  -- Branches and loops (5.3, 5.5).
  branches_same : (branches : BranchesForm) → Same keeps (branches_next named branches)
  branches_same (otherwise fs) s k a = on Quiet tt (at (frame.Does fs ∷ s.control) s) k a
  branches_same (a_branch e fs branches) s k a = on Quiet tt (at (frame.Computes e ∷ frame.Decides fs branches ∷ s.control) s) k a

  decided_same : (fs : StmtsForm) (branches : BranchesForm) (found : Option Bool) → Same keeps (decided_next named fs branches found)
  decided_same fs branches None s k a = refl
  decided_same fs branches (Some true) s k a = on Quiet tt (at (frame.Does fs ∷ s.control) s) k a
  decided_same fs branches (Some false) s k a = branches_same branches s k a

  turn_same : (condition : Option ExpressionForm) (fs : StmtsForm) → Same keeps (turn_next named condition fs)
  turn_same condition no_stmts s k a = refl
  turn_same condition (a_stmt f fs) s k a = on Quiet tt (at (frame.Does (a_stmt f fs) ∷ frame.Repeats condition (a_stmt f fs) ∷ s.control) s) k a

  repeats_same : (condition : Option ExpressionForm) (fs : StmtsForm) → Same keeps (repeats_next named condition fs)
  repeats_same None fs s k a = turn_same None fs s k a
  repeats_same (Some e) fs s k a = on Quiet tt (at (frame.Computes e ∷ frame.Turns e fs ∷ s.control) s) k a

  turned_same : (condition : ExpressionForm) (fs : StmtsForm) (found : Option Bool) → Same keeps (turned_next named condition fs found)
  turned_same e fs None s k a = refl
  turned_same e fs (Some true) s k a = turn_same (Some e) fs s k a
  turned_same e fs (Some false) s k a = on Quiet tt s k a

  count_turn_same : (x : ℕ) (value last : ℤ) (fs : StmtsForm) → Same keeps (count_turn_next named x value last fs)
  count_turn_same x value last no_stmts s k a = refl
  count_turn_same x value last (a_stmt f fs) s k a =
      on Quiet tt (at (frame.Does (a_stmt f fs) ∷ frame.Counts x (value +ℤ pos 1) last (a_stmt f fs) ∷ s.control) (put x (named.integer value) s)) k a

  counts_by : (b : Bool) (x : ℕ) (value last : ℤ) (fs : StmtsForm) → Same keeps (λ s. if b then count_turn_next named x value last fs s else moves Quiet s)
  counts_by true x value last fs s k a = count_turn_same x value last fs s k a
  counts_by false x value last fs s k a = on Quiet tt s k a

  counts_same : (x : ℕ) (value last : ℤ) (fs : StmtsForm) → Same keeps (counts_next named x value last fs)
  counts_same x value last fs s k a = counts_by (int_le value last) x value last fs s k a

  ranges_same : (x : ℕ) (fs : StmtsForm) (low high : Option ℤ) → Same keeps (ranges_next named x fs low high)
  ranges_same x fs None high s k a = refl
  ranges_same x fs (Some low) None s k a = refl
  ranges_same x fs (Some low) (Some high) s k a = counts_same x low high fs s k a

  exit_same : (condition : Option ExpressionForm) → Same keeps (exit_next named condition)
  exit_same None s k a = on Quiet tt (jumping Exiting s) k a
  exit_same (Some e) s k a = on Quiet tt (at (frame.Computes e ∷ frame.Exits ∷ s.control) s) k a

  exited_same : (found : Option Bool) → Same keeps (exited_next named found)
  exited_same None s k a = refl
  exited_same (Some true) s k a = on Quiet tt (jumping Exiting s) k a
  exited_same (Some false) s k a = on Quiet tt s k a

  -- Frees (13.11.2).
  freeing_same : (access : ℕ) (v : Value) (cell : Cell Value) (us : List Value) (clears : Frame Value) (e : Event Value) → SparesGhosts ghosts e → (b : Bool) (s : State) (k : List Object) → AreSo s.heap k → NextSo ghosts AreSo (if b then moves e (freeing named types access v cell clears s) else halts (Erroneous GivesElsewhere)) (if b then moves e (freeing named types access v (record cell { values = us }) clears (over k s)) else halts (Erroneous GivesElsewhere))
  freeing_same access v cell us clears e spares true s k a =
      on e spares (freeing named types access v cell clears s) (on_object parted k v) (keeps.parts s.heap k a v)
  freeing_same access v cell us clears e spares false s k a = refl

  free_same : (access x : ℕ) (v : Value) (s : State) (k : List Object) → AreSo s.heap k → IsInSight ghosts v → NextSo ghosts AreSo (free_next named types access x v (standing s.heap v) s) (free_next named types access x v (standing k v) (over k s))
  free_same access x v s k a clear =
      by_found (hides hidden v) (λ f g. NextSo ghosts AreSo (free_next named types access x v f s) (free_next named types access x v g (over k s)))
      (on Quiet tt s k a) refl refl
      (λ cell us both. freeing_same access v cell us (frame.Clears x) Quiet tt (same_pool (Some (pool_freed_to (home_of access s.masters))) cell.home.pool) s k a)
      (standing s.heap v) (standing k v) (keeps.stands s.heap k a v clear)

  frees_same : (cs : List ℕ) (access x : ℕ) (s : State) (k : List Object) → AreSo s.heap k → FreedIsOpen hidden ghosts s cs (held named s x) → NextSo ghosts AreSo (frees_next named types cs access x s) (frees_next named types cs access x (over k s))
  frees_same [] access x s k a clear = free_same access x (held named s x) s k a clear
  frees_same (c ∷ cs) access x s k a clear = holder_same keeps c cs x (λ last. frame.FreesIn access last) s k a clear

  freed_same : (access : ℕ) (o : Value) (c : ℕ) (v : Value) (s : State) (k : List Object) → AreSo s.heap k → IsInSight ghosts o → IsInSight ghosts v → NextSo ghosts AreSo (freed_next named types access o c v (standing s.heap v) s) (freed_next named types access o c v (standing k v) (over k s))
  freed_same access o c v s k a holder clear =
      by_found (hides hidden v) (λ f g. NextSo ghosts AreSo (freed_next named types access o c v f s) (freed_next named types access o c v g (over k s)))
      (on (Followed o) holder s k a) refl refl
      (λ cell us both. freeing_same access v cell us (frame.ClearsIn o c) (Followed o) holder (same_pool (Some (pool_freed_to (home_of access s.masters))) cell.home.pool) s k a)
      (standing s.heap v) (standing k v) (keeps.stands s.heap k a v clear)

  free_component_same : (access : ℕ) (o : Value) (c : ℕ) (found : Option Value) (s : State) (k : List Object) → AreSo s.heap k → IsInSight ghosts o → MayBeSought ghosts found → NextSo ghosts AreSo (free_component_next named types access o c found s) (free_component_next named types access o c found (over k s))
  free_component_same access o c None s k a holder clear = refl
  free_component_same access o c (Some v) s k a holder clear = freed_same access o c v s k a holder clear

  free_in_same : (access : ℕ) (o : Value) (c : ℕ) (s : State) (k : List Object) → AreSo s.heap k → IsReadable hidden ghosts o c → MayBeFreed ghosts c (look s.heap o) → NextSo ghosts AreSo (free_in_next named types access o c (look s.heap o) s) (free_in_next named types access o c (look k o) (over k s))
  free_in_same access o c s k a clear =
      by_look keeps o (λ f g. MayBeFreed ghosts c f → NextSo ghosts AreSo (free_in_next named types access o c f s) (free_in_next named types access o c g (over k s)))
      (λ sought. on Quiet tt (raised ConstraintError s) k a) (λ sought. refl) (λ sought. refl)
      (λ cell us both sought. subst (λ (u : Option Value). NextSo ghosts AreSo (free_component_next named types access o c (slice_get cell.values c) s) (free_component_next named types access o c u (over k s)))
      (both.values c clear.1) (free_component_same access o c (slice_get cell.values c) s k a clear.0 sought))
      s.heap k a clear.0

  -- Allocators and declared records (3.3.1, 4.8).
  abbrev granted_as : (access count : ℕ) → State → Value → List Object → State
  granted_as access count s v h =
      treated_on named v (begins Creation []) (all_tasks types access PartsFirst)
      (record (set_operands (v ∷ drop count (operands s)) s) { allocated = counted s.allocated; heap = h })

  answered_same : (access count words : ℕ) (home : Destination) (s : State) (k : List Object) → AreSo s.heap k → (granted : Bool) → StatesBy AreSo (answered named types access count words home s granted) (answered named types access count words home (over k s) granted)
  answered_same access count words home s k a true =
      let cell = new_cell named types access count home s in
      subst (λ (v : Value). StatesBy AreSo (granted_as access count s (created s.heap words) (create s.heap words cell)) (granted_as access count s v (create k words cell)))
      (sym (keeps.names s.heap k a words))
      (alike keeps (granted_as access count s (created s.heap words) (create s.heap words cell)) (create k words cell) (keeps.creates s.heap k a words cell))
  answered_same access count words home s k a false = alike keeps (raised StorageError s) k a

  new_same : (access count words : ℕ) (home : Option Destination) → Same keeps (new_next named types access count words home)
  new_same access count words None s k a = on Quiet tt (raised StorageError s) k a
  new_same access count words (Some home) s k a = (
    answered named types access count words home (over k s),
    ap (λ (v : Value). asks (Allocate home.pool 0 words v) (answered named types access count words home (over k s))) (keeps.names s.heap k a words),
    answered_same access count words home s k a,
  )

  abbrev made_as : (x t : ℕ) → Birth → State → Value → List Object → State
  made_as x t by s v h =
      treated_on named v (begins by []) (all_tasks types t PartsFirst) (owned (record_object t) (put x v (record s { heap = h })))

  made_same : (x t : ℕ) (by : Birth) (values : List Value) (s : State) (k : List Object) → AreSo s.heap k → NextSo ghosts AreSo (moves Quiet (made named types x t by values s)) (moves Quiet (made named types x t by values (over k s)))
  made_same x t by values s k a =
      let cell = record_cell named types t (height s.masters) values in
      let words = words_of types t in
      subst (λ (v : Value). NextSo ghosts AreSo (moves Quiet (made_as x t by s (created s.heap words) (create s.heap words cell))) (moves Quiet (made_as x t by s v (create k words cell))))
      (sym (keeps.names s.heap k a words))
      (on Quiet tt (made_as x t by s (created s.heap words) (create s.heap words cell)) (create k words cell) (keeps.creates s.heap k a words cell))

  -- What is assigned (5.2).
  right_same : (right : RightForm) (s : State) (k : List Object) → AreSo s.heap k → RightIsOpen hidden ghosts s right → NextSo ghosts AreSo (right_next named types right s) (right_next named types right (over k s))
  right_same nothing s k a clear = on Quiet tt (computed Null s) k a
  right_same (value_of path) s k a clear = named_same keeps path.selectors path.root s k a clear
  right_same (allocates access items) s k a clear = on Quiet tt (at (frame.Fills items ∷ frame.Creates access (words_of types access) ∷ s.control) s) k a
  right_same (allocates_default access) s k a clear =
      on Quiet tt (at (frame.Creates access (words_of types access) ∷ s.control) (initialized named types access s)) k a
  right_same (computes e) s k a clear = on Quiet tt (at (frame.Computes e ∷ s.control) s) k a

  assign_same : (cs : List ℕ) (x : ℕ) (right : RightForm) (s : State) (k : List Object) → AreSo s.heap k → LeadsToHolder hidden ghosts cs (held named s x) → NextSo ghosts AreSo (assign_next named cs x right s) (assign_next named cs x right (over k s))
  assign_same [] x right s k a clear = on Quiet tt (at (frame.Evaluates right ∷ frame.Stores x ∷ s.control) s) k a
  assign_same (c ∷ cs) x right s k a clear = holder_same keeps c cs x (λ last. frame.Targets last right) s k a clear

  copy_same : (target : RecordPathForm) (items : List ItemForm) → Same keeps (copy_next named target items)
  copy_same target [] s k a = refl
  copy_same target (null_item ∷ is) s k a = refl
  copy_same target (item_of_path path ∷ is) s k a = refl
  copy_same target (item_of_value e ∷ is) s k a = refl
  copy_same target (item_of_record p ∷ []) s k a =
      on Quiet tt (at (frame.Refers target ∷ frame.Refers p ∷ frame.Assigns target.record_type ∷ s.control) s) k a
  copy_same target (item_of_record p ∷ i ∷ is) s k a = refl

  record_assign_same : (parts : Bool) (target : RecordPathForm) (items : List ItemForm) (s : State) (k : List Object) → AreSo s.heap k → LeadsOn hidden ghosts target.object.selectors (held named s target.object.root) → NextSo ghosts AreSo (record_assign_next named parts target items s) (record_assign_next named parts target items (over k s))
  record_assign_same true target items s k a clear = copy_same target items s k a
  record_assign_same false target items s k a clear =
      record_holder_same keeps target (λ place. frame.TargetsRecord place.component target.record_type items) s k a clear

  assigns_same : (t : ℕ) (target source : Value) (found : Option Bool) → Same keeps (assigns_next named types t target source found)
  assigns_same t target source None s k a = refl
  assigns_same t target source (Some true) s k a = on Quiet tt s k a
  assigns_same t target source (Some false) s k a = on Quiet tt (assigning named types t target source s) k a

  gets_same : (cs : List ℕ) (x : ℕ) (input : List ℤ) (s : State) (k : List Object) → AreSo s.heap k → LeadsToHolder hidden ghosts cs (held named s x) → NextSo ghosts AreSo (gets_next named cs x input s) (gets_next named cs x input (over k s))
  gets_same (c ∷ cs) x input s k a clear = holder_same keeps c cs x (λ last. frame.Receives last) s k a clear
  gets_same [] x [] s k a clear = on Quiet tt (raised EndError s) k a
  gets_same [] x (i ∷ is) s k a clear = on Quiet tt (put x (named.integer i) (record s { input = is })) k a

  call_same : (procedure : ℕ) (actuals : List ActualForm) (found : Option BodyForm) → Same keeps (call_next named procedure actuals found)
  call_same procedure actuals None s k a = refl
  call_same procedure actuals (Some b) s k a = on Quiet tt (at (computing named actuals (frame.Calls procedure b actuals ∷ s.control)) s) k a

  -- Statements (5.1).
  stmt_same : (f : StmtForm) (s : State) (k : List Object) → AreSo s.heap k → StatementIsOpen hidden ghosts s f → NextSo ghosts AreSo (stmt_next named types bodies f s) (stmt_next named types bodies f (over k s))
  stmt_same skips s k a clear = on Quiet tt s k a
  stmt_same (assigns target right) s k a clear = assign_same target.selectors target.root right s k a clear
  stmt_same (assigns_record target items) s k a clear = record_assign_same (has_parts types target.record_type) target items s k a clear
  stmt_same (frees access path) s k a clear = frees_same path.selectors access path.root s k a clear
  stmt_same (gets target) s k a clear = gets_same target.selectors target.root s.input s k a clear
  stmt_same (writes e) s k a clear = on Quiet tt (at (frame.Computes e ∷ frame.Writes ∷ s.control) s) k a
  stmt_same (writes_text text) s k a clear = on (Line (Literal (record { 0 = text }))) tt s k a
  stmt_same (chooses branches) s k a clear = branches_same branches s k a
  stmt_same (repeats condition fs spot) s k a clear = on Quiet tt (at (frame.Repeats condition fs ∷ s.control) s) k a
  stmt_same (counts x low high fs spot) s k a clear =
      on Quiet tt (at (frame.Computes low ∷ frame.Computes high ∷ frame.Ranges x fs ∷ s.control) s) k a
  stmt_same (exits condition spot) s k a clear = exit_same condition s k a
  stmt_same (calls procedure actuals) s k a clear = call_same procedure actuals (slice_get bodies procedure) s k a
  stmt_same (returns spot) s k a clear = on Quiet tt (jumping Returning s) k a
  stmt_same (raises e) s k a clear = on Quiet tt (raised e s) k a
  stmt_same (encloses ds fs hs) s k a clear = on Quiet tt (entered (at (frame.Elaborates ds fs hs ∷ s.control) s)) k a

  stmts_same : (fs : StmtsForm) (s : State) (k : List Object) → AreSo s.heap k → StatementsAreOpen hidden ghosts s fs → NextSo ghosts AreSo (stmts_next named types bodies fs s) (stmts_next named types bodies fs (over k s))
  stmts_same no_stmts s k a clear = on Quiet tt s k a
  stmts_same (a_stmt f fs) s k a clear = stmt_same f (at (frame.Does fs ∷ s.control) s) k a clear

  -- Declarations (3.11).
  record_same : (x t : ℕ) (initial : Option (List ItemForm)) → Same keeps (record_next named types x t initial)
  record_same x t None s k a = made_same x t Creation (initial_values named (reached_of types t)) s k a
  record_same x t (Some items) s k a = on Quiet tt (at (frame.Fills items ∷ frame.DeclaresRecord x t ∷ s.control) s) k a

  declaration_same : (d : DeclarationForm) → Same keeps (declaration_next named types d)
  declaration_same (creates_pool p) s k a =
      told keeps (New (pools_in s.masters + 1) p) Quiet tt (owned (storage_pool p (pools_in s.masters + 1)) s) k a
  declaration_same (collects access) s k a = on Quiet tt (owned (collection access (pool_for (pool_named types access) s.masters)) s) k a
  declaration_same (declares x right) s k a = on Quiet tt (at (frame.Evaluates right ∷ frame.Declares x ∷ s.control) s) k a
  declaration_same (declares_record x t initial) s k a = record_same x t initial s k a

  declarations_same : (ds : List DeclarationForm) (fs : StmtsForm) (hs : HandlersForm) → Same keeps (declarations_next named types ds fs hs)
  declarations_same [] fs hs s k a = on Quiet tt (at (frame.Does fs ∷ frame.Handles hs ∷ frame.Closes ∷ s.control) s) k a
  declarations_same (d ∷ ds) fs hs s k a = declaration_same d (at (frame.Elaborates ds fs hs ∷ s.control) s) k a

  -- What a frame does that has been taken off.
  pub frame_same : (f : Frame Value) (s : State) (k : List Object) → AreSo s.heap k → FrameIsOpen types hidden ghosts s f → NextSo ghosts AreSo (frame_next named types bodies f s) (frame_next named types bodies f (over k s))
  frame_same (frame.Elaborates ds fs hs) s k a clear = declarations_same ds fs hs s k a
  frame_same (frame.Does fs) s k a clear = stmts_same fs s k a clear
  frame_same (frame.Decides fs branches) s k a clear = decided_same fs branches (reads_boolean (newest named s)) (popped s) k a
  frame_same (frame.Repeats condition fs) s k a clear = repeats_same condition fs s k a
  frame_same (frame.Turns condition fs) s k a clear = turned_same condition fs (reads_boolean (newest named s)) (popped s) k a
  frame_same (frame.Ranges x fs) s k a clear =
      ranges_same x fs (reads_integer (newest named (popped s))) (reads_integer (newest named s)) (popped (popped s)) k a
  frame_same (frame.Counts x value last fs) s k a clear = counts_same x value last fs s k a
  frame_same frame.Exits s k a clear = exited_same (reads_boolean (newest named s)) (popped s) k a
  frame_same (frame.Handles hs) s k a clear = on Quiet tt s k a
  frame_same frame.Closes s k a clear = on Quiet tt (at (frame.Leaves Running ∷ s.control) s) k a
  frame_same (frame.Leaves mode) s k a clear = leave_same keeps types mode s.masters s k a clear
  frame_same (frame.Calls procedure b actuals) s k a clear =
      on Quiet tt (begun named procedure b actuals (newest_ones named (operand_count actuals) s) s) k a
  frame_same (frame.Returns actuals references) s k a clear = on Quiet tt (returned named actuals references s) k a
  frame_same (frame.Evaluates right) s k a clear = right_same right s k a clear
  frame_same (frame.Computes e) s k a clear = expression_same keeps e s k a clear
  frame_same (frame.Follows cs) s k a clear = path_same keeps cs (newest named s) (popped s) k a clear
  frame_same (frame.TestsNull equal) s k a clear = null_test_same keeps equal (reads_null (newest named s)) (popped s) k a
  frame_same (frame.Refers p) s k a clear = record_holder_same keeps p (λ place. frame.RefersIn place p.record_type) s k a clear
  frame_same (frame.RefersIn place t) s k a clear = refers_same keeps (newest named s) place (width_of types t) (popped s) k a clear
  frame_same (frame.Opens path) s k a clear = open_same keeps path.selectors path.root s k a clear
  frame_same (frame.OpensIn c) s k a clear = opens_same keeps (newest named s) c (popped s) k a clear
  frame_same (frame.Continues links) s k a clear = links_same keeps links s k a
  frame_same (frame.Applies operator) s k a clear =
      outcome_same keeps (named.binary operator (newest named (popped s)) (newest named s)) (popped (popped s)) k a
  frame_same (frame.AppliesAlone operator) s k a clear = outcome_same keeps (named.unary operator (newest named s)) (popped s) k a
  frame_same (frame.Fills items) s k a clear = items_same keeps items s k a clear
  frame_same (frame.Copies first t) s k a clear =
      copies_same keeps (newest named s) first (width_of types t) (popped s) k a clear.0 clear.1
  frame_same (frame.Creates access count) s k a clear = new_same access count (words_of types access) (home_of access s.masters) s k a
  frame_same (frame.Stores x) s k a clear = on Quiet tt (put x (newest named s) (popped s)) k a
  frame_same (frame.Targets c right) s k a clear = target_same keeps (newest named s) c right (popped s) k a clear
  frame_same (frame.StoresIn v c) s k a clear = store_same keeps v c (newest named s) (popped s) k a clear
  frame_same (frame.TargetsRecord first t items) s k a clear =
      record_target_same keeps (newest named s) first (width_of types t) items (popped s) k a clear
  frame_same (frame.StoresRecord v first count) s k a clear = store_record_same keeps v first count s k a clear
  frame_same (frame.Assigns t) s k a clear =
      assigns_same t (newest named (popped s)) (newest named s) (same (newest named (popped s)) (newest named s)) (popped (popped s)) k a
  frame_same (frame.Receives c) s k a clear = receive_same keeps (newest named s) c (popped s) k a clear
  frame_same (frame.FreesIn access c) s k a clear = free_in_same access (newest named s) c (popped s) k a clear.0 clear.1
  frame_same (frame.Declares x) s k a clear = on Quiet tt (owned (declared x) (put x (newest named s) (popped s))) k a
  frame_same (frame.DeclaresRecord x t) s k a clear =
      made_same x t Copy (newest_ones named (words_of types t) s) (without_newest named (words_of types t) s) k a
  frame_same (frame.Treats v treatment tasks) s k a clear = treats_same keeps types bodies v treatment tasks (task_next tasks) s k a clear
  frame_same (frame.Awaits v by done of part tasks) s k a clear = awaited_same keeps types bodies v by done of part tasks s k a clear
  frame_same frame.Confines s k a clear = on Quiet tt s k a
  frame_same (frame.Resumes mode) s k a clear = on Quiet tt (record s { mode = mode }) k a
  frame_same frame.Writes s k a clear = line_same keeps (reads_integer (newest named s)) (popped s) k a
  frame_same (frame.Ends v) s k a clear = end_same keeps v s k a clear
  frame_same (frame.GivesBack v cause pool) s k a clear = back_same keeps v cause pool s k a clear
  frame_same (frame.Clears x) s k a clear = on Quiet tt (put x Null s) k a
  frame_same (frame.ClearsIn v c) s k a clear = store_same keeps v c Null s k a clear
