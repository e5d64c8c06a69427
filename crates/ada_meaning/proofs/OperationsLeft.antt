-- No step that begins no statement leaves more operations of controlled types to be called than there were, and one that calls an operation leaves less.

use Rattle.std.proofs.Common.{◌≡◌, ℕ, zero, suc, ℤ, ◌+◌, ◌-◌, ◌<◌, ◌≤◌, int_le, Bool, true, false, ◌==◌, if◌then◌else◌, List, [], ◌∷◌, ◌++◌, length, map, Option, Some, None, is_some, Result, Ok, Err, arith, refl, sym, ap, subst}
use Rattle.std.specs.List.{slice_get, slice_set, slice_index_or}
use Rattle.ada_program.specs.declared.program.TypeDefinition.{TypeDefinition}
use Rattle.ada_program.specs.Form.{RecordPathForm, ExpressionForm, integer, boolean, reads, is_null, applied_to, chained, LinksForm, no_more_links, a_link, ItemForm, null_item, item_of_path, item_of_value, item_of_record, RightForm, nothing, value_of, allocates, allocates_default, computes, StmtsForm, no_stmts, a_stmt, BranchesForm, otherwise, a_branch, HandlersForm, DeclarationForm, creates_pool, collects, declares, declares_record}
use Rattle.ada_program.specs.Handling.{handler_of}
use Rattle.ada_program.specs.ProgramForm.{BodyForm, body_forms}
use Rattle.ada_program.specs.Controlled.{shapes_of, operations_of, procedure_number}
use Rattle.ada_program.specs.declared.program.ProcedureNo.{ProcedureNo}
use Rattle.ada_parts.specs.declared.tasks.Direction.TheVariants.{PartsFirst, WholeFirst}
use Rattle.ada_parts.specs.declared.tasks.Next.TheVariants.{Done, Pick, Perform}
use Rattle.ada_parts.specs.declared.tasks.Component.{Component}
use Rattle.ada_parts.specs.Part.{Part}
use Rattle.ada_parts.specs.Task.{Task, performs, treats, next as task_next}
use Rattle.ada_program.specs.Typed.{reached_of, words_of, width_of}
use Rattle.ada_values.specs.declared.operator.BinaryOperator.{BinaryOperator}
use Rattle.ada_values.specs.declared.fault.OperatorFault.{OperatorFault}
use Rattle.ada_values.specs.declared.fault.OperatorFault.TheVariants.{Overflow, DivisionByZero, WrongType}
use Rattle.ada_meaning.specs.declared.state.Place.{Place}
use Rattle.ada_meaning.specs.declared.state.Value.{Value}
use Rattle.ada_meaning.specs.declared.state.Value.TheVariants.{Null, Names, Scalar, Part as InPart}
use Rattle.ada_meaning.specs.declared.state.Id.{Id}
use Rattle.ada_meaning.specs.declared.state.Mode.{Mode}
use Rattle.ada_meaning.specs.declared.state.Mode.TheVariants.{Running, Raising, Exiting, Returning}
use Rattle.ada_meaning.specs.declared.event.Cause.{Cause}
use Rattle.ada_meaning.specs.declared.event.Cause.TheVariants.{Leaving, Freeing, Assigning, Undoing}
use Rattle.ada_meaning.specs.declared.event.Birth.{Birth}
use Rattle.ada_meaning.specs.declared.event.Birth.TheVariants.{Creation, Copy, Adjustment}
use Rattle.ada_meaning.specs.declared.state.Stage.{Stage}
use Rattle.ada_meaning.specs.declared.state.Stage.TheVariants.{Building, Existing, Gone}
use Rattle.ada_program.specs.declared.program.Exception.{Exception}
use Rattle.ada_meaning.specs.declared.event.Halt.TheVariants.{Erroneous, Stuck}
use Rattle.ada_meaning.specs.declared.event.Why.TheVariants.{GivesElsewhere, FinalizesTwice}
use Rattle.ada_meaning.specs.Frame.{Treatment, Frame, is_master, is_loop, is_return, Landing, passes_on, goes_behind, goes_in, breaks_off, escapes, operation_landing, handler_landing, exception_landing, begins_by}
use Rattle.ada_meaning.specs.Frame as frame
use Rattle.ada_meaning.specs.State.{Owned, declared, collection, record_object, storage_pool, Item, Master, Destination, height, home_of, pool_freed_to, counted, begins, begins_in, begins_among}
use Rattle.ada_meaning.specs.Event.{Back, Finalized, Followed, Quiet}
use Rattle.ada_meaning.specs.Heap.{PartState, Cell, Found, on_null, on_gone, on_other, finds}
use Rattle.ada_meaning.specs.Step.{direction_of, operation_next, part_reference, stored_from, picked_task, all_tasks, record_tasks, treating, treated_on, beginning, born_next, begun_next, awaited_next, ended_next, finalized_next, performed_next, treats_next, made, taken_out, same_pool, told_back, record_cell, record_in, newest_ones, without_newest, initial_values, copied_next, copies_next, record_target_next, record_stored_next, store_record_next, record_next, halts, moves, tells, asks, picks, at, popped, held, newest, reading, component_next, follow_next, path_next, selected, named_next, holder_next, place_in, record_holder_next, referred_next, refers_next, open_next, opened_next, opens_next, storing, unwound, expression_next, null_test_next, is_decided, link_next, links_next, outcome_next, item_next, items_next, answered, new_next, new_cell, right_next, freeing, freeing_next, end_next, given_back, back_next, assigns_next, freed_next, free_component_next, free_in_next, branches_next, decided_next, turn_next, repeats_next, turned_next, count_turn_next, counts_next, ranges_next, exited_next, line_next, before_last, last_of, target_next, stored_next, store_next, received_next, receive_next, declaration_next, declarations_next, members_next, item_leave_next, master_leave_next, leave_next, frame_next, undo_next, broken_next, landed, pass_next, running_next, mode_next}
use Rattle.ada_meaning.specs.Named.{Object, changed, parted, finished, filled, treated, store, State, Next, existing, created, born_part, finalized_part, finalize, next, named, whole, inside, base, part_base, same, look, standing, lent, reads_boolean, reads_null, reads_integer, unary_given, binary_given, members, on_object, returned, new_object, an_integer}
use Rattle.ada_meaning.specs.Run.{Event, Choice, settled, grants, takes, Leads}
use Rattle.ada_meaning.specs.Ending.{has_handlers, by_mode, behind_weight, task_calls, frame_calls, calls_among, calls_in, calls_operation}
use Rattle.ada_meaning.specs.Pace.{cost_of_any, tasks_cost, done_cost, treatment_operations, new_operations, assigned_operations, right_operations, declaration_operations, declarations_operations, body_operations, operation_operations, type_operations, treats_operations, frame_operations, pass_operations, passed_operations, run_operations, exit_operations, return_operations, object_operations, heap_operations, operations_left, full_cost, DeclarationsSettle, OperationsGrowFewer}
use Rattle.ada_meaning.proofs.Members.{IsListed, member_seen, member_listed, named_so}
use Rattle.ada_meaning.proofs.Costs.{tasks_within, treatment_within, record_within, picked_within, done_more}
use Rattle.ada_meaning.proofs.Jumps.{unwound_to, unwound_by, master_no_loop, master_no_return}

-- The state in a mode.
abbrev in_mode : Mode → State → State
in_mode mode s = record s { mode = mode }

abbrev running : State → State
running s = in_mode Running s

-- One operation, where one is called.
abbrev called : Bool → ℕ
called is = if is then 1 else 0

called_once : (is : Bool) → called is ≤ 1
called_once true = omega arith
called_once false = omega arith

-- The lemmas, for a program with these types, and where the calls of operations cost so much.
module _ (types : List TypeDefinition) (cost : (of : ℕ) → ℕ) where
  -- What is left for the heap with one object more.
  heap_append : (xs ys : List Object) → heap_operations types cost (xs ++ ys) ≡ heap_operations types cost xs + heap_operations types cost ys
  heap_append [] ys = omega arith
  heap_append (x ∷ xs) ys = omega (arith, heap_append xs ys)

  -- An object that changes: the heap loses what the object loses.
  set_operations :
      (xs : List Object) (i : ℕ) (x y : Object) → slice_get xs i ≡ Some x
      → heap_operations types cost (slice_set xs i y) + object_operations types cost x ≡ heap_operations types cost xs + object_operations types cost y
  set_operations [] i x y is = absurd (cc)
  set_operations (z ∷ xs) zero x y is = let same : object_operations types cost z ≡ object_operations types cost x = cc in omega (arith, same)
  set_operations (z ∷ xs) (suc i) x y is = omega (arith, set_operations xs i x y is)

  changed_fewer :
      (change : Object → Object) (at_o : Option Object) (objects : List Object) (o : Id)
      → ((object : Object) → object_operations types cost (change object) ≤ object_operations types cost object) → slice_get objects o.0 ≡ at_o
      → heap_operations types cost (changed change at_o objects o) ≤ heap_operations types cost objects
  changed_fewer change None objects o fewer is = omega arith
  changed_fewer change (Some object) objects o fewer is = omega (arith, set_operations objects o.0 object (change object) is, fewer object)

  on_object_fewer :
      (change : Object → Object) (objects : List Object) (v : Value)
      → ((object : Object) → object_operations types cost (change object) ≤ object_operations types cost object)
      → heap_operations types cost (on_object change objects v) ≤ heap_operations types cost objects
  on_object_fewer change objects Null fewer = omega arith
  on_object_fewer change objects (Names o) fewer = changed_fewer change (slice_get objects o.0) objects o fewer refl
  on_object_fewer change objects (Scalar v) fewer = omega arith
  on_object_fewer change objects (InPart o first) fewer = omega arith

  finished_fewer : (objects : List Object) (v : Value) → heap_operations types cost (on_object finished objects v) ≤ heap_operations types cost objects
  finished_fewer objects v = on_object_fewer finished objects v (λ object. omega arith)

  returned_fewer : (objects : List Object) (v : Value) → heap_operations types cost (on_object returned objects v) ≤ heap_operations types cost objects
  returned_fewer objects v = on_object_fewer returned objects v (λ object. omega arith)

  parted_fewer : (objects : List Object) (v : Value) → heap_operations types cost (on_object parted objects v) ≤ heap_operations types cost objects
  parted_fewer objects v = on_object_fewer parted objects v (λ object. omega arith)

  filled_fewer :
      (objects : List Object) (v : Value) (c : ℕ) (u : Value)
      → heap_operations types cost (on_object (filled c u) objects v) ≤ heap_operations types cost objects
  filled_fewer objects v c u = on_object_fewer (filled c u) objects v (λ object. omega arith)

  stored_fewer :
      (objects : List Object) (v : Value) (c : ℕ) (vs : List Value)
      → heap_operations types cost (stored_from named objects v c vs) ≤ heap_operations types cost objects
  stored_fewer objects v c [] = omega arith
  stored_fewer objects v c (u ∷ us) = omega (arith, filled_fewer objects v c u, stored_fewer (store objects v c u) v (c + 1) us)

  part_fewer :
      (change : PartState → PartState) (part : ℕ) (objects : List Object) (v : Value)
      → heap_operations types cost (on_object (treated change part) objects v) ≤ heap_operations types cost objects
  part_fewer change part objects v = on_object_fewer (treated change part) objects v (λ object. omega arith)

  -- A member that is taken out of its collection leaves as many less as it is to be treated by.
  taken_object :
      (objects : List Object) (o : Id) (object : Object) (at_o : Option Object) → slice_get objects o.0 ≡ Some object → at_o ≡ Some object
      → object.listed ≡ true
      → heap_operations types cost (changed parted at_o objects o) + treatment_operations types cost object.cell.access ≡ heap_operations types cost objects
  taken_object objects o object None there is listed = absurd (cc)
  taken_object objects o object (Some x) there is listed =
      let same : x ≡ object = cc in
      let whole : object_operations types cost object ≡ treatment_operations types cost object.cell.access =
      ap (λ (b : Bool). if b then treatment_operations types cost object.cell.access else 0) listed in
      rw same (omega (arith, whole, set_operations objects o.0 object (parted object) there))

  taken_fewer :
      (objects : List Object) (v : Value) (h : IsListed 0 objects v)
      → heap_operations types cost (on_object parted objects v) + treatment_operations types cost h.object.cell.access ≡ heap_operations types cost objects
  taken_fewer objects v h =
      let o : Id = record { 0 = h.place } in
      subst (λ (u : Value). heap_operations types cost (on_object parted objects u) + treatment_operations types cost h.object.cell.access ≡ heap_operations types cost objects) (sym (named_so objects v h))
      (taken_object objects o h.object (slice_get objects h.place) h.there h.there h.listed)

  -- A treatment in front of what comes behind.
  treating_operations :
      (v : Value) (treatment : Treatment) (tasks : List Task) (k : List (Frame Value))
      → run_operations types cost (treating v treatment tasks k) ≤ treats_operations types cost treatment tasks + run_operations types cost k
  treating_operations v treatment [] k = omega arith
  treating_operations v treatment (task ∷ tasks) k = omega arith

  -- What is left for the objects, and for a state, open.
  abbrev stored : State → ℕ
  stored s = heap_operations types cost s.heap

  abbrev load : State → ℕ
  load s = stored s + by_mode s.mode (passed_operations types cost s.control) (exit_operations types cost s.control) (return_operations types cost s.control) (run_operations types cost s.control)

  -- What comes next has no more, whatever is answered.
  abbrev Keeps : Next → ℕ → Type 0
  Keeps (halts halt) w = Unit {0}
  Keeps (moves e s) w = load s ≤ w
  Keeps (tells request e s) w = load s ≤ w
  Keeps (asks request answers) w = (granted : Bool) → load (answers granted) ≤ w
  Keeps (picks n taking) w = (i : ℕ) → i < n → load (taking i) ≤ w

  -- Where an object is found, its own cell is.
  abbrev Reaches : Cell Value → Found (Cell Value) → Type 0
  Reaches cell (finds found) = found ≡ cell
  Reaches cell found = Unit {0}

  reaches_own : (object : Object) (stage : Stage) → Reaches object.cell (existing object stage)
  reaches_own object Building = refl
  reaches_own object Existing = refl
  reaches_own object Gone = tt

  -- An exception passes no more than what runs, and than what an exit or a return passes.
  mode_passed :
      (mode : Mode) (passed exited returned run : ℕ) → passed ≤ run → passed ≤ exited → passed ≤ returned → passed ≤ by_mode mode passed exited returned run
  mode_passed Running passed exited returned run h i j = h
  mode_passed (Raising e) passed exited returned run h i j = omega arith
  mode_passed Exiting passed exited returned run h i j = i
  mode_passed Returning passed exited returned run h i j = j

  frame_passed :
      (f : Frame Value) (passed exited returned run : ℕ) → passed ≤ run → passed ≤ exited → passed ≤ returned
      → pass_operations types cost f + passed ≤ frame_operations types cost f + behind_weight f passed exited returned run
  frame_passed (frame.Does no_stmts) passed exited returned run h i j = omega (arith, h)
  frame_passed (frame.Does (a_stmt f fs)) passed exited returned run h i j = omega arith
  frame_passed (frame.Leaves mode) passed exited returned run h i j = omega (arith, mode_passed mode passed exited returned run h i j)
  frame_passed (frame.Resumes mode) passed exited returned run h i j = omega (arith, mode_passed mode passed exited returned run h i j)
  frame_passed f passed exited returned run h i j = omega (arith, h)

  lands_passed : (lands : Bool) (passed onward run : ℕ) → passed ≤ run → passed ≤ onward → passed ≤ (if lands then run else onward)
  lands_passed true passed onward run h i = h
  lands_passed false passed onward run h i = i

  mutual
    passed_run : (k : List (Frame Value)) → passed_operations types cost k ≤ run_operations types cost k
    passed_run [] = omega arith
    passed_run (f ∷ k) =
        frame_passed f (passed_operations types cost k) (exit_operations types cost k) (return_operations types cost k) (run_operations types cost k) (passed_run k) (passed_exit k) (passed_return k)

    passed_exit : (k : List (Frame Value)) → passed_operations types cost k ≤ exit_operations types cost k
    passed_exit [] = omega arith
    passed_exit (f ∷ k) = omega (arith, lands_passed (is_loop f) (passed_operations types cost k) (exit_operations types cost k) (run_operations types cost k) (passed_run k) (passed_exit k))

    passed_return : (k : List (Frame Value)) → passed_operations types cost k ≤ return_operations types cost k
    passed_return [] = omega arith
    passed_return (f ∷ k) =
        omega (arith, lands_passed (is_return f) (passed_operations types cost k) (return_operations types cost k) (run_operations types cost k) (passed_run k) (passed_return k))

  -- Statements that are to be done count nothing, and what is behind them.
  does_none : (fs : StmtsForm) (k : List (Frame Value)) → run_operations types cost (frame.Does fs ∷ k) ≤ run_operations types cost k
  does_none no_stmts k = omega arith
  does_none (a_stmt f fs) k = omega (arith, passed_run k)

  -- Paths.
  reading_keeps : (cs : List ℕ) (v : Value) (s : State) (w : ℕ) → load (running s) ≤ w → load (reading named cs v (running s)) ≤ w
  reading_keeps [] v s w h = omega (arith, h)
  reading_keeps (c ∷ cs) v s w h = omega (arith, h)

  component_keeps : (v : Value) (cs : List ℕ) (found : Option Value) (s : State) (w : ℕ) → load (running s) ≤ w → Keeps (component_next named v cs found (running s)) w
  component_keeps v cs None s w h = tt
  component_keeps v cs (Some u) s w h = reading_keeps cs u s w h

  follow_keeps : (v : Value) (c : ℕ) (cs : List ℕ) (found : Found (Cell Value)) (s : State) (w : ℕ) → load (running s) ≤ w → Keeps (follow_next named v c cs found (running s)) w
  follow_keeps v c cs on_null s w h = omega (arith, h, passed_run s.control)
  follow_keeps v c cs on_gone s w h = tt
  follow_keeps v c cs on_other s w h = tt
  follow_keeps v c cs (finds cell) s w h = component_keeps v cs (slice_get cell.values c) s w h

  path_keeps : (cs : List ℕ) (v : Value) (s : State) (w : ℕ) → load (running s) ≤ w → Keeps (path_next named cs v (running s)) w
  path_keeps [] v s w h = omega (arith, h)
  path_keeps (c ∷ cs) v s w h = follow_keeps v c cs (look s.heap v) s w (omega (arith, h))

  -- A frame that counts nothing, whatever component or place it is for.
  abbrev CountsNone : (X : Type 0) → (X → Frame Value) → List (Frame Value) → Type 0
  CountsNone X frame_of k = (x : X) → run_operations types cost (frame_of x ∷ k) ≤ run_operations types cost k

  named_keeps : (cs : List ℕ) (x : ℕ) (s : State) (w : ℕ) → load (running s) ≤ w → Keeps (named_next named cs x (running s)) w
  named_keeps cs x s w h =
      let v = held named s x in
      path_keeps (selected named v cs) (whole v) s w h

  holder_keeps :
      (c : ℕ) (cs : List ℕ) (x : ℕ) (frame_of : ℕ → Frame Value) (s : State) (w : ℕ) → CountsNone ℕ frame_of s.control
      → load (running s) ≤ w → Keeps (holder_next named c cs x frame_of (running s)) w
  holder_keeps c cs x frame_of s w one h =
      let v = held named s x in
      let first = inside v c in
      path_keeps (before_last first cs) (whole v) (at (frame_of (last_of first cs) ∷ s.control) s) w
      (omega (arith, h, one (last_of first cs)))

  record_holder_keeps :
      (p : RecordPathForm) (frame_of : Place → Frame Value) (s : State) (w : ℕ) → CountsNone Place frame_of s.control
      → load (running s) ≤ w → Keeps (record_holder_next named p frame_of (running s)) w
  record_holder_keeps p frame_of s w one h =
      let v = held named s p.object.root in
      let place = place_in named v p.object.selectors p in
      path_keeps (selected named v p.object.selectors) (whole v) (at (frame_of place ∷ s.control) s) w
      (omega (arith, h, one place))

  -- Expressions.
  expression_keeps : (e : ExpressionForm) (s : State) (w : ℕ) → load (running s) ≤ w → Keeps (expression_next named e (running s)) w
  expression_keeps (integer i) s w h = omega (arith, h)
  expression_keeps (boolean b) s w h = omega (arith, h)
  expression_keeps (reads path) s w h = named_keeps path.selectors path.root s w (omega (arith, h))
  expression_keeps (is_null equal path) s w h =
      named_keeps path.selectors path.root (at (frame.TestsNull equal ∷ s.control) s) w (omega (arith, h))
  expression_keeps (applied_to operator e) s w h = omega (arith, h)
  expression_keeps (chained e links) s w h = omega (arith, h)

  null_test_keeps : (equal : Bool) (null : Option Bool) (s : State) (w : ℕ) → load (running s) ≤ w → Keeps (null_test_next named equal null (running s)) w
  null_test_keeps equal None s w h = tt
  null_test_keeps true (Some null) s w h = omega (arith, h)
  null_test_keeps false (Some null) s w h = omega (arith, h)

  link_keeps : (decided : Bool) (operator : BinaryOperator) (e : ExpressionForm) (links : LinksForm) (s : State) (w : ℕ) → load (running s) ≤ w → Keeps (link_next named decided operator e links (running s)) w
  link_keeps true operator e links s w h = omega (arith, h)
  link_keeps false operator e links s w h = omega (arith, h)

  links_keep : (links : LinksForm) (s : State) (w : ℕ) → load (running s) ≤ w → Keeps (links_next named links (running s)) w
  links_keep no_more_links s w h = omega (arith, h)
  links_keep (a_link operator e links) s w h = link_keeps (is_decided named operator (reads_boolean (newest named s))) operator e links s w h

  outcome_keeps : (outcome : Result Value OperatorFault) (s : State) (w : ℕ) → load (running s) ≤ w → Keeps (outcome_next named outcome (running s)) w
  outcome_keeps (Ok v) s w h = omega (arith, h)
  outcome_keeps (Err Overflow) s w h = omega (arith, h, passed_run s.control)
  outcome_keeps (Err DivisionByZero) s w h = omega (arith, h, passed_run s.control)
  outcome_keeps (Err WrongType) s w h = tt

  -- Allocators.
  item_keeps : (item : ItemForm) (s : State) (w : ℕ) → load (running s) ≤ w → Keeps (item_next named item (running s)) w
  item_keeps null_item s w h = omega (arith, h)
  item_keeps (item_of_path path) s w h = named_keeps path.selectors path.root s w (omega (arith, h))
  item_keeps (item_of_value e) s w h = omega (arith, h)
  item_keeps (item_of_record p) s w h =
      record_holder_keeps p (λ place. frame.Copies place.component p.record_type) s w (λ place. omega arith) (omega (arith, h))

  items_keep : (items : List ItemForm) (s : State) (w : ℕ) → load (running s) ≤ w → Keeps (items_next named items (running s)) w
  items_keep [] s w h = omega (arith, h)
  items_keep (i ∷ is) s w h = item_keeps i (at (frame.Fills is ∷ s.control) s) w (omega (arith, h))

  -- A record that is copied.
  copied_keeps : (o : Value) (found : Option (List Value)) (s : State) (w : ℕ) → load (running s) ≤ w → Keeps (copied_next named o found (running s)) w
  copied_keeps o None s w h = tt
  copied_keeps o (Some vs) s w h = omega (arith, h)

  copies_keep : (o : Value) (first count : ℕ) (found : Found (Cell Value)) (s : State) (w : ℕ) → load (running s) ≤ w → Keeps (copies_next named o first count found (running s)) w
  copies_keep o first count on_null s w h = omega (arith, h, passed_run s.control)
  copies_keep o first count on_gone s w h = tt
  copies_keep o first count on_other s w h = tt
  copies_keep o first count (finds cell) s w h = copied_keeps o (record_in cell.values first count) s w h

  answered_keeps :
      (access count words : ℕ) (home : Destination) (s : State) (w : ℕ) → load (running s) + new_operations types cost access ≤ w
      → (granted : Bool) → load (answered named types access count words home (running s) granted) ≤ w
  answered_keeps access count words home s w h true =
      let initializes = treating_operations (created s.heap words) (frame.begins Creation []) (all_tasks types access PartsFirst) s.control in
      omega (
        arith,
        h,
        heap_append s.heap (new_object (new_cell named types access count home s) ∷ []),
        initializes,
        tasks_within types cost access PartsFirst,
      )
  answered_keeps access count words home s w h false = omega (arith, h, passed_run s.control)

  new_keeps :
      (access count words : ℕ) (home : Option Destination) (s : State) (w : ℕ) → load (running s) + new_operations types cost access ≤ w
      → Keeps (new_next named types access count words home (running s)) w
  new_keeps access count words None s w h = omega (arith, h, passed_run s.control)
  new_keeps access count words (Some home) s w h = answered_keeps access count words home s w h

  right_keeps :
      (right : RightForm) (s : State) (w : ℕ) → load (running s) + right_operations types cost right ≤ w
      → Keeps (right_next named types right (running s)) w
  right_keeps nothing s w h = omega (arith, h)
  right_keeps (value_of path) s w h = named_keeps path.selectors path.root s w (omega (arith, h))
  right_keeps (allocates access items) s w h = omega (arith, h)
  right_keeps (allocates_default access) s w h = omega (arith, h)
  right_keeps (computes e) s w h = omega (arith, h)

  -- The end of an object.
  end_keeps : (v : Value) (found : Found (Cell Value)) (s : State) (w : ℕ) → load (running s) ≤ w → Keeps (end_next named v found (running s)) w
  end_keeps v on_null s w h = tt
  end_keeps v on_gone s w h = tt
  end_keeps v on_other s w h = tt
  end_keeps v (finds cell) s w h = omega (arith, h, finished_fewer s.heap v)

  told_keeps : (pool : Option ℕ) (v : Value) (event : Event) (s : State) (w : ℕ) → load (running s) ≤ w → Keeps (told_back named pool v event (running (record s { heap = on_object returned s.heap v }))) w
  told_keeps None v event s w h = omega (arith, h, returned_fewer s.heap v)
  told_keeps (Some pool) v event s w h = omega (arith, h, returned_fewer s.heap v)

  returned_keeps : (same : Bool) (v : Value) (cause : Cause) (cell : Cell Value) (s : State) (w : ℕ) → load (running s) ≤ w → Keeps (if same then given_back named v cause cell (running s) else halts (Erroneous GivesElsewhere)) w
  returned_keeps true v cause cell s w h = told_keeps cell.home.pool v (Back v cell.access cell.number cell.home.pool cell.home.subpool cause) s w h
  returned_keeps false v cause cell s w h = tt

  back_keeps : (v : Value) (cause : Cause) (pool : Option ℕ) (found : Found (Cell Value)) (s : State) (w : ℕ) → load (running s) ≤ w → Keeps (back_next named v cause pool found (running s)) w
  back_keeps v cause pool on_null s w h = tt
  back_keeps v cause pool on_gone s w h = tt
  back_keeps v cause pool on_other s w h = tt
  back_keeps v cause pool (finds cell) s w h = returned_keeps (same_pool pool cell.home.pool) v cause cell s w h

  -- Components that are assigned to.
  target_keeps :
      (o : Value) (c : ℕ) (right : RightForm) (found : Found (Cell Value)) (s : State) (w : ℕ)
      → load (running s) + right_operations types cost right ≤ w → Keeps (target_next named o c right found (running s)) w
  target_keeps o c right on_null s w h = omega (arith, h, passed_run s.control)
  target_keeps o c right on_gone s w h = tt
  target_keeps o c right on_other s w h = tt
  target_keeps o c right (finds cell) s w h = omega (arith, h)

  stored_keeps : (o : Value) (c : ℕ) (v : Value) (before : Option Value) (s : State) (w : ℕ) → load (running s) ≤ w → Keeps (stored_next named o c v before (running s)) w
  stored_keeps o c v None s w h = tt
  stored_keeps o c v (Some before) s w h = omega (arith, h, filled_fewer s.heap o c v)

  store_keeps : (o : Value) (c : ℕ) (v : Value) (found : Found (Cell Value)) (s : State) (w : ℕ) → load (running s) ≤ w → Keeps (store_next named o c v found (running s)) w
  store_keeps o c v on_null s w h = tt
  store_keeps o c v on_gone s w h = tt
  store_keeps o c v on_other s w h = tt
  store_keeps o c v (finds cell) s w h = stored_keeps o c v (slice_get cell.values c) s w h

  -- Records that are assigned to.
  record_target_keeps : (o : Value) (first count : ℕ) (items : List ItemForm) (found : Found (Cell Value)) (s : State) (w : ℕ) → load (running s) ≤ w → Keeps (record_target_next named o first count items found (running s)) w
  record_target_keeps o first count items on_null s w h = omega (arith, h, passed_run s.control)
  record_target_keeps o first count items on_gone s w h = tt
  record_target_keeps o first count items on_other s w h = tt
  record_target_keeps o first count items (finds cell) s w h = omega (arith, h)

  record_stored_keeps : (o : Value) (first : ℕ) (vs : List Value) (before : Option (List Value)) (s : State) (w : ℕ) → load (running s) ≤ w → Keeps (record_stored_next named o first vs before (running s)) w
  record_stored_keeps o first vs None s w h = tt
  record_stored_keeps o first vs (Some before) s w h = omega (arith, h, stored_fewer s.heap o first vs)

  store_record_keeps : (o : Value) (first count : ℕ) (found : Found (Cell Value)) (s : State) (w : ℕ) → load (running s) ≤ w → Keeps (store_record_next named o first count found (running s)) w
  store_record_keeps o first count on_null s w h = tt
  store_record_keeps o first count on_gone s w h = tt
  store_record_keeps o first count on_other s w h = tt
  store_record_keeps o first count (finds cell) s w h =
      record_stored_keeps o first (newest_ones named count s) (record_in cell.values first count) (without_newest named count s) w h

  -- A record with controlled parts that is assigned: its target is finalized, gets its components, and is adjusted.
  assigns_keep :
      (t : ℕ) (target source : Value) (same : Option Bool) (s : State) (w : ℕ)
      → load (running s) + assigned_operations types cost t ≤ w
      → Keeps (assigns_next named types t target source same (running s)) w
  assigns_keep t target source None s w h = tt
  assigns_keep t target source (Some true) s w h = omega (arith, h)
  assigns_keep t target source (Some false) s w h =
      let o = whole target in
      let part = part_base target in
      let adjusts = treating o (frame.begins (Adjustment s.next) []) (record_tasks types t PartsFirst part) s.control in
      let copies = frame.Copies (base source) t ∷ frame.StoresRecord o (base target) (width_of types t) ∷ adjusts in
      let adjusted = treating_operations o (frame.begins (Adjustment s.next) []) (record_tasks types t PartsFirst part) s.control in
      let finalized = treating_operations o (frame.ends (Assigning s.next)) (record_tasks types t WholeFirst part) copies in
      omega (arith, h, adjusted, finalized, record_within types cost t PartsFirst part, record_within types cost t WholeFirst part)

  received_keeps : (o : Value) (c : ℕ) (input : List ℤ) (before : Option Value) (s : State) (w : ℕ) → load (running s) ≤ w → Keeps (received_next named o c input before (running s)) w
  received_keeps o c input None s w h = tt
  received_keeps o c [] (Some before) s w h = omega (arith, h, passed_run s.control)
  received_keeps o c (i ∷ is) (Some before) s w h = omega (arith, h, filled_fewer s.heap o c (an_integer i))

  receive_keeps : (o : Value) (c : ℕ) (found : Found (Cell Value)) (s : State) (w : ℕ) → load (running s) ≤ w → Keeps (receive_next named o c found (running s)) w
  receive_keeps o c on_null s w h = omega (arith, h, passed_run s.control)
  receive_keeps o c on_gone s w h = tt
  receive_keeps o c on_other s w h = tt
  receive_keeps o c (finds cell) s w h = received_keeps o c s.input (slice_get cell.values c) s w h

  -- An object that is freed: an end and a back are to come, and then what held its name is to be cleared.
  freeing_keeps :
      (access : ℕ) (v : Value) (cell : Cell Value) (clears : Frame Value) (event : Event) (s : State) (w : ℕ)
      → run_operations types cost (clears ∷ s.control) ≤ run_operations types cost s.control
      → load (running s) + cost_of_any types cost (shapes_of types) ≤ w → Keeps (freeing_next named types access v cell clears event (running s)) w
  freeing_keeps access v cell clears event s w one h = by_pool (same_pool (Some (pool_freed_to (home_of access s.masters))) cell.home.pool)
    where
      by_pool :
          (own : Bool)
          → Keeps (if own then moves event (freeing named types access v cell clears (running s)) else halts (Erroneous GivesElsewhere)) w
      by_pool true =
          let behind = frame.Ends v ∷ frame.GivesBack v (Freeing s.next) (Some (pool_freed_to (home_of access s.masters))) ∷ clears ∷ s.control in
          let finalizes = treating_operations v (frame.ends (Freeing s.next)) (all_tasks types cell.access WholeFirst) behind in
          omega (arith, h, one, parted_fewer s.heap v, finalizes, tasks_within types cost cell.access WholeFirst, treatment_within types cost cell.access)
      by_pool false = tt

  -- A component that is freed.
  freed_keeps :
      (access : ℕ) (o : Value) (c : ℕ) (v : Value) (found : Found (Cell Value)) (s : State) (w : ℕ)
      → load (running s) + cost_of_any types cost (shapes_of types) ≤ w → Keeps (freed_next named types access o c v found (running s)) w
  freed_keeps access o c v on_null s w h = omega (arith, h)
  freed_keeps access o c v on_gone s w h = tt
  freed_keeps access o c v on_other s w h = tt
  freed_keeps access o c v (finds cell) s w h = freeing_keeps access v cell (frame.ClearsIn o c) (Followed o) s w (omega arith) h

  free_component_keeps :
      (access : ℕ) (o : Value) (c : ℕ) (held : Option Value) (s : State) (w : ℕ) → load (running s) + cost_of_any types cost (shapes_of types) ≤ w
      → Keeps (free_component_next named types access o c held (running s)) w
  free_component_keeps access o c None s w h = tt
  free_component_keeps access o c (Some v) s w h = freed_keeps access o c v (standing s.heap v) s w h

  free_in_keeps :
      (access : ℕ) (o : Value) (c : ℕ) (found : Found (Cell Value)) (s : State) (w : ℕ)
      → load (running s) + cost_of_any types cost (shapes_of types) ≤ w → Keeps (free_in_next named types access o c found (running s)) w
  free_in_keeps access o c on_null s w h = omega (arith, h, passed_run s.control)
  free_in_keeps access o c on_gone s w h = tt
  free_in_keeps access o c on_other s w h = tt
  free_in_keeps access o c (finds cell) s w h = free_component_keeps access o c (slice_get cell.values c) s w h

  -- Branches, loops and exits, behind their conditions.
  branches_keep : (branches : BranchesForm) (s : State) (w : ℕ) → load (running s) ≤ w → Keeps (branches_next named branches (running s)) w
  branches_keep (otherwise fs) s w h = omega (arith, h, does_none fs s.control)
  branches_keep (a_branch e fs branches) s w h = omega (arith, h)

  decided_keeps : (fs : StmtsForm) (branches : BranchesForm) (truth : Option Bool) (s : State) (w : ℕ) → load (running s) ≤ w → Keeps (decided_next named fs branches truth (running s)) w
  decided_keeps fs branches None s w h = tt
  decided_keeps fs branches (Some true) s w h = omega (arith, h, does_none fs s.control)
  decided_keeps fs branches (Some false) s w h = branches_keep branches s w h

  turn_keeps : (condition : Option ExpressionForm) (fs : StmtsForm) (s : State) (w : ℕ) → load (running s) ≤ w → Keeps (turn_next named condition fs (running s)) w
  turn_keeps condition no_stmts s w h = tt
  turn_keeps condition (a_stmt f fs) s w h = omega (arith, h, passed_run s.control)

  repeats_keep : (condition : Option ExpressionForm) (fs : StmtsForm) (s : State) (w : ℕ) → load (running s) ≤ w → Keeps (repeats_next named condition fs (running s)) w
  repeats_keep None fs s w h = turn_keeps None fs s w (omega (arith, h))
  repeats_keep (Some e) fs s w h = omega (arith, h)

  turned_keeps : (e : ExpressionForm) (fs : StmtsForm) (truth : Option Bool) (s : State) (w : ℕ) → load (running s) ≤ w → Keeps (turned_next named e fs truth (running s)) w
  turned_keeps e fs None s w h = tt
  turned_keeps e fs (Some true) s w h = turn_keeps (Some e) fs s w h
  turned_keeps e fs (Some false) s w h = omega (arith, h)

  -- Counting loops.
  count_turn_keeps : (x : ℕ) (value last : ℤ) (fs : StmtsForm) (s : State) (w : ℕ) → load (running s) ≤ w → Keeps (count_turn_next named x value last fs (running s)) w
  count_turn_keeps x value last no_stmts s w h = tt
  count_turn_keeps x value last (a_stmt f fs) s w h = omega (arith, h, passed_run s.control)

  counted_keeps : (turns : Bool) (x : ℕ) (value last : ℤ) (fs : StmtsForm) (s : State) (w : ℕ) → load (running s) ≤ w → Keeps (if turns then count_turn_next named x value last fs (running s) else moves Quiet (running s)) w
  counted_keeps true x value last fs s w h = count_turn_keeps x value last fs s w h
  counted_keeps false x value last fs s w h = omega (arith, h)

  counts_keep : (x : ℕ) (value last : ℤ) (fs : StmtsForm) (s : State) (w : ℕ) → load (running s) ≤ w → Keeps (counts_next named x value last fs (running s)) w
  counts_keep x value last fs s w h = counted_keeps (int_le value last) x value last fs s w h

  ranges_keep : (x : ℕ) (fs : StmtsForm) (low high : Option ℤ) (s : State) (w : ℕ) → load (running s) ≤ w → Keeps (ranges_next named x fs low high (running s)) w
  ranges_keep x fs None high s w h = tt
  ranges_keep x fs (Some low) None s w h = tt
  ranges_keep x fs (Some low) (Some high) s w h = counts_keep x low high fs s w h

  exited_keeps :
      (truth : Option Bool) (s : State) (w : ℕ) → load (running s) + exit_operations types cost s.control ≤ w
      → Keeps (exited_next named truth (running s)) w
  exited_keeps None s w h = tt
  exited_keeps (Some true) s w h = omega (arith, h)
  exited_keeps (Some false) s w h = omega (arith, h)

  line_keeps : (read : Option ℤ) (s : State) (w : ℕ) → load (running s) ≤ w → Keeps (line_next named read (running s)) w
  line_keeps None s w h = tt
  line_keeps (Some i) s w h = omega (arith, h)

  -- What is given by reference.
  referred_keeps :
      (o : Value) (place : Place) (found : Option (List Value)) (s : State) (w : ℕ) → load (running s) ≤ w
      → Keeps (referred_next named o place found (running s)) w
  referred_keeps o place None s w h = tt
  referred_keeps o place (Some vs) s w h = omega (arith, h)

  refers_keep :
      (o : Value) (place : Place) (count : ℕ) (found : Found (Cell Value)) (s : State) (w : ℕ) → load (running s) ≤ w
      → Keeps (refers_next named o place count found (running s)) w
  refers_keep o place count on_null s w h = omega (arith, h, passed_run s.control)
  refers_keep o place count on_gone s w h = tt
  refers_keep o place count on_other s w h = tt
  refers_keep o place count (finds cell) s w h = referred_keeps o place (record_in cell.values place.component count) s w h

  open_keeps : (cs : List ℕ) (x : ℕ) (s : State) (w : ℕ) → load (running s) ≤ w → Keeps (open_next named cs x (running s)) w
  open_keeps [] x s w h = tt
  open_keeps (c ∷ cs) x s w h = holder_keeps c cs x frame.OpensIn s w (λ last. omega arith) (omega (arith, h))

  opened_keeps :
      (o : Value) (c : ℕ) (found : Option Value) (s : State) (w : ℕ) → load (running s) ≤ w → Keeps (opened_next named o c found (running s)) w
  opened_keeps o c None s w h = tt
  opened_keeps o c (Some v) s w h = omega (arith, h)

  opens_keep :
      (o : Value) (c : ℕ) (found : Found (Cell Value)) (s : State) (w : ℕ) → load (running s) ≤ w → Keeps (opens_next named o c found (running s)) w
  opens_keep o c on_null s w h = omega (arith, h, passed_run s.control)
  opens_keep o c on_gone s w h = tt
  opens_keep o c on_other s w h = tt
  opens_keep o c (finds cell) s w h = opened_keeps o c (slice_get cell.values c) s w h

  -- What gets something back calls nothing.
  storing_operations : (references : List Value) (k : List (Frame Value)) → run_operations types cost (storing named references k) ≤ run_operations types cost k
  storing_operations [] k = omega arith
  storing_operations (r ∷ rs) k = omega (arith, storing_operations rs k)

  -- A record object that is made: it is to be initialized, and to be finalized and ended later.
  made_keeps :
      (x t : ℕ) (by : Birth) (values : List Value) (s : State) (w : ℕ) → load (running s) + new_operations types cost t ≤ w
      → load (made named types x t by values (running s)) ≤ w
  made_keeps x t by values s w h =
      let initializes = treating_operations (created s.heap (words_of types t)) (frame.begins by []) (all_tasks types t PartsFirst) s.control in
      let more = heap_append s.heap (new_object (record_cell named types t (height s.masters) values) ∷ []) in
      omega (arith, h, more, initializes, tasks_within types cost t PartsFirst)

  -- Declarations.
  record_keeps :
      (x t : ℕ) (initial : Option (List ItemForm)) (s : State) (w : ℕ)
      → load (running s) + new_operations types cost t ≤ w
      → Keeps (record_next named types x t initial (running s)) w
  record_keeps x t None s w h = made_keeps x t Creation (initial_values named (reached_of types t)) s w (omega (arith, h))
  record_keeps x t (Some items) s w h = omega (arith, h)

  declaration_keeps :
      (d : DeclarationForm) (s : State) (w : ℕ) → load (running s) + declaration_operations types cost d ≤ w
      → Keeps (declaration_next named types d (running s)) w
  declaration_keeps (creates_pool pool) s w h =
      omega (arith, h)
  declaration_keeps (collects access) s w h =
      omega (arith, h)
  declaration_keeps (declares x right) s w h = omega (arith, h)
  declaration_keeps (declares_record x t initial) s w h = record_keeps x t initial s w (omega (arith, h))

  declarations_keep :
      (ds : List DeclarationForm) (fs : StmtsForm) (hs : HandlersForm) (s : State) (w : ℕ)
      → load (running s) + declarations_operations types cost ds ≤ w → Keeps (declarations_next named types ds fs hs (running s)) w
  declarations_keep [] fs hs s w h = omega (arith, h, does_none fs (frame.Handles hs ∷ frame.Closes ∷ s.control))
  declarations_keep (d ∷ ds) fs hs s w h = declaration_keeps d (at (frame.Elaborates ds fs hs ∷ s.control) s) w (omega (arith, h))

  -- A member that is taken out: its object is found as long as it exists.
  out_keeps :
      (cause : Cause) (pool : Option ℕ) (v : Value) (cell : Cell Value) (found : Found (Cell Value)) (s : State) (w : ℕ) → Reaches cell found
      → heap_operations types cost (on_object parted s.heap v) + treatment_operations types cost cell.access ≡ heap_operations types cost s.heap → load (running s) ≤ w
      → load (taken_out named types cause pool v found (running s)) ≤ w
  out_keeps cause pool v cell on_null s w reaches less h = omega (arith, h, less)
  out_keeps cause pool v cell on_gone s w reaches less h = omega (arith, h, less)
  out_keeps cause pool v cell on_other s w reaches less h = omega (arith, h, less)
  out_keeps cause pool v cell (finds found) s w reaches less h =
      let behind = frame.Ends v ∷ frame.GivesBack v cause pool ∷ s.control in
      let finalizes = treating_operations v (frame.ends cause) (all_tasks types found.access WholeFirst) behind in
      let alike = ap (treatment_operations types cost) (ap (λ (c : Cell Value). c.access) reaches) in
      omega (arith, h, less, finalizes, alike, tasks_within types cost found.access WholeFirst)

  taken_keeps :
      (cause : Cause) (pool : Option ℕ) (v : Value) (s : State) (w : ℕ) → IsListed 0 s.heap v → load (running s) ≤ w
      → load (taken_out named types cause pool v (look s.heap v) (running s)) ≤ w
  taken_keeps cause pool v s w member h =
      out_keeps cause pool v member.object.cell (look s.heap v) s w
      (subst (Reaches member.object.cell) (sym (member_seen s.heap v member)) (reaches_own member.object member.object.stage))
      (taken_fewer s.heap v member) h

  -- The leaving of a master: `s` has its frame on top again, and no more is left than before.
  members_keep :
      (cause : Cause) (pool : Option ℕ) (item : ℕ) (vs : List Value) (s : State) (w : ℕ) → members s.heap item ≡ vs
      → load (running s) ≤ w → Keeps (members_next named types cause pool vs (running s)) w
  members_keep cause pool item [] s w are h = h
  members_keep cause pool item (v ∷ vs) s w are h =
      λ i lt. taken_keeps cause pool (slice_index_or (v ∷ vs) i Null) s w (member_listed s.heap item (v ∷ vs) i are lt) h

  item_leaves_fewer :
      (m : ℕ) (item : Item) (owned : Owned) (s : State) (w : ℕ)
      → load (running s) ≤ w → Keeps (item_leave_next named types m item owned (running s)) w
  item_leaves_fewer m item (declared x) s w h = h
  item_leaves_fewer m item (collection access pool) s w h = members_keep (Leaving m item.number) pool item.number (members s.heap item.number) s w refl h
  item_leaves_fewer m item (record_object t) s w h = members_keep (Leaving m item.number) None item.number (members s.heap item.number) s w refl h
  item_leaves_fewer m item (storage_pool declaration number) s w h = h

  master_leaves_fewer :
      (mode : Mode) (m : ℕ) (items : List Item) (s : State) (w : ℕ) → load (in_mode mode s) ≤ w
      → Keeps (master_leave_next named types mode m items (running s)) w
  master_leaves_fewer mode m [] s w h = h
  master_leaves_fewer mode m (item ∷ items) s w h =
      item_leaves_fewer m item item.owned (at (frame.Leaves mode ∷ s.control) s) w (omega (arith, h))

  leave_keeps :
      (mode : Mode) (ms : List Master) (s : State) (w : ℕ) → load (in_mode mode s) ≤ w → Keeps (leave_next named types mode ms (running s)) w
  leave_keeps mode [] s w h = tt
  leave_keeps mode (m ∷ ms) s w h = master_leaves_fewer mode m.number m.items s w h

  -- What the body of an operation declares that is called.
  abbrev called_operations : List BodyForm → Option ℕ → ℕ
  called_operations bodies None = 0
  called_operations bodies (Some procedure) = body_operations types cost (slice_get bodies procedure)

  operation_keeps :
      (procedure : ℕ) (found : Option BodyForm) (reference : Value) (behind : List (Frame Value)) (event : Event) (s : State) (w : ℕ)
      → stored s + body_operations types cost found + run_operations types cost behind ≤ w
      → Keeps (operation_next named procedure found reference behind event (running s)) w
  operation_keeps procedure None reference behind event s w h = tt
  operation_keeps procedure (Some b) reference behind event s w h = omega (arith, h)

  -- The treatment of an object, where less is left, if an operation is called.
  born_keeps :
      (v : Value) (by : Birth) (done : List Part) (of part : ℕ) (tasks : List Task) (state : Option PartState) (s : State) (w : ℕ)
      → load (running s) + cost of + treats_operations types cost (frame.begins by done) tasks ≤ w
      → Keeps (born_next named v by done of part tasks state (running s)) w
  born_keeps v by done of part tasks None s w h = tt
  born_keeps v by done of part tasks (Some p) s w h =
      let begun : Part = record { of = of; number = part } in
      let begins = treating_operations v (frame.begins by (begun ∷ done)) tasks s.control in
      omega (arith, h, part_fewer (born_part (counted s.born)) part s.heap v, begins, done_more types cost begun done)

  begun_keeps :
      (bodies : List BodyForm) (v : Value) (by : Birth) (done : List Part) (of part : ℕ) (tasks : List Task) (operation : Option ℕ)
      (state : Option PartState) (s : State) (w : ℕ)
      → load (running s) + called_operations bodies operation + cost of + treats_operations types cost (frame.begins by done) tasks ≤ w
      → Keeps (begun_next named bodies v by done of part tasks operation state (running s)) w
  begun_keeps bodies v by done of part tasks operation None s w h = tt
  begun_keeps bodies v by done of part tasks None (Some p) s w h = born_keeps v by done of part tasks (Some p) s w (omega (arith, h))
  begun_keeps bodies v by done of part tasks (Some procedure) (Some p) s w h =
      operation_keeps procedure (slice_get bodies procedure) (part_reference named v part p) (frame.Awaits v by done of part tasks ∷ s.control) Quiet s w
      (omega (arith, h))

  awaited_keeps :
      (v : Value) (by : Birth) (done : List Part) (of part : ℕ) (tasks : List Task) (found : Found (Cell Value)) (s : State) (w : ℕ)
      → load (running s) + cost of + treats_operations types cost (frame.begins by done) tasks ≤ w
      → Keeps (awaited_next named v by done of part tasks found (running s)) w
  awaited_keeps v by done of part tasks on_null s w h = tt
  awaited_keeps v by done of part tasks on_gone s w h = tt
  awaited_keeps v by done of part tasks on_other s w h = tt
  awaited_keeps v by done of part tasks (finds cell) s w h = born_keeps v by done of part tasks (slice_get cell.parts part) s w h

  ended_keeps :
      (bodies : List BodyForm) (v : Value) (part : ℕ) (p : PartState) (behind : List (Frame Value)) (operation : Option ℕ) (event : Event) (s : State) (w : ℕ)
      → stored s + called_operations bodies operation + run_operations types cost behind ≤ w
      → Keeps (ended_next named bodies v part p behind operation event (running s)) w
  ended_keeps bodies v part p behind None event s w h = omega (arith, h)
  ended_keeps bodies v part p behind (Some procedure) event s w h =
      operation_keeps procedure (slice_get bodies procedure) (part_reference named v part p) (frame.Confines ∷ behind) event s w (omega (arith, h))

  finalized_keeps :
      (bodies : List BodyForm) (v : Value) (cause : Cause) (of part : ℕ) (tasks : List Task) (operation : Option ℕ)
      (state : Option PartState) (s : State) (w : ℕ)
      → load (running s) + called_operations bodies operation + tasks_cost types cost tasks ≤ w
      → Keeps (finalized_next named bodies v cause of part tasks operation state (running s)) w
  finalized_keeps bodies v cause of part tasks operation None s w h = tt
  finalized_keeps bodies v cause of part tasks operation (Some p) s w h = by_life p.alive
    where
      behind : List (Frame Value)
      behind = treating v (frame.ends cause) tasks s.control

      event : Event
      event = Finalized v part p.turn of p.number cause

      by_life :
          (alive : Bool)
          → Keeps
          (if alive then ended_next named bodies v part p behind operation event (running (record s { heap = finalize s.heap v part }))
          else halts (Erroneous FinalizesTwice)) w
      by_life true =
          ended_keeps bodies v part p behind operation event (record s { heap = finalize s.heap v part }) w
          (omega (arith, h, part_fewer finalized_part part s.heap v, treating_operations v (frame.ends cause) tasks s.control))
      by_life false = tt

  -- A call of an operation costs more than what the declarations of its body create.
  abbrev CostsCover : List BodyForm → Type 0
  CostsCover bodies = (n : ℕ) →
      (called_operations bodies (procedure_number (operations_of types n).initialize) < cost n)
      × (called_operations bodies (procedure_number (operations_of types n).adjust) < cost n)
      × (called_operations bodies (procedure_number (operations_of types n).finalize) < cost n)

  beginning_covered :
      (bodies : List BodyForm) (by : Birth) (n : ℕ) → CostsCover bodies → called_operations bodies (beginning by (operations_of types n)) < cost n
  beginning_covered bodies Creation n covers = (covers n).0
  beginning_covered bodies Copy n covers = (covers n).1
  beginning_covered bodies (Adjustment number) n covers = (covers n).1

  performed_keeps :
      (bodies : List BodyForm) (v : Value) (treatment : Treatment) (of part : ℕ) (tasks : List Task) (found : Found (Cell Value)) (s : State) (w : ℕ)
      → CostsCover bodies
      → load (running s) + treats_operations types cost treatment (performs of part ∷ tasks) ≤ w + called (task_calls types treatment (Perform of part))
      → Keeps (performed_next named types bodies v treatment of part tasks found (running s)) w
  performed_keeps bodies v treatment of part tasks on_null s w covers h = tt
  performed_keeps bodies v treatment of part tasks on_gone s w covers h = tt
  performed_keeps bodies v treatment of part tasks on_other s w covers h = tt
  performed_keeps bodies v (frame.begins by done) of part tasks (finds cell) s w covers h =
      let operation = beginning by (operations_of types of) in
      begun_keeps bodies v by done of part tasks operation (slice_get cell.parts part) s w
      (omega (arith, h, called_once (is_some operation), beginning_covered bodies by of covers))
  performed_keeps bodies v (frame.ends cause) of part tasks (finds cell) s w covers h =
      let operation = (operations_of types of).finalize in
      finalized_keeps bodies v cause of part tasks (procedure_number operation) (slice_get cell.parts part) s w
      (omega (arith, h, called_once (is_some operation), (covers of).2))

  picked_keeps :
      (none : Bool) (count : ℕ) (taking : ℕ → State) (w : ℕ) → ((i : ℕ) → i < count → load (taking i) ≤ w)
      → Keeps (if none then halts Stuck else picks count taking) w
  picked_keeps true count taking w fewer = tt
  picked_keeps false count taking w fewer = fewer

  -- What is left once a component is picked.
  picked_fewer :
      (treatment : Treatment) (cs : List Component) (tasks : List Task) (i : ℕ) → i < length cs
      → treats_operations types cost treatment (picked_task (shapes_of types) (direction_of treatment) (treats cs ∷ tasks) i)
      ≤ treats_operations types cost treatment (treats cs ∷ tasks)
  picked_fewer (frame.begins by done) cs tasks i lt = omega (arith, picked_within types cost PartsFirst cs tasks i lt)
  picked_fewer (frame.ends cause) cs tasks i lt = omega (arith, picked_within types cost WholeFirst cs tasks i lt)

  picks_none : (treatment : Treatment) (count : ℕ) → task_calls types treatment (Pick count) ≡ false
  picks_none (frame.begins by done) count = refl
  picks_none (frame.ends cause) count = refl

  ends_none : (treatment : Treatment) → task_calls types treatment Done ≡ false
  ends_none (frame.begins by done) = refl
  ends_none (frame.ends cause) = refl

  treats_keeps :
      (bodies : List BodyForm) (v : Value) (treatment : Treatment) (tasks : List Task) (s : State) (w : ℕ) → CostsCover bodies
      → load (running s) + treats_operations types cost treatment tasks ≤ w + called (task_calls types treatment (task_next tasks))
      → Keeps (treats_next named types bodies v treatment tasks (task_next tasks) (running s)) w
  treats_keeps bodies v treatment [] s w covers h = omega (arith, h, ap called (ends_none treatment))
  treats_keeps bodies v treatment (performs of part ∷ tasks) s w covers h =
      performed_keeps bodies v treatment of part tasks (look s.heap v) s w covers h
  treats_keeps bodies v treatment (treats [] ∷ tasks) s w covers h = tt
  treats_keeps bodies v treatment (treats (c ∷ cs) ∷ tasks) s w covers h =
      let left : ℕ → List Task = λ i. picked_task (shapes_of types) (direction_of treatment) (treats (c ∷ cs) ∷ tasks) i in
      picked_keeps (length (c ∷ cs) == 0) (length (c ∷ cs)) (λ i. treated_on named v treatment (left i) (running s)) w (λ i lt.
      omega (arith, h, ap called (picks_none treatment (length (c ∷ cs))), treating_operations v treatment (left i) s.control, picked_fewer treatment (c ∷ cs) tasks i lt))

  -- Each frame that is taken off, unless a statement begins.
  frame_keeps :
      (bodies : List BodyForm) (f : Frame Value) (s : State) (w : ℕ) → begins_by f ≡ false → CostsCover bodies
      → stored s + run_operations types cost (f ∷ s.control) ≤ w + called (frame_calls types f) → Keeps (frame_next named types bodies f (running s)) w
  frame_keeps bodies (frame.Elaborates ds fs hs) s w b covers h = declarations_keep ds fs hs s w (omega (arith, h))
  frame_keeps bodies (frame.Does no_stmts) s w b covers h = omega (arith, h)
  frame_keeps bodies (frame.Does (a_stmt f fs)) s w b covers h = absurd (cc)
  frame_keeps bodies (frame.Decides fs branches) s w b covers h =
      decided_keeps fs branches (reads_boolean (newest named s)) (popped s) w (omega (arith, h))
  frame_keeps bodies (frame.Repeats condition fs) s w b covers h = repeats_keep condition fs s w (omega (arith, h))
  frame_keeps bodies (frame.Turns condition fs) s w b covers h = turned_keeps condition fs (reads_boolean (newest named s)) (popped s) w (omega (arith, h))
  frame_keeps bodies (frame.Ranges x fs) s w b covers h =
      ranges_keep x fs (reads_integer (newest named (popped s))) (reads_integer (newest named s)) (popped (popped s)) w (omega (arith, h))
  frame_keeps bodies (frame.Counts x value last fs) s w b covers h = counts_keep x value last fs s w (omega (arith, h))
  frame_keeps bodies frame.Exits s w b covers h = exited_keeps (reads_boolean (newest named s)) (popped s) w (omega (arith, h))
  frame_keeps bodies (frame.Handles hs) s w b covers h = omega (arith, h)
  frame_keeps bodies frame.Closes s w b covers h = omega (arith, h)
  frame_keeps bodies (frame.Leaves mode) s w b covers h = leave_keeps mode s.masters s w (omega (arith, h))
  frame_keeps bodies (frame.Calls procedure body actuals) s w b covers h =
      omega (arith, h)
  frame_keeps bodies (frame.Returns actuals references) s w b covers h = omega (arith, h, storing_operations references s.control)
  frame_keeps bodies (frame.Evaluates right) s w b covers h = right_keeps right s w (omega (arith, h))
  frame_keeps bodies (frame.Computes e) s w b covers h = expression_keeps e s w (omega (arith, h))
  frame_keeps bodies (frame.Follows cs) s w b covers h = path_keeps cs (newest named s) (popped s) w (omega (arith, h))
  frame_keeps bodies (frame.TestsNull equal) s w b covers h = null_test_keeps equal (reads_null (newest named s)) (popped s) w (omega (arith, h))
  frame_keeps bodies (frame.Refers p) s w b covers h =
      record_holder_keeps p (λ place. frame.RefersIn place p.record_type) s w (λ place. omega arith) (omega (arith, h))
  frame_keeps bodies (frame.RefersIn place t) s w b covers h =
      refers_keep (newest named s) place (width_of types t) (look s.heap (newest named s)) (popped s) w (omega (arith, h))
  frame_keeps bodies (frame.Opens path) s w b covers h = open_keeps path.selectors path.root s w (omega (arith, h))
  frame_keeps bodies (frame.OpensIn c) s w b covers h = opens_keep (newest named s) c (look s.heap (newest named s)) (popped s) w (omega (arith, h))
  frame_keeps bodies (frame.Continues links) s w b covers h = links_keep links s w (omega (arith, h))
  frame_keeps bodies (frame.Applies operator) s w b covers h =
      outcome_keeps (binary_given operator (newest named (popped s)) (newest named s)) (popped (popped s)) w (omega (arith, h))
  frame_keeps bodies (frame.AppliesAlone operator) s w b covers h = outcome_keeps (unary_given operator (newest named s)) (popped s) w (omega (arith, h))
  frame_keeps bodies (frame.Fills items) s w b covers h = items_keep items s w (omega (arith, h))
  frame_keeps bodies (frame.Copies first t) s w b covers h =
      copies_keep (newest named s) first (width_of types t) (look s.heap (newest named s)) (popped s) w (omega (arith, h))
  frame_keeps bodies (frame.Creates access count) s w b covers h =
      new_keeps access count (words_of types access) (home_of access s.masters) s w (omega (arith, h))
  frame_keeps bodies (frame.Stores x) s w b covers h = omega (arith, h)
  frame_keeps bodies (frame.Targets c right) s w b covers h =
      target_keeps (newest named s) c right (look s.heap (newest named s)) (popped s) w (omega (arith, h))
  frame_keeps bodies (frame.StoresIn object c) s w b covers h =
      store_keeps object c (newest named s) (look s.heap object) (popped s) w (omega (arith, h))
  frame_keeps bodies (frame.TargetsRecord first t items) s w b covers h =
      record_target_keeps (newest named s) first (width_of types t) items (look s.heap (newest named s)) (popped s) w (omega (arith, h))
  frame_keeps bodies (frame.StoresRecord object first count) s w b covers h =
      store_record_keeps object first count (look s.heap object) s w (omega (arith, h))
  frame_keeps bodies (frame.Assigns t) s w b covers h =
      let target = newest named (popped s) in
      let source = newest named s in
      assigns_keep t target source (same target source) (popped (popped s)) w (omega (arith, h))
  frame_keeps bodies (frame.Receives c) s w b covers h =
      receive_keeps (newest named s) c (look s.heap (newest named s)) (popped s) w (omega (arith, h))
  frame_keeps bodies (frame.FreesIn access c) s w b covers h =
      free_in_keeps access (newest named s) c (look s.heap (newest named s)) (popped s) w (omega (arith, h))
  frame_keeps bodies (frame.Declares x) s w b covers h = omega (arith, h)
  frame_keeps bodies (frame.DeclaresRecord x t) s w b covers h =
      made_keeps x t Copy (newest_ones named (words_of types t) s) (without_newest named (words_of types t) s) w (omega (arith, h))
  frame_keeps bodies (frame.Treats v treatment tasks) s w b covers h = treats_keeps bodies v treatment tasks s w covers (omega (arith, h))
  frame_keeps bodies (frame.Awaits v by done of part tasks) s w b covers h =
      awaited_keeps v by done of part tasks (look s.heap v) s w (omega (arith, h))
  frame_keeps bodies frame.Confines s w b covers h = omega (arith, h)
  frame_keeps bodies (frame.Resumes mode) s w b covers h = omega (arith, h)
  frame_keeps bodies frame.Writes s w b covers h = line_keeps (reads_integer (newest named s)) (popped s) w (omega (arith, h))
  frame_keeps bodies (frame.Ends v) s w b covers h = end_keeps v (look s.heap v) s w (omega (arith, h))
  frame_keeps bodies (frame.GivesBack v cause pool) s w b covers h = back_keeps v cause pool (lent s.heap v) s w (omega (arith, h))
  frame_keeps bodies (frame.Clears x) s w b covers h = omega (arith, h)
  frame_keeps bodies (frame.ClearsIn object c) s w b covers h = store_keeps object c Null (look s.heap object) s w (omega (arith, h))

  running_keeps :
      (bodies : List BodyForm) (k : List (Frame Value)) (s : State) (w : ℕ) → begins_among k ≡ false → CostsCover bodies
      → stored s + run_operations types cost k ≤ w + called (calls_among types k) → Keeps (running_next named types bodies k (running s)) w
  running_keeps bodies [] s w b covers h = tt
  running_keeps bodies (f ∷ k) s w b covers h = frame_keeps bodies f (at k s) w b covers h

  -- Where a jump comes out of an operation, what has begun of its object is undone, or the run ends.
  done_costs : (done : List Part) → tasks_cost types cost (map (λ p. performs p.of p.number) done) ≡ done_cost types cost done
  done_costs [] = refl
  done_costs (p ∷ done) = omega (arith, done_costs done, done_more types cost p done)

  undo_keeps :
      (e : Exception) (v : Value) (done : List Part) (found : Found (Cell Value)) (s : State) (w : ℕ)
      → stored s + passed_operations types cost s.control + done_cost types cost done ≤ w → Keeps (undo_next named e v done found (in_mode (Raising e) s)) w
  undo_keeps e v done on_null s w h = tt
  undo_keeps e v done on_gone s w h = tt
  undo_keeps e v done on_other s w h = tt
  undo_keeps e v done (finds cell) s w h =
      let behind = frame.Ends v ∷ frame.GivesBack v (Undoing s.next) cell.home.pool ∷ frame.Resumes (Raising e) ∷ s.control in
      let finalizes = treating_operations v (frame.ends (Undoing s.next)) (map (λ p. performs p.of p.number) done) behind in
      omega (arith, h, parted_fewer s.heap v, finalizes, done_costs done)

  broken_keeps :
      (e : Exception) (v : Value) (by : Birth) (done : List Part) (s : State) (w : ℕ)
      → stored s + passed_operations types cost s.control + done_cost types cost done ≤ w → Keeps (broken_next named e v by done (in_mode (Raising e) s)) w
  broken_keeps e v Creation done s w h = undo_keeps e v done (look s.heap v) s w h
  broken_keeps e v Copy done s w h = tt
  broken_keeps e v (Adjustment number) done s w h = tt

  -- A frame that an exception passes: a master is to be left before, it lands in handlers alone, and what it undoes is counted.
  abbrev LandsIn : (handlers : Bool) → (undone : ℕ) → Landing Value → Type 0
  LandsIn handlers undone passes_on = Unit {0}
  LandsIn handlers undone goes_behind = ⊥
  LandsIn handlers undone (goes_in fs) = handlers ≡ true
  LandsIn handlers undone (breaks_off v by done) = undone ≡ done_cost types cost done
  LandsIn handlers undone escapes = Unit {0}

  handler_lands : (undone : ℕ) (taken : Option StmtsForm) → LandsIn true undone (handler_landing taken)
  handler_lands undone None = tt
  handler_lands undone (Some fs) = refl

  exception_lands : (e : Exception) (f : Frame Value) → LandsIn (has_handlers f) (pass_operations types cost f) (exception_landing e f)
  exception_lands e (frame.Handles hs) = handler_lands 0 (handler_of e hs)
  exception_lands e (frame.Awaits v by done of part tasks) = refl
  exception_lands e f = tt

  raise_keeps :
      (master handlers : Bool) (undone : ℕ) (l : Landing Value) (e : Exception) (s : State) (w : ℕ) → LandsIn handlers undone l
      → load (in_mode (Raising e) s) + undone ≤ w
      → Keeps (pass_next named master l (Raising e) (in_mode (Raising e) s)) w
  raise_keeps true handlers undone l e s w lands h = omega (arith, h)
  raise_keeps false true undone passes_on e s w lands h = omega (arith, h)
  raise_keeps false true undone goes_behind e s w lands h = absurd lands
  raise_keeps false true undone (goes_in no_stmts) e s w lands h = tt
  raise_keeps false true undone (goes_in (a_stmt f fs)) e s w lands h = omega (arith, h)
  raise_keeps false true undone (breaks_off v by done) e s w lands h = broken_keeps e v by done s w (omega (arith, h, lands))
  raise_keeps false true undone escapes e s w lands h = tt
  raise_keeps false false undone passes_on e s w lands h = omega (arith, h)
  raise_keeps false false undone goes_behind e s w lands h = absurd lands
  raise_keeps false false undone (goes_in fs) e s w lands h = absurd (cc)
  raise_keeps false false undone (breaks_off v by done) e s w lands h = broken_keeps e v by done s w (omega (arith, h, lands))
  raise_keeps false false undone escapes e s w lands h = tt

  -- A frame that an exit or a return passes: behind a loop, or behind the end of a call's body, it lands; out of an operation it doesn't come.
  abbrev LandsNowhere : Landing Value → Type 0
  LandsNowhere passes_on = Unit {0}
  LandsNowhere goes_behind = ⊥
  LandsNowhere (goes_in fs) = ⊥
  LandsNowhere (breaks_off v by done) = Unit {0}
  LandsNowhere escapes = Unit {0}

  operation_lands : (f : Frame Value) → LandsNowhere (operation_landing f)
  operation_lands (frame.Awaits v by done of part tasks) = tt
  operation_lands frame.Confines = tt
  operation_lands f = tt

  nowhere_exits :
      (l : Landing Value) (s : State) (w : ℕ) → LandsNowhere l → stored s + exit_operations types cost s.control ≤ w
      → Keeps (landed named l Exiting (in_mode Exiting s)) w
  nowhere_exits passes_on s w lands h = h
  nowhere_exits goes_behind s w lands h = absurd lands
  nowhere_exits (goes_in fs) s w lands h = absurd lands
  nowhere_exits (breaks_off v by done) s w lands h = tt
  nowhere_exits escapes s w lands h = tt

  nowhere_returns :
      (l : Landing Value) (s : State) (w : ℕ) → LandsNowhere l → stored s + return_operations types cost s.control ≤ w
      → Keeps (landed named l Returning (in_mode Returning s)) w
  nowhere_returns passes_on s w lands h = h
  nowhere_returns goes_behind s w lands h = absurd lands
  nowhere_returns (goes_in fs) s w lands h = absurd lands
  nowhere_returns (breaks_off v by done) s w lands h = tt
  nowhere_returns escapes s w lands h = tt

  exit_keeps :
      (master loop : Bool) (l : Landing Value) (s : State) (w : ℕ) → (master ≡ true → loop ≡ false) → LandsNowhere l
      → stored s + (if loop then run_operations types cost s.control else exit_operations types cost s.control) ≤ w
      → Keeps (pass_next named master (if loop then goes_behind else l) Exiting (in_mode Exiting s)) w
  exit_keeps true true l s w apart lands h = let never : true ≡ false = apart refl in absurd (cc)
  exit_keeps true false l s w apart lands h = omega (arith, h)
  exit_keeps false true l s w apart lands h = h
  exit_keeps false false l s w apart lands h = nowhere_exits l s w lands h

  return_keeps :
      (master ends : Bool) (l : Landing Value) (s : State) (w : ℕ) → (master ≡ true → ends ≡ false) → LandsNowhere l
      → stored s + (if ends then run_operations types cost s.control else return_operations types cost s.control) ≤ w
      → Keeps (pass_next named master (if ends then goes_behind else l) Returning (in_mode Returning s)) w
  return_keeps true true l s w apart lands h = let never : true ≡ false = apart refl in absurd (cc)
  return_keeps true false l s w apart lands h = omega (arith, h)
  return_keeps false true l s w apart lands h = h
  return_keeps false false l s w apart lands h = nowhere_returns l s w lands h

  -- Where a frame is passed, no more is left than was left.
  raised_left : (e : Exception) (f : Frame Value) (s : State) → (unwound named (Raising e) f s).control ≡ s.control
  raised_left e (frame.Returns actuals references) s = refl
  raised_left e f s = refl

  exited_left : (f : Frame Value) (s : State) → (unwound named Exiting f s).control ≡ s.control
  exited_left (frame.Returns actuals references) s = refl
  exited_left f s = refl

  -- What is left where an exit, or a return, has passed a frame.
  abbrev behind_exit : (loop : Bool) → List (Frame Value) → ℕ
  behind_exit loop k = if loop then run_operations types cost k else exit_operations types cost k

  abbrev behind_return : (ends : Bool) → List (Frame Value) → ℕ
  behind_return ends k = if ends then run_operations types cost k else return_operations types cost k

  returned_left :
      (f : Frame Value) (s : State) → behind_return (is_return f) (unwound named Returning f s).control ≤ behind_return (is_return f) s.control
  returned_left (frame.Returns actuals references) s = omega (arith, storing_operations references s.control)
  returned_left f s = omega arith

  -- What is left to do, in each mode: one less, where an operation is called.
  control_keeps :
      (bodies : List BodyForm) (mode : Mode) (k : List (Frame Value)) (s : State) (w : ℕ) → CostsCover bodies → begins_in mode k ≡ false
      → load (in_mode mode (at k s)) ≤ w + called (calls_in types mode k) → s.control ≡ k
      → Keeps (mode_next named types bodies mode (in_mode mode s)) w
  control_keeps bodies Running k s w covers b h is = rw is (running_keeps bodies k (at k s) w b covers h)
  control_keeps bodies (Raising e) [] s w covers b h is = rw is tt
  control_keeps bodies (Raising e) (f ∷ k) s w covers b h is =
      rw (is, unwound_by (Raising e) f (in_mode (Raising e) (at k s)))
      (raise_keeps (is_master f) (has_handlers f) (pass_operations types cost f) (exception_landing e f) e (unwound_to (Raising e) f (in_mode (Raising e) (at k s))) w (exception_lands e f)
      (omega (arith, h, ap (passed_operations types cost) (raised_left e f (in_mode (Raising e) (at k s))))))
  control_keeps bodies Exiting [] s w covers b h is = rw is tt
  control_keeps bodies Exiting (f ∷ k) s w covers b h is =
      rw (is, unwound_by Exiting f (in_mode Exiting (at k s)))
      (exit_keeps (is_master f) (is_loop f) (operation_landing f) (unwound_to Exiting f (in_mode Exiting (at k s))) w (master_no_loop f)
      (operation_lands f)
      (omega (arith, h, ap (behind_exit (is_loop f)) (exited_left f (in_mode Exiting (at k s))))))
  control_keeps bodies Returning [] s w covers b h is = rw is tt
  control_keeps bodies Returning (f ∷ k) s w covers b h is =
      rw (is, unwound_by Returning f (in_mode Returning (at k s)))
      (return_keeps (is_master f) (is_return f) (operation_landing f) (unwound_to Returning f (in_mode Returning (at k s))) w
      (master_no_return f) (operation_lands f)
      (omega (arith, h, returned_left f (in_mode Returning (at k s)))))

  next_keeps :
      (bodies : List BodyForm) (s : State) (w : ℕ) → CostsCover bodies → begins s ≡ false → load s ≤ w + called (calls_operation types s)
      → Keeps (next types bodies s) w
  unfolding next
  next_keeps bodies s w covers b h = control_keeps bodies s.mode s.control s w covers b h refl

  -- Where an operation is called, one is left.
  pub costs_some : (bodies : List BodyForm) (n : ℕ) → CostsCover bodies → 1 ≤ cost n
  costs_some bodies n covers = omega (arith, (covers n).0)

  task_called :
      (bodies : List BodyForm) (treatment : Treatment) (tasks : List Task) → CostsCover bodies
      → called (task_calls types treatment (task_next tasks)) ≤ treats_operations types cost treatment tasks
  task_called bodies treatment [] covers = omega (arith, ap called (ends_none treatment))
  task_called bodies treatment (treats cs ∷ tasks) covers = omega (arith, ap called (picks_none treatment (length cs)))
  task_called bodies (frame.begins by done) (performs of part ∷ tasks) covers =
      omega (arith, called_once (is_some (beginning by (operations_of types of))), costs_some bodies of covers)
  task_called bodies (frame.ends cause) (performs of part ∷ tasks) covers =
      omega (arith, called_once (is_some (operations_of types of).finalize), costs_some bodies of covers)

  frame_called : (bodies : List BodyForm) (f : Frame Value) → CostsCover bodies → called (frame_calls types f) ≤ frame_operations types cost f
  frame_called bodies (frame.Treats v treatment tasks) covers = task_called bodies treatment tasks covers
  frame_called bodies f covers = omega arith

  among_called : (bodies : List BodyForm) (k : List (Frame Value)) → CostsCover bodies → called (calls_among types k) ≤ run_operations types cost k
  among_called bodies [] covers = omega arith
  among_called bodies (f ∷ k) covers = omega (arith, frame_called bodies f covers)

  state_called :
      (bodies : List BodyForm) (mode : Mode) (s : State) → CostsCover bodies → s.mode ≡ mode → called (calls_in types mode s.control) ≤ load (in_mode mode s)
  state_called bodies Running s covers is = omega (arith, among_called bodies s.control covers)
  state_called bodies (Raising e) s covers is = omega arith
  state_called bodies Exiting s covers is = omega arith
  state_called bodies Returning s covers is = omega arith

  leads_fewer : (coming : Next) (choice : Choice) (event : Event) (w : ℕ) (after : State) → Keeps coming w → Leads coming choice event after → load after ≤ w
  leads_fewer (halts halt) choice event w after h l = absurd l
  leads_fewer (moves e s) settled event w after h l = rw (l.1) h
  leads_fewer (moves e s) (grants granted) event w after h l = absurd l
  leads_fewer (moves e s) (takes i) event w after h l = absurd l
  leads_fewer (tells request e s) settled event w after h l = rw (l.1) h
  leads_fewer (tells request e s) (grants granted) event w after h l = absurd l
  leads_fewer (tells request e s) (takes i) event w after h l = absurd l
  leads_fewer (asks request answers) settled event w after h l = absurd l
  leads_fewer (asks request answers) (grants granted) event w after h l = rw (l.1) (h granted)
  leads_fewer (asks request answers) (takes i) event w after h l = absurd l
  leads_fewer (picks n taking) settled event w after h l = absurd l
  leads_fewer (picks n taking) (grants granted) event w after h l = absurd l
  leads_fewer (picks n taking) (takes i) event w after h l = rw (l.2) (h i l.0)

  step_fewer :
      (bodies : List BodyForm) (s : State) (choice : Choice) (event : Event) (after : State) → CostsCover bodies → begins s ≡ false
      → Leads (next types bodies s) choice event after → load after + called (calls_operation types s) ≤ load s
  step_fewer bodies s choice event after covers b leads =
      let some : called (calls_operation types s) ≤ load s = state_called bodies s.mode s covers refl in
      let left = load s - called (calls_operation types s) in
      let fewer = leads_fewer (next types bodies s) choice event left after (next_keeps bodies s left covers b (omega (arith, some))) leads in
      omega (arith, some, fewer)

-- Where declarations settle, a call costs more than what the declarations of each body create that it may enter.
operation_called :
    (types : List TypeDefinition) (cost : (of : ℕ) → ℕ) (bodies : List BodyForm) (operation : Option ProcedureNo)
    → called_operations types cost bodies (procedure_number operation) ≡ operation_operations types cost bodies operation
operation_called types cost bodies None = refl
operation_called types cost bodies (Some procedure) = refl

pub costs_cover : (types : List TypeDefinition) (bodies : List BodyForm) → DeclarationsSettle types bodies → CostsCover types (full_cost types bodies) bodies
costs_cover types bodies settle n =
    let o = operations_of types n in
    let i = operation_called types (full_cost types bodies) bodies o.initialize in
    let a = operation_called types (full_cost types bodies) bodies o.adjust in
    let f = operation_called types (full_cost types bodies) bodies o.finalize in
    let all : 1 + type_operations types (full_cost types bodies) bodies o ≤ full_cost types bodies n = settle n in
    (omega (arith, i, all), omega (arith, a, all), omega (arith, f, all))

-- No step leaves more operations to be called.
pub operations_grow_fewer : OperationsGrowFewer
unfolding operations_left
operations_grow_fewer program s choice event after settle b step =
    let types = program.types.items in
    let bodies = body_forms program in
    step_fewer types (full_cost types bodies) bodies s choice event after (costs_cover types bodies settle) b step
