-- Each step of code does so.

use Rattle.std.proofs.Common.{◌≡◌, ℕ, ◌+◌, ℤ, Bool, true, false, List, [], ◌∷◌, Option, Some, None, Result, Ok, Err, refl, sym, ap, ◌∙◌}
use Rattle.std.specs.Prelude.{int_le}
use Rattle.std.specs.List.{slice_get}
use Rattle.ada_program.specs.declared.program.TypeDefinition.{TypeDefinition}
use Rattle.ada_program.specs.Form.{RecordPathForm, ActualForm, in_value, in_null, in_access, in_record, in_out_path, in_out_access, in_out_component, in_out_record, ExpressionForm, integer, boolean, reads, is_null, applied_to, chained, LinksForm, no_more_links, a_link, ItemForm, null_item, item_of_path, item_of_value, item_of_record, RightForm, nothing, value_of, allocates, allocates_default, computes, StmtForm, skips, assigns, assigns_record, frees, gets, writes, writes_text, chooses, repeats, counts, exits, calls, raises, encloses, StmtsForm, no_stmts, a_stmt, BranchesForm, otherwise, a_branch, HandlersForm, DeclarationForm, creates_pool, collects, declares, declares_record}
use Rattle.ada_program.specs.Form as form
use Rattle.ada_program.specs.ProgramForm.{BodyForm}
use Rattle.ada_program.specs.Typed.{words_of, width_of, pool_named}
use Rattle.ada_program.specs.Controlled.{number_reached, part_firsts}
use Rattle.ada_values.specs.declared.operator.BinaryOperator.{BinaryOperator}
use Rattle.ada_values.specs.declared.fault.OperatorFault.{OperatorFault}
use Rattle.ada_values.specs.declared.fault.OperatorFault.TheVariants.{Overflow, DivisionByZero, WrongType}
use Rattle.ada_meaning.specs.declared.event.Birth.TheVariants.{Creation, Copy}
use Rattle.ada_meaning.specs.declared.state.Place.{Place}
use Rattle.ada_meaning.specs.declared.state.Value.{Value}
use Rattle.ada_meaning.specs.declared.state.Value.TheVariants.{Null}
use Rattle.ada_meaning.specs.Event.{Followed, Quiet}
use Rattle.ada_meaning.specs.Frame.{Frame}
use Rattle.ada_meaning.specs.Frame as frame
use Rattle.ada_meaning.specs.State.{declared, collection, storage_pool, Destination, home_of, pools_in, pool_for, pool_freed_to}
use Rattle.ada_meaning.specs.Heap.{Cell, Found, on_null, on_gone, on_other, finds}
use Rattle.ada_meaning.specs.Step.{has_parts, copy_next, record_assign_next, same_pool, freeing_next, new_cell, record_in, newest_ones, without_newest, copied_next, copies_next, record_target_next, record_stored_next, store_record_next, record_next, at, popped, held, newest, reading, component_next, follow_next, path_next, selected, named_next, holder_next, place_in, record_holder_next, referred_next, refers_next, open_next, opened_next, opens_next, expression_next, null_test_next, is_decided, link_next, links_next, outcome_next, item_next, items_next, answered, new_next, right_next, free_next, before_last, last_of, assign_next, target_next, stored_next, store_next, received_next, receive_next, frees_next, freed_next, free_component_next, free_in_next, branches_next, decided_next, turn_next, repeats_next, turned_next, count_turn_next, counts_next, ranges_next, gets_next, exit_next, exited_next, call_next, stmt_next, stmts_next, line_next, declaration_next, declarations_next, frame_next}
use Rattle.ada_meaning.specs.Named.{State, an_integer, Next, named, whole, inside, look, standing, reads_boolean, reads_null, reads_integer, unary_given, binary_given}
use Rattle.ada_meaning.specs.Run.{Event}
use Rattle.ada_meaning.proofs.Kept.{IsWithin}
use Rattle.ada_storage.specs.State as storage
use Rattle.ada_following.specs.Reading.{event_seen}
use Rattle.ada_following.proofs.Frames.{Control, IsCode, Over, turned, more}
use Rattle.ada_following.proofs.Deeds.{Work, stays, fills, owns, makes, creates, enters, gives_up, seeks, Does, computing_over}

module _ (types : List TypeDefinition) (b : Control) where
  -- A step of code from this state.
  abbrev pub Works : State → Next → Type 0
  Works s coming = Does (Work types b s.masters s.next s.heap s.mode) coming

  -- Paths and expressions.
  reading_works : (cs : List ℕ) (v : Value) (e : Event) (s : State) → event_seen e ≡ storage.quiet → Over b s.control → Work types b s.masters s.next s.heap s.mode e (reading named cs v s)
  reading_works [] v e s h p = stays h p refl refl refl
  reading_works (c ∷ cs) v e s h p = stays h (more tt p) refl refl refl

  component_works : (v : Value) (cs : List ℕ) (found : Option Value) (s : State) → Over b s.control → Works s (component_next named v cs found s)
  component_works v cs None s p = λ e. e
  component_works v cs (Some u) s p = reading_works cs u _ s refl p

  follow_works : (v : Value) (c : ℕ) (cs : List ℕ) (found : Found (Cell Value)) (s : State) → Over b s.control → Works s (follow_next named v c cs found s)
  follow_works v c cs on_null s p = stays refl p refl refl refl
  follow_works v c cs on_gone s p = λ e. e
  follow_works v c cs on_other s p = λ e. e
  follow_works v c cs (finds cell) s p = component_works v cs (slice_get cell.values c) s p

  path_works : (cs : List ℕ) (v : Value) (s : State) → Over b s.control → Works s (path_next named cs v s)
  path_works [] v s p = stays refl p refl refl refl
  path_works (c ∷ cs) v s p = follow_works v c cs (look s.heap v) s p

  -- Where a path begins.
  named_works : (cs : List ℕ) (x : ℕ) (s : State) → Over b s.control → Works s (named_next named cs x s)
  named_works cs x s p = path_works (selected named (held named s x) cs) (whole (held named s x)) s p

  holder_works : (c : ℕ) (cs : List ℕ) (x : ℕ) (frame_of : ℕ → Frame Value) (s : State) → ((n : ℕ) → IsCode (frame_of n)) → Over b s.control → Works s (holder_next named c cs x frame_of s)
  holder_works c cs x frame_of s plain p =
      path_works (before_last (inside (held named s x) c) cs) (whole (held named s x))
      (at (frame_of (last_of (inside (held named s x) c) cs) ∷ s.control) s) (more (plain (last_of (inside (held named s x) c) cs)) p)

  record_holder_works : (r : RecordPathForm) (frame_of : Place → Frame Value) (s : State) → ((place : Place) → IsCode (frame_of place)) → Over b s.control → Works s (record_holder_next named r frame_of s)
  record_holder_works r frame_of s plain p =
      path_works (selected named (held named s r.object.root) r.object.selectors) (whole (held named s r.object.root))
      (at (frame_of (place_in named (held named s r.object.root) r.object.selectors r) ∷ s.control) s)
      (more (plain (place_in named (held named s r.object.root) r.object.selectors r)) p)

  expression_works : (e : ExpressionForm) (s : State) → Over b s.control → Works s (expression_next named e s)
  expression_works (integer i) s p = stays refl p refl refl refl
  expression_works (boolean b) s p = stays refl p refl refl refl
  expression_works (reads path) s p = named_works path.selectors path.root s p
  expression_works (is_null equal path) s p = named_works path.selectors path.root (at (frame.TestsNull equal ∷ s.control) s) (more tt p)
  expression_works (applied_to operator e) s p = stays refl (more tt (more tt p)) refl refl refl
  expression_works (chained e links) s p = stays refl (more tt (more tt p)) refl refl refl

  null_test_works : (equal : Bool) (null : Option Bool) (s : State) → Over b s.control → Works s (null_test_next named equal null s)
  null_test_works equal None s p = λ e. e
  null_test_works true (Some null) s p = stays refl p refl refl refl
  null_test_works false (Some null) s p = stays refl p refl refl refl

  link_works : (decided : Bool) (operator : BinaryOperator) (e : ExpressionForm) (links : LinksForm) (s : State) → Over b s.control → Works s (link_next named decided operator e links s)
  link_works true operator e links s p = stays refl (more tt p) refl refl refl
  link_works false operator e links s p = stays refl (more tt (more tt (more tt p))) refl refl refl

  links_work : (links : LinksForm) (s : State) → Over b s.control → Works s (links_next named links s)
  links_work no_more_links s p = stays refl p refl refl refl
  links_work (a_link operator e links) s p = link_works (is_decided named operator (reads_boolean (newest named s))) operator e links s p

  outcome_works : (outcome : Result Value OperatorFault) (s : State) → Over b s.control → Works s (outcome_next named outcome s)
  outcome_works (Ok v) s p = stays refl p refl refl refl
  outcome_works (Err Overflow) s p = stays refl p refl refl refl
  outcome_works (Err DivisionByZero) s p = stays refl p refl refl refl
  outcome_works (Err WrongType) s p = λ e. e

  -- Allocators, and what is assigned.
  item_works : (item : ItemForm) (s : State) → Over b s.control → Works s (item_next named item s)
  item_works null_item s p = stays refl p refl refl refl
  item_works (item_of_path path) s p = named_works path.selectors path.root s p
  item_works (item_of_value e) s p = stays refl (more tt p) refl refl refl
  item_works (item_of_record r) s p = record_holder_works r (λ place. frame.Copies place.component r.record_type) s (λ n. tt) p

  items_work : (items : List ItemForm) (s : State) → Over b s.control → Works s (items_next named items s)
  items_work [] s p = stays refl p refl refl refl
  items_work (i ∷ is) s p = item_works i (at (frame.Fills is ∷ s.control) s) (more tt p)

  -- A record that is copied.
  copied_works : (o : Value) (found : Option (List Value)) (s : State) → Over b s.control → Works s (copied_next named o found s)
  copied_works o None s p = λ e. e
  copied_works o (Some vs) s p = stays refl p refl refl refl

  copies_work : (o : Value) (first count : ℕ) (found : Found (Cell Value)) (s : State) → Over b s.control → Works s (copies_next named o first count found s)
  copies_work o first count on_null s p = stays refl p refl refl refl
  copies_work o first count on_gone s p = λ e. e
  copies_work o first count on_other s p = λ e. e
  copies_work o first count (finds cell) s p = copied_works o (record_in cell.values first count) s p

  answered_works :
      (access count words : ℕ) (home : Destination) (s : State) (granted : Bool) → home_of access s.masters ≡ Some home → Over b s.control
      → Work types b s.masters s.next s.heap s.mode Quiet (answered named types access count words home s granted)
  answered_works access count words home s true is p =
      creates access (new_cell named types access count home s) home s.control (part_firsts types (number_reached types access)) is refl refl refl refl refl p refl refl refl refl
  answered_works access count words home s false is p = stays refl p refl refl refl

  new_works : (access count words : ℕ) (home : Option Destination) (s : State) → home_of access s.masters ≡ home → Over b s.control → Works s (new_next named types access count words home s)
  new_works access count words None s is p = stays refl p refl refl refl
  new_works access count words (Some home) s is p = λ granted. answered_works access count words home s granted is p

  right_works : (right : RightForm) (s : State) → Over b s.control → Works s (right_next named types right s)
  right_works nothing s p = stays refl p refl refl refl
  right_works (value_of path) s p = named_works path.selectors path.root s p
  right_works (allocates access items) s p = stays refl (more tt (more tt p)) refl refl refl
  right_works (allocates_default access) s p = stays refl (more tt p) refl refl refl
  right_works (computes e) s p = stays refl (more tt p) refl refl refl

  -- Free, and what it leads to.
  -- The object is of the pool of the access type, or the run halts.
  freeing_works :
      (access : ℕ) (v : Value) (cell : Cell Value) (clears : Frame Value) (e : Event) (s : State) (pool : ℕ) → pool ≡ pool_freed_to (home_of access s.masters) → (same_one : Bool) → same_pool (Some pool) cell.home.pool ≡ same_one
      → IsCode clears → event_seen e ≡ storage.quiet → standing s.heap v ≡ finds cell → Over b s.control → Works s (freeing_next named types access v cell clears e s)
  freeing_works access v cell clears e s pool is true same_one plain quiet found p =
      rw (ap (λ (n : ℕ). same_pool (Some n) cell.home.pool) (sym is) ∙ same_one) (gives_up v (pool_freed_to (home_of access s.masters)) cell (clears ∷ s.control) found (ap (λ (n : ℕ). same_pool (Some n) cell.home.pool) (sym is) ∙ same_one) quiet refl (more plain p) refl refl refl refl)
  freeing_works access v cell clears e s pool is false same_one plain quiet found p = rw (ap (λ (n : ℕ). same_pool (Some n) cell.home.pool) (sym is) ∙ same_one) (λ d. d)

  free_works : (access x : ℕ) (v : Value) (found : Found (Cell Value)) (s : State) → standing s.heap v ≡ found → Over b s.control → Works s (free_next named types access x v found s)
  free_works access x v on_null s is p = stays refl p refl refl refl
  free_works access x v on_gone s is p = λ e. e
  free_works access x v on_other s is p = λ e. e
  free_works access x v (finds cell) s is p = freeing_works access v cell (frame.Clears x) Quiet s (pool_freed_to (home_of access s.masters)) refl (same_pool (Some (pool_freed_to (home_of access s.masters))) cell.home.pool) refl tt refl is p

  -- Statements and declarations.
  assign_works : (cs : List ℕ) (x : ℕ) (right : RightForm) (s : State) → Over b s.control → Works s (assign_next named cs x right s)
  assign_works [] x right s p = stays refl (more tt (more tt p)) refl refl refl
  assign_works (c ∷ cs) x right s p = holder_works c cs x (λ last. frame.Targets last right) s (λ n. tt) p

  target_works : (o : Value) (c : ℕ) (right : RightForm) (found : Found (Cell Value)) (s : State) → Over b s.control → Works s (target_next named o c right found s)
  target_works o c right on_null s p = stays refl p refl refl refl
  target_works o c right on_gone s p = λ e. e
  target_works o c right on_other s p = λ e. e
  target_works o c right (finds cell) s p = stays refl (more tt (more tt p)) refl refl refl

  stored_works : (o : Value) (c : ℕ) (v : Value) (before : Option Value) (s : State) → Over b s.control → Works s (stored_next named o c v before s)
  stored_works o c v None s p = λ e. e
  stored_works o c v (Some before) s p = fills o c (v ∷ []) refl p refl refl refl

  store_works : (o : Value) (c : ℕ) (v : Value) (found : Found (Cell Value)) (s : State) → Over b s.control → Works s (store_next named o c v found s)
  store_works o c v on_null s p = λ e. e
  store_works o c v on_gone s p = λ e. e
  store_works o c v on_other s p = λ e. e
  store_works o c v (finds cell) s p = stored_works o c v (slice_get cell.values c) s p

  -- A record that is assigned to.
  record_target_works : (o : Value) (first count : ℕ) (items : List ItemForm) (found : Found (Cell Value)) (s : State) → Over b s.control → Works s (record_target_next named o first count items found s)
  record_target_works o first count items on_null s p = stays refl p refl refl refl
  record_target_works o first count items on_gone s p = λ e. e
  record_target_works o first count items on_other s p = λ e. e
  record_target_works o first count items (finds cell) s p = stays refl (more tt (more tt p)) refl refl refl

  record_stored_works : (o : Value) (first : ℕ) (vs : List Value) (before : Option (List Value)) (s : State) → Over b s.control → Works s (record_stored_next named o first vs before s)
  record_stored_works o first vs None s p = λ e. e
  record_stored_works o first vs (Some before) s p = fills o first vs refl p refl refl refl

  store_record_works : (o : Value) (first count : ℕ) (found : Found (Cell Value)) (s : State) → Over b s.control → Works s (store_record_next named o first count found s)
  store_record_works o first count on_null s p = λ e. e
  store_record_works o first count on_gone s p = λ e. e
  store_record_works o first count on_other s p = λ e. e
  store_record_works o first count (finds cell) s p =
      record_stored_works o first (newest_ones named count s) (record_in cell.values first count) (without_newest named count s) p

  frees_work : (cs : List ℕ) (access x : ℕ) (s : State) → Over b s.control → Works s (frees_next named types cs access x s)
  frees_work [] access x s p = free_works access x (held named s x) (standing s.heap (held named s x)) s refl p
  frees_work (c ∷ cs) access x s p = holder_works c cs x (λ last. frame.FreesIn access last) s (λ n. tt) p

  freed_works : (access : ℕ) (o : Value) (c : ℕ) (v : Value) (found : Found (Cell Value)) (s : State) → standing s.heap v ≡ found → Over b s.control → Works s (freed_next named types access o c v found s)
  freed_works access o c v on_null s is p = stays refl p refl refl refl
  freed_works access o c v on_gone s is p = λ e. e
  freed_works access o c v on_other s is p = λ e. e
  freed_works access o c v (finds cell) s is p = freeing_works access v cell (frame.ClearsIn o c) (Followed o) s (pool_freed_to (home_of access s.masters)) refl (same_pool (Some (pool_freed_to (home_of access s.masters))) cell.home.pool) refl tt refl is p

  free_component_works : (access : ℕ) (o : Value) (c : ℕ) (before : Option Value) (s : State) → Over b s.control → Works s (free_component_next named types access o c before s)
  free_component_works access o c None s p = λ e. e
  free_component_works access o c (Some v) s p = freed_works access o c v (standing s.heap v) s refl p

  free_in_works : (access : ℕ) (o : Value) (c : ℕ) (found : Found (Cell Value)) (s : State) → Over b s.control → Works s (free_in_next named types access o c found s)
  free_in_works access o c on_null s p = stays refl p refl refl refl
  free_in_works access o c on_gone s p = λ e. e
  free_in_works access o c on_other s p = λ e. e
  free_in_works access o c (finds cell) s p = free_component_works access o c (slice_get cell.values c) s p

  branches_work : (branches : BranchesForm) (s : State) → Over b s.control → Works s (branches_next named branches s)
  branches_work (otherwise fs) s p = stays refl (more tt p) refl refl refl
  branches_work (a_branch e fs branches) s p = stays refl (more tt (more tt p)) refl refl refl

  decided_works : (fs : StmtsForm) (branches : BranchesForm) (truth : Option Bool) (s : State) → Over b s.control → Works s (decided_next named fs branches truth s)
  decided_works fs branches None s p = λ e. e
  decided_works fs branches (Some true) s p = stays refl (more tt p) refl refl refl
  decided_works fs branches (Some false) s p = branches_work branches s p

  turn_works : (condition : Option ExpressionForm) (fs : StmtsForm) (s : State) → Over b s.control → Works s (turn_next named condition fs s)
  turn_works condition no_stmts s p = λ e. e
  turn_works condition (a_stmt f fs) s p = stays refl (more tt (more tt p)) refl refl refl

  repeats_work : (condition : Option ExpressionForm) (fs : StmtsForm) (s : State) → Over b s.control → Works s (repeats_next named condition fs s)
  repeats_work None fs s p = turn_works None fs s p
  repeats_work (Some e) fs s p = stays refl (more tt (more tt p)) refl refl refl

  turned_works : (e : ExpressionForm) (fs : StmtsForm) (truth : Option Bool) (s : State) → Over b s.control → Works s (turned_next named e fs truth s)
  turned_works e fs None s p = λ e. e
  turned_works e fs (Some true) s p = turn_works (Some e) fs s p
  turned_works e fs (Some false) s p = stays refl p refl refl refl

  count_turn_works : (x : ℕ) (value last : ℤ) (fs : StmtsForm) (s : State) → Over b s.control → Works s (count_turn_next named x value last fs s)
  count_turn_works x value last no_stmts s p = λ e. e
  count_turn_works x value last (a_stmt f fs) s p = stays refl (more tt (more tt p)) refl refl refl

  counting_works : (more : Bool) (x : ℕ) (value last : ℤ) (fs : StmtsForm) (s : State) → int_le value last ≡ more → Over b s.control → Works s (counts_next named x value last fs s)
  counting_works true x value last fs s is p = rw is (count_turn_works x value last fs s p)
  counting_works false x value last fs s is p = rw is (stays refl p refl refl refl)

  counts_work : (x : ℕ) (value last : ℤ) (fs : StmtsForm) (s : State) → Over b s.control → Works s (counts_next named x value last fs s)
  counts_work x value last fs s p = counting_works (int_le value last) x value last fs s refl p

  ranges_work : (x : ℕ) (fs : StmtsForm) (low high : Option ℤ) (s : State) → Over b s.control → Works s (ranges_next named x fs low high s)
  ranges_work x fs None high s p = λ e. e
  ranges_work x fs (Some low) None s p = λ e. e
  ranges_work x fs (Some low) (Some high) s p = counts_work x low high fs s p

  gets_work : (cs : List ℕ) (x : ℕ) (input : List ℤ) (s : State) → Over b s.control → Works s (gets_next named cs x input s)
  gets_work (c ∷ cs) x input s p = holder_works c cs x (λ last. frame.Receives last) s (λ n. tt) p
  gets_work [] x [] s p = stays refl p refl refl refl
  gets_work [] x (i ∷ is) s p = stays refl p refl refl refl

  received_works : (o : Value) (c : ℕ) (input : List ℤ) (before : Option Value) (s : State) → Over b s.control → Works s (received_next named o c input before s)
  received_works o c input None s p = λ e. e
  received_works o c [] (Some before) s p = stays refl p refl refl refl
  received_works o c (i ∷ is) (Some before) s p = fills o c (an_integer i ∷ []) refl p refl refl refl

  receive_works : (o : Value) (c : ℕ) (found : Found (Cell Value)) (s : State) → Over b s.control → Works s (receive_next named o c found s)
  receive_works o c on_null s p = stays refl p refl refl refl
  receive_works o c on_gone s p = λ e. e
  receive_works o c on_other s p = λ e. e
  receive_works o c (finds cell) s p = received_works o c s.input (slice_get cell.values c) s p

  exit_works : (condition : Option ExpressionForm) (s : State) → Over b s.control → Works s (exit_next named condition s)
  exit_works None s p = stays refl p refl refl refl
  exit_works (Some e) s p = stays refl (more tt (more tt p)) refl refl refl

  exited_works : (truth : Option Bool) (s : State) → Over b s.control → Works s (exited_next named truth s)
  exited_works None s p = λ e. e
  exited_works (Some true) s p = stays refl p refl refl refl
  exited_works (Some false) s p = stays refl p refl refl refl

  -- What is passed by reference, and the components that get something back.
  referred_works : (o : Value) (place : Place) (found : Option (List Value)) (s : State) → Over b s.control → Works s (referred_next named o place found s)
  referred_works o place None s p = λ e. e
  referred_works o place (Some vs) s p = stays refl p refl refl refl

  refers_work : (o : Value) (place : Place) (count : ℕ) (found : Found (Cell Value)) (s : State) → Over b s.control → Works s (refers_next named o place count found s)
  refers_work o place count on_null s p = stays refl p refl refl refl
  refers_work o place count on_gone s p = λ e. e
  refers_work o place count on_other s p = λ e. e
  refers_work o place count (finds cell) s p = referred_works o place (record_in cell.values place.component count) s p

  open_works : (cs : List ℕ) (x : ℕ) (s : State) → Over b s.control → Works s (open_next named cs x s)
  open_works [] x s p = λ e. e
  open_works (c ∷ cs) x s p = holder_works c cs x frame.OpensIn s (λ n. tt) p

  opened_works : (o : Value) (c : ℕ) (found : Option Value) (s : State) → Over b s.control → Works s (opened_next named o c found s)
  opened_works o c None s p = λ e. e
  opened_works o c (Some v) s p = stays refl p refl refl refl

  opens_work : (o : Value) (c : ℕ) (found : Found (Cell Value)) (s : State) → Over b s.control → Works s (opens_next named o c found s)
  opens_work o c on_null s p = stays refl p refl refl refl
  opens_work o c on_gone s p = λ e. e
  opens_work o c on_other s p = λ e. e
  opens_work o c (finds cell) s p = opened_works o c (slice_get cell.values c) s p

  -- A call: its actual parameters are evaluated before its body begins.
  call_works : (procedure : ℕ) (actuals : List ActualForm) (body : Option BodyForm) (s : State) → Over b s.control → Works s (call_next named procedure actuals body s)
  call_works procedure actuals None s p = λ e. e
  call_works procedure actuals (Some c) s p = stays refl (computing_over actuals _ (more tt p)) refl refl refl

  -- A record is assigned: one with controlled parts once it and the other one are found.
  copy_works : (target : RecordPathForm) (items : List ItemForm) (s : State) → Over b s.control → Works s (copy_next named target items s)
  copy_works target [] s p = λ e. e
  copy_works target (null_item ∷ is) s p = λ e. e
  copy_works target (item_of_path path ∷ is) s p = λ e. e
  copy_works target (item_of_value e ∷ is) s p = λ e. e
  copy_works target (item_of_record source ∷ []) s p = seeks target source target.record_type s.control refl refl p refl refl refl refl
  copy_works target (item_of_record source ∷ i ∷ is) s p = λ e. e

  record_assign_works : (parts : Bool) (target : RecordPathForm) (items : List ItemForm) (s : State) → Over b s.control → Works s (record_assign_next named parts target items s)
  record_assign_works true target items s p = copy_works target items s p
  record_assign_works false target items s p =
      record_holder_works target (λ place. frame.TargetsRecord place.component target.record_type items) s (λ n. tt) p

  stmt_works : (bodies : List BodyForm) (f : StmtForm) (s : State) → Over b s.control → Works s (stmt_next named types bodies f s)
  stmt_works bodies skips s p = stays refl p refl refl refl
  stmt_works bodies (assigns target right) s p = assign_works target.selectors target.root right s p
  stmt_works bodies (assigns_record target items) s p = record_assign_works (has_parts types target.record_type) target items s p
  stmt_works bodies (frees access path) s p = frees_work path.selectors access path.root s p
  stmt_works bodies (gets target) s p = gets_work target.selectors target.root s.input s p
  stmt_works bodies (writes e) s p = stays refl (more tt (more tt p)) refl refl refl
  stmt_works bodies (writes_text text) s p = stays refl p refl refl refl
  stmt_works bodies (chooses branches) s p = branches_work branches s p
  stmt_works bodies (repeats condition fs end_spot) s p = stays refl (more tt p) refl refl refl
  stmt_works bodies (counts x low high fs end_spot) s p = stays refl (more tt (more tt (more tt p))) refl refl refl
  stmt_works bodies (exits condition spot) s p = exit_works condition s p
  stmt_works bodies (calls procedure actuals) s p = call_works procedure actuals (slice_get bodies procedure) s p
  stmt_works bodies (form.returns spot) s p = stays refl p refl refl refl
  stmt_works bodies (raises e) s p = stays refl p refl refl refl
  stmt_works bodies (encloses ds fs hs) s p = enters ds fs hs s.control refl refl p refl refl refl refl

  stmts_work : (bodies : List BodyForm) (fs : StmtsForm) (s : State) → Over b s.control → Works s (stmts_next named types bodies fs s)
  stmts_work bodies no_stmts s p = stays refl p refl refl refl
  stmts_work bodies (a_stmt f fs) s p = stmt_works bodies f (at (frame.Does fs ∷ s.control) s) (more tt p)

  line_works : (read : Option ℤ) (s : State) → Over b s.control → Works s (line_next named read s)
  line_works None s p = λ e. e
  line_works (Some i) s p = stays refl p refl refl refl

  record_works : (x t : ℕ) (initial : Option (List ItemForm)) (s : State) → Over b s.control → Works s (record_next named types x t initial s)
  record_works x t None s p = makes t Creation _ s.control (part_firsts types (number_reached types t)) tt refl refl refl p refl refl refl refl refl refl
  record_works x t (Some items) s p = stays refl (more tt (more tt p)) refl refl refl

  declaration_works : (d : DeclarationForm) (s : State) → Over b s.control → Works s (declaration_next named types d s)
  declaration_works (creates_pool pool) s p = owns (storage_pool pool (pools_in s.masters + 1)) tt refl p refl refl refl refl
  declaration_works (collects access) s p = owns (collection access (pool_for (pool_named types access) s.masters)) tt refl p refl refl refl refl
  declaration_works (declares x right) s p = stays refl (more tt (more tt p)) refl refl refl
  declaration_works (declares_record x t initial) s p = record_works x t initial s p

  pub declarations_work : (ds : List DeclarationForm) (fs : StmtsForm) (hs : HandlersForm) (s : State) → b ≡ frame.Closes ∷ s.control → Works s (declarations_next named types ds fs hs s)
  declarations_work [] fs hs s is = stays refl (more tt (more tt (turned frame.Closes frame.Closes s.control refl refl is))) refl refl refl
  declarations_work (d ∷ ds) fs hs s is =
      declaration_works d (at (frame.Elaborates ds fs hs ∷ s.control) s) (turned frame.Closes (frame.Elaborates ds fs hs) s.control refl refl is)

  -- Each frame of code that is taken off.
  pub frame_works : (bodies : List BodyForm) (f : Frame Value) (s : State) → IsCode f → IsWithin f → Over b s.control → Works s (frame_next named types bodies f s)
  frame_works bodies (frame.Elaborates ds fs hs) s is within p = absurd is
  frame_works bodies (frame.Does fs) s is within p = stmts_work bodies fs s p
  frame_works bodies (frame.Decides fs branches) s is within p = decided_works fs branches (reads_boolean (newest named s)) (popped s) p
  frame_works bodies (frame.Repeats condition fs) s is within p = repeats_work condition fs s p
  frame_works bodies (frame.Turns condition fs) s is within p = turned_works condition fs (reads_boolean (newest named s)) (popped s) p
  frame_works bodies (frame.Ranges x fs) s is within p = ranges_work x fs (reads_integer (newest named (popped s))) (reads_integer (newest named s)) (popped (popped s)) p
  frame_works bodies (frame.Counts x value last fs) s is within p = counts_work x value last fs s p
  frame_works bodies frame.Exits s is within p = exited_works (reads_boolean (newest named s)) (popped s) p
  frame_works bodies (frame.Handles hs) s is within p = stays refl p refl refl refl
  frame_works bodies frame.Closes s is within p = absurd is
  frame_works bodies (frame.Leaves mode) s is within p = absurd is
  frame_works bodies (frame.Calls procedure c actuals) s is within p = absurd within
  frame_works bodies (frame.Returns actuals references) s is within p = absurd is
  frame_works bodies (frame.Evaluates right) s is within p = right_works right s p
  frame_works bodies (frame.Computes e) s is within p = expression_works e s p
  frame_works bodies (frame.Follows cs) s is within p = path_works cs (newest named s) (popped s) p
  frame_works bodies (frame.TestsNull equal) s is within p = null_test_works equal (reads_null (newest named s)) (popped s) p
  frame_works bodies (frame.Refers r) s is within p = record_holder_works r (λ place. frame.RefersIn place r.record_type) s (λ n. tt) p
  frame_works bodies (frame.RefersIn place t) s is within p =
      refers_work (newest named s) place (width_of types t) (look s.heap (newest named s)) (popped s) p
  frame_works bodies (frame.Opens path) s is within p = open_works path.selectors path.root s p
  frame_works bodies (frame.OpensIn c) s is within p = opens_work (newest named s) c (look s.heap (newest named s)) (popped s) p
  frame_works bodies (frame.Continues links) s is within p = links_work links s p
  frame_works bodies (frame.Applies operator) s is within p = outcome_works (binary_given operator (newest named (popped s)) (newest named s)) (popped (popped s)) p
  frame_works bodies (frame.AppliesAlone operator) s is within p = outcome_works (unary_given operator (newest named s)) (popped s) p
  frame_works bodies (frame.Fills items) s is within p = items_work items s p
  frame_works bodies (frame.Copies first t) s is within p = copies_work (newest named s) first (width_of types t) (look s.heap (newest named s)) (popped s) p
  frame_works bodies (frame.Creates access count) s is within p = new_works access count (words_of types access) (home_of access s.masters) s refl p
  frame_works bodies (frame.Stores x) s is within p = stays refl p refl refl refl
  frame_works bodies (frame.Targets c right) s is within p = target_works (newest named s) c right (look s.heap (newest named s)) (popped s) p
  frame_works bodies (frame.StoresIn object c) s is within p = store_works object c (newest named s) (look s.heap object) (popped s) p
  frame_works bodies (frame.TargetsRecord first t items) s is within p =
      record_target_works (newest named s) first (width_of types t) items (look s.heap (newest named s)) (popped s) p
  frame_works bodies (frame.StoresRecord object first count) s is within p = store_record_works object first count (look s.heap object) s p
  frame_works bodies (frame.Assigns t) s is within p = absurd is
  frame_works bodies (frame.Receives c) s is within p = receive_works (newest named s) c (look s.heap (newest named s)) (popped s) p
  frame_works bodies (frame.FreesIn access c) s is within p = free_in_works access (newest named s) c (look s.heap (newest named s)) (popped s) p
  frame_works bodies (frame.Declares x) s is within p = owns (declared x) tt refl p refl refl refl refl
  frame_works bodies (frame.DeclaresRecord x t) s is within p = makes t Copy _ s.control (part_firsts types (number_reached types t)) tt refl refl refl p refl refl refl refl refl refl
  frame_works bodies (frame.Treats v treatment tasks) s is within p = absurd is
  frame_works bodies (frame.Awaits v by done of part tasks) s is within p = absurd is
  frame_works bodies frame.Confines s is within p = absurd is
  frame_works bodies (frame.Resumes mode) s is within p = absurd is
  frame_works bodies frame.Writes s is within p = line_works (reads_integer (newest named s)) (popped s) p
  frame_works bodies (frame.Ends v) s is within p = absurd is
  frame_works bodies (frame.GivesBack v cause pool) s is within p = absurd is
  frame_works bodies (frame.Clears x) s is within p = stays refl p refl refl refl
  frame_works bodies (frame.ClearsIn object c) s is within p = store_works object c Null (look s.heap object) s p
