-- What one step does to the heap, and what follows for runs.

use Rattle.std.proofs.Common.{◌≡◌, ℕ, ℤ, int_le, Bool, true, false, ◌==◌, if◌then◌else◌, List, [], ◌∷◌, ◌++◌, Option, Some, None, Result, Ok, Err, refl, ap}
use Rattle.std.specs.List.{slice_get, slice_set, slice_index_or}
use Rattle.ada_program.specs.declared.program.Program.{Program}
use Rattle.ada_program.specs.declared.program.TypeDefinition.{TypeDefinition}
use Rattle.ada_program.specs.Form.{RecordPathForm, ActualForm, ExpressionForm, integer, boolean, reads, is_null, applied_to, chained, LinksForm, no_more_links, a_link, ItemForm, null_item, item_of_path, item_of_value, item_of_record, RightForm, nothing, value_of, allocates, allocates_default, computes, StmtForm, skips, assigns, assigns_record, frees, gets, writes, writes_text, chooses, repeats, counts, exits, calls, raises, encloses, StmtsForm, no_stmts, a_stmt, BranchesForm, otherwise, a_branch, HandlersForm, DeclarationForm, creates_pool, collects, declares, declares_record}
use Rattle.ada_program.specs.Form as form
use Rattle.ada_program.specs.ProgramForm.{BodyForm, body_forms}
use Rattle.ada_program.specs.Controlled.{shapes_of, operations_of, procedure_number}
use Rattle.ada_program.specs.Typed.{reached_of, words_of, width_of}
use Rattle.ada_parts.specs.declared.tasks.Next.{Next as Follows}
use Rattle.ada_parts.specs.declared.tasks.Next.TheVariants.{Done, Pick, Perform}
use Rattle.ada_parts.specs.Part.{Part as OnePart}
use Rattle.ada_parts.specs.Task.{Task, performed, next as task_next}
use Rattle.ada_values.specs.declared.operator.BinaryOperator.{BinaryOperator}
use Rattle.ada_values.specs.declared.fault.OperatorFault.{OperatorFault}
use Rattle.ada_values.specs.declared.fault.OperatorFault.TheVariants.{Overflow, DivisionByZero, WrongType}
use Rattle.ada_meaning.specs.declared.state.Id.{Id}
use Rattle.ada_meaning.specs.declared.state.Place.{Place}
use Rattle.ada_meaning.specs.declared.state.Value.{Value}
use Rattle.ada_meaning.specs.declared.state.Value.TheVariants.{Null, Names, Scalar, Part}
use Rattle.ada_meaning.specs.declared.state.Mode.{Mode}
use Rattle.ada_meaning.specs.declared.state.Mode.TheVariants.{Running, Raising, Exiting, Returning}
use Rattle.ada_program.specs.declared.program.Exception.{Exception}
use Rattle.ada_meaning.specs.declared.event.Birth.{Birth}
use Rattle.ada_meaning.specs.declared.event.Birth.TheVariants.{Creation, Copy, Adjustment}
use Rattle.ada_meaning.specs.declared.event.Cause.{Cause}
use Rattle.ada_meaning.specs.declared.event.Cause.TheVariants.{Leaving}
use Rattle.ada_meaning.specs.declared.event.Halt.TheVariants.{Erroneous, Stuck}
use Rattle.ada_meaning.specs.declared.event.Why.TheVariants.{GivesElsewhere, FinalizesTwice}
use Rattle.ada_meaning.specs.Event.{Back, Finalized, Followed, Quiet}
use Rattle.ada_meaning.specs.Frame.{Treatment, Frame, is_master, Landing, passes_on, goes_behind, goes_in, breaks_off, escapes, landing}
use Rattle.ada_meaning.specs.Frame as frame
use Rattle.ada_meaning.specs.State.{Owned, declared, collection, record_object, storage_pool, Item, Master, Destination, height, home_of, pool_freed_to, counted}
use Rattle.ada_meaning.specs.Heap.{PartState, Cell, Found, on_null, on_gone, on_other, finds}
use Rattle.ada_meaning.specs.Step.{direction_of, new_parts, picked_task, treating, treated_on, operation_next, part_reference, beginning, born_next, begun_next, awaited_next, ended_next, finalized_next, performed_next, treats_next, taken_out, same_pool, told_back, record_cell, record_in, stored_from, newest_ones, without_newest, initial_values, copied_next, copies_next, record_target_next, record_stored_next, store_record_next, assigns_next, copy_next, record_assign_next, has_parts, record_next, halts, moves, tells, asks, picks, at, popped, held, newest, reading, component_next, follow_next, path_next, selected, named_next, holder_next, place_in, record_holder_next, referred_next, refers_next, open_next, opened_next, opens_next, expression_next, null_test_next, is_decided, link_next, links_next, outcome_next, item_next, items_next, answered, new_next, new_cell, right_next, freeing, freeing_next, free_next, end_next, given_back, back_next, before_last, last_of, assign_next, target_next, stored_next, store_next, received_next, receive_next, frees_next, freed_next, free_component_next, free_in_next, branches_next, decided_next, turn_next, repeats_next, turned_next, count_turn_next, counts_next, ranges_next, gets_next, exit_next, exited_next, call_next, stmt_next, stmts_next, line_next, declaration_next, declarations_next, members_next, item_leave_next, master_leave_next, leave_next, frame_next, undo_next, broken_next, broken_off, landed, pass_next, running_next, jump_next, mode_next}
use Rattle.ada_meaning.specs.Named.{bear, finalize, Object, State, Next, next, named, whole, inside, look, standing, lent, lent_by, reads_boolean, reads_null, reads_integer, unary_given, binary_given, members, object_at, changed, on_object, new_object, parted, finished, returned, an_integer}
use Rattle.ada_meaning.specs.Named as meaning
use Rattle.ada_meaning.specs.Run.{Event, Choice, settled, grants, takes, Leads, Step}
use Rattle.ada_meaning.specs.Law.{back_of}
use Rattle.ada_meaning.proofs.Jumps.{unwound_to, unwound_by}

abbrev Heap : Type 0
Heap = List Object

-- What one step does to the heap: nothing, or one object more is there, with the parts of its type, or one leaves its collection, or it ceases to exist, or its
-- words, which were out, go back, or components of it, from one on, have other values, or a controlled part of it comes to have a value, or its value is
-- finalized.
pub data Deed (types : List TypeDefinition) (xs : Heap) (e : Event) (ys : Heap) : Type 0 where
  same : back_of e ≡ None → ys ≡ xs → Deed types xs e ys
  adds : (object : Object) → back_of e ≡ None → object.cell.parts ≡ new_parts types object.cell.access → ys ≡ xs ++ object ∷ [] → Deed types xs e ys
  parts : (v : Value) → back_of e ≡ None → ys ≡ on_object parted xs v → Deed types xs e ys
  finishes : (v : Value) → back_of e ≡ None → ys ≡ on_object finished xs v → Deed types xs e ys
  fills : (o : Value) (c : ℕ) (vs : List Value) → back_of e ≡ None → ys ≡ stored_from named xs o c vs → Deed types xs e ys
  bears : (v : Value) (part number : ℕ) → back_of e ≡ None → ys ≡ bear xs v part number → Deed types xs e ys
  finalizes : (v : Value) (part : ℕ) → back_of e ≡ None → ys ≡ finalize xs v part → Deed types xs e ys
  returns : (o : Id) (object : Object) → back_of e ≡ Some o → object_at xs o ≡ Some object → object.out ≡ true → ys ≡ slice_set xs o.0 (returned object) → Deed types xs e ys

-- What comes next does so, whatever is answered.
abbrev Does : List TypeDefinition → Heap → Next → Type 0
Does types xs (halts halt) = Unit {0}
Does types xs (moves e s) = Deed types xs e s.heap
Does types xs (tells request e s) = Deed types xs e s.heap
Does types xs (asks request answers) = (granted : Bool) → Deed types xs Quiet (answers granted).heap
Does types xs (picks n taking) = (i : ℕ) → Deed types xs Quiet (taking i).heap

-- Paths and expressions.
module _ (types : List TypeDefinition) where
  reading_does : (cs : List ℕ) (v : Value) (e : Event) (s : State) → back_of e ≡ None → Deed types s.heap e (reading named cs v s).heap
  reading_does [] v e s h = same h refl
  reading_does (c ∷ cs) v e s h = same h refl

  component_does : (v : Value) (cs : List ℕ) (found : Option Value) (s : State) → Does types s.heap (component_next named v cs found s)
  component_does v cs None s = tt
  component_does v cs (Some u) s = reading_does cs u _ s refl

  follow_does : (v : Value) (c : ℕ) (cs : List ℕ) (found : Found (Cell Value)) (s : State) → Does types s.heap (follow_next named v c cs found s)
  follow_does v c cs on_null s = same refl refl
  follow_does v c cs on_gone s = tt
  follow_does v c cs on_other s = tt
  follow_does v c cs (finds cell) s = component_does v cs (slice_get cell.values c) s

  path_does : (cs : List ℕ) (v : Value) (s : State) → Does types s.heap (path_next named cs v s)
  path_does [] v s = same refl refl
  path_does (c ∷ cs) v s = follow_does v c cs (look s.heap v) s

  -- Paths that begin with a variable.
  named_does : (cs : List ℕ) (x : ℕ) (s : State) → Does types s.heap (named_next named cs x s)
  named_does cs x s = path_does (selected named (held named s x) cs) (whole (held named s x)) s

  holder_does : (c : ℕ) (cs : List ℕ) (x : ℕ) (frame_of : ℕ → Frame Value) (s : State) → Does types s.heap (holder_next named c cs x frame_of s)
  holder_does c cs x frame_of s =
      let first = inside (held named s x) c in
      path_does (before_last first cs) (whole (held named s x)) (at (frame_of (last_of first cs) ∷ s.control) s)

  record_holder_does : (p : RecordPathForm) (frame_of : Place → Frame Value) (s : State) → Does types s.heap (record_holder_next named p frame_of s)
  record_holder_does p frame_of s =
      let v = held named s p.object.root in
      path_does (selected named v p.object.selectors) (whole v) (at (frame_of (place_in named v p.object.selectors p) ∷ s.control) s)

  expression_does : (e : ExpressionForm) (s : State) → Does types s.heap (expression_next named e s)
  expression_does (integer i) s = same refl refl
  expression_does (boolean b) s = same refl refl
  expression_does (reads path) s = named_does path.selectors path.root s
  expression_does (is_null equal path) s = named_does path.selectors path.root (at (frame.TestsNull equal ∷ s.control) s)
  expression_does (applied_to operator e) s = same refl refl
  expression_does (chained e links) s = same refl refl

  null_test_does : (equal : Bool) (null : Option Bool) (s : State) → Does types s.heap (null_test_next named equal null s)
  null_test_does equal None s = tt
  null_test_does true (Some null) s = same refl refl
  null_test_does false (Some null) s = same refl refl

  link_does : (decided : Bool) (operator : BinaryOperator) (e : ExpressionForm) (links : LinksForm) (s : State) → Does types s.heap (link_next named decided operator e links s)
  link_does true operator e links s = same refl refl
  link_does false operator e links s = same refl refl

  links_do : (links : LinksForm) (s : State) → Does types s.heap (links_next named links s)
  links_do no_more_links s = same refl refl
  links_do (a_link operator e links) s = link_does (is_decided named operator (reads_boolean (newest named s))) operator e links s

  outcome_does : (outcome : Result Value OperatorFault) (s : State) → Does types s.heap (outcome_next named outcome s)
  outcome_does (Ok v) s = same refl refl
  outcome_does (Err Overflow) s = same refl refl
  outcome_does (Err DivisionByZero) s = same refl refl
  outcome_does (Err WrongType) s = tt

  -- Allocators, and what is assigned.
  item_does : (item : ItemForm) (s : State) → Does types s.heap (item_next named item s)
  item_does null_item s = same refl refl
  item_does (item_of_path path) s = named_does path.selectors path.root s
  item_does (item_of_value e) s = same refl refl
  item_does (item_of_record p) s = record_holder_does p (λ place. frame.Copies place.component p.record_type) s

  items_do : (items : List ItemForm) (s : State) → Does types s.heap (items_next named items s)
  items_do [] s = same refl refl
  items_do (i ∷ is) s = item_does i (at (frame.Fills is ∷ s.control) s)

  -- A record that is copied.
  copied_does : (o : Value) (found : Option (List Value)) (s : State) → Does types s.heap (copied_next named o found s)
  copied_does o None s = tt
  copied_does o (Some vs) s = same refl refl

  copies_do : (o : Value) (first count : ℕ) (found : Found (Cell Value)) (s : State) → Does types s.heap (copies_next named o first count found s)
  copies_do o first count on_null s = same refl refl
  copies_do o first count on_gone s = tt
  copies_do o first count on_other s = tt
  copies_do o first count (finds cell) s = copied_does o (record_in cell.values first count) s

  answered_does :
      (access count words : ℕ) (home : Destination) (s : State) (granted : Bool)
      → Deed types s.heap Quiet (answered named types access count words home s granted).heap
  answered_does access count words home s true = adds (new_object (new_cell named types access count home s)) refl refl refl
  answered_does access count words home s false = same refl refl

  new_does :
      (access count words : ℕ) (home : Option Destination) (s : State)
      → Does types s.heap (new_next named types access count words home s)
  new_does access count words None s = same refl refl
  new_does access count words (Some home) s = answered_does access count words home s

  right_does : (right : RightForm) (s : State) → Does types s.heap (right_next named types right s)
  right_does nothing s = same refl refl
  right_does (value_of path) s = named_does path.selectors path.root s
  right_does (allocates access items) s = same refl refl
  right_does (allocates_default access) s = same refl refl
  right_does (computes e) s = same refl refl

  -- Free, and what it leads to.
  freeing_does :
      (access : ℕ) (v : Value) (cell : Cell Value) (clears : Frame Value) (event : Event) (s : State)
      → back_of event ≡ None → Does types s.heap (freeing_next named types access v cell clears event s)
  freeing_does access v cell clears event s none = by_pool (same_pool (Some (pool_freed_to (home_of access s.masters))) cell.home.pool)
    where
      by_pool : (own : Bool) → Does types s.heap (if own then moves event (freeing named types access v cell clears s) else halts (Erroneous GivesElsewhere))
      by_pool true = parts v none refl
      by_pool false = tt

  free_does :
      (access x : ℕ) (v : Value) (found : Found (Cell Value)) (s : State)
      → Does types s.heap (free_next named types access x v found s)
  free_does access x v on_null s = same refl refl
  free_does access x v on_gone s = tt
  free_does access x v on_other s = tt
  free_does access x v (finds cell) s = freeing_does access v cell (frame.Clears x) Quiet s refl

  end_does : (v : Value) (found : Found (Cell Value)) (s : State) → Does types s.heap (end_next named v found s)
  end_does v on_null s = tt
  end_does v on_gone s = tt
  end_does v on_other s = tt
  end_does v (finds cell) s = finishes v refl refl

  told_back_does : (pool : Option ℕ) (o : Id) (cause : Cause) (object : Object) (s : State) → object_at s.heap o ≡ Some object → object.out ≡ true → Does types s.heap (told_back named pool (Names o) (Back (Names o) object.cell.access object.cell.number object.cell.home.pool object.cell.home.subpool cause) (record s { heap = on_object returned s.heap (Names o) }))
  told_back_does None o cause object s is out = returns o object refl is out (ap (λ (f : Option Object). changed returned f s.heap o) is)
  told_back_does (Some pool) o cause object s is out = returns o object refl is out (ap (λ (f : Option Object). changed returned f s.heap o) is)

  given_back_does : (fits : Bool) (o : Id) (cause : Cause) (object : Object) (s : State) → object_at s.heap o ≡ Some object → object.out ≡ true → Does types s.heap (if fits then given_back named (Names o) cause object.cell s else halts (Erroneous GivesElsewhere))
  given_back_does true o cause object s is out = told_back_does object.cell.home.pool o cause object s is out
  given_back_does false o cause object s is out = tt

  out_does : (out : Bool) (o : Id) (cause : Cause) (pool : Option ℕ) (object : Object) (s : State) → object_at s.heap o ≡ Some object → object.out ≡ out → Does types s.heap (back_next named (Names o) cause pool (if out then finds object.cell else on_gone) s)
  out_does true o cause pool object s is out = given_back_does (same_pool pool object.cell.home.pool) o cause object s is out
  out_does false o cause pool object s is out = tt

  lent_does : (o : Id) (cause : Cause) (pool : Option ℕ) (at_o : Option Object) (s : State) → object_at s.heap o ≡ at_o → Does types s.heap (back_next named (Names o) cause pool (lent_by at_o) s)
  lent_does o cause pool None s is = tt
  lent_does o cause pool (Some object) s is = out_does object.out o cause pool object s is refl

  back_does : (v : Value) (cause : Cause) (pool : Option ℕ) (s : State) → Does types s.heap (back_next named v cause pool (lent s.heap v) s)
  back_does Null cause pool s = tt
  back_does (Names o) cause pool s = lent_does o cause pool (object_at s.heap o) s refl
  back_does (Scalar v) cause pool s = tt
  back_does (Part o place) cause pool s = tt

  -- Statements and declarations.
  assign_does : (cs : List ℕ) (x : ℕ) (right : RightForm) (s : State) → Does types s.heap (assign_next named cs x right s)
  assign_does [] x right s = same refl refl
  assign_does (c ∷ cs) x right s = holder_does c cs x (λ last. frame.Targets last right) s

  target_does : (o : Value) (c : ℕ) (right : RightForm) (found : Found (Cell Value)) (s : State) → Does types s.heap (target_next named o c right found s)
  target_does o c right on_null s = same refl refl
  target_does o c right on_gone s = tt
  target_does o c right on_other s = tt
  target_does o c right (finds cell) s = same refl refl

  stored_does : (o : Value) (c : ℕ) (v : Value) (before : Option Value) (s : State) → Does types s.heap (stored_next named o c v before s)
  stored_does o c v None s = tt
  stored_does o c v (Some before) s = fills o c (v ∷ []) refl refl

  store_does : (o : Value) (c : ℕ) (v : Value) (found : Found (Cell Value)) (s : State) → Does types s.heap (store_next named o c v found s)
  store_does o c v on_null s = tt
  store_does o c v on_gone s = tt
  store_does o c v on_other s = tt
  store_does o c v (finds cell) s = stored_does o c v (slice_get cell.values c) s

  -- A record that is assigned to.
  record_target_does : (o : Value) (first count : ℕ) (items : List ItemForm) (found : Found (Cell Value)) (s : State) → Does types s.heap (record_target_next named o first count items found s)
  record_target_does o first count items on_null s = same refl refl
  record_target_does o first count items on_gone s = tt
  record_target_does o first count items on_other s = tt
  record_target_does o first count items (finds cell) s = same refl refl

  record_stored_does : (o : Value) (first : ℕ) (vs : List Value) (before : Option (List Value)) (s : State) → Does types s.heap (record_stored_next named o first vs before s)
  record_stored_does o first vs None s = tt
  record_stored_does o first vs (Some before) s = fills o first vs refl refl

  store_record_does : (o : Value) (first count : ℕ) (found : Found (Cell Value)) (s : State) → Does types s.heap (store_record_next named o first count found s)
  store_record_does o first count on_null s = tt
  store_record_does o first count on_gone s = tt
  store_record_does o first count on_other s = tt
  store_record_does o first count (finds cell) s = record_stored_does o first (newest_ones named count s) (record_in cell.values first count) (without_newest named count s)

  frees_do : (cs : List ℕ) (access x : ℕ) (s : State) → Does types s.heap (frees_next named types cs access x s)
  frees_do [] access x s = free_does access x (held named s x) (standing s.heap (held named s x)) s
  frees_do (c ∷ cs) access x s = holder_does c cs x (λ last. frame.FreesIn access last) s

  freed_does :
      (access : ℕ) (o : Value) (c : ℕ) (v : Value) (found : Found (Cell Value)) (s : State)
      → Does types s.heap (freed_next named types access o c v found s)
  freed_does access o c v on_null s = same refl refl
  freed_does access o c v on_gone s = tt
  freed_does access o c v on_other s = tt
  freed_does access o c v (finds cell) s = freeing_does access v cell (frame.ClearsIn o c) (Followed o) s refl

  free_component_does :
      (access : ℕ) (o : Value) (c : ℕ) (held : Option Value) (s : State)
      → Does types s.heap (free_component_next named types access o c held s)
  free_component_does access o c None s = tt
  free_component_does access o c (Some v) s = freed_does access o c v (standing s.heap v) s

  free_in_does :
      (access : ℕ) (o : Value) (c : ℕ) (found : Found (Cell Value)) (s : State)
      → Does types s.heap (free_in_next named types access o c found s)
  free_in_does access o c on_null s = same refl refl
  free_in_does access o c on_gone s = tt
  free_in_does access o c on_other s = tt
  free_in_does access o c (finds cell) s = free_component_does access o c (slice_get cell.values c) s

  branches_do : (branches : BranchesForm) (s : State) → Does types s.heap (branches_next named branches s)
  branches_do (otherwise fs) s = same refl refl
  branches_do (a_branch e fs branches) s = same refl refl

  decided_does : (fs : StmtsForm) (branches : BranchesForm) (truth : Option Bool) (s : State) → Does types s.heap (decided_next named fs branches truth s)
  decided_does fs branches None s = tt
  decided_does fs branches (Some true) s = same refl refl
  decided_does fs branches (Some false) s = branches_do branches s

  turn_does : (condition : Option ExpressionForm) (fs : StmtsForm) (s : State) → Does types s.heap (turn_next named condition fs s)
  turn_does condition no_stmts s = tt
  turn_does condition (a_stmt f fs) s = same refl refl

  repeats_do : (condition : Option ExpressionForm) (fs : StmtsForm) (s : State) → Does types s.heap (repeats_next named condition fs s)
  repeats_do None fs s = turn_does None fs s
  repeats_do (Some e) fs s = same refl refl

  turned_does : (e : ExpressionForm) (fs : StmtsForm) (truth : Option Bool) (s : State) → Does types s.heap (turned_next named e fs truth s)
  turned_does e fs None s = tt
  turned_does e fs (Some true) s = turn_does (Some e) fs s
  turned_does e fs (Some false) s = same refl refl

  count_turn_does : (x : ℕ) (value last : ℤ) (fs : StmtsForm) (s : State) → Does types s.heap (count_turn_next named x value last fs s)
  count_turn_does x value last no_stmts s = tt
  count_turn_does x value last (a_stmt f fs) s = same refl refl

  counted_does : (turns : Bool) (x : ℕ) (value last : ℤ) (fs : StmtsForm) (s : State) → Does types s.heap (if turns then count_turn_next named x value last fs s else moves Quiet s)
  counted_does true x value last fs s = count_turn_does x value last fs s
  counted_does false x value last fs s = same refl refl

  counts_do : (x : ℕ) (value last : ℤ) (fs : StmtsForm) (s : State) → Does types s.heap (counts_next named x value last fs s)
  counts_do x value last fs s = counted_does (int_le value last) x value last fs s

  ranges_do : (x : ℕ) (fs : StmtsForm) (low high : Option ℤ) (s : State) → Does types s.heap (ranges_next named x fs low high s)
  ranges_do x fs None high s = tt
  ranges_do x fs (Some low) None s = tt
  ranges_do x fs (Some low) (Some high) s = counts_do x low high fs s

  gets_do : (cs : List ℕ) (x : ℕ) (input : List ℤ) (s : State) → Does types s.heap (gets_next named cs x input s)
  gets_do (c ∷ cs) x input s = holder_does c cs x frame.Receives s
  gets_do [] x [] s = same refl refl
  gets_do [] x (i ∷ is) s = same refl refl

  received_does : (o : Value) (c : ℕ) (input : List ℤ) (before : Option Value) (s : State) → Does types s.heap (received_next named o c input before s)
  received_does o c input None s = tt
  received_does o c [] (Some before) s = same refl refl
  received_does o c (i ∷ is) (Some before) s = fills o c (an_integer i ∷ []) refl refl

  receive_does : (o : Value) (c : ℕ) (found : Found (Cell Value)) (s : State) → Does types s.heap (receive_next named o c found s)
  receive_does o c on_null s = same refl refl
  receive_does o c on_gone s = tt
  receive_does o c on_other s = tt
  receive_does o c (finds cell) s = received_does o c s.input (slice_get cell.values c) s

  exit_does : (condition : Option ExpressionForm) (s : State) → Does types s.heap (exit_next named condition s)
  exit_does None s = same refl refl
  exit_does (Some e) s = same refl refl

  exited_does : (truth : Option Bool) (s : State) → Does types s.heap (exited_next named truth s)
  exited_does None s = tt
  exited_does (Some true) s = same refl refl
  exited_does (Some false) s = same refl refl

  -- What is given by reference.
  referred_does : (o : Value) (place : Place) (found : Option (List Value)) (s : State) → Does types s.heap (referred_next named o place found s)
  referred_does o place None s = tt
  referred_does o place (Some vs) s = same refl refl

  refers_do : (o : Value) (place : Place) (count : ℕ) (found : Found (Cell Value)) (s : State) → Does types s.heap (refers_next named o place count found s)
  refers_do o place count on_null s = same refl refl
  refers_do o place count on_gone s = tt
  refers_do o place count on_other s = tt
  refers_do o place count (finds cell) s = referred_does o place (record_in cell.values place.component count) s

  open_does : (cs : List ℕ) (x : ℕ) (s : State) → Does types s.heap (open_next named cs x s)
  open_does [] x s = tt
  open_does (c ∷ cs) x s = holder_does c cs x frame.OpensIn s

  opened_does : (o : Value) (c : ℕ) (found : Option Value) (s : State) → Does types s.heap (opened_next named o c found s)
  opened_does o c None s = tt
  opened_does o c (Some v) s = same refl refl

  opens_do : (o : Value) (c : ℕ) (found : Found (Cell Value)) (s : State) → Does types s.heap (opens_next named o c found s)
  opens_do o c on_null s = same refl refl
  opens_do o c on_gone s = tt
  opens_do o c on_other s = tt
  opens_do o c (finds cell) s = opened_does o c (slice_get cell.values c) s

  -- A call, and the end of one.
  call_does : (procedure : ℕ) (actuals : List ActualForm) (body : Option BodyForm) (s : State) → Does types s.heap (call_next named procedure actuals body s)
  call_does procedure actuals None s = tt
  call_does procedure actuals (Some b) s = same refl refl

  -- A record that has controlled parts is assigned to another.
  copy_does : (target : RecordPathForm) (items : List ItemForm) (s : State) → Does types s.heap (copy_next named target items s)
  copy_does target [] s = tt
  copy_does target (null_item ∷ items) s = tt
  copy_does target (item_of_path path ∷ items) s = tt
  copy_does target (item_of_value e ∷ items) s = tt
  copy_does target (item_of_record source ∷ []) s = same refl refl
  copy_does target (item_of_record source ∷ item ∷ items) s = tt

  record_assign_does : (parts : Bool) (target : RecordPathForm) (items : List ItemForm) (s : State) → Does types s.heap (record_assign_next named parts target items s)
  record_assign_does true target items s = copy_does target items s
  record_assign_does false target items s =
      record_holder_does target (λ place. frame.TargetsRecord place.component target.record_type items) s

  assigns_do :
      (t : ℕ) (target source : Value) (one : Option Bool) (s : State)
      → Does types s.heap (assigns_next named types t target source one s)
  assigns_do t target source None s = tt
  assigns_do t target source (Some true) s = same refl refl
  assigns_do t target source (Some false) s = same refl refl

  stmt_does : (bodies : List BodyForm) (f : StmtForm) (s : State) → Does types s.heap (stmt_next named types bodies f s)
  stmt_does bodies skips s = same refl refl
  stmt_does bodies (assigns target right) s = assign_does target.selectors target.root right s
  stmt_does bodies (assigns_record target items) s =
      record_assign_does (has_parts types target.record_type) target items s
  stmt_does bodies (frees access path) s = frees_do path.selectors access path.root s
  stmt_does bodies (gets target) s = gets_do target.selectors target.root s.input s
  stmt_does bodies (writes e) s = same refl refl
  stmt_does bodies (writes_text text) s = same refl refl
  stmt_does bodies (chooses branches) s = branches_do branches s
  stmt_does bodies (repeats condition fs end_spot) s = same refl refl
  stmt_does bodies (counts x low high fs end_spot) s = same refl refl
  stmt_does bodies (exits condition spot) s = exit_does condition s
  stmt_does bodies (calls procedure actuals) s = call_does procedure actuals (slice_get bodies procedure) s
  stmt_does bodies (form.returns spot) s = same refl refl
  stmt_does bodies (raises e) s = same refl refl
  stmt_does bodies (encloses ds fs hs) s = same refl refl

  stmts_do : (bodies : List BodyForm) (fs : StmtsForm) (s : State) → Does types s.heap (stmts_next named types bodies fs s)
  stmts_do bodies no_stmts s = same refl refl
  stmts_do bodies (a_stmt f fs) s = stmt_does bodies f (at (frame.Does fs ∷ s.control) s)

  line_does : (read : Option ℤ) (s : State) → Does types s.heap (line_next named read s)
  line_does None s = tt
  line_does (Some i) s = same refl refl

  record_does : (x t : ℕ) (initial : Option (List ItemForm)) (s : State) → Does types s.heap (record_next named types x t initial s)
  record_does x t None s = adds (new_object (record_cell named types t (height s.masters) (initial_values named (reached_of types t)))) refl refl refl
  record_does x t (Some items) s = same refl refl

  declaration_does : (d : DeclarationForm) (s : State) → Does types s.heap (declaration_next named types d s)
  declaration_does (creates_pool pool) s = same refl refl
  declaration_does (collects access) s = same refl refl
  declaration_does (declares x right) s = same refl refl
  declaration_does (declares_record x t initial) s = record_does x t initial s

  declarations_do : (ds : List DeclarationForm) (fs : StmtsForm) (hs : HandlersForm) (s : State) → Does types s.heap (declarations_next named types ds fs hs s)
  declarations_do [] fs hs s = same refl refl
  declarations_do (d ∷ ds) fs hs s = declaration_does d (at (frame.Elaborates ds fs hs ∷ s.control) s)

  -- The leaving of a master.
  taken_does :
      (cause : Cause) (pool : Option ℕ) (v : Value) (found : Found (Cell Value)) (s : State)
      → Deed types s.heap Quiet (taken_out named types cause pool v found s).heap
  taken_does cause pool v on_null s = parts v refl refl
  taken_does cause pool v on_gone s = parts v refl refl
  taken_does cause pool v on_other s = parts v refl refl
  taken_does cause pool v (finds cell) s = parts v refl refl

  members_do :
      (cause : Cause) (pool : Option ℕ) (vs : List Value) (s : State)
      → Does types s.heap (members_next named types cause pool vs s)
  members_do cause pool [] s = same refl refl
  members_do cause pool (v ∷ vs) s =
      λ i. taken_does cause pool (slice_index_or (v ∷ vs) i Null) (look s.heap (slice_index_or (v ∷ vs) i Null)) s

  item_leave_does : (m : ℕ) (item : Item) (owned : Owned) (s : State) → Does types s.heap (item_leave_next named types m item owned s)
  item_leave_does m item (declared x) s = same refl refl
  item_leave_does m item (collection access pool) s = members_do (Leaving m item.number) pool (members s.heap item.number) s
  item_leave_does m item (record_object t) s = members_do (Leaving m item.number) None (members s.heap item.number) s
  item_leave_does m item (storage_pool declaration number) s = same refl refl

  master_leave_does :
      (mode : Mode) (m : ℕ) (items : List Item) (s : State)
      → Does types s.heap (master_leave_next named types mode m items s)
  master_leave_does mode m [] s = same refl refl
  master_leave_does mode m (item ∷ items) s = item_leave_does m item item.owned (at (frame.Leaves mode ∷ s.control) s)

  leave_does : (mode : Mode) (ms : List Master) (s : State) → Does types s.heap (leave_next named types mode ms s)
  leave_does mode [] s = tt
  leave_does mode (m ∷ ms) s = master_leave_does mode m.number m.items s

  -- The treatment of an object.
  born_does :
      (v : Value) (by : Birth) (done : List OnePart) (of part : ℕ) (tasks : List Task) (state : Option PartState) (s : State)
      → Does types s.heap (born_next named v by done of part tasks state s)
  born_does v by done of part tasks None s = tt
  born_does v by done of part tasks (Some p) s = bears v part (counted s.born) refl refl

  -- Where the body of an operation begins, the heap is as the step has left it.
  operation_does :
      (xs : Heap) (procedure : ℕ) (b : Option BodyForm) (reference : Value) (behind : List (Frame Value)) (event : Event) (s : State)
      → Deed types xs event s.heap → Does types xs (operation_next named procedure b reference behind event s)
  operation_does xs procedure None reference behind event s deed = tt
  operation_does xs procedure (Some b) reference behind event s deed = deed

  begun_does :
      (bodies : List BodyForm) (v : Value) (by : Birth) (done : List OnePart) (of part : ℕ) (tasks : List Task) (operation : Option ℕ)
      (state : Option PartState) (s : State) → Does types s.heap (begun_next named bodies v by done of part tasks operation state s)
  begun_does bodies v by done of part tasks operation None s = tt
  begun_does bodies v by done of part tasks None (Some p) s = born_does v by done of part tasks (Some p) s
  begun_does bodies v by done of part tasks (Some procedure) (Some p) s =
      let behind = frame.Awaits v by done of part tasks ∷ s.control in
      operation_does s.heap procedure (slice_get bodies procedure) (part_reference named v part p) behind Quiet s (same refl refl)

  awaited_does :
      (v : Value) (by : Birth) (done : List OnePart) (of part : ℕ) (tasks : List Task) (found : Found (Cell Value)) (s : State)
      → Does types s.heap (awaited_next named v by done of part tasks found s)
  awaited_does v by done of part tasks on_null s = tt
  awaited_does v by done of part tasks on_gone s = tt
  awaited_does v by done of part tasks on_other s = tt
  awaited_does v by done of part tasks (finds cell) s = born_does v by done of part tasks (slice_get cell.parts part) s

  ended_does :
      (xs : Heap) (bodies : List BodyForm) (v : Value) (part : ℕ) (p : PartState) (behind : List (Frame Value)) (operation : Option ℕ) (event : Event)
      (s : State) → Deed types xs event s.heap → Does types xs (ended_next named bodies v part p behind operation event s)
  ended_does xs bodies v part p behind None event s deed = deed
  ended_does xs bodies v part p behind (Some procedure) event s deed =
      operation_does xs procedure (slice_get bodies procedure) (part_reference named v part p) (frame.Confines ∷ behind) event s deed

  finalized_does :
      (bodies : List BodyForm) (v : Value) (cause : Cause) (of part : ℕ) (tasks : List Task) (operation : Option ℕ) (state : Option PartState) (s : State)
      → Does types s.heap (finalized_next named bodies v cause of part tasks operation state s)
  finalized_does bodies v cause of part tasks operation None s = tt
  finalized_does bodies v cause of part tasks operation (Some p) s = by_life p.alive
    where
      behind : List (Frame Value)
      behind = treating v (frame.ends cause) tasks s.control

      event : Event
      event = Finalized v part p.turn of p.number cause

      by_life :
          (alive : Bool)
          → Does types s.heap
          (if alive then ended_next named bodies v part p behind operation event (record s { heap = finalize s.heap v part })
          else halts (Erroneous FinalizesTwice))
      by_life true = ended_does s.heap bodies v part p behind operation event (record s { heap = finalize s.heap v part }) (finalizes v part refl refl)
      by_life false = tt

  performed_does :
      (bodies : List BodyForm) (v : Value) (treatment : Treatment) (of part : ℕ) (tasks : List Task)
      (found : Found (Cell Value)) (s : State) → Does types s.heap (performed_next named types bodies v treatment of part tasks found s)
  performed_does bodies v treatment of part tasks on_null s = tt
  performed_does bodies v treatment of part tasks on_gone s = tt
  performed_does bodies v treatment of part tasks on_other s = tt
  performed_does bodies v (frame.begins by done) of part tasks (finds cell) s =
      begun_does bodies v by done of part tasks (beginning by (operations_of types of)) (slice_get cell.parts part) s
  performed_does bodies v (frame.ends cause) of part tasks (finds cell) s =
      finalized_does bodies v cause of part tasks (procedure_number (operations_of types of).finalize) (slice_get cell.parts part) s

  picked_does :
      (none : Bool) (count : ℕ) (taking : ℕ → State) (s : State) → ((i : ℕ) → (taking i).heap ≡ s.heap)
      → Does types s.heap (if none then halts Stuck else picks count taking)
  picked_does true count taking s h = tt
  picked_does false count taking s h = λ i. same refl (h i)

  treats_do :
      (bodies : List BodyForm) (v : Value) (treatment : Treatment) (tasks : List Task) (follows : Follows) (s : State)
      → Does types s.heap (treats_next named types bodies v treatment tasks follows s)
  treats_do bodies v treatment tasks Done s = same refl refl
  treats_do bodies v treatment tasks (Pick count) s =
      picked_does (count == 0) count (λ i. treated_on named v treatment (picked_task (shapes_of types) (direction_of treatment) tasks i) s) s (λ i. refl)
  treats_do bodies v treatment tasks (Perform of part) s = performed_does bodies v treatment of part (performed tasks) (look s.heap v) s

  -- Each frame that is taken off.
  frame_does : (bodies : List BodyForm) (f : Frame Value) (s : State) → Does types s.heap (frame_next named types bodies f s)
  frame_does bodies (frame.Elaborates ds fs hs) s = declarations_do ds fs hs s
  frame_does bodies (frame.Does fs) s = stmts_do bodies fs s
  frame_does bodies (frame.Decides fs branches) s = decided_does fs branches (reads_boolean (newest named s)) (popped s)
  frame_does bodies (frame.Repeats condition fs) s = repeats_do condition fs s
  frame_does bodies (frame.Turns condition fs) s = turned_does condition fs (reads_boolean (newest named s)) (popped s)
  frame_does bodies (frame.Ranges x fs) s =
      ranges_do x fs (reads_integer (newest named (popped s))) (reads_integer (newest named s)) (popped (popped s))
  frame_does bodies (frame.Counts x value last fs) s = counts_do x value last fs s
  frame_does bodies frame.Exits s = exited_does (reads_boolean (newest named s)) (popped s)
  frame_does bodies (frame.Handles hs) s = same refl refl
  frame_does bodies frame.Closes s = same refl refl
  frame_does bodies (frame.Leaves mode) s = leave_does mode s.masters s
  frame_does bodies (frame.Calls procedure b actuals) s = same refl refl
  frame_does bodies (frame.Returns actuals references) s = same refl refl
  frame_does bodies (frame.Evaluates right) s = right_does right s
  frame_does bodies (frame.Computes e) s = expression_does e s
  frame_does bodies (frame.Follows cs) s = path_does cs (newest named s) (popped s)
  frame_does bodies (frame.TestsNull equal) s = null_test_does equal (reads_null (newest named s)) (popped s)
  frame_does bodies (frame.Refers p) s = record_holder_does p (λ place. frame.RefersIn place p.record_type) s
  frame_does bodies (frame.RefersIn place t) s =
      refers_do (newest named s) place (width_of types t) (look s.heap (newest named s)) (popped s)
  frame_does bodies (frame.Opens path) s = open_does path.selectors path.root s
  frame_does bodies (frame.OpensIn c) s = opens_do (newest named s) c (look s.heap (newest named s)) (popped s)
  frame_does bodies (frame.Continues links) s = links_do links s
  frame_does bodies (frame.Applies operator) s = outcome_does (binary_given operator (newest named (popped s)) (newest named s)) (popped (popped s))
  frame_does bodies (frame.AppliesAlone operator) s = outcome_does (unary_given operator (newest named s)) (popped s)
  frame_does bodies (frame.Fills items) s = items_do items s
  frame_does bodies (frame.Copies first t) s = copies_do (newest named s) first (width_of types t) (look s.heap (newest named s)) (popped s)
  frame_does bodies (frame.Creates access count) s = new_does access count (words_of types access) (home_of access s.masters) s
  frame_does bodies (frame.Stores x) s = same refl refl
  frame_does bodies (frame.Targets c right) s = target_does (newest named s) c right (look s.heap (newest named s)) (popped s)
  frame_does bodies (frame.StoresIn object c) s = store_does object c (newest named s) (look s.heap object) (popped s)
  frame_does bodies (frame.TargetsRecord first t items) s =
      record_target_does (newest named s) first (width_of types t) items (look s.heap (newest named s)) (popped s)
  frame_does bodies (frame.StoresRecord object first count) s = store_record_does object first count (look s.heap object) s
  frame_does bodies (frame.Assigns t) s =
      assigns_do t (newest named (popped s)) (newest named s) (meaning.same (newest named (popped s)) (newest named s)) (popped (popped s))
  frame_does bodies (frame.Receives c) s = receive_does (newest named s) c (look s.heap (newest named s)) (popped s)
  frame_does bodies (frame.FreesIn access c) s = free_in_does access (newest named s) c (look s.heap (newest named s)) (popped s)
  frame_does bodies (frame.Declares x) s = same refl refl
  frame_does bodies (frame.DeclaresRecord x t) s =
      adds (new_object (record_cell named types t (height s.masters) (newest_ones named (words_of types t) s))) refl refl refl
  frame_does bodies (frame.Treats v treatment tasks) s = treats_do bodies v treatment tasks (task_next tasks) s
  frame_does bodies (frame.Awaits v by done of part tasks) s = awaited_does v by done of part tasks (look s.heap v) s
  frame_does bodies frame.Confines s = same refl refl
  frame_does bodies (frame.Resumes mode) s = same refl refl
  frame_does bodies frame.Writes s = line_does (reads_integer (newest named s)) (popped s)
  frame_does bodies (frame.Ends v) s = end_does v (look s.heap v) s
  frame_does bodies (frame.GivesBack v cause pool) s = back_does v cause pool s
  frame_does bodies (frame.Clears x) s = same refl refl
  frame_does bodies (frame.ClearsIn object c) s = store_does object c Null (look s.heap object) s

  running_does : (bodies : List BodyForm) (k : List (Frame Value)) (s : State) → Does types s.heap (running_next named types bodies k s)
  running_does bodies [] s = tt
  running_does bodies (f ∷ k) s = frame_does bodies f (at k s)

  -- Where an exception comes out of an Initialize, its object leaves its collection.
  undo_does : (e : Exception) (v : Value) (done : List OnePart) (found : Found (Cell Value)) (s : State) → Does types s.heap (undo_next named e v done found s)
  undo_does e v done on_null s = tt
  undo_does e v done on_gone s = tt
  undo_does e v done on_other s = tt
  undo_does e v done (finds cell) s = parts v refl refl

  broken_does : (e : Exception) (v : Value) (by : Birth) (done : List OnePart) (s : State) → Does types s.heap (broken_next named e v by done s)
  broken_does e v Creation done s = undo_does e v done (look s.heap v) s
  broken_does e v Copy done s = tt
  broken_does e v (Adjustment number) done s = tt

  off_does : (mode : Mode) (v : Value) (by : Birth) (done : List OnePart) (s : State) → Does types s.heap (broken_off named mode v by done s)
  off_does Running v by done s = tt
  off_does (Raising e) v by done s = broken_does e v by done s
  off_does Exiting v by done s = tt
  off_does Returning v by done s = tt

  landed_does : (l : Landing Value) (mode : Mode) (s : State) → Does types s.heap (landed named l mode s)
  landed_does passes_on mode s = same refl refl
  landed_does goes_behind mode s = same refl refl
  landed_does (goes_in no_stmts) mode s = tt
  landed_does (goes_in (a_stmt f fs)) mode s = same refl refl
  landed_does (breaks_off v by done) mode s = off_does mode v by done s
  landed_does escapes mode s = tt

  pass_does : (master : Bool) (l : Landing Value) (mode : Mode) (s : State) → Does types s.heap (pass_next named master l mode s)
  pass_does true l mode s = same refl refl
  pass_does false l mode s = landed_does l mode s

  jump_does : (mode : Mode) (k : List (Frame Value)) (s : State) → Does types s.heap (jump_next named mode k s)
  jump_does mode [] s = tt
  jump_does mode (f ∷ k) s = rw (unwound_by mode f (at k s)) (pass_does (is_master f) (landing mode f) mode (unwound_to mode f (at k s)))

  mode_does : (bodies : List BodyForm) (mode : Mode) (s : State) → Does types s.heap (mode_next named types bodies mode s)
  mode_does bodies Running s = running_does bodies s.control s
  mode_does bodies (Raising e) s = jump_does (Raising e) s.control s
  mode_does bodies Exiting s = jump_does Exiting s.control s
  mode_does bodies Returning s = jump_does Returning s.control s

  next_does : (bodies : List BodyForm) (s : State) → Does types s.heap (next types bodies s)
  unfolding next
  next_does bodies s = mode_does bodies s.mode s

led : (types : List TypeDefinition) (xs : Heap) (coming : Next) (choice : Choice) (e : Event) (after : State) → Does types xs coming → Leads coming choice e after → Deed types xs e after.heap
led types xs (halts halt) choice e after d l = absurd l
led types xs (moves shown s) settled e after d l = rw (l.0, l.1) d
led types xs (moves shown s) (grants granted) e after d l = absurd l
led types xs (moves shown s) (takes i) e after d l = absurd l
led types xs (tells request shown s) settled e after d l = rw (l.0, l.1) d
led types xs (tells request shown s) (grants granted) e after d l = absurd l
led types xs (tells request shown s) (takes i) e after d l = absurd l
led types xs (asks request answers) settled e after d l = absurd l
led types xs (asks request answers) (grants granted) e after d l = rw (l.0, l.1) (d granted)
led types xs (asks request answers) (takes i) e after d l = absurd l
led types xs (picks n taking) settled e after d l = absurd l
led types xs (picks n taking) (grants granted) e after d l = absurd l
led types xs (picks n taking) (takes i) e after d l = rw (l.1, l.2) (d i)

pub step_deed : (program : Program) (s after : State) (choice : Choice) (e : Event) → Step program s choice e after → Deed program.types.items s.heap e after.heap
step_deed program s after choice e l =
    led program.types.items s.heap (next program.types.items (body_forms program) s) choice e after (next_does program.types.items (body_forms program) s) l
