-- Each step, from any state: what it asks of the pools, and tells them, and for which objects words are out.

use Rattle.std.proofs.Common.{◌≡◌, ◌≢◌, ℕ, zero, suc, ◌+◌, ℤ, int_le, Bool, true, false, ◌==◌, if◌then◌else◌, List, [], ◌∷◌, ◌++◌, drop, Option, Some, None, Result, Ok, Err, refl, sym, ap, ◌∙◌, subst}
use Rattle.std.specs.List.{slice_get, slice_set, slice_index_or}
use Rattle.ada_program.specs.declared.program.Exception.{Exception}
use Rattle.ada_program.specs.declared.program.Program.{Program}
use Rattle.ada_program.specs.declared.program.TypeDefinition.{TypeDefinition}
use Rattle.ada_program.specs.Form.{RecordPathForm, ActualForm, ExpressionForm, integer, boolean, reads, is_null, applied_to, chained, LinksForm, no_more_links, a_link, ItemForm, null_item, item_of_path, item_of_value, item_of_record, RightForm, nothing, value_of, allocates, allocates_default, computes, StmtForm, skips, assigns, assigns_record, frees, gets, writes, writes_text, chooses, repeats, counts, exits, calls, raises, encloses, StmtsForm, no_stmts, a_stmt, BranchesForm, otherwise, a_branch, HandlersForm, DeclarationForm, creates_pool, collects, declares, declares_record}
use Rattle.ada_program.specs.Form as form
use Rattle.ada_program.specs.ProgramForm.{BodyForm, body_forms}
use Rattle.ada_program.specs.Controlled.{shapes_of, operations_of, procedure_number}
use Rattle.ada_parts.specs.declared.tasks.Next.{Next as Follows}
use Rattle.ada_parts.specs.declared.tasks.Next.TheVariants.{Done, Pick, Perform}
use Rattle.ada_parts.specs.Part.{Part as OnePart}
use Rattle.ada_parts.specs.Task.{Task, performed, next as task_next}
use Rattle.ada_program.specs.Typed.{reached_of, words_of, width_of}
use Rattle.ada_values.specs.declared.operator.BinaryOperator.{BinaryOperator}
use Rattle.ada_values.specs.declared.fault.OperatorFault.{OperatorFault}
use Rattle.ada_values.specs.declared.fault.OperatorFault.TheVariants.{Overflow, DivisionByZero, WrongType}
use Rattle.ada_meaning.specs.declared.state.Id.{Id}
use Rattle.ada_meaning.specs.declared.state.Place.{Place}
use Rattle.ada_meaning.specs.declared.state.Value.{Value}
use Rattle.ada_meaning.specs.declared.state.Value.TheVariants.{Null, Names, Scalar, Part}
use Rattle.ada_meaning.specs.declared.state.Mode.{Mode}
use Rattle.ada_meaning.specs.declared.state.Mode.TheVariants.{Running, Raising, Exiting, Returning}
use Rattle.ada_meaning.specs.declared.event.Birth.{Birth}
use Rattle.ada_meaning.specs.declared.event.Birth.TheVariants.{Creation, Copy, Adjustment}
use Rattle.ada_meaning.specs.declared.event.Cause.{Cause}
use Rattle.ada_meaning.specs.declared.event.Cause.TheVariants.{Leaving}
use Rattle.ada_meaning.specs.declared.event.Halt.TheVariants.{Erroneous, Stuck}
use Rattle.ada_meaning.specs.declared.event.Why.TheVariants.{GivesElsewhere, FinalizesTwice}
use Rattle.ada_meaning.specs.Event.{Back, Finalized, Followed, Quiet}
use Rattle.ada_meaning.specs.Frame.{Treatment, Frame, is_master, Landing, passes_on, goes_behind, goes_in, breaks_off, escapes, landing}
use Rattle.ada_meaning.specs.Frame as frame
use Rattle.ada_meaning.specs.State.{Activation, Owned, declared, collection, record_object, storage_pool, Item, Master, Destination, height, home_of, pool_freed_to, counted}
use Rattle.ada_meaning.specs.Heap.{PartState, Cell, Found, on_null, on_gone, on_other, finds}
use Rattle.ada_meaning.specs.Step.{picked_task, direction_of, treating, treated_on, operation_next, part_reference, beginning, born_next, begun_next, awaited_next, ended_next, finalized_next, performed_next, treats_next, freeing, freeing_next, undo_next, broken_next, broken_off, taken_out, picks, first_or, operands_of, with_operands, operands, same_pool, told_back, record_cell, record_in, stored_from, newest_ones, without_newest, initial_values, copied_next, copies_next, record_target_next, record_stored_next, store_record_next, assigns_next, copy_next, record_assign_next, has_parts, record_next, halts, moves, at, popped, held, newest, component_next, follow_next, path_next, selected, named_next, holder_next, place_in, record_holder_next, referred_next, refers_next, open_next, opened_next, opens_next, expression_next, null_test_next, is_decided, link_next, links_next, outcome_next, item_next, items_next, new_next, new_cell, right_next, free_next, end_next, given_back, back_next, before_last, last_of, assign_next, target_next, stored_next, store_next, received_next, receive_next, frees_next, freed_next, free_component_next, free_in_next, branches_next, decided_next, turn_next, repeats_next, turned_next, count_turn_next, counts_next, ranges_next, gets_next, exit_next, exited_next, call_next, stmt_next, stmts_next, line_next, declaration_next, declarations_next, members_next, item_leave_next, master_leave_next, leave_next, frame_next, landed, pass_next, running_next, jump_next, mode_next}
use Rattle.ada_meaning.specs.Named.{same, born_part, finalized_part, treated, finalize, Object, State, Next, next, named, whole, inside, look, lent, lent_by, standing, reads_boolean, reads_null, reads_integer, unary_given, binary_given, members, object_at, changed, on_object, new_object, parted, finished, returned, filled, store, an_integer}
use Rattle.ada_meaning.specs.Run.{Event}
use Rattle.ada_meaning.proofs.Jumps.{unwound_to, unwound_by}
use Rattle.ada_order.specs.Requests.{next_name, lent_from, SameAreLent, GoesBack, GoesBackUntold, RequestsFit}

abbrev Heap : Type 0
Heap = List Object

-- An object that changes, and whose words are out from the same pool as before.
set_same : (xs : Heap) (n : ℕ) (x y : Object) → slice_get xs n ≡ Some x → lent_from (Some y) ≡ lent_from (Some x) → (m : ℕ) → lent_from (slice_get (slice_set xs n y) m) ≡ lent_from (slice_get xs m)
set_same [] n x y is kept m = refl
set_same (z ∷ xs) zero x y is kept zero = kept ∙ ap lent_from (sym is)
set_same (z ∷ xs) zero x y is kept (suc m) = refl
set_same (z ∷ xs) (suc n) x y is kept zero = refl
set_same (z ∷ xs) (suc n) x y is kept (suc m) = set_same xs n x y is kept m

changed_same : (change : Object → Object) (xs : Heap) (o : Id) (at_o : Option Object) → ((x : Object) → lent_from (Some (change x)) ≡ lent_from (Some x)) → object_at xs o ≡ at_o → SameAreLent xs (changed change at_o xs o)
changed_same change xs o None kept is = λ p. refl
changed_same change xs o (Some x) kept is = λ p. set_same xs o.0 x (change x) is (kept x) p.0

on_object_same : (change : Object → Object) (xs : Heap) (v : Value) → ((x : Object) → lent_from (Some (change x)) ≡ lent_from (Some x)) → SameAreLent xs (on_object change xs v)
on_object_same change xs Null kept = λ p. refl
on_object_same change xs (Names o) kept = changed_same change xs o (object_at xs o) kept refl
on_object_same change xs (Scalar v) kept = λ p. refl
on_object_same change xs (Part o place) kept = λ p. refl

parted_same : (xs : Heap) (v : Value) → SameAreLent xs (on_object parted xs v)
parted_same xs v = on_object_same parted xs v (λ x. refl)

finished_same : (xs : Heap) (v : Value) → SameAreLent xs (on_object finished xs v)
finished_same xs v = on_object_same finished xs v (λ x. refl)

filled_same : (xs : Heap) (o : Value) (c : ℕ) (v : Value) → SameAreLent xs (store xs o c v)
filled_same xs o c v = on_object_same (filled c v) xs o (λ x. refl)

part_same : (change : PartState → PartState) (part : ℕ) (xs : Heap) (v : Value) → SameAreLent xs (on_object (treated change part) xs v)
part_same change part xs v = on_object_same (treated change part) xs v (λ x. refl)

stored_same : (xs : Heap) (o : Value) (c : ℕ) (vs : List Value) → SameAreLent xs (stored_from named xs o c vs)
stored_same xs o c [] = λ p. refl
stored_same xs o c (v ∷ vs) = λ p. stored_same (store xs o c v) o (c + 1) vs p ∙ filled_same xs o c v p

-- A declared object, and one whose words go back to no pool.
appended_same : (xs : Heap) (cell : Cell Value) → cell.home.pool ≡ None → (m : ℕ) → lent_from (slice_get (xs ++ new_object cell ∷ []) m) ≡ lent_from (slice_get xs m)
appended_same [] cell none zero = none
appended_same [] cell none (suc m) = refl
appended_same (x ∷ xs) cell none zero = refl
appended_same (x ∷ xs) cell none (suc m) = appended_same xs cell none m

added_same : (xs : Heap) (cell : Cell Value) → cell.home.pool ≡ None → SameAreLent xs (xs ++ new_object cell ∷ [])
added_same xs cell none = λ p. appended_same xs cell none p.0

no_pool : (out : Bool) (pool : Option ℕ) → pool ≡ None → None ≡ (if out then pool else None)
no_pool true pool none = sym none
no_pool false pool none = refl

returned_same : (xs : Heap) (o : Id) (object : Object) → object_at xs o ≡ Some object → object.cell.home.pool ≡ None → SameAreLent xs (on_object returned xs (Names o))
returned_same xs o object is none =
    subst (λ (at_o : Option Object). SameAreLent xs (changed returned at_o xs o)) (sym is)
    (λ p. set_same xs o.0 object (returned object) is (no_pool object.out object.cell.home.pool none) p.0)

goes_back : (xs : Heap) (o : Id) (pool : Option ℕ) (cause : Cause) (object : Object) → object_at xs o ≡ Some object → object.out ≡ true → object.cell.home.pool ≡ pool → GoesBack xs o pool (Back (Names o) object.cell.access object.cell.number pool object.cell.home.subpool cause) (on_object returned xs (Names o))
goes_back xs o pool cause object is out from = record {
  object = object;
  cause = cause;
  there = is;
  out = out;
  from = from;
  shown = refl;
  back = ap (λ (f : Option Object). changed returned f xs o) is;
}

-- The newest operand, where an activation is there for it.
newest_names : (activations : List (Activation Value)) (v : Value) (vs : List Value) → with_operands (v ∷ vs) activations ≢ [] → first_or Null (operands_of (with_operands (v ∷ vs) activations)) ≡ v
newest_names [] v vs some = absurd (some refl)
newest_names (a ∷ suspended) v vs some = refl

module _ (types : List TypeDefinition) where
  -- What comes next from this state is so.
  abbrev Fits : State → Next → Type 0
  Fits s coming = RequestsFit types s.masters s.heap coming

  -- Paths and expressions.
  component_fits : (v : Value) (cs : List ℕ) (found : Option Value) (s : State) → Fits s (component_next named v cs found s)
  component_fits v cs None s = tt
  component_fits v [] (Some u) s = (tt, λ o. refl)
  component_fits v (c ∷ cs) (Some u) s = (tt, λ o. refl)

  follow_fits : (v : Value) (c : ℕ) (cs : List ℕ) (found : Found (Cell Value)) (s : State) → Fits s (follow_next named v c cs found s)
  follow_fits v c cs on_null s = (tt, λ o. refl)
  follow_fits v c cs on_gone s = tt
  follow_fits v c cs on_other s = tt
  follow_fits v c cs (finds cell) s = component_fits v cs (slice_get cell.values c) s

  path_fits : (cs : List ℕ) (v : Value) (s : State) → Fits s (path_next named cs v s)
  path_fits [] v s = (tt, λ o. refl)
  path_fits (c ∷ cs) v s = follow_fits v c cs (look s.heap v) s

  -- Paths that begin with a variable.
  named_fits : (cs : List ℕ) (x : ℕ) (s : State) → Fits s (named_next named cs x s)
  named_fits cs x s = path_fits (selected named (held named s x) cs) (whole (held named s x)) s

  holder_fits : (c : ℕ) (cs : List ℕ) (x : ℕ) (frame_of : ℕ → Frame Value) (s : State) → Fits s (holder_next named c cs x frame_of s)
  holder_fits c cs x frame_of s =
      let first = inside (held named s x) c in
      path_fits (before_last first cs) (whole (held named s x)) (at (frame_of (last_of first cs) ∷ s.control) s)

  record_holder_fits : (p : RecordPathForm) (frame_of : Place → Frame Value) (s : State) → Fits s (record_holder_next named p frame_of s)
  record_holder_fits p frame_of s =
      let v = held named s p.object.root in
      path_fits (selected named v p.object.selectors) (whole v) (at (frame_of (place_in named v p.object.selectors p) ∷ s.control) s)

  expression_fits : (e : ExpressionForm) (s : State) → Fits s (expression_next named e s)
  expression_fits (integer i) s = (tt, λ o. refl)
  expression_fits (boolean b) s = (tt, λ o. refl)
  expression_fits (reads path) s = named_fits path.selectors path.root s
  expression_fits (is_null equal path) s = named_fits path.selectors path.root (at (frame.TestsNull equal ∷ s.control) s)
  expression_fits (applied_to operator e) s = (tt, λ o. refl)
  expression_fits (chained e links) s = (tt, λ o. refl)

  null_test_fits : (equal : Bool) (null : Option Bool) (s : State) → Fits s (null_test_next named equal null s)
  null_test_fits equal None s = tt
  null_test_fits true (Some null) s = (tt, λ o. refl)
  null_test_fits false (Some null) s = (tt, λ o. refl)

  link_fits : (decided : Bool) (operator : BinaryOperator) (e : ExpressionForm) (links : LinksForm) (s : State) → Fits s (link_next named decided operator e links s)
  link_fits true operator e links s = (tt, λ o. refl)
  link_fits false operator e links s = (tt, λ o. refl)

  links_fit : (links : LinksForm) (s : State) → Fits s (links_next named links s)
  links_fit no_more_links s = (tt, λ o. refl)
  links_fit (a_link operator e links) s = link_fits (is_decided named operator (reads_boolean (newest named s))) operator e links s

  outcome_fits : (outcome : Result Value OperatorFault) (s : State) → Fits s (outcome_next named outcome s)
  outcome_fits (Ok v) s = (tt, λ o. refl)
  outcome_fits (Err Overflow) s = (tt, λ o. refl)
  outcome_fits (Err DivisionByZero) s = (tt, λ o. refl)
  outcome_fits (Err WrongType) s = tt

  -- Allocators, and what is assigned.
  item_fits : (item : ItemForm) (s : State) → Fits s (item_next named item s)
  item_fits null_item s = (tt, λ o. refl)
  item_fits (item_of_path path) s = named_fits path.selectors path.root s
  item_fits (item_of_value e) s = (tt, λ o. refl)
  item_fits (item_of_record p) s = record_holder_fits p (λ place. frame.Copies place.component p.record_type) s

  items_fit : (items : List ItemForm) (s : State) → Fits s (items_next named items s)
  items_fit [] s = (tt, λ o. refl)
  items_fit (i ∷ is) s = item_fits i (at (frame.Fills is ∷ s.control) s)

  -- A record that is copied.
  copied_fits : (o : Value) (found : Option (List Value)) (s : State) → Fits s (copied_next named o found s)
  copied_fits o None s = tt
  copied_fits o (Some vs) s = (tt, λ o. refl)

  copies_fit : (o : Value) (first count : ℕ) (found : Found (Cell Value)) (s : State) → Fits s (copies_next named o first count found s)
  copies_fit o first count on_null s = (tt, λ o. refl)
  copies_fit o first count on_gone s = tt
  copies_fit o first count on_other s = tt
  copies_fit o first count (finds cell) s = copied_fits o (record_in cell.values first count) s

  -- An allocator asks for its object.
  asks_for :
      (access count : ℕ) (home : Destination) (s : State) → home_of access s.masters ≡ Some home
      → Fits s (new_next named types access count (words_of types access) (Some home) s)
  asks_for access count home s is = record {
    cell = new_cell named types access count home s;
    home = home;
    is_open = is;
    housed = refl;
    asked = refl;
    granted = refl;
    designated = newest_names s.activations (Names (next_name s.heap)) (drop count (operands s));
    refused = refl;
    raised = refl;
  }

  new_fits :
      (access count : ℕ) (home : Option Destination) (s : State) → home_of access s.masters ≡ home
      → Fits s (new_next named types access count (words_of types access) home s)
  new_fits access count None s is = (tt, λ o. refl)
  new_fits access count (Some home) s is = asks_for access count home s is

  right_fits : (right : RightForm) (s : State) → Fits s (right_next named types right s)
  right_fits nothing s = (tt, λ o. refl)
  right_fits (value_of path) s = named_fits path.selectors path.root s
  right_fits (allocates access items) s = (tt, λ o. refl)
  right_fits (allocates_default access) s = (tt, λ o. refl)
  right_fits (computes e) s = (tt, λ o. refl)

  -- Free, and what it leads to.
  freeing_fits :
      (access : ℕ) (v : Value) (cell : Cell Value) (clears : Frame Value) (e : Event) (s : State) → ((after : Heap) → GoesBackUntold s.heap e after)
      → Fits s (freeing_next named types access v cell clears e s)
  freeing_fits access v cell clears e s untold = by_pool (same_pool (Some (pool_freed_to (home_of access s.masters))) cell.home.pool)
    where
      by_pool : (own : Bool) → Fits s (if own then moves e (freeing named types access v cell clears s) else halts (Erroneous GivesElsewhere))
      by_pool true = (untold (on_object parted s.heap v), parted_same s.heap v)
      by_pool false = tt

  free_fits : (access x : ℕ) (v : Value) (found : Found (Cell Value)) (s : State) → Fits s (free_next named types access x v found s)
  free_fits access x v on_null s = (tt, λ o. refl)
  free_fits access x v on_gone s = tt
  free_fits access x v on_other s = tt
  free_fits access x v (finds cell) s = freeing_fits access v cell (frame.Clears x) Quiet s (λ after. tt)

  end_fits : (v : Value) (found : Found (Cell Value)) (s : State) → Fits s (end_next named v found s)
  end_fits v on_null s = tt
  end_fits v on_gone s = tt
  end_fits v on_other s = tt
  end_fits v (finds cell) s = (tt, finished_same s.heap v)

  -- The words of an object go back.
  told_fits : (pool : Option ℕ) (o : Id) (cause : Cause) (object : Object) (s : State) → object_at s.heap o ≡ Some object → object.out ≡ true → object.cell.home.pool ≡ pool → Fits s (told_back named pool (Names o) (Back (Names o) object.cell.access object.cell.number pool object.cell.home.subpool cause) (record s { heap = on_object returned s.heap (Names o) }))
  told_fits None o cause object s is out from = ((o, goes_back s.heap o None cause object is out from), returned_same s.heap o object is from)
  told_fits (Some pool) o cause object s is out from = (pool, goes_back s.heap o (Some pool) cause object is out from)

  given_fits : (fits : Bool) (o : Id) (cause : Cause) (object : Object) (s : State) → object_at s.heap o ≡ Some object → object.out ≡ true → Fits s (if fits then given_back named (Names o) cause object.cell s else halts (Erroneous GivesElsewhere))
  given_fits true o cause object s is out = told_fits object.cell.home.pool o cause object s is out refl
  given_fits false o cause object s is out = tt

  out_fits : (out : Bool) (o : Id) (cause : Cause) (pool : Option ℕ) (object : Object) (s : State) → object_at s.heap o ≡ Some object → object.out ≡ out → Fits s (back_next named (Names o) cause pool (if out then finds object.cell else on_gone) s)
  out_fits true o cause pool object s is out = given_fits (same_pool pool object.cell.home.pool) o cause object s is out
  out_fits false o cause pool object s is out = tt

  lent_fits : (o : Id) (cause : Cause) (pool : Option ℕ) (at_o : Option Object) (s : State) → object_at s.heap o ≡ at_o → Fits s (back_next named (Names o) cause pool (lent_by at_o) s)
  lent_fits o cause pool None s is = tt
  lent_fits o cause pool (Some object) s is = out_fits object.out o cause pool object s is refl

  back_fits : (v : Value) (cause : Cause) (pool : Option ℕ) (s : State) → Fits s (back_next named v cause pool (lent s.heap v) s)
  back_fits Null cause pool s = tt
  back_fits (Names o) cause pool s = lent_fits o cause pool (object_at s.heap o) s refl
  back_fits (Scalar v) cause pool s = tt
  back_fits (Part o place) cause pool s = tt

  -- Statements and declarations.
  assign_fits : (cs : List ℕ) (x : ℕ) (right : RightForm) (s : State) → Fits s (assign_next named cs x right s)
  assign_fits [] x right s = (tt, λ o. refl)
  assign_fits (c ∷ cs) x right s = holder_fits c cs x (λ last. frame.Targets last right) s

  target_fits : (o : Value) (c : ℕ) (right : RightForm) (found : Found (Cell Value)) (s : State) → Fits s (target_next named o c right found s)
  target_fits o c right on_null s = (tt, λ o. refl)
  target_fits o c right on_gone s = tt
  target_fits o c right on_other s = tt
  target_fits o c right (finds cell) s = (tt, λ o. refl)

  stored_fits : (o : Value) (c : ℕ) (v : Value) (before : Option Value) (s : State) → Fits s (stored_next named o c v before s)
  stored_fits o c v None s = tt
  stored_fits o c v (Some before) s = (tt, filled_same s.heap o c v)

  store_fits : (o : Value) (c : ℕ) (v : Value) (found : Found (Cell Value)) (s : State) → Fits s (store_next named o c v found s)
  store_fits o c v on_null s = tt
  store_fits o c v on_gone s = tt
  store_fits o c v on_other s = tt
  store_fits o c v (finds cell) s = stored_fits o c v (slice_get cell.values c) s

  -- A record that is assigned to.
  record_target_fits : (o : Value) (first count : ℕ) (items : List ItemForm) (found : Found (Cell Value)) (s : State) → Fits s (record_target_next named o first count items found s)
  record_target_fits o first count items on_null s = (tt, λ o. refl)
  record_target_fits o first count items on_gone s = tt
  record_target_fits o first count items on_other s = tt
  record_target_fits o first count items (finds cell) s = (tt, λ o. refl)

  record_stored_fits : (o : Value) (first : ℕ) (vs : List Value) (before : Option (List Value)) (s : State) → Fits s (record_stored_next named o first vs before s)
  record_stored_fits o first vs None s = tt
  record_stored_fits o first vs (Some before) s = (tt, stored_same s.heap o first vs)

  store_record_fits : (o : Value) (first count : ℕ) (found : Found (Cell Value)) (s : State) → Fits s (store_record_next named o first count found s)
  store_record_fits o first count on_null s = tt
  store_record_fits o first count on_gone s = tt
  store_record_fits o first count on_other s = tt
  store_record_fits o first count (finds cell) s = record_stored_fits o first (newest_ones named count s) (record_in cell.values first count) (without_newest named count s)

  frees_fit : (cs : List ℕ) (access x : ℕ) (s : State) → Fits s (frees_next named types cs access x s)
  frees_fit [] access x s = free_fits access x (held named s x) (standing s.heap (held named s x)) s
  frees_fit (c ∷ cs) access x s = holder_fits c cs x (λ last. frame.FreesIn access last) s

  freed_fits : (access : ℕ) (o : Value) (c : ℕ) (v : Value) (found : Found (Cell Value)) (s : State) → Fits s (freed_next named types access o c v found s)
  freed_fits access o c v on_null s = (tt, λ o. refl)
  freed_fits access o c v on_gone s = tt
  freed_fits access o c v on_other s = tt
  freed_fits access o c v (finds cell) s = freeing_fits access v cell (frame.ClearsIn o c) (Followed o) s (λ after. tt)

  free_component_fits : (access : ℕ) (o : Value) (c : ℕ) (held : Option Value) (s : State) → Fits s (free_component_next named types access o c held s)
  free_component_fits access o c None s = tt
  free_component_fits access o c (Some v) s = freed_fits access o c v (standing s.heap v) s

  free_in_fits : (access : ℕ) (o : Value) (c : ℕ) (found : Found (Cell Value)) (s : State) → Fits s (free_in_next named types access o c found s)
  free_in_fits access o c on_null s = (tt, λ o. refl)
  free_in_fits access o c on_gone s = tt
  free_in_fits access o c on_other s = tt
  free_in_fits access o c (finds cell) s = free_component_fits access o c (slice_get cell.values c) s

  branches_fit : (branches : BranchesForm) (s : State) → Fits s (branches_next named branches s)
  branches_fit (otherwise fs) s = (tt, λ o. refl)
  branches_fit (a_branch e fs branches) s = (tt, λ o. refl)

  decided_fits : (fs : StmtsForm) (branches : BranchesForm) (truth : Option Bool) (s : State) → Fits s (decided_next named fs branches truth s)
  decided_fits fs branches None s = tt
  decided_fits fs branches (Some true) s = (tt, λ o. refl)
  decided_fits fs branches (Some false) s = branches_fit branches s

  turn_fits : (condition : Option ExpressionForm) (fs : StmtsForm) (s : State) → Fits s (turn_next named condition fs s)
  turn_fits condition no_stmts s = tt
  turn_fits condition (a_stmt f fs) s = (tt, λ o. refl)

  repeats_fit : (condition : Option ExpressionForm) (fs : StmtsForm) (s : State) → Fits s (repeats_next named condition fs s)
  repeats_fit None fs s = turn_fits None fs s
  repeats_fit (Some e) fs s = (tt, λ o. refl)

  turned_fits : (e : ExpressionForm) (fs : StmtsForm) (truth : Option Bool) (s : State) → Fits s (turned_next named e fs truth s)
  turned_fits e fs None s = tt
  turned_fits e fs (Some true) s = turn_fits (Some e) fs s
  turned_fits e fs (Some false) s = (tt, λ o. refl)

  count_turn_fits : (x : ℕ) (value last : ℤ) (fs : StmtsForm) (s : State) → Fits s (count_turn_next named x value last fs s)
  count_turn_fits x value last no_stmts s = tt
  count_turn_fits x value last (a_stmt f fs) s = (tt, λ o. refl)

  counted_fits : (turns : Bool) (x : ℕ) (value last : ℤ) (fs : StmtsForm) (s : State) → Fits s (if turns then count_turn_next named x value last fs s else moves Quiet s)
  counted_fits true x value last fs s = count_turn_fits x value last fs s
  counted_fits false x value last fs s = (tt, λ o. refl)

  counts_fit : (x : ℕ) (value last : ℤ) (fs : StmtsForm) (s : State) → Fits s (counts_next named x value last fs s)
  counts_fit x value last fs s = counted_fits (int_le value last) x value last fs s

  ranges_fit : (x : ℕ) (fs : StmtsForm) (low high : Option ℤ) (s : State) → Fits s (ranges_next named x fs low high s)
  ranges_fit x fs None high s = tt
  ranges_fit x fs (Some low) None s = tt
  ranges_fit x fs (Some low) (Some high) s = counts_fit x low high fs s

  gets_fit : (cs : List ℕ) (x : ℕ) (input : List ℤ) (s : State) → Fits s (gets_next named cs x input s)
  gets_fit (c ∷ cs) x input s = holder_fits c cs x frame.Receives s
  gets_fit [] x [] s = (tt, λ o. refl)
  gets_fit [] x (i ∷ is) s = (tt, λ o. refl)

  received_fits : (o : Value) (c : ℕ) (input : List ℤ) (before : Option Value) (s : State) → Fits s (received_next named o c input before s)
  received_fits o c input None s = tt
  received_fits o c [] (Some before) s = (tt, λ o. refl)
  received_fits o c (i ∷ is) (Some before) s = (tt, filled_same s.heap o c (an_integer i))

  receive_fits : (o : Value) (c : ℕ) (found : Found (Cell Value)) (s : State) → Fits s (receive_next named o c found s)
  receive_fits o c on_null s = (tt, λ o. refl)
  receive_fits o c on_gone s = tt
  receive_fits o c on_other s = tt
  receive_fits o c (finds cell) s = received_fits o c s.input (slice_get cell.values c) s

  exit_fits : (condition : Option ExpressionForm) (s : State) → Fits s (exit_next named condition s)
  exit_fits None s = (tt, λ o. refl)
  exit_fits (Some e) s = (tt, λ o. refl)

  exited_fits : (truth : Option Bool) (s : State) → Fits s (exited_next named truth s)
  exited_fits None s = tt
  exited_fits (Some true) s = (tt, λ o. refl)
  exited_fits (Some false) s = (tt, λ o. refl)

  -- What is given by reference.
  referred_fits : (o : Value) (place : Place) (found : Option (List Value)) (s : State) → Fits s (referred_next named o place found s)
  referred_fits o place None s = tt
  referred_fits o place (Some vs) s = (tt, λ o. refl)

  refers_fit : (o : Value) (place : Place) (count : ℕ) (found : Found (Cell Value)) (s : State) → Fits s (refers_next named o place count found s)
  refers_fit o place count on_null s = (tt, λ o. refl)
  refers_fit o place count on_gone s = tt
  refers_fit o place count on_other s = tt
  refers_fit o place count (finds cell) s = referred_fits o place (record_in cell.values place.component count) s

  open_fits : (cs : List ℕ) (x : ℕ) (s : State) → Fits s (open_next named cs x s)
  open_fits [] x s = tt
  open_fits (c ∷ cs) x s = holder_fits c cs x frame.OpensIn s

  opened_fits : (o : Value) (c : ℕ) (found : Option Value) (s : State) → Fits s (opened_next named o c found s)
  opened_fits o c None s = tt
  opened_fits o c (Some v) s = (tt, λ o. refl)

  opens_fit : (o : Value) (c : ℕ) (found : Found (Cell Value)) (s : State) → Fits s (opens_next named o c found s)
  opens_fit o c on_null s = (tt, λ o. refl)
  opens_fit o c on_gone s = tt
  opens_fit o c on_other s = tt
  opens_fit o c (finds cell) s = opened_fits o c (slice_get cell.values c) s

  -- A call, and the end of one.
  call_fits : (procedure : ℕ) (actuals : List ActualForm) (body : Option BodyForm) (s : State) → Fits s (call_next named procedure actuals body s)
  call_fits procedure actuals None s = tt
  call_fits procedure actuals (Some b) s = (tt, λ o. refl)

  -- A record that has controlled parts is assigned to another.
  copy_fits : (target : RecordPathForm) (items : List ItemForm) (s : State) → Fits s (copy_next named target items s)
  copy_fits target [] s = tt
  copy_fits target (null_item ∷ items) s = tt
  copy_fits target (item_of_path path ∷ items) s = tt
  copy_fits target (item_of_value e ∷ items) s = tt
  copy_fits target (item_of_record source ∷ []) s = (tt, λ o. refl)
  copy_fits target (item_of_record source ∷ item ∷ items) s = tt

  record_assign_fits : (parts : Bool) (target : RecordPathForm) (items : List ItemForm) (s : State) → Fits s (record_assign_next named parts target items s)
  record_assign_fits true target items s = copy_fits target items s
  record_assign_fits false target items s =
      record_holder_fits target (λ place. frame.TargetsRecord place.component target.record_type items) s

  assigns_fit : (t : ℕ) (target source : Value) (one : Option Bool) (s : State) → Fits s (assigns_next named types t target source one s)
  assigns_fit t target source None s = tt
  assigns_fit t target source (Some true) s = (tt, λ o. refl)
  assigns_fit t target source (Some false) s = (tt, λ o. refl)

  stmt_fits : (bodies : List BodyForm) (f : StmtForm) (s : State) → Fits s (stmt_next named types bodies f s)
  stmt_fits bodies skips s = (tt, λ o. refl)
  stmt_fits bodies (assigns target right) s = assign_fits target.selectors target.root right s
  stmt_fits bodies (assigns_record target items) s =
      record_assign_fits (has_parts types target.record_type) target items s
  stmt_fits bodies (frees access path) s = frees_fit path.selectors access path.root s
  stmt_fits bodies (gets target) s = gets_fit target.selectors target.root s.input s
  stmt_fits bodies (writes e) s = (tt, λ o. refl)
  stmt_fits bodies (writes_text text) s = (tt, λ o. refl)
  stmt_fits bodies (chooses branches) s = branches_fit branches s
  stmt_fits bodies (repeats condition fs end_spot) s = (tt, λ o. refl)
  stmt_fits bodies (counts x low high fs end_spot) s = (tt, λ o. refl)
  stmt_fits bodies (exits condition spot) s = exit_fits condition s
  stmt_fits bodies (calls procedure actuals) s = call_fits procedure actuals (slice_get bodies procedure) s
  stmt_fits bodies (form.returns spot) s = (tt, λ o. refl)
  stmt_fits bodies (raises e) s = (tt, λ o. refl)
  stmt_fits bodies (encloses ds fs hs) s = (tt, λ o. refl)

  stmts_fit : (bodies : List BodyForm) (fs : StmtsForm) (s : State) → Fits s (stmts_next named types bodies fs s)
  stmts_fit bodies no_stmts s = (tt, λ o. refl)
  stmts_fit bodies (a_stmt f fs) s = stmt_fits bodies f (at (frame.Does fs ∷ s.control) s)

  line_fits : (read : Option ℤ) (s : State) → Fits s (line_next named read s)
  line_fits None s = tt
  line_fits (Some i) s = (tt, λ o. refl)

  record_fits : (x t : ℕ) (initial : Option (List ItemForm)) (s : State) → Fits s (record_next named types x t initial s)
  record_fits x t None s = (tt, added_same s.heap (record_cell named types t (height s.masters) (initial_values named (reached_of types t))) refl)
  record_fits x t (Some items) s = (tt, λ o. refl)

  declaration_fits : (d : DeclarationForm) (s : State) → Fits s (declaration_next named types d s)
  declaration_fits (creates_pool pool) s = (refl, refl)
  declaration_fits (collects access) s = (tt, λ o. refl)
  declaration_fits (declares x right) s = (tt, λ o. refl)
  declaration_fits (declares_record x t initial) s = record_fits x t initial s

  declarations_fit : (ds : List DeclarationForm) (fs : StmtsForm) (hs : HandlersForm) (s : State) → Fits s (declarations_next named types ds fs hs s)
  declarations_fit [] fs hs s = (tt, λ o. refl)
  declarations_fit (d ∷ ds) fs hs s = declaration_fits d (at (frame.Elaborates ds fs hs ∷ s.control) s)

  -- The leaving of a master.
  taken_fits :
      (cause : Cause) (pool : Option ℕ) (v : Value) (found : Found (Cell Value)) (s : State)
      → SameAreLent s.heap (taken_out named types cause pool v found s).heap
  taken_fits cause pool v on_null s = parted_same s.heap v
  taken_fits cause pool v on_gone s = parted_same s.heap v
  taken_fits cause pool v on_other s = parted_same s.heap v
  taken_fits cause pool v (finds cell) s = parted_same s.heap v

  members_fit : (cause : Cause) (pool : Option ℕ) (vs : List Value) (s : State) → Fits s (members_next named types cause pool vs s)
  members_fit cause pool [] s = (tt, λ o. refl)
  members_fit cause pool (v ∷ vs) s =
      λ i. taken_fits cause pool (slice_index_or (v ∷ vs) i Null) (look s.heap (slice_index_or (v ∷ vs) i Null)) s

  item_leave_fits : (m : ℕ) (item : Item) (owned : Owned) (s : State) → Fits s (item_leave_next named types m item owned s)
  item_leave_fits m item (declared x) s = (tt, λ o. refl)
  item_leave_fits m item (collection access pool) s = members_fit (Leaving m item.number) pool (members s.heap item.number) s
  item_leave_fits m item (record_object t) s = members_fit (Leaving m item.number) None (members s.heap item.number) s
  item_leave_fits m item (storage_pool declaration number) s = (refl, refl)

  master_leave_fits : (mode : Mode) (m : ℕ) (items : List Item) (s : State) → Fits s (master_leave_next named types mode m items s)
  master_leave_fits mode m [] s = (tt, λ o. refl)
  master_leave_fits mode m (item ∷ items) s = item_leave_fits m item item.owned (at (frame.Leaves mode ∷ s.control) s)

  leave_fits : (mode : Mode) (ms : List Master) (s : State) → Fits s (leave_next named types mode ms s)
  leave_fits mode [] s = tt
  leave_fits mode (m ∷ ms) s = master_leave_fits mode m.number m.items s

  -- The body of an operation begins.
  operation_fits :
      (procedure : ℕ) (b : Option BodyForm) (reference : Value) (behind : List (Frame Value)) (e : Event) (before : Heap) (s : State)
      → GoesBackUntold before e s.heap → SameAreLent before s.heap
      → RequestsFit types s.masters before (operation_next named procedure b reference behind e s)
  operation_fits procedure None reference behind e before s untold same = tt
  operation_fits procedure (Some b) reference behind e before s untold same = (untold, same)

  -- The treatment of an object.
  born_fits :
      (v : Value) (by : Birth) (done : List OnePart) (of part : ℕ) (tasks : List Task) (state : Option PartState) (s : State)
      → Fits s (born_next named v by done of part tasks state s)
  born_fits v by done of part tasks None s = tt
  born_fits v by done of part tasks (Some state) s = (tt, part_same (born_part (counted s.born)) part s.heap v)

  begun_fits :
      (bodies : List BodyForm) (v : Value) (by : Birth) (done : List OnePart) (of part : ℕ) (tasks : List Task) (operation : Option ℕ)
      (state : Option PartState) (s : State) → Fits s (begun_next named bodies v by done of part tasks operation state s)
  begun_fits bodies v by done of part tasks operation None s = tt
  begun_fits bodies v by done of part tasks None (Some state) s = born_fits v by done of part tasks (Some state) s
  begun_fits bodies v by done of part tasks (Some procedure) (Some state) s =
      operation_fits procedure (slice_get bodies procedure) (part_reference named v part state) (frame.Awaits v by done of part tasks ∷ s.control) Quiet
      s.heap s tt (λ o. refl)

  awaited_fits :
      (v : Value) (by : Birth) (done : List OnePart) (of part : ℕ) (tasks : List Task) (found : Found (Cell Value)) (s : State)
      → Fits s (awaited_next named v by done of part tasks found s)
  awaited_fits v by done of part tasks on_null s = tt
  awaited_fits v by done of part tasks on_gone s = tt
  awaited_fits v by done of part tasks on_other s = tt
  awaited_fits v by done of part tasks (finds cell) s = born_fits v by done of part tasks (slice_get cell.parts part) s

  ended_fits :
      (bodies : List BodyForm) (v : Value) (part : ℕ) (state : PartState) (behind : List (Frame Value)) (operation : Option ℕ) (e : Event) (before : Heap)
      (s : State) → GoesBackUntold before e s.heap → SameAreLent before s.heap
      → RequestsFit types s.masters before (ended_next named bodies v part state behind operation e s)
  ended_fits bodies v part state behind None e before s untold same = (untold, same)
  ended_fits bodies v part state behind (Some procedure) e before s untold same =
      operation_fits procedure (slice_get bodies procedure) (part_reference named v part state) (frame.Confines ∷ behind) e before s untold same

  finalized_fits :
      (bodies : List BodyForm) (v : Value) (cause : Cause) (of part : ℕ) (tasks : List Task) (operation : Option ℕ) (state : Option PartState) (s : State)
      → Fits s (finalized_next named bodies v cause of part tasks operation state s)
  finalized_fits bodies v cause of part tasks operation None s = tt
  finalized_fits bodies v cause of part tasks operation (Some state) s = by_life state.alive
    where
      behind : List (Frame Value)
      behind = treating v (frame.ends cause) tasks s.control

      event : Event
      event = Finalized v part state.turn of state.number cause

      by_life :
          (alive : Bool)
          → Fits s
          (if alive then ended_next named bodies v part state behind operation event (record s { heap = finalize s.heap v part })
          else halts (Erroneous FinalizesTwice))
      by_life true =
          ended_fits bodies v part state behind operation event s.heap (record s { heap = finalize s.heap v part }) tt (part_same finalized_part part s.heap v)
      by_life false = tt

  performed_fits :
      (bodies : List BodyForm) (v : Value) (treatment : Treatment) (of part : ℕ) (tasks : List Task) (found : Found (Cell Value)) (s : State)
      → Fits s (performed_next named types bodies v treatment of part tasks found s)
  performed_fits bodies v treatment of part tasks on_null s = tt
  performed_fits bodies v treatment of part tasks on_gone s = tt
  performed_fits bodies v treatment of part tasks on_other s = tt
  performed_fits bodies v (frame.begins by done) of part tasks (finds cell) s =
      begun_fits bodies v by done of part tasks (beginning by (operations_of types of)) (slice_get cell.parts part) s
  performed_fits bodies v (frame.ends cause) of part tasks (finds cell) s =
      finalized_fits bodies v cause of part tasks (procedure_number (operations_of types of).finalize) (slice_get cell.parts part) s

  picked_fits :
      (none : Bool) (count : ℕ) (taking : ℕ → State) (s : State) → ((i : ℕ) → SameAreLent s.heap (taking i).heap)
      → Fits s (if none then halts Stuck else picks count taking)
  picked_fits true count taking s each = tt
  picked_fits false count taking s each = each

  treats_fit :
      (bodies : List BodyForm) (v : Value) (treatment : Treatment) (tasks : List Task) (follows : Follows) (s : State)
      → Fits s (treats_next named types bodies v treatment tasks follows s)
  treats_fit bodies v treatment tasks Done s = (tt, λ o. refl)
  treats_fit bodies v treatment tasks (Pick count) s =
      picked_fits (count == 0) count (λ i. treated_on named v treatment (picked_task (shapes_of types) (direction_of treatment) tasks i) s) s (λ i o. refl)
  treats_fit bodies v treatment tasks (Perform of part) s = performed_fits bodies v treatment of part (performed tasks) (look s.heap v) s

  -- Each frame that is taken off.
  frame_fits : (bodies : List BodyForm) (f : Frame Value) (s : State) → Fits s (frame_next named types bodies f s)
  frame_fits bodies (frame.Elaborates ds fs hs) s = declarations_fit ds fs hs s
  frame_fits bodies (frame.Does fs) s = stmts_fit bodies fs s
  frame_fits bodies (frame.Decides fs branches) s = decided_fits fs branches (reads_boolean (newest named s)) (popped s)
  frame_fits bodies (frame.Repeats condition fs) s = repeats_fit condition fs s
  frame_fits bodies (frame.Turns condition fs) s = turned_fits condition fs (reads_boolean (newest named s)) (popped s)
  frame_fits bodies (frame.Ranges x fs) s =
      ranges_fit x fs (reads_integer (newest named (popped s))) (reads_integer (newest named s)) (popped (popped s))
  frame_fits bodies (frame.Counts x value last fs) s = counts_fit x value last fs s
  frame_fits bodies frame.Exits s = exited_fits (reads_boolean (newest named s)) (popped s)
  frame_fits bodies (frame.Handles hs) s = (tt, λ o. refl)
  frame_fits bodies frame.Closes s = (tt, λ o. refl)
  frame_fits bodies (frame.Leaves mode) s = leave_fits mode s.masters s
  frame_fits bodies (frame.Calls procedure b actuals) s = (tt, λ o. refl)
  frame_fits bodies (frame.Returns actuals references) s = (tt, λ o. refl)
  frame_fits bodies (frame.Evaluates right) s = right_fits right s
  frame_fits bodies (frame.Computes e) s = expression_fits e s
  frame_fits bodies (frame.Follows cs) s = path_fits cs (newest named s) (popped s)
  frame_fits bodies (frame.TestsNull equal) s = null_test_fits equal (reads_null (newest named s)) (popped s)
  frame_fits bodies (frame.Refers p) s = record_holder_fits p (λ place. frame.RefersIn place p.record_type) s
  frame_fits bodies (frame.RefersIn place t) s =
      refers_fit (newest named s) place (width_of types t) (look s.heap (newest named s)) (popped s)
  frame_fits bodies (frame.Opens path) s = open_fits path.selectors path.root s
  frame_fits bodies (frame.OpensIn c) s = opens_fit (newest named s) c (look s.heap (newest named s)) (popped s)
  frame_fits bodies (frame.Continues links) s = links_fit links s
  frame_fits bodies (frame.Applies operator) s = outcome_fits (binary_given operator (newest named (popped s)) (newest named s)) (popped (popped s))
  frame_fits bodies (frame.AppliesAlone operator) s = outcome_fits (unary_given operator (newest named s)) (popped s)
  frame_fits bodies (frame.Fills items) s = items_fit items s
  frame_fits bodies (frame.Copies first t) s = copies_fit (newest named s) first (width_of types t) (look s.heap (newest named s)) (popped s)
  frame_fits bodies (frame.Creates access count) s = new_fits access count (home_of access s.masters) s refl
  frame_fits bodies (frame.Stores x) s = (tt, λ o. refl)
  frame_fits bodies (frame.Targets c right) s = target_fits (newest named s) c right (look s.heap (newest named s)) (popped s)
  frame_fits bodies (frame.StoresIn object c) s = store_fits object c (newest named s) (look s.heap object) (popped s)
  frame_fits bodies (frame.TargetsRecord first t items) s =
      record_target_fits (newest named s) first (width_of types t) items (look s.heap (newest named s)) (popped s)
  frame_fits bodies (frame.StoresRecord object first count) s = store_record_fits object first count (look s.heap object) s
  frame_fits bodies (frame.Assigns t) s =
      assigns_fit t (newest named (popped s)) (newest named s) (same (newest named (popped s)) (newest named s)) (popped (popped s))
  frame_fits bodies (frame.Receives c) s = receive_fits (newest named s) c (look s.heap (newest named s)) (popped s)
  frame_fits bodies (frame.FreesIn access c) s = free_in_fits access (newest named s) c (look s.heap (newest named s)) (popped s)
  frame_fits bodies (frame.Declares x) s = (tt, λ o. refl)
  frame_fits bodies (frame.DeclaresRecord x t) s =
      (tt, added_same s.heap (record_cell named types t (height s.masters) (newest_ones named (words_of types t) s)) refl)
  frame_fits bodies (frame.Treats v treatment tasks) s = treats_fit bodies v treatment tasks (task_next tasks) s
  frame_fits bodies (frame.Awaits v by done of part tasks) s = awaited_fits v by done of part tasks (look s.heap v) s
  frame_fits bodies frame.Confines s = (tt, λ o. refl)
  frame_fits bodies (frame.Resumes mode) s = (tt, λ o. refl)
  frame_fits bodies frame.Writes s = line_fits (reads_integer (newest named s)) (popped s)
  frame_fits bodies (frame.Ends v) s = end_fits v (look s.heap v) s
  frame_fits bodies (frame.GivesBack v cause pool) s = back_fits v cause pool s
  frame_fits bodies (frame.Clears x) s = (tt, λ o. refl)
  frame_fits bodies (frame.ClearsIn object c) s = store_fits object c Null (look s.heap object) s

  running_fits : (bodies : List BodyForm) (k : List (Frame Value)) (s : State) → Fits s (running_next named types bodies k s)
  running_fits bodies [] s = tt
  running_fits bodies (f ∷ k) s = frame_fits bodies f (at k s)

  -- An exception comes out of an operation that was to begin a part of an object.
  undo_fits : (x : Exception) (v : Value) (done : List OnePart) (found : Found (Cell Value)) (s : State) → Fits s (undo_next named x v done found s)
  undo_fits x v done on_null s = tt
  undo_fits x v done on_gone s = tt
  undo_fits x v done on_other s = tt
  undo_fits x v done (finds cell) s = (tt, parted_same s.heap v)

  broken_fits : (x : Exception) (v : Value) (by : Birth) (done : List OnePart) (s : State) → Fits s (broken_next named x v by done s)
  broken_fits x v Creation done s = undo_fits x v done (look s.heap v) s
  broken_fits x v Copy done s = tt
  broken_fits x v (Adjustment number) done s = tt

  off_fits : (mode : Mode) (v : Value) (by : Birth) (done : List OnePart) (s : State) → Fits s (broken_off named mode v by done s)
  off_fits Running v by done s = tt
  off_fits (Raising x) v by done s = broken_fits x v by done s
  off_fits Exiting v by done s = tt
  off_fits Returning v by done s = tt

  landed_fits : (l : Landing Value) (mode : Mode) (s : State) → Fits s (landed named l mode s)
  landed_fits passes_on mode s = (tt, λ o. refl)
  landed_fits goes_behind mode s = (tt, λ o. refl)
  landed_fits (goes_in no_stmts) mode s = tt
  landed_fits (goes_in (a_stmt f fs)) mode s = (tt, λ o. refl)
  landed_fits (breaks_off v by done) mode s = off_fits mode v by done s
  landed_fits escapes mode s = tt

  pass_fits : (master : Bool) (l : Landing Value) (mode : Mode) (s : State) → Fits s (pass_next named master l mode s)
  pass_fits true l mode s = (tt, λ o. refl)
  pass_fits false l mode s = landed_fits l mode s

  jump_fits : (mode : Mode) (k : List (Frame Value)) (s : State) → Fits s (jump_next named mode k s)
  jump_fits mode [] s = tt
  jump_fits mode (f ∷ k) s = rw (unwound_by mode f (at k s)) (pass_fits (is_master f) (landing mode f) mode (unwound_to mode f (at k s)))

  mode_fits : (bodies : List BodyForm) (mode : Mode) (s : State) → Fits s (mode_next named types bodies mode s)
  mode_fits bodies Running s = running_fits bodies s.control s
  mode_fits bodies (Raising e) s = jump_fits (Raising e) s.control s
  mode_fits bodies Exiting s = jump_fits Exiting s.control s
  mode_fits bodies Returning s = jump_fits Returning s.control s

  pub next_fits : (bodies : List BodyForm) (s : State) → Fits s (next types bodies s)
  unfolding next
  next_fits bodies s = mode_fits bodies s.mode s

-- So it is of each program.
pub requests_are_for_objects : (program : Program) (s : State) → RequestsFit program.types.items s.masters s.heap (next program.types.items (body_forms program) s)
requests_are_for_objects program s = next_fits program.types.items (body_forms program) s
