-- What is left to do assigns inside of formal parameters alone, behind paths, expressions, values, allocators and Free (4.1, 4.4, 4.8, 5.2, 13.11.2).

use Rattle.std.proofs.Common.{ℕ, Bool, true, false, if◌then◌else◌, List, [], ◌∷◌, length, Option, Some, None, Result, Ok, Err}
use Rattle.std.specs.List.{slice_get}
use Rattle.ada_program.specs.declared.program.TypeDefinition.{TypeDefinition}
use Rattle.ada_program.specs.Form.{RecordPathForm, ExpressionForm, integer, boolean, reads, is_null, applied_to, chained, LinksForm, no_more_links, a_link, ItemForm, null_item, item_of_path, item_of_value, item_of_record, RightForm, nothing, value_of, allocates, allocates_default, computes}
use Rattle.ada_values.specs.declared.operator.BinaryOperator.{BinaryOperator}
use Rattle.ada_values.specs.declared.fault.OperatorFault.{OperatorFault}
use Rattle.ada_values.specs.declared.fault.OperatorFault.TheVariants.{Overflow, DivisionByZero, WrongType}
use Rattle.ada_parts.specs.declared.tasks.Direction.TheVariants.{PartsFirst, WholeFirst}
use Rattle.ada_parts.specs.Task.{Task}
use Rattle.ada_meaning.specs.declared.event.Birth.TheVariants.{Creation}
use Rattle.ada_meaning.specs.declared.event.Cause.TheVariants.{Freeing}
use Rattle.ada_meaning.specs.declared.state.Place.{Place}
use Rattle.ada_meaning.specs.declared.state.Value.{Value}
use Rattle.ada_meaning.specs.declared.state.Value.TheVariants.{Names}
use Rattle.ada_meaning.specs.declared.event.Cause.{Cause}
use Rattle.ada_meaning.specs.declared.event.Halt.TheVariants.{Erroneous}
use Rattle.ada_meaning.specs.declared.event.Why.TheVariants.{GivesElsewhere}
use Rattle.ada_meaning.specs.Event.{Back, Followed, Quiet}
use Rattle.ada_meaning.specs.Frame.{Treatment, Frame}
use Rattle.ada_meaning.specs.Frame as frame
use Rattle.ada_meaning.specs.State.{Destination, home_of, pool_freed_to}
use Rattle.ada_meaning.specs.Heap.{Cell, Found, on_null, on_gone, on_other, finds}
use Rattle.ada_meaning.specs.Step.{halts, moves, all_tasks, treating, record_assign_next, at, held, newest, reading, component_next, follow_next, path_next, before_last, last_of, selected, named_next, holder_next, place_in, record_holder_next, referred_next, refers_next, open_next, opened_next, opens_next, expression_next, null_test_next, is_decided, link_next, links_next, outcome_next, item_next, items_next, copied_next, copies_next, newest_ones, without_newest, record_in, record_target_next, record_stored_next, store_record_next, answered, new_next, right_next, free_next, end_next, same_pool, told_back, given_back, back_next, freeing, freeing_next, freed_next, free_component_next, free_in_next}
use Rattle.ada_meaning.specs.Named.{State, named, whole, inside, look, returned, on_object, reads_boolean}
use Rattle.ada_meaning.specs.Run.{Event}
use Rattle.ada_assigned.proofs.Keeping.{Told, Keeps, AllKeep}

module _ (types : List TypeDefinition) (told : Told) where
  -- An object is treated first (7.6, 7.6.1).
  pub treating_keeps : (v : Value) (treatment : Treatment) (tasks : List Task) (k : List (Frame Value)) → Keeps types told k → Keeps types told (treating v treatment tasks k)
  treating_keeps v treatment [] k h = h
  treating_keeps v treatment (task ∷ tasks) k h = (tt, h)

  -- Paths and expressions (4.1, 4.4).
  reading_keeps : (cs : List ℕ) (v : Value) (s : State) → Keeps types told s.control → Keeps types told (reading named cs v s).control
  reading_keeps [] v s h = h
  reading_keeps (c ∷ cs) v s h = (tt, h)

  component_keeps : (v : Value) (cs : List ℕ) (found : Option Value) (s : State) → Keeps types told s.control
      → AllKeep types told (component_next named v cs found s)
  component_keeps v cs None s h = tt
  component_keeps v cs (Some u) s h = reading_keeps cs u s h

  follow_keeps : (v : Value) (c : ℕ) (cs : List ℕ) (found : Found (Cell Value)) (s : State) → Keeps types told s.control
      → AllKeep types told (follow_next named v c cs found s)
  follow_keeps v c cs on_null s h = h
  follow_keeps v c cs on_gone s h = tt
  follow_keeps v c cs on_other s h = tt
  follow_keeps v c cs (finds cell) s h = component_keeps v cs (slice_get cell.values c) s h

  pub path_keeps : (cs : List ℕ) (v : Value) (s : State) → Keeps types told s.control → AllKeep types told (path_next named cs v s)
  path_keeps [] v s h = h
  path_keeps (c ∷ cs) v s h = follow_keeps v c cs (look s.heap v) s h

  -- Where a path begins.
  pub named_keeps : (cs : List ℕ) (x : ℕ) (s : State) → Keeps types told s.control → AllKeep types told (named_next named cs x s)
  named_keeps cs x s h = path_keeps (selected named (held named s x) cs) (whole (held named s x)) s h

  pub holder_keeps : (c : ℕ) (cs : List ℕ) (x : ℕ) (frame_of : ℕ → Frame Value) (s : State)
      → ((n : ℕ) → Keeps types told (frame_of n ∷ s.control)) → AllKeep types told (holder_next named c cs x frame_of s)
  holder_keeps c cs x frame_of s n =
      path_keeps (before_last (inside (held named s x) c) cs) (whole (held named s x))
      (at (frame_of (last_of (inside (held named s x) c) cs) ∷ s.control) s) (n (last_of (inside (held named s x) c) cs))

  pub record_holder_keeps : (p : RecordPathForm) (frame_of : Place → Frame Value) (s : State)
      → ((place : Place) → Keeps types told (frame_of place ∷ s.control)) → AllKeep types told (record_holder_next named p frame_of s)
  record_holder_keeps p frame_of s n =
      path_keeps (selected named (held named s p.object.root) p.object.selectors) (whole (held named s p.object.root))
      (at (frame_of (place_in named (held named s p.object.root) p.object.selectors p) ∷ s.control) s)
      (n (place_in named (held named s p.object.root) p.object.selectors p))

  pub expression_keeps : (e : ExpressionForm) (s : State) → Keeps types told s.control → AllKeep types told (expression_next named e s)
  expression_keeps (integer i) s h = h
  expression_keeps (boolean b) s h = h
  expression_keeps (reads path) s h = named_keeps path.selectors path.root s h
  expression_keeps (is_null equal path) s h = named_keeps path.selectors path.root (at (frame.TestsNull equal ∷ s.control) s) (tt, h)
  expression_keeps (applied_to operator e) s h = (tt, (tt, h))
  expression_keeps (chained e links) s h = (tt, (tt, h))

  pub null_test_keeps : (equal : Bool) (null : Option Bool) (s : State) → Keeps types told s.control
      → AllKeep types told (null_test_next named equal null s)
  null_test_keeps equal None s h = tt
  null_test_keeps true (Some null) s h = h
  null_test_keeps false (Some null) s h = h

  link_keeps : (decided : Bool) (operator : BinaryOperator) (e : ExpressionForm) (links : LinksForm) (s : State) → Keeps types told s.control
      → AllKeep types told (link_next named decided operator e links s)
  link_keeps true operator e links s h = (tt, h)
  link_keeps false operator e links s h = (tt, (tt, (tt, h)))

  pub links_keeps : (links : LinksForm) (s : State) → Keeps types told s.control → AllKeep types told (links_next named links s)
  links_keeps no_more_links s h = h
  links_keeps (a_link operator e links) s h = link_keeps (is_decided named operator (reads_boolean (newest named s))) operator e links s h

  pub outcome_keeps : (outcome : Result Value OperatorFault) (s : State) → Keeps types told s.control
      → AllKeep types told (outcome_next named outcome s)
  outcome_keeps (Ok v) s h = h
  outcome_keeps (Err Overflow) s h = h
  outcome_keeps (Err DivisionByZero) s h = h
  outcome_keeps (Err WrongType) s h = tt

  -- Allocators, and what is assigned.
  item_keeps : (item : ItemForm) (items : List ItemForm) (s : State) → Keeps types told s.control → AllKeep types told (item_next named item (at (frame.Fills items ∷ s.control) s))
  item_keeps null_item items s h = (tt, h)
  item_keeps (item_of_path path) items s h = named_keeps path.selectors path.root (at (frame.Fills items ∷ s.control) s) (tt, h)
  item_keeps (item_of_value e) items s h = (tt, (tt, h))
  item_keeps (item_of_record p) items s h =
      record_holder_keeps p (λ place. frame.Copies place.component p.record_type) (at (frame.Fills items ∷ s.control) s) (λ place. (tt, (tt, h)))

  pub items_keeps : (items : List ItemForm) (s : State) → Keeps types told s.control → AllKeep types told (items_next named items s)
  items_keeps [] s h = h
  items_keeps (i ∷ is) s h = item_keeps i is s h

  -- Records as wholes.
  copied_keeps : (o : Value) (found : Option (List Value)) (s : State) → Keeps types told s.control
      → AllKeep types told (copied_next named o found s)
  copied_keeps o None s h = tt
  copied_keeps o (Some vs) s h = h

  pub copies_keeps : (o : Value) (first count : ℕ) (found : Found (Cell Value)) (s : State) → Keeps types told s.control
      → AllKeep types told (copies_next named o first count found s)
  copies_keeps o first count on_null s h = h
  copies_keeps o first count on_gone s h = tt
  copies_keeps o first count on_other s h = tt
  copies_keeps o first count (finds cell) s h = copied_keeps o (record_in cell.values first count) s h

  pub record_target_keeps : (o : Value) (first count : ℕ) (items : List ItemForm) (found : Found (Cell Value)) (s : State) → Keeps types told s.control
      → AllKeep types told (record_target_next named o first count items found s)
  record_target_keeps o first count items on_null s h = h
  record_target_keeps o first count items on_gone s h = tt
  record_target_keeps o first count items on_other s h = tt
  record_target_keeps o first count items (finds cell) s h = (tt, (tt, h))

  record_stored_keeps : (o : Value) (first : ℕ) (vs : List Value) (found : Option (List Value)) (s : State) → Keeps types told s.control
      → AllKeep types told (record_stored_next named o first vs found s)
  record_stored_keeps o first vs None s h = tt
  record_stored_keeps o first vs (Some before) s h = h

  pub store_record_keeps : (o : Value) (first count : ℕ) (found : Found (Cell Value)) (s : State) → Keeps types told s.control
      → AllKeep types told (store_record_next named o first count found s)
  store_record_keeps o first count on_null s h = tt
  store_record_keeps o first count on_gone s h = tt
  store_record_keeps o first count on_other s h = tt
  store_record_keeps o first count (finds cell) s h =
      record_stored_keeps o first (newest_ones named count s) (record_in cell.values first count) (without_newest named count s) h

  -- A record is assigned as a whole that has no controlled parts (5.2).
  pub plain_record_keeps : (target : RecordPathForm) (items : List ItemForm) (s : State) → Keeps types told s.control
      → AllKeep types told (record_assign_next named false target items s)
  plain_record_keeps target items s h =
      record_holder_keeps target (λ place. frame.TargetsRecord place.component target.record_type items) s (λ place. (tt, h))

  -- A new object is initialized (4.8).
  answered_keeps : (access count words : ℕ) (home : Destination) (s : State) (granted : Bool) → Keeps types told s.control
      → Keeps types told (answered named types access count words home s granted).control
  answered_keeps access count words home s true h =
      treating_keeps (Names (record { 0 = length s.heap })) (frame.begins Creation []) (all_tasks types access PartsFirst) s.control h
  answered_keeps access count words home s false h = h

  pub new_keeps : (access count words : ℕ) (home : Option Destination) (s : State) → Keeps types told s.control
      → AllKeep types told (new_next named types access count words home s)
  new_keeps access count words None s h = h
  new_keeps access count words (Some home) s h = λ granted. answered_keeps access count words home s granted h

  -- What is passed by reference, and the components that get something back.
  referred_keeps : (o : Value) (place : Place) (found : Option (List Value)) (s : State) → Keeps types told s.control
      → AllKeep types told (referred_next named o place found s)
  referred_keeps o place None s h = tt
  referred_keeps o place (Some vs) s h = h

  pub refers_keeps : (o : Value) (place : Place) (count : ℕ) (found : Found (Cell Value)) (s : State) → Keeps types told s.control
      → AllKeep types told (refers_next named o place count found s)
  refers_keeps o place count on_null s h = h
  refers_keeps o place count on_gone s h = tt
  refers_keeps o place count on_other s h = tt
  refers_keeps o place count (finds cell) s h = referred_keeps o place (record_in cell.values place.component count) s h

  pub open_keeps : (cs : List ℕ) (x : ℕ) (s : State) → Keeps types told s.control → AllKeep types told (open_next named cs x s)
  open_keeps [] x s h = tt
  open_keeps (c ∷ cs) x s h = holder_keeps c cs x frame.OpensIn s (λ n. (tt, h))

  opened_keeps : (o : Value) (c : ℕ) (found : Option Value) (s : State) → Keeps types told s.control
      → AllKeep types told (opened_next named o c found s)
  opened_keeps o c None s h = tt
  opened_keeps o c (Some v) s h = h

  pub opens_keeps : (o : Value) (c : ℕ) (found : Found (Cell Value)) (s : State) → Keeps types told s.control
      → AllKeep types told (opens_next named o c found s)
  opens_keeps o c on_null s h = h
  opens_keeps o c on_gone s h = tt
  opens_keeps o c on_other s h = tt
  opens_keeps o c (finds cell) s h = opened_keeps o c (slice_get cell.values c) s h

  pub right_keeps : (right : RightForm) (s : State) → Keeps types told s.control → AllKeep types told (right_next named types right s)
  right_keeps nothing s h = h
  right_keeps (value_of path) s h = named_keeps path.selectors path.root s h
  right_keeps (allocates access items) s h = (tt, (tt, h))
  right_keeps (allocates_default access) s h = (tt, h)
  right_keeps (computes e) s h = (tt, h)

  -- Free, and what it leads to.
  freeing_keeps : (access : ℕ) (v : Value) (cell : Cell Value) (clears : Frame Value) (s : State)
      → Keeps types told (clears ∷ s.control) → Keeps types told (freeing named types access v cell clears s).control
  freeing_keeps access v cell clears s h =
      let back = frame.GivesBack v (Freeing s.next) (Some (pool_freed_to (home_of access s.masters))) in
      treating_keeps v (frame.ends (Freeing s.next)) (all_tasks types cell.access WholeFirst) (frame.Ends v ∷ back ∷ clears ∷ s.control)
      (tt, (tt, h))

  -- It is erroneous where the object is of another pool.
  freeing_next_keeps : (access : ℕ) (v : Value) (cell : Cell Value) (clears : Frame Value) (event : Event) (s : State)
      → Keeps types told (clears ∷ s.control) → AllKeep types told (freeing_next named types access v cell clears event s)
  freeing_next_keeps access v cell clears event s h = by_pool (same_pool (Some (pool_freed_to (home_of access s.masters))) cell.home.pool)
    where
      by_pool : (own : Bool)
          → AllKeep types told (if own then moves event (freeing named types access v cell clears s) else halts (Erroneous GivesElsewhere))
      by_pool true = freeing_keeps access v cell clears s h
      by_pool false = tt

  pub free_keeps : (access x : ℕ) (v : Value) (found : Found (Cell Value)) (s : State) → Keeps types told s.control
      → AllKeep types told (free_next named types access x v found s)
  free_keeps access x v on_null s h = h
  free_keeps access x v on_gone s h = tt
  free_keeps access x v on_other s h = tt
  free_keeps access x v (finds cell) s h = freeing_next_keeps access v cell (frame.Clears x) Quiet s (tt, h)

  freed_keeps : (access : ℕ) (o : Value) (c : ℕ) (v : Value) (found : Found (Cell Value)) (s : State)
      → Keeps types told s.control → AllKeep types told (freed_next named types access o c v found s)
  freed_keeps access o c v on_null s h = h
  freed_keeps access o c v on_gone s h = tt
  freed_keeps access o c v on_other s h = tt
  freed_keeps access o c v (finds cell) s h = freeing_next_keeps access v cell (frame.ClearsIn o c) (Followed o) s (tt, h)

  free_component_keeps : (access : ℕ) (o : Value) (c : ℕ) (found : Option Value) (s : State) → Keeps types told s.control
      → AllKeep types told (free_component_next named types access o c found s)
  free_component_keeps access o c None s h = tt
  free_component_keeps access o c (Some v) s h = freed_keeps access o c v (named.standing s.heap v) s h

  pub free_in_keeps : (access : ℕ) (o : Value) (c : ℕ) (found : Found (Cell Value)) (s : State) → Keeps types told s.control
      → AllKeep types told (free_in_next named types access o c found s)
  free_in_keeps access o c on_null s h = h
  free_in_keeps access o c on_gone s h = tt
  free_in_keeps access o c on_other s h = tt
  free_in_keeps access o c (finds cell) s h = free_component_keeps access o c (slice_get cell.values c) s h

  pub end_keeps : (v : Value) (found : Found (Cell Value)) (s : State) → Keeps types told s.control → AllKeep types told (end_next named v found s)
  end_keeps v on_null s h = tt
  end_keeps v on_gone s h = tt
  end_keeps v on_other s h = tt
  end_keeps v (finds cell) s h = h

  told_keeps : (pool : Option ℕ) (v : Value) (event : Event) (s : State) → Keeps types told s.control
      → AllKeep types told (told_back named pool v event (record s { heap = on_object returned s.heap v }))
  told_keeps None v event s h = h
  told_keeps (Some pool) v event s h = h

  given_keeps : (fits : Bool) (v : Value) (cause : Cause) (cell : Cell Value) (s : State) → Keeps types told s.control
      → AllKeep types told (if fits then given_back named v cause cell s else halts (Erroneous GivesElsewhere))
  given_keeps true v cause cell s h = told_keeps cell.home.pool v (Back v cell.access cell.number cell.home.pool cell.home.subpool cause) s h
  given_keeps false v cause cell s h = tt

  pub back_keeps : (v : Value) (cause : Cause) (pool : Option ℕ) (found : Found (Cell Value)) (s : State) → Keeps types told s.control
      → AllKeep types told (back_next named v cause pool found s)
  back_keeps v cause pool on_null s h = tt
  back_keeps v cause pool on_gone s h = tt
  back_keeps v cause pool on_other s h = tt
  back_keeps v cause pool (finds cell) s h = given_keeps (same_pool pool cell.home.pool) v cause cell s h
