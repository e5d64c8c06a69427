-- What is left to do stays in order while forms are evaluated, while components are stored in and while objects go: no declarative part is entered by that.

use Rattle.std.proofs.Common.{ℕ, Bool, true, false, if◌then◌else◌, List, [], ◌∷◌, length, Option, Some, None, Result, Ok, Err}
use Rattle.std.specs.List.{slice_get}
use Rattle.ada_program.specs.declared.program.TypeDefinition.{TypeDefinition}
use Rattle.ada_program.specs.Form.{RecordPathForm, ExpressionForm, integer, boolean, reads, is_null, applied_to, chained, LinksForm, no_more_links, a_link, ItemForm, null_item, item_of_path, item_of_value, item_of_record, RightForm, nothing, value_of, allocates, allocates_default, computes}
use Rattle.ada_program.specs.Typed.{width_of}
use Rattle.ada_values.specs.declared.operator.BinaryOperator.{BinaryOperator}
use Rattle.ada_values.specs.declared.fault.OperatorFault.{OperatorFault}
use Rattle.ada_values.specs.declared.fault.OperatorFault.TheVariants.{Overflow, DivisionByZero, WrongType}
use Rattle.ada_parts.specs.declared.tasks.Direction.TheVariants.{PartsFirst, WholeFirst}
use Rattle.ada_meaning.specs.declared.event.Birth.TheVariants.{Creation, Adjustment}
use Rattle.ada_meaning.specs.declared.event.Cause.TheVariants.{Freeing, Assigning}
use Rattle.ada_meaning.specs.declared.state.Place.{Place}
use Rattle.ada_meaning.specs.declared.state.Value.{Value}
use Rattle.ada_meaning.specs.declared.state.Value.TheVariants.{Names}
use Rattle.ada_meaning.specs.declared.event.Cause.{Cause}
use Rattle.ada_meaning.specs.declared.event.Halt.TheVariants.{Erroneous}
use Rattle.ada_meaning.specs.declared.event.Why.TheVariants.{GivesElsewhere}
use Rattle.ada_meaning.specs.Event.{Back, Followed, Quiet}
use Rattle.ada_meaning.specs.Frame.{Frame}
use Rattle.ada_meaning.specs.Frame as frame
use Rattle.ada_meaning.specs.State.{Destination, home_of, pool_freed_to}
use Rattle.ada_meaning.specs.Heap.{Cell, Found, on_null, on_gone, on_other, finds}
use Rattle.ada_meaning.specs.Step.{halts, moves, all_tasks, record_tasks, treating, copy_next, record_assign_next, assigns_next, at, held, newest, reading, component_next, follow_next, path_next, before_last, last_of, selected, named_next, holder_next, place_in, record_holder_next, referred_next, refers_next, open_next, opened_next, opens_next, expression_next, null_test_next, is_decided, link_next, links_next, outcome_next, item_next, items_next, copied_next, copies_next, newest_ones, without_newest, record_in, record_target_next, record_stored_next, store_record_next, answered, new_next, right_next, free_next, end_next, same_pool, told_back, given_back, back_next, freeing, freeing_next, freed_next, free_component_next, free_in_next}
use Rattle.ada_meaning.specs.Named.{State, named, whole, base, part_base, inside, look, returned, on_object, reads_boolean}
use Rattle.ada_meaning.specs.Run.{Event}
use Rattle.ada_created.proofs.Control.{Orderly, Stands, AllOrderly, treating_orderly}

module _ (P : List ℕ → Type 0) where
  -- Paths and expressions (4.1, 4.4).
  reading_orderly : (cs : List ℕ) (v : Value) (s : State) → Stands P s → Stands P (reading named cs v s)
  reading_orderly [] v s h = h
  reading_orderly (c ∷ cs) v s h = (tt, h)

  component_orderly : (v : Value) (cs : List ℕ) (found : Option Value) (s : State) → Stands P s
      → AllOrderly P (component_next named v cs found s)
  component_orderly v cs None s h = tt
  component_orderly v cs (Some u) s h = reading_orderly cs u s h

  follow_orderly : (v : Value) (c : ℕ) (cs : List ℕ) (found : Found (Cell Value)) (s : State) → Stands P s
      → AllOrderly P (follow_next named v c cs found s)
  follow_orderly v c cs on_null s h = h
  follow_orderly v c cs on_gone s h = tt
  follow_orderly v c cs on_other s h = tt
  follow_orderly v c cs (finds cell) s h = component_orderly v cs (slice_get cell.values c) s h

  pub path_orderly : (cs : List ℕ) (v : Value) (s : State) → Stands P s → AllOrderly P (path_next named cs v s)
  path_orderly [] v s h = h
  path_orderly (c ∷ cs) v s h = follow_orderly v c cs (look s.heap v) s h

  -- Where a path begins.
  pub named_orderly : (cs : List ℕ) (x : ℕ) (s : State) → Stands P s → AllOrderly P (named_next named cs x s)
  named_orderly cs x s h = path_orderly (selected named (held named s x) cs) (whole (held named s x)) s h

  pub holder_orderly : (c : ℕ) (cs : List ℕ) (x : ℕ) (frame_of : ℕ → Frame Value) (s : State) → ((n : ℕ) → Orderly P (frame_of n ∷ s.control) s.masters)
      → AllOrderly P (holder_next named c cs x frame_of s)
  holder_orderly c cs x frame_of s n =
      path_orderly (before_last (inside (held named s x) c) cs) (whole (held named s x))
      (at (frame_of (last_of (inside (held named s x) c) cs) ∷ s.control) s) (n (last_of (inside (held named s x) c) cs))

  pub record_holder_orderly : (p : RecordPathForm) (frame_of : Place → Frame Value) (s : State)
      → ((place : Place) → Orderly P (frame_of place ∷ s.control) s.masters) → AllOrderly P (record_holder_next named p frame_of s)
  record_holder_orderly p frame_of s n =
      path_orderly (selected named (held named s p.object.root) p.object.selectors) (whole (held named s p.object.root))
      (at (frame_of (place_in named (held named s p.object.root) p.object.selectors p) ∷ s.control) s)
      (n (place_in named (held named s p.object.root) p.object.selectors p))

  pub expression_orderly : (e : ExpressionForm) (s : State) → Stands P s → AllOrderly P (expression_next named e s)
  expression_orderly (integer i) s h = h
  expression_orderly (boolean b) s h = h
  expression_orderly (reads path) s h = named_orderly path.selectors path.root s h
  expression_orderly (is_null equal path) s h = named_orderly path.selectors path.root (at (frame.TestsNull equal ∷ s.control) s) (tt, h)
  expression_orderly (applied_to operator e) s h = (tt, (tt, h))
  expression_orderly (chained e links) s h = (tt, (tt, h))

  pub null_test_orderly : (equal : Bool) (null : Option Bool) (s : State) → Stands P s
      → AllOrderly P (null_test_next named equal null s)
  null_test_orderly equal None s h = tt
  null_test_orderly true (Some null) s h = h
  null_test_orderly false (Some null) s h = h

  link_orderly : (decided : Bool) (operator : BinaryOperator) (e : ExpressionForm) (links : LinksForm) (s : State) → Stands P s
      → AllOrderly P (link_next named decided operator e links s)
  link_orderly true operator e links s h = (tt, h)
  link_orderly false operator e links s h = (tt, (tt, (tt, h)))

  pub links_orderly : (links : LinksForm) (s : State) → Stands P s → AllOrderly P (links_next named links s)
  links_orderly no_more_links s h = h
  links_orderly (a_link operator e links) s h = link_orderly (is_decided named operator (reads_boolean (newest named s))) operator e links s h

  pub outcome_orderly : (outcome : Result Value OperatorFault) (s : State) → Stands P s
      → AllOrderly P (outcome_next named outcome s)
  outcome_orderly (Ok v) s h = h
  outcome_orderly (Err Overflow) s h = h
  outcome_orderly (Err DivisionByZero) s h = h
  outcome_orderly (Err WrongType) s h = tt

  -- Allocators, and what is assigned.
  item_orderly : (item : ItemForm) (s : State) → Stands P s → AllOrderly P (item_next named item s)
  item_orderly null_item s h = h
  item_orderly (item_of_path path) s h = named_orderly path.selectors path.root s h
  item_orderly (item_of_value e) s h = (tt, h)
  item_orderly (item_of_record p) s h = record_holder_orderly p (λ place. frame.Copies place.component p.record_type) s (λ place. (tt, h))

  pub items_orderly : (items : List ItemForm) (s : State) → Stands P s → AllOrderly P (items_next named items s)
  items_orderly [] s h = h
  items_orderly (i ∷ is) s h = item_orderly i (at (frame.Fills is ∷ s.control) s) (tt, h)

  -- Records as wholes.
  copied_orderly : (o : Value) (found : Option (List Value)) (s : State) → Stands P s
      → AllOrderly P (copied_next named o found s)
  copied_orderly o None s h = tt
  copied_orderly o (Some vs) s h = h

  pub copies_orderly : (o : Value) (first count : ℕ) (found : Found (Cell Value)) (s : State) → Stands P s
      → AllOrderly P (copies_next named o first count found s)
  copies_orderly o first count on_null s h = h
  copies_orderly o first count on_gone s h = tt
  copies_orderly o first count on_other s h = tt
  copies_orderly o first count (finds cell) s h = copied_orderly o (record_in cell.values first count) s h

  pub record_target_orderly : (o : Value) (first count : ℕ) (items : List ItemForm) (found : Found (Cell Value)) (s : State) → Stands P s
      → AllOrderly P (record_target_next named o first count items found s)
  record_target_orderly o first count items on_null s h = h
  record_target_orderly o first count items on_gone s h = tt
  record_target_orderly o first count items on_other s h = tt
  record_target_orderly o first count items (finds cell) s h = (tt, (tt, h))

  record_stored_orderly : (o : Value) (first : ℕ) (vs : List Value) (found : Option (List Value)) (s : State) → Stands P s
      → AllOrderly P (record_stored_next named o first vs found s)
  record_stored_orderly o first vs None s h = tt
  record_stored_orderly o first vs (Some before) s h = h

  pub store_record_orderly : (o : Value) (first count : ℕ) (found : Found (Cell Value)) (s : State) → Stands P s
      → AllOrderly P (store_record_next named o first count found s)
  store_record_orderly o first count on_null s h = tt
  store_record_orderly o first count on_gone s h = tt
  store_record_orderly o first count on_other s h = tt
  store_record_orderly o first count (finds cell) s h =
      record_stored_orderly o first (newest_ones named count s) (record_in cell.values first count) (without_newest named count s) h

  -- Records that have controlled parts are assigned: both are found first, and then the target is finalized, gets the components, and is adjusted.
  copy_orderly : (target : RecordPathForm) (items : List ItemForm) (s : State) → Stands P s
      → AllOrderly P (copy_next named target items s)
  copy_orderly target [] s h = tt
  copy_orderly target (null_item ∷ items) s h = tt
  copy_orderly target (item_of_path path ∷ items) s h = tt
  copy_orderly target (item_of_value e ∷ items) s h = tt
  copy_orderly target (item_of_record source ∷ []) s h = (tt, (tt, (tt, h)))
  copy_orderly target (item_of_record source ∷ i ∷ items) s h = tt

  pub record_assign_orderly : (parts : Bool) (target : RecordPathForm) (items : List ItemForm) (s : State) → Stands P s
      → AllOrderly P (record_assign_next named parts target items s)
  record_assign_orderly true target items s h = copy_orderly target items s h
  record_assign_orderly false target items s h =
      record_holder_orderly target (λ place. frame.TargetsRecord place.component target.record_type items) s (λ place. (tt, h))

  pub assigns_orderly : (types : List TypeDefinition) (t : ℕ) (target source : Value) (alike : Option Bool) (s : State) → Stands P s
      → AllOrderly P (assigns_next named types t target source alike s)
  assigns_orderly types t target source None s h = tt
  assigns_orderly types t target source (Some true) s h = h
  assigns_orderly types t target source (Some false) s h =
      let o = whole target in
      let beginning = frame.begins (Adjustment s.next) [] in
      let adjusts = treating o beginning (record_tasks types t PartsFirst (part_base target)) s.control in
      treating_orderly P o (frame.ends (Assigning s.next)) (record_tasks types t WholeFirst (part_base target))
      (frame.Copies (base source) t ∷ frame.StoresRecord o (base target) (width_of types t) ∷ adjusts) s.masters
      (tt, (tt, treating_orderly P o beginning (record_tasks types t PartsFirst (part_base target)) s.control s.masters h))

  answered_orderly : (types : List TypeDefinition) (access count words : ℕ) (home : Destination) (s : State) (granted : Bool) → Stands P s
      → Stands P (answered named types access count words home s granted)
  answered_orderly types access count words home s true h =
      treating_orderly P (Names (record { 0 = length s.heap })) (frame.begins Creation []) (all_tasks types access PartsFirst) s.control s.masters h
  answered_orderly types access count words home s false h = h

  pub new_orderly : (types : List TypeDefinition) (access count words : ℕ) (home : Option Destination) (s : State) → Stands P s
      → AllOrderly P (new_next named types access count words home s)
  new_orderly types access count words None s h = h
  new_orderly types access count words (Some home) s h = λ granted. answered_orderly types access count words home s granted h

  -- What is passed by reference, and the components that get something back.
  referred_orderly : (o : Value) (place : Place) (found : Option (List Value)) (s : State) → Stands P s
      → AllOrderly P (referred_next named o place found s)
  referred_orderly o place None s h = tt
  referred_orderly o place (Some vs) s h = h

  pub refers_orderly : (o : Value) (place : Place) (count : ℕ) (found : Found (Cell Value)) (s : State) → Stands P s
      → AllOrderly P (refers_next named o place count found s)
  refers_orderly o place count on_null s h = h
  refers_orderly o place count on_gone s h = tt
  refers_orderly o place count on_other s h = tt
  refers_orderly o place count (finds cell) s h = referred_orderly o place (record_in cell.values place.component count) s h

  pub open_orderly : (cs : List ℕ) (x : ℕ) (s : State) → Stands P s → AllOrderly P (open_next named cs x s)
  open_orderly [] x s h = tt
  open_orderly (c ∷ cs) x s h = holder_orderly c cs x frame.OpensIn s (λ n. (tt, h))

  opened_orderly : (o : Value) (c : ℕ) (found : Option Value) (s : State) → Stands P s
      → AllOrderly P (opened_next named o c found s)
  opened_orderly o c None s h = tt
  opened_orderly o c (Some v) s h = h

  pub opens_orderly : (o : Value) (c : ℕ) (found : Found (Cell Value)) (s : State) → Stands P s
      → AllOrderly P (opens_next named o c found s)
  opens_orderly o c on_null s h = h
  opens_orderly o c on_gone s h = tt
  opens_orderly o c on_other s h = tt
  opens_orderly o c (finds cell) s h = opened_orderly o c (slice_get cell.values c) s h

  pub right_orderly : (types : List TypeDefinition) (right : RightForm) (s : State) → Stands P s
      → AllOrderly P (right_next named types right s)
  right_orderly types nothing s h = h
  right_orderly types (value_of path) s h = named_orderly path.selectors path.root s h
  right_orderly types (allocates access items) s h = (tt, (tt, h))
  right_orderly types (allocates_default access) s h = (tt, h)
  right_orderly types (computes e) s h = (tt, h)

  -- Free, and what it leads to.
  freeing_orderly : (types : List TypeDefinition) (access : ℕ) (v : Value) (cell : Cell Value) (clears : Frame Value) (s : State)
      → Orderly P (clears ∷ s.control) s.masters → Stands P (freeing named types access v cell clears s)
  freeing_orderly types access v cell clears s h =
      let back = frame.GivesBack v (Freeing s.next) (Some (pool_freed_to (home_of access s.masters))) in
      treating_orderly P v (frame.ends (Freeing s.next)) (all_tasks types cell.access WholeFirst) (frame.Ends v ∷ back ∷ clears ∷ s.control) s.masters
      (tt, (tt, h))

  -- It is erroneous where the object is of another pool.
  freeing_next_orderly : (types : List TypeDefinition) (access : ℕ) (v : Value) (cell : Cell Value) (clears : Frame Value) (event : Event) (s : State)
      → Orderly P (clears ∷ s.control) s.masters → AllOrderly P (freeing_next named types access v cell clears event s)
  freeing_next_orderly types access v cell clears event s h = by_pool (same_pool (Some (pool_freed_to (home_of access s.masters))) cell.home.pool)
    where
      by_pool : (own : Bool)
          → AllOrderly P (if own then moves event (freeing named types access v cell clears s) else halts (Erroneous GivesElsewhere))
      by_pool true = freeing_orderly types access v cell clears s h
      by_pool false = tt

  pub free_orderly : (types : List TypeDefinition) (access x : ℕ) (v : Value) (found : Found (Cell Value)) (s : State) → Stands P s
      → AllOrderly P (free_next named types access x v found s)
  free_orderly types access x v on_null s h = h
  free_orderly types access x v on_gone s h = tt
  free_orderly types access x v on_other s h = tt
  free_orderly types access x v (finds cell) s h = freeing_next_orderly types access v cell (frame.Clears x) Quiet s (tt, h)

  freed_orderly : (types : List TypeDefinition) (access : ℕ) (o : Value) (c : ℕ) (v : Value) (found : Found (Cell Value)) (s : State)
      → Stands P s → AllOrderly P (freed_next named types access o c v found s)
  freed_orderly types access o c v on_null s h = h
  freed_orderly types access o c v on_gone s h = tt
  freed_orderly types access o c v on_other s h = tt
  freed_orderly types access o c v (finds cell) s h = freeing_next_orderly types access v cell (frame.ClearsIn o c) (Followed o) s (tt, h)

  free_component_orderly : (types : List TypeDefinition) (access : ℕ) (o : Value) (c : ℕ) (found : Option Value) (s : State) → Stands P s
      → AllOrderly P (free_component_next named types access o c found s)
  free_component_orderly types access o c None s h = tt
  free_component_orderly types access o c (Some v) s h = freed_orderly types access o c v (named.standing s.heap v) s h

  pub free_in_orderly : (types : List TypeDefinition) (access : ℕ) (o : Value) (c : ℕ) (found : Found (Cell Value)) (s : State) → Stands P s
      → AllOrderly P (free_in_next named types access o c found s)
  free_in_orderly types access o c on_null s h = h
  free_in_orderly types access o c on_gone s h = tt
  free_in_orderly types access o c on_other s h = tt
  free_in_orderly types access o c (finds cell) s h = free_component_orderly types access o c (slice_get cell.values c) s h

  pub end_orderly : (v : Value) (found : Found (Cell Value)) (s : State) → Stands P s → AllOrderly P (end_next named v found s)
  end_orderly v on_null s h = tt
  end_orderly v on_gone s h = tt
  end_orderly v on_other s h = tt
  end_orderly v (finds cell) s h = h

  told_orderly : (pool : Option ℕ) (v : Value) (event : Event) (s : State) → Stands P s
      → AllOrderly P (told_back named pool v event (record s { heap = on_object returned s.heap v }))
  told_orderly None v event s h = h
  told_orderly (Some pool) v event s h = h

  given_orderly : (fits : Bool) (v : Value) (cause : Cause) (cell : Cell Value) (s : State) → Stands P s
      → AllOrderly P (if fits then given_back named v cause cell s else halts (Erroneous GivesElsewhere))
  given_orderly true v cause cell s h = told_orderly cell.home.pool v (Back v cell.access cell.number cell.home.pool cell.home.subpool cause) s h
  given_orderly false v cause cell s h = tt

  pub back_orderly : (v : Value) (cause : Cause) (pool : Option ℕ) (found : Found (Cell Value)) (s : State) → Stands P s
      → AllOrderly P (back_next named v cause pool found s)
  back_orderly v cause pool on_null s h = tt
  back_orderly v cause pool on_gone s h = tt
  back_orderly v cause pool on_other s h = tt
  back_orderly v cause pool (finds cell) s h = given_orderly (same_pool pool cell.home.pool) v cause cell s h
