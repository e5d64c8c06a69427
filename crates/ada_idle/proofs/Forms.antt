-- What is left to do makes nothing with controlled parts, and no object has any: paths, expressions, values, allocators and Free keep that (4.1, 4.4, 4.8, 5.2,
-- 13.11.2).

use Rattle.std.proofs.Common.{◌≡◌, ℕ, Bool, true, false, if◌then◌else◌, List, [], ◌∷◌, length, map, Option, Some, None, Result, Ok, Err, refl}
use Rattle.std.specs.List.{slice_get, slice_index_or}
use Rattle.ada_program.specs.declared.program.TypeDefinition.{TypeDefinition}
use Rattle.ada_program.specs.Form.{RecordPathForm, ExpressionForm, integer, boolean, reads, is_null, applied_to, chained, LinksForm, no_more_links, a_link, ItemForm, null_item, item_of_path, item_of_value, item_of_record, RightForm, nothing, value_of, allocates, allocates_default, computes}
use Rattle.ada_program.specs.ProgramForm.{TypeForm, type_form}
use Rattle.ada_values.specs.declared.operator.BinaryOperator.{BinaryOperator}
use Rattle.ada_values.specs.declared.fault.OperatorFault.{OperatorFault}
use Rattle.ada_values.specs.declared.fault.OperatorFault.TheVariants.{Overflow, DivisionByZero, WrongType}
use Rattle.ada_parts.specs.declared.tasks.Direction.TheVariants.{PartsFirst, WholeFirst}
use Rattle.ada_parts.specs.Task.{Task}
use Rattle.ada_quiet.specs.Idle.{holds_parts, right_makes_parts}
use Rattle.ada_meaning.specs.declared.event.Birth.TheVariants.{Creation}
use Rattle.ada_meaning.specs.declared.event.Cause.{Cause}
use Rattle.ada_meaning.specs.declared.event.Cause.TheVariants.{Leaving, Freeing}
use Rattle.ada_meaning.specs.declared.event.Halt.TheVariants.{Erroneous}
use Rattle.ada_meaning.specs.declared.event.Why.TheVariants.{GivesElsewhere}
use Rattle.ada_meaning.specs.declared.state.Mode.{Mode}
use Rattle.ada_meaning.specs.declared.state.Place.{Place}
use Rattle.ada_meaning.specs.declared.state.Value.{Value}
use Rattle.ada_meaning.specs.declared.state.Value.TheVariants.{Null, Names}
use Rattle.ada_meaning.specs.Event.{Back, Followed, Quiet}
use Rattle.ada_meaning.specs.Frame.{Treatment, Frame}
use Rattle.ada_meaning.specs.Frame as frame
use Rattle.ada_meaning.specs.State.{Owned, declared, collection, record_object, storage_pool, Item, Master, Destination, home_of, pool_freed_to}
use Rattle.ada_meaning.specs.Heap.{Cell, Found, on_null, on_gone, on_other, finds}
use Rattle.ada_meaning.specs.Step.{halts, moves, all_tasks, treating, record_assign_next, at, held, newest, reading, component_next, follow_next, path_next, before_last, last_of, selected, named_next, holder_next, place_in, record_holder_next, referred_next, refers_next, open_next, opened_next, opens_next, expression_next, null_test_next, is_decided, link_next, links_next, outcome_next, item_next, items_next, copied_next, copies_next, newest_ones, without_newest, record_in, record_target_next, record_stored_next, store_record_next, new_cell, answered, new_next, right_next, free_next, end_next, same_pool, told_back, given_back, back_next, freeing, freeing_next, freed_next, free_component_next, free_in_next, taken_out, members_next, item_leave_next, master_leave_next, leave_next}
use Rattle.ada_meaning.specs.Named.{State, Next, named, whole, inside, look, standing, parted, finished, returned, on_object, members, reads_boolean}
use Rattle.ada_meaning.specs.Run.{Event}
use Rattle.ada_idle.proofs.Coming.{AllNext}
use Rattle.ada_idle.proofs.Idle.{ControlIsIdle, HeapIsIdle}
use Rattle.ada_idle.proofs.Heaps.{FoundIsIdle, no_tasks, look_idle, standing_idle, on_idle, stored_from_idle, created_idle}

module _ (forms : List TypeForm) where
  -- What is left to do in a state is idle, and no object has controlled parts: `IsIdle` as a pair, which a step can keep where it changes neither.
  abbrev pub Rests : State → Type 0
  Rests s = ControlIsIdle forms s.control × HeapIsIdle forms s.heap

  -- So it is whatever comes next, and whatever is answered.
  abbrev pub AllRest : Next → Type 0
  AllRest = AllNext Rests

module _ (forms : List TypeForm) where
  -- So it is where an object is treated first, where nothing is to be done for it (7.6, 7.6.1).
  pub treating_idle : (v : Value) (treatment : Treatment) (tasks : List Task) (k : List (Frame Value)) → tasks ≡ [] → ControlIsIdle forms k
      → ControlIsIdle forms (treating v treatment tasks k)
  treating_idle v treatment [] k none h = h
  treating_idle v treatment (task ∷ tasks) k none h = absurd (cc none)

  -- Paths and expressions (4.1, 4.4).
  reading_idle : (cs : List ℕ) (v : Value) (s : State) → Rests forms s → Rests forms (reading named cs v s)
  reading_idle [] v s h = h
  reading_idle (c ∷ cs) v s h = ((tt, h.0), h.1)

  component_idle : (v : Value) (cs : List ℕ) (found : Option Value) (s : State) → Rests forms s
      → AllRest forms (component_next named v cs found s)
  component_idle v cs None s h = tt
  component_idle v cs (Some u) s h = reading_idle cs u s h

  follow_idle : (v : Value) (c : ℕ) (cs : List ℕ) (found : Found (Cell Value)) (s : State) → Rests forms s
      → AllRest forms (follow_next named v c cs found s)
  follow_idle v c cs on_null s h = h
  follow_idle v c cs on_gone s h = tt
  follow_idle v c cs on_other s h = tt
  follow_idle v c cs (finds cell) s h = component_idle v cs (slice_get cell.values c) s h

  pub path_idle : (cs : List ℕ) (v : Value) (s : State) → Rests forms s → AllRest forms (path_next named cs v s)
  path_idle [] v s h = h
  path_idle (c ∷ cs) v s h = follow_idle v c cs (look s.heap v) s h

  -- Where a path begins.
  pub named_idle : (cs : List ℕ) (x : ℕ) (s : State) → Rests forms s → AllRest forms (named_next named cs x s)
  named_idle cs x s h = path_idle (selected named (held named s x) cs) (whole (held named s x)) s h

  pub holder_idle : (c : ℕ) (cs : List ℕ) (x : ℕ) (frame_of : ℕ → Frame Value) (s : State) → ((n : ℕ) → Rests forms (at (frame_of n ∷ s.control) s))
      → AllRest forms (holder_next named c cs x frame_of s)
  holder_idle c cs x frame_of s n =
      path_idle (before_last (inside (held named s x) c) cs) (whole (held named s x))
      (at (frame_of (last_of (inside (held named s x) c) cs) ∷ s.control) s) (n (last_of (inside (held named s x) c) cs))

  pub record_holder_idle : (p : RecordPathForm) (frame_of : Place → Frame Value) (s : State)
      → ((place : Place) → Rests forms (at (frame_of place ∷ s.control) s)) → AllRest forms (record_holder_next named p frame_of s)
  record_holder_idle p frame_of s n =
      path_idle (selected named (held named s p.object.root) p.object.selectors) (whole (held named s p.object.root))
      (at (frame_of (place_in named (held named s p.object.root) p.object.selectors p) ∷ s.control) s)
      (n (place_in named (held named s p.object.root) p.object.selectors p))

  pub expression_idle : (e : ExpressionForm) (s : State) → Rests forms s → AllRest forms (expression_next named e s)
  expression_idle (integer i) s h = h
  expression_idle (boolean b) s h = h
  expression_idle (reads path) s h = named_idle path.selectors path.root s h
  expression_idle (is_null equal path) s h = named_idle path.selectors path.root (at (frame.TestsNull equal ∷ s.control) s) ((tt, h.0), h.1)
  expression_idle (applied_to operator e) s h = ((tt, (tt, h.0)), h.1)
  expression_idle (chained e links) s h = ((tt, (tt, h.0)), h.1)

  pub null_test_idle : (equal : Bool) (null : Option Bool) (s : State) → Rests forms s
      → AllRest forms (null_test_next named equal null s)
  null_test_idle equal None s h = tt
  null_test_idle true (Some null) s h = h
  null_test_idle false (Some null) s h = h

  link_idle : (decided : Bool) (operator : BinaryOperator) (e : ExpressionForm) (links : LinksForm) (s : State) → Rests forms s
      → AllRest forms (link_next named decided operator e links s)
  link_idle true operator e links s h = ((tt, h.0), h.1)
  link_idle false operator e links s h = ((tt, (tt, (tt, h.0))), h.1)

  pub links_idle : (links : LinksForm) (s : State) → Rests forms s → AllRest forms (links_next named links s)
  links_idle no_more_links s h = h
  links_idle (a_link operator e links) s h = link_idle (is_decided named operator (reads_boolean (newest named s))) operator e links s h

  pub outcome_idle : (outcome : Result Value OperatorFault) (s : State) → Rests forms s
      → AllRest forms (outcome_next named outcome s)
  outcome_idle (Ok v) s h = h
  outcome_idle (Err Overflow) s h = h
  outcome_idle (Err DivisionByZero) s h = h
  outcome_idle (Err WrongType) s h = tt

  -- Allocators, and what is assigned.
  item_idle : (item : ItemForm) (s : State) → Rests forms s → AllRest forms (item_next named item s)
  item_idle null_item s h = h
  item_idle (item_of_path path) s h = named_idle path.selectors path.root s h
  item_idle (item_of_value e) s h = ((tt, h.0), h.1)
  item_idle (item_of_record p) s h = record_holder_idle p (λ place. frame.Copies place.component p.record_type) s (λ place. ((tt, h.0), h.1))

  pub items_idle : (items : List ItemForm) (s : State) → Rests forms s → AllRest forms (items_next named items s)
  items_idle [] s h = h
  items_idle (i ∷ is) s h = item_idle i (at (frame.Fills is ∷ s.control) s) ((tt, h.0), h.1)

  -- Records as wholes.
  copied_idle : (o : Value) (found : Option (List Value)) (s : State) → Rests forms s
      → AllRest forms (copied_next named o found s)
  copied_idle o None s h = tt
  copied_idle o (Some vs) s h = h

  pub copies_idle : (o : Value) (first count : ℕ) (found : Found (Cell Value)) (s : State) → Rests forms s
      → AllRest forms (copies_next named o first count found s)
  copies_idle o first count on_null s h = h
  copies_idle o first count on_gone s h = tt
  copies_idle o first count on_other s h = tt
  copies_idle o first count (finds cell) s h = copied_idle o (record_in cell.values first count) s h

  pub record_target_idle : (o : Value) (first count : ℕ) (items : List ItemForm) (found : Found (Cell Value)) (s : State) → Rests forms s
      → AllRest forms (record_target_next named o first count items found s)
  record_target_idle o first count items on_null s h = h
  record_target_idle o first count items on_gone s h = tt
  record_target_idle o first count items on_other s h = tt
  record_target_idle o first count items (finds cell) s h = ((tt, (tt, h.0)), h.1)

  record_stored_idle : (o : Value) (first : ℕ) (vs : List Value) (found : Option (List Value)) (s : State) → Rests forms s
      → AllRest forms (record_stored_next named o first vs found s)
  record_stored_idle o first vs None s h = tt
  record_stored_idle o first vs (Some before) s h = (h.0, stored_from_idle forms s.heap o first vs h.1)

  pub store_record_idle : (o : Value) (first count : ℕ) (found : Found (Cell Value)) (s : State) → Rests forms s
      → AllRest forms (store_record_next named o first count found s)
  store_record_idle o first count on_null s h = tt
  store_record_idle o first count on_gone s h = tt
  store_record_idle o first count on_other s h = tt
  store_record_idle o first count (finds cell) s h =
      record_stored_idle o first (newest_ones named count s) (record_in cell.values first count) (without_newest named count s) h

  -- Records without controlled parts are assigned as wholes (5.2).
  pub record_assign_idle : (parts : Bool) (target : RecordPathForm) (items : List ItemForm) (s : State) → parts ≡ false → Rests forms s
      → AllRest forms (record_assign_next named parts target items s)
  record_assign_idle true target items s none h = absurd (cc none)
  record_assign_idle false target items s none h =
      record_holder_idle target (λ place. frame.TargetsRecord place.component target.record_type items) s (λ place. ((tt, h.0), h.1))

  -- What is passed by reference, and the components that get something back.
  referred_idle : (o : Value) (place : Place) (found : Option (List Value)) (s : State) → Rests forms s
      → AllRest forms (referred_next named o place found s)
  referred_idle o place None s h = tt
  referred_idle o place (Some vs) s h = h

  pub refers_idle : (o : Value) (place : Place) (count : ℕ) (found : Found (Cell Value)) (s : State) → Rests forms s
      → AllRest forms (refers_next named o place count found s)
  refers_idle o place count on_null s h = h
  refers_idle o place count on_gone s h = tt
  refers_idle o place count on_other s h = tt
  refers_idle o place count (finds cell) s h = referred_idle o place (record_in cell.values place.component count) s h

  pub open_idle : (cs : List ℕ) (x : ℕ) (s : State) → Rests forms s → AllRest forms (open_next named cs x s)
  open_idle [] x s h = tt
  open_idle (c ∷ cs) x s h = holder_idle c cs x frame.OpensIn s (λ n. ((tt, h.0), h.1))

  opened_idle : (o : Value) (c : ℕ) (found : Option Value) (s : State) → Rests forms s
      → AllRest forms (opened_next named o c found s)
  opened_idle o c None s h = tt
  opened_idle o c (Some v) s h = h

  pub opens_idle : (o : Value) (c : ℕ) (found : Found (Cell Value)) (s : State) → Rests forms s
      → AllRest forms (opens_next named o c found s)
  opens_idle o c on_null s h = h
  opens_idle o c on_gone s h = tt
  opens_idle o c on_other s h = tt
  opens_idle o c (finds cell) s h = opened_idle o c (slice_get cell.values c) s h

  -- What a Free leads to at its end (13.11.2).
  pub end_idle : (v : Value) (found : Found (Cell Value)) (s : State) → Rests forms s → AllRest forms (end_next named v found s)
  end_idle v on_null s h = tt
  end_idle v on_gone s h = tt
  end_idle v on_other s h = tt
  end_idle v (finds cell) s h = (h.0, on_idle forms finished (λ x. refl) s.heap v h.1)

  told_idle : (pool : Option ℕ) (v : Value) (event : Event) (s : State) → Rests forms s
      → AllRest forms (told_back named pool v event (record s { heap = on_object returned s.heap v }))
  told_idle None v event s h = (h.0, on_idle forms returned (λ x. refl) s.heap v h.1)
  told_idle (Some pool) v event s h = (h.0, on_idle forms returned (λ x. refl) s.heap v h.1)

  given_idle : (fits : Bool) (v : Value) (cause : Cause) (cell : Cell Value) (s : State) → Rests forms s
      → AllRest forms (if fits then given_back named v cause cell s else halts (Erroneous GivesElsewhere))
  given_idle true v cause cell s h = told_idle cell.home.pool v (Back v cell.access cell.number cell.home.pool cell.home.subpool cause) s h
  given_idle false v cause cell s h = tt

  pub back_idle : (v : Value) (cause : Cause) (pool : Option ℕ) (found : Found (Cell Value)) (s : State) → Rests forms s
      → AllRest forms (back_next named v cause pool found s)
  back_idle v cause pool on_null s h = tt
  back_idle v cause pool on_gone s h = tt
  back_idle v cause pool on_other s h = tt
  back_idle v cause pool (finds cell) s h = given_idle (same_pool pool cell.home.pool) v cause cell s h

module _ (forms : List TypeForm) (types : List TypeDefinition) (shown : map type_form types ≡ forms) where
  -- Allocators (4.8): a new object has no controlled parts, so nothing is initialized.
  answered_idle : (access count words : ℕ) (home : Destination) (s : State) (granted : Bool) → holds_parts forms access ≡ false → Rests forms s
      → Rests forms (answered named types access count words home s granted)
  answered_idle access count words home s true none h = (
    treating_idle forms (Names (record { 0 = length s.heap })) (frame.begins Creation []) (all_tasks types access PartsFirst) s.control
        (no_tasks forms types shown access PartsFirst none) h.0,
    created_idle forms s.heap (new_cell named types access count home s) none h.1,
  )
  answered_idle access count words home s false none h = h

  pub new_idle : (access count words : ℕ) (home : Option Destination) (s : State) → holds_parts forms access ≡ false → Rests forms s
      → AllRest forms (new_next named types access count words home s)
  new_idle access count words None s none h = h
  new_idle access count words (Some home) s none h = λ granted. answered_idle access count words home s granted none h

  pub right_idle : (right : RightForm) (s : State) → right_makes_parts forms false right ≡ false → Rests forms s → AllRest forms (right_next named types right s)
  right_idle nothing s none h = h
  right_idle (value_of path) s none h = named_idle forms path.selectors path.root s h
  right_idle (allocates access items) s none h = ((tt, (none, h.0)), h.1)
  right_idle (allocates_default access) s none h = ((none, h.0), h.1)
  right_idle (computes e) s none h = ((tt, h.0), h.1)

  -- Free: what it frees has no controlled parts, so nothing is finalized.
  freeing_idle : (access : ℕ) (v : Value) (cell : Cell Value) (clears : Frame Value) (s : State) → holds_parts forms cell.access ≡ false
      → Rests forms (at (clears ∷ s.control) s) → Rests forms (freeing named types access v cell clears s)
  freeing_idle access v cell clears s none h =
      let back = frame.GivesBack v (Freeing s.next) (Some (pool_freed_to (home_of access s.masters))) in (
        treating_idle forms v (frame.ends (Freeing s.next)) (all_tasks types cell.access WholeFirst) (frame.Ends v ∷ back ∷ clears ∷ s.control)
            (no_tasks forms types shown cell.access WholeFirst none) (tt, (tt, h.0)),
        on_idle forms parted (λ x. refl) s.heap v h.1,
      )

  -- It is erroneous where the object is of another pool.
  freeing_next_idle : (access : ℕ) (v : Value) (cell : Cell Value) (clears : Frame Value) (event : Event) (s : State) → holds_parts forms cell.access ≡ false
      → Rests forms (at (clears ∷ s.control) s) → AllRest forms (freeing_next named types access v cell clears event s)
  freeing_next_idle access v cell clears event s none h = by_pool (same_pool (Some (pool_freed_to (home_of access s.masters))) cell.home.pool)
    where
      by_pool : (own : Bool) → AllRest forms (if own then moves event (freeing named types access v cell clears s) else halts (Erroneous GivesElsewhere))
      by_pool true = freeing_idle access v cell clears s none h
      by_pool false = tt

  pub free_idle : (access x : ℕ) (v : Value) (found : Found (Cell Value)) (s : State) → FoundIsIdle forms found → Rests forms s
      → AllRest forms (free_next named types access x v found s)
  free_idle access x v on_null s none h = h
  free_idle access x v on_gone s none h = tt
  free_idle access x v on_other s none h = tt
  free_idle access x v (finds cell) s none h = freeing_next_idle access v cell (frame.Clears x) Quiet s none ((tt, h.0), h.1)

  freed_idle : (access : ℕ) (o : Value) (c : ℕ) (v : Value) (found : Found (Cell Value)) (s : State) → FoundIsIdle forms found → Rests forms s
      → AllRest forms (freed_next named types access o c v found s)
  freed_idle access o c v on_null s none h = h
  freed_idle access o c v on_gone s none h = tt
  freed_idle access o c v on_other s none h = tt
  freed_idle access o c v (finds cell) s none h = freeing_next_idle access v cell (frame.ClearsIn o c) (Followed o) s none ((tt, h.0), h.1)

  free_component_idle : (access : ℕ) (o : Value) (c : ℕ) (found : Option Value) (s : State) → Rests forms s
      → AllRest forms (free_component_next named types access o c found s)
  free_component_idle access o c None s h = tt
  free_component_idle access o c (Some v) s h = freed_idle access o c v (standing s.heap v) s (standing_idle forms s.heap v h.1) h

  pub free_in_idle : (access : ℕ) (o : Value) (c : ℕ) (found : Found (Cell Value)) (s : State) → Rests forms s
      → AllRest forms (free_in_next named types access o c found s)
  free_in_idle access o c on_null s h = h
  free_in_idle access o c on_gone s h = tt
  free_in_idle access o c on_other s h = tt
  free_in_idle access o c (finds cell) s h = free_component_idle access o c (slice_get cell.values c) s h

  -- A master is being left (7.6.1): its newest item goes, or an object is taken before that, which has no controlled parts.
  taken_idle : (cause : Cause) (pool : Option ℕ) (v : Value) (found : Found (Cell Value)) (s : State) → FoundIsIdle forms found → Rests forms s
      → Rests forms (taken_out named types cause pool v found s)
  taken_idle cause pool v on_null s none h = ((tt, (tt, h.0)), on_idle forms parted (λ x. refl) s.heap v h.1)
  taken_idle cause pool v on_gone s none h = ((tt, (tt, h.0)), on_idle forms parted (λ x. refl) s.heap v h.1)
  taken_idle cause pool v on_other s none h = ((tt, (tt, h.0)), on_idle forms parted (λ x. refl) s.heap v h.1)
  taken_idle cause pool v (finds cell) s none h = (
    treating_idle forms v (frame.ends cause) (all_tasks types cell.access WholeFirst) (frame.Ends v ∷ frame.GivesBack v cause pool ∷ s.control)
        (no_tasks forms types shown cell.access WholeFirst none) (tt, (tt, h.0)),
    on_idle forms parted (λ x. refl) s.heap v h.1,
  )

  members_idle : (cause : Cause) (pool : Option ℕ) (vs : List Value) (s : State) → Rests forms s
      → AllRest forms (members_next named types cause pool vs s)
  members_idle cause pool [] s h = h
  members_idle cause pool (v ∷ vs) s h =
      λ i. let one = slice_index_or (v ∷ vs) i Null in taken_idle cause pool one (look s.heap one) s (look_idle forms s.heap one h.1) h

  item_leave_idle : (m : ℕ) (item : Item) (owned : Owned) (s : State) → Rests forms s → AllRest forms (item_leave_next named types m item owned s)
  item_leave_idle m item (declared x) s h = h
  item_leave_idle m item (storage_pool declaration number) s h = h
  item_leave_idle m item (collection access pool) s h = members_idle (Leaving m item.number) pool (members s.heap item.number) s h
  item_leave_idle m item (record_object t) s h = members_idle (Leaving m item.number) None (members s.heap item.number) s h

  -- No item is left: what is behind the master goes on.
  master_leave_idle : (mode : Mode) (m : ℕ) (items : List Item) (s : State) → Rests forms s → AllRest forms (master_leave_next named types mode m items s)
  master_leave_idle mode m [] s h = h
  master_leave_idle mode m (item ∷ items) s h = item_leave_idle m item item.owned (at (frame.Leaves mode ∷ s.control) s) ((tt, h.0), h.1)

  pub leave_idle : (mode : Mode) (ms : List Master) (s : State) → Rests forms s → AllRest forms (leave_next named types mode ms s)
  leave_idle mode [] s h = tt
  leave_idle mode (m ∷ ms) s h = master_leave_idle mode m.number m.items s h
