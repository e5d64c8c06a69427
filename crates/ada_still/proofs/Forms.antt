-- What is left to do sits in still bodies or behind them, whatever is done by paths, expressions, values, allocators and Free, and as a master is left (4.1, 4.4, 4.8,
-- 5.2, 13.11.2, 7.6.1).

use Rattle.std.proofs.Common.{◌≡◌, inl, inr, ◌<◌, ◌+◌, ◌==◌, ◌++◌, zero, suc, arith, sym, subst, ℕ, Bool, true, false, if◌then◌else◌, List, [], ◌∷◌, length, map, Option, Some, None, Result, Ok, Err, refl}
use Rattle.std.specs.List.{slice_get, slice_index_or, AllByRecursion}
use Rattle.std.proofs.lemmas.Bool.{and_parts, eqb-true}
use Rattle.ada_program.specs.declared.program.TypeDefinition.{TypeDefinition}
use Rattle.ada_program.specs.Form.{RecordPathForm, ExpressionForm, integer, boolean, reads, is_null, applied_to, chained, LinksForm, no_more_links, a_link, ItemForm, null_item, item_of_path, item_of_value, item_of_record, RightForm, nothing, value_of, allocates, allocates_default, computes}
use Rattle.ada_program.specs.ProgramForm.{TypeForm, type_form, BodyForm}
use Rattle.ada_values.specs.declared.operator.BinaryOperator.{BinaryOperator}
use Rattle.ada_values.specs.declared.fault.OperatorFault.{OperatorFault}
use Rattle.ada_values.specs.declared.fault.OperatorFault.TheVariants.{Overflow, DivisionByZero, WrongType}
use Rattle.ada_parts.specs.declared.tasks.Direction.TheVariants.{PartsFirst, WholeFirst}
use Rattle.ada_meaning.specs.declared.event.Birth.TheVariants.{Creation}
use Rattle.ada_meaning.specs.declared.event.Cause.{Cause}
use Rattle.ada_meaning.specs.declared.event.Cause.TheVariants.{Leaving, Freeing}
use Rattle.ada_meaning.specs.declared.event.Halt.TheVariants.{Erroneous}
use Rattle.ada_meaning.specs.declared.event.Why.TheVariants.{GivesElsewhere}
use Rattle.ada_meaning.specs.declared.state.Mode.{Mode}
use Rattle.ada_meaning.specs.declared.state.Place.{Place}
use Rattle.ada_meaning.specs.declared.state.Value.{Value}
use Rattle.ada_meaning.specs.declared.state.Value.TheVariants.{Null, Names}
use Rattle.ada_meaning.specs.Event.{Back, Followed, Quiet}
use Rattle.ada_meaning.specs.Frame.{Treatment, Frame}
use Rattle.ada_meaning.specs.Frame as frame
use Rattle.ada_meaning.specs.State.{Owned, declared, collection, record_object, storage_pool, type_housed, Item, Master, Destination, height, home_of, pool_freed_to}
use Rattle.ada_meaning.specs.Heap.{Cell, Found, on_null, on_gone, on_other, finds}
use Rattle.ada_meaning.specs.Step.{halts, moves, all_tasks, stored_from, owning, made, record_cell, copy_next, record_assign_next, at, held, newest, reading, component_next, follow_next, path_next, before_last, last_of, selected, named_next, holder_next, place_in, record_holder_next, referred_next, refers_next, open_next, opened_next, opens_next, expression_next, null_test_next, is_decided, link_next, links_next, outcome_next, item_next, items_next, copied_next, copies_next, newest_ones, without_newest, record_in, record_target_next, record_stored_next, store_record_next, new_cell, answered, new_next, right_next, free_next, end_next, same_pool, told_back, given_back, back_next, freeing, freeing_next, freed_next, free_component_next, free_in_next, taken_out, members_next, item_leave_next, master_leave_next, leave_next}
use Rattle.ada_meaning.specs.Named.{State, Object, store, filled, is_member, members_from, seen, existing, named, whole, inside, look, standing, parted, finished, returned, on_object, members, reads_boolean}
use Rattle.ada_meaning.specs.Run.{Event}
use Rattle.ada_parts.specs.declared.tasks.Direction.{Direction}
use Rattle.ada_meaning.specs.declared.event.Birth.{Birth}
use Rattle.ada_meaning.specs.declared.state.Id.{Id}
use Rattle.ada_meaning.specs.declared.state.Stage.{Stage}
use Rattle.ada_meaning.specs.declared.state.Stage.TheVariants.{Building, Existing, Gone}
use Rattle.ada_meaning.specs.Law.{items_of}
use Rattle.ada_order.proofs.Numbers.{Counted}
use Rattle.ada_scopes.proofs.Homes.{HasHome, home_has, Housed, housed_owning, housed_on, housed_new, IsEmpty, housed_shorter}
use Rattle.ada_scopes.proofs.Evaluations.{keeps_parted, keeps_finished, keeps_returned, keeps_filled}
use Rattle.ada_still.specs.Still.{right_keeps, holds_parts}
use Rattle.ada_still.proofs.Sits.{no_tasks, bounds, IsOwned, IsEntered, SitsInside, Rests, AllRest, creates_none, collects_none, other, treating_sits, IsElaborating, owning_elaborating, elaborating_entered}

-- Components of an object get values (5.2).
housed_from : (heap : List Object) (o : Value) (c : ℕ) (vs : List Value) (is : List Item) → Housed heap is → Housed (stored_from named heap o c vs) is
housed_from heap o c [] is h = h
housed_from heap o c (v ∷ vs) is h = housed_from (store heap o c v) o (c + 1) vs is (housed_on (filled c v) heap o is (keeps_filled c v) h)

module _ (forms : List TypeForm) (bodies : List BodyForm) (still own : ℕ → Bool) (b : Bool) where
  -- Paths and expressions (4.1, 4.4).
  reading_sits : (cs : List ℕ) (v : Value) (s : State) → Rests forms bodies still own b s → Rests forms bodies still own b (reading named cs v s)
  reading_sits [] v s h = h
  reading_sits (c ∷ cs) v s h = ((tt, h.0), h.1)

  component_sits : (v : Value) (cs : List ℕ) (found : Option Value) (s : State) → Rests forms bodies still own b s
      → AllRest forms bodies still own b (component_next named v cs found s)
  component_sits v cs None s h = tt
  component_sits v cs (Some u) s h = reading_sits cs u s h

  follow_sits : (v : Value) (c : ℕ) (cs : List ℕ) (found : Found (Cell Value)) (s : State) → Rests forms bodies still own b s
      → AllRest forms bodies still own b (follow_next named v c cs found s)
  follow_sits v c cs on_null s h = h
  follow_sits v c cs on_gone s h = tt
  follow_sits v c cs on_other s h = tt
  follow_sits v c cs (finds cell) s h = component_sits v cs (slice_get cell.values c) s h

  pub path_sits : (cs : List ℕ) (v : Value) (s : State) → Rests forms bodies still own b s → AllRest forms bodies still own b (path_next named cs v s)
  path_sits [] v s h = h
  path_sits (c ∷ cs) v s h = follow_sits v c cs (look s.heap v) s h

  -- Where a path begins.
  pub named_sits : (cs : List ℕ) (x : ℕ) (s : State) → Rests forms bodies still own b s → AllRest forms bodies still own b (named_next named cs x s)
  named_sits cs x s h = path_sits (selected named (held named s x) cs) (whole (held named s x)) s h

  pub holder_sits : (c : ℕ) (cs : List ℕ) (x : ℕ) (frame_of : ℕ → Frame Value) (s : State) → ((n : ℕ) → Rests forms bodies still own b (at (frame_of n ∷ s.control) s))
      → AllRest forms bodies still own b (holder_next named c cs x frame_of s)
  holder_sits c cs x frame_of s n =
      path_sits (before_last (inside (held named s x) c) cs) (whole (held named s x))
      (at (frame_of (last_of (inside (held named s x) c) cs) ∷ s.control) s) (n (last_of (inside (held named s x) c) cs))

  pub record_holder_sits : (p : RecordPathForm) (frame_of : Place → Frame Value) (s : State)
      → ((place : Place) → Rests forms bodies still own b (at (frame_of place ∷ s.control) s)) → AllRest forms bodies still own b (record_holder_next named p frame_of s)
  record_holder_sits p frame_of s n =
      path_sits (selected named (held named s p.object.root) p.object.selectors) (whole (held named s p.object.root))
      (at (frame_of (place_in named (held named s p.object.root) p.object.selectors p) ∷ s.control) s)
      (n (place_in named (held named s p.object.root) p.object.selectors p))

  pub expression_sits : (e : ExpressionForm) (s : State) → Rests forms bodies still own b s → AllRest forms bodies still own b (expression_next named e s)
  expression_sits (integer i) s h = h
  expression_sits (boolean b) s h = h
  expression_sits (reads path) s h = named_sits path.selectors path.root s h
  expression_sits (is_null equal path) s h = named_sits path.selectors path.root (at (frame.TestsNull equal ∷ s.control) s) ((tt, h.0), h.1)
  expression_sits (applied_to operator e) s h = ((tt, (tt, h.0)), h.1)
  expression_sits (chained e links) s h = ((tt, (tt, h.0)), h.1)

  pub null_test_sits : (equal : Bool) (null : Option Bool) (s : State) → Rests forms bodies still own b s
      → AllRest forms bodies still own b (null_test_next named equal null s)
  null_test_sits equal None s h = tt
  null_test_sits true (Some null) s h = h
  null_test_sits false (Some null) s h = h

  link_sits : (decided : Bool) (operator : BinaryOperator) (e : ExpressionForm) (links : LinksForm) (s : State) → Rests forms bodies still own b s
      → AllRest forms bodies still own b (link_next named decided operator e links s)
  link_sits true operator e links s h = ((tt, h.0), h.1)
  link_sits false operator e links s h = ((tt, (tt, (tt, h.0))), h.1)

  pub links_sits : (links : LinksForm) (s : State) → Rests forms bodies still own b s → AllRest forms bodies still own b (links_next named links s)
  links_sits no_more_links s h = h
  links_sits (a_link operator e links) s h = link_sits (is_decided named operator (reads_boolean (newest named s))) operator e links s h

  pub outcome_sits : (outcome : Result Value OperatorFault) (s : State) → Rests forms bodies still own b s
      → AllRest forms bodies still own b (outcome_next named outcome s)
  outcome_sits (Ok v) s h = h
  outcome_sits (Err Overflow) s h = h
  outcome_sits (Err DivisionByZero) s h = h
  outcome_sits (Err WrongType) s h = tt

  -- Allocators, and what is assigned.
  item_sits : (item : ItemForm) (s : State) → Rests forms bodies still own b s → AllRest forms bodies still own b (item_next named item s)
  item_sits null_item s h = h
  item_sits (item_of_path path) s h = named_sits path.selectors path.root s h
  item_sits (item_of_value e) s h = ((tt, h.0), h.1)
  item_sits (item_of_record p) s h = record_holder_sits p (λ place. frame.Copies place.component p.record_type) s (λ place. ((tt, h.0), h.1))

  pub items_sits : (items : List ItemForm) (s : State) → Rests forms bodies still own b s → AllRest forms bodies still own b (items_next named items s)
  items_sits [] s h = h
  items_sits (i ∷ is) s h = item_sits i (at (frame.Fills is ∷ s.control) s) ((tt, h.0), h.1)

  -- Records as wholes.
  copied_sits : (o : Value) (found : Option (List Value)) (s : State) → Rests forms bodies still own b s
      → AllRest forms bodies still own b (copied_next named o found s)
  copied_sits o None s h = tt
  copied_sits o (Some vs) s h = h

  pub copies_sits : (o : Value) (first count : ℕ) (found : Found (Cell Value)) (s : State) → Rests forms bodies still own b s
      → AllRest forms bodies still own b (copies_next named o first count found s)
  copies_sits o first count on_null s h = h
  copies_sits o first count on_gone s h = tt
  copies_sits o first count on_other s h = tt
  copies_sits o first count (finds cell) s h = copied_sits o (record_in cell.values first count) s h

  pub record_target_sits : (o : Value) (first count : ℕ) (items : List ItemForm) (found : Found (Cell Value)) (s : State) → Rests forms bodies still own b s
      → AllRest forms bodies still own b (record_target_next named o first count items found s)
  record_target_sits o first count items on_null s h = h
  record_target_sits o first count items on_gone s h = tt
  record_target_sits o first count items on_other s h = tt
  record_target_sits o first count items (finds cell) s h = ((tt, (tt, h.0)), h.1)

  record_stored_sits : (o : Value) (first : ℕ) (vs : List Value) (found : Option (List Value)) (s : State) → Rests forms bodies still own b s
      → AllRest forms bodies still own b (record_stored_next named o first vs found s)
  record_stored_sits o first vs None s h = tt
  record_stored_sits o first vs (Some before) s h = (h.0, housed_from s.heap o first vs (items_of s.masters) h.1)

  pub store_record_sits : (o : Value) (first count : ℕ) (found : Found (Cell Value)) (s : State) → Rests forms bodies still own b s
      → AllRest forms bodies still own b (store_record_next named o first count found s)
  store_record_sits o first count on_null s h = tt
  store_record_sits o first count on_gone s h = tt
  store_record_sits o first count on_other s h = tt
  store_record_sits o first count (finds cell) s h =
      record_stored_sits o first (newest_ones named count s) (record_in cell.values first count) (without_newest named count s) h

  -- Records are assigned as wholes (5.2): where they have controlled parts, which still bodies do not assign, both are found first.
  copy_sits : (target : RecordPathForm) (items : List ItemForm) (s : State) → b ≡ false → Rests forms bodies still own b s → AllRest forms bodies still own b (copy_next named target items s)
  copy_sits target [] s outside h = tt
  copy_sits target (null_item ∷ items) s outside h = tt
  copy_sits target (item_of_path path ∷ items) s outside h = tt
  copy_sits target (item_of_value e ∷ items) s outside h = tt
  copy_sits target (item_of_record source ∷ []) s outside h = ((tt, (tt, (outside, h.0))), h.1)
  copy_sits target (item_of_record source ∷ i ∷ items) s outside h = tt

  pub record_assign_sits : (parts : Bool) (target : RecordPathForm) (items : List ItemForm) (s : State) → (b ≡ true → parts ≡ false) → Rests forms bodies still own b s
      → AllRest forms bodies still own b (record_assign_next named parts target items s)
  record_assign_sits true target items s none h = copy_sits target items s (other forms bodies still own b (λ within. cc (none within))) h
  record_assign_sits false target items s none h =
      record_holder_sits target (λ place. frame.TargetsRecord place.component target.record_type items) s (λ place. ((tt, h.0), h.1))

  -- What is passed by reference, and the components that get something back.
  referred_sits : (o : Value) (place : Place) (found : Option (List Value)) (s : State) → Rests forms bodies still own b s
      → AllRest forms bodies still own b (referred_next named o place found s)
  referred_sits o place None s h = tt
  referred_sits o place (Some vs) s h = h

  pub refers_sits : (o : Value) (place : Place) (count : ℕ) (found : Found (Cell Value)) (s : State) → Rests forms bodies still own b s
      → AllRest forms bodies still own b (refers_next named o place count found s)
  refers_sits o place count on_null s h = h
  refers_sits o place count on_gone s h = tt
  refers_sits o place count on_other s h = tt
  refers_sits o place count (finds cell) s h = referred_sits o place (record_in cell.values place.component count) s h

  pub open_sits : (cs : List ℕ) (x : ℕ) (s : State) → Rests forms bodies still own b s → AllRest forms bodies still own b (open_next named cs x s)
  open_sits [] x s h = tt
  open_sits (c ∷ cs) x s h = holder_sits c cs x frame.OpensIn s (λ n. ((tt, h.0), h.1))

  opened_sits : (o : Value) (c : ℕ) (found : Option Value) (s : State) → Rests forms bodies still own b s
      → AllRest forms bodies still own b (opened_next named o c found s)
  opened_sits o c None s h = tt
  opened_sits o c (Some v) s h = h

  pub opens_sits : (o : Value) (c : ℕ) (found : Found (Cell Value)) (s : State) → Rests forms bodies still own b s
      → AllRest forms bodies still own b (opens_next named o c found s)
  opens_sits o c on_null s h = h
  opens_sits o c on_gone s h = tt
  opens_sits o c on_other s h = tt
  opens_sits o c (finds cell) s h = opened_sits o c (slice_get cell.values c) s h

  -- What a Free leads to at its end (13.11.2).
  pub end_sits : (v : Value) (found : Found (Cell Value)) (s : State) → Rests forms bodies still own b s → AllRest forms bodies still own b (end_next named v found s)
  end_sits v on_null s h = tt
  end_sits v on_gone s h = tt
  end_sits v on_other s h = tt
  end_sits v (finds cell) s h = (h.0, housed_on finished s.heap v (items_of s.masters) keeps_finished h.1)

  told_sits : (pool : Option ℕ) (v : Value) (event : Event) (s : State) → Rests forms bodies still own b s
      → AllRest forms bodies still own b (told_back named pool v event (record s { heap = on_object returned s.heap v }))
  told_sits None v event s h = (h.0, housed_on returned s.heap v (items_of s.masters) keeps_returned h.1)
  told_sits (Some pool) v event s h = (h.0, housed_on returned s.heap v (items_of s.masters) keeps_returned h.1)

  given_sits : (fits : Bool) (v : Value) (cause : Cause) (cell : Cell Value) (s : State) → Rests forms bodies still own b s
      → AllRest forms bodies still own b (if fits then given_back named v cause cell s else halts (Erroneous GivesElsewhere))
  given_sits true v cause cell s h = told_sits cell.home.pool v (Back v cell.access cell.number cell.home.pool cell.home.subpool cause) s h
  given_sits false v cause cell s h = tt

  pub back_sits : (v : Value) (cause : Cause) (pool : Option ℕ) (found : Found (Cell Value)) (s : State) → Rests forms bodies still own b s
      → AllRest forms bodies still own b (back_next named v cause pool found s)
  back_sits v cause pool on_null s h = tt
  back_sits v cause pool on_gone s h = tt
  back_sits v cause pool on_other s h = tt
  back_sits v cause pool (finds cell) s h = given_sits (same_pool pool cell.home.pool) v cause cell s h

module _ (forms : List TypeForm) where
  -- What is found has no controlled parts.
  abbrev pub FoundIsBare : Found (Cell Value) → Type 0
  FoundIsBare on_null = Unit {0}
  FoundIsBare on_gone = Unit {0}
  FoundIsBare on_other = Unit {0}
  FoundIsBare (finds cell) = holds_parts forms cell.access ≡ false

module _ (forms : List TypeForm) (bodies : List BodyForm) (still own : ℕ → Bool) (b : Bool) (types : List TypeDefinition) (shown : map type_form types ≡ forms) where
  -- In still bodies there is nothing to do for an object that such a text creates.
  none_to_do : (access : ℕ) (direction : Direction) → (b ≡ true → holds_parts forms access ≡ false) → b ≡ true → all_tasks types access direction ≡ []
  none_to_do access direction none within = no_tasks forms types shown access direction (none within)

  -- Allocators (4.8).
  answered_sits : (access count words : ℕ) (home : Destination) (s : State) (granted : Bool) → home_of access s.masters ≡ Some home → (bounds forms bodies still own b).creates access ≡ true
      → Rests forms bodies still own b s → Rests forms bodies still own b (answered named types access count words home s granted)
  answered_sits access count words home s true at_home may h = (
    treating_sits forms bodies still own b (Names (record { 0 = length s.heap })) (frame.begins Creation []) (all_tasks types access PartsFirst) s.control s.masters
        (none_to_do access PartsFirst (creates_none forms bodies still own b access may)) h.0,
    housed_new s.heap (new_cell named types access count home s) (items_of s.masters) (home_has access home s.masters at_home) h.1,
  )
  answered_sits access count words home s false at_home may h = h

  pub new_sits : (access count words : ℕ) (home : Option Destination) (s : State) → home_of access s.masters ≡ home → (bounds forms bodies still own b).creates access ≡ true
      → Rests forms bodies still own b s → AllRest forms bodies still own b (new_next named types access count words home s)
  new_sits access count words None s at_home may h = h
  new_sits access count words (Some home) s at_home may h = λ granted. answered_sits access count words home s granted at_home may h

  pub right_sits : (right : RightForm) (s : State) → right_keeps (bounds forms bodies still own b) right ≡ true → Rests forms bodies still own b s → AllRest forms bodies still own b (right_next named types right s)
  right_sits nothing s may h = h
  right_sits (value_of path) s may h = named_sits forms bodies still own b path.selectors path.root s h
  right_sits (allocates access items) s may h = ((tt, (may, h.0)), h.1)
  right_sits (allocates_default access) s may h = ((may, h.0), h.1)
  right_sits (computes e) s may h = ((tt, h.0), h.1)

  -- Free (13.11.2): what a still body frees has no controlled parts, so nothing is finalized.
  freeing_sits : (access : ℕ) (v : Value) (cell : Cell Value) (clears : Frame Value) (s : State) → (b ≡ true → holds_parts forms cell.access ≡ false)
      → Rests forms bodies still own b (at (clears ∷ s.control) s) → Rests forms bodies still own b (freeing named types access v cell clears s)
  freeing_sits access v cell clears s none h =
      let back = frame.GivesBack v (Freeing s.next) (Some (pool_freed_to (home_of access s.masters))) in (
        treating_sits forms bodies still own b v (frame.ends (Freeing s.next)) (all_tasks types cell.access WholeFirst) (frame.Ends v ∷ back ∷ clears ∷ s.control) s.masters
            (none_to_do cell.access WholeFirst none) (tt, (tt, h.0)),
        housed_on parted s.heap v (items_of s.masters) keeps_parted h.1,
      )

  -- It is erroneous where the object is of another pool.
  freeing_next_sits : (access : ℕ) (v : Value) (cell : Cell Value) (clears : Frame Value) (event : Event) (s : State) → (b ≡ true → holds_parts forms cell.access ≡ false)
      → Rests forms bodies still own b (at (clears ∷ s.control) s) → AllRest forms bodies still own b (freeing_next named types access v cell clears event s)
  freeing_next_sits access v cell clears event s none h = by_pool (same_pool (Some (pool_freed_to (home_of access s.masters))) cell.home.pool)
    where
      by_pool : (fits : Bool) → AllRest forms bodies still own b (if fits then moves event (freeing named types access v cell clears s) else halts (Erroneous GivesElsewhere))
      by_pool true = freeing_sits access v cell clears s none h
      by_pool false = tt

  pub free_sits : (access x : ℕ) (v : Value) (found : Found (Cell Value)) (s : State) → (b ≡ true → FoundIsBare forms found) → Rests forms bodies still own b s
      → AllRest forms bodies still own b (free_next named types access x v found s)
  free_sits access x v on_null s none h = h
  free_sits access x v on_gone s none h = tt
  free_sits access x v on_other s none h = tt
  free_sits access x v (finds cell) s none h = freeing_next_sits access v cell (frame.Clears x) Quiet s none ((tt, h.0), h.1)

  freed_sits : (access : ℕ) (o : Value) (c : ℕ) (v : Value) (found : Found (Cell Value)) (s : State) → (b ≡ true → FoundIsBare forms found) → Rests forms bodies still own b s
      → AllRest forms bodies still own b (freed_next named types access o c v found s)
  freed_sits access o c v on_null s none h = h
  freed_sits access o c v on_gone s none h = tt
  freed_sits access o c v on_other s none h = tt
  freed_sits access o c v (finds cell) s none h = freeing_next_sits access v cell (frame.ClearsIn o c) (Followed o) s none ((tt, h.0), h.1)

  free_component_sits : (access : ℕ) (o : Value) (c : ℕ) (found : Option Value) (s : State)
      → ((v : Value) → found ≡ Some v → b ≡ true → FoundIsBare forms (standing s.heap v)) → Rests forms bodies still own b s
      → AllRest forms bodies still own b (free_component_next named types access o c found s)
  free_component_sits access o c None s bare h = tt
  free_component_sits access o c (Some v) s bare h = freed_sits access o c v (standing s.heap v) s (bare v refl) h

  pub free_in_sits : (access : ℕ) (o : Value) (c : ℕ) (found : Found (Cell Value)) (s : State)
      → ((cell : Cell Value) (v : Value) → found ≡ finds cell → slice_get cell.values c ≡ Some v → b ≡ true → FoundIsBare forms (standing s.heap v)) → Rests forms bodies still own b s
      → AllRest forms bodies still own b (free_in_next named types access o c found s)
  free_in_sits access o c on_null s bare h = h
  free_in_sits access o c on_gone s bare h = tt
  free_in_sits access o c on_other s bare h = tt
  free_in_sits access o c (finds cell) s bare h = free_component_sits access o c (slice_get cell.values c) s (λ v there. bare cell v refl there) h

  -- The members of a collection (7.6.1): each that may be picked is so, if all are.
  all_joined : (P : Value → Type 0) (xs ys : List Id) → AllByRecursion P (map Names xs) → AllByRecursion P (map Names ys) → AllByRecursion P (map Names (xs ++ ys))
  all_joined P [] ys f g = g
  all_joined P (x ∷ xs) ys f g = (f.0, all_joined P xs ys f.1 g)

  all_members : (P : Value → Type 0) (item n : ℕ) (xs : List Object) → ((j : ℕ) (x : Object) → slice_get xs j ≡ Some x → is_member item x ≡ true → P (Names (record { 0 = n + j })))
      → AllByRecursion P (map Names (members_from item n xs))
  all_members P item n [] each = tt
  all_members P item n (x ∷ xs) each =
      all_joined P (members_from item (suc n) xs) (if is_member item x then record { 0 = n } ∷ [] else [])
      (all_members P item (suc n) xs (λ j y there member.
      let next : n + suc j ≡ suc n + j = omega arith in
      subst (λ (m : ℕ). P (Names (record { 0 = m }))) next (each (suc j) y there member)))
      (by (is_member item x) refl)
    where
      by : (member : Bool) → is_member item x ≡ member → AllByRecursion P (map Names (if member then record { 0 = n } ∷ [] else []))
      by true is = let first : n + 0 ≡ n = omega arith in (subst (λ (m : ℕ). P (Names (record { 0 = m }))) first (each 0 x refl is), tt)
      by false is = tt

  one_of : (P : Value → Type 0) (vs : List Value) (i : ℕ) → P Null → AllByRecursion P vs → P (slice_index_or vs i Null)
  one_of P [] i null h = null
  one_of P (v ∷ vs) zero null h = h.0
  one_of P (v ∷ vs) (suc i) null h = one_of P vs i null h.1

  -- Where an item houses an object its number is among those of the items.
  has_below : (n access : ℕ) (pool : Option ℕ) (is : List Item) → Counted is → HasHome n access pool is → n < length is
  has_below n access pool [] counted has = absurd has
  has_below n access pool (i ∷ is) counted (inl has) = let own = counted.0 in let same = has.0 in omega (arith, own, same)
  has_below n access pool (i ∷ is) counted (inr has) = let below = has_below n access pool is counted.1 has in omega (arith, below)

  -- What goes with an item that a still body declared has no controlled parts.
  owned_bare : (owned : Owned) (access : ℕ) → IsOwned forms bodies still own b owned → type_housed owned ≡ Some access → b ≡ true → holds_parts forms access ≡ false
  owned_bare (declared x) access may is within = absurd (cc is)
  owned_bare (collection t pool) access may is within = let same : t ≡ access = cc is in subst (λ (u : ℕ). holds_parts forms u ≡ false) same (collects_none forms bodies still own b t may within)
  owned_bare (record_object t) access may is within = let same : t ≡ access = cc is in subst (λ (u : ℕ). holds_parts forms u ≡ false) same (creates_none forms bodies still own b t may within)
  owned_bare (storage_pool declaration number) access may is within = absurd (cc is)

  member_bare : (item : Item) (others : List Item) (x : Object) → Counted (item ∷ others) → IsOwned forms bodies still own b item.owned
      → HasHome x.cell.home.item x.cell.access x.cell.home.pool (item ∷ others) → x.cell.home.item ≡ item.number → b ≡ true → holds_parts forms x.cell.access ≡ false
  member_bare item others x counted may (inl has) home within = owned_bare item.owned x.cell.access may has.1 within
  member_bare item others x counted may (inr has) home within =
      let below = has_below x.cell.home.item x.cell.access x.cell.home.pool others counted.1 has in
      let own_number = counted.0 in
      absurd (omega (arith, below, own_number, home))

  existing_bare : (x : Object) (stage : Stage) → holds_parts forms x.cell.access ≡ false → FoundIsBare forms (existing x stage)
  existing_bare x Building bare = bare
  existing_bare x Existing bare = bare
  existing_bare x Gone bare = tt

  picked_bare : (heap : List Object) (item : Item) (others : List Item) (i : ℕ) → Counted (item ∷ others) → Housed heap (item ∷ others) → IsOwned forms bodies still own b item.owned
      → b ≡ true → FoundIsBare forms (look heap (slice_index_or (members heap item.number) i Null))
  picked_bare heap item others i counted housed may within =
      one_of (λ (v : Value). FoundIsBare forms (look heap v)) (members heap item.number) i tt
      (all_members (λ (v : Value). FoundIsBare forms (look heap v)) item.number 0 heap (λ j x there member.
      let both = and_parts x.listed (x.cell.home.item == item.number) member in
      let same : 0 + j ≡ j = omega arith in
      let bare = existing_bare x x.stage (member_bare item others x counted may (housed (record { 0 = j }) x there both.0) (eqb-true x.cell.home.item item.number both.1) within) in
      subst (λ (m : ℕ). FoundIsBare forms (look heap (Names (record { 0 = m })))) (sym same) (subst (λ (found : Option Object). FoundIsBare forms (seen found)) (sym there) bare)))

  -- A master is being left (7.6.1): its newest item goes, or an object is taken before that.
  taken_sits : (cause : Cause) (pool : Option ℕ) (v : Value) (found : Found (Cell Value)) (s : State) → (b ≡ true → FoundIsBare forms found) → Rests forms bodies still own b s
      → Rests forms bodies still own b (taken_out named types cause pool v found s)
  taken_sits cause pool v on_null s none h = ((tt, (tt, h.0)), housed_on parted s.heap v (items_of s.masters) keeps_parted h.1)
  taken_sits cause pool v on_gone s none h = ((tt, (tt, h.0)), housed_on parted s.heap v (items_of s.masters) keeps_parted h.1)
  taken_sits cause pool v on_other s none h = ((tt, (tt, h.0)), housed_on parted s.heap v (items_of s.masters) keeps_parted h.1)
  taken_sits cause pool v (finds cell) s none h = (
    treating_sits forms bodies still own b v (frame.ends cause) (all_tasks types cell.access WholeFirst) (frame.Ends v ∷ frame.GivesBack v cause pool ∷ s.control) s.masters
        (none_to_do cell.access WholeFirst none) (tt, (tt, h.0)),
    housed_on parted s.heap v (items_of s.masters) keeps_parted h.1,
  )

  -- The state with these masters.
  abbrev mastered : List Master → State → State
  mastered ms s = record s { masters = ms }

  shorter_sits : (mode : Mode) (m : ℕ) (item : Item) (items : List Item) (ms : List Master) (s : State) → IsEmpty s.heap item item.owned
      → SitsInside forms bodies still own b s.control (record { number = m; items = item ∷ items } ∷ ms) → Housed s.heap (items_of (record { number = m; items = item ∷ items } ∷ ms))
      → Rests forms bodies still own b (record (at (frame.Leaves mode ∷ s.control) s) { masters = record { number = m; items = items } ∷ ms })
  shorter_sits mode m item items ms s empty h housed = ((tt, (h.0.1, h.1)), housed_shorter s.heap m item items ms empty housed)

  members_sits : (mode : Mode) (cause : Cause) (pool : Option ℕ) (m : ℕ) (item : Item) (items : List Item) (ms : List Master) (vs : List Value) (s : State)
      → members s.heap item.number ≡ vs → (members s.heap item.number ≡ [] → IsEmpty s.heap item item.owned) → Counted (items_of (record { number = m; items = item ∷ items } ∷ ms))
      → SitsInside forms bodies still own b s.control (record { number = m; items = item ∷ items } ∷ ms) → Housed s.heap (items_of (record { number = m; items = item ∷ items } ∷ ms))
      → AllRest forms bodies still own b (members_next named types cause pool vs (at (frame.Leaves mode ∷ s.control) (mastered (record { number = m; items = item ∷ items } ∷ ms) s)))
  members_sits mode cause pool m item items ms [] s all empty counted h housed = shorter_sits mode m item items ms s (empty all) h housed
  members_sits mode cause pool m item items ms (v ∷ vs) s all empty counted h housed =
      λ i. let one = slice_index_or (v ∷ vs) i Null in
      taken_sits cause pool one (look s.heap one) (at (frame.Leaves mode ∷ s.control) (mastered (record { number = m; items = item ∷ items } ∷ ms) s))
      (λ within. subst (λ (us : List Value). FoundIsBare forms (look s.heap (slice_index_or us i Null))) all
      (picked_bare s.heap item (items ++ items_of ms) i counted housed h.0.0 within)) ((tt, h), housed)

  item_leave_sits : (mode : Mode) (m : ℕ) (item : Item) (items : List Item) (ms : List Master) (owned : Owned) (s : State) → item.owned ≡ owned
      → Counted (items_of (record { number = m; items = item ∷ items } ∷ ms))
      → SitsInside forms bodies still own b s.control (record { number = m; items = item ∷ items } ∷ ms) → Housed s.heap (items_of (record { number = m; items = item ∷ items } ∷ ms))
      → AllRest forms bodies still own b (item_leave_next named types m item owned (at (frame.Leaves mode ∷ s.control) (mastered (record { number = m; items = item ∷ items } ∷ ms) s)))
  item_leave_sits mode m item items ms (declared x) s is counted h housed =
      shorter_sits mode m item items ms s (subst (λ (o : Owned). IsEmpty s.heap item o) (sym is) tt) h housed
  item_leave_sits mode m item items ms (storage_pool declaration number) s is counted h housed =
      shorter_sits mode m item items ms s (subst (λ (o : Owned). IsEmpty s.heap item o) (sym is) tt) h housed
  item_leave_sits mode m item items ms (collection access pool) s is counted h housed =
      members_sits mode (Leaving m item.number) pool m item items ms (members s.heap item.number) s refl
      (λ none. subst (λ (o : Owned). IsEmpty s.heap item o) (sym is) none) counted h housed
  item_leave_sits mode m item items ms (record_object t) s is counted h housed =
      members_sits mode (Leaving m item.number) None m item items ms (members s.heap item.number) s refl
      (λ none. subst (λ (o : Owned). IsEmpty s.heap item o) (sym is) none) counted h housed

  -- No item is left: what is behind the master goes on.
  master_leave_sits : (mode : Mode) (m : ℕ) (items : List Item) (ms : List Master) (s : State) → Counted (items_of (record { number = m; items = items } ∷ ms))
      → SitsInside forms bodies still own b s.control (record { number = m; items = items } ∷ ms) → Housed s.heap (items_of (record { number = m; items = items } ∷ ms))
      → AllRest forms bodies still own b (master_leave_next named types mode m items (mastered (record { number = m; items = items } ∷ ms) s))
  master_leave_sits mode m [] ms s counted h housed = (h.1, housed)
  master_leave_sits mode m (item ∷ items) ms s counted h housed = item_leave_sits mode m item items ms item.owned s refl counted h housed

  pub leave_sits : (mode : Mode) (ms : List Master) (s : State) → Counted (items_of ms) → SitsInside forms bodies still own b s.control ms → Housed s.heap (items_of ms)
      → AllRest forms bodies still own b (leave_next named types mode ms (mastered ms s))
  leave_sits mode [] s counted h housed = tt
  leave_sits mode (m ∷ ms) s counted h housed = master_leave_sits mode m.number m.items ms s counted h housed

  -- A record object is made (3.3.1).
  pub made_sits : (x t : ℕ) (by : Birth) (values : List Value) (s : State) → (bounds forms bodies still own b).creates t ≡ true → IsElaborating forms bodies still own s.control → Rests forms bodies still own b s
      → Rests forms bodies still own b (made named types x t by values s)
  made_sits x t by values s may elaborates h =
      let item : Item = record { number = height s.masters; owned = record_object t } in (
        treating_sits forms bodies still own b (Names (record { 0 = length s.heap })) (frame.begins by []) (all_tasks types t PartsFirst) s.control (owning item s.masters)
            (none_to_do t PartsFirst (creates_none forms bodies still own b t may)) (owning_elaborating forms bodies still own b item s.control s.masters may elaborates h.0),
        housed_new s.heap (record_cell named types t (height s.masters) values) (items_of (owning item s.masters)) (home_made s.masters (elaborating_entered forms bodies still own b s.control s.masters elaborates h.0))
            (housed_owning s.heap item s.masters h.1),
      )
    where
      home_made : (ms : List Master) → IsEntered forms bodies still own ms → HasHome (height s.masters) t None (items_of (owning (record { number = height s.masters; owned = record_object t }) ms))
      home_made [] none = absurd none
      home_made (m ∷ ms) some = inl (refl, refl, refl)
