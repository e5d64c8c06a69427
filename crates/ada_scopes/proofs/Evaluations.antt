-- What comes next while forms are evaluated, while components are stored in and while objects go: a state that nests leads to one that nests.

use Rattle.std.proofs.Common.{◌≡◌, ℕ, ◌<◌, ◌+◌, Bool, true, false, if◌then◌else◌, List, [], ◌∷◌, length, Option, Some, None, Result, Ok, Err, refl}
use Rattle.std.specs.List.{slice_get}
use Rattle.ada_program.specs.declared.program.TypeDefinition.{TypeDefinition}
use Rattle.ada_program.specs.Form.{RecordPathForm, ExpressionForm, integer, boolean, reads, is_null, applied_to, chained, LinksForm, no_more_links, a_link, ItemForm, null_item, item_of_path, item_of_value, item_of_record, RightForm, nothing, value_of, allocates, allocates_default, computes}
use Rattle.ada_program.specs.ProgramForm.{TypeForm}
use Rattle.ada_program.specs.Typed.{width_of}
use Rattle.ada_program.specs.Nested.{Callees}
use Rattle.ada_values.specs.declared.operator.BinaryOperator.{BinaryOperator}
use Rattle.ada_values.specs.declared.fault.OperatorFault.{OperatorFault}
use Rattle.ada_values.specs.declared.fault.OperatorFault.TheVariants.{Overflow, DivisionByZero, WrongType}
use Rattle.ada_parts.specs.declared.tasks.Direction.TheVariants.{PartsFirst, WholeFirst}
use Rattle.ada_meaning.specs.declared.event.Birth.TheVariants.{Creation, Adjustment}
use Rattle.ada_meaning.specs.declared.event.Cause.TheVariants.{Freeing, Assigning}
use Rattle.ada_meaning.specs.declared.state.Place.{Place}
use Rattle.ada_meaning.specs.declared.state.Value.{Value}
use Rattle.ada_meaning.specs.declared.state.Value.TheVariants.{Names}
use Rattle.ada_meaning.specs.declared.state.Mode.TheVariants.{Running}
use Rattle.ada_meaning.specs.declared.event.Cause.{Cause}
use Rattle.ada_meaning.specs.declared.event.Halt.TheVariants.{Erroneous}
use Rattle.ada_meaning.specs.declared.event.Why.TheVariants.{GivesElsewhere}
use Rattle.ada_meaning.specs.Event.{Back, Followed, Quiet}
use Rattle.ada_meaning.specs.Frame.{Frame, is_master, is_loop, is_return, Landing, passes_on, goes_behind, goes_in, handler_landing, landing}
use Rattle.ada_meaning.specs.Frame as frame
use Rattle.ada_meaning.specs.State.{Destination, home_of, pool_freed_to}
use Rattle.ada_meaning.specs.Heap.{Cell, Found, on_null, on_gone, on_other, finds}
use Rattle.ada_meaning.specs.Step.{halts, moves, tells, asks, picks, all_tasks, record_tasks, treating, copy_next, record_assign_next, assigns_next, at, held, newest, reading, component_next, follow_next, path_next, before_last, last_of, selected, named_next, holder_next, place_in, record_holder_next, referred_next, refers_next, open_next, opened_next, opens_next, expression_next, null_test_next, is_decided, link_next, links_next, outcome_next, item_next, items_next, copied_next, copies_next, newest_ones, without_newest, record_in, record_target_next, stored_from, record_stored_next, store_record_next, new_cell, answered, new_next, right_next, free_next, end_next, same_pool, told_back, given_back, back_next, freeing, freeing_next, freed_next, free_component_next, free_in_next}
use Rattle.ada_meaning.specs.Named.{Object, State, Next, named, whole, base, part_base, inside, look, parted, finished, filled, returned, on_object, reads_boolean}
use Rattle.ada_meaning.specs.Run.{Event}
use Rattle.ada_meaning.specs.Law.{items_of}
use Rattle.ada_scopes.proofs.Counts.{Scopes, scopes}
use Rattle.ada_scopes.proofs.Homes.{KeepsHome, home_has, housed_on, housed_new}
use Rattle.ada_scopes.proofs.Control.{Nests, Goes, Whole, Nested, standing, whole_heap, nests_treating}

-- What comes next nests, whatever is answered.
abbrev pub Good : List TypeForm → Callees → (main : Option (List ℕ)) → (calling : Bool) → Next → Type 0
Good types callees main calling (halts halt) = Unit {0}
Good types callees main calling (moves e s) = Nested types callees main calling s
Good types callees main calling (tells request e s) = Nested types callees main calling s
Good types callees main calling (asks request answers) = (granted : Bool) → Nested types callees main calling (answers granted)
Good types callees main calling (picks n taking) = (i : ℕ) → i < n → Nested types callees main calling (taking i)

-- The masters of a state have opened these, and what is left to do nests in them.
abbrev pub Stands : List TypeForm → Callees → (main : Option (List ℕ)) → (calling : Bool) → Scopes → State → Type 0
Stands types callees main calling ss s = Whole types ss s.masters s.heap × Nests types callees main calling ss (scopes s.masters) s.control

-- The innermost master of a state is being left, and this is what is left to do.
abbrev pub Parts : List TypeForm → Callees → (main : Option (List ℕ)) → (calling : Bool) → Scopes → State → Type 0
Parts types callees main calling ss s = Whole types ss s.masters s.heap × (s.mode ≡ Running) × Goes types callees main calling ss (scopes s.masters) s.control

-- What becomes of an object keeps its home.
pub keeps_parted : (x : Object) → KeepsHome x (parted x)
keeps_parted x = record { home = refl; access = refl; listed = λ e. absurd (cc e) }

pub keeps_finished : (x : Object) → KeepsHome x (finished x)
keeps_finished x = record { home = refl; access = refl; listed = λ e. absurd (cc e) }

pub keeps_returned : (x : Object) → KeepsHome x (returned x)
keeps_returned x = record { home = refl; access = refl; listed = λ e. e }

pub keeps_filled : (c : ℕ) (v : Value) (x : Object) → KeepsHome x (filled c v x)
keeps_filled c v x = record { home = refl; access = refl; listed = λ e. e }

module _ (types : List TypeForm) (callees : Callees) (main : Option (List ℕ)) (calling : Bool) (ss : Scopes) where
  -- An object changes.
  pub whole_on : (change : Object → Object) (v : Value) (s : State) → ((x : Object) → KeepsHome x (change x)) → Whole types ss s.masters s.heap → Whole types ss s.masters (on_object change s.heap v)
  whole_on change v s keeps w = whole_heap types ss s.masters s.heap (on_object change s.heap v) (housed_on change s.heap v (items_of s.masters) keeps w.housed) w

  -- Paths and expressions.
  reading_good : (cs : List ℕ) (v : Value) (s : State) → Stands types callees main calling ss s → Nested types callees main calling (reading named cs v s)
  reading_good [] v s h = standing ss h.0 h.1
  reading_good (c ∷ cs) v s h = standing ss h.0 (tt, h.1)

  component_good : (v : Value) (cs : List ℕ) (found : Option Value) (s : State) → Stands types callees main calling ss s → Good types callees main calling (component_next named v cs found s)
  component_good v cs None s h = tt
  component_good v cs (Some u) s h = reading_good cs u s h

  follow_good : (v : Value) (c : ℕ) (cs : List ℕ) (found : Found (Cell Value)) (s : State) → Stands types callees main calling ss s → Good types callees main calling (follow_next named v c cs found s)
  follow_good v c cs on_null s h = standing ss h.0 h.1
  follow_good v c cs on_gone s h = tt
  follow_good v c cs on_other s h = tt
  follow_good v c cs (finds cell) s h = component_good v cs (slice_get cell.values c) s h

  pub path_good : (cs : List ℕ) (v : Value) (s : State) → Stands types callees main calling ss s → Good types callees main calling (path_next named cs v s)
  path_good [] v s h = standing ss h.0 h.1
  path_good (c ∷ cs) v s h = follow_good v c cs (look s.heap v) s h

  -- Where a path begins.
  pub named_good : (cs : List ℕ) (x : ℕ) (s : State) → Stands types callees main calling ss s → Good types callees main calling (named_next named cs x s)
  named_good cs x s h = path_good (selected named (held named s x) cs) (whole (held named s x)) s h

  pub holder_good : (c : ℕ) (cs : List ℕ) (x : ℕ) (frame_of : ℕ → Frame Value) (s : State) → ((n : ℕ) → Nests types callees main calling ss (scopes s.masters) (frame_of n ∷ s.control)) → Stands types callees main calling ss s → Good types callees main calling (holder_next named c cs x frame_of s)
  holder_good c cs x frame_of s n h =
      path_good (before_last (inside (held named s x) c) cs) (whole (held named s x))
      (at (frame_of (last_of (inside (held named s x) c) cs) ∷ s.control) s) (h.0, n (last_of (inside (held named s x) c) cs))

  pub record_holder_good : (p : RecordPathForm) (frame_of : Place → Frame Value) (s : State) → ((place : Place) → Nests types callees main calling ss (scopes s.masters) (frame_of place ∷ s.control)) → Stands types callees main calling ss s → Good types callees main calling (record_holder_next named p frame_of s)
  record_holder_good p frame_of s n h =
      path_good (selected named (held named s p.object.root) p.object.selectors) (whole (held named s p.object.root))
      (at (frame_of (place_in named (held named s p.object.root) p.object.selectors p) ∷ s.control) s)
      (h.0, n (place_in named (held named s p.object.root) p.object.selectors p))

  pub expression_good : (e : ExpressionForm) (s : State) → Stands types callees main calling ss s → Good types callees main calling (expression_next named e s)
  expression_good (integer i) s h = standing ss h.0 h.1
  expression_good (boolean b) s h = standing ss h.0 h.1
  expression_good (reads path) s h = named_good path.selectors path.root s h
  expression_good (is_null equal path) s h = named_good path.selectors path.root (at (frame.TestsNull equal ∷ s.control) s) (h.0, (tt, h.1))
  expression_good (applied_to operator e) s h = standing ss h.0 (tt, (tt, h.1))
  expression_good (chained e links) s h = standing ss h.0 (tt, (tt, h.1))

  pub null_test_good : (equal : Bool) (null : Option Bool) (s : State) → Stands types callees main calling ss s → Good types callees main calling (null_test_next named equal null s)
  null_test_good equal None s h = tt
  null_test_good true (Some null) s h = standing ss h.0 h.1
  null_test_good false (Some null) s h = standing ss h.0 h.1

  link_good : (decided : Bool) (operator : BinaryOperator) (e : ExpressionForm) (links : LinksForm) (s : State) → Stands types callees main calling ss s → Good types callees main calling (link_next named decided operator e links s)
  link_good true operator e links s h = standing ss h.0 (tt, h.1)
  link_good false operator e links s h = standing ss h.0 (tt, (tt, (tt, h.1)))

  pub links_good : (links : LinksForm) (s : State) → Stands types callees main calling ss s → Good types callees main calling (links_next named links s)
  links_good no_more_links s h = standing ss h.0 h.1
  links_good (a_link operator e links) s h = link_good (is_decided named operator (reads_boolean (newest named s))) operator e links s h

  pub outcome_good : (outcome : Result Value OperatorFault) (s : State) → Stands types callees main calling ss s → Good types callees main calling (outcome_next named outcome s)
  outcome_good (Ok v) s h = standing ss h.0 h.1
  outcome_good (Err Overflow) s h = standing ss h.0 h.1
  outcome_good (Err DivisionByZero) s h = standing ss h.0 h.1
  outcome_good (Err WrongType) s h = tt

  -- Allocators, and what is assigned: a new object lies in the collection of its access type.
  item_good : (item : ItemForm) (s : State) → Stands types callees main calling ss s → Good types callees main calling (item_next named item s)
  item_good null_item s h = standing ss h.0 h.1
  item_good (item_of_path path) s h = named_good path.selectors path.root s h
  item_good (item_of_value e) s h = standing ss h.0 (tt, h.1)
  item_good (item_of_record p) s h = record_holder_good p (λ place. frame.Copies place.component p.record_type) s (λ place. (tt, h.1)) h

  pub items_good : (items : List ItemForm) (s : State) → Stands types callees main calling ss s → Good types callees main calling (items_next named items s)
  items_good [] s h = standing ss h.0 h.1
  items_good (i ∷ is) s h = item_good i (at (frame.Fills is ∷ s.control) s) (h.0, (tt, h.1))

  -- Records as wholes.
  copied_good : (o : Value) (found : Option (List Value)) (s : State) → Stands types callees main calling ss s → Good types callees main calling (copied_next named o found s)
  copied_good o None s h = tt
  copied_good o (Some vs) s h = standing ss h.0 h.1

  pub copies_good : (o : Value) (first count : ℕ) (found : Found (Cell Value)) (s : State) → Stands types callees main calling ss s → Good types callees main calling (copies_next named o first count found s)
  copies_good o first count on_null s h = standing ss h.0 h.1
  copies_good o first count on_gone s h = tt
  copies_good o first count on_other s h = tt
  copies_good o first count (finds cell) s h = copied_good o (record_in cell.values first count) s h

  pub record_target_good : (o : Value) (first count : ℕ) (items : List ItemForm) (found : Found (Cell Value)) (s : State) → Stands types callees main calling ss s → Good types callees main calling (record_target_next named o first count items found s)
  record_target_good o first count items on_null s h = standing ss h.0 h.1
  record_target_good o first count items on_gone s h = tt
  record_target_good o first count items on_other s h = tt
  record_target_good o first count items (finds cell) s h = standing ss h.0 (tt, (tt, h.1))

  whole_stored : (vs : List Value) (o : Value) (c : ℕ) (s : State) → Whole types ss s.masters s.heap → Whole types ss s.masters (stored_from named s.heap o c vs)
  whole_stored [] o c s w = w
  whole_stored (v ∷ vs) o c s w = whole_stored vs o (c + 1) (record s { heap = on_object (filled c v) s.heap o }) (whole_on (filled c v) o s (keeps_filled c v) w)

  record_stored_good : (o : Value) (first : ℕ) (vs : List Value) (found : Option (List Value)) (s : State) → Stands types callees main calling ss s → Good types callees main calling (record_stored_next named o first vs found s)
  record_stored_good o first vs None s h = tt
  record_stored_good o first vs (Some before) s h = standing ss (whole_stored vs o first s h.0) h.1

  pub store_record_good : (o : Value) (first count : ℕ) (found : Found (Cell Value)) (s : State) → Stands types callees main calling ss s → Good types callees main calling (store_record_next named o first count found s)
  store_record_good o first count on_null s h = tt
  store_record_good o first count on_gone s h = tt
  store_record_good o first count on_other s h = tt
  store_record_good o first count (finds cell) s h = record_stored_good o first (newest_ones named count s) (record_in cell.values first count) (without_newest named count s) h

  -- Records that have controlled parts are assigned: both are found first, and then the target is finalized, gets the components, and is adjusted.
  copy_good : (target : RecordPathForm) (items : List ItemForm) (s : State) → Stands types callees main calling ss s → Good types callees main calling (copy_next named target items s)
  copy_good target [] s h = tt
  copy_good target (null_item ∷ items) s h = tt
  copy_good target (item_of_path path ∷ items) s h = tt
  copy_good target (item_of_value e ∷ items) s h = tt
  copy_good target (item_of_record source ∷ []) s h = standing ss h.0 (tt, (tt, (tt, h.1)))
  copy_good target (item_of_record source ∷ i ∷ items) s h = tt

  pub record_assign_good : (parts : Bool) (target : RecordPathForm) (items : List ItemForm) (s : State) → Stands types callees main calling ss s → Good types callees main calling (record_assign_next named parts target items s)
  record_assign_good true target items s h = copy_good target items s h
  record_assign_good false target items s h =
      record_holder_good target (λ place. frame.TargetsRecord place.component target.record_type items) s (λ place. (tt, h.1)) h

  pub assigns_good : (definitions : List TypeDefinition) (t : ℕ) (target source : Value) (alike : Option Bool) (s : State) → Stands types callees main calling ss s → Good types callees main calling (assigns_next named definitions t target source alike s)
  assigns_good definitions t target source None s h = tt
  assigns_good definitions t target source (Some true) s h = standing ss h.0 h.1
  assigns_good definitions t target source (Some false) s h =
      let vs = scopes s.masters in
      let o = whole target in
      let beginning = frame.begins (Adjustment s.next) [] in
      let adjusts = treating o beginning (record_tasks definitions t PartsFirst (part_base target)) s.control in
      standing ss h.0
      (nests_treating types callees main calling ss vs o (frame.ends (Assigning s.next)) (record_tasks definitions t WholeFirst (part_base target))
      (frame.Copies (base source) t ∷ frame.StoresRecord o (base target) (width_of definitions t) ∷ adjusts)
      (tt, (tt, nests_treating types callees main calling ss vs o beginning (record_tasks definitions t PartsFirst (part_base target)) s.control h.1)))

  answered_good : (definitions : List TypeDefinition) (access count words : ℕ) (home : Destination) (s : State) (granted : Bool) → home_of access s.masters ≡ Some home → Stands types callees main calling ss s → Nested types callees main calling (answered named definitions access count words home s granted)
  answered_good definitions access count words home s true is h =
      let cell = new_cell named definitions access count home s in
      let name = Names (record { 0 = length s.heap }) in
      standing ss (whole_heap types ss s.masters s.heap _ (housed_new s.heap cell (items_of s.masters) (home_has access home s.masters is) h.0.housed) h.0)
      (nests_treating types callees main calling ss (scopes s.masters) name (frame.begins Creation []) (all_tasks definitions access PartsFirst) s.control h.1)
  answered_good definitions access count words home s false is h = standing ss h.0 h.1

  pub new_good : (definitions : List TypeDefinition) (access count words : ℕ) (home : Option Destination) (s : State) → home_of access s.masters ≡ home → Stands types callees main calling ss s → Good types callees main calling (new_next named definitions access count words home s)
  new_good definitions access count words None s is h = standing ss h.0 h.1
  new_good definitions access count words (Some home) s is h = λ granted. answered_good definitions access count words home s granted is h

  -- What is passed by reference, and the components that get something back.
  referred_good : (o : Value) (place : Place) (found : Option (List Value)) (s : State) → Stands types callees main calling ss s → Good types callees main calling (referred_next named o place found s)
  referred_good o place None s h = tt
  referred_good o place (Some vs) s h = standing ss h.0 h.1

  pub refers_good : (o : Value) (place : Place) (count : ℕ) (found : Found (Cell Value)) (s : State) → Stands types callees main calling ss s → Good types callees main calling (refers_next named o place count found s)
  refers_good o place count on_null s h = standing ss h.0 h.1
  refers_good o place count on_gone s h = tt
  refers_good o place count on_other s h = tt
  refers_good o place count (finds cell) s h = referred_good o place (record_in cell.values place.component count) s h

  pub open_good : (cs : List ℕ) (x : ℕ) (s : State) → Stands types callees main calling ss s → Good types callees main calling (open_next named cs x s)
  open_good [] x s h = tt
  open_good (c ∷ cs) x s h = holder_good c cs x frame.OpensIn s (λ n. (tt, h.1)) h

  opened_good : (o : Value) (c : ℕ) (found : Option Value) (s : State) → Stands types callees main calling ss s → Good types callees main calling (opened_next named o c found s)
  opened_good o c None s h = tt
  opened_good o c (Some v) s h = standing ss h.0 h.1

  pub opens_good : (o : Value) (c : ℕ) (found : Found (Cell Value)) (s : State) → Stands types callees main calling ss s → Good types callees main calling (opens_next named o c found s)
  opens_good o c on_null s h = standing ss h.0 h.1
  opens_good o c on_gone s h = tt
  opens_good o c on_other s h = tt
  opens_good o c (finds cell) s h = opened_good o c (slice_get cell.values c) s h

  pub right_good : (definitions : List TypeDefinition) (right : RightForm) (s : State) → Stands types callees main calling ss s → Good types callees main calling (right_next named definitions right s)
  right_good definitions nothing s h = standing ss h.0 h.1
  right_good definitions (value_of path) s h = named_good path.selectors path.root s h
  right_good definitions (allocates access items) s h = standing ss h.0 (tt, (tt, h.1))
  right_good definitions (allocates_default access) s h = standing ss h.0 (tt, h.1)
  right_good definitions (computes e) s h = standing ss h.0 (tt, h.1)

  -- Free, and what it leads to.
  freeing_good : (definitions : List TypeDefinition) (access : ℕ) (v : Value) (cell : Cell Value) (clears : Frame Value) (s : State) → Whole types ss s.masters s.heap → Nests types callees main calling ss (scopes s.masters) (clears ∷ s.control) → Nested types callees main calling (freeing named definitions access v cell clears s)
  freeing_good definitions access v cell clears s w n =
      let back = frame.GivesBack v (Freeing s.next) (Some (pool_freed_to (home_of access s.masters))) in
      standing ss (whole_on parted v s keeps_parted w)
      (nests_treating types callees main calling ss (scopes s.masters) v (frame.ends (Freeing s.next)) (all_tasks definitions cell.access WholeFirst) (frame.Ends v ∷ back ∷ clears ∷ s.control) (tt, (tt, n)))

  -- It is erroneous where the object is of another pool.
  freeing_next_good : (definitions : List TypeDefinition) (access : ℕ) (v : Value) (cell : Cell Value) (clears : Frame Value) (event : Event) (s : State) → Whole types ss s.masters s.heap → Nests types callees main calling ss (scopes s.masters) (clears ∷ s.control) → Good types callees main calling (freeing_next named definitions access v cell clears event s)
  freeing_next_good definitions access v cell clears event s w n = by_pool (same_pool (Some (pool_freed_to (home_of access s.masters))) cell.home.pool)
    where
      by_pool : (own : Bool) → Good types callees main calling (if own then moves event (freeing named definitions access v cell clears s) else halts (Erroneous GivesElsewhere))
      by_pool true = freeing_good definitions access v cell clears s w n
      by_pool false = tt

  pub free_good : (definitions : List TypeDefinition) (access x : ℕ) (v : Value) (found : Found (Cell Value)) (s : State) → Stands types callees main calling ss s → Good types callees main calling (free_next named definitions access x v found s)
  free_good definitions access x v on_null s h = standing ss h.0 h.1
  free_good definitions access x v on_gone s h = tt
  free_good definitions access x v on_other s h = tt
  free_good definitions access x v (finds cell) s h = freeing_next_good definitions access v cell (frame.Clears x) Quiet s h.0 (tt, h.1)

  freed_good : (definitions : List TypeDefinition) (access : ℕ) (o : Value) (c : ℕ) (v : Value) (found : Found (Cell Value)) (s : State) → Stands types callees main calling ss s → Good types callees main calling (freed_next named definitions access o c v found s)
  freed_good definitions access o c v on_null s h = standing ss h.0 h.1
  freed_good definitions access o c v on_gone s h = tt
  freed_good definitions access o c v on_other s h = tt
  freed_good definitions access o c v (finds cell) s h = freeing_next_good definitions access v cell (frame.ClearsIn o c) (Followed o) s h.0 (tt, h.1)

  free_component_good : (definitions : List TypeDefinition) (access : ℕ) (o : Value) (c : ℕ) (found : Option Value) (s : State) → Stands types callees main calling ss s → Good types callees main calling (free_component_next named definitions access o c found s)
  free_component_good definitions access o c None s h = tt
  free_component_good definitions access o c (Some v) s h = freed_good definitions access o c v (named.standing s.heap v) s h

  pub free_in_good : (definitions : List TypeDefinition) (access : ℕ) (o : Value) (c : ℕ) (found : Found (Cell Value)) (s : State) → Stands types callees main calling ss s → Good types callees main calling (free_in_next named definitions access o c found s)
  free_in_good definitions access o c on_null s h = standing ss h.0 h.1
  free_in_good definitions access o c on_gone s h = tt
  free_in_good definitions access o c on_other s h = tt
  free_in_good definitions access o c (finds cell) s h = free_component_good definitions access o c (slice_get cell.values c) s h

  pub end_good : (v : Value) (found : Found (Cell Value)) (s : State) → Stands types callees main calling ss s → Good types callees main calling (end_next named v found s)
  end_good v on_null s h = tt
  end_good v on_gone s h = tt
  end_good v on_other s h = tt
  end_good v (finds cell) s h = standing ss (whole_on finished v s keeps_finished h.0) h.1

  told_good : (pool : Option ℕ) (v : Value) (event : Event) (s : State) → Stands types callees main calling ss s → Good types callees main calling (told_back named pool v event (record s { heap = on_object returned s.heap v }))
  told_good None v event s h = standing ss (whole_on returned v s keeps_returned h.0) h.1
  told_good (Some pool) v event s h = standing ss (whole_on returned v s keeps_returned h.0) h.1

  given_good : (fits : Bool) (v : Value) (cause : Cause) (cell : Cell Value) (s : State) → Stands types callees main calling ss s → Good types callees main calling (if fits then given_back named v cause cell s else halts (Erroneous GivesElsewhere))
  given_good true v cause cell s h = told_good cell.home.pool v (Back v cell.access cell.number cell.home.pool cell.home.subpool cause) s h
  given_good false v cause cell s h = tt

  pub back_good : (v : Value) (cause : Cause) (pool : Option ℕ) (found : Found (Cell Value)) (s : State) → Stands types callees main calling ss s → Good types callees main calling (back_next named v cause pool found s)
  back_good v cause pool on_null s h = tt
  back_good v cause pool on_gone s h = tt
  back_good v cause pool on_other s h = tt
  back_good v cause pool (finds cell) s h = given_good (same_pool pool cell.home.pool) v cause cell s h
