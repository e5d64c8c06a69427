-- What forms do in states whose heaps are related so, where they look at nothing in which these may differ.

use Rattle.std.proofs.Common.{◌≡◌, ◌⊎◌, ℕ, ◌+◌, ℤ, Bool, true, false, List, [], ◌∷◌, Option, Some, None, Result, Ok, Err, refl, sym, subst, inl, inr}
use Rattle.std.specs.Prelude.{not, if◌then◌else◌}
use Rattle.std.specs.List.{slice_get, slice_index_or, AllByRecursion}
use Rattle.ada_values.specs.declared.operator.BinaryOperator.{BinaryOperator}
use Rattle.ada_values.specs.declared.fault.OperatorFault.{OperatorFault}
use Rattle.ada_values.specs.declared.fault.OperatorFault.TheVariants.{Overflow, DivisionByZero, WrongType}
use Rattle.ada_program.specs.declared.program.Exception.TheVariants.{ConstraintError, EndError}
use Rattle.ada_program.specs.declared.program.TypeDefinition.{TypeDefinition}
use Rattle.ada_program.specs.Form.{RecordPathForm, ExpressionForm, integer, boolean, reads, is_null, applied_to, chained, LinksForm, no_more_links, a_link, ItemForm, null_item, item_of_path, item_of_value, item_of_record, RightForm}
use Rattle.ada_meaning.specs.declared.event.Cause.{Cause}
use Rattle.ada_meaning.specs.declared.event.Cause.TheVariants.{Leaving}
use Rattle.ada_meaning.specs.declared.event.Halt.TheVariants.{Erroneous}
use Rattle.ada_meaning.specs.declared.event.Line.TheVariants.{Image}
use Rattle.ada_meaning.specs.declared.event.Why.TheVariants.{GivesElsewhere}
use Rattle.ada_meaning.specs.declared.state.Id.{Id}
use Rattle.ada_meaning.specs.declared.state.Mode.{Mode}
use Rattle.ada_meaning.specs.declared.state.Place.{Place}
use Rattle.ada_meaning.specs.declared.state.Value.{Value}
use Rattle.ada_meaning.specs.declared.state.Value.TheVariants.{Null}
use Rattle.ada_meaning.specs.Event.{Event, Back, Followed, Left, Line, Quiet, Request, GiveBack, Gone}
use Rattle.ada_meaning.specs.Frame.{begins, Frame}
use Rattle.ada_meaning.specs.Frame as frame
use Rattle.ada_meaning.specs.Heap.{Cell, Found, on_null, on_gone, on_other, finds}
use Rattle.ada_meaning.specs.State.{Owned, declared, collection, record_object, storage_pool, type_housed, Item, Master}
use Rattle.ada_meaning.specs.Step.{halts, moves, tells, at, older, computed, raised, shorter, before_last, last_of, operands, set_operands, in_front, record_in, same_pool, held, newest, newest_ones, without_newest, component_next, follow_next, path_next, selected, named_next, holder_next, place_in, record_holder_next, expression_next, null_test_next, is_decided, link_next, links_next, outcome_next, item_next, items_next, copied_next, copies_next, end_next, told_back, given_back, back_next, target_next, stored_next, store_next, record_target_next, stored_from, record_stored_next, store_record_next, received_next, receive_next, referred_next, refers_next, open_next, opened_next, opens_next, line_next, taken_out, taken, members_next, item_leave_next, master_leave_next, leave_next, finalizing}
use Rattle.ada_meaning.specs.Named.{Object, State, Next, named, look, lent, standing, whole, inside, reads_integer, reads_boolean, reads_null, same, create, created, store, on_object, parted, finished, members}
use Rattle.ada_meaning.specs.Named as heap
use Rattle.ada_meaning.proofs.Records.{record_same}
use Rattle.ada_untouched.specs.Alike.{ValuesAlike, StatesBy, SparesGhosts}
use Rattle.ada_untouched.specs.Untouched.{hides, AreShown, IsInSight, IsReadable, IsOpen, LeadsOn, LeadsToHolder, HousesNoGhost, NewestHousesNoGhost, InnermostHousesNoGhost, ExpressionIsOpen, ItemIsOpen, ItemsAreOpen}
use Rattle.ada_untouched.proofs.Heaps.{both_there, there_or_not, record_there, by_found, members_in_sight, picked_in_sight}
use Rattle.ada_untouched.proofs.Relation.{Keeps, NextSo, stored_so}

-- The state with another heap.
abbrev pub over : List Object → State → State
over k s = record s { heap = k }

module _ {hidden : Id → (component : ℕ) → Bool} {ghosts : Id → Bool} {AreSo : List Object → List Object → Type 0} (keeps : Keeps hidden ghosts AreSo) where
  pub alike : (s : State) (k : List Object) → AreSo s.heap k → StatesBy AreSo s (over k s)
  alike s k a = record { rest = refl; heaps = a }

  -- Both go on, where the event spares the ghosts.
  pub goes : (e : Event Value) → SparesGhosts ghosts e → (s : State) (k : List Object) → AreSo s.heap k → NextSo ghosts AreSo (moves e s) (moves e (over k s))
  goes e spares s k a = (over k s, refl, alike s k a, spares)

  pub told : (r : Request Value) (e : Event Value) → SparesGhosts ghosts e → (s : State) (k : List Object) → AreSo s.heap k → NextSo ghosts AreSo (tells r e s) (tells r e (over k s))
  told r e spares s k a = (over k s, refl, alike s k a, spares)

  -- What comes next does not look into the heap.
  abbrev pub Same : (State → Next) → Type 0
  Same step = (s : State) (k : List Object) → AreSo s.heap k → NextSo ghosts AreSo (step s) (step (over k s))

  -- By what is found of an object that may be looked for.
  pub by_look :
      (v : Value) (P : Found (Cell Value) → Found (Cell Value) → Type 0) → P on_null on_null → P on_gone on_gone → P on_other on_other
      → ((cell : Cell Value) (us : List Value) → ValuesAlike (hides hidden v) cell.values us → P (finds cell) (finds (record cell { values = us })))
      → (h k : List Object) → AreSo h k → IsInSight ghosts v → P (look h v) (look k v)
  by_look v P null gone other found h k a clear =
      by_found (hides hidden v) P null gone other found (look h v) (look k v) (keeps.looks h k a v clear)

  -- Paths (4.1).
  pub component_same : (v : Value) (cs : List ℕ) (u : Option Value) → IsInSight ghosts v → Same (component_next named v cs u)
  component_same v cs None clear s k a = refl
  component_same v [] (Some u) clear s k a = goes (Followed v) clear (computed u s) k a
  component_same v (c ∷ cs) (Some u) clear s k a = goes (Followed v) clear (at (frame.Follows (c ∷ cs) ∷ s.control) (computed u s)) k a

  pub follow_same : (v : Value) (c : ℕ) (cs : List ℕ) (s : State) (k : List Object) → AreSo s.heap k → IsReadable hidden ghosts v c → NextSo ghosts AreSo (follow_next named v c cs (look s.heap v) s) (follow_next named v c cs (look k v) (over k s))
  follow_same v c cs s k a clear =
      by_look v (λ f g. NextSo ghosts AreSo (follow_next named v c cs f s) (follow_next named v c cs g (over k s)))
      (goes Quiet tt (raised ConstraintError s) k a) refl refl
      (λ cell us both. subst (λ (u : Option Value). NextSo ghosts AreSo (component_next named v cs (slice_get cell.values c) s) (component_next named v cs u (over k s)))
      (both.values c clear.1) (component_same v cs (slice_get cell.values c) clear.0 s k a))
      s.heap k a clear.0

  pub path_same : (cs : List ℕ) (v : Value) (s : State) (k : List Object) → AreSo s.heap k → IsOpen hidden ghosts cs v → NextSo ghosts AreSo (path_next named cs v s) (path_next named cs v (over k s))
  path_same [] v s k a clear = goes Quiet tt (computed v s) k a
  path_same (c ∷ cs) v s k a clear = follow_same v c cs s k a clear

  pub named_same : (cs : List ℕ) (x : ℕ) (s : State) (k : List Object) → AreSo s.heap k → LeadsOn hidden ghosts cs (held named s x) → NextSo ghosts AreSo (named_next named cs x s) (named_next named cs x (over k s))
  named_same cs x s k a clear = path_same (selected named (held named s x) cs) (whole (held named s x)) s k a clear

  pub holder_same : (c : ℕ) (cs : List ℕ) (x : ℕ) (frame_of : ℕ → Frame Value) (s : State) (k : List Object) → AreSo s.heap k → LeadsToHolder hidden ghosts (c ∷ cs) (held named s x) → NextSo ghosts AreSo (holder_next named c cs x frame_of s) (holder_next named c cs x frame_of (over k s))
  holder_same c cs x frame_of s k a clear =
      path_same (before_last (inside (held named s x) c) cs) (whole (held named s x))
      (at (frame_of (last_of (inside (held named s x) c) cs) ∷ s.control) s) k a clear

  pub record_holder_same : (p : RecordPathForm) (frame_of : Place → Frame Value) (s : State) (k : List Object) → AreSo s.heap k → LeadsOn hidden ghosts p.object.selectors (held named s p.object.root) → NextSo ghosts AreSo (record_holder_next named p frame_of s) (record_holder_next named p frame_of (over k s))
  record_holder_same p frame_of s k a clear =
      path_same (selected named (held named s p.object.root) p.object.selectors) (whole (held named s p.object.root))
      (at (frame_of (place_in named (held named s p.object.root) p.object.selectors p) ∷ s.control) s) k a clear

  -- Expressions (4.4).
  pub expression_same : (e : ExpressionForm) (s : State) (k : List Object) → AreSo s.heap k → ExpressionIsOpen hidden ghosts s e → NextSo ghosts AreSo (expression_next named e s) (expression_next named e (over k s))
  expression_same (integer i) s k a clear = goes Quiet tt (computed (named.integer i) s) k a
  expression_same (boolean b) s k a clear = goes Quiet tt (computed (named.boolean b) s) k a
  expression_same (reads path) s k a clear = named_same path.selectors path.root s k a clear
  expression_same (is_null equal path) s k a clear = named_same path.selectors path.root (at (frame.TestsNull equal ∷ s.control) s) k a clear
  expression_same (applied_to operator e) s k a clear = goes Quiet tt (at (frame.Computes e ∷ frame.AppliesAlone operator ∷ s.control) s) k a
  expression_same (chained e links) s k a clear = goes Quiet tt (at (frame.Computes e ∷ frame.Continues links ∷ s.control) s) k a

  pub null_test_same : (equal : Bool) (found : Option Bool) → Same (null_test_next named equal found)
  null_test_same true None s k a = refl
  null_test_same false None s k a = refl
  null_test_same true (Some null) s k a = goes Quiet tt (computed (named.boolean null) s) k a
  null_test_same false (Some null) s k a = goes Quiet tt (computed (named.boolean (not null)) s) k a

  pub link_same : (decided : Bool) (operator : BinaryOperator) (e : ExpressionForm) (links : LinksForm) → Same (link_next named decided operator e links)
  link_same true operator e links s k a = goes Quiet tt (at (frame.Continues links ∷ s.control) s) k a
  link_same false operator e links s k a = goes Quiet tt (at (frame.Computes e ∷ frame.Applies operator ∷ frame.Continues links ∷ s.control) s) k a

  pub links_same : (links : LinksForm) → Same (links_next named links)
  links_same no_more_links s k a = goes Quiet tt s k a
  links_same (a_link operator e links) s k a = link_same (is_decided named operator (reads_boolean (newest named s))) operator e links s k a

  pub outcome_same : (given : Result Value OperatorFault) → Same (outcome_next named given)
  outcome_same (Ok v) s k a = goes Quiet tt (computed v s) k a
  outcome_same (Err Overflow) s k a = goes Quiet tt (raised ConstraintError s) k a
  outcome_same (Err DivisionByZero) s k a = goes Quiet tt (raised ConstraintError s) k a
  outcome_same (Err WrongType) s k a = refl

  -- Items (4.3.1).
  pub item_same : (i : ItemForm) (s : State) (k : List Object) → AreSo s.heap k → ItemIsOpen hidden ghosts s i → NextSo ghosts AreSo (item_next named i s) (item_next named i (over k s))
  item_same null_item s k a clear = goes Quiet tt (computed Null s) k a
  item_same (item_of_path path) s k a clear = named_same path.selectors path.root s k a clear
  item_same (item_of_value e) s k a clear = goes Quiet tt (at (frame.Computes e ∷ s.control) s) k a
  item_same (item_of_record p) s k a clear = record_holder_same p (λ place. frame.Copies place.component p.record_type) s k a clear

  pub items_same : (items : List ItemForm) (s : State) (k : List Object) → AreSo s.heap k → ItemsAreOpen hidden ghosts s items → NextSo ghosts AreSo (items_next named items s) (items_next named items (over k s))
  items_same [] s k a clear = goes Quiet tt s k a
  items_same (i ∷ is) s k a clear = item_same i (at (frame.Fills is ∷ s.control) s) k a clear

  -- Records are copied (4.3.1).
  copied_same : (v : Value) (found : Option (List Value)) → IsInSight ghosts v → Same (copied_next named v found)
  copied_same v None clear s k a = refl
  copied_same v (Some vs) clear s k a = goes (Followed v) clear (set_operands (in_front vs (operands s)) s) k a

  pub copies_same : (v : Value) (first count : ℕ) (s : State) (k : List Object) → AreSo s.heap k → IsInSight ghosts v → AreShown hidden v first count → NextSo ghosts AreSo (copies_next named v first count (look s.heap v) s) (copies_next named v first count (look k v) (over k s))
  copies_same v first count s k a clear shown =
      by_look v (λ f g. NextSo ghosts AreSo (copies_next named v first count f s) (copies_next named v first count g (over k s)))
      (goes Quiet tt (raised ConstraintError s) k a) refl refl
      (λ cell us both. subst (λ (found : Option (List Value)). NextSo ghosts AreSo (copied_next named v (record_in cell.values first count) s) (copied_next named v found (over k s)))
      (record_same cell.values us first count (λ i below. both.values (first + i) (shown i below))) (copied_same v (record_in cell.values first count) clear s k a))
      s.heap k a clear

  -- Records and components that are given (6.2, 6.4.1).
  pub refers_same : (v : Value) (place : Place) (count : ℕ) (s : State) (k : List Object) → AreSo s.heap k → IsInSight ghosts v → NextSo ghosts AreSo (refers_next named v place count (look s.heap v) s) (refers_next named v place count (look k v) (over k s))
  refers_same v place count s k a clear =
      by_look v (λ f g. NextSo ghosts AreSo (refers_next named v place count f s) (refers_next named v place count g (over k s)))
      (goes Quiet tt (raised ConstraintError s) k a) refl refl
      (λ cell us both. there_or_not (λ found found_too. NextSo ghosts AreSo (referred_next named v place found s) (referred_next named v place found_too (over k s)))
      refl (λ vs ws. goes (Followed v) clear (computed (heap.refer v place) s) k a) (record_in cell.values place.component count) (record_in us place.component count)
      (record_there cell.values us place.component count both.count))
      s.heap k a clear

  pub opened_same : (v : Value) (c : ℕ) (u : Option Value) → IsInSight ghosts v → Same (opened_next named v c u)
  opened_same v c None clear s k a = refl
  opened_same v c (Some u) clear s k a = goes (Followed v) clear (computed u (computed (heap.refer v (record { component = c; part = 0 })) s)) k a

  pub opens_same : (v : Value) (c : ℕ) (s : State) (k : List Object) → AreSo s.heap k → IsReadable hidden ghosts v c → NextSo ghosts AreSo (opens_next named v c (look s.heap v) s) (opens_next named v c (look k v) (over k s))
  opens_same v c s k a clear =
      by_look v (λ f g. NextSo ghosts AreSo (opens_next named v c f s) (opens_next named v c g (over k s)))
      (goes Quiet tt (raised ConstraintError s) k a) refl refl
      (λ cell us both. subst (λ (u : Option Value). NextSo ghosts AreSo (opened_next named v c (slice_get cell.values c) s) (opened_next named v c u (over k s)))
      (both.values c clear.1) (opened_same v c (slice_get cell.values c) clear.0 s k a))
      s.heap k a clear.0

  pub open_same : (cs : List ℕ) (x : ℕ) (s : State) (k : List Object) → AreSo s.heap k → LeadsToHolder hidden ghosts cs (held named s x) → NextSo ghosts AreSo (open_next named cs x s) (open_next named cs x (over k s))
  open_same [] x s k a clear = refl
  open_same (c ∷ cs) x s k a clear = holder_same c cs x frame.OpensIn s k a clear

  -- Components get values (5.2).
  pub target_same : (v : Value) (c : ℕ) (right : RightForm) (s : State) (k : List Object) → AreSo s.heap k → IsInSight ghosts v → NextSo ghosts AreSo (target_next named v c right (look s.heap v) s) (target_next named v c right (look k v) (over k s))
  target_same v c right s k a clear =
      by_look v (λ f g. NextSo ghosts AreSo (target_next named v c right f s) (target_next named v c right g (over k s)))
      (goes Quiet tt (raised ConstraintError s) k a) refl refl
      (λ cell us both. goes (Followed v) clear (at (frame.Evaluates right ∷ frame.StoresIn v c ∷ s.control) s) k a)
      s.heap k a clear

  pub store_same : (v : Value) (c : ℕ) (u : Value) (s : State) (k : List Object) → AreSo s.heap k → IsInSight ghosts v → NextSo ghosts AreSo (store_next named v c u (look s.heap v) s) (store_next named v c u (look k v) (over k s))
  store_same v c u s k a clear =
      by_look v (λ f g. NextSo ghosts AreSo (store_next named v c u f s) (store_next named v c u g (over k s)))
      refl refl refl
      (λ cell us both. there_or_not (λ found found_too. NextSo ghosts AreSo (stored_next named v c u found s) (stored_next named v c u found_too (over k s)))
      refl (λ w x. goes (Followed v) clear (record s { heap = store s.heap v c u }) (store k v c u) (keeps.fills s.heap k a v c u))
      (slice_get cell.values c) (slice_get us c) (both_there cell.values us c both.count))
      s.heap k a clear

  pub record_target_same : (v : Value) (first count : ℕ) (items : List ItemForm) (s : State) (k : List Object) → AreSo s.heap k → IsInSight ghosts v → NextSo ghosts AreSo (record_target_next named v first count items (look s.heap v) s) (record_target_next named v first count items (look k v) (over k s))
  record_target_same v first count items s k a clear =
      by_look v (λ f g. NextSo ghosts AreSo (record_target_next named v first count items f s) (record_target_next named v first count items g (over k s)))
      (goes Quiet tt (raised ConstraintError s) k a) refl refl
      (λ cell us both. goes (Followed v) clear (at (frame.Fills items ∷ frame.StoresRecord v first count ∷ s.control) s) k a)
      s.heap k a clear

  -- The components of a record get the values that were computed for them (5.2).
  pub store_record_same : (v : Value) (first count : ℕ) (s : State) (k : List Object) → AreSo s.heap k → IsInSight ghosts v → NextSo ghosts AreSo (store_record_next named v first count (look s.heap v) s) (store_record_next named v first count (look k v) (over k s))
  store_record_same v first count s k a clear =
      let vs = newest_ones named count s in
      let t = without_newest named count s in
      by_look v (λ f g. NextSo ghosts AreSo (store_record_next named v first count f s) (store_record_next named v first count g (over k s)))
      refl refl refl
      (λ cell us both. there_or_not (λ found found_too. NextSo ghosts AreSo (record_stored_next named v first vs found t) (record_stored_next named v first vs found_too (over k t)))
      refl (λ w x. goes (Followed v) clear (record t { heap = stored_from named s.heap v first vs }) (stored_from named k v first vs) (stored_so keeps vs s.heap k v first a))
      (record_in cell.values first count) (record_in us first count) (record_there cell.values us first count both.count))
      s.heap k a clear

  pub received_same : (v : Value) (c : ℕ) (input : List ℤ) (s : State) (k : List Object) → AreSo s.heap k → IsInSight ghosts v → (found found_too : Value) → NextSo ghosts AreSo (received_next named v c input (Some found) s) (received_next named v c input (Some found_too) (over k s))
  received_same v c [] s k a clear found found_too = goes (Followed v) clear (raised EndError s) k a
  received_same v c (i ∷ is) s k a clear found found_too =
      goes (Followed v) clear (record s { heap = store s.heap v c (named.integer i); input = is }) (store k v c (named.integer i)) (keeps.fills s.heap k a v c (named.integer i))

  pub none_received : (v : Value) (c : ℕ) (input : List ℤ) → Same (received_next named v c input None)
  none_received v c [] s k a = refl
  none_received v c (i ∷ is) s k a = refl

  pub receive_same : (v : Value) (c : ℕ) (s : State) (k : List Object) → AreSo s.heap k → IsInSight ghosts v → NextSo ghosts AreSo (receive_next named v c (look s.heap v) s) (receive_next named v c (look k v) (over k s))
  receive_same v c s k a clear =
      by_look v (λ f g. NextSo ghosts AreSo (receive_next named v c f s) (receive_next named v c g (over k s)))
      (goes Quiet tt (raised ConstraintError s) k a) refl refl
      (λ cell us both. there_or_not (λ found found_too. NextSo ghosts AreSo (received_next named v c s.input found s) (received_next named v c s.input found_too (over k s)))
      (none_received v c s.input s k a) (received_same v c s.input s k a clear)
      (slice_get cell.values c) (slice_get us c) (both_there cell.values us c both.count))
      s.heap k a clear

  -- Objects cease to exist, and their words go back (13.11.2).
  pub end_same : (v : Value) (s : State) (k : List Object) → AreSo s.heap k → IsInSight ghosts v → NextSo ghosts AreSo (end_next named v (look s.heap v) s) (end_next named v (look k v) (over k s))
  end_same v s k a clear =
      by_look v (λ f g. NextSo ghosts AreSo (end_next named v f s) (end_next named v g (over k s)))
      refl refl refl
      (λ cell us both. goes Quiet tt (record s { heap = on_object finished s.heap v }) (on_object finished k v) (keeps.finishes s.heap k a v))
      s.heap k a clear

  pub told_back_same : (pool : Option ℕ) (v : Value) (e : Event Value) → SparesGhosts ghosts e → Same (told_back named pool v e)
  told_back_same None v e spares s k a = goes e spares s k a
  told_back_same (Some pool) v e spares s k a = told (GiveBack v) e spares s k a

  pub given_back_same : (v : Value) (cause : Cause) (cell : Cell Value) (us : List Value) (b : Bool) (s : State) (k : List Object) → AreSo s.heap k → IsInSight ghosts v → NextSo ghosts AreSo (if b then given_back named v cause cell s else halts (Erroneous GivesElsewhere)) (if b then given_back named v cause (record cell { values = us }) (over k s) else halts (Erroneous GivesElsewhere))
  given_back_same v cause cell us true s k a clear =
      told_back_same cell.home.pool v (Back v cell.access cell.number cell.home.pool cell.home.subpool cause) clear (record s { heap = on_object heap.returned s.heap v })
      (on_object heap.returned k v) (keeps.returns s.heap k a v)
  given_back_same v cause cell us false s k a clear = refl

  pub back_same : (v : Value) (cause : Cause) (pool : Option ℕ) (s : State) (k : List Object) → AreSo s.heap k → IsInSight ghosts v → NextSo ghosts AreSo (back_next named v cause pool (lent s.heap v) s) (back_next named v cause pool (lent k v) (over k s))
  back_same v cause pool s k a clear =
      by_found (hides hidden v) (λ f g. NextSo ghosts AreSo (back_next named v cause pool f s) (back_next named v cause pool g (over k s)))
      refl refl refl
      (λ cell us both. given_back_same v cause cell us (same_pool pool cell.home.pool) s k a clear)
      (lent s.heap v) (lent k v) (keeps.lends s.heap k a v clear)

  -- What is written (A.10.7).
  pub line_same : (i : Option ℤ) → Same (line_next named i)
  line_same None s k a = refl
  line_same (Some i) s k a = goes (Line (Image i)) tt s k a

  -- A member of a collection is taken out of it (7.6.1).
  taken_same : (types : List TypeDefinition) (cause : Cause) (pool : Option ℕ) (v : Value) (s : State) (k : List Object) → AreSo s.heap k → IsInSight ghosts v → StatesBy AreSo (taken_out named types cause pool v (look s.heap v) s) (taken_out named types cause pool v (look k v) (over k s))
  taken_same types cause pool v s k a clear =
      let behind = frame.Ends v ∷ frame.GivesBack v cause pool ∷ s.control in
      let bare = alike (record s { heap = on_object parted s.heap v; control = behind }) (on_object parted k v) (keeps.parts s.heap k a v) in
      by_look v (λ f g. StatesBy AreSo (taken_out named types cause pool v f s) (taken_out named types cause pool v g (over k s)))
      bare bare bare
      (λ cell us both. alike (record s { heap = on_object parted s.heap v; control = finalizing types v cell cause behind }) (on_object parted k v) (keeps.parts s.heap k a v))
      s.heap k a clear

  members_same : (types : List TypeDefinition) (cause : Cause) (pool : Option ℕ) (vs : List Value) → AllByRecursion (IsInSight ghosts) vs → Same (members_next named types cause pool vs)
  members_same types cause pool [] clear s k a = goes Quiet tt (record s { masters = shorter s.masters }) k a
  members_same types cause pool (v ∷ vs) clear s k a = (
    taken named types cause pool (v ∷ vs) (over k s),
    refl,
    λ i. taken_same types cause pool (slice_index_or (v ∷ vs) i Null) s k a (picked_in_sight ghosts (v ∷ vs) clear i),
  )

  -- Where no ghost has its home there, its members are the same in both, and each of them may be looked for.
  collection_same : (types : List TypeDefinition) (cause : Cause) (pool : Option ℕ) (item : ℕ) (s : State) (k : List Object) → AreSo s.heap k → HousesNoGhost ghosts s.heap item → NextSo ghosts AreSo (members_next named types cause pool (members s.heap item) s) (members_next named types cause pool (members k item) (over k s))
  collection_same types cause pool item s k a none =
      subst (λ (vs : List Value). NextSo ghosts AreSo (members_next named types cause pool (members s.heap item) s) (members_next named types cause pool vs (over k s)))
      (sym (keeps.collects s.heap k a item)) (members_same types cause pool (members s.heap item) (members_in_sight ghosts item s.heap none) s k a)

  -- Masters are left.
  item_leave_same : (types : List TypeDefinition) (m : ℕ) (item : Item) (what : Owned) (s : State) (k : List Object) → AreSo s.heap k → (type_housed what ≡ None) ⊎ HousesNoGhost ghosts s.heap item.number → NextSo ghosts AreSo (item_leave_next named types m item what s) (item_leave_next named types m item what (over k s))
  item_leave_same types m item (declared x) s k a clear = goes Quiet tt (record s { masters = shorter s.masters }) k a
  item_leave_same types m item (collection access pool) s k a (inl houses) = absurd (cc)
  item_leave_same types m item (collection access pool) s k a (inr none) = collection_same types (Leaving m item.number) pool item.number s k a none
  item_leave_same types m item (record_object t) s k a (inl houses) = absurd (cc)
  item_leave_same types m item (record_object t) s k a (inr none) = collection_same types (Leaving m item.number) None item.number s k a none
  item_leave_same types m item (storage_pool declaration number) s k a clear = told (Gone number) Quiet tt (record s { masters = shorter s.masters }) k a

  master_leave_same : (types : List TypeDefinition) (mode : Mode) (m : ℕ) (items : List Item) (s : State) (k : List Object) → AreSo s.heap k → NewestHousesNoGhost ghosts s.heap items → NextSo ghosts AreSo (master_leave_next named types mode m items s) (master_leave_next named types mode m items (over k s))
  master_leave_same types mode m [] s k a clear = goes (Left m) tt (record s { masters = older s.masters; mode = mode }) k a
  master_leave_same types mode m (item ∷ items) s k a clear = item_leave_same types m item item.owned (at (frame.Leaves mode ∷ s.control) s) k a clear

  pub leave_same : (types : List TypeDefinition) (mode : Mode) (ms : List Master) (s : State) (k : List Object) → AreSo s.heap k → InnermostHousesNoGhost ghosts s.heap ms → NextSo ghosts AreSo (leave_next named types mode ms s) (leave_next named types mode ms (over k s))
  leave_same types mode [] s k a clear = refl
  leave_same types mode (m ∷ ms) s k a clear = master_leave_same types mode m.number m.items s k a clear
