-- What forms do where something waits behind all that is left to do.

use Rattle.std.proofs.Common.{◌≡◌, ℕ, ℤ, Bool, true, false, List, [], ◌∷◌, ◌++◌, drop, Option, Some, None, Result, Ok, Err, refl, ap}
use Rattle.std.specs.Prelude.{if◌then◌else◌}
use Rattle.std.specs.List.{slice_get}
use Rattle.ada_parts.specs.Task.{Task}
use Rattle.ada_values.specs.declared.operator.BinaryOperator.{BinaryOperator}
use Rattle.ada_values.specs.declared.fault.OperatorFault.{OperatorFault}
use Rattle.ada_values.specs.declared.fault.OperatorFault.TheVariants.{Overflow, DivisionByZero, WrongType}
use Rattle.ada_program.specs.Form.{RecordPathForm, ExpressionForm, integer, boolean, reads, is_null, applied_to, chained, LinksForm, no_more_links, a_link, ItemForm, null_item, item_of_path, item_of_value, item_of_record, RightForm}
use Rattle.ada_meaning.specs.declared.event.Cause.{Cause}
use Rattle.ada_meaning.specs.declared.event.Halt.TheVariants.{Erroneous}
use Rattle.ada_meaning.specs.declared.event.Why.TheVariants.{GivesElsewhere}
use Rattle.ada_meaning.specs.declared.state.Place.{Place}
use Rattle.ada_meaning.specs.Event.{Event, Back}
use Rattle.ada_meaning.specs.Frame.{Treatment, Frame}
use Rattle.ada_meaning.specs.Frame as frame
use Rattle.ada_meaning.specs.Heap.{Cell, Found, on_null, on_gone, on_other, finds, Ops}
use Rattle.ada_meaning.specs.State.{Activation, State}
use Rattle.ada_meaning.specs.Step.{Next, halts, moves, treating, treated_on, at, same_pool, record_in, before_last, last_of, held, newest, component_next, follow_next, path_next, selected, named_next, holder_next, place_in, record_holder_next, expression_next, null_test_next, is_decided, link_next, links_next, outcome_next, item_next, items_next, copied_next, copies_next, referred_next, refers_next, open_next, opened_next, opens_next, target_next, stored_next, store_next, record_target_next, newest_ones, record_stored_next, store_record_next, received_next, receive_next, end_next, told_back, given_back, back_next, line_next}
use Rattle.ada_waiting.specs.Before.{Waiting, before, NextBefore}

-- The state with a running activation and those below it.
abbrev pub topped : {V H : Type 0} → Activation V → List (Activation V) → State V H → State V H
topped a suspended s = record s { activations = a ∷ suspended }

-- An object that is treated before what comes behind is so before what waits, too.
pub treating_before : {V : Type 0} (v : V) (treatment : Treatment) (tasks : List Task) (k l : List (Frame V)) → treating v treatment tasks (k ++ l) ≡ treating v treatment tasks k ++ l
treating_before v treatment [] k l = refl
treating_before v treatment (task ∷ tasks) k l = refl

module _ {V H : Type 0} (ops : Ops V H) (w : Waiting V) where
  -- A step of a running activation that is the same where something waits.
  abbrev pub Stays : (State V H → Next V H) → Type 0
  Stays step = (a : Activation V) (suspended : List (Activation V)) (s : State V H) → NextBefore w (step (topped a suspended s)) (step (before w (topped a suspended s)))

  -- What is left of a treatment goes on.
  pub treated_before : (e : Event V) (v : V) (treatment : Treatment) (tasks : List Task) (s : State V H) → moves e (treated_on ops v treatment tasks (before w s)) ≡ moves e (before w (treated_on ops v treatment tasks s))
  treated_before e v treatment tasks s = ap (λ (k : List (Frame V)). moves e (at k (before w s))) (treating_before v treatment tasks s.control w.control)

  -- Paths (4.1).
  component_stays : (o : V) (cs : List ℕ) (found : Option V) → Stays (component_next ops o cs found)
  component_stays o cs None a suspended s = refl
  component_stays o [] (Some v) a suspended s = refl
  component_stays o (c ∷ cs) (Some v) a suspended s = refl

  follow_stays : (o : V) (c : ℕ) (cs : List ℕ) (found : Found (Cell V)) → Stays (follow_next ops o c cs found)
  follow_stays o c cs on_null a suspended s = refl
  follow_stays o c cs on_gone a suspended s = refl
  follow_stays o c cs on_other a suspended s = refl
  follow_stays o c cs (finds cell) a suspended s = component_stays o cs (slice_get cell.values c) a suspended s

  pub path_stays : (cs : List ℕ) (v : V) → Stays (path_next ops cs v)
  path_stays [] v a suspended s = refl
  path_stays (c ∷ cs) v a suspended s = follow_stays v c cs (ops.look s.heap v) a suspended s

  pub named_stays : (cs : List ℕ) (x : ℕ) → Stays (named_next ops cs x)
  named_stays cs x a suspended s =
      let t = topped a suspended s in
      path_stays (selected ops (held ops t x) cs) (ops.whole (held ops t x)) a suspended s

  pub holder_stays : (c : ℕ) (cs : List ℕ) (x : ℕ) (frame_of : ℕ → Frame V) → Stays (holder_next ops c cs x frame_of)
  holder_stays c cs x frame_of a suspended s =
      let v = held ops (topped a suspended s) x in
      path_stays (before_last (ops.inside v c) cs) (ops.whole v) a suspended (at (frame_of (last_of (ops.inside v c) cs) ∷ s.control) s)

  pub record_holder_stays : (p : RecordPathForm) (frame_of : Place → Frame V) → Stays (record_holder_next ops p frame_of)
  record_holder_stays p frame_of a suspended s =
      let v = held ops (topped a suspended s) p.object.root in
      path_stays (selected ops v p.object.selectors) (ops.whole v) a suspended (at (frame_of (place_in ops v p.object.selectors p) ∷ s.control) s)

  -- Expressions (4.4).
  pub expression_stays : (e : ExpressionForm) → Stays (expression_next ops e)
  expression_stays (integer i) a suspended s = refl
  expression_stays (boolean b) a suspended s = refl
  expression_stays (reads path) a suspended s = named_stays path.selectors path.root a suspended s
  expression_stays (is_null equal path) a suspended s = named_stays path.selectors path.root a suspended (at (frame.TestsNull equal ∷ s.control) s)
  expression_stays (applied_to operator e) a suspended s = refl
  expression_stays (chained e links) a suspended s = refl

  pub null_test_stays : (equal : Bool) (found : Option Bool) → Stays (null_test_next ops equal found)
  null_test_stays true None a suspended s = refl
  null_test_stays false None a suspended s = refl
  null_test_stays true (Some null) a suspended s = refl
  null_test_stays false (Some null) a suspended s = refl

  link_stays : (decided : Bool) (operator : BinaryOperator) (e : ExpressionForm) (links : LinksForm) → Stays (link_next ops decided operator e links)
  link_stays true operator e links a suspended s = refl
  link_stays false operator e links a suspended s = refl

  pub links_stay : (links : LinksForm) → Stays (links_next ops links)
  links_stay no_more_links a suspended s = refl
  links_stay (a_link operator e links) a suspended s =
      link_stays (is_decided ops operator (ops.reads_boolean (newest ops (topped a suspended s)))) operator e links a suspended s

  pub outcome_stays : (given : Result V OperatorFault) → Stays (outcome_next ops given)
  outcome_stays (Ok v) a suspended s = refl
  outcome_stays (Err Overflow) a suspended s = refl
  outcome_stays (Err DivisionByZero) a suspended s = refl
  outcome_stays (Err WrongType) a suspended s = refl

  -- Items (4.3.1).
  item_stays : (i : ItemForm) → Stays (item_next ops i)
  item_stays null_item a suspended s = refl
  item_stays (item_of_path path) a suspended s = named_stays path.selectors path.root a suspended s
  item_stays (item_of_value e) a suspended s = refl
  item_stays (item_of_record p) a suspended s = record_holder_stays p (λ place. frame.Copies place.component p.record_type) a suspended s

  pub items_stay : (items : List ItemForm) → Stays (items_next ops items)
  items_stay [] a suspended s = refl
  items_stay (i ∷ is) a suspended s = item_stays i a suspended (at (frame.Fills is ∷ s.control) s)

  copied_stays : (o : V) (found : Option (List V)) → Stays (copied_next ops o found)
  copied_stays o None a suspended s = refl
  copied_stays o (Some vs) a suspended s = refl

  pub copies_stay : (o : V) (first count : ℕ) (found : Found (Cell V)) → Stays (copies_next ops o first count found)
  copies_stay o first count on_null a suspended s = refl
  copies_stay o first count on_gone a suspended s = refl
  copies_stay o first count on_other a suspended s = refl
  copies_stay o first count (finds cell) a suspended s = copied_stays o (record_in cell.values first count) a suspended s

  -- Records and components that are given (6.2, 6.4.1).
  referred_stays : (o : V) (place : Place) (found : Option (List V)) → Stays (referred_next ops o place found)
  referred_stays o place None a suspended s = refl
  referred_stays o place (Some vs) a suspended s = refl

  pub refers_stays : (o : V) (place : Place) (count : ℕ) (found : Found (Cell V)) → Stays (refers_next ops o place count found)
  refers_stays o place count on_null a suspended s = refl
  refers_stays o place count on_gone a suspended s = refl
  refers_stays o place count on_other a suspended s = refl
  refers_stays o place count (finds cell) a suspended s = referred_stays o place (record_in cell.values place.component count) a suspended s

  opened_stays : (o : V) (c : ℕ) (found : Option V) → Stays (opened_next ops o c found)
  opened_stays o c None a suspended s = refl
  opened_stays o c (Some v) a suspended s = refl

  pub opens_stays : (o : V) (c : ℕ) (found : Found (Cell V)) → Stays (opens_next ops o c found)
  opens_stays o c on_null a suspended s = refl
  opens_stays o c on_gone a suspended s = refl
  opens_stays o c on_other a suspended s = refl
  opens_stays o c (finds cell) a suspended s = opened_stays o c (slice_get cell.values c) a suspended s

  pub open_stays : (cs : List ℕ) (x : ℕ) → Stays (open_next ops cs x)
  open_stays [] x a suspended s = refl
  open_stays (c ∷ cs) x a suspended s = holder_stays c cs x frame.OpensIn a suspended s

  -- Components get values (5.2).
  pub target_stays : (o : V) (c : ℕ) (right : RightForm) (found : Found (Cell V)) → Stays (target_next ops o c right found)
  target_stays o c right on_null a suspended s = refl
  target_stays o c right on_gone a suspended s = refl
  target_stays o c right on_other a suspended s = refl
  target_stays o c right (finds cell) a suspended s = refl

  stored_stays : (o : V) (c : ℕ) (v : V) (found : Option V) → Stays (stored_next ops o c v found)
  stored_stays o c v None a suspended s = refl
  stored_stays o c v (Some old) a suspended s = refl

  pub store_stays : (o : V) (c : ℕ) (v : V) (found : Found (Cell V)) → Stays (store_next ops o c v found)
  store_stays o c v on_null a suspended s = refl
  store_stays o c v on_gone a suspended s = refl
  store_stays o c v on_other a suspended s = refl
  store_stays o c v (finds cell) a suspended s = stored_stays o c v (slice_get cell.values c) a suspended s

  pub record_target_stays : (o : V) (first count : ℕ) (items : List ItemForm) (found : Found (Cell V)) → Stays (record_target_next ops o first count items found)
  record_target_stays o first count items on_null a suspended s = refl
  record_target_stays o first count items on_gone a suspended s = refl
  record_target_stays o first count items on_other a suspended s = refl
  record_target_stays o first count items (finds cell) a suspended s = refl

  record_stored_stays : (o : V) (first : ℕ) (vs : List V) (found : Option (List V)) → Stays (record_stored_next ops o first vs found)
  record_stored_stays o first vs None a suspended s = refl
  record_stored_stays o first vs (Some old) a suspended s = refl

  pub store_record_stays : (o : V) (first count : ℕ) (found : Found (Cell V)) → Stays (store_record_next ops o first count found)
  store_record_stays o first count on_null a suspended s = refl
  store_record_stays o first count on_gone a suspended s = refl
  store_record_stays o first count on_other a suspended s = refl
  store_record_stays o first count (finds cell) a suspended s =
      let t = topped a suspended s in
      record_stored_stays o first (newest_ones ops count t) (record_in cell.values first count) (record a { operands = drop count a.operands }) suspended s

  received_stays : (o : V) (c : ℕ) (input : List ℤ) (found : Option V) → Stays (received_next ops o c input found)
  received_stays o c [] None a suspended s = refl
  received_stays o c (i ∷ is) None a suspended s = refl
  received_stays o c [] (Some old) a suspended s = refl
  received_stays o c (i ∷ is) (Some old) a suspended s = refl

  pub receive_stays : (o : V) (c : ℕ) (found : Found (Cell V)) → Stays (receive_next ops o c found)
  receive_stays o c on_null a suspended s = refl
  receive_stays o c on_gone a suspended s = refl
  receive_stays o c on_other a suspended s = refl
  receive_stays o c (finds cell) a suspended s = received_stays o c s.input (slice_get cell.values c) a suspended s

  -- Objects cease to exist, and their words go back (13.11.2).
  pub end_stays : (v : V) (found : Found (Cell V)) → Stays (end_next ops v found)
  end_stays v on_null a suspended s = refl
  end_stays v on_gone a suspended s = refl
  end_stays v on_other a suspended s = refl
  end_stays v (finds cell) a suspended s = refl

  told_back_stays : (pool : Option ℕ) (v : V) (e : Event V) → Stays (told_back ops pool v e)
  told_back_stays None v e a suspended s = refl
  told_back_stays (Some pool) v e a suspended s = refl

  given_back_stays : (b : Bool) (v : V) (cause : Cause) (cell : Cell V) → Stays (λ s. if b then given_back ops v cause cell s else halts (Erroneous GivesElsewhere))
  given_back_stays true v cause cell a suspended s =
      told_back_stays cell.home.pool v (Back v cell.access cell.number cell.home.pool cell.home.subpool cause) a suspended (record s { heap = ops.back s.heap v })
  given_back_stays false v cause cell a suspended s = refl

  pub back_stays : (v : V) (cause : Cause) (pool : Option ℕ) (found : Found (Cell V)) → Stays (back_next ops v cause pool found)
  back_stays v cause pool on_null a suspended s = refl
  back_stays v cause pool on_gone a suspended s = refl
  back_stays v cause pool on_other a suspended s = refl
  back_stays v cause pool (finds cell) a suspended s = given_back_stays (same_pool pool cell.home.pool) v cause cell a suspended s

  -- What is written (A.10.7).
  pub line_stays : (i : Option ℤ) → Stays (line_next ops i)
  line_stays None a suspended s = refl
  line_stays (Some i) a suspended s = refl
