-- What is left to do spares variables that are records, and they hold what they held, while forms are evaluated, while components are stored in and while
-- objects go: no variable is written to by that.

use Rattle.ada_declared.proofs.Standing.{Stands, GoesOn, goes_operands, treating_stands}
use Rattle.std.proofs.Common.{ℕ, Bool, true, false, if◌then◌else◌, List, [], ◌∷◌, length, Option, Some, None, Result, Ok, Err}
use Rattle.std.specs.List.{slice_get}
use Rattle.ada_program.specs.declared.program.TypeDefinition.{TypeDefinition}
use Rattle.ada_program.specs.Form.{RecordPathForm, ExpressionForm, integer, boolean, reads, is_null, applied_to, chained, LinksForm, no_more_links, a_link, ItemForm, null_item, item_of_path, item_of_value, item_of_record, RightForm, nothing, value_of, allocates, allocates_default, computes}
use Rattle.ada_program.specs.ProgramForm.{BodyForm}
use Rattle.ada_program.specs.Typed.{width_of}
use Rattle.ada_values.specs.declared.operator.BinaryOperator.{BinaryOperator}
use Rattle.ada_values.specs.declared.fault.OperatorFault.{OperatorFault}
use Rattle.ada_values.specs.declared.fault.OperatorFault.TheVariants.{Overflow, DivisionByZero, WrongType}
use Rattle.ada_parts.specs.declared.tasks.Direction.TheVariants.{PartsFirst, WholeFirst}
use Rattle.ada_meaning.specs.declared.event.Birth.TheVariants.{Creation, Adjustment}
use Rattle.ada_meaning.specs.declared.event.Cause.{Cause}
use Rattle.ada_meaning.specs.declared.event.Cause.TheVariants.{Freeing, Assigning}
use Rattle.ada_meaning.specs.declared.event.Halt.TheVariants.{Erroneous}
use Rattle.ada_meaning.specs.declared.event.Why.TheVariants.{GivesElsewhere}
use Rattle.ada_meaning.specs.declared.state.Place.{Place}
use Rattle.ada_meaning.specs.declared.state.Value.{Value}
use Rattle.ada_meaning.specs.declared.state.Value.TheVariants.{Names}
use Rattle.ada_meaning.specs.Event.{Back, Followed, Quiet}
use Rattle.ada_meaning.specs.Frame.{Frame}
use Rattle.ada_meaning.specs.Frame as frame
use Rattle.ada_meaning.specs.State.{Activation, Destination, home_of, pool_freed_to}
use Rattle.ada_meaning.specs.Heap.{Cell, Found, on_null, on_gone, on_other, finds}
use Rattle.ada_meaning.specs.Step.{halts, moves, all_tasks, record_tasks, treating, procedure_of, places_of, older, operands, set_operands, popped, computed, copy_next, record_assign_next, assigns_next, at, held, newest, reading, component_next, follow_next, path_next, before_last, last_of, selected, named_next, holder_next, place_in, record_holder_next, referred_next, refers_next, open_next, opened_next, opens_next, expression_next, null_test_next, is_decided, link_next, links_next, outcome_next, item_next, items_next, copied_next, copies_next, newest_ones, without_newest, record_in, record_target_next, record_stored_next, store_record_next, answered, new_next, right_next, free_next, end_next, same_pool, told_back, given_back, back_next, freeing, freeing_next, freed_next, free_component_next, free_in_next}
use Rattle.ada_meaning.specs.Named.{State, Next, named, refer, whole, base, part_base, inside, look, standing, returned, on_object, reads_boolean}
use Rattle.ada_meaning.specs.Run.{Event}
use Rattle.ada_typed.proofs.Kept.{Each}

module _ (types : List TypeDefinition) (bodies : List BodyForm) (w : List (Activation Value)) where
  -- What is left to do stands where these activations were there, and the same bodies run on.
  abbrev pub LeftBy : List (Frame Value) → Type 0
  LeftBy k = Stands types bodies k (procedure_of w) (places_of w) (older w)

  abbrev pub Holds : State → Type 0
  Holds s = LeftBy s.control × GoesOn bodies w s.activations

  -- So it is whatever comes next, and whatever is answered.
  abbrev pub AllHold : Next → Type 0
  AllHold = Each Holds

  -- Operands are no variables.
  pub on_operands : (vs : List Value) (s : State) → Holds s → Holds (set_operands vs s)
  on_operands vs s h = (h.0, goes_operands bodies w vs s.activations h.1)

  pub less : (s : State) → Holds s → Holds (popped s)
  less s h = on_operands (older (operands s)) s h

  -- Paths and expressions (4.1, 4.4).
  reading_holds : (cs : List ℕ) (v : Value) (s : State) → Holds s → Holds (reading named cs v s)
  reading_holds [] v s h = on_operands _ s h
  reading_holds (c ∷ cs) v s h = ((tt, h.0), goes_operands bodies w _ s.activations h.1)

  component_holds : (v : Value) (cs : List ℕ) (found : Option Value) (s : State) → Holds s → AllHold (component_next named v cs found s)
  component_holds v cs None s h = tt
  component_holds v cs (Some u) s h = reading_holds cs u s h

  follow_holds : (v : Value) (c : ℕ) (cs : List ℕ) (found : Found (Cell Value)) (s : State) → Holds s → AllHold (follow_next named v c cs found s)
  follow_holds v c cs on_null s h = on_operands _ s h
  follow_holds v c cs on_gone s h = tt
  follow_holds v c cs on_other s h = tt
  follow_holds v c cs (finds cell) s h = component_holds v cs (slice_get cell.values c) s h

  pub path_holds : (cs : List ℕ) (v : Value) (s : State) → Holds s → AllHold (path_next named cs v s)
  path_holds [] v s h = on_operands _ s h
  path_holds (c ∷ cs) v s h = follow_holds v c cs (look s.heap v) s h

  -- Where a path begins.
  pub named_holds : (cs : List ℕ) (x : ℕ) (s : State) → Holds s → AllHold (named_next named cs x s)
  named_holds cs x s h = path_holds (selected named (held named s x) cs) (whole (held named s x)) s h

  pub holder_holds : (c : ℕ) (cs : List ℕ) (x : ℕ) (frame_of : ℕ → Frame Value) (s : State) → ((n : ℕ) → LeftBy (frame_of n ∷ s.control))
      → GoesOn bodies w s.activations → AllHold (holder_next named c cs x frame_of s)
  holder_holds c cs x frame_of s n on =
      path_holds (before_last (inside (held named s x) c) cs) (whole (held named s x))
      (at (frame_of (last_of (inside (held named s x) c) cs) ∷ s.control) s) (n (last_of (inside (held named s x) c) cs), on)

  pub record_holder_holds : (p : RecordPathForm) (frame_of : Place → Frame Value) (s : State) → ((place : Place) → LeftBy (frame_of place ∷ s.control))
      → GoesOn bodies w s.activations → AllHold (record_holder_next named p frame_of s)
  record_holder_holds p frame_of s n on =
      path_holds (selected named (held named s p.object.root) p.object.selectors) (whole (held named s p.object.root))
      (at (frame_of (place_in named (held named s p.object.root) p.object.selectors p) ∷ s.control) s)
      (n (place_in named (held named s p.object.root) p.object.selectors p), on)

  pub expression_holds : (e : ExpressionForm) (s : State) → Holds s → AllHold (expression_next named e s)
  expression_holds (integer i) s h = on_operands _ s h
  expression_holds (boolean b) s h = on_operands _ s h
  expression_holds (reads path) s h = named_holds path.selectors path.root s h
  expression_holds (is_null equal path) s h = named_holds path.selectors path.root (at (frame.TestsNull equal ∷ s.control) s) ((tt, h.0), h.1)
  expression_holds (applied_to operator e) s h = ((tt, (tt, h.0)), h.1)
  expression_holds (chained e links) s h = ((tt, (tt, h.0)), h.1)

  pub null_test_holds : (equal : Bool) (null : Option Bool) (s : State) → Holds s → AllHold (null_test_next named equal null s)
  null_test_holds true None s h = tt
  null_test_holds false None s h = tt
  null_test_holds true (Some null) s h = on_operands _ s h
  null_test_holds false (Some null) s h = on_operands _ s h

  link_holds : (decided : Bool) (operator : BinaryOperator) (e : ExpressionForm) (links : LinksForm) (s : State) → Holds s
      → AllHold (link_next named decided operator e links s)
  link_holds true operator e links s h = ((tt, h.0), h.1)
  link_holds false operator e links s h = ((tt, (tt, (tt, h.0))), h.1)

  pub links_hold : (links : LinksForm) (s : State) → Holds s → AllHold (links_next named links s)
  links_hold no_more_links s h = h
  links_hold (a_link operator e links) s h = link_holds (is_decided named operator (reads_boolean (newest named s))) operator e links s h

  pub outcome_holds : (outcome : Result Value OperatorFault) (s : State) → Holds s → AllHold (outcome_next named outcome s)
  outcome_holds (Ok v) s h = on_operands _ s h
  outcome_holds (Err Overflow) s h = on_operands _ s h
  outcome_holds (Err DivisionByZero) s h = on_operands _ s h
  outcome_holds (Err WrongType) s h = tt

  -- Allocators, and what is assigned.
  item_holds : (item : ItemForm) (s : State) → Holds s → AllHold (item_next named item s)
  item_holds null_item s h = on_operands _ s h
  item_holds (item_of_path path) s h = named_holds path.selectors path.root s h
  item_holds (item_of_value e) s h = ((tt, h.0), h.1)
  item_holds (item_of_record p) s h = record_holder_holds p (λ place. frame.Copies place.component p.record_type) s (λ place. (tt, h.0)) h.1

  pub items_hold : (items : List ItemForm) (s : State) → Holds s → AllHold (items_next named items s)
  items_hold [] s h = h
  items_hold (i ∷ is) s h = item_holds i (at (frame.Fills is ∷ s.control) s) ((tt, h.0), h.1)

  -- Records as wholes.
  copied_holds : (o : Value) (found : Option (List Value)) (s : State) → Holds s → AllHold (copied_next named o found s)
  copied_holds o None s h = tt
  copied_holds o (Some vs) s h = on_operands _ s h

  pub copies_hold : (o : Value) (first count : ℕ) (found : Found (Cell Value)) (s : State) → Holds s → AllHold (copies_next named o first count found s)
  copies_hold o first count on_null s h = on_operands _ s h
  copies_hold o first count on_gone s h = tt
  copies_hold o first count on_other s h = tt
  copies_hold o first count (finds cell) s h = copied_holds o (record_in cell.values first count) s h

  pub record_target_holds : (o : Value) (first count : ℕ) (items : List ItemForm) (found : Found (Cell Value)) (s : State) → Holds s
      → AllHold (record_target_next named o first count items found s)
  record_target_holds o first count items on_null s h = on_operands _ s h
  record_target_holds o first count items on_gone s h = tt
  record_target_holds o first count items on_other s h = tt
  record_target_holds o first count items (finds cell) s h = ((tt, (tt, h.0)), h.1)

  record_stored_holds : (o : Value) (first : ℕ) (vs : List Value) (found : Option (List Value)) (s : State) → Holds s
      → AllHold (record_stored_next named o first vs found s)
  record_stored_holds o first vs None s h = tt
  record_stored_holds o first vs (Some before) s h = h

  pub store_record_holds : (o : Value) (first count : ℕ) (found : Found (Cell Value)) (s : State) → Holds s → AllHold (store_record_next named o first count found s)
  store_record_holds o first count on_null s h = tt
  store_record_holds o first count on_gone s h = tt
  store_record_holds o first count on_other s h = tt
  store_record_holds o first count (finds cell) s h =
      record_stored_holds o first (newest_ones named count s) (record_in cell.values first count) (without_newest named count s) (on_operands _ s h)

  -- Records that have controlled parts are assigned: both are found first, and then the target is finalized, gets the components, and is adjusted.
  copy_holds : (target : RecordPathForm) (items : List ItemForm) (s : State) → Holds s → AllHold (copy_next named target items s)
  copy_holds target [] s h = tt
  copy_holds target (null_item ∷ items) s h = tt
  copy_holds target (item_of_path path ∷ items) s h = tt
  copy_holds target (item_of_value e ∷ items) s h = tt
  copy_holds target (item_of_record source ∷ []) s h = ((tt, (tt, (tt, h.0))), h.1)
  copy_holds target (item_of_record source ∷ i ∷ items) s h = tt

  pub record_assign_holds : (parts : Bool) (target : RecordPathForm) (items : List ItemForm) (s : State) → Holds s
      → AllHold (record_assign_next named parts target items s)
  record_assign_holds true target items s h = copy_holds target items s h
  record_assign_holds false target items s h =
      record_holder_holds target (λ place. frame.TargetsRecord place.component target.record_type items) s (λ place. (tt, h.0)) h.1

  pub assigns_hold : (t : ℕ) (target source : Value) (alike : Option Bool) (s : State) → Holds s
      → AllHold (assigns_next named types t target source alike s)
  assigns_hold t target source None s h = tt
  assigns_hold t target source (Some true) s h = h
  assigns_hold t target source (Some false) s h =
      let o = whole target in
      let adjusts = treating o (frame.begins (Adjustment s.next) []) (record_tasks types t PartsFirst (part_base target)) s.control in (
        treating_stands types bodies (procedure_of w) (places_of w) (older w) o (frame.ends (Assigning s.next)) (record_tasks types t WholeFirst (part_base target))
            (frame.Copies (base source) t ∷ frame.StoresRecord o (base target) (width_of types t) ∷ adjusts) (
              tt,
              (
                tt,
                treating_stands types bodies (procedure_of w) (places_of w) (older w) o (frame.begins (Adjustment s.next) []) (record_tasks types t PartsFirst (part_base target))
                    s.control h.0,
              ),
            ),
        goes_operands bodies w _ s.activations h.1,
      )

  answered_holds : (access count words : ℕ) (home : Destination) (s : State) → Holds s → (granted : Bool)
      → Holds (answered named types access count words home s granted)
  answered_holds access count words home s h true = (
    treating_stands types bodies (procedure_of w) (places_of w) (older w) (Names (record { 0 = length s.heap })) (frame.begins Creation []) (all_tasks types access PartsFirst)
        s.control h.0,
    goes_operands bodies w _ s.activations h.1,
  )
  answered_holds access count words home s h false = on_operands _ s h

  pub new_holds : (access count words : ℕ) (home : Option Destination) (s : State) → Holds s
      → AllHold (new_next named types access count words home s)
  new_holds access count words None s h = on_operands _ s h
  new_holds access count words (Some home) s h = answered_holds access count words home s h

  -- What is passed by reference, and the components that get something back.
  referred_holds : (o : Value) (place : Place) (found : Option (List Value)) (s : State) → Holds s → AllHold (referred_next named o place found s)
  referred_holds o place None s h = tt
  referred_holds o place (Some vs) s h = on_operands _ s h

  pub refers_hold : (o : Value) (place : Place) (count : ℕ) (found : Found (Cell Value)) (s : State) → Holds s → AllHold (refers_next named o place count found s)
  refers_hold o place count on_null s h = on_operands _ s h
  refers_hold o place count on_gone s h = tt
  refers_hold o place count on_other s h = tt
  refers_hold o place count (finds cell) s h = referred_holds o place (record_in cell.values place.component count) s h

  pub open_holds : (cs : List ℕ) (x : ℕ) (s : State) → Holds s → AllHold (open_next named cs x s)
  open_holds [] x s h = tt
  open_holds (c ∷ cs) x s h = holder_holds c cs x frame.OpensIn s (λ n. (tt, h.0)) h.1

  opened_holds : (o : Value) (c : ℕ) (found : Option Value) (s : State) → Holds s → AllHold (opened_next named o c found s)
  opened_holds o c None s h = tt
  opened_holds o c (Some v) s h = on_operands _ (computed (refer o (record { component = c; part = 0 })) s) (on_operands _ s h)

  pub opens_hold : (o : Value) (c : ℕ) (found : Found (Cell Value)) (s : State) → Holds s → AllHold (opens_next named o c found s)
  opens_hold o c on_null s h = on_operands _ s h
  opens_hold o c on_gone s h = tt
  opens_hold o c on_other s h = tt
  opens_hold o c (finds cell) s h = opened_holds o c (slice_get cell.values c) s h

  pub right_holds : (right : RightForm) (s : State) → Holds s → AllHold (right_next named types right s)
  right_holds nothing s h = on_operands _ s h
  right_holds (value_of path) s h = named_holds path.selectors path.root s h
  right_holds (allocates access items) s h = ((tt, (tt, h.0)), h.1)
  right_holds (allocates_default access) s h = ((tt, h.0), goes_operands bodies w _ s.activations h.1)
  right_holds (computes e) s h = ((tt, h.0), h.1)

  -- Free, and what it leads to.
  freeing_holds : (access : ℕ) (v : Value) (cell : Cell Value) (clears : Frame Value) (s : State)
      → LeftBy (clears ∷ s.control) → GoesOn bodies w s.activations → Holds (freeing named types access v cell clears s)
  freeing_holds access v cell clears s h on =
      let back = frame.GivesBack v (Freeing s.next) (Some (pool_freed_to (home_of access s.masters))) in (
        treating_stands types bodies (procedure_of w) (places_of w) (older w) v (frame.ends (Freeing s.next)) (all_tasks types cell.access WholeFirst)
            (frame.Ends v ∷ back ∷ clears ∷ s.control) (tt, (tt, h)),
        on,
      )

  -- It is erroneous where the object is of another pool.
  freeing_next_holds : (access : ℕ) (v : Value) (cell : Cell Value) (clears : Frame Value) (event : Event) (s : State)
      → LeftBy (clears ∷ s.control) → GoesOn bodies w s.activations → AllHold (freeing_next named types access v cell clears event s)
  freeing_next_holds access v cell clears event s h on = by_pool (same_pool (Some (pool_freed_to (home_of access s.masters))) cell.home.pool)
    where
      by_pool : (own : Bool)
          → AllHold (if own then moves event (freeing named types access v cell clears s) else halts (Erroneous GivesElsewhere))
      by_pool true = freeing_holds access v cell clears s h on
      by_pool false = tt

  pub free_holds : (access x : ℕ) (v : Value) (found : Found (Cell Value)) (s : State) → LeftBy (frame.Clears x ∷ s.control)
      → Holds s → AllHold (free_next named types access x v found s)
  free_holds access x v on_null s clears h = h
  free_holds access x v on_gone s clears h = tt
  free_holds access x v on_other s clears h = tt
  free_holds access x v (finds cell) s clears h = freeing_next_holds access v cell (frame.Clears x) Quiet s clears h.1

  freed_holds : (access : ℕ) (o : Value) (c : ℕ) (v : Value) (found : Found (Cell Value)) (s : State)
      → Holds s → AllHold (freed_next named types access o c v found s)
  freed_holds access o c v on_null s h = h
  freed_holds access o c v on_gone s h = tt
  freed_holds access o c v on_other s h = tt
  freed_holds access o c v (finds cell) s h = freeing_next_holds access v cell (frame.ClearsIn o c) (Followed o) s (tt, h.0) h.1

  free_component_holds : (access : ℕ) (o : Value) (c : ℕ) (found : Option Value) (s : State)
      → Holds s → AllHold (free_component_next named types access o c found s)
  free_component_holds access o c None s h = tt
  free_component_holds access o c (Some v) s h = freed_holds access o c v (standing s.heap v) s h

  pub free_in_holds : (access : ℕ) (o : Value) (c : ℕ) (found : Found (Cell Value)) (s : State)
      → Holds s → AllHold (free_in_next named types access o c found s)
  free_in_holds access o c on_null s h = on_operands _ s h
  free_in_holds access o c on_gone s h = tt
  free_in_holds access o c on_other s h = tt
  free_in_holds access o c (finds cell) s h = free_component_holds access o c (slice_get cell.values c) s h

  pub end_holds : (v : Value) (found : Found (Cell Value)) (s : State) → Holds s → AllHold (end_next named v found s)
  end_holds v on_null s h = tt
  end_holds v on_gone s h = tt
  end_holds v on_other s h = tt
  end_holds v (finds cell) s h = h

  told_holds : (pool : Option ℕ) (v : Value) (event : Event) (s : State) → Holds s
      → AllHold (told_back named pool v event (record s { heap = on_object returned s.heap v }))
  told_holds None v event s h = h
  told_holds (Some pool) v event s h = h

  given_holds : (fits : Bool) (v : Value) (cause : Cause) (cell : Cell Value) (s : State) → Holds s
      → AllHold (if fits then given_back named v cause cell s else halts (Erroneous GivesElsewhere))
  given_holds true v cause cell s h = told_holds cell.home.pool v (Back v cell.access cell.number cell.home.pool cell.home.subpool cause) s h
  given_holds false v cause cell s h = tt

  pub back_holds : (v : Value) (cause : Cause) (pool : Option ℕ) (found : Found (Cell Value)) (s : State) → Holds s → AllHold (back_next named v cause pool found s)
  back_holds v cause pool on_null s h = tt
  back_holds v cause pool on_gone s h = tt
  back_holds v cause pool on_other s h = tt
  back_holds v cause pool (finds cell) s h = given_holds (same_pool pool cell.home.pool) v cause cell s h
