-- Hidden components stay as they are where forms do something that writes none of them.

use Rattle.std.proofs.Common.{ℕ, ◌≤◌, ℤ, Bool, true, false, List, [], ◌∷◌, length, take, Option, Some, None, Result, Ok, Err, refl, arith, length-take}
use Rattle.std.specs.Prelude.{◌==◌, if◌then◌else◌}
use Rattle.std.specs.List.{slice_get, slice_index_or}
use Rattle.std.proofs.lemmas.List.{length-reverse}
use Rattle.ada_values.specs.declared.operator.BinaryOperator.{BinaryOperator}
use Rattle.ada_values.specs.declared.fault.OperatorFault.{OperatorFault}
use Rattle.ada_values.specs.declared.fault.OperatorFault.TheVariants.{Overflow, DivisionByZero, WrongType}
use Rattle.ada_parts.specs.declared.tasks.Next.{Next as Follows}
use Rattle.ada_parts.specs.declared.tasks.Next.TheVariants.{Done, Pick, Perform}
use Rattle.ada_parts.specs.Part.{Part}
use Rattle.ada_parts.specs.Task.{Task, performed}
use Rattle.ada_program.specs.declared.program.TypeDefinition.{TypeDefinition}
use Rattle.ada_program.specs.Controlled.{operations_of, procedure_number}
use Rattle.ada_program.specs.Form.{RecordPathForm, ExpressionForm, integer, boolean, reads, is_null, applied_to, chained, LinksForm, no_more_links, a_link, ItemForm, null_item, item_of_path, item_of_value, item_of_record, RightForm}
use Rattle.ada_program.specs.ProgramForm.{BodyForm}
use Rattle.ada_meaning.specs.declared.event.Birth.{Birth}
use Rattle.ada_meaning.specs.declared.event.Cause.{Cause}
use Rattle.ada_meaning.specs.declared.event.Cause.TheVariants.{Leaving}
use Rattle.ada_meaning.specs.declared.event.Halt.TheVariants.{Stuck, Erroneous}
use Rattle.ada_meaning.specs.declared.event.Why.TheVariants.{GivesElsewhere, FinalizesTwice}
use Rattle.ada_meaning.specs.declared.state.Id.{Id}
use Rattle.ada_meaning.specs.declared.state.Mode.{Mode}
use Rattle.ada_meaning.specs.declared.state.Place.{Place}
use Rattle.ada_meaning.specs.declared.state.Value.{Value}
use Rattle.ada_meaning.specs.Event.{Event, Back, Finalized, Quiet}
use Rattle.ada_meaning.specs.Frame.{Treatment, begins, ends, Frame}
use Rattle.ada_meaning.specs.Frame as frame
use Rattle.ada_meaning.specs.Heap.{PartState, Cell, Found, on_null, on_gone, on_other, finds}
use Rattle.ada_meaning.specs.State.{Owned, declared, collection, record_object, storage_pool, Item, Master, counted}
use Rattle.ada_meaning.specs.Step.{halts, moves, tells, asks, picks, at, operands, treating, beginning, same_pool, newest_ones, without_newest, held, newest, before_last, last_of, selected, place_in, component_next, follow_next, path_next, named_next, holder_next, record_holder_next, expression_next, null_test_next, is_decided, link_next, links_next, outcome_next, item_next, items_next, copied_next, copies_next, operation_next, part_reference, born_next, begun_next, awaited_next, ended_next, finalized_next, performed_next, treats_next, end_next, told_back, given_back, back_next, target_next, stored_from, stored_next, store_next, record_target_next, record_stored_next, store_record_next, received_next, receive_next, referred_next, refers_next, open_next, opened_next, opens_next, line_next, taken_out, taken, members_next, item_leave_next, master_leave_next, leave_next, record_in}
use Rattle.ada_meaning.specs.Named.{Object, State, Next, named, look, whole, inside, reads_boolean, parted, finished, treated, born_part, finalized_part, members, on_object}
use Rattle.ada_meaning.specs.Named as heap
use Rattle.ada_untouched.specs.Untouched.{IsShown, AreShown}
use Rattle.ada_untouched.proofs.Kept.{Kept, as_it_is, kept, on_kept, store_kept, stored_kept}

module _ (hidden : Id → (component : ℕ) → Bool) where
  -- Hidden components stay as they are in each state that may come next, whatever is answered.
  abbrev pub Stays : List Object → Next → Type 0
  Stays h (halts halt) = Unit {0}
  Stays h (moves e s) = Kept hidden h s.heap
  Stays h (tells request e s) = Kept hidden h s.heap
  Stays h (asks request answered) = (granted : Bool) → Kept hidden h (answered granted).heap
  Stays h (picks count taken) = (i : ℕ) → Kept hidden h (taken i).heap

  abbrev pub Staying : (State → Next) → Type 0
  Staying step = (s : State) → Stays s.heap (step s)

  -- The heap is the same.
  pub same : (s : State) → Kept hidden s.heap s.heap
  same s = kept hidden s.heap s.heap (as_it_is hidden s.heap)

  -- An object changes beside its components.
  pub parted_kept : (h : List Object) (v : Value) → Kept hidden h (on_object parted h v)
  parted_kept h v = kept hidden h (on_object parted h v) (on_kept hidden parted (λ o x c hides. refl) h v)

  finished_kept : (h : List Object) (v : Value) → Kept hidden h (on_object finished h v)
  finished_kept h v = kept hidden h (on_object finished h v) (on_kept hidden finished (λ o x c hides. refl) h v)

  returned_kept : (h : List Object) (v : Value) → Kept hidden h (on_object heap.returned h v)
  returned_kept h v = kept hidden h (on_object heap.returned h v) (on_kept hidden heap.returned (λ o x c hides. refl) h v)

  treated_kept : (change : PartState → PartState) (part : ℕ) (h : List Object) (v : Value) → Kept hidden h (on_object (treated change part) h v)
  treated_kept change part h v = kept hidden h (on_object (treated change part) h v) (on_kept hidden (treated change part) (λ o x c hides. refl) h v)

  -- Paths (4.1).
  component_stays : (v : Value) (cs : List ℕ) (u : Option Value) → Staying (component_next named v cs u)
  component_stays v cs None s = tt
  component_stays v [] (Some u) s = same s
  component_stays v (c ∷ cs) (Some u) s = same s

  follow_stays : (v : Value) (c : ℕ) (cs : List ℕ) (found : Found (Cell Value)) → Staying (follow_next named v c cs found)
  follow_stays v c cs on_null s = same s
  follow_stays v c cs on_gone s = tt
  follow_stays v c cs on_other s = tt
  follow_stays v c cs (finds cell) s = component_stays v cs (slice_get cell.values c) s

  pub path_stays : (cs : List ℕ) (v : Value) → Staying (path_next named cs v)
  path_stays [] v s = same s
  path_stays (c ∷ cs) v s = follow_stays v c cs (look s.heap v) s

  pub named_stays : (cs : List ℕ) (x : ℕ) → Staying (named_next named cs x)
  named_stays cs x s = path_stays (selected named (held named s x) cs) (whole (held named s x)) s

  pub holder_stays : (c : ℕ) (cs : List ℕ) (x : ℕ) (frame_of : ℕ → Frame Value) → Staying (holder_next named c cs x frame_of)
  holder_stays c cs x frame_of s =
      path_stays (before_last (inside (held named s x) c) cs) (whole (held named s x))
      (at (frame_of (last_of (inside (held named s x) c) cs) ∷ s.control) s)

  pub record_holder_stays : (p : RecordPathForm) (frame_of : Place → Frame Value) → Staying (record_holder_next named p frame_of)
  record_holder_stays p frame_of s =
      path_stays (selected named (held named s p.object.root) p.object.selectors) (whole (held named s p.object.root))
      (at (frame_of (place_in named (held named s p.object.root) p.object.selectors p) ∷ s.control) s)

  -- Expressions (4.4).
  pub expression_stays : (e : ExpressionForm) → Staying (expression_next named e)
  expression_stays (integer i) s = same s
  expression_stays (boolean b) s = same s
  expression_stays (reads path) s = named_stays path.selectors path.root s
  expression_stays (is_null equal path) s = named_stays path.selectors path.root (at (frame.TestsNull equal ∷ s.control) s)
  expression_stays (applied_to operator e) s = same s
  expression_stays (chained e links) s = same s

  pub null_test_stays : (equal : Bool) (found : Option Bool) → Staying (null_test_next named equal found)
  null_test_stays true None s = tt
  null_test_stays false None s = tt
  null_test_stays true (Some null) s = same s
  null_test_stays false (Some null) s = same s

  link_stays : (decided : Bool) (operator : BinaryOperator) (e : ExpressionForm) (links : LinksForm) → Staying (link_next named decided operator e links)
  link_stays true operator e links s = same s
  link_stays false operator e links s = same s

  pub links_stays : (links : LinksForm) → Staying (links_next named links)
  links_stays no_more_links s = same s
  links_stays (a_link operator e links) s = link_stays (is_decided named operator (reads_boolean (newest named s))) operator e links s

  pub outcome_stays : (given : Result Value OperatorFault) → Staying (outcome_next named given)
  outcome_stays (Ok v) s = same s
  outcome_stays (Err Overflow) s = same s
  outcome_stays (Err DivisionByZero) s = same s
  outcome_stays (Err WrongType) s = tt

  -- Items, and records that are copied (4.3.1).
  item_stays : (i : ItemForm) → Staying (item_next named i)
  item_stays null_item s = same s
  item_stays (item_of_path path) s = named_stays path.selectors path.root s
  item_stays (item_of_value e) s = same s
  item_stays (item_of_record p) s = record_holder_stays p (λ place. frame.Copies place.component p.record_type) s

  pub items_stays : (items : List ItemForm) → Staying (items_next named items)
  items_stays [] s = same s
  items_stays (i ∷ is) s = item_stays i (at (frame.Fills is ∷ s.control) s)

  copied_stays : (v : Value) (found : Option (List Value)) → Staying (copied_next named v found)
  copied_stays v None s = tt
  copied_stays v (Some vs) s = same s

  pub copies_stays : (v : Value) (first count : ℕ) (found : Found (Cell Value)) → Staying (copies_next named v first count found)
  copies_stays v first count on_null s = same s
  copies_stays v first count on_gone s = tt
  copies_stays v first count on_other s = tt
  copies_stays v first count (finds cell) s = copied_stays v (record_in cell.values first count) s

  -- Records and components that are given (6.2, 6.4.1).
  referred_stays : (v : Value) (place : Place) (found : Option (List Value)) → Staying (referred_next named v place found)
  referred_stays v place None s = tt
  referred_stays v place (Some vs) s = same s

  pub refers_stays : (v : Value) (place : Place) (count : ℕ) (found : Found (Cell Value)) → Staying (refers_next named v place count found)
  refers_stays v place count on_null s = same s
  refers_stays v place count on_gone s = tt
  refers_stays v place count on_other s = tt
  refers_stays v place count (finds cell) s = referred_stays v place (record_in cell.values place.component count) s

  opened_stays : (v : Value) (c : ℕ) (found : Option Value) → Staying (opened_next named v c found)
  opened_stays v c None s = tt
  opened_stays v c (Some u) s = same s

  pub opens_stays : (v : Value) (c : ℕ) (found : Found (Cell Value)) → Staying (opens_next named v c found)
  opens_stays v c on_null s = same s
  opens_stays v c on_gone s = tt
  opens_stays v c on_other s = tt
  opens_stays v c (finds cell) s = opened_stays v c (slice_get cell.values c) s

  pub open_stays : (cs : List ℕ) (x : ℕ) → Staying (open_next named cs x)
  open_stays [] x s = tt
  open_stays (c ∷ cs) x s = holder_stays c cs x frame.OpensIn s

  -- Components get values (5.2): they are not hidden.
  pub target_stays : (v : Value) (c : ℕ) (right : RightForm) (found : Found (Cell Value)) → Staying (target_next named v c right found)
  target_stays v c right on_null s = same s
  target_stays v c right on_gone s = tt
  target_stays v c right on_other s = tt
  target_stays v c right (finds cell) s = same s

  stored_stays : (v : Value) (c : ℕ) (u : Value) (found : Option Value) → IsShown hidden v c → Staying (stored_next named v c u found)
  stored_stays v c u None shown s = tt
  stored_stays v c u (Some before) shown s = kept hidden s.heap (heap.store s.heap v c u) (store_kept hidden s.heap v c u shown)

  pub store_stays : (v : Value) (c : ℕ) (u : Value) (found : Found (Cell Value)) → IsShown hidden v c → Staying (store_next named v c u found)
  store_stays v c u on_null shown s = tt
  store_stays v c u on_gone shown s = tt
  store_stays v c u on_other shown s = tt
  store_stays v c u (finds cell) shown s = stored_stays v c u (slice_get cell.values c) shown s

  pub record_target_stays : (v : Value) (first count : ℕ) (items : List ItemForm) (found : Found (Cell Value)) → Staying (record_target_next named v first count items found)
  record_target_stays v first count items on_null s = same s
  record_target_stays v first count items on_gone s = tt
  record_target_stays v first count items on_other s = tt
  record_target_stays v first count items (finds cell) s = same s

  record_stored_stays : (v : Value) (first : ℕ) (vs : List Value) (found : Option (List Value)) → AreShown hidden v first (length vs) → Staying (record_stored_next named v first vs found)
  record_stored_stays v first vs None shown s = tt
  record_stored_stays v first vs (Some before) shown s =
      kept hidden s.heap (stored_from named s.heap v first vs) (stored_kept hidden s.heap v first vs shown)

  -- There are no more operands than are asked for.
  no_more : (count : ℕ) (s : State) → length (newest_ones named count s) ≤ count
  no_more count s = omega (arith, length-reverse (take count (operands s)), length-take count (operands s))

  pub store_record_stays : (v : Value) (first count : ℕ) (found : Found (Cell Value)) → AreShown hidden v first count → Staying (store_record_next named v first count found)
  store_record_stays v first count on_null shown s = tt
  store_record_stays v first count on_gone shown s = tt
  store_record_stays v first count on_other shown s = tt
  store_record_stays v first count (finds cell) shown s =
      record_stored_stays v first (newest_ones named count s) (record_in cell.values first count)
      (λ i lt. shown i (omega (arith, lt, no_more count s))) (without_newest named count s)

  received_stays : (v : Value) (c : ℕ) (input : List ℤ) (found : Option Value) → IsShown hidden v c → Staying (received_next named v c input found)
  received_stays v c [] None shown s = tt
  received_stays v c (i ∷ is) None shown s = tt
  received_stays v c [] (Some before) shown s = same s
  received_stays v c (i ∷ is) (Some before) shown s =
      kept hidden s.heap (heap.store s.heap v c (named.integer i)) (store_kept hidden s.heap v c (named.integer i) shown)

  pub receive_stays : (v : Value) (c : ℕ) (found : Found (Cell Value)) → IsShown hidden v c → Staying (receive_next named v c found)
  receive_stays v c on_null shown s = same s
  receive_stays v c on_gone shown s = tt
  receive_stays v c on_other shown s = tt
  receive_stays v c (finds cell) shown s = received_stays v c s.input (slice_get cell.values c) shown s

  -- Objects cease to exist, and their words go back (13.11.2).
  pub end_stays : (v : Value) (found : Found (Cell Value)) → Staying (end_next named v found)
  end_stays v on_null s = tt
  end_stays v on_gone s = tt
  end_stays v on_other s = tt
  end_stays v (finds cell) s = finished_kept s.heap v

  told_back_stays : (pool : Option ℕ) (v : Value) (e : Event Value) (h : List Object) (s : State) → Kept hidden h s.heap → Stays h (told_back named pool v e s)
  told_back_stays None v e h s a = a
  told_back_stays (Some pool) v e h s a = a

  given_back_stays : (b : Bool) (v : Value) (cause : Cause) (cell : Cell Value) → Staying (λ s. if b then given_back named v cause cell s else halts (Erroneous GivesElsewhere))
  given_back_stays true v cause cell s =
      told_back_stays cell.home.pool v (Back v cell.access cell.number cell.home.pool cell.home.subpool cause) s.heap
      (record s { heap = on_object heap.returned s.heap v }) (returned_kept s.heap v)
  given_back_stays false v cause cell s = tt

  pub back_stays : (v : Value) (cause : Cause) (pool : Option ℕ) (found : Found (Cell Value)) → Staying (back_next named v cause pool found)
  back_stays v cause pool on_null s = tt
  back_stays v cause pool on_gone s = tt
  back_stays v cause pool on_other s = tt
  back_stays v cause pool (finds cell) s = given_back_stays (same_pool pool cell.home.pool) v cause cell s

  -- Controlled parts (7.6, 7.6.1): what is noted of a part is no component.
  operation_stays : (procedure : ℕ) (found : Option BodyForm) (reference : Value) (behind : List (Frame Value)) (e : Event Value) (h : List Object) (s : State) → Kept hidden h s.heap → Stays h (operation_next named procedure found reference behind e s)
  operation_stays procedure None reference behind e h s a = tt
  operation_stays procedure (Some b) reference behind e h s a = a

  born_stays : (v : Value) (by : Birth) (done : List Part) (of part : ℕ) (tasks : List Task) (found : Option PartState) → Staying (born_next named v by done of part tasks found)
  born_stays v by done of part tasks None s = tt
  born_stays v by done of part tasks (Some p) s = treated_kept (born_part (counted s.born)) part s.heap v

  begun_stays : (bodies : List BodyForm) (v : Value) (by : Birth) (done : List Part) (of part : ℕ) (tasks : List Task) (operation : Option ℕ) (found : Option PartState) → Staying (begun_next named bodies v by done of part tasks operation found)
  begun_stays bodies v by done of part tasks None None s = tt
  begun_stays bodies v by done of part tasks (Some procedure) None s = tt
  begun_stays bodies v by done of part tasks None (Some p) s = born_stays v by done of part tasks (Some p) s
  begun_stays bodies v by done of part tasks (Some procedure) (Some p) s =
      operation_stays procedure (slice_get bodies procedure) (part_reference named v part p) (frame.Awaits v by done of part tasks ∷ s.control) Quiet s.heap s (same s)

  pub awaited_stays : (v : Value) (by : Birth) (done : List Part) (of part : ℕ) (tasks : List Task) (found : Found (Cell Value)) → Staying (awaited_next named v by done of part tasks found)
  awaited_stays v by done of part tasks on_null s = tt
  awaited_stays v by done of part tasks on_gone s = tt
  awaited_stays v by done of part tasks on_other s = tt
  awaited_stays v by done of part tasks (finds cell) s = born_stays v by done of part tasks (slice_get cell.parts part) s

  ended_stays : (bodies : List BodyForm) (v : Value) (part : ℕ) (p : PartState) (behind : List (Frame Value)) (operation : Option ℕ) (e : Event Value) (h : List Object) (s : State) → Kept hidden h s.heap → Stays h (ended_next named bodies v part p behind operation e s)
  ended_stays bodies v part p behind None e h s a = a
  ended_stays bodies v part p behind (Some procedure) e h s a =
      operation_stays procedure (slice_get bodies procedure) (part_reference named v part p) (frame.Confines ∷ behind) e h s a

  part_ended : (alive : Bool) (bodies : List BodyForm) (v : Value) (part : ℕ) (p : PartState) (behind : List (Frame Value)) (operation : Option ℕ) (e : Event Value) → Staying (λ s. if alive then ended_next named bodies v part p behind operation e (record s { heap = heap.finalize s.heap v part }) else halts (Erroneous FinalizesTwice))
  part_ended true bodies v part p behind operation e s =
      ended_stays bodies v part p behind operation e s.heap (record s { heap = heap.finalize s.heap v part }) (treated_kept finalized_part part s.heap v)
  part_ended false bodies v part p behind operation e s = tt

  finalized_stays : (bodies : List BodyForm) (v : Value) (cause : Cause) (of part : ℕ) (tasks : List Task) (operation : Option ℕ) (found : Option PartState) → Staying (finalized_next named bodies v cause of part tasks operation found)
  finalized_stays bodies v cause of part tasks operation None s = tt
  finalized_stays bodies v cause of part tasks operation (Some p) s =
      part_ended p.alive bodies v part p (treating v (ends cause) tasks s.control) operation (Finalized v part p.turn of p.number cause) s

  performed_stays : (types : List TypeDefinition) (bodies : List BodyForm) (v : Value) (treatment : Treatment) (of part : ℕ) (tasks : List Task) (found : Found (Cell Value)) → Staying (performed_next named types bodies v treatment of part tasks found)
  performed_stays types bodies v treatment of part tasks on_null s = tt
  performed_stays types bodies v treatment of part tasks on_gone s = tt
  performed_stays types bodies v treatment of part tasks on_other s = tt
  performed_stays types bodies v (begins by done) of part tasks (finds cell) s =
      begun_stays bodies v by done of part tasks (beginning by (operations_of types of)) (slice_get cell.parts part) s
  performed_stays types bodies v (ends cause) of part tasks (finds cell) s =
      finalized_stays bodies v cause of part tasks (procedure_number (operations_of types of).finalize) (slice_get cell.parts part) s

  picked_stays : (b : Bool) (count : ℕ) (h : List Object) (picked : ℕ → State) → ((i : ℕ) → Kept hidden h (picked i).heap) → Stays h (if b then halts Stuck else picks count picked)
  picked_stays true count h picked a = tt
  picked_stays false count h picked a = a

  pub treats_stays : (types : List TypeDefinition) (bodies : List BodyForm) (v : Value) (treatment : Treatment) (tasks : List Task) (follows : Follows) → Staying (treats_next named types bodies v treatment tasks follows)
  treats_stays types bodies v treatment tasks Done s = same s
  treats_stays types bodies v treatment tasks (Pick count) s = picked_stays (count == 0) count s.heap _ (λ i. same s)
  treats_stays types bodies v treatment tasks (Perform of part) s = performed_stays types bodies v treatment of part (performed tasks) (look s.heap v) s

  -- What is written (A.10.7).
  pub line_stays : (i : Option ℤ) → Staying (line_next named i)
  line_stays None s = tt
  line_stays (Some i) s = same s

  -- Masters are left (7.6.1).
  taken_out_stays : (types : List TypeDefinition) (cause : Cause) (pool : Option ℕ) (v : Value) (found : Found (Cell Value)) (s : State) → Kept hidden s.heap (taken_out named types cause pool v found s).heap
  taken_out_stays types cause pool v on_null s = parted_kept s.heap v
  taken_out_stays types cause pool v on_gone s = parted_kept s.heap v
  taken_out_stays types cause pool v on_other s = parted_kept s.heap v
  taken_out_stays types cause pool v (finds cell) s = parted_kept s.heap v

  members_stays : (types : List TypeDefinition) (cause : Cause) (pool : Option ℕ) (vs : List Value) → Staying (members_next named types cause pool vs)
  members_stays types cause pool [] s = same s
  members_stays types cause pool (v ∷ vs) s = λ i.
      taken_out_stays types cause pool (slice_index_or (v ∷ vs) i named.null) (look s.heap (slice_index_or (v ∷ vs) i named.null)) s

  item_leave_stays : (types : List TypeDefinition) (m : ℕ) (item : Item) (what : Owned) → Staying (item_leave_next named types m item what)
  item_leave_stays types m item (declared x) s = same s
  item_leave_stays types m item (collection access pool) s = members_stays types (Leaving m item.number) pool (members s.heap item.number) s
  item_leave_stays types m item (record_object t) s = members_stays types (Leaving m item.number) None (members s.heap item.number) s
  item_leave_stays types m item (storage_pool declaration number) s = same s

  master_leave_stays : (types : List TypeDefinition) (mode : Mode) (m : ℕ) (items : List Item) → Staying (master_leave_next named types mode m items)
  master_leave_stays types mode m [] s = same s
  master_leave_stays types mode m (item ∷ items) s = item_leave_stays types m item item.owned (at (frame.Leaves mode ∷ s.control) s)

  pub leave_stays : (types : List TypeDefinition) (mode : Mode) (ms : List Master) → Staying (leave_next named types mode ms)
  leave_stays types mode [] s = tt
  leave_stays types mode (m ∷ ms) s = master_leave_stays types mode m.number m.items s
