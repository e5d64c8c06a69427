-- Each step that leaves no master.

use Rattle.std.proofs.Common.{◌≡◌, ℕ, ◌+◌, ℤ, Bool, true, false, ◌==◌, if◌then◌else◌, List, [], ◌∷◌, map, Option, Some, None, Result, Ok, Err, refl, ◌⊎◌, inl, inr}
use Rattle.std.specs.Prelude.{int_le}
use Rattle.std.specs.List.{slice_get}
use Rattle.ada_program.specs.declared.program.TypeDefinition.{TypeDefinition}
use Rattle.ada_program.specs.Form.{RecordPathForm, ActualForm, in_value, in_null, in_access, in_record, in_out_path, in_out_access, in_out_component, in_out_record, ExpressionForm, integer, boolean, reads, is_null, applied_to, chained, LinksForm, no_more_links, a_link, ItemForm, null_item, item_of_path, item_of_value, item_of_record, RightForm, nothing, value_of, allocates, allocates_default, computes, StmtForm, skips, assigns, assigns_record, frees, gets, writes, writes_text, chooses, repeats, counts, exits, calls, raises, encloses, StmtsForm, no_stmts, a_stmt, BranchesForm, otherwise, a_branch, HandlersForm, DeclarationForm, creates_pool, collects, declares, declares_record}
use Rattle.ada_program.specs.Form as form
use Rattle.ada_program.specs.ProgramForm.{BodyForm}
use Rattle.ada_program.specs.declared.program.Exception.{Exception}
use Rattle.ada_program.specs.Controlled.{shapes_of, operations_of, procedure_number}
use Rattle.ada_parts.specs.declared.tasks.Direction.TheVariants.{PartsFirst, WholeFirst}
use Rattle.ada_parts.specs.declared.tasks.Next.{Next as Follows}
use Rattle.ada_parts.specs.declared.tasks.Next.TheVariants.{Done, Pick, Perform}
use Rattle.ada_parts.specs.Part.{Part}
use Rattle.ada_parts.specs.Task.{Task, performs, performed, next as task_next}
use Rattle.ada_program.specs.Typed.{words_of, width_of, pool_named}
use Rattle.ada_values.specs.declared.operator.BinaryOperator.{BinaryOperator}
use Rattle.ada_values.specs.declared.fault.OperatorFault.{OperatorFault}
use Rattle.ada_values.specs.declared.fault.OperatorFault.TheVariants.{Overflow, DivisionByZero, WrongType}
use Rattle.ada_meaning.specs.declared.state.Place.{Place}
use Rattle.ada_meaning.specs.declared.state.Value.{Value}
use Rattle.ada_meaning.specs.declared.state.Value.TheVariants.{Null}
use Rattle.ada_meaning.specs.declared.state.Mode.{Mode}
use Rattle.ada_meaning.specs.declared.state.Mode.TheVariants.{Running, Raising, Exiting, Returning}
use Rattle.ada_meaning.specs.declared.event.Birth.{Birth}
use Rattle.ada_meaning.specs.declared.event.Birth.TheVariants.{Creation, Copy, Adjustment}
use Rattle.ada_meaning.specs.declared.event.Cause.{Cause}
use Rattle.ada_meaning.specs.declared.event.Cause.TheVariants.{Leaving, Freeing, Assigning, Undoing}
use Rattle.ada_meaning.specs.declared.event.Halt.TheVariants.{Erroneous, Stuck}
use Rattle.ada_meaning.specs.declared.event.Why.TheVariants.{GivesElsewhere, FinalizesTwice}
use Rattle.ada_meaning.specs.Event.{Finalized, Followed, Quiet}
use Rattle.ada_meaning.specs.Frame.{Treatment, Frame, Landing, passes_on, goes_behind, goes_in, breaks_off, escapes, landing}
use Rattle.ada_meaning.specs.Frame as frame
use Rattle.ada_meaning.specs.State.{declared, collection, record_object, storage_pool, Master, Destination, home_of, pools_in, pool_for, pool_freed_to}
use Rattle.ada_meaning.specs.Heap.{PartState, Cell, Found, on_null, on_gone, on_other, finds}
use Rattle.ada_meaning.specs.Step.{older, picked_task, direction_of, all_tasks, treating, treated_on, operation_next, part_reference, beginning, born_next, begun_next, awaited_next, ended_next, finalized_next, performed_next, treats_next, freeing, freeing_next, made, undo_next, broken_next, broken_off, moves, picks, record_in, newest_ones, without_newest, copied_next, copies_next, record_target_next, record_stored_next, store_record_next, assigns_next, copy_next, record_assign_next, has_parts, record_tasks, record_next, halts, at, popped, held, newest, reading, component_next, follow_next, path_next, selected, named_next, holder_next, place_in, record_holder_next, referred_next, refers_next, open_next, opened_next, opens_next, storing, expression_next, null_test_next, is_decided, link_next, links_next, outcome_next, item_next, items_next, answered, new_next, right_next, free_next, end_next, same_pool, told_back, given_back, back_next, before_last, last_of, assign_next, target_next, stored_next, store_next, received_next, receive_next, frees_next, freed_next, free_component_next, free_in_next, branches_next, decided_next, turn_next, repeats_next, turned_next, count_turn_next, counts_next, ranges_next, gets_next, exit_next, exited_next, computing, call_next, stmt_next, stmts_next, line_next, declaration_next, declarations_next, frame_next, landed, unwound, pass_next, jump_next}
use Rattle.ada_meaning.specs.Named.{same, finalize, Object, State, Next, named, whole, part_base, inside, look, lent, standing, reads_boolean, reads_null, reads_integer, unary_given, binary_given}
use Rattle.ada_meaning.specs.Run.{Event}
use Rattle.ada_meaning.specs.Law.{AtItem, left_by}
use Rattle.ada_meaning.proofs.Jumps.{unwound_to, unwound_by}
use Rattle.ada_order.proofs.Controls.{NoLeaving, Elaborating, Plain, Going, plainly, leaving, treating_plain, plain_owning, leaves_another, WorkOn, stays, numbers, owns, enters, Does}

-- A jump is on its way.
abbrev pub IsJump : Mode → Type 0
IsJump Running = ⊥
IsJump mode = Unit {0}

module _ (seen : Option AtItem) (types : List TypeDefinition) where
  -- A step of this state that leaves no master.
  abbrev pub Works : State → Next → Type 0
  Works s coming = Does (WorkOn seen types s.masters s.next) coming

  -- What stays plain: the actual parameters of a call, and the components that get something back behind its body.
  computing_is_plain : (actuals : List ActualForm) (k : List (Frame Value)) (ms : List Master) → Plain seen k ms → Plain seen (computing named actuals k) ms
  computing_is_plain [] k ms p = p
  computing_is_plain (in_value e ∷ rest) k ms p = (tt, computing_is_plain rest k ms p)
  computing_is_plain (in_null ∷ rest) k ms p = (tt, computing_is_plain rest k ms p)
  computing_is_plain (in_access path ∷ rest) k ms p = (tt, computing_is_plain rest k ms p)
  computing_is_plain (in_record r ∷ rest) k ms p = (tt, computing_is_plain rest k ms p)
  computing_is_plain (in_out_path path ∷ rest) k ms p = (tt, computing_is_plain rest k ms p)
  computing_is_plain (in_out_access path ∷ rest) k ms p = (tt, computing_is_plain rest k ms p)
  computing_is_plain (in_out_component path ∷ rest) k ms p = (tt, computing_is_plain rest k ms p)
  computing_is_plain (in_out_record r ∷ rest) k ms p = (tt, computing_is_plain rest k ms p)

  storing_is_plain : (references : List Value) (k : List (Frame Value)) (ms : List Master) → Plain seen k ms → Plain seen (storing named references k) ms
  storing_is_plain [] k ms p = p
  storing_is_plain (r ∷ rs) k ms p = (tt, storing_is_plain rs k ms p)

  -- Paths and expressions.
  reading_works : (cs : List ℕ) (v : Value) (e : Event) (s : State) → left_by e ≡ None → Plain seen s.control s.masters → WorkOn seen types s.masters s.next None e (reading named cs v s)
  reading_works [] v e s h p = stays tt h (plainly p) refl refl
  reading_works (c ∷ cs) v e s h p = stays tt h (plainly (tt, p)) refl refl

  component_works : (v : Value) (cs : List ℕ) (found : Option Value) (s : State) → Plain seen s.control s.masters → Works s (component_next named v cs found s)
  component_works v cs None s p = tt
  component_works v cs (Some u) s p = reading_works cs u _ s refl p

  follow_works : (v : Value) (c : ℕ) (cs : List ℕ) (found : Found (Cell Value)) (s : State) → Plain seen s.control s.masters → Works s (follow_next named v c cs found s)
  follow_works v c cs on_null s p = stays tt refl (plainly p) refl refl
  follow_works v c cs on_gone s p = tt
  follow_works v c cs on_other s p = tt
  follow_works v c cs (finds cell) s p = component_works v cs (slice_get cell.values c) s p

  path_works : (cs : List ℕ) (v : Value) (s : State) → Plain seen s.control s.masters → Works s (path_next named cs v s)
  path_works [] v s p = stays tt refl (plainly p) refl refl
  path_works (c ∷ cs) v s p = follow_works v c cs (look s.heap v) s p

  -- Where a path begins.
  named_works : (cs : List ℕ) (x : ℕ) (s : State) → Plain seen s.control s.masters → Works s (named_next named cs x s)
  named_works cs x s p = path_works (selected named (held named s x) cs) (whole (held named s x)) s p

  holder_works : (c : ℕ) (cs : List ℕ) (x : ℕ) (frame_of : ℕ → Frame Value) (s : State) → ((n : ℕ) → Plain seen (frame_of n ∷ s.control) s.masters) → Works s (holder_next named c cs x frame_of s)
  holder_works c cs x frame_of s p =
      path_works (before_last (inside (held named s x) c) cs) (whole (held named s x))
      (at (frame_of (last_of (inside (held named s x) c) cs) ∷ s.control) s) (p (last_of (inside (held named s x) c) cs))

  record_holder_works : (r : RecordPathForm) (frame_of : Place → Frame Value) (s : State) → ((place : Place) → Plain seen (frame_of place ∷ s.control) s.masters) → Works s (record_holder_next named r frame_of s)
  record_holder_works r frame_of s p =
      path_works (selected named (held named s r.object.root) r.object.selectors) (whole (held named s r.object.root))
      (at (frame_of (place_in named (held named s r.object.root) r.object.selectors r) ∷ s.control) s)
      (p (place_in named (held named s r.object.root) r.object.selectors r))

  expression_works : (e : ExpressionForm) (s : State) → Plain seen s.control s.masters → Works s (expression_next named e s)
  expression_works (integer i) s p = stays tt refl (plainly p) refl refl
  expression_works (boolean b) s p = stays tt refl (plainly p) refl refl
  expression_works (reads path) s p = named_works path.selectors path.root s p
  expression_works (is_null equal path) s p = named_works path.selectors path.root (at (frame.TestsNull equal ∷ s.control) s) (tt, p)
  expression_works (applied_to operator e) s p = stays tt refl (plainly (tt, (tt, p))) refl refl
  expression_works (chained e links) s p = stays tt refl (plainly (tt, (tt, p))) refl refl

  null_test_works : (equal : Bool) (null : Option Bool) (s : State) → Plain seen s.control s.masters → Works s (null_test_next named equal null s)
  null_test_works equal None s p = tt
  null_test_works true (Some null) s p = stays tt refl (plainly p) refl refl
  null_test_works false (Some null) s p = stays tt refl (plainly p) refl refl

  link_works : (decided : Bool) (operator : BinaryOperator) (e : ExpressionForm) (links : LinksForm) (s : State) → Plain seen s.control s.masters → Works s (link_next named decided operator e links s)
  link_works true operator e links s p = stays tt refl (plainly (tt, p)) refl refl
  link_works false operator e links s p = stays tt refl (plainly (tt, (tt, (tt, p)))) refl refl

  links_work : (links : LinksForm) (s : State) → Plain seen s.control s.masters → Works s (links_next named links s)
  links_work no_more_links s p = stays tt refl (plainly p) refl refl
  links_work (a_link operator e links) s p = link_works (is_decided named operator (reads_boolean (newest named s))) operator e links s p

  outcome_works : (outcome : Result Value OperatorFault) (s : State) → Plain seen s.control s.masters → Works s (outcome_next named outcome s)
  outcome_works (Ok v) s p = stays tt refl (plainly p) refl refl
  outcome_works (Err Overflow) s p = stays tt refl (plainly p) refl refl
  outcome_works (Err DivisionByZero) s p = stays tt refl (plainly p) refl refl
  outcome_works (Err WrongType) s p = tt

  -- Allocators, and what is assigned.
  item_works : (item : ItemForm) (s : State) → Plain seen s.control s.masters → Works s (item_next named item s)
  item_works null_item s p = stays tt refl (plainly p) refl refl
  item_works (item_of_path path) s p = named_works path.selectors path.root s p
  item_works (item_of_value e) s p = stays tt refl (plainly (tt, p)) refl refl
  item_works (item_of_record r) s p = record_holder_works r (λ place. frame.Copies place.component r.record_type) s (λ place. (tt, p))

  items_work : (items : List ItemForm) (s : State) → Plain seen s.control s.masters → Works s (items_next named items s)
  items_work [] s p = stays tt refl (plainly p) refl refl
  items_work (i ∷ is) s p = item_works i (at (frame.Fills is ∷ s.control) s) (tt, p)

  -- A record that is copied.
  copied_works : (o : Value) (found : Option (List Value)) (s : State) → Plain seen s.control s.masters → Works s (copied_next named o found s)
  copied_works o None s p = tt
  copied_works o (Some vs) s p = stays tt refl (plainly p) refl refl

  copies_work : (o : Value) (first count : ℕ) (found : Found (Cell Value)) (s : State) → Plain seen s.control s.masters → Works s (copies_next named o first count found s)
  copies_work o first count on_null s p = stays tt refl (plainly p) refl refl
  copies_work o first count on_gone s p = tt
  copies_work o first count on_other s p = tt
  copies_work o first count (finds cell) s p = copied_works o (record_in cell.values first count) s p

  answered_works :
      (access count words : ℕ) (home : Destination) (s : State) (granted : Bool) → Plain seen s.control s.masters
      → WorkOn seen types s.masters s.next None Quiet (answered named types access count words home s granted)
  answered_works access count words home s true p =
      stays tt refl (plainly (treating_plain seen _ (frame.begins Creation []) (all_tasks types access PartsFirst) s.control s.masters tt p)) refl refl
  answered_works access count words home s false p = stays tt refl (plainly p) refl refl

  new_works : (access count words : ℕ) (home : Option Destination) (s : State) → Plain seen s.control s.masters → Works s (new_next named types access count words home s)
  new_works access count words None s p = stays tt refl (plainly p) refl refl
  new_works access count words (Some home) s p = λ granted. answered_works access count words home s granted p

  right_works : (right : RightForm) (s : State) → Plain seen s.control s.masters → Works s (right_next named types right s)
  right_works nothing s p = stays tt refl (plainly p) refl refl
  right_works (value_of path) s p = named_works path.selectors path.root s p
  right_works (allocates access items) s p = stays tt refl (plainly (tt, (tt, p))) refl refl
  right_works (allocates_default access) s p = stays tt refl (plainly (tt, p)) refl refl
  right_works (computes e) s p = stays tt refl (plainly (tt, p)) refl refl

  -- Free, and what it leads to.
  freeing_works :
      (access : ℕ) (v : Value) (cell : Cell Value) (clears : Frame Value) (e : Event) (s : State) → left_by e ≡ None
      → Plain seen (clears ∷ s.control) s.masters → Works s (freeing_next named types access v cell clears e s)
  freeing_works access v cell clears e s tells p = by_pool (same_pool (Some (pool_freed_to (home_of access s.masters))) cell.home.pool)
    where
      by_pool : (own : Bool) → Works s (if own then moves e (freeing named types access v cell clears s) else halts (Erroneous GivesElsewhere))
      by_pool true =
          numbers tt tells
          (plainly (treating_plain seen v (frame.ends (Freeing s.next)) (all_tasks types cell.access WholeFirst) _ s.masters tt (tt, (tt, p)))) refl refl
      by_pool false = tt

  free_works : (access x : ℕ) (v : Value) (found : Found (Cell Value)) (s : State) → Plain seen s.control s.masters → Works s (free_next named types access x v found s)
  free_works access x v on_null s p = stays tt refl (plainly p) refl refl
  free_works access x v on_gone s p = tt
  free_works access x v on_other s p = tt
  free_works access x v (finds cell) s p = freeing_works access v cell (frame.Clears x) Quiet s refl (tt, p)

  end_works : (v : Value) (found : Found (Cell Value)) (s : State) → Plain seen s.control s.masters → Works s (end_next named v found s)
  end_works v on_null s p = tt
  end_works v on_gone s p = tt
  end_works v on_other s p = tt
  end_works v (finds cell) s p = stays tt refl (plainly p) refl refl

  told_works : (pool : Option ℕ) (v : Value) (e : Event) (s : State) (h : List Object) → left_by e ≡ None → Plain seen s.control s.masters → Works s (told_back named pool v e (record s { heap = h }))
  told_works None v e s h tells p = stays tt tells (plainly p) refl refl
  told_works (Some pool) v e s h tells p = stays tt tells (plainly p) refl refl

  given_works : (fits : Bool) (v : Value) (cause : Cause) (pool : Option ℕ) (cell : Cell Value) (s : State) → NoLeaving (frame.ends cause) → Plain seen s.control s.masters → Works s (if fits then given_back named v cause cell s else halts (Erroneous GivesElsewhere))
  given_works true v (Leaving m i) pool cell s is p = absurd is
  given_works true v (Freeing number) pool cell s is p = told_works cell.home.pool v _ s _ refl p
  given_works true v (Assigning number) pool cell s is p = told_works cell.home.pool v _ s _ refl p
  given_works true v (Undoing number) pool cell s is p = told_works cell.home.pool v _ s _ refl p
  given_works false v cause pool cell s is p = tt

  back_works : (v : Value) (cause : Cause) (pool : Option ℕ) (found : Found (Cell Value)) (s : State) → NoLeaving (frame.ends cause) → Plain seen s.control s.masters → Works s (back_next named v cause pool found s)
  back_works v cause pool on_null s is p = tt
  back_works v cause pool on_gone s is p = tt
  back_works v cause pool on_other s is p = tt
  back_works v cause pool (finds cell) s is p = given_works (same_pool pool cell.home.pool) v cause pool cell s is p

  -- The body of an operation begins.
  operation_works :
      (procedure : ℕ) (b : Option BodyForm) (reference : Value) (behind : List (Frame Value)) (e : Event) (s : State) → left_by e ≡ None
      → Plain seen behind s.masters → Works s (operation_next named procedure b reference behind e s)
  operation_works procedure None reference behind e s tells p = tt
  operation_works procedure (Some b) reference behind e s tells p = enters tt tells (plainly (tt, (tt, p))) refl refl

  -- The treatment of an object, but at a leaving.
  born_works :
      (v : Value) (by : Birth) (done : List Part) (of part : ℕ) (tasks : List Task) (state : Option PartState) (s : State)
      → Plain seen s.control s.masters → Works s (born_next named v by done of part tasks state s)
  born_works v by done of part tasks None s p = tt
  born_works v by done of part tasks (Some state) s p = stays tt refl (plainly (treating_plain seen v _ tasks s.control s.masters tt p)) refl refl

  begun_works :
      (bodies : List BodyForm) (v : Value) (by : Birth) (done : List Part) (of part : ℕ) (tasks : List Task) (operation : Option ℕ)
      (state : Option PartState) (s : State) → Plain seen s.control s.masters
      → Works s (begun_next named bodies v by done of part tasks operation state s)
  begun_works bodies v by done of part tasks operation None s p = tt
  begun_works bodies v by done of part tasks None (Some state) s p = born_works v by done of part tasks (Some state) s p
  begun_works bodies v by done of part tasks (Some procedure) (Some state) s p =
      operation_works procedure (slice_get bodies procedure) (part_reference named v part state) (frame.Awaits v by done of part tasks ∷ s.control) Quiet s
      refl (tt, p)

  awaited_works :
      (v : Value) (by : Birth) (done : List Part) (of part : ℕ) (tasks : List Task) (found : Found (Cell Value)) (s : State)
      → Plain seen s.control s.masters → Works s (awaited_next named v by done of part tasks found s)
  awaited_works v by done of part tasks on_null s p = tt
  awaited_works v by done of part tasks on_gone s p = tt
  awaited_works v by done of part tasks on_other s p = tt
  awaited_works v by done of part tasks (finds cell) s p = born_works v by done of part tasks (slice_get cell.parts part) s p

  ended_works :
      (bodies : List BodyForm) (v : Value) (part : ℕ) (state : PartState) (behind : List (Frame Value)) (operation : Option ℕ) (e : Event) (s : State)
      → left_by e ≡ None → Plain seen behind s.masters → Works s (ended_next named bodies v part state behind operation e s)
  ended_works bodies v part state behind None e s tells p = stays tt tells (plainly p) refl refl
  ended_works bodies v part state behind (Some procedure) e s tells p =
      operation_works procedure (slice_get bodies procedure) (part_reference named v part state) (frame.Confines ∷ behind) e s tells (tt, inl p)

  finalized_works :
      (bodies : List BodyForm) (v : Value) (cause : Cause) (of part : ℕ) (tasks : List Task) (operation : Option ℕ) (state : Option PartState) (s : State)
      → NoLeaving (frame.ends cause) → Plain seen s.control s.masters
      → Works s (finalized_next named bodies v cause of part tasks operation state s)
  finalized_works bodies v cause of part tasks operation None s is p = tt
  finalized_works bodies v cause of part tasks operation (Some state) s is p = by_life state.alive
    where
      behind : List (Frame Value)
      behind = treating v (frame.ends cause) tasks s.control

      event : Event
      event = Finalized v part state.turn of state.number cause

      untold : (cause : Cause) → NoLeaving (frame.ends cause) → left_by (Finalized v part state.turn of state.number cause) ≡ None
      untold (Leaving m i) is = absurd is
      untold (Freeing number) is = refl
      untold (Assigning number) is = refl
      untold (Undoing number) is = refl

      by_life :
          (alive : Bool)
          → Works s
          (if alive then ended_next named bodies v part state behind operation event (record s { heap = finalize s.heap v part })
          else halts (Erroneous FinalizesTwice))
      by_life true =
          ended_works bodies v part state behind operation event (record s { heap = finalize s.heap v part }) (untold cause is)
          (treating_plain seen v (frame.ends cause) tasks s.control s.masters is p)
      by_life false = tt

  performed_works :
      (bodies : List BodyForm) (v : Value) (treatment : Treatment) (of part : ℕ) (tasks : List Task) (found : Found (Cell Value)) (s : State)
      → NoLeaving treatment → Plain seen s.control s.masters → Works s (performed_next named types bodies v treatment of part tasks found s)
  performed_works bodies v treatment of part tasks on_null s is p = tt
  performed_works bodies v treatment of part tasks on_gone s is p = tt
  performed_works bodies v treatment of part tasks on_other s is p = tt
  performed_works bodies v (frame.begins by done) of part tasks (finds cell) s is p =
      begun_works bodies v by done of part tasks (beginning by (operations_of types of)) (slice_get cell.parts part) s p
  performed_works bodies v (frame.ends cause) of part tasks (finds cell) s is p =
      finalized_works bodies v cause of part tasks (procedure_number (operations_of types of).finalize) (slice_get cell.parts part) s is p

  picked_works :
      (none : Bool) (count : ℕ) (taking : ℕ → State) (s : State) → ((i : ℕ) → WorkOn seen types s.masters s.next None Quiet (taking i))
      → Works s (if none then halts Stuck else picks count taking)
  picked_works true count taking s each = tt
  picked_works false count taking s each = each

  treats_work :
      (bodies : List BodyForm) (v : Value) (treatment : Treatment) (tasks : List Task) (follows : Follows) (s : State) → NoLeaving treatment
      → Plain seen s.control s.masters → Works s (treats_next named types bodies v treatment tasks follows s)
  treats_work bodies v treatment tasks Done s is p = stays tt refl (plainly p) refl refl
  treats_work bodies v treatment tasks (Pick count) s is p =
      let left : ℕ → List Task = λ i. picked_task (shapes_of types) (direction_of treatment) tasks i in
      picked_works (count == 0) count (λ i. treated_on named v treatment (left i) s) s
      (λ i. stays tt refl (plainly (treating_plain seen v treatment (left i) s.control s.masters is p)) refl refl)
  treats_work bodies v treatment tasks (Perform of part) s is p =
      performed_works bodies v treatment of part (performed tasks) (look s.heap v) s is p

  -- Statements and declarations.
  assign_works : (cs : List ℕ) (x : ℕ) (right : RightForm) (s : State) → Plain seen s.control s.masters → Works s (assign_next named cs x right s)
  assign_works [] x right s p = stays tt refl (plainly (tt, (tt, p))) refl refl
  assign_works (c ∷ cs) x right s p = holder_works c cs x (λ last. frame.Targets last right) s (λ n. (tt, p))

  target_works : (o : Value) (c : ℕ) (right : RightForm) (found : Found (Cell Value)) (s : State) → Plain seen s.control s.masters → Works s (target_next named o c right found s)
  target_works o c right on_null s p = stays tt refl (plainly p) refl refl
  target_works o c right on_gone s p = tt
  target_works o c right on_other s p = tt
  target_works o c right (finds cell) s p = stays tt refl (plainly (tt, (tt, p))) refl refl

  stored_works : (o : Value) (c : ℕ) (v : Value) (before : Option Value) (s : State) → Plain seen s.control s.masters → Works s (stored_next named o c v before s)
  stored_works o c v None s p = tt
  stored_works o c v (Some before) s p = stays tt refl (plainly p) refl refl

  store_works : (o : Value) (c : ℕ) (v : Value) (found : Found (Cell Value)) (s : State) → Plain seen s.control s.masters → Works s (store_next named o c v found s)
  store_works o c v on_null s p = tt
  store_works o c v on_gone s p = tt
  store_works o c v on_other s p = tt
  store_works o c v (finds cell) s p = stored_works o c v (slice_get cell.values c) s p

  -- A record that is assigned to.
  record_target_works : (o : Value) (first count : ℕ) (items : List ItemForm) (found : Found (Cell Value)) (s : State) → Plain seen s.control s.masters → Works s (record_target_next named o first count items found s)
  record_target_works o first count items on_null s p = stays tt refl (plainly p) refl refl
  record_target_works o first count items on_gone s p = tt
  record_target_works o first count items on_other s p = tt
  record_target_works o first count items (finds cell) s p = stays tt refl (plainly (tt, (tt, p))) refl refl

  record_stored_works : (o : Value) (first : ℕ) (vs : List Value) (before : Option (List Value)) (s : State) → Plain seen s.control s.masters → Works s (record_stored_next named o first vs before s)
  record_stored_works o first vs None s p = tt
  record_stored_works o first vs (Some before) s p = stays tt refl (plainly p) refl refl

  store_record_works : (o : Value) (first count : ℕ) (found : Found (Cell Value)) (s : State) → Plain seen s.control s.masters → Works s (store_record_next named o first count found s)
  store_record_works o first count on_null s p = tt
  store_record_works o first count on_gone s p = tt
  store_record_works o first count on_other s p = tt
  store_record_works o first count (finds cell) s p =
      record_stored_works o first (newest_ones named count s) (record_in cell.values first count) (without_newest named count s) p

  frees_work : (cs : List ℕ) (access x : ℕ) (s : State) → Plain seen s.control s.masters → Works s (frees_next named types cs access x s)
  frees_work [] access x s p = free_works access x (held named s x) (standing s.heap (held named s x)) s p
  frees_work (c ∷ cs) access x s p = holder_works c cs x (λ last. frame.FreesIn access last) s (λ n. (tt, p))

  freed_works :
      (access : ℕ) (o : Value) (c : ℕ) (v : Value) (found : Found (Cell Value)) (s : State) → Plain seen s.control s.masters
      → Works s (freed_next named types access o c v found s)
  freed_works access o c v on_null s p = stays tt refl (plainly p) refl refl
  freed_works access o c v on_gone s p = tt
  freed_works access o c v on_other s p = tt
  freed_works access o c v (finds cell) s p = freeing_works access v cell (frame.ClearsIn o c) (Followed o) s refl (tt, p)

  free_component_works :
      (access : ℕ) (o : Value) (c : ℕ) (before : Option Value) (s : State) → Plain seen s.control s.masters
      → Works s (free_component_next named types access o c before s)
  free_component_works access o c None s p = tt
  free_component_works access o c (Some v) s p = freed_works access o c v (standing s.heap v) s p

  free_in_works :
      (access : ℕ) (o : Value) (c : ℕ) (found : Found (Cell Value)) (s : State) → Plain seen s.control s.masters
      → Works s (free_in_next named types access o c found s)
  free_in_works access o c on_null s p = stays tt refl (plainly p) refl refl
  free_in_works access o c on_gone s p = tt
  free_in_works access o c on_other s p = tt
  free_in_works access o c (finds cell) s p = free_component_works access o c (slice_get cell.values c) s p

  branches_work : (branches : BranchesForm) (s : State) → Plain seen s.control s.masters → Works s (branches_next named branches s)
  branches_work (otherwise fs) s p = stays tt refl (plainly (tt, p)) refl refl
  branches_work (a_branch e fs branches) s p = stays tt refl (plainly (tt, (tt, p))) refl refl

  decided_works : (fs : StmtsForm) (branches : BranchesForm) (truth : Option Bool) (s : State) → Plain seen s.control s.masters → Works s (decided_next named fs branches truth s)
  decided_works fs branches None s p = tt
  decided_works fs branches (Some true) s p = stays tt refl (plainly (tt, p)) refl refl
  decided_works fs branches (Some false) s p = branches_work branches s p

  turn_works : (condition : Option ExpressionForm) (fs : StmtsForm) (s : State) → Plain seen s.control s.masters → Works s (turn_next named condition fs s)
  turn_works condition no_stmts s p = tt
  turn_works condition (a_stmt f fs) s p = stays tt refl (plainly (tt, (tt, p))) refl refl

  repeats_work : (condition : Option ExpressionForm) (fs : StmtsForm) (s : State) → Plain seen s.control s.masters → Works s (repeats_next named condition fs s)
  repeats_work None fs s p = turn_works None fs s p
  repeats_work (Some e) fs s p = stays tt refl (plainly (tt, (tt, p))) refl refl

  turned_works : (e : ExpressionForm) (fs : StmtsForm) (truth : Option Bool) (s : State) → Plain seen s.control s.masters → Works s (turned_next named e fs truth s)
  turned_works e fs None s p = tt
  turned_works e fs (Some true) s p = turn_works (Some e) fs s p
  turned_works e fs (Some false) s p = stays tt refl (plainly p) refl refl

  count_turn_works : (x : ℕ) (value last : ℤ) (fs : StmtsForm) (s : State) → Plain seen s.control s.masters → Works s (count_turn_next named x value last fs s)
  count_turn_works x value last no_stmts s p = tt
  count_turn_works x value last (a_stmt f fs) s p = stays tt refl (plainly (tt, (tt, p))) refl refl

  counting_works : (more : Bool) (x : ℕ) (value last : ℤ) (fs : StmtsForm) (s : State) → int_le value last ≡ more → Plain seen s.control s.masters → Works s (counts_next named x value last fs s)
  counting_works true x value last fs s is p = rw is (count_turn_works x value last fs s p)
  counting_works false x value last fs s is p = rw is (stays tt refl (plainly p) refl refl)

  counts_work : (x : ℕ) (value last : ℤ) (fs : StmtsForm) (s : State) → Plain seen s.control s.masters → Works s (counts_next named x value last fs s)
  counts_work x value last fs s p = counting_works (int_le value last) x value last fs s refl p

  ranges_work : (x : ℕ) (fs : StmtsForm) (low high : Option ℤ) (s : State) → Plain seen s.control s.masters → Works s (ranges_next named x fs low high s)
  ranges_work x fs None high s p = tt
  ranges_work x fs (Some low) None s p = tt
  ranges_work x fs (Some low) (Some high) s p = counts_work x low high fs s p

  gets_work : (cs : List ℕ) (x : ℕ) (input : List ℤ) (s : State) → Plain seen s.control s.masters → Works s (gets_next named cs x input s)
  gets_work (c ∷ cs) x input s p = holder_works c cs x (λ last. frame.Receives last) s (λ n. (tt, p))
  gets_work [] x [] s p = stays tt refl (plainly p) refl refl
  gets_work [] x (i ∷ is) s p = stays tt refl (plainly p) refl refl

  received_works : (o : Value) (c : ℕ) (input : List ℤ) (before : Option Value) (s : State) → Plain seen s.control s.masters → Works s (received_next named o c input before s)
  received_works o c input None s p = tt
  received_works o c [] (Some before) s p = stays tt refl (plainly p) refl refl
  received_works o c (i ∷ is) (Some before) s p = stays tt refl (plainly p) refl refl

  receive_works : (o : Value) (c : ℕ) (found : Found (Cell Value)) (s : State) → Plain seen s.control s.masters → Works s (receive_next named o c found s)
  receive_works o c on_null s p = stays tt refl (plainly p) refl refl
  receive_works o c on_gone s p = tt
  receive_works o c on_other s p = tt
  receive_works o c (finds cell) s p = received_works o c s.input (slice_get cell.values c) s p

  exit_works : (condition : Option ExpressionForm) (s : State) → Plain seen s.control s.masters → Works s (exit_next named condition s)
  exit_works None s p = stays tt refl (plainly p) refl refl
  exit_works (Some e) s p = stays tt refl (plainly (tt, (tt, p))) refl refl

  exited_works : (truth : Option Bool) (s : State) → Plain seen s.control s.masters → Works s (exited_next named truth s)
  exited_works None s p = tt
  exited_works (Some true) s p = stays tt refl (plainly p) refl refl
  exited_works (Some false) s p = stays tt refl (plainly p) refl refl

  -- What is passed by reference, and the components that get something back.
  referred_works : (o : Value) (place : Place) (found : Option (List Value)) (s : State) → Plain seen s.control s.masters → Works s (referred_next named o place found s)
  referred_works o place None s p = tt
  referred_works o place (Some vs) s p = stays tt refl (plainly p) refl refl

  refers_work : (o : Value) (place : Place) (count : ℕ) (found : Found (Cell Value)) (s : State) → Plain seen s.control s.masters → Works s (refers_next named o place count found s)
  refers_work o place count on_null s p = stays tt refl (plainly p) refl refl
  refers_work o place count on_gone s p = tt
  refers_work o place count on_other s p = tt
  refers_work o place count (finds cell) s p = referred_works o place (record_in cell.values place.component count) s p

  open_works : (cs : List ℕ) (x : ℕ) (s : State) → Plain seen s.control s.masters → Works s (open_next named cs x s)
  open_works [] x s p = tt
  open_works (c ∷ cs) x s p = holder_works c cs x frame.OpensIn s (λ n. (tt, p))

  opened_works : (o : Value) (c : ℕ) (found : Option Value) (s : State) → Plain seen s.control s.masters → Works s (opened_next named o c found s)
  opened_works o c None s p = tt
  opened_works o c (Some v) s p = stays tt refl (plainly p) refl refl

  opens_work : (o : Value) (c : ℕ) (found : Found (Cell Value)) (s : State) → Plain seen s.control s.masters → Works s (opens_next named o c found s)
  opens_work o c on_null s p = stays tt refl (plainly p) refl refl
  opens_work o c on_gone s p = tt
  opens_work o c on_other s p = tt
  opens_work o c (finds cell) s p = opened_works o c (slice_get cell.values c) s p

  -- A call: its actual parameters are evaluated before its body begins.
  call_works : (procedure : ℕ) (actuals : List ActualForm) (body : Option BodyForm) (s : State) → Plain seen s.control s.masters → Works s (call_next named procedure actuals body s)
  call_works procedure actuals None s p = tt
  call_works procedure actuals (Some b) s p = stays tt refl (plainly (computing_is_plain actuals _ s.masters (tt, p))) refl refl

  -- A record that has controlled parts is assigned to another: under a number that is used up.
  copy_works : (target : RecordPathForm) (items : List ItemForm) (s : State) → Plain seen s.control s.masters → Works s (copy_next named target items s)
  copy_works target [] s p = tt
  copy_works target (null_item ∷ items) s p = tt
  copy_works target (item_of_path path ∷ items) s p = tt
  copy_works target (item_of_value e ∷ items) s p = tt
  copy_works target (item_of_record source ∷ []) s p = stays tt refl (plainly (tt, (tt, (tt, p)))) refl refl
  copy_works target (item_of_record source ∷ item ∷ items) s p = tt

  record_assign_works : (parts : Bool) (target : RecordPathForm) (items : List ItemForm) (s : State) → Plain seen s.control s.masters → Works s (record_assign_next named parts target items s)
  record_assign_works true target items s p = copy_works target items s p
  record_assign_works false target items s p =
      record_holder_works target (λ place. frame.TargetsRecord place.component target.record_type items) s (λ place. (tt, p))

  assigns_work : (t : ℕ) (target source : Value) (one : Option Bool) (s : State) → Plain seen s.control s.masters → Works s (assigns_next named types t target source one s)
  assigns_work t target source None s p = tt
  assigns_work t target source (Some true) s p = stays tt refl (plainly p) refl refl
  assigns_work t target source (Some false) s p =
      let adjusting = treating_plain seen (whole target) (frame.begins (Adjustment s.next) []) (record_tasks types t PartsFirst (part_base target)) s.control s.masters tt p in
      let tasks = record_tasks types t WholeFirst (part_base target) in
      numbers tt refl (plainly (treating_plain seen (whole target) (frame.ends (Assigning s.next)) tasks _ s.masters tt (tt, (tt, adjusting)))) refl refl

  stmt_works : (bodies : List BodyForm) (f : StmtForm) (s : State) → Plain seen s.control s.masters → Works s (stmt_next named types bodies f s)
  stmt_works bodies skips s p = stays tt refl (plainly p) refl refl
  stmt_works bodies (assigns target right) s p = assign_works target.selectors target.root right s p
  stmt_works bodies (assigns_record target items) s p =
      record_assign_works (has_parts types target.record_type) target items s p
  stmt_works bodies (frees access path) s p = frees_work path.selectors access path.root s p
  stmt_works bodies (gets target) s p = gets_work target.selectors target.root s.input s p
  stmt_works bodies (writes e) s p = stays tt refl (plainly (tt, (tt, p))) refl refl
  stmt_works bodies (writes_text text) s p = stays tt refl (plainly p) refl refl
  stmt_works bodies (chooses branches) s p = branches_work branches s p
  stmt_works bodies (repeats condition fs end_spot) s p = stays tt refl (plainly (tt, p)) refl refl
  stmt_works bodies (counts x low high fs end_spot) s p = stays tt refl (plainly (tt, (tt, (tt, p)))) refl refl
  stmt_works bodies (exits condition spot) s p = exit_works condition s p
  stmt_works bodies (calls procedure actuals) s p = call_works procedure actuals (slice_get bodies procedure) s p
  stmt_works bodies (form.returns spot) s p = stays tt refl (plainly p) refl refl
  stmt_works bodies (raises e) s p = stays tt refl (plainly p) refl refl
  stmt_works bodies (encloses ds fs hs) s p = enters tt refl (plainly (tt, p)) refl refl

  stmts_work : (bodies : List BodyForm) (fs : StmtsForm) (s : State) → Plain seen s.control s.masters → Works s (stmts_next named types bodies fs s)
  stmts_work bodies no_stmts s p = stays tt refl (plainly p) refl refl
  stmts_work bodies (a_stmt f fs) s p = stmt_works bodies f (at (frame.Does fs ∷ s.control) s) (tt, p)

  line_works : (read : Option ℤ) (s : State) → Plain seen s.control s.masters → Works s (line_next named read s)
  line_works None s p = tt
  line_works (Some i) s p = stays tt refl (plainly p) refl refl

  -- Declarations: the innermost master owns one thing more, which is not being left.
  record_made :
      (x t : ℕ) (by : Birth) (values : List Value) (s : State) → Elaborating s.control → Plain seen s.control s.masters
      → WorkOn seen types s.masters s.next None Quiet (made named types x t by values s)
  record_made x t by values s on p =
      owns (record_object t) tt tt refl
      (plainly (treating_plain seen _ (frame.begins by []) (all_tasks types t PartsFirst) s.control _ tt (plain_owning seen _ s.control s.masters on p))) refl refl

  record_works :
      (x t : ℕ) (initial : Option (List ItemForm)) (s : State) → Elaborating s.control → Plain seen s.control s.masters
      → Works s (record_next named types x t initial s)
  record_works x t None s on p = record_made x t Creation _ s on p
  record_works x t (Some items) s on p = stays tt refl (plainly (tt, (on, p))) refl refl

  declaration_works : (d : DeclarationForm) (s : State) → Elaborating s.control → Plain seen s.control s.masters → Works s (declaration_next named types d s)
  declaration_works (creates_pool pool) s on p =
      owns (storage_pool pool (pools_in s.masters + 1)) refl refl refl (plainly (plain_owning seen _ s.control s.masters on p)) refl refl
  declaration_works (collects access) s on p =
      owns (collection access (pool_for (pool_named types access) s.masters)) refl tt refl (plainly (plain_owning seen _ s.control s.masters on p)) refl refl
  declaration_works (declares x right) s on p = stays tt refl (plainly (tt, (on, p))) refl refl
  declaration_works (declares_record x t initial) s on p = record_works x t initial s on p

  declarations_work :
      (ds : List DeclarationForm) (fs : StmtsForm) (hs : HandlersForm) (s : State) → Plain seen s.control (older s.masters)
      → Works s (declarations_next named types ds fs hs s)
  declarations_work [] fs hs s p = stays tt refl (plainly (tt, (tt, (tt, p)))) refl refl
  declarations_work (d ∷ ds) fs hs s p = declaration_works d (at (frame.Elaborates ds fs hs ∷ s.control) s) tt (tt, p)

  -- The body of a Finalize has ended.
  confined_works : (s : State) → s.mode ≡ Running → Plain seen s.control s.masters ⊎ Going seen s.control s.masters → Works s (moves Quiet s)
  confined_works s runs (inl p) = stays tt refl (plainly p) refl refl
  confined_works s runs (inr g) = stays tt refl (leaving runs g) refl refl

  -- Each frame that is taken off at which no master is being left.
  pub frame_works :
      (bodies : List BodyForm) (f : Frame Value) (s : State) → s.mode ≡ Running → Plain seen (f ∷ s.control) s.masters
      → Works s (frame_next named types bodies f s)
  frame_works bodies (frame.Elaborates ds fs hs) s runs p = declarations_work ds fs hs s p.1
  frame_works bodies (frame.Does fs) s runs p = stmts_work bodies fs s p.1
  frame_works bodies (frame.Decides fs branches) s runs p = decided_works fs branches (reads_boolean (newest named s)) (popped s) p.1
  frame_works bodies (frame.Repeats condition fs) s runs p = repeats_work condition fs s p.1
  frame_works bodies (frame.Turns condition fs) s runs p = turned_works condition fs (reads_boolean (newest named s)) (popped s) p.1
  frame_works bodies (frame.Ranges x fs) s runs p = ranges_work x fs (reads_integer (newest named (popped s))) (reads_integer (newest named s)) (popped (popped s)) p.1
  frame_works bodies (frame.Counts x value last fs) s runs p = counts_work x value last fs s p.1
  frame_works bodies frame.Exits s runs p = exited_works (reads_boolean (newest named s)) (popped s) p.1
  frame_works bodies (frame.Handles hs) s runs p = stays tt refl (plainly p.1) refl refl
  frame_works bodies frame.Closes s runs p = stays tt refl (leaving runs (leaves_another seen s.masters _ p.1)) refl refl
  frame_works bodies (frame.Leaves mode) s runs p = absurd p
  frame_works bodies (frame.Calls procedure b actuals) s runs p = enters tt refl (plainly (tt, (tt, p.1))) refl refl
  frame_works bodies (frame.Returns actuals references) s runs p = stays tt refl (plainly (storing_is_plain references s.control s.masters p.1)) refl refl
  frame_works bodies (frame.Evaluates right) s runs p = right_works right s p.1
  frame_works bodies (frame.Computes e) s runs p = expression_works e s p.1
  frame_works bodies (frame.Follows cs) s runs p = path_works cs (newest named s) (popped s) p.1
  frame_works bodies (frame.TestsNull equal) s runs p = null_test_works equal (reads_null (newest named s)) (popped s) p.1
  frame_works bodies (frame.Refers r) s runs p = record_holder_works r (λ place. frame.RefersIn place r.record_type) s (λ place. (tt, p.1))
  frame_works bodies (frame.RefersIn place t) s runs p =
      refers_work (newest named s) place (width_of types t) (look s.heap (newest named s)) (popped s) p.1
  frame_works bodies (frame.Opens path) s runs p = open_works path.selectors path.root s p.1
  frame_works bodies (frame.OpensIn c) s runs p = opens_work (newest named s) c (look s.heap (newest named s)) (popped s) p.1
  frame_works bodies (frame.Continues links) s runs p = links_work links s p.1
  frame_works bodies (frame.Applies operator) s runs p = outcome_works (binary_given operator (newest named (popped s)) (newest named s)) (popped (popped s)) p.1
  frame_works bodies (frame.AppliesAlone operator) s runs p = outcome_works (unary_given operator (newest named s)) (popped s) p.1
  frame_works bodies (frame.Fills items) s runs p = items_work items s p.1
  frame_works bodies (frame.Copies first t) s runs p = copies_work (newest named s) first (width_of types t) (look s.heap (newest named s)) (popped s) p.1
  frame_works bodies (frame.Creates access count) s runs p = new_works access count (words_of types access) (home_of access s.masters) s p.1
  frame_works bodies (frame.Stores x) s runs p = stays tt refl (plainly p.1) refl refl
  frame_works bodies (frame.Targets c right) s runs p = target_works (newest named s) c right (look s.heap (newest named s)) (popped s) p.1
  frame_works bodies (frame.StoresIn object c) s runs p = store_works object c (newest named s) (look s.heap object) (popped s) p.1
  frame_works bodies (frame.TargetsRecord first t items) s runs p =
      record_target_works (newest named s) first (width_of types t) items (look s.heap (newest named s)) (popped s) p.1
  frame_works bodies (frame.StoresRecord object first count) s runs p = store_record_works object first count (look s.heap object) s p.1
  frame_works bodies (frame.Assigns t) s runs p =
      assigns_work t (newest named (popped s)) (newest named s) (same (newest named (popped s)) (newest named s)) (popped (popped s)) p.1
  frame_works bodies (frame.Receives c) s runs p = receive_works (newest named s) c (look s.heap (newest named s)) (popped s) p.1
  frame_works bodies (frame.FreesIn access c) s runs p = free_in_works access (newest named s) c (look s.heap (newest named s)) (popped s) p.1
  frame_works bodies (frame.Declares x) s runs p = owns (declared x) tt tt refl (plainly (plain_owning seen _ s.control s.masters p.0 p.1)) refl refl
  frame_works bodies (frame.DeclaresRecord x t) s runs p =
      record_made x t Copy (newest_ones named (words_of types t) s) (without_newest named (words_of types t) s) p.0 p.1
  frame_works bodies (frame.Treats v treatment tasks) s runs p = treats_work bodies v treatment tasks (task_next tasks) s p.0 p.1
  frame_works bodies (frame.Awaits v by done of part tasks) s runs p = awaited_works v by done of part tasks (look s.heap v) s p.1
  frame_works bodies frame.Confines s runs p = confined_works s runs p.1
  frame_works bodies (frame.Resumes mode) s runs p = stays tt refl (plainly p.1) refl refl
  frame_works bodies frame.Writes s runs p = line_works (reads_integer (newest named s)) (popped s) p.1
  frame_works bodies (frame.Ends v) s runs p = end_works v (look s.heap v) s p.1
  frame_works bodies (frame.GivesBack v cause pool) s runs p = back_works v cause pool (lent s.heap v) s p.0 p.1
  frame_works bodies (frame.Clears x) s runs p = stays tt refl (plainly p.1) refl refl
  frame_works bodies (frame.ClearsIn object c) s runs p = store_works object c Null (look s.heap object) s p.1

  -- An exception comes out of an operation that was to begin a part of an object.
  undo_works :
      (x : Exception) (v : Value) (done : List Part) (found : Found (Cell Value)) (s : State) → Plain seen s.control s.masters
      → Works s (undo_next named x v done found s)
  undo_works x v done on_null s p = tt
  undo_works x v done on_gone s p = tt
  undo_works x v done on_other s p = tt
  undo_works x v done (finds cell) s p =
      let tasks : List Task = map (λ (part : Part). performs part.of part.number) done in
      numbers tt refl (plainly (treating_plain seen v (frame.ends (Undoing s.next)) tasks _ s.masters tt (tt, (tt, (tt, p))))) refl refl

  broken_works :
      (x : Exception) (v : Value) (by : Birth) (done : List Part) (s : State) → Plain seen s.control s.masters → Works s (broken_next named x v by done s)
  broken_works x v Creation done s p = undo_works x v done (look s.heap v) s p
  broken_works x v Copy done s p = tt
  broken_works x v (Adjustment number) done s p = tt

  off_works :
      (mode : Mode) (v : Value) (by : Birth) (done : List Part) (s : State) → Plain seen s.control s.masters → Works s (broken_off named mode v by done s)
  off_works Running v by done s p = tt
  off_works (Raising x) v by done s p = broken_works x v by done s p
  off_works Exiting v by done s p = tt
  off_works Returning v by done s p = tt

  -- What a jump does behind a body.
  left_plain :
      (mode : Mode) (actuals : List ActualForm) (references : List Value) (s : State) → Plain seen s.control s.masters
      → Plain seen (unwound_to mode (frame.Returns actuals references) s).control s.masters
  left_plain Running actuals references s p = p
  left_plain (Raising e) actuals references s p = p
  left_plain Exiting actuals references s p = p
  left_plain Returning actuals references s p = storing_is_plain references s.control s.masters p

  unwound_plain : (mode : Mode) (f : Frame Value) (s : State) → Plain seen s.control s.masters → Plain seen (unwound_to mode f s).control s.masters
  unwound_plain mode (frame.Returns actuals references) s p = left_plain mode actuals references s p
  unwound_plain mode f s p = p

  -- A jump: what it passes, and where it lands.
  landed_works : (l : Landing Value) (mode : Mode) (s : State) → Plain seen s.control s.masters → Works s (landed named l mode s)
  landed_works passes_on mode s p = stays tt refl (plainly p) refl refl
  landed_works goes_behind mode s p = stays tt refl (plainly p) refl refl
  landed_works (goes_in no_stmts) mode s p = tt
  landed_works (goes_in (a_stmt f fs)) mode s p = stays tt refl (plainly (tt, p)) refl refl
  landed_works (breaks_off v by done) mode s p = off_works mode v by done s p
  landed_works escapes mode s p = tt

  passed_works :
      (f : Frame Value) (mode : Mode) (s : State) → Plain seen s.control s.masters
      → Works s (pass_next named false (landing mode f) mode (unwound named mode f s))
  passed_works f mode s p = rw (unwound_by mode f s) (landed_works (landing mode f) mode (unwound_to mode f s) (unwound_plain mode f s p))

  -- No jump leaves a Finalize.
  escapes_works : (mode : Mode) (s : State) → IsJump mode → Works s (landed named (landing mode frame.Confines) mode s)
  escapes_works Running s jump = absurd jump
  escapes_works (Raising x) s jump = tt
  escapes_works Exiting s jump = tt
  escapes_works Returning s jump = tt

  pub jump_works : (mode : Mode) (k : List (Frame Value)) (s : State) → IsJump mode → Plain seen k s.masters → Works s (jump_next named mode k s)
  jump_works mode [] s jump p = tt
  jump_works mode (frame.Elaborates ds fs hs ∷ k) s jump p = stays tt refl (leaving refl (leaves_another seen s.masters _ p.1)) refl refl
  jump_works mode (frame.Closes ∷ k) s jump p = stays tt refl (leaving refl (leaves_another seen s.masters _ p.1)) refl refl
  jump_works mode (frame.Leaves other ∷ k) s jump p = absurd p
  jump_works mode (frame.Confines ∷ k) s jump p = escapes_works mode (at k s) jump
  jump_works mode (f ∷ k) s jump p = passed_works f mode (at k s) p.1
