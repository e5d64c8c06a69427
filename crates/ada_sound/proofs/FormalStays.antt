-- Each step of a simple body keeps the number of the variables of the running activation, and what its first one, the formal parameter, holds.

use Rattle.std.proofs.Common.{◌≡◌, ℕ, zero, suc, ◌<◌, Bool, true, false, List, [], ◌∷◌, length, Option, Some, None, Result, Ok, Err, refl, ap, ◌∙◌, arith}
use Rattle.std.specs.Prelude.{ℤ, int_le, if◌then◌else◌}
use Rattle.std.specs.List.{slice_get, slice_index_or, slice_set}
use Rattle.ada_values.specs.declared.operator.BinaryOperator.{BinaryOperator}
use Rattle.ada_values.specs.declared.fault.OperatorFault.{OperatorFault}
use Rattle.ada_values.specs.declared.fault.OperatorFault.TheVariants.{Overflow, DivisionByZero, WrongType}
use Rattle.ada_program.specs.declared.program.Exception.{Exception}
use Rattle.ada_program.specs.declared.program.TypeDefinition.{TypeDefinition}
use Rattle.ada_program.specs.Form.{RecordPathForm, ExpressionForm, integer, boolean, reads, is_null, applied_to, chained, LinksForm, no_more_links, a_link, ItemForm, null_item, item_of_path, item_of_value, item_of_record, RightForm, nothing, value_of, allocates, allocates_default, computes, StmtForm, skips, assigns, assigns_record, frees, gets, writes, writes_text, chooses, repeats, counts, exits, calls, returns, raises, encloses, StmtsForm, no_stmts, a_stmt, BranchesForm, otherwise, a_branch, HandlersForm, DeclarationForm, creates_pool, collects, declares, declares_record}
use Rattle.ada_program.specs.ProgramForm.{BodyForm}
use Rattle.ada_program.specs.Typed.{words_of, width_of}
use Rattle.ada_parts.specs.Part.{Part}
use Rattle.ada_meaning.specs.declared.event.Birth.{Birth}
use Rattle.ada_meaning.specs.declared.event.Birth.TheVariants.{Creation, Copy, Adjustment}
use Rattle.ada_meaning.specs.declared.event.Cause.{Cause}
use Rattle.ada_meaning.specs.declared.event.Cause.TheVariants.{Leaving}
use Rattle.ada_meaning.specs.declared.event.Halt.TheVariants.{Erroneous}
use Rattle.ada_meaning.specs.declared.event.Why.TheVariants.{GivesElsewhere}
use Rattle.ada_meaning.specs.declared.state.Mode.{Mode}
use Rattle.ada_meaning.specs.declared.state.Mode.TheVariants.{Running, Raising, Exiting, Returning}
use Rattle.ada_meaning.specs.declared.state.Place.{Place}
use Rattle.ada_meaning.specs.declared.state.Value.{Value}
use Rattle.ada_meaning.specs.Event.{Event, Back, Followed, Quiet}
use Rattle.ada_meaning.specs.Frame.{Frame, is_master, Landing, passes_on, goes_behind, goes_in, breaks_off, escapes, landing}
use Rattle.ada_meaning.specs.Frame as frame
use Rattle.ada_meaning.specs.State.{Activation, Destination, Item, Master, Owned, declared, collection, record_object, storage_pool, home_of, pool_freed_to}
use Rattle.ada_meaning.specs.Heap.{Cell, Found, on_null, on_gone, on_other, finds}
use Rattle.ada_meaning.specs.Step.{halts, moves, tells, asks, picks, same_pool, freeing, at, older, places_of, with_places, with_operands, places, operands, set_operands, put, newest, popped, held, reading, component_next, follow_next, path_next, selected, before_last, last_of, named_next, holder_next, expression_next, null_test_next, is_decided, link_next, links_next, outcome_next, items_next, record_holder_next, place_in, record_in, copied_next, copies_next, answered, new_next, right_next, freeing_next, free_next, end_next, told_back, given_back, back_next, assign_next, target_next, stored_next, store_next, frees_next, freed_next, free_component_next, free_in_next, branches_next, decided_next, turn_next, repeats_next, turned_next, count_turn_next, ranges_next, gets_next, received_next, receive_next, exit_next, exited_next, stmt_next, stmts_next, line_next, declarations_next, taken_out, members_next, item_leave_next, master_leave_next, leave_next, frame_next, undo_next, broken_next, broken_off, landed, pass_next, unwound, has_parts, copy_next, record_assign_next, record_target_next, record_stored_next, store_record_next, newest_ones, without_newest}
use Rattle.ada_meaning.specs.Named.{State, Next, named, whole, inside, look, lent, standing, returned, on_object, reads_integer, reads_boolean, reads_null, unary_given, binary_given, next}
use Rattle.ada_tracked.specs.Simple.{IsVariable, IsFrom, StatementIsSimple, StatementsAreSimple, FrameIsSimple}
use Rattle.ada_tracked.specs.Staying.{IsWithinBody}
use Rattle.ada_idle.proofs.Coming.{AllNext}

-- The running activation has as many variables as before, and the first of them holds what it held.
pub record SamePlaces (s after : State) : Type 0 where
  pub count : length (places after) ≡ length (places s)
  pub first : slice_get (places after) 0 ≡ slice_get (places s) 0

-- So it is whatever comes next, and whatever is answered.
abbrev pub AllSamePlaces : (s : State) → Next → Type 0
AllSamePlaces s = AllNext (SamePlaces s)

-- How many variables the running activation has, and what the first one holds.
record Outline : Type 0 where
  variables : ℕ
  formal : Option Value

abbrev outline_of : List Value → Outline
outline_of vs = record { variables = length vs; formal = slice_get vs 0 }

abbrev outline : List (Activation Value) → Outline
outline xs = outline_of (places_of xs)

-- A state has this outline.
abbrev Has : Outline → State → Type 0
Has w s = outline s.activations ≡ w

-- What comes next has it, whatever is answered.
abbrev Keeps : Outline → Next → Type 0
Keeps w (halts h) = Unit {0}
Keeps w (moves e s) = Has w s
Keeps w (tells request e s) = Has w s
Keeps w (asks request answers) = (granted : Bool) → Has w (answers granted)
Keeps w (picks count taking) = (i : ℕ) → Has w (taking i)

-- Operands are no variables.
operands_outline : (vs : List Value) (xs : List (Activation Value)) → outline (with_operands vs xs) ≡ outline xs
operands_outline vs [] = refl
operands_outline vs (a ∷ suspended) = refl

set_count : (vs : List Value) (i : ℕ) (v : Value) → length (slice_set vs i v) ≡ length vs
set_count [] i v = refl
set_count (u ∷ vs) zero v = refl
set_count (u ∷ vs) (suc i) v = ap suc (set_count vs i v)

-- Another variable than the first gets a value.
set_outline : (vs : List Value) (x : ℕ) (v : Value) → 0 < x → outline_of (slice_set vs x v) ≡ outline_of vs
set_outline [] x v more = refl
set_outline (u ∷ vs) zero v more = absurd (omega (arith, more))
set_outline (u ∷ vs) (suc i) v more = ap (λ (n : ℕ). record { variables = suc n; formal = Some u }) (set_count vs i v)

put_outline : (x : ℕ) (v : Value) (xs : List (Activation Value)) → 0 < x → outline (with_places (slice_set (places_of xs) x v) xs) ≡ outline xs
put_outline x v [] more = refl
put_outline x v (a ∷ suspended) more = set_outline a.places x v more

module _ (types : List TypeDefinition) (bodies : List BodyForm) (first : ℕ) (w : Outline) where
  operands_keep : (vs : List Value) (s : State) → Has w s → Has w (set_operands vs s)
  operands_keep vs s h = operands_outline vs s.activations ∙ h

  less : (s : State) → Has w s → Has w (popped s)
  less s h = operands_keep (older (operands s)) s h

  put_keeps : (x : ℕ) (v : Value) (s : State) → IsVariable first x → Has w s → Has w (put x v s)
  put_keeps x v s is h = put_outline x v s.activations is.0 ∙ h

  -- Paths.
  reading_keeps : (cs : List ℕ) (v : Value) (s : State) → Has w s → Has w (reading named cs v s)
  reading_keeps [] v s h = operands_keep _ s h
  reading_keeps (c ∷ cs) v s h = operands_keep _ s h

  component_keeps : (v : Value) (cs : List ℕ) (found : Option Value) (s : State) → Has w s → Keeps w (component_next named v cs found s)
  component_keeps v cs None s h = tt
  component_keeps v cs (Some u) s h = reading_keeps cs u s h

  follow_keeps : (v : Value) (c : ℕ) (cs : List ℕ) (found : Found (Cell Value)) (s : State) → Has w s → Keeps w (follow_next named v c cs found s)
  follow_keeps v c cs on_null s h = operands_keep _ s h
  follow_keeps v c cs on_gone s h = tt
  follow_keeps v c cs on_other s h = tt
  follow_keeps v c cs (finds cell) s h = component_keeps v cs (slice_get cell.values c) s h

  path_keeps : (cs : List ℕ) (v : Value) (s : State) → Has w s → Keeps w (path_next named cs v s)
  path_keeps [] v s h = operands_keep _ s h
  path_keeps (c ∷ cs) v s h = follow_keeps v c cs (look s.heap v) s h

  named_keeps : (cs : List ℕ) (x : ℕ) (s : State) → Has w s → Keeps w (named_next named cs x s)
  named_keeps cs x s h = path_keeps (selected named (held named s x) cs) (whole (held named s x)) s h

  holder_keeps : (c : ℕ) (cs : List ℕ) (x : ℕ) (frame_of : ℕ → Frame Value) (s : State) → Has w s → Keeps w (holder_next named c cs x frame_of s)
  holder_keeps c cs x frame_of s h =
      path_keeps (before_last (inside (held named s x) c) cs) (whole (held named s x))
      (at (frame_of (last_of (inside (held named s x) c) cs) ∷ s.control) s) h

  -- Expressions.
  expression_keeps : (e : ExpressionForm) (s : State) → Has w s → Keeps w (expression_next named e s)
  expression_keeps (integer i) s h = operands_keep _ s h
  expression_keeps (boolean b) s h = operands_keep _ s h
  expression_keeps (reads path) s h = named_keeps path.selectors path.root s h
  expression_keeps (is_null equal path) s h = named_keeps path.selectors path.root (at (frame.TestsNull equal ∷ s.control) s) h
  expression_keeps (applied_to operator e) s h = h
  expression_keeps (chained e links) s h = h

  null_test_keeps : (equal : Bool) (found : Option Bool) (s : State) → Has w s → Keeps w (null_test_next named equal found s)
  null_test_keeps true None s h = tt
  null_test_keeps false None s h = tt
  null_test_keeps true (Some null) s h = operands_keep _ s h
  null_test_keeps false (Some null) s h = operands_keep _ s h

  link_keeps :
      (decided : Bool) (operator : BinaryOperator) (e : ExpressionForm) (links : LinksForm) (s : State)
      → Has w s → Keeps w (link_next named decided operator e links s)
  link_keeps true operator e links s h = h
  link_keeps false operator e links s h = h

  links_keep : (links : LinksForm) (s : State) → Has w s → Keeps w (links_next named links s)
  links_keep no_more_links s h = h
  links_keep (a_link operator e links) s h = link_keeps (is_decided named operator (reads_boolean (newest named s))) operator e links s h

  outcome_keeps : (given : Result Value OperatorFault) (s : State) → Has w s → Keeps w (outcome_next named given s)
  outcome_keeps (Ok v) s h = operands_keep _ s h
  outcome_keeps (Err Overflow) s h = operands_keep _ s h
  outcome_keeps (Err DivisionByZero) s h = operands_keep _ s h
  outcome_keeps (Err WrongType) s h = tt

  -- What is assigned; a record that is an item is copied into operands.
  record_keeps : (q : RecordPathForm) (frame_of : Place → Frame Value) (s : State) → Has w s → Keeps w (record_holder_next named q frame_of s)
  record_keeps q frame_of s h =
      path_keeps (selected named (held named s q.object.root) q.object.selectors) (whole (held named s q.object.root))
      (at (frame_of (place_in named (held named s q.object.root) q.object.selectors q) ∷ s.control) s) h

  copied_keeps : (o : Value) (found : Option (List Value)) (s : State) → Has w s → Keeps w (copied_next named o found s)
  copied_keeps o None s h = tt
  copied_keeps o (Some vs) s h = operands_keep _ s h

  copies_keep : (o : Value) (c count : ℕ) (found : Found (Cell Value)) (s : State) → Has w s → Keeps w (copies_next named o c count found s)
  copies_keep o c count on_null s h = operands_keep _ s h
  copies_keep o c count on_gone s h = tt
  copies_keep o c count on_other s h = tt
  copies_keep o c count (finds cell) s h = copied_keeps o (record_in cell.values c count) s h

  items_keep : (items : List ItemForm) (s : State) → FrameIsSimple first (frame.Fills items) → Has w s → Keeps w (items_next named items s)
  items_keep [] s simple h = h
  items_keep (null_item ∷ is) s simple h = operands_keep _ s h
  items_keep (item_of_path path ∷ is) s simple h = named_keeps path.selectors path.root (at (frame.Fills is ∷ s.control) s) h
  items_keep (item_of_value e ∷ is) s simple h = h
  items_keep (item_of_record q ∷ is) s simple h = record_keeps q (λ place. frame.Copies place.component q.record_type) (at (frame.Fills is ∷ s.control) s) h

  answered_keeps :
      (access count words : ℕ) (home : Destination) (s : State) → Has w s → (given : Bool) → Has w (answered named types access count words home s given)
  answered_keeps access count words home s h true = operands_keep _ s h
  answered_keeps access count words home s h false = operands_keep _ s h

  new_keeps : (access count words : ℕ) (home : Option Destination) (s : State) → Has w s → Keeps w (new_next named types access count words home s)
  new_keeps access count words None s h = operands_keep _ s h
  new_keeps access count words (Some home) s h = answered_keeps access count words home s h

  right_keeps : (right : RightForm) (s : State) → Has w s → Keeps w (right_next named types right s)
  right_keeps nothing s h = operands_keep _ s h
  right_keeps (value_of path) s h = named_keeps path.selectors path.root s h
  right_keeps (allocates access items) s h = h
  right_keeps (allocates_default access) s h = operands_keep _ s h
  right_keeps (computes e) s h = h

  -- What is freed, and what goes.
  freeing_by :
      (own : Bool) (access : ℕ) (v : Value) (cell : Cell Value) (clears : Frame Value) (e : Event Value) (s : State)
      → Has w s → Keeps w (if own then moves e (freeing named types access v cell clears s) else halts (Erroneous GivesElsewhere))
  freeing_by true access v cell clears e s h = h
  freeing_by false access v cell clears e s h = tt

  freeing_keeps :
      (access : ℕ) (v : Value) (cell : Cell Value) (clears : Frame Value) (e : Event Value) (s : State)
      → Has w s → Keeps w (freeing_next named types access v cell clears e s)
  freeing_keeps access v cell clears e s h = freeing_by (same_pool (Some (pool_freed_to (home_of access s.masters))) cell.home.pool) access v cell clears e s h

  free_keeps : (access x : ℕ) (v : Value) (found : Found (Cell Value)) (s : State) → Has w s → Keeps w (free_next named types access x v found s)
  free_keeps access x v on_null s h = h
  free_keeps access x v on_gone s h = tt
  free_keeps access x v on_other s h = tt
  free_keeps access x v (finds cell) s h = freeing_keeps access v cell (frame.Clears x) Quiet s h

  freed_keeps :
      (access : ℕ) (o : Value) (c : ℕ) (v : Value) (found : Found (Cell Value)) (s : State) → Has w s → Keeps w (freed_next named types access o c v found s)
  freed_keeps access o c v on_null s h = h
  freed_keeps access o c v on_gone s h = tt
  freed_keeps access o c v on_other s h = tt
  freed_keeps access o c v (finds cell) s h = freeing_keeps access v cell (frame.ClearsIn o c) (Followed o) s h

  component_freed_keeps :
      (access : ℕ) (o : Value) (c : ℕ) (found : Option Value) (s : State) → Has w s → Keeps w (free_component_next named types access o c found s)
  component_freed_keeps access o c None s h = tt
  component_freed_keeps access o c (Some v) s h = freed_keeps access o c v (standing s.heap v) s h

  free_in_keeps : (access : ℕ) (o : Value) (c : ℕ) (found : Found (Cell Value)) (s : State) → Has w s → Keeps w (free_in_next named types access o c found s)
  free_in_keeps access o c on_null s h = operands_keep _ s h
  free_in_keeps access o c on_gone s h = tt
  free_in_keeps access o c on_other s h = tt
  free_in_keeps access o c (finds cell) s h = component_freed_keeps access o c (slice_get cell.values c) s h

  frees_keep : (cs : List ℕ) (access x : ℕ) (s : State) → Has w s → Keeps w (frees_next named types cs access x s)
  frees_keep [] access x s h = free_keeps access x (held named s x) (standing s.heap (held named s x)) s h
  frees_keep (c ∷ cs) access x s h = holder_keeps c cs x (λ last. frame.FreesIn access last) s h

  end_keeps : (v : Value) (found : Found (Cell Value)) (s : State) → Has w s → Keeps w (end_next named v found s)
  end_keeps v on_null s h = tt
  end_keeps v on_gone s h = tt
  end_keeps v on_other s h = tt
  end_keeps v (finds cell) s h = h

  told_keeps : (pool : Option ℕ) (v : Value) (e : Event Value) (s : State) → Has w s → Keeps w (told_back named pool v e s)
  told_keeps None v e s h = h
  told_keeps (Some pool) v e s h = h

  given_keeps :
      (own : Bool) (v : Value) (cause : Cause) (cell : Cell Value) (s : State)
      → Has w s → Keeps w (if own then given_back named v cause cell s else halts (Erroneous GivesElsewhere))
  given_keeps true v cause cell s h =
      told_keeps cell.home.pool v (Back v cell.access cell.number cell.home.pool cell.home.subpool cause) (record s { heap = on_object returned s.heap v }) h
  given_keeps false v cause cell s h = tt

  back_keeps : (v : Value) (cause : Cause) (pool : Option ℕ) (found : Found (Cell Value)) (s : State) → Has w s → Keeps w (back_next named v cause pool found s)
  back_keeps v cause pool on_null s h = tt
  back_keeps v cause pool on_gone s h = tt
  back_keeps v cause pool on_other s h = tt
  back_keeps v cause pool (finds cell) s h = given_keeps (same_pool pool cell.home.pool) v cause cell s h

  -- What is assigned to, stored in and read to.
  assign_keeps : (cs : List ℕ) (x : ℕ) (right : RightForm) (s : State) → Has w s → Keeps w (assign_next named cs x right s)
  assign_keeps [] x right s h = h
  assign_keeps (c ∷ cs) x right s h = holder_keeps c cs x (λ last. frame.Targets last right) s h

  target_keeps : (o : Value) (c : ℕ) (right : RightForm) (found : Found (Cell Value)) (s : State) → Has w s → Keeps w (target_next named o c right found s)
  target_keeps o c right on_null s h = operands_keep _ s h
  target_keeps o c right on_gone s h = tt
  target_keeps o c right on_other s h = tt
  target_keeps o c right (finds cell) s h = h

  stored_keeps : (o : Value) (c : ℕ) (v : Value) (found : Option Value) (s : State) → Has w s → Keeps w (stored_next named o c v found s)
  stored_keeps o c v None s h = tt
  stored_keeps o c v (Some before) s h = h

  store_keeps : (o : Value) (c : ℕ) (v : Value) (found : Found (Cell Value)) (s : State) → Has w s → Keeps w (store_next named o c v found s)
  store_keeps o c v on_null s h = tt
  store_keeps o c v on_gone s h = tt
  store_keeps o c v on_other s h = tt
  store_keeps o c v (finds cell) s h = stored_keeps o c v (slice_get cell.values c) s h

  gets_keeps : (cs : List ℕ) (x : ℕ) (input : List ℤ) (s : State) → IsFrom first x cs → Has w s → Keeps w (gets_next named cs x input s)
  gets_keeps (c ∷ cs) x input s simple h = holder_keeps c cs x (λ last. frame.Receives last) s h
  gets_keeps [] x [] s simple h = operands_keep _ s h
  gets_keeps [] x (i ∷ is) s simple h = put_keeps x (named.integer i) (record s { input = is }) simple h

  received_keeps : (o : Value) (c : ℕ) (input : List ℤ) (found : Option Value) (s : State) → Has w s → Keeps w (received_next named o c input found s)
  received_keeps o c input None s h = tt
  received_keeps o c [] (Some before) s h = operands_keep _ s h
  received_keeps o c (i ∷ is) (Some before) s h = h

  receive_keeps : (o : Value) (c : ℕ) (found : Found (Cell Value)) (s : State) → Has w s → Keeps w (receive_next named o c found s)
  receive_keeps o c on_null s h = operands_keep _ s h
  receive_keeps o c on_gone s h = tt
  receive_keeps o c on_other s h = tt
  receive_keeps o c (finds cell) s h = received_keeps o c s.input (slice_get cell.values c) s h

  -- Branches and loops.
  branches_keep : (branches : BranchesForm) (s : State) → Has w s → Keeps w (branches_next named branches s)
  branches_keep (otherwise fs) s h = h
  branches_keep (a_branch e fs branches) s h = h

  decided_keeps : (fs : StmtsForm) (branches : BranchesForm) (truth : Option Bool) (s : State) → Has w s → Keeps w (decided_next named fs branches truth s)
  decided_keeps fs branches None s h = tt
  decided_keeps fs branches (Some true) s h = h
  decided_keeps fs branches (Some false) s h = branches_keep branches s h

  turn_keeps : (condition : Option ExpressionForm) (fs : StmtsForm) (s : State) → Has w s → Keeps w (turn_next named condition fs s)
  turn_keeps condition no_stmts s h = tt
  turn_keeps condition (a_stmt f fs) s h = h

  repeats_keep : (condition : Option ExpressionForm) (fs : StmtsForm) (s : State) → Has w s → Keeps w (repeats_next named condition fs s)
  repeats_keep None fs s h = turn_keeps None fs s h
  repeats_keep (Some e) fs s h = h

  turned_keeps : (e : ExpressionForm) (fs : StmtsForm) (truth : Option Bool) (s : State) → Has w s → Keeps w (turned_next named e fs truth s)
  turned_keeps e fs None s h = tt
  turned_keeps e fs (Some true) s h = turn_keeps (Some e) fs s h
  turned_keeps e fs (Some false) s h = h

  count_turn_keeps :
      (x : ℕ) (value last : ℤ) (fs : StmtsForm) (s : State) → IsVariable first x → Has w s → Keeps w (count_turn_next named x value last fs s)
  count_turn_keeps x value last no_stmts s is h = tt
  count_turn_keeps x value last (a_stmt f fs) s is h = put_keeps x (named.integer value) s is h

  counting_keeps :
      (goes : Bool) (x : ℕ) (value last : ℤ) (fs : StmtsForm) (s : State)
      → IsVariable first x → Has w s → Keeps w (if goes then count_turn_next named x value last fs s else moves Quiet s)
  counting_keeps true x value last fs s is h = count_turn_keeps x value last fs s is h
  counting_keeps false x value last fs s is h = h

  ranges_keep : (x : ℕ) (fs : StmtsForm) (low high : Option ℤ) (s : State) → IsVariable first x → Has w s → Keeps w (ranges_next named x fs low high s)
  ranges_keep x fs None high s is h = tt
  ranges_keep x fs (Some low) None s is h = tt
  ranges_keep x fs (Some low) (Some high) s is h = counting_keeps (int_le low high) x low high fs s is h

  exit_keeps : (condition : Option ExpressionForm) (s : State) → Has w s → Keeps w (exit_next named condition s)
  exit_keeps None s h = operands_keep _ s h
  exit_keeps (Some e) s h = h

  exited_keeps : (truth : Option Bool) (s : State) → Has w s → Keeps w (exited_next named truth s)
  exited_keeps None s h = tt
  exited_keeps (Some true) s h = operands_keep _ s h
  exited_keeps (Some false) s h = h

  line_keeps : (found : Option ℤ) (s : State) → Has w s → Keeps w (line_next named found s)
  line_keeps None s h = tt
  line_keeps (Some i) s h = h

  -- Records are assigned as wholes.
  copy_keeps : (target : RecordPathForm) (items : List ItemForm) (s : State) → Has w s → Keeps w (copy_next named target items s)
  copy_keeps target [] s h = tt
  copy_keeps target (null_item ∷ is) s h = tt
  copy_keeps target (item_of_path path ∷ is) s h = tt
  copy_keeps target (item_of_value e ∷ is) s h = tt
  copy_keeps target (item_of_record source ∷ []) s h = h
  copy_keeps target (item_of_record source ∷ i ∷ is) s h = tt

  record_assign_keeps : (parts : Bool) (target : RecordPathForm) (items : List ItemForm) (s : State) → Has w s → Keeps w (record_assign_next named parts target items s)
  record_assign_keeps true target items s h = copy_keeps target items s h
  record_assign_keeps false target items s h = record_keeps target (λ place. frame.TargetsRecord place.component target.record_type items) s h

  record_target_keeps :
      (o : Value) (c count : ℕ) (items : List ItemForm) (found : Found (Cell Value)) (s : State) → Has w s
      → Keeps w (record_target_next named o c count items found s)
  record_target_keeps o c count items on_null s h = operands_keep _ s h
  record_target_keeps o c count items on_gone s h = tt
  record_target_keeps o c count items on_other s h = tt
  record_target_keeps o c count items (finds cell) s h = h

  record_stored_keeps :
      (o : Value) (c : ℕ) (us : List Value) (found : Option (List Value)) (s : State) → Has w s → Keeps w (record_stored_next named o c us found s)
  record_stored_keeps o c us None s h = tt
  record_stored_keeps o c us (Some before) s h = h

  store_record_keeps : (o : Value) (c count : ℕ) (found : Found (Cell Value)) (s : State) → Has w s → Keeps w (store_record_next named o c count found s)
  store_record_keeps o c count on_null s h = tt
  store_record_keeps o c count on_gone s h = tt
  store_record_keeps o c count on_other s h = tt
  store_record_keeps o c count (finds cell) s h =
      record_stored_keeps o c (newest_ones named count s) (record_in cell.values c count) (without_newest named count s) (operands_keep _ s h)

  -- Statements and declarations.
  stmt_keeps : (f : StmtForm) (s : State) → StatementIsSimple first f → Has w s → Keeps w (stmt_next named types bodies f s)
  stmt_keeps skips s simple h = h
  stmt_keeps (assigns target right) s simple h = assign_keeps target.selectors target.root right s h
  stmt_keeps (assigns_record target items) s simple h = record_assign_keeps (has_parts types target.record_type) target items s h
  stmt_keeps (frees access path) s simple h = frees_keep path.selectors access path.root s h
  stmt_keeps (gets target) s simple h = gets_keeps target.selectors target.root s.input s simple h
  stmt_keeps (writes e) s simple h = h
  stmt_keeps (writes_text text) s simple h = h
  stmt_keeps (chooses branches) s simple h = branches_keep branches s h
  stmt_keeps (repeats condition fs spot) s simple h = h
  stmt_keeps (counts x low high fs spot) s simple h = h
  stmt_keeps (exits condition spot) s simple h = exit_keeps condition s h
  stmt_keeps (calls procedure actuals) s simple h = absurd simple
  stmt_keeps (returns spot) s simple h = operands_keep _ s h
  stmt_keeps (raises e) s simple h = operands_keep _ s h
  stmt_keeps (encloses ds fs hs) s simple h = h

  stmts_keep : (fs : StmtsForm) (s : State) → StatementsAreSimple first fs → Has w s → Keeps w (stmts_next named types bodies fs s)
  stmts_keep no_stmts s simple h = h
  stmts_keep (a_stmt f fs) s simple h = stmt_keeps f (at (frame.Does fs ∷ s.control) s) simple.0 h

  declarations_keep :
      (ds : List DeclarationForm) (fs : StmtsForm) (hs : HandlersForm) (s : State)
      → FrameIsSimple first (frame.Elaborates ds fs hs) → Has w s → Keeps w (declarations_next named types ds fs hs s)
  declarations_keep [] fs hs s simple h = h
  declarations_keep (creates_pool pool ∷ ds) fs hs s simple h = h
  declarations_keep (collects access ∷ ds) fs hs s simple h = h
  declarations_keep (declares x right ∷ ds) fs hs s simple h = h
  declarations_keep (declares_record x object_type initial ∷ ds) fs hs s simple h = absurd simple.0.0

  -- Masters are left.
  taken_keeps :
      (cause : Cause) (pool : Option ℕ) (v : Value) (found : Found (Cell Value)) (s : State)
      → Has w s → Has w (taken_out named types cause pool v found s)
  taken_keeps cause pool v on_null s h = h
  taken_keeps cause pool v on_gone s h = h
  taken_keeps cause pool v on_other s h = h
  taken_keeps cause pool v (finds cell) s h = h

  members_keep : (cause : Cause) (pool : Option ℕ) (vs : List Value) (s : State) → Has w s → Keeps w (members_next named types cause pool vs s)
  members_keep cause pool [] s h = h
  members_keep cause pool (v ∷ vs) s h = λ i.
      taken_keeps cause pool (slice_index_or (v ∷ vs) i named.null) (look s.heap (slice_index_or (v ∷ vs) i named.null)) s h

  item_keeps : (m : ℕ) (item : Item) (owned : Owned) (s : State) → Has w s → Keeps w (item_leave_next named types m item owned s)
  item_keeps m item (declared x) s h = h
  item_keeps m item (collection access pool) s h = members_keep (Leaving m item.number) pool (named.members s.heap item.number) s h
  item_keeps m item (record_object object_type) s h = members_keep (Leaving m item.number) None (named.members s.heap item.number) s h
  item_keeps m item (storage_pool declaration number) s h = h

  master_keeps : (mode : Mode) (m : ℕ) (items : List Item) (s : State) → Has w s → Keeps w (master_leave_next named types mode m items s)
  master_keeps mode m [] s h = h
  master_keeps mode m (item ∷ items) s h = item_keeps m item item.owned (at (frame.Leaves mode ∷ s.control) s) h

  leave_keeps : (mode : Mode) (masters : List Master) (s : State) → Has w s → Keeps w (leave_next named types mode masters s)
  leave_keeps mode [] s h = tt
  leave_keeps mode (m ∷ ms) s h = master_keeps mode m.number m.items s h

  -- What a frame does.
  frame_keeps : (f : Frame Value) (s : State) → FrameIsSimple first f → Has w s → Keeps w (frame_next named types bodies f s)
  frame_keeps (frame.Elaborates ds fs hs) s simple h = declarations_keep ds fs hs s simple h
  frame_keeps (frame.Does fs) s simple h = stmts_keep fs s simple h
  frame_keeps (frame.Decides fs branches) s simple h = decided_keeps fs branches (reads_boolean (newest named s)) (popped s) (less s h)
  frame_keeps (frame.Repeats condition fs) s simple h = repeats_keep condition fs s h
  frame_keeps (frame.Turns condition fs) s simple h = turned_keeps condition fs (reads_boolean (newest named s)) (popped s) (less s h)
  frame_keeps (frame.Ranges x fs) s simple h =
      ranges_keep x fs (reads_integer (newest named (popped s))) (reads_integer (newest named s)) (popped (popped s)) simple.0 (less (popped s) (less s h))
  frame_keeps (frame.Counts x value last fs) s simple h = counting_keeps (int_le value last) x value last fs s simple.0 h
  frame_keeps frame.Exits s simple h = exited_keeps (reads_boolean (newest named s)) (popped s) (less s h)
  frame_keeps (frame.Handles hs) s simple h = h
  frame_keeps frame.Closes s simple h = h
  frame_keeps (frame.Leaves mode) s simple h = leave_keeps mode s.masters s h
  frame_keeps (frame.Calls procedure b actuals) s simple h = absurd simple
  frame_keeps (frame.Returns actuals references) s simple h = absurd simple
  frame_keeps (frame.Evaluates right) s simple h = right_keeps right s h
  frame_keeps (frame.Computes e) s simple h = expression_keeps e s h
  frame_keeps (frame.Follows cs) s simple h = path_keeps cs (newest named s) (popped s) (less s h)
  frame_keeps (frame.TestsNull equal) s simple h = null_test_keeps equal (reads_null (newest named s)) (popped s) (less s h)
  frame_keeps (frame.Refers q) s simple h = absurd simple
  frame_keeps (frame.RefersIn place record_type) s simple h = absurd simple
  frame_keeps (frame.Opens path) s simple h = absurd simple
  frame_keeps (frame.OpensIn c) s simple h = absurd simple
  frame_keeps (frame.Continues links) s simple h = links_keep links s h
  frame_keeps (frame.Applies operator) s simple h =
      outcome_keeps (binary_given operator (newest named (popped s)) (newest named s)) (popped (popped s)) (less (popped s) (less s h))
  frame_keeps (frame.AppliesAlone operator) s simple h = outcome_keeps (unary_given operator (newest named s)) (popped s) (less s h)
  frame_keeps (frame.Fills items) s simple h = items_keep items s simple h
  frame_keeps (frame.Copies c record_type) s simple h =
      copies_keep (newest named s) c (width_of types record_type) (look s.heap (newest named s)) (popped s) (less s h)
  frame_keeps (frame.Creates access count) s simple h = new_keeps access count (words_of types access) (home_of access s.masters) s h
  frame_keeps (frame.Stores x) s simple h = put_keeps x (newest named s) (popped s) simple (less s h)
  frame_keeps (frame.Targets c right) s simple h = target_keeps (newest named s) c right (look s.heap (newest named s)) (popped s) (less s h)
  frame_keeps (frame.StoresIn o c) s simple h = store_keeps o c (newest named s) (look s.heap o) (popped s) (less s h)
  frame_keeps (frame.TargetsRecord c record_type items) s simple h =
      record_target_keeps (newest named s) c (width_of types record_type) items (look s.heap (newest named s)) (popped s) (less s h)
  frame_keeps (frame.StoresRecord o c count) s simple h = store_record_keeps o c count (look s.heap o) s h
  frame_keeps (frame.Assigns record_type) s simple h = absurd simple
  frame_keeps (frame.Receives c) s simple h = receive_keeps (newest named s) c (look s.heap (newest named s)) (popped s) (less s h)
  frame_keeps (frame.FreesIn access c) s simple h = free_in_keeps access (newest named s) c (look s.heap (newest named s)) (popped s) (less s h)
  frame_keeps (frame.Declares x) s simple h = put_keeps x (newest named s) (popped s) simple (less s h)
  frame_keeps (frame.DeclaresRecord x record_type) s simple h = absurd simple
  frame_keeps (frame.Treats v treatment tasks) s simple h = absurd simple
  frame_keeps (frame.Awaits v by done of part tasks) s simple h = absurd simple
  frame_keeps frame.Confines s simple h = absurd simple
  frame_keeps (frame.Resumes mode) s simple h = absurd simple
  frame_keeps frame.Writes s simple h = line_keeps (reads_integer (newest named s)) (popped s) (less s h)
  frame_keeps (frame.Ends v) s simple h = end_keeps v (look s.heap v) s h
  frame_keeps (frame.GivesBack v cause pool) s simple h = back_keeps v cause pool (lent s.heap v) s h
  frame_keeps (frame.Clears x) s simple h = put_keeps x named.null s simple h
  frame_keeps (frame.ClearsIn o c) s simple h = store_keeps o c named.null (look s.heap o) s h

  -- Wherever a jump lands.
  undo_keeps : (e : Exception) (v : Value) (done : List Part) (found : Found (Cell Value)) (s : State) → Has w s → Keeps w (undo_next named e v done found s)
  undo_keeps e v done on_null s h = tt
  undo_keeps e v done on_gone s h = tt
  undo_keeps e v done on_other s h = tt
  undo_keeps e v done (finds cell) s h = operands_keep _ s h

  broken_keeps : (e : Exception) (v : Value) (by : Birth) (done : List Part) (s : State) → Has w s → Keeps w (broken_next named e v by done s)
  broken_keeps e v Creation done s h = undo_keeps e v done (look s.heap v) s h
  broken_keeps e v Copy done s h = tt
  broken_keeps e v (Adjustment number) done s h = tt

  broken_off_keeps : (m : Mode) (v : Value) (by : Birth) (done : List Part) (s : State) → Has w s → Keeps w (broken_off named m v by done s)
  broken_off_keeps Running v by done s h = tt
  broken_off_keeps (Raising e) v by done s h = broken_keeps e v by done s h
  broken_off_keeps Exiting v by done s h = tt
  broken_off_keeps Returning v by done s h = tt

  landed_keeps : (l : Landing Value) (m : Mode) (s : State) → Has w s → Keeps w (landed named l m s)
  landed_keeps passes_on m s h = h
  landed_keeps goes_behind m s h = h
  landed_keeps (goes_in no_stmts) m s h = tt
  landed_keeps (goes_in (a_stmt f fs)) m s h = h
  landed_keeps (breaks_off v by done) m s h = broken_off_keeps m v by done s h
  landed_keeps escapes m s h = tt

  pass_keeps : (master : Bool) (l : Landing Value) (m : Mode) (s : State) → Has w s → Keeps w (pass_next named master l m s)
  pass_keeps true l m s h = h
  pass_keeps false l m s h = landed_keeps l m s h

  -- It passes no end of a call, so the same activation goes on.
  unwound_keeps : (m : Mode) (f : Frame Value) (s : State) → FrameIsSimple first f → Has w s → Has w (unwound named m f s)
  unwound_keeps m (frame.Returns actuals references) s simple h = absurd simple
  unwound_keeps m f s simple h = h

  jump_keeps :
      (m : Mode) (f : Frame Value) (s : State)
      → FrameIsSimple first f → Has w s → Keeps w (pass_next named (is_master f) (landing m f) m (unwound named m f s))
  jump_keeps m f s simple h = pass_keeps (is_master f) (landing m f) m (unwound named m f s) (unwound_keeps m f s simple h)

  -- A step.
  step_keeps :
      (m : Mode) (k : List (Frame Value)) (s : State) → IsWithinBody first k → Has w s → Keeps w (next types bodies (record s { mode = m; control = k }))
  unfolding next
  step_keeps Running [] s within h = tt
  step_keeps Running (f ∷ k) s within h = frame_keeps f (record s { mode = Running; control = k }) within.0 h
  step_keeps (Raising e) [] s within h = tt
  step_keeps (Raising e) (f ∷ k) s within h = jump_keeps (Raising e) f (record s { mode = Raising e; control = k }) within.0 h
  step_keeps Exiting [] s within h = tt
  step_keeps Exiting (f ∷ k) s within h = jump_keeps Exiting f (record s { mode = Exiting; control = k }) within.0 h
  step_keeps Returning [] s within h = tt
  step_keeps Returning (f ∷ k) s within h = jump_keeps Returning f (record s { mode = Returning; control = k }) within.0 h

-- What that says of variables.
same_places : (s after : State) → Has (outline s.activations) after → SamePlaces s after
same_places s after h = record { count = ap (λ (w : Outline). w.variables) h; first = ap (λ (w : Outline). w.formal) h }

all_same : (s : State) (n : Next) → Keeps (outline s.activations) n → AllSamePlaces s n
all_same s (halts h) keeps = tt
all_same s (moves e after) keeps = same_places s after keeps
all_same s (tells request e after) keeps = same_places s after keeps
all_same s (asks request answers) keeps = λ granted. same_places s (answers granted) (keeps granted)
all_same s (picks count taking) keeps = λ i. same_places s (taking i) (keeps i)

-- A body's steps keep its formal parameter: a simple one writes to other variables alone, and what comes first of it is no end of a call.
pub places_stay :
    (types : List TypeDefinition) (bodies : List BodyForm) (first : ℕ) (s : State) → IsWithinBody first s.control → AllSamePlaces s (next types bodies s)
places_stay types bodies first s within =
    all_same s (next types bodies s) (step_keeps types bodies first (outline s.activations) s.mode s.control s within refl)
