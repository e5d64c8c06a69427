-- What comes next of a body that spares an access type: a frame that follows selectors comes in front only with an operand that leads to another object, and one
-- that copies a record only where that has no component of an access type.

use Rattle.std.proofs.Common.{◌≡◌, ℕ, Bool, true, false, List, [], ◌∷◌, Option, Some, None, Result, Ok, Err, drop, map, refl, sym, subst}
use Rattle.std.specs.Prelude.{ℤ, int_le, if◌then◌else◌}
use Rattle.std.specs.List.{list_all, slice_get, slice_index_or}
use Rattle.std.proofs.lemmas.Bool.{and_parts}
use Rattle.ada_values.specs.declared.operator.BinaryOperator.{BinaryOperator}
use Rattle.ada_values.specs.declared.fault.OperatorFault.{OperatorFault}
use Rattle.ada_values.specs.declared.fault.OperatorFault.TheVariants.{Overflow, DivisionByZero, WrongType}
use Rattle.ada_program.specs.declared.program.Exception.{Exception}
use Rattle.ada_program.specs.declared.program.TypeDefinition.{TypeDefinition}
use Rattle.ada_program.specs.declared.program.VariableKind.{VariableKind}
use Rattle.ada_program.specs.declared.program.VariableKind.TheVariants as variable
use Rattle.ada_program.specs.Form.{RecordPathForm, ExpressionForm, integer, boolean, reads, is_null, applied_to, chained, LinksForm, no_more_links, a_link, ItemForm, null_item, item_of_path, item_of_value, item_of_record, RightForm, nothing, value_of, allocates, allocates_default, computes, StmtForm, skips, assigns, assigns_record, frees, gets, writes, writes_text, chooses, repeats, counts, exits, calls, returns, raises, encloses, StmtsForm, no_stmts, a_stmt, BranchesForm, otherwise, a_branch, HandlersForm, DeclarationForm, creates_pool, collects, declares, declares_record}
use Rattle.ada_program.specs.ProgramForm.{TypeForm, VariableForm, BodyForm}
use Rattle.ada_program.specs.Typed.{words_of, width_of}
use Rattle.ada_program.specs.WellFormed.{path_kind, variable_kind}
use Rattle.ada_parts.specs.declared.tasks.Direction.TheVariants.{PartsFirst, WholeFirst}
use Rattle.ada_parts.specs.Part.{Part}
use Rattle.ada_parts.specs.Task.{Task, performs}
use Rattle.ada_meaning.specs.declared.event.Birth.{Birth}
use Rattle.ada_meaning.specs.declared.event.Birth.TheVariants.{Creation, Copy, Adjustment}
use Rattle.ada_meaning.specs.declared.event.Cause.{Cause}
use Rattle.ada_meaning.specs.declared.event.Cause.TheVariants.{Leaving, Freeing, Undoing}
use Rattle.ada_meaning.specs.declared.event.Halt.TheVariants.{Erroneous}
use Rattle.ada_meaning.specs.declared.event.Why.TheVariants.{GivesElsewhere}
use Rattle.ada_meaning.specs.declared.state.Id.{Id}
use Rattle.ada_meaning.specs.declared.state.Mode.{Mode}
use Rattle.ada_meaning.specs.declared.state.Mode.TheVariants.{Running, Raising, Exiting, Returning}
use Rattle.ada_meaning.specs.declared.state.Value.{Value}
use Rattle.ada_meaning.specs.declared.state.Value.TheVariants.{Null}
use Rattle.ada_meaning.specs.Event.{Event, Back, Followed, Quiet}
use Rattle.ada_meaning.specs.Frame.{Treatment, begins, ends, Frame, is_master, Landing, passes_on, goes_behind, goes_in, breaks_off, escapes, landing}
use Rattle.ada_meaning.specs.Frame as frame
use Rattle.ada_meaning.specs.Heap.{Cell, Found, on_null, on_gone, on_other, finds}
use Rattle.ada_meaning.specs.State.{Activation, Destination, Item, Master, Owned, declared, collection, record_object, storage_pool, home_of, pool_freed_to}
use Rattle.ada_meaning.specs.Step.{halts, moves, tells, asks, picks, all_tasks, treating, same_pool, freeing, at, first_or, operands, operands_of, with_operands, places, newest, popped, held, reading, component_next, follow_next, path_next, selected, before_last, last_of, named_next, holder_next, place_in, expression_next, null_test_next, is_decided, link_next, links_next, outcome_next, item_next, items_next, record_in, copied_next, copies_next, answered, new_next, right_next, freeing_next, free_next, end_next, told_back, given_back, back_next, assign_next, target_next, stored_next, store_next, frees_next, freed_next, free_component_next, free_in_next, branches_next, decided_next, turn_next, repeats_next, turned_next, count_turn_next, ranges_next, gets_next, received_next, receive_next, exit_next, exited_next, stmt_next, stmts_next, line_next, declarations_next, taken_out, members_next, item_leave_next, master_leave_next, leave_next, frame_next, undo_next, broken_next, broken_off, landed, pass_next, unwound, has_parts, copy_next, record_assign_next, record_target_next, record_stored_next, store_record_next, newest_ones, without_newest}
use Rattle.ada_meaning.specs.Named.{Object, State, Next, named, object_at, whole, inside, look, lent, standing, returned, on_object, reads_integer, reads_boolean, reads_null, unary_given, binary_given, next}
use Rattle.ada_quiet.specs.Simple.{holds_one_value}
use Rattle.ada_flow.specs.Flow.{is_owning_record}
use Rattle.ada_tracked.specs.Seen.{IsOther}
use Rattle.ada_tracked.specs.Simple.{DeclarationsAreSimple, StatementIsSimple, StatementsAreSimple, FrameIsSimple}
use Rattle.ada_reaching.specs.Apart.{Apart}
use Rattle.ada_reaching.specs.Forms.{may_follow, selectors_shun, path_shuns, expression_shuns, item_shuns, right_shuns, statement_shuns, statements_shun, record_path_shuns}
use Rattle.ada_reaching.specs.Law.{AllGoOn}
use Rattle.ada_reaching.specs.Reaching.{FrameShuns, IsInFront, OperandSeeks, seeks_nothing}
use Rattle.ada_reaching.proofs.Jumps.{FirstIsRooted}
use Rattle.ada_reaching.proofs.Paths.{IsSound}
use Rattle.ada_reaching.proofs.Rooted.{ExpressionIsRooted, ItemsAreRooted, RightIsRooted, StatementIsRooted, StatementsAreRooted, FrameIsRooted}
use Rattle.ada_reaching.proofs.Selections.{IsRooted}
use Rattle.ada_sound.proofs.Invariant.{Control}
use Rattle.ada_sound.proofs.SparingPaths.{is_around, ReadsOther, FindsOther, component_other, named_finds, holder_finds}
use Rattle.ada_sound.proofs.SparingLooks.{no_ghosts, begins_following, CopiesBare, SoughtIsOther, ItemIsBare, NextIsBare, quiet_behind, NewestSeeks, seeks_so, next_follows}

-- What is left to do begins with no frame that looks for an object.
abbrev pub Calm : State → Type 0
Calm s = seeks_nothing s.control ≡ true

-- What is sought in a state leads to another object, and what is copied has no component of an access type.
abbrev pub Sought : List TypeForm → Id → State → Type 0
Sought types o s = SoughtIsOther types o s.mode s.control (operands s)

-- Where it begins so, it begins neither with selectors that are followed
calm_follows : (k : Control) → seeks_nothing k ≡ true → begins_following k ≡ false
calm_follows [] calm = refl
calm_follows (frame.Follows cs ∷ k) calm = absurd (cc)
calm_follows (f ∷ k) calm = refl

-- nor with a record that is copied.
calm_copies : (types : List TypeForm) (k : Control) → seeks_nothing k ≡ true → CopiesBare types k
calm_copies types [] calm = tt
calm_copies types (frame.Copies c t ∷ k) calm = absurd (cc)
calm_copies types (f ∷ k) calm = tt

-- So nothing is sought.
pub calm_sought : (types : List TypeForm) (o : Id) (m : Mode) (k : Control) (vs : List Value) → seeks_nothing k ≡ true → SoughtIsOther types o m k vs
calm_sought types o Running [] vs calm = tt
calm_sought types o Running (frame.Follows cs ∷ k) vs calm = absurd (cc)
calm_sought types o Running (frame.Copies c t ∷ k) vs calm = absurd (cc)
calm_sought types o Running (f ∷ k) vs calm = tt
calm_sought types o (Raising e) k vs calm = calm_follows k calm
calm_sought types o Exiting k vs calm = calm_follows k calm
calm_sought types o Returning k vs calm = calm_follows k calm

-- So it is with whatever comes next.
quietly : (types : List TypeForm) (o : Id) (n : Next) → AllGoOn Calm n → AllGoOn (Sought types o) n
quietly types o (halts h) calm = tt
quietly types o (moves e s) calm = calm_sought types o s.mode s.control (operands s) calm
quietly types o (tells request e s) calm = calm_sought types o s.mode s.control (operands s) calm
quietly types o (asks request answers) calm = λ granted.
    let s = answers granted in
    calm_sought types o s.mode s.control (operands s) (calm granted)
quietly types o (picks count taking) calm = λ i below.
    let s = taking i in
    calm_sought types o s.mode s.control (operands s) (calm i below)

-- A new object is initialized first, if it has controlled parts (7.6),
treating_calm :
    (v : Value) (by : Birth) (done : List Part) (tasks : List Task) (k : Control) → seeks_nothing k ≡ true
    → seeks_nothing (treating v (begins by done) tasks k) ≡ true
treating_calm v by done [] k calm = calm
treating_calm v by done (task ∷ tasks) k calm = refl

-- and one that is freed is finalized first (13.11.2),
freed_first :
    (v : Value) (number : ℕ) (tasks : List Task) (k : Control) → seeks_nothing k ≡ true → seeks_nothing (treating v (ends (Freeing number)) tasks k) ≡ true
freed_first v number [] k calm = calm
freed_first v number (task ∷ tasks) k calm = refl

-- or one whose master is left (7.6.1),
left_first :
    (v : Value) (m item : ℕ) (tasks : List Task) (k : Control) → seeks_nothing k ≡ true → seeks_nothing (treating v (ends (Leaving m item)) tasks k) ≡ true
left_first v m item [] k calm = calm
left_first v m item (task ∷ tasks) k calm = refl

-- or one that has begun in part.
undone_first :
    (v : Value) (number : ℕ) (tasks : List Task) (k : Control) → seeks_nothing k ≡ true → seeks_nothing (treating v (ends (Undoing number)) tasks k) ≡ true
undone_first v number [] k calm = calm
undone_first v number (task ∷ tasks) k calm = refl

-- A frame that reads a path, or begins with something that may.
abbrev reads_path : Frame Value → Bool
reads_path (frame.Does fs) = true
reads_path (frame.Evaluates right) = true
reads_path (frame.Computes e) = true
reads_path (frame.Follows cs) = true
reads_path (frame.Fills items) = true
reads_path f = false

-- Where what is left to do begins with no frame that looks for an object, it does so behind a step that reads no path.
module _ (tds : List TypeDefinition) (bodies : List BodyForm) where
  -- Expressions.
  null_test_calm : (equal : Bool) (found : Option Bool) (s : State) → Calm s → AllGoOn Calm (null_test_next named equal found s)
  null_test_calm true None s calm = tt
  null_test_calm false None s calm = tt
  null_test_calm true (Some null) s calm = calm
  null_test_calm false (Some null) s calm = calm

  link_calm :
      (decided : Bool) (operator : BinaryOperator) (e : ExpressionForm) (links : LinksForm) (s : State)
      → AllGoOn Calm (link_next named decided operator e links s)
  link_calm true operator e links s = refl
  link_calm false operator e links s = refl

  links_calm : (links : LinksForm) (s : State) → Calm s → AllGoOn Calm (links_next named links s)
  links_calm no_more_links s calm = calm
  links_calm (a_link operator e links) s calm = link_calm (is_decided named operator (reads_boolean (newest named s))) operator e links s

  outcome_calm : (given : Result Value OperatorFault) (s : State) → Calm s → AllGoOn Calm (outcome_next named given s)
  outcome_calm (Ok v) s calm = calm
  outcome_calm (Err Overflow) s calm = calm
  outcome_calm (Err DivisionByZero) s calm = calm
  outcome_calm (Err WrongType) s calm = tt

  -- Records that are copied.
  copied_calm : (v : Value) (found : Option (List Value)) (s : State) → Calm s → AllGoOn Calm (copied_next named v found s)
  copied_calm v None s calm = tt
  copied_calm v (Some vs) s calm = calm

  copies_calm : (v : Value) (c count : ℕ) (found : Found (Cell Value)) (s : State) → Calm s → AllGoOn Calm (copies_next named v c count found s)
  copies_calm v c count on_null s calm = calm
  copies_calm v c count on_gone s calm = tt
  copies_calm v c count on_other s calm = tt
  copies_calm v c count (finds cell) s calm = copied_calm v (record_in cell.values c count) s calm

  -- Allocators.
  answered_calm :
      (access count words : ℕ) (home : Destination) (s : State) → Calm s → (given : Bool) → Calm (answered named tds access count words home s given)
  answered_calm access count words home s calm true = treating_calm (named.created s.heap words) Creation [] (all_tasks tds access PartsFirst) s.control calm
  answered_calm access count words home s calm false = calm

  new_calm : (access count words : ℕ) (home : Option Destination) (s : State) → Calm s → AllGoOn Calm (new_next named tds access count words home s)
  new_calm access count words None s calm = calm
  new_calm access count words (Some home) s calm = answered_calm access count words home s calm

  -- What is freed, and what goes.
  freeing_by :
      (own : Bool) (access : ℕ) (v : Value) (cell : Cell Value) (clears : Frame Value) (e : Event Value) (s : State)
      → AllGoOn Calm (if own then moves e (freeing named tds access v cell clears s) else halts (Erroneous GivesElsewhere))
  freeing_by true access v cell clears e s =
      freed_first v s.next (all_tasks tds cell.access WholeFirst)
      (frame.Ends v ∷ frame.GivesBack v (Freeing s.next) (Some (pool_freed_to (home_of access s.masters))) ∷ clears ∷ s.control) refl
  freeing_by false access v cell clears e s = tt

  freeing_calm :
      (access : ℕ) (v : Value) (cell : Cell Value) (clears : Frame Value) (e : Event Value) (s : State)
      → AllGoOn Calm (freeing_next named tds access v cell clears e s)
  freeing_calm access v cell clears e s = freeing_by (same_pool (Some (pool_freed_to (home_of access s.masters))) cell.home.pool) access v cell clears e s

  free_calm : (access x : ℕ) (v : Value) (found : Found (Cell Value)) (s : State) → Calm s → AllGoOn Calm (free_next named tds access x v found s)
  free_calm access x v on_null s calm = calm
  free_calm access x v on_gone s calm = tt
  free_calm access x v on_other s calm = tt
  free_calm access x v (finds cell) s calm = freeing_calm access v cell (frame.Clears x) Quiet s

  freed_calm :
      (access : ℕ) (o : Value) (c : ℕ) (v : Value) (found : Found (Cell Value)) (s : State) → Calm s
      → AllGoOn Calm (freed_next named tds access o c v found s)
  freed_calm access o c v on_null s calm = calm
  freed_calm access o c v on_gone s calm = tt
  freed_calm access o c v on_other s calm = tt
  freed_calm access o c v (finds cell) s calm = freeing_calm access v cell (frame.ClearsIn o c) (Followed o) s

  component_freed_calm :
      (access : ℕ) (o : Value) (c : ℕ) (found : Option Value) (s : State) → Calm s → AllGoOn Calm (free_component_next named tds access o c found s)
  component_freed_calm access o c None s calm = tt
  component_freed_calm access o c (Some v) s calm = freed_calm access o c v (standing s.heap v) s calm

  free_in_calm : (access : ℕ) (o : Value) (c : ℕ) (found : Found (Cell Value)) (s : State) → Calm s → AllGoOn Calm (free_in_next named tds access o c found s)
  free_in_calm access o c on_null s calm = calm
  free_in_calm access o c on_gone s calm = tt
  free_in_calm access o c on_other s calm = tt
  free_in_calm access o c (finds cell) s calm = component_freed_calm access o c (slice_get cell.values c) s calm

  end_calm : (v : Value) (found : Found (Cell Value)) (s : State) → Calm s → AllGoOn Calm (end_next named v found s)
  end_calm v on_null s calm = tt
  end_calm v on_gone s calm = tt
  end_calm v on_other s calm = tt
  end_calm v (finds cell) s calm = calm

  told_calm : (pool : Option ℕ) (v : Value) (e : Event Value) (s : State) → Calm s → AllGoOn Calm (told_back named pool v e s)
  told_calm None v e s calm = calm
  told_calm (Some pool) v e s calm = calm

  given_calm :
      (own : Bool) (v : Value) (cause : Cause) (cell : Cell Value) (s : State) → Calm s
      → AllGoOn Calm (if own then given_back named v cause cell s else halts (Erroneous GivesElsewhere))
  given_calm true v cause cell s calm =
      told_calm cell.home.pool v (Back v cell.access cell.number cell.home.pool cell.home.subpool cause) (record s { heap = on_object returned s.heap v }) calm
  given_calm false v cause cell s calm = tt

  back_calm :
      (v : Value) (cause : Cause) (pool : Option ℕ) (found : Found (Cell Value)) (s : State) → Calm s → AllGoOn Calm (back_next named v cause pool found s)
  back_calm v cause pool on_null s calm = tt
  back_calm v cause pool on_gone s calm = tt
  back_calm v cause pool on_other s calm = tt
  back_calm v cause pool (finds cell) s calm = given_calm (same_pool pool cell.home.pool) v cause cell s calm

  -- What is assigned to, stored in and read to.
  target_calm : (o : Value) (c : ℕ) (right : RightForm) (found : Found (Cell Value)) (s : State) → Calm s → AllGoOn Calm (target_next named o c right found s)
  target_calm o c right on_null s calm = calm
  target_calm o c right on_gone s calm = tt
  target_calm o c right on_other s calm = tt
  target_calm o c right (finds cell) s calm = refl

  stored_calm : (o : Value) (c : ℕ) (v : Value) (found : Option Value) (s : State) → Calm s → AllGoOn Calm (stored_next named o c v found s)
  stored_calm o c v None s calm = tt
  stored_calm o c v (Some before) s calm = calm

  store_calm : (o : Value) (c : ℕ) (v : Value) (found : Found (Cell Value)) (s : State) → Calm s → AllGoOn Calm (store_next named o c v found s)
  store_calm o c v on_null s calm = tt
  store_calm o c v on_gone s calm = tt
  store_calm o c v on_other s calm = tt
  store_calm o c v (finds cell) s calm = stored_calm o c v (slice_get cell.values c) s calm

  record_target_calm :
      (o : Value) (c count : ℕ) (items : List ItemForm) (found : Found (Cell Value)) (s : State) → Calm s
      → AllGoOn Calm (record_target_next named o c count items found s)
  record_target_calm o c count items on_null s calm = calm
  record_target_calm o c count items on_gone s calm = tt
  record_target_calm o c count items on_other s calm = tt
  record_target_calm o c count items (finds cell) s calm = refl

  record_stored_calm :
      (o : Value) (c : ℕ) (us : List Value) (found : Option (List Value)) (s : State) → Calm s → AllGoOn Calm (record_stored_next named o c us found s)
  record_stored_calm o c us None s calm = tt
  record_stored_calm o c us (Some before) s calm = calm

  store_record_calm : (o : Value) (c count : ℕ) (found : Found (Cell Value)) (s : State) → Calm s → AllGoOn Calm (store_record_next named o c count found s)
  store_record_calm o c count on_null s calm = tt
  store_record_calm o c count on_gone s calm = tt
  store_record_calm o c count on_other s calm = tt
  store_record_calm o c count (finds cell) s calm =
      record_stored_calm o c (newest_ones named count s) (record_in cell.values c count) (without_newest named count s) calm

  -- A record with controlled parts gets its value from another one.
  copy_calm : (target : RecordPathForm) (items : List ItemForm) (s : State) → AllGoOn Calm (copy_next named target items s)
  copy_calm target [] s = tt
  copy_calm target (null_item ∷ is) s = tt
  copy_calm target (item_of_path path ∷ is) s = tt
  copy_calm target (item_of_value e ∷ is) s = tt
  copy_calm target (item_of_record source ∷ []) s = refl
  copy_calm target (item_of_record source ∷ i ∷ is) s = tt

  received_calm : (o : Value) (c : ℕ) (input : List ℤ) (found : Option Value) (s : State) → Calm s → AllGoOn Calm (received_next named o c input found s)
  received_calm o c input None s calm = tt
  received_calm o c [] (Some before) s calm = calm
  received_calm o c (i ∷ is) (Some before) s calm = calm

  receive_calm : (o : Value) (c : ℕ) (found : Found (Cell Value)) (s : State) → Calm s → AllGoOn Calm (receive_next named o c found s)
  receive_calm o c on_null s calm = calm
  receive_calm o c on_gone s calm = tt
  receive_calm o c on_other s calm = tt
  receive_calm o c (finds cell) s calm = received_calm o c s.input (slice_get cell.values c) s calm

  -- Branches and loops.
  branches_calm : (branches : BranchesForm) (s : State) → AllGoOn Calm (branches_next named branches s)
  branches_calm (otherwise fs) s = refl
  branches_calm (a_branch e fs branches) s = refl

  decided_calm : (fs : StmtsForm) (branches : BranchesForm) (truth : Option Bool) (s : State) → AllGoOn Calm (decided_next named fs branches truth s)
  decided_calm fs branches None s = tt
  decided_calm fs branches (Some true) s = refl
  decided_calm fs branches (Some false) s = branches_calm branches s

  turn_calm : (condition : Option ExpressionForm) (fs : StmtsForm) (s : State) → AllGoOn Calm (turn_next named condition fs s)
  turn_calm condition no_stmts s = tt
  turn_calm condition (a_stmt f fs) s = refl

  repeats_calm : (condition : Option ExpressionForm) (fs : StmtsForm) (s : State) → AllGoOn Calm (repeats_next named condition fs s)
  repeats_calm None fs s = turn_calm None fs s
  repeats_calm (Some e) fs s = refl

  turned_calm : (e : ExpressionForm) (fs : StmtsForm) (truth : Option Bool) (s : State) → Calm s → AllGoOn Calm (turned_next named e fs truth s)
  turned_calm e fs None s calm = tt
  turned_calm e fs (Some true) s calm = turn_calm (Some e) fs s
  turned_calm e fs (Some false) s calm = calm

  count_turn_calm : (x : ℕ) (value last : ℤ) (fs : StmtsForm) (s : State) → AllGoOn Calm (count_turn_next named x value last fs s)
  count_turn_calm x value last no_stmts s = tt
  count_turn_calm x value last (a_stmt f fs) s = refl

  counting_calm :
      (goes : Bool) (x : ℕ) (value last : ℤ) (fs : StmtsForm) (s : State) → Calm s
      → AllGoOn Calm (if goes then count_turn_next named x value last fs s else moves Quiet s)
  counting_calm true x value last fs s calm = count_turn_calm x value last fs s
  counting_calm false x value last fs s calm = calm

  ranges_calm : (x : ℕ) (fs : StmtsForm) (low high : Option ℤ) (s : State) → Calm s → AllGoOn Calm (ranges_next named x fs low high s)
  ranges_calm x fs None high s calm = tt
  ranges_calm x fs (Some low) None s calm = tt
  ranges_calm x fs (Some low) (Some high) s calm = counting_calm (int_le low high) x low high fs s calm

  exit_calm : (condition : Option ExpressionForm) (s : State) → Calm s → AllGoOn Calm (exit_next named condition s)
  exit_calm None s calm = calm
  exit_calm (Some e) s calm = refl

  exited_calm : (truth : Option Bool) (s : State) → Calm s → AllGoOn Calm (exited_next named truth s)
  exited_calm None s calm = tt
  exited_calm (Some true) s calm = calm
  exited_calm (Some false) s calm = calm

  -- Lines and declarations.
  line_calm : (found : Option ℤ) (s : State) → Calm s → AllGoOn Calm (line_next named found s)
  line_calm None s calm = tt
  line_calm (Some i) s calm = calm

  declarations_calm :
      (first : ℕ) (ds : List DeclarationForm) (fs : StmtsForm) (hs : HandlersForm) (s : State) → DeclarationsAreSimple first ds
      → AllGoOn Calm (declarations_next named tds ds fs hs s)
  declarations_calm first [] fs hs s simple = refl
  declarations_calm first (creates_pool pool ∷ ds) fs hs s simple = refl
  declarations_calm first (collects access ∷ ds) fs hs s simple = refl
  declarations_calm first (declares x right ∷ ds) fs hs s simple = refl
  declarations_calm first (declares_record x object_type initial ∷ ds) fs hs s simple = absurd simple.0

  -- Masters are left.
  taken_calm : (m item : ℕ) (pool : Option ℕ) (v : Value) (found : Found (Cell Value)) (s : State) → Calm (taken_out named tds (Leaving m item) pool v found s)
  taken_calm m item pool v on_null s = refl
  taken_calm m item pool v on_gone s = refl
  taken_calm m item pool v on_other s = refl
  taken_calm m item pool v (finds cell) s =
      left_first v m item (all_tasks tds cell.access WholeFirst) (frame.Ends v ∷ frame.GivesBack v (Leaving m item) pool ∷ s.control) refl

  members_calm : (m item : ℕ) (pool : Option ℕ) (vs : List Value) (s : State) → Calm s → AllGoOn Calm (members_next named tds (Leaving m item) pool vs s)
  members_calm m item pool [] s calm = calm
  members_calm m item pool (v ∷ vs) s calm = λ i below.
      taken_calm m item pool (slice_index_or (v ∷ vs) i named.null) (look s.heap (slice_index_or (v ∷ vs) i named.null)) s

  item_calm : (m : ℕ) (item : Item) (owned : Owned) (s : State) → Calm s → AllGoOn Calm (item_leave_next named tds m item owned s)
  item_calm m item (declared x) s calm = calm
  item_calm m item (collection access pool) s calm = members_calm m item.number pool (named.members s.heap item.number) s calm
  item_calm m item (record_object object_type) s calm = members_calm m item.number None (named.members s.heap item.number) s calm
  item_calm m item (storage_pool declaration number) s calm = calm

  master_calm : (mode : Mode) (m : ℕ) (items : List Item) (s : State) → Calm s → AllGoOn Calm (master_leave_next named tds mode m items s)
  master_calm mode m [] s calm = calm
  master_calm mode m (item ∷ items) s calm = item_calm m item item.owned (at (frame.Leaves mode ∷ s.control) s) refl

  leave_calm : (mode : Mode) (masters : List Master) (s : State) → Calm s → AllGoOn Calm (leave_next named tds mode masters s)
  leave_calm mode [] s calm = tt
  leave_calm mode (m ∷ ms) s calm = master_calm mode m.number m.items s calm

  -- What a frame does that reads no path.
  frame_calm :
      (first : ℕ) (f : Frame Value) (s : State) → FrameIsSimple first f → reads_path f ≡ false → Calm s → AllGoOn Calm (frame_next named tds bodies f s)
  frame_calm first (frame.Elaborates ds fs hs) s simple plain calm = declarations_calm first ds fs hs s simple.0
  frame_calm first (frame.Does fs) s simple plain calm = absurd (cc)
  frame_calm first (frame.Decides fs branches) s simple plain calm = decided_calm fs branches (reads_boolean (newest named s)) (popped s)
  frame_calm first (frame.Repeats condition fs) s simple plain calm = repeats_calm condition fs s
  frame_calm first (frame.Turns condition fs) s simple plain calm = turned_calm condition fs (reads_boolean (newest named s)) (popped s) calm
  frame_calm first (frame.Ranges x fs) s simple plain calm =
      ranges_calm x fs (reads_integer (newest named (popped s))) (reads_integer (newest named s)) (popped (popped s)) calm
  frame_calm first (frame.Counts x value last fs) s simple plain calm = counting_calm (int_le value last) x value last fs s calm
  frame_calm first frame.Exits s simple plain calm = exited_calm (reads_boolean (newest named s)) (popped s) calm
  frame_calm first (frame.Handles hs) s simple plain calm = calm
  frame_calm first frame.Closes s simple plain calm = refl
  frame_calm first (frame.Leaves mode) s simple plain calm = leave_calm mode s.masters s calm
  frame_calm first (frame.Calls procedure b actuals) s simple plain calm = absurd simple
  frame_calm first (frame.Returns actuals references) s simple plain calm = absurd simple
  frame_calm first (frame.Evaluates right) s simple plain calm = absurd (cc)
  frame_calm first (frame.Computes e) s simple plain calm = absurd (cc)
  frame_calm first (frame.Follows cs) s simple plain calm = absurd (cc)
  frame_calm first (frame.TestsNull equal) s simple plain calm = null_test_calm equal (reads_null (newest named s)) (popped s) calm
  frame_calm first (frame.Refers q) s simple plain calm = absurd simple
  frame_calm first (frame.RefersIn place record_type) s simple plain calm = absurd simple
  frame_calm first (frame.Opens path) s simple plain calm = absurd simple
  frame_calm first (frame.OpensIn c) s simple plain calm = absurd simple
  frame_calm first (frame.Continues links) s simple plain calm = links_calm links s calm
  frame_calm first (frame.Applies operator) s simple plain calm =
      outcome_calm (binary_given operator (newest named (popped s)) (newest named s)) (popped (popped s)) calm
  frame_calm first (frame.AppliesAlone operator) s simple plain calm = outcome_calm (unary_given operator (newest named s)) (popped s) calm
  frame_calm first (frame.Fills items) s simple plain calm = absurd (cc)
  frame_calm first (frame.Copies c record_type) s simple plain calm =
      copies_calm (newest named s) c (width_of tds record_type) (look s.heap (newest named s)) (popped s) calm
  frame_calm first (frame.Creates access count) s simple plain calm = new_calm access count (words_of tds access) (home_of access s.masters) s calm
  frame_calm first (frame.Stores x) s simple plain calm = calm
  frame_calm first (frame.Targets c right) s simple plain calm = target_calm (newest named s) c right (look s.heap (newest named s)) (popped s) calm
  frame_calm first (frame.StoresIn o c) s simple plain calm = store_calm o c (newest named s) (look s.heap o) (popped s) calm
  frame_calm first (frame.TargetsRecord c record_type items) s simple plain calm =
      record_target_calm (newest named s) c (width_of tds record_type) items (look s.heap (newest named s)) (popped s) calm
  frame_calm first (frame.StoresRecord o c count) s simple plain calm = store_record_calm o c count (look s.heap o) s calm
  frame_calm first (frame.Assigns record_type) s simple plain calm = absurd simple
  frame_calm first (frame.Receives c) s simple plain calm = receive_calm (newest named s) c (look s.heap (newest named s)) (popped s) calm
  frame_calm first (frame.FreesIn access c) s simple plain calm = free_in_calm access (newest named s) c (look s.heap (newest named s)) (popped s) calm
  frame_calm first (frame.Declares x) s simple plain calm = calm
  frame_calm first (frame.DeclaresRecord x record_type) s simple plain calm = absurd simple
  frame_calm first (frame.Treats v treatment tasks) s simple plain calm = absurd simple
  frame_calm first (frame.Awaits v by done of part tasks) s simple plain calm = absurd simple
  frame_calm first frame.Confines s simple plain calm = absurd simple
  frame_calm first (frame.Resumes mode) s simple plain calm = absurd simple
  frame_calm first frame.Writes s simple plain calm = line_calm (reads_integer (newest named s)) (popped s) calm
  frame_calm first (frame.Ends v) s simple plain calm = end_calm v (look s.heap v) s calm
  frame_calm first (frame.GivesBack v cause pool) s simple plain calm = back_calm v cause pool (lent s.heap v) s calm
  frame_calm first (frame.Clears x) s simple plain calm = calm
  frame_calm first (frame.ClearsIn o c) s simple plain calm = store_calm o c named.null (look s.heap o) s calm

  -- An exception comes out of an operation.
  undo_calm : (e : Exception) (v : Value) (done : List Part) (found : Found (Cell Value)) (s : State) → AllGoOn Calm (undo_next named e v done found s)
  undo_calm e v done on_null s = tt
  undo_calm e v done on_gone s = tt
  undo_calm e v done on_other s = tt
  undo_calm e v done (finds cell) s =
      undone_first v s.next (map (λ (p : Part). performs p.of p.number) done)
      (frame.Ends v ∷ frame.GivesBack v (Undoing s.next) cell.home.pool ∷ frame.Resumes (Raising e) ∷ s.control) refl

  broken_calm : (e : Exception) (v : Value) (by : Birth) (done : List Part) (s : State) → AllGoOn Calm (broken_next named e v by done s)
  broken_calm e v Creation done s = undo_calm e v done (look s.heap v) s
  broken_calm e v Copy done s = tt
  broken_calm e v (Adjustment number) done s = tt

  broken_off_calm : (m : Mode) (v : Value) (by : Birth) (done : List Part) (s : State) → AllGoOn Calm (broken_off named m v by done s)
  broken_off_calm Running v by done s = tt
  broken_off_calm (Raising e) v by done s = broken_calm e v by done s
  broken_off_calm Exiting v by done s = tt
  broken_off_calm Returning v by done s = tt

  -- A jump lands.
  landed_calm : (l : Landing Value) (m : Mode) (s : State) → Calm s → AllGoOn Calm (landed named l m s)
  landed_calm passes_on m s calm = calm
  landed_calm goes_behind m s calm = calm
  landed_calm (goes_in no_stmts) m s calm = tt
  landed_calm (goes_in (a_stmt f fs)) m s calm = refl
  landed_calm (breaks_off v by done) m s calm = broken_off_calm m v by done s
  landed_calm escapes m s calm = tt

  pass_calm : (stops : Bool) (l : Landing Value) (m : Mode) (s : State) → Calm s → AllGoOn Calm (pass_next named stops l m s)
  pass_calm true l m s calm = refl
  pass_calm false l m s calm = landed_calm l m s calm

  -- A jump comes to a frame.
  jump_calm :
      (first : ℕ) (m : Mode) (f : Frame Value) (s : State) → FrameIsSimple first f → Calm s
      → AllGoOn Calm (pass_next named (is_master f) (landing m f) m (unwound named m f s))
  jump_calm first m (frame.Returns actuals references) s simple calm = absurd simple
  jump_calm first m f s simple calm = pass_calm (is_master f) (landing m f) m s calm

-- A value becomes the newest operand.
value_sought :
    (types : List TypeForm) (o : Id) (m : Mode) (k : Control) (u : Value) (vs : List Value) (acts : List (Activation Value)) → begins_following k ≡ false
    → CopiesBare types k → SoughtIsOther types o m k (operands_of (with_operands (u ∷ vs) acts))
value_sought types o Running [] u vs acts first bare = tt
value_sought types o Running (frame.Follows cs ∷ k) u vs acts first bare = absurd (cc)
value_sought types o Running (f ∷ k) u vs acts first bare = bare
value_sought types o (Raising e) k u vs acts first bare = first
value_sought types o Exiting k u vs acts first bare = first
value_sought types o Returning k u vs acts first bare = first

-- Behind it selectors are followed.
followed_sought :
    (types : List TypeForm) (o : Id) (m : Mode) (cs : List ℕ) (k : Control) (u : Value) (vs : List Value) (acts : List (Activation Value)) → m ≡ Running
    → begins_following k ≡ false → CopiesBare types k → IsOther o u
    → SoughtIsOther types o m (frame.Follows cs ∷ k) (operands_of (with_operands (u ∷ vs) acts))
followed_sought types o m cs k u vs acts runs first bare other =
    subst (λ (mode : Mode). SoughtIsOther types o mode (frame.Follows cs ∷ k) (operands_of (with_operands (u ∷ vs) acts))) (sym runs) (by acts, first, bare)
  where
    by : (all : List (Activation Value)) → IsOther o (first_or Null (operands_of (with_operands (u ∷ vs) all)))
    by [] = refl
    by (a ∷ all) = other

module _ (types : List TypeForm) (o : Id) where
  -- A path has found a value.
  reading_sought :
      (cs : List ℕ) (u : Value) (s : State) → s.mode ≡ Running → begins_following s.control ≡ false → CopiesBare types s.control
      → ReadsOther o cs u → Sought types o (reading named cs u s)
  reading_sought [] u s runs first bare each = value_sought types o s.mode s.control u (operands s) s.activations first bare
  reading_sought (c ∷ cs) u s runs first bare each = followed_sought types o s.mode (c ∷ cs) s.control u (operands s) s.activations runs first bare each

  -- It reads a component.
  component_sought :
      (v : Value) (cs : List ℕ) (held : Option Value) (s : State) → s.mode ≡ Running → begins_following s.control ≡ false → CopiesBare types s.control
      → ((u : Value) → held ≡ Some u → ReadsOther o cs u) → AllGoOn (Sought types o) (component_next named v cs held s)
  component_sought v cs None s runs first bare each = tt
  component_sought v cs (Some u) s runs first bare each = reading_sought cs u s runs first bare (each u refl)

  -- It follows a value, and raises an exception, if that is null.
  follow_sought :
      (v : Value) (c : ℕ) (cs : List ℕ) (found : Found (Cell Value)) (s : State) → s.mode ≡ Running → begins_following s.control ≡ false
      → CopiesBare types s.control
      → ((cell : Cell Value) (u : Value) → found ≡ finds cell → slice_get cell.values c ≡ Some u → ReadsOther o cs u)
      → AllGoOn (Sought types o) (follow_next named v c cs found s)
  follow_sought v c cs on_null s runs first bare each = first
  follow_sought v c cs on_gone s runs first bare each = tt
  follow_sought v c cs on_other s runs first bare each = tt
  follow_sought v c cs (finds cell) s runs first bare each =
      component_sought v cs (slice_get cell.values c) s runs first bare (λ u is. each cell u refl is)

  -- It leads on from a value.
  path_sought :
      (cs : List ℕ) (v : Value) (s : State) → s.mode ≡ Running → begins_following s.control ≡ false → CopiesBare types s.control
      → FindsOther o s.heap cs v → AllGoOn (Sought types o) (path_next named cs v s)
  path_sought [] v s runs first bare finds_other = value_sought types o s.mode s.control v (operands s) s.activations first bare
  path_sought (c ∷ cs) v s runs first bare finds_other = follow_sought v c cs (look s.heap v) s runs first bare finds_other

module _ (types : List TypeForm) (variables : List VariableForm) (s : State) (sound : IsSound types variables s.heap (places s))
    (plain : list_all (λ y. holds_one_value y.kind) (drop 1 variables) ≡ true) (o : Id) (x : Object) (found : object_at s.heap o ≡ Some x)
    (apart : Apart) (runs : s.mode ≡ Running) where
  -- Which types are shunned.
  abbrev shuns : ℕ → Bool
  shuns = is_around x.cell.access

  -- A path is read.
  named_sought :
      (r : ℕ) (cs : List ℕ) (to : VariableKind) (k : Control) → seeks_nothing k ≡ true → IsRooted types variables r cs to
      → selectors_shun types shuns (variable_kind variables r) cs ≡ true → AllGoOn (Sought types o) (named_next named cs r (at k s))
  named_sought r cs to k calm root shun =
      path_sought types o (selected named (held named s r) cs) (whole (held named s r)) (at k s) runs (calm_follows k calm) (calm_copies types k calm)
      (named_finds types variables s sound plain o x found r cs to root shun)

  -- The object of its last component is found.
  holder_sought :
      (r c : ℕ) (cs : List ℕ) (to : VariableKind) (frame_of : ℕ → Frame Value) (k : Control) → ((n : ℕ) → begins_following (frame_of n ∷ k) ≡ false)
      → ((n : ℕ) → CopiesBare types (frame_of n ∷ k)) → IsRooted types variables r (c ∷ cs) to
      → selectors_shun types shuns (variable_kind variables r) (c ∷ cs) ≡ true → AllGoOn (Sought types o) (holder_next named c cs r frame_of (at k s))
  holder_sought r c cs to frame_of k follows copies root shun =
      let v = held named s r in
      let last = last_of (inside v c) cs in
      path_sought types o (before_last (inside v c) cs) (whole v) (at (frame_of last ∷ k) s) runs (follows last) (copies last)
      (holder_finds types variables s sound plain o x found r c cs to root shun)

  -- A record is found that is copied, which has no component of an access type.
  record_sought :
      (q : RecordPathForm) (to : VariableKind) (items : List ItemForm) (k : Control) → is_owning_record types q.record_type ≡ false
      → IsRooted types variables q.object.root q.object.selectors to
      → selectors_shun types shuns (variable_kind variables q.object.root) q.object.selectors ≡ true
      → AllGoOn (Sought types o) (item_next named (item_of_record q) (at (frame.Fills items ∷ k) s))
  record_sought q to items k bare root shun =
      let v = held named s q.object.root in
      path_sought types o (selected named v q.object.selectors) (whole v)
      (at (frame.Copies (place_in named v q.object.selectors q).component q.record_type ∷ frame.Fills items ∷ k) s) runs refl bare
      (named_finds types variables s sound plain o x found q.object.root q.object.selectors to root shun)

  -- An expression is evaluated.
  expression_sought :
      (e : ExpressionForm) → seeks_nothing s.control ≡ true → expression_shuns types shuns apart variables e ≡ true → ExpressionIsRooted types variables e
      → AllGoOn (Sought types o) (expression_next named e s)
  expression_sought (integer i) calm shun root = quietly types o (expression_next named (integer i) s) calm
  expression_sought (boolean b) calm shun root = quietly types o (expression_next named (boolean b) s) calm
  expression_sought (reads path) calm shun root = named_sought path.root path.selectors root.0 s.control calm root.1 shun
  expression_sought (is_null equal path) calm shun root =
      named_sought path.root path.selectors root.0 (frame.TestsNull equal ∷ s.control) refl root.1 shun
  expression_sought (applied_to operator e) calm shun root = quietly types o (expression_next named (applied_to operator e) s) refl
  expression_sought (chained e links) calm shun root = quietly types o (expression_next named (chained e links) s) refl

  -- The first of some items is.
  items_sought :
      (items : List ItemForm) → ItemIsBare types items → seeks_nothing s.control ≡ true
      → list_all (item_shuns types shuns apart variables) items ≡ true → ItemsAreRooted types variables items
      → AllGoOn (Sought types o) (items_next named items s)
  items_sought [] bare calm shun root = quietly types o (items_next named [] s) calm
  items_sought (null_item ∷ is) bare calm shun root = quietly types o (items_next named (null_item ∷ is) s) refl
  items_sought (item_of_path path ∷ is) bare calm shun root =
      let two = and_parts (item_shuns types shuns apart variables (item_of_path path)) (list_all (item_shuns types shuns apart variables) is) shun in
      named_sought path.root path.selectors root.0 (frame.Fills is ∷ s.control) refl root.1 two.0
  items_sought (item_of_value e ∷ is) bare calm shun root = quietly types o (items_next named (item_of_value e ∷ is) s) refl
  items_sought (item_of_record q ∷ is) bare calm shun root =
      let two = and_parts (item_shuns types shuns apart variables (item_of_record q)) (list_all (item_shuns types shuns apart variables) is) shun in
      let own = and_parts (path_shuns types shuns apart variables q.object) (may_follow shuns (path_kind types variables q.object)) two.0 in
      record_sought q root.0 is s.control bare root.1 own.0

  -- What is assigned is evaluated.
  right_sought :
      (tds : List TypeDefinition) (right : RightForm) → seeks_nothing s.control ≡ true → right_shuns types shuns apart variables right ≡ true
      → RightIsRooted types variables right → AllGoOn (Sought types o) (right_next named tds right s)
  right_sought tds nothing calm shun root = quietly types o (right_next named tds nothing s) calm
  right_sought tds (value_of path) calm shun root = named_sought path.root path.selectors root.0 s.control calm root.1 shun
  right_sought tds (allocates access items) calm shun root = quietly types o (right_next named tds (allocates access items) s) refl
  right_sought tds (allocates_default access) calm shun root = quietly types o (right_next named tds (allocates_default access) s) refl
  right_sought tds (computes e) calm shun root = quietly types o (right_next named tds (computes e) s) refl

  -- The target of an assignment is found, if it is a component.
  assign_sought :
      (r : ℕ) (cs : List ℕ) (to : VariableKind) (right : RightForm) (k : Control) → IsRooted types variables r cs to
      → selectors_shun types shuns (variable_kind variables r) cs ≡ true → AllGoOn (Sought types o) (assign_next named cs r right (at k s))
  assign_sought r [] to right k root shun = quietly types o (assign_next named [] r right (at k s)) refl
  assign_sought r (c ∷ cs) to right k root shun =
      holder_sought r c cs to (λ last. frame.Targets last right) k (λ n. refl) (λ n. tt) root shun

  -- So is what is freed,
  frees_sought :
      (tds : List TypeDefinition) (access r : ℕ) (cs : List ℕ) (to : VariableKind) (k : Control) → seeks_nothing k ≡ true
      → IsRooted types variables r cs to → selectors_shun types shuns (variable_kind variables r) cs ≡ true
      → AllGoOn (Sought types o) (frees_next named tds cs access r (at k s))
  frees_sought tds access r [] to k calm root shun =
      quietly types o (frees_next named tds [] access r (at k s))
      (free_calm tds [] access r (held named s r) (standing s.heap (held named s r)) (at k s) calm)
  frees_sought tds access r (c ∷ cs) to k calm root shun =
      holder_sought r c cs to (λ last. frame.FreesIn access last) k (λ n. refl) (λ n. tt) root shun

  -- and what is read to.
  gets_sought :
      (r : ℕ) (cs : List ℕ) (to : VariableKind) (input : List ℤ) (k : Control) → seeks_nothing k ≡ true → IsRooted types variables r cs to
      → selectors_shun types shuns (variable_kind variables r) cs ≡ true → AllGoOn (Sought types o) (gets_next named cs r input (at k s))
  gets_sought r (c ∷ cs) to input k calm root shun =
      holder_sought r c cs to (λ last. frame.Receives last) k (λ n. refl) (λ n. tt) root shun
  gets_sought r [] to [] k calm root shun = quietly types o (gets_next named [] r [] (at k s)) calm
  gets_sought r [] to (i ∷ is) k calm root shun = quietly types o (gets_next named [] r (i ∷ is) (at k s)) calm

  -- A record is found that is assigned to.
  assigned_sought :
      (target : RecordPathForm) (items : List ItemForm) (to : VariableKind) (k : Control) (parts : Bool)
      → IsRooted types variables target.object.root target.object.selectors to
      → selectors_shun types shuns (variable_kind variables target.object.root) target.object.selectors ≡ true
      → AllGoOn (Sought types o) (record_assign_next named parts target items (at k s))
  assigned_sought target items to k true root shun = quietly types o (copy_next named target items (at k s)) (copy_calm [] [] target items (at k s))
  assigned_sought target items to k false root shun =
      let v = held named s target.object.root in
      path_sought types o (selected named v target.object.selectors) (whole v)
      (at (frame.TargetsRecord (place_in named v target.object.selectors target).component target.record_type items ∷ k) s) runs refl tt
      (named_finds types variables s sound plain o x found target.object.root target.object.selectors to root shun)

  module _ (tds : List TypeDefinition) (bodies : List BodyForm) (first : ℕ) where
    -- A statement begins.
    statement_sought :
        (f : StmtForm) (k : Control) → StatementIsSimple first f → seeks_nothing k ≡ true → statement_shuns types shuns apart variables f ≡ true
        → StatementIsRooted types variables f → AllGoOn (Sought types o) (stmt_next named tds bodies f (at k s))
    statement_sought skips k simple calm shun root = quietly types o (stmt_next named tds bodies skips (at k s)) calm
    statement_sought (assigns target right) k simple calm shun root =
        let one = and_parts (path_shuns types shuns apart variables target) (right_shuns types shuns apart variables right) shun in
        assign_sought target.root target.selectors root.0 right k root.1 one.0
    statement_sought (assigns_record target items) k simple calm shun root =
        let three = and_parts _ _ shun in
        let one = and_parts (record_path_shuns types shuns apart variables target) (list_all (item_shuns types shuns apart variables) items) three.0 in
        let own = and_parts (path_shuns types shuns apart variables target.object) (may_follow shuns (path_kind types variables target.object)) one.0 in
        assigned_sought target items root.0 k (has_parts tds target.record_type) root.1 own.0
    statement_sought (frees access path) k simple calm shun root =
        let one = and_parts _ _ shun in
        let own = and_parts (path_shuns types shuns apart variables path) (may_follow shuns (path_kind types variables path)) one.0 in
        frees_sought tds access path.root path.selectors (variable.Access root.0) k calm root.1 own.0
    statement_sought (gets target) k simple calm shun root = gets_sought target.root target.selectors root.0 s.input k calm root.1 shun
    statement_sought (writes e) k simple calm shun root = quietly types o (stmt_next named tds bodies (writes e) (at k s)) refl
    statement_sought (writes_text text) k simple calm shun root = quietly types o (stmt_next named tds bodies (writes_text text) (at k s)) calm
    statement_sought (chooses branches) k simple calm shun root =
        quietly types o (stmt_next named tds bodies (chooses branches) (at k s)) (branches_calm tds bodies branches (at k s))
    statement_sought (repeats condition fs spot) k simple calm shun root =
        quietly types o (stmt_next named tds bodies (repeats condition fs spot) (at k s)) refl
    statement_sought (counts n low high fs spot) k simple calm shun root =
        quietly types o (stmt_next named tds bodies (counts n low high fs spot) (at k s)) refl
    statement_sought (exits condition spot) k simple calm shun root =
        quietly types o (stmt_next named tds bodies (exits condition spot) (at k s)) (exit_calm tds bodies condition (at k s) calm)
    statement_sought (calls procedure actuals) k simple calm shun root = absurd simple
    statement_sought (returns spot) k simple calm shun root = quietly types o (stmt_next named tds bodies (returns spot) (at k s)) calm
    statement_sought (raises e) k simple calm shun root = quietly types o (stmt_next named tds bodies (raises e) (at k s)) calm
    statement_sought (encloses ds fs hs) k simple calm shun root = quietly types o (stmt_next named tds bodies (encloses ds fs hs) (at k s)) refl

    -- The first of some statements does.
    statements_sought :
        (fs : StmtsForm) → StatementsAreSimple first fs → seeks_nothing s.control ≡ true → statements_shun types shuns apart variables fs ≡ true
        → StatementsAreRooted types variables fs → AllGoOn (Sought types o) (stmts_next named tds bodies fs s)
    statements_sought no_stmts simple calm shun root = quietly types o (stmts_next named tds bodies no_stmts s) calm
    statements_sought (a_stmt f fs) simple calm shun root =
        let two = and_parts (statement_shuns types shuns apart variables f) (statements_shun types shuns apart variables fs) shun in
        statement_sought f (frame.Does fs ∷ s.control) simple.0 refl two.0 root

    -- What is found behind the newest operand.
    behind_finds :
        (cs : List ℕ) → NewestSeeks types variables s sound plain o x found apart (frame.Follows cs ∷ s.control)
        → FindsOther o s.heap cs (newest named s)
    behind_finds [] seeks = tt
    behind_finds (c ∷ []) seeks = λ cell u is holds. tt
    behind_finds (c ∷ d ∷ cs) seeks =
        component_other types variables s sound plain o x found (newest named s) c
        (next_follows types variables s sound plain o x found apart c d cs s.control seeks)

    -- What a frame does.
    frame_sought :
        (f : Frame Value) → FrameIsSimple first f → FrameShuns types shuns apart bodies no_ghosts variables f → IsInFront f s.control
        → FrameIsRooted types variables f → NewestSeeks types variables s sound plain o x found apart (f ∷ s.control)
        → SoughtIsOther types o Running (f ∷ s.control) (operands s) → NextIsBare types Running (f ∷ s.control)
        → AllGoOn (Sought types o) (frame_next named tds bodies f s)
    frame_sought (frame.Does fs) simple shun front root seeks sought bare =
        statements_sought fs simple (quiet_behind first (frame.Does fs) s.control simple refl front) shun root
    frame_sought (frame.Evaluates right) simple shun front root seeks sought bare =
        right_sought tds right (quiet_behind first (frame.Evaluates right) s.control simple refl front) shun root
    frame_sought (frame.Computes e) simple shun front root seeks sought bare =
        expression_sought e (quiet_behind first (frame.Computes e) s.control simple refl front) shun root
    frame_sought (frame.Follows cs) simple shun front root seeks sought bare =
        path_sought types o cs (newest named s) (popped s) runs sought.1 sought.2 (behind_finds cs seeks)
    frame_sought (frame.Fills items) simple shun front root seeks sought bare =
        items_sought items bare (quiet_behind first (frame.Fills items) s.control simple refl front) shun root
    frame_sought f simple shun front root seeks sought bare =
        quietly types o (frame_next named tds bodies f s) (frame_calm tds bodies first f s simple refl (quiet_behind first f s.control simple refl front))

-- A step in any mode leaves it so.
module _ (types : List TypeForm) (variables : List VariableForm) (s : State) (sound : IsSound types variables s.heap (places s))
    (plain : list_all (λ y. holds_one_value y.kind) (drop 1 variables) ≡ true) (o : Id) (x : Object) (found : object_at s.heap o ≡ Some x)
    (apart : Apart) (tds : List TypeDefinition) (bodies : List BodyForm) (first : ℕ) where
  -- A jump comes to a frame.
  jump_sought :
      (m : Mode) (f : Frame Value) (k : Control) → FrameIsSimple first f → IsInFront f k → begins_following (f ∷ k) ≡ false
      → AllGoOn (Sought types o) (pass_next named (is_master f) (landing m f) m (unwound named m f (record s { mode = m; control = k })))
  jump_sought m f k simple front other =
      quietly types o (pass_next named (is_master f) (landing m f) m (unwound named m f (record s { mode = m; control = k })))
      (jump_calm tds bodies first m f (record s { mode = m; control = k }) simple (quiet_behind first f k simple other front))

  -- Any step is such.
  pub step_sought :
      (m : Mode) (f : Frame Value) (k : Control) → FrameIsSimple first f → FrameShuns types (is_around x.cell.access) apart bodies no_ghosts variables f
      → IsInFront f k → FirstIsRooted types variables m (f ∷ k)
      → OperandSeeks types (is_around x.cell.access) apart no_ghosts s.heap m (f ∷ k) (operands s) → SoughtIsOther types o m (f ∷ k) (operands s)
      → NextIsBare types m (f ∷ k)
      → AllGoOn (Sought types o) (next tds bodies (record s { mode = m; control = f ∷ k }))
  unfolding next
  step_sought Running f k simple shun front root seeks sought bare =
      let t : State = record s { mode = Running; control = k } in
      frame_sought types variables t sound plain o x found apart refl tds bodies first f simple shun front root
      (seeks_so types variables t sound plain o x found apart (f ∷ k) seeks) sought bare
  step_sought (Raising e) f k simple shun front root seeks sought bare = jump_sought (Raising e) f k simple front sought
  step_sought Exiting f k simple shun front root seeks sought bare = jump_sought Exiting f k simple front sought
  step_sought Returning f k simple shun front root seeks sought bare = jump_sought Returning f k simple front sought
