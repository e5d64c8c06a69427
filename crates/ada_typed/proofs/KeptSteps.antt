-- Each step that neither begins a call nor ends one keeps the running body and what waits for it, whatever the state, where no type overrides an operation.

use Rattle.std.proofs.Common.{◌≡◌, ℕ, ℤ, int_le, not, if◌then◌else◌, Bool, true, false, List, [], ◌∷◌, length, map, drop, Option, Some, None, Result, Ok, Err, refl, ap, ◌∙◌}
use Rattle.std.specs.List.{slice_get, slice_index_or, slice_set}
use Rattle.ada_program.specs.declared.program.Exception.TheVariants.{ConstraintError, StorageError, EndError}
use Rattle.ada_program.specs.declared.program.TypeDefinition.{TypeDefinition}
use Rattle.ada_program.specs.Form.{RecordPathForm, ActualForm, in_value, in_null, in_access, in_record, in_out_path, in_out_access, in_out_component, in_out_record, ExpressionForm, integer, boolean, reads, is_null, applied_to, chained, LinksForm, no_more_links, a_link, ItemForm, null_item, item_of_path, item_of_value, item_of_record, RightForm, nothing, value_of, allocates, allocates_default, computes, StmtForm, skips, assigns, assigns_record, frees, gets, writes, writes_text, chooses, repeats, counts, exits, calls, returns, raises as raises_it, encloses, StmtsForm, no_stmts, a_stmt, BranchesForm, otherwise, a_branch, HandlersForm, DeclarationForm, creates_pool, collects, declares, declares_record}
use Rattle.ada_parts.specs.declared.tasks.Direction.TheVariants.{PartsFirst, WholeFirst}
use Rattle.ada_parts.specs.Part.{Part}
use Rattle.ada_parts.specs.Task.{performs, next as task_next}
use Rattle.ada_program.specs.Controlled.{OverridesNothing}
use Rattle.ada_program.specs.declared.program.Exception.{Exception}
use Rattle.ada_program.specs.ProgramForm.{BodyForm}
use Rattle.ada_program.specs.Typed.{reached_of, words_of, width_of}
use Rattle.ada_values.specs.declared.operator.BinaryOperator.{BinaryOperator}
use Rattle.ada_values.specs.declared.fault.OperatorFault.{OperatorFault}
use Rattle.ada_values.specs.declared.fault.OperatorFault.TheVariants.{Overflow, DivisionByZero, WrongType}
use Rattle.ada_meaning.specs.declared.state.Value.{Value}
use Rattle.ada_meaning.specs.declared.state.Value.TheVariants.{Null, Names}
use Rattle.ada_meaning.specs.declared.state.Mode.{Mode}
use Rattle.ada_meaning.specs.declared.state.Mode.TheVariants.{Running, Raising, Exiting, Returning}
use Rattle.ada_meaning.specs.declared.event.Cause.{Cause}
use Rattle.ada_meaning.specs.declared.event.Cause.TheVariants.{Leaving, Freeing, Assigning, Undoing}
use Rattle.ada_meaning.specs.declared.event.Halt.TheVariants.{Erroneous}
use Rattle.ada_meaning.specs.declared.event.Why.TheVariants.{GivesElsewhere}
use Rattle.ada_meaning.specs.declared.event.Birth.{Birth}
use Rattle.ada_meaning.specs.declared.event.Birth.TheVariants.{Creation, Copy, Adjustment}
use Rattle.ada_meaning.specs.declared.state.Place.{Place}
use Rattle.ada_meaning.specs.Event.{Event, Followed, Quiet}
use Rattle.ada_meaning.specs.Frame.{Frame, is_return, Landing, passes_on, goes_behind, goes_in, breaks_off, escapes}
use Rattle.ada_meaning.specs.Frame as frame
use Rattle.ada_meaning.specs.State.{Owned, declared, collection, record_object, storage_pool, Item, Master, Destination, height, home_of, pool_freed_to}
use Rattle.ada_meaning.specs.Heap.{Cell, Found, on_null, on_gone, on_other, finds}
use Rattle.ada_meaning.specs.Step.{halts, moves, at, operands, places, popped, owned, put, before_last, last_of, in_front, record_in, held, newest, reading, component_next, follow_next, path_next, selected, named_next, holder_next, record_holder_next, place_in, computed, referred_next, refers_next, open_next, opened_next, opens_next, expression_next, null_test_next, is_decided, link_next, links_next, outcome_next, item_next, items_next, copied_next, copies_next, newest_ones, without_newest, new_cell, answered, new_next, initial_values, right_next, freeing, freeing_next, free_next, end_next, same_pool, told_back, given_back, back_next, assign_next, target_next, has_parts, record_tasks, treating, copy_next, record_assign_next, assigns_next, stored_next, store_next, record_target_next, record_stored_next, store_record_next, all_tasks, taken_out, frees_next, freed_next, free_component_next, free_in_next, branches_next, decided_next, turn_next, repeats_next, turned_next, count_turn_next, ranges_next, gets_next, received_next, receive_next, exit_next, exited_next, computing, call_next, stmt_next, stmts_next, line_next, record_cell, made, record_next, declaration_next, declarations_next, members_next, item_leave_next, master_leave_next, leave_next, frame_next, undo_next, broken_next, broken_off, landed, pass_next}
use Rattle.ada_meaning.specs.Named.{State, Next, named, refer, whole, base, part_base, same, inside, look, standing, lent, on_object, parted, finished, returned, new_object, members, reads_integer, reads_boolean, reads_null, unary_given, binary_given}
use Rattle.ada_typed.proofs.Control.{actuals_at, references_at}
use Rattle.ada_typed.proofs.KeptTreatments.{awaited_keeps, treats_keeps}
use Rattle.ada_typed.proofs.Kept.{behind_call, behind_treating, crosses, is_treatment, Keeps, Each, altered, each_after, jumping_keeps, keeps_all, older_operands, older_places, operated, placed, popped_keeps, procedure_operands, procedure_places, put_keeps, stay_more, stay_on, stay_stored, stay_stored_from, still}

-- Paths and expressions.
reading_keeps : (cs : List ℕ) (v : Value) (s : State) → Keeps s (reading named cs v s)
reading_keeps [] v s = operated (v ∷ operands s) refl refl refl
reading_keeps (c ∷ cs) v s = operated (v ∷ operands s) refl refl refl

component_keeps : (o : Value) (cs : List ℕ) (found : Option Value) (s : State) → Each (Keeps s) (component_next named o cs found s)
component_keeps o cs None s = tt
component_keeps o cs (Some v) s = reading_keeps cs v s

follow_keeps : (o : Value) (c : ℕ) (cs : List ℕ) (found : Found (Cell Value)) (s : State) → Each (Keeps s) (follow_next named o c cs found s)
follow_keeps o c cs on_null s = jumping_keeps (Raising ConstraintError) s
follow_keeps o c cs on_gone s = tt
follow_keeps o c cs on_other s = tt
follow_keeps o c cs (finds cell) s = component_keeps o cs (slice_get cell.values c) s

path_keeps : (cs : List ℕ) (v : Value) (s : State) → Each (Keeps s) (path_next named cs v s)
path_keeps [] v s = operated (v ∷ operands s) refl refl refl
path_keeps (c ∷ cs) v s = follow_keeps v c cs (look s.heap v) s

-- The value of a path is wanted by this frame.
path_for : (f : Frame Value) (cs : List ℕ) (v : Value) (s : State) → is_return f ≡ false → Each (Keeps s) (path_next named cs v (at (f ∷ s.control) s))
path_for f cs v s none =
    each_after s (at (f ∷ s.control) s) (path_next named cs v (at (f ∷ s.control) s))
    (still refl refl (ap (λ (return : Bool). if return then Some (record { actuals = actuals_at f; references = references_at f; left = s.control }) else behind_call s.control) none)) (path_keeps cs v (at (f ∷ s.control) s))

named_keeps : (cs : List ℕ) (x : ℕ) (s : State) → Each (Keeps s) (named_next named cs x s)
named_keeps cs x s = path_keeps (selected named (held named s x) cs) (whole (held named s x)) s

holder_keeps : (c : ℕ) (cs : List ℕ) (x : ℕ) (frame_of : ℕ → Frame Value) (s : State) → ((last : ℕ) → is_return (frame_of last) ≡ false) → Each (Keeps s) (holder_next named c cs x frame_of s)
holder_keeps c cs x frame_of s none =
    let v = held named s x in
    path_for (frame_of (last_of (inside v c) cs)) (before_last (inside v c) cs) (whole v) s (none (last_of (inside v c) cs))

record_holder_keeps : (q : RecordPathForm) (frame_of : Place → Frame Value) (s : State) → ((place : Place) → is_return (frame_of place) ≡ false) → Each (Keeps s) (record_holder_next named q frame_of s)
record_holder_keeps q frame_of s none =
    let v = held named s q.object.root in
    let place = place_in named v q.object.selectors q in
    path_for (frame_of place) (selected named v q.object.selectors) (whole v) s (none place)

expression_keeps : (e : ExpressionForm) (s : State) → Each (Keeps s) (expression_next named e s)
expression_keeps (integer i) s = operated (named.integer i ∷ operands s) refl refl refl
expression_keeps (boolean b) s = operated (named.boolean b ∷ operands s) refl refl refl
expression_keeps (reads path) s = named_keeps path.selectors path.root s
expression_keeps (is_null equal path) s = path_for (frame.TestsNull equal) (selected named (held named s path.root) path.selectors) (whole (held named s path.root)) s refl
expression_keeps (applied_to operator e) s = still refl refl refl
expression_keeps (chained e links) s = still refl refl refl

null_test_keeps : (equal : Bool) (truth : Option Bool) (s : State) → Each (Keeps s) (null_test_next named equal truth s)
null_test_keeps equal None s = tt
null_test_keeps true (Some null) s = operated (named.boolean null ∷ operands s) refl refl refl
null_test_keeps false (Some null) s = operated (named.boolean (not null) ∷ operands s) refl refl refl

link_keeps : (decided : Bool) (operator : BinaryOperator) (e : ExpressionForm) (links : LinksForm) (s : State) → Each (Keeps s) (link_next named decided operator e links s)
link_keeps true operator e links s = still refl refl refl
link_keeps false operator e links s = still refl refl refl

links_keeps : (links : LinksForm) (s : State) → Each (Keeps s) (links_next named links s)
links_keeps no_more_links s = still refl refl refl
links_keeps (a_link operator e links) s = link_keeps (is_decided named operator (reads_boolean (newest named s))) operator e links s

outcome_keeps : (outcome : Result Value OperatorFault) (s : State) → Each (Keeps s) (outcome_next named outcome s)
outcome_keeps (Ok v) s = operated (v ∷ operands s) refl refl refl
outcome_keeps (Err Overflow) s = jumping_keeps (Raising ConstraintError) s
outcome_keeps (Err DivisionByZero) s = jumping_keeps (Raising ConstraintError) s
outcome_keeps (Err WrongType) s = tt

-- Allocators, and what is assigned.
item_keeps : (item : ItemForm) (s : State) → Each (Keeps s) (item_next named item s)
item_keeps null_item s = operated (Null ∷ operands s) refl refl refl
item_keeps (item_of_path path) s = named_keeps path.selectors path.root s
item_keeps (item_of_value e) s = still refl refl refl
item_keeps (item_of_record p) s = record_holder_keeps p (λ place. frame.Copies place.component p.record_type) s (λ place. refl)

items_keeps : (items : List ItemForm) (s : State) → Each (Keeps s) (items_next named items s)
items_keeps [] s = still refl refl refl
items_keeps (i ∷ items) s =
    each_after s (at (frame.Fills items ∷ s.control) s) (item_next named i (at (frame.Fills items ∷ s.control) s)) (still refl refl refl) (item_keeps i (at (frame.Fills items ∷ s.control) s))

referred_keeps : (o : Value) (place : Place) (found : Option (List Value)) (s : State) → Each (Keeps s) (referred_next named o place found s)
referred_keeps o place None s = tt
referred_keeps o place (Some vs) s = operated (refer o place ∷ operands s) refl refl refl

refers_keeps : (o : Value) (place : Place) (count : ℕ) (found : Found (Cell Value)) (s : State) → Each (Keeps s) (refers_next named o place count found s)
refers_keeps o place count on_null s = jumping_keeps (Raising ConstraintError) s
refers_keeps o place count on_gone s = tt
refers_keeps o place count on_other s = tt
refers_keeps o place count (finds cell) s = referred_keeps o place (record_in cell.values place.component count) s

open_keeps : (cs : List ℕ) (x : ℕ) (s : State) → Each (Keeps s) (open_next named cs x s)
open_keeps [] x s = tt
open_keeps (c ∷ cs) x s = holder_keeps c cs x (λ last. frame.OpensIn last) s (λ last. refl)

opened_keeps : (o : Value) (c : ℕ) (found : Option Value) (s : State) → Each (Keeps s) (opened_next named o c found s)
opened_keeps o c None s = tt
opened_keeps o c (Some v) s =
    let there = refer o (record { component = c; part = 0 }) in
    keeps_all s (computed there s) (computed v (computed there s)) (operated (there ∷ operands s) refl refl refl) (operated (v ∷ operands (computed there s)) refl refl refl)

opens_keeps : (o : Value) (c : ℕ) (found : Found (Cell Value)) (s : State) → Each (Keeps s) (opens_next named o c found s)
opens_keeps o c on_null s = jumping_keeps (Raising ConstraintError) s
opens_keeps o c on_gone s = tt
opens_keeps o c on_other s = tt
opens_keeps o c (finds cell) s = opened_keeps o c (slice_get cell.values c) s

copied_keeps : (o : Value) (found : Option (List Value)) (s : State) → Each (Keeps s) (copied_next named o found s)
copied_keeps o None s = tt
copied_keeps o (Some vs) s = operated (in_front vs (operands s)) refl refl refl

copies_keeps : (o : Value) (first count : ℕ) (found : Found (Cell Value)) (s : State) → Each (Keeps s) (copies_next named o first count found s)
copies_keeps o first count on_null s = jumping_keeps (Raising ConstraintError) s
copies_keeps o first count on_gone s = tt
copies_keeps o first count on_other s = tt
copies_keeps o first count (finds cell) s = copied_keeps o (record_in cell.values first count) s

answered_keeps : (types : List TypeDefinition) (access count words : ℕ) (home : Destination) (s : State) (granted : Bool) → Keeps s (answered named types access count words home s granted)
answered_keeps types access count words home s true = record {
  stay = stay_more s.heap (new_object (new_cell named types access count home s));
  procedure = procedure_operands (Names (record { 0 = length s.heap }) ∷ drop count (operands s)) s.activations;
  suspended = older_operands (Names (record { 0 = length s.heap }) ∷ drop count (operands s)) s.activations;
  behind = behind_treating (Names (record { 0 = length s.heap })) (frame.begins Creation []) (all_tasks types access PartsFirst) s.control;
}
answered_keeps types access count words home s false = jumping_keeps (Raising StorageError) s

new_keeps : (types : List TypeDefinition) (access count words : ℕ) (home : Option Destination) (s : State) → Each (Keeps s) (new_next named types access count words home s)
new_keeps types access count words None s = jumping_keeps (Raising StorageError) s
new_keeps types access count words (Some home) s = answered_keeps types access count words home s

right_keeps : (types : List TypeDefinition) (right : RightForm) (s : State) → Each (Keeps s) (right_next named types right s)
right_keeps types nothing s = operated (Null ∷ operands s) refl refl refl
right_keeps types (value_of path) s = named_keeps path.selectors path.root s
right_keeps types (allocates access items) s = still refl refl refl
right_keeps types (allocates_default access) s = operated (in_front (initial_values named (reached_of types access)) (operands s)) refl refl refl
right_keeps types (computes e) s = still refl refl refl

-- Frees, and the end of objects.
freeing_keeps : (types : List TypeDefinition) (access : ℕ) (v : Value) (cell : Cell Value) (clears : Frame Value) (s : State) → is_return clears ≡ false → Keeps s (freeing named types access v cell clears s)
freeing_keeps types access v cell clears s none =
    let back = frame.GivesBack v (Freeing s.next) (Some (pool_freed_to (home_of access s.masters))) in
    altered (stay_on parted s.heap v (λ x. refl)) refl
    (behind_treating v (frame.ends (Freeing s.next)) (all_tasks types cell.access WholeFirst) (frame.Ends v ∷ back ∷ clears ∷ s.control)
    ∙ ap (λ (return : Bool). if return then Some (record { actuals = actuals_at clears; references = references_at clears; left = s.control }) else behind_call s.control) none)

freeing_next_keeps : (types : List TypeDefinition) (access : ℕ) (v : Value) (cell : Cell Value) (clears : Frame Value) (event : Event Value) (s : State) → is_return clears ≡ false → Each (Keeps s) (freeing_next named types access v cell clears event s)
freeing_next_keeps types access v cell clears event s none = by_pool (same_pool (Some (pool_freed_to (home_of access s.masters))) cell.home.pool)
  where
    by_pool : (own : Bool) → Each (Keeps s) (if own then moves event (freeing named types access v cell clears s) else halts (Erroneous GivesElsewhere))
    by_pool true = freeing_keeps types access v cell clears s none
    by_pool false = tt

free_keeps : (types : List TypeDefinition) (access x : ℕ) (v : Value) (found : Found (Cell Value)) (s : State) → Each (Keeps s) (free_next named types access x v found s)
free_keeps types access x v on_null s = still refl refl refl
free_keeps types access x v on_gone s = tt
free_keeps types access x v on_other s = tt
free_keeps types access x v (finds cell) s = freeing_next_keeps types access v cell (frame.Clears x) Quiet s refl

freed_keeps : (types : List TypeDefinition) (access : ℕ) (o : Value) (c : ℕ) (v : Value) (found : Found (Cell Value)) (s : State) → Each (Keeps s) (freed_next named types access o c v found s)
freed_keeps types access o c v on_null s = still refl refl refl
freed_keeps types access o c v on_gone s = tt
freed_keeps types access o c v on_other s = tt
freed_keeps types access o c v (finds cell) s = freeing_next_keeps types access v cell (frame.ClearsIn o c) (Followed o) s refl

free_component_keeps : (types : List TypeDefinition) (access : ℕ) (o : Value) (c : ℕ) (found : Option Value) (s : State) → Each (Keeps s) (free_component_next named types access o c found s)
free_component_keeps types access o c None s = tt
free_component_keeps types access o c (Some v) s = freed_keeps types access o c v (standing s.heap v) s

free_in_keeps : (types : List TypeDefinition) (access : ℕ) (o : Value) (c : ℕ) (found : Found (Cell Value)) (s : State) → Each (Keeps s) (free_in_next named types access o c found s)
free_in_keeps types access o c on_null s = jumping_keeps (Raising ConstraintError) s
free_in_keeps types access o c on_gone s = tt
free_in_keeps types access o c on_other s = tt
free_in_keeps types access o c (finds cell) s = free_component_keeps types access o c (slice_get cell.values c) s

frees_keeps : (types : List TypeDefinition) (cs : List ℕ) (access x : ℕ) (s : State) → Each (Keeps s) (frees_next named types cs access x s)
frees_keeps types [] access x s = free_keeps types access x (held named s x) (standing s.heap (held named s x)) s
frees_keeps types (c ∷ cs) access x s = holder_keeps c cs x (λ last. frame.FreesIn access last) s (λ last. refl)

end_keeps : (v : Value) (found : Found (Cell Value)) (s : State) → Each (Keeps s) (end_next named v found s)
end_keeps v on_null s = tt
end_keeps v on_gone s = tt
end_keeps v on_other s = tt
end_keeps v (finds cell) s = altered (stay_on finished s.heap v (λ x. refl)) refl refl

told_keeps : (pool : Option ℕ) (v : Value) (event : Event Value) (s : State) → Each (Keeps s) (told_back named pool v event (record s { heap = on_object returned s.heap v }))
told_keeps None v event s = altered (stay_on returned s.heap v (λ x. refl)) refl refl
told_keeps (Some pool) v event s = altered (stay_on returned s.heap v (λ x. refl)) refl refl

given_keeps : (same : Bool) (v : Value) (cause : Cause) (cell : Cell Value) (why : Next) (s : State) → Each (Keeps s) why → Each (Keeps s) (if same then given_back named v cause cell s else why)
given_keeps true v cause cell why s other = told_keeps cell.home.pool v _ s
given_keeps false v cause cell why s other = other

back_keeps : (v : Value) (cause : Cause) (pool : Option ℕ) (found : Found (Cell Value)) (s : State) → Each (Keeps s) (back_next named v cause pool found s)
back_keeps v cause pool on_null s = tt
back_keeps v cause pool on_gone s = tt
back_keeps v cause pool on_other s = tt
back_keeps v cause pool (finds cell) s = given_keeps (same_pool pool cell.home.pool) v cause cell _ s tt

-- Assignments.
assign_keeps : (cs : List ℕ) (x : ℕ) (right : RightForm) (s : State) → Each (Keeps s) (assign_next named cs x right s)
assign_keeps [] x right s = still refl refl refl
assign_keeps (c ∷ cs) x right s = holder_keeps c cs x (λ last. frame.Targets last right) s (λ last. refl)

target_keeps : (o : Value) (c : ℕ) (right : RightForm) (found : Found (Cell Value)) (s : State) → Each (Keeps s) (target_next named o c right found s)
target_keeps o c right on_null s = jumping_keeps (Raising ConstraintError) s
target_keeps o c right on_gone s = tt
target_keeps o c right on_other s = tt
target_keeps o c right (finds cell) s = still refl refl refl

stored_keeps : (o : Value) (c : ℕ) (v : Value) (found : Option Value) (s : State) → Each (Keeps s) (stored_next named o c v found s)
stored_keeps o c v None s = tt
stored_keeps o c v (Some before) s = altered (stay_stored s.heap o c v) refl refl

store_keeps : (o : Value) (c : ℕ) (v : Value) (found : Found (Cell Value)) (s : State) → Each (Keeps s) (store_next named o c v found s)
store_keeps o c v on_null s = tt
store_keeps o c v on_gone s = tt
store_keeps o c v on_other s = tt
store_keeps o c v (finds cell) s = stored_keeps o c v (slice_get cell.values c) s

record_target_keeps : (o : Value) (first count : ℕ) (items : List ItemForm) (found : Found (Cell Value)) (s : State) → Each (Keeps s) (record_target_next named o first count items found s)
record_target_keeps o first count items on_null s = jumping_keeps (Raising ConstraintError) s
record_target_keeps o first count items on_gone s = tt
record_target_keeps o first count items on_other s = tt
record_target_keeps o first count items (finds cell) s = still refl refl refl

record_stored_keeps : (o : Value) (first : ℕ) (vs : List Value) (found : Option (List Value)) (s : State) → Each (Keeps s) (record_stored_next named o first vs found s)
record_stored_keeps o first vs None s = tt
record_stored_keeps o first vs (Some before) s = altered (stay_stored_from s.heap o first vs) refl refl

store_record_keeps : (o : Value) (first count : ℕ) (found : Found (Cell Value)) (s : State) → Each (Keeps s) (store_record_next named o first count found s)
store_record_keeps o first count on_null s = tt
store_record_keeps o first count on_gone s = tt
store_record_keeps o first count on_other s = tt
store_record_keeps o first count (finds cell) s =
    let without = without_newest named count s in
    each_after s without (record_stored_next named o first (newest_ones named count s) (record_in cell.values first count) without)
    (operated (drop count (operands s)) refl refl refl) (record_stored_keeps o first (newest_ones named count s) (record_in cell.values first count) without)

copy_keeps : (target : RecordPathForm) (items : List ItemForm) (s : State) → Each (Keeps s) (copy_next named target items s)
copy_keeps target [] s = tt
copy_keeps target (null_item ∷ items) s = tt
copy_keeps target (item_of_path path ∷ items) s = tt
copy_keeps target (item_of_value e ∷ items) s = tt
copy_keeps target (item_of_record source ∷ []) s = still refl refl refl
copy_keeps target (item_of_record source ∷ i ∷ items) s = tt

record_assign_keeps : (parts : Bool) (target : RecordPathForm) (items : List ItemForm) (s : State) → Each (Keeps s) (record_assign_next named parts target items s)
record_assign_keeps true target items s = copy_keeps target items s
record_assign_keeps false target items s =
    record_holder_keeps target (λ place. frame.TargetsRecord place.component target.record_type items) s (λ place. refl)

assigns_keeps : (types : List TypeDefinition) (t : ℕ) (target source : Value) (alike : Option Bool) (s : State) → Each (Keeps s) (assigns_next named types t target source alike s)
assigns_keeps types t target source None s = tt
assigns_keeps types t target source (Some true) s = still refl refl refl
assigns_keeps types t target source (Some false) s =
    let adjusting = treating (whole target) (frame.begins (Adjustment s.next) []) (record_tasks types t PartsFirst (part_base target)) s.control in
    operated (whole source ∷ operands s) refl refl
    (behind_treating (whole target) (frame.ends (Assigning s.next)) (record_tasks types t WholeFirst (part_base target)) (frame.Copies (base source) t ∷ frame.StoresRecord (whole target) (base target) (width_of types t) ∷ adjusting)
    ∙ behind_treating (whole target) (frame.begins (Adjustment s.next) []) (record_tasks types t PartsFirst (part_base target)) s.control)

-- Statements.
branches_keeps : (branches : BranchesForm) (s : State) → Each (Keeps s) (branches_next named branches s)
branches_keeps (otherwise fs) s = still refl refl refl
branches_keeps (a_branch e fs branches) s = still refl refl refl

decided_keeps : (fs : StmtsForm) (branches : BranchesForm) (truth : Option Bool) (s : State) → Each (Keeps s) (decided_next named fs branches truth s)
decided_keeps fs branches None s = tt
decided_keeps fs branches (Some true) s = still refl refl refl
decided_keeps fs branches (Some false) s = branches_keeps branches s

turn_keeps : (condition : Option ExpressionForm) (fs : StmtsForm) (s : State) → Each (Keeps s) (turn_next named condition fs s)
turn_keeps condition no_stmts s = tt
turn_keeps condition (a_stmt f fs) s = still refl refl refl

repeats_keeps : (condition : Option ExpressionForm) (fs : StmtsForm) (s : State) → Each (Keeps s) (repeats_next named condition fs s)
repeats_keeps None fs s = turn_keeps None fs s
repeats_keeps (Some e) fs s = still refl refl refl

turned_keeps : (e : ExpressionForm) (fs : StmtsForm) (truth : Option Bool) (s : State) → Each (Keeps s) (turned_next named e fs truth s)
turned_keeps e fs None s = tt
turned_keeps e fs (Some true) s = turn_keeps (Some e) fs s
turned_keeps e fs (Some false) s = still refl refl refl

count_turn_keeps : (x : ℕ) (value last : ℤ) (fs : StmtsForm) (s : State) → Each (Keeps s) (count_turn_next named x value last fs s)
count_turn_keeps x value last no_stmts s = tt
count_turn_keeps x value last (a_stmt f fs) s = placed (slice_set (places s) x (named.integer value)) refl refl refl

counts_keeps : (again : Bool) (x : ℕ) (value last : ℤ) (fs : StmtsForm) (s : State) → Each (Keeps s) (if again then count_turn_next named x value last fs s else moves Quiet s)
counts_keeps true x value last fs s = count_turn_keeps x value last fs s
counts_keeps false x value last fs s = still refl refl refl

ranges_keeps : (x : ℕ) (fs : StmtsForm) (low high : Option ℤ) (s : State) → Each (Keeps s) (ranges_next named x fs low high s)
ranges_keeps x fs None high s = tt
ranges_keeps x fs (Some low) None s = tt
ranges_keeps x fs (Some low) (Some high) s = counts_keeps (int_le low high) x low high fs s

gets_keeps : (cs : List ℕ) (x : ℕ) (input : List ℤ) (s : State) → Each (Keeps s) (gets_next named cs x input s)
gets_keeps (c ∷ cs) x input s = holder_keeps c cs x (λ last. frame.Receives last) s (λ last. refl)
gets_keeps [] x [] s = jumping_keeps (Raising EndError) s
gets_keeps [] x (i ∷ input) s = placed (slice_set (places s) x (named.integer i)) refl refl refl

received_keeps : (o : Value) (c : ℕ) (input : List ℤ) (found : Option Value) (s : State) → Each (Keeps s) (received_next named o c input found s)
received_keeps o c input None s = tt
received_keeps o c [] (Some before) s = jumping_keeps (Raising EndError) s
received_keeps o c (i ∷ input) (Some before) s = altered (stay_stored s.heap o c (named.integer i)) refl refl

receive_keeps : (o : Value) (c : ℕ) (found : Found (Cell Value)) (s : State) → Each (Keeps s) (receive_next named o c found s)
receive_keeps o c on_null s = jumping_keeps (Raising ConstraintError) s
receive_keeps o c on_gone s = tt
receive_keeps o c on_other s = tt
receive_keeps o c (finds cell) s = received_keeps o c s.input (slice_get cell.values c) s

exit_keeps : (condition : Option ExpressionForm) (s : State) → Each (Keeps s) (exit_next named condition s)
exit_keeps None s = jumping_keeps Exiting s
exit_keeps (Some e) s = still refl refl refl

exited_keeps : (truth : Option Bool) (s : State) → Each (Keeps s) (exited_next named truth s)
exited_keeps None s = tt
exited_keeps (Some true) s = jumping_keeps Exiting s
exited_keeps (Some false) s = still refl refl refl

behind_computing : (actuals : List ActualForm) (k : List (Frame Value)) → behind_call (computing named actuals k) ≡ behind_call k
behind_computing [] k = refl
behind_computing (in_value e ∷ rest) k = behind_computing rest k
behind_computing (in_null ∷ rest) k = behind_computing rest k
behind_computing (in_access path ∷ rest) k = behind_computing rest k
behind_computing (in_record p ∷ rest) k = behind_computing rest k
behind_computing (in_out_path path ∷ rest) k = behind_computing rest k
behind_computing (in_out_access path ∷ rest) k = behind_computing rest k
behind_computing (in_out_component path ∷ rest) k = behind_computing rest k
behind_computing (in_out_record p ∷ rest) k = behind_computing rest k

call_keeps : (procedure : ℕ) (actuals : List ActualForm) (found : Option BodyForm) (s : State) → Each (Keeps s) (call_next named procedure actuals found s)
call_keeps procedure actuals None s = tt
call_keeps procedure actuals (Some b) s = still refl refl (behind_computing actuals (frame.Calls procedure b actuals ∷ s.control))

stmt_keeps : (types : List TypeDefinition) (bodies : List BodyForm) (f : StmtForm) (s : State) → Each (Keeps s) (stmt_next named types bodies f s)
stmt_keeps types bodies skips s = still refl refl refl
stmt_keeps types bodies (assigns target right) s = assign_keeps target.selectors target.root right s
stmt_keeps types bodies (assigns_record target items) s =
    record_assign_keeps (has_parts types target.record_type) target items s
stmt_keeps types bodies (frees access path) s = frees_keeps types path.selectors access path.root s
stmt_keeps types bodies (gets target) s = gets_keeps target.selectors target.root s.input s
stmt_keeps types bodies (writes e) s = still refl refl refl
stmt_keeps types bodies (writes_text text) s = still refl refl refl
stmt_keeps types bodies (chooses branches) s = branches_keeps branches s
stmt_keeps types bodies (repeats condition fs end_spot) s = still refl refl refl
stmt_keeps types bodies (counts x low high fs end_spot) s = still refl refl refl
stmt_keeps types bodies (exits condition spot) s = exit_keeps condition s
stmt_keeps types bodies (calls procedure actuals) s = call_keeps procedure actuals (slice_get bodies procedure) s
stmt_keeps types bodies (returns spot) s = jumping_keeps Returning s
stmt_keeps types bodies (raises_it e) s = jumping_keeps (Raising e) s
stmt_keeps types bodies (encloses ds fs hs) s = still refl refl refl

stmts_keeps : (types : List TypeDefinition) (bodies : List BodyForm) (fs : StmtsForm) (s : State) → Each (Keeps s) (stmts_next named types bodies fs s)
stmts_keeps types bodies no_stmts s = still refl refl refl
stmts_keeps types bodies (a_stmt f fs) s =
    each_after s (at (frame.Does fs ∷ s.control) s) (stmt_next named types bodies f (at (frame.Does fs ∷ s.control) s)) (still refl refl refl) (stmt_keeps types bodies f (at (frame.Does fs ∷ s.control) s))

line_keeps : (i : Option ℤ) (s : State) → Each (Keeps s) (line_next named i s)
line_keeps None s = tt
line_keeps (Some i) s = still refl refl refl

-- Declarations.
made_keeps : (types : List TypeDefinition) (x t : ℕ) (by : Birth) (values : List Value) (s : State) → Keeps s (made named types x t by values s)
made_keeps types x t by values s =
    let name = Names (record { 0 = length s.heap }) in
    record {
      stay = stay_more s.heap (new_object (record_cell named types t (height s.masters) values));
      procedure = procedure_places (slice_set (places s) x name) s.activations;
      suspended = older_places (slice_set (places s) x name) s.activations;
      behind = behind_treating name (frame.begins by []) (all_tasks types t PartsFirst) s.control;
    }

record_keeps : (types : List TypeDefinition) (x t : ℕ) (initial : Option (List ItemForm)) (s : State) → Each (Keeps s) (record_next named types x t initial s)
record_keeps types x t None s = made_keeps types x t Creation (initial_values named (reached_of types t)) s
record_keeps types x t (Some items) s = still refl refl refl

declaration_keeps : (types : List TypeDefinition) (d : DeclarationForm) (s : State) → Each (Keeps s) (declaration_next named types d s)
declaration_keeps types (creates_pool pool) s = still refl refl refl
declaration_keeps types (collects access) s = still refl refl refl
declaration_keeps types (declares x right) s = still refl refl refl
declaration_keeps types (declares_record x t initial) s = record_keeps types x t initial s

declarations_keeps : (types : List TypeDefinition) (ds : List DeclarationForm) (fs : StmtsForm) (hs : HandlersForm) (s : State) → Each (Keeps s) (declarations_next named types ds fs hs s)
declarations_keeps types [] fs hs s = still refl refl refl
declarations_keeps types (d ∷ ds) fs hs s =
    let rest = at (frame.Elaborates ds fs hs ∷ s.control) s in
    each_after s rest (declaration_next named types d rest) (still refl refl refl) (declaration_keeps types d rest)

-- Masters that are left.
taken_keeps : (types : List TypeDefinition) (cause : Cause) (pool : Option ℕ) (v : Value) (found : Found (Cell Value)) (s : State) → Keeps s (taken_out named types cause pool v found s)
taken_keeps types cause pool v on_null s = altered (stay_on parted s.heap v (λ x. refl)) refl refl
taken_keeps types cause pool v on_gone s = altered (stay_on parted s.heap v (λ x. refl)) refl refl
taken_keeps types cause pool v on_other s = altered (stay_on parted s.heap v (λ x. refl)) refl refl
taken_keeps types cause pool v (finds cell) s =
    altered (stay_on parted s.heap v (λ x. refl)) refl
    (behind_treating v (frame.ends cause) (all_tasks types cell.access WholeFirst) (frame.Ends v ∷ frame.GivesBack v cause pool ∷ s.control))

members_keeps : (types : List TypeDefinition) (cause : Cause) (pool : Option ℕ) (vs : List Value) (s : State) → Each (Keeps s) (members_next named types cause pool vs s)
members_keeps types cause pool [] s = still refl refl refl
members_keeps types cause pool (v ∷ vs) s = λ i lt.
    let one = slice_index_or (v ∷ vs) i Null in
    taken_keeps types cause pool one (look s.heap one) s

item_leave_keeps : (types : List TypeDefinition) (m : ℕ) (item : Item) (what : Owned) (s : State) → Each (Keeps s) (item_leave_next named types m item what s)
item_leave_keeps types m item (declared x) s = still refl refl refl
item_leave_keeps types m item (collection access pool) s = members_keeps types (Leaving m item.number) pool (members s.heap item.number) s
item_leave_keeps types m item (record_object t) s = members_keeps types (Leaving m item.number) None (members s.heap item.number) s
item_leave_keeps types m item (storage_pool declaration number) s = still refl refl refl

master_leave_keeps : (types : List TypeDefinition) (mode : Mode) (m : ℕ) (items : List Item) (s : State) → Each (Keeps s) (master_leave_next named types mode m items s)
master_leave_keeps types mode m [] s = still refl refl refl
master_leave_keeps types mode m (item ∷ items) s =
    let rest = at (frame.Leaves mode ∷ s.control) s in
    each_after s rest (item_leave_next named types m item item.owned rest) (still refl refl refl) (item_leave_keeps types m item item.owned rest)

leave_keeps : (types : List TypeDefinition) (mode : Mode) (ms : List Master) (s : State) → Each (Keeps s) (leave_next named types mode ms s)
leave_keeps types mode [] s = tt
leave_keeps types mode (m ∷ ms) s = master_leave_keeps types mode m.number m.items s

-- Without the newest operand, or the two newest ones.
without_one : (s : State) (n : Next) → Each (Keeps (popped s)) n → Each (Keeps s) n
without_one s n keeps = each_after s (popped s) n (popped_keeps s) keeps

without_two : (s : State) (n : Next) → Each (Keeps (popped (popped s))) n → Each (Keeps s) n
without_two s n keeps = without_one s n (without_one (popped s) n keeps)

-- Each frame that is taken off, where no call begins or ends: no type overrides an operation, where an object is treated.
pub step_keeps : (types : List TypeDefinition) (bodies : List BodyForm) (f : Frame Value) (s : State) → (is_treatment f ≡ true → OverridesNothing types) → crosses f ≡ false → Each (Keeps s) (frame_next named types bodies f s)
step_keeps types bodies (frame.Elaborates ds fs hs) s inherits stays = declarations_keeps types ds fs hs s
step_keeps types bodies (frame.Does fs) s inherits stays = stmts_keeps types bodies fs s
step_keeps types bodies (frame.Decides fs branches) s inherits stays =
    without_one s (decided_next named fs branches (reads_boolean (newest named s)) (popped s)) (decided_keeps fs branches (reads_boolean (newest named s)) (popped s))
step_keeps types bodies (frame.Repeats condition fs) s inherits stays = repeats_keeps condition fs s
step_keeps types bodies (frame.Turns condition fs) s inherits stays =
    without_one s (turned_next named condition fs (reads_boolean (newest named s)) (popped s)) (turned_keeps condition fs (reads_boolean (newest named s)) (popped s))
step_keeps types bodies (frame.Ranges x fs) s inherits stays =
    let low = reads_integer (newest named (popped s)) in
    let high = reads_integer (newest named s) in
    without_two s (ranges_next named x fs low high (popped (popped s))) (ranges_keeps x fs low high (popped (popped s)))
step_keeps types bodies (frame.Counts x value last fs) s inherits stays = counts_keeps (int_le value last) x value last fs s
step_keeps types bodies frame.Exits s inherits stays =
    without_one s (exited_next named (reads_boolean (newest named s)) (popped s)) (exited_keeps (reads_boolean (newest named s)) (popped s))
step_keeps types bodies (frame.Handles hs) s inherits stays = still refl refl refl
step_keeps types bodies frame.Closes s inherits stays = still refl refl refl
step_keeps types bodies (frame.Leaves mode) s inherits stays = leave_keeps types mode s.masters s
step_keeps types bodies (frame.Calls procedure b actuals) s inherits stays = absurd (cc)
step_keeps types bodies (frame.Returns actuals references) s inherits stays = absurd (cc)
step_keeps types bodies (frame.Evaluates right) s inherits stays = right_keeps types right s
step_keeps types bodies (frame.Computes e) s inherits stays = expression_keeps e s
step_keeps types bodies (frame.Follows cs) s inherits stays = without_one s (path_next named cs (newest named s) (popped s)) (path_keeps cs (newest named s) (popped s))
step_keeps types bodies (frame.TestsNull equal) s inherits stays =
    without_one s (null_test_next named equal (reads_null (newest named s)) (popped s)) (null_test_keeps equal (reads_null (newest named s)) (popped s))
step_keeps types bodies (frame.Refers p) s inherits stays = record_holder_keeps p (λ place. frame.RefersIn place p.record_type) s (λ place. refl)
step_keeps types bodies (frame.RefersIn place t) s inherits stays =
    let found = look s.heap (newest named s) in
    without_one s (refers_next named (newest named s) place (width_of types t) found (popped s)) (refers_keeps (newest named s) place (width_of types t) found (popped s))
step_keeps types bodies (frame.Opens path) s inherits stays = open_keeps path.selectors path.root s
step_keeps types bodies (frame.OpensIn c) s inherits stays =
    let found = look s.heap (newest named s) in
    without_one s (opens_next named (newest named s) c found (popped s)) (opens_keeps (newest named s) c found (popped s))
step_keeps types bodies (frame.Continues links) s inherits stays = links_keeps links s
step_keeps types bodies (frame.Applies operator) s inherits stays =
    let outcome = binary_given operator (newest named (popped s)) (newest named s) in
    without_two s (outcome_next named outcome (popped (popped s))) (outcome_keeps outcome (popped (popped s)))
step_keeps types bodies (frame.AppliesAlone operator) s inherits stays =
    let outcome = unary_given operator (newest named s) in
    without_one s (outcome_next named outcome (popped s)) (outcome_keeps outcome (popped s))
step_keeps types bodies (frame.Fills items) s inherits stays = items_keeps items s
step_keeps types bodies (frame.Copies first t) s inherits stays =
    let found = look s.heap (newest named s) in
    without_one s (copies_next named (newest named s) first (width_of types t) found (popped s)) (copies_keeps (newest named s) first (width_of types t) found (popped s))
step_keeps types bodies (frame.Creates access count) s inherits stays = new_keeps types access count (words_of types access) (home_of access s.masters) s
step_keeps types bodies (frame.Stores x) s inherits stays = keeps_all s (popped s) (put x (newest named s) (popped s)) (popped_keeps s) (put_keeps x (newest named s) (popped s))
step_keeps types bodies (frame.Targets c right) s inherits stays =
    let found = look s.heap (newest named s) in
    without_one s (target_next named (newest named s) c right found (popped s)) (target_keeps (newest named s) c right found (popped s))
step_keeps types bodies (frame.StoresIn o c) s inherits stays =
    without_one s (store_next named o c (newest named s) (look s.heap o) (popped s)) (store_keeps o c (newest named s) (look s.heap o) (popped s))
step_keeps types bodies (frame.TargetsRecord first t items) s inherits stays =
    let found = look s.heap (newest named s) in
    without_one s (record_target_next named (newest named s) first (width_of types t) items found (popped s)) (record_target_keeps (newest named s) first (width_of types t) items found (popped s))
step_keeps types bodies (frame.StoresRecord o first count) s inherits stays = store_record_keeps o first count (look s.heap o) s
step_keeps types bodies (frame.Assigns t) s inherits stays =
    let target = newest named (popped s) in
    let source = newest named s in
    without_two s (assigns_next named types t target source (same target source) (popped (popped s))) (assigns_keeps types t target source (same target source) (popped (popped s)))
step_keeps types bodies (frame.Receives c) s inherits stays =
    let found = look s.heap (newest named s) in
    without_one s (receive_next named (newest named s) c found (popped s)) (receive_keeps (newest named s) c found (popped s))
step_keeps types bodies (frame.FreesIn access c) s inherits stays =
    let found = look s.heap (newest named s) in
    without_one s (free_in_next named types access (newest named s) c found (popped s)) (free_in_keeps types access (newest named s) c found (popped s))
step_keeps types bodies (frame.Declares x) s inherits stays =
    keeps_all s (popped s) (owned (declared x) (put x (newest named s) (popped s))) (popped_keeps s) (placed (slice_set (places (popped s)) x (newest named s)) refl refl refl)
step_keeps types bodies (frame.DeclaresRecord x t) s inherits stays =
    let without = without_newest named (words_of types t) s in
    keeps_all s without (made named types x t Copy (newest_ones named (words_of types t) s) without) (operated (drop (words_of types t) (operands s)) refl refl refl)
    (made_keeps types x t Copy (newest_ones named (words_of types t) s) without)
step_keeps types bodies (frame.Treats v treatment tasks) s inherits stays = treats_keeps types (inherits refl) bodies v treatment tasks (task_next tasks) s
step_keeps types bodies (frame.Awaits v by done of part tasks) s inherits stays = awaited_keeps v by done of part tasks (look s.heap v) s
step_keeps types bodies frame.Confines s inherits stays = still refl refl refl
step_keeps types bodies (frame.Resumes mode) s inherits stays = still refl refl refl
step_keeps types bodies frame.Writes s inherits stays = without_one s (line_next named (reads_integer (newest named s)) (popped s)) (line_keeps (reads_integer (newest named s)) (popped s))
step_keeps types bodies (frame.Ends v) s inherits stays = end_keeps v (look s.heap v) s
step_keeps types bodies (frame.GivesBack v cause pool) s inherits stays = back_keeps v cause pool (lent s.heap v) s
step_keeps types bodies (frame.Clears x) s inherits stays = put_keeps x Null s
step_keeps types bodies (frame.ClearsIn o c) s inherits stays = store_keeps o c Null (look s.heap o) s

-- So it is for each, where no type overrides an operation.
pub frame_keeps : (types : List TypeDefinition) → OverridesNothing types → (bodies : List BodyForm) (f : Frame Value) (s : State) → crosses f ≡ false → Each (Keeps s) (frame_next named types bodies f s)
frame_keeps types inherits bodies f s stays = step_keeps types bodies f s (λ treats. inherits) stays

-- An exception comes out of an Initialize: its object is undone.
undo_keeps : (e : Exception) (v : Value) (done : List Part) (found : Found (Cell Value)) (s : State) → Each (Keeps s) (undo_next named e v done found s)
undo_keeps e v done on_null s = tt
undo_keeps e v done on_gone s = tt
undo_keeps e v done on_other s = tt
undo_keeps e v done (finds cell) s =
    let tasks = map (λ (p : Part). performs p.of p.number) done in
    let behind = frame.Ends v ∷ frame.GivesBack v (Undoing s.next) cell.home.pool ∷ frame.Resumes (Raising e) ∷ s.control in
    record {
      stay = stay_on parted s.heap v (λ x. refl);
      procedure = procedure_operands [] s.activations;
      suspended = older_operands [] s.activations;
      behind = behind_treating v (frame.ends (Undoing s.next)) tasks behind;
    }

broken_keeps : (e : Exception) (v : Value) (by : Birth) (done : List Part) (s : State) → Each (Keeps s) (broken_next named e v by done s)
broken_keeps e v Creation done s = undo_keeps e v done (look s.heap v) s
broken_keeps e v Copy done s = tt
broken_keeps e v (Adjustment number) done s = tt

broken_off_keeps : (mode : Mode) (v : Value) (by : Birth) (done : List Part) (s : State) → Each (Keeps s) (broken_off named mode v by done s)
broken_off_keeps Running v by done s = tt
broken_off_keeps (Raising e) v by done s = broken_keeps e v by done s
broken_off_keeps Exiting v by done s = tt
broken_off_keeps Returning v by done s = tt

-- Jumps inside the running body.
landed_keeps : (landing : Landing Value) (mode : Mode) (s : State) → Each (Keeps s) (landed named landing mode s)
landed_keeps passes_on mode s = still refl refl refl
landed_keeps goes_behind mode s = still refl refl refl
landed_keeps (goes_in no_stmts) mode s = tt
landed_keeps (goes_in (a_stmt f fs)) mode s = still refl refl refl
landed_keeps (breaks_off v by done) mode s = broken_off_keeps mode v by done s
landed_keeps escapes mode s = tt

pub pass_keeps : (master : Bool) (landing : Landing Value) (mode : Mode) (s : State) → Each (Keeps s) (pass_next named master landing mode s)
pass_keeps true landing mode s = still refl refl refl
pass_keeps false landing mode s = landed_keeps landing mode s
