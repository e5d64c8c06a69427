-- Steps of statements, declarations and the leaving of masters keep the activations behind the running one.

use Rattle.std.proofs.Common.{◌≡◌, ℕ, ℤ, int_le, Bool, true, false, if◌then◌else◌, List, [], ◌∷◌, Option, Some, None}
use Rattle.std.specs.List.{slice_get, slice_index_or}
use Rattle.ada_program.specs.declared.program.TypeDefinition.{TypeDefinition}
use Rattle.ada_program.specs.Form.{RecordPathForm, ActualForm, ExpressionForm, integer, boolean, reads, is_null, applied_to, chained, LinksForm, no_more_links, a_link, ItemForm, null_item, item_of_path, item_of_value, item_of_record, RightForm, nothing, value_of, allocates, allocates_default, computes, StmtForm, skips, assigns, assigns_record, frees, gets, writes, writes_text, chooses, repeats, counts, exits, calls, raises, encloses, StmtsForm, no_stmts, a_stmt, BranchesForm, otherwise, a_branch, HandlersForm, DeclarationForm, creates_pool, collects, declares, declares_record}
use Rattle.ada_program.specs.Form as form
use Rattle.ada_program.specs.ProgramForm.{BodyForm}
use Rattle.ada_program.specs.Typed.{words_of, width_of}
use Rattle.ada_parts.specs.Task.{next as task_next}
use Rattle.ada_meaning.specs.declared.state.Place.{Place}
use Rattle.ada_meaning.specs.declared.state.Value.{Value}
use Rattle.ada_meaning.specs.declared.state.Value.TheVariants.{Null}
use Rattle.ada_meaning.specs.declared.state.Mode.{Mode}
use Rattle.ada_meaning.specs.declared.event.Cause.{Cause}
use Rattle.ada_meaning.specs.declared.event.Cause.TheVariants.{Leaving}
use Rattle.ada_meaning.specs.Event.{Followed, Quiet}
use Rattle.ada_meaning.specs.Frame.{Frame, is_master, Landing, passes_on, goes_behind, goes_in, landing}
use Rattle.ada_meaning.specs.Frame as frame
use Rattle.ada_meaning.specs.State.{Owned, declared, collection, record_object, storage_pool, Item, Master, home_of}
use Rattle.ada_meaning.specs.Heap.{Cell, Found, on_null, on_gone, on_other, finds}
use Rattle.ada_meaning.specs.Step.{referred_next, refers_next, open_next, opened_next, opens_next, record_in, newest_ones, without_newest, record_target_next, record_stored_next, store_record_next, assigns_next, copy_next, record_assign_next, has_parts, record_next, moves, at, computed, popped, held, newest, assign_next, target_next, stored_next, store_next, received_next, receive_next, frees_next, freed_next, free_component_next, free_in_next, branches_next, decided_next, turn_next, repeats_next, turned_next, count_turn_next, counts_next, ranges_next, gets_next, exit_next, exited_next, call_next, stmt_next, stmts_next, line_next, declaration_next, declarations_next, taken_out, members_next, item_leave_next, master_leave_next, leave_next, frame_next}
use Rattle.ada_meaning.specs.Named.{State, named, refer, same, look, standing, lent, reads_boolean, reads_null, reads_integer, unary_given, binary_given, members}
use Rattle.ada_meaning.specs.Ending.{frame_calls}
use Rattle.ada_meaning.proofs.Activations.{Shape, shape, Keeps, operands_kept, less, put_kept, path_keeps, holder_keeps, record_holder_keeps, expression_keeps, null_test_keeps, links_keep, outcome_keeps, items_keep, copies_keep, new_keeps, right_keeps, freeing_keeps, free_keeps, end_keeps, back_keeps, awaited_keeps, treats_keep}

-- Statements and declarations.
assign_keeps : {w : Shape} (cs : List ℕ) (x : ℕ) (right : RightForm) (s : State) → shape s.activations ≡ w → Keeps w (assign_next named cs x right s)
assign_keeps [] x right s h = h
assign_keeps (c ∷ cs) x right s h = holder_keeps c cs x (λ last. frame.Targets last right) s h

target_keeps :
    {w : Shape} (o : Value) (c : ℕ) (right : RightForm) (found : Found (Cell Value)) (s : State) → shape s.activations ≡ w
    → Keeps w (target_next named o c right found s)
target_keeps o c right on_null s h = operands_kept _ s h
target_keeps o c right on_gone s h = tt
target_keeps o c right on_other s h = tt
target_keeps o c right (finds cell) s h = h

stored_keeps :
    {w : Shape} (o : Value) (c : ℕ) (v : Value) (before : Option Value) (s : State) → shape s.activations ≡ w → Keeps w (stored_next named o c v before s)
stored_keeps o c v None s h = tt
stored_keeps o c v (Some before) s h = h

store_keeps :
    {w : Shape} (o : Value) (c : ℕ) (v : Value) (found : Found (Cell Value)) (s : State) → shape s.activations ≡ w → Keeps w (store_next named o c v found s)
store_keeps o c v on_null s h = tt
store_keeps o c v on_gone s h = tt
store_keeps o c v on_other s h = tt
store_keeps o c v (finds cell) s h = stored_keeps o c v (slice_get cell.values c) s h

-- A record that is assigned to.
record_target_keeps :
    {w : Shape} (o : Value) (first count : ℕ) (items : List ItemForm) (found : Found (Cell Value)) (s : State) → shape s.activations ≡ w
    → Keeps w (record_target_next named o first count items found s)
record_target_keeps o first count items on_null s h = operands_kept _ s h
record_target_keeps o first count items on_gone s h = tt
record_target_keeps o first count items on_other s h = tt
record_target_keeps o first count items (finds cell) s h = h

record_stored_keeps :
    {w : Shape} (o : Value) (first : ℕ) (vs : List Value) (before : Option (List Value)) (s : State) → shape s.activations ≡ w
    → Keeps w (record_stored_next named o first vs before s)
record_stored_keeps o first vs None s h = tt
record_stored_keeps o first vs (Some before) s h = h

store_record_keeps :
    {w : Shape} (o : Value) (first count : ℕ) (found : Found (Cell Value)) (s : State) → shape s.activations ≡ w
    → Keeps w (store_record_next named o first count found s)
store_record_keeps o first count on_null s h = tt
store_record_keeps o first count on_gone s h = tt
store_record_keeps o first count on_other s h = tt
store_record_keeps o first count (finds cell) s h =
    record_stored_keeps o first (newest_ones named count s) (record_in cell.values first count) (without_newest named count s) (operands_kept _ s h)

frees_keep :
    {w : Shape} (types : List TypeDefinition) (cs : List ℕ) (access x : ℕ) (s : State) → shape s.activations ≡ w
    → Keeps w (frees_next named types cs access x s)
frees_keep types [] access x s h = free_keeps types access x (held named s x) (standing s.heap (held named s x)) s h
frees_keep types (c ∷ cs) access x s h = holder_keeps c cs x (λ last. frame.FreesIn access last) s h

freed_keeps :
    {w : Shape} (types : List TypeDefinition) (access : ℕ) (o : Value) (c : ℕ) (v : Value) (found : Found (Cell Value)) (s : State) → shape s.activations ≡ w
    → Keeps w (freed_next named types access o c v found s)
freed_keeps types access o c v on_null s h = h
freed_keeps types access o c v on_gone s h = tt
freed_keeps types access o c v on_other s h = tt
freed_keeps types access o c v (finds cell) s h = freeing_keeps types access v cell (frame.ClearsIn o c) (Followed o) s h

free_component_keeps :
    {w : Shape} (types : List TypeDefinition) (access : ℕ) (o : Value) (c : ℕ) (held : Option Value) (s : State) → shape s.activations ≡ w
    → Keeps w (free_component_next named types access o c held s)
free_component_keeps types access o c None s h = tt
free_component_keeps types access o c (Some v) s h = freed_keeps types access o c v (standing s.heap v) s h

free_in_keeps :
    {w : Shape} (types : List TypeDefinition) (access : ℕ) (o : Value) (c : ℕ) (found : Found (Cell Value)) (s : State) → shape s.activations ≡ w
    → Keeps w (free_in_next named types access o c found s)
free_in_keeps types access o c on_null s h = operands_kept _ s h
free_in_keeps types access o c on_gone s h = tt
free_in_keeps types access o c on_other s h = tt
free_in_keeps types access o c (finds cell) s h = free_component_keeps types access o c (slice_get cell.values c) s h

branches_keep : {w : Shape} (branches : BranchesForm) (s : State) → shape s.activations ≡ w → Keeps w (branches_next named branches s)
branches_keep (otherwise fs) s h = h
branches_keep (a_branch e fs branches) s h = h

decided_keeps :
    {w : Shape} (fs : StmtsForm) (branches : BranchesForm) (truth : Option Bool) (s : State) → shape s.activations ≡ w
    → Keeps w (decided_next named fs branches truth s)
decided_keeps fs branches None s h = tt
decided_keeps fs branches (Some true) s h = h
decided_keeps fs branches (Some false) s h = branches_keep branches s h

turn_keeps : {w : Shape} (condition : Option ExpressionForm) (fs : StmtsForm) (s : State) → shape s.activations ≡ w → Keeps w (turn_next named condition fs s)
turn_keeps condition no_stmts s h = tt
turn_keeps condition (a_stmt f fs) s h = h

repeats_keep :
    {w : Shape} (condition : Option ExpressionForm) (fs : StmtsForm) (s : State) → shape s.activations ≡ w → Keeps w (repeats_next named condition fs s)
repeats_keep None fs s h = turn_keeps None fs s h
repeats_keep (Some e) fs s h = h

turned_keeps :
    {w : Shape} (e : ExpressionForm) (fs : StmtsForm) (truth : Option Bool) (s : State) → shape s.activations ≡ w → Keeps w (turned_next named e fs truth s)
turned_keeps e fs None s h = tt
turned_keeps e fs (Some true) s h = turn_keeps (Some e) fs s h
turned_keeps e fs (Some false) s h = h

count_turn_keeps :
    {w : Shape} (x : ℕ) (value last : ℤ) (fs : StmtsForm) (s : State) → shape s.activations ≡ w → Keeps w (count_turn_next named x value last fs s)
count_turn_keeps x value last no_stmts s h = tt
count_turn_keeps x value last (a_stmt f fs) s h = put_kept _ _ s h

counted_keeps :
    {w : Shape} (turns : Bool) (x : ℕ) (value last : ℤ) (fs : StmtsForm) (s : State) → shape s.activations ≡ w
    → Keeps w (if turns then count_turn_next named x value last fs s else moves Quiet s)
counted_keeps true x value last fs s h = count_turn_keeps x value last fs s h
counted_keeps false x value last fs s h = h

counts_keep : {w : Shape} (x : ℕ) (value last : ℤ) (fs : StmtsForm) (s : State) → shape s.activations ≡ w → Keeps w (counts_next named x value last fs s)
counts_keep x value last fs s h = counted_keeps (int_le value last) x value last fs s h

ranges_keep : {w : Shape} (x : ℕ) (fs : StmtsForm) (low high : Option ℤ) (s : State) → shape s.activations ≡ w → Keeps w (ranges_next named x fs low high s)
ranges_keep x fs None high s h = tt
ranges_keep x fs (Some low) None s h = tt
ranges_keep x fs (Some low) (Some high) s h = counts_keep x low high fs s h

gets_keep : {w : Shape} (cs : List ℕ) (x : ℕ) (input : List ℤ) (s : State) → shape s.activations ≡ w → Keeps w (gets_next named cs x input s)
gets_keep (c ∷ cs) x input s h = holder_keeps c cs x frame.Receives s h
gets_keep [] x [] s h = operands_kept _ s h
gets_keep [] x (i ∷ is) s h = put_kept _ _ s h

received_keeps :
    {w : Shape} (o : Value) (c : ℕ) (input : List ℤ) (before : Option Value) (s : State) → shape s.activations ≡ w
    → Keeps w (received_next named o c input before s)
received_keeps o c input None s h = tt
received_keeps o c [] (Some before) s h = operands_kept _ s h
received_keeps o c (i ∷ is) (Some before) s h = h

receive_keeps : {w : Shape} (o : Value) (c : ℕ) (found : Found (Cell Value)) (s : State) → shape s.activations ≡ w → Keeps w (receive_next named o c found s)
receive_keeps o c on_null s h = operands_kept _ s h
receive_keeps o c on_gone s h = tt
receive_keeps o c on_other s h = tt
receive_keeps o c (finds cell) s h = received_keeps o c s.input (slice_get cell.values c) s h

exit_keeps : {w : Shape} (condition : Option ExpressionForm) (s : State) → shape s.activations ≡ w → Keeps w (exit_next named condition s)
exit_keeps None s h = operands_kept _ s h
exit_keeps (Some e) s h = h

exited_keeps : {w : Shape} (truth : Option Bool) (s : State) → shape s.activations ≡ w → Keeps w (exited_next named truth s)
exited_keeps None s h = tt
exited_keeps (Some true) s h = operands_kept _ s h
exited_keeps (Some false) s h = h

-- What is given by reference.
referred_keeps :
    {w : Shape} (o : Value) (place : Place) (found : Option (List Value)) (s : State) → shape s.activations ≡ w → Keeps w (referred_next named o place found s)
referred_keeps o place None s h = tt
referred_keeps o place (Some vs) s h = operands_kept _ s h

refers_keep :
    {w : Shape} (o : Value) (place : Place) (count : ℕ) (found : Found (Cell Value)) (s : State) → shape s.activations ≡ w
    → Keeps w (refers_next named o place count found s)
refers_keep o place count on_null s h = operands_kept _ s h
refers_keep o place count on_gone s h = tt
refers_keep o place count on_other s h = tt
refers_keep o place count (finds cell) s h = referred_keeps o place (record_in cell.values place.component count) s h

open_keeps : {w : Shape} (cs : List ℕ) (x : ℕ) (s : State) → shape s.activations ≡ w → Keeps w (open_next named cs x s)
open_keeps [] x s h = tt
open_keeps (c ∷ cs) x s h = holder_keeps c cs x frame.OpensIn s h

opened_keeps : {w : Shape} (o : Value) (c : ℕ) (found : Option Value) (s : State) → shape s.activations ≡ w → Keeps w (opened_next named o c found s)
opened_keeps o c None s h = tt
opened_keeps o c (Some v) s h = operands_kept _ (computed (refer o (record { component = c; part = 0 })) s) (operands_kept _ s h)

opens_keep : {w : Shape} (o : Value) (c : ℕ) (found : Found (Cell Value)) (s : State) → shape s.activations ≡ w → Keeps w (opens_next named o c found s)
opens_keep o c on_null s h = operands_kept _ s h
opens_keep o c on_gone s h = tt
opens_keep o c on_other s h = tt
opens_keep o c (finds cell) s h = opened_keeps o c (slice_get cell.values c) s h

-- A call, and the end of one.
call_keeps :
    {w : Shape} (procedure : ℕ) (actuals : List ActualForm) (body : Option BodyForm) (s : State) → shape s.activations ≡ w
    → Keeps w (call_next named procedure actuals body s)
call_keeps procedure actuals None s h = tt
call_keeps procedure actuals (Some b) s h = h

-- A record that has controlled parts is assigned to another.
copy_keeps : {w : Shape} (target : RecordPathForm) (items : List ItemForm) (s : State) → shape s.activations ≡ w → Keeps w (copy_next named target items s)
copy_keeps target [] s h = tt
copy_keeps target (null_item ∷ items) s h = tt
copy_keeps target (item_of_path path ∷ items) s h = tt
copy_keeps target (item_of_value e ∷ items) s h = tt
copy_keeps target (item_of_record source ∷ []) s h = h
copy_keeps target (item_of_record source ∷ item ∷ items) s h = tt

record_assign_keeps :
    {w : Shape} (parts : Bool) (target : RecordPathForm) (items : List ItemForm) (s : State) → shape s.activations ≡ w
    → Keeps w (record_assign_next named parts target items s)
record_assign_keeps true target items s h = copy_keeps target items s h
record_assign_keeps false target items s h =
    record_holder_keeps target (λ place. frame.TargetsRecord place.component target.record_type items) s h

assigns_keep :
    {w : Shape} (types : List TypeDefinition) (t : ℕ) (target source : Value) (one : Option Bool) (s : State) → shape s.activations ≡ w
    → Keeps w (assigns_next named types t target source one s)
assigns_keep types t target source None s h = tt
assigns_keep types t target source (Some true) s h = h
assigns_keep types t target source (Some false) s h = operands_kept _ s h

stmt_keeps :
    {w : Shape} (types : List TypeDefinition) (bodies : List BodyForm) (f : StmtForm) (s : State) → shape s.activations ≡ w
    → Keeps w (stmt_next named types bodies f s)
stmt_keeps types bodies skips s h = h
stmt_keeps types bodies (assigns target right) s h = assign_keeps target.selectors target.root right s h
stmt_keeps types bodies (assigns_record target items) s h =
    record_assign_keeps (has_parts types target.record_type) target items s h
stmt_keeps types bodies (frees access path) s h = frees_keep types path.selectors access path.root s h
stmt_keeps types bodies (gets target) s h = gets_keep target.selectors target.root s.input s h
stmt_keeps types bodies (writes e) s h = h
stmt_keeps types bodies (writes_text text) s h = h
stmt_keeps types bodies (chooses branches) s h = branches_keep branches s h
stmt_keeps types bodies (repeats condition fs end_spot) s h = h
stmt_keeps types bodies (counts x low high fs end_spot) s h = h
stmt_keeps types bodies (exits condition spot) s h = exit_keeps condition s h
stmt_keeps types bodies (calls procedure actuals) s h = call_keeps procedure actuals (slice_get bodies procedure) s h
stmt_keeps types bodies (form.returns spot) s h = operands_kept _ s h
stmt_keeps types bodies (raises e) s h = operands_kept _ s h
stmt_keeps types bodies (encloses ds fs hs) s h = h

stmts_keep :
    {w : Shape} (types : List TypeDefinition) (bodies : List BodyForm) (fs : StmtsForm) (s : State) → shape s.activations ≡ w
    → Keeps w (stmts_next named types bodies fs s)
stmts_keep types bodies no_stmts s h = h
stmts_keep types bodies (a_stmt f fs) s h = stmt_keeps types bodies f (at (frame.Does fs ∷ s.control) s) h

line_keeps : {w : Shape} (read : Option ℤ) (s : State) → shape s.activations ≡ w → Keeps w (line_next named read s)
line_keeps None s h = tt
line_keeps (Some i) s h = h

record_keeps :
    {w : Shape} (types : List TypeDefinition) (x t : ℕ) (initial : Option (List ItemForm)) (s : State) → shape s.activations ≡ w
    → Keeps w (record_next named types x t initial s)
record_keeps types x t None s h = put_kept _ _ s h
record_keeps types x t (Some items) s h = h

declaration_keeps :
    {w : Shape} (types : List TypeDefinition) (d : DeclarationForm) (s : State) → shape s.activations ≡ w → Keeps w (declaration_next named types d s)
declaration_keeps types (creates_pool pool) s h = h
declaration_keeps types (collects access) s h = h
declaration_keeps types (declares x right) s h = h
declaration_keeps types (declares_record x t initial) s h = record_keeps types x t initial s h

declarations_keep :
    {w : Shape} (types : List TypeDefinition) (ds : List DeclarationForm) (fs : StmtsForm) (hs : HandlersForm) (s : State) → shape s.activations ≡ w
    → Keeps w (declarations_next named types ds fs hs s)
declarations_keep types [] fs hs s h = h
declarations_keep types (d ∷ ds) fs hs s h = declaration_keeps types d (at (frame.Elaborates ds fs hs ∷ s.control) s) h

-- The leaving of a master.
taken_keeps :
    {w : Shape} (types : List TypeDefinition) (cause : Cause) (pool : Option ℕ) (v : Value) (found : Found (Cell Value)) (s : State)
    → shape s.activations ≡ w → shape (taken_out named types cause pool v found s).activations ≡ w
taken_keeps types cause pool v on_null s h = h
taken_keeps types cause pool v on_gone s h = h
taken_keeps types cause pool v on_other s h = h
taken_keeps types cause pool v (finds cell) s h = h

members_keep :
    {w : Shape} (types : List TypeDefinition) (cause : Cause) (pool : Option ℕ) (vs : List Value) (s : State) → shape s.activations ≡ w
    → Keeps w (members_next named types cause pool vs s)
members_keep types cause pool [] s h = h
members_keep types cause pool (v ∷ vs) s h =
    λ i. taken_keeps types cause pool (slice_index_or (v ∷ vs) i Null) (look s.heap (slice_index_or (v ∷ vs) i Null)) s h

item_leave_keeps :
    {w : Shape} (types : List TypeDefinition) (m : ℕ) (item : Item) (owned : Owned) (s : State) → shape s.activations ≡ w
    → Keeps w (item_leave_next named types m item owned s)
item_leave_keeps types m item (declared x) s h = h
item_leave_keeps types m item (collection access pool) s h = members_keep types (Leaving m item.number) pool (members s.heap item.number) s h
item_leave_keeps types m item (record_object t) s h = members_keep types (Leaving m item.number) None (members s.heap item.number) s h
item_leave_keeps types m item (storage_pool declaration number) s h = h

master_leave_keeps :
    {w : Shape} (types : List TypeDefinition) (mode : Mode) (m : ℕ) (items : List Item) (s : State) → shape s.activations ≡ w
    → Keeps w (master_leave_next named types mode m items s)
master_leave_keeps types mode m [] s h = h
master_leave_keeps types mode m (item ∷ items) s h = item_leave_keeps types m item item.owned (at (frame.Leaves mode ∷ s.control) s) h

leave_keeps :
    {w : Shape} (types : List TypeDefinition) (mode : Mode) (ms : List Master) (s : State) → shape s.activations ≡ w
    → Keeps w (leave_next named types mode ms s)
leave_keeps types mode [] s h = tt
leave_keeps types mode (m ∷ ms) s h = master_leave_keeps types mode m.number m.items s h

-- Each frame that is taken off.
-- Neither the beginning nor the end of a call's body.
abbrev pub IsWithin : Frame Value → Type 0
IsWithin (frame.Calls procedure b actuals) = ⊥
IsWithin (frame.Returns actuals references) = ⊥
IsWithin f = Unit {0}

pub frame_keeps :
    {w : Shape} (types : List TypeDefinition) (bodies : List BodyForm) (f : Frame Value) (s : State) → IsWithin f → frame_calls types f ≡ false
    → shape s.activations ≡ w → Keeps w (frame_next named types bodies f s)
frame_keeps types bodies (frame.Elaborates ds fs hs) s i none h = declarations_keep types ds fs hs s h
frame_keeps types bodies (frame.Does fs) s i none h = stmts_keep types bodies fs s h
frame_keeps types bodies (frame.Decides fs branches) s i none h = decided_keeps fs branches (reads_boolean (newest named s)) (popped s) (less s h)
frame_keeps types bodies (frame.Repeats condition fs) s i none h = repeats_keep condition fs s h
frame_keeps types bodies (frame.Turns condition fs) s i none h = turned_keeps condition fs (reads_boolean (newest named s)) (popped s) (less s h)
frame_keeps types bodies (frame.Ranges x fs) s i none h =
    ranges_keep x fs (reads_integer (newest named (popped s))) (reads_integer (newest named s)) (popped (popped s)) (less (popped s) (less s h))
frame_keeps types bodies (frame.Counts x value last fs) s i none h = counts_keep x value last fs s h
frame_keeps types bodies frame.Exits s i none h = exited_keeps (reads_boolean (newest named s)) (popped s) (less s h)
frame_keeps types bodies (frame.Handles hs) s i none h = h
frame_keeps types bodies frame.Closes s i none h = h
frame_keeps types bodies (frame.Leaves mode) s i none h = leave_keeps types mode s.masters s h
frame_keeps types bodies (frame.Calls procedure b actuals) s i none h = absurd i
frame_keeps types bodies (frame.Returns actuals references) s i none h = absurd i
frame_keeps types bodies (frame.Evaluates right) s i none h = right_keeps types right s h
frame_keeps types bodies (frame.Computes e) s i none h = expression_keeps e s h
frame_keeps types bodies (frame.Follows cs) s i none h = path_keeps cs (newest named s) (popped s) (less s h)
frame_keeps types bodies (frame.TestsNull equal) s i none h = null_test_keeps equal (reads_null (newest named s)) (popped s) (less s h)
frame_keeps types bodies (frame.Refers p) s i none h = record_holder_keeps p (λ place. frame.RefersIn place p.record_type) s h
frame_keeps types bodies (frame.RefersIn place t) s i none h =
    refers_keep (newest named s) place (width_of types t) (look s.heap (newest named s)) (popped s) (less s h)
frame_keeps types bodies (frame.Opens path) s i none h = open_keeps path.selectors path.root s h
frame_keeps types bodies (frame.OpensIn c) s i none h = opens_keep (newest named s) c (look s.heap (newest named s)) (popped s) (less s h)
frame_keeps types bodies (frame.Continues links) s i none h = links_keep links s h
frame_keeps types bodies (frame.Applies operator) s i none h =
    outcome_keeps (binary_given operator (newest named (popped s)) (newest named s)) (popped (popped s)) (less (popped s) (less s h))
frame_keeps types bodies (frame.AppliesAlone operator) s i none h = outcome_keeps (unary_given operator (newest named s)) (popped s) (less s h)
frame_keeps types bodies (frame.Fills items) s i none h = items_keep items s h
frame_keeps types bodies (frame.Copies first t) s i none h =
    copies_keep (newest named s) first (width_of types t) (look s.heap (newest named s)) (popped s) (less s h)
frame_keeps types bodies (frame.Creates access count) s i none h = new_keeps types access count (words_of types access) (home_of access s.masters) s h
frame_keeps types bodies (frame.Stores x) s i none h = put_kept _ _ (popped s) (less s h)
frame_keeps types bodies (frame.Targets c right) s i none h = target_keeps (newest named s) c right (look s.heap (newest named s)) (popped s) (less s h)
frame_keeps types bodies (frame.StoresIn object c) s i none h = store_keeps object c (newest named s) (look s.heap object) (popped s) (less s h)
frame_keeps types bodies (frame.TargetsRecord first t items) s i none h =
    record_target_keeps (newest named s) first (width_of types t) items (look s.heap (newest named s)) (popped s) (less s h)
frame_keeps types bodies (frame.StoresRecord object first count) s i none h = store_record_keeps object first count (look s.heap object) s h
frame_keeps types bodies (frame.Assigns t) s i none h =
    assigns_keep types t (newest named (popped s)) (newest named s) (same (newest named (popped s)) (newest named s)) (popped (popped s))
    (less (popped s) (less s h))
frame_keeps types bodies (frame.Receives c) s i none h = receive_keeps (newest named s) c (look s.heap (newest named s)) (popped s) (less s h)
frame_keeps types bodies (frame.FreesIn access c) s i none h = free_in_keeps types access (newest named s) c (look s.heap (newest named s)) (popped s) (less s h)
frame_keeps types bodies (frame.Declares x) s i none h = put_kept _ _ (popped s) (less s h)
frame_keeps types bodies (frame.DeclaresRecord x t) s i none h = put_kept _ _ (without_newest named (words_of types t) s) (operands_kept _ s h)
frame_keeps types bodies (frame.Treats v treatment tasks) s i none h = treats_keep types bodies v treatment tasks (task_next tasks) s none h
frame_keeps types bodies (frame.Awaits v by done of part tasks) s i none h = awaited_keeps v by done of part tasks (look s.heap v) s h
frame_keeps types bodies frame.Confines s i none h = h
frame_keeps types bodies (frame.Resumes mode) s i none h = h
frame_keeps types bodies frame.Writes s i none h = line_keeps (reads_integer (newest named s)) (popped s) (less s h)
frame_keeps types bodies (frame.Ends v) s i none h = end_keeps v (look s.heap v) s h
frame_keeps types bodies (frame.GivesBack v cause pool) s i none h = back_keeps v cause pool (lent s.heap v) s h
frame_keeps types bodies (frame.Clears x) s i none h = put_kept _ _ s h
frame_keeps types bodies (frame.ClearsIn object c) s i none h = store_keeps object c Null (look s.heap object) s h
