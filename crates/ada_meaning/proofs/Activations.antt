-- Steps of expressions, allocators and Free keep the activations behind the running one, and its procedure and the number of its variables.

use Rattle.std.proofs.Common.{◌≡◌, ◌≢◌, ℕ, zero, suc, Bool, true, false, ◌==◌, if◌then◌else◌, List, [], ◌∷◌, length, Option, Some, None, is_some, Result, Ok, Err, refl, ap, ◌∙◌}
use Rattle.std.specs.List.{slice_get, slice_set}
use Rattle.ada_program.specs.declared.program.ProcedureNo.{ProcedureNo}
use Rattle.ada_program.specs.declared.program.TypeDefinition.{TypeDefinition}
use Rattle.ada_program.specs.Controlled.{shapes_of, operations_of, procedure_number}
use Rattle.ada_program.specs.ProgramForm.{BodyForm}
use Rattle.ada_program.specs.Form.{RecordPathForm, ExpressionForm, integer, boolean, reads, is_null, applied_to, chained, LinksForm, no_more_links, a_link, ItemForm, null_item, item_of_path, item_of_value, item_of_record, RightForm, nothing, value_of, allocates, allocates_default, computes}
use Rattle.ada_parts.specs.declared.tasks.Next.{Next as Follows}
use Rattle.ada_parts.specs.declared.tasks.Next.TheVariants.{Done, Pick, Perform}
use Rattle.ada_parts.specs.Part.{Part}
use Rattle.ada_parts.specs.Task.{Task, performed}
use Rattle.ada_values.specs.declared.operator.BinaryOperator.{BinaryOperator}
use Rattle.ada_values.specs.declared.fault.OperatorFault.{OperatorFault}
use Rattle.ada_values.specs.declared.fault.OperatorFault.TheVariants.{Overflow, DivisionByZero, WrongType}
use Rattle.ada_meaning.specs.declared.state.Place.{Place}
use Rattle.ada_meaning.specs.declared.state.Value.{Value}
use Rattle.ada_meaning.specs.declared.event.Cause.{Cause}
use Rattle.ada_meaning.specs.declared.event.Halt.TheVariants.{Erroneous, Memory, Stuck}
use Rattle.ada_meaning.specs.declared.event.Birth.{Birth}
use Rattle.ada_meaning.specs.declared.event.Why.TheVariants.{GivesElsewhere, FinalizesTwice}
use Rattle.ada_meaning.specs.Event.{Back, Finalized, Quiet}
use Rattle.ada_meaning.specs.Frame.{Treatment, Frame, is_master, Landing, passes_on, goes_behind, goes_in, landing}
use Rattle.ada_meaning.specs.Frame as frame
use Rattle.ada_meaning.specs.State.{Activation, Destination, home_of, pool_freed_to}
use Rattle.ada_meaning.specs.Heap.{PartState, Cell, Found, on_null, on_gone, on_other, finds}
use Rattle.ada_meaning.specs.Step.{direction_of, picked_task, treating, treated_on, operation_next, part_reference, beginning, born_next, begun_next, awaited_next, ended_next, finalized_next, performed_next, treats_next, same_pool, freeing, freeing_next, told_back, record_in, copied_next, copies_next, halts, moves, tells, asks, picks, at, older, places_of, operands, with_places, with_operands, set_operands, popped, put, held, newest, reading, component_next, follow_next, path_next, selected, named_next, holder_next, place_in, record_holder_next, before_last, last_of, expression_next, null_test_next, is_decided, link_next, links_next, outcome_next, item_next, items_next, answered, new_next, right_next, free_next, end_next, given_back, back_next}
use Rattle.ada_meaning.specs.Named.{State, Next, named, whole, inside, look, reads_boolean, on_object, returned, finalize}
use Rattle.ada_meaning.specs.Run.{Event}
use Rattle.ada_meaning.specs.Ending.{task_calls}

-- What a body that runs on keeps: the activations behind its own, its procedure, and how many variables it has.
pub record Kept : Type 0 where
  pub procedure : Option ℕ
  pub variables : ℕ
  pub callers : List (Activation Value)

abbrev pub Shape : Type 0
Shape = Option Kept

abbrev pub kept_of : Activation Value → List (Activation Value) → Kept
kept_of running callers = record { procedure = running.procedure; variables = length running.places; callers = callers }

abbrev pub shape : List (Activation Value) → Shape
shape [] = None
shape (running ∷ callers) = Some (kept_of running callers)

operands_shape : (vs : List Value) (xs : List (Activation Value)) → shape (with_operands vs xs) ≡ shape xs
operands_shape vs [] = refl
operands_shape vs (running ∷ callers) = refl

set_length : (vs : List Value) (i : ℕ) (v : Value) → length (slice_set vs i v) ≡ length vs
set_length [] i v = refl
set_length (u ∷ vs) zero v = refl
set_length (u ∷ vs) (suc i) v = ap suc (set_length vs i v)

put_shape : (x : ℕ) (v : Value) (xs : List (Activation Value)) → shape (with_places (slice_set (places_of xs) x v) xs) ≡ shape xs
put_shape x v [] = refl
put_shape x v (running ∷ callers) =
    ap (λ (n : ℕ). Some (record { procedure = running.procedure; variables = n; callers = callers })) (set_length running.places x v)

pub operands_kept : {w : Shape} (vs : List Value) (s : State) → shape s.activations ≡ w → shape (set_operands vs s).activations ≡ w
operands_kept vs s h = operands_shape vs s.activations ∙ h

pub less : {w : Shape} (s : State) → shape s.activations ≡ w → shape (popped s).activations ≡ w
less s h = operands_kept (older (operands s)) s h

pub put_kept : {w : Shape} (x : ℕ) (v : Value) (s : State) → shape s.activations ≡ w → shape (put x v s).activations ≡ w
put_kept x v s h = put_shape x v s.activations ∙ h

-- What comes next keeps that, whatever is answered.
abbrev pub Keeps : Shape → Next → Type 0
Keeps w (halts halt) = Unit {0}
Keeps w (moves e s) = shape s.activations ≡ w
Keeps w (tells request e s) = shape s.activations ≡ w
Keeps w (asks request answers) = (granted : Bool) → shape (answers granted).activations ≡ w
Keeps w (picks n taking) = (i : ℕ) → shape (taking i).activations ≡ w

-- Paths and expressions.
pub reading_keeps : {w : Shape} (cs : List ℕ) (v : Value) (s : State) → shape s.activations ≡ w → shape (reading named cs v s).activations ≡ w
reading_keeps [] v s h = operands_kept _ s h
reading_keeps (c ∷ cs) v s h = operands_kept _ s h

pub component_keeps :
    {w : Shape} (v : Value) (cs : List ℕ) (found : Option Value) (s : State) → shape s.activations ≡ w → Keeps w (component_next named v cs found s)
component_keeps v cs None s h = tt
component_keeps v cs (Some u) s h = reading_keeps cs u s h

pub follow_keeps :
    {w : Shape} (v : Value) (c : ℕ) (cs : List ℕ) (found : Found (Cell Value)) (s : State) → shape s.activations ≡ w
    → Keeps w (follow_next named v c cs found s)
follow_keeps v c cs on_null s h = operands_kept _ s h
follow_keeps v c cs on_gone s h = tt
follow_keeps v c cs on_other s h = tt
follow_keeps v c cs (finds cell) s h = component_keeps v cs (slice_get cell.values c) s h

pub path_keeps : {w : Shape} (cs : List ℕ) (v : Value) (s : State) → shape s.activations ≡ w → Keeps w (path_next named cs v s)
path_keeps [] v s h = operands_kept _ s h
path_keeps (c ∷ cs) v s h = follow_keeps v c cs (look s.heap v) s h

-- Paths that begin with a variable.
pub named_keeps : {w : Shape} (cs : List ℕ) (x : ℕ) (s : State) → shape s.activations ≡ w → Keeps w (named_next named cs x s)
named_keeps cs x s h = path_keeps (selected named (held named s x) cs) (whole (held named s x)) s h

pub holder_keeps :
    {w : Shape} (c : ℕ) (cs : List ℕ) (x : ℕ) (frame_of : ℕ → Frame Value) (s : State) → shape s.activations ≡ w
    → Keeps w (holder_next named c cs x frame_of s)
holder_keeps c cs x frame_of s h =
    let first = inside (held named s x) c in
    path_keeps (before_last first cs) (whole (held named s x)) (at (frame_of (last_of first cs) ∷ s.control) s) h

pub record_holder_keeps :
    {w : Shape} (p : RecordPathForm) (frame_of : Place → Frame Value) (s : State) → shape s.activations ≡ w → Keeps w (record_holder_next named p frame_of s)
record_holder_keeps p frame_of s h =
    let v = held named s p.object.root in
    path_keeps (selected named v p.object.selectors) (whole v) (at (frame_of (place_in named v p.object.selectors p) ∷ s.control) s) h

pub expression_keeps : {w : Shape} (e : ExpressionForm) (s : State) → shape s.activations ≡ w → Keeps w (expression_next named e s)
expression_keeps (integer i) s h = operands_kept _ s h
expression_keeps (boolean b) s h = operands_kept _ s h
expression_keeps (reads path) s h = named_keeps path.selectors path.root s h
expression_keeps (is_null equal path) s h = named_keeps path.selectors path.root (at (frame.TestsNull equal ∷ s.control) s) h
expression_keeps (applied_to operator e) s h = h
expression_keeps (chained e links) s h = h

pub null_test_keeps : {w : Shape} (equal : Bool) (null : Option Bool) (s : State) → shape s.activations ≡ w → Keeps w (null_test_next named equal null s)
null_test_keeps equal None s h = tt
null_test_keeps true (Some null) s h = operands_kept _ s h
null_test_keeps false (Some null) s h = operands_kept _ s h

pub link_keeps :
    {w : Shape} (decided : Bool) (operator : BinaryOperator) (e : ExpressionForm) (links : LinksForm) (s : State) → shape s.activations ≡ w
    → Keeps w (link_next named decided operator e links s)
link_keeps true operator e links s h = h
link_keeps false operator e links s h = h

pub links_keep : {w : Shape} (links : LinksForm) (s : State) → shape s.activations ≡ w → Keeps w (links_next named links s)
links_keep no_more_links s h = h
links_keep (a_link operator e links) s h = link_keeps (is_decided named operator (reads_boolean (newest named s))) operator e links s h

pub outcome_keeps : {w : Shape} (outcome : Result Value OperatorFault) (s : State) → shape s.activations ≡ w → Keeps w (outcome_next named outcome s)
outcome_keeps (Ok v) s h = operands_kept _ s h
outcome_keeps (Err Overflow) s h = operands_kept _ s h
outcome_keeps (Err DivisionByZero) s h = operands_kept _ s h
outcome_keeps (Err WrongType) s h = tt

-- Allocators, and what is assigned.
pub item_keeps : {w : Shape} (item : ItemForm) (s : State) → shape s.activations ≡ w → Keeps w (item_next named item s)
item_keeps null_item s h = operands_kept _ s h
item_keeps (item_of_path path) s h = named_keeps path.selectors path.root s h
item_keeps (item_of_value e) s h = h
item_keeps (item_of_record p) s h = record_holder_keeps p (λ place. frame.Copies place.component p.record_type) s h

pub items_keep : {w : Shape} (items : List ItemForm) (s : State) → shape s.activations ≡ w → Keeps w (items_next named items s)
items_keep [] s h = h
items_keep (i ∷ is) s h = item_keeps i (at (frame.Fills is ∷ s.control) s) h

-- A record that is copied.
pub copied_keeps : {w : Shape} (o : Value) (found : Option (List Value)) (s : State) → shape s.activations ≡ w → Keeps w (copied_next named o found s)
copied_keeps o None s h = tt
copied_keeps o (Some vs) s h = operands_kept _ s h

pub copies_keep :
    {w : Shape} (o : Value) (first count : ℕ) (found : Found (Cell Value)) (s : State) → shape s.activations ≡ w
    → Keeps w (copies_next named o first count found s)
copies_keep o first count on_null s h = operands_kept _ s h
copies_keep o first count on_gone s h = tt
copies_keep o first count on_other s h = tt
copies_keep o first count (finds cell) s h = copied_keeps o (record_in cell.values first count) s h

pub answered_keeps :
    {w : Shape} (types : List TypeDefinition) (access count words : ℕ) (home : Destination) (s : State) → shape s.activations ≡ w → (granted : Bool)
    → shape (answered named types access count words home s granted).activations ≡ w
answered_keeps types access count words home s h true = operands_kept _ s h
answered_keeps types access count words home s h false = operands_kept _ s h

pub new_keeps :
    {w : Shape} (types : List TypeDefinition) (access count words : ℕ) (home : Option Destination) (s : State)
    → shape s.activations ≡ w → Keeps w (new_next named types access count words home s)
new_keeps types access count words None s h = operands_kept _ s h
new_keeps types access count words (Some home) s h = answered_keeps types access count words home s h

pub right_keeps : {w : Shape} (types : List TypeDefinition) (right : RightForm) (s : State) → shape s.activations ≡ w → Keeps w (right_next named types right s)
right_keeps types nothing s h = operands_kept _ s h
right_keeps types (value_of path) s h = named_keeps path.selectors path.root s h
right_keeps types (allocates access items) s h = h
right_keeps types (allocates_default access) s h = operands_kept _ s h
right_keeps types (computes e) s h = h

-- Free, and what it leads to.
pub freeing_keeps :
    {w : Shape} (types : List TypeDefinition) (access : ℕ) (v : Value) (cell : Cell Value) (clears : Frame Value) (event : Event) (s : State)
    → shape s.activations ≡ w → Keeps w (freeing_next named types access v cell clears event s)
freeing_keeps {w} types access v cell clears event s h = by_pool (same_pool (Some (pool_freed_to (home_of access s.masters))) cell.home.pool)
  where
    by_pool : (own : Bool) → Keeps w (if own then moves event (freeing named types access v cell clears s) else halts (Erroneous GivesElsewhere))
    by_pool true = h
    by_pool false = tt

pub free_keeps :
    {w : Shape} (types : List TypeDefinition) (access x : ℕ) (v : Value) (found : Found (Cell Value)) (s : State)
    → shape s.activations ≡ w → Keeps w (free_next named types access x v found s)
free_keeps types access x v on_null s h = h
free_keeps types access x v on_gone s h = tt
free_keeps types access x v on_other s h = tt
free_keeps types access x v (finds cell) s h = freeing_keeps types access v cell (frame.Clears x) Quiet s h

pub end_keeps : {w : Shape} (v : Value) (found : Found (Cell Value)) (s : State) → shape s.activations ≡ w → Keeps w (end_next named v found s)
end_keeps v on_null s h = tt
end_keeps v on_gone s h = tt
end_keeps v on_other s h = tt
end_keeps v (finds cell) s h = h

pub told_back_keeps : {w : Shape} (pool : Option ℕ) (v : Value) (event : Event) (s : State) → shape s.activations ≡ w → Keeps w (told_back named pool v event s)
told_back_keeps None v event s h = h
told_back_keeps (Some pool) v event s h = h

pub given_back_keeps :
    {w : Shape} (fits : Bool) (v : Value) (cause : Cause) (cell : Cell Value) (s : State) → shape s.activations ≡ w
    → Keeps w (if fits then given_back named v cause cell s else halts (Erroneous GivesElsewhere))
given_back_keeps true v cause cell s h =
    told_back_keeps cell.home.pool v (Back v cell.access cell.number cell.home.pool cell.home.subpool cause) (record s { heap = on_object returned s.heap v }) h
given_back_keeps false v cause cell s h = tt

pub back_keeps :
    {w : Shape} (v : Value) (cause : Cause) (pool : Option ℕ) (found : Found (Cell Value)) (s : State) → shape s.activations ≡ w
    → Keeps w (back_next named v cause pool found s)
back_keeps v cause pool on_null s h = tt
back_keeps v cause pool on_gone s h = tt
back_keeps v cause pool on_other s h = tt
back_keeps v cause pool (finds cell) s h = given_back_keeps (same_pool pool cell.home.pool) v cause cell s h

-- The treatment of an object.
born_keeps :
    {w : Shape} (v : Value) (by : Birth) (done : List Part) (of part : ℕ) (tasks : List Task) (state : Option PartState) (s : State)
    → shape s.activations ≡ w → Keeps w (born_next named v by done of part tasks state s)
born_keeps v by done of part tasks None s h = tt
born_keeps v by done of part tasks (Some p) s h = h

begun_keeps :
    {w : Shape} (bodies : List BodyForm) (v : Value) (by : Birth) (done : List Part) (of part : ℕ) (tasks : List Task) (operation : Option ℕ)
    (state : Option PartState) (s : State) → is_some operation ≡ false → shape s.activations ≡ w
    → Keeps w (begun_next named bodies v by done of part tasks operation state s)
begun_keeps bodies v by done of part tasks operation None s none h = tt
begun_keeps bodies v by done of part tasks None (Some p) s none h = born_keeps v by done of part tasks (Some p) s h
begun_keeps bodies v by done of part tasks (Some procedure) (Some p) s none h = absurd (cc)

pub awaited_keeps :
    {w : Shape} (v : Value) (by : Birth) (done : List Part) (of part : ℕ) (tasks : List Task) (found : Found (Cell Value)) (s : State)
    → shape s.activations ≡ w → Keeps w (awaited_next named v by done of part tasks found s)
awaited_keeps v by done of part tasks on_null s h = tt
awaited_keeps v by done of part tasks on_gone s h = tt
awaited_keeps v by done of part tasks on_other s h = tt
awaited_keeps v by done of part tasks (finds cell) s h = born_keeps v by done of part tasks (slice_get cell.parts part) s h

ended_keeps :
    {w : Shape} (bodies : List BodyForm) (v : Value) (part : ℕ) (p : PartState) (behind : List (Frame Value)) (operation : Option ℕ) (event : Event) (s : State)
    → is_some operation ≡ false → shape s.activations ≡ w → Keeps w (ended_next named bodies v part p behind operation event s)
ended_keeps bodies v part p behind None event s none h = h
ended_keeps bodies v part p behind (Some procedure) event s none h = absurd (cc)

finalized_keeps :
    {w : Shape} (bodies : List BodyForm) (v : Value) (cause : Cause) (of part : ℕ) (tasks : List Task) (operation : Option ℕ)
    (state : Option PartState) (s : State) → is_some operation ≡ false → shape s.activations ≡ w
    → Keeps w (finalized_next named bodies v cause of part tasks operation state s)
finalized_keeps bodies v cause of part tasks operation None s none h = tt
finalized_keeps {w} bodies v cause of part tasks operation (Some p) s none h = by_life p.alive
  where
    behind : List (Frame Value)
    behind = treating v (frame.ends cause) tasks s.control

    event : Event
    event = Finalized v part p.turn of p.number cause

    by_life :
        (alive : Bool)
        → Keeps w
        (if alive then ended_next named bodies v part p behind operation event (record s { heap = finalize s.heap v part })
        else halts (Erroneous FinalizesTwice))
    by_life true = ended_keeps bodies v part p behind operation event (record s { heap = finalize s.heap v part }) none h
    by_life false = tt

-- A procedure that overrides an operation has a number.
pub number_there : (procedure : Option ProcedureNo) → is_some (procedure_number procedure) ≡ is_some procedure
number_there None = refl
number_there (Some procedure) = refl

performed_keeps :
    {w : Shape} (types : List TypeDefinition) (bodies : List BodyForm) (v : Value) (treatment : Treatment) (of part : ℕ) (tasks : List Task)
    (found : Found (Cell Value)) (s : State) → task_calls types treatment (Perform of part) ≡ false → shape s.activations ≡ w
    → Keeps w (performed_next named types bodies v treatment of part tasks found s)
performed_keeps types bodies v treatment of part tasks on_null s none h = tt
performed_keeps types bodies v treatment of part tasks on_gone s none h = tt
performed_keeps types bodies v treatment of part tasks on_other s none h = tt
performed_keeps types bodies v (frame.begins by done) of part tasks (finds cell) s none h =
    begun_keeps bodies v by done of part tasks (beginning by (operations_of types of)) (slice_get cell.parts part) s none h
performed_keeps types bodies v (frame.ends cause) of part tasks (finds cell) s none h =
    let operation = (operations_of types of).finalize in
    finalized_keeps bodies v cause of part tasks (procedure_number operation) (slice_get cell.parts part) s (number_there operation ∙ none) h

picked_keeps :
    {w : Shape} (none : Bool) (count : ℕ) (taking : ℕ → State) → ((i : ℕ) → shape (taking i).activations ≡ w)
    → Keeps w (if none then halts Stuck else picks count taking)
picked_keeps true count taking h = tt
picked_keeps false count taking h = h

pub treats_keep :
    {w : Shape} (types : List TypeDefinition) (bodies : List BodyForm) (v : Value) (treatment : Treatment) (tasks : List Task) (follows : Follows) (s : State)
    → task_calls types treatment follows ≡ false → shape s.activations ≡ w → Keeps w (treats_next named types bodies v treatment tasks follows s)
treats_keep types bodies v treatment tasks Done s none h = h
treats_keep types bodies v treatment tasks (Pick count) s none h =
    picked_keeps (count == 0) count (λ i. treated_on named v treatment (picked_task (shapes_of types) (direction_of treatment) tasks i) s) (λ i. h)
treats_keep types bodies v treatment tasks (Perform of part) s none h =
    performed_keeps types bodies v treatment of part (performed tasks) (look s.heap v) s none h

-- Where a type overrides an operation, its body begins in front of these activations, or the run ends, and not for want of memory.
abbrev pub Operates : List (Activation Value) → Next → Type 0
Operates xs (halts halt) = halt ≢ Memory
Operates xs (moves e s) = (callee : Activation Value) × (s.activations ≡ callee ∷ xs)
Operates xs (tells request e s) = ⊥
Operates xs (asks request answers) = ⊥
Operates xs (picks n taking) = ⊥

operation_operates :
    (procedure : ℕ) (b : Option BodyForm) (reference : Value) (behind : List (Frame Value)) (event : Event) (s : State)
    → Operates s.activations (operation_next named procedure b reference behind event s)
operation_operates procedure None reference behind event s = λ memory. cc
operation_operates procedure (Some b) reference behind event s = (_, refl)

begun_operates :
    (bodies : List BodyForm) (v : Value) (by : Birth) (done : List Part) (of part : ℕ) (tasks : List Task) (operation : Option ℕ)
    (state : Option PartState) (s : State) → is_some operation ≡ true
    → Operates s.activations (begun_next named bodies v by done of part tasks operation state s)
begun_operates bodies v by done of part tasks operation None s some = λ memory. cc
begun_operates bodies v by done of part tasks None (Some p) s some = absurd (cc)
begun_operates bodies v by done of part tasks (Some procedure) (Some p) s some =
    operation_operates procedure (slice_get bodies procedure) (part_reference named v part p) (frame.Awaits v by done of part tasks ∷ s.control) Quiet s

ended_operates :
    (bodies : List BodyForm) (v : Value) (part : ℕ) (p : PartState) (behind : List (Frame Value)) (operation : Option ℕ) (event : Event) (s : State)
    → is_some operation ≡ true → Operates s.activations (ended_next named bodies v part p behind operation event s)
ended_operates bodies v part p behind None event s some = absurd (cc)
ended_operates bodies v part p behind (Some procedure) event s some =
    operation_operates procedure (slice_get bodies procedure) (part_reference named v part p) (frame.Confines ∷ behind) event s

finalized_operates :
    (bodies : List BodyForm) (v : Value) (cause : Cause) (of part : ℕ) (tasks : List Task) (operation : Option ℕ) (state : Option PartState) (s : State)
    → is_some operation ≡ true → Operates s.activations (finalized_next named bodies v cause of part tasks operation state s)
finalized_operates bodies v cause of part tasks operation None s some = λ memory. cc
finalized_operates bodies v cause of part tasks operation (Some p) s some = by_life p.alive
  where
    behind : List (Frame Value)
    behind = treating v (frame.ends cause) tasks s.control

    event : Event
    event = Finalized v part p.turn of p.number cause

    by_life :
        (alive : Bool)
        → Operates s.activations
        (if alive then ended_next named bodies v part p behind operation event (record s { heap = finalize s.heap v part })
        else halts (Erroneous FinalizesTwice))
    by_life true = ended_operates bodies v part p behind operation event (record s { heap = finalize s.heap v part }) some
    by_life false = λ memory. cc

performed_operates :
    (types : List TypeDefinition) (bodies : List BodyForm) (v : Value) (treatment : Treatment) (of part : ℕ) (tasks : List Task)
    (found : Found (Cell Value)) (s : State) → task_calls types treatment (Perform of part) ≡ true
    → Operates s.activations (performed_next named types bodies v treatment of part tasks found s)
performed_operates types bodies v treatment of part tasks on_null s some = λ memory. cc
performed_operates types bodies v treatment of part tasks on_gone s some = λ memory. cc
performed_operates types bodies v treatment of part tasks on_other s some = λ memory. cc
performed_operates types bodies v (frame.begins by done) of part tasks (finds cell) s some =
    begun_operates bodies v by done of part tasks (beginning by (operations_of types of)) (slice_get cell.parts part) s some
performed_operates types bodies v (frame.ends cause) of part tasks (finds cell) s some =
    let operation = (operations_of types of).finalize in
    finalized_operates bodies v cause of part tasks (procedure_number operation) (slice_get cell.parts part) s (number_there operation ∙ some)

pub treats_operate :
    (types : List TypeDefinition) (bodies : List BodyForm) (v : Value) (treatment : Treatment) (tasks : List Task) (follows : Follows) (s : State)
    → task_calls types treatment follows ≡ true → Operates s.activations (treats_next named types bodies v treatment tasks follows s)
treats_operate types bodies v treatment tasks Done s some = absurd (cc)
treats_operate types bodies v treatment tasks (Pick count) s some = absurd (cc)
treats_operate types bodies v treatment tasks (Perform of part) s some =
    performed_operates types bodies v treatment of part (performed tasks) (look s.heap v) s some
