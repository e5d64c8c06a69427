-- The small steps: what a state does next, form by form in the order of the manual. They are generic in what a value is and in the heap.

use Rattle.std.specs.Prelude.{ℕ, ◌+◌, ◌-◌, ◌==◌, ℤ, pos, ◌+ℤ◌, int_le, Bool, true, false, not, if◌then◌else◌, List, [], ◌∷◌, ◌++◌, length, map, take, drop, reverse, Option, Some, None, is_some, Result, Ok, Err}
use Rattle.std.specs.List.{slice_get, slice_index_or, slice_set}
use Rattle.ada_values.specs.declared.operator.BinaryOperator.{BinaryOperator}
use Rattle.ada_values.specs.declared.operator.BinaryOperator.TheVariants as binary
use Rattle.ada_values.specs.declared.fault.OperatorFault.{OperatorFault}
use Rattle.ada_values.specs.declared.fault.OperatorFault.TheVariants.{Overflow, DivisionByZero, WrongType}
use Rattle.ada_program.specs.declared.program.ComponentKind.{ComponentKind}
use Rattle.ada_program.specs.declared.program.ComponentKind.TheVariants as component
use Rattle.ada_program.specs.declared.program.TypeDefinition.{TypeDefinition}
use Rattle.ada_program.specs.declared.program.VariableKind.{VariableKind}
use Rattle.ada_program.specs.declared.program.VariableKind.TheVariants as variable
use Rattle.ada_program.specs.Form.{RecordPathForm, ActualForm, in_value, in_null, in_access, in_record, in_out_path, in_out_access, in_out_component, in_out_record, ExpressionForm, integer, boolean, reads, is_null, applied_to, chained, LinksForm, no_more_links, a_link, ItemForm, null_item, item_of_path, item_of_value, item_of_record, RightForm, nothing, value_of, allocates, allocates_default, computes, StmtForm, skips, assigns, assigns_record, frees, gets, writes, writes_text, chooses, repeats, counts, exits, calls, returns, raises, encloses, StmtsForm, no_stmts, a_stmt, BranchesForm, otherwise, a_branch, HandlersForm, DeclarationForm, creates_pool, collects, declares, declares_record}
use Rattle.ada_program.specs.ProgramForm.{VariableForm, BodyForm}
use Rattle.ada_program.specs.Typed.{reached_of, words_of, width_of, pool_named}
use Rattle.ada_program.specs.declared.program.Operations.{Operations}
use Rattle.ada_program.specs.Controlled.{number_of, number_reached, shapes_of, operations_of, procedure_number, part_firsts}
use Rattle.ada_parts.specs.declared.tasks.Direction.{Direction}
use Rattle.ada_parts.specs.declared.tasks.Direction.TheVariants.{PartsFirst, WholeFirst}
use Rattle.ada_parts.specs.declared.tasks.Next.{Next as Follows}
use Rattle.ada_parts.specs.declared.tasks.Next.TheVariants.{Done, Pick, Perform}
use Rattle.ada_parts.specs.Shape.{Shape, parts_of}
use Rattle.ada_parts.specs.Part.{Part}
use Rattle.ada_parts.specs.Task.{Task, performs, treats, opened, performed, next as task_next, taken as taken_task}
use Rattle.ada_meaning.specs.declared.event.Birth.{Birth}
use Rattle.ada_meaning.specs.declared.event.Birth.TheVariants.{Creation, Copy, Adjustment}
use Rattle.ada_meaning.specs.declared.state.Place.{Place}
use Rattle.ada_meaning.specs.declared.state.Mode.{Mode}
use Rattle.ada_meaning.specs.declared.state.Mode.TheVariants.{Running, Raising, Exiting, Returning}
use Rattle.ada_meaning.specs.declared.event.Cause.{Cause}
use Rattle.ada_meaning.specs.declared.event.Cause.TheVariants.{Leaving, Freeing, Assigning, Undoing}
use Rattle.ada_program.specs.declared.program.Exception.{Exception}
use Rattle.ada_program.specs.declared.program.Exception.TheVariants.{ConstraintError, StorageError, EndError}
use Rattle.ada_meaning.specs.declared.event.Halt.{Halt}
use Rattle.ada_meaning.specs.declared.event.Halt.TheVariants.{Finished, Unhandled, Escaped, Erroneous, Stuck}
use Rattle.ada_meaning.specs.declared.event.Line.TheVariants.{Image, Literal}
use Rattle.ada_meaning.specs.declared.event.Why.{Why}
use Rattle.ada_meaning.specs.declared.event.Why.TheVariants.{FollowsGone, EndsTwice, GivesElsewhere, FinalizesTwice}
use Rattle.ada_meaning.specs.Event.{Event, Born, Finalized, Back, Followed, Left, Line, Quiet, Request, Allocate, GiveBack, New, Gone}
use Rattle.ada_meaning.specs.Frame.{Treatment, begins, ends, Frame, evaluating, is_master, Landing, passes_on, goes_behind, goes_in, breaks_off, escapes, landing}
use Rattle.ada_meaning.specs.Frame as frame
use Rattle.ada_meaning.specs.State.{Activation, Owned, declared, collection, record_object, storage_pool, Item, Master, State, Destination, height, home_of, pools_in, pool_for, pool_freed_to, counted}
use Rattle.ada_meaning.specs.Heap.{PartState, Cell, Found, on_null, on_gone, on_other, finds, Ops}

-- What a state does next: it halts; or one event comes, perhaps with something told to the pools; or a request to a pool is open; or one of
-- some members is to be taken, counted from 0.
pub data Next (V H : Type 0) : Type 0 where
  halts : Halt → Next V H
  moves : Event V → State V H → Next V H
  tells : Request V → Event V → State V H → Next V H
  asks : Request V → (Bool → State V H) → Next V H
  picks : ℕ → (ℕ → State V H) → Next V H

-- Words of a state.

-- In which order a treatment takes a record and its components (7.6, 7.6.1).
abbrev pub direction_of : Treatment → Direction
direction_of (begins by done) = PartsFirst
direction_of (ends cause) = WholeFirst

-- How many components are open, of which one is to be picked.
abbrev pub open_count : List Task → ℕ
open_count [] = 0
open_count (treats components ∷ behind) = length components
open_count (performs of part ∷ behind) = 0

-- Which of so many components comes at a place in the order in which the profile takes them: that of their declaration where they are initialized or
-- adjusted, and the reverse of it where they are finalized.
abbrev pub member_at : Direction → (count i : ℕ) → ℕ
member_at PartsFirst count i = i
member_at WholeFirst count i = count - (i + 1)

-- What is left once the component at such a place is picked.
abbrev pub picked_task : List Shape → Direction → List Task → (i : ℕ) → List Task
picked_task shapes direction tasks i = taken_task shapes direction tasks (member_at direction (open_count tasks) i)

-- All that is to be done for an object of a record type, by its number among those that have controlled parts: nothing, if it has none.
abbrev pub tasks_for : List Shape → Direction → Option ℕ → List Task
tasks_for shapes direction None = []
tasks_for shapes direction (Some n) = opened shapes direction n 0

-- The same of a record that lies in an object, where its first part has this number.
abbrev pub tasks_in : List Shape → Direction → Option ℕ → (first : ℕ) → List Task
tasks_in shapes direction None first = []
tasks_in shapes direction (Some n) first = opened shapes direction n first

-- How many controlled parts such an object has.
abbrev pub parts_for : List Shape → Option ℕ → ℕ
parts_for shapes None = 0
parts_for shapes (Some n) = parts_of shapes n

-- How many controlled parts the objects have that an access type's values name, or the one that is known by a type.
abbrev pub parts_held : List TypeDefinition → (access : ℕ) → ℕ
parts_held types access = parts_for (shapes_of types) (number_reached types access)

-- All that is to be done for an object that is initialized, or finalized: one that an access type's values name, or the one that is known by a type.
abbrev pub all_tasks : List TypeDefinition → (access : ℕ) → Direction → List Task
all_tasks types access direction = tasks_for (shapes_of types) direction (number_reached types access)

-- All that is to be done for a record of a type that lies in an object, where its first part has this number.
abbrev pub record_tasks : List TypeDefinition → (record_type : ℕ) → Direction → (first : ℕ) → List Task
record_tasks types t direction first = tasks_in (shapes_of types) direction (number_of types (Some t)) first

-- The records of a type have controlled parts.
abbrev pub has_parts : List TypeDefinition → (record_type : ℕ) → Bool
has_parts types t = is_some (number_of types (Some t))

-- The operation that begins a value so (7.6): Initialize as its object is created, Adjust where it is copied.
abbrev pub beginning : Birth → Operations → Option ℕ
beginning Creation operations = procedure_number operations.initialize
beginning Copy operations = procedure_number operations.adjust
beginning (Adjustment number) operations = procedure_number operations.adjust

-- A controlled part of a new object, which begins with this component: it has no value yet.
abbrev pub new_part : (first : ℕ) → PartState
new_part first = record { alive = false; turn = 0; number = 0; first = first }

-- The controlled parts of a new object: one that an access type's values name, or the one that is known by a type.
abbrev pub new_parts : List TypeDefinition → (access : ℕ) → List PartState
new_parts types access = map new_part (part_firsts types (number_reached types access))

-- An object is treated before what comes behind, if anything is to be done.
abbrev pub treating : {V : Type 0} → V → Treatment → List Task → List (Frame V) → List (Frame V)
treating v treatment [] k = k
treating v treatment (task ∷ tasks) k = frame.Treats v treatment (task ∷ tasks) ∷ k

-- An object is finalized before what comes behind (7.6.1).
abbrev pub finalizing : {V : Type 0} → List TypeDefinition → V → Cell V → Cause → List (Frame V) → List (Frame V)
finalizing types v cell cause k = treating v (ends cause) (all_tasks types cell.access WholeFirst) k

-- Are these one pool, or none?
abbrev pub same_pool : Option ℕ → Option ℕ → Bool
same_pool None None = true
same_pool None (Some other) = false
same_pool (Some pool) None = false
same_pool (Some pool) (Some other) = pool == other

-- The state with this left to do.
abbrev pub at : {V H : Type 0} → List (Frame V) → State V H → State V H
at k s = record s { control = k }

-- The first of a list, and what is behind it.
abbrev pub first_or : {X : Type 0} → X → List X → X
first_or d [] = d
first_or d (x ∷ xs) = x

-- All but the first.
abbrev pub older : {X : Type 0} → List X → List X
older [] = []
older (x ∷ xs) = xs

-- What the variables of the running activation hold.
abbrev pub places_of : {V : Type 0} → List (Activation V) → List V
places_of [] = []
places_of (a ∷ suspended) = a.places

-- What pending forms of the running activation have computed, the newest first.
abbrev pub operands_of : {V : Type 0} → List (Activation V) → List V
operands_of [] = []
operands_of (a ∷ suspended) = a.operands

-- The procedure of which the running activation is one: none, where it is the main body's.
abbrev pub procedure_of : {V : Type 0} → List (Activation V) → Option ℕ
procedure_of [] = None
procedure_of (a ∷ suspended) = a.procedure

-- The running activation's variables, or its operands, become these.
abbrev pub with_places : {V : Type 0} → List V → List (Activation V) → List (Activation V)
with_places vs [] = []
with_places vs (a ∷ suspended) = record a { places = vs } ∷ suspended

-- The activations once the running one has these operands.
abbrev pub with_operands : {V : Type 0} → List V → List (Activation V) → List (Activation V)
with_operands vs [] = []
with_operands vs (a ∷ suspended) = record a { operands = vs } ∷ suspended

-- What each variable holds.
abbrev pub places : {V H : Type 0} → State V H → List V
places s = places_of s.activations

-- What pending forms have computed, the newest first.
abbrev pub operands : {V H : Type 0} → State V H → List V
operands s = operands_of s.activations

-- The state once variables hold this.
abbrev pub set_places : {V H : Type 0} → List V → State V H → State V H
set_places vs s = record s { activations = with_places vs s.activations }

-- The state once this is computed.
abbrev pub set_operands : {V H : Type 0} → List V → State V H → State V H
set_operands vs s = record s { activations = with_operands vs s.activations }

-- A value is kept for the form that waits for it; the newest one is taken away again.
abbrev pub computed : {V H : Type 0} → V → State V H → State V H
computed v s = set_operands (v ∷ operands s) s

-- The state without the newest operand.
abbrev pub popped : {V H : Type 0} → State V H → State V H
popped s = set_operands (older (operands s)) s

-- The running activation ends (6.5): that of its caller goes on.
abbrev pub resumed : {V H : Type 0} → State V H → State V H
resumed s = record s { activations = older s.activations }

-- A jump begins (5.7, 6.5, 11.3): what pending forms have computed is dropped, and the frames are passed that it does not stop at.
abbrev pub jumping : {V H : Type 0} → Mode → State V H → State V H
jumping mode s = record (set_operands [] s) { mode = mode }

-- An exception is raised (11.3).
abbrev pub raised : {V H : Type 0} → Exception → State V H → State V H
raised e s = jumping (Raising e) s

-- What a caller's variables hold once these formal parameters give back what they hold: each of mode `in out` to the variable for which it stands, from left
-- to right (6.4.1).
abbrev pub copied_back : {V : Type 0} → List ActualForm → (formals : List V) → (places : List V) → List V
copied_back [] vs places = places
copied_back (a ∷ rest) [] places = places
copied_back (in_value e ∷ rest) (v ∷ vs) places = copied_back rest vs places
copied_back (in_null ∷ rest) (v ∷ vs) places = copied_back rest vs places
copied_back (in_access path ∷ rest) (v ∷ vs) places = copied_back rest vs places
copied_back (in_record p ∷ rest) (v ∷ vs) places = copied_back rest vs places
copied_back (in_out_path path ∷ rest) (v ∷ vs) places = copied_back rest vs (slice_set places path.root v)
copied_back (in_out_access path ∷ rest) (v ∷ vs) places = copied_back rest vs (slice_set places path.root v)
copied_back (in_out_component path ∷ rest) (v ∷ vs) places = copied_back rest vs places
copied_back (in_out_record p ∷ rest) (v ∷ vs) places = copied_back rest vs places

-- What the formal parameters hold that give it back to components (6.4.1), in order.
abbrev pub stored_back : {V : Type 0} → List ActualForm → (formals : List V) → List V
stored_back [] vs = []
stored_back (a ∷ rest) [] = []
stored_back (in_value e ∷ rest) (v ∷ vs) = stored_back rest vs
stored_back (in_null ∷ rest) (v ∷ vs) = stored_back rest vs
stored_back (in_access path ∷ rest) (v ∷ vs) = stored_back rest vs
stored_back (in_record p ∷ rest) (v ∷ vs) = stored_back rest vs
stored_back (in_out_path path ∷ rest) (v ∷ vs) = stored_back rest vs
stored_back (in_out_access path ∷ rest) (v ∷ vs) = stored_back rest vs
stored_back (in_out_component path ∷ rest) (v ∷ vs) = v ∷ stored_back rest vs
stored_back (in_out_record p ∷ rest) (v ∷ vs) = stored_back rest vs

-- How many operands the values of actual parameters are (6.4.1): for a component there are two, what refers to it and its value.
abbrev pub operand_count : List ActualForm → ℕ
operand_count [] = 0
operand_count (in_value e ∷ rest) = 1 + operand_count rest
operand_count (in_null ∷ rest) = 1 + operand_count rest
operand_count (in_access path ∷ rest) = 1 + operand_count rest
operand_count (in_record p ∷ rest) = 1 + operand_count rest
operand_count (in_out_path path ∷ rest) = 1 + operand_count rest
operand_count (in_out_access path ∷ rest) = 1 + operand_count rest
operand_count (in_out_component path ∷ rest) = 2 + operand_count rest
operand_count (in_out_record p ∷ rest) = 1 + operand_count rest

-- The first of some operands is that of an actual parameter that is no component.
abbrev pub one_given : {V : Type 0} → (more : List V → List V) → List V → List V
one_given more [] = []
one_given more (v ∷ vs) = v ∷ more vs

-- The first two are those of a component.
abbrev pub value_given : {V : Type 0} → (more : List V → List V) → List V → List V
value_given more [] = []
value_given more (r ∷ []) = []
value_given more (r ∷ v ∷ vs) = v ∷ more vs

-- Which values the formal parameters get of these operands (6.4.1), in order.
abbrev pub given_values : {V : Type 0} → List ActualForm → (operands : List V) → List V
given_values [] vs = []
given_values (in_value e ∷ rest) vs = one_given (given_values rest) vs
given_values (in_null ∷ rest) vs = one_given (given_values rest) vs
given_values (in_access path ∷ rest) vs = one_given (given_values rest) vs
given_values (in_record p ∷ rest) vs = one_given (given_values rest) vs
given_values (in_out_path path ∷ rest) vs = one_given (given_values rest) vs
given_values (in_out_access path ∷ rest) vs = one_given (given_values rest) vs
given_values (in_out_component path ∷ rest) vs = value_given (given_values rest) vs
given_values (in_out_record p ∷ rest) vs = one_given (given_values rest) vs

-- The first operand is no reference.
abbrev pub none_referred : {V : Type 0} → (more : List V → List V) → List V → List V
none_referred more [] = []
none_referred more (v ∷ vs) = more vs

-- The first of two refers to a component.
abbrev pub one_referred : {V : Type 0} → (more : List V → List V) → List V → List V
one_referred more [] = []
one_referred more (r ∷ []) = []
one_referred more (r ∷ v ∷ vs) = r ∷ more vs

-- Which of these operands refer to components that are given (6.4.1), in order.
abbrev pub references_in : {V : Type 0} → List ActualForm → (operands : List V) → List V
references_in [] vs = []
references_in (in_value e ∷ rest) vs = none_referred (references_in rest) vs
references_in (in_null ∷ rest) vs = none_referred (references_in rest) vs
references_in (in_access path ∷ rest) vs = none_referred (references_in rest) vs
references_in (in_record p ∷ rest) vs = none_referred (references_in rest) vs
references_in (in_out_path path ∷ rest) vs = none_referred (references_in rest) vs
references_in (in_out_access path ∷ rest) vs = none_referred (references_in rest) vs
references_in (in_out_component path ∷ rest) vs = one_referred (references_in rest) vs
references_in (in_out_record p ∷ rest) vs = none_referred (references_in rest) vs

-- A variable gets a value (5.2).
abbrev pub put : {V H : Type 0} → ℕ → V → State V H → State V H
put x v s = set_places (slice_set (places s) x v) s

-- The innermost master owns one item more (7.6.1).
abbrev pub owning : Item → List Master → List Master
owning item [] = []
owning item (m ∷ ms) = record m { items = item ∷ m.items } ∷ ms

-- The state once the innermost master owns something more, under the number of its height.
abbrev pub owned : {V H : Type 0} → Owned → State V H → State V H
owned what s = record s { masters = owning (record { number = height s.masters; owned = what }) s.masters }

-- A master is entered (7.6.1), with a number that no other has.
abbrev pub entered : {V H : Type 0} → State V H → State V H
entered s = record s { masters = record { number = s.next; items = [] } ∷ s.masters; next = s.next + 1 }

-- The innermost master has lost its newest item.
abbrev pub shorter : List Master → List Master
shorter [] = []
shorter (m ∷ ms) = record m { items = older m.items } ∷ ms

-- A number is used up for a master or a cause.
abbrev pub numbered : {V H : Type 0} → State V H → State V H
numbered s = record s { next = s.next + 1 }

-- The components of a path before its last one, and the last, where the first is given (4.1.3).
abbrev pub before_last : ℕ → List ℕ → List ℕ
before_last c [] = []
before_last c (d ∷ cs) = c ∷ before_last d cs

-- The last component of a path.
abbrev pub last_of : ℕ → List ℕ → ℕ
last_of c [] = c
last_of c (d ∷ cs) = last_of d cs

-- Values in front of others, in the order in which they were computed: the newest first.
abbrev pub in_front : {V : Type 0} → List V → List V → List V
in_front [] older = older
in_front (v ∷ vs) older = in_front vs (v ∷ older)

-- So many values, if there are so many.
abbrev pub if_whole : {V : Type 0} → (count : ℕ) → List V → Option (List V)
if_whole count vs = if length vs == count then Some vs else None

-- The components of a record that lies in an object with these components, from one on: none, if the object has too few.
abbrev pub record_in : {V : Type 0} → List V → (first count : ℕ) → Option (List V)
record_in values first count = if_whole count (take count (drop first values))

-- How a run ends where nothing is left to do, or to pass: an exit always has a loop.
abbrev pub end_of : Mode → Halt
end_of Running = Finished
end_of (Raising e) = Unhandled e
end_of Exiting = Stuck
end_of Returning = Finished

module _ {V H : Type 0} (ops : Ops V H) where
  -- What a variable holds.
  abbrev pub held : State V H → ℕ → V
  held s x = slice_index_or (places s) x ops.null

  -- The newest operand.
  abbrev pub newest : State V H → V
  newest s = first_or ops.null (operands s)

  -- Paths (4.1): the value behind one selector is that of a component of the object that the access value before it gives access to. Null
  -- raises Constraint_Error, and to follow an object that is gone is erroneous (13.11.2).

  -- A value is there; what is named behind it is followed next.
  abbrev pub reading : List ℕ → V → State V H → State V H
  reading [] v s = computed v s
  reading (c ∷ cs) v s = at (frame.Follows (c ∷ cs) ∷ s.control) (computed v s)

  abbrev pub component_next : V → List ℕ → Option V → State V H → Next V H
  component_next o cs None s = halts Stuck
  component_next o cs (Some v) s = moves (Followed o) (reading cs v s)

  abbrev pub follow_next : V → ℕ → List ℕ → Found (Cell V) → State V H → Next V H
  follow_next o c cs on_null s = moves Quiet (raised ConstraintError s)
  follow_next o c cs on_gone s = halts (Erroneous FollowsGone)
  follow_next o c cs on_other s = halts Stuck
  follow_next o c cs (finds cell) s = component_next o cs (slice_get cell.values c) s

  abbrev pub path_next : List ℕ → V → State V H → Next V H
  path_next [] v s = moves Quiet (computed v s)
  path_next (c ∷ cs) v s = follow_next v c cs (ops.look s.heap v) s

  -- Where a path begins (4.1, 6.2): a record parameter stands for a record that lies in an object, so what is selected behind it is a component of that
  -- object, from where the record begins.
  abbrev pub selected : V → List ℕ → List ℕ
  selected v [] = []
  selected v (c ∷ cs) = ops.inside v c ∷ cs

  -- The value that a path names.
  abbrev pub named_next : List ℕ → (x : ℕ) → State V H → Next V H
  named_next cs x s = path_next (selected (held s x) cs) (ops.whole (held s x)) s

  -- The object in which the last component of a path lies (4.1.3) is found first, and then this frame comes, for the number of that component.
  abbrev pub holder_next : (c : ℕ) → List ℕ → (x : ℕ) → (ℕ → Frame V) → State V H → Next V H
  holder_next c cs x frame_of s =
      path_next (before_last (ops.inside (held s x) c) cs) (ops.whole (held s x)) (at (frame_of (last_of (ops.inside (held s x) c) cs) ∷ s.control) s)

  -- Where a record begins in its object: in that of a record parameter, if the path is that alone.
  abbrev pub place_in : V → List ℕ → RecordPathForm → Place
  place_in v [] p = record { component = ops.inside v p.first; part = ops.part_inside v p.part }
  place_in v (c ∷ cs) p = record { component = p.first; part = p.part }

  -- The object in which a record lies is found first, and then this frame comes, for the place of the record there.
  abbrev pub record_holder_next : RecordPathForm → (Place → Frame V) → State V H → Next V H
  record_holder_next p frame_of s =
      path_next (selected (held s p.object.root) p.object.selectors) (ops.whole (held s p.object.root))
      (at (frame_of (place_in (held s p.object.root) p.object.selectors p) ∷ s.control) s)

  -- Expressions (4.4); the left operand comes before the right one.
  abbrev pub expression_next : ExpressionForm → State V H → Next V H
  expression_next (integer i) s = moves Quiet (computed (ops.integer i) s)
  expression_next (boolean b) s = moves Quiet (computed (ops.boolean b) s)
  expression_next (reads path) s = named_next path.selectors path.root s
  expression_next (is_null equal path) s = named_next path.selectors path.root (at (frame.TestsNull equal ∷ s.control) s)
  expression_next (applied_to operator e) s = moves Quiet (at (frame.Computes e ∷ frame.AppliesAlone operator ∷ s.control) s)
  expression_next (chained e links) s = moves Quiet (at (frame.Computes e ∷ frame.Continues links ∷ s.control) s)

  -- Whether an access value is null, or is not (4.5.2).
  abbrev pub null_test_next : (equal : Bool) → Option Bool → State V H → Next V H
  null_test_next equal None s = halts Stuck
  null_test_next true (Some null) s = moves Quiet (computed (ops.boolean null) s)
  null_test_next false (Some null) s = moves Quiet (computed (ops.boolean (not null)) s)

  -- Whether the left operand decides a short-circuit form (4.5.1): its right operand isn't evaluated then.
  abbrev pub is_decided : BinaryOperator → Option Bool → Bool
  is_decided binary.AndThen (Some b) = not b
  is_decided binary.OrElse (Some b) = b
  is_decided operator truth = false

  -- The next operator of a chain: its right operand is evaluated and the operator applied, unless the left one decides.
  abbrev pub link_next : Bool → BinaryOperator → ExpressionForm → LinksForm → State V H → Next V H
  link_next true operator e links s = moves Quiet (at (frame.Continues links ∷ s.control) s)
  link_next false operator e links s = moves Quiet (at (frame.Computes e ∷ frame.Applies operator ∷ frame.Continues links ∷ s.control) s)

  abbrev pub links_next : LinksForm → State V H → Next V H
  links_next no_more_links s = moves Quiet s
  links_next (a_link operator e links) s = link_next (is_decided operator (ops.reads_boolean (newest s))) operator e links s

  -- What an operator gives (4.5): a value, or Constraint_Error.
  abbrev pub outcome_next : Result V OperatorFault → State V H → Next V H
  outcome_next (Ok v) s = moves Quiet (computed v s)
  outcome_next (Err Overflow) s = moves Quiet (raised ConstraintError s)
  outcome_next (Err DivisionByZero) s = moves Quiet (raised ConstraintError s)
  outcome_next (Err WrongType) s = halts Stuck

  -- Allocators (4.8): their items are evaluated one by one, in the order of the components, before the object is asked for.
  abbrev pub item_next : ItemForm → State V H → Next V H
  item_next null_item s = moves Quiet (computed ops.null s)
  item_next (item_of_path path) s = named_next path.selectors path.root s
  item_next (item_of_value e) s = moves Quiet (at (frame.Computes e ∷ s.control) s)
  item_next (item_of_record p) s = record_holder_next p (λ place. frame.Copies place.component p.record_type) s

  abbrev pub items_next : List ItemForm → State V H → Next V H
  items_next [] s = moves Quiet s
  items_next (i ∷ is) s = item_next i (at (frame.Fills is ∷ s.control) s)

  -- Records as wholes (4.3.1, 5.2): the components of one are copied, in order. Null in its place raises Constraint_Error, as where a component is
  -- followed to.
  abbrev pub copied_next : V → Option (List V) → State V H → Next V H
  copied_next o None s = halts Stuck
  copied_next o (Some vs) s = moves (Followed o) (set_operands (in_front vs (operands s)) s)

  abbrev pub copies_next : V → (first count : ℕ) → Found (Cell V) → State V H → Next V H
  copies_next o first count on_null s = moves Quiet (raised ConstraintError s)
  copies_next o first count on_gone s = halts (Erroneous FollowsGone)
  copies_next o first count on_other s = halts Stuck
  copies_next o first count (finds cell) s = copied_next o (record_in cell.values first count) s

  -- The newest operands, as many as `count`, in the order in which they were computed; and the state without them.
  abbrev pub newest_ones : (count : ℕ) → State V H → List V
  newest_ones count s = reverse (take count (operands s))

  abbrev pub without_newest : (count : ℕ) → State V H → State V H
  without_newest count s = set_operands (drop count (operands s)) s

  -- What lies in a variable's place before its declaration is elaborated: a value of its kind, which no resolved program reads (8.3).
  abbrev pub blank : VariableKind → V
  blank variable.Integer = ops.integer (pos 0)
  blank variable.Boolean = ops.boolean false
  blank (variable.Access access) = ops.null
  blank (variable.Record object) = ops.null

  -- What lies in the places of these variables then.
  abbrev pub blanks : List VariableForm → List V
  blanks [] = []
  blanks (x ∷ xs) = blank x.kind ∷ blanks xs

  -- The places of a body's variables, of which the first ones, the formal parameters, hold these values (6.4.1).
  abbrev pub given_places : (actuals : List V) → List VariableForm → List V
  given_places actuals variables = actuals ++ drop (length actuals) (blanks variables)

  -- Controlled parts (7.6, 7.6.1).

  -- What is left of the treatment of an object goes on.
  abbrev pub treated_on : V → Treatment → List Task → State V H → State V H
  treated_on v treatment tasks s = at (treating v treatment tasks s.control) s

  -- The body of an operation begins (7.6, 6.4): its one formal parameter stands for a part of an object. What the running body has computed waits.
  abbrev pub operating : (procedure : ℕ) → BodyForm → (reference : V) → (behind : List (Frame V)) → State V H → State V H
  operating procedure b reference behind s = entered (record s {
    activations = record { procedure = Some procedure; places = given_places (reference ∷ []) b.variables; operands = [] } ∷ s.activations;
    control = frame.Elaborates b.declarations b.statements b.handlers ∷ frame.Returns [] [] ∷ behind;
  })

  abbrev pub operation_next : (procedure : ℕ) → Option BodyForm → (reference : V) → (behind : List (Frame V)) → Event V → State V H → Next V H
  operation_next procedure None reference behind event s = halts Stuck
  operation_next procedure (Some b) reference behind event s = moves event (operating procedure b reference behind s)

  -- What refers to a part of an object.
  abbrev pub part_reference : V → (part : ℕ) → PartState → V
  part_reference v part p = ops.refer v (record { component = p.first; part = part })

  -- A part comes to have a value (7.6).
  abbrev pub born_next : V → Birth → (done : List Part) → (of part : ℕ) → List Task → Option PartState → State V H → Next V H
  born_next v by done of part tasks None s = halts Stuck
  born_next v by done of part tasks (Some p) s =
      moves (Born v part p.turn of (counted s.born) by)
      (treated_on v (begins by (record { of = of; number = part } ∷ done)) tasks
      (record s { born = counted s.born; heap = ops.bear s.heap v part (counted s.born) }))

  -- The operation that begins a part is called (7.6); where the type doesn't override it, it does nothing.
  abbrev pub begun_next : List BodyForm → V → Birth → (done : List Part) → (of part : ℕ) → List Task → (operation : Option ℕ) → Option PartState → State V H → Next V H
  begun_next bodies v by done of part tasks operation None s = halts Stuck
  begun_next bodies v by done of part tasks None (Some p) s = born_next v by done of part tasks (Some p) s
  begun_next bodies v by done of part tasks (Some procedure) (Some p) s =
      operation_next procedure (slice_get bodies procedure) (part_reference v part p) (frame.Awaits v by done of part tasks ∷ s.control) Quiet s

  -- The body of that operation has ended.
  abbrev pub awaited_next : V → Birth → (done : List Part) → (of part : ℕ) → List Task → Found (Cell V) → State V H → Next V H
  awaited_next v by done of part tasks on_null s = halts Stuck
  awaited_next v by done of part tasks on_gone s = halts (Erroneous FinalizesTwice)
  awaited_next v by done of part tasks on_other s = halts Stuck
  awaited_next v by done of part tasks (finds cell) s = born_next v by done of part tasks (slice_get cell.parts part) s

  -- Finalize of a part is called (7.6.1).
  abbrev pub ended_next : List BodyForm → V → (part : ℕ) → PartState → (behind : List (Frame V)) → (operation : Option ℕ) → Event V → State V H → Next V H
  ended_next bodies v part p behind None event s = moves event (at behind s)
  ended_next bodies v part p behind (Some procedure) event s =
      operation_next procedure (slice_get bodies procedure) (part_reference v part p) (frame.Confines ∷ behind) event s

  -- The value of a part is finalized: to finalize one that does not exist is erroneous.
  abbrev pub finalized_next : List BodyForm → V → Cause → (of part : ℕ) → List Task → (operation : Option ℕ) → Option PartState → State V H → Next V H
  finalized_next bodies v cause of part tasks operation None s = halts Stuck
  finalized_next bodies v cause of part tasks operation (Some p) s =
      if p.alive
      then ended_next bodies v part p (treating v (ends cause) tasks s.control) operation (Finalized v part p.turn of p.number cause)
      (record s { heap = ops.finalize s.heap v part })
      else halts (Erroneous FinalizesTwice)

  -- The operation of a part is called; this is left of the object then.
  abbrev pub performed_next : List TypeDefinition → List BodyForm → V → Treatment → (of part : ℕ) → List Task → Found (Cell V) → State V H → Next V H
  performed_next types bodies v treatment of part tasks on_null s = halts Stuck
  performed_next types bodies v treatment of part tasks on_gone s = halts (Erroneous FinalizesTwice)
  performed_next types bodies v treatment of part tasks on_other s = halts Stuck
  performed_next types bodies v (begins by done) of part tasks (finds cell) s =
      begun_next bodies v by done of part tasks (beginning by (operations_of types of)) (slice_get cell.parts part) s
  performed_next types bodies v (ends cause) of part tasks (finds cell) s =
      finalized_next bodies v cause of part tasks (procedure_number (operations_of types of).finalize) (slice_get cell.parts part) s

  -- The next step of a treatment, by what comes next of what is left.
  abbrev pub treats_next : List TypeDefinition → List BodyForm → V → Treatment → List Task → Follows → State V H → Next V H
  treats_next types bodies v treatment tasks Done s = moves Quiet s
  treats_next types bodies v treatment tasks (Pick count) s =
      if count == 0
      then halts Stuck
      else picks count (λ i. treated_on v treatment (picked_task (shapes_of types) (direction_of treatment) tasks i) s)
  treats_next types bodies v treatment tasks (Perform of part) s =
      performed_next types bodies v treatment of part (performed tasks) (ops.look s.heap v) s

  -- The new object: its components are the newest operands, in the order in which they were computed.
  abbrev pub new_cell : List TypeDefinition → (access count : ℕ) → Destination → State V H → Cell V
  new_cell types access count home s = record {
    access = access;
    number = counted s.allocated;
    home = record { item = home.item; pool = Some home.pool; subpool = None };
    values = newest_ones count s;
    parts = new_parts types access;
  }

  -- A granted allocator: the object exists, and the value that names it is the newest operand. A refused one raises Storage_Error (11.1).
  abbrev pub granted : List TypeDefinition → (access count words : ℕ) → Destination → State V H → State V H
  granted types access count words home s =
      treated_on (ops.created s.heap words) (begins Creation []) (all_tasks types access PartsFirst)
      (record (set_operands (ops.created s.heap words ∷ drop count (operands s)) s) {
        allocated = counted s.allocated;
        heap = ops.create s.heap words (new_cell types access count home s);
      })

  abbrev pub answered : List TypeDefinition → (access count words : ℕ) → Destination → State V H → Bool → State V H
  answered types access count words home s true = granted types access count words home s
  answered types access count words home s false = raised StorageError s

  -- A pool is asked for the words of an object whose type has an open collection, the pool of that; where there is none, Storage_Error is raised.
  abbrev pub new_next : List TypeDefinition → (access count words : ℕ) → Option Destination → State V H → Next V H
  new_next types access count words None s = moves Quiet (raised StorageError s)
  new_next types access count words (Some home) s =
      asks (Allocate home.pool 0 words (ops.created s.heap words)) (answered types access count words home s)

  -- What a component holds at first where no value is given (3.3.1, 3.8): null, if it holds access values.
  abbrev pub initial_value : ComponentKind → V
  initial_value (component.Integer initial) = ops.integer initial
  initial_value (component.Boolean initial) = ops.boolean initial
  initial_value (component.Access access) = ops.null

  -- What the components of an object hold at first, in order.
  abbrev pub initial_values : Option (List ComponentKind) → List V
  initial_values None = []
  initial_values (Some kinds) = map initial_value kinds

  -- What the components of an object hold at first is kept for the allocator (4.8).
  abbrev pub initialized : List TypeDefinition → (access : ℕ) → State V H → State V H
  initialized types access s = set_operands (in_front (initial_values (reached_of types access)) (operands s)) s

  -- What is assigned (5.2).
  abbrev pub right_next : List TypeDefinition → RightForm → State V H → Next V H
  right_next types nothing s = moves Quiet (computed ops.null s)
  right_next types (value_of path) s = named_next path.selectors path.root s
  right_next types (allocates access items) s = moves Quiet (at (frame.Fills items ∷ frame.Creates access (words_of types access) ∷ s.control) s)
  right_next types (allocates_default access) s =
      moves Quiet (at (frame.Creates access (words_of types access) ∷ s.control) (initialized types access s))
  right_next types (computes e) s = moves Quiet (at (frame.Computes e ∷ s.control) s)

  -- A Free of an object begins (13.11.2): it leaves its collection, is to cease to exist, its words are to go back to the pool of the access type,
  -- and then what held its name becomes null.
  abbrev pub freeing : List TypeDefinition → (access : ℕ) → V → Cell V → (clears : Frame V) → State V H → State V H
  freeing types access v cell clears s = numbered (record s {
    heap = ops.part s.heap v;
    control = finalizing types v cell (Freeing s.next)
        (frame.Ends v ∷ frame.GivesBack v (Freeing s.next) (Some (pool_freed_to (home_of access s.masters))) ∷ clears ∷ s.control);
  })

  -- It is erroneous where the object is of another pool (13.11.2).
  abbrev pub freeing_next : List TypeDefinition → (access : ℕ) → V → Cell V → (clears : Frame V) → Event V → State V H → Next V H
  freeing_next types access v cell clears event s =
      if same_pool (Some (pool_freed_to (home_of access s.masters))) cell.home.pool
      then moves event (freeing types access v cell clears s)
      else halts (Erroneous GivesElsewhere)

  -- Why a Free is erroneous where the object is gone, or is being ended, or not all of its controlled parts have a value (7.6.1, 13.11.2): a part would be
  -- finalized that has none; where it has no such parts, it would cease to exist once more.
  abbrev pub ends_again : List TypeDefinition → (access : ℕ) → Why
  ends_again types access = if parts_held types access == 0 then EndsTwice else FinalizesTwice

  -- Free (X) (13.11.2): null has no effect.
  abbrev pub free_next : List TypeDefinition → (access x : ℕ) → V → Found (Cell V) → State V H → Next V H
  free_next types access x v on_null s = moves Quiet s
  free_next types access x v on_gone s = halts (Erroneous (ends_again types access))
  free_next types access x v on_other s = halts Stuck
  free_next types access x v (finds cell) s = freeing_next types access v cell (frame.Clears x) Quiet s

  -- An object ceases to exist (13.11.2): twice is erroneous.
  abbrev pub end_next : V → Found (Cell V) → State V H → Next V H
  end_next v on_null s = halts Stuck
  end_next v on_gone s = halts (Erroneous EndsTwice)
  end_next v on_other s = halts Stuck
  end_next v (finds cell) s = moves Quiet (record s { heap = ops.finish s.heap v })

  -- Its storage goes back (13.11.2): to another pool than its own is erroneous, and so is twice. Of a declared object no pool is told.
  abbrev pub told_back : (pool : Option ℕ) → V → Event V → State V H → Next V H
  told_back None v event s = moves event s
  told_back (Some pool) v event s = tells (GiveBack v) event s

  abbrev pub given_back : V → Cause → Cell V → State V H → Next V H
  given_back v cause cell s =
      told_back cell.home.pool v (Back v cell.access cell.number cell.home.pool cell.home.subpool cause) (record s { heap = ops.back s.heap v })

  abbrev pub back_next : V → Cause → Option ℕ → Found (Cell V) → State V H → Next V H
  back_next v cause pool on_null s = halts Stuck
  back_next v cause pool on_gone s = halts (Erroneous EndsTwice)
  back_next v cause pool on_other s = halts Stuck
  back_next v cause pool (finds cell) s = if same_pool pool cell.home.pool then given_back v cause cell s else halts (Erroneous GivesElsewhere)

  -- A record that has controlled parts is assigned to another of its type (5.2, 7.6): nothing is done where both are one; else the target is finalized, the
  -- components are copied, and the target is adjusted. Target and source are found before.
  abbrev pub assigning : List TypeDefinition → (record_type : ℕ) → (target source : V) → State V H → State V H
  assigning types t target source s = numbered (computed (ops.whole source) (record s {
    control = treating (ops.whole target) (ends (Assigning s.next)) (record_tasks types t WholeFirst (ops.part_base target))
        (frame.Copies (ops.base source) t ∷ frame.StoresRecord (ops.whole target) (ops.base target) (width_of types t)
        ∷ treating (ops.whole target) (begins (Adjustment s.next) []) (record_tasks types t PartsFirst (ops.part_base target)) s.control);
  }))

  abbrev pub assigns_next : List TypeDefinition → (record_type : ℕ) → (target source : V) → (same : Option Bool) → State V H → Next V H
  assigns_next types t target source None s = halts Stuck
  assigns_next types t target source (Some true) s = moves Quiet s
  assigns_next types t target source (Some false) s = moves Quiet (assigning types t target source s)

  -- Statements (5.1). An assignment finds its target first (5.2): a variable, or a component of the object to which the path before its last
  -- name leads. Null there raises Constraint_Error before the right side is evaluated, and a target in an object that is gone is erroneous.
  abbrev pub assign_next : List ℕ → ℕ → RightForm → State V H → Next V H
  assign_next [] x right s = moves Quiet (at (frame.Evaluates right ∷ frame.Stores x ∷ s.control) s)
  assign_next (c ∷ cs) x right s = holder_next c cs x (λ last. frame.Targets last right) s

  abbrev pub target_next : V → (c : ℕ) → RightForm → Found (Cell V) → State V H → Next V H
  target_next o c right on_null s = moves Quiet (raised ConstraintError s)
  target_next o c right on_gone s = halts (Erroneous FollowsGone)
  target_next o c right on_other s = halts Stuck
  target_next o c right (finds cell) s = moves (Followed o) (at (frame.Evaluates right ∷ frame.StoresIn o c ∷ s.control) s)

  -- The component of an object gets a value, if the object has such a component. It is looked for once more: to store in an object that is gone
  -- is erroneous.
  abbrev pub stored_next : V → (c : ℕ) → V → Option V → State V H → Next V H
  stored_next o c v None s = halts Stuck
  stored_next o c v (Some before) s = moves (Followed o) (record s { heap = ops.store s.heap o c v })

  abbrev pub store_next : V → (c : ℕ) → V → Found (Cell V) → State V H → Next V H
  store_next o c v on_null s = halts Stuck
  store_next o c v on_gone s = halts (Erroneous FollowsGone)
  store_next o c v on_other s = halts Stuck
  store_next o c v (finds cell) s = stored_next o c v (slice_get cell.values c) s

  -- A record as a target: the object in which it lies is found first, then the items are evaluated, and then its components get their values at once.
  abbrev pub record_target_next : V → (first count : ℕ) → List ItemForm → Found (Cell V) → State V H → Next V H
  record_target_next o first count items on_null s = moves Quiet (raised ConstraintError s)
  record_target_next o first count items on_gone s = halts (Erroneous FollowsGone)
  record_target_next o first count items on_other s = halts Stuck
  record_target_next o first count items (finds cell) s =
      moves (Followed o) (at (frame.Fills items ∷ frame.StoresRecord o first count ∷ s.control) s)

  -- The components of an object from one on get these values.
  abbrev pub stored_from : H → V → (c : ℕ) → List V → H
  stored_from h o c [] = h
  stored_from h o c (v ∷ vs) = stored_from (ops.store h o c v) o (c + 1) vs

  abbrev pub record_stored_next : V → (first : ℕ) → List V → Option (List V) → State V H → Next V H
  record_stored_next o first vs None s = halts Stuck
  record_stored_next o first vs (Some before) s = moves (Followed o) (record s { heap = stored_from s.heap o first vs })

  abbrev pub store_record_next : V → (first count : ℕ) → Found (Cell V) → State V H → Next V H
  store_record_next o first count on_null s = halts Stuck
  store_record_next o first count on_gone s = halts (Erroneous FollowsGone)
  store_record_next o first count on_other s = halts Stuck
  store_record_next o first count (finds cell) s =
      record_stored_next o first (newest_ones count s) (record_in cell.values first count) (without_newest count s)

  -- A record that has controlled parts gets its value from one other record.
  abbrev pub copy_next : RecordPathForm → List ItemForm → State V H → Next V H
  copy_next target (item_of_record source ∷ []) s =
      moves Quiet (at (frame.Refers target ∷ frame.Refers source ∷ frame.Assigns target.record_type ∷ s.control) s)
  copy_next target items s = halts Stuck

  abbrev pub record_assign_next : (parts : Bool) → RecordPathForm → List ItemForm → State V H → Next V H
  record_assign_next true target items s = copy_next target items s
  record_assign_next false target items s =
      record_holder_next target (λ place. frame.TargetsRecord place.component target.record_type items) s

  abbrev pub frees_next : List TypeDefinition → List ℕ → (access x : ℕ) → State V H → Next V H
  frees_next types [] access x s = free_next types access x (held s x) (ops.standing s.heap (held s x)) s
  frees_next types (c ∷ cs) access x s = holder_next c cs x (λ last. frame.FreesIn access last) s

  -- Free (P.C): the object that P leads to is found first, as that of a target. What its component gives access to is freed as by Free (X), and
  -- the component becomes null.
  abbrev pub freed_next : List TypeDefinition → (access : ℕ) → V → (c : ℕ) → V → Found (Cell V) → State V H → Next V H
  freed_next types access o c v on_null s = moves (Followed o) s
  freed_next types access o c v on_gone s = halts (Erroneous (ends_again types access))
  freed_next types access o c v on_other s = halts Stuck
  freed_next types access o c v (finds cell) s = freeing_next types access v cell (frame.ClearsIn o c) (Followed o) s

  abbrev pub free_component_next : List TypeDefinition → (access : ℕ) → V → (c : ℕ) → Option V → State V H → Next V H
  free_component_next types access o c None s = halts Stuck
  free_component_next types access o c (Some v) s = freed_next types access o c v (ops.standing s.heap v) s

  abbrev pub free_in_next : List TypeDefinition → (access : ℕ) → V → (c : ℕ) → Found (Cell V) → State V H → Next V H
  free_in_next types access o c on_null s = moves Quiet (raised ConstraintError s)
  free_in_next types access o c on_gone s = halts (Erroneous FollowsGone)
  free_in_next types access o c on_other s = halts Stuck
  free_in_next types access o c (finds cell) s = free_component_next types access o c (slice_get cell.values c) s

  -- Branches (5.3): the conditions are evaluated one after another, until one is true.
  abbrev pub branches_next : BranchesForm → State V H → Next V H
  branches_next (otherwise fs) s = moves Quiet (at (frame.Does fs ∷ s.control) s)
  branches_next (a_branch e fs branches) s = moves Quiet (at (frame.Computes e ∷ frame.Decides fs branches ∷ s.control) s)

  abbrev pub decided_next : StmtsForm → BranchesForm → Option Bool → State V H → Next V H
  decided_next fs branches None s = halts Stuck
  decided_next fs branches (Some true) s = moves Quiet (at (frame.Does fs ∷ s.control) s)
  decided_next fs branches (Some false) s = branches_next branches s

  -- Loops (5.5): a turn begins with the condition, where there is one; what it repeats is at least one statement.
  abbrev pub turn_next : (condition : Option ExpressionForm) → StmtsForm → State V H → Next V H
  turn_next condition no_stmts s = halts Stuck
  turn_next condition (a_stmt f fs) s = moves Quiet (at (frame.Does (a_stmt f fs) ∷ frame.Repeats condition (a_stmt f fs) ∷ s.control) s)

  abbrev pub repeats_next : (condition : Option ExpressionForm) → StmtsForm → State V H → Next V H
  repeats_next None fs s = turn_next None fs s
  repeats_next (Some e) fs s = moves Quiet (at (frame.Computes e ∷ frame.Turns e fs ∷ s.control) s)

  abbrev pub turned_next : (condition : ExpressionForm) → StmtsForm → Option Bool → State V H → Next V H
  turned_next e fs None s = halts Stuck
  turned_next e fs (Some true) s = turn_next (Some e) fs s
  turned_next e fs (Some false) s = moves Quiet s

  -- Counting loops (5.5): once the bounds are known, each turn gives the parameter the next value, up to the last.
  abbrev pub count_turn_next : (parameter : ℕ) → (value last : ℤ) → StmtsForm → State V H → Next V H
  count_turn_next x value last no_stmts s = halts Stuck
  count_turn_next x value last (a_stmt f fs) s =
      moves Quiet (at (frame.Does (a_stmt f fs) ∷ frame.Counts x (value +ℤ pos 1) last (a_stmt f fs) ∷ s.control) (put x (ops.integer value) s))

  abbrev pub counts_next : (parameter : ℕ) → (value last : ℤ) → StmtsForm → State V H → Next V H
  counts_next x value last fs s = if int_le value last then count_turn_next x value last fs s else moves Quiet s

  abbrev pub ranges_next : (parameter : ℕ) → StmtsForm → (low high : Option ℤ) → State V H → Next V H
  ranges_next x fs None high s = halts Stuck
  ranges_next x fs (Some low) None s = halts Stuck
  ranges_next x fs (Some low) (Some high) s = counts_next x low high fs s

  -- The next number of the input goes to a variable, or to a component, whose object is found first; where there is none, End_Error is raised.
  abbrev pub gets_next : List ℕ → ℕ → List ℤ → State V H → Next V H
  gets_next (c ∷ cs) x input s = holder_next c cs x (λ last. frame.Receives last) s
  gets_next [] x [] s = moves Quiet (raised EndError s)
  gets_next [] x (i ∷ is) s = moves Quiet (put x (ops.integer i) (record s { input = is }))

  abbrev pub received_next : V → (c : ℕ) → List ℤ → Option V → State V H → Next V H
  received_next o c input None s = halts Stuck
  received_next o c [] (Some before) s = moves (Followed o) (raised EndError s)
  received_next o c (i ∷ is) (Some before) s = moves (Followed o) (record s { heap = ops.store s.heap o c (ops.integer i); input = is })

  abbrev pub receive_next : V → (c : ℕ) → Found (Cell V) → State V H → Next V H
  receive_next o c on_null s = moves Quiet (raised ConstraintError s)
  receive_next o c on_gone s = halts (Erroneous FollowsGone)
  receive_next o c on_other s = halts Stuck
  receive_next o c (finds cell) s = received_next o c s.input (slice_get cell.values c) s

  -- An exit (5.7), at once or on a condition.
  abbrev pub exit_next : Option ExpressionForm → State V H → Next V H
  exit_next None s = moves Quiet (jumping Exiting s)
  exit_next (Some e) s = moves Quiet (at (frame.Computes e ∷ frame.Exits ∷ s.control) s)

  abbrev pub exited_next : Option Bool → State V H → Next V H
  exited_next None s = halts Stuck
  exited_next (Some true) s = moves Quiet (jumping Exiting s)
  exited_next (Some false) s = moves Quiet s

  -- An activation of a procedure's body begins (6.4). A call is a statement: no form of the caller waits for a value.
  abbrev pub activated : (procedure : ℕ) → BodyForm → (actuals : List V) → State V H → State V H
  activated procedure b actuals s = record s {
    activations = record { procedure = Some procedure; places = given_places actuals b.variables; operands = [] } ∷ with_operands [] s.activations;
  }

  -- The body is a master of its own (7.6.1), and all of it is left to do before the caller goes on.
  abbrev pub begun : (procedure : ℕ) → BodyForm → (actuals : List ActualForm) → (operands : List V) → State V H → State V H
  begun procedure b actuals vs s =
      entered (activated procedure b (given_values actuals vs)
      (at (frame.Elaborates b.declarations b.statements b.handlers ∷ frame.Returns actuals (references_in actuals vs) ∷ s.control) s))

  -- A record that is given (6.2): its object is found, and what refers to it is the value of the formal parameter. Null in its place raises
  -- Constraint_Error.
  abbrev pub referred_next : V → Place → Option (List V) → State V H → Next V H
  referred_next o place None s = halts Stuck
  referred_next o place (Some vs) s = moves (Followed o) (computed (ops.refer o place) s)

  abbrev pub refers_next : V → Place → (count : ℕ) → Found (Cell V) → State V H → Next V H
  refers_next o place count on_null s = moves Quiet (raised ConstraintError s)
  refers_next o place count on_gone s = halts (Erroneous FollowsGone)
  refers_next o place count on_other s = halts Stuck
  refers_next o place count (finds cell) s = referred_next o place (record_in cell.values place.component count) s

  -- A component that is given (6.4.1): what refers to it is kept, so that it gets back what the formal parameter holds whatever is assigned meanwhile.
  abbrev pub open_next : List ℕ → (x : ℕ) → State V H → Next V H
  open_next [] x s = halts Stuck
  open_next (c ∷ cs) x s = holder_next c cs x frame.OpensIn s

  abbrev pub opened_next : V → (c : ℕ) → Option V → State V H → Next V H
  opened_next o c None s = halts Stuck
  opened_next o c (Some v) s = moves (Followed o) (computed v (computed (ops.refer o (record { component = c; part = 0 })) s))

  abbrev pub opens_next : V → (c : ℕ) → Found (Cell V) → State V H → Next V H
  opens_next o c on_null s = moves Quiet (raised ConstraintError s)
  opens_next o c on_gone s = halts (Erroneous FollowsGone)
  opens_next o c on_other s = halts Stuck
  opens_next o c (finds cell) s = opened_next o c (slice_get cell.values c) s

  -- The running activation ends normally (6.4.1, 6.5): its caller gets back what it is to get, and goes on. What goes to components is stored in them next,
  -- in order.
  abbrev pub storing : (references : List V) → List (Frame V) → List (Frame V)
  storing [] k = k
  storing (r ∷ rs) k = frame.StoresIn (ops.whole r) (ops.base r) ∷ storing rs k

  abbrev pub returned : List ActualForm → (references : List V) → State V H → State V H
  returned actuals references s =
      at (storing references s.control)
      (set_operands (stored_back actuals (places s) ++ operands (resumed s))
      (set_places (copied_back actuals (places s) (places (resumed s))) (resumed s)))

  -- A jump comes to the end of a call's body: a return ends it normally, and any other jump gives nothing back (6.4.1, 11.4).
  abbrev pub left_by : Mode → List ActualForm → (references : List V) → State V H → State V H
  left_by Running actuals references s = resumed s
  left_by (Raising e) actuals references s = resumed s
  left_by Exiting actuals references s = resumed s
  left_by Returning actuals references s = returned actuals references s

  -- A jump passes a frame: behind the body of a call the activation of its caller goes on.
  abbrev pub unwound : Mode → Frame V → State V H → State V H
  unwound mode (frame.Returns actuals references) s = left_by mode actuals references s
  unwound mode f s = s

  -- Actual parameters are evaluated one after another before what comes behind them.
  abbrev pub computing : List ActualForm → List (Frame V) → List (Frame V)
  computing [] k = k
  computing (a ∷ rest) k = evaluating a ∷ computing rest k

  -- A call (6.4): its actual parameters are evaluated, in order.
  abbrev pub call_next : (procedure : ℕ) → (actuals : List ActualForm) → Option BodyForm → State V H → Next V H
  call_next procedure actuals None s = halts Stuck
  call_next procedure actuals (Some b) s = moves Quiet (at (computing actuals (frame.Calls procedure b actuals ∷ s.control)) s)

  abbrev pub stmt_next : List TypeDefinition → List BodyForm → StmtForm → State V H → Next V H
  stmt_next types bodies skips s = moves Quiet s
  stmt_next types bodies (assigns target right) s = assign_next target.selectors target.root right s
  stmt_next types bodies (assigns_record target items) s = record_assign_next (has_parts types target.record_type) target items s
  stmt_next types bodies (frees access path) s = frees_next types path.selectors access path.root s
  stmt_next types bodies (gets target) s = gets_next target.selectors target.root s.input s
  stmt_next types bodies (writes e) s = moves Quiet (at (frame.Computes e ∷ frame.Writes ∷ s.control) s)
  stmt_next types bodies (writes_text text) s = moves (Line (Literal (record { 0 = text }))) s
  stmt_next types bodies (chooses branches) s = branches_next branches s
  stmt_next types bodies (repeats condition fs end_spot) s = moves Quiet (at (frame.Repeats condition fs ∷ s.control) s)
  stmt_next types bodies (counts x low high fs end_spot) s =
      moves Quiet (at (frame.Computes low ∷ frame.Computes high ∷ frame.Ranges x fs ∷ s.control) s)
  stmt_next types bodies (exits condition spot) s = exit_next condition s
  stmt_next types bodies (calls procedure actuals) s = call_next procedure actuals (slice_get bodies procedure) s
  stmt_next types bodies (returns spot) s = moves Quiet (jumping Returning s)
  stmt_next types bodies (raises e) s = moves Quiet (raised e s)
  stmt_next types bodies (encloses ds fs hs) s = moves Quiet (entered (at (frame.Elaborates ds fs hs ∷ s.control) s))

  abbrev pub stmts_next : List TypeDefinition → List BodyForm → StmtsForm → State V H → Next V H
  stmts_next types bodies no_stmts s = moves Quiet s
  stmts_next types bodies (a_stmt f fs) s = stmt_next types bodies f (at (frame.Does fs ∷ s.control) s)

  -- The line of an Integer (3.5, A.10.7).
  abbrev pub line_next : Option ℤ → State V H → Next V H
  line_next None s = halts Stuck
  line_next (Some i) s = moves (Line (Image i)) s

  -- A record object (3.3.1): its home is its own item, and its components hold these values.
  abbrev pub record_cell : List TypeDefinition → (object_type item : ℕ) → List V → Cell V
  record_cell types t item values = record {
    access = t;
    number = 0;
    home = record { item = item; pool = None; subpool = None };
    values = values;
    parts = new_parts types t;
  }

  -- The variable holds the name of the object, which is there from now on, and which the innermost master owns. Its controlled parts are initialized next,
  -- or adjusted, where it is a copy.
  abbrev pub made : List TypeDefinition → (x object_type : ℕ) → Birth → List V → State V H → State V H
  made types x t by values s =
      treated_on (ops.created s.heap (words_of types t)) (begins by []) (all_tasks types t PartsFirst)
      (owned (record_object t) (put x (ops.created s.heap (words_of types t))
      (record s { heap = ops.create s.heap (words_of types t) (record_cell types t (height s.masters) values) })))

  -- Where no initial value is written, its components hold what their declarations say; else the items of its initial value come first.
  abbrev pub record_next : List TypeDefinition → (x object_type : ℕ) → (initial : Option (List ItemForm)) → State V H → Next V H
  record_next types x t None s = moves Quiet (made types x t Creation (initial_values (reached_of types t)) s)
  record_next types x t (Some items) s = moves Quiet (at (frame.Fills items ∷ frame.DeclaresRecord x t ∷ s.control) s)

  -- A pool begins under a number (13.11).
  abbrev pub pool_next : (declaration number : ℕ) → State V H → Next V H
  pool_next p number s = tells (New number p) Quiet (owned (storage_pool p number) s)

  -- Declarations (3.11): a pool is created, and told (13.11); a collection is created, with the pool of its access type; a variable is created once its
  -- initial value is known; a record object is created. Then the statements come, and their handlers with them: these don't cover the declarations (11.4).
  abbrev pub declaration_next : List TypeDefinition → DeclarationForm → State V H → Next V H
  declaration_next types (creates_pool p) s = pool_next p (pools_in s.masters + 1) s
  declaration_next types (collects access) s = moves Quiet (owned (collection access (pool_for (pool_named types access) s.masters)) s)
  declaration_next types (declares x right) s = moves Quiet (at (frame.Evaluates right ∷ frame.Declares x ∷ s.control) s)
  declaration_next types (declares_record x t initial) s = record_next types x t initial s

  abbrev pub declarations_next : List TypeDefinition → List DeclarationForm → StmtsForm → HandlersForm → State V H → Next V H
  declarations_next types [] fs hs s = moves Quiet (at (frame.Does fs ∷ frame.Handles hs ∷ frame.Closes ∷ s.control) s)
  declarations_next types (d ∷ ds) fs hs s = declaration_next types d (at (frame.Elaborates ds fs hs ∷ s.control) s)

  -- The leaving of a master (7.6.1), newest item first: the objects of a collection go in an arbitrary order, and the collection after them, and
  -- so does a record object; a pool goes, and that is told (13.11); when no item is left, the master is left. The object that is taken leaves its
  -- collection at once.
  abbrev pub taken_out : List TypeDefinition → Cause → (pool : Option ℕ) → V → Found (Cell V) → State V H → State V H
  taken_out types cause pool v (finds cell) s = record s {
    heap = ops.part s.heap v;
    control = finalizing types v cell cause (frame.Ends v ∷ frame.GivesBack v cause pool ∷ s.control);
  }
  taken_out types cause pool v found s = record s { heap = ops.part s.heap v; control = frame.Ends v ∷ frame.GivesBack v cause pool ∷ s.control }

  abbrev pub taken : List TypeDefinition → Cause → (pool : Option ℕ) → List V → State V H → ℕ → State V H
  taken types cause pool vs s i =
      taken_out types cause pool (slice_index_or vs i ops.null) (ops.look s.heap (slice_index_or vs i ops.null)) s

  abbrev pub members_next : List TypeDefinition → Cause → (pool : Option ℕ) → List V → State V H → Next V H
  members_next types cause pool [] s = moves Quiet (record s { masters = shorter s.masters })
  members_next types cause pool (v ∷ vs) s = picks (length (v ∷ vs)) (taken types cause pool (v ∷ vs) s)

  abbrev pub item_leave_next : List TypeDefinition → ℕ → Item → Owned → State V H → Next V H
  item_leave_next types m item (declared x) s = moves Quiet (record s { masters = shorter s.masters })
  item_leave_next types m item (collection access pool) s = members_next types (Leaving m item.number) pool (ops.members s.heap item.number) s
  item_leave_next types m item (record_object t) s = members_next types (Leaving m item.number) None (ops.members s.heap item.number) s
  item_leave_next types m item (storage_pool declaration number) s = tells (Gone number) Quiet (record s { masters = shorter s.masters })

  abbrev pub master_leave_next : List TypeDefinition → Mode → ℕ → List Item → State V H → Next V H
  master_leave_next types mode m [] s = moves (Left m) (record s { masters = older s.masters; mode = mode })
  master_leave_next types mode m (item ∷ items) s = item_leave_next types m item item.owned (at (frame.Leaves mode ∷ s.control) s)

  abbrev pub leave_next : List TypeDefinition → Mode → List Master → State V H → Next V H
  leave_next types mode [] s = halts Stuck
  leave_next types mode (m ∷ ms) s = master_leave_next types mode m.number m.items s

  -- What a frame does that has been taken off, where no exception is on its way.
  abbrev pub frame_next : List TypeDefinition → List BodyForm → Frame V → State V H → Next V H
  frame_next types bodies (frame.Elaborates ds fs hs) s = declarations_next types ds fs hs s
  frame_next types bodies (frame.Does fs) s = stmts_next types bodies fs s
  frame_next types bodies (frame.Decides fs branches) s = decided_next fs branches (ops.reads_boolean (newest s)) (popped s)
  frame_next types bodies (frame.Repeats condition fs) s = repeats_next condition fs s
  frame_next types bodies (frame.Turns condition fs) s = turned_next condition fs (ops.reads_boolean (newest s)) (popped s)
  frame_next types bodies (frame.Ranges x fs) s =
      ranges_next x fs (ops.reads_integer (newest (popped s))) (ops.reads_integer (newest s)) (popped (popped s))
  frame_next types bodies (frame.Counts x value last fs) s = counts_next x value last fs s
  frame_next types bodies frame.Exits s = exited_next (ops.reads_boolean (newest s)) (popped s)
  frame_next types bodies (frame.Handles hs) s = moves Quiet s
  frame_next types bodies frame.Closes s = moves Quiet (at (frame.Leaves Running ∷ s.control) s)
  frame_next types bodies (frame.Leaves mode) s = leave_next types mode s.masters s
  frame_next types bodies (frame.Calls procedure b actuals) s = moves Quiet (begun procedure b actuals (newest_ones (operand_count actuals) s) s)
  frame_next types bodies (frame.Returns actuals references) s = moves Quiet (returned actuals references s)
  frame_next types bodies (frame.Evaluates right) s = right_next types right s
  frame_next types bodies (frame.Computes e) s = expression_next e s
  frame_next types bodies (frame.Follows cs) s = path_next cs (newest s) (popped s)
  frame_next types bodies (frame.TestsNull equal) s = null_test_next equal (ops.reads_null (newest s)) (popped s)
  frame_next types bodies (frame.Refers p) s = record_holder_next p (λ place. frame.RefersIn place p.record_type) s
  frame_next types bodies (frame.RefersIn place t) s = refers_next (newest s) place (width_of types t) (ops.look s.heap (newest s)) (popped s)
  frame_next types bodies (frame.Opens path) s = open_next path.selectors path.root s
  frame_next types bodies (frame.OpensIn c) s = opens_next (newest s) c (ops.look s.heap (newest s)) (popped s)
  frame_next types bodies (frame.Continues links) s = links_next links s
  frame_next types bodies (frame.Applies operator) s = outcome_next (ops.binary operator (newest (popped s)) (newest s)) (popped (popped s))
  frame_next types bodies (frame.AppliesAlone operator) s = outcome_next (ops.unary operator (newest s)) (popped s)
  frame_next types bodies (frame.Fills items) s = items_next items s
  frame_next types bodies (frame.Copies first t) s = copies_next (newest s) first (width_of types t) (ops.look s.heap (newest s)) (popped s)
  frame_next types bodies (frame.Creates access count) s = new_next types access count (words_of types access) (home_of access s.masters) s
  frame_next types bodies (frame.Stores x) s = moves Quiet (put x (newest s) (popped s))
  frame_next types bodies (frame.Targets c right) s = target_next (newest s) c right (ops.look s.heap (newest s)) (popped s)
  frame_next types bodies (frame.StoresIn o c) s = store_next o c (newest s) (ops.look s.heap o) (popped s)
  frame_next types bodies (frame.TargetsRecord first t items) s =
      record_target_next (newest s) first (width_of types t) items (ops.look s.heap (newest s)) (popped s)
  frame_next types bodies (frame.StoresRecord o first count) s = store_record_next o first count (ops.look s.heap o) s
  frame_next types bodies (frame.Assigns t) s =
      assigns_next types t (newest (popped s)) (newest s) (ops.same (newest (popped s)) (newest s)) (popped (popped s))
  frame_next types bodies (frame.Receives c) s = receive_next (newest s) c (ops.look s.heap (newest s)) (popped s)
  frame_next types bodies (frame.FreesIn access c) s = free_in_next types access (newest s) c (ops.look s.heap (newest s)) (popped s)
  frame_next types bodies (frame.Declares x) s = moves Quiet (owned (declared x) (put x (newest s) (popped s)))
  frame_next types bodies (frame.DeclaresRecord x t) s =
      moves Quiet (made types x t Copy (newest_ones (words_of types t) s) (without_newest (words_of types t) s))
  frame_next types bodies (frame.Treats v treatment tasks) s = treats_next types bodies v treatment tasks (task_next tasks) s
  frame_next types bodies (frame.Awaits v by done of part tasks) s = awaited_next v by done of part tasks (ops.look s.heap v) s
  frame_next types bodies frame.Confines s = moves Quiet s
  frame_next types bodies (frame.Resumes mode) s = moves Quiet (record s { mode = mode })
  frame_next types bodies frame.Writes s = line_next (ops.reads_integer (newest s)) (popped s)
  frame_next types bodies (frame.Ends v) s = end_next v (ops.look s.heap v) s
  frame_next types bodies (frame.GivesBack v cause pool) s = back_next v cause pool (ops.lent s.heap v) s
  frame_next types bodies (frame.Clears x) s = moves Quiet (put x ops.null s)
  frame_next types bodies (frame.ClearsIn o c) s = store_next o c ops.null (ops.look s.heap o) s

  -- An exception comes out of an Initialize (7.6.1): the part that this was to begin has no value. Those of its object that have begun are finalized, newest
  -- first; the object ceases to exist, its words go back, and then the exception goes on.
  abbrev pub undone : Exception → V → (done : List Part) → Cell V → State V H → State V H
  undone e v done cell s = numbered (record (set_operands [] s) {
    heap = ops.part s.heap v;
    mode = Running;
    control = treating v (ends (Undoing s.next)) (map (λ p. performs p.of p.number) done)
        (frame.Ends v ∷ frame.GivesBack v (Undoing s.next) cell.home.pool ∷ frame.Resumes (Raising e) ∷ s.control);
  })

  abbrev pub undo_next : Exception → V → (done : List Part) → Found (Cell V) → State V H → Next V H
  undo_next e v done on_null s = halts Stuck
  undo_next e v done on_gone s = halts (Erroneous EndsTwice)
  undo_next e v done on_other s = halts Stuck
  undo_next e v done (finds cell) s = moves Quiet (undone e v done cell s)

  -- One comes out of an Adjust: the run ends there.
  abbrev pub broken_next : Exception → V → Birth → (done : List Part) → State V H → Next V H
  broken_next e v Creation done s = undo_next e v done (ops.look s.heap v) s
  broken_next e v Copy done s = halts (Escaped e)
  broken_next e v (Adjustment number) done s = halts (Escaped e)

  -- No other jump leaves an operation so.
  abbrev pub broken_off : Mode → V → Birth → (done : List Part) → State V H → Next V H
  broken_off Running v by done s = halts Stuck
  broken_off (Raising e) v by done s = broken_next e v by done s
  broken_off Exiting v by done s = halts Stuck
  broken_off Returning v by done s = halts Stuck

  -- One comes out of a Finalize: the run ends there.
  abbrev pub escaped : Mode → Halt
  escaped Running = Stuck
  escaped (Raising e) = Escaped e
  escaped Exiting = Stuck
  escaped Returning = Stuck

  -- While a jump is on its way (5.7, 6.5, 11.4), pending work is discarded frame by frame, up to where it lands. A master interrupts it: the master is left
  -- first, and then the jump continues. So does an object whose initialization it leaves.
  abbrev pub landed : Landing V → Mode → State V H → Next V H
  landed passes_on mode s = moves Quiet s
  landed goes_behind mode s = moves Quiet (record s { mode = Running })
  landed (goes_in no_stmts) mode s = halts Stuck
  landed (goes_in (a_stmt f fs)) mode s = moves Quiet (record s { control = frame.Does (a_stmt f fs) ∷ s.control; mode = Running })
  landed (breaks_off v by done) mode s = broken_off mode v by done s
  landed escapes mode s = halts (escaped mode)

  abbrev pub pass_next : (master : Bool) → Landing V → Mode → State V H → Next V H
  pass_next true landing mode s = moves Quiet (record s { control = frame.Leaves mode ∷ s.control; mode = Running })
  pass_next false landing mode s = landed landing mode s

  abbrev pub running_next : List TypeDefinition → List BodyForm → List (Frame V) → State V H → Next V H
  running_next types bodies [] s = halts (end_of Running)
  running_next types bodies (f ∷ k) s = frame_next types bodies f (at k s)

  abbrev pub jump_next : Mode → List (Frame V) → State V H → Next V H
  jump_next mode [] s = halts (end_of mode)
  jump_next mode (f ∷ k) s = pass_next (is_master f) (landing mode f) mode (unwound mode f (at k s))

  abbrev pub mode_next : List TypeDefinition → List BodyForm → Mode → State V H → Next V H
  mode_next types bodies Running s = running_next types bodies s.control s
  mode_next types bodies (Raising e) s = jump_next (Raising e) s.control s
  mode_next types bodies Exiting s = jump_next Exiting s.control s
  mode_next types bodies Returning s = jump_next Returning s.control s
