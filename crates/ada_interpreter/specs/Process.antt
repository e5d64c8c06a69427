-- A run in progress: the state that it stands for, and what a turn of it does.

use Rattle.std.specs.Prelude.{◌≡◌, ◌⊎◌, ℕ, Bool, true, false, pos, ◌+ℤ◌, List, [], ◌∷◌, map, Option, Some, Result, Ok, Err}
use Rattle.std.specs.Option.{option_copied}
use Rattle.std.specs.declared.alloc.AllocError.{AllocError}
use Rattle.ada_program.specs.Form.{component_number, path_form, record_path_form, reads, value_of, actual_form, expression_form, links_form, item_form, right_form, initial_form, condition_form, stmts_form, branches_form, handlers_form, declaration_form}
use Rattle.ada_program.specs.ProgramForm.{body_form}
use Rattle.ada_program.specs.Controlled.{shapes_of}
use Rattle.ada_program.specs.declared.program.TypeDefinition.{TypeDefinition}
use Rattle.ada_program.specs.declared.program.Exception.TheVariants.{ConstraintError}
use Rattle.ada_meaning.specs.declared.state.Value.{Value as ValueOf}
use Rattle.ada_meaning.specs.declared.state.Value.TheVariants.{Names}
use Rattle.ada_meaning.specs.declared.event.Cause.{Cause}
use Rattle.ada_meaning.specs.declared.event.Halt.{Halt}
use Rattle.ada_meaning.specs.declared.event.Halt.TheVariants.{Erroneous}
use Rattle.ada_meaning.specs.declared.event.Why.TheVariants.{GivesElsewhere}
use Rattle.ada_meaning.specs.declared.event.Cause.TheVariants.{Leaving as leaving, Freeing as freeing}
use Rattle.ada_meaning.specs.Frame.{Frame, ends, Landing, passes_on, goes_behind, goes_in}
use Rattle.ada_meaning.specs.Frame as frame
use Rattle.ada_meaning.specs.Event.{Quiet, Followed, Allocate, event_of, request_of}
use Rattle.ada_meaning.specs.Heap.{Cell, Found, on_null, on_gone, on_other, finds}
use Rattle.ada_meaning.specs.State.{Master, home_of, pool_freed_to}
use Rattle.ada_meaning.specs.Step.{halts, moves, tells, asks, picks, at, older, computed, raised, numbered, answered, taken, taken_out, finalizing, treating, all_tasks, treated_on, direction_of, picked_task, same_pool, ends_again}
use Rattle.ada_meaning.specs.Named.{State, Next, named, look, members, on_object, parted}
use Rattle.ada_interpreter.specs.declared.frame.Frame.{Frame as HeldFrame}
use Rattle.ada_interpreter.specs.declared.frees.Freed.{Freed}
use Rattle.ada_interpreter.specs.declared.frame.Frame.TheVariants as held
use Rattle.ada_interpreter.specs.declared.handling.Landing.{Landing as HeldLanding}
use Rattle.ada_interpreter.specs.declared.handling.Landing.TheVariants as landing
use Rattle.ada_interpreter.specs.declared.expressions.Outcome.{Outcome}
use Rattle.ada_interpreter.specs.declared.expressions.Outcome.TheVariants.{Value, Raises, Component}
use Rattle.ada_interpreter.specs.declared.turn.Turn.{Turn}
use Rattle.ada_interpreter.specs.declared.turn.Turn.TheVariants.{Halts, Moves, Tells, Asks, Picks, PicksComponent}
use Rattle.ada_interpreter.specs.declared.process.Process.{Process}
use Rattle.ada_parts.specs.declared.tasks.Direction.TheVariants.{WholeFirst}
use Rattle.ada_interpreter.specs.Masters.{destination_of}
use Rattle.ada_interpreter.specs.Treatment.{done_parts, treated_form}

-- One thing that is left to do. Behind a turn of a `for` loop, the next one comes with the next value.
abbrev pub frame_of : HeldFrame → Frame ValueOf
frame_of (held.Elaborates declarations statements handlers) =
    frame.Elaborates (map declaration_form declarations.now) (stmts_form statements.now) (handlers_form handlers.now)
frame_of (held.Does statements) = frame.Does (stmts_form statements.now)
frame_of (held.Decides statements branches otherwise) =
    frame.Decides (stmts_form statements.now) (branches_form branches.now (stmts_form otherwise.now))
frame_of (held.Repeats condition statements) = frame.Repeats (condition_form (option_copied condition)) (stmts_form statements.now)
frame_of (held.Turns condition statements) = frame.Turns (expression_form condition.now) (stmts_form statements.now)
frame_of (held.Ranges parameter statements) = frame.Ranges parameter.0 (stmts_form statements.now)
frame_of (held.Counts parameter value last statements) = frame.Counts parameter.0 (value +ℤ pos 1) last (stmts_form statements.now)
frame_of held.Exits = frame.Exits
frame_of (held.Handles handlers) = frame.Handles (handlers_form handlers.now)
frame_of held.Closes = frame.Closes
frame_of (held.Leaves mode) = frame.Leaves mode
frame_of (held.Calls procedure body actuals) = frame.Calls procedure.0 (body_form body.now) (map actual_form actuals.now)
frame_of (held.Returns actuals references) = frame.Returns (map actual_form actuals.now) references.items
frame_of (held.Evaluates right) = frame.Evaluates (initial_form (option_copied right))
frame_of (held.Computes expression) = frame.Computes (expression_form expression.now)
frame_of (held.Reads path) = frame.Computes (reads (path_form path.now))
frame_of (held.Names path) = frame.Evaluates (value_of (path_form path.now))
frame_of (held.Follows selectors) = frame.Follows (map component_number selectors.now)
frame_of (held.TestsNull equal) = frame.TestsNull equal
frame_of (held.Refers path) = frame.Refers (record_path_form path.now)
frame_of (held.RefersIn place record_type) = frame.RefersIn place record_type.0
frame_of (held.Opens path) = frame.Opens (path_form path.now)
frame_of (held.OpensIn component) = frame.OpensIn component.0
frame_of (held.Continues links) = frame.Continues (links_form links.now)
frame_of (held.Applies operator) = frame.Applies operator
frame_of (held.AppliesAlone operator) = frame.AppliesAlone operator
frame_of (held.Fills items) = frame.Fills (map item_form items.now)
frame_of (held.Copies first record_type) = frame.Copies first.0 record_type.0
frame_of (held.Creates access count) = frame.Creates access.0 count
frame_of (held.Stores variable) = frame.Stores variable.0
frame_of (held.Targets component right) = frame.Targets component.0 (right_form right.now)
frame_of (held.StoresIn object component) = frame.StoresIn object component.0
frame_of (held.TargetsRecord first record_type items) = frame.TargetsRecord first.0 record_type.0 (map item_form items.now)
frame_of (held.StoresRecord object first count) = frame.StoresRecord object first.0 count
frame_of (held.Assigns record_type) = frame.Assigns record_type.0
frame_of (held.Receives component) = frame.Receives component.0
frame_of (held.FreesIn access component) = frame.FreesIn access.0 component.0
frame_of (held.Declares variable) = frame.Declares variable.0
frame_of (held.DeclaresRecord variable object) = frame.DeclaresRecord variable.0 object.0
frame_of (held.Treats treated) =
    frame.Treats (Names treated.value.object) (treated_form treated.value) treated.value.tasks
frame_of (held.Awaits by treated of part) =
    frame.Awaits (Names treated.value.object) by (done_parts treated.value.done.items) of part treated.value.tasks
frame_of held.Confines = frame.Confines
frame_of (held.Resumes mode) = frame.Resumes mode
frame_of held.Writes = frame.Writes
frame_of (held.Ends object) = frame.Ends object
frame_of (held.GivesBack object cause pool) = frame.GivesBack object cause pool
frame_of (held.Clears variable) = frame.Clears variable.0
frame_of (held.ClearsIn object component) = frame.ClearsIn object component.0

-- Where a jump lands.
abbrev pub landing_of : HeldLanding → Landing ValueOf
landing_of landing.PassesOn = passes_on
landing_of landing.GoesBehind = goes_behind
landing_of (landing.GoesIn statements) = goes_in (stmts_form statements.now)

-- The state.
abbrev pub state_of : Process → State
state_of p = record {
  activations = p.activations;
  masters = p.masters;
  control = map frame_of p.frames;
  mode = p.mode;
  input = p.input;
  next = p.next;
  allocated = p.allocated;
  born = p.born;
  heap = p.objects;
}

-- The state once one of the components that are open has been picked, where this first of what is left to do, which is taken off in the first state, is a
-- treatment (7.6, 7.6.1).
abbrev pub picked_first : List TypeDefinition → (i : ℕ) → Frame ValueOf → (behind s : State) → State
picked_first types i (frame.Treats v treatment tasks) behind s = treated_on named v treatment (picked_task (shapes_of types) (direction_of treatment) tasks i) behind
picked_first types i f behind s = s

-- That of all that is left to do.
abbrev pub picked_in : List TypeDefinition → (i : ℕ) → List (Frame ValueOf) → State → State
picked_in types i [] s = s
picked_in types i (f ∷ k) s = picked_first types i f (at k s) s

-- That of a state.
abbrev pub picked : List TypeDefinition → (i : ℕ) → State → State
picked types i s = picked_in types i s.control s

-- What comes next, by the answer of a turn and the state that it left.
abbrev pub shown : List TypeDefinition → Turn → State → Next
shown types (Halts halt) s = halts halt
shown types (Moves e) s = moves (event_of e) s
shown types (Tells request e) s = tells (request_of request) (event_of e) s
shown types (Asks a) s = asks (Allocate a.home.pool 0 a.words (Names a.object)) (answered named types a.access.0 a.count a.words (destination_of a.home) s)
shown types (Picks l) s = picks l.count (taken named types (leaving l.master l.item) l.pool (members s.heap l.item) s)
shown types (PicksComponent o) s = picks o.count (λ i. picked types i s)

-- A halt leaves the state as it was.
abbrev pub Stays : Turn → State → State → Type 0
Stays (Halts halt) before after = after ≡ before
Stays (Moves e) before after = Unit {0}
Stays (Tells request e) before after = Unit {0}
Stays (Asks a) before after = Unit {0}
Stays (Picks l) before after = Unit {0}
Stays (PicksComponent o) before after = Unit {0}

-- A turn answers and leaves what comes next, and a halt leaves the state as it was; unless memory is refused.
pub record IsTurnOf (types : List TypeDefinition) (coming : Next) (before : State) (turn : Turn) (after : State) : Type 0 where
  pub shows : shown types turn after ≡ coming
  pub stays : Stays turn before after

-- A turn is answered that is what comes in a state, unless memory runs out.
abbrev pub TurnsOf : List TypeDefinition → Next → State → Result Turn AllocError → State → Type 0
TurnsOf types coming before (Ok turn) after = IsTurnOf types coming before turn after
TurnsOf types coming before (Err e) after = Unit {0}

-- What comes next, by the answer of a turn that leaves nothing open.
abbrev pub Shows : Turn → State → Next → Type 0
Shows (Halts halt) s coming = halts halt ≡ coming
Shows (Moves e) s coming = moves (event_of e) s ≡ coming
Shows (Tells request e) s coming = tells (request_of request) (event_of e) s ≡ coming
Shows (Asks a) s coming = ⊥
Shows (Picks l) s coming = ⊥
Shows (PicksComponent o) s coming = ⊥

-- A turn that leaves nothing open answers and leaves what comes next, whatever the types are.
pub record IsTurn (coming : Next) (before : State) (turn : Turn) (after : State) : Type 0 where
  pub shows : Shows turn after coming
  pub stays : Stays turn before after

-- Such a turn is answered, unless memory runs out.
abbrev pub Turns : Next → State → Result Turn AllocError → State → Type 0
Turns coming before (Ok turn) after = IsTurn coming before turn after
Turns coming before (Err e) after = Unit {0}

-- May the step of a frame leave open which answer comes?
abbrev pub asks_by : Frame ValueOf → Bool
asks_by (frame.Leaves mode) = true
asks_by (frame.Creates access count) = true
asks_by (frame.Treats v treatment tasks) = true
asks_by f = false

-- That of the first of what is left to do.
abbrev pub asks_first : List (Frame ValueOf) → Bool
asks_first [] = false
asks_first (f ∷ k) = asks_by f

-- The state once the frame that is first of what is left to do has been taken off, and once another one stands in its place or before it.
abbrev pub passed : State → State
passed s = at (older s.control) s

-- The state once another thing is left to do in place of the first.
abbrev pub replaced : Frame ValueOf → State → State
replaced f s = at (f ∷ older s.control) s

-- The state once one more thing is left to do, before all others.
abbrev pub pushed : Frame ValueOf → State → State
pushed f s = at (f ∷ s.control) s

-- What comes next by the outcome of a path or of an operator.
abbrev pub behind : List ℕ → State → State
behind [] s = s
behind (c ∷ cs) s = pushed (frame.Follows (c ∷ cs)) s

-- What comes of an outcome: its value is computed, Constraint_Error is raised, or an object is followed.
abbrev pub going_by : Outcome → State → Next
going_by (Value v) s = moves Quiet (computed v s)
going_by Raises s = moves Quiet (raised ConstraintError s)
going_by (Component object v rest) s = moves (Followed (Names object)) (behind (map component_number rest.now) (computed v s))

-- What comes of an outcome, or of the halt in place of one.
abbrev pub outcome_of : Result Outcome Halt → State → Next
outcome_of (Ok outcome) s = going_by outcome s
outcome_of (Err halt) s = halts halt

-- An object is to cease to exist, and its storage is to go back, to a pool if it is from one: it leaves its collection, and its controlled parts are
-- finalized first.
abbrev pub ending : List TypeDefinition → ValueOf → Cause → (pool : Option ℕ) → State → State
ending types v cause pool s = taken_out named types cause pool v (look s.heap v) s

-- The controlled parts of an object that exists are finalized next (7.6.1).
abbrev pub finalized_first : List TypeDefinition → ValueOf → Cause → Found (Cell ValueOf) → State → State
finalized_first types v cause on_null s = s
finalized_first types v cause on_gone s = s
finalized_first types v cause on_other s = s
finalized_first types v cause (finds cell) s = at (finalizing types v cell cause s.control) s

-- A Free ends what is found (13.11.2): it stands, is known by this type, and is of the pool of the access type, to which its words go back.
pub record Frees (access : ℕ) (masters : List Master) (found : Found (Cell ValueOf)) (freed : Freed) : Type 0 where
  pub cell : Cell ValueOf
  pub stands : found ≡ finds cell
  pub known_by : freed.known_by.0 ≡ cell.access
  pub pool : freed.pool ≡ pool_freed_to (home_of access masters)
  pub own : same_pool (Some (pool_freed_to (home_of access masters))) cell.home.pool ≡ true

-- It is of another pool.
pub record IsElsewhere (access : ℕ) (masters : List Master) (found : Found (Cell ValueOf)) : Type 0 where
  pub cell : Cell ValueOf
  pub stands : found ≡ finds cell
  pub other : same_pool (Some (pool_freed_to (home_of access masters))) cell.home.pool ≡ false

-- How a Free ends what is found, or how the run ends where the Free is erroneous.
abbrev pub IsFreed : List TypeDefinition → (access : ℕ) → List Master → (found : Found (Cell ValueOf)) → Result Freed Halt → Type 0
IsFreed types access masters found (Ok freed) = Frees access masters found freed
IsFreed types access masters found (Err halt) =
    ((halt ≡ Erroneous (ends_again named types access)) × (found ≡ on_gone)) ⊎ ((halt ≡ Erroneous GivesElsewhere) × IsElsewhere access masters found)

-- An object begins to end by a Free (13.11.2): it leaves its collection, a number is used up for it, and its words are to go back to this pool. Its controlled
-- parts are finalized first, by the type that it is known by.
abbrev pub releasing : List TypeDefinition → (access pool : ℕ) → ValueOf → State → State
releasing types access pool v s = numbered (record s {
  heap = on_object parted s.heap v;
  control = treating v (ends (freeing s.next)) (all_tasks types access WholeFirst) (frame.Ends v ∷ frame.GivesBack v (freeing s.next) (Some pool) ∷ s.control);
})
