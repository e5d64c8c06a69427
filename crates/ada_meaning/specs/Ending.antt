-- Statements keep beginning, or the run ends: each step that begins none makes a number smaller, the weight of its state.

use Rattle.std.specs.Prelude.{◌≡◌, ◌≢◌, ℕ, Bool, true, false, ◌||◌, ◌+◌, ◌==◌, ◌<◌, ◌≤◌, if◌then◌else◌, List, [], ◌∷◌, length, Option, Some, None, is_some}
use Rattle.std.specs.List.{sum_by}
use Rattle.ada_program.specs.declared.program.Program.{Program}
use Rattle.ada_program.specs.declared.program.TypeDefinition.{TypeDefinition}
use Rattle.ada_program.specs.Controlled.{OverridesNothing, number_of, shapes_of, operations_of}
use Rattle.ada_parts.specs.declared.tasks.Direction.TheVariants.{WholeFirst}
use Rattle.ada_parts.specs.Shape.{Shape, own_parts}
use Rattle.ada_parts.specs.declared.tasks.Next.{Next as Follows}
use Rattle.ada_parts.specs.declared.tasks.Next.TheVariants.{Done, Pick, Perform}
use Rattle.ada_parts.specs.Task.{Task, performs, treats, next as task_next}
use Rattle.ada_program.specs.Form.{PathForm, ExpressionForm, integer, boolean, reads, is_null, applied_to, chained, LinksForm, no_more_links, a_link, ItemForm, null_item, item_of_path, item_of_value, item_of_record, RightForm, nothing, value_of, allocates, allocates_default, computes, a_stmt, BranchesForm, otherwise, a_branch, DeclarationForm, creates_pool, collects, declares, declares_record}
use Rattle.ada_meaning.specs.declared.event.Halt.TheVariants.{Memory}
use Rattle.ada_meaning.specs.declared.state.Value.{Value}
use Rattle.ada_meaning.specs.declared.state.Mode.{Mode}
use Rattle.ada_meaning.specs.declared.state.Mode.TheVariants.{Running, Raising, Exiting, Returning}
use Rattle.ada_program.specs.ProgramForm.{body_forms}
use Rattle.ada_meaning.specs.Frame.{Treatment, begins as starts, ends, Frame, is_master, is_loop, is_return}
use Rattle.ada_meaning.specs.Frame as frame
use Rattle.ada_meaning.specs.State.{Master, begins}
use Rattle.ada_meaning.specs.Step.{halts, moves, tells, asks, picks, all_tasks, beginning}
use Rattle.ada_meaning.specs.Named.{Object, State, Next, next}
use Rattle.ada_meaning.specs.Run.{Event, Choice, Step}

-- A path: a step for the variable, and one for each component behind it.
abbrev pub path_weight : PathForm → ℕ
path_weight path = 1 + length path.selectors

abbrev mutual
  -- An expression: a step for each part, and one more where an operator waits for its operand.
  pub expression_weight : ExpressionForm → ℕ
  expression_weight (integer i) = 1
  expression_weight (boolean b) = 1
  expression_weight (reads path) = path_weight path
  expression_weight (is_null equal path) = 1 + path_weight path
  expression_weight (applied_to operator e) = 2 + expression_weight e
  expression_weight (chained e links) = 1 + expression_weight e + links_weight links

  -- The operators of a chain.
  pub links_weight : LinksForm → ℕ
  links_weight no_more_links = 1
  links_weight (a_link operator e links) = 2 + expression_weight e + links_weight links

-- An item of an aggregate: a record is copied once its object is found.
abbrev pub item_weight : ItemForm → ℕ
item_weight null_item = 1
item_weight (item_of_path path) = path_weight path
item_weight (item_of_value e) = 1 + expression_weight e
item_weight (item_of_record p) = 1 + path_weight p.object

-- All of them, and a step where none is left.
abbrev pub items_weight : List ItemForm → ℕ
items_weight [] = 1
items_weight (i ∷ is) = item_weight i + items_weight is

-- The steps that the treatment of a record takes at most: one for each call, and one for each component that is picked (7.6, 7.6.1).
abbrev pub steps_of : List Shape → (of : ℕ) → ℕ
steps_of [] t = 0
steps_of (shape ∷ older) t =
    if t == length older then own_parts shape + sum_by (λ c. 1 + steps_of older c) shape.components else steps_of older t

-- As many as the treatment of a record of any type may take.
abbrev pub steps_of_any : List Shape → ℕ
steps_of_any [] = 0
steps_of_any (shape ∷ older) = own_parts shape + sum_by (λ c. 1 + steps_of older c) shape.components + steps_of_any older

-- The same of a record type by its number, if it has controlled parts.
abbrev pub steps_for : List Shape → (number : Option ℕ) → ℕ
steps_for shapes None = 0
steps_for shapes (Some n) = steps_of shapes n

-- The treatment of a record of a type weighs this at most, wherever the record lies.
abbrev pub record_steps : List TypeDefinition → (record_type : ℕ) → ℕ
record_steps types t = 1 + steps_for (shapes_of types) (number_of types (Some t))

-- What is left of a treatment.
abbrev pub tasks_weight : List Shape → List Task → ℕ
tasks_weight shapes [] = 0
tasks_weight shapes (performs of part ∷ tasks) = 1 + tasks_weight shapes tasks
tasks_weight shapes (treats components ∷ tasks) = sum_by (λ c. 1 + steps_of shapes c.of) components + tasks_weight shapes tasks

-- The treatment of an object: of one that the values of an access type name, or of the one that is known by a type.
abbrev pub treatment_weight : List TypeDefinition → (access : ℕ) → ℕ
treatment_weight types access = 1 + tasks_weight (shapes_of types) (all_tasks types access WholeFirst)

-- A new object: it is initialized, and is to be finalized and to be ended, too.
abbrev pub new_weight : List TypeDefinition → (access : ℕ) → ℕ
new_weight types access = 3 + (treatment_weight types access + treatment_weight types access)

-- What is assigned.
abbrev pub right_weight : List TypeDefinition → RightForm → ℕ
right_weight types nothing = 1
right_weight types (value_of path) = path_weight path
right_weight types (allocates access items) = 2 + new_weight types access + items_weight items
right_weight types (allocates_default access) = 2 + new_weight types access
right_weight types (computes e) = 1 + expression_weight e

-- The conditions of an `if`, up to the first statement behind them.
abbrev pub branches_weight : BranchesForm → ℕ
branches_weight (otherwise fs) = 2
branches_weight (a_branch e fs branches) = 1 + expression_weight e + branches_weight branches

-- The condition of a loop, where there is one.
abbrev pub condition_weight : Option ExpressionForm → ℕ
condition_weight None = 0
condition_weight (Some e) = 1 + expression_weight e

-- The initial value of a record object, where there is one.
abbrev pub initial_weight : Option (List ItemForm) → ℕ
initial_weight None = 0
initial_weight (Some items) = 1 + items_weight items

-- A declaration: the item that it makes weighs 1, since it is to be left, too, and a record object as much as any new object.
abbrev pub declaration_weight : List TypeDefinition → DeclarationForm → ℕ
declaration_weight types (creates_pool pool) = 2
declaration_weight types (collects access) = 2
declaration_weight types (declares x right) = 3 + right_weight types right
declaration_weight types (declares_record x object initial) = 2 + new_weight types object + initial_weight initial

-- Declarations, and a step where none is left.
abbrev pub declarations_weight : List TypeDefinition → List DeclarationForm → ℕ
declarations_weight types [] = 1
declarations_weight types (d ∷ ds) = declaration_weight types d + declarations_weight types ds

-- A frame: as much as it may lead to before a statement begins.
abbrev pub frame_weight : {V : Type 0} → List TypeDefinition → Frame V → ℕ
frame_weight types (frame.Elaborates ds fs hs) = 5 + declarations_weight types ds
frame_weight types (frame.Does fs) = 1
frame_weight types (frame.Handles hs) = 2
frame_weight types frame.Closes = 2
frame_weight types (frame.Leaves mode) = 1
frame_weight types (frame.Calls procedure b actuals) = 7 + length actuals + declarations_weight types b.declarations
frame_weight types (frame.Returns actuals references) = 1 + length references
frame_weight types (frame.Decides fs branches) = 1 + branches_weight branches
frame_weight types (frame.Repeats condition fs) = 3 + condition_weight condition
frame_weight types (frame.Turns condition fs) = 3
frame_weight types (frame.Ranges x fs) = 3
frame_weight types (frame.Counts x value last fs) = 3
frame_weight types frame.Exits = 1
frame_weight types (frame.Evaluates right) = right_weight types right
frame_weight types (frame.Computes e) = expression_weight e
frame_weight types (frame.Follows cs) = 1 + length cs
frame_weight types (frame.TestsNull equal) = 1
frame_weight types (frame.Refers p) = 1 + path_weight p.object
frame_weight types (frame.RefersIn place t) = 1
frame_weight types (frame.Opens path) = 1 + path_weight path
frame_weight types (frame.OpensIn c) = 1
frame_weight types (frame.Continues links) = links_weight links
frame_weight types (frame.Applies operator) = 1
frame_weight types (frame.AppliesAlone operator) = 1
frame_weight types (frame.Fills items) = items_weight items
frame_weight types (frame.Copies first t) = 1
frame_weight types (frame.Creates access count) = 1 + new_weight types access
frame_weight types (frame.Stores x) = 1
frame_weight types (frame.Targets c right) = 2 + right_weight types right
frame_weight types (frame.StoresIn o c) = 1
frame_weight types (frame.TargetsRecord first t items) = 2 + items_weight items
frame_weight types (frame.StoresRecord o first count) = 1
frame_weight types (frame.Assigns t) = 5 + (record_steps types t + record_steps types t)
frame_weight types (frame.Receives c) = 1
frame_weight types (frame.FreesIn access c) = 5 + steps_of_any (shapes_of types)
frame_weight types (frame.Declares x) = 2
frame_weight types (frame.DeclaresRecord x t) = 2 + new_weight types t
frame_weight types (frame.Treats v treatment tasks) = 1 + tasks_weight (shapes_of types) tasks
frame_weight types (frame.Awaits v by done of part tasks) = 5 + length done + tasks_weight (shapes_of types) tasks
frame_weight types frame.Confines = 1
frame_weight types (frame.Resumes mode) = 1
frame_weight types frame.Writes = 1
frame_weight types (frame.Ends v) = 1
frame_weight types (frame.GivesBack v cause pool) = 1
frame_weight types (frame.Clears x) = 1
frame_weight types (frame.ClearsIn o c) = 1

-- Are these handlers?
abbrev pub has_handlers : {V : Type 0} → Frame V → Bool
has_handlers (frame.Handles hs) = true
has_handlers f = false

-- How many components get something back behind a frame, where a return comes to it.
abbrev pub stored_behind : {V : Type 0} → Frame V → ℕ
stored_behind (frame.Returns actuals references) = length references
stored_behind f = 0

-- What an exception undoes that comes out of an Initialize (7.6.1): the parts that have begun, and their object.
abbrev pub undone_behind : {V : Type 0} → Frame V → ℕ
undone_behind (frame.Awaits v by done of part tasks) = 4 + length done
undone_behind f = 0

-- A frame that a jump passes: a master is left besides, in handlers an exception may land, behind a call components may get something back, and what an
-- Initialize leaves is undone.
abbrev pub pass_weight : {V : Type 0} → Frame V → ℕ
pass_weight f = (if is_master f || has_handlers f then 2 else 1) + stored_behind f + undone_behind f

-- All frames, for an exception.
abbrev pub passed_weight : {V : Type 0} → List (Frame V) → ℕ
passed_weight [] = 0
passed_weight (f ∷ k) = pass_weight f + passed_weight k

-- What goes on in a mode: the weight of the frames that an exception passes, that an exit or a return passes and lands behind, or that run.
abbrev pub by_mode : Mode → (passed exited returned run : ℕ) → ℕ
by_mode Running passed exited returned run = run
by_mode (Raising e) passed exited returned run = passed
by_mode Exiting passed exited returned run = exited
by_mode Returning passed exited returned run = returned

-- What comes behind a frame: where a statement begins, only an exception counts; a condition of an exit may lead either way.
abbrev pub behind_weight : {V : Type 0} → Frame V → (passed exited returned run : ℕ) → ℕ
behind_weight (frame.Does (a_stmt f fs)) passed exited returned run = passed
behind_weight frame.Exits passed exited returned run = exited + run
behind_weight (frame.Leaves mode) passed exited returned run = by_mode mode passed exited returned run
behind_weight (frame.Resumes mode) passed exited returned run = by_mode mode passed exited returned run
behind_weight f passed exited returned run = run

abbrev mutual
  -- What is left to do before a statement begins.
  pub run_weight : List TypeDefinition → List (Frame Value) → ℕ
  run_weight types [] = 0
  run_weight types (f ∷ k) = frame_weight types f + behind_weight f (passed_weight k) (exit_weight types k) (return_weight types k) (run_weight types k)

  -- The weight of what is left while an exit is on its way: it lands behind a loop.
  pub exit_weight : List TypeDefinition → List (Frame Value) → ℕ
  exit_weight types [] = 0
  exit_weight types (f ∷ k) = pass_weight f + (if is_loop f then run_weight types k else exit_weight types k)

  -- The weight of what is left while a return is on its way: it lands behind the call of its body.
  pub return_weight : List TypeDefinition → List (Frame Value) → ℕ
  return_weight types [] = 0
  return_weight types (f ∷ k) = pass_weight f + (if is_return f then run_weight types k else return_weight types k)

-- The objects that are in their collections: each is yet to be finalized, ended and given back.
abbrev pub object_weight : List TypeDefinition → Object → ℕ
object_weight types object = if object.listed then 3 + treatment_weight types object.cell.access else 0

-- All objects.
abbrev pub heap_weight : List TypeDefinition → List Object → ℕ
heap_weight types [] = 0
heap_weight types (object ∷ objects) = object_weight types object + heap_weight types objects

-- The items of the masters: each is yet to be left.
abbrev pub masters_weight : List Master → ℕ
masters_weight [] = 0
masters_weight (m ∷ ms) = length m.items + masters_weight ms

-- The weight of a state: more than the steps that any run can make from it before a statement begins.
unfoldable pub weight : List TypeDefinition → State → ℕ
weight types s =
    heap_weight types s.heap + masters_weight s.masters
    + by_mode s.mode (passed_weight s.control) (exit_weight types s.control) (return_weight types s.control) (run_weight types s.control)

-- Does a task call a procedure that overrides an operation?
abbrev pub task_calls : List TypeDefinition → Treatment → Follows → Bool
task_calls types treatment Done = false
task_calls types treatment (Pick count) = false
task_calls types (starts by done) (Perform of part) = is_some (beginning by (operations_of types of))
task_calls types (ends cause) (Perform of part) = is_some (operations_of types of).finalize

-- Does a frame call one? A treatment does, where it comes to a part whose type overrides the operation.
abbrev pub frame_calls : {V : Type 0} → List TypeDefinition → Frame V → Bool
frame_calls types (frame.Treats v treatment tasks) = task_calls types treatment (task_next tasks)
frame_calls types f = false

-- Does the first of these frames, which is next, call one?
abbrev pub calls_among : {V : Type 0} → List TypeDefinition → List (Frame V) → Bool
calls_among types [] = false
calls_among types (f ∷ k) = frame_calls types f

-- Is one called next, in a mode with this left to do? While a jump is on its way none is.
abbrev pub calls_in : {V : Type 0} → List TypeDefinition → Mode → List (Frame V) → Bool
calls_in types Running k = calls_among types k
calls_in types (Raising e) k = false
calls_in types Exiting k = false
calls_in types Returning k = false

-- Is an operation called next (7.6, 7.6.1)?
abbrev pub calls_operation : List TypeDefinition → State → Bool
calls_operation types s = calls_in types s.mode s.control

-- Each step that begins no statement and calls no operation makes the state lighter, whatever is granted and picked: so a loop over a machine comes to the
-- next statement, to the body of an operation, or to the end.
abbrev pub StepsMakeLighter : Type 0
StepsMakeLighter = (program : Program) (s : State) (choice : Choice) (event : Event) (after : State) → begins s ≡ false → calls_operation program.types.items s ≡ false → Step program s choice event after → weight program.types.items after < weight program.types.items s

-- A program whose types override nothing calls no operation.
abbrev pub NothingIsCalled : Type 0
NothingIsCalled = (types : List TypeDefinition) (s : State) → OverridesNothing types → calls_operation types s ≡ false

-- The definition itself never wants memory, and where members are to be picked there is one.
abbrev pub GoesOn : Next → Type 0
GoesOn (halts halt) = halt ≢ Memory
GoesOn (moves e s) = Unit {0}
GoesOn (tells request e s) = Unit {0}
GoesOn (asks request answered) = Unit {0}
GoesOn (picks n taken) = 0 < n

-- So every state halts by a halt of the language, or has a step for whatever answer is given.
abbrev pub StatesGoOn : Type 0
StatesGoOn = (program : Program) (s : State) → GoesOn (next program.types.items (body_forms program) s)

-- Steps one after another, none of which begins a statement.
pub data WithinStatement (program : Program) : State → List Event → State → Type 0 where
  here : {s : State} → WithinStatement program s [] s
  there : {s last : State} {event : Event} {events : List Event} (choice : Choice) (mid : State) → begins s ≡ false → Step program s choice event mid → WithinStatement program mid events last → WithinStatement program s (event ∷ events) last

-- So many of them at most follow one another, where no type overrides an operation: a run begins another statement, or ends.
abbrev pub StatementsEnd : Type 0
StatementsEnd = (program : Program) → OverridesNothing program.types.items → (s last : State) (events : List Event) → WithinStatement program s events last → length events ≤ weight program.types.items s
