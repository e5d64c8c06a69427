-- Calls (6.4, 6.5), in any step and any run of any program: what they do to activations, and what comes next where one begins and ends.

use Rattle.std.specs.Prelude.{◌≡◌, ◌⊎◌, ℕ, ◌+◌, ◌<◌, ℤ, Bool, true, List, [], ◌∷◌, ◌++◌, length, map, take, drop, reverse, Option, Some, None}
use Rattle.std.specs.List.{slice_get}
use Rattle.ada_values.specs.declared.value.Value.TheVariants as scalar
use Rattle.ada_program.specs.declared.program.Exception.{Exception}
use Rattle.ada_program.specs.declared.program.Program.{Program}
use Rattle.ada_program.specs.declared.program.TypeDefinition.{TypeDefinition}
use Rattle.ada_program.specs.declared.program.VariableKind.{VariableKind}
use Rattle.ada_program.specs.declared.program.VariableKind.TheVariants as variable
use Rattle.ada_program.specs.Form.{ActualForm, in_value, in_null, in_access, in_record, in_out_path, in_out_access, in_out_component, in_out_record, calls, StmtsForm, a_stmt}
use Rattle.ada_program.specs.ProgramForm.{VariableForm, BodyForm, body_forms}
use Rattle.ada_parts.specs.Task.{Task, next}
use Rattle.ada_meaning.specs.declared.state.Mode.{Mode}
use Rattle.ada_meaning.specs.declared.state.Mode.TheVariants.{Running, Raising, Exiting, Returning}
use Rattle.ada_meaning.specs.declared.state.Value.{Value}
use Rattle.ada_meaning.specs.declared.state.Value.TheVariants.{Null, Names, Scalar, Part}
use Rattle.ada_meaning.specs.Event.{Quiet}
use Rattle.ada_meaning.specs.Frame.{Treatment, Frame, evaluating}
use Rattle.ada_meaning.specs.Frame as frame
use Rattle.ada_meaning.specs.State.{Activation}
use Rattle.ada_meaning.specs.Named.{State}
use Rattle.ada_meaning.specs.declared.state.Id.{Id}
use Rattle.ada_meaning.specs.declared.state.Place.{Place}
use Rattle.ada_meaning.specs.Run.{Event, Choice, settled, Step}
use Rattle.ada_meaning.specs.Ending.{task_calls}

-- Callers stay.

-- The activations that wait for the running one to end: that of its caller first.
abbrev pub callers_in : List (Activation Value) → List (Activation Value)
callers_in [] = []
callers_in (running ∷ callers) = callers

-- The activations once the running one waits, too: it holds what it held. A call is a statement, so no form of it waits for an operand (6.4, 5.1).
abbrev pub waiting : List (Activation Value) → List (Activation Value)
waiting [] = []
waiting (running ∷ callers) = record running { operands = [] } ∷ callers

-- The body that runs goes on: its activation is of the same procedure and has as many variables as before, and those that wait for it are as they were.
abbrev pub RunsOn : (before after : List (Activation Value)) → Type 0
RunsOn [] [] = Unit {0}
RunsOn [] (later ∷ behind) = ⊥
RunsOn (running ∷ callers) [] = ⊥
RunsOn (running ∷ callers) (later ∷ behind) =
    (behind ≡ callers) × (later.procedure ≡ running.procedure) × (length later.places ≡ length running.places)

-- A call begins next: its actual parameters have been evaluated (6.4).
pub record BeginsCall (s : State) : Type 0 where
  pub procedure : ℕ
  pub body : BodyForm
  pub actuals : List ActualForm
  pub outer : List (Frame Value)
  pub runs : s.mode ≡ Running
  pub first : s.control ≡ frame.Calls procedure body actuals ∷ outer

-- The body of an operation begins next: a treatment comes to a part whose type overrides it (7.6, 7.6.1).
pub record BeginsOperation (types : List TypeDefinition) (s : State) : Type 0 where
  pub object : Value
  pub treatment : Treatment
  pub tasks : List Task
  pub outer : List (Frame Value)
  pub runs : s.mode ≡ Running
  pub first : s.control ≡ frame.Treats object treatment tasks ∷ outer
  pub called : task_calls types treatment (next tasks) ≡ true

-- The body of a call ends next: all of it is done, or a jump has come to its end (6.5, 11.4).
pub record EndsBody (s : State) : Type 0 where
  pub actuals : List ActualForm
  pub references : List Value
  pub outer : List (Frame Value)
  pub first : s.control ≡ frame.Returns actuals references ∷ outer

-- The body of a call ends normally: all of it is done, or a return has come to its end (6.5).
abbrev pub EndsNormally : Mode → Type 0
EndsNormally mode = (mode ≡ Running) ⊎ (mode ≡ Returning)

-- It ends by an exception, which passes it (11.4), or by an exit, of which no body that fits is left.
abbrev pub EndsAbruptly : Mode → Type 0
EndsAbruptly Running = ⊥
EndsAbruptly (Raising e) = Unit {0}
EndsAbruptly Exiting = Unit {0}
EndsAbruptly Returning = ⊥

-- The variable that an actual parameter gives for a formal one of mode `in out` (6.4.1): none, for one of mode `in`.
abbrev pub variable_given : ActualForm → Option ℕ
variable_given (in_value e) = None
variable_given in_null = None
variable_given (in_access path) = None
variable_given (in_record p) = None
variable_given (in_out_path path) = Some path.root
variable_given (in_out_access path) = Some path.root
variable_given (in_out_component path) = None
variable_given (in_out_record p) = None

-- A variable is given for a formal parameter of mode `in out` (6.4.1).
abbrev pub IsGiven : (variable : ℕ) → List ActualForm → Type 0
IsGiven x [] = ⊥
IsGiven x (a ∷ rest) = (variable_given a ≡ Some x) ⊎ IsGiven x rest

-- Is an actual parameter a component?
abbrev pub IsComponent : ActualForm → Type 0
IsComponent (in_value e) = ⊥
IsComponent in_null = ⊥
IsComponent (in_access path) = ⊥
IsComponent (in_record p) = ⊥
IsComponent (in_out_path path) = ⊥
IsComponent (in_out_access path) = ⊥
IsComponent (in_out_component path) = Unit {0}
IsComponent (in_out_record p) = ⊥

-- These values, of formal parameters, are given back to components (6.4.1), in order. Where there is no formal parameter, nothing is.
pub data GoBack : List ActualForm → (formals given_back : List Value) → Type 0 where
  none : {others : List Value} → GoBack [] others []
  no_more : {a : ActualForm} {rest : List ActualForm} → GoBack (a ∷ rest) [] []
  skips : {a : ActualForm} {rest : List ActualForm} {v : Value} {vs given_back : List Value}
      → (IsComponent a → ⊥) → GoBack rest vs given_back → GoBack (a ∷ rest) (v ∷ vs) given_back
  takes : {a : ActualForm} {rest : List ActualForm} {v : Value} {vs given_back : List Value}
      → IsComponent a → GoBack rest vs given_back → GoBack (a ∷ rest) (v ∷ vs) (v ∷ given_back)

-- What a caller gets back, once the body of its call has ended normally (6.4.1): it has the same variables, and those that are given for no formal
-- parameter of mode `in out` hold what they held. Each one that is given holds what the last formal parameter holds for which it is given. What goes to
-- components are the newest operands.
pub record GetsBack (actuals : List ActualForm) (callee caller later : Activation Value) : Type 0 where
  pub procedure : later.procedure ≡ caller.procedure
  pub operands :
      (given_back : List Value) × GoBack actuals callee.places given_back × (later.operands ≡ given_back ++ caller.operands)
  pub count : length later.places ≡ length caller.places
  pub others : (x : ℕ) → (IsGiven x actuals → ⊥) → slice_get later.places x ≡ slice_get caller.places x
  pub back :
      (front behind : List ActualForm) (a : ActualForm) (x : ℕ) (held : Value) → actuals ≡ front ++ a ∷ behind → variable_given a ≡ Some x
      → (IsGiven x behind → ⊥) → slice_get callee.places (length front) ≡ Some held → x < length caller.places → slice_get later.places x ≡ Some held

-- The running body ends normally, and its caller gets back what it is to get; those that wait for the caller are as they were.
abbrev pub ComesBack : List ActualForm → (before after : List (Activation Value)) → Type 0
ComesBack actuals [] after = (after ≡ [])
ComesBack actuals (callee ∷ []) after = (after ≡ [])
ComesBack actuals (callee ∷ caller ∷ suspended) [] = ⊥
ComesBack actuals (callee ∷ caller ∷ suspended) (later ∷ behind) = (behind ≡ suspended) × GetsBack actuals callee caller later

-- What a step makes of the activations: the running body goes on; or it calls, and waits behind the activation that begins; or an operation of a controlled
-- type is called, and the running body waits with all that it holds, its operands too, since such a call is no statement (7.6, 7.6.1); or the body ends
-- normally, and its caller gets back what it is to get; or it ends otherwise, and those that waited for it are as they were.
pub data CallersStay (types : List TypeDefinition) (before after : State) : Type 0 where
  goes_on : RunsOn before.activations after.activations → CallersStay types before after
  calls_one : BeginsCall before → (callee : Activation Value) → after.activations ≡ callee ∷ waiting before.activations → CallersStay types before after
  operates :
      BeginsOperation types before → (callee : Activation Value) → after.activations ≡ callee ∷ before.activations → CallersStay types before after
  ends : (body : EndsBody before) → EndsNormally before.mode → ComesBack body.actuals before.activations after.activations → CallersStay types before after
  breaks_off : EndsBody before → EndsAbruptly before.mode → after.activations ≡ callers_in before.activations → CallersStay types before after

-- Each step of a program does so, from whatever state.
abbrev pub StepsKeepCallers : Type 0
StepsKeepCallers =
    (program : Program) (before after : State) (choice : Choice) (event : Event) → Step program before choice event after
    → CallersStay program.types.items before after

-- Steps one after another, behind each of which more activations are there than so many callers: none of these has been returned to.
pub data WithinCall (program : Program) (callers : ℕ) : State → List Event → State → Type 0 where
  here : {s : State} → WithinCall program callers s [] s
  there :
      {s last : State} {event : Event} {events : List Event} (choice : Choice) (mid : State) → Step program s choice event mid
      → callers < length mid.activations → WithinCall program callers mid events last → WithinCall program callers s (event ∷ events) last

-- As long as a call lasts, those that wait for it hold what they held (6.4): nothing that happens within the call changes their variables.
abbrev pub CallersHold : Type 0
CallersHold =
    (program : Program) (first last : State) (events : List Event) (running : Activation Value) (callers : List (Activation Value))
    → first.activations ≡ running ∷ callers → WithinCall program (length callers) first events last
    → (later : Activation Value) × (inner : List (Activation Value)) × (last.activations ≡ later ∷ inner ++ callers)

-- What comes next.

-- There is a step, and whatever is answered it leads to a state of which this holds, and shows nothing.
pub record ComesTo (program : Program) (before : State) (P : State → Type 0) : Type 0 where
  pub goes : (after : State) × Step program before settled Quiet after
  pub leads : (choice : Choice) (event : Event) (after : State) → Step program before choice event after → (event ≡ Quiet) × P after

-- What no step of a call itself changes: the heap, the input, and what is counted of objects.
pub record LeavesAlone (before after : State) : Type 0 where
  pub heap : after.heap ≡ before.heap
  pub input : after.input ≡ before.input
  pub allocated : after.allocated ≡ before.allocated
  pub born : after.born ≡ before.born

-- A call evaluates its actual parameters, in order, before the procedure's body begins; then the statements behind it are left (6.4).
pub record EvaluatesActuals (procedure : ℕ) (actuals : List ActualForm) (body : BodyForm) (later : StmtsForm)
    (outer : List (Frame Value)) (before after : State) : Type 0 where
  pub control : after.control ≡ map evaluating actuals ++ frame.Calls procedure body actuals ∷ frame.Does later ∷ outer
  pub mode : after.mode ≡ Running
  pub activations : after.activations ≡ before.activations
  pub masters : after.masters ≡ before.masters
  pub next : after.next ≡ before.next
  pub alone : LeavesAlone before after

-- The body that begins is that of the procedure which the call names.
abbrev pub CallsEvaluate : Type 0
CallsEvaluate =
    (program : Program) (procedure : ℕ) (actuals : List ActualForm) (body : BodyForm) (later : StmtsForm) (outer : List (Frame Value)) (before : State)
    → slice_get (body_forms program) procedure ≡ Some body
    → before.mode ≡ Running → before.control ≡ frame.Does (a_stmt (calls procedure actuals) later) ∷ outer
    → ComesTo program before (EvaluatesActuals procedure actuals body later outer before)

-- A variable holds a value of its kind before its declaration is elaborated: null, if it is of an access type, or is to name a record object (8.3).
abbrev pub IsOfKind : VariableKind → Value → Type 0
IsOfKind variable.Integer v = (i : ℤ) × (v ≡ Scalar (scalar.Integer i))
IsOfKind variable.Boolean v = (b : Bool) × (v ≡ Scalar (scalar.Boolean b))
IsOfKind (variable.Access access) v = v ≡ Null
IsOfKind (variable.Record object) v = v ≡ Null

-- So does each of these.
abbrev pub AreOfKinds : List VariableForm → List Value → Type 0
AreOfKinds [] [] = Unit {0}
AreOfKinds [] (v ∷ vs) = ⊥
AreOfKinds (x ∷ xs) [] = ⊥
AreOfKinds (x ∷ xs) (v ∷ vs) = IsOfKind x.kind v × AreOfKinds xs vs

-- Of what has been computed for actual parameters, these values are those of the formal ones, and these refer to the components that are given (6.4.1):
-- for a component there are two operands, what refers to it and its value.
pub data AreGiven : List ActualForm → (computed formals references : List Value) → Type 0 where
  nothing : AreGiven [] [] [] []
  a_value : {a : ActualForm} {rest : List ActualForm} {v : Value} {computed formals references : List Value}
      → (IsComponent a → ⊥) → AreGiven rest computed formals references → AreGiven (a ∷ rest) (v ∷ computed) (v ∷ formals) references
  a_component : {a : ActualForm} {rest : List ActualForm} {r v : Value} {computed formals references : List Value}
      → IsComponent a → AreGiven rest computed formals references → AreGiven (a ∷ rest) (r ∷ v ∷ computed) (v ∷ formals) (r ∷ references)

-- An activation of a procedure's body has begun, with these actual parameters, whose formal ones get these values (6.4, 6.4.1).
pub record HasBegun (procedure : ℕ) (body : BodyForm) (given : List ActualForm) (actuals references : List Value) (caller : Activation Value)
    (callers : List (Activation Value)) (outer : List (Frame Value)) (before after : State) : Type 0 where
  pub callee : Activation Value
  -- it runs; its caller waits, and holds what it held
  pub activations : after.activations ≡ callee ∷ record caller { operands = [] } ∷ callers
  pub procedure_called : callee.procedure ≡ Some procedure
  -- its first variables, the formal parameters, hold the actual ones, in order; each other variable has a place, too
  pub formals : take (length actuals) callee.places ≡ actuals
  pub others : AreOfKinds (drop (length actuals) body.variables) (drop (length actuals) callee.places)
  pub operands : callee.operands ≡ []
  -- the body is a master, which owns nothing yet, and has the next number (7.6.1)
  pub masters : after.masters ≡ record { number = before.next; items = [] } ∷ before.masters
  pub next : after.next ≡ before.next + 1
  -- all of the body is left to do; then the call returns, and what was left comes
  pub control : after.control ≡ frame.Elaborates body.declarations body.statements body.handlers ∷ frame.Returns given references ∷ outer
  pub mode : after.mode ≡ Running
  pub alone : LeavesAlone before after

-- Once the actual parameters are evaluated, the last one newest, the body begins with them. What was computed before them is dropped.
abbrev pub ActualsArrive : Type 0
ActualsArrive =
    (program : Program) (procedure : ℕ) (body : BodyForm) (given : List ActualForm) (computed actuals references pending : List Value)
    (caller : Activation Value) (callers : List (Activation Value)) (outer : List (Frame Value)) (before : State)
    → before.mode ≡ Running → before.control ≡ frame.Calls procedure body given ∷ outer → AreGiven given computed actuals references
    → before.activations ≡ caller ∷ callers → caller.operands ≡ reverse computed ++ pending
    → ComesTo program before (HasBegun procedure body given actuals references caller callers outer before)

-- The components to which values refer get something back next (6.4.1), in order: these frames are left to do.
abbrev pub AreStoredIn : List Value → (frames : List (Frame Value)) → Type 0
AreStoredIn [] [] = Unit {0}
AreStoredIn [] (f ∷ k) = ⊥
AreStoredIn (r ∷ rs) [] = ⊥
AreStoredIn (r ∷ rs) (f ∷ k) = ((o : Id) (place : Place) → r ≡ Part o place → f ≡ frame.StoresIn (Names o) place.component) × AreStoredIn rs k

-- The body of a call has ended: its activation is gone, and what was behind the call is left. Where it has ended normally, its caller has what it gets
-- back, and runs (6.4.1, 6.5); where an exception passes, it holds what it held, and the exception goes on in it (11.4).
pub record HasReturned (actuals : List ActualForm) (references : List Value) (callee : Activation Value) (callers : List (Activation Value))
    (outer : List (Frame Value)) (before after : State) : Type 0 where
  pub gets_back : EndsNormally before.mode → ComesBack actuals (callee ∷ callers) after.activations
  pub holds_on : EndsAbruptly before.mode → after.activations ≡ callers
  pub stores : EndsNormally before.mode → (frames : List (Frame Value)) × AreStoredIn references frames × (after.control ≡ frames ++ outer)
  pub passes : EndsAbruptly before.mode → after.control ≡ outer
  pub runs : EndsNormally before.mode → after.mode ≡ Running
  pub raises : (e : Exception) → before.mode ≡ Raising e → after.mode ≡ Raising e
  pub masters : after.masters ≡ before.masters
  pub next : after.next ≡ before.next
  pub alone : LeavesAlone before after

-- Where the end of a call's body is first of what is left, the caller is returned to, with what it held and what it gets back.
abbrev pub CallersResume : Type 0
CallersResume =
    (program : Program) (actuals : List ActualForm) (references : List Value) (callee : Activation Value) (callers : List (Activation Value))
    (outer : List (Frame Value)) (before : State)
    → before.control ≡ frame.Returns actuals references ∷ outer → before.activations ≡ callee ∷ callers
    → ComesTo program before (HasReturned actuals references callee callers outer before)
