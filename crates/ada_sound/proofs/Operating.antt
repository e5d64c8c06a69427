-- The body of an operation runs (7.6): what holds there, and what is kept of all that waits for it.

use Rattle.std.proofs.Common.{◌≡◌, ℕ, Bool, true, false, List, [], ◌∷◌, ◌⊎◌}
use Rattle.std.specs.Prelude.{ℤ, drop, Option, Some, None}
use Rattle.std.specs.List.{list_all, list_any, slice_get}
use Rattle.ada_program.specs.declared.program.Exception.{Exception}
use Rattle.ada_program.specs.declared.program.Exception.TheVariants.{ConstraintError, EndError}
use Rattle.ada_program.specs.declared.program.Program.{Program}
use Rattle.ada_program.specs.declared.program.Operations.{Operations}
use Rattle.ada_program.specs.Controlled.{procedure_number}
use Rattle.ada_program.specs.Form.{ExpressionForm, RightForm, nothing, value_of, allocates, allocates_default, computes, StmtsForm, BranchesForm, HandlersForm}
use Rattle.ada_program.specs.ProgramForm.{TypeForm, VariableForm, BodyForm, ProgramForm, main_body, program_form, seen_in}
use Rattle.ada_program.specs.Handling.{is_same, is_taken}
use Rattle.ada_program.specs.declared.program.VariableKind.{VariableKind}
use Rattle.ada_program.specs.declared.program.VariableKind.TheVariants as variable
use Rattle.ada_program.specs.WellFormed.{reached_components, kind_among, variable_kind}
use Rattle.ada_effects.specs.Effects.{Implicit, no_calls, no_implicit, body_raises, unary_raises, binary_raises, expression_raises, links_raise, condition_raises, declarations_raise, stmts_raise, branches_raise, handlers_raise}
use Rattle.ada_deeds.specs.Implicit.{implicit_of}
use Rattle.ada_flow.specs.Flow.{have_exit, branches_have_exit, handlers_have_exit}
use Rattle.ada_meaning.specs.declared.event.Birth.TheVariants.{Creation, Copy, Adjustment}
use Rattle.ada_meaning.specs.declared.state.Id.{Id}
use Rattle.ada_meaning.specs.declared.state.Value.{Value}
use Rattle.ada_meaning.specs.declared.state.Value.TheVariants.{Null, Names, Scalar, Part}
use Rattle.ada_meaning.specs.declared.state.Stage.{Stage}
use Rattle.ada_meaning.specs.declared.state.Stage.TheVariants.{Building, Existing, Gone}
use Rattle.ada_meaning.specs.declared.state.Mode.{Mode}
use Rattle.ada_meaning.specs.declared.state.Mode.TheVariants.{Running, Raising, Exiting, Returning}
use Rattle.ada_meaning.specs.Event.{Quiet}
use Rattle.ada_meaning.specs.Frame.{Treatment, begins, ends, Elaborates, Does, Decides, Repeats, Turns, Ranges, Counts, Exits, Handles, Closes, Leaves, Returns, Evaluates, Computes, Continues, Applies, AppliesAlone, Stores, Targets, StoresIn, Receives, Declares, Writes}
use Rattle.ada_meaning.specs.Frame as frame
use Rattle.ada_meaning.specs.State.{Activation, Owned, declared, collection, record_object, storage_pool, Item, Master}
use Rattle.ada_parts.specs.Task.{Task}
use Rattle.ada_meaning.specs.Step.{treating, beginning, halts, moves, tells, asks, picks}
use Rattle.ada_meaning.specs.Named.{Object, State, Next, object_at}
use Rattle.ada_meaning.specs.Run.{Event}
use Rattle.ada_typed.proofs.Kept.{Behind}
use Rattle.ada_finalized.specs.Law.{NoOperationRuns}
use Rattle.ada_quiet.specs.Quiet.{is_elementary, holds_elementary, is_quiet_expression, are_quiet_links, is_quiet_condition, are_quiet_declarations, are_quiet, are_quiet_branches, are_quiet_handlers, is_plain_body}
use Rattle.ada_sound.specs.Agreement.{running_procedure}
use Rattle.ada_sound.proofs.Alters.{Alters}
use Rattle.ada_sound.proofs.Fits.{IsWithin, place_at}
use Rattle.ada_sound.proofs.Invariant.{Control, EndsWell, Says, IsOfCopied}

-- A value is an Integer or a Boolean, or null, where none has been computed: it names nothing.
abbrev pub IsScalar : Value → Type 0
IsScalar Null = Unit {0}
IsScalar (Names o) = ⊥
IsScalar (Scalar v) = Unit {0}
IsScalar (Part o place) = ⊥

abbrev pub AreScalars : List Value → Type 0
AreScalars [] = Unit {0}
AreScalars (v ∷ vs) = IsScalar v × AreScalars vs

-- A master of the body owns variables alone.
abbrev pub IsVariable : Owned → Type 0
IsVariable (declared x) = Unit {0}
IsVariable (collection access pool) = ⊥
IsVariable (record_object t) = ⊥
IsVariable (storage_pool declaration number) = ⊥

abbrev pub AreVariables : List Item → Type 0
AreVariables [] = Unit {0}
AreVariables (i ∷ is) = IsVariable i.owned × AreVariables is

abbrev pub OwnVariables : List Master → Type 0
OwnVariables [] = Unit {0}
OwnVariables (m ∷ ms) = AreVariables m.items × OwnVariables ms

-- An exit that is done here leaves a loop of the body.
abbrev pub IsInLoop : Control → Type 0
IsInLoop [] = ⊥
IsInLoop (Repeats condition fs ∷ k) = Unit {0}
IsInLoop (Counts x value last fs ∷ k) = Unit {0}
IsInLoop (Returns actuals references ∷ k) = ⊥
IsInLoop (f ∷ k) = IsInLoop k

-- An object that is looked for is found.
abbrev pub StaysLive : Stage → Type 0
StaysLive Building = Unit {0}
StaysLive Existing = Unit {0}
StaysLive Gone = ⊥

-- The body of an operation of this object is in front of this: it begins a part of the object, of this type, or finalizes one, and then what is left of that
-- comes, and what is behind.
abbrev pub WaitsFor : List TypeForm → Id → (of : ℕ) → Treatment → (tasks : List Task) → (k behind : Control) → Type 0
WaitsFor types o of (begins by done) tasks k behind = (part : ℕ) × (behind ≡ frame.Awaits (Names o) by done of part tasks ∷ k)
WaitsFor types o of (ends cause) tasks k behind = (behind ≡ frame.Confines ∷ treating (Names o) (ends cause) tasks k) × IsOfCopied types cause tasks k

-- The operation that a procedure overrides is the one that is called: what begins a part of a new object calls Initialize of the part's type, what ends one
-- calls Finalize, and what begins a part of a copy calls Adjust (7.6).
abbrev pub IsCalled : Operations → Treatment → (number : ℕ) → Type 0
IsCalled operations (begins by done) number = beginning by operations ≡ Some number
IsCalled operations (ends cause) number = procedure_number operations.finalize ≡ Some number

-- What a body sees, and the object that is treated: its name, and of which access type it is.
pub record Sight : Type 0 where
  pub program : ProgramForm
  pub object : Id
  pub access : ℕ

module _ (sight : Sight) where
  abbrev types : List TypeForm
  types = sight.program.types

  abbrev variables : List VariableForm
  variables = sight.program.variables

  -- An exception that is raised here is taken by a handler of the body, or is one that the body may let out.
  abbrev pub StaysIn : Exception → Control → Type 0
  StaysIn e [] = ⊥
  StaysIn e (Handles hs ∷ k) = (is_taken hs e ≡ true) ⊎ StaysIn e k
  StaysIn e (Returns actuals references ∷ k) = (body_raises no_calls (main_body sight.program) (is_same e) ≡ true)
  StaysIn e (f ∷ k) = StaysIn e k

  -- So it is of whatever jump goes on here; an exit stays in the body.
  abbrev pub GoesIn : Mode → Control → Type 0
  GoesIn Running k = Unit {0}
  GoesIn (Raising e) k = StaysIn e k
  GoesIn Exiting k = IsInLoop k
  GoesIn Returning k = Unit {0}

  -- Constraint_Error, if this may raise it.
  abbrev pub Contains : Bool → Control → Type 0
  Contains may k = may ≡ true → StaysIn ConstraintError k

  -- What a variable of a kind holds: the formal parameter refers to a record in the object that is treated.
  abbrev pub Holds : Option VariableKind → Value → Type 0
  Holds None v = Unit {0}
  Holds (Some variable.Integer) v = IsScalar v
  Holds (Some variable.Boolean) v = IsScalar v
  Holds (Some (variable.Access access)) v = ⊥
  Holds (Some (variable.Record t)) v =
      (place : _) × (v ≡ Part sight.object place) × IsWithin types (Some (variable.Record t)) sight.access place.component

  abbrev pub AllHold : List Value → Type 0
  AllHold places = (x : ℕ) → Holds (variable_kind variables x) (place_at places x)

  -- Each Integer or Boolean component of the object holds one.
  abbrev pub HoldScalars : Object → Type 0
  HoldScalars x =
      (c : ℕ) (v : Value) → holds_elementary (kind_among (reached_components types sight.access) c) ≡ true → slice_get x.cell.values c ≡ Some v → IsScalar v

  -- This is an Integer or Boolean component of the object.
  abbrev pub IsInto : Value → (component : ℕ) → Type 0
  IsInto v c = (v ≡ Names sight.object) × (holds_elementary (kind_among (reached_components types sight.access) c) ≡ true)

  -- Statements are plain, and so on.
  abbrev pub RunsIn : StmtsForm → Control → Type 0
  RunsIn fs k =
      (are_quiet types variables fs ≡ true) × ((e : Exception) → stmts_raise no_calls (is_same e) fs ≡ true → StaysIn e k)
      × (have_exit fs ≡ true → IsInLoop k)

  abbrev pub ChoosesIn : BranchesForm → Control → Type 0
  ChoosesIn branches k =
      (are_quiet_branches types variables branches ≡ true) × ((e : Exception) → branches_raise no_calls (is_same e) branches ≡ true → StaysIn e k)
      × (branches_have_exit branches ≡ true → IsInLoop k)

  abbrev pub HandlesIn : HandlersForm → Control → Type 0
  HandlesIn hs k =
      (are_quiet_handlers types variables hs ≡ true) × ((e : Exception) → handlers_raise no_calls (is_same e) hs ≡ true → StaysIn e k)
      × (handlers_have_exit hs ≡ true → IsInLoop k)

  abbrev pub ComputesIn : ExpressionForm → Control → Type 0
  ComputesIn e k = (is_quiet_expression types variables e ≡ true) × Contains (expression_raises e) k

  abbrev pub EvaluatesIn : RightForm → Control → Type 0
  EvaluatesIn nothing k = ⊥
  EvaluatesIn (value_of path) k = ⊥
  EvaluatesIn (allocates access items) k = ⊥
  EvaluatesIn (allocates_default access) k = ⊥
  EvaluatesIn (computes e) k = ComputesIn e k

  abbrev pub TurnsIn : Option ExpressionForm → StmtsForm → Control → Type 0
  TurnsIn condition fs k = (is_quiet_condition types variables condition ≡ true) × Contains (condition_raises condition) k × RunsIn fs (Repeats condition fs ∷ k)

  abbrev pub CountsIn : (parameter : ℕ) → StmtsForm → Control → Type 0
  CountsIn x fs k = (holds_elementary (variable_kind variables x) ≡ true) × ((value last : ℤ) → RunsIn fs (Counts x value last fs ∷ k))

  -- What is left to do of the body, in these masters, before this.
  abbrev pub Leads : (behind : Control) → Control → List Master → Type 0
  Leads behind [] ms = ⊥
  Leads behind (Elaborates ds fs hs ∷ k) [] = ⊥
  Leads behind (Elaborates ds fs hs ∷ k) (m ∷ ms) =
      ((are_quiet_declarations types variables ds ≡ true) × ((e : Exception) → declarations_raise no_implicit (is_same e) ds ≡ true → StaysIn e k)
      × RunsIn fs (Handles hs ∷ Closes ∷ k) × HandlesIn hs (Closes ∷ k)) × Leads behind k ms
  Leads behind (Does fs ∷ k) ms = RunsIn fs k × Leads behind k ms
  Leads behind (Decides fs branches ∷ k) ms = (RunsIn fs k × ChoosesIn branches k) × Leads behind k ms
  Leads behind (Repeats condition fs ∷ k) ms = TurnsIn condition fs k × Leads behind k ms
  Leads behind (Turns e fs ∷ k) ms = TurnsIn (Some e) fs k × Leads behind k ms
  Leads behind (Ranges x fs ∷ k) ms = CountsIn x fs k × Leads behind k ms
  Leads behind (Counts x value last fs ∷ k) ms = CountsIn x fs k × Leads behind k ms
  Leads behind (Exits ∷ k) ms = IsInLoop k × Leads behind k ms
  Leads behind (Handles hs ∷ k) ms = HandlesIn hs k × Leads behind k ms
  Leads behind (Closes ∷ k) [] = ⊥
  Leads behind (Closes ∷ k) (m ∷ ms) = Unit {0} × Leads behind k ms
  Leads behind (Evaluates right ∷ k) ms = EvaluatesIn right k × Leads behind k ms
  Leads behind (Computes e ∷ k) ms = ComputesIn e k × Leads behind k ms
  Leads behind (Continues links ∷ k) ms = ((are_quiet_links types variables links ≡ true) × Contains (links_raise links) k) × Leads behind k ms
  Leads behind (Applies operator ∷ k) ms = Contains (binary_raises operator) k × Leads behind k ms
  Leads behind (AppliesAlone operator ∷ k) ms = Contains (unary_raises operator) k × Leads behind k ms
  Leads behind (Stores x ∷ k) ms = (holds_elementary (variable_kind variables x) ≡ true) × Leads behind k ms
  Leads behind (Declares x ∷ k) [] = ⊥
  Leads behind (Declares x ∷ k) (m ∷ ms) = (holds_elementary (variable_kind variables x) ≡ true) × Leads behind k (m ∷ ms)
  Leads behind (StoresIn v c ∷ k) ms = IsInto v c × Leads behind k ms
  Leads behind (Writes ∷ k) ms = Unit {0} × Leads behind k ms
  Leads behind (Returns actuals references ∷ k) ms = ((actuals ≡ []) × (references ≡ [])) × (ms ≡ []) × (k ≡ behind)
  Leads behind (f ∷ k) ms = ⊥

  abbrev pub Quietly : (behind : Control) → List Master → Control → Type 0
  Quietly behind ms k = Leads behind k ms

  -- The innermost master is being left.
  abbrev pub Parts : (behind : Control) → List Master → Mode → Control → Type 0
  Parts behind [] left k = ⊥
  Parts behind (m ∷ ms) left k = GoesIn left k × Quietly behind ms k

  -- A master is being left; or the object is found, and what its component is to get comes next: a value, or a number of the input.
  abbrev pub Finds : (behind : Control) → List Master → Control → (operands : List Value) → Type 0
  Finds behind ms [] vs = ⊥
  Finds behind ms (Leaves left ∷ k) vs = AreScalars vs × Parts behind ms left k
  Finds behind ms (f ∷ k) [] = ⊥
  Finds behind ms (Targets c right ∷ k) (v ∷ vs) = IsInto v c × AreScalars vs × EvaluatesIn right k × Quietly behind ms k
  Finds behind ms (Receives c ∷ k) (v ∷ vs) = IsInto v c × AreScalars vs × StaysIn EndError k × Quietly behind ms k
  Finds behind ms (f ∷ k) (v ∷ vs) = ⊥

  -- What comes next.
  abbrev pub Comes : (behind : Control) → List Master → Mode → Control → (operands : List Value) → Type 0
  Comes behind ms mode k vs = (AreScalars vs × GoesIn mode k × Quietly behind ms k) ⊎ ((mode ≡ Running) × Finds behind ms k vs)

  -- The body runs, with these masters of its own, before this.
  pub record Body (behind : Control) (ms : List Master) (heap : List Object) (places operands : List Value) (mode : Mode) (k : Control) : Type 0 where
    pub x : Object
    pub found : object_at heap sight.object ≡ Some x
    pub live : StaysLive x.stage
    pub of_access : x.cell.access ≡ sight.access
    pub scalars : HoldScalars x
    pub holds : AllHold places
    pub own : OwnVariables ms
    pub comes : Comes behind ms mode k operands

-- The state once the body of the operation has come to its end.
abbrev pub behind_operation : (suspended : List (Activation Value)) → (behind : Control) → (lower : List Master) → State → State
behind_operation suspended behind lower s = record s { mode = Running; control = behind; activations = suspended; masters = lower }

-- No other operation runs while the body of a call does: none waits behind it.
abbrev pub IsCalm : Option Behind → Type 0
IsCalm None = Unit {0}
IsCalm (Some behind) = NoOperationRuns behind.left

-- Which exceptions may come out of the body of an operation, by what is treated: those that the initialization of an object may raise, and no others (7.6).
abbrev pub lets_out : Implicit → (access : ℕ) → Treatment → Exception → Bool
lets_out implicit access (begins Creation done) e = list_any (is_same e) (implicit.start_raises access)
lets_out implicit access (begins Copy done) e = false
lets_out implicit access (begins (Adjustment number) done) e = false
lets_out implicit access (ends cause) e = false

-- What is known of a plain body, in which no exit leads out of the body.
pub record PlainBody (types : List TypeForm) (b : BodyForm) : Type 0 where
  pub plain : is_plain_body types b ≡ true
  pub elementary : list_all (λ x. is_elementary x.kind) (drop 1 b.variables) ≡ true
  pub declarations : are_quiet_declarations types b.variables b.declarations ≡ true
  pub statements : are_quiet types b.variables b.statements ≡ true
  pub handlers : are_quiet_handlers types b.variables b.handlers ≡ true
  pub none_out : have_exit b.statements ≡ false
  pub none_on : handlers_have_exit b.handlers ≡ false

-- The body of an operation runs behind a step; what the step does to objects, and what its event says of them.
pub record InBody (program : Program) (Runs : State → Type 0) (before : List Object) (e : Event) (after : State) : Type 0 where
  pub body : Runs after
  pub alters : Alters before e after.heap
  pub says : Says (implicit_of (program_form program)) (seen_in (running_procedure after) (program_form program)) e before after

-- This is so behind whatever comes next, if the run does not end: nothing is picked.
abbrev pub StepsTo : (Event → State → Type 0) → State → Next → Type 0
StepsTo IsSo s (halts halt) = EndsWell halt s.heap s.masters
StepsTo IsSo s (moves e after) = IsSo e after
StepsTo IsSo s (tells request e after) = IsSo e after
StepsTo IsSo s (asks request answered) = (granted : Bool) → IsSo Quiet (answered granted)
StepsTo IsSo s (picks n taken) = ⊥
