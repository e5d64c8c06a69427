-- What every step keeps: control typed by its flow, places that fit, objects that are stored.

use Rattle.std.proofs.Common.{◌≡◌, ◌≢◌, ℕ, zero, suc, ◌≤◌, Bool, true, false, not, ◌&&◌, ◌||◌, List, [], ◌∷◌, ◌++◌, length, take, drop, reverse, ◌⊎◌, inl, inr}
use Rattle.std.specs.Prelude.{ℤ, Option, Some, None}
use Rattle.ada_text.specs.declared.spot.Spot.{Spot}
use Rattle.std.specs.List.{list_any, slice_get, slice_index_or, slice_set}
use Rattle.ada_program.specs.declared.program.Exception.{Exception}
use Rattle.ada_program.specs.declared.program.Exception.TheVariants.{ConstraintError, StorageError, EndError}
use Rattle.ada_program.specs.Form.{ActualForm, in_value, in_null, in_access, in_record, in_out_path, in_out_access, in_out_component, in_out_record, PathForm, RecordPathForm, ExpressionForm, ItemForm, null_item, item_of_path, item_of_value, item_of_record, RightForm, nothing, value_of, allocates, allocates_default, computes, assigns, StmtsForm, a_stmt, BranchesForm, HandlersForm, DeclarationForm}
use Rattle.ada_program.specs.declared.program.ComponentKind.{ComponentKind}
use Rattle.ada_parts.specs.Task.{Task}
use Rattle.ada_program.specs.declared.program.Finalization.{Finalization}
use Rattle.ada_program.specs.ProgramForm.{TypeForm, VariableForm, BodyForm, ProgramForm, main_body}
use Rattle.ada_program.specs.declared.program.VariableKind.{VariableKind}
use Rattle.ada_program.specs.declared.program.VariableKind.TheVariants as variable
use Rattle.ada_program.specs.declared.program.TypeNo.{TypeNo}
use Rattle.ada_program.specs.WellFormed.{finalization_of, is_access, access_of, kind_among, path_kind, selected_kind, selectors_kind, variable_kind, record_components, reached_components, items_fit, is_record_object, object_named, profile_of, suits_profile}
use Rattle.ada_program.specs.Handling.{is_same, handler_of}
use Rattle.ada_effects.specs.Effects.{expression_raises, links_raise, items_raise, path_raises, record_path_raises, condition_raises, unary_raises, binary_raises, right_raises, right_starts, declaration_raises, stmts_raise, branches_raise, handlers_raise, Effect, Implicit, call_raises, body_raises, stmts_free, branches_free, handlers_free, body_frees, call_frees, effects_of, endings_free, declaration_frees, assignment_frees}
use Rattle.ada_flow.specs.declared.rule.Hold.TheVariants as hold
use Rattle.ada_flow.specs.declared.rule.Region.TheVariants.{Whole}
use Rattle.ada_flow.specs.Flow.{Holds, hold_at, variable_access, lost_by, Outcome, faults, goes, Use, uses_in, uses_in_links, uses_in_item, named_by_item, is_owning, is_owning_record, broken_among, without_freed, without_values, moved_by_items, passes_type, behind_end, gives, gives_component, clears, compares_it, uses_in_actuals, Keeping, keeping_of, kept_at, is_kept, handed_back, left_unkept, owed_from, gives_back, all_give_back, are_as_good, have_exit, branches_have_exit, handlers_have_exit, is_left, condition_flow, stmts_flow, branches_flow, handlers_flow, declaration_flow, Gone as GoneWith, collected, is_among, left, left_finalized, left_by_call, nothing_gone, Around, owns_among, component_passes}
use Rattle.ada_flow.specs.Tracking.{no_tracks, with_tracked}
use Rattle.ada_meaning.specs.declared.state.Id.{Id}
use Rattle.ada_meaning.specs.declared.state.Place.{Place}
use Rattle.ada_meaning.specs.declared.state.Value.{Value}
use Rattle.ada_meaning.specs.declared.state.Value.TheVariants.{Null, Names, Scalar, Part}
use Rattle.ada_meaning.specs.declared.state.Stage.TheVariants.{Existing, Gone}
use Rattle.ada_meaning.specs.declared.state.Mode.{Mode}
use Rattle.ada_meaning.specs.declared.state.Mode.TheVariants.{Running, Raising, Exiting, Returning}
use Rattle.ada_meaning.specs.declared.event.Birth.TheVariants.{Creation, Copy, Adjustment}
use Rattle.ada_meaning.specs.declared.event.Cause.{Cause}
use Rattle.ada_meaning.specs.declared.event.Cause.TheVariants.{Leaving, Freeing, Assigning, Undoing}
use Rattle.ada_meaning.specs.declared.event.Halt.{Halt}
use Rattle.ada_meaning.specs.declared.event.Halt.TheVariants.{Finished, Unhandled, Escaped, Erroneous, Stuck, Memory}
use Rattle.ada_meaning.specs.Frame.{Frame, Elaborates, Does, Decides, Repeats, Turns, Ranges, Counts, Exits, Handles, Closes, Leaves, Calls, Returns, Evaluates, Computes, Follows, TestsNull, Refers, RefersIn, Opens, OpensIn, Continues, Applies, AppliesAlone, Fills, Copies, Creates, Stores, Targets, StoresIn, TargetsRecord, StoresRecord, Assigns, Receives, FreesIn, Declares, DeclaresRecord, Treats, Writes, Ends, GivesBack, Clears, ClearsIn, Treatment, begins, ends}
use Rattle.ada_meaning.specs.Frame as frame
use Rattle.ada_meaning.specs.Event.{Born, Finalized, Back, Followed, Left, Line, Quiet}
use Rattle.ada_meaning.specs.State.{Activation, Owned, declared, collection, record_object, storage_pool, Item, Master, height}
use Rattle.ada_meaning.specs.Heap.{Home, Cell, finds}
use Rattle.ada_meaning.specs.Step.{halts, moves, tells, asks, picks, first_or, older, in_front, before_last, last_of, selected, place_in, places, operands, treating}
use Rattle.ada_meaning.specs.Named.{Object, State, Next, object_at, look, named, on_object, finished, store, whole, inside}
use Rattle.ada_meaning.specs.Run.{Event}
use Rattle.ada_meaning.specs.Law.{leaving_by, LeavesHome}
use Rattle.ada_sound.specs.Agreement.{Turning, Comes, ComesBy, ComesTo}
use Rattle.ada_sound.proofs.Items.{NoMaster}
use Rattle.ada_sound.proofs.Stored.{IsUnder, Stored}
use Rattle.ada_scopes.specs.Scopes.{is_declared_object}
use Rattle.ada_owners.specs.Reliance.{Borrows}
use Rattle.ada_owners.specs.Keeping.{IsThere}
use Rattle.ada_owners.specs.Places.{access_at, is_there, component_in}
use Rattle.ada_owners.proofs.Ends.{IsUnnamed}
use Rattle.ada_owners.specs.Walks.{walk}
use Rattle.ada_sound.proofs.Fits.{Outer, Reference, IsReferred, IsPlace, Outsiders, NamesOwnedOutside, NoOuterAlias, IsSaid, place_at, Fit, IsRelied, IsUnreferred, MayFollow, component_access, is_object, hold_in, stacked, none_spared, some_ahead, sparing, outer_hold, outer_value}
use Rattle.ada_sound.proofs.Orderings.{AsGood}
use Rattle.ada_sound.proofs.InsideRecords.{TasksInside}
use Rattle.ada_typed.specs.Holding.{PartsLie}
use Rattle.ada_typed.proofs.Parts.{shown_number}
use Rattle.ada_tracked.specs.Frames.{values_at, blanked}
use Rattle.ada_sound.proofs.CopiedOwners.{AreCopied, IsElsewhere, LieApart, NameThere, Original, owners_left, hiding, Covered, CopyLeft, SeesToAll}
use Rattle.ada_sound.proofs.Alters.{BackIn, Alters}

-- What is left to do, over names.
abbrev pub Control : Type 0
Control = List (Frame Value)

-- What goes with each master: the types of the collections and the record objects that it may own, and its variables, innermost first.
abbrev pub Rooms : Type 0
Rooms = List GoneWith

abbrev pub OwnedAmong : Owned → List ℕ → Type 0
OwnedAmong (declared x) types = Unit {0}
OwnedAmong (collection access pool) types = is_among types (Some access) ≡ true
OwnedAmong (record_object t) types = is_among types (Some t) ≡ true
OwnedAmong (storage_pool declaration number) types = Unit {0}

abbrev pub ItemsAmong : List Item → List ℕ → Type 0
ItemsAmong [] types = Unit {0}
ItemsAmong (i ∷ is) types = OwnedAmong i.owned types × ItemsAmong is types

-- The masters of the running activation have these rooms; below them are those of its callers.
abbrev pub Roomed : (below : List Master) → List Master → Rooms → Type 0
Roomed below ms [] = ms ≡ below
Roomed below [] (gone ∷ rooms) = ⊥
Roomed below (m ∷ ms) (gone ∷ rooms) = ItemsAmong m.items gone.types × Roomed below ms rooms

-- A caller, whose activation is suspended: what is known of implicit calls; the program as its body sees it, for the objects of which items an operation may be
-- called that touches storage where a master is left, for objects of which types one may be called, and what is known where flow comes to a place in it; the
-- actual parameters of its call, their values, what refers to the components that get something back, the objects to which all that refers leads, those that are
-- under way, as a treatment finalizes them, and what an operation is called for, as if a variable held it; what the procedure keeps of the parameters; what is
-- left to do once the call has come to its end, the masters that are entered then, and their rooms; what its variables hold, and what is known of them behind the
-- call, as if nothing were handed over; and which of its variables stand for components that the body tracks (7.6).
pub record Caller : Type 1 where
  pub implicit : Implicit
  pub program : ProgramForm
  pub ahead : Owned → Bool
  pub touches : (access : ℕ) → Bool
  pub At : Control → Holds → Type 0
  pub actuals : List ActualForm
  pub passed : List Value
  pub references : List Value
  pub referenced : List Reference
  pub under : List Id
  pub held : Option Outer
  pub kept : Keeping
  pub control : Control
  pub masters : List Master
  pub rooms : Rooms
  pub places : List Value
  pub before : Holds
  pub tracked : List ℕ

-- What a caller's variables are relied on for during the call: what was handed over is not.
abbrev pub waiting_holds : Caller → Holds
waiting_holds w = left_unkept [] w.actuals w.before

-- What is known of implicit calls, the program as the running body sees it, for the objects of which items an operation may be called that touches storage where a
-- master is left (7.6.1), for objects of which types one may be called (7.6), what is known where flow comes to a place in it, and its callers, the nearest one
-- first; and which of its variables stand for components that the body tracks (7.6).
pub record Known : Type 1 where
  pub implicit : Implicit
  pub program : ProgramForm
  pub ahead : Owned → Bool
  pub touches : (access : ℕ) → Bool
  pub At : Control → Holds → Type 0
  pub callers : List Caller
  pub tracked : List ℕ

abbrev pub outer_of : Caller → Outer
outer_of w = record { variables = w.program.variables; places = w.places; holds = waiting_holds w }

-- What is held comes first, if anything is.
abbrev pub held_first : Option Outer → List Outer → List Outer
held_first None outer = outer
held_first (Some held) outer = held ∷ outer

-- What the variables of suspended activations hold, and are relied on for; and what operations are called for that these wait for, as if variables held it.
abbrev pub outer_in : List Caller → List Outer
outer_in [] = []
outer_in (w ∷ ws) = outer_of w ∷ held_first w.held (outer_in ws)

-- What the call of a body gave its formal parameters: nothing, where it is the main one.
abbrev pub given_in : List Caller → List Value
given_in [] = []
given_in (w ∷ ws) = w.passed

-- The objects that the calls of these refer to.
abbrev pub referenced_in : List Caller → List Reference
referenced_in [] = []
referenced_in (w ∷ ws) = w.referenced ++ referenced_in ws

-- The objects that are under way in these.
abbrev pub under_in : List Caller → List Id
under_in [] = []
under_in (w ∷ ws) = w.under ++ under_in ws

abbrev pub outers : Known → Outsiders
outers known = record { given = given_in known.callers; suspended = outer_in known.callers; referenced = referenced_in known.callers; under = under_in known.callers }

-- The masters that the callers have entered.
abbrev pub below_callers : List Caller → List Master
below_callers [] = []
below_callers (w ∷ ws) = w.masters

abbrev pub below : Known → List Master
below known = below_callers known.callers

abbrev pub AllAmong : List ℕ → List ℕ → Type 0
AllAmong [] types = Unit {0}
AllAmong (t ∷ ts) types = (is_among types (Some t) ≡ true) × AllAmong ts types

-- An outcome that breaks no rule, and what is behind it, where it comes to its end, and where it raises an exception.
abbrev pub GoesBy : Option Holds → (Holds → Type 0) → Type 0
GoesBy None more = Unit {0}
GoesBy (Some holds) more = more holds

abbrev pub Goes : Outcome → (more raised : Holds → Type 0) → Type 0
Goes (faults spot rule) more raised = ⊥
Goes (goes normal raising) more raised = GoesBy normal more × GoesBy raising raised

-- Something runs on with less known.
abbrev pub To : (Holds → Type 0) → Holds → Type 0
To more holds = (less : Holds) × AsGood holds less × more less

-- What is known where something ends: normally, by an exception, by an exit, by a return.
pub record Ways : Type 1 where
  pub normal : Holds → Type 0
  pub raised : Exception → Holds → Type 0
  pub exited : Holds → Type 0
  pub returned : Holds → Type 0

-- Each of these exceptions may be raised.
abbrev pub Raised : (Exception → Bool) → Ways → Holds → Type 0
Raised among w holds = (e : Exception) → among e ≡ true → To (w.raised e) holds

-- Flow comes to places from these statements on, from these branches on, or from these handlers on, before a control.
abbrev pub From : Known → Around → Control → StmtsForm → Holds → Type 0
From known around k fs holds =
    (way : List Turning) (place : Control) (at : Holds) → Comes known.program.types known.program.variables around k fs holds way place at → known.At place at

abbrev pub FromBy : Known → Around → Control → BranchesForm → Holds → Type 0
FromBy known around k branches holds =
    (way : List Turning) (place : Control) (at : Holds) → ComesBy known.program.types known.program.variables around k branches holds way place at → known.At place at

abbrev pub FromTo : Known → Around → Control → HandlersForm → Holds → Type 0
FromTo known around k hs holds =
    (way : List Turning) (place : Control) (at : Holds) → ComesTo known.program.types known.program.variables around k hs holds way place at → known.At place at

-- What may leave a loop with this start, through blocks with which this goes, does so with no less known.
abbrev pub MayExit : List VariableForm → Implicit → Option Holds → GoneWith → Holds → Type 0
MayExit variables implicit None inside holds = Unit {0}
MayExit variables implicit (Some start) inside holds = are_as_good (left_finalized variables implicit inside holds) start ≡ true

abbrev pub OnExit : List VariableForm → Bool → Around → (Holds → Type 0) → Type 0
OnExit variables has_one around exited = has_one ≡ true → (holds : Holds) → MayExit variables around.effects.implicit around.start around.inside holds → exited holds

-- What leaves a body by a return, through blocks with which this goes, gives back what these formal parameters owe.
abbrev pub MayReturn : List VariableForm → (owed : List ℕ) → (within : GoneWith) → Holds → Type 0
MayReturn variables owed within holds = all_give_back owed (left variables within holds) ≡ true

abbrev pub OnReturn : List VariableForm → Around → (Holds → Type 0) → Type 0
OnReturn variables around returned = (holds : Holds) → MayReturn variables around.owed around.within holds → returned holds

-- A body, or what it calls, may free objects of this access type (13.11.2).
abbrev pub CoveredIn : Implicit → ProgramForm → (access : ℕ) → Type 0
CoveredIn implicit p t = body_frees p.types (effects_of implicit p) (main_body p) t ≡ true

-- Where words go back by a Free, it is of such a type, which is an access type.
abbrev pub IsCovered : Implicit → ProgramForm → Cause → (access : ℕ) → Type 0
IsCovered implicit p (Freeing number) t = CoveredIn implicit p t × (is_access p.types t ≡ true)
IsCovered implicit p (Leaving m item) t = Unit {0}
IsCovered implicit p (Assigning number) t = Unit {0}
IsCovered implicit p (Undoing number) t = Unit {0}

abbrev pub WillBeCovered : Implicit → ProgramForm → (access : ℕ) → Control → Type 0
WillBeCovered implicit p t [] = Unit {0}
WillBeCovered implicit p t (GivesBack v cause pool ∷ k) = IsCovered implicit p cause t
WillBeCovered implicit p t (f ∷ k) = Unit {0}

-- Objects may be freed only of access types of which no suspended activation has an alias, and of which each object that a call refers to is owned outside; and only
-- of those that the running body may free.
abbrev pub Spares : Known → (may : ℕ → Bool) → Type 0
Spares known may = (t : ℕ) → may t ≡ true → NoOuterAlias known.program.types (outers known) t × CoveredIn known.implicit known.program t

-- Where a statement of the running body stands: the start of the innermost loop around it, if there is one, what goes with the blocks since, and with all
-- blocks around it and the body.
pub record Where : Type 0 where
  pub start : Option Holds
  pub inside : GoneWith
  pub within : GoneWith

-- The formal parameters of a body that owe something at its normal end.
abbrev pub owed_in : ProgramForm → List ℕ
owed_in p = owed_from 0 p.formals p.variables

-- What owes something at the normal end of the running body: those, and behind them what stands for components that it tracks.
abbrev pub owed_by : Known → List ℕ
owed_by known = with_tracked (owed_in known.program) known.tracked

abbrev pub around_at : Known → Where → Around
around_at known at = record {
  effects = effects_of known.implicit known.program;
  kept = keeping_of known.implicit known.program;
  tracks = no_tracks;
  owed = owed_by known;
  start = at.start;
  inside = at.inside;
  within = at.within;
}

-- In a turn of a loop with this start.
abbrev pub in_turn : Holds → (within : GoneWith) → Where
in_turn start within = record { start = Some start; inside = nothing_gone; within = within }

-- Statements before a control run from these holds, and end in these ways.
abbrev pub Doing : Known → StmtsForm → Control → Ways → Holds → Type 0
Doing known fs k w holds =
    (at : Where) × From known (around_at known at) k fs holds
    × Goes (stmts_flow known.program.types known.program.variables (around_at known at) fs holds) (To w.normal) (Raised (λ e. stmts_raise (effects_of known.implicit known.program) (is_same e) fs) w)
    × OnExit known.program.variables (have_exit fs) (around_at known at) w.exited × OnReturn known.program.variables (around_at known at) w.returned
    × Spares known (λ t. stmts_free known.program.types known.program.variables (effects_of known.implicit known.program) t fs)

-- The same of branches, and of handlers.
abbrev pub Choosing : Known → BranchesForm → Control → Ways → Holds → Type 0
Choosing known branches k w holds =
    (at : Where) × FromBy known (around_at known at) k branches holds
    × Goes (branches_flow known.program.types known.program.variables (around_at known at) branches holds) (To w.normal) (Raised (λ e. branches_raise (effects_of known.implicit known.program) (is_same e) branches) w)
    × OnExit known.program.variables (branches_have_exit branches) (around_at known at) w.exited × OnReturn known.program.variables (around_at known at) w.returned
    × Spares known (λ t. branches_free known.program.types known.program.variables (effects_of known.implicit known.program) t branches)

abbrev pub Handling : Known → HandlersForm → Control → Ways → Holds → Type 0
Handling known hs k w holds =
    (at : Where) × FromTo known (around_at known at) k hs holds
    × Goes (handlers_flow known.program.types known.program.variables (around_at known at) hs holds) (To w.normal) (Raised (λ e. handlers_raise (effects_of known.implicit known.program) (is_same e) hs) w)
    × OnExit known.program.variables (handlers_have_exit hs) (around_at known at) w.exited × OnReturn known.program.variables (around_at known at) w.returned
    × Spares known (λ t. handlers_free known.program.types known.program.variables (effects_of known.implicit known.program) t hs)

-- A turn of a loop: it leads back to the start with no less known.
abbrev pub TurnsTo : Known → StmtsForm → Control → Ways → (within : GoneWith) → (start mid : Holds) → Type 0
TurnsTo known body k w within start mid =
    From known (around_at known (in_turn start within)) k body mid
    × Goes (stmts_flow known.program.types known.program.variables (around_at known (in_turn start within)) body mid) (λ after. AsGood after start) (Raised (λ e. stmts_raise (effects_of known.implicit known.program) (is_same e) body) w)
    × Spares known (λ t. stmts_free known.program.types known.program.variables (effects_of known.implicit known.program) t body)

-- The condition of a loop may raise an exception.
abbrev pub condition_among : Option ExpressionForm → Exception → Bool
condition_among condition e = is_same e ConstraintError && condition_raises condition

-- A loop comes to its next turn.
abbrev pub Repeating : Known → Option ExpressionForm → StmtsForm → Control → Ways → Holds → Type 0
Repeating known condition body k w holds =
    (start : Holds) × AsGood holds start
    × ((within : GoneWith)
    × Goes (condition_flow no_tracks condition start) (TurnsTo known body (Repeats condition body ∷ k) w within start) (Raised (condition_among condition) w)
    × OnReturn known.program.variables (around_at known (in_turn start within)) w.returned)
    × (is_left condition body ≡ true → To w.normal start)

-- So does a `for` loop: nothing relies on its parameter.
abbrev pub Counting : Known → (parameter : ℕ) → StmtsForm → Control → Ways → Holds → Type 0
Counting known x body k w holds =
    (start : Holds) × AsGood holds start × (hold_at start x ≡ hold.Lost)
    × ((within : GoneWith) × ((next last : ℤ) → TurnsTo known body (Counts x next last body ∷ k) w within start start)
    × OnReturn known.program.variables (around_at known (in_turn start within)) w.returned)
    × To w.normal start

-- An exception is taken by a handler, or passes them.
abbrev pub TakenBy : Known → Control → Ways → Exception → Option StmtsForm → Holds → Type 0
TakenBy known k w e None holds = To (w.raised e) holds
TakenBy known k w e (Some fs) holds = Doing known fs k w holds

abbrev pub Handled : Known → HandlersForm → Control → Ways → Ways
Handled known hs k w = record w {
  normal = λ holds. To w.normal holds;
  raised = λ e holds. TakenBy known k w e (handler_of e hs) holds;
}

-- The objects that go with a master may be finalized (7.6.1): of what that may free no suspended activation has an alias, and the running body may free it.
abbrev pub MayEnd : Known → GoneWith → Type 0
MayEnd known gone = Spares known (endings_free known.implicit gone.types)

-- Behind a master with which this goes, whose objects are finalized.
abbrev pub BehindMaster : Known → GoneWith → (Holds → Type 0) → Holds → Type 0
BehindMaster known gone more holds = MayEnd known gone × To more (left_finalized known.program.variables known.implicit gone holds)

abbrev pub Outside : Known → GoneWith → Ways → Ways
Outside known gone w = record w {
  normal = λ holds. BehindMaster known gone w.normal holds;
  raised = λ e holds. BehindMaster known gone (w.raised e) holds;
  exited = λ holds. BehindMaster known gone w.exited holds;
  returned = λ holds. BehindMaster known gone w.returned holds;
}

-- Declarations, and what is behind them: of what their initializations may free no suspended activation has an alias, and the running body may free it.
abbrev pub Elaborating : Known → List DeclarationForm → (more : Holds → Type 0) → Ways → Holds → Type 0
Elaborating known [] more w holds = more holds
Elaborating known (d ∷ ds) more w holds =
    Goes (declaration_flow known.program.types known.program.variables no_tracks known.implicit d holds) (Elaborating known ds more w)
    (Raised (λ e. declaration_raises known.implicit (is_same e) d) w)
    × Spares known (λ t. declaration_frees known.implicit t d)

-- By the mode.
abbrev pub By : Mode → Ways → Holds → Type 0
By Running w holds = w.normal holds
By (Raising e) w holds = w.raised e holds
By Exiting w holds = w.exited holds
By Returning w holds = w.returned holds

-- No variable has an alias of what may be freed.
abbrev pub Unaliased : List VariableForm → (may : ℕ → Bool) → Holds → Type 0
Unaliased variables may holds = (x t : ℕ) → variable_access variables x ≡ Some t → may t ≡ true → Borrows (hold_at holds x) → ⊥

-- No variable is relied on to name an object of one of these access types.
abbrev pub NamesNone : List VariableForm → List ℕ → Holds → Type 0
NamesNone variables types holds = (x : ℕ) → IsRelied (hold_at holds x) → is_among types (variable_access variables x) ≡ false

-- The objects that go with a master may be finalized, and no variable has an alias of what that may free.
abbrev pub LeavesWell : Known → GoneWith → Holds → Type 0
LeavesWell known gone holds = MayEnd known gone × Unaliased known.program.variables (endings_free known.implicit gone.types) holds

abbrev pub nowhere : Ways
nowhere = record { normal = λ holds. ⊥; raised = λ e holds. ⊥; exited = λ holds. ⊥; returned = λ holds. ⊥ }

-- Nothing is asked for where nothing is left to do.
abbrev pub anywhere : Ways
anywhere = record { normal = λ holds. Unit {0}; raised = λ e holds. Unit {0}; exited = λ holds. Unit {0}; returned = λ holds. Unit {0} }

-- Nothing is left to do where the main body has no caller.
abbrev pub at_end : List Caller → Ways
at_end [] = anywhere
at_end (w ∷ ws) = nowhere

-- Which exceptions the running body may raise.
abbrev pub body_among : Implicit → ProgramForm → Exception → Bool
body_among implicit p e = body_raises (effects_of implicit p) (main_body p) (is_same e)

-- Is the formal parameter of a number kept?
abbrev pub is_kept_at : Keeping → (formal : ℕ) → Bool
is_kept_at kept x = slice_index_or kept x false

-- Each formal parameter that is kept holds what the call gave it.
abbrev pub KeepsAll : Keeping → Holds → Type 0
KeepsAll kept holds = (x : ℕ) → is_kept_at kept x ≡ true → is_kept (hold_at holds x) ≡ true

-- The body of a call comes to its end: its caller goes on with what it was to do. At a normal end formal parameters give back what they owe, and where an
-- exception leaves the body, they hold what is kept.
abbrev pub returning : Implicit → ProgramForm → (owed : List ℕ) → List Caller → List ActualForm → (references : List Value) → Control → Ways
returning implicit p owed [] actuals references k = nowhere
returning implicit p owed (w ∷ ws) actuals references k = record {
  normal = λ holds. (actuals ≡ w.actuals) × (references ≡ w.references) × (k ≡ w.control) × (all_give_back owed holds ≡ true);
  raised = λ e holds. (body_among implicit p e ≡ true) × (k ≡ w.control) × KeepsAll w.kept holds;
  exited = λ holds. ⊥;
  returned = λ holds. (actuals ≡ w.actuals) × (references ≡ w.references) × (k ≡ w.control) × (all_give_back owed holds ≡ true);
}

-- What is left to do, by the mode that it is come to in. A form that waits for a value is passed by a jump alone. No operation of a controlled type is called.
abbrev pub ways : Known → Control → Rooms → Ways
ways known [] [] = at_end known.callers
ways known [] (gone ∷ rooms) = nowhere
ways known (Returns actuals references ∷ k) [] = returning known.implicit known.program (owed_by known) known.callers actuals references k
ways known (Returns actuals references ∷ k) (gone ∷ rooms) = nowhere
ways known (Elaborates ds fs hs ∷ k) [] = nowhere
ways known (Elaborates ds fs hs ∷ k) (gone ∷ rooms) = record (Outside known gone (ways known k rooms)) {
  normal = λ holds. AllAmong (collected ds) gone.types × Elaborating known ds (Doing known fs (Handles hs ∷ Closes ∷ k) (Handled known hs (Closes ∷ k) (Outside known gone (ways known k rooms)))) (Outside known gone (ways known k rooms)) holds;
}
ways known (Does fs ∷ k) rooms = record (ways known k rooms) { normal = λ holds. Doing known fs k (ways known k rooms) holds }
ways known (Repeats condition body ∷ k) rooms = record (ways known k rooms) {
  normal = λ holds. Repeating known condition body k (ways known k rooms) holds;
  exited = λ holds. To (ways known k rooms).normal holds;
}
ways known (Counts x next last body ∷ k) rooms = record (ways known k rooms) {
  normal = λ holds. Counting known x body k (ways known k rooms) holds;
  exited = λ holds. To (ways known k rooms).normal holds;
}
ways known (Handles hs ∷ k) rooms = Handled known hs k (ways known k rooms)
ways known (Closes ∷ k) [] = nowhere
ways known (Closes ∷ k) (gone ∷ rooms) = Outside known gone (ways known k rooms)
ways known (Leaves mode ∷ k) [] = nowhere
ways known (Leaves mode ∷ k) (gone ∷ rooms) = record nowhere { normal = λ holds. NamesNone known.program.variables gone.types holds × LeavesWell known gone holds × To (By mode (ways known k rooms)) holds }
ways known (frame.Awaits v by done of part tasks ∷ k) rooms = nowhere
ways known (frame.Confines ∷ k) rooms = nowhere
ways known (frame.Resumes mode ∷ k) rooms = nowhere
ways known (f ∷ k) rooms = record (ways known k rooms) { normal = λ holds. ⊥ }

-- What runs on is known in these rooms.
abbrev pub RunsOn : Known → Control → Rooms → Holds → Type 0
RunsOn known k rooms holds = (ways known k rooms).normal holds

abbrev pub GoesOn : Known → Mode → Control → Rooms → Holds → Type 0
GoesOn known mode k rooms holds = By mode (ways known k rooms) holds

-- None of these paths breaks a rule.
abbrev pub NoneBroken : Holds → List Use → Type 0
NoneBroken holds uses = broken_among no_tracks holds uses ≡ None

-- If this may be raised, what passes the frames is known.
abbrev pub MayRaise : Known → Bool → Exception → Control → Rooms → Holds → Type 0
MayRaise known may e k rooms holds = may ≡ true → To ((ways known k rooms).raised e) holds

-- A value is awaited by a variable, or by a component of an object.
abbrev pub StoresTo : Control → (ℕ → Control → Type 0) → (Value → (c : ℕ) → Control → Type 0) → Type 0
StoresTo [] more into = ⊥
StoresTo (Stores x ∷ k) more into = more x k
StoresTo (Declares x ∷ k) more into = more x k
StoresTo (StoresIn o c ∷ k) more into = into o c k
StoresTo (f ∷ k) more into = ⊥

-- The selectors of a path but the last one, and that one.
abbrev pub front : List ℕ → List ℕ
front [] = []
front (c ∷ cs) = before_last c cs

abbrev pub final : List ℕ → Option ℕ
final [] = None
final (c ∷ cs) = Some (last_of c cs)

-- The next statement sets this path to null.
abbrev pub IsCleared : PathForm → Control → Type 0
IsCleared path [] = ⊥
IsCleared path (Does fs ∷ k) = clears path fs ≡ true
IsCleared path (f ∷ k) = ⊥

-- The first half of a take pair: its target leaves the path alone that is moved, and the next statement clears that one.
abbrev pub Pairs : (cleared : Bool) → RightForm → (leaves : PathForm → Type 0) → Control → Type 0
Pairs false right leaves k = Unit {0}
Pairs true nothing leaves k = ⊥
Pairs true (value_of path) leaves k = leaves path × IsCleared path k
Pairs true (allocates access items) leaves k = ⊥
Pairs true (allocates_default access) leaves k = ⊥
Pairs true (computes e) leaves k = ⊥

-- One selector, behind a variable.
abbrev pub IsOne : List ℕ → Type 0
IsOne [] = ⊥
IsOne (c ∷ []) = Unit {0}
IsOne (c ∷ d ∷ cs) = ⊥

-- What is known behind what is assigned: no alias is left of what the initialization of a new object may free (4.8, 7.6).
abbrev pub behind_right : Known → RightForm → Holds → Holds
behind_right known nothing holds = holds
behind_right known (value_of path) holds = holds
behind_right known (allocates access items) holds = holds
behind_right known (allocates_default access) holds = without_freed known.program.variables (known.implicit.start_frees access) holds
behind_right known (computes e) holds = holds

-- What is left goes on once a value is assigned: behind the initialization of a new object no alias is left of what that may free, and there is none in a suspended activation (4.8, 7.6).
abbrev pub RunsAfter : Known → RightForm → Control → Rooms → Holds → Type 0
RunsAfter known nothing k rooms holds = RunsOn known k rooms holds
RunsAfter known (value_of path) k rooms holds = RunsOn known k rooms holds
RunsAfter known (allocates access items) k rooms holds = To (RunsOn known k rooms) holds
RunsAfter known (allocates_default access) k rooms holds =
    RunsOn known k rooms (without_freed known.program.variables (known.implicit.start_frees access) holds) × Spares known (known.implicit.start_frees access)
RunsAfter known (computes e) k rooms holds = RunsOn known k rooms holds

-- Which exceptions an assignment may raise: where what is assigned is evaluated, and where a new object is initialized (4.8, 7.6).
abbrev pub assignment_among : Known → RightForm → Exception → Bool
assignment_among known right e = right_raises (is_same e) right || right_starts known.implicit (is_same e) right

-- These may be raised by an assignment: what passes the frames is known, where the same is lost.
abbrev pub RaisesAfter : Known → RightForm → Control → Rooms → (among : Exception → Bool) → Holds → Type 0
RaisesAfter known right k rooms among holds = Raised among (ways known k rooms) (behind_right known right holds)

-- A variable gets what is assigned.
abbrev pub GivesTo : Known → RightForm → Rooms → Holds → ℕ → Control → Type 0
GivesTo known right rooms holds x k =
    (cleared : Bool)
    × ((spot : Spot) × Goes (gives known.program.types known.program.variables no_tracks spot cleared x right holds) (RunsAfter known right k rooms) (RaisesAfter known right k rooms (assignment_among known right)))
    × Pairs cleared right (λ path. x ≢ path.root) k

-- A declaration is no half of a take pair.
abbrev pub IsAlone : (cleared : Bool) → Type 0
IsAlone false = Unit {0}
IsAlone true = ⊥

-- The running activation has entered a master.
abbrev pub HasRoom : Rooms → Type 0
HasRoom [] = ⊥
HasRoom (gone ∷ rooms) = Unit {0}

-- A variable is declared with what is assigned.
abbrev pub DeclaresTo : Known → RightForm → Rooms → Holds → ℕ → Control → Type 0
DeclaresTo known right rooms holds x k =
    HasRoom rooms × (cleared : Bool)
    × ((spot : Spot) × Goes (gives known.program.types known.program.variables no_tracks spot cleared x right holds) (RunsAfter known right k rooms) (RaisesAfter known right k rooms (assignment_among known right)))
    × IsAlone cleared

-- Which exceptions an assignment to a component may raise, whose path may raise one or not.
abbrev pub component_among : Known → (may : Bool) → RightForm → Exception → Bool
component_among known may right e = ((is_same e ConstraintError && may) || right_raises (is_same e) right) || right_starts known.implicit (is_same e) right

-- Where a path begins (4.1, 6.2): with what its variable holds; or, where that refers to a record, with the object in which the record lies. And the
-- selectors behind that.
abbrev pub begun : List Value → PathForm → Value
begun places path = whole (place_at places path.root)

abbrev pub along : List Value → PathForm → List ℕ
along places path = selected named (place_at places path.root) path.selectors

-- A path leads to what is found behind this value by these selectors, and names this component of it last.
abbrev pub LeadsTo : List Object → List Value → Value → List ℕ → (c : ℕ) → PathForm → Type 0
LeadsTo heap places w cs c path = (walk heap (begun places path) (front (along places path)) ≡ walk heap w cs) × (final (along places path) ≡ Some c)

-- A component that gets a new object is found before that is initialized: its path leads somewhere, and follows no value of an access type of which the
-- initialization may free objects (4.8, 7.6).
abbrev pub StaysFound : Known → RightForm → PathForm → Type 0
StaysFound known nothing path = Unit {0}
StaysFound known (value_of taken) path = Unit {0}
StaysFound known (allocates access items) path = Unit {0}
StaysFound known (allocates_default access) path =
    (component_passes known.program.types known.program.variables (known.implicit.start_frees access) path ≡ false)
    × (to : VariableKind) × (path_kind known.program.types known.program.variables path ≡ Some to)
StaysFound known (computes e) path = Unit {0}

-- A component gets what is assigned, to which a path leads.
abbrev pub FillsIn : Known → RightForm → (leads : PathForm → Type 0) → Rooms → Holds → Control → Type 0
FillsIn known right leads rooms holds k =
    (path : PathForm) × (cleared : Bool)
    × Goes (gives_component known.program.types no_tracks cleared path right holds) (RunsAfter known right k rooms) (RaisesAfter known right k rooms (component_among known (path_raises path) right))
    × Pairs cleared right (λ taken. IsOne taken.selectors) k × leads path × StaysFound known right path

-- An object that a component lies in is there.
abbrev pub IsHolder : List Object → Value → Type 0
IsHolder heap Null = ⊥
IsHolder heap (Names o) = IsThere heap o
IsHolder heap (Scalar v) = ⊥
IsHolder heap (Part o first) = ⊥

-- What is evaluated is awaited by a variable, or by a component of an object that is there. Null that is awaited by a component is none of these.
abbrev pub Takes : Known → List Object → List Value → RightForm → Control → Rooms → Holds → Type 0
Takes known heap places right [] rooms holds = ⊥
Takes known heap places right (Stores x ∷ k) rooms holds = GivesTo known right rooms holds x k
Takes known heap places right (Declares x ∷ k) rooms holds = DeclaresTo known right rooms holds x k
Takes known heap places right (StoresIn o c ∷ k) rooms holds = IsHolder heap o × FillsIn known right (LeadsTo heap places o [] c) rooms holds k
Takes known heap places right (f ∷ k) rooms holds = ⊥

-- An object is there, and one of its components holds values of this access type, or Integers or Booleans.
abbrev pub Accepts : Known → List Object → Value → (c : ℕ) → Option ℕ → Type 0
Accepts known heap Null c access = ⊥
Accepts known heap (Names o) c access =
    (object : Object) × (object_at heap o ≡ Some object) × (is_there object.stage ≡ true) × (component_access known.program.types object c ≡ access)
Accepts known heap (Scalar v) c access = ⊥
Accepts known heap (Part o first) c access = ⊥

-- Items of an allocator, newest first, and those behind them.
abbrev pub back_onto : List ItemForm → List ItemForm → List ItemForm
back_onto [] todo = todo
back_onto (d ∷ done) todo = back_onto done (d ∷ todo)

-- The paths that items name, newest first.
abbrev pub named_of : List ItemForm → List PathForm
named_of [] = []
named_of (d ∷ done) = named_by_item d ++ named_of done

-- Items break no rule, behind others that name these paths; or newest first.
abbrev pub ItemsKeep : List TypeForm → Spot → (target : Option PathForm) → Holds → (earlier : List PathForm) → List ItemForm → Type 0
ItemsKeep types spot target holds earlier [] = Unit {0}
ItemsKeep types spot target holds earlier (i ∷ is) =
    NoneBroken holds (uses_in_item types spot target earlier i) × ItemsKeep types spot target holds (named_by_item i ++ earlier) is

abbrev pub DoneKeep : List TypeForm → Spot → (target : Option PathForm) → Holds → List ItemForm → Type 0
DoneKeep types spot target holds [] = Unit {0}
DoneKeep types spot target holds (d ∷ done) =
    NoneBroken holds (uses_in_item types spot target (named_of done) d) × DoneKeep types spot target holds done

-- The value of an item that is a path is the one that the path leads to. A record has several; once it is copied, each of its components counts as an
-- item of its own.
abbrev pub FilledBy : List Object → List Value → ItemForm → Value → Type 0
FilledBy heap places null_item v = v ≡ Null
FilledBy heap places (item_of_path path) v = walk heap (begun places path) (along places path) ≡ finds v
FilledBy heap places (item_of_value e) v = Unit {0}
FilledBy heap places (item_of_record p) v = ⊥

-- The newest operands are the values of items, newest first.
abbrev pub Filled : List Object → List Value → List ItemForm → List Value → Type 0
Filled heap places [] operands = Unit {0}
Filled heap places (d ∷ done) [] = ⊥
Filled heap places (d ∷ done) (v ∷ vs) = FilledBy heap places d v × Filled heap places done vs

-- The path of the component that a new object goes to leads to that component.
abbrev pub GoesInto : List Object → List Value → (target : Option PathForm) → Control → Type 0
GoesInto heap places None k = Unit {0}
GoesInto heap places (Some path) k = StoresTo k (λ x k'. ⊥) (λ o c k'. LeadsTo heap places o [] c path)

-- Where a variable is declared, the running activation has entered a master.
abbrev pub RoomFor : Control → Rooms → Type 0
RoomFor [] rooms = Unit {0}
RoomFor (Declares x ∷ k) rooms = HasRoom rooms
RoomFor (f ∷ k) rooms = Unit {0}

-- Whatever comes out of the initialization of a new object of this type passes the frames with what was known before (4.8, 7.6).
abbrev pub StartsTo : Known → (type_number : ℕ) → Control → Rooms → Holds → Type 0
StartsTo known t k rooms holds = (e : Exception) → list_any (is_same e) (known.implicit.start_raises t) ≡ true → To ((ways known k rooms).raised e) holds

-- Of what the initialization of an object may free, no suspended activation and no variable has an alias, and the running body may free it.
abbrev pub BeginsWell : Known → (access : ℕ) → Holds → Type 0
BeginsWell known access holds = Spares known (known.implicit.start_frees access) × Unaliased known.program.variables (known.implicit.start_frees access) holds

-- While a new object of this access type is initialized, one that is known by another type waits for its name, in a component for such names: the initialization
-- frees no object of that other type, or a call refers to the one that waits.
abbrev pub MayAwait : Known → (access : ℕ) → Id → (c t : ℕ) → Type 0
MayAwait known access o c t =
    (access_of (kind_among (reached_components known.program.types t) c) ≡ Some access)
    × ((known.implicit.start_frees access t ≡ false) ⊎ IsReferred (outers known).referenced o t)

-- An object that is there waits for it.
abbrev pub AwaitsIn : Known → List Object → (access : ℕ) → Value → (c : ℕ) → Type 0
AwaitsIn known heap access Null c = ⊥
AwaitsIn known heap access (Names o) c = (t : ℕ) × (access_at heap o ≡ Some t) × MayAwait known access o c t
AwaitsIn known heap access (Scalar v) c = ⊥
AwaitsIn known heap access (Part o first) c = ⊥

-- A variable gets the name of a new object of this type, which owns it then, or a component does, which waits for it.
abbrev pub GoesTo : Known → (awaits : Value → (c : ℕ) → Type 0) → (access : ℕ) → Control → Rooms → Holds → Type 0
GoesTo known awaits access k rooms holds =
    StoresTo k
    (λ x k'. ((variable_access known.program.variables x ≡ Some access) × (is_object known.program.variables x ≡ false)) × To (RunsOn known k' rooms) (slice_set holds x (hold.Own Whole)))
    (λ o c k'. awaits o c × To (RunsOn known k' rooms) holds)

-- What an allocator without items leads to, in the midst of which operations may free objects (4.8, 7.6): with less known, no alias of these is left.
pub record Initializes (known : Known) (heap : List Object) (access : ℕ) (k : Control) (rooms : Rooms) (holds : Holds) : Type 0 where
  pub less : Holds
  pub good : AsGood holds less
  pub well : BeginsWell known access less
  pub undone : StartsTo known access k rooms less
  pub to : GoesTo known (AwaitsIn known heap access) access k rooms less

-- What an allocator with all these items leads to: less may be known behind it, where the new object is initialized. Where operations may touch storage that are called
-- then, it has no items that move a value.
pub record Allocating (known : Known) (heap : List Object) (access : ℕ) (all : List ItemForm) (k : Control) (rooms : Rooms) (holds : Holds) : Type 0 where
  pub components : List ComponentKind
  pub reached : reached_components known.program.types access ≡ Some components
  pub fit : items_fit known.program.types known.program.variables components all ≡ true
  pub fails : MayRaise known (items_raise all) ConstraintError k rooms holds
  pub refused : MayRaise known true StorageError k rooms holds
  pub starts : StartsTo known access k rooms holds
  pub room : RoomFor k rooms
  pub to : StoresTo k
      (λ x k'. ((variable_access known.program.variables x ≡ Some access) × (is_object known.program.variables x ≡ false))
      × To (RunsOn known k' rooms) (slice_set (without_values (moved_by_items no_tracks all) holds) x (hold.Own Whole)))
      (λ o c k'. Accepts known heap o c (Some access) × To (RunsOn known k' rooms) (without_values (moved_by_items no_tracks all) holds))
  pub initializes : known.touches access ≡ true → (moved_by_items no_tracks all ≡ []) × Initializes known heap access k rooms holds

-- An item that is a record owns nothing; nor do all that are, of these.
abbrev pub OwnsNothing : List TypeForm → ItemForm → Type 0
OwnsNothing types null_item = Unit {0}
OwnsNothing types (item_of_path path) = Unit {0}
OwnsNothing types (item_of_value e) = Unit {0}
OwnsNothing types (item_of_record p) = is_owning_record types p.record_type ≡ false

abbrev pub OwnNothing : List TypeForm → List ItemForm → Type 0
OwnNothing types [] = Unit {0}
OwnNothing types (i ∷ is) = OwnsNothing types i × OwnNothing types is

-- Some items are evaluated, and these are left. Where operations may touch storage that are called for the new object, none of them is what its component held.
pub record Filling (known : Known) (heap : List Object) (places : List Value) (access count : ℕ) (todo : List ItemForm) (k : Control) (operands : List Value) (rooms : Rooms) (holds : Holds) : Type 0 where
  pub done : List ItemForm
  pub spot : Spot
  pub target : Option PathForm
  pub into : GoesInto heap places target k
  pub unlent : known.touches access ≡ true → target ≡ None
  pub filled : Filled heap places done operands
  pub before : DoneKeep known.program.types spot target holds done
  pub behind : ItemsKeep known.program.types spot target holds (named_of done) todo
  pub bare : OwnNothing known.program.types todo
  pub leads : Allocating known heap access (back_onto done todo) k rooms holds
  pub counted : count ≡ length leads.components

-- Items that a record gets break no rule, and it is known what they raise; and none that is a record owns anything, if the record is plain.
pub record Given (known : Known) (plain : Bool) (todo : List ItemForm) (k : Control) (rooms : Rooms) (holds : Holds) : Type 0 where
  pub spot : Spot
  pub earlier : List PathForm
  pub keeps : ItemsKeep known.program.types spot None holds earlier todo
  pub raises : MayRaise known (items_raise todo) ConstraintError k rooms holds
  pub bare : plain ≡ true → OwnNothing known.program.types todo

-- Those of any record, and of one whose components are Integers and Booleans.
abbrev pub Giving : Known → List ItemForm → Control → Rooms → Holds → Type 0
Giving known todo k rooms holds = Given known false todo k rooms holds

abbrev pub GivingPlain : Known → List ItemForm → Control → Rooms → Holds → Type 0
GivingPlain known todo k rooms holds = Given known true todo k rooms holds

-- Of what the Adjusts may free that are called for a copy of a record of this type, no suspended activation and no variable has an alias, and the running body
-- may free it (7.6).
abbrev pub AdjustsWell : Known → (record_type : ℕ) → Holds → Type 0
AdjustsWell known t holds = Spares known (known.implicit.adjust_frees t) × Unaliased known.program.variables (known.implicit.adjust_frees t) holds

-- A record of this type lies in the objects that are known by this one, with its controlled parts (7.6).
abbrev pub LiesAmong : Known → (access record_type : ℕ) → Type 0
LiesAmong known access t = (first part : ℕ) × PartsLie known.program.types (object_named known.program.types (Some access)) (Some t) first part

-- So it is with what may be freed where an object is adjusted that is known by this type, or the record in it that was copied.
abbrev pub AdjustsAside : Known → (access record_type : ℕ) → Holds → Type 0
AdjustsAside known access r holds = (t : ℕ) × AdjustsWell known t holds × ((t ≡ access) ⊎ (t ≡ r))

-- An object is there, and so many of its components, from one on, are Integers and Booleans.
abbrev pub IsPlainIn : Known → List Object → Value → (first count : ℕ) → Type 0
IsPlainIn known heap Null first count = ⊥
IsPlainIn known heap (Names o) first count =
    (object : Object) × (object_at heap o ≡ Some object) × (is_there object.stage ≡ true)
    × ((components : List ComponentKind) → reached_components known.program.types object.cell.access ≡ Some components
    → list_any is_owning (take count (drop first components)) ≡ false)
IsPlainIn known heap (Scalar v) first count = ⊥
IsPlainIn known heap (Part o base) first count = ⊥

-- So many components of an object that is known by this type, from one on, get those of a record of a type, and then the record is adjusted (5.2, 7.6): the
-- Adjusts of its controlled parts see to all of them that are of access types. What is left goes on behind that, perhaps with less known, and of what these
-- Adjusts may free there is no alias.
pub record AdjustedBehind (known : Known) (v : Value) (access record_type first count : ℕ) (k : Control) (rooms : Rooms) (holds : Holds) : Type 0 where
  pub number : ℕ
  pub tasks : List Task
  pub behind : Control
  pub is : k ≡ treating v (begins (Adjustment number) []) tasks behind
  pub kinds : List ComponentKind
  pub components : record_components known.program.types record_type ≡ Some kinds
  pub counted : count ≡ length kinds
  pub left : CopyLeft known.program.types access record_type tasks
  pub begins : left.first ≡ first
  pub covers :
      (reached : List ComponentKind) → reached_components known.program.types access ≡ Some reached
      → Covered (owners_left known.program.types access tasks) first (take count (drop first reached))
  pub runs : To (λ less. RunsOn known behind rooms less × AdjustsAside known access record_type less) holds

-- The object of a value is there, and is such a one.
abbrev pub IsAdjustedIn : Known → List Object → Value → (record_type first count : ℕ) → Control → Rooms → Holds → Type 0
IsAdjustedIn known heap Null t first count k rooms holds = ⊥
IsAdjustedIn known heap (Names o) t first count k rooms holds =
    (object : Object) × (object_at heap o ≡ Some object) × (is_there object.stage ≡ true)
    × AdjustedBehind known (Names o) object.cell.access t first count k rooms holds
IsAdjustedIn known heap (Scalar v) t first count k rooms holds = ⊥
IsAdjustedIn known heap (Part o base) t first count k rooms holds = ⊥

-- So many components of an object that is there are Integers and Booleans, and what is left goes on behind them.
abbrev pub PlainBehind : Known → List Object → Value → (first count : ℕ) → Control → Rooms → Holds → Type 0
PlainBehind known heap v first count k rooms holds = IsPlainIn known heap v first count × To (RunsOn known k rooms) holds

-- The components of an object get those of a record of this type: they are Integers and Booleans, or an Adjust sees to them.
abbrev pub StoresSo : Known → List Object → Value → (record_type first count : ℕ) → Control → Rooms → Holds → Type 0
StoresSo known heap v t first count k rooms holds =
    PlainBehind known heap v first count k rooms holds ⊎ IsAdjustedIn known heap v t first count k rooms holds

-- So it is where they are the newest operands: what these name is there, and they are the components of another record of the type.
abbrev pub StoresFrom : Known → List Object → (operands : List Value) → Value → (first count : ℕ) → Control → Rooms → Holds → Type 0
StoresFrom known heap operands v first count k rooms holds =
    PlainBehind known heap v first count k rooms holds
    ⊎ ((t : ℕ) × IsAdjustedIn known heap v t first count k rooms holds × NameThere heap (take count operands)
    × ((original : Original known.program.types heap t (reverse (take count operands)))
    × IsElsewhere known.program.types heap t (reverse (take count operands)) original v first))

-- The innermost master may own a record object that is known by this type.
abbrev pub MayOwn : Rooms → (object_type : ℕ) → Type 0
MayOwn [] t = ⊥
MayOwn (gone ∷ rooms) t = is_among gone.types (Some t) ≡ true

-- Has the object that is known by a type a component of an access type?
abbrev pub owns_at_first : List TypeForm → (object_type : ℕ) → Bool
owns_at_first types t = owns_among (reached_components types t)

-- A record object is declared, of this type: less may be known behind it, where its operations free objects, of which there is no alias.
abbrev pub Recording : Known → (x object_type : ℕ) → Control → Rooms → Holds → Type 0
Recording known x t k rooms holds =
    (is_record_object t (variable_kind known.program.variables x) ≡ true) × MayOwn rooms t
    × To (λ less. RunsOn known k rooms less × AdjustsWell known t less) (slice_set holds x (hold.Own Whole))

-- The object that is known by a type is a record of this type, which has controlled parts, whose Adjusts see to all components of access types (7.6).
abbrev pub AdjustsFirst : List TypeForm → (object_type record_type : ℕ) → Type 0
AdjustsFirst types t r = (object_named types (Some t) ≡ Some r) × ((of : ℕ) × (shown_number types (Some r) ≡ Some of)) × SeesToAll types r

-- It has no component of an access type, and no controlled parts.
abbrev pub IsPlainFirst : List TypeForm → (object_type : ℕ) → Type 0
IsPlainFirst types t = (owns_at_first types t ≡ false) × (shown_number types (object_named types (Some t)) ≡ None)

-- The newest operands are the components of a record of this type, which is copied: what they name is there, and so is the record.
abbrev pub HasCopied : Known → List Object → (record_type : ℕ) → (operands : List Value) → Type 0
HasCopied known heap r operands =
    (kinds : List ComponentKind) × (record_components known.program.types r ≡ Some kinds) × NameThere heap (take (length kinds) operands)
    × Original known.program.types heap r (reverse (take (length kinds) operands))

-- What is left of an initial value that is a copy: the record that is copied, or nothing, once it has been.
abbrev pub CopiesFirst : Known → List Object → (record_type : ℕ) → List ItemForm → (operands : List Value) → Type 0
CopiesFirst known heap r todo operands =
    ((p : RecordPathForm) × (todo ≡ item_of_record p ∷ []) × (p.record_type ≡ r)) ⊎ ((todo ≡ []) × HasCopied known heap r operands)

-- Items are left of the initial value of a record object, which has no component of an access type and no controlled parts, or Adjusts see to such components.
abbrev pub InitialTo : Known → List Object → List ItemForm → (operands : List Value) → (object_type : ℕ) → Type 0
InitialTo known heap todo operands t =
    IsPlainFirst known.program.types t ⊎ ((r : ℕ) × AdjustsFirst known.program.types t r × CopiesFirst known heap r todo operands)

-- The newest operands are all of it.
abbrev pub RecordsFrom : Known → List Object → (operands : List Value) → (x object_type : ℕ) → Control → Rooms → Holds → Type 0
RecordsFrom known heap operands x t k rooms holds =
    (IsPlainFirst known.program.types t ⊎ ((r : ℕ) × AdjustsFirst known.program.types t r × HasCopied known heap r operands))
    × Recording known x t k rooms holds

abbrev pub FillsTo : Known → List Object → List Value → List ItemForm → Control → (operands : List Value) → Rooms → Holds → Type 0
FillsTo known heap places todo [] operands rooms holds = ⊥
FillsTo known heap places todo (Creates access count ∷ k) operands rooms holds = Filling known heap places access count todo k operands rooms holds
FillsTo known heap places todo (StoresRecord o first count ∷ k) operands rooms holds =
    GivingPlain known todo k rooms holds × PlainBehind known heap o first count k rooms holds
FillsTo known heap places todo (DeclaresRecord x t ∷ k) operands rooms holds =
    Giving known todo k rooms holds × InitialTo known heap todo operands t × Recording known x t k rooms holds
FillsTo known heap places todo (f ∷ k) operands rooms holds = ⊥

-- Where a value is null, Constraint_Error may be raised; and where selectors are followed behind it.
abbrev pub RaisesAt : Known → Value → List ℕ → Control → Rooms → Holds → Type 0
RaisesAt known v [] k rooms holds = v ≡ Null → To ((ways known k rooms).raised ConstraintError) holds
RaisesAt known v (c ∷ cs) k rooms holds = To ((ways known k rooms).raised ConstraintError) holds

-- The components of a record of this type are copied onto these operands, and then more items come; or those of an object get them.
abbrev pub CopiesTo : Known → List Object → List Value → (record_type : ℕ) → (below : List Value) → Control → Rooms → Holds → Type 0
CopiesTo known heap places t below [] rooms holds = ⊥
CopiesTo known heap places t below (Fills items ∷ k) rooms holds =
    (kinds : List ComponentKind) × (record_components known.program.types t ≡ Some kinds)
    × ((vs : List Value) → length vs ≡ length kinds → NameThere heap vs → Original known.program.types heap t vs
    → FillsTo known heap places items k (in_front vs below) rooms holds)
CopiesTo known heap places t below (StoresRecord o first count ∷ k) rooms holds = StoresSo known heap o t first count k rooms holds
CopiesTo known heap places t below (f ∷ k) rooms holds = ⊥

-- Where a record of this type is copied next from an object, from this component on, to what is behind that, it is another record (5.2).
abbrev pub CopiesElsewhere : List TypeForm → (record_type first : ℕ) → Value → Control → Type 0
CopiesElsewhere types t first v [] = Unit {0}
CopiesElsewhere types t first v (StoresRecord o to count ∷ k) = o ≡ v → LieApart types t first to
CopiesElsewhere types t first v (f ∷ k) = Unit {0}

-- A record of this type, of Integers and Booleans, is a target: less may be known behind the assignment, where its operations free objects.
abbrev pub RecordIn : Known → (record_type : ℕ) → List ItemForm → Control → Rooms → Holds → Type 0
RecordIn known t items k rooms holds =
    (is_owning_record known.program.types t ≡ false) × Giving known items k rooms holds × To (RunsOn known k rooms) holds

-- A component is a target (5.2): the value before it is null, or gives access to its object.
abbrev pub Targeting : Known → List Object → List Value → Value → (c : ℕ) → RightForm → Control → Rooms → Holds → Type 0
Targeting known heap places v c right k rooms holds =
    MayFollow heap v × RaisesAt known v [] k rooms holds × FillsIn known right (LeadsTo heap places v [] c) rooms holds k

abbrev pub Receiving : Known → List Object → Value → Control → Rooms → Holds → Type 0
Receiving known heap v k rooms holds =
    MayFollow heap v × RaisesAt known v [] k rooms holds × MayRaise known true EndError k rooms holds × RunsOn known k rooms holds

-- What a value names, if it names anything, is of this kind.
abbrev pub OfKind : List Object → Value → Option VariableKind → Type 0
OfKind heap v kind = (o : Id) (object : Object) → v ≡ Names o → object_at heap o ≡ Some object → access_of kind ≡ Some object.cell.access

-- No value that selectors follow behind one of this kind is of this access type, if there is one.
abbrev pub PassesNone : List TypeForm → Option VariableKind → List ℕ → Option ℕ → Type 0
PassesNone types kind cs None = Unit {0}
PassesNone types kind cs (Some t) = passes_type types kind cs t ≡ false

-- So it is with those behind the first selector.
abbrev pub PassesNoneBehind : List TypeForm → Option VariableKind → List ℕ → Option ℕ → Type 0
PassesNoneBehind types kind [] access = Unit {0}
PassesNoneBehind types kind (c ∷ cs) access = PassesNone types (selected_kind types kind c) cs access

-- So it is with those behind a value of this kind, and with that value itself, unless a suspended activation owns what it names.
abbrev pub PassesNoneOwn : List TypeForm → Outsiders → Value → Option VariableKind → List ℕ → Option ℕ → Type 0
PassesNoneOwn types outer v kind cs access = PassesNone types kind cs access ⊎ (NamesOwnedOutside outer v × PassesNoneBehind types kind cs access)

-- What ends an object of this access type neither follows nor frees values of this other one, if it is an access type: an object of that holds the component which
-- names the former (7.6.1).
abbrev pub SparesHolder : Known → (access holder : ℕ) → Type 0
SparesHolder known t u = is_access known.program.types u ≡ true → known.implicit.end_reaches t u ≡ false

-- Of what the end of an object of this access type may free, no suspended activation and no variable has an alias, and the running body may free it (7.6.1).
abbrev pub EndsWellBy : Known → (access : ℕ) → Holds → Type 0
EndsWellBy known t holds = Spares known (known.implicit.end_frees t) × Unaliased known.program.variables (known.implicit.end_frees t) holds

-- A component is to be freed (13.11.2), by the instance for its own access type, to which these selectors lead, and this one behind them: no value on the
-- way is of that type, but for the first one, if a suspended activation owns what it names; aliases of the type are lost then, and where an exception is raised;
-- operations that are called then spare the object in which the component lies; less may be known behind it, where its finalization frees objects.
pub record Releasing (known : Known) (heap : List Object) (v : Value) (cs : List ℕ) (instance c : ℕ) (k : Control) (rooms : Rooms) (holds : Holds) : Type 0 where
  pub from : Option VariableKind
  pub access : Option ℕ
  pub is_from : OfKind heap v from
  pub passes : PassesNoneOwn known.program.types (outers known) v from (cs ++ c ∷ []) access
  pub of_type : access_of (selectors_kind known.program.types from (cs ++ c ∷ [])) ≡ access
  pub frees_own : access ≡ Some instance
  pub own : (t : ℕ) → access ≡ Some t → is_access known.program.types t ≡ true
  pub spares : (t : ℕ) → access ≡ Some t → NoOuterAlias known.program.types (outers known) t
  pub covered : (t : ℕ) → access ≡ Some t → CoveredIn known.implicit known.program t
  pub raises : RaisesAt known v cs k rooms (behind_end known.program.variables access holds)
  pub spared : (t u : ℕ) → access ≡ Some t → access_of (selectors_kind known.program.types from cs) ≡ Some u → SparesHolder known t u
  pub runs : To (λ less. RunsOn known k rooms less × ((t : ℕ) → access ≡ Some t → EndsWellBy known t less)) (behind_end known.program.variables access holds)

-- A condition is awaited: by branches, by a loop, by an exit.
abbrev pub Deciding : Known → StmtsForm → BranchesForm → Control → Rooms → Holds → Type 0
Deciding known fs branches k rooms holds = Doing known fs k (ways known k rooms) holds × Choosing known branches k (ways known k rooms) holds

abbrev pub TurningOn : Known → ExpressionForm → StmtsForm → Control → Rooms → Holds → Type 0
TurningOn known e body k rooms holds =
    Doing known body (Repeats (Some e) body ∷ k) (ways known (Repeats (Some e) body ∷ k) rooms) holds × To (RunsOn known k rooms) holds

abbrev pub ExitingTo : Known → Control → Rooms → Holds → Type 0
ExitingTo known k rooms holds = RunsOn known k rooms holds × (ways known k rooms).exited holds

-- Nothing relies on the Integers and Booleans that get back what formal parameters hold.
abbrev pub GetLost : List ActualForm → Holds → Type 0
GetLost [] holds = Unit {0}
GetLost (in_value e ∷ rest) holds = GetLost rest holds
GetLost (in_null ∷ rest) holds = GetLost rest holds
GetLost (in_access path ∷ rest) holds = GetLost rest holds
GetLost (in_record p ∷ rest) holds = GetLost rest holds
GetLost (in_out_path path ∷ rest) holds = (hold_at holds path.root ≡ hold.Lost) × GetLost rest holds
GetLost (in_out_access path ∷ rest) holds = GetLost rest holds
GetLost (in_out_component path ∷ rest) holds = GetLost rest holds
GetLost (in_out_record p ∷ rest) holds = GetLost rest holds

-- What is known of the calls of a procedure of the running body, and what it keeps.
abbrev pub effect_in : Known → (procedure : ℕ) → Option Effect
effect_in known procedure = slice_get (effects_of known.implicit known.program).calls procedure

abbrev pub kept_in : Known → (procedure : ℕ) → Keeping
kept_in known procedure = kept_at (keeping_of known.implicit known.program) procedure

-- What is left by a call, as if nothing were handed over.
abbrev pub left_in : Known → (procedure : ℕ) → Holds → Holds
left_in known procedure holds = left_by_call known.program.variables (effect_in known procedure) holds

-- Record objects and record parameters are of no access types.
abbrev pub AreObjects : List TypeForm → List VariableForm → Type 0
AreObjects types variables = (x : ℕ) (t : TypeNo) → variable_kind variables x ≡ Some (variable.Record t) → is_access types t.0 ≡ false

abbrev pub AreRecords : Known → Type 0
AreRecords known = AreObjects known.program.types known.program.variables

-- A call is next (6.4): of a procedure that the running body may call, and which the actual parameters suit. They break no rule. Behind it what is handed
-- over is owned again, and where it raises an exception, it is lost unless it is kept.
abbrev pub CallsOn : Known → (procedure : ℕ) → BodyForm → List ActualForm → Control → Rooms → Holds → Type 0
CallsOn known procedure b actuals k rooms holds =
    (slice_get known.program.bodies procedure ≡ Some b)
    × RunsOn known k rooms (handed_back actuals (left_in known procedure holds))
    × ((e : Exception) → call_raises (effect_in known procedure) (is_same e) ≡ true
    → To ((ways known k rooms).raised e) (left_unkept (kept_in known procedure) actuals (left_in known procedure holds)))
    × Spares known (call_frees (effect_in known procedure))
    × GetLost actuals holds
    × (suits_profile known.program.types known.program.variables (Some (profile_of b)) actuals ≡ true)
    × NoneBroken holds (uses_in_actuals known.program.types known.program.variables (call_frees (effect_in known procedure)) [] actuals)
    × AreRecords known

-- What a record parameter gets (6.2): it refers to the object to which a path leads.
abbrev pub ReferredBy : List Object → List Value → RecordPathForm → Value → Type 0
ReferredBy heap places p v =
    (o : Id) × (v ≡ Part o (place_in named (place_at places p.object.root) p.object.selectors p))
    × (walk heap (begun places p.object) (along places p.object) ≡ finds (Names o))

-- What refers to the component to which a path leads (6.4.1).
abbrev pub OpenedBy : List Object → List Value → PathForm → Value → Type 0
OpenedBy heap places path r =
    (o : Id) × (c : ℕ) × (r ≡ Part o (record { component = c; part = 0 })) × (walk heap (begun places path) (front (along places path)) ≡ finds (Names o)) × (final (along places path) ≡ Some c)

-- The value of an actual parameter of an access type: null, or what the path leads to; or what refers to a record. Nothing is known of an Integer or a
-- Boolean.
abbrev pub PassedBy : List Object → List Value → ActualForm → Value → Type 0
PassedBy heap places (in_value e) v = Unit {0}
PassedBy heap places in_null v = v ≡ Null
PassedBy heap places (in_access path) v = walk heap (begun places path) (along places path) ≡ finds v
PassedBy heap places (in_record p) v = ReferredBy heap places p v
PassedBy heap places (in_out_path path) v = Unit {0}
PassedBy heap places (in_out_access path) v = walk heap (begun places path) (along places path) ≡ finds v
PassedBy heap places (in_out_component path) v = Unit {0}
PassedBy heap places (in_out_record p) v = ReferredBy heap places p v

-- The newest operands are the values of actual parameters, newest first. In front of a component's value lies what refers to it.
abbrev pub ArePassed : List Object → List Value → List ActualForm → List Value → Type 0
ArePassed heap places [] operands = Unit {0}
ArePassed heap places (d ∷ done) [] = ⊥
ArePassed heap places (in_out_component path ∷ done) (v ∷ []) = ⊥
ArePassed heap places (in_out_component path ∷ done) (v ∷ r ∷ vs) = OpenedBy heap places path r × ArePassed heap places done vs
ArePassed heap places (d ∷ done) (v ∷ vs) = PassedBy heap places d v × ArePassed heap places done vs

-- An access value that is passed breaks no rule, and it is known what it raises; and this is its value.
abbrev pub PassesBy : Known → RightForm → Control → Rooms → Holds → Type 0
PassesBy known nothing k rooms holds = Unit {0}
PassesBy known (value_of path) k rooms holds = NoneBroken holds (compares_it path ∷ []) × MayRaise known (path_raises path) ConstraintError k rooms holds
PassesBy known (allocates access items) k rooms holds = ⊥
PassesBy known (allocates_default access) k rooms holds = ⊥
PassesBy known (computes e) k rooms holds = ⊥

abbrev pub RightIs : List Object → List Value → RightForm → Value → Type 0
RightIs heap places nothing v = v ≡ Null
RightIs heap places (value_of path) v = walk heap (begun places path) (along places path) ≡ finds v
RightIs heap places (allocates access items) v = ⊥
RightIs heap places (allocates_default access) v = ⊥
RightIs heap places (computes e) v = ⊥

-- A value refers to a record in an object that is there.
abbrev pub IsSource : List Object → Value → Type 0
IsSource heap v = (o : Id) × (place : Place) × (v ≡ Part o place) × IsThere heap o

-- Records of this type may be copied as a whole: where they have controlled parts, the type is not limited (7.5).
abbrev pub MayCopy : Known → (record_type : ℕ) → Type 0
MayCopy known t = (f : Finalization) → finalization_of known.program.types t ≡ Some f → f.limited ≡ false

-- So it is of this one, and it has controlled parts.
abbrev pub IsCopied : Known → (record_type : ℕ) → Type 0
IsCopied known t = (f : Finalization) × (finalization_of known.program.types t ≡ Some f) × (f.limited ≡ false)

-- The two newest operands refer to records of a type whose Adjusts see to components of access types, of which the newest one is assigned to the other (5.2, 7.6).
abbrev pub AreAssigned : Known → List Object → (record_type : ℕ) → (operands : List Value) → Type 0
AreAssigned known heap t operands =
    (kinds : List ComponentKind) × (record_components known.program.types t ≡ Some kinds)
    × IsSource heap (first_or Null (older operands)) × SeesToAll known.program.types t × IsSource heap (first_or Null operands) × MayCopy known t

-- Of what the assignment of a record of this type may free, no suspended activation and no variable has an alias, and the running body may free it (5.2, 7.6).
abbrev pub AssignsWell : Known → (record_type : ℕ) → Holds → Type 0
AssignsWell known t holds =
    Spares known (λ access. assignment_frees known.implicit access t) × Unaliased known.program.variables (λ access. assignment_frees known.implicit access t) holds

-- What is left goes on behind it.
abbrev pub AssignsTo : Known → (record_type : ℕ) → Control → Rooms → Holds → Type 0
AssignsTo known t k rooms holds = RunsOn known k rooms holds × AssignsWell known t holds

-- Actual parameters are evaluated next, with these operands, and then comes the call; or records are found, of which one is assigned to the other.
abbrev pub PassesTo : Known → List Object → List Value → (operands : List Value) → Control → Rooms → Holds → Type 0
PassesTo known heap places operands [] rooms holds = ⊥
PassesTo known heap places operands (Computes e ∷ k) rooms holds =
    NoneBroken holds (uses_in e) × MayRaise known (expression_raises e) ConstraintError k rooms holds
    × ((v : Value) → PassesTo known heap places (v ∷ operands) k rooms holds)
PassesTo known heap places operands (Evaluates right ∷ k) rooms holds =
    PassesBy known right k rooms holds × ((v : Value) → RightIs heap places right v → PassesTo known heap places (v ∷ operands) k rooms holds)
PassesTo known heap places operands (Refers p ∷ k) rooms holds =
    (lost_by (hold_at holds p.object.root) p.object.spot ≡ None) × MayRaise known (record_path_raises p) ConstraintError k rooms holds
    × ((v : Value) → ReferredBy heap places p v → PassesTo known heap places (v ∷ operands) k rooms holds)
PassesTo known heap places operands (Opens path ∷ k) rooms holds =
    (lost_by (hold_at holds path.root) path.spot ≡ None) × MayRaise known (path_raises path) ConstraintError k rooms holds
    × ((v r : Value) → OpenedBy heap places path r → PassesTo known heap places (v ∷ r ∷ operands) k rooms holds)
PassesTo known heap places operands (Calls procedure b actuals ∷ k) rooms holds =
    CallsOn known procedure b actuals k rooms holds × ArePassed heap places (reverse actuals) operands
PassesTo known heap places operands (Assigns t ∷ k) rooms holds = AreAssigned known heap t operands × To (AssignsTo known t k rooms) holds
PassesTo known heap places operands (f ∷ k) rooms holds = ⊥

-- What is left of an expression, or of an allocator's items, breaks no rule; and nothing relies on an expression's value. These are the operands
-- below the one that is awaited.
abbrev pub Awaits : Known → List Object → List Value → (below : List Value) → Control → Rooms → Holds → Type 0
Awaits known heap places below [] rooms holds = ⊥
Awaits known heap places below (Computes e ∷ k) rooms holds =
    NoneBroken holds (uses_in e) × MayRaise known (expression_raises e) ConstraintError k rooms holds
    × ((v : Value) → Awaits known heap places (v ∷ below) k rooms holds)
Awaits known heap places below (Continues links ∷ k) rooms holds =
    NoneBroken holds (uses_in_links links) × MayRaise known (links_raise links) ConstraintError k rooms holds × Awaits known heap places below k rooms holds
Awaits known heap places below (TestsNull equal ∷ k) rooms holds = Awaits known heap places below k rooms holds
Awaits known heap places below (Decides fs branches ∷ k) rooms holds = Deciding known fs branches k rooms holds
Awaits known heap places below (Turns e body ∷ k) rooms holds = TurningOn known e body k rooms holds
Awaits known heap places below (Ranges x body ∷ k) rooms holds = Counting known x body k (ways known k rooms) holds
Awaits known heap places below (Exits ∷ k) rooms holds = ExitingTo known k rooms holds
Awaits known heap places below (Applies operator ∷ k) rooms holds =
    MayRaise known (binary_raises operator) ConstraintError k rooms holds × Awaits known heap places (older below) k rooms holds
Awaits known heap places below (AppliesAlone operator ∷ k) rooms holds =
    MayRaise known (unary_raises operator) ConstraintError k rooms holds × Awaits known heap places below k rooms holds
Awaits known heap places below (Fills items ∷ k) rooms holds = (v : Value) → FillsTo known heap places items k (v ∷ below) rooms holds
Awaits known heap places below (Stores x ∷ k) rooms holds = RunsOn known k rooms (slice_set holds x hold.Lost)
Awaits known heap places below (Declares x ∷ k) rooms holds = HasRoom rooms × RunsOn known k rooms (slice_set holds x hold.Lost)
Awaits known heap places below (Calls procedure b actuals ∷ k) rooms holds =
    (v : Value) → PassesTo known heap places (v ∷ below) (Calls procedure b actuals ∷ k) rooms holds
Awaits known heap places below (Evaluates right ∷ k) rooms holds =
    (v : Value) → PassesTo known heap places (v ∷ below) (Evaluates right ∷ k) rooms holds
Awaits known heap places below (Refers p ∷ k) rooms holds = (v : Value) → PassesTo known heap places (v ∷ below) (Refers p ∷ k) rooms holds
Awaits known heap places below (Opens path ∷ k) rooms holds = (v : Value) → PassesTo known heap places (v ∷ below) (Opens path ∷ k) rooms holds
Awaits known heap places below (StoresIn o c ∷ k) rooms holds = Accepts known heap o c None × RunsOn known k rooms holds
Awaits known heap places below (Writes ∷ k) rooms holds = RunsOn known k rooms holds
Awaits known heap places below (f ∷ k) rooms holds = ⊥

-- An expression is next, with these operands.
abbrev pub Computing : Known → List Object → List Value → (operands : List Value) → ExpressionForm → Control → Rooms → Holds → Type 0
Computing known heap places operands e k rooms holds =
    NoneBroken holds (uses_in e) × MayRaise known (expression_raises e) ConstraintError k rooms holds × Awaits known heap places operands k rooms holds

-- The program is at work, and no object is under way.
pub record Working (known : Known) (heap : List Object) (places : List Value) (masters : List Master) (more : Rooms → Holds → Type 0) : Type 0 where
  pub rooms : Rooms
  pub holds : Holds
  pub stored : Stored (outers known).under heap masters
  pub roomed : Roomed (below known) masters rooms
  pub fit : Fit known.program.types known.program.variables (outers known) none_spared heap places holds
  pub rest : more rooms holds

-- The items of the innermost master.
abbrev pub innermost : List Master → List Item
innermost [] = []
innermost (m ∷ ms) = m.items

-- The same while the innermost master is being left: nothing relies on the components of what lies in its collections, once no operation is called for any of it
-- that touches storage.
pub record Parting (known : Known) (heap : List Object) (places : List Value) (masters : List Master) (more : Rooms → Holds → Type 0) : Type 0 where
  pub rooms : Rooms
  pub holds : Holds
  pub stored : Stored (outers known).under heap masters
  pub roomed : Roomed (below known) masters rooms
  pub fit : Fit known.program.types known.program.variables (outers known) (sparing known.ahead heap (innermost masters)) heap places holds
  pub rest : more rooms holds

-- No place is relied on to name an object that is under way, if there is one, and no call refers to it.
abbrev pub IsAside : Known → (spared : Id → Bool) → List Object → (places : List Value) → Holds → (under : Option Id) → Type 0
IsAside known spared heap places holds None = Unit {0}
IsAside known spared heap places holds (Some o) =
    IsUnnamed heap (stacked places (outers known)) (hold_in (outers known) spared holds) o × IsUnreferred (outers known) o

-- The same while an object is under way: it is there still, and its components own what they hold, but nothing relies on the object.
pub record Freed (known : Known) (under : Option Id) (spared : Id → Bool) (heap : List Object) (places : List Value) (masters : List Master) (more : Rooms → Holds → Type 0) : Type 0 where
  pub rooms : Rooms
  pub holds : Holds
  pub roomed : Roomed (below known) masters rooms
  pub fit : Fit known.program.types known.program.variables (outers known) spared heap places holds
  pub aside : IsAside known spared heap places holds under
  pub rest : more rooms holds

-- Another object than this one, if there is this one.
abbrev pub IsOther : Value → (under : Option Id) → Type 0
IsOther v None = Unit {0}
IsOther v (Some o) = v ≢ Names o

-- The objects, where this one counts as gone already.
abbrev pub gone_in : (under : Option Id) → List Object → List Object
gone_in None heap = heap
gone_in (Some o) heap = on_object finished heap (Names o)

-- Of what the finalization of an object under way may free, if there is one, no suspended activation and no variable has an alias, and the running body may free it
-- (7.6.1).
abbrev pub FreesWell : Known → List Object → (under : Option Id) → Holds → Type 0
FreesWell known heap None holds = Unit {0}
FreesWell known heap (Some o) holds =
    (object : Object) → object_at heap o ≡ Some object
    → EndsWellBy known object.cell.access holds

-- A component that is freed names the object under way, if there is one, and is of its type; operations that are called for that spare the object in which the component
-- lies.
abbrev pub IsNamedIn : Known → List Object → (holder : Value) → (c : ℕ) → (under : Option Id) → Type 0
IsNamedIn known heap v c None = Unit {0}
IsNamedIn known heap Null c (Some o) = ⊥
IsNamedIn known heap (Names p) c (Some o) =
    (holder : Object) × (object : Object) × (object_at heap p ≡ Some holder) × (object_at heap o ≡ Some object)
    × (component_access known.program.types holder c ≡ Some object.cell.access) × (slice_get holder.cell.values c ≡ Some (Names o))
    × SparesHolder known object.cell.access holder.cell.access
IsNamedIn known heap (Scalar v) c (Some o) = ⊥
IsNamedIn known heap (Part p place) c (Some o) = ⊥

-- What is behind an object under way, by what ends it: a Free, whose variable or component becomes null; the leaving of a master, at the object's
-- home; or an exception that came out of its initialization, and goes on (7.6.1): then the object counts as gone already, if an allocator made it. A component
-- that is freed counts as null already, and its object is another one.
abbrev pub ClearsTo : Known → (under : Option Id) → List Object → List Value → List Master → Control → Type 0
ClearsTo known under heap places masters [] = ⊥
ClearsTo known under heap places masters (Clears x ∷ k) =
    Freed known under none_spared heap (slice_set places x Null) masters (λ rooms holds. RunsOn known k rooms holds × FreesWell known heap under holds)
ClearsTo known under heap places masters (ClearsIn o c ∷ k) =
    IsHolder heap o × IsOther o under × IsNamedIn known heap o c under
    × Freed known under none_spared (store heap o c Null) places masters (λ rooms holds. RunsOn known k rooms holds × FreesWell known heap under holds)
ClearsTo known under heap places masters (f ∷ k) = ⊥

-- The newest of these items has this number.
abbrev pub IsNewest : (number : ℕ) → List Item → Type 0
IsNewest number [] = ⊥
IsNewest number (i ∷ is) = i.number ≡ number

-- The newest of these items is no declared object, and for the objects of one of them an operation may be called that touches storage: while collections go up to
-- that one, components may name what has gone.
abbrev pub departs : (ahead : Owned → Bool) → List Item → Bool
departs ahead [] = false
departs ahead (i ∷ is) = not (is_declared_object i.owned) && some_ahead ahead (i ∷ is)

-- In the midst of that, a member is taken next, or one ends that has been finalized.
abbrev pub departs_next : (departs : Bool) → Control → Bool
departs_next b (Leaves mode ∷ k) = b
departs_next b (Ends v ∷ GivesBack w (Leaving m item) pool ∷ k) = b
departs_next b k = false

-- No call refers to an object that is under way, if there is one.
abbrev pub UnderIsUnreferred : Known → (under : Option Id) → Type 0
UnderIsUnreferred known None = Unit {0}
UnderIsUnreferred known (Some o) = IsUnreferred (outers known) o

-- What each variable is relied on to name has its home in an item of these masters.
abbrev pub NamesLow : List Object → List Value → List Master → Holds → Type 0
NamesLow heap places masters holds =
    (x : ℕ) (o : Id) (object : Object) → IsRelied (hold_at holds x) → place_at places x ≡ Names o → object_at heap o ≡ Some object
    → suc object.cell.home.item ≤ height masters

-- What is left of a master behind an object under way. While collections go up to one for whose objects such operations may be called, components may name the
-- object, and what has gone; but no variable is relied on to name what has gone with an earlier one.
abbrev pub LeavesTo : Known → (under : Option Id) → List Object → List Value → List Master → Control → Type 0
LeavesTo known under heap places masters [] = ⊥
LeavesTo known under heap places masters (Leaves mode ∷ k) =
    ((departs known.ahead (innermost masters) ≡ false) × Freed known under (sparing known.ahead heap (innermost masters)) heap places masters (RunsOn known (Leaves mode ∷ k)))
    ⊎ ((departs known.ahead (innermost masters) ≡ true) × UnderIsUnreferred known under
    × Freed known None (sparing known.ahead heap (innermost masters)) heap places masters (λ rooms holds.
    RunsOn known (Leaves mode ∷ k) rooms holds × NamesLow heap places masters holds))
LeavesTo known under heap places masters (f ∷ k) = ⊥

-- What goes on came out of the initialization of an object of this type (7.6).
abbrev pub CameOut : Known → (access : ℕ) → Mode → Type 0
CameOut known access mode = (e : Exception) × (mode ≡ Raising e) × (list_any (is_same e) (known.implicit.start_raises access) ≡ true)

-- An object under way is of this type, if there is one, and its words are out.
abbrev pub UnderIs : List Object → (under : Option Id) → (access : ℕ) → Type 0
UnderIs heap None access = Unit {0}
UnderIs heap (Some o) access = (object : Object) × (object_at heap o ≡ Some object) × (object.cell.access ≡ access) × (object.out ≡ true)

abbrev pub ResumesTo : Known → (under : Option Id) → List Object → List Value → List Master → Control → Type 0
ResumesTo known under heap places masters [] = ⊥
ResumesTo known under heap places masters (frame.Resumes mode ∷ k) =
    (access : ℕ) × UnderIs heap under access × CameOut known access mode
    × (((known.touches access ≡ false) × Freed known None none_spared (gone_in under heap) places masters (λ rooms holds. To (By mode (ways known k rooms)) holds))
    ⊎ Freed known under none_spared heap places masters (λ rooms holds. To (By mode (ways known k rooms)) holds × BeginsWell known access holds))
ResumesTo known under heap places masters (f ∷ k) = ⊥

abbrev pub Behind : Known → Cause → (under : Option Id) → (home : ℕ) → List Object → List Value → List Master → Control → Type 0
Behind known (Leaving m item) under home heap places masters k = (item ≡ home) × IsNewest home (innermost masters) × LeavesTo known under heap places masters k
Behind known (Freeing number) under home heap places masters k = ClearsTo known under heap places masters k
Behind known (Assigning number) under home heap places masters k = ⊥
Behind known (Undoing number) under home heap places masters k = ResumesTo known under heap places masters k

-- Its words go back next to the pool of its home.
abbrev pub ThenBack : Known → Id → Home → List Object → List Value → List Master → Control → Type 0
ThenBack known o home heap places masters [] = ⊥
ThenBack known o home heap places masters (GivesBack (Names p) cause pool ∷ k) = (p ≡ o) × (pool ≡ home.pool) × Behind known cause (Some o) home.item heap places masters k
ThenBack known o home heap places masters (f ∷ k) = ⊥

-- An object is to cease to exist.
pub record Ending (known : Known) (o : Id) (k : Control) (heap : List Object) (places : List Value) (masters : List Master) : Type 0 where
  pub object : Object
  pub found : object_at heap o ≡ Some object
  pub exists : object.stage ≡ Existing
  pub out : object.out ≡ true
  pub parted : object.listed ≡ false
  pub stored : Stored (o ∷ (outers known).under) heap masters
  pub covered : WillBeCovered known.implicit known.program object.cell.access k
  pub rest : ThenBack known o object.cell.home heap places masters k

abbrev pub EndingBy : Known → Value → Control → List Object → List Value → List Master → Type 0
EndingBy known Null k heap places masters = ⊥
EndingBy known (Names o) k heap places masters = Ending known o k heap places masters
EndingBy known (Scalar v) k heap places masters = ⊥
EndingBy known (Part o first) k heap places masters = ⊥

-- The words of an object are to go back.
pub record Backing (known : Known) (o : Id) (cause : Cause) (pool : Option ℕ) (k : Control) (heap : List Object) (places : List Value) (masters : List Master) : Type 0 where
  pub object : Object
  pub found : object_at heap o ≡ Some object
  pub gone : object.stage ≡ Gone
  pub out : object.out ≡ true
  pub own : pool ≡ object.cell.home.pool
  pub stored : Stored (o ∷ (outers known).under) heap masters
  pub covered : IsCovered known.implicit known.program cause object.cell.access
  pub rest : Behind known cause None object.cell.home.item heap places masters k

abbrev pub BackingBy : Known → Value → Cause → Option ℕ → Control → List Object → List Value → List Master → Type 0
BackingBy known Null cause pool k heap places masters = ⊥
BackingBy known (Names o) cause pool k heap places masters = Backing known o cause pool k heap places masters
BackingBy known (Scalar v) cause pool k heap places masters = ⊥
BackingBy known (Part o first) cause pool k heap places masters = ⊥

-- The second half of a take pair is next: its path leads to an object that is there, and the component counts as null already; what it still names
-- is there.
pub record Half (known : Known) (fs : StmtsForm) (k : Control) (heap : List Object) (places : List Value) (masters : List Master) : Type 0 where
  pub path : PathForm
  pub later : StmtsForm
  pub o : Id
  pub c : ℕ
  pub is : fs ≡ a_stmt (assigns path nothing) later
  pub last : final (along places path) ≡ Some c
  pub found : walk heap (begun places path) (front (along places path)) ≡ finds (Names o)
  pub there : IsThere heap o
  pub kept : (p : Id) → component_in (object_at heap o) c ≡ Names p → IsThere heap p
  pub works : Working known (store heap (Names o) c Null) places masters (RunsOn known (Does fs ∷ k))

abbrev pub HalfBy : Known → Control → List Object → List Value → List Master → Type 0
HalfBy known [] heap places masters = ⊥
HalfBy known (Does fs ∷ k) heap places masters = Half known fs k heap places masters
HalfBy known (f ∷ k) heap places masters = ⊥

-- What is left goes on, perhaps with the second half of a take pair.
abbrev pub Resumes : Known → List Object → List Value → List Master → Control → Type 0
Resumes known heap places masters k = Working known heap places masters (RunsOn known k) ⊎ HalfBy known k heap places masters

-- A component of an object that is there counts as null already.
abbrev pub Clearing : Known → Value → (c : ℕ) → Control → List Object → List Value → List Master → Type 0
Clearing known Null c k heap places masters = ⊥
Clearing known (Names o) c k heap places masters = IsThere heap o × Working known (store heap (Names o) c Null) places masters (RunsOn known k)
Clearing known (Scalar v) c k heap places masters = ⊥
Clearing known (Part o first) c k heap places masters = ⊥

-- What is evaluated goes to a variable, or to a component; null to a component counts as stored already.
abbrev pub EvaluatesTo : Known → RightForm → Control → List Object → List Value → List Master → Type 0
EvaluatesTo known nothing (StoresIn o c ∷ k) heap places masters = Clearing known o c k heap places masters
EvaluatesTo known right k heap places masters = Working known heap places masters (Takes known heap places right k)

-- The object of a component that is assigned to is found next; in the second half of a take pair it is known to be there.
abbrev pub TargetsTo : Known → Value → (c : ℕ) → RightForm → Control → List Object → List Value → List Master → Type 0
TargetsTo known v c right k heap places masters =
    Working known heap places masters (Targeting known heap places v c right k) ⊎ ((right ≡ nothing) × Clearing known v c k heap places masters)

-- Components get Integers and Booleans one after another, as behind a call, before what is left goes on.
abbrev pub StoresOn : Known → List Object → Control → Rooms → Holds → Type 0
StoresOn known heap [] rooms holds = RunsOn known [] rooms holds
StoresOn known heap (StoresIn o c ∷ k) rooms holds = Accepts known heap o c None × StoresOn known heap k rooms holds
StoresOn known heap (f ∷ k) rooms holds = RunsOn known (f ∷ k) rooms holds

-- A value goes into a component: what it was in hand counts as stored already; an Integer or a Boolean does not.
abbrev pub StoringIn : Known → Value → (c : ℕ) → Value → Control → List Object → List Value → List Master → Type 0
StoringIn known o c v k heap places masters =
    (IsHolder heap o × Resumes known (store heap o c v) places masters k)
    ⊎ Working known heap places masters (λ rooms holds. Accepts known heap o c None × StoresOn known heap k rooms holds)

-- A path that is moved leads on from this value, by these selectors.
abbrev pub WalksOn : List Object → List Value → PathForm → Value → List ℕ → Type 0
WalksOn heap places path w cs = (walk heap (begun places path) (front (along places path)) ≡ walk heap w (front cs)) × (final (along places path) ≡ final cs)

-- What a path is followed for: a value that is read; a component or a record that is a target; a component that is freed; a record that is copied; a
-- record or a component that is given; a value that is moved; or an item's value.
abbrev pub FindsFor : Known → List Object → List Value → Value → (below : List Value) → List ℕ → Control → Rooms → Holds → Type 0
FindsFor known heap places w below cs [] rooms holds = ⊥
FindsFor known heap places w below cs (Targets c right ∷ k) rooms holds =
    RaisesAt known w cs k rooms holds × FillsIn known right (LeadsTo heap places w cs c) rooms holds k
FindsFor known heap places w below cs (TargetsRecord first t items ∷ k) rooms holds = RaisesAt known w cs k rooms holds × RecordIn known t items k rooms holds
FindsFor known heap places w below cs (Copies first t ∷ k) rooms holds =
    RaisesAt known w cs k rooms holds
    × (((v : Value) → CopiesElsewhere known.program.types t first v k) × CopiesTo known heap places t below k rooms holds)
FindsFor known heap places w below cs (Receives c ∷ k) rooms holds =
    RaisesAt known w cs k rooms holds × MayRaise known true EndError k rooms holds × RunsOn known k rooms holds
FindsFor known heap places w below cs (FreesIn access c ∷ k) rooms holds = Releasing known heap w cs access c k rooms holds
FindsFor known heap places w below cs (RefersIn place t ∷ k) rooms holds =
    RaisesAt known w cs k rooms holds × ((o : Id) → walk heap w cs ≡ finds (Names o) → PassesTo known heap places (Part o place ∷ below) k rooms holds)
FindsFor known heap places w below cs (OpensIn c ∷ k) rooms holds =
    RaisesAt known w cs k rooms holds
    × ((o : Id) (v : Value) → walk heap w cs ≡ finds (Names o) → PassesTo known heap places (v ∷ Part o (record { component = c; part = 0 }) ∷ below) k rooms holds)
FindsFor known heap places w below cs (f ∷ k) rooms holds = ⊥

abbrev pub MovesOn : Known → List Object → List Value → Value → List ℕ → Control → Rooms → Holds → Type 0
MovesOn known heap places w [] k rooms holds = ⊥
MovesOn known heap places w (c ∷ cs) k rooms holds = (path : PathForm) × WalksOn heap places path w (c ∷ cs) × Takes known heap places (value_of path) k rooms holds

abbrev pub FillsOn : Known → List Object → List Value → Value → (below : List Value) → List ℕ → Control → Rooms → Holds → Type 0
FillsOn known heap places w below cs [] rooms holds = ⊥
FillsOn known heap places w below cs (Fills items ∷ k) rooms holds = (v : Value) → walk heap w cs ≡ finds v → FillsTo known heap places items k (v ∷ below) rooms holds
FillsOn known heap places w below cs (f ∷ k) rooms holds = ⊥

abbrev pub PassesOn : Known → List Object → List Value → Value → (below : List Value) → List ℕ → Control → Rooms → Holds → Type 0
PassesOn known heap places w below cs k rooms holds = (v : Value) → walk heap w cs ≡ finds v → PassesTo known heap places (v ∷ below) k rooms holds

abbrev pub FollowsFor : Known → List Object → List Value → Value → (below : List Value) → List ℕ → Control → Rooms → Holds → Type 0
FollowsFor known heap places w below cs k rooms holds =
    MayFollow heap w
    × (FindsFor known heap places w below cs k rooms holds
    ⊎ (MayRaise known true ConstraintError k rooms holds
    × (Awaits known heap places below k rooms holds ⊎ (MovesOn known heap places w cs k rooms holds
    ⊎ (FillsOn known heap places w below cs k rooms holds ⊎ PassesOn known heap places w below cs k rooms holds)))))

-- The path of the second half of a take pair is followed: it leads to an object that is there.
abbrev pub HalfFollows : Known → Value → List ℕ → Control → List Object → List Value → List Master → Type 0
HalfFollows known w cs [] heap places masters = ⊥
HalfFollows known w cs (Targets c right ∷ k) heap places masters =
    (right ≡ nothing) × (o : Id) × (walk heap w cs ≡ finds (Names o)) × Clearing known (Names o) c k heap places masters
HalfFollows known w cs (f ∷ k) heap places masters = ⊥

-- Behind the initialization of an object that an allocator made stands what gets its name.
abbrev pub NamesTo : Known → Control → List Object → (places operands : List Value) → List Master → Type 0
NamesTo known [] heap places operands masters = ⊥
NamesTo known (Stores x ∷ k) heap places operands masters =
    Working known heap (slice_set places x (first_or Null operands)) masters (RunsOn known k)
NamesTo known (Declares x ∷ k) heap places operands masters =
    Working known heap (slice_set places x (first_or Null operands)) masters (λ rooms holds. HasRoom rooms × RunsOn known k rooms holds)
NamesTo known (StoresIn o c ∷ k) heap places operands masters =
    IsHolder heap o × Working known (store heap o c (first_or Null operands)) places masters (RunsOn known k)
NamesTo known (f ∷ k) heap places operands masters = ⊥

-- A record object is initialized that a declaration created (3.3.1, 7.6). Its variable owns it, and nothing else relies on it. What is left goes on behind that,
-- and where an exception comes out, it does so without the variable. Of what its initialization may free there is no alias.
pub record Beginning (known : Known) (v : Value) (k : Control) (heap : List Object) (places : List Value) (masters : List Master) : Type 0 where
  pub o : Id
  pub object : Object
  pub is : v ≡ Names o
  pub found : object_at heap o ≡ Some object
  pub x : ℕ
  pub rooms : Rooms
  pub holds : Holds
  pub stored : Stored (outers known).under heap masters
  pub roomed : Roomed (below known) masters rooms
  pub fit : Fit known.program.types known.program.variables (outers known) none_spared heap places holds
  pub aside : IsAside known none_spared heap places (slice_set holds x hold.Lost) (Some o)
  pub runs : RunsOn known k rooms holds
  pub undone : StartsTo known object.cell.access k rooms (slice_set holds x hold.Lost)
  pub well : BeginsWell known object.cell.access holds

-- A new object is initialized that an allocator made (4.8, 7.6). Nothing relies on it. A variable or a component gets its name behind that, and where an exception
-- comes out, that goes on without the object. Of what its initialization may free there is no alias.
pub record Making (known : Known) (o : Id) (access : ℕ) (k : Control) (heap : List Object) (places : List Value) (masters : List Master) : Type 0 where
  pub rooms : Rooms
  pub holds : Holds
  pub stored : Stored (outers known).under heap masters
  pub roomed : Roomed (below known) masters rooms
  pub fit : Fit known.program.types known.program.variables (outers known) none_spared heap places holds
  pub aside : IsAside known none_spared heap places holds (Some o)
  pub room : RoomFor k rooms
  pub to : GoesTo known (AwaitsIn known heap access) access k rooms holds
  pub undone : StartsTo known access k rooms holds
  pub well : BeginsWell known access holds

-- So it is with the object that a value names, where operations may touch storage that are called then.
abbrev pub IsMade : Known → Value → Control → List Object → (places : List Value) → List Master → Type 0
IsMade known v k heap places masters =
    (o : Id) (x : Object) → v ≡ Names o → object_at heap o ≡ Some x → known.touches x.cell.access ≡ true → Making known o x.cell.access k heap places masters

-- Behind that of a record object what is left goes on; and so it does behind that of any object.
abbrev pub BegunTo : Known → Value → Control → List Object → (places operands : List Value) → List Master → Type 0
BegunTo known v k heap places operands masters =
    Beginning known v k heap places masters ⊎ ((first_or Null operands ≡ v) × IsMade known v k heap places masters × NamesTo known k heap places operands masters)

-- Behind the finalization of an object stands its end.
abbrev pub EndsTo : Known → Value → Control → List Object → List Value → List Master → Type 0
EndsTo known v [] heap places masters = ⊥
EndsTo known v (Ends w ∷ k) heap places masters = (w ≡ v) × EndingBy known w k heap places masters
EndsTo known v (f ∷ k) heap places masters = ⊥

-- Behind that of a record that is assigned to, its components get those of another one of this type, which is found (5.2).
abbrev pub StoresBehind : Known → List Object → (record_type : ℕ) → Control → Rooms → Holds → Type 0
StoresBehind known heap t [] rooms holds = ⊥
StoresBehind known heap t (StoresRecord o first count ∷ k) rooms holds = StoresSo known heap o t first count k rooms holds
StoresBehind known heap t (f ∷ k) rooms holds = ⊥

-- It lies in an object that is there.
abbrev pub LiesIn : Known → List Object → (record_type : ℕ) → Value → Type 0
LiesIn known heap t Null = ⊥
LiesIn known heap t (Names o) = (x : Object) × (object_at heap o ≡ Some x) × (is_there x.stage ≡ true) × LiesAmong known x.cell.access t
LiesIn known heap t (Scalar v) = ⊥
LiesIn known heap t (Part o first) = ⊥

abbrev pub CopiesBehind : Known → Control → List Object → (places operands : List Value) → List Master → Type 0
CopiesBehind known [] heap places operands masters = ⊥
CopiesBehind known (Copies first t ∷ k) heap places operands masters =
    IsCopied known t
    × Working known heap places masters (λ rooms holds.
    (LiesIn known heap t (first_or Null operands) × CopiesElsewhere known.program.types t first (first_or Null operands) k) × StoresBehind known heap t k rooms holds
    × AssignsWell known t holds)
CopiesBehind known (f ∷ k) heap places operands masters = ⊥

-- This exception may come out of the initialization of the object that a value names (7.6).
abbrev pub StartsRaise : Known → List Object → Value → Exception → Type 0
StartsRaise known heap v e =
    (o : Id) × (x : Object) × (v ≡ Names o) × (object_at heap o ≡ Some x) × (list_any (is_same e) (known.implicit.start_raises x.cell.access) ≡ true)

-- What is behind the initialization of an object goes on with an exception (7.6.1): the object counts as gone already, or, where operations may touch storage that are called for it,
-- nothing relies on it.
abbrev pub UndoneTo : Known → Value → Control → List Object → List Value → List Master → Exception → Type 0
UndoneTo known v k heap places masters e =
    (o : Id) × (access : ℕ) × (v ≡ Names o) × UnderIs heap (Some o) access
    × (((known.touches access ≡ false) × Freed known None none_spared (on_object finished heap v) places masters (λ rooms holds. To ((ways known k rooms).raised e) holds))
    ⊎ Freed known (Some o) none_spared heap places masters (λ rooms holds. To ((ways known k rooms).raised e) holds × BeginsWell known access holds))

-- The words of the object that a value names are out.
abbrev pub IsOut : List Object → Value → Type 0
IsOut heap v = (o : Id) (x : Object) → v ≡ Names o → object_at heap o ≡ Some x → x.out ≡ true

-- A new object may be undone, where an exception comes out of its initialization (7.6, 7.6.1). Its words are out.
abbrev pub MayUndo : Known → Value → Control → List Object → List Value → List Master → Type 0
MayUndo known v k heap places masters =
    Stored (outers known).under heap masters × ((e : Exception) → StartsRaise known heap v e → UndoneTo known v k heap places masters e) × IsOut heap v

-- Behind a finalization stands the end of the object, or, where it is that of a record that is assigned to, the copy (5.2, 7.6.1).
abbrev pub EndsBy : Known → Value → Cause → Control → List Object → (places operands : List Value) → List Master → Type 0
EndsBy known v (Leaving m item) k heap places operands masters = EndsTo known v k heap places masters
EndsBy known v (Freeing number) k heap places operands masters = EndsTo known v k heap places masters
EndsBy known v (Assigning number) k heap places operands masters = CopiesBehind known k heap places operands masters
EndsBy known v (Undoing number) k heap places operands masters = EndsTo known v k heap places masters

-- What is left of a finalization is that of the record that is assigned to, where it is one at an assignment.
abbrev pub IsOfCopied : List TypeForm → Cause → List Task → Control → Type 0
IsOfCopied types (Leaving m item) tasks k = Unit {0}
IsOfCopied types (Freeing number) tasks k = Unit {0}
IsOfCopied types (Assigning number) tasks [] = Unit {0}
IsOfCopied types (Assigning number) tasks (Copies first t ∷ k) = TasksInside types t tasks
IsOfCopied types (Assigning number) tasks (f ∷ k) = Unit {0}
IsOfCopied types (Undoing number) tasks k = Unit {0}

-- So it is with what is left of a treatment.
abbrev pub IsOfAssigned : List TypeForm → Treatment → List Task → Control → Type 0
IsOfAssigned types (begins by done) tasks k = Unit {0}
IsOfAssigned types (ends cause) tasks k = IsOfCopied types cause tasks k

-- A record in an object was copied to, and this is left of its adjustment, in front of what is left (7.6): the components of access types that are still to be
-- adjusted name what those of the other record name, which is there still, and so they count as null until then; what they name is there, and of what their Adjusts
-- may free there is no alias.
pub record AdjustsTo (known : Known) (v : Value) (tasks : List Task) (k : Control) (heap : List Object) (places : List Value) (masters : List Master) : Type 0 where
  pub o : Id
  pub is : v ≡ Names o
  pub x : Object
  pub found : object_at heap o ≡ Some x
  pub there : is_there x.stage ≡ true
  pub record_type : ℕ
  pub left : CopyLeft known.program.types x.cell.access record_type tasks
  pub named : NameThere heap (values_at (owners_left known.program.types x.cell.access tasks) x.cell.values)
  pub copied : AreCopied known.program.types heap o record_type left.first (owners_left known.program.types x.cell.access tasks) x.cell.values
  pub works :
      Working known (blanked (hiding (owners_left known.program.types x.cell.access tasks) o) heap) places masters (λ rooms holds.
      RunsOn known k rooms holds × AdjustsAside known x.cell.access record_type holds)

-- An object is treated (7.6, 7.6.1), and this is left of that: what is behind is ready; and so it is where a new object is undone.
abbrev pub TreatsBy : Known → Value → Treatment → (tasks : List Task) → Control → List Object → (places operands : List Value) → List Master → Type 0
TreatsBy known v (begins Creation done) tasks k heap places operands masters = BegunTo known v k heap places operands masters × MayUndo known v k heap places masters
TreatsBy known v (begins Copy done) tasks k heap places operands masters = AdjustsTo known v tasks k heap places masters
TreatsBy known v (begins (Adjustment number) done) tasks k heap places operands masters = AdjustsTo known v tasks k heap places masters
TreatsBy known v (ends cause) tasks k heap places operands masters = EndsBy known v cause k heap places operands masters

-- An object exists that a value names.
abbrev pub IsLive : List Object → Value → Type 0
IsLive heap v = (cell : Cell Value) × (look heap v ≡ finds cell)

-- What is left of the finalization of an object goes on behind the body of a Finalize.
abbrev pub ConfinesBy : Known → Control → List Object → (places operands : List Value) → List Master → Type 0
ConfinesBy known k heap places operands masters =
    (v : Value) × (cause : Cause) × (tasks : List Task) × (behind : Control) × (k ≡ treating v (ends cause) tasks behind)
    × TreatsBy known v (ends cause) tasks behind heap places operands masters × IsOfCopied known.program.types cause tasks behind

-- What holds where a frame is next. What is awaited counts as stored already.
abbrev pub ReadyBy : Known → Frame Value → Control → List Object → (places operands : List Value) → List Master → Type 0
ReadyBy known (Elaborates ds fs hs) k heap places operands masters = Working known heap places masters (RunsOn known (Elaborates ds fs hs ∷ k))
ReadyBy known (Does fs) k heap places operands masters = Resumes known heap places masters (Does fs ∷ k)
ReadyBy known (Decides fs branches) k heap places operands masters = Working known heap places masters (Deciding known fs branches k)
ReadyBy known (Repeats condition body) k heap places operands masters = Working known heap places masters (RunsOn known (Repeats condition body ∷ k))
ReadyBy known (Turns e body) k heap places operands masters = Working known heap places masters (TurningOn known e body k)
ReadyBy known (Ranges x body) k heap places operands masters = Working known heap places masters (λ rooms holds. Counting known x body k (ways known k rooms) holds)
ReadyBy known (Counts x next last body) k heap places operands masters = Working known heap places masters (RunsOn known (Counts x next last body ∷ k))
ReadyBy known Exits k heap places operands masters = Working known heap places masters (ExitingTo known k)
ReadyBy known (Handles hs) k heap places operands masters = Working known heap places masters (RunsOn known (Handles hs ∷ k))
ReadyBy known Closes k heap places operands masters = Working known heap places masters (RunsOn known (Closes ∷ k))
ReadyBy known (Calls procedure b actuals) k heap places operands masters =
    Working known heap places masters (PassesTo known heap places operands (Calls procedure b actuals ∷ k))
ReadyBy known (Returns actuals references) k heap places operands masters = Working known heap places masters (RunsOn known (Returns actuals references ∷ k))
ReadyBy known (Leaves mode) k heap places operands masters = Parting known heap places masters (RunsOn known (Leaves mode ∷ k))
ReadyBy known (Evaluates right) k heap places operands masters =
    EvaluatesTo known right k heap places masters ⊎ Working known heap places masters (PassesTo known heap places operands (Evaluates right ∷ k))
ReadyBy known (Computes e) k heap places operands masters = Working known heap places masters (Computing known heap places operands e k)
ReadyBy known (Follows cs) k heap places operands masters =
    Working known heap places masters (FollowsFor known heap places (first_or Null operands) (older operands) cs k)
    ⊎ HalfFollows known (first_or Null operands) cs k heap places masters
ReadyBy known (TestsNull equal) k heap places operands masters = Working known heap places masters (Awaits known heap places (older operands) k)
ReadyBy known (Refers p) k heap places operands masters = Working known heap places masters (PassesTo known heap places operands (Refers p ∷ k))
ReadyBy known (RefersIn place t) k heap places operands masters = Working known heap places masters (λ rooms holds.
    MayFollow heap (first_or Null operands) × FindsFor known heap places (first_or Null operands) (older operands) [] (RefersIn place t ∷ k) rooms holds)
ReadyBy known (Opens path) k heap places operands masters = Working known heap places masters (PassesTo known heap places operands (Opens path ∷ k))
ReadyBy known (OpensIn c) k heap places operands masters = Working known heap places masters (λ rooms holds.
    MayFollow heap (first_or Null operands) × FindsFor known heap places (first_or Null operands) (older operands) [] (OpensIn c ∷ k) rooms holds)
ReadyBy known (Continues links) k heap places operands masters = Working known heap places masters (Awaits known heap places (older operands) (Continues links ∷ k))
ReadyBy known (Applies operator) k heap places operands masters = Working known heap places masters (Awaits known heap places (older operands) (Applies operator ∷ k))
ReadyBy known (AppliesAlone operator) k heap places operands masters =
    Working known heap places masters (Awaits known heap places (older operands) (AppliesAlone operator ∷ k))
ReadyBy known (Fills items) k heap places operands masters = Working known heap places masters (FillsTo known heap places items k operands)
ReadyBy known (Copies first t) k heap places operands masters = Working known heap places masters (λ rooms holds.
    MayFollow heap (first_or Null operands) × RaisesAt known (first_or Null operands) [] k rooms holds
    × (CopiesElsewhere known.program.types t first (first_or Null operands) k × CopiesTo known heap places t (older operands) k rooms holds))
ReadyBy known (Creates access count) k heap places operands masters = Working known heap places masters (Filling known heap places access count [] k operands)
ReadyBy known (Stores x) k heap places operands masters = Resumes known heap (slice_set places x (first_or Null operands)) masters k
ReadyBy known (Targets c right) k heap places operands masters = TargetsTo known (first_or Null operands) c right k heap places masters
ReadyBy known (StoresIn o c) k heap places operands masters = StoringIn known o c (first_or Null operands) k heap places masters
ReadyBy known (TargetsRecord first t items) k heap places operands masters = Working known heap places masters (λ rooms holds.
    MayFollow heap (first_or Null operands) × RaisesAt known (first_or Null operands) [] k rooms holds × RecordIn known t items k rooms holds)
ReadyBy known (StoresRecord o first count) k heap places operands masters =
    Working known heap places masters (StoresFrom known heap operands o first count k)
ReadyBy known (Assigns t) k heap places operands masters = Working known heap places masters (PassesTo known heap places operands (Assigns t ∷ k))
ReadyBy known (Receives c) k heap places operands masters = Working known heap places masters (Receiving known heap (first_or Null operands) k)
ReadyBy known (FreesIn access c) k heap places operands masters =
    Working known heap places masters (λ rooms holds. MayFollow heap (first_or Null operands) × Releasing known heap (first_or Null operands) [] access c k rooms holds)
ReadyBy known (Declares x) k heap places operands masters =
    Working known heap (slice_set places x (first_or Null operands)) masters (λ rooms holds. HasRoom rooms × RunsOn known k rooms holds)
ReadyBy known (DeclaresRecord x t) k heap places operands masters = Working known heap places masters (RecordsFrom known heap operands x t k)
ReadyBy known (Treats v treatment tasks) k heap places operands masters =
    TreatsBy known v treatment tasks k heap places operands masters × IsOfAssigned known.program.types treatment tasks k
ReadyBy known (frame.Awaits v by done of part tasks) k heap places operands masters = IsLive heap v × TreatsBy known v (begins by done) tasks k heap places operands masters
ReadyBy known frame.Confines k heap places operands masters = ConfinesBy known k heap places operands masters
ReadyBy known (frame.Resumes mode) k heap places operands masters = Working known heap places masters (λ rooms holds. To (By mode (ways known k rooms)) holds)
ReadyBy known Writes k heap places operands masters = Working known heap places masters (RunsOn known k)
ReadyBy known (Ends v) k heap places operands masters = EndingBy known v k heap places masters
ReadyBy known (GivesBack v cause pool) k heap places operands masters = BackingBy known v cause pool k heap places masters
ReadyBy known (Clears x) k heap places operands masters = Working known heap (slice_set places x Null) masters (RunsOn known k)
ReadyBy known (ClearsIn o c) k heap places operands masters = Clearing known o c k heap places masters

-- What holds where an exception comes to a frame. The body of an Initialize lets it out to what awaits the end of that body, and then the new object is
-- undone (7.6.1).
abbrev pub RaisesBy : Known → Exception → Frame Value → Control → List Object → List Value → List Master → Type 0
RaisesBy known e (frame.Awaits v by done of part tasks) k heap places masters =
    (by ≡ Creation) × IsLive heap v × Stored (outers known).under heap masters × StartsRaise known heap v e × UndoneTo known v k heap places masters e
RaisesBy known e f k heap places masters = Working known heap places masters (GoesOn known (Raising e) (f ∷ k))

abbrev pub ReadyIn : Known → Mode → Control → List Object → (places operands : List Value) → List Master → Type 0
ReadyIn known mode [] heap places operands masters = Stored [] heap masters × NoMaster masters
ReadyIn known Running (f ∷ k) heap places operands masters = ReadyBy known f k heap places operands masters
ReadyIn known (Raising e) (f ∷ k) heap places operands masters = RaisesBy known e f k heap places masters
ReadyIn known Exiting (f ∷ k) heap places operands masters = Working known heap places masters (GoesOn known Exiting (f ∷ k))
ReadyIn known Returning (f ∷ k) heap places operands masters = Working known heap places masters (GoesOn known Returning (f ∷ k))

abbrev pub IsActive : List (Activation Value) → Type 0
IsActive [] = ⊥
IsActive (a ∷ rest) = Unit {0}

-- What every step keeps.
abbrev pub Ready : Known → State → Type 0
Ready known s = IsActive s.activations × ReadyIn known s.mode s.control s.heap (places s) (operands s) s.masters

-- A caller as the body at work.
abbrev pub known_of : Caller → List Caller → Known
known_of w ws = record { implicit = w.implicit; program = w.program; ahead = w.ahead; touches = w.touches; At = w.At; callers = ws; tracked = w.tracked }

-- The variable that an actual parameter hands over to a formal one of mode `in out` of an access type, if it does; and that of a formal parameter, by its
-- number.
abbrev pub handed : ActualForm → Option ℕ
handed (in_value e) = None
handed in_null = None
handed (in_access path) = None
handed (in_record p) = None
handed (in_out_path path) = None
handed (in_out_access path) = Some path.root
handed (in_out_component path) = None
handed (in_out_record p) = None

abbrev pub handed_at : List ActualForm → (formal : ℕ) → Option ℕ
handed_at [] i = None
handed_at (a ∷ rest) zero = handed a
handed_at (a ∷ rest) (suc i) = handed_at rest i

-- What is handed over to a body: each variable once, to a formal parameter of its access type, which owes something at a normal end. It is an owner or
-- null, and no record object.
pub record Hands (body own : ProgramForm) (actuals : List ActualForm) (holds : Holds) : Type 0 where
  pub alike : (i x : ℕ) → handed_at actuals i ≡ Some x → variable_access body.variables i ≡ variable_access own.variables x
  pub once : (i j x : ℕ) → handed_at actuals i ≡ Some x → handed_at actuals j ≡ Some x → i ≡ j
  pub owned : (i x : ℕ) → handed_at actuals i ≡ Some x → gives_back (hold_at holds x) ≡ true
  pub plain : (i x : ℕ) → handed_at actuals i ≡ Some x → is_object own.variables x ≡ false
  pub formal : (i x : ℕ) → handed_at actuals i ≡ Some x → is_object body.variables i ≡ false
  pub owes : (i x : ℕ) → handed_at actuals i ≡ Some x → (after : Holds) → all_give_back (owed_in body) after ≡ true → gives_back (hold_at after i) ≡ true

-- These refer to components of objects that are referred to, which hold Integers or Booleans.
abbrev pub AreOpened : List TypeForm → List Reference → (references : List Value) → Type 0
AreOpened types referenced [] = Unit {0}
AreOpened types referenced (r ∷ rs) =
    ((o : Id) × (place : Place) × (t : ℕ) × (r ≡ Part o place) × IsReferred referenced o t
    × (access_of (kind_among (reached_components types t) place.component) ≡ None))
    × AreOpened types referenced rs

-- A caller waits for a body: it goes on with what is known of its variables, behind the call and where the body raises an exception; its masters have their
-- rooms; what is called null is null, what is kept holds what was given, and a record object that is not lost is there; nothing relies on the Integers and
-- Booleans that get something back; what is handed over is what the formal parameters were given; the components that get something back hold Integers or
-- Booleans; and no object is under way in it, and none is held for an operation.
pub record Waits (implicit : Implicit) (body : ProgramForm) (w : Caller) (ws : List Caller) : Type 0 where
  pub goes_on : To (RunsOn (known_of w ws) w.control w.rooms) (handed_back w.actuals w.before)
  pub raises : (e : Exception) → body_among implicit body e ≡ true → To ((ways (known_of w ws) w.control w.rooms).raised e) (left_unkept w.kept w.actuals w.before)
  pub roomed : Roomed (below_callers ws) w.masters w.rooms
  pub said : (x : ℕ) → IsSaid (place_at (given_in ws) x) (hold_at w.before x) (place_at w.places x)
  pub objects : (x : ℕ) → hold_at w.before x ≢ hold.Lost → IsPlace w.program.types (referenced_in ws) (variable_kind w.program.variables x) (place_at w.places x)
  pub lost : GetLost w.actuals w.before
  pub hands : Hands body w.program w.actuals w.before
  pub passes : (i x : ℕ) → handed_at w.actuals i ≡ Some x → place_at w.passed i ≡ place_at w.places x
  pub opened : AreOpened w.program.types w.referenced w.references
  pub covers : (t : ℕ) → CoveredIn implicit body t → CoveredIn w.implicit w.program t
  pub settled : w.under ≡ []
  pub unheld : w.held ≡ None

-- The body of an operation comes to its end in front of this (7.6, 7.6.1).
abbrev pub IsAwaited : Control → Type 0
IsAwaited [] = ⊥
IsAwaited (frame.Awaits v by done of part tasks ∷ k) = Unit {0}
IsAwaited (frame.Confines ∷ k) = Unit {0}
IsAwaited (f ∷ k) = ⊥

-- A caller waits for the body of an operation that is called implicitly: its masters have their rooms, and it may free what the body may.
pub record WaitsForOperation (implicit : Implicit) (body : ProgramForm) (w : Caller) (ws : List Caller) : Type 0 where
  pub roomed : Roomed (below_callers ws) w.masters w.rooms
  pub covers : (t : ℕ) → CoveredIn implicit body t → CoveredIn w.implicit w.program t
  pub operated : IsAwaited w.control

-- A caller waits for a call, or for an operation.
abbrev pub WaitsSo : Implicit → ProgramForm → Caller → List Caller → Type 0
WaitsSo implicit body w ws = Waits implicit body w ws ⊎ WaitsForOperation implicit body w ws

-- So does each caller, for the body that it called.
abbrev pub AllWait : Implicit → ProgramForm → List Caller → Type 0
AllWait implicit body [] = Unit {0}
AllWait implicit body (w ∷ ws) = WaitsSo implicit body w ws × AllWait w.implicit w.program ws

pub waits_roomed : {implicit : Implicit} {body : ProgramForm} {w : Caller} {ws : List Caller} → WaitsSo implicit body w ws → Roomed (below_callers ws) w.masters w.rooms
waits_roomed (inl call) = call.roomed
waits_roomed (inr operation) = operation.roomed

pub waits_covers : {implicit : Implicit} {body : ProgramForm} {w : Caller} {ws : List Caller} → WaitsSo implicit body w ws → (t : ℕ) → CoveredIn implicit body t → CoveredIn w.implicit w.program t
waits_covers (inl call) t may = call.covers t may
waits_covers (inr operation) t may = operation.covers t may

-- The suspended activations are those of the callers, whose variables hold what is said of them.
abbrev pub AreSuspended : List (Activation Value) → List Caller → Type 0
AreSuspended [] [] = Unit {0}
AreSuspended [] (w ∷ ws) = ⊥
AreSuspended (a ∷ rest) [] = ⊥
AreSuspended (a ∷ rest) (w ∷ ws) = (a.places ≡ w.places) × AreSuspended rest ws

-- One of these waits for the body of an operation.
abbrev pub OneAwaits : List Caller → Type 0
OneAwaits [] = ⊥
OneAwaits (w ∷ ws) = IsAwaited w.control ⊎ OneAwaits ws

-- An object is found, and has its home below a number of items; or its words are back, and something is so around.
abbrev pub LiesBelow : List Object → (items : ℕ) → (around : Type 0) → Id → Type 0
LiesBelow heap items around o =
    (object : Object) × (object_at heap o ≡ Some object) × ((suc object.cell.home.item ≤ items) ⊎ ((object.out ≡ false) × around))

-- What a caller's variable is relied on to name, what its call refers to, what is under way in it, and what an operation is called for that it waits for lies
-- in an item of a master that was entered before its call; or, where an operation runs around the call, it may be what has gone with its collection.
abbrev pub LieBelow : List Object → List Caller → Type 0
LieBelow heap [] = Unit {0}
LieBelow heap (w ∷ ws) =
    ((x : ℕ) (o : Id) → IsRelied (hold_at (waiting_holds w) x) → place_at w.places x ≡ Names o → LiesBelow heap (height w.masters) (OneAwaits ws) o)
    × ((o : Id) (t : ℕ) → IsReferred w.referenced o t → LiesBelow heap (height w.masters) (OneAwaits ws) o)
    × ((o : Id) → IsUnder w.under o → (object : Object) × (object_at heap o ≡ Some object) × (suc object.cell.home.item ≤ height w.masters))
    × LieBelow heap ws
    × ((x : ℕ) (o : Id) → IsRelied (outer_hold w.held x) → outer_value w.held x ≡ Names o → LiesBelow heap (height w.masters) (OneAwaits ws) o)

-- The callers of a state are as they are known.
pub record Standing (known : Known) (s : State) : Type 0 where
  pub suspended : AreSuspended (older s.activations) known.callers
  pub waiting : AllWait known.implicit known.program known.callers
  pub low : LieBelow s.heap known.callers

-- The words of an object go back.
pub record GoesBack (implicit : Implicit) (p : ProgramForm) (cause : Cause) (v : Value) (access number : ℕ) (pool subpool : Option ℕ) (before : List Object) (after : State) : Type 0 where
  pub id : Id
  pub object : Object
  pub is : v ≡ Names id
  pub found : object_at before id ≡ Some object
  pub out : object.out ≡ true
  pub of_type : object.cell.access ≡ access
  pub numbered : object.cell.number ≡ number
  pub to_pool : object.cell.home.pool ≡ pool
  pub to_subpool : object.cell.home.subpool ≡ subpool
  pub home : LeavesHome object.cell.home (leaving_by (Some cause))
  pub covered : IsCovered implicit p cause access
  pub back : BackIn after.heap id

-- An object is followed that is there.
pub record IsFollowed (v : Value) (before : List Object) : Type 0 where
  pub id : Id
  pub object : Object
  pub is : v ≡ Names id
  pub found : object_at before id ≡ Some object
  pub there : is_there object.stage ≡ true

-- What an event of a body says of the objects before it and of the state after it.
abbrev pub Says : Implicit → ProgramForm → Event → List Object → State → Type 0
Says implicit p (Born object part turn type number by) before after = Unit {0}
Says implicit p (Finalized object part turn type number cause) before after = Unit {0}
Says implicit p (Back object access number pool subpool cause) before after = GoesBack implicit p cause object access number pool subpool before after
Says implicit p (Followed object) before after = IsFollowed object before
Says implicit p (Left master) before after = Unit {0}
Says implicit p (Line line) before after = Unit {0}
Says implicit p Quiet before after = Unit {0}

-- One step: what it keeps, and what it does.
pub record Stepped (known : Known) (before : List Object) (e : Event) (after : State) : Type 0 where
  pub ready : Ready known after
  pub alters : Alters before e after.heap
  pub says : Says known.implicit known.program e before after

-- No run ends at an erroneous action, or by an exception that leaves an operation; where one comes to its end, no master is left.
abbrev pub EndsWell : Halt → List Object → List Master → Type 0
EndsWell Finished heap masters = Stored [] heap masters × NoMaster masters
EndsWell (Unhandled e) heap masters = Stored [] heap masters × NoMaster masters
EndsWell (Escaped e) heap masters = ⊥
EndsWell (Erroneous why) heap masters = ⊥
EndsWell Stuck heap masters = Unit {0}
EndsWell Memory heap masters = Unit {0}

-- What comes next keeps it.
abbrev pub Fine : Known → List Object → List Master → Next → Type 0
Fine known heap masters (halts halt) = EndsWell halt heap masters
Fine known heap masters (moves e after) = Stepped known heap e after
Fine known heap masters (tells request e after) = Stepped known heap e after
Fine known heap masters (asks request answered) = (granted : Bool) → Stepped known heap Quiet (answered granted)
Fine known heap masters (picks n taken) = (i : ℕ) → suc i ≤ n → Stepped known heap Quiet (taken i)
