-- What the rules say of a call: it moves nothing but what it hands over, and that comes back; it leaves no alias of what the procedure may free; no actual
-- parameter relies on what is lost; and no variable that gets something back is used for another actual parameter.

use Rattle.std.specs.Prelude.{◌≡◌, ◌≢◌, ◌⊎◌, ℕ, ℤ, Bool, true, false, ◌&&◌, ◌||◌, ◌==◌, List, [], ◌∷◌, Option, Some, None}
use Rattle.std.specs.List.{list_any, slice_get, slice_index_or}
use Rattle.ada_text.specs.declared.spot.Spot.{Spot}
use Rattle.ada_program.specs.Form.{PathForm, RecordPathForm, ActualForm, in_value, in_null, in_access, in_record, in_out_path, in_out_access, in_out_component, in_out_record, ExpressionForm, integer, boolean, reads, is_null, applied_to, chained, LinksForm, no_more_links, a_link, calls}
use Rattle.ada_program.specs.declared.program.VariableKind.{VariableKind}
use Rattle.ada_program.specs.ProgramForm.{TypeForm, VariableForm, program_form}
use Rattle.ada_program.specs.WellFormed.{access_of, variable_kind, selected_kind, path_access}
use Rattle.ada_program.specs.declared.program.Exception.{Exception}
use Rattle.ada_program.specs.declared.program.Program.{Program}
use Rattle.ada_program.specs.Handling.{is_same}
use Rattle.ada_effects.specs.Effects.{Effect, call_frees, call_raises, effects_of}
use Rattle.ada_flow.specs.declared.rule.Hold.TheVariants.{Own, Alias, Lost}
use Rattle.ada_flow.specs.declared.rule.Region.{Region}
use Rattle.ada_flow.specs.declared.rule.Region.TheVariants.{Whole}
use Rattle.ada_flow.specs.declared.rule.Rule.{Rule}
use Rattle.ada_flow.specs.declared.rule.Rule.TheVariants.{LostValue}
use Rattle.ada_flow.specs.Flow.{Holds, goes, faults, hold_at, variable_access, is_freed, Around, kept_at, stmt_flow}
use Rattle.ada_meaning.specs.declared.event.Cause.TheVariants.{Leaving, Freeing, Assigning, Undoing}
use Rattle.ada_meaning.specs.declared.state.Mode.TheVariants.{Raising}
use Rattle.ada_meaning.specs.declared.state.Value.{Value}
use Rattle.ada_meaning.specs.Event.{Born, Finalized, Back, Followed, Left, Line, Quiet}
use Rattle.ada_meaning.specs.State.{Activation}
use Rattle.ada_meaning.specs.Named.{State}
use Rattle.ada_meaning.specs.Run.{Event, Choice, Step, Run, first_state}
use Rattle.ada_meaning.specs.Calls.{EndsBody}
use Rattle.ada_owners.specs.Reliance.{Owns}
use Rattle.ada_sound.specs.Always.{InEveryRun, implicit_in}
use Rattle.ada_sound.specs.Agreement.{IsOwner, running_procedure}
use Rattle.ada_sound.specs.Untracked.{untracked}

-- A call comes to its end with these holds.
abbrev pub CallEnds : List TypeForm → List VariableForm → Around → (procedure : ℕ) → (actuals : List ActualForm) → (holds after : Holds) → Type 0
CallEnds types variables around procedure actuals holds after =
    (cleared : Bool) × (raising : Option Holds) × (stmt_flow types variables (untracked around) cleared (calls procedure actuals) holds ≡ goes (Some after) raising)

-- A call raises an exception with these holds.
abbrev pub CallRaises : List TypeForm → List VariableForm → Around → (procedure : ℕ) → (actuals : List ActualForm) → (holds raised : Holds) → Type 0
CallRaises types variables around procedure actuals holds raised =
    (cleared : Bool) × (normal : Option Holds) × (stmt_flow types variables (untracked around) cleared (calls procedure actuals) holds ≡ goes normal (Some raised))

-- Behind a call no variable of an access type of which the procedure may free an object holds an alias (13.11.2): what it named may be gone.
abbrev pub CallLeavesNoAlias : Type 0
CallLeavesNoAlias =
    (types : List TypeForm) (variables : List VariableForm) (around : Around) (procedure t : ℕ) (actuals : List ActualForm) (holds after : Holds)
    → CallEnds types variables around procedure actuals holds after → call_frees (slice_get around.effects.calls procedure) t ≡ true
    → (x : ℕ) → variable_access variables x ≡ Some t → (r : Region) → hold_at after x ≢ Alias r

-- Nor does one where the call raises an exception: there as little is said as behind it.
abbrev pub RaisedCallLeavesNoAlias : Type 0
RaisedCallLeavesNoAlias =
    (types : List TypeForm) (variables : List VariableForm) (around : Around) (procedure t : ℕ) (actuals : List ActualForm) (holds raised : Holds)
    → CallRaises types variables around procedure actuals holds raised → call_frees (slice_get around.effects.calls procedure) t ≡ true
    → (x : ℕ) → variable_access variables x ≡ Some t → (r : Region) → hold_at raised x ≢ Alias r

-- A variable is handed over to a formal parameter of mode `in out` of an access type (6.4.1).
abbrev pub IsHandedOver : (x : ℕ) → List ActualForm → Type 0
IsHandedOver x actuals = (formal : ℕ) × (path : PathForm) × (slice_get actuals formal ≡ Some (in_out_access path)) × (path.root ≡ x)

-- Is the formal parameter of a number kept by a procedure?
abbrev pub is_kept_by : Around → (procedure formal : ℕ) → Bool
is_kept_by around procedure formal = slice_index_or (kept_at around.kept procedure) formal false

-- A variable is handed over to a formal parameter that the procedure does not keep.
abbrev pub IsGivenUp : Around → (procedure x : ℕ) → List ActualForm → Type 0
IsGivenUp around procedure x actuals =
    (formal : ℕ) × (path : PathForm) × (slice_get actuals formal ≡ Some (in_out_access path)) × (path.root ≡ x)
    × (is_kept_by around procedure formal ≡ false)

-- A call leaves each owner one: a variable that is an owner before it, or null, holds the same after, or owns what comes back.
abbrev pub CallMovesNothing : Type 0
CallMovesNothing =
    (types : List TypeForm) (variables : List VariableForm) (around : Around) (procedure : ℕ) (actuals : List ActualForm) (holds after : Holds)
    → CallEnds types variables around procedure actuals holds after
    → (x : ℕ) (v : VariableForm) → slice_get variables x ≡ Some v → IsOwner (hold_at holds x)
    → (hold_at after x ≡ hold_at holds x) ⊎ (hold_at after x ≡ Own Whole)

-- Where the call raises an exception, an owner, or null, holds the same, unless it is given up.
abbrev pub RaisedCallMovesNothing : Type 0
RaisedCallMovesNothing =
    (types : List TypeForm) (variables : List VariableForm) (around : Around) (procedure : ℕ) (actuals : List ActualForm) (holds raised : Holds)
    → CallRaises types variables around procedure actuals holds raised
    → (x : ℕ) (v : VariableForm) → slice_get variables x ≡ Some v → (IsGivenUp around procedure x actuals → ⊥) → IsOwner (hold_at holds x)
    → hold_at raised x ≡ hold_at holds x

-- What is handed over is an owner, or null (6.4.1).
abbrev pub OnlyOwnersAreHandedOver : Type 0
OnlyOwnersAreHandedOver =
    (types : List TypeForm) (variables : List VariableForm) (around : Around) (cleared : Bool) (procedure x : ℕ) (actuals : List ActualForm) (holds : Holds)
    (normal raising : Option Holds)
    → stmt_flow types variables (untracked around) cleared (calls procedure actuals) holds ≡ goes normal raising → IsHandedOver x actuals → IsOwner (hold_at holds x)

-- Behind the call it owns what comes back.
abbrev pub CallHandsBack : Type 0
CallHandsBack =
    (types : List TypeForm) (variables : List VariableForm) (around : Around) (procedure x : ℕ) (v : VariableForm) (actuals : List ActualForm)
    (holds after : Holds)
    → CallEnds types variables around procedure actuals holds after → slice_get variables x ≡ Some v → IsHandedOver x actuals
    → hold_at after x ≡ Own Whole

-- Where the call raises an exception, nothing comes back: a variable that was given up owns nothing.
abbrev pub UnkeptOwnNothing : Type 0
UnkeptOwnNothing =
    (types : List TypeForm) (variables : List VariableForm) (around : Around) (procedure x : ℕ) (actuals : List ActualForm) (holds raised : Holds)
    → CallRaises types variables around procedure actuals holds raised → IsGivenUp around procedure x actuals → Owns (hold_at raised x) → ⊥

-- A variable that is not handed over holds what it did, if it is of no access type of which the procedure may free an object.
abbrev pub CallKeepsOthers : Type 0
CallKeepsOthers =
    (types : List TypeForm) (variables : List VariableForm) (around : Around) (procedure : ℕ) (actuals : List ActualForm) (holds after : Holds)
    → CallEnds types variables around procedure actuals holds after
    → (x : ℕ) (v : VariableForm) → slice_get variables x ≡ Some v
    → is_freed (call_frees (slice_get around.effects.calls procedure)) (variable_access variables x) ≡ false → (IsHandedOver x actuals → ⊥)
    → hold_at after x ≡ hold_at holds x

-- Where the call raises an exception, a variable of such a type holds what it did, unless it is given up.
abbrev pub RaisedCallKeepsOthers : Type 0
RaisedCallKeepsOthers =
    (types : List TypeForm) (variables : List VariableForm) (around : Around) (procedure : ℕ) (actuals : List ActualForm) (holds raised : Holds)
    → CallRaises types variables around procedure actuals holds raised
    → (x : ℕ) (v : VariableForm) → slice_get variables x ≡ Some v
    → is_freed (call_frees (slice_get around.effects.calls procedure)) (variable_access variables x) ≡ false
    → (IsGivenUp around procedure x actuals → ⊥) → hold_at raised x ≡ hold_at holds x

-- Does a path with these components behind its variable follow the value of that one (4.1)?
abbrev pub has_selector : List ℕ → Bool
has_selector [] = false
has_selector (c ∷ cs) = true

abbrev mutual
  -- Does an expression rely on the value of a variable: does it follow the value (4.1), or compare it with null (4.5.2)?
  pub relies_on : (x : ℕ) → ExpressionForm → Bool
  relies_on x (integer value) = false
  relies_on x (boolean value) = false
  relies_on x (reads path) = (path.root == x) && has_selector path.selectors
  relies_on x (is_null equal path) = path.root == x
  relies_on x (applied_to operator e) = relies_on x e
  relies_on x (chained e links) = relies_on x e || links_rely_on x links

  -- Do operands behind the first one?
  pub links_rely_on : (x : ℕ) → LinksForm → Bool
  links_rely_on x no_more_links = false
  links_rely_on x (a_link operator e links) = relies_on x e || links_rely_on x links

-- Does one of these actual parameters? One that is lent, handed over or passed by reference does, where it begins with the variable, and so does a component.
abbrev pub value_relies_on : (x : ℕ) → ActualForm → Bool
value_relies_on x (in_value e) = relies_on x e
value_relies_on x in_null = false
value_relies_on x (in_access path) = path.root == x
value_relies_on x (in_record p) = p.object.root == x
value_relies_on x (in_out_path path) = relies_on x (reads path)
value_relies_on x (in_out_access path) = path.root == x
value_relies_on x (in_out_component path) = path.root == x
value_relies_on x (in_out_record p) = p.object.root == x

-- The variable with which an actual parameter begins, where that is no expression.
abbrev pub begins_with : ActualForm → Option ℕ
begins_with (in_value e) = None
begins_with in_null = None
begins_with (in_access path) = Some path.root
begins_with (in_record p) = Some p.object.root
begins_with (in_out_path path) = Some path.root
begins_with (in_out_access path) = Some path.root
begins_with (in_out_component path) = Some path.root
begins_with (in_out_record p) = Some p.object.root

-- The variable with which an actual parameter for a formal one of mode `in out` begins.
abbrev pub writes_from : ActualForm → Option ℕ
writes_from (in_value e) = None
writes_from in_null = None
writes_from (in_access path) = None
writes_from (in_record p) = None
writes_from (in_out_path path) = Some path.root
writes_from (in_out_access path) = Some path.root
writes_from (in_out_component path) = Some path.root
writes_from (in_out_record p) = Some p.object.root

-- No actual parameter begins with a variable with which another one begins that is for a formal parameter of mode `in out`.
abbrev pub AreGivenApart : List ActualForm → Type 0
AreGivenApart actuals =
    (i j x : ℕ) (a b : ActualForm) → slice_get actuals i ≡ Some a → slice_get actuals j ≡ Some b → writes_from a ≡ Some x → begins_with b ≡ Some x
    → i ≡ j

-- A path follows a value of this access type (4.1): that of its variable, which holds this, or one behind that.
abbrev pub IsFollowed : List TypeForm → Option VariableKind → (selectors : List ℕ) → (access : ℕ) → Type 0
IsFollowed types kind [] t = ⊥
IsFollowed types kind (c ∷ cs) t = (access_of kind ≡ Some t) ⊎ IsFollowed types (selected_kind types kind c) cs t

-- So does the path to a record (6.2), which follows the access value to the object in which the record lies, too.
abbrev pub FollowsTo : List TypeForm → List VariableForm → RecordPathForm → (access : ℕ) → Type 0
FollowsTo types variables p t =
    IsFollowed types (variable_kind variables p.object.root) p.object.selectors t ⊎ (path_access types variables p.object ≡ Some t)

-- An actual parameter may be passed by reference, or gets something back as a component, by a call that may free objects of some access types: its path
-- follows no value of these, and a component holds an Integer or a Boolean.
abbrev pub IsPassedSafely : List TypeForm → List VariableForm → (may : ℕ → Bool) → ActualForm → Type 0
IsPassedSafely types variables may (in_value e) = Unit {0}
IsPassedSafely types variables may in_null = Unit {0}
IsPassedSafely types variables may (in_access path) = Unit {0}
IsPassedSafely types variables may (in_record p) = (t : ℕ) → may t ≡ true → FollowsTo types variables p t → ⊥
IsPassedSafely types variables may (in_out_path path) = Unit {0}
IsPassedSafely types variables may (in_out_access path) = Unit {0}
IsPassedSafely types variables may (in_out_component path) =
    (path_access types variables path ≡ None)
    × ((t : ℕ) → may t ≡ true → IsFollowed types (variable_kind variables path.root) path.selectors t → ⊥)
IsPassedSafely types variables may (in_out_record p) = (t : ℕ) → may t ≡ true → FollowsTo types variables p t → ⊥

-- So is each of these.
abbrev pub ArePassedSafely : List TypeForm → List VariableForm → (may : ℕ → Bool) → List ActualForm → Type 0
ArePassedSafely types variables may actuals = (i : ℕ) (a : ActualForm) → slice_get actuals i ≡ Some a → IsPassedSafely types variables may a

-- Where a call breaks no rule, what it passes by reference, and what gets something back behind it, lies in no object that it may free, nor behind one.
abbrev pub CallsSpareWhatTheyPass : Type 0
CallsSpareWhatTheyPass =
    (types : List TypeForm) (variables : List VariableForm) (around : Around) (cleared : Bool) (procedure : ℕ) (actuals : List ActualForm) (holds : Holds)
    (normal raising : Option Holds)
    → stmt_flow types variables (untracked around) cleared (calls procedure actuals) holds ≡ goes normal raising
    → ArePassedSafely types variables (call_frees (slice_get around.effects.calls procedure)) actuals

-- Nothing is handed over that another owns.
abbrev pub HandsNoAlias : List ActualForm → Holds → Type 0
HandsNoAlias actuals holds = (x : ℕ) (r : Region) → IsHandedOver x actuals → hold_at holds x ≢ Alias r

-- A call breaks a rule if an actual parameter relies on what is lost: that of lost values, where no variable is given and used besides, nothing is handed
-- over that another owns, and all is passed safely.
abbrev pub LostIsNoActual : Type 0
LostIsNoActual =
    (types : List TypeForm) (variables : List VariableForm) (around : Around) (cleared : Bool) (procedure x : ℕ) (actuals : List ActualForm) (holds : Holds)
    → list_any (value_relies_on x) actuals ≡ true → hold_at holds x ≡ Lost
    → (spot : Spot) × (rule : Rule) × (stmt_flow types variables (untracked around) cleared (calls procedure actuals) holds ≡ faults spot rule)
    × (AreGivenApart actuals → HandsNoAlias actuals holds
    → ArePassedSafely types variables (call_frees (slice_get around.effects.calls procedure)) actuals → rule ≡ LostValue)

-- Where a call breaks no rule, no actual parameter begins with a variable with which another one begins that is for a formal parameter of mode `in out`
-- (6.4.1).
abbrev pub NoneIsGivenTwice : Type 0
NoneIsGivenTwice =
    (types : List TypeForm) (variables : List VariableForm) (around : Around) (cleared : Bool) (procedure : ℕ) (actuals : List ActualForm) (holds : Holds)
    (normal raising : Option Holds)
    → stmt_flow types variables (untracked around) cleared (calls procedure actuals) holds ≡ goes normal raising → AreGivenApart actuals

-- What is known of the calls of a procedure of a program (6.4).
abbrev pub effect_at : Program → (procedure : ℕ) → Option Effect
effect_at program procedure = slice_get (effects_of (implicit_in program) (program_form program)).calls procedure

-- What goes back by a Free is of an access type of which calls of a procedure may free objects (13.11.2).
abbrev pub IsCovered : Program → (procedure : ℕ) → Event → Type 0
IsCovered program procedure (Born object part turn type number by) = Unit {0}
IsCovered program procedure (Finalized object part turn type number cause) = Unit {0}
IsCovered program procedure (Back object access number pool subpool (Leaving master item)) = Unit {0}
IsCovered program procedure (Back object access number pool subpool (Freeing free)) =
    call_frees (effect_at program procedure) access ≡ true
IsCovered program procedure (Back object access number pool subpool (Assigning assignment)) = Unit {0}
IsCovered program procedure (Back object access number pool subpool (Undoing allocator)) = Unit {0}
IsCovered program procedure (Followed object) = Unit {0}
IsCovered program procedure (Left master) = Unit {0}
IsCovered program procedure (Line line) = Unit {0}
IsCovered program procedure Quiet = Unit {0}

-- Effects cover what calls do: where a step gives words back by a Free, calls of each procedure whose body is at work then, or waits for one that it
-- called, may free objects of that type.
abbrev pub FreesAreCovered : Program → Type 0
FreesAreCovered program =
    (input : List ℤ) (events : List Event) (before after : State) (choice : Choice) (e : Event)
    → Run program (first_state program input) events before → Step program before choice e after
    → (depth : ℕ) (a : Activation Value) (procedure : ℕ) → slice_get after.activations depth ≡ Some a → a.procedure ≡ Some procedure
    → IsCovered program procedure e

-- An exception that leaves the body of a procedure is one that calls of the procedure may raise (11.4).
abbrev pub RaisesAreCovered : Program → Type 0
RaisesAreCovered program = InEveryRun program
    (λ events last. (procedure : ℕ) (e : Exception) → running_procedure last ≡ Some procedure → EndsBody last → last.mode ≡ Raising e
    → call_raises (effect_at program procedure) (is_same e) ≡ true)
