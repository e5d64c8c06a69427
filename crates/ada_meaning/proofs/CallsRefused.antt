-- What the laws of calls refuse, and what they let pass.

use Rattle.std.proofs.Common.{◌≡◌, ◌≢◌, ◌⊎◌, ℕ, Bool, true, false, List, [], ◌∷◌, ◌++◌, length, take, drop, Some, None, arith, refl, ap, sym, ◌∙◌, inl, inr, subst}
use Rattle.ada_text.specs.declared.spot.Spot.{Spot}
use Rattle.ada_values.specs.declared.value.Value.TheVariants as scalar
use Rattle.ada_program.specs.declared.program.Exception.{Exception}
use Rattle.ada_program.specs.declared.program.TypeDefinition.{TypeDefinition}
use Rattle.ada_program.specs.declared.program.VariableKind.{VariableKind}
use Rattle.ada_program.specs.declared.program.VariableKind.TheVariants as variable
use Rattle.ada_program.specs.Form.{PathForm, RecordPathForm, ActualForm, in_value, in_access, in_out_path, in_out_access, in_out_component, in_out_record, ExpressionForm, nothing, value_of, StmtsForm}
use Rattle.ada_program.specs.ProgramForm.{VariableForm, BodyForm}
use Rattle.ada_parts.specs.Task.{Task, next as task_next}
use Rattle.ada_meaning.specs.declared.state.Id.{Id}
use Rattle.ada_meaning.specs.declared.state.Mode.{Mode}
use Rattle.ada_meaning.specs.declared.state.Mode.TheVariants.{Running, Raising, Exiting, Returning}
use Rattle.ada_meaning.specs.declared.state.Place.{Place}
use Rattle.ada_meaning.specs.declared.state.Value.{Value}
use Rattle.ada_meaning.specs.declared.state.Value.TheVariants.{Names, Scalar, Part}
use Rattle.ada_meaning.specs.Frame.{Treatment, Frame}
use Rattle.ada_meaning.specs.Frame as frame
use Rattle.ada_meaning.specs.State.{Activation}
use Rattle.ada_meaning.specs.Named.{State}
use Rattle.ada_meaning.specs.Calls.{callers_in, waiting, EndsBody, EndsNormally, EndsAbruptly, variable_given, IsGiven, GoBack, none, skips, takes, GetsBack, ComesBack, BeginsCall, BeginsOperation, CallersStay, goes_on, calls_one, operates, ends, breaks_off, EvaluatesActuals, IsOfKind, AreOfKinds, AreGiven, HasBegun, AreStoredIn, HasReturned}
use Rattle.ada_meaning.specs.Ending.{task_calls}
use Rattle.ada_meaning.proofs.CopiedBack.{comes_back}
use Rattle.ada_meaning.proofs.Calls.{values_given, references_given}

-- Callers stay.
abbrev Actives : Type 0
Actives = List (Activation Value)

-- The state with these activations.
abbrev active : Actives → State → State
active xs s = record s { activations = xs }

-- The body of a call with these actual parameters ends next.
abbrev Ending : List ActualForm → State → Type 0
Ending actuals s = (references : List Value) × (outer : List (Frame Value)) × (s.control ≡ frame.Returns actuals references ∷ outer)

-- The activation whose variables are these.
abbrev holding : List Value → Activation Value → Activation Value
holding vs a = record a { places = vs }

-- The first variable is given for the only formal parameter, of mode `in out`.
abbrev to_first : Spot → PathForm
to_first spot = record { root = 0; of_record = false; selectors = []; spot = spot }

abbrev first_given : Spot → List ActualForm
first_given spot = in_out_path (to_first spot) ∷ []

-- A body ends whose formal parameter holds one value; the variable of its caller held another one, and holds a third one behind the call.
abbrev EndsWith : List TypeDefinition → (callee caller : Activation Value) (formal before after : Value) → State → Type 0
EndsWith types a b u v w s = CallersStay types (active (holding (u ∷ []) a ∷ holding (v ∷ []) b ∷ []) s) (active (holding (w ∷ []) b ∷ []) s)

-- A running body that assigns to its variable; one that ends before two others; one whose formal parameter gives back what it holds, or an access value;
-- and one that an exception passes.
assignment_passes :
    {types : List TypeDefinition} (s : State) (a b : Activation Value) (u v : Value) → CallersStay types (active (holding (u ∷ []) a ∷ b ∷ []) s) (active (holding (v ∷ []) a ∷ b ∷ []) s)
assignment_passes s a b u v = goes_on (refl, refl, refl)

end_passes :
    {types : List TypeDefinition} (s : State) (a b c : Activation Value) → s.mode ≡ Running → Ending [] s → CallersStay types (active (a ∷ b ∷ c ∷ []) s) (active (b ∷ c ∷ []) s)
end_passes s a b c runs is = ends (record { actuals = []; references = is.0; outer = is.1; first = is.2 }) (inl runs) (comes_back [] (a ∷ b ∷ c ∷ []))

giving_back_passes :
    {types : List TypeDefinition} (s : State) (a b : Activation Value) (spot : Spot) (u v : Value) → s.mode ≡ Returning → Ending (first_given spot) s → EndsWith types a b u v u s
giving_back_passes s a b spot u v returns is =
    ends (record { actuals = first_given spot; references = is.0; outer = is.1; first = is.2 }) (inr returns)
    (comes_back (first_given spot) (holding (u ∷ []) a ∷ holding (v ∷ []) b ∷ []))

access_back_passes :
    {types : List TypeDefinition} (s : State) (a b : Activation Value) (spot : Spot) (u v : Value) → s.mode ≡ Running → Ending (in_out_access (to_first spot) ∷ []) s → EndsWith types a b u v u s
access_back_passes s a b spot u v runs is =
    ends (record { actuals = in_out_access (to_first spot) ∷ []; references = is.0; outer = is.1; first = is.2 }) (inl runs)
    (comes_back (in_out_access (to_first spot) ∷ []) (holding (u ∷ []) a ∷ holding (v ∷ []) b ∷ []))

raise_passes :
    {types : List TypeDefinition} (s : State) (a b : Activation Value) (actuals : List ActualForm) (u v : Value) (e : Exception) → s.mode ≡ Raising e → Ending actuals s
    → EndsWith types a b u v v s
raise_passes s a b actuals u v e raises is =
    breaks_off (record { actuals = actuals; references = is.0; outer = is.1; first = is.2 }) (subst EndsAbruptly (sym raises) tt) refl

-- So many activations can't be so many others.
unlike : (xs ys : Actives) → length xs ≢ length ys → xs ≡ ys → ⊥
unlike xs ys apart is = apart (ap length is)

head_of : (x y : Activation Value) (xs ys : Actives) → (x ∷ xs) ≡ (y ∷ ys) → x ≡ y
head_of x y xs ys is = cc

-- Two activations dropped at once.
two_dropped_refused : {types : List TypeDefinition} (s : State) (a b c : Activation Value) → CallersStay types (active (a ∷ b ∷ c ∷ []) s) (active (c ∷ []) s) → ⊥
two_dropped_refused s a b c (goes_on runs) = unlike [] (b ∷ c ∷ []) (λ is. absurd (omega (arith, is))) runs.0
two_dropped_refused s a b c (calls_one begins callee called) =
    unlike (c ∷ []) (callee ∷ waiting (a ∷ b ∷ c ∷ [])) (λ is. absurd (omega (arith, is))) called
two_dropped_refused s a b c (operates begins callee called) =
    unlike (c ∷ []) (callee ∷ a ∷ b ∷ c ∷ []) (λ is. absurd (omega (arith, is))) called
two_dropped_refused s a b c (ends body normal back) = unlike [] (c ∷ []) (λ is. absurd (omega (arith, is))) back.0
two_dropped_refused s a b c (breaks_off body abrupt left) = unlike (c ∷ []) (b ∷ c ∷ []) (λ is. absurd (omega (arith, is))) left

-- A caller's variables changed while its callee runs.
caller_changed_refused : {types : List TypeDefinition} (s : State) (a b c : Activation Value) → b ≢ c → CallersStay types (active (a ∷ b ∷ []) s) (active (a ∷ c ∷ []) s) → ⊥
caller_changed_refused s a b c apart (goes_on runs) = apart (sym (head_of c b [] [] runs.0))
caller_changed_refused s a b c apart (calls_one begins callee called) =
    unlike (a ∷ c ∷ []) (callee ∷ waiting (a ∷ b ∷ [])) (λ is. absurd (omega (arith, is))) called
caller_changed_refused s a b c apart (operates begins callee called) =
    unlike (a ∷ c ∷ []) (callee ∷ a ∷ b ∷ []) (λ is. absurd (omega (arith, is))) called
caller_changed_refused s a b c apart (ends body normal back) = unlike (c ∷ []) [] (λ is. absurd (omega (arith, is))) back.0
caller_changed_refused s a b c apart (breaks_off body abrupt left) = unlike (a ∷ c ∷ []) (b ∷ []) (λ is. absurd (omega (arith, is))) left

-- A caller's variables changed where the call begins.
calling_changes_refused :
    {types : List TypeDefinition} (s : State) (a b : Activation Value) (vs : List Value) → vs ≢ a.places
    → CallersStay types (active (a ∷ []) s) (active (b ∷ record a { places = vs; operands = [] } ∷ []) s) → ⊥
calling_changes_refused s a b vs apart (goes_on runs) = unlike (record a { places = vs; operands = [] } ∷ []) [] (λ is. absurd (omega (arith, is))) runs.0
calling_changes_refused s a b vs apart (calls_one begins callee called) =
    let behind : (record a { places = vs; operands = [] } ∷ []) ≡ (record a { operands = [] } ∷ []) = ap callers_in called in
    apart (ap (λ (x : Activation Value). x.places) (head_of (record a { places = vs; operands = [] }) (record a { operands = [] }) [] [] behind))
calling_changes_refused s a b vs apart (operates begins callee called) =
    let behind : (record a { places = vs; operands = [] } ∷ []) ≡ (a ∷ []) = ap callers_in called in
    apart (ap (λ (x : Activation Value). x.places) (head_of (record a { places = vs; operands = [] }) a [] [] behind))
calling_changes_refused s a b vs apart (ends body normal back) =
    unlike (b ∷ record a { places = vs; operands = [] } ∷ []) [] (λ is. absurd (omega (arith, is))) back
calling_changes_refused s a b vs apart (breaks_off body abrupt left) =
    unlike (b ∷ record a { places = vs; operands = [] } ∷ []) [] (λ is. absurd (omega (arith, is))) left

-- An activation that ends anywhere but at the end of its body.
never_ends : (s : State) → s.control ≡ frame.Exits ∷ [] → EndsBody s → ⊥
never_ends s is body = let never : frame.Exits ∷ [] ≡ frame.Returns body.actuals body.references ∷ body.outer = sym is ∙ body.first in absurd (cc)

early_end_refused : {types : List TypeDefinition} (s : State) (a b : Activation Value) → s.control ≡ frame.Exits ∷ [] → CallersStay types (active (a ∷ b ∷ []) s) (active (b ∷ []) s) → ⊥
early_end_refused s a b is (goes_on runs) = unlike [] (b ∷ []) (λ same. absurd (omega (arith, same))) runs.0
early_end_refused s a b is (calls_one begins callee called) = unlike (b ∷ []) (callee ∷ waiting (a ∷ b ∷ [])) (λ same. absurd (omega (arith, same))) called
early_end_refused s a b is (operates begins callee called) = unlike (b ∷ []) (callee ∷ a ∷ b ∷ []) (λ same. absurd (omega (arith, same))) called
early_end_refused s a b is (ends body normal back) = never_ends (active (a ∷ b ∷ []) s) is body
early_end_refused s a b is (breaks_off body abrupt left) = never_ends (active (a ∷ b ∷ []) s) is body

-- An operation of a controlled type is called: what the body that was running has computed waits, too.
operation_passes :
    (types : List TypeDefinition) (s : State) (a b : Activation Value) (v : Value) (treatment : Treatment) (tasks : List Task) (k : List (Frame Value))
    → s.mode ≡ Running → s.control ≡ frame.Treats v treatment tasks ∷ k → task_calls types treatment (task_next tasks) ≡ true
    → CallersStay types (active (a ∷ []) s) (active (b ∷ a ∷ []) s)
operation_passes types s a b v treatment tasks k runs is called =
    operates (record { object = v; treatment = treatment; tasks = tasks; outer = k; runs = runs; first = is; called = called }) b refl

-- One that is called where its type doesn't override it; one that drops what was computed.
no_operation_begins :
    {types : List TypeDefinition} (s : State) (v : Value) (treatment : Treatment) (tasks : List Task) (k : List (Frame Value))
    → s.control ≡ frame.Treats v treatment tasks ∷ k → task_calls types treatment (task_next tasks) ≡ false → BeginsOperation types s → ⊥
no_operation_begins {types} s v treatment tasks k is inherits begins =
    let same : frame.Treats v treatment tasks ∷ k ≡ frame.Treats begins.object begins.treatment begins.tasks ∷ begins.outer = sym is ∙ begins.first in
    let treats : treatment ≡ begins.treatment = cc in
    let left : tasks ≡ begins.tasks = cc in
    let never : false ≡ true =
    sym inherits ∙ ap (λ (t : Treatment). task_calls types t (task_next tasks)) treats
    ∙ ap (λ (ts : List Task). task_calls types begins.treatment (task_next ts)) left ∙ begins.called in
    absurd (cc)

no_call_begins :
    (s : State) (v : Value) (treatment : Treatment) (tasks : List Task) (k : List (Frame Value)) → s.control ≡ frame.Treats v treatment tasks ∷ k
    → BeginsCall s → ⊥
no_call_begins s v treatment tasks k is begins =
    let never : frame.Treats v treatment tasks ∷ k ≡ frame.Calls begins.procedure begins.body begins.actuals ∷ begins.outer = sym is ∙ begins.first in
    absurd (cc)

inherited_call_refused :
    {types : List TypeDefinition} (s : State) (a b : Activation Value) (v : Value) (treatment : Treatment) (tasks : List Task) (k : List (Frame Value))
    → s.control ≡ frame.Treats v treatment tasks ∷ k → task_calls types treatment (task_next tasks) ≡ false
    → CallersStay types (active (a ∷ []) s) (active (b ∷ a ∷ []) s) → ⊥
inherited_call_refused s a b v treatment tasks k is inherits (goes_on runs) = unlike (a ∷ []) [] (λ same. absurd (omega (arith, same))) runs.0
inherited_call_refused s a b v treatment tasks k is inherits (calls_one begins callee called) =
    no_call_begins (active (a ∷ []) s) v treatment tasks k is begins
inherited_call_refused s a b v treatment tasks k is inherits (operates begins callee called) =
    no_operation_begins (active (a ∷ []) s) v treatment tasks k is inherits begins
inherited_call_refused s a b v treatment tasks k is inherits (ends body normal back) = unlike (b ∷ a ∷ []) [] (λ same. absurd (omega (arith, same))) back
inherited_call_refused s a b v treatment tasks k is inherits (breaks_off body abrupt left) =
    unlike (b ∷ a ∷ []) [] (λ same. absurd (omega (arith, same))) left

dropped_operands_refused :
    {types : List TypeDefinition} (s : State) (a b : Activation Value) (v : Value) (treatment : Treatment) (tasks : List Task) (k : List (Frame Value))
    → s.control ≡ frame.Treats v treatment tasks ∷ k → a.operands ≢ []
    → CallersStay types (active (a ∷ []) s) (active (b ∷ record a { operands = [] } ∷ []) s) → ⊥
dropped_operands_refused s a b v treatment tasks k is some (goes_on runs) =
    unlike (record a { operands = [] } ∷ []) [] (λ same. absurd (omega (arith, same))) runs.0
dropped_operands_refused s a b v treatment tasks k is some (calls_one begins callee called) =
    no_call_begins (active (a ∷ []) s) v treatment tasks k is begins
dropped_operands_refused s a b v treatment tasks k is some (operates begins callee called) =
    let behind : (record a { operands = [] } ∷ []) ≡ (a ∷ []) = ap callers_in called in
    some (sym (ap (λ (x : Activation Value). x.operands) (head_of (record a { operands = [] }) a [] [] behind)))
dropped_operands_refused s a b v treatment tasks k is some (ends body normal back) =
    unlike (b ∷ record a { operands = [] } ∷ []) [] (λ same. absurd (omega (arith, same))) back
dropped_operands_refused s a b v treatment tasks k is some (breaks_off body abrupt left) =
    unlike (b ∷ record a { operands = [] } ∷ []) [] (λ same. absurd (omega (arith, same))) left

-- Where a body ends normally, its caller gets back what it is to get, and nothing else can have happened.
apart_modes : (mode : Mode) → EndsNormally mode → EndsAbruptly mode → ⊥
apart_modes Running normal abrupt = abrupt
apart_modes (Raising e) (inl is) abrupt = absurd (cc)
apart_modes (Raising e) (inr is) abrupt = absurd (cc)
apart_modes Exiting (inl is) abrupt = absurd (cc)
apart_modes Exiting (inr is) abrupt = absurd (cc)
apart_modes Returning normal abrupt = abrupt

same_actuals :
    (k outer behind : List (Frame Value)) (actuals given : List ActualForm) (references others : List Value) → k ≡ frame.Returns actuals references ∷ outer
    → k ≡ frame.Returns given others ∷ behind → actuals ≡ given
same_actuals k outer behind actuals given references others is also = cc

returned_to :
    {types : List TypeDefinition} (s : State) (callee caller later : Activation Value) (actuals : List ActualForm) → EndsNormally s.mode → Ending actuals s
    → CallersStay types (active (callee ∷ caller ∷ []) s) (active (later ∷ []) s) → GetsBack actuals callee caller later
returned_to s callee caller later actuals normal is (goes_on runs) = absurd (unlike [] (caller ∷ []) (λ same. absurd (omega (arith, same))) runs.0)
returned_to s callee caller later actuals normal is (calls_one begins one called) =
    absurd (unlike (later ∷ []) (one ∷ waiting (callee ∷ caller ∷ [])) (λ same. absurd (omega (arith, same))) called)
returned_to s callee caller later actuals normal is (operates begins one called) =
    absurd (unlike (later ∷ []) (one ∷ callee ∷ caller ∷ []) (λ same. absurd (omega (arith, same))) called)
returned_to s callee caller later actuals normal is (ends body also back) =
    subst (λ (given : List ActualForm). GetsBack given callee caller later)
    (same_actuals s.control body.outer is.1 body.actuals actuals body.references is.0 body.first is.2) back.1
returned_to s callee caller later actuals normal is (breaks_off body abrupt left) = absurd (apart_modes s.mode normal abrupt)

one_of : (u v : Value) → Some u ≡ Some v → u ≡ v
one_of u v is = cc

-- A return that gives nothing back: neither an Integer or a Boolean, nor an access value.
nothing_given :
    (a b : Activation Value) (given : ActualForm) (u v : Value) → u ≢ v → variable_given given ≡ Some 0
    → GetsBack (given ∷ []) (holding (u ∷ []) a) (holding (v ∷ []) b) (holding (v ∷ []) b) → ⊥
nothing_given a b given u v apart gives got = apart (sym (one_of v u (got.back [] [] given 0 u refl gives (λ never. never) refl (omega arith))))

forgotten_refused :
    {types : List TypeDefinition} (s : State) (a b : Activation Value) (given : ActualForm) (u v : Value) → u ≢ v → variable_given given ≡ Some 0 → EndsNormally s.mode
    → Ending (given ∷ []) s → EndsWith types a b u v v s → ⊥
forgotten_refused s a b given u v apart gives normal is ended =
    nothing_given a b given u v apart gives (returned_to s (holding (u ∷ []) a) (holding (v ∷ []) b) (holding (v ∷ []) b) (given ∷ []) normal is ended)

nothing_back_refused :
    {types : List TypeDefinition} (s : State) (a b : Activation Value) (spot : Spot) (u v : Value) → u ≢ v → EndsNormally s.mode → Ending (first_given spot) s → EndsWith types a b u v v s → ⊥
nothing_back_refused s a b spot u v apart = forgotten_refused s a b (in_out_path (to_first spot)) u v apart refl

no_access_back_refused :
    {types : List TypeDefinition} (s : State) (a b : Activation Value) (spot : Spot) (u v : Value) → u ≢ v → EndsNormally s.mode → Ending (in_out_access (to_first spot) ∷ []) s
    → EndsWith types a b u v v s → ⊥
no_access_back_refused s a b spot u v apart = forgotten_refused s a b (in_out_access (to_first spot)) u v apart refl

-- A formal parameter of mode `in` that gives back what it holds: the value of an expression, or an access value, though the first variable names it.
gives_none : (given : ActualForm) (x : ℕ) → variable_given given ≡ None → IsGiven x (given ∷ []) → ⊥
gives_none given x constant (inl is) = absurd (cc)
gives_none given x constant (inr never) = never

constant_back_refused :
    {types : List TypeDefinition} (s : State) (a b : Activation Value) (given : ActualForm) (u v : Value) → u ≢ v → variable_given given ≡ None → EndsNormally s.mode
    → Ending (given ∷ []) s → EndsWith types a b u v u s → ⊥
constant_back_refused s a b given u v apart constant normal is ended =
    let got = returned_to s (holding (u ∷ []) a) (holding (v ∷ []) b) (holding (u ∷ []) b) (given ∷ []) normal is ended in
    apart (one_of u v (got.others 0 (gives_none given 0 constant)))

value_back_refused :
    {types : List TypeDefinition} (s : State) (a b : Activation Value) (e : ExpressionForm) (u v : Value) → u ≢ v → EndsNormally s.mode → Ending (in_value e ∷ []) s
    → EndsWith types a b u v u s → ⊥
value_back_refused s a b e u v apart = constant_back_refused s a b (in_value e) u v apart refl

access_back_refused :
    {types : List TypeDefinition} (s : State) (a b : Activation Value) (spot : Spot) (u v : Value) → u ≢ v → EndsNormally s.mode → Ending (in_access (to_first spot) ∷ []) s
    → EndsWith types a b u v u s → ⊥
access_back_refused s a b spot u v apart = constant_back_refused s a b (in_access (to_first spot)) u v apart refl

-- A component that is given: what the formal parameter holds goes to the newest operand, and not to a variable.
component_back_passes :
    {types : List TypeDefinition} (s : State) (a b : Activation Value) (path : PathForm) (u : Value) → s.mode ≡ Returning → Ending (in_out_component path ∷ []) s
    → CallersStay types (active (holding (u ∷ []) a ∷ b ∷ []) s) (active (record b { operands = u ∷ b.operands } ∷ []) s)
component_back_passes s a b path u returns is =
    ends (record { actuals = in_out_component path ∷ []; references = is.0; outer = is.1; first = is.2 }) (inr returns)
    (comes_back (in_out_component path ∷ []) (holding (u ∷ []) a ∷ b ∷ []))

component_variable_refused :
    {types : List TypeDefinition} (s : State) (a b : Activation Value) (path : PathForm) (u v : Value) → u ≢ v → EndsNormally s.mode → Ending (in_out_component path ∷ []) s
    → EndsWith types a b u v u s → ⊥
component_variable_refused s a b path u v apart = constant_back_refused s a b (in_out_component path) u v apart refl

-- What goes back to one component, to two, and to none.
one_goes : (path : PathForm) (u : Value) (given_back : List Value) → GoBack (in_out_component path ∷ []) (u ∷ []) given_back → given_back ≡ u ∷ []
one_goes path u given_back (skips apart none) = absurd (apart tt)
one_goes path u given_back (takes is none) = refl

two_go :
    (path other : PathForm) (u v : Value) (given_back : List Value) → GoBack (in_out_component path ∷ in_out_component other ∷ []) (u ∷ v ∷ []) given_back
    → given_back ≡ u ∷ v ∷ []
two_go path other u v given_back (skips apart back) = absurd (apart tt)
two_go path other u v given_back (takes is (skips apart none)) = absurd (apart tt)
two_go path other u v given_back (takes is (takes also none)) = refl

none_goes : (p : RecordPathForm) (u : Value) (given_back : List Value) → GoBack (in_out_record p ∷ []) (u ∷ []) given_back → given_back ≡ []
none_goes p u given_back (skips apart none) = refl
none_goes p u given_back (takes is none) = absurd is

module _ (types : List TypeDefinition) (s : State) (a b : Activation Value) where
  -- The caller has these operands more than before.
  abbrev GoesOnWith : (formals more : List Value) → Type 0
  GoesOnWith vs us = CallersStay types (active (holding vs a ∷ b ∷ []) s) (active (record b { operands = us ++ b.operands } ∷ []) s)

  back_with :
      (actuals : List ActualForm) (vs us : List Value) → EndsNormally s.mode → Ending actuals s → GoesOnWith vs us
      → GetsBack actuals (holding vs a) b (record b { operands = us ++ b.operands })
  back_with actuals vs us normal is stays = returned_to s (holding vs a) b (record b { operands = us ++ b.operands }) actuals normal is stays

  -- A return that gives nothing back to a component.
  no_component_back_refused : (path : PathForm) (u : Value) → EndsNormally s.mode → Ending (in_out_component path ∷ []) s → GoesOnWith (u ∷ []) [] → ⊥
  no_component_back_refused path u normal is stays =
      let got = (back_with (in_out_component path ∷ []) (u ∷ []) [] normal is stays).operands in
      let more : b.operands ≡ u ∷ b.operands = got.2 ∙ ap (λ (us : List Value). us ++ b.operands) (one_goes path u got.0 got.1) in
      let long : length b.operands ≡ length (u ∷ b.operands) = ap length more in
      absurd (omega (arith, long))

  -- What goes back to two components, in reverse order.
  swapped_back_refused :
      (path other : PathForm) (u v : Value) → u ≢ v → EndsNormally s.mode → Ending (in_out_component path ∷ in_out_component other ∷ []) s
      → GoesOnWith (u ∷ v ∷ []) (v ∷ u ∷ []) → ⊥
  swapped_back_refused path other u v apart normal is stays =
      let got = (back_with (in_out_component path ∷ in_out_component other ∷ []) (u ∷ v ∷ []) (v ∷ u ∷ []) normal is stays).operands in
      let other_order : v ∷ u ∷ b.operands ≡ u ∷ v ∷ b.operands = got.2 ∙ ap (λ (us : List Value). us ++ b.operands) (two_go path other u v got.0 got.1) in
      apart (cc)

  -- A record that gives back what refers to it, as if it were a value.
  record_back_refused : (p : RecordPathForm) (u : Value) → EndsNormally s.mode → Ending (in_out_record p ∷ []) s → GoesOnWith (u ∷ []) (u ∷ []) → ⊥
  record_back_refused p u normal is stays =
      let got = (back_with (in_out_record p ∷ []) (u ∷ []) (u ∷ []) normal is stays).operands in
      let more : u ∷ b.operands ≡ b.operands = got.2 ∙ ap (λ (us : List Value). us ++ b.operands) (none_goes p u got.0 got.1) in
      let long : length (u ∷ b.operands) ≡ length b.operands = ap length more in
      absurd (omega (arith, long))

-- Two that stand for one variable, of which the first gives back last.
first_back_refused :
    {types : List TypeDefinition} (s : State) (a b : Activation Value) (spot : Spot) (u v w : Value) → u ≢ v → EndsNormally s.mode
    → Ending (in_out_path (to_first spot) ∷ first_given spot) s
    → CallersStay types (active (holding (u ∷ v ∷ []) a ∷ holding (w ∷ []) b ∷ []) s) (active (holding (u ∷ []) b ∷ []) s) → ⊥
first_back_refused s a b spot u v w apart normal is ended =
    let both : List ActualForm = in_out_path (to_first spot) ∷ first_given spot in
    let got = returned_to s (holding (u ∷ v ∷ []) a) (holding (w ∷ []) b) (holding (u ∷ []) b) both normal is ended in
    apart (one_of u v (got.back (first_given spot) [] (in_out_path (to_first spot)) 0 v refl refl (λ never. never) refl (omega arith)))

-- An exception that passes the body, and gives something back.
first_held : (b : Activation Value) (u v : Value) → (holding (u ∷ []) b ∷ []) ≡ (holding (v ∷ []) b ∷ []) → u ≡ v
first_held b u v is =
    let places : (u ∷ []) ≡ (v ∷ []) = ap (λ (x : Activation Value). x.places) (head_of (holding (u ∷ []) b) (holding (v ∷ []) b) [] [] is) in cc

raise_gives_refused : {types : List TypeDefinition} (s : State) (a b : Activation Value) (u v : Value) (e : Exception) → u ≢ v → s.mode ≡ Raising e → EndsWith types a b u v u s → ⊥
raise_gives_refused s a b u v e apart raises (goes_on runs) = unlike [] (holding (v ∷ []) b ∷ []) (λ same. absurd (omega (arith, same))) runs.0
raise_gives_refused s a b u v e apart raises (calls_one begins callee called) =
    unlike (holding (u ∷ []) b ∷ []) (callee ∷ waiting (holding (u ∷ []) a ∷ holding (v ∷ []) b ∷ [])) (λ same. absurd (omega (arith, same))) called
raise_gives_refused s a b u v e apart raises (operates begins callee called) =
    unlike (holding (u ∷ []) b ∷ []) (callee ∷ holding (u ∷ []) a ∷ holding (v ∷ []) b ∷ []) (λ same. absurd (omega (arith, same))) called
raise_gives_refused s a b u v e apart raises (ends body normal back) = apart_modes s.mode normal (subst EndsAbruptly (sym raises) tt)
raise_gives_refused s a b u v e apart raises (breaks_off body abrupt left) = apart (first_held b u v left)

-- Calls evaluate: null is not evaluated in place of the access value that a variable is to hand over.
module _ (path : PathForm) (body : BodyForm) (later : StmtsForm) (outer : List (Frame Value)) (before after : State) where
  null_evaluated_refused :
      after.control ≡ frame.Evaluates nothing ∷ frame.Calls 0 body (in_out_access path ∷ []) ∷ frame.Does later ∷ outer
      → EvaluatesActuals 0 (in_out_access path ∷ []) body later outer before after → ⊥
  null_evaluated_refused is evaluates =
      let never :
      frame.Evaluates nothing ∷ frame.Calls 0 body (in_out_access path ∷ []) ∷ frame.Does later ∷ outer
      ≡ frame.Evaluates (value_of path) ∷ frame.Calls 0 body (in_out_access path ∷ []) ∷ frame.Does later ∷ outer =
      sym is ∙ evaluates.control in
      absurd (cc)

-- Actuals arrive: a callee whose places are these has begun.
abbrev Given : BodyForm → List Value → List Value → State → State → Type 0
Given body actuals vs before after =
    (given : List ActualForm) × (references : List Value)
    × (begun : HasBegun 0 body given actuals references (record { procedure = None; places = []; operands = [] }) [] [] before after)
    × (begun.callee.places ≡ vs)

first_of_two : (t u v w : Value) → (t ∷ u ∷ []) ≡ (v ∷ w ∷ []) → t ≡ v
first_of_two t u v w is = cc

-- In reverse order.
reverse_refused :
    (body : BodyForm) (u v : Value) (behind : List Value) (before after : State) → u ≢ v → Given body (u ∷ v ∷ []) (v ∷ u ∷ behind) before after → ⊥
reverse_refused body u v behind before after apart given = apart (sym (first_of_two v u u v (ap (take 2) (sym given.3) ∙ given.2.formals)))

-- In the last places, behind the body's own variables.
last_places_refused : (body : BodyForm) (u v w : Value) (before after : State) → w ≢ u → Given body (u ∷ v ∷ []) (w ∷ u ∷ v ∷ []) before after → ⊥
last_places_refused body u v w before after apart given = apart (first_of_two w u u v (ap (take 2) (sym given.3) ∙ given.2.formals))

-- An access value that a variable hands over for a formal parameter of mode `in out` arrives there: the callee doesn't begin with another one.
module _ (body : BodyForm) (path : PathForm) (caller : Activation Value) (u v : Value) (behind : List Value) (before after : State) where
  abbrev HandsOver : Type 0
  HandsOver = HasBegun 0 body (in_out_access path ∷ []) (u ∷ []) [] caller [] [] before after

  first_of_one : (u ∷ []) ≡ (v ∷ []) → u ≡ v
  first_of_one is = cc

  other_access_refused : u ≢ v → (begun : HandsOver) → begun.callee.places ≡ v ∷ behind → ⊥
  other_access_refused apart begun holds = apart (first_of_one (sym begun.formals ∙ ap (take 1) holds))

-- Of a component the value arrives, and not what refers to it.
reference_given_refused :
    (path : PathForm) (r v : Value) (references : List Value) → r ≢ v → AreGiven (in_out_component path ∷ []) (r ∷ v ∷ []) (r ∷ []) references
    → ⊥
reference_given_refused path r v references apart are =
    let given : v ∷ [] ≡ r ∷ [] = values_given (in_out_component path ∷ []) (r ∷ v ∷ []) (r ∷ []) references are in
    apart (cc)

-- And what refers to it is kept, and not its value.
value_kept_refused : (path : PathForm) (r v : Value) (formals : List Value) → r ≢ v → AreGiven (in_out_component path ∷ []) (r ∷ v ∷ []) formals (v ∷ []) → ⊥
value_kept_refused path r v formals apart are =
    let kept : r ∷ [] ≡ v ∷ [] = references_given (in_out_component path ∷ []) (r ∷ v ∷ []) formals (v ∷ []) are in
    apart (cc)

of_kinds_of :
    (n : ℕ) (xs ys : List VariableForm) (us vs : List Value) → xs ≡ ys → us ≡ vs → AreOfKinds (drop n xs) (drop n us) → AreOfKinds (drop n ys) (drop n vs)
of_kinds_of n xs ys us vs is same held =
    subst (λ (zs : List VariableForm). AreOfKinds (drop n zs) (drop n vs)) is (subst (λ (ws : List Value). AreOfKinds (drop n xs) (drop n ws)) same held)

-- With no place for a variable of the body's own, or with a place too many, or with a Boolean in that of an Integer.
no_place_refused : (body : BodyForm) (x : VariableForm) (before after : State) → body.variables ≡ x ∷ [] → Given body [] [] before after → ⊥
no_place_refused body x before after is given =
    of_kinds_of 0 body.variables (x ∷ []) given.2.callee.places [] is given.3 given.2.others

place_too_many_refused : (body : BodyForm) (u v : Value) (before after : State) → body.variables ≡ [] → Given body (u ∷ []) (u ∷ v ∷ []) before after → ⊥
place_too_many_refused body u v before after is given =
    of_kinds_of 1 body.variables [] given.2.callee.places (u ∷ v ∷ []) is given.3 given.2.others

other_kind_refused :
    (body : BodyForm) (x : VariableForm) (b : Bool) (before after : State) → body.variables ≡ x ∷ [] → x.kind ≡ variable.Integer
    → Given body [] (Scalar (scalar.Boolean b) ∷ []) before after → ⊥
other_kind_refused body x b before after is kind given =
    let others : AreOfKinds (x ∷ []) (Scalar (scalar.Boolean b) ∷ []) =
    of_kinds_of 0 body.variables (x ∷ []) given.2.callee.places (Scalar (scalar.Boolean b) ∷ []) is given.3 given.2.others in
    let held : IsOfKind variable.Integer (Scalar (scalar.Boolean b)) = subst (λ (k : VariableKind). IsOfKind k (Scalar (scalar.Boolean b))) kind others.0 in
    let never : Scalar (scalar.Boolean b) ≡ Scalar (scalar.Integer held.0) = held.1 in
    absurd (cc)

-- Callers resume: not a return that goes on in its caller, nor an exception that is lost there, nor a caller that is passed.
passing_return_refused :
    (actuals : List ActualForm) (references : List Value) (callee : Activation Value) (callers : Actives) (outer : List (Frame Value)) (before after : State)
    → before.mode ≡ Returning → after.mode ≡ Returning → HasReturned actuals references callee callers outer before after → ⊥
passing_return_refused actuals references callee callers outer before after returns still returned =
    let never : Returning ≡ Running = sym still ∙ returned.runs (inr returns) in absurd (cc)

lost_exception_refused :
    (actuals : List ActualForm) (references : List Value) (callee : Activation Value) (callers : Actives) (outer : List (Frame Value)) (e : Exception)
    (before after : State)
    → before.mode ≡ Raising e → after.mode ≡ Running → HasReturned actuals references callee callers outer before after → ⊥
lost_exception_refused actuals references callee callers outer e before after raises runs returned =
    let never : Running ≡ Raising e = sym runs ∙ returned.raises e raises in absurd (cc)

either_end : (mode : Mode) → EndsNormally mode ⊎ EndsAbruptly mode
either_end Running = inl (inl refl)
either_end (Raising e) = inr tt
either_end Exiting = inr tt
either_end Returning = inl (inr refl)

module _ (actuals : List ActualForm) (references : List Value) (callee b c : Activation Value) (outer : List (Frame Value)) (before after : State) where
  passed_by :
      after.activations ≡ c ∷ [] → HasReturned actuals references callee (b ∷ c ∷ []) outer before after
      → EndsNormally before.mode ⊎ EndsAbruptly before.mode → ⊥
  passed_by left returned (inl normal) =
      let back : ComesBack actuals (callee ∷ b ∷ c ∷ []) (c ∷ []) = subst (ComesBack actuals (callee ∷ b ∷ c ∷ [])) left (returned.gets_back normal) in
      unlike [] (c ∷ []) (λ is. absurd (omega (arith, is))) back.0
  passed_by left returned (inr abrupt) = unlike (c ∷ []) (b ∷ c ∷ []) (λ is. absurd (omega (arith, is))) (sym left ∙ returned.holds_on abrupt)

  passed_caller_refused : after.activations ≡ c ∷ [] → HasReturned actuals references callee (b ∷ c ∷ []) outer before after → ⊥
  passed_caller_refused left returned = passed_by left returned (either_end before.mode)

-- Nor a return that gives nothing back, nor an exception that gives something back.
module _ (a b : Activation Value) (spot : Spot) (u v : Value) (outer : List (Frame Value)) (before after : State) where
  abbrev HasReturnedOne : Type 0
  HasReturnedOne = HasReturned (first_given spot) [] (holding (u ∷ []) a) (holding (v ∷ []) b ∷ []) outer before after

  lost_value_refused : u ≢ v → before.mode ≡ Returning → after.activations ≡ holding (v ∷ []) b ∷ [] → HasReturnedOne → ⊥
  lost_value_refused apart returns left returned =
      let back = subst (ComesBack (first_given spot) (holding (u ∷ []) a ∷ holding (v ∷ []) b ∷ [])) left (returned.gets_back (inr returns)) in
      nothing_given a b (in_out_path (to_first spot)) u v apart refl back.1

  raised_value_refused : (e : Exception) → u ≢ v → before.mode ≡ Raising e → after.activations ≡ holding (u ∷ []) b ∷ [] → HasReturnedOne → ⊥
  raised_value_refused e apart raises left returned =
      apart (first_held b u v (sym left ∙ returned.holds_on (subst EndsAbruptly (sym raises) tt)))

-- Where the body ends normally, a component that is given gets something back at the place that was named before the call.
module _ (o : Id) (place : Place) (rs : List Value) where
  stored_first :
      (frames : List (Frame Value)) → AreStoredIn (Part o place ∷ rs) frames
      → (later : List (Frame Value)) × (frames ≡ frame.StoresIn (Names o) place.component ∷ later) × AreStoredIn rs later
  stored_first [] are = absurd are
  stored_first (f ∷ later) are = (later, ap (λ (g : Frame Value). g ∷ later) (are.0 o place refl), are.1)

none_stored : (frames : List (Frame Value)) → AreStoredIn [] frames → frames ≡ []
none_stored [] are = refl
none_stored (f ∷ later) are = absurd are

module _ (path : PathForm) (callee : Activation Value) (callers : Actives) (o : Id) (place : Place) (outer : List (Frame Value)) (before after : State) where
  abbrev HasStoredOne : Type 0
  HasStoredOne = HasReturned (in_out_component path ∷ []) (Part o place ∷ []) callee callers outer before after

  stores_one : EndsNormally before.mode → HasStoredOne → after.control ≡ frame.StoresIn (Names o) place.component ∷ outer
  stores_one normal returned =
      let stores = returned.stores normal in
      let one = stored_first o place [] stores.0 stores.1 in
      let only = ap (λ (fs : List (Frame Value)). frame.StoresIn (Names o) place.component ∷ fs) (none_stored one.0 one.2) in
      stores.2 ∙ ap (λ (fs : List (Frame Value)). fs ++ outer) (one.1 ∙ only)

  -- Not a return that stores nothing.
  nothing_stored_refused : EndsNormally before.mode → after.control ≡ outer → HasStoredOne → ⊥
  nothing_stored_refused normal left returned =
      let more : outer ≡ frame.StoresIn (Names o) place.component ∷ outer = sym left ∙ stores_one normal returned in
      let long : length outer ≡ length (frame.StoresIn (Names o) place.component ∷ outer) = ap length more in
      absurd (omega (arith, long))

  -- Nor one that stores in another object, or in another component.
  other_object_refused : (p : Id) → p ≢ o → EndsNormally before.mode → after.control ≡ frame.StoresIn (Names p) place.component ∷ outer → HasStoredOne → ⊥
  other_object_refused p apart normal left returned =
      let same : frame.StoresIn (Names p) place.component ∷ outer ≡ frame.StoresIn (Names o) place.component ∷ outer = sym left ∙ stores_one normal returned in
      apart (cc)

  other_component_refused : (d : ℕ) → d ≢ place.component → EndsNormally before.mode → after.control ≡ frame.StoresIn (Names o) d ∷ outer → HasStoredOne → ⊥
  other_component_refused d apart normal left returned =
      let same : frame.StoresIn (Names o) d ∷ outer ≡ frame.StoresIn (Names o) place.component ∷ outer = sym left ∙ stores_one normal returned in
      apart (cc)

  -- Nor one that evaluates the path once more.
  path_again_refused : (later : List (Frame Value)) → EndsNormally before.mode → after.control ≡ frame.Opens path ∷ later → HasStoredOne → ⊥
  path_again_refused later normal left returned =
      let never : frame.Opens path ∷ later ≡ frame.StoresIn (Names o) place.component ∷ outer = sym left ∙ stores_one normal returned in
      absurd (cc)

  -- Nor an exception that stores something.
  raised_store_refused : (e : Exception) → before.mode ≡ Raising e → after.control ≡ frame.StoresIn (Names o) place.component ∷ outer → HasStoredOne → ⊥
  raised_store_refused e raises left returned =
      let more : frame.StoresIn (Names o) place.component ∷ outer ≡ outer = sym left ∙ returned.passes (subst EndsAbruptly (sym raises) tt) in
      let long : length (frame.StoresIn (Names o) place.component ∷ outer) ≡ length outer = ap length more in
      absurd (omega (arith, long))

-- Two components that get something back in reverse order.
module _ (path other : PathForm) (callee : Activation Value) (callers : Actives) (o : Id) (place another : Place) (outer : List (Frame Value)) (before after : State) where
  reverse_stores_refused :
      place.component ≢ another.component → EndsNormally before.mode → after.control ≡ frame.StoresIn (Names o) another.component ∷ frame.StoresIn (Names o) place.component ∷ outer
      → HasReturned (in_out_component path ∷ in_out_component other ∷ []) (Part o place ∷ Part o another ∷ []) callee callers outer before after → ⊥
  reverse_stores_refused apart normal left returned =
      let stores = returned.stores normal in
      let one = stored_first o place (Part o another ∷ []) stores.0 stores.1 in
      let first : frame.StoresIn (Names o) another.component ∷ frame.StoresIn (Names o) place.component ∷ outer ≡ frame.StoresIn (Names o) place.component ∷ one.0 ++ outer =
      sym left ∙ stores.2 ∙ ap (λ (fs : List (Frame Value)). fs ++ outer) one.1 in
      apart (cc)
