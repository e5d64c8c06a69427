-- Activations with the places of all of them behind one another.

use Rattle.std.proofs.Common.{◌≡◌, ◌⊎◌, inl, inr, Bool, ℕ, ◌+◌, ◌-◌, ◌≤◌, List, [], ◌∷◌, ◌++◌, drop, take, length, map, Some, None, Result, Ok, Err, OnOk, OnErr, zero, suc, refl, sym, ap, ◌∙◌, append_assoc, arith}
use Rattle.std.specs.List.{slice_get}
use Rattle.std.proofs.lemmas.List.{length-append}
use Rattle.ada_program.specs.declared.program.Actual.{Actual}
use Rattle.ada_program.specs.declared.program.Variable.{Variable}
use Rattle.ada_program.specs.Form.{ActualForm, in_value, in_null, in_access, in_record, in_out_path, in_out_access, in_out_component, in_out_record, actual_form}
use Rattle.ada_program.specs.ProgramForm.{variable_form}
use Rattle.ada_meaning.specs.declared.state.Value.{Value}
use Rattle.ada_meaning.specs.Step.{blanks, given_places, copied_back, older, places_of, operands_of, with_places, with_operands}
use Rattle.ada_meaning.specs.Named.{named}
use Rattle.ada_interpreter.specs.declared.activations.Begun.{Begun}
use Rattle.ada_interpreter.specs.Activations.{activations_of, kept_by, waiting_behind, AreAwaited}

-- fewer operands are awaited where more were
pub awaited_after : {X E : Type 0} (left : List Value → List Value) (begun : List Begun) (before after : List Value) (r : Result X E) → left [] ≡ [] → OnOk r (after ≡ left before) → OnErr r (after ≡ before) → AreAwaited begun before → AreAwaited begun after
awaited_after left [] before after (Ok x) none ok err is = ok ∙ ap left is ∙ none
awaited_after left [] before after (Err e) none ok err is = err ∙ is
awaited_after left (b ∷ bs) before after r none ok err is = tt

-- blanks of the variables from a number on
drop_blanks : (n : ℕ) (variables : List Variable) → blanks named (map variable_form (drop n variables)) ≡ drop n (blanks named (map variable_form variables))
drop_blanks zero variables = refl
drop_blanks (suc n) [] = refl
drop_blanks (suc n) (x ∷ xs) = drop_blanks n xs

-- actual parameters, and blanks behind them
pub laid : {X E : Type 0} (before with_actuals after actuals : List Value) (variables behind : List Variable) (r : Result X E) → with_actuals ≡ before ++ actuals → behind ≡ drop (length actuals) variables → OnOk r (after ≡ with_actuals ++ blanks named (map variable_form behind)) → OnOk r (after ≡ before ++ given_places named actuals (map variable_form variables))
laid before with_actuals after actuals variables behind (Err e) first rest is = tt
laid before with_actuals after actuals variables behind (Ok x) first rest is =
    is ∙ rw (first, rest, drop_blanks (length actuals) variables) (append_assoc before actuals (drop (length actuals) (blanks named (map variable_form variables))))

-- where there are no formal parameters, or no variables, nothing is given back
pub none_gives : (actuals : List ActualForm) (places : List Value) → copied_back actuals [] places ≡ places
none_gives [] places = refl
none_gives (a ∷ rest) places = refl

pub none_gets : (actuals : List ActualForm) (formals : List Value) → copied_back actuals formals [] ≡ []
none_gets [] formals = refl
none_gets (a ∷ rest) [] = refl
none_gets (in_value e ∷ rest) (v ∷ vs) = none_gets rest vs
none_gets (in_null ∷ rest) (v ∷ vs) = none_gets rest vs
none_gets (in_access path ∷ rest) (v ∷ vs) = none_gets rest vs
none_gets (in_record p ∷ rest) (v ∷ vs) = none_gets rest vs
none_gets (in_out_path path ∷ rest) (v ∷ vs) = none_gets rest vs
none_gets (in_out_access path ∷ rest) (v ∷ vs) = none_gets rest vs
none_gets (in_out_component path ∷ rest) (v ∷ vs) = none_gets rest vs
none_gets (in_out_record p ∷ rest) (v ∷ vs) = none_gets rest vs

-- nor where nothing is left of the actual parameters or of the formal ones
pub no_more_gives : (actuals : List Actual) (formals places : List Value) → (actuals ≡ []) ⊎ (formals ≡ []) → places ≡ copied_back (map actual_form actuals) formals places
no_more_gives actuals formals places (inl none) = rw none refl
no_more_gives actuals formals places (inr none) = rw none (sym (none_gives (map actual_form actuals) places))

-- the caller of the running activation gets back what its places get
pub caller_gets : (begun : List Begun) (places later operands : List Value) (waiting : List (List Value)) (running caller : Begun) (actuals : List ActualForm) → Some running ≡ slice_get begun 0 → Some caller ≡ slice_get begun 1 → drop caller.base (take running.base later) ≡ copied_back actuals (drop running.base places) (drop caller.base (take running.base places)) → take caller.base (take running.base later) ≡ take caller.base (take running.base places) → older (activations_of begun later operands waiting) ≡ with_places (copied_back actuals (places_of (activations_of begun places operands waiting)) (places_of (older (activations_of begun places operands waiting)))) (older (activations_of begun places operands waiting))
caller_gets [] places later operands waiting running caller actuals first second given before = refl
caller_gets (b ∷ []) places later operands waiting running caller actuals first second given before = refl
caller_gets (b ∷ c ∷ bs) places later operands waiting running caller actuals first second given before =
    grind (arith, first, second, given, before)

-- where none waits for the running activation, none gets anything
pub no_caller : (begun : List Begun) (places operands gets : List Value) (waiting : List (List Value)) → None ≡ slice_get begun 1 → older (activations_of begun places operands waiting) ≡ with_places gets (older (activations_of begun places operands waiting))
no_caller [] places operands gets waiting none = refl
no_caller (b ∷ []) places operands gets waiting none = refl
no_caller (b ∷ c ∷ bs) places operands gets waiting none = grind (arith, none)

-- the running activation keeps what its places keep
pub running_keeps : (begun : List Begun) (places later operands : List Value) (waiting : List (List Value)) (running : Begun) → Some running ≡ slice_get begun 0 → drop running.base later ≡ drop running.base places → places_of (activations_of begun later operands waiting) ≡ places_of (activations_of begun places operands waiting)
running_keeps [] places later operands waiting running first kept = refl
running_keeps (b ∷ bs) places later operands waiting running first kept = grind (arith, first, kept)

-- how many places were laid behind others
pub count_laid : (before after values : List Value) (n m : ℕ) → after ≡ before ++ values → n ≡ length after → m ≡ length before → n - m ≡ length values
count_laid before after values n m is all base =
    let size : length after ≡ length before + length values = ap (λ (xs : List Value). length xs) is ∙ length-append before values in
    omega (arith, all, base, size)

-- where the running activation ends, its caller goes on with what is put onto the operands that it keeps
pub ended : (back : List Value → List Value) (begun : List Begun) (places before after : List Value) (waiting left : List (List Value)) (keeps : Bool) (running : Begun)
    → Some running ≡ slice_get begun 0 → left ≡ waiting_behind keeps waiting
    → (length begun ≤ 1) ⊎ ((keeps ≡ running.keeps) × (after ≡ back (drop running.base places) ++ kept_by keeps waiting))
    → activations_of (older begun) (take running.base places) after left
    ≡ with_operands (back (places_of (activations_of begun places before waiting)) ++ operands_of (older (activations_of begun places before waiting)))
    (older (activations_of begun places before waiting))
ended back [] places before after waiting left keeps running first behind puts = refl
ended back (b ∷ []) places before after waiting left keeps running first behind puts = refl
ended back (b ∷ c ∷ bs) places before after waiting left keeps running first behind (inl few) = absurd (omega (arith, few))
ended back (b ∷ c ∷ bs) places before after waiting left keeps running first behind (inr is) =
    let same = is.0 in let puts = is.1 in grind (arith, first, behind, same, puts)
