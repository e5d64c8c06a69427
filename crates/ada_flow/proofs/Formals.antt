-- Formal parameters, where a body begins and where it ends.

use Rattle.std.proofs.Common.{◌≡◌, ℕ, zero, suc, ◌+◌, ◌<◌, ◌≤◌, arith, Bool, true, false, List, [], ◌∷◌, ◌++◌, get_or, length, drop, map, Option, None, refl, sym, ap, ◌∙◌, add-one}
use Rattle.std.specs.Prelude.{if◌then◌else◌}
use Rattle.std.specs.List.{slice_get}
use Rattle.std.proofs.Math.Seq.{drop-cons}
use Rattle.ada_text.specs.declared.spot.Spot.{Spot}
use Rattle.ada_program.specs.declared.program.FormalMode.{FormalMode}
use Rattle.ada_program.specs.declared.program.Variable.{Variable}
use Rattle.ada_program.specs.ProgramForm.{VariableForm, variable_form}
use Rattle.ada_flow.specs.declared.rule.Hold.TheVariants.{Lost}
use Rattle.ada_flow.specs.declared.rule.Rule.TheVariants.{FormalNotOwned}
use Rattle.ada_flow.specs.Flow.{Holds, Gone, faults, goes, all_give_back, first_holds, is_kept_where, kept_from, left, owed_by, owed_from, return_flow}
use Rattle.ada_flow.specs.Told.{first_hold}

-- what is no formal parameter is lost
none_step : (vs : List Variable) (n : ℕ) → n < length vs → first_holds [] (map variable_form (drop n vs)) ≡ Lost ∷ first_holds [] (map variable_form (drop (suc n) vs))
none_step [] n inside = absurd (omega arith)
none_step (w ∷ vs) zero inside = refl
none_step (w ∷ vs) (suc n) inside = none_step vs n (omega arith)

first_step : (modes : List FormalMode) (vs : List Variable) (n : ℕ) (v : Variable) → n < length vs →
    first_holds (drop n modes) (map variable_form (drop n vs))
    ≡ first_hold (slice_get modes n) (get_or vs n v).kind ∷ first_holds (drop (suc n) modes) (map variable_form (drop (suc n) vs))
first_step [] [] n v inside = absurd (omega arith)
first_step (m ∷ modes) [] n v inside = absurd (omega arith)
first_step [] (w ∷ vs) zero v inside = refl
first_step (m ∷ modes) (w ∷ vs) zero v inside = refl
first_step [] (w ∷ vs) (suc n) v inside = none_step vs n (omega arith)
first_step (m ∷ modes) (w ∷ vs) (suc n) v inside = first_step modes vs n v (omega arith)

-- what each variable holds where a body begins, variable by variable
pub first_next : (modes : List FormalMode) (vs : List Variable) (n : ℕ) (v : Variable) → n < length vs →
    first_holds (drop n modes) (map variable_form (drop n vs))
    ≡ first_hold (slice_get modes n) (get_or vs n v).kind ∷ first_holds (drop (n + 1) modes) (map variable_form (drop (n + 1) vs))
first_next modes vs n v inside =
    first_step modes vs n v inside
    ∙ ap (λ (k : ℕ). first_hold (slice_get modes n) (get_or vs n v).kind ∷ first_holds (drop k modes) (map variable_form (drop k vs))) (sym (add-one n))

pub ruleset first_steps = (first_next)

-- what is kept, formal parameter by formal parameter
kept_step : (raising : Option Holds) (x : ℕ) (modes : List FormalMode) (n : ℕ) → n < length modes →
    kept_from raising x (drop n modes) ≡ is_kept_where raising x ∷ kept_from raising (x + 1) (drop (suc n) modes)
kept_step raising x [] n inside = absurd (omega arith)
kept_step raising x (m ∷ modes) zero inside = refl
kept_step raising x (m ∷ modes) (suc n) inside = kept_step raising x modes n (omega arith)

pub kept_next : (raising : Option Holds) (x : ℕ) (modes : List FormalMode) (n : ℕ) → n < length modes →
    kept_from raising x (drop n modes) ≡ is_kept_where raising x ∷ kept_from raising (x + 1) (drop (n + 1) modes)
kept_next raising x modes n inside =
    kept_step raising x modes n inside ∙ ap (λ (k : ℕ). is_kept_where raising x ∷ kept_from raising (x + 1) (drop k modes)) (sym (add-one n))

pub ruleset keeping_steps = (kept_next)

-- what gives something back, formal parameter by formal parameter
pub owed_next : (formals : List FormalMode) (vs : List Variable) (n : ℕ) (m : FormalMode) (v : Variable) → n < length formals → n < length vs →
    owed_from n (drop n formals) (map variable_form (drop n vs))
    ≡ owed_by (get_or formals n m) (get_or vs n v).kind n ++ owed_from (n + 1) (drop (n + 1) formals) (map variable_form (drop (n + 1) vs))
owed_next formals vs n m v a b =
    let step : owed_from n (drop n formals) (map variable_form (drop n vs))
    ≡ owed_by (get_or formals n m) (get_or vs n v).kind n ++ owed_from (n + 1) (drop (suc n) formals) (map variable_form (drop (suc n) vs)) =
    rw (drop-cons formals n m, drop-cons vs n v) refl in
    step
    ∙ ap (λ (k : ℕ). owed_by (get_or formals n m) (get_or vs n v).kind n ++ owed_from (n + 1) (drop k formals) (map variable_form (drop k vs))) (sym (add-one n))

-- where there is no variable, nothing does
pub owed_past : (x : ℕ) (modes : List FormalMode) (vs : List Variable) (n : ℕ) → length vs ≤ n → owed_from x modes (map variable_form (drop n vs)) ≡ []
owed_past x [] vs n past = refl
owed_past x (m ∷ modes) [] zero past = refl
owed_past x (m ∷ modes) [] (suc n) past = refl
owed_past x (m ∷ modes) (v ∷ vs) zero past = absurd (omega arith)
owed_past x (m ∷ modes) (v ∷ vs) (suc n) past = owed_past x (m ∷ modes) vs n (omega arith)

pub ruleset owed_steps = (owed_next, owed_past)

-- a return where each gives something back leaves the body
pub return_leaves : (vs : List VariableForm) (owed : List ℕ) (within : Gone) (spot : Spot) (hs : Holds) →
    all_give_back owed (left vs within hs) ≡ true → return_flow vs owed within spot hs ≡ goes None None
return_leaves vs owed within spot hs gives = ap (λ (b : Bool). if b then goes None None else faults spot FormalNotOwned) gives

-- and one where one doesn't breaks a rule
pub return_breaks : (vs : List VariableForm) (owed : List ℕ) (within : Gone) (spot : Spot) (hs : Holds) →
    all_give_back owed (left vs within hs) ≡ false → return_flow vs owed within spot hs ≡ faults spot FormalNotOwned
return_breaks vs owed within spot hs gives = ap (λ (b : Bool). if b then goes None None else faults spot FormalNotOwned) gives

pub ruleset return_steps = (return_leaves, return_breaks)
