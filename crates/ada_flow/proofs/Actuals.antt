-- Actual parameters, one behind the other.

use Rattle.std.proofs.Common.{◌≡◌, ℕ, ◌+◌, ◌<◌, Bool, List, [], ◌∷◌, ◌++◌, Option, length, get_or, take, drop, map, sym, ap, ◌∙◌}
use Rattle.std.proofs.lemmas.List.{at_drop_more, take_more, map-append}
use Rattle.ada_flow.specs.Flow.{Breach, Holds, broken_among, leftmost, uses_in_actual, uses_in_actuals}
use Rattle.ada_flow.proofs.Leftmost.{broken_among_more, leftmost_of_three}
use Rattle.ada_program.specs.declared.program.Actual.{Actual}
use Rattle.ada_program.specs.Form.{ActualForm, actual_form}
use Rattle.ada_program.specs.ProgramForm.{TypeForm, VariableForm}
use Rattle.ada_flow.specs.Tracking.{Tracks}

-- one more of them stands behind the others
one_more : (actuals : List Actual) (n : ℕ) (one : Actual) → n < length actuals →
    map actual_form (take (n + 1) actuals) ≡ map actual_form (take n actuals) ++ actual_form (get_or actuals n one) ∷ []
one_more actuals n one inside =
    ap (map actual_form) (take_more actuals n one inside) ∙ map-append actual_form (take n actuals) (get_or actuals n one ∷ [])

-- what these break behind earlier ones of a call that may free objects of some access types
abbrev among_actuals : List TypeForm → List VariableForm → Tracks → (may : ℕ → Bool) → Holds → (earlier actuals : List Actual) → Option Breach
among_actuals types variables tracks may holds earlier actuals =
    broken_among tracks holds (uses_in_actuals types variables may (map actual_form earlier) (map actual_form actuals))

-- what one breaks
abbrev in_actual : List TypeForm → List VariableForm → Tracks → (may : ℕ → Bool) → Holds → (earlier : List Actual) → Actual → Option Breach
in_actual types variables tracks may holds earlier a = broken_among tracks holds (uses_in_actual types variables may (map actual_form earlier) (actual_form a))

-- the uses in those that are left, behind those that are done
broken_among_next : (types : List TypeForm) (variables : List VariableForm) (tracks : Tracks) (may : ℕ → Bool) (holds : Holds) (actuals : List Actual) (n : ℕ) (one : Actual) →
    n < length actuals →
    among_actuals types variables tracks may holds (take n actuals) (drop n actuals)
    ≡ leftmost (in_actual types variables tracks may holds (take n actuals) (get_or actuals n one))
    (among_actuals types variables tracks may holds (take (n + 1) actuals) (drop (n + 1) actuals))
broken_among_next types variables tracks may holds actuals n one inside =
    let earlier = map actual_form (take n actuals) in
    let a = actual_form (get_or actuals n one) in
    let left = map actual_form (drop (n + 1) actuals) in
    at_drop_more (λ list. among_actuals types variables tracks may holds (take n actuals) list) actuals n one inside
    ∙ broken_among_more tracks holds (uses_in_actual types variables may earlier a) (uses_in_actuals types variables may (earlier ++ a ∷ []) left)
    ∙ ap (λ (xs : List ActualForm). leftmost (broken_among tracks holds (uses_in_actual types variables may earlier a))
    (broken_among tracks holds (uses_in_actuals types variables may xs left))) (sym (one_more actuals n one inside))

-- what is found in one more of them is the leftmost of what was found, and of what it breaks
pub found_next : (types : List TypeForm) (variables : List VariableForm) (tracks : Tracks) (may : ℕ → Bool) (holds : Holds) (actuals : List Actual) (n : ℕ) (one : Actual)
    (found own joined all : Option Breach) → n < length actuals → one ≡ get_or actuals n one →
    own ≡ in_actual types variables tracks may holds (take n actuals) one → joined ≡ leftmost found own →
    leftmost found (among_actuals types variables tracks may holds (take n actuals) (drop n actuals)) ≡ all →
    leftmost joined (among_actuals types variables tracks may holds (take (n + 1) actuals) (drop (n + 1) actuals)) ≡ all
found_next types variables tracks may holds actuals n one found own joined all inside actual own_is joins before =
    let left = among_actuals types variables tracks may holds (take (n + 1) actuals) (drop (n + 1) actuals) in
    ap (λ (b : Option Breach). leftmost b left) (joins ∙ ap (leftmost found) own_is)
    ∙ leftmost_of_three found (in_actual types variables tracks may holds (take n actuals) one) left
    ∙ ap (λ (a : Actual). leftmost found (leftmost (in_actual types variables tracks may holds (take n actuals) a) left)) actual
    ∙ sym (ap (leftmost found) (broken_among_next types variables tracks may holds actuals n one inside))
    ∙ before
