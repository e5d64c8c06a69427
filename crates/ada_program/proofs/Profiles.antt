-- Procedures by their numbers: their profiles, and where their bodies do not fit.

use Rattle.std.proofs.Common.{◌≡◌, ℕ, ◌+◌, ◌<◌, false, List, ◌∷◌, length, get_or, map, take, drop, Some, refl, sym, ap, ◌∙◌}
use Rattle.std.specs.List.{slice_get}
use Rattle.std.specs.Option.{option_map}
use Rattle.std.proofs.lemmas.List.{take-map, at_drop_more}
use Rattle.std.proofs.lemmas.Option.{slice_get-map, slice_get_read}
use Rattle.ada_program.specs.declared.program.Procedure.{Procedure}
use Rattle.ada_program.specs.declared.program.Variable.{Variable}
use Rattle.ada_program.specs.Kept.{profiles_in, variables_in}
use Rattle.ada_program.specs.ProgramForm.{TypeForm, variable_form, body_form}
use Rattle.ada_program.specs.WellFormed.{Profile, profile_of, body_fits, bodies_fit}

-- the first variables of a body, as it keeps them
pub first_forms : (n : ℕ) (xs : List Variable) → take n (map variable_form xs) ≡ variables_in (take n xs)
first_forms n xs = take-map variable_form n xs

-- the profile of a procedure is that of its body
pub profile_at : (ps : List Procedure) (n : ℕ) (p : Procedure) → n < length ps → p ≡ get_or ps n p
    → slice_get (profiles_in ps) n ≡ Some (profile_of (body_form p))
profile_at ps n p inside there =
    slice_get-map profile_of (map body_form ps) n ∙ ap (option_map profile_of) (slice_get-map body_form ps n)
    ∙ ap (λ o. option_map profile_of (option_map body_form o)) (slice_get_read ps (length ps) n p refl inside there)

-- where one body does not fit, those from it on do not
pub stops_at : (types : List TypeForm) (texts exceptions : List (List ℕ)) (callable : List Profile) (ps : List Procedure)
    → (n : ℕ) (p : Procedure)
    → n < length ps → p ≡ get_or ps n p → body_fits types texts exceptions callable (body_form p) ≡ false
    → bodies_fit types texts exceptions callable (map body_form (drop n ps)) ≡ false
stops_at types texts exceptions callable ps n p inside there wrong =
    at_drop_more (λ qs. bodies_fit types texts exceptions callable (map body_form qs)) ps n p inside
    ∙ ap (λ q. bodies_fit types texts exceptions callable (map body_form (q ∷ drop (n + 1) ps))) (sym there)
    ∙ rw wrong refl
