-- The profiles of procedures, and what stays where bodies end.

use Rattle.std.proofs.Common.{◌≡◌, ◌∙◌, ℕ, ◌<◌, ◌≤◌, List, [], ◌∷◌, map, take, length, get_or, refl, ap}
use Rattle.std.specs.Prelude.{Option, Some, None, option_map}
use Rattle.std.specs.List.{slice_get}
use Rattle.std.proofs.lemmas.List.{take-map}
use Rattle.std.proofs.lemmas.Option.{slice_get_past, slice_get_read}
use Rattle.ada_program.specs.Kept.{variables_in}
use Rattle.ada_program.specs.ProgramForm.{VariableForm, body_form, variable_form}
use Rattle.ada_program.specs.WellFormed.{Profile, kind_held}
use Rattle.ada_program.specs.declared.program.FormalMode.{FormalMode}
use Rattle.ada_program.specs.declared.program.Procedure.{Procedure}
use Rattle.ada_program.specs.declared.program.ProcedureNo.{ProcedureNo}
use Rattle.ada_program.specs.declared.program.Variable.{Variable}
use Rattle.ada_program.specs.declared.program.VariableKind.{VariableKind}
use Rattle.ada_resolve.specs.declared.resolver.Resolver.{Resolver}
use Rattle.ada_resolve.specs.Actuals.{profile, profile_in}
use Rattle.ada_resolve.specs.Known.{Known, Part, left_to}
use Rattle.ada_resolve.specs.View.{known_of}
use Rattle.ada_resolve.proofs.Names.{map_get}

-- what the first variables hold
first_kinds : (n : ℕ) (variables : List Variable) → map kind_held (take n (map variable_form variables)) ≡ map kind_held (variables_in (take n variables))
first_kinds n variables = ap (λ (vs : List VariableForm). map kind_held vs) (take-map variable_form n variables)

-- the profile of these kinds and modes
abbrev profile_with : List VariableKind → List FormalMode → Profile
profile_with kinds modes = record { kinds = kinds; modes = modes }

-- the profile of what is found
found_profile : (ps : List Procedure) (n : ℕ) (o : Option Procedure) → slice_get ps n ≡ o → profile_in (slice_get (map body_form ps) n) ≡ profile_in (option_map body_form o)
found_profile ps n o is = ap profile_in (map_get body_form ps n) ∙ ap (λ (x : Option Procedure). profile_in (option_map body_form x)) is

-- the profile of a procedure: what its formal parameters hold, and their modes
pub profile_read : (r : Resolver) (p : ProcedureNo) (b : Procedure) → p.0 < length r.procedures.items → b ≡ get_or r.procedures.items p.0 b → profile (known_of r) p ≡ record { kinds = map kind_held (variables_in (take (length b.formals.items) b.variables.items)); modes = b.formals.items }
unfolding profile known_of
profile_read r p b inside at =
    found_profile r.procedures.items p.0 (Some b) (slice_get_read r.procedures.items (length r.procedures.items) p.0 b refl inside at) ∙
    ap (λ (kinds : List VariableKind). profile_with kinds b.formals.items) (first_kinds (length b.formals.items) b.variables.items)

-- where there is no procedure, there are no formal parameters
pub profile_past : (r : Resolver) (p : ProcedureNo) → length r.procedures.items ≤ p.0 → profile (known_of r) p ≡ record { kinds = []; modes = [] }
unfolding profile known_of
profile_past r p past = found_profile r.procedures.items p.0 None (slice_get_past r.procedures.items p.0 past)

-- where a part ends, the variables stay
pub left_variables : (ps : List Part) (k : Known) → (left_to ps k).variables ≡ k.variables
left_variables [] k = refl
left_variables (p ∷ ps) k = refl
