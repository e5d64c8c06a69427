-- The types of a program and what is shown of them name the same, and have the same components.

use Rattle.std.proofs.Common.{◌≡◌, ℕ, List, map, Option, Some, None, refl, ap, ◌∙◌}
use Rattle.std.specs.List.{slice_get}
use Rattle.std.specs.Option.{option_map}
use Rattle.std.proofs.lemmas.Option.{slice_get-map}
use Rattle.ada_program.specs.declared.program.TypeDefinition.{TypeDefinition}
use Rattle.ada_program.specs.declared.program.TypeDefinition.TheVariants as definition
use Rattle.ada_program.specs.ProgramForm.{type_form}
use Rattle.ada_program.specs.Typed.{designated_by, designated_of, components_by, components_of, reached_by, reached_of}
use Rattle.ada_program.specs.WellFormed.{named_in, components_in, record_components, components_reached, reached_components}

named_shown : (o : Option TypeDefinition) → named_in (option_map type_form o) ≡ designated_by o
named_shown None = refl
named_shown (Some (definition.Record name parts components finalization)) = refl
named_shown (Some (definition.Access name designated pool)) = refl
named_shown (Some (definition.Object record_type)) = refl

components_shown : (o : Option TypeDefinition) → components_in (option_map type_form o) ≡ components_by o
components_shown None = refl
components_shown (Some (definition.Record name parts components finalization)) = refl
components_shown (Some (definition.Access name designated pool)) = refl
components_shown (Some (definition.Object record_type)) = refl

-- The components of a record type (3.8).
pub same_record : (types : List TypeDefinition) (t : ℕ) → record_components (map type_form types) t ≡ components_of types t
same_record types t = ap components_in (slice_get-map type_form types t) ∙ components_shown (slice_get types t)

same_reached : (types : List TypeDefinition) (o : Option ℕ) → components_reached (map type_form types) o ≡ reached_by types o
same_reached types None = refl
same_reached types (Some t) = same_record types t

-- The record type of the objects that the values of a type name (3.10).
pub same_named : (types : List TypeDefinition) (t : ℕ) → named_in (slice_get (map type_form types) t) ≡ designated_of types t
same_named types t = ap named_in (slice_get-map type_form types t) ∙ named_shown (slice_get types t)

-- The components of the objects that the values of a type name (3.10).
pub same_components : (types : List TypeDefinition) (access : ℕ) → reached_components (map type_form types) access ≡ reached_of types access
same_components types access =
    ap (components_reached (map type_form types)) (same_named types access) ∙ same_reached types (designated_of types access)
