-- Where the types of a program override no operation of a controlled type (7.6), none of its steps calls one.

use Rattle.std.proofs.Common.{◌≡◌, ℕ, Bool, true, List, map, Some, None, refl, ap, ◌∙◌}
use Rattle.std.specs.List.{list_all}
use Rattle.ada_program.specs.declared.program.Program.{Program}
use Rattle.ada_program.specs.declared.program.TypeDefinition.{TypeDefinition}
use Rattle.ada_program.specs.Controlled.{operations_of, OverridesNothing, procedure_number}
use Rattle.ada_program.specs.ProgramForm.{TypeForm, type_form, program_form}
use Rattle.ada_program.specs.WellFormed.{finalization_in, overrides_nothing, overrides_none}
use Rattle.ada_program.proofs.Overridden.{types_override_nothing}
use Rattle.ada_meaning.specs.declared.event.Birth.{Birth}
use Rattle.ada_meaning.specs.declared.event.Birth.TheVariants.{Creation, Copy, Adjustment}
use Rattle.ada_meaning.specs.Step.{beginning}

-- What is shown of a type overrides no operation.
abbrev pub is_plain : TypeForm → Bool
is_plain t = overrides_nothing (finalization_in (Some t))

-- Where what is shown of the types overrides none, the types do not.
pub nothing_overridden : (types : List TypeDefinition) (forms : List TypeForm) → map type_form types ≡ forms → list_all is_plain forms ≡ true → OverridesNothing types
nothing_overridden types forms shown plain = types_override_nothing types (ap (list_all is_plain) shown ∙ plain)

-- Such a program overrides none.
pub well_formed_overrides_nothing : (program : Program) → overrides_none (program_form program) ≡ true → OverridesNothing program.types.items
well_formed_overrides_nothing program plain = nothing_overridden program.types.items (program_form program).types refl plain

-- A part begins without a call, however it begins, and its value ends without one.
pub begins_alone : (types : List TypeDefinition) → OverridesNothing types → (by : Birth) (of : ℕ) → beginning by (operations_of types of) ≡ None
begins_alone types inherits Creation of = rw (inherits of) refl
begins_alone types inherits Copy of = rw (inherits of) refl
begins_alone types inherits (Adjustment number) of = rw (inherits of) refl

pub ends_alone : (types : List TypeDefinition) → OverridesNothing types → (of : ℕ) → procedure_number (operations_of types of).finalize ≡ None
ends_alone types inherits of = rw (inherits of) refl
