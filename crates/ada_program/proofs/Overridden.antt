-- The types of a program override no operation, where its form says so (7.6).

use Rattle.std.proofs.Common.{◌≡◌, Bool, true, false, ◌&&◌, if◌then◌else◌, ◌∙◌, List, [], ◌∷◌, map, Option, Some, None, refl, ap}
use Rattle.std.specs.Prelude.{find}
use Rattle.std.specs.List.{list_all}
use Rattle.ada_program.specs.declared.program.Finalization.{Finalization}
use Rattle.ada_program.specs.declared.program.Operations.{Operations}
use Rattle.ada_program.specs.declared.program.Program.{Program}
use Rattle.ada_program.specs.declared.program.ProcedureNo.{ProcedureNo}
use Rattle.ada_program.specs.declared.program.TypeDefinition.{TypeDefinition}
use Rattle.ada_program.specs.declared.program.TypeDefinition.TheVariants as definition
use Rattle.ada_program.specs.Controlled.{number_by, is_number, no_operations, operations_in, operations_by, OverridesNothing}
use Rattle.ada_program.specs.ProgramForm.{TypeForm, type_form, program_form}
use Rattle.ada_program.specs.WellFormed.{finalization_in, is_inherited, overrides_nothing, overrides_none}

-- Both tests are passed where their conjunction is.
left_of : (a b : Bool) → (a && b) ≡ true → a ≡ true
left_of true b e = refl
left_of false b e = absurd (cc e)

right_of : (a b : Bool) → (a && b) ≡ true → b ≡ true
right_of true b e = e
right_of false b e = absurd (cc e)

-- Where an operation is inherited, no procedure overrides it.
inherited : (o : Option ProcedureNo) → is_inherited o ≡ true → o ≡ None
inherited None e = refl
inherited (Some procedure) e = absurd (cc e)

all_inherited : (o : Operations) → (is_inherited o.initialize && is_inherited o.adjust && is_inherited o.finalize) ≡ true → o ≡ no_operations
all_inherited o e =
    let front = left_of (is_inherited o.initialize && is_inherited o.adjust) (is_inherited o.finalize) e in
    let initialize = inherited o.initialize (left_of (is_inherited o.initialize) (is_inherited o.adjust) front) in
    let adjust = inherited o.adjust (right_of (is_inherited o.initialize) (is_inherited o.adjust) front) in
    let finalize = inherited o.finalize (right_of (is_inherited o.initialize && is_inherited o.adjust) (is_inherited o.finalize) e) in
    ap (λ (p : Option ProcedureNo). record { initialize = p; adjust = o.adjust; finalize = o.finalize }) initialize
    ∙ ap (λ (p : Option ProcedureNo). record { initialize = None; adjust = p; finalize = o.finalize }) adjust
    ∙ ap (λ (p : Option ProcedureNo). record { initialize = None; adjust = None; finalize = p }) finalize

nothing_in : (f : Option Finalization) → overrides_nothing f ≡ true → operations_in f ≡ no_operations
nothing_in None e = refl
nothing_in (Some f) e = all_inherited f.operations e

-- Whether a type overrides nothing.
abbrev is_plain : TypeForm → Bool
is_plain t = overrides_nothing (finalization_in (Some t))

nothing_by : (t : TypeDefinition) → is_plain (type_form t) ≡ true → operations_by (Some t) ≡ no_operations
nothing_by (definition.Record name parts components finalization) e = nothing_in finalization e
nothing_by (definition.Access name designated pool) e = refl
nothing_by (definition.Object record_type) e = refl

-- So does the first of some types that is found.
found_here : (passes : Bool) (t : TypeDefinition) (found : Option TypeDefinition) → operations_by (Some t) ≡ no_operations → operations_by found ≡ no_operations
    → operations_by (if passes then Some t else found) ≡ no_operations
found_here true t found here later = here
found_here false t found here later = later

nothing_found : (test : TypeDefinition → Bool) (types : List TypeDefinition) → list_all is_plain (map type_form types) ≡ true
    → operations_by (find test types) ≡ no_operations
nothing_found test [] plain = refl
nothing_found test (t ∷ types) plain =
    let here = is_plain (type_form t) in
    let later = list_all is_plain (map type_form types) in
    found_here (test t) t (find test types) (nothing_by t (left_of here later plain)) (nothing_found test types (right_of here later plain))

pub types_override_nothing : (types : List TypeDefinition) → list_all is_plain (map type_form types) ≡ true → OverridesNothing types
types_override_nothing types plain n = nothing_found (λ t. is_number n (number_by (Some t))) types plain

-- No type of the program overrides an operation.
pub nothing_overridden : (program : Program) → overrides_none (program_form program) ≡ true → OverridesNothing program.types.items
nothing_overridden program plain = types_override_nothing program.types.items plain
