-- Programs that meet the premises of the laws, and some that do not.

use Rattle.std.specs.Prelude.{◌≡◌, ℤ, Bool, true, false, List, Option, Some, None, is_some}
use Rattle.std.specs.List.{list_any}
use Rattle.ada_program.specs.declared.program.Finalization.{Finalization}
use Rattle.ada_program.specs.declared.program.Program.{Program}
use Rattle.ada_program.specs.ProgramForm.{program_form}
use Rattle.ada_program.specs.WellFormed.{IsWellFormed, finalization_in}
use Rattle.ada_quiet.specs.Idle.{makes_parts, copies_parts}
use Rattle.ada_meaning.specs.declared.event.Halt.TheVariants.{Finished}
use Rattle.ada_meaning.specs.Finalization.{NothingTreated}
use Rattle.ada_meaning.specs.Named.{State}
use Rattle.ada_meaning.specs.Run.{Event, Run, Halts, first_state}
use Rattle.ada_idle.specs.Law.{NothingAdjusted}

-- A body overrides Finalize of a type, if it is controlled (7.6).
abbrev pub overrides_finalize : Option Finalization → Bool
overrides_finalize None = false
overrides_finalize (Some f) = is_some f.operations.finalize

-- One overrides Adjust of it.
abbrev pub overrides_adjust : Option Finalization → Bool
overrides_adjust None = false
overrides_adjust (Some f) = is_some f.operations.adjust

-- So it is with a type of a program.
abbrev pub OverridesFinalize : Program → Type 0
OverridesFinalize program = list_any (λ t. overrides_finalize (finalization_in (Some t))) (program_form program).types ≡ true

abbrev pub OverridesAdjust : Program → Type 0
OverridesAdjust program = list_any (λ t. overrides_adjust (finalization_in (Some t))) (program_form program).types ≡ true

-- A well-formed program with a type whose Finalize is overridden creates no object with controlled parts, and finishes.
abbrev pub PremiseIsMet : Type 0
PremiseIsMet =
    (program : Program) × IsWellFormed (program_form program) × OverridesFinalize program × (makes_parts (program_form program) ≡ false)
    × ((input : List ℤ) × (events : List Event) × (last : State) × Run program (first_state program input) events last × Halts program last Finished)

-- In a run of a well-formed program that creates one, something is treated.
abbrev pub PremiseIsNeeded : Type 0
PremiseIsNeeded =
    (program : Program) × IsWellFormed (program_form program) × (makes_parts (program_form program) ≡ true)
    × ((input : List ℤ) × (events : List Event) × (last : State) × Run program (first_state program input) events last × (NothingTreated last.control → ⊥))

-- A well-formed program with a type whose Adjust is overridden creates an object with controlled parts, and copies none: something is treated in a run of it.
abbrev pub CopyPremiseIsMet : Type 0
CopyPremiseIsMet =
    (program : Program) × IsWellFormed (program_form program) × OverridesAdjust program
    × (makes_parts (program_form program) ≡ true) × (copies_parts (program_form program) ≡ false)
    × ((input : List ℤ) × (events : List Event) × (last : State) × Run program (first_state program input) events last × (NothingTreated last.control → ⊥))

-- In a run of a well-formed program that copies one, something is adjusted.
abbrev pub CopyPremiseIsNeeded : Type 0
CopyPremiseIsNeeded =
    (program : Program) × IsWellFormed (program_form program) × (copies_parts (program_form program) ≡ true)
    × ((input : List ℤ) × (events : List Event) × (last : State) × Run program (first_state program input) events last × (NothingAdjusted last.control → ⊥))

-- So the premise of each law is met, and needed.
abbrev pub PremiseIsMetAndNeeded : Type 0
PremiseIsMetAndNeeded = PremiseIsMet × PremiseIsNeeded × CopyPremiseIsMet × CopyPremiseIsNeeded
