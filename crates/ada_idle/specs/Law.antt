-- The laws: nothing is treated in a run of a program whose text creates no object with controlled parts, and assigns no record with some; and nothing is
-- adjusted in one of a program whose text copies no record with controlled parts.

use Rattle.std.specs.Prelude.{◌≡◌, ℤ, Bool, true, false, List, [], ◌∷◌}
use Rattle.ada_program.specs.declared.program.Program.{Program}
use Rattle.ada_program.specs.ProgramForm.{program_form}
use Rattle.ada_quiet.specs.Idle.{makes_parts, copies_parts}
use Rattle.ada_meaning.specs.declared.event.Birth.{Birth}
use Rattle.ada_meaning.specs.declared.event.Birth.TheVariants.{Creation, Copy, Adjustment}
use Rattle.ada_meaning.specs.declared.state.Value.{Value}
use Rattle.ada_meaning.specs.Finalization.{NothingTreated}
use Rattle.ada_meaning.specs.Frame.{Frame, Treatment, begins, ends}
use Rattle.ada_meaning.specs.Frame as frame
use Rattle.ada_meaning.specs.Named.{State}
use Rattle.ada_meaning.specs.Run.{Event, Run, first_state}

-- In no state of a run of such a program is something left of the initialization, the adjustment or the finalization of an object (7.6, 7.6.1).
abbrev pub IdleProgramsTreatNothing : Type 0
IdleProgramsTreatNothing =
    (program : Program) → makes_parts (program_form program) ≡ false
    → (input : List ℤ) (events : List Event) (last : State) → Run program (first_state program input) events last → NothingTreated last.control

-- A value comes to exist as a copy (7.6): that of an object that is declared with an initial value, or that of a record that is assigned to.
abbrev pub begins_copy : Birth → Bool
begins_copy Creation = false
begins_copy Copy = true
begins_copy (Adjustment number) = true

-- A treatment adjusts a copy (7.6).
abbrev pub adjusts_copy : Treatment → Bool
adjusts_copy (begins by done) = begins_copy by
adjusts_copy (ends cause) = false

-- Nothing is left of the adjustment of an object.
abbrev pub NothingAdjusted : List (Frame Value) → Type 0
NothingAdjusted [] = Unit {0}
NothingAdjusted (frame.Treats v treatment tasks ∷ k) = (adjusts_copy treatment ≡ false) × NothingAdjusted k
NothingAdjusted (frame.Awaits v by done of part tasks ∷ k) = (begins_copy by ≡ false) × NothingAdjusted k
NothingAdjusted (f ∷ k) = NothingAdjusted k

-- In no state of a run of a program whose text copies no record with controlled parts is something left of the adjustment of an object (7.6).
abbrev pub ProgramsThatCopyNothingAdjustNothing : Type 0
ProgramsThatCopyNothingAdjustNothing =
    (program : Program) → copies_parts (program_form program) ≡ false
    → (input : List ℤ) (events : List Event) (last : State) → Run program (first_state program input) events last → NothingAdjusted last.control
