-- Which bodies that override Initialize or Adjust call themselves, and the first one of them in the text (7.6).

use Rattle.std.specs.Prelude.{◌≡◌, ◌⊎◌, ℕ, Bool, true, false, ◌||◌, List, Option, Some, None, is_some}
use Rattle.std.specs.List.{slice_get}
use Rattle.ada_text.specs.declared.spot.Spot.{Spot}
use Rattle.ada_deeds.specs.Rounds.{CallsItself}
use Rattle.ada_program.specs.declared.program.Finalization.{Finalization}
use Rattle.ada_program.specs.declared.program.ProcedureNo.{ProcedureNo}
use Rattle.ada_program.specs.ProgramForm.{TypeForm, BodyForm, ProgramForm}
use Rattle.ada_program.specs.WellFormed.{finalization_of}
use Rattle.ada_quiet.specs.First.{IsFirst}

-- A procedure overrides Initialize or Adjust of some type (7.6).
abbrev pub InitializesOrAdjusts : ProgramForm → (procedure : ProcedureNo) → Type 0
InitializesOrAdjusts p procedure =
    (t : ℕ) × (f : Finalization) × (finalization_of p.types t ≡ Some f) × ((f.operations.initialize ≡ Some procedure) ⊎ (f.operations.adjust ≡ Some procedure))

-- Such a body begins here and calls itself.
abbrev pub HasRound : ProgramForm → (spot : Spot) → Type 0
HasRound p spot =
    (procedure : ProcedureNo) × (b : BodyForm) × (slice_get p.bodies procedure.0 ≡ Some b) × (b.start_spot ≡ spot)
    × InitializesOrAdjusts p procedure × CallsItself p procedure

-- Where the first one in the text begins, or that there is none.
abbrev pub IsFirstRound : ProgramForm → Option Spot → Type 0
IsFirstRound p = IsFirst (HasRound p)

-- What the code finds on its way.

-- The body of what overrides an operation, if something does, begins here and calls itself.
abbrev pub HasRoundOf : ProgramForm → Option ProcedureNo → (spot : Spot) → Type 0
HasRoundOf p operation spot =
    (procedure : ProcedureNo) × (b : BodyForm) × (operation ≡ Some procedure) × (slice_get p.bodies procedure.0 ≡ Some b) × (b.start_spot ≡ spot)
    × CallsItself p procedure

-- The body of what overrides Initialize or Adjust of a type begins here and calls itself.
abbrev pub HasRoundIn : ProgramForm → Option Finalization → (spot : Spot) → Type 0
HasRoundIn p o spot =
    (f : Finalization) × (o ≡ Some f) × (HasRoundOf p f.operations.initialize spot ⊎ HasRoundOf p f.operations.adjust spot)

-- Is Initialize or Adjust of a type overridden?
abbrev pub is_asked : Option Finalization → Bool
is_asked None = false
is_asked (Some f) = is_some f.operations.initialize || is_some f.operations.adjust

-- Some type has an Initialize or an Adjust that is overridden.
abbrev pub SomeIsAsked : List TypeForm → Type 0
SomeIsAsked types = (t : ℕ) × (is_asked (finalization_of types t) ≡ true)

-- No type has one.
abbrev pub NoneIsAsked : List TypeForm → Type 0
NoneIsAsked types = (t : ℕ) → is_asked (finalization_of types t) ≡ false
