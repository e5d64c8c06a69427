-- The first body in the text that overrides an operation of a controlled type and is not in use, in a program whose operations are not idle: Initialize is
-- neither plain nor frugal, where it may be; Adjust is neither quiet nor, where none is called or it may be, frugal; or, of a type with a component of an
-- access type, it is not simple, or may not track; or Finalize is neither quiet nor, where it may be, frugal.

use Rattle.std.specs.Prelude.{◌≡◌, ◌⊎◌, ℕ, Bool, true, false, ◌&&◌, ◌||◌, ◌==◌, nat_lt, if◌then◌else◌, Option, Some, None, is_some}
use Rattle.std.specs.List.{slice_get}
use Rattle.std.specs.Option.{option_map}
use Rattle.ada_text.specs.declared.spot.Spot.{Spot}
use Rattle.ada_program.specs.declared.program.Finalization.{Finalization}
use Rattle.ada_program.specs.declared.program.ProcedureNo.{ProcedureNo}
use Rattle.ada_program.specs.ProgramForm.{BodyForm, ProgramForm}
use Rattle.ada_program.specs.WellFormed.{finalization_of}
use Rattle.ada_quiet.specs.Quiet.{is_plain_body, is_quiet_body, is_plain_operation, is_quiet_operation, has_access, operation_body}
use Rattle.ada_quiet.specs.Frugal.{is_frugal_operation}
use Rattle.ada_quiet.specs.Simple.{is_simple_body, is_simple_operation}
use Rattle.ada_quiet.specs.InUse.{adjusts_nothing, may_adjust_frugally, may_be_frugal, may_track, operations_are_idle}

-- A procedure overrides Initialize of some type (7.6).
abbrev pub Initializes : ProgramForm → (procedure : ProcedureNo) → Type 0
Initializes p procedure = (t : ℕ) × (f : Finalization) × (finalization_of p.types t ≡ Some f) × (f.operations.initialize ≡ Some procedure)

-- It overrides Adjust of some type (7.6), which declares a component of an access type directly (3.10), or does not.
abbrev pub Adjusts : ProgramForm → (owns : Bool) → (procedure : ProcedureNo) → Type 0
Adjusts p owns procedure = (t : ℕ) × (f : Finalization) × (finalization_of p.types t ≡ Some f)
    × (f.operations.adjust ≡ Some procedure) × (has_access (slice_get p.types t) ≡ owns)

-- It overrides Finalize of some type (7.6).
abbrev pub Finalizes : ProgramForm → (procedure : ProcedureNo) → Type 0
Finalizes p procedure = (t : ℕ) × (f : Finalization) × (finalization_of p.types t ≡ Some f) × (f.operations.finalize ≡ Some procedure)

-- A body initializes in use: it is plain, or frugal, where it may be.
abbrev pub initializes_in_use : ProgramForm → (procedure : ProcedureNo) → BodyForm → Bool
initializes_in_use p procedure b = is_plain_body p.types b || (may_be_frugal p && is_frugal_operation p (Some procedure))

-- A body adjusts in use: it is frugal, where no Adjust is called; or it is simple, where it may track, if the type declares such a component; and else it is
-- quiet, or frugal, where it may be.
abbrev pub adjusts_in_use : ProgramForm → (owns : Bool) → (procedure : ProcedureNo) → BodyForm → Bool
adjusts_in_use p owns procedure b =
    (adjusts_nothing p && is_frugal_operation p (Some procedure))
    || (if owns
    then may_track p && is_simple_body p.types b
    else is_quiet_body p.types b || (may_adjust_frugally p && is_frugal_operation p (Some procedure)))

-- A body finalizes in use: it is quiet, or frugal, where it may be.
abbrev pub finalizes_in_use : ProgramForm → (procedure : ProcedureNo) → BodyForm → Bool
finalizes_in_use p procedure b = is_quiet_body p.types b || (may_be_frugal p && is_frugal_operation p (Some procedure))

-- The body of a procedure overrides an operation and is not in use: it overrides Initialize and is neither plain nor frugal, where it may be, or Adjust and
-- is neither quiet nor, where it may be, frugal, or, of a type with such a component, not simple, or may not track, or Finalize and is neither quiet nor, where
-- it may be, frugal.
abbrev pub IsUnused : ProgramForm → (procedure : ProcedureNo) → BodyForm → Type 0
IsUnused p procedure b = (Initializes p procedure × (initializes_in_use p procedure b ≡ false))
    ⊎ (((owns : Bool) × Adjusts p owns procedure × (adjusts_in_use p owns procedure b ≡ false))
    ⊎ (Finalizes p procedure × (finalizes_in_use p procedure b ≡ false)))

-- Such a body begins here.
abbrev pub BeginsUnused : ProgramForm → (spot : Spot) → Type 0
BeginsUnused p spot = (procedure : ProcedureNo) × (b : BodyForm) × (slice_get p.bodies procedure.0 ≡ Some b)
    × IsUnused p procedure b × (b.start_spot ≡ spot)

-- It does so in a program whose operations are not idle.
abbrev pub HasUnused : ProgramForm → (spot : Spot) → Type 0
HasUnused p spot = (operations_are_idle p ≡ false) × BeginsUnused p spot

-- A place stands before another one in the text: by line, then by column.
abbrev pub stands_before : Spot → Spot → Bool
stands_before a b = nat_lt a.line b.line || ((a.line == b.line) && nat_lt a.column b.column)

-- The first place of some, or that there is none.
abbrev pub IsFirst : (places : Spot → Type 0) → Option Spot → Type 0
IsFirst places None = (spot : Spot) → ¬ (places spot)
IsFirst places (Some spot) = places spot × ((other : Spot) → places other → stands_before other spot ≡ false)

-- Where the first body in the text begins that is not in use, or that there is none.
abbrev pub IsFirstUnused : ProgramForm → Option Spot → Type 0
IsFirstUnused p = IsFirst (HasUnused p)

-- What the code finds on its way.

-- The first one of two places, where they are there.
abbrev pub first_of : Option Spot → Option Spot → Option Spot
first_of None b = b
first_of (Some a) None = Some a
first_of (Some a) (Some b) = if stands_before b a then Some b else Some a

-- Where the body of an operation begins, if there is one and it does not fit.
abbrev pub start_unless : (fits : Bool) → Option BodyForm → Option Spot
start_unless fits o = if fits then None else option_map (λ b. b.start_spot) o

-- What overrides Initialize is plain, or frugal, where it may be or not.
abbrev pub initializes : ProgramForm → (frugal : Bool) → Option ProcedureNo → Bool
initializes p frugal initialize = is_plain_operation p initialize || (frugal && is_frugal_operation p initialize)

-- What overrides Adjust of a type, which declares such a component or does not, is frugal, where none is called or one may be; or simple, where it may
-- track or not; or quiet, or frugal, where it may be or not.
abbrev pub adjusts : ProgramForm → (nothing freely tracks owns : Bool) → Option ProcedureNo → Bool
adjusts p nothing freely tracks owns adjust =
    (nothing && is_frugal_operation p adjust)
    || (if owns && is_some (operation_body p adjust)
    then tracks && is_simple_operation p adjust
    else is_quiet_operation p adjust || (freely && is_frugal_operation p adjust))

-- What overrides Finalize is quiet, or frugal, where it may be or not.
abbrev pub finalizes : ProgramForm → (frugal : Bool) → Option ProcedureNo → Bool
finalizes p frugal finalize = is_quiet_operation p finalize || (frugal && is_frugal_operation p finalize)

-- The first one of those that override the operations of a type and are not in use, where an Initialize and a Finalize may be frugal or not, no Adjust is
-- called or one may be, an Adjust may be frugal or not, and track or not, and the type declares such a component or does not.
abbrev pub unused_in : ProgramForm → (frugal nothing freely tracks owns : Bool) → Option Finalization → Option Spot
unused_in p frugal nothing freely tracks owns None = None
unused_in p frugal nothing freely tracks owns (Some f) =
    first_of (start_unless (initializes p frugal f.operations.initialize) (operation_body p f.operations.initialize))
    (first_of (start_unless (adjusts p nothing freely tracks owns f.operations.adjust) (operation_body p f.operations.adjust))
    (start_unless (finalizes p frugal f.operations.finalize) (operation_body p f.operations.finalize)))
