-- The law: as long as a collection or a record object of some types is there, nothing is treated and no operation's body runs in front of its end.

use Rattle.std.specs.Prelude.{◌≡◌, ℕ, ℤ, Bool, true, false, if◌then◌else◌, List, [], ◌∷◌}
use Rattle.ada_program.specs.declared.program.Program.{Program}
use Rattle.ada_program.specs.Freed.{FreesItsOwn}
use Rattle.ada_program.specs.ProgramForm.{program_form}
use Rattle.ada_program.specs.WellFormed.{IsWellFormed}
use Rattle.ada_meaning.specs.declared.state.Value.{Value}
use Rattle.ada_meaning.specs.Frame.{Frame}
use Rattle.ada_meaning.specs.Frame as frame
use Rattle.ada_meaning.specs.State.{Owned, declared, collection, record_object, storage_pool, Item, Master}
use Rattle.ada_meaning.specs.Step.{older}
use Rattle.ada_meaning.specs.Named.{State}
use Rattle.ada_meaning.specs.Run.{Event, Run, first_state}
use Rattle.ada_still.specs.Still.{CollectWhereStill, CollectStill}

-- What a master owns is no collection of one of these types, and no record object that is known by one (7.6.1).
abbrev pub IsOther : (own : ℕ → Bool) → Owned → Type 0
IsOther own (declared x) = Unit {0}
IsOther own (collection access pool) = own access ≡ false
IsOther own (record_object t) = own t ≡ false
IsOther own (storage_pool declaration number) = Unit {0}

-- Nor is one of these items.
abbrev pub AreOther : (own : ℕ → Bool) → List Item → Type 0
AreOther own [] = Unit {0}
AreOther own (i ∷ is) = IsOther own i.owned × AreOther own is

-- No collection of one of these types is open in these masters, and they own no such record object.
abbrev pub NoneOpen : (own : ℕ → Bool) → List Master → Type 0
NoneOpen own [] = Unit {0}
NoneOpen own (m ∷ ms) = AreOther own m.items × NoneOpen own ms

-- A frame treats an object, or an operation's body comes to its end in front of it (7.6, 7.6.1).
abbrev pub is_treatment : Frame Value → Bool
is_treatment (frame.Treats v treatment tasks) = true
is_treatment (frame.Awaits v by done of part tasks) = true
is_treatment frame.Confines = true
is_treatment f = false

-- A master is entered as long as this frame is left to do.
abbrev pub has_master : Frame Value → Bool
has_master (frame.Elaborates ds fs hs) = true
has_master frame.Closes = true
has_master (frame.Leaves mode) = true
has_master f = false

-- The masters that are entered behind a frame.
abbrev pub masters_behind : Frame Value → List Master → List Master
masters_behind f ms = if has_master f then older ms else ms

-- Wherever an object is treated, or an operation's body comes to its end, none of these collections is open behind that.
abbrev pub TreatsWhereNoneIsOpen : (own : ℕ → Bool) → List (Frame Value) → List Master → Type 0
TreatsWhereNoneIsOpen own [] ms = Unit {0}
TreatsWhereNoneIsOpen own (f ∷ k) ms = (is_treatment f ≡ true → NoneOpen own ms) × TreatsWhereNoneIsOpen own k (masters_behind f ms)

-- So it is in each state of the runs of a program.
abbrev pub TreatsElsewhere : Program → (own : ℕ → Bool) → Type 0
TreatsElsewhere program own =
    (input : List ℤ) (events : List Event) (last : State) → Run program (first_state program input) events last
    → TreatsWhereNoneIsOpen own last.control last.masters

-- While a collection of one of these types is open, or a record object that is known by one is there, no treatment of controlled parts comes next, and no
-- operation's body runs in front of the end of the body that owns it: in each well-formed program whose still procedures alone declare such collections and create
-- such objects, where each Free is by the instance for what it frees (13.11.2).
abbrev pub CollectionsStandStill : Type 0
CollectionsStandStill =
    (program : Program) → IsWellFormed (program_form program) → FreesItsOwn (program_form program) → (own : ℕ → Bool)
    → CollectStill own (program_form program) → TreatsElsewhere program own

-- So it is whichever procedures are still where they call each other alone.
abbrev pub StandStillWhereStill : Type 0
StandStillWhereStill =
    (program : Program) → IsWellFormed (program_form program) → FreesItsOwn (program_form program) → (own still : ℕ → Bool)
    → CollectWhereStill own still (program_form program) → TreatsElsewhere program own
