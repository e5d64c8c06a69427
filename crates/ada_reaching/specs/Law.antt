-- The law: bodies that shun some access types look at no object of them and change none, and neither do the operations of what they free and allocate.

use Rattle.std.specs.Prelude.{◌≡◌, ◌<◌, ℕ, ℤ, Bool, true, false, List, [], ◌∷◌, Some}
use Rattle.std.specs.List.{slice_get}
use Rattle.ada_program.specs.declared.program.Program.{Program}
use Rattle.ada_program.specs.declared.program.TypeDefinition.{TypeDefinition}
use Rattle.ada_program.specs.ProgramForm.{BodyForm, ProgramForm, program_form, body_forms}
use Rattle.ada_program.specs.WellFormed.{IsWellFormed}
use Rattle.ada_meaning.specs.declared.state.Id.{Id}
use Rattle.ada_meaning.specs.declared.state.Value.{Value}
use Rattle.ada_meaning.specs.Frame.{Frame}
use Rattle.ada_meaning.specs.Frame as frame
use Rattle.ada_meaning.specs.State.{Item, Master, type_housed}
use Rattle.ada_meaning.specs.Step.{halts, moves, tells, asks, picks}
use Rattle.ada_meaning.specs.Named.{Object, State, Next, is_member, object_at, next}
use Rattle.ada_meaning.specs.Run.{Event, Run, first_state}
use Rattle.ada_untouched.specs.Untouched.{Untouched}
use Rattle.ada_reaching.specs.Apart.{Apart, CallsApart}
use Rattle.ada_reaching.specs.Forms.{body_shuns}
use Rattle.ada_reaching.specs.Reaching.{IsReaching}

-- The bodies of these procedures shun the types, and the finalization of what they may free calls such procedures alone; so does the initialization of what
-- they may allocate.
pub record AreApart (p : ProgramForm) (definitions : List TypeDefinition) (shuns : ℕ → Bool) (apart : Apart) : Type 0 where
  pub own : apart.definitions ≡ definitions
  pub bodies : (procedure : ℕ) (b : BodyForm) → apart.calls procedure ≡ true → slice_get p.bodies procedure ≡ Some b → body_shuns p.types shuns apart b ≡ true
  pub operations : CallsApart definitions apart

-- Each object that goes with the newest of these items is of its type (7.6.1).
abbrev pub NewestHousesIts : List Object → List Item → Type 0
NewestHousesIts heap [] = Unit {0}
NewestHousesIts heap (i ∷ is) =
    (o : Id) (x : Object) → object_at heap o ≡ Some x → is_member i.number x ≡ true → type_housed i.owned ≡ Some x.cell.access

-- So it is with the newest item of the innermost master.
abbrev pub InnermostHousesIts : List Object → List Master → Type 0
InnermostHousesIts heap [] = Unit {0}
InnermostHousesIts heap (m ∷ ms) = NewestHousesIts heap m.items

-- So it is where that master is left first.
abbrev pub FirstHousesIts : List (Frame Value) → List Object → List Master → Type 0
FirstHousesIts (frame.Leaves mode ∷ k) heap ms = InnermostHousesIts heap ms
FirstHousesIts k heap ms = Unit {0}

-- The outermost of the bodies does not end next, and where a master is left, what goes with an item of it is of the item's type.
pub record IsWithin (behind : List (Frame Value)) (s : State) : Type 0 where
  pub on : s.control ≡ frame.Returns [] [] ∷ behind → ⊥
  pub houses : FirstHousesIts s.control s.heap s.masters

-- Each ghost is the object that it was.
abbrev pub GhostsStay : (ghosts : Id → Bool) → (before after : List Object) → Type 0
GhostsStay ghosts before after = (o : Id) → ghosts o ≡ true → object_at after o ≡ object_at before o

-- No object is hidden in parts.
abbrev pub none_hidden : Id → (component : ℕ) → Bool
none_hidden o c = false

-- The bodies go on so behind the objects that were there, and each ghost stays.
pub record GoesOn (p : ProgramForm) (shuns : ℕ → Bool) (apart : Apart) (ghosts unnamed : Id → Bool) (behind : List (Frame Value)) (lower : List Master)
    (before : List Object) (s : State) : Type 0 where
  pub same : GhostsStay ghosts before s.heap
  pub reaching : IsReaching p shuns apart ghosts unnamed behind lower s

-- They do whatever comes next, whatever is answered, and whichever of some members is picked.
abbrev pub AllGoOn : (P : State → Type 0) → Next → Type 0
AllGoOn P (halts h) = Unit {0}
AllGoOn P (moves e s) = P s
AllGoOn P (tells request e s) = P s
AllGoOn P (asks request answers) = (granted : Bool) → P (answers granted)
AllGoOn P (picks count taking) = (i : ℕ) → i < count → P (taking i)

-- In every run of a well-formed program a step of such bodies looks at no ghost, leaves each as it is, and leaves the bodies so.
abbrev pub ShunnedObjectsAreUntouched : Type 0
ShunnedObjectsAreUntouched =
    (program : Program) → IsWellFormed (program_form program) → (input : List ℤ) (events : List Event) (s : State)
    → Run program (first_state program input) events s → (shuns : ℕ → Bool) (apart : Apart) → AreApart (program_form program) program.types.items shuns apart
    → (ghosts unnamed : Id → Bool)
    (behind : List (Frame Value)) (lower : List Master) → IsReaching (program_form program) shuns apart ghosts unnamed behind lower s → IsWithin behind s
    → Untouched program.types.items none_hidden ghosts s
    × AllGoOn (GoesOn (program_form program) shuns apart ghosts unnamed behind lower s.heap) (next program.types.items (body_forms program) s)
