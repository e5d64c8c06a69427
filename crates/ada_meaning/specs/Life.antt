-- Laws of names and objects over any run, of any program.

use Rattle.std.specs.Prelude.{◌≡◌, false, List, [], ◌∷◌, Some, AllPairs}
use Rattle.ada_program.specs.declared.program.Program.{Program}
use Rattle.ada_meaning.specs.declared.state.Id.{Id}
use Rattle.ada_meaning.specs.declared.state.Stage.TheVariants.{Gone}
use Rattle.ada_meaning.specs.Named.{Object, State, object_at}
use Rattle.ada_meaning.specs.Run.{Event, Run}
use Rattle.ada_meaning.specs.Law.{BackTwoObjects}

-- An object stays the object that it was: its access type, its trace number and its home are the same; once gone it is gone, once out of
-- its collection it stays out of it, and once its words are back they are.
pub record Remains (before after : Object) : Type 0 where
  pub access : after.cell.access ≡ before.cell.access
  pub number : after.cell.number ≡ before.cell.number
  pub home : after.cell.home ≡ before.cell.home
  pub gone : before.stage ≡ Gone → after.stage ≡ Gone
  pub unlisted : before.listed ≡ false → after.listed ≡ false
  pub back : before.out ≡ false → after.out ≡ false

-- Each name that was given keeps its object; new names come after them.
abbrev pub KeepsObjects : List Object → List Object → Type 0
KeepsObjects [] after = Unit {0}
KeepsObjects (x ∷ before) [] = ⊥
KeepsObjects (x ∷ before) (y ∷ after) = Remains x y × KeepsObjects before after

-- A name is never used twice: over any run each name keeps its object.
abbrev pub NamesAreUsedOnce : Type 0
NamesAreUsedOnce = (program : Program) (s last : State) (events : List Event) → Run program s events last → KeepsObjects s.heap last.heap

-- An object never leaves the stage gone.
abbrev pub GoneForEver : Type 0
GoneForEver = (program : Program) (s last : State) (events : List Event) (o : Id) (object : Object) → Run program s events last → object_at s.heap o ≡ Some object → object.stage ≡ Gone → (after : Object) × ((object_at last.heap o ≡ Some after) × (after.stage ≡ Gone))

-- The words of an object go back at most once, in any run.
abbrev pub BackOnce : Type 0
BackOnce = (program : Program) (s last : State) (events : List Event) → Run program s events last → AllPairs BackTwoObjects events
