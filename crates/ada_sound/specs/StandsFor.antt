-- A state that stands for another one, while collections are left one after another (7.6.1): their members go one after the other, and while an operation runs for one
-- of them, flow speaks of values of their access types as if those that have gone existed still. No operation follows or frees such a value then (S8).

use Rattle.std.specs.Prelude.{◌≡◌, ◌⊎◌, ◌≤◌, ℕ, false, Option, Some, Contains}
use Rattle.ada_meaning.specs.declared.event.Cause.TheVariants.{Leaving}
use Rattle.ada_meaning.specs.declared.state.Id.{Id}
use Rattle.ada_meaning.specs.declared.state.Stage.TheVariants.{Existing, Gone}
use Rattle.ada_meaning.specs.declared.state.Value.TheVariants.{Names}
use Rattle.ada_meaning.specs.Frame as frame
use Rattle.ada_meaning.specs.Named.{Object, State, object_at}

-- The collection of an access type, which is the item of this number, is being left: the words of a member are to go back for that (7.6.1).
pub record IsBeingLeft (s : State) (access item : ℕ) : Type 0 where
  pub member : Id
  pub object : Object
  pub there : object_at s.heap member ≡ Some object
  pub of_access : object.cell.access ≡ access
  pub at_home : object.cell.home.item ≡ item
  pub master : ℕ
  pub pool : Option ℕ
  pub going : Contains s.control (frame.GivesBack (Names member) (Leaving master item) pool)

-- An object has gone whose home is that item or a newer one, and its words are back; in the other state it exists still.
pub record HasDeparted (item : ℕ) (found seen : Option Object) : Type 0 where
  pub object : Object
  pub there : found ≡ Some object
  pub gone : object.stage ≡ Gone
  pub back : object.out ≡ false
  pub newer : item ≤ object.cell.home.item
  pub is : seen ≡ Some (record object { stage = Existing })

-- A state stands for another one: each object is as it is there, or it is one that has gone so; and all else is the same.
pub record StandsFor (s v : State) (item : ℕ) : Type 0 where
  pub rest : v ≡ record s { heap = v.heap }
  pub objects : (o : Id) → (object_at v.heap o ≡ object_at s.heap o) ⊎ HasDeparted item (object_at s.heap o) (object_at v.heap o)
