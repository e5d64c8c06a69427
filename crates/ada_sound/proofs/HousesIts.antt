-- Where a master is left (7.6.1), each object that goes with its newest item is of the type that the item is the home of.

use Rattle.std.proofs.Common.{◌≡◌, List, [], ◌∷◌, ◌++◌, refl}
use Rattle.std.specs.Prelude.{◌==◌}
use Rattle.std.proofs.lemmas.Bool.{and_parts, eqb-true}
use Rattle.ada_meaning.specs.declared.state.Id.{Id}
use Rattle.ada_meaning.specs.Frame.{Leaves}
use Rattle.ada_meaning.specs.Law.{items_of}
use Rattle.ada_meaning.specs.State.{Item, Master}
use Rattle.ada_meaning.specs.Named.{Object}
use Rattle.ada_reaching.specs.Law.{FirstHousesIts, InnermostHousesIts, NewestHousesIts}
use Rattle.ada_sound.proofs.Invariant.{Control}
use Rattle.ada_sound.proofs.Items.{houses_type, newest_is}
use Rattle.ada_sound.proofs.Stored.{Stored, listed_out}

-- The item of a number is the only one, so that the newest item is the home of its members.
newest_houses_its : {under : List Id} (heap : List Object) (m : Master) (ms : List Master) (is : List Item) → m.items ≡ is → Stored under heap (m ∷ ms)
    → NewestHousesIts heap is
newest_houses_its heap m ms [] items stored = tt
newest_houses_its heap m ms (i ∷ is) items stored = λ o x found member.
    let both = and_parts x.listed (x.cell.home.item == i.number) member in
    let sane = stored.sane o x found in
    let housed = sane.housed (listed_out o x found both.0 stored) in
    houses_type i.owned x.cell.access x.cell.home.pool
    (newest_is x.cell.home.item x.cell.access x.cell.home.pool i (is ++ items_of ms) (eqb-true x.cell.home.item i.number both.1) (rw items at stored.counted)
    (rw items at housed))

-- So it is in the innermost master.
pub innermost_houses_its : {under : List Id} (heap : List Object) (ms : List Master) → Stored under heap ms → InnermostHousesIts heap ms
innermost_houses_its heap [] stored = tt
innermost_houses_its heap (m ∷ ms) stored = newest_houses_its heap m ms m.items refl stored

-- So it is where that one is left first.
pub first_houses_its : {under : List Id} (k : Control) (heap : List Object) (ms : List Master) → Stored under heap ms → FirstHousesIts k heap ms
first_houses_its (Leaves mode ∷ k) heap ms stored = innermost_houses_its heap ms stored
first_houses_its k heap ms stored = tt
