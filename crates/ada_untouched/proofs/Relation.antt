-- What the law needs of a relation on heaps: what is looked for is found in both, and whatever becomes of an object keeps it.

use Rattle.std.proofs.Common.{◌≡◌, ℕ, ◌+◌, Bool, List, [], ◌∷◌}
use Rattle.ada_meaning.specs.declared.state.Id.{Id}
use Rattle.ada_meaning.specs.declared.state.Value.{Value}
use Rattle.ada_meaning.specs.Heap.{PartState, Cell}
use Rattle.ada_meaning.specs.Step.{stored_from}
use Rattle.ada_meaning.specs.Named.{Object, Next, named, look, lent, standing, create, created, parted, finished, returned, treated, on_object, store, members}
use Rattle.ada_untouched.specs.Alike.{HeapsAlike, SparesGhosts, NextBy}
use Rattle.ada_untouched.specs.Untouched.{hides, IsInSight}
use Rattle.ada_untouched.proofs.Heaps.{CellsAlike, parted_alike, finished_alike, returned_alike, treated_alike, look_alike, lent_alike, standing_alike, on_alike, store_alike, create_alike, created_alike, members_alike}

-- Of two heaps that are related so: what may be looked for is found in both, but for hidden components; the next name is the same; and so are the members of
-- a collection, where no ghost has its home in its item. They are so again where an object changes in both, or comes to both.
pub record Keeps (hidden : Id → (component : ℕ) → Bool) (ghosts : Id → Bool) (AreSo : List Object → List Object → Type 0) : Type 0 where
  pub looks : (h k : List Object) → AreSo h k → (v : Value) → IsInSight ghosts v → CellsAlike (hides hidden v) (look h v) (look k v)
  pub lends : (h k : List Object) → AreSo h k → (v : Value) → IsInSight ghosts v → CellsAlike (hides hidden v) (lent h v) (lent k v)
  pub stands : (h k : List Object) → AreSo h k → (v : Value) → IsInSight ghosts v → CellsAlike (hides hidden v) (standing h v) (standing k v)
  pub names : (h k : List Object) → AreSo h k → (words : ℕ) → created k words ≡ created h words
  pub collects : (h k : List Object) → AreSo h k → (item : ℕ) → members k item ≡ members h item
  pub parts : (h k : List Object) → AreSo h k → (v : Value) → AreSo (on_object parted h v) (on_object parted k v)
  pub finishes : (h k : List Object) → AreSo h k → (v : Value) → AreSo (on_object finished h v) (on_object finished k v)
  pub returns : (h k : List Object) → AreSo h k → (v : Value) → AreSo (on_object returned h v) (on_object returned k v)
  pub fills : (h k : List Object) → AreSo h k → (v : Value) (c : ℕ) (u : Value) → AreSo (store h v c u) (store k v c u)
  pub treats :
      (h k : List Object) → AreSo h k → (change : PartState → PartState) (part : ℕ) (v : Value)
      → AreSo (on_object (treated change part) h v) (on_object (treated change part) k v)
  pub creates : (h k : List Object) → AreSo h k → (words : ℕ) (cell : Cell Value) → AreSo (create h words cell) (create k words cell)

-- What comes next is the same, but that the heaps are related so; and each event spares the ghosts.
abbrev pub NextSo : (ghosts : Id → Bool) → (AreSo : List Object → List Object → Type 0) → Next → Next → Type 0
NextSo ghosts AreSo coming n = NextBy AreSo (SparesGhosts ghosts) coming n

-- Components from one on get these values in both.
pub stored_so :
    {hidden : Id → (component : ℕ) → Bool} {ghosts : Id → Bool} {AreSo : List Object → List Object → Type 0} (keeps : Keeps hidden ghosts AreSo)
    (us : List Value) (h k : List Object) (v : Value) (c : ℕ) → AreSo h k → AreSo (stored_from named h v c us) (stored_from named k v c us)
stored_so keeps [] h k v c a = a
stored_so keeps (u ∷ us) h k v c a = stored_so keeps us (store h v c u) (store k v c u) v (c + 1) (keeps.fills h k a v c u)

-- Heaps that are alike are related so.
pub heaps_alike_keep : (hidden : Id → (component : ℕ) → Bool) (ghosts : Id → Bool) → Keeps hidden ghosts (HeapsAlike hidden ghosts)
heaps_alike_keep hidden ghosts = record {
  looks = look_alike hidden ghosts;
  lends = lent_alike hidden ghosts;
  stands = standing_alike hidden ghosts;
  names = created_alike hidden ghosts;
  collects = members_alike hidden ghosts;
  parts = λ h k a. on_alike hidden ghosts h k a parted parted_alike;
  finishes = λ h k a. on_alike hidden ghosts h k a finished finished_alike;
  returns = λ h k a. on_alike hidden ghosts h k a returned returned_alike;
  fills = store_alike hidden ghosts;
  treats = λ h k a change part. on_alike hidden ghosts h k a (treated change part) (treated_alike change part);
  creates = create_alike hidden ghosts;
}
