-- Back from the heap in which a component is written: objects are stored there as they are where it isn't.

use Rattle.std.proofs.Common.{◌≡◌, ◌≢◌, ℕ, List, refl, ap, ◌⊎◌, inl, inr}
use Rattle.std.specs.Prelude.{Option, Some, None}
use Rattle.std.specs.List.{slice_set}
use Rattle.ada_meaning.specs.declared.state.Id.{Id}
use Rattle.ada_meaning.specs.declared.state.Value.{Value}
use Rattle.ada_meaning.specs.declared.state.Value.TheVariants.{Null, Names, Scalar, Part}
use Rattle.ada_meaning.specs.State.{Item, Master}
use Rattle.ada_meaning.specs.Named.{Object, object_at, changed, filled, store}
use Rattle.ada_meaning.specs.Law.{items_of}
use Rattle.ada_sound.proofs.Objects.{set_here, set_other}
use Rattle.ada_sound.proofs.Values.{same_or_not}
use Rattle.ada_sound.proofs.Stored.{Sane, Stored}

-- What is so of an object with another value in a component is so of the object.
sane_before : {under : List Id} {items : List Item} (o : Id) (x : Object) (c : ℕ) (v : Value) → Sane under items o (filled c v x) → Sane under items o x
sane_before o x c v h = record { back_unlisted = h.back_unlisted; listed_exists = h.listed_exists; there_exists = h.there_exists; housed = h.housed; out_listed = h.out_listed }

module _ {under : List Id} (heap : List Object) (ms : List Master) (o : Id) (c : ℕ) (v : Value) where
  filled_before : (x : Object) → object_at heap o ≡ Some x → Stored under (slice_set heap o.0 (filled c v x)) ms → Stored under heap ms
  filled_before x found s = record { counted = s.counted; sane = λ p z at. go p z at (same_or_not p.0 o.0) }
    where
      go : (p : Id) (z : Object) → object_at heap p ≡ Some z → (p.0 ≡ o.0) ⊎ (p.0 ≢ o.0) → Sane under (items_of ms) p z
      go p z at (inl same) =
          let here : p ≡ o = ap (λ n. record { 0 = n }) same in
          let found' : object_at heap o ≡ Some z = rw here at at in
          let is : z ≡ x = cc (found, found') in
          rw (here, is) (sane_before o x c v (s.sane o (filled c v x) (set_here heap o.0 x (filled c v x) found)))
      go p z at (inr ne) = s.sane p z (rw (set_other heap o.0 p.0 (filled c v x) ne) at)

  changed_before : (t : Option Object) → object_at heap o ≡ t → Stored under (changed (filled c v) t heap o) ms → Stored under heap ms
  changed_before None is s = s
  changed_before (Some x) is s = filled_before x is s

-- Objects are stored in a heap as they are once a component is written.
pub stored_before : {under : List Id} (heap : List Object) (ms : List Master) (o : Value) (c : ℕ) (v : Value) → Stored under (store heap o c v) ms → Stored under heap ms
stored_before heap ms Null c v s = s
stored_before heap ms (Names o) c v s = changed_before heap ms o c v (object_at heap o) refl s
stored_before heap ms (Scalar n) c v s = s
stored_before heap ms (Part object_id base) c v s = s
