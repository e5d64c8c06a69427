-- What is read behind an object whose values and whose words end.

use Rattle.std.proofs.Common.{◌≡◌, ℕ, Bool, true, false, cond, List, Option, Some, refl, sym, ap, ◌∙◌, inl, inr, subst, arith}
use Rattle.std.specs.Prelude.{◌==◌, is_some}
use Rattle.std.specs.List.{slice_get}
use Rattle.std.proofs.lemmas.Bool.Decides.{eqb_tells}
use Rattle.ada_program.specs.declared.program.TypeDefinition.{TypeDefinition}
use Rattle.ada_meaning.specs.declared.state.Id.{Id}
use Rattle.ada_meaning.specs.declared.state.Value.{Value}
use Rattle.ada_meaning.specs.declared.state.Value.TheVariants.{Names}
use Rattle.ada_meaning.specs.Heap.{PartState}
use Rattle.ada_meaning.specs.State.{Activation, Item, Master}
use Rattle.ada_meaning.specs.Named.{Object, on_object, changed, treated, finished, finalized_part}
use Rattle.ada_storage.specs.State.{put, put_part, in_items, in_members, placed, listed, parted, parted_item, without}
use Rattle.ada_storage.specs.State as storage
use Rattle.ada_storage.specs.Step.{gone}
use Rattle.ada_storage.proofs.Invariant.{Alive, Objects, Fits}
use Rattle.ada_following.specs.Reading.{is_out, listed_in}
use Rattle.ada_following.proofs.Heaps.{Heap, set_here, Unlists, Returns}
use Rattle.ada_following.proofs.PartTables.{parts_kept}
use Rattle.ada_following.proofs.Places.{Listing, Items, Drops, in_without, in_others, members_le, listed_le, items_drop, items_absent, absent}
use Rattle.ada_following.proofs.Sound.{sound_unlists, sound_returns}
use Rattle.ada_following.proofs.Frames.{Control, Static, static, listing, Reads}
use Rattle.ada_following.proofs.Readings.{reads_drop, reads_alive}
use Rattle.ada_following.proofs.Treated.{put_elsewhere, static_treated, listing_treated}
use Rattle.ada_following.proofs.Follows.{Facts, same_static, same_listing, reads_same}

-- An object that has ceased to exist.
pub now_gone : (h : Heap) (o : Id) (x : Object) → slice_get h o.0 ≡ Some x → slice_get (on_object finished h (Names o)) o.0 ≡ Some (finished x)
now_gone h o x there = ap (λ (f : Option Object). slice_get (changed finished f h o) o.0) there ∙ set_here h o.0 x (finished x) there

-- It is listed no more.
pub drops_listed : (o : ℕ) (h g : Heap) → Unlists o h g → Drops o (listing h) (listing g)
drops_listed o h g u = record {
  rest = λ i x ne. ap (storage.in_list x) (u.listed i) ∙ in_others o x (listed_in h i) ne;
  none = λ i. ap (storage.in_list o) (u.listed i) ∙ in_without o (listed_in h i);
}

pub items_away : {L : Listing} {is : List Item} {js : List storage.Item} (o : ℕ) (K : Listing) → Drops o L K → in_items o js ≡ 0 → Items L is js → Items K is js
items_away {is = is} {js = js} o K d z items =
    let le = members_le o js in
    subst (λ (ks : List storage.Item). Items K is ks) (items_absent o js (omega (arith, le, z))) (items_drop o K d items (omega (arith, le, z)))

pub static_unlists : (o : ℕ) (h g : Heap) → Unlists o h g → static g ≡ static h
static_unlists o h g u = same_static h g (λ y p. ap is_some (u.parts y p)) u.joins

module _ {types : List TypeDefinition} {A : Alive} {acts : List (Activation Value)} {k : Control} {ms : List Master} {c : storage.Control} {w : Bool} where
  pub reads_away : {S : Static} {L : Listing} (o : ℕ) (K : Listing) → Drops o L K → placed o c ≡ 0 → Reads types S w L A acts k ms c → Reads types S w K A acts k ms c
  reads_away {S} o K d z reads =
      let le = listed_le o c in
      subst (λ (l : storage.Control). Reads types S w K A acts k ms l) (absent o c (omega (arith, le, z))) (reads_drop o K d (omega (arith, le, z)) reads)

  pub reads_unlisted : (o : ℕ) (h g : Heap) → Unlists o h g → placed o c ≡ 0 → Reads types (static h) w (listing h) A acts k ms c → Reads types (static g) w (listing g) A acts k ms c
  reads_unlisted o h g u z reads = reads_same (static_unlists o h g u) refl (reads_away o (listing g) (drops_listed o h g u) z reads)

  -- It leaves its collection.
  pub reads_parted : (o : ℕ) (h g : Heap) → Unlists o h g → placed o c ≡ listed o c → Reads types (static h) w (listing h) A acts k ms c → Reads types (static g) w (listing g) A acts k ms (parted o c)
  reads_parted o h g u e reads = reads_same (static_unlists o h g u) refl (reads_drop o (listing g) (drops_listed o h g u) e reads)

  -- Its words are back.
  pub reads_returned : (o : ℕ) (h g : Heap) → Returns o h g → Reads types (static h) w (listing h) A acts k ms c → Reads types (static g) w (listing g) A acts k ms c
  reads_returned o h g u reads = reads_same (same_static h g (λ y p. ap is_some (u.parts y p)) u.joins) (same_listing h g u.listed) reads

  -- The value of a part of it is finalized.
  pub reads_dies :
      (T : Objects) (h : Heap) (n : ℕ) (o : Id) (p : ℕ) (x : Object) (q : PartState) → slice_get h o.0 ≡ Some x → slice_get x.cell.parts p ≡ Some q → Fits A T c → placed o.0 c ≡ 0
      → Reads types (static h) w (listing h) A acts k ms c
      → Reads types (static (on_object (treated finalized_part p) h (Names o))) w (listing (on_object (treated finalized_part p) h (Names o))) (put_part A o.0 p false) acts k ms c
  reads_dies T h n o p x q there part_there fits z reads =
      reads_same (static_treated types h ms n o p x q there part_there finalized_part) (listing_treated types h ms n o p x q there part_there finalized_part)
      (reads_alive T o.0 (put_part A o.0 p false) (put_elsewhere A o.0 p false) fits z reads)

pub items_returned : {is : List Item} {js : List storage.Item} (o : ℕ) (h g : Heap) → Returns o h g → Items (listing h) is js → Items (listing g) is js
items_returned {is} {js} o h g u items = subst (λ (L : Listing). Items L is js) (sym (same_listing h g u.listed)) items

-- Words that are back.
lives_gone : (b : Bool) (object : storage.Object) (other : storage.Object) → (cond b (record object { lives = false }) other).lives ≡ cond b false other.lives
lives_gone true object other = refl
lives_gone false object other = refl

shape_gone : (T : ℕ → storage.Object) (o y : ℕ) → (put T o (record (T o) { lives = false }) y).shape ≡ (T y).shape
shape_gone T o y = elim (eqb_tells y o) [ inl h ↦ (ap (λ (b : Bool). (cond b (record (T o) { lives = false }) (T y)).shape) h.0 ∙ ap (λ (z : ℕ). (T z).shape) (sym h.1)) | inr h ↦ ap (λ (b : Bool). (cond b (record (T o) { lives = false }) (T y)).shape) h.0 ]

out_gone :
    (s : storage.State) (h g : Heap) (o : ℕ) → ((y : ℕ) → (s.objects y).lives ≡ is_out (slice_get h y)) → Returns o h g → (y : ℕ)
    → (put s.objects o (record (s.objects o) { lives = false }) y).lives ≡ is_out (slice_get g y)
out_gone s h g o out u y = lives_gone (y == o) (s.objects o) (s.objects y) ∙ ap (λ (b : Bool). cond (y == o) false b) (out y) ∙ sym (u.out y)

pub facts_returned : (types : List TypeDefinition) (ms : List Master) (n : ℕ) (s : storage.State) (h g : Heap) (o : ℕ) → Returns o h g → Facts types h ms n s → Facts types g ms n (gone o s)
facts_returned types ms n s h g o u f =
    let kept = parts_kept types h g s.objects s.alive s.turn u.access u.parts f.shape in
    let count = u.count in
    let created = f.created in
    record {
      out = out_gone s h g o f.out u;
      shape = record { shape = λ y. shape_gone s.objects o y ∙ kept.shape y; alive = kept.alive; turn = kept.turn };
      created = omega (arith, count, created);
      next = f.next;
      sound = sound_returns h g o ms u f.sound;
    }

pub facts_unlisted : (types : List TypeDefinition) (ms : List Master) (n : ℕ) (s : storage.State) (h g : Heap) (o : ℕ) → Unlists o h g → Facts types h ms n s → Facts types g ms n s
facts_unlisted types ms n s h g o u f =
    let count = u.count in
    let created = f.created in
    record {
      out = λ y. f.out y ∙ sym (u.out y);
      shape = parts_kept types h g s.objects s.alive s.turn u.access u.parts f.shape;
      created = omega (arith, count, created);
      next = f.next;
      sound = sound_unlists h g o ms u f.sound;
    }
