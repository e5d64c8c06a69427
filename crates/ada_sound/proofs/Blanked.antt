-- Heaps in which the tracked components of an object hold null (7.6): what is so of objects there is so in the real heap.

use Rattle.std.proofs.Common.{◌≡◌, ◌≢◌, ℕ, false, List, refl, sym, ap, ◌∙◌, ◌⊎◌, inl, inr, subst}
use Rattle.std.specs.Prelude.{Option, Some, None}
use Rattle.std.specs.List.{slice_get, slice_set}
use Rattle.ada_program.specs.ProgramForm.{ProgramForm}
use Rattle.ada_effects.specs.Effects.{Implicit}
use Rattle.ada_meaning.specs.declared.state.Id.{Id}
use Rattle.ada_meaning.specs.declared.event.Halt.{Halt}
use Rattle.ada_meaning.specs.declared.event.Halt.TheVariants.{Finished, Unhandled, Escaped, Erroneous, Stuck, Memory}
use Rattle.ada_meaning.specs.Event.{Born, Finalized, Back, Followed, Left, Line, Quiet}
use Rattle.ada_meaning.specs.Heap.{Home}
use Rattle.ada_meaning.specs.State.{Item, Master}
use Rattle.ada_meaning.specs.Named.{Object, State, object_at, changed}
use Rattle.ada_meaning.specs.Run.{Event}
use Rattle.ada_meaning.specs.Law.{GivesBackOf, LeavesHome, leaving_by}
use Rattle.ada_owners.specs.Places.{access_at, is_there}
use Rattle.ada_owners.proofs.Changes.{access_set}
use Rattle.ada_tracked.specs.Frames.{View, watched, blank_object, blanked}
use Rattle.ada_sound.proofs.Alters.{BackIn, StaysItself, Alters}
use Rattle.ada_sound.proofs.Invariant.{Says, EndsWell}
use Rattle.ada_sound.proofs.Objects.{set_get, set_here, set_other}
use Rattle.ada_sound.proofs.Stored.{AllOut, Sane, Stored}
use Rattle.ada_sound.proofs.Values.{same_or_not}

-- Two objects that are alike but for what their components hold.
pub record Alike (x y : Object) : Type 0 where
  pub access : y.cell.access ≡ x.cell.access
  pub number : y.cell.number ≡ x.cell.number
  pub home : y.cell.home ≡ x.cell.home
  pub parts : y.cell.parts ≡ x.cell.parts
  pub stage : y.stage ≡ x.stage
  pub listed : y.listed ≡ x.listed
  pub out : y.out ≡ x.out

alike_itself : (x : Object) → Alike x x
alike_itself x = record { access = refl; number = refl; home = refl; parts = refl; stage = refl; listed = refl; out = refl }

alike_blank : (bs : List ℕ) (x : Object) → Alike x (blank_object bs x)
alike_blank bs x = record { access = refl; number = refl; home = refl; parts = refl; stage = refl; listed = refl; out = refl }

alike_back : {x y : Object} → Alike x y → Alike y x
alike_back a = record { access = sym a.access; number = sym a.number; home = sym a.home; parts = sym a.parts; stage = sym a.stage; listed = sym a.listed; out = sym a.out }

-- There is an object of this name that is like this one.
pub record HasAlike (heap : List Object) (o : Id) (x : Object) : Type 0 where
  pub object : Object
  pub found : object_at heap o ≡ Some object
  pub alike : Alike x object

-- The objects of the one heap are like those of the other.
module _ (w : View) (h : List Object) where
  unblanked_by :
      (there : Option Object) → object_at h w.object ≡ there → (o : Id) (y : Object)
      → object_at (changed (blank_object (watched w)) there h w.object) o ≡ Some y → HasAlike h o y
  unblanked_by None is o y at = record { object = y; found = at; alike = alike_itself y }
  unblanked_by (Some x) is o y at = go (set_get h w.object.0 o.0 (blank_object (watched w) x) y at)
    where
      go : ((o.0 ≡ w.object.0) × (y ≡ blank_object (watched w) x)) ⊎ ((o.0 ≢ w.object.0) × (slice_get h o.0 ≡ Some y)) → HasAlike h o y
      go (inl e) = record {
        object = x;
        found = ap (λ (n : ℕ). slice_get h n) e.0 ∙ is;
        alike = subst (λ (z : Object). Alike z x) (sym e.1) (alike_back (alike_blank (watched w) x));
      }
      go (inr e) = record { object = y; found = e.1; alike = alike_itself y }

  pub unblanked : (o : Id) (y : Object) → object_at (blanked w h) o ≡ Some y → HasAlike h o y
  unblanked o y at = unblanked_by (object_at h w.object) refl o y at

  blanked_by :
      (there : Option Object) → object_at h w.object ≡ there → (o : Id) (x : Object) → object_at h o ≡ Some x
      → HasAlike (changed (blank_object (watched w)) there h w.object) o x
  blanked_by None is o x at = record { object = x; found = at; alike = alike_itself x }
  blanked_by (Some z) is o x at = go (same_or_not o.0 w.object.0)
    where
      go : (o.0 ≡ w.object.0) ⊎ (o.0 ≢ w.object.0) → HasAlike (slice_set h w.object.0 (blank_object (watched w) z)) o x
      go (inl e) =
          let one : z ≡ x = let here = ap (λ (n : ℕ). slice_get h n) e in cc (here, is, at) in
          record {
            object = blank_object (watched w) z;
            found =
                ap (λ (n : ℕ). slice_get (slice_set h w.object.0 (blank_object (watched w) z)) n) e
                ∙ set_here h w.object.0 z (blank_object (watched w) z) is;
            alike = subst (λ (y : Object). Alike y (blank_object (watched w) z)) one (alike_blank (watched w) z);
          }
      go (inr ne) = record { object = x; found = set_other h w.object.0 o.0 (blank_object (watched w) z) ne ∙ at; alike = alike_itself x }

  pub blanked_at : (o : Id) (x : Object) → object_at h o ≡ Some x → HasAlike (blanked w h) o x
  blanked_at o x at = blanked_by (object_at h w.object) refl o x at

-- So each is of its access type, or there is none in both.
access_by :
    (w : View) (h : List Object) (there : Option Object) → object_at h w.object ≡ there → (o : Id)
    → access_at (changed (blank_object (watched w)) there h w.object) o ≡ access_at h o
access_by w h None is o = refl
access_by w h (Some x) is o = access_set h w.object x is (blank_object (watched w) x) refl o

pub access_blanked : (w : View) (h : List Object) (o : Id) → access_at (blanked w h) o ≡ access_at h o
access_blanked w h o = access_by w h (object_at h w.object) refl o

-- Words that are back there are back here.
back_unblanked : (w : View) (h : List Object) (o : Id) → BackIn (blanked w h) o → BackIn h o
back_unblanked w h o (y, found, back) = let a = unblanked w h o y found in (a.object, a.found, a.alike.out ∙ back)

-- What is so of an object is so of one that is like it.
sane_alike : {under : List Id} {items : List Item} {o : Id} {x y : Object} → Alike x y → Sane under items o x → Sane under items o y
sane_alike {under} {items} {o} {x} {y} a s = record {
  back_unlisted = λ back. a.listed ∙ s.back_unlisted (sym a.out ∙ back);
  listed_exists = λ listed. a.stage ∙ s.listed_exists (sym a.listed ∙ listed);
  there_exists = λ there. a.stage ∙ s.there_exists (rw a.stage at there);
  housed = λ out. rw (a.home, a.access) (s.housed (sym a.out ∙ out));
  out_listed = λ out. elim (s.out_listed (sym a.out ∙ out)) [ inl listed ↦ inl (a.listed ∙ listed) | inr under ↦ inr under ];
}

-- Of what is there the words are out there, if they are here.
pub out_blanked : (w : View) (h : List Object) → AllOut h → AllOut (blanked w h)
out_blanked w h out o y found there =
    let a = unblanked w h o y found in
    sym a.alike.out ∙ out o a.object a.found (ap is_there a.alike.stage ∙ there)

pub stored_unblanked : {under : List Id} {masters : List Master} (w : View) (h : List Object) → Stored under (blanked w h) masters → Stored under h masters
stored_unblanked w h s = record {
  counted = s.counted;
  sane = λ o x at. let a = blanked_at w h o x at in sane_alike (alike_back a.alike) (s.sane o a.object a.found);
}

-- What a step does to objects of the one heap it does to those of the other.
pub alters_unblanked : (w : View) (h later : List Object) (e : Event) → Alters (blanked w h) e (blanked w later) → Alters h e later
alters_unblanked w h later e a = record { kept = kept; told = told }
  where
    kept : (o : Id) (x : Object) → object_at h o ≡ Some x → (y : Object) × (object_at later o ≡ Some y) × StaysItself x y × (x.out ≡ false → y.out ≡ false)
    kept o x is =
        let before = blanked_at w h o x is in
        let k = a.kept o before.object before.found in
        let after = unblanked w later o k.0 k.1 in
        let itself = k.2 in (
          after.object,
          after.found,
          (
            after.alike.access ∙ (itself.0 ∙ before.alike.access),
            after.alike.number ∙ (itself.1 ∙ before.alike.number),
            after.alike.home ∙ (itself.2 ∙ before.alike.home),
          ),
          λ back. after.alike.out ∙ k.3 (before.alike.out ∙ back),
        )

    told : (o : Id) (y : Object) → object_at later o ≡ Some y → y.out ≡ false → BackIn h o ⊎ GivesBackOf o e
    told o y is back =
        let after = blanked_at w later o y is in
        elim (a.told o after.object after.found (after.alike.out ∙ back)) [ inl before ↦ inl (back_unblanked w h o before) | inr gives ↦ inr gives ]

-- What an event says of the one heap it says of the other.
pub says_unblanked :
    (implicit : Implicit) (p : ProgramForm) (w : View) (h : List Object) (e : Event) (after s : State) → after.heap ≡ blanked w s.heap
    → Says implicit p e (blanked w h) after → Says implicit p e h s
says_unblanked implicit p w h (Born object part turn type number by) after s is says = tt
says_unblanked implicit p w h (Finalized object part turn type number cause) after s is says = tt
says_unblanked implicit p w h (Back object access number pool subpool cause) after s is says =
    let a = unblanked w h says.id says.object says.found in
    let home = a.alike.home in
    record {
      id = says.id;
      object = a.object;
      is = says.is;
      found = a.found;
      out = a.alike.out ∙ says.out;
      of_type = a.alike.access ∙ says.of_type;
      numbered = a.alike.number ∙ says.numbered;
      to_pool = ap (λ (at_home : Home). at_home.pool) home ∙ says.to_pool;
      to_subpool = ap (λ (at_home : Home). at_home.subpool) home ∙ says.to_subpool;
      home = subst (λ (at_home : Home). LeavesHome at_home (leaving_by (Some cause))) (sym home) says.home;
      covered = says.covered;
      back = back_unblanked w s.heap says.id (subst (λ (heap : List Object). BackIn heap says.id) is says.back);
    }
says_unblanked implicit p w h (Followed object) after s is says =
    let a = unblanked w h says.id says.object says.found in
    record { id = says.id; object = a.object; is = says.is; found = a.found; there = ap is_there a.alike.stage ∙ says.there }
says_unblanked implicit p w h (Left master) after s is says = tt
says_unblanked implicit p w h (Line line) after s is says = tt
says_unblanked implicit p w h Quiet after s is says = tt

-- A run ends well that does so there.
pub ends_unblanked : (w : View) (halt : Halt) (h : List Object) (masters : List Master) → EndsWell halt (blanked w h) masters → EndsWell halt h masters
ends_unblanked w Finished h masters ends = (stored_unblanked w h ends.0, ends.1)
ends_unblanked w (Unhandled e) h masters ends = (stored_unblanked w h ends.0, ends.1)
ends_unblanked w (Escaped e) h masters ends = absurd ends
ends_unblanked w (Erroneous why) h masters ends = absurd ends
ends_unblanked w Stuck h masters ends = tt
ends_unblanked w Memory h masters ends = tt
