-- What a step does to objects: each stays the object that it was, and words that are back were back before or go back now.

use Rattle.std.proofs.Common.{◌≡◌, ◌≢◌, true, false, List, [], ◌∷◌, ◌++◌, length, refl, ap, ◌∙◌, ◌⊎◌, inl, inr}
use Rattle.std.specs.Prelude.{Some}
use Rattle.std.specs.List.{slice_get, slice_set}
use Rattle.ada_meaning.specs.declared.state.Id.{Id}
use Rattle.ada_meaning.specs.Named.{Object, object_at}
use Rattle.ada_meaning.specs.Run.{Event}
use Rattle.ada_meaning.specs.Law.{GivesBackOf}
use Rattle.ada_sound.proofs.Objects.{get_more, more_get, set_other, set_here, set_get}
use Rattle.ada_sound.proofs.Values.{same_or_not}

-- The words of an object are back.
abbrev pub BackIn : List Object → Id → Type 0
BackIn heap o = (x : Object) × (object_at heap o ≡ Some x) × (x.out ≡ false)

-- An object is of its access type, with its trace number and its home, as before (4.8); its components may have other values (5.2).
abbrev pub StaysItself : (before after : Object) → Type 0
StaysItself before after =
    (after.cell.access ≡ before.cell.access) × (after.cell.number ≡ before.cell.number) × (after.cell.home ≡ before.cell.home)

pub record Alters (before : List Object) (e : Event) (after : List Object) : Type 0 where
  pub kept : (o : Id) (x : Object) → object_at before o ≡ Some x → (y : Object) × (object_at after o ≡ Some y) × StaysItself x y × (x.out ≡ false → y.out ≡ false)
  pub told : (o : Id) (y : Object) → object_at after o ≡ Some y → y.out ≡ false → BackIn before o ⊎ GivesBackOf o e

pub alters_same : (heap : List Object) (e : Event) → Alters heap e heap
alters_same heap e = record { kept = λ o x is. (x, is, (refl, refl, refl), λ h. h); told = λ o y is back. inl (y, is, back) }

pub alters_new : (heap : List Object) (e : Event) (y : Object) → y.out ≡ true → Alters heap e (heap ++ y ∷ [])
alters_new heap e y out = record { kept = λ o x is. (x, get_more heap y o.0 x is, (refl, refl, refl), λ h. h); told = λ o z is back. go o z back (more_get heap y o.0 z is) }
  where
    go : (o : Id) (z : Object) → z.out ≡ false → (slice_get heap o.0 ≡ Some z) ⊎ ((o.0 ≡ length heap) × (z ≡ y)) → BackIn heap o ⊎ GivesBackOf o e
    go o z back (inl is) = inl (z, is, back)
    go o z back (inr is) = let b = rw is.1 at back in absurd (cc (out, b))

-- One object changes.
module _ (heap : List Object) (e : Event) (o : Id) (x y : Object) (found : object_at heap o ≡ Some x) (itself : StaysItself x y) (stays : x.out ≡ false → y.out ≡ false) (told : y.out ≡ false → (x.out ≡ false) ⊎ GivesBackOf o e) where
  kept_at : (p : Id) (z : Object) → object_at heap p ≡ Some z → (p.0 ≡ o.0) ⊎ (p.0 ≢ o.0) → (w : Object) × (object_at (slice_set heap o.0 y) p ≡ Some w) × StaysItself z w × (z.out ≡ false → w.out ≡ false)
  kept_at p z is (inl same) =
      let z_is : z ≡ x = let h = rw same at is in cc (h, found) in
      (y, rw same (set_here heap o.0 x y found), rw z_is itself, rw z_is stays)
  kept_at p z is (inr ne) = (z, rw (set_other heap o.0 p.0 y ne) is, (refl, refl, refl), λ h. h)

  told_at : (p : Id) (z : Object) → z.out ≡ false → ((p.0 ≡ o.0) × (z ≡ y)) ⊎ ((p.0 ≢ o.0) × (slice_get heap p.0 ≡ Some z)) → BackIn heap p ⊎ GivesBackOf p e
  told_at p z back (inl is) =
      let same : p ≡ o = ap (λ n. record { 0 = n }) is.0 in
      rw same (elim (told (rw is.1 at back)) [ inl h ↦ inl (x, found, h) | inr h ↦ inr h ])
  told_at p z back (inr is) = inl (z, is.1, back)

  pub alters_set : Alters heap e (slice_set heap o.0 y)
  alters_set = record { kept = λ p z is. kept_at p z is (same_or_not p.0 o.0); told = λ p z is back. told_at p z back (set_get heap o.0 p.0 y z is) }

-- One change after another.
pub alters_then : (before mid after : List Object) (e : Event) → Alters before e mid → Alters mid e after → Alters before e after
alters_then before mid after e first second = record {
  kept = λ o x is.
      let y = first.kept o x is in
      let z = second.kept o y.0 y.1 in
      (z.0, z.1, (z.2.0 ∙ y.2.0, z.2.1 ∙ y.2.1, z.2.2 ∙ y.2.2), λ out. z.3 (y.3 out));
  told = λ o z is back. elim (second.told o z is back) [ inl mid_back ↦ first.told o mid_back.0 mid_back.1 mid_back.2 | inr told ↦ inr told ];
}
