-- Heaps in which the tracked components of an object hold null.

use Rattle.std.proofs.Common.{◌≡◌, ◌⊎◌, ℕ, ◌+◌, Bool, true, false, List, [], ◌∷◌, ◌++◌, length, Option, Some, None, refl, sym, ap, ◌∙◌, inl, inr, subst}
use Rattle.std.specs.Prelude.{◌==◌}
use Rattle.std.specs.List.{slice_get, slice_set}
use Rattle.std.proofs.lemmas.List.{set-set, set_comm}
use Rattle.ada_meaning.specs.declared.state.Id.{Id}
use Rattle.ada_meaning.specs.declared.state.Value.{Value}
use Rattle.ada_meaning.specs.declared.state.Value.TheVariants.{Null, Names, Scalar, Part}
use Rattle.ada_meaning.specs.declared.state.Stage.TheVariants.{Existing}
use Rattle.ada_meaning.specs.Heap.{Cell, finds}
use Rattle.ada_meaning.specs.Step.{stored_from}
use Rattle.ada_meaning.specs.Named.{Object, named, object_at, changed, existing, look, lent_by, lent, standing_by, standing as listed_at, create, created, filled, on_object, store}
use Rattle.ada_meaning.specs.Named as named_heap
use Rattle.ada_tracked.specs.Frames.{View, watched, number_of, number_in, blank_object, blanked, values_at, values_of, tracked_values}
use Rattle.ada_tracked.specs.Seen.{IsOther, AreApart, AreBelow}
use Rattle.ada_tracked.proofs.Lists.{same_number, is_same, is_apart, set_here, set_there, add_there, set_add, set_length, untracked_set, untracked_values, tracked_set, tracked_blank}

-- Does a value name this object?
abbrev pub names : Id → Value → Bool
names o Null = false
names o (Names p) = p.0 == o.0
names o (Scalar v) = false
names o (Part p place) = false

-- One that does not lead to it does not.
pub other_names : (o : Id) (v : Value) → IsOther o v → names o v ≡ false
other_names o Null h = refl
other_names o (Names p) h = h
other_names o (Scalar v) h = refl
other_names o (Part p place) h = refl

one_object : (p o : Id) → p.0 ≡ o.0 → Names p ≡ Names o
one_object p o e = ap (λ (i : ℕ). Names (record { 0 = i })) e

by_test : (p o : Id) (b : Bool) → (p.0 == o.0) ≡ b → ((p.0 == o.0) ≡ false) ⊎ (Names p ≡ Names o)
by_test p o true e = inr (one_object p o (is_same p.0 o.0 e))
by_test p o false e = inl e

-- A value does not, or is its name.
pub which : (o : Id) (v : Value) → (names o v ≡ false) ⊎ (v ≡ Names o)
which o Null = inl refl
which o (Names p) = by_test p o (p.0 == o.0) refl
which o (Scalar v) = inl refl
which o (Part p place) = inl refl

-- An object changes.
on_is : (change : Object → Object) (h : List Object) (o : Id) (x : Object) → object_at h o ≡ Some x → on_object change h (Names o) ≡ slice_set h o.0 (change x)
on_is change h o x is = ap (λ (found : Option Object). changed change found h o) is

-- No component is tracked of another object.
pub none_in : (w : View) (v : Value) (c : ℕ) → names w.object v ≡ false → number_in w v c ≡ None
none_in w Null c e = refl
none_in w (Names p) c e = rw e
none_in w (Scalar v) c e = refl
none_in w (Part p place) c e = refl

pub number_there : (w : View) (c : ℕ) → number_in w (Names w.object) c ≡ number_of w c
number_there w c = rw (same_number w.object.0)

module _ (w : View) (h : List Object) (x : Object) (there : object_at h w.object ≡ Some x) where
  blanked_is : blanked w h ≡ slice_set h w.object.0 (blank_object (watched w) x)
  blanked_is = on_is (blank_object (watched w)) h w.object x there

  pub blanked_here : object_at (blanked w h) w.object ≡ Some (blank_object (watched w) x)
  blanked_here = ap (λ (g : List Object). object_at g w.object) blanked_is ∙ set_here h w.object.0 x (blank_object (watched w) x) there

  blanked_there : (i : ℕ) → (i == w.object.0) ≡ false → slice_get (blanked w h) i ≡ slice_get h i
  blanked_there i ne = ap (λ (g : List Object). slice_get g i) blanked_is ∙ set_there h w.object.0 i (blank_object (watched w) x) (is_apart i w.object.0 ne)

  pub blanked_length : length (blanked w h) ≡ length h
  blanked_length = ap (λ (g : List Object). length g) blanked_is ∙ set_length h w.object.0 (blank_object (watched w) x)

  pub values_there : tracked_values w h ≡ values_at (watched w) x.cell.values
  values_there = ap (λ (found : Option Object). values_at (watched w) (values_of found)) there

  -- What is found of other objects.
  pub look_apart : (v : Value) → names w.object v ≡ false → look (blanked w h) v ≡ look h v
  look_apart Null e = refl
  look_apart (Names p) e = ap named_heap.seen (blanked_there p.0 e)
  look_apart (Scalar v) e = refl
  look_apart (Part p place) e = refl

  pub lent_apart : (v : Value) → names w.object v ≡ false → lent (blanked w h) v ≡ lent h v
  lent_apart Null e = refl
  lent_apart (Names p) e = ap lent_by (blanked_there p.0 e)
  lent_apart (Scalar v) e = refl
  lent_apart (Part p place) e = refl

  pub standing_apart : (v : Value) → names w.object v ≡ false → listed_at (blanked w h) v ≡ listed_at h v
  standing_apart Null e = refl
  standing_apart (Names p) e = ap standing_by (blanked_there p.0 e)
  standing_apart (Scalar v) e = refl
  standing_apart (Part p place) e = refl

  -- And of this one.
  pub look_there : x.stage ≡ Existing → look h (Names w.object) ≡ finds x.cell
  look_there is = ap named_heap.seen there ∙ ap (existing x) is

  pub look_blanked : x.stage ≡ Existing → look (blanked w h) (Names w.object) ≡ finds (blank_object (watched w) x).cell
  look_blanked is = ap named_heap.seen blanked_here ∙ ap (existing (blank_object (watched w) x)) is

  -- A change of another object.
  module _ (change : Object → Object) (p : Id) (ne : (p.0 == w.object.0) ≡ false) where
    apart_by : (found : Option Object) → slice_get h p.0 ≡ found → changed change found (blanked w h) p ≡ blanked w (changed change found h p)
    apart_by None is = refl
    apart_by (Some y) is =
        let still : object_at (slice_set h p.0 (change y)) w.object ≡ Some x = set_there h p.0 w.object.0 (change y) (λ e. is_apart p.0 w.object.0 ne (sym e)) ∙ there in
        ap (λ (g : List Object). slice_set g p.0 (change y)) blanked_is
        ∙ set_comm h w.object.0 p.0 (blank_object (watched w) x) (change y) (λ e. is_apart p.0 w.object.0 ne (sym e))
        ∙ sym (on_is (blank_object (watched w)) (slice_set h p.0 (change y)) w.object x still)

    apart_names : on_object change (blanked w h) (Names p) ≡ blanked w (on_object change h (Names p))
    apart_names = ap (λ (found : Option Object). changed change found (blanked w h) p) (blanked_there p.0 ne) ∙ apart_by (slice_get h p.0) refl

    still_by : (found : Option Object) → object_at (changed change found h p) w.object ≡ object_at h w.object
    still_by None = refl
    still_by (Some y) = set_there h p.0 w.object.0 (change y) (λ e. is_apart p.0 w.object.0 ne (sym e))

    values_names : tracked_values w (on_object change h (Names p)) ≡ tracked_values w h
    values_names = ap (λ (found : Option Object). values_at (watched w) (values_of found)) (still_by (slice_get h p.0))

  pub on_apart : (change : Object → Object) (v : Value) → names w.object v ≡ false → on_object change (blanked w h) v ≡ blanked w (on_object change h v)
  on_apart change Null e = refl
  on_apart change (Names p) e = apart_names change p e
  on_apart change (Scalar v) e = refl
  on_apart change (Part p place) e = refl

  pub values_apart : (change : Object → Object) (v : Value) → names w.object v ≡ false → tracked_values w (on_object change h v) ≡ tracked_values w h
  values_apart change Null e = refl
  values_apart change (Names p) e = values_names change p e
  values_apart change (Scalar v) e = refl
  values_apart change (Part p place) e = refl

  -- A change of this one.
  after_set : (y : Object) → object_at (slice_set h w.object.0 y) w.object ≡ Some y
  after_set y = set_here h w.object.0 x y there

  -- Where the tracked components are left alone.
  pub on_there : (change : Object → Object) → change (blank_object (watched w) x) ≡ blank_object (watched w) (change x) → on_object change (blanked w h) (Names w.object) ≡ blanked w (on_object change h (Names w.object))
  on_there change e =
      on_is change (blanked w h) w.object (blank_object (watched w) x) blanked_here
      ∙ ap (λ (g : List Object). slice_set g w.object.0 (change (blank_object (watched w) x))) blanked_is
      ∙ set-set h w.object.0 (blank_object (watched w) x) (change (blank_object (watched w) x))
      ∙ ap (λ (y : Object). slice_set h w.object.0 y) e
      ∙ sym (set-set h w.object.0 (change x) (blank_object (watched w) (change x)))
      ∙ sym (on_is (blank_object (watched w)) (slice_set h w.object.0 (change x)) w.object (change x) (after_set (change x)))
      ∙ ap (blanked w) (sym (on_is change h w.object x there))

  values_on : (change : Object → Object) → tracked_values w (on_object change h (Names w.object)) ≡ values_at (watched w) (change x).cell.values
  values_on change =
      ap (tracked_values w) (on_is change h w.object x there)
      ∙ ap (λ (found : Option Object). values_at (watched w) (values_of found)) (after_set (change x))

  pub values_on_there : (change : Object → Object) → values_at (watched w) (change x).cell.values ≡ values_at (watched w) x.cell.values → tracked_values w (on_object change h (Names w.object)) ≡ tracked_values w h
  values_on_there change e = values_on change ∙ e ∙ sym values_there

  -- Where an untracked component gets a value.
  pub store_untracked : (c : ℕ) (v : Value) → number_of w c ≡ None → store (blanked w h) (Names w.object) c v ≡ blanked w (store h (Names w.object) c v)
  store_untracked c v none =
      on_there (filled c v) (ap (λ (vs : List Value). record x { cell = record (x.cell) { values = vs } }) (sym (untracked_set (watched w) w.tracks.first c v x.cell.values none)))

  pub values_untracked : (c : ℕ) (v : Value) → number_of w c ≡ None → tracked_values w (store h (Names w.object) c v) ≡ tracked_values w h
  values_untracked c v none = values_on_there (filled c v) (untracked_values (watched w) w.tracks.first c v x.cell.values none)

  -- Where a tracked one does.
  pub store_tracked : (c i : ℕ) (v : Value) → number_of w c ≡ Some i → blanked w (store h (Names w.object) c v) ≡ blanked w h
  store_tracked c i v is =
      ap (blanked w) (on_is (filled c v) h w.object x there)
      ∙ on_is (blank_object (watched w)) (slice_set h w.object.0 (filled c v x)) w.object (filled c v x) (after_set (filled c v x))
      ∙ set-set h w.object.0 (filled c v x) (blank_object (watched w) (filled c v x))
      ∙ ap (λ (vs : List Value). slice_set h w.object.0 (record x { cell = record (x.cell) { values = vs } })) (tracked_blank (watched w) w.tracks.first c i v x.cell.values is)
      ∙ sym blanked_is

  pub values_tracked :
      (c i : ℕ) (v : Value) (ps : List Value) → length ps ≡ w.tracks.first → AreApart (watched w) → AreBelow (length x.cell.values) (watched w)
      → number_of w c ≡ Some i → slice_set (ps ++ tracked_values w h) i v ≡ ps ++ tracked_values w (store h (Names w.object) c v)
  values_tracked c i v ps count apart below is =
      ap (λ (vs : List Value). slice_set (ps ++ vs) i v) values_there
      ∙ tracked_set (watched w) w.tracks.first c i v ps x.cell.values count apart below is
      ∙ ap (λ (vs : List Value). ps ++ vs) (sym (values_on (filled c v)))

  -- Where a component gets a value that is none of the tracked ones.
  there_still : (c : ℕ) (v u : Value) → (y : Object) × (object_at (store h v c u) w.object ≡ Some y)
  there_still c Null u = (x, there)
  there_still c (Names p) u = by (p.0 == w.object.0) refl
    where
      by : (b : Bool) → (p.0 == w.object.0) ≡ b → (y : Object) × (object_at (store h (Names p) c u) w.object ≡ Some y)
      by true is = (
        filled c u x,
        ap (λ (v : Value). object_at (store h v c u) w.object) (one_object p w.object (is_same p.0 w.object.0 is))
            ∙ ap (λ (g : List Object). object_at g w.object) (on_is (filled c u) h w.object x there) ∙ after_set (filled c u x),
      )
      by false ne = (x, still_by (filled c u) p ne (slice_get h p.0) ∙ there)
  there_still c (Scalar n) u = (x, there)
  there_still c (Part p place) u = (x, there)

  -- Neither the tracked values nor what is seen of the object differ then.
  abbrev SeenStored : Value → (component : ℕ) → Value → Type 0
  SeenStored v c u = (store (blanked w h) v c u ≡ blanked w (store h v c u)) × (tracked_values w (store h v c u) ≡ tracked_values w h)

  seen_stored : (v : Value) (c : ℕ) (u : Value) → number_in w v c ≡ None → SeenStored v c u
  seen_stored v c u none = elim (which w.object v) [
    | inl other ↦ (on_apart (filled c u) v other, values_apart (filled c u) v other)
    | inr itself ↦ subst (λ (o : Value). SeenStored o c u) (sym itself)
        (let here : number_of w c ≡ None = sym (number_there w c) ∙ ap (λ (o : Value). number_in w o c) (sym itself) ∙ none in
        (store_untracked c u here, values_untracked c u here))
  ]

  -- A new object.
  pub create_blanked : (words : ℕ) (cell : Cell Value) → create (blanked w h) words cell ≡ blanked w (create h words cell)
  create_blanked words cell =
      ap (λ (g : List Object). create g words cell) blanked_is
      ∙ sym (set_add h (named_heap.new_object cell) x (blank_object (watched w) x) w.object.0 there)
      ∙ sym (on_is (blank_object (watched w)) (create h words cell) w.object x (add_there h (named_heap.new_object cell) x w.object.0 there))

  pub values_created : (words : ℕ) (cell : Cell Value) → tracked_values w (create h words cell) ≡ tracked_values w h
  values_created words cell =
      ap (λ (found : Option Object). values_at (watched w) (values_of found)) (add_there h (named_heap.new_object cell) x w.object.0 there ∙ sym there)

  pub created_same : (words : ℕ) → created (blanked w h) words ≡ created h words
  created_same words = ap (λ (n : ℕ). Names (record { 0 = n })) blanked_length

-- Values are stored from a component on of the object that a value names, and none of these components is tracked.
abbrev pub StoresUntracked : View → Value → (component : ℕ) → List Value → Type 0
StoresUntracked w v c [] = Unit {0}
StoresUntracked w v c (u ∷ us) = (number_in w v c ≡ None) × StoresUntracked w v (c + 1) us

-- So they are stored in what is seen, too.
pub record_stored :
    (w : View) (h : List Object) (x : Object) → object_at h w.object ≡ Some x → (v : Value) (c : ℕ) (us : List Value) → StoresUntracked w v c us
    → (stored_from named (blanked w h) v c us ≡ blanked w (stored_from named h v c us)) × (tracked_values w (stored_from named h v c us) ≡ tracked_values w h)
record_stored w h x there v c [] untracked = (refl, refl)
record_stored w h x there v c (u ∷ us) untracked =
    let one = seen_stored w h x there v c u untracked.0 in
    let still = there_still w h x there c v u in
    let more = record_stored w (store h v c u) still.0 still.1 v (c + 1) us untracked.1 in
    (ap (λ (g : List Object). stored_from named g v (c + 1) us) one.0 ∙ more.0, more.1 ∙ one.1)
