-- An object in which components are hidden, as they hold null: objects are stored there as they are where they are not, and what is relied on fits. So it is
-- where a record is copied to it, of which each component of an access type is hidden.

use Rattle.std.proofs.Common.{◌≡◌, ◌≢◌, ℕ, zero, suc, ◌+◌, Bool, true, false, List, [], ◌∷◌, refl, ap, ◌∙◌, ◌⊎◌, inl, inr, Option, Some, None}
use Rattle.std.specs.List.{slice_get, slice_set, slice_index_or}
use Rattle.ada_program.specs.declared.program.ComponentKind.{ComponentKind}
use Rattle.ada_program.specs.ProgramForm.{TypeForm, VariableForm}
use Rattle.ada_flow.specs.Flow.{Holds, is_owning}
use Rattle.ada_meaning.specs.declared.state.Id.{Id}
use Rattle.ada_meaning.specs.declared.state.Value.{Value}
use Rattle.ada_meaning.specs.declared.state.Value.TheVariants.{Null, Names}
use Rattle.ada_meaning.specs.Event.{Followed}
use Rattle.ada_meaning.specs.State.{Item, Master}
use Rattle.ada_meaning.specs.Step.{stored_from}
use Rattle.ada_meaning.specs.Named.{Object, named, object_at, changed, filled, store}
use Rattle.ada_meaning.specs.Law.{items_of}
use Rattle.ada_owners.specs.Places.{is_there}
use Rattle.ada_owners.specs.Keeping.{IsThere}
use Rattle.ada_owners.proofs.Kernel.{same_id, same_or_not}
use Rattle.ada_owners.proofs.Objects.{at_other, read_same, read_other}
use Rattle.ada_owners.proofs.Changes as changes
use Rattle.ada_owners.proofs.Changes.{store_is}
use Rattle.ada_tracked.specs.Frames.{View, watched, number_of, blank_object, blanked, values_at}
use Rattle.ada_tracked.proofs.Heaps.{blanked_here, store_untracked, store_tracked}
use Rattle.ada_typed.specs.Holding.{Cells, HaveKinds}
use Rattle.ada_sound.proofs.Objects.{set_here, set_other, set_twice}
use Rattle.ada_sound.proofs.Stored.{Sane, Stored, stored_set, stored_filled}
use Rattle.ada_sound.proofs.Fits.{Outsiders, Fit, MayFollow, none_spared, component_follows, store_blank}
use Rattle.ada_sound.proofs.Alters.{Alters, alters_same, alters_set, alters_then}
use Rattle.ada_sound.proofs.Records.{plain_blank}
use Rattle.ada_sound.proofs.CopiedOwners.{NamesThere, NameThere, names_still, IsHidden, Covered}

-- What components hold, of which one gets a value.
names_at : (heap : List Object) (vs : List Value) (b : ℕ) → ((c : ℕ) (v : Value) → slice_get vs c ≡ Some v → NamesThere heap v) → NamesThere heap (slice_index_or vs b Null)
names_at heap [] b each = λ o is. absurd (cc is)
names_at heap (v ∷ vs) zero each = each 0 v refl
names_at heap (v ∷ vs) (suc b) each = names_at heap vs b (λ c u at. each (suc c) u at)

pub names_hidden : (heap : List Object) (bs : List ℕ) (vs : List Value) → ((c : ℕ) (v : Value) → slice_get vs c ≡ Some v → NamesThere heap v) → NameThere heap (values_at bs vs)
names_hidden heap [] vs each = tt
names_hidden heap (b ∷ bs) vs each = (names_at heap vs b each, names_hidden heap bs vs each)

pub names_set : (heap : List Object) (bs : List ℕ) (vs : List Value) (c : ℕ) (v : Value) → NamesThere heap v → NameThere heap (values_at bs vs) → NameThere heap (values_at bs (slice_set vs c v))
names_set heap [] vs c v new olds = tt
names_set heap (b ∷ bs) vs c v new olds = (by (same_or_not b c), names_set heap bs vs c v new olds.1)
  where
    here : (slice_index_or (slice_set vs c v) c Null ≡ v) ⊎ (slice_index_or (slice_set vs c v) c Null ≡ Null) → NamesThere heap (slice_index_or (slice_set vs c v) c Null)
    here (inl is) = rw is new
    here (inr none) = rw none (λ o is. absurd (cc is))

    by : (b ≡ c) ⊎ (b ≢ c) → NamesThere heap (slice_index_or (slice_set vs c v) b Null)
    by (inl same) = rw same (here (read_same vs c v Null))
    by (inr ne) = rw (read_other vs c b v Null ne) olds.0

-- What is there is so still, where a component gets a value.
pub there_stored : (heap : List Object) (o : Id) (x : Object) (c : ℕ) (v : Value) → object_at heap o ≡ Some x → (p : Id) → IsThere heap p → IsThere (store heap (Names o) c v) p
there_stored heap o x c v found p there = rw (store_is heap o x found c v) (by (same_id p o))
  where
    by : (p ≡ o) ⊎ (p ≢ o) → IsThere (slice_set heap o.0 (filled c v x)) p
    by (inr ne) = (there.0, at_other heap o p (filled c v x) ne ∙ there.1, there.2)
    by (inl same) =
        let one : there.0 ≡ x = let at = there.1 in cc (rw same at at, found) in
        (filled c v x, rw same (set_here heap o.0 x (filled c v x) found), rw one at there.2)

module _ {types : List TypeForm} {variables : List VariableForm} {outer : Outsiders} (heap : List Object) (o : Id) (x : Object) (found : object_at heap o ≡ Some x) {places : List Value} {holds : Holds} (f : Fit types variables outer none_spared heap places holds) where
  pub hide_set : (bs : List ℕ) → Fit types variables outer none_spared (slice_set heap o.0 (blank_object bs x)) places holds
  hide_set [] = record {
    owners = changes.looks_same heap o x found x refl (λ c. refl) f.owners;
    said = f.said;
    objects = f.objects;
    referred = λ k t is. changes.access_set heap o x found x refl k ∙ f.referred k t is;
  }
  hide_set (b ∷ bs) =
      let mid = slice_set heap o.0 (blank_object bs x) in
      let there = set_here heap o.0 x (blank_object bs x) found in
      let fit = store_blank o (blank_object bs x) b Null there (λ p is. cc is) (hide_set bs) in
      rw (store_is mid o (blank_object bs x) there b Null, set_twice heap o.0 (blank_object bs x) (filled b Null (blank_object bs x))) at fit

  -- What the components of an object that is there name is there.
  pub components_there : is_there x.stage ≡ true → (c : ℕ) (v : Value) → slice_get x.cell.values c ≡ Some v → NamesThere heap v
  components_there there c v at p is =
      let follows : MayFollow heap v = component_follows o x c v refl found there at f in
      rw is at follows

-- Objects are stored there, and where nothing is hidden.
sane_hidden : {under : List Id} {items : List Item} (bs : List ℕ) (o : Id) (x : Object) → Sane under items o x → Sane under items o (blank_object bs x)
sane_hidden bs o x h = record { back_unlisted = h.back_unlisted; listed_exists = h.listed_exists; there_exists = h.there_exists; housed = h.housed; out_listed = h.out_listed }

pub stored_hidden : {under : List Id} {heap : List Object} {ms : List Master} (w : View) (x : Object) → object_at heap w.object ≡ Some x → Stored under heap ms → Stored under (blanked w heap) ms
stored_hidden {under} {heap} {ms} w x found s =
    rw found (stored_set w.object (blank_object (watched w) x) (sane_hidden (watched w) w.object x (s.sane w.object x found)) (λ p z ne g. g) s)

module _ {under : List Id} (heap : List Object) (ms : List Master) (w : View) where
  shown_before : (x : Object) → object_at heap w.object ≡ Some x → Stored under (slice_set heap w.object.0 (blank_object (watched w) x)) ms → Stored under heap ms
  shown_before x found s = record { counted = s.counted; sane = λ p z at. go p z at (same_or_not p.0 w.object.0) }
    where
      go : (p : Id) (z : Object) → object_at heap p ≡ Some z → (p.0 ≡ w.object.0) ⊎ (p.0 ≢ w.object.0) → Sane under (items_of ms) p z
      go p z at (inl same) =
          let here : p ≡ w.object = ap (λ n. record { 0 = n }) same in
          let found' : object_at heap w.object ≡ Some z = rw here at at in
          let is : z ≡ x = cc (found, found') in
          let h = s.sane w.object (blank_object (watched w) x) (set_here heap w.object.0 x (blank_object (watched w) x) found) in
          rw (here, is) (record { back_unlisted = h.back_unlisted; listed_exists = h.listed_exists; there_exists = h.there_exists; housed = h.housed; out_listed = h.out_listed })
      go p z at (inr ne) = s.sane p z (rw (set_other heap w.object.0 p.0 (blank_object (watched w) x) ne) at)

  shown_by : (t : Option Object) → object_at heap w.object ≡ t → Stored under (changed (blank_object (watched w)) t heap w.object) ms → Stored under heap ms
  shown_by None is s = s
  shown_by (Some x) is s = shown_before x is s

  pub stored_shown : Stored under (blanked w heap) ms → Stored under heap ms
  stored_shown s = shown_by (object_at heap w.object) refl s

-- A value goes into each of these components, from one on: it names nothing, or the component is hidden.
abbrev pub StoresWell : (hidden : List ℕ) → (component : ℕ) → List Value → Type 0
StoresWell hidden c [] = Unit {0}
StoresWell hidden c (v ∷ vs) = (((o : Id) → v ≡ Names o → ⊥) ⊎ IsHidden hidden c) × StoresWell hidden (c + 1) vs

covered_value : (types : List TypeForm) (cells : Cells) (hidden : List ℕ) (c : ℕ) (kind : ComponentKind) (v : Value) → (is_owning kind ≡ true → IsHidden hidden c) → HaveKinds types cells (kind ∷ []) (v ∷ []) → ((o : Id) → v ≡ Names o → ⊥) ⊎ IsHidden hidden c
covered_value types cells hidden c kind v covers have = go (is_owning kind) refl
  where
    go : (b : Bool) → is_owning kind ≡ b → ((o : Id) → v ≡ Names o → ⊥) ⊎ IsHidden hidden c
    go true is = inr (covers is)
    go false is = inl (plain_blank types cells kind v is have.0)

-- Values of the kinds of components that are covered do so.
pub covered_stores : (types : List TypeForm) (cells : Cells) (hidden : List ℕ) (c : ℕ) (kinds : List ComponentKind) (vs : List Value) → Covered hidden c kinds → HaveKinds types cells kinds vs → StoresWell hidden c vs
covered_stores types cells hidden c kinds [] covers have = tt
covered_stores types cells hidden c [] (v ∷ vs) covers have = absurd have
covered_stores types cells hidden c (kind ∷ kinds) (v ∷ vs) covers have =
    (covered_value types cells hidden c kind v covers.0 (have.0, tt), covered_stores types cells hidden (c + 1) kinds vs covers.1 have.1)

-- An object of which components get such values is still there, objects are stored, and all places are as they are relied on to be, where the components are
-- hidden.
pub record Hides (outer : Outsiders) (types : List TypeForm) (variables : List VariableForm) (heap : List Object) (places : List Value) (ms : List Master) (holds : Holds) (w : View) (x : Object) (after : List Object) : Type 0 where
  pub object : Object
  pub found : object_at after w.object ≡ Some object
  pub stage : object.stage ≡ x.stage
  pub access : object.cell.access ≡ x.cell.access
  pub stored : Stored outer.under after ms
  pub fit : Fit types variables outer none_spared (blanked w after) places holds
  pub named : NameThere after (values_at (watched w) object.cell.values)
  pub alters : Alters heap (Followed (Names w.object)) after

module _ (outer : Outsiders) (types : List TypeForm) (variables : List VariableForm) (places : List Value) (ms : List Master) (holds : Holds) (w : View) (first : w.tracks.first ≡ 0) where
  hide_one : (heap : List Object) (x : Object) (c : ℕ) (v : Value) → object_at heap w.object ≡ Some x → ((o : Id) → v ≡ Names o → ⊥) ⊎ IsHidden (watched w) c → Fit types variables outer none_spared (blanked w heap) places holds → Fit types variables outer none_spared (blanked w (store heap (Names w.object) c v)) places holds
  hide_one heap x c v found (inr (i, is)) fit =
      rw (store_tracked w heap x found c i v (rw first is)) fit
  hide_one heap x c v found (inl none) fit = go (number_of w c) refl
    where
      go : (n : Option ℕ) → number_of w c ≡ n → Fit types variables outer none_spared (blanked w (store heap (Names w.object) c v)) places holds
      go (Some i) is = rw (store_tracked w heap x found c i v is) fit
      go None is = rw (← store_untracked w heap x found c v is) (store_blank w.object (blank_object (watched w) x) c v (blanked_here w heap x found) none fit)

  pub hide_all : (heap : List Object) (x : Object) (c : ℕ) (vs : List Value) → object_at heap w.object ≡ Some x → StoresWell (watched w) c vs → NameThere heap vs → NameThere heap (values_at (watched w) x.cell.values) → Stored outer.under heap ms → Fit types variables outer none_spared (blanked w heap) places holds → Hides outer types variables heap places ms holds w x (stored_from named heap (Names w.object) c vs)
  hide_all heap x c [] found well news olds stored fit =
      record { object = x; found = found; stage = refl; access = refl; stored = stored; fit = fit; named = olds; alters = alters_same heap (Followed (Names w.object)) }
  hide_all heap x c (v ∷ vs) found well news olds stored fit =
      let o = w.object in
      let one = store_is heap o x found c v in
      let mid = store heap (Names o) c v in
      let there : object_at mid o ≡ Some (filled c v x) = rw one (set_here heap o.0 x (filled c v x) found) in
      let stays : Stored outer.under mid ms = rw one (stored_filled o x c v found stored) in
      let alters : Alters heap (Followed (Names o)) mid = rw one (alters_set heap (Followed (Names o)) o x (filled c v x) found (refl, refl, refl) (λ h. h) (λ h. inl h)) in
      let still = there_stored heap o x c v found in
      let later = hide_all mid (filled c v x) (c + 1) vs there well.1 (names_still heap mid vs still news.1)
      (names_still heap mid (values_at (watched w) (slice_set x.cell.values c v)) still (names_set heap (watched w) x.cell.values c v news.0 olds)) stays (hide_one heap x c v found well.0 fit) in
      record {
        object = later.object;
        found = later.found;
        stage = later.stage;
        access = later.access;
        stored = later.stored;
        fit = later.fit;
        named = later.named;
        alters = alters_then heap mid (stored_from named mid (Names o) (c + 1) vs) (Followed (Names o)) alters later.alters;
      }
