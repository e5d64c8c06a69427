-- Heaps in which components of an object are hidden, as they hold null: such a heap is alike to the other, and the only one that is so.

use Rattle.std.proofs.Common.{◌≡◌, ◌≢◌, ◌⊎◌, ℕ, zero, suc, ◌==◌, ◌||◌, Bool, true, false, List, [], ◌∷◌, length, Option, Some, None, inl, inr, refl, sym, ap, ◌∙◌, subst}
use Rattle.std.specs.Prelude.{is_some}
use Rattle.std.specs.List.{list_any, slice_get, slice_set}
use Rattle.std.proofs.lemmas.Bool.Decides.{eqb_tells}
use Rattle.ada_meaning.specs.declared.state.Id.{Id}
use Rattle.ada_meaning.specs.declared.state.Value.{Value}
use Rattle.ada_meaning.specs.declared.state.Value.TheVariants.{Null}
use Rattle.ada_meaning.specs.Heap.{Cell}
use Rattle.ada_meaning.specs.Named.{Object, State, object_at, changed}
use Rattle.ada_tracked.specs.Frames.{View, watched, blank_values, blank_object, blanked}
use Rattle.ada_tracked.proofs.Lists.{apart_is, is_apart, set_here, set_length}
use Rattle.ada_untouched.proofs.Heaps.{both_there, same_lists}
use Rattle.ada_untouched.specs.Alike.{ValuesAlike, ObjectsAlike, FoundAlike, HeapsAlike, StatesAlike}
use Rattle.ada_hidden.specs.Hidden.{is_hidden, no_ghosts, blanked_state}

-- Two numbers are one or two.
same_or_not : (a b : ℕ) → (a ≡ b) ⊎ (a ≢ b)
same_or_not a b = elim (eqb_tells a b) [ inl h ↦ inl h.1 | inr h ↦ inr h.1 ]

one_number : (a : ℕ) → (a == a) ≡ true
one_number a = elim (eqb_tells a a) [ inl h ↦ h.0 | inr h ↦ absurd (h.1 refl) ]

-- An element of a list is set, and the others stay.
module _ {X : Type 0} where
  set_other : (xs : List X) (i k : ℕ) (y : X) → k ≢ i → slice_get (slice_set xs i y) k ≡ slice_get xs k
  set_other [] i k y ne = refl
  set_other (x ∷ xs) zero zero y ne = absurd (ne refl)
  set_other (x ∷ xs) zero (suc k) y ne = refl
  set_other (x ∷ xs) (suc i) zero y ne = refl
  set_other (x ∷ xs) (suc i) (suc k) y ne = set_other xs i k y (λ e. ne (ap suc e))

  set_is : (xs : List X) (i : ℕ) (y z : X) → slice_get (slice_set xs i y) i ≡ Some z → z ≡ y
  set_is [] i y z at = absurd (cc at)
  set_is (x ∷ xs) zero y z at = cc at
  set_is (x ∷ xs) (suc i) y z at = set_is xs i y z at

-- A component is one of these.
abbrev pub is_one_of : List ℕ → (component : ℕ) → Bool
is_one_of bs c = list_any (λ d. d == c) bs

either_false : (a b : Bool) → (a || b) ≡ false → (a ≡ false) × (b ≡ false)
either_false true b e = absurd (cc e)
either_false false b e = (refl, e)

-- One of them holds null where they are hidden,
pub one_is_null : (bs : List ℕ) (c : ℕ) (vs : List Value) (v : Value) → is_one_of bs c ≡ true → slice_get (blank_values bs vs) c ≡ Some v → v ≡ Null
one_is_null [] c vs v is at = absurd (cc is)
one_is_null (b ∷ bs) c vs v is at = by (same_or_not c b) (one_is_null bs c vs v)
  where
    by : (c ≡ b) ⊎ (c ≢ b) → (is_one_of bs c ≡ true → slice_get (blank_values bs vs) c ≡ Some v → v ≡ Null) → v ≡ Null
    by (inl same) later = set_is (blank_values bs vs) b Null v (subst (λ (n : ℕ). slice_get (slice_set (blank_values bs vs) b Null) n ≡ Some v) same at)
    by (inr ne) later =
        let other : (b == c) ≡ false = apart_is b c (λ same. ne (sym same)) in
        later (rw other at is) (sym (set_other (blank_values bs vs) b c Null ne) ∙ at)

-- and others hold what they held.
pub other_stays : (bs : List ℕ) (c : ℕ) (vs : List Value) → is_one_of bs c ≡ false → slice_get (blank_values bs vs) c ≡ slice_get vs c
other_stays [] c vs none = refl
other_stays (b ∷ bs) c vs none =
    let two = either_false (b == c) (is_one_of bs c) none in
    set_other (blank_values bs vs) b c Null (λ same. is_apart b c two.0 (sym same)) ∙ other_stays bs c vs two.1

-- There are as many values as before.
blank_count : (bs : List ℕ) (vs : List Value) → length (blank_values bs vs) ≡ length vs
blank_count [] vs = refl
blank_count (b ∷ bs) vs = set_length (blank_values bs vs) b Null ∙ blank_count bs vs

-- Values that are like others but for such components, which hold null, are those with null in these.
blank_alike : (bs : List ℕ) (vs us : List Value) → ValuesAlike (is_one_of bs) vs us → ((c : ℕ) (u : Value) → is_one_of bs c ≡ true → slice_get us c ≡ Some u → u ≡ Null)
    → us ≡ blank_values bs vs
blank_alike bs vs us alike null = same_lists us (blank_values bs vs) (λ c. by c (is_one_of bs c) refl)
  where
    here : (c : ℕ) → is_one_of bs c ≡ true → (a b : Option Value) → slice_get us c ≡ a → slice_get (blank_values bs vs) c ≡ b → is_some a ≡ is_some b → a ≡ b
    here c is None None at to same = refl
    here c is None (Some v) at to same = absurd (cc same)
    here c is (Some u) None at to same = absurd (cc same)
    here c is (Some u) (Some v) at to same = ap Some (null c u is at ∙ sym (one_is_null bs c vs v is to))

    by : (c : ℕ) (b : Bool) → is_one_of bs c ≡ b → slice_get us c ≡ slice_get (blank_values bs vs) c
    by c false none = sym (alike.values c none) ∙ sym (other_stays bs c vs none)
    by c true is =
        here c is (slice_get us c) (slice_get (blank_values bs vs) c) refl refl
        (both_there us (blank_values bs vs) c (sym alike.count ∙ sym (blank_count bs vs)))

-- So values are the same where none is hidden.
plain_alike : (vs us : List Value) → ValuesAlike (λ c. false) vs us → us ≡ vs
plain_alike vs us alike = same_lists us vs (λ c. sym (alike.values c refl))

-- An object that is like another but for what components hold.
object_alike : (hides : ℕ → Bool) (x y : Object) (vs : List Value) → ObjectsAlike hides false x y → y.cell.values ≡ vs → y ≡ record x { cell = record (x.cell) { values = vs } }
object_alike hides x y vs alike same =
    alike.life ∙ ap (λ (c : Cell Value). record x { cell = c }) (alike.cell ∙ ap (λ (us : List Value). record (x.cell) { values = us }) same)

module _ (v : View) where
  -- The object of the view has them hidden; where it is not there, nothing is hidden, and objects of other names stay.
  pub blank_here : (h : List Object) (x : Object) → object_at h v.object ≡ Some x → object_at (blanked v h) v.object ≡ Some (blank_object (watched v) x)
  blank_here h x found = rw found (set_here h v.object.0 x (blank_object (watched v) x) found)

  blank_missing : (h : List Object) → object_at h v.object ≡ None → blanked v h ≡ h
  blank_missing h none = rw none refl

  blank_other : (h : List Object) (i : ℕ) → i ≢ v.object.0 → slice_get (blanked v h) i ≡ slice_get h i
  blank_other h i ne = by (object_at h v.object) refl
    where
      by : (found : Option Object) → object_at h v.object ≡ found → slice_get (changed (blank_object (watched v)) found h v.object) i ≡ slice_get h i
      by None at = refl
      by (Some x) at = set_other h v.object.0 i (blank_object (watched v) x) ne

  -- There are as many objects.
  blank_objects : (h : List Object) → length (blanked v h) ≡ length h
  blank_objects h = by (object_at h v.object)
    where
      by : (found : Option Object) → length (changed (blank_object (watched v)) found h v.object) ≡ length h
      by None = refl
      by (Some x) = set_length h v.object.0 (blank_object (watched v) x)

  -- Nothing is hidden of objects of other names, and of the object these components are.
  hides_none : (o : Id) → o.0 ≢ v.object.0 → (c : ℕ) → is_hidden v o c ≡ false
  hides_none o ne c = rw (apart_is o.0 v.object.0 ne) refl

  pub hides_these : (c : ℕ) → is_hidden v v.object c ≡ is_one_of (watched v) c
  hides_these c = rw (one_number v.object.0) refl

  -- A heap is like the one in which they are hidden.
  heap_blanked : (h : List Object) → HeapsAlike (is_hidden v) no_ghosts h (blanked v h)
  heap_blanked h = record { count = sym (blank_objects h); objects = λ o. by o (same_or_not o.0 v.object.0) }
    where
      itself : (o : Id) (x : Option Object) → FoundAlike (is_hidden v o) false x x
      itself o None = tt
      itself o (Some x) = record { values = record { count = refl; values = λ c none. refl }; cell = refl; listed = refl; life = refl }

      blank : (found : Option Object) → object_at h v.object ≡ found → FoundAlike (is_hidden v v.object) false (object_at h v.object) (object_at (blanked v h) v.object)
      blank None at =
          subst (λ (k : List Object). FoundAlike (is_hidden v v.object) false (object_at h v.object) (object_at k v.object)) (sym (blank_missing h at))
          (itself v.object (object_at h v.object))
      blank (Some x) at =
          let there : FoundAlike (is_hidden v v.object) false (Some x) (Some (blank_object (watched v) x)) = record {
            values = record {
              count = sym (blank_count (watched v) x.cell.values);
              values = λ c none. sym (other_stays (watched v) c x.cell.values (sym (hides_these c) ∙ none));
            };
            cell = refl;
            listed = refl;
            life = refl;
          } in
          subst (λ (found : Option Object). FoundAlike (is_hidden v v.object) false found (object_at (blanked v h) v.object)) (sym at)
          (subst (λ (found : Option Object). FoundAlike (is_hidden v v.object) false (Some x) found) (sym (blank_here h x at)) there)

      by : (o : Id) → (o.0 ≡ v.object.0) ⊎ (o.0 ≢ v.object.0) → FoundAlike (is_hidden v o) false (object_at h o) (object_at (blanked v h) o)
      by o (inl same) =
          let one : v.object ≡ o = ap (λ (n : ℕ). record { 0 = n }) (sym same) in
          subst (λ (p : Id). FoundAlike (is_hidden v p) false (object_at h p) (object_at (blanked v h) p)) one (blank (object_at h v.object) refl)
      by o (inr ne) =
          subst (λ (found : Option Object). FoundAlike (is_hidden v o) false (object_at h o) found) (sym (blank_other h o.0 ne)) (itself o (object_at h o))

  -- So is a state.
  pub state_blanked : (s : State) → StatesAlike (is_hidden v) no_ghosts s (blanked_state v s)
  state_blanked s = record { rest = refl; heaps = heap_blanked s.heap }

  -- A heap that is like another, and in which these hold null, is that with them hidden.
  heap_is_blanked : (h k : List Object) → HeapsAlike (is_hidden v) no_ghosts h k
      → ((c : ℕ) (y : Object) (u : Value) → object_at k v.object ≡ Some y → is_one_of (watched v) c ≡ true → slice_get y.cell.values c ≡ Some u → u ≡ Null)
      → k ≡ blanked v h
  heap_is_blanked h k alike null = same_lists k (blanked v h) (λ i. by i (same_or_not i v.object.0))
    where
      here : (a b : Option Object) → object_at h v.object ≡ a → object_at k v.object ≡ b → FoundAlike (is_hidden v v.object) false a b → object_at k v.object ≡ object_at (blanked v h) v.object
      here None None at to same = to ∙ sym (ap (λ (g : List Object). object_at g v.object) (blank_missing h at) ∙ at)
      here None (Some y) at to same = absurd same
      here (Some x) None at to same = absurd same
      here (Some x) (Some y) at to same =
          let values : ValuesAlike (is_one_of (watched v)) x.cell.values y.cell.values = record {
            count = same.values.count;
            values = λ c none. same.values.values c (hides_these c ∙ none);
          } in
          let filled = blank_alike (watched v) x.cell.values y.cell.values values (λ c u is at'. null c y u to is at') in
          to ∙ ap Some (object_alike (is_hidden v v.object) x y (blank_values (watched v) x.cell.values) same filled) ∙ sym (blank_here h x at)

      there : (o : Id) → o.0 ≢ v.object.0 → (a b : Option Object) → FoundAlike (is_hidden v o) false a b → b ≡ a
      there o ne None None same = refl
      there o ne None (Some y) same = absurd same
      there o ne (Some x) None same = absurd same
      there o ne (Some x) (Some y) same =
          let values : ValuesAlike (λ c. false) x.cell.values y.cell.values = record {
            count = same.values.count;
            values = λ c none. same.values.values c (hides_none o ne c);
          } in
          ap Some (object_alike (is_hidden v o) x y x.cell.values same (plain_alike x.cell.values y.cell.values values))

      by : (i : ℕ) → (i ≡ v.object.0) ⊎ (i ≢ v.object.0) → slice_get k i ≡ slice_get (blanked v h) i
      by i (inl same) =
          subst (λ (n : ℕ). slice_get k n ≡ slice_get (blanked v h) n) (sym same)
          (here (object_at h v.object) (object_at k v.object) refl refl (alike.objects v.object))
      by i (inr ne) =
          let o : Id = record { 0 = i } in
          there o ne (object_at h o) (object_at k o) (alike.objects o) ∙ sym (blank_other h i ne)

  -- So it is with a state.
  pub state_is_blanked : (s t : State) → StatesAlike (is_hidden v) no_ghosts s t
      → ((c : ℕ) (y : Object) (u : Value) → object_at t.heap v.object ≡ Some y → is_one_of (watched v) c ≡ true → slice_get y.cell.values c ≡ Some u → u ≡ Null)
      → t ≡ blanked_state v s
  state_is_blanked s t alike null =
      alike.rest ∙ ap (λ (heap : List Object). record s { heap = heap }) (heap_is_blanked s.heap t.heap alike.heaps null)
