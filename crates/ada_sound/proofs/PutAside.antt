-- States in which components of an object are put aside, as they hold null: where two heaps differ in what those hold alone, the one is the other with these put aside.

use Rattle.std.proofs.Common.{◌≡◌, ◌≢◌, ℕ, ◌+◌, ◌==◌, Bool, true, false, List, [], ◌∷◌, length, Option, Some, None, refl, sym, ap, ◌∙◌, ◌⊎◌, inl, inr, subst}
use Rattle.std.specs.Prelude.{is_some}
use Rattle.std.specs.List.{slice_get}
use Rattle.ada_parts.proofs.Facts.{eq_self}
use Rattle.ada_meaning.specs.declared.state.Id.{Id}
use Rattle.ada_meaning.specs.declared.state.Mode.{Mode}
use Rattle.ada_meaning.specs.declared.state.Mode.TheVariants.{Running, Raising, Exiting, Returning}
use Rattle.ada_meaning.specs.declared.state.Value.{Value}
use Rattle.ada_meaning.specs.declared.state.Value.TheVariants.{Null}
use Rattle.ada_meaning.specs.Frame.{Frame}
use Rattle.ada_meaning.specs.Frame as frame
use Rattle.ada_meaning.specs.Heap.{Cell}
use Rattle.ada_meaning.specs.Named.{Object, State, object_at, changed}
use Rattle.ada_beside.specs.Law.{hidden_beside, no_ghosts}
use Rattle.ada_tracked.specs.Frames.{View, shifted, number_at, blank_values, blank_object, blanked}
use Rattle.ada_tracked.proofs.Lists.{apart_is, is_apart, set_length, untracked_read}
use Rattle.ada_untouched.proofs.Heaps.{same_lists}
use Rattle.ada_untouched.specs.Alike.{ValuesAlike, ObjectsAlike, FoundAlike, HeapsAlike, StatesAlike}
use Rattle.ada_untouched.specs.Unwritten.{FrameWritesShown, FirstWritesShown, Unwritten}
use Rattle.ada_untouched.proofs.Heaps.{both_there}
use Rattle.ada_sound.proofs.Adjusting.{is_one_of, put_aside}
use Rattle.ada_sound.proofs.CopiedOwners.{hiding}
use Rattle.ada_sound.proofs.NoneHidden.{shifted_none}
use Rattle.ada_sound.proofs.Objects.{set_get, set_here, set_other}
use Rattle.ada_sound.proofs.OnlyRows.{or_false, or_true}
use Rattle.ada_sound.proofs.Values.{same_or_not}

-- A component that is none of these is not numbered among them.
pub not_numbered : (bs : List ℕ) (n c : ℕ) → is_one_of bs c ≡ false → number_at bs n c ≡ None
not_numbered [] n c none = refl
not_numbered (b ∷ bs) n c none =
    let two = or_false (b == c) (is_one_of bs c) none in
    rw (apart_is c b (λ same. is_apart b c two.0 (sym same))) (not_numbered bs (n + 1) c two.1)

-- One of them holds null where they are hidden.
blank_is_null : (bs : List ℕ) (c : ℕ) (vs : List Value) (v : Value) → is_one_of bs c ≡ true → slice_get (blank_values bs vs) c ≡ Some v → v ≡ Null
blank_is_null [] c vs v is at = absurd (cc is)
blank_is_null (b ∷ bs) c vs v is at = by (set_get (blank_values bs vs) b c Null v at) (blank_is_null bs c vs v)
  where
    by : ((c ≡ b) × (v ≡ Null)) ⊎ ((c ≢ b) × (slice_get (blank_values bs vs) c ≡ Some v)) → (is_one_of bs c ≡ true → slice_get (blank_values bs vs) c ≡ Some v → v ≡ Null) → v ≡ Null
    by (inl h) later = h.1
    by (inr h) later = later (or_true (b == c) (is_one_of bs c) is (apart_is b c (λ same. h.0 (sym same)))) h.1

-- So one of them holds null in the object in which they are hidden; and others hold what they held.
pub one_is_null : (bs : List ℕ) (c : ℕ) (vs : List Value) (v : Value) → is_one_of bs c ≡ true → slice_get (blank_values (shifted 0 bs) vs) c ≡ Some v → v ≡ Null
one_is_null bs c vs v is at = blank_is_null bs c vs v is (subst (λ (cs : List ℕ). slice_get (blank_values cs vs) c ≡ Some v) (shifted_none bs) at)

pub other_stays : (bs : List ℕ) (c : ℕ) (vs : List Value) → is_one_of bs c ≡ false → slice_get (blank_values (shifted 0 bs) vs) c ≡ slice_get vs c
other_stays bs c vs none = untracked_read (shifted 0 bs) 0 c vs (ap (λ (cs : List ℕ). number_at cs 0 c) (shifted_none bs) ∙ not_numbered bs 0 c none)

-- There are as many values as before.
pub blank_count : (bs : List ℕ) (vs : List Value) → length (blank_values bs vs) ≡ length vs
blank_count [] vs = refl
blank_count (b ∷ bs) vs = set_length (blank_values bs vs) b Null ∙ blank_count bs vs

-- Values that are like others but for such components, which hold null, are those with null in these.
blank_alike : (bs : List ℕ) (vs us : List Value) → ValuesAlike (is_one_of bs) vs us → ((c : ℕ) (u : Value) → is_one_of bs c ≡ true → slice_get us c ≡ Some u → u ≡ Null)
    → us ≡ blank_values (shifted 0 bs) vs
blank_alike bs vs us alike null = same_lists us (blank_values (shifted 0 bs) vs) (λ c. by c (is_one_of bs c) refl)
  where
    here : (c : ℕ) → is_one_of bs c ≡ true → (a b : Option Value) → slice_get us c ≡ a → slice_get (blank_values (shifted 0 bs) vs) c ≡ b → is_some a ≡ is_some b → a ≡ b
    here c is None None at to same = refl
    here c is None (Some v) at to same = absurd (cc same)
    here c is (Some u) None at to same = absurd (cc same)
    here c is (Some u) (Some v) at to same = ap Some (null c u is at ∙ sym (one_is_null bs c vs v is to))

    by : (c : ℕ) (b : Bool) → is_one_of bs c ≡ b → slice_get us c ≡ slice_get (blank_values (shifted 0 bs) vs) c
    by c false none = sym (alike.values c none) ∙ sym (other_stays bs c vs none)
    by c true is =
        here c is (slice_get us c) (slice_get (blank_values (shifted 0 bs) vs) c) refl refl
        (both_there us (blank_values (shifted 0 bs) vs) c (sym alike.count ∙ sym (blank_count (shifted 0 bs) vs)))

-- So values are the same where none is hidden.
plain_alike : (vs us : List Value) → ValuesAlike (λ c. false) vs us → us ≡ vs
plain_alike vs us alike = same_lists us vs (λ c. sym (alike.values c refl))

-- An object that is like another but for what components hold.
object_alike : (hides : ℕ → Bool) (x y : Object) (vs : List Value) → ObjectsAlike hides false x y → y.cell.values ≡ vs → y ≡ record x { cell = record (x.cell) { values = vs } }
object_alike hides x y vs alike same =
    alike.life ∙ ap (λ (c : Cell Value). record x { cell = c }) (alike.cell ∙ ap (λ (us : List Value). record (x.cell) { values = us }) same)

-- The object of a name has them hidden then; and those of other names stay.
pub aside_here : (bs : List ℕ) (o : Id) (h : List Object) (x : Object) → object_at h o ≡ Some x → object_at (blanked (hiding bs o) h) o ≡ Some (blank_object (shifted 0 bs) x)
aside_here bs o h x found = rw found (set_here h o.0 x (blank_object (shifted 0 bs) x) found)

aside_missing : (bs : List ℕ) (o : Id) (h : List Object) → object_at h o ≡ None → blanked (hiding bs o) h ≡ h
aside_missing bs o h none = rw none refl

pub aside_other : (bs : List ℕ) (o : Id) (h : List Object) (i : ℕ) → i ≢ o.0 → slice_get (blanked (hiding bs o) h) i ≡ slice_get h i
aside_other bs o h i ne = by (object_at h o) refl
  where
    by : (found : Option Object) → object_at h o ≡ found → slice_get (changed (blank_object (shifted 0 bs)) found h o) i ≡ slice_get h i
    by None at = refl
    by (Some x) at = set_other h o.0 i (blank_object (shifted 0 bs) x) ne

-- There are as many objects.
aside_count : (bs : List ℕ) (o : Id) (h : List Object) → length (blanked (hiding bs o) h) ≡ length h
aside_count bs o h = by (object_at h o)
  where
    by : (found : Option Object) → length (changed (blank_object (shifted 0 bs)) found h o) ≡ length h
    by None = refl
    by (Some x) = set_length h o.0 (blank_object (shifted 0 bs) x)

-- Nothing is hidden of objects of other names, and these components are of the object.
hides_none : (w : View) (bs : List ℕ) (o : Id) → (o.0 ≢ w.object.0) → (c : ℕ) → hidden_beside w (is_one_of bs) o c ≡ false
hides_none w bs o ne c = rw (apart_is o.0 w.object.0 ne) refl

pub hides_these : (w : View) (bs : List ℕ) (c : ℕ) → hidden_beside w (is_one_of bs) w.object c ≡ is_one_of bs c
hides_these w bs c = rw (eq_self w.object.0) refl

-- A heap is like the one in which they are put aside.
pub heap_aside : (w : View) (bs : List ℕ) (h : List Object) → HeapsAlike (hidden_beside w (is_one_of bs)) no_ghosts h (blanked (hiding bs w.object) h)
heap_aside w bs h = record { count = sym (aside_count bs w.object h); objects = λ o. by o (same_or_not o.0 w.object.0) }
  where
    itself : (o : Id) (x : Option Object) → FoundAlike (hidden_beside w (is_one_of bs) o) false x x
    itself o None = tt
    itself o (Some x) = record { values = record { count = refl; values = λ c none. refl }; cell = refl; listed = refl; life = refl }

    blank : (found : Option Object) → object_at h w.object ≡ found → FoundAlike (hidden_beside w (is_one_of bs) w.object) false (object_at h w.object) (object_at (blanked (hiding bs w.object) h) w.object)
    blank None at = subst (λ (k : List Object). FoundAlike (hidden_beside w (is_one_of bs) w.object) false (object_at h w.object) (object_at k w.object)) (sym (aside_missing bs w.object h at)) (itself w.object (object_at h w.object))
    blank (Some x) at =
        let there : FoundAlike (hidden_beside w (is_one_of bs) w.object) false (Some x) (Some (blank_object (shifted 0 bs) x)) = record {
          values = record {
            count = sym (blank_count (shifted 0 bs) x.cell.values);
            values = λ c none. sym (other_stays bs c x.cell.values (sym (hides_these w bs c) ∙ none));
          };
          cell = refl;
          listed = refl;
          life = refl;
        } in
        subst (λ (found : Option Object). FoundAlike (hidden_beside w (is_one_of bs) w.object) false found (object_at (blanked (hiding bs w.object) h) w.object)) (sym at)
        (subst (λ (found : Option Object). FoundAlike (hidden_beside w (is_one_of bs) w.object) false (Some x) found) (sym (aside_here bs w.object h x at)) there)

    by : (o : Id) → (o.0 ≡ w.object.0) ⊎ (o.0 ≢ w.object.0) → FoundAlike (hidden_beside w (is_one_of bs) o) false (object_at h o) (object_at (blanked (hiding bs w.object) h) o)
    by o (inl same) =
        let one : w.object ≡ o = ap (λ (n : ℕ). record { 0 = n }) (sym same) in
        subst (λ (p : Id). FoundAlike (hidden_beside w (is_one_of bs) p) false (object_at h p) (object_at (blanked (hiding bs w.object) h) p)) one (blank (object_at h w.object) refl)
    by o (inr ne) =
        subst (λ (found : Option Object). FoundAlike (hidden_beside w (is_one_of bs) o) false (object_at h o) found) (sym (aside_other bs w.object h o.0 ne)) (itself o (object_at h o))

-- So is a state.
pub state_aside : (w : View) (bs : List ℕ) (s : State) → StatesAlike (hidden_beside w (is_one_of bs)) no_ghosts s (put_aside bs w.object s)
state_aside w bs s = record { rest = refl; heaps = heap_aside w bs s.heap }

-- A heap that is like another, and in which these hold null, is that with them put aside.
heap_is_aside : (w : View) (bs : List ℕ) (h k : List Object) → HeapsAlike (hidden_beside w (is_one_of bs)) no_ghosts h k
    → ((c : ℕ) (y : Object) (u : Value) → object_at k w.object ≡ Some y → is_one_of bs c ≡ true → slice_get y.cell.values c ≡ Some u → u ≡ Null)
    → k ≡ blanked (hiding bs w.object) h
heap_is_aside w bs h k alike null = same_lists k (blanked (hiding bs w.object) h) (λ i. by i (same_or_not i w.object.0))
  where
    here : (a b : Option Object) → object_at h w.object ≡ a → object_at k w.object ≡ b → FoundAlike (hidden_beside w (is_one_of bs) w.object) false a b → object_at k w.object ≡ object_at (blanked (hiding bs w.object) h) w.object
    here None None at to same = to ∙ sym (ap (λ (g : List Object). object_at g w.object) (aside_missing bs w.object h at) ∙ at)
    here None (Some y) at to same = absurd same
    here (Some x) None at to same = absurd same
    here (Some x) (Some y) at to same =
        let values : ValuesAlike (is_one_of bs) x.cell.values y.cell.values = record {
          count = same.values.count;
          values = λ c none. same.values.values c (hides_these w bs c ∙ none);
        } in
        let filled = blank_alike bs x.cell.values y.cell.values values (λ c u is at'. null c y u to is at') in
        to ∙ ap Some (object_alike (hidden_beside w (is_one_of bs) w.object) x y (blank_values (shifted 0 bs) x.cell.values) same filled) ∙ sym (aside_here bs w.object h x at)

    there : (o : Id) → (o.0 ≢ w.object.0) → (a b : Option Object) → FoundAlike (hidden_beside w (is_one_of bs) o) false a b → b ≡ a
    there o ne None None same = refl
    there o ne None (Some y) same = absurd same
    there o ne (Some x) None same = absurd same
    there o ne (Some x) (Some y) same =
        let values : ValuesAlike (λ c. false) x.cell.values y.cell.values = record {
          count = same.values.count;
          values = λ c none. same.values.values c (hides_none w bs o ne c);
        } in
        ap Some (object_alike (hidden_beside w (is_one_of bs) o) x y x.cell.values same (plain_alike x.cell.values y.cell.values values))

    by : (i : ℕ) → (i ≡ w.object.0) ⊎ (i ≢ w.object.0) → slice_get k i ≡ slice_get (blanked (hiding bs w.object) h) i
    by i (inl same) =
        subst (λ (n : ℕ). slice_get k n ≡ slice_get (blanked (hiding bs w.object) h) n) (sym same)
        (here (object_at h w.object) (object_at k w.object) refl refl (alike.objects w.object))
    by i (inr ne) =
        let o : Id = record { 0 = i } in
        there o ne (object_at h o) (object_at k o) (alike.objects o) ∙ sym (aside_other bs w.object h i ne)

-- So it is with a state.
pub state_is_aside : (w : View) (bs : List ℕ) (s t : State) → StatesAlike (hidden_beside w (is_one_of bs)) no_ghosts s t
    → ((c : ℕ) (y : Object) (u : Value) → object_at t.heap w.object ≡ Some y → is_one_of bs c ≡ true → slice_get y.cell.values c ≡ Some u → u ≡ Null)
    → t ≡ put_aside bs w.object s
state_is_aside w bs s t alike null =
    alike.rest ∙ ap (λ (heap : List Object). record s { heap = heap }) (heap_is_aside w bs s.heap t.heap alike.heaps null)

-- What the next step writes does not depend on the heap.
pub unwritten_aside : (hidden : Id → (component : ℕ) → Bool) (s : State) (heap : List Object) → Unwritten hidden s → Unwritten hidden (record s { heap = heap })
unwritten_aside hidden s heap = by s.mode s.control
  where
    frame_shown : (f : Frame Value) → FrameWritesShown hidden s f → FrameWritesShown hidden (record s { heap = heap }) f
    frame_shown (frame.StoresIn v c) shown = shown
    frame_shown (frame.StoresRecord v first count) shown = shown
    frame_shown (frame.Receives c) shown = shown
    frame_shown (frame.ClearsIn v c) shown = shown
    frame_shown f shown = tt

    by : (m : Mode) (k : List (Frame Value)) → FirstWritesShown hidden s m k → FirstWritesShown hidden (record s { heap = heap }) m k
    by m [] shown = tt
    by Running (f ∷ k) shown = frame_shown f shown
    by (Raising e) (f ∷ k) shown = tt
    by Exiting (f ∷ k) shown = tt
    by Returning (f ∷ k) shown = tt
