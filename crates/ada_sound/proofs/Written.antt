-- An Integer or a Boolean goes into a component of an object while that is treated (7.6): what is behind the treatment stays as it is.

use Rattle.std.proofs.Common.{◌≡◌, ◌≢◌, ℕ, List, [], ◌∷◌, refl, sym, ap, subst, ◌∙◌, ◌⊎◌, inl, inr}
use Rattle.std.specs.Prelude.{Option, Some, None}
use Rattle.std.specs.List.{slice_get, slice_set}
use Rattle.ada_parts.specs.Task.{Task}
use Rattle.ada_flow.specs.Flow.{Holds}
use Rattle.ada_meaning.specs.declared.event.Birth.TheVariants.{Creation, Copy, Adjustment}
use Rattle.ada_meaning.specs.declared.state.Id.{Id}
use Rattle.ada_meaning.specs.declared.state.Value.{Value}
use Rattle.ada_meaning.specs.declared.state.Value.TheVariants.{Null, Names, Scalar, Part}
use Rattle.ada_meaning.specs.Frame.{Copies, Stores, StoresIn, StoresRecord, Declares, Ends, GivesBack, Treatment, begins, ends}
use Rattle.ada_meaning.specs.State.{Master}
use Rattle.ada_meaning.specs.Step.{first_or}
use Rattle.ada_meaning.specs.Named.{Object, object_at, filled, store}
use Rattle.ada_owners.specs.Keeping.{IsThere}
use Rattle.ada_owners.proofs.Kernel.{same_id, same_or_not}
use Rattle.ada_owners.proofs.Objects.{at_other}
use Rattle.ada_owners.proofs.Changes.{store_is}
use Rattle.ada_tracked.specs.Frames.{watched, number_of, blank_object, blanked, values_at}
use Rattle.ada_tracked.proofs.Heaps.{blanked_here, store_untracked, store_tracked}
use Rattle.ada_sound.proofs.Objects.{set_get, set_here, set_other, set_twice}
use Rattle.ada_sound.proofs.Stored.{stored_filled}
use Rattle.ada_sound.proofs.Fits.{Fit, none_spared, store_blank, wrote_unnamed, gone_fit}
use Rattle.ada_sound.proofs.Originals.{copied_changed}
use Rattle.ada_sound.proofs.AdjustsKept.{adjusts_set}
use Rattle.ada_sound.proofs.CopiedOwners.{NameThere, names_still, hiding}
use Rattle.ada_sound.proofs.HiddenOwners.{names_set as names_replaced}
use Rattle.ada_sound.proofs.Invariant.{outers, AdjustsTo, Beginning, Known, Control, Rooms, RunsOn, Working, IsHolder, IsPlainIn, IsAdjustedIn, NamesTo, BegunTo, EndsTo, StoresBehind, CopiesBehind, TreatsBy, ThenBack, Ending, LiesIn}
use Rattle.ada_sound.proofs.Ready.{at_work}
use Rattle.ada_sound.proofs.Endings.{KeepsFit, swapped, gone_still, under_set, frees_set, named_set, behind_set}
use Rattle.ada_sound.proofs.Undone.{beginning_set, made_set, undo_set}
use Rattle.ada_meaning.specs.declared.event.Cause.TheVariants.{Leaving, Freeing, Assigning, Undoing}

-- This goes into this component.
module _ (c : ℕ) (v : Value) (nameless : (p : Id) → v ≡ Names p → ⊥) where
  abbrev wrote : Object → Object
  wrote x = filled c v x

  -- It stays so of what is known of places.
  wrote_fit : (known : Known) (heap : List Object) (places : List Value) (o : Id) (x : Object) → object_at heap o ≡ Some x → KeepsFit known o (wrote x) heap places
  wrote_fit known heap places o x found spared holds f = rw (store_is heap o x found c v) at (store_blank o x c v found nameless f)

  module _ (heap : List Object) (o : Id) (x : Object) (found : object_at heap o ≡ Some x) where
    -- What is stored in another object, or in another component, is stored there as well; and what goes into the same component stands for this.
    pub beside : (h : Id) (holder : Object) (d : ℕ) (w : Value) → object_at heap h ≡ Some holder
        → ((y : Object) × (object_at (store heap (Names h) d w) o ≡ Some y) × (store (slice_set heap o.0 (wrote x)) (Names h) d w ≡ slice_set (store heap (Names h) d w) o.0 (wrote y)))
        ⊎ (store (slice_set heap o.0 (wrote x)) (Names h) d w ≡ store heap (Names h) d w)
    beside h holder d w at_h = by (same_id h o) (same_or_not c d)
      where
        still : object_at (slice_set heap o.0 (wrote x)) o ≡ Some (wrote x)
        still = set_here heap o.0 x (wrote x) found

        again : store (slice_set heap o.0 (wrote x)) (Names o) d w ≡ slice_set heap o.0 (filled d w (wrote x))
        again = store_is (slice_set heap o.0 (wrote x)) o (wrote x) still d w ∙ set_twice heap o.0 (wrote x) (filled d w (wrote x))

        one : store heap (Names o) d w ≡ slice_set heap o.0 (filled d w x)
        one = store_is heap o x found d w

        apart : c ≢ d → filled d w (wrote x) ≡ wrote (filled d w x)
        apart ne = ap (λ (values : List Value). record x { cell = record (x.cell) { values = values } }) (swapped x.cell.values c d v w ne)

        over : c ≡ d → filled d w (wrote x) ≡ filled d w x
        over e = rw e (ap (λ (values : List Value). record x { cell = record (x.cell) { values = values } }) (set_twice x.cell.values d v w))

        by : (h ≡ o) ⊎ (h ≢ o) → (c ≡ d) ⊎ (c ≢ d)
            → ((y : Object) × (object_at (store heap (Names h) d w) o ≡ Some y) × (store (slice_set heap o.0 (wrote x)) (Names h) d w ≡ slice_set (store heap (Names h) d w) o.0 (wrote y)))
            ⊎ (store (slice_set heap o.0 (wrote x)) (Names h) d w ≡ store heap (Names h) d w)
        by (inl same) (inl e) = inr (rw same (again ∙ (ap (λ (y : Object). slice_set heap o.0 y) (over e) ∙ sym one)))
        by (inl same) (inr ne) =
            inl (
              filled d w x,
              rw (same, one) (set_here heap o.0 x (filled d w x) found),
              rw same (again ∙ (ap (λ (y : Object). slice_set heap o.0 y) (apart ne)
                  ∙ (sym (set_twice heap o.0 (filled d w x) (wrote (filled d w x))) ∙ sym (ap (λ (objects : List Object). slice_set objects o.0 (wrote (filled d w x))) one)))),
            )
        by (inr ne) same =
            let stored = store_is heap h holder at_h d w in
            let there = at_other heap o h (wrote x) ne ∙ at_h in
            let numbers : o.0 ≢ h.0 = λ e. (let same : h ≡ o = ap (λ (n : ℕ). record { 0 = n }) (sym e) in ne same) in
            inl (
              x,
              rw stored (at_other heap h o (filled d w holder) (λ e. ne (sym e)) ∙ found),
              store_is (slice_set heap o.0 (wrote x)) h holder there d w
                  ∙ (swapped heap o.0 h.0 (wrote x) (filled d w holder) numbers
                  ∙ sym (ap (λ (objects : List Object). slice_set objects o.0 (wrote x)) stored)),
            )

    there_set : (h : Id) → IsThere heap h → IsThere (slice_set heap o.0 (wrote x)) h
    there_set h there = by (same_id h o)
      where
        by : (h ≡ o) ⊎ (h ≢ o) → IsThere (slice_set heap o.0 (wrote x)) h
        by (inr ne) = (there.0, at_other heap o h (wrote x) ne ∙ there.1, there.2)
        by (inl same) =
            let one : there.0 ≡ x = let at_h = there.1 in cc (rw same at at_h, found) in
            (wrote x, rw same (set_here heap o.0 x (wrote x) found), rw one at there.2)

    module _ (known : Known) (ms : List Master) where
      works_set : {places : List Value} {more : Rooms → Holds → Type 0} → Working known heap places ms more → Working known (slice_set heap o.0 (wrote x)) places ms more
      works_set {places} w = record {
        rooms = w.rooms;
        holds = w.holds;
        stored = stored_filled o x c v found w.stored;
        roomed = w.roomed;
        fit = wrote_fit known heap places o x found _ w.holds w.fit;
        rest = w.rest;
      }

      -- An object is to end still.
      then_set : (places : List Value) (k : Control) → ThenBack known o x.cell.home heap places ms k → ThenBack known o x.cell.home (slice_set heap o.0 (wrote x)) places ms k
      then_set places [] r = absurd r
      then_set places (GivesBack (Names p) cause pool ∷ k) r = (
        r.0,
        r.1,
        behind_set known o x (wrote x) heap found refl (λ there. refl) (Some o) (Some o) (λ w holder other. (other, other))
            (λ objects held at spared holds f aside. (wrote_fit known objects held o x at spared holds f, (wrote_unnamed objects o x at o aside.0 c v nameless, aside.1)))
            (λ spared held holds f. gone_still heap o x (wrote x) found (λ objects. Fit known.program.types known.program.variables (outers known) spared objects held holds) (gone_fit heap o x (wrote x) found) f)
            (under_set heap o x (wrote x) found refl refl) (frees_set known heap o x (wrote x) found refl) (λ w d holder other. named_set known heap o x (wrote x) found refl w d other) cause x.cell.home.item places ms k
            (λ m item leaves going. ((λ spared holds f. wrote_fit known heap places o x found spared holds f), λ unreferred. unreferred)) r.2,
      )
      then_set places (f ∷ k) r = absurd r

      ending_set : (places : List Value) (k : Control) (e : Ending known o k heap places ms) → e.object ≡ x → Ending known o k (slice_set heap o.0 (wrote x)) places ms
      ending_set places k e one = record {
        object = wrote x;
        found = set_here heap o.0 x (wrote x) found;
        exists = rw one at e.exists;
        out = rw one at e.out;
        parted = rw one at e.parted;
        stored = stored_filled o x c v found e.stored;
        covered = rw one at e.covered;
        rest = then_set places k (rw one at e.rest);
      }

      ends_set : (u : Value) (places : List Value) (k : Control) → u ≡ Names o → EndsTo known u k heap places ms → EndsTo known u k (slice_set heap o.0 (wrote x)) places ms
      ends_set u places [] is r = absurd r
      ends_set u places (Ends w ∷ k) is r =
          let named_so : w ≡ Names o = r.0 ∙ is in
          let e : Ending known o k heap places ms = rw named_so at r.1 in
          let one : e.object ≡ x = let at = e.found in cc (at, found) in
          (r.0, rw named_so (ending_set places k e one))
      ends_set u places (f ∷ k) is r = absurd r

  module _ (known : Known) (ms : List Master) (heap : List Object) (o : Id) (x : Object) (found : object_at heap o ≡ Some x) (was : (p : Id) → slice_get x.cell.values c ≡ Some (Names p) → ⊥) where
    -- What gets the name of a new object gets it still.
    put_set : (h : Value) (d : ℕ) (w : Value) (places : List Value) (k : Control) → IsHolder heap h × Working known (store heap h d w) places ms (RunsOn known k) → IsHolder (slice_set heap o.0 (wrote x)) h × Working known (store (slice_set heap o.0 (wrote x)) h d w) places ms (RunsOn known k)
    put_set Null d w places k r = absurd r.0
    put_set (Scalar n) d w places k r = absurd r.0
    put_set (Part object_id base) d w places k r = absurd r.0
    put_set (Names h) d w places k r = (there_set heap o x found h there, works (beside heap o x found h there.0 d w there.1))
      where
        there : IsThere heap h
        there = r.0

        works : ((y : Object) × (object_at (store heap (Names h) d w) o ≡ Some y) × (store (slice_set heap o.0 (wrote x)) (Names h) d w ≡ slice_set (store heap (Names h) d w) o.0 (wrote y))) ⊎ (store (slice_set heap o.0 (wrote x)) (Names h) d w ≡ store heap (Names h) d w)
            → Working known (store (slice_set heap o.0 (wrote x)) (Names h) d w) places ms (RunsOn known k)
        works (inl b) = subst (λ (objects : List Object). Working known objects places ms (RunsOn known k)) (sym b.2) (works_set (store heap (Names h) d w) o b.0 b.1 known ms r.1)
        works (inr b) = subst (λ (objects : List Object). Working known objects places ms (RunsOn known k)) (sym b) r.1

    names_set : (places operands : List Value) (k : Control) → NamesTo known k heap places operands ms → NamesTo known k (slice_set heap o.0 (wrote x)) places operands ms
    names_set places operands [] r = absurd r
    names_set places operands (Stores z ∷ k) r = works_set heap o x found known ms r
    names_set places operands (Declares z ∷ k) r = works_set heap o x found known ms r
    names_set places operands (StoresIn h d ∷ k) r = put_set h d _ places k r
    names_set places operands (f ∷ k) r = absurd r

    begins_set : (places : List Value) (k : Control) → Beginning known (Names o) k heap places ms → Beginning known (Names o) k (slice_set heap o.0 (wrote x)) places ms
    begins_set places k b =
        beginning_set known heap places ms o x (wrote x) found refl refl (stored_filled o x c v found) (λ holds f. wrote_fit known heap places o x found none_spared holds f)
        (λ holds aside. (wrote_unnamed heap o x found o aside.0 c v nameless, aside.1)) (Names o) k refl b

    begun_set : (places operands : List Value) (k : Control) → BegunTo known (Names o) k heap places operands ms → BegunTo known (Names o) k (slice_set heap o.0 (wrote x)) places operands ms
    begun_set places operands k (inl b) = inl (begins_set places k b)
    begun_set places operands k (inr r) = inr (
      r.0,
      made_set known heap places ms o x (wrote x) found refl refl (stored_filled o x c v found) (λ holds f. wrote_fit known heap places o x found none_spared holds f)
          (λ holds aside. (wrote_unnamed heap o x found o aside.0 c v nameless, aside.1)) (Names o) k refl r.1,
      names_set places operands k r.2,
    )

    -- So does what is left of an adjustment: where the component is hidden, nothing changes in what is seen.
    hidden_set : (owners : List ℕ) (places : List Value) (more : Rooms → Holds → Type 0) → Working known (blanked (hiding owners o) heap) places ms more
        → Working known (blanked (hiding owners o) (slice_set heap o.0 (wrote x))) places ms more
    hidden_set owners places more w = by (number_of (hiding owners o) c) refl
      where
        stored : store heap (Names o) c v ≡ slice_set heap o.0 (wrote x)
        stored = store_is heap o x found c v

        by : (number : Option ℕ) → number_of (hiding owners o) c ≡ number → Working known (blanked (hiding owners o) (slice_set heap o.0 (wrote x))) places ms more
        by (Some i) is =
            let same : blanked (hiding owners o) heap ≡ blanked (hiding owners o) (slice_set heap o.0 (wrote x)) =
            sym (store_tracked (hiding owners o) heap x found c i v is) ∙ ap (λ (objects : List Object). blanked (hiding owners o) objects) stored in
            subst (λ (objects : List Object). Working known objects places ms more) same w
        by None is =
            let at_o = blanked_here (hiding owners o) heap x found in
            let y = blank_object (watched (hiding owners o)) x in
            let same : slice_set (blanked (hiding owners o) heap) o.0 (wrote y) ≡ blanked (hiding owners o) (slice_set heap o.0 (wrote x)) =
            sym (store_is (blanked (hiding owners o) heap) o y at_o c v)
            ∙ (store_untracked (hiding owners o) heap x found c v is ∙ ap (λ (objects : List Object). blanked (hiding owners o) objects) stored) in
            subst (λ (objects : List Object). Working known objects places ms more) same (works_set (blanked (hiding owners o) heap) o y at_o known ms w)

    -- What is hidden names what is there still: what is written names nothing.
    names_kept : (owners : List ℕ) → NameThere heap (values_at owners x.cell.values) → NameThere (slice_set heap o.0 (wrote x)) (values_at owners (wrote x).cell.values)
    names_kept owners there =
        names_still heap (slice_set heap o.0 (wrote x)) (values_at owners (wrote x).cell.values) (there_set heap o x found)
        (names_replaced heap owners x.cell.values c v (λ p is. absurd (nameless p is)) there)

    -- Components name what they named.
    named_before : (d : ℕ) (p : Id) → slice_get (wrote x).cell.values d ≡ Some (Names p) → slice_get x.cell.values d ≡ Some (Names p)
    named_before d p at = elim (set_get x.cell.values c d v (Names p) at) [ inl here ↦ absurd (nameless p (sym here.1)) | inr there ↦ there.1 ]

    named_still : (d : ℕ) (p : Id) → slice_get x.cell.values d ≡ Some (Names p) → slice_get (wrote x).cell.values d ≡ Some (Names p)
    named_still d p at = elim (same_or_not d c) [
      | inl same ↦ absurd (was p (ap (λ (n : ℕ). slice_get x.cell.values n) (sym same) ∙ at))
      | inr ne ↦ set_other x.cell.values c d v ne ∙ at
    ]

    copy_set : (tasks : List Task) (places : List Value) (k : Control) → AdjustsTo known (Names o) tasks k heap places ms → AdjustsTo known (Names o) tasks k (slice_set heap o.0 (wrote x)) places ms
    copy_set tasks places k to =
        adjusts_set known heap places ms o x (wrote x) found refl refl names_kept
        (λ r to owners copied. copied_changed known.program.types heap o x (wrote x) found refl refl named_before named_still r to owners copied) (λ owners more w. hidden_set owners places more w) (Names o) tasks k refl to

    -- So does what is copied to a record that is assigned to.
    lies_set : (t : ℕ) (u : Value) → LiesIn known heap t u → LiesIn known (slice_set heap o.0 (wrote x)) t u
    lies_set t Null lies = absurd lies
    lies_set t (Scalar n) lies = absurd lies
    lies_set t (Part q place) lies = absurd lies
    lies_set t (Names q) lies = by (same_id q o)
      where
        by : (q ≡ o) ⊎ (q ≢ o) → LiesIn known (slice_set heap o.0 (wrote x)) t (Names q)
        by (inr ne) = (lies.0, at_other heap o q (wrote x) ne ∙ lies.1, lies.2, lies.3)
        by (inl same) =
            let one : lies.0 ≡ x = let at_q = lies.1 in cc (rw same at at_q, found) in
            (wrote x, rw same (set_here heap o.0 x (wrote x) found), rw one at lies.2, rw one at lies.3)

    plain_set : (u : Value) (first count : ℕ) → IsPlainIn known heap u first count → IsPlainIn known (slice_set heap o.0 (wrote x)) u first count
    plain_set Null first count p = absurd p
    plain_set (Scalar n) first count p = absurd p
    plain_set (Part q place) first count p = absurd p
    plain_set (Names q) first count p = by (same_id q o)
      where
        by : (q ≡ o) ⊎ (q ≢ o) → IsPlainIn known (slice_set heap o.0 (wrote x)) (Names q) first count
        by (inr ne) = (p.0, at_other heap o q (wrote x) ne ∙ p.1, p.2, p.3)
        by (inl same) =
            let one : p.0 ≡ x = let at_q = p.1 in cc (rw same at at_q, found) in
            (wrote x, rw same (set_here heap o.0 x (wrote x) found), rw one at p.2, rw one at p.3)

    adjusted_set : (u : Value) (t first count : ℕ) (k : Control) (rooms : Rooms) (holds : Holds) → IsAdjustedIn known heap u t first count k rooms holds → IsAdjustedIn known (slice_set heap o.0 (wrote x)) u t first count k rooms holds
    adjusted_set Null t first count k rooms holds r = absurd r
    adjusted_set (Scalar n) t first count k rooms holds r = absurd r
    adjusted_set (Part q place) t first count k rooms holds r = absurd r
    adjusted_set (Names q) t first count k rooms holds r = by (same_id q o)
      where
        by : (q ≡ o) ⊎ (q ≢ o) → IsAdjustedIn known (slice_set heap o.0 (wrote x)) (Names q) t first count k rooms holds
        by (inr ne) = (r.0, at_other heap o q (wrote x) ne ∙ r.1, r.2, r.3)
        by (inl same) =
            let one : r.0 ≡ x = let at_q = r.1 in cc (rw same at at_q, found) in
            (wrote x, rw same (set_here heap o.0 x (wrote x) found), rw one at r.2, rw one at r.3)

    stores_set : (t : ℕ) (k : Control) (rooms : Rooms) (holds : Holds) → StoresBehind known heap t k rooms holds → StoresBehind known (slice_set heap o.0 (wrote x)) t k rooms holds
    stores_set t [] rooms holds r = absurd r
    stores_set t (StoresRecord p first count ∷ k) rooms holds (inl r) = inl (plain_set p first count r.0, r.1)
    stores_set t (StoresRecord p first count ∷ k) rooms holds (inr r) = inr (adjusted_set p t first count k rooms holds r)
    stores_set t (f ∷ k) rooms holds r = absurd r

    copies_set : (places operands : List Value) (k : Control) → CopiesBehind known k heap places operands ms → CopiesBehind known k (slice_set heap o.0 (wrote x)) places operands ms
    copies_set places operands [] r = absurd r
    copies_set places operands (Copies first t ∷ k) (copied, w) =
        (copied, works_set heap o x found known ms (at_work w ((lies_set t (first_or Null operands) w.rest.0.0, w.rest.0.1), stores_set t k w.rooms w.holds w.rest.1, w.rest.2)))
    copies_set places operands (f ∷ k) r = absurd r

    -- Whatever is behind the treatment of the object.
    pub treats_written : (treatment : Treatment) (tasks : List Task) (places operands : List Value) (k : Control) → TreatsBy known (Names o) treatment tasks k heap places operands ms → TreatsBy known (Names o) treatment tasks k (slice_set heap o.0 (wrote x)) places operands ms
    treats_written (begins Creation done) tasks places operands k r = (
      begun_set places operands k r.0,
      undo_set known heap places ms o x (wrote x) found refl refl (stored_filled o x c v found)
          (λ holds f. gone_fit heap o x (wrote x) found f) (λ holds f. wrote_fit known heap places o x found none_spared holds f)
          (λ holds aside. (wrote_unnamed heap o x found o aside.0 c v nameless, aside.1)) k r.1,
    )
    treats_written (begins Copy done) tasks places operands k r = copy_set tasks places k r
    treats_written (begins (Adjustment number) done) tasks places operands k r = copy_set tasks places k r
    treats_written (ends (Leaving m item)) tasks places operands k r = ends_set heap o x found known ms (Names o) places k refl r
    treats_written (ends (Freeing number)) tasks places operands k r = ends_set heap o x found known ms (Names o) places k refl r
    treats_written (ends (Assigning number)) tasks places operands k r = copies_set places operands k r
    treats_written (ends (Undoing number)) tasks places operands k r = ends_set heap o x found known ms (Names o) places k refl r
