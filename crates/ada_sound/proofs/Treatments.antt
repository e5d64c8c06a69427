-- The controlled parts of an object are initialized or finalized (7.6, 7.6.1): what is relied on stays as it is, and so does what is behind.

use Rattle.std.proofs.Common.{◌≡◌, ◌≢◌, ℕ, suc, ◌≤◌, Bool, true, false, List, [], ◌∷◌, length, refl, sym, ap, subst, ◌∙◌, ◌⊎◌, inl, inr}
use Rattle.std.specs.Prelude.{◌==◌, if◌then◌else◌, Option, Some, None}
use Rattle.std.specs.List.{slice_get, slice_set}
use Rattle.ada_parts.specs.declared.tasks.Next.{Next as Follows}
use Rattle.ada_parts.specs.declared.tasks.Next.TheVariants.{Done, Pick, Perform}
use Rattle.ada_parts.specs.Part as parts
use Rattle.ada_parts.specs.declared.tasks.Direction.TheVariants.{PartsFirst}
use Rattle.ada_parts.specs.Shape.{Shape}
use Rattle.ada_parts.specs.Task.{Task, performs, treats, taken, performed, IsOpen, next as task_next}
use Rattle.ada_parts.proofs.Runs.{call_is}
use Rattle.ada_program.specs.declared.program.TypeDefinition.{TypeDefinition}
use Rattle.ada_program.specs.Controlled.{operations_of, procedure_number, shapes_of}
use Rattle.ada_program.specs.ProgramForm.{BodyForm, TypeForm}
use Rattle.ada_flow.specs.Flow.{Holds}
use Rattle.ada_meaning.specs.declared.event.Birth.{Birth}
use Rattle.ada_meaning.specs.declared.event.Birth.TheVariants.{Creation, Copy, Adjustment}
use Rattle.ada_meaning.specs.declared.event.Cause.{Cause}
use Rattle.ada_meaning.specs.declared.state.Id.{Id}
use Rattle.ada_meaning.specs.declared.state.Place.{Place}
use Rattle.ada_meaning.specs.declared.state.Stage.{Stage}
use Rattle.ada_meaning.specs.declared.state.Stage.TheVariants.{Building, Existing, Gone}
use Rattle.ada_meaning.specs.declared.state.Value.{Value}
use Rattle.ada_meaning.specs.declared.state.Value.TheVariants.{Null, Names, Scalar, Part}
use Rattle.ada_meaning.specs.declared.event.Halt.TheVariants.{Erroneous, Stuck}
use Rattle.ada_meaning.specs.declared.event.Why.TheVariants.{FinalizesTwice}
use Rattle.ada_meaning.specs.Event.{Born, Finalized, Back, Followed, Left, Line, Quiet}
use Rattle.ada_meaning.specs.Frame.{Copies, Stores, StoresIn, StoresRecord, Declares, Ends, GivesBack, Treatment, begins, ends}
use Rattle.ada_meaning.specs.Frame as frame
use Rattle.ada_meaning.specs.Heap.{PartState, Cell, Found, on_null, on_gone, on_other, finds}
use Rattle.ada_meaning.specs.State.{Activation, Master, counted}
use Rattle.ada_meaning.specs.Step.{picked_task, treating, first_or, halts, moves, tells, asks, picks, direction_of, treated_on, beginning, operating, operation_next, part_reference, born_next, begun_next, awaited_next, ended_next, finalized_next, performed_next, treats_next}
use Rattle.ada_meaning.specs.Named.{Object, State, Next, object_at, existing, seen, look, named, changed, on_object, store, filled, treated, born_part, finalized_part}
use Rattle.ada_meaning.specs.Run.{Event}
use Rattle.ada_typed.proofs.Kept.{behind_call, behind_treating}
use Rattle.ada_owners.specs.Keeping.{IsThere}
use Rattle.ada_owners.proofs.Kernel.{same_id}
use Rattle.ada_owners.proofs.Objects.{at_other}
use Rattle.ada_owners.proofs.Changes.{store_is}
use Rattle.ada_sound.proofs.Objects.{set_get, set_here, set_twice}
use Rattle.ada_sound.proofs.Stored.{HasDeparted, stored_treated}
use Rattle.ada_sound.proofs.Fits.{Fit, treated_fit, same_unnamed, gone_fit}
use Rattle.ada_sound.proofs.Alters.{Alters, alters_same, alters_set}
use Rattle.ada_owners.specs.Places.{is_there}
use Rattle.ada_typed.proofs.Parts.{shown_shapes}
use Rattle.ada_tracked.specs.Frames.{watched, blank_object, blanked, values_at}
use Rattle.ada_tracked.proofs.Heaps.{blanked_here}
use Rattle.ada_sound.proofs.CopiedOwners.{BeginsCopy, hiding, names_still, owners_numbered}
use Rattle.ada_sound.proofs.Originals.{copied_changed}
use Rattle.ada_sound.proofs.AdjustsKept.{adjusts_set, adjusts_skipped, set_blanked}
use Rattle.ada_sound.proofs.Invariant.{outers, AdjustsTo, Beginning, Known, Control, Rooms, RunsOn, Working, IsHolder, IsPlainIn, IsAdjustedIn, IsLive, NamesTo, BegunTo, EndsTo, StoresBehind, CopiesBehind, TreatsBy, ThenBack, Ending, ConfinesBy, EndsWell, Stepped, Fine, IsOfAssigned, IsOfCopied, LiesIn}
use Rattle.ada_sound.proofs.Ready.{running, at_work, stays, treats_ready}
use Rattle.ada_sound.proofs.Endings.{swapped, gone_still, under_set, frees_set, named_set, behind_set}
use Rattle.ada_sound.proofs.Undone.{beginning_set, made_set, undo_set}
use Rattle.ada_sound.proofs.Operating.{StaysLive, WaitsFor, IsCalled}
use Rattle.ada_meaning.specs.declared.event.Cause.TheVariants.{Leaving, Freeing, Assigning, Undoing}
use Rattle.ada_parts.specs.declared.tasks.Direction.{Direction}
use Rattle.ada_sound.proofs.InsideRecords.{TasksInside, performed_inside}

-- A part of the object that a value names changes.
module _ (change : PartState → PartState) (part : ℕ) where
  -- What holds of all objects holds still, if it does where there is such an object.
  changed_or_same : (P : List Object → Type 0) (heap : List Object) (v : Value) → P heap → ((o : Id) (x : Object) → v ≡ Names o → object_at heap o ≡ Some x → P (slice_set heap o.0 (treated change part x))) → P (on_object (treated change part) heap v)
  changed_or_same P heap Null same set = same
  changed_or_same P heap (Scalar n) same set = same
  changed_or_same P heap (Part object_id base) same set = same
  changed_or_same P heap (Names o) same set = go (object_at heap o) refl
    where
      go : (t : Option Object) → object_at heap o ≡ t → P (changed (treated change part) t heap o)
      go None found = same
      go (Some x) found = set o x refl found

  pub alters_treated : (heap : List Object) (e : Event) (v : Value) → Alters heap e (on_object (treated change part) heap v)
  alters_treated heap e v =
      changed_or_same (λ after. Alters heap e after) heap v (alters_same heap e)
      (λ o x is found. alters_set heap e o x (treated change part x) found (refl, refl, refl) (λ h. h) (λ h. inl h))

  -- What has departed had done so before.
  pub departed_before : (heap : List Object) (v : Value) (q : Id) (y : Object) → HasDeparted (on_object (treated change part) heap v) q y → (z : Object) × HasDeparted heap q z
  departed_before heap v =
      changed_or_same (λ after. (q : Id) (y : Object) → HasDeparted after q y → (z : Object) × HasDeparted heap q z) heap v (λ q y gone. (y, gone)) one
    where
      one : (o : Id) (x : Object) → v ≡ Names o → object_at heap o ≡ Some x → (q : Id) (y : Object) → HasDeparted (slice_set heap o.0 (treated change part x)) q y → (z : Object) × HasDeparted heap q z
      one o x is found q y gone = by (set_get heap o.0 q.0 (treated change part x) y gone.found)
        where
          by : ((q.0 ≡ o.0) × (y ≡ treated change part x)) ⊎ ((q.0 ≢ o.0) × (slice_get heap q.0 ≡ Some y)) → (z : Object) × HasDeparted heap q z
          by (inl here) = (x, record { found = rw (here.0) found; there = rw here.1 at gone.there; back = rw here.1 at gone.back })
          by (inr other) = (y, record { found = other.1; there = gone.there; back = gone.back })

  module _ (heap : List Object) (o : Id) (x : Object) (found : object_at heap o ≡ Some x) where
    -- What is stored in an object is stored there as well once a part has changed.
    stored_beside : (h : Id) (holder : Object) (c : ℕ) (w : Value) → object_at heap h ≡ Some holder → (y : Object) × (object_at (store heap (Names h) c w) o ≡ Some y) × (store (slice_set heap o.0 (treated change part x)) (Names h) c w ≡ slice_set (store heap (Names h) c w) o.0 (treated change part y))
    stored_beside h holder c w at_h = by (same_id h o)
      where
        here : h ≡ o → (y : Object) × (object_at (store heap (Names o) c w) o ≡ Some y) × (store (slice_set heap o.0 (treated change part x)) (Names o) c w ≡ slice_set (store heap (Names o) c w) o.0 (treated change part y))
        here same =
            let stored = store_is heap o x found c w in
            let still = set_here heap o.0 x (treated change part x) found in
            let after = filled c w (treated change part x) in (
              filled c w x,
              rw stored (set_here heap o.0 x (filled c w x) found),
              store_is (slice_set heap o.0 (treated change part x)) o (treated change part x) still c w
                  ∙ (set_twice heap o.0 (treated change part x) after
                  ∙ (sym (set_twice heap o.0 (filled c w x) after) ∙ sym (ap (λ (objects : List Object). slice_set objects o.0 after) stored))),
            )

        by : (h ≡ o) ⊎ (h ≢ o) → (y : Object) × (object_at (store heap (Names h) c w) o ≡ Some y) × (store (slice_set heap o.0 (treated change part x)) (Names h) c w ≡ slice_set (store heap (Names h) c w) o.0 (treated change part y))
        by (inl same) = rw same (here same)
        by (inr ne) =
            let stored = store_is heap h holder at_h c w in
            let still = at_other heap o h (treated change part x) ne ∙ at_h in
            let numbers : o.0 ≢ h.0 = λ e. (let same : h ≡ o = ap (λ (n : ℕ). record { 0 = n }) (sym e) in ne same) in (
              x,
              rw stored (at_other heap h o (filled c w holder) (λ e. ne (sym e)) ∙ found),
              store_is (slice_set heap o.0 (treated change part x)) h holder still c w
                  ∙ (swapped heap o.0 h.0 (treated change part x) (filled c w holder) numbers
                  ∙ sym (ap (λ (objects : List Object). slice_set objects o.0 (treated change part x)) stored)),
            )

    there_set : (h : Id) → IsThere heap h → IsThere (slice_set heap o.0 (treated change part x)) h
    there_set h there = by (same_id h o)
      where
        by : (h ≡ o) ⊎ (h ≢ o) → IsThere (slice_set heap o.0 (treated change part x)) h
        by (inr ne) = (there.0, at_other heap o h (treated change part x) ne ∙ there.1, there.2)
        by (inl same) =
            let one : there.0 ≡ x = let at_h = there.1 in cc (rw same at at_h, found) in
            (treated change part x, rw same (set_here heap o.0 x (treated change part x) found), rw one at there.2)

    module _ (known : Known) (ms : List Master) where
      works_set : {places : List Value} {more : Rooms → Holds → Type 0} → Working known heap places ms more → Working known (slice_set heap o.0 (treated change part x)) places ms more
      works_set w = record {
        rooms = w.rooms;
        holds = w.holds;
        stored = stored_treated change part o x found w.stored;
        roomed = w.roomed;
        fit = treated_fit change part o x found w.fit;
        rest = w.rest;
      }

      -- An object is to end still.
      then_set : (places : List Value) (k : Control) → ThenBack known o x.cell.home heap places ms k → ThenBack known o x.cell.home (slice_set heap o.0 (treated change part x)) places ms k
      then_set places [] r = absurd r
      then_set places (GivesBack (Names p) cause pool ∷ k) r = (
        r.0,
        r.1,
        behind_set known o x (treated change part x) heap found refl (λ there. refl) (Some o) (Some o) (λ w holder other. (other, other))
            (λ objects held at spared holds f aside. (treated_fit change part o x at f, (same_unnamed objects o x at o aside.0 (treated change part x) refl (λ c. refl), aside.1)))
            (λ spared held holds f. gone_still heap o x (treated change part x) found (λ objects. Fit known.program.types known.program.variables (outers known) spared objects held holds) (gone_fit heap o x (treated change part x) found) f)
            (under_set heap o x (treated change part x) found refl refl) (frees_set known heap o x (treated change part x) found refl) (λ w d holder other. named_set known heap o x (treated change part x) found refl w d other) cause x.cell.home.item places ms k
            (λ m item leaves going. ((λ spared holds f. treated_fit change part o x found f), λ unreferred. unreferred)) r.2,
      )
      then_set places (f ∷ k) r = absurd r

      ending_set : (places : List Value) (k : Control) (e : Ending known o k heap places ms) → e.object ≡ x → Ending known o k (slice_set heap o.0 (treated change part x)) places ms
      ending_set places k e one = record {
        object = treated change part x;
        found = set_here heap o.0 x (treated change part x) found;
        exists = rw one at e.exists;
        out = rw one at e.out;
        parted = rw one at e.parted;
        stored = stored_treated change part o x found e.stored;
        covered = rw one at e.covered;
        rest = then_set places k (rw one at e.rest);
      }

      ends_set : (v : Value) (places : List Value) (k : Control) → v ≡ Names o → EndsTo known v k heap places ms → EndsTo known v k (slice_set heap o.0 (treated change part x)) places ms
      ends_set v places [] is r = absurd r
      ends_set v places (Ends w ∷ k) is r =
          let named_so : w ≡ Names o = r.0 ∙ is in
          let e : Ending known o k heap places ms = rw named_so at r.1 in
          let one : e.object ≡ x = let at = e.found in cc (at, found) in
          (r.0, rw named_so (ending_set places k e one))
      ends_set v places (f ∷ k) is r = absurd r

  module _ (known : Known) (ms : List Master) (heap : List Object) (o : Id) (x : Object) (found : object_at heap o ≡ Some x) where
    -- What gets the name of a new object gets it still.
    put_set : (h : Value) (c : ℕ) (w : Value) (places : List Value) (k : Control) → IsHolder heap h × Working known (store heap h c w) places ms (RunsOn known k) → IsHolder (slice_set heap o.0 (treated change part x)) h × Working known (store (slice_set heap o.0 (treated change part x)) h c w) places ms (RunsOn known k)
    put_set Null c w places k r = absurd r.0
    put_set (Scalar n) c w places k r = absurd r.0
    put_set (Part object_id base) c w places k r = absurd r.0
    put_set (Names h) c w places k r =
        let there = r.0 in
        let beside = stored_beside heap o x found h there.0 c w there.1 in
        let works = works_set (store heap (Names h) c w) o beside.0 beside.1 known ms r.1 in
        (there_set heap o x found h there, subst (λ (objects : List Object). Working known objects places ms (RunsOn known k)) (sym beside.2) works)

    names_set : (places operands : List Value) (k : Control) → NamesTo known k heap places operands ms → NamesTo known k (slice_set heap o.0 (treated change part x)) places operands ms
    names_set places operands [] r = absurd r
    names_set places operands (Stores z ∷ k) r = works_set heap o x found known ms r
    names_set places operands (Declares z ∷ k) r = works_set heap o x found known ms r
    names_set places operands (StoresIn h c ∷ k) r = put_set h c _ places k r
    names_set places operands (f ∷ k) r = absurd r

    begins_set : (v : Value) (places : List Value) (k : Control) → v ≡ Names o → Beginning known v k heap places ms → Beginning known v k (slice_set heap o.0 (treated change part x)) places ms
    begins_set v places k is b =
        beginning_set known heap places ms o x (treated change part x) found refl refl (stored_treated change part o x found) (λ holds f. treated_fit change part o x found f)
        (λ holds aside. (same_unnamed heap o x found o aside.0 (treated change part x) refl (λ c. refl), aside.1)) v k is b

    begun_set : (v : Value) (places operands : List Value) (k : Control) → v ≡ Names o → BegunTo known v k heap places operands ms → BegunTo known v k (slice_set heap o.0 (treated change part x)) places operands ms
    begun_set v places operands k is (inl b) = inl (begins_set v places k is b)
    begun_set v places operands k is (inr r) = inr (
      r.0,
      made_set known heap places ms o x (treated change part x) found refl refl (stored_treated change part o x found) (λ holds f. treated_fit change part o x found f)
          (λ holds aside. (same_unnamed heap o x found o aside.0 (treated change part x) refl (λ c. refl), aside.1)) v k is r.1,
      names_set places operands k r.2,
    )

    -- So does what is left of an adjustment: no component changes, whether it is hidden or not.
    hidden_set : (owners : List ℕ) (places : List Value) (more : Rooms → Holds → Type 0) → Working known (blanked (hiding owners o) heap) places ms more
        → Working known (blanked (hiding owners o) (slice_set heap o.0 (treated change part x))) places ms more
    hidden_set owners places more w =
        subst (λ (objects : List Object). Working known objects places ms more) (set_blanked (hiding owners o) heap x found (treated change part) refl)
        (works_set (blanked (hiding owners o) heap) o (blank_object (watched (hiding owners o)) x) (blanked_here (hiding owners o) heap x found) known ms w)

    copy_set : (v : Value) (tasks : List Task) (places : List Value) (k : Control) → v ≡ Names o → AdjustsTo known v tasks k heap places ms → AdjustsTo known v tasks k (slice_set heap o.0 (treated change part x)) places ms
    copy_set v tasks places k is to =
        adjusts_set known heap places ms o x (treated change part x) found refl refl
        (λ owners there. names_still heap (slice_set heap o.0 (treated change part x)) (values_at owners x.cell.values) (there_set heap o x found) there)
        (λ r to owners copied. copied_changed known.program.types heap o x (treated change part x) found refl refl (λ c p at. at) (λ c p at. at) r to owners copied)
        (λ owners more w. hidden_set owners places more w) v tasks k is to

    -- So does what is copied to a record that is assigned to.
    lies_set : (t : ℕ) (v : Value) → LiesIn known heap t v → LiesIn known (slice_set heap o.0 (treated change part x)) t v
    lies_set t Null lies = absurd lies
    lies_set t (Scalar n) lies = absurd lies
    lies_set t (Part q place) lies = absurd lies
    lies_set t (Names q) lies = by (same_id q o)
      where
        by : (q ≡ o) ⊎ (q ≢ o) → LiesIn known (slice_set heap o.0 (treated change part x)) t (Names q)
        by (inr ne) = (lies.0, at_other heap o q (treated change part x) ne ∙ lies.1, lies.2, lies.3)
        by (inl same) =
            let one : lies.0 ≡ x = let at_q = lies.1 in cc (rw same at at_q, found) in
            (treated change part x, rw same (set_here heap o.0 x (treated change part x) found), rw one at lies.2, rw one at lies.3)

    plain_set : (v : Value) (first count : ℕ) → IsPlainIn known heap v first count → IsPlainIn known (slice_set heap o.0 (treated change part x)) v first count
    plain_set Null first count p = absurd p
    plain_set (Scalar n) first count p = absurd p
    plain_set (Part q place) first count p = absurd p
    plain_set (Names q) first count p = by (same_id q o)
      where
        by : (q ≡ o) ⊎ (q ≢ o) → IsPlainIn known (slice_set heap o.0 (treated change part x)) (Names q) first count
        by (inr ne) = (p.0, at_other heap o q (treated change part x) ne ∙ p.1, p.2, p.3)
        by (inl same) =
            let one : p.0 ≡ x = let at_q = p.1 in cc (rw same at at_q, found) in
            (treated change part x, rw same (set_here heap o.0 x (treated change part x) found), rw one at p.2, rw one at p.3)

    adjusted_set : (v : Value) (t first count : ℕ) (k : Control) (rooms : Rooms) (holds : Holds) → IsAdjustedIn known heap v t first count k rooms holds → IsAdjustedIn known (slice_set heap o.0 (treated change part x)) v t first count k rooms holds
    adjusted_set Null t first count k rooms holds r = absurd r
    adjusted_set (Scalar n) t first count k rooms holds r = absurd r
    adjusted_set (Part q place) t first count k rooms holds r = absurd r
    adjusted_set (Names q) t first count k rooms holds r = by (same_id q o)
      where
        by : (q ≡ o) ⊎ (q ≢ o) → IsAdjustedIn known (slice_set heap o.0 (treated change part x)) (Names q) t first count k rooms holds
        by (inr ne) = (r.0, at_other heap o q (treated change part x) ne ∙ r.1, r.2, r.3)
        by (inl same) =
            let one : r.0 ≡ x = let at_q = r.1 in cc (rw same at at_q, found) in
            (treated change part x, rw same (set_here heap o.0 x (treated change part x) found), rw one at r.2, rw one at r.3)

    stores_set : (t : ℕ) (k : Control) (rooms : Rooms) (holds : Holds) → StoresBehind known heap t k rooms holds → StoresBehind known (slice_set heap o.0 (treated change part x)) t k rooms holds
    stores_set t [] rooms holds r = absurd r
    stores_set t (StoresRecord p first count ∷ k) rooms holds (inl r) = inl (plain_set p first count r.0, r.1)
    stores_set t (StoresRecord p first count ∷ k) rooms holds (inr r) = inr (adjusted_set p t first count k rooms holds r)
    stores_set t (f ∷ k) rooms holds r = absurd r

    copies_set : (places operands : List Value) (k : Control) → CopiesBehind known k heap places operands ms → CopiesBehind known k (slice_set heap o.0 (treated change part x)) places operands ms
    copies_set places operands [] r = absurd r
    copies_set places operands (Copies first t ∷ k) (copied, w) =
        (copied, works_set heap o x found known ms (at_work w ((lies_set t (first_or Null operands) w.rest.0.0, w.rest.0.1), stores_set t k w.rooms w.holds w.rest.1, w.rest.2)))
    copies_set places operands (f ∷ k) r = absurd r

    treats_set : (v : Value) (treatment : Treatment) (tasks : List Task) (places operands : List Value) (k : Control) → v ≡ Names o → TreatsBy known v treatment tasks k heap places operands ms → TreatsBy known v treatment tasks k (slice_set heap o.0 (treated change part x)) places operands ms
    treats_set v (begins Creation done) tasks places operands k is r = (
      begun_set v places operands k is r.0,
      rw is (undo_set known heap places ms o x (treated change part x) found refl refl (stored_treated change part o x found)
          (λ holds f. gone_fit heap o x (treated change part x) found f) (λ holds f. treated_fit change part o x found f)
          (λ holds aside. (same_unnamed heap o x found o aside.0 (treated change part x) refl (λ c. refl), aside.1)) k (rw is at r.1)),
    )
    treats_set v (begins Copy done) tasks places operands k is r = copy_set v tasks places k is r
    treats_set v (begins (Adjustment number) done) tasks places operands k is r = copy_set v tasks places k is r
    treats_set v (ends (Leaving m item)) tasks places operands k is r = ends_set heap o x found known ms v places k is r
    treats_set v (ends (Freeing number)) tasks places operands k is r = ends_set heap o x found known ms v places k is r
    treats_set v (ends (Assigning number)) tasks places operands k is r = copies_set places operands k r
    treats_set v (ends (Undoing number)) tasks places operands k is r = ends_set heap o x found known ms v places k is r

  pub treats_changed : (known : Known) (ms : List Master) (heap : List Object) (v : Value) (treatment : Treatment) (tasks : List Task) (places operands : List Value) (k : Control) → TreatsBy known v treatment tasks k heap places operands ms → TreatsBy known v treatment tasks k (on_object (treated change part) heap v) places operands ms
  treats_changed known ms heap v treatment tasks places operands k r =
      changed_or_same (λ objects. TreatsBy known v treatment tasks k objects places operands ms) heap v r
      (λ o x is found. treats_set known ms heap o x found v treatment tasks places operands k is r)

-- The object that a value names is there.
record IsFound (heap : List Object) (v : Value) (cell : Cell Value) : Type 0 where
  o : Id
  x : Object
  names : v ≡ Names o
  found : object_at heap o ≡ Some x
  live : StaysLive x.stage
  cell_so : x.cell ≡ cell

object_found : (heap : List Object) (v : Value) (cell : Cell Value) → look heap v ≡ finds cell → IsFound heap v cell
object_found heap Null cell is = absurd (cc is)
object_found heap (Scalar n) cell is = absurd (cc is)
object_found heap (Part o place) cell is = absurd (cc is)
object_found heap (Names o) cell is = go (object_at heap o) refl is
  where
    staged : (x : Object) (stage : Stage) → existing x stage ≡ finds cell → StaysLive stage
    staged x Building e = tt
    staged x Existing e = tt
    staged x Gone e = absurd (cc e)

    held : (x : Object) (stage : Stage) → existing x stage ≡ finds cell → x.cell ≡ cell
    held x Building e = cc e
    held x Existing e = cc e
    held x Gone e = absurd (cc e)

    go : (t : Option Object) → object_at heap o ≡ t → seen t ≡ finds cell → IsFound heap (Names o) cell
    go None at e = absurd (cc e)
    go (Some x) at e = record { o = o; x = x; names = refl; found = at; live = staged x x.stage e; cell_so = held x x.stage e }

changed_at : (change : Object → Object) (heap : List Object) (o : Id) (x : Object) → object_at heap o ≡ Some x → object_at (on_object change heap (Names o)) o ≡ Some (change x)
changed_at change heap o x found = rw found (set_here heap o.0 x (change x) found)

-- An event that tells of no storage.
abbrev pub TellsNothing : Event → Type 0
TellsNothing (Born v part turn type number by) = Unit {0}
TellsNothing (Finalized v part turn type number cause) = Unit {0}
TellsNothing (Back v access number pool subpool cause) = ⊥
TellsNothing (Followed v) = ⊥
TellsNothing (Left master) = Unit {0}
TellsNothing (Line line) = Unit {0}
TellsNothing Quiet = Unit {0}

-- What speaks of a record that is assigned to does so still.
pub inside_left : (types : List TypeForm) (treatment : Treatment) (tasks left : List Task) (k : Control) → IsOfAssigned types treatment tasks k
    → ((t : ℕ) → TasksInside types t tasks → TasksInside types t left) → IsOfAssigned types treatment left k
inside_left types (begins by done) tasks left k inside goes = tt
inside_left types (ends (Leaving m item)) tasks left k inside goes = tt
inside_left types (ends (Freeing number)) tasks left k inside goes = tt
inside_left types (ends (Assigning number)) tasks left [] inside goes = tt
inside_left types (ends (Assigning number)) tasks left (Copies first t ∷ k) inside goes = goes t inside
inside_left types (ends (Assigning number)) tasks left (f ∷ k) inside goes = tt
inside_left types (ends (Undoing number)) tasks left k inside goes = tt

none_inside : (types : List TypeForm) (treatment : Treatment) (k : Control) → IsOfAssigned types treatment [] k
none_inside types (begins by done) k = tt
none_inside types (ends (Leaving m item)) k = tt
none_inside types (ends (Freeing number)) k = tt
none_inside types (ends (Assigning number)) [] = tt
none_inside types (ends (Assigning number)) (Copies first t ∷ k) = tt
none_inside types (ends (Assigning number)) (f ∷ k) = tt
none_inside types (ends (Undoing number)) k = tt

-- What begins a part of an object is called where that part is, and what is left of the treatment waits for it (7.6).
pub record BeginsPart (o : Id) (x : Object) (place : Place) (by : Birth) (done : List parts.Part) (of : ℕ) (tasks : List Task) (k behind : Control) : Type 0 where
  pub part : ℕ
  pub p : PartState
  pub state : slice_get x.cell.parts part ≡ Some p
  pub at : place ≡ record { component = p.first; part = part }
  pub awaits : behind ≡ frame.Awaits (Names o) by done of part tasks ∷ k

-- Of a record that was copied into the object of a value a part is adjusted, in front of what is left of that.
abbrev pub AdjustsPart : Known → Value → (of : ℕ) → List Task → Control → List Object → (places : List Value) → List Master → Type 0
AdjustsPart known v of tasks k heap places masters = (part : ℕ) × AdjustsTo known v (performs of part ∷ tasks) k heap places masters

-- The body begins of a procedure that overrides an operation, of a controlled type of which the next task is known to speak: for a part of an object that is
-- there, and that is ready for what waits behind it (7.6, 7.6.1). Where it is an Adjust, the part declares no component of an access type.
pub record Begins (known : Known) (a : Activation Value) (rest : List (Activation Value)) (s : State) (types : List TypeDefinition) (bodies : List BodyForm) (k : Control) (IsOperated : Treatment → Id → ℕ → Type 0) (e : Event) (after : State) : Type 0 where
  pub of : ℕ
  pub number : ℕ
  pub b : BodyForm
  pub there : slice_get bodies number ≡ Some b
  pub heap : List Object
  pub o : Id
  pub x : Object
  pub found : object_at heap o ≡ Some x
  pub live : StaysLive x.stage
  pub place : Place
  pub treatment : Treatment
  pub operated : IsOperated treatment o of
  pub called : IsCalled (operations_of types of) treatment number
  pub behind : Control
  pub tasks : List Task
  pub waits : WaitsFor known.program.types o of treatment tasks k behind
  pub treats : TreatsBy known (Names o) treatment tasks k heap a.places a.operands s.masters
  pub alters : Alters s.heap e heap
  pub still : (q : Id) (y : Object) → HasDeparted heap q y → (z : Object) × HasDeparted s.heap q z
  pub tells : TellsNothing e
  pub begun : (by : Birth) (done : List parts.Part) → treatment ≡ begins by done → (heap ≡ s.heap) × (e ≡ Quiet)
  pub standing : (by : Birth) (done : List parts.Part) → treatment ≡ begins by done → BeginsPart o x place by done of tasks k behind
  pub plain : (by : Birth) (done : List parts.Part) → treatment ≡ begins by done → BeginsCopy by → owners_numbered known.program.types of ≡ []
  pub adjusts : (by : Birth) (done : List parts.Part) → treatment ≡ begins by done → BeginsCopy by → AdjustsPart known (Names o) of tasks k heap a.places s.masters
  pub is : after ≡ operating named number b (Part o place) behind (record (running k a rest s) { heap = heap })

-- The body of an Adjust begins, after a copy, that sees to the components of access types of a controlled part of an object. These count as null until it has
-- ended, and so do those of the parts that are left to be adjusted. The part begins with the component `p.first`.
pub record BeginsAdjust (known : Known) (a : Activation Value) (rest : List (Activation Value)) (s : State) (types : List TypeDefinition) (bodies : List BodyForm) (v : Value) (k : Control) (IsOperated : Treatment → Id → ℕ → Type 0) (e : Event) (after : State) : Type 0 where
  pub number : ℕ
  pub b : BodyForm
  pub there : slice_get bodies number ≡ Some b
  pub by : Birth
  pub done : List parts.Part
  pub copies : BeginsCopy by
  pub of : ℕ
  pub part : ℕ
  pub tasks : List Task
  pub to : AdjustsTo known v (performs of part ∷ tasks) k s.heap a.places s.masters
  pub owns : owners_numbered known.program.types of ≢ []
  pub p : PartState
  pub state : slice_get to.x.cell.parts part ≡ Some p
  pub operated : IsOperated (begins by done) to.o of
  pub called : IsCalled (operations_of types of) (begins by done) number
  pub quiet : e ≡ Quiet
  pub is : after ≡ operating named number b (Part to.o (record { component = p.first; part = part })) (frame.Awaits (Names to.o) by done of part tasks ∷ k) (running k a rest s)

-- An object that is there is found.
looks_there : (heap : List Object) (o : Id) (x : Object) → object_at heap o ≡ Some x → is_there x.stage ≡ true → look heap (Names o) ≡ finds x.cell
looks_there heap o x found there = rw found (by x.stage there)
  where
    by : (stage : Stage) → is_there stage ≡ true → existing x stage ≡ finds x.cell
    by Building there' = refl
    by Existing there' = refl
    by Gone there' = absurd (cc there')

-- What is left, by what comes next.
done_is : (tasks : List Task) → task_next tasks ≡ Done → tasks ≡ []
done_is [] e = refl
done_is (performs of part ∷ tasks) e = absurd (cc e)
done_is (treats components ∷ tasks) e = absurd (cc e)

open_is : (tasks : List Task) (count i : ℕ) → task_next tasks ≡ Pick count → suc i ≤ count → IsOpen tasks i
open_is [] count i e lt = absurd (cc e)
open_is (performs of part ∷ tasks) count i e lt = absurd (cc e)
open_is (treats components ∷ tasks) count i e lt = let so : length components ≡ count = cc e in rw so lt

-- The next step of a treatment: one of some components is picked, or a part comes to have a value, or its value is finalized; or nothing is left; or the body
-- of an operation begins.
module _ (known : Known) (a : Activation Value) (rest : List (Activation Value)) (s : State) (types : List TypeDefinition) (bodies : List BodyForm) (k : Control) (IsOperated : Treatment → Id → ℕ → Type 0) where
  -- It goes on in the body that runs.
  abbrev pub StaysHere : State → Type 0
  StaysHere after = (after.activations ≡ a ∷ rest) × (behind_call after.control ≡ behind_call k)

  abbrev pub Goes : Value → Event → State → Type 0
  Goes v e after =
      (Stepped known s.heap e after × StaysHere after)
      ⊎ (Begins known a rest s types bodies k IsOperated e after ⊎ BeginsAdjust known a rest s types bodies v k IsOperated e after)

  -- What comes next is known, where the object of this value is treated.
  abbrev pub TreatedIn : Value → Next → Type 0
  TreatedIn v (halts halt) = EndsWell halt s.heap s.masters
  TreatedIn v (moves e after) = Goes v e after
  TreatedIn v (tells request e after) = ⊥
  TreatedIn v (asks request answered) = ⊥
  TreatedIn v (picks n taken) = (i : ℕ) → suc i ≤ n → Stepped known s.heap Quiet (taken i) × StaysHere (taken i)

  module _ (v : Value) where
    abbrev pub Treated : Next → Type 0
    Treated n = TreatedIn v n

    -- The part of a copy that is adjusted declares no component of an access type, and what was left is known.
    abbrev AdjustsPlainly : (of : ℕ) → List Task → Type 0
    AdjustsPlainly of tasks = (owners_numbered known.program.types of ≡ []) × AdjustsPart known v of tasks k s.heap a.places s.masters

    -- What is left goes on.
    goes_on : (treatment : Treatment) (tasks : List Task) → TreatsBy known v treatment tasks k s.heap a.places a.operands s.masters → IsOfAssigned known.program.types treatment tasks k → Stepped known s.heap Quiet (treated_on named v treatment tasks (running k a rest s))
    goes_on treatment tasks r of =
        stays known Quiet (treated_on named v treatment tasks (running k a rest s))
        (tt, treats_ready known v treatment tasks k s.heap a.places a.operands s.masters r of) tt

    -- Whatever has begun.
    done_on : (by : Birth) (done more : List parts.Part) (tasks : List Task) (heap : List Object) → TreatsBy known v (begins by done) tasks k heap a.places a.operands s.masters → TreatsBy known v (begins by more) tasks k heap a.places a.operands s.masters
    done_on Creation done more tasks heap r = r
    done_on Copy done more tasks heap r = r
    done_on (Adjustment number) done more tasks heap r = r

    -- A part comes to have a value.
    born_fine : (by : Birth) (done : List parts.Part) (of part : ℕ) (tasks : List Task) (p : PartState) → TreatsBy known v (begins by done) tasks k s.heap a.places a.operands s.masters
        → Fine known s.heap s.masters (born_next named v by done of part tasks (Some p) (running k a rest s))
    born_fine by done of part tasks p r =
        let change = born_part (counted s.born) in
        let more = record { of = of; number = part } ∷ done in
        record {
          ready = (
            tt,
            treats_ready known v (begins by more) tasks k (on_object (treated change part) s.heap v) a.places a.operands s.masters
                (treats_changed change part known s.masters s.heap v (begins by more) tasks a.places a.operands k (done_on by done more tasks s.heap r)) tt,
          );
          alters = alters_treated change part s.heap _ v;
          says = tt;
        }

    -- Behind the body of the operation that begins it.
    pub awaits_fine : (by : Birth) (done : List parts.Part) (of part : ℕ) (tasks : List Task) → IsLive s.heap v → TreatsBy known v (begins by done) tasks k s.heap a.places a.operands s.masters → Fine known s.heap s.masters (awaited_next named v by done of part tasks (look s.heap v) (running k a rest s))
    awaits_fine by done of part tasks (cell, live) r = rw live (begins_part (slice_get cell.parts part))
      where
        begins_part : (state : Option PartState) → Fine known s.heap s.masters (born_next named v by done of part tasks state (running k a rest s))
        begins_part None = tt
        begins_part (Some p) = born_fine by done of part tasks p r

    -- The operation that begins it is called.
    module _ (cell : Cell Value) (is : look s.heap v ≡ finds cell) where
      there : IsFound s.heap v cell
      there = object_found s.heap v cell is

      -- What is left of the treatment waits for it.
      awaits_it : (by : Birth) (done : List parts.Part) (of part : ℕ) (tasks : List Task) (birth : Birth) (before : List parts.Part) → begins by done ≡ begins birth before → frame.Awaits v by done of part tasks ∷ k ≡ frame.Awaits (Names there.o) birth before of part tasks ∷ k
      awaits_it by done of part tasks birth before is =
          let birth_is : by ≡ birth = cc is in
          let before_is : done ≡ before = cc is in
          ap (λ (u : Value). frame.Awaits u by done of part tasks ∷ k) (there.names)
          ∙ (ap (λ (b : Birth). frame.Awaits (Names there.o) b done of part tasks ∷ k) birth_is ∙ ap (λ (d : List parts.Part). frame.Awaits (Names there.o) birth d of part tasks ∷ k) before_is)

      -- The part that begins is one of the object.
      part_stands : (by : Birth) (done : List parts.Part) (of part : ℕ) (tasks : List Task) (p : PartState) → slice_get cell.parts part ≡ Some p → (birth : Birth) (before : List parts.Part) → begins by done ≡ begins birth before
          → BeginsPart there.o there.x (record { component = p.first; part = part }) birth before of tasks k (frame.Awaits v by done of part tasks ∷ k)
      part_stands by done of part tasks p state birth before is = record {
        part = part;
        p = p;
        state = subst (λ (held : Cell Value). slice_get held.parts part ≡ Some p) (sym (there.cell_so)) state;
        at = refl;
        awaits = awaits_it by done of part tasks birth before is;
      }

      calls_first : (by : Birth) (done : List parts.Part) (of part : ℕ) (tasks : List Task) (p : PartState) (number : ℕ) → (BeginsCopy by → AdjustsPlainly of tasks) → ((o : Id) → v ≡ Names o → IsOperated (begins by done) o of) × (beginning by (operations_of types of) ≡ Some number) → slice_get cell.parts part ≡ Some p → TreatsBy known v (begins by done) tasks k s.heap a.places a.operands s.masters
          → (found : Option BodyForm) → slice_get bodies number ≡ found → Treated (operation_next named number found (part_reference named v part p) (frame.Awaits v by done of part tasks ∷ k) Quiet (running k a rest s))
      calls_first by done of part tasks p number plain called state r None at = tt
      calls_first by done of part tasks p number plain called state r (Some b) at = inr (inl (record {
        of = of;
        number = number;
        b = b;
        there = at;
        heap = s.heap;
        o = there.o;
        x = there.x;
        found = there.found;
        live = there.live;
        place = record { component = p.first; part = part };
        treatment = begins by done;
        operated = called.0 there.o there.names;
        called = called.1;
        behind = frame.Awaits v by done of part tasks ∷ k;
        tasks = tasks;
        waits = (part, ap (λ (u : Value). frame.Awaits u by done of part tasks ∷ k) (there.names));
        treats = subst (λ (u : Value). TreatsBy known u (begins by done) tasks k s.heap a.places a.operands s.masters) (there.names) r;
        alters = alters_same s.heap Quiet;
        still = λ q y gone. (y, gone);
        tells = tt;
        begun = λ birth before is. (refl, refl);
        standing = λ birth before is. part_stands by done of part tasks p state birth before is;
        plain = λ birth before is copies. (let same : by ≡ birth = cc is in (plain (subst (λ (one : Birth). BeginsCopy one) (sym same) copies)).0);
        adjusts = λ birth before is copies.
            (let same : by ≡ birth = cc is in
            subst (λ (u : Value). AdjustsPart known u of tasks k s.heap a.places s.masters) (there.names)
            (plain (subst (λ (one : Birth). BeginsCopy one) (sym same) copies)).1);
        is = ap (λ (u : Value). operating named number b (part_reference named u part p) (frame.Awaits v by done of part tasks ∷ k) (running k a rest s)) (there.names);
      }))

      begun_fine : (by : Birth) (done : List parts.Part) (of part : ℕ) (tasks : List Task) (operation : Option ℕ) → (BeginsCopy by → AdjustsPlainly of tasks) → ((number : ℕ) → operation ≡ Some number → ((o : Id) → v ≡ Names o → IsOperated (begins by done) o of) × (beginning by (operations_of types of) ≡ Some number)) → (state : Option PartState) → slice_get cell.parts part ≡ state → TreatsBy known v (begins by done) tasks k s.heap a.places a.operands s.masters
          → Treated (begun_next named bodies v by done of part tasks operation state (running k a rest s))
      begun_fine by done of part tasks operation plain called None at r = tt
      begun_fine by done of part tasks None plain called (Some p) at r =
          inl (born_fine by done of part tasks p r, (refl, behind_treating v (begins by (record { of = of; number = part } ∷ done)) tasks k))
      begun_fine by done of part tasks (Some number) plain called (Some p) at r =
          calls_first by done of part tasks p number plain (called number refl) at r (slice_get bodies number) refl

      -- A value that is finalized exists; Finalize is called for it.
      treats_after : (cause : Cause) (part : ℕ) (tasks : List Task) → TreatsBy known v (ends cause) tasks k s.heap a.places a.operands s.masters → TreatsBy known v (ends cause) tasks k (on_object (treated finalized_part part) s.heap v) a.places a.operands s.masters
      treats_after cause part tasks r = treats_changed finalized_part part known s.masters s.heap v (ends cause) tasks a.places a.operands k r

      changed_there : (part : ℕ) → object_at (on_object (treated finalized_part part) s.heap v) there.o ≡ Some (treated finalized_part part there.x)
      changed_there part =
          subst (λ (u : Value). object_at (on_object (treated finalized_part part) s.heap u) there.o ≡ Some (treated finalized_part part there.x)) (sym (there.names))
          (changed_at (treated finalized_part part) s.heap there.o there.x there.found)

      calls_last : (cause : Cause) (of part : ℕ) (tasks : List Task) (p : PartState) (number : ℕ) → ((o : Id) → v ≡ Names o → IsOperated (ends cause) o of) × (procedure_number (operations_of types of).finalize ≡ Some number) → TreatsBy known v (ends cause) tasks k s.heap a.places a.operands s.masters → IsOfCopied known.program.types cause tasks k
          → (found : Option BodyForm) → slice_get bodies number ≡ found
          → Treated (operation_next named number found (part_reference named v part p) (frame.Confines ∷ treating v (ends cause) tasks k) (Finalized v part p.turn of p.number cause) (record (running k a rest s) { heap = on_object (treated finalized_part part) s.heap v }))
      calls_last cause of part tasks p number called r inside None at = tt
      calls_last cause of part tasks p number called r inside (Some b) at = inr (inl (record {
        of = of;
        number = number;
        b = b;
        there = at;
        heap = on_object (treated finalized_part part) s.heap v;
        o = there.o;
        x = treated finalized_part part there.x;
        found = changed_there part;
        live = there.live;
        place = record { component = p.first; part = part };
        treatment = ends cause;
        operated = called.0 there.o there.names;
        called = called.1;
        behind = frame.Confines ∷ treating v (ends cause) tasks k;
        tasks = tasks;
        waits = (ap (λ (u : Value). frame.Confines ∷ treating u (ends cause) tasks k) (there.names), inside);
        treats = subst (λ (u : Value). TreatsBy known u (ends cause) tasks k (on_object (treated finalized_part part) s.heap v) a.places a.operands s.masters) (there.names) (treats_after cause part tasks r);
        alters = alters_treated finalized_part part s.heap _ v;
        still = departed_before finalized_part part s.heap v;
        tells = tt;
        begun = λ birth before is. absurd (cc is);
        standing = λ birth before is. absurd (cc is);
        plain = λ birth before is copies. absurd (cc is);
        adjusts = λ birth before is copies. absurd (cc is);
        is = ap (λ (u : Value). operating named number b (part_reference named u part p) (frame.Confines ∷ treating v (ends cause) tasks k) (record (running k a rest s) { heap = on_object (treated finalized_part part) s.heap v })) (there.names);
      }))

      ended_fine : (cause : Cause) (of part : ℕ) (tasks : List Task) (p : PartState) (operation : Option ℕ) → ((number : ℕ) → operation ≡ Some number → ((o : Id) → v ≡ Names o → IsOperated (ends cause) o of) × (procedure_number (operations_of types of).finalize ≡ Some number)) → TreatsBy known v (ends cause) tasks k s.heap a.places a.operands s.masters → IsOfCopied known.program.types cause tasks k
          → Treated (ended_next named bodies v part p (treating v (ends cause) tasks k) operation (Finalized v part p.turn of p.number cause) (record (running k a rest s) { heap = on_object (treated finalized_part part) s.heap v }))
      ended_fine cause of part tasks p None called r inside = inl (
        record {
          ready = (tt, treats_ready known v (ends cause) tasks k (on_object (treated finalized_part part) s.heap v) a.places a.operands s.masters (treats_after cause part tasks r) inside);
          alters = alters_treated finalized_part part s.heap _ v;
          says = tt;
        },
        (refl, behind_treating v (ends cause) tasks k),
      )
      ended_fine cause of part tasks p (Some number) called r inside = calls_last cause of part tasks p number (called number refl) r inside (slice_get bodies number) refl

      finalized_fine : (cause : Cause) (of part : ℕ) (tasks : List Task) (operation : Option ℕ) → ((number : ℕ) → operation ≡ Some number → ((o : Id) → v ≡ Names o → IsOperated (ends cause) o of) × (procedure_number (operations_of types of).finalize ≡ Some number)) → (state : Option PartState)
          → (finalized_next named bodies v cause of part tasks operation state (running k a rest s) ≡ halts (Erroneous FinalizesTwice) → ⊥) → TreatsBy known v (ends cause) tasks k s.heap a.places a.operands s.masters → IsOfCopied known.program.types cause tasks k
          → Treated (finalized_next named bodies v cause of part tasks operation state (running k a rest s))
      finalized_fine cause of part tasks operation called None once r inside = tt
      finalized_fine cause of part tasks operation called (Some p) once r inside =
          by p.alive (ended_next named bodies v part p (treating v (ends cause) tasks k) operation (Finalized v part p.turn of p.number cause) (record (running k a rest s) { heap = on_object (treated finalized_part part) s.heap v })) once
          (ended_fine cause of part tasks p operation called r inside)
        where
          by : (alive : Bool) (n : Next) → ((if alive then n else halts (Erroneous FinalizesTwice)) ≡ halts (Erroneous FinalizesTwice) → ⊥) → Treated n → Treated (if alive then n else halts (Erroneous FinalizesTwice))
          by true n once' fine = fine
          by false n once' fine = absurd (once' refl)

    performed_by : (treatment : Treatment) (of part : ℕ) (tasks : List Task) (found : Found (Cell Value)) → ((by : Birth) (done : List parts.Part) → treatment ≡ begins by done → BeginsCopy by → AdjustsPlainly of tasks) → look s.heap v ≡ found → (performed_next named types bodies v treatment of part tasks found (running k a rest s) ≡ halts (Erroneous FinalizesTwice) → ⊥) → ((o : Id) → v ≡ Names o → IsOperated treatment o of) → TreatsBy known v treatment tasks k s.heap a.places a.operands s.masters → IsOfAssigned known.program.types treatment tasks k → Treated (performed_next named types bodies v treatment of part tasks found (running k a rest s))
    performed_by treatment of part tasks on_null plain at once operated r inside = tt
    performed_by treatment of part tasks on_gone plain at once operated r inside = absurd (once refl)
    performed_by treatment of part tasks on_other plain at once operated r inside = tt
    performed_by (begins by done) of part tasks (finds cell) plain at once operated r inside =
        begun_fine cell at by done of part tasks (beginning by (operations_of types of)) (λ copies. plain by done refl copies) (λ number is. (operated, is)) (slice_get cell.parts part) refl r
    performed_by (ends cause) of part tasks (finds cell) plain at once operated r inside =
        finalized_fine cell at cause of part tasks (procedure_number (operations_of types of).finalize) (λ number is. (operated, is)) (slice_get cell.parts part) once r inside

    -- What is left of an adjustment is known as what is behind it is.
    copy_treats : (by : Birth) → BeginsCopy by → (done : List parts.Part) (tasks : List Task) → AdjustsTo known v tasks k s.heap a.places s.masters → TreatsBy known v (begins by done) tasks k s.heap a.places a.operands s.masters
    copy_treats Creation copies done tasks to = absurd copies
    copy_treats Copy copies done tasks to = to
    copy_treats (Adjustment number) copies done tasks to = to

    -- What is left of an adjustment is known still once a component is picked, and an operation is overridden that sees to components of access types.
    module _ (shapes : shown_shapes known.program.types ≡ shapes_of types)
        (picked : (tasks : List Task) (i : ℕ) → IsOpen tasks i → AdjustsTo known v tasks k s.heap a.places s.masters → AdjustsTo known v (taken (shown_shapes known.program.types) PartsFirst tasks i) k s.heap a.places s.masters)
        (overrides : (of part : ℕ) (tasks : List Task) → AdjustsTo known v (performs of part ∷ tasks) k s.heap a.places s.masters → owners_numbered known.program.types of ≢ [] → (number : ℕ) × (procedure_number (operations_of types of).adjust ≡ Some number)) where
      -- An Adjust is called that sees to components of access types.
      module _ (by : Birth) (copies : BeginsCopy by) (done : List parts.Part) (of part : ℕ) (tasks : List Task) (to : AdjustsTo known v (performs of part ∷ tasks) k s.heap a.places s.masters) (owns : owners_numbered known.program.types of ≢ []) (operated : IsOperated (begins by done) to.o of) where
        adjust_begins : (birth : Birth) → BeginsCopy birth → beginning birth (operations_of types of) ≡ None → ⊥
        adjust_begins Creation copying none = copying
        adjust_begins Copy copying none = let o = overrides of part tasks to owns in cc (o.1, none)
        adjust_begins (Adjustment number) copying none = let o = overrides of part tasks to owns in cc (o.1, none)

        adjust_called : (p : PartState) → slice_get to.x.cell.parts part ≡ Some p → (number : ℕ) → beginning by (operations_of types of) ≡ Some number → (found : Option BodyForm) → slice_get bodies number ≡ found
            → Treated (operation_next named number found (part_reference named (Names to.o) part p) (frame.Awaits (Names to.o) by done of part tasks ∷ k) Quiet (running k a rest s))
        adjust_called p state number called None at = tt
        adjust_called p state number called (Some b) at = inr (inr (record {
          number = number;
          b = b;
          there = at;
          by = by;
          done = done;
          copies = copies;
          of = of;
          part = part;
          tasks = tasks;
          to = to;
          owns = owns;
          p = p;
          state = state;
          operated = operated;
          called = called;
          quiet = refl;
          is = refl;
        }))

        adjust_by : (operation : Option ℕ) → beginning by (operations_of types of) ≡ operation → (state : Option PartState) → slice_get to.x.cell.parts part ≡ state
            → Treated (begun_next named bodies (Names to.o) by done of part tasks operation state (running k a rest s))
        adjust_by operation called None at = tt
        adjust_by None called (Some p) at = absurd (adjust_begins by copies called)
        adjust_by (Some number) called (Some p) at = adjust_called p at number called (slice_get bodies number) refl

        adjust_performed : Treated (performed_next named types bodies v (begins by done) of part tasks (look s.heap v) (running k a rest s))
        adjust_performed =
            let here : TreatedIn v (performed_next named types bodies (Names to.o) (begins by done) of part tasks (look s.heap (Names to.o)) (running k a rest s)) =
            rw (looks_there s.heap to.o to.x to.found to.there)
            (adjust_by (beginning by (operations_of types of)) refl (slice_get to.x.cell.parts part) refl) in
            subst (λ (u : Value). TreatedIn v (performed_next named types bodies u (begins by done) of part tasks (look s.heap u) (running k a rest s))) (sym to.is) here

      -- A part is adjusted: it declares no component of an access type, or its Adjust sees to these.
      copied_fine : (by : Birth) → BeginsCopy by → (done : List parts.Part) (of part : ℕ) (tasks : List Task) → (performed_next named types bodies v (begins by done) of part tasks (look s.heap v) (running k a rest s) ≡ halts (Erroneous FinalizesTwice) → ⊥) → ((o : Id) → v ≡ Names o → IsOperated (begins by done) o of)
          → AdjustsTo known v (performs of part ∷ tasks) k s.heap a.places s.masters → Treated (performed_next named types bodies v (begins by done) of part tasks (look s.heap v) (running k a rest s))
      copied_fine by copies done of part tasks once operated to = go (owners_numbered known.program.types of) refl
        where
          go : (owners : List ℕ) → owners_numbered known.program.types of ≡ owners → Treated (performed_next named types bodies v (begins by done) of part tasks (look s.heap v) (running k a rest s))
          go [] none =
              performed_by (begins by done) of part tasks (look s.heap v) (λ birth before is copying. (none, (part, to))) refl once operated
              (copy_treats by copies done tasks (adjusts_skipped known v of part tasks k s.heap a.places s.masters none to)) tt
          go (c ∷ cs) some = adjust_performed by copies done of part tasks to (λ none. cc (none, some)) (operated to.o to.is)

      performed_fine : (treatment : Treatment) (of part : ℕ) (tasks : List Task) → (performed_next named types bodies v treatment of part tasks (look s.heap v) (running k a rest s) ≡ halts (Erroneous FinalizesTwice) → ⊥) → ((o : Id) → v ≡ Names o → IsOperated treatment o of)
          → TreatsBy known v treatment (performs of part ∷ tasks) k s.heap a.places a.operands s.masters → IsOfAssigned known.program.types treatment tasks k → Treated (performed_next named types bodies v treatment of part tasks (look s.heap v) (running k a rest s))
      performed_fine (begins Creation done) of part tasks once operated r inside =
          performed_by (begins Creation done) of part tasks (look s.heap v)
          (λ birth before is copies. (let same : Creation ≡ birth = cc is in absurd (subst (λ (one : Birth). BeginsCopy one) (sym same) copies))) refl once operated r inside
      performed_fine (begins Copy done) of part tasks once operated r inside = copied_fine Copy tt done of part tasks once operated r
      performed_fine (begins (Adjustment number) done) of part tasks once operated r inside = copied_fine (Adjustment number) tt done of part tasks once operated r
      performed_fine (ends cause) of part tasks once operated r inside = performed_by (ends cause) of part tasks (look s.heap v) (λ birth before is copies. absurd (cc is)) refl once operated r inside

      -- What is left once one of the components that are open is picked.
      treats_picked : (treatment : Treatment) (tasks : List Task) (i : ℕ) → IsOpen tasks i → TreatsBy known v treatment tasks k s.heap a.places a.operands s.masters → TreatsBy known v treatment (picked_task (shapes_of types) (direction_of treatment) tasks i) k s.heap a.places a.operands s.masters
      treats_picked (begins Creation done) tasks i ready r = r
      treats_picked (begins Copy done) tasks i ready r =
          subst (λ (table : List Shape). AdjustsTo known v (taken table PartsFirst tasks i) k s.heap a.places s.masters) shapes (picked tasks i ready r)
      treats_picked (begins (Adjustment number) done) tasks i ready r =
          subst (λ (table : List Shape). AdjustsTo known v (taken table PartsFirst tasks i) k s.heap a.places s.masters) shapes (picked tasks i ready r)
      treats_picked (ends cause) tasks i ready r = r

      pub treats_fine : ((t : ℕ) (direction : Direction) (tasks : List Task) (i : ℕ) → TasksInside known.program.types t tasks → TasksInside known.program.types t (picked_task (shapes_of types) direction tasks i)) → (n : Follows) (treatment : Treatment) (tasks : List Task) → task_next tasks ≡ n → ((of part : ℕ) → n ≡ Perform of part → (o : Id) → v ≡ Names o → IsOperated treatment o of) → (treats_next named types bodies v treatment tasks n (running k a rest s) ≡ halts (Erroneous FinalizesTwice) → ⊥) → TreatsBy known v treatment tasks k s.heap a.places a.operands s.masters → IsOfAssigned known.program.types treatment tasks k → Treated (treats_next named types bodies v treatment tasks n (running k a rest s))
      treats_fine chosen Done treatment tasks next operated once r inside =
          let none : TreatsBy known v treatment [] k s.heap a.places a.operands s.masters =
          subst (λ (left : List Task). TreatsBy known v treatment left k s.heap a.places a.operands s.masters) (done_is tasks next) r in
          inl (goes_on treatment [] none (none_inside known.program.types treatment k), (refl, refl))
      treats_fine chosen (Perform of part) treatment tasks next operated once r inside =
          performed_fine treatment of part (performed tasks) once (operated of part refl)
          (subst (λ (left : List Task). TreatsBy known v treatment left k s.heap a.places a.operands s.masters) (call_is tasks of part next) r)
          (inside_left known.program.types treatment tasks (performed tasks) k inside (λ t. performed_inside known.program.types t tasks))
      treats_fine chosen (Pick count) treatment tasks next operated once r inside = by (count == 0)
        where
          by : (b : Bool) → Treated (if b then halts Stuck else picks count (λ i. treated_on named v treatment (picked_task (shapes_of types) (direction_of treatment) tasks i) (running k a rest s)))
          by true = tt
          by false = λ i lt.
              (goes_on treatment (picked_task (shapes_of types) (direction_of treatment) tasks i) (treats_picked treatment tasks i (open_is tasks count i next lt) r) (inside_left known.program.types treatment tasks (picked_task (shapes_of types) (direction_of treatment) tasks i) k inside (λ t. chosen t (direction_of treatment) tasks i)), (refl, behind_treating v treatment (picked_task (shapes_of types) (direction_of treatment) tasks i) k))

-- Behind the body of a Finalize.
pub confines_fine : (known : Known) (a : Activation Value) (rest : List (Activation Value)) (s : State) (k : Control) → ConfinesBy known k s.heap a.places a.operands s.masters → Stepped known s.heap Quiet (running k a rest s)
confines_fine known a rest s k (v, cause, tasks, behind, is, r, inside) =
    stays known Quiet (running k a rest s) (tt, rw is (treats_ready known v (ends cause) tasks behind s.heap a.places a.operands s.masters r inside)) tt
