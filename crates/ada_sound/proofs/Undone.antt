-- A new object may be undone (7.6, 7.6.1): where an exception comes out of its initialization, what has begun is finalized, the object ceases to exist, its
-- words go back, and the exception goes on.

use Rattle.std.proofs.Common.{◌≡◌, ℕ, Bool, true, false, List, [], ◌∷◌, ◌++◌, length, map, refl, sym, ap, ◌∙◌, subst, inl, ◌≢◌, ◌⊎◌, inr}
use Rattle.std.specs.Prelude.{Option, Some, None}
use Rattle.std.specs.List.{list_any, slice_set}
use Rattle.ada_parts.specs.Part as parts
use Rattle.ada_parts.specs.Task.{performs}
use Rattle.ada_program.specs.declared.program.Exception.{Exception}
use Rattle.ada_program.specs.Handling.{is_same}
use Rattle.ada_program.specs.ProgramForm.{VariableForm}
use Rattle.ada_flow.specs.declared.rule.Hold.TheVariants as hold
use Rattle.ada_flow.specs.Flow.{Holds}
use Rattle.ada_meaning.specs.declared.state.Id.{Id}
use Rattle.ada_meaning.specs.declared.state.Value.{Value}
use Rattle.ada_meaning.specs.declared.state.Value.TheVariants.{Null, Names, Scalar, Part}
use Rattle.ada_meaning.specs.declared.state.Stage.{Stage}
use Rattle.ada_meaning.specs.declared.state.Stage.TheVariants.{Building, Existing, Gone}
use Rattle.ada_meaning.specs.declared.state.Mode.TheVariants.{Raising}
use Rattle.ada_meaning.specs.declared.event.Cause.TheVariants.{Undoing}
use Rattle.ada_meaning.specs.Event.{Quiet}
use Rattle.ada_meaning.specs.Frame.{Ends, GivesBack, Resumes, ends}
use Rattle.ada_meaning.specs.Heap.{Cell}
use Rattle.ada_meaning.specs.State.{Activation, Master}
use Rattle.ada_meaning.specs.Step.{undone, undo_next}
use Rattle.ada_meaning.specs.Named.{Object, State, object_at, look, named, on_object, new_object, create, created, parted, finished}
use Rattle.ada_owners.specs.Reliance.{Borrows}
use Rattle.ada_sound.proofs.Objects.{get_new, set_here, set_new}
use Rattle.ada_sound.proofs.Stored.{Stored, stored_part}
use Rattle.ada_owners.specs.Places.{access_in}
use Rattle.ada_sound.proofs.Awaiting.{awaits_along, goes_along}
use Rattle.ada_sound.proofs.Fits.{Fit, none_spared, weaker_fit, part_fit, beside_fit, gone_fit, same_access, same_unnamed}
use Rattle.ada_sound.proofs.Alters.{alters_set}
use Rattle.ada_sound.proofs.Invariant.{AwaitsIn, outers, below, Known, Control, Rooms, Roomed, To, By, Unaliased, IsAside, Freed, gone_in, Beginning, BeginsWell, IsMade, Making, UnderIs, ResumesTo, Ending, StartsTo, StartsRaise, UndoneTo, MayUndo, IsLive, IsOut, Stepped, Fine, ways}
use Rattle.ada_sound.proofs.Ready.{in_mode, treats_ready}
use Rattle.ada_sound.proofs.Endings.{gone_still, under_set}
use Rattle.ada_sound.proofs.Orderings.{as_good, good_to_lost}
use Rattle.ada_sound.proofs.Values.{lost_here, read_other, same_or_not}

-- The object itself changes while it is initialized, stays of its type, and its words are out still: it may be undone still.
module _ (known : Known) (heap : List Object) (places : List Value) (ms : List Master) (o : Id) (x y : Object) (found : object_at heap o ≡ Some x) (same : y.cell.access ≡ x.cell.access) (outs : y.out ≡ x.out) (kept : Stored (outers known).under heap ms → Stored (outers known).under (slice_set heap o.0 y) ms) (goes : (holds : Holds) → Fit known.program.types known.program.variables (outers known) none_spared (slice_set heap o.0 (finished x)) places holds → Fit known.program.types known.program.variables (outers known) none_spared (slice_set heap o.0 (finished y)) places holds)
    (keeps : (holds : Holds) → Fit known.program.types known.program.variables (outers known) none_spared heap places holds → Fit known.program.types known.program.variables (outers known) none_spared (slice_set heap o.0 y) places holds)
    (apart : (holds : Holds) → IsAside known none_spared heap places holds (Some o) → IsAside known none_spared (slice_set heap o.0 y) places holds (Some o)) where
  still : object_at (slice_set heap o.0 y) o ≡ Some y
  still = set_here heap o.0 x y found

  raises_before : (e : Exception) → StartsRaise known (slice_set heap o.0 y) (Names o) e → StartsRaise known heap (Names o) e
  raises_before e (p, z, is, there, raises) =
      let one : p ≡ o = cc is in
      let z_is : z ≡ y = let at_p = there in cc (one, at_p, still) in
      (o, x, refl, found, rw (z_is, same) at raises)

  undone_set : (k : Control) (e : Exception) → UndoneTo known (Names o) k heap places ms e → UndoneTo known (Names o) k (slice_set heap o.0 y) places ms e
  undone_set k e (p, access, is, under, inl (collected, u)) =
      let this : p ≡ o = cc is in (
        o,
        access,
        refl,
        under_set heap o x y found same outs access (rw this at under),
        inl (
          collected,
          record {
            rooms = u.rooms;
            holds = u.holds;
            roomed = u.roomed;
            fit = gone_still heap o x y found (λ objects. Fit known.program.types known.program.variables (outers known) none_spared objects places u.holds) (goes u.holds) u.fit;
            aside = tt;
            rest = u.rest;
          },
        ),
      )
  undone_set k e (p, access, is, under, inr u) =
      let this : p ≡ o = cc is in
      let aside : IsAside known none_spared heap places u.holds (Some o) = rw this at u.aside in (
        o,
        access,
        refl,
        under_set heap o x y found same outs access (rw this at under),
        inr (record { rooms = u.rooms; holds = u.holds; roomed = u.roomed; fit = keeps u.holds u.fit; aside = apart u.holds aside; rest = u.rest }),
      )

  pub undo_set : (k : Control) → MayUndo known (Names o) k heap places ms → MayUndo known (Names o) k (slice_set heap o.0 y) places ms
  undo_set k may = (kept may.0, (λ e raises. undone_set k e (may.1 e (raises_before e raises))), out_still)
    where
      out_still : IsOut (slice_set heap o.0 y) (Names o)
      out_still p z is there =
          let one : p ≡ o = cc is in
          let z_is : z ≡ y = let at_p = there in let at_o = still in cc (one, at_p, at_o) in
          rw z_is (outs ∙ may.2 o x refl found)

-- It is initialized still: what is behind goes on.
module _ (known : Known) (heap : List Object) (places : List Value) (ms : List Master) (o : Id) (x y : Object) (found : object_at heap o ≡ Some x) (same : y.cell.access ≡ x.cell.access) (looks : access_in (Some y) ≡ access_in (Some x)) (kept : Stored (outers known).under heap ms → Stored (outers known).under (slice_set heap o.0 y) ms)
    (keeps : (holds : Holds) → Fit known.program.types known.program.variables (outers known) none_spared heap places holds → Fit known.program.types known.program.variables (outers known) none_spared (slice_set heap o.0 y) places holds)
    (apart : (holds : Holds) → IsAside known none_spared heap places holds (Some o) → IsAside known none_spared (slice_set heap o.0 y) places holds (Some o)) where
  pub beginning_set : (v : Value) (k : Control) → v ≡ Names o → Beginning known v k heap places ms → Beginning known v k (slice_set heap o.0 y) places ms
  beginning_set v k is b =
      let names = b.is in
      let this : b.o ≡ o = cc (names, is) in
      let there = b.found in
      let one : b.object ≡ x = cc (rw this at there, found) in
      let aside : IsAside known none_spared heap places (slice_set b.holds b.x hold.Lost) (Some o) = rw this at b.aside in
      record {
        o = o;
        object = y;
        is = is;
        found = set_here heap o.0 x y found;
        x = b.x;
        rooms = b.rooms;
        holds = b.holds;
        stored = kept b.stored;
        roomed = b.roomed;
        fit = keeps b.holds b.fit;
        aside = apart (slice_set b.holds b.x hold.Lost) aside;
        runs = b.runs;
        undone = rw same (rw one at b.undone);
        well = rw same (rw one at b.well);
      }

  -- So is one that an allocator made.
  making_set : (access : ℕ) (k : Control) → Making known o access k heap places ms → Making known o access k (slice_set heap o.0 y) places ms
  making_set access k m = record {
    rooms = m.rooms;
    holds = m.holds;
    stored = kept m.stored;
    roomed = m.roomed;
    fit = keeps m.holds m.fit;
    aside = apart m.holds m.aside;
    room = m.room;
    to = goes_along known (AwaitsIn known heap access) (AwaitsIn known (slice_set heap o.0 y) access)
        (awaits_along known heap (slice_set heap o.0 y) (λ p t there. same_access heap o x y found looks p ∙ there) access) access k m.rooms m.holds m.to;
    undone = m.undone;
    well = m.well;
  }

  pub made_set : (v : Value) (k : Control) → v ≡ Names o → IsMade known v k heap places ms → IsMade known v k (slice_set heap o.0 y) places ms
  made_set v k is made p z names there touches =
      let this : p ≡ o = cc (names, is) in
      let still = set_here heap o.0 x y found in
      let one : z ≡ y = cc (rw this at there, still) in
      let own : known.touches x.cell.access ≡ true = rw (one, same) at touches in
      let access_is : x.cell.access ≡ z.cell.access = sym same ∙ ap (λ (w : Object). w.cell.access) (sym one) in
      let made_so = making_set x.cell.access k (made o x is found own) in
      subst (λ (q : Id). Making known q z.cell.access k (slice_set heap o.0 y) places ms) (sym this)
      (subst (λ (access : ℕ). Making known o access k (slice_set heap o.0 y) places ms) access_is made_so)

-- A variable that is lost has no alias.
lost_unaliased : (variables : List VariableForm) (may : ℕ → Bool) (holds : Holds) (x : ℕ) → Unaliased variables may holds → Unaliased variables may (slice_set holds x hold.Lost)
lost_unaliased variables may holds x none y t of freed b = go (same_or_not y x)
  where
    go : (y ≡ x) ⊎ (y ≢ x) → ⊥
    go (inl e) = let nothing : Borrows hold.Lost = rw (e, lost_here holds x) at b in absurd nothing
    go (inr ne) = none y t of freed (rw (read_other holds x y hold.Lost hold.Lost ne) at b)

-- A record object may be undone while it is initialized: its variable is not relied on then.
pub beginning_undone : (known : Known) (v : Value) (k : Control) (heap : List Object) (places : List Value) (ms : List Master) → Beginning known v k heap places ms → IsOut heap v → (e : Exception) → StartsRaise known heap v e → UndoneTo known v k heap places ms e
beginning_undone known v k heap places ms b out e (p, z, is, there, raises) =
    let lost = slice_set b.holds b.x hold.Lost in
    let names = b.is in
    let found = b.found in
    let this : p ≡ b.o = cc (is, names) in
    let one : z ≡ b.object = cc (rw this at there, found) in (
      b.o,
      b.object.cell.access,
      b.is,
      (b.object, b.found, refl, out b.o b.object b.is b.found),
      inr (record {
        rooms = b.rooms;
        holds = lost;
        roomed = b.roomed;
        fit = weaker_fit lost (good_to_lost b.x b.holds b.holds (as_good b.holds)) b.fit;
        aside = b.aside;
        rest = (b.undone e (rw one at raises), (b.well.0, lost_unaliased known.program.variables (known.implicit.start_frees b.object.cell.access) b.holds b.x b.well.1));
      }),
    )

-- So may one that an allocator made: nothing relies on it.
pub making_undone : (known : Known) (o : Id) (access : ℕ) (k : Control) (heap : List Object) (places : List Value) (ms : List Master) → Making known o access k heap places ms → UnderIs heap (Some o) access → (e : Exception) → StartsRaise known heap (Names o) e → UndoneTo known (Names o) k heap places ms e
making_undone known o access k heap places ms m (y, found, of, out) e (p, z, is, there, raises) =
    let this : p ≡ o = cc is in
    let one : z ≡ y = let at_o = there in cc (rw this at at_o, found) in
    let raised : list_any (is_same e) (known.implicit.start_raises access) ≡ true = rw (one, of) at raises in
    (o, access, refl, (y, found, of, out), inr (record { rooms = m.rooms; holds = m.holds; roomed = m.roomed; fit = m.fit; aside = m.aside; rest = (m.undone e raised, m.well) }))

-- What fits before an object comes to be fits where it is gone again.
module _ (known : Known) (heap : List Object) (words : _) (cell : Cell Value) where
  new_out : heap ++ finished (new_object cell) ∷ [] ≡ on_object finished (create heap words cell) (created heap words)
  new_out = sym (rw (get_new heap (new_object cell)) (set_new heap (new_object cell) (finished (new_object cell))))

  pub new_undone : (k : Control) (places : List Value) (ms : List Master) (rooms : Rooms) (holds : Holds) (e : Exception) → known.touches cell.access ≡ false → Roomed (below known) ms rooms → Fit known.program.types known.program.variables (outers known) none_spared heap places holds → To ((ways known k rooms).raised e) holds → UndoneTo known (created heap words) k (create heap words cell) places ms e
  new_undone k places ms rooms holds e collected roomed fit goes = (
    record { 0 = length heap },
    cell.access,
    refl,
    (new_object cell, get_new heap (new_object cell), refl, refl),
    inl (
      collected,
      record {
        rooms = rooms;
        holds = holds;
        roomed = roomed;
        fit = rw new_out at (beside_fit heap (finished (new_object cell)) refl fit);
        aside = tt;
        rest = goes;
      },
    ),
  )

  -- The words of a new object are out.
  pub new_is_out : IsOut (create heap words cell) (created heap words)
  new_is_out p z is there =
      let one : p ≡ record { 0 = length heap } = cc is in
      let z_is : z ≡ new_object cell = let at_p = there in let at_new = get_new heap (new_object cell) in cc (rw one at at_p, at_new) in
      rw z_is refl

  -- So a new object may be undone that an allocator made: where operations may touch storage that are called for it, nothing relies on it.
  pub new_may_undo : (k : Control) (places : List Value) (ms : List Master) (rooms : Rooms) (holds : Holds) → Stored (outers known).under (create heap words cell) ms → Roomed (below known) ms rooms → Fit known.program.types known.program.variables (outers known) none_spared heap places holds → StartsTo known cell.access k rooms holds
      → (known.touches cell.access ≡ true → Making known (record { 0 = length heap }) cell.access k (create heap words cell) places ms) → MayUndo known (created heap words) k (create heap words cell) places ms
  new_may_undo k places ms rooms holds stored roomed fit starts made = (stored, (λ e raises. undone_by e raises (known.touches cell.access) refl), new_is_out)
    where
      next : Id
      next = record { 0 = length heap }

      raised : (e : Exception) → StartsRaise known (create heap words cell) (created heap words) e → list_any (is_same e) (known.implicit.start_raises cell.access) ≡ true
      raised e (p, z, is, there, raises) =
          let one : p ≡ next = cc is in
          let z_is : z ≡ new_object cell = let at_p = there in let at_new = get_new heap (new_object cell) in cc (rw one at at_p, at_new) in
          rw z_is at raises

      undone_by : (e : Exception) → StartsRaise known (create heap words cell) (created heap words) e → (b : Bool) → known.touches cell.access ≡ b → UndoneTo known (created heap words) k (create heap words cell) places ms e
      undone_by e raises true is = making_undone known next cell.access k (create heap words cell) places ms (made is) (new_object cell, get_new heap (new_object cell), refl, refl) e raises
      undone_by e raises false is = new_undone k places ms rooms holds e is roomed fit (starts e (raised e raises))

-- An object that is not gone exists.
live_exists : {under : List Id} (heap : List Object) (ms : List Master) (o : Id) (x : Object) → object_at heap o ≡ Some x → (x.stage ≡ Gone → ⊥) → Stored under heap ms → x.stage ≡ Existing
live_exists heap ms o x found live stored = go x.stage refl
  where
    go : (stage : Stage) → x.stage ≡ stage → x.stage ≡ Existing
    go Building is = (stored.sane o x found).there_exists (rw is refl)
    go Existing is = is
    go Gone is = absurd (live is)

module _ (known : Known) (k : Control) (a : Activation Value) (rest : List (Activation Value)) (s : State) (e : Exception) (done : List parts.Part) where
  -- The object leaves its collection: what is behind goes on still.
  left_resumes : (o : Id) (x : Object) → object_at s.heap o ≡ Some x → StartsRaise known s.heap (Names o) e → UndoneTo known (Names o) k s.heap a.places s.masters e → ResumesTo known (Some o) (slice_set s.heap o.0 (parted x)) a.places s.masters (Resumes (Raising e) ∷ k)
  left_resumes o x found (q, y, names, there, raises) (p, access, is, under, goes) = (access, under_set s.heap o x (parted x) found refl refl access at_o, (e, refl, came), behind goes)
    where
      this : p ≡ o
      this = cc is

      at_o : UnderIs s.heap (Some o) access
      at_o = rw this at under

      of_under : UnderIs s.heap (Some o) access → x.cell.access ≡ access
      of_under (z, at_z, of, out) =
          let one : z ≡ x = cc (at_z, found) in
          rw one at of

      came : list_any (is_same e) (known.implicit.start_raises access) ≡ true
      came =
          let same : q ≡ o = cc names in
          let one : y ≡ x = cc (rw same at there, found) in
          rw (of_under at_o) at (rw one at raises)

      behind : ((known.touches access ≡ false) × Freed known None none_spared (on_object finished s.heap (Names o)) a.places s.masters (λ rooms holds. To ((ways known k rooms).raised e) holds))
          ⊎ Freed known (Some p) none_spared s.heap a.places s.masters (λ rooms holds. To ((ways known k rooms).raised e) holds × BeginsWell known access holds)
          → ((known.touches access ≡ false) × Freed known None none_spared (gone_in (Some o) (slice_set s.heap o.0 (parted x))) a.places s.masters (λ rooms holds. To (By (Raising e) (ways known k rooms)) holds))
          ⊎ Freed known (Some o) none_spared (slice_set s.heap o.0 (parted x)) a.places s.masters (λ rooms holds. To (By (Raising e) (ways known k rooms)) holds × BeginsWell known access holds)
      behind (inl (collected, u)) = inl (
        collected,
        record {
          rooms = u.rooms;
          holds = u.holds;
          roomed = u.roomed;
          fit = gone_still s.heap o x (parted x) found (λ objects. Fit known.program.types known.program.variables (outers known) none_spared objects a.places u.holds) (gone_fit s.heap o x (parted x) found) u.fit;
          aside = tt;
          rest = u.rest;
        },
      )
      behind (inr u) =
          let aside : IsAside known none_spared s.heap a.places u.holds (Some o) = rw this at u.aside in
          inr (record {
            rooms = u.rooms;
            holds = u.holds;
            roomed = u.roomed;
            fit = part_fit o x found u.fit;
            aside = (same_unnamed s.heap o x found o aside.0 (parted x) refl (λ c. refl), aside.1);
            rest = u.rest;
          })

  -- Its words are out.
  undone_out : (o : Id) (x : Object) → object_at s.heap o ≡ Some x → UndoneTo known (Names o) k s.heap a.places s.masters e → x.out ≡ true
  undone_out o x found (p, access, is, (y, there, of, out), goes) =
      let this : p ≡ o = cc is in
      let one : y ≡ x = cc (rw this at there, found) in
      rw one at out

  -- What has begun of it is finalized next.
  undone_object : (o : Id) (x : Object) → object_at s.heap o ≡ Some x → x.stage ≡ Existing → Stored (outers known).under s.heap s.masters → StartsRaise known s.heap (Names o) e → UndoneTo known (Names o) k s.heap a.places s.masters e → Stepped known s.heap Quiet (record (undone named e (Names o) done x.cell (in_mode (Raising e) k a rest s)) { heap = slice_set s.heap o.0 (parted x) })
  undone_object o x found exists stored raises u =
      let heap = slice_set s.heap o.0 (parted x) in
      let ending : Ending known o (GivesBack (Names o) (Undoing s.next) x.cell.home.pool ∷ Resumes (Raising e) ∷ k) heap a.places s.masters = record {
        object = parted x;
        found = set_here s.heap o.0 x (parted x) found;
        exists = exists;
        out = undone_out o x found u;
        parted = refl;
        stored = stored_part o x found stored;
        covered = tt;
        rest = (refl, refl, left_resumes o x found raises u);
      } in
      record {
        ready = (
          tt,
          treats_ready known (Names o) (ends (Undoing s.next)) (map (λ p. performs p.of p.number) done) (Ends (Names o) ∷ GivesBack (Names o) (Undoing s.next) x.cell.home.pool ∷ Resumes (Raising e) ∷ k) heap a.places [] s.masters (refl, ending) tt,
        );
        alters = alters_set s.heap Quiet o x (parted x) found (refl, refl, refl) (λ h. h) (λ h. inl h);
        says = tt;
      }

  pub undo_fine : (v : Value) → IsLive s.heap v → Stored (outers known).under s.heap s.masters → StartsRaise known s.heap v e → UndoneTo known v k s.heap a.places s.masters e → Fine known s.heap s.masters (undo_next named e v done (look s.heap v) (in_mode (Raising e) k a rest s))
  undo_fine Null live stored raises u = let is = live.1 in absurd (cc is)
  undo_fine (Scalar n) live stored raises u = let is = live.1 in absurd (cc is)
  undo_fine (Part o place) live stored raises u = let is = live.1 in absurd (cc is)
  undo_fine (Names o) (cell, live) stored raises u = go (object_at s.heap o) refl
    where
      not_gone : (x : Object) → object_at s.heap o ≡ Some x → x.stage ≡ Gone → ⊥
      not_gone x found gone = let at = rw (found, gone) at live in cc at

      go : (t : Option Object) → object_at s.heap o ≡ t → Fine known s.heap s.masters (undo_next named e (Names o) done (look s.heap (Names o)) (in_mode (Raising e) k a rest s))
      go None found = let at = rw found at live in absurd (cc at)
      go (Some x) found =
          let exists = live_exists s.heap s.masters o x found (not_gone x found) stored in
          rw (found, exists) (rw found (undone_object o x found exists stored raises u))
