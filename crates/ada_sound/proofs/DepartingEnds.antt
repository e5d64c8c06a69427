-- While collections are left one after another up to one for whose objects operations may be called that touch storage, and no operation runs (7.6.1): a member that
-- has been finalized ends, and its words go back.

use Rattle.std.proofs.Common.{◌≡◌, ◌≢◌, ◌≤◌, ℕ, suc, Bool, true, false, ◌||◌, List, [], ◌∷◌, refl, sym, ap, subst, ◌∙◌, ◌⊎◌, inl, inr, arith}
use Rattle.std.proofs.lemmas.Bool.{eqb-true}
use Rattle.std.specs.Prelude.{Option, Some, None, ◌==◌}
use Rattle.std.specs.List.{slice_set}
use Rattle.ada_deeds.specs.Implicit.{implicit_of}
use Rattle.ada_effects.specs.Effects.{Implicit}
use Rattle.ada_program.specs.declared.program.Program.{Program}
use Rattle.ada_program.specs.declared.program.TypeDefinition.{TypeDefinition}
use Rattle.ada_program.specs.ProgramForm.{TypeForm, VariableForm, BodyForm, body_forms, program_form}
use Rattle.ada_program.specs.WellFormed.{is_access}
use Rattle.ada_flow.specs.Flow.{Holds}
use Rattle.ada_meaning.specs.declared.event.Cause.TheVariants.{Leaving}
use Rattle.ada_meaning.specs.declared.state.Id.{Id}
use Rattle.ada_meaning.specs.declared.state.Mode.{Mode}
use Rattle.ada_meaning.specs.declared.state.Mode.TheVariants.{Running}
use Rattle.ada_meaning.specs.declared.state.Stage.TheVariants.{Existing}
use Rattle.ada_meaning.specs.declared.state.Value.{Value}
use Rattle.ada_meaning.specs.declared.state.Value.TheVariants.{Names}
use Rattle.ada_meaning.specs.Event.{Back, Quiet}
use Rattle.ada_meaning.specs.Frame as frame
use Rattle.ada_meaning.specs.Frame.{Frame}
use Rattle.ada_meaning.specs.Heap.{Cell}
use Rattle.ada_meaning.specs.Law.{items_of}
use Rattle.ada_meaning.specs.Named.{Object, State, object_at, look, named, next, finished, returned}
use Rattle.ada_meaning.specs.Run.{Event}
use Rattle.ada_meaning.specs.State.{Item, Master, Owned, declared, collection, record_object, storage_pool, height}
use Rattle.ada_meaning.specs.Step.{told_back, end_next, frame_next, running_next, mode_next, operands_of, places_of}
use Rattle.ada_owners.specs.Places.{access_in, component_in}
use Rattle.ada_owners.proofs.Changes.{looks_same}
use Rattle.ada_scopes.proofs.Components.{items_fit}
use Rattle.ada_scopes.proofs.Homes.{ItemsFit}
use Rattle.ada_scopes.proofs.Runs.{Scoped}
use Rattle.ada_sound.specs.Agreement.{running_procedure}
use Rattle.ada_sound.proofs.Alters.{Alters, alters_set}
use Rattle.ada_sound.proofs.Callers.{known_in}
use Rattle.ada_sound.proofs.Departing.{AllSpareGone, AreGone, AreGoneFrom, AreOfItem, Backing, HasAccess, IsGoing, IsKept, IsLow, next_member, Seen, SparesGone, ending, has_gone}
use Rattle.ada_sound.proofs.DepartingBegins.{going_parts}
use Rattle.ada_sound.proofs.DepartingGoes.{GoesDeparting, Went}
use Rattle.ada_sound.proofs.Fits.{Fit, Outsiders, lies_nowhere, none_spared, respare, same_access, some_ahead, sparing}
use Rattle.ada_sound.proofs.Grounds.{Ordinary}
use Rattle.ada_sound.proofs.HeldOutside.{newest_outside}
use Rattle.ada_sound.proofs.Homes.{same_one}
use Rattle.ada_sound.proofs.Invariant.{Control, Ending, Known, LeavesTo, NamesLow, Parting, ReadyIn, RunsOn, ThenBack, departs, innermost, outers}
use Rattle.ada_sound.proofs.Leavings.{HoldNone}
use Rattle.ada_sound.proofs.Objects.{set_here, set_get}
use Rattle.ada_sound.proofs.SeenStates.{has_gone_either, seen_at, seen_ended, stays_on, with_ghost}
use Rattle.ada_sound.proofs.SparesNewer.{AllSpareNewer, ItemSpares, MastersSpare, OwnedSpares}
use Rattle.ada_sound.proofs.Starts.{Sound}
use Rattle.ada_sound.proofs.Stored.{IsUnder, Stored, stored_set}
use Rattle.ada_sound.proofs.Waiting.{stands_kept}

-- What comes next is what the first of what is left to do does.
pub next_frame : (types : List TypeDefinition) (bodies : List BodyForm) (s : State) (f : Frame Value) (k : Control) → s.mode ≡ Running → s.control ≡ f ∷ k
    → next types bodies s ≡ frame_next named types bodies f (record s { control = k })
unfolding next
next_frame types bodies s f k runs is =
    subst (λ (mode : Mode). mode_next named types bodies mode s ≡ running_next named types bodies s.control s) (sym runs) refl
    ∙ ap (λ (c : Control). running_next named types bodies c s) is

-- An object that looks the same changes.
same_fit : {types : List TypeForm} {variables : List VariableForm} {outer : Outsiders} {spared : Id → Bool} {heap : List Object} {places : List Value} {holds : Holds} (o : Id) (x y : Object) → object_at heap o ≡ Some x
    → access_in (Some y) ≡ access_in (Some x) → ((c : ℕ) → component_in (Some y) c ≡ component_in (Some x) c) → Fit types variables outer spared heap places holds → Fit types variables outer spared (slice_set heap o.0 y) places holds
same_fit {heap = heap} o x y found access components f = record {
  owners = looks_same heap o x found y access components f.owners;
  said = f.said;
  objects = f.objects;
  referred = λ k t is. same_access heap o x y found access k ∙ f.referred k t is;
}

-- No components are spared, as long as operations may be called for some of the items.
pub spares_nothing : (ahead : Owned → Bool) (items : List Item) → some_ahead ahead items ≡ true → (heap : List Object) (k : Id) → sparing ahead heap items k ≡ false
spares_nothing ahead items some heap k = rw some (sym (lies_nowhere (object_at heap k)))

-- An object under way stays on, unlisted, and its words are back: nothing is under way then.
stored_still : {under : List Id} {heap : List Object} {masters : List Master} (o : Id) (x : Object) → Stored (o ∷ under) heap masters → Stored under (slice_set heap o.0 (stays_on x)) masters
stored_still {under} {heap} {masters} o x s =
    stored_set o (stays_on x)
    (record { back_unlisted = λ e. refl; listed_exists = λ e. refl; there_exists = λ e. refl; housed = λ e. absurd (cc e); out_listed = λ e. absurd (cc e) })
    (λ p z ne g. record { back_unlisted = g.back_unlisted; listed_exists = g.listed_exists; there_exists = g.there_exists; housed = g.housed; out_listed = λ e. elim (g.out_listed e) [ inl l ↦ inl l | inr n ↦ inr (other p ne n) ] })
    s
  where
    other : (p : Id) → p.0 ≢ o.0 → IsUnder (o ∷ under) p → IsUnder under p
    other p ne (inl same) = absurd (ne (ap (λ (q : Id). q.0) (sym same)))
    other p ne (inr one) = one

-- What variables are relied on to name lies as low as before, where an object changes, but for what lies in it.
pub low_still : (heap : List Object) (places : List Value) (masters : List Master) (holds : Holds) (o : Id) (x y : Object) → object_at heap o ≡ Some x → y.cell ≡ x.cell → NamesLow heap places masters holds
    → NamesLow (slice_set heap o.0 y) places masters holds
low_still heap places masters holds o x y at cell low v p z relied names found = by (set_get heap o.0 p.0 y z found)
  where
    by : ((p.0 ≡ o.0) × (z ≡ y)) ⊎ ((p.0 ≢ o.0) × (object_at heap p ≡ Some z)) → suc z.cell.home.item ≤ height masters
    by (inl (same, is)) =
        let one : p ≡ o = ap (λ (n : ℕ). record { 0 = n }) same in
        let lower = low v p x relied names (rw one at) in
        subst (λ (c : Cell Value). suc c.home.item ≤ height masters) (sym (ap (λ (w : Object). w.cell) is ∙ cell)) lower
    by (inr (other, before)) = low v p z relied names before

-- Words that go back to a pool are told.
told_went : (program : Program) (s : State) (from : Option ℕ) (v : Value) (event : Event) (after : State) → Went program s.heap event after → GoesDeparting program s (told_back named from v event after)
told_went program s None v event after went = went
told_went program s (Some pool) v event after went = went

-- One type more: the newest collection loses a member.
module _ (implicit : Implicit) (types : List ℕ) (access : ℕ) (pool : Option ℕ) where
  -- The end of an object of an older item reaches none of it.
  spares_one_more : (owned : Owned) → OwnedSpares implicit (collection access pool) owned → SparesGone implicit types owned → SparesGone implicit (access ∷ types) owned
  spares_one_more (declared x) newer spares = tt
  spares_one_more (record_object u) newer spares = tt
  spares_one_more (storage_pool declaration number) newer spares = tt
  spares_one_more (collection t own) newer spares = λ u gone. by u (has_gone_either access u types gone)
    where
      by : (u : ℕ) → (u ≡ access) ⊎ (has_gone types u ≡ true) → implicit.end_reaches t u ≡ false
      by u (inl same) = subst (λ (v : ℕ). implicit.end_reaches t v ≡ false) (sym same) newer
      by u (inr before) = spares u before

  all_spare_one_more : (number : ℕ) (items : List Item) → ItemSpares implicit (record { number = number; owned = collection access pool }) items → AllSpareGone implicit types items → AllSpareGone implicit (access ∷ types) items
  all_spare_one_more number [] newer spares = tt
  all_spare_one_more number (i ∷ is) newer spares = (spares_one_more i.owned newer.0 spares.0, all_spare_one_more number is newer.1 spares.1)

-- So it is known of the types that have lost members.
module _ (program : Program) (s : State) (scoped : Scoped (program_form program) s) (newer : AllSpareNewer program s.masters) (types : List ℕ) (item access : ℕ) (pool : Option ℕ)
    (going : IsGoing program item (collection access pool) s.masters) (are : AreGoneFrom program types s.masters) where
  -- The effects of implicit calls, and the collection.
  abbrev implicit : Implicit
  implicit = implicit_of (program_form program)

  abbrev newest : Item
  newest = record { number = item; owned = collection access pool }

  -- What was known of the types before, and what the ends of objects do.
  before : AreGone program types (newest ∷ going.items) going.outer
  before = subst (λ (ms : List Master). AreGoneFrom program types ms) going.is are

  spare : OwnedSpares implicit (collection access pool) (collection access pool) × ItemSpares implicit newest going.items
  spare = let all = (subst (λ (ms : List Master). MastersSpare implicit ms) going.is newer).0 in (all.0, all.1)

  accessed_by : (t : ℕ) → (t ≡ access) ⊎ (has_gone types t ≡ true) → is_access (program_form program).types t ≡ true
  accessed_by t (inl same) =
      let fit = (subst (λ (ms : List Master). ItemsFit (program_form program).types (items_of ms)) going.is (items_fit (program_form program) s scoped)).0 in
      subst (λ (u : ℕ). is_access (program_form program).types u ≡ true) (sym same) fit
  accessed_by t (inr gone) = before.accessed t gone

  unheld_by : (t : ℕ) → (t ≡ access) ⊎ (has_gone types t ≡ true) → HoldNone (program_form program).types t (items_of going.outer)
  unheld_by t (inl same) =
      subst (λ (u : ℕ). HoldNone (program_form program).types u (items_of going.outer)) (sym same)
      (newest_outside (program_form program) s scoped going.number item access pool going.items going.outer going.is)
  unheld_by t (inr gone) = before.unheld t gone

  one_more_gone : AreGoneFrom program (access ∷ types) s.masters
  one_more_gone =
      subst (λ (ms : List Master). AreGoneFrom program (access ∷ types) ms) (sym going.is) (record {
        accessed = λ t gone. accessed_by t (has_gone_either access t types gone);
        unheld = λ t gone. unheld_by t (has_gone_either access t types gone);
        spared = (
          spares_one_more implicit types access pool (collection access pool) spare.0 before.spared.0,
          all_spare_one_more implicit types access pool item going.items spare.1 before.spared.1,
        );
      })

-- The state that stands for this one, with these objects, keeps the invariant.
module _ (program : Program) (s : State) (h : List Object) (master : ℕ) {types : List ℕ} {item access : ℕ} {pool : Option ℕ} {ghosts : Id → Bool} (seen : Seen types item ghosts s (record s { heap = h }))
    (runs : s.mode ≡ Running) (going : IsGoing program item (collection access pool) s.masters) (are : AreGoneFrom program types s.masters) (here : AreOfItem item (collection access pool) ghosts s.heap)
    (ordinary : Ordinary program (record s { heap = h })) (mode : Mode) (k : Control) where
  -- What is known of the body, what its variables hold, and what is left to do.
  abbrev known : Known
  known = known_in program (running_procedure s) ordinary.suspensions

  abbrev places : List Value
  places = places_of s.activations

  abbrev left : Control
  left = frame.Leaves mode ∷ k

  -- For the objects of one of the items, operations may be called that touch storage.
  goes_here : departs known.ahead (innermost s.masters) ≡ true
  goes_here = rw (going.is) (going.goes)

  some_here : some_ahead known.ahead (innermost s.masters) ≡ true
  some_here = rw (going.is) ((going_parts known.ahead (record { number = item; owned = collection access pool }) going.items going.goes).1)

  -- A member that has been finalized ends.
  module _ (scoped : Scoped (program_form program) s) (newer : AllSpareNewer program s.masters) (o : Id) (plain : ghosts o ≡ false) (has : HasAccess s.heap o access) (is : s.control ≡ ending o master item pool mode k) where
    -- What is left to do behind its end; and that it is ready to end in the state that stands for this one.
    abbrev backing : Control
    backing = frame.GivesBack (Names o) (Leaving master item) pool ∷ left

    is_ending : Ending known o backing h places s.masters
    is_ending = rw (runs, is) at (ordinary.ready.1)

    -- What is said of the member, and what holds behind its end.
    module _ (x : Object) (seen_found : object_at h o ≡ Some x) (exists : x.stage ≡ Existing) (out : x.out ≡ true) (stored : Stored (o ∷ (outers known).under) h s.masters) (own : pool ≡ x.cell.home.pool) (at_home : item ≡ x.cell.home.item) where
      -- It is the same in both states.
      found : object_at s.heap o ≡ Some x
      found = sym (seen_at seen o plain) ∙ seen_found

      of_access : x.cell.access ≡ access
      of_access = let one : has.0 ≡ x = let there = has.1 in cc (there, found) in rw one at (has.2)

      newest_or_newer : item ≤ x.cell.home.item
      newest_or_newer = omega (arith, at_home)

      -- The objects of the state that stands for the one behind the end: there it stays on, unlisted, and its words are back.
      abbrev still : List Object
      still = slice_set h o.0 (stays_on x)

      -- So the invariant holds there with the rest of what is left.
      alters_view : Alters h (Back (Names o) x.cell.access x.cell.number x.cell.home.pool x.cell.home.subpool (Leaving master item)) still
      alters_view = alters_set h _ o x (stays_on x) seen_found (refl, refl, refl) (λ back. refl) (λ back. inr refl)

      abbrev AfterThat : Type 0
      AfterThat = (p : Parting known still places s.masters (RunsOn known left)) × NamesLow still places s.masters p.holds

      parting_view : LeavesTo known (Some o) h places s.masters left → AfterThat
      parting_view (inl (stays, f)) = let goes = goes_here in absurd (cc (stays, goes))
      parting_view (inr (goes, unreferred, f)) = (
        record {
          rooms = f.rooms;
          holds = f.holds;
          stored = stored_still o x stored;
          roomed = f.roomed;
          fit = respare none_spared (sparing known.ahead still (innermost s.masters)) (λ p c n e. spares_nothing known.ahead (innermost s.masters) some_here still p)
              (same_fit o x (stays_on x) seen_found (rw exists refl) (λ c. rw exists refl)
              (respare (sparing known.ahead h (innermost s.masters)) none_spared (λ p c n e. sym (spares_nothing known.ahead (innermost s.masters) some_here h p)) f.fit));
          rest = f.rest.0;
        },
        low_still h places s.masters f.holds o x (stays_on x) seen_found refl f.rest.1,
      )

      -- So it is in that mode.
      ready_view : AfterThat → (r : ReadyIn known s.mode left still places (operands_of s.activations) s.masters) × IsLow known s.mode left still places (operands_of s.activations) s.masters r
      ready_view after =
          subst (λ (m : Mode). (r : ReadyIn known m left still places (operands_of s.activations) s.masters) × IsLow known m left still places (operands_of s.activations) s.masters r) (sym runs) after

      kept_view : LeavesTo known (Some o) h places s.masters left → IsKept program (record s { heap = still; control = left })
      kept_view leaves =
          let ready = ready_view (parting_view leaves) in
          record {
            ordinary = record {
              suspensions = ordinary.suspensions;
              ready = (ordinary.ready.0, ready.0);
              stands = stands_kept program (record s { heap = h }) (record s { heap = still; control = left }) ordinary.suspensions ordinary.stands _ (record { procedure = refl; suspended = refl }) alters_view;
              calm = rw is at (ordinary.calm);
              settled = ordinary.settled;
            };
            low = ready.1;
          }

      -- What has gone from this collection is of its type.
      here_more : AreOfItem item (collection access pool) (with_ghost ghosts o) (slice_set s.heap o.0 (finished x))
      here_more p z ghost there home = by (set_get s.heap o.0 p.0 (finished x) z there)
        where
          or_one : (before one : Bool) → (before || one) ≡ true → (one ≡ true → ⊥) → before ≡ true
          or_one true one some none = refl
          or_one false one some none = absurd (none some)

          by : ((p.0 ≡ o.0) × (z ≡ finished x)) ⊎ ((p.0 ≢ o.0) × (object_at s.heap p ≡ Some z)) → Some access ≡ Some z.cell.access
          by (inl (same, one)) = ap Some (sym of_access ∙ ap (λ (y : Object). y.cell.access) (sym one))
          by (inr (other, before)) = here p z (or_one (ghosts p) (p.0 == o.0) ghost (λ one. other (eqb-true p.0 o.0 one))) before home

      -- So its words are to go back next, where that state stands for the one behind.
      backs_view : LeavesTo known (Some o) h places s.masters left → Backing program (record s { heap = slice_set s.heap o.0 (finished x); control = backing })
      backs_view leaves = record {
        types = access ∷ types;
        master = master;
        item = item;
        access = access;
        pool = pool;
        ghosts = with_ghost ghosts o;
        v = record s { heap = still; control = left };
        object = o;
        x = finished x;
        found = set_here s.heap o.0 x (finished x) found;
        gone = refl;
        out = out;
        of_access = of_access;
        at_home = sym at_home;
        from = own;
        mode = mode;
        k = k;
        control = refl;
        seen = seen_ended seen o x found access of_access newest_or_newer left;
        runs = runs;
        going = going;
        are = one_more_gone program s scoped newer types item access pool going are;
        here = here_more;
        kept = kept_view leaves;
      }

      went_ended : LeavesTo known (Some o) h places s.masters left → Went program s.heap Quiet (record s { heap = slice_set s.heap o.0 (finished x); control = backing })
      went_ended leaves = inl (record {
        body = inr (inl (backs_view leaves));
        alters = alters_set s.heap Quiet o x (finished x) found (refl, refl, refl) (λ back. back) (λ back. inl back);
        says = tt;
        covers = λ depth a number there procedure. tt;
      })

      ended_by : LeavesTo known (Some o) h places s.masters left → GoesDeparting program s (end_next named (Names o) (look s.heap (Names o)) (record s { control = backing }))
      ended_by leaves = rw (found, exists) (rw found (went_ended leaves))

    -- This is so of the step.
    behind_end : (e : Ending known o backing h places s.masters) → ThenBack known o e.object.cell.home h places s.masters backing → GoesDeparting program s (end_next named (Names o) (look s.heap (Names o)) (record s { control = backing }))
    behind_end e (same, own, (at_home, is_newest, leaves)) = ended_by e.object e.found e.exists e.out e.stored own at_home leaves

    pub ended_step : GoesDeparting program s (next program.types.items (body_forms program) s)
    ended_step = subst (GoesDeparting program s) (sym (next_frame program.types.items (body_forms program) s (frame.Ends (Names o)) backing runs is)) (behind_end is_ending is_ending.rest)

-- A step where the words of a member go back.
pub backing_step : (program : Program) (s : State) → Sound program s → Backing program s → GoesDeparting program s (next program.types.items (body_forms program) s)
backing_step program s sound b =
    subst (GoesDeparting program s) (sym (next_frame program.types.items (body_forms program) s (frame.GivesBack (Names b.object) (Leaving b.master b.item) b.pool) (frame.Leaves b.mode ∷ b.k) b.runs b.control))
    (rw (b.found, b.out) (rw (same_one b.pool b.x.cell.home.pool b.from) (rw (b.found) (told_went program s b.x.cell.home.pool (Names b.object) _ _ went))))
  where
    -- The state behind it, and what holds there.
    after : State
    after = record s { heap = slice_set s.heap b.object.0 (returned b.x); control = frame.Leaves b.mode ∷ b.k }

    here_still : AreOfItem b.item (collection b.access b.pool) b.ghosts (slice_set s.heap b.object.0 (returned b.x))
    here_still p z ghost there home = by (set_get s.heap b.object.0 p.0 (returned b.x) z there)
      where
        by : ((p.0 ≡ b.object.0) × (z ≡ returned b.x)) ⊎ ((p.0 ≢ b.object.0) × (object_at s.heap p ≡ Some z)) → Some b.access ≡ Some z.cell.access
        by (inl (same, one)) = ap Some (sym b.of_access ∙ ap (λ (y : Object). y.cell.access) (sym one))
        by (inr (other, before)) = b.here p z ghost before home

    went : Went program s.heap (Back (Names b.object) b.x.cell.access b.x.cell.number b.x.cell.home.pool b.x.cell.home.subpool (Leaving b.master b.item)) after
    went = inl (record {
      body = inl (record {
        types = b.types;
        master = b.master;
        item = b.item;
        owned = collection b.access b.pool;
        ghosts = b.ghosts;
        v = b.v;
        seen = b.seen;
        runs = b.runs;
        going = b.going;
        are = b.are;
        here = here_still;
        left = next_member b.mode b.k;
        kept = b.kept;
      });
      alters = alters_set s.heap _ b.object b.x (returned b.x) b.found (refl, refl, refl) (λ back. refl) (λ back. inr refl);
      says = record {
        id = b.object;
        object = b.x;
        is = refl;
        found = b.found;
        out = b.out;
        of_type = refl;
        numbered = refl;
        to_pool = refl;
        to_subpool = refl;
        home = sym b.at_home;
        covered = tt;
        back = (returned b.x, set_here s.heap b.object.0 b.x (returned b.x) b.found, refl);
      };
      covers = λ depth a number there procedure. tt;
    })
