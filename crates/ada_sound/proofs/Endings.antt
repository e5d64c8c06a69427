-- Objects end, their words go back, and masters are left.

use Rattle.std.proofs.Common.{◌≡◌, ◌≢◌, ℕ, zero, suc, ◌≤◌, Bool, true, false, List, [], ◌∷◌, ◌++◌, refl, sym, ap, ◌∙◌, ◌⊎◌, inl, inr}
use Rattle.std.specs.Prelude.{Option, Some, None}
use Rattle.std.proofs.lemmas.Bool.{eq-eqb}
use Rattle.std.specs.List.{slice_set, slice_index_or}
use Rattle.ada_parts.specs.declared.tasks.Direction.TheVariants.{WholeFirst}
use Rattle.ada_program.specs.declared.program.TypeDefinition.{TypeDefinition}
use Rattle.ada_flow.specs.Flow.{Holds, is_among}
use Rattle.ada_meaning.specs.declared.state.Id.{Id}
use Rattle.ada_meaning.specs.declared.state.Value.{Value}
use Rattle.ada_meaning.specs.declared.state.Value.TheVariants.{Null, Names, Scalar, Part}
use Rattle.ada_meaning.specs.declared.state.Stage.{Stage}
use Rattle.ada_meaning.specs.declared.state.Stage.TheVariants.{Gone}
use Rattle.ada_meaning.specs.declared.state.Mode.{Mode}
use Rattle.ada_meaning.specs.declared.state.Mode.TheVariants.{Running}
use Rattle.ada_meaning.specs.declared.event.Cause.{Cause}
use Rattle.ada_meaning.specs.declared.event.Cause.TheVariants.{Leaving, Freeing, Assigning, Undoing}
use Rattle.ada_meaning.specs.Frame.{Leaves, Ends, GivesBack, Clears, ClearsIn, Resumes, ends}
use Rattle.ada_meaning.specs.Event.{Back, Left, Quiet}
use Rattle.ada_meaning.specs.State.{Owned, declared, collection, record_object, storage_pool, Item, Master, Activation, height}
use Rattle.ada_meaning.specs.Step.{all_tasks, taken_out, told_back, end_next, back_next, members_next, item_leave_next, master_leave_next, leave_next}
use Rattle.ada_meaning.specs.Named.{Object, State, object_at, look, lent, members, named, parted, finished, returned, filled, store}
use Rattle.ada_meaning.specs.Run.{Event}
use Rattle.ada_meaning.specs.Law.{leaving_by, LeavesHome, items_of}
use Rattle.ada_owners.specs.Places.{is_there}
use Rattle.ada_owners.proofs.Changes.{store_is}
use Rattle.ada_owners.proofs.Kernel.{same_id}
use Rattle.ada_owners.proofs.Objects.{at_other}
use Rattle.ada_sound.proofs.Objects.{set_here, set_twice}
use Rattle.ada_sound.proofs.Items.{Houses, newest_is}
use Rattle.ada_sound.proofs.Homes.{same_one}
use Rattle.ada_sound.proofs.Stored.{IsUnder, Stored, IsTaken, stored_part, stored_finish, stored_back, stored_shorter, stored_older, listed_out, none_is_left, taken_is}
use Rattle.ada_sound.proofs.Fits.{sparing, Fit, none_spared, weaker_fit, part_fit, finish_fit, back_fit, sparing_set, sparing_shorter, sparing_left, sparing_unnamed, same_unnamed}
use Rattle.ada_sound.proofs.Alters.{alters_set}
use Rattle.ada_sound.proofs.Invariant.{outers, below, Known, Control, Rooms, Roomed, OwnedAmong, NamesNone, RunsOn, Working, Parting, IsAside, Freed, IsOther, gone_in, FreesWell, IsNamedIn, UnderIs, IsHolder, Clearing, ClearsTo, LeavesTo, ResumesTo, Behind, ThenBack, Ending, EndingBy, Backing, BackingBy, ReadyIn, Stepped, Fine, innermost, departs, departs_next, NamesLow, UnderIsUnreferred}
use Rattle.ada_sound.proofs.Ready.{running, at_work, stays, goes_ready, treats_ready}
use Rattle.ada_sound.proofs.Taken.{stored_after}
use Rattle.ada_sound.proofs.Leavings.{GoesWell, NamedBelow, HeldIn, taken_unnamed, taken_unreferred}

-- What is stored in one object stays where another one changes.
pub swapped : {X : Type 0} (xs : List X) (i j : ℕ) (x y : X) → i ≢ j → slice_set (slice_set xs i x) j y ≡ slice_set (slice_set xs j y) i x
swapped [] i j x y ne = refl
swapped (z ∷ xs) zero zero x y ne = absurd (ne refl)
swapped (z ∷ xs) zero (suc j) x y ne = refl
swapped (z ∷ xs) (suc i) zero x y ne = refl
swapped {X} (z ∷ xs) (suc i) (suc j) x y ne = ap (λ (ys : List X). z ∷ ys) (swapped xs i j x y (λ e. ne (ap suc e)))

pub stored_elsewhere : (heap : List Object) (h : Id) (holder : Object) (c : ℕ) (o : Id) (x y : Object) → object_at heap h ≡ Some holder → object_at heap o ≡ Some x → h ≢ o → (object_at (slice_set heap o.0 y) h ≡ Some holder) × (object_at (store heap (Names h) c Null) o ≡ Some x) × (store (slice_set heap o.0 y) (Names h) c Null ≡ slice_set (store heap (Names h) c Null) o.0 y)
stored_elsewhere heap h holder c o x y at_h at_o ne =
    let still = at_other heap o h y ne ∙ at_h in
    let stored = store_is heap h holder at_h c Null in
    let numbers : o.0 ≢ h.0 = λ e. (let same : h ≡ o = ap (λ (n : ℕ). record { 0 = n }) (sym e) in ne same) in
    let other = at_other heap h o (filled c Null holder) (λ e. ne (sym e)) ∙ at_o in
    (still, rw stored other, store_is (slice_set heap o.0 y) h holder still c Null ∙ (swapped heap o.0 h.0 y (filled c Null holder) numbers ∙ sym (ap (λ (objects : List Object). slice_set objects o.0 y) stored)))

-- A change of an object that keeps what fits.
abbrev pub KeepsFit : Known → Id → Object → List Object → List Value → Type 0
KeepsFit known o y heap places = (spared : Id → Bool) (holds : Holds) → Fit known.program.types known.program.variables (outers known) spared heap places holds → Fit known.program.types known.program.variables (outers known) spared (slice_set heap o.0 y) places holds

-- One that does so where this is under way, and this one after that.
abbrev pub KeepsAside : Known → Id → Object → (under after : Option Id) → List Object → List Value → Type 0
KeepsAside known o y under after heap places =
    (spared : Id → Bool) (holds : Holds) → Fit known.program.types known.program.variables (outers known) spared heap places holds
    → IsAside known spared heap places holds under
    → Fit known.program.types known.program.variables (outers known) spared (slice_set heap o.0 y) places holds
    × IsAside known spared (slice_set heap o.0 y) places holds after

-- One that does so whatever names the objects that are under way, to which no call refers.
abbrev pub KeepsNamed : Known → Id → Object → (under after : Option Id) → List Object → List Value → Type 0
KeepsNamed known o y under after heap places = KeepsFit known o y heap places × (UnderIsUnreferred known under → UnderIsUnreferred known after)

-- Nothing relies on an object under way, where homes stay as they are.
aside_going : (known : Known) (heap : List Object) (items : List Item) (o : Id) (x y : Object) → object_at heap o ≡ Some x → y.cell.home ≡ x.cell.home → (is_there y.stage ≡ true → y.out ≡ x.out) → (places : List Value) (holds : Holds) (under : Option Id) → IsAside known (sparing known.ahead heap items) (slice_set heap o.0 y) places holds under → IsAside known (sparing known.ahead (slice_set heap o.0 y) items) (slice_set heap o.0 y) places holds under
aside_going known heap items o x y found same outs places holds None aside = tt
aside_going known heap items o x y found same outs places holds (Some p) aside = (sparing_unnamed known.ahead (outers known) heap items o x y found same outs places holds p aside.0, aside.1)

-- What holds where an object is gone holds still once it has changed before.
pub gone_still : (heap : List Object) (o : Id) (x y : Object) → object_at heap o ≡ Some x → (P : List Object → Type 0) → (P (slice_set heap o.0 (finished x)) → P (slice_set heap o.0 (finished y))) → P (gone_in (Some o) heap) → P (gone_in (Some o) (slice_set heap o.0 y))
gone_still heap o x y found P on f =
    let still = set_here heap o.0 x y found in
    rw (still, set_twice heap o.0 y (finished y)) (on (rw found at f))

-- An object under way that changes stays of its type, and its words are out still.
pub under_set : (heap : List Object) (o : Id) (x y : Object) → object_at heap o ≡ Some x → y.cell.access ≡ x.cell.access → y.out ≡ x.out → (access : ℕ) → UnderIs heap (Some o) access → UnderIs (slice_set heap o.0 y) (Some o) access
under_set heap o x y found same outs access (z, there, of, out) =
    let one : z ≡ x = cc (there, found) in
    (y, set_here heap o.0 x y found, same ∙ (rw one at of), outs ∙ (rw one at out))

-- So what its finalization may free stays the same, and a component that is freed names it still, and is of its type.
pub frees_set : (known : Known) (heap : List Object) (o : Id) (x y : Object) → object_at heap o ≡ Some x → y.cell.access ≡ x.cell.access → (holds : Holds) → FreesWell known heap (Some o) holds → FreesWell known (slice_set heap o.0 y) (Some o) holds
frees_set known heap o x y found same holds well object at =
    let still = set_here heap o.0 x y found in
    let one : object ≡ y = cc (at, still) in
    rw one (rw same (well x found))

pub named_set : (known : Known) (heap : List Object) (o : Id) (x y : Object) → object_at heap o ≡ Some x → y.cell.access ≡ x.cell.access → (v : Value) (c : ℕ) → v ≢ Names o → IsNamedIn known heap v c (Some o) → IsNamedIn known (slice_set heap o.0 y) v c (Some o)
named_set known heap o x y found same Null c other named = absurd named
named_set known heap o x y found same (Names h) c other (holder, object, at_h, at_o, is, names, spared) =
    let one : object ≡ x = cc (at_o, found) in
    (holder, y, at_other heap o h y (λ e. other (ap Names e)) ∙ at_h, set_here heap o.0 x y found, rw same (rw one at is), names, rw same (rw one at spared))
named_set known heap o x y found same (Scalar n) c other named = absurd named
named_set known heap o x y found same (Part p place) c other named = absurd named

-- What holds a component is no object that is gone.
gone_holder : (heap : List Object) (v : Value) (o : Id) (x : Object) → v ≡ Names o → object_at heap o ≡ Some x → x.stage ≡ Gone → IsHolder heap v → ⊥
gone_holder heap Null o x is found gone holder = holder
gone_holder heap (Scalar n) o x is found gone holder = holder
gone_holder heap (Part p place) o x is found gone holder = holder
gone_holder heap (Names h) o x is found gone (y, at, there) =
    let same : h ≡ o = cc is in
    let one : y ≡ x = let here = at in cc (rw same at here, found) in
    let nowhere : is_there Gone ≡ true = rw (one, gone) at there in
    cc nowhere

-- At work again, with it gone.
freed_works : {known : Known} {heap : List Object} {places : List Value} {ms : List Master} {more : Rooms → Holds → Type 0} → Stored (outers known).under heap ms → Freed known None none_spared heap places ms more → Working known heap places ms more
freed_works stored c = record { rooms = c.rooms; holds = c.holds; stored = stored; roomed = c.roomed; fit = c.fit; rest = c.rest }

freed_parts : {known : Known} {heap : List Object} {places : List Value} {ms : List Master} {more : Rooms → Holds → Type 0} → Stored (outers known).under heap ms → Freed known None (sparing known.ahead heap (innermost ms)) heap places ms more → Parting known heap places ms more
freed_parts stored c = record { rooms = c.rooms; holds = c.holds; stored = stored; roomed = c.roomed; fit = c.fit; rest = c.rest }

-- What an item is the home of is of a type that it may own.
pub among_by : (owned : Owned) (access : ℕ) (pool : Option ℕ) (types : List ℕ) → Houses owned access pool → OwnedAmong owned types → is_among types (Some access) ≡ true
among_by (declared x) access pool types h among = absurd h
among_by (collection t own) access pool types h among = rw (h.0) at among
among_by (record_object t) access pool types h among = rw (h.0) at among
among_by (storage_pool declaration number) access pool types h among = absurd h

-- What is from its pool.
abbrev HousesFrom : Owned → (pool : Option ℕ) → Type 0
HousesFrom owned pool = (access : ℕ) (own : Option ℕ) → Houses owned access own → pool ≡ own

-- It is the home of no object.
abbrev HousesNone : Owned → Type 0
HousesNone owned = (access : ℕ) (own : Option ℕ) → Houses owned access own → ⊥

module _ (known : Known) where
  -- What is behind an object under way stays so.
  module _ (o : Id) (x y : Object) (heap : List Object) (found : object_at heap o ≡ Some x) (same : y.cell.home ≡ x.cell.home) (outs : is_there y.stage ≡ true → y.out ≡ x.out) (under after : Option Id) (others : (v : Value) → IsHolder heap v → IsOther v under → (v ≢ Names o) × IsOther v after)
      (keeps : (objects : List Object) (places : List Value) → object_at objects o ≡ Some x → KeepsAside known o y under after objects places)
      (goes : (spared : Id → Bool) (places : List Value) (holds : Holds) → Fit known.program.types known.program.variables (outers known) spared (gone_in under heap) places holds → Fit known.program.types known.program.variables (outers known) spared (gone_in after (slice_set heap o.0 y)) places holds)
      (remains : (access : ℕ) → UnderIs heap under access → UnderIs (slice_set heap o.0 y) after access)
      (frees : (holds : Holds) → FreesWell known heap under holds → FreesWell known (slice_set heap o.0 y) after holds)
      (names : (v : Value) (c : ℕ) → IsHolder heap v → IsOther v under → IsNamedIn known heap v c under → IsNamedIn known (slice_set heap o.0 y) v c after) where
    holder_set : (h : Value) (c : ℕ) (places : List Value) (ms : List Master) (k : Control) → ClearsTo known under heap places ms (ClearsIn h c ∷ k) → ClearsTo known after (slice_set heap o.0 y) places ms (ClearsIn h c ∷ k)
    holder_set Null c places ms k r = absurd r.0
    holder_set (Names h) c places ms k r =
        let there = r.0 in
        let other = others (Names h) there r.1 in
        let apart : h ≢ o = λ e. other.0 (ap Names e) in
        let elsewhere = stored_elsewhere heap h there.0 c o x y there.1 found apart in
        let kept = keeps (store heap (Names h) c Null) places elsewhere.1 none_spared r.3.holds r.3.fit r.3.aside in (
          (there.0, elsewhere.0, there.2),
          other.1,
          names (Names h) c there r.1 r.2,
          record {
            rooms = r.3.rooms;
            holds = r.3.holds;
            roomed = r.3.roomed;
            fit = rw elsewhere.2 kept.0;
            aside = rw elsewhere.2 kept.1;
            rest = (r.3.rest.0, frees r.3.holds r.3.rest.1);
          },
        )
    holder_set (Scalar n) c places ms k r = absurd r.0
    holder_set (Part object_id base) c places ms k r = absurd r.0

    clears_set : (places : List Value) (ms : List Master) (k : Control) → ClearsTo known under heap places ms k → ClearsTo known after (slice_set heap o.0 y) places ms k
    clears_set places ms [] c = absurd c
    clears_set places ms (Clears z ∷ k) c =
        let kept = keeps heap (slice_set places z Null) found none_spared c.holds c.fit c.aside in
        record { rooms = c.rooms; holds = c.holds; roomed = c.roomed; fit = kept.0; aside = kept.1; rest = (c.rest.0, frees c.holds c.rest.1) }
    clears_set places ms (ClearsIn h c ∷ k) r = holder_set h c places ms k r
    clears_set places ms (f ∷ k) c = absurd c

    -- What variables are relied on to name has its home where it had.
    low_set : (places : List Value) (ms : List Master) (holds : Holds) → NamesLow heap places ms holds → NamesLow (slice_set heap o.0 y) places ms holds
    low_set places ms holds low z p object relied names at = by (same_id p o)
      where
        by : (p ≡ o) ⊎ (p ≢ o) → suc object.cell.home.item ≤ height ms
        by (inl here) =
            let set = set_here heap o.0 x y found in
            let one : object ≡ y = cc (rw here at at, set) in
            rw (one, same) (low z p x relied names (rw here found))
        by (inr other) = low z p object relied names (sym (at_other heap o p y other) ∙ at)

    leaves_set : (places : List Value) (ms : List Master) (k : Control) → (departs known.ahead (innermost ms) ≡ true → KeepsNamed known o y under after heap places) → LeavesTo known under heap places ms k → LeavesTo known after (slice_set heap o.0 y) places ms k
    leaves_set places ms [] named c = absurd c
    leaves_set places ms (Leaves mode ∷ k) named (inl (stays_so, c)) =
        let kept = keeps heap places found (sparing known.ahead heap (innermost ms)) c.holds c.fit c.aside in
        inl (
          stays_so,
          record {
            rooms = c.rooms;
            holds = c.holds;
            roomed = c.roomed;
            fit = sparing_set known.ahead (outers known) heap (innermost ms) o x y found same outs kept.0;
            aside = aside_going known heap (innermost ms) o x y found same outs places c.holds after kept.1;
            rest = c.rest;
          },
        )
    leaves_set places ms (Leaves mode ∷ k) named (inr (going, unreferred, c)) =
        let kept = named going in
        inr (
          going,
          kept.1 unreferred,
          record {
            rooms = c.rooms;
            holds = c.holds;
            roomed = c.roomed;
            fit = sparing_set known.ahead (outers known) heap (innermost ms) o x y found same outs (kept.0 (sparing known.ahead heap (innermost ms)) c.holds c.fit);
            aside = tt;
            rest = (c.rest.0, low_set places ms c.holds c.rest.1);
          },
        )
    leaves_set places ms (f ∷ k) named c = absurd c

    resumes_set : (places : List Value) (ms : List Master) (k : Control) → ResumesTo known under heap places ms k → ResumesTo known after (slice_set heap o.0 y) places ms k
    resumes_set places ms [] c = absurd c
    resumes_set places ms (Resumes mode ∷ k) (access, is, came, inl (collected, c)) =
        (access, remains access is, came, inl (collected, record { rooms = c.rooms; holds = c.holds; roomed = c.roomed; fit = goes none_spared places c.holds c.fit; aside = tt; rest = c.rest }))
    resumes_set places ms (Resumes mode ∷ k) (access, is, came, inr c) =
        let kept = keeps heap places found none_spared c.holds c.fit c.aside in
        (access, remains access is, came, inr (record { rooms = c.rooms; holds = c.holds; roomed = c.roomed; fit = kept.0; aside = kept.1; rest = c.rest }))
    resumes_set places ms (f ∷ k) c = absurd c

    pub behind_set : (cause : Cause) (home : ℕ) (places : List Value) (ms : List Master) (k : Control) → ((m item : ℕ) → cause ≡ Leaving m item → departs known.ahead (innermost ms) ≡ true → KeepsNamed known o y under after heap places) → Behind known cause under home heap places ms k → Behind known cause after home (slice_set heap o.0 y) places ms k
    behind_set (Leaving m item) home places ms k named b = (b.0, b.1, leaves_set places ms k (named m item refl) b.2)
    behind_set (Freeing number) home places ms k named b = clears_set places ms k b
    behind_set (Assigning number) home places ms k named b = absurd b
    behind_set (Undoing number) home places ms k named b = resumes_set places ms k b

  module _ (a : Activation Value) (rest : List (Activation Value)) (s : State) where
    -- An object ceases to exist.
    end_object : (o : Id) (k : Control) → departs_next (departs known.ahead (innermost s.masters)) (Ends (Names o) ∷ k) ≡ false → (e : Ending known o k s.heap a.places s.masters) → ThenBack known o e.object.cell.home s.heap a.places s.masters k → Stepped known s.heap Quiet (record (running k a rest s) { heap = slice_set s.heap o.0 (finished e.object) })
    end_object o [] stays_so e b = absurd b
    end_object o (GivesBack (Names p) cause pool ∷ k) stays_so e b = record {
      ready = (
        tt,
        rw (b.0) (record {
          object = finished e.object;
          found = set_here s.heap o.0 e.object (finished e.object) e.found;
          gone = refl;
          out = e.out;
          own = b.1;
          stored = stored_finish o e.object e.found e.stored;
          covered = e.covered;
          rest = behind_set o e.object (finished e.object) s.heap e.found refl (λ there. refl) (Some o) None (λ v holder other. (other, tt))
              (λ objects places at spared holds f aside. (finish_fit o e.object at aside.0 aside.1 f, tt))
              (λ spared places holds f. rw e.found at f) (λ access is. tt) (λ holds well. tt) (λ v c holder other named. tt) cause e.object.cell.home.item a.places s.masters k
              (λ m item leaves going. (let never : departs known.ahead (innermost s.masters) ≡ false = rw leaves at stays_so in absurd (cc (never, going)))) b.2;
        }),
      );
      alters = alters_set s.heap Quiet o e.object (finished e.object) e.found (refl, refl, refl) (λ h. h) (λ h. inl h);
      says = tt;
    }
    end_object o (f ∷ k) stays_so e b = absurd b

    pub ends_fine : (v : Value) (k : Control) → departs_next (departs known.ahead (innermost s.masters)) (Ends v ∷ k) ≡ false → EndingBy known v k s.heap a.places s.masters → Fine known s.heap s.masters (end_next named v (look s.heap v) (running k a rest s))
    ends_fine Null k stays_so e = absurd e
    ends_fine (Names o) k stays_so e = rw (e.found, e.exists) (rw e.found (end_object o k stays_so e e.rest))
    ends_fine (Scalar n) k stays_so e = absurd e
    ends_fine (Part object_id base) k stays_so e = absurd e

    -- Its words go back.
    module _ (heap : List Object) (stored : Stored (outers known).under heap s.masters) where
      clearing_ready : (h : Value) (d : ℕ) (k : Control) → ClearsTo known None heap a.places s.masters (ClearsIn h d ∷ k) → Clearing known h d k heap a.places s.masters
      clearing_ready Null d k c = absurd c.0
      clearing_ready (Names h) d k c = let w = freed_works (stored_after heap h d Null stored) c.3 in (c.0, at_work w w.rest.0)
      clearing_ready (Scalar n) d k c = absurd c.0
      clearing_ready (Part object_id base) d k c = absurd c.0

      cleared_ready : (k : Control) → ClearsTo known None heap a.places s.masters k → ReadyIn known Running k heap a.places a.operands s.masters
      cleared_ready [] c = absurd c
      cleared_ready (Clears x ∷ k) c = let w = freed_works stored c in at_work w w.rest.0
      cleared_ready (ClearsIn h d ∷ k) c = clearing_ready h d k c
      cleared_ready (f ∷ k) c = absurd c

      left_ready : (k : Control) → LeavesTo known None heap a.places s.masters k → ReadyIn known Running k heap a.places a.operands s.masters
      left_ready [] c = absurd c
      left_ready (Leaves mode ∷ k) (inl (stays_so, c)) = freed_parts stored c
      left_ready (Leaves mode ∷ k) (inr (going, unreferred, c)) =
          record { rooms = c.rooms; holds = c.holds; stored = stored; roomed = c.roomed; fit = c.fit; rest = c.rest.0 }
      left_ready (f ∷ k) c = absurd c

      resumed_ready : (k : Control) → ResumesTo known None heap a.places s.masters k → ReadyIn known Running k heap a.places a.operands s.masters
      resumed_ready [] c = absurd c
      resumed_ready (Resumes mode ∷ k) (access, is, came, inl (collected, c)) = freed_works stored c
      resumed_ready (Resumes mode ∷ k) (access, is, came, inr c) = let w = freed_works stored c in at_work w w.rest.0
      resumed_ready (f ∷ k) c = absurd c

      behind_ready : (cause : Cause) (home : ℕ) (k : Control) → Behind known cause None home heap a.places s.masters k → ReadyIn known Running k heap a.places a.operands s.masters
      behind_ready (Leaving m item) home k b = left_ready k b.2
      behind_ready (Freeing number) home k b = cleared_ready k b
      behind_ready (Assigning number) home k b = absurd b
      behind_ready (Undoing number) home k b = resumed_ready k b

    leaves_home : (cause : Cause) (o : Id) (x : Object) (k : Control) → Behind known cause None x.cell.home.item s.heap a.places s.masters k → LeavesHome x.cell.home (leaving_by (Some cause))
    leaves_home (Leaving m item) o x k b = b.0
    leaves_home (Freeing number) o x k b = tt
    leaves_home (Assigning number) o x k b = tt
    leaves_home (Undoing number) o x k b = tt

    -- What is gone is not there.
    gone_is_nowhere : {X : Type 0} (stage : Stage) → stage ≡ Gone → is_there stage ≡ true → X
    gone_is_nowhere stage gone there = let nowhere : is_there Gone ≡ true = rw gone at there in absurd (cc nowhere)

    back_object : (o : Id) (cause : Cause) (pool : Option ℕ) (k : Control) (b : Backing known o cause pool k s.heap a.places s.masters) → Stepped known s.heap (Back (Names o) b.object.cell.access b.object.cell.number b.object.cell.home.pool b.object.cell.home.subpool cause) (record (running k a rest s) { heap = slice_set s.heap o.0 (returned b.object) })
    back_object o cause pool k b =
        record {
          ready = (
            tt,
            behind_ready (slice_set s.heap o.0 (returned b.object)) (stored_back o b.object b.found b.gone b.stored) cause b.object.cell.home.item k
                (behind_set o b.object (returned b.object) s.heap b.found refl (gone_is_nowhere b.object.stage b.gone) None None (λ v holder other. (λ is. gone_holder s.heap v o b.object is b.found b.gone holder, tt))
                (λ objects places at spared holds f aside. (back_fit o b.object at f, tt)) (λ spared places holds f. back_fit o b.object b.found f) (λ access is. tt) (λ holds well. tt) (λ v c holder other named. tt) cause b.object.cell.home.item a.places s.masters k
                (λ m item leaves going. ((λ spared holds f. back_fit o b.object b.found f), λ none. tt)) b.rest),
          );
          alters = alters_set s.heap _ o b.object (returned b.object) b.found (refl, refl, refl) (λ h. refl) (λ h. inr refl);
          says = record {
            id = o;
            object = b.object;
            is = refl;
            found = b.found;
            out = b.out;
            of_type = refl;
            numbered = refl;
            to_pool = refl;
            to_subpool = refl;
            home = leaves_home cause o b.object k b.rest;
            covered = b.covered;
            back = (returned b.object, set_here s.heap o.0 b.object (returned b.object) b.found, refl);
          };
        }

    told_fine : (pool : Option ℕ) (v : Value) (event : Event) (after : State) → Stepped known s.heap event after → Fine known s.heap s.masters (told_back named pool v event after)
    told_fine None v event after stepped = stepped
    told_fine (Some pool) v event after stepped = stepped

    pub backs_fine : (v : Value) (cause : Cause) (pool : Option ℕ) (k : Control) → BackingBy known v cause pool k s.heap a.places s.masters → Fine known s.heap s.masters (back_next named v cause pool (lent s.heap v) (running k a rest s))
    backs_fine Null cause pool k b = absurd b
    backs_fine (Names o) cause pool k b = rw (b.found, b.out) (rw (same_one pool b.object.cell.home.pool b.own) (rw b.found (told_fine b.object.cell.home.pool (Names o) _ _ (back_object o cause pool k b))))
    backs_fine (Scalar n) cause pool k b = absurd b
    backs_fine (Part object_id base) cause pool k b = absurd b

  -- A master is left, newest item first.
  module _ (types : List TypeDefinition) (mode : Mode) (k : Control) (a : Activation Value) (rest : List (Activation Value)) (s : State) (number : ℕ) (ms : List Master) where
    -- The state with these items of the master left, and what is known there: nothing that may go with it is owned.
    left_with : List Item → State
    left_with items = record (running (Leaves mode ∷ k) a rest s) { masters = record { number = number; items = items } ∷ ms }

    Left_with : List Item → Type 0
    Left_with items = Parting known s.heap a.places (record { number = number; items = items } ∷ ms) (RunsOn known (Leaves mode ∷ k))

    -- An object in the newest collection is of a type that may go with the master, and of those no variable owns one.
    none_owned : (item : Item) (items : List Item) (access : ℕ) (pool : Option ℕ) (rooms : Rooms) (holds : Holds) → Houses item.owned access pool → Roomed (below known) (record { number = number; items = item ∷ items } ∷ ms) rooms → RunsOn known (Leaves mode ∷ k) rooms holds → (types : List ℕ) × NamesNone known.program.variables types holds × (is_among types (Some access) ≡ true)
    none_owned item items access pool [] holds owns roomed r = absurd r
    none_owned item items access pool (gone ∷ rooms) holds owns roomed r = (gone.types, r.0, among_by item.owned access pool gone.types owns roomed.0.0)

    -- A member is taken: its parts are finalized first.
    taken_fine : (item : Item) (items : List Item) (pool : Option ℕ) (v : Value) → HousesFrom item.owned pool → Left_with (item ∷ items) → HeldIn s.heap (record { number = number; items = item ∷ items } ∷ ms) → NamedBelow (outers known) s.heap (record { number = number; items = item ∷ items } ∷ ms) → departs known.ahead (item ∷ items) ≡ false → GoesWell known.program.types s.heap (item ∷ items) → IsTaken item.number s.heap v → Stepped known s.heap Quiet (taken_out named types (Leaving number item.number) pool v (look s.heap v) (left_with (item ∷ items)))
    unfolding left_with Left_with
    taken_fine item items pool v from w held low stays_so well (o, is, member) =
        let x = member.object in
        let sane = w.stored.sane o x member.found in
        let exists = sane.listed_exists member.listed in
        let there : is_there x.stage ≡ true = rw exists refl in
        let out = listed_out o x member.found member.listed w.stored in
        let type = newest_is x.cell.home.item x.cell.access x.cell.home.pool item (items ++ items_of ms) member.home w.stored.counted (sane.housed out) in
        let none = none_owned item items x.cell.access x.cell.home.pool w.rooms w.holds type w.roomed w.rest in
        let unnamed = taken_unnamed known.ahead known.program.types known.program.variables (outers known) s.heap a.places w.holds number item items ms none.0 w.fit none.1 held low o x member.found there out member.home none.2 type stays_so well in
        let unreferred = taken_unreferred known.ahead known.program.types known.program.variables (outers known) s.heap a.places w.holds number item items ms none.0 w.fit none.1 held low o x member.found there out member.home none.2 type stays_so well in
        let under : Ending known o (GivesBack (Names o) (Leaving number item.number) pool ∷ Leaves mode ∷ k) (slice_set s.heap o.0 (parted x)) a.places (record { number = number; items = item ∷ items } ∷ ms) = record {
          object = parted x;
          found = set_here s.heap o.0 x (parted x) member.found;
          exists = exists;
          out = out;
          parted = refl;
          stored = stored_part o x member.found w.stored;
          covered = tt;
          rest = (
            refl,
            from x.cell.access x.cell.home.pool type,
            (
              sym member.home,
              sym member.home,
              inl (
                stays_so,
                record {
                  rooms = w.rooms;
                  holds = w.holds;
                  roomed = w.roomed;
                  fit = sparing_set known.ahead (outers known) s.heap (item ∷ items) o x (parted x) member.found refl (λ at. refl) (part_fit o x member.found w.fit);
                  aside = aside_going known s.heap (item ∷ items) o x (parted x) member.found refl (λ at. refl) a.places w.holds (Some o)
                      (same_unnamed s.heap o x member.found o unnamed (parted x) refl (λ c. refl), unreferred);
                  rest = w.rest;
                },
              ),
            ),
          );
        } in
        rw is (rw (member.found, exists) (rw (member.found) (record {
          ready = (
            tt,
            treats_ready known (Names o) (ends (Leaving number item.number)) (all_tasks types x.cell.access WholeFirst) (Ends (Names o) ∷ GivesBack (Names o) (Leaving number item.number) pool ∷ Leaves mode ∷ k) (slice_set s.heap o.0 (parted x)) a.places a.operands (record { number = number; items = item ∷ items } ∷ ms) (refl, under) tt,
          );
          alters = alters_set s.heap Quiet o x (parted x) member.found (refl, refl, refl) (λ h. h) (λ h. inl h);
          says = tt;
        })))

    roomed_shorter : (item : Item) (items : List Item) (rooms : Rooms) (holds : Holds) → RunsOn known (Leaves mode ∷ k) rooms holds → Roomed (below known) (record { number = number; items = item ∷ items } ∷ ms) rooms → Roomed (below known) (record { number = number; items = items } ∷ ms) rooms
    roomed_shorter item items [] holds runs r = absurd runs
    roomed_shorter item items (gone ∷ rooms) holds runs r = (r.0.1, r.1)

    -- The newest item goes, of which no object is in its collection.
    shorter_fine : (item : Item) (items : List Item) → NamedBelow (outers known) s.heap (record { number = number; items = item ∷ items } ∷ ms) → ((o : Id) (x : Object) → object_at s.heap o ≡ Some x → x.listed ≡ true → x.cell.home.item ≡ item.number → ⊥) → Left_with (item ∷ items) → Stepped known s.heap Quiet (left_with items)
    unfolding left_with Left_with
    shorter_fine item items low none w = stays known Quiet (left_with items) (
      tt,
      record {
        rooms = w.rooms;
        holds = w.holds;
        stored = stored_shorter (record { number = number; items = [] }) item items ms (λ o x under found out home. low.2 o x under found out (rw (eq-eqb item.number x.cell.home.item (sym home)) refl)) (λ o x found listed is home. none o x found listed home) w.stored;
        roomed = roomed_shorter item items w.rooms w.holds w.rest w.roomed;
        fit = sparing_shorter known.ahead item items gone w.fit;
        rest = w.rest;
      },
    ) tt
      where
        by : (o : Id) (x : Object) → object_at s.heap o ≡ Some x → x.out ≡ true → x.cell.home.item ≡ item.number → (x.listed ≡ true) ⊎ IsUnder (outers known).under o → ⊥
        by o x found out home (inl listed) = none o x found listed home
        by o x found out home (inr under) = low.2 o x under found out (rw (eq-eqb item.number x.cell.home.item (sym home)) refl)

        gone : (o : Id) (x : Object) → object_at s.heap o ≡ Some x → is_there x.stage ≡ true → x.out ≡ true → x.cell.home.item ≡ item.number → ⊥
        gone o x found there out home =
            let sane = w.stored.sane o x found in
            by o x found out home (sane.out_listed out)

    -- A variable or a pool is the home of no object.
    has_none : (item : Item) (items : List Item) → HousesNone item.owned → Left_with (item ∷ items) → (o : Id) (x : Object) → object_at s.heap o ≡ Some x → x.listed ≡ true → x.cell.home.item ≡ item.number → ⊥
    unfolding Left_with
    has_none item items none w o x found listed home =
        let sane = w.stored.sane o x found in
        let out = listed_out o x found listed w.stored in
        let type = newest_is x.cell.home.item x.cell.access x.cell.home.pool item (items ++ items_of ms) home w.stored.counted (sane.housed out) in
        none x.cell.access x.cell.home.pool type

    members_fine : (item : Item) (items : List Item) (pool : Option ℕ) (vs : List Value) → HousesFrom item.owned pool → members s.heap item.number ≡ vs → Left_with (item ∷ items) → HeldIn s.heap (record { number = number; items = item ∷ items } ∷ ms) → NamedBelow (outers known) s.heap (record { number = number; items = item ∷ items } ∷ ms) → departs known.ahead (item ∷ items) ≡ false → GoesWell known.program.types s.heap (item ∷ items) → Fine known s.heap (record { number = number; items = item ∷ items } ∷ ms) (members_next named types (Leaving number item.number) pool vs (left_with (item ∷ items)))
    unfolding left_with Left_with
    members_fine item items pool [] owns e w held low stays_so well = shorter_fine item items low (λ o x found listed home. none_is_left item.number s.heap o x e found listed home) w
    members_fine item items pool (v ∷ vs) owns e w held low stays_so well = λ i lt. taken_fine item items pool (slice_index_or (v ∷ vs) i Null) owns w held low stays_so well (rw e at (taken_is item.number s.heap i (rw e lt)))

    item_fine : (item : Item) (items : List Item) (what : Owned) → item.owned ≡ what → Left_with (item ∷ items) → HeldIn s.heap (record { number = number; items = item ∷ items } ∷ ms) → NamedBelow (outers known) s.heap (record { number = number; items = item ∷ items } ∷ ms) → departs known.ahead (item ∷ items) ≡ false → GoesWell known.program.types s.heap (item ∷ items) → Fine known s.heap (record { number = number; items = item ∷ items } ∷ ms) (item_leave_next named types number item what (left_with (item ∷ items)))
    unfolding left_with Left_with
    item_fine item items (declared y) is w held low stays_so well = shorter_fine item items low (has_none item items (λ t own h. rw is at h) w) w
    item_fine item items (storage_pool declaration pool) is w held low stays_so well = shorter_fine item items low (has_none item items (λ t own h. rw is at h) w) w
    item_fine item items (collection access pool) is w held low stays_so well = members_fine item items pool (members s.heap item.number) (λ t own h. (let houses : Houses (collection access pool) t own = rw is at h in houses.1)) refl w held low stays_so well
    item_fine item items (record_object t) is w held low stays_so well = members_fine item items None (members s.heap item.number) (λ u own h. (let houses : Houses (record_object t) u own = rw is at h in houses.1)) refl w held low stays_so well

    -- The master is left.
    gone_ready : (rooms : Rooms) (holds : Holds) → Stored (outers known).under s.heap (record { number = number; items = [] } ∷ ms) → Fit known.program.types known.program.variables (outers known) none_spared s.heap a.places holds → Roomed (below known) (record { number = number; items = [] } ∷ ms) rooms → RunsOn known (Leaves mode ∷ k) rooms holds → ReadyIn known mode k s.heap a.places a.operands ms
    gone_ready [] holds stored fit roomed r = absurd r
    gone_ready (gone ∷ rooms) holds stored fit roomed r =
        goes_ready known mode k s.heap a.places a.operands ms
        (record { rooms = rooms; holds = r.2.0; stored = stored_older (record { number = number; items = [] }) ms stored; roomed = roomed.1; fit = weaker_fit r.2.0 r.2.1 fit; rest = r.2.2 })

    master_fine : (items : List Item) → Left_with items → HeldIn s.heap (record { number = number; items = items } ∷ ms) → NamedBelow (outers known) s.heap (record { number = number; items = items } ∷ ms) → departs known.ahead items ≡ false → GoesWell known.program.types s.heap items → Fine known s.heap (record { number = number; items = items } ∷ ms) (master_leave_next named types mode number items (record (running k a rest s) { masters = record { number = number; items = items } ∷ ms }))
    unfolding left_with Left_with
    master_fine [] w held low stays_so well = stays known (Left number) _ (tt, gone_ready w.rooms w.holds w.stored (sparing_left known.ahead w.fit) w.roomed w.rest) tt
    master_fine (item ∷ items) w held low stays_so well = item_fine item items item.owned refl w held low stays_so well

    pub left_fine : (items : List Item) → Parting known s.heap a.places (record { number = number; items = items } ∷ ms) (RunsOn known (Leaves mode ∷ k)) → HeldIn s.heap (record { number = number; items = items } ∷ ms) → NamedBelow (outers known) s.heap (record { number = number; items = items } ∷ ms) → departs known.ahead items ≡ false → GoesWell known.program.types s.heap items → Fine known s.heap (record { number = number; items = items } ∷ ms) (master_leave_next named types mode number items (record (running k a rest s) { masters = record { number = number; items = items } ∷ ms }))
    unfolding left_with Left_with
    left_fine items w held low stays_so well = master_fine items w held low stays_so well

  pub leave_fine : (types : List TypeDefinition) (mode : Mode) (k : Control) (a : Activation Value) (rest : List (Activation Value)) (s : State) (ms : List Master) → Parting known s.heap a.places ms (RunsOn known (Leaves mode ∷ k)) → HeldIn s.heap ms → NamedBelow (outers known) s.heap ms → departs known.ahead (innermost ms) ≡ false → GoesWell known.program.types s.heap (innermost ms) → Fine known s.heap ms (leave_next named types mode ms (record (running k a rest s) { masters = ms }))
  leave_fine types mode k a rest s [] w held low stays_so well = tt
  leave_fine types mode k a rest s (m ∷ ms) w held low stays_so well = left_fine types mode k a rest s m.number ms m.items w held low stays_so well
