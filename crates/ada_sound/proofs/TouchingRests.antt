-- An operation that touches storage is called for an object whose master is left (7.6.1), for one that a variable or a component names which is freed (13.11.2), for
-- one that a declaration or an allocator creates (7.6), or for one of which a record is assigned to (5.2): what is behind that.

use Rattle.std.proofs.Common.{◌≡◌, ℕ, suc, ◌≤◌, Bool, true, false, List, [], ◌∷◌, ◌++◌, refl, sym, subst, ◌∙◌, ◌⊎◌, inl, inr, slice_set, None, ap, ◌≢◌}
use Rattle.std.specs.Prelude.{Option, Some}
use Rattle.std.specs.List.{slice_get}
use Rattle.ada_program.specs.WellFormed.{is_access}
use Rattle.ada_quiet.specs.Bare.{has_bare_objects}
use Rattle.ada_flow.specs.declared.rule.Hold.{Hold}
use Rattle.ada_flow.specs.declared.rule.Hold.TheVariants as hold
use Rattle.ada_flow.specs.Flow.{Holds, Gone as GoneWith, hold_at, is_among}
use Rattle.ada_meaning.specs.declared.event.Cause.{Cause}
use Rattle.ada_meaning.specs.declared.event.Birth.TheVariants.{Creation}
use Rattle.ada_meaning.specs.declared.event.Cause.TheVariants.{Leaving, Freeing, Assigning, Undoing}
use Rattle.ada_meaning.specs.declared.state.Id.{Id}
use Rattle.ada_meaning.specs.declared.state.Mode.{Mode}
use Rattle.ada_meaning.specs.declared.state.Value.{Value}
use Rattle.ada_meaning.specs.declared.state.Value.TheVariants.{Names, Null, Part, Scalar}
use Rattle.ada_parts.specs.Part as parts
use Rattle.ada_meaning.specs.Frame.{Clears, ClearsIn, Copies, Ends, GivesBack, Leaves, Resumes, ends, begins, Stores, Declares, StoresIn, StoresRecord}
use Rattle.ada_meaning.specs.Law.{items_of}
use Rattle.ada_meaning.specs.State.{Owned, Item, Master, height}
use Rattle.ada_meaning.specs.Named.{Object, object_at, filled, store}
use Rattle.ada_owners.specs.Places.{variable, elsewhere, access_at, access_in, is_there}
use Rattle.ada_owners.specs.Keeping.{IsThere}
use Rattle.ada_owners.specs.Reliance.{Owns, Borrows}
use Rattle.ada_owners.proofs.Changes.{store_is}
use Rattle.ada_owners.proofs.Ends.{IsUnnamed}
use Rattle.ada_owners.proofs.Objects.{at_other, set_here}
use Rattle.ada_scopes.proofs.Homes.{OwnedFits, ItemsFit}
use Rattle.ada_sound.proofs.Calls.{home_low, relied_says, there_low}
use Rattle.ada_sound.proofs.Endings.{among_by}
use Rattle.ada_sound.proofs.Emptying.{lost_fit, lost_unaliased, null_there}
use Rattle.ada_sound.proofs.Touching.{AreAround, AwaitsAmong, Departs, IsNamedNowhere, Enters, Naming, Paused, Releases, Resting, RestsAsOwned, RestsAtEnd, Starting, Watch, ended_object, RestsBy, StoresInto, ended_frees}
use Rattle.ada_sound.proofs.FrugalUseEnds.{any_end}
use Rattle.ada_sound.proofs.Held.{FreeIf, emptied_hand, lost_hand, owner_or_not, unnamed_hand}
use Rattle.ada_effects.specs.Effects.{endings_free, Implicit, assignment_frees}
use Rattle.ada_sound.proofs.Fits.{Fit, IsOwnedOutside, IsRelied, IsUnreferred, Outsiders, behind_all, component_access, hold_in, none_spared, lies_nowhere, outer_hold, outer_value_at, respare, place_at, sparing, stacked, store_owner, there_by, IsReferred, Reference}
use Rattle.ada_sound.proofs.Invariant.{SparesHolder, Behind, CopiesBehind, Control, Ending, EndingBy, EndsTo, Freed, IsCopied, IsNewest, Known, LeavesTo, LiesBelow, NamesLow, OneAwaits, departs, departs_next, Roomed, Rooms, RunsOn, ThenBack, TreatsBy, WillBeCovered, below, innermost, outers, Beginning, CameOut, ResumesTo, BeginsWell, To, By, ways, gone_in, LiesAmong, LiesIn, StoresBehind, ClearsTo, FreesWell, IsCovered, EndsWellBy, AwaitsIn, GoesTo, Making}
use Rattle.ada_sound.proofs.NoneHidden.{set_itself}
use Rattle.ada_sound.proofs.Objects.{set_twice}
use Rattle.ada_sound.proofs.Items.{Counted, HasItem, Houses, newest_is}
use Rattle.ada_sound.proofs.Stored.{IsUnder, Stored}
use Rattle.ada_meaning.specs.Heap.{Home}
use Rattle.ada_finalized.specs.Law.{NothingBegins}
use Rattle.ada_meaning.specs.Step.{first_or}
use Rattle.ada_parts.specs.Task.{Task}

-- A finalization ends its object, unless it is one at an assignment.
abbrev pub IsEnd : Cause → Type 0
IsEnd (Leaving m item) = Unit {0}
IsEnd (Freeing number) = Unit {0}
IsEnd (Assigning number) = ⊥
IsEnd (Undoing number) = Unit {0}

-- What is behind the end of an object, by who owns it, is behind its finalization, whatever ends it.
rests_as_owned : (known : Known) (cause : Cause) → IsEnd cause → (held : Bool) (watch : Option Watch) (o : Id) (access : ℕ) (home : Home) (places operands : List Value) (after : Control) (lower : List Master) (rooms : Rooms) (holds : Holds)
    → RestsAsOwned known held watch o access home places after lower rooms holds → RestsBy known cause held watch o access home places operands [] after lower rooms holds
rests_as_owned known (Leaving m item) end held watch o access home places operands after lower rooms holds r = (refl, r)
rests_as_owned known (Freeing number) end held watch o access home places operands after lower rooms holds r = (refl, r)
rests_as_owned known (Assigning number) end held watch o access home places operands after lower rooms holds r = absurd end
rests_as_owned known (Undoing number) end held watch o access home places operands after lower rooms holds r = (refl, r)

-- So it is where the object is held.
rests_at_end : (known : Known) (cause : Cause) → IsEnd cause → (o : Id) (access : ℕ) (home : Home) (places operands : List Value) (after : Control) (lower : List Master) (rooms : Rooms) (holds : Holds)
    → RestsAtEnd known o access home places after lower rooms holds → RestsBy known cause true None o access home places operands [] after lower rooms holds
rests_at_end known cause end o access home places operands after lower rooms holds r =
    rests_as_owned known cause end true None o access home places operands after lower rooms holds (inl (refl, r))

stored_at_end : (cause : Cause) → IsEnd cause → (o : Id) (under : List Id) (heap : List Object) (masters : List Master) → Stored (o ∷ under) heap masters → Stored (ended_object cause o ++ under) heap masters
stored_at_end (Leaving m item) end o under heap masters stored = stored
stored_at_end (Freeing number) end o under heap masters stored = stored
stored_at_end (Assigning number) end o under heap masters stored = absurd end
stored_at_end (Undoing number) end o under heap masters stored = stored

frees_at_end : (implicit : Implicit) (cause : Cause) → IsEnd cause → (access : ℕ) (k : Control) (t : ℕ) → ended_frees implicit cause access k t ≡ true → implicit.end_frees access t ≡ true
frees_at_end implicit (Leaving m item) end access k t is = is
frees_at_end implicit (Freeing number) end access k t is = is
frees_at_end implicit (Assigning number) end access k t is = absurd end
frees_at_end implicit (Undoing number) end access k t is = is

-- What is relied on to name an object owns it or borrows it.
relied_apart : (h : Hold) → IsRelied h → Owns h ⊎ Borrows h
relied_apart hold.Null r = absurd r
relied_apart (hold.Kept q) r = inl tt
relied_apart (hold.Own q) r = inl tt
relied_apart (hold.Alias q) r = inr tt
relied_apart hold.Lost r = absurd r

named_nowhere : (outer : Outsiders) (spared : Id → Bool) (heap : List Object) (places : List Value) (holds : Holds) (o : Id) → IsUnnamed heap (stacked places outer) (hold_in outer spared holds) o → IsNamedNowhere outer places holds o
named_nowhere outer spared heap places holds o none = record {
  here = λ x relied names. elim (relied_apart (hold_at holds x) relied) [ inl own ↦ none.unowned (variable x) own names | inr b ↦ none.unborrowed (variable x) b names ];
  elsewhere = λ d x relied names. (
      let at = outer_value_at heap places outer d x ∙ names in
      elim (relied_apart (outer_hold (slice_get outer.suspended d) x) relied) [ inl own ↦ none.unowned (elsewhere d x) own at | inr b ↦ none.unborrowed (elsewhere d x) b at ]
      );
}

-- A component that gets the value again that it had before it was null is as it was.
filled_again : (x : Object) (c : ℕ) (v : Value) → slice_get x.cell.values c ≡ Some v → filled c v (filled c Null x) ≡ x
filled_again x c v at =
    ap (λ (values : List Value). record x { cell = record (x.cell) { values = values } }) (set_twice x.cell.values c Null v ∙ set_itself x.cell.values c v at)

-- So are the objects.
stored_again : (heap : List Object) (p : Id) (x : Object) (c : ℕ) (v : Value) → object_at heap p ≡ Some x → slice_get x.cell.values c ≡ Some v
    → store (store heap (Names p) c Null) (Names p) c v ≡ heap
stored_again heap p x c v found at =
    ap (λ (objects : List Object). store objects (Names p) c v) (store_is heap p x found c Null)
    ∙ (store_is (slice_set heap p.0 (filled c Null x)) p (filled c Null x) (set_here heap p.0 x (filled c Null x) found) c v
    ∙ (set_twice heap p.0 (filled c Null x) (filled c v (filled c Null x))
    ∙ (ap (λ (y : Object). slice_set heap p.0 y) (filled_again x c v at) ∙ set_itself heap p.0 x found)))

-- What a variable is relied on to name is there.
pub named_there : (known : Known) (heap : List Object) (places : List Value) {spared : Id → Bool} (holds : Holds) → Fit known.program.types known.program.variables (outers known) spared heap places holds
    → (y : ℕ) (p : Id) → IsRelied (hold_at holds y) → place_at places y ≡ Names p → IsThere heap p
named_there known heap places holds fit y p relied names = there_by heap _ p (relied_says heap (hold_at holds y) _ p relied (fit.owners.fit.relied (variable y) p names))

-- Components are stored in a record of an object next (5.2).
pub record IsStoredIn (v : Value) (k : Control) : Type 0 where
  pub to : ℕ
  pub width : ℕ
  pub rest : Control
  pub is : k ≡ StoresRecord v to width ∷ rest

-- What is there lies in these masters, where what has departed has an operation around it.
module _ (known : Known) (heap : List Object) (places : List Value) (masters : List Master) {under : List Id} (stored : Stored under heap masters) (around : AreAround heap (OneAwaits known.callers)) where
  pub there_lies : (p : Id) → IsThere heap p → LiesBelow heap (height masters) (OneAwaits known.callers) p
  there_lies p there = there_low heap masters (OneAwaits known.callers) p stored there (λ y gone. inr (around p y gone))

  -- So does what a variable is relied on to name,
  pub names_lie : {spared : Id → Bool} (holds : Holds) → Fit known.program.types known.program.variables (outers known) spared heap places holds
      → (y : ℕ) (p : Id) → IsRelied (hold_at holds y) → place_at places y ≡ Names p → LiesBelow heap (height masters) (OneAwaits known.callers) p
  names_lie holds fit y p relied names = there_lies p (named_there known heap places holds fit y p relied names)

  -- and what is referred to.
  pub referred_lie : (also : List Reference) → ((p : Id) (t : ℕ) → IsReferred also p t → access_at heap p ≡ Some t)
      → (p : Id) (t : ℕ) → IsReferred also p t → LiesBelow heap (height masters) (OneAwaits known.callers) p
  referred_lie also there p t is = there_lies p (there_by heap (Some t) p (there p t is))

module _ (known : Known) (under : List Id) (heap : List Object) (o : Id) (x : Object) (found : object_at heap o ≡ Some x) (out : x.out ≡ true) (ahead : (owned : Owned) → Houses owned x.cell.access x.cell.home.pool → OwnedFits known.program.types owned → known.ahead owned ≡ true) (m : Master) (ms : List Master) (stored : Stored under heap (m ∷ ms)) (fits : ItemsFit known.program.types (items_of (m ∷ ms))) where
  -- The newest item is the home of the object, so it is of a type that the master may own; and for its objects such an operation may be called.
  newest_houses : (i : Item) (is : List Item) → m.items ≡ i ∷ is → i.number ≡ x.cell.home.item → Houses i.owned x.cell.access x.cell.home.pool
  newest_houses i is at same =
      newest_is x.cell.home.item x.cell.access x.cell.home.pool i (is ++ items_of ms) (sym same)
      (subst (λ (items : List Item). Counted (items ++ items_of ms)) at stored.counted)
      (subst (λ (items : List Item). HasItem x.cell.home.item x.cell.access x.cell.home.pool (items ++ items_of ms)) at ((stored.sane o x found).housed out))

  left_by : (is : List Item) → m.items ≡ is → IsNewest x.cell.home.item is → behind_all known.ahead is ≡ []
  left_by [] at newest = absurd newest
  left_by (i ∷ is) at newest =
      rw (ahead i.owned (newest_houses i is at newest) (subst (λ (items : List Item). ItemsFit known.program.types (items ++ items_of ms)) at fits).0) refl

  among_gone : (below : List Master) (gone : GoneWith) (rooms : Rooms) → Roomed below (m ∷ ms) (gone ∷ rooms) → (is : List Item) → m.items ≡ is → IsNewest x.cell.home.item is → is_among gone.types (Some x.cell.access) ≡ true
  among_gone below gone rooms roomed [] at newest = absurd newest
  among_gone below gone rooms roomed (i ∷ is) at newest =
      among_by i.owned x.cell.access x.cell.home.pool gone.types (newest_houses i is at newest) (rw at at (roomed.0)).0

module _ (known : Known) (o : Id) (x : Object) (heap : List Object) (found : object_at heap o ≡ Some x) (is_of : access_at heap o ≡ Some x.cell.access) (places operands : List Value) (masters : List Master) (not_bare : has_bare_objects known.program.types x.cell.access ≡ false) (fits : ItemsFit known.program.types (items_of masters)) where
  -- An object lies in these masters, or an operation runs around it, and it has gone with its collection.
  abbrev Lies : Id → Type 0
  Lies p = LiesBelow heap (height masters) (OneAwaits known.callers) p

  -- Where something has gone so, that is around it.
  abbrev Around : Type 0
  Around = AreAround heap (OneAwaits known.callers)

  -- The object is there.
  object_there : IsThere heap o
  object_there = there_by heap (Some x.cell.access) o is_of

  -- Where its words are out, it lies in these masters: so it is where it ends.
  out_low : {under : List Id} → Stored under heap masters → x.out ≡ true → suc x.cell.home.item ≤ height masters
  out_low stored out = home_low heap masters o stored x found out

  out_lies : {under : List Id} → Stored under heap masters → x.out ≡ true → Lies o
  out_lies stored out = (x, found, inl (out_low stored out))

  ended_low : {under : List Id} → Stored under heap masters → x.out ≡ true → (cause : Cause) (p : Id) → IsUnder (ended_object cause o) p
      → (object : Object) × (object_at heap p ≡ Some object) × (suc object.cell.home.item ≤ height masters)
  ended_low stored out (Leaving m item) p (inl same) = rw (← same) (x, found, out_low stored out)
  ended_low stored out (Leaving m item) p (inr none) = absurd none
  ended_low stored out (Freeing number) p (inl same) = rw (← same) (x, found, out_low stored out)
  ended_low stored out (Freeing number) p (inr none) = absurd none
  ended_low stored out (Assigning number) p none = absurd none
  ended_low stored out (Undoing number) p (inl same) = rw (← same) (x, found, out_low stored out)
  ended_low stored out (Undoing number) p (inr none) = absurd none

  -- No other object is referred to.
  none_lie : (p : Id) (t : ℕ) → IsReferred [] p t → Lies p
  none_lie p t none = absurd none

  none_others : (p : Id) (t : ℕ) → IsReferred [] p t → access_at heap p ≡ Some t
  none_others p t none = absurd none

  none_kept : (may : ℕ → Bool) (p : Id) (t : ℕ) → IsReferred [] p t → may t ≡ true → is_access known.program.types t ≡ true → IsOwnedOutside (outers known) p
  none_kept may p t none freed access = absurd none

  -- One is.
  one_other : (source : Reference) → access_at heap source.object ≡ Some source.access → (p : Id) (t : ℕ) → IsReferred (source ∷ []) p t → access_at heap p ≡ Some t
  one_other source there p t (inl (same, one)) = rw (← same, ← one) there
  one_other source there p t (inr none) = absurd none

  -- The master is left: the home of the object is the newest item, and one for whose objects such an operation may be called.
  module _ (ahead : (owned : Owned) → Houses owned x.cell.access x.cell.home.pool → OwnedFits known.program.types owned → known.ahead owned ≡ true) (mode : Mode) (rest : Control) (master : ℕ) (newest : IsNewest x.cell.home.item (innermost masters)) (untreated : NothingBegins (Names o) rest) (stored : Stored (o ∷ (outers known).under) heap masters) (out : x.out ≡ true) where
    left_over : (ms : List Master) → masters ≡ ms → behind_all known.ahead (innermost ms) ≡ []
    left_over [] at = absurd (rw at at newest)
    left_over (m ∷ ms) at = left_by known (o ∷ (outers known).under) heap o x found out ahead m ms (rw at at stored) (rw at at fits) m.items refl (rw at at newest)

    left : behind_all known.ahead (innermost masters) ≡ []
    left = left_over masters refl

    among_by_rooms : (gone : GoneWith) (inner : Rooms) (ms : List Master) → masters ≡ ms → Roomed (below known) ms (gone ∷ inner) → is_among gone.types (Some x.cell.access) ≡ true
    among_by_rooms gone inner [] at roomed = absurd (rw at at newest)
    among_by_rooms gone inner (m ∷ ms) at roomed = among_gone known (o ∷ (outers known).under) heap o x found out ahead m ms (rw at at stored) (rw at at fits) (below known) gone inner roomed m.items refl (rw at at newest)

    -- What is left of the master behind the end of the object.
    abbrev behind_it : Control
    behind_it = Ends (Names o) ∷ GivesBack (Names o) (Leaving master x.cell.home.item) x.cell.home.pool ∷ Leaves mode ∷ rest

    -- Nothing is relied on to name the object.
    module _ (stays_so : departs known.ahead (innermost masters) ≡ false) (around : Around) (r : Freed known (Some o) (sparing known.ahead heap (innermost masters)) heap places masters (RunsOn known (Leaves mode ∷ rest))) where
      resting_here : Resting known o x.cell.home places behind_it masters r.rooms r.holds
      resting_here = record {
        master = master;
        item = x.cell.home.item;
        mode = mode;
        rest = rest;
        is = refl;
        own_item = refl;
        newest = newest;
        stays_so = stays_so;
        runs = r.rest;
        nowhere = named_nowhere (outers known) (sparing known.ahead heap (innermost masters)) heap places r.holds o r.aside.0;
        unreferred = r.aside.1;
        untreated = untreated;
      }

      paused_here : Paused known o x.cell.access places behind_it masters r.rooms r.holds
      paused_here = record {
        parted = not_bare;
        roomed = r.roomed;
        said = r.fit.said;
        objects = r.fit.objects;
      }

      by_rooms : (cause : Cause) → IsEnd cause → (rooms : Rooms) → r.rooms ≡ rooms → Roomed (below known) masters rooms → RunsOn known (Leaves mode ∷ rest) rooms r.holds → Enters known (ends cause) o x behind_it heap places operands masters
      by_rooms cause end [] is roomed runs = absurd runs
      by_rooms cause end (gone ∷ inner) is roomed runs = record {
        rooms = r.rooms;
        holds = r.holds;
        also = [];
        there = none_others;
        waits = paused_here;
        held = true;
        hand = unnamed_hand (outers known) heap o x.cell.access is_of (sparing known.ahead heap (innermost masters)) places r.holds (λ k. rw left (sym (lies_nowhere (object_at heap k)))) r.aside.0;
        watch = None;
        spared = tt;
        rests = rests_at_end known cause end o x.cell.access x.cell.home places operands behind_it masters r.rooms r.holds (inl resting_here);
        fit = respare (sparing known.ahead heap (innermost masters)) none_spared (λ k c p e. rw left (lies_nowhere (object_at heap k))) r.fit;
        stored = stored_at_end cause end o (outers known).under heap masters stored;
        may = endings_free known.implicit gone.types;
        includes = λ t is. any_end (λ u. known.implicit.end_frees u t) x.cell.access gone.types (among_by_rooms gone inner masters refl roomed) (frees_at_end known.implicit cause end x.cell.access behind_it t is);
        spares = runs.1.0;
        unaliased = runs.1.1;
        kept = none_kept (endings_free known.implicit gone.types);
        low = names_lie known heap places masters stored around r.holds r.fit;
        lies = out_lies stored out;
        others_low = none_lie;
        under_low = ended_low stored out cause;
      }

      at_rest_here : (cause : Cause) → IsEnd cause → Enters known (ends cause) o x behind_it heap places operands masters
      at_rest_here cause end = by_rooms cause end r.rooms refl r.roomed r.rest

    -- The object goes with its collection, up to one for whose objects such operations may be called: components may name it.
    module _ (going : departs known.ahead (innermost masters) ≡ true) (unreferred : IsUnreferred (outers known) o)
        (r : Freed known None (sparing known.ahead heap (innermost masters)) heap places masters (λ rooms holds. RunsOn known (Leaves mode ∷ rest) rooms holds × NamesLow heap places masters holds)) where
      -- What a variable is relied on to name is in an item of these masters.
      names_low : (y : ℕ) (p : Id) → IsRelied (hold_at r.holds y) → place_at places y ≡ Names p → Lies p
      names_low y p relied names =
          let there = named_there known heap places r.holds r.fit y p relied names in
          (there.0, there.1, inl (r.rest.1 y p there.0 relied names there.1))

      departs_here : Departs known o x.cell.home behind_it masters r.rooms r.holds
      departs_here = record {
        master = master;
        item = x.cell.home.item;
        mode = mode;
        rest = rest;
        is = refl;
        own_item = refl;
        newest = newest;
        departs_so = going;
        runs = r.rest.0;
        unreferred = unreferred;
        untreated = untreated;
      }

      departing_by_rooms : (cause : Cause) → IsEnd cause → (rooms : Rooms) → r.rooms ≡ rooms → Roomed (below known) masters rooms → RunsOn known (Leaves mode ∷ rest) rooms r.holds → Enters known (ends cause) o x behind_it heap places operands masters
      departing_by_rooms cause end [] is roomed runs = absurd runs
      departing_by_rooms cause end (gone ∷ inner) is roomed runs = record {
        rooms = r.rooms;
        holds = r.holds;
        also = [];
        there = none_others;
        waits = record {
          parted = not_bare;
          roomed = r.roomed;
          said = r.fit.said;
          objects = r.fit.objects;
        };
        held = false;
        hand = tt;
        watch = None;
        spared = tt;
        rests = rests_as_owned known cause end false None o x.cell.access x.cell.home places operands behind_it masters r.rooms r.holds (inr (inr (refl, departs_here)));
        fit = respare (sparing known.ahead heap (innermost masters)) none_spared (λ k c p e. rw left (lies_nowhere (object_at heap k))) r.fit;
        stored = stored_at_end cause end o (outers known).under heap masters stored;
        may = endings_free known.implicit gone.types;
        includes = λ t is. any_end (λ u. known.implicit.end_frees u t) x.cell.access gone.types (among_by_rooms gone inner masters refl roomed) (frees_at_end known.implicit cause end x.cell.access behind_it t is);
        spares = runs.1.0;
        unaliased = runs.1.1;
        kept = none_kept (endings_free known.implicit gone.types);
        low = names_low;
        lies = out_lies stored out;
        others_low = none_lie;
        under_low = ended_low stored out cause;
      }

      departing_here : (cause : Cause) → IsEnd cause → Enters known (ends cause) o x behind_it heap places operands masters
      departing_here cause end = departing_by_rooms cause end r.rooms refl r.roomed r.rest.0

  -- In a program in which operations may touch storage, an object with controlled parts ends where its master is left, where a variable or a component is freed that
  -- names it, and where an exception comes out of its initialization: it does not count as gone already.
  module _ (ahead : (owned : Owned) → Houses owned x.cell.access x.cell.home.pool → OwnedFits known.program.types owned → known.ahead owned ≡ true)
      (touches : known.touches x.cell.access ≡ true)
      (starts : (access t : ℕ) → known.implicit.end_frees access t ≡ true → known.implicit.start_frees access t ≡ true) (way : Cause) (end : IsEnd way) where
    leaving : (m item : ℕ) (pool : Option ℕ) (k : Control) → item ≡ x.cell.home.item → pool ≡ x.cell.home.pool → IsNewest x.cell.home.item (innermost masters) → Stored (o ∷ (outers known).under) heap masters → x.out ≡ true → NothingBegins (Names o) k → (departs known.ahead (innermost masters) ≡ false → Around) → LeavesTo known (Some o) heap places masters k → Enters known (ends way) o x (Ends (Names o) ∷ GivesBack (Names o) (Leaving m item) pool ∷ k) heap places operands masters
    leaving m item pool [] own from newest stored out untreated around r = absurd r
    leaving m item pool (Leaves mode ∷ rest) own from newest stored out untreated around (inl (stays_so, r)) = rw (own, from) (at_rest_here ahead mode rest m newest untreated stored out stays_so (around stays_so) r way end)
    leaving m item pool (Leaves mode ∷ rest) own from newest stored out untreated around (inr (going, unreferred, r)) = rw (own, from) (departing_here ahead mode rest m newest untreated stored out going unreferred r way end)
    leaving m item pool (f ∷ k) own from newest stored out untreated around r = absurd r

    undone : (number : ℕ) (mode : Mode) (rest : Control) → NothingBegins (Names o) rest → Stored (o ∷ (outers known).under) heap masters → x.out ≡ true → Around → CameOut known x.cell.access mode
        → Freed known (Some o) none_spared heap places masters (λ rooms holds. To (By mode (ways known rest rooms)) holds × BeginsWell known x.cell.access holds)
        → Enters known (ends way) o x (Ends (Names o) ∷ GivesBack (Names o) (Undoing number) x.cell.home.pool ∷ Resumes mode ∷ rest) heap places operands masters
    undone number mode rest untreated stored out around came r = record {
      rooms = r.rooms;
      holds = r.holds;
      also = [];
      there = none_others;
      waits = record {
        parted = not_bare;
        roomed = r.roomed;
        said = r.fit.said;
        objects = r.fit.objects;
      };
      held = true;
      hand = unnamed_hand (outers known) heap o x.cell.access is_of none_spared places r.holds (λ k. refl) r.aside.0;
      watch = None;
      spared = tt;
      rests = rests_at_end known way end o x.cell.access x.cell.home places operands (Ends (Names o) ∷ GivesBack (Names o) (Undoing number) x.cell.home.pool ∷ Resumes mode ∷ rest) masters r.rooms r.holds (inr (inl (record {
        number = number;
        mode = mode;
        rest = rest;
        is = refl;
        came = came;
        runs = r.rest.0;
        well = r.rest.1;
        nowhere = named_nowhere (outers known) none_spared heap places r.holds o r.aside.0;
        unreferred = r.aside.1;
        untreated = untreated;
      })));
      fit = r.fit;
      stored = stored_at_end way end o (outers known).under heap masters stored;
      may = known.implicit.start_frees x.cell.access;
      includes = λ t is. starts x.cell.access t (frees_at_end known.implicit way end x.cell.access (Ends (Names o) ∷ GivesBack (Names o) (Undoing number) x.cell.home.pool ∷ Resumes mode ∷ rest) t is);
      spares = r.rest.1.0;
      unaliased = r.rest.1.1;
      kept = none_kept (known.implicit.start_frees x.cell.access);
      low = names_lie known heap places masters stored around r.holds r.fit;
      lies = out_lies stored out;
      others_low = none_lie;
      under_low = ended_low stored out way;
    }

    undoing : (number : ℕ) (pool : Option ℕ) (k : Control) → pool ≡ x.cell.home.pool → NothingBegins (Names o) k → Stored (o ∷ (outers known).under) heap masters → x.out ≡ true → Around → ResumesTo known (Some o) heap places masters k
        → Enters known (ends way) o x (Ends (Names o) ∷ GivesBack (Names o) (Undoing number) pool ∷ k) heap places operands masters
    undoing number pool [] from untreated stored out around r = absurd r
    undoing number pool (Resumes mode ∷ rest) from untreated stored out around (access, (y, at, of, back), came, r) =
        let one : y ≡ x = cc (at, found) in
        let same : access ≡ x.cell.access = sym of ∙ ap (λ (z : Object). z.cell.access) one in
        by same came r
      where
        by : access ≡ x.cell.access → CameOut known access mode
            → (((known.touches access ≡ false) × Freed known None none_spared (gone_in (Some o) heap) places masters (λ rooms holds. To (By mode (ways known rest rooms)) holds))
            ⊎ Freed known (Some o) none_spared heap places masters (λ rooms holds. To (By mode (ways known rest rooms)) holds × BeginsWell known access holds))
            → Enters known (ends way) o x (Ends (Names o) ∷ GivesBack (Names o) (Undoing number) pool ∷ Resumes mode ∷ rest) heap places operands masters
        by same came' (inl (none, freed)) = let untouched : known.touches x.cell.access ≡ false = rw same at none in absurd (cc (untouched, touches))
        by same came' (inr freed) = rw from (undone number mode rest untreated stored out around (rw same at came') (rw same at freed))
    undoing number pool (f ∷ k) from untreated stored out around r = absurd r

    -- A variable is freed that names it.
    emptying : (number y : ℕ) (k : Control) → IsCovered known.implicit known.program (Freeing number) x.cell.access → NothingBegins (Names o) k → Stored (o ∷ (outers known).under) heap masters → x.out ≡ true → Around
        → Freed known (Some o) none_spared heap (slice_set places y Null) masters (λ rooms holds. RunsOn known k rooms holds × FreesWell known heap (Some o) holds)
        → Enters known (ends way) o x (Ends (Names o) ∷ GivesBack (Names o) (Freeing number) x.cell.home.pool ∷ Clears y ∷ k) heap places operands masters
    emptying number y k covered untreated stored out around r =
        let well = r.rest.1 x found in
        let fit = lost_fit y r.fit in
        record {
          rooms = r.rooms;
          holds = slice_set r.holds y hold.Lost;
          also = [];
          there = none_others;
          waits = record {
            parted = not_bare;
            roomed = r.roomed;
            said = fit.said;
            objects = fit.objects;
          };
          held = true;
          hand = emptied_hand (outers known) heap o x.cell.access is_of places r.holds y r.aside.0;
          watch = None;
          spared = tt;
          rests = rests_at_end known way end o x.cell.access x.cell.home places operands (Ends (Names o) ∷ GivesBack (Names o) (Freeing number) x.cell.home.pool ∷ Clears y ∷ k) masters r.rooms (slice_set r.holds y hold.Lost) (inr (inr (record {
            number = number;
            x = y;
            rest = k;
            before = r.holds;
            is = refl;
            lost = refl;
            runs = r.rest.0;
            well = well;
            covered = covered;
            said = rw (null_there places y) at (r.fit.said y);
            fits = λ ne. rw (null_there places y) at (r.fit.objects y ne);
            nowhere = named_nowhere (outers known) none_spared heap (slice_set places y Null) r.holds o r.aside.0;
            unreferred = r.aside.1;
            untreated = untreated;
          })));
          fit = fit;
          stored = stored_at_end way end o (outers known).under heap masters stored;
          may = known.implicit.end_frees x.cell.access;
          includes = λ t is. frees_at_end known.implicit way end x.cell.access (Ends (Names o) ∷ GivesBack (Names o) (Freeing number) x.cell.home.pool ∷ Clears y ∷ k) t is;
          spares = well.0;
          unaliased = lost_unaliased known.program.variables (known.implicit.end_frees x.cell.access) r.holds y well.1;
          kept = none_kept (known.implicit.end_frees x.cell.access);
          low = names_lie known heap places masters stored around (slice_set r.holds y hold.Lost) fit;
          lies = out_lies stored out;
          others_low = none_lie;
          under_low = ended_low stored out way;
        }

    -- A component is freed that names it, of another object, which operations leave alone that touch storage: the component owns it still.
    module _ (number : ℕ) (p : Id) (c : ℕ) (k : Control) (covered : IsCovered known.implicit known.program (Freeing number) x.cell.access) (untreated : NothingBegins (Names o) k) (stored : Stored (o ∷ (outers known).under) heap masters) (out : x.out ≡ true) (around : Around)
        (other : p ≢ o) (holder : Object) (at : object_at heap p ≡ Some holder) (there : is_there holder.stage ≡ true) (of_type : component_access known.program.types holder c ≡ Some x.cell.access) (names : slice_get holder.cell.values c ≡ Some (Names o))
        (spared_holder : SparesHolder known x.cell.access holder.cell.access)
        (r : Freed known (Some o) none_spared (store heap (Names p) c Null) places masters (λ rooms holds. RunsOn known k rooms holds × FreesWell known heap (Some o) holds)) where
      -- What is left behind the end of the object.
      abbrev behind_release : Control
      behind_release = Ends (Names o) ∷ GivesBack (Names o) (Freeing number) x.cell.home.pool ∷ ClearsIn (Names p) c ∷ k

      -- The holder, once the component is null.
      cleared : object_at (store heap (Names p) c Null) p ≡ Some (filled c Null holder)
      cleared = rw (store_is heap p holder at c Null) (set_here heap p.0 holder (filled c Null holder) at)

      -- The object is there then.
      still_of : access_at (store heap (Names p) c Null) o ≡ Some x.cell.access
      still_of = rw (store_is heap p holder at c Null) (ap access_in (at_other heap p o (filled c Null holder) (λ same. other (sym same))) ∙ is_of)

      -- So the component can own it again, as it does.
      fit_before : Fit known.program.types known.program.variables (outers known) none_spared heap places r.holds
      fit_before =
          subst (λ (objects : List Object). Fit known.program.types known.program.variables (outers known) none_spared objects places r.holds) (stored_again heap p holder c (Names o) at names)
          (store_owner p (filled c Null holder) c (Names o) cleared there (rw of_type (unnamed_hand (outers known) (store heap (Names p) c Null) o x.cell.access still_of none_spared places r.holds (λ q. refl) r.aside.0)) r.fit)

      -- Of what its end may free, nothing else has an alias.
      well_here : EndsWellBy known x.cell.access r.holds
      well_here = r.rest.1 x found

      -- The holder is watched.
      abbrev watched_here : Watch
      watched_here = record { holder = p; is = holder }

      -- What is behind it is known.
      releases_here : Releases known (Some watched_here) o x.cell.access x.cell.home places behind_release r.rooms r.holds
      releases_here = record {
        number = number;
        c = c;
        rest = k;
        w = watched_here;
        watched = refl;
        is = refl;
        other = other;
        there = there;
        of_type = of_type;
        names = names;
        spared = spared_holder;
        runs = r.rest.0;
        well = well_here;
        covered = covered;
        nowhere = named_nowhere (outers known) none_spared (store heap (Names p) c Null) places r.holds o r.aside.0;
        unreferred = r.aside.1;
        untreated = untreated;
      }

      -- So its finalization may call such an operation.
      released_here : Enters known (ends way) o x behind_release heap places operands masters
      released_here = record {
        rooms = r.rooms;
        holds = r.holds;
        also = [];
        there = none_others;
        waits = record {
          parted = not_bare;
          roomed = r.roomed;
          said = r.fit.said;
          objects = r.fit.objects;
        };
        held = false;
        hand = tt;
        watch = Some watched_here;
        spared = (at, there, other, spared_holder);
        rests = rests_as_owned known way end false (Some watched_here) o x.cell.access x.cell.home places operands behind_release masters r.rooms r.holds (inr (inl releases_here));
        fit = fit_before;
        stored = stored_at_end way end o (outers known).under heap masters stored;
        may = known.implicit.end_frees x.cell.access;
        includes = λ t is. frees_at_end known.implicit way end x.cell.access behind_release t is;
        spares = well_here.0;
        unaliased = well_here.1;
        kept = none_kept (known.implicit.end_frees x.cell.access);
        low = names_lie known heap places masters stored around r.holds fit_before;
        lies = out_lies stored out;
        others_low = none_lie;
        under_low = ended_low stored out way;
      }

    -- So it is, whatever leads to the component.
    releasing : (number : ℕ) (v : Value) (c : ℕ) (k : Control) → IsCovered known.implicit known.program (Freeing number) x.cell.access → NothingBegins (Names o) k → Stored (o ∷ (outers known).under) heap masters → x.out ≡ true → Around → ClearsTo known (Some o) heap places masters (ClearsIn v c ∷ k)
        → Enters known (ends way) o x (Ends (Names o) ∷ GivesBack (Names o) (Freeing number) x.cell.home.pool ∷ ClearsIn v c ∷ k) heap places operands masters
    releasing number Null c k covered untreated stored out around r = absurd r.2
    releasing number (Names p) c k covered untreated stored out around ((y, at_y, there), other, (holder, object, at, found', of_type, names, spared), r) =
        let same : y ≡ holder = cc (at_y, at) in
        let one : object ≡ x = cc (found', found) in
        released_here number p c k covered untreated stored out around (λ is. other (ap Names is)) holder at (rw same at there) (rw one at of_type) names
        (rw one at spared) r
    releasing number (Scalar n) c k covered untreated stored out around r = absurd r.2
    releasing number (Part p place) c k covered untreated stored out around r = absurd r.2

    freeing : (number : ℕ) (pool : Option ℕ) (k : Control) → pool ≡ x.cell.home.pool → IsCovered known.implicit known.program (Freeing number) x.cell.access → NothingBegins (Names o) k → Stored (o ∷ (outers known).under) heap masters → x.out ≡ true → Around → ClearsTo known (Some o) heap places masters k
        → Enters known (ends way) o x (Ends (Names o) ∷ GivesBack (Names o) (Freeing number) pool ∷ k) heap places operands masters
    freeing number pool [] from covered untreated stored out around r = absurd r
    freeing number pool (Clears y ∷ k) from covered untreated stored out around r = rw from (emptying number y k covered untreated stored out around r)
    freeing number pool (ClearsIn v c ∷ k) from covered untreated stored out around r = rw from (releasing number v c k covered untreated stored out around r)
    freeing number pool (f ∷ k) from covered untreated stored out around r = absurd r

    by_cause : (cause : Cause) (pool : Option ℕ) (k : Control) → pool ≡ x.cell.home.pool → WillBeCovered known.implicit known.program x.cell.access (GivesBack (Names o) cause pool ∷ k) → Stored (o ∷ (outers known).under) heap masters → x.out ≡ true → NothingBegins (Names o) k → (departs_next (departs known.ahead (innermost masters)) (Ends (Names o) ∷ GivesBack (Names o) cause pool ∷ k) ≡ false → Around) → Behind known cause (Some o) x.cell.home.item heap places masters k → Enters known (ends way) o x (Ends (Names o) ∷ GivesBack (Names o) cause pool ∷ k) heap places operands masters
    by_cause (Leaving m item) pool k from covered stored out untreated around b = leaving m item pool k b.0 from b.1 stored out untreated around b.2
    by_cause (Freeing number) pool k from covered stored out untreated around b = freeing number pool k from covered untreated stored out (around refl) b
    by_cause (Assigning number) pool k from covered stored out untreated around b = absurd b
    by_cause (Undoing number) pool k from covered stored out untreated around b = undoing number pool k from untreated stored out (around refl) b

    back : (k : Control) (e : Ending known o k heap places masters) → e.object ≡ x → NothingBegins (Names o) k → (departs_next (departs known.ahead (innermost masters)) (Ends (Names o) ∷ k) ≡ false → Around) → ThenBack known o x.cell.home heap places masters k → Enters known (ends way) o x (Ends (Names o) ∷ k) heap places operands masters
    back [] e one untreated around b = absurd b
    back (GivesBack (Names p) cause pool ∷ k) e one untreated around b =
        let same = b.0 in
        rw same (by_cause cause pool k b.1 (rw one at e.covered) e.stored (rw one at e.out) untreated around b.2)
    back (f ∷ k) e one untreated around b = absurd b

    ending_of : (w : Value) (k : Control) → w ≡ Names o → EndingBy known w k heap places masters → NothingBegins (Names o) k → (departs_next (departs known.ahead (innermost masters)) (Ends w ∷ k) ≡ false → Around) → Enters known (ends way) o x (Ends w ∷ k) heap places operands masters
    ending_of w k is e untreated around =
        let own : Ending known o k heap places masters = rw is at e in
        let one : own.object ≡ x = let at = own.found in cc (at, found) in
        rw is (back k own one untreated around (rw one at own.rest))

    pub ends_by : (k : Control) → EndsTo known (Names o) k heap places masters → ((w : Value) (rest : Control) → k ≡ Ends w ∷ rest → NothingBegins (Names o) rest) → (departs_next (departs known.ahead (innermost masters)) k ≡ false → Around) → Enters known (ends way) o x k heap places operands masters
    ends_by [] r untreated around = absurd r
    ends_by (Ends w ∷ k) r untreated around = ending_of w k r.0 r.1 (untreated w k refl) around
    ends_by (f ∷ k) r untreated around = absurd r

  -- A record in the object is assigned to (5.2, 7.6): another record of its type lies in an object that this does not free.
  module _ (number : ℕ) (frees_none : (access t : ℕ) → IsCopied known t → LiesAmong known access t → is_access known.program.types access ≡ true → assignment_frees known.implicit access t ≡ true → ⊥) where
    one_spared : (source : Reference) (t : ℕ) → IsCopied known t → LiesAmong known source.access t → (p : Id) (u : ℕ) → IsReferred (source ∷ []) p u → assignment_frees known.implicit u t ≡ true → is_access known.program.types u ≡ true
        → IsOwnedOutside (outers known) p
    one_spared source t copied among p u (inl (same, one)) freed access = absurd (frees_none source.access t copied among (rw (← one) at access) (rw (← one) at freed))
    one_spared source t copied among p u (inr none) freed access = absurd none

    -- Where the copy goes.
    into_here : (t first count : ℕ) (k : Control) (rooms : Rooms) (holds : Holds) → StoresBehind known heap t (StoresRecord (Names o) first count ∷ k) rooms holds → StoresInto known o x.cell.access t (StoresRecord (Names o) first count ∷ k) rooms holds
    into_here t first count k rooms holds (inl ((y, at, there, plain), behind)) =
        let one : y ≡ x = cc (at, found) in
        (refl, inl (rw one at plain, behind))
    into_here t first count k rooms holds (inr (y, at, there, adjusted)) =
        let one : y ≡ x = cc (at, found) in
        (refl, inr (rw one at adjusted))

    assigned_here : (first t : ℕ) (k : Control) → IsStoredIn (Names o) k → Around → CopiesBehind known (Copies first t ∷ k) heap places operands masters
        → Enters known (ends (Assigning number)) o x (Copies first t ∷ k) heap places operands masters
    assigned_here first t k alone around (copied, w) = by (first_or Null operands) refl w.rest.0.0
      where
        k_is : k ≡ StoresRecord (Names o) alone.to alone.width ∷ alone.rest
        k_is = alone.is

        into : StoresInto known o x.cell.access t k w.rooms w.holds
        into = rw k_is (into_here t alone.to alone.width alone.rest w.rooms w.holds (rw k_is at w.rest.1))

        by : (v : Value) → first_or Null operands ≡ v → LiesIn known heap t v → Enters known (ends (Assigning number)) o x (Copies first t ∷ k) heap places operands masters
        by Null named r = absurd r
        by (Scalar n) named r = absurd r
        by (Part p place) named r = absurd r
        by (Names p) named (y, at, exists, among) =
            let source : Reference = record { object = p; access = y.cell.access } in
            let there : access_at heap p ≡ Some y.cell.access = rw (at, exists) refl in
            record {
              rooms = w.rooms;
              holds = w.holds;
              also = source ∷ [];
              there = one_other source there;
              waits = record {
                parted = not_bare;
                roomed = w.roomed;
                said = w.fit.said;
                objects = w.fit.objects;
              };
              held = false;
              hand = tt;
              watch = None;
              spared = tt;
              rests = record {
                first = first;
                record_type = t;
                stores = k;
                is = refl;
                copied = copied;
                source = source;
                named = named;
                refers = refl;
                lies = among;
                elsewhere = rw named at w.rest.0.1;
                into = into;
                well = w.rest.2;
              };
              fit = w.fit;
              stored = w.stored;
              may = λ access. assignment_frees known.implicit access t;
              includes = λ access is. is;
              spares = w.rest.2.0;
              unaliased = w.rest.2.1;
              kept = one_spared source t copied among;
              low = names_lie known heap places masters w.stored around w.holds w.fit;
              lies = there_lies known heap places masters w.stored around o object_there;
              others_low = referred_lie known heap places masters w.stored around (source ∷ []) (one_other source there);
              under_low = λ p none. absurd none;
            }

    pub assigns_by : (k : Control) → CopiesBehind known k heap places operands masters → ((first t : ℕ) (rest : Control) → k ≡ Copies first t ∷ rest → IsStoredIn (Names o) rest)
        → (departs_next (departs known.ahead (innermost masters)) k ≡ false → Around) → Enters known (ends (Assigning number)) o x k heap places operands masters
    assigns_by [] r alone around = absurd r
    assigns_by (Copies first t ∷ k) r alone around = assigned_here first t k (alone first t k refl) (around refl) r
    assigns_by (f ∷ k) r alone around = absurd r

  -- Where the initialization of the object begins, and what is behind it is known.
  starts_here : (held : Bool) (also : List Reference) → ((p : Id) (t : ℕ) → IsReferred also p t → (access_at heap p ≡ Some t) × ((known.implicit.start_frees x.cell.access t ≡ false) ⊎ IsReferred (outers known).referenced p t))
      → (done : List parts.Part) (k : Control) → (rooms : Rooms) (holds : Holds) → Stored (outers known).under heap masters → Roomed (below known) masters rooms
      → Fit known.program.types known.program.variables (outers known) none_spared heap places holds → BeginsWell known x.cell.access holds
      → FreeIf held (outers known) heap places holds x.cell.access o → Around
      → ((also ≡ []) × Starting known held o x.cell.access places k rooms holds) ⊎ Naming known held o x.cell.access places operands also k rooms holds
      → Enters known (begins Creation done) o x k heap places operands masters
  starts_here held also others done k rooms holds stored roomed fit well hand around behind = record {
    rooms = rooms;
    holds = holds;
    also = also;
    there = λ p t is. (others p t is).0;
    waits = record {
      parted = not_bare;
      roomed = roomed;
      said = fit.said;
      objects = fit.objects;
    };
    held = held;
    hand = hand;
    watch = None;
    spared = tt;
    rests = behind;
    fit = fit;
    stored = stored;
    may = known.implicit.start_frees x.cell.access;
    includes = λ t is. is;
    spares = well.0;
    unaliased = well.1;
    kept = λ p t is freed access. elim ((others p t is).1) [ inl static ↦ absurd (cc (static, freed)) | inr refers ↦ (well.0 t freed).0.1 p refers access ];
    low = names_lie known heap places masters stored around holds fit;
    lies = there_lies known heap places masters stored around o object_there;
    others_low = referred_lie known heap places masters stored around also (λ p t is. (others p t is).0);
    under_low = λ p none. absurd none;
  }

  -- Nothing waits for a name but variables.
  none_wait : (p : Id) (t : ℕ) → IsReferred [] p t → (access_at heap p ≡ Some t) × ((known.implicit.start_frees x.cell.access t ≡ false) ⊎ IsReferred (outers known).referenced p t)
  none_wait p t none = absurd none

  -- A record object is initialized that a declaration creates: it is held, unless its variable owns it.
  begins_here : (done : List parts.Part) (k : Control) → Around → Beginning known (Names o) k heap places masters → Enters known (begins Creation done) o x k heap places operands masters
  begins_here done k around b =
      let same : b.o ≡ o = let is = b.is in cc is in
      let one : b.object ≡ x = let at = b.found in cc (rw same at at, found) in
      let aside = rw same at b.aside in
      let well : BeginsWell known x.cell.access b.holds = rw one at b.well in
      let starting : (held : Bool) → (held ≡ true) ⊎ (Owns (hold_at b.holds b.x) × (place_at places b.x ≡ Names o)) → Starting known held o x.cell.access places k b.rooms b.holds = λ held owner. record {
        x = b.x;
        owner = owner;
        runs = b.runs;
        undone = rw one at b.undone;
        well = well;
        nowhere = named_nowhere (outers known) none_spared heap places (slice_set b.holds b.x hold.Lost) o aside.0;
        unreferred = aside.1;
      } in
      elim (owner_or_not (hold_at b.holds b.x) (place_at places b.x) o) [
        | inl owner ↦ starts_here false [] none_wait done k b.rooms b.holds b.stored b.roomed b.fit well tt around (inl (refl, starting false (inr owner)))
        | inr none ↦ starts_here true [] none_wait done k b.rooms b.holds b.stored b.roomed b.fit well (lost_hand (outers known) heap o x.cell.access is_of places b.holds b.x none aside.0) around (inl (refl, starting true (inl refl)))
      ]

  -- Where a component waits for the name of a new object, its object is referred to while that is initialized.
  abbrev Waiting : Control → Rooms → Holds → Type 0
  Waiting k rooms holds =
      (also : List Reference)
      × ((p : Id) (t : ℕ) → IsReferred also p t → (access_at heap p ≡ Some t) × ((known.implicit.start_frees x.cell.access t ≡ false) ⊎ IsReferred (outers known).referenced p t))
      × GoesTo known (AwaitsAmong known also x.cell.access) x.cell.access k rooms holds

  one_waits : (one : Reference) → access_at heap one.object ≡ Some one.access → (known.implicit.start_frees x.cell.access one.access ≡ false) ⊎ IsReferred (outers known).referenced one.object one.access
      → (p : Id) (t : ℕ) → IsReferred (one ∷ []) p t → (access_at heap p ≡ Some t) × ((known.implicit.start_frees x.cell.access t ≡ false) ⊎ IsReferred (outers known).referenced p t)
  one_waits one there spared p t (inl (same, of)) = rw (← same, ← of) (there, spared)
  one_waits one there spared p t (inr none) = absurd none

  waiting : (k : Control) (rooms : Rooms) (holds : Holds) → GoesTo known (AwaitsIn known heap x.cell.access) x.cell.access k rooms holds → Waiting k rooms holds
  waiting [] rooms holds to = absurd to
  waiting (Stores y ∷ k) rooms holds to = ([], none_wait, to)
  waiting (Declares y ∷ k) rooms holds to = ([], none_wait, to)
  waiting (StoresIn v c ∷ k) rooms holds to = by v to.0
    where
      by : (w : Value) → AwaitsIn known heap x.cell.access w c → Waiting (StoresIn w c ∷ k) rooms holds
      by Null awaits = absurd awaits
      by (Names h) (t, there, (accepts, spared)) =
          let one : Reference = record { object = h; access = t } in
          (one ∷ [], one_waits one there spared, ((t, inl (refl, refl), (accepts, spared)), to.1))
      by (Scalar n) awaits = absurd awaits
      by (Part h place) awaits = absurd awaits
  waiting (f ∷ k) rooms holds to = absurd to

  -- An object is initialized that an allocator made, and a variable or a component gets its name.
  made_here : (done : List parts.Part) (k : Control) → Around → first_or Null operands ≡ Names o → Making known o x.cell.access k heap places masters → Enters known (begins Creation done) o x k heap places operands masters
  made_here done k around named m =
      let others = waiting k m.rooms m.holds m.to in
      starts_here true others.0 others.1 done k m.rooms m.holds m.stored m.roomed m.fit m.well (unnamed_hand (outers known) heap o x.cell.access is_of none_spared places m.holds (λ q. refl) m.aside.0) around (inr (record {
        is_held = refl;
        named = named;
        room = m.room;
        to = others.2;
        undone = m.undone;
        well = m.well;
        nowhere = named_nowhere (outers known) none_spared heap places m.holds o m.aside.0;
        unreferred = m.aside.1;
      }))

  pub at_start : known.touches x.cell.access ≡ true → Around → (done : List parts.Part) (tasks : List Task) (k : Control) → TreatsBy known (Names o) (begins Creation done) tasks k heap places operands masters → Enters known (begins Creation done) o x k heap places operands masters
  at_start touches around done tasks k (inl b, may) = begins_here done k around b
  at_start touches around done tasks k (inr (named, made, names), may) = made_here done k around named (made o x refl found touches)
