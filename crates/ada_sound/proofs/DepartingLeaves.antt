-- Collections are left one after another up to one for whose objects operations may be called that touch storage, and no operation runs (7.6.1): the members of the newest
-- one are taken, and then it goes. Where operations may be called for some of what is left of the master, that goes on; else the invariant holds again.

use Rattle.std.proofs.Common.{◌≡◌, ◌≤◌, ℕ, zero, suc, Bool, true, false, List, [], ◌∷◌, ◌++◌, refl, sym, ap, subst, ◌∙◌, inl, inr, arith, length-append}
use Rattle.std.proofs.lemmas.Bool.{eq-eqb}
use Rattle.std.specs.Prelude.{Option, Some}
use Rattle.std.specs.List.{All, slice_set, slice_index_or}
use Rattle.ada_parts.specs.Task.{Task}
use Rattle.ada_parts.specs.declared.tasks.Direction.TheVariants.{WholeFirst}
use Rattle.ada_program.specs.declared.program.Program.{Program}
use Rattle.ada_program.specs.ProgramForm.{TypeForm, program_form, body_forms}
use Rattle.ada_meaning.specs.declared.event.Cause.TheVariants.{Leaving}
use Rattle.ada_meaning.specs.declared.state.Id.{Id}
use Rattle.ada_meaning.specs.declared.state.Mode.{Mode}
use Rattle.ada_meaning.specs.declared.state.Mode.TheVariants.{Running, Raising, Exiting, Returning}
use Rattle.ada_meaning.specs.declared.state.Stage.TheVariants.{Existing}
use Rattle.ada_meaning.specs.declared.state.Value.{Value}
use Rattle.ada_meaning.specs.declared.state.Value.TheVariants.{Null, Names}
use Rattle.ada_meaning.specs.Event.{Quiet}
use Rattle.ada_meaning.specs.Frame as frame
use Rattle.ada_meaning.specs.Frame.{ends}
use Rattle.ada_meaning.specs.Law.{items_of}
use Rattle.ada_meaning.specs.Named.{Object, State, object_at, look, members, named, next, parted}
use Rattle.ada_meaning.specs.State.{Item, Master, Owned, declared, collection, record_object, storage_pool, height}
use Rattle.ada_meaning.specs.Step.{all_tasks, treating, taken_out, members_next, item_leave_next, leave_next, places_of, operands_of, shorter}
use Rattle.ada_owners.proofs.Objects.{at_other}
use Rattle.ada_reaching.specs.Law.{GhostsStay, none_hidden}
use Rattle.ada_scopes.specs.Scopes.{is_declared_object, is_innermost}
use Rattle.ada_scopes.proofs.Components.{objects_gone}
use Rattle.ada_scopes.proofs.Runs.{Scoped}
use Rattle.ada_typed.proofs.Kept.{behind_treating}
use Rattle.ada_untouched.proofs.Heaps.{on_alike, parted_alike}
use Rattle.ada_sound.specs.Agreement.{running_procedure}
use Rattle.ada_sound.proofs.Alters.{alters_same, alters_set}
use Rattle.ada_sound.proofs.Below.{low_strict, named_below, referred_strict, roomed_high}
use Rattle.ada_sound.proofs.Callers.{Stands, callers_of, known_in, none_awaits, none_under}
use Rattle.ada_sound.proofs.Departing.{AreGone, AreGoneFrom, AreOfItem, Between, HasAccess, IsGoing, IsKept, IsLeft, IsLow, next_member, treated, confined, ended, Seen, ending, has_gone, revived}
use Rattle.ada_sound.proofs.DepartingBegins.{going_parts}
use Rattle.ada_sound.proofs.DepartingEnds.{ended_step, low_still, next_frame, spares_nothing}
use Rattle.ada_sound.proofs.DepartingGhosts.{departed_fit, low_behind}
use Rattle.ada_sound.proofs.DepartingGoes.{GoesDeparting, Went}
use Rattle.ada_sound.proofs.Fits.{Fit, IsUnreferred, none_spared, part_fit, respare, some_ahead, sparing, sparing_set}
use Rattle.ada_sound.proofs.Grounds.{Ordinary}
use Rattle.ada_sound.proofs.Invariant.{Control, Ending, Known, NamesLow, Parting, ReadyIn, Rooms, Roomed, RunsOn, below, departs_next, outers}
use Rattle.ada_sound.proofs.Items.{Counted, Houses, height_is, newest_is}
use Rattle.ada_sound.proofs.Leavings.{HoldNone, NamedBelow}
use Rattle.ada_sound.proofs.Objects.{set_here}
use Rattle.ada_sound.proofs.Ready.{treats_ready}
use Rattle.ada_sound.proofs.Returns.{Crosses, same_types}
use Rattle.ada_sound.proofs.SeenStates.{listed_plain, seen_at, seen_listed, seen_lower, seen_on, seen_stored}
use Rattle.ada_sound.proofs.SparesNewer.{AllSpareNewer}
use Rattle.ada_sound.proofs.Starts.{Sound}
use Rattle.ada_sound.proofs.Stored.{AllOut, IsTaken, IsUnder, Stored, listed_out, none_is_left, stored_part, stored_shorter, taken_is}
use Rattle.ada_sound.proofs.Waiting.{low_by, stands_kept}
use Rattle.ada_sound.proofs.WordsOut.{words_out}

-- Ghosts stay where another object changes.
ghosts_stay : (ghosts : Id → Bool) (heap : List Object) (o : Id) (y : Object) → ghosts o ≡ false → GhostsStay ghosts heap (slice_set heap o.0 y)
ghosts_stay ghosts heap o y plain p is = at_other heap o p y (λ e. let one = rw e at is in cc (one, plain))

-- Where a member is treated next, or ends, nothing more is to be known of what variables name.
pub low_treated : (known : Known) (mode : Mode) (o : Id) (master item : ℕ) (pool : Option ℕ) (left : Mode) (k : Control) (tasks : List Task) (heap : List Object) (places operands : List Value) (masters : List Master)
    → (ready : ReadyIn known mode (treating (Names o) (ends (Leaving master item)) tasks (ending o master item pool left k)) heap places operands masters)
    → IsLow known mode (treating (Names o) (ends (Leaving master item)) tasks (ending o master item pool left k)) heap places operands masters ready
low_treated known Running o master item pool left k [] heap places operands masters ready = tt
low_treated known Running o master item pool left k (task ∷ tasks) heap places operands masters ready = tt
low_treated known (Raising e) o master item pool left k tasks heap places operands masters ready = tt
low_treated known Exiting o master item pool left k tasks heap places operands masters ready = tt
low_treated known Returning o master item pool left k tasks heap places operands masters ready = tt

-- The state that stands for this one, with these objects, keeps the invariant.
module _ (program : Program) (s : State) (h : List Object) {types : List ℕ} {item : ℕ} {ghosts : Id → Bool} (seen : Seen types item ghosts s (record s { heap = h })) (runs : s.mode ≡ Running) (owned : Owned)
    (going : IsGoing program item owned s.masters) (are : AreGoneFrom program types s.masters) (here : AreOfItem item owned ghosts s.heap) (ordinary : Ordinary program (record s { heap = h }))
    (names_low : IsLow (known_in program (running_procedure s) ordinary.suspensions) s.mode s.control h (places_of s.activations) (operands_of s.activations) s.masters ordinary.ready.1) (mode : Mode) (k : Control) where
  -- The master that is left.
  abbrev master : ℕ
  master = going.number

  -- What is known of the body, what its variables hold, and what is left to do.
  abbrev known : Known
  known = known_in program (running_procedure s) ordinary.suspensions

  abbrev places : List Value
  places = places_of s.activations

  abbrev operands : List Value
  operands = operands_of s.activations

  abbrev left : Control
  left = frame.Leaves mode ∷ k

  -- Nothing is under way.
  nothing_under : (o : Id) → IsUnder (outers known).under o → ⊥
  nothing_under o under =
      let none : IsUnder [] o = subst (λ (us : List Id). IsUnder us o) (none_under program ordinary.suspensions ordinary.settled) under in
      none

  -- A member is taken, or the item goes.
  module _ (scoped : Scoped (program_form program) s) (out : AllOut s.heap) (is : s.control ≡ left) where
    -- The item, and the masters that are entered.
    abbrev newest : Item
    newest = record { number = item; owned = owned }

    abbrev masters : List Master
    masters = record { number = master; items = newest ∷ going.items } ∷ going.outer

    -- It is no declared object; and for the objects of one of the items, operations may be called that touch storage.
    none_declared : is_declared_object owned ≡ false
    none_declared = (going_parts known.ahead newest going.items going.goes).0

    some_here : some_ahead known.ahead (newest ∷ going.items) ≡ true
    some_here = (going_parts known.ahead newest going.items going.goes).1

    -- What holds there in the state that stands for this one; and that what callers rely on lies in outer masters.
    both : (p : Parting known h places masters (RunsOn known left)) × NamesLow h places masters p.holds
    both =
        let all : (r : ReadyIn known s.mode s.control h places operands s.masters) × IsLow known s.mode s.control h places operands s.masters r = (ordinary.ready.1, names_low) in
        rw (runs, is, going.is) at all

    abbrev parting : Parting known h places masters (RunsOn known left)
    parting = both.0

    low : NamedBelow (outers known) h masters
    low = named_below known h ordinary.stands.standing.waiting ordinary.stands.standing.low mode k masters parting

    -- The item is one of the innermost master.
    inner_home : (n : ℕ) → n ≡ item → is_innermost masters n ≡ true
    inner_home n home = rw (eq-eqb item n (sym home)) refl

    -- An object that is in its collection is no ghost: so it is the same in both states.
    module _ (o : Id) (x : Object) (found : object_at s.heap o ≡ Some x) (listed : x.listed ≡ true) where
      plain : ghosts o ≡ false
      plain = listed_plain seen o x found listed

      seen_found : object_at h o ≡ Some x
      seen_found = seen_at seen o plain ∙ found

      exists : x.stage ≡ Existing
      exists = (parting.stored.sane o x seen_found).listed_exists listed

      is_out : x.out ≡ true
      is_out = listed_out o x seen_found listed parting.stored

      -- The item houses it, if its home is that.
      housed_here : x.cell.home.item ≡ item → Houses owned x.cell.access x.cell.home.pool
      housed_here home = newest_is x.cell.home.item x.cell.access x.cell.home.pool newest (going.items ++ items_of going.outer) home parting.stored.counted ((parting.stored.sane o x seen_found).housed is_out)

      -- A member of the collection that the item is.
      module _ (home : x.cell.home.item ≡ item) (access : ℕ) (pool : Option ℕ) (own : owned ≡ collection access pool) where
        houses : (access ≡ x.cell.access) × (pool ≡ x.cell.home.pool)
        houses = subst (λ (w : Owned). Houses w x.cell.access x.cell.home.pool) own (housed_here home)

        -- What is left to do once it has left its collection.
        abbrev tasks : List Task
        tasks = all_tasks program.types.items x.cell.access WholeFirst

        abbrev finalizes : Control
        finalizes = treating (Names o) (ends (Leaving master item)) tasks (ending o master item pool mode k)

        unreferred : IsUnreferred (outers known) o
        unreferred t refers = low.1 o t x refers seen_found is_out (inner_home x.cell.home.item home)

        -- It is ready to end behind that, and so the state that stands for the one behind the step keeps the invariant.
        ending_view : Ending known o (frame.GivesBack (Names o) (Leaving master item) pool ∷ left) (slice_set h o.0 (parted x)) places masters
        ending_view = record {
          object = parted x;
          found = set_here h o.0 x (parted x) seen_found;
          exists = exists;
          out = is_out;
          parted = refl;
          stored = stored_part o x seen_found parting.stored;
          covered = tt;
          rest = (
            refl,
            houses.1,
            (
              sym home,
              sym home,
              inr (
                going.goes,
                unreferred,
                record {
                  rooms = parting.rooms;
                  holds = parting.holds;
                  roomed = parting.roomed;
                  fit = sparing_set known.ahead (outers known) h (newest ∷ going.items) o x (parted x) seen_found refl (λ there. refl) (part_fit o x seen_found parting.fit);
                  aside = tt;
                  rest = (parting.rest, low_still h places masters parting.holds o x (parted x) seen_found refl both.1);
                },
              ),
            ),
          );
        }

        ready_view : ReadyIn known s.mode finalizes (slice_set h o.0 (parted x)) places operands s.masters
        ready_view =
            rw runs
            (subst (λ (ms : List Master). ReadyIn known Running finalizes (slice_set h o.0 (parted x)) places operands ms) (sym going.is)
            (treats_ready known (Names o) (ends (Leaving master item)) tasks (ending o master item pool mode k) (slice_set h o.0 (parted x)) places operands masters (refl, ending_view) tt))

        stands_taken : Stands program ordinary.suspensions (record s { heap = slice_set h o.0 (parted x); control = finalizes })
        stands_taken =
            stands_kept program (record s { heap = h }) (record s { heap = slice_set h o.0 (parted x); control = finalizes }) ordinary.suspensions ordinary.stands Quiet (record { procedure = refl; suspended = refl })
            (alters_set h Quiet o x (parted x) seen_found (refl, refl, refl) (λ back. back) (λ back. inl back))

        taken_view : IsKept program (record s { heap = slice_set h o.0 (parted x); control = finalizes })
        taken_view = record {
          ordinary = record {
            suspensions = ordinary.suspensions;
            ready = (ordinary.ready.0, ready_view);
            stands = stands_taken;
            calm = rw (behind_treating (Names o) (ends (Leaving master item)) tasks (ending o master item pool mode k)) (rw is at (ordinary.calm));
            settled = ordinary.settled;
          };
          low = low_treated known s.mode o master item pool mode k tasks (slice_set h o.0 (parted x)) places operands s.masters ready_view;
        }

        -- It does stand for that one.
        seen_taken : Seen types item ghosts (record s { heap = slice_set s.heap o.0 (parted x); control = finalizes }) (record s { heap = slice_set h o.0 (parted x); control = finalizes })
        seen_taken = seen_on seen (ghosts_stay ghosts s.heap o (parted x) plain) (ghosts_stay ghosts h o (parted x) plain) (record {
          rest = refl;
          heaps = rw (found, seen_found) at (on_alike none_hidden ghosts s.heap h seen.alike.heaps parted parted_alike (Names o));
        })

        has_still : HasAccess (slice_set s.heap o.0 (parted x)) o access
        has_still = (parted x, set_here s.heap o.0 x (parted x) found, sym houses.0)

        left_by : (more : List Task) → IsLeft owned master item ghosts (slice_set s.heap o.0 (parted x)) (treating (Names o) (ends (Leaving master item)) more (ending o master item pool mode k))
        left_by [] = ended access pool o mode k own plain has_still
        left_by (task ∷ more) = treated access pool o (task ∷ more) mode k own plain has_still

        between_taken : Between program (record s { heap = slice_set s.heap o.0 (parted x); control = finalizes })
        between_taken = record {
          types = types;
          master = master;
          item = item;
          owned = owned;
          ghosts = ghosts;
          v = record s { heap = slice_set h o.0 (parted x); control = finalizes };
          seen = seen_taken;
          runs = runs;
          going = going;
          are = are;
          here = λ p z ghost there at. here p z ghost (sym (ghosts_stay ghosts s.heap o (parted x) plain p ghost) ∙ there) at;
          left = left_by tasks;
          kept = taken_view;
        }

        -- So the collection goes on, whichever member is taken.
        went_taken : Went program s.heap Quiet (record s { heap = slice_set s.heap o.0 (parted x); control = finalizes })
        went_taken = inl (record {
          body = inl between_taken;
          alters = alters_set s.heap Quiet o x (parted x) found (refl, refl, refl) (λ back. back) (λ back. inl back);
          says = tt;
          covers = λ depth a number there procedure. tt;
        })

        taken_so : Went program s.heap Quiet (taken_out named program.types.items (Leaving master item) pool (Names o) (look s.heap (Names o)) (record s { control = left }))
        taken_so = rw (found, exists) (rw found went_taken)

    taken_step : (access : ℕ) (pool : Option ℕ) → owned ≡ collection access pool → (v : Value) → IsTaken item s.heap v
        → Went program s.heap Quiet (taken_out named program.types.items (Leaving master item) pool v (look s.heap v) (record s { control = left }))
    taken_step access pool own v (o, one, member) = rw one (taken_so o member.object member.found member.listed member.home access pool own)

    -- No member is left.
    module _ (none_there : (o : Id) (x : Object) → object_at s.heap o ≡ Some x → x.listed ≡ true → x.cell.home.item ≡ item → ⊥) where
      abbrev shorter_masters : List Master
      shorter_masters = record { number = master; items = going.items } ∷ going.outer

      -- The state behind it.
      abbrev after : State
      after = record s { control = left; masters = shorter s.masters }

      abbrev view : State
      view = record s { heap = h; control = left; masters = shorter s.masters }

      masters_after : shorter s.masters ≡ shorter_masters
      masters_after = ap shorter going.is

      -- In the state that stands for this one, no components are spared, and nothing is in the collection.
      view_fit : Fit known.program.types known.program.variables (outers known) none_spared h places parting.holds
      view_fit = respare (sparing known.ahead h (newest ∷ going.items)) none_spared (λ o c n e. sym (spares_nothing known.ahead (newest ∷ going.items) some_here h o)) parting.fit

      none_seen : (o : Id) (x : Object) → object_at h o ≡ Some x → x.listed ≡ true → x.cell.home.item ≡ item → ⊥
      none_seen o x found listed home = none_there o x (sym (seen_at seen o (seen_listed seen o x found listed)) ∙ found) listed home

      view_stored : Stored (outers known).under h shorter_masters
      view_stored =
          stored_shorter (record { number = master; items = [] }) newest going.items going.outer (λ o x under found out_so home. nothing_under o under) (λ o x found listed houses home. none_seen o x found listed home) parting.stored

      -- The master has one item less.
      roomed_shorter : (rooms : Rooms) → RunsOn known left rooms parting.holds → Roomed (below known) masters rooms → Roomed (below known) shorter_masters rooms
      roomed_shorter [] on roomed = absurd on
      roomed_shorter (gone ∷ rooms) on roomed = (roomed.0.1, roomed.1)

      -- No variable is relied on to name what has its home in the item.
      low_shorter : (rooms : Rooms) → RunsOn known left rooms parting.holds → Roomed (below known) masters rooms → NamesLow h places shorter_masters parting.holds
      low_shorter [] on roomed = absurd on
      low_shorter (gone ∷ rooms) on roomed =
          low_behind known.program.types known.program.variables (outers known) s.heap h places parting.holds master item owned going.items going.outer types ghosts
          (λ o plain. seen_at seen o plain) seen.departed here out view_fit parting.stored gone.types on.0 roomed.0.0 both.1

      low_view : NamesLow h places shorter_masters parting.holds
      low_view = low_shorter parting.rooms parting.rest parting.roomed

      -- What is said of callers stays as it is.
      stands_behind : (heap : List Object) → ((o : Id) (x : Object) → object_at h o ≡ Some x → (y : Object) × (object_at heap o ≡ Some y) × (y.cell.home ≡ x.cell.home) × (x.out ≡ false → y.out ≡ false))
          → Stands program ordinary.suspensions (record s { heap = heap; control = left; masters = shorter s.masters })
      stands_behind heap keeps = record {
        body = ordinary.stands.body;
        behind = ordinary.stands.behind;
        bodies = ordinary.stands.bodies;
        standing = record {
          suspended = ordinary.stands.standing.suspended;
          waiting = ordinary.stands.standing.waiting;
          low = low_by h heap keeps (callers_of program ordinary.suspensions) ordinary.stands.standing.low;
        };
      }

      -- Operations may be called for some of what is left of the master: the next item goes.
      module _ (i : Item) (items : List Item) (rest : going.items ≡ i ∷ items) (some : some_ahead known.ahead going.items ≡ true) where
        -- It is no declared object, as the one before it was none; and it is older.
        next_not_declared : is_declared_object i.owned ≡ false
        next_not_declared =
            let none : All (λ (j : Item). is_declared_object j.owned ≡ false) (newest ∷ (i ∷ items)) =
            subst (λ (js : List Item). All (λ (j : Item). is_declared_object j.owned ≡ false) (newest ∷ js)) rest
            (objects_gone (program_form program) s master newest going.items going.outer scoped going.is none_declared) in
            none (suc zero) i (omega arith)

        next_older : i.number ≤ item
        next_older =
            let counted = subst (λ (js : List Item). Counted (newest ∷ (js ++ items_of going.outer))) rest parting.stored.counted in
            let number = counted.0 in
            let next_number = counted.1.0 in
            omega (arith, number, next_number)

        next_newer : (o : Id) (x : Object) → ghosts o ≡ true → object_at s.heap o ≡ Some x → x.cell.home.item ≡ i.number → ⊥
        next_newer o x ghost found home =
            let d = seen.departed o ghost in
            let there = d.there in
            let one : d.object ≡ x = cc (there, found) in
            let newer : item ≤ x.cell.home.item = subst (λ (y : Object). item ≤ y.cell.home.item) one d.newer in
            let counted = subst (λ (js : List Item). Counted (newest ∷ (js ++ items_of going.outer))) rest parting.stored.counted in
            let number = counted.0 in
            let next_number = counted.1.0 in
            omega (arith, number, next_number, newer, home)

        next_going : IsGoing program i.number i.owned (shorter s.masters)
        next_going = record {
          number = master;
          items = items;
          outer = going.outer;
          is = masters_after ∙ ap (λ (js : List Item). record { number = master; items = js } ∷ going.outer) rest;
          goes = rw next_not_declared (rw rest at some);
        }

        next_are : AreGoneFrom program types (shorter s.masters)
        next_are =
            let before : AreGone program types (newest ∷ going.items) going.outer = subst (λ (ms : List Master). AreGoneFrom program types ms) going.is are in
            subst (λ (ms : List Master). AreGoneFrom program types ms) (sym masters_after) (record { accessed = before.accessed; unheld = before.unheld; spared = before.spared.1 })

        parting_shorter : (p : Parting known h places shorter_masters (RunsOn known left)) × NamesLow h places shorter_masters p.holds
        parting_shorter = (
          record {
            rooms = parting.rooms;
            holds = parting.holds;
            stored = view_stored;
            roomed = roomed_shorter parting.rooms parting.rest parting.roomed;
            fit = respare none_spared (sparing known.ahead h going.items) (λ o c n e. spares_nothing known.ahead going.items some h o) view_fit;
            rest = parting.rest;
          },
          low_view,
        )

        ready_shorter : (r : ReadyIn known s.mode left h places operands (shorter s.masters)) × IsLow known s.mode left h places operands (shorter s.masters) r
        ready_shorter =
            subst (λ (m : Mode). (r : ReadyIn known m left h places operands (shorter s.masters)) × IsLow known m left h places operands (shorter s.masters) r) (sym runs)
            (subst (λ (ms : List Master). (p : Parting known h places ms (RunsOn known left)) × NamesLow h places ms p.holds) (sym masters_after) parting_shorter)

        kept_shorter : IsKept program view
        kept_shorter = record {
          ordinary = record {
            suspensions = ordinary.suspensions;
            ready = (ordinary.ready.0, ready_shorter.0);
            stands = stands_behind h (λ o x found. (x, found, refl, λ back. back));
            calm = rw is at (ordinary.calm);
            settled = ordinary.settled;
          };
          low = ready_shorter.1;
        }

        between_shorter : Between program after
        between_shorter = record {
          types = types;
          master = master;
          item = i.number;
          owned = i.owned;
          ghosts = ghosts;
          v = view;
          seen = seen_lower seen_shorter next_older;
          runs = runs;
          going = next_going;
          are = next_are;
          here = λ o x ghost found home. absurd (next_newer o x ghost found home);
          left = next_member mode k;
          kept = kept_shorter;
        }
          where
            seen_shorter : Seen types item ghosts after view
            seen_shorter = seen_on seen (λ o ghost. refl) (λ o ghost. refl) (record { rest = refl; heaps = seen.alike.heaps })

        went_shorter : Went program s.heap Quiet after
        went_shorter = inl (record {
          body = inl between_shorter;
          alters = alters_same s.heap Quiet;
          says = tt;
          covers = λ depth a number there procedure. tt;
        })

      -- They are called for none of what is left: so all places of the real state are as they are relied on to be.
      module _ (none : some_ahead known.ahead going.items ≡ false) where
        real_stored : Stored (outers known).under s.heap masters
        real_stored = seen_stored seen parting.stored

        -- What callers rely on lies below the item.
        below_item : (rooms : Rooms) → RunsOn known left rooms parting.holds → Roomed (below known) masters rooms → height (below known) ≤ item
        below_item [] on roomed = absurd on
        below_item (gone ∷ rooms) on roomed =
            let high = roomed_high (below known) going.outer rooms roomed.1 in
            let number = parting.stored.counted.0 in
            let count = height_is going.outer in
            omega (arith, high, number, count, length-append going.items (items_of going.outer))

        high : height (below known) ≤ item
        high = below_item parting.rooms parting.rest parting.roomed

        gone_fit : Fit known.program.types known.program.variables (outers known) (sparing known.ahead s.heap going.items) s.heap places parting.holds
        gone_fit =
            departed_fit known.program.types known.program.variables (outers known) s.heap h places parting.holds master item owned going.items going.outer types ghosts
            (λ o plain. seen_at seen o plain) seen.departed here out view_fit known.ahead
            (subst (λ (us : List Id). Stored us s.heap masters) (none_under program ordinary.suspensions ordinary.settled) real_stored)
            low_view
            (λ d x o object relied names found.
            let lower = low_strict h known.implicit known.program known.callers ordinary.stands.standing.waiting ordinary.stands.standing.low (none_awaits program ordinary.suspensions ordinary.settled) d x o object relied names found in
            omega (arith, lower, high))
            (λ o t object refers found.
            let lower = referred_strict h known.implicit known.program known.callers ordinary.stands.standing.waiting ordinary.stands.standing.low (none_awaits program ordinary.suspensions ordinary.settled) o t object refers found in
            omega (arith, lower, high))
            unheld none none_there
          where
            unheld : (t : ℕ) → has_gone types t ≡ true → HoldNone known.program.types t (items_of going.outer)
            unheld t gone =
                let before : AreGone program types (newest ∷ going.items) going.outer = subst (λ (ms : List Master). AreGoneFrom program types ms) going.is are in
                subst (λ (ts : List TypeForm). HoldNone ts t (items_of going.outer)) (sym (same_types (running_procedure s) (program_form program))) (before.unheld t gone)

        parting_behind : Parting known s.heap places shorter_masters (RunsOn known left)
        parting_behind = record {
          rooms = parting.rooms;
          holds = parting.holds;
          stored = stored_shorter (record { number = master; items = [] }) newest going.items going.outer (λ o x under found out_so home. nothing_under o under)
              (λ o x found listed houses home. none_there o x found listed home) real_stored;
          roomed = roomed_shorter parting.rooms parting.rest parting.roomed;
          fit = gone_fit;
          rest = parting.rest;
        }

        -- So the invariant holds of the real state.
        ready_behind : ReadyIn known s.mode left s.heap places operands (shorter s.masters)
        ready_behind =
            subst (λ (m : Mode). ReadyIn known m left s.heap places operands (shorter s.masters)) (sym runs)
            (subst (λ (ms : List Master). Parting known s.heap places ms (RunsOn known left)) (sym masters_after) parting_behind)

        real_homes : (o : Id) (x : Object) → object_at h o ≡ Some x → (y : Object) × (object_at s.heap o ≡ Some y) × (y.cell.home ≡ x.cell.home) × (x.out ≡ false → y.out ≡ false)
        real_homes o x found = by (ghosts o) refl
          where
            by : (b : Bool) → ghosts o ≡ b → (y : Object) × (object_at s.heap o ≡ Some y) × (y.cell.home ≡ x.cell.home) × (x.out ≡ false → y.out ≡ false)
            by true ghost =
                let d = seen.departed o ghost in
                let there = d.is in
                let one : revived d.object ≡ x = cc (there, found) in
                (d.object, d.there, ap (λ (y : Object). y.cell.home) one, λ back. d.back)
            by false plain = (x, sym (seen_at seen o plain) ∙ found, refl, λ back. back)

        crosses : Crosses program s.heap Quiet after
        crosses = record {
          suspensions = ordinary.suspensions;
          stepped = record {
            ready = (ordinary.ready.0, ready_behind);
            alters = alters_same s.heap Quiet;
            says = tt;
          };
          stands = stands_behind s.heap real_homes;
        }

        went_out : Went program s.heap Quiet after
        unfolding crosses
        went_out = inr (crosses, rw is at (ordinary.calm), ordinary.settled)

      gone_step : Went program s.heap Quiet after
      gone_step = by (some_ahead known.ahead going.items) refl
        where
          by_items : (js : List Item) → going.items ≡ js → some_ahead known.ahead going.items ≡ true → Went program s.heap Quiet after
          by_items [] rest some = absurd (let never : false ≡ true = rw rest at some in cc never)
          by_items (i ∷ items) rest some = went_shorter i items rest some

          by : (b : Bool) → some_ahead known.ahead going.items ≡ b → Went program s.heap Quiet after
          by true some = by_items going.items refl some
          by false none = went_out none

    -- Either of these comes next.
    members_step : (access : ℕ) (pool : Option ℕ) → owned ≡ collection access pool → (vs : List Value) → members s.heap item ≡ vs
        → GoesDeparting program s (members_next named program.types.items (Leaving master item) pool vs (record s { control = left }))
    members_step access pool own [] none = gone_step (λ o x found listed home. none_is_left item s.heap o x none found listed home)
    members_step access pool own (v ∷ vs) are_these = λ i lt. taken_step access pool own (slice_index_or (v ∷ vs) i Null) (rw are_these at (taken_is item s.heap i (rw are_these lt)))

    -- Pools house nothing.
    none_in_pool : (declaration number : ℕ) → owned ≡ storage_pool declaration number → (o : Id) (x : Object) → object_at s.heap o ≡ Some x → x.listed ≡ true → x.cell.home.item ≡ item → ⊥
    none_in_pool declaration number own o x found listed home = subst (λ (w : Owned). Houses w x.cell.access x.cell.home.pool) own (housed_here o x found listed home)

    item_step : (w : Owned) → owned ≡ w → GoesDeparting program s (item_leave_next named program.types.items master newest w (record s { control = left }))
    item_step (declared x) own = absurd (let none : is_declared_object (declared x) ≡ false = rw own at none_declared in cc none)
    item_step (record_object t) own = absurd (let none : is_declared_object (record_object t) ≡ false = rw own at none_declared in cc none)
    item_step (collection access pool) own = members_step access pool own (members s.heap item) refl
    item_step (storage_pool declaration number) own = gone_step (none_in_pool declaration number own)

    left_step : GoesDeparting program s (next program.types.items (body_forms program) s)
    left_step =
        subst (GoesDeparting program s)
        (sym (next_frame program.types.items (body_forms program) s (frame.Leaves mode) k runs is ∙ ap (λ (ms : List Master). leave_next named program.types.items mode ms (record s { control = k })) going.is))
        (item_step owned refl)

-- A step where a member is taken, or ends, or an item goes.
pub leaves_step : (program : Program) (s : State) → Sound program s → AllSpareNewer program s.masters → (d : Between program s) → departs_next true s.control ≡ true
    → GoesDeparting program s (next program.types.items (body_forms program) s)
leaves_step program s sound newer d goes = by s.control refl d.left goes
  where
    seen : Seen d.types d.item d.ghosts s (record s { heap = d.v.heap })
    seen = record { alike = record { rest = refl; heaps = d.seen.alike.heaps }; departed = d.seen.departed }

    kept : IsKept program (record s { heap = d.v.heap })
    kept = subst (IsKept program) d.seen.alike.rest d.kept

    by : (c : Control) → s.control ≡ c → IsLeft d.owned d.master d.item d.ghosts s.heap c → departs_next true c ≡ true → GoesDeparting program s (next program.types.items (body_forms program) s)
    by _ is (next_member mode k) next_goes = left_step program s d.v.heap seen d.runs d.owned d.going d.are d.here kept.ordinary kept.low mode k sound.nested (words_out program s sound.reached) is
    by _ is (treated access pool o tasks mode k own plain has) next_goes = absurd (cc next_goes)
    by _ is (confined access pool o tasks mode k own plain has) next_goes = absurd (cc next_goes)
    by _ is (ended access pool o mode k own plain has) next_goes =
        ended_step program s d.v.heap d.master seen d.runs (subst (λ (w : Owned). IsGoing program d.item w s.masters) own d.going) d.are (subst (λ (w : Owned). AreOfItem d.item w d.ghosts s.heap) own d.here) kept.ordinary mode k
        sound.nested newer o plain has is
