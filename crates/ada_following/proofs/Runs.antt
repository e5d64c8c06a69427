-- Whole runs are followed, and so the laws of storage are those of programs.

use Rattle.std.proofs.Common.{◌≡◌, ℕ, ℤ, suc, Bool, true, false, List, [], ◌∷◌, ◌++◌, map, Some, refl, sym, ap, ◌∙◌, ◌⊎◌, inl, inr, subst}
use Rattle.std.specs.List.{slice_get, All, AllByRecursion}
use Rattle.std.proofs.lemmas.List.Elements.{All-from_recursion}
use Rattle.ada_program.specs.declared.program.Program.{Program}
use Rattle.ada_program.specs.declared.program.TypeDefinition.{TypeDefinition}
use Rattle.ada_program.specs.ProgramForm.{body_forms}
use Rattle.ada_meaning.specs.declared.state.Mode.{Mode}
use Rattle.ada_meaning.specs.declared.state.Value.{Value}
use Rattle.ada_meaning.specs.declared.event.Halt.{Halt}
use Rattle.ada_meaning.specs.declared.state.Value.TheVariants.{Names}
use Rattle.ada_meaning.specs.declared.event.Cause.TheVariants.{Leaving, Freeing, Assigning, Undoing}
use Rattle.ada_meaning.specs.Frame.{Treatment, ends as ends_by, Frame}
use Rattle.ada_meaning.specs.Frame as frame
use Rattle.ada_meaning.specs.State.{Activation, Master}
use Rattle.ada_parts.specs.Task.{Task}
use Rattle.ada_meaning.specs.Step.{treating}
use Rattle.ada_meaning.specs.Named.{Object, State, next}
use Rattle.ada_meaning.specs.Run.{Event, Run, Halts, here, there, first_state}
use Rattle.ada_meaning.specs.Law.{IsBack, HasEnded}
use Rattle.ada_storage.specs.State as storage
use Rattle.ada_storage.specs.State.{bit, placed}
use Rattle.ada_storage.specs.Law as storage_law
use Rattle.ada_storage.specs.Law.{EachTwo, Happened, IsBorn, IsFinalized, AfterBirth, Once, BeforeBack, InReverse, Falling}
use Rattle.ada_storage.specs.Example.{seen}
use Rattle.ada_storage.specs.Following.{Goes, Follows as FollowsOf, RunOf}
use Rattle.ada_storage.specs.Following as following
use Rattle.ada_storage.proofs.Invariant.{Alive, Objects, after, Fits}
use Rattle.ada_storage.proofs.Joining.{items_home}
use Rattle.ada_storage.proofs.Runs as runs
use Rattle.ada_storage.proofs.Ends as ends
use Rattle.ada_storage.proofs.Following as carried
use Rattle.ada_following.specs.Reading.{event_seen, is_out, IsUnderWay, IsSeenAs}
use Rattle.ada_following.specs.Law.{AreAtHome, Going, IsFollowed, IsShown}
use Rattle.ada_following.proofs.Heaps.{Heap}
use Rattle.ada_following.proofs.Places.{Listing, no_items}
use Rattle.ada_following.proofs.Frames.{Control, Static, Treating, performing, Waits, Reads, nothing, enters, treats_behind}
use Rattle.ada_following.proofs.Stands.{passed, Stands, codes, waits, taken, freed, undone, assigning, failing, finding, passing}
use Rattle.ada_following.proofs.Seen.{stands_seen, stands_mode}
use Rattle.ada_following.proofs.Deeds.{led, ends_only}
use Rattle.ada_following.proofs.Goings.{Silent, stands_still, then_goes, goes_silent, silent_holds, silent_behind, run_both, Holds, goes_holds}
use Rattle.ada_following.proofs.Follows.{Follows}
use Rattle.ada_following.proofs.Steps.{Joint, joint_follows}

-- Where a run comes to in storage.
pub record Comes (types : List TypeDefinition) (s : storage.State) (events : List Event) (last : State) : Type 0 where
  pub reached : storage.State
  pub steps : RunOf Going s (map event_seen events) reached
  pub to : storage.State
  pub rest : Silent reached to
  pub joint : Joint types last to

run_comes : {program : Program} {x last : State} {events : List Event} (s0 s : storage.State) → Silent s0 s → Run program x events last → Joint program.types.items x s → Comes program.types.items s0 events last
run_comes s0 s before here j = record { reached = s0; steps = following.here; to = s; rest = before; joint = j }
run_comes {program} {x} s0 s before (there {event = e} choice mid step run) j =
    let f = led x.control (Follows program.types.items s) (next program.types.items (body_forms program) x) choice e mid (joint_follows program.types.items (body_forms program) x s j) step in
    let more =
    run_comes f.reached f.to f.later run
    (record { arrived = f.arrived; holds = silent_holds f.reached f.to (goes_holds s f.reached (event_seen e) j.holds f.goes) f.later }) in
    record { reached = more.reached; steps = following.there f.reached (then_goes s0 s f.reached (event_seen e) before f.goes) more.steps; to = more.to; rest = more.rest; joint = more.joint }

first_joint : (program : Program) (input : List ℤ) → Joint program.types.items (first_state program input) storage_law.first_state
first_joint program input = record {
  arrived =
      record {
        control = storage.acts (record { number = 1; items = [] }) storage.stops;
        moded = storage.running;
        is_control = refl;
        is_moded = refl;
        stands = codes (enters _ (record { number = 0; items = [] }) refl no_items nothing);
        facts =
            record {
              out = λ o. refl;
              shape = record { shape = λ o. refl; alive = λ o p. refl; turn = λ o p. refl };
              created = refl;
              next = refl;
              sound = record { counted = (tt, tt); fit = (tt, tt); beyond = λ n le. refl; fine = λ o x is. absurd (cc is) };
            };
      };
  holds = runs.first_inv;
}

-- What happened was seen, and the other way round.
happened_seen : (P : storage.Event → Type 0) → (P storage.quiet → ⊥) → (es : List storage.Event) → Happened P es → Happened P (seen es)
happened_seen P never [] h = absurd h
happened_seen P never (storage.born v by ∷ es) (inl h) = inl h
happened_seen P never (storage.born v by ∷ es) (inr h) = inr (happened_seen P never es h)
happened_seen P never (storage.finalized v cause ∷ es) (inl h) = inl h
happened_seen P never (storage.finalized v cause ∷ es) (inr h) = inr (happened_seen P never es h)
happened_seen P never (storage.back o cause ∷ es) (inl h) = inl h
happened_seen P never (storage.back o cause ∷ es) (inr h) = inr (happened_seen P never es h)
happened_seen P never (storage.left m ∷ es) (inl h) = inl h
happened_seen P never (storage.left m ∷ es) (inr h) = inr (happened_seen P never es h)
happened_seen P never (storage.quiet ∷ es) (inl h) = absurd (never h)
happened_seen P never (storage.quiet ∷ es) (inr h) = happened_seen P never es h

happened_of_seen : (P : storage.Event → Type 0) (es : List storage.Event) → Happened P (seen es) → Happened P es
happened_of_seen P [] h = absurd h
happened_of_seen P (storage.born v by ∷ es) (inl h) = inl h
happened_of_seen P (storage.born v by ∷ es) (inr h) = inr (happened_of_seen P es h)
happened_of_seen P (storage.finalized v cause ∷ es) (inl h) = inl h
happened_of_seen P (storage.finalized v cause ∷ es) (inr h) = inr (happened_of_seen P es h)
happened_of_seen P (storage.back o cause ∷ es) (inl h) = inl h
happened_of_seen P (storage.back o cause ∷ es) (inr h) = inr (happened_of_seen P es h)
happened_of_seen P (storage.left m ∷ es) (inl h) = inl h
happened_of_seen P (storage.left m ∷ es) (inr h) = inr (happened_of_seen P es h)
happened_of_seen P (storage.quiet ∷ es) h = inr (happened_of_seen P es h)

-- The homes of objects in storage.
homes : (A : Alive) (T : Objects) (k : storage.Control) → Fits A T k → AreAtHome T k
homes A T storage.stops f = tt
homes A T (storage.acts m k) f = ((λ o some. items_home A T m.number o m.items some f.0), homes A T k f.2)
homes A T (storage.leaves m mode k) f = ((λ o some. items_home A T m.number o m.items some f.0), homes A T k f.2)
homes A T (storage.finalizes m i o fs mode k) f = (f.1, (λ x some. items_home A T m.number x m.items some f.2.0), homes A T k f.2.2)
homes A T (storage.frees n o fs k) f = homes A T k f.2
homes A T (storage.initializes o joins js done k) f = homes A T k f.4
homes A T (storage.undoes n o done k) f = homes A T k f.2
homes A T (storage.assigns n o parts fs k) f = homes (after A o parts) T k f.4
homes A T (storage.adjusts o parts js done k) f = homes (after A o parts) T k f.4

-- Where nothing is left to do no master is entered, and storage stops.
record IsDone (ms : List Master) (c : storage.Control) : Type 0 where
  none : ms ≡ []
  stops : c ≡ storage.stops

never_empty : {A : Type 0} (v : Value) (treatment : Treatment) (tasks : List Task) (f : Frame Value) (k : Control) → [] ≡ treating v treatment tasks (f ∷ k) → A
never_empty v treatment [] f k e = absurd (cc e)
never_empty v treatment (t ∷ ts) f k e = absurd (cc e)

waits_some : {types : List TypeDefinition} {S : Static} {L : Listing} {A : Alive} {acts : List (Activation Value)} {ms : List Master} {k : Control} {t : Treating} → Waits types S L A acts ms k [] t → ⊥
waits_some w = elim w [ ]

reads_none : {types : List TypeDefinition} {S : Static} {w : Bool} {L : Listing} {A : Alive} {acts : List (Activation Value)} {ms : List Master} {c : storage.Control} → Reads types S w L A acts [] ms c → IsDone ms c
reads_none nothing = record { none = refl; stops = refl }
reads_none (treats_behind t waiting acting rest is) = absurd (waits_some waiting)

nothing_left : {types : List TypeDefinition} {h : Heap} {A : Alive} {acts : List (Activation Value)} {ms : List Master} {mode : Mode} {c : storage.Control} {md : storage.Mode} → Stands types h A acts ms mode [] c md → IsDone ms c
nothing_left (codes rest) = reads_none rest
nothing_left (waits rest) = reads_none rest
nothing_left (taken o i pool mode tasks left m e items rest is) = never_empty (Names o) (ends_by (Leaving m.number i)) tasks (frame.Ends (Names o)) _ is
nothing_left (freed o n pool tasks left e acting rest is) = never_empty (Names o) (ends_by (Freeing n)) tasks (frame.Ends (Names o)) _ is
nothing_left (undone o n pool e done acting rest is) = never_empty (Names o) (ends_by (Undoing n)) (performing done) (frame.Ends (Names o)) _ is
nothing_left (assigning o p us base t first count n last lasts tasks left newest rec e acting rest is) = never_empty (Names o) (ends_by (Assigning n)) tasks (frame.Copies base t) _ is
nothing_left (failing o p us base t first count n last lasts tasks parts qs left newest rec lacks are acting rest is) = never_empty (Names o) (ends_by (Assigning n)) tasks (frame.Copies base t) _ is
nothing_left (finding false source t path rest) = elim path [ ]
nothing_left (finding true source t path rest) = elim path [ ]
nothing_left (passing e passed rest) = reads_none rest

each_back : (xs : Heap) → ((o : ℕ) (x : Object) → slice_get xs o ≡ Some x → x.out ≡ false) → AllByRecursion IsBack xs
each_back [] all = tt
each_back (x ∷ xs) all = (all 0 x refl, each_back xs (λ o y at_o. all (suc o) y at_o))

module _ (program : Program) (input : List ℤ) (events : List Event) (last : State) (run : Run program (first_state program input) events last) where
  comes : Comes program.types.items storage_law.first_state events last
  comes = run_comes storage_law.first_state storage_law.first_state (stands_still storage_law.first_state storage_law.first_state refl) run (first_joint program input)

  follows : FollowsOf Going (λ s. s)
  follows s t e g = g

  -- the run of storage
  shows : carried.RunAlike storage_law.first_state comes.reached (map event_seen events)
  shows = carried.from_first Going (λ s. s) follows storage_law.first_state refl comes.steps

  -- and to where it is read
  whole_run : storage_law.Run storage_law.first_state (shows.shown ++ comes.rest.unseen) comes.to
  whole_run = run_both shows.run comes.rest.run

  alike : seen (shows.shown ++ comes.rest.unseen) ≡ seen (map event_seen events)
  alike = silent_behind shows.shown comes.rest.unseen comes.rest.silent ∙ shows.alike

  invariant : Holds comes.to
  invariant = runs.inv_run whole_run runs.first_inv

  -- what is read there
  reads : IsSeenAs program.types.items last comes.to
  reads =
      let a = comes.joint.arrived in
      record {
        control =
            subst (λ (c : storage.Control). IsUnderWay program.types.items last.heap last.control last.masters c) (sym a.is_control)
            (stands_seen program.types.items last.heap comes.to.alive last.activations a.facts.shape.alive a.stands);
        mode = a.is_moded ∙ stands_mode a.stands;
        out = a.facts.out;
        shape = a.facts.shape.shape;
        alive = a.facts.shape.alive;
        turn = a.facts.shape.turn;
        created = a.facts.created;
        next = a.facts.next;
      }

  pub runs_follow_storage : IsFollowed program.types.items events last
  runs_follow_storage = record {
    reached = comes.reached;
    steps = comes.steps;
    to = comes.to;
    rest = goes_silent comes.reached comes.to comes.rest;
    homes = homes comes.to.alive comes.to.objects comes.to.control invariant.fits;
    reads = reads;
  }

  pub runs_are_shown : IsShown program.types.items events last
  runs_are_shown = record { shown = shows.shown ++ comes.rest.unseen; to = comes.to; run = whole_run; alike = alike; reads = reads }

  -- Laws of events.
  pub nothing_after_back : EachTwo BeforeBack (map event_seen events)
  nothing_after_back = carried.nothing_after_back Going (λ s. s) follows storage_law.first_state refl comes.reached (map event_seen events) comes.steps

  pub in_reverse : EachTwo InReverse (map event_seen events)
  in_reverse = carried.in_reverse Going (λ s. s) follows storage_law.first_state refl comes.reached (map event_seen events) comes.steps

  pub once : EachTwo Once (map event_seen events)
  once = carried.once Going (λ s. s) follows storage_law.first_state refl comes.reached (map event_seen events) comes.steps

  pub born_before : AfterBirth (λ v. ⊥) (map event_seen events)
  born_before = carried.born_before Going (λ s. s) follows storage_law.first_state refl comes.reached (map event_seen events) comes.steps

  -- Laws of states.
  pub has_one_place : (c : storage.Control) × IsUnderWay program.types.items last.heap last.control last.masters c × ((o : ℕ) → placed o c ≡ bit (is_out (slice_get last.heap o)))
  has_one_place = (comes.to.control, reads.control, λ o. invariant.places o ∙ ap bit (reads.out o))

  pub masters_fall : (c : storage.Control) × IsUnderWay program.types.items last.heap last.control last.masters c × Falling c
  masters_fall = (comes.to.control, reads.control, ends.masters_fall comes.to (shows.shown ++ comes.rest.unseen) whole_run)

  -- Each value that came to exist is finalized, or its object's words are out.
  value_ends : (v : storage.Value) → Happened (IsBorn v) (map event_seen events) → (comes.to.objects v.object).lives ≡ false → Happened (IsFinalized v) (map event_seen events)
  value_ends v is_born gone =
      let es = shows.shown ++ comes.rest.unseen in
      let born_there = happened_of_seen (IsBorn v) es (subst (λ (fs : List storage.Event). Happened (IsBorn v) fs) (sym alike) (happened_seen (IsBorn v) (λ h. h) (map event_seen events) is_born)) in
      go (runs.born_run v whole_run born_there)
    where
      go : Happened (IsFinalized v) (shows.shown ++ comes.rest.unseen) ⊎ (comes.to.alive v.object v.part ≡ true) → Happened (IsFinalized v) (map event_seen events)
      go (inl h) =
          happened_of_seen (IsFinalized v) (map event_seen events)
          (subst (λ (fs : List storage.Event). Happened (IsFinalized v) fs) alike (happened_seen (IsFinalized v) (λ h. h) (shows.shown ++ comes.rest.unseen) h))
      go (inr lives) = let never : true ≡ false = sym lives ∙ invariant.dead v.object gone v.part in absurd (cc never)

  pub finalized_by_back : (v : storage.Value) → Happened (IsBorn v) (map event_seen events) → is_out (slice_get last.heap v.object) ≡ false → Happened (IsFinalized v) (map event_seen events)
  finalized_by_back v is_born back = value_ends v is_born (reads.out v.object ∙ back)

  -- Where a run has come to its end.
  module _ (halt : Halt) (stops : Halts program last halt) (end : HasEnded halt) where
    no_control : last.control ≡ []
    no_control = ends_only last.control (Follows program.types.items comes.to) (next program.types.items (body_forms program) last) halt (joint_follows program.types.items (body_forms program) last comes.to comes.joint) stops end

    done : IsDone last.masters comes.joint.arrived.control
    done =
        nothing_left
        (subst (λ (k : Control). Stands program.types.items last.heap comes.to.alive last.activations last.masters last.mode k comes.joint.arrived.control comes.joint.arrived.moded) no_control comes.joint.arrived.stands)

    all_gone : (o : ℕ) → (comes.to.objects o).lives ≡ false
    all_gone o = ends.all_back comes.to (shows.shown ++ comes.rest.unseen) whole_run (comes.joint.arrived.is_control ∙ done.stops) o

    pub all_back : (last.masters ≡ []) × All IsBack last.heap
    all_back = (done.none, All-from_recursion IsBack last.heap (each_back last.heap (λ o x at_o. sym (ap is_out at_o) ∙ sym (reads.out o) ∙ all_gone o)))

    pub all_finalized : (v : storage.Value) → Happened (IsBorn v) (map event_seen events) → Happened (IsFinalized v) (map event_seen events)
    all_finalized v is_born = value_ends v is_born (all_gone v.object)
