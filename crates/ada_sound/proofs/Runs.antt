-- Runs keep the invariant, and what each step tells of objects adds up.

use Rattle.std.proofs.Common.{◌≡◌, ◌≢◌, ℕ, suc, ◌≤◌, Bool, true, false, List, [], ◌∷◌, ◌++◌, refl, sym, ap, subst, ◌∙◌, ◌⊎◌, inl, inr, arith}
use Rattle.std.specs.Prelude.{◌↔◌, Option, Some, None}
use Rattle.std.specs.List.{All, AllPairs, slice_index_or}
use Rattle.std.proofs.lemmas.Option.{slice_get-get_or}
use Rattle.std.proofs.lemmas.List.Elements.{All-nil, All-cons}
use Rattle.std.proofs.lemmas.List.Kept.{AllPairs-cons}
use Rattle.ada_deeds.specs.Implicit.{implicit_of}
use Rattle.ada_program.specs.declared.program.Program.{Program}
use Rattle.ada_program.specs.ProgramForm.{ProgramForm, program_form, body_forms, seen_in}
use Rattle.ada_effects.specs.Effects.{Implicit}
use Rattle.ada_meaning.specs.declared.state.Id.{Id}
use Rattle.ada_meaning.specs.declared.state.Value.{Value}
use Rattle.ada_meaning.specs.declared.state.Value.TheVariants.{Names}
use Rattle.ada_meaning.specs.declared.event.Halt.{Halt}
use Rattle.ada_meaning.specs.declared.event.Halt.TheVariants.{Finished, Unhandled, Escaped, Erroneous, Stuck, Memory}
use Rattle.ada_meaning.specs.declared.event.Why.{Why}
use Rattle.ada_meaning.specs.declared.state.Mode.{Mode}
use Rattle.ada_meaning.specs.declared.state.Mode.TheVariants.{Running, Raising, Exiting, Returning}
use Rattle.ada_meaning.specs.Event.{Born, Finalized, Back, Followed, Left, Line, Quiet}
use Rattle.ada_meaning.specs.State.{Master}
use Rattle.ada_sound.specs.Agreement.{running_procedure}
use Rattle.ada_program.specs.declared.program.Exception.{Exception}
use Rattle.ada_meaning.specs.Step.{halts, moves, tells, asks, picks}
use Rattle.ada_meaning.specs.Named.{Object, State, Next, named, object_at, next, returned}
use Rattle.ada_meaning.specs.Run.{Event, Choice, settled, grants, takes, Leads, Step, Run, here, there, Halts, run_more}
use Rattle.ada_meaning.specs.Law.{named_by, back_of, followed_of, Differ, BackTwoObjects, FollowedBeforeBack, leaving_by, IsBackHome, GoesHome, GivesBackOf, Happened, IsBack, HasEnded, items_of}
use Rattle.ada_typed.proofs.Runs.{step_typed}
use Rattle.ada_scopes.proofs.Runs.{step_nested}
use Rattle.ada_idle.proofs.Runs.{step_idle}
use Rattle.ada_idle.proofs.UnadjustedRuns.{step_adjusts_none}
use Rattle.ada_sound.proofs.Items.{NoMaster, HasItem, has_after}
use Rattle.ada_sound.proofs.Stored.{AllOut, Stored}
use Rattle.ada_sound.proofs.InOrder.{goes_well}
use Rattle.ada_sound.proofs.SparesNewer.{spared_where_reached}
use Rattle.ada_sound.proofs.WordsOut.{words_out}
use Rattle.ada_sound.proofs.Trackers.{calls_stand_apart}
use Rattle.ada_sound.proofs.Adjusting.{AdjustingCopy}
use Rattle.ada_sound.proofs.AdjustingCopies.{WentOn, copy_goes, copy_stored}
use Rattle.ada_sound.proofs.CallsApartRuns.{step_apart}
use Rattle.ada_quiet.specs.Apart.{is_tracker}
use Rattle.ada_sound.proofs.QuietOperations.{operations_nest}
use Rattle.ada_sound.proofs.TouchingSteps.{touching_step}
use Rattle.ada_sound.proofs.OrdinarySteps.{Does, FineIn, Led, led_adjusting, led_next, led_touching, left_well, operating_step, ordinary_step, stored_in}
pub use Rattle.ada_sound.proofs.OrdinarySteps.{Does, FineIn, Led}
use Rattle.ada_sound.proofs.DepartingBegins.{between_here}
use Rattle.ada_sound.proofs.DepartingBodies.{within_step}
use Rattle.ada_sound.proofs.DepartingGoes as departing
use Rattle.ada_sound.proofs.DepartingGoes.{InDeparting}
use Rattle.ada_sound.proofs.DepartingLeaves.{leaves_step}
use Rattle.ada_sound.proofs.DepartingEnds.{backing_step}
use Rattle.ada_sound.proofs.DepartingTreats.{treats_step}
use Rattle.ada_sound.proofs.SeenStates.{out_plain, seen_at, seen_masters}
use Rattle.ada_sound.proofs.Touching.{Touching}
use Rattle.ada_sound.proofs.Alters.{BackIn, StaysItself}
use Rattle.ada_sound.proofs.Objects.{set_other}
use Rattle.ada_sound.proofs.Values.{same_or_not}
use Rattle.ada_sound.proofs.Invariant.{Says, EndsWell, departs, departs_next, innermost}
use Rattle.ada_sound.proofs.Callers.{known_in}
use Rattle.ada_sound.proofs.Returns.{same_types}
use Rattle.ada_sound.proofs.Ahead.{ahead_in}
use Rattle.ada_sound.proofs.Departing.{Backing, Between, Departing, Seen}
use Rattle.ada_sound.proofs.Grounded.{grounds}
use Rattle.ada_sound.proofs.Grounds.{Grounds}
use Rattle.ada_sound.proofs.StoredStates.{ready_stored}
use Rattle.ada_sound.proofs.Starts.{IsReached, Ordinary, Sound}
use Rattle.ada_sound.proofs.Treating.{treats_in_use}
use Rattle.ada_sound.proofs.Operating.{behind_operation}
use Rattle.ada_sound.proofs.Operates.{Operates}
use Rattle.ada_sound.proofs.OperationLaw.{operation_ends}

-- An object whose words are out.
OutIn : List Object → Id → Type 0
OutIn heap o = (x : Object) × (object_at heap o ≡ Some x) × (x.out ≡ true)

-- What goes back or is followed is an object whose words are out.
named_out : (heap : List Object) (v : Value) (id o : Id) (x : Object) → v ≡ Names id → object_at heap id ≡ Some x → x.out ≡ true → named_by v ≡ Some o → OutIn heap o
unfolding OutIn
named_out heap v id o x is found out named =
    let same : Some id ≡ Some o = rw is at named in
    let found' : object_at heap o ≡ Some x = rw (← some_same id o same) found in
    (x, found', out)
  where
    some_same : (p q : Id) → Some p ≡ Some q → p ≡ q
    some_same p q e = cc e

back_out : (implicit : Implicit) (p : ProgramForm) (e : Event) (heap : List Object) (after : State) (o : Id) → Says implicit p e heap after → back_of e ≡ Some o → OutIn heap o
back_out implicit p (Born v part turn type number by) heap after o says is = absurd (cc is)
back_out implicit p (Finalized v part turn type number cause) heap after o says is = absurd (cc is)
back_out implicit p (Back v access number pool subpool cause) heap after o says is = named_out heap v says.id o says.object says.is says.found says.out is
back_out implicit p (Followed v) heap after o says is = absurd (cc is)
back_out implicit p (Left master) heap after o says is = absurd (cc is)
back_out implicit p (Line line) heap after o says is = absurd (cc is)
back_out implicit p Quiet heap after o says is = absurd (cc is)

followed_out : (implicit : Implicit) (p : ProgramForm) (e : Event) (heap : List Object) (after : State) (o : Id) → AllOut heap → Says implicit p e heap after → followed_of e ≡ Some o → OutIn heap o
followed_out implicit p (Born v part turn type number by) heap after o out says is = absurd (cc is)
followed_out implicit p (Finalized v part turn type number cause) heap after o out says is = absurd (cc is)
followed_out implicit p (Back v access number pool subpool cause) heap after o out says is = absurd (cc is)
followed_out implicit p (Followed v) heap after o out says is = named_out heap v says.id o says.object says.is says.found (out says.id says.object says.found says.there) is
followed_out implicit p (Left master) heap after o out says is = absurd (cc is)
followed_out implicit p (Line line) heap after o out says is = absurd (cc is)
followed_out implicit p Quiet heap after o out says is = absurd (cc is)

-- What goes back is back after.
back_in : (implicit : Implicit) (p : ProgramForm) (e : Event) (heap : List Object) (after : State) (o : Id) → Says implicit p e heap after → back_of e ≡ Some o → BackIn after.heap o
back_in implicit p (Born v part turn type number by) heap after o says is = absurd (cc is)
back_in implicit p (Finalized v part turn type number cause) heap after o says is = absurd (cc is)
back_in implicit p (Back v access number pool subpool cause) heap after o says is = let same : Some says.id ≡ Some o = rw says.is at is in rw (← some_same says.id o same) says.back
  where
    some_same : (p q : Id) → Some p ≡ Some q → p ≡ q
    some_same p q e = cc e
back_in implicit p (Followed v) heap after o says is = absurd (cc is)
back_in implicit p (Left master) heap after o says is = absurd (cc is)
back_in implicit p (Line line) heap after o says is = absurd (cc is)
back_in implicit p Quiet heap after o says is = absurd (cc is)

-- What is out is not what is back.
differ_out : (heap : List Object) (a b : Option Id) → ((o : Id) → a ≡ Some o → BackIn heap o) → ((o : Id) → b ≡ Some o → OutIn heap o) → Differ a b
unfolding OutIn
differ_out heap None b back out = tt
differ_out heap (Some o) None back out = tt
differ_out heap (Some o) (Some p) back out = λ same.
    let x = back o refl in
    let y = out p refl in
    let found : object_at heap o ≡ Some y.0 = rw same y.1 in
    let e : x.0 ≡ y.0 = cc (found, x.1) in
    let b : y.0.out ≡ false = rw (← e) x.2 in
    absurd (cc (b, y.2))

-- Words go home as an event says, and objects keep their homes.
goes_home : (implicit : Implicit) (p : ProgramForm) (e : Event) (heap : List Object) (after : State) → Says implicit p e heap after → IsBackHome heap e
goes_home implicit p (Born v part turn type number by) heap after says = tt
goes_home implicit p (Finalized v part turn type number cause) heap after says = tt
goes_home implicit p (Back v access number pool subpool cause) heap after says = rw says.is (says.object, says.found, says.of_type, says.numbered, says.to_pool, says.to_subpool, says.home)
goes_home implicit p (Followed v) heap after says = tt
goes_home implicit p (Left master) heap after says = tt
goes_home implicit p (Line line) heap after says = tt
goes_home implicit p Quiet heap after says = tt

-- Each object is still there, as the object that it was.
abbrev KeepsObjects : List Object → List Object → Type 0
KeepsObjects before after = (o : Id) (x : Object) → object_at before o ≡ Some x → (y : Object) × (object_at after o ≡ Some y) × StaysItself x y × (x.out ≡ false → y.out ≡ false)

home_kept_by : (before after : List Object) (o : Option Id) (access number : ℕ) (pool subpool : Option ℕ) (leaving : Option _) → KeepsObjects before after → GoesHome before o access number pool subpool leaving → GoesHome after o access number pool subpool leaving
home_kept_by before after None access number pool subpool leaving keeps h = h
home_kept_by before after (Some o) access number pool subpool leaving keeps h =
    let y = keeps o h.0 h.1 in
    (y.0, y.1, y.2.0 ∙ h.2, y.2.1 ∙ h.3, rw y.2.2 h.4, rw y.2.2 h.5, rw y.2.2 h.6)

home_kept : (before after : List Object) (e : Event) → KeepsObjects before after → IsBackHome before e → IsBackHome after e
home_kept before after (Born v part turn type number by) keeps h = tt
home_kept before after (Finalized v part turn type number cause) keeps h = tt
home_kept before after (Back v access number pool subpool cause) keeps h = home_kept_by before after (named_by v) access number pool subpool (leaving_by (Some cause)) keeps h
home_kept before after (Followed v) keeps h = tt
home_kept before after (Left master) keeps h = tt
home_kept before after (Line line) keeps h = tt
home_kept before after Quiet keeps h = tt

-- What a step leads to, where such a collection may go.
abbrev pub LedOn : Program → List Object → Event → State → Type 0
LedOn program before e after = Led program before e after ⊎ InDeparting program before e after

-- What comes next is known.
abbrev pub FineOn : Program → State → Next → Type 0
FineOn program s (halts halt) = EndsWell halt s.heap s.masters
FineOn program s (moves e after) = LedOn program s.heap e after
FineOn program s (tells request e after) = LedOn program s.heap e after
FineOn program s (asks request answered) = (granted : Bool) → LedOn program s.heap Quiet (answered granted)
FineOn program s (picks n taken) = (i : ℕ) → suc i ≤ n → LedOn program s.heap Quiet (taken i)

fine_on : (program : Program) (s : State) (n : Next) → FineIn program s n → FineOn program s n
fine_on program s (halts halt) fine = fine
fine_on program s (moves e after) fine = inl fine
fine_on program s (tells request e after) fine = inl fine
fine_on program s (asks request answered) fine = λ granted. inl (fine granted)
fine_on program s (picks n taken) fine = λ i lt. inl (fine i lt)

-- A collection goes on going, or it has gone.
went_on : (program : Program) (before : List Object) (e : Event) (after : State) → departing.Went program before e after → LedOn program before e after
went_on program before e after (inl on) = inr on
went_on program before e after (inr gone) = inl (inl gone)

goes_on : (program : Program) (s : State) (n : Next) → departing.GoesDeparting program s n → FineOn program s n
goes_on program s (halts halt) goes = goes
goes_on program s (moves e after) goes = went_on program s.heap e after goes
goes_on program s (tells request e after) goes = went_on program s.heap e after goes
goes_on program s (asks request answered) goes = λ granted. went_on program s.heap Quiet (answered granted) (goes granted)
goes_on program s (picks n taken) goes = λ i lt. went_on program s.heap Quiet (taken i) (goes i lt)

module _ (program : Program) (s : State) (sound : Sound program s) where
  ground : Grounds program s
  ground = grounds program s sound

  abbrev coming : Next
  coming = next program.types.items (body_forms program) s

  -- Where no operation runs, and such a collection goes.
  between_step : (d : Between program s) → FineOn program s coming
  between_step d = by (departs_next true s.control) refl
    where
      by : (b : Bool) → departs_next true s.control ≡ b → FineOn program s coming
      by true leaves = goes_on program s coming (leaves_step program s sound (spared_where_reached program sound.well sound.spares_own sound.spares_newer s sound.reached) d leaves)
      by false treats = goes_on program s coming (treats_step program s sound d treats)

  -- Where no operation runs.
  settled_step : (o : Ordinary program s) → FineOn program s coming
  settled_step o = by (departs_next (departs (ahead_in (program_form program)) (innermost s.masters)) s.control) refl s.mode refl
    where
      stays : (s.mode ≡ Running → departs_next (departs (ahead_in (program_form program)) (innermost s.masters)) s.control ≡ false) → FineOn program s coming
      stays none =
          fine_on program s coming (ordinary_step program s ground (words_out program s sound.reached) o
          (left_well program s ground (words_out program s sound.reached) o (goes_well program sound.well s sound.nested (words_out program s sound.reached) (known_in program (running_procedure s) o.suspensions).program.types (same_types (running_procedure s) (program_form program)) s.masters refl))
          none)

      by : (b : Bool) → departs_next (departs (ahead_in (program_form program)) (innermost s.masters)) s.control ≡ b → (mode : Mode) → s.mode ≡ mode → FineOn program s coming
      by false none mode runs = stays (λ now. none)
      by true leaves Running runs = between_step (between_here program s o runs (words_out program s sound.reached) leaves).0
      by true leaves (Raising e) runs = stays (λ now. cc (now, runs))
      by true leaves Exiting runs = stays (λ now. cc (now, runs))
      by true leaves Returning runs = stays (λ now. cc (now, runs))

  departing_step : Departing program s → FineOn program s coming
  departing_step (inl between) = between_step between
  departing_step (inr (inl backing)) = goes_on program s coming (backing_step program s sound backing)
  departing_step (inr (inr within)) = goes_on program s coming (within_step program s sound within)

-- So what comes next keeps the invariant, and each state that a sound one steps to is sound.
step_fine : (program : Program) (s : State) → Sound program s → FineOn program s (next program.types.items (body_forms program) s)
step_fine program s sound = by sound.goes
  where
    by : Ordinary program s ⊎ (Operates program s ⊎ (Touching program s ⊎ (AdjustingCopy program s ⊎ Departing program s))) → FineOn program s (next program.types.items (body_forms program) s)
    by (inl o) = settled_step program s sound o
    by (inr (inl o)) = fine_on program s (next program.types.items (body_forms program) s) (operating_step program s o)
    by (inr (inr (inl f))) =
        fine_on program s (next program.types.items (body_forms program) s)
        (led_touching program s (next program.types.items (body_forms program) s) (touching_step program s (grounds program s sound) f))
    by (inr (inr (inr (inl d)))) =
        fine_on program s (next program.types.items (body_forms program) s)
        (led_next program s (WentOn program s d) (led_adjusting program s d) (next program.types.items (body_forms program) s)
        (copy_goes program sound.well d.adjusting.tracking sound.frees_own s sound.reached sound.nested sound.typed d))
    by (inr (inr (inr (inr d)))) = departing_step program s sound d

-- Where a choice leads, the invariant holds.
leads_fine : (program : Program) (s : State) (n : Next) (choice : Choice) (e : Event) (after : State) → FineOn program s n → Leads n choice e after → LedOn program s.heap e after
leads_fine program s (halts halt) choice e after f l = absurd l
leads_fine program s (moves d t) settled e after f l = rw (l.0, l.1) f
leads_fine program s (moves d t) (grants granted) e after f l = absurd l
leads_fine program s (moves d t) (takes i) e after f l = absurd l
leads_fine program s (tells request d t) settled e after f l = rw (l.0, l.1) f
leads_fine program s (tells request d t) (grants granted) e after f l = absurd l
leads_fine program s (tells request d t) (takes i) e after f l = absurd l
leads_fine program s (asks request answered) settled e after f l = absurd l
leads_fine program s (asks request answered) (grants granted) e after f l = rw (l.0, l.1) (f granted)
leads_fine program s (asks request answered) (takes i) e after f l = absurd l
leads_fine program s (picks n taken) settled e after f l = absurd l
leads_fine program s (picks n taken) (grants granted) e after f l = absurd l
leads_fine program s (picks n taken) (takes i) e after f l = rw (l.1, l.2) (f i l.0)

pub led : (program : Program) (s : State) (choice : Choice) (e : Event) (after : State) → Sound program s → Step program s choice e after → LedOn program s.heap e after
led program s choice e after r step = leads_fine program s (next program.types.items (body_forms program) s) choice e after (step_fine program s r) step

does_so : (program : Program) (before : List Object) (e : Event) (after : State) → LedOn program before e after → Does before e after
does_so program before e after (inl (inl (c, calm, none))) = record { implicit = implicit_of (program_form program); body = (known_in program (running_procedure after) c.suspensions).program; alters = c.stepped.alters; says = c.stepped.says }
does_so program before e after (inl (inr (inr (inl c)))) = record { implicit = implicit_of (program_form program); body = seen_in (running_procedure after) (program_form program); alters = c.alters; says = c.says }
does_so program before e after (inl (inr (inr (inr c)))) = record { implicit = implicit_of (program_form program); body = seen_in (running_procedure after) (program_form program); alters = c.alters; says = c.says }
does_so program before e after (inl (inr (inl c))) = record { implicit = implicit_of (program_form program); body = program_form program; alters = c.alters; says = c.says (implicit_of (program_form program)) (program_form program) }
does_so program before e after (inr c) = record { implicit = implicit_of (program_form program); body = seen_in (running_procedure after) (program_form program); alters = c.alters; says = c.says }

pub stepped : (program : Program) (s : State) (choice : Choice) (e : Event) (after : State) → Sound program s → Step program s choice e after → Does s.heap e after
stepped program s choice e after r step = does_so program s.heap e after (led program s choice e after r step)

goes_so : (program : Program) (before : List Object) (e : Event) (after : State) → LedOn program before e after → Ordinary program after ⊎ (Operates program after ⊎ (Touching program after ⊎ (AdjustingCopy program after ⊎ Departing program after)))
goes_so program before e after (inl (inl (c, calm, none))) = inl (record { suspensions = c.suspensions; ready = c.stepped.ready; stands = c.stands; calm = calm; settled = none })
goes_so program before e after (inl (inr (inl c))) = inr (inl c.operates)
goes_so program before e after (inl (inr (inr (inl c)))) = inr (inr (inl c.body))
goes_so program before e after (inl (inr (inr (inr c)))) = inr (inr (inr (inl c.body)))
goes_so program before e after (inr c) = inr (inr (inr (inr c.body)))

reached_then : (program : Program) (s : State) (choice : Choice) (e : Event) (after : State) → IsReached program s → Step program s choice e after → IsReached program after
reached_then program s choice e after (input, events, run) step = (input, events ++ e ∷ [], run_more e choice after run step)

pub sound_step : (program : Program) (s : State) (choice : Choice) (e : Event) (after : State) → Sound program s → Step program s choice e after → Sound program after
sound_step program s choice e after r step = record {
  reached = reached_then program s choice e after r.reached step;
  well = r.well;
  in_use = r.in_use;
  frees_own = r.frees_own;
  spares_own = r.spares_own;
  spares_newer = r.spares_newer;
  spares_adjusted = r.spares_adjusted;
  lets_nothing_out = r.lets_nothing_out;
  obeys = r.obeys;
  goes = goes_so program s.heap e after (led program s choice e after r step);
  idle = λ none. step_idle program none s after choice e (r.idle none) step;
  copies = λ none. step_adjusts_none program none s after choice e (r.copies none) step;
  apart = λ stand. step_apart (program_form program).types (is_tracker (program_form program)) program (calls_stand_apart (program_form program) stand).1 s after choice e (r.apart stand) step;
  typed = step_typed program r.well s after choice e r.typed step;
  nested = step_nested program s after choice e (λ treats. operations_nest (program_form program) r.well (treats_in_use program s (grounds program s r) s.control refl treats)) r.nested step;
}

pub sound_run : {program : Program} {s last : State} {events : List Event} → Run program s events last → Sound program s → Sound program last
sound_run here r = r
sound_run {program} {s = s} (there {event = e} choice mid step run) r = sound_run run (sound_step program s choice e mid r step)

-- As long as the words of an object are out, its home is an item of a master that is entered.
below_has : (n access : ℕ) (pool : Option ℕ) (upper lower : List Master) → HasItem n access pool (items_of lower) → HasItem n access pool (items_of (upper ++ lower))
below_has n access pool [] lower has = has
below_has n access pool (m ∷ upper) lower has = has_after n access pool m.items (items_of (upper ++ lower)) (below_has n access pool upper lower has)

abbrev IsHousedIn : State → Type 0
IsHousedIn s = (o : Id) (x : Object) → object_at s.heap o ≡ Some x → x.out ≡ true → HasItem x.cell.home.item x.cell.access x.cell.home.pool (items_of s.masters)

-- Where no operation runs, ...
ordinary_housed : (program : Program) (s : State) → Ordinary program s → IsHousedIn s
ordinary_housed program s n o x found out = ((stored_in program s n).1.sane o x found).housed out

-- ... where one does, ...
operating_housed : (program : Program) (s : State) → Operates program s → IsHousedIn s
operating_housed program s n o x found out =
    let c = (operation_ends program s n).0 in
    let stored = ready_stored (known_in program n.caller.procedure n.suspended.suspensions) (behind_operation (n.caller ∷ n.rest) n.behind n.lower s) c.stepped.ready in
    rw n.masters (below_has x.cell.home.item x.cell.access x.cell.home.pool n.upper n.lower ((stored.1.sane o x found).housed out))

touching_housed : (program : Program) (s : State) → Touching program s → IsHousedIn s
touching_housed program s f o x found out = ((ready_stored (known_in program (running_procedure s) f.suspensions) s f.ready).1.sane o x found).housed out

-- ... and where a collection goes: the state that stands for this one has the same objects but for ghosts, whose words are back.
seen_housed : {types : List ℕ} {item : ℕ} {ghosts : Id → Bool} {s v : State} → Seen types item ghosts s v → IsHousedIn v → IsHousedIn s
seen_housed seen housed_there o x found out =
    subst (λ (ms : List Master). HasItem x.cell.home.item x.cell.access x.cell.home.pool (items_of ms)) (seen_masters seen)
    (housed_there o x (seen_at seen o (out_plain seen o x found out) ∙ found) out)

-- The words of a member are to go back: its home is the newest item; other objects are as they are behind that.
backing_housed : (program : Program) (s : State) → Backing program s → IsHousedIn s
backing_housed program s d o x found out = by (same_or_not o.0 d.object.0)
  where
    by : (o.0 ≡ d.object.0) ⊎ (o.0 ≢ d.object.0) → HasItem x.cell.home.item x.cell.access x.cell.home.pool (items_of s.masters)
    by (inl same) =
        let one : x ≡ d.x = (let named : o ≡ d.object = ap (λ (n : ℕ). record { 0 = n }) same in let there = d.found in cc (named, found, there)) in
        rw (one, d.going.is) (inl (sym d.at_home, (sym d.of_access, d.from)))
    by (inr ne) =
        let here = seen_housed d.seen (ordinary_housed program d.v d.kept.ordinary) in
        here o x (set_other s.heap d.object.0 o.0 (returned d.x) ne ∙ found) out

departing_housed : (program : Program) (s : State) → Departing program s → IsHousedIn s
departing_housed program s (inl d) = seen_housed d.seen (ordinary_housed program d.v d.kept.ordinary)
departing_housed program s (inr (inl d)) = backing_housed program s d
departing_housed program s (inr (inr d)) =
    seen_housed d.seen (elim d.goes [ inl o ↦ operating_housed program d.v o | inr f ↦ touching_housed program d.v f ])

pub housed : (program : Program) (s : State) → Sound program s → (o : Id) (x : Object) → object_at s.heap o ≡ Some x → x.out ≡ true → HasItem x.cell.home.item x.cell.access x.cell.home.pool (items_of s.masters)
housed program s sound = by sound.goes
  where
    by : Ordinary program s ⊎ (Operates program s ⊎ (Touching program s ⊎ (AdjustingCopy program s ⊎ Departing program s))) → IsHousedIn s
    by (inl n) = ordinary_housed program s n
    by (inr (inl n)) = operating_housed program s n
    by (inr (inr (inl f))) = touching_housed program s f
    by (inr (inr (inr (inl d)))) = λ o x found out. ((copy_stored program s d).1.sane o x found).housed out
    by (inr (inr (inr (inr d)))) = departing_housed program s d

-- No erroneous action is next, and no exception leaves an operation.
pub none_is_next : (program : Program) (s : State) (why : Why) → Sound program s → Halts program s (Erroneous why) → ⊥
none_is_next program s why r e = rw e at (step_fine program s r)

pub nothing_escapes : (program : Program) (s : State) (x : Exception) → Sound program s → Halts program s (Escaped x) → ⊥
nothing_escapes program s x r e = rw e at (step_fine program s r)

-- Where a run has come to its end, no master is left, and so all words are back.
no_master : (ms : List Master) → NoMaster ms → ms ≡ []
no_master [] none = refl
no_master (m ∷ ms) none = absurd none

back_at_end : (heap : List Object) → Stored [] heap [] → All IsBack heap
back_at_end heap stored k d lt = go (slice_index_or heap k d) (slice_get-get_or heap k d lt)
  where
    go : (x : Object) → object_at heap (record { 0 = k }) ≡ Some x → x.out ≡ false
    go x found = by x.out refl
      where
        by : (b : Bool) → x.out ≡ b → x.out ≡ false
        by false e = e
        by true e = absurd ((stored.sane (record { 0 = k }) x found).housed e)

ends_by : (halt : Halt) (heap : List Object) (ms : List Master) → EndsWell halt heap ms → HasEnded halt → (ms ≡ []) × All IsBack heap
ends_by Finished heap ms w e = let none = no_master ms w.1 in (none, back_at_end heap (rw none at w.0))
ends_by (Unhandled x) heap ms w e = let none = no_master ms w.1 in (none, back_at_end heap (rw none at w.0))
ends_by (Escaped x) heap ms w e = absurd e
ends_by (Erroneous why) heap ms w e = absurd e
ends_by Stuck heap ms w e = absurd e
ends_by Memory heap ms w e = absurd e

pub ends_clean : (program : Program) (s : State) (halt : Halt) → Sound program s → Halts program s halt → HasEnded halt → (s.masters ≡ []) × All IsBack s.heap
ends_clean program s halt r is e = ends_by halt s.heap s.masters (rw is at (step_fine program s r)) e

-- Objects stay what they were, and what is back stays so.
pub objects_kept : {program : Program} {s last : State} {events : List Event} → Run program s events last → Sound program s → KeepsObjects s.heap last.heap
objects_kept here r = λ o x is. (x, is, (refl, refl, refl), λ h. h)
objects_kept {program} {s = s} (there {event = e} choice mid step run) r =
    let st = stepped program s choice e mid r step in
    λ o x is.
    let y = st.alters.kept o x is in
    let z = objects_kept run (sound_step program s choice e mid r step) o y.0 y.1 in
    (z.0, z.1, (z.2.0 ∙ y.2.0, z.2.1 ∙ y.2.1, z.2.2 ∙ y.2.2), λ back. z.3 (y.3 back))

back_kept : {program : Program} {s last : State} {events : List Event} (o : Id) → Run program s events last → Sound program s → BackIn s.heap o → BackIn last.heap o
back_kept o run r b = let y = objects_kept run r o b.0 b.1 in (y.0, y.1, y.3 b.2)

-- Laws of two events: what the first leaves behind lasts, and the second keeps to it.
module _ (R : Event → Event → Type 0) (K : Event → State → Type 0) (born : (program : Program) (e : Event) (before : List Object) (after : State) → Does before e after → K e after) (kept : (program : Program) (d : Event) (s : State) (choice : Choice) (e : Event) (after : State) → Sound program s → Step program s choice e after → K d s → R d e × K d after) where
  all_after : {program : Program} {s last : State} {events : List Event} (d : Event) → Run program s events last → Sound program s → K d s → All (R d) events
  all_after d here r h = All-nil (R d)
  all_after {program} {s = s} d (there {event = e} {events = es} choice mid step run) r h =
      let g = kept program d s choice e mid r step h in
      All-cons (R d) e es g.0 (all_after d run (sound_step program s choice e mid r step) g.1)

  pub all_pairs : {program : Program} {s last : State} {events : List Event} → Run program s events last → Sound program s → AllPairs R events
  all_pairs here r = λ i j d lt short. absurd (omega (arith, short))
  all_pairs {program} {s = s} (there {event = e} {events = es} choice mid step run) r =
      let st = stepped program s choice e mid r step in
      AllPairs-cons R e es (all_after e run (sound_step program s choice e mid r step) (born program e s.heap mid st)) (all_pairs run (sound_step program s choice e mid r step))

-- What went back is back from then on.
WentBack : Event → State → Type 0
WentBack e s = (o : Id) → back_of e ≡ Some o → BackIn s.heap o

went_born : (program : Program) (e : Event) (before : List Object) (after : State) → Does before e after → WentBack e after
unfolding WentBack
went_born program e before after st = λ o is. back_in st.implicit st.body e before after o st.says is

went_kept : (program : Program) (d : Event) (s : State) (e : Event) (after : State) → Does s.heap e after → WentBack d s → WentBack d after
unfolding WentBack
went_kept program d s e after st h = λ o is. let b = h o is in let y = st.alters.kept o b.0 b.1 in (y.0, y.1, y.3 b.2)

-- The words of an object go back at most once, and none is followed after.
pub back_once : {program : Program} {s last : State} {events : List Event} → Run program s events last → Sound program s → AllPairs BackTwoObjects events
unfolding WentBack
back_once = all_pairs BackTwoObjects WentBack went_born (λ program d s choice e after r step h. let st = stepped program s choice e after r step in (differ_out s.heap (back_of d) (back_of e) h (λ o is. back_out st.implicit st.body e s.heap after o st.says is), went_kept program d s e after st h))

pub followed_before_back : {program : Program} {s last : State} {events : List Event} → Run program s events last → Sound program s → AllPairs FollowedBeforeBack events
unfolding WentBack
followed_before_back = all_pairs FollowedBeforeBack WentBack went_born (λ program d s choice e after r step h. let st = stepped program s choice e after r step in (differ_out s.heap (back_of d) (followed_of e) h (λ o is. followed_out st.implicit st.body e s.heap after o (words_out program s r.reached) st.says is), went_kept program d s e after st h))

-- Words go back home.
pub back_home : {program : Program} {s last : State} {events : List Event} → Run program s events last → Sound program s → All (IsBackHome last.heap) events
back_home {last = last} here r = All-nil (IsBackHome last.heap)
back_home {program} {s = s} {last = last} run r = go run r
  where
    go : {t : State} {events : List Event} → Run program t events last → Sound program t → All (IsBackHome last.heap) events
    go here r' = All-nil (IsBackHome last.heap)
    go {t = t} (there {event = e} {events = es} choice mid step rest) r' =
        let st = stepped program t choice e mid r' step in
        All-cons (IsBackHome last.heap) e es
        (home_kept t.heap last.heap e (objects_kept (there choice mid step rest) r') (goes_home st.implicit st.body e t.heap mid st.says))
        (go rest (sound_step program t choice e mid r' step))

-- The words of an object are back exactly where an event says so.
told_run : {program : Program} {s last : State} {events : List Event} (o : Id) → Run program s events last → Sound program s → BackIn last.heap o → BackIn s.heap o ⊎ Happened (GivesBackOf o) events
told_run o here r b = inl b
told_run {program} {s = s} o (there {event = e} choice mid step run) r b =
    let st = stepped program s choice e mid r step in
    elim (told_run o run (sound_step program s choice e mid r step) b) [ inl h ↦ elim (st.alters.told o h.0 h.1 h.2) [ inl g ↦ inl g | inr g ↦ inr (inl g) ] | inr h ↦ inr (inr h) ]

happened_back : {program : Program} {s last : State} {events : List Event} (o : Id) → Run program s events last → Sound program s → Happened (GivesBackOf o) events → BackIn last.heap o
happened_back o here r h = absurd h
happened_back {program} {s = s} o (there {event = e} choice mid step run) r (inl h) =
    let st = stepped program s choice e mid r step in back_kept o run (sound_step program s choice e mid r step) (back_in st.implicit st.body e s.heap mid o st.says h)
happened_back {program} {s = s} o (there {event = e} choice mid step run) r (inr h) = happened_back o run (sound_step program s choice e mid r step) h

pub back_is_told : {program : Program} {s last : State} {events : List Event} → s.heap ≡ [] → Run program s events last → Sound program s → (o : Id) (x : Object) → object_at last.heap o ≡ Some x → IsBack x ↔ Happened (GivesBackOf o) events
back_is_told {s = s} {last = last} {events = es} empty run r o x found = (told, back)
  where
    none_back : BackIn s.heap o → ⊥
    none_back b = let h : BackIn [] o = rw empty at b in cc (h.1)

    told : x.out ≡ false → Happened (GivesBackOf o) es
    told out = elim (told_run o run r (x, found, out)) [ inl b ↦ absurd (none_back b) | inr h ↦ h ]

    back : Happened (GivesBackOf o) es → x.out ≡ false
    back h = let b = happened_back o run r h in let e : b.0 ≡ x = cc (found, b.1) in rw e at b.2
