-- Each step of the body of an Adjust that tracks components of its formal parameter (7.6), but its end: the state that stands for the real one takes a step,
-- too, or stays as it is, and keeps what is known of it.

use Rattle.std.proofs.Common.{◌≡◌, ℕ, Bool, true, false, List, [], ◌∷◌, ◌++◌, refl, sym, ◌∙◌, inl, inr, subst}
use Rattle.std.proofs.lemmas.Bool.{eq-eqb}
use Rattle.std.specs.Prelude.{Option, Some}
use Rattle.std.specs.List.{AllPairs}
use Rattle.ada_deeds.specs.Implicit.{implicit_of}
use Rattle.ada_meaning.specs.declared.state.Id.{Id}
use Rattle.ada_meaning.specs.declared.state.Mode.{Mode}
use Rattle.ada_meaning.specs.declared.state.Mode.TheVariants.{Running, Raising, Exiting, Returning}
use Rattle.ada_meaning.specs.declared.state.Value.{Value}
use Rattle.ada_meaning.specs.declared.state.Value.TheVariants.{Names}
use Rattle.ada_meaning.specs.Event.{Quiet}
use Rattle.ada_meaning.specs.Frame as frame
use Rattle.ada_meaning.specs.Frame.{Frame, Leaves}
use Rattle.ada_meaning.specs.Law.{items_of}
use Rattle.ada_meaning.specs.Named.{Object, State, Next, all_alive, next, object_at}
use Rattle.ada_meaning.specs.Run.{Event}
use Rattle.ada_meaning.specs.State.{Activation, Master}
use Rattle.ada_meaning.specs.Step.{halts, moves, tells, asks, picks, older, places, operands_of}
use Rattle.ada_program.specs.declared.program.Program.{Program}
use Rattle.ada_program.specs.declared.program.TypeDefinition.{TypeDefinition}
use Rattle.ada_program.specs.ProgramForm.{BodyForm, ProgramForm, TypeForm, body_forms, program_form, seen_in}
use Rattle.ada_program.specs.WellFormed.{IsWellFormed, is_access}
use Rattle.ada_scopes.proofs.Homes.{ItemsFit}
use Rattle.ada_scopes.specs.Scopes.{CollectTwoTypes}
use Rattle.ada_tracked.proofs.Law.{runs_as_variables}
use Rattle.ada_tracked.proofs.Staying.{stay_simple}
use Rattle.ada_tracked.proofs.Wholes.{assigns_bare}
use Rattle.ada_reaching.specs.Law.{AllGoOn}
use Rattle.ada_tracked.specs.Copying.{CopiesNone, is_tracked_at}
use Rattle.ada_tracked.specs.Frames.{View, blanked}
use Rattle.ada_tracked.specs.Law.{InnermostHousesNone, IsSilent, Matches, Shown, both, alone}
use Rattle.ada_tracked.specs.Law as matching
use Rattle.ada_tracked.specs.Looking.{LooksElsewhere}
use Rattle.ada_tracked.specs.Seen.{IsWatched, Seen}
use Rattle.ada_tracked.specs.Staying.{AllStaySimple, StaysSimple}
use Rattle.ada_typed.proofs.Objects.{record_no_access}
use Rattle.ada_typed.proofs.Control as typed
use Rattle.ada_typed.proofs.Kept.{Each}
use Rattle.ada_sound.specs.Agreement.{running_procedure}
use Rattle.ada_quiet.specs.Apart.{is_tracker}
use Rattle.ada_quiet.specs.Bare.{has_bare_objects}
use Rattle.ada_sound.proofs.CallsApart.{CallApart, AllCallApart}
use Rattle.ada_sound.proofs.CallsApartSteps.{calls_stay_apart}
use Rattle.ada_sound.proofs.FormalStays.{SamePlaces, AllSamePlaces, places_stay}
use Rattle.ada_sound.proofs.Gathered.{AllocatesBare}
use Rattle.ada_sound.proofs.Adjusting.{Adjusting, waiting}
use Rattle.ada_sound.proofs.Coming.{each_next}
use Rattle.ada_sound.proofs.AdjustingKept.{IsJudged, each_both, alters_matched, says_covered, says_matched, says_silent, standing_kept}
use Rattle.ada_sound.proofs.AdjustingSeen.{SameRun, StandsFor, calls_or_copies, each_runs_on, frugal_alone, next_simple, seen_leaves, seen_within, simple_crosses, simple_still, stands_for, within}
use Rattle.ada_sound.proofs.Alters.{Alters, alters_same}
use Rattle.ada_sound.proofs.Below.{named_below}
use Rattle.ada_sound.proofs.Blanked.{alters_unblanked, ends_unblanked, out_blanked, says_unblanked, unblanked}
use Rattle.ada_sound.proofs.Callers.{AreOf, none_under}
use Rattle.ada_sound.proofs.FrugalControl.{AreOwnedBy, Frugal, Frugally, GoesFrugally, is_return_first}
use Rattle.ada_sound.proofs.FrugalLeaves.{frugal_stays, held_in_none, innermost_houses_none, leaves_own, owned_goes_well, owned_variables}
use Rattle.ada_sound.proofs.FrugalSteps.{is_call_first, frugal_crosses, frugal_steps, none_ends, treats_none}
use Rattle.ada_sound.proofs.Homes.{NoneIsUnder}
use Rattle.ada_sound.proofs.Invariant.{Control, EndsWell, Fine, IsFollowed, Known, Parting, Ready, ReadyIn, RunsOn, Says, Standing, Stepped, departs, departs_next, innermost, outers}
use Rattle.ada_sound.proofs.Judged.{known_judged}
use Rattle.ada_sound.proofs.Leavings.{GoesWell, HeldIn, NamedBelow}
use Rattle.ada_sound.proofs.Operating.{InBody, StepsTo}
use Rattle.ada_sound.proofs.Returns.{same_types}
use Rattle.ada_sound.proofs.Allowance.{simple_allowance}
use Rattle.ada_sound.proofs.InsideRecords.{object_inside, record_inside}
use Rattle.ada_sound.proofs.FrugalFrees.{bare_by, frees_bare, records_bare_by}
use Rattle.ada_sound.proofs.Sparing.{Sparing}
use Rattle.ada_sound.proofs.Standing.{AllStand, FinalizesBy, FinalizesIn, FreesAmong}
use Rattle.ada_sound.proofs.Steps as inside
use Rattle.ada_sound.proofs.Stored.{AllOut, IsUnder, none_departed}
use Rattle.ada_sound.proofs.Trackers.{tracks_apart}
use Rattle.ada_sound.proofs.TracksWell.{tracked_bare}

-- The body runs for the same copy in two states.
pub record SameCopy (program : Program) (s after : State) (f : Adjusting program s) (g : Adjusting program after) : Type 0 where
  pub view : g.w ≡ f.w
  pub object : g.object ≡ f.object
  pub access : g.access ≡ f.access
  pub record_type : g.record_type ≡ f.record_type
  pub tasks : g.tasks ≡ f.tasks
  pub behind : g.behind ≡ f.behind
  pub lower : g.lower ≡ f.lower

-- It does so behind a step; and what that does to objects.
abbrev pub InAdjusting : (program : Program) (s : State) → Adjusting program s → Event → State → Type 0
InAdjusting program s f e after = (c : InBody program (Adjusting program) s.heap e after) × SameCopy program s after f c.body

-- So it does whatever comes next, if the run does not end.
abbrev pub GoesAdjusting : (program : Program) (s : State) → Adjusting program s → Next → Type 0
GoesAdjusting program s f n = StepsTo (InAdjusting program s f) s n

-- What is known of the objects and the masters of a state: each bare object that is in its collection has the values of all its parts, the words of each one that
-- is there are out, collections are of two types each, and what masters own fits the types.
pub record IsOrderly (program : Program) (s : State) : Type 0 where
  pub stand : (o : Id) (x : Object) → object_at s.heap o ≡ Some x → x.listed ≡ true → is_access (program_form program).types x.cell.access ≡ true
      → has_bare_objects (program_form program).types x.cell.access ≡ true → all_alive x.cell.parts ≡ true
  pub whole : AllOut s.heap
  pub two : AllPairs CollectTwoTypes (items_of s.masters)
  pub fit : ItemsFit (program_form program).types (items_of s.masters)

-- The next step of the body looks at the object by the formal parameter alone, and so it is behind it.
abbrev pub SparesOn : Program → View → (access : ℕ) → (behind : Control) → (lower : List Master) → State → Type 0
SparesOn program w access behind lower s =
    LooksElsewhere w s × AllGoOn (Sparing program w.object access behind lower) (next program.types.items (body_forms program) s)

-- What goes on whatever comes next does so.
each_spared : (P : State → Type 0) (n : Next) → AllGoOn P n → Each P n
each_spared P (halts halt) goes = tt
each_spared P (moves e after) goes = goes
each_spared P (tells request e after) goes = goes
each_spared P (asks request answered) goes = goes
each_spared P (picks n taking) goes = goes

-- A master of the body is left: it owns variables alone, and no object has its home there.
module _ (program : Program) (s : State) (f : Adjusting program s) where
  abbrev types_of : List TypeDefinition
  types_of = program.types.items

  of_other : StandsFor f.w s f.t
  of_other = stands_for types_of (body_forms program) f.w s f.t f.seen

  own_masters : (left : Mode) (k : Control) → f.t.control ≡ Leaves left ∷ k → AreOwnedBy (simple_allowance (program_form program).types) (innermost f.t.masters)
  own_masters left k at =
      let owned = leaves_own (simple_allowance (program_form program).types) f.behind [] f.t.mode left k f.frugal.upper f.lower (rw at at f.frugal.frugally) in
      subst (λ (ms : List Master). AreOwnedBy (simple_allowance (program_form program).types) (innermost ms)) (sym f.frugal.masters) owned

  -- Where the real state leaves one, the other one does.
  pub houses_none : (left : Mode) (k : Control) → s.control ≡ Leaves left ∷ k → InnermostHousesNone s.masters
  houses_none left k at =
      let there = seen_leaves types_of (body_forms program) f.w s f.t left k f.seen at in
      rw (← of_other.masters) (innermost_houses_none f.t.masters (owned_variables (simple_allowance (program_form program).types) refl (innermost f.t.masters) (own_masters left there.0 there.1)))

module _
    (program : Program) (well : IsWellFormed (program_form program)) (s : State) (orderly : IsOrderly program s) (f : Adjusting program s)
    (judged : IsJudged program f.number f.w.tracks) (watched : IsWatched f.w (places s) s.heap) (spares : SparesOn program f.w f.access f.behind f.lower s)
    (copies : CopiesNone program.types.items f.w.object (is_tracked_at f.w) s)
    (inner : is_return_first s.control ≡ false) where
  abbrev p : ProgramForm
  p = program_form program

  abbrev tds : List TypeDefinition
  tds = program.types.items

  abbrev bodies : List BodyForm
  bodies = body_forms program

  abbrev known : Known
  known = known_judged program f.number f.w.tracks (waiting program s f ∷ f.suspensions)

  abbrev own : ProgramForm
  own = seen_in (Some f.number) p

  types_are : known.program.types ≡ p.types
  types_are = same_types (Some f.number) p

  of_t : StandsFor f.w s f.t
  of_t = stands_for tds bodies f.w s f.t f.seen

  -- Something waits for the body.
  some_waits : older s.activations ≡ [] → ⊥
  some_waits none = let of : AreOf program [] (waiting program s f ∷ f.suspensions) = subst (λ (all : List (Activation Value)). AreOf program all (waiting program s f ∷ f.suspensions)) none f.bodies in of

  firsts : (is_return_first f.t.control ≡ false) × (is_call_first f.t.control ≡ false)
  firsts = seen_within tds bodies f.w s f.t f.seen f.simple inner some_waits

  none_crosses : inside.crosses f.t.mode f.t.control ≡ false
  none_crosses = frugal_crosses (simple_allowance p.types) refl refl f.behind [] f.t.mode f.t.control f.frugal.upper f.frugal.frugally firsts.0 (λ runs. firsts.1)

  alone_there : calls_or_copies f.t.control ≡ false
  alone_there = frugal_alone p.types f.behind [] f.t.mode f.t.control f.frugal.upper f.frugal.frugally

  abbrev bare_types : ℕ → Bool
  bare_types access = has_bare_objects p.types access

  -- Each object that may be freed stands in the other one, too.
  alive : AllStand bare_types known.program.types (outers known) f.t.heap
  alive o y found listed of bare inside =
      let x = unblanked f.w s.heap o y (subst (λ (heap : List Object). object_at heap o ≡ Some y) of_t.heap found) in
      let access : is_access p.types x.object.cell.access ≡ true = subst (λ (t : ℕ). is_access p.types t ≡ true) (sym x.alike.access) (subst (λ (all : List TypeForm). is_access all y.cell.access ≡ true) types_are of) in
      rw (sym x.alike.parts) (orderly.stand o x.object x.found (x.alike.listed ∙ listed) access (subst (λ (t : ℕ). bare_types t ≡ true) (sym x.alike.access) bare))

  finalizes : FinalizesIn bare_types known.program.types (outers known) tds bodies f.t.mode f.t.control f.t
  finalizes = by f.t.mode f.t.control f.frugal.upper f.frugal.frugally
    where
      by_frame : (g : Frame Value) (k : Control) (mode : Mode) (ms : List Master) → Frugal (simple_allowance p.types) f.behind [] mode (g ∷ k) ms → FinalizesBy bare_types known.program.types (outers known) tds bodies g (record f.t { mode = Running; control = k })
      by_frame (frame.Does fs) k mode ms q = alive
      by_frame (frame.FreesIn access c) k mode ms q = alive
      by_frame (frame.Treats v treatment tasks) k mode ms q = absurd (treats_none (simple_allowance p.types) refl refl f.behind [] mode (frame.Treats v treatment tasks ∷ k) ms q v treatment tasks k refl)
      by_frame g k mode ms q = tt

      by : (mode : Mode) (k : Control) (ms : List Master) → Frugal (simple_allowance p.types) f.behind [] mode k ms → FinalizesIn bare_types known.program.types (outers known) tds bodies mode k f.t
      by Running [] ms q = tt
      by Running (g ∷ k) ms q = by_frame g k Running ms q
      by (Raising e) k ms q = tt
      by Exiting k ms q = tt
      by Returning k ms q = tt

  -- Where the other one leaves a master, no object has its home there, and what callers rely on lies in outer ones.
  low : (left : Mode) (k : Control) → f.t.mode ≡ Running → f.t.control ≡ Leaves left ∷ k → HeldIn f.t.heap f.t.masters × NamedBelow (outers known) f.t.heap f.t.masters × GoesWell known.program.types f.t.heap (innermost f.t.masters)
  low left k runs at =
      let fits : ItemsFit known.program.types (items_of f.t.masters) = rw of_t.masters (subst (λ (types : List TypeForm). ItemsFit types (items_of s.masters)) (sym types_are) orderly.fit) in
      let parting : Parting known f.t.heap (places f.t) f.t.masters (RunsOn known (Leaves left ∷ k)) = rw (runs, at) at f.ready.1 in (
        held_in_none known f.t.heap (places f.t) f.t.masters (RunsOn known (Leaves left ∷ k)) parting (simple_allowance p.types) (own_masters program s f left k at) fits
            (λ objects. absurd (cc objects)),
        named_below known f.t.heap f.standing.waiting f.standing.low left k f.t.masters parting,
        owned_goes_well (simple_allowance p.types) known.program.types (λ objects. absurd (cc objects)) f.t.heap f.t.masters (own_masters program s f left k at) fits,
      )

  -- So no collection is left there.
  stays_next : f.t.mode ≡ Running → departs_next (departs known.ahead (innermost f.t.masters)) f.t.control ≡ false
  stays_next runs =
      let ready : ReadyIn known Running f.t.control f.t.heap (places f.t) (operands_of f.t.activations) (f.frugal.upper ++ f.lower) = rw (runs, f.frugal.masters) at f.ready.1 in
      subst (λ (ms : List Master). departs_next (departs known.ahead (innermost ms)) f.t.control ≡ false) (sym f.frugal.masters)
      (frugal_stays known (simple_allowance p.types) f.behind [] f.t.mode f.t.control f.t.heap (places f.t) (operands_of f.t.activations) f.frugal.upper f.lower f.frugal.frugally ready)

  -- What is freed next is bare.
  freely : FreesAmong bare_types f.t.control
  freely = frees_bare (simple_allowance p.types) refl f.behind [] f.t.mode f.t.control f.frugal.upper f.frugal.frugally

  -- The words of all that is there are out in the other one, too; and nothing is under way.
  out_there : AllOut f.t.heap
  out_there = subst AllOut (sym of_t.heap) (out_blanked f.w s.heap orderly.whole)

  none_is_under : NoneIsUnder bare_types (outers known).under f.t.heap
  none_is_under o x (inl under) found =
      let none : IsUnder [] o = subst (λ (all : List Id). IsUnder all o) (none_under program f.suspensions f.settled) under in absurd none
  none_is_under o x (inr departed) found = none_departed f.t.heap out_there o x departed

  -- No allocator copies a record with controlled parts, or makes an object with some from items.
  bare_there : AllocatesBare known.program known.touches f.t.control
  bare_there =
      tracked_bare program well (tracks_apart (program_form program) f.tracking) known.program types_are f.t
      (λ x t is. record_no_access known.program.types known.program.variables x t.0 judged.fits.variables_fit (rw is (eq-eqb t.0 t.0 refl))) (λ stand. f.apart)

  places_on : AllSamePlaces s (next tds bodies s)
  places_on = places_stay tds bodies f.w.tracks.first s (within f.w.tracks.first s.control f.simple inner)

  apart_on : AllCallApart p.types (is_tracker p) (next tds bodies f.t)
  apart_on = calls_stay_apart tds bodies p.types (is_tracker p) judged.apart f.t f.apart

  -- So the other one takes its step well.
  fine_on : Fine known f.t.heap f.t.masters (next tds bodies f.t)
  fine_on =
      judged.keeps (waiting program s f ∷ f.suspensions) f.t alone_there none_crosses f.typed bare_there
      (subst (λ (ms : List Master). AllPairs CollectTwoTypes (items_of ms)) (sym of_t.masters) orderly.two) bare_types finalizes none_is_under (λ runs. freely) low stays_next f.ready

  frugal_on : GoesFrugally (simple_allowance p.types) f.lower f.behind [] (next tds bodies f.t)
  frugal_on =
      frugal_steps known.program judged.owns tds bodies (simple_allowance p.types) (bare_by program) (records_bare_by program) (record_inside program, object_inside program) (λ number b there told. absurd (cc told)) (λ objects. absurd (cc objects)) f.behind [] f.lower f.t f.frugal
      (λ actuals references k is. absurd (let first = firsts.0 in cc (rw is at first))) (λ runs. treats_none (simple_allowance p.types) refl refl f.behind [] f.t.mode f.t.control f.frugal.upper f.frugal.frugally) f.typed
      bare_types (λ runs. freely) (λ treats_parts runs first. absurd (cc treats_parts)) (λ objects. absurd (cc objects)) (λ objects runs. absurd (cc objects)) (λ treats_parts runs. absurd (cc treats_parts))

  typed_on : Each (typed.TypedIn known.program) (next tds bodies f.t)
  typed_on = judged.stays f.t f.typed alone_there none_crosses (none_ends (simple_allowance p.types) refl refl f.behind [] f.t.mode f.t.control f.frugal.upper f.frugal.frugally)

  -- And the real one takes a step to which it does.
  real_on : Each (SameRun s) (next tds bodies s)
  real_on = each_runs_on tds bodies s (simple_crosses f.w.tracks.first s.mode s.control f.simple inner)

  shown : Shown tds bodies f.w f.t (next tds bodies s) (next tds bodies f.t)
  shown = runs_as_variables tds bodies f.w s f.t f.seen watched spares.0 copies (next_simple f.w s.control s.masters f.simple inner (houses_none program s f))

  simple_on : AllStaySimple f.w.tracks.first (next tds bodies s)
  simple_on = stay_simple tds bodies f.w.tracks.first s (within f.w.tracks.first s.control f.simple inner) (assigns_bare tds f.w.object (is_tracked_at f.w) s copies)

  -- The object is there.
  followed : IsFollowed (Names f.w.object) s.heap
  followed = record { id = f.w.object; object = watched.object; is = refl; found = watched.at_object; there = rw watched.existing refl }

  -- The body looks at the object by its formal parameter alone.
  abbrev Spared : State → Type 0
  Spared = Sparing program f.w.object f.access f.behind f.lower

  -- The real run goes on in the same body, whose formal parameter stays; and the other one is typed still, and calls nothing that tracks.
  abbrev Runs : State → Type 0
  Runs after = SameRun s after × (SamePlaces s after × Spared after)

  abbrev Kept : State → Type 0
  Kept stands = typed.TypedIn known.program stands × CallApart p.types (is_tracker p) stands.control

  -- What holds behind a step.
  adjusting_by :
      (e : Event) (after stands : State) → Seen tds bodies f.w after stands → Runs after → Alters s.heap e after.heap → StaysSimple f.w.tracks.first after.control → Standing known stands
      → Kept stands → Ready known stands → Frugally (simple_allowance p.types) f.lower f.behind [] stands → Says known.implicit own e s.heap after → InAdjusting program s f e after
  adjusting_by e after stands seen same a simple standing typing ready frugal says =
      let y = a.kept f.object f.x f.found in
      let runs : running_procedure after ≡ Some f.number = same.0.procedure ∙ f.runs in (
        record {
          body = record {
            number = f.number;
            b = f.b;
            there = f.there;
            runs = runs;
            w = f.w;
            tracks_so = f.tracks_so;
            tracker = f.tracker;
            components = f.components;
            orderly = f.orderly;
            lone = f.lone;
            t = stands;
            seen = seen;
            simple = simple_still tds bodies f.w (simple_allowance p.types) refl refl f.behind [] after stands frugal.upper seen frugal.frugally simple;
            procedure = f.procedure;
            places = f.places;
            suspensions = f.suspensions;
            object = f.object;
            object_so = f.object_so;
            place = f.place;
            based = f.based;
            formal = same.1.0.first ∙ f.formal;
            count = same.1.0.count ∙ f.count;
            x = y.0;
            found = y.1;
            access = f.access;
            of_access = y.2.0 ∙ f.of_access;
            by = f.by;
            copies = f.copies;
            done = f.done;
            of = f.of;
            record_type = f.record_type;
            tasks = f.tasks;
            behind = f.behind;
            ends = same.0.behind ∙ f.ends;
            after = f.after;
            awaited = f.awaited;
            lower = f.lower;
            sparing = same.1.1;
            kept = f.kept;
            rooms = f.rooms;
            holds = f.holds;
            frugal = frugal;
            waits = f.waits;
            untreated = f.untreated;
            rests = f.rests;
            aside = f.aside;
            calm = f.calm;
            settled = f.settled;
            tracking = f.tracking;
            may = f.may;
            silent = f.silent;
            bodies = subst (λ (all : List (Activation Value)). AreOf program all (waiting program s f ∷ f.suspensions)) (sym same.0.suspended) f.bodies;
            standing = standing;
            typed = typing.0;
            apart = typing.1;
            ready = ready;
          };
          alters = a;
          says = subst (λ (procedure : Option ℕ). Says (implicit_of p) (seen_in procedure p) e s.heap after) (sym runs) says;
        },
        record { view = refl; object = refl; access = refl; record_type = refl; tasks = refl; behind = refl; lower = refl },
      )

  -- Both take a step.
  both_on :
      (e g : Event) (after stands : State) → Matches f.w e g → Seen tds bodies f.w after stands → Runs after → StaysSimple f.w.tracks.first after.control → Stepped known f.t.heap g stands
      → Kept stands → Frugally (simple_allowance p.types) f.lower f.behind [] stands → InAdjusting program s f e after
  both_on e g after stands matches seen same simple step typing frugal =
      let of_after = stands_for tds bodies f.w after stands seen in
      let before : Alters f.t.heap g (blanked f.w after.heap) = subst (Alters f.t.heap g) of_after.heap step.alters in
      let a : Alters s.heap g after.heap = alters_unblanked f.w s.heap after.heap g (subst (λ (heap : List Object). Alters heap g (blanked f.w after.heap)) of_t.heap before) in
      let says : Says known.implicit known.program g s.heap after =
      says_unblanked known.implicit known.program f.w s.heap g stands after of_after.heap (subst (λ (heap : List Object). Says known.implicit known.program g heap stands) of_t.heap step.says) in
      adjusting_by e after stands seen same (alters_matched f.w e g s.heap after.heap matches a) simple
      (standing_kept known f.t g stands (of_after.suspended ∙ (same.0.suspended ∙ sym of_t.suspended)) step.alters f.standing) typing step.ready frugal
      (says_matched f.w known.implicit own e g s.heap after followed matches (says_covered known.implicit known.program own refl judged.covered g s.heap after says))

  -- The real one takes a step alone.
  alone_on : (e : Event) (after : State) → IsSilent f.w e → Seen tds bodies f.w after f.t → Runs after → StaysSimple f.w.tracks.first after.control → InAdjusting program s f e after
  alone_on e after silent seen same simple =
      let of_after = stands_for tds bodies f.w after f.t seen in
      let a : Alters s.heap e after.heap =
      alters_unblanked f.w s.heap after.heap e (subst (Alters (blanked f.w s.heap) e) (sym of_t.heap ∙ of_after.heap) (alters_same (blanked f.w s.heap) e)) in
      adjusting_by e after f.t seen same a simple f.standing (f.typed, f.apart) f.ready f.frugal (says_silent f.w known.implicit own e s.heap after followed silent)

  next_on : (n m : Next) → Shown tds bodies f.w f.t n m → Each Runs n → AllStaySimple f.w.tracks.first n → Fine known f.t.heap f.t.masters m → GoesFrugally (simple_allowance p.types) f.lower f.behind [] m → Each Kept m → GoesAdjusting program s f n
  next_on (halts halt) m is same simple fine goes typing =
      let well_ends : EndsWell halt f.t.heap f.t.masters = subst (Fine known f.t.heap f.t.masters) is fine in
      ends_unblanked f.w halt s.heap s.masters (subst (λ (heap : List Object). EndsWell halt heap s.masters) of_t.heap (subst (EndsWell halt f.t.heap) of_t.masters well_ends))
  next_on (moves e after) m (both g stands is matches seen) same simple fine goes typing =
      both_on e g after stands matches seen same simple (subst (Fine known f.t.heap f.t.masters) is fine) (subst (Each Kept) is typing) (subst (GoesFrugally (simple_allowance p.types) f.lower f.behind []) is goes)
  next_on (moves e after) m (alone silent seen) same simple fine goes typing = alone_on e after silent seen same simple
  next_on (tells request e after) m (stands, is, seen) same simple fine goes typing =
      both_on e e after stands (matching.same refl) seen same simple (subst (Fine known f.t.heap f.t.masters) is fine) (subst (Each Kept) is typing) (subst (GoesFrugally (simple_allowance p.types) f.lower f.behind []) is goes)
  next_on (asks request answered) m (answers, is, seen) same simple fine goes typing = λ granted.
      (let steps : Fine known f.t.heap f.t.masters (asks request answers) = subst (Fine known f.t.heap f.t.masters) is fine in
      let types : Each Kept (asks request answers) = subst (Each Kept) is typing in
      let runs : GoesFrugally (simple_allowance p.types) f.lower f.behind [] (asks request answers) = subst (GoesFrugally (simple_allowance p.types) f.lower f.behind []) is goes in
      both_on Quiet Quiet (answered granted) (answers granted) (matching.same refl) (seen granted) (same granted) (simple granted) (steps granted) (types granted) (runs granted))
  next_on (picks n taken) m none same simple fine goes typing = none

  -- So the real run does.
  runs_on : Each Runs (next tds bodies s)
  runs_on =
      each_both (SameRun s) (λ after. SamePlaces s after × Spared after) (next tds bodies s) real_on
      (each_both (SamePlaces s) Spared (next tds bodies s) (each_next (SamePlaces s) (next tds bodies s) places_on) (each_spared Spared (next tds bodies s) spares.1))

  pub step_on : GoesAdjusting program s f (next tds bodies s)
  step_on =
      next_on (next tds bodies s) (next tds bodies f.t) shown runs_on simple_on fine_on frugal_on
      (each_both (typed.TypedIn known.program) (λ stands. CallApart p.types (is_tracker p) stands.control) (next tds bodies f.t) typed_on (each_next (λ (stands : State). CallApart p.types (is_tracker p) stands.control) (next tds bodies f.t) apart_on))

-- Each step of the body but its end keeps all that is known while it runs.
pub adjusting_step :
    (program : Program) → IsWellFormed (program_form program) → (s : State) → IsOrderly program s → (f : Adjusting program s)
    → IsJudged program f.number f.w.tracks → IsWatched f.w (places s) s.heap → SparesOn program f.w f.access f.behind f.lower s
    → CopiesNone program.types.items f.w.object (is_tracked_at f.w) s → is_return_first s.control ≡ false → GoesAdjusting program s f (next program.types.items (body_forms program) s)
adjusting_step program well s orderly f judged watched spares copies inner = step_on program well s orderly f judged watched spares copies inner
