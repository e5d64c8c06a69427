-- A member of a collection that goes is finalized (7.6.1), while for objects of its master operations may be called that touch storage: what is treated next, what the
-- step leads to, and what is behind the body of an operation that has ended.

use Rattle.std.proofs.Common.{◌≡◌, ◌≢◌, ℕ, suc, ◌≤◌, Bool, true, false, List, [], ◌∷◌, drop, length, refl, sym, ap, subst, ◌∙◌, ◌⊎◌, inl, inr, arith}
use Rattle.std.specs.Prelude.{◌==◌, if◌then◌else◌, Option, Some, None}
use Rattle.std.specs.List.{slice_get}
use Rattle.ada_deeds.specs.Implicit.{implicit_of}
use Rattle.ada_parts.specs.declared.tasks.Next.{Next as Follows}
use Rattle.ada_parts.specs.declared.tasks.Next.TheVariants.{Done, Pick, Perform}
use Rattle.ada_parts.specs.Task.{Task, performed, next as task_next}
use Rattle.ada_program.specs.declared.program.Program.{Program}
use Rattle.ada_program.specs.declared.program.TypeDefinition.{TypeDefinition}
use Rattle.ada_program.specs.Controlled.{operations_of, procedure_number, shapes_of}
use Rattle.ada_program.specs.ProgramForm.{BodyForm, ProgramForm, program_form, body_forms}
use Rattle.ada_program.specs.WellFormed.{is_access}
use Rattle.ada_meaning.specs.declared.event.Cause.{Cause}
use Rattle.ada_meaning.specs.declared.event.Cause.TheVariants.{Leaving}
use Rattle.ada_meaning.specs.declared.event.Halt.TheVariants.{Erroneous, Stuck}
use Rattle.ada_meaning.specs.declared.event.Why.TheVariants.{FinalizesTwice}
use Rattle.ada_meaning.specs.declared.state.Id.{Id}
use Rattle.ada_meaning.specs.declared.state.Mode.{Mode}
use Rattle.ada_meaning.specs.declared.state.Mode.TheVariants.{Running, Raising, Exiting, Returning}
use Rattle.ada_meaning.specs.declared.state.Value.{Value}
use Rattle.ada_meaning.specs.declared.state.Value.TheVariants.{Names, Part}
use Rattle.ada_meaning.specs.Event.{Quiet, Finalized}
use Rattle.ada_meaning.specs.Frame as frame
use Rattle.ada_meaning.specs.Frame.{Treatment, ends, Treats}
use Rattle.ada_meaning.specs.Heap.{Cell, Found, Home, PartState, on_null, on_gone, on_other, finds}
use Rattle.ada_meaning.specs.Law.{items_of}
use Rattle.ada_meaning.specs.Named.{Object, State, Next, named, object_at, look, on_object, treated, finalized_part, changed, next}
use Rattle.ada_meaning.specs.Run.{Event, settled}
use Rattle.ada_meaning.specs.State.{Activation, Master, Owned, collection}
use Rattle.ada_meaning.specs.Step.{halts, moves, tells, asks, picks, direction_of, ended_next, finalized_next, older, operands_of, operating, operation_next, part_reference, performed_next, picked_task, places_of, procedure_of, treated_on, treating, treats_next}
use Rattle.ada_owners.proofs.Objects.{at_other}
use Rattle.ada_reaching.proofs.Law.{operation_reaches}
use Rattle.ada_reaching.specs.Apart.{Apart}
use Rattle.ada_reaching.specs.Forms.{body_shuns}
use Rattle.ada_reaching.specs.Law.{AreApart, GhostsStay, none_hidden}
use Rattle.ada_reaching.specs.Reaching.{AreLow, IsOfShunned, IsReaching, none_unnamed}
use Rattle.ada_scopes.proofs.Components.{items_fit}
use Rattle.ada_scopes.proofs.Homes.{ItemsFit}
use Rattle.ada_typed.specs.Holding.{cells_of}
use Rattle.ada_typed.proofs.Control as typed
use Rattle.ada_typed.proofs.Evaluations.{cell_at}
use Rattle.ada_typed.proofs.Kept.{behind_call}
use Rattle.ada_typed.proofs.Lying.{IsOperable}
use Rattle.ada_typed.proofs.Runs.{step_typed}
use Rattle.ada_untouched.proofs.Law.{steps_alike}
use Rattle.ada_untouched.specs.Alike.{NextAlike, StatesAlike}
use Rattle.ada_sound.specs.Agreement.{running_procedure}
use Rattle.ada_sound.proofs.Ahead.{ahead_in}
use Rattle.ada_sound.proofs.Alters.{Alters, alters_same}
use Rattle.ada_sound.proofs.Callers.{known_in, Stands}
use Rattle.ada_sound.proofs.Departing.{AreGone, AreGoneFrom, AreOfItem, Between, Departing, HasAccess, IsGoing, IsKept, IsLow, IsMember, IsLeft, Seen, confined, ended, ending, has_gone, next_member, treated as member_treated}
use Rattle.ada_sound.proofs.DepartingGoes.{GoesDeparting, InDeparting}
use Rattle.ada_sound.proofs.Grounded.{grounds}
use Rattle.ada_sound.proofs.Grounds.{Grounds, Ordinary}
use Rattle.ada_sound.proofs.Invariant.{Control, EndsWell, Known, Ready, ReadyIn, Stepped, departs, departs_next, innermost}
use Rattle.ada_sound.proofs.Operated.{OperatedAs}
use Rattle.ada_sound.proofs.Operates.{Operates}
use Rattle.ada_sound.proofs.Operating.{IsCalled, IsCalm, WaitsFor}
use Rattle.ada_sound.proofs.OperationBegins.{begins_operation, calm_around}
use Rattle.ada_sound.proofs.OperationStarts.{calm_behind}
use Rattle.ada_sound.proofs.OrdinarySteps.{calm_here, in_use_here, state_with, treated_in}
use Rattle.ada_sound.proofs.QuietOperations.{AdjustsCopy, IsUsedAs, used_as}
use Rattle.ada_sound.proofs.Ready.{running}
use Rattle.ada_sound.proofs.SeenGrounds.{seen_grounds_between}
use Rattle.ada_sound.proofs.SeenStates.{seen_at, seen_control, seen_ends, seen_on}
use Rattle.ada_sound.proofs.ShunningEnds.{finalize_shuns}
use Rattle.ada_sound.proofs.Starts.{Sound}
use Rattle.ada_sound.proofs.Touching.{Touching}
use Rattle.ada_sound.proofs.TouchingStarts.{touching_outermost}
use Rattle.ada_sound.proofs.Treating.{told_covered, told_says}
use Rattle.ada_sound.proofs.Treatments.{Begins, Goes, StaysHere, TellsNothing, TreatedIn, alters_treated, confines_fine}
use Rattle.ada_sound.proofs.Waiting.{stands_kept}
use Rattle.ada_sound.proofs.WordsOut.{words_out}

-- A master is left next.
abbrev pub leaves_next : Control → Bool
leaves_next [] = false
leaves_next (frame.Leaves mode ∷ k) = true
leaves_next (f ∷ k) = false

-- Where none is, nothing more is known of variables,
low_elsewhere :
    (known : Known) (mode : Mode) (k : Control) (heap : List Object) (places operands : List Value) (masters : List Master) (ready : ReadyIn known mode k heap places operands masters)
    → leaves_next k ≡ false → IsLow known mode k heap places operands masters ready
low_elsewhere known Running (frame.Leaves left ∷ k) heap places operands masters ready none = absurd (cc none)
low_elsewhere known mode k heap places operands masters ready none = tt

-- so the invariant is all that is to be kept.
pub kept_elsewhere : (program : Program) (v : State) → Ordinary program v → leaves_next v.control ≡ false → IsKept program v
kept_elsewhere program v o none = record {
  ordinary = o;
  low = low_elsewhere (known_in program (running_procedure v) o.suspensions) v.mode v.control v.heap (places_of v.activations) (operands_of v.activations) v.masters o.ready.1 none;
}

-- None is, where a member is treated, or ends.
leaves_behind : (v : Value) (treatment : Treatment) (tasks : List Task) (w : Value) (k : Control) → leaves_next (treating v treatment tasks (frame.Ends w ∷ k)) ≡ false
leaves_behind v treatment [] w k = refl
leaves_behind v treatment (task ∷ tasks) w k = refl

-- What is of a collection is so behind a step.
pub is_member_still :
    (before after : List Object) (e : Event) (o : Id) (access item : ℕ) (pool : Option ℕ) → Alters before e after → IsMember before o access item pool → IsMember after o access item pool
is_member_still before after e o access item pool alters (x, found, of, at, from) =
    let y = alters.kept o x found in
    (y.0, y.1, y.2.0 ∙ of, ap (λ (home : Home). home.item) (y.2.2) ∙ at, ap (λ (home : Home). home.pool) (y.2.2) ∙ from)

-- What the step does of the finalization of an object: the object alone may change, and what is left of it is treated then, or the body of an operation begins.
module _ (types : List TypeDefinition) (bodies : List BodyForm) (o : Id) (cause : Cause) (s : State) where
  -- What is left is treated then.
  pub record IsTreatedOn (after : State) : Type 0 where
    pub tasks : List Task
    pub control : after.control ≡ treating (Names o) (ends cause) tasks s.control
    pub masters : after.masters ≡ s.masters
    pub mode : after.mode ≡ s.mode

  -- What a step does.
  pub record DoesAt (e : Event) (after : State) : Type 0 where
    pub alters : Alters s.heap e after.heap
    pub tells : TellsNothing e
    pub stays : (q : Id) → q ≢ o → object_at after.heap q ≡ object_at s.heap q
    pub on : after.activations ≡ s.activations → IsTreatedOn after

  -- It does so, whatever comes next.
  abbrev pub DoesNext : Next → Type 0
  DoesNext (halts halt) = Unit {0}
  DoesNext (moves e after) = DoesAt e after
  DoesNext (tells request e after) = ⊥
  DoesNext (asks request answered) = ⊥
  DoesNext (picks n taken) = (i : ℕ) → DoesAt Quiet (taken i)

  -- Nothing changes.
  does_same : (tasks : List Task) → DoesAt Quiet (treated_on named (Names o) (ends cause) tasks s)
  does_same tasks = record {
    alters = alters_same s.heap Quiet;
    tells = tt;
    stays = λ q ne. refl;
    on = λ same. record { tasks = tasks; control = refl; masters = refl; mode = refl };
  }

  -- A part of the object changes.
  other_stays : (part : ℕ) (q : Id) → q ≢ o → object_at (on_object (treated finalized_part part) s.heap (Names o)) q ≡ object_at s.heap q
  other_stays part q ne = by (object_at s.heap o)
    where
      by : (found : Option Object) → object_at (changed (treated finalized_part part) found s.heap o) q ≡ object_at s.heap q
      by None = refl
      by (Some x) = at_other s.heap o q (treated finalized_part part x) ne

  -- No activation is the one that it is behind another one.
  longer : (a : Activation Value) → a ∷ s.activations ≡ s.activations → ⊥
  longer a same = let one = ap length same in omega (arith, one)

  module _ (part : ℕ) (p : PartState) (tasks : List Task) (e : Event) (tells : TellsNothing e) where
    -- The object once that part has been finalized.
    abbrev begun : State
    begun = record s { heap = on_object (treated finalized_part part) s.heap (Names o) }

    -- The Finalize of the part is called.
    does_call : (number : ℕ) (found : Option BodyForm) → DoesNext (operation_next named number found (part_reference named (Names o) part p) (frame.Confines ∷ treating (Names o) (ends cause) tasks s.control) e begun)
    does_call number None = tt
    does_call number (Some b) = record {
      alters = alters_treated finalized_part part s.heap e (Names o);
      tells = tells;
      stays = other_stays part;
      on = λ same. absurd (longer _ same);
    }

    -- Its type may override Finalize.
    does_end : (operation : Option ℕ) → DoesNext (ended_next named bodies (Names o) part p (treating (Names o) (ends cause) tasks s.control) operation e begun)
    does_end None = record {
      alters = alters_treated finalized_part part s.heap e (Names o);
      tells = tells;
      stays = other_stays part;
      on = λ same. record { tasks = tasks; control = refl; masters = refl; mode = refl };
    }
    does_end (Some number) = does_call number (slice_get bodies number)

  -- The value of a part is finalized.
  does_finalize : (of part : ℕ) (tasks : List Task) (operation : Option ℕ) (state : Option PartState) → DoesNext (finalized_next named bodies (Names o) cause of part tasks operation state s)
  does_finalize of part tasks operation None = tt
  does_finalize of part tasks operation (Some p) = by p.alive _ (does_end part p tasks (Finalized (Names o) part p.turn of p.number cause) tt operation)
    where
      by : (alive : Bool) (n : Next) → DoesNext n → DoesNext (if alive then n else halts (Erroneous FinalizesTwice))
      by true n does = does
      by false n does = tt

  -- A part is next.
  does_perform : (of part : ℕ) (tasks : List Task) (found : Found (Cell Value)) → DoesNext (performed_next named types bodies (Names o) (ends cause) of part tasks found s)
  does_perform of part tasks on_null = tt
  does_perform of part tasks on_gone = tt
  does_perform of part tasks on_other = tt
  does_perform of part tasks (finds cell) = does_finalize of part tasks (procedure_number (operations_of types of).finalize) (slice_get cell.parts part)

  -- Whatever is next of what is left.
  does_treat : (tasks : List Task) (n : Follows) → DoesNext (treats_next named types bodies (Names o) (ends cause) tasks n s)
  does_treat tasks Done = record {
    alters = alters_same s.heap Quiet;
    tells = tt;
    stays = λ q ne. refl;
    on = λ same. record { tasks = []; control = refl; masters = refl; mode = refl };
  }
  does_treat tasks (Perform of part) = does_perform of part (performed tasks) (look s.heap (Names o))
  does_treat tasks (Pick count) = by (count == 0)
    where
      by : (b : Bool) → DoesNext (if b then halts Stuck else picks count (λ i. treated_on named (Names o) (ends cause) (picked_task (shapes_of types) (direction_of (ends cause)) tasks i) s))
      by true = tt
      by false = λ i. does_same (picked_task (shapes_of types) (direction_of (ends cause)) tasks i)

-- A member is treated next.
module _
    (program : Program) (a : Activation Value) (rest : List (Activation Value)) (s : State) (h : List Object) (types : List ℕ) (access master item : ℕ) (pool : Option ℕ)
    (ghosts : Id → Bool) (object : Id) (mode : Mode) (k : Control) (tasks : List Task) where
  -- The program.
  abbrev p : ProgramForm
  p = program_form program

  -- Its types.
  abbrev tds : List TypeDefinition
  tds = program.types.items

  -- Its bodies.
  abbrev bodies : List BodyForm
  bodies = body_forms program

  -- What the object is treated for.
  abbrev leaving : Treatment
  leaving = ends (Leaving master item)

  -- What is behind its treatment.
  abbrev behind_it : Control
  behind_it = ending object master item pool mode k

  -- The state with the objects of the one that stands for it.
  abbrev seen_heap : State
  seen_heap = record s { heap = h }

  -- The real state.
  abbrev real : State
  real = state_with Running (Treats (Names object) leaving tasks ∷ behind_it) (a ∷ rest) s

  -- The state that stands for it.
  abbrev view : State
  view = state_with Running (Treats (Names object) leaving tasks ∷ behind_it) (a ∷ rest) seen_heap

  -- The real one where what is treated has been taken off.
  abbrev real_taken : State
  real_taken = state_with Running behind_it (a ∷ rest) s

  -- So it is with the other one.
  abbrev view_taken : State
  view_taken = state_with Running behind_it (a ∷ rest) seen_heap

  module _
      (sound : Sound program real) (grounds : Grounds program view) (o : Ordinary program view) (seen : Seen types item ghosts real view)
      (plain : ghosts object ≡ false) (has : HasAccess s.heap object access) (going : IsGoing program item (collection access pool) s.masters)
      (are : AreGoneFrom program types s.masters) (here : AreOfItem item (collection access pool) ghosts s.heap) where
    -- What is known of the body that runs.
    abbrev treater : Known
    treater = known_in program a.procedure o.suspensions

    -- A record that is controlled itself lies in the object.
    abbrev Operated : Treatment → Id → ℕ → Type 0
    Operated treatment q of = OperatedAs p.types (Names object) leaving (cells_of h) behind_it treatment q of

    -- What a step does there.
    abbrev Does : State → Event → State → Type 0
    Does taken e after = DoesAt tds bodies object (Leaving master item) taken e after

    -- A ghost is another object, so it stays.
    other : (q : Id) → ghosts q ≡ true → q ≢ object
    other q is same = cc (is, plain, same)

    -- So each ghost is what it was.
    ghosts_stay : (taken : State) (e : Event) (after : State) → Does taken e after → GhostsStay ghosts taken.heap after.heap
    ghosts_stay taken e after does q is = does.stays q (other q is)

    -- And of its access type.
    here_still : (e : Event) (after : State) → Does real_taken e after → AreOfItem item (collection access pool) ghosts after.heap
    here_still e after does q x is found = here q x is (sym (ghosts_stay real_taken e after does q is) ∙ found)

    -- The object is still of its access type.
    has_still : (e : Event) (after : State) → Does real_taken e after → HasAccess after.heap object access
    has_still e after does = let y = does.alters.kept object has.0 has.1 in (y.0, y.1, y.2.0 ∙ has.2)

    -- What is left of it is treated, or it ends.
    left_of : (left : List Task) (heap : List Object) → HasAccess heap object access → IsLeft (collection access pool) master item ghosts heap (treating (Names object) leaving left behind_it)
    left_of [] heap there = ended access pool object mode k refl plain there
    left_of (task ∷ left) heap there = member_treated access pool object (task ∷ left) mode k refl plain there

    -- Objects of this type are of an access type.
    accessed : is_access p.types access ≡ true
    accessed = (subst (λ (ms : List Master). ItemsFit p.types (items_of ms)) going.is (items_fit p real sound.nested)).0

    -- For the objects of such items operations may be called that touch storage.
    going_so : departs (ahead_in p) (innermost s.masters) ≡ true
    going_so = subst (λ (ms : List Master). departs (ahead_in p) (innermost ms) ≡ true) (sym going.is) going.goes

    -- What is known of the types whose members have gone.
    are_here : AreGone program types (record { number = item; owned = collection access pool } ∷ going.items) going.outer
    are_here = subst (AreGoneFrom program types) going.is are

    -- The step does this to objects, and tells of no storage.
    departing_by : (e : Event) (after : State) → Does real_taken e after → Departing program after → InDeparting program s.heap e after
    departing_by e after does body = record {
      body = body;
      alters = does.alters;
      says = told_says e s.heap after does.tells _ _;
      covers = λ depth act number at is. told_covered program e does.tells number;
    }

    module _ (e : Event) (after seen_after : State) (alike : StatesAlike none_hidden ghosts after seen_after) (does : Does real_taken e after) (does_too : Does view_taken e seen_after) where
      -- The one state stands for the other one behind the step.
      seen_then : Seen types item ghosts after seen_after
      seen_then = seen_on seen (ghosts_stay real_taken e after does) (ghosts_stay view_taken e seen_after does_too) alike

      -- What is left is treated.
      goes_on : Stepped treater h e seen_after × StaysHere treater a rest seen_heap tds bodies behind_it Operated seen_after → InDeparting program s.heap e after
      goes_on (st, (acts, behind)) =
          let same : after.activations ≡ a ∷ rest = sym (ap (λ (t : State). t.activations) alike.rest) ∙ acts in
          let on = does.on same in
          departing_by e after does (inl (record {
            types = types;
            master = master;
            item = item;
            owned = collection access pool;
            ghosts = ghosts;
            v = seen_after;
            seen = seen_then;
            runs = on.mode;
            going = subst (IsGoing program item (collection access pool)) (sym on.masters) going;
            are = subst (AreGoneFrom program types) (sym on.masters) are;
            here = here_still e after does;
            left = subst (IsLeft (collection access pool) master item ghosts after.heap) (sym on.control) (left_of on.tasks after.heap (has_still e after does));
            kept = kept_elsewhere program seen_after (record {
              suspensions = o.suspensions;
              ready = subst (λ (procedure : Option ℕ). Ready (known_in program procedure o.suspensions) seen_after) (sym (ap procedure_of acts)) st.ready;
              stands = stands_kept program view seen_after o.suspensions o.stands e (record { procedure = ap procedure_of acts; suspended = ap older acts }) st.alters;
              calm = rw behind (o.calm);
              settled = o.settled;
            }) (ap leaves_next (ap (λ (t : State). t.control) alike.rest ∙ on.control) ∙ leaves_behind (Names object) leaving on.tasks (Names object) (drop 1 behind_it));
          }))

      -- A Finalize of a part is called: it and what it calls use no value of a type whose members have gone.
      module _ (c : Begins treater a rest seen_heap tds bodies behind_it Operated e seen_after) (typing : typed.Typed p seen_after) where
        -- It is called for this object.
        same_object : c.o ≡ object
        same_object = cc (c.operated.3)

        -- It is called for its finalization.
        treated_so : c.treatment ≡ leaving
        treated_so = c.operated.0

        -- What is left of that waits for it.
        behind_is : c.behind ≡ frame.Confines ∷ treating (Names object) leaving c.tasks behind_it
        behind_is =
            let waits : WaitsFor treater.program.types c.o c.of leaving c.tasks behind_it c.behind = subst (λ (treatment : Treatment). WaitsFor treater.program.types c.o c.of treatment c.tasks behind_it c.behind) treated_so c.waits in
            subst (λ (q : Id). c.behind ≡ frame.Confines ∷ treating (Names q) leaving c.tasks behind_it) same_object waits.0

        -- It overrides Finalize.
        overrides : procedure_number (operations_of tds c.of).finalize ≡ Some c.number
        overrides = subst (λ (treatment : Treatment). IsCalled (operations_of tds c.of) treatment c.number) treated_so c.called

        -- Nothing is adjusted.
        none_copied : AdjustsCopy c.treatment → ⊥
        none_copied copies = subst AdjustsCopy treated_so copies

        -- What waits stands, whatever is left to do.
        restood : Stands program o.suspensions (record seen_heap { activations = a ∷ rest })
        restood = record {
          body = o.stands.body;
          behind = o.stands.behind;
          bodies = o.stands.bodies;
          standing = record { suspended = o.stands.standing.suspended; waiting = o.stands.standing.waiting; low = o.stands.standing.low };
        }

        -- Its body begins.
        body_begins : IsUsedAs p c.of c.number c.treatment c.b → Operates program seen_after ⊎ Touching program seen_after
        body_begins (inl quiet) =
            inl (begins_operation program grounds.well a rest o.suspensions seen_heap behind_it Operated e seen_after restood typing c
            (calm_around program a rest o.suspensions seen_heap behind_it Operated e seen_after c o.calm o.settled) quiet)
        body_begins (inr (inl (may_touch, may, frugal, touches))) =
            inr (touching_outermost program a rest seen_heap behind_it (Names object) leaving tasks o.suspensions view refl grounds (calm_here program a rest behind_it seen_heap (Names object) leaving tasks grounds o)
            refl o.calm o.settled restood (λ none q y departed. absurd (cc (none, going_so))) e seen_after c may_touch may frugal touches typing)
        body_begins (inr (inr (copies, tracks, own))) = absurd (none_copied copies)

        -- So it does as it is used.
        runs_so : Operates program seen_after ⊎ Touching program seen_after
        runs_so =
            body_begins (used_as program (in_use_here program a rest behind_it seen_heap (Names object) leaving tasks grounds o) grounds.well c.of c.number c.b c.there c.treatment
            (λ copies. absurd (none_copied copies)) c.called)

        -- The record lies in an object of this type.
        operable : IsOperable p.types access c.of c.operated.1.1
        operable =
            let on = c.operated.1 in
            let found : object_at h object ≡ Some has.0 = seen_at seen object plain ∙ has.1 in
            let here : object_at h c.o ≡ Some has.0 = rw same_object found in
            let cell = cell_at h c.o.0 has.0 here in
            let designated = on.2 in
            let of_type : on.0 ≡ access = (let at = designated.1 in let is = designated.2 in let own = has.2 in cc (cell, at, is, own)) in
            rw (← of_type) (on.3)

        -- The end of such an object uses none of those types.
        uses_none : (t : ℕ) → has_gone types t ≡ true → (implicit_of p).end_reaches access t ≡ false
        uses_none = are_here.spared.0

        -- So the body and what it calls shun them.
        shunned : (apart : Apart) × AreApart p tds (has_gone types) apart × (body_shuns p.types (has_gone types) apart c.b ≡ true)
        shunned =
            finalize_shuns program grounds.well (in_use_here program a rest behind_it seen_heap (Names object) leaving tasks grounds o) access c.of c.operated.1.1 c.number (has_gone types) c.b operable overrides c.there uses_none

        -- The real state behind the step.
        abbrev begun_in : List Object → State
        begun_in heap = operating named c.number c.b (Part c.o c.place) c.behind (record (running behind_it a rest seen_heap) { heap = heap })

        -- It is that one.
        after_is : after ≡ begun_in after.heap
        after_is =
            let view_is : seen_after ≡ record after { heap = seen_after.heap } = alike.rest in
            let back : record seen_after { heap = after.heap } ≡ after = ap (λ (t : State). record t { heap = after.heap }) view_is in
            sym back ∙ ap (λ (t : State). record t { heap = after.heap }) c.is

        -- The ghosts are there, of those types.
        ghosts_there : (q : Id) → ghosts q ≡ true → IsOfShunned p.types (has_gone types) (object_at after.heap q)
        ghosts_there q is =
            let d = seen.departed q is in
            record {
              object = d.object;
              there = ghosts_stay real_taken e after does q is ∙ d.there;
              shunned = d.of_type;
              accessed = are_here.accessed d.object.cell.access d.of_type;
            }

        -- None of them is in its collection.
        low : AreLow ghosts s.masters after.heap
        low q x is found listed =
            let d = seen.departed q is in
            let there = ghosts_stay real_taken e after does q is ∙ d.there in
            let same : d.object ≡ x = cc (there, found) in
            let never = ap (λ (y : Object). y.listed) (sym same) ∙ d.unlisted in
            absurd (cc (never, listed))

        -- So such a body runs there.
        reaching : IsReaching p (has_gone types) shunned.0 ghosts none_unnamed c.behind s.masters after
        reaching =
            subst (IsReaching p (has_gone types) shunned.0 ghosts none_unnamed c.behind s.masters) (sym after_is)
            (operation_reaches p (has_gone types) shunned.0 ghosts none_unnamed c.number c.b (Part c.o c.place) c.behind (record (running behind_it a rest seen_heap) { heap = after.heap }) c.there shunned.2
            ghosts_there (λ q is. absurd (cc is)) low (rw same_object plain))

        -- The object is of this collection, and is so still.
        member : IsMember s.heap object access item pool
        member =
            let ending = o.ready.1.0.1 in
            let found : object_at h object ≡ Some has.0 = seen_at seen object plain ∙ has.1 in
            let same : ending.object ≡ has.0 = (let at = ending.found in cc (at, found)) in
            (has.0, has.1, has.2, ap (λ (x : Object). x.cell.home.item) (sym same) ∙ sym (ending.rest.2.0), ap (λ (x : Object). x.cell.home.pool) (sym same) ∙ sym (ending.rest.1))

        -- So it is behind the step.
        member_still : IsMember after.heap object access item pool
        member_still = is_member_still s.heap after.heap e object access item pool does.alters member

        -- What is known then.
        operation_begins : InDeparting program s.heap e after
        operation_begins = departing_by e after does (inr (inr (record {
          types = types;
          access = access;
          master = master;
          item = item;
          pool = pool;
          ghosts = ghosts;
          v = seen_after;
          seen = seen_then;
          object = object;
          is_no_ghost = plain;
          member = member_still;
          tasks = c.tasks;
          mode = mode;
          k = k;
          behind = c.behind;
          is = behind_is;
          calm = calm_behind treater.program.types c.o c.of c.treatment c.tasks behind_it c.behind c.waits o.calm;
          accessed = accessed;
          apart = shunned.0;
          are_apart = shunned.1;
          lower = s.masters;
          going = going;
          are = are;
          here = here_still e after does;
          reaching = reaching;
          goes = runs_so;
        })))

      -- Whatever the step leads to.
      goes_at : next tds bodies view ≡ moves e seen_after → Goes treater a rest seen_heap tds bodies behind_it Operated (Names object) e seen_after → InDeparting program s.heap e after
      goes_at is (inl st) = goes_on st
      goes_at is (inr (inl c)) = operation_begins c (step_typed program grounds.well view seen_after settled e grounds.typed (rw is (refl, refl)))
      goes_at is (inr (inr c)) = absurd (let never = c.operated.0 in cc never)

    -- What comes next of both.
    abbrev coming : Next
    coming = next tds bodies view

    -- What the step does in the state that stands for the real one.
    does_seen : DoesNext tds bodies object (Leaving master item) view_taken coming
    unfolding next
    does_seen = does_treat tds bodies object (Leaving master item) view_taken tasks (task_next tasks)

    -- What it leads to there.
    seen_treated : TreatedIn treater a rest seen_heap tds bodies behind_it Operated (Names object) coming
    unfolding next
    seen_treated = treated_in program a rest behind_it seen_heap (Names object) leaving tasks grounds o

    -- So it is with the real one, whatever comes next.
    goes_next : (n : Next) → DoesNext tds bodies object (Leaving master item) real_taken n → NextAlike none_hidden ghosts n coming → GoesDeparting program real n
    goes_next (halts halt) does is =
        let ends_well : EndsWell halt h s.masters = subst (TreatedIn treater a rest seen_heap tds bodies behind_it Operated (Names object)) is seen_treated in
        seen_ends seen halt _ _ going.is ends_well
    goes_next (moves e after) does (seen_after, is, alike, spares) =
        inl (goes_at e after seen_after alike does (subst (DoesNext tds bodies object (Leaving master item) view_taken) is does_seen) is
        (subst (TreatedIn treater a rest seen_heap tds bodies behind_it Operated (Names object)) is seen_treated))
    goes_next (tells request e after) does alike = absurd does
    goes_next (asks request answered) does alike = absurd does
    goes_next (picks n taken) does (taking, is, each) = λ i lt.
        let does_too : (j : ℕ) → Does view_taken Quiet (taking j) = subst (DoesNext tds bodies object (Leaving master item) view_taken) is does_seen in
        let treated_too : (j : ℕ) → suc j ≤ n → Stepped treater h Quiet (taking j) × StaysHere treater a rest seen_heap tds bodies behind_it Operated (taking j) =
        subst (TreatedIn treater a rest seen_heap tds bodies behind_it Operated (Names object)) is seen_treated in
        inl (goes_on Quiet (taken i) (taking i) (each i) (does i) (does_too i) (treated_too i lt))

    -- That is what comes next.
    treats_on : GoesDeparting program real (next tds bodies real)
    unfolding next
    treats_on =
        goes_next (next tds bodies real) (does_treat tds bodies object (Leaving master item) real_taken tasks (task_next tasks))
        (steps_alike tds bodies none_hidden ghosts real view plain seen.alike)

-- The body of a Finalize has ended: what is left of the object is treated.
module _
    (program : Program) (a : Activation Value) (rest : List (Activation Value)) (s : State) (h : List Object) (types : List ℕ) (access master item : ℕ) (pool : Option ℕ)
    (ghosts : Id → Bool) (object : Id) (mode : Mode) (k : Control) (tasks : List Task) where
  -- What is left of it.
  abbrev what_is_left : Control
  what_is_left = treating (Names object) (ends (Leaving master item)) tasks (ending object master item pool mode k)

  -- A state with such objects, in which that comes next.
  abbrev confined_with : Control → List Object → State
  confined_with j heap = state_with Running j (a ∷ rest) (record s { heap = heap })

  -- So it goes on.
  confines_on :
      (o : Ordinary program (confined_with (frame.Confines ∷ what_is_left) h)) → Seen types item ghosts (confined_with (frame.Confines ∷ what_is_left) s.heap) (confined_with (frame.Confines ∷ what_is_left) h)
      → ghosts object ≡ false → HasAccess s.heap object access → IsGoing program item (collection access pool) s.masters → AreGoneFrom program types s.masters
      → AreOfItem item (collection access pool) ghosts s.heap → GoesDeparting program (confined_with (frame.Confines ∷ what_is_left) s.heap) (next program.types.items (body_forms program) (confined_with (frame.Confines ∷ what_is_left) s.heap))
  unfolding next
  confines_on o seen plain has going are here =
      let st = confines_fine (known_in program a.procedure o.suspensions) a rest (record s { heap = h }) what_is_left o.ready.1 in
      inl (record {
        body = inl (record {
          types = types;
          master = master;
          item = item;
          owned = collection access pool;
          ghosts = ghosts;
          v = confined_with what_is_left h;
          seen = record { alike = record { rest = refl; heaps = seen.alike.heaps }; departed = seen.departed };
          runs = refl;
          going = going;
          are = are;
          here = here;
          left = left_by tasks;
          kept = kept_elsewhere program (confined_with what_is_left h) (record {
            suspensions = o.suspensions;
            ready = st.ready;
            stands = record {
              body = o.stands.body;
              behind = o.stands.behind;
              bodies = o.stands.bodies;
              standing = record { suspended = o.stands.standing.suspended; waiting = o.stands.standing.waiting; low = o.stands.standing.low };
            };
            calm = o.calm;
            settled = o.settled;
          }) (leaves_behind (Names object) (ends (Leaving master item)) tasks (Names object) (drop 1 (ending object master item pool mode k)));
        });
        alters = alters_same s.heap Quiet;
        says = tt;
        covers = λ depth act number at is. tt;
      })
    where
      left_by : (left : List Task) → IsLeft (collection access pool) master item ghosts s.heap (treating (Names object) (ends (Leaving master item)) left (ending object master item pool mode k))
      left_by [] = ended access pool object mode k refl plain has
      left_by (task ∷ left) = member_treated access pool object (task ∷ left) mode k refl plain has

-- What holds of the state that stands for the real one.
pub between_grounds : (program : Program) (s : State) → Sound program s → (d : Between program s) → Grounds program d.v
between_grounds program s sound d =
    let calm : IsCalm (behind_call s.control) = subst (λ (k : Control). IsCalm (behind_call k)) (seen_control d.seen) d.kept.ordinary.calm in
    seen_grounds_between program d.seen (grounds program s sound) sound.reached d.owned d.master (words_out program s sound.reached) d.runs d.left calm

-- A step where a member is treated, or where what is left of it comes next.
treats_by :
    (program : Program) (m : Mode) (c : Control) (acts : List (Activation Value)) (s : State) (h : List Object) (types : List ℕ) (master item : ℕ) (owned : Owned) (ghosts : Id → Bool)
    → m ≡ Running → IsLeft owned master item ghosts s.heap c → departs_next true c ≡ false → Sound program (state_with m c acts s) → Grounds program (state_with m c acts (record s { heap = h }))
    → Ordinary program (state_with m c acts (record s { heap = h })) → Seen types item ghosts (state_with m c acts s) (state_with m c acts (record s { heap = h }))
    → IsGoing program item owned s.masters → AreGoneFrom program types s.masters → AreOfItem item owned ghosts s.heap
    → GoesDeparting program (state_with m c acts s) (next program.types.items (body_forms program) (state_with m c acts s))
treats_by program (Raising e) c acts s h types master item owned ghosts runs left none sound grounds o seen going are here = absurd (cc runs)
treats_by program Exiting c acts s h types master item owned ghosts runs left none sound grounds o seen going are here = absurd (cc runs)
treats_by program Returning c acts s h types master item owned ghosts runs left none sound grounds o seen going are here = absurd (cc runs)
treats_by program Running c [] s h types master item owned ghosts runs left none sound grounds o seen going are here = absurd (o.ready.0)
treats_by program Running _ (a ∷ rest) s h types master item owned ghosts runs (next_member mode k) none sound grounds o seen going are here = absurd (cc none)
treats_by program Running _ (a ∷ rest) s h types master item owned ghosts runs (member_treated access pool object tasks mode k is plain has) none sound grounds o seen going are here =
    treats_on program a rest s h types access master item pool ghosts object mode k tasks sound grounds o seen plain has
    (subst (λ (what : Owned). IsGoing program item what s.masters) is going) are (subst (λ (what : Owned). AreOfItem item what ghosts s.heap) is here)
treats_by program Running _ (a ∷ rest) s h types master item owned ghosts runs (confined access pool object tasks mode k is plain has) none sound grounds o seen going are here =
    confines_on program a rest s h types access master item pool ghosts object mode k tasks o seen plain has
    (subst (λ (what : Owned). IsGoing program item what s.masters) is going) are (subst (λ (what : Owned). AreOfItem item what ghosts s.heap) is here)
treats_by program Running _ (a ∷ rest) s h types master item owned ghosts runs (ended access pool object mode k is plain has) none sound grounds o seen going are here = absurd (cc none)

-- So it is in each state where no operation runs, and no member is taken or ends.
pub treats_step :
    (program : Program) (s : State) → Sound program s → (d : Between program s) → departs_next true s.control ≡ false
    → GoesDeparting program s (next program.types.items (body_forms program) s)
treats_step program s sound d none =
    let view_is : d.v ≡ record s { heap = d.v.heap } = d.seen.alike.rest in
    treats_by program s.mode s.control s.activations s d.v.heap d.types d.master d.item d.owned d.ghosts d.runs d.left none sound
    (subst (Grounds program) view_is (between_grounds program s sound d)) (subst (Ordinary program) view_is d.kept.ordinary) (subst (Seen d.types d.item d.ghosts s) view_is d.seen)
    d.going d.are d.here
