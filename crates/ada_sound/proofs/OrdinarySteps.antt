-- Steps where no operation runs, and those of the bodies of operations (7.6, 7.6.1): what each leads to, in a state that has what steps rest on.

use Rattle.std.proofs.Common.{◌≡◌, ℕ, suc, ◌≤◌, Bool, true, false, List, [], ◌∷◌, ◌++◌, refl, sym, ap, subst, ◌∙◌, ◌⊎◌, inl, inr}
use Rattle.std.specs.Prelude.{Option, Some}
use Rattle.ada_program.specs.declared.program.Program.{Program}
use Rattle.ada_program.specs.Form.{ActualForm}
use Rattle.ada_program.specs.ProgramForm.{TypeForm, ProgramForm, program_form, body_forms, seen_in}
use Rattle.ada_parts.specs.Task.{Task}
use Rattle.ada_effects.specs.Effects.{Implicit}
use Rattle.ada_meaning.specs.declared.state.Id.{Id}
use Rattle.ada_meaning.specs.declared.state.Value.{Value}
use Rattle.ada_parts.specs.Part as parts
use Rattle.ada_meaning.specs.declared.event.Birth.{Birth}
use Rattle.ada_meaning.specs.declared.event.Birth.TheVariants.{Creation, Copy, Adjustment}
use Rattle.ada_meaning.specs.declared.state.Stage.{Stage}
use Rattle.ada_meaning.specs.declared.state.Stage.TheVariants.{Building, Existing, Gone}
use Rattle.ada_meaning.specs.Event.{Born, Finalized, Back, Followed, Left, Line, Quiet}
use Rattle.ada_meaning.specs.State.{Activation, Master}
use Rattle.ada_meaning.specs.declared.state.Mode.{Mode}
use Rattle.ada_meaning.specs.declared.state.Mode.TheVariants.{Running, Raising, Exiting, Returning}
use Rattle.ada_meaning.specs.Frame as frame
use Rattle.ada_meaning.specs.Frame.{Frame, Treatment, Calls, Returns, Treats, is_master, landing}
use Rattle.ada_finalized.specs.Law.{NoOperationRuns}
use Rattle.ada_sound.specs.Agreement.{running_procedure}
use Rattle.ada_sound.specs.Callees.{IsCovered}
use Rattle.ada_program.specs.declared.program.Exception.{Exception}
use Rattle.ada_meaning.specs.Step.{halts, moves, tells, asks, picks, older, procedure_of, storing, frame_next, pass_next, jump_next, mode_next}
use Rattle.ada_meaning.specs.Named.{Object, State, Next, named, filled, next}
use Rattle.ada_meaning.specs.Run.{Event, settled}
use Rattle.ada_meaning.specs.Law.{items_of}
use Rattle.ada_typed.specs.Holding.{cells_of}
use Rattle.ada_typed.proofs.Values.{filled_at}
use Rattle.ada_typed.proofs.Control as typed
use Rattle.ada_typed.proofs.Evaluations as typing
use Rattle.ada_typed.proofs.Bodies.{own_bodies}
use Rattle.ada_typed.proofs.Kept.{behind_call, crosses, is_treatment, Keeps, Each}
use Rattle.ada_typed.proofs.KeptSteps.{step_keeps, pass_keeps}
use Rattle.ada_typed.proofs.Runs.{step_typed}
use Rattle.ada_scopes.specs.Scopes.{InnermostHeldInside, is_innermost, Holds as HoldsName}
use Rattle.ada_scopes.proofs.Components.{AreOfKinds, collect_two, held_outside, held_inside}
use Rattle.ada_idle.specs.Law.{adjusts_copy}
use Rattle.ada_owners.specs.Places.{is_there}
use Rattle.ada_quiet.specs.Idle.{copies_parts}
use Rattle.ada_quiet.specs.InUse.{operations_may_be_called}
use Rattle.ada_sound.proofs.Items.{items_fall}
use Rattle.ada_sound.proofs.Stored.{AllOut, IsUnder, Stored, none_departed, there_listed}
use Rattle.ada_sound.proofs.Leavings.{GoesWell, HeldIn, NamedBelow}
use Rattle.ada_sound.proofs.Sees.{reaches_in, may_call}
use Rattle.ada_sound.proofs.TracksWell.{copies_at, allocates_at, called_apart}
use Rattle.ada_sound.proofs.Trackers.{stands_apart}
use Rattle.ada_sound.proofs.TracksAs.{adjust_tracks}
use Rattle.ada_sound.proofs.CopiedOwners.{BeginsCopy}
use Rattle.ada_sound.proofs.CopySteps.{sees_to_none}
use Rattle.ada_sound.proofs.Adjusting.{AdjustingCopy}
use Rattle.ada_sound.proofs.AdjustingEnters.{filled_in_program}
use Rattle.ada_sound.proofs.AdjustingStarts.{adjusting_starts}
use Rattle.ada_sound.proofs.AdjustingCopies.{InCopy, WentOn}
use Rattle.ada_finalized.proofs.Standing.{nothing_begins}
use Rattle.ada_sound.proofs.QuietOperations.{AdjustsCopy, IsUsedAs, used_as}
use Rattle.ada_sound.proofs.TouchingStarts.{touching_outermost}
use Rattle.ada_sound.proofs.TouchingSteps.{InTouching, Went, GoesTouching}
use Rattle.ada_sound.proofs.Touching.{Around}
use Rattle.ada_sound.proofs.Operated.{OperatedAs}
use Rattle.ada_sound.proofs.Alters.{Alters, alters_same, alters_set}
use Rattle.ada_sound.proofs.Invariant.{Known, Control, Working, CallsOn, Says, GoesOn, Stepped, EndsWell, Fine, outers, IsAwaited, departs, departs_next, innermost}
use Rattle.ada_sound.proofs.Callers.{AreCalls, Suspension, known_in, none_under, Stands}
use Rattle.ada_sound.proofs.Returns.{Crosses, CrossesTo, same_types, resumed_in, behind_call as behind_mode, behind_frames, behind_body, crosses_to, left_settled}
use Rattle.ada_sound.proofs.Calls.{calls_to}
use Rattle.ada_sound.proofs.Waiting.{SameBody, stands_kept}
use Rattle.ada_sound.proofs.Ready.{at_work}
use Rattle.ada_sound.proofs.Below.{named_below}
use Rattle.ada_sound.proofs.Standing.{any_type, any_freed}
use Rattle.ada_sound.proofs.Steps as inside
use Rattle.ada_sound.proofs.StoredStates.{IsStored, ready_stored}
use Rattle.ada_sound.proofs.Grounds.{Grounds, Ordinary, treats_copied}
use Rattle.ada_sound.proofs.Calm.{filled_in, typed_calm, behind_calm}
use Rattle.ada_sound.proofs.Treating.{told_says, told_covered, treats_in_use, treated_next}
use Rattle.ada_sound.proofs.Treatments.{Begins, BeginsAdjust, StaysHere, TreatedIn}
use Rattle.ada_sound.proofs.Operating.{Sight, StaysLive, IsCalm, StepsTo, behind_operation}
use Rattle.ada_sound.proofs.Operates.{Operates, InOperation}
use Rattle.ada_sound.proofs.OperationBegins.{begins_operation, calm_around}
use Rattle.ada_sound.proofs.OperationSteps.{acting, Wrote, IsMild}
use Rattle.ada_sound.proofs.OperationLaw.{operates_on, operation_ends, operation_raises, StepsOn, steps_on}
use Rattle.ada_sound.proofs.CallBegins.{runs_called, placed_in}

-- What a step does to objects, and what its event says of them.
pub record Does (before : List Object) (e : Event) (after : State) : Type 0 where
  pub implicit : Implicit
  pub body : ProgramForm
  pub alters : Alters before e after.heap
  pub says : Says implicit body e before after

-- From one state to the other the same body runs, what waits for it stays as it is, and what is left to do behind it does.
pub record Stays (s after : State) : Type 0 where
  pub same : SameBody s after
  pub behind : behind_call after.control ≡ behind_call s.control

-- So it is behind a step that leaves that alone.
stays_by : (s mid after : State) → running_procedure mid ≡ running_procedure s → older mid.activations ≡ older s.activations → behind_call mid.control ≡ behind_call s.control → Keeps mid after → Stays s after
stays_by s mid after p r b keeps = record { same = record { procedure = keeps.procedure ∙ p; suspended = keeps.suspended ∙ r }; behind = keeps.behind ∙ b }

-- Whatever comes next.
each_stays : (s mid : State) (n : Next) → running_procedure mid ≡ running_procedure s → older mid.activations ≡ older s.activations → behind_call mid.control ≡ behind_call s.control → Each (Keeps mid) n → Each (Stays s) n
each_stays s mid (halts halt) p r b e = tt
each_stays s mid (moves shown after) p r b e = stays_by s mid after p r b e
each_stays s mid (tells request shown after) p r b e = stays_by s mid after p r b e
each_stays s mid (asks request answers) p r b e = λ granted. stays_by s mid (answers granted) p r b (e granted)
each_stays s mid (picks n taking) p r b e = λ i lt. stays_by s mid (taking i) p r b (e i lt)

-- What a step leads to: the ordinary invariant, or the body of an operation runs.
abbrev pub Led : Program → List Object → Event → State → Type 0
Led program before e after =
    ((c : Crosses program before e after) × IsCalm (behind_call after.control) × (AreCalls c.suspensions)) ⊎ (InOperation program before e after ⊎ (InTouching program before e after ⊎ InCopy program before e after))

-- What goes on behind the end of an operation, by what is around it: no operation runs, or one that touches storage is under way.
went_around : (program : Program) (before : List Object) (e : Event) (gs : List Suspension) (after : State) → CrossesTo program gs before e after → Around program gs after → Went program before e after
went_around program before e gs after c (inl (calm, none)) = inr (inr (crosses_to c, calm, none))
went_around program before e gs after c (inr within) = inl (record {
  body = record { suspensions = gs; ready = c.stepped.ready; stands = c.stands; within = within };
  alters = c.stepped.alters;
  says = c.stepped.says;
})

-- A step that begins no call and ends none keeps what is known of callers.
module _ (program : Program) (s after : State) (gs : List Suspension) (stands : Stands program gs s) (calm : IsCalm (behind_call s.control)) (none : AreCalls gs) (e : Event) (kept : Stays s after) where
  pub kept_on : Stepped (known_in program (running_procedure s) gs) s.heap e after → Led program s.heap e after
  kept_on st = inl (
    record {
      suspensions = gs;
      stepped = subst (λ (procedure : Option ℕ). Stepped (known_in program procedure gs) s.heap e after) (sym kept.same.procedure) st;
      stands = stands_kept program s after gs stands e kept.same st.alters;
    },
    rw kept.behind calm,
    none,
  )

-- What comes next is known, whichever body runs then.
abbrev pub FineIn : Program → State → Next → Type 0
FineIn program s (halts halt) = EndsWell halt s.heap s.masters
FineIn program s (moves e after) = Led program s.heap e after
FineIn program s (tells request e after) = Led program s.heap e after
FineIn program s (asks request answered) = (granted : Bool) → Led program s.heap Quiet (answered granted)
FineIn program s (picks n taken) = (i : ℕ) → suc i ≤ n → Led program s.heap Quiet (taken i)

-- So what comes next is known where no call begins and none ends.
pub fine_in : (program : Program) (s : State) (gs : List Suspension) → Stands program gs s → IsCalm (behind_call s.control) → AreCalls gs → (n : Next) → Each (Stays s) n → Fine (known_in program (running_procedure s) gs) s.heap s.masters n → FineIn program s n
fine_in program s gs stands calm none (halts halt) same fine = fine
fine_in program s gs stands calm none (moves e after) same fine = kept_on program s after gs stands calm none e same fine
fine_in program s gs stands calm none (tells request e after) same fine = kept_on program s after gs stands calm none e same fine
fine_in program s gs stands calm none (asks request answered) same fine = λ granted. kept_on program s (answered granted) gs stands calm none Quiet (same granted) (fine granted)
fine_in program s gs stands calm none (picks n taken) same fine = λ i lt. kept_on program s (taken i) gs stands calm none Quiet (same i lt) (fine i lt)

-- Components are of their kinds.
pub are_of_kinds : (p : ProgramForm) (s : State) → typed.TypedIn p s → AreOfKinds p.types s
are_of_kinds p s t o x found = filled_at p.types (cells_of s.heap) (cells_of s.heap) o.0 x.cell (filled_in p s t) (typing.cell_at s.heap o.0 x found)

-- Objects are stored where no operation runs, and none of an outer master names one of the innermost.
pub stored_in : (program : Program) (s : State) → Ordinary program s → IsStored s.heap s.masters
stored_in program s o = ready_stored (known_in program (running_procedure s) o.suspensions) s o.ready

-- What lies in the innermost master is held inside it.
pub held_inside_it : (program : Program) (s : State) → Grounds program s → Ordinary program s → InnermostHeldInside s
held_inside_it program s grounds o =
    let own = seen_in (running_procedure s) (program_form program) in
    held_inside s (items_fall (items_of s.masters) (stored_in program s o).1.counted)
    (held_outside (program_form program) s grounds.nested (subst (λ (ts : List TypeForm). AreOfKinds ts s) (same_types (running_procedure s) (program_form program)) (are_of_kinds own s grounds.typed.inside)))

-- Nothing is under way where nothing is in the bodies that wait.
pub none_is_under : (program : Program) (procedure : Option ℕ) (gs : List Suspension) → AreCalls gs → (o : Id) → IsUnder (outers (known_in program procedure gs)).under o → ⊥
none_is_under program procedure gs none o under =
    let nothing : IsUnder [] o = rw (none_under program gs none) at under in
    nothing

-- What is there is in its collection then, where its words are out.
held_there : (heap : List Object) (ms : List Master) → Stored [] heap ms → AllOut heap → ((holder held : Object) → HoldsName heap holder held → is_innermost ms held.cell.home.item ≡ true → is_innermost ms holder.cell.home.item ≡ true) → HeldIn heap ms
held_there heap ms stored out inside holder held (o, p, c, holds, names, at') out_held =
    inside holder held (o, p, c, (holds.0, there_listed o holder holds.0 (out o holder holds.0 holds.1) stored), (names.0, there_listed p held names.0 out_held stored), at')

-- What is known where a master is left next (7.6.1): nothing outside it holds what lies in it, nor do callers rely on that, and its newest item goes well.
abbrev pub IsLeftWell : (program : Program) (s : State) → Ordinary program s → Type 0
IsLeftWell program s o =
    (left : Mode) (behind : Control) → s.mode ≡ Running → s.control ≡ frame.Leaves left ∷ behind
    → HeldIn s.heap s.masters
    × NamedBelow (outers (known_in program (running_procedure s) o.suspensions)) s.heap s.masters
    × GoesWell (known_in program (running_procedure s) o.suspensions).program.types s.heap (innermost s.masters)

-- No member is taken next of a collection for whose objects operations may be called that touch storage, and none of its members ends.
abbrev pub NoneDeparts : (program : Program) (s : State) → Ordinary program s → Type 0
NoneDeparts program s o = s.mode ≡ Running → departs_next (departs (known_in program (running_procedure s) o.suspensions).ahead (innermost s.masters)) s.control ≡ false

-- So a master is left well where its newest item goes well.
pub left_well : (program : Program) (s : State) → Grounds program s → AllOut s.heap → (o : Ordinary program s)
    → GoesWell (known_in program (running_procedure s) o.suspensions).program.types s.heap (innermost s.masters)
    → IsLeftWell program s o
left_well program s grounds out o well left behind runs at_leaving =
    let parting = rw (runs, at_leaving) at (o.ready.1) in (
      held_there s.heap s.masters (rw (none_under program o.suspensions o.settled) at parting.stored) out (held_inside_it program s grounds o),
      named_below (known_in program (running_procedure s) o.suspensions) s.heap o.stands.standing.waiting o.stands.standing.low left behind s.masters parting,
      well,
    )

-- A state with these parts.
abbrev pub state_with : Mode → Control → List (Activation Value) → State → State
state_with mode k all s = record s { mode = mode; control = k; activations = all }

-- A step that begins no call and ends none, and treats nothing.
ordinary : (program : Program) (s : State) (grounds : Grounds program s) → AllOut s.heap → (o : Ordinary program s) → IsLeftWell program s o → NoneDeparts program s o → inside.crosses s.mode s.control ≡ false → (n : Next) → mode_next named program.types.items (body_forms program) s.mode s ≡ n → Each (Stays s) n → FineIn program s n
unfolding next
ordinary program s grounds out o low stays inner n is same =
    let known = known_in program (running_procedure s) o.suspensions in
    fine_in program s o.suspensions o.stands o.calm o.settled n same
    (subst (λ (coming : Next). Fine known s.heap s.masters coming) is (inside.fine known (copies_at program (running_procedure s) o.suspensions grounds.well grounds.obeys.0) any_type program.types.items (reaches_in program (running_procedure s) o.suspensions) (body_forms program) (may_call program (running_procedure s) o.suspensions grounds.well) s (allocates_at program (running_procedure s) o.suspensions s grounds.well grounds.obeys.0 grounds.apart) inner grounds.typed.inside (own_bodies (program_form program) grounds.frees_own (running_procedure s)) (collect_two (program_form program) s grounds.nested) (grounds.finalizes o.calm known.program.types (outers known))
    (λ p x aside found. elim aside [ inl under ↦ absurd (none_is_under program (running_procedure s) o.suspensions o.settled p under) | inr departed ↦ none_departed s.heap out p x departed ])
    (λ runs. any_freed s.control)
    low
    stays
    o.ready))

-- A frame at which no call begins is none behind which the body of one is left.
no_return : (f : Frame Value) (k : Control) → crosses f ≡ false → behind_call (f ∷ k) ≡ behind_call k
no_return (Returns actuals references) k none = absurd (cc none)
no_return f k none = refl

-- Where components get something back, no operation runs, either.
storing_calm : (references : List Value) (k : Control) → NoOperationRuns k → IsCalm (behind_call (storing named references k))
storing_calm [] k calm = behind_calm k calm
storing_calm (r ∷ rs) k calm = storing_calm rs k calm

-- Behind a call no operation runs.
left_calm : (mode : Mode) (given : List Value) (k : Control) → NoOperationRuns k → IsCalm (behind_call (behind_frames mode given k))
left_calm Running given k calm = storing_calm given k calm
left_calm (Raising e) given k calm = behind_calm k calm
left_calm Exiting given k calm = behind_calm k calm
left_calm Returning given k calm = storing_calm given k calm

-- So the body of no operation comes to its end there.
never_awaited : (k : Control) → NoOperationRuns k → IsAwaited k → ⊥
never_awaited [] none is = is
never_awaited (frame.Awaits v by done of part tasks ∷ k) none is = absurd (cc (none.0))
never_awaited (frame.Confines ∷ k) none is = absurd (cc (none.0))
never_awaited (f ∷ k) none is = is

module _ (program : Program) (a : Activation Value) (rest : List (Activation Value)) (k : Control) (s : State) where
  -- What is known of callers is so whatever is left to do.
  restand : (mode : Mode) (f : Frame Value) (gs : List Suspension) → Stands program gs (state_with mode (f ∷ k) (a ∷ rest) s) → Stands program gs (record s { activations = a ∷ rest })
  restand mode f gs stands = record {
    body = stands.body;
    behind = stands.behind;
    bodies = stands.bodies;
    standing = record { suspended = stands.standing.suspended; waiting = stands.standing.waiting; low = stands.standing.low };
  }

  -- A frame at which no call begins, and none ends, and that treats nothing.
  crossing_none : (f : Frame Value) → crosses f ≡ false → is_treatment f ≡ false → Grounds program (state_with Running (f ∷ k) (a ∷ rest) s) → AllOut s.heap → (o : Ordinary program (state_with Running (f ∷ k) (a ∷ rest) s)) → IsLeftWell program (state_with Running (f ∷ k) (a ∷ rest) s) o → NoneDeparts program (state_with Running (f ∷ k) (a ∷ rest) s) o → FineIn program (state_with Running (f ∷ k) (a ∷ rest) s) (frame_next named program.types.items (body_forms program) f (state_with Running k (a ∷ rest) s))
  crossing_none f none plain grounds out o low stays =
      ordinary program (state_with Running (f ∷ k) (a ∷ rest) s) grounds out o low stays (rw (none, plain) refl) _ refl
      (each_stays (state_with Running (f ∷ k) (a ∷ rest) s) (state_with Running k (a ∷ rest) s) _ refl refl (sym (no_return f k none)) (step_keeps program.types.items (body_forms program) f (state_with Running k (a ∷ rest) s) (λ treats. absurd (cc (plain, treats))) none))

  -- A step of a treatment.
  module _ (v : Value) (treatment : Treatment) (tasks : List Task) (grounds : Grounds program (state_with Running (Treats v treatment tasks ∷ k) (a ∷ rest) s)) (o : Ordinary program (state_with Running (Treats v treatment tasks ∷ k) (a ∷ rest) s)) where
    -- The state.
    abbrev pub whole : State
    whole = state_with Running (Treats v treatment tasks ∷ k) (a ∷ rest) s

    -- What is known of the body that treats.
    abbrev pub treater : Known
    treater = known_in program a.procedure o.suspensions

    -- Where what is treated is a copy, the program copies records with controlled parts.
    copied_here : adjusts_copy treatment ≡ true → copies_parts (program_form program) ≡ true
    copied_here copy = treats_copied program whole grounds v treatment tasks k refl copy

    -- So it is by the treatment, ...
    copied_as : (by : Treatment) → by ≡ treatment → AdjustsCopy by → copies_parts (program_form program) ≡ true
    copied_as (frame.begins Creation done) same copy = absurd copy
    copied_as (frame.begins Copy done) same copy = copied_here (rw (← same) refl)
    copied_as (frame.begins (Adjustment n) done) same copy = copied_here (rw (← same) refl)
    copied_as (frame.ends cause) same copy = absurd copy

    -- ... and by what begins.
    copied_by : (by : Birth) (done : List parts.Part) → frame.begins by done ≡ treatment → BeginsCopy by → copies_parts (program_form program) ≡ true
    copied_by Creation done same copies = absurd copies
    copied_by Copy done same copies = copied_as (frame.begins Copy done) same tt
    copied_by (Adjustment n) done same copies = copied_as (frame.begins (Adjustment n) done) same tt

    -- Operations are not idle here.
    pub in_use_here : operations_may_be_called (program_form program) ≡ true
    in_use_here = treats_in_use program whole grounds whole.control refl tt

    -- A record that is controlled itself lies in objects of the type of the one that is treated.
    abbrev pub IsOperated : Treatment → Id → ℕ → Type 0
    IsOperated by o of = OperatedAs (program_form program).types v treatment (cells_of s.heap) k by o of

    -- It goes on in the body that runs.
    pub goes_here : (e : Event) (after : State) → Stepped treater s.heap e after × StaysHere treater a rest s program.types.items (body_forms program) k IsOperated after → Led program s.heap e after
    goes_here e after (st, (acts, behind)) =
        kept_on program whole after o.suspensions o.stands o.calm o.settled e
        (record { same = record { procedure = ap procedure_of acts; suspended = ap older acts }; behind = behind }) st

    -- No operation runs.
    pub calm_here : NoOperationRuns whole.control
    calm_here = typed_calm (seen_in a.procedure (program_form program)) whole grounds.typed.inside refl o.calm

    -- The Adjust is called that tracks the components of a copy.
    begins_adjusting : AllOut s.heap → (e : Event) (after : State) → next program.types.items (body_forms program) whole ≡ moves e after → BeginsAdjust treater a rest s program.types.items (body_forms program) v k IsOperated e after → Led program s.heap e after
    begins_adjusting out e after is c =
        let copies = copied_by c.by c.done c.operated.0 c.copies in
        let tracks = adjust_tracks program grounds.well copies in_use_here a rest s o.suspensions v k IsOperated e after c in
        let untreated = grounds.untreated_start calm_here v c.by c.done tasks k (ap (λ (by : Treatment). Treats v by tasks ∷ k) (sym c.operated.0)) in
        let adjusting = adjusting_starts program grounds.well grounds.obeys grounds.lets_nothing_out copies grounds.spares_adjusted grounds.spares_own a rest s o.suspensions v k IsOperated e after c tracks.0 tracks.1
        (filled_in_program (program_form program) a.procedure whole grounds.typed.inside) out
        (step_typed program grounds.well whole after settled e grounds.typed (rw is (refl, refl)))
        (restand Running (Treats v treatment tasks) o.suspensions o.stands) o.calm o.settled (grounds.apart (stands_apart (program_form program) tracks.0.0)).1 (λ u ne. nothing_begins u k untreated) in
        inr (inr (inr (record {
          body = adjusting;
          alters = rw c.is (alters_same s.heap e);
          says = told_says e s.heap after (rw c.quiet tt) _ _;
        })))

    -- The body of an operation begins, by what is known of it.
    begun_as : AllOut s.heap → (e : Event) (after : State) → next program.types.items (body_forms program) whole ≡ moves e after → (c : Begins treater a rest s program.types.items (body_forms program) k IsOperated e after) → IsUsedAs (program_form program) c.of c.number c.treatment c.b → Led program s.heap e after
    begun_as out e after is c (inl plain) = inr (inl (record {
      operates = begins_operation program grounds.well a rest o.suspensions s k IsOperated e after (restand Running (Treats v treatment tasks) o.suspensions o.stands)
          (step_typed program grounds.well whole after settled e grounds.typed (rw is (refl, refl))) c (calm_around program a rest o.suspensions s k IsOperated e after c o.calm o.settled) plain;
      alters = rw c.is c.alters;
      says = told_says e s.heap after c.tells;
      covered = told_covered program e c.tells;
    }))
    begun_as out e after is c (inr (inr (copies, tracks, own))) =
        absurd (sees_to_none program grounds.well tracks.0 a rest s o.suspensions k IsOperated e after c copies own)
    begun_as out e after is c (inr (inl (may_touch, may, frugal, touches))) = inr (inr (inl (record {
      body = touching_outermost program a rest s k v treatment tasks o.suspensions whole refl grounds calm_here refl o.calm o.settled (restand Running (Treats v treatment tasks) o.suspensions o.stands) (λ none q x departed. none_departed s.heap out q x departed) e after c may_touch may frugal touches
          (step_typed program grounds.well whole after settled e grounds.typed (rw is (refl, refl)));
      alters = rw c.is c.alters;
      says = told_says e s.heap after c.tells _ _;
    })))

    -- So it does whatever is called.
    begins_there : AllOut s.heap → (e : Event) (after : State) → next program.types.items (body_forms program) whole ≡ moves e after → Begins treater a rest s program.types.items (body_forms program) k IsOperated e after → Led program s.heap e after
    begins_there out e after is c = begun_as out e after is c (used_as program in_use_here grounds.well c.of c.number c.b c.there c.treatment (copied_as c.treatment c.operated.0) c.called)

    -- Whatever comes next is known.
    treated_led : AllOut s.heap → (n : Next) → next program.types.items (body_forms program) whole ≡ n → TreatedIn treater a rest s program.types.items (body_forms program) k IsOperated v n → FineIn program whole n
    treated_led out (halts halt) is t = t
    treated_led out (moves e after) is (inl st) = goes_here e after st
    treated_led out (moves e after) is (inr (inl c)) = begins_there out e after is c
    treated_led out (moves e after) is (inr (inr c)) = begins_adjusting out e after is c
    treated_led out (tells request e after) is t = absurd t
    treated_led out (asks request answered) is t = absurd t
    treated_led out (picks n taken) is t = λ i lt. goes_here Quiet (taken i) (t i lt)

    -- What comes next, by the treatment.
    pub treated_in : TreatedIn treater a rest s program.types.items (body_forms program) k IsOperated v (frame_next named program.types.items (body_forms program) (Treats v treatment tasks) (state_with Running k (a ∷ rest) s))
    unfolding next
    treated_in = treated_next program a rest k s v treatment tasks grounds o.suspensions (grounds.finalizes o.calm treater.program.types (outers treater)) o.ready.1

    -- So the step is known.
    treating_step : AllOut s.heap → FineIn program whole (frame_next named program.types.items (body_forms program) (Treats v treatment tasks) (state_with Running k (a ∷ rest) s))
    unfolding next
    treating_step out = treated_led out _ refl treated_in

  -- A frame that a jump passes, behind which no body is left.
  passing_none : (mode : Mode) (f : Frame Value) → inside.crosses mode (f ∷ k) ≡ false → behind_call (f ∷ k) ≡ behind_call k → (n : Next) → mode_next named program.types.items (body_forms program) mode (state_with mode (f ∷ k) (a ∷ rest) s) ≡ n → n ≡ pass_next named (is_master f) (landing mode f) mode (state_with mode k (a ∷ rest) s) → Grounds program (state_with mode (f ∷ k) (a ∷ rest) s) → AllOut s.heap → (o : Ordinary program (state_with mode (f ∷ k) (a ∷ rest) s)) → IsLeftWell program (state_with mode (f ∷ k) (a ∷ rest) s) o → NoneDeparts program (state_with mode (f ∷ k) (a ∷ rest) s) o → FineIn program (state_with mode (f ∷ k) (a ∷ rest) s) n
  passing_none mode f none behind n is passes grounds out o low stays =
      ordinary program (state_with mode (f ∷ k) (a ∷ rest) s) grounds out o low stays none n is
      (each_stays (state_with mode (f ∷ k) (a ∷ rest) s) (state_with mode k (a ∷ rest) s) n refl refl (sym behind)
      (subst (λ (coming : Next). Each (Keeps (state_with mode k (a ∷ rest) s)) coming) (sym passes) (pass_keeps (is_master f) (landing mode f) mode (state_with mode k (a ∷ rest) s))))

  -- The body of a call comes to its end.
  leaving_step : (mode : Mode) (actuals : List ActualForm) (references : List Value) → (grounds : Grounds program (state_with mode (Returns actuals references ∷ k) (a ∷ rest) s)) (o : Ordinary program (state_with mode (Returns actuals references ∷ k) (a ∷ rest) s))
      → Working (known_in program a.procedure o.suspensions) s.heap a.places s.masters (GoesOn (known_in program a.procedure o.suspensions) mode (Returns actuals references ∷ k))
      → Led program s.heap Quiet (resumed_in (behind_mode mode) (behind_frames mode references k) (behind_body mode actuals a.places rest) s)
  leaving_step mode actuals references grounds o w =
      let left =
      left_settled program a actuals references k s mode rest o.suspensions (restand mode (Returns actuals references) o.suspensions o.stands) (never_awaited k o.calm) (placed_in (seen_in a.procedure (program_form program)) a rest (state_with mode (Returns actuals references ∷ k) (a ∷ rest) s) refl grounds.typed.inside) w in
      inl (crosses_to left.1, left_calm mode references k o.calm, left.2 o.settled)

  -- The step of a frame, where no jump is on its way.
  running_step : (f : Frame Value) → Grounds program (state_with Running (f ∷ k) (a ∷ rest) s) → AllOut s.heap → (o : Ordinary program (state_with Running (f ∷ k) (a ∷ rest) s)) → IsLeftWell program (state_with Running (f ∷ k) (a ∷ rest) s) o → NoneDeparts program (state_with Running (f ∷ k) (a ∷ rest) s) o → FineIn program (state_with Running (f ∷ k) (a ∷ rest) s) (mode_next named program.types.items (body_forms program) Running (state_with Running (f ∷ k) (a ∷ rest) s))
  running_step (Calls number b actuals) grounds out o low stays =
      let ready = o.ready.1 in
      let caller = known_in program a.procedure o.suspensions in
      let w : Working caller s.heap a.places s.masters (CallsOn caller number b actuals k) = at_work ready ready.rest.0 in
      let stands = restand Running (Calls number b actuals) o.suspensions o.stands in
      let calm = (typed_calm (seen_in a.procedure (program_form program)) (state_with Running (Calls number b actuals ∷ k) (a ∷ rest) s) grounds.typed.inside refl o.calm).1 in
      inl (
        crosses_to (calls_to program number b actuals k a rest o.suspensions s w ready.rest.1 (inside.heap_typed (seen_in a.procedure (program_form program)) (state_with Running (Calls number b actuals ∷ k) (a ∷ rest) s) grounds.typed.inside).1 stands (λ q x departed. none_departed s.heap out q x departed) (runs_called program number b actuals k a o.suspensions s grounds.well grounds.obeys (called_apart program (state_with Running (Calls number b actuals ∷ k) (a ∷ rest) s) number b actuals k refl grounds.obeys.0 grounds.apart) w stands.body ready.rest.1 rest stands)),
        calm,
        ((never_awaited k calm, refl, refl), o.settled),
      )
  running_step (Returns actuals references) grounds out o low stays = leaving_step Running actuals references grounds o o.ready.1
  running_step (Treats v treatment tasks) grounds out o low stays = treating_step v treatment tasks grounds o out
  running_step f grounds out o low stays = crossing_none f refl refl grounds out o low stays

  -- While a jump is on its way.
  raising_step : (e : Exception) (f : Frame Value) → Grounds program (state_with (Raising e) (f ∷ k) (a ∷ rest) s) → AllOut s.heap → (o : Ordinary program (state_with (Raising e) (f ∷ k) (a ∷ rest) s)) → IsLeftWell program (state_with (Raising e) (f ∷ k) (a ∷ rest) s) o → NoneDeparts program (state_with (Raising e) (f ∷ k) (a ∷ rest) s) o → FineIn program (state_with (Raising e) (f ∷ k) (a ∷ rest) s) (jump_next named (Raising e) (f ∷ k) (state_with (Raising e) (f ∷ k) (a ∷ rest) s))
  raising_step e (Returns actuals references) grounds out o low stays = leaving_step (Raising e) actuals references grounds o o.ready.1
  raising_step e f grounds out o low stays = passing_none (Raising e) f refl refl _ refl refl grounds out o low stays

  -- An exit is on its way, ...
  exiting_step : (f : Frame Value) → Grounds program (state_with Exiting (f ∷ k) (a ∷ rest) s) → AllOut s.heap → (o : Ordinary program (state_with Exiting (f ∷ k) (a ∷ rest) s)) → IsLeftWell program (state_with Exiting (f ∷ k) (a ∷ rest) s) o → NoneDeparts program (state_with Exiting (f ∷ k) (a ∷ rest) s) o → FineIn program (state_with Exiting (f ∷ k) (a ∷ rest) s) (jump_next named Exiting (f ∷ k) (state_with Exiting (f ∷ k) (a ∷ rest) s))
  exiting_step (Returns actuals references) grounds out o low stays = leaving_step Exiting actuals references grounds o o.ready.1
  exiting_step f grounds out o low stays = passing_none Exiting f refl refl _ refl refl grounds out o low stays

  -- ... or a return.
  returning_step : (f : Frame Value) → Grounds program (state_with Returning (f ∷ k) (a ∷ rest) s) → AllOut s.heap → (o : Ordinary program (state_with Returning (f ∷ k) (a ∷ rest) s)) → IsLeftWell program (state_with Returning (f ∷ k) (a ∷ rest) s) o → NoneDeparts program (state_with Returning (f ∷ k) (a ∷ rest) s) o → FineIn program (state_with Returning (f ∷ k) (a ∷ rest) s) (jump_next named Returning (f ∷ k) (state_with Returning (f ∷ k) (a ∷ rest) s))
  returning_step (Returns actuals references) grounds out o low stays = leaving_step Returning actuals references grounds o o.ready.1
  returning_step f grounds out o low stays = passing_none Returning f refl refl _ refl refl grounds out o low stays

-- Any step where no operation runs.
step_by : (program : Program) (mode : Mode) (k : Control) (all : List (Activation Value)) (s : State) → Grounds program (state_with mode k all s) → AllOut s.heap → (o : Ordinary program (state_with mode k all s)) → IsLeftWell program (state_with mode k all s) o → NoneDeparts program (state_with mode k all s) o → FineIn program (state_with mode k all s) (mode_next named program.types.items (body_forms program) mode (state_with mode k all s))
step_by program mode k [] s grounds out o low stays = absurd (o.ready.0)
step_by program Running [] (a ∷ rest) s grounds out o low stays = o.ready.1
step_by program (Raising e) [] (a ∷ rest) s grounds out o low stays = o.ready.1
step_by program Exiting [] (a ∷ rest) s grounds out o low stays = tt
step_by program Returning [] (a ∷ rest) s grounds out o low stays = o.ready.1
step_by program Running (f ∷ k) (a ∷ rest) s grounds out o low stays = running_step program a rest k s f grounds out o low stays
step_by program (Raising e) (f ∷ k) (a ∷ rest) s grounds out o low stays = raising_step program a rest k s e f grounds out o low stays
step_by program Exiting (f ∷ k) (a ∷ rest) s grounds out o low stays = exiting_step program a rest k s f grounds out o low stays
step_by program Returning (f ∷ k) (a ∷ rest) s grounds out o low stays = returning_step program a rest k s f grounds out o low stays

-- So it is with a state as it is.
pub ordinary_step : (program : Program) (s : State) → Grounds program s → AllOut s.heap → (o : Ordinary program s) → IsLeftWell program s o → NoneDeparts program s o → FineIn program s (next program.types.items (body_forms program) s)
unfolding next
ordinary_step program s grounds out o low stays = step_by program s.mode s.control s.activations s grounds out o low stays

-- A step of the body of an operation.
module _ (program : Program) (s : State) (o : Operates program s) where
  -- What the body sees.
  abbrev sight : Sight
  sight = record { program = seen_in (Some o.procedure) (program_form program); object = o.object; access = o.access }

  -- The object that is treated is there.
  object_there : is_there o.body.x.stage ≡ true
  object_there = by o.body.x.stage o.body.live
    where
      by : (stage : Stage) → StaysLive stage → is_there stage ≡ true
      by Building live = refl
      by Existing live = refl
      by Gone live = absurd live

  -- What it writes alters the object alone.
  after_alters : (e : Event) (heap : List Object) → Wrote sight o.procedure (o.caller ∷ o.rest) o.lower o.behind s.heap heap → Alters s.heap e heap
  after_alters e heap (inl same) = rw same (alters_same s.heap e)
  after_alters e heap (inr (x, c, v, found, is, wrote)) = rw wrote (alters_set s.heap e o.object x (filled c v x) found (refl, refl, refl) (λ h. h) (λ h. inl h))

  -- What its events say holds, ...
  mild_says : (implicit : Implicit) (p : ProgramForm) (e : Event) (after : State) → IsMild sight o.procedure (o.caller ∷ o.rest) o.lower o.behind e → Says implicit p e s.heap after
  mild_says implicit p (Born object part turn type number by) after mild = tt
  mild_says implicit p (Finalized object part turn type number cause) after mild = tt
  mild_says implicit p (Back object access number pool subpool cause) after mild = absurd mild
  mild_says implicit p (Followed v) after mild = record { id = o.object; object = o.body.x; is = mild; found = o.body.found; there = object_there }
  mild_says implicit p (Left master) after mild = tt
  mild_says implicit p (Line line) after mild = tt
  mild_says implicit p Quiet after mild = tt

  -- ... and they free nothing.
  mild_covered : (e : Event) → IsMild sight o.procedure (o.caller ∷ o.rest) o.lower o.behind e → (number : ℕ) → IsCovered program number e
  mild_covered (Born object part turn type number by) mild n = tt
  mild_covered (Finalized object part turn type number cause) mild n = tt
  mild_covered (Back object access number pool subpool cause) mild n = absurd mild
  mild_covered (Followed v) mild n = tt
  mild_covered (Left master) mild n = tt
  mild_covered (Line line) mild n = tt
  mild_covered Quiet mild n = tt

  -- So whatever comes next is known.
  went_on : (n : Next) → StepsOn sight o.procedure o.caller o.rest o.lower o.behind program.types.items (body_forms program) s o.places o.operands n → GoesTouching program s n
  went_on (halts halt) is = rw is tt
  went_on (moves e after) (inl a) = inr (inl (record {
    operates = operates_on program s after e o a;
    alters = after_alters e after.heap a.wrote;
    says = λ implicit p. mild_says implicit p e after a.mild;
    covered = mild_covered e a.mild;
  }))
  went_on (moves e after) (inr (quiet, inl is)) = rw (quiet, is) (went_around program s.heap Quiet o.suspended.suspensions (behind_operation (o.caller ∷ o.rest) o.behind o.lower s) (operation_ends program s o).0 (operation_ends program s o).1)
  went_on (moves e after) (inr (quiet, inr (x, may, is))) = rw (quiet, is) (went_around program s.heap Quiet o.suspended.suspensions (record (behind_operation (o.caller ∷ o.rest) o.behind o.lower s) { mode = Raising x }) (operation_raises program s o x may).0 (operation_raises program s o x may).1)
  went_on (tells request e after) is = absurd is
  went_on (asks request answered) is = absurd is
  went_on (picks n taken) is = absurd is

  -- The state, by its parts.
  state_is : record s { activations = acting sight o.procedure (o.caller ∷ o.rest) o.lower o.behind o.places o.operands ∷ o.caller ∷ o.rest; masters = o.upper ++ o.lower } ≡ s
  state_is =
      subst (λ (all : List (Activation Value)). record s { activations = all; masters = o.upper ++ o.lower } ≡ s) o.active
      (subst (λ (ms : List Master). record s { masters = ms } ≡ s) o.masters refl)

  -- It runs on, or one that touches storage does that waits for it, or no operation runs behind its end.
  pub operating_goes : GoesTouching program s (next program.types.items (body_forms program) s)
  unfolding next
  operating_goes =
      went_on (next program.types.items (body_forms program) s)
      (subst (λ (t : State). StepsOn sight o.procedure o.caller o.rest o.lower o.behind program.types.items (body_forms program) s o.places o.operands (mode_next named program.types.items (body_forms program) s.mode t)) state_is
      (steps_on sight o.procedure o.caller o.rest o.lower o.behind program.types.items (body_forms program) s o.places o.operands s.mode o.upper s.control o.body))

-- A step of the body of an operation that touches storage.
pub led_went : (program : Program) (before : List Object) (e : Event) (after : State) → Went program before e after → Led program before e after
led_went program before e after (inl f) = inr (inr (inl f))
led_went program before e after (inr (inl o)) = inr (inl o)
led_went program before e after (inr (inr c)) = inl c

-- A step of the body of an Adjust that tracks components.
pub led_adjusting : (program : Program) (s : State) (d : AdjustingCopy program s) (e : Event) (after : State) → WentOn program s d e after → Led program s.heap e after
led_adjusting program s d e after (inl c) = inr (inr (inr c))
led_adjusting program s d e after (inr (crosses, behind)) = inl (crosses_to crosses, rw behind d.adjusting.calm, d.adjusting.settled)

-- So what comes next is known.
pub led_next : (program : Program) (s : State) (IsSo : Event → State → Type 0) → ((e : Event) (after : State) → IsSo e after → Led program s.heap e after) → (n : Next) → StepsTo IsSo s n → FineIn program s n
led_next program s IsSo leads (halts halt) g = g
led_next program s IsSo leads (moves e after) g = leads e after g
led_next program s IsSo leads (tells request e after) g = leads e after g
led_next program s IsSo leads (asks request answered) g = λ granted. leads Quiet (answered granted) (g granted)
led_next program s IsSo leads (picks n taken) g = absurd g

-- So it is where such a body runs: parts are picked of an object that it frees.
pub led_touching : (program : Program) (s : State) (n : Next) → GoesTouching program s n → FineIn program s n
led_touching program s (halts halt) g = g
led_touching program s (moves e after) g = led_went program s.heap e after g
led_touching program s (tells request e after) g = led_went program s.heap e after g
led_touching program s (asks request answered) g = λ granted. led_went program s.heap Quiet (answered granted) (g granted)
led_touching program s (picks n taken) g = λ i lt. led_went program s.heap Quiet (taken i) (g i lt)

-- So it is with a step of the body of an operation that touches no storage.
pub operating_step : (program : Program) (s : State) → Operates program s → FineIn program s (next program.types.items (body_forms program) s)
operating_step program s o = led_touching program s (next program.types.items (body_forms program) s) (operating_goes program s o)
