-- While an operation runs for a member of a collection that goes (7.6.1), none of the bodies that run uses a value of a type whose members have gone: what each of
-- their steps leads to, the end of the operation included.

use Rattle.std.proofs.Common.{◌≡◌, ℕ, suc, ◌≤◌, Bool, true, false, List, [], ◌∷◌, ◌++◌, length, refl, sym, ap, subst, ◌∙◌, ◌⊎◌, inl, inr}
use Rattle.std.proofs.lemmas.Bool.{and_parts, false_from_ne_true}
use Rattle.std.specs.Prelude.{Option, Some}
use Rattle.std.specs.List.{AllPairs, slice_get}
use Rattle.ada_deeds.specs.Implicit.{implicit_of}
use Rattle.ada_finalized.specs.Law.{NoOperationRuns}
use Rattle.ada_program.specs.declared.program.Program.{Program}
use Rattle.ada_program.specs.declared.program.TypeDefinition.{TypeDefinition}
use Rattle.ada_program.specs.ProgramForm.{BodyForm, ProgramForm, program_form, body_forms, seen_in}
use Rattle.ada_program.specs.WellFormed.{is_access}
use Rattle.ada_meaning.specs.declared.event.Cause.{Cause}
use Rattle.ada_meaning.specs.declared.event.Cause.TheVariants.{Leaving}
use Rattle.ada_meaning.specs.declared.event.Halt.{Halt}
use Rattle.ada_meaning.specs.declared.state.Value.{Value}
use Rattle.ada_meaning.specs.declared.state.Value.TheVariants.{Names}
use Rattle.ada_meaning.specs.Event.{Quiet}
use Rattle.ada_meaning.specs.Frame as frame
use Rattle.ada_meaning.specs.Frame.{Treatment, begins, ends, Returns}
use Rattle.ada_meaning.specs.Law.{Falls, items_of}
use Rattle.ada_meaning.specs.Named.{Object, State, Next, object_at, next}
use Rattle.ada_meaning.specs.Run.{Event}
use Rattle.ada_meaning.specs.State.{Activation, Master, collection}
use Rattle.ada_meaning.specs.Step.{halts, moves, tells, asks, picks, older, operands, places, procedure_of, treating}
use Rattle.ada_order.proofs.Orders.{items_fall}
use Rattle.ada_reaching.proofs.Law.{stays_reaching}
use Rattle.ada_reaching.specs.Law.{AllGoOn, FirstHousesIts, GoesOn, none_hidden}
use Rattle.ada_reaching.specs.Reaching.{IsReaching, LeftShuns, none_unnamed}
use Rattle.ada_typed.proofs.Kept.{behind_call}
use Rattle.ada_untouched.proofs.Law.{steps_alike}
use Rattle.ada_untouched.specs.Alike.{NextAlike, SparesGhosts, StatesAlike}
use Rattle.ada_untouched.specs.Untouched.{Untouched}
use Rattle.ada_sound.specs.Agreement.{running_procedure}
use Rattle.ada_sound.specs.Callees.{IsCovered}
use Rattle.ada_sound.proofs.Alters.{Alters, alters_same}
use Rattle.ada_sound.proofs.Callers.{Suspension, callers_of, known_in}
use Rattle.ada_sound.proofs.CoveredBy.{covered_by}
use Rattle.ada_sound.proofs.Departing.{AreGone, AreGoneFrom, AreOfItem, IsGoing, IsLeft, IsMember, Seen, Within, confined, ending, has_gone}
use Rattle.ada_sound.proofs.DepartingBehind.{BodyEnds, body_ends, confines_running, ends_or_not, last_masters, none_quiet, reaching_not_calm, returns_untouched, same_end, scoped_houses, unreached_unfreed}
use Rattle.ada_sound.proofs.DepartingGoes.{GoesDeparting, InDeparting}
use Rattle.ada_sound.proofs.DepartingTreats.{is_member_still, kept_elsewhere, leaves_next}
use Rattle.ada_sound.proofs.Allowance.{Allowance, allowance_of}
use Rattle.ada_sound.proofs.Grounded.{grounds}
use Rattle.ada_sound.proofs.Grounds.{Grounds, may_free}
use Rattle.ada_sound.proofs.Invariant.{AllWait, Control, EndsWell, ReadyIn, Says}
use Rattle.ada_sound.proofs.Operates.{Operates}
use Rattle.ada_sound.proofs.Operating.{Comes, IsCalm, Sight, WaitsFor}
use Rattle.ada_sound.proofs.OrdinarySteps.{operating_goes, state_with}
use Rattle.ada_sound.proofs.SeenGrounds.{reaching_seen, reaching_untreated, seen_grounds_within, seen_scoped, seen_typed}
use Rattle.ada_sound.proofs.SeenStates.{seen_activations, seen_alters, seen_at, seen_control, seen_ends, seen_masters, seen_mode, seen_on, seen_says}
use Rattle.ada_sound.proofs.Starts.{Sound}
use Rattle.ada_sound.proofs.Touching.{CoversBy, Pause, Rests, Touching, operated_among, origin}
use Rattle.ada_sound.proofs.TouchingGoes.{GoesTouching, Went}
use Rattle.ada_sound.proofs.TouchingReturns.{ended_in}
use Rattle.ada_sound.proofs.TouchingStands.{covers_outermost, finalized_by, frugal_calm, treating_before}
use Rattle.ada_sound.proofs.TouchingSteps.{touching_step}
use Rattle.ada_sound.proofs.WordsOut.{words_out}

-- The outermost operation that touches storage runs behind the end of its body.
waits_behind : (program : Program) (s : State) (f : Touching program s) (treatment : Treatment)
    → WaitsFor (program_form program).types f.within.outermost.object f.within.outermost.of treatment f.within.outermost.tasks f.within.outermost.after f.within.outermost.behind
    → NoOperationRuns f.within.outermost.behind → ⊥
waits_behind program s f (begins by done) (part, is) none = let first = (subst NoOperationRuns is none).0 in cc first
waits_behind program s f (ends cause) (is, inside) none = let first = (subst NoOperationRuns is none).0 in cc first

-- So one runs behind the call of the running body.
touching_not_calm : (program : Program) (s : State) (f : Touching program s) → IsCalm (behind_call s.control) → ⊥
touching_not_calm program s f calm =
    let outermost = f.within.outermost in
    waits_behind program s f outermost.treatment outermost.awaited
    (frugal_calm (allowance_of (program_form program)) outermost.behind (operated_among f.within.inner) s.mode s.control f.within.frugal.upper calm f.within.frugal.frugally)

-- A step while the operation runs.
module _ (program : Program) (s : State) (sound : Sound program s) (w : Within program s) where
  -- The program.
  abbrev p : ProgramForm
  p = program_form program

  -- Its types.
  abbrev tds : List TypeDefinition
  tds = program.types.items

  -- Its bodies.
  abbrev bodies : List BodyForm
  bodies = body_forms program

  -- The types whose members have gone are shunned.
  abbrev shuns : ℕ → Bool
  shuns = has_gone w.types

  -- The state that stands for the real one.
  abbrev v : State
  v = w.v

  -- An operation runs behind the end of the outermost body.
  waits : NoOperationRuns w.behind → ⊥
  waits none = let first = (subst NoOperationRuns w.is none).0 in cc first

  -- The bodies shun those types in this one, too.
  reaching_too : IsReaching p shuns w.apart w.ghosts none_unnamed w.behind w.lower v
  reaching_too = reaching_seen w.seen p shuns w.apart w.behind w.lower w.reaching

  -- So one runs behind the call of the running body.
  not_calm : IsCalm (behind_call s.control) → ⊥
  not_calm calm = reaching_not_calm p shuns w.apart w.ghosts w.behind w.lower waits s w.reaching calm

  -- The object is there as in the real state.
  member_found : object_at v.heap w.object ≡ Some w.member.0
  member_found = seen_at w.seen w.object w.is_no_ghost ∙ w.member.1

  -- The end of such an object frees none of those types.
  ends_none : (t : ℕ) → has_gone w.types t ≡ true → (implicit_of p).end_frees w.access t ≡ false
  ends_none t gone =
      let are : AreGone program w.types (record { number = w.item; owned = collection w.access w.pool } ∷ w.going.items) w.going.outer = subst (AreGoneFrom program w.types) w.going.is w.are in
      unreached_unfreed p w.access t (are.spared.0 t gone)

  -- The body of an operation that touches storage runs.
  module _ (f : Touching program v) where
    -- The outermost operation.
    abbrev outermost : Pause program (length f.within.inner) v
    outermost = f.within.outermost

    -- What bodies go by.
    abbrev thrifty : Allowance
    thrifty = allowance_of p

    -- The outermost one is the operation of the object.
    back_is : outermost.behind ≡ w.behind
    back_is =
        same_end p shuns w.apart w.ghosts w.behind w.lower waits w.calm thrifty outermost.behind (waits_behind program v f outermost.treatment outermost.awaited) f.within.calm (operated_among f.within.inner) v.mode v.control f.within.frugal.upper
        (procedure_of v.activations) reaching_too.upper (older v.activations) f.within.frugal.frugally reaching_too.control

    -- Its object is finalized behind that.
    ended_behind : (treatment : Treatment) → WaitsFor p.types outermost.object outermost.of treatment outermost.tasks outermost.after outermost.behind
        → Rests (known_in program outermost.procedure outermost.suspensions) treatment outermost.held outermost.watch outermost.object outermost.access outermost.home outermost.places outermost.operands outermost.also outermost.after outermost.lower outermost.rooms outermost.holds
        → ended_in outermost.behind ≡ Names outermost.object
    ended_behind (begins by done) (part, is) rests = absurd (let never = sym is ∙ back_is ∙ w.is in cc never)
    ended_behind (ends cause) (is, inside) rests =
        ap ended_in is
        ∙ treating_before (Names outermost.object) cause outermost.tasks outermost.after
        (finalized_by (known_in program outermost.procedure outermost.suspensions) cause outermost.held outermost.watch outermost.object outermost.access outermost.home outermost.places outermost.operands outermost.also outermost.after outermost.lower outermost.rooms outermost.holds rests)

    -- So that is this object.
    object_is : outermost.object ≡ w.object
    object_is =
        let ended = ended_behind outermost.treatment outermost.awaited outermost.rests in
        let here : ended_in w.behind ≡ Names w.object =
        ap ended_in w.is ∙ treating_before (Names w.object) (Leaving w.master w.item) w.tasks (ending w.object w.master w.item w.pool w.mode w.k) refl in
        let same : Names outermost.object ≡ Names w.object = sym ended ∙ (ap ended_in back_is ∙ here) in
        cc same

    -- It is a finalization.
    is_ended : (cause : Cause) × (outermost.treatment ≡ ends cause)
    is_ended = by outermost.treatment refl outermost.awaited
      where
        by : (treatment : Treatment) → outermost.treatment ≡ treatment → WaitsFor p.types outermost.object outermost.of treatment outermost.tasks outermost.after outermost.behind
            → (cause : Cause) × (outermost.treatment ≡ ends cause)
        by (begins how done) same (part, is) = absurd (let never = sym is ∙ back_is ∙ w.is in cc never)
        by (ends cause) same waits' = (cause, same)

    -- So the running body frees no object of those types.
    frees_none : (t : ℕ) → has_gone w.types t ≡ true → may_free program s t ≡ false
    frees_none t gone = false_from_ne_true (may_free program s t) (λ may. (
        let so = and_parts (is_access p.types t) _ (subst (λ (z : State). may_free program z t ≡ true) (sym w.seen.alike.rest) may) in
        let waiting = subst (λ (all : List Suspension). AllWait (implicit_of p) (seen_in (running_procedure v) p) (callers_of program all)) f.within.are f.stands.standing.waiting in
        let behind_it = origin program (length f.within.inner) v outermost ∷ outermost.suspensions in
        let covered = covers_outermost program sound.spares_own v thrifty outermost.behind outermost.lower (running_procedure v) 0 outermost.number behind_it f.within.inner f.within.within waiting t so.1 in
        let one : outermost.x ≡ w.member.0 = (let found = outermost.found in let same = object_is in let there = member_found in cc (found, same, there)) in
        let of_access : outermost.access ≡ w.access = sym outermost.of_access ∙ (ap (λ (x : Object). x.cell.access) one ∙ w.member.2) in
        let frees : (implicit_of p).end_frees outermost.access t ≡ true = subst (λ (treatment : Treatment). CoversBy p treatment outermost.access t) is_ended.1 (outermost.covers t covered) in
        let none = ends_none t gone in
        cc (frees, of_access, none)
        ))

    -- They hold in the state that stands for it.
    grounds_touching : Untouched tds none_hidden w.ghosts s → Grounds program v
    grounds_touching untouched =
        seen_grounds_within program w.seen (grounds program s sound) sound.reached (words_out program s sound.reached) untouched
        (reaching_untreated p shuns w.apart w.ghosts none_unnamed w.behind w.lower s w.reaching) not_calm frees_none

  -- The numbers of items fall.
  falls : AllPairs Falls (items_of s.masters)
  falls = items_fall program sound.reached.0 sound.reached.1 s sound.reached.2

  -- Where a master is left, each object that goes with its newest item is of that item's type.
  houses : FirstHousesIts s.control s.heap s.masters
  houses = scoped_houses p s sound.nested falls

  -- So it is in the state that stands for the real one.
  houses_too : FirstHousesIts v.control v.heap v.masters
  houses_too =
      scoped_houses p v (seen_scoped w.seen p sound.nested)
      (subst (λ (ms : List Master). AllPairs Falls (items_of ms)) (sym (seen_masters w.seen)) falls)

  -- What comes next of the state that stands for the real one.
  seen_goes : Untouched tds none_hidden w.ghosts s → Operates program v ⊎ Touching program v → GoesTouching program v (next tds bodies v)
  seen_goes untouched (inl o) = operating_goes program v o
  seen_goes untouched (inr f) = touching_step program v (grounds_touching f untouched) f

  -- Some master is entered.
  entered : (upper : List Master) → (m : Master) × (ms : List Master) × (upper ++ w.lower ≡ m ∷ ms)
  entered [] = (_, w.going.outer, w.going.is)
  entered (m ∷ upper) = (m, upper ++ w.lower, refl)

  -- Where a run ends there, it ends well.
  ends_well : (halt : Halt) → EndsWell halt v.heap v.masters → EndsWell halt s.heap s.masters
  ends_well halt well =
      let some = entered w.reaching.upper in
      seen_ends w.seen halt some.0 some.1 (seen_masters w.seen ∙ (w.reaching.masters ∙ some.2)) well

  -- The bodies go on.
  module _ (on : s.control ≡ Returns [] [] ∷ w.behind → ⊥) where
    -- Each step of the real state looks at no ghost.
    reach : Untouched tds none_hidden w.ghosts s × AllGoOn (GoesOn p shuns w.apart w.ghosts none_unnamed w.behind w.lower s.heap) (next tds bodies s)
    reach = stays_reaching program sound.well shuns w.apart w.are_apart w.ghosts none_unnamed w.behind w.lower s sound.typed w.reaching (record { on = on; houses = houses })

    -- So it is with the one that stands for it.
    reach_too : Untouched tds none_hidden w.ghosts v × AllGoOn (GoesOn p shuns w.apart w.ghosts none_unnamed w.behind w.lower v.heap) (next tds bodies v)
    reach_too =
        stays_reaching program sound.well shuns w.apart w.are_apart w.ghosts none_unnamed w.behind w.lower v (seen_typed w.seen p sound.typed) reaching_too
        (record { on = λ is. on (sym (seen_control w.seen) ∙ is); houses = houses_too })

    module _ (e : Event) (after view : State) (alike : StatesAlike none_hidden w.ghosts after view) (spares : SparesGhosts w.ghosts e)
        (goes : GoesOn p shuns w.apart w.ghosts none_unnamed w.behind w.lower s.heap after) (goes_too : GoesOn p shuns w.apart w.ghosts none_unnamed w.behind w.lower v.heap view) where
      -- The one state stands for the other one behind the step.
      seen_then : Seen w.types w.item w.ghosts after view
      seen_then = seen_on w.seen goes.same goes_too.same alike

      -- The operation runs on.
      within_on : Alters v.heap e view.heap → (Operates program view ⊎ Touching program view)
          → Says (implicit_of p) (seen_in (running_procedure view) p) e v.heap view
          → ((depth : ℕ) (a : Activation Value) (number : ℕ) → slice_get view.activations depth ≡ Some a → a.procedure ≡ Some number → IsCovered program number e) → InDeparting program s.heap e after
      within_on alters runs says covers =
          let alters_real = seen_alters w.seen seen_then e alters goes.same in
          let procedure : running_procedure view ≡ running_procedure after = ap procedure_of (seen_activations seen_then) in
          record {
            body = inr (inr (record {
              types = w.types;
              access = w.access;
              master = w.master;
              item = w.item;
              pool = w.pool;
              ghosts = w.ghosts;
              v = view;
              seen = seen_then;
              object = w.object;
              is_no_ghost = w.is_no_ghost;
              member = is_member_still s.heap after.heap e w.object w.access w.item w.pool alters_real w.member;
              tasks = w.tasks;
              mode = w.mode;
              k = w.k;
              behind = w.behind;
              is = w.is;
              calm = w.calm;
              accessed = w.accessed;
              apart = w.apart;
              are_apart = w.are_apart;
              lower = w.lower;
              going = w.going;
              are = w.are;
              here = λ o x is found. w.here o x is (sym (goes.same o is) ∙ found);
              reaching = goes.reaching;
              goes = runs;
            }));
            alters = alters_real;
            says = seen_says w.seen seen_then (implicit_of p) (seen_in (running_procedure after) p) e spares
                (subst (λ (number : Option ℕ). Says (implicit_of p) (seen_in number p) e v.heap view) procedure says);
            covers = λ depth a number at is. covers depth a number (subst (λ (all : List (Activation Value)). slice_get all depth ≡ Some a) (sym (seen_activations seen_then)) at) is;
          }

      -- It does, whatever is behind the step.
      went_at : Went program v.heap e view → InDeparting program s.heap e after
      went_at (inl c) = within_on c.alters (inr c.body) c.says (λ depth a number at is. covered_by program e v.heap view c.body.suspensions c.body.stands c.says depth a number at is)
      went_at (inr (inl c)) = within_on c.alters (inl c.operates) (c.says _ _) (λ depth a number at is. c.covered number)
      went_at (inr (inr (c, calm, settled))) =
          absurd (reaching_not_calm p shuns w.apart w.ghosts w.behind w.lower waits after goes.reaching (subst (λ (k : Control). IsCalm (behind_call k)) (seen_control seen_then) calm))

    -- So it is with the real one, whatever comes next.
    goes_next :
        (n m : Next) → NextAlike none_hidden w.ghosts n m → AllGoOn (GoesOn p shuns w.apart w.ghosts none_unnamed w.behind w.lower s.heap) n
        → AllGoOn (GoesOn p shuns w.apart w.ghosts none_unnamed w.behind w.lower v.heap) m → GoesTouching program v m → GoesDeparting program s n
    goes_next (halts halt) m is goes too touching = ends_well halt (subst (GoesTouching program v) is touching)
    goes_next (moves e after) m (view, is, alike, spares) goes too touching =
        inl (went_at e after view alike spares goes (subst (AllGoOn (GoesOn p shuns w.apart w.ghosts none_unnamed w.behind w.lower v.heap)) is too) (subst (GoesTouching program v) is touching))
    goes_next (tells request e after) m (view, is, alike, spares) goes too touching =
        inl (went_at e after view alike spares goes (subst (AllGoOn (GoesOn p shuns w.apart w.ghosts none_unnamed w.behind w.lower v.heap)) is too) (subst (GoesTouching program v) is touching))
    goes_next (asks request answered) m (views, is, each) goes too touching = λ granted.
        let all_on : (b : Bool) → GoesOn p shuns w.apart w.ghosts none_unnamed w.behind w.lower v.heap (views b) = subst (AllGoOn (GoesOn p shuns w.apart w.ghosts none_unnamed w.behind w.lower v.heap)) is too in
        let all_went : (b : Bool) → Went program v.heap Quiet (views b) = subst (GoesTouching program v) is touching in
        inl (went_at Quiet (answered granted) (views granted) (each granted) tt (goes granted) (all_on granted) (all_went granted))
    goes_next (picks n taken) m (views, is, each) goes too touching = λ i lt.
        let all_on : (j : ℕ) → suc j ≤ n → GoesOn p shuns w.apart w.ghosts none_unnamed w.behind w.lower v.heap (views j) = subst (AllGoOn (GoesOn p shuns w.apart w.ghosts none_unnamed w.behind w.lower v.heap)) is too in
        let all_went : (j : ℕ) → suc j ≤ n → Went program v.heap Quiet (views j) = subst (GoesTouching program v) is touching in
        inl (went_at Quiet (taken i) (views i) (each i) tt (goes i lt) (all_on i lt) (all_went i lt))

    -- That is what comes next.
    bodies_go_on : GoesDeparting program s (next tds bodies s)
    bodies_go_on =
        goes_next (next tds bodies s) (next tds bodies v) (steps_alike tds bodies none_hidden w.ghosts s v reach.0 w.seen.alike) reach.1 reach_too.1 (seen_goes reach.0 w.goes)

  -- The outermost one ends.
  module _ (is : s.control ≡ Returns [] [] ∷ w.behind) where
    -- The state, with what comes next.
    here : s ≡ state_with s.mode (Returns [] [] ∷ w.behind) s.activations s
    here = ap (λ (k : Control). record s { control = k }) is

    -- So it is with the one that stands for it.
    view_here : v ≡ state_with v.mode (Returns [] [] ∷ w.behind) v.activations v
    view_here = ap (λ (k : Control). record v { control = k }) (seen_control w.seen ∙ is)

    -- What the step leads to.
    real_end : BodyEnds program w.behind s
    real_end = subst (BodyEnds program w.behind) (sym here) (body_ends program w.behind s.mode s.activations s)

    -- And there.
    view_end : BodyEnds program w.behind v
    view_end = subst (BodyEnds program w.behind) (sym view_here) (body_ends program w.behind v.mode v.activations v)

    -- It looks at no object.
    untouched_here : Untouched tds none_hidden w.ghosts s
    untouched_here = subst (Untouched tds none_hidden w.ghosts) (sym here) (returns_untouched tds w.ghosts s.mode w.behind s.activations s)

    -- The real state behind it.
    abbrev after : State
    after = real_end.after

    -- The state that stands for it.
    abbrev view : State
    view = view_end.after

    -- Both states go on alike.
    alike_then : StatesAlike none_hidden w.ghosts after view
    alike_then =
        let alike : NextAlike none_hidden w.ghosts (moves Quiet after) (next tds bodies v) = subst (λ (n : Next). NextAlike none_hidden w.ghosts n (next tds bodies v)) real_end.is (steps_alike tds bodies none_hidden w.ghosts s v untouched_here w.seen.alike) in
        let same : alike.0 ≡ view = (let one = sym alike.1 ∙ view_end.is in cc one) in
        subst (StatesAlike none_hidden w.ghosts after) same alike.2

    -- So the one stands for the other one.
    seen_behind : Seen w.types w.item w.ghosts after view
    seen_behind = seen_on w.seen (λ o ghost. ap (λ (heap : List Object). object_at heap o) real_end.heap) (λ o ghost. ap (λ (heap : List Object). object_at heap o) view_end.heap) alike_then

    -- What is left of the object comes next.
    control_behind : view.control ≡ frame.Confines ∷ treating (Names w.object) (ends (Leaving w.master w.item)) w.tasks (ending w.object w.master w.item w.pool w.mode w.k)
    control_behind = view_end.control ∙ w.is

    -- It is of the collection still.
    member_behind : IsMember after.heap w.object w.access w.item w.pool
    member_behind = subst (λ (heap : List Object). IsMember heap w.object w.access w.item w.pool) (sym real_end.heap) w.member

    -- All masters of the bodies have been left.
    masters_behind : w.lower ≡ after.masters
    masters_behind =
        let none = last_masters p shuns w.apart w.ghosts w.behind w.lower (procedure_of s.activations) w.reaching.upper (older s.activations)
        (subst (λ (k : Control). LeftShuns p shuns w.apart w.ghosts none_unnamed w.behind w.lower (procedure_of s.activations) k w.reaching.upper (older s.activations)) is w.reaching.control) in
        let here : s.masters ≡ w.lower = w.reaching.masters ∙ ap (λ (upper : List Master). upper ++ w.lower) none in
        sym (real_end.masters ∙ here)

    -- No operation runs then.
    went_behind : Went program v.heap Quiet view → InDeparting program s.heap Quiet after
    went_behind (inl c) =
        absurd (touching_not_calm program view c.body (subst (λ (k : Control). IsCalm (behind_call k)) (sym view_end.control) w.calm))
    went_behind (inr (inl c)) =
        let o = c.operates in
        let sight : Sight = record { program = seen_in (Some o.procedure) p; object = o.object; access = o.access } in
        absurd (none_quiet sight o.behind o.upper view.mode _ o.operands (subst (λ (k : Control). Comes sight o.behind o.upper view.mode k o.operands) control_behind o.body.comes))
    went_behind (inr (inr (c, calm, settled))) =
        let known = known_in program (running_procedure view) c.suspensions in
        let ready = subst (λ (k : Control). ReadyIn known view.mode k view.heap (places view) (operands view) view.masters) control_behind c.stepped.ready.1 in
        let runs = confines_running known view.mode _ view.heap (places view) (operands view) view.masters ready in
        record {
          body = inl (record {
            types = w.types;
            master = w.master;
            item = w.item;
            owned = collection w.access w.pool;
            ghosts = w.ghosts;
            v = view;
            seen = seen_behind;
            runs = sym (seen_mode seen_behind) ∙ runs;
            going = subst (IsGoing program w.item (collection w.access w.pool)) masters_behind w.going;
            are = subst (AreGoneFrom program w.types) masters_behind w.are;
            here = subst (AreOfItem w.item (collection w.access w.pool) w.ghosts) (sym real_end.heap) w.here;
            left = subst (IsLeft (collection w.access w.pool) w.master w.item w.ghosts after.heap) (sym (real_end.control ∙ w.is))
                (confined w.access w.pool w.object w.tasks w.mode w.k refl w.is_no_ghost (member_behind.0, member_behind.1, member_behind.2));
            kept = kept_elsewhere program view (record { suspensions = c.suspensions; ready = c.stepped.ready; stands = c.stands; calm = calm; settled = settled })
                (ap leaves_next control_behind);
          });
          alters = subst (Alters s.heap Quiet) (sym real_end.heap) (alters_same s.heap Quiet);
          says = tt;
          covers = λ depth a number at own. tt;
        }

    -- That is what comes next.
    body_ends_here : GoesDeparting program s (next tds bodies s)
    body_ends_here =
        let went : Went program v.heap Quiet view = subst (GoesTouching program v) view_end.is (seen_goes untouched_here w.goes) in
        subst (GoesDeparting program s) (sym real_end.is) (inl (went_behind went))

-- So it is in each state where an operation runs for such a member.
pub within_step : (program : Program) (s : State) → Sound program s → Within program s → GoesDeparting program s (next program.types.items (body_forms program) s)
within_step program s sound w =
    elim (ends_or_not (program_form program) (has_gone w.types) w.apart w.ghosts w.behind w.lower (procedure_of s.activations) s.control w.reaching.upper (older s.activations) w.reaching.control) [
      | inl is ↦ body_ends_here program s sound w is
      | inr on ↦ bodies_go_on program s sound w on
    ]
