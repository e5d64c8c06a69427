-- An object that is freed or undone, or whose master is left, is finalized while an operation that touches storage is under way (7.6.1, 13.11.2), and one that
-- is allocated or declared, also as a copy, begins (4.8, 3.3.1): its operation begins, inside the other one, or what is left goes on.

use Rattle.ada_sound.proofs.TouchingRests.{IsStoredIn}
use Rattle.ada_meaning.specs.declared.event.Cause.TheVariants.{Leaving, Freeing, Assigning, Undoing}
use Rattle.ada_sound.proofs.Operates.{CopiesInto}
use Rattle.std.proofs.Common.{◌≡◌, ℕ, true, List, [], ◌∷◌, ◌++◌, refl, sym, ap, subst, ◌∙◌, inl, inr, ◌+◌, arith, drop, length, suc, ◌⊎◌}
use Rattle.std.specs.Prelude.{Option, Some, None}
use Rattle.ada_parts.specs.Task.{Task}
use Rattle.ada_program.specs.declared.program.Program.{Program}
use Rattle.ada_program.specs.ProgramForm.{ProgramForm, TypeForm, program_form, body_forms}
use Rattle.ada_parts.specs.Part as parts
use Rattle.ada_meaning.specs.declared.event.Birth.{Birth}
use Rattle.ada_meaning.specs.declared.event.Birth.TheVariants.{Creation, Copy, Adjustment}
use Rattle.ada_meaning.specs.declared.event.Cause.{Cause}
use Rattle.ada_meaning.specs.declared.state.Id.{Id}
use Rattle.ada_meaning.specs.declared.state.Mode.TheVariants.{Running}
use Rattle.ada_meaning.specs.declared.state.Value.{Value}
use Rattle.ada_meaning.specs.declared.state.Value.TheVariants.{Names, Part}
use Rattle.ada_meaning.specs.Event.{Quiet}
use Rattle.ada_meaning.specs.Frame.{Treatment, begins, ends, Awaits, Confines, Treats, Copies}
use Rattle.ada_meaning.specs.State.{Activation, Master}
use Rattle.ada_meaning.specs.Step.{halts, moves, tells, asks, picks, older, operating, procedure_of, operands_of, frame_next, treating}
use Rattle.ada_meaning.specs.Named.{State, Next, named, next}
use Rattle.ada_meaning.specs.Run.{Event, settled}
use Rattle.ada_quiet.proofs.FrugalAt.{operation_more}
use Rattle.ada_quiet.specs.Frugal.{is_frugal_body, thrift_of}
use Rattle.ada_quiet.specs.Idle.{copies_parts}
use Rattle.ada_quiet.specs.InUse.{may_be_frugal, tracks_nothing}
use Rattle.ada_idle.specs.Law.{adjusts_copy}
use Rattle.ada_finalized.specs.Law.{finalized_before, NoOperationRunsOn}
use Rattle.ada_reaching.proofs.Behind.{behind_reaches, treating_inside, waiting_inside, waiting_reaches}
use Rattle.ada_reaching.specs.Apart.{Apart}
use Rattle.ada_reaching.specs.Reaching.{IsReaching}
use Rattle.ada_typed.proofs.Control as typed
use Rattle.ada_typed.proofs.Kept.{Each}
use Rattle.ada_typed.proofs.Runs.{step_typed}
use Rattle.ada_sound.proofs.Allowance.{Allowance, body_thrifty, is_thrifty_body}
use Rattle.ada_sound.specs.Agreement.{running_procedure}
use Rattle.ada_sound.proofs.Alters.{Alters}
use Rattle.ada_sound.proofs.Callers.{Suspension, known_in, Stands, AreOf}
use Rattle.ada_sound.proofs.FrugalControl.{BeginsThere, EndsThere, LeavesThere, Frugal, Frugally, FrugalOperated, IsInside, begun_leads, ends_leads, leaves_operated, frugal_starts_inside, operated_in, operated_on, replaces_operated, IsReplacing, replacing_before, IsEnded, IsLeft}
use Rattle.ada_sound.proofs.FrugalSteps.{GoesOrBegins, IsTreated, treats_frugally}
use Rattle.ada_sound.proofs.Inert.{inert_calls, stays_inert}
use Rattle.ada_sound.proofs.Invariant.{Control, Known, Stepped}
use Rattle.ada_sound.proofs.Operating.{PlainBody, WaitsFor, behind_operation}
use Rattle.ada_sound.proofs.OperationBegins.{begins_operation}
use Rattle.ada_sound.proofs.Pauses.{AllWatched, inner_on, touching_awaits}
use Rattle.ada_sound.proofs.QuietOperations.{AdjustsCopy, IsUsedAs, LetsNothingOut, MayTouch, TouchesStorage, none_adjusts_own, used_as}
use Rattle.ada_sound.proofs.CopiedOwners.{BeginsCopy}
use Rattle.ada_sound.proofs.Ready.{running}
use Rattle.ada_sound.proofs.Returns.{CrossesTo, same_types}
use Rattle.ada_sound.proofs.Grounds.{Grounds, treats_copied, treats_made}
use Rattle.ada_sound.proofs.Touching.{AreInner, Pause, Touching, Watch, Watched, Within, is_unnamed, is_watched, operated_among, origin, watches}
use Rattle.ada_sound.proofs.TouchingBegins.{Begun}
use Rattle.ada_sound.proofs.TouchingCopies.{next_owns_none}
use Rattle.ada_sound.proofs.TouchingGoes.{GoesTouching, InTouching, Still, Went, behind_it, inner_stays, outermost, stays_on, still_on, thrifty, touching_on, with_parts, within_on}
use Rattle.ada_sound.proofs.TouchingStands.{touching_stands, treated_begin}
use Rattle.ada_sound.proofs.TouchingStarts.{IsLoneBehind, lone_inside, touching_starts}
use Rattle.ada_sound.proofs.Treating.{IsOperated, told_covered, told_says, treated_next, treats_in_use}
use Rattle.ada_sound.proofs.Treatments.{Begins, BeginsAdjust, StaysHere, TreatedIn}
use Rattle.ada_sound.proofs.Waiting.{SameBody}

-- What is called for a copy is an Adjust, as the definition of programs that copy nothing tells it.
copy_told : (treatment : Treatment) → AdjustsCopy treatment → adjusts_copy treatment ≡ true
copy_told (begins Creation done) copies = absurd copies
copy_told (begins Copy done) copies = refl
copy_told (begins (Adjustment number) done) copies = refl
copy_told (ends cause) copies = absurd copies

-- A copy begins so.
copy_begins : (by : Birth) (done : List parts.Part) → BeginsCopy by → AdjustsCopy (begins by done)
copy_begins Creation done copies = absurd copies
copy_begins Copy done copies = tt
copy_begins (Adjustment number) done copies = tt

-- An object that ceases to exist behind its finalization does so behind what is left of that.
finalized_behind : (v : Value) (treatment : Treatment) (tasks : List Task) (k : Control) → finalized_before k ≡ v → finalized_before (treating v treatment tasks k) ≡ v
finalized_behind v treatment [] k ending = ending
finalized_behind v treatment (task ∷ tasks) k ending = refl

module _ (program : Program) (a : Activation Value) (rest : List (Activation Value)) (k : Control) (s : State) (v : Value) (treatment : Treatment) (tasks : List Task) where
  abbrev whole : State
  whole = with_parts Running (Treats v treatment tasks ∷ k) (a ∷ rest) s

  module _ (grounds : Grounds program whole) (f : Touching program whole) where
    abbrev p : ProgramForm
    p = program_form program

    abbrev operation : Pause program (length f.within.inner) whole
    operation = outermost program whole f

    -- What bodies go by.
    abbrev frugal : Allowance
    frugal = thrifty program whole f

    abbrev upper : List Master
    upper = f.within.frugal.upper

    -- The objects whose operations run inside it, the nearest one first.
    abbrev among : List Value
    among = operated_among f.within.inner

    abbrev waiting : List Suspension
    waiting = behind_it program whole f

    abbrev treater : Known
    treater = known_in program a.procedure f.suspensions

    abbrev Operated : Treatment → Id → ℕ → Type 0
    Operated = IsOperated program a rest k s v treatment tasks grounds f.suspensions

    abbrev BeginsHere : Event → State → Type 0
    BeginsHere e after = Begins treater a rest s program.types.items (body_forms program) k Operated e after

    stands_here : Stands program f.suspensions (record s { activations = a ∷ rest })
    stands_here = record {
      body = f.stands.body;
      behind = f.stands.behind;
      bodies = f.stands.bodies;
      standing = record { suspended = f.stands.standing.suspended; waiting = f.stands.standing.waiting; low = f.stands.standing.low };
    }

    -- The object is freed or undone, or its master is left, or it begins, where an operation of it is called.
    abbrev Treated : Treatment → Type 0
    Treated = IsTreated frugal operation.behind among v k upper

    -- It goes on, or an operation begins.
    abbrev GoesThere : State → Type 0
    GoesThere = GoesOrBegins frugal operation.lower operation.behind among program.types.items (body_forms program) whole (Treated treatment)

    -- So it is one that may be treated inside another operation.
    inside_so : (way : Treatment) → Treated way → IsInside way
    inside_so (begins Creation done) beginning = tt
    inside_so (begins Copy done) beginning = tt
    inside_so (begins (Adjustment number) done) beginning = tt
    inside_so (ends cause) (inl ending) = inl (inl ending.0.0)
    inside_so (ends cause) (inr (inl leaving)) = inl (inr leaving.0.0)
    inside_so (ends cause) (inr (inr replacing)) = inr replacing.0.0

    -- Where it is a copy, no Adjust tracks.
    untracked_so : (way : Treatment) → Treated way → AdjustsCopy way → tracks_nothing p ≡ true
    untracked_so (begins Creation done) beginning copies = absurd copies
    untracked_so (begins Copy done) beginning copies = beginning.0.0
    untracked_so (begins (Adjustment number) done) beginning copies = beginning.0.0
    untracked_so (ends cause) ended copies = absurd copies

    -- It goes on in the body that frees, allocates or declares it, or that leaves its master, or out of whose beginning an exception has come.
    goes_here : (e : Event) (after : State) → Stepped treater s.heap e after × StaysHere treater a rest s program.types.items (body_forms program) k Operated after
        → GoesThere after → Still program whole f after → InTouching program s.heap e after
    goes_here e after (st, (acts, behind)) goes still =
        stays_on program whole f e after (record { procedure = ap procedure_of acts; suspended = ap older acts }) st (by goes) still
      where
        by : GoesThere after → Frugally frugal operation.lower operation.behind among after
        by (inl (stays, same)) = stays
        by (inr (more, called)) =
            let same : length after.activations ≡ length (a ∷ rest) = ap length acts in
            absurd (omega (arith, same, more))

    -- An operation of it is called, where one begins.
    treated_here : (after : State) → length after.activations ≡ suc (length (a ∷ rest)) → GoesThere after → Treated treatment
    treated_here after more (inl (stays, same)) = absurd (omega (arith, same, more))
    treated_here after more (inr (longer, called)) = called

    module _ (e : Event) (after : State) (c : BeginsHere e after) (called_here : Treated treatment) (still : Still program whole f after) where
      -- So it is where the operation begins.
      is_treated : Treated c.treatment
      is_treated = subst Treated (sym c.operated.0) called_here

      inside_it : IsInside c.treatment
      inside_it = inside_so c.treatment is_treated

      waits_here : WaitsFor p.types c.o c.of c.treatment c.tasks k c.behind
      waits_here = subst (λ (types : List TypeForm). WaitsFor types c.o c.of c.treatment c.tasks k c.behind) (same_types a.procedure p) c.waits

      alters_here : Alters s.heap e after.heap
      alters_here = rw c.is c.alters

      -- What is behind its operation is left to do.
      leads_behind : FrugalOperated frugal operation.behind (Names c.o ∷ among) c.behind upper
      leads_behind = by c.treatment is_treated waits_here
        where
          by : (way : Treatment) → Treated way → WaitsFor p.types c.o c.of way c.tasks k c.behind
              → FrugalOperated frugal operation.behind (Names c.o ∷ among) c.behind upper
          by (begins how done) beginning (part, is) =
              subst (λ (j : Control). FrugalOperated frugal operation.behind (Names c.o ∷ among) j upper) (sym is)
              (begun_leads frugal operation.behind among (Names c.o) how done c.of part c.tasks k upper
              (subst (λ (u : Value). BeginsThere frugal u how k) c.operated.3 beginning.0) beginning.1)
          by (ends cause) (inl ending) (is, inside) =
              subst (λ (j : Control). FrugalOperated frugal operation.behind (Names c.o ∷ among) j upper) (sym is)
              (ends_leads frugal operation.behind among (Names c.o) (ends cause) c.tasks k upper
              (subst (λ (u : Value). EndsThere frugal u (ends cause) k) c.operated.3 ending.0) ending.1)
          by (ends cause) (inr (inr ((assigns, copies, treats, replacing, alone), q))) (is, inside) =
              subst (λ (j : Control). FrugalOperated frugal operation.behind (Names c.o ∷ among) j upper) (sym is)
              (replaces_operated frugal operation.behind among (Names c.o) cause c.tasks k upper assigns copies treats
              (subst (λ (u : Value). IsReplacing u k) c.operated.3 replacing) (subst (λ (u : Value). NoOperationRunsOn u k) c.operated.3 alone) q)
          by (ends cause) (inr (inl leaving)) (is, inside) =
              subst (λ (j : Control). FrugalOperated frugal operation.behind (Names c.o ∷ among) j upper) (sym is)
              (leaves_operated frugal operation.behind among (Names c.o) (ends cause) c.tasks k upper
              (subst (λ (u : Value). LeavesThere frugal u (ends cause) k) c.operated.3 leaving.0) leaving.1)

      -- That of the object runs in front of it.
      operated_here : operated_in c.behind ≡ Names c.o ∷ []
      operated_here = by c.treatment is_treated waits_here
        where
          finalized : (cause : Cause) → Treated (ends cause) → finalized_before k ≡ v
          finalized cause (inl ending) = ending.0.2
          finalized cause (inr (inl leaving)) = leaving.0.2
          finalized cause (inr (inr replacing)) = replacing_before v k replacing.0.3

          by : (way : Treatment) → Treated way → WaitsFor p.types c.o c.of way c.tasks k c.behind → operated_in c.behind ≡ Names c.o ∷ []
          by (begins how done) beginning (part, is) = ap operated_in is
          by (ends cause) ending (is, inside) =
              let before = finalized_behind (Names c.o) (ends cause) c.tasks k (finalized cause ending ∙ c.operated.3) in
              ap operated_in is ∙ ap (λ (u : Value). u ∷ []) before

      leads_operated : FrugalOperated frugal operation.behind (operated_in c.behind ++ among) c.behind upper
      leads_operated =
          subst (λ (us : List Value). FrugalOperated frugal operation.behind (us ++ among) c.behind upper) (sym operated_here) leads_behind

      -- Behind one that is assigned to, what is copied is stored in it.
      replaces_here : CopiesInto c.treatment (Names c.o) k
      replaces_here = by c.treatment is_treated
        where
          by : (way : Treatment) → Treated way → CopiesInto way (Names c.o) k
          by (begins how done) treated = tt
          by (ends (Leaving m item)) treated = tt
          by (ends (Freeing number)) treated = tt
          by (ends (Assigning number)) (inl ending) = absurd ending.0.0
          by (ends (Assigning number)) (inr (inl leaving)) = absurd leaving.0.0
          by (ends (Assigning number)) (inr (inr replacing)) = subst (λ (u : Value). IsReplacing u k) c.operated.3 replacing.0.3
          by (ends (Undoing number)) treated = tt

      -- So it is once that has come to its end.
      frugal_behind : Frugal frugal operation.behind among Running c.behind upper
      frugal_behind = operated_on frugal operation.behind among Running c.behind upper tt leads_operated

      -- What is behind its operation.
      abbrev behind_it_all : State
      behind_it_all = behind_operation (a ∷ rest) c.behind s.masters after

      -- The operation begins here.
      abbrev started : State
      started = record (running k a rest s) { heap = c.heap }

      module _ (w : Watch) (behind : Control) (lower : List Master) where
        -- The bodies that run in front of this refer to nothing in what is watched.
        abbrev Reaches : Apart → State → Type 0
        Reaches apart t = IsReaching p (watches p.types (Some w)) apart (is_watched (Some w)) (is_unnamed p.types (Some w)) behind lower t

        -- Where they treat the object, they go on behind its operation, if that begins so.
        reaches_behind : (before apart : Apart) → Reaches before whole → Reaches apart after → Reaches apart behind_it_all
        reaches_behind before apart treats begun = by c.treatment inside_it waits_here
          where
            by : (way : Treatment) → IsInside way → WaitsFor p.types c.o c.of way c.tasks k c.behind → Reaches apart behind_it_all
            by (begins how done) inside' (part, is) =
                let left : Control = Awaits (Names c.o) how done c.of part c.tasks ∷ k in
                let first : Reaches apart (operating named c.number c.b (Part c.o c.place) c.behind started) = rw c.is at begun in
                let there : Reaches apart (operating named c.number c.b (Part c.o c.place) left started) =
                subst (λ (j : Control). Reaches apart (operating named c.number c.b (Part c.o c.place) j started)) is first in
                let within =
                waiting_inside p (watches p.types (Some w)) before (is_watched (Some w)) (is_unnamed p.types (Some w)) behind lower
                (Awaits (Names c.o) how done c.of part c.tasks) a.procedure k treats.upper rest treats.control.2 in
                let reaching =
                waiting_reaches p (watches p.types (Some w)) apart (is_watched (Some w)) (is_unnamed p.types (Some w)) behind lower c.number c.b
                (Part c.o c.place) (Awaits (Names c.o) how done c.of part c.tasks) k started refl within there in
                rw (c.is, is) (record {
                  ghosts_there = reaching.ghosts_there;
                  are_ghosts = reaching.are_ghosts;
                  low = reaching.low;
                  places = reaching.places;
                  operands = reaching.operands;
                  upper = reaching.upper;
                  masters = reaching.masters;
                  control = reaching.control;
                  jumps = reaching.jumps;
                  seeks = reaching.seeks;
                })
            by (ends cause) freed' (is, inside) =
                let left : Control = treating (Names c.o) (ends cause) c.tasks k in
                let first : Reaches apart (operating named c.number c.b (Part c.o c.place) c.behind started) = rw c.is at begun in
                let there : Reaches apart (operating named c.number c.b (Part c.o c.place) (Confines ∷ left) started) =
                subst (λ (j : Control). Reaches apart (operating named c.number c.b (Part c.o c.place) j started)) is first in
                let within =
                treating_inside p (watches p.types (Some w)) before (is_watched (Some w)) (is_unnamed p.types (Some w)) behind lower (Names c.o) (ends cause)
                c.tasks a.procedure k treats.upper rest treats.control.2 in
                let reaching =
                behind_reaches p (watches p.types (Some w)) apart (is_watched (Some w)) (is_unnamed p.types (Some w)) behind lower c.number c.b
                (Part c.o c.place) left started within there in
                rw (c.is, is) (record {
                  ghosts_there = reaching.ghosts_there;
                  are_ghosts = reaching.are_ghosts;
                  low = reaching.low;
                  places = reaching.places;
                  operands = reaching.operands;
                  upper = reaching.upper;
                  masters = reaching.masters;
                  control = reaching.control;
                  jumps = reaching.jumps;
                  seeks = reaching.seeks;
                })

      -- What is watched where the operation begins is so behind it, too.
      watched_behind :
          (watch : Option Watch) (behind : Control) (lower : List Master) → Watched program watch behind lower whole → Watched program watch behind lower after
          → Watched program watch behind lower behind_it_all
      watched_behind None behind lower treats begun = tt
      watched_behind (Some w) behind lower (found, (before, are, treats)) (found', (apart, are', begun)) =
          (found', (apart, are', reaches_behind w behind lower before apart treats begun))

      all_behind :
          (procedure : Option ℕ) (depth : ℕ) (last : Option ℕ) (others inner : List Suspension)
          (are : AreInner program whole frugal operation.behind operation.lower procedure depth last others inner)
          → AllWatched program whole frugal operation.behind operation.lower after procedure depth last others inner are
          → AllWatched program whole frugal operation.behind operation.lower behind_it_all procedure depth last others inner are
      all_behind procedure depth last others [] are begun = tt
      all_behind procedure depth last others (g ∷ inner) (inl (call, more)) begun = all_behind g.procedure (suc depth) last others inner more begun
      all_behind procedure depth last others (g ∷ inner) (inr (further, more)) begun = (
        watched_behind further.pause.watch further.pause.behind further.pause.lower further.pause.still begun.0,
        all_behind g.procedure (suc depth) last others inner more begun.1,
      )

      still_behind : Still program whole f behind_it_all
      still_behind = (
        watched_behind operation.watch operation.behind operation.lower operation.still still.0,
        all_behind a.procedure 0 (Some operation.number) waiting f.within.inner f.within.within still.1,
      )

      same_behind : SameBody whole behind_it_all
      same_behind = record { procedure = refl; suspended = refl }

      within_behind : Within program f.suspensions behind_it_all
      within_behind =
          subst (λ (all : List Suspension). Within program all behind_it_all) (sym f.within.are)
          (within_on program whole f f.within.inner e behind_it_all
          (inner_stays program whole f e behind_it_all same_behind alters_here still_behind)
          refl
          (record {
            upper = upper;
            masters = f.within.frugal.masters;
            frugally = frugal_behind;
          })
          still_behind.0
          alters_here)

      module _ (is : next program.types.items (body_forms program) whole ≡ moves e after) where
        typed_after : typed.Typed p after
        typed_after = step_typed program grounds.well whole after settled e grounds.typed (rw is (refl, refl))

        -- One begins that touches no storage.
        begins_quiet : PlainBody p.types c.b × LetsNothingOut c.treatment c.b → Went program s.heap e after
        begins_quiet plain = inr (inl (record {
          operates =
              begins_operation program grounds.well a rest f.suspensions s k Operated e after stands_here typed_after c
              (inr (inside_it, replaces_here, within_behind)) plain;
          alters = alters_here;
          says = told_says e s.heap after c.tells;
          covered = told_covered program e c.tells;
        }))

        -- One begins that touches storage.
        module _ (begun : Begun program f.suspensions c.treatment c.behind s.masters after) (frugal_body : is_frugal_body (thrift_of p) c.b ≡ true) where
          abbrev waits_for : Suspension
          waits_for = origin program 0 after begun.pause

          -- The activations that wait keep their operands.
          one_more : (count : ℕ) → operands_of (drop (suc (suc count)) after.activations) ≡ operands_of (drop count rest)
          one_more count = ap (λ (t : State). operands_of (drop (suc (suc count)) t.activations)) c.is

          deeper : (n : ℕ) → operands_of (drop (suc (suc 0 + n)) after.activations) ≡ operands_of (drop (suc (0 + n)) whole.activations)
          deeper n =
              let one : suc 0 + n ≡ suc n = omega arith in
              let none : 0 + n ≡ n = omega arith in
              rw (one, none) (one_more n)

          -- The one that waits for it is of the body that treats the object.
          of_body : a.procedure ≡ waits_for.procedure
          of_body =
              let bodies : AreOf program (a ∷ rest) (waits_for ∷ f.suspensions) = subst (λ (all : List (Activation Value)). AreOf program all (waits_for ∷ f.suspensions)) (ap (λ (t : State). older t.activations) c.is) begun.stands.bodies in
              bodies.0

          inner_begun :
              AreInner program after frugal operation.behind operation.lower (running_procedure after) 0 (Some operation.number) waiting (waits_for ∷ f.within.inner)
          inner_begun = inr (
            record {
              pause = begun.pause;
              is = refl;
              behind_it = sym f.within.are ∙ sym begun.suspensions;
              runs = begun.runs;
              inside = subst IsInside (sym begun.treated) inside_it;
              upper = upper;
              masters = begun.is_lower ∙ f.within.frugal.masters;
              leads =
                  subst (λ (j : Control). FrugalOperated frugal operation.behind (operated_in j ++ among) j upper) (sym begun.is_behind)
                  leads_operated;
            },
            subst (λ (procedure : Option ℕ). AreInner program after frugal operation.behind operation.lower procedure (suc 0) (Some operation.number) waiting f.within.inner) of_body
                (inner_on program whole frugal operation.behind operation.lower after e a.procedure 0 (suc 0) (Some operation.number) waiting f.within.inner f.within.within alters_here deeper still.1),
          )

          -- Its body is frugal as the others are.
          runs_begun : Frugally frugal operation.lower operation.behind (operated_among (waits_for ∷ f.within.inner)) after
          runs_begun =
              let body : is_thrifty_body frugal c.b ≡ true = body_thrifty p c.b (operation_more p c.b frugal_body) in
              subst (λ (t : State). Frugally frugal operation.lower operation.behind (operated_among (waits_for ∷ f.within.inner)) t) (sym c.is)
              (frugal_starts_inside frugal operation.behind (operated_in begun.pause.behind ++ among) upper operation.lower c.number c.b body (Part c.o c.place) c.behind (record (running k a rest s) { heap = c.heap }) f.within.frugal.masters
              (subst (λ (j : Control). FrugalOperated frugal operation.behind (operated_in j ++ among) c.behind upper) (sym begun.is_behind) leads_operated))

          begins_inside : InTouching program s.heap e after
          begins_inside =
              touching_on program whole f (waits_for ∷ f.within.inner) e after inner_begun (one_more (length f.within.inner)) runs_begun still.0
              (subst (λ (all : List Suspension). CrossesTo program (waits_for ∷ all) s.heap e after) f.within.are (record {
                stepped = record {
                  ready = begun.ready;
                  alters = alters_here;
                  says = told_says e s.heap after c.tells _ _;
                };
                stands = begun.stands;
              }))

        lone_ended : (cause : Cause) → ends cause ≡ treatment → IsEnded (ends cause) ⊎ IsLeft (ends cause) → IsLoneBehind v (ends cause) k
        lone_ended cause one ended =
            lone_inside v (ends cause) k ended
            (treated_begin program whole grounds f.suspensions f.within f.stands v cause tasks k (ap (λ (way : Treatment). Treats v way tasks ∷ k) (sym one)) ended)

        stored_in : IsReplacing v k → (first t : ℕ) (rest : Control) → k ≡ Copies first t ∷ rest → IsStoredIn v rest
        stored_in replacing first t rest at = record {
          to = replacing.to;
          width = replacing.width;
          rest = replacing.rest;
          is = (let one = sym at ∙ replacing.is in cc one);
        }

        -- Nothing of the object begins behind it, where it ends; and where a record of it is assigned to, what is copied is stored in it.
        lone_here : (way : Treatment) → way ≡ treatment → Treated way → IsLoneBehind v way k
        lone_here (begins how done) one treated = tt
        lone_here (ends cause) one (inl ending) = lone_ended cause one (inl ending.0.0)
        lone_here (ends cause) one (inr (inl leaving)) = lone_ended cause one (inr leaving.0.0)
        lone_here (ends (Leaving m item)) one (inr (inr replacing)) = absurd replacing.0.0
        lone_here (ends (Freeing number)) one (inr (inr replacing)) = absurd replacing.0.0
        lone_here (ends (Assigning number)) one (inr (inr replacing)) = λ first t rest at. stored_in replacing.0.3 first t rest at
        lone_here (ends (Undoing number)) one (inr (inr replacing)) = absurd replacing.0.0

        -- So one begins inside that touches storage.
        begins_frugal : MayTouch p c.number c.treatment → may_be_frugal p ≡ true → is_frugal_body (thrift_of p) c.b ≡ true → TouchesStorage p c.treatment c.b
            → Went program s.heap e after
        begins_frugal touches may frugal_body stores =
            let uses = treats_in_use program whole grounds whole.control refl tt in
            let lone = lone_here treatment refl called_here in
            inl (begins_inside (touching_starts program a rest s k v treatment tasks f.suspensions whole refl grounds lone stands_here (λ none q y gone. touching_awaits program f.suspensions whole f.within) uses (treats_made program whole grounds v treatment tasks k refl) e after c touches may frugal_body stores typed_after) frugal_body)

        begins_as : IsUsedAs p c.of c.number c.treatment c.b → Went program s.heap e after
        begins_as (inl plain) = begins_quiet plain
        begins_as (inr (inl (touches, may, frugal_body, stores))) = begins_frugal touches may frugal_body stores
        begins_as (inr (inr (copies, tracks, own))) = absurd (none_adjusts_own p (untracked_so c.treatment is_treated copies) c.of c.number own)

        -- Where what is treated is a copy, the program copies records with controlled parts.
        copied_here : AdjustsCopy c.treatment → copies_parts p ≡ true
        copied_here copies =
            treats_copied program whole grounds v treatment tasks k refl
            (subst (λ (way : Treatment). adjusts_copy way ≡ true) c.operated.0 (copy_told c.treatment copies))

        begins_there : Went program s.heap e after
        begins_there =
            begins_as (used_as program (treats_in_use program whole grounds whole.control refl tt) grounds.well c.of c.number c.b c.there c.treatment copied_here c.called)

    -- No Adjust is called that tracks components.
    none_tracks : (e : Event) (after : State) → (c : BeginsAdjust treater a rest s program.types.items (body_forms program) v k Operated e after) → GoesThere after → ⊥
    none_tracks e after c goes =
        let more : length after.activations ≡ suc (length (a ∷ rest)) = ap (λ (t : State). length t.activations) c.is in
        let treated : Treated (begins c.by c.done) = subst Treated (sym c.operated.0) (treated_here after more goes) in
        c.owns
        (next_owns_none program grounds.well (untracked_so (begins c.by c.done) treated (copy_begins c.by c.done c.copies)) a.procedure f.suspensions c.to.x.cell.access
        c.to.record_type c.of c.part c.tasks c.to.left)

    -- Whatever comes next.
    treated_went : (n : Next) → next program.types.items (body_forms program) whole ≡ n → TreatedIn treater a rest s program.types.items (body_forms program) k Operated v n
        → Each GoesThere n → Each (Still program whole f) n → GoesTouching program whole n
    treated_went (halts halt) is t goes still = t
    treated_went (moves e after) is (inl st) goes still = inl (goes_here e after st goes still)
    treated_went (moves e after) is (inr (inl c)) goes still = begins_there e after c (treated_here after (ap (λ (t : State). length t.activations) c.is) goes) still is
    treated_went (moves e after) is (inr (inr c)) goes still = absurd (none_tracks e after c goes)
    treated_went (tells request e after) is t goes still = absurd t
    treated_went (asks request answered) is t goes still = absurd t
    treated_went (picks n taken) is t goes still = λ i lt. inl (goes_here Quiet (taken i) (t i lt) (goes i lt) (still i lt))

    pub treats_step : GoesTouching program whole (frame_next named program.types.items (body_forms program) (Treats v treatment tasks) (with_parts Running k (a ∷ rest) s))
    unfolding next
    treats_step =
        treated_went _ refl (treated_next program a rest k s v treatment tasks grounds f.suspensions (touching_stands program whole grounds f.suspensions f.within f.stands f.ready treater.program.types) f.ready.1)
        (treats_frugally frugal operation.lower operation.behind among program.types.items (body_forms program) whole
        (inert_calls program grounds.well) (stays_inert program) f.within.frugal refl v treatment tasks k refl)
        (still_on program whole f grounds (λ j awaited last. cc last))
