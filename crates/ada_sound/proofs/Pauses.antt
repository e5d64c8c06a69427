-- What waits for operations that touch storage stays as it is known, whatever the bodies in front of it do (7.6, 7.6.1): each object stays the object that it
-- was, and each activation that waits keeps the operands that it had. Where a part of an object has been finalized that ends behind, or has been begun of one
-- that begins, what is watched is another object. So it stays where an exception comes out of what begins the part.

use Rattle.ada_meaning.specs.declared.event.Cause.TheVariants.{Assigning}
use Rattle.std.proofs.Common.{◌≡◌, ◌≢◌, ℕ, zero, suc, false, List, [], ◌∷◌, ◌++◌, length, drop, refl, sym, ap, ◌∙◌, subst, ◌⊎◌, inl, inr, arith}
use Rattle.std.proofs.Math.Nat.{add-zero}
use Rattle.std.specs.Prelude.{◌+◌, ◌==◌, Option, Some, None}
use Rattle.ada_parts.specs.Task.{Task}
use Rattle.ada_program.specs.declared.program.Program.{Program}
use Rattle.ada_program.specs.ProgramForm.{ProgramForm, program_form}
use Rattle.ada_parts.specs.Part as parts
use Rattle.ada_program.specs.declared.program.Exception.{Exception}
use Rattle.ada_meaning.specs.declared.event.Birth.{Birth}
use Rattle.ada_meaning.specs.declared.event.Cause.{Cause}
use Rattle.ada_meaning.specs.declared.state.Id.{Id}
use Rattle.ada_meaning.specs.declared.state.Mode.{Mode}
use Rattle.ada_meaning.specs.declared.state.Mode.TheVariants.{Raising}
use Rattle.ada_meaning.specs.declared.state.Value.{Value}
use Rattle.ada_meaning.specs.declared.state.Value.TheVariants.{Names}
use Rattle.ada_meaning.specs.Frame.{ends}
use Rattle.ada_meaning.specs.Frame as frame
use Rattle.ada_meaning.specs.Named.{Object, State, object_at}
use Rattle.ada_meaning.specs.Event.{Quiet}
use Rattle.ada_meaning.specs.Run.{Event}
use Rattle.ada_meaning.specs.State.{Activation, Master}
use Rattle.ada_meaning.specs.Step.{older, operands_of, procedure_of, treating}
use Rattle.ada_owners.proofs.Objects.{id_is}
use Rattle.ada_reaching.specs.Apart.{Apart}
use Rattle.ada_reaching.specs.Law.{GhostsStay}
use Rattle.ada_reaching.specs.Reaching.{IsReaching, LeftShuns}
use Rattle.ada_reaching.proofs.Behind.{assigned_other, ends_other, reaching_kept, waiting_kept}
use Rattle.ada_tracked.proofs.Lists.{is_apart, is_same}
use Rattle.ada_sound.proofs.Allowance.{Allowance, allowance_of}
use Rattle.ada_sound.proofs.FrugalControl.{Frugal}
use Rattle.ada_sound.specs.Agreement.{running_procedure}
use Rattle.ada_sound.proofs.Alters.{Alters, alters_same}
use Rattle.ada_sound.proofs.Callers.{Suspension, callers_of}
use Rattle.ada_sound.proofs.Invariant.{Control, OneAwaits}
use Rattle.ada_sound.proofs.OperationStarts.{is_awaited}
use Rattle.ada_sound.proofs.Touching.{Pause, Watch, Watched, Within, AreInner, operated_among, origin, is_unnamed, is_watched, watches}

-- What is known of an activation that waits for an operation, behind a step: of the object, what the step leaves, and the operands.
abbrev pub pause_on :
    (program : Program) (depth later : ℕ) (s after : State) (e : Event) (f : Pause program depth s) → Alters s.heap e after.heap
    → operands_of (drop (suc later) after.activations) ≡ operands_of (drop (suc depth) s.activations) → Watched program f.watch f.behind f.lower after
    → Pause program later after
pause_on program depth later s after e f alters same still = record {
  number = f.number;
  is_body = f.is_body;
  procedure = f.procedure;
  places = f.places;
  suspensions = f.suspensions;
  object = f.object;
  place = f.place;
  x = (alters.kept f.object f.x f.found).0;
  found = (alters.kept f.object f.x f.found).1;
  access = f.access;
  of_access = (alters.kept f.object f.x f.found).2.0 ∙ f.of_access;
  home = f.home;
  at_home = (alters.kept f.object f.x f.found).2.2 ∙ f.at_home;
  treatment = f.treatment;
  of = f.of;
  behind = f.behind;
  after = f.after;
  tasks = f.tasks;
  awaited = f.awaited;
  lower = f.lower;
  kept = f.kept;
  rooms = f.rooms;
  holds = f.holds;
  waits = f.waits;
  covers = f.covers;
  also = f.also;
  operands = f.operands;
  computed = same ∙ f.computed;
  held = f.held;
  watch = f.watch;
  still = still;
  rests = f.rests;
  adjusts = f.adjusts;
  lets = f.lets;
}

-- One of the activations that wait behind others waits for an operation: so does one of them all.
awaits_behind : (program : Program) (others inner : List Suspension) → OneAwaits (callers_of program others) → OneAwaits (callers_of program (inner ++ others))
awaits_behind program others [] awaits = awaits
awaits_behind program others (g ∷ inner) awaits = inr (awaits_behind program others inner awaits)

-- While an operation that touches storage is under way, the activation waits for it that called the outermost one.
pub touching_awaits : (program : Program) (gs : List Suspension) (s : State) → Within program gs s → OneAwaits (callers_of program gs)
touching_awaits program gs s w =
    let o = w.outermost in
    subst (λ (all : List Suspension). OneAwaits (callers_of program all)) (sym w.are)
    (awaits_behind program (origin program (length w.inner) s o ∷ o.suspensions) w.inner
    (inl (is_awaited (program_form program).types o.object o.of o.treatment o.tasks o.after o.behind o.awaited)))

module _ (program : Program) (s : State) (frugal : Allowance) (back : Control) (lower : List Master) where
  -- What is watched in each of these activations that waits for an operation is so still in a state.
  abbrev pub AllWatched :
      (after : State) (running : Option ℕ) (depth : ℕ) (outermost : Option ℕ) (others inner : List Suspension)
      → AreInner program s frugal back lower running depth outermost others inner → Type 0
  AllWatched after running depth outermost others [] w = Unit {0}
  AllWatched after running depth outermost others (g ∷ inner) (inl (call, more)) = AllWatched after g.procedure (suc depth) outermost others inner more
  AllWatched after running depth outermost others (g ∷ inner) (inr (operation, more)) =
      Watched program operation.pause.watch operation.pause.behind operation.pause.lower after
      × AllWatched after g.procedure (suc depth) outermost others inner more

  -- The activations that wait, these and those behind them, have the operands that they had.
  abbrev pub SameBehind : (after : State) (depth later : ℕ) → Type 0
  SameBehind after depth later = (n : ℕ) → operands_of (drop (suc (later + n)) after.activations) ≡ operands_of (drop (suc (depth + n)) s.activations)

  -- So it is of all but the nearest one, and of that one.
  same_further : (after : State) (depth later : ℕ) → SameBehind after depth later → SameBehind after (suc depth) (suc later)
  same_further after depth later same n =
      let later_so : later + suc n ≡ suc later + n = omega arith in
      let depth_so : depth + suc n ≡ suc depth + n = omega arith in
      subst (λ (m : ℕ). operands_of (drop (suc m) after.activations) ≡ operands_of (drop (suc (suc depth + n)) s.activations)) later_so
      (subst (λ (m : ℕ). operands_of (drop (suc (later + suc n)) after.activations) ≡ operands_of (drop (suc m) s.activations)) depth_so (same (suc n)))

  same_first : (after : State) (depth later : ℕ) → SameBehind after depth later → operands_of (drop (suc later) after.activations) ≡ operands_of (drop (suc depth) s.activations)
  same_first after depth later same =
      subst (λ (m : ℕ). operands_of (drop (suc m) after.activations) ≡ operands_of (drop (suc depth) s.activations)) (add-zero later)
      (subst (λ (m : ℕ). operands_of (drop (suc (later + zero)) after.activations) ≡ operands_of (drop (suc m) s.activations)) (add-zero depth) (same zero))

  -- What they wait for is known behind a step, too.
  pub inner_on :
      (after : State) (e : Event) (running : Option ℕ) (depth later : ℕ) (outermost : Option ℕ) (others inner : List Suspension)
      (w : AreInner program s frugal back lower running depth outermost others inner)
      → Alters s.heap e after.heap → SameBehind after depth later
      → AllWatched after running depth outermost others inner w → AreInner program after frugal back lower running later outermost others inner
  inner_on after e running depth later outermost others [] w alters same still = w
  inner_on after e running depth later outermost others (g ∷ inner) (inl (call, more)) alters same still =
      inl (call, inner_on after e g.procedure (suc depth) (suc later) outermost others inner more alters (same_further after depth later same) still)
  inner_on after e running depth later outermost others (g ∷ inner) (inr (operation, more)) alters same still = inr (
    record {
      pause = pause_on program depth later s after e operation.pause alters (same_first after depth later same) still.0;
      is = operation.is;
      behind_it = operation.behind_it;
      runs = operation.runs;
      inside = operation.inside;
      upper = operation.upper;
      masters = operation.masters;
      leads = operation.leads;
    },
    inner_on after e g.procedure (suc depth) (suc later) outermost others inner more alters (same_further after depth later same) still.1,
  )

-- A part of an object has been finalized, and what is left of its finalization is next, behind which it ends (7.6.1).
pub record EndsBehind (o : Id) (k : Control) : Type 0 where
  pub cause : Cause
  pub tasks : List Task
  pub rest : Control
  pub is : k ≡ frame.Confines ∷ treating (Names o) (ends cause) tasks (frame.Ends (Names o) ∷ rest)

-- Or the operation has come to its end that begins a part of it (7.6).
pub record BeginsBehind (o : Id) (k : Control) : Type 0 where
  pub by : Birth
  pub done : List parts.Part
  pub of : ℕ
  pub part : ℕ
  pub tasks : List Task
  pub rest : Control
  pub is : k ≡ frame.Awaits (Names o) by done of part tasks ∷ rest

-- Or a Finalize of a part of a record of it that is assigned to (5.2).
pub record AssignsBehind (o : Id) (k : Control) : Type 0 where
  pub number : ℕ
  pub first : ℕ
  pub record_type : ℕ
  pub to : ℕ
  pub width : ℕ
  pub tasks : List Task
  pub rest : Control
  pub is : k ≡ frame.Confines ∷ treating (Names o) (ends (Assigning number)) tasks (frame.Copies first record_type ∷ frame.StoresRecord (Names o) to width ∷ rest)

-- What is left of its treatment is next.
abbrev pub GoesOnBehind : Id → Control → Type 0
GoesOnBehind o k = EndsBehind o k ⊎ (BeginsBehind o k ⊎ AssignsBehind o k)

-- All objects but one stay as they are.
abbrev pub OthersStay : Id → (before after : List Object) → Type 0
OthersStay o before after = (q : Id) → q ≢ o → object_at after q ≡ object_at before q

-- What is around stays around while what is watched is so still, and what is left to do goes on.
module _ (program : Program) (s after : State) (active : after.activations ≡ s.activations)
    (still : (watch : Option Watch) (behind : Control) (lower : List Master) → Watched program watch behind lower s → Watched program watch behind lower after)
  where
    -- What is watched in each of these activations is so still.
    all_on :
        (frugal : Allowance) (back : Control) (lower : List Master) (running : Option ℕ) (depth : ℕ) (outermost : Option ℕ) (waiting inner : List Suspension)
        (w : AreInner program s frugal back lower running depth outermost waiting inner)
        → AllWatched program s frugal back lower after running depth outermost waiting inner w
    all_on frugal back lower running depth outermost waiting [] w = tt
    all_on frugal back lower running depth outermost waiting (g ∷ inner) (inl (call, more)) =
        all_on frugal back lower g.procedure (suc depth) outermost waiting inner more
    all_on frugal back lower running depth outermost waiting (g ∷ inner) (inr (operation, more)) = (
      still operation.pause.watch operation.pause.behind operation.pause.lower operation.pause.still,
      all_on frugal back lower g.procedure (suc depth) outermost waiting inner more,
    )

    within_by :
        (gs : List Suspension) (e : Event) (w : Within program gs s) → after.masters ≡ s.masters → Alters s.heap e after.heap
        → Frugal (allowance_of (program_form program)) w.outermost.behind (operated_among w.inner) after.mode after.control w.frugal.upper
        → Within program gs after
    within_by gs e w masters alters goes =
        let same : (n : ℕ) → operands_of (drop (suc n) after.activations) ≡ operands_of (drop (suc n) s.activations) =
        λ n. ap (λ (all : List (Activation Value)). operands_of (drop (suc n) all)) active in
        let frugal = allowance_of (program_form program) in
        let last = Some w.outermost.number in
        let waiting = origin program (length w.inner) s w.outermost ∷ w.outermost.suspensions in
        record {
          inner = w.inner;
          outermost =
              pause_on program (length w.inner) (length w.inner) s after e w.outermost alters (same (length w.inner))
              (still w.outermost.watch w.outermost.behind w.outermost.lower w.outermost.still);
          are = w.are;
          within =
              subst (λ (procedure : Option ℕ). AreInner program after frugal w.outermost.behind w.outermost.lower procedure 0 last waiting w.inner)
              (sym (ap procedure_of active))
              (inner_on program s frugal w.outermost.behind w.outermost.lower after e (running_procedure s) 0 0 last waiting w.inner w.within alters
              (λ n. same (0 + n))
              (all_on frugal w.outermost.behind w.outermost.lower (running_procedure s) 0 last waiting w.inner w.within));
          frugal = record {
            upper = w.frugal.upper;
            masters = masters ∙ w.frugal.masters;
            frugally = goes;
          };
          untreated = w.untreated;
          alone = w.alone;
          calm = w.calm;
          settled = w.settled;
          may = w.may;
        }

-- So it is while no object changes but one whose treatment goes on behind: what is watched is another one.
module _ (program : Program) (s after : State) (o : Id) (going : GoesOnBehind o s.control) (others : OthersStay o s.heap after.heap)
    (control : after.control ≡ s.control) (active : after.activations ≡ s.activations) (mode : after.mode ≡ s.mode) where
  abbrev p : ProgramForm
  p = program_form program

  module _ (w : Watch) (apart : Apart) (behind : Control) (lower : List Master)
      (reaching : IsReaching p (watches p.types (Some w)) apart (is_watched (Some w)) (is_unnamed p.types (Some w)) behind lower s) where
    holder_other : w.holder ≢ o
    holder_other same =
        let seen : (w.holder.0 == o.0) ≡ false = by going in
        is_apart w.holder.0 o.0 seen (ap (λ (q : Id). q.0) same)
      where
        by : GoesOnBehind o s.control → (w.holder.0 == o.0) ≡ false
        by (inl ending) =
            ends_other p (watches p.types (Some w)) apart (is_watched (Some w)) (is_unnamed p.types (Some w)) behind lower (Names o) ending.cause ending.tasks
            ending.rest (procedure_of s.activations) reaching.upper (older s.activations) (rw ending.is at reaching.control)
        by (inr (inr a)) =
            assigned_other p (watches p.types (Some w)) apart (is_watched (Some w)) (is_unnamed p.types (Some w)) behind lower (Names o) a.number a.first
            a.record_type a.to a.width a.tasks a.rest (procedure_of s.activations) reaching.upper (older s.activations) (rw a.is at reaching.control)
        by (inr (inl begun)) =
            let left : LeftShuns p (watches p.types (Some w)) apart (is_watched (Some w)) (is_unnamed p.types (Some w)) behind lower
            (procedure_of s.activations) (frame.Awaits (Names o) begun.by begun.done begun.of begun.part begun.tasks ∷ begun.rest) reaching.upper
            (older s.activations) =
            rw begun.is at reaching.control in
            left.0.0

    ghosts_stay : GhostsStay (is_watched (Some w)) s.heap after.heap
    ghosts_stay q is = others q (λ same. holder_other (id_is w.holder q (is_same w.holder.0 q.0 is) ∙ same))

    reaching_still :
        after.masters ≡ s.masters → IsReaching p (watches p.types (Some w)) apart (is_watched (Some w)) (is_unnamed p.types (Some w)) behind lower after
    reaching_still masters = by going
      where
        by : GoesOnBehind o s.control → IsReaching p (watches p.types (Some w)) apart (is_watched (Some w)) (is_unnamed p.types (Some w)) behind lower after
        by (inl ending) =
            reaching_kept p (watches p.types (Some w)) apart (is_watched (Some w)) (is_unnamed p.types (Some w)) behind lower
            (treating (Names o) (ends ending.cause) ending.tasks (frame.Ends (Names o) ∷ ending.rest)) s after ending.is control active masters (λ runs. sym mode ∙ runs) ghosts_stay
            reaching
        by (inr (inr a)) =
            reaching_kept p (watches p.types (Some w)) apart (is_watched (Some w)) (is_unnamed p.types (Some w)) behind lower
            (treating (Names o) (ends (Assigning a.number)) a.tasks (frame.Copies a.first a.record_type ∷ frame.StoresRecord (Names o) a.to a.width ∷ a.rest))
            s after a.is control active masters (λ runs. sym mode ∙ runs) ghosts_stay reaching
        by (inr (inl begun)) =
            waiting_kept p (watches p.types (Some w)) apart (is_watched (Some w)) (is_unnamed p.types (Some w)) behind lower
            (frame.Awaits (Names o) begun.by begun.done begun.of begun.part begun.tasks) begun.rest s after refl begun.is control active masters (λ runs. sym mode ∙ runs) ghosts_stay
            reaching

  watched_on :
      after.masters ≡ s.masters → (watch : Option Watch) (behind : Control) (lower : List Master) → Watched program watch behind lower s
      → Watched program watch behind lower after
  watched_on masters None behind lower still = tt
  watched_on masters (Some w) behind lower (found, (apart, are, reaching)) =
      (others w.holder (holder_other w apart behind lower reaching) ∙ found, (apart, are, reaching_still w apart behind lower reaching masters))

  pub within_kept :
      (gs : List Suspension) (e : Event) → Within program gs s → after.masters ≡ s.masters → Alters s.heap e after.heap → Within program gs after
  within_kept gs e w masters alters = within_by program s after active (watched_on masters) gs e w masters alters (rw (mode, control) w.frugal.frugally)

-- Where the operation has come to its end that begins a part of a new object, frugal bodies go on, too, if an exception has come out of it (7.6).
raised_frugal :
    (frugal : Allowance) (back : Control) (among : List Value) (mode : Mode) (e : Exception) (v : Value) (by : Birth) (done : List parts.Part) (of part : ℕ)
    (tasks : List Task) (k : Control) (ms : List Master) → Frugal frugal back among mode (frame.Awaits v by done of part tasks ∷ k) ms
    → Frugal frugal back among (Raising e) (frame.Awaits v by done of part tasks ∷ k) ms
raised_frugal frugal back among mode e v by done of part tasks k ms (inl leads) = absurd leads.0
raised_frugal frugal back among mode e v by done of part tasks k ms (inr (inl leaving)) = absurd leaving.1
raised_frugal frugal back among mode e v by done of part tasks k ms (inr (inr beginning)) = inr (inr (tt, beginning.1))

-- What is around stays around then.
module _ (program : Program) (gs : List Suspension) (s : State) (e : Exception) where
  abbrev raised : State
  raised = record s { mode = Raising e }

  -- What is watched is as it was.
  raised_watched :
      (o : Id) → BeginsBehind o s.control → (watch : Option Watch) (behind : Control) (lower : List Master) → Watched program watch behind lower s
      → Watched program watch behind lower raised
  raised_watched o begun None behind lower still = tt
  raised_watched o begun (Some w) behind lower (found, (apart, are, reaching)) =
      let p = program_form program in (
        found,
        (
          apart,
          are,
          waiting_kept p (watches p.types (Some w)) apart (is_watched (Some w)) (is_unnamed p.types (Some w)) behind lower
              (frame.Awaits (Names o) begun.by begun.done begun.of begun.part begun.tasks) begun.rest s raised refl begun.is refl refl refl (λ runs. absurd (cc runs)) (λ q ghost. refl)
              reaching,
        ),
      )

  pub raised_within : {o : Id} → BeginsBehind o s.control → Within program gs s → Within program gs raised
  raised_within {o} begun w =
      let frugal = allowance_of (program_form program) in
      within_by program s raised refl (raised_watched o begun) gs Quiet w refl (alters_same s.heap Quiet)
      (subst (λ (k : Control). Frugal frugal w.outermost.behind (operated_among w.inner) (Raising e) k w.frugal.upper) (sym begun.is)
      (raised_frugal frugal w.outermost.behind (operated_among w.inner) s.mode e (Names o) begun.by begun.done begun.of begun.part begun.tasks begun.rest w.frugal.upper
      (subst (λ (k : Control). Frugal frugal w.outermost.behind (operated_among w.inner) s.mode k w.frugal.upper) begun.is w.frugal.frugally)))
