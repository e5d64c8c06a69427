-- While the body of an operation runs that touches storage, the object stays as it is in which a component lies that is freed (7.6, 13.11.2): each step of that
-- body, and of those since then, leaves it alone.

use Rattle.std.proofs.Common.{◌≡◌, ℕ, List, [], ◌∷◌, ◌∙◌, refl, inl, inr, suc}
use Rattle.std.proofs.lemmas.Bool.{eq-eqb}
use Rattle.std.specs.Prelude.{Option, Some, None}
use Rattle.ada_program.specs.declared.program.Program.{Program}
use Rattle.ada_program.specs.ProgramForm.{ProgramForm, body_forms, program_form}
use Rattle.ada_meaning.specs.Frame.{Returns}
use Rattle.ada_meaning.specs.Named.{Next, Object, State, next, object_at}
use Rattle.ada_meaning.specs.State.{Master}
use Rattle.ada_meaning.specs.Step.{halts, moves, tells, asks, picks}
use Rattle.ada_reaching.proofs.Law.{stays_reaching}
use Rattle.ada_reaching.specs.Apart.{Apart}
use Rattle.ada_reaching.specs.Law.{AllGoOn, AreApart, GoesOn}
use Rattle.ada_typed.proofs.Kept.{Each}
use Rattle.ada_sound.specs.Agreement.{running_procedure}
use Rattle.ada_sound.proofs.Allowance.{Allowance}
use Rattle.ada_sound.proofs.Callers.{Suspension, known_in}
use Rattle.ada_sound.proofs.HousesIts.{first_houses_its}
use Rattle.ada_sound.proofs.Invariant.{Control, Ready}
use Rattle.ada_sound.proofs.Pauses.{AllWatched}
use Rattle.ada_sound.proofs.Grounds.{Grounds}
use Rattle.ada_sound.proofs.StoredStates.{ready_stored}
use Rattle.ada_sound.proofs.Touching.{AreInner, Watch, Watched, is_unnamed, is_watched, watches}

-- What is so whatever comes next.
pub each_so : (P : State → Type 0) → ((after : State) → P after) → (n : Next) → Each P n
each_so P so (halts halt) = tt
each_so P so (moves e after) = so after
each_so P so (tells request e after) = so after
each_so P so (asks request answered) = λ granted. so (answered granted)
each_so P so (picks n taken) = λ i lt. so (taken i)

-- Two things are so.
pub each_and : (P Q : State → Type 0) (n : Next) → Each P n → Each Q n → Each (λ after. P after × Q after) n
each_and P Q (halts halt) p q = tt
each_and P Q (moves e after) p q = (p, q)
each_and P Q (tells request e after) p q = (p, q)
each_and P Q (asks request answered) p q = λ granted. (p granted, q granted)
each_and P Q (picks n taken) p q = λ i lt. (p i lt, q i lt)

-- Where such bodies go on behind a step, what is watched is as it was.
module _
    (program : Program) (w : Watch) (apart : Apart)
    (are : AreApart (program_form program) program.types.items (watches (program_form program).types (Some w)) apart) (behind : Control) (lower : List Master)
    (before : List Object) (found : object_at before w.holder ≡ Some w.is) where
  abbrev p : ProgramForm
  p = program_form program

  abbrev Goes : State → Type 0
  Goes after = GoesOn p (watches p.types (Some w)) apart (is_watched (Some w)) (is_unnamed p.types (Some w)) behind lower before after

  goes_watched : (after : State) → Goes after → Watched program (Some w) behind lower after
  goes_watched after g = (g.same w.holder (eq-eqb w.holder.0 w.holder.0 refl) ∙ found, (apart, are, g.reaching))

  each_watched : (n : Next) → AllGoOn Goes n → Each (Watched program (Some w) behind lower) n
  each_watched (halts halt) goes = tt
  each_watched (moves e after) goes = goes_watched after goes
  each_watched (tells request e after) goes = goes_watched after goes
  each_watched (asks request answered) goes = λ granted. goes_watched (answered granted) (goes granted)
  each_watched (picks n taken) goes = λ i lt. goes_watched (taken i) (goes i lt)

-- Where the invariant holds.
module _
    (program : Program) (gs : List Suspension) (s : State) (ready : Ready (known_in program (running_procedure s) gs) s) (grounds : Grounds program s) where
  -- What is watched while an operation runs is so still whatever comes next, unless its body ends.
  pub watched_stays :
      (watch : Option Watch) (behind : Control) (lower : List Master) → Watched program watch behind lower s
      → (s.control ≡ Returns [] [] ∷ behind → ⊥) → Each (Watched program watch behind lower) (next program.types.items (body_forms program) s)
  watched_stays None behind lower still on = each_so (Watched program None behind lower) (λ after. tt) (next program.types.items (body_forms program) s)
  watched_stays (Some x) behind lower (found, (apart, are, reaching)) on =
      let p = program_form program in
      let stored = ready_stored (known_in program (running_procedure s) gs) s ready in
      each_watched program x apart are behind lower s.heap found (next program.types.items (body_forms program) s)
      (stays_reaching program grounds.well (watches p.types (Some x)) apart are (is_watched (Some x)) (is_unnamed p.types (Some x)) behind lower s grounds.typed
      reaching (record { on = on; houses = first_houses_its s.control s.heap s.masters stored.1 })).1

  module _ (frugal : Allowance) (back : Control) (lower : List Master) where
    -- The end of the body of none of the operations for which these activations wait is next.
    abbrev pub AllGoOnInside :
        (running : Option ℕ) (depth : ℕ) (outermost : Option ℕ) (others inner : List Suspension)
        → AreInner program s frugal back lower running depth outermost others inner → Type 0
    AllGoOnInside running depth outermost others [] are = Unit {0}
    AllGoOnInside running depth outermost others (g ∷ inner) (inl (call, more)) = AllGoOnInside g.procedure (suc depth) outermost others inner more
    AllGoOnInside running depth outermost others (g ∷ inner) (inr (operation, more)) =
        (s.control ≡ Returns [] [] ∷ operation.pause.behind → ⊥) × AllGoOnInside g.procedure (suc depth) outermost others inner more

    -- So it is with what is watched in each of these.
    pub all_watched :
        (running : Option ℕ) (depth : ℕ) (outermost : Option ℕ) (others inner : List Suspension)
        (are : AreInner program s frugal back lower running depth outermost others inner) → AllGoOnInside running depth outermost others inner are
        → Each (λ after. AllWatched program s frugal back lower after running depth outermost others inner are)
        (next program.types.items (body_forms program) s)
    all_watched running depth outermost others [] are on =
        each_so (λ after. AllWatched program s frugal back lower after running depth outermost others [] are) (λ after. tt)
        (next program.types.items (body_forms program) s)
    all_watched running depth outermost others (g ∷ inner) (inl (call, more)) on = all_watched g.procedure (suc depth) outermost others inner more on
    all_watched running depth outermost others (g ∷ inner) (inr (operation, more)) on =
        let pause = operation.pause in
        each_and (Watched program pause.watch pause.behind pause.lower)
        (λ after. AllWatched program s frugal back lower after g.procedure (suc depth) outermost others inner more)
        (next program.types.items (body_forms program) s)
        (watched_stays pause.watch pause.behind pause.lower pause.still on.0) (all_watched g.procedure (suc depth) outermost others inner more on.1)
