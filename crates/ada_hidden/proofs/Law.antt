-- The law: what waits stays, and what is hidden does not matter, stays, and holds null still.

use Rattle.std.proofs.Common.{◌≡◌, ℕ, true, List, [], ◌∷◌, Option, Some, refl, sym, ap, ◌∙◌, subst}
use Rattle.std.specs.List.{slice_get}
use Rattle.ada_program.specs.declared.program.TypeDefinition.{TypeDefinition}
use Rattle.ada_program.specs.ProgramForm.{BodyForm}
use Rattle.ada_meaning.specs.declared.state.Mode.{Mode}
use Rattle.ada_meaning.specs.declared.state.Mode.TheVariants.{Running, Raising, Exiting, Returning}
use Rattle.ada_meaning.specs.declared.state.Value.{Value}
use Rattle.ada_meaning.specs.declared.state.Value.TheVariants.{Null}
use Rattle.ada_meaning.specs.Event.{Quiet}
use Rattle.ada_meaning.specs.Frame.{Frame}
use Rattle.ada_meaning.specs.Frame as frame
use Rattle.ada_meaning.specs.Records.{component_in}
use Rattle.ada_meaning.specs.Run.{Choice, settled, grants, takes, Event, Leads}
use Rattle.ada_meaning.specs.Step.{halts, moves, tells, asks, picks}
use Rattle.ada_meaning.specs.Named.{Object, State, Next, object_at, next}
use Rattle.ada_tracked.specs.Frames.{View, watched, blank_object}
use Rattle.ada_untouched.specs.Alike.{StatesAlike, NextAlike}
use Rattle.ada_untouched.specs.Unwritten.{FrameWritesShown, FirstWritesShown, Unwritten}
use Rattle.ada_untouched.proofs.KeptByLaw.{hidden_stays}
use Rattle.ada_untouched.proofs.Law.{steps_alike}
use Rattle.ada_waiting.specs.Before.{Waiting, before, NextBefore}
use Rattle.ada_waiting.proofs.Law.{what_waits_stays}
use Rattle.ada_hidden.specs.Hidden.{is_hidden, no_ghosts, blanked_state, NextInFront}
use Rattle.ada_hidden.specs.Law.{RunsBeside, StepsAreTheSame}
use Rattle.ada_hidden.proofs.Blanked.{is_one_of, one_is_null, blank_here, hides_these, state_blanked, state_is_blanked}

-- Whatever the objects are, the same components are written.
unwritten_still : (v : View) (s : State) → Unwritten (is_hidden v) s → Unwritten (is_hidden v) (blanked_state v s)
unwritten_still v s = by s.mode s.control
  where
    frame_shown : (f : Frame Value) → FrameWritesShown (is_hidden v) s f → FrameWritesShown (is_hidden v) (blanked_state v s) f
    frame_shown (frame.StoresIn u c) shown = shown
    frame_shown (frame.StoresRecord u first count) shown = shown
    frame_shown (frame.Receives c) shown = shown
    frame_shown (frame.ClearsIn u c) shown = shown
    frame_shown f shown = tt

    by : (m : Mode) (k : List (Frame Value)) → FirstWritesShown (is_hidden v) s m k → FirstWritesShown (is_hidden v) (blanked_state v s) m k
    by m [] shown = tt
    by Running (f ∷ k) shown = frame_shown f shown
    by (Raising e) (f ∷ k) shown = tt
    by Exiting (f ∷ k) shown = tt
    by Returning (f ∷ k) shown = tt

module _ (types : List TypeDefinition) (bodies : List BodyForm) (v : View) (front : State) (runs : RunsBeside types v front) where
  abbrev blank : State
  blank = blanked_state v front

  -- The steps of the body itself are alike.
  alike_next : NextAlike (is_hidden v) no_ghosts (next types bodies front) (next types bodies blank)
  alike_next = steps_alike types bodies (is_hidden v) no_ghosts front blank runs.untouched (state_blanked v front)

  -- Behind it, what is hidden holds null still.
  null_there :
      (choice : Choice) (e : Event) (t : State) → Leads (next types bodies blank) choice e t
      → (c : ℕ) (y : Object) (u : Value) → object_at t.heap v.object ≡ Some y → is_one_of (watched v) c ≡ true → slice_get y.cell.values c ≡ Some u → u ≡ Null
  null_there choice e t leads c y u at is holds =
      let x = runs.there.0 in
      let none = blank_object (watched v) x in
      let kept = hidden_stays types bodies (is_hidden v) blank t choice e leads (unwritten_still v front runs.unwritten) v.object none
      (blank_here v front.heap x runs.there.1) c (hides_these v c ∙ is) in
      let now : slice_get y.cell.values c ≡ slice_get none.cell.values c =
      subst (λ (found : Option Object). component_in found c ≡ slice_get none.cell.values c) at kept in
      one_is_null (watched v) c x.cell.values u is (sym now ∙ holds)

  -- So the state behind it is that of the other one, where they are hidden.
  blank_behind :
      (choice : Choice) (e : Event) (after t : State) → Leads (next types bodies blank) choice e t → StatesAlike (is_hidden v) no_ghosts after t
      → t ≡ blanked_state v after
  blank_behind choice e after t leads alike = state_is_blanked v after t alike (null_there choice e t leads)

  module _ (w u : Waiting Value) where
    -- In front of what waits, they go on so.
    in_front :
        (alone hidden : Next) → next types bodies blank ≡ hidden → NextAlike (is_hidden v) no_ghosts alone hidden
        → (n m : Next) → NextBefore w alone n → NextBefore u hidden m → NextInFront v w u alone n m
    in_front (halts h) hidden led is n m one other = (one, rw is at other)
    in_front (moves e after) hidden led (t, is, alike, spares) n m one other =
        let same = blank_behind settled e after t (rw (led, is) (refl, refl)) alike in
        (one, subst (λ (s : State). m ≡ moves e (before u s)) same (rw is at other))
    in_front (tells request e after) hidden led (t, is, alike, spares) n m one other =
        let same = blank_behind settled e after t (rw (led, is) (refl, refl)) alike in
        (one, subst (λ (s : State). m ≡ tells request e (before u s)) same (rw is at other))
    in_front (asks request answered) hidden led (answers, is, alike) n m one other =
        let behind = subst (λ (coming : Next). NextBefore u coming m) is other in (
          one.0,
          behind.0,
          one.1,
          behind.1,
          λ granted.
              let same = blank_behind (grants granted) Quiet (answered granted) (answers granted) (rw (led, is) (refl, refl)) (alike granted) in
              record { in_front = one.2 granted; hidden_in_front = behind.2 granted ∙ ap (before u) same },
        )
    in_front (picks count taken) hidden led (taking, is, alike) n m one other =
        let behind = subst (λ (coming : Next). NextBefore u coming m) is other in (
          one.0,
          behind.0,
          one.1,
          behind.1,
          λ i within.
              let same = blank_behind (takes i) Quiet (taken i) (taking i) (rw (led, is) (within, refl, refl)) (alike i) in
              record { in_front = one.2 i; hidden_in_front = behind.2 i ∙ ap (before u) same },
        )

pub steps_are_the_same : StepsAreTheSame
steps_are_the_same types bodies v w u front runs =
    in_front types bodies v front runs w u (next types bodies front) (next types bodies (blanked_state v front)) refl (alike_next types bodies v front runs)
    (next types bodies (before w front)) (next types bodies (before u (blanked_state v front)))
    (what_waits_stays types bodies w front runs.runs) (what_waits_stays types bodies u (blanked_state v front) runs.runs)
