-- The law, by the mode: what a frame does, and how a jump passes one.

use Rattle.std.proofs.Common.{Bool, true, false, List, [], ◌∷◌, ◌++◌, map, refl, ap}
use Rattle.ada_parts.specs.Part.{Part}
use Rattle.ada_parts.specs.Task.{performs}
use Rattle.ada_program.specs.declared.program.Exception.{Exception}
use Rattle.ada_program.specs.declared.program.TypeDefinition.{TypeDefinition}
use Rattle.ada_program.specs.Form.{ActualForm, no_stmts, a_stmt}
use Rattle.ada_program.specs.ProgramForm.{BodyForm}
use Rattle.ada_meaning.specs.declared.event.Birth.{Birth}
use Rattle.ada_meaning.specs.declared.event.Birth.TheVariants.{Creation, Copy, Adjustment}
use Rattle.ada_meaning.specs.declared.event.Cause.TheVariants.{Undoing}
use Rattle.ada_meaning.specs.declared.state.Mode.{Mode}
use Rattle.ada_meaning.specs.declared.state.Mode.TheVariants.{Running, Raising, Exiting, Returning}
use Rattle.ada_meaning.specs.Event.{Quiet}
use Rattle.ada_meaning.specs.Frame.{ends, Frame, is_loop, is_return, is_master, Landing, passes_on, goes_behind, goes_in, breaks_off, escapes, landing}
use Rattle.ada_meaning.specs.Frame as frame
use Rattle.ada_meaning.specs.Heap.{Cell, Found, on_null, on_gone, on_other, finds, Ops}
use Rattle.ada_meaning.specs.State.{Activation, State as AnyState}
use Rattle.ada_meaning.specs.Step.{Next, moves, at, returned, unwound, undone, undo_next, broken_off, landed, pass_next, running_next, jump_next, mode_next}
use Rattle.ada_meaning.specs.Named.{named, next}
use Rattle.ada_waiting.specs.Before.{Waiting, before, NextBefore, HasCaller, RunsItself}
use Rattle.ada_waiting.specs.Law.{WhatWaitsStays}
use Rattle.ada_waiting.proofs.Forms.{topped, treating_before, Stays}
use Rattle.ada_waiting.proofs.Frames.{storing_before, frame_stays}

module _ {V H : Type 0} (ops : Ops V H) (w : Waiting V) (types : List TypeDefinition) (bodies : List BodyForm) where
  -- An exception comes out of an operation that was to begin a part of an object (7.6.1).
  undo_stays : (e : Exception) (v : V) (done : List Part) (found : Found (Cell V)) → Stays ops w (undo_next ops e v done found)
  undo_stays e v done on_null a suspended s = refl
  undo_stays e v done on_gone a suspended s = refl
  undo_stays e v done on_other a suspended s = refl
  undo_stays e v done (finds cell) a suspended s =
      ap (λ (k : List (Frame V)). moves Quiet (record (undone ops e v done cell (before w (topped a suspended s))) { control = k }))
      (treating_before v (ends (Undoing s.next)) (map (λ p. performs p.of p.number) done)
      (frame.Ends v ∷ frame.GivesBack v (Undoing s.next) cell.home.pool ∷ frame.Resumes (Raising e) ∷ s.control) w.control)

  broken_stays : (m : Mode) (v : V) (by : Birth) (done : List Part) → Stays ops w (broken_off ops m v by done)
  broken_stays Running v by done a suspended s = refl
  broken_stays (Raising e) v Creation done a suspended s = undo_stays e v done (ops.look s.heap v) a suspended s
  broken_stays (Raising e) v Copy done a suspended s = refl
  broken_stays (Raising e) v (Adjustment number) done a suspended s = refl
  broken_stays Exiting v by done a suspended s = refl
  broken_stays Returning v by done a suspended s = refl

  -- A jump lands, or passes on.
  landed_stays : (l : Landing V) (m : Mode) → Stays ops w (landed ops l m)
  landed_stays passes_on m a suspended s = refl
  landed_stays goes_behind m a suspended s = refl
  landed_stays (goes_in no_stmts) m a suspended s = refl
  landed_stays (goes_in (a_stmt f fs)) m a suspended s = refl
  landed_stays (breaks_off v by done) m a suspended s = broken_stays m v by done a suspended s
  landed_stays escapes m a suspended s = refl

  pass_stays : (master : Bool) (l : Landing V) (m : Mode) → Stays ops w (pass_next ops master l m)
  pass_stays true l m a suspended s = refl
  pass_stays false l m a suspended s = landed_stays l m a suspended s

  -- What becomes of a state once a jump comes to a frame.
  abbrev passing : Mode → Frame V → AnyState V H → Next V H
  passing m f s = pass_next ops (is_master f) (landing m f) m (unwound ops m f s)

  -- It comes to the end of a call's body (6.4.1, 6.5), before its caller.
  ended_stays : (m : Mode) (actuals : List ActualForm) (references : List V) (a : Activation V) (suspended : List (Activation V)) (s : AnyState V H) → HasCaller true suspended
      → NextBefore w (passing m (frame.Returns actuals references) (topped a suspended s)) (passing m (frame.Returns actuals references) (before w (topped a suspended s)))
  ended_stays m actuals references a [] s has = absurd has
  ended_stays Running actuals references a (b ∷ suspended) s has = landed_stays (landing Running (frame.Returns actuals references)) Running b suspended s
  ended_stays (Raising e) actuals references a (b ∷ suspended) s has = landed_stays (landing (Raising e) (frame.Returns actuals references)) (Raising e) b suspended s
  ended_stays Exiting actuals references a (b ∷ suspended) s has = landed_stays (landing Exiting (frame.Returns actuals references)) Exiting b suspended s
  ended_stays Returning actuals references a (b ∷ suspended) s has =
      ap (λ (k : List (Frame V)). moves Quiet (record (returned ops actuals references (before w (topped a (b ∷ suspended) s))) { control = k; mode = Running }))
      (storing_before ops references s.control w.control)

  -- It comes to any frame.
  passed_stays : (m : Mode) (f : Frame V) (a : Activation V) (suspended : List (Activation V)) (s : AnyState V H) → HasCaller (is_return f) suspended
      → NextBefore w (passing m f (topped a suspended s)) (passing m f (before w (topped a suspended s)))
  passed_stays m (frame.Returns actuals references) a suspended s has = ended_stays m actuals references a suspended s has
  passed_stays m f a suspended s has = pass_stays (is_master f) (landing m f) m a suspended s

  -- The state with this left to do, and these activations.
  abbrev with_left : List (Frame V) → List (Activation V) → AnyState V H → AnyState V H
  with_left l activations s = record s { control = l; activations = activations }

  running_before : (l : List (Frame V)) (activations : List (Activation V)) (s : AnyState V H) → RunsItself l activations
      → NextBefore w (running_next ops types bodies l (with_left l activations s)) (running_next ops types bodies (l ++ w.control) (before w (with_left l activations s)))
  running_before [] activations s runs = absurd runs
  running_before (f ∷ k) [] s runs = absurd runs
  running_before (f ∷ k) (a ∷ suspended) s runs = frame_stays ops w types bodies f a suspended (at k s) runs

  jump_before : (m : Mode) (l : List (Frame V)) (activations : List (Activation V)) (s : AnyState V H) → RunsItself l activations
      → NextBefore w (jump_next ops m l (with_left l activations s)) (jump_next ops m (l ++ w.control) (before w (with_left l activations s)))
  jump_before m [] activations s runs = absurd runs
  jump_before m (f ∷ k) [] s runs = absurd runs
  jump_before m (f ∷ k) (a ∷ suspended) s runs = passed_stays m f a suspended (at k s) runs

  pub mode_before : (m : Mode) (s : AnyState V H) → RunsItself s.control s.activations → NextBefore w (mode_next ops types bodies m s) (mode_next ops types bodies m (before w s))
  mode_before Running s runs = running_before s.control s.activations s runs
  mode_before (Raising e) s runs = jump_before (Raising e) s.control s.activations s runs
  mode_before Exiting s runs = jump_before Exiting s.control s.activations s runs
  mode_before Returning s runs = jump_before Returning s.control s.activations s runs

pub what_waits_stays : WhatWaitsStays
unfolding next
what_waits_stays types bodies w s runs = mode_before named w types bodies s.mode s runs
