-- Nothing in what is left to do copies a record with controlled parts (7.6), and no copy is adjusted: so no Adjust is called.

use Rattle.std.proofs.Common.{◌≡◌, true, false, List}
use Rattle.ada_program.specs.ProgramForm.{TypeForm}
use Rattle.ada_quiet.specs.Idle.{holds_parts, stmts_make_parts, branches_make_parts, handlers_make_parts, body_makes_parts}
use Rattle.ada_meaning.specs.declared.state.Value.{Value}
use Rattle.ada_meaning.specs.Frame.{Frame}
use Rattle.ada_meaning.specs.Frame as frame
use Rattle.ada_meaning.specs.Named.{Next}
use Rattle.ada_idle.specs.Law.{begins_copy, adjusts_copy}
use Rattle.ada_idle.proofs.Frames.{AllFrames, AllFramesNext}
use Rattle.ada_idle.proofs.MakesNone.{MakeNone}

module _ (types : List TypeForm) where
  -- Statements, declarations and handlers that a frame holds copy none, and so does the body of a call; an object with an initial value has none, no record is
  -- assigned that has some, and what is treated is no copy.
  abbrev pub FrameAdjustsNone : Frame Value → Type 0
  FrameAdjustsNone (frame.Elaborates ds fs hs) = MakeNone types true ds fs hs
  FrameAdjustsNone (frame.Does fs) = stmts_make_parts types true fs ≡ false
  FrameAdjustsNone (frame.Decides fs branches) = (stmts_make_parts types true fs ≡ false) × (branches_make_parts types true branches ≡ false)
  FrameAdjustsNone (frame.Repeats condition fs) = stmts_make_parts types true fs ≡ false
  FrameAdjustsNone (frame.Turns condition fs) = stmts_make_parts types true fs ≡ false
  FrameAdjustsNone (frame.Ranges x fs) = stmts_make_parts types true fs ≡ false
  FrameAdjustsNone (frame.Counts x value last fs) = stmts_make_parts types true fs ≡ false
  FrameAdjustsNone (frame.Handles hs) = handlers_make_parts types true hs ≡ false
  FrameAdjustsNone (frame.Calls procedure b actuals) = body_makes_parts types true b ≡ false
  FrameAdjustsNone (frame.DeclaresRecord x t) = holds_parts types t ≡ false
  FrameAdjustsNone (frame.Assigns t) = ⊥
  FrameAdjustsNone (frame.Treats v treatment tasks) = adjusts_copy treatment ≡ false
  FrameAdjustsNone (frame.Awaits v by done of part tasks) = begins_copy by ≡ false
  FrameAdjustsNone f = Unit {0}

  -- So it is with all that is left to do.
  abbrev pub AdjustsNone : List (Frame Value) → Type 0
  AdjustsNone = AllFrames FrameAdjustsNone

  -- So it is whatever comes next, and whatever is answered.
  abbrev pub AllAdjustNone : Next → Type 0
  AllAdjustNone = AllFramesNext FrameAdjustsNone
