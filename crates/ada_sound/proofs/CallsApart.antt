-- Procedures that track stand apart in what is left to do (6.4): it calls none of them, and no body that it begins does; no allocator with items makes an object
-- with controlled parts, or copies a record with some (4.8).

use Rattle.std.proofs.Common.{◌≡◌, ℕ, Bool, true, false, ◌&&◌, List}
use Rattle.std.proofs.lemmas.Bool.{and_parts}
use Rattle.ada_program.specs.Form.{StmtsForm, HandlersForm, DeclarationForm}
use Rattle.ada_program.specs.ProgramForm.{TypeForm}
use Rattle.ada_meaning.specs.declared.state.Value.{Value}
use Rattle.ada_meaning.specs.Frame.{Frame}
use Rattle.ada_meaning.specs.Frame as frame
use Rattle.ada_meaning.specs.Named.{Next}
use Rattle.ada_quiet.specs.Apart.{is_bare_right, declare_apart, all_call_apart, branches_call_apart, handlers_call_apart, body_calls_apart}
use Rattle.ada_idle.proofs.Frames.{AllFrames, AllFramesNext}

module _ (forms : List TypeForm) (tracks : ℕ → Bool) where
  -- Declarations, statements and handlers call no procedure that tracks.
  abbrev pub ElaboratesApart : List DeclarationForm → StmtsForm → HandlersForm → Type 0
  ElaboratesApart ds fs hs =
      (declare_apart forms ds ≡ true) × ((all_call_apart forms tracks fs ≡ true) × (handlers_call_apart forms tracks hs ≡ true))

  -- Statements that a frame holds call no procedure that tracks; a call is of none, and neither are those of its body. What is evaluated
  -- makes no object with controlled parts from items, and copies no record with some.
  abbrev pub FrameCallsApart : Frame Value → Type 0
  FrameCallsApart (frame.Elaborates ds fs hs) = ElaboratesApart ds fs hs
  FrameCallsApart (frame.Does fs) = all_call_apart forms tracks fs ≡ true
  FrameCallsApart (frame.Decides fs branches) = (all_call_apart forms tracks fs ≡ true) × (branches_call_apart forms tracks branches ≡ true)
  FrameCallsApart (frame.Repeats condition fs) = all_call_apart forms tracks fs ≡ true
  FrameCallsApart (frame.Turns condition fs) = all_call_apart forms tracks fs ≡ true
  FrameCallsApart (frame.Ranges x fs) = all_call_apart forms tracks fs ≡ true
  FrameCallsApart (frame.Counts x value last fs) = all_call_apart forms tracks fs ≡ true
  FrameCallsApart (frame.Handles hs) = handlers_call_apart forms tracks hs ≡ true
  FrameCallsApart (frame.Calls procedure b actuals) = (tracks procedure ≡ false) × (body_calls_apart forms tracks b ≡ true)
  FrameCallsApart (frame.Evaluates right) = is_bare_right forms right ≡ true
  FrameCallsApart (frame.Targets c right) = is_bare_right forms right ≡ true
  FrameCallsApart f = Unit {0}

  -- So it is with all that is left to do.
  abbrev pub CallApart : List (Frame Value) → Type 0
  CallApart = AllFrames FrameCallsApart

  -- So it is whatever comes next, and whatever is answered.
  abbrev pub AllCallApart : Next → Type 0
  AllCallApart = AllFramesNext FrameCallsApart

  -- So it is with a body, or a block, whose declarations are next (3.11).
  pub elaborates_apart : (ds : List DeclarationForm) (fs : StmtsForm) (hs : HandlersForm)
      → declare_apart forms ds && all_call_apart forms tracks fs && handlers_call_apart forms tracks hs ≡ true
      → ElaboratesApart ds fs hs
  elaborates_apart ds fs hs own =
      let outer = and_parts (declare_apart forms ds && all_call_apart forms tracks fs) (handlers_call_apart forms tracks hs) own in
      let inner = and_parts (declare_apart forms ds) (all_call_apart forms tracks fs) outer.0 in
      (inner.0, (inner.1, outer.1))
