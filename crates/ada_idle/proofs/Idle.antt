-- Nothing in what is left to do creates an object with controlled parts or assigns a record with some, and no object has any (7.6): so no operation is called.

use Rattle.std.proofs.Common.{◌≡◌, false, List, [], ◌∷◌}
use Rattle.std.specs.Prelude.{Some}
use Rattle.ada_program.specs.ProgramForm.{TypeForm}
use Rattle.ada_quiet.specs.Idle.{holds_parts, right_makes_parts, stmts_make_parts, branches_make_parts, handlers_make_parts, body_makes_parts}
use Rattle.ada_meaning.specs.declared.state.Id.{Id}
use Rattle.ada_meaning.specs.declared.state.Value.{Value}
use Rattle.ada_meaning.specs.Frame.{Frame}
use Rattle.ada_meaning.specs.Frame as frame
use Rattle.ada_meaning.specs.Named.{Object, State, Next, object_at}
use Rattle.ada_idle.proofs.Coming.{AllNext}
use Rattle.ada_idle.proofs.MakesNone.{MakeNone}

module _ (types : List TypeForm) where
  -- Statements, declarations and handlers that a frame holds make none, and so does the body of a call; what is created has none, and nothing is treated.
  abbrev pub FrameIsIdle : Frame Value → Type 0
  FrameIsIdle (frame.Elaborates ds fs hs) = MakeNone types false ds fs hs
  FrameIsIdle (frame.Does fs) = stmts_make_parts types false fs ≡ false
  FrameIsIdle (frame.Decides fs branches) = (stmts_make_parts types false fs ≡ false) × (branches_make_parts types false branches ≡ false)
  FrameIsIdle (frame.Repeats condition fs) = stmts_make_parts types false fs ≡ false
  FrameIsIdle (frame.Turns condition fs) = stmts_make_parts types false fs ≡ false
  FrameIsIdle (frame.Ranges x fs) = stmts_make_parts types false fs ≡ false
  FrameIsIdle (frame.Counts x value last fs) = stmts_make_parts types false fs ≡ false
  FrameIsIdle (frame.Handles hs) = handlers_make_parts types false hs ≡ false
  FrameIsIdle (frame.Calls procedure b actuals) = body_makes_parts types false b ≡ false
  FrameIsIdle (frame.Evaluates right) = right_makes_parts types false right ≡ false
  FrameIsIdle (frame.Targets c right) = right_makes_parts types false right ≡ false
  FrameIsIdle (frame.Creates access count) = holds_parts types access ≡ false
  FrameIsIdle (frame.DeclaresRecord x t) = holds_parts types t ≡ false
  FrameIsIdle (frame.Assigns t) = ⊥
  FrameIsIdle (frame.Treats v treatment tasks) = ⊥
  FrameIsIdle (frame.Awaits v by done of part tasks) = ⊥
  FrameIsIdle f = Unit {0}

  -- So it is with all that is left to do.
  abbrev pub ControlIsIdle : List (Frame Value) → Type 0
  ControlIsIdle [] = Unit {0}
  ControlIsIdle (f ∷ k) = FrameIsIdle f × ControlIsIdle k

  -- No object has controlled parts.
  abbrev pub HeapIsIdle : List Object → Type 0
  HeapIsIdle heap = (o : Id) (x : Object) → object_at heap o ≡ Some x → holds_parts types x.cell.access ≡ false

  -- So it is in a state.
  pub record IsIdle (s : State) : Type 0 where
    pub control : ControlIsIdle s.control
    pub heap : HeapIsIdle s.heap

  -- So it is whatever comes next, and whatever is answered.
  abbrev pub AllIdle : Next → Type 0
  AllIdle = AllNext IsIdle
