-- The common steps: what making one of them does to a run in progress.

use Rattle.std.specs.Prelude.{◌≡◌, ℕ, ℤ, pos, ◌+ℤ◌, int_lt, ◌-◌, ◌<◌, Bool, true, false, List, [], ◌∷◌, map, length, Option, Some, None, Result, Ok, Err, IfOk}
use Rattle.std.specs.Option.{option_copied}
use Rattle.std.specs.declared.alloc.AllocError.{AllocError}
use Rattle.ada_program.specs.declared.program.Program.{Program}
use Rattle.ada_program.specs.Form.{StmtForm, StmtsForm, no_stmts, a_stmt, stmts_form, condition_form}
use Rattle.ada_program.specs.ProgramForm.{body_forms}
use Rattle.ada_meaning.specs.declared.state.Value.{Value}
use Rattle.ada_meaning.specs.declared.state.Mode.TheVariants.{Running}
use Rattle.ada_meaning.specs.Frame.{Frame}
use Rattle.ada_meaning.specs.Frame as frame
use Rattle.ada_meaning.specs.Event.{Quiet}
use Rattle.ada_meaning.specs.State.{begins}
use Rattle.ada_meaning.specs.Step.{moves, at, older, put, stmt_next, running_next}
use Rattle.ada_meaning.specs.Named.{State, Next, next, named, an_integer}
use Rattle.ada_meaning.specs.Chosen.{begun_with}
use Rattle.ada_meaning.specs.Ending.{calls_operation}
use Rattle.ada_interpreter.specs.declared.frame.Frame.{Frame as HeldFrame}
use Rattle.ada_interpreter.specs.declared.frame.Frame.TheVariants as held
use Rattle.ada_interpreter.specs.declared.process.Process.{Process}
use Rattle.ada_interpreter.specs.declared.turn.NextTurn.{NextTurn}
use Rattle.ada_interpreter.specs.declared.turn.NextTurn.TheVariants.{Begins, Ends, Unknown}
use Rattle.ada_interpreter.specs.declared.turn.Run.{Run}
use Rattle.ada_interpreter.specs.declared.turn.Inner.{Inner}
use Rattle.ada_interpreter.specs.declared.turn.Inner.TheVariants.{Branch, Turns, Counts}
use Rattle.ada_interpreter.specs.Process.{frame_of, state_of}

-- What comes is a quiet step, and it is made; or nothing changes; unless memory runs out.
abbrev pub MayMove : (coming : Next) → (before : Process) → (made : Result Bool AllocError) → (after : Process) → Type 0
MayMove coming before (Ok true) after = moves Quiet (state_of after) ≡ coming
MayMove coming before (Ok false) after = after ≡ before
MayMove coming before (Err e) after = Unit {0}

-- Steps one after another that are quiet and leave nothing open, and how many statements begin in them.
pub data GoesQuietly (program : Program) (first : State) : (statements : ℕ) → State → Type 0 where
  stays : GoesQuietly program first 0 first
  goes_on : {statements : ℕ} {last : State} (before_it : ℕ) (mid : State) → GoesQuietly program first before_it mid → next program.types.items (body_forms program) mid ≡ moves Quiet last → statements ≡ begun_with (begins mid) before_it → GoesQuietly program first statements last

-- Quiet steps one after another that leave nothing open, and in which no statement begins and no operation is called.
pub data GoesWithin (program : Program) (first : State) : State → Type 0 where
  stays_within : GoesWithin program first first
  goes_within : {last : State} (mid : State) → GoesWithin program first mid → begins mid ≡ false → calls_operation program.types.items mid ≡ false → next program.types.items (body_forms program) mid ≡ moves Quiet last → GoesWithin program first last

-- What comes is a quiet step, and from there such steps lead on to a state.
pub record GoesOn (program : Program) (coming : Next) (last : State) : Type 0 where
  pub mid : State
  pub comes : coming ≡ moves Quiet mid
  pub behind : GoesWithin program mid last

-- What is left to do once statements come, before other things: nothing of them, where none is left.
abbrev pub statements_left : StmtsForm → List (Frame Value) → List (Frame Value)
statements_left no_stmts k = k
statements_left (a_stmt f fs) k = frame.Does (a_stmt f fs) ∷ k

-- What comes is made so, with steps behind it; or nothing changes; unless memory runs out.
abbrev pub MayGoOn : (program : Program) → (coming : Next) → (before : Process) → (made : Result Bool AllocError) → (after : Process) → Type 0
MayGoOn program coming before (Ok true) after = GoesOn program coming (state_of after)
MayGoOn program coming before (Ok false) after = after ≡ before
MayGoOn program coming before (Err e) after = Unit {0}

-- What is first of what is left to do begins no statement and calls no operation, and its step comes, with steps behind it.
abbrev pub ComesTo : (program : Program) → (first last : State) → Type 0
ComesTo program first last =
    (begins first ≡ false) × (calls_operation program.types.items first ≡ false) × GoesOn program (running_next named program.types.items (body_forms program) first.control first) last

-- A step that is made calls no operation.
abbrev pub CallsNone : (program : Program) → (before : Process) → (made : Result Bool AllocError) → Type 0
CallsNone program before (Ok true) = calls_operation program.types.items (state_of before) ≡ false
CallsNone program before (Ok false) = Unit {0}
CallsNone program before (Err e) = Unit {0}

-- A statement is done, with all of its steps, whatever comes behind it; or nothing changes.
abbrev pub IsDone : StmtForm → (before : Process) → (done : Bool) → (after : Process) → Type 0
IsDone f before true after =
    (program : Program) (fs : StmtsForm) (k : List (Frame Value)) → before.mode ≡ Running →
    GoesOn program (stmt_next named program.types.items (body_forms program) f (at (frame.Does fs ∷ k) (state_of before))) (at (frame.Does fs ∷ k) (state_of after))
IsDone f before false after = after ≡ before

-- Where a branch is done, what is behind its `if` is first of what is left to do; where it isn't, what is left of it is there already.
abbrev pub before_rest : (done : Bool) → (behind : StmtsForm) → State → State
before_rest true fs s = at (frame.Does fs ∷ s.control) s
before_rest false fs s = s

-- A `for` loop that begins a turn with this value of its parameter (5.5); any other frame as it is.
abbrev pub counted_to : ℤ → HeldFrame → HeldFrame
counted_to value (held.Counts parameter old last statements) = held.Counts parameter value last statements
counted_to value f = f

-- What is left to do, once the first of it is so.
abbrev pub newest_counted_to : ℤ → List HeldFrame → List HeldFrame
newest_counted_to value [] = []
newest_counted_to value (f ∷ fs) = counted_to value f ∷ fs

-- Statements begin, and quiet steps follow, so that fewer may begin; or the state stays as it is; unless memory runs out.
abbrev pub MayBegin : (program : Program) → (limit : ℕ) → (before : State) → (made : Result (Option ℕ) AllocError) → (after : State) → Type 0
MayBegin program limit before (Ok (Some left)) after = (left < limit) × GoesQuietly program before (limit - left) after
MayBegin program limit before (Ok None) after = after ≡ before
MayBegin program limit before (Err e) after = Unit {0}

-- A loop comes to its next turn (5.5), and begins it, or is done, with steps behind it; or nothing changes.
abbrev pub ComesToTurn : (program : Program) → (before : Process) → NextTurn → (after : Process) → Type 0
ComesToTurn program before (Begins statements) after =
    (0 < length statements.now) × ComesTo program (state_of before) (at (frame.Does (stmts_form statements.now) ∷ map frame_of after.frames) (state_of after))
ComesToTurn program before Ends after = ComesTo program (state_of before) (state_of after)
ComesToTurn program before Unknown after = after ≡ before

-- What is left to do, where a loop comes to its next turn (5.5): the same, or all but the loop.
abbrev pub TurnsFrames : (before : List HeldFrame) → NextTurn → (after : List HeldFrame) → Type 0
TurnsFrames before (Begins statements) after = after ≡ before
TurnsFrames before Ends after = after ≡ older before
TurnsFrames before Unknown after = after ≡ before

-- The same of a `for` loop, whose parameter has this value: a turn begins with the next one, which is no greater than the last.
abbrev pub CountsOn : (value last : ℤ) → (before : List HeldFrame) → NextTurn → (after : List HeldFrame) → Type 0
CountsOn value last before (Begins statements) after =
    (int_lt value last ≡ true) × (after ≡ newest_counted_to (value +ℤ pos 1) before)
CountsOn value last before Ends after = after ≡ older before
CountsOn value last before Unknown after = after ≡ before

-- The first turn of a `for` loop begins (5.5).
abbrev pub counting : (parameter : ℕ) → (first last : ℤ) → StmtsForm → State → State
counting x first last fs s = put x (an_integer first) (at (frame.Does fs ∷ frame.Counts x (first +ℤ pos 1) last fs ∷ s.control) s)

-- What a statement in which others stand begins with comes in front of what is left to do (5.3, 5.5).
abbrev pub begun_with_inner : Inner → State → State
begun_with_inner (Branch statements) s = at (frame.Does (stmts_form statements.now) ∷ s.control) s
begun_with_inner (Turns condition statements) s =
    at (frame.Repeats (condition_form (option_copied condition)) (stmts_form statements.now) ∷ s.control) s
begun_with_inner (Counts parameter first last statements) s = counting parameter.0 first last (stmts_form statements.now) s

-- Statements, or turns of a loop, run so: in quiet steps, in which as many statements begin as no longer may; unless memory runs out.
abbrev pub Runs : (program : Program) → (first : State) → (limit : ℕ) → (made : Result Run AllocError) → (last : State) → Type 0
Runs program first limit made last = IfOk made (λ run. GoesQuietly program first (limit - run.left) last)

-- They run so in front of others: where they are done, the others are first of what is left to do; else those are there already.
abbrev pub RunsBefore : (behind : StmtsForm) → (program : Program) → (first : State) → (limit : ℕ) → (made : Result Run AllocError) → (last : State) → Type 0
RunsBefore behind program first limit made last =
    IfOk made (λ run. GoesQuietly program first (limit - run.left) (before_rest run.is_done behind last))
