-- What is left to do of a body is of the forms of which the law speaks, and stays so.

use Rattle.std.specs.Prelude.{◌≡◌, ℕ, Bool, true, false, List, [], ◌∷◌}
use Rattle.ada_program.specs.declared.program.TypeDefinition.{TypeDefinition}
use Rattle.ada_program.specs.ProgramForm.{BodyForm}
use Rattle.ada_parts.specs.Task.{Task}
use Rattle.ada_meaning.specs.declared.state.Value.{Value}
use Rattle.ada_meaning.specs.Frame.{Treatment, Frame, is_return}
use Rattle.ada_meaning.specs.Frame as frame
use Rattle.ada_meaning.specs.Step.{halts, moves, tells, asks, picks}
use Rattle.ada_meaning.specs.Named.{State, Next, next}
use Rattle.ada_tracked.specs.Simple.{FrameIsSimple}
use Rattle.ada_tracked.specs.Copying.{AssignsBare}

-- Something holds, if the body does not end there.
abbrev pub UnlessItEnds : (ends : Bool) → Type 0 → Type 0
UnlessItEnds true P = Unit {0}
UnlessItEnds false P = P

-- All that is left to do of a body is of such forms, up to the end of its call.
abbrev pub BodyIsSimple : (first : ℕ) → List (Frame Value) → Type 0
BodyIsSimple first [] = Unit {0}
BodyIsSimple first (f ∷ k) = UnlessItEnds (is_return f) (FrameIsSimple first f × BodyIsSimple first k)

-- So it is, and something is left before the body ends.
abbrev pub IsWithinBody : (first : ℕ) → List (Frame Value) → Type 0
IsWithinBody first [] = Unit {0}
IsWithinBody first (f ∷ k) = FrameIsSimple first f × BodyIsSimple first k

-- So it is behind what is done to the controlled parts of an object (7.6, 7.6.1), if that comes first.
pub data StaysSimple (first : ℕ) (control : List (Frame Value)) : Type 0 where
  at_once : BodyIsSimple first control → StaysSimple first control
  behind_treatment : (v : Value) (treatment : Treatment) (tasks : List Task) (k : List (Frame Value)) → control ≡ frame.Treats v treatment tasks ∷ k → BodyIsSimple first k → StaysSimple first control

-- Whatever comes next, and whatever is answered.
abbrev pub AllStaySimple : (first : ℕ) → Next → Type 0
AllStaySimple first (halts h) = Unit {0}
AllStaySimple first (moves e s) = StaysSimple first s.control
AllStaySimple first (tells request e s) = StaysSimple first s.control
AllStaySimple first (asks request answers) = (granted : Bool) → StaysSimple first (answers granted).control
AllStaySimple first (picks count taking) = (i : ℕ) → StaysSimple first (taking i).control

-- Each step of such a body leaves it so that assigns no record with controlled parts.
abbrev pub SimpleBodiesStaySimple : Type 0
SimpleBodiesStaySimple =
    (types : List TypeDefinition) (bodies : List BodyForm) (first : ℕ) (s : State) → IsWithinBody first s.control
    → AssignsBare types s → AllStaySimple first (next types bodies s)
