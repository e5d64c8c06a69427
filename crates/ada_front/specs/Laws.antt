-- Laws of fronts.

use Rattle.std.specs.Prelude.{◌≡◌, ℕ, true, false, List, None}
use Rattle.ada_text.specs.declared.spot.Spot.{Spot}
use Rattle.ada_text.specs.Reading.{Spells}
use Rattle.ada_text.specs.Token.{Lexeme}
use Rattle.ada_tree.specs.Statements.{IsTextOf, SequenceTree, a_sequence, UnitTree}
use Rattle.ada_front.specs.Front.{front_of, handlers_start, stands_before}
use Rattle.ada_front.specs.Marks.{InOrder, over_by, simple, unit_marks}

-- A sequence is over by the fault: that stands behind its `begin`, and neither its handlers nor its `end` begin behind that.
abbrev pub IsOver : (fault : Spot) → SequenceTree → Type 0
IsOver fault (a_sequence start ss hs last) =
    (stands_before start fault ≡ true) × (stands_before fault (handlers_start hs last) ≡ false) × (stands_before fault last ≡ false)

-- Where the fault stands behind all of a unit, its front is the unit itself, but for the name behind its `end`.
abbrev pub WholeBehind : Type 0
WholeBehind = (fault : Spot) (tree : UnitTree) → IsOver fault tree.body → front_of fault tree ≡ record tree { end_name = None }

-- Of a unit in the order of its text, the simple declarations and statements of the front are those that are over by the fault: behind each of
-- them something else has begun. They are as they were and in their order, and of what has not begun, or what the fault lies in, none stays.
abbrev pub KeepsWhatIsOver : Type 0
KeepsWhatIsOver = (fault : Spot) (tree : UnitTree) → InOrder (unit_marks tree) →
    simple (unit_marks (front_of fault tree)) ≡ simple (over_by fault (unit_marks tree))

-- The unit of a source is in the order of its text: so the law above speaks of each one that is read (2.2, 10.1.1).
abbrev pub TreesAreInOrder : Type 0
TreesAreInOrder = (source : List ℕ) (tokens : List Lexeme) (tree : UnitTree) → Spells source tokens → IsTextOf tokens tree → InOrder (unit_marks tree)
