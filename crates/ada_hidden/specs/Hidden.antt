-- A body that has been called runs in front of what waits for it (6.4, 6.5), while components of an object are hidden: they hold null in the one of two states. So
-- it is while a body adjusts a copy, whose components name still what the original owns (7.6), and calls another one.

use Rattle.std.specs.Prelude.{◌≡◌, ℕ, ◌<◌, Bool, ◌==◌, ◌&&◌, false}
use Rattle.std.specs.List.{list_any}
use Rattle.ada_meaning.specs.declared.state.Id.{Id}
use Rattle.ada_meaning.specs.declared.state.Value.{Value}
use Rattle.ada_meaning.specs.Step.{halts, moves, tells, asks, picks}
use Rattle.ada_meaning.specs.Named.{State, Next}
use Rattle.ada_tracked.specs.Frames.{View, watched, blanked}
use Rattle.ada_waiting.specs.Before.{Waiting, before}

-- A component of an object is hidden: it is one of those that are tracked in the object of a view.
abbrev pub is_hidden : View → Id → (component : ℕ) → Bool
is_hidden v o c = (o.0 == v.object.0) && list_any (λ d. d == c) (watched v)

-- No object is a ghost.
abbrev pub no_ghosts : Id → Bool
no_ghosts o = false

-- A state in which they are hidden: each holds null.
abbrev pub blanked_state : View → State → State
blanked_state v s = record s { heap = blanked v s.heap }

module _ (v : View) (w u : Waiting Value) where
  -- The one state stands in front of what waits, and the other one, where they are hidden, in front of something else, when the body stands so.
  pub record StandInFront (front one other : State) : Type 0 where
    pub in_front : one ≡ before w front
    pub hidden_in_front : other ≡ before u (blanked_state v front)

  -- What comes next of both, by what comes next of the body: the same event, request or choice, and they stand so again, whatever is answered.
  abbrev pub NextInFront : (alone next hidden : Next) → Type 0
  NextInFront (halts h) n m = (n ≡ halts h) × (m ≡ halts h)
  NextInFront (moves event front) n m = (n ≡ moves event (before w front)) × (m ≡ moves event (before u (blanked_state v front)))
  NextInFront (tells request event front) n m =
      (n ≡ tells request event (before w front)) × (m ≡ tells request event (before u (blanked_state v front)))
  NextInFront (asks request fronts) n m =
      (ones : Bool → State) × (others : Bool → State) × (n ≡ asks request ones) × (m ≡ asks request others)
      × ((granted : Bool) → StandInFront (fronts granted) (ones granted) (others granted))
  NextInFront (picks count fronts) n m =
      (ones : ℕ → State) × (others : ℕ → State) × (n ≡ picks count ones) × (m ≡ picks count others)
      × ((i : ℕ) → i < count → StandInFront (fronts i) (ones i) (others i))
