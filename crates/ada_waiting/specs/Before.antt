-- A state before something that waits: bodies that have called, and go on once what runs has ended (6.4, 6.5).

use Rattle.std.specs.Prelude.{◌≡◌, ℕ, Bool, true, false, List, [], ◌∷◌, ◌++◌}
use Rattle.ada_meaning.specs.Frame.{Frame, is_return}
use Rattle.ada_meaning.specs.State.{Activation, State}
use Rattle.ada_meaning.specs.Step.{Next, halts, moves, tells, asks, picks}

-- What waits: what is left to do there, and the activations of its bodies, the newest first.
pub record Waiting (V : Type 0) : Type 0 where
  pub control : List (Frame V)
  pub activations : List (Activation V)

module _ {V H : Type 0} (w : Waiting V) where
  -- The state in which it waits behind all that is left to do in this one.
  abbrev pub before : State V H → State V H
  before s = record s { control = s.control ++ w.control; activations = s.activations ++ w.activations }

  -- What comes next where it waits: the same, and then it waits still, whatever is answered.
  abbrev pub NextBefore : (alone next : Next V H) → Type 0
  NextBefore (halts h) n = n ≡ halts h
  NextBefore (moves event s) n = n ≡ moves event (before s)
  NextBefore (tells request event s) n = n ≡ tells request event (before s)
  NextBefore (asks request answered) n =
      (answers : Bool → State V H) × (n ≡ asks request answers) × ((granted : Bool) → answers granted ≡ before (answered granted))
  NextBefore (picks count taken) n = (taking : ℕ → State V H) × (n ≡ picks count taking) × ((i : ℕ) → taking i ≡ before (taken i))

-- A body runs that has been called by one of these, if it comes to its end.
abbrev pub HasCaller : {V : Type 0} → (ends : Bool) → (suspended : List (Activation V)) → Type 0
HasCaller true [] = ⊥
HasCaller true (a ∷ suspended) = Unit {0}
HasCaller false suspended = Unit {0}

-- Something is left to do in a body that runs, and where that is the end of its call (6.5), its caller is there.
abbrev pub RunsItself : {V : Type 0} → List (Frame V) → List (Activation V) → Type 0
RunsItself [] activations = ⊥
RunsItself (f ∷ k) [] = ⊥
RunsItself (f ∷ k) (a ∷ suspended) = HasCaller (is_return f) suspended
