-- The law: a body with tracked components runs as one that has a variable for each.

use Rattle.std.specs.Prelude.{◌≡◌, Bool, List, [], ◌∷◌, None}
use Rattle.ada_program.specs.declared.program.TypeDefinition.{TypeDefinition}
use Rattle.ada_program.specs.ProgramForm.{BodyForm}
use Rattle.ada_meaning.specs.declared.state.Value.{Value}
use Rattle.ada_meaning.specs.declared.state.Value.TheVariants.{Names}
use Rattle.ada_meaning.specs.Event.{Event, Followed, Quiet}
use Rattle.ada_meaning.specs.Frame.{Frame}
use Rattle.ada_meaning.specs.Frame as frame
use Rattle.ada_meaning.specs.State.{Item, Master, type_housed}
use Rattle.ada_meaning.specs.Step.{halts, moves, tells, asks, picks, places}
use Rattle.ada_meaning.specs.Named.{State, Next, next}
use Rattle.ada_tracked.specs.Frames.{View}
use Rattle.ada_tracked.specs.Simple.{FrameIsSimple}
use Rattle.ada_tracked.specs.Seen.{Seen, IsWatched}
use Rattle.ada_tracked.specs.Looking.{LooksElsewhere}
use Rattle.ada_tracked.specs.Copying.{CopiesNone, is_tracked_at}

-- The newest of these items is the home of no objects (7.6.1).
abbrev pub NewestHousesNone : List Item → Type 0
NewestHousesNone [] = Unit {0}
NewestHousesNone (i ∷ is) = type_housed i.owned ≡ None

-- So it is of the newest item of the innermost master.
abbrev pub InnermostHousesNone : List Master → Type 0
InnermostHousesNone [] = Unit {0}
InnermostHousesNone (m ∷ ms) = NewestHousesNone m.items

-- A master that is left has no object to take out.
abbrev pub TakesNone : Frame Value → List Master → Type 0
TakesNone (frame.Leaves mode) ms = InnermostHousesNone ms
TakesNone f ms = Unit {0}

-- The next frame is one of which the law speaks.
abbrev pub NextIsSimple : View → List (Frame Value) → List Master → Type 0
NextIsSimple w [] ms = Unit {0}
NextIsSimple w (f ∷ k) ms = FrameIsSimple w.tracks.first f × TakesNone f ms

-- An event of the real run, and that of the other one: the same, or the object is followed to where the other run reads or writes a variable.
pub data Matches (w : View) (e f : Event Value) : Type 0 where
  same : f ≡ e → Matches w e f
  followed : e ≡ Followed (Names w.object) → f ≡ Quiet → Matches w e f

-- An event that the other run does not have.
pub data IsSilent (w : View) (e : Event Value) : Type 0 where
  quiet : e ≡ Quiet → IsSilent w e
  followed : e ≡ Followed (Names w.object) → IsSilent w e

-- What comes next of what stands for the state, where an event comes in the real run.
pub data Goes (types : List TypeDefinition) (bodies : List BodyForm) (w : View) (t : State) (e : Event Value) (after : State) (n : Next) : Type 0 where
  -- both take a step
  both : (f : Event Value) (stands : State) → n ≡ moves f stands → Matches w e f → Seen types bodies w after stands → Goes types bodies w t e after n
  -- the real one alone does
  alone : IsSilent w e → Seen types bodies w after t → Goes types bodies w t e after n

-- What comes next of a state, and of the one that stands for it. Nothing is picked.
abbrev pub Shown : List TypeDefinition → List BodyForm → View → (stands : State) → (real seen : Next) → Type 0
Shown types bodies w t (halts h) n = n ≡ halts h
Shown types bodies w t (moves e after) n = Goes types bodies w t e after n
Shown types bodies w t (tells request e after) n = (stands : State) × (n ≡ tells request e stands) × Seen types bodies w after stands
Shown types bodies w t (asks request answered) n =
    (answers : Bool → State) × (n ≡ asks request answers) × ((granted : Bool) → Seen types bodies w (answered granted) (answers granted))
Shown types bodies w t (picks count taken) n = ⊥

-- In each step of a body that looks at the object by the formal parameter alone, copies no tracked component with a record and stores none so, and assigns no
-- record with controlled parts, what stands for the real state stands for it afterwards, and ends as it does.
abbrev pub TrackedComponentsRunAsVariables : Type 0
TrackedComponentsRunAsVariables =
    (types : List TypeDefinition) (bodies : List BodyForm) (w : View) (s t : State) → Seen types bodies w s t → IsWatched w (places s) s.heap
    → LooksElsewhere w s → CopiesNone types w.object (is_tracked_at w) s → NextIsSimple w s.control s.masters → Shown types bodies w t (next types bodies s) (next types bodies t)
