-- States that are alike but for some components, which are hidden, and for whether some objects exist, which are ghosts.

use Rattle.std.specs.Prelude.{◌≡◌, ℕ, Bool, true, false, List, length, Option, Some, None}
use Rattle.std.specs.List.{slice_get}
use Rattle.ada_meaning.specs.declared.state.Id.{Id}
use Rattle.ada_meaning.specs.declared.state.Value.{Value}
use Rattle.ada_meaning.specs.declared.state.Value.TheVariants.{Null, Names, Scalar, Part}
use Rattle.ada_meaning.specs.Event.{Event, Back, Followed}
use Rattle.ada_meaning.specs.Step.{halts, moves, tells, asks, picks}
use Rattle.ada_meaning.specs.Named.{Object, State, Next, object_at}

-- As many values, and the same ones in each component that is not hidden.
pub record ValuesAlike (hides : ℕ → Bool) (vs us : List Value) : Type 0 where
  pub count : length vs ≡ length us
  pub values : (component : ℕ) → hides component ≡ false → slice_get vs component ≡ slice_get us component

-- Something holds, except of a ghost.
abbrev pub UnlessGhost : (ghost : Bool) → Type 0 → Type 0
UnlessGhost true P = Unit {0}
UnlessGhost false P = P

-- Two objects that differ at most in the values of hidden components; and, where they are ghosts, in whether the object exists and has its words out. Both are in
-- their collections, or neither is.
pub record ObjectsAlike (hides : ℕ → Bool) (ghost : Bool) (x y : Object) : Type 0 where
  pub values : ValuesAlike hides x.cell.values y.cell.values
  pub cell : y.cell ≡ record (x.cell) { values = y.cell.values }
  pub listed : y.listed ≡ x.listed
  pub life : UnlessGhost ghost (y ≡ record x { cell = y.cell })

-- Such objects, or none in both places.
abbrev pub FoundAlike : (hides : ℕ → Bool) → (ghost : Bool) → Option Object → Option Object → Type 0
FoundAlike hides ghost None None = Unit {0}
FoundAlike hides ghost None (Some y) = ⊥
FoundAlike hides ghost (Some x) None = ⊥
FoundAlike hides ghost (Some x) (Some y) = ObjectsAlike hides ghost x y

-- As many objects, and such ones under each name.
pub record HeapsAlike (hidden : Id → (component : ℕ) → Bool) (ghosts : Id → Bool) (h k : List Object) : Type 0 where
  pub count : length h ≡ length k
  pub objects : (o : Id) → FoundAlike (hidden o) (ghosts o) (object_at h o) (object_at k o)

-- States that are the same but for their heaps, which are so.
pub record StatesBy (AreSo : List Object → List Object → Type 0) (s t : State) : Type 0 where
  pub rest : t ≡ record s { heap = t.heap }
  pub heaps : AreSo s.heap t.heap

-- States that are the same but for heaps that are alike.
abbrev pub StatesAlike : (hidden : Id → (component : ℕ) → Bool) → (ghosts : Id → Bool) → (s t : State) → Type 0
StatesAlike hidden ghosts s t = StatesBy (HeapsAlike hidden ghosts) s t

-- Does a value name a ghost?
abbrev pub is_ghost : (ghosts : Id → Bool) → Value → Bool
is_ghost ghosts Null = false
is_ghost ghosts (Names o) = ghosts o
is_ghost ghosts (Scalar v) = false
is_ghost ghosts (Part o place) = false

-- An event follows no ghost (4.1.3), and gives back the words of none (13.11.2).
abbrev pub SparesGhosts : (ghosts : Id → Bool) → Event Value → Type 0
SparesGhosts ghosts (Followed v) = is_ghost ghosts v ≡ false
SparesGhosts ghosts (Back v access number pool subpool cause) = is_ghost ghosts v ≡ false
SparesGhosts ghosts e = Unit {0}

-- What comes next of both: the same, but that the heaps of the states are so, whatever is answered. Where an event comes, it is so, too.
abbrev pub NextBy : (AreSo : List Object → List Object → Type 0) → (IsSo : Event Value → Type 0) → Next → Next → Type 0
NextBy AreSo IsSo (halts h) n = n ≡ halts h
NextBy AreSo IsSo (moves event s) n = (t : State) × (n ≡ moves event t) × StatesBy AreSo s t × IsSo event
NextBy AreSo IsSo (tells request event s) n = (t : State) × (n ≡ tells request event t) × StatesBy AreSo s t × IsSo event
NextBy AreSo IsSo (asks request answered) n =
    (answers : Bool → State) × (n ≡ asks request answers) × ((granted : Bool) → StatesBy AreSo (answered granted) (answers granted))
NextBy AreSo IsSo (picks count taken) n =
    (taking : ℕ → State) × (n ≡ picks count taking) × ((i : ℕ) → StatesBy AreSo (taken i) (taking i))

-- The same, but that the states are alike; and each event spares the ghosts.
abbrev pub NextAlike : (hidden : Id → (component : ℕ) → Bool) → (ghosts : Id → Bool) → Next → Next → Type 0
NextAlike hidden ghosts coming n = NextBy (HeapsAlike hidden ghosts) (SparesGhosts ghosts) coming n
