-- Machines that follow storage: each of their steps is some steps of storage that show nothing, and then at most one that shows the same event. So storage's
-- laws are theirs.

use Rattle.std.specs.Prelude.{◌≡◌, ◌⊎◌, List, [], ◌∷◌}
use Rattle.ada_storage.specs.State.{Event, quiet, State}
use Rattle.ada_storage.specs.Step.{Choice, goes, step}
use Rattle.ada_storage.specs.Law.{Run}
use Rattle.ada_storage.specs.Example.{seen}

-- Steps of a machine one after another, with their events.
pub data RunOf {X : Type 0} (Steps : X → Event → X → Type 0) : X → List Event → X → Type 0 where
  here : {x : X} → RunOf Steps x [] x
  there : {x last : X} {event : Event} {events : List Event} (mid : X) → Steps x event mid → RunOf Steps mid events last → RunOf Steps x (event ∷ events) last

-- Nothing more is done to storage where nothing is shown, or one step shows the event.
abbrev pub Shows : Event → State → State → Type 0
Shows e s t = ((e ≡ quiet) × (s ≡ t)) ⊎ ((choice : Choice) × (step choice s ≡ goes e t))

-- From one state of storage to another, an event is shown, and nothing else.
pub record Goes (event : Event) (s t : State) : Type 0 where
  pub unseen : List Event
  pub mid : State
  pub run : Run s unseen mid
  pub silent : seen unseen ≡ []
  pub shows : Shows event mid t

-- A machine follows storage, if this says what its states mean for storage.
abbrev pub Follows : {X : Type 0} → (X → Event → X → Type 0) → (X → State) → Type 0
Follows {X} Steps storage = (x y : X) (event : Event) → Steps x event y → Goes event (storage x) (storage y)
