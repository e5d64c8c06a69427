-- Runs that meet the premises of the laws, and a step that shows one condition of Free to be needed.

use Rattle.std.specs.Prelude.{◌≡◌, ℕ, suc, List, [], ◌∷◌}
use Rattle.ada_storage.specs.State.{Forest, none, tree, Value, leaving, freeing, undoing, assigning, creation, adjustment, Event, born, finalized, back, left, quiet, stops, frees, State, parted}
use Rattle.ada_storage.specs.Step.{Choice, deallocates, stuck, erroneous, step}
use Rattle.ada_storage.specs.Law.{Run, first_state}

-- There is a run from the first state with such events, to such a state.
abbrev pub InSomeRun : (List Event → State → Type 0) → Type 0
InSomeRun P = (events : List Event) × (last : State) × Run first_state events last × P events last

-- The events that can be seen.
abbrev pub seen : List Event → List Event
seen [] = []
seen (quiet ∷ es) = seen es
seen (e ∷ es) = e ∷ seen es

-- A part with one in it.
abbrev pub nested : Forest
nested = tree 1 (tree 0 none none) none

-- A part in which nothing lies.
abbrev pub alone : Forest
alone = tree 0 none none

-- A value of an object's part.
abbrev pub value : (object part turn : ℕ) → Value
value o p n = record { object = o; part = p; turn = n }

-- An object is allocated, whose inner part is initialized, and whose whole's Initialize raises an exception: the inner part is finalized, and the words of the
-- object go back (7.6.1). The bodies of both operations and of the Finalize are masters of their own.
abbrev pub undone_events : List Event
undone_events =
    left 2
    ∷ born (value 0 0 0) creation
    ∷ left 3
    ∷ finalized (value 0 0 0) (undoing 4)
    ∷ left 5
    ∷ back 0 (undoing 4)
    ∷ left 1
    ∷ []

-- There is a run with these events that comes to its end.
abbrev pub AnInitializeRaises : Type 0
AnInitializeRaises = InSomeRun (λ events last. (seen events ≡ undone_events) × (last.control ≡ stops))

-- An object is declared, and one allocated; in a block another is declared, the first one is assigned to, the allocated one is freed, and an exception is
-- raised, which is handled outside. No operation is user code.
abbrev pub nested_events : List Event
nested_events =
    born (value 0 0 0) creation
    ∷ born (value 0 1 0) creation
    ∷ born (value 1 0 0) creation
    ∷ born (value 1 1 0) creation
    ∷ born (value 2 0 0) creation
    ∷ finalized (value 0 1 0) (assigning 3)
    ∷ finalized (value 0 0 0) (assigning 3)
    ∷ born (value 0 0 1) adjustment
    ∷ born (value 0 1 1) adjustment
    ∷ finalized (value 1 1 0) (freeing 4)
    ∷ finalized (value 1 0 0) (freeing 4)
    ∷ back 1 (freeing 4)
    ∷ finalized (value 2 0 0) (leaving 2 4)
    ∷ back 2 (leaving 2 4)
    ∷ left 2
    ∷ finalized (value 0 1 1) (leaving 1 3)
    ∷ finalized (value 0 0 1) (leaving 1 3)
    ∷ back 0 (leaving 1 3)
    ∷ left 1
    ∷ []

-- There is a run with these events that comes to its end.
abbrev pub MastersNest : Type 0
MastersNest = InSomeRun (λ events last. (seen events ≡ nested_events) × (last.control ≡ stops))

-- The frame of a Free of an object, whatever stands in its way.
abbrev pub freed_anyway : (object : ℕ) → State → State
freed_anyway o s = record s { control = frees s.next o ((s.objects o).shape ∷ []) (parted o s.control); next = suc s.next }

-- A run comes to a state in which an object is being assigned to, and may not be freed. If it were freed all the same, its Finalize would come next, of a
-- value that does not exist any more.
abbrev pub FreeWaitsForAssignments : Type 0
FreeWaitsForAssignments =
    InSomeRun
    (λ events last. (step (deallocates 0) last ≡ stuck) × ((choice : Choice) × (step choice (freed_anyway 0 last) ≡ erroneous)))
