-- Runs that are followed.

use Rattle.std.specs.Prelude.{◌≡◌, List, [], ◌∷◌, map}
use Rattle.ada_program.specs.declared.program.Program.{Program}
use Rattle.ada_program.specs.declared.program.Exception.TheVariants.{ConstraintError}
use Rattle.ada_program.specs.Form.{stmt_forms}
use Rattle.ada_meaning.specs.declared.event.Halt.TheVariants.{Finished, Unhandled}
use Rattle.ada_meaning.specs.Run.{Halts}
use Rattle.ada_order.specs.Example.{nested_stmts, InSomeRun}
use Rattle.ada_storage.specs.State.{leaving, undoing, assigning, creation, adjustment, Event, born, finalized, back, left}
use Rattle.ada_storage.specs.Example.{seen}
use Rattle.ada_following.specs.Reading.{event_seen}
use Rattle.ada_following.specs.Law.{IsFollowed}

-- What storage shows where a return leaves two blocks, one in the other: the objects of three collections go, the inner block's first, and then the main
-- procedure is left. Another block was left before.
abbrev pub nested_events : List Event
nested_events =
    left 2
    ∷ back 3 (leaving 4 4)
    ∷ back 2 (leaving 4 2)
    ∷ back 1 (leaving 4 2)
    ∷ left 4
    ∷ back 0 (leaving 3 0)
    ∷ left 3
    ∷ left 1
    ∷ []

-- There is such a run, which is followed to its end.
abbrev pub BlocksAreFollowed : Type 0
BlocksAreFollowed =
    (program : Program) × (stmt_forms program ≡ nested_stmts)
    × InSomeRun program (λ events last. Halts program last Finished × (seen (map event_seen events) ≡ nested_events) × IsFollowed program.types.items events last)

-- What storage shows where a program declares an object of a controlled type: it is initialized, and finalized as the main procedure is left.
abbrev pub controlled_events : List Event
controlled_events =
    born (record { object = 0; part = 0; turn = 0 }) creation
    ∷ finalized (record { object = 0; part = 0; turn = 0 }) (leaving 1 0)
    ∷ back 0 (leaving 1 0)
    ∷ left 1
    ∷ []

-- There is such a run, which is followed to its end.
abbrev pub AControlledObjectIsFollowed : Type 0
AControlledObjectIsFollowed =
    (program : Program)
    × InSomeRun program (λ events last.
    Halts program last Finished × (seen (map event_seen events) ≡ controlled_events) × IsFollowed program.types.items events last)

-- What storage shows where a program declares two objects of a controlled type, and assigns the second one to the first: both are initialized; the value of
-- the first one is finalized, and its new one is adjusted; and both are finalized as the main procedure is left, the second one first.
abbrev pub assigned_events : List Event
assigned_events =
    born (record { object = 0; part = 0; turn = 0 }) creation
    ∷ born (record { object = 1; part = 0; turn = 0 }) creation
    ∷ finalized (record { object = 0; part = 0; turn = 0 }) (assigning 2)
    ∷ born (record { object = 0; part = 0; turn = 1 }) adjustment
    ∷ finalized (record { object = 1; part = 0; turn = 0 }) (leaving 1 1)
    ∷ back 1 (leaving 1 1)
    ∷ finalized (record { object = 0; part = 0; turn = 1 }) (leaving 1 0)
    ∷ back 0 (leaving 1 0)
    ∷ left 1
    ∷ []

-- There is such a run, which is followed to its end.
abbrev pub AnAssignmentIsFollowed : Type 0
AnAssignmentIsFollowed =
    (program : Program)
    × InSomeRun program (λ events last.
    Halts program last Finished × (seen (map event_seen events) ≡ assigned_events) × IsFollowed program.types.items events last)

-- What storage shows where a program declares a record of a controlled type, with a component of another one, whose Initialize raises an exception (7.6.1): the
-- component was initialized before; the body of Initialize is left, and then the component is finalized, and the words of the object go back, before the main
-- procedure is left.
abbrev pub undone_events : List Event
undone_events =
    born (record { object = 0; part = 1; turn = 0 }) creation
    ∷ left 2
    ∷ finalized (record { object = 0; part = 1; turn = 0 }) (undoing 3)
    ∷ back 0 (undoing 3)
    ∷ left 1
    ∷ []

-- There is such a run, which is followed to its end: nothing handles the exception.
abbrev pub AnUndoneObjectIsFollowed : Type 0
AnUndoneObjectIsFollowed =
    (program : Program)
    × InSomeRun program (λ events last.
    Halts program last (Unhandled ConstraintError) × (seen (map event_seen events) ≡ undone_events) × IsFollowed program.types.items events last)
