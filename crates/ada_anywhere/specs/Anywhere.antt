-- The masters that were entered since the outermost operation of a controlled type that runs was called (7.6, 7.6.1): in every run of a program whose
-- operations nest anywhere they own no collection.

use Rattle.std.specs.Prelude.{◌≡◌, ℕ, suc, Bool, true, false, ◌||◌, List, [], ◌∷◌, take, None, All}
use Rattle.ada_meaning.specs.declared.state.Value.{Value}
use Rattle.ada_meaning.specs.Frame.{Frame, is_master}
use Rattle.ada_meaning.specs.Frame as frame
use Rattle.ada_meaning.specs.Named.{State}
use Rattle.ada_meaning.specs.State.{Master}
use Rattle.ada_scopes.specs.Scopes.{InItsRuns, WhereOperationsNestAnywhere, type_collected, is_departure}

-- Does this frame wait for an operation: for the Initialize or Adjust that begins a part (7.6), or for a Finalize (7.6.1)?
abbrev pub waits : Frame Value → Bool
waits (frame.Awaits v by done of part tasks) = true
waits frame.Confines = true
waits f = false

-- Does one of these frames wait for an operation (7.6, 7.6.1)?
abbrev pub some_waits : List (Frame Value) → Bool
some_waits [] = false
some_waits (f ∷ k) = waits f || some_waits k

-- Does this frame stand for a master that is entered: one that has something left to do, or one that is being left (7.6.1)?
abbrev pub has_master : Frame Value → Bool
has_master f = is_master f || is_departure f

-- This number of masters, and the one of a frame, if an operation waits behind that and it has one (7.6.1).
abbrev pub masters_if_waits : (behind master : Bool) → ℕ → ℕ
masters_if_waits true true n = suc n
masters_if_waits true false n = n
masters_if_waits false master n = 0

-- How many masters were entered since the outermost operation that runs was called (7.6, 7.6.1): those in front of the last frame that waits for one. None
-- was, where no operation runs.
abbrev pub entered_since : (control : List (Frame Value)) → ℕ
entered_since [] = 0
entered_since (f ∷ k) = masters_if_waits (some_waits k) (has_master f) (entered_since k)

-- None of the items of a master is a collection (7.6.1).
abbrev pub OwnsNoCollection : Master → Type 0
OwnsNoCollection m = All (λ i. type_collected i.owned ≡ None) m.items

-- So it is of each master that was entered since the outermost operation that runs was called, the innermost first (7.6, 7.6.1).
abbrev pub OwnNoCollectionSince : State → Type 0
OwnNoCollectionSince s = All OwnsNoCollection (take (entered_since s.control) s.masters)

-- While an operation runs, its body, the blocks in it and the procedures that it calls create no collection (7.6, 7.6.1).
abbrev pub OperationsCollectNothing : Type 0
OperationsCollectNothing = WhereOperationsNestAnywhere (λ program. InItsRuns program OwnNoCollectionSince)
