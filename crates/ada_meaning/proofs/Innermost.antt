-- What the law of the innermost master refuses, and what it lets pass.

use Rattle.std.proofs.Common.{◌≢◌, ℕ, List, [], ◌∷◌, Option, refl}
use Rattle.ada_meaning.specs.declared.state.Value.{Value}
use Rattle.ada_meaning.specs.declared.event.Cause.TheVariants.{Leaving, Freeing}
use Rattle.ada_meaning.specs.Event.{Back, Left}
use Rattle.ada_meaning.specs.State.{Master}
use Rattle.ada_meaning.specs.Law.{LeavesInnermost}

-- An outer master isn't left while an inner one is entered (7.6.1).
outer_stays : (inner outer : Master) (ms : List Master) → inner.number ≢ outer.number → LeavesInnermost (Left outer.number) (inner ∷ outer ∷ ms) → ⊥
outer_stays inner outer ms apart leaves = apart leaves

-- Nor is an object ended by its leaving then.
outer_keeps : (inner outer : Master) (ms : List Master) (object : Value) (access number item : ℕ) (pool subpool : Option ℕ) → inner.number ≢ outer.number → LeavesInnermost (Back object access number pool subpool (Leaving outer.number item)) (inner ∷ outer ∷ ms) → ⊥
outer_keeps inner outer ms object access number item pool subpool apart leaves = apart leaves

-- No master is left where none is entered.
none_left : (m : ℕ) → LeavesInnermost (Left m) [] → ⊥
none_left m leaves = leaves

-- The innermost master is left, and ends its objects.
inner_leaves : (inner : Master) (ms : List Master) → LeavesInnermost (Left inner.number) (inner ∷ ms)
inner_leaves inner ms = refl

inner_ends : (inner : Master) (ms : List Master) (object : Value) (access number item : ℕ) (pool subpool : Option ℕ) → LeavesInnermost (Back object access number pool subpool (Leaving inner.number item)) (inner ∷ ms)
inner_ends inner ms object access number item pool subpool = refl

-- A Free ends an object of whichever master (13.11.2).
freed_anywhere : (ms : List Master) (object : Value) (access number freeing : ℕ) (pool subpool : Option ℕ) → LeavesInnermost (Back object access number pool subpool (Freeing freeing)) ms
freed_anywhere ms object access number freeing pool subpool = tt
