-- What is seen where the creations of a program are read one after the other: whether variables come in order, a collection once, and only pools of the
-- program.

use Rattle.std.specs.Prelude.{◌+◌, Bool, true, false, ◌&&◌, ◌==◌, nat_lt, if◌then◌else◌, List, [], ◌∷◌, Option, Some, None}
use Rattle.ada_program.specs.declared.creations.Seen.{Seen}
use Rattle.ada_program.specs.declared.creations.Seen.TheVariants.{Variables, Collection, Pools}
use Rattle.ada_program.specs.WellFormed.{Creation, of_pool, of_collection, of_variable}

-- What is seen after one more creation: none, if it is a variable that is not the next of so many, a second collection, or no pool of so many.
abbrev pub seen_next : Seen → Creation → Option Seen
seen_next (Variables next count) (of_pool pool) = Some (Variables next count)
seen_next (Variables next count) (of_collection t) = Some (Variables next count)
seen_next (Variables next count) (of_variable x) =
    if (x == next) && nat_lt next count then Some (Variables (next + 1) count) else None
seen_next (Collection access created) (of_pool pool) = Some (Collection access created)
seen_next (Collection access created) (of_collection t) =
    if t == access then (if created then None else Some (Collection access true)) else Some (Collection access created)
seen_next (Collection access created) (of_variable x) = Some (Collection access created)
seen_next (Pools count) (of_pool pool) = if nat_lt pool count then Some (Pools count) else None
seen_next (Pools count) (of_collection t) = Some (Pools count)
seen_next (Pools count) (of_variable x) = Some (Pools count)

-- What is seen after one more creation, where something may have been wrong before.
abbrev pub seen_then : Option Seen → Creation → Option Seen
seen_then None c = None
seen_then (Some seen) c = seen_next seen c

-- What is seen after creations.
abbrev pub seen_after : Option Seen → List Creation → Option Seen
seen_after seen [] = seen
seen_after seen (c ∷ cs) = seen_after (seen_then seen c) cs

-- At the end each of so many variables has been created, or the collection has.
abbrev pub is_complete : Option Seen → Bool
is_complete None = false
is_complete (Some (Variables next count)) = next == count
is_complete (Some (Collection access created)) = created
is_complete (Some (Pools count)) = true
