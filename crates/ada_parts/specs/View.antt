-- What the values of the code stand for.

use Rattle.std.specs.Prelude.{◌≡◌, ℕ, ◌+◌, ◌^◌, ◌<◌, ◌≤◌, Option, MatchOption, List, [], ◌∷◌, take, drop, map, reverse, length, slice_index_or}
use Rattle.ada_parts.specs.declared.shapes.Entry.{Entry}
use Rattle.ada_parts.specs.declared.tasks.Component.{Component}
use Rattle.ada_parts.specs.declared.tasks.Step.{Step}
use Rattle.ada_parts.specs.declared.tasks.Step.TheVariants.{Call, Treat}
use Rattle.ada_parts.specs.Shape.{Shape, IsTable, parts_of}
use Rattle.ada_parts.specs.Task.{Task, performs, treats}

-- The shape in an entry.
abbrev pub shape_in : Entry → Shape
shape_in entry = record { controlled = entry.controlled; components = entry.components.items }

-- The table in entries, the newest last.
abbrev pub table_of : List Entry → List Shape
table_of entries = reverse (map shape_in entries)

-- An entry says how many parts there are, if a machine word counts them.
abbrev pub Counts : Option ℕ → (parts : ℕ) → Type 0
Counts n parts = MatchOption n (2 ^ 64 ≤ parts) (λ m. m ≡ parts)

-- The entries are a table, and say how many parts each type has.
pub record IsCounted (entries : List Entry) : Type 0 where
  pub table : IsTable (table_of entries)
  pub counts : (t : ℕ) (d : Entry) → t < length entries → Counts (slice_index_or entries t d).parts (parts_of (table_of entries) t)

-- How many components a step treats.
abbrev pub size_of : Step → ℕ
size_of (Call of part) = 0
size_of (Treat others) = others + 1

-- The tasks of these steps, the next one first; each takes its components from the front.
abbrev pub tasks_of : List Step → List Component → List Task
tasks_of [] components = []
tasks_of (Call of part ∷ steps) components = performs of part ∷ tasks_of steps components
tasks_of (Treat others ∷ steps) components =
    treats (take (others + 1) components) ∷ tasks_of steps (drop (others + 1) components)

-- The tasks that are left, where the next step, and the first component of it, stand last.
abbrev pub left_in : List Step → List Component → List Task
left_in steps components = tasks_of (reverse steps) (reverse components)
