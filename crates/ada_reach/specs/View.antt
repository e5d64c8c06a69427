-- What the values of the code stand for.

use Rattle.std.specs.Prelude.{◌≡◌, ◌⊎◌, ℕ, ◌<◌, ◌≤◌, Bool, true, false, List, length, map, slice_index_or}
use Rattle.std.specs.Global.{Vec}
use Rattle.std.specs.List.{Contains, count_by}

-- The graph that vectors list.
abbrev pub graph_of : List (Vec ℕ) → List (List ℕ)
graph_of nodes = map (λ edges. edges.items) nodes

-- A node is marked.
abbrev pub IsMarked : List Bool → (n : ℕ) → Type 0
IsMarked marks n = slice_index_or marks n false ≡ true

-- What is found so far: each node that is found is marked, and each that is marked stands once in the list.
pub record IsSearch (marks : List Bool) (found : List ℕ) : Type 0 where
  pub marked : (k : ℕ) → k < length found → IsMarked marks (slice_index_or found k 0)
  pub listed : (n : ℕ) → IsMarked marks n → Contains found n
  pub once : length found ≤ count_by (λ mark. mark) marks

-- Numbers are added to what is found: those that are nodes are marked then, nothing else is marked, and what was found stays at its place.
pub record Adds (nodes : List ℕ) (marks more_marks : List Bool) (found more_found : List ℕ) : Type 0 where
  pub same : length more_marks ≡ length marks
  pub longer : length found ≤ length more_found
  pub stays : (k : ℕ) → k < length found → slice_index_or more_found k 0 ≡ slice_index_or found k 0
  pub kept : (n : ℕ) → IsMarked marks n → IsMarked more_marks n
  pub added : (n : ℕ) → Contains nodes n → n < length marks → IsMarked more_marks n
  pub only : (n : ℕ) → IsMarked more_marks n → IsMarked marks n ⊎ Contains nodes n
