-- Directed graphs, and which nodes are reached in them. For each node, by its number, a graph lists the nodes to which its edges lead; numbers that are no node's are passed over.

use Rattle.std.specs.Prelude.{ℕ, ◌<◌, List, [], length, slice_index_or}
use Rattle.std.specs.List.{Contains}

-- A number is a node's.
abbrev pub IsNode : List (List ℕ) → (n : ℕ) → Type 0
IsNode graph n = n < length graph

-- An edge leads from one node to another: the other one is listed for it.
abbrev pub HasEdge : List (List ℕ) → (a b : ℕ) → Type 0
HasEdge graph a b = Contains (slice_index_or graph a []) b

-- A node reaches itself, and each node to which an edge leads from one that it reaches.
pub data Reaches (graph : List (List ℕ)) (a : ℕ) : (b : ℕ) → Type 0 where
  stays : IsNode graph a → Reaches graph a a
  goes : {b c : ℕ} → Reaches graph a b → HasEdge graph b c → IsNode graph c → Reaches graph a c

-- A node is reached from starts: one of them reaches it.
abbrev pub IsReached : List (List ℕ) → (starts : List ℕ) → (n : ℕ) → Type 0
IsReached graph starts n = (start : ℕ) × Contains starts start × Reaches graph start n
