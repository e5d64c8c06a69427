-- The laws of reaching: they hold of every graph.

use Rattle.std.specs.Prelude.{◌≡◌, ◌⊎◌, ◌↔◌, ℕ, Bool, IsTrue, List}
use Rattle.std.specs.List.{Contains}
use Rattle.ada_reach.specs.Graph.{IsNode, HasEdge, Reaches, IsReached}

-- What is reached from what is reached is reached.
abbrev pub IsTransitive : Type 0
IsTransitive = (graph : List (List ℕ)) (a b c : ℕ) → Reaches graph a b → Reaches graph b c → Reaches graph a c

-- An edge reaches the node to which it leads.
abbrev pub EdgesAreFollowed : Type 0
EdgesAreFollowed = (graph : List (List ℕ)) (a b : ℕ) → HasEdge graph a b → IsNode graph b → Reaches graph a b

-- A node reaches itself, and what is reached from the nodes to which its edges lead, and nothing else: an edge may stand first as well as last.
abbrev pub AnEdgeComesFirst : Type 0
AnEdgeComesFirst = (graph : List (List ℕ)) (a c : ℕ)
    → Reaches graph a c ↔ ((IsNode graph a × (a ≡ c)) ⊎ ((b : ℕ) × HasEdge graph a b × Reaches graph b c))

-- A set has the starts that are nodes.
abbrev pub HasStarts : List (List ℕ) → (starts : List ℕ) → (set : ℕ → Type 0) → Type 0
HasStarts graph starts set = (n : ℕ) → Contains starts n → IsNode graph n → set n

-- No edge leads from a node of a set to one outside of it.
abbrev pub IsClosed : List (List ℕ) → (set : ℕ → Type 0) → Type 0
IsClosed graph set = (a b : ℕ) → set a → HasEdge graph a b → IsNode graph b → set b

-- The starts are reached.
abbrev pub HasItsStarts : Type 0
HasItsStarts = (graph : List (List ℕ)) (starts : List ℕ) → HasStarts graph starts (IsReached graph starts)

-- No edge leads from what is reached to what is not.
abbrev pub NoEdgeLeaves : Type 0
NoEdgeLeaves = (graph : List (List ℕ)) (starts : List ℕ) → IsClosed graph (IsReached graph starts)

-- What is reached lies in every set that has the starts and that no edge leaves.
abbrev pub IsTheLeast : Type 0
IsTheLeast = (graph : List (List ℕ)) (starts : List ℕ) (set : ℕ → Bool)
    → HasStarts graph starts (λ n. IsTrue (set n)) → IsClosed graph (λ n. IsTrue (set n))
    → (n : ℕ) → IsReached graph starts n → IsTrue (set n)

-- More starts reach more.
abbrev pub MoreStartsReachMore : Type 0
MoreStartsReachMore = (graph : List (List ℕ)) (few many : List ℕ) → ((n : ℕ) → Contains few n → Contains many n)
    → (n : ℕ) → IsReached graph few n → IsReached graph many n
