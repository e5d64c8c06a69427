-- A graph with a cycle, a node that is reached behind it, and a node that is not reached.

use Rattle.std.specs.Prelude.{ℕ, Bool, nat_lt, IsTrue, List, [], ◌∷◌}
use Rattle.std.specs.List.{Contains}
use Rattle.ada_reach.specs.Graph.{HasEdge, IsReached}
use Rattle.ada_reach.specs.Law.{HasStarts, IsClosed}

-- Edges lead from 0 to 1, from 1 to 2, from 2 back to 1 and on to 3, from 3 to 9, which is no node, and from 4 to 0.
abbrev pub graph : List (List ℕ)
graph = (1 ∷ []) ∷ (2 ∷ []) ∷ (1 ∷ 3 ∷ []) ∷ (9 ∷ []) ∷ (0 ∷ []) ∷ []

-- Node 0 and the number 7, which is no node's.
abbrev pub starts : List ℕ
starts = 0 ∷ 7 ∷ []

-- Nodes 1 and 2 lead to one another.
abbrev pub IsACycle : Type 0
IsACycle = HasEdge graph 1 2 × HasEdge graph 2 1

-- Node 3 is reached, behind the cycle.
abbrev pub LastIsReached : Type 0
LastIsReached = IsReached graph starts 3

-- It is no start.
abbrev pub OnlyTheFirstStarts : Type 0
OnlyTheFirstStarts = ¬ (Contains starts 3)

-- Node 4 is not reached, nor are the numbers 7 and 9, which are no nodes'.
abbrev pub OutsideIsNotReached : Type 0
OutsideIsNotReached = (¬ IsReached graph starts 4) × (¬ IsReached graph starts 7) × (¬ IsReached graph starts 9)

-- The numbers below 4 have the starts that are nodes, and no edge leads from one of them to another node.
abbrev pub first_four : ℕ → Bool
first_four n = nat_lt n 4

abbrev pub ASetIsClosed : Type 0
ASetIsClosed = HasStarts graph starts (λ n. IsTrue (first_four n)) × IsClosed graph (λ n. IsTrue (first_four n))
