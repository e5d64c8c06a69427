-- The graph of calls: its edges lead from what is called to what calls it.

use Rattle.std.specs.Prelude.{◌≡◌, ◌⊎◌, ℕ, ◌+◌, ◌<◌, Bool, true, nat_lt, if◌then◌else◌, List, [], length, slice_index_or, Option, Some, None}
use Rattle.std.specs.List.{Contains}
use Rattle.ada_deeds.specs.declared.deed.Callee.{Callee}
use Rattle.ada_deeds.specs.declared.deed.Callee.TheVariants as callee
use Rattle.ada_deeds.specs.declared.calls.Calls.{Calls}
use Rattle.ada_deeds.specs.declared.deed.Deed.{Deed}
use Rattle.ada_deeds.specs.declared.deed.Deed.TheVariants as deed
use Rattle.ada_deeds.specs.declared.deed.Operation.{Operation}
use Rattle.ada_deeds.specs.declared.deed.Operation.TheVariants.{Initialize, Adjust, Finalize}
use Rattle.ada_deeds.specs.declared.search.Search.{Search}
use Rattle.ada_deeds.specs.Does.{callee_does, is_deed_of, Does}
use Rattle.ada_deeds.specs.View.{sought}
use Rattle.ada_effects.specs.Found.{has_number}
use Rattle.ada_program.specs.declared.program.TypeNo.{TypeNo}
use Rattle.ada_program.specs.ProgramForm.{ProgramForm}
use Rattle.ada_reach.specs.Graph.{HasEdge, IsReached}
use Rattle.ada_reach.specs.View.{graph_of, IsMarked}

-- Where the types begin among the nodes, for an operation: behind the procedures, and behind the types for the operations before it.
abbrev pub first_node : (procedures types : ℕ) → Operation → ℕ
first_node procedures types Initialize = procedures
first_node procedures types Adjust = procedures + types
first_node procedures types Finalize = procedures + types + types

-- How many nodes there are.
abbrev pub node_count : (procedures types : ℕ) → ℕ
node_count procedures types = procedures + types + types + types

-- The node of a callee, where there are so many procedures and types: none, if it is none of these.
unfoldable pub node_of : (procedures types : ℕ) → Callee → Option ℕ
node_of procedures types (callee.Procedure procedure) = if nat_lt procedure.0 procedures then Some procedure.0 else None
node_of procedures types (callee.Parts operation t) = if nat_lt t.0 types then Some (first_node procedures types operation + t.0) else None

-- A graph without edges.
abbrev pub HasNoEdges : List (List ℕ) → Type 0
HasNoEdges graph = (x y : ℕ) → ¬ (HasEdge graph x y)

-- An edge is added, if it leads from a node.
pub record AddsEdge (a b : ℕ) (before after : List (List ℕ)) : Type 0 where
  pub size : length after ≡ length before
  pub kept : (x y : ℕ) → HasEdge before x y → HasEdge after x y
  pub added : a < length before → HasEdge after a b
  pub only : (x y : ℕ) → HasEdge after x y → HasEdge before x y ⊎ ((x ≡ a) × (y ≡ b))

-- Edges are added from the nodes of callees to the node of what calls them.
pub record AddsCalls (procedures types : ℕ) (node : ℕ) (callees : List Callee) (before after : List (List ℕ)) : Type 0 where
  pub size : length after ≡ length before
  pub kept : (x y : ℕ) → HasEdge before x y → HasEdge after x y
  pub added : (c : Callee) (x : ℕ) → Contains callees c → node_of procedures types c ≡ Some x → x < length before → HasEdge after x node
  pub only : (x y : ℕ) → HasEdge after x y →
      HasEdge before x y ⊎ ((y ≡ node) × ((c : Callee) × Contains callees c × (node_of procedures types c ≡ Some x)))

-- A node is a start besides, if it does the deed itself.
pub record AddsStart (itself : Bool) (node : ℕ) (before after : List ℕ) : Type 0 where
  pub kept : (n : ℕ) → Contains before n → Contains after n
  pub added : itself ≡ true → Contains after node
  pub only : (n : ℕ) → Contains after n → Contains before n ⊎ ((n ≡ node) × (itself ≡ true))

-- A node is listed besides for each of these types that has a list.
pub record AddsStarts (types : List TypeNo) (node : ℕ) (before after : List (List ℕ)) : Type 0 where
  pub size : length after ≡ length before
  pub kept : (t n : ℕ) → HasEdge before t n → HasEdge after t n
  pub added : (t : ℕ) → has_number types t ≡ true → t < length before → HasEdge after t node
  pub only : (t n : ℕ) → HasEdge after t n → HasEdge before t n ⊎ ((n ≡ node) × (has_number types t ≡ true))

-- The nodes that do a deed themselves, as the code keeps them.
abbrev pub starts_of : Calls → Deed → List ℕ
starts_of calls (deed.Raises e) = calls.itself.items
starts_of calls (deed.Frees t) = slice_index_or (graph_of calls.freeing.items) t.0 []
starts_of calls (deed.Follows t) = slice_index_or (graph_of calls.following.items) t.0 []
starts_of calls deed.Allocates = calls.itself.items
starts_of calls deed.Calls = []

-- Each callee of the first nodes has its edges, and is a start, if it does the deed whatever it calls; there are no others.
pub record IsGraph (p : ProgramForm) (d : Deed) (procedures types done : ℕ) (graph : List (List ℕ)) (starts : List ℕ) : Type 0 where
  pub size : length graph ≡ node_count procedures types
  -- a start does the deed itself
  pub itself : (n : ℕ) → Contains starts n → (c : Callee) → node_of procedures types c ≡ Some n → (known : Callee → Bool) → callee_does p known d c ≡ true
  -- what calls does the deed, where what is called does
  pub calls : (x y : ℕ) → HasEdge graph x y → (c : Callee) → node_of procedures types c ≡ Some y → (known : Callee → Bool) →
      ((other : Callee) → node_of procedures types other ≡ Some x → known other ≡ true) → callee_does p known d c ≡ true
  -- what does the deed is a start, or calls something that does
  pub all : (c : Callee) (n : ℕ) → node_of procedures types c ≡ Some n → n < done → (known : Callee → Bool) → callee_does p known d c ≡ true →
      Contains starts n ⊎ ((other : Callee) × (known other ≡ true) × ((x : ℕ) → node_of procedures types other ≡ Some x → HasEdge graph x n))

-- This is the graph of a search, as far as the first nodes: for each deed of the program that is sought. Each type has its lists.
pub record IsSearched (p : ProgramForm) (s : Search) (procedures types done : ℕ) (calls : Calls) : Type 0 where
  pub freeing : length (graph_of calls.freeing.items) ≡ types
  pub following : length (graph_of calls.following.items) ≡ types
  pub graph : (d : Deed) → is_deed_of p (sought s d) ≡ true →
      IsGraph p (sought s d) procedures types done (graph_of calls.callers.items) (starts_of calls (sought s d))

-- The nodes that are reached from those that do a deed themselves are marked, and no others.
pub record MarksReached (graph : List (List ℕ)) (starts : List ℕ) (marks : List Bool) : Type 0 where
  pub marked : (n : ℕ) → IsReached graph starts n → IsMarked marks n
  pub only : (n : ℕ) → IsMarked marks n → IsReached graph starts n

-- The nodes of the callees that do a deed are marked, and no others.
pub record MarksDoers (p : ProgramForm) (d : Deed) (procedures types : ℕ) (marks : List Bool) : Type 0 where
  pub marked : (c : Callee) (n : ℕ) → node_of procedures types c ≡ Some n → Does p d c → IsMarked marks n
  pub only : (c : Callee) (n : ℕ) → node_of procedures types c ≡ Some n → IsMarked marks n → Does p d c
