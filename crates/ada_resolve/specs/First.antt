-- The first fault of what is remarked, told by what is remarked alone.

use Rattle.std.specs.Prelude.{◌≡◌, ℕ, ◌+◌, false, nat_lt, if◌then◌else◌, ◌⊎◌, Option, Some, None}
use Rattle.ada_text.specs.declared.spot.Spot.{Spot}
use Rattle.ada_resolve.specs.declared.fault.NameRule.{NameRule}
use Rattle.ada_resolve.specs.declared.fault.NameRule.TheVariants.{Limit}
use Rattle.ada_resolve.specs.Remark.{Remark, fine, wrong, node, both, is_before, most_nodes, noted}
use Rattle.ada_resolve.specs.declared.notes.Notes.{Notes}

-- The number of nodes up to the end of a remark, given the number before it. Nodes past the limit are not counted.
abbrev pub nodes_after : Remark → ℕ → ℕ
nodes_after fine n = n
nodes_after (wrong spot rule) n = n
nodes_after (node spot) n = if nat_lt n most_nodes then n + 1 else n
nodes_after (both a b) n = nodes_after b (nodes_after a n)

-- A remark tells of a fault, given the number of nodes before it.
abbrev pub Breaks : Remark → ℕ → Spot × NameRule → Type 0
Breaks fine n f = ⊥
Breaks (wrong spot rule) n f = f ≡ (spot, rule)
Breaks (node spot) n f = (nat_lt n most_nodes ≡ false) × (f ≡ (spot, Limit))
Breaks (both a b) n f = Breaks a n f ⊎ Breaks b (nodes_after a n) f

-- A fault is the first that a remark tells of, given the number of nodes before it; `None` says that the remark tells of no fault.
abbrev pub IsFirstOf : ℕ → Option (Spot × NameRule) → Remark → Type 0
IsFirstOf n (Some f) remark = Breaks remark n f × ((g : Spot × NameRule) → Breaks remark n g → is_before g f ≡ false)
IsFirstOf n None remark = (g : Spot × NameRule) → Breaks remark n g → ⊥

-- Nothing is wrong so far, and this is the number of nodes.
abbrev pub fine_so_far : ℕ → Notes
fine_so_far n = record { fault = None; nodes = n }

-- What is noted of a remark, where nothing was wrong before it, is its first fault.
abbrev pub NotesTheFirst : Type 0
NotesTheFirst = (n : ℕ) (r : Remark) → IsFirstOf n (noted r (fine_so_far n)).fault r
