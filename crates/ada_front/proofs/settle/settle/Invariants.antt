use Rattle.std.proofs.Common.{◌≡◌, ◌≤◌, vec_len}
use Rattle.ada_tree.specs.StatementView.{declarations_of}
use Rattle.ada_front.specs.View.{settled_from}
use Rattle.ada_front.proofs.settle.settle.Given as goal

-- those from the place on are settled
abbrev pub invariant-loop-at : goal.invariant-loop-at
invariant-loop-at l =
    (declarations_of l.declarations.items ≡ settled_from l.at (declarations_of l.initial.declarations.items)) × (l.at ≤ vec_len l.declarations)

abbrev pub decreases-loop-at : goal.decreases-loop-at
decreases-loop-at l = l.at
