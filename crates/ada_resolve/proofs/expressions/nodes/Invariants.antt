use Rattle.std.proofs.Common.{◌≡◌, drop}
use Rattle.ada_resolve.specs.Chains.{nodes_remark}
use Rattle.ada_resolve.specs.Remark.{noted}
use Rattle.ada_resolve.proofs.expressions.nodes.Given as goal

-- the nodes that are left, after those that came, are all
abbrev pub invariant-loop-link : goal.invariant-loop-link
invariant-loop-link l = noted (nodes_remark l.spot (drop l._link-index l.links)) l.notes ≡ noted (nodes_remark l.spot l.links) l.initial.notes
