use Rattle.std.proofs.Common.{◌≡◌, ◌+◌, ◌≤◌, ◌-◌, ◌++◌, length, drop, reverse}
use Rattle.std.specs.Prelude.{vec_len, vec_capacity}
use Rattle.std.specs.List.{sum_by}
use Rattle.ada_parts.specs.Shape.{parts_of}
use Rattle.ada_parts.specs.Part.{in_order}
use Rattle.ada_parts.proofs.put.put_all.Given as goal

-- The components from the i-th on stand in the vector, the first of them last, and there is room for those before it.
abbrev pub invariant-loop-i : goal.invariant-loop-i
invariant-loop-i l = record {
  within : l.i ≤ length l.types;
  numbers : l.first ≡ l.end - sum_by (parts_of l.shapes) (drop l.i l.types);
  put : l.components.items ≡ l.fn.components.items ++ reverse (in_order (parts_of l.shapes) (drop l.i l.types) l.first);
  room : vec_len l.components + l.i ≤ vec_capacity l.components;
}

abbrev pub decreases-loop-i : goal.decreases-loop-i
decreases-loop-i l = l.i
