-- As many places as were made so far: no type is known.
use Rattle.std.proofs.Common.{◌≡◌, ◌-◌, ◌≤◌, map, None}
use Rattle.std.specs.Prelude.{vec_len, replicate}
use Rattle.std.specs.Option.{option_copied}
use Rattle.ada_quiet.proofs.numbered.unknown_types.Given as goal

abbrev pub invariant-types : goal.invariant-types
invariant-types l = record {
  made : map option_copied l.table.items ≡ replicate (vec_len l.table) None;
  within : vec_len l.table ≤ l.count;
}

abbrev pub decreases-types : goal.decreases-types
decreases-types l = l.count - vec_len l.table
