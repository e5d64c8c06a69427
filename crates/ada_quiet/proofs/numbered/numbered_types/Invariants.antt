-- The types behind those that are left have their places.
use Rattle.std.proofs.Common.{◌≡◌, ◌≤◌, length, map, drop}
use Rattle.std.specs.Prelude.{count_by}
use Rattle.std.specs.Option.{option_copied}
use Rattle.ada_program.specs.Controlled.{has_parts}
use Rattle.ada_quiet.specs.Known.{HasTypes}
use Rattle.ada_quiet.proofs.numbered.numbered_types.Given as goal

abbrev pub invariant-types : goal.invariant-types
invariant-types l = record {
  entered : HasTypes (drop l.left l.types) (map option_copied l.table.items);
  count : length (map option_copied l.table.items) ≡ count_by has_parts l.types;
  within : l.left ≤ length l.types;
}

abbrev pub decreases-types : goal.decreases-types
decreases-types l = l.left
