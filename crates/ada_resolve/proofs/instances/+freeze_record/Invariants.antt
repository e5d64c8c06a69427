use Rattle.std.proofs.Common.{◌≡◌, ◌+◌, map, drop}
use Rattle.ada_resolve.specs.Instances.{with_kinds_frozen, with_record_frozen}
use Rattle.ada_resolve.specs.Kept.{kind_of_known, known_type_form}
use Rattle.ada_resolve.proofs.instances.+freeze_record.Given as goal

-- one level is less at each call
abbrev pub decreases-freeze_record : goal.decreases-freeze_record
decreases-freeze_record l = l.levels

-- what is left, with those frozen so far, freezes as much as all
abbrev pub invariant-parts : goal.invariant-parts
invariant-parts l =
    (l.levels ≡ l.below + 1) ×
    (with_kinds_frozen (with_record_frozen (map known_type_form l.types) l.below) (map kind_of_known (drop l.component-index l.component-items)) l.frozen.keys ≡
    with_kinds_frozen (with_record_frozen (map known_type_form l.types) l.below) (map kind_of_known l.component-items) l.initial.frozen.keys)
