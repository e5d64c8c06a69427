-- What is frozen with a record type.
use Rattle.std.proofs.Common.{◌≡◌, ◌∙◌, ◌≤◌, ◌-◌, List, ℕ, map, length, false, rules, ap}
use Rattle.ada_resolve.specs.Instances.{is_among, with_kinds_frozen, with_record_frozen}
use Rattle.ada_resolve.specs.Kept.{kind_of_known, known_type_form}
use Rattle.ada_resolve.proofs.Specified.{frozen_whole}
use Rattle.ada_resolve.proofs.instances.+freeze_record.Goals as goal

pub returns-clause-added : goal.returns-clause-added
returns-clause-added t c =
    let new : is_among c.args.number.0 c.args.frozen.now.keys ≡ false = search rules in
    let end : length c.declared_in-component-items.result.now ≤ c.parts.component-index = search rules in
    let types = map known_type_form c.args.types.now in
    frozen_whole types c.args.levels (c.args.levels - 1) c.args.number.0 c.args.frozen.now.keys _ c.declared_in-component-items.result.now
    c.parts.component-index c.parts.invariant.0 new c.declared_in-component-items.ensures
    (c.parts.invariant.1 ∙ ap (λ (frozen : List ℕ). with_kinds_frozen (with_record_frozen types (c.args.levels - 1)) (map kind_of_known c.declared_in-component-items.result.now) frozen) c.in_ok-freeze.ensures.added) end
