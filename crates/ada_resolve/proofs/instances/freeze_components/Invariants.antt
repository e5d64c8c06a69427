use Rattle.std.proofs.Common.{◌≡◌, drop}
use Rattle.ada_resolve.specs.Instances.{with_components_frozen}
use Rattle.ada_resolve.proofs.instances.freeze_components.Given as goal

-- what is left, with those frozen so far, freezes as much as all
abbrev pub invariant-loop-component : goal.invariant-loop-component
invariant-loop-component l = with_components_frozen (drop l.component-index l.components) l.frozen.keys ≡ with_components_frozen l.components l.initial.frozen.keys
