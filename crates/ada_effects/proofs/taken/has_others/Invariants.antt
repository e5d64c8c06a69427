use Rattle.std.proofs.Common.{◌≡◌, drop}
use Rattle.ada_effects.specs.Taken.{has_others}
use Rattle.ada_effects.proofs.taken.has_others.Given as goal

-- what is left tells of all
abbrev pub invariant-choices : goal.invariant-choices
invariant-choices l = has_others (drop l.choice-index l.choices) ≡ has_others l.choices
