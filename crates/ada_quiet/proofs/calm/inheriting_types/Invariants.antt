use Rattle.std.proofs.Common.{◌≡◌, Some}
use Rattle.ada_program.specs.Kept.{types_in}
use Rattle.ada_program.specs.WellFormed.{finalization_in}
use Rattle.ada_quiet.specs.Calm.{calm_up_to, inherits}
use Rattle.ada_quiet.proofs.calm.inheriting_types.Given as goal

-- it is known of those types that were passed
abbrev pub invariant-numbered : goal.invariant-numbered
invariant-numbered l = l.inheriting.items ≡ calm_up_to (λ t. inherits l.finalize (finalization_in (Some t))) (types_in l.types) l.definition-index
