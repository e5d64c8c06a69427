use Rattle.std.proofs.Common.{◌≡◌, Some}
use Rattle.ada_program.specs.Kept.{types_in}
use Rattle.ada_program.specs.WellFormed.{finalization_in}
use Rattle.ada_quiet.specs.Apart.{leaves_access}
use Rattle.ada_quiet.specs.Calm.{calm_up_to}
use Rattle.ada_quiet.proofs.mixed.untracked_types.Given as goal

-- it is known of those types that were passed
abbrev pub invariant-numbered : goal.invariant-numbered
invariant-numbered l = l.untracked.items ≡ calm_up_to (λ t. leaves_access t (finalization_in (Some t))) (types_in l.types) l.definition-index
