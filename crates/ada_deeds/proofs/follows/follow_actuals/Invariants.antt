use Rattle.std.proofs.Common.{◌≡◌, ℕ, ◌||◌, drop, map}
use Rattle.ada_deeds.specs.Follows.{actuals_follow}
use Rattle.ada_effects.specs.Found.{has_number}
use Rattle.ada_program.specs.Form.{actual_form}
use Rattle.ada_program.specs.Kept.{types_in, variables_in}
use Rattle.ada_deeds.proofs.follows.follow_actuals.Given as goal

-- what is left tells of all
abbrev pub invariant-actuals : goal.invariant-actuals
invariant-actuals l = (t : ℕ) →
    (has_number l.followed.items t || actuals_follow (types_in l.types) (variables_in l.variables) t (map actual_form (drop l.actual-index l.actuals)))
    ≡ (has_number l.fn.followed.items t || actuals_follow (types_in l.types) (variables_in l.variables) t (map actual_form l.actuals))
