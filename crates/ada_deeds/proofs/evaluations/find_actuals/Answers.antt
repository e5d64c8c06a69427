use Rattle.std.proofs.Common.{map}
use Rattle.ada_deeds.specs.Follows.{actuals_follow}
use Rattle.ada_deeds.proofs.Seeking.{finds_followed}
use Rattle.ada_effects.specs.Effects.{actuals_raise}
use Rattle.ada_program.specs.Form.{actual_form}
use Rattle.ada_program.specs.Kept.{types_in, variables_in}
use Rattle.ada_deeds.proofs.evaluations.find_actuals.Goals as goal

-- the access types that are followed are listed
pub returns-in-Others : goal.returns-in-Others
returns-in-Others c =
    let form = map actual_form c.args.actuals.now in
    finds_followed c.follow_actuals.result c.args.search c.args.found.now c.follow_actuals.new.followed (actuals_raise form)
    (λ t. actuals_follow (types_in c.args.types.now) (variables_in c.args.variables.now) t form) c.in-Others.is c.follow_actuals.ensures
