use Rattle.ada_deeds.specs.Follows.{condition_follows}
use Rattle.ada_deeds.proofs.Seeking.{finds_followed}
use Rattle.ada_effects.specs.Effects.{condition_raises}
use Rattle.ada_program.specs.Form.{condition_form}
use Rattle.ada_program.specs.Kept.{types_in, variables_in}
use Rattle.ada_deeds.proofs.evaluations.find_condition.Goals as goal

-- the access types that are followed are listed
pub returns-in-Others : goal.returns-in-Others
returns-in-Others c =
    let form = condition_form c.args.condition.now in
    finds_followed c.follow_condition.result c.args.search c.args.found.now c.follow_condition.new.followed (condition_raises form)
    (λ t. condition_follows (types_in c.args.types.now) (variables_in c.args.variables.now) t form) c.in-Others.is c.follow_condition.ensures
