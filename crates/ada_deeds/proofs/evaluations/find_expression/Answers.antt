use Rattle.ada_deeds.specs.Follows.{expression_follows}
use Rattle.ada_deeds.proofs.Seeking.{finds_followed}
use Rattle.ada_effects.specs.Effects.{expression_raises}
use Rattle.ada_program.specs.Form.{expression_form}
use Rattle.ada_program.specs.Kept.{types_in, variables_in}
use Rattle.ada_deeds.proofs.evaluations.find_expression.Goals as goal

-- the access types that are followed are listed
pub returns-in-Others : goal.returns-in-Others
returns-in-Others c =
    let form = expression_form c.args.expression.now in
    finds_followed c.follow_expression.result c.args.search c.args.found.now c.follow_expression.new.followed (expression_raises form)
    (λ t. expression_follows (types_in c.args.types.now) (variables_in c.args.variables.now) t form) c.in-Others.is c.follow_expression.ensures
