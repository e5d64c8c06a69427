use Rattle.ada_deeds.specs.Follows.{path_follows}
use Rattle.ada_deeds.proofs.Seeking.{finds_followed}
use Rattle.ada_effects.specs.Effects.{path_raises}
use Rattle.ada_program.specs.Form.{path_form}
use Rattle.ada_program.specs.Kept.{types_in, variables_in}
use Rattle.ada_deeds.proofs.evaluations.find_path.Goals as goal

-- the access types that are followed are listed
pub returns-in-Others : goal.returns-in-Others
returns-in-Others c =
    let form = path_form c.args.path.now in
    finds_followed c.follow_path.result c.args.search c.args.found.now c.follow_path.new.followed (path_raises form)
    (λ t. path_follows (types_in c.args.types.now) (variables_in c.args.variables.now) t form) c.in-Others.is c.follow_path.ensures
