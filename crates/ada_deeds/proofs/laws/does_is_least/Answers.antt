use Rattle.ada_deeds.specs.Does.{does}
use Rattle.ada_deeds.proofs.More.{least}
use Rattle.ada_deeds.proofs.laws.does_is_least.Goals as goal

pub returns : goal.returns
returns c = record {
  closed = λ p d of known each c h. does of known each h;
  least = λ p d set closed c h. least p d set closed c h;
}
