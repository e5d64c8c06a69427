use Rattle.ada_quiet.proofs.QuietFrugal.{frugal_body}
use Rattle.ada_quiet.proofs.laws.plain_is_frugal.Goals as goal

pub returns : goal.returns
returns c = frugal_body
