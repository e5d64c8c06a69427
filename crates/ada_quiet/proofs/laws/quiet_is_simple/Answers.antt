use Rattle.ada_quiet.proofs.QuietSimple.{simple_body}
use Rattle.ada_quiet.proofs.laws.quiet_is_simple.Goals as goal

pub returns : goal.returns
returns c = simple_body
