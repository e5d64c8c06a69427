use Rattle.std.proofs.Common.{sym}
use Rattle.ada_final.proofs.Following.{length_followed}
use Rattle.ada_final.proofs.chain.Chain.left.Goals as goal

pub returns : goal.returns
returns c word = sym (length_followed c.args.self.now.left c.args.self.now.newest word)
