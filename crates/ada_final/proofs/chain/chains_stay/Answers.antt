use Rattle.ada_final.proofs.Following.{chain_kept}
use Rattle.ada_final.proofs.chain.chains_stay.Goals as goal

pub returns : goal.returns
returns c = chain_kept
