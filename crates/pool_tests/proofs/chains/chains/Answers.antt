use Rattle.pool_tests.proofs.chains.chains.Goals as goal

pub attach-requires-clause-chain : goal.attach-requires-clause-chain
attach-requires-clause-chain c = c.new-chain.ensures.chain _ _
