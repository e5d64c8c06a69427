use Rattle.ada_flow.proofs.Called.{something_raised}
use Rattle.ada_flow.proofs.calls.raises_some.Goals as goal

pub returns-in-len1-up : goal.returns-in-len1-up
returns-in-len1-up c = something_raised c.args.effect.now.raises.items (rw c.as_slice.ensures.value at c.in-len1-up.len_at_least)
