-- The pools before it stay.
use Rattle.std.proofs.Common.{nat_eq}
use Rattle.std.specs.HashMap.{get}
use Rattle.ada_pools.proofs.Views.{ends_one}
use Rattle.ada_pools.proofs.choices.PoolChoices.end.Goals as goal

pub returns : goal.returns
returns c = rw c.truncate.ensures.items (ends_one c.args.self.now.until c.args.self.now.sizes.items c.args.self.now.pools.items (get nat_eq c.args.self.now.blocks) c.args.pool)
