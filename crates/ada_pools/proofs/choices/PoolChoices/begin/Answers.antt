-- A new pool has no block.
use Rattle.std.proofs.Common.{nat_eq}
use Rattle.std.specs.HashMap.{get}
use Rattle.ada_pools.proofs.Views.{begins_one}
use Rattle.ada_pools.proofs.choices.PoolChoices.begin.Goals as goal

pub returns : goal.returns
returns c = rw (c.in_ok-push.ensures.items, c.in_ok-pool.ensures, c.size_at.ensures, c.deref.ensures.value) (begins_one c.args.self.now.until c.args.self.now.sizes.items c.args.self.now.pools.items (get nat_eq c.args.self.now.blocks) c.args.declaration.0)
