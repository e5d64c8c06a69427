-- The block goes back if the object has it still.
use Rattle.std.proofs.Common.{nat_eq, None}
use Rattle.std.specs.HashMap.{get}
use Rattle.ada_pools.proofs.Tables.{map_updated}
use Rattle.ada_pools.proofs.Views.{gives_back}
use Rattle.ada_pools.proofs.choices.PoolChoices.give_back.Goals as goal

pub returns : goal.returns
returns c =
    rw (c.put_back_in.ensures, c.remove-block.ensures.value)
    (gives_back c.args.self.now.until c.args.self.now.sizes.items c.args.self.now.pools.items (get nat_eq c.args.self.now.blocks) (get nat_eq c.remove-block.new.self) c.args.object
    (map_updated c.args.self.now.blocks c.remove-block.new.self c.args.object.0 None c.remove-block.ensures.updates))
