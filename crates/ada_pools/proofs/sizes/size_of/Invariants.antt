-- The sizes that are left give what all of them give.
use Rattle.std.proofs.Common.{◌≡◌, drop}
use Rattle.ada_pools.specs.Sizes.{size_of, size_among}
use Rattle.ada_pools.proofs.sizes.size_of.Given as goal

abbrev pub invariant-loop-size : goal.invariant-loop-size
invariant-loop-size l = size_among l.pool (drop l.size-index l.sizes) l.words ≡ size_of l.sizes l.pool
