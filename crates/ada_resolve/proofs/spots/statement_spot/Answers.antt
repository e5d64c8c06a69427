use Rattle.std.proofs.Common.{sym}
use Rattle.ada_tree.specs.StatementView.{block_view}
use Rattle.ada_resolve.specs.Spots.{statement_spot}
use Rattle.ada_resolve.proofs.Views.{begin_view}
use Rattle.ada_resolve.proofs.spots.statement_spot.Goals as goal

pub returns-in-Block : goal.returns-in-Block
unfolding statement_spot
returns-in-Block c = rw (c.in-Block.is, block_view c.in-Block.body) (sym (begin_view c.in-Block.body))
