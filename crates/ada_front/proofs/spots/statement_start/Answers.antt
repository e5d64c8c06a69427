use Rattle.std.proofs.Common.{sym}
use Rattle.ada_tree.specs.StatementView.{block_view}
use Rattle.ada_front.specs.Spots.{statement_start}
use Rattle.ada_front.proofs.Views.{begin_view}
use Rattle.ada_front.proofs.spots.statement_start.Goals as goal

pub returns-in-Block : goal.returns-in-Block
unfolding statement_start
returns-in-Block c = rw (c.in-Block.is, block_view c.in-Block.body) (sym (begin_view c.in-Block.body))
