use Rattle.std.proofs.Common.{arith, ◌∙◌}
use Rattle.ada_tree.specs.StatementView.{declarations_of}
use Rattle.ada_front.proofs.Settling.{settled_first, settled_more, settled_whole}
use Rattle.ada_front.proofs.settle.settle.Goals as goal

-- none is settled yet
pub loop-at-init : goal.loop-at-init
loop-at-init c =
    (settled_first c.args.declarations.now.items c.len-at.result (c.len-at.ensures ∙ c.args.declarations.now.ok.0), omega (arith, c.len-at.ensures))

-- one more is
pub loop-at-preserved : goal.loop-at-preserved
loop-at-preserved c = (
  settled_more c.loop-at.at (declarations_of c.args.declarations.now.items) (declarations_of c.loop-at.declarations.items)
      (declarations_of c.settle_at.new.declarations.items) c.loop-at-test.true c.loop-at.invariant.0 c.settle_at.ensures.settled,
  c.settle_at.ensures.room,
)

-- all are
pub returns : goal.returns
returns c =
    settled_whole c.loop-at.at (declarations_of c.args.declarations.now.items) (declarations_of c.loop-at.declarations.items) c.loop-at-test.false
    c.loop-at.invariant.0
