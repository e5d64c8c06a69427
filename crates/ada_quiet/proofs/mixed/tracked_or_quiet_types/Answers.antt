-- With each type of the table it is known of one more.
use Rattle.std.proofs.Common.{arith}
use Rattle.ada_quiet.proofs.CalmTypes.{known_of_one_more, known_of_all}
use Rattle.ada_quiet.proofs.mixed.tracked_or_quiet_types.Goals as goal

pub numbered-preserved : goal.numbered-preserved
numbered-preserved c =
    known_of_one_more _ c.args.program.now.types.items c.deref.result.now c.deref.ensures.value c.in_ok-numbered.numbered.items
    c.deref-definition-items.result.now c.deref-definition-items.ensures.value c.in_ok-numbered.ensures
    c.numbered.definition-index c.numbered-test.true c.definition-item.result c.definition-item.is c.numbered.tracked_or_quiet.items
    c.deref-in-numbered.result.now c.push.new.self.items
    c.in_ok-is_so.is_so c.deref-in-numbered.ensures.value c.in_ok-push.ensures.items c.numbered.invariant c.in_ok-is_so.ensures

pub returns : goal.returns
returns c =
    known_of_all _ c.args.program.now.types.items c.deref.result.now c.deref.ensures.value c.in_ok-numbered.numbered.items
    c.deref-definition-items.result.now c.deref-definition-items.ensures.value c.in_ok-numbered.ensures
    c.numbered.definition-index c.numbered.tracked_or_quiet.items (omega arith) c.numbered.invariant
