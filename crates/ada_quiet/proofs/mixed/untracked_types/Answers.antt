-- With each type of the table it is known of one more.
use Rattle.std.proofs.Common.{arith, refl}
use Rattle.ada_quiet.proofs.CalmTypes.{known_of_one_more, known_of_all}
use Rattle.ada_quiet.proofs.mixed.untracked_types.Goals as goal

pub numbered-preserved : goal.numbered-preserved
numbered-preserved c =
    known_of_one_more _ c.args.types.now c.args.types.now refl c.in_ok-numbered.numbered.items c.deref-definition-items.result.now
    c.deref-definition-items.ensures.value c.in_ok-numbered.ensures
    c.numbered.definition-index c.numbered-test.true c.definition-item.result c.definition-item.is c.numbered.untracked.items
    c.deref.result.now c.push.new.self.items
    c.is_untracked_found-is_untracked.result c.deref.ensures.value c.in_ok-push.ensures.items c.numbered.invariant c.is_untracked_found-is_untracked.ensures

pub returns : goal.returns
returns c =
    known_of_all _ c.args.types.now c.args.types.now refl c.in_ok-numbered.numbered.items c.deref-definition-items.result.now
    c.deref-definition-items.ensures.value c.in_ok-numbered.ensures
    c.numbered.definition-index c.numbered.untracked.items (omega arith) c.numbered.invariant
