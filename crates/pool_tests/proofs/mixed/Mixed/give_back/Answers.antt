use Rattle.std.proofs.Common.{subst, sym, arith}
use Rattle.pool_tests.specs.Held.{Holds}
use Rattle.pool_tests.proofs.Holding.{taken_out, holds_kept}
use Rattle.pool_tests.proofs.mixed.Mixed.give_back.Goals as goal

pub has_mark-is_marked-requires : goal.has_mark-is_marked-requires
has_mark-is_marked-requires c =
    (taken_out c.self.inside.pool.tiles c.self.inside.held.items c.args.index c.remove-held.result
    (omega (arith, c.requires, c.self.view_is)) c.remove-held.ensures.value c.self.invariant).0

pub give_back-requires : goal.give_back-requires
give_back-requires c =
    let room = (taken_out c.self.inside.pool.tiles c.self.inside.held.items c.args.index c.remove-held.result
    (omega (arith, c.requires, c.self.view_is)) c.remove-held.ensures.value c.self.invariant).0 in omega arith

pub invariant_of-self : goal.invariant_of-self
invariant_of-self c =
    let out = taken_out c.self.inside.pool.tiles c.self.inside.held.items c.args.index c.remove-held.result
    (omega (arith, c.requires, c.self.view_is)) c.remove-held.ensures.value c.self.invariant in
    subst (λ hs. Holds c.give_back.new.self.tiles hs) (sym c.remove-held.ensures.items)
    (holds_kept c.self.inside.pool.tiles c.give_back.new.self.tiles c.remove-held.result.place.0 _ out.1 c.give_back.ensures.stay out.2)
