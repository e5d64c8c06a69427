use Rattle.std.proofs.Common.{subst, sym}
use Rattle.pool_tests.specs.Held.{Holds}
use Rattle.pool_tests.specs.declared.mixed.Held.{Held}
use Rattle.pool_tests.proofs.Holding.{added}
use Rattle.pool_tests.proofs.mixed.Mixed.take.Goals as goal

pub invariant_of-self-in_err-push : goal.invariant_of-self-in_err-push
invariant_of-self-in_err-push c =
    let held : Held = record { place = c.in-Ok.place; words = c.args.words; mark = c.args.mark; length = c.unwrap_or-expected.result.1 } in
    let both = added c.self.inside.pool.tiles c.allocate.new.self.tiles c.self.inside.held.items held c.self.invariant c.in-Ok.ensures.fresh c.in-Ok.ensures.room c.in-Ok.ensures.stay in
    subst (λ ts. Holds ts c.push.new.self.items) (sym c.write_mark.ensures)
    (subst (λ hs. Holds c.allocate.new.self.tiles hs) (sym c.in_err-push.ensures.items) both.0)

pub invariant_of-self-2 : goal.invariant_of-self-2
invariant_of-self-2 c =
    let held : Held = record { place = c.in-Ok.place; words = c.args.words; mark = c.args.mark; length = c.unwrap_or-expected.result.1 } in
    let both = added c.self.inside.pool.tiles c.allocate.new.self.tiles c.self.inside.held.items held c.self.invariant c.in-Ok.ensures.fresh c.in-Ok.ensures.room c.in-Ok.ensures.stay in
    subst (λ ts. Holds ts c.push.new.self.items) (sym c.write_mark.ensures)
    (subst (λ hs. Holds c.allocate.new.self.tiles hs) (sym c.in_ok-push.ensures.items) both.1)
