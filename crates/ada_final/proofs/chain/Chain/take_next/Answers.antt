use Rattle.std.proofs.Common.{◌∙◌, arith}
use Rattle.ada_final.specs.Linked.{places}
use Rattle.ada_final.proofs.Following.{length_followed, stands_in, stands_get, stands_removed}
use Rattle.ada_final.proofs.chain.Chain.take_next.Goals as goal

pub returns-then-i-self-clause-some : goal.returns-then-i-self-clause-some
returns-then-i-self-clause-some g c =
    let count = length_followed c.args.self.now.left c.args.self.now.newest (g.P.Pool.user_word c.args.pool.now) in let past = c.if-i-self.true in
    ((λ e. cc), (λ less. absurd (omega arith)))

pub place_at-place-requires-clause-less : goal.place_at-place-requires-clause-less
place_at-place-requires-clause-less g c =
    let count = length_followed c.args.self.now.left c.args.self.now.newest (g.P.Pool.user_word c.args.pool.now) in let less = c.if-i-self.false in omega arith

pub detach-requires-clause-inside : goal.detach-requires-clause-inside
detach-requires-clause-inside g c =
    stands_in c.args.i c.place_at-place.result.0 (places (g.P.Pool.user_word c.args.pool.now) c.args.self.now) c.place_at-place.ensures

pub returns-clause-item : goal.returns-clause-item
returns-clause-item g c =
    stands_get c.args.i c.place_at-place.result.0 (places (g.P.Pool.user_word c.args.pool.now) c.args.self.now) c.place_at-place.ensures

pub returns-clause-places : goal.returns-clause-places
returns-clause-places g c =
    c.detach.ensures.places
    ∙ stands_removed c.args.i c.place_at-place.result.0 (places (g.P.Pool.user_word c.args.pool.now) c.args.self.now) c.place_at-place.ensures c.requires.once
