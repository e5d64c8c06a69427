use Rattle.std.proofs.Common.{ℕ, ◌+◌, ◌-◌, sym, subst, arith}
use Rattle.ada_final.specs.Linked.{places, StandsAt}
use Rattle.ada_final.proofs.Following.{Walked, walked, stands_in, taken_in}
use Rattle.ada_final.proofs.chain.Chain.place_at.Goals as goal

pub overflow_sub-name : goal.overflow_sub-name
overflow_sub-name g c =
    let w = g.P.Pool.user_word c.args.pool.now in let test = c.loop-passed-test.true in let all = c.requires.less in
    let x = walked w (places w c.args.self.now) c.loop-passed.passed c.loop-passed.name c.loop-passed.invariant.0 (omega arith) in x.1

pub link-name-requires : goal.link-name-requires
link-name-requires g c =
    let w = g.P.Pool.user_word c.args.pool.now in let test = c.loop-passed-test.true in let all = c.requires.less in
    let x = walked w (places w c.args.self.now) c.loop-passed.passed c.loop-passed.name c.loop-passed.invariant.0 (omega arith) in
    let t = taken_in (g.P.Pool.tiling c.args.pool.now) (places w c.args.self.now) (c.loop-passed.name - 1) c.requires.chain.taken (stands_in c.loop-passed.passed (c.loop-passed.name - 1) (places w c.args.self.now) x.0) in
    let long = t.0 in (omega arith, omega arith)

pub loop-passed-preserved : goal.loop-passed-preserved
loop-passed-preserved g c =
    let w = g.P.Pool.user_word c.args.pool.now in let test = c.loop-passed-test.true in let all = c.requires.less in
    let x = walked w (places w c.args.self.now) c.loop-passed.passed c.loop-passed.name c.loop-passed.invariant.0 (omega arith) in
    (subst (Walked w (places w c.args.self.now) (c.loop-passed.passed + 1)) (sym c.link-name.ensures) x.2, omega arith)

pub overflow_sub-result : goal.overflow_sub-result
overflow_sub-result g c =
    let w = g.P.Pool.user_word c.args.pool.now in let all = c.requires.less in let low = c.loop-passed.invariant.1 in
    (walked w (places w c.args.self.now) c.loop-passed.passed c.loop-passed.name c.loop-passed.invariant.0 (omega arith)).1

pub returns : goal.returns
returns g c =
    let w = g.P.Pool.user_word c.args.pool.now in let all = c.requires.less in let low = c.loop-passed.invariant.1 in
    let test = c.loop-passed-test.false in
    let x = walked w (places w c.args.self.now) c.loop-passed.passed c.loop-passed.name c.loop-passed.invariant.0 (omega arith) in
    subst (λ (i : ℕ). StandsAt i (c.loop-passed.name - 1) (places w c.args.self.now)) (omega arith) x.0
