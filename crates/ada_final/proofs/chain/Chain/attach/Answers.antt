use Rattle.std.proofs.Common.{◌≡◌, ◌+◌, refl, sym, subst, arith}
use Rattle.ada_final.specs.Linked.{places}
use Rattle.ada_final.specs.declared.chain.Chain.{Chain}
use Rattle.ada_final.proofs.Following.{few_places, length_followed, Sets, sets_by, sets_none, attach_done}
use Rattle.ada_final.proofs.chain.Chain.attach.Goals as goal
use Rattle.ada_final.proofs.chain.Chain.attach.Goals.{then-self-ne0, else-self-ne0}

pub overflow_add-self : goal.overflow_add-self
overflow_add-self g c =
    let w = g.P.Pool.user_word c.args.pool.now in let h = c.requires.chain in
    let few = few_places (g.P.Pool.tiling c.args.pool.now) (places w c.args.self.now) h.once h.taken in
    let count = length_followed c.args.self.now.left c.args.self.now.newest w in omega arith

pub returns-clause-chain : goal.returns-clause-chain
returns-clause-chain g c =
    let t0 = g.P.Pool.tiling c.args.pool.now in let t2 = g.P.Pool.tiling c.set_link-2.new.self in
    let w = g.P.Pool.user_word c.args.pool.now in let w1 = g.P.Pool.user_word c.set_link.new.self in let w2 = g.P.Pool.user_word c.set_link-2.new.self in
    let newest = c.args.self.now.newest in let place = c.args.place.0 in
    let last = elim c.if-self-ne0.branch as (λ _. (g.P.Pool.tiling c.if-self-ne0.pool ≡ t2) × Sets t2 w2 (g.P.Pool.user_word c.if-self-ne0.pool) newest 1 (place + 1)) [
      | then-self-ne0 x ↦ let ne = x.if-self-ne0.true in let e = x.set_link-then-self-ne0.ensures in
          subst (λ q. (g.P.Pool.tiling q ≡ t2) × Sets t2 w2 (g.P.Pool.user_word q) newest 1 (place + 1)) (sym x.pool-is)
          (e.tiling, sets_by t2 (g.P.Pool.tiling x.set_link-then-self-ne0.new.self) w2 (g.P.Pool.user_word x.set_link-then-self-ne0.new.self) newest 1 (place + 1) (omega arith) e.tiling e.written e.kept)
      | else-self-ne0 x ↦ let zero_is = x.if-self-ne0.false in
          subst (λ q. (g.P.Pool.tiling q ≡ t2) × Sets t2 w2 (g.P.Pool.user_word q) newest 1 (place + 1)) (sym x.pool-is) (refl, sets_none t2 w2 newest 1 (place + 1) (omega arith))
    ] in
    let d : Chain = record { newest = place + 1; left = c.args.self.now.left + 1 } in
    (attach_done t0 (g.P.Pool.tiling c.set_link.new.self) t2 (g.P.Pool.tiling c.if-self-ne0.pool) w w1 w2 (g.P.Pool.user_word c.if-self-ne0.pool) c.args.self.now d place
    c.requires.chain c.set_link.ensures.inside c.requires.out c.set_link.ensures.tiling c.set_link.ensures.written c.set_link.ensures.kept
    c.set_link-2.ensures.tiling c.set_link-2.ensures.written c.set_link-2.ensures.kept last.0 last.1 refl refl).chain

pub returns-clause-places : goal.returns-clause-places
returns-clause-places g c =
    let t0 = g.P.Pool.tiling c.args.pool.now in let t2 = g.P.Pool.tiling c.set_link-2.new.self in
    let w = g.P.Pool.user_word c.args.pool.now in let w1 = g.P.Pool.user_word c.set_link.new.self in let w2 = g.P.Pool.user_word c.set_link-2.new.self in
    let newest = c.args.self.now.newest in let place = c.args.place.0 in
    let last = elim c.if-self-ne0.branch as (λ _. (g.P.Pool.tiling c.if-self-ne0.pool ≡ t2) × Sets t2 w2 (g.P.Pool.user_word c.if-self-ne0.pool) newest 1 (place + 1)) [
      | then-self-ne0 x ↦ let ne = x.if-self-ne0.true in let e = x.set_link-then-self-ne0.ensures in
          subst (λ q. (g.P.Pool.tiling q ≡ t2) × Sets t2 w2 (g.P.Pool.user_word q) newest 1 (place + 1)) (sym x.pool-is)
          (e.tiling, sets_by t2 (g.P.Pool.tiling x.set_link-then-self-ne0.new.self) w2 (g.P.Pool.user_word x.set_link-then-self-ne0.new.self) newest 1 (place + 1) (omega arith) e.tiling e.written e.kept)
      | else-self-ne0 x ↦ let zero_is = x.if-self-ne0.false in
          subst (λ q. (g.P.Pool.tiling q ≡ t2) × Sets t2 w2 (g.P.Pool.user_word q) newest 1 (place + 1)) (sym x.pool-is) (refl, sets_none t2 w2 newest 1 (place + 1) (omega arith))
    ] in
    let d : Chain = record { newest = place + 1; left = c.args.self.now.left + 1 } in
    (attach_done t0 (g.P.Pool.tiling c.set_link.new.self) t2 (g.P.Pool.tiling c.if-self-ne0.pool) w w1 w2 (g.P.Pool.user_word c.if-self-ne0.pool) c.args.self.now d place
    c.requires.chain c.set_link.ensures.inside c.requires.out c.set_link.ensures.tiling c.set_link.ensures.written c.set_link.ensures.kept
    c.set_link-2.ensures.tiling c.set_link-2.ensures.written c.set_link-2.ensures.kept last.0 last.1 refl refl).is

pub returns-clause-others : goal.returns-clause-others
returns-clause-others g c =
    let t0 = g.P.Pool.tiling c.args.pool.now in let t2 = g.P.Pool.tiling c.set_link-2.new.self in
    let w = g.P.Pool.user_word c.args.pool.now in let w1 = g.P.Pool.user_word c.set_link.new.self in let w2 = g.P.Pool.user_word c.set_link-2.new.self in
    let newest = c.args.self.now.newest in let place = c.args.place.0 in
    let last = elim c.if-self-ne0.branch as (λ _. (g.P.Pool.tiling c.if-self-ne0.pool ≡ t2) × Sets t2 w2 (g.P.Pool.user_word c.if-self-ne0.pool) newest 1 (place + 1)) [
      | then-self-ne0 x ↦ let ne = x.if-self-ne0.true in let e = x.set_link-then-self-ne0.ensures in
          subst (λ q. (g.P.Pool.tiling q ≡ t2) × Sets t2 w2 (g.P.Pool.user_word q) newest 1 (place + 1)) (sym x.pool-is)
          (e.tiling, sets_by t2 (g.P.Pool.tiling x.set_link-then-self-ne0.new.self) w2 (g.P.Pool.user_word x.set_link-then-self-ne0.new.self) newest 1 (place + 1) (omega arith) e.tiling e.written e.kept)
      | else-self-ne0 x ↦ let zero_is = x.if-self-ne0.false in
          subst (λ q. (g.P.Pool.tiling q ≡ t2) × Sets t2 w2 (g.P.Pool.user_word q) newest 1 (place + 1)) (sym x.pool-is) (refl, sets_none t2 w2 newest 1 (place + 1) (omega arith))
    ] in
    let d : Chain = record { newest = place + 1; left = c.args.self.now.left + 1 } in
    (attach_done t0 (g.P.Pool.tiling c.set_link.new.self) t2 (g.P.Pool.tiling c.if-self-ne0.pool) w w1 w2 (g.P.Pool.user_word c.if-self-ne0.pool) c.args.self.now d place
    c.requires.chain c.set_link.ensures.inside c.requires.out c.set_link.ensures.tiling c.set_link.ensures.written c.set_link.ensures.kept
    c.set_link-2.ensures.tiling c.set_link-2.ensures.written c.set_link-2.ensures.kept last.0 last.1 refl refl).others
