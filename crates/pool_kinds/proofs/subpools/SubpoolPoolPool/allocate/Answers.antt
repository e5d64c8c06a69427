use Rattle.std.proofs.Common.{sym, subst, arith, Contains}
use Rattle.pool_kinds.specs.Marked.{Subpools}
use Rattle.pool_kinds.proofs.Numbers.{has_flag}
use Rattle.pool_kinds.proofs.subpools.SubpoolPoolPool.allocate.Goals as goal

pub take-requires-clause-number : goal.take-requires-clause-number
take-requires-clause-number c =
    let x = has_flag 1 c.self.inside.flags.items c.args.owner.0 (subst (λ (p : Subpools). Contains p.owners c.args.owner.0) (sym c.self.view_is) c.requires) in
    let all = c.self.invariant in omega (arith, x.1)
