use Rattle.std.proofs.Common.{◌≡◌, ℕ, ◌+◌, ◌-◌, set, false, sym, ap, ◌∙◌, subst, arith, Contains, Some}
use Rattle.pool_tiles.specs.Tiling.{closed}
use Rattle.pool_kinds.specs.Kinds.{open_from, without}
use Rattle.pool_kinds.specs.Marked.{Subpools}
use Rattle.pool_kinds.proofs.Numbers.{has_flag, without_is, stays_open}
use Rattle.pool_kinds.proofs.subpools.SubpoolPoolPool.close.Goals as goal

pub overflow_sub-owner : goal.overflow_sub-owner
overflow_sub-owner c =
    let x = has_flag 1 c.self.inside.flags.items c.args.owner.0 (subst (λ (p : Subpools). Contains p.owners c.args.owner.0) (sym c.self.view_is) c.requires) in
    omega (arith, x.0)

pub index_mut-requires : goal.index_mut-requires
index_mut-requires c =
    let x = has_flag 1 c.self.inside.flags.items c.args.owner.0 (subst (λ (p : Subpools). Contains p.owners c.args.owner.0) (sym c.self.view_is) c.requires) in
    omega (arith, x.0, x.1)

pub returns-clause-closed : goal.returns-clause-closed
returns-clause-closed c =
    let flags = c.self.inside.flags.items in let w = c.args.owner.0 in
    let x = has_flag 1 flags w (subst (λ (p : Subpools). Contains p.owners w) (sym c.self.view_is) c.requires) in
    let at : w ≡ 1 + (w - 1) = omega (arith, x.0) in
    ap (λ (p : Subpools). Some (closed w p.tiles, without w p.owners)) (sym c.self.view_is)
    ∙ ap (λ (n : ℕ). Some (closed w c.self.inside.words.tiles, without n (open_from 1 flags))) at
    ∙ ap (λ ns. Some (closed w c.self.inside.words.tiles, ns)) (without_is 1 flags (w - 1) (omega (arith, x.0, x.1)) x.2)
    ∙ ap (λ ts. Some (ts, open_from 1 (set flags (w - 1) false))) (sym c.close.ensures.tiles)

pub returns-clause-still_open : goal.returns-clause-still_open
returns-clause-still_open c other away is_open =
    let flags = c.self.inside.flags.items in let w = c.args.owner.0 in
    let x = has_flag 1 flags w (subst (λ (p : Subpools). Contains p.owners w) (sym c.self.view_is) c.requires) in
    stays_open flags (w - 1) false other (omega (arith, x.0, x.1)) (λ e. absurd (away (omega (arith, e, x.0)))) (subst (λ (q : Subpools). Contains q.owners other) (sym c.self.view_is) is_open)
