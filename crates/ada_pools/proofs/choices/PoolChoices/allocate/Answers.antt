-- The pool has room and the object gets its block, or it has none; and this is not the request that is refused.
use Rattle.std.proofs.Common.{◌≡◌, ◌∙◌, sym, subst, ℕ, nat_eq, true, false, Option, Some}
use Rattle.std.specs.HashMap.{get}
use Rattle.std.specs.List.{slice_get}
use Rattle.pool_tiles.specs.Tiling.{fit, block_words}
use Rattle.ada_meaning.specs.declared.state.Value.TheVariants.{Names}
use Rattle.ada_pools.specs.Held.{TakesIn}
use Rattle.ada_pools.specs.Runner.{Runner, tiling, allocated}
use Rattle.ada_pools.specs.View.{runner_of, runner_with}
use Rattle.ada_pools.proofs.Tables.{map_updated}
use Rattle.ada_pools.proofs.Views.{allocates, refuses, granted_else, is_none}
use Rattle.ada_pools.proofs.choices.PoolChoices.allocate.Goals as goal

pub returns-in_default : goal.returns-in_default
returns-in_default c =
    let before = c.count.new.self in
    let after : Runner = runner_with before.until before.sizes.items c.take_in.new.pools.items (get nat_eq before.blocks) in
    rw (granted_else c.args.pool c.args.words (runner_of c.args.self.now) (sym c.count.ensures.refused ∙ c.if-count.false))
    (subst (λ (r : Runner). allocated c.args.pool (Names c.args.object) (fit 0 (block_words c.args.words) (tiling c.args.pool r)) r ≡ (false, after)) c.count.ensures.counted
    (refuses before.until before.sizes.items before.pools.items c.take_in.new.pools.items (get nat_eq before.blocks) c.args.pool c.args.words c.args.object
    (subst (λ (place : Option ℕ). TakesIn c.args.pool c.args.words c.args.object.0 before.pools.items (slice_get before.pools.items c.args.pool) place c.take_in.new.pools.items)
    (is_none c.in_ok-place.field-0 c.in_default.not-Some) c.in_ok-place.ensures)))

pub returns : goal.returns
returns c =
    let before = c.count.new.self in
    let after : Runner = runner_with before.until before.sizes.items c.take_in.new.pools.items (get nat_eq c.insert.new.self) in
    rw (granted_else c.args.pool c.args.words (runner_of c.args.self.now) (sym c.count.ensures.refused ∙ c.if-count.false))
    (subst (λ (r : Runner). allocated c.args.pool (Names c.args.object) (fit 0 (block_words c.args.words) (tiling c.args.pool r)) r ≡ (true, after)) c.count.ensures.counted
    (allocates before.until before.sizes.items before.pools.items c.take_in.new.pools.items (get nat_eq before.blocks) (get nat_eq c.insert.new.self) c.args.pool c.args.words c.in-Some.place c.args.object
    (subst (λ (place : Option ℕ). TakesIn c.args.pool c.args.words c.args.object.0 before.pools.items (slice_get before.pools.items c.args.pool) place c.take_in.new.pools.items)
    c.in-Some.is c.in_ok-place.ensures)
    (map_updated before.blocks c.insert.new.self c.args.object.0 (Some (record { pool = c.args.pool; place = c.in-Some.place })) c.in_ok-insert.ensures.updates)))
