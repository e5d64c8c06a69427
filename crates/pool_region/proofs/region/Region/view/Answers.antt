use Rattle.std.proofs.Common.{ℕ, ◌+◌, ◌≤◌, length, List, take, drop, sym, ap, ◌∙◌, arith}
use Rattle.pool_region.specs.Places.{somes}
use Rattle.pool_region.proofs.Words.{full_run, part_is, slice_range-part}
use Rattle.pool_region.proofs.region.Region.view.Goals as goal

pub slice-requires : goal.slice-requires
slice-requires c =
    let within : c.args.place + c.args.n ≤ length (somes c.self.inside.cells.slots) = omega (arith, ap length c.self.view_is) in
    (sym c.self.invariant.0, full_run c.self.inside.cells.slots c.args.place c.args.n c.self.invariant.1 within)

pub returns : goal.returns
returns c =
    part_is c.self.inside.cells.slots c.args.place c.args.n c.slice.result.now c.self.invariant.1 c.slice.ensures
    ∙ ap (λ (ws : List ℕ). take c.args.n (drop c.args.place ws)) c.self.view_is ∙ slice_range-part c.args.self.now c.args.place c.args.n
