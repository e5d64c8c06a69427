use Rattle.std.proofs.Common.{ℕ, ◌+◌, ◌≤◌, length, take, drop, get_or, List, sym, ap, ◌∙◌, arith}
use Rattle.pool_region.specs.Places.{somes}
use Rattle.pool_region.proofs.Words.{full_run, part_is, get_or-part}
use Rattle.pool_region.proofs.region.Region.get.Goals as goal

pub slice-requires : goal.slice-requires
slice-requires c =
    let within : c.args.place + 1 ≤ length (somes c.self.inside.cells.slots) = omega (arith, ap length c.self.view_is) in
    (sym c.self.invariant.0, full_run c.self.inside.cells.slots c.args.place 1 c.self.invariant.1 within)

pub returns : goal.returns
returns c =
    let is = part_is c.self.inside.cells.slots c.args.place 1 c.slice.result.now c.self.invariant.1 c.slice.ensures in
    ap (λ (xs : List ℕ). get_or xs 0 0) (is ∙ ap (λ (ws : List ℕ). take 1 (drop c.args.place ws)) c.self.view_is) ∙ get_or-part c.args.self.now c.args.place
