use Rattle.std.proofs.Common.{◌≡◌, ℕ, ◌+◌, ◌≤◌, length, List, take, drop, refl, sym, ap, ◌∙◌, arith}
use Rattle.std.specs.List.{refill, length_refill}
use Rattle.std.specs.Prelude.{slice_range}
use Rattle.std.proofs.lemmas.List.{length-take, length-drop}
use Rattle.pool_region.specs.Places.{somes}
use Rattle.pool_region.specs.Lends.{spliced}
use Rattle.pool_region.specs.Region.{with_part}
use Rattle.pool_region.proofs.Words.{full_run, full-map, part_is, slice_range-part, somes-map, somes-part, spliced-full, length-spliced}
use Rattle.pool_region.proofs.region.Region.view_mut.Goals as goal

pub slice_mut-requires : goal.slice_mut-requires
slice_mut-requires c =
    let within : c.args.place + c.args.n ≤ length (somes c.self.inside.cells.slots) = omega (arith, ap length c.self.view_is) in
    (sym c.self.invariant.0, full_run c.self.inside.cells.slots c.args.place c.args.n c.self.invariant.1 within)

pub invariant_of-self-lent : goal.invariant_of-self-lent
invariant_of-self-lent c w =
    let cs = c.self.inside.cells.slots in let place = c.args.place in let n = c.args.n in let kept = c.self.invariant in
    let within : place + n ≤ length (somes cs) = omega (arith, ap length c.self.view_is) in
    let old = somes (take n (drop place cs)) in let ws = refill n old w in
    let long : n ≡ length old = omega (arith, ap length (somes-part cs place n kept.1), length-take n (drop place (somes cs)), length-drop place (somes cs)) in (
      kept.0,
      full-map (spliced cs place n ws) (with_part (somes cs) place n ws) (spliced-full cs place n kept.1 ws),
      length-spliced cs place n kept.1 ws within (length_refill n old w long) ∙ kept.2,
      kept.3,
      kept.4,
      kept.5,
    )

pub returns : goal.returns
returns c =
    let cs = c.self.inside.cells.slots in let place = c.args.place in let n = c.args.n in let full = c.self.invariant.1 in
    let part = ap (λ (ws : List ℕ). take n (drop place ws)) c.self.view_is ∙ slice_range-part c.args.self.now place n in (
      (
        refl,
        λ (w : List ℕ). let ws = refill n (somes (take n (drop place cs))) w in
            ap somes (spliced-full cs place n full ws) ∙ somes-map (with_part (somes cs) place n ws)
            ∙ ap (λ (old : List ℕ). with_part (somes cs) place n (refill n old w)) (somes-part cs place n full ∙ part)
            ∙ ap (λ (words : List ℕ). with_part words place n (refill n (slice_range c.args.self.now place (place + n)) w)) c.self.view_is,
      ),
      record { writes_back = tt; value = part_is cs place n c.slice_mut.result.now full c.slice_mut.ensures.value ∙ part },
    )
