use Rattle.std.proofs.Common.{◌≡◌, ℕ, List, length, take, replicate, map, Option, Some, ap, ◌∙◌, subst, arith}
use Rattle.pool_region.specs.Places.{somes}
use Rattle.pool_region.proofs.Words.{full-map, all_same, somes-map}
use Rattle.pool_region.proofs.region.Region.new.Goals as goal

-- at the loop's end each place holds 0
zeros : (cs : List (Option ℕ)) (place n : ℕ) → place ≡ n → length cs ≡ n → take place cs ≡ replicate place (Some 0) → cs ≡ map Some (replicate n 0)
zeros cs place n end long written = all_same 0 cs n long (subst (λ (k : ℕ). take k cs ≡ replicate k (Some 0)) end written)

pub invariant_of-result : goal.invariant_of-result
invariant_of-result c =
    let cs = c.loop-place.cells.slots in let n = c.args.words in let made = c.in_ok-base.ensures in
    let all = zeros cs c.loop-place.place n (omega arith) c.loop-place.invariant.long c.loop-place.invariant.zeros in
    (c.loop-place.invariant.here, full-map cs (replicate n 0) all, c.loop-place.invariant.long, made.2, made.3, made.4)

pub returns : goal.returns
returns c =
    let cs = c.loop-place.cells.slots in
    ap somes (zeros cs c.loop-place.place c.args.words (omega arith) c.loop-place.invariant.long c.loop-place.invariant.zeros) ∙ somes-map (replicate c.args.words 0)
