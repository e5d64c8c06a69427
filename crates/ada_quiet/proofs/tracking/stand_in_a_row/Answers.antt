-- Where a number would pass every count, what is left does not end with this one.
use Rattle.std.proofs.Common.{◌≡◌, ℕ, ◌+◌, ◌<◌, false, List, [], ◌∷◌, length, get_or, map, drop, sym, ap, ◌∙◌, arith}
use Rattle.std.proofs.lemmas.Grind.{common_steps}
use Rattle.std.proofs.lemmas.List.{at_drop_more}
use Rattle.ada_program.specs.declared.program.Part.{Part}
use Rattle.ada_program.specs.Kept.{types_in}
use Rattle.ada_program.specs.ProgramForm.{PartForm, TypeForm, part_form}
use Rattle.ada_quiet.specs.InUse.{size_of_part, stand_in_a_row}
use Rattle.ada_quiet.proofs.tracking.stand_in_a_row.Goals as goal

-- numbers do not fall: past the count, they do not end with it
past : (types : List TypeForm) (from : ℕ) (ps : List PartForm) (count : ℕ) → count < from → stand_in_a_row types from ps count ≡ false
past types from [] count over = grind (arith, common_steps)
past types from (p ∷ ps) count over =
    let more = past types (from + size_of_part types p.kind) ps count (omega (arith, over)) in grind (arith, common_steps, more)

-- a component that has more elementary ones than are left
too_many : (types : List TypeForm) (from : ℕ) (ps : List Part) (count n : ℕ) (p : Part) → n < length ps → p ≡ get_or ps n p
    → count < from + size_of_part types p.kind → stand_in_a_row types from (map part_form (drop n ps)) count ≡ false
too_many types from ps count n p inside there over =
    at_drop_more (λ qs. stand_in_a_row types from (map part_form qs) count) ps n p inside
    ∙ ap (λ q. stand_in_a_row types from (map part_form (q ∷ drop (n + 1) ps)) count) (sym there)
    ∙ (let more = past types (from + size_of_part types p.kind) (map part_form (drop (n + 1) ps)) count over in grind (arith, common_steps, more))

pub returns-in-None : goal.returns-in-None
returns-in-None c =
    sym (too_many (types_in c.args.types.now) c.parts.from c.args.parts.now c.args.count c.parts.part-index c.part-item.result
    c.parts-test.true c.part-item.is (let wide = c.in-None.ensures in let fits = c.ranges.count.fits in omega (arith, c.size_of_part.ensures, wide, fits)))
    ∙ c.parts.invariant
