-- Where a number would pass every count, what is left does not end with this one.
use Rattle.std.proofs.Common.{◌≡◌, ℕ, ◌+◌, ◌<◌, false, List, [], ◌∷◌, length, get_or, map, drop, sym, ap, ◌∙◌, arith}
use Rattle.std.proofs.lemmas.Grind.{common_steps}
use Rattle.std.proofs.lemmas.List.{at_drop_more}
use Rattle.ada_program.specs.declared.program.Part.{Part}
use Rattle.ada_program.specs.Kept.{types_in}
use Rattle.ada_program.specs.ProgramForm.{PartForm, TypeForm, part_form}
use Rattle.ada_program.specs.WellFormed.{parts_within, parts_in_order}
use Rattle.ada_program.proofs.parts.parts_in_order.Goals as goal

-- numbers do not fall: past the count, they do not end with it
past : (types : List TypeForm) (count from : ℕ) (ps : List PartForm) → count < from → parts_in_order types count from ps ≡ false
past types count from [] over = grind (arith, common_steps)
past types count from (p ∷ ps) over = let more = past types count (from + parts_within types p.kind) ps (omega (arith, over)) in grind (arith, common_steps, more)

-- a component that has more parts than are left
too_many : (types : List TypeForm) (count from : ℕ) (ps : List Part) (n : ℕ) (p : Part) → n < length ps → p ≡ get_or ps n p
    → count < from + parts_within types p.kind → parts_in_order types count from (map part_form (drop n ps)) ≡ false
too_many types count from ps n p inside there over =
    at_drop_more (λ qs. parts_in_order types count from (map part_form qs)) ps n p inside
    ∙ ap (λ q. parts_in_order types count from (map part_form (q ∷ drop (n + 1) ps))) (sym there)
    ∙ (let more = past types count (from + parts_within types p.kind) (map part_form (drop (n + 1) ps)) over in grind (arith, common_steps, more))

pub returns-in-None : goal.returns-in-None
returns-in-None c =
    sym (too_many (types_in c.args.types.now) c.args.count c.loop-part.from c.args.parts.now c.loop-part.part-index c.part-item.result
    c.loop-part-test.true c.part-item.is (let wide = c.in-None.ensures in omega (arith, c.parts_within.ensures, wide)))
    ∙ c.loop-part.invariant
