use Rattle.std.proofs.Common.{ℕ, List, length, set, Some, ap, ◌∙◌}
use Rattle.std.proofs.lemmas.List.{length-set}
use Rattle.pool_region.specs.Places.{somes}
use Rattle.pool_region.proofs.Words.{full-map, set-map, somes-set}
use Rattle.pool_region.proofs.region.Region.set.Goals as goal

pub invariant_of-self : goal.invariant_of-self
invariant_of-self c =
    let cs = c.self.inside.cells.slots in let i = c.args.place in let is = c.write.ensures.1 in let kept = c.self.invariant in (
      c.write.ensures.0 ∙ kept.0,
      full-map c.write.new.self.slots (set (somes cs) i c.args.word) (is ∙ set-map cs i c.args.word kept.1),
      ap length is ∙ length-set cs i (Some c.args.word) ∙ kept.2,
      kept.3,
      kept.4,
      kept.5,
    )

pub returns : goal.returns
returns c =
    ap somes c.write.ensures.1 ∙ somes-set c.self.inside.cells.slots c.args.place c.args.word c.self.invariant.1
    ∙ ap (λ (ws : List ℕ). set ws c.args.place c.args.word) c.self.view_is
