use Rattle.std.proofs.Common.{◌∙◌, ℕ, reverse, subst, arith, Contains, ◌≢◌, length, sym, ◌≡◌}
use Rattle.std.proofs.lemmas.List.{length-reverse}
use Rattle.pool_tiles.specs.Piled.{OwnsFrom}
use Rattle.pool_kinds.specs.Marked.{Marked, MarkedPile}
use Rattle.pool_kinds.specs.Kinds.{down_from}
use Rattle.pool_kinds.proofs.Marks.{newest_first, newest_owns, down_has, down_range}
use Rattle.pool_kinds.proofs.mark_release.MarkReleasePool.close.Goals as goal

pub release-requires : goal.release-requires
release-requires c =
    let marks = c.self.inside.marks.items in let older = c.pop.new.self.items in
    let parts = newest_first marks older c.in-Some.mark c.in-Some.ensures.items in
    let owns = newest_owns c.in-Some.mark (reverse older) c.self.inside.words.blocks (subst (λ ms. Marked ms c.self.inside.words.blocks) parts c.self.invariant.1) in
    let newest = c.if-owner-len.true in let len = c.len.ensures.value in let one = c.in-Some.ensures.len in let as_long = length-reverse older in
    subst (λ (w : ℕ). OwnsFrom w c.in-Some.mark c.self.inside.words.blocks) (omega arith) owns

pub returns-in-Some-clause-still_open : goal.returns-in-Some-clause-still_open
returns-in-Some-clause-still_open c other away is_open =
    let k = length c.self.inside.marks.items in
    let low = down_range k other (subst (λ (p : MarkedPile). Contains (down_from (length p.marks)) other) (sym c.self.view_is) is_open) in
    let newest = c.if-owner-len.true in let len = c.len.ensures.value in let one = c.in-Some.ensures.len in
    let owner : k ≡ c.args.owner.0 = sym len ∙ sym newest in
    let less : other ≢ k = λ e. away (e ∙ owner) in
    down_has (length c.pop.new.self.items) other low.0 (omega (arith, low.1, less, one))
