use Rattle.std.proofs.Common.{◌+◌, length, reverse, Contains, sym, subst, arith}
use Rattle.std.proofs.lemmas.List.{length-reverse}
use Rattle.pool_tiles.specs.Piled.{Pile}
use Rattle.pool_kinds.specs.Kinds.{down_from}
use Rattle.pool_kinds.specs.Marked.{MarkedPile, Marked}
use Rattle.pool_kinds.proofs.Marks.{length_down, one_more}
use Rattle.pool_kinds.proofs.mark_release.MarkReleasePool.allocate.Goals as goal
use Rattle.pool_kinds.proofs.mark_release.MarkReleasePool.allocate.Goals.{in-Some, in-None}

pub invariant_of-self : goal.invariant_of-self
invariant_of-self c = elim c.match-take.branch [
  | in-Some w ↦
      let marks = c.self.inside.marks.items in
      let is_open : Contains (down_from (length marks)) c.args.owner.0 = subst (λ (p : MarkedPile). Contains (down_from (length p.marks)) c.args.owner.0) (sym c.self.view_is) c.requires in
      let many = length_down (length marks) in let low = is_open.1 in
      let newest = c.if-owner-len.false in let len = c.len.ensures.value in let as_long = length-reverse marks in (
        c.self.invariant.0,
        subst (Marked (reverse marks)) (sym w.in-Some.ensures.blocks)
            (one_more (reverse marks) c.self.inside.words.blocks w.in-Some.place (c.args.words + 4) c.args.owner.0 (omega arith) (omega arith) c.self.invariant.1),
      )
  | in-None w ↦ (c.self.invariant.0, subst (λ (p : Pile). Marked (reverse c.self.inside.marks.items) p.blocks) (sym w.in-None.ensures.none.1) c.self.invariant.1)
]
