use Rattle.std.proofs.Common.{◌∙◌, sym}
use Rattle.ada_resolve.specs.Library.{other_in_ada}
use Rattle.ada_resolve.proofs.library.other_in_ada.Goals as goal

pub returns-then-is_two : goal.returns-then-is_two
unfolding other_in_ada
returns-then-is_two c = rw (sym c.is_one.ensures ∙ c.if-is_one.false, sym c.is_two.ensures ∙ c.if-is_two.true)

pub returns-then-is_two-2 : goal.returns-then-is_two-2
unfolding other_in_ada
returns-then-is_two-2 c =
    rw (sym c.is_one.ensures ∙ c.if-is_one.false, sym c.is_two.ensures ∙ c.if-is_two.false, sym c.is_two-2.ensures ∙ c.if-is_two-2.true)

pub returns-then-is_one-2 : goal.returns-then-is_one-2
unfolding other_in_ada
returns-then-is_one-2 c =
    rw (
      sym c.is_one.ensures ∙ c.if-is_one.false,
      sym c.is_two.ensures ∙ c.if-is_two.false,
      sym c.is_two-2.ensures ∙ c.if-is_two-2.false,
      sym c.is_one-2.ensures ∙ c.if-is_one-2.true,
    )

pub returns : goal.returns
unfolding other_in_ada
returns c =
    rw (
      sym c.is_one.ensures ∙ c.if-is_one.false,
      sym c.is_two.ensures ∙ c.if-is_two.false,
      sym c.is_two-2.ensures ∙ c.if-is_two-2.false,
      sym c.is_one-2.ensures ∙ c.if-is_one-2.false,
    )
