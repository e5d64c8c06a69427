use Rattle.std.proofs.Common.{◌∙◌, sym}
use Rattle.ada_resolve.specs.Library.{in_system}
use Rattle.ada_resolve.proofs.library.in_system.Goals as goal

pub returns-then-is_three : goal.returns-then-is_three
unfolding in_system
returns-then-is_three c = rw (sym c.is_two.ensures ∙ c.if-is_two.false, sym c.is_three.ensures ∙ c.if-is_three.true)

pub returns : goal.returns
unfolding in_system
returns c = rw (sym c.is_two.ensures ∙ c.if-is_two.false, sym c.is_three.ensures ∙ c.if-is_three.false)
