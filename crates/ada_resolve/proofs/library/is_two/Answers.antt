use Rattle.std.proofs.Common.{◌∙◌, sym}
use Rattle.ada_resolve.proofs.Names.{spelled_then, spelled_else}
use Rattle.ada_resolve.proofs.library.is_two.Goals as goal

pub returns-then-eq : goal.returns-then-eq
returns-then-eq c = c.is_one.ensures ∙ sym (spelled_then _ _ _ _ _ c.in-Some.ensures.cases.0 (sym c.eq.ensures ∙ c.if-eq.true))

pub returns-else-eq : goal.returns-else-eq
returns-else-eq c = c.if-eq.false ∙ sym (spelled_else _ _ _ _ _ c.in-Some.ensures.cases.0 (sym c.eq.ensures ∙ c.if-eq.false))
