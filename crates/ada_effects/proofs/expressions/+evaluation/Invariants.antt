use Rattle.std.proofs.Common.{◌≡◌, drop}
use Rattle.ada_effects.specs.Effects.{links_raise}
use Rattle.ada_program.specs.Form.{links_form}
use Rattle.ada_effects.proofs.expressions.+evaluation.Given as goal

-- what is left tells of all
abbrev pub invariant-links_raise-links : goal.invariant-links_raise-links
invariant-links_raise-links l = links_raise (links_form (drop l.link-index l.links)) ≡ links_raise (links_form l.links)
