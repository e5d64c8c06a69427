use Rattle.std.proofs.Common.{◌≡◌, Some, length}
use Rattle.ada_values.specs.declared.value.Value.TheVariants as scalar
use Rattle.ada_program.specs.Form.{expression_form, links_form}
use Rattle.ada_interpreter.specs.AtOnce as rules
use Rattle.ada_interpreter.proofs.numbers.comparison_at_once.Given as goal

-- what is left gives of the number so far what all of it gives
abbrev pub invariant-links : goal.invariant-links
invariant-links l = rules.links_at_once l.places (Some (scalar.Integer l.left)) (links_form l.rest) ≡ rules.links_at_once l.places (rules.value_at_once l.places (expression_form l.first)) (links_form l.links)

abbrev pub decreases-links : goal.decreases-links
decreases-links l = length l.rest
