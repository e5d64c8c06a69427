use Rattle.std.proofs.Common.{◌≡◌, Some, drop}
use Rattle.ada_values.specs.declared.value.Value.TheVariants as scalar
use Rattle.ada_program.specs.Form.{links_form}
use Rattle.ada_interpreter.specs.AtOnce as rules
use Rattle.ada_interpreter.proofs.numbers.+numbers.Given as goal

-- what is left gives of the number so far what all of it gives
abbrev pub invariant-result_at_once-links : goal.invariant-result_at_once-links
invariant-result_at_once-links l = rules.links_at_once l.places (Some (scalar.Integer l.value)) (links_form (drop l.link-index l.links)) ≡ rules.links_at_once l.places (Some (scalar.Integer l.fn.left)) (links_form l.links)
