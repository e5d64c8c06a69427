use Rattle.std.proofs.Common.{◌≡◌, Some, drop}
use Rattle.ada_program.specs.Form.{links_form}
use Rattle.ada_interpreter.specs.AtOnce as rules
use Rattle.ada_interpreter.proofs.at_once.+at_once.Given as goal

-- what is left gives of the value so far what all of it gives
abbrev pub invariant-links_at_once-links : goal.invariant-links_at_once-links
invariant-links_at_once-links l = rules.links_at_once l.places (Some l.value) (links_form (drop l.link-index l.links)) ≡ rules.links_at_once l.places (Some l.fn.left) (links_form l.links)
