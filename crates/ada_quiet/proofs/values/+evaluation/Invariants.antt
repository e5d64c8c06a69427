use Rattle.std.proofs.Common.{◌≡◌, drop}
use Rattle.ada_program.specs.Form.{links_form}
use Rattle.ada_program.specs.Kept.{types_in, variables_in}
use Rattle.ada_quiet.specs.Quiet.{are_quiet_links}
use Rattle.ada_quiet.proofs.values.+evaluation.Given as goal

-- what is left tells of all
abbrev pub invariant-are_quiet_links-links : goal.invariant-are_quiet_links-links
invariant-are_quiet_links-links l =
    are_quiet_links (types_in l.types) (variables_in l.variables) (links_form (drop l.link-index l.links))
    ≡ are_quiet_links (types_in l.types) (variables_in l.variables) (links_form l.links)
