use Rattle.std.proofs.Common.{◌≡◌, drop}
use Rattle.ada_program.specs.Form.{links_form}
use Rattle.ada_program.specs.WellFormed as fits
use Rattle.ada_program.proofs.values.+before.Given as goal

-- what is left tells of all
abbrev pub invariant-links_before-links : goal.invariant-links_before-links
invariant-links_before-links l = fits.links_before l.number (links_form (drop l.link-index l.links)) ≡ fits.links_before l.number (links_form l.links)
