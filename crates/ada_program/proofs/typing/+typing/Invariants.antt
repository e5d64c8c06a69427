use Rattle.std.proofs.Common.{◌≡◌, map, drop}
use Rattle.ada_program.specs.Form.{links_form}
use Rattle.ada_program.specs.ProgramForm.{variable_form, type_form}
use Rattle.ada_program.specs.WellFormed as fits
use Rattle.ada_program.proofs.typing.+typing.Given as goal

-- what is left tells of all
abbrev pub invariant-chain_type-links : goal.invariant-chain_type-links
invariant-chain_type-links l =
    fits.chain_type (map type_form l.types) (map variable_form l.variables) l.so_far (links_form (drop l.link-index l.links)) ≡ fits.chain_type (map type_form l.types) (map variable_form l.variables) l.fn.left (links_form l.links)
