use Rattle.std.proofs.Common.{◌≡◌, map, drop}
use Rattle.ada_program.specs.Form.{path_form, component_number}
use Rattle.ada_program.specs.ProgramForm.{variable_form, type_form}
use Rattle.ada_program.specs.WellFormed.{selectors_kind, path_kind}
use Rattle.ada_program.proofs.lookup.path_kind.Given as goal

-- what is left of the path leads where all of it leads
abbrev pub invariant-selectors : goal.invariant-selectors
invariant-selectors l =
    selectors_kind (map type_form l.types) l.kind (map component_number (drop l.component-index l.path.selectors.items)) ≡ path_kind (map type_form l.types) (map variable_form l.variables) (path_form l.path)
