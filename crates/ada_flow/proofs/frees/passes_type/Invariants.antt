use Rattle.std.proofs.Common.{◌≡◌, map, drop}
use Rattle.ada_flow.specs.Flow.{passes_type}
use Rattle.ada_program.specs.Form.{component_number}
use Rattle.ada_program.specs.ProgramForm.{type_form, variable_form}
use Rattle.ada_program.specs.WellFormed.{variable_kind}
use Rattle.ada_flow.proofs.frees.passes_type.Given as goal

-- what is left of the path passes the type if all of it does
abbrev pub invariant-selectors : goal.invariant-selectors
invariant-selectors l =
    passes_type (map type_form l.types) l.kind (map component_number (drop l.component-index l.path.selectors.items)) l.access
    ≡ passes_type (map type_form l.types) (variable_kind (map variable_form l.variables) l.path.root.0) (map component_number l.path.selectors.items) l.access
