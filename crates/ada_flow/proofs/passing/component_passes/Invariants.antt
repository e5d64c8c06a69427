use Rattle.std.proofs.Common.{◌≡◌, map, drop}
use Rattle.ada_effects.specs.Found.{has_number}
use Rattle.ada_flow.specs.Flow.{passes_freed}
use Rattle.ada_program.specs.Form.{component_number}
use Rattle.ada_program.specs.ProgramForm.{type_form, variable_form}
use Rattle.ada_program.specs.WellFormed.{variable_kind}
use Rattle.ada_flow.proofs.passing.component_passes.Given as goal

-- what is left of the path follows such a value if all of it does
abbrev pub invariant-selectors : goal.invariant-selectors
invariant-selectors l =
    let types = map type_form l.types in
    let may = has_number l.freed in
    passes_freed types may l.kind (map component_number (drop l.component-index l.path.selectors.items))
    ≡ passes_freed types may (variable_kind (map variable_form l.variables) l.path.root.0) (map component_number l.path.selectors.items)
